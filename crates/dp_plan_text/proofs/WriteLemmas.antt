-- The lines of a text, part by part.
use Rattle.std.proofs.Common.{◌≡◌, ℕ, suc, ◌+◌, List, [], ◌∷◌, ◌++◌, map, codes, decimal, refl, sym, ap, ◌∙◌, append_assoc, append-nil, arith, Bool}
use Rattle.std.specs.List.{flat_map}
use Rattle.std.proofs.lemmas.Grind.{flat_map-append}
use Rattle.dp_text.specs.Labels.{labelled, spaced}
use Rattle.dp_tree.specs.declared.Assume.{Assume}
use Rattle.dp_tree.specs.declared.Program.{Program}
use Rattle.dp_plan.specs.declared.StageKind.{StageKind}
use Rattle.dp_plan.specs.declared.Plan.{Plan}
use Rattle.dp_plan_text.specs.declared.line.Line.TheVariants as line
use Rattle.dp_plan.specs.Written.{region_sites, lines_from, written_of}
use Rattle.dp_plan.specs.declared.WrittenStage.{WrittenStage}
use Rattle.dp_plan_text.specs.PlanText.{kind_word, outcome_number, version_number, plan_line_bytes, region_lines}
use Rattle.dp_text.specs.Words.{joined_words}
use Rattle.dp_plan_text.specs.WrittenText.{plans_text, plan_line_text, plan_text, plan_texts, written_stage_at, stage_texts, assume_texts}
use Rattle.dp_plan.specs.GivenPlans.{plans_version}

pub region_line : (r w : ℕ) → codes "region " ++ (decimal r ++ (codes " words " ++ (decimal w ++ 10 ∷ []))) ≡ plan_line_text (line.Region r w)
unfolding plan_line_text
region_line r w = ap (λ (l : List ℕ). codes "region " ++ l) (sym (append_assoc (decimal r) (codes " words " ++ decimal w) (10 ∷ [])))

pub head_line : (v : Bool) → codes "plan " ++ (decimal (version_number v) ++ 10 ∷ []) ≡ plan_line_text (line.Head v)
unfolding plan_line_text
head_line v = refl

pub assume_line : (a : Assume) → codes "assume " ++ (decimal a.site.0 ++ (codes " " ++ (decimal (outcome_number a.taken) ++ 10 ∷ [])))
    ≡ plan_line_text (line.Assume a)
unfolding plan_line_text
assume_line a = ap (λ (l : List ℕ). codes "assume " ++ l) (sym (append_assoc (decimal a.site.0) (codes " " ++ decimal (outcome_number a.taken)) (10 ∷ [])))

joined_spaced : (word : List ℕ) (sites : List ℕ) → joined_words (word ∷ map decimal sites) ≡ word ++ spaced sites
unfolding labelled
joined_spaced word [] = sym (append-nil word)
joined_spaced word (site ∷ rest) = ap (λ (l : List ℕ). word ++ (32 ∷ l)) (joined_spaced (decimal site) rest)

pub stage_line : (stage : WrittenStage) → kind_word stage.kind ++ (spaced stage.sites ++ 10 ∷ []) ≡ plan_line_text (line.Stage stage)
unfolding plan_line_text
stage_line stage = sym (append_assoc (kind_word stage.kind) (spaced stage.sites) (10 ∷ []))
    ∙ ap (λ (l : List ℕ). l ++ 10 ∷ []) (sym (joined_spaced (kind_word stage.kind) stage.sites))

-- ---- the lines of a plan

stages_are : (p : Program) (plan : Plan) (k : ℕ) (kinds : List StageKind)
    → stage_texts p plan (region_sites p plan.region) k kinds ≡ flat_map plan_line_bytes (map line.Stage (lines_from p plan k kinds))
unfolding plan_line_text
stages_are p plan k [] = refl
stages_are p plan k (kind ∷ rest) =
    let up : k + 1 ≡ suc k = omega arith in let sites = region_sites p plan.region in
    ap (λ (n : ℕ). plan_line_text (line.Stage (written_stage_at p plan sites k kind)) ++ stage_texts p plan sites n rest) up
    ∙ ap (λ (l : List ℕ). plan_line_text (line.Stage (written_stage_at p plan sites k kind)) ++ l) (stages_are p plan (suc k) rest)

assumed_are : (assumed : List Assume) → assume_texts assumed ≡ flat_map plan_line_bytes (map line.Assume assumed)
unfolding plan_line_text
assumed_are [] = refl
assumed_are (a ∷ rest) = ap (λ (l : List ℕ). plan_line_bytes (line.Assume a) ++ l) (assumed_are rest)

-- a plan's text is its region's line, those of its stages, and those of its assumptions
pub plan_parts : (p : Program) (plan : Plan)
    → plan_line_text (line.Region plan.region plan.words) ++ (stage_texts p plan (region_sites p plan.region) 1 plan.stages
    ++ assume_texts plan.assume) ≡ plan_text p plan
unfolding plan_text plan_line_text
plan_parts p plan =
    let w = written_of p plan in
    ap (λ (l : List ℕ). plan_line_bytes (line.Region plan.region plan.words) ++ l)
    (ap (λ (l : List ℕ). l ++ assume_texts plan.assume) (stages_are p plan 1 plan.stages)
    ∙ ap (λ (l : List ℕ). flat_map plan_line_bytes (map line.Stage w.stages) ++ l) (assumed_are plan.assume)
    ∙ sym (flat_map-append plan_line_bytes (map line.Stage w.stages) (map line.Assume plan.assume)))

-- ---- the text of all plans

texts_are : (p : Program) (plans : List Plan) → plan_texts p plans ≡ flat_map plan_line_bytes (flat_map region_lines (map (written_of p) plans))
unfolding plan_text
texts_are p [] = refl
texts_are p (plan ∷ rest) =
    ap (λ (l : List ℕ). flat_map plan_line_bytes (region_lines (written_of p plan)) ++ l) (texts_are p rest)
    ∙ sym (flat_map-append plan_line_bytes (region_lines (written_of p plan)) (flat_map region_lines (map (written_of p) rest)))

pub text_parts : (p : Program) (plans : List Plan) → plan_line_text (line.Head (plans_version plans)) ++ (plan_texts p plans ++ codes "end\n")
    ≡ plans_text p plans
unfolding plan_line_text
text_parts p plans =
    let lines = flat_map region_lines (map (written_of p) plans) in
    let head = plan_line_bytes (line.Head (plans_version plans)) in
    ap (λ (l : List ℕ). plan_line_bytes (line.Head (plans_version plans)) ++ (l ++ codes "end\n")) (texts_are p plans)
    ∙ ap (λ (l : List ℕ). plan_line_bytes (line.Head (plans_version plans)) ++ l) (sym (flat_map-append plan_line_bytes lines (line.End ∷ [])))
