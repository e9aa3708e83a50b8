-- The text of plans: its lines in order, the words of each, and what the numbers have to be.
use Rattle.std.specs.Prelude.{◌≡◌, ℕ, Bool, true, false, List, [], ◌∷◌, ◌++◌, map, length, codes, decimal}
use Rattle.std.specs.List.{flat_map}
use Rattle.dp_text.specs.Lines.{lines_of}
use Rattle.dp_text.specs.Words.{joined_words}
use Rattle.dp_tree.specs.declared.Program.{Program}
use Rattle.dp_tree.specs.Numbering.{numbers_from}
use Rattle.dp_plan.specs.declared.StageKind.{StageKind}
use Rattle.dp_plan.specs.declared.StageKind.TheVariants.{Seq, Par}
use Rattle.dp_plan_text.specs.declared.line.Line.{Line}
use Rattle.dp_plan_text.specs.declared.line.Line.TheVariants as line
use Rattle.dp_plan.specs.declared.WrittenPlan.{WrittenPlan}
use Rattle.dp_plan.specs.Each.{Each}
use Rattle.dp_plan.specs.PlanFits.{PlanFits}

abbrev pub kind_word : StageKind → List ℕ
kind_word Seq = codes "seq"
kind_word Par = codes "par"

-- 1 for an outcome other than 0
abbrev pub outcome_number : Bool → ℕ
outcome_number true = 1
outcome_number false = 0

-- the version of a text whose plans have proved independence, and of one whose plans haven't
abbrev pub version_number : Bool → ℕ
version_number true = 2
version_number false = 1

-- the words of a line; numbers are decimal, without a sign or leading zeros
abbrev pub plan_words : Line → List (List ℕ)
plan_words (line.Head proved) = codes "plan" ∷ decimal (version_number proved) ∷ []
plan_words (line.Region r w) = codes "region" ∷ decimal r ∷ codes "words" ∷ decimal w ∷ []
plan_words (line.Stage stage) = kind_word stage.kind ∷ map decimal stage.sites
plan_words (line.Assume a) = codes "assume" ∷ decimal a.site.0 ∷ decimal (outcome_number a.taken) ∷ []
plan_words line.End = codes "end" ∷ []

-- the line's bytes: its words with single spaces between, and LF
abbrev pub plan_line_bytes : Line → List ℕ
plan_line_bytes l = joined_words (plan_words l) ++ 10 ∷ []

-- the lines of a region: the first, one for each stage in order, and one for each assumption as they stand
abbrev pub region_lines : WrittenPlan → List Line
region_lines w = line.Region w.region w.words ∷ (map line.Stage w.stages ++ map line.Assume w.assume)

-- the lines of a text: the first, which names the version, those of the regions, and the last
abbrev pub plan_lines : Bool → List WrittenPlan → List Line
plan_lines proved plans = line.Head proved ∷ (flat_map region_lines plans ++ line.End ∷ [])

abbrev pub written_region : WrittenPlan → ℕ
written_region w = w.region

-- the lines are those of these plans, one for each region of the program in order, in the version with proved independence or in the one without
pub record PlanLines (p : Program) (lines : List (List ℕ)) (proved : Bool) (plans : List WrittenPlan) : Type 0 where
  pub lines_are : lines ≡ map plan_line_bytes (plan_lines proved plans)
  pub regions : map written_region plans ≡ numbers_from 1 (length p.regions)
  pub fit : Each PlanFits plans

-- the text is that of these plans
abbrev pub PlanText : Program → List ℕ → Bool → List WrittenPlan → Type 0
PlanText p bytes proved plans = PlanLines p (lines_of bytes) proved plans
