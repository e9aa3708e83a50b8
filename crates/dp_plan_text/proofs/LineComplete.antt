-- Each line that fits is read from its words.
use Rattle.std.proofs.Common.{◌≡◌, ℕ, ◌^◌, ◌<◌, ◌≤◌, Bool, true, false, nat_lt, nat_le, List, [], ◌∷◌, map, length, Option, Some, decimal, refl, ap, ◌∙◌, rules}
use Rattle.std.proofs.Common.{arith}
use Rattle.std.proofs.lemmas.Fmt.{decimal_digit}
use Rattle.dp_plan.specs.declared.StageKind.{StageKind}
use Rattle.dp_plan.specs.declared.StageKind.TheVariants.{Seq, Par}
use Rattle.dp_plan_text.specs.declared.line.Line.{Line}
use Rattle.dp_plan_text.specs.declared.line.Line.TheVariants as line
use Rattle.dp_plan.specs.Each.{Each, AscendAbove}
use Rattle.dp_plan_text.specs.PlanText.{kind_word, outcome_number, version_number, plan_words}
use Rattle.dp_plan.specs.PlanFits.{StageFits, AssumeFits}
use Rattle.dp_text.specs.Words.{small_number}
use Rattle.dp_plan_text.specs.steps.LineWords.{above, onto_sites, site_before, sites_above, stage_line, region_of, outcome, assume_of, line_of}
use Rattle.dp_text.proofs.NumberText.{number_of-decimal}
use Rattle.dp_text.proofs.JoinLemmas.{IsWord, AreWords, decimal_word}

-- the numbers of a line fit
abbrev pub LineFits : Line → Type 0
LineFits (line.Region r w) = (r < 2 ^ 32) × (16 ≤ w) × (w ≤ 4096)
LineFits (line.Stage stage) = StageFits stage
LineFits (line.Assume a) = AssumeFits a
LineFits _ = Unit {0}

above_some : (low n : ℕ) (o : Option ℕ) → o ≡ Some n → low < n → above low o ≡ Some n
above_some low n o e h = let t : nat_lt low n ≡ true = search rules in rw e (rw t refl)

pub sites-decimal : (low : ℕ) (sites : List ℕ) → AscendAbove low sites → sites_above low (map decimal sites) ≡ Some sites
sites-decimal low [] h = refl
sites-decimal low (site ∷ rest) h =
    ap (λ o. site_before o (λ s. sites_above s (map decimal rest))) (above_some low site (small_number (decimal site)) (number_of-decimal site h.1) h.0)
    ∙ ap (onto_sites site) (sites-decimal site rest h.2)

stage_full : (kind : StageKind) (sites : List ℕ) → 1 ≤ length sites → stage_line kind (Some sites) ≡ Some (line.Stage (record { kind = kind; sites = sites }))
stage_full kind [] h = absurd (omega (arith, h))
stage_full kind (site ∷ rest) h = refl

stage_by : (kind : StageKind) (sites : List ℕ) → line_of (kind_word kind ∷ map decimal sites) ≡ stage_line kind (sites_above 0 (map decimal sites))
unfolding line_of
stage_by Seq sites = refl
stage_by Par sites = refl

region_some : (r w : ℕ) → 16 ≤ w → w ≤ 4096 → region_of (Some r) (Some w) ≡ Some (line.Region r w)
region_some r w low high =
    let a : nat_le 16 w ≡ true = search rules in let b : nat_le w 4096 ≡ true = search rules in rw (a, b) refl

outcome_some : (taken : Bool) → outcome (small_number (decimal (outcome_number taken))) ≡ Some taken
outcome_some true = ap outcome (number_of-decimal 1 (omega arith))
outcome_some false = ap outcome (number_of-decimal 0 (omega arith))

pub line-words : (l : Line) → LineFits l → line_of (plan_words l) ≡ Some l
unfolding line_of
line-words (line.Head true) fits = rw (decimal_digit 2 (omega arith)) refl
line-words (line.Head false) fits = rw (decimal_digit 1 (omega arith)) refl
line-words (line.Region r w) fits =
    ap (λ o. region_of o (small_number (decimal w))) (number_of-decimal r fits.0)
    ∙ ap (region_of (Some r)) (number_of-decimal w (omega (arith, fits.2)))
    ∙ region_some r w fits.1 fits.2
line-words (line.Stage stage) fits =
    stage_by stage.kind stage.sites ∙ ap (stage_line stage.kind) (sites-decimal 0 stage.sites fits.1) ∙ stage_full stage.kind stage.sites fits.0
line-words (line.Assume a) fits =
    ap (λ o. assume_of o (outcome (small_number (decimal (outcome_number a.taken))))) (above_some 0 a.site.0 (small_number (decimal a.site.0))
    (number_of-decimal a.site.0 fits.1) fits.0)
    ∙ ap (assume_of (Some a.site.0)) (outcome_some a.taken)
line-words line.End fits = refl

-- ---- the words of the line's text

kind_is_word : (kind : StageKind) → IsWord (kind_word kind)
kind_is_word Seq = (refl, refl)
kind_is_word Par = (refl, refl)

sites_are_words : (low : ℕ) (sites : List ℕ) → AscendAbove low sites → Each IsWord (map decimal sites)
sites_are_words low [] h = tt
sites_are_words low (site ∷ rest) h = (decimal_word site (omega (arith, h.1)), sites_are_words site rest h.2)

outcome_is_word : (taken : Bool) → IsWord (decimal (outcome_number taken))
outcome_is_word true = decimal_word 1 (omega arith)
outcome_is_word false = decimal_word 0 (omega arith)

version_is_word : (proved : Bool) → IsWord (decimal (version_number proved))
version_is_word true = decimal_word 2 (omega arith)
version_is_word false = decimal_word 1 (omega arith)

pub are_words : (l : Line) → LineFits l → AreWords (plan_words l)
are_words (line.Head proved) fits = ((refl, refl), (version_is_word proved, tt))
are_words (line.Region r w) fits = ((refl, refl), (decimal_word r (omega (arith, fits.0)), ((refl, refl), (decimal_word w (omega (arith, fits.2)), tt))))
are_words (line.Stage stage) fits = (kind_is_word stage.kind, sites_are_words 0 stage.sites fits.1)
are_words (line.Assume a) fits = ((refl, refl), (decimal_word a.site.0 (omega (arith, fits.1)), (outcome_is_word a.taken, tt)))
are_words line.End fits = ((refl, refl), tt)
