-- Each line that fits is read from its words.
use Rattle.std.proofs.Common.{◌≡◌, ℕ, ◌<◌, ◌≤◌, Bool, true, false, nat_lt, nat_le, Option, Some, decimal, refl, ap, ◌∙◌, rules, arith}
use Rattle.dp_text.specs.Words.{small_number}
use Rattle.dp_text.proofs.JoinLemmas.{IsWord, AreWords, decimal_word}
use Rattle.dp_text.proofs.NumberText.{number-decimal, number_of-decimal}
use Rattle.dp_profile.specs.declared.SiteCount.{SiteCount}
use Rattle.dp_profile.specs.declared.Flow.{Flow}
use Rattle.dp_profile_text.specs.declared.line.Line.{Line}
use Rattle.dp_profile_text.specs.declared.line.Line.TheVariants as line
use Rattle.dp_profile.specs.ProfileFits.{most_count}
use Rattle.dp_profile.proofs.KnownSites.{top}
use Rattle.dp_profile_text.specs.ProfileText.{flow_word, profile_words}
use Rattle.dp_profile_text.specs.steps.LineWords.{count, kind, region_of, runs_of, flow_of, line_of}

-- the numbers of a line fit
abbrev pub LineFits : Line → Type 0
LineFits line.Head = Unit {0}
LineFits (line.Region r) = r ≤ top
LineFits (line.Runs site c) = (site.0 ≤ top) × (c.runs ≤ most_count) × (c.nonzero ≤ c.runs)
LineFits (line.Flow f) = (f.from.0 ≤ top) × (f.to.0 ≤ top) × (0 < f.shown) × (f.shown ≤ most_count)
LineFits line.End = Unit {0}

pub count-decimal : (n : ℕ) → n ≤ most_count → count (decimal n) ≡ Some n
count-decimal n h = number-decimal most_count (omega arith) n h

runs_some : (site : ℕ) (c : SiteCount) → c.nonzero ≤ c.runs → runs_of (Some site) (Some c.runs) (Some c.nonzero) ≡ Some (line.Runs (record { 0 = site }) c)
runs_some site c h = let t : nat_le c.nonzero c.runs ≡ true = search rules in rw t refl

kind_some : (carried : Bool) → kind (flow_word carried) ≡ Some carried
kind_some true = refl
kind_some false = refl

flow_some : (f : Flow) → 0 < f.shown → flow_of (Some f.from.0) (Some f.to.0) (Some f.carried) (Some f.shown) ≡ Some (line.Flow f)
flow_some f h = let t : nat_lt 0 f.shown ≡ true = search rules in rw t refl

pub line-words : (l : Line) → LineFits l → line_of (profile_words l) ≡ Some l
unfolding line_of
line-words line.Head fits = refl
line-words (line.Region r) fits = ap region_of (number_of-decimal r (omega (arith, fits)))
line-words (line.Runs site c) fits =
    ap (λ (o : Option ℕ). runs_of o (count (decimal c.runs)) (count (decimal c.nonzero))) (number_of-decimal site.0 (omega (arith, fits.0)))
    ∙ ap (λ (o : Option ℕ). runs_of (Some site.0) o (count (decimal c.nonzero))) (count-decimal c.runs fits.1)
    ∙ ap (λ (o : Option ℕ). runs_of (Some site.0) (Some c.runs) o) (count-decimal c.nonzero (omega (arith, fits.1, fits.2)))
    ∙ runs_some site.0 c fits.2
line-words (line.Flow f) fits =
    ap (λ (o : Option ℕ). flow_of o (small_number (decimal f.to.0)) (kind (flow_word f.carried)) (count (decimal f.shown)))
    (number_of-decimal f.from.0 (omega (arith, fits.0)))
    ∙ ap (λ (o : Option ℕ). flow_of (Some f.from.0) o (kind (flow_word f.carried)) (count (decimal f.shown))) (number_of-decimal f.to.0 (omega (arith, fits.1)))
    ∙ ap (λ (o : Option Bool). flow_of (Some f.from.0) (Some f.to.0) o (count (decimal f.shown))) (kind_some f.carried)
    ∙ ap (λ (o : Option ℕ). flow_of (Some f.from.0) (Some f.to.0) (Some f.carried) o) (count-decimal f.shown fits.3)
    ∙ flow_some f fits.2
line-words line.End fits = refl

-- ---- the words of the line's text

kind_is_word : (carried : Bool) → IsWord (flow_word carried)
kind_is_word true = (refl, refl)
kind_is_word false = (refl, refl)

pub are_words : (l : Line) → LineFits l → AreWords (profile_words l)
are_words line.Head fits = ((refl, refl), ((refl, refl), tt))
are_words (line.Region r) fits = ((refl, refl), (decimal_word r (omega (arith, fits)), tt))
are_words (line.Runs site c) fits = (
  (refl, refl),
  (
    decimal_word site.0 (omega (arith, fits.0)),
    (
      decimal_word c.runs (omega (arith, fits.1)),
      (
        decimal_word c.nonzero (omega
            (arith, fits.1, fits.2)),
        tt,
      ),
    ),
  ),
)
are_words (line.Flow f) fits = (
  (refl, refl),
  (
    decimal_word f.from.0 (omega
        (arith, fits.0)),
    (decimal_word f.to.0 (omega (arith, fits.1)), (kind_is_word f.carried, (decimal_word f.shown (omega (arith, fits.3)), tt))),
  ),
)
are_words line.End fits = ((refl, refl), tt)
