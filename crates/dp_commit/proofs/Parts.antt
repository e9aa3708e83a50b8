-- What comes next, and whether a region stands at the head.
use Rattle.std.proofs.Common.{◌≡◌, ap, ◌∙◌, ℕ, Bool, true, false, not, List, All}
use Rattle.std.proofs.lemmas.List.Elements.{All-weaker}
use Rattle.std.proofs.lemmas.List.Sums.{list_all-from_AllPass}
use Rattle.std.specs.List.{list_all}
use Rattle.dp_tree.specs.Step.{Config}
use Rattle.dp_tree.specs.Iteration.{stands_at_head}
use Rattle.dp_meaning.specs.declared.ends.Part.{Part}
use Rattle.dp_meaning.specs.declared.ends.Part.TheVariants as part
use Rattle.dp_meaning.specs.MachineState.{part_of}
pub use Rattle.dp_meaning.proofs.NextLemmas.{on_region, run_begins}
use Rattle.dp_meaning.proofs.NextLemmas.{part_is, head_is}

pub head_part : (r : ℕ) (c : Config) (q : Part) → part_of c.to_do ≡ q → stands_at_head r c ≡ part_is r q
head_part r c q e = head_is r c.to_do ∙ ap (part_is r) e

pub off_plain : (r : ℕ) (c : Config) → part_of c.to_do ≡ part.Plain → stands_at_head r c ≡ false
off_plain r c e = head_is r c.to_do ∙ ap (part_is r) e

-- the region's condition isn't the next evaluation
abbrev pub is_off : ℕ → Config → Bool
is_off r c = not (stands_at_head r c)

pub never_plain : (r : ℕ) (configs : List Config) → All (λ c. part_of c.to_do ≡ part.Plain) configs → list_all (is_off r) configs ≡ true
never_plain r configs h = list_all-from_AllPass (is_off r) configs (All-weaker (λ c. part_of c.to_do ≡ part.Plain) (λ c. is_off r c ≡ true)
    (λ c e. ap not (off_plain r c e)) configs h)
