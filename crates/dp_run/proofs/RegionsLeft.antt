-- What the part at the head says of the regions that are left.
use Rattle.std.proofs.Common.{◌≡◌, ◌≢◌, refl, sym, ap, ◌∙◌, ℕ, Bool, true, false, not, if◌then◌else◌, List, [], ◌∷◌, drop, Option, Some, None}
use Rattle.std.specs.List.{cons_option}
use Rattle.dp_tree.specs.declared.Stmt.{Stmt, out-Stmt}
use Rattle.dp_tree.specs.declared.Stmt.TheOpen.{Stmt-F, Region}
use Rattle.dp_tree.specs.Step.{Config}
use Rattle.dp_tree.specs.Iteration.{stands_at_head}
use Rattle.dp_meaning.specs.declared.ends.Part.{Part}
use Rattle.dp_meaning.specs.declared.ends.Part.TheVariants as part
use Rattle.dp_meaning.specs.MachineState.{part_from, part_of, is_any_region, from_region}
use Rattle.dp_commit.proofs.Parts.{head_part}
use Rattle.dp_tree.specs.Step.{region_number}
use Rattle.dp_run.specs.Regions.{number_of_region, regions_left}
pub use Rattle.dp_meaning.proofs.WatchedLemmas.{part_finished as nothing_left}
pub use Rattle.dp_meaning.proofs.NextLemmas.{on_region}

pub left_cons : (s : Stmt) (rest : List Stmt) (o : Option ℕ) → number_of_region s ≡ o → regions_left (s ∷ rest) ≡ cons_option o (regions_left rest)
left_cons s rest o e = ap (λ (x : Option ℕ). cons_option x (regions_left rest)) e

unmarked : (h : Stmt-F Stmt) → is_any_region h ≡ false → region_number h ≡ None
unmarked (Region q site cond body) e = absurd (cc)
unmarked _ e = refl

-- They stand behind the first of them.
pub left_from_region : (xs : List Stmt) → regions_left (from_region xs) ≡ regions_left xs
left_from_region [] = refl
left_from_region (s ∷ rest) = by (is_any_region (out-Stmt s)) refl (left_from_region rest)
  where
    by : (b : Bool) → is_any_region (out-Stmt s) ≡ b → regions_left (from_region rest) ≡ regions_left rest →
        regions_left (if b then s ∷ rest else from_region rest) ≡ regions_left (s ∷ rest)
    by true e go = refl
    by false e go = go ∙ sym (left_cons s rest None (unmarked (out-Stmt s) e))

number_at : (h : Stmt-F Stmt) (q : ℕ) → part_from h ≡ part.Region q → region_number h ≡ Some q
number_at (Region n site cond body) q e = let same : n ≡ q = cc in ap Some same
number_at _ q e = absurd (cc)

-- A region at the head is the first of them.
pub left_at_region : (q : ℕ) (xs : List Stmt) → part_of xs ≡ part.Region q → regions_left xs ≡ q ∷ regions_left (drop 1 xs)
left_at_region q [] e = absurd (cc)
left_at_region q (s ∷ rest) e = left_cons s rest (Some q) (number_at (out-Stmt s) q e)

pub left_finished : (xs : List Stmt) → part_of xs ≡ part.Finished → regions_left xs ≡ []
left_finished xs e = ap regions_left (nothing_left xs e)

-- what comes where no plain statement does
pub data Next (xs : List Stmt) : Type 0 where
  region : (q : ℕ) → part_of xs ≡ part.Region q → Next xs
  nothing : part_of xs ≡ part.Finished → Next xs

pub next_of : (xs : List Stmt) → part_of xs ≢ part.Plain → Next xs
next_of xs off = by (part_of xs) refl
  where
    by : (q : Part) → part_of xs ≡ q → Next xs
    by (part.Region q) e = region q e
    by part.Plain e = absurd (off e)
    by part.Finished e = nothing e

-- a region isn't at the head of a plain part, nor where nothing is left
pub off_plain : (r : ℕ) (c : Config) → part_of c.to_do ≡ part.Plain → not (stands_at_head r c) ≡ true
off_plain r c e = ap not (head_part r c part.Plain e)

pub off_finished : (r : ℕ) (c : Config) → part_of c.to_do ≡ part.Finished → not (stands_at_head r c) ≡ true
off_finished r c e = ap not (head_part r c part.Finished e)
