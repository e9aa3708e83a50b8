-- Names of a lawful text: what they mean where they are visible.
use Rattle.std.proofs.Common.{◌≡◌, refl, sym, ap, ◌∙◌, ℕ, ◌+◌, ◌≤◌, ◌==◌, Bool, true, false, not, ◌||◌, if◌then◌else◌, List, [], ◌∷◌, ◌++◌, length, Option}
use Rattle.std.proofs.Common.{Some, None, slice_get, nat_lt, arith}
use Rattle.std.proofs.lemmas.Bool.Decides.{nat_tests}
use Rattle.std.specs.List.{list_all}
use Rattle.std.specs.Option.{option_or}
use Rattle.dp_tree.specs.declared.Program.{Program}
use Rattle.dp_tree.specs.declared.raw.Name.{Name}
use Rattle.dp_tree.specs.Functions.{params_in}
use Rattle.dp_tree.specs.Scoping.{sees}
use Rattle.dp_check.specs.declared.fail.CheckFail.{CheckFail}
use Rattle.dp_check.specs.declared.names.Meaning.{Meaning}
use Rattle.dp_check.specs.declared.names.Meaning.TheVariants.{Scalar, Array, Function}
use Rattle.dp_check.specs.declared.place.Place.{Place}
use Rattle.dp_check.specs.Offence.{Token, Assigns, AssignsElement, Calls, offence, offence_of, first_offence}
use Rattle.dp_check.specs.Place.{TextPart, local_count, place_passed, with_scalar}
use Rattle.dp_check.specs.Resolved.{variable_of, function_of, next_variable}
use Rattle.dp_check.proofs.AnswerLemmas.{first_offence-append}
use Rattle.dp_check.proofs.BoolLemmas.{both_true, halves, all_weaker}
use Rattle.dp_check.proofs.KnownLemmas.{is_known_if, all_known, sees_first, known_more, known_append}

neither : (o q : Option CheckFail) → option_or o q ≡ None → (o ≡ None) × (q ≡ None)
neither None q e = (refl, e)
neither (Some f) q e = absurd (cc)

-- a part of a lawful text is lawful
pub lawful_parts : (a b : List Token) → first_offence (a ++ b) ≡ None → (first_offence a ≡ None) × (first_offence b ≡ None)
lawful_parts a b h = neither (first_offence a) (first_offence b) (sym (first_offence-append a b) ∙ h)

pub lawful_first : (t : Token) (rest : List Token) → first_offence (t ∷ rest) ≡ None → (offence t ≡ None) × (first_offence rest ≡ None)
lawful_first t rest h = neither (offence t) (first_offence rest) h

-- At a place: its names are known, and the variables that are visible have numbers below the next one.
pub record At (p : Program) (n : ℕ) (visible : List ℕ) (q : Place) : Type 0 where
  pub known : all_known p n visible q.names ≡ true
  pub below : list_all (λ y. nat_lt y q.variable) visible ≡ true

less_still : (v w : ℕ) → v ≤ w → (y : ℕ) → nat_lt y v ≡ true → nat_lt y w ≡ true
less_still v w h y e = grind (arith, nat_tests)

pub below_still : (v w : ℕ) → v ≤ w → (visible : List ℕ) → list_all (λ y. nat_lt y v) visible ≡ true → list_all (λ y. nat_lt y w) visible ≡ true
below_still v w h visible = all_weaker (λ y. nat_lt y v) (λ y. nat_lt y w) (less_still v w h) visible

pub unseen : (v : ℕ) (visible : List ℕ) → list_all (λ y. nat_lt y v) visible ≡ true → sees visible (record { 0 = v }) ≡ false
unseen v [] h = refl
unseen v (y ∷ visible) h =
    let k = halves (nat_lt y v) (list_all (λ y. nat_lt y v) visible) h in
    let other : (y == v) ≡ false = differs k.0 in ap (λ b. b || sees visible (record { 0 = v })) other ∙ unseen v visible k.1
  where
    differs : nat_lt y v ≡ true → (y == v) ≡ false
    differs e = grind (arith, nat_tests)

module _ {p : Program} {n : ℕ} {visible : List ℕ} {q : Place} where
  pub at_passed : (ps : List TextPart) → At p n visible q → At p n visible (place_passed q ps)
  at_passed ps here = record { known = here.known; below = below_still q.variable (q.variable + local_count ps) (omega arith) visible here.below }

  -- behind a declaration its variable is visible, too
  pub at_declared : (name : Name) → At p n visible q → At p n (q.variable ∷ visible) (with_scalar q name)
  at_declared name here = record {
    known = known_append p n (q.variable ∷ visible) q.names name.text (Scalar (next_variable q))
        (all_weaker _ _ (λ e. known_more p n visible q.variable e.meaning) q.names here.known) (sees_first visible (next_variable q));
    below = both_true (next_above q.variable) (below_still q.variable (q.variable + 1) (omega arith) visible here.below);
  }
    where
      next_above : (v : ℕ) → nat_lt v (v + 1) ≡ true
      next_above v = grind (arith, nat_tests)

-- ---- what a lawful name means

module _ (p : Program) (n : ℕ) (visible : List ℕ) (line : ℕ) where
  pub assigned : (m : Option Meaning) → is_known_if p n visible m ≡ true → offence_of line Assigns m ≡ None → sees visible (variable_of m) ≡ true
  assigned (Some (Scalar x)) h lawful = h
  assigned _ h lawful = absurd (cc)

  pub stored : (m : Option Meaning) → is_known_if p n visible m ≡ true → offence_of line AssignsElement m ≡ None → sees visible (variable_of m) ≡ true
  stored (Some (Array x)) h lawful = h
  stored _ h lawful = absurd (cc)

  pub called : (m : Option Meaning) (count : ℕ) → is_known_if p n visible m ≡ true → offence_of line (Calls count) m ≡ None
      → (nat_lt (function_of m) n ≡ true) × ((count == length (params_in (slice_get p.functions (function_of m)))) ≡ true)
  called (Some (Function f k)) count h lawful =
      let e = halves (nat_lt f n) (k == length (params_in (slice_get p.functions f))) h in
      (e.0, same (length (params_in (slice_get p.functions f))) e.1 (by (k == count) lawful))
    where
      by : (b : Bool) → (if not b then Some (Rattle.dp_check.specs.declared.fail.CheckFail.TheVariants.Arguments line) else None) ≡ None → b ≡ true
      by true g = refl
      by false g = absurd (cc)

      same : (c : ℕ) → (k == c) ≡ true → (k == count) ≡ true → (count == c) ≡ true
      same c a b = grind (arith, nat_tests)
  called _ count h lawful = absurd (cc)
