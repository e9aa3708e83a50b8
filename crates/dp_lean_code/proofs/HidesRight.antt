-- A stage hides the cells that the definition says, by the homes of private variables.
use Rattle.dp_semantics.proofs.Names.{◌≡◌, refl, ap, ◌∙◌, ℕ, zero, suc, ◌+◌, ◌==◌, ◌&&◌, ◌||◌, if◌then◌else◌, Bool, true, false, List, length, map, list_any}
use Rattle.dp_semantics.proofs.Names.{Option, Some, None, Program, Plan, region_accesses, first_cell}
use Rattle.dp_tree.specs.Numbering.{numbers_from}
use Rattle.dp_net.specs.Hidden.{home, is_private, is_hidden_by, is_hidden}
use Rattle.dp_lean_code.specs.steps.Needs.{private_home}
use Rattle.dp_lean_code.specs.steps.Runs.{is_home}
unfoldable use Rattle.dp_lean_code.specs.steps.Runs.{hides_from}

module _ (p : Program) (plan : Plan) (homes : List (Option ℕ))
    (homes_are : homes ≡ map (private_home p plan (region_accesses p plan)) (numbers_from 0 (length p.vars))) where
  -- one variable
  hides_one : (t c x : ℕ) → (is_home t (private_home p plan (region_accesses p plan) x) && (first_cell p (record { 0 = x }) == c)) ≡ is_hidden_by p plan t c x
  hides_one t c x = by (is_private p plan x)
    where
      by : (private : Bool) → (is_home t (if private then Some (home p plan x) else None) && (first_cell p (record { 0 = x }) == c))
          ≡ (private && ((home p plan x == t) && (first_cell p (record { 0 = x }) == c)))
      by true = refl
      by false = refl

  hides_all : (t c k n : ℕ) → hides_from p plan t c k (map (private_home p plan (region_accesses p plan)) (numbers_from k n)) ≡ list_any
      (is_hidden_by p plan t c) (numbers_from k n)
  unfolding hides_from
  hides_all t c k zero = refl
  hides_all t c k (suc n) =
      ap (λ d. d || hides_from p plan t c (k + 1) (map (private_home p plan (region_accesses p plan)) (numbers_from (k + 1) n))) (hides_one t c k)
      ∙ ap (λ d. is_hidden_by p plan t c k || d) (hides_all t c (k + 1) n)

  pub hides_is : (t c : ℕ) → hides_from p plan t c 0 homes ≡ is_hidden p plan t c
  hides_is t c = ap (hides_from p plan t c 0) homes_are ∙ hides_all t c 0 (length p.vars)
