-- What is so of the texts of a checked program: of `main` and of each function.
use Rattle.std.proofs.Common.{◌≡◌, refl, ap, ◌∙◌, subst, ℕ, zero, suc, ◌+◌, ◌-◌, ◌<◌, ◌≤◌, true, List, [], ◌∷◌, ◌++◌, length, Option, Some, slice_get, arith}
use Rattle.std.proofs.Common.{lt-ltb}
use Rattle.std.specs.List.{list_all, flat_map}
use Rattle.dp_tree.specs.declared.Function.{Function}
use Rattle.dp_tree.specs.declared.Program.{Program}
use Rattle.dp_tree.specs.Checked.{IsChecked, is_plain_function}
use Rattle.dp_tree.specs.Functions.{body_in, params_in}
use Rattle.dp_tree.specs.Numbering.{is_plain, site_numbers_all, numbers_from}
use Rattle.dp_tree.specs.Scoping.{all_in_scope, params_in_scope, seen_behind_params, global_numbers, function_in_scope, functions_in_scope}
use Rattle.dp_tree.proofs.Heads.{and_true, and_make}
use Rattle.dp_calls.proofs.Made.{is_listed}
use Rattle.dp_calls.proofs.Pieces.{all_parts}

-- what is so of function f, there or not
pub record TextOf (p : Program) (f : ℕ) (o : Option Function) : Type 0 where
  pub params : params_in_scope p (global_numbers p) (params_in o) ≡ true
  pub scoped : all_in_scope p 0 f (seen_behind_params (global_numbers p) (params_in o)) (body_in o) ≡ true
  pub plain : list_all is_plain (body_in o) ≡ true
  pub listed : list_all (is_listed p) (site_numbers_all (body_in o)) ≡ true

listed_from : (p : Program) (first n : ℕ) → first + n ≤ suc (length p.sites) → 0 < first → list_all (is_listed p) (numbers_from first n) ≡ true
listed_from p first zero within some = refl
listed_from p first (suc n) within some =
    let less : first - 1 < length p.sites = omega (arith, within, some) in
    let rest : first + 1 + n ≤ suc (length p.sites) = omega (arith, within) in
    and_make (is_listed p first) (list_all (is_listed p) (numbers_from (first + 1) n)) (lt-ltb (first - 1) (length p.sites) less)
    (listed_from p (first + 1) n rest (omega arith))

abbrev pub numbers_in_functions : List Function → List ℕ
numbers_in_functions fs = flat_map (λ (f : Function). site_numbers_all f.body) fs

module _ (p : Program) where
  text_at : (k : ℕ) (fs : List Function) → functions_in_scope p k fs ≡ true → list_all is_plain_function fs ≡ true →
      list_all (is_listed p) (numbers_in_functions fs) ≡ true → (j : ℕ) → TextOf p (k + j) (slice_get fs j)
  text_at k [] scoped plain listed j = record { params = refl; scoped = refl; plain = refl; listed = refl }
  text_at k (f ∷ fs) scoped plain listed j =
      let both = and_true (function_in_scope p k f) (functions_in_scope p (suc k) fs) scoped in
      let here = and_true (params_in_scope p (global_numbers p) f.params) (all_in_scope p 0 k (seen_behind_params (global_numbers p) f.params) f.body) both.0 in
      let plainly = and_true (is_plain_function f) (list_all is_plain_function fs) plain in
      let parts = all_parts (is_listed p) (site_numbers_all f.body) (numbers_in_functions fs) listed in
      let head : TextOf p k (Some f) = record { params = here.0; scoped = here.1; plain = plainly.0; listed = parts.0 } in
      by j head (λ i. text_at (suc k) fs both.1 plainly.1 parts.1 i)
    where
      by : (j : ℕ) → TextOf p k (Some f) → ((i : ℕ) → TextOf p (suc k + i) (slice_get fs i)) → TextOf p (k + j) (slice_get (f ∷ fs) j)
      by zero head rest = let same : k ≡ k + 0 = omega arith in subst (λ (n : ℕ). TextOf p n (Some f)) same head
      by (suc i) head rest = let same : suc k + i ≡ k + suc i = omega arith in subst (λ (n : ℕ). TextOf p n (slice_get fs i)) same (rest i)

  module _ (checked : IsChecked p) where
    all_listed : list_all (is_listed p) (site_numbers_all p.main ++ numbers_in_functions p.functions) ≡ true
    all_listed = ap (λ (ns : List ℕ). list_all (is_listed p) ns) checked.sites ∙ listed_from p 1 (length p.sites) (omega arith) (omega arith)

    pub main_listed : list_all (is_listed p) (site_numbers_all p.main) ≡ true
    main_listed = (all_parts (is_listed p) (site_numbers_all p.main) (numbers_in_functions p.functions) all_listed).0

    pub scoped_both : (functions_in_scope p 0 p.functions ≡ true) × (all_in_scope p 0 (length p.functions) (global_numbers p) p.main ≡ true)
    scoped_both = and_true (functions_in_scope p 0 p.functions) (all_in_scope p 0 (length p.functions) (global_numbers p) p.main) checked.scoped

    pub main_scoped : all_in_scope p 0 (length p.functions) (global_numbers p) p.main ≡ true
    main_scoped = scoped_both.1

    pub text_of : (f : ℕ) → TextOf p f (slice_get p.functions f)
    text_of f =
        let same : 0 + f ≡ f = omega arith in
        subst (λ (n : ℕ). TextOf p n (slice_get p.functions f)) same
        (text_at 0 p.functions scoped_both.0 checked.functions (all_parts (is_listed p) (site_numbers_all p.main)
        (numbers_in_functions p.functions) all_listed).1 f)
