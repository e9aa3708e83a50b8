-- A site is checked exactly where there is a store because of which it is.
use Rattle.std.proofs.Common.{◌≡◌, inl, inr, refl, sym, ap, ◌∙◌, ℕ, ◌==◌, Bool, true, false, not, ◌&&◌, ◌||◌, List, [], ◌∷◌, eqb-true}
use Rattle.std.proofs.lemmas.Bool.{cases_Bool}
use Rattle.std.proofs.Math.Bool.{or-false}
use Rattle.std.specs.List.{list_any, flat_map}
use Rattle.dp_tree.specs.declared.Program.{Program}
use Rattle.dp_plan.specs.declared.Plan.{Plan}
use Rattle.dp_plan.specs.Access.{Access, is_stored_after, is_stored_beside, region_accesses, stage_of}
use Rattle.dp_plan.specs.Checked.{is_apart, is_apart_between, is_checked, is_checked_access, may_differ}
use Rattle.dp_plan.proofs.LoadLemmas.{list_any-append}
use Rattle.dp_sites.specs.Compared.{Compared, compared_for, compared_stores, compared_with, differs_at, differs_for, when_compared}
use Rattle.dp_sites.proofs.PartTable.{either_any}

any_flat : {X Y : Type 0} (test : Y → Bool) (f : X → List Y) (xs : List X) → list_any test (flat_map f xs) ≡ list_any (λ (x : X). list_any test (f x)) xs
any_flat test f [] = refl
any_flat test f (x ∷ xs) = list_any-append test (f x) (flat_map f xs) ∙ ap (λ (b : Bool). list_any test (f x) || b) (any_flat test f xs)

any_same : {X : Type 0} (f g : X → Bool) (xs : List X) → ((x : X) → f x ≡ g x) → list_any f xs ≡ list_any g xs
any_same f g [] same = refl
any_same f g (x ∷ xs) same = ap (λ (b : Bool). b || list_any f xs) (same x) ∙ ap (λ (b : Bool). g x || b) (any_same f g xs same)

any_never : {X : Type 0} (xs : List X) → list_any (λ (x : X). false) xs ≡ false
any_never [] = refl
any_never (x ∷ xs) = any_never xs

-- some x with some y, or some y with some x
any_turned : {X Y : Type 0} (test : X → Y → Bool) (xs : List X) (ys : List Y) → list_any (λ (x : X). list_any (test x) ys) xs ≡ list_any
    (λ (y : Y). list_any (λ (x : X). test x y) xs) ys
any_turned test [] ys = sym (any_never ys)
any_turned test (x ∷ xs) ys =
    ap (λ (b : Bool). list_any (test x) ys || b) (any_turned test xs ys)
    ∙ either_any (test x) (λ y. list_any (λ z. test z y) xs) ys

and_any : {X : Type 0} (b : Bool) (f : X → Bool) (xs : List X) → list_any (λ (x : X). b && f x) xs ≡ (b && list_any f xs)
and_any true f xs = refl
and_any false f xs = any_never xs

module _ (p : Program) (plan : Plan) (site : ℕ) where
  abbrev is_of : Compared → Bool
  is_of c = c.site.0 == site

  abbrev all : List Access
  all = region_accesses p plan

  pair_found : (b : Bool) (u d : ℕ) → list_any is_of (when_compared b u d) ≡ ((u == site) && b)
  pair_found true u d = or-false (u == site) ∙ yes_last (u == site)
    where
      yes_last : (b : Bool) → b ≡ (b && true)
      yes_last true = refl
      yes_last false = refl
  pair_found false u d = no_last (u == site)
    where
      no_last : (b : Bool) → false ≡ (b && false)
      no_last true = refl
      no_last false = refl

  -- the stores of one site
  stores_found : (u : Access) → list_any is_of (compared_with p plan all u) ≡ ((u.site == site) && list_any (differs_for p plan u.site u.loads) all)
  stores_found u =
      any_flat is_of (compared_for p plan u) all
      ∙ any_same (λ (d : Access). list_any is_of (compared_for p plan u d)) (λ (d : Access). (u.site == site) && differs_for p plan u.site u.loads d) all
      (λ d. pair_found (differs_for p plan u.site u.loads d) u.site d.site)
      ∙ and_any (u.site == site) (differs_for p plan u.site u.loads) all

  loads_differ : (n : ℕ) (loads : List ℕ) → list_any (may_differ p plan (stage_of p plan n) n) loads ≡ list_any (differs_for p plan n loads) all
  loads_differ n loads =
      any_same (may_differ p plan (stage_of p plan n) n) (λ (x : ℕ). list_any (differs_at p plan (stage_of p plan n) n x) all) loads
      (λ x. either_any (λ (d : Access). is_stored_after p plan (stage_of p plan n) x d && not (is_apart p plan n d.site))
      (λ (d : Access). is_stored_beside p plan (stage_of p plan n) x d && not (is_apart_between p plan n d.site)) all)
      ∙ any_turned (differs_at p plan (stage_of p plan n) n) loads all

  access_found : (u : Access) → is_checked_access p plan site u ≡ list_any is_of (compared_with p plan all u)
  access_found u = elim (cases_Bool (u.site == site)) [
    | inl t ↦
        let same : u.site ≡ site = eqb-true u.site site t in
        ap (λ (n : ℕ). (u.site == site) && list_any (may_differ p plan (stage_of p plan n) n) u.loads) (sym same)
        ∙ ap (λ (b : Bool). (u.site == site) && b) (loads_differ u.site u.loads) ∙ sym (stores_found u)
    | inr f ↦
        ap (λ (b : Bool). b && list_any (may_differ p plan (stage_of p plan site) site) u.loads) f
        ∙ sym (stores_found u ∙ ap (λ (b : Bool). b && list_any (differs_for p plan u.site u.loads) all) f)
  ]

pub checked_by_stores : (p : Program) (plan : Plan) (site : ℕ) → is_checked p plan site ≡ list_any (λ (c : Compared). c.site.0 == site) (compared_stores p plan)
checked_by_stores p plan site =
    any_same (is_checked_access p plan site) (λ (u : Access). list_any (is_of p plan site) (compared_with p plan (region_accesses p plan) u))
    (region_accesses p plan) (access_found p plan site)
    ∙ sym (any_flat (is_of p plan site) (compared_with p plan (region_accesses p plan)) (region_accesses p plan))
