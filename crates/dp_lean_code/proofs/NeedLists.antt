-- Tables by numbers, made one entry after the other; and the home of a private variable.
use Rattle.dp_semantics.proofs.Names.{◌≡◌, sym, ap, ◌∙◌, append_assoc, arith, ℕ, suc, ◌+◌, ◌-◌, ◌<◌, ◌&&◌, if◌then◌else◌, Bool, true, List, [], ◌∷◌, ◌++◌, map}
use Rattle.dp_semantics.proofs.Names.{list_all, Some, None, Program, Plan, Access, is_body_local, has_cell, stores_var}
use Rattle.dp_tree.specs.Numbering.{numbers_from}
use Rattle.dp_net.specs.Hidden.{loads_var, first_stage}
use Rattle.dp_lean_code.specs.steps.Needs.{home_among, keeps_to, private_home}

-- one entry more
pub number_next : {X : Type 0} (f : ℕ → X) (out whole new : List X) (value : X) (first place n : ℕ) → place < n → value ≡ f (first + place) →
    new ≡ out ++ value ∷ [] →
    out ++ map f (numbers_from (first + place) (n - place)) ≡ whole → new ++ map f (numbers_from (first + (place + 1)) (n - (place + 1))) ≡ whole
number_next f out whole new value first place n low is pushed made =
    let left : n - place ≡ suc (n - (place + 1)) = omega (arith, low) in
    let onward : (first + place) + 1 ≡ first + (place + 1) = omega arith in
    ap (λ xs. xs ++ map f (numbers_from (first + (place + 1)) (n - (place + 1)))) pushed
    ∙ append_assoc out (value ∷ []) (map f (numbers_from (first + (place + 1)) (n - (place + 1))))
    ∙ ap (λ v. out ++ (v ∷ map f (numbers_from (first + (place + 1)) (n - (place + 1))))) is
    ∙ ap (λ (k : ℕ). out ++ (f (first + place) ∷ map f (numbers_from k (n - (place + 1))))) (sym onward)
    ∙ ap (λ (k : ℕ). out ++ map f (numbers_from (first + place) k)) (sym left)
    ∙ made

module _ (p : Program) (plan : Plan) (all : List Access) (x : ℕ) where
  -- a private one's
  pub private_there : (storing loading : ℕ) (local kept : Bool) → storing ≡ first_stage p plan (stores_var x) 0 all →
      loading ≡ first_stage p plan (loads_var p plan x) storing all →
      local ≡ (is_body_local p plan x && has_cell p x) → kept ≡ list_all (keeps_to p plan all loading x) all → local ≡ true → kept ≡ true →
      Some loading ≡ private_home p plan all x
  private_there storing loading local kept storing_is loading_is local_is kept_is is_local is_kept =
      let at : loading ≡ home_among p plan all x = loading_is ∙ ap (λ (n : ℕ). first_stage p plan (loads_var p plan x) n all) storing_is in
      let keeps : list_all (keeps_to p plan all (home_among p plan all x) x) all ≡ true = sym (ap (λ (h : ℕ). list_all (keeps_to p plan all h x) all) at)
      ∙ sym kept_is ∙ is_kept in
      let there : ((is_body_local p plan x && has_cell p x) && list_all (keeps_to p plan all (home_among p plan all x) x) all) ≡ true =
      ap (λ c. c && list_all (keeps_to p plan all (home_among p plan all x) x) all) (sym local_is ∙ is_local) ∙ keeps in
      ap Some at ∙ sym (ap (λ (c : Bool). if c then Some (home_among p plan all x) else None) there)
