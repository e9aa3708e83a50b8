-- Under a plan of version 1 the sites that are checked are those that load a variable of another stage.
use Rattle.std.proofs.Common.{◌≡◌, refl, ap, ◌∙◌, ℕ, ◌==◌, Bool, false, not, ◌&&◌, ◌||◌, List, [], ◌∷◌}
use Rattle.std.specs.List.{list_any}
use Rattle.dp_tree.specs.declared.Program.{Program}
use Rattle.dp_plan.specs.declared.Plan.{Plan}
use Rattle.dp_plan.specs.Access.{Access, is_stored_after, is_stored_beside, region_accesses, stage_of}
use Rattle.dp_plan.specs.IsFar.{is_far, is_far_within}
use Rattle.dp_plan.specs.Checked.{comes_before, is_apart, is_apart_between, is_checked, is_checked_access, may_differ}
use Rattle.std.proofs.Math.Bool.{and-true}

-- without proved independence each store of a later stage counts, and in a replicated stage its own
abbrev plainly : Program → Plan → ℕ → ℕ → Bool
plainly p plan s x = list_any (is_stored_after p plan s x) (region_accesses p plan) || list_any (is_stored_beside p plan s x) (region_accesses p plan)

abbrev plainly_checked : Program → Plan → ℕ → Bool
plainly_checked p plan site = list_any (λ (u : Access). (u.site == site) && list_any (plainly p plan (stage_of p plan site)) u.loads) (region_accesses p plan)

any_alike : {X : Type 0} (f g : X → Bool) → ((x : X) → f x ≡ g x) → (xs : List X) → list_any f xs ≡ list_any g xs
any_alike f g same [] = refl
any_alike f g same (x ∷ xs) = ap (λ (b : Bool). b || list_any f xs) (same x) ∙ ap (λ (b : Bool). g x || b) (any_alike f g same xs)

module _ (p : Program) (plan : Plan) (first : plan.proved ≡ false) where
  between_none : (u d : ℕ) → is_apart_between p plan u d ≡ false
  between_none u d = ap (λ (b : Bool). b && is_far p plan.region d u) first

  apart_none : (u d : ℕ) → is_apart p plan u d ≡ false
  apart_none u d = ap (λ (b : Bool). b && (is_far_within p plan.region d u || comes_before p plan.region u d)) (between_none u d)

  alone : (b c : Bool) → c ≡ false → (b && not c) ≡ b
  alone b c e = ap (λ (t : Bool). b && not t) e ∙ and-true b

  differ_same : (s u x : ℕ) → may_differ p plan s u x ≡ plainly p plan s x
  differ_same s u x =
      ap (λ (b : Bool). b || list_any (λ (d : Access). is_stored_beside p plan s x d && not (is_apart_between p plan u d.site)) (region_accesses p plan))
      (any_alike (λ (d : Access). is_stored_after p plan s x d && not (is_apart p plan u d.site)) (is_stored_after p plan s x)
      (λ d. alone (is_stored_after p plan s x d) (is_apart p plan u d.site) (apart_none u d.site)) (region_accesses p plan))
      ∙ ap (λ (b : Bool). list_any (is_stored_after p plan s x) (region_accesses p plan) || b)
      (any_alike (λ (d : Access). is_stored_beside p plan s x d && not (is_apart_between p plan u d.site)) (is_stored_beside p plan s x)
      (λ d. alone (is_stored_beside p plan s x d) (is_apart_between p plan u d.site) (between_none u d.site)) (region_accesses p plan))

  checked_same : (site : ℕ) → is_checked p plan site ≡ plainly_checked p plan site
  checked_same site = any_alike (is_checked_access p plan site) (λ (u : Access). (u.site == site) && list_any (plainly p plan (stage_of p plan site)) u.loads)
      (λ u. ap (λ (b : Bool). (u.site == site) && b) (any_alike (may_differ p plan (stage_of p plan site) site) (plainly p plan (stage_of p plan site))
      (differ_same (stage_of p plan site) site) u.loads)) (region_accesses p plan)
