-- The changes that are listed by a copy are those of the memory that was copied.
use Rattle.std.proofs.Common.{◌≡◌, inl, inr, sym, ap, ◌∙◌, ℕ, Bool, false, not, ◌&&◌, List, length, map, get_or, ℤ, pos}
use Rattle.std.specs.Ordering.{int_eq}
use Rattle.std.proofs.lemmas.Bool.{cases_Bool}
use Rattle.std.proofs.lemmas.List.Elements.{filter_agree}
use Rattle.dp_tree.specs.declared.Program.{Program}
use Rattle.dp_tree.specs.Numbering.{numbers_from}
use Rattle.dp_plan.specs.declared.Plan.{Plan}
use Rattle.dp_plan.specs.Written.{has}
use Rattle.dp_semantics.specs.Seen.{is_local_at}
use Rattle.dp_log.specs.Changes.{changes_between, has_changed, set_from}
use Rattle.dp_audit.specs.Copy.{changed_but, changes_but}

module _ (p : Program) (plan : Plan) (locals : List ℕ) (are : (c : ℕ) → has c locals ≡ is_local_at p plan c) (known before after : List ℤ)
    (same : (c : ℕ) → has c locals ≡ false → get_or known c (pos 0) ≡ get_or before c (pos 0)) where
  changed_alike : (c : ℕ) → changed_but locals known after c ≡ has_changed p plan before after c
  changed_alike c = elim (cases_Bool (has c locals)) [
    | inl t ↦
        ap (λ (b : Bool). not b && not (int_eq (get_or known c (pos 0)) (get_or after c (pos 0)))) t
        ∙ sym (ap (λ (b : Bool). not b && not (int_eq (get_or before c (pos 0)) (get_or after c (pos 0)))) (sym (are c) ∙ t))
    | inr f ↦
        ap (λ (z : ℤ). not (has c locals) && not (int_eq z (get_or after c (pos 0)))) (same c f)
        ∙ ap (λ (b : Bool). not b && not (int_eq (get_or before c (pos 0)) (get_or after c (pos 0)))) (are c)
  ]

  pub listed_changes : changes_but locals known after ≡ changes_between p plan before after
  listed_changes = ap (map (set_from after)) (filter_agree (changed_but locals known after) (has_changed p plan before after) changed_alike
      (numbers_from 0 (length after)))
