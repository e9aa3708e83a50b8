-- A region's body, and then the region again: each break in it leaves for what is behind the region.
use Rattle.std.proofs.Common.{◌≡◌, refl, sym, ap, ◌∙◌, subst, ℕ, true, List, [], ◌∷◌, ◌++◌, ℤ, length, append_assoc, Option, Some}
use Rattle.std.specs.List.{list_all}
use Rattle.dp_tree.specs.declared.Stmt.{Stmt, out-Stmt}
use Rattle.dp_tree.specs.declared.Program.{Program}
use Rattle.dp_tree.specs.Numbering.{is_inner}
use Rattle.dp_tree.specs.Step.{clear_locals, behind_region, behind_one, region_number, clear_one, cleared_leaving}
use Rattle.dp_tree.proofs.Heads.{and_true}
use Rattle.dp_tree.proofs.Inner.{inner_out, inner_left, no_number}
use Rattle.dp_calls.proofs.Relation.{Env, Within, Quiet, stays, exits, Body, finished, onward, Todo, next, exit, leave}
use Rattle.dp_calls.proofs.Stacks.{one_within}

module _ (r : Program) where
  -- what stands in a body before the region has no part in leaving it
  inner_cleared : (xs behind : List Stmt) (cells : List ℤ) → list_all is_inner xs ≡ true →
      cleared_leaving r (xs ++ behind) cells ≡ cleared_leaving r behind cells
  inner_cleared [] behind cells w = refl
  inner_cleared (x ∷ xs) behind cells w =
      let both = and_true (is_inner x) (list_all is_inner xs) w in
      ap (λ (o : Option ℕ). clear_one r o cells (cleared_leaving r (xs ++ behind) cells)) (no_number (out-Stmt x) (sym (inner_out x) ∙ both.0))
      ∙ inner_cleared xs behind cells both.1

  pub cleared_before : (xs : List Stmt) (s : Stmt) (rest : List Stmt) (k : ℕ) → region_number (out-Stmt s) ≡ Some k → list_all is_inner xs ≡ true →
      (cells : List ℤ) → cleared_leaving r (xs ++ s ∷ rest) cells ≡ clear_locals k r.vars cells
  cleared_before xs s rest k is w cells = inner_cleared xs (s ∷ rest) cells w ∙ ap (λ (o : Option ℕ). clear_one r o cells (cleared_leaving r rest cells)) is

pub left_before : (xs : List Stmt) (s : Stmt) (rest : List Stmt) (k : ℕ) → region_number (out-Stmt s) ≡ Some k → list_all is_inner xs ≡ true →
    behind_region (xs ++ s ∷ rest) ≡ rest
left_before xs s rest k is w = inner_left xs (s ∷ rest) w ∙ ap (λ (o : Option ℕ). behind_one o rest (behind_region rest)) is

module _ (p q : Program) {e : Env} {outer : List ℕ} {k : ℕ} (quiet : Quiet p q e outer k) (main : e.calls ≡ length p.functions) {s t : Stmt}
    {rest text : List Stmt}
    (source : region_number (out-Stmt s) ≡ Some k) (target : region_number (out-Stmt t) ≡ Some k) (again : Todo p q e outer (s ∷ rest) (t ∷ text))
    (behind : Todo p q e outer rest text) where
  left_todo : (inside code : List Stmt) → list_all is_inner inside ≡ true → list_all is_inner code ≡ true →
      Todo p q e outer (behind_region (inside ++ s ∷ rest)) (behind_region (code ++ t ∷ text))
  left_todo inside code w v =
      subst (λ (xs : List Stmt). Todo p q e outer xs (behind_region (code ++ t ∷ text))) (sym (left_before inside s rest k source w))
      (subst (λ (xs : List Stmt). Todo p q e outer rest xs) (sym (left_before code t text k target v)) behind)

  -- the rest of a body, and then the region again
  pub body_then : {visible : List ℕ} {inside code : List Stmt} → Body p q e visible inside code → Within p q outer visible →
      Todo p q e visible (inside ++ s ∷ rest) (code ++ t ∷ text)
  body_then finished sub = leave sub again
  body_then (onward {first = first} {text = own} (stays one) body w v is) sub =
      next one (body_then body (λ x seen. one_within p q one x (sub x seen))) (ap (λ (c : List Stmt). c ++ t ∷ text) is ∙ append_assoc first own (t ∷ text))
  body_then (onward {rest = inside} {text = own} (exits tries) body w v is) sub =
      exit tries (body_then body sub)
      (record {
        within = sub;
        quiet = quiet;
        main = main;
        source = cleared_before p inside s rest k source w;
        target = cleared_before q own t text k target v;
      })
      (left_todo inside own w v) (ap (λ (c : List Stmt). c ++ t ∷ text) is)
