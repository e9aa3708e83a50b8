-- The text of each stage is sound where the region's sites are.
use Rattle.dp_semantics.proofs.Names.{◌≡◌, refl, sym, ap, ◌∙◌, ℕ, Bool, true, false, if◌then◌else◌, List, [], list_all, list_all-append, Option, Some, None}
use Rattle.dp_semantics.proofs.Names.{nat_le, and_from, Stmt, Row_of-Stmt, end_of-Stmt, more_of-Stmt, rolls-If, rolls-While, If, While, Program, Plan, stage_of}
use Rattle.dp_semantics.proofs.Names.{Access, accesses, accesses_in, assumed_in, branch_of, where_reached, project, project_in}
use Rattle.dp_tree.specs.declared.Stmt.TheVariants as tree
use Rattle.dp_semantics.proofs.Each.{Each, each_split}
use Rattle.dp_semantics.proofs.Setting.{head_access}
use Rattle.dp_net.proofs.HiddenCells.{is_sound, all_sound, sound_roll}

module _ (p : Program) (plan : Plan) where
  -- The text of each stage is sound where the region's sites are.
  module _ (s : ℕ) where
    reach_sound : (site : ℕ) (a b : List Stmt) → list_all (all_sound p plan) a ≡ true → list_all (all_sound p plan) b ≡ true →
        list_all (all_sound p plan) (where_reached p plan s site a b) ≡ true
    reach_sound site a b h k = by (nat_le (stage_of p plan site) s)
      where
        by : (c : Bool) → list_all (all_sound p plan) (if c then a else b) ≡ true
        by true = h
        by false = k

    branch_sound : (o : Option Bool) (a b : List Stmt) → list_all (all_sound p plan) a ≡ true → list_all (all_sound p plan) b ≡ true →
        list_all (all_sound p plan) (branch_of o a b) ≡ true
    branch_sound None a b h k = refl
    branch_sound (Some true) a b h k = h
    branch_sound (Some false) a b h k = k

    if_sound : (site : _) (cond : _) (a b : List Stmt) → is_sound p plan (head_access (If site cond a b)) ≡ true →
        list_all (all_sound p plan) a ≡ true → list_all (all_sound p plan) b ≡ true → all_sound p plan (tree.If site cond a b) ≡ true
    if_sound site cond a b own h k = ap (all_sound p plan) (sym (rolls-If site cond a b)) ∙ sound_roll p plan (If site cond a b) ∙ rw (own, h, k) refl

    while_sound : (site : _) (cond : _) (a : List Stmt) → is_sound p plan (head_access (While site cond a)) ≡ true →
        list_all (all_sound p plan) a ≡ true → all_sound p plan (tree.While site cond a) ≡ true
    while_sound site cond a own h = ap (all_sound p plan) (sym (rolls-While site cond a)) ∙ sound_roll p plan (While site cond a) ∙ rw (own, h) refl

    mutual
      pub projected_sound : (x : Stmt) → Each (λ a. is_sound p plan a ≡ true) (accesses x) → list_all (all_sound p plan) (project p plan s x) ≡ true
      projected_sound (tree.Assign site x e) h = reach_sound site.0 _ [] (rw (h.0) refl) refl
      projected_sound (tree.Store site x index e) h = reach_sound site.0 _ [] (rw (h.0) refl) refl
      projected_sound (tree.Print site e) h = reach_sound site.0 _ [] (rw (h.0) refl) refl
      projected_sound (tree.Break site cond) h = reach_sound site.0 _ [] (rw (h.0) refl) refl
      projected_sound (tree.If' site cond _ a _ b) h =
          let parts = each_split (λ (i : Access). is_sound p plan i ≡ true) (accesses_in a) (accesses_in b) h.1 in
          let one = projected_row a parts.0 in
          let two = projected_row b parts.1 in
          reach_sound site.0 _ _ (rw (if_sound site cond (project_in p plan s a) (project_in p plan s b) h.0 one two) refl)
          (branch_sound (assumed_in plan.assume site.0) _ _ one two)
      projected_sound (tree.While' site cond _ a) h =
          reach_sound site.0 _ [] (rw (while_sound site cond (project_in p plan s a) h.0 (projected_row a h.1)) refl) refl
      projected_sound (tree.Region' r site cond _ a) h = rw (if_sound site cond (project_in p plan s a) [] h.0 (projected_row a h.1) refl) refl
      projected_sound (tree.Call f line args) h = refl

      pub projected_row : {n : _} (row : Row_of-Stmt n) → Each (λ a. is_sound p plan a ≡ true) (accesses_in row) →
          list_all (all_sound p plan) (project_in p plan s row) ≡ true
      projected_row end_of-Stmt h = refl
      projected_row (more_of-Stmt x rest) h =
          let parts = each_split (λ (i : Access). is_sound p plan i ≡ true) (accesses x) (accesses_in rest) h in
          list_all-append (all_sound p plan) (project p plan s x) (project_in p plan s rest)
          ∙ and_from _ _ (projected_sound x parts.0) (projected_row rest parts.1)
