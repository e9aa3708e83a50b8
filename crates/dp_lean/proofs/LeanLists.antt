-- The lean text by its statements: what is left of one after the other, and of a block.
use Rattle.dp_semantics.proofs.Names.{◌≡◌, refl, sym, ap, ◌∙◌, ℕ, zero, suc, Bool, true, false, ◌||◌, if◌then◌else◌, List, [], ◌∷◌, ◌++◌, length}
use Rattle.dp_semantics.proofs.Names.{opened_statement, hidden-the_row-Stmt-0, rolls-Assign, rolls-Store, rolls-Print, rolls-If, rolls-While, rolls-Region}
use Rattle.dp_semantics.proofs.Names.{rolls-Break, rolls-Call, Stmt, out-Stmt, roll-Stmt, roll-out-Stmt, Stmt-F, Assign, Store, Print, If, While, Region, Break}
use Rattle.dp_semantics.proofs.Names.{Call, Program, Plan}
use Rattle.dp_tree.specs.declared.Stmt.TheVariants as tree
use Rattle.dp_net.specs.NetItems.{Marks}
use Rattle.dp_net.specs.BlockText.{own_site}
use Rattle.dp_net.proofs.Texts.{site_at}
use Rattle.dp_lean.specs.Needed.{is_judge, is_done_to, is_kept_site, is_kept_block}
use Rattle.dp_lean.specs.LeanText.{kept_when, left_of_head, has_some, lean, lean_row, lean_list, lean_all}

module _ (p : Program) (plan : Plan) (m : Marks) (s : ℕ) where
  abbrev pub leaned : List Stmt → List Stmt
  leaned xs = lean_all p plan m s xs

  -- what is left of a statement, by its head
  abbrev pub lean_at : Stmt-F Stmt → List Stmt
  lean_at (Assign site x e) = kept_when (is_kept_site p plan s site.0 || is_done_to p plan s x.0) (tree.Assign site x e)
  lean_at (Store site x index e) = kept_when (is_kept_site p plan s site.0 || is_done_to p plan s x.0) (tree.Store site x index e)
  lean_at (Print site e) = kept_when (is_kept_site p plan s site.0 || is_judge p plan s) (tree.Print site e)
  lean_at (If site cond a b) =
      kept_when (is_kept_site p plan s site.0 || has_some p plan m s (leaned a) (leaned b)) (tree.If site cond (leaned a) (leaned b))
  lean_at (While site cond a) = kept_when (is_kept_site p plan s site.0 || has_some p plan m s (leaned a) []) (tree.While site cond (leaned a))
  lean_at (Region r site cond a) = tree.Region r site cond a ∷ []
  lean_at (Break site cond) = tree.Break site cond ∷ []
  lean_at (Call f line args) = tree.Call f line args ∷ []

  lean_hidden : (left : ℕ) (kept : Bool) (xs : List Stmt) → lean_row p plan m s left kept (hidden-the_row-Stmt-0 xs) ≡ lean_list p plan m s left kept xs
  unfolding opened_statement
  lean_hidden left kept [] = refl
  lean_hidden (suc left) kept (x ∷ xs) = ap (λ ys. kept_when kept x ++ ys) (lean_hidden left kept xs)
  lean_hidden zero kept (x ∷ xs) = by (m.block_at (own_site p plan x)) (λ n b. lean_hidden n b xs)
    where
      by : (block : List Stmt) →
          ((n : ℕ) (b : Bool) → lean_row p plan m s n b (hidden-the_row-Stmt-0 xs) ≡ lean_list p plan m s n b xs) →
          left_of_head p plan m s block x (lean p plan m s x) (λ n b. lean_row p plan m s n b (hidden-the_row-Stmt-0 xs))
          ≡ left_of_head p plan m s block x (lean p plan m s x) (λ n b. lean_list p plan m s n b xs)
      by [] same = ap (λ ys. lean p plan m s x ++ ys) (same zero false)
      by (y ∷ ys) same = ap (λ zs. kept_when (is_kept_block p plan s (y ∷ ys)) x ++ zs) (same (length ys) (is_kept_block p plan s (y ∷ ys)))

  lean_roll : (h : Stmt-F Stmt) → lean p plan m s (roll-Stmt h) ≡ lean_at h
  unfolding opened_statement
  lean_roll (Assign site x e) = ap (lean p plan m s) (rolls-Assign site x e)
  lean_roll (Store site x index e) = ap (lean p plan m s) (rolls-Store site x index e)
  lean_roll (Print site e) = ap (lean p plan m s) (rolls-Print site e)
  lean_roll (If site cond a b) = rw (rolls-If site cond a b, lean_hidden zero false a, lean_hidden zero false b)
  lean_roll (While site cond a) = rw (rolls-While site cond a, lean_hidden zero false a)
  lean_roll (Region r site cond a) = ap (lean p plan m s) (rolls-Region r site cond a)
  lean_roll (Break site cond) = ap (lean p plan m s) (rolls-Break site cond)
  lean_roll (Call f line args) = ap (lean p plan m s) (rolls-Call f line args)

  pub lean_out : (x : Stmt) → lean p plan m s x ≡ lean_at (out-Stmt x)
  lean_out x = ap (lean p plan m s) (sym (roll-out-Stmt x)) ∙ lean_roll (out-Stmt x)

  -- outside of blocks nothing depends on what the last one was
  pub lean_anew : (kept : Bool) (xs : List Stmt) → lean_list p plan m s zero kept xs ≡ leaned xs
  lean_anew kept [] = refl
  lean_anew kept (x ∷ xs) = refl

  -- a statement where no block begins
  pub lean_alone : (x : Stmt) (xs : List Stmt) → m.block_at (site_at x) ≡ [] → leaned (x ∷ xs) ≡ lean p plan m s x ++ leaned xs
  lean_alone x xs none = ap (λ (block : List Stmt). left_of_head p plan m s block x (lean p plan m s x) (λ n b. lean_list p plan m s n b xs)) none

  abbrev pub if_kept : Bool → List Stmt → List Stmt
  if_kept kept xs = if kept then xs else []

  lean_rest : (kept : Bool) (b xs : List Stmt) → lean_list p plan m s (length b) kept (b ++ xs) ≡ if_kept kept b ++ leaned xs
  lean_rest kept [] xs = lean_anew kept xs ∙ nothing kept
    where
      nothing : (kept : Bool) → leaned xs ≡ if_kept kept [] ++ leaned xs
      nothing true = refl
      nothing false = refl
  lean_rest kept (x ∷ b) xs = ap (λ ys. kept_when kept x ++ ys) (lean_rest kept b xs) ∙ by kept
    where
      by : (kept : Bool) → kept_when kept x ++ (if_kept kept b ++ leaned xs) ≡ if_kept kept (x ∷ b) ++ leaned xs
      by true = refl
      by false = refl

  -- a whole block
  pub lean_block : (x : Stmt) (b xs : List Stmt) → m.block_at (site_at x) ≡ x ∷ b →
      leaned (x ∷ (b ++ xs)) ≡ if_kept (is_kept_block p plan s (x ∷ b)) (x ∷ b) ++ leaned xs
  lean_block x b xs at =
      ap (λ (block : List Stmt). left_of_head p plan m s block x (lean p plan m s x) (λ n k. lean_list p plan m s n k (b ++ xs))) at
      ∙ ap (λ ys. kept_when (is_kept_block p plan s (x ∷ b)) x ++ ys) (lean_rest (is_kept_block p plan s (x ∷ b)) b xs)
      ∙ by (is_kept_block p plan s (x ∷ b))
    where
      by : (kept : Bool) → kept_when kept x ++ (if_kept kept b ++ leaned xs) ≡ if_kept kept (x ∷ b) ++ leaned xs
      by true = refl
      by false = refl
