-- The code of each stage's lean text does what the lean turn does.
use Rattle.dp_semantics.proofs.Names.{◌≡◌, refl, sym, ap, ◌∙◌, subst, append-nil, arith, ◌<◌, ◌≤◌, ℕ, zero, suc, ◌+◌, ◌&&◌, Bool, true, false, List, [], ◌∷◌}
use Rattle.dp_semantics.proofs.Names.{◌++◌, length, ℤ, list_all, and_parts, Stmt, Row_of-Stmt, end_of-Stmt, more_of-Stmt, Program, Plan, Some, fits_plan}
use Rattle.dp_tree.specs.declared.Stmt.TheVariants as tree
use Rattle.dp_tree.specs.declared.Stmt.TheViews.{outs-Assign, outs-Store, outs-If', outs-While'}
use Rattle.dp_tree.specs.Inlined.{IsInlined}
use Rattle.dp_tree.specs.Statements.{listed, everywhere_in}
use Rattle.dp_tree.proofs.InnerTexts.{shown_listed}
use Rattle.dp_theorem.proofs.Fitting.{accepted}
use Rattle.dp_code.specs.declared.Op.TheVariants as op
use Rattle.dp_net.specs.NetItems.{Marks}
use Rattle.dp_net.specs.Quiet.{quiet_at, is_quiet}
use Rattle.dp_net.specs.Hidden.{marks_of}
use Rattle.dp_net.proofs.Assembled.{quieted}
use Rattle.dp_net.proofs.Groups.{Marked}
use Rattle.dp_net.proofs.HiddenCells.{all_sound}
use Rattle.dp_net.proofs.Silent.{AllQuiet, all_quiet}
use Rattle.dp_net.proofs.Texts as texts
use Rattle.dp_net.proofs.Texts.{IsLeaf, Text, text_join}
use Rattle.dp_lean.specs.LeanText.{lean_text}
use Rattle.dp_lean.proofs.LeftTexts.{lean_texts}
use Rattle.dp_lean.proofs.Placed.{numbered, some_epoch, walkable}
use Rattle.dp_lean_code.specs.declared.LeanOp.TheVariants.{Plain}
use Rattle.dp_lean_code.specs.LeanCode.{list_code, block_code, no_blocks, lean_code, IsLeanCode}
use Rattle.dp_lean_code.specs.Laws.{CodeIsRight}
use Rattle.dp_lean_code.proofs.LeanRunning.{From, later}
use Rattle.dp_lean_code.proofs.LeanStanding.{Stands, Over, stands_list}
use Rattle.dp_lean_code.proofs.LeanRuns.{all_run}
use Rattle.dp_lean_code.proofs.Leaving.{some_block}

module _ (p : Program) (plan : Plan) (s t : ℕ) where
  mutual
    -- quiet statements are a text without blocks
    quiet_one : (x : Stmt) → is_quiet p plan t x ≡ true → Text (no_blocks p plan s) (x ∷ [])
    quiet_one (tree.Assign site x e) q = texts.leaf (refl, refl) (subst IsLeaf (sym (outs-Assign site x e)) tt) texts.ends
    quiet_one (tree.Store site x i e) q = texts.leaf (refl, refl) (subst IsLeaf (sym (outs-Store site x i e)) tt) texts.ends
    quiet_one (tree.Print site e) q = absurd (cc)
    quiet_one (tree.If' site cond h a k b) q =
        let both = and_parts (quiet_at p plan t (tree.If' site cond h a k b)) (everywhere_in (quiet_at p plan t) a && everywhere_in (quiet_at p plan t) b) q in
        let parts = and_parts (everywhere_in (quiet_at p plan t) a) (everywhere_in (quiet_at p plan t) b) both.1 in
        texts.choice (refl, refl) (outs-If' site cond h a k b) (subst (Text (no_blocks p plan s)) (sym (shown_listed h a)) (quiet_row a parts.0))
        (subst (Text (no_blocks p plan s)) (sym (shown_listed k b)) (quiet_row b parts.1)) texts.ends
    quiet_one (tree.While' site cond h a) q =
        let both = and_parts (quiet_at p plan t (tree.While' site cond h a)) (everywhere_in (quiet_at p plan t) a) q in
        texts.loop (refl, refl) (outs-While' site cond h a) (subst (Text (no_blocks p plan s)) (sym (shown_listed h a)) (quiet_row a both.1)) texts.ends
    quiet_one (tree.Region' r site cond h a) q = absurd (cc)
    quiet_one (tree.Break site cond) q = absurd (cc)
    quiet_one (tree.Call f line args) q = absurd (cc)

    quiet_row : {n : _} (row : Row_of-Stmt n) → everywhere_in (quiet_at p plan t) row ≡ true → Text (no_blocks p plan s) (listed row)
    quiet_row end_of-Stmt q = texts.ends
    quiet_row (more_of-Stmt x rest) q =
        let both = and_parts (is_quiet p plan t x) (everywhere_in (quiet_at p plan t) rest) q in
        text_join (no_blocks p plan s) (quiet_one x both.0) (quiet_row rest both.1)

  pub quiet_text : (xs : List Stmt) → AllQuiet p plan t xs → Text (no_blocks p plan s) xs
  quiet_text [] q = texts.ends
  quiet_text (x ∷ xs) q = let both = and_parts (is_quiet p plan t x) (all_quiet p plan t xs) q in
      text_join (no_blocks p plan s) (quiet_one x both.0) (quiet_text xs both.1)

-- The code of a lean text that has its blocks whole is right.
is_lean_code : (p : Program) (plan : Plan) (s : ℕ) (m : Marks) → ((input : List ℤ) → Marked p plan m input) → Text m (lean_text p plan m s) →
    IsLeanCode p plan m s (lean_code p plan s m)
is_lean_code p plan s m marked text input cells queues end comes =
    let ops = list_code p plan s m (block_code p plan s) zero (lean_text p plan m s) 0 in
    let code = lean_code p plan s m in
    let over : From (lean_code p plan s m) (0 + length (list_code p plan s m (block_code p plan s) zero (lean_text p plan m s) 0)) (Plain op.End ∷ []) = later
    code 0 ops (Plain op.End ∷ []) refl in
    let some = some_block p plan s m in
    all_run p plan s m input (marked input) (λ t xs q. quiet_text p plan s t xs q) code (0 + length ops) over comes.0 0 (lean_text p plan m s)
    (record { cells = cells; queues = queues; own = []; closing = false; block = Rattle.dp_semantics.proofs.Names.None }) end
    (subst (λ (ys : List Stmt). Stands p plan s m (block_code p plan s) some code (0 + length ops) 0 ys) (append-nil (lean_text p plan m s))
    (stands_list p plan s m (block_code p plan s) some code (0 + length ops) text 0 (Plain op.End ∷ []) [] refl Over)) refl (omega arith) comes.1

pub code_is_right : (p : Program) (plan : Plan) → IsInlined p → fits_plan p plan ≡ true → CodeIsRight p plan
code_is_right p plan inlined fits pays zero low = absurd (omega (arith, low))
code_is_right p plan inlined fits pays (suc t) low =
    let ok = accepted p plan fits in
    let up = numbered p plan inlined ok in
    let m = marks_of p plan pays in
    let test = all_sound p plan in
    is_lean_code p plan (suc t) (marks_of p plan pays) (λ input. (quieted (some_epoch p plan ok up.0 up.1 m test input) fits up.0 up.1 pays).marked)
    (lean_texts p plan (marks_of p plan pays) (suc t)
    (walkable p plan ok up.0 up.1 m test [] (quieted (some_epoch p plan ok up.0 up.1 m test []) fits up.0 up.1 pays) t).left)
