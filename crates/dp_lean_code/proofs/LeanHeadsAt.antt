-- What the code at the head of a lean text does, and what stands behind it.
use Rattle.dp_semantics.proofs.Names.{◌≡◌, refl, sym, ap, ◌∙◌, subst, append_assoc, length-append, arith, ◌<◌, ℕ, ◌+◌, ◌==◌, if◌then◌else◌, Bool, true, false}
use Rattle.dp_semantics.proofs.Names.{not, List, [], ◌∷◌, ◌++◌, length, ℤ, is_zero, taken, SiteId, Expr, Stmt, Stmt-F, Assign, Store, Print, If, While, Region}
use Rattle.dp_semantics.proofs.Names.{Break, Call, Program, Plan, site_of, followed, choose, behind_region, stage_of}
use Rattle.dp_net.specs.NetItems.{Marks}
use Rattle.dp_code.specs.declared.Op.TheVariants as op
use Rattle.dp_code.specs.FlatRun.{by_zero}
use Rattle.dp_lean_code.specs.declared.LeanOp.{LeanOp}
use Rattle.dp_lean_code.specs.declared.LeanOp.TheVariants.{Plain}
use Rattle.dp_lean_code.specs.LeanCode.{test_code, branch, exit, choice, repetition, leaving}
unfoldable use Rattle.dp_lean_code.specs.LeanCode.{stmt_code}
use Rattle.dp_lean_code.proofs.LeanRunning.{From, later, next}
use Rattle.dp_lean_code.proofs.LeanStanding.{TextHead, code_of, head_code, Stands, Forks, forked, choice_forks, repetition_forks}
use Rattle.dp_lean_code.proofs.LeanEffects.{Does, Decides, assign_does, element_does, print_does, test_decides, break_does, if_does, while_does}

choose_append : (z : ℤ) (a b xs : List Stmt) → choose z (a ++ xs) (b ++ xs) ≡ choose z a b ++ xs
choose_append z a b xs = by (is_zero z)
  where
    by : (t : Bool) → (if t then b ++ xs else a ++ xs) ≡ (if t then b else a) ++ xs
    by true = refl
    by false = refl

module _ (p : Program) (plan : Plan) (s : ℕ) (m : Marks) (inner : SiteId → List Stmt → ℕ → List LeanOp)
    (some_inner : (f : ℕ) (y : Stmt) (ys : List Stmt) → m.block_at f ≡ y ∷ ys → (site : SiteId) (at : ℕ) → 0 < length (inner site (y ∷ ys) at))
    (hides : Marks) (input : List ℤ) (code : List LeanOp) (last : ℕ) where
  abbrev pub Standing : ℕ → List Stmt → Type 0
  Standing at xs = Stands p plan s m inner some_inner code last at xs

  -- where the run stands after a statement: before these ones, or at an end where a break was taken
  pub data Follows : ℕ → Bool → List Stmt → Type 0 where
    Onward : (at : ℕ) (xs : List Stmt) → Standing at xs → Follows at false xs
    Leaves : (at : ℕ) (rest : List LeanOp) (xs : List Stmt) → From code at (Plain op.End ∷ rest) → Standing (at + 1) xs → Follows at true []

  -- where the next op stands after a statement, by its value, and what it does
  pub record At (x : Stmt) (xs : List Stmt) (head : Stmt-F Stmt) (at : ℕ) : Type 0 where
    pub to : ℤ → ℕ
    pub does : Does p plan hides input code (stage_of p plan (site_of head).0 == s) at (site_of head) to head
    pub follows : (z : ℤ) → Follows (to z) (taken head z) (followed x xs head z)

  -- the place of a condition's op
  abbrev test_end : SiteId → Expr → ℕ → ℕ
  test_end site cond at = at + length (test_code p plan s site cond at)

  -- a condition with its two ways
  decides_at : (site : SiteId) (cond : Expr) (at : ℕ) (here other : List Stmt) (rest : List LeanOp)
      (f : Forks p plan s m inner some_inner code last site (test_end site cond at) here other) →
      From code at (test_code p plan s site cond at ++ rest) → Decides p plan hides input code (stage_of p plan site.0 == s) at site
      (λ z. by_zero z f.to (test_end site cond at + 1)) cond
  decides_at site cond at here other rest f from =
      let ops = test_code p plan s site cond at in
      let rest_is = sym (later code at ops rest from) ∙ f.from in
      test_decides p plan hides input code (stage_of p plan site.0 == s) at site cond f.to f.rest (from ∙ ap (λ more. ops ++ more) rest_is)

  -- after a break: what stands behind it at 0, and else the end
  left_by : (z : ℤ) (k : ℕ) (xs : List Stmt) (rest : List LeanOp) → behind_region xs ≡ [] → Standing (k + 2) xs → From code (k + 1) (Plain op.End ∷ rest) →
      Follows (by_zero z (k + 2) (k + 1)) (not (is_zero z)) (choose z (behind_region xs) xs)
  left_by z k xs rest none on from = by (is_zero z)
    where
      by : (t : Bool) → Follows (if t then k + 2 else k + 1) (not t) (if t then xs else behind_region xs)
      by true = Onward (k + 2) xs on
      by false = subst (λ ys. Follows (k + 1) true ys) (sym none)
          (Leaves (k + 1) rest xs from (let k_is : k + 2 ≡ k + 1 + 1 = omega arith in subst (λ n. Standing n xs) k_is on))

  pub head_at : (x : Stmt) (xs : List Stmt) (head : Stmt-F Stmt) (at : ℕ) (rest : List LeanOp) → TextHead m head → behind_region xs ≡ [] →
      From code at (head_code p plan s m inner some_inner head at ++ rest) →
      Standing (at + length (head_code p plan s m inner some_inner head at)) xs → Standing at (x ∷ xs) → At x xs head at
  head_at x xs (Assign site v e) at rest t none from st again = record {
    to = λ z. at + length (head_code p plan s m inner some_inner (Assign site v e) at);
    does = assign_does p plan hides input code (stage_of p plan site.0 == s) at site v e rest from;
    follows = λ z. Onward _ xs st;
  }
  head_at x xs (Store site v index e) at rest t none from st again = record {
    to = λ z. at + length (head_code p plan s m inner some_inner (Store site v index e) at);
    does = element_does p plan hides input code (stage_of p plan site.0 == s) at site v index e rest from;
    follows = λ z. Onward _ xs st;
  }
  head_at x xs (Print site e) at rest t none from st again = record {
    to = λ z. at + length (head_code p plan s m inner some_inner (Print site e) at);
    does = print_does p plan hides input code (stage_of p plan site.0 == s) at site e rest from;
    follows = λ z. Onward _ xs st;
  }
  head_at x xs (If site cond a b) at rest t none from st again =
      let ops = test_code p plan s site cond at in
      let k = at + length ops in
      let more = choice (branch p plan s site) (code_of p plan s m inner some_inner a) (code_of p plan s m inner some_inner b) k in
      let from' = from ∙ append_assoc ops more rest in
      let e : at + length (ops ++ more) ≡ k + length more = omega (arith, length-append ops more) in
      let f = choice_forks p plan s m inner some_inner code last site k a b xs rest t.0 t.1 (later code at ops (more ++ rest) from')
      (subst (λ n. Standing n xs) e st) in
      record {
        to = λ z. by_zero z f.to (k + 1);
        does = if_does p plan hides input code (stage_of p plan site.0 == s) at site (λ z. by_zero z f.to (k + 1)) cond a b
            (decides_at site cond at (a ++ xs) (b ++ xs) (more ++ rest) f from');
        follows = λ z. Onward (by_zero z f.to (k + 1)) _ (subst (λ ys. Standing (by_zero z f.to (k + 1)) ys) (choose_append z a b xs)
            (forked p plan s m inner some_inner code last site k (a ++ xs) (b ++ xs) f z));
      }
  head_at x xs (While site cond a) at rest t none from st again =
      let ops = test_code p plan s site cond at in
      let k = at + length ops in
      let more = repetition at (branch p plan s site) (code_of p plan s m inner some_inner a) k in
      let from' = from ∙ append_assoc ops more rest in
      let e : at + length (ops ++ more) ≡ k + length more = omega (arith, length-append ops more) in
      let f = repetition_forks p plan s m inner some_inner code last site at k a x xs rest t (later code at ops (more ++ rest) from')
      (subst (λ n. Standing n xs) e st) again in
      record {
        to = λ z. by_zero z f.to (k + 1);
        does = while_does p plan hides input code (stage_of p plan site.0 == s) at site (λ z. by_zero z f.to (k + 1)) cond a
            (decides_at site cond at (a ++ x ∷ xs) xs (more ++ rest) f from');
        follows = λ z. Onward (by_zero z f.to (k + 1)) _ (forked p plan s m inner some_inner code last site k (a ++ x ∷ xs) xs f z);
      }
  head_at x xs (Break site cond) at rest t none from st again =
      let ops = test_code p plan s site cond at in
      let k = at + length ops in
      let more = leaving (exit p plan s site) k in
      let from' = from ∙ append_assoc ops more rest in
      let e : at + length (ops ++ more) ≡ k + 2 = omega (arith, length-append ops more) in
      let on : Standing (k + 2) xs = subst (λ n. Standing n xs) e st in
      let fork : From code k (exit p plan s site (k + 2) ∷ Plain op.End ∷ rest) = later code at ops (more ++ rest) from' in
      record {
        to = λ z. by_zero z (k + 2) (k + 1);
        does = break_does p plan hides input code (stage_of p plan site.0 == s) at site cond (k + 2) (Plain op.End ∷ rest) from';
        follows = λ z. left_by z k xs rest none on (next code k _ _ fork);
      }
  head_at x xs (Region r site cond a) at rest t none from st again = absurd t
  head_at x xs (Call f line args) at rest t none from st again = absurd t
