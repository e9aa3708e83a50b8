-- The code of a statement by its head, and where code stands for a list of statements with its blocks.
use Rattle.dp_semantics.proofs.Names.{opened_statement, ◌≡◌, refl, sym, ap, ◌∙◌, subst, append_assoc, length-append, arith, stage_of, ◌<◌, zero, suc, ℕ, ◌+◌}
use Rattle.dp_semantics.proofs.Names.{◌==◌, if◌then◌else◌, Bool, true, false, List, [], ◌∷◌, ◌++◌, length, ℤ, is_zero, SiteId, Stmt, out-Stmt, roll-Stmt}
use Rattle.dp_semantics.proofs.Names.{roll-out-Stmt, hidden-the_row-Stmt-0, rolls-Assign, rolls-Store, rolls-Print, rolls-If, rolls-While, rolls-Region}
use Rattle.dp_semantics.proofs.Names.{rolls-Break, rolls-Call, Stmt-F, Assign, Store, Print, If, While, Region, Break, Call, Program, Plan, site_of, choose}
use Rattle.dp_semantics.proofs.Names.{region_number, None}
use Rattle.dp_tree.specs.Eval.{cell_count}
use Rattle.dp_net.specs.NetItems.{Marks}
use Rattle.dp_net.proofs.Texts as texts
use Rattle.dp_net.proofs.Texts.{site_at, IsLeaf, Text}
use Rattle.dp_code.specs.declared.Op.TheVariants as op
use Rattle.dp_code.specs.FlatRun.{by_zero}
use Rattle.dp_code.specs.Code.{first_of_var}
unfoldable use Rattle.dp_code.specs.Code.{expr_code}
use Rattle.dp_lean_code.specs.declared.LeanOp.{LeanOp}
use Rattle.dp_lean_code.specs.declared.LeanOp.TheVariants.{Plain}
use Rattle.dp_lean_code.specs.LeanCode.{behind, ending, either, choice, repetition, leaving, value_code, by_stage, test_code, branch, exit, consume}
use Rattle.dp_lean_code.specs.LeanCode.{code_of_head, list_code, row_code}
unfoldable use Rattle.dp_lean_code.specs.LeanCode.{stmt_code}
use Rattle.dp_lean_code.proofs.LeanRunning.{From, later, next}

module _ (m : Marks) where
  -- the statement is of a text: its parts have their blocks whole, and it is no region and no call
  abbrev pub TextHead : Stmt-F Stmt → Type 0
  TextHead (If site cond a b) = Text m a × Text m b
  TextHead (While site cond a) = Text m a
  TextHead (Region r site cond a) = ⊥
  TextHead (Call f line args) = ⊥
  TextHead _ = Unit {0}

  pub leaf_head : (h : Stmt-F Stmt) → IsLeaf h → TextHead h
  leaf_head (Assign site x e) l = tt
  leaf_head (Store site x i e) l = tt
  leaf_head (Print site e) l = tt
  leaf_head (Break site cond) l = tt
  leaf_head _ l = absurd l

  pub head_number : (h : Stmt-F Stmt) → TextHead h → region_number h ≡ None
  head_number (Region r site cond a) t = absurd t
  head_number _ t = refl

module _ (p : Program) (plan : Plan) (s : ℕ) (m : Marks) (inner : SiteId → List Stmt → ℕ → List LeanOp)
    (some_inner : (f : ℕ) (y : Stmt) (ys : List Stmt) → m.block_at f ≡ y ∷ ys → (site : SiteId) (at : ℕ) → 0 < length (inner site (y ∷ ys) at)) where
  abbrev pub code_of : List Stmt → ℕ → List LeanOp
  code_of xs at = list_code p plan s m inner zero xs at

  abbrev pub stmt_of : Stmt → ℕ → List LeanOp
  stmt_of x at = stmt_code p plan s m inner x at

  -- the code of a statement with this head
  abbrev pub head_code : Stmt-F Stmt → ℕ → List LeanOp
  head_code (Assign site x e) at =
      by_stage p plan s site (behind at (value_code p e at) (ending (Plain (op.Store site (first_of_var p x))))) (consume p plan s site x)
  head_code (Store site x index e) at =
      by_stage p plan s site
      (behind at (value_code p index at) (λ k. behind k (value_code p e k) (ending (Plain (op.StoreAt site (first_of_var p x) (cell_count p x))))))
      (consume p plan s site x)
  head_code (Print site e) at = by_stage p plan s site (behind at (value_code p e at) (ending (Plain (op.Print site)))) (Plain (op.ConsumePrint site) ∷ [])
  head_code (If site cond a b) at = behind at (test_code p plan s site cond at) (choice (branch p plan s site) (code_of a) (code_of b))
  head_code (While site cond a) at = behind at (test_code p plan s site cond at) (repetition at (branch p plan s site) (code_of a))
  head_code (Break site cond) at = behind at (test_code p plan s site cond at) (leaving (exit p plan s site))
  head_code _ at = []

  by_head : (block : List Stmt) (x : Stmt) (xs : List Stmt) (at : ℕ) →
      ((n k : ℕ) → row_code p plan s m inner n (hidden-the_row-Stmt-0 xs) k ≡ list_code p plan s m inner n xs k) →
      code_of_head p plan s m inner block (site_of (out-Stmt x)) (λ k. stmt_of x k) (λ n k. row_code p plan s m inner n (hidden-the_row-Stmt-0 xs) k) at
      ≡ code_of_head p plan s m inner block (site_of (out-Stmt x)) (λ k. stmt_of x k) (λ n k. list_code p plan s m inner n xs k) at
  by_head [] x xs at same = ap (λ ops. stmt_of x at ++ ops) (same zero (at + length (stmt_of x at)))
  by_head (y ∷ ys) x xs at same =
      ap (λ ops. inner (site_of (out-Stmt x)) (y ∷ ys) at ++ ops) (same (length ys) (at + length (inner (site_of (out-Stmt x)) (y ∷ ys) at)))

  pub row_hidden : (skipped : ℕ) (xs : List Stmt) (at : ℕ) → row_code p plan s m inner skipped (hidden-the_row-Stmt-0 xs) at ≡ list_code p plan s
      m inner skipped xs at
  unfolding stmt_code opened_statement
  row_hidden skipped [] at = refl
  row_hidden (suc skipped) (x ∷ xs) at = row_hidden skipped xs at
  row_hidden zero (x ∷ xs) at = by_head (m.block_at (site_of (out-Stmt x)).0) x xs at (λ n k. row_hidden n xs k)

  code_roll : (h : Stmt-F Stmt) (at : ℕ) → stmt_of (roll-Stmt h) at ≡ head_code h at
  unfolding stmt_code opened_statement
  code_roll (Assign site x e) at = ap (λ y. stmt_of y at) (rolls-Assign site x e)
  code_roll (Store site x index e) at = ap (λ y. stmt_of y at) (rolls-Store site x index e)
  code_roll (Print site e) at = ap (λ y. stmt_of y at) (rolls-Print site e)
  code_roll (If site cond a b) at = ap (λ y. stmt_of y at) (rolls-If site cond a b)
      ∙ (λ i. behind at (test_code p plan s site cond at) (choice (branch p plan s site) (λ k. row_hidden zero a k i) (λ k. row_hidden zero b k i)))
  code_roll (While site cond a) at = ap (λ y. stmt_of y at) (rolls-While site cond a)
      ∙ (λ i. behind at (test_code p plan s site cond at) (repetition at (branch p plan s site) (λ k. row_hidden zero a k i)))
  code_roll (Region r site cond a) at = ap (λ y. stmt_of y at) (rolls-Region r site cond a)
  code_roll (Break site cond) at = ap (λ y. stmt_of y at) (rolls-Break site cond)
  code_roll (Call f line args) at = ap (λ y. stmt_of y at) (rolls-Call f line args)

  pub code_out : (x : Stmt) (at : ℕ) → stmt_of x at ≡ head_code (out-Stmt x) at
  code_out x at = ap (λ y. stmt_of y at) (sym (roll-out-Stmt x)) ∙ code_roll (out-Stmt x) at

  -- a statement where no block begins, and a whole block
  pub code_alone : (x : Stmt) (xs : List Stmt) (at : ℕ) → m.block_at (site_at x) ≡ [] → code_of (x ∷ xs) at ≡ stmt_of x at
      ++ code_of xs (at + length (stmt_of x at))
  code_alone x xs at none = ap (λ (block : List Stmt). code_of_head p plan s m inner block (site_of (out-Stmt x)) (λ k. stmt_of x k)
      (λ n k. list_code p plan s m inner n xs k) at) none

  pub code_skips : (b xs : List Stmt) (at : ℕ) → list_code p plan s m inner (length b) (b ++ xs) at ≡ code_of xs at
  code_skips [] xs at = refl
  code_skips (x ∷ b) xs at = code_skips b xs at

  pub code_block : (x : Stmt) (b xs : List Stmt) (at : ℕ) → m.block_at (site_at x) ≡ x ∷ b →
      code_of (x ∷ (b ++ xs)) at ≡ inner (site_of (out-Stmt x)) (x ∷ b) at ++ code_of xs (at + length (inner (site_of (out-Stmt x)) (x ∷ b) at))
  code_block x b xs at is = ap (λ (block : List Stmt). code_of_head p plan s m inner block (site_of (out-Stmt x)) (λ k. stmt_of x k)
      (λ n k. list_code p plan s m inner n (b ++ xs) k) at) is
      ∙ ap (λ ops. inner (site_of (out-Stmt x)) (x ∷ b) at ++ ops) (code_skips b xs (at + length (inner (site_of (out-Stmt x)) (x ∷ b) at)))

  -- no statement's code is empty
  some_op : (ops : List LeanOp) (o : LeanOp) (rest : List LeanOp) → 0 < length (ops ++ o ∷ rest)
  some_op ops o rest = omega (arith, length-append ops (o ∷ rest))

  some_either : (own other : List LeanOp) (site : SiteId) → 0 < length own → 0 < length other → 0 < length (by_stage p plan s site own other)
  some_either own other site h k = by (stage_of p plan site.0 == s)
    where
      by : (t : Bool) → 0 < length (if t then own else other)
      by true = h
      by false = k

  some_behind : (ops more : List LeanOp) → 0 < length more → 0 < length (ops ++ more)
  some_behind ops more h = omega (arith, h, length-append ops more)

  some_choice : (site : SiteId) (at : ℕ) (a b : List LeanOp) → 0 < length (either at (branch p plan s site) a b)
  some_choice site at a [] = omega arith
  some_choice site at a (o ∷ b) = omega arith

  pub some_code : (h : Stmt-F Stmt) (at : ℕ) → TextHead m h → 0 < length (head_code h at)
  some_code (Assign site x e) at t =
      some_either _ (consume p plan s site x) site (some_op (value_code p e at) (Plain (op.Store site (first_of_var p x))) []) (omega arith)
  some_code (Store site x index e) at t =
      let k = at + length (value_code p index at) in
      let last = Plain (op.StoreAt site (first_of_var p x) (cell_count p x)) in
      some_either _ (consume p plan s site x) site (some_behind (value_code p index at) (value_code p e k ++ last ∷ [])
      (some_op (value_code p e k) last [])) (omega arith)
  some_code (Print site e) at t = some_either _ (Plain (op.ConsumePrint site) ∷ []) site (some_op (value_code p e at) (Plain (op.Print site)) []) (omega arith)
  some_code (If site cond a b) at t = some_behind (test_code p plan s site cond at) _ (some_choice site _ _ _)
  some_code (While site cond a) at t = some_behind (test_code p plan s site cond at) _ (omega arith)
  some_code (Break site cond) at t = some_behind (test_code p plan s site cond at) _ (omega arith)
  some_code (Region r site cond a) at t = absurd t
  some_code (Call f line args) at t = absurd t

  some_first : (x : Stmt) (xs : List Stmt) (at : ℕ) → m.block_at (site_at x) ≡ [] → TextHead m (out-Stmt x) → 0 < length (code_of (x ∷ xs) at)
  some_first x xs at none t =
      let here = some_code (out-Stmt x) at t in
      let same = ap length (code_out x at) in
      let all = ap length (code_alone x xs at none) in
      omega (arith, here, same, all, length-append (stmt_of x at) (code_of xs (at + length (stmt_of x at))))

  nothing_left : {xs : List Stmt} → Text m xs → (at : ℕ) → [] ≡ code_of xs at → xs ≡ []
  nothing_left texts.ends at e = refl
  nothing_left (texts.leaf {x = x} {rest = rest} plain l t) at e = let some = some_first x rest at plain.0 (leaf_head m (out-Stmt x) l) in
      let none = ap length e in absurd (omega (arith, some, none))
  nothing_left (texts.choice {x = x} {rest = rest} plain is t u v) at e = let some = some_first x rest at plain.0 (subst (TextHead m) (sym is) (t, u)) in
      let none = ap length e in absurd (omega (arith, some, none))
  nothing_left (texts.loop {x = x} {rest = rest} plain is t v) at e = let some = some_first x rest at plain.0 (subst (TextHead m) (sym is) t) in
      let none = ap length e in absurd (omega (arith, some, none))
  nothing_left (texts.block {x = x} {b = b} {rest = rest} is same t) at e =
      let all = ap length (ap (λ (ys : List Stmt). code_of (x ∷ ys) at) same ∙ code_block x b rest at is) in
      let some = some_inner (site_at x) x b is (site_of (out-Stmt x)) at in
      let none = ap length e in
      absurd (omega (
        arith,
        all,
        some,
        none,
        length-append (inner (site_of (out-Stmt x)) (x ∷ b) at) (code_of rest
            (at + length (inner (site_of (out-Stmt x)) (x ∷ b) at))),
      ))

  module _ (code : List LeanOp) (last : ℕ) where
    -- from this place on the code does what these statements do, and then stands at the last place
    pub data Stands : ℕ → List Stmt → Type 0 where
      Over : Stands last []
      Jumps : (at to : ℕ) (xs : List Stmt) (rest : List LeanOp) → From code at (Plain (op.Jump to) ∷ rest) → Stands to xs → Stands at xs
      Here : (at : ℕ) (x : Stmt) (xs : List Stmt) (rest : List LeanOp) → m.block_at (site_at x) ≡ [] → TextHead m (out-Stmt x) →
          From code at (stmt_of x at ++ rest) → Stands (at + length (stmt_of x at)) xs → Stands at (x ∷ xs)
      Whole : (at : ℕ) (x : Stmt) (b more xs : List Stmt) (rest : List LeanOp) → m.block_at (site_at x) ≡ x ∷ b → xs ≡ b ++ more →
          From code at (inner (site_of (out-Stmt x)) (x ∷ b) at ++ rest) →
          Stands (at + length (inner (site_of (out-Stmt x)) (x ∷ b) at)) more → Stands at (x ∷ xs)

    one_stands : (x : Stmt) (xs : List Stmt) (at : ℕ) (rest : List LeanOp) (ys : List Stmt) → m.block_at (site_at x) ≡ [] → TextHead m (out-Stmt x) →
        From code at (code_of (x ∷ xs) at ++ rest) →
        Stands (at + length (code_of (x ∷ xs) at)) ys →
        (From code (at + length (stmt_of x at)) (code_of xs (at + length (stmt_of x at)) ++ rest) →
        Stands (at + length (stmt_of x at) + length (code_of xs (at + length (stmt_of x at)))) ys → Stands (at + length (stmt_of x at)) (xs ++ ys)) →
        Stands at (x ∷ (xs ++ ys))
    one_stands x xs at rest ys none t from st go =
        let ops = stmt_of x at in
        let k = at + length ops in
        let more = code_of xs k in
        let is = code_alone x xs at none in
        let here : From code at (ops ++ (more ++ rest)) = from ∙ ap (λ all. all ++ rest) is ∙ append_assoc ops more rest in
        let size = ap length is in
        let e : at + length (code_of (x ∷ xs) at) ≡ k + length more = omega (arith, size, length-append ops more) in
        Here at x (xs ++ ys) (more ++ rest) none t here (go (later code at ops (more ++ rest) here) (subst (λ n. Stands n ys) e st))

    pub stands_list : {xs : List Stmt} → Text m xs → (at : ℕ) (rest : List LeanOp) (ys : List Stmt) → From code at (code_of xs at ++ rest) →
        Stands (at + length (code_of xs at)) ys → Stands at (xs ++ ys)
    stands_list texts.ends at rest ys from st = let e : at + 0 ≡ at = omega arith in subst (λ k. Stands k ys) e st
    stands_list (texts.leaf {x = x} {rest = xs} plain l t) at rest ys from st =
        one_stands x xs at rest ys plain.0 (leaf_head m (out-Stmt x) l) from st (λ f k. stands_list t _ rest ys f k)
    stands_list (texts.choice {x = x} {rest = xs} plain is a b t) at rest ys from st =
        one_stands x xs at rest ys plain.0 (subst (TextHead m) (sym is) (a, b)) from st (λ f k. stands_list t _ rest ys f k)
    stands_list (texts.loop {x = x} {rest = xs} plain is a t) at rest ys from st =
        one_stands x xs at rest ys plain.0 (subst (TextHead m) (sym is) a) from st (λ f k. stands_list t _ rest ys f k)
    stands_list (texts.block {x = x} {b = b} {rest = xs} {behind = after} is same t) at rest ys from st =
        let ops = inner (site_of (out-Stmt x)) (x ∷ b) at in
        let k = at + length ops in
        let more = code_of xs k in
        let all = ap (λ (zs : List Stmt). code_of (x ∷ zs) at) same ∙ code_block x b xs at is in
        let here : From code at (ops ++ (more ++ rest)) = from ∙ ap (λ all. all ++ rest) all ∙ append_assoc ops more rest in
        let size = ap length all in
        let e : at + length (code_of (x ∷ after) at) ≡ k + length more = omega (arith, size, length-append ops more) in
        Whole at x b (xs ++ ys) (after ++ ys) (more ++ rest) is (ap (λ (zs : List Stmt). zs ++ ys) same ∙ append_assoc b xs ys) here
        (stands_list t k rest ys (later code at ops (more ++ rest) here) (subst (λ n. Stands n ys) e st))

    -- a condition's op at a place, with what stands where its value isn't 0 and where it is
    pub record Forks (site : SiteId) (at : ℕ) (here other : List Stmt) : Type 0 where
      pub to : ℕ
      pub rest : List LeanOp
      pub from : From code at (branch p plan s site to ∷ rest)
      pub at_here : Stands (at + 1) here
      pub at_zero : Stands to other

    -- the place by a value, and what stands there
    pub forked : (site : SiteId) (at : ℕ) (here other : List Stmt) (f : Forks site at here other) (z : ℤ) →
        Stands (by_zero z f.to (at + 1)) (choose z here other)
    forked site at here other f z = by (is_zero z)
      where
        by : (t : Bool) → Stands (if t then f.to else at + 1) (if t then other else here)
        by true = f.at_zero
        by false = f.at_here

    either_forks : (site : SiteId) (at : ℕ) (a b xs : List Stmt) (rest : List LeanOp) (a_code b_code : List LeanOp) → Text m a → Text m b →
        a_code ≡ code_of a (at + 1) → b_code ≡ code_of b (at + 1 + length a_code + 1) →
        From code at (either at (branch p plan s site) a_code b_code ++ rest) → Stands (at + length (either at (branch p plan s site) a_code b_code)) xs →
        Forks site at (a ++ xs) (b ++ xs)
    either_forks site at a b xs rest a_code [] fa fb ea eb from st =
        let to = at + 1 + length a_code in
        let e : at + suc (length a_code) ≡ to = omega arith in
        let behind_it : Stands to xs = subst (λ k. Stands k xs) e st in
        record {
          to = to;
          rest = a_code ++ rest;
          from = from;
          at_here = stands_list fa (at + 1) rest xs (subst (λ ops. From code (at + 1) (ops ++ rest)) ea (next code at _ (a_code ++ rest) from))
              (subst (λ ops. Stands (at + 1 + length ops) xs) ea behind_it);
          at_zero = subst (λ ys. Stands to (ys ++ xs)) (sym (nothing_left fb _ eb)) behind_it;
        }
    either_forks site at a b xs rest a_code (o ∷ b_code) fa fb ea eb from st =
        let k = at + 1 + length a_code in
        let to = k + 1 in
        let last_place = to + length (o ∷ b_code) in
        let jump = Plain (op.Jump last_place) in
        let inside : From code (at + 1) (a_code ++ (jump ∷ ((o ∷ b_code) ++ rest))) = next code at _ _ from ∙ append_assoc a_code (jump ∷ (o ∷ b_code)) rest in
        let at_jump : From code k (jump ∷ ((o ∷ b_code) ++ rest)) = later code (at + 1) a_code _ inside in
        let at_else : From code to ((o ∷ b_code) ++ rest) = next code k jump _ at_jump in
        let e : at + suc (length (a_code ++ jump ∷ (o ∷ b_code))) ≡ last_place = omega (arith, length-append a_code (jump ∷ (o ∷ b_code))) in
        let behind_it : Stands last_place xs = subst (λ n. Stands n xs) e st in
        let jumped : Stands k xs = Jumps k last_place xs _ at_jump behind_it in
        record {
          to = to;
          rest = a_code ++ (jump ∷ ((o ∷ b_code) ++ rest));
          from = from ∙ ap (λ ops. branch p plan s site to ∷ ops) (append_assoc a_code (jump ∷ (o ∷ b_code)) rest);
          at_here = stands_list fa (at + 1) (jump ∷ ((o ∷ b_code) ++ rest)) xs (subst (λ ops. From code (at + 1) (ops ++ (jump ∷ ((o ∷ b_code) ++ rest)))) ea
              inside) (subst (λ ops. Stands (at + 1 + length ops) xs) ea jumped);
          at_zero = stands_list fb to rest xs (subst (λ ops. From code to (ops ++ rest)) eb at_else) (subst (λ ops. Stands (to + length ops) xs) eb behind_it);
        }

    pub choice_forks : (site : SiteId) (at : ℕ) (a b xs : List Stmt) (rest : List LeanOp) → Text m a → Text m b →
        From code at (choice (branch p plan s site) (code_of a) (code_of b) at ++ rest) →
        Stands (at + length (choice (branch p plan s site) (code_of a) (code_of b) at)) xs → Forks site at (a ++ xs) (b ++ xs)
    choice_forks site at a b xs rest fa fb from st =
        either_forks site at a b xs rest (code_of a (at + 1)) (code_of b (at + 1 + length (code_of a (at + 1)) + 1)) fa fb refl refl from st

    pub repetition_forks : (site : SiteId) (start at : ℕ) (a : List Stmt) (x : Stmt) (xs : List Stmt) (rest : List LeanOp) → Text m a →
        From code at (repetition start (branch p plan s site) (code_of a) at ++ rest) →
        Stands (at + length (repetition start (branch p plan s site) (code_of a) at)) xs → Stands start (x ∷ xs) → Forks site at (a ++ x ∷ xs) xs
    repetition_forks site start at a x xs rest fa from st again =
        let ops = code_of a (at + 1) in
        let k = at + 1 + length ops in
        let to = k + 1 in
        let jump = Plain (op.Jump start) in
        let inside : From code (at + 1) (ops ++ (jump ∷ rest)) = next code at _ _ from ∙ append_assoc ops (jump ∷ []) rest in
        let e : at + suc (length (ops ++ jump ∷ [])) ≡ to = omega (arith, length-append ops (jump ∷ [])) in
        record {
          to = to;
          rest = ops ++ (jump ∷ rest);
          from = from ∙ ap (λ more. branch p plan s site to ∷ more) (append_assoc ops (jump ∷ []) rest);
          at_here = stands_list fa (at + 1) (jump ∷ rest) (x ∷ xs) inside (Jumps k start (x ∷ xs) rest (later code (at + 1) ops (jump ∷ rest) inside) again);
          at_zero = subst (λ n. Stands n xs) e st;
        }
