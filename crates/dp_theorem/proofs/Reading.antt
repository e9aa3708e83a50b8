-- What an evaluation loads, by the elements that its text names, and what an index amounts to.
use Rattle.dp_semantics.proofs.Names.{◌≡◌, refl, sym, ap, ◌∙◌, subst, ℕ, ◌+◌, ◌<◌, Bool, true, false, if◌then◌else◌, List, [], ◌∷◌, ◌++◌, ℤ, pos, negsuc}
use Rattle.dp_semantics.proofs.Names.{length, get_or, nat_lt, Option, Some, None, Result, Ok, Err, arith, ltb-true, list_all, list_all-append, and_parts}
use Rattle.dp_semantics.proofs.Names.{FaultKind, binary_result, unary_result, is_zero, Expr, end_of-Expr, more_of-Expr, Program, Stmt, Stmt-F, Assign, Store}
use Rattle.dp_semantics.proofs.Names.{Print, If, While, Region, Break, Call, Load, WithLoads, Evaluated, just, after_loads, and_then, without_loads, place}
use Rattle.dp_semantics.proofs.Names.{load, first_cell, cell_count, eval, Effect, evaluated}
use Rattle.dp_tree.specs.declared.Expr.TheVariants as tree
use Rattle.dp_base.specs.declared.FaultKind.TheVariants.{Index}
use Rattle.dp_semantics.proofs.Each.{Each, each_join}
use Rattle.dp_plan.specs.Touch.{Touch, reads, head_reads}

-- the parts of an evaluation that follows another one
pub record Then (X Y : Type 0) (u : Evaluated X) (f : X → Evaluated Y) (w : WithLoads Y) : Type 0 where
  pub first : WithLoads X
  pub second : WithLoads Y
  pub was : u ≡ Ok first
  pub next : f first.value ≡ Ok second
  pub is : w ≡ record { value = second.value; loads = first.loads ++ second.loads }

pub then_parts : {X Y : Type 0} (u : Evaluated X) (f : X → Evaluated Y) (w : WithLoads Y) → and_then u f ≡ Ok w → Then X Y u f w
then_parts {X} {Y} (Ok x) f w e = by (f x.value) refl e
  where
    by : (r : Evaluated Y) → f x.value ≡ r → after_loads x.loads r ≡ Ok w → Then X Y (Ok x) f w
    by (Ok y) g e = record { first = x; second = y; was = refl; next = g; is = sym (cc e) }
    by (Err kind) g e = absurd (cc)
then_parts (Err kind) f w e = absurd (cc)

-- a value of the place
pub place_is : (i : ℤ) (n : ℕ) (w : WithLoads ℕ) → place i n ≡ Ok w → (i ≡ pos w.value) × (w.loads ≡ []) × (w.value < n)
place_is (pos i) n w e = by (nat_lt i n) refl e
  where
    by : (b : Bool) → nat_lt i n ≡ b → (if b then just i else Err Index) ≡ Ok w → (pos i ≡ pos w.value) × (w.loads ≡ []) × (w.value < n)
    by true t e =
        let same : record { value = i; loads = [] } ≡ w = cc e in
        let low = ltb-true i n t in
        let value : i ≡ w.value = ap (λ (u : WithLoads ℕ). u.value) same in
        (ap (λ (u : WithLoads ℕ). pos u.value) same, sym (ap (λ (u : WithLoads ℕ). u.loads) same), omega (arith, low, value))
    by false t e = absurd (cc)
place_is (negsuc i) n w e = absurd (cc)

no_loads : (r : Result ℤ FaultKind) (w : WithLoads ℤ) → without_loads r ≡ Ok w → w.loads ≡ []
no_loads (Ok x) w e = let same : record { value = x; loads = [] } ≡ w = cc e in sym (ap (λ (u : WithLoads ℤ). u.loads) same)
no_loads (Err kind) w e = absurd (cc)

just_loads : {X : Type 0} (x : X) (w : WithLoads X) → just x ≡ Ok w → w.loads ≡ []
just_loads {X} x w e = let same : record { value = x; loads = [] } ≡ w = cc e in sym (ap (λ (u : WithLoads X). u.loads) same)

module _ (p : Program) (input cells : List ℤ) where
  -- the load is of what is read: the variable's first cell, or the element at the index
  abbrev pub Loaded : ℕ → Option Expr → ℕ → Type 0
  Loaded x None c = c ≡ first_cell p (record { 0 = x })
  Loaded x (Some e) c = (w : WithLoads ℤ) × (k : ℕ) × (eval p input cells e ≡ Ok w) × (w.value ≡ pos k) × (c ≡ first_cell p (record { 0 = x }) + k)
      × (k < cell_count p (record { 0 = x }))

  module _ (test : Touch → Bool) where
    -- a load of something that passes the test
    abbrev pub Passes : Load → Type 0
    Passes l = (t : Touch) × (test t ≡ true) × Loaded t.variable t.index l.cell

    abbrev Pass : List Load → Type 0
    Pass loads = Each Passes loads

    none_pass : (loads : List Load) → loads ≡ [] → Pass loads
    none_pass [] e = tt
    none_pass (l ∷ rest) e = absurd (cc)

    both_pass : {X Y : Type 0} (u : Evaluated X) (f : X → Evaluated Y) (w : WithLoads Y) → and_then u f ≡ Ok w → ((v : WithLoads X) → u ≡ Ok v → Pass v.loads) →
        ((x : X) (v : WithLoads Y) → f x ≡ Ok v → Pass v.loads) → Pass w.loads
    both_pass {X} {Y} u f w e h k =
        let q = then_parts u f w e in
        subst Pass (sym (ap (λ (v : WithLoads Y). v.loads) q.is)) (each_join Passes q.first.loads q.second.loads (h q.first q.was)
        (k q.first.value q.second q.next))

    tests : (a b : List Touch) → list_all test (a ++ b) ≡ true → (list_all test a ≡ true) × (list_all test b ≡ true)
    tests a b h = and_parts (list_all test a) (list_all test b) (sym (list_all-append test a b) ∙ h)

    if_pass : {X : Type 0} (b : Bool) (u f : Evaluated X) (w : WithLoads X) → (if b then u else f) ≡ Ok w → (u ≡ Ok w → Pass w.loads) →
        (f ≡ Ok w → Pass w.loads) → Pass w.loads
    if_pass true u f w e h k = h e
    if_pass false u f w e h k = k e

    one_load : (x : ℕ) (i : Option Expr) (c : ℕ) (w : WithLoads ℤ) → load cells c ≡ Ok w → test (record { variable = x; index = i }) ≡ true →
        Loaded x i c → Pass w.loads
    one_load x i c w e t h =
        let same : record { value = get_or cells c (pos 0); loads = record { cell = c; value = get_or cells c (pos 0) } ∷ [] } ≡ w = cc e in
        subst Pass (ap (λ (u : WithLoads ℤ). u.loads) same) ((record { variable = x; index = i }, t, h), tt)

    truth_pass : (u : Evaluated ℤ) (g : ℤ → ℤ) (w : WithLoads ℤ) → and_then u (λ z. just (g z)) ≡ Ok w →
        ((v : WithLoads ℤ) → u ≡ Ok v → Pass v.loads) → Pass w.loads
    truth_pass u g w e h = both_pass u (λ z. just (g z)) w e h (λ x v q. none_pass v.loads (just_loads (g x) v q))

    -- each load of an expression is of what it names
    pub eval_reads : (e : Expr) (w : WithLoads ℤ) → eval p input cells e ≡ Ok w → list_all test (reads e) ≡ true → Pass w.loads
    unfolding eval
    eval_reads (tree.Number n) w e t = none_pass w.loads (just_loads n w e)
    eval_reads (tree.Input' _ (more_of-Expr a end_of-Expr)) w e t =
        both_pass (eval p input cells a) _ w e (λ v q. eval_reads a v q t)
        (λ i v q. both_pass (place i (length input)) _ v q (λ u f. none_pass u.loads (place_is i (length input) u f).1)
        (λ k u f. none_pass u.loads (just_loads _ u f)))
    eval_reads tree.InputLen w e t = none_pass w.loads (just_loads (pos (length input)) w e)
    eval_reads (tree.Scalar x) w e t = one_load x.0 None (first_cell p x) w e (and_parts _ _ t).0 refl
    eval_reads (tree.Element' x _ (more_of-Expr a end_of-Expr)) w e t =
        let both = tests (reads a) (record { variable = x.0; index = Some a } ∷ []) t in
        let q = then_parts (eval p input cells a) (λ i. and_then (place i (cell_count p x)) (λ k. load cells (first_cell p x + k))) w e in
        let r = then_parts (place q.first.value (cell_count p x)) (λ k. load cells (first_cell p x + k)) q.second q.next in
        let at = place_is q.first.value (cell_count p x) r.first r.was in
        subst Pass (sym (ap (λ (v : WithLoads ℤ). v.loads) q.is)) (each_join Passes q.first.loads q.second.loads (eval_reads a q.first q.was both.0)
        (subst Pass (sym (ap (λ (v : WithLoads ℤ). v.loads) r.is)) (each_join Passes r.first.loads r.second.loads (none_pass r.first.loads at.1)
        (one_load x.0 (Some a) (first_cell p x + r.first.value) r.second r.next (and_parts _ _ both.1).0 (q.first, r.first.value, q.was, at.0, refl, at.2)))))
    eval_reads (tree.Unary' op _ (more_of-Expr a end_of-Expr)) w e t =
        both_pass (eval p input cells a) _ w e (λ v q. eval_reads a v q t) (λ x v q. none_pass v.loads (no_loads (unary_result op x) v q))
    eval_reads (tree.Binary' op _ (more_of-Expr a end_of-Expr) _ (more_of-Expr b end_of-Expr)) w e t =
        let both = tests (reads a) (reads b) t in
        both_pass (eval p input cells a) _ w e (λ v q. eval_reads a v q both.0) (λ x v q. both_pass (eval p input cells b) _ v q
        (λ u f. eval_reads b u f both.1) (λ y u f. none_pass u.loads (no_loads (binary_result op x y) u f)))
    eval_reads (tree.And' _ (more_of-Expr a end_of-Expr) _ (more_of-Expr b end_of-Expr)) w e t =
        let both = tests (reads a) (reads b) t in
        both_pass (eval p input cells a) _ w e (λ v q. eval_reads a v q both.0)
        (λ x v q. if_pass (is_zero x) _ _ v q (λ f. none_pass v.loads (just_loads _ v f))
        (λ f. truth_pass (eval p input cells b) _ v f (λ u g. eval_reads b u g both.1)))
    eval_reads (tree.Or' _ (more_of-Expr a end_of-Expr) _ (more_of-Expr b end_of-Expr)) w e t =
        let both = tests (reads a) (reads b) t in
        both_pass (eval p input cells a) _ w e (λ v q. eval_reads a v q both.0)
        (λ x v q. if_pass (is_zero x) _ _ v q (λ f. truth_pass (eval p input cells b) _ v f (λ u g. eval_reads b u g both.1))
        (λ f. none_pass v.loads (just_loads _ v f)))

    decided_pass : (a : Expr) (g : ℤ → Effect) (w : WithLoads Effect) → and_then (eval p input cells a) (λ z. just (g z)) ≡ Ok w →
        list_all test (reads a) ≡ true → Pass w.loads
    decided_pass a g w e t =
        both_pass (eval p input cells a) (λ z. just (g z)) w e (λ v q. eval_reads a v q t) (λ x v q. none_pass v.loads (just_loads (g x) v q))

    -- and so is each load of a statement's site
    pub head_loaded : (h : Stmt-F Stmt) (w : WithLoads Effect) → evaluated p input cells h ≡ Ok w → list_all test (head_reads h) ≡ true → Pass w.loads
    head_loaded (Assign site x a) w e t = decided_pass a _ w e t
    head_loaded (Store site x index a) w e t =
        let both = tests (reads index) (reads a) t in
        both_pass (eval p input cells index) _ w e (λ v q. eval_reads index v q both.0) (λ i v q. both_pass (eval p input cells a) _ v q
        (λ u f. eval_reads a u f both.1)
        (λ z u f. both_pass (place i (cell_count p x)) _ u f (λ y g. none_pass y.loads (place_is i (cell_count p x) y g).1)
        (λ k y g. none_pass y.loads (just_loads _ y g))))
    head_loaded (Print site a) w e t = decided_pass a _ w e t
    head_loaded (If site cond a b) w e t = decided_pass cond _ w e t
    head_loaded (While site cond a) w e t = decided_pass cond _ w e t
    head_loaded (Region r site cond a) w e t = decided_pass cond _ w e t
    head_loaded (Break site cond) w e t = decided_pass cond _ w e t
    head_loaded (Call f line args) w e t = absurd (cc)
