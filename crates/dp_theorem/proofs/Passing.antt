-- From the tests of the text to what the laws ask.
use Rattle.dp_semantics.proofs.Names.{Decides-int_eq, int_eq, ◌≡◌, refl, sym, ap, ◌∙◌, ℕ, zero, suc, ◌-◌, ◌<◌, ◌≤◌, ◌==◌, Bool, true, false, ◌&&◌, ◌||◌, not}
use Rattle.dp_semantics.proofs.Names.{List, [], ◌∷◌, ◌++◌, ℤ, pos, negsuc, Option, Some, None, list_all, list_all-append, and_parts, and_from, arith, lt-ltb}
use Rattle.dp_semantics.proofs.Names.{ltb-true, eq-eqb, eqb-true, nat_lt, Expr, end_of-Expr, more_of-Expr, Stmt, Stmt-F, Assign, Store, Print, If, While}
use Rattle.dp_semantics.proofs.Names.{Region, Break, Call, site_of, Program, loaded_by, cell_count}
use Rattle.std.specs.Prelude.{◌+ℤ◌, ◌-ℤ◌, neg_ℤ, ◌%◌, ◌*◌}
use Rattle.std.proofs.Math.Nat.{mul-mod_left, mul-suc, suc-mul}
use Rattle.std.proofs.lemmas.Int.{ints}
use Rattle.dp_tree.specs.declared.Expr.TheVariants as tree
use Rattle.dp_semantics.proofs.Each.{Each, each_split}
use Rattle.dp_semantics.proofs.Evaluation.{head_loads}
use Rattle.dp_plan.specs.Touch.{Touch, reads, head_reads, head_store, offset}
use Rattle.dp_theorem.proofs.Far.{times, Lies, Both}
use Rattle.dp_plan.specs.IsFar.{Stored, stored_at, stored_place, is_stored, is_strides, apart_by, place_of, shifted, read_passes, far_between, touch_passes}
use Rattle.dp_theorem.proofs.Touches.{head_touch}

times_pos : (q m : ℕ) → times q (pos m) ≡ pos (q * m)
times_pos zero m = omega (arith, ints)
times_pos (suc q) m = ap (λ (z : ℤ). z +ℤ pos m) (times_pos q m) ∙ omega (arith, ints, suc-mul q m)

times_neg : (q m : ℕ) → times q (negsuc m) ≡ neg_ℤ (pos (q * suc m))
times_neg zero m = omega (arith, ints)
times_neg (suc q) m = ap (λ (z : ℤ). z +ℤ negsuc m) (times_neg q m) ∙ omega (arith, ints, suc-mul q (suc m))

-- a stride goes up or down
pub data Stride : ℤ → Type 0 where
  up : (n : ℕ) → Stride (pos (suc n))
  down : (n : ℕ) → Stride (negsuc n)

strides_true : (q : ℕ) (k : ℤ) → 1 ≤ q → Stride k → is_strides k (times q k) ≡ true
strides_true q _ some (up n) =
    ap (is_strides (pos (suc n))) (times_pos q (suc n))
    ∙ and_from (nat_lt 0 (q * suc n)) ((q * suc n) % suc n == 0) (lt-ltb 0 (q * suc n) (omega (arith, mul-suc q n, some)))
    (eq-eqb ((q * suc n) % suc n) 0 (mul-mod_left q (suc n)))
strides_true q _ some (down n) =
    let below : neg_ℤ (pos (q * suc n)) ≡ negsuc (q * suc n - 1) = omega (arith, ints, mul-suc q n, some) in
    let back : suc (q * suc n - 1) ≡ q * suc n = omega (arith, mul-suc q n, some) in
    ap (is_strides (negsuc n)) (times_neg q n ∙ below) ∙ eq-eqb (suc (q * suc n - 1) % suc n) 0 (ap (λ (x : ℕ). x % suc n) back ∙ mul-mod_left q (suc n))

-- The test of two places says that no number of strides lies between them.
pub never_between : (k stored loaded : ℤ) → Stride k → apart_by k stored loaded ≡ true → (q : ℕ) → 1 ≤ q → stored ≡ loaded +ℤ times q k → ⊥
never_between k stored loaded stride t q some e =
    let between : stored -ℤ loaded ≡ times q k = omega (arith, ints, e) in
    let found : is_strides k (stored -ℤ loaded) ≡ true = ap (is_strides k) between ∙ strides_true q k some stride in
    let clash : false ≡ true = sym (ap not found) ∙ t in absurd (cc clash)

-- The variables that a text reads have cells, where those that it may load do.
module _ (p : Program) where
  abbrev Celled : List ℕ → Type 0
  Celled xs = Each (λ x. 0 < cell_count p (record { 0 = x })) xs

  abbrev pub celled : Touch → Bool
  celled t = nat_lt 0 (cell_count p (record { 0 = t.variable }))

  two : (a b : List Touch) → list_all celled a ≡ true → list_all celled b ≡ true → list_all celled (a ++ b) ≡ true
  two a b h k = list_all-append celled a b ∙ and_from _ _ h k

  parts : (a b : Expr) → Celled (loaded_by a ++ loaded_by b) → Celled (loaded_by a) × Celled (loaded_by b)
  parts a b h = each_split (λ x. 0 < cell_count p (record { 0 = x })) (loaded_by a) (loaded_by b) h

  reads_celled : (e : Expr) → Celled (loaded_by e) → list_all celled (reads e) ≡ true
  reads_celled (tree.Input' _ (more_of-Expr a end_of-Expr)) h = reads_celled a h
  reads_celled (tree.Scalar x) h = and_from _ _ (lt-ltb 0 (cell_count p x) h.0) refl
  reads_celled (tree.Element' x _ (more_of-Expr a end_of-Expr)) h =
      two (reads a) (record { variable = x.0; index = Some a } ∷ []) (reads_celled a h.1) (and_from _ _ (lt-ltb 0 (cell_count p x) h.0) refl)
  reads_celled (tree.Unary' op _ (more_of-Expr a end_of-Expr)) h = reads_celled a h
  reads_celled (tree.Binary' op _ (more_of-Expr a end_of-Expr) _ (more_of-Expr b end_of-Expr)) h =
      two (reads a) (reads b) (reads_celled a (parts a b h).0) (reads_celled b (parts a b h).1)
  reads_celled (tree.And' _ (more_of-Expr a end_of-Expr) _ (more_of-Expr b end_of-Expr)) h =
      two (reads a) (reads b) (reads_celled a (parts a b h).0) (reads_celled b (parts a b h).1)
  reads_celled (tree.Or' _ (more_of-Expr a end_of-Expr) _ (more_of-Expr b end_of-Expr)) h =
      two (reads a) (reads b) (reads_celled a (parts a b h).0) (reads_celled b (parts a b h).1)
  reads_celled _ h = refl

  head_celled : (h : Stmt-F Stmt) → Celled (head_loads h) → list_all celled (head_reads h) ≡ true
  head_celled (Assign site x e) c = reads_celled e c
  head_celled (Store site x index e) c = two (reads index) (reads e) (reads_celled index (parts index e c).0) (reads_celled e (parts index e c).1)
  head_celled (Print site e) c = reads_celled e c
  head_celled (If site cond a b) c = reads_celled cond c
  head_celled (While site cond a) c = reads_celled cond c
  head_celled (Region r site cond a) c = reads_celled cond c
  head_celled (Break site cond) c = reads_celled cond c
  head_celled (Call f line args) c = refl

-- a test of both
pub pair_all : {X : Type 0} (f g : X → Bool) (xs : List X) → list_all f xs ≡ true → list_all g xs ≡ true → list_all (λ x. f x && g x) xs ≡ true
pair_all f g [] h k = refl
pair_all f g (x ∷ xs) h k = let a = and_parts (f x) (list_all f xs) h in let b = and_parts (g x) (list_all g xs) k in
    and_from _ _ (and_from (f x) (g x) a.0 b.0) (pair_all f g xs a.1 b.1)

module _ (p : Program) (test : ℤ → ℤ → Bool) (v d u : ℕ) (s : Stored) (shift : ℤ) where
  -- the loaded places that pass
  abbrev pub Passed : ℤ → Type 0
  Passed place = test s.place place ≡ true

  when_here : (b c : Bool) → (not b || c) ≡ true → b ≡ true → c ≡ true
  when_here true c e t = e
  when_here false c e t = absurd (cc)

  placed : (index : Option Expr) (n : ℤ) → place_of v shift index ≡ Some n → Lies p v d u s.array s.place Passed shift index n
  placed None n e = absurd (cc)
  placed (Some text) n e = by (offset v text) refl e
    where
      by : (o : Option ℤ) → offset v text ≡ o → shifted shift o ≡ Some n → Lies p v d u s.array s.place Passed shift (Some text) n
      by None q e = absurd (cc)
      by (Some plain) q e = let same : plain +ℤ shift ≡ n = cc e in record { text = text; plain = plain; index_is = refl; offset_is = q; place_is = same }

  stores_there : (store : Option Touch) → is_stored s (stored_at v shift store) ≡ true → (index : Option Expr)
      × (store ≡ Some (record { variable = s.array; index = index })) × Lies p v d u s.array s.place Passed shift index s.place
  stores_there None e = absurd (cc)
  stores_there (Some t) e = by (place_of v shift t.index) refl e
    where
      by : (o : Option ℤ) → place_of v shift t.index ≡ o → is_stored s (stored_place t.variable o) ≡ true → (index : Option Expr)
          × (Some t ≡ Some (record { variable = s.array; index = index })) × Lies p v d u s.array s.place Passed shift index s.place
      by None q e = absurd (cc)
      by (Some n) q e =
          let both = and_parts (t.variable == s.array) (int_eq n s.place) e in
          let array = eqb-true t.variable s.array both.0 in
          let same : n ≡ s.place = (Decides-int_eq n s.place).0 both.1 in
          (t.index, ap (λ (x : ℕ). Some (record { variable = x; index = t.index })) array, placed t.index s.place (q ∙ ap (λ (m : ℤ). Some m) same))

  reads_there : (t : Touch) → read_passes test v s.array s.place shift t ≡ true → t.variable ≡ s.array → (place : ℤ)
      × Lies p v d u s.array s.place Passed shift t.index place × Passed place
  reads_there t e here = by (place_of v shift t.index) refl (when_here (t.variable == s.array) (far_between test s.place (place_of v shift t.index)) e
      (eq-eqb t.variable s.array here))
    where
      by : (o : Option ℤ) → place_of v shift t.index ≡ o → far_between test s.place o ≡ true → (place : ℤ)
          × Lies p v d u s.array s.place Passed shift t.index place × Passed place
      by None q e = absurd (cc)
      by (Some n) q e = (n, placed t.index n q, e)

  -- A head whose touch passes stores and loads as the laws ask.
  pub both_there : (h : Stmt-F Stmt) → Each (λ x. 0 < cell_count p (record { 0 = x })) (head_loads h) → touch_passes test v d u s shift (head_touch h) ≡ true →
      Both p v d u s.array s.place Passed shift h
  both_there h cells e =
      let both = and_parts (not ((site_of h).0 == d) || is_stored s (stored_at v shift (head_store h)))
      (not ((site_of h).0 == u) || list_all (read_passes test v s.array s.place shift) (head_reads h)) e in (
        (λ at. stores_there (head_store h) (when_here ((site_of h).0 == d) (is_stored s (stored_at v shift (head_store h))) both.0
            (eq-eqb (site_of h).0 d at))),
        (λ at. record {
          test = λ t. celled p t && read_passes test v s.array s.place shift t;
          all = pair_all (celled p) (read_passes test v s.array s.place shift) (head_reads h) (head_celled p h cells)
              (when_here ((site_of h).0 == u) (list_all (read_passes test v s.array s.place shift) (head_reads h)) both.1 (eq-eqb (site_of h).0 u at));
          cells = λ t q. ltb-true 0 (cell_count p (record { 0 = t.variable })) (and_parts (celled p t) (read_passes test v s.array s.place shift t) q).0;
          places = λ t q here. reads_there t (and_parts (celled p t) (read_passes test v s.array s.place shift t) q).1 here;
        }),
      )
