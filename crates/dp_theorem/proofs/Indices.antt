-- The variables of an index are among those that its site loads.
use Rattle.dp_semantics.proofs.Names.{◌≡◌, inl, inr, refl, sym, ap, ◌∙◌, subst, ℕ, ◌==◌, Bool, true, ◌||◌, List, [], ◌∷◌, ◌++◌, ℤ, pos, Option, Some, None}
use Rattle.dp_semantics.proofs.Names.{list_all, list_any, list_all-append, and_parts, and_from, or-true, eq-eqb, eqb-true, cases_Bool, Expr, end_of-Expr}
use Rattle.dp_semantics.proofs.Names.{more_of-Expr, Stmt, Stmt-F, Assign, Store, Print, If, While, Region, Break, Call, loaded_by}
use Rattle.dp_tree.specs.declared.Expr.TheVariants as tree
use Rattle.dp_base.specs.declared.BinOp.{BinOp}
use Rattle.dp_base.specs.declared.BinOp.TheVariants as op
use Rattle.dp_semantics.proofs.Each.{Each, each_map, all_make}
use Rattle.dp_semantics.proofs.Evaluation.{head_loads}
use Rattle.dp_plan.specs.Touch.{Touch, reads, head_reads, offset, added, when_so, is_var, literal_in}
use Rattle.dp_theorem.proofs.Offsets as offsets

-- the variable is one of these
abbrev pub is_among : List ℕ → ℕ → Bool
is_among xs y = list_any (λ z. z == y) xs

pub each_among : (xs : List ℕ) → Each (λ y. is_among xs y ≡ true) xs
each_among [] = tt
each_among (x ∷ xs) = (
  ap (λ (b : Bool). b || is_among xs x) (eq-eqb x x refl),
  each_map (λ y. is_among xs y ≡ true) (λ y. is_among (x ∷ xs) y ≡ true) (λ y h. ap
      (λ (b : Bool). (x == y) || b) h ∙ or-true (x == y)) xs (each_among xs),
)

pub all_among : (xs : List ℕ) → list_all (is_among xs) xs ≡ true
all_among xs = all_make (is_among xs) xs (each_among xs)

pub among_each : (Q : ℕ → Type 0) (xs : List ℕ) → Each Q xs → (y : ℕ) → is_among xs y ≡ true → Q y
among_each Q [] h y e = absurd (cc)
among_each Q (x ∷ xs) h y e = elim (cases_Bool (x == y)) [
  | inl t ↦ subst Q (eqb-true x y t) h.0
  | inr f ↦ among_each Q xs h.1 y (ap (λ (b : Bool). b || is_among xs y) (sym f) ∙ e)
]

-- each variable of the index passes
abbrev pub index_passes : (ℕ → Bool) → Option Expr → Bool
index_passes f None = true
index_passes f (Some e) = list_all f (loaded_by e)

module _ (f : ℕ → Bool) where
  abbrev pub fine : Touch → Bool
  fine t = index_passes f t.index

  two : (a b : List Touch) → list_all fine a ≡ true → list_all fine b ≡ true → list_all fine (a ++ b) ≡ true
  two a b h k = list_all-append fine a b ∙ and_from _ _ h k

  parts : (a b : List ℕ) → list_all f (a ++ b) ≡ true → (list_all f a ≡ true) × (list_all f b ≡ true)
  parts a b h = and_parts (list_all f a) (list_all f b) (sym (list_all-append f a b) ∙ h)

  reads_fine : (e : Expr) → list_all f (loaded_by e) ≡ true → list_all fine (reads e) ≡ true
  reads_fine (tree.Number n) h = refl
  reads_fine (tree.Input' _ (more_of-Expr a end_of-Expr)) h = reads_fine a h
  reads_fine (tree.Element' x _ (more_of-Expr a end_of-Expr)) h = let q = and_parts (f x.0) (list_all f (loaded_by a)) h in
      two (reads a) (record { variable = x.0; index = Some a } ∷ []) (reads_fine a q.1) (and_from _ _ q.1 refl)
  reads_fine (tree.Unary' o _ (more_of-Expr a end_of-Expr)) h = reads_fine a h
  reads_fine (tree.Binary' o _ (more_of-Expr a end_of-Expr) _ (more_of-Expr b end_of-Expr)) h =
      let q = parts (loaded_by a) (loaded_by b) h in two (reads a) (reads b) (reads_fine a q.0) (reads_fine b q.1)
  reads_fine (tree.And' _ (more_of-Expr a end_of-Expr) _ (more_of-Expr b end_of-Expr)) h =
      let q = parts (loaded_by a) (loaded_by b) h in two (reads a) (reads b) (reads_fine a q.0) (reads_fine b q.1)
  reads_fine (tree.Or' _ (more_of-Expr a end_of-Expr) _ (more_of-Expr b end_of-Expr)) h =
      let q = parts (loaded_by a) (loaded_by b) h in two (reads a) (reads b) (reads_fine a q.0) (reads_fine b q.1)
  reads_fine _ h = refl

  pub head_fine : (h : Stmt-F Stmt) → list_all f (head_loads h) ≡ true → list_all fine (head_reads h) ≡ true
  head_fine (Assign site x e) c = reads_fine e c
  head_fine (Store site x index e) c = let q = parts (loaded_by index) (loaded_by e) c in two (reads index) (reads e) (reads_fine index q.0) (reads_fine e q.1)
  head_fine (Print site e) c = reads_fine e c
  head_fine (If site cond a b) c = reads_fine cond c
  head_fine (While site cond a) c = reads_fine cond c
  head_fine (Region r site cond a) c = reads_fine cond c
  head_fine (Break site cond) c = reads_fine cond c
  head_fine (Call g line args) c = refl

  -- the variable that an index moves with is one of its variables
  var_passes : (v : ℕ) (e : Expr) → is_var v e ≡ true → list_all f (loaded_by e) ≡ true → f v ≡ true
  var_passes v (tree.Scalar x) t h = subst (λ (y : ℕ). f y ≡ true) (eqb-true x.0 v t) (and_parts (f x.0) true h).0
  var_passes v _ t h = absurd (cc)

  added_passes : (v : ℕ) (o : BinOp) (a b : Expr) (n : ℤ) → added v o a b ≡ Some n → list_all f (loaded_by a ++ loaded_by b) ≡ true → f v ≡ true
  added_passes v op.Add a b n t h =
      let q = parts (loaded_by a) (loaded_by b) h in
      elim (offsets.or_parts (when_so (is_var v a) (literal_in b)) (when_so (is_var v b) (literal_in a)) n t) [
        | inl g ↦ var_passes v a (offsets.when_parts (is_var v a) (literal_in b) n g).0 q.0
        | inr g ↦ var_passes v b (offsets.when_parts (is_var v b) (literal_in a) n g).0 q.1
      ]
  added_passes v op.Sub a b n t h =
      let q = parts (loaded_by a) (loaded_by b) h in
      let minus = offsets.negated_is (when_so (is_var v a) (literal_in b)) n t in
      var_passes v a (offsets.when_parts (is_var v a) (literal_in b) minus.0 minus.1).0 q.0
  added_passes v _ a b n t h = absurd (cc)

  pub offset_passes : (v : ℕ) (e : Expr) (n : ℤ) → offset v e ≡ Some n → list_all f (loaded_by e) ≡ true → f v ≡ true
  offset_passes v (tree.Scalar x) n t h =
      subst (λ (y : ℕ). f y ≡ true) (eqb-true x.0 v (offsets.when_parts (x.0 == v) (Some (pos 0)) n t).0) (and_parts (f x.0) true h).0
  offset_passes v (tree.Binary' o _ (more_of-Expr a end_of-Expr) _ (more_of-Expr b end_of-Expr)) n t h = added_passes v o a b n t h
  offset_passes v _ n t h = absurd (cc)
