-- A statement and the one that stands for it evaluate alike: the same fault, or effects that leave the same values.
use Rattle.std.proofs.Common.{◌≡◌, refl, subst, ℕ, ◌+◌, ◌<◌, Bool, true, false, if◌then◌else◌, List, [], ◌∷◌, ◌++◌, ℤ, pos, negsuc, length, slice_set, Result}
use Rattle.std.proofs.Common.{Ok, Err, nat_lt, arith, ltb-true}
use Rattle.dp_base.specs.declared.FaultKind.{FaultKind}
use Rattle.dp_base.specs.declared.FaultKind.TheVariants.{Index}
use Rattle.dp_base.specs.declared.VarId.{VarId}
use Rattle.dp_tree.specs.declared.Expr.{Expr}
use Rattle.dp_tree.specs.declared.Program.{Program}
use Rattle.dp_tree.specs.Eval.{Load, WithLoads, Evaluated, just, after_loads, and_then, place, eval, first_cell, cell_count, result_of}
use Rattle.dp_tree.specs.Event.{Effect, Stored, Printed, Decided, value_of, stored}
use Rattle.dp_tree.specs.Step.{decided}
use Rattle.dp_tree.specs.Trace.{printed_by}
use Rattle.dp_tree.specs.Scoping.{sees, knows}
use Rattle.dp_calls.specs.Frame.{global_count}
use Rattle.dp_calls.specs.Renaming.{target_of, renamed}
use Rattle.dp_calls.proofs.Relation.{Env, Laid, IsEnv, Declares, known, new, Held, file, held, Agree, Room}
use Rattle.dp_calls.proofs.SameValues.{same_value, sees_more}
use Rattle.dp_calls.proofs.Visible.{reads_visible, own_at}
use Rattle.dp_calls.proofs.Written.{After, unchanged, file_stored, own_stored, fewer}

-- what two evaluations that come out alike give
pub value_is : {X : Type 0} {x y : X} → ◌≡◌ {A = Result X FaultKind} (Ok x) (Ok y) → x ≡ y
value_is w = cc (w)

pub kind_is : {X : Type 0} {kind other : FaultKind} → ◌≡◌ {A = Result X FaultKind} (Err kind) (Err other) → kind ≡ other
kind_is w = cc (w)

-- two effects with the same value and print, after which a relation holds of the memories
pub record EffectsAlike (R : List ℤ → List ℤ → Type 0) (a b : List ℤ) (u v : Effect) : Type 0 where
  pub value : value_of u ≡ value_of v
  pub printed : printed_by u ≡ printed_by v
  pub after : R (stored u a) (stored v b)

-- two evaluations that fault alike, or have such effects
pub data EvaluatesAlike (R : List ℤ → List ℤ → Type 0) (a b : List ℤ) : Evaluated Effect → Evaluated Effect → Type 0 where
  faults : (kind : FaultKind) → EvaluatesAlike R a b (Err kind) (Err kind)
  goes : (v w : WithLoads Effect) → EffectsAlike R a b v.value w.value → EvaluatesAlike R a b (Ok v) (Ok w)

module _ {R : List ℤ → List ℤ → Type 0} {a b : List ℤ} where
  after_both : (l m : List Load) (u v : Evaluated Effect) → EvaluatesAlike R a b u v → EvaluatesAlike R a b (after_loads l u) (after_loads m v)
  after_both l m u v (faults kind) = faults kind
  after_both l m u v (goes x y alike) = goes (record { value = x.value; loads = l ++ x.loads }) (record { value = y.value; loads = m ++ y.loads }) alike

  -- alike behind evaluations with the same result
  pub then_alike : {X : Type 0} (u v : Evaluated X) (f g : X → Evaluated Effect) → result_of u ≡ result_of v → ((x : X) → EvaluatesAlike R a b (f x) (g x)) →
      EvaluatesAlike R a b (and_then u f) (and_then v g)
  then_alike {X = X} (Ok x) (Ok y) f g same each =
      let is : x.value ≡ y.value = value_is same in
      after_both x.loads y.loads (f x.value) (g y.value) (subst (λ (w : X). EvaluatesAlike R a b (f x.value) (g w)) is (each x.value))
  then_alike {X = X} (Err kind) (Err other) f g same each =
      subst (λ (k : FaultKind). EvaluatesAlike R a b (Err kind) (Err k)) (kind_is same) (faults kind)
  then_alike (Ok x) (Err other) f g same each = absurd (cc same)
  then_alike (Err kind) (Ok y) f g same each = absurd (cc same)

  alone : (u v : Effect) → EffectsAlike R a b u v → EvaluatesAlike R a b (just u) (just v)
  alone u v alike = goes (record { value = u; loads = [] }) (record { value = v; loads = [] }) alike

  place_by : (i n : ℕ) (f g : ℕ → Evaluated Effect) (t : Bool) → nat_lt i n ≡ t → ((k : ℕ) → k < n → EvaluatesAlike R a b (f k) (g k)) →
      EvaluatesAlike R a b (and_then (if t then just i else Err Index) f) (and_then (if t then just i else Err Index) g)
  place_by i n f g true is each = after_both [] [] (f i) (g i) (each i (ltb-true i n is))
  place_by i n f g false is each = faults Index

  -- alike at each place below the length
  place_alike : (i : ℤ) (n : ℕ) (f g : ℕ → Evaluated Effect) → ((k : ℕ) → k < n → EvaluatesAlike R a b (f k) (g k)) →
      EvaluatesAlike R a b (and_then (place i n) f) (and_then (place i n) g)
  place_alike (pos i) n f g each = place_by i n f g (nat_lt i n) refl each
  place_alike (negsuc i) n f g each = faults Index

  -- one value is stored into these cells
  pub stores_alike : (c d : ℕ) → ((z : ℤ) → R (slice_set a c z) (slice_set b d z)) → (u v : Evaluated ℤ) → result_of u ≡ result_of v →
      EvaluatesAlike R a b (and_then u (λ z. just (Stored c z))) (and_then v (λ z. just (Stored d z)))
  stores_alike c d after u v same =
      then_alike u v (λ z. just (Stored c z)) (λ z. just (Stored d z)) same
      (λ z. alone (Stored c z) (Stored d z) (record { value = refl; printed = refl; after = after z }))

  pub prints_alike : R a b → (u v : Evaluated ℤ) → result_of u ≡ result_of v → EvaluatesAlike R a b (and_then u (λ z. just (Printed z)))
      (and_then v (λ z. just (Printed z)))
  prints_alike after u v same =
      then_alike u v (λ z. just (Printed z)) (λ z. just (Printed z)) same
      (λ z. alone (Printed z) (Printed z) (record { value = refl; printed = refl; after = after }))

  pub decides_alike : R a b → (u v : Evaluated ℤ) → result_of u ≡ result_of v → EvaluatesAlike R a b (decided u) (decided v)
  decides_alike after u v same =
      then_alike u v (λ z. just (Decided z)) (λ z. just (Decided z)) same
      (λ z. alone (Decided z) (Decided z) (record { value = refl; printed = refl; after = after }))

  -- an element is stored
  pub elements_alike : (c d m n : ℕ) → m ≡ n → ((k : ℕ) → k < m → (z : ℤ) → R (slice_set a (c + k) z) (slice_set b (d + k) z)) →
      (i j u v : Evaluated ℤ) → result_of i ≡ result_of j → result_of u ≡ result_of v →
      EvaluatesAlike R a b
      (and_then i (λ i. and_then u (λ z. and_then (place i m) (λ k. just (Stored (c + k) z)))))
      (and_then j (λ i. and_then v (λ z. and_then (place i n) (λ k. just (Stored (d + k) z)))))
  elements_alike c d m n long after i j u v same_index same =
      then_alike i j (λ i. and_then u (λ z. and_then (place i m) (λ k. just (Stored (c + k) z))))
      (λ i. and_then v (λ z. and_then (place i n) (λ k. just (Stored (d + k) z)))) same_index
      (λ i. then_alike u v (λ z. and_then (place i m) (λ k. just (Stored (c + k) z))) (λ z. and_then (place i n) (λ k. just (Stored (d + k) z))) same
      (λ z. subst (λ (l : ℕ). EvaluatesAlike R a b (and_then (place i m) (λ k. just (Stored (c + k) z)))
      (and_then (place i l) (λ k. just (Stored (d + k) z)))) long
      (place_alike i m (λ k. just (Stored (c + k) z)) (λ k. just (Stored (d + k) z))
      (λ k below. alone (Stored (c + k) z) (Stored (d + k) z) (record { value = refl; printed = refl; after = after k below z })))))

module _ (p q : Program) (laid : Laid p q) (input : List ℤ) (e : Env) (env : IsEnv p q e) (visible : List ℕ) (g l h : List ℤ)
    (whole : length g ≡ global_count p) (room : Room p q l h) (agree : Agree p q e visible l h) where
  abbrev Left : List ℕ → List ℤ → List ℤ → Type 0
  Left behind a b = After p q e behind h a b

  pub values : (v : Expr) → knows visible v ≡ true → result_of (eval p input (g ++ l) v) ≡ result_of (eval q input (g ++ h) (renamed e.names v))
  values v k = same_value p q input (g ++ l) (g ++ h) e.names visible (reads_visible p q laid e env g l h whole visible agree) v k

  pub nothing_stored : Left visible (g ++ l) (g ++ h)
  nothing_stored = unchanged p q e env laid visible g l h whole room agree

  stored_held : (x : VarId) (k : ℕ) (z : ℤ) → Held p q e l h x.0 → k < cell_count p x →
      Left visible (slice_set (g ++ l) (first_cell p x + k) z) (slice_set (g ++ h) (first_cell q (target_of e.names x) + k) z)
  stored_held x k z (file less) below = file_stored p q e env laid visible g l h whole room agree x k z less below
  stored_held x k z (held y named same) below =
      fewer p q visible (λ w seen. sees_more x.0 visible w seen) (own_stored p q e env laid visible g l h whole room agree x y k z named below)

  pub element_stored : (x : VarId) → sees visible x ≡ true → (k : ℕ) → k < cell_count p x → (z : ℤ) →
      Left visible (slice_set (g ++ l) (first_cell p x + k) z) (slice_set (g ++ h) (first_cell q (target_of e.names x) + k) z)
  element_stored x seen k below z = stored_held x k z (agree x seen) below

  pub same_length : (x : VarId) → sees visible x ≡ true → cell_count p x ≡ cell_count q (target_of e.names x)
  same_length x seen = (reads_visible p q laid e env g l h whole visible agree x seen).count

  at_first : (behind : List ℕ) (x y : VarId) (z : ℤ) → Left behind (slice_set (g ++ l) (first_cell p x + 0) z) (slice_set (g ++ h) (first_cell q y + 0) z) →
      Left behind (slice_set (g ++ l) (first_cell p x) z) (slice_set (g ++ h) (first_cell q y) z)
  at_first behind x y z left =
      let one : first_cell p x + 0 ≡ first_cell p x = omega arith in let other : first_cell q y + 0 ≡ first_cell q y = omega arith in
      subst (λ (c : ℕ). Left behind (slice_set (g ++ l) c z) (slice_set (g ++ h) (first_cell q y) z)) one
      (subst (λ (c : ℕ). Left behind (slice_set (g ++ l) (first_cell p x + 0) z) (slice_set (g ++ h) c z)) other left)

  pub declared_stored : (x : VarId) (behind : List ℕ) → Declares p q e visible x behind → (z : ℤ) →
      Left behind (slice_set (g ++ l) (first_cell p x) z) (slice_set (g ++ h) (first_cell q (target_of e.names x)) z)
  declared_stored x behind (known seen) z =
      let some : 0 < cell_count p x = (reads_visible p q laid e env g l h whole visible agree x seen).some in
      at_first visible x (target_of e.names x) z (stored_held x 0 z (agree x seen) some)
  declared_stored x behind (new y named) z =
      let one = (own_at p q laid e env x y named).count in let some : 0 < cell_count p x = omega (arith, one) in
      at_first (x.0 ∷ visible) x (target_of e.names x) z (own_stored p q e env laid visible g l h whole room agree x y 0 z named some)
