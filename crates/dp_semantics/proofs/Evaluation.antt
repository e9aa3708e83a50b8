-- An evaluation and the same one in another memory: what form its value has, what it loads, and when the two agree.
use Rattle.dp_semantics.proofs.Names.{◌≡◌, refl, ap, ◌∙◌, subst, ℕ, ◌+◌, ◌<◌, ◌≤◌, Bool, true, false, if◌then◌else◌, List, [], ◌∷◌, ◌++◌, ℤ, pos, negsuc}
use Rattle.dp_semantics.proofs.Names.{length, get_or, nat_lt, Option, Some, None, Result, Ok, Err, arith, ltb-true, FaultKind, binary_result, unary_result}
use Rattle.dp_semantics.proofs.Names.{is_zero, Expr, end_of-Expr, more_of-Expr, Program, Stmt, Stmt-F, Assign, Store, Print, If, While, Region, Break, Call}
use Rattle.dp_semantics.proofs.Names.{Load, WithLoads, Evaluated, just, after_loads, and_then, without_loads, place, load, first_cell, cell_count, eval, Effect}
use Rattle.dp_semantics.proofs.Names.{Stored, Printed, Decided, Tried, evaluated, loaded_by, inl, inr, cases_Bool}
use Rattle.dp_tree.specs.declared.Expr.TheVariants as tree
use Rattle.dp_semantics.proofs.Each.{Each, each_split, each_join}

-- the load gave what the memory holds
abbrev pub IsHeld : List ℤ → Load → Type 0
IsHeld cells l = get_or cells l.cell (pos 0) ≡ l.value

abbrev pub Holds : List ℤ → List Load → Type 0
Holds cells loads = Each (IsHeld cells) loads

-- what is known of a value with its loads, and of the same evaluation in another memory
pub record Tracked (X : Type 0) (P : X → Type 0) (Q : Load → Type 0) (cells : List ℤ) (v : WithLoads X) (w : Evaluated X) : Type 0 where
  pub value : P v.value
  pub loads : Each Q v.loads
  pub same : Holds cells v.loads → w ≡ Ok v

-- .. where it gives a value
unfoldable Tracks : {X : Type 0} → (X → Type 0) → (Load → Type 0) → List ℤ → Evaluated X → Evaluated X → Type 0
Tracks {X} P Q cells (Ok v) w = Tracked X P Q cells v w
Tracks P Q cells (Err fault) w = Unit {0}

abbrev Value : ℤ → Type 0
Value z = Unit {0}

abbrev one_load : ℕ → ℤ → Evaluated ℤ
one_load c z = Ok (record { value = z; loads = record { cell = c; value = z } ∷ [] })

module _ (Q : Load → Type 0) (cells : List ℤ) where
  tracks_just : {X : Type 0} (P : X → Type 0) (x : X) → P x → Tracks P Q cells (just x) (just x)
  unfolding Tracks
  tracks_just P x h = record { value = h; loads = tt; same = λ none. refl }

  tracks_same : (r : Result ℤ FaultKind) → Tracks Value Q cells (without_loads r) (without_loads r)
  unfolding Tracks
  tracks_same (Ok x) = tracks_just Value x tt
  tracks_same (Err fault) = tt

  tracks_fault : {X : Type 0} (P : X → Type 0) (fault : FaultKind) (w : Evaluated X) → Tracks P Q cells (Err fault) w
  unfolding Tracks
  tracks_fault P fault w = tt

  tracks_place : (i : ℤ) (n : ℕ) → Tracks (λ k. k < n) Q cells (place i n) (place i n)
  unfolding Tracks
  tracks_place (pos i) n = elim (cases_Bool (nat_lt i n)) [ inl e ↦ rw e (tracks_just (λ k. k < n) i (ltb-true i n e)) | inr e ↦ rw e tt ]
  tracks_place (negsuc i) n = tt

  tracks_load : (old : List ℤ) (c : ℕ) → Q (record { cell = c; value = get_or old c (pos 0) }) → Tracks Value Q cells (load old c) (load cells c)
  unfolding Tracks
  tracks_load old c q = record { value = tt; loads = (q, tt); same = λ held. ap (one_load c) held.0 }

  tracks_then : {X Y : Type 0} {P : X → Type 0} (R : Y → Type 0) (u w : Evaluated X) (f g : X → Evaluated Y) → Tracks P Q cells u w →
      ((x : X) → P x → Tracks R Q cells (f x) (g x)) → Tracks R Q cells (and_then u f) (and_then w g)
  unfolding Tracks
  tracks_then {Y = Y} R (Ok x) w f g first next = by (f x.value) (next x.value first.value)
    where
      by : (r : Evaluated Y) → Tracks R Q cells r (g x.value) → Tracks R Q cells (after_loads x.loads r) (and_then w g)
      by (Ok y) t = record {
        value = t.value;
        loads = each_join Q x.loads y.loads first.loads t.loads;
        same = λ held. let s = each_split (IsHeld cells) x.loads y.loads held in
            ap (λ z. and_then z g) (first.same s.0) ∙ ap (after_loads x.loads) (t.same s.1);
      }
      by (Err fault) t = tt
  tracks_then R (Err fault) w f g first next = tt

  tracks_if : {X : Type 0} (P : X → Type 0) (b : Bool) (u w f g : Evaluated X) → Tracks P Q cells u w → Tracks P Q cells f g →
      Tracks P Q cells (if b then u else f) (if b then w else g)
  tracks_if P true u w f g h k = h
  tracks_if P false u w f g h k = k

-- the cell is one of the variable's
abbrev pub InVar : Program → ℕ → ℕ → Type 0
InVar p x c = (first_cell p (record { 0 = x }) ≤ c) × (c < first_cell p (record { 0 = x }) + cell_count p (record { 0 = x }))

-- the effect is of the statement's form, and a store is into a cell of its variable
abbrev pub Form : Program → Stmt-F Stmt → Effect → Type 0
Form p (Assign site x e) (Stored c value) = InVar p x.0 c
Form p (Store site x index e) (Stored c value) = InVar p x.0 c
Form p (Print site e) (Printed value) = Unit {0}
Form p (If site cond a b) (Decided value) = Unit {0}
Form p (While site cond a) (Decided value) = Unit {0}
Form p (Region r site cond a) (Decided value) = Unit {0}
Form p (Break site cond) (Tried value) = Unit {0}
Form p _ _ = ⊥

-- the variables that a statement's own evaluation loads, and the one that it stores
abbrev pub head_loads : Stmt-F Stmt → List ℕ
head_loads (Assign site x e) = loaded_by e
head_loads (Store site x index e) = loaded_by index ++ loaded_by e
head_loads (Print site e) = loaded_by e
head_loads (If site cond then_part else_part) = loaded_by cond
head_loads (While site cond body) = loaded_by cond
head_loads (Region r site cond body) = loaded_by cond
head_loads (Break site cond) = loaded_by cond
head_loads (Call f line args) = []

abbrev pub head_stores : Stmt-F Stmt → Option ℕ
head_stores (Assign site x e) = Some x.0
head_stores (Store site x index e) = Some x.0
head_stores _ = None

abbrev pub Roomy : Program → Option ℕ → Type 0
Roomy p None = Unit {0}
Roomy p (Some x) = 0 < cell_count p (record { 0 = x })

-- what is asked of a variable: it has a cell, and the fact holds of the load of each of its cells
abbrev pub Readable : Program → List ℤ → (Load → Type 0) → ℕ → Type 0
Readable p cells Q x = (0 < cell_count p (record { 0 = x })) × ((c : ℕ) → InVar p x c → Q (record { cell = c; value = get_or cells c (pos 0) }))

module _ (p : Program) (input old cells : List ℤ) (Q : Load → Type 0) where
  abbrev Read : List ℕ → Type 0
  Read xs = Each (Readable p old Q) xs

  abbrev split : (a b : Expr) → Read (loaded_by a ++ loaded_by b) → Read (loaded_by a) × Read (loaded_by b)
  split a b h = each_split (Readable p old Q) (loaded_by a) (loaded_by b) h

  abbrev value : (z : ℤ) → Tracks Value Q cells (just z) (just z)
  value z = tracks_just Q cells Value z tt

  eval_tracks : (e : Expr) → Read (loaded_by e) → Tracks Value Q cells (eval p input old e) (eval p input cells e)
  unfolding eval
  eval_tracks (tree.Number n) h = value n
  eval_tracks (tree.Input' _ (more_of-Expr e end_of-Expr)) h =
      tracks_then Q cells Value _ _ _ _ (eval_tracks e h)
      (λ i any. tracks_then Q cells Value _ _ _ _ (tracks_place Q cells i (length input)) (λ k low. value _))
  eval_tracks tree.InputLen h = value (pos (length input))
  eval_tracks (tree.Scalar x) h = tracks_load Q cells old (first_cell p x) (h.0.1 (first_cell p x) (omega arith, omega (arith, h.0.0)))
  eval_tracks (tree.Element' x _ (more_of-Expr e end_of-Expr)) h =
      tracks_then Q cells Value _ _ _ _ (eval_tracks e h.1) (λ i any. tracks_then Q cells Value _ _ _ _ (tracks_place Q cells i (cell_count p x))
      (λ k low. tracks_load Q cells old (first_cell p x + k) (h.0.1 (first_cell p x + k) (omega arith, omega (arith, low)))))
  eval_tracks (tree.Unary' op _ (more_of-Expr e end_of-Expr)) h =
      tracks_then Q cells Value _ _ _ _ (eval_tracks e h) (λ x any. tracks_same Q cells (unary_result op x))
  eval_tracks (tree.Binary' op _ (more_of-Expr a end_of-Expr) _ (more_of-Expr b end_of-Expr)) h =
      tracks_then Q cells Value _ _ _ _ (eval_tracks a (split a b h).0) (λ x any. tracks_then Q cells Value _ _ _ _ (eval_tracks b (split a b h).1)
      (λ y other. tracks_same Q cells (binary_result op x y)))
  eval_tracks (tree.And' _ (more_of-Expr a end_of-Expr) _ (more_of-Expr b end_of-Expr)) h =
      tracks_then Q cells Value _ _ _ _ (eval_tracks a (split a b h).0) (λ x any. tracks_if Q cells Value (is_zero x) _ _ _ _ (value (pos 0))
      (tracks_then Q cells Value _ _ _ _ (eval_tracks b (split a b h).1) (λ y other. value _)))
  eval_tracks (tree.Or' _ (more_of-Expr a end_of-Expr) _ (more_of-Expr b end_of-Expr)) h =
      tracks_then Q cells Value _ _ _ _ (eval_tracks a (split a b h).0) (λ x any. tracks_if Q cells Value (is_zero x) _ _ _ _
      (tracks_then Q cells Value _ _ _ _ (eval_tracks b (split a b h).1) (λ y other. value _)) (value (pos 1)))

  decided_tracks : (h : Stmt-F Stmt) (e : Expr) → ((z : ℤ) → Form p h (Decided z)) → Read (loaded_by e) →
      Tracks (Form p h) Q cells (and_then (eval p input old e) (λ z. just (Decided z))) (and_then (eval p input cells e) (λ z. just (Decided z)))
  decided_tracks h e form read = tracks_then Q cells (Form p h) _ _ _ _ (eval_tracks e read) (λ z any. tracks_just Q cells (Form p h) (Decided z) (form z))

  head_tracks : (h : Stmt-F Stmt) → Roomy p (head_stores h) → Read (head_loads h) → Tracks (Form p h) Q cells (evaluated p input old h)
      (evaluated p input cells h)
  head_tracks (Assign site x e) room read =
      tracks_then Q cells (Form p (Assign site x e)) _ _ _ _ (eval_tracks e read) (λ z any. tracks_just Q cells (Form p (Assign site x e))
      (Stored (first_cell p x) z) (omega arith, omega arith))
  head_tracks (Store site x index e) room read =
      tracks_then Q cells (Form p (Store site x index e)) _ _ _ _ (eval_tracks index (split index e read).0)
      (λ i any. tracks_then Q cells (Form p (Store site x index e)) _ _ _ _
      (eval_tracks e (split index e read).1) (λ z other. tracks_then Q cells (Form p (Store site x index e)) _ _ _ _ (tracks_place Q cells i (cell_count p x))
      (λ k low. tracks_just Q cells (Form p (Store site x index e)) (Stored (first_cell p x + k) z) (omega arith, omega (arith, low)))))
  head_tracks (Print site e) room read =
      tracks_then Q cells (Form p (Print site e)) _ _ _ _ (eval_tracks e read) (λ z any. tracks_just Q cells (Form p (Print site e)) (Printed z) tt)
  head_tracks (If site cond a b) room read = decided_tracks (If site cond a b) cond (λ z. tt) read
  head_tracks (While site cond a) room read = decided_tracks (While site cond a) cond (λ z. tt) read
  head_tracks (Region r site cond a) room read = decided_tracks (Region r site cond a) cond (λ z. tt) read
  head_tracks (Break site cond) room read =
      tracks_then Q cells (Form p (Break site cond)) _ _ _ _ (eval_tracks cond read) (λ z any. tracks_just Q cells (Form p (Break site cond)) (Tried z) tt)
  head_tracks (Call f line args) room read = tracks_fault Q cells (Form p (Call f line args)) _ _

  -- The evaluation of a statement's site has the statement's form and loads the variables that it names. It goes the same way in a memory where its loads hold.
  pub evaluated_tracks : (h : Stmt-F Stmt) → Roomy p (head_stores h) → Read (head_loads h) → (v : WithLoads Effect) → evaluated p input old h ≡ Ok v →
      Tracked Effect (Form p h) Q cells v (evaluated p input cells h)
  unfolding Tracks
  evaluated_tracks h room read v e = subst (λ (u : Evaluated Effect). Tracks (Form p h) Q cells u (evaluated p input cells h)) e (head_tracks h room read)
