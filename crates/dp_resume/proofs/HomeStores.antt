-- What a step stores where the stores of its statement are at home.
use Rattle.std.proofs.Common.{◌≡◌, refl, sym, ap, ◌∙◌, subst, ℕ, ◌+◌, ◌<◌, Bool, true, false, ◌&&◌, if◌then◌else◌, List, ℤ, pos, negsuc, length, Option}
use Rattle.std.proofs.Common.{slice_get, nat_lt, Ok, Err, arith, ltb-true}
use Rattle.std.proofs.lemmas.Bool.{and_parts}
use Rattle.dp_base.specs.declared.FaultKind.TheVariants.{Index}
use Rattle.dp_base.specs.declared.VarId.{VarId}
use Rattle.dp_room.proofs.ListLemmas.{at_index}
use Rattle.dp_tree.specs.declared.Stmt.{Stmt, out-Stmt, roll-Stmt, roll-out-Stmt}
use Rattle.dp_tree.specs.declared.Stmt.TheViews.{rolls-Assign, rolls-Store}
use Rattle.dp_tree.specs.declared.Stmt.TheOpen.{Stmt-F, Assign, Store, Print, If, While, Region, Break, Call}
use Rattle.dp_tree.specs.declared.VarInfo.{VarInfo}
use Rattle.dp_tree.specs.declared.Program.{Program}
use Rattle.dp_tree.specs.Eval.{Evaluated, and_then, cell_count, eval, first_cell, first_of, just, length_of, place}
use Rattle.dp_tree.specs.Event.{Effect, Stored, Printed, Decided, Tried, stored}
use Rattle.dp_tree.specs.Inlined.{expr_within, names_within}
use Rattle.dp_tree.specs.Layout.{lies_in_order}
use Rattle.dp_tree.specs.Step.{evaluated}
use Rattle.dp_calls.specs.AtHome.{is_home_at, stores_home}
use Rattle.dp_resume.proofs.EvalFits.{Gives, gives_any, gives_just, gives_then}
use Rattle.dp_resume.proofs.OwnCells.{ClearBut, IsHomeCell, from_here, home_cell, home_stored}

-- ---- the head's stores

-- the variable that the head stores is at home
abbrev pub head_home : List VarInfo → ℕ → Stmt-F Stmt → Bool
head_home vars r (Assign site x e) = is_home_at r (slice_get vars x.0)
head_home vars r (Store site x index e) = is_home_at r (slice_get vars x.0)
head_home vars r _ = true

home_roll : (vars : List VarInfo) (r : ℕ) (h : Stmt-F Stmt) → stores_home vars r (roll-Stmt h) ≡ true → head_home vars r h ≡ true
home_roll vars r (Assign site x e) w = sym (ap (stores_home vars r) (rolls-Assign site x e)) ∙ w
home_roll vars r (Store site x index e) w = sym (ap (stores_home vars r) (rolls-Store site x index e)) ∙ w
home_roll vars r _ w = refl

pub home_out : (vars : List VarInfo) (r : ℕ) (x : Stmt) → stores_home vars r x ≡ true → head_home vars r (out-Stmt x) ≡ true
home_out vars r x w = home_roll vars r (out-Stmt x) (ap (stores_home vars r) (roll-out-Stmt x) ∙ w)

-- .. and is one of the first n
abbrev pub head_named : ℕ → Stmt-F Stmt → Bool
head_named n (Assign site x e) = nat_lt x.0 n
head_named n (Store site x index e) = nat_lt x.0 n
head_named n _ = true

named_roll : (n : ℕ) (h : Stmt-F Stmt) → names_within n (roll-Stmt h) ≡ true → head_named n h ≡ true
named_roll n (Assign site x e) w = (and_parts (nat_lt x.0 n) (expr_within n e) (sym (ap (names_within n) (rolls-Assign site x e)) ∙ w)).0
named_roll n (Store site x index e) w =
    (and_parts (nat_lt x.0 n) (expr_within n index && expr_within n e) (sym (ap (names_within n) (rolls-Store site x index e)) ∙ w)).0
named_roll n _ w = refl

pub named_out : (n : ℕ) (x : Stmt) → names_within n x ≡ true → head_named n (out-Stmt x) ≡ true
named_out n x w = named_roll n (out-Stmt x) (ap (names_within n) (roll-out-Stmt x) ∙ w)

-- ---- the effect

-- what is stored is none of the locals of other regions than r
pub StoresHome : ℕ → List VarInfo → Effect → Type 0
StoresHome r vars (Stored c z) = IsHomeCell r vars c
StoresHome r vars _ = Unit {0}

pub stored_clear : (r : ℕ) (vars : List VarInfo) (effect : Effect) (cells : List ℤ) → StoresHome r vars effect → ClearBut r vars cells →
    ClearBut r vars (stored effect cells)
unfolding StoresHome
stored_clear r vars (Stored c z) cells home h = home_stored r vars cells c z home h
stored_clear r vars (Printed z) cells home h = h
stored_clear r vars (Decided z) cells home h = h
stored_clear r vars (Tried z) cells home h = h

-- a place is one of the variable's cells
place_below : (i : ℤ) (n : ℕ) → Gives (λ (k : ℕ). k < n) (place i n)
unfolding Gives
place_below (pos i) n = by (nat_lt i n) refl
  where
    by : (b : Bool) → nat_lt i n ≡ b → Gives (λ (k : ℕ). k < n) (if b then just i else Err Index)
    by true e = ltb-true i n e
    by false e = tt
place_below (negsuc i) n = tt

module _ (p : Program) (input : List ℤ) (lies : lies_in_order 0 p.vars ≡ true) (cells : List ℤ) (r : ℕ) where
  -- a cell of a variable of the table that is at home
  stored_at : (x : VarId) (k : ℕ) → nat_lt x.0 (length p.vars) ≡ true → is_home_at r (slice_get p.vars x.0) ≡ true → k < cell_count p x →
      IsHomeCell r p.vars (first_cell p x + k)
  stored_at x k named home less =
      let w = at_index p.vars x.0 (ltb-true x.0 (length p.vars) named) in
      let inside : k < w.0.length = subst (λ (n : ℕ). k < n) (ap length_of w.1) less in
      home_cell r p.vars lies x.0 w.0 k (first_cell p x + k) w.1 (ap (is_home_at r) (sym w.1) ∙ home) inside (ap (λ (o : Option VarInfo). first_of o + k) w.1)

  first_stored : (x : VarId) → nat_lt x.0 (length p.vars) ≡ true → is_home_at r (slice_get p.vars x.0) ≡ true → IsHomeCell r p.vars (first_cell p x)
  first_stored x named home =
      let w = at_index p.vars x.0 (ltb-true x.0 (length p.vars) named) in
      let some : 0 < w.0.length = (from_here 0 p.vars lies x.0 w.0 w.1).1 in
      let is : first_cell p x ≡ w.0.first.0 = ap first_of w.1 in
      home_cell r p.vars lies x.0 w.0 0 (first_cell p x) w.1 (ap (is_home_at r) (sym w.1) ∙ home) some (omega (arith, is))

  none_stored : (f : ℤ → Effect) → ((z : ℤ) → StoresHome r p.vars (f z)) → (e : Evaluated ℤ) → Gives (StoresHome r p.vars) (and_then e (λ z. just (f z)))
  unfolding Gives
  none_stored f h (Ok v) = h v.value
  none_stored f h (Err kind) = tt

  pub evaluated_home : (h : Stmt-F Stmt) → head_home p.vars r h ≡ true → head_named (length p.vars) h ≡ true →
      Gives (StoresHome r p.vars) (evaluated p input cells h)
  unfolding StoresHome Gives
  evaluated_home (Assign site x e) home named =
      gives_then (λ (z : ℤ). Unit {0}) (StoresHome r p.vars) _ _ (gives_any (eval p input cells e))
      (λ z t. gives_just (StoresHome r p.vars) (Stored (first_cell p x) z) (first_stored x named home))
  evaluated_home (Store site x index e) home named =
      gives_then (λ (z : ℤ). Unit {0}) (StoresHome r p.vars) _ _ (gives_any (eval p input cells index))
      (λ i t. gives_then (λ (z : ℤ). Unit {0}) (StoresHome r p.vars) _ _ (gives_any (eval p input cells e))
      (λ z u. gives_then (λ (k : ℕ). k < cell_count p x) (StoresHome r p.vars) _ _ (place_below i (cell_count p x))
      (λ k less. gives_just (StoresHome r p.vars) (Stored (first_cell p x + k) z) (stored_at x k named home less))))
  evaluated_home (Print site e) home named = none_stored Printed (λ z. tt) (eval p input cells e)
  evaluated_home (If site cond a b) home named = none_stored Decided (λ z. tt) (eval p input cells cond)
  evaluated_home (While site cond a) home named = none_stored Decided (λ z. tt) (eval p input cells cond)
  evaluated_home (Region q site cond a) home named = none_stored Decided (λ z. tt) (eval p input cells cond)
  evaluated_home (Break site cond) home named = none_stored Tried (λ z. tt) (eval p input cells cond)
  evaluated_home (Call f line args) home named = tt
