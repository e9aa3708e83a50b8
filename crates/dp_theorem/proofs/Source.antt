-- The source within an iteration: its rest, its memory and the events so far.
use Rattle.dp_semantics.proofs.Names.{Decides-int_eq, both_ways, is_same_variable, stores_var, ◌≡◌, refl, sym, ap, ◌∙◌, subst, ℕ, ◌<◌, true, false, List, ◌∷◌}
use Rattle.dp_semantics.proofs.Names.{ℤ, pos, length, get_or, arith, eq-eqb, Ok, Stmt, out-Stmt, Stmt-F, Assign, Store, If, While, Region, Call, Program, Plan}
use Rattle.dp_semantics.proofs.Names.{Load, WithLoads, cell_count, Effect, Stored, followed, site_of, value_of, stored, evaluated, Access, accesses, stage_of}
use Rattle.dp_semantics.proofs.Names.{may_differ, is_checked_access, is_checked, Past, seen, int_eq, event_agrees, well_nested, Epoch, last, and_parts}
use Rattle.dp_semantics.proofs.Names.{flat_map-append, inl, inr, Some, cases_Bool}
use Rattle.dp_plan.specs.IsFar.{is_far}
pub use Rattle.dp_semantics.proofs.Setting.{event_of}
use Rattle.dp_semantics.proofs.Setting.{turn_of, Here, here_next, Clear, NotInto, ClearSame, each_both, head_stores, size, Sound, Fit, StoredBy, Known, Each}
use Rattle.dp_semantics.proofs.Setting.{each_split, each_join, each_map, none_of, all_of, all_make, InVar, Form, Readable, Holds, IsHeld, head_loads}
use Rattle.dp_semantics.proofs.Setting.{head_stores, Tracked, evaluated_tracks, accesses_all, all_well, head_access, inside, accesses_at, accesses_out, well_at}
use Rattle.dp_semantics.proofs.Setting.{well_out, Joins, Parts, followed_has, all_joins}
use Rattle.dp_theorem.proofs.Seeing.{seen_same, Sees, sees_stored, stored-length}

abbrev pub past_of : ℕ → Stmt → WithLoads Effect → Past
past_of i x v = record { iteration = i; event = event_of (out-Stmt x) v }

-- the stage of the statement's site
abbrev pub stage_for : Epoch → Stmt → ℕ
stage_for k x = stage_of k.program k.plan (site_of (out-Stmt x)).0

-- in this memory the statement's site evaluates so
abbrev pub Gives : Epoch → List ℤ → Stmt → WithLoads Effect → Type 0
Gives k cells x v = evaluated k.program k.input cells (out-Stmt x) ≡ Ok v

-- the source stands here in iteration i, after the earlier events
pub record Stands (k : Epoch) (i : ℕ) (to_do : List Stmt) (earlier : List Past) (cells : List ℤ) : Type 0 where
  pub well : all_well k.program k.plan to_do ≡ true
  pub sound : Each (Sound k.program k.plan) (accesses_all to_do)
  pub known : Each (Known k) earlier
  pub sees : Sees k (last k.plan) i earlier cells
  pub size_is : length cells ≡ size k.program
  pub fit : Fit k
  pub here : Here k.program k.input k.plan.region (turn_of fit.accepted) i to_do earlier cells

-- the parts of a well-nested statement, and those of its sites
pub well_parts : (p : Program) (plan : Plan) (h : Stmt-F Stmt) → well_at p plan h ≡ true → Parts (λ xs. all_well p plan xs ≡ true) h
well_parts p plan (If site cond a b) w = and_parts _ _ (and_parts _ _ w).1
well_parts p plan (While site cond a) w = (and_parts _ _ w).1
well_parts p plan (Region r site cond a) w = absurd (cc)
well_parts p plan _ w = tt

pub each_joins : (Q : Access → Type 0) → Joins (λ xs. Each Q (accesses_all xs))
each_joins Q = record {
  join = λ a b h k. subst (λ (xs : List Access). Each Q xs) (sym (flat_map-append accesses a b)) (each_join Q (accesses_all a)
      (accesses_all b) h k);
  rest = λ x a h. (each_split Q (accesses x) (accesses_all a) h).1;
}

pub each_parts : (Q : Access → Type 0) (h : Stmt-F Stmt) → Each Q (accesses_at h) → Parts (λ xs. Each Q (accesses_all xs)) h
each_parts Q (If site cond a b) e = each_split Q (accesses_all a) (accesses_all b) e.1
each_parts Q (While site cond a) e = e.1
each_parts Q (Region r site cond a) e = e.1
each_parts Q _ e = tt

-- the fact of the head's own site
pub head_fact : (Q : Access → Type 0) (p : Program) (plan : Plan) (h : Stmt-F Stmt) → well_at p plan h ≡ true → Each Q (accesses_at h) → Q (head_access h)
head_fact Q p plan (Region r site cond a) w e = absurd (cc)
head_fact Q p plan (Call f line args) w e = absurd (cc)
head_fact Q p plan _ w f = f.0

-- its store is known
form_stores : (p : Program) (h : Stmt-F Stmt) (c : ℕ) (value : ℤ) → Form p h (Stored c value) → (x : ℕ) × (head_stores h ≡ Some x) × InVar p x c
form_stores p (Assign s x e) c value f = (x.0, refl, f)
form_stores p (Store s x index e) c value f = (x.0, refl, f)
form_stores p _ c value f = absurd f

store_known : (k : Epoch) (h : Stmt-F Stmt) (effect : Effect) → Form k.program h effect → Sound k.program k.plan (head_access h) → (c : ℕ) (value : ℤ) →
    effect ≡ Stored c value → StoredBy k (site_of h).0 c
store_known k h effect f sound c value is =
    let q = form_stores k.program h c value (subst (λ (g : Effect). Form k.program h g) is f) in
    record { access = head_access h; variable = q.0; at = refl; stores = q.1; inside = q.2; listed = sound.listed; early = sound.early }

module _ {k : Epoch} (ok : Fit k) {i : ℕ} {x : Stmt} {rest : List Stmt} {earlier : List Past} {cells : List ℤ} (at : Stands k i (x ∷ rest) earlier cells) where
  open k use {program, plan, input, base}

  abbrev h : Stmt-F Stmt
  h = out-Stmt x

  well_both : (well_nested program plan x ≡ true) × (all_well program plan rest ≡ true)
  well_both = and_parts (well_nested program plan x) (all_well program plan rest) at.well

  pub head_well : well_at program plan h ≡ true
  head_well = sym (well_out program plan x) ∙ well_both.0

  head_sites : Each (Sound program plan) (accesses_at h)
  head_sites = subst (λ (xs : List Access). Each (Sound program plan) xs) (accesses_out x)
      (each_split (Sound program plan) (accesses x) (accesses_all rest) at.sound).0

  pub own_site : Sound program plan (head_access h)
  own_site = head_fact (Sound program plan) program plan h head_well head_sites

  -- every variable that the site loads
  every_load : (mine : List ℤ) (Q : Load → Type 0) → ((x c : ℕ) → InVar program x c → Q (record { cell = c; value = get_or mine c (pos 0) })) →
      Each (Readable program mine Q) (head_loads h)
  every_load mine Q f = each_map (λ x. 0 < cell_count program (record { 0 = x })) (Readable program mine Q) (λ x some. (some, λ c inside. f x c inside))
      (head_loads h) own_site.reads

  tracked : (mine : List ℤ) (v : WithLoads Effect) → Gives k mine x v → Tracked Effect (Form program h) (IsHeld mine) mine v (evaluated program input mine h)
  tracked mine v e = evaluated_tracks program input mine mine (IsHeld mine) h own_site.room (every_load mine (IsHeld mine) (λ x c inside. refl)) v e

  pub form_of : (mine : List ℤ) (v : WithLoads Effect) → Gives k mine x v → Form program h v.value
  form_of mine v e = (tracked mine v e).value

  -- an evaluation's loads hold in its memory
  pub own_loads : (mine : List ℤ) (v : WithLoads Effect) → Gives k mine x v → Holds mine v.loads
  own_loads mine v e = (tracked mine v e).loads

  pub store_within : (v : WithLoads Effect) → Form program h v.value → (c : ℕ) (value : ℤ) → v.value ≡ Stored c value → c < size program
  store_within v form c value e = let known = store_known k h v.value form own_site c value e in ok.accepted.laid.within known.variable c known.inside

  -- The source's step leads on.
  pub stands_next : (v : WithLoads Effect) → Gives k cells x v → Stands k i (followed x rest h (value_of v.value)) (past_of i x v ∷ earlier)
      (stored v.value cells)
  stands_next v e = record {
    well = followed_has (λ xs. all_well program plan xs ≡ true) (all_joins (well_nested program plan)) x rest h (value_of v.value) at.well well_both.1
        (well_parts program plan h head_well);
    sound = followed_has (λ xs. Each (Sound program plan) (accesses_all xs)) (each_joins (Sound program plan)) x rest h (value_of v.value) at.sound
        (each_split (Sound program plan) (accesses x) (accesses_all rest) at.sound).1 (each_parts (Sound program plan) h head_sites);
    known = (store_known k h v.value (form_of cells v e) own_site, at.known);
    sees = sees_stored k (last plan) i earlier cells (event_of h v) (omega (arith, own_site.early)) (λ c value q. subst (λ (n : ℕ). c < n) (sym at.size_is)
        (store_within v (form_of cells v e) c value q)) at.sees;
    size_is = stored-length v.value cells ∙ at.size_is;
    fit = at.fit;
    here = here_next at.here v e;
  }

  -- a stage of its own, in step
  module _ (other : List ℤ) (sees : Sees k (stage_for k x) i earlier other) where
    abbrev site : ℕ
    site = (site_of h).0

    settled : is_checked program plan site ≡ false → Each (λ v. may_differ program plan (stage_for k x) site v ≡ false) (head_loads h)
    settled e = none_of (may_differ program plan (stage_for k x) site) (head_loads h)
        (rw (eq-eqb site site refl) at (own_site.listed (is_checked_access program plan site) e))

    cell_same : (v c : ℕ) → InVar program v c → may_differ program plan (stage_for k x) site v ≡ false → Each (NotInto program plan.region site i c) earlier →
        get_or other c (pos 0) ≡ get_or cells c (pos 0)
    cell_same v c inside free apart = sees c ∙ seen_same ok (stage_for k x) site i v c inside free earlier at.known apart ∙ sym (at.sees c)

    -- a clear variable
    clear_same : (v c : ℕ) → InVar program v c → may_differ program plan (stage_for k x) site v ≡ false → Clear program plan site v →
        get_or other c (pos 0) ≡ get_or cells c (pos 0)
    clear_same v c inside free clear = cell_same v c inside free (each_map (Known k) (NotInto program plan.region site i c)
        (λ past known lies value e.
        let by = known c value e in
        let stores : stores_var v by.access ≡ true = ap (is_same_variable v) by.stores
        ∙ eq-eqb v by.variable (ok.accepted.laid.apart v by.variable c inside by.inside) in
        both_ways (is_far program plan.region past.event.site site) (ap (λ (d : ℕ). is_far program plan.region d site) (sym by.at)
        ∙ clear by.access by.listed stores) lies.far) earlier at.known)

    -- a load of an unchecked site
    record Free (one : List ℤ) (l : Load) : Type 0 where
      variable : ℕ
      inside : InVar program variable l.cell
      free : may_differ program plan (stage_for k x) site variable ≡ false
      held : get_or one l.cell (pos 0) ≡ l.value

    -- what an unchecked site loads is the same in the stage's memory and in the source's
    loads_same : (one : List ℤ) → ((v c : ℕ) → InVar program v c → may_differ program plan (stage_for k x) site v ≡ false → Clear program plan site v →
        get_or one c (pos 0) ≡ get_or cells c (pos 0)) →
        is_checked program plan site ≡ false → (v : WithLoads Effect) → Gives k one x v → Each (λ (l : Load). (get_or one l.cell (pos 0) ≡ l.value)
        × (get_or other l.cell (pos 0) ≡ get_or cells l.cell (pos 0))) v.loads
    loads_same one agree free v e =
        let found = (evaluated_tracks program input one one (Free one) h own_site.room
        (each_map _ (Readable program one (Free one)) (λ v known. (known.0, λ c inside. record { variable = v; inside = inside; free = known.1; held = refl }))
        (head_loads h)
        (each_both (λ v. 0 < cell_count program (record { 0 = v })) _ (head_loads h) own_site.reads (settled free))) v e).loads in
        let same : ClearSame program plan one cells h = each_map (λ v. may_differ program plan (stage_for k x) site v ≡ false) _
        (λ y known clear c inside. agree y c inside known clear) (head_loads h) (settled free) in
        let met = at.fit.met i x rest earlier cells at.here one v e same in
        each_map (λ (l : Load). Free one l × Each (NotInto program plan.region site i l.cell) earlier) _
        (λ l q. (q.0.held, cell_same q.0.variable l.cell q.0.inside q.0.free q.1)) v.loads
        (each_both (Free one) (λ (l : Load). Each (NotInto program plan.region site i l.cell) earlier) v.loads found met)

    checked : (one two : List ℤ) (v : WithLoads Effect) → Gives k one x v → Holds two v.loads → evaluated program input two h ≡ Ok v
    checked one two v e held =
        (evaluated_tracks program input one two (λ l. Unit {0}) h own_site.room (every_load one (λ l. Unit {0}) (λ x c inside. tt)) v e).same held

    -- where the source's event agrees, the stage does the same
    pub stage_does : (v : WithLoads Effect) → Gives k cells x v → event_agrees program plan base i earlier (event_of h v) ≡ true → Gives k other x v
    stage_does v e agrees = elim (cases_Bool (is_checked program plan (site_of h).0)) [
      | inl u ↦ checked cells other v e (each_map (λ l. int_eq (seen program plan base (stage_for k x) i earlier l.cell) l.value ≡ true) (IsHeld other)
          (λ l q. sees l.cell ∙ (Decides-int_eq _ l.value).0 q) v.loads
          (all_of (λ l. int_eq (seen program plan base (stage_for k x) i earlier l.cell) l.value) v.loads (rw u at agrees)))
      | inr u ↦ checked cells other v e (each_map _ (IsHeld other) (λ l q. q.1 ∙ q.0) v.loads (loads_same cells (λ w c inside free clear. refl) u v e))
    ]

    -- and back: where its loads hold in the source's memory, if they are checked, the source does what the stage does
    pub source_does : (v : WithLoads Effect) → Gives k other x v → (is_checked program plan (site_of h).0 ≡ true → Holds cells v.loads) → Gives k cells x v
    source_does v e held = elim (cases_Bool (is_checked program plan (site_of h).0)) [
      | inl u ↦ checked other cells v e (held u)
      | inr u ↦ checked other cells v e (each_map _ (IsHeld cells) (λ l q. sym q.1 ∙ q.0) v.loads (loads_same other clear_same u v e))
    ]

    -- a stage's own event agrees with what it sees
    pub event_sees : (v : WithLoads Effect) → Gives k other x v → event_agrees program plan base i earlier (event_of h v) ≡ true
    event_sees v e = elim (cases_Bool (is_checked program plan (site_of h).0)) [
      | inl u ↦ rw u (all_make (λ l. int_eq (seen program plan base (stage_for k x) i earlier l.cell) l.value) v.loads
          (each_map (IsHeld other) (λ l. int_eq (seen program plan base (stage_for k x) i earlier l.cell) l.value ≡ true)
          (λ l q. ap (λ (z : ℤ). int_eq z l.value) (sym (sees l.cell) ∙ q) ∙ (Decides-int_eq l.value l.value).1 refl) v.loads (own_loads other v e)))
      | inr u ↦ rw u
    ]
