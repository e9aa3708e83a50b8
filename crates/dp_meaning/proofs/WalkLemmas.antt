-- The steps of an iteration up to its end, or to where the run ends in it, and the memory that they leave.
use Rattle.dp_meaning.proofs.Names.{inl, inr, ◌||◌, list_any, is_leaving, ◌≡◌, ◌≢◌, refl, sym, ◌∙◌, ap, subst, ℕ, zero, suc, ◌+◌, ◌<◌, Bool, true, false}
use Rattle.dp_meaning.proofs.Names.{if◌then◌else◌, Option, None, Some, List, [], ◌∷◌, ◌++◌, drop, ℤ, All, arith, All-nil, All-cons, cases_Bool, End, SiteId}
use Rattle.dp_meaning.proofs.Names.{Program, Stmt, Config, Event, Effect, Stored, stored, Step, Finished, Faulted, Stepped, step, standing, clear_locals}
use Rattle.dp_meaning.proofs.Names.{cleared_leaving, end_at, ended, Run, run_by, prints, decides_zero, leaves, Part, MachineState, fuel_left, rest_of_run}
use Rattle.dp_meaning.proofs.Names.{part_of, part_at, next_part, end_of_iteration, out-Stmt, Stmt-F, part_from, is_any_region, from_region, MachineIsSound}
use Rattle.dp_meaning.proofs.Names.{UnderWay, Made, StepTaken, leaves_region, current_behind, effect_seen}
unfoldable use Rattle.dp_meaning.proofs.Names.{run_of}
use Rattle.dp_base.specs.declared.End.TheVariants as how
use Rattle.dp_meaning.specs.declared.ends.Part.TheVariants as part
use Rattle.dp_meaning.specs.declared.turn.Turn.TheVariants as turn
use Rattle.dp_meaning.specs.steps.Stretch.{has_left, Stretch}
use Rattle.dp_meaning.proofs.MovedLemmas.{moved_step}
use Rattle.dp_tree.specs.declared.Stmt.TheOpen.{Region}
use Rattle.dp_meaning.proofs.PlainLemmas.{standing_plain}
use Rattle.dp_meaning.proofs.ShapeLemmas.{not_plain}
use Rattle.dp_meaning.proofs.SkipLemmas.{after_events, memory_kept, memory_left, leaving_from, leaving_at}
use Rattle.dp_meaning.proofs.StretchLemmas.{IsPlain, none_left, now_left, starts_unfinished, closes_now, ends_now, one_more, events_closed, events_ended}
use Rattle.dp_meaning.proofs.StretchLemmas.{events_more, part_kept}
use Rattle.dp_meaning.proofs.TurnLemmas.{stepped_to, taken}

-- a condition stores nothing
condition_stores : (effect : Effect) (cells : List ℤ) → decides_zero effect ≡ true → stored effect cells ≡ cells
condition_stores (Stored cell value) cells e = absurd (cc)
condition_stores _ cells e = refl

halted : (m : MachineState) (n : ℕ) (why : End) → rest_of_run m ≡ ended n m.config why → ((rest_of_run m).configs ≡ m.config ∷ [])
    × ((rest_of_run m).trace ≡ [])
halted m n why e = (ap (λ (r : Run). r.configs) e, ap (λ (r : Run). r.trace) e)

spent : (m : MachineState) → fuel_left m ≡ zero → rest_of_run m ≡ ended 0 m.config (end_at m.config.to_do)
unfolding run_of
spent m e = ap (λ (n : ℕ). run_of m.program m.input n m.config) e

by_step : (m : MachineState) (k : ℕ) (s : Step) → fuel_left m ≡ suc k → step m.program m.input m.config ≡ s →
    rest_of_run m ≡ run_by (run_of m.program m.input k) (suc k) m.config s
unfolding run_of
by_step m k s e f = ap (λ (n : ℕ). run_of m.program m.input n m.config) e ∙ ap (run_by (run_of m.program m.input k) (suc k) m.config) f

module _ (region : ℕ) where
  -- the memory after these events; where they left the region, its locals are cleared
  abbrev pub memory_after : Bool → Program → List Event → List ℤ → List ℤ
  memory_after closing p events cells = if closing then clear_locals region p.vars (after_events events cells) else after_events events cells

  -- the iteration ends so
  pub record Whole (turns : ℕ) (m : MachineState) (out : List ℤ) (closing : Bool) : Type 0 where
    pub new : MachineState
    pub after : List ℤ
    pub run : Stretch turns m new out after (end_of_iteration closing)
    pub sound : MachineIsSound new.program new.config new.current new.steps new.fuel
    pub memory : new.config ≡ standing m.program new.config.to_do (memory_after closing m.program run.events m.config.cells)

  -- the run ends in it
  pub record Stuck (m : MachineState) : Type 0 where
    pub configs : List Config
    pub are : (rest_of_run m).configs ≡ m.config ∷ configs
    pub plain : All IsPlain configs
    pub open_yet : has_left (part_of m.config.to_do) (rest_of_run m).trace ≡ false

  pub data Outcome (turns : ℕ) (m : MachineState) (out : List ℤ) : Type 0 where
    ends : (closing : Bool) → Whole turns m out closing → Outcome turns m out
    stuck : Stuck m → Outcome turns m out

  stops : (turns : ℕ) (m : MachineState) (out : List ℤ) (n : ℕ) (why : End) → rest_of_run m ≡ ended n m.config why → Outcome turns m out
  stops turns m out n why e =
      let h = halted m n why e in
      stuck (record {
        configs = [];
        are = h.0;
        plain = All-nil IsPlain;
        open_yet = ap (has_left (part_of m.config.to_do)) h.1 ∙ (none_left
            (part_of m.config.to_do)).0;
      })

  plain_over : (x : Stmt) (rest : List Stmt) (h : Stmt-F Stmt) → part_from h ≡ part.Plain →
      (if is_any_region h then x ∷ rest else from_region rest) ≡ from_region rest
  plain_over x rest (Region r site cond body) e = absurd (cc)
  plain_over x rest _ e = refl

  -- what a break clears is the region's
  cleared : (p : Program) (o : Option ℕ) (xs : List Stmt) → UnderWay o xs → part_at o xs ≡ part.Region region → part_of xs ≡ part.Plain → (cells : List ℤ) →
      cleared_leaving p (drop 1 xs) cells ≡ clear_locals region p.vars cells
  cleared p None xs u e plain cells = absurd (not_plain (part_of xs) region e plain)
  cleared p (Some r) [] w e plain cells = absurd (cc plain)
  cleared p (Some r) (x ∷ rest) w e plain cells =
      let same : r ≡ region = cc e in
      let over : from_region (x ∷ rest) ≡ from_region rest = plain_over x rest (out-Stmt x) plain in
      leaving_from p rest cells ∙ leaving_at p (from_region rest) region cells (ap part_of (sym over) ∙ w.next ∙ ap part.Region same)

  at_condition : (o : Option ℕ) (xs : List Stmt) (r : ℕ) → UnderWay o xs → part_at o xs ≡ part.Region region → part_of xs ≡ part.Region r →
      part_of xs ≡ part.Region region
  at_condition None xs r u e h = e
  at_condition (Some q) xs r w e h = absurd (not_plain (part_of xs) r h w.first)

  -- one step, and what comes after it
  module _ (m : MachineState) (out : List ℤ) (k : ℕ) (left_is : fuel_left m ≡ suc k) (under_way : UnderWay m.current m.config.to_do)
      (next : next_part m ≡ part.Region region)
      (still : part_of m.config.to_do ≡ part.Region region → clear_locals region m.program.vars m.config.cells ≡ m.config.cells)
      (left : Bool) (d : Config) (y : List ℤ) (s : StepTaken left m (stepped_to left m d) out y)
      (later : MachineIsSound m.program d (current_behind left (next_part m) (part_of d.to_do)) (m.steps + 1) m.fuel) where
    abbrev n : MachineState
    n = stepped_to left m d

    fuel : m.steps < m.fuel
    fuel = omega (arith, left_is)

    some : part_of m.config.to_do ≢ part.Finished
    some = starts_unfinished m.current m.config.to_do under_way (λ e. let clash : part.Region region ≡ part.Finished = sym next ∙ e in absurd (cc clash))

    gives : (q : Part) → part_of m.config.to_do ≡ q → leaves_region q s.event.effect ≡ left
    gives q h = sym (s.left_is ∙ ap (λ (p : Part). leaves_region p s.event.effect) h)

    closing_memory : left ≡ true → d ≡ standing m.program d.to_do (clear_locals region m.program.vars (stored s.event.effect m.config.cells))
    closing_memory e = by (part_of m.config.to_do) refl
      where
        by : (q : Part) → part_of m.config.to_do ≡ q →
            d ≡ standing m.program d.to_do (clear_locals region m.program.vars (stored s.event.effect m.config.cells))
        by part.Plain h = memory_left m.program m.input m.config d s.event s.stepped (gives part.Plain h ∙ e)
            ∙ ap (standing m.program d.to_do) (cleared m.program m.current m.config.to_do under_way next h (stored s.event.effect m.config.cells))
        by (part.Region r) h =
            let same = condition_stores s.event.effect m.config.cells (gives (part.Region r) h ∙ e) in
            memory_kept m.program m.input m.config d s.event s.stepped (s.decides r h)
            ∙ ap (standing m.program d.to_do) (same ∙ sym (still (at_condition m.current m.config.to_do r under_way next h))
            ∙ ap (clear_locals region m.program.vars) (sym same))
        by part.Finished h = absurd (some h)

    kept_memory : left ≡ false → d ≡ standing m.program d.to_do (stored s.event.effect m.config.cells)
    kept_memory e = memory_kept m.program m.input m.config d s.event s.stepped (by (part_of m.config.to_do) refl)
      where
        by : (q : Part) → part_of m.config.to_do ≡ q → leaves s.event.effect ≡ false
        by part.Plain h = gives part.Plain h ∙ e
        by (part.Region r) h = s.decides r h
        by part.Finished h = absurd (some h)

    closes : (e : left ≡ true) → Outcome (suc k) m out
    closes e =
        ends true (record {
          new = n;
          after = y;
          run = closes_now left m n out y some fuel s k e;
          sound = later;
          memory = closing_memory e ∙ ap (λ (xs : List Event). standing m.program d.to_do (memory_after true m.program xs m.config.cells))
              (sym (events_closed left m n out y some fuel s k e));
        })

    next_head : (e : left ≡ false) → part_of d.to_do ≢ part.Plain → Outcome (suc k) m out
    next_head e over =
        ends false (record {
          new = n;
          after = y;
          run = ends_now left m n out y some fuel s k e over;
          sound = later;
          memory = kept_memory e ∙ ap (λ (xs : List Event). standing m.program d.to_do (memory_after false m.program xs m.config.cells))
              (sym (events_ended left m n out y some fuel s k e over));
        })

    -- a plain statement is next, and this comes after it
    further : (e : left ≡ false) (plain : part_of d.to_do ≡ part.Plain) → Outcome k n y → Outcome (suc k) m out
    further e plain (ends closing w) =
        let cells : n.config.cells ≡ stored s.event.effect m.config.cells = ap (λ (c : Config). c.cells) (kept_memory e)
        ∙ ap (λ (c : Config). c.cells) (standing_plain m.program d.to_do (stored s.event.effect m.config.cells) plain) in
        ends closing (record {
          new = w.new;
          after = w.after;
          run = one_more left m n out y some fuel s e plain k w.new w.after (end_of_iteration closing) w.run;
          sound = w.sound;
          memory = w.memory ∙ ap (λ (xs : List ℤ). standing m.program w.new.config.to_do (memory_after closing m.program w.run.events xs)) cells
              ∙ ap (λ (xs : List Event). standing m.program w.new.config.to_do (memory_after closing m.program xs m.config.cells))
              (sym (events_more left m n out y some fuel s e plain k w.new w.after (end_of_iteration closing) w.run));
        })
    further e plain (stuck w) =
        let run = (moved_step left m n out y fuel s).run in
        stuck (record {
          configs = n.config ∷ w.configs;
          are = run.configs ∙ ap (λ (cs : List Config). m.config ∷ cs) w.are;
          plain = All-cons IsPlain n.config w.configs plain w.plain;
          open_yet = ap (has_left (part_of m.config.to_do)) run.trace ∙ now_left left m n out y some fuel s (rest_of_run n).trace
              ∙ ap (λ (b : Bool). b || list_any is_leaving (rest_of_run n).trace) e
              ∙ sym (ap (λ (q : Part). has_left q (rest_of_run n).trace) plain) ∙ w.open_yet;
        })

    onward : ((m : MachineState) (out : List ℤ) → fuel_left m ≡ k → MachineIsSound m.program m.config m.current m.steps m.fuel →
        next_part m ≡ part.Region region
        → (part_of m.config.to_do ≡ part.Region region → clear_locals region m.program.vars m.config.cells ≡ m.config.cells) → Outcome k m out) →
        Outcome (suc k) m out
    onward go = elim (cases_Bool left) [
      | inl e ↦ closes e
      | inr e ↦ by e (part_of d.to_do) refl
    ]
      where
        by : left ≡ false → (q : Part) → part_of d.to_do ≡ q → Outcome (suc k) m out
        by e part.Plain plain = further e plain (go n y (omega (arith, left_is)) later (part_kept left m n out y some fuel s e plain ∙ next)
            (λ h. absurd (not_plain (part_of d.to_do) region h plain)))
        by e (part.Region r) h = next_head e (not_plain (part_of d.to_do) r h)
        by e part.Finished h = next_head e (λ f. let clash : part.Plain ≡ part.Finished = sym f ∙ h in absurd (cc clash))

  pub walk : (k : ℕ) (m : MachineState) (out : List ℤ) → fuel_left m ≡ k → MachineIsSound m.program m.config m.current m.steps m.fuel →
      next_part m ≡ part.Region region
      → (part_of m.config.to_do ≡ part.Region region → clear_locals region m.program.vars m.config.cells ≡ m.config.cells) → Outcome k m out
  walk zero m out left sound next still = stops zero m out 0 (end_at m.config.to_do) (spent m left)
  walk (suc k) m out left sound next still = by (step m.program m.input m.config) refl (walk k)
    where
      by : (s : Step) → step m.program m.input m.config ≡ s → ((m : MachineState) (out : List ℤ) → fuel_left m ≡ k →
          MachineIsSound m.program m.config m.current m.steps m.fuel → next_part m ≡ part.Region region
          → (part_of m.config.to_do ≡ part.Region region → clear_locals region m.program.vars m.config.cells ≡ m.config.cells) → Outcome k m out) →
          Outcome (suc k) m out
      by Finished e go = stops (suc k) m out (suc k) how.Done (by_step m k Finished left e)
      by (Faulted fault) e go = stops (suc k) m out (suc k) (how.Fault fault) (by_step m k (Faulted fault) left e)
      by (Stepped event d) e go =
          let q = part_of m.config.to_do in
          let leaves : Bool = leaves_region q event.effect in
          let site : SiteId = record { 0 = event.site } in
          let y = out ++ prints (event ∷ []) in
          let made : Made q (step m.program m.input m.config) (turn.Made leaves site (effect_seen event.effect)) m.config d out y =
          subst (λ (s : Step). Made q s (turn.Made leaves site (effect_seen event.effect)) m.config d out y) (sym e) (refl, refl, refl) in
          let t = taken m d leaves site (effect_seen event.effect) out y sound made in
          onward m out k left sound.under_way next still leaves d y t.step (t.still (omega (arith, left))) go
