-- A call of `iterate` has one answer: the machine before it settles the machine after it, the prints and the end.
use Rattle.dp_meaning.proofs.Names.{◌≡◌, refl, sym, ◌∙◌, ap, subst, ◌⊎◌, inl, inr, Option, None, Some, ℕ, ◌<◌, ◌≤◌, Bool, true, false, ◌||◌, List, [], ◌∷◌}
use Rattle.dp_meaning.proofs.Names.{◌++◌, length, ℤ, arith, All-head, Config, Event, Run, decides_zero, is_leaving, list_any, Part, MachineState, part_of}
use Rattle.dp_meaning.proofs.Names.{rest_of_run, IterationRun, IterationStops, HeadsOnce, AwaitsCondition, IterationGoesOn, StartsAgain, has_closed}
use Rattle.dp_meaning.proofs.Names.{upto_closing, current_after}
use Rattle.dp_tree.proofs.Leaving.{any_more}
use Rattle.std.proofs.lemmas.Bool.{cases_order}
use Rattle.dp_meaning.specs.declared.ends.Part.TheVariants as part
use Rattle.dp_meaning.specs.declared.ends.IterEnd.{IterEnd}
use Rattle.dp_meaning.specs.declared.ends.IterEnd.TheVariants.{Next, Closed, Fault, Fuel, Going}
use Rattle.dp_meaning.proofs.NextLemmas.{upto_front, last_front}
use Rattle.dp_meaning.proofs.StretchLemmas.{IsPlain}
use Rattle.dp_meaning.proofs.rows.PartAnswers.{no_event}
use Rattle.dp_meaning.proofs.rows.Stretches.{Further, further, alike, same_prints, same_but, same_machine, behind_all}

clash : (p : Part) (r : ℕ) → p ≡ part.Region r → p ≡ part.Plain → ⊥
clash p r e f = absurd (cc)

-- no region is before a step behind the iteration's first
plain_behind : (region : ℕ) (current : Option ℕ) (cs more : List Config) (c : Config) → HeadsOnce region current (cs ++ c ∷ more) →
    (current ≡ None → 0 < length cs) → IsPlain c
plain_behind region (Some r) cs more c h some = All-head IsPlain c more (behind_all IsPlain cs (c ∷ more) h)
plain_behind region None [] more c h some = let none : 0 < 0 = some refl in absurd (omega (arith, none))
plain_behind region None (d ∷ cs) more c h some = All-head IsPlain c more (behind_all IsPlain cs (c ∷ more) h.1)

closed_front : (current : Option ℕ) (es more : List Event) → has_closed current es ≡ true → has_closed current (es ++ more) ≡ true
closed_front (Some r) es more h = any_more es more h
closed_front None [] more h = absurd (cc)
closed_front None (e ∷ es) more h = by (decides_zero e.effect) h
  where
    by : (b : Bool) → (b || list_any is_leaving (e ∷ es)) ≡ true → (b || list_any is_leaving (e ∷ es ++ more)) ≡ true
    by true k = refl
    by false k = any_more (e ∷ es) more k

closing_front : (current : Option ℕ) (es more : List Event) → has_closed current es ≡ true → upto_closing current es ≡ es →
    upto_closing current (es ++ more) ≡ es
closing_front (Some r) es more c h = upto_front es more c ∙ h
closing_front None es more c h = last_front es more c ∙ h

longer : (current : Option ℕ) (es fs more : List Event) → has_closed current es ≡ true → upto_closing current es ≡ es → fs ≡ es ++ more →
    upto_closing current fs ≡ fs → length es < length fs → ⊥
longer current es fs more c h is last less =
    let same : fs ≡ es = sym last ∙ ap (upto_closing current) is ∙ closing_front current es more c h in
    let size = ap length same in
    absurd (omega (arith, size, less))

module _ (region turns : ℕ) (old : MachineState) (before : List ℤ) where
  last_step : (b : MachineState) (fs : List Event) (how : IterEnd) → IterationStops region turns old b fs how → (has_closed old.current fs ≡ false)
      ⊎ (upto_closing old.current fs ≡ fs)
  last_step b fs Next s = inl s.not_closed
  last_step b fs Closed s = inr s.last
  last_step b fs _ s = inl s.0.not_closed

  module _ (a b : MachineState) (es fs : List Event) (cs ds : List Config) (k : Further a es fs cs ds) (heads : HeadsOnce region old.current ds)
      (paired : length cs ≡ length es) where
    plain_here : (old.current ≡ None → 0 < length es) → IsPlain a.config
    plain_here some = plain_behind region old.current cs k.configs a.config (subst (HeadsOnce region old.current) k.configs_are heads) (λ e. let h = some e in
        omega (arith, h, paired))

    no_step : (end how : IterEnd) → IterationStops region turns old a es end → IterationStops region turns old b fs how → length es < length fs →
        length fs ≤ turns → ⊥
    no_step Next how r s h w = clash (part_of a.config.to_do) region r.head (plain_here r.some)
    no_step Closed how r s h w =
        elim (last_step b fs how s) [
          | inl stays ↦ (let clash : true ≡ false = sym (closed_front old.current es k.events r.closed) ∙ ap (has_closed old.current) (sym
              k.events_are) ∙ stays in absurd (cc clash))
          | inr last ↦ longer old.current es fs k.events r.closed r.last k.events_are last h
        ]
    no_step (Fault fault) how r s h w = no_event (rest_of_run a) _ a.config _ r.2.ends k.some
    no_step Fuel how r s h w = no_event (rest_of_run a) _ a.config _ r.1.ends k.some
    no_step Going how r s h w = let all = r.2 in absurd (omega (arith, h, w, all))

  no_further : (a b : MachineState) (y z : List ℤ) (end how : IterEnd) (r : IterationRun region turns old a before y end)
      (s : IterationRun region turns old b before z how) → length r.events < length s.events → ⊥
  no_further a b y z end how r s h =
      let k = further old a b before y z r.events s.events r.configs s.configs r.moved s.moved h in
      no_step a b r.events s.events r.configs s.configs k s.heads r.moved.run.paired end how r.stops s.stops h s.within

  -- while the iteration goes on its condition isn't next again
  awaits_plain : (current : Option ℕ) (es : List Event) (c : Config) → (current ≡ None → 0 < length es) →
      AwaitsCondition region (current_after region current es) c → IsPlain c
  awaits_plain (Some r) [] c some h = h
  awaits_plain (Some r) (e ∷ es) c some h = h
  awaits_plain None [] c some h = let none : 0 < 0 = some refl in absurd (omega (arith, none))
  awaits_plain None (e ∷ es) c some h = h

  not_again : (a b : MachineState) (es : List Event) → a.config ≡ b.config → StartsAgain region old a es → IterationGoesOn region old b es → ⊥
  not_again a b es same r g =
      let awaits : AwaitsCondition region (current_after region old.current es) b.config = subst (λ (c : Option ℕ). AwaitsCondition region c b.config)
      g.current g.awaits in
      clash (part_of a.config.to_do) region r.head
      (awaits_plain old.current es a.config r.some (subst (λ (c : Config). AwaitsCondition region (current_after region old.current es) c) (sym same) awaits))

  opposite : (v : Bool) → v ≡ true → v ≡ false → ⊥
  opposite v e f = absurd (cc)

  module _ (a b : MachineState) (es : List Event) (but : a ≡ record b { current = a.current; spoiled = a.spoiled }) where
    config : a.config ≡ b.config
    config = ap (λ (m : MachineState). m.config) but

    steps : a.steps ≡ b.steps
    steps = ap (λ (m : MachineState). m.steps) but

    fuel : a.fuel ≡ b.fuel
    fuel = ap (λ (m : MachineState). m.fuel) but

    rest : rest_of_run a ≡ rest_of_run b
    rest = ap rest_of_run but

    closes_once : has_closed old.current es ≡ true → has_closed old.current es ≡ false → ⊥
    closes_once e f = opposite (has_closed old.current es) e f

    same_end : (end how : IterEnd) → IterationStops region turns old a es end → IterationStops region turns old b es how → end ≡ how
    same_end Next Next r s = refl
    same_end Next Closed r s = absurd (closes_once s.closed r.not_closed)
    same_end Next _ r s = absurd (not_again a b es config r s.0)
    same_end Closed Next r s = absurd (closes_once r.closed s.not_closed)
    same_end Closed Closed r s = refl
    same_end Closed _ r s = absurd (closes_once r.closed s.0.not_closed)
    same_end (Fault fault) (Fault other) r s = let k = ap (λ (x : Run). x.end) (sym r.2.ends ∙ rest ∙ s.2.ends) in cc
    same_end (Fault fault) Fuel r s = let less = r.2.within in let all = s.1.spent in let e = steps in let f = fuel in absurd (omega (arith, less, all, e, f))
    same_end (Fault fault) Going r s = let less = r.1 in let all = s.2 in absurd (omega (arith, less, all))
    same_end Fuel (Fault other) r s = let less = s.2.within in let all = r.1.spent in let e = steps in let f = fuel in absurd (omega (arith, less, all, e, f))
    same_end Fuel Fuel r s = refl
    same_end Fuel Going r s = let less = s.1 in let all = r.1.spent in let e = steps in let f = fuel in absurd (omega (arith, less, all, e, f))
    same_end Going (Fault other) r s = let less = s.1 in let all = r.2 in absurd (omega (arith, less, all))
    same_end Going Fuel r s = let less = r.1 in let all = s.1.spent in let e = steps in let f = fuel in absurd (omega (arith, less, all, e, f))
    same_end Going Going r s = refl
    same_end _ Next r s = absurd (not_again b a es (sym config) s r.0)
    same_end _ Closed r s = absurd (closes_once s.closed r.0.not_closed)

    same_current : (end : IterEnd) → IterationStops region turns old a es end → IterationStops region turns old b es end → a.current ≡ b.current
    same_current Next r s = r.current ∙ sym s.current
    same_current Closed r s = r.current ∙ sym s.current
    same_current _ r s = r.0.current ∙ sym s.0.current

  module _ (a b : MachineState) (y z : List ℤ) (end how : IterEnd) (r : IterationRun region turns old a before y end)
      (s : IterationRun region turns old b before z how) where
    record OneAnswer : Type 0 where
      machine : a ≡ b
      prints : z ≡ y
      ends : end ≡ how

    as_long : length r.events ≡ length s.events → OneAnswer
    as_long e =
        let k = alike old a b before y z r.events s.events r.configs s.configs r.moved s.moved e in
        let but = same_but old a b before y z r.events s.events r.configs s.configs r.moved s.moved k in
        let other = subst (λ (es : List Event). IterationStops region turns old b es how) k.events s.stops in
        let ends = same_end a b r.events but end how r.stops other in
        let current = same_current a b r.events but end r.stops (subst (λ (x : IterEnd). IterationStops region turns old b r.events x) (sym ends) other) in
        record {
          machine = same_machine a b but current (r.spoiled ∙ sym s.spoiled);
          prints = same_prints old a b before y z r.events s.events r.configs s.configs r.moved s.moved k;
          ends = ends;
        }

    one_answer : OneAnswer
    one_answer = elim (cases_order (length r.events) (length s.events)) [
      | inl e ↦ as_long e
      | inr (inl h) ↦ absurd (no_further a b y z end how r s h)
      | inr (inr h) ↦ absurd (no_further b a z y how end s r h)
    ]
