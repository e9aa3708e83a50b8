-- What a stretch of steps is of a plain part, and of an iteration.
use Rattle.dp_meaning.proofs.Names.{IsAnyRegion, Result, Ok, Err, ◌≡◌, refl, sym, ◌∙◌, ap, subst, ℕ, Option, None, Some, List, [], ◌∷◌, length, ℤ, Config}
use Rattle.dp_meaning.proofs.Names.{Event, Stmt, Part, PartEnd, MachineState, part_of, part_at, next_part, from_region, Spoiled, PartRun, PartStops}
use Rattle.dp_meaning.proofs.Names.{IterationRun, HeadsOnce, AwaitsCondition, has_closed, upto_closing, current_after, UnderWay}
use Rattle.std.specs.Prelude.{MatchResult}
use Rattle.dp_room.specs.declared.NoMemory.{NoMemory}
use Rattle.dp_meaning.specs.declared.ends.Part.TheVariants as part
use Rattle.dp_meaning.specs.declared.ends.IterEnd.{IterEnd}
use Rattle.dp_meaning.specs.declared.ends.IterEnd.TheVariants as end
use Rattle.dp_meaning.specs.declared.ends.PartEnd.TheVariants as part_end
use Rattle.dp_meaning.specs.IterationRun.{IterationStops}
use Rattle.dp_meaning.specs.steps.Stretch.{has_left, upto_left, HeadsHere, IsAmid, Stretch, end_of_part}
use Rattle.dp_meaning.proofs.ShapeLemmas.{not_plain}
use Rattle.dp_meaning.proofs.StopLemmas.{from_region-over, part_idle, plain_idle}
use Rattle.dp_meaning.proofs.StretchLemmas.{all_plain}

-- a region has a number
pub some_region : (q : Part) → IsAnyRegion q → (r : ℕ) × (q ≡ part.Region r)
some_region (part.Region r) h = (r, refl)
some_region part.Plain h = absurd h
some_region part.Finished h = absurd h

-- of a plain part
module _ (turns : ℕ) (old new : MachineState) (x z : List ℤ) (next : next_part old ≡ part.Plain) where
  idle : old.current ≡ None
  idle = plain_idle old.current old.config.to_do next

  run_with : (how : IterEnd) (s : Stretch turns old new x z how) (stop : PartEnd) → from_region new.config.to_do ≡ from_region old.config.to_do →
      new.current ≡ None → PartStops turns (length s.events) old new stop → PartRun turns old new x z stop
  run_with how s stop behind current stops = record {
    went = record {
      events = s.events;
      configs = s.configs;
      moved = s.moved;
      plain = all_plain old.config s.configs (sym (part_idle old idle) ∙ next) s.heads;
      behind = behind;
      current = current ∙ sym idle;
      spoiled = s.spoiled;
    };
    within = s.within;
    stops = stops;
  }

  still_idle : next_part new ≡ next_part old → new.current ≡ None
  still_idle e = plain_idle new.current new.config.to_do (e ∙ next)

  pub as_part : (how : IterEnd) → Stretch turns old new x z how → PartRun turns old new x z (end_of_part how)
  as_part end.Next s = run_with end.Next s part_end.Done s.behind s.stands.0
      (record { part = λ e. s.stands.1 (sym (part_idle new s.stands.0) ∙ e); rest = sym (from_region-over new.config.to_do s.stands.1) ∙ s.behind })
  as_part end.Closed s = absurd (s.stands.1 next)
  as_part (end.Fault fault) s = run_with (end.Fault fault) s (part_end.Fault fault) s.behind (still_idle s.stands.0) (s.stands.0 ∙ next, s.halts.0, s.halts.1)
  as_part end.Fuel s = run_with end.Fuel s part_end.Fuel s.behind (still_idle s.stands.0) (s.stands.0 ∙ next, s.halts)
  as_part end.Going s = run_with end.Going s part_end.Going s.behind (still_idle s.stands.0) (s.stands.0 ∙ next, s.halts.0, s.halts.1)

-- of an iteration
module _ (region : ℕ) where
  -- where it may be gone on with
  record At (current : Option ℕ) (c : Config) : Type 0 where
    closed : (es : List Event) → has_closed current es ≡ has_left (part_of c.to_do) es
    upto : (es : List Event) → upto_closing current es ≡ upto_left (part_of c.to_do) es
    heads : (cs : List Config) → HeadsHere c cs → HeadsOnce region current cs
    awaits : AwaitsCondition region current c
    ahead : part_of (from_region c.to_do) ≡ part.Region region

  pub at_head : (c : Config) → part_of c.to_do ≡ part.Region region → (cs : List Config) → HeadsHere c cs → HeadsOnce region None cs
  at_head c here [] h = tt
  at_head c here (d ∷ cs) h = (ap (λ (e : Config). part_of e.to_do) h.0 ∙ here, h.1)

  at : (current : Option ℕ) (c : Config) → UnderWay current c.to_do → part_at current c.to_do ≡ part.Region region → At current c
  at None c u here = record {
    closed = λ es. sym (ap (λ (q : Part). has_left q es) here);
    upto = λ es. sym (ap (λ (q : Part). upto_left q es) here);
    heads = at_head c here;
    awaits = here;
    ahead = ap part_of (from_region-over c.to_do (not_plain (part_of c.to_do) region here)) ∙ here;
  }
  at (Some r) c w here =
      let same : r ≡ region = cc in
      record {
        closed = λ es. sym (ap (λ (q : Part). has_left q es) w.first);
        upto = λ es. sym (ap (λ (q : Part). upto_left q es) w.first);
        heads = λ cs h. all_plain c cs w.first h;
        awaits = w.first;
        ahead = w.next ∙ ap part.Region same;
      }

  named : (o : Option ℕ) (xs : List Stmt) → part_of xs ≡ part.Plain → part_at o xs ≡ part.Region region → o ≡ Some region
  named None xs plain e = absurd (not_plain (part_of xs) region e plain)
  named (Some r) xs plain e = let same : r ≡ region = cc in ap Some same

  module _ (turns : ℕ) (old new : MachineState) (x z : List ℤ) (u : UnderWay old.current old.config.to_do) (next : next_part old ≡ part.Region region) where
    here : At old.current old.config
    here = at old.current old.config u next

    amid : (es : List Event) → next_part new ≡ next_part old → IsAmid old new es → (new.current ≡ current_after region old.current es)
        × AwaitsCondition region new.current new.config
    amid [] same h = (
      h.0,
      subst (λ (o : Option ℕ). AwaitsCondition region o new.config) (sym h.0) (subst (λ (c : Config). AwaitsCondition region old.current c)
          (sym h.1) here.awaits),
    )
    amid (e ∷ es) same plain = let is = named new.current new.config.to_do plain (same ∙ next) in
        (is, subst (λ (o : Option ℕ). AwaitsCondition region o new.config) (sym is) plain)

    pub stops : (how : IterEnd) (s : Stretch turns old new x z how) → IterationStops region turns old new s.events how
    stops end.Next s = let over = from_region-over new.config.to_do s.stands.1 in record {
      not_closed = here.closed s.events ∙ s.left;
      current = s.stands.0;
      head = ap part_of (sym over ∙ s.behind) ∙ here.ahead;
      rest = sym over ∙ s.behind;
      some = λ e. s.stands.2;
    }
    stops end.Closed s = record { closed = here.closed s.events ∙ s.left; last = here.upto s.events ∙ s.last; current = s.stands.0; rest = s.behind }
    stops (end.Fault fault) s = let a = amid s.events s.stands.0 s.stands.1 in
        (record { not_closed = here.closed s.events ∙ s.left; current = a.0; awaits = a.1; behind = s.behind }, s.halts.0, s.halts.1)
    stops end.Fuel s = let a = amid s.events s.stands.0 s.stands.1 in
        (record { not_closed = here.closed s.events ∙ s.left; current = a.0; awaits = a.1; behind = s.behind }, s.halts)
    stops end.Going s = let a = amid s.events s.stands.0 s.stands.1 in
        (record { not_closed = here.closed s.events ∙ s.left; current = a.0; awaits = a.1; behind = s.behind }, s.halts.0, s.halts.1)

    pub as_iteration : (how : IterEnd) → Stretch turns old new x z how → IterationRun region turns old new x z how
    as_iteration how s =
        record {
          events = s.events;
          configs = s.configs;
          moved = s.moved;
          heads = here.heads s.configs s.heads;
          within = s.within;
          stops = stops how s;
          spoiled = s.spoiled;
        }

pub iterated : (region turns : ℕ) (old new : MachineState) (x z : List ℤ) → UnderWay old.current old.config.to_do → next_part old ≡ part.Region region →
    (r : Result IterEnd NoMemory) → MatchResult r (Stretch turns old new x z) (λ _. Spoiled turns old new x z)
    → MatchResult r (IterationRun region turns old new x z) (λ _. Spoiled turns old new x z)
iterated region turns old new x z u next (Ok how) s = as_iteration region turns old new x z u next how s
iterated region turns old new x z u next (Err why) s = s
