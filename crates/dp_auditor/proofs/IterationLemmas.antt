-- An iteration that another one follows, and what is kept beyond.
use Rattle.std.proofs.Common.{◌≡◌, refl, sym, ap, ap₂, ◌∙◌, subst, arith, ℕ, suc, ◌+◌, ◌-◌, ◌<◌, ◌≤◌, ◌&&◌, ◌||◌, inl, inr, Bool, true, false, not}
use Rattle.std.proofs.Common.{if◌then◌else◌, List, [], ◌∷◌, ◌++◌, append-nil, length-append, ℤ, pos, length, take, drop, get_or, slice_range, slice_get, All}
use Rattle.std.proofs.Common.{Option, Some, None, is_some, is_none}
use Rattle.std.proofs.lemmas.Bool.{cases_eq}
use Rattle.std.proofs.lemmas.List.Elements.{All-append, All-cons, All-nil, All-weaker}
use Rattle.std.proofs.Math.Seq.{drop-append_seam, take-append_seam}
use Rattle.dp_base.specs.declared.Cause.{Cause}
use Rattle.dp_tree.specs.declared.Stmt.{Stmt, out-Stmt}
use Rattle.dp_tree.specs.declared.Stmt.TheOpen.{Stmt-F, Region}
use Rattle.dp_tree.specs.declared.Program.{Program}
use Rattle.dp_tree.specs.Step.{Config, Event, clear_locals}
use Rattle.dp_tree.specs.Trace.{Run, prints, run_of}
use Rattle.dp_tree.specs.Iteration.{cells_after, closes, events_from, has_ended, is_closing, iteration, memory_after, places, stands_at_head, start}
use Rattle.dp_tree.specs.GoesOn.{GoesOnAs, moved}
use Rattle.dp_tree.proofs.MovedLists.{places_split}
use Rattle.dp_plan.specs.declared.Plan.{Plan}
use Rattle.dp_semantics.specs.Clean.{is_clean}
use Rattle.dp_semantics.specs.Recovery.{is_recovered}
use Rattle.dp_semantics.specs.Seen.{is_local_at}
use Rattle.dp_theorem.proofs.Iterations.{IterationIs, iteration_is}
use Rattle.dp_theorem.proofs.Memory.{clear-at, clear-still}
use Rattle.dp_meaning.specs.declared.ends.Part.TheVariants as part
use Rattle.dp_meaning.specs.declared.ends.IterEnd.{IterEnd}
use Rattle.dp_meaning.specs.Continues.{Continues}
use Rattle.dp_meaning.specs.IterationRun.{HeadsOnce, IterationRun, StartsAgain, has_closed}
use Rattle.dp_meaning.specs.MachineState.{MachineState, fuel_left, from_region, is_any_region, part_from, part_of, rest_of_run}
use Rattle.dp_meaning.proofs.ContinuesLemmas.{continues_join}
use Rattle.dp_meaning.proofs.NextLemmas.{head_is, on_region, part_is}
use Rattle.dp_log.specs.Changes.{changes_between, memory_behind}
use Rattle.dp_log.specs.LogText.{group_bytes, iteration_bytes, iterations_bytes}
use Rattle.dp_view.specs.Changed.{Cleared}
use Rattle.dp_view.specs.Following.{KeptBefore, KeptNext, TellsClean}
use Rattle.dp_view.specs.Viewed.{Viewed, after_all, anew, next_in_epoch, settled}
use Rattle.dp_view.proofs.FollowLemmas as follow
use Rattle.dp_auditor.specs.Comparing.{Compared, PassesPiece}
use Rattle.dp_auditor.specs.Ending.{begun_next}
use Rattle.dp_auditor.specs.Gathered.{sets_between}
use Rattle.dp_view.specs.Heard.{Comes, LoadsFrom}
use Rattle.dp_auditor.specs.Regions.{AtRegion, SameRun}
use Rattle.dp_auditor.specs.Walking.{IsInside}
use Rattle.dp_auditor.proofs.HeadLemmas.{goes_so, no_place, stands_there}
use Rattle.dp_view.proofs.LoadLemmas.{goes_loads}
use Rattle.dp_auditor.proofs.PieceLemmas.{passes_join}
use Rattle.dp_auditor.proofs.PlainLemmas.{same_run}
use Rattle.dp_auditor.proofs.ReachedLemmas.{Reached}
use Rattle.dp_auditor.proofs.RegionLemmas.{ok, run_is, starts_here}
use Rattle.dp_auditor.proofs.SetLemmas.{changes_are, lines_join}

pub slice_mid : {X : Type 0} (a b c : List X) (k e : ℕ) → k ≡ length a → e ≡ k + length b → slice_range (a ++ (b ++ c)) k e ≡ b
slice_mid a b c k e from up =
    let count : e - k ≡ length b = omega (arith, up) in
    ap (λ (xs : List _). take (e - k) xs) (ap (λ (n : ℕ). drop n (a ++ (b ++ c))) from ∙ drop-append_seam a (b ++ c)) ∙ ap (λ (n : ℕ). take n (b ++ c)) count
    ∙ take-append_seam b c

-- the configurations of an iteration
heads_inside : (r : ℕ) (configs : List Config) → HeadsOnce r None configs → All (IsInside r) configs
heads_inside r [] h = All-nil (IsInside r)
heads_inside r (c ∷ rest) h = All-cons (IsInside r) c rest (inl h.0) (All-weaker (λ d. part_of d.to_do ≡ part.Plain) (IsInside r) (λ d e. inr e) rest h.1)

heads_once : (r n : ℕ) (configs : List Config) → 0 < length configs → HeadsOnce r None configs → places (stands_at_head r) n configs ≡ n ∷ []
heads_once r n [] some h = absurd (omega (arith, some))
heads_once r n (c ∷ rest) some h =
    ap (λ (b : Bool). if b then n ∷ places (stands_at_head r) (suc n) rest else places (stands_at_head r) (suc n) rest) (on_region r c h.0)
    ∙ ap (λ (ns : List ℕ). n ∷ ns) (no_place (stands_at_head r) (suc n) rest (All-weaker (λ d. part_of d.to_do ≡ part.Plain) (λ d. stands_at_head r d ≡ false)
    (λ d e. head_is r d.to_do ∙ ap (part_is r) e) rest h.1))

pub from_head : (r : ℕ) (xs : List Stmt) → part_of xs ≡ part.Region r → from_region xs ≡ xs
from_head r [] e = absurd (cc)
from_head r (s ∷ rest) e = ap (λ (b : Bool). if b then s ∷ rest else from_region rest) (by (out-Stmt s) e)
  where
    by : (h : Stmt-F Stmt) → part_from h ≡ part.Region r → is_any_region h ≡ true
    by (Region q site cond body) e = refl
    by _ e = absurd (cc)

pub some_not : (o : Option Cause) → not (is_none o) ≡ is_some o
some_not None = refl
some_not (Some cause) = refl

flipped : {X : Type 0} (o : Option Cause) (a b : X) → (if is_some o then b else a) ≡ (if is_none o then a else b)
flipped None a b = refl
flipped (Some cause) a b = refl

settled_source : (b : Bool) (v : Viewed) → (if b then next_in_epoch (settled v) else anew (settled v)).source ≡ (settled v).source
settled_source true v = refl
settled_source false v = refl

module _ (p : Program) (plan : Plan) (first ahead behind : MachineState) (v : Viewed) (old now : Compared) (i : ℕ) (at : AtRegion p plan first)
    (h : Reached p plan first ahead behind v old now i) where
  abbrev run : Run
  run = rest_of_run first

  abbrev r : ℕ
  r = plan.region

  abbrev k : ℕ
  k = length h.events

  pub goes_here : GoesOnAs plan.region i (length h.events) (rest_of_run first) (rest_of_run ahead)
  goes_here = subst (λ (n : ℕ). GoesOnAs plan.region n (length h.events) (rest_of_run first) (rest_of_run ahead)) h.heads
      (goes_so first ahead h.same h.events h.configs h.piece plan.region)

  -- the iteration starts where the machine stands
  pub start_here : start (rest_of_run first) plan.region i ≡ Some (length h.events)
  start_here =
      let none : i ≡ i + 0 = omega arith in
      let all : k + 0 ≡ k = omega arith in
      ap (start run r) none ∙ goes_here.started 0 ∙ ap (λ (ns : List ℕ). moved k (slice_get ns 0)) (starts_here ahead r h.at.head).1 ∙ ap Some all

  start_own : start (run_of p first.input (fuel_left first) first.config) plan.region i ≡ Some (length h.events)
  start_own = ap (λ (u : Run). start u r i) (sym (run_is p plan first at)) ∙ start_here

  pub is : IterationIs (ok p plan first at) first.input (fuel_left first) first.config at.stands i (length h.events)
  is = iteration_is (ok p plan first at) first.input (fuel_left first) first.config at.stands i (length h.events) start_own

  -- its events load from the memory that they leave, and body locals read 0 before it
  loads_here : LoadsFrom (memory_after (rest_of_run first) plan.region i) (iteration (rest_of_run first) plan.region i)
  loads_here = subst (λ (u : Run). LoadsFrom (memory_after u r i) (iteration u r i)) (sym (run_is p plan first at)) (goes_loads p first.input is.path)

  pub clean_before : Cleared p plan (memory_after (rest_of_run first) plan.region i)
  clean_before c local = ap (λ (u : Run). get_or (memory_after u r i) c (pos 0)) (run_is p plan first at) ∙ is.cleared c local

  pub told_here : TellsClean p plan (rest_of_run first) h.epoch i (after_all (iteration (rest_of_run first) plan.region i) v)
  told_here =
      subst (λ (u : Run). start u r i ≡ Some k → KeptBefore p plan u h.epoch i v → TellsClean p plan u h.epoch i (after_all (iteration u r i) v))
      (sym (run_is p plan first at))
      (λ s kept. follow.views_tell (ok p plan first at) first.input (fuel_left first) first.config at.stands h.epoch i k s v kept) start_here h.kept

  -- the iteration is executed again where it isn't clean in the epoch that is kept
  pub again_is : is_recovered p plan (rest_of_run first) i ≡ not (has_ended (rest_of_run first) plan.region i && is_none
      (after_all (iteration (rest_of_run first) plan.region i) v).found)
  again_is = ap (λ (e : ℕ). not (is_clean p plan run e i)) h.kept.epoch ∙ ap not told_here.clean

  module _ (beyond : MachineState) (before after : List ℤ) (how : IterEnd) (call : IterationRun plan.region 4294967295 ahead beyond before after how) where
    abbrev events : List Event
    events = call.events

    same_call : SameRun ahead beyond
    same_call = record { program_is = call.moved.program; input_is = call.moved.input; fuel_is = call.moved.fuel }

    same_all : SameRun first beyond
    same_all = same_run first ahead beyond h.same same_call

    pub once : HeadsOnce plan.region None call.configs
    once = subst (λ (o : Option ℕ). HeadsOnce plan.region o call.configs) h.at.between call.heads

    pub piece_all : Continues (rest_of_run first) (h.events ++ call.events) (h.configs ++ call.configs) (rest_of_run beyond)
    piece_all = continues_join (rest_of_run first) (rest_of_run ahead) (rest_of_run beyond) h.events call.events h.configs call.configs h.piece call.moved.run

    pub inside_all : All (IsInside plan.region) (h.configs ++ call.configs)
    inside_all = All-append (IsInside plan.region) h.configs call.configs h.inside (heads_inside plan.region call.configs once)

    pub heads_all : 0 < length call.events → length (places (stands_at_head plan.region) 0 (h.configs ++ call.configs)) ≡ i + 1
    heads_all some =
        let size = call.moved.run.paired in
        let one : places (stands_at_head r) (0 + length h.configs) call.configs ≡ (0 + length h.configs) ∷ [] = heads_once r (0 + length h.configs) call.configs
        (omega (arith, some, size)) once in
        let sum : length (places (stands_at_head r) 0 h.configs ++ places (stands_at_head r) (0 + length h.configs) call.configs) ≡ i + 1 =
        ap (λ (ns : List ℕ). length (places (stands_at_head r) 0 h.configs ++ ns)) one ∙ length-append (places (stands_at_head r) 0 h.configs)
        ((0 + length h.configs) ∷ []) ∙ ap (λ (n : ℕ). n + 1) h.heads in
        ap length (places_split (stands_at_head r) 0 h.configs call.configs) ∙ sum

    pub trace_all : (rest_of_run first).trace ≡ h.events ++ (call.events ++ (rest_of_run beyond).trace)
    trace_all = h.piece.trace ∙ ap (λ (xs : List Event). h.events ++ xs) call.moved.run.trace

    -- What comes for the machine that is watched.
    pub comes : iteration (rest_of_run first) plan.region i ≡ call.events → Comes behind beyond.steps v.source call.events (rest_of_run beyond).trace
    comes same = record {
      trace = h.trace ∙ call.moved.run.trace;
      steps = ap (λ (n : ℕ). n + length call.events) h.steps ∙ sym call.moved.steps;
      loads = subst (λ (cells : List ℤ). LoadsFrom cells call.events) (sym h.kept.source)
          (subst (λ (es : List Event). LoadsFrom (memory_after run r i) es) same loads_here);
    }

    module _ (s : StartsAgain plan.region ahead beyond call.events) where
      some : 0 < length call.events
      some = s.some h.at.between

      next_start : start (rest_of_run first) plan.region (suc i) ≡ Some (length h.events + length call.events)
      next_start =
          let goes = subst (λ (n : ℕ). GoesOnAs r n (length (h.events ++ call.events)) run (rest_of_run beyond)) (heads_all some)
          (goes_so first beyond same_all (h.events ++ call.events) (h.configs ++ call.configs) piece_all r) in
          let this : suc i ≡ i + 1 + 0 = omega arith in
          let size : length (h.events ++ call.events) + 0 ≡ k + length call.events = omega (arith, length-append h.events call.events) in
          ap (start run r) this ∙ goes.started 0 ∙ ap (λ (ns : List ℕ). moved (length (h.events ++ call.events)) (slice_get ns 0))
          (starts_here beyond r s.head).1 ∙ ap Some size

      pub events_are : iteration (rest_of_run first) plan.region i ≡ call.events
      events_are =
          ap₂ (events_from run) start_here next_start ∙ ap (λ (es : List Event). slice_range es k (k + length call.events)) trace_all
          ∙ slice_mid h.events call.events (rest_of_run beyond).trace k (k + length call.events) refl refl

      pub has_end : has_ended (rest_of_run first) plan.region i ≡ true
      has_end = ap (λ (o : Option ℕ). is_some o || is_closing run r i) next_start

      pub not_closing : is_closing (rest_of_run first) plan.region i ≡ false
      not_closing = ap closes events_are ∙ ap (λ (o : Option ℕ). has_closed o call.events) (sym h.at.between) ∙ s.not_closed

      -- what is kept behind the events
      module _ (w : Viewed) (kept : w ≡ after_all call.events v) where
        w_is : after_all (iteration (rest_of_run first) plan.region i) v ≡ w
        w_is = ap (λ (es : List Event). after_all es v) events_are ∙ sym kept

        tells : TellsClean p plan (rest_of_run first) h.epoch i w
        tells = subst (TellsClean p plan (rest_of_run first) h.epoch i) w_is told_here

        pub before_cleared : Cleared w.program w.plan w.before
        before_cleared =
            let program : w.program ≡ p = ap (λ (x : Viewed). x.program) kept ∙ follow.all_still (λ (x : Viewed). x.program) (λ x y one two three. one)
            call.events v ∙ h.kept.program in
            let plan_is : w.plan ≡ plan = ap (λ (x : Viewed). x.plan) kept ∙ follow.all_still (λ (x : Viewed). x.plan) (λ x y one two three. two) call.events
            v ∙ h.kept.plan_is in
            subst (λ (x : Program). Cleared x w.plan w.before) (sym program) (subst (λ (x : Plan). Cleared p x w.before) (sym plan_is)
            (subst (Cleared p plan) (sym tells.before) clean_before))

        kept_next : KeptNext p plan (rest_of_run first) h.epoch i w
        kept_next = tells.next has_end not_closing

        source_next : (settled w).source ≡ memory_after (rest_of_run first) plan.region (suc i)
        source_next = sym (settled_source (is_none w.found) w) ∙ kept_next.source

        -- its lines
        pub text_is : (printed : List ℤ) → printed ≡ prints call.events → group_bytes i (is_some w.found) (sets_between w.before (settled w).source) printed
            ≡ iteration_bytes p plan (rest_of_run first) i
        text_is printed e = λ j. group_bytes i (again j) (sets j) (ended_prints j)
          where
            again : is_some w.found ≡ is_recovered p plan (rest_of_run first) i
            again = sym (again_is ∙ ap (λ (b : Bool). not (b && is_none (after_all (iteration run r i) v).found)) has_end
                ∙ ap (λ (x : Viewed). not (is_none x.found)) w_is ∙ some_not w.found)

            behind_is : memory_behind (rest_of_run first) plan.region i ≡ memory_after (rest_of_run first) plan.region (suc i)
            behind_is = ap (λ (b : Bool). if b then memory_after run r (suc i) else cells_after run (length run.trace)) has_end

            program : w.program ≡ p
            program = ap (λ (x : Viewed). x.program) kept ∙ follow.all_still (λ (x : Viewed). x.program) (λ x y one two three. one)
                call.events v ∙ h.kept.program

            plan_is : w.plan ≡ plan
            plan_is = ap (λ (x : Viewed). x.plan) kept ∙ follow.all_still (λ (x : Viewed). x.plan) (λ x y one two three. two) call.events v ∙ h.kept.plan_is

            -- cleared once more, the memory is the same
            settled_twice : clear_locals plan.region p.vars (settled w).source ≡ (settled w).source
            settled_twice =
                let cleared : (c : ℕ) → is_local_at p plan c ≡ true → get_or (clear_locals plan.region p.vars w.source) c (pos 0) ≡ pos 0 = λ c local. clear-at
                plan.region c p.vars w.source (inl local) in
                let is : (settled w).source ≡ clear_locals plan.region p.vars w.source = λ j. clear_locals (plan_is j).region (program j).vars w.source in
                ap (clear_locals plan.region p.vars) is ∙ clear-still plan.region p.vars (clear_locals plan.region p.vars w.source) cleared ∙ sym is

            sets : sets_between w.before (settled w).source ≡ changes_between p plan (memory_after (rest_of_run first) plan.region i)
                (memory_behind (rest_of_run first) plan.region i)
            sets =
                ap₂ sets_between tells.before (sym settled_twice) ∙ changes_are p plan (memory_after run r i) (settled w).source clean_before
                ∙ ap (changes_between p plan (memory_after run r i)) (source_next ∙ sym behind_is)

            ended_prints : printed ≡ prints (iteration (rest_of_run first) plan.region i)
            ended_prints = e ∙ ap prints (sym events_are)

        -- The next iteration is reached.
        pub reached_next : (other : MachineState) (x : Viewed) (new : Compared) (printed : List ℤ) → printed ≡ prints call.events →
            (rest_of_run other).trace ≡ (rest_of_run beyond).trace → other.steps ≡ beyond.steps → x ≡ begun_next (is_some w.found) (settled w) →
            PassesPiece now new (group_bytes i (is_some w.found) (sets_between w.before (settled w).source) printed) →
            Reached p plan first beyond other x old new (i + 1)
        reached_next other x new printed e trace steps x_is passes = record {
          at = record {
            inlined = h.at.inlined;
            is_plan = h.at.is_plan;
            program_is = call.moved.program ∙ h.at.program_is;
            stands = stands_there ahead beyond same_call call.events call.configs call.moved.run p h.at.inlined h.at.program_is h.at.stands;
            head = s.head;
            between = s.current;
            few = subst (λ (n : ℕ). n ≤ 1000000000) (sym call.moved.fuel) h.at.few;
          };
          trace = trace;
          steps = steps;
          same = same_all;
          rest = s.rest ∙ from_head plan.region ahead.config.to_do h.at.head ∙ h.rest;
          events = h.events ++ call.events;
          configs = h.configs ++ call.configs;
          piece = piece_all;
          inside = inside_all;
          heads = heads_all some;
          going = λ j less. elim (cases_eq j i) [
            | inl same ↦ ap (is_closing run r) same ∙ not_closing
            | inr off ↦ h.going j (omega (arith, less, off))
          ];
          epoch = if is_none w.found then h.epoch else suc i;
          kept =
              let this : suc i ≡ i + 1 = omega arith in
              let kept_is : KeptBefore p plan run (if is_none w.found then h.epoch else suc i) (suc i) x =
              subst (KeptBefore p plan run (if is_none w.found then h.epoch else suc i) (suc i))
              (sym (x_is ∙ flipped w.found (next_in_epoch (settled w)) (anew (settled w)))) kept_next in
              subst (λ (n : ℕ). KeptBefore p plan run (if is_none w.found then h.epoch else suc i) n x) this kept_is;
          lines = subst (PassesPiece old new) (sym (lines_join p plan run i 1 ∙ ap (λ (xs : List ℕ). iterations_bytes p plan run 0 i ++ xs) one_line))
              (passes_join old now new (iterations_bytes p plan run 0 i) (iteration_bytes p plan run i) h.lines
              (subst (PassesPiece now new) (text_is printed e) passes));
        }
          where
            one_line : iterations_bytes p plan (rest_of_run first) i 1 ≡ iteration_bytes p plan (rest_of_run first) i
            one_line = append-nil (iteration_bytes p plan (rest_of_run first) i)
