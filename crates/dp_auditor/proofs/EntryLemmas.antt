-- Where the comparison of a region's iterations begins, and where the fuel is spent before one.
use Rattle.std.proofs.Common.{◌≡◌, ◌≢◌, refl, sym, ap, ◌∙◌, subst, arith, ne_eqb, ℕ, zero, suc, ◌+◌, ◌-◌, inl, inr, false, List, [], length, take, slice_range}
use Rattle.std.proofs.Common.{Option, Some, None}
use Rattle.std.proofs.lemmas.List.Elements.{All-nil, All-weaker}
use Rattle.dp_base.specs.declared.End.TheVariants.{Fuel}
use Rattle.dp_tree.specs.declared.Program.{Program}
use Rattle.dp_tree.specs.Step.{Config, Event}
use Rattle.dp_tree.specs.Trace.{Run, run_of}
use Rattle.dp_tree.specs.Iteration.{begun_count, closes, events_from, is_closing, iteration, memory_after, stands_at_head, start, stop_from}
use Rattle.dp_tree.specs.GoesOn.{GoesOnAs}
use Rattle.dp_plan.specs.declared.Plan.{Plan}
use Rattle.dp_semantics.specs.CauseWalk.{first_watch}
use Rattle.dp_meaning.specs.declared.ends.Part.TheVariants as part
use Rattle.dp_meaning.specs.MachineState.{MachineState, fuel_left, part_of, rest_of_run}
use Rattle.dp_meaning.proofs.ContinuesLemmas.{continues_none, ends_at_fuel}
use Rattle.dp_meaning.proofs.NextLemmas.{head_is, part_is}
use Rattle.dp_log.specs.LogText.{iterations_bytes}
use Rattle.dp_view.specs.Following.{KeptBefore}
use Rattle.dp_view.specs.Viewed.{Viewed, begun}
use Rattle.dp_auditor.specs.Comparing.{Compared, PassesPiece}
use Rattle.dp_auditor.specs.Regions.{AtRegion}
use Rattle.dp_auditor.specs.Walking.{IsInside, IterationsCompared, OnlyBegins}
use Rattle.dp_auditor.specs.declared.iterations.After.TheVariants as after
use Rattle.dp_auditor.proofs.HeadLemmas.{goes_so, no_place}
use Rattle.dp_auditor.proofs.IterationLemmas.{goes_here}
use Rattle.dp_auditor.proofs.PieceLemmas.{passes_none}
use Rattle.dp_auditor.proofs.ReachedLemmas.{Reached}
use Rattle.dp_auditor.proofs.RegionLemmas.{memory_is, run_is, spent_begins, spent_ends}

abbrev no_events : List Event
no_events = []

empty_front : (n : ℕ) → take n no_events ≡ []
empty_front zero = refl
empty_front (suc n) = refl

empty_range : (k n : ℕ) → slice_range no_events k n ≡ []
empty_range zero n = empty_front (n - 0)
empty_range (suc k) n = empty_front (n - suc k)

module _ (p : Program) (plan : Plan) (first : MachineState) (at : AtRegion p plan first) where
  memory_first : memory_after (rest_of_run first) plan.region 0 ≡ first.config.cells
  memory_first = ap (λ (u : Run). memory_after u plan.region 0) (run_is p plan first at) ∙ memory_is p plan first at

  kept_first : KeptBefore p plan (rest_of_run first) 0 0 (begun p plan first.config.cells)
  kept_first = record {
    program = refl;
    plan_is = refl;
    watch = ap (first_watch plan) (sym memory_first);
    source = sym memory_first;
    before = sym memory_first;
    found = refl;
    since = omega arith;
    epoch = refl;
    clean = λ j low high. absurd (omega (arith, high));
  }

  pub reached_first : (behind : MachineState) (v : Viewed) (old : Compared) → (rest_of_run behind).trace ≡ (rest_of_run first).trace →
      behind.steps ≡ first.steps → v ≡ begun p plan first.config.cells → Reached p plan first first behind v old old 0
  reached_first behind v old trace steps is = record {
    at = at;
    trace = trace;
    steps = steps;
    same = record { program_is = refl; input_is = refl; fuel_is = refl };
    rest = refl;
    events = [];
    configs = [];
    piece = continues_none (rest_of_run first);
    inside = All-nil (IsInside plan.region);
    heads = refl;
    going = λ j less. absurd (omega (arith, less));
    epoch = 0;
    kept = subst (KeptBefore p plan (rest_of_run first) 0 0) (sym is) kept_first;
    lines = passes_none old;
  }

  module _ (ahead behind : MachineState) (v : Viewed) (old now : Compared) (i : ℕ) (h : Reached p plan first ahead behind v old now i)
      (spent : ahead.steps ≡ ahead.fuel) where
    none : fuel_left ahead ≡ 0
    none = omega (arith, spent)

    count_is : begun_count (rest_of_run first) plan.region ≡ i
    count_is =
        let all = (goes_here p plan first ahead behind v old now i at h).begun_in_all in
        let zero_here = spent_begins ahead none plan.region in
        omega (arith, all, zero_here)

    off : (q : ℕ) (c : Config) → q ≢ plan.region → IsInside plan.region c → stands_at_head q c ≡ false
    off q c other (inl e) = head_is q c.to_do ∙ ap (part_is q) e ∙ ne_eqb plan.region q (λ same. other (sym same))
    off q c other (inr e) = head_is q c.to_do ∙ ap (part_is q) e

    only : OnlyBegins plan.region (rest_of_run first)
    only q other =
        let goes = subst (λ (ns : List ℕ). GoesOnAs q (length ns) (length h.events) (rest_of_run first) (rest_of_run ahead))
        (no_place (stands_at_head q) 0 h.configs (All-weaker (IsInside plan.region) (λ c. stands_at_head q c ≡ false) (λ c e. off q c other e)
        h.configs h.inside))
        (goes_so first ahead h.same h.events h.configs h.piece q) in
        goes.begun_in_all ∙ ap (λ (m : ℕ). 0 + m) (spent_begins ahead none q)

    some : part_of ahead.config.to_do ≢ part.Finished
    some e = let clash : part.Region plan.region ≡ part.Finished = sym h.at.head ∙ e in absurd (cc clash)

    trace_none : (rest_of_run ahead).trace ≡ []
    trace_none = ap (λ (n : ℕ). (run_of ahead.program ahead.input n ahead.config).trace) none
        ∙ ap (λ (u : Run). u.trace) (ends_at_fuel ahead.program ahead.input ahead.config some)

    iteration_none : iteration (rest_of_run ahead) plan.region 0 ≡ []
    iteration_none = by (start (rest_of_run ahead) plan.region 0) (start (rest_of_run ahead) plan.region 1)
      where
        over : (k n : ℕ) → slice_range (rest_of_run ahead).trace k n ≡ []
        over k n = ap (λ (es : List Event). slice_range es k n) trace_none ∙ empty_range k n

        by : (a b : Option ℕ) → events_from (rest_of_run ahead) a b ≡ []
        by None b = refl
        by (Some k) b = over k (stop_from (rest_of_run ahead) k b)

    left_none : (n : ℕ) → i ≡ n → is_closing (rest_of_run first) plan.region (n - 1) ≡ false
    left_none zero e =
        let goes = subst (λ (m : ℕ). GoesOnAs plan.region m (length h.events) (rest_of_run first) (rest_of_run ahead)) e
        (goes_here p plan first ahead behind v old now i at h) in
        goes.closing 0 ∙ ap closes iteration_none
    left_none (suc n) e = let back : suc n - 1 ≡ n = omega arith in ap (is_closing (rest_of_run first) plan.region) back ∙ h.going n (omega (arith, e))

    -- The fuel is spent before iteration i: it isn't begun.
    pub spent_here : (last : MachineState) → IterationsCompared p plan first last old now (after.Ends Fuel)
    spent_here last = (
      subst (λ (n : ℕ). PassesPiece old now (iterations_bytes p plan (rest_of_run first) 0 n)) (sym count_is) h.lines,
      ap (λ (n : ℕ). is_closing (rest_of_run first) plan.region (n - 1)) count_is ∙ left_none i refl,
      only,
      h.piece.end ∙ spent_ends ahead none some,
    )
