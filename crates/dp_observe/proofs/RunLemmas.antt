-- What was counted while a machine ran.
use Rattle.std.proofs.Common.{◌≡◌, refl, sym, ap, subst, ◌∙◌, ℕ, suc, ◌-◌, ◌^◌, List, [], ◌∷◌, length, ℤ, None, false, arith}
use Rattle.dp_base.specs.declared.End.{End}
use Rattle.dp_base.specs.declared.SiteId.{SiteId}
use Rattle.dp_tree.specs.declared.Program.{Program}
use Rattle.dp_tree.specs.Inlined.{IsInlined}
use Rattle.dp_tree.specs.Step.{Event}
use Rattle.dp_tree.specs.Trace.{Run, run_of, begin}
use Rattle.dp_meaning.specs.declared.sight.Effect.{Effect}
use Rattle.dp_meaning.specs.MachineState.{MachineState, rest_of_run}
use Rattle.dp_meaning.specs.Watched.{effect_seen, cells_of, Watches, Ends}
use Rattle.dp_profile.specs.declared.RegionProfile.{RegionProfile}
use Rattle.dp_profile.specs.declared.Observed.{Observed}
use Rattle.dp_profile.specs.declared.sites.RegionSite.{RegionSite}
use Rattle.dp_profile.specs.Sites.{regions}
use Rattle.dp_profile.specs.Observed.{backward, regions_seen, observed}
use Rattle.dp_observe.specs.declared.board.Board.{Board}
use Rattle.dp_observe.specs.declared.counter.Counter.{Counter}
use Rattle.dp_observe.specs.steps.Counting.{BoardCounts}
use Rattle.dp_observe.specs.steps.Frames.{nobody}
use Rattle.dp_observe.specs.steps.Owners.{owner_after}
use Rattle.dp_observe.specs.steps.Running.{Ran}
use Rattle.dp_observe.specs.Sparse.{at}
use Rattle.dp_observe.specs.steps.Starting.{AllStart}
use Rattle.dp_observe.specs.steps.Taken.{regions_taken}
use Rattle.dp_observe.specs.steps.Tracking.{BoardFits}
use Rattle.dp_observe.proofs.BoardLemmas.{board_next}
use Rattle.dp_observe.proofs.FinishLemmas.{profile_is}
use Rattle.dp_observe.proofs.StartLemmas.{board_starts}

-- the steps so far were counted
abbrev pub SoFar : Program → List Event → MachineState → MachineState → Board → Type 0
SoFar p past start m b =
    (now : List Event) × (length now ≡ m.steps) × (backward now (rest_of_run m).trace ≡ backward past (rest_of_run start).trace) × BoardFits p now b

pub record Running (start m : MachineState) (old b : Board) : Type 0 where
  pub end : (rest_of_run start).end ≡ (rest_of_run m).end
  pub board : (p : Program) (past : List Event) → length past ≡ start.steps → BoardFits p past old → SoFar p past start m b

pub running_none : (m : MachineState) (b : Board) → Running m m b b
running_none m b = record { end = refl; board = λ p past long fits. (past, long, refl, fits) }

pub running_step : (start m new : MachineState) (old b c : Board) (site : SiteId) (effect : Effect) (cells : List ℕ) (after : ℕ) → Running start m old b →
    Watches site effect cells m new → after ≡ new.steps
    → BoardCounts site effect cells after b c → Running start new old c
running_step start m new old b c site effect cells after so step at counts = record {
  end = so.end ∙ step.end;
  board = λ p past long fits.
      let s = so.board p past long fits in
      let count : after ≡ suc (length s.0) = (let steps = step.steps in let so_long = s.1 in omega (arith, steps, at, so_long)) in
      let told : BoardCounts (record { 0 = step.event.site }) (effect_seen step.event.effect) (cells_of step.event.loads) (suc (length s.0)) b c =
      subst (λ n. BoardCounts (record { 0 = step.event.site }) (effect_seen step.event.effect) (cells_of step.event.loads) n b c) count
      (subst (λ (cs : List ℕ). BoardCounts (record { 0 = step.event.site }) (effect_seen step.event.effect) cs after b c) step.cells_are
      (subst (λ (e : Effect). BoardCounts (record { 0 = step.event.site }) e cells after b c) step.effect_is
      (subst (λ (x : SiteId). BoardCounts x effect cells after b c) step.site_is counts))) in
      (step.event ∷ s.0, sym count ∙ at, sym (ap (backward s.0) step.trace) ∙ s.2, board_next p step.event s.0 b c s.3 told);
}

pub running_ends : (start m new : MachineState) (old b : Board) (end : End) → Running start m old b → Ends end m new → Ran end start old b
running_ends start m new old b end so ends = record {
  end_is = so.end ∙ ends.end;
  board = λ p past long fits.
      let s = so.board p past long fits in
      subst (λ (es : List Event). BoardFits p es b) (sym (ap (backward s.0) ends.trace) ∙ s.2) s.3;
}

-- the profile of a whole run
pub observed_is : (p : Program) (input : List ℤ) (fuel : ℕ) (m : MachineState) (b0 b : Board) (end : End) (first second : List (List RegionSite))
    (counters : List Counter) (shown : List RegionProfile) → IsInlined p
    → m ≡ record { program = p; input = input; config = begin p; steps = 0; fuel = fuel; current = None; spoiled = false } → first ≡ regions p →
    second ≡ regions p → counters ≡ b.counters
    → ((n : ℕ) → at b0.owners n ≡ owner_after n 0 (2 ^ 64 - 1) first) → b0.writers ≡ record { items = []; rest = nobody } → AllStart p first b0.counters →
    Ran end m b0 b → shown ≡ regions_taken second counters
    → ◌≡◌ {A = Observed} (record { profile = record { regions = shown }; end = end }) (observed p input fuel)
observed_is p input fuel m b0 b end first second counters shown inlined is first_is second_is counters_are owners writers starts ran taken =
    let full : fuel - 0 ≡ fuel = omega arith in
    let rest : rest_of_run m ≡ run_of p input fuel (begin p) = ap rest_of_run is ∙ ap (λ n. run_of p input n (begin p)) full in
    let none : 0 ≡ m.steps = sym (ap (λ (n : MachineState). n.steps) is) in
    let begun : BoardFits p [] b0 = board_starts p b0 inlined (λ n. owners n ∙ ap (owner_after n 0 (2 ^ 64 - 1)) first_is) writers
    (subst (λ (rs : List (List RegionSite)). AllStart p rs b0.counters) first_is starts) in
    let fits : BoardFits p (backward [] (run_of p input fuel (begin p)).trace) b = subst (λ (r : Run). BoardFits p (backward [] r.trace) b) rest
    (ran.board p [] none begun) in
    let profile : shown ≡ regions_seen p 1 (regions p) (run_of p input fuel (begin p)).trace =
    taken ∙ ap (λ (rs : List (List RegionSite)). regions_taken rs counters) second_is ∙ ap (regions_taken (regions p)) counters_are
    ∙ profile_is p (run_of p input fuel (begin p)).trace b fits in
    let ends : end ≡ (run_of p input fuel (begin p)).end = sym ran.end_is ∙ ap (λ (r : Run). r.end) rest in
    ap (λ (rs : List RegionProfile). record { profile = record { regions = rs }; end = end }) profile
    ∙ ap (λ (e : End). record { profile = record { regions = regions_seen p 1 (regions p) (run_of p input fuel (begin p)).trace }; end = e }) ends
