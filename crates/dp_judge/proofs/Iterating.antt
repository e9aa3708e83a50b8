-- One iteration of a batch is decided.
use Rattle.dp_semantics.proofs.Names.{◌≡◌, refl, sym, ap, ◌∙◌, subst, inl, inr, arith, ℕ, suc, ◌+◌, ◌-◌, ◌<◌, ◌≤◌, ◌++◌, Bool, true, false, not, List, [], ◌∷◌}
use Rattle.dp_semantics.proofs.Names.{ℤ, Some, length, drop, drop-append_seam, map, flat_map, nat_le, le-leb, leb-true, cases_Bool, Load}
use Rattle.dp_base.specs.declared.CellId.{CellId}
use Rattle.dp_base.specs.declared.Cause.{Cause}
use Rattle.dp_tree.specs.Numbering.{numbers_from}
use Rattle.dp_semantics.specs.Judge.{last}
use Rattle.dp_semantics.specs.EpochVerdicts.{Carried, Verdict as Said, Commit, Again, verdict_at, state_at}
use Rattle.dp_net.specs.NetItems.{Marks}
use Rattle.dp_net.specs.NetVerdicts.{GoesOnTo, SaysTheSame}
use Rattle.dp_net.proofs.BatchVerdicts.{goes_further}
use Rattle.dp_lean_judge.specs.Locals.{clear_cells}
use Rattle.dp_judge.specs.declared.verdict.Verdict.{Verdict}
use Rattle.dp_judge.specs.declared.verdict.Verdict.TheVariants as verdict
use Rattle.dp_lean_judge.proofs.LocalLemmas.{clear_local_cells}
use Rattle.dp_lean_judge.proofs.SomeChecked.{compares_where}
use Rattle.dp_lean_judge.specs.Collecting.{Grows}
use Rattle.dp_lean.specs.Queues.{Told}
use Rattle.dp_lean.specs.LeanJudge.{LeanJudging, LeanJudgement, JudgesIn, lean_judging}
use Rattle.dp_lean.specs.LeanJudge as lean
use Rattle.dp_lean_code.specs.LeanCode.{lean_code}
use Rattle.dp_columns.specs.Left.{Left}
use Rattle.dp_lean_judge.specs.JudgeState.{JudgeEnd, judge_begin}
unfoldable use Rattle.dp_lean_judge.specs.JudgeFlat.{judge_flat}
use Rattle.dp_lean_judge.specs.Laws.{SaysSame}
use Rattle.dp_lean_judge.specs.Judged.{JudgingEnds}
use Rattle.dp_lean_judge.specs.declared.collected.Collected.{Collected}
use Rattle.dp_lean_judge.specs.declared.judge.LeanJudged.{LeanJudged}
use Rattle.dp_lean_judge.specs.declared.judge.LeanJudged.TheVariants as judged
use Rattle.dp_lean_epoch.specs.Own.{steps_at, told_upto, loads_upto}
use Rattle.dp_lean_epoch.specs.Coming.{QueuesBring, LoadsComing, LeanJudges}
use Rattle.dp_lean_epoch.specs.LeanBatch.{steps_among}
use Rattle.dp_lean_epoch.specs.JudgeSteps as judge
use Rattle.dp_lean_epoch.specs.JudgeSteps.{fuel_before, lean_carried, lean_verdict, lean_verdict_by, again_at}
use Rattle.dp_lean_region.specs.LeanEpoch.{LeanEpoch, epoch_marks, begin_in}
use Rattle.dp_lean_region.specs.declared.line.JudgeTables.{JudgeTables}
use Rattle.dp_lean_machine.specs.Held.{held_in}
use Rattle.dp_lean_machine.specs.declared.batch.StageColumns.{StageColumns}
use Rattle.dp_judge.specs.Verdicts.{JudgingStands, AreTold}
use Rattle.dp_judge.specs.steps.Within.{JudgesBy, CameIn, CleanTo, Within, Closed}
use Rattle.dp_judge.specs.steps.Deciding.{SeesAs}
use Rattle.dp_judge.proofs.Telling.{told_more, go_on_too, last_there, one_longer}
use Rattle.dp_judge.proofs.Ends.{Held, held, differs, again_said, goes_said, differs_again}

same_behind : {X : Type 0} (xs ys zs : List X) → xs ++ ys ≡ xs ++ zs → ys ≡ zs
same_behind xs ys zs is = sym (drop-append_seam xs ys) ∙ ap (drop (length xs)) is ∙ drop-append_seam xs zs

-- where nothing has changed the judging stands as it did
pub clean_still : (e : LeanEpoch) (b place left left_new : ℕ) (cells cells_new : List ℤ) (told told_new : List Verdict) →
    left_new ≡ left → cells_new ≡ cells → told_new ≡ told → CleanTo e b place left cells told → CleanTo e b place left_new cells_new told_new
clean_still e b place left left_new cells cells_new told told_new left_is cells_are told_is clean =
    subst (λ (n : ℕ). CleanTo e b place n cells_new told_new) (sym left_is)
    (subst (λ (xs : List ℤ). CleanTo e b place left xs told_new) (sym cells_are)
    (subst (λ (vs : List Verdict). CleanTo e b place left cells vs) (sym told_is) clean))

module _ (e : LeanEpoch) (b n place : ℕ) (stages : List StageColumns) (came : CameIn e b n stages) (low : place < n)
    (left : ℕ) (cells : List ℤ) (readers : List Left) (told : List Verdict) (at : Within e b n place left cells readers told) where
  open e use {key}

  abbrev m : Marks
  m = epoch_marks e

  abbrev all : ℕ
  all = length key.plan.stages

  -- the iteration, and how many follow it
  abbrev here : ℕ
  here = begin_in e b + place

  abbrev others : ℕ
  others = n - suc place

  abbrev behind : ℕ → List Told
  behind y = flat_map (told_upto m key all y) (numbers_from (here + 1) others) ++ at.coming.more y

  abbrev loads_behind : ℕ → List (List Load)
  loads_behind y = flat_map (loads_upto m key all y) (numbers_from (here + 1) others) ++ at.coming.more_loads y

  -- the memory with which the lean judging begins
  abbrev kept : List ℤ
  kept = at.clean.stands.kept

  abbrev Decided : Type 0
  Decided = (end : LeanJudgement) × JudgesIn key.program key.plan m (lean_judging key.program key.plan m kept at.coming.queues at.coming.loads) end
      × judge.JudgedAsDefined m key here behind loads_behind end

  decided : Decided
  decided =
      let rest : n - place ≡ suc others = omega (arith, low) in
      let come = came.epoch.laws.one_by_one all here others in
      came.laws.steps here at.clean.goes (came.arrive place low) kept at.clean.stands.cells at.coming.queues behind
      (come.told at.coming.queues at.coming.more (subst (λ (j : ℕ). QueuesBring m key all here j at.coming.queues at.coming.more) rest at.coming.told))
      at.coming.loads loads_behind
      (come.loads at.coming.loads at.coming.more_loads (subst (λ (j : ℕ). LoadsComing m key here j at.coming.loads at.coming.more_loads) rest at.coming.loaded))

  -- its steps are those that were counted
  steps_are : steps_among (map held_in stages) place ≡ steps_at m key here
  steps_are = came.steps place low

  again_is : (w : Said) → lean_verdict m key here decided.0 ≡ w → w ≡ again_at m key here → (cause : Cause) × (Again cause ≡ verdict_at key here)
  again_is w is again = again_said key (verdict_at key here) _ (subst (λ (v : Said). SaysTheSame key (verdict_at key here) v) (is ∙ again) decided.2.verdict)

  -- it is executed again where its steps aren't left
  pub spent : left < steps_among (map held_in stages) place → (cause : Cause) × (Again cause ≡ verdict_at key here)
  spent less = again_is (lean_verdict_by m key here false decided.0) (ap (λ (t : Bool). lean_verdict_by m key here t decided.0) few) refl
    where
      few : nat_le (steps_at m key here) (fuel_before m key here) ≡ false
      few = elim (cases_Bool (nat_le (steps_at m key here) (fuel_before m key here))) [
        | inl enough ↦ (
            let low_steps : steps_at m key here ≤ fuel_before m key here = leb-true (steps_at m key here) (fuel_before m key here) enough in
            let is = at.clean.stands.left in let steps = steps_are in absurd (omega (arith, low_steps, is, steps, less)))
        | inr less_steps ↦ less_steps
      ]

  module _ (tables : JudgeTables) (by : JudgesBy e tables) (start : Collected) (answer : LeanJudged) (cells_new : List ℤ) (readers_new : List Left)
      (collected : Collected) (grows : Grows start collected)
      (looks : SeesAs tables.ready.now cells readers start answer cells_new readers_new collected) where
    abbrev Ended : Type 0
    Ended = (ops : ℕ) × (end : JudgeEnd)
        × (judge_flat key.program key.plan (lean_code key.program key.plan (last key.plan) m) ops
        (judge_begin kept at.coming.queues at.coming.loads) ≡ Some end)
        × SaysSame end decided.0

    ended : Ended
    ended = came.laws.code kept at.coming.queues at.coming.loads decided.0 decided.1

    abbrev Seen : Type 0
    Seen = JudgingEnds key.program key.plan start ended.1 answer cells_new readers_new collected

    seen : Seen
    seen = looks key.program key.plan (lean_code key.program key.plan (last key.plan) m) at.coming.queues at.coming.loads kept by.ready at.clean.stands.same
        at.coming.shows ended.0 ended.1 ended.2

    -- it is executed again where what was compared differs
    pub differs_then : answer ≡ judged.Differs → (cause : Cause) × (Again cause ≡ verdict_at key here)
    differs_then is =
        let same = differs key.program key.plan cells_new readers_new start collected ended.1 decided.0 ended.3
        (subst (λ (a : LeanJudged). JudgingEnds key.program key.plan start ended.1 a cells_new readers_new collected) is seen) in
        let enough = nat_le (steps_at m key here) (fuel_before m key here) in
        again_is (lean_verdict_by m key here enough lean.Differs) (ap (lean_verdict_by m key here enough) same) (differs_again m key here enough)

    module _ (closing : Bool) (holds : answer ≡ judged.Holds closing) (after : ℕ) (leaves : left ≡ after + steps_among (map held_in stages) place) where
      h : Held key.program key.plan cells_new readers_new start collected closing decided.0
      h = held key.program key.plan cells_new readers_new start collected closing ended.1 decided.0 ended.3
          (subst (λ (a : LeanJudged). JudgingEnds key.program key.plan start ended.1 a cells_new readers_new collected) holds seen)

      enough : steps_at m key here ≤ fuel_before m key here
      enough = let is = at.clean.stands.left in let steps = steps_are in omega (arith, is, steps, leaves)

      next : judge.CommitsAs m key here behind loads_behind h.judging
      next = decided.2.next h.judging h.is enough

      -- what is carried of it
      abbrev carried : Carried
      carried = record { stores = grows.more; prints = grows.others; steps = left - after; closing = closing }

      carried_is : carried ≡ lean_carried m key here h.judging
      carried_is =
          let counted : left - after ≡ steps_at m key here = (let steps = steps_are in omega (arith, steps, leaves)) in
          let stores = same_behind start.stores grows.more _ (sym grows.stores ∙ h.stores) in
          let prints = same_behind start.prints grows.others _ (sym grows.prints ∙ h.prints) in
          λ i. record { stores = stores i; prints = prints i; steps = counted i; closing = sym h.closes i }

      says : SaysTheSame key (verdict_at key here) (Commit carried)
      says = subst (λ (v : Said). SaysTheSame key (verdict_at key here) v)
          (ap (lean_verdict m key here) h.is
          ∙ ap (λ (t : Bool). lean_verdict_by m key here t (lean.Holds h.judging)) (le-leb (steps_at m key here) (fuel_before m key here) enough)
          ∙ ap Commit (sym carried_is)) decided.2.verdict

      abbrev told_then : List Verdict
      told_then = told ++ verdict.Clean carried ∷ []

      counted : length told ≡ place
      counted = at.clean.count

      told_is : AreTold e b told_then
      told_is = told_more e b told at.clean.told at.clean.onward
          (let few = at.clean.few in let count = counted in omega (arith, few, count))
          (subst (λ (i : ℕ). GoesOnTo key (begin_in e b + i)) (sym counted) at.clean.goes) (verdict.Clean carried)
          (subst (λ (i : ℕ). SaysTheSame key (verdict_at key (begin_in e b + i)) (Commit carried)) (sym counted) says)

      module _ (locals : List CellId) (locals_are : locals ≡ tables.locals.now) (left_new : ℕ) (left_is : left_new ≡ after) (cells_then : List ℤ)
          (cells_are : tables.ready.now.compares ≡ true → cells_then ≡ clear_cells locals cells_new) where
        abbrev kept_then : List ℤ
        kept_then = clear_cells locals h.judging.turn.turn.cells

        stands : (k : ℕ) → k ≡ suc here → JudgingStands e k left_new cells_then
        stands k is = record {
          left =
              (let spent : left_new ≡ key.fuel - (state_at key (suc here)).steps =
              (let was = at.clean.stands.left in let steps = steps_are in let more = next.steps in omega (arith, was, steps, more, leaves, left_is)) in
              spent ∙ ap (λ (i : ℕ). key.fuel - (state_at key i).steps) (sym is));
          kept = kept_then;
          cells =
              subst (λ (i : ℕ). LeanJudges key i kept_then) (sym is)
              (subst (LeanJudges key (suc here)) (sym (ap (λ (ls : List CellId). clear_cells ls h.judging.turn.turn.cells) (locals_are ∙ by.locals)
              ∙ clear_local_cells key.plan.region key.program.vars h.judging.turn.turn.cells)) next.cells);
          same = λ y checked. ap (clear_cells locals) (h.memory y checked)
              ∙ sym (cells_are (by.ready.compares ∙ compares_where key.program key.plan by.ready.tabled y checked));
        }

        -- behind a clean iteration that doesn't leave the region the next one is decided
        pub goes_then : closing ≡ false → Within e b n (suc place) left_new cells_then readers_new told_then
        goes_then still = record {
          clean = record {
            few = (let few = came.few in omega (arith, few, low));
            goes = (let same : here + 1 ≡ begin_in e b + suc place = omega arith in
                subst (GoesOnTo key) same (goes_further key here at.clean.goes (goes_said key (verdict_at key here) carried says still)));
            stands = (let same : begin_in e b + suc place ≡ suc here = omega arith in stands (begin_in e b + suc place) same);
            told = told_is;
            onward = go_on_too told (verdict.Clean carried) at.clean.onward (ap not still);
            count = one_longer told (verdict.Clean carried) ∙ ap suc counted;
          };
          coming = record {
            queues = h.judging.turn.queues;
            more = at.coming.more;
            loads = h.judging.loads;
            more_loads = at.coming.more_loads;
            shows = h.shows;
            told = λ y read. next.left y read ∙ (let same : here + 1 ≡ begin_in e b + suc place = omega arith in
                ap (λ (i : ℕ). flat_map (told_upto m key all y) (numbers_from i others) ++ at.coming.more y) same);
            loaded = λ y read checked. next.loads_left y read checked ∙ (let same : here + 1 ≡ begin_in e b + suc place = omega arith in
                ap (λ (i : ℕ). flat_map (loads_upto m key all y) (numbers_from i others) ++ at.coming.more_loads y) same);
          };
        }

        -- behind one that does none is
        pub closes_then : closing ≡ true → Closed e b left_new cells_then told_then
        closes_then leaving = record {
          told = told_is;
          stands = (let longer = one_longer told (verdict.Clean carried) in let count = counted in
              let same : begin_in e b + length told_then ≡ suc here = omega (arith, longer, count) in stands (begin_in e b + length told_then) same);
          closes = λ onward. (let goes = onward (length told) (verdict.Clean carried) (last_there told (verdict.Clean carried)) in
              absurd (cc (sym goes ∙ ap not leaving)));
        }
