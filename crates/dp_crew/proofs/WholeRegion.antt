-- Where a region begins, and what was written of its prints.
use Rattle.std.proofs.Common.{◌≡◌, sym, ap, ◌∙◌, subst, ℕ, Bool, List, [], ◌++◌, ℤ, Option}
use Rattle.std.proofs.lemmas.List.{append-nil}
use Rattle.dp_edge.specs.Sink.{appended}
use Rattle.dp_tree.specs.declared.Program.{Program}
use Rattle.dp_plan.specs.declared.Plan.{Plan}
use Rattle.dp_report.specs.PrintsText.{prints_bytes}
use Rattle.dp_meaning.specs.declared.ends.Part.TheVariants.{Region}
use Rattle.dp_meaning.specs.MachineState.{MachineState, next_part}
use Rattle.dp_commit.specs.CommittedState.{CommittedState, region_run}
use Rattle.dp_edge.specs.Writing.{WritesFront}
use Rattle.dp_epoch.specs.Prints.{prints_to_come}
use Rattle.dp_crew.specs.Output.{Emits}
use Rattle.dp_epoch.specs.InEpoch.{ToBegin}
use Rattle.dp_prepared.specs.Planned.{Prepared}
use Rattle.dp_epoch.specs.declared.account.Account.{Account}
use Rattle.dp_epoch.specs.Accounts.{begun_account}
use Rattle.dp_epoch.specs.declared.ends.RegionEnd.{RegionEnd}
use Rattle.dp_epoch.specs.Progress.{RegionDone}
use Rattle.dp_epoch.specs.RegionRun.{IsPlanned, RegionStart, region_prints}
use Rattle.dp_epoch.proofs.RegionLemmas.{region_begins}
use Rattle.dp_crew.proofs.StreamLemmas.{emits_front, emits_on}

-- The region is lent on, and so is the input: what is said of these is said of those.
module _ (w r : Prepared) (e : w ≡ r) where
  -- nothing is committed and told of the region, whose program and plan these are
  pub begins_so : (i input : List ℤ) → i ≡ input → (first : MachineState) → RegionStart r.program r.plan input first → IsPlanned r.program r.plan →
      (p : Program) → p ≡ r.program → (same : Plan) → same ≡ r.plan →
      (c : CommittedState) → ((region : ℕ) → next_part first ≡ Region region → c ≡ record { machine = first; region = region; count = 0 }) →
      (account : Account) (why : Bool) → account ≡ begun_account p same first.config.cells why → ToBegin w.program w.plan i first c account
  begins_so i input is first s q p program_is same plan_is c made account why told =
      let here = region_begins r.program r.plan input first s q c made account why (told
      ∙ (λ j. begun_account (program_is j) (plan_is j) first.config.cells why)) in
      subst (λ (x : Prepared). ToBegin x.program x.plan i first c account) (sym e)
      (subst (λ (xs : List ℤ). ToBegin r.program r.plan xs first c account) (sym is) here)

  pub done_so : (first : MachineState) (c : CommittedState) (account : Account) (end : RegionEnd) → RegionDone w.plan first c account end →
      RegionDone r.plan first c account end
  done_so first c account end d = subst (λ (x : Prepared). RegionDone x.plan first c account end) e d

  pub front_so : (first : MachineState) (waiting : List ℤ) (n : ℕ) (told tells : Option (List ℕ)) →
      WritesFront (prints_bytes (prints_to_come w.plan first waiting n)) told tells →
      WritesFront (prints_bytes (prints_to_come r.plan first waiting n)) told tells
  front_so first waiting n told tells f = subst (λ (x : Prepared). WritesFront (prints_bytes (prints_to_come x.plan first waiting n)) told tells) e f

  pub emits_so : (first : MachineState) (waiting : List ℤ) (n : ℕ) (left : List ℤ) (told tells : Option (List ℕ)) →
      Emits (prints_to_come w.plan first waiting n) left told tells → Emits (prints_to_come r.plan first waiting n) left told tells
  emits_so first waiting n left told tells f = subst (λ (x : Prepared). Emits (prints_to_come x.plan first waiting n) left told tells) e f

module _ (plan : Plan) (first : MachineState) (before : List ℤ) (empty : before ≡ []) (n : ℕ) (none : n ≡ 0) where
  -- at the start all prints of the region are to come
  all_to_come : prints_to_come plan first before n ≡ region_prints (region_run first) plan.region
  all_to_come = ap (λ (xs : List ℤ). prints_to_come plan first xs n) empty ∙ ap (prints_to_come plan first []) none

  pub region_front : (told tells : Option (List ℕ)) → WritesFront (prints_bytes (prints_to_come plan first before n)) told tells →
      WritesFront (prints_bytes (region_prints (region_run first) plan.region)) told tells
  region_front told tells w = subst (λ (xs : List ℤ). WritesFront (prints_bytes xs) told tells) all_to_come w

  module _ (waiting : List ℤ) (told mid : Option (List ℕ)) (e : Emits (prints_to_come plan first before n) waiting told mid) (tells : Option (List ℕ)) where
    pub region_flush_front : WritesFront (prints_bytes waiting) mid tells → WritesFront (prints_bytes (region_prints (region_run first) plan.region)) told tells
    region_flush_front w = region_front told tells (emits_front (prints_to_come plan first before n) waiting told mid tells e w)

    pub region_written : (left : List ℤ) → left ≡ [] → Emits waiting left mid tells →
        tells ≡ appended (prints_bytes (region_prints (region_run first) plan.region)) told
    region_written left nothing w =
        let all = emits_on (prints_to_come plan first before n) waiting left told mid tells e w in
        let same : prints_to_come plan first before n ≡ all.written = all.splits ∙ ap (λ (xs : List ℤ). all.written ++ xs) nothing ∙ append-nil all.written in
        all.sink ∙ ap (λ (xs : List ℤ). appended (prints_bytes xs) told) (sym same ∙ all_to_come)
