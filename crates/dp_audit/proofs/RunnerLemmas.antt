-- What is kept of a region between two iterations: at its start, where an epoch is to begin, and behind an iteration.
use Rattle.std.proofs.Common.{◌≡◌, refl, sym, ap, ◌∙◌, subst, ℕ, ◌≤◌, List, [], ◌++◌, ℤ, pos, length, get_or, Option, None, false}
use Rattle.std.specs.List.Sorted.{IsNonDecreasing}
use Rattle.dp_tree.specs.declared.Program.{Program}
use Rattle.dp_tree.specs.InMain.{StandsInMain}
use Rattle.dp_tree.specs.Step.{Config}
use Rattle.dp_tree.specs.Trace.{start_cells}
use Rattle.dp_plan.specs.declared.Plan.{Plan}
use Rattle.dp_plan.specs.Written.{has}
use Rattle.dp_semantics.specs.EpochCauses.{IsSound}
use Rattle.dp_semantics.specs.Seen.{is_local_at}
use Rattle.dp_theorem.proofs.Placed.{standing-length}
use Rattle.dp_meaning.specs.declared.ends.Part.TheVariants.{Region}
use Rattle.dp_meaning.specs.MachineState.{MachineState, next_part}
use Rattle.dp_commit.specs.CommittedState.{CommittedState}
use Rattle.dp_pipeline.specs.Coming.{Coming}
use Rattle.dp_epoch.specs.declared.account.Account.{Account}
use Rattle.dp_epoch.specs.Accounts.{begun_account}
use Rattle.dp_epoch.specs.declared.ledger.Ledger.{Ledger}
use Rattle.dp_epoch.specs.InEpoch.{AtEpoch, ToBegin, key_here, none_given}
use Rattle.dp_epoch.specs.Progress.{Progress}
use Rattle.dp_epoch.specs.RegionRun.{IsPlanned, RegionStart}
use Rattle.dp_epoch.proofs.EpochBegins.{epoch_here, sound_here}
use Rattle.dp_epoch.proofs.Here.{stands_there}
use Rattle.dp_epoch.proofs.RegionLemmas.{region_begins}
use Rattle.dp_audit.specs.declared.epochs.Epochs.{Epochs}
use Rattle.dp_audit.specs.declared.known.Known.{Known}
use Rattle.dp_audit.specs.declared.runner.Runner.{Runner}
use Rattle.dp_audit.specs.Copy.{IsCopy}
use Rattle.dp_audit.specs.Runs.{RunnerIsKept, RegionStands, EpochUnderWay}

-- A place in `main` has as many cells as the program.
pub stands_size : (p : Program) (c : Config) → StandsInMain p c → length c.cells ≡ length (start_cells p.vars)
stands_size p c s = ap (λ (d : Config). length d.cells) s.config_is ∙ standing-length p (s.inner ++ s.behind) s.cells ∙ s.cells_are

pub progress_size : (plan : Plan) (first : MachineState) (c : CommittedState) (account : Account) → Progress plan first c account →
    length c.machine.config.cells ≡ length (start_cells first.program.vars)
progress_size plan first c account g = stands_size first.program c.machine.config (stands_there plan first g.start c g.holds)

module _ (p : Program) (plan : Plan) (input : List ℤ) (first : MachineState) where
  module _ (r : Runner) (k : RunnerIsKept p plan input first r) where
    pub kept_next : (ledger : Ledger) (known : Known) (verdicts : Option Coming) → ledger.waiting ≡ [] → ledger.account.why ≡ r.ledger.account.why →
        known.locals ≡ r.known.locals → IsCopy known ledger.committed.machine.config.cells →
        RunnerIsKept p plan input first (record { epochs = r.epochs; ledger = ledger; known = known; verdicts = verdicts })
    kept_next ledger known verdicts none asked locals copy = record {
      own_program = k.own_program;
      own_plan = k.own_plan;
      own_input = k.own_input;
      program_is = k.program_is;
      input_is = k.input_is;
      few = k.few;
      unasked = asked ∙ k.unasked;
      none_waits = none;
      copy = copy;
      ascending = subst IsNonDecreasing (sym locals) k.ascending;
      locals = λ c. ap (has c) locals ∙ k.locals c;
    }

    to_begin : AtEpoch plan first r.ledger.committed r.ledger.account → ToBegin r.epochs.region.now.program r.epochs.region.now.plan r.epochs.input.now first
        r.ledger.committed r.ledger.account
    to_begin a = record {
      at_epoch = subst (λ (x : Plan). AtEpoch x first r.ledger.committed r.ledger.account) (sym k.own_plan) a;
      program_is = k.program_is ∙ sym k.own_program;
      input_is = k.input_is ∙ sym k.own_input;
    }

    pub sound : AtEpoch plan first r.ledger.committed r.ledger.account →
        IsSound (key_here r.epochs.region.now.program r.epochs.region.now.plan r.epochs.input.now r.ledger.committed)
    sound a = sound_here r.epochs.region.now.program r.epochs.region.now.plan r.epochs.input.now first r.ledger.committed r.ledger.account (to_begin a)

    -- the epoch that begins
    pub begun : AtEpoch plan first r.ledger.committed r.ledger.account → (v : Coming) →
        v ≡ none_given (key_here r.epochs.region.now.program r.epochs.region.now.plan r.epochs.input.now r.ledger.committed) →
        EpochUnderWay plan first r.ledger v
    begun a v is = subst (EpochUnderWay plan first r.ledger) (sym is) (record {
      plan_is = k.own_plan;
      epoch = epoch_here (key_here r.epochs.region.now.program r.epochs.region.now.plan r.epochs.input.now r.ledger.committed) 0 first
          r.ledger.committed r.ledger.account
          (record { first = refl; base = refl; steps = refl; fuel = refl; none = refl }) (to_begin a);
    })

  -- The region begins: nothing is committed, and the copy is that of the memory.
  pub stands_begun : (s : RegionStart p plan input first) (q : IsPlanned p plan) → first.fuel ≤ 1000000000 →
      (epochs : Epochs) (ledger : Ledger) (known : Known) →
      epochs.region.now.program ≡ p → epochs.region.now.plan ≡ plan → epochs.input.now ≡ input →
      ((region : ℕ) → next_part first ≡ Region region → ledger.committed ≡ record { machine = first; region = region; count = 0 }) →
      ledger.account ≡ begun_account p plan first.config.cells false → ledger.waiting ≡ [] →
      IsNonDecreasing known.locals → ((c : ℕ) → has c known.locals ≡ is_local_at p plan c) → known.cells ≡ first.config.cells →
      RegionStands p plan input first 0 (record { epochs = epochs; ledger = ledger; known = known; verdicts = None })
  stands_begun s q few epochs ledger known own_p own_plan own_input committed account waiting ascending locals cells =
      let b = region_begins p plan input first s q ledger.committed committed ledger.account false account in
      let is = committed plan.region s.next in
      let same : known.cells ≡ ledger.committed.machine.config.cells = cells ∙ ap (λ (x : CommittedState). x.machine.config.cells) (sym is) in
      record {
        kept = record {
          own_program = own_p;
          own_plan = own_plan;
          own_input = own_input;
          program_is = s.program_is;
          input_is = s.input_is;
          few = few;
          unasked = ap (λ (a : Account). a.why) account;
          none_waits = waiting;
          copy = record { size = ap (λ (xs : List ℤ). length xs) same; same = λ c apart. ap (λ (xs : List ℤ). get_or xs c (pos 0)) same };
          ascending = ascending;
          locals = locals;
        };
        progress = b.at_epoch.progress;
        count = ap (λ (x : CommittedState). x.count) is;
        epoch = b.at_epoch;
      }

  -- .. where the region's number and its locals were told of this plan and this program
  pub stands_told : (s : RegionStart p plan input first) (q : IsPlanned p plan) → first.fuel ≤ 1000000000 → (same : Plan) → same ≡ plan → (own : Program) →
      own ≡ p → (epochs : Epochs) (ledger : Ledger) (known : Known) →
      epochs.region.now.program ≡ p → epochs.region.now.plan ≡ plan → epochs.input.now ≡ input →
      ((region : ℕ) → next_part first ≡ Region region → ledger.committed ≡ record { machine = first; region = region; count = 0 }) →
      ledger.account ≡ begun_account own same first.config.cells false → ledger.waiting ≡ [] →
      IsNonDecreasing known.locals → ((c : ℕ) → has c known.locals ≡ is_local_at own same c) → known.cells ≡ first.config.cells →
      RegionStands p plan input first 0 (record { epochs = epochs; ledger = ledger; known = known; verdicts = None })
  stands_told s q few same is own own_is epochs ledger known own_p own_plan own_input committed account waiting ascending locals cells =
      stands_begun s q few epochs ledger known own_p own_plan own_input committed
      (account ∙ (λ j. begun_account (own_is j) (is j) first.config.cells false)) waiting ascending
      (λ c. locals c ∙ ap (λ (x : Plan). is_local_at own x c) is ∙ ap (λ (x : Program). is_local_at x plan c) own_is) cells
