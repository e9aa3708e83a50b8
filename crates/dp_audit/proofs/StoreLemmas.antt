-- A clean iteration changes no other cells than those of its stores, besides body locals.
use Rattle.std.proofs.Common.{◌≡◌, refl, sym, ap, ◌∙◌, ℕ, suc, ◌+◌, ◌==◌, eq-eqb, false, List, [], ◌∷◌, map, get_or, slice_set, ℤ, pos, arith}
use Rattle.std.proofs.lemmas.Bool.{both_ways, or_parts}
use Rattle.std.proofs.lemmas.List.{get_or-set_other}
use Rattle.dp_base.specs.declared.StoreOf.{StoreOf}
use Rattle.dp_tree.specs.Step.{clear_locals}
use Rattle.dp_plan.specs.Written.{has}
use Rattle.dp_semantics.specs.Seen.{is_local_at}
use Rattle.dp_semantics.specs.Judge.{Judgement, Clean, Unclean}
use Rattle.dp_semantics.specs.Verdict.{applied}
use Rattle.dp_semantics.specs.Told.{with_stores}
use Rattle.dp_semantics.specs.EpochKey.{EpochKey}
use Rattle.dp_semantics.specs.EpochVerdicts.{Carried, Commit, JudgeState, after_judgement, judgement_of, state_at, verdict_at, verdict_by}
use Rattle.dp_net.specs.NetVerdicts.{SaysTheSame}
use Rattle.dp_theorem.proofs.Memory.{clear-other}
use Rattle.dp_theorem.proofs.Told.{stores_are_all}
use Rattle.dp_meaning.specs.MachineState.{MachineState}
use Rattle.dp_commit.specs.CommittedState.{CommittedState}
use Rattle.dp_epoch.specs.declared.account.Account.{Account}
use Rattle.dp_epoch.specs.InEpoch.{InEpoch}
use Rattle.dp_audit.specs.Stored.{stored_cell}

stores_elsewhere : (stores : List StoreOf) (cells : List ℤ) (c : ℕ) → has c (map stored_cell stores) ≡ false →
    get_or (with_stores stores cells) c (pos 0) ≡ get_or cells c (pos 0)
stores_elsewhere [] cells c apart = refl
stores_elsewhere (s ∷ rest) cells c apart =
    let parts = or_parts (s.cell.0 == c) (has c (map stored_cell rest)) apart in
    stores_elsewhere rest (slice_set cells s.cell.0 s.value) c parts.1
    ∙ get_or-set_other cells s.cell.0 c s.value (pos 0) (λ (e : c ≡ s.cell.0). both_ways (s.cell.0 == c) parts.0 (eq-eqb s.cell.0 c (sym e)))

module _ (key : EpochKey) (n : ℕ) (first : MachineState) (c : CommittedState) (account : Account) (e : InEpoch key n first c account) (v : Carried)
    (gives : SaysTheSame key (verdict_at key n) (Commit v))
    (new : CommittedState) (more : Account) (f : InEpoch key (n + 1) first new more) where
  cells_by : (j : Judgement) → judgement_of key n ≡ j → SaysTheSame key (verdict_by key n j) (Commit v) →
      new.machine.config.cells ≡ clear_locals key.plan.region key.program.vars (with_stores v.stores c.machine.config.cells)
  cells_by (Clean agreed) is told =
      let next : n + 1 ≡ suc n = omega arith in
      ap (λ (s : JudgeState). s.cells) (sym f.state ∙ ap (state_at key) next ∙ ap (after_judgement key (state_at key n)) is)
      ∙ ap (λ (s : JudgeState). clear_locals key.plan.region key.program.vars (applied agreed.effects s.cells)) e.state
      ∙ ap (clear_locals key.plan.region key.program.vars) (stores_are_all agreed.effects c.machine.config.cells)
      ∙ sym (told.3 c.machine.config.cells)
  cells_by Unclean is told = absurd told

  pub same_elsewhere : (k : ℕ) → is_local_at key.program key.plan k ≡ false → has k (map stored_cell v.stores) ≡ false →
      get_or new.machine.config.cells k (pos 0) ≡ get_or c.machine.config.cells k (pos 0)
  same_elsewhere k local apart =
      ap (λ (cells : List ℤ). get_or cells k (pos 0)) (cells_by (judgement_of key n) refl gives)
      ∙ clear-other key.plan.region k key.program.vars (with_stores v.stores c.machine.config.cells) local
      ∙ stores_elsewhere v.stores c.machine.config.cells k apart
