use Rattle.std.proofs.Common.{◌≡◌, ◌∙◌, sym, ap, subst, List, [], ℤ, length, map, true, false, Some}
use Rattle.dp_audit.specs.declared.group.Group.{Group}
use Rattle.dp_audit.specs.declared.runner.Runner.{Runner}
use Rattle.dp_audit.specs.Stored.{stored_cell}
use Rattle.dp_audit.specs.Copy.{IsCopy, changed_but, changes_but}
use Rattle.dp_audit.specs.Groups.{Makes}
use Rattle.dp_audit.proofs.CleanLemmas.{judged_among, judged_next, judged_size, may_be}
use Rattle.dp_audit.proofs.runner.Runner.go_on.Goals as goal

pub commit-requires-clause-stands : goal.commit-requires-clause-stands
commit-requires-clause-stands c = let j = c.requires.judged in (_, j.3, j.5.under_way.epoch.progress)

pub commit-requires-clause-next : goal.commit-requires-clause-next
commit-requires-clause-next c = let j = c.requires.judged in may_be j.0 j.1 j.2 j.3 c.args.self.now j.4 c.args.clean j.5

pub changes_among-requires-clause-size : goal.changes_among-requires-clause-size
changes_among-requires-clause-size c =
    let j = c.requires.judged in
    let done = c.in_ok-commit.ensures in
    judged_size j.0 j.1 j.2 j.3 c.args.self.now j.4 c.args.clean j.5 c.commit.new.self.committed done.ok c.commit.new.self.account done.account
    false c.requires.going
    ∙ ap (λ (xs : List ℤ). length xs) (sym c.cells-cells.ensures)

pub changes_among-requires-clause-among : goal.changes_among-requires-clause-among
changes_among-requires-clause-among c cell t =
    let j = c.requires.judged in
    let done = c.in_ok-commit.ensures in
    judged_among j.0 j.1 j.2 j.3 c.args.self.now j.4 c.args.clean j.5 c.commit.new.self.committed done.ok c.commit.new.self.account done.account
    c.requires.going c.in_ok-stored.stored
    (c.in_ok-stored.ensures ∙ ap (map stored_cell) c.stores.ensures) cell
    (subst (λ (cells : List ℤ). changed_but c.args.self.now.known.locals c.args.self.now.known.cells cells cell ≡ true) c.cells-cells.ensures t)

pub returns : goal.returns
returns c = record {
  made = λ p plan input first v j.
      let old = c.args.self.now in
      let done = c.in_ok-commit.ensures in
      let next : Runner = record {
        epochs = old.epochs;
        ledger = record { committed = c.commit.new.self.committed; account = c.commit.new.self.account; waiting = [] };
        known = c.changes_among.new.self;
        verdicts = old.verdicts;
      } in
      subst (λ (x : Runner). Makes p plan input first old.ledger.committed (record x { verdicts = Some v }) c.group.result) (sym c.group.ensures.kept)
      (subst (λ (x : Group). Makes p plan input first old.ledger.committed (record next { verdicts = Some v }) x) (sym c.group.ensures.group)
      (judged_next p plan input first old v c.args.clean j c.commit.new.self.committed done.ok c.commit.new.self.account done.account
      c.commit.new.self.waiting done.waiting c.changes_among.new.self
      c.count-number.result c.count-number.ensures.value c.in_ok-sets.sets (c.in_ok-sets.ensures.sets
      ∙ ap (changes_but old.known.locals old.known.cells) c.cells-cells.ensures) c.requires.going
      c.in_ok-sets.ensures.locals (subst (IsCopy c.changes_among.new.self) c.cells-cells.ensures c.in_ok-sets.ensures.copy)));
}
