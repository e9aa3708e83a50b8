use Rattle.std.proofs.Common.{◌≡◌, ◌∙◌, sym, ap, subst, List, [], ℤ, length, true}
use Rattle.dp_meaning.specs.declared.ends.IterEnd.{IterEnd}
use Rattle.dp_epoch.specs.Remade.{iteration_end}
use Rattle.dp_audit.specs.declared.group.Group.{Group}
use Rattle.dp_audit.specs.declared.runner.Runner.{Runner}
use Rattle.dp_audit.specs.Copy.{IsCopy, changes_but}
use Rattle.dp_audit.specs.Groups.{Makes}
use Rattle.dp_audit.proofs.GroupLemmas.{again_makes, again_size}
use Rattle.dp_audit.proofs.runner.Runner.again.Goals as goal

pub changes-requires-clause-size : goal.changes-requires-clause-size
changes-requires-clause-size c =
    let u = c.requires.unclean in
    let s = c.in_ok-end.ensures.prints in
    again_size u.0 u.1 u.2 u.3 c.args.self.now u.4 s.0 c.execute_again.new.ledger.committed c.execute_again.new.ledger.account c.in_ok-end.end s.1
    (c.in_ok-end.ensures.ok u.1 u.3 u.4.unclean)
    ∙ ap (λ (xs : List ℤ). length xs) (sym c.cells-cells.ensures)

pub returns : goal.returns
returns c = record {
  made = λ p plan input first u.
      let s = c.in_ok-end.ensures.prints in
      let old = c.args.self.now in
      let next : Runner = record {
        epochs = old.epochs;
        ledger = record { committed = c.execute_again.new.ledger.committed; account = c.execute_again.new.ledger.account; waiting = [] };
        known = c.changes.new.self;
        verdicts = old.verdicts;
      } in
      let told : c.group.result
      ≡ record {
        iteration = c.count-number.result;
        again = true;
        sets = c.in_ok-sets.sets;
        prints = c.execute_again.new.ledger.waiting;
        end = iteration_end c.in_ok-end.end;
      } =
      c.group.ensures.group
      ∙ ap (λ (x : IterEnd).
      record { iteration = c.count-number.result; again = true; sets = c.in_ok-sets.sets; prints = c.execute_again.new.ledger.waiting; end = x })
      c.ended_so.ensures in
      subst (λ (x : Runner). Makes p plan input first old.ledger.committed x c.group.result) (sym c.group.ensures.kept)
      (subst (λ (x : Group). Makes p plan input first old.ledger.committed next x) (sym told)
      (again_makes p plan input first old u s.0 c.execute_again.new.ledger.committed c.execute_again.new.ledger.account c.in_ok-end.end s.1
      (c.in_ok-end.ensures.ok plan first u.unclean) c.in_ok-end.ensures.why
      c.execute_again.new.ledger.waiting s.2 c.changes.new.self c.in_ok-sets.ensures.locals (subst (IsCopy c.changes.new.self) c.cells-cells.ensures
      c.in_ok-sets.ensures.copy)
      c.count-number.result c.count-number.ensures.value c.in_ok-sets.sets (c.in_ok-sets.ensures.sets
      ∙ ap (changes_but old.known.locals old.known.cells) c.cells-cells.ensures)));
}
