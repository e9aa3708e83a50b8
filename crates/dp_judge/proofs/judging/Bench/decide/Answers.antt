use Rattle.std.proofs.Common.{refl, ◌∙◌}
use Rattle.dp_judge.proofs.Committing.{commits_come, spent_comes, differs_comes, undone_stays, ungiven_then}
use Rattle.dp_judge.proofs.Giving.{cleans_stay}
use Rattle.dp_judge.proofs.judging.Bench.decide.Goals as goal

pub returns-in-Some-clause-comes : goal.returns-in-Some-clause-comes
returns-in-Some-clause-comes c e b n came by low at =
    commits_come e b n c.args.place c.args.stages.now came low c.args.self.now.left c.args.self.now.cells c.args.readers.now c.args.told.now
    c.look.new.told c.commit.new.told c.look.ensures.grown at c.args.tables by
    c.look.new.self c.commit.new.self c.look.ensures.left c.look.ensures.before c.look.new.readers c.look.result c.look.ensures.judged
    c.in-Holds.closing c.in-Holds.is
    c.in-Some.after c.in-Some.ensures c.commit.result
    (c.commit.ensures c.args.told.now c.requires.ungiven c.look.ensures.grown c.begun-begun.ensures)

pub returns-in-None-clause-comes : goal.returns-in-None-clause-comes
returns-in-None-clause-comes c e b n came by low at =
    spent_comes e b n c.args.place c.args.stages.now came low c.args.self.now.left c.args.self.now.cells c.args.readers.now c.args.told.now
    c.look.new.told c.undo.new.self c.look.ensures.grown at c.args.tables by
    c.look.new.self _ c.look.ensures.left c.look.ensures.before c.look.new.readers c.look.result c.look.ensures.judged
    c.in-None.ensures (record {
      left = refl;
      cells = c.undo.ensures.cells;
      told = c.undo.ensures.cleans ∙ cleans_stay c.args.told.now c.look.new.told c.requires.ungiven c.look.ensures.grown;
    })

pub returns-in-Differs-clause-comes : goal.returns-in-Differs-clause-comes
returns-in-Differs-clause-comes c e b n came by low at =
    differs_comes e b n c.args.place c.args.stages.now came low c.args.self.now.left c.args.self.now.cells c.args.readers.now c.args.told.now
    c.look.new.told c.undo-in-Differs.new.self c.look.ensures.grown at c.args.tables by
    c.look.new.self _ c.look.ensures.left c.look.ensures.before c.look.new.readers c.look.result c.look.ensures.judged
    c.in-Differs.is (record {
      left = refl;
      cells = c.undo-in-Differs.ensures.cells;
      told = c.undo-in-Differs.ensures.cleans ∙ cleans_stay c.args.told.now c.look.new.told c.requires.ungiven c.look.ensures.grown;
    })

pub returns-in-NoMemory-clause-comes : goal.returns-in-NoMemory-clause-comes
returns-in-NoMemory-clause-comes c e b n came by low at = (
  c.args.place,
  undone_stays e b n c.args.place c.args.stages.now came low c.args.self.now.left c.args.self.now.cells c.args.readers.now c.args.told.now
      c.look.new.told c.undo-in-NoMemory.new.self c.look.ensures.grown at c.args.tables by
      c.look.new.self _ c.look.ensures.left c.look.ensures.before c.look.new.readers c.look.result c.look.ensures.judged
      (record {
        left = refl;
        cells = c.undo-in-NoMemory.ensures.cells;
        told = c.undo-in-NoMemory.ensures.cleans ∙ cleans_stay c.args.told.now c.look.new.told c.requires.ungiven c.look.ensures.grown;
      }),
)

pub returns-in-Some-clause-ungiven : goal.returns-in-Some-clause-ungiven
returns-in-Some-clause-ungiven c goes =
    ungiven_then c.args.tables c.in-Some.after c.in-Holds.closing c.look.new.self c.commit.new.self c.args.told.now c.look.new.told c.look.ensures.grown
    c.commit.new.told c.commit.result goes (c.commit.ensures c.args.told.now c.requires.ungiven c.look.ensures.grown c.begun-begun.ensures)
