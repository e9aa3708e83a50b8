use Rattle.std.proofs.Common.{ap, ◌∙◌, ◌+◌, ◌++◌, ℕ, List, min}
use Rattle.dp_judge.specs.declared.verdict.Verdict.{Verdict}
use Rattle.dp_judge.specs.Decided.{end_verdicts}
use Rattle.dp_judge.proofs.Giving.{pass_cleans, one_on}
use Rattle.dp_judge.proofs.told.ToldBatch.pass.Goals as goal

pub returns : goal.returns
returns c =
    let t = c.args.self.now in
    ap (λ (vs : List Verdict). vs ++ end_verdicts t.end)
    (pass_cleans t.parts t.collected.stores t.collected.prints t.given t.stores_given t.prints_given c.place_behind-given.result
    c.place_behind-stores_given.result
    c.place_behind-prints_given.result c.args.part
    c.requires
    (c.place_behind-given.ensures ∙ ap (λ (n : ℕ). min (t.given + 1) n) c.len-parts.ensures ∙ one_on t.parts t.given c.args.part c.requires)
    (c.place_behind-stores_given.ensures ∙ ap (λ (n : ℕ). min (t.stores_given + c.args.part.stores) n) c.len-stores.ensures)
    (c.place_behind-prints_given.ensures ∙ ap (λ (n : ℕ). min (t.prints_given + c.args.part.prints) n) c.len-prints.ensures))
