use Rattle.std.proofs.Common.{refl, ap, ◌∙◌, ◌-◌, ℕ}
use Rattle.dp_judge.specs.declared.told.Begun.{Begun}
use Rattle.dp_judge.proofs.Giving.{cleans_grow, many_more, ok_then}
use Rattle.dp_judge.proofs.told.ToldBatch.add.Goals as goal

pub returns-clause-more : goal.returns-clause-more
returns-clause-more c t whole grown begins =
    let now = c.args.self.now in
    let stores = c.saturating_sub.ensures ∙ ap (λ (n : ℕ). n - c.args.begun.stores) c.len.ensures
    ∙ many_more t.collected.stores grown.grows.more now.collected.stores c.args.begun.stores grown.grows.stores (ap (λ (b : Begun). b.stores) begins) in
    let prints = c.saturating_sub-2.ensures ∙ ap (λ (n : ℕ). n - c.args.begun.prints) c.len-2.ensures
    ∙ many_more t.collected.prints grown.grows.others now.collected.prints c.args.begun.prints grown.grows.prints (ap (λ (b : Begun). b.prints) begins) in
    ok_then c.push.result (λ parts. cleans_grow t now whole grown (record now { parts = c.push.new.self }) refl refl refl refl
    (record { stores = c.saturating_sub.result; prints = c.saturating_sub-2.result; steps = c.args.steps; closing = c.args.closing }) stores prints parts
    c.args.steps c.args.closing refl refl) c.push.ensures.ok
