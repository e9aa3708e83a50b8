use denote.Param.Send.{sendable}
use Rattle.dp_pipeline.proofs.Crossing.{judged_send}
use Rattle.std.proofs.Common.{ap, ◌∙◌}
use Rattle.dp_pipeline.specs.Coming.{Coming, coming_on}
use Rattle.dp_pipeline.specs.Left.{last_told}
use Rattle.dp_pipeline.proofs.VerdictsCome.{refilled, first_given, none_kept, come_behind}
use Rattle.dp_pipeline.proofs.verdicts.LaneVerdicts.take.Goals as goal

pub take-requires-send-T : goal.take-requires-send-T
take-requires-send-T g c κs within = search (judged_send, sendable) depth 60 fits 20000

pub invariant_of-self-in-Some : goal.invariant_of-self-in-Some
invariant_of-self-in-Some g c =
    let v = c.self.inside.end.view in let w = c.take.new.self.view in
    let t = c.next.new.self in let none = c.if-next.ensures in
    let at = none_kept v c.self.inside.back.end.view c.self.inside.told t c.self.invariant none.0 none.1 none.2 none.3 in
    let r = c.refill-spare.new.self in
    let came = refilled v w c.self.inside.back.end.view c.send.new.self.end.view c.in-Some.judged t r c.in-Some.ensures.1 at none.1 c.if-self.false
    c.send.ensures c.refill-spare.ensures.left c.refill-spare.ensures.over c.refill-spare.ensures.given in
    (first_given w c.send.new.self.end.view r c.next-in-Some.new.self c.next-in-Some.result came.0 c.next-in-Some.ensures).1

pub returns-in-Some : goal.returns-in-Some
returns-in-Some g c =
    let v = c.self.inside.end.view in let w = c.take.new.self.view in
    let t = c.next.new.self in let none = c.if-next.ensures in
    let at = none_kept v c.self.inside.back.end.view c.self.inside.told t c.self.invariant none.0 none.1 none.2 none.3 in
    let r = c.refill-spare.new.self in let u = c.next-in-Some.new.self in
    let came = refilled v w c.self.inside.back.end.view c.send.new.self.end.view c.in-Some.judged t r c.in-Some.ensures.1 at
    none.1 c.if-self.false
    c.send.ensures c.refill-spare.ensures.left c.refill-spare.ensures.over c.refill-spare.ensures.given in
    come_behind c.next-in-Some.result c.args.self.now (coming_on w r.given (last_told r)) (coming_on w u.given (last_told u))
    (came.1 ∙ ap (λ (k : Coming). k.key) c.self.view_is)
    (c.refill-spare.ensures.given ∙ none.2 ∙ ap (λ (k : Coming). k.given) c.self.view_is)
    (first_given w c.send.new.self.end.view r u c.next-in-Some.result came.0 c.next-in-Some.ensures).0
