use Rattle.std.proofs.Common.{◌≡◌, ◌++◌, [], drop, sym, ap, ◌∙◌, append-nil, arith}
use Rattle.std.proofs.lemmas.List.{drop_all}
use Rattle.dp_report.specs.CauseText.{causes_bytes}
use Rattle.dp_report.proofs.Parts.{no_iterations}
use Rattle.dp_report.proofs.causes.put_causes.Goals as goal

pub returns : goal.returns
returns c =
    let place = c.loop-place.place in let out = c.loop-place.out in let left = drop place c.args.causes.now in
    let over : drop place c.args.iterations.now ≡ [] = drop_all place c.args.iterations.now (omega arith) in
    sym (append-nil out) ∙ ap (λ text. out ++ text) (sym (ap (λ some. causes_bytes some left) over ∙ no_iterations left)) ∙ c.loop-place.invariant
