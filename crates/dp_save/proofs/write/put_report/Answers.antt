use Rattle.std.proofs.Common.{◌≡◌, ◌++◌, codes}
use Rattle.std.proofs.lemmas.Result.{on_ok_weaker}
use Rattle.dp_text.specs.Labels.{labelled}
use Rattle.dp_save.proofs.WriteLemmas.{report_grew}
use Rattle.dp_save.proofs.write.put_report.Goals as goal

pub returns : goal.returns
returns c =
    let first : c.put_labelled.new.out ≡ c.args.out.now ++ labelled (codes "report ") c.args.report.now.region = rw c.from.ensures at
    c.in_ok-put_labelled.ensures in
    on_ok_weaker c.push.result
    (λ e. report_grew c.args.out.now _ _ _ _ _ c.args.report.now first c.in_ok-put_labelled-2.ensures c.in_ok-put_labelled-3.ensures
    c.in_ok-put_listed.ensures e)
    c.push.ensures.ok
