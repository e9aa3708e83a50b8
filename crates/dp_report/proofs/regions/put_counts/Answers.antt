use Rattle.std.proofs.Common.{◌≡◌, ◌++◌, codes}
use Rattle.std.proofs.lemmas.Result.{on_ok_weaker}
use Rattle.dp_text.specs.Labels.{labelled}
use Rattle.dp_report.specs.RegionText.{numbers_listed}
use Rattle.dp_report.proofs.Parts.{four_parts_and_end}
use Rattle.dp_report.proofs.regions.put_counts.Goals as goal

pub returns : goal.returns
returns c =
    let numbers = c.args.report.now.recovered in
    let list : c.put_listed.new.out ≡ c.put_labelled-3.new.out ++ numbers_listed c.args.report.now.recovered_count numbers = rw c.as_slice.ensures at
    c.in_ok-put_listed.ensures in
    let first : c.put_labelled.new.out ≡ c.args.out.now ++ labelled (codes "region ") c.args.report.now.region = rw c.from.ensures at
    c.in_ok-put_labelled.ensures in
    on_ok_weaker c.push.result
    (λ e. four_parts_and_end _ _ _ _ _ _ _ _ _ _ _ first c.in_ok-put_labelled-2.ensures c.in_ok-put_labelled-3.ensures list e)
    c.push.ensures.ok
