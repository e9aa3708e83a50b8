use Rattle.std.proofs.Common.{List, filter, slice_get, count_by, sym, ap, ◌∙◌}
use Rattle.std.proofs.lemmas.List.Sums.{length-filter}
use Rattle.std.specs.Option.{option_copied}
use Rattle.dp_tree.specs.declared.Stmt.{Stmt}
use Rattle.dp_plan.specs.Access.{is_region_at}
use Rattle.dp_sites.proofs.RegionFinds.{not_one, only_one}
use Rattle.dp_sites.proofs.table.only_region.Goals.{in_default-via-in-Some+else-count-eq1, in_default-via-in_default}
use Rattle.dp_sites.proofs.table.only_region.Goals as goal

pub returns-in-Some-clause-once : goal.returns-in-Some-clause-once
returns-in-Some-clause-once c =
    let r = c.args.region in
    only_one r c.args.p.now.main c.in-Some.statement.now
    (ap (λ (xs : List Stmt). slice_get (filter (is_region_at r) xs) 0) (sym c.as_slice-all.ensures) ∙ sym c.first_region.ensures
    ∙ ap option_copied c.in-Some.is)
    (ap (count_by (is_region_at r)) (sym c.as_slice-all.ensures) ∙ sym c.region_count-count.ensures ∙ c.if-count-eq1.true)

pub returns-in_default-clause-not_once : goal.returns-in_default-clause-not_once
returns-in_default-clause-not_once c one =
    let r = c.args.region in
    let main = c.as_slice-all.ensures in
    elim c.in_default.branch [
      | in_default-via-in-Some+else-count-eq1 w ↦ w.if-count-eq1.false (c.region_count-count.ensures ∙ ap (count_by (is_region_at r)) main
          ∙ sym (length-filter (is_region_at r) c.args.p.now.main) ∙ one)
      | in_default-via-in_default w ↦ not_one (filter (is_region_at r) c.args.p.now.main)
          (ap (λ (xs : List Stmt). slice_get (filter (is_region_at r) xs) 0) (sym main) ∙ sym c.first_region.ensures ∙ ap option_copied w.in_default.is) one
    ]
