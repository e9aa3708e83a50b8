use Rattle.std.proofs.Common.{◌≡◌, ◌∙◌, ◌+◌, ◌-◌, ap, subst, map, List, ℕ, IfOk}
use Rattle.dp_semantics.specs.Judge.{last}
use Rattle.dp_columns.specs.declared.ColumnKind.{ColumnKind}
use Rattle.dp_lean_kinds.specs.declared.form.FormedSite.{FormedSite}
use Rattle.dp_lean_kinds.specs.steps.Read.{stages_read}
use Rattle.dp_lean_kinds.specs.steps.KindAmong.{kind_among}
use Rattle.dp_lean_kinds.proofs.KindsRight.{kinds_are}
use Rattle.dp_lean_kinds.proofs.stage_kinds.kinds.Goals as goal

pub returns : goal.returns
returns c =
    let p = c.args.p.now in let plan = c.args.plan.now in let tables = c.args.tables.now in let t = c.args.stage in
    subst (λ (kinds : List ColumnKind). IfOk c.kinds.result (λ made. made ≡ kinds))
    (ap (λ (reads : List ℕ). map (kind_among p plan tables t reads) c.as_slice-2.result.now) (c.as_slice.ensures ∙ c.in_ok-reads.ensures)
    ∙ ap (λ (sites : List FormedSite). map (kind_among p plan tables t (stages_read p plan tables (t + 1) (last plan - t))) sites) (c.as_slice-2.ensures
    ∙ c.in_ok-sites.ensures)
    ∙ kinds_are p plan c.requires.inlined c.requires.fits c.requires.tabled tables c.requires.known t c.requires.low c.requires.high)
    c.kinds.ensures
