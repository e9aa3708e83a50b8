use Rattle.std.proofs.Common.{◌≡◌, ℕ, true, List, map, length, None, sym, ap, ◌∙◌}
use Rattle.dp_tree.specs.Numbering.{numbers_from}
use Rattle.dp_tree.specs.declared.Stmt.{Stmt}
use Rattle.dp_plan.specs.Access.{first_site}
use Rattle.dp_sites.specs.steps.Parts.{part_list}
use Rattle.dp_sites.specs.declared.part.Part.{Part}
use Rattle.dp_sites.specs.Storings.{answer_at, goes_up_from}
use Rattle.dp_sites.proofs.TableMade.{table_made}
use Rattle.dp_sites.proofs.table.table_of.Goals as goal

pub returns : goal.returns
returns c =
    let p = c.args.p.now in let plan = c.args.plan.now in
    let up_here : goes_up_from (first_site c.args.p.now c.args.plan.now) (part_list None c.in_ok-statement.statement.now) ≡ true =
    ap (goes_up_from (first_site c.args.p.now c.args.plan.now)) (sym (c.as_slice.ensures ∙ c.in_ok-parts.ensures))
    ∙ ap (λ (k : ℕ). goes_up_from k c.as_slice.result.now) (sym c.first_site.ensures) ∙ sym c.goes_up.ensures ∙ c.if-not-goes_up.false in
    c.in_ok-found.ensures
    ∙ ap (λ (ps : List Part). map (answer_at c.args.p.now c.args.plan.now ps c.body_of.result.now) (numbers_from 0 (length c.args.plan.now.stage_of)))
    c.in_ok-parts.ensures ∙ ap (λ (b : List Stmt). map (answer_at c.args.p.now c.args.plan.now (part_list None c.in_ok-statement.statement.now) b)
    (numbers_from 0 (length c.args.plan.now.stage_of))) c.body_of.ensures
    ∙ table_made p plan c.in_ok-statement.statement.now c.in_ok-statement.ensures.once up_here
