use Rattle.std.proofs.Common.{◌≡◌, ℕ, true, List, ◌++◌, None, sym, ap, ◌∙◌}
use Rattle.dp_plan.specs.Access.{first_site}
use Rattle.dp_sites.specs.declared.compared.Compared.{Compared}
use Rattle.dp_sites.specs.declared.moving.Storing.{Storing}
use Rattle.dp_sites.specs.declared.part.Part.{Part}
use Rattle.dp_sites.specs.steps.Comparing.{pairs_among}
use Rattle.dp_sites.specs.steps.Parts.{part_list}
use Rattle.dp_sites.specs.Storings.{goes_up_from, storings}
use Rattle.dp_sites.proofs.ComparedIs.{pairs_made}
use Rattle.dp_sites.proofs.compared.compared_stores.Goals as goal

pub returns : goal.returns
returns c =
    let s = c.in_ok-statement.statement.now in
    let up_here : goes_up_from (first_site c.args.p.now c.args.plan.now) (part_list None c.in_ok-statement.statement.now) ≡ true =
    ap (goes_up_from (first_site c.args.p.now c.args.plan.now)) (sym (c.as_slice.ensures ∙ c.in_ok-parts.ensures))
    ∙ ap (λ (k : ℕ). goes_up_from k c.as_slice.result.now) (sym c.first_site.ensures) ∙ sym c.goes_up.ensures ∙ c.if-not-goes_up.false in
    let parts_are = c.as_slice-2.ensures ∙ c.in_ok-parts.ensures in
    let stores_are = c.as_slice-3.ensures ∙ c.in_ok-stores.ensures
    ∙ ap (λ (ps : List Part). storings c.args.p.now c.args.plan.now ps c.body_of.result.now) parts_are
    ∙ ap (storings c.args.p.now c.args.plan.now (part_list None c.in_ok-statement.statement.now)) c.body_of.ensures in
    c.in_ok-put_pairs.ensures
    ∙ ap (λ (found : List Compared). found ++ pairs_among c.args.p.now c.args.plan.now c.as_slice-3.result.now c.as_slice-4.result.now) c.new-found.ensures
    ∙ ap (λ (ds : List Storing). pairs_among c.args.p.now c.args.plan.now ds c.as_slice-4.result.now) stores_are
    ∙ ap (pairs_among c.args.p.now c.args.plan.now _) (c.as_slice-4.ensures ∙ c.in_ok-parts.ensures)
    ∙ pairs_made c.args.p.now c.args.plan.now c.in_ok-statement.statement.now c.in_ok-statement.ensures.once up_here
