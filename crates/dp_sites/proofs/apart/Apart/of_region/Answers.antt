use Rattle.std.proofs.Common.{◌≡◌, true, List, Option, map, None, sym, ap, subst, ◌∙◌}
use Rattle.dp_tree.specs.declared.Stmt.{Stmt}
use Rattle.dp_plan.specs.declared.Plan.{Plan}
use Rattle.dp_sites.specs.declared.part.Part.{Part}
use Rattle.dp_sites.specs.Apart.{TellsApart, bare_plan}
use Rattle.dp_sites.specs.steps.Parts.{part_list}
use Rattle.dp_sites.specs.Storings.{Storing, body_at, goes_up_from, storing_at}
use Rattle.dp_sites.proofs.ApartIs.{apart_made}
use Rattle.dp_sites.proofs.apart.Apart.of_region.Goals as goal

pub returns : goal.returns
returns c =
    let p = c.args.p.now in
    let s = c.in_ok-statement.statement.now in
    let k = c.first_site-first.result in
    let parts_are : c.in_ok-parts.parts ≡ part_list None c.in_ok-statement.statement.now = c.in_ok-parts.ensures in
    let up : goes_up_from c.first_site-first.result (part_list None c.in_ok-statement.statement.now) ≡ true =
    ap (goes_up_from c.first_site-first.result) (sym (c.as_slice.ensures ∙ c.in_ok-parts.ensures)) ∙ sym c.goes_up.ensures ∙ c.if-not-goes_up.false in
    let stores_are : c.in_ok-stores.stores ≡ map (storing_at c.args.p.now (bare_plan c.args.region) (part_list None c.in_ok-statement.statement.now)
    (body_at c.in_ok-statement.statement.now)) (part_list None c.in_ok-statement.statement.now) =
    c.in_ok-stores.ensures
    ∙ ap (λ (plan : Plan). map (storing_at c.args.p.now plan c.as_slice-2.result.now c.body_of.result.now) c.as_slice-2.result.now) c.bare_plan-plan.ensures
    ∙ ap (λ (ps : List Part). map (storing_at c.args.p.now (bare_plan c.args.region) ps c.body_of.result.now) ps) (c.as_slice-2.ensures ∙ c.in_ok-parts.ensures)
    ∙ ap (λ (body : List Stmt). map (storing_at c.args.p.now (bare_plan c.args.region) (part_list None c.in_ok-statement.statement.now) body)
    (part_list None c.in_ok-statement.statement.now)) c.body_of.ensures in
    subst (λ (ps : List Part). TellsApart c.args.p.now c.args.region (record { first = c.first_site-first.result; parts = ps; stores = c.in_ok-stores.stores }))
    (sym parts_are)
    (subst (λ (st : List (Option Storing)). TellsApart c.args.p.now c.args.region
    (record { first = c.first_site-first.result; parts = part_list None c.in_ok-statement.statement.now; stores = st })) (sym stores_are)
    (apart_made p c.args.region s k c.in_ok-statement.ensures.once up))
