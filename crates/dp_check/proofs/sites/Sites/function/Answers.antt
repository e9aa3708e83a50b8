use Rattle.std.proofs.Common.{◌≡◌, List, sym, ap, subst, ◌∙◌}
use Rattle.dp_check.specs.Place.{parts_all}
use Rattle.dp_check.specs.Tables.{sites_made, item_parts}
use Rattle.dp_check.specs.steps.Growing.{with_sites}
use Rattle.dp_check.proofs.TableLemmas as tables
use Rattle.std.proofs.Common.{OnOk}
use Rattle.dp_tree.specs.declared.SiteInfo.{SiteInfo}
use Rattle.dp_check.proofs.sites.Sites.function.Goals as goal

pub returns-in-Function : goal.returns-in-Function
returns-in-Function c =
    let f = c.in-Function in
    let same = ap (λ b. sites_made 0 (parts_all b)) c.as_slice.ensures ∙ sym (tables.function_sites f.params f.body)
    ∙ ap (λ item. sites_made 0 (item_parts item)) (sym f.is) in
    subst (λ (xs : List SiteInfo). OnOk c.statements.result (c.statements.new.self ≡ with_sites c.args.self.now xs)) same c.statements.ensures
