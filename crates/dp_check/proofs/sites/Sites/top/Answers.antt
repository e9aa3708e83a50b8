use Rattle.std.proofs.Common.{◌≡◌, ◌∷◌, false, sym, ap, subst, ◌∙◌, refl, OnOk}
use Rattle.dp_check.specs.declared.sites.Sites.{Sites}
use Rattle.dp_tree.specs.declared.SiteKind.TheVariants as kind
use Rattle.dp_check.specs.Place.{Site, parts_all}
use Rattle.dp_check.specs.Resolved.{is_marked_loop}
use Rattle.dp_check.specs.Tables.{sites_made}
use Rattle.dp_check.specs.steps.Growing.{with_sites}
use Rattle.dp_check.proofs.TableLemmas as tables
use Rattle.dp_check.proofs.TopLemmas as top
use Rattle.dp_check.proofs.RegionLemmas.{is_region-While, is_region-For, while_is, for_is, plain_unless_loop}
use Rattle.dp_check.proofs.sites.Sites.top.Goals.{in_default-via-in-While+else-marked, in_default-via-in-For+else-marked-2, in_default-via-in_default}
use Rattle.dp_check.proofs.sites.Sites.top.Goals as goal

pub returns-in_ok-statement-in-While : goal.returns-in_ok-statement-in-While
returns-in_ok-statement-in-While c =
    let w = c.in-While in let is = while_is w.line w.cond c.if-marked.true refl w.is in
    subst (λ (q : Sites). OnOk c.region.result (c.region.new.self ≡ q))
    (top.top-region c.args.self.now c.args.number w.line w.cond w.body c.args.s.now is c.statement.new.self c.in_ok-statement-in-While.ensures) c.region.ensures

pub returns-in_default : goal.returns-in_default
returns-in_default c =
    let plain : is_marked_loop c.args.s.now ≡ false = elim c.in_default.branch [
      | in_default-via-in-While+else-marked w ↦ ap is_marked_loop w.in-While.is ∙ is_region-While w.in-While.line w.in-While.marked w.in-While.cond
          w.in-While.body ∙ w.if-marked.false
      | in_default-via-in-For+else-marked-2 w ↦ ap is_marked_loop w.in-For.is ∙ is_region-For w.in-For.line w.in-For.marked w.in-For.first w.in-For.cond
          w.in-For.step w.in-For.body ∙ w.if-marked-2.false
      | in_default-via-in_default w ↦ plain_unless_loop c.args.s.now w.in_default.not-While w.in_default.not-For
    ] in
    subst (λ (q : Sites). OnOk c.statement-in_default.result (c.statement-in_default.new.self ≡ q))
    (sym (top.top-plain c.args.self.now c.args.number c.args.s.now plain)) c.statement-in_default.ensures

pub returns-in_ok-statements-in-For-2 : goal.returns-in_ok-statements-in-For-2
returns-in_ok-statements-in-For-2 c =
    let f = c.in-For in let t = c.args.self.now in let r = c.args.number in
    let is = for_is f.line f.cond c.if-marked-2.true refl refl refl f.is in
    let before = c.in_ok-statements-in-For.ensures ∙ (λ i. with_sites t (sites_made 0 (parts_all (c.as_slice.ensures i)))) in
    let grown = c.in_ok-statements-in-For-2.ensures
    ∙ (λ i. with_sites ((c.in_ok-turns-in-For.ensures
    ∙ (λ j. with_sites c.statements.new.self (sites_made r (Site f.line kind.While ∷ parts_all (c.as_slice-in-For.ensures j))))) i)
    (sites_made r (parts_all (c.as_slice-in-For-2.ensures i))))
    ∙ sym (tables.loop_sites c.statements.new.self r f.line f.step f.body) in
    subst (λ (q : Sites). OnOk c.region-in-For.result (c.region-in-For.new.self ≡ q))
    (top.top-stepped t r f.line f.first f.cond f.step f.body c.args.s.now is c.statements.new.self before _ grown) c.region-in-For.ensures
