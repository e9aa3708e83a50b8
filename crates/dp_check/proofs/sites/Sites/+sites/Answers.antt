use Rattle.std.proofs.Common.{◌≡◌, ◌<◌, ◌∷◌, length, sym, ap, subst, ◌∙◌, OnOk, arith}
use Rattle.dp_tree.specs.declared.SiteKind.TheVariants as kind
use Rattle.dp_check.specs.declared.sites.Sites.{Sites}
use Rattle.dp_check.specs.Place.{Site, parts, parts_all}
use Rattle.dp_check.specs.Tables.{sites_made}
use Rattle.dp_check.specs.steps.Growing.{with_sites}
use Rattle.dp_check.proofs.TableLemmas as tables
use Rattle.dp_check.proofs.sites.Sites.+sites.Goals as goal
use Rattle.dp_room.proofs.LoopLemmas.{fold_more, fold_end}

pub statements-loop-s-preserved : goal.statements-loop-s-preserved
statements-loop-s-preserved t c =
    let below : c.loop-s.s-index < length c.args.all.now = omega arith in
    fold_more (λ t all. with_sites t (sites_made c.args.region (parts_all all))) (λ t s. with_sites t (sites_made c.args.region (parts s)))
    (tables.sites_more c.args.region) c.args.all.now c.loop-s.s-index c.loop-s.self _ c.loop-s.invariant c.s-item.result below c.s-item.is c.statement.new.self
    c.in_ok-statement.ensures

pub statements-returns : goal.statements-returns
statements-returns t c =
    sym (fold_end (λ t all. with_sites t (sites_made c.args.region (parts_all all))) (λ t s. with_sites t (sites_made c.args.region (parts s)))
    (tables.sites_more c.args.region) c.args.all.now c.loop-s.s-index c.loop-s.self _ c.loop-s.invariant (omega arith) ∙ tables.with_sites-none c.loop-s.self)

pub statement-returns-in_ok-statements-in-If : goal.statement-returns-in_ok-statements-in-If
statement-returns-in_ok-statements-in-If t c =
    let r = c.args.region in let f = c.in-If in let old = c.args.self.now in
    let then_end = c.in_ok-statements-in-If.ensures ∙ (λ i. with_sites (c.in_ok-site-in-If.ensures i) (sites_made r (parts_all (c.as_slice.ensures i)))) in
    subst (λ (grown : Sites). OnOk c.statements-in-If.result (c.statements-in-If.new.self ≡ grown))
    ((λ i. with_sites (then_end i) (sites_made r (parts_all (c.as_slice-in-If.ensures i)))) ∙ sym (ap (λ s. with_sites old (sites_made r (parts s))) f.is
    ∙ tables.site-If old r f.line f.cond f.then_part f.else_part))
    c.statements-in-If.ensures

pub statement-returns-in-While : goal.statement-returns-in-While
statement-returns-in-While t c =
    let r = c.args.region in let w = c.in-While in let old = c.args.self.now in
    subst (λ (grown : Sites). OnOk c.turns.result (c.turns.new.self ≡ grown))
    ((λ i. with_sites old (sites_made r (Site w.line kind.While ∷ parts_all (c.as_slice-in-While.ensures i))))
    ∙ sym (tables.site-While old r w.line w.marked w.cond w.body) ∙ ap (λ s. with_sites old (sites_made r (parts s))) (sym w.is))
    c.turns.ensures

pub statement-returns-in_ok-turns-in-For : goal.statement-returns-in_ok-turns-in-For
statement-returns-in_ok-turns-in-For t c =
    let r = c.args.region in let f = c.in-For in let old = c.args.self.now in
    let first_end = c.in_ok-statements-in-For.ensures ∙ (λ i. with_sites old (sites_made r (parts_all (c.as_slice-in-For.ensures i)))) in
    let body_end = c.in_ok-turns-in-For.ensures
    ∙ (λ i. with_sites (first_end i) (sites_made r (Site f.line kind.While ∷ parts_all (c.as_slice-in-For-2.ensures i)))) in
    subst (λ (grown : Sites). OnOk c.statements-in-For-2.result (c.statements-in-For-2.new.self ≡ grown))
    ((λ i. with_sites (body_end i) (sites_made r (parts_all (c.as_slice-in-For-3.ensures i)))) ∙ sym (ap (λ s. with_sites old (sites_made r (parts s))) f.is
    ∙ tables.site-For old r f.line f.marked f.first f.cond f.step f.body))
    c.statements-in-For-2.ensures

pub turns-returns : goal.turns-returns
turns-returns t c =
    let r = c.args.region in
    c.in_ok-statements.ensures ∙ (λ i. with_sites (c.in_ok-site.ensures i) (sites_made r (parts_all c.args.body.now)))
    ∙ sym (tables.turn_sites c.args.self.now r c.args.line c.args.body.now)
