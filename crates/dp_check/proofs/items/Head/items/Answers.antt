use Rattle.std.proofs.Common.{◌≡◌, ◌+◌, ◌<◌, ◌∷◌, drop, length, List, sym, ap, subst, ◌∙◌, rules, arith}
use Rattle.std.proofs.lemmas.Grind.{common_steps}
use Rattle.std.proofs.lemmas.List.{drop_more, drop_all}
use Rattle.dp_tree.specs.declared.Function.{Function}
use Rattle.dp_tree.specs.declared.raw.RawItem.{RawItem}
use Rattle.dp_check.specs.declared.items.Head.{Head}
use Rattle.dp_check.specs.Items.{after_item}
use Rattle.dp_check.proofs.ItemLemmas.{ItemsSoFar, items_begin, items_go_on, items_refused, items_end}
use Rattle.dp_check.proofs.items.Head.items.Goals as goal

pub loop-item-init : goal.loop-item-init
loop-item-init c = subst (λ (d : List Function). ItemsSoFar c.args.self.now c.args.self.now d c.args.all.now c.args.all.now) (sym c.new-done.ensures)
    (items_begin c.args.self.now c.args.all.now)

pub returns-in_err-item-clause-value : goal.returns-in_err-item-clause-value
returns-in_err-item-clause-value c =
    let all = c.args.all.now in let i = c.loop-item.item-index in
    let below : c.loop-item.item-index < length c.args.all.now = omega arith in let rest = drop (i + 1) all in
    let e : drop i all ≡ c.item-item.result ∷ rest = drop_more all i c.item-item.result below ∙ ap (λ y. y ∷ rest) (sym c.item-item.is) in
    let refused = items_refused c.item-item.result rest (subst (λ (l : List RawItem). ItemsSoFar c.args.self.now c.loop-item.self c.loop-item.done all l) e
    c.loop-item.invariant) in
    first_of (search rules, grind (arith, common_steps))

pub loop-item-preserved : goal.loop-item-preserved
loop-item-preserved c =
    let all = c.args.all.now in let i = c.loop-item.item-index in
    let below : c.loop-item.item-index < length c.args.all.now = omega arith in let rest = drop (i + 1) all in
    let e : drop i all ≡ c.item-item.result ∷ rest = drop_more all i c.item-item.result below ∙ ap (λ y. y ∷ rest) (sym c.item-item.is) in
    let here = subst (λ (l : List RawItem). ItemsSoFar c.args.self.now c.loop-item.self c.loop-item.done all l) e c.loop-item.invariant in
    let goes = items_go_on c.item-item.result rest here c.in_ok-item.ensures.value in
    subst (λ (h : Head). ItemsSoFar c.args.self.now h c.item.new.done all rest) (sym c.in_ok-item.ensures.head)
    (subst (λ (d : List Function). ItemsSoFar c.args.self.now (after_item c.loop-item.self c.item-item.result) d all rest)
    (sym c.in_ok-item.ensures.functions) goes)

pub returns-clause-value : goal.returns-clause-value
returns-clause-value c =
    let all = c.args.all.now in
    items_end (subst (λ (l : List RawItem). ItemsSoFar c.args.self.now c.loop-item.self c.loop-item.done all l)
    (drop_all c.loop-item.item-index all (omega arith)) c.loop-item.invariant)

pub returns-clause-head : goal.returns-clause-head
returns-clause-head c =
    let all = c.args.all.now in
    let last = subst (λ (l : List RawItem). ItemsSoFar c.args.self.now c.loop-item.self c.loop-item.done all l)
    (drop_all c.loop-item.item-index all (omega arith)) c.loop-item.invariant in
    sym last.head
