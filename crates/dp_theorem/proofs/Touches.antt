-- The touches of a statement by its head, and the numbers of strides.
use Rattle.dp_semantics.proofs.Names.{opened_statement, ◌≡◌, sym, ap, ◌∙◌, List, [], ◌∷◌, ◌++◌, flat_map, Stmt, out-Stmt, roll-Stmt, roll-out-Stmt}
use Rattle.dp_semantics.proofs.Names.{hidden-the_row-Stmt-0, rolls-Assign, rolls-Store, rolls-Print, rolls-If, rolls-While, rolls-Region, rolls-Break}
use Rattle.dp_semantics.proofs.Names.{rolls-Call, Stmt-F, Assign, Store, Print, If, While, Region, Break, Call, site_of}
use Rattle.dp_plan.specs.Touch.{head_reads, head_store}
use Rattle.dp_tree.proofs.Asked.{asked_hidden}
use Rattle.dp_plan.specs.IsFar.{SiteTouch, touch_at, touches, touches_in}

abbrev pub touches_all : List Stmt → List SiteTouch
touches_all statements = flat_map touches statements

abbrev pub head_touch : Stmt-F Stmt → SiteTouch
head_touch h = record { site = (site_of h).0; reads = head_reads h; store = head_store h }

abbrev pub touched_inside : Stmt-F Stmt → List SiteTouch
touched_inside (If site cond a b) = touches_all a ++ touches_all b
touched_inside (While site cond a) = touches_all a
touched_inside (Region r site cond a) = touches_all a
touched_inside _ = []

abbrev pub touches_at : Stmt-F Stmt → List SiteTouch
touches_at (Call f line args) = []
touches_at h = head_touch h ∷ touched_inside h

touches_hidden : (xs : List Stmt) → touches_in (hidden-the_row-Stmt-0 xs) ≡ touches_all xs
touches_hidden xs = asked_hidden touch_at xs

touches_roll : (h : Stmt-F Stmt) → touches (roll-Stmt h) ≡ touches_at h
unfolding opened_statement
touches_roll (Assign site x e) = ap touches (rolls-Assign site x e)
touches_roll (Store site x index e) = ap touches (rolls-Store site x index e)
touches_roll (Print site e) = ap touches (rolls-Print site e)
touches_roll (If site cond a b) = rw (rolls-If site cond a b, touches_hidden a, touches_hidden b)
touches_roll (While site cond a) = ap touches (rolls-While site cond a) ∙ ap (λ xs. head_touch (While site cond a) ∷ xs) (touches_hidden a)
touches_roll (Region r site cond a) = ap touches (rolls-Region r site cond a) ∙ ap (λ xs. head_touch (Region r site cond a) ∷ xs) (touches_hidden a)
touches_roll (Break site cond) = ap touches (rolls-Break site cond)
touches_roll (Call f line args) = ap touches (rolls-Call f line args)

pub touches_out : (x : Stmt) → touches x ≡ touches_at (out-Stmt x)
touches_out x = ap touches (sym (roll-out-Stmt x)) ∙ touches_roll (out-Stmt x)
