use Rattle.std.specs.List.{flat_map}
use Rattle.dp_tree.specs.Statements.{asked}
use Rattle.dp_tree.proofs.Asked.{asked-If, asked-While, asked-Region}
use Rattle.dp_sites.proofs.ListWalks.{own_and_one, own_and_two}
use Rattle.dp_sites.proofs.walk.+walk.Goals as goal

pub ask_each-returns-in_ok-ask_all-in-If-2 : goal.ask_each-returns-in_ok-ask_all-in-If-2
ask_each-returns-in_ok-ask_all-in-If-2 g t c =
    let w = c.in-If in let gives = g.Q.Question.gives in
    own_and_two c.args.out.now c.ask.new.out c.ask_all.new.out c.ask_all-in-If.new.out (gives c.args.statement.now) (flat_map (asked gives) w.then_part)
    (flat_map (asked gives) w.else_part) c.in_ok-ask.ensures
    (rw c.as_slice.ensures at c.in_ok-ask_all-in-If.ensures)
    (rw c.as_slice-in-If.ensures at c.in_ok-ask_all-in-If-2.ensures)
    (rw w.is (asked-If gives w.site w.cond w.then_part w.else_part))

pub ask_each-returns-in_ok-ask_all-in-While : goal.ask_each-returns-in_ok-ask_all-in-While
ask_each-returns-in_ok-ask_all-in-While g t c =
    let w = c.in-While in let gives = g.Q.Question.gives in
    own_and_one c.args.out.now c.ask.new.out c.ask_all-in-While.new.out (gives c.args.statement.now) (flat_map (asked gives) w.body) c.in_ok-ask.ensures
    (rw c.as_slice-in-While.ensures at c.in_ok-ask_all-in-While.ensures)
    (rw w.is (asked-While gives w.site w.cond w.body))

pub ask_each-returns-in_ok-ask_all-in-Region : goal.ask_each-returns-in_ok-ask_all-in-Region
ask_each-returns-in_ok-ask_all-in-Region g t c =
    let w = c.in-Region in let gives = g.Q.Question.gives in
    own_and_one c.args.out.now c.ask.new.out c.ask_all-in-Region.new.out (gives c.args.statement.now) (flat_map (asked gives) w.body) c.in_ok-ask.ensures
    (rw c.as_slice-in-Region.ensures at c.in_ok-ask_all-in-Region.ensures)
    (rw w.is (asked-Region gives w.region w.site w.cond w.body))
