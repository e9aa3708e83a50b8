use Rattle.std.proofs.Common.{rules, arith}
use Rattle.std.proofs.lemmas.Grind.{common_steps}
use Rattle.dp_check.proofs.CheckAnswerLemmas.{trees_items_refused, trees_main_refused, trees_given}
use Rattle.dp_check.proofs.trees.resolve.Goals as goal

pub returns-in_err-functions : goal.returns-in_err-functions
returns-in_err-functions c =
    let refused = trees_items_refused c.args.raw.now c.as_slice-items.result.now c.as_slice-statements.result.now c.in_ok-variable.variable c.in_ok-names.names
    c.pass_all.new.place
    c.as_slice-items.ensures c.as_slice-statements.ensures c.in_ok-variable.ensures.value c.in_ok-names.ensures c.in_ok-pass_all.ensures.place in
    first_of (search rules, grind (arith, common_steps))

pub returns-in_err-main : goal.returns-in_err-main
returns-in_err-main c =
    let refused = trees_main_refused c.args.raw.now c.as_slice-items.result.now c.as_slice-statements.result.now c.in_ok-variable.variable c.in_ok-names.names
    c.pass_all.new.place
    c.as_slice-items.ensures c.as_slice-statements.ensures c.in_ok-variable.ensures.value c.in_ok-names.ensures c.in_ok-pass_all.ensures.place
    c.items.new.self c.in_ok-functions.ensures.head c.in_ok-functions.functions c.in_ok-functions.ensures.value in
    first_of (search rules, grind (arith, common_steps))

pub returns : goal.returns
returns c =
    trees_given c.args.raw.now c.as_slice-items.result.now c.as_slice-statements.result.now c.in_ok-variable.variable c.in_ok-names.names c.pass_all.new.place
    c.as_slice-items.ensures c.as_slice-statements.ensures c.in_ok-variable.ensures.value c.in_ok-names.ensures c.in_ok-pass_all.ensures.place
    c.items.new.self c.in_ok-functions.ensures.head c.in_ok-functions.functions c.in_ok-functions.ensures.value c.in_ok-main.main c.in_ok-main.ensures
