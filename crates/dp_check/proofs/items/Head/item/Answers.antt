use Rattle.std.proofs.Common.{◌≡◌, ◌++◌, List, Err, sym, ap, ◌∙◌, rules, arith}
use Rattle.std.proofs.lemmas.Grind.{common_steps}
use Rattle.dp_tree.specs.declared.Function.{Function}
use Rattle.dp_check.specs.declared.fail.CheckFail.{CheckFail}
use Rattle.dp_check.specs.Answer.{answer}
use Rattle.dp_check.specs.Offence.{first_offence}
use Rattle.dp_check.specs.Items.{function_answer, item_tokens}
use Rattle.dp_check.proofs.ItemLemmas.{function_answer_at, function_lawful, function_refused}
use Rattle.dp_check.proofs.items.Head.item.Goals as goal

pub returns-in_err-one-in-Function-clause-value : goal.returns-in_err-one-in-Function-clause-value
returns-in_err-one-in-Function-clause-value c =
    let h = c.args.self.now in let f = c.in-Function in
    let same = function_answer_at h f.name c.as_slice.ensures c.as_slice-in-Function.ensures in
    let refused : (e : CheckFail) → function_answer h f.name c.as_slice.result.now c.as_slice-in-Function.result.now ≡ Err e
    → answer {X = Unit {0}} (first_offence (item_tokens h c.args.item.now)) tt ≡ Err e =
    λ e p. rw f.is (function_refused h f.name f.params f.body e (sym same ∙ p)) in
    first_of (search rules, grind (arith, common_steps))

pub returns-in_ok-push-in-Function-clause-value : goal.returns-in_ok-push-in-Function-clause-value
returns-in_ok-push-in-Function-clause-value c =
    let h = c.args.self.now in let f = c.in-Function in
    let same = function_answer_at h f.name c.as_slice.ensures c.as_slice-in-Function.ensures in
    rw f.is (function_lawful h f.name f.params f.body c.in_ok-one-in-Function.one (sym same ∙ c.in_ok-one-in-Function.ensures.value)).0

pub returns-in_ok-push-in-Function-clause-functions : goal.returns-in_ok-push-in-Function-clause-functions
returns-in_ok-push-in-Function-clause-functions c =
    let h = c.args.self.now in let f = c.in-Function in
    let same = function_answer_at h f.name c.as_slice.ensures c.as_slice-in-Function.ensures in
    let lawful = function_lawful h f.name f.params f.body c.in_ok-one-in-Function.one (sym same ∙ c.in_ok-one-in-Function.ensures.value) in
    rw f.is (c.in_ok-push-in-Function.ensures.ok ∙ ap (λ (fs : List Function). c.args.done.now ++ fs) (sym lawful.1))
