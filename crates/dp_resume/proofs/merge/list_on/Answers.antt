use Rattle.std.proofs.Common.{◌≡◌, ◌+◌, ◌≤◌, ◌++◌, List, ℕ, map, take, drop, [], length, sym, ap, ◌∙◌, rules, arith}
use Rattle.std.proofs.lemmas.List.{drop_all}
use Rattle.dp_base.specs.declared.limits.TheConstants.{LISTED}
use Rattle.dp_resume.proofs.MergeLemmas.{listed_all, listed_full}
use Rattle.dp_resume.proofs.merge.list_on.Goals as goal

pub returns-then-len : goal.returns-then-len
returns-then-len c =
    let full : LISTED ≤ length c.loop-number.listed = search rules in
    listed_full c.loop-number.listed (map (λ i. c.args.before + i) (drop c.loop-number.number-index c.args.numbers.now)) c.loop-number.invariant.1 full
    ∙ c.loop-number.invariant.0

pub returns : goal.returns
returns c =
    let none : drop c.loop-number.number-index c.args.numbers.now ≡ [] = drop_all c.loop-number.number-index c.args.numbers.now
    (omega (arith, c.loop-number-test.false)) in
    listed_all c.args.before c.loop-number.listed c.loop-number.invariant.1
    ∙ sym (ap (λ (ns : List ℕ). take LISTED (c.loop-number.listed ++ map (λ i. c.args.before + i) ns)) none) ∙ c.loop-number.invariant.0
