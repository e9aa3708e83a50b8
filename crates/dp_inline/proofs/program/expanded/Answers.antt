use Rattle.std.proofs.Common.{◌≡◌, ◌∙◌, length}
use Rattle.dp_calls.specs.Expand.{program_of}
use Rattle.dp_inline.specs.steps.Written.{written, after_list}
use Rattle.dp_inline.proofs.GlobalLemmas.{start, expands}
use Rattle.dp_inline.proofs.program.expanded.Goals as goal

pub returns : goal.returns
returns c =
    let p = c.args.p.now in
    let whole : written c.statements.new.out ≡ after_list p (length p.functions) 0 (start p) p.main =
    c.in_ok-statements.ensures ∙ (λ i. after_list p (c.len.ensures i) 0 (c.in_ok-out.ensures i) (c.as_slice.ensures i)) in
    (λ i. record (program_of (whole i)) { functions = c.new.ensures i }) ∙ expands p
