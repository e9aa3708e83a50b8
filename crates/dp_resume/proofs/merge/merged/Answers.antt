use Rattle.std.proofs.Common.{◌∙◌}
use Rattle.dp_resume.proofs.MergeLemmas.{merged_again}
use Rattle.dp_resume.proofs.merge.merged.Goals as goal

pub returns-in_ok-append-in-Some : goal.returns-in_ok-append-in-Some
returns-in_ok-append-in-Some c =
    c.in_ok-append-in-Some.ensures.ok ∙ merged_again c.args.saved c.pop.new.self c.in-Some.last c.args.told c.in_ok-behind-in-Some.behind c.in-Some.ensures
    c.in_ok-behind-in-Some.ensures
