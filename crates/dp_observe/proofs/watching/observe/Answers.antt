-- The whole run was counted.
use Rattle.std.proofs.Common.{◌≡◌, ◌∙◌}
use Rattle.dp_profile.specs.Sites.{regions}
use Rattle.dp_observe.proofs.RunLemmas.{observed_is}
use Rattle.dp_observe.proofs.watching.observe.Goals as goal

pub returns : goal.returns
returns c =
    let sites : c.in_ok-sites.sites ≡ regions c.args.program.now = c.in_ok-sites.ensures in
    observed_is c.args.program.now c.args.input.now c.args.fuel c.in_ok-machine.machine c.in_ok-board.board c.run.new.board c.in_ok-end.end
    c.as_slice.result.now c.as_slice-2.result.now c.as_slice-3.result.now c.in_ok-regions.regions
    c.requires c.in_ok-machine.ensures (c.as_slice.ensures ∙ sites) (c.as_slice-2.ensures ∙ sites) c.as_slice-3.ensures c.in_ok-board.ensures.owners
    c.in_ok-board.ensures.writers c.in_ok-board.ensures.counters
    c.in_ok-end.ensures c.in_ok-regions.ensures
