use Rattle.std.proofs.Common.{◌∙◌}
use Rattle.dp_depend.proofs.edges.Basis.is_far.Goals as goal

pub returns : goal.returns
returns c = c.is_far.ensures ∙ (c.requires.apart c.args.d.now.site.0 c.args.u.now.site.0 c.requires.d c.requires.u).0
