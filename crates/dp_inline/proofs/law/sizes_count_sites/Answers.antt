use Rattle.dp_inline.proofs.SiteCount.{sites_counted}
use Rattle.dp_inline.proofs.law.sizes_count_sites.Goals as goal

pub returns : goal.returns
returns c = sites_counted c.args.p.now c.requires
