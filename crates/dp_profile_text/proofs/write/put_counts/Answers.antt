use Rattle.std.proofs.Common.{◌++◌, inl, inr}
use Rattle.dp_plan.proofs.Joins.{joins_all}
use Rattle.dp_profile_text.specs.WrittenText.{runs_text}
use Rattle.dp_profile_text.proofs.WriteLemmas.{no_sites, no_counts}
use Rattle.dp_profile_text.proofs.write.put_counts.Goals as goal

pub returns-clause-text : goal.returns-clause-text
returns-clause-text c =
    let sites = c.loop-site.site-iterator.a.rest.now in let counts = c.loop-site.site-iterator.b.rest.now in
    joins_all (c.args.out.now ++ runs_text c.args.sites.now c.args.counts.now) c.loop-site.out (runs_text sites counts) c.loop-site.invariant
    (elim c.in-None.ensures.steps [
      | inl e ↦ no_sites sites counts e.1.0
      | inr e ↦ no_counts sites counts e.1.0
    ])
