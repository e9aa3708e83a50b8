use Rattle.std.proofs.Common.{inl, inr}
use Rattle.dp_observe.specs.steps.Taken.{regions_taken}
use Rattle.dp_observe.proofs.ListLemmas.{all_joined}
use Rattle.dp_observe.proofs.TakenLemmas.{no_regions, no_counters}
use Rattle.dp_observe.proofs.profile.profiles.Goals as goal

pub returns : goal.returns
returns c =
    let regions = c.loop-sites.sites-iterator.a.rest.now in let counters = c.loop-sites.sites-iterator.b.rest.now in
    all_joined c.loop-sites.all (regions_taken regions counters) (regions_taken c.args.regions.now c.args.counters.now) c.loop-sites.invariant
    (elim c.in-None.ensures.steps [
      | inl e ↦ no_regions regions counters e.1.0
      | inr e ↦ no_counters regions counters e.1.0
    ])
