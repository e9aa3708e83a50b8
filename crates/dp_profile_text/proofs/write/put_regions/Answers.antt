use Rattle.std.proofs.Common.{◌+◌, ◌++◌, inl, inr}
use Rattle.dp_plan.proofs.Joins.{joins_all}
use Rattle.dp_profile_text.specs.WrittenText.{regions_text}
use Rattle.dp_profile_text.proofs.WriteLemmas.{no_regions, none_shown}
use Rattle.dp_profile_text.proofs.write.put_regions.Goals as goal

pub returns-clause-text : goal.returns-clause-text
returns-clause-text c =
    let all = c.loop-place.place-iterator.iter.a.rest.now in let shown = c.loop-place.place-iterator.iter.b.rest.now in
    let number = c.loop-place.place-iterator.count + 1 in
    joins_all (c.args.out.now ++ regions_text 1 c.args.all.now c.args.shown.now) c.loop-place.out (regions_text number all shown) c.loop-place.invariant
    (elim c.in-None.ensures.steps.0 [
      | inl e ↦ no_regions number all shown e.1.0
      | inr e ↦ none_shown number all shown e.1.0
    ])
