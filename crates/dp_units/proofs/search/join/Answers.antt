use Rattle.std.proofs.Common.{◌≡◌, ◌≤◌, ◌∙◌, sym, subst}
use Rattle.dp_units.proofs.EnterLemmas.{same_place}
use Rattle.dp_units.proofs.search.join.Goals as goal

pub returns-in-OnPath : goal.returns-in-OnPath
returns-in-OnPath c = record {
  rising = c.join_above.ensures.rising;
  kept = λ b has. (c.join_above.ensures.kept b has).0;
  low = λ b place has is.
      let same : c.in-OnPath.place ≡ place = same_place c.in-OnPath.place place (sym c.in-OnPath.is ∙ is) in
      subst (λ k. b ≤ k) same (c.join_above.ensures.kept b has).1;
  all = λ b has low. c.join_above.ensures.all b has (low c.in-OnPath.place c.in-OnPath.is);
}
