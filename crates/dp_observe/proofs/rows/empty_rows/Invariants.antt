use Rattle.std.proofs.Common.{◌≡◌, ◌++◌, [], map, drop}
use Rattle.dp_observe.proofs.rows.empty_rows.Given as goal

abbrev pub invariant-loop-site : goal.invariant-loop-site
invariant-loop-site l = l.rows ++ map (λ _. []) (drop l._site-index l.sites) ≡ map (λ _. []) l.sites
