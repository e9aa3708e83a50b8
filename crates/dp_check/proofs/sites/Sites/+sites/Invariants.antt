use Rattle.std.proofs.Common.{◌≡◌, drop}
use Rattle.dp_check.specs.Place.{parts_all}
use Rattle.dp_check.specs.Tables.{sites_made}
use Rattle.dp_check.specs.steps.Growing.{with_sites}
use Rattle.dp_check.proofs.sites.Sites.+sites.Given as goal

abbrev pub invariant-statements-loop-s : goal.invariant-statements-loop-s
invariant-statements-loop-s l =
    with_sites l.fn.self (sites_made l.region (parts_all l.all)) ≡ with_sites l.self (sites_made l.region (parts_all (drop l.s-index l.all)))
