use Rattle.std.proofs.Common.{◌≡◌, drop}
use Rattle.dp_check.specs.Place.{after_params}
use Rattle.dp_check.specs.Answer.{params_answer, onto}
use Rattle.dp_check.proofs.items.parameters.Given as goal

abbrev pub invariant-loop-name : goal.invariant-loop-name
invariant-loop-name l = (params_answer l.fn.place l.all ≡ onto l.done (params_answer l.place (drop l.name-index l.all)))
    × (after_params l.fn.place l.all ≡ after_params l.place (drop l.name-index l.all))
