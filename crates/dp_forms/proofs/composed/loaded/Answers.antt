use Rattle.std.proofs.Common.{◌≤◌, ◌<◌, ◌∙◌, arith, rules, length}
use Rattle.std.proofs.lemmas.List.{length-set}
use Rattle.dp_forms.proofs.WholeLemmas.{loaded_more, merged_same}
use Rattle.dp_forms.proofs.composed.loaded.Goals as goal

pub loop-k-preserved : goal.loop-k-preserved
loop-k-preserved g c =
    let below : c.loop-k.k < length c.args.homes.now = search rules in
    let within : c.loop-k.k < length c.loop-k.registers = omega (arith, below, c.loop-k.invariant.long) in
    record {
      same = loaded_more c.args.homes.now c.loop-k.registers c.args.cells.now c.loop-k.k _ c.loop-k.invariant.same within (search rules);
      long = length-set c.loop-k.registers c.loop-k.k _ ∙ c.loop-k.invariant.long;
    }

pub returns : goal.returns
returns g c =
    let enough : length c.args.homes.now ≤ c.loop-k.k = search rules in
    merged_same c.args.homes.now c.loop-k.registers c.args.cells.now (λ j below. c.loop-k.invariant.same j (omega (arith, below, enough)))
    (omega (arith, c.loop-k.invariant.long))
