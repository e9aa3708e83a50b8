use Rattle.std.proofs.Common.{◌<◌, length, sym, ◌∙◌, arith}
use Rattle.dp_check.proofs.TableLemmas as tables
use Rattle.dp_check.proofs.sites.Sites.main.Goals as goal
use Rattle.dp_room.proofs.LoopLemmas.{fold_more, fold_end}

pub loop-s-preserved : goal.loop-s-preserved
loop-s-preserved c =
    let below : c.loop-s.s-index < length c.args.all.now = omega arith in
    fold_more tables.sites_rest tables.sites_step tables.main_sites_more c.args.all.now c.loop-s.s-index
    (record { table = c.loop-s.self; region = c.loop-s.number }) _ c.loop-s.invariant c.s-item.result below c.s-item.is
    (record { table = c.top.new.self; region = c.in_ok-number.number }) (λ j. record { table = c.in_ok-top.ensures j; region = c.in_ok-number.ensures.value j })

pub returns : goal.returns
returns c =
    sym (fold_end tables.sites_rest tables.sites_step tables.main_sites_more c.args.all.now c.loop-s.s-index
    (record { table = c.loop-s.self; region = c.loop-s.number }) _ c.loop-s.invariant (omega arith) ∙ tables.with_main-none c.loop-s.self c.loop-s.number)
