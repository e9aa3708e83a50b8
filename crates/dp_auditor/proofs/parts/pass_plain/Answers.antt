use Rattle.std.proofs.Common.{subst}
use Rattle.dp_meaning.specs.PartRun.{PartRun}
use Rattle.dp_meaning.specs.declared.ends.PartEnd.{PartEnd}
use Rattle.dp_auditor.proofs.PlainLemmas.{part_done, part_faults, part_going, part_spent}
use Rattle.dp_auditor.proofs.parts.pass_plain.Goals as goal

pub calls-preserved : goal.calls-preserved
calls-preserved c =
    part_going 65536 _ _ _ _ _ c.calls.invariant
    (subst (λ (end : PartEnd). PartRun 65536 c.calls.machine c.run_part.new.self c.clear.new.self c.run_part.new.out end) c.in-Going.is
    c.in_ok-run_part.ensures.runs)

pub returns-in-Done : goal.returns-in-Done
returns-in-Done c =
    part_done 65536 _ _ _ _ _ c.calls.invariant (subst (λ (end : PartEnd). PartRun 65536 c.calls.machine c.run_part.new.self c.clear.new.self c.run_part.new.out
    end) c.in-Done.is c.in_ok-run_part.ensures.runs)

pub returns-in-Fault : goal.returns-in-Fault
returns-in-Fault c =
    part_faults 65536 _ _ _ _ _ c.calls.invariant c.in-Fault.fault
    (subst (λ (end : PartEnd). PartRun 65536 c.calls.machine c.run_part.new.self c.clear.new.self c.run_part.new.out end) c.in-Fault.is
    c.in_ok-run_part.ensures.runs)

pub returns-in-Fuel : goal.returns-in-Fuel
returns-in-Fuel c =
    part_spent 65536 _ _ _ _ _ c.calls.invariant
    (subst (λ (end : PartEnd). PartRun 65536 c.calls.machine c.run_part.new.self c.clear.new.self c.run_part.new.out end) c.in-Fuel.is
    c.in_ok-run_part.ensures.runs)
