-- The end of a run's text, from `state` on.
use Rattle.std.specs.Prelude.{ℕ, ℤ, Bool, List, ◌++◌, codes}
use Rattle.dp_base.specs.declared.End.{End}
use Rattle.dp_base.specs.declared.End.TheVariants.{Done, Fault, Fuel}
use Rattle.dp_base.specs.declared.RegionReport.{RegionReport}
use Rattle.dp_tree.specs.declared.Program.{Program}
use Rattle.dp_report.specs.Lines.{line}
use Rattle.dp_report.specs.Faults.{fault_words}
use Rattle.dp_report.specs.StateText.{state_bytes}
use Rattle.dp_report.specs.RegionText.{regions_bytes}

-- how the run ended
abbrev pub end_line : End → List ℕ
end_line Done = line (codes "end done")
end_line (Fault fault) = line (codes "end" ++ fault_words fault)
end_line Fuel = line (codes "end fuel")

-- the variables, the regions, with their causes where `why` holds, and the end
abbrev pub end_bytes : Program → List ℤ → List RegionReport → End → Bool → List ℕ
end_bytes p cells reports end why = state_bytes p.vars cells ++ regions_bytes why reports ++ end_line end
