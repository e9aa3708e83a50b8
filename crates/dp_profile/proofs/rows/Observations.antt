-- What runs of the test programs show.
use Rattle.std.proofs.Common.{◌≡◌, refl, true, false, [], ◌∷◌, map, pos}
use Rattle.dp_base.specs.declared.End.TheVariants.{Done, Fault, Fuel}
use Rattle.dp_base.specs.declared.FaultKind.TheVariants.{Divide}
use Rattle.dp_base.specs.declared.BinOp.TheVariants as op
use Rattle.dp_tree.specs.declared.VarScope.TheVariants.{Global, Body}
use Rattle.dp_tree.specs.declared.SiteKind.TheVariants.{Assign, Break, While}
use Rattle.dp_tree.specs.declared.Program.{Program}
use Rattle.dp_tree.specs.declared.Stmt.TheVariants as stmt
use Rattle.dp_tree.proofs.Build.{num, var, bin, set, region, scalar, site, one_region, program, tree_opened}
use Rattle.dp_tree.proofs.Programs.{add, empty_program, sum_loop, skip_negative}
use Rattle.dp_profile.specs.declared.Profile.{Profile}
use Rattle.dp_profile.specs.Observed.{is_body_cell, observed}
use Rattle.dp_profile.proofs.rows.Profiles.{count, flow, profile, sum_loop_shown, skip_negative_shown}

without_region : observed empty_program [] 0 ≡ record { profile = record { regions = [] }; end = Done }
unfolding tree_opened
without_region = refl

straight_loop : observed sum_loop [] 100 ≡ record { profile = sum_loop_shown; end = Done }
unfolding tree_opened
straight_loop = refl

-- the number of input words is no load, and a branch that isn't taken has no run
branch_not_taken : observed skip_negative (pos 5 ∷ pos 6 ∷ pos 7 ∷ []) 100 ≡ record { profile = skip_negative_shown; end = Done }
unfolding tree_opened
branch_not_taken = refl

without_fuel : observed sum_loop [] 0 ≡ record { profile = profile (count 0 0 ∷ count 0 0 ∷ count 0 0 ∷ count 0 0 ∷ []) []; end = Fuel }
unfolding tree_opened
without_fuel = refl

-- the fuel is spent behind the second iteration's first assignment
cut_by_fuel : observed sum_loop [] 7 ≡ record {
  profile = profile (count 2 2 ∷ count 2 0 ∷ count 1 0 ∷ count 1 0 ∷ []) (flow 3 3 true 1 ∷ flow 3 4 false 1
      ∷ flow 5 2 true 1 ∷ flow 5 3 true 1 ∷ []);
  end = Fuel;
}
unfolding tree_opened
cut_by_fuel = refl

-- while (s < 2) { s = s + 1 + x; x = 5; x = x; }, where x is a body local; no text that is accepted reads one before it has a value
abbrev reading_early : Program
reading_early = program
    (scalar 0 (pos 0) Global ∷ scalar 1 (pos 0) (Body 1) ∷ [])
    (site 1 While 1 ∷ site 1 Assign 1 ∷ site 1 Assign 1 ∷ site 1 Assign 1 ∷ [])
    (one_region 1 1 4)
    (region 1 1 (bin op.Lt (var 0) (num 2)) (set 2 0 (add (add (var 0) (num 1)) (var 1)) ∷ set 3 1 (num 5) ∷ set 4 1 (var 1) ∷ []) ∷ [])

-- a body local flows within one iteration alone
body_local : observed reading_early [] 100 ≡ record {
  profile = profile (count 3 2 ∷ count 2 0 ∷ count 2 0 ∷ count 2 0 ∷ []) (flow 2 1 true 2 ∷ flow 2 2 true 1
      ∷ flow 3 4 false 2 ∷ []);
  end = Done;
}
unfolding tree_opened
body_local = refl

-- while (s < 9) { s = s + 1; s = 6 / (2 - s); }
abbrev faulting : Program
faulting = program
    (scalar 0 (pos 0) Global ∷ [])
    (site 1 While 1 ∷ site 2 Assign 1 ∷ site 3 Assign 1 ∷ [])
    (one_region 1 1 3)
    (region 1 1 (bin op.Lt (var 0) (num 9)) (set 2 0 (add (var 0) (num 1)) ∷ set 3 0 (bin op.Div (num 1) (bin op.Sub (num 2) (var 0))) ∷ []) ∷ [])

-- the evaluation that faults isn't counted, and what it loads neither
fault : observed faulting [] 100 ≡ record {
  profile = profile (count 2 2 ∷ count 2 0 ∷ count 1 0 ∷ []) (flow 2 3 false 1 ∷ flow 3 1 true 1 ∷ flow 3 2 true 1
      ∷ []);
  end = Fault (record { kind = Divide; line = 3 });
}
unfolding tree_opened
fault = refl

-- s = 1; while (s < 2) { s = s + 1; } s = 0; while (s < 1) { s = s + 1; }
abbrev pub two_loops : Program
two_loops = program
    (scalar 0 (pos 0) Global ∷ [])
    (site 1 Assign 0 ∷ site 2 While 1 ∷ site 2 Assign 1 ∷ site 3 Assign 0 ∷ site 4 While 2 ∷ site 4 Assign 2 ∷ [])
    (record { line = 2; first = record { 0 = 2 }; last = record { 0 = 3 } } ∷ record { line = 4; first = record { 0 = 5 }; last = record { 0 = 6 } } ∷ [])
    (set 1 0 (num 1) ∷ region 1 2 (bin op.Lt (var 0) (num 2)) (set 3 0 (add (var 0) (num 1)) ∷ []) ∷ set 4 0 (num 0) ∷ region 2 5 (bin op.Lt (var 0) (num 1))
    (set 6 0 (add (var 0) (num 1)) ∷ []) ∷ [])

abbrev pub two_loops_shown : Profile
two_loops_shown = record {
  regions = record { sites = count 2 1 ∷ count 1 0 ∷ []; flows = flow 3 2 true 1 ∷ [] }
      ∷ record { sites = count 2 1 ∷ count 1 0 ∷ []; flows = flow 6 5 true 1 ∷ [] } ∷ [];
}

-- a store before the region's start is none of its own
each_region_for_itself : observed two_loops [] 100 ≡ record { profile = two_loops_shown; end = Done }
unfolding tree_opened
each_region_for_itself = refl

-- while (2) { s = s + 2; if (s) break; } while (s < 4) { s = s + 1 + x; x = 5; }, where x is a body local
abbrev exit_first : Program
exit_first = program
    (scalar 0 (pos 0) Global ∷ scalar 1 (pos 0) (Body 2) ∷ [])
    (site 1 While 1 ∷ site 1 Assign 1 ∷ site 1 Break 1 ∷ site 2 While 2 ∷ site 2 Assign 2 ∷ site 2 Assign 2 ∷ [])
    (record { line = 1; first = record { 0 = 1 }; last = record { 0 = 3 } } ∷ record { line = 2; first = record { 0 = 4 }; last = record { 0 = 6 } } ∷ [])
    (region 1 1 (num 2) (set 2 0 (add (var 0) (num 2)) ∷ stmt.Break (record { 0 = 3 }) (var 0) ∷ [])
    ∷ region 2 4 (bin op.Lt (var 0) (num 4)) (set 5 0 (add (add (var 0) (num 1)) (var 1)) ∷ set 6 1 (num 5) ∷ []) ∷ [])

-- an exit that is taken gave another value than 0, and the second region's body local flows within one iteration alone
exit_is_taken : observed exit_first [] 100
    ≡ record {
      profile = record {
        regions = record { sites = count 1 1 ∷ count 1 0 ∷ count 1 1 ∷ []; flows = flow 2 3 false 1 ∷ [] }
            ∷ record { sites = count 3 2 ∷ count 2 0 ∷ count 2 0 ∷ []; flows = flow 5 4 true 2 ∷ flow 5 5 true 1 ∷ [] } ∷ [];
      };
      end = Done;
    }
unfolding tree_opened
exit_is_taken = refl

-- the body locals of region 1 are those from cell 1 to 2
abbrev local_cells : Program
local_cells = program (scalar 0 (pos 0) Global ∷ record { name = []; first = record { 0 = 1 }; length = 2; array = true; start = pos 0; scope = Body 1 }
    ∷ scalar 3 (pos 0) (Body 2) ∷ []) [] [] []

cells_of_its_locals : map (is_body_cell local_cells 1) (0 ∷ 1 ∷ 2 ∷ 3 ∷ []) ≡ false ∷ true ∷ true ∷ false ∷ []
cells_of_its_locals = refl
