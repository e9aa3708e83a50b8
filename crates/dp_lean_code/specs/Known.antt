-- What a region's tables are to say, once for all stages.
use Rattle.std.specs.Prelude.{◌≡◌, ℕ, if◌then◌else◌, map, length, Option, Some, None}
use Rattle.dp_tree.specs.declared.Program.{Program}
use Rattle.dp_tree.specs.Numbering.{numbers_from}
use Rattle.dp_plan.specs.declared.Plan.{Plan}
use Rattle.dp_plan.specs.Access.{Access, region_accesses}
use Rattle.dp_semantics.specs.Judge.{last}
use Rattle.dp_net.specs.NetItems.{Marks}
use Rattle.dp_net.specs.Hidden.{home, is_private, marks_of, pays_off}
use Rattle.dp_lean.specs.Needed.{is_done_to}
use Rattle.dp_lean_code.specs.declared.tables.LeanTables.{LeanTables}

-- the blocks of the plan's region, where it pays to tell a run as one
abbrev pub paying_marks : Program → Plan → Marks
paying_marks p plan = marks_of p plan (pays_off p plan)

-- the home of a private variable
abbrev pub home_of : Program → Plan → ℕ → Option ℕ
home_of p plan x = if is_private p plan x then Some (home p plan x) else None

-- The tables tell of each site how many statements the block has that begins there,
-- of each stage, the judge's number included, and each variable whether a store to it is done, and of each variable the home, if it is private.
pub record AreTablesOf (p : Program) (plan : Plan) (tables : LeanTables) : Type 0 where
  pub blocks : tables.blocks ≡ map (λ (a : Access). length ((paying_marks p plan).block_at a.site)) (region_accesses p plan)
  pub done : tables.done ≡ map (λ (s : ℕ). map (is_done_to p plan s) (numbers_from 0 (length p.vars))) (numbers_from 1 (last plan))
  pub homes : tables.homes ≡ map (home_of p plan) (numbers_from 0 (length p.vars))
