-- What a stage sees of the source's own stores.
use Rattle.std.specs.Prelude.{ℕ, if◌then◌else◌, unwrap_or, Option, Some, None, ◌==◌, Bool, not, ◌&&◌, ◌||◌, List, [], ◌∷◌, ℤ, pos, get_or, nat_lt}
use Rattle.std.specs.List.{list_any}
use Rattle.dp_tree.specs.declared.VarInfo.{VarInfo}
use Rattle.dp_tree.specs.declared.Program.{Program}
use Rattle.dp_plan.specs.declared.Plan.{Plan}
use Rattle.dp_tree.specs.Step.{Event, Effect, Stored, Printed, Decided, Tried, is_local_of}
use Rattle.dp_plan.specs.Access.{stage_of, is_replicated}

-- an event of the source's trace, and the iteration in which it happened
pub record Past : Type 0 where
  pub iteration : ℕ
  pub event : Event

-- the variable is a body local of region r, and c is its first cell
abbrev pub is_local_cell : ℕ → ℕ → VarInfo → Bool
is_local_cell r c x = is_local_of r x.scope && (x.first.0 == c)

-- the cell is that of a body local of the plan's region
abbrev pub is_local_at : Program → Plan → ℕ → Bool
is_local_at p plan c = list_any (is_local_cell plan.region c) p.vars

-- Stage s in iteration i sees a store into cell c that stage t makes in iteration j where t is an earlier stage,
-- or t is s and either s is sequential or the iteration is the same. Of a body local it sees this iteration's stores alone.
abbrev pub is_covered : Program → Plan → ℕ → ℕ → ℕ → ℕ → ℕ → Bool
is_covered p plan s i t j c =
    (nat_lt t s || ((t == s) && (not (is_replicated plan s) || (j == i)))) && (not (is_local_at p plan c) || (j == i))

-- the value that an effect stores into cell c, where such a store is seen
abbrev pub stored_in : Bool → ℕ → Effect → Option ℤ
stored_in sees c (Stored d value) = if (d == c) && sees then Some value else None
stored_in sees c (Printed value) = None
stored_in sees c (Decided value) = None
stored_in sees c (Tried value) = None

-- the value that the event stores into cell c, where stage s in iteration i sees it
abbrev pub covered_value : Program → Plan → ℕ → ℕ → ℕ → Past → Option ℤ
covered_value p plan s i c past = stored_in (is_covered p plan s i (stage_of p plan past.event.site) past.iteration c) c past.event.effect

-- The value of cell c as stage s in iteration i sees it after these events, the latest first:
-- that of the last store that it sees, or else the base's.
abbrev pub seen : Program → Plan → List ℤ → ℕ → ℕ → List Past → ℕ → ℤ
seen p plan base s i [] c = get_or base c (pos 0)
seen p plan base s i (past ∷ earlier) c = unwrap_or (covered_value p plan s i c past) (seen p plan base s i earlier c)
