-- Which lines may follow one another.
use Rattle.std.specs.Prelude.{ℕ, ◌+◌, ◌==◌, if◌then◌else◌, Bool, true, false, not, ◌&&◌, ◌||◌, nat_lt, List, [], ◌∷◌, ◌++◌, length, Option, Some, None}
use Rattle.dp_base.specs.declared.limits.TheConstants.{STAGES}
use Rattle.dp_tree.specs.declared.Assume.{Assume}
use Rattle.dp_plan_text.specs.declared.line.Line.{Line}
use Rattle.dp_plan_text.specs.declared.line.Line.TheVariants as line
use Rattle.dp_plan_text.specs.declared.reader.Reader.{Reader}
use Rattle.dp_plan_text.specs.declared.reader.Phase.{Phase}
use Rattle.dp_plan_text.specs.declared.reader.Phase.TheVariants as phase
use Rattle.dp_plan.specs.declared.WrittenStage.{WrittenStage}
use Rattle.dp_plan.specs.declared.WrittenPlan.{WrittenPlan}

-- no line yet
abbrev pub begun : Reader
begun = record { phase = phase.Start; proved = false; plans = []; last = record { region = 0; words = 0; stages = []; assume = [] } }

abbrev pub is_start : Phase → Bool
is_start phase.Start = true
is_start phase.Inside = false
is_start phase.Over = false

abbrev pub is_inside : Phase → Bool
is_inside phase.Start = false
is_inside phase.Inside = true
is_inside phase.Over = false

abbrev pub is_over : Phase → Bool
is_over phase.Start = false
is_over phase.Inside = false
is_over phase.Over = true

-- a region's line has been read
abbrev pub has_region : Reader → Bool
has_region s = is_inside s.phase && not (s.last.region == 0)

-- no region's line has been read, or the last region has a stage
abbrev pub is_between : Reader → Bool
is_between s = is_inside s.phase && ((s.last.region == 0) || nat_lt 0 (length s.last.stages))

-- the plans with that of the last region
abbrev pub closed : Reader → List WrittenPlan
closed s = if s.last.region == 0 then s.plans else (s.plans ++ s.last ∷ [])

abbrev pub with_stage : Reader → WrittenStage → Reader
with_stage s stage =
    record {
      phase = s.phase;
      proved = s.proved;
      plans = s.plans;
      last = record {
        region = s.last.region;
        words = s.last.words;
        stages = s.last.stages ++ stage ∷ [];
        assume = s.last.assume;
      };
    }

abbrev pub with_assume : Reader → Assume → Reader
with_assume s a = record {
  phase = s.phase;
  proved = s.proved;
  plans = s.plans;
  last = record {
    region = s.last.region;
    words = s.last.words;
    stages = s.last.stages;
    assume = s.last.assume ++ a ∷ [];
  };
}

abbrev pub with_region : Reader → ℕ → ℕ → Reader
with_region s r w = record { phase = phase.Inside; proved = s.proved; plans = closed s; last = record { region = r; words = w; stages = []; assume = [] } }

abbrev pub with_end : Reader → Reader
with_end s = record { phase = phase.Over; proved = s.proved; plans = closed s; last = record { region = 0; words = 0; stages = []; assume = [] } }

-- where these lines were read one more may be read, in a text for so many regions
unfoldable pub next : ℕ → Reader → Line → Option Reader
next n s (line.Head proved) = if is_start s.phase then Some (record s { phase = phase.Inside; proved = proved }) else None
next n s (line.Region r w) = if is_between s && (nat_lt s.last.region n && (r == s.last.region + 1)) then Some (with_region s r w) else None
next n s (line.Stage stage) =
    if has_region s && (nat_lt (length s.last.stages) STAGES && (length s.last.assume == 0)) then Some (with_stage s stage) else None
next n s (line.Assume a) = if has_region s && nat_lt 0 (length s.last.stages) then Some (with_assume s a) else None
next n s line.End = if is_between s && (s.last.region == n) then Some (with_end s) else None

-- the same of a line's words, if they are one
unfoldable pub next_by : ℕ → Reader → Option Line → Option Reader
next_by n s None = None
next_by n s (Some l) = next n s l
