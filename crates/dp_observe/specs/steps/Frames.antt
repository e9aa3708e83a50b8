-- Where a run stands in a region, and from where a load's value came.
use Rattle.std.specs.Prelude.{ℕ, ◌+◌, ◌-◌, ◌*◌, ◌==◌, if◌then◌else◌, ◌&&◌, Bool, false, not, nat_le, List, [], count_by, Option, Some, None}
use Rattle.dp_base.specs.Arithmetic.{is_zero}
use Rattle.dp_room.specs.OneIf.{one_if}
use Rattle.dp_meaning.specs.declared.sight.Effect.{Effect}
use Rattle.dp_meaning.specs.declared.sight.Effect.TheVariants.{Stored, Printed, Decided, Tried}
use Rattle.dp_profile.specs.declared.SiteCount.{SiteCount}
use Rattle.dp_observe.specs.declared.frame.Frame.{Frame}
use Rattle.dp_observe.specs.declared.frame.Writer.{Writer}
use Rattle.dp_observe.specs.declared.sparse.Sparse.{Sparse}
use Rattle.dp_observe.specs.declared.tally.Tally.{Tally}
use Rattle.dp_observe.specs.Sparse.{at}

-- nobody has stored
abbrev pub nobody : Writer
nobody = record { site = record { 0 = 0 }; after = 0 }

-- a number that is kept where the evaluation before was one of the region's
abbrev pub kept : Frame → ℕ → ℕ → ℕ
kept f after n = if f.last == after - 1 then n else after - 1

-- after an evaluation of this site
abbrev pub frame_after : Frame → ℕ → ℕ → Frame
frame_after f site after =
    record { first = f.first; since = kept f after f.since; begun = if f.first.0 == site then after - 1 else kept f after f.begun; last = after }

-- the column of a store of this site, of an earlier iteration or not
abbrev pub column : Frame → ℕ → Bool → ℕ
column f site carried = 2 * (site - f.first.0) + one_if carried

-- that of the store that a load reads
abbrev pub column_of : Frame → Writer → Bool → Option ℕ
column_of f w local =
    if nat_le w.after f.since then None else (if nat_le w.after f.begun && local then None else Some (column f w.site.0 (nat_le w.after f.begun)))

abbrev pub hits : Option ℕ → ℕ → Bool
hits None k = false
hits (Some c) k = c == k

-- how many of these cells' loads read a store of this column
abbrev pub loads_at : Frame → Sparse Writer → Sparse Bool → ℕ → List ℕ → ℕ
loads_at f writers locals k cells = count_by (λ c. hits (column_of f (at writers c) (at locals c)) k) cells

-- nothing was counted
abbrev pub blank : Tally
blank = record { count = record { runs = 0; nonzero = 0 }; shown = [] }

-- a condition that gave another value than 0
abbrev pub is_nonzero : Effect → Bool
is_nonzero (Decided value) = not (is_zero value)
is_nonzero (Tried value) = not (is_zero value)
is_nonzero (Stored cell value) = false
is_nonzero (Printed value) = false

-- one evaluation more
abbrev pub counted : SiteCount → Effect → SiteCount
counted c effect = record { runs = c.runs + 1; nonzero = c.nonzero + one_if (is_nonzero effect) }
