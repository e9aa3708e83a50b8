-- Which lines may follow one another.
use Rattle.std.specs.Prelude.{ℕ, ◌-◌, ◌==◌, if◌then◌else◌, Bool, true, false, not, ◌&&◌, ◌||◌, nat_le, nat_lt, List, [], ◌∷◌, ◌++◌, length, ℤ, Option, Some}
use Rattle.std.specs.Prelude.{None, slice_get}
use Rattle.std.specs.List.{list_all}
use Rattle.dp_base.specs.Arithmetic.{is_zero}
use Rattle.dp_base.specs.declared.RegionReport.{RegionReport}
use Rattle.dp_tree.specs.declared.Program.{Program}
use Rattle.dp_tree.specs.declared.VarInfo.{VarInfo}
use Rattle.dp_tree.specs.Trace.{start_cells}
use Rattle.dp_save.specs.declared.Checkpoint.{Checkpoint}
use Rattle.dp_save.specs.declared.line.Place.{Place}
use Rattle.dp_save.specs.declared.reader.Reader.{Reader}
use Rattle.dp_save.specs.declared.reader.Phase.{Phase}
use Rattle.dp_save.specs.declared.reader.Phase.TheVariants as phase
use Rattle.dp_save.specs.Fits.{is_body_scope}
use Rattle.dp_save.specs.steps.LineWords.{Line, Head, At, Cells, Report, End}

abbrev pub state : Phase → Checkpoint → Reader
state at c = record { phase = at; so_far = c }

-- a checkpoint at this place
abbrev pub stopped : Place → List ℤ → List RegionReport → Checkpoint
stopped place cells reports = record { region = place.region; after = place.after; steps = place.steps; fuel = place.fuel; cells = cells; reports = reports }

-- no line yet
abbrev pub begun : Reader
begun = state phase.Start (stopped (record { region = 0; after = 0; steps = 0; fuel = 0 }) [] [])

abbrev pub is_start : Phase → Bool
is_start phase.Start = true
is_start phase.Headed = false
is_start phase.Placed = false
is_start phase.Held = false
is_start phase.Over = false

abbrev pub is_headed : Phase → Bool
is_headed phase.Start = false
is_headed phase.Headed = true
is_headed phase.Placed = false
is_headed phase.Held = false
is_headed phase.Over = false

abbrev pub is_placed : Phase → Bool
is_placed phase.Start = false
is_placed phase.Headed = false
is_placed phase.Placed = true
is_placed phase.Held = false
is_placed phase.Over = false

abbrev pub is_held : Phase → Bool
is_held phase.Start = false
is_held phase.Headed = false
is_held phase.Placed = false
is_held phase.Held = true
is_held phase.Over = false

abbrev pub is_over : Phase → Bool
is_over phase.Start = false
is_over phase.Headed = false
is_over phase.Placed = false
is_over phase.Held = false
is_over phase.Over = true

-- the region is one of the program, and the steps are within the fuel
abbrev pub place_fits : Program → Place → Bool
place_fits p place = nat_lt 0 place.region && (nat_le place.region (length p.regions) && nat_le place.steps place.fuel)

-- there is no other value than 0
abbrev pub is_zero_at : Option ℤ → Bool
is_zero_at None = true
is_zero_at (Some z) = is_zero z

-- a local of a region's body reads 0
abbrev pub rests : List ℤ → VarInfo → Bool
rests cells x = if is_body_scope x.scope then is_zero_at (slice_get cells x.first.0) else true

-- there is a value for each cell, and the locals of regions' bodies are 0
abbrev pub cells_fit : List VarInfo → List ℤ → Bool
cells_fit vars cells = (length (start_cells vars) == length cells) && list_all (rests cells) vars

-- the report is that of the next region up to the checkpoint's own
abbrev pub is_next : Checkpoint → RegionReport → Bool
is_next c r = nat_lt 0 r.region
    && ((length c.reports == r.region - 1) && (nat_le r.region c.region && (not (r.region == c.region) || (r.iterations == c.after))))

abbrev pub in_phase : Phase → Reader → Reader
in_phase at s = state at s.so_far

abbrev pub placed : Reader → Place → Reader
placed s place = state phase.Placed (stopped place s.so_far.cells s.so_far.reports)

abbrev pub with_cells : Checkpoint → List ℤ → Checkpoint
with_cells c cells = record { region = c.region; after = c.after; steps = c.steps; fuel = c.fuel; cells = cells; reports = c.reports }

abbrev pub with_report : Checkpoint → RegionReport → Checkpoint
with_report c r = record { region = c.region; after = c.after; steps = c.steps; fuel = c.fuel; cells = c.cells; reports = c.reports ++ r ∷ [] }

-- the state behind the line of the memory
abbrev pub cells_next : Program → Reader → List ℤ → Option Reader
cells_next p s cells = if is_placed s.phase && cells_fit p.vars cells then Some (state phase.Held (with_cells s.so_far cells)) else None

-- .. and behind that of a report
abbrev pub report_next : Reader → RegionReport → Option Reader
report_next s r = if is_held s.phase && is_next s.so_far r then Some (state phase.Held (with_report s.so_far r)) else None

-- where these lines were read one more may be read, in a text for this program
unfoldable pub next : Program → Reader → Line → Option Reader
next p s Head = if is_start s.phase && not (length p.regions == 0) then Some (in_phase phase.Headed s) else None
next p s (At place) = if is_headed s.phase && place_fits p place then Some (placed s place) else None
next p s (Cells words cells) = cells_next p s cells
next p s (Report r) = report_next s r
next p s End = if is_held s.phase && (length s.so_far.reports == s.so_far.region) then Some (in_phase phase.Over s) else None

-- the same of a line's words, if they are one
unfoldable pub next_by : Program → Reader → Option Line → Option Reader
next_by p s None = None
next_by p s (Some l) = next p s l
