-- What an iteration's end means for its lines and for what is kept.
use Rattle.std.specs.Prelude.{ℕ, Bool, true, if◌then◌else◌, is_some, Option, Some, None}
use Rattle.dp_base.specs.declared.Cause.{Cause}
use Rattle.dp_base.specs.declared.End.TheVariants as how
use Rattle.dp_meaning.specs.declared.ends.IterEnd.{IterEnd}
use Rattle.dp_meaning.specs.declared.ends.IterEnd.TheVariants.{Next, Closed, Fault, Fuel, Going}
use Rattle.dp_view.specs.Viewed.{Viewed, next_in_epoch, anew}
use Rattle.dp_auditor.specs.declared.iterations.After.{After}
use Rattle.dp_auditor.specs.declared.iterations.After.TheVariants.{Left, Ends, Differs}

-- what comes behind an iteration that ended so, where none follows it, and whether it is executed again: where something of it failed, or it hasn't ended
abbrev pub last_of : IterEnd → Option Cause → After × Bool
last_of Closed found = (Left, is_some found)
last_of (Fault fault) found = (Ends (how.Fault fault), true)
last_of Next found = (Ends how.Fuel, true)
last_of Fuel found = (Ends how.Fuel, true)
last_of Going found = (Ends how.Fuel, true)

-- what comes behind lines of which this one differs, if one does
abbrev pub unless_differs : Option ℕ → After → After
unless_differs None after = after
unless_differs (Some line) after = Differs line

-- .. of an iteration that another one follows
abbrev pub if_differs : Option ℕ → Option After
if_differs None = None
if_differs (Some line) = Some (Differs line)

-- what is kept where the next iteration begins
abbrev pub begun_next : Bool → Viewed → Viewed
begun_next again v = if again then anew v else next_in_epoch v
