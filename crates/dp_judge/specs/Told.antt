-- What a verdict tells.
use Rattle.std.specs.Prelude.{◌≡◌, Bool, false, not}
use Rattle.dp_base.specs.declared.Cause.{Cause}
use Rattle.dp_semantics.specs.EpochKey.{EpochKey}
use Rattle.dp_semantics.specs.EpochVerdicts.{Verdict as Decided, Commit, Again}
use Rattle.dp_net.specs.NetVerdicts.{SaysTheSame}
use Rattle.dp_judge.specs.declared.verdict.Verdict.{Verdict}
use Rattle.dp_judge.specs.declared.verdict.Verdict.TheVariants.{Clean, Unclean, NoMemory}

-- The verdict is what is decided in this epoch: to commit what it carries, or what leads to the same memory with the same prints,
-- steps and end; or to execute again for a cause, which it doesn't tell; or memory was wanting.
abbrev pub SaysDecided : EpochKey → Verdict → Decided → Type 0
SaysDecided key (Clean v) decided = SaysTheSame key decided (Commit v)
SaysDecided key Unclean decided = (cause : Cause) × (Again cause ≡ decided)
SaysDecided key NoMemory decided = Unit {0}

-- the epoch goes on behind it
abbrev pub goes_on_behind : Verdict → Bool
goes_on_behind (Clean v) = not v.closing
goes_on_behind Unclean = false
goes_on_behind NoMemory = false
