-- What is told of a region while its iterations are counted, and what its stages see where causes are asked for.
use Rattle.std.specs.Prelude.{◌≡◌, ℕ, ◌+◌, ◌<◌, if◌then◌else◌, Bool, true, false, List, [], ◌∷◌, ◌++◌, length, ℤ, Option, Some, None, nat_lt}
use Rattle.std.specs.Option.{option_map}
use Rattle.dp_base.specs.declared.Cause.{Cause}
use Rattle.dp_base.specs.declared.End.{End}
use Rattle.dp_base.specs.declared.End.TheVariants as how
use Rattle.dp_base.specs.declared.RegionReport.{RegionReport}
use Rattle.dp_base.specs.declared.limits.TheConstants.{LISTED}
use Rattle.dp_tree.specs.declared.Program.{Program}
use Rattle.dp_plan.specs.declared.Plan.{Plan}
use Rattle.dp_semantics.specs.Reported.{report_of}
use Rattle.dp_meaning.specs.MachineState.{MachineState}
use Rattle.dp_commit.specs.CommittedState.{CommittedState}
use Rattle.dp_view.specs.Following.{found_or_end}
use Rattle.dp_view.specs.Heard.{Hears}
use Rattle.dp_view.specs.Viewed.{Viewed, anew, begun, next_in_epoch, settled}
use Rattle.dp_epoch.specs.declared.account.Account.{Account}
use Rattle.dp_epoch.specs.declared.ends.RegionEnd.{RegionEnd}
use Rattle.dp_epoch.specs.declared.ends.RegionEnd.TheVariants.{Closed, Fault, Fuel}

-- the report with its causes where they are asked for, and without them else
abbrev pub told_when : Bool → RegionReport → RegionReport
told_when true report = report
told_when false report = record report { causes = [] }

-- this report is told
abbrev pub Reports : Account → RegionReport → Type 0
Reports account whole = account.report ≡ told_when account.why whole

-- what is kept for causes, where they are asked for
abbrev pub views_when : Bool → Viewed → Option Viewed
views_when true v = Some v
views_when false v = None

-- where the plan's region begins with this memory
abbrev pub begun_account : Program → Plan → List ℤ → Bool → Account
begun_account p plan cells why = record {
  report = record { region = plan.region; iterations = 0; recovered_count = 0; recovered = []; causes = [] };
  why = why;
  views = views_when why (begun p plan cells);
}

-- what the stages see where the iteration behind a clean one begins
abbrev pub seen_clean : Viewed → Viewed
seen_clean v = next_in_epoch (settled v)

-- .. and where a new epoch begins behind one that was executed again
abbrev pub seen_again : Viewed → Viewed
seen_again v = anew (settled v)

-- behind a clean iteration, with which n were begun, and of which the stages saw this where it is kept
abbrev pub after_clean : ℕ → Option Viewed → Account → Account
after_clean n seen account = record { report = record account.report { iterations = n }; why = account.why; views = option_map seen_clean seen }

-- how the run ends where the re-execution of an iteration ended so
abbrev pub run_end : Option RegionEnd → End
run_end None = how.Done
run_end (Some Closed) = how.Done
run_end (Some (Fault fault)) = how.Fault fault
run_end (Some Fuel) = how.Fuel

-- the cause that is told of it, if what the stages see is kept
abbrev pub cause_told : Option Viewed → Option RegionEnd → Option Cause
cause_told None end = None
cause_told (Some v) end = Some (found_or_end v.found (run_end end))

-- these iterations were executed again before one with this cause: it is the one that is told, where causes are asked for and one more is listed
abbrev pub Explains : Bool → List ℕ → Option Cause → Cause → Type 0
Explains true again told cause = length again < LISTED → told ≡ Some cause
Explains false again told cause = told ≡ None

-- the cause in a list, if one is told
abbrev pub cause_listed : Option Cause → List Cause
cause_listed None = []
cause_listed (Some cause) = cause ∷ []

-- what is kept for causes, where so many iterations are listed
abbrev pub views_left : ℕ → Option Viewed → Option Viewed
views_left cause_listed views = if nat_lt cause_listed LISTED then views else None

-- The iteration of this number was counted, whose re-execution ended so.
pub record CountsAgain (number : ℕ) (end : Option RegionEnd) (old new : Account) : Type 0 where
  pub report : (region n : ℕ) (again : List ℕ) (cause_is : ℕ → Cause) → old.report ≡ told_when old.why (report_of region n again cause_is) →
      Explains old.why again (cause_told old.views end) (cause_is number) →
      new.report ≡ told_when new.why (report_of region (number + 1) (again ++ number ∷ []) cause_is)
  pub why : new.why ≡ old.why
  pub views : new.views ≡ views_left (length new.report.recovered) (option_map seen_again old.views)

-- what the stages see followed the steps from one machine to the other, where it is kept
abbrev pub HearsOn : MachineState → MachineState → Option Viewed → Option Viewed → Type 0
HearsOn old new None None = Unit {0}
HearsOn old new None (Some w) = ⊥
HearsOn old new (Some v) None = ⊥
HearsOn old new (Some v) (Some w) = Hears old new v w

-- The clean iteration between these was counted, and the stages saw each of its steps where what they see is kept.
pub record CountsClean (old new : CommittedState) (before after : Account) : Type 0 where
  pub seen : Option Viewed
  pub heard : HearsOn old.machine new.machine before.views seen
  pub account : after ≡ after_clean new.count seen before
