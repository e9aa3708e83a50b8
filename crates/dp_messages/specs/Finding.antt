-- Why words were refused, found anew.
use Rattle.std.specs.Prelude.{◌≡◌, ◌<◌, ℕ, List, ℤ, Ok, Err}
use Rattle.dp_tree.specs.declared.Program.{Program}
use Rattle.dp_plan.specs.declared.Plan.{Plan}
use Rattle.dp_words.specs.declared.task.GenWords.{GenWords}
use Rattle.dp_words.specs.Words.{Asked, Asks, AsksNothing, ToMake}
use Rattle.dp_refusal.specs.declared.role.Role.{Role}
use Rattle.dp_refusal.specs.declared.refusal.Refusal.{Refusal}
use Rattle.dp_refusal.specs.declared.refusal.Refusal.TheVariants.{Words}
use Rattle.dp_load.specs.Last.{LastText}
use Rattle.dp_load.specs.Order.{ReadsAll}
use Rattle.dp_load.specs.Roles.{Contents}
use Rattle.dp_messages.specs.declared.reason.Finding.{Finding}
use Rattle.dp_messages.specs.declared.reason.Finding.TheVariants.{Refused, Unread, Nothing}

-- What is found is so, with the shelf's faults before and after: the refusal that the definitions give, a read that failed, or that nothing is refused.
pub data Finds (words : List (List ℕ)) (contents : Contents) (faults after : ℕ) : Finding → Type 0 where
  NotTaken : AsksNothing words → after ≡ faults → Finds words contents faults after (Refused Words)
  IsRefused : (asked : Asked) (refusal : Refusal) → Asks words asked → ReadsAll contents asked (Err refusal) → after ≡ faults →
      Finds words contents faults after (Refused refusal)
  IsUnread : (role : Role) → faults < after → Finds words contents faults after (Unread role)
  IsRead : (asked : Asked) (read : (((Program × List ℤ) × List (List ℤ)) × List Plan) × LastText) → Asks words asked → ReadsAll contents asked (Ok read) →
      after ≡ faults → Finds words contents faults after Nothing
  IsMade : (made : GenWords) → Asks words (ToMake made) → after ≡ faults → Finds words contents faults after Nothing
