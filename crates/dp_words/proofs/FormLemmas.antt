-- What the values of a verb's command ask for.
use Rattle.std.proofs.Common.{◌≡◌, ℕ, List, codes}
use Rattle.dp_words.specs.Words.{Asked, ToAudit, ToBatch, ToResume, ToSave}
use Rattle.dp_words.specs.Values.{Values}
use Rattle.dp_words.specs.Run.{RunAsked, ShowsNamed}
use Rattle.dp_words.specs.Saving.{ShowsSaving}
use Rattle.dp_words.specs.declared.task.Place.{Place}
use Rattle.dp_words.specs.declared.verb.Verb.TheVariants as verb
use Rattle.dp_words.specs.steps.Verbs.{Shows, verb_for}

-- what a verb asks for is of one form
module _ (value : Values) where
  pub no_audit : ((x : RunAsked × List ℕ) → ¬ ShowsNamed (codes "log") value x) → (asked : Asked) → verb_for asked ≡ verb.Audit → ¬ Shows value asked
  no_audit none (ToAudit run log) e h = none (run, log) h
  no_audit none asked e h = absurd (cc e)

  pub no_save : ((x : RunAsked × Place) → ¬ ShowsSaving value x) → (asked : Asked) → verb_for asked ≡ verb.Save → ¬ Shows value asked
  no_save none (ToSave run place) e h = none (run, place) h
  no_save none asked e h = absurd (cc e)

  pub no_resume : ((x : RunAsked × List ℕ) → ¬ ShowsNamed (codes "checkpoint") value x) → (asked : Asked) → verb_for asked ≡ verb.Resume → ¬ Shows value asked
  no_resume none (ToResume run checkpoint) e h = none (run, checkpoint) h
  no_resume none asked e h = absurd (cc e)

  pub no_batch : ((x : RunAsked × List ℕ) → ¬ ShowsNamed (codes "list") value x) → (asked : Asked) → verb_for asked ≡ verb.Batch → ¬ Shows value asked
  no_batch none (ToBatch run list) e h = none (run, list) h
  no_batch none asked e h = absurd (cc e)
