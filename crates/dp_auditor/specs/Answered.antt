-- What an audit answers.
use Rattle.std.specs.Prelude.{◌≡◌, ℕ, List}
use Rattle.dp_log.specs.Compared.{DifferFirst}
use Rattle.dp_auditor.specs.declared.AuditEnd.{AuditEnd}
use Rattle.dp_auditor.specs.declared.AuditEnd.TheVariants.{Same, Differs}

-- The log is the text, or this is the first line that isn't the same in both.
abbrev pub Answers : List ℕ → List ℕ → AuditEnd → Type 0
Answers log text Same = log ≡ text
Answers log text (Differs line) = DifferFirst log text line
