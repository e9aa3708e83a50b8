-- What a program's text is read as: a program to run, or a refusal.
use Rattle.std.specs.Prelude.{◌≡◌, ℕ, ◌+◌, ◌<◌, ◌≤◌, List, length, Result, Ok, Err}
use Rattle.dp_base.specs.declared.Quantity.{Quantity}
use Rattle.dp_base.specs.declared.Quantity.TheVariants.{ProgramBytes}
use Rattle.dp_base.specs.declared.limits.TheConstants.{PROGRAM_BYTES}
use Rattle.dp_lex.specs.Tokens.{RefusedAt}
use Rattle.dp_tree.specs.declared.Program.{Program}
use Rattle.dp_tree.specs.declared.raw.RawProgram.{RawProgram}
use Rattle.dp_parse.specs.Parses.{ParsesAs, NestsTooDeep, DerivesNothing}
use Rattle.dp_check.specs.declared.fail.CheckFail.{CheckFail}
use Rattle.dp_check.specs.declared.fail.CheckFail.TheVariants as check
use Rattle.dp_check.specs.CheckAnswer.{check_answer}
use Rattle.dp_calls.specs.Expand.{expand}
use Rattle.dp_inline.specs.declared.fail.InlineFail.{InlineFail}
use Rattle.dp_inline.specs.declared.fail.InlineFail.TheVariants as inline
use Rattle.dp_inline.specs.InlineAnswer.{inline_answer}
use Rattle.dp_refusal.specs.declared.offence.Offence.TheVariants as offence
use Rattle.dp_refusal.specs.declared.refusal.Refusal.{Refusal}
use Rattle.dp_refusal.specs.declared.refusal.Refusal.TheVariants.{Byte, Syntax, Name, Limit}

-- the refusal of a tree whose names offend, or that has too many functions or cells; want of memory is none, and no run shows
-- what stands for it here
abbrev pub refusal_of : CheckFail → Refusal
refusal_of (check.Unknown line) = Name offence.Unknown line
refusal_of (check.Twice line) = Name offence.Twice line
refusal_of (check.NotArray line) = Name offence.NotArray line
refusal_of (check.NotScalar line) = Name offence.NotScalar line
refusal_of (check.Arguments line) = Name offence.Arguments line
refusal_of (check.ReadOnly line) = Name offence.ReadOnly line
refusal_of (check.Limit quantity count) = Limit quantity count
refusal_of check.NoMemory = Syntax 0

-- the refusal of a program that is too large with its calls expanded; of memory, as above
abbrev pub size_refusal : InlineFail → Refusal
size_refusal (inline.Limit quantity count) = Limit quantity count
size_refusal inline.NoMemory = Syntax 0

-- the program, unless it is too large with its calls expanded
abbrev pub sized : Program → Result Program InlineFail → Result Program Refusal
sized p (Ok q) = Ok p
sized p (Err fail) = Err (size_refusal fail)

-- what a tree is read as
abbrev pub checked_read : Result Program CheckFail → Result Program Refusal
checked_read (Ok p) = sized p (inline_answer p)
checked_read (Err fail) = Err (refusal_of fail)

-- The text is read as this program, or refused for the first of the causes that stands, in their order:
-- its length, a place where no token begins, a depth, the grammar, a name or a count, a size.
pub data Reads (text : List ℕ) : Result Program Refusal → Type 0 where
  TooLong : PROGRAM_BYTES < length text → Reads text (Err (Limit ProgramBytes (PROGRAM_BYTES + 1)))
  NoToken : (place : ℕ) → length text ≤ PROGRAM_BYTES → RefusedAt text place → Reads text (Err (Byte place))
  TooDeep : (quantity : Quantity) (count : ℕ) → length text ≤ PROGRAM_BYTES → NestsTooDeep text quantity count → Reads text (Err (Limit quantity count))
  NoTree : (token : ℕ) → length text ≤ PROGRAM_BYTES → DerivesNothing text token → Reads text (Err (Syntax token))
  Checked : (raw : RawProgram) → length text ≤ PROGRAM_BYTES → ParsesAs text raw → Reads text (checked_read (check_answer raw))

-- what is run: the program with its calls expanded
abbrev pub expanded : Result Program Refusal → Result Program Refusal
expanded (Ok p) = Ok (expand p)
expanded (Err refusal) = Err refusal

-- a program that is read so has this expansion, or it is refused so
pub record Expands (Read : Result Program Refusal → Type 0) (read : Result Program Refusal) : Type 0 where
  pub source : Result Program Refusal
  pub reads : Read source
  pub is : read ≡ expanded source

-- what is run for the text, or its refusal
abbrev pub ReadsAs : List ℕ → Result Program Refusal → Type 0
ReadsAs text = Expands (Reads text)
