-- From what the descent answers to what the grammar derives, and the place of a refusal.
use Rattle.std.proofs.Common.{◌≡◌, ℕ, ◌+◌, ◌-◌, ◌≤◌, ◌<◌, List, length, drop, Err, arith, refl, ◌∙◌, sym, None, Result, Ok}
use Rattle.std.proofs.lemmas.List.{length-drop}
use Rattle.dp_lex.specs.Token.{Lexeme}
use Rattle.dp_parse.specs.Rules.{Program}
use Rattle.dp_parse.specs.Begins.{Begins}
use Rattle.dp_parse.specs.Parses.{LeavesAt, Parses, Unread, Gives, outcome_of}
use Rattle.dp_parse.specs.steps.Programs as read
use Rattle.dp_parse.proofs.StuckPrograms.{program_stuck}
use Rattle.dp_parse.proofs.BeyondPrograms.{program_beyond}
use Rattle.dp_parse.proofs.Beyond.{begins_shorter}
use Rattle.dp_parse.proofs.Spans.{back_drop}
use Rattle.dp_parse.proofs.Fronts.{front}
use Rattle.dp_lex.specs.Characters.{Text}
use Rattle.dp_lex.specs.Tokens.{Tokens}
use Rattle.dp_tree.specs.declared.raw.RawProgram.{RawProgram}
use Rattle.dp_parse.specs.declared.fail.ParseFail.{ParseFail}
use Rattle.dp_parse.specs.declared.fail.ParseFail.TheVariants.{Lex, TooDeep, Refused, NoMemory}
use Rattle.dp_tokens.specs.declared.fail.PartFail.{PartFail}
use Rattle.dp_tokens.specs.declared.fail.PartFail.TheVariants as part
use Rattle.dp_parse.specs.Depth.{depth_fault}
use Rattle.dp_tokens.specs.Steps.{ReadsPart}
use Rattle.dp_parse.proofs.ProgramSound.{sound_program}
use Rattle.dp_parse.proofs.ProgramComplete.{reads_program}

not_begun : (tokens left : List Lexeme) (token : ℕ) → read.program tokens ≡ Err left → token ≡ length tokens - length left → token < length tokens →
    Begins Program tokens (drop (token + 1) tokens) → ⊥
not_begun tokens left token e same less b =
    let h : length left ≤ length (drop (token + 1) tokens) = rw e at (program_beyond tokens (drop (token + 1) tokens) b) in
    let k = length-drop (token + 1) tokens in let s = begins_shorter (program_stuck tokens left e) in
    omega arith

begun : (tokens left : List Lexeme) (token : ℕ) → read.program tokens ≡ Err left → token ≡ length tokens - length left → (k : ℕ) → k ≤ token →
    Begins Program tokens (drop k tokens)
begun tokens left token e same k le =
    let stuck = program_stuck tokens left e in let s = begins_shorter stuck in let d = length-drop k tokens in
    front stuck (drop k tokens) (back_drop k tokens) (omega arith)

pub leaves_at : (tokens left : List Lexeme) (n m : ℕ) → n ≡ length tokens → m ≡ length left → read.program tokens ≡ Err left → LeavesAt tokens (n - m)
leaves_at tokens left n m all rest e = record {
  within = omega arith;
  begins = begun tokens left (n - m) e (omega arith);
  leaves = not_begun tokens left (n - m) e (omega arith);
}

pub gives : (tokens left : List Lexeme) (n m : ℕ) (r : Result RawProgram PartFail) → n ≡ length tokens → m ≡ length left → depth_fault tokens ≡ None →
    ReadsPart (read.program tokens) r left → Gives tokens (outcome_of n m r)
gives tokens left n m (Ok program) all rest shallow h = (shallow, sound_program tokens left program h)
gives tokens left n m (Err part.Refused) all rest shallow h =
    (shallow, (λ program d. let clash = sym (reads_program tokens program d) ∙ h refl in cc clash), leaves_at tokens left n m all rest (h refl))
gives tokens left n m (Err part.NoMemory) all rest shallow h = tt

pub parses : (text : Text) (tokens : List Lexeme) (r : Result RawProgram ParseFail) → Tokens text tokens → Gives tokens r → Parses text r
parses text tokens (Ok program) t h = record { tokens = tokens; of_text = t; shallow = h.0; derives = h.1 }
parses text tokens (Err (Lex place)) t h = absurd h
parses text tokens (Err (TooDeep quantity count)) t h = record { tokens = tokens; of_text = t; deep = h }
parses text tokens (Err (Refused token)) t h = record { tokens = tokens; of_text = t; shallow = h.0; none = h.1; place = h.2 }
parses text tokens (Err NoMemory) t h = tt

pub unread : (text : Text) (e : ParseFail) → Unread text e → Parses text (Err e)
unread text (Lex place) h = h
unread text NoMemory h = tt
unread text _ h = absurd h
