use Rattle.std.proofs.Common.{◌≡◌, ℕ, ◌+◌, ◌<◌, ◌≤◌, length, Result, sym, ap, subst, ◌∙◌, arith}
use Rattle.dp_text.specs.declared.lines.Reading.{Reading}
use Rattle.dp_text.specs.declared.lines.Reading.TheVariants as reading
use Rattle.dp_text.specs.Lines.{lines_of, read_from}
use Rattle.dp_text.proofs.SoFar.{next_text}
use Rattle.dp_save.specs.declared.Checkpoint.{Checkpoint}
use Rattle.dp_save.specs.declared.CheckpointFail.{CheckpointFail}
use Rattle.dp_save.specs.declared.reader.Reader.{Reader}
use Rattle.dp_save.specs.Refused.{ReadsAsCheckpoint}
use Rattle.dp_save.specs.steps.Ending.{finished}
use Rattle.dp_save.specs.steps.Reading.{is_over}
use Rattle.dp_save.proofs.TextLemmas.{checkpoint_grammar, numbered, read_by, reads_as}
use Rattle.dp_save.proofs.read.read_checkpoint.Goals as goal

pub finished-requires : goal.finished-requires
finished-requires c =
    let same : c.in_ok-reading.reading ≡ read_by c.args.p.now c.args.bytes.now =
    c.in_ok-reading.ensures ∙ ap (λ (s : Reader). read_from (next_text (checkpoint_grammar c.args.p.now)) (λ r. is_over r.phase) 1 s
    (lines_of c.args.bytes.now)) c.new.ensures in
    record {
      numbered = λ line e. let low : line ≤ length c.args.bytes.now + 1 = numbered c.args.p.now c.args.bytes.now line (sym same
          ∙ e) in omega (arith, low, c.requires.bytes);
    }

pub returns : goal.returns
returns c =
    let p = c.args.p.now in let bytes = c.args.bytes.now in
    let same : c.in_ok-reading.reading ≡ read_by c.args.p.now c.args.bytes.now =
    c.in_ok-reading.ensures ∙ ap (λ (s : Reader). read_from (next_text (checkpoint_grammar c.args.p.now)) (λ r. is_over r.phase) 1 s
    (lines_of c.args.bytes.now)) c.new.ensures in
    subst (λ (r : Result Checkpoint CheckpointFail). ReadsAsCheckpoint p bytes r)
    (sym (c.finished.ensures ∙ ap (λ (r : Reading Reader). finished r) same)) (reads_as p bytes)
