-- What a text of a checkpoint that is read line by line is read as.
use Rattle.std.proofs.Common.{◌≡◌, ℕ, zero, suc, ◌+◌, ◌<◌, ◌≤◌, ◌==◌, Bool, true, false, List, [], ◌∷◌, ◌++◌, map, length, ℤ, Option, Some, None, refl, sym, ap}
use Rattle.std.proofs.Common.{subst, ◌∙◌, arith}
use Rattle.std.specs.Prelude.{if◌then◌else◌}
use Rattle.std.proofs.lemmas.List.{map-append}
use Rattle.dp_base.specs.declared.RegionReport.{RegionReport}
use Rattle.dp_tree.specs.declared.Program.{Program}
use Rattle.dp_tree.specs.declared.RegionInfo.{RegionInfo}
use Rattle.dp_text.specs.declared.lines.Reading.{Reading}
use Rattle.dp_text.specs.declared.lines.Reading.TheVariants as reading
use Rattle.dp_text.specs.Lines.{lines_of, chomped, after_line, go_on, read_from}
use Rattle.dp_text.specs.Pieces.{onto_first}
use Rattle.dp_text.specs.Refused.{IsRefusedAt, at_line, at_end}
use Rattle.dp_text.proofs.Runs.{Grammar, run_bytes, run_bytes-lines}
use Rattle.dp_text.proofs.SoFar.{AreRead, Texts, are_read, next_text}
use Rattle.dp_save.specs.declared.Checkpoint.{Checkpoint}
use Rattle.dp_save.specs.declared.line.Place.{Place}
use Rattle.dp_save.specs.declared.reader.Reader.{Reader}
use Rattle.dp_save.specs.declared.reader.Phase.{Phase}
use Rattle.dp_save.specs.declared.reader.Phase.TheVariants as phase
use Rattle.dp_save.specs.CheckpointText.{CheckpointLines, WriteAll, checkpoint_lines, line_bytes, report_words}
use Rattle.dp_save.specs.Fits.{Fits}
use Rattle.dp_save.specs.Refused.{IsCheckpoint, ReadsAsCheckpoint, RefusedBy}
use Rattle.dp_save.specs.steps.Ending.{finished}
use Rattle.dp_save.specs.steps.LineWords.{Line, Head, At, Cells, Report, End, line_of}
use Rattle.dp_save.specs.steps.Reading.{begun, is_over, next, next_by, state, stopped}
use Rattle.dp_save.proofs.LineLemmas.{LineFits, are_words, line-words, line_sound, words_of}
use Rattle.dp_save.proofs.RunComplete.{Ends, lines_run, reads_end, whole_fits}
use Rattle.dp_save.proofs.RunSound.{Reads, at_start, headed, placed_at, holding, at_end, reads_next, whole}

pub no_line : (p : Program) (s : Reader) → next_by p s None ≡ None
unfolding next_by
no_line p s = refl

-- the lines of a checkpoint of this program
abbrev pub checkpoint_grammar : Program → Grammar Line Reader
checkpoint_grammar p = record {
  words_of = words_of;
  Fits = LineFits;
  line_of = line_of;
  are_words = are_words;
  line_back = line-words;
  sound = line_sound;
  begun = begun;
  next_by = next_by p;
  no_line = no_line p;
  Reads = Reads p;
  reads_start = at_start;
  reads_next = reads_next p;
}

-- a line as bytes
abbrev pub bytes_of : Line → List ℕ
bytes_of l = line_bytes (words_of l)

reports_bytes : (reports : List RegionReport) → map bytes_of (map Report reports) ≡ map line_bytes (map report_words reports)
reports_bytes [] = refl
reports_bytes (r ∷ reports) = ap (λ (bs : List (List ℕ)). line_bytes (report_words r) ∷ bs) (reports_bytes reports)

pub whole_bytes : (place : Place) (written : List (List ℕ)) (cells : List ℤ) (reports : List RegionReport) →
    map bytes_of (whole place written cells reports) ≡ map line_bytes (checkpoint_lines (stopped place cells reports) written)
whole_bytes place written cells reports =
    ap (λ (bs : List (List ℕ)). bytes_of Head ∷ bytes_of (At place) ∷ bytes_of (Cells written cells) ∷ bs)
    (map-append bytes_of (map Report reports) (End ∷ [])
    ∙ ap (λ (bs : List (List ℕ)). bs ++ bytes_of End ∷ []) (reports_bytes reports)
    ∙ sym (map-append line_bytes (map report_words reports) (words_of End ∷ [])))

-- the place of a checkpoint
abbrev pub place_in : Checkpoint → Place
place_in c = record { region = c.region; after = c.after; steps = c.steps; fuel = c.fuel }

over_phase : (at : Phase) → is_over at ≡ true → at ≡ phase.Over
over_phase phase.Start h = absurd (cc h)
over_phase phase.Headed h = absurd (cc h)
over_phase phase.Placed h = absurd (cc h)
over_phase phase.Held h = absurd (cc h)
over_phase phase.Over h = refl

pub record IsText (p : Program) (c : Checkpoint) (ls : List Line) : Type 0 where
  pub written : List (List ℕ)
  pub write : WriteAll written c.cells
  pub are : map bytes_of ls ≡ map line_bytes (checkpoint_lines c written)
  pub fits : Fits p c

reads_over : (p : Program) (s : Reader) (ls : List Line) → Reads p s ls → s.phase ≡ phase.Over → IsText p s.so_far ls
reads_over p _ _ (at_end place written cells reports w f) h = record { written = written; write = w; are = whole_bytes place written cells reports; fits = f }
reads_over p _ _ at_start h = absurd (cc h)
reads_over p _ _ headed h = absurd (cc h)
reads_over p _ _ (placed_at place f) h = absurd (cc h)
reads_over p _ _ (holding place written cells reports f w c rs few) h = absurd (cc h)

module _ (p : Program) where
  -- the lines of a text of the grammar are read to their end
  pub text_runs : (lines : List (List ℕ)) (c : Checkpoint) → CheckpointLines p lines c → run_bytes (checkpoint_grammar p) (Some begun) lines ≡ Some
      (state phase.Over c)
  unfolding next_by
  text_runs lines c t =
      let g = checkpoint_grammar p in
      ap (run_bytes g (Some begun)) (t.lines_are ∙ sym (whole_bytes (place_in c) t.written c.cells c.reports))
      ∙ run_bytes-lines g (Some begun) (whole (place_in c) t.written c.cells c.reports) (whole_fits p (place_in c) t.written c.cells c.reports t.write t.fits)
      ∙ lines_run p (place_in c) t.written c.cells c.reports t.fits

  module _ (some : 0 < length p.regions) where
    reads_on : (s : Reader) (ls : List Line) → Reads p s ls → (more : List Line) × IsCheckpoint p (map bytes_of (ls ++ more))
    reads_on s ls r =
        let e : Ends p ls = reads_end p some s ls r in (
          e.more,
          (
            stopped e.place e.cells e.reports,
            record {
              written = e.written;
              write = e.write;
              lines_are = ap (map
                  bytes_of) e.are ∙ whole_bytes e.place e.written e.cells e.reports;
              fits = e.fits;
            },
          ),
        )

    checkpoint_texts : Texts (checkpoint_grammar p) (IsCheckpoint p) (λ s. is_over s.phase)
    checkpoint_texts = record {
      runs_over = λ ls t. (state phase.Over t.0, text_runs ls t.0 t.1, refl);
      reads_on = reads_on;
    }

-- ---- what it is read as

abbrev pub read_by : Program → List ℕ → Reading Reader
read_by p bytes = read_from (next_text (checkpoint_grammar p)) (λ s. is_over s.phase) 1 begun (lines_of bytes)

-- the refusal is as it should be, and its line has 32 bits
abbrev pub ReadsRightly : Program → List ℕ → Reading Reader → Type 0
ReadsRightly p bytes (reading.Over s) = CheckpointLines p (lines_of bytes) s.so_far
ReadsRightly p bytes (reading.Refused line) = RefusedBy p.regions (IsCheckpoint p) (lines_of bytes) line × line ≤ length bytes + 1

first_some : (byte : ℕ) (lines : List (List ℕ)) (n : ℕ) → length lines ≤ n → length (onto_first byte lines) ≤ suc n
first_some byte [] n h = omega arith
first_some byte (line ∷ lines) n h = omega (arith, h)

few_case : (byte : ℕ) (lines : List (List ℕ)) (n : ℕ) (is : Bool) → length lines ≤ n →
    length (if is then (byte ∷ []) ∷ lines else onto_first byte lines) ≤ suc n
few_case byte lines n true h = omega (arith, h)
few_case byte lines n false h = first_some byte lines n h

pub few_lines : (bytes : List ℕ) → length (lines_of bytes) ≤ length bytes
few_lines [] = omega arith
few_lines (byte ∷ rest) = few_case byte (lines_of rest) (length rest) (byte == 10) (few_lines rest)

refused_within : (IsIt : List (List ℕ) → Type 0) (lines : List (List ℕ)) (line : ℕ) → IsRefusedAt IsIt lines line → line ≤ length lines + 1
refused_within IsIt lines _ (at_line line low high before here) = omega (arith, high)
refused_within IsIt lines _ (at_end line is before none) = omega (arith, is)

refused_by : (regions : List RegionInfo) (IsIt : List (List ℕ) → Type 0) (lines : List (List ℕ)) (line : ℕ) → 0 < length regions → IsRefusedAt IsIt lines line →
    RefusedBy regions IsIt lines line
refused_by [] IsIt lines line some h = absurd (omega (arith, some))
refused_by (r ∷ rest) IsIt lines line some h = h

some_read : (p : Program) (some : 0 < length p.regions) (bytes : List ℕ) (r : Reading Reader) → AreRead (checkpoint_texts p some) (lines_of bytes) r →
    ReadsRightly p bytes r
some_read p some bytes (reading.Over s) e =
    let t : IsText p s.so_far e.0.lines = reads_over p s e.0.lines e.0.reads (over_phase s.phase e.1) in
    record { written = t.written; write = t.write; lines_are = e.0.are ∙ t.are; fits = t.fits }
some_read p some bytes (reading.Refused line) e = (
  refused_by p.regions (IsCheckpoint p) (lines_of bytes) line some e,
  omega (
    arith,
    refused_within (IsCheckpoint p) (lines_of
        bytes) line e,
    few_lines bytes,
  ),
)

-- ---- without a region

none_begins : (p : Program) → length p.regions ≡ 0 → (o : Option Line) → next_by p begun o ≡ None
unfolding next next_by
none_begins p none None = refl
none_begins p none (Some Head) = rw none refl
none_begins p none (Some (At place)) = refl
none_begins p none (Some (Cells words values)) = refl
none_begins p none (Some (Report r)) = refl
none_begins p none (Some End) = refl

none_after : (p : Program) → length p.regions ≡ 0 → (o : Option (List ℕ)) → after_line (next_text (checkpoint_grammar p)) begun o ≡ None
none_after p none None = refl
none_after p none (Some text) = none_begins p none (line_of (Rattle.dp_text.specs.Words.words text))

none_read : (p : Program) → length p.regions ≡ 0 → (lines : List (List ℕ)) → read_from (next_text (checkpoint_grammar p)) (λ s. is_over s.phase) 1 begun
    lines ≡ reading.Refused 1
none_read p none [] = refl
none_read p none (line ∷ rest) =
    ap (λ (o : Option Reader). go_on 1 o (λ later. read_from (next_text (checkpoint_grammar p)) (λ s. is_over s.phase) (1 + 1) later rest))
    (none_after p none (chomped line))

refused_first : (regions : List RegionInfo) (IsIt : List (List ℕ) → Type 0) (lines : List (List ℕ)) → length regions ≡ 0 → RefusedBy regions IsIt lines 1
refused_first [] IsIt lines h = refl
refused_first (r ∷ rest) IsIt lines h = absurd (cc h)

-- what a text is read as, line by line
text_case : (p : Program) (bytes : List ℕ) (n : ℕ) → length p.regions ≡ n → ReadsRightly p bytes (read_by p bytes)
text_case p bytes zero none =
    subst (ReadsRightly p bytes) (sym (none_read p none (lines_of bytes))) (refused_first p.regions (IsCheckpoint p) (lines_of bytes) none, omega arith)
text_case p bytes (suc n) some =
    let enough : 0 < length p.regions = omega (arith, some) in
    some_read p enough bytes (read_by p bytes) (are_read (checkpoint_texts p enough) bytes)

pub text_read : (p : Program) (bytes : List ℕ) → ReadsRightly p bytes (read_by p bytes)
text_read p bytes = text_case p bytes (length p.regions) refl

finishes : (p : Program) (bytes : List ℕ) (r : Reading Reader) → ReadsRightly p bytes r → ReadsAsCheckpoint p bytes (finished r)
finishes p bytes (reading.Over s) h = h
finishes p bytes (reading.Refused line) h = h.0

pub reads_as : (p : Program) (bytes : List ℕ) → ReadsAsCheckpoint p bytes (finished (read_by p bytes))
reads_as p bytes = finishes p bytes (read_by p bytes) (text_read p bytes)

numbered_case : (p : Program) (bytes : List ℕ) (r : Reading Reader) (line : ℕ) → ReadsRightly p bytes r → r ≡ reading.Refused line → line ≤ length bytes + 1
numbered_case p bytes (reading.Over s) line h e = absurd (cc e)
numbered_case p bytes (reading.Refused other) line h e = let is : other ≡ line = cc e in omega (arith, h.1, is)

pub numbered : (p : Program) (bytes : List ℕ) (line : ℕ) → read_by p bytes ≡ reading.Refused line → line ≤ length bytes + 1
numbered p bytes line e = numbered_case p bytes (read_by p bytes) line (text_read p bytes) e
