-- A text is that of one checkpoint, so what is written of a checkpoint that fits is read back as this one and nothing else.
use Rattle.std.proofs.Common.{◌≡◌, inl, inr, refl, sym, ap, ◌∙◌, ℕ, ◌<◌, List, [], ◌∷◌, ◌++◌, map, length, arith, Some, Ok, Err}
use Rattle.std.specs.Fmt.{signed_decimal}
use Rattle.std.specs.List.{flat_map}
use Rattle.dp_tree.specs.declared.Program.{Program}
use Rattle.dp_tree.specs.declared.RegionInfo.{RegionInfo}
use Rattle.dp_text.specs.Lines.{lines_of}
use Rattle.dp_text.specs.Each.{Each}
use Rattle.dp_text.proofs.RefusedOnce.{unrefused}
use Rattle.dp_text.proofs.Unbroken.{lines_whole}
use Rattle.dp_save.specs.declared.Checkpoint.{Checkpoint}
use Rattle.dp_save.specs.declared.CheckpointFail.TheVariants.{Refused, NoMemory}
use Rattle.dp_save.specs.declared.reader.Reader.{Reader}
use Rattle.dp_save.specs.declared.reader.Phase.TheVariants as phase
use Rattle.dp_save.specs.CheckpointText.{CheckpointText, checkpoint_lines, line_bytes, report_words}
use Rattle.dp_save.specs.Fits.{Fits}
use Rattle.dp_save.specs.Refused.{IsCheckpoint, ReadsOnlyCheckpoint, RefusedBy}
use Rattle.dp_save.specs.WrittenText.{checkpoint_bytes}
use Rattle.dp_save.specs.steps.LineWords.{Line}
use Rattle.dp_save.specs.steps.Reading.{state}
use Rattle.dp_save.proofs.LineLemmas.{LineFits, are_words, words_of}
use Rattle.dp_save.proofs.RunComplete.{whole_fits}
use Rattle.dp_save.proofs.RunSound.{whole}
use Rattle.dp_save.proofs.TextLemmas.{bytes_of, place_in, text_runs, whole_bytes}
use Rattle.dp_save.proofs.ValueLemmas.{write_plainly}

-- ---- one checkpoint

module _ (p : Program) (bytes : List ℕ) where
  one_checkpoint : (c other : Checkpoint) → CheckpointText p bytes c → CheckpointText p bytes other → other ≡ c
  one_checkpoint c other s t =
      let same : Some (state phase.Over c) ≡ Some (state phase.Over other) = sym (text_runs p (lines_of bytes) c s) ∙ text_runs p (lines_of bytes) other t in
      let ends : state phase.Over c ≡ state phase.Over other = cc same in
      sym (ap (λ (r : Reader). r.so_far) ends)

  not_refused : (regions : List RegionInfo) (c : Checkpoint) (line : ℕ) → CheckpointText p bytes c → 0 < length regions →
      RefusedBy regions (IsCheckpoint p) (lines_of bytes) line → ⊥
  not_refused [] c line s some t = omega (arith, some)
  not_refused (r ∷ rest) c line s some t = unrefused (IsCheckpoint p) (lines_of bytes) line (c, s) t

  pub read_only : (c : Checkpoint) → CheckpointText p bytes c → ReadsOnlyCheckpoint p bytes c
  read_only c s (Ok other) t = inl (ap (λ (q : Checkpoint). Ok q) (one_checkpoint c other s t))
  read_only c s (Err (Refused line)) t = absurd (not_refused p.regions c line s (omega (arith, s.fits.place.some_region, s.fits.place.region_exists)) t)
  read_only c s (Err NoMemory) t = inr refl

-- ---- the text that is written

-- the text of lines, and of the words of lines
texts_are : (a : List Line) (b : List (List (List ℕ))) → map bytes_of a ≡ map line_bytes b → flat_map bytes_of a ≡ flat_map line_bytes b
texts_are [] [] e = refl
texts_are [] (x ∷ b) e = absurd (cc e)
texts_are (l ∷ a) [] e = absurd (cc e)
texts_are (l ∷ a) (x ∷ b) e =
    let first : bytes_of l ≡ line_bytes x = cc e in let rest : map bytes_of a ≡ map line_bytes b = cc e in
    ap (λ (t : List ℕ). t ++ flat_map bytes_of a) first ∙ ap (λ (t : List ℕ). line_bytes x ++ t) (texts_are a b rest)

module _ (p : Program) (c : Checkpoint) (fits : Fits p c) where
  pub read_back : CheckpointText p (checkpoint_bytes c) c
  unfolding checkpoint_bytes
  read_back =
      let ls = whole (place_in c) (map signed_decimal c.cells) c.cells c.reports in
      let same = whole_bytes (place_in c) (map signed_decimal c.cells) c.cells c.reports in
      record {
        written = map signed_decimal c.cells;
        write = write_plainly c.cells;
        lines_are =
            ap lines_of (sym (texts_are ls (checkpoint_lines c (map signed_decimal c.cells)) same))
            ∙ lines_whole words_of are_words ls (whole_fits p (place_in c) (map signed_decimal c.cells) c.cells c.reports (write_plainly c.cells) fits)
            ∙ same;
        fits = fits;
      }

pub written_back : (p : Program) (c : Checkpoint) → Fits p c → CheckpointText p (checkpoint_bytes c) c
written_back p c fits = read_back p c fits

pub written_only : (p : Program) (c : Checkpoint) → Fits p c → ReadsOnlyCheckpoint p (checkpoint_bytes c) c
written_only p c fits = read_only p (checkpoint_bytes c) c (read_back p c fits)

pub read_fits : (p : Program) (bytes : List ℕ) (c : Checkpoint) → CheckpointText p bytes c → Fits p c
read_fits p bytes c t = t.fits
