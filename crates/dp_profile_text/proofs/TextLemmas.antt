-- What a text of a profile that is read line by line is read as.
use Rattle.std.proofs.Common.{◌≡◌, ℕ, ◌≤◌, true, List, ◌++◌, map, length, Some, None, refl, ap, ◌∙◌}
use Rattle.dp_tree.specs.declared.Program.{Program}
use Rattle.dp_plan.specs.Each.{Each}
use Rattle.dp_text.specs.declared.lines.Reading.{Reading}
use Rattle.dp_text.specs.declared.lines.Reading.TheVariants as reading
use Rattle.dp_text.specs.Lines.{lines_of, read_from}
use Rattle.dp_text.proofs.Runs.{Grammar, run_bytes, run_bytes-lines}
use Rattle.dp_text.proofs.SoFar.{AreRead, Texts, are_read, next_text}
use Rattle.dp_profile.specs.declared.Profile.{Profile}
use Rattle.dp_profile_text.specs.declared.line.Line.{Line}
use Rattle.dp_profile_text.specs.declared.reader.Reader.{Reader}
use Rattle.dp_profile_text.specs.declared.reader.Phase.{Phase}
use Rattle.dp_profile_text.specs.declared.reader.Phase.TheVariants as phase
use Rattle.dp_profile.specs.declared.sites.RegionSite.{RegionSite}
use Rattle.dp_profile.specs.Sites.{regions}
use Rattle.dp_profile_text.specs.ProfileText.{ProfileLines, profile_line_bytes, profile_lines, profile_words}
use Rattle.dp_profile_text.specs.Refused.{IsProfileText, ReadsAsProfile}
use Rattle.dp_profile_text.specs.steps.Ending.{finished}
use Rattle.dp_profile_text.specs.steps.LineWords.{line_of}
use Rattle.dp_profile_text.specs.steps.Reading.{begun, is_over, next_by}
use Rattle.dp_profile_text.proofs.LineComplete.{LineFits, line-words, are_words}
use Rattle.dp_profile.proofs.KnownSites.{top, SmallSite}
use Rattle.dp_profile_text.proofs.LineSound.{line_sound}
use Rattle.dp_profile_text.proofs.NextLine.{reads_next}
use Rattle.dp_profile_text.proofs.RunComplete.{over, lines_run}
use Rattle.dp_profile_text.proofs.RunSound.{Reads}
use Rattle.dp_profile_text.proofs.RunSound as sound
use Rattle.dp_profile_text.proofs.RunEnds.{Ends, IsText, whole_fits, reads_end, reads_over}

pub no_line : (all : List (List RegionSite)) (s : Reader) → next_by all s None ≡ None
unfolding next_by
no_line all s = refl

-- the lines of a profile of regions with these sites
abbrev pub profile_grammar : List (List RegionSite) → Grammar Line Reader
profile_grammar all = record {
  words_of = profile_words;
  Fits = LineFits;
  line_of = line_of;
  are_words = are_words;
  line_back = line-words;
  sound = line_sound;
  begun = begun;
  next_by = next_by all;
  no_line = no_line all;
  Reads = Reads all;
  reads_start = sound.at_start;
  reads_next = reads_next all;
}

over_phase : (at : Phase) → is_over at ≡ true → at ≡ phase.Over
over_phase phase.Start h = absurd (cc h)
over_phase phase.Headed h = absurd (cc h)
over_phase phase.Region h = absurd (cc h)
over_phase phase.Over h = refl

module _ (p : Program) (few : length (regions p) ≤ top) (small : Each (Each SmallSite) (regions p)) where
  -- the lines of a text of the grammar are read to their end
  pub text_runs : (lines : List (List ℕ)) (profile : Profile) → ProfileLines p lines profile → run_bytes (profile_grammar (regions p)) (Some begun) lines ≡ Some
      (over profile.regions)
  unfolding next_by
  text_runs lines profile t =
      let g = profile_grammar (regions p) in
      ap (run_bytes g (Some begun)) t.lines_are
      ∙ run_bytes-lines g (Some begun) (profile_lines p profile) (whole_fits (regions p) profile.regions few small t.fits)
      ∙ lines_run (regions p) profile.regions t.fits

  reads_on : (s : Reader) (ls : List Line) → Reads (regions p) s ls → (more : List Line) × IsProfileText p (map profile_line_bytes (ls ++ more))
  reads_on s ls r =
      let e : Ends (regions p) ls = reads_end (regions p) s ls r in
      (e.more, (record { regions = e.shown }, record { lines_are = ap (map profile_line_bytes) e.whole; fits = e.fit }))

  profile_texts : Texts (profile_grammar (regions p)) (IsProfileText p) (λ s. is_over s.phase)
  profile_texts = record {
    runs_over = λ ls t. (over t.0.regions, text_runs ls t.0 t.1, refl);
    reads_on = reads_on;
  }

  ended : (bytes : List ℕ) (r : Reading Reader) → AreRead profile_texts (lines_of bytes) r → ReadsAsProfile p bytes (finished r)
  ended bytes (reading.Over s) e =
      let t : IsText (regions p) s.done e.0.lines = reads_over (regions p) s e.0.lines e.0.reads (over_phase s.phase e.1) in
      record { lines_are = e.0.are ∙ ap (map profile_line_bytes) t.are; fits = t.fit }
  ended bytes (reading.Refused line) e = e

  -- what a text is read as, line by line
  pub text_read : (bytes : List ℕ) →
      ReadsAsProfile p bytes (finished (read_from (next_text (profile_grammar (regions p))) (λ s. is_over s.phase) 1 begun (lines_of bytes)))
  text_read bytes = ended bytes (read_from (next_text (profile_grammar (regions p))) (λ s. is_over s.phase) 1 begun (lines_of bytes))
      (are_read profile_texts bytes)
