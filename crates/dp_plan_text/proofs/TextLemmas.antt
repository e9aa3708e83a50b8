-- What a text of plans that is read line by line is read as.
use Rattle.std.proofs.Common.{◌≡◌, ℕ, ◌<◌, ◌^◌, Bool, true, List, ◌++◌, map, length, Some, None, refl, ap, ◌∙◌}
use Rattle.dp_text.specs.declared.lines.Reading.{Reading}
use Rattle.dp_text.specs.declared.lines.Reading.TheVariants as reading
use Rattle.dp_text.specs.Lines.{lines_of, read_from}
use Rattle.dp_tree.specs.declared.Program.{Program}
use Rattle.dp_plan.specs.declared.WrittenPlan.{WrittenPlan}
use Rattle.dp_plan_text.specs.declared.line.Line.{Line}
use Rattle.dp_plan_text.specs.declared.reader.Reader.{Reader}
use Rattle.dp_plan_text.specs.declared.reader.Phase.{Phase}
use Rattle.dp_plan_text.specs.declared.reader.Phase.TheVariants as phase
use Rattle.dp_plan_text.specs.PlanText.{PlanLines, plan_line_bytes, plan_lines, plan_words}
use Rattle.dp_plan_text.specs.Refused.{IsPlanText}
use Rattle.dp_plan_text.specs.steps.Ending.{ReadsText, finished}
use Rattle.dp_plan_text.specs.steps.LineWords.{line_of}
use Rattle.dp_plan_text.specs.steps.Reading.{begun, is_over, next_by}
use Rattle.dp_plan_text.proofs.LineComplete.{LineFits, line-words, are_words}
use Rattle.dp_plan_text.proofs.LineSound.{line_sound}
use Rattle.dp_text.proofs.Runs.{Grammar, run_bytes, run_bytes-lines}
use Rattle.dp_plan_text.proofs.RunComplete.{over, lines_run}
use Rattle.dp_plan_text.proofs.RunSound.{Reads, reads_next}
use Rattle.dp_plan_text.proofs.RunSound as sound
use Rattle.dp_plan_text.proofs.RunEnds.{Ends, IsText, all_lines_fit, reads_end, reads_more, reads_over}
use Rattle.dp_text.proofs.SoFar.{AreRead, Texts, are_read, next_text}

pub no_line : (n : ℕ) (s : Reader) → next_by n s None ≡ None
unfolding next_by
no_line n s = refl

-- the lines of plans for so many regions
abbrev pub plan_grammar : ℕ → Grammar Line Reader
plan_grammar n = record {
  words_of = plan_words;
  Fits = LineFits;
  line_of = line_of;
  are_words = are_words;
  line_back = line-words;
  sound = line_sound;
  begun = begun;
  next_by = next_by n;
  no_line = no_line n;
  Reads = Reads n;
  reads_start = sound.at_start;
  reads_next = reads_next n;
}

over_phase : (at : Phase) → is_over at ≡ true → at ≡ phase.Over
over_phase phase.Start h = absurd (cc h)
over_phase phase.Inside h = absurd (cc h)
over_phase phase.Over h = refl

module _ (p : Program) (small : length p.regions < 2 ^ 32) where
  -- the lines of a text of the grammar are read to their end
  pub text_runs : (lines : List (List ℕ)) (v : Bool) (plans : List WrittenPlan) → PlanLines p lines v plans →
      run_bytes (plan_grammar (length p.regions)) (Some begun) lines ≡ Some (over v plans)
  unfolding next_by
  text_runs lines v plans t =
      let g = plan_grammar (length p.regions) in
      ap (run_bytes g (Some begun)) t.lines_are
      ∙ run_bytes-lines g (Some begun) (plan_lines v plans) (all_lines_fit v plans (length p.regions) t.regions small t.fit)
      ∙ lines_run (length p.regions) v plans t.regions t.fit

  reads_on : (s : Reader) (ls : List Line) → Reads (length p.regions) s ls → (more : List Line) × IsPlanText p (map plan_line_bytes (ls ++ more))
  reads_on s ls r =
      let n = length p.regions in let e : Ends (length p.regions) s = reads_end n s ls small r in
      let t : IsText (length p.regions) e.proved e.plans (ls ++ e.more) = reads_over n (over e.proved e.plans) (ls ++ e.more)
      (reads_more n e.more s (over e.proved e.plans) ls r e.fit e.runs) refl in
      (e.more, (e.proved, e.plans, record { lines_are = ap (map plan_line_bytes) t.are; regions = t.numbers; fit = t.fit }))

  plan_texts : Texts (plan_grammar (length p.regions)) (IsPlanText p) (λ s. is_over s.phase)
  plan_texts = record {
    runs_over = λ ls t. (over t.0 t.1, text_runs ls t.0 t.1 t.2, refl);
    reads_on = reads_on;
  }

  ended : (bytes : List ℕ) (r : Reading Reader) → AreRead plan_texts (lines_of bytes) r → ReadsText p bytes (finished r)
  ended bytes (reading.Over s) e =
      let t : IsText (length p.regions) s.proved s.plans e.0.lines = reads_over (length p.regions) s e.0.lines e.0.reads (over_phase s.phase e.1) in
      record { lines_are = e.0.are ∙ ap (map plan_line_bytes) t.are; regions = t.numbers; fit = t.fit }
  ended bytes (reading.Refused line) e = e

  -- what a text is read as, line by line
  pub text_read : (bytes : List ℕ) →
      ReadsText p bytes (finished (read_from (next_text (plan_grammar (length p.regions))) (λ s. is_over s.phase) 1 begun (lines_of bytes)))
  text_read bytes = ended bytes (read_from (next_text (plan_grammar (length p.regions))) (λ s. is_over s.phase) 1 begun (lines_of bytes))
      (are_read plan_texts bytes)
