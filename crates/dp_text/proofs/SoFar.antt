-- A text that is read up to a line, and what it is read as, whatever lines it has.
use Rattle.std.proofs.Common.{◌≡◌, ℕ, ◌+◌, ◌≤◌, Bool, true, false, if◌then◌else◌, List, [], ◌∷◌, ◌++◌, map, length, take, Option, Some, None, refl, sym, ap}
use Rattle.std.proofs.Common.{subst, ◌∙◌, append_assoc, append-nil, length-append, arith}
use Rattle.std.proofs.Math.Seq.{take-append_seam}
use Rattle.std.proofs.lemmas.List.{map-append, take-append-le}
use Rattle.dp_text.specs.declared.lines.Reading.{Reading}
use Rattle.dp_text.specs.declared.lines.Reading.TheVariants.{Over, Refused}
use Rattle.dp_text.specs.Lines.{lines_of, chomped, after_line, go_on, read_from}
use Rattle.dp_text.specs.Refused.{BeginsText, IsRefusedAt, at_line, at_end}
use Rattle.dp_text.specs.Words.{words}
use Rattle.dp_text.proofs.RefusedOnce.{text_begins}
use Rattle.dp_text.proofs.Runs.{Grammar, IsBytes, line_bytes, read_text, read_bytes, read_bytes-sound, run_bytes, run_bytes-none, run_bytes-append}

module _ {Line Reader : Type 0} (g : Grammar Line Reader) where
  open g use {line_of, begun, next_by, no_line, Reads, reads_start, reads_next}

  -- the state behind a line, which is given without its LF
  abbrev pub next_text : Reader → List ℕ → Option Reader
  next_text s text = next_by s (line_of (words text))

  after_is : (s : Reader) (text : Option (List ℕ)) → after_line next_text s text ≡ next_by s (read_text g text)
  after_is s None = sym (no_line s)
  after_is s (Some text) = refl

  -- the state behind the lines with these bytes
  pub record Reached (s : Reader) (done : List (List ℕ)) : Type 0 where
    pub lines : List Line
    pub are : done ≡ map (line_bytes g) lines
    pub reads : Reads s lines
    pub runs : run_bytes g (Some begun) done ≡ Some s

  reached_start : Reached begun []
  reached_start = record { lines = []; are = refl; reads = reads_start; runs = refl }

  next_case : (o s : Reader) (l : Option Line) → next_by o l ≡ Some s → (line : Line) × (l ≡ Some line) × (next_by o (Some line) ≡ Some s)
  next_case o s None h = absurd (cc (sym (no_line o) ∙ h))
  next_case o s (Some line) h = (line, refl, h)

  reached_next : (o s : Reader) (done : List (List ℕ)) (bytes : List ℕ) → Reached o done → next_by o (read_bytes g bytes) ≡ Some s →
      Reached s (done ++ bytes ∷ [])
  reached_next o s done bytes r h =
      let c = next_case o s (read_bytes g bytes) h in let b : IsBytes g bytes c.0 = read_bytes-sound g bytes c.0 c.1 in
      record {
        lines = r.lines ++ c.0 ∷ [];
        are = ap (λ d. d ++ bytes ∷ []) r.are ∙ ap (λ x. map (line_bytes g) r.lines ++ x ∷ []) b.are ∙ sym (map-append (line_bytes g) r.lines (c.0 ∷ []));
        reads = reads_next o r.lines c.0 s r.reads b.fits c.2;
        runs = run_bytes-append g (Some begun) done (bytes ∷ []) ∙ ap (λ p. run_bytes g p (bytes ∷ [])) r.runs ∙ h;
      }

-- the texts of a grammar, by their lines: each is read to its end, and what has been read begins one
pub record Texts {Line Reader : Type 0} (g : Grammar Line Reader) (Text : List (List ℕ) → Type 0) (is_over : Reader → Bool) : Type 0 where
  pub runs_over : (ls : List (List ℕ)) → Text ls → (s : Reader) × (run_bytes g (Some g.begun) ls ≡ Some s) × (is_over s ≡ true)
  pub reads_on : (s : Reader) (ls : List Line) → g.Reads s ls → (more : List Line) × Text (map (line_bytes g) (ls ++ more))

module _ {Line Reader : Type 0} {g : Grammar Line Reader} {Text : List (List ℕ) → Type 0} {is_over : Reader → Bool} (t : Texts g Text is_over) where
  open g use {begun, next_by}
  open t use {runs_over, reads_on}

  -- one begins with the first of the lines that have been read
  fronts : (s : Reader) (done rest : List (List ℕ)) (k : ℕ) → Reached g s done → k ≤ length done → BeginsText Text (take k (done ++ rest))
  fronts s done rest k r le =
      let on = reads_on s r.lines r.reads in
      let ends = map (line_bytes g) on.0 in
      let all : Text (done ++ map (line_bytes g) on.0) = subst Text (map-append (line_bytes g) r.lines on.0 ∙ ap (λ d. d ++ ends) (sym r.are)) on.1 in
      subst (BeginsText Text) (take-append-le k done ends le ∙ sym (take-append-le k done rest le)) (text_begins Text k (done ++ ends) all)

  -- none begins with these and a line that can't stand
  not_begun : (s : Reader) (done : List (List ℕ)) (bytes : List ℕ) → Reached g s done → next_by s (read_bytes g bytes) ≡ None →
      ¬ BeginsText Text (done ++ bytes ∷ [])
  not_begun s done bytes r h b =
      let over = runs_over ((done ++ bytes ∷ []) ++ b.0) b.1 in
      let none : run_bytes g (Some begun) ((done ++ bytes ∷ []) ++ b.0) ≡ None =
      run_bytes-append g (Some begun) (done ++ bytes ∷ []) b.0
      ∙ ap (λ o. run_bytes g o b.0) (run_bytes-append g (Some begun) done (bytes ∷ []) ∙ ap (λ o. run_bytes g o (bytes ∷ [])) r.runs ∙ h)
      ∙ run_bytes-none g b.0 in
      cc (sym none ∙ over.1)

  -- what these lines are read as: the lines of a text, or refused
  abbrev pub AreRead : List (List ℕ) → Reading Reader → Type 0
  AreRead lines (Over s) = Reached g s lines × (is_over s ≡ true)
  AreRead lines (Refused number) = IsRefusedAt Text lines number

  module _ (lines : List (List ℕ)) where
    -- the next line can't stand
    refused_at : (s : Reader) (done : List (List ℕ)) (bytes : List ℕ) (rest : List (List ℕ)) (number : ℕ) → Reached g s done → lines ≡ done ++ bytes ∷ rest →
        number ≡ length done + 1
        → next_by s (read_bytes g bytes) ≡ None → IsRefusedAt Text lines number
    refused_at s done bytes rest number r split count h =
        let all : lines ≡ (done ++ bytes ∷ []) ++ rest = split ∙ sym (append_assoc done (bytes ∷ []) rest) in
        let long : length (done ++ bytes ∷ []) ≡ length done + 1 = length-append done (bytes ∷ []) in
        let full : length lines ≡ length (done ++ bytes ∷ []) + length rest = ap length all ∙ length-append (done ++ bytes ∷ []) rest in
        let front : take number lines ≡ done ++ bytes ∷ [] =
        ap (λ k. take k lines) (count ∙ sym long) ∙ ap (take (length (done ++ bytes ∷ []))) all ∙ take-append_seam (done ++ bytes ∷ []) rest in
        at_line number (omega (arith, count)) (omega (arith, full, long, count))
        (λ k lt. subst (λ (ls : List (List ℕ)). BeginsText Text (take k ls)) (sym split) (fronts s done (bytes ∷ rest) k r (omega (arith, lt, count))))
        (subst (λ (ls : List (List ℕ)). ¬ BeginsText Text ls) (sym front) (not_begun s done bytes r h))

    -- the text ends there, and isn't over
    refused_end : (s : Reader) (number : ℕ) → Reached g s lines → number ≡ length lines + 1 → is_over s ≡ false → IsRefusedAt Text lines number
    refused_end s number r count other =
        at_end number count
        (λ k lt. subst (λ (ls : List (List ℕ)). BeginsText Text (take k ls)) (append-nil lines) (fronts s lines [] k r (omega (arith, lt, count))))
        (λ x.
        let over = runs_over lines x in
        let same : over.0 ≡ s = cc (sym over.1 ∙ r.runs) in
        let no : false ≡ true = sym other ∙ ap is_over (sym same) ∙ over.2 in
        cc no)

    end_case : (s : Reader) (number : ℕ) (over : Bool) → is_over s ≡ over → Reached g s lines → number ≡ length lines + 1 →
        AreRead lines (if over then Over s else Refused number)
    end_case s number true is r count = (r, is)
    end_case s number false is r count = refused_end s number r count is

    line_case : (s : Reader) (done : List (List ℕ)) (bytes : List ℕ) (rest : List (List ℕ)) (number : ℕ) (o : Option Reader) →
        next_by s (read_bytes g bytes) ≡ o
        → Reached g s done → lines ≡ done ++ bytes ∷ rest → number ≡ length done + 1
        → ((later : Reader) → Reached g later (done ++ bytes ∷ []) → AreRead lines (read_from (next_text g) is_over (number + 1) later rest))
        → AreRead lines (go_on number o (λ later. read_from (next_text g) is_over (number + 1) later rest))
    line_case s done bytes rest number None is r split count more = refused_at s done bytes rest number r split count is
    line_case s done bytes rest number (Some later) is r split count more = more later (reached_next g s later done bytes r is)

    read_on : (done rest : List (List ℕ)) (s : Reader) (number : ℕ) → Reached g s done → lines ≡ done ++ rest → number ≡ length done + 1
        → AreRead lines (read_from (next_text g) is_over number s rest)
    read_on done [] s number r split count =
        let whole : lines ≡ done = split ∙ append-nil done in
        end_case s number (is_over s) refl (subst (λ (ls : List (List ℕ)). Reached g s ls) (sym whole) r) (count
        ∙ ap (λ (ls : List (List ℕ)). length ls + 1) (sym whole))
    read_on done (bytes ∷ rest) s number r split count =
        subst (λ (o : Option Reader). AreRead lines (go_on number o (λ later. read_from (next_text g) is_over (number + 1) later rest)))
        (sym (after_is g s (chomped bytes)))
        (line_case s done bytes rest number (next_by s (read_bytes g bytes)) refl r split count
        (λ later reached. read_on (done ++ bytes ∷ []) rest later (number + 1) reached (split ∙ sym (append_assoc done (bytes ∷ []) rest))
        (omega (arith, count, length-append done (bytes ∷ [])))))

  pub are_read : (bytes : List ℕ) → AreRead (lines_of bytes) (read_from (next_text g) is_over 1 begun (lines_of bytes))
  are_read bytes = read_on (lines_of bytes) [] (lines_of bytes) begun 1 (reached_start g) refl refl
