-- The lines of a text, read one after the other, whatever lines they are.
use Rattle.std.proofs.Common.{◌≡◌, ℕ, suc, ◌+◌, ◌≤◌, ◌==◌, Bool, true, false, not, cond, List, [], ◌∷◌, ◌++◌, map, length, Option, Some, None, refl, sym, ap}
use Rattle.std.proofs.Common.{◌∙◌, rules, arith, tests}
use Rattle.std.specs.Prelude.{if◌then◌else◌}
use Rattle.std.specs.Str.{bytes_eq}
use Rattle.std.proofs.lemmas.Slice.Eq.{bytes_eq-Decides}
use Rattle.dp_text.specs.Each.{Each}
use Rattle.dp_text.specs.Lines.{chomped, onto_text}
use Rattle.dp_text.specs.Words.{joined_words, words}
use Rattle.dp_text.proofs.WordLemmas.{first_end}
use Rattle.dp_text.proofs.JoinLemmas.{AreWords, words-joined, joined-words}

-- ---- lines as bytes

pub chomped-line : (text : List ℕ) → chomped (text ++ 10 ∷ []) ≡ Some text
chomped-line (byte ∷ next_byte ∷ rest) = ap (onto_text byte) (chomped-line (next_byte ∷ rest))
chomped-line _ = refl

single_case : (byte : ℕ) (text : List ℕ) (is : Bool) → (byte == 10) ≡ is → (if is then Some [] else None) ≡ Some text → byte ∷ [] ≡ text ++ 10 ∷ []
single_case byte text true e h =
    let none : [] ≡ text = cc h in let lf : byte ≡ 10 = search (rules, tests) in ap (λ b. b ∷ []) lf ∙ ap (λ t. t ++ 10 ∷ []) none
single_case byte text false e h = absurd (cc h)

onto_case : (byte : ℕ) (line text : List ℕ) (o : Option (List ℕ)) → chomped line ≡ o → onto_text byte o ≡ Some text →
    ((t : List ℕ) → chomped line ≡ Some t → line ≡ t ++ 10 ∷ []) → byte ∷ line ≡ text ++ 10 ∷ []
onto_case byte line text None e h more = absurd (cc h)
onto_case byte line text (Some t) e h more = let is : byte ∷ t ≡ text = cc h in ap (λ l. byte ∷ l) (more t e) ∙ ap (λ x. x ++ 10 ∷ []) is

pub chomped-sound : (line text : List ℕ) → chomped line ≡ Some text → line ≡ text ++ 10 ∷ []
chomped-sound [] text h = absurd (cc h)
chomped-sound (byte ∷ []) text h = single_case byte text (byte == 10) refl h
chomped-sound (byte ∷ next_byte ∷ rest) text h =
    onto_case byte (next_byte ∷ rest) text (chomped (next_byte ∷ rest)) refl h (λ t. chomped-sound (next_byte ∷ rest) t)

without_case : (byte : ℕ) (rest : List ℕ) (is : Bool) → (byte == 10) ≡ is → length (byte ∷ rest) ≤ cond (not (byte == 10)) (1 + first_end 10 rest) 0 →
    (is ≡ false) × (length rest ≤ first_end 10 rest)
without_case byte rest true e le = let none : suc (length rest) ≤ 0 = rw e at le in absurd (omega (arith, none))
without_case byte rest false e le = let long : suc (length rest) ≤ 1 + first_end 10 rest = rw e at le in (refl, omega (arith, long))

-- a piece without an LF has none at its end
pub chomped-none : (byte : ℕ) (rest : List ℕ) → length (byte ∷ rest) ≤ first_end 10 (byte ∷ rest) → chomped (byte ∷ rest) ≡ None
chomped-none byte [] le = rw ((without_case byte [] (byte == 10) refl le).0) refl
chomped-none byte (next_byte ∷ rest) le = ap (onto_text byte) (chomped-none next_byte rest (without_case byte (next_byte ∷ rest) (byte == 10) refl le).1)

-- ---- words as a line

-- these are the words of a line that fits
pub record WordsOf {Line : Type 0} (words_of : Line → List (List ℕ)) (Fits : Line → Type 0) (ws : List (List ℕ)) (l : Line) : Type 0 where
  pub are : ws ≡ words_of l
  pub fits : Fits l

-- a test of a word
pub same_word : (a b : List ℕ) → bytes_eq a b ≡ true → a ≡ b
same_word a b h = (bytes_eq-Decides a b).0 h

-- one test of the first word: the line that follows it, or the other tests
pub choice : {Line : Type 0} (Is : List (List ℕ) → Line → Type 0) (label word : List ℕ) (ws : List (List ℕ)) (l : Line) (is : Bool) (this other : Option Line) →
    bytes_eq label word ≡ is
    → (this ≡ Some l → Is (word ∷ ws) l) → (other ≡ Some l → Is (label ∷ ws) l) → (if is then this else other) ≡ Some l → Is (label ∷ ws) l
choice Is label word ws l true this other e here there h = rw (same_word label word e) (here h)
choice Is label word ws l false this other e here there h = there h

-- ---- a grammar of lines

abbrev step_by : {Line Reader : Type 0} → (Reader → Line → Option Reader) → Option Reader → Line → Option Reader
step_by next None l = None
step_by next (Some s) l = next s l

abbrev pub run_by : {Line Reader : Type 0} → (Reader → Line → Option Reader) → Option Reader → List Line → Option Reader
run_by next o [] = o
run_by next o (l ∷ ls) = run_by next (step_by next o l) ls

-- how words are read as a line, and lines one after the other; `Reads s ls` where lines that fit lead to a reader
pub record Grammar (Line Reader : Type 0) : Type 1 where
  pub words_of : Line → List (List ℕ)
  pub Fits : Line → Type 0
  pub line_of : List (List ℕ) → Option Line
  pub are_words : (l : Line) → Fits l → AreWords (words_of l)
  pub line_back : (l : Line) → Fits l → line_of (words_of l) ≡ Some l
  pub sound : (ws : List (List ℕ)) (l : Line) → line_of ws ≡ Some l → WordsOf words_of Fits ws l
  pub begun : Reader
  pub next_by : Reader → Option Line → Option Reader
  pub no_line : (s : Reader) → next_by s None ≡ None
  pub Reads : Reader → List Line → Type 0
  pub reads_start : Reads begun []
  pub reads_next : (o : Reader) (ls : List Line) (l : Line) (s : Reader) → Reads o ls → Fits l → next_by o (Some l) ≡ Some s → Reads s (ls ++ l ∷ [])

module _ {Line Reader : Type 0} (g : Grammar Line Reader) where
  open g use {words_of, Fits, line_of, are_words, line_back, sound, next_by}

  abbrev pub line_bytes : Line → List ℕ
  line_bytes l = joined_words (words_of l) ++ 10 ∷ []

  abbrev pub next : Reader → Line → Option Reader
  next s l = next_by s (Some l)

  abbrev pub read_text : Option (List ℕ) → Option Line
  read_text None = None
  read_text (Some text) = line_of (words text)

  -- the line that these bytes are
  abbrev pub read_bytes : List ℕ → Option Line
  read_bytes bytes = read_text (chomped bytes)

  pub read_bytes-line : (l : Line) → Fits l → read_bytes (line_bytes l) ≡ Some l
  read_bytes-line l fits =
      ap read_text (chomped-line (joined_words (words_of l))) ∙ ap line_of (words-joined (words_of l) (are_words l fits)) ∙ line_back l fits

  pub record IsBytes (bytes : List ℕ) (l : Line) : Type 0 where
    pub are : bytes ≡ line_bytes l
    pub fits : Fits l

  bytes_case : (bytes : List ℕ) (l : Line) (o : Option (List ℕ)) → chomped bytes ≡ o → read_text o ≡ Some l → IsBytes bytes l
  bytes_case bytes l None e h = absurd (cc h)
  bytes_case bytes l (Some text) e h =
      let i : WordsOf words_of Fits (words text) l = sound (words text) l h in
      record { are = chomped-sound bytes text e ∙ ap (λ t. t ++ 10 ∷ []) (sym (joined-words text) ∙ ap joined_words i.are); fits = i.fits }

  pub read_bytes-sound : (bytes : List ℕ) (l : Line) → read_bytes bytes ≡ Some l → IsBytes bytes l
  read_bytes-sound bytes l h = bytes_case bytes l _ refl h

  abbrev pub step_bytes : Option Reader → List ℕ → Option Reader
  step_bytes None bytes = None
  step_bytes (Some s) bytes = next_by s (read_bytes bytes)

  abbrev pub run_bytes : Option Reader → List (List ℕ) → Option Reader
  run_bytes o [] = o
  run_bytes o (bytes ∷ rest) = run_bytes (step_bytes o bytes) rest

  pub run_bytes-none : (rest : List (List ℕ)) → run_bytes None rest ≡ None
  run_bytes-none [] = refl
  run_bytes-none (bytes ∷ rest) = run_bytes-none rest

  pub run_bytes-append : (o : Option Reader) (xs ys : List (List ℕ)) → run_bytes o (xs ++ ys) ≡ run_bytes (run_bytes o xs) ys
  run_bytes-append o [] ys = refl
  run_bytes-append o (x ∷ xs) ys = run_bytes-append (step_bytes o x) xs ys

  step_bytes-line : (o : Option Reader) (l : Line) → Fits l → step_bytes o (line_bytes l) ≡ step_by next o l
  step_bytes-line None l fits = refl
  step_bytes-line (Some s) l fits = ap (next_by s) (read_bytes-line l fits)

  -- lines that fit, read from their bytes
  pub run_bytes-lines : (o : Option Reader) (ls : List Line) → Each Fits ls → run_bytes o (map line_bytes ls) ≡ run_by next o ls
  run_bytes-lines o [] fit = refl
  run_bytes-lines o (l ∷ ls) fit =
      ap (λ p. run_bytes p (map line_bytes ls)) (step_bytes-line o l fit.0) ∙ run_bytes-lines (step_by next o l) ls fit.1
