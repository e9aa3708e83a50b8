-- The first line at which two texts differ, from the bytes that they share at their front.
use Rattle.std.proofs.Common.{◌≡◌, refl, sym, ap, ◌∙◌, subst, subst₂, arith, ℕ, zero, suc, ◌+◌, ◌-◌, ◌<◌, ◌≤◌, ◌==◌, inl, inr, Bool, if◌then◌else◌, List, []}
use Rattle.std.proofs.Common.{◌∷◌, ◌++◌, append_assoc, append-nil, length, take, drop, get_or, slice_get, unwrap_or, Some, None, Option}
use Rattle.std.proofs.lemmas.Bool.{both_ways, cases_Bool, eq-eqb, eqb-true}
use Rattle.std.proofs.lemmas.List.{drop-drop, length-drop, take-append-drop}
use Rattle.std.proofs.lemmas.Option.{unwrap_or-slice_get}
use Rattle.std.proofs.Math.Seq.{take-add, take-length}
use Rattle.dp_text.specs.Pieces.{onto_first}
use Rattle.dp_text.specs.Lines.{lines_of}
use Rattle.dp_log.specs.Compared.{DifferFirst}
use Rattle.dp_auditor.specs.Comparing.{Fails, PassesPiece, breaks, line_behind, shared}

-- two texts differ in their first byte, or just one of them is over
abbrev pub Parts : List ℕ → List ℕ → Type 0
Parts [] [] = ⊥
Parts [] (y ∷ ys) = Unit {0}
Parts (x ∷ xs) [] = Unit {0}
Parts (x ∷ xs) (y ∷ ys) = x ≡ y → ⊥

abbrev head_of : List ℕ → Option ℕ
head_of [] = None
head_of (x ∷ xs) = Some x

onto_reads : (byte : ℕ) (ls : List (List ℕ)) → get_or (onto_first byte ls) 0 [] ≡ byte ∷ get_or ls 0 []
onto_reads byte [] = refl
onto_reads byte (l ∷ ls) = refl

onto_past : (byte : ℕ) (ls : List (List ℕ)) (k : ℕ) → get_or (onto_first byte ls) (suc k) [] ≡ get_or ls (suc k) []
onto_past byte [] k = refl
onto_past byte (l ∷ ls) k = refl

onto_same : (byte : ℕ) (ls ms : List (List ℕ)) (k : ℕ) → slice_get ls k ≡ slice_get ms k → slice_get (onto_first byte ls) k ≡ slice_get (onto_first byte ms) k
onto_same byte [] [] k e = refl
onto_same byte [] (m ∷ ms) zero e = absurd (cc e)
onto_same byte [] (m ∷ ms) (suc k) e = e
onto_same byte (l ∷ ls) [] zero e = absurd (cc e)
onto_same byte (l ∷ ls) [] (suc k) e = e
onto_same byte (l ∷ ls) (m ∷ ms) zero e = ap (λ o. Some (byte ∷ unwrap_or o [])) e
onto_same byte (l ∷ ls) (m ∷ ms) (suc k) e = e

-- the lines before the place are the same
same_before : (common x y : List ℕ) (k : ℕ) → k < breaks common → slice_get (lines_of (common ++ x)) k ≡ slice_get (lines_of (common ++ y)) k
same_before [] x y k h = absurd (omega (arith, h))
same_before (byte ∷ common) x y k h = elim (cases_Bool (byte == 10)) [
  | inl is ↦ rw is (cut k (same_before common x y) (subst (λ (b : Bool). k < (if b then suc (breaks common) else breaks common)) is h))
  | inr other ↦ rw other (onto_same byte (lines_of (common ++ x)) (lines_of (common ++ y)) k
      (same_before common x y k (subst (λ (b : Bool). k < (if b then suc (breaks common) else breaks common)) other h)))
]
  where
    cut : (k : ℕ) → ((j : ℕ) → j < breaks common → slice_get (lines_of (common ++ x)) j ≡ slice_get (lines_of (common ++ y)) j) → k < suc (breaks common) →
        slice_get ((byte ∷ []) ∷ lines_of (common ++ x)) k ≡ slice_get ((byte ∷ []) ∷ lines_of (common ++ y)) k
    cut zero later h = refl
    cut (suc k) later h = later k (omega (arith, h))

-- a text's first line begins with its first byte
first_reads : (byte : ℕ) (rest : List ℕ) → head_of (get_or (lines_of (byte ∷ rest)) 0 []) ≡ Some byte
first_reads byte rest = elim (cases_Bool (byte == 10)) [
  | inl is ↦ rw is refl
  | inr other ↦ rw other (ap head_of (onto_reads byte (lines_of rest)))
]

heads_part : (x y : List ℕ) → Parts x y → get_or (lines_of x) 0 [] ≡ get_or (lines_of y) 0 [] → ⊥
heads_part [] [] p e = p
heads_part [] (b ∷ y) p e = let clash : None ≡ Some b = ap head_of e ∙ first_reads b y in absurd (cc clash)
heads_part (a ∷ x) [] p e = let clash : Some a ≡ None = sym (first_reads a x) ∙ ap head_of e in absurd (cc clash)
heads_part (a ∷ x) (b ∷ y) p e = let same : Some a ≡ Some b = sym (first_reads a x) ∙ ap head_of e ∙ first_reads b y in p (cc same)

abbrev tail_of : List ℕ → List ℕ
tail_of [] = []
tail_of (x ∷ xs) = xs

-- the line at a place, where a line ends with this byte or goes on
abbrev line_at : ℕ → List (List ℕ) → ℕ → Bool → List ℕ
line_at byte ls n b = get_or (if b then (byte ∷ []) ∷ ls else onto_first byte ls) (if b then suc n else n) []

onto_differs : (byte : ℕ) (ls ms : List (List ℕ)) (k : ℕ) → (get_or ls k [] ≡ get_or ms k [] → ⊥) →
    get_or (onto_first byte ls) k [] ≡ get_or (onto_first byte ms) k [] → ⊥
onto_differs byte ls ms zero apart e = apart (ap tail_of (sym (onto_reads byte ls) ∙ e ∙ onto_reads byte ms))
onto_differs byte ls ms (suc k) apart e = apart (sym (onto_past byte ls k) ∙ e ∙ onto_past byte ms k)

-- .. and the one at the place differs
differ_at : (common x y : List ℕ) → Parts x y → get_or (lines_of (common ++ x)) (breaks common) [] ≡ get_or (lines_of (common ++ y)) (breaks common) [] → ⊥
differ_at [] x y p e = heads_part x y p e
differ_at (byte ∷ common) x y p e = elim (cases_Bool (byte == 10)) [
  | inl is ↦ differ_at common x y p (subst (λ (b : Bool). line_at byte (lines_of (common ++ x)) (breaks common) b ≡ line_at byte (lines_of (common ++ y))
      (breaks common) b) is e)
  | inr other ↦ onto_differs byte (lines_of (common ++ x)) (lines_of (common ++ y)) (breaks common) (differ_at common x y p)
      (subst (λ (b : Bool). line_at byte (lines_of (common ++ x)) (breaks common) b ≡ line_at byte (lines_of (common ++ y)) (breaks common) b) other e)
]

-- Behind what two texts share at their front comes the first line that isn't the same in both.
pub differ_behind : (common x y : List ℕ) → Parts x y → DifferFirst (common ++ x) (common ++ y) (line_behind common)
differ_behind common x y p = record {
  counted = omega arith;
  same = λ k h. same_before common x y k (omega (arith, h));
  differs = λ e. let at : 1 + breaks common - 1 ≡ breaks common = omega arith in
      differ_at common x y p (subst (λ (k : ℕ). get_or (lines_of (common ++ x)) k [] ≡ get_or (lines_of (common ++ y)) k []) at
      (sym (unwrap_or-slice_get (lines_of (common ++ x)) (1 + breaks common - 1) []) ∙ ap (λ o. unwrap_or o []) e
      ∙ unwrap_or-slice_get (lines_of (common ++ y)) (1 + breaks common - 1) []));
}

-- ---- what two texts share

pub shared_front : (one other : List ℕ) → take (shared one other) one ≡ take (shared one other) other
shared_front [] other = refl
shared_front (x ∷ xs) [] = refl
shared_front (x ∷ xs) (y ∷ ys) = elim (cases_Bool (x == y)) [
  | inl is ↦ rw is (ap (λ (c : ℕ). c ∷ take (shared xs ys) xs) (eqb-true x y is) ∙ ap (λ (l : List ℕ). y ∷ l) (shared_front xs ys))
  | inr out ↦ rw out refl
]

pub shared_within : (one other : List ℕ) → (shared one other ≤ length one) × (shared one other ≤ length other)
shared_within [] other = (omega arith, omega arith)
shared_within (x ∷ xs) [] = (omega arith, omega arith)
shared_within (x ∷ xs) (y ∷ ys) = elim (cases_Bool (x == y)) [
  | inl is ↦ rw is (let h = shared_within xs ys in (omega (arith, h.0), omega (arith, h.1)))
  | inr out ↦ rw out (omega arith, omega arith)
]

-- .. and where the first one isn't all of it, they part there, whatever follows the first one
pub shared_parts : (one other later : List ℕ) → (shared one other ≡ length one → ⊥) →
    Parts (drop (shared one other) other) (drop (shared one other) one ++ later)
shared_parts [] other later short = absurd (short refl)
shared_parts (x ∷ xs) [] later short = tt
shared_parts (x ∷ xs) (y ∷ ys) later short = elim (cases_Bool (x == y)) [
  | inl is ↦ rw is (shared_parts xs ys later (λ e. short (rw is (ap suc e))))
  | inr out ↦ rw out (λ e. both_ways (x == y) out (eq-eqb x y (sym e)))
]

-- nothing more is shared where one is over
pub shared_over : (one other : List ℕ) (k : ℕ) → k + shared (drop k one) (drop k other) ≡ shared one other → k ≤ length one → k ≤ length other →
    (k < length one → k < length other → ⊥) → k ≡ shared one other
shared_over one other k is low high over =
    let most = shared_within (drop k one) (drop k other) in
    let a = length-drop k one in let b = length-drop k other in
    let none : shared (drop k one) (drop k other) ≡ 0 = by (shared (drop k one) (drop k other)) most.0 most.1 a b in
    omega (arith, is, none)
  where
    by : (s : ℕ) → s ≤ length (drop k one) → s ≤ length (drop k other) → length (drop k one) ≡ length one - k → length (drop k other) ≡ length other - k → s ≡ 0
    by zero h g a b = refl
    by (suc s) h g a b = absurd (over (omega (arith, h, a)) (omega (arith, g, b)))

-- ---- a log that is compared

-- a piece that stands there
pub passes : (log piece : List ℕ) (place same : ℕ) → same ≡ shared piece (drop place log) → same ≡ length piece →
    PassesPiece record { log = log; place = place } record { log = log; place = place + same } piece
passes log piece place same is whole = record {
  log = refl;
  piece_is = sym (take-append-drop same (drop place log)) ∙ ap (λ (xs : List ℕ). xs ++ drop same (drop place log)) front
      ∙ ap (λ (xs : List ℕ). piece ++ xs) (drop-drop same place log);
  place_is = ap (λ (k : ℕ). place + k) whole;
}
  where
    front : take same (drop place log) ≡ piece
    front = ap (λ (k : ℕ). take k (drop place log)) is ∙ sym (shared_front piece (drop place log))
        ∙ ap (λ (k : ℕ). take k piece) (sym is ∙ whole) ∙ take-length piece

-- .. and one that doesn't
pub fails : (log piece later : List ℕ) (place same : ℕ) → same ≡ shared piece (drop place log) → (same ≡ length piece → ⊥) →
    Fails record { log = log; place = place } (piece ++ later) (line_behind (take (place + same) log))
fails log piece later place same is short =
    subst₂ (λ (a b : List ℕ). DifferFirst a b (line_behind (take (place + same) log))) log_is text_is
    (differ_behind (take (place + same) log) (drop same (drop place log)) (drop same piece ++ later) parts)
  where
    parts : Parts (drop same (drop place log)) (drop same piece ++ later)
    parts = subst (λ (k : ℕ). Parts (drop k (drop place log)) (drop k piece ++ later)) (sym is)
        (shared_parts piece (drop place log) later (λ e. short (is ∙ e)))

    log_is : take (place + same) log ++ drop same (drop place log) ≡ log
    log_is =
        ap (λ (xs : List ℕ). xs ++ drop same (drop place log)) (take-add place same log) ∙ append_assoc (take place log) (take same (drop place log))
        (drop same (drop place log))
        ∙ ap (λ (xs : List ℕ). take place log ++ xs) (take-append-drop same (drop place log)) ∙ take-append-drop place log

    front : take same (drop place log) ≡ take same piece
    front = ap (λ (k : ℕ). take k (drop place log)) is ∙ sym (shared_front piece (drop place log)) ∙ ap (λ (k : ℕ). take k piece) (sym is)

    text_is : take (place + same) log ++ (drop same piece ++ later) ≡ take place log ++ (piece ++ later)
    text_is =
        ap (λ (xs : List ℕ). xs ++ (drop same piece ++ later)) (take-add place same log ∙ ap (λ (xs : List ℕ). take place log ++ xs) front)
        ∙ append_assoc (take place log) (take same piece) (drop same piece ++ later)
        ∙ ap (λ (xs : List ℕ). take place log ++ xs) (sym (append_assoc (take same piece) (drop same piece) later)
        ∙ ap (λ (xs : List ℕ). xs ++ later) (take-append-drop same piece))

-- a log with more behind the text differs behind it
pub more_behind : (log : List ℕ) (place : ℕ) → place < length log → DifferFirst log (take place log) (line_behind (take place log))
more_behind log place h =
    subst₂ (λ (a b : List ℕ). DifferFirst a b (line_behind (take place log))) (take-append-drop place log) (append-nil (take place log))
    (differ_behind (take place log) (drop place log) [] (left log place h))
  where
    left : (xs : List ℕ) (k : ℕ) → k < length xs → Parts (drop k xs) []
    left [] k h = absurd (omega (arith, h))
    left (x ∷ xs) zero h = tt
    left (x ∷ xs) (suc k) h = left xs k (omega (arith, h))
