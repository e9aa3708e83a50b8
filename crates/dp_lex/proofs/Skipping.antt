-- What is skipped at the front of a text is one piece, and its length is what the scan says; where `*/` stands first.
use Rattle.std.proofs.Common.{◌≡◌, ℕ, ◌+◌, ◌<◌, true, false, ◌&&◌, ◌≢◌, ◌⊎◌, ◌==◌, inl, inr, [], ◌∷◌, ◌++◌, length, take, slice_index, codes, Option, Some}
use Rattle.std.proofs.Common.{None, All, refl, sym, ◌∙◌, ap, append_assoc, length-append, take_at, arith, ◌≤◌, drop, get_or-drop, add-zero}
use Rattle.std.specs.List.{prefix_len}
use Rattle.std.proofs.lemmas.Bool.{cases_Bool, and_parts, and_from, and_right, eqb-true, eq-eqb, not_from_false, both_ways, false_from_ne_true}
use Rattle.dp_lex.specs.declared.front.Class.TheVariants as class
use Rattle.dp_lex.specs.Characters.{Text, is_white, is_line_end}
use Rattle.dp_lex.specs.Scan.{closes_comment, closing, closing_or, opens_comment, skipped, is_in}
use Rattle.dp_lex.specs.Front.{IsSkipped, Skips}
use Rattle.dp_lex.proofs.Runs.{run_exact, run_none}
use Rattle.std.proofs.lemmas.List.{drop_more, drop_all}

-- no `*/` stands in the body
abbrev pub IsClear : Text → Type 0
IsClear body = (front back : Text) → body ≢ front ++ (codes "*/" ++ back)

clear_nil : IsClear []
clear_nil front back e = absurd (omega (arith, ap length e, length-append front (codes "*/" ++ back)))

-- the first byte of a clear body doesn't begin `*/`
clear_here : (b : ℕ) (body rest : Text) → IsClear (b ∷ body) → closes_comment (b ∷ (body ++ (codes "*/" ++ rest))) 0 ≡ false
clear_here b [] rest clear = and_right (b == 42) false refl
clear_here b (c ∷ body) rest clear =
    false_from_ne_true (b == 42 && c == 47) (λ t.
    let parts = and_parts (b == 42) (c == 47) t in let star : b ≡ 42 = eqb-true b 42 parts.0 in
    let slash : c ≡ 47 = eqb-true c 47 parts.1 in
    clear [] body (rw (star, slash) refl))

-- and a body is clear where its first byte doesn't begin `*/` and its rest is clear
clear_more : (b : ℕ) (body rest : Text) → closes_comment (b ∷ (body ++ (codes "*/" ++ rest))) 0 ≡ false → IsClear body → IsClear (b ∷ body)
clear_more b body rest test clear [] back e =
    let star : b ≡ 42 = cc in let tail : body ≡ 47 ∷ back = cc in
    let slash : slice_index (body ++ (codes "*/" ++ rest)) 0 ≡ 47 = rw tail refl in
    both_ways _ test (and_from _ _ (eq-eqb b 42 star) (eq-eqb _ 47 slash))
clear_more b body rest test clear (f ∷ front) back e = clear front back (cc)

-- the scan finds the first `*/`
closing_found : (body rest : Text) → IsClear body → closing (body ++ (codes "*/" ++ rest)) ≡ Some (length body + 2)
unfolding closing
closing_found [] rest clear = refl
closing_found (b ∷ body) rest clear =
    let more = closing_found body rest (λ front back e. clear (b ∷ front) back (ap (λ (x : Text). b ∷ x) e)) in
    rw (clear_here b body rest clear, more) (ap (λ (n : ℕ). Some n) (omega arith))

closing_or_some : (found : Option ℕ) (n : ℕ) → closing_or false found ≡ Some n → (m : ℕ) × (found ≡ Some m) × (n ≡ m + 1)
closing_or_some None n e = absurd (cc e)
closing_or_some (Some m) n e = (m, refl, cc)

-- a text in which `*/` stands first after the body, n bytes from its front
pub record Splits (z : Text) (n : ℕ) : Type 0 where
  pub body : Text
  pub rest : Text
  pub splits : z ≡ body ++ (codes "*/" ++ rest)
  pub long : n ≡ length body + 2
  pub clear : IsClear body

splits_here : (b : ℕ) (z : Text) → closes_comment (b ∷ z) 0 ≡ true → Splits (b ∷ z) 2
splits_here b [] test = absurd (cc (and_parts (b == 42) false test).1)
splits_here b (c ∷ z) test =
    let parts = and_parts (b == 42) (c == 47) test in let star : b ≡ 42 = eqb-true b 42 parts.0 in
    let slash : c ≡ 47 = eqb-true c 47 parts.1 in
    record { body = []; rest = z; splits = rw (star, slash) refl; long = refl; clear = clear_nil }

splits_more : (b : ℕ) (z : Text) (m : ℕ) → closes_comment (b ∷ z) 0 ≡ false → Splits z m → Splits (b ∷ z) (m + 1)
splits_more b z m test s =
    let here : closes_comment (b ∷ (s.body ++ (codes "*/" ++ s.rest))) 0 ≡ false = rw (← s.splits) test in
    record {
      body = b ∷ s.body;
      rest = s.rest;
      splits = ap (λ (x : Text). b ∷ x) s.splits;
      long = omega (arith, s.long);
      clear = clear_more b s.body s.rest here s.clear;
    }

-- where the scan finds `*/`, the text splits there
pub closing_splits : (z : Text) (n : ℕ) → closing z ≡ Some n → Splits z n
unfolding closing
closing_splits [] n e = absurd (cc e)
closing_splits (b ∷ z) n e =
    elim (cases_Bool (closes_comment (b ∷ z) 0)) [
      | inl t ↦
          let two : n ≡ 2 = let f : Some 2 ≡ Some n = rw t at e in cc in
          rw two (splits_here b z t)
      | inr t ↦
          let found = closing_or_some (closing z) n (rw t at e) in
          rw found.2 (splits_more b z found.0 t (closing_splits z found.0 found.1))
    ]

-- ---- the length of a piece that is skipped

blank_len : (b : ℕ) (rest : Text) → is_white b ≡ true → skipped (b ∷ rest) ≡ 1
unfolding skipped
blank_len b rest white = rw white

comment_end : (rest : Text) → (rest ≡ []) ⊎ (is_line_end (slice_index rest 0) ≡ true) → prefix_len (is_in class.Comment) rest ≡ 0
comment_end rest (inl e) = rw e
comment_end rest (inr e) = run_none (is_in class.Comment) rest (rw e)

line_len : (body rest : Text) → All (λ b. is_line_end b ≡ false) body → (rest ≡ []) ⊎ (is_line_end (slice_index rest 0) ≡ true) →
    skipped (codes "//" ++ (body ++ rest)) ≡ 2 + length body
unfolding skipped opens_comment
line_len body rest inside ends =
    let long = run_exact (is_in class.Comment) body rest (λ k d h. not_from_false _ (inside k d h)) (comment_end rest ends) in
    omega (arith, long)

closed_len : (body rest : Text) → IsClear body → skipped (codes "/*" ++ (body ++ (codes "*/" ++ rest))) ≡ 4 + length body
unfolding skipped opens_comment
closed_len body rest clear = rw (closing_found body rest clear) (omega arith)

piece_len : (c rest : Text) → IsSkipped c rest → (skipped (c ++ rest) ≡ length c) × (0 < length c)
piece_len c rest (inl b) = rw b.spelled (blank_len b.byte rest b.white, omega arith)
piece_len c rest (inr (inl l)) = rw l.spelled (omega (arith, line_len l.body rest l.inside l.ends), omega arith)
piece_len c rest (inr (inr k)) =
    let long = closed_len k.body rest k.first in
    let end : length (k.body ++ codes "*/") ≡ length k.body + 2 = length-append k.body (codes "*/") in
    rw (k.spelled, append_assoc k.body (codes "*/") rest) (omega (arith, long, end), omega arith)

-- what is skipped is as long as the scan says, and has a byte
pub skips_len : (z c : Text) → Skips z c → (skipped z ≡ length c) × (0 < length c)
skips_len z c s = rw s.splits (piece_len c s.rest s.skipped)

-- at most one piece is skipped
pub skips_once : (z c d : Text) → Skips z c → Skips z d → c ≡ d
skips_once z c d s t =
    let long : length c ≡ length d = omega (arith, (skips_len z c s).0, (skips_len z d t).0) in
    let left : take (length c) z ≡ c = rw s.splits (take_at c s.rest (length c) refl) in
    let right : take (length c) z ≡ d = rw t.splits (take_at d t.rest (length c) (sym long)) in
    sym left ∙ right

-- n more bytes before what was found
pub shifted : ℕ → Option ℕ → Option ℕ
shifted n None = None
shifted n (Some m) = Some (n + m)

pub shifted_none : (found : Option ℕ) → shifted 0 found ≡ found
unfolding shifted
shifted_none None = refl
shifted_none (Some m) = ap (λ (n : ℕ). Some n) (omega arith)

shifted_more : (n : ℕ) (found : Option ℕ) → shifted n (closing_or false found) ≡ shifted (n + 1) found
unfolding shifted
shifted_more n None = refl
shifted_more n (Some m) = ap (λ (k : ℕ). Some k) (omega arith)

closing_at : (z : Text) (at : ℕ) → at < length z → closing (drop at z) ≡ closing_or (closes_comment z at) (closing (drop (at + 1) z))
unfolding closing
closing_at z at h = rw (drop_more z at 0 h, get_or-drop (at + 1) z 0 0, add-zero (at + 1)) refl

pub closing_goes : (z : Text) (at : ℕ) → at < length z → closes_comment z at ≡ false → shifted at (closing (drop at z)) ≡ shifted (at + 1)
    (closing (drop (at + 1) z))
closing_goes z at h test = rw (closing_at z at h, test) (shifted_more at (closing (drop (at + 1) z)))

pub closing_stops : (z : Text) (at : ℕ) → at < length z → closes_comment z at ≡ true → shifted at (closing (drop at z)) ≡ Some (at + 2)
unfolding shifted
closing_stops z at h test = rw (closing_at z at h, test) refl

pub closing_ends : (z : Text) (at : ℕ) → length z ≤ at → shifted at (closing (drop at z)) ≡ None
unfolding shifted closing
closing_ends z at h = rw (drop_all at z h) refl
