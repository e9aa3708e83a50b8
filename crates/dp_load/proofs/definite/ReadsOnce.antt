-- A text is read in one way only: as one program, or with one refusal.
use Rattle.std.proofs.Common.{◌≡◌, refl, sym, ap, ◌∙◌, subst, inl, inr, ℕ, ◌+◌, ◌≤◌, ◌<◌, List, length, Option, Some, None, Result, Err, arith}
use Rattle.std.proofs.lemmas.Bool.{cases_lt}
use Rattle.dp_base.specs.declared.Quantity.{Quantity}
use Rattle.dp_base.specs.declared.Quantity.TheVariants.{ProgramBytes}
use Rattle.dp_lex.specs.Token.{Lexeme}
use Rattle.dp_lex.specs.Tokens.{Tokens, RefusedAt}
use Rattle.dp_lex.proofs.Definite.{tokens_not_refused, tokens_once, refused_once}
use Rattle.dp_tree.specs.declared.Program.{Program}
use Rattle.dp_tree.specs.declared.raw.RawProgram.{RawProgram}
use Rattle.dp_parse.specs.Depth.{depth_fault}
use Rattle.dp_parse.specs.Parses.{ParsesAs, NestsTooDeep, DerivesNothing, LeavesAt}
use Rattle.dp_parse.specs.Programs.{Derives}
use Rattle.dp_parse.proofs.ProgramComplete.{one_program}
use Rattle.dp_check.specs.CheckAnswer.{check_answer}
use Rattle.dp_refusal.specs.declared.refusal.Refusal.{Refusal}
use Rattle.dp_refusal.specs.declared.refusal.Refusal.TheVariants.{Byte, Syntax, Limit}
use Rattle.dp_load.specs.Program.{Reads, TooLong, NoToken, TooDeep, NoTree, Checked, checked_read}

-- the refusal of a depth
abbrev limit_of : Option (Quantity × ℕ) → Result Program Refusal
limit_of None = Err (Syntax 0)
limit_of (Some fault) = Err (Limit fault.0 fault.1)

module _ (text : List ℕ) where
  same_depth : (tokens others : List Lexeme) → Tokens text tokens → Tokens text others → depth_fault tokens ≡ depth_fault others
  same_depth tokens others a b = ap depth_fault (tokens_once text tokens others a b)

  shallow_and_deep : {A : Type 0} (tokens others : List Lexeme) (quantity : Quantity) (count : ℕ) → Tokens text tokens → Tokens text others →
      depth_fault tokens ≡ Some (quantity, count) → depth_fault others ≡ None → A
  shallow_and_deep tokens others quantity count a b deep shallow =
      let clash : Some (quantity, count) ≡ None = sym deep ∙ same_depth tokens others a b ∙ shallow in absurd (cc clash)

  from_too_long : {b : Result Program Refusal} → 65536 < length text → Reads text b → Err (Limit ProgramBytes 65537) ≡ b
  from_too_long h (TooLong k) = refl
  from_too_long h (NoToken place k r) = absurd (omega (arith, h, k))
  from_too_long h (TooDeep quantity count k d) = absurd (omega (arith, h, k))
  from_too_long h (NoTree token k d) = absurd (omega (arith, h, k))
  from_too_long h (Checked raw k d) = absurd (omega (arith, h, k))

  from_no_token : {b : Result Program Refusal} (place : ℕ) → length text ≤ 65536 → RefusedAt text place → Reads text b → Err (Byte place) ≡ b
  from_no_token place h r (TooLong k) = absurd (omega (arith, h, k))
  from_no_token place h r (NoToken other k s) = ap (λ (n : ℕ). Err (Byte n)) (refused_once text place other r s)
  from_no_token place h r (TooDeep quantity count k d) = absurd (tokens_not_refused text d.tokens place d.of_text r)
  from_no_token place h r (NoTree token k d) = absurd (tokens_not_refused text d.tokens place d.of_text r)
  from_no_token place h r (Checked raw k d) = absurd (tokens_not_refused text d.tokens place d.of_text r)

  from_too_deep : {b : Result Program Refusal} (quantity : Quantity) (count : ℕ) → length text ≤ 65536 → NestsTooDeep text quantity count → Reads text b →
      Err (Limit quantity count) ≡ b
  from_too_deep quantity count h d (TooLong k) = absurd (omega (arith, h, k))
  from_too_deep quantity count h d (NoToken place k s) = absurd (tokens_not_refused text d.tokens place d.of_text s)
  from_too_deep quantity count h d (TooDeep other more k e) =
      let same : Some (quantity, count) ≡ Some (other, more) = sym d.deep ∙ same_depth d.tokens e.tokens d.of_text e.of_text ∙ e.deep in
      ap limit_of same
  from_too_deep quantity count h d (NoTree token k e) = shallow_and_deep d.tokens e.tokens quantity count d.of_text e.of_text d.deep e.shallow
  from_too_deep quantity count h d (Checked raw k e) = shallow_and_deep d.tokens e.tokens quantity count d.of_text e.of_text d.deep e.shallow

  derives_here : (tokens others : List Lexeme) (raw : RawProgram) → Tokens text tokens → Tokens text others → Derives others raw → Derives tokens raw
  derives_here tokens others raw a b d = subst (λ (list : List Lexeme). Derives list raw) (tokens_once text others tokens b a) d

  -- tokens leave the grammar at one place
  not_later : (tokens : List Lexeme) (token other : ℕ) → LeavesAt tokens token → LeavesAt tokens other → token < other → ⊥
  not_later tokens token other a b less = let size = b.within in a.leaves (omega (arith, size, less)) (b.begins (token + 1) (omega (arith, less)))

  one_place : (tokens : List Lexeme) (token other : ℕ) → LeavesAt tokens token → LeavesAt tokens other → token ≡ other
  one_place tokens token other a b = elim (cases_lt token other) [
    | inl less ↦ absurd (not_later tokens token other a b less)
    | inr most ↦ elim (cases_lt other token) [
      | inl more ↦ absurd (not_later tokens other token b a more)
      | inr least ↦ omega (arith, most, least)
    ]
  ]

  from_no_tree : {b : Result Program Refusal} (token : ℕ) → length text ≤ 65536 → DerivesNothing text token → Reads text b → Err (Syntax token) ≡ b
  from_no_tree token h d (TooLong k) = absurd (omega (arith, h, k))
  from_no_tree token h d (NoToken place k s) = absurd (tokens_not_refused text d.tokens place d.of_text s)
  from_no_tree token h d (TooDeep quantity count k e) = shallow_and_deep e.tokens d.tokens quantity count e.of_text d.of_text e.deep d.shallow
  from_no_tree token h d (NoTree other k e) =
      ap (λ (n : ℕ). Err (Syntax n))
      (one_place d.tokens token other d.place (subst (λ (list : List Lexeme). LeavesAt list other)
      (tokens_once text e.tokens d.tokens e.of_text d.of_text) e.place))
  from_no_tree token h d (Checked raw k e) = absurd (d.none raw (derives_here d.tokens e.tokens raw d.of_text e.of_text e.derives))

  from_checked : {b : Result Program Refusal} (raw : RawProgram) → length text ≤ 65536 → ParsesAs text raw → Reads text b → checked_read (check_answer raw) ≡ b
  from_checked raw h d (TooLong k) = absurd (omega (arith, h, k))
  from_checked raw h d (NoToken place k s) = absurd (tokens_not_refused text d.tokens place d.of_text s)
  from_checked raw h d (TooDeep quantity count k e) = shallow_and_deep e.tokens d.tokens quantity count e.of_text d.of_text e.deep d.shallow
  from_checked raw h d (NoTree token k e) = absurd (e.none raw (derives_here e.tokens d.tokens raw e.of_text d.of_text d.derives))
  from_checked raw h d (Checked other k e) =
      ap (λ (x : RawProgram). checked_read (check_answer x))
      (one_program d.tokens raw other d.derives (derives_here d.tokens e.tokens other d.of_text e.of_text e.derives))

  pub reads_once : {a b : Result Program Refusal} → Reads text a → Reads text b → a ≡ b
  reads_once (TooLong h) r = from_too_long h r
  reads_once (NoToken place h s) r = from_no_token place h s r
  reads_once (TooDeep quantity count h d) r = from_too_deep quantity count h d r
  reads_once (NoTree token h d) r = from_no_tree token h d r
  reads_once (Checked raw h d) r = from_checked raw h d r
