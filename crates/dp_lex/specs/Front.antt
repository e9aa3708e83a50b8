-- What may stand at the front of a text: white space, a comment or a token.
use Rattle.std.specs.Prelude.{◌≡◌, ℕ, ◌≤◌, ◌⊎◌, ◌≢◌, true, false, [], ◌∷◌, ◌++◌, length, slice_index, codes, All}
use Rattle.dp_lex.specs.declared.TokenKind.{TokenKind}
use Rattle.dp_lex.specs.Characters.{Text, is_white, is_line_end}
use Rattle.dp_lex.specs.Spelling.{IsSpelled, MayPrecede}

-- one byte of white space
pub record IsBlank (c : Text) : Type 0 where
  pub byte : ℕ
  pub white : is_white byte ≡ true
  pub spelled : c ≡ byte ∷ []

-- `//` and what stands up to the end of the line or of the text
pub record IsLineComment (c rest : Text) : Type 0 where
  pub body : Text
  pub inside : All (λ b. is_line_end b ≡ false) body
  pub spelled : c ≡ codes "//" ++ body
  pub ends : (rest ≡ []) ⊎ (is_line_end (slice_index rest 0) ≡ true)

-- `/*` and what stands up to the first `*/` after it, and that
pub record IsBlockComment (c : Text) : Type 0 where
  pub body : Text
  pub first : (front back : Text) → body ≢ front ++ (codes "*/" ++ back)
  pub spelled : c ≡ codes "/*" ++ (body ++ codes "*/")

-- c is skipped where rest follows it
abbrev pub IsSkipped : Text → Text → Type 0
IsSkipped c rest = IsBlank c ⊎ IsLineComment c rest ⊎ IsBlockComment c

-- c stands at the front of z and is skipped
pub record Skips (z c : Text) : Type 0 where
  pub rest : Text
  pub splits : z ≡ c ++ rest
  pub skipped : IsSkipped c rest

-- a comment opens at the front of z, whether it is closed or not
abbrev pub OpensComment : Text → Type 0
OpensComment z = (slice_index z 0 ≡ 47) × ((slice_index z 1 ≡ 47) ⊎ (slice_index z 1 ≡ 42))

-- a token of the kind, spelled w, can stand at the front of z
pub record CanStand (kind : TokenKind) (w z : Text) : Type 0 where
  pub rest : Text
  pub splits : z ≡ w ++ rest
  pub spelled : IsSpelled kind w
  pub alone : MayPrecede kind rest

-- the token at the front of z is of the kind and spelled w: the longest that can stand there, and no comment opens
pub record BeginsWithToken (z : Text) (kind : TokenKind) (w : Text) : Type 0 where
  pub no_comment : ¬ OpensComment z
  pub stands : CanStand kind w z
  pub longest : (other : TokenKind) (v : Text) → CanStand other v z → length v ≤ length w

-- z goes on with something that is neither skipped nor begins a token
pub record IsStuck (z : Text) : Type 0 where
  pub more : z ≢ []
  pub not_skipped : (c : Text) → ¬ Skips z c
  pub no_token : (kind : TokenKind) (w : Text) → ¬ BeginsWithToken z kind w
