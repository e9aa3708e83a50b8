-- A statement as it is read: by the symbol that comes next.
use Rattle.std.proofs.Common.{◌≡◌, refl, ap, ℕ, zero, suc, ◌-◌, ◌<◌, List, arith}
use Rattle.dp_lex.specs.Token.{Lexeme}
use Rattle.dp_tree.specs.declared.raw.RawStmt.{RawStmt}
use Rattle.dp_tokens.specs.declared.symbol.Symbol.{Symbol}
use Rattle.dp_tokens.specs.declared.symbol.Symbol.TheVariants.{Int, Name, Print, While, For}
use Rattle.dp_tokens.specs.Symbols.{symbol_at}
use Rattle.dp_tokens.specs.Steps.{Parser}
use Rattle.dp_parse.specs.steps.Statements as read

pub statement_opens : (n : ℕ) (ts : List Lexeme) (k : Symbol) → 0 < n → symbol_at ts ≡ k → read.statement n ts ≡ read.statement_by (read.statement (n - 1)) k ts
unfolding read.statement
statement_opens zero ts k some e = absurd (omega arith)
statement_opens (suc n) ts k some e =
    let same : suc n - 1 ≡ n = omega arith in
    rw same (ap (λ (s : Symbol). read.statement_by (read.statement n) s ts) e)

-- any other symbol has to begin an `if`
pub choice_by : (statement : Parser RawStmt) (k : Symbol) → (k ≡ Int → ⊥) → (k ≡ Name → ⊥) → (k ≡ Print → ⊥) → (k ≡ While → ⊥) → (k ≡ For → ⊥) →
    read.statement_by statement k ≡ read.choice statement
choice_by statement Int i n p w f = absurd (i refl)
choice_by statement Name i n p w f = absurd (n refl)
choice_by statement Print i n p w f = absurd (p refl)
choice_by statement While i n p w f = absurd (w refl)
choice_by statement For i n p w f = absurd (f refl)
choice_by statement _ i n p w f = refl
