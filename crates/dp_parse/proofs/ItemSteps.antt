-- Parameters, and statements of `main`, take tokens.
use Rattle.std.proofs.Common.{◌≡◌, refl, ap, ◌∙◌, ℕ, ◌<◌, Bool, true, false, ◌||◌, List, ◌∷◌, length, arith, Ok}
use Rattle.dp_lex.specs.Token.{Lexeme}
use Rattle.dp_tree.specs.declared.raw.Name.{Name as TreeName}
use Rattle.dp_tokens.specs.declared.symbol.Symbol.TheVariants.{Int, Name, Mark, Return, CloseBrace}
use Rattle.dp_tokens.specs.Symbols.{Is}
use Rattle.dp_tokens.specs.Leaves.{name_of}
use Rattle.dp_tokens.specs.Steps.{name, sees_symbol}
use Rattle.dp_parse.specs.steps.Programs.{param, top, top_by, ends}
use Rattle.dp_parse.specs.steps.Statements.{statement}
use Rattle.dp_parse.proofs.StepLemmas.{takes, Ate, passed, stayed, ate, seen_some}
use Rattle.dp_parse.proofs.LeafLemmas.{read_name}
use Rattle.dp_parse.specs.Rules as rule
use Rattle.dp_parse.proofs.Spans.{shorter}
use Rattle.dp_parse.proofs.StatementSound.{sound_statement}
use Rattle.dp_parse.proofs.RegionSound.{Marked, by_while, by_for, read_region}
use Rattle.dp_tree.specs.declared.raw.RawStmt.{RawStmt}

-- a parameter: its `int` and its name
pub record Param (from to : List Lexeme) (n : TreeName) : Type 0 where
  pub int : Lexeme
  pub token : Lexeme
  pub is_int : Is Int int
  pub is : Is Name token
  pub splits : from ≡ int ∷ token ∷ to
  pub called : n ≡ name_of token

pub read_param : (from to : List Lexeme) (n : TreeName) → param from ≡ Ok (n, to) → Param from to n
unfolding param
read_param from to n e =
    let h = takes Int from (λ _. name) n to e in let r = read_name h.middle to n h.second in
    record { int = h.value; token = r.token; is_int = h.is; is = r.is; splits = h.splits ∙ ap (λ (ts : List Lexeme). h.value ∷ ts) r.splits; called = r.called }

pub param_shorter : (from to : List Lexeme) (n : TreeName) → param from ≡ Ok (n, to) → length to < length from
param_shorter from to n e = let r = read_param from to n e in let same = ap length r.splits in omega arith

marked_shorter : (n : ℕ) (from to : List Lexeme) (s : RawStmt) → Marked (statement n) (sound_statement n) from to s → length to < length from
marked_shorter n from to s (by_while word inside middle cond body w splits d b made) =
    let a = shorter rule.Condition _ _ refl (_, d) in let c = shorter rule.Loop _ _ refl (_, b) in let same = ap length splits in omega arith
marked_shorter n from to s (by_for word inside middle first step cond body w splits d b made) = let a = shorter rule.Head _ _ refl (_, _, _, d) in
    let c = shorter rule.Loop _ _ refl (_, b) in let same = ap length splits in omega arith

top_at : (n : ℕ) (from to : List Lexeme) (s : RawStmt) → Ate Mark (top_by n) from s to → length to < length from
top_at n from to s (passed t middle is splits e) =
    let same = ap length splits in
    let less = marked_shorter n middle to s (read_region (statement n) (sound_statement n) middle to s e) in
    omega arith
top_at n from to s (stayed other e) = shorter rule.Statement _ _ refl (_, sound_statement n from to s e)

pub top_shorter : (from to : List Lexeme) (s : RawStmt) → top from ≡ Ok (s, to) → length to < length from
unfolding top
top_shorter from to s e = top_at (length from) from to s (ate Mark (top_by (length from)) s to from (λ k. cc) e)

ends_by : (ts : List Lexeme) (a b : Bool) → sees_symbol Return ts ≡ a → sees_symbol CloseBrace ts ≡ b → (a || b) ≡ true → 0 < length ts
ends_by ts true b p q h = seen_some Return ts (λ e. cc) p
ends_by ts false true p q h = seen_some CloseBrace ts (λ e. cc) q
ends_by ts false false p q h = absurd (cc)

pub ends_some : (ts : List Lexeme) → ends ts ≡ true → 0 < length ts
unfolding ends
ends_some ts h = ends_by ts (sees_symbol Return ts) (sees_symbol CloseBrace ts) refl refl h
