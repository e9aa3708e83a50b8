-- A turn of the loop over a program's parts.
use Rattle.std.proofs.Common.{◌≡◌, refl, ap, ℕ, zero, suc, ◌-◌, ◌<◌, ◌≤◌, List, [], ◌∷◌, ◌++◌, length, Ok, Err, arith}
use Rattle.dp_lex.specs.Token.{Lexeme}
use Rattle.dp_tree.specs.declared.raw.RawItem.{RawItem}
use Rattle.dp_tree.specs.declared.raw.RawStmt.{RawStmt}
use Rattle.dp_parse.specs.declared.item.Part.{Part}
use Rattle.dp_parse.specs.declared.item.Part.TheVariants.{Item, Main as Body}
use Rattle.dp_tokens.specs.Steps.{Outcome, parse_then}
use Rattle.dp_parse.specs.steps.Programs as read

part_empty : read.part [] ≡ Err []
unfolding read.part Rattle.dp_tokens.specs.Steps.sees_symbol Rattle.dp_tokens.specs.Steps.same_symbol Rattle.dp_tokens.specs.Symbols.symbol_at
    Rattle.dp_tokens.specs.Steps.expect Rattle.dp_tokens.specs.Steps.after
part_empty = refl

pub program_none : (k : ℕ) (items : List RawItem) (ts left : List Lexeme) → read.part ts ≡ Err left → length ts ≤ k → read.program_from k items ts ≡ Err left
unfolding read.program_from
program_none zero items [] left e fits = ap Err (cc (part_empty, e))
program_none zero items (t ∷ ts) left e fits = absurd (omega arith)
program_none (suc k) items ts left e fits = ap (λ (o : Outcome Part). parse_then o (read.program_by (read.program_from k) items)) e

pub program_item : (k : ℕ) (items : List RawItem) (ts middle : List Lexeme) (i : RawItem) → read.part ts ≡ Ok (Item i, middle) →
    length middle < length ts → length ts ≤ k →
    read.program_from k items ts ≡ read.program_from (k - 1) (items ++ i ∷ []) middle
unfolding read.program_from
program_item zero items ts middle i e less fits = absurd (omega arith)
program_item (suc k) items ts middle i e less fits =
    let same : suc k - 1 ≡ k = omega arith in
    rw same (ap (λ (o : Outcome Part). parse_then o (read.program_by (read.program_from k) items)) e)

pub program_main : (k : ℕ) (items : List RawItem) (ts middle : List Lexeme) (body : List RawStmt) → read.part ts ≡ Ok (Body body, middle) →
    length middle < length ts → length ts ≤ k →
    read.program_from k items ts ≡ read.finished items body middle
unfolding read.program_from
program_main zero items ts middle body e less fits = absurd (omega arith)
program_main (suc k) items ts middle body e less fits = ap (λ (o : Outcome Part). parse_then o (read.program_by (read.program_from k) items)) e

pub finished_some : (items : List RawItem) (body : List RawStmt) (ts : List Lexeme) → 0 < length ts → read.finished items body ts ≡ Err ts
finished_some items body [] some = absurd (omega arith)
finished_some items body (t ∷ ts) some = refl

pub finished_none : (items : List RawItem) (body : List RawStmt) (ts : List Lexeme) → length ts ≤ 0 →
    read.finished items body ts ≡ Ok (record { items = items; main = body }, ts)
finished_none items body [] none = refl
finished_none items body (t ∷ ts) none = absurd (omega arith)
