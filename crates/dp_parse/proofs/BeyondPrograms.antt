-- A program is read at least to the end of what begins it.
use Rattle.std.proofs.Common.{◌≡◌, refl, ap, ◌∙◌, sym, ℕ, zero, suc, ◌≤◌, ◌-◌, Bool, true, false, List, [], ◌∷◌, ◌++◌, length, arith, inl, inr}
use Rattle.dp_base.specs.Arithmetic.{is_zero}
use Rattle.dp_lex.specs.Token.{Lexeme}
use Rattle.dp_tree.specs.declared.raw.RawStmt.{RawStmt}
use Rattle.dp_tree.specs.declared.raw.RawItem.{RawItem}
use Rattle.dp_tree.specs.declared.raw.RawProgram.{RawProgram}
use Rattle.dp_parse.specs.declared.item.Part.{Part as ReadPart}
use Rattle.dp_parse.specs.declared.item.Part.TheVariants.{Item as AnItem, Main as TheBody}
use Rattle.dp_tokens.specs.declared.symbol.Symbol.TheVariants.{Name, Int, Void, Main, Return, OpenParen, CloseParen, OpenBrace, CloseBrace, Semicolon}
use Rattle.dp_tokens.specs.Symbols.{symbol_at, Is}
use Rattle.dp_tokens.specs.Leaves.{IsNumber}
use Rattle.dp_parse.specs.Programs.{DerivesItems}
use Rattle.dp_parse.specs.Programs as derives
use Rattle.dp_parse.specs.Rules.{Part, Word, Of, Block, Item, Items, Tops, Ending, Body, Program}
use Rattle.dp_parse.specs.Begins.{Begins}
use Rattle.dp_parse.specs.Rules as rule
use Rattle.dp_tokens.specs.Steps.{Parser, ◌>>=◌, pure, eat, sees_symbol, after, many}
use Rattle.dp_tokens.specs.Numbers as numbers
use Rattle.dp_parse.specs.steps.Programs as read
use Rattle.dp_parse.proofs.StepLemmas.{eats, stays, after-le}
use Rattle.dp_parse.proofs.LeafLemmas.{reads_number, sees_of}
use Rattle.dp_parse.proofs.Spans.{shorter, no_longer}
use Rattle.dp_parse.proofs.StatementReads.{goes}
use Rattle.dp_parse.proofs.ProgramSteps.{program_item}
use Rattle.dp_parse.proofs.ProgramSound.{inside, DerivesPart, sound_part}
use Rattle.dp_parse.proofs.ProgramComplete.{part_int, part_void, ends_return, reads_tops, return_closes, reads_returned, reads_item}
use Rattle.dp_parse.proofs.StuckPrograms.{semicolon, returned_sound, returned_stuck, part_stuck, an_item, a_body}
use Rattle.dp_parse.proofs.Going.{Goes, GoesParts, by, last, token, last_zero, next_zero, within, past, normal, OrNone, word_first}
use Rattle.dp_parse.proofs.Beyond.{Beyond, Shrinks, shrinks_if, shrinks_as, begins_shorter, further, same_beyond, and_on, number_shrinks, Reading, Inner}
use Rattle.dp_parse.proofs.Beyond.{part_and, word_and, ends, mapped_and, many_shrinks}
use Rattle.dp_parse.proofs.BeyondCalls.{word_splits}
use Rattle.dp_parse.proofs.BeyondItems.{function_read, plain_read, started_read, below_read, bracket_read}
use Rattle.dp_parse.proofs.BeyondTops.{top_shrinks, tops_go}

-- ---- the end of `main`

semicolon_read : (n : ℕ) → Reading semicolon n (Word Semicolon ∷ [])
semicolon_read n = word_and Semicolon n [] _ (λ _. ends)

zero_shrinks : (b : Bool) → Shrinks (read.zero_by b)
zero_shrinks true from = and_on numbers.number (λ _. semicolon) (λ _. (semicolon_read 0).shrinks) from from (number_shrinks from)
zero_shrinks false from = omega arith

zero_opens : (t : Lexeme) (from : List Lexeme) → IsNumber t 0 → read.zero_by (numbers.sees_zero (t ∷ from)) (t ∷ from) ≡ semicolon from
unfolding is_zero
zero_opens t from h = ap (λ (b : Bool). read.zero_by b (t ∷ from)) (sees_of t 0 from h) ∙ goes (λ _. semicolon) (reads_number t 0 from h)

returned_opens : (w : Lexeme) (from : List Lexeme) → Is Return w → read.returned (w ∷ from) ≡ read.zero_by (numbers.sees_zero from) from
unfolding read.returned
returned_opens w from is = eats Return read.returned_by w from is

returned_goes : (from to : List Lexeme) → Goes Ending from to → Beyond (read.returned from) to
returned_goes from to (by rule.return (last {t} w)) = same_beyond to (returned_opens t to w) (zero_shrinks (numbers.sees_zero to) to)
returned_goes from to (by rule.return (token {t = word} w (last_zero {t} z))) =
    same_beyond to (returned_opens word (t ∷ to) w ∙ zero_opens t to z) ((semicolon_read 0).shrinks to)
returned_goes from to (by rule.return (token {t = word} w (next_zero {t} {from = middle} z g))) =
    same_beyond to (returned_opens word (t ∷ middle) w ∙ zero_opens t middle z) ((semicolon_read (length middle)).goes middle to (omega arith) g)

ending : (n : ℕ) (parts : List Part) → Inner read.returned Ending n (Word CloseBrace ∷ parts)
unfolding read.returned
ending n parts = record {
  shrinks = shrinks_as Ending read.returned returned_sound returned_stuck;
  goes = λ from to fits g. returned_goes from to g;
  reads = λ from middle to fits d g. let w = word_splits CloseBrace parts middle to g in (tt, reads_returned d w.0 w.1 w.2 w.3);
}

end_read : (n : ℕ) → Reading read.end n (Of Ending ∷ Word CloseBrace ∷ [])
unfolding read.end
end_read n = part_and read.returned Ending n _ (ending n []) _ (λ _. word_and CloseBrace n [] _ (λ _. ends))

return_first : {from to : List Lexeme} → Goes Ending from to → symbol_at from ≡ Return
unfolding symbol_at
return_first (by rule.return (last a)) = a
return_first (by rule.return (token a g)) = a

-- what may stand behind the statements of `main`
closes : (from to : List Lexeme) → GoesParts (Of Ending ∷ Word CloseBrace ∷ []) from to → read.ends from ≡ true
closes from to (within g) = ends_return from (return_first g)
closes from to (past {middle} d g) = let w = word_splits CloseBrace [] middle to g in return_closes d w.0 w.1 w.2 w.3

tops : (n : ℕ) → Inner (λ ts. many read.ends read.top (length ts) [] ts) Tops n (Of Ending ∷ Word CloseBrace ∷ [])
tops n = record {
  shrinks = λ from. many_shrinks read.top top_shrinks read.ends (length from) [] from;
  goes = λ from to fits g. tops_go g (length from) [] (omega arith);
  reads = λ from middle to fits d g. (d.0, reads_tops d.1 (closes middle to g) [] (length from) (omega arith));
}

inside_read : (n : ℕ) → Reading inside n (Word CloseParen ∷ Word OpenBrace ∷ Of Tops ∷ Of Ending ∷ Word CloseBrace ∷ [])
inside_read n = word_and CloseParen n _ _ (λ _. word_and OpenBrace n _ _ (λ _. part_and _ Tops n _ (tops n) _ (λ body. mapped_and read.end n _ (end_read n) _)))

void_shrinks : Shrinks (eat Void >>= (λ _. inside))
void_shrinks from = further _ (after Void from) from (after-le Void from) ((inside_read 0).shrinks (after Void from))

plain_goes : (n : ℕ) (from to : List Lexeme) → length from ≤ n → GoesParts (Word CloseParen ∷ Word OpenBrace ∷ Of Tops ∷ Of Ending ∷ Word CloseBrace ∷ []) from
    to → Beyond ((eat Void >>= (λ _. inside)) from) to
plain_goes n from to fits g =
    same_beyond to (stays Void (λ _. inside) from (λ e. let clash : CloseParen ≡ Void = sym (word_first g) ∙ e in cc clash))
    ((inside_read n).goes from to fits g)

void_goes : (n : ℕ) (from to : List Lexeme) → length from ≤ n → GoesParts (Word Void ∷ Word CloseParen ∷ Word OpenBrace ∷ Of Tops ∷ Of Ending ∷ Word CloseBrace
    ∷ []) from to → Beyond ((eat Void >>= (λ _. inside)) from) to
void_goes n from to fits (last {t} v) = same_beyond to (eats Void (λ _. inside) t to v) ((inside_read 0).shrinks to)
void_goes n from to fits (token {t} {from = middle} v g) = same_beyond to (eats Void (λ _. inside) t middle v) ((inside_read n).goes middle to (omega arith) g)

main_read : (n : ℕ) → Reading read.main_part n (Word OpenParen ∷ Word CloseParen ∷ Word OpenBrace ∷ Of Tops ∷ Of Ending ∷ Word CloseBrace ∷ [])
unfolding read.main_part
main_read n = word_and OpenParen n _ _ (λ _. record { shrinks = void_shrinks; goes = plain_goes n })

main_void_read : (n : ℕ) → Reading read.main_part n (Word OpenParen ∷ Word Void ∷ Word CloseParen ∷ Word OpenBrace ∷ Of Tops ∷ Of Ending ∷ Word CloseBrace ∷ [])
unfolding read.main_part
main_void_read n = word_and OpenParen n _ _ (λ _. record { shrinks = void_shrinks; goes = void_goes n })

-- ---- parts of a program

function_and : (n : ℕ) → Reading (read.function >>= (λ f. pure (AnItem f))) n (Word Name ∷ Word OpenParen ∷ Of rule.Params ∷ Word CloseParen ∷ Of Block ∷ [])
function_and n = mapped_and read.function n _ (function_read n) AnItem

global_shrinks : (b : Bool) → Shrinks (read.global_by b)
global_shrinks true = (mapped_and read.main_part 0 _ (main_read 0) TheBody).shrinks
global_shrinks false = (mapped_and read.variable 0 _ (plain_read 0) AnItem).shrinks

int_shrinks : Shrinks (eat Main >>= read.global_by)
int_shrinks from = further _ (after Main from) from (after-le Main from) (global_shrinks (sees_symbol Main from) (after Main from))

-- a variable, behind its `int`
variable_goes : (parts : List Part) → ((n : ℕ) → Reading read.variable n (Word Name ∷ parts)) → (from to : List Lexeme) →
    GoesParts (Word Int ∷ Word Name ∷ parts) from to → Beyond (read.part from) to
variable_goes parts r from to (last {t} i) = same_beyond to (part_int t to i) (int_shrinks to)
variable_goes parts r from to (token {t} {from = middle} i g) =
    same_beyond to (part_int t middle i ∙ stays Main read.global_by middle (λ e. let clash : Name ≡ Main = sym (word_first g) ∙ e in cc clash))
    ((mapped_and read.variable (length middle) _ (r (length middle)) AnItem).goes middle to (omega arith) g)

item_goes : (from to : List Lexeme) → Goes Item from to → Beyond (read.part from) to
item_goes from to (by rule.variable g) = variable_goes _ plain_read from to g
item_goes from to (by rule.started g) = variable_goes _ started_read from to g
item_goes from to (by rule.below_zero g) = variable_goes _ below_read from to g
item_goes from to (by rule.array g) = variable_goes _ bracket_read from to g
item_goes from to (by rule.function (last {t} v)) = same_beyond to (part_void t to v) ((function_and 0).shrinks to)
item_goes from to (by rule.function (token {t} {from = middle} v g)) =
    same_beyond to (part_void t middle v) ((function_and (length middle)).goes middle to (omega arith) g)

-- `main`, behind its `int`
body_by : (parts : List Part) → ((n : ℕ) → Reading read.main_part n parts) → (from to : List Lexeme) → GoesParts (Word Int ∷ Word Main ∷ parts) from to →
    Beyond (read.part from) to
body_by parts r from to (last {t} i) = same_beyond to (part_int t to i) (int_shrinks to)
body_by parts r from to (token {t} i (last {t = name} m)) =
    same_beyond to (part_int t (name ∷ to) i ∙ eats Main read.global_by name to m) (global_shrinks true to)
body_by parts r from to (token {t} i (token {t = name} {from = middle} m g)) =
    same_beyond to (part_int t (name ∷ middle) i ∙ eats Main read.global_by name middle m)
    ((mapped_and read.main_part (length middle) _ (r (length middle)) TheBody).goes middle to (omega arith) g)

body_goes : (from to : List Lexeme) → Goes Body from to → Beyond (read.part from) to
body_goes from to (by rule.main g) = body_by _ main_read from to g
body_goes from to (by rule.main_void g) = body_by _ main_void_read from to g

-- ---- whole programs

finished_shrinks : (items : List RawItem) (body : List RawStmt) → Shrinks (read.finished items body)
finished_shrinks items body [] = omega arith
finished_shrinks items body (t ∷ ts) = omega arith

program_by : (again : List RawItem → Parser RawProgram) → ((found : List RawItem) → Shrinks (again found)) → (found : List RawItem) (p : ReadPart) →
    Shrinks (read.program_by again found p)
program_by again goes found (AnItem i) = goes (found ++ i ∷ [])
program_by again goes found (TheBody body) = finished_shrinks found body

read_shorter : (from to : List Lexeme) (p : ReadPart) → DerivesPart from to p → length to ≤ length from
read_shorter from to (AnItem i) d = no_longer Item _ _ (_, d)
read_shorter from to (TheBody body) d = no_longer Body _ _ (_, d)

part_shrinks : Shrinks read.part
part_shrinks =
    shrinks_if read.part (λ from to p is. read_shorter from to p (sound_part from to p is)) (λ from to is. elim (part_stuck from to is) [
      | an_item b ↦
          begins_shorter b
      | a_body b ↦ begins_shorter b
    ])

from_shrinks : (k : ℕ) (found : List RawItem) → Shrinks (read.program_from k found)
unfolding read.program_from
from_shrinks zero found from = omega arith
from_shrinks (suc k) found from = and_on read.part (read.program_by (read.program_from k) found) (λ p. program_by (read.program_from k) (from_shrinks k) found
    p) from from (part_shrinks from)

from_first : (k : ℕ) (found : List RawItem) (from to : List Lexeme) → length from ≤ k → Beyond (read.part from) to → Beyond (read.program_from k found from) to
unfolding read.program_from
from_first zero found from to fits h = omega arith
from_first (suc k) found from to fits h =
    and_on read.part (read.program_by (read.program_from k) found) (λ p. program_by (read.program_from k) (from_shrinks k) found p) from to h

items_go : {from to : List Lexeme} → Goes Items from to → (k : ℕ) (found : List RawItem) → length from ≤ k → Beyond (read.program_from k found from) to
items_go (by {from} {to} rule.more_items (within g)) k found fits = from_first k found from to fits (item_goes from to g)
items_go (by {from} {to} rule.more_items (past {middle} d (within g))) k found fits =
    let less = shorter Item _ _ refl d in
    same_beyond to (program_item k found from middle d.0 (reads_item d.1) less fits) (items_go g (k - 1) (found ++ d.0 ∷ []) (omega arith))

then_body : {from middle : List Lexeme} {items : List RawItem} → DerivesItems from middle items → (to : List Lexeme) → Goes Body middle to →
    (k : ℕ) (found : List RawItem) → length from ≤ k → Beyond (read.program_from k found from) to
then_body (derives.none {to = from}) to g k found fits = from_first k found from to fits (body_goes from to g)
then_body (derives.more {from} {middle} {i} d ds) to g k found fits =
    let less = shorter Item _ _ refl (_, d) in
    same_beyond to (program_item k found from middle i (reads_item d) less fits) (then_body ds to g (k - 1) (found ++ i ∷ []) (omega arith))

program_goes : (from to : List Lexeme) → Goes Program from to → Beyond (read.program from) to
unfolding read.program
program_goes from to (by rule.program (within g)) = items_go g (length from) [] (omega arith)
program_goes from to (by rule.program (past d (within g))) = then_body d.1 to g (length from) [] (omega arith)

program_shrinks : Shrinks read.program
unfolding read.program
program_shrinks from = from_shrinks (length from) [] from

beyond_at : (from to : List Lexeme) → OrNone from to (Goes Program from to) → Beyond (read.program from) to
beyond_at from to (inl e) = rw (← e) (program_shrinks from)
beyond_at from to (inr g) = program_goes from to g

-- a program is read at least to the end of what begins one
pub program_beyond : (from to : List Lexeme) → Begins Program from to → Beyond (read.program from) to
program_beyond from to b = beyond_at from to (normal b)
