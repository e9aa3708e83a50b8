-- Where a program is stuck, the tokens before that place begin one.
use Rattle.std.proofs.Common.{◌≡◌, refl, ap, ◌∙◌, sym, ℕ, zero, suc, ℤ, pos, Bool, true, false, List, [], ◌∷◌, ◌++◌, length, ◌⊎◌, inl, inr, Ok, Err}
use Rattle.dp_base.specs.Arithmetic.{is_zero}
use Rattle.dp_lex.specs.Token.{Lexeme}
use Rattle.dp_tree.specs.declared.raw.RawStmt.{RawStmt}
use Rattle.dp_tree.specs.declared.raw.RawItem.{RawItem}
use Rattle.dp_tree.specs.declared.raw.RawProgram.{RawProgram}
use Rattle.dp_parse.specs.declared.item.Part.{Part as ReadPart}
use Rattle.dp_parse.specs.declared.item.Part.TheVariants.{Item as AnItem, Main as TheBody}
use Rattle.dp_tokens.specs.declared.symbol.Symbol.TheVariants.{Mark, Int, Void, Main, Return, While, For, OpenParen, CloseParen, OpenBrace, CloseBrace}
use Rattle.dp_tokens.specs.declared.symbol.Symbol.TheVariants.{Semicolon}
use Rattle.dp_tokens.specs.Symbols.{Is}
use Rattle.dp_parse.specs.Programs as derives
use Rattle.dp_parse.specs.Rules.{Word, Zero, Of, Condition, Head, Loop, Item, Items, Tops, Ending, Body, Program}
use Rattle.dp_parse.specs.Begins.{Derived, Begins, BeginsParts, by, none, within, token, past}
use Rattle.dp_parse.specs.Rules as rule
use Rattle.dp_tokens.specs.Steps.{Outcome, Parser, ◌>>=◌, pure, parse_then, expect, eat, many}
use Rattle.dp_tokens.specs.Numbers as numbers
use Rattle.dp_parse.specs.steps.Statements as statements
use Rattle.dp_parse.specs.steps.Programs as read
use Rattle.dp_parse.proofs.StepLemmas.{took, Ate, ate}
use Rattle.dp_parse.proofs.StepLemmas as steps
use Rattle.dp_parse.proofs.LeafLemmas.{read_number, sees_of}
use Rattle.dp_parse.proofs.StatementSound.{sound_statement}
use Rattle.dp_parse.proofs.RegionSound.{Marked, by_while, by_for, read_region}
use Rattle.dp_parse.proofs.ItemSound.{zero_is}
use Rattle.dp_parse.proofs.ProgramSound.{many_tops, returned_ate, inside, sound_part, number_zero}
use Rattle.dp_parse.proofs.Stuck.{Fails, Reader, token_at, seq, done, word, number_stuck, reader, mapped, seq_or, Eaten, passed, stayed, eaten, refused}
use Rattle.dp_parse.proofs.Stuck.{many_stuck}
use Rattle.dp_parse.proofs.StuckStatements.{statement_stuck}
use Rattle.dp_parse.proofs.StuckRegions.{region_fails}
use Rattle.dp_parse.proofs.StuckItems.{function_stuck, variable_stuck}

-- ---- `main`

marked : (mark : Lexeme) (from to : List Lexeme) → Is Mark mark →
    BeginsParts (Word While ∷ Of Condition ∷ Of Loop ∷ Of Tops ∷ []) from to ⊎ BeginsParts (Word For ∷ Of Head ∷ Of Loop ∷ Of Tops ∷ []) from to →
    Begins Tops (mark ∷ from) to
marked mark from to m (inl b) = by rule.region (token m b)
marked mark from to m (inr b) = by rule.for_region (token m b)

top_eaten : (n : ℕ) (from to : List Lexeme) → Eaten Mark (read.top_by n) from (Err to) → Begins Tops from to
top_eaten n from to (passed t left is splits h) = rw splits (marked t left to is (region_fails n (Of Tops ∷ []) left to h))
top_eaten n from to (stayed other h) = by rule.statement (within (statement_stuck n from to h))

top_stuck : (from to : List Lexeme) → read.top from ≡ Err to → Begins Tops from to
unfolding read.top
top_stuck from to h = top_eaten (length from) from to (eaten Mark (read.top_by (length from)) (Err to) from (λ k. cc k) h)

region_passes : (n : ℕ) (mark : Lexeme) (from middle to : List Lexeme) (s : RawStmt) → Is Mark mark →
    Marked (statements.statement n) (sound_statement n) from middle s → Begins Tops middle to → Begins Tops (mark ∷ from) to
region_passes n mark from middle to s m (by_while keyword behind inner cond body w splits d r made) b =
    by rule.region (token m (token_at splits w (past (cond, d) (past (body, r) (within b)))))
region_passes n mark from middle to s m (by_for keyword behind inner first next cond body w splits d r made) b =
    by rule.for_region (token m (token_at splits w (past (first, cond, next, d) (past (body, r) (within b)))))

top_ate : (n : ℕ) (from middle to : List Lexeme) (s : RawStmt) → Ate Mark (read.top_by n) from s middle → Begins Tops middle to → Begins Tops from to
top_ate n from middle to s (steps.passed t left is splits e) b =
    rw splits (region_passes n t left middle to s is (read_region (statements.statement n) (sound_statement n) left middle s e) b)
top_ate n from middle to s (steps.stayed other e) b = by rule.statement (past (s, sound_statement n from middle s e) (within b))

top_passes : (from middle to : List Lexeme) (s : RawStmt) → read.top from ≡ Ok (s, middle) → Begins Tops middle to → Begins Tops from to
unfolding read.top
top_passes from middle to s h b = top_ate (length from) from middle to s (ate Mark (read.top_by (length from)) s middle from (λ k. cc) h) b

tops : Reader (λ ts. many read.ends read.top (length ts) [] ts) (Of Tops)
tops = reader Tops (λ ts. many read.ends read.top (length ts) [] ts)
    (λ from to a e. let m = many_tops (length from) from to [] a e in
    (m.0, m.2)) (λ from to e. many_stuck Tops read.top top_stuck read.ends top_passes (length from) [] from to e)

abbrev pub semicolon : Parser (Unit {0})
semicolon = expect Semicolon >>= (λ _. pure tt)

number_at : (from to : List Lexeme) (o : Outcome ℤ) → numbers.sees_zero from ≡ true → numbers.number from ≡ o → parse_then o (λ _. semicolon) ≡ Err to →
    BeginsParts (Zero ∷ Word Semicolon ∷ []) from to
number_at from to (Ok x) seen is h =
    let n = read_number from x.1 x.0 is in
    let zero : is_zero (pos n.value) ≡ true = sym (sees_of n.token n.value x.1 n.is) ∙ ap numbers.sees_zero (sym n.splits) ∙ seen in
    rw n.splits (token {p = Zero} (number_zero n.token n.value (zero_is (pos n.value) n.value refl zero) n.is) (seq (word Semicolon) _ (λ _. done) x.1 to h))
number_at from to (Err left) seen is h = let same : left ≡ to = cc h in rw (number_stuck from to (is ∙ ap Err same)) none

zero_at : (from to : List Lexeme) (b : Bool) → numbers.sees_zero from ≡ b → read.zero_by b from ≡ Err to → BeginsParts (Zero ∷ Word Semicolon ∷ []) from to
zero_at from to true seen h = number_at from to (numbers.number from) seen refl h
zero_at from to false seen h = let same : from ≡ to = cc h in rw same none

returned_eaten : (from to : List Lexeme) → Eaten Return read.returned_by from (Err to) → Begins Ending from to
returned_eaten from to (passed t left is splits h) = by rule.return (rw splits (token is (zero_at left to (numbers.sees_zero left) refl h)))
returned_eaten from to (stayed other h) = absurd (cc h)

pub returned_stuck : (from to : List Lexeme) → read.returned from ≡ Err to → Begins Ending from to
unfolding read.returned
returned_stuck from to h = returned_eaten from to (eaten Return read.returned_by (Err to) from (λ k. cc k) h)

pub returned_sound : (from to : List Lexeme) (u : Unit {0}) → read.returned from ≡ Ok (u, to) → Derived Ending from to
unfolding read.returned
returned_sound from to u h = returned_ate from to u (ate Return read.returned_by u to from (λ k. cc) h)

end_fails : Fails read.end (Of Ending ∷ Word CloseBrace ∷ [])
unfolding read.end
end_fails from to h = seq (reader Ending read.returned returned_sound returned_stuck) _ (λ _. seq (word CloseBrace) _ (λ _. done)) from to h

inside_fails : Fails inside (Word CloseParen ∷ Word OpenBrace ∷ Of Tops ∷ Of Ending ∷ Word CloseBrace ∷ [])
inside_fails from to h = seq (word CloseParen) _ (λ _. seq (word OpenBrace) _ (λ _. seq tops _ (λ body. mapped end_fails _))) from to h

void_eaten : (from to : List Lexeme) → Eaten Void (λ _. inside) from (Err to) →
    BeginsParts (Word CloseParen ∷ Word OpenBrace ∷ Of Tops ∷ Of Ending ∷ Word CloseBrace ∷ []) from to
    ⊎ BeginsParts (Word Void ∷ Word CloseParen ∷ Word OpenBrace ∷ Of Tops ∷ Of Ending ∷ Word CloseBrace ∷ []) from to
void_eaten from to (passed t left is splits h) = inr (rw splits (token is (inside_fails left to h)))
void_eaten from to (stayed other h) = inl (inside_fails from to h)

main_by : (int name : Lexeme) (from to : List Lexeme) → Is Int int → Is Main name →
    BeginsParts (Word OpenParen ∷ Word CloseParen ∷ Word OpenBrace ∷ Of Tops ∷ Of Ending ∷ Word CloseBrace ∷ []) from to
    ⊎ BeginsParts (Word OpenParen ∷ Word Void ∷ Word CloseParen ∷ Word OpenBrace ∷ Of Tops ∷ Of Ending ∷ Word CloseBrace ∷ []) from to →
    Begins Body (int ∷ name ∷ from) to
main_by int name from to i m (inl b) = by rule.main (token i (token m b))
main_by int name from to i m (inr b) = by rule.main_void (token i (token m b))

main_stuck : (int name : Lexeme) (from to : List Lexeme) → Is Int int → Is Main name → read.main_part from ≡ Err to → Begins Body (int ∷ name ∷ from) to
unfolding read.main_part
main_stuck int name from to i m h =
    main_by int name from to i m
    (seq_or (word OpenParen) _ (λ _. λ middle end e. void_eaten middle end (eaten Void (λ _. inside) (Err end) middle (λ k. cc k) e)) from to h)

-- ---- parts of a program

pub data PartBegins (from to : List Lexeme) : Type 0 where
  an_item : Begins Item from to → PartBegins from to
  a_body : Begins Body from to → PartBegins from to

global_at : {A : Type 0} (p : Parser A) (f : A → ReadPart) (from to : List Lexeme) (o : Outcome A) → p from ≡ o →
    parse_then o (λ x. pure (f x)) ≡ Err to → p from ≡ Err to
global_at p f from to (Ok x) is h = absurd (cc h)
global_at p f from to (Err left) is h = let same : left ≡ to = cc h in is ∙ ap Err same

global_eaten : (int : Lexeme) (from to : List Lexeme) → Is Int int → Eaten Main read.global_by from (Err to) → PartBegins (int ∷ from) to
global_eaten int from to i (passed t left is splits h) =
    a_body (rw splits (main_stuck int t left to i is (global_at read.main_part TheBody left to (read.main_part left) refl h)))
global_eaten int from to i (stayed other h) = an_item (variable_stuck int from to i (global_at read.variable AnItem from to (read.variable from) refl h))

int_at : (from to : List Lexeme) (o : Outcome Lexeme) → expect Int from ≡ o → parse_then o (λ _. eat Main >>= read.global_by) ≡ Err to → PartBegins from to
int_at from to (Ok x) is h =
    let t = took Int from x.0 x.1 is in
    rw t.splits (global_eaten x.0 x.1 to t.is (eaten Main read.global_by (Err to) x.1 (λ k. cc k) h))
int_at from to (Err left) is h = let same : left ≡ to = cc h in an_item (by rule.variable ((word Int).stuck _ from to (is ∙ ap Err same)))

part_eaten : (from to : List Lexeme) → Eaten Void read.part_by from (Err to) → PartBegins from to
part_eaten from to (passed t left is splits h) =
    an_item (rw splits (function_stuck t left to is (global_at read.function AnItem left to (read.function left) refl h)))
part_eaten from to (stayed other h) = int_at from to (expect Int from) refl h

pub part_stuck : (from to : List Lexeme) → read.part from ≡ Err to → PartBegins from to
unfolding read.part
part_stuck from to h = part_eaten from to (eaten Void read.part_by (Err to) from (λ k. cc k) h)

-- ---- whole programs

-- the parts that are left
data Rest (from to : List Lexeme) : Type 0 where
  of_items : Begins Items from to → Rest from to
  of_body : (middle : List Lexeme) → Derived Items from middle → BeginsParts (Of Body ∷ []) middle to → Rest from to

longer : (from middle to : List Lexeme) (i : RawItem) → derives.DerivesItem from middle i → Rest middle to → Rest from to
longer from middle to i d (of_items b) = of_items (by rule.more_items (past (i, d) (within b)))
longer from middle to i d (of_body last ds b) = of_body last (i ∷ ds.0, derives.more d ds.1) b

first : (from to : List Lexeme) → PartBegins from to → Rest from to
first from to (an_item b) = of_items (by rule.more_items (within b))
first from to (a_body b) = of_body from ([], derives.none) (within b)

finished_at : (found : List RawItem) (body : List RawStmt) (from middle to : List Lexeme) → derives.DerivesMain from middle body →
    read.finished found body middle ≡ Err to → Rest from to
finished_at found body from [] to d h = absurd (cc h)
finished_at found body from (t ∷ middle) to d h = let same : t ∷ middle ≡ to = cc h in of_body from ([], derives.none) (past (body, d) (rw same none))

part_at : (again : List RawItem → Parser RawProgram) (goes : (found : List RawItem) (from to : List Lexeme) → again found from ≡ Err to → Rest from to)
    (found : List RawItem) (from middle to : List Lexeme) (part : ReadPart) → read.part from ≡ Ok (part, middle) →
    read.program_by again found part middle ≡ Err to → Rest from to
part_at again goes found from middle to (AnItem i) is h = longer from middle to i (sound_part from middle (AnItem i) is) (goes (found ++ i ∷ []) middle to h)
part_at again goes found from middle to (TheBody body) is h = finished_at found body from middle to (sound_part from middle (TheBody body) is) h

parts_at : (again : List RawItem → Parser RawProgram) (goes : (found : List RawItem) (from to : List Lexeme) → again found from ≡ Err to → Rest from to)
    (found : List RawItem) (from to : List Lexeme) (o : Outcome ReadPart) → read.part from ≡ o →
    parse_then o (read.program_by again found) ≡ Err to → Rest from to
parts_at again goes found from to (Ok x) is h = part_at again goes found from x.1 to x.0 is h
parts_at again goes found from to (Err left) is h = let same : left ≡ to = cc h in first from to (part_stuck from to (is ∙ ap Err same))

from_stuck : (n : ℕ) (found : List RawItem) (from to : List Lexeme) → read.program_from n found from ≡ Err to → Rest from to
unfolding read.program_from
from_stuck zero found from to h = of_items (refused from to h)
from_stuck (suc n) found from to h = parts_at (read.program_from n) (from_stuck n) found from to (read.part from) refl h

whole : (from to : List Lexeme) → Rest from to → Begins Program from to
whole from to (of_items b) = by rule.program (within b)
whole from to (of_body middle ds b) = by rule.program (past ds b)

-- what stands before the place where a program is stuck begins one
pub program_stuck : (from to : List Lexeme) → read.program from ≡ Err to → Begins Program from to
unfolding read.program
program_stuck from to h = whole from to (from_stuck (length from) [] from to h)
