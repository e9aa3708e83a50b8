-- The statements of `main` are read at least to the end of what begins them.
use Rattle.std.proofs.Common.{◌≡◌, refl, ◌∙◌, sym, ℕ, ◌≤◌, ◌-◌, Bool, true, false, List, [], ◌∷◌, ◌++◌, length, arith}
use Rattle.dp_lex.specs.Token.{Lexeme}
use Rattle.dp_tree.specs.declared.raw.RawStmt.{RawStmt}
use Rattle.dp_tokens.specs.declared.symbol.Symbol.TheVariants.{Mark, Return, Else, CloseBrace}
use Rattle.dp_tokens.specs.Symbols.{symbol_at, Is}
use Rattle.dp_parse.specs.Rules.{Part, Statement, Condition, Loop, Tops}
use Rattle.dp_parse.specs.Rules as rule
use Rattle.dp_tokens.specs.Steps.{sees_symbol, after, many}
use Rattle.dp_parse.specs.steps.Statements as statements
use Rattle.dp_parse.specs.steps.Regions as regions
use Rattle.dp_parse.specs.steps.Programs as read
use Rattle.dp_parse.proofs.StepLemmas.{eats, stays, after-le, unlike}
use Rattle.dp_parse.proofs.Lists.{many_turn}
use Rattle.dp_parse.proofs.Spans.{shorter}
use Rattle.dp_parse.proofs.StatementReads.{first_not, begins_not}
use Rattle.dp_parse.proofs.ProgramComplete.{ends_not, reads_top_statement, reads_region, reads_for_region, region_turn}
use Rattle.dp_parse.proofs.Going.{Goes, GoesParts, by, last, token, within, past, word_first}
use Rattle.dp_parse.proofs.Beyond.{Beyond, Shrinks, further, same_beyond, Reading, many_first}
use Rattle.dp_parse.proofs.BeyondStatements.{statement_goes, statement_shrinks}
use Rattle.dp_parse.proofs.BeyondRegions.{while_read, for_read}

top_by : (n : ℕ) (b : Bool) → Shrinks (read.top_by n b)
top_by n true from = (while_read n).shrinks from
top_by n false from = statement_shrinks n from

pub top_shrinks : Shrinks read.top
unfolding read.top
top_shrinks from = further _ (after Mark from) from (after-le Mark from) (top_by (length from) (sees_symbol Mark from) (after Mark from))

top_statement : (from to : List Lexeme) → Goes Statement from to → Beyond (read.top from) to
unfolding read.top
top_statement from to g =
    same_beyond to (stays Mark (read.top_by (length from)) from (first_not g Mark refl)) (statement_goes (length from) from to (omega arith) g)

top_mark : (mark : Lexeme) (from to : List Lexeme) → Is Mark mark → Beyond (regions.region (statements.statement (length (mark ∷ from))) from) to →
    Beyond (read.top (mark ∷ from)) to
unfolding read.top
top_mark mark from to m h = same_beyond to (eats Mark (read.top_by (length (mark ∷ from))) mark from m) h

region_begun : (parts : List Part) → ((n : ℕ) → Reading (regions.region (statements.statement n)) n parts) → (mark : Lexeme) (from to : List Lexeme) →
    Is Mark mark → GoesParts parts from to → Beyond (read.top (mark ∷ from)) to
region_begun parts r mark from to m g =
    let n = length (mark ∷ from) in
    top_mark mark from to m ((r n).goes from to (omega arith) g)

many_begun : (k : ℕ) (found : List RawStmt) (mark : Lexeme) (from to : List Lexeme) → length (mark ∷ from) ≤ k → Is Mark mark →
    Beyond (read.top (mark ∷ from)) to → Beyond (many read.ends read.top k found (mark ∷ from)) to
many_begun k found mark from to fits m h =
    many_first read.top top_shrinks read.ends k found (mark ∷ from) to fits (ends_not (mark ∷ from) (unlike mark from Mark Return m (λ e. cc e))
    (unlike mark from Mark CloseBrace m (λ e. cc e))) h

tops_first : {from to : List Lexeme} → Goes Tops from to → symbol_at from ≡ Else → ⊥
tops_first (by rule.statement (within g)) at = first_not g Else refl at
tops_first (by rule.statement (past d g)) at = begins_not d.1 Else refl at
tops_first (by rule.for_region g) at = let clash : Mark ≡ Else = sym (word_first g) ∙ at in cc clash
tops_first (by rule.region g) at = let clash : Mark ≡ Else = sym (word_first g) ∙ at in cc clash

pub tops_go : {from to : List Lexeme} → Goes Tops from to → (k : ℕ) (found : List RawStmt) → length from ≤ k → Beyond (many read.ends read.top k found from) to
tops_go (by {from} {to} rule.statement (within g)) k found fits =
    many_first read.top top_shrinks read.ends k found from to fits (ends_not from (first_not g Return refl) (first_not g CloseBrace refl))
    (top_statement from to g)
tops_go (by {from} {to} rule.statement (past {middle} d (within g))) k found fits =
    let less = shorter Statement _ _ refl d in
    same_beyond to (many_turn read.top read.ends k found from middle d.0 (ends_not from (begins_not d.1 Return refl) (begins_not d.1 CloseBrace refl))
    (reads_top_statement from middle d.0 d.1 (tops_first g)) less fits)
    (tops_go g (k - 1) (found ++ d.0 ∷ []) (omega arith))
tops_go (by rule.region (last {t = mark} {to} m)) k found fits =
    let n = length (mark ∷ to) in
    many_begun k found mark to to fits m (top_mark mark to to m ((while_read n).shrinks to))
tops_go (by {to} rule.region (token {t = mark} {from = middle} m (last w))) k found fits =
    many_begun k found mark middle to fits m (region_begun _ while_read mark middle to m (last w))
tops_go (by {to} rule.region (token {t = mark} {from = middle} m (token w (within g)))) k found fits =
    many_begun k found mark middle to fits m (region_begun _ while_read mark middle to m (token w (within g)))
tops_go (by {to} rule.region (token {t = mark} {from = middle} m (token w (past c (within g))))) k found fits =
    many_begun k found mark middle to fits m (region_begun _ while_read mark middle to m (token w (past c (within g))))
tops_go (by {to} rule.region (token {t = mark} m (token {t = word} {from = inner} w (past {middle = tested} c (past {middle = left} b (within g)))))) k found
    fits =
    let less = shorter Condition _ _ refl c in let loop_less = shorter Loop _ _ refl b in
    same_beyond to (region_turn mark (word ∷ inner) left _ m (reads_region mark word inner tested left c.0 b.0 m w c.1 b.1) (omega arith) found k fits)
    (tops_go g (k - 1) _ (omega arith))
tops_go (by rule.for_region (last {t = mark} {to} m)) k found fits =
    let n = length (mark ∷ to) in
    many_begun k found mark to to fits m (top_mark mark to to m ((for_read n).shrinks to))
tops_go (by {to} rule.for_region (token {t = mark} {from = middle} m (last w))) k found fits =
    many_begun k found mark middle to fits m (region_begun _ for_read mark middle to m (last w))
tops_go (by {to} rule.for_region (token {t = mark} {from = middle} m (token w (within g)))) k found fits =
    many_begun k found mark middle to fits m (region_begun _ for_read mark middle to m (token w (within g)))
tops_go (by {to} rule.for_region (token {t = mark} {from = middle} m (token w (past c (within g))))) k found fits =
    many_begun k found mark middle to fits m (region_begun _ for_read mark middle to m (token w (past c (within g))))
tops_go (by {to} rule.for_region (token {t = mark} m (token {t = word} {from = inner} w (past {middle = tested} c (past {middle = left} b (within g)))))) k
    found fits =
    let less = shorter rule.Head _ _ refl c in let loop_less = shorter Loop _ _ refl b in
    same_beyond to (region_turn mark (word ∷ inner) left _ m (reads_for_region mark word inner tested left c.0 c.2 c.1 b.0 m w c.3 b.1)
    (omega arith) found k fits)
    (tops_go g (k - 1) _ (omega arith))
