use Rattle.std.proofs.Common.{◌≡◌, ◌-◌, ◌<◌, ◌==◌, false, pos_of_ne-zero, drop, take, length, Some, None, ap, sym, ◌∙◌}
use Rattle.std.proofs.lemmas.Bool.{eqb-false}
use Rattle.std.proofs.lemmas.List.{take_rest}
use Rattle.dp_lex.specs.Characters.{Text}
use Rattle.dp_lex.specs.Tokens.{Reading, line_at}
use Rattle.dp_lex.specs.Scan.{front}
use Rattle.dp_lex.proofs.Reading.{reads_token, inside_take, stuck_from_scan}
use Rattle.dp_lex.proofs.lexer.Lexer.next.Goals as goal

pub returns-in_default-clause-next : goal.returns-in_default-clause-next
returns-in_default-clause-next c =
    let text = c.self.inside.text.now in let place = c.self.inside.place in
    let same : drop place text ≡ drop c.skip.new.self.place c.args.self.now.text = ap (λ (v : Reading). drop v.place v.text) c.self.view_is
    ∙ ap (λ (t : Text). drop c.skip.new.self.place t) c.skip.ensures.text in
    let value : c.front.result ≡ front (drop place text) = rw (take_rest text place) at c.front.ensures.value in
    let found : front (drop place text) ≡ None = sym value ∙ c.in_default.is in
    let full : (length (drop place text) == 0) ≡ false = sym (rw (take_rest text place) at c.is_empty.ensures) ∙ c.if-is_empty.false in
    let some : 0 < length (drop place text) = pos_of_ne-zero (eqb-false (length (drop place text)) 0 full) in
    let stuck = stuck_from_scan (drop c.skip.new.self.place c.args.self.now.text) (rw same at some) c.skip.ensures.done (rw same at found) in
    (c.skip.ensures.reads, stuck, sym (ap (λ (v : Reading). v.place) c.self.view_is))

pub invariant_of-self : goal.invariant_of-self
invariant_of-self c =
    let text = c.self.inside.text.now in let place = c.self.inside.place in
    let value : c.front.result ≡ front (drop place text) = rw (take_rest text place) at c.front.ensures.value in
    inside_take text place c.self.inside.line c.in-Some.kind c.in-Some.len c.self.invariant (sym value ∙ c.in-Some.is)

pub returns-clause-next : goal.returns-clause-next
returns-clause-next c =
    let text = c.self.inside.text.now in let place = c.self.inside.place in let mid = c.skip.new.self.place in
    let whole = c.args.self.now.text in
    let same_text : text ≡ whole = ap (λ (v : Reading). v.text) c.self.view_is ∙ c.skip.ensures.text in
    let same_place : place ≡ mid = ap (λ (v : Reading). v.place) c.self.view_is in
    let same : drop place text ≡ drop mid whole = rw (same_place, same_text) in
    let value : c.front.result ≡ front (drop place text) = rw (take_rest text place) at c.front.ensures.value in
    let found : front (drop mid whole) ≡ Some (c.in-Some.kind, c.in-Some.len) = rw same at (sym value ∙ c.in-Some.is) in
    let line : c.self.inside.line ≡ line_at whole mid = rw (← same_place, ← same_text) c.self.invariant.counted in
    let cut : take c.in-Some.len (take (length text - place) (drop place text)) ≡ take c.in-Some.len (drop mid whole) = rw (take_rest text place, same) in
    reads_token whole c.args.self.now.place mid c.in-Some.kind c.in-Some.len c.skip.ensures.reads found _ c.self.inside.line place cut line same_place
