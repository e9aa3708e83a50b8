use Rattle.std.proofs.Common.{◌∙◌, ◌<◌, ◌-◌, length, arith}
use Rattle.dp_lex.specs.Tokens.{stays}
use Rattle.dp_parse.proofs.Texts.{next_token, next_within, all_tokens, refused_token}
use Rattle.dp_parse.proofs.source.read_tokens.Goals as goal

pub loop-token-init : goal.loop-token-init
loop-token-init c = (rw (c.new-tokens.ensures, c.new-lexer.ensures.place) stays, c.new-lexer.ensures.text, omega arith)

pub loop-token-smaller : goal.loop-token-smaller
loop-token-smaller c =
    let l = c.loop-token in let text = c.args.text.now in
    let next = rw c.in-Ok-Some.field-0-is at c.in-Ok-Some.ensures.next in
    let within = next_within text l.lexer.text l.invariant.1 l.tokens l.lexer.place c.next.new.self.place l.invariant.0 l.invariant.2 c.in-Ok-Some.token next in
    let a = within.0 in let b = within.1 in
    let smaller : length text - c.next.new.self.place < length text - l.lexer.place = omega arith in smaller

pub loop-token-preserved : goal.loop-token-preserved
loop-token-preserved c =
    let l = c.loop-token in let text = c.args.text.now in
    let next = rw c.in-Ok-Some.field-0-is at c.in-Ok-Some.ensures.next in
    let within = next_within text l.lexer.text l.invariant.1 l.tokens l.lexer.place c.next.new.self.place l.invariant.0 l.invariant.2 c.in-Ok-Some.token next in (
      rw c.in_ok-push-in-Ok-Some.ensures.ok (next_token text l.lexer.text l.invariant.1 l.tokens l.lexer.place c.next.new.self.place l.invariant.0 l.invariant.2
          c.in-Ok-Some.token next),
      c.next.ensures.text ∙ l.invariant.1,
      within.1,
    )

pub returns-in-Ok-None : goal.returns-in-Ok-None
returns-in-Ok-None c =
    let l = c.loop-token in let next = rw c.in-Ok-None.field-0-is at c.in-Ok-None.ensures.next in
    all_tokens c.args.text.now l.lexer.text l.invariant.1 l.tokens l.lexer.place c.next.new.self.place l.invariant.0 l.invariant.2 next.0 next.1

pub returns-in-Err : goal.returns-in-Err
returns-in-Err c =
    let l = c.loop-token in let next = c.in-Err.ensures.next in
    refused_token c.args.text.now l.lexer.text l.invariant.1 l.tokens l.lexer.place c.next.new.self.place l.invariant.0 l.invariant.2 c.in-Err.refused.place
    next.0 next.1 next.2
