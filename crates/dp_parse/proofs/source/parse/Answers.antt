use Rattle.std.proofs.Common.{ap, length, map, arith}
use Rattle.dp_lex.specs.Tokens.{lexeme}
use Rattle.dp_parse.proofs.Texts.{few_tokens}
use Rattle.dp_parse.proofs.Results.{parses, unread}
use Rattle.dp_parse.proofs.source.parse.Goals as goal

pub derive-requires : goal.derive-requires
derive-requires c =
    let few = few_tokens c.args.text.now c.in-Ok.tokens c.in-Ok.ensures in let same = ap length c.as_slice.ensures in
    let short = c.requires in
    omega arith

pub returns-in-Ok : goal.returns-in-Ok
returns-in-Ok c =
    parses c.args.text.now (map lexeme c.in-Ok.tokens) c.derive.result c.in-Ok.ensures (rw c.as_slice.ensures at c.derive.ensures)

pub returns-in-Err : goal.returns-in-Err
returns-in-Err c = unread c.args.text.now c.in-Err.fail c.in-Err.ensures
