use Rattle.std.proofs.Common.{◌≡◌, sym, ◌∙◌, map, None}
use Rattle.std.proofs.lemmas.List.{length-map}
use Rattle.dp_lex.specs.Tokens.{lexeme}
use Rattle.dp_parse.specs.Depth.{depth_fault}
use Rattle.dp_parse.proofs.Results.{gives}
use Rattle.dp_parse.proofs.source.derive.Goals as goal

pub returns : goal.returns
returns c =
    let shallow : depth_fault (map lexeme c.args.tokens.now) ≡ None = sym c.depth_fault.ensures ∙ c.in_default.is in
    let tokens = c.args.tokens.now in
    rw c.outcome.ensures
    (gives (map lexeme tokens) c.program-found.new.tokens _ _ c.program-found.result (sym (length-map tokens lexeme)) c.len.ensures shallow
    (rw c.new-cursor.ensures at c.program-found.ensures))
