use Rattle.std.proofs.Common.{◌≡◌, true, false, rules}
use Rattle.dp_edge.specs.MemShelf.{is_same}
use Rattle.dp_system.proofs.OwnTexts.{other_content, own_content}
use Rattle.dp_system.proofs.own_text.OwnTextShelf.read.Goals as goal

pub returns-then-ne-clause-content : goal.returns-then-ne-clause-content
returns-then-ne-clause-content g c =
    let other : is_same c.args.name.now c.args.self.now.name.now ≡ false = search rules in
    other_content c.args.self.now.name.now c.args.self.now.text.now c.args.name.now c.args.room (g.S.Shelf.contents c.args.self.now.others) c.read.result other
    c.read.ensures.content

pub returns-clause-content : goal.returns-clause-content
returns-clause-content g c =
    let same : is_same c.args.name.now c.args.self.now.name.now ≡ true = search rules in
    own_content c.args.self.now.name.now c.args.self.now.text.now c.args.name.now c.args.room (g.S.Shelf.contents c.args.self.now.others) c.in_ok-bytes.bytes
    same c.in_ok-bytes.ensures.items
