use Rattle.std.proofs.Common.{◌≡◌, length, take, sym, ap, ◌∙◌, subst, rules}
use Rattle.std.specs.Io.KnownBytes.{Consumes}
use Rattle.dp_system.proofs.KnownBytes.{appended_cut, written_whole}
use Rattle.dp_system.proofs.file_shelf.take_block.Goals as goal

pub returns-in-Ok-clause-bytes : goal.returns-in-Ok-clause-bytes
returns-in-Ok-clause-bytes g c =
    let long : c.resize.new.self.len ≡ length c.read_at.new.bytes = search rules in
    let kept = c.truncate.ensures.items ∙ ap (take _) (written_whole c.resize.new.self.len c.read_at.new.bytes _ long) in
    let cut = appended_cut c.args.bytes.now.items c.read_at.new.bytes c.truncate.new.self.items c.len-at.result c.in-Ok.n (search rules) kept in
    subst (Consumes _ _) (sym cut) c.in-Ok.ensures.taken
