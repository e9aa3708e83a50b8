use Rattle.std.proofs.Common.{refl}
use Rattle.dp_lean_judge.proofs.Storing.{grows_none, grows_push}
use Rattle.dp_lean_judge.proofs.collected.Collected.store.Goals as goal

pub returns-in_err-replace_compared-clause-grows : goal.returns-in_err-replace_compared-clause-grows
returns-in_err-replace_compared-clause-grows c = grows_none c.args.self.now _ refl refl

pub returns-clause-grows : goal.returns-clause-grows
returns-clause-grows c = grows_push c.args.self.now _ _ c.push.result c.push.ensures.ok c.push.ensures.err refl
