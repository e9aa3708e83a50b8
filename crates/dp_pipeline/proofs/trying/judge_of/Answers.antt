use Rattle.std.proofs.Common.{sym, refl}
use Rattle.dp_pipeline.specs.Carried.{lean_of}
use Rattle.dp_pipeline.specs.Keys.{key_of}
use Rattle.dp_pipeline.proofs.trying.judge_of.Goals as goal

pub returns : goal.returns
returns c =
    let is = c.requires.setting in
    c.new.ensures.begins (lean_of (key_of c.args.setting.key.epoch)) is.lawful.lean is.lawful.judge is.lawful.begins.judge (sym c.into_base.ensures) refl
