use Rattle.dp_calls.proofs.SameMeanings.{same_meaning}
use Rattle.dp_drive.proofs.accepted.SameText.{same_state_text, same_text}
use Rattle.dp_drive.proofs.law.run_texts_agree.Goals as goal

pub returns : goal.returns
returns c plans input fuel why =
    let same = same_meaning c.args.p.now c.requires.checked in
    record {
      state = same_state_text c.args.p.now c.requires.inlined same plans input fuel why;
      text = same_text c.args.p.now c.requires.inlined same plans input fuel why;
    }
