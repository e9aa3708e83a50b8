use Rattle.std.proofs.Common.{◌∙◌, ap, refl, Some}
use Rattle.dp_messages.specs.Finding.{IsMade, NotTaken}
use Rattle.dp_messages.proofs.reason.why.Goals as goal

pub returns-in-None-clause-finds : goal.returns-in-None-clause-finds
returns-in-None-clause-finds g c = NotTaken (rw c.in-None.is at c.in_ok-asked.ensures.none) refl

pub returns-in-Some-Gen-clause-finds : goal.returns-in-Some-Gen-clause-finds
returns-in-Some-Gen-clause-finds g c = IsMade _ (rw (c.in-Some-Gen.is ∙ ap Some c.in-Some-Gen.field-0-is) at c.in_ok-asked.ensures.some) refl
