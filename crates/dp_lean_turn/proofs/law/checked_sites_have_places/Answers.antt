use Rattle.dp_lean_turn.proofs.CheckedPlaces.{checked_places}
use Rattle.dp_lean_turn.proofs.law.checked_sites_have_places.Goals as goal

pub returns : goal.returns
returns c = checked_places c.args.p.now c.args.plan.now c.requires.inlined c.requires.fits
