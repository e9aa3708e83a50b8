use Rattle.dp_net.proofs.NetSent.{ends_stay_so}
use Rattle.dp_net.proofs.BatchMeanings.{batches_mean}
use Rattle.dp_net.proofs.BatchPlaces.{batches_whole, next_has_some}
use Rattle.dp_net.proofs.law.batches_follow_each_other.Goals as goal

pub returns-clause-stay : goal.returns-clause-stay
returns-clause-stay c = ends_stay_so

pub returns-clause-whole : goal.returns-clause-whole
returns-clause-whole c = batches_whole

pub returns-clause-next : goal.returns-clause-next
returns-clause-next c = next_has_some

pub returns-clause-mean : goal.returns-clause-mean
returns-clause-mean c = batches_mean
