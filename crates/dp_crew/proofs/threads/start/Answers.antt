use denote.Param.Send.{sendable}
use Rattle.std.proofs.sync.Mutex.TheSendSync as mutex
use Rattle.std.proofs.option.Option.TheSendSync as option
use Rattle.dp_waiting.proofs.bell.Bell.TheSendSync as bell
use Rattle.dp_crew.proofs.Crossing.{unit_send}
use Rattle.dp_crew.proofs.threads.start.Goals as goal

pub spawn-requires-send-F : goal.spawn-requires-send-F
spawn-requires-send-F g c κs within =
    let r = c.type_bounds.sync-R in let t = c.type_bounds.sync-G in
    search (unit_send, option.the_send, mutex.the_sync, bell.the_sync, sendable) depth 60 fits 20000
