-- A unit may go to another thread: each type that holds a line of its region, from the innermost on.
use denote.Param.Send.{IsSend, sendable, recorded_send}
use denote.Ref.{NamedLft}
use Rattle.std.proofs.alloc.Global.TheSendSync as heap
use Rattle.std.proofs.option.Option.TheSendSync as option
use Rattle.dp_room.proofs.boxed.Boxed.TheSendSync as boxed
use Rattle.dp_lane.proofs.send_end.SendEnd.TheSendSync as send_end
use Rattle.dp_lane.proofs.take_end.TakeEnd.TheSendSync as take_end
use Rattle.dp_ring.proofs.producer.ProducerSeat.TheSendSync as producer
use Rattle.dp_ring.proofs.worker.WorkerSeat.TheSendSync as worker
use Rattle.dp_ring.proofs.consumer.ConsumerSeat.TheSendSync as consumer
use Rattle.dp_relay.proofs.relay.Relay.TheSendSync as relay
use Rattle.dp_pipeline.proofs.staged.Staged.TheSendSync as staged
use Rattle.dp_pipeline.proofs.judge.Judge.TheSendSync as judge
use Rattle.dp_pipeline.proofs.Crossing.{line_send, line_field_send, batch_send, batch_field_send, carried_send, carried_field_send}
use Rattle.dp_pipeline.proofs.Crossing.{judged_send, judged_field_send, spare_send, spare_field_send}
use Rattle.dp_pipeline.specs.contracts.supply.Supply as Supply
use Rattle.dp_pipeline.specs.contracts.start.Start as Start
use Rattle.dp_pipeline.specs.contracts.source.Source as Source
use Rattle.dp_pipeline.specs.contracts.target.Target as Target
use Rattle.dp_pipeline.specs.contracts.passage.Passage as Passage
use Rattle.dp_pipeline.specs.contracts.tickets.Tickets as Tickets
use Rattle.dp_pipeline.specs.contracts.judging.Judging as Judging
use Rattle.dp_pipeline.specs.contracts.unit.Kind as Kind
use Rattle.dp_pipeline.specs.contracts.unit.Unit as Unit
use Rattle.dp_pipeline.specs.contracts.unit.Unit.TheInside as Inside

ruleset items = (
  line_send,
  line_field_send,
  batch_send,
  batch_field_send,
  carried_send,
  carried_field_send,
  judged_send,
  judged_field_send,
  spare_send,
  spare_field_send,
  sendable,
)

pub supply_field_send : (a : NamedLft) → IsSend (Supply.the_field a).row
supply_field_send a = search (items, heap.the_field_send, heap.the_send, option.the_send, take_end.the_send) depth 60 fits 20000

pub supply_send : (a : NamedLft) → IsSend (Supply.the_row a)
supply_send a = recorded_send (Supply.the_field a).row _ _ (Supply.the_type a).to_one (supply_field_send a)

pub start_field_send : (a : NamedLft) → IsSend (Start.the_field a).row
start_field_send a = let s = supply_send a in let f = supply_field_send a in search (items) depth 60 fits 20000

pub start_send : (a : NamedLft) → IsSend (Start.the_row a)
start_send a = recorded_send (Start.the_field a).row _ _ (Start.the_type a).to_one (start_field_send a)

pub source_send : (a : NamedLft) → IsSend (Source.the_row a)
source_send a = let s = start_send a in let f = start_field_send a in search (items, take_end.the_send, consumer.the_send) depth 60 fits 20000

pub source_field_send : (a : NamedLft) → IsSend (Source.the_field a).row
source_field_send a = let s = start_send a in let f = start_field_send a in search (items, take_end.the_send, consumer.the_send) depth 60 fits 20000

pub target_send : (a : NamedLft) → IsSend (Target.the_row a)
target_send a = search (items, send_end.the_send, producer.the_send) depth 60 fits 20000

pub target_field_send : (a : NamedLft) → IsSend (Target.the_field a).row
target_field_send a = search (items, send_end.the_send, producer.the_send) depth 60 fits 20000

pub passage_field_send : (a : NamedLft) → IsSend (Passage.the_field a).row
passage_field_send a = let s = source_send a in let f = source_field_send a in let t = target_send a in let g = target_field_send a in
    search (items) depth 60 fits 20000

pub passage_send : (a : NamedLft) → IsSend (Passage.the_row a)
passage_send a = recorded_send (Passage.the_field a).row _ _ (Passage.the_type a).to_one (passage_field_send a)

pub tickets_field_send : (a : NamedLft) → IsSend (Tickets.the_field a).row
tickets_field_send a = search (items, worker.the_send) depth 60 fits 20000

pub tickets_send : (a : NamedLft) → IsSend (Tickets.the_row a)
tickets_send a = recorded_send (Tickets.the_field a).row _ _ (Tickets.the_type a).to_one (tickets_field_send a)

pub judging_field_send : (a : NamedLft) → IsSend (Judging.the_field a).row
judging_field_send a = let s = source_send a in let f = source_field_send a in search (items, send_end.the_send) depth 60 fits 20000

pub judging_send : (a : NamedLft) → IsSend (Judging.the_row a)
judging_send a = recorded_send (Judging.the_field a).row _ _ (Judging.the_type a).to_one (judging_field_send a)

pub kind_send : (a : NamedLft) → IsSend (Kind.the_row a)
kind_send a = let p = passage_send a in let t = tickets_send a in let j = judging_send a in
    search (relay.the_send, staged.the_field_send, staged.the_send, judge.the_field_send, judge.the_send, items) depth 60 fits 20000

pub kind_field_send : (a : NamedLft) → IsSend (Kind.the_field a).row
kind_field_send a = let p = passage_send a in let t = tickets_send a in let j = judging_send a in
    search (relay.the_send, staged.the_field_send, staged.the_send, judge.the_field_send, judge.the_send, items) depth 60 fits 20000

inside_field_send : (a : NamedLft) → IsSend (Inside.the_field a).row
inside_field_send a = let k = kind_send a in let f = kind_field_send a in search (boxed.the_send, sendable) depth 60 fits 20000

inside_send : (a : NamedLft) → IsSend (Inside.the_row a)
inside_send a = recorded_send (Inside.the_field a).row _ _ (Inside.the_type a).to_one (inside_field_send a)

pub unit_send : (a : NamedLft) → IsSend (Unit.the_row a)
unit_send a = let k = inside_send a in search (sendable) depth 60 fits 20000
