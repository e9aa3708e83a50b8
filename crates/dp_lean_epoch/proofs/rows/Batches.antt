-- How iterations of a batch stand, and what the columns of several stages have, computed.
use Rattle.std.proofs.Common.{◌≡◌, refl, [], ◌∷◌, pos, None}
use Rattle.dp_net.specs.NetPackets.{NetStatus, NetGoing, NetClosing, NetVoid, NetPacket}
use Rattle.dp_lean.specs.Queues.{Did}
use Rattle.dp_columns.specs.declared.ColumnKind.TheVariants.{Value, Nothing}
use Rattle.dp_columns.specs.Columned.{nothing_kept, with_told}
use Rattle.dp_lean_epoch.specs.Holding.{StageColumns}
use Rattle.dp_lean_epoch.specs.LeanBatch.{stood_in, steps_among, columns_of}

abbrev packet : NetStatus → NetPacket
packet status = record { lists = []; status = status; version = None }

-- two that go on
whole : stood_in (packet NetGoing ∷ packet NetGoing ∷ []) ≡ record { iterations = 2; ends = NetGoing }
whole = refl

-- the second one closes, and nothing behind it counts
closes : stood_in (packet NetGoing ∷ packet NetClosing ∷ packet NetGoing ∷ []) ≡ record { iterations = 2; ends = NetClosing }
closes = refl

-- the second one is void: one came to its end
breaks_off : stood_in (packet NetGoing ∷ packet NetVoid ∷ []) ≡ record { iterations = 1; ends = NetVoid }
breaks_off = refl

none : stood_in (packet NetVoid ∷ []) ≡ record { iterations = 0; ends = NetVoid }
none = refl

-- two stages, of which the first has run one iteration more
abbrev first : StageColumns
first = record { columns = with_told 0 (Did 7 (pos 5)) (nothing_kept (Value 7 ∷ Nothing ∷ [])); steps = 4 ∷ 6 ∷ 9 ∷ [] }

abbrev second : StageColumns
second = record { columns = nothing_kept (Nothing ∷ Value 3 ∷ []); steps = 1 ∷ 2 ∷ [] }

steps : steps_among (first ∷ second ∷ []) 1 ≡ 8
steps = refl

of_stage : columns_of (first ∷ second ∷ []) 2 ≡ second
of_stage = refl
