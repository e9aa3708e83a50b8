-- A sink in memory.
use Rattle.std.specs.Prelude.{◌≡◌, ℕ, ◌+◌, ◌-◌, Bool, true, false, nat_le, List, ◌++◌, length, take, Option, Some, None, Result, Ok, Err}
use Rattle.std.specs.Option.{option_map, unwrap_or}
use Rattle.dp_edge.specs.declared.sink.PutFail.{PutFail}
use Rattle.dp_edge.specs.declared.sink.PutFail.TheVariants.{Failed, NoMemory}

-- the bytes that were put, how many more there is room for where that is limited, and the count of faults
pub record Basin : Type 0 where
  pub bytes : List ℕ
  pub left : Option ℕ
  pub faults : ℕ

-- there is room for so many bytes
abbrev pub has_room_for : Option ℕ → ℕ → Bool
has_room_for None n = true
has_room_for (Some left) n = nat_le n left

-- `Ok` comes where all bytes fit, `Failed` where they don't, and want of memory in the place of either.
abbrev pub AnswersPut : {X : Type 0} → Result X PutFail → Basin → List ℕ → Type 0
AnswersPut (Ok done) basin bytes = has_room_for basin.left (length bytes) ≡ true
AnswersPut (Err Failed) basin bytes = has_room_for basin.left (length bytes) ≡ false
AnswersPut (Err NoMemory) basin bytes = Unit {0}

-- The sink after a put that answers so. A failed one takes as many bytes as there is room for and counts a fault.
abbrev pub after_put : {X : Type 0} → Result X PutFail → Basin → List ℕ → Basin
after_put (Ok done) basin bytes =
    record basin { bytes = basin.bytes ++ bytes; left = option_map (λ left. left - length bytes) basin.left }
after_put (Err Failed) basin bytes =
    record basin { bytes = basin.bytes ++ take (unwrap_or basin.left 0) bytes; left = Some 0; faults = basin.faults + 1 }
after_put (Err NoMemory) basin bytes = basin
