-- A shelf in memory.
use Rattle.std.specs.Prelude.{◌≡◌, ℕ, ◌+◌, ◌-◌, ◌^◌, min, Bool, if◌then◌else◌, nat_le, ◌==◌, List, [], ◌∷◌, ◌++◌, length, Option, Some, None, Result, Ok, Err}
use Rattle.std.specs.Prelude.{Vec}
use Rattle.std.specs.List.{find, list_any}
use Rattle.std.specs.Option.{option_map}
use Rattle.std.specs.Cmp.Lexicographic.{pointwise}
use Rattle.std.specs.declared.alloc.Global.{Global}
use Rattle.dp_edge.specs.declared.mem_shelf.Held.{Held}
use Rattle.dp_edge.specs.declared.shelf.ShelfFail.{ShelfFail}
use Rattle.dp_edge.specs.declared.shelf.ShelfFail.TheVariants.{Failed, TooLong, NoMemory}

-- what the shelf holds, which of its calls fail, and what it has counted
pub record Stock : Type 0 where
  pub held : List Held
  pub failing : List ℕ
  pub calls : ℕ
  pub failed_names : List (List ℕ)
  pub faults : ℕ
  pub taken : ℕ

-- the two names are the same bytes
abbrev pub is_same : List ℕ → List ℕ → Bool
is_same = pointwise (λ a b. a == b)

-- the content under a name: that of the first text with this name
abbrev pub content_of : List Held → List ℕ → Option (List ℕ)
content_of held name = option_map (λ text. text.content) (find (λ text. is_same text.name name) held)

-- a count of 64 bits after n more, which stays at its greatest value
abbrev pub counted : ℕ → ℕ → ℕ
counted count n = min (count + n) (2 ^ 64 - 1)

-- the number of the next call is among those that fail
abbrev pub fails_next : Stock → Bool
fails_next stock = list_any (λ call. call == counted stock.calls 1) stock.failing

-- a content as far as there is room for it
abbrev pub given_content : Option (List ℕ) → ℕ → Result (List ℕ) ShelfFail
given_content None room = Err Failed
given_content (Some content) room = if nat_le (length content) room then Ok content else Err TooLong

-- what the next call answers where memory suffices
abbrev pub next_answer : Stock → List ℕ → ℕ → Result (List ℕ) ShelfFail
next_answer stock name room = if fails_next stock then Err Failed else given_content (content_of stock.held name) room

-- the answer is the wanted one, or want of memory
abbrev pub AnswersAsWanted : Result (Vec ℕ Global) ShelfFail → Result (List ℕ) ShelfFail → Type 0
AnswersAsWanted (Ok bytes) wanted = wanted ≡ Ok bytes.items
AnswersAsWanted (Err Failed) wanted = wanted ≡ Err Failed
AnswersAsWanted (Err TooLong) wanted = wanted ≡ Err TooLong
AnswersAsWanted (Err NoMemory) wanted = Unit {0}

-- The shelf after a call that answers so. Each call is counted, a failed one also as a fault with its name, and the
-- bytes that are given, or one more than there is room for, as taken.
abbrev pub after_read : Result (Vec ℕ Global) ShelfFail → Stock → List ℕ → ℕ → Stock
after_read (Ok bytes) stock name room =
    record stock { calls = counted stock.calls 1; taken = counted stock.taken (length bytes.items) }
after_read (Err Failed) stock name room =
    record stock { calls = counted stock.calls 1; failed_names = stock.failed_names ++ name ∷ []; faults = stock.faults + 1 }
after_read (Err TooLong) stock name room =
    record stock { calls = counted stock.calls 1; taken = counted stock.taken (room + 1) }
after_read (Err NoMemory) stock name room = record stock { calls = counted stock.calls 1 }
