-- What the rule says of the words, the slots at home and the views alone, in a ring of n slots a side.
use Rattle.std.specs.Prelude.{◌≡◌, ℕ, ◌+◌, ◌*◌, ◌/◌, ◌%◌, ◌<◌, ◌≤◌, ◌⊎◌, true, length, Option, Some, None, slice_index_or}
use mathlib.Core.Option.{some, none}
use lib.ListN.{get_elem?}
use Rattle.atomic_table.specs.Table.{State}
use Rattle.dp_ring.specs.declared.view.View.{View}
use Rattle.dp_ring.specs.declared.view.Phase.TheVariants.{Putting, Taking, Giving, Collecting}
use Rattle.dp_ring.specs.Views.{Side, base, slot_place, awaited_word, awaited_number}
use Rattle.dp_ring.specs.Turns.{IsHeldBy, InTurn, item_of}

module _ {T Key : Type 0} (is_put is_given : Key → ℕ → T → Type 0) (key : Key) (n : ℕ) (s : State (Option T) (View Key)) where
  -- how many tickets were drawn
  abbrev pub drawn : ℕ
  drawn = slice_index_or s.words 0 0

  -- the word of the slot k of the inward side, and of the outward side
  abbrev pub in_word : ℕ → ℕ
  in_word k = slice_index_or s.words (k + 1) 0

  abbrev pub out_word : ℕ → ℕ
  out_word k = slice_index_or s.words (n + k + 1) 0

  abbrev pub IsSeat : ℕ → View Key → Type 0
  IsSeat j v = get_elem? s.views j ≡ some v

  pub record Ruled : Type 0 where
    -- an in-word of 2 r serves the least ticket of its slot that is not put, and one of 2 r + 1 the greatest that is
    pub inward_turns : (j : ℕ) (v : View Key) → IsSeat j v → v.phase ≡ Putting → (k : ℕ) → k < n
        → (r : ℕ) × (((in_word k ≡ 2 * r) × (v.at ≤ r * n + k) × (r * n + k < v.at + n)) ⊎ ((in_word k ≡ 2 * r + 1) × (r * n + k < v.at)
        × (v.at ≤ r * n + k + n)))
    -- an out-word serves the least ticket of its slot that is not collected
    pub outward_turns : (j : ℕ) (v : View Key) → IsSeat j v → v.phase ≡ Collecting → (k : ℕ) → k < n
        → (r : ℕ) × ((out_word k ≡ 2 * r) ⊎ (out_word k ≡ 2 * r + 1)) × (v.at ≤ r * n + k) × (r * n + k < v.at + n)
    -- tickets: a seat drew no more than there are, a held ticket was drawn, has one holder and isn't given, and each drawn one is given or held
    pub few : (j : ℕ) (v : View Key) → IsSeat j v → v.drawn ≤ drawn
    pub held_drawn : (j t : ℕ) (v : View Key) → IsSeat j v → IsHeldBy t v → (t < drawn) × (out_word (t % n) < 2 * (t / n) + 1)
    pub one_holder : (i j t : ℕ) (u v : View Key) → IsSeat i u → IsSeat j v → IsHeldBy t u → IsHeldBy t v → i ≡ j
    pub given_or_held : (t : ℕ) → t < drawn → (2 * (t / n) + 1 ≤ out_word (t % n)) ⊎ ((j : ℕ) × (v : View Key) × IsSeat j v × IsHeldBy t v)
    -- a held ticket's item is marked as taken exactly where its in-word has gone on
    pub not_taken : (j : ℕ) (v : View Key) → IsSeat j v → v.phase ≡ Taking → in_word (v.at % n) < 2 * (v.at / n) + 2
    pub taken : (j : ℕ) (v : View Key) → IsSeat j v → v.phase ≡ Giving → 2 * (v.at / n) + 2 ≤ in_word (v.at % n)
    pub taken_drawn : (t : ℕ) → 2 * (t / n) + 2 ≤ in_word (t % n) → t < drawn
    pub given_drawn : (t : ℕ) → 2 * (t / n) + 1 ≤ out_word (t % n) → t < drawn
    -- what was found stands, the slot is lent, and no other seat has it
    pub found : (j : ℕ) (v : View Key) → IsSeat j v → v.found ≡ true → (slice_index_or s.words (awaited_word n v) 0 ≡ awaited_number n v)
        × (get_elem? s.homes (slot_place n v) ≡ some none)
    pub found_alone : (i j : ℕ) (u v : View Key) → IsSeat i u → IsSeat j v → u.found ≡ true → v.found ≡ true → slot_place n u ≡ slot_place n v → i ≡ j
    -- each seat knows the ring's key
    pub keyed : (j : ℕ) (v : View Key) → IsSeat j v → v.key ≡ Some key
    -- a slot at home is full exactly where its word is odd
    pub at_home : (d : Side) (k : ℕ) (y : Option T) → k < n → get_elem? s.homes (base n d + k) ≡ some (some y)
        → (r : ℕ) × (((slice_index_or s.words (base n d + k + 1) 0 ≡ 2 * r) × (y ≡ None)) ⊎ ((slice_index_or s.words (base n d + k + 1) 0 ≡ 2 * r + 1)
        × ((x : T) × (y ≡ Some x) × item_of is_put is_given key d (r * n + k) x)))

-- what a ring keeps between any two steps gives all this, in a ring of n slots a side
abbrev pub TurnsAreRuled : {T Key : Type 0} → (Key → ℕ → T → Type 0) → (Key → ℕ → T → Type 0) → Key → Type 0
TurnsAreRuled {T} {Key} is_put is_given key =
    (n : ℕ) (s : State (Option T) (View Key)) → length s.homes ≡ n + n → InTurn is_put is_given key s → Ruled is_put is_given key n s
