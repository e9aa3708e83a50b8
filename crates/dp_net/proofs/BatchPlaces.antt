-- A batch that goes on is whole, and one that may follow has an iteration.
use Rattle.dp_semantics.proofs.Names.{◌≡◌, refl, sym, ap, ◌∙◌, inl, inr, ℕ, zero, suc, ◌+◌, ◌-◌, ◌≤◌, Bool, true, false, not, if◌then◌else◌, List, [], ◌∷◌}
use Rattle.dp_semantics.proofs.Names.{length, length-map, map, arith, lt-ltb, cases_lt, list_all, and_parts}
use Rattle.std.specs.Prelude.{min, max}
use Rattle.std.proofs.Math.Nat.{le-min, le-max_left}
use Rattle.dp_tree.specs.Numbering.{numbers_from}
use Rattle.dp_semantics.specs.EpochKey.{epoch_of}
use Rattle.dp_net.specs.NetPackets.{NetPacket, net_passed}
use Rattle.dp_net.specs.Batches.{up_to, batch_begin, batch_size, batch_places, ends_batch}
use Rattle.dp_net.specs.BatchItems.{BatchesAreWhole, NextHasSome}

up_to_all : {X : Type 0} (last : X → Bool) (xs : List X) → list_all (λ x. not (last x)) (up_to last xs) ≡ true → up_to last xs ≡ xs
up_to_all last [] h = refl
up_to_all last (x ∷ rest) h = by (last x) refl (and_parts (not (last x)) _ h) (up_to_all last rest)
  where
    by : (b : Bool) → last x ≡ b → (not (last x) ≡ true) × (list_all (λ y. not (last y)) (if last x then [] else up_to last rest) ≡ true) →
        (list_all (λ y. not (last y)) (up_to last rest) ≡ true → up_to last rest ≡ rest) → x ∷ (if last x then [] else up_to last rest) ≡ x ∷ rest
    by true e both later = let clash : false ≡ true = sym (ap not e) ∙ both.0 in absurd (cc clash)
    by false e both later = rw e (ap (λ (ys : List _). x ∷ ys) (later (rw e at both.1)))

numbers_count : (n k : ℕ) → length (numbers_from k n) ≡ n
numbers_count zero k = refl
numbers_count (suc n) k = ap suc (numbers_count n (k + 1))

pub batches_whole : BatchesAreWhole
batches_whole m key cap s b all =
    let rows : List NetPacket = map (λ (k : ℕ). (net_passed m (epoch_of key) s k).packet) (batch_places key cap b) in
    ap length (up_to_all ends_batch rows all) ∙ length-map (batch_places key cap b) (λ (k : ℕ). (net_passed m (epoch_of key) s k).packet)
    ∙ numbers_count (batch_size key cap b) (batch_begin key cap b)

pub next_has_some : NextHasSome
next_has_some key cap b left = le-min {k = 1} {a = suc key.fuel - (key.first + place)} {b = max 1 (min cap place)} (omega (arith, within))
    (le-max_left 1 (min cap place))
  where
    place : ℕ
    place = batch_begin key cap (suc b)

    within : key.first + place ≤ key.fuel
    within = elim (cases_lt key.fuel (key.first + place)) [
      | inl past ↦ let clash : true ≡ false = sym (lt-ltb key.fuel (key.first + place) past) ∙ left in absurd (cc clash)
      | inr here ↦ here
    ]
