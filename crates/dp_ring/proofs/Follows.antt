-- The rule that is kept gives the rule over words, slots and views alone.
use Rattle.std.proofs.Common.{◌≡◌, ℕ, ◌+◌, ◌*◌, ◌/◌, ◌%◌, ◌<◌, ◌≤◌, ◌⊎◌, inl, inr, Bool, true, false, length, sym, ap, ◌∙◌, subst, ⊎_elim, mod-lt, div-add-mod'}
use Rattle.std.proofs.Common.{arith, get_or}
use mathlib.Core.Logic.{dite}
use mathlib.Core.Option.{some, none, some-injective, some-ne-none}
use native.Mathlib.Decide.{ℕ_discrete, dec_le}
use lib.ListN.{get_elem?}
use Rattle.std.specs.Prelude.{Option, None, Some}
use Rattle.atomic_table.specs.Table.{State}
use Rattle.dp_ring.specs.declared.view.View.{View}
use Rattle.dp_ring.specs.declared.view.Phase.{Phase}
use Rattle.dp_ring.specs.declared.view.Phase.TheVariants.{Putting, Taking, Giving, Collecting}
use Rattle.dp_ring.specs.Views.{Side, inward, outward, side, up, face, base}
use Rattle.dp_ring.specs.Turns.{Book, rank, InOrder, IsHeldBy, Contains, item_of, TicketStands, InTurn}
use Rattle.dp_ring.specs.RingRule.{Ruled, TurnsAreRuled}
use Rattle.dp_ring.proofs.Cells.{one_finder}
use Rattle.dp_ring.proofs.Faces.{face_is}
use Rattle.dp_ring.proofs.Turning.{next_turn}

-- two tickets of one slot stand as the turns of the slot do
turn_order : (n q t : ℕ) → 0 < n → q % n ≡ t % n → q < t → q / n + 1 ≤ t / n
turn_order n q t pos same lt = dite (dec_le (q / n + 1) (t / n)) (λ h. h)
    (λ h. let p : q / n * n + q % n ≡ q = div-add-mod' q n in let r : t / n * n + t % n ≡ t = div-add-mod' t n in let le : t / n ≤ q / n = omega arith in
    let less : t / n * n ≤ q / n * n = Rattle.std.proofs.Common.mul-le-mul_right n le in absurd (omega arith))

same_turn : (n q t : ℕ) → q ≡ t → q / n ≡ t / n
same_turn n q t e = ap (λ (z : ℕ). z / n) e

-- ranks and words are compared alike
word_below : (n q t c : ℕ) (f : Bool) → 0 < n → q % n ≡ t % n → c ≤ 2 → 1 ≤ c → rank (q, f) < 2 * t + c → face n q f < 2 * (t / n) + c
word_below n q t c f pos same small one lt = let is = face_is n q f in let u : up f ≤ 1 = Rattle.dp_ring.proofs.Faces.up_small f in
    dite (ℕ_discrete q t) (λ e. let d = same_turn n q t e in omega arith)
    (λ ne. dite (dec_le q t) (λ le. let d = turn_order n q t pos same (omega arith) in omega arith) (λ more. absurd (omega arith)))

word_above : (n q t c : ℕ) (f : Bool) → 0 < n → q % n ≡ t % n → c ≤ 2 → 1 ≤ c → 2 * t + c ≤ rank (q, f) → 2 * (t / n) + c ≤ face n q f
word_above n q t c f pos same small one ge = let is = face_is n q f in let u : up f ≤ 1 = Rattle.dp_ring.proofs.Faces.up_small f in
    dite (ℕ_discrete q t) (λ e. let d = same_turn n q t e in omega arith)
    (λ ne. dite (dec_le q t) (λ le. absurd (omega arith)) (λ more. let d = turn_order n t q pos (sym same) (omega arith) in omega arith))

rank_above : (n q t c : ℕ) (f : Bool) → 0 < n → q % n ≡ t % n → c ≤ 2 → 1 ≤ c → 2 * (t / n) + c ≤ face n q f → 2 * t + c ≤ rank (q, f)
rank_above n q t c f pos same small one ge =
    dite (dec_le (2 * t + c) (rank (q, f))) (λ h. h) (λ h. let l = word_below n q t c f pos same small one (omega arith) in absurd (omega arith))

-- what is beyond the tickets is not there yet
drawn_taken : (b : Book) (n q t : ℕ) (f : Bool) → 0 < n → q % n ≡ t % n → InOrder b n inward q f → 2 * t + 2 ≤ rank (q, f) → t < b.drawn
drawn_taken b n q t false pos same o ge = let far : t + n ≤ q = next_turn n t q (omega arith) (λ e. omega arith) same in
    let l : q < b.drawn + n = o.2 in omega arith
drawn_taken b n q t true pos same o ge = let far : t + n ≤ q = next_turn n t q (omega arith) (λ e. omega arith) same in
    let l : q < b.drawn + n = o.2 in omega arith

drawn_given : (b : Book) (n q t : ℕ) (f : Bool) → 0 < n → q % n ≡ t % n → InOrder b n outward q f → 2 * t + 1 ≤ rank (q, f) → t < b.drawn
drawn_given b n q t false pos same o ge = let far : t + n ≤ q = next_turn n t q (omega arith) (λ e. omega arith) same in
    let l : q < b.drawn + n = o.2 in omega arith
drawn_given b n q t true pos same o ge = let l : q < b.drawn = o.2 in omega arith

module _ {T Key : Type 0} (is_put is_given : Key → ℕ → T → Type 0) (key : Key) where
  abbrev V : Type 0
  V = View Key

  abbrev St : Type 0
  St = State (Option T) V

  abbrev Item : Side → ℕ → T → Type 0
  Item = item_of is_put is_given key

  module _ (s : St) (r : InTurn is_put is_given key s) where
    abbrev n : ℕ
    n = r.size

    -- the ticket of a slot is that of its word's turn
    ticket : (d : Side) (k : ℕ) → k < n → (r.cells (base n d + k)).0 ≡ (r.cells (base n d + k)).0 / n * n + k
    ticket d k near = let q : ℕ = (r.cells (base n d + k)).0 in sym (div-add-mod' q n) ∙ ap (λ (z : ℕ). q / n * n + z) (r.each_cell d k near).lies

    word : (d : Side) (k : ℕ) → k < n → get_or s.words (base n d + k + 1) 0 ≡ 2 * ((r.cells (base n d + k)).0 / n) + up (r.cells (base n d + k)).1
    word d k near = (r.each_cell d k near).shows ∙ face_is n _ _

    stands_at : (j : ℕ) (v : V) (st : Phase) → get_elem? s.views j ≡ some v → v.phase ≡ st → TicketStands r.book n r.cells (length s.views) j v.at st
    stands_at j v st at e = subst (TicketStands r.book n r.cells (length s.views) j v.at) e (r.each_seat j v at).stands

    ruled : Ruled is_put is_given key n s
    ruled = record {
      inward_turns = λ j v at st k near. let c = r.each_cell inward k near in let zero : 0 + k + 1 ≡ k + 1 = omega arith in
          let q : ℕ = (r.cells (base n inward + k)).0 in
          let count : r.book.put ≡ v.at = (stands_at j v Putting at st).1 in
          let w = ap (λ (z : ℕ). get_or s.words z 0) (sym zero) ∙ word inward k near in
          (q / n, inward_turn k q (r.cells (base n inward + k)).1 v.at (get_or s.words (k + 1) 0) count (ticket inward k near) w c.order);
      outward_turns = λ j v at st k near. let c = r.each_cell outward k near in let q : ℕ = (r.cells (base n outward + k)).0 in
          let count : r.book.collected ≡ v.at = (stands_at j v Collecting at st).1 in
          let o = outward_turn k q (r.cells (base n outward + k)).1 v.at (get_or s.words (n + k + 1) 0) count (ticket outward k near) (word outward k near)
          c.order in (q / n, o.0, o.1, o.2);
      few = λ j v at. subst (λ (z : ℕ). v.drawn ≤ z) (sym r.drawn_is) (r.each_seat j v at).few;
      held_drawn = λ j t v at h. let x = holds_ticket j t v at h in (subst (λ (z : ℕ). t < z) (sym r.drawn_is) x.0, out_below t x.2);
      one_holder = λ i j t u v at at' h h'. sym (holds_ticket i t u at h).1 ∙ (holds_ticket j t v at' h').1;
      given_or_held = λ t below. ⊎_elim (λ given. inl (out_above t given)) (λ h. inr (r.book.owner t, h.0, h.1, h.2))
          (r.each_ticket t (subst (λ (z : ℕ). t < z) r.drawn_is below));
      not_taken = λ j v at st. in_below v.at (stands_at j v Taking at st).3;
      taken = λ j v at st. in_above v.at (stands_at j v Giving at st).3;
      taken_drawn = λ t ge. subst (λ (z : ℕ). t < z) (sym r.drawn_is) (taken_is t ge);
      given_drawn = λ t ge. subst (λ (z : ℕ). t < z) (sym r.drawn_is) (given_is t ge);
      found = λ j v at f. let x = (r.each_seat j v at).finds f in let c = r.each_cell (side v.phase) (v.at % n) (mod-lt v.at r.some_slot) in
          (c.shows ∙ (λ i. face n (x.1 i).0 (x.1 i).1), x.2);
      found_alone = λ i j u v at at' f f' same. let mine = (r.each_seat i u at).finds f in
          sym (one_finder is_put is_given key s r i j u v at at' mine.0 mine.1 f' (sym same));
      keyed = λ j v at. (r.each_seat j v at).named;
      at_home = λ d k y near at. let c = r.each_cell d k near in ⊎_elim
          (λ h. let same : h.0 ≡ y = some-injective h.0 y (some-injective (some h.0) (some y) (sym h.1 ∙ at)) in (
            (r.cells (base n d + k)).0 / n,
            contents d k y (r.cells (base n d + k)).0 (r.cells (base n d + k)).1 (get_or s.words (base n d + k + 1) 0) (ticket d k near) (word d k near)
                (subst (Contains (Item d (r.cells (base n d + k)).0) (r.cells (base n d + k)).1) same h.2),
          ))
          (λ h. absurd (some-ne-none y (sym (some-injective none (some y) (sym h.0 ∙ at))))) c.home;
    }
      where
        inward_turn : (k q : ℕ) (f : Bool) (p w : ℕ) → r.book.put ≡ p → q ≡ q / n * n + k → w ≡ 2 * (q / n) + up f → InOrder r.book n inward q f
            → ((w ≡ 2 * (q / n)) × (p ≤ q / n * n + k) × (q / n * n + k < p + n)) ⊎ ((w ≡ 2 * (q / n) + 1) × (q / n * n + k < p) × (p ≤ q / n * n + k + n))
        inward_turn k q false p w count is shows o = let a : r.book.put ≤ q = o.0 in let b : q < r.book.put + n = o.1 in
            inl (omega arith, omega arith, omega arith)
        inward_turn k q true p w count is shows o = let a : q < r.book.put = o.0 in let b : r.book.put ≤ q + n = o.1 in
            inr (omega arith, omega arith, omega arith)

        outward_turn : (k q : ℕ) (f : Bool) (p w : ℕ) → r.book.collected ≡ p → q ≡ q / n * n + k → w ≡ 2 * (q / n) + up f → InOrder r.book n outward q f
            → ((w ≡ 2 * (q / n)) ⊎ (w ≡ 2 * (q / n) + 1)) × (p ≤ q / n * n + k) × (q / n * n + k < p + n)
        outward_turn k q false p w count is shows o = let a : r.book.collected ≤ q = o.0 in let b : q < r.book.collected + n = o.1 in
            (inl (omega arith), omega arith, omega arith)
        outward_turn k q true p w count is shows o = let a : r.book.collected ≤ q = o.0 in let b : q < r.book.collected + n = o.1 in
            (inr (omega arith), omega arith, omega arith)

        holds_ticket : (j t : ℕ) (v : V) → get_elem? s.views j ≡ some v → IsHeldBy t v → (t < r.book.drawn) × (r.book.owner t ≡ j)
            × (rank (r.cells (n + t % n)) < 2 * t + 1)
        holds_ticket j t v at h = subst (λ (z : ℕ). (z < r.book.drawn) × (r.book.owner z ≡ j) × (rank (r.cells (n + z % n)) < 2 * z + 1)) h.1
            (⊎_elim (λ e. let x = stands_at j v Taking at e in (x.0, x.1, x.2)) (λ e. let x = stands_at j v Giving at e in (x.0, x.1, x.2)) h.0)

        out_below : (t : ℕ) → rank (r.cells (n + t % n)) < 2 * t + 1 → get_or s.words (n + t % n + 1) 0 < 2 * (t / n) + 1
        out_below t lt = let c = r.each_cell outward (t % n) (mod-lt t r.some_slot) in
            subst (λ (z : ℕ). z < 2 * (t / n) + 1) (sym c.shows) (word_below n _ t 1 _ r.some_slot c.lies (omega arith) (omega arith) lt)

        out_above : (t : ℕ) → 2 * t + 1 ≤ rank (r.cells (n + t % n)) → 2 * (t / n) + 1 ≤ get_or s.words (n + t % n + 1) 0
        out_above t ge = let c = r.each_cell outward (t % n) (mod-lt t r.some_slot) in
            subst (λ (z : ℕ). 2 * (t / n) + 1 ≤ z) (sym c.shows) (word_above n _ t 1 _ r.some_slot c.lies (omega arith) (omega arith) ge)

        in_shows : (t : ℕ) → get_or s.words (t % n + 1) 0 ≡ face n (r.cells (t % n)).0 (r.cells (t % n)).1
        in_shows t = let c = r.each_cell inward (t % n) (mod-lt t r.some_slot) in let zero : 0 + t % n ≡ t % n = omega arith in
            subst (λ (z : ℕ). get_or s.words (z + 1) 0 ≡ face n (r.cells z).0 (r.cells z).1) zero c.shows

        in_lies : (t : ℕ) → (r.cells (t % n)).0 % n ≡ t % n
        in_lies t = let c = r.each_cell inward (t % n) (mod-lt t r.some_slot) in let zero : 0 + t % n ≡ t % n = omega arith in
            subst (λ (z : ℕ). (r.cells z).0 % n ≡ t % n) zero c.lies

        in_order : (t : ℕ) → InOrder r.book n inward (r.cells (t % n)).0 (r.cells (t % n)).1
        in_order t = let c = r.each_cell inward (t % n) (mod-lt t r.some_slot) in let zero : 0 + t % n ≡ t % n = omega arith in
            subst (λ (z : ℕ). InOrder r.book n inward (r.cells z).0 (r.cells z).1) zero c.order

        in_below : (t : ℕ) → rank (r.cells (t % n)) < 2 * t + 2 → get_or s.words (t % n + 1) 0 < 2 * (t / n) + 2
        in_below t lt = subst (λ (z : ℕ). z < 2 * (t / n) + 2) (sym (in_shows t)) (word_below n _ t 2 _ r.some_slot (in_lies t) (omega arith) (omega arith) lt)

        in_above : (t : ℕ) → 2 * t + 2 ≤ rank (r.cells (t % n)) → 2 * (t / n) + 2 ≤ get_or s.words (t % n + 1) 0
        in_above t ge = subst (λ (z : ℕ). 2 * (t / n) + 2 ≤ z) (sym (in_shows t)) (word_above n _ t 2 _ r.some_slot (in_lies t) (omega arith) (omega arith) ge)

        taken_is : (t : ℕ) → 2 * (t / n) + 2 ≤ get_or s.words (t % n + 1) 0 → t < r.book.drawn
        taken_is t ge = drawn_taken r.book n _ t _ r.some_slot (in_lies t) (in_order t) (rank_above n _ t 2 _ r.some_slot (in_lies t) (omega arith)
            (omega arith) (subst (λ (z : ℕ). 2 * (t / n) + 2 ≤ z) (in_shows t) ge))

        given_is : (t : ℕ) → 2 * (t / n) + 1 ≤ get_or s.words (n + t % n + 1) 0 → t < r.book.drawn
        given_is t ge = let c = r.each_cell outward (t % n) (mod-lt t r.some_slot) in
            drawn_given r.book n _ t _ r.some_slot c.lies c.order (rank_above n _ t 1 _ r.some_slot c.lies (omega arith) (omega arith)
            (subst (λ (z : ℕ). 2 * (t / n) + 1 ≤ z) c.shows ge))

        contents : (d : Side) (k : ℕ) (y : Option T) (q : ℕ) (f : Bool) (w : ℕ) → q ≡ q / n * n + k → w ≡ 2 * (q / n) + up f → Contains (Item d q) f y
            → ((w ≡ 2 * (q / n)) × (y ≡ None)) ⊎ ((w ≡ 2 * (q / n) + 1) × ((x : T) × (y ≡ Some x) × Item d (q / n * n + k) x))
        contents d k y q false w is shows h = inl (omega arith, h)
        contents d k y q true w is shows h = inr (omega arith, (h.0, h.1, subst (λ (z : ℕ). Item d z h.0) is h.2))

  pub turns_are_ruled : TurnsAreRuled is_put is_given key
  turns_are_ruled n s wide r = let same : r.size ≡ n = let slots = r.slots in omega arith in subst (λ (k : ℕ). Ruled is_put is_given key k s) same (ruled s r)
