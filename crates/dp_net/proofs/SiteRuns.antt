-- A turn over items against the one over the words that they stand for: what holds between them, and a site outside of the blocks.
use Rattle.dp_semantics.proofs.Names.{◌≡◌, inl, inr, refl, sym, ap, ◌∙◌, subst, ℕ, ◌+◌, ◌-◌, ◌<◌, ◌≤◌, ◌==◌, Bool, true, false, ◌&&◌, ◌||◌, if◌then◌else◌, List}
use Rattle.dp_semantics.proofs.Names.{[], ◌∷◌, ◌++◌, ℤ, length, length-append, list_all, Option, Some, None, Ok, Err, Result, nat_le, arith, leb-true, eqb-true}
use Rattle.dp_semantics.proofs.Names.{slice_set, sum_by, and_parts, cases_Bool, Stmt, out-Stmt, Stmt-F, Program, Plan, Word, Load, Evaluated, evaluated}
use Rattle.dp_semantics.proofs.Names.{WithLoads, Effect, site_of, value_of, stored, followed, stage_of, first_site, is_checked, cell_count, load_words}
use Rattle.dp_semantics.proofs.Names.{done_word, words_of, word_list, Full, Void, Taken, taken_from, Turn, TurnEnd, Ended, turned, turn_by, consumed_step}
use Rattle.dp_semantics.proofs.Names.{closes_at}
use Rattle.dp_net.proofs.Strict.{strict_own_step, strict_step}
use Rattle.std.proofs.lemmas.List.{map-set}
use Rattle.dp_semantics.proofs.Each.{Each, each_map, each_join}
use Rattle.dp_semantics.specs.Clean.{event_as_assumed}
use Rattle.dp_semantics.proofs.Evaluation.{InVar, Readable, head_loads, evaluated_tracks}
use Rattle.dp_semantics.proofs.Ways.{event_of}
use Rattle.dp_semantics.proofs.Shorter.{some_word, taken_shorter, lists_shorter}
use Rattle.dp_semantics.proofs.Followed.{Parts}
use Rattle.dp_net.specs.NetItems.{Marks, Item, Said, weights, item_list, NetTaken, net_taken_from, said_all}
use Rattle.dp_net.specs.NetRun.{NetTurn, NetEnded, net_turned, net_own_step, net_consumed_step, net_by, net_step}
use Rattle.dp_net.proofs.Blocks.{at_turn}
use Rattle.dp_net.proofs.Memories.{Open, Agrees, agree_stored}
use Rattle.dp_net.proofs.Groups.{Group, One, flats, flats_join, items, items_join, weights_are, all_flats, all_items, group_list, words_of_groups}
use Rattle.dp_net.proofs.Groups.{items_of_groups, Marked, Good, Alike, both, none, taken_alike}
use Rattle.dp_net.proofs.Texts.{Plain, Text}
use Rattle.dp_net.proofs.Ready.{Ready, each_set, each_get, SameEval, same_value, same_fault, Steady, steady_head, steady_next, eval_same}

module _ (p : Program) (plan : Plan) (m : Marks) (input : List ℤ) (marked : Marked p plan m input) (test : Stmt → Bool) where
  module _ (ready : (x : Stmt) → test x ≡ true → Ready p plan m (out-Stmt x) × Parts (λ xs. list_all test xs ≡ true) (out-Stmt x)) (s : ℕ) where
    abbrev pub AllGood : List (List Group) → Type 0
    AllGood groups = Each (Each (Good p plan m input)) groups

    -- both turns, from what they hold
    abbrev pub word_turn : List Stmt → List ℤ → List (List Group) → List Group → Bool → Turn
    word_turn to_do cells groups made closing = at_turn to_do cells (all_flats p plan m groups) (flats made) closing

    abbrev pub item_turn : List Stmt → List ℤ → List (List Group) → List Group → Bool → NetTurn
    item_turn to_do mem groups made closing =
        record { to_do = to_do; cells = mem; lists = all_items p plan m groups; own = items p plan m made; closing = closing }

    abbrev pub left_of : List (List Group) → ℕ
    left_of groups = sum_by length (all_flats p plan m groups)

    abbrev pub Enough : ℕ → List (List Group) → List Group → Type 0
    Enough n groups made = plan.words + left_of groups < n + length (flats made)

    pub record EndsAlike (e : Ended) (f : NetEnded) : Type 0 where
      pub made : List Group
      pub own : e.own ≡ flats made
      pub net : f.own ≡ items p plan m made
      pub good : Each (Good p plan m input) made
      pub cells : Agrees m s e.cells f.cells
      pub closing : f.closing ≡ e.closing

    -- both come to their ends alike, or both break off
    abbrev pub SameEnd : TurnEnd → Option NetEnded → Type 0
    SameEnd (Ok e) (Some f) = EndsAlike e f
    SameEnd (Ok e) None = ⊥
    SameEnd (Err why) (Some f) = ⊥
    SameEnd (Err why) None = Unit {0}

    -- what holds between them
    pub record Held (to_do : List Stmt) (cells mem : List ℤ) (groups : List (List Group)) (made : List Group) : Type 0 where
      pub text : Text m to_do
      pub steady : Steady p plan m input marked test to_do
      pub agrees : Agrees m s cells mem
      pub good : AllGood groups
      pub made_good : Each (Good p plan m input) made
      pub fits : length (flats made) ≤ plan.words

    -- the next of both, where each step adds words or takes some
    abbrev pub Onward : ℕ → (Turn → TurnEnd) → (NetTurn → Option NetEnded) → List (List Group) → List Group → Type 0
    Onward k go run groups made = (to_do : List Stmt) (cells mem : List ℤ) (groups' : List (List Group)) (made' : List Group) (closing : Bool) →
        Held to_do cells mem groups' made' →
        k + length (flats made) + left_of groups' ≤ length (flats made') + left_of groups →
        SameEnd (go (word_turn to_do cells groups' made' closing)) (run (item_turn to_do mem groups' made' closing))

    abbrev ones : List Word → List Group
    ones [] = []
    ones (w ∷ ws) = One w ∷ ones ws

    flats_ones : (ws : List Word) → flats (ones ws) ≡ ws
    flats_ones [] = refl
    flats_ones (w ∷ ws) = ap (λ rest. w ∷ rest) (flats_ones ws)

    items_ones : (ws : List Word) → items p plan m (ones ws) ≡ said_all ws
    items_ones [] = refl
    items_ones (w ∷ ws) = ap (λ rest. Said w ∷ rest) (items_ones ws)

    module _ (x : Stmt) (rest : List Stmt) (cells mem : List ℤ) (groups : List (List Group)) (made : List Group) (closing : Bool)
        (held : Held (x ∷ rest) cells mem groups made) (plain : Plain m x)
        (texts : (z : ℤ) → Text m (followed x rest (out-Stmt x) z)) (go : Turn → TurnEnd) (run : NetTurn →
        Option NetEnded) (next : Onward 1 go run groups made) where
      abbrev h : Stmt-F Stmt
      h = out-Stmt x

      r : Ready p plan m h
      r = steady_head p plan m input marked test ready s x rest held.steady

      -- the words of an own site are good
      loads_good : (loads : List Load) → Each (λ (l : Load). (u : ℕ) → m.hides u l.cell ≡ false) loads →
          Each (Good p plan m input) (ones (load_words (site_of h).0 loads))
      loads_good [] k = tt
      loads_good (l ∷ loads) k = ((plain.1, λ is. k.0), loads_good loads k.1)

      ones_join : (a b : List Word) → ones (a ++ b) ≡ ones a ++ ones b
      ones_join [] b = refl
      ones_join (w ∷ a) b = ap (λ gs. One w ∷ gs) (ones_join a b)

      done_good : (effect : Effect) → Each (Good p plan m input) (ones (done_word (site_of h).0 effect ∷ []))
      done_good effect = ((plain.1, λ is. absurd (cc is)), tt)

      words_good : (v : WithLoads Effect) → evaluated p input cells h ≡ Ok v → Each (Good p plan m input) (ones (words_of p plan (event_of h v)))
      words_good v e = elim (cases_Bool (is_checked p plan (site_of h).0)) [
        | inl q ↦
            let known = each_map (λ (y : ℕ). ((0 < cell_count p (record { 0 = y })) × ((c : ℕ) → InVar p y c → Open m (stage_of p plan (site_of h).0) c))
            × ((c : ℕ) → InVar p y c → (u : ℕ) → m.hides u c ≡ false)) (Readable p cells (λ (l : Load). (u : ℕ) → m.hides u l.cell ≡ false))
            (λ y k. (k.0.0, λ c i. k.1 c i)) (head_loads h) (Rattle.dp_semantics.proofs.Each.each_both _ _ (head_loads h) r.reads (r.told q)) in
            let t = evaluated_tracks p input cells cells (λ (l : Load). (u : ℕ) → m.hides u l.cell ≡ false) h r.room known v e in
            rw (q, ones_join (load_words (site_of h).0 v.loads) (done_word (site_of h).0 v.value ∷ []))
            (each_join (Good p plan m input) _ _ (loads_good v.loads t.loads) (done_good v.value))
        | inr q ↦ rw q (done_good v.value)
      ]

      -- an own site
      own_case : (u w : Evaluated Effect) → SameEval u w → evaluated p input cells h ≡ u →
          SameEnd (turn_by go (strict_own_step p plan (word_turn (x ∷ rest) cells groups made closing) x rest h u))
          (net_by p plan m input s run (net_own_step p plan (item_turn (x ∷ rest) mem groups made closing) x rest h w))
      own_case u w (same_fault k l) e = tt
      own_case u w (same_value v) e = by (assumed && nat_le (length (flats made ++ ws)) plan.words)
          (assumed && nat_le (weights (items p plan m made) + length ws) plan.words) refl
          (ap (λ (n : ℕ). assumed && nat_le n plan.words) (length-append (flats made) ws ∙ ap (λ (n : ℕ). n + length ws) (sym (weights_are p plan m made))))
        where
          ws : List Word
          ws = words_of p plan (event_of h v)

          assumed : Bool
          assumed = event_as_assumed p plan (event_of h v)

          then_words : Turn
          then_words = turned p plan (word_turn (x ∷ rest) cells groups made closing) x rest h v.value (flats made ++ ws) (all_flats p plan m groups)

          then_items : NetTurn
          then_items = net_turned p plan (item_turn (x ∷ rest) mem groups made closing) x rest h v.value (items p plan m made ++ said_all ws)
              (all_items p plan m groups)

          flats_then : flats (made ++ ones ws) ≡ flats made ++ ws
          flats_then = flats_join made (ones ws) ∙ ap (λ more. flats made ++ more) (flats_ones ws)

          items_then : items p plan m (made ++ ones ws) ≡ items p plan m made ++ said_all ws
          items_then = items_join p plan m made (ones ws) ∙ ap (λ more. items p plan m made ++ more) (items_ones ws)

          closing_then : Bool
          closing_then = closing || closes_at (first_site p plan) (site_of h).0 v.value

          goes_on : length (flats made ++ ws) ≤ plan.words → SameEnd (go then_words) (run then_items)
          goes_on fits =
              let held_then : Held (followed x rest h (value_of v.value)) (stored v.value cells) (stored v.value mem) groups (made ++ ones ws) = record {
                text = texts (value_of v.value);
                steady = steady_next p plan m input marked test ready s x rest (value_of v.value) held.steady;
                agrees = agree_stored m s v.value cells mem held.agrees;
                good = held.good;
                made_good = each_join (Good p plan m input) made (ones ws) held.made_good (words_good v e);
                fits = subst (λ (all : List Word). length all ≤ plan.words) (sym flats_then) fits;
              } in
              let paid : 1 + length (flats made) + left_of groups ≤ length (flats (made ++ ones ws)) + left_of groups = let a = ap length flats_then in
              let b = length-append (flats made) ws in let c = some_word p plan (event_of h v) in omega (arith, a, b, c) in
              subst (λ (all : List Word). SameEnd (go (at_turn (followed x rest h (value_of v.value)) (stored v.value cells) (all_flats p plan m groups) all
              closing_then)) (run then_items)) flats_then
              (subst (λ (all : List Item). SameEnd
              (go (word_turn (followed x rest h (value_of v.value)) (stored v.value cells) groups (made ++ ones ws) closing_then))
              (run (record {
                to_do = followed x rest h (value_of v.value);
                cells = stored v.value mem;
                lists = all_items p plan m groups;
                own = all;
                closing = closing_then;
              }))) items_then
              (next (followed x rest h (value_of v.value)) (stored v.value cells) (stored v.value mem) groups (made ++ ones ws) closing_then held_then paid))

          by : (a b : Bool) → (assumed && nat_le (length (flats made ++ ws)) plan.words) ≡ a → a ≡ b →
              SameEnd (turn_by go (if a then Ok then_words else Err Full)) (net_by p plan m input s run (if b then Some then_items else None))
          by true true q same =
              goes_on (leb-true (length (flats made ++ ws)) plan.words (and_parts assumed (nat_le (length (flats made ++ ws)) plan.words) q).1)
          by false false q same = tt
          by true false q same = absurd (cc same)
          by false true q same = absurd (cc same)

      abbrev t : ℕ
      t = stage_of p plan (site_of h).0

      words_there : word_list (all_flats p plan m groups) t ≡ flats (group_list p plan m groups t)
      words_there = words_of_groups p plan m groups t r.staged

      items_there : item_list (all_items p plan m groups) t ≡ items p plan m (group_list p plan m groups t)
      items_there = items_of_groups p plan m groups t r.staged

      there_good : Each (Good p plan m input) (group_list p plan m groups t)
      there_good = each_get (Each (Good p plan m input)) groups (t - 1) [] held.good tt

      -- another stage's site
      taken_case : (u : Result Taken Void) (w : Option NetTaken) → Alike p plan m input marked u w →
          taken_from p h (word_list (all_flats p plan m groups) t) ≡ u →
          SameEnd (turn_by go (consumed_step p plan (word_turn (x ∷ rest) cells groups made closing) x rest h u))
          (net_by p plan m input s run (net_consumed_step p plan (item_turn (x ∷ rest) mem groups made closing) x rest h w))
      taken_case u w (none why) e = tt
      taken_case u w (both effect gs good) e =
          let sets : slice_set (all_flats p plan m groups) (t - 1)
          (flats gs) ≡ all_flats p plan m (slice_set groups (t - 1) gs) = sym (map-set flats groups (t - 1) gs) in
          let net_sets : slice_set (all_items p plan m groups) (t - 1)
          (items p plan m gs) ≡ all_items p plan m (slice_set groups (t - 1) gs) = sym (map-set (items p plan m) groups (t - 1) gs) in
          let held_then : Held (followed x rest h (value_of effect)) (stored effect cells) (stored effect mem) (slice_set groups (t - 1) gs) made = record {
            text = texts (value_of effect);
            steady = steady_next p plan m input marked test ready s x rest (value_of effect) held.steady;
            agrees = agree_stored m s effect cells mem held.agrees;
            good = each_set (Each (Good p plan m input)) groups (t - 1) gs held.good good;
            made_good = held.made_good;
            fits = held.fits;
          } in
          let fewer = lists_shorter (all_flats p plan m groups) t (flats gs)
          (taken_shorter p h (word_list (all_flats p plan m groups) t) (record { effect = effect; rest = flats gs }) e) in
          let same = ap (sum_by length) sets in
          let paid : 1 + length (flats made) + left_of (slice_set groups (t - 1) gs) ≤ length (flats made) + left_of groups = omega (arith, fewer, same) in
          let closing_then : Bool = closing || closes_at (first_site p plan) (site_of h).0 effect in
          subst (λ (ls : List (List Word)). SameEnd (go (at_turn (followed x rest h (value_of effect)) (stored effect cells) ls (flats made) closing_then))
          (run (record {
            to_do = followed x rest h (value_of effect);
            cells = stored effect mem;
            lists = slice_set (all_items p plan m groups) (t - 1) (items p
                plan m gs);
            own = items p plan m made;
            closing = closing_then;
          }))) (sym sets)
          (subst (λ (ls : List (List Item)). SameEnd (go (word_turn (followed x rest h (value_of effect)) (stored effect cells) (slice_set groups (t - 1) gs)
          made closing_then)) (run
          (record { to_do = followed x rest h (value_of effect); cells = stored effect mem; lists = ls; own = items p plan m made; closing = closing_then })))
          (sym net_sets)
          (next (followed x rest h (value_of effect)) (stored effect cells) (stored effect mem) (slice_set groups (t - 1) gs) made closing_then held_then paid))

      -- one step at a site outside of the blocks
      pub site_case : SameEnd (turn_by go (strict_step p plan input s (word_turn (x ∷ rest) cells groups made closing) x rest h))
          (net_by p plan m input s run (net_step p plan m input s (item_turn (x ∷ rest) mem groups made closing) x rest))
      site_case = elim (cases_Bool (t == s)) [
        | inl q ↦ rw (plain.0, q) (own_case (evaluated p input cells h) (evaluated p input mem h) (eval_same p plan m input marked test ready s h r
            (eqb-true t s q) cells mem held.agrees) refl)
        | inr q ↦ rw (plain.0, q) (taken_case (taken_from p h (word_list (all_flats p plan m groups) t))
            (net_taken_from p h (item_list (all_items p plan m groups) t))
            (rw (words_there, items_there) (taken_alike p plan m input marked h plain.1 (group_list p plan m groups t) there_good)) refl)
      ]
