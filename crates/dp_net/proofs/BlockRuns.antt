-- A turn over items against the one over the words that they stand for, at a block: both go through it, or both break off.
use Rattle.dp_semantics.proofs.Names.{◌≡◌, inl, inr, refl, sym, ap, ◌∙◌, subst, append-nil, ℕ, zero, suc, ◌+◌, ◌-◌, ◌<◌, ◌≤◌, Bool, true, List, [], ◌∷◌, ◌++◌}
use Rattle.dp_semantics.proofs.Names.{drop, ℤ, length, length-append, list_all, Some, None, Err, lt-ltb, arith, eq-eqb, ne_eqb, slice_set, get_or, get_or_past}
use Rattle.dp_semantics.proofs.Names.{sum_by, sum_by-set, cases_eq, cases_lt, Stmt, out-Stmt, Program, Plan, Word, Event, stage_of, word_list, Void, taken_from}
use Rattle.dp_semantics.proofs.Names.{Turn, applied}
unfoldable use Rattle.dp_net.proofs.Strict.{strict_from}
use Rattle.std.proofs.lemmas.List.{map-set}
use Rattle.dp_semantics.proofs.Each.{Each, each_join}
use Rattle.dp_semantics.proofs.Ways.{Goes}
use Rattle.dp_semantics.proofs.Taking.{word_list_is}
use Rattle.dp_semantics.proofs.Followed.{Parts}
use Rattle.dp_net.specs.Quiet.{BlockOutcome, Through, Broke}
unfoldable use Rattle.dp_net.specs.Quiet.{quiet_from}
use Rattle.dp_net.specs.NetItems.{Marks, Item, weights, net_of}
use Rattle.dp_net.specs.NetRun.{NetTurn, net_past, net_made, net_met, net_step}
use Rattle.dp_net.proofs.Silent.{AllQuiet}
use Rattle.dp_net.proofs.Blocks.{said, said_length, effects_of, at_turn, through}
use Rattle.dp_net.proofs.BlockTurns.{breaks, produce, consume}
use Rattle.dp_net.proofs.Memories.{agree_net}
use Rattle.dp_net.proofs.Groups.{Group, Block, flats, flats_join, items, items_join, weights_are, all_flats, all_items, group_list, words_of_groups}
use Rattle.dp_net.proofs.Groups.{items_of_groups, Marked, Whole, Good, Meets, whole, other, meets, met_none}
use Rattle.dp_net.proofs.Texts.{site_at, Text}
use Rattle.dp_net.proofs.Ready.{Ready, each_set, each_get, SameOutcome, same_through, same_broke, Steady, steady_head, steady_split, outcome_same}
use Rattle.dp_net.proofs.SiteRuns.{word_turn, item_turn, left_of, Enough, Held}

module _ (p : Program) (plan : Plan) (m : Marks) (input : List ℤ) (marked : Marked p plan m input) (test : Stmt → Bool) where
  module _ (ready : (x : Stmt) → test x ≡ true → Ready p plan m (out-Stmt x) × Parts (λ xs. list_all test xs ≡ true) (out-Stmt x)) (s : ℕ) where
    -- a block at the head
    module _ (x : Stmt) (b more : List Stmt) (cells mem : List ℤ) (groups : List (List Group)) (made : List Group) (closing : Bool)
        (held : Held p plan m input marked test ready s (x ∷ (b ++ more)) cells mem groups made)
        (at : m.block_at (site_at x) ≡ x ∷ b) (text : Text m more) where
      abbrev f : ℕ
      f = site_at x

      abbrev u : ℕ
      u = stage_of p plan f

      quiet : AllQuiet p plan u (x ∷ b)
      quiet = marked.quiet f x b at

      parts : Steady p plan m input marked test (x ∷ b) × Steady p plan m input marked test more
      parts = steady_split p plan m input marked test ready s (x ∷ b) more held.steady

      pub low : 0 < u
      low = (steady_head p plan m input marked test ready s x (b ++ more) held.steady).staged

      behind_is : drop (length b) (b ++ more) ≡ more
      behind_is = Rattle.dp_semantics.proofs.Names.drop-append_seam b more

      abbrev before_words : Turn
      before_words = word_turn p plan m input marked test ready s (x ∷ (b ++ more)) cells groups made closing

      abbrev before_items : NetTurn
      before_items = item_turn p plan m input marked test ready s (x ∷ (b ++ more)) mem groups made closing

      step_is : net_step p plan m input s before_items x (b ++ more) ≡ Rattle.dp_net.specs.NetRun.block_step p plan m input s before_items f (x ∷ b) more
      step_is = rw (at, behind_is)

      -- where both stand behind the block, and how many words it had
      pub record Past : Type 0 where
        pub steps : ℕ
        pub cells_then : List ℤ
        pub mem_then : List ℤ
        pub groups_then : List (List Group)
        pub made_then : List Group
        pub held_then : Held p plan m input marked test ready s more cells_then mem_then groups_then made_then
        pub runs : (k n : ℕ) → k ≡ steps + n →
            strict_from p plan input s k before_words ≡ strict_from p plan input s n (word_turn p plan m input marked test ready s more cells_then
            groups_then made_then closing)
        pub made_is : net_step p plan m input s before_items x (b ++ more) ≡ Some (item_turn p plan m input marked test ready s more mem_then
            groups_then made_then closing)
        pub some : 0 < steps
        pub paid : steps + length (flats made) + left_of p plan m input marked test ready s groups_then ≤ length (flats made_then) + left_of p plan m input
            marked test ready s groups

      -- both go through the block, or both break off
      pub data Through_it : Type 0 where
        gone : Past → Through_it
        broken : net_step p plan m input s before_items x (b ++ more) ≡ None →
            ((n : ℕ) → Enough p plan m input marked test ready s n groups made →
            (why : Void) × (strict_from p plan input s n before_words ≡ Err why)) → Through_it

      some_steps : {events : List Event} → Whole p plan m input f events → 0 < length events
      some_steps {events} w = let r = Rattle.dp_net.proofs.Groups.first_word p plan m input marked f events w in subst (λ (es : List Event). 0 < length es)
          (sym r.2) (omega arith)

      -- the stage's own
      module _ (here : u ≡ s) where
        quiet_here : AllQuiet p plan s (x ∷ b)
        quiet_here = subst (λ (n : ℕ). AllQuiet p plan n (x ∷ b)) here quiet

        abbrev room : ℕ
        room = plan.words - weights (items p plan m made)

        room_is : room + length (flats made) ≡ plan.words
        room_is = let a = weights_are p plan m made in let b = held.fits in omega (arith, a, b)

        net_is : (o : BlockOutcome) → quiet_from p input room (x ∷ b) mem ≡ o →
            net_step p plan m input s before_items x (b ++ more) ≡ net_made p plan m f before_items more o
        net_is o e = step_is ∙ rw (eq-eqb u s here, e) refl

        own_block : (o n : BlockOutcome) → SameOutcome m s o n → quiet_from p input room (x ∷ b) cells ≡ o →
            quiet_from p input room (x ∷ b) mem ≡ n → Through_it
        own_block o n same_broke e d = broken (net_is Broke d)
            (λ k enough. breaks p plan s input room (x ∷ b) cells e quiet_here more (all_flats p plan m groups)
            (flats made) closing room_is k (omega (arith, enough, room_is)))
        own_block o n (same_through events c d agree) e g = gone (record {
          steps = length events;
          cells_then = c;
          mem_then = d;
          groups_then = groups;
          made_then = made ++ Block f events ∷ [];
          held_then = record {
            text = text;
            steady = parts.1;
            agrees = agree;
            good = held.good;
            made_good = each_join (Good p plan m input) made (Block f events ∷ []) held.made_good (w, tt);
            fits = omega (arith, grown, room_is, went.1);
          };
          runs = λ k n q. produce p plan s input went.0 quiet_here more (all_flats p plan m groups) (flats made) closing k n q (omega (arith, room_is, went.1))
              ∙ ap (λ (all : List Word). strict_from p plan input s n (at_turn more c (all_flats p plan m groups) all closing)) (sym flats_then);
          made_is = net_is (Through events d) g
              ∙ ap (λ (all : List Item). Some (net_past p plan before_items more d (all_items p plan m groups) all))
              (sym (items_join p plan m made (Block f events ∷ [])));
          some = some_steps w;
          paid = omega (arith, grown);
        })
          where
            went : Goes p input (x ∷ b) cells events [] c × (length events ≤ room)
            went = through p plan s input room (x ∷ b) cells events c e

            w : Whole p plan m input f events
            w = record { x = x; b = b; at = at; cells = cells; after = c; path = went.0 }

            flats_then : flats (made ++ Block f events ∷ []) ≡ flats made ++ said events
            flats_then = flats_join made (Block f events ∷ []) ∙ ap (λ more. flats made ++ more) (append-nil (said events))

            grown : length (flats (made ++ Block f events ∷ [])) ≡ length (flats made) + length events
            grown = ap length flats_then ∙ length-append (flats made) (said events) ∙ ap (λ (n : ℕ). length (flats made) + n) (said_length events)

      -- another stage's
      module _ (there : u ≡ s → ⊥) where
        words_then : word_list (all_flats p plan m groups) u ≡ flats (group_list p plan m groups u)
        words_then = words_of_groups p plan m groups u low

        good_there : Each (Good p plan m input) (group_list p plan m groups u)
        good_there = each_get (Each (Good p plan m input)) groups (u - 1) [] held.good tt

        met_is : net_step p plan m input s before_items x (b ++ more) ≡ net_met p plan f before_items more (items p plan m (group_list p plan m groups u))
        met_is = step_is ∙ rw (ne_eqb u s there) (ap (net_met p plan f before_items more) (items_of_groups p plan m groups u low))

        wide_by : (w : Word) (ws : List Word) → word_list (all_flats p plan m groups) u ≡ w ∷ ws → u < suc (length (all_flats p plan m groups))
        wide_by w ws e = elim (cases_lt (u - 1) (length (all_flats p plan m groups))) [
          | inl within ↦ omega (arith, within, low)
          | inr past ↦ let clash : [] ≡ w ∷ ws = sym (word_list_is (all_flats p plan m groups) u low
              ∙ get_or_past (all_flats p plan m groups) (u - 1) [] past) ∙ e in absurd (cc clash)
        ]

        stuck : (why : Void) × (taken_from p (out-Stmt x) (flats (group_list p plan m groups u)) ≡ Err why) → (n : ℕ) →
            Enough p plan m input marked test ready s n groups made → (why : Void) × (strict_from p plan input s n before_words ≡ Err why)
        unfolding strict_from
        stuck r zero enough = let room = held.fits in absurd (omega (arith, enough, room))
        stuck r (suc n) enough = (r.0, rw (ne_eqb u s there, words_then, r.1) refl)

        met_block : Meets p plan m input marked f (group_list p plan m groups u) → Through_it
        met_block (other words no_item) = broken (met_is
            ∙ met_none p plan m input marked f (items p plan m (group_list p plan m groups u)) no_item before_items more) (stuck (words (out-Stmt x) refl))
        met_block (whole events gs is w good) = gone (record {
          steps = length events;
          cells_then = applied (effects_of events) cells;
          mem_then = applied (net_of (m.hides u) (effects_of events)) mem;
          groups_then = slice_set groups (u - 1) gs;
          made_then = made;
          held_then = record {
            text = text;
            steady = parts.1;
            agrees = agree_net m s u there (effects_of events) cells mem held.agrees;
            good = each_set (Each (Good p plan m input)) groups (u - 1) gs held.good good;
            made_good = held.made_good;
            fits = held.fits;
          };
          runs = λ k n q. consume p plan u input path quiet s there low more cells (all_flats p plan m groups) (flats made) closing (flats gs) wide front k n q
              ∙ ap (λ (ls : List (List Word)). strict_from p plan input s n (at_turn more (applied (effects_of events) cells) ls (flats made) closing))
              (sym (map-set flats groups (u - 1) gs));
          made_is = met_is ∙ ap (λ (all : List Group). net_met p plan f before_items more (items p plan m all)) is
              ∙ rw (eq-eqb f f refl, lt-ltb 0 (length events) (some_steps w)) refl
              ∙ ap (λ (ls : List (List Item)). Some (net_past p plan before_items more (applied (net_of (m.hides u) (effects_of events)) mem) ls
              (items p plan m made))) (sym (map-set (items p plan m) groups (u - 1) gs));
          some = some_steps w;
          paid = omega (arith, sums, sizes, gone_is, set_is);
        })
          where
            path : Goes p input (x ∷ b) w.cells events [] w.after
            path = let same : w.x ∷ w.b ≡ x ∷ b = sym w.at ∙ at in subst (λ (ys : List Stmt). Goes p input ys w.cells events [] w.after) same w.path

            front : word_list (all_flats p plan m groups) u ≡ said events ++ flats gs
            front = words_then ∙ ap flats is

            wide : u < suc (length (all_flats p plan m groups))
            wide = let r = Rattle.dp_net.proofs.Groups.first_word p plan m input marked f events w in wide_by _ _ (front
                ∙ ap (λ (es : List Event). said es ++ flats gs) r.2)

            sums : sum_by length (slice_set (all_flats p plan m groups) (u - 1) (flats gs)) + length (get_or (all_flats p plan m groups)
                (u - 1) []) ≡ left_of p plan m input marked test ready s groups + length (flats gs)
            sums = sum_by-set length (all_flats p plan m groups) (u - 1) (flats gs) [] (omega (arith, wide, low))

            sizes : length (get_or (all_flats p plan m groups) (u - 1) []) ≡ length events + length (flats gs)
            sizes = ap length (sym (word_list_is (all_flats p plan m groups) u low) ∙ front) ∙ length-append (said events) (flats gs)
                ∙ ap (λ (n : ℕ). n + length (flats gs)) (said_length events)

            gone_is : 0 < length events
            gone_is = some_steps w

            set_is : left_of p plan m input marked test ready s (slice_set groups (u - 1) gs) ≡ sum_by length (slice_set (all_flats p plan m groups)
                (u - 1) (flats gs))
            set_is = ap (sum_by length) (map-set flats groups (u - 1) gs)

      pub block_case : Through_it
      block_case = elim (cases_eq u s) [
        | inl here ↦ own_block here _ _ (outcome_same p plan m input marked test ready s (room here) (x ∷ b) cells mem parts.0 (quiet_here here)
            held.agrees) refl refl
        | inr there ↦ met_block there (meets p plan m input marked f (marked.within f x b at) (group_list p plan m groups u) (good_there there))
      ]
