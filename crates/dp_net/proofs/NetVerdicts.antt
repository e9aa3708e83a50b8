-- The judgement of items is the definition's judgement of the words that they stand for.
use Rattle.dp_semantics.proofs.Names.{◌≡◌, inl, inr, refl, sym, ap, ◌∙◌, subst, ℕ, zero, suc, ◌+◌, ◌-◌, ◌<◌, ◌≤◌, ◌==◌, Bool, true, false, ◌&&◌, ◌||◌}
use Rattle.dp_semantics.proofs.Names.{if◌then◌else◌, List, [], ◌∷◌, ◌++◌, ℤ, length, list_all, Option, Some, None, Err, Result, nat_le, lt-ltb, arith, le-leb}
use Rattle.dp_semantics.proofs.Names.{lt-leb, eq-eqb, slice_set, get_or_past, and_parts, cases_Bool, cases_lt, drop-append_seam, Stmt, out-Stmt, Stmt-F}
use Rattle.dp_semantics.proofs.Names.{Program, Plan, Word, Event, Effect, site_of, value_of, stored, followed, stage_of, first_site, is_load_of, as_assumed}
use Rattle.dp_semantics.proofs.Names.{word_list, Void, Taken, taken_from, closes_at, applied, Judging, Unclean, loads_hold, judged, judge_by, last}
unfoldable use Rattle.dp_semantics.proofs.Names.{judge_from}
use Rattle.dp_semantics.specs.Judge.{judged_by}
use Rattle.dp_semantics.specs.Words.{is_load}
use Rattle.std.proofs.lemmas.List.{map-set}
use Rattle.dp_semantics.proofs.Each.{Each}
use Rattle.dp_semantics.proofs.Ways.{Goes}
use Rattle.dp_semantics.proofs.Taking.{word_list_is}
use Rattle.dp_semantics.proofs.Followed.{Parts}
use Rattle.dp_net.specs.NetItems.{Marks, Item, Said, Net, net_of, item_list, NetTaken}
use Rattle.dp_net.specs.NetRun.{net_past}
use Rattle.dp_net.specs.NetJudge.{NetJudging, net_loads_hold, sites_for, net_judged, net_judged_by, block_judged, net_judge_step, net_judge_by}
unfoldable use Rattle.dp_net.specs.NetJudge.{net_judge_from}
use Rattle.dp_net.proofs.Silent.{AllQuiet}
use Rattle.dp_net.proofs.Blocks.{said, effects_of, sites_of, at_turn}
use Rattle.dp_net.proofs.BlockTurns.{judge_block, judge_short, all_of_stage}
use Rattle.dp_net.proofs.Memories.{Agrees, agree_stored, agree_net}
use Rattle.dp_net.proofs.Groups.{Group, One, Block, flats, items, all_flats, all_items, group_list, words_of_groups, items_of_groups, Marked, Good, Alike, both}
use Rattle.dp_net.proofs.Groups.{none, taken_alike, Meets, whole, other, meets, Missing, first_word}
use Rattle.dp_net.proofs.Texts.{site_at, Plain, Text, alone, joined, headed}
use Rattle.dp_net.proofs.Ready.{Ready, steady_head, steady_next, steady_split, each_set, each_get}
use Rattle.dp_net.proofs.SiteRuns.{Held, word_turn, item_turn}
use Rattle.dp_net.proofs.ToldAlike.{Told, told_more, told_one, told_block, SameVerdict}

module _ (p : Program) (plan : Plan) (m : Marks) (input : List ℤ) (marked : Marked p plan m input) (test : Stmt → Bool)
    (ready : (x : Stmt) → test x ≡ true → Ready p plan m (out-Stmt x) × Parts (λ xs. list_all test xs ≡ true) (out-Stmt x)) where
  abbrev at_last : ℕ
  at_last = last plan

  abbrev words_at : List Stmt → List ℤ → List (List Group) → Bool → List Effect → List ℕ → Judging
  words_at to_do cells groups closing effects sites =
      record { turn = word_turn p plan m input marked test ready at_last to_do cells groups [] closing; effects = effects; sites = sites }

  abbrev items_at : List Stmt → List ℤ → List (List Group) → Bool → List Effect → List ℕ → ℕ → NetJudging
  items_at to_do mem groups closing effects sites steps =
      record { turn = item_turn p plan m input marked test ready at_last to_do mem groups [] closing; effects = effects; sites = sites; steps = steps }

  abbrev Holds : List Stmt → List ℤ → List ℤ → List (List Group) → Type 0
  Holds to_do cells mem groups = Held p plan m input marked test ready at_last to_do cells mem groups []

  -- the loads are compared alike
  loads_alike : (site : ℕ) (cells mem : List ℤ) → Agrees m at_last cells mem → (gs : List Group) → Each (Good p plan m input) gs →
      loads_hold site cells (flats gs) ≡ net_loads_hold site mem (items p plan m gs)
  loads_alike site cells mem ab [] g = refl
  loads_alike site cells mem ab (Block f events ∷ gs) g =
      let r = first_word p plan m input marked f events g.0 in
      ap (λ (es : List Event). loads_hold site cells (said es ++ flats gs)) r.2 ∙ rw (Rattle.dp_semantics.proofs.Names.and-false (r.0.site == site)) refl
  loads_alike site cells mem ab (One w ∷ gs) g = elim (cases_Bool (is_load_of site w)) [
    | inl q ↦
        let load = (and_parts (w.site.0 == site) (is_load w.kind) q).1 in
        rw (q, ab.same w.index (λ u other. g.0.1 load u), loads_alike site cells mem ab gs g.1)
    | inr q ↦ rw q
  ]

  abbrev JudgeGoal : ℕ → ℕ → Type 0
  JudgeGoal limit k = (n steps : ℕ) (to_do : List Stmt) (cells mem : List ℤ) (groups : List (List Group)) (closing : Bool) (sites : List ℕ)
      (effects : List Effect) (net_sites : List ℕ) (net_effects : List Effect) → steps + n ≡ limit → n < k →
      Holds to_do cells mem groups → Told p plan m sites effects net_sites net_effects steps →
      SameVerdict p plan m (judge_from p plan n (words_at to_do cells groups closing effects sites))
      (net_judge_from p plan m limit k (items_at to_do mem groups closing net_effects net_sites steps))

  module _ (limit k : ℕ) (go : JudgeGoal limit k) (steps : ℕ) (x : Stmt) (cells mem : List ℤ) (groups : List (List Group)) (closing : Bool) (sites : List ℕ)
      (effects : List Effect) (net_sites : List ℕ) (net_effects : List Effect)
      (told : Told p plan m sites effects net_sites net_effects steps) where
    abbrev h : Stmt-F Stmt
    h = out-Stmt x

    abbrev t : ℕ
    t = stage_of p plan (site_of h).0

    module _ (rest : List Stmt) (held : Holds (x ∷ rest) cells mem groups) where
      r : Ready p plan m h
      r = steady_head p plan m input marked test ready at_last x rest held.steady

      words_there : word_list (all_flats p plan m groups) t ≡ flats (group_list p plan m groups t)
      words_there = words_of_groups p plan m groups t r.staged

      items_there : item_list (all_items p plan m groups) t ≡ items p plan m (group_list p plan m groups t)
      items_there = items_of_groups p plan m groups t r.staged

      there_good : Each (Good p plan m input) (group_list p plan m groups t)
      there_good = each_get (Each (Good p plan m input)) groups (t - 1) [] held.good tt

      -- a site outside of the blocks, where a step is left
      at_site : (n : ℕ) → steps + suc n ≡ limit → suc n < suc k → Plain m x → ((z : ℤ) → Text m (followed x rest h z)) →
          SameVerdict p plan m (judge_from p plan (suc n) (words_at (x ∷ rest) cells groups closing effects sites))
          (net_judge_from p plan m limit (suc k) (items_at (x ∷ rest) mem groups closing net_effects net_sites steps))
      unfolding judge_from net_judge_from
      at_site n within more plain texts =
          rw (
            plain.0,
            le-leb (steps + 1) limit (omega (arith, within)),
            words_there,
            items_there,
            loads_alike (site_of h).0 cells mem held.agrees (group_list p
                plan m groups t) there_good,
          )
          (by _ _ (taken_alike p plan m input marked h plain.1 (group_list p plan m groups t) there_good)
          (net_loads_hold (site_of h).0 mem (items p plan m (group_list p plan m groups t))))
        where
          by : (u : Result Taken Void) (w : Option NetTaken) → Alike p plan m input marked u w → (b : Bool) →
              SameVerdict p plan m (judge_by (judge_from p plan n) (judged_by p plan (words_at (x ∷ rest) cells groups closing effects sites) x rest h b u))
              (net_judge_by p plan (net_judge_from p plan m limit k)
              (net_judged_by p plan (items_at (x ∷ rest) mem groups closing net_effects net_sites steps) x rest h b w))
          by u w (none why) b = tt
          by u w (both effect gs good) b = by_test (b && as_assumed p plan (site_of h).0 effect)
            where
              sets : slice_set (all_flats p plan m groups) (t - 1) (flats gs) ≡ all_flats p plan m (slice_set groups (t - 1) gs)
              sets = sym (map-set flats groups (t - 1) gs)

              net_sets : slice_set (all_items p plan m groups) (t - 1) (items p plan m gs) ≡ all_items p plan m (slice_set groups (t - 1) gs)
              net_sets = sym (map-set (items p plan m) groups (t - 1) gs)

              held_then : Holds (followed x rest h (value_of effect)) (stored effect cells) (stored effect mem) (slice_set groups (t - 1) gs)
              held_then = record {
                text = texts (value_of effect);
                steady = steady_next p plan m input marked test ready at_last x rest (value_of effect) held.steady;
                agrees = agree_stored m at_last effect cells mem held.agrees;
                good = each_set (Each (Good p plan m input)) groups (t - 1) gs held.good good;
                made_good = tt;
                fits = omega arith;
              }

              told_then : Told p plan m (sites ++ (site_of h).0 ∷ []) (effects ++ effect ∷ []) (net_sites ++ (site_of h).0 ∷ [])
                  (net_effects ++ effect ∷ []) (steps + 1)
              told_then = told_more p plan m sites effects net_sites net_effects steps _ _ _ _ 1 told (told_one p plan m (site_of h).0 effect)

              by_test : (b : Bool) →
                  SameVerdict p plan m
                  (judge_by (judge_from p plan n) (if b then Some (judged p plan (words_at (x ∷ rest) cells groups closing effects sites) x rest h
                  (record { effect = effect; rest = flats gs })) else None))
                  (net_judge_by p plan (net_judge_from p plan m limit k)
                  (if b then Some (net_judged p plan (items_at (x ∷ rest) mem groups closing net_effects net_sites steps) x rest h
                  (record { effect = effect; rest = items p plan m gs })) else None))
              by_test false = tt
              by_test true = rw (sets, net_sets) (go n (steps + 1) (followed x rest h (value_of effect)) (stored effect cells) (stored effect mem)
                  (slice_set groups (t - 1) gs) (closing || closes_at (first_site p plan) (site_of h).0 effect) _ _ _ _ (omega (arith, within))
                  (omega (arith, more)) held_then told_then)

      -- .. and where none is left
      at_spent : steps ≡ limit → Plain m x →
          SameVerdict p plan m (judge_from p plan 0 (words_at (x ∷ rest) cells groups closing effects sites))
          (net_judge_from p plan m limit (suc k) (items_at (x ∷ rest) mem groups closing net_effects net_sites steps))
      unfolding judge_from net_judge_from
      at_spent within plain = rw (plain.0, lt-leb (steps + 1) limit (omega (arith, within))) tt

    module _ (b rest : List Stmt) (held : Holds (x ∷ (b ++ rest)) cells mem groups) (at : m.block_at (site_at x) ≡ x ∷ b) (text : Text m rest) where
      ready_here : Ready p plan m h
      ready_here = steady_head p plan m input marked test ready at_last x (b ++ rest) held.steady

      low : 0 < t
      low = ready_here.staged

      early : t ≡ at_last → ⊥
      early e = let r = ready_here.early in absurd (omega (arith, e, r))

      quiet : AllQuiet p plan t (x ∷ b)
      quiet = marked.quiet (site_at x) x b at

      list_is : word_list (all_flats p plan m groups) t ≡ flats (group_list p plan m groups t)
      list_is = words_of_groups p plan m groups t low

      list_good : Each (Good p plan m input) (group_list p plan m groups t)
      list_good = each_get (Each (Good p plan m input)) groups (t - 1) [] held.good tt

      step_is : net_judge_step p plan m limit (items_at (x ∷ (b ++ rest)) mem groups closing net_effects net_sites steps) x (b ++ rest)
          ≡ block_judged p plan limit (items_at (x ∷ (b ++ rest)) mem groups closing net_effects net_sites steps) (site_at x) rest
          (items p plan m (group_list p plan m groups t))
      step_is = rw (at, drop-append_seam b rest, items_of_groups p plan m groups t low)

      missing : (is : List Item) → Missing p plan m input marked (site_at x) is →
          block_judged p plan limit (items_at (x ∷ (b ++ rest)) mem groups closing net_effects net_sites steps) (site_at x) rest is ≡ None
      missing [] e = refl
      missing (Said w ∷ more) e = refl
      missing (Net f count stores ∷ more) e = rw e refl

      wide_by : (w : Word) (ws : List Word) → word_list (all_flats p plan m groups) t ≡ w ∷ ws → t < suc (length (all_flats p plan m groups))
      wide_by w ws e = elim (cases_lt (t - 1) (length (all_flats p plan m groups))) [
        | inl within ↦ omega (arith, within, low)
        | inr past ↦ let clash : [] ≡ w ∷ ws = sym (word_list_is (all_flats p plan m groups) t low
            ∙ get_or_past (all_flats p plan m groups) (t - 1) [] past) ∙ e in absurd (cc clash)
      ]

      refused : (words : (why : Void) × (taken_from p h (flats (group_list p plan m groups t)) ≡ Err why)) (n : ℕ) →
          judge_from p plan n (words_at (x ∷ (b ++ rest)) cells groups closing effects sites) ≡ Unclean
      unfolding judge_from
      refused words zero = refl
      refused words (suc n) = rw (list_is, words.1) refl

      at_block : (n : ℕ) → steps + n ≡ limit → n < suc k → Meets p plan m input marked (site_at x) (group_list p plan m groups t) →
          SameVerdict p plan m (judge_from p plan n (words_at (x ∷ (b ++ rest)) cells groups closing effects sites))
          (net_judge_from p plan m limit (suc k) (items_at (x ∷ (b ++ rest)) mem groups closing net_effects net_sites steps))
      unfolding net_judge_from
      at_block n within more (other words no_item) = rw (step_is, missing (items p plan m (group_list p plan m groups t)) no_item, refused (words h refl) n) tt
      at_block n within more (whole events gs is w good) =
          rw met
          (elim (cases_lt n (length events)) [
            | inl few ↦ rw (short few, lt-leb (steps + length events) limit (omega (arith, within, few))) tt
            | inr enough ↦ rw (le-leb (steps + length events) limit (omega (arith, within, enough)), goes_on enough, net_sets)
                (go (n - length events) (steps + length events) rest (applied (effects_of events) cells) (applied (net_of (m.hides t) (effects_of events)) mem)
                (slice_set groups (t - 1) gs) closing _ _ _ _
                (omega (arith, within, enough)) (omega (arith, more, some, enough)) held_then told_then)
          ])
        where
          some : 0 < length events
          some = let r = first_word p plan m input marked (site_at x) events w in subst (λ (es : List Event). 0 < length es) (sym r.2) (omega arith)

          next_if : Bool → Option NetJudging
          next_if u = if u then Some
              (record {
                turn = net_past p plan (item_turn p plan m input marked test ready at_last (x ∷ (b ++ rest)) mem groups [] closing) rest (applied
                    (net_of (m.hides t) (effects_of events)) mem) (slice_set (all_items p plan m groups) (t - 1) (items p plan m gs)) [];
                effects = net_effects ++ net_of (m.hides t) (effects_of events);
                sites = net_sites ++ sites_for (site_at x) (net_of (m.hides t) (effects_of events));
                steps = steps + length events;
              }) else None

          met : net_judge_step p plan m limit (items_at (x ∷ (b ++ rest)) mem groups closing net_effects net_sites steps) x (b ++ rest) ≡ next_if
              (nat_le (steps + length events) limit)
          met = step_is
              ∙ ap (λ (all : List Group). block_judged p plan limit (items_at (x ∷ (b ++ rest)) mem groups closing net_effects net_sites steps) (site_at x) rest
              (items p plan m all)) is ∙ rw (eq-eqb (site_at x) (site_at x) refl, lt-ltb 0 (length events) some) refl

          path : Goes p input (x ∷ b) w.cells events [] w.after
          path = let same : w.x ∷ w.b ≡ x ∷ b = sym w.at ∙ at in subst (λ (ys : List Stmt). Goes p input ys w.cells events [] w.after) same w.path

          front : word_list (all_flats p plan m groups) t ≡ said events ++ flats gs
          front = list_is ∙ ap flats is

          wide : t < suc (length (all_flats p plan m groups))
          wide = let r = first_word p plan m input marked (site_at x) events w in wide_by _ _ (front ∙ ap (λ (es : List Event). said es ++ flats gs) r.2)

          short : n < length events → judge_from p plan n (words_at (x ∷ (b ++ rest)) cells groups closing effects sites) ≡ Unclean
          short few = judge_short p plan t input path quiet low rest cells (all_flats p plan m groups) [] closing (flats gs) wide front effects sites n few

          sets : slice_set (all_flats p plan m groups) (t - 1) (flats gs) ≡ all_flats p plan m (slice_set groups (t - 1) gs)
          sets = sym (map-set flats groups (t - 1) gs)

          net_sets : slice_set (all_items p plan m groups) (t - 1) (items p plan m gs) ≡ all_items p plan m (slice_set groups (t - 1) gs)
          net_sets = sym (map-set (items p plan m) groups (t - 1) gs)

          goes_on : length events ≤ n → judge_from p plan n (words_at (x ∷ (b ++ rest)) cells groups closing effects sites)
              ≡ judge_from p plan (n - length events) (words_at rest (applied (effects_of events) cells) (slice_set groups (t - 1) gs) closing
              (effects ++ effects_of events) (sites ++ sites_of events))
          goes_on enough =
              judge_block p plan t input path quiet low rest cells (all_flats p plan m groups) [] closing (flats gs) wide front effects sites n
              (n - length events) (omega (arith, enough))
              ∙ ap (λ (ls : List (List Word)). judge_from p plan (n - length events)
              (record {
                turn = at_turn rest (applied (effects_of events) cells) ls [] closing;
                effects = effects ++ effects_of events;
                sites = sites ++ sites_of events;
              })) sets

          held_then : Holds rest (applied (effects_of events) cells) (applied (net_of (m.hides t) (effects_of events)) mem) (slice_set groups (t - 1) gs)
          held_then = record {
            text = text;
            steady = (steady_split p plan m input marked test ready at_last (x ∷ b) rest held.steady).1;
            agrees = agree_net m at_last t early (effects_of events) cells mem held.agrees;
            good = each_set (Each (Good p plan m input)) groups (t - 1) gs held.good good;
            made_good = tt;
            fits = omega arith;
          }

          told_then : Told p plan m (sites ++ sites_of events) (effects ++ effects_of events)
              (net_sites ++ sites_for (site_at x) (net_of (m.hides t) (effects_of events))) (net_effects ++ net_of (m.hides t) (effects_of events))
              (steps + length events)
          told_then = told_more p plan m sites effects net_sites net_effects steps _ _ _ _ (length events) told
              (told_block p plan m (site_at x) events early (all_of_stage p plan t input path quiet))

  -- The judgement of the items is that of the words.
  pub judge_alike : (limit k : ℕ) → JudgeGoal limit k
  unfolding judge_from net_judge_from
  judge_alike limit zero n steps to_do cells mem groups closing sites effects net_sites net_effects within more held told = absurd (omega (arith, more))
  judge_alike limit (suc k) zero steps [] cells mem groups closing sites effects net_sites net_effects within more held told =
      record { told = told; closing = refl }
  judge_alike limit (suc k) (suc n) steps [] cells mem groups closing sites effects net_sites net_effects within more held told =
      record { told = told; closing = refl }
  judge_alike limit (suc k) zero steps (x ∷ rest) cells mem groups closing sites effects net_sites net_effects within more held told =
      elim (headed m p plan input marked x rest held.text) [
        | alone plain texts ↦ at_spent limit k (judge_alike limit k) steps x cells mem groups closing sites effects net_sites net_effects told rest held
            (omega (arith, within)) plain
        | joined b behind at is text ↦
            subst (λ (ys : List Stmt). Holds (x ∷ ys) cells mem groups →
            SameVerdict p plan m (judge_from p plan zero (words_at (x ∷ ys) cells groups closing effects sites))
            (net_judge_from p plan m limit (suc k) (items_at (x ∷ ys) mem groups closing net_effects net_sites steps))) (sym is)
            (λ hold. at_block limit k (judge_alike limit k) steps x cells mem groups closing sites effects net_sites net_effects told b behind hold at
            text zero within more
            (meets p plan m input marked (site_at x) (marked.within (site_at x) x b at) _
            (list_good limit k (judge_alike limit k) steps x cells mem groups closing
            sites effects net_sites net_effects told b behind hold at text))) held
      ]
  judge_alike limit (suc k) (suc n) steps (x ∷ rest) cells mem groups closing sites effects net_sites net_effects within more held told =
      elim (headed m p plan input marked x rest held.text) [
        | alone plain texts ↦ at_site limit k (judge_alike limit k) steps x cells mem groups closing sites effects net_sites net_effects told rest held n
            within more plain texts
        | joined b behind at is text ↦
            subst (λ (ys : List Stmt). Holds (x ∷ ys) cells mem groups →
            SameVerdict p plan m (judge_from p plan (suc n) (words_at (x ∷ ys) cells groups closing effects sites))
            (net_judge_from p plan m limit (suc k) (items_at (x ∷ ys) mem groups closing net_effects net_sites steps))) (sym is)
            (λ hold. at_block limit k (judge_alike limit k) steps x cells mem groups closing sites effects net_sites net_effects told b behind hold at
            text (suc n) within more
            (meets p plan m input marked (site_at x) (marked.within (site_at x) x b at) _
            (list_good limit k (judge_alike limit k) steps x cells mem groups closing
            sites effects net_sites net_effects told b behind hold at text))) held
      ]
