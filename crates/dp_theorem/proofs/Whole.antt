-- A whole iteration: the turns of the stages, and the judgement on their words.
use Rattle.dp_semantics.proofs.Names.{◌≡◌, refl, sym, ap, ◌∙◌, subst, ℕ, suc, ◌+◌, ◌-◌, ◌<◌, ◌≤◌, Bool, true, false, ◌&&◌, List, [], ◌∷◌, ◌++◌, ℤ, length, map}
use Rattle.dp_semantics.proofs.Names.{nat_le, arith, sum_by, le-leb, is_some, Ok, append-nil, list_all, Word, Stmt, outs-If, Region, Program, Plan, Event}
use Rattle.dp_semantics.proofs.Names.{Access, stage_of, region_statement, Past, all_agree, event_as_assumed, pushed, assumed_in, project_all, word_list, Turn}
use Rattle.dp_semantics.proofs.Names.{TurnEnd, Ended, turn_at, turn_from, turn_begin, stage_run, Epoch, Agreed, Clean, judge_lists, last, none_earlier}
use Rattle.dp_semantics.proofs.Names.{well_nested, effect_in, site_in, and_from, or-true}
pub use Rattle.dp_theorem.proofs.Memory.{AllBefore, pushed_before, before_later, Cleared, sees_next, sees_replicated, clear-at, clear-other, clear-still}
pub use Rattle.dp_theorem.proofs.Lockstep.{words_through, closing_after, stands_after, Goes, stays, goes, lockstep, Through}
use Rattle.dp_tree.specs.declared.Stmt.TheVariants as tree
pub use Rattle.dp_semantics.proofs.Setting.{turn_of}
use Rattle.dp_semantics.proofs.Setting.{Before, size, Sound, Accepted, Fit, Known, Each, each_map, each_join, all_make, accesses_all, all_well, accesses_at}
use Rattle.dp_semantics.proofs.Setting.{accesses_out, well_at, well_out, if_rule, project_at, project_out}
use Rattle.dp_theorem.proofs.Stepping.{InStep, reached, Sees, Stands}
use Rattle.dp_theorem.proofs.Judging.{judge_lockstep, judge_ends, JudgedThrough}
use Rattle.dp_theorem.proofs.Backward.{AllRunning, Agreeing, judge_back}

module _ {p : Program} {plan : Plan} (a : Accepted p plan) where
  abbrev region_head : Rattle.dp_tree.specs.declared.Stmt.TheOpen.Stmt-F Stmt
  region_head = Region plan.region a.site a.cond a.body

  pub sound_parts : Each (Sound p plan) (accesses_at region_head ++ [])
  sound_parts = subst (λ (xs : List Access). Each (Sound p plan) xs) (ap accesses_all a.region ∙ ap (λ xs. xs ++ []) (accesses_out a.statement
      ∙ ap accesses_at a.is)) a.sound

  pub turn_sound : Each (Sound p plan) (accesses_all (turn_of a))
  turn_sound = subst (λ (xs : List Access). Each (Sound p plan) xs)
      (sym (ap (λ xs. xs ++ []) (accesses_out (tree.If a.site a.cond a.body []) ∙ ap accesses_at (outs-If a.site a.cond a.body []))))
      (each_join (Sound p plan) (accesses_at region_head ++ []) [] sound_parts tt)

  one_first : stage_of p plan a.site.0 ≡ 1
  one_first = ap (stage_of p plan) (sym a.first) ∙ a.staged

  pub turn_well : all_well p plan (turn_of a) ≡ true
  turn_well = and_from (well_nested p plan (tree.If a.site a.cond a.body [])) true
      (well_out p plan (tree.If a.site a.cond a.body []) ∙ ap (well_at p plan) (outs-If a.site a.cond a.body [])
      ∙ and_from (if_rule p plan a.site.0 (accesses_all a.body ++ [])) (all_well p plan a.body && true) ruled
      (and_from (all_well p plan a.body) true a.well refl)) refl
    where
      early : none_earlier p plan a.site.0 (accesses_all a.body ++ []) ≡ true
      early = all_make (λ u. nat_le (stage_of p plan a.site.0) (stage_of p plan u.site)) (accesses_all a.body ++ [])
          (each_map (Sound p plan) (λ u. nat_le (stage_of p plan a.site.0) (stage_of p plan u.site) ≡ true)
          (λ u s. le-leb _ _ (omega (arith, one_first, s.staged))) (accesses_all a.body ++ []) sound_parts.1)

      ruled : if_rule p plan a.site.0 (accesses_all a.body ++ []) ≡ true
      ruled = rw early (or-true (is_some (assumed_in plan.assume a.site.0)))

  -- a stage's program of the region is its part of one iteration
  turn_program : (s : ℕ) → 0 < s → project_all p plan s (region_statement p plan) ≡ project_all p plan s (turn_of a)
  turn_program s real =
      ap (project_all p plan s) a.region
      ∙ ap (λ ys. ys ++ []) (project_out p plan s a.statement ∙ ap (project_at p plan s) a.is
      ∙ sym (project_out p plan s (tree.If a.site a.cond a.body []) ∙ ap (project_at p plan s) (outs-If a.site a.cond a.body [])
      ∙ reached p plan s a.site.0 (tree.If a.site a.cond (project_all p plan s a.body) [] ∷ []) _ (omega (arith, one_first, real))))

ends_at : (p : Program) (plan : Plan) (input : List ℤ) (s n : ℕ) (c : Turn) → c.to_do ≡ [] →
    turn_from p plan input s (suc n) c ≡ Ok (record { own = c.own; cells = c.cells; closing = c.closing })
unfolding turn_from
ends_at p plan input s n c e = ap (turn_at p plan input s (turn_from p plan input s n) c) e

abbrev none_left : ℕ → List Word
none_left t = []

module _ {k : Epoch} (ok : Fit k) (i : ℕ) (earlier : List Past) where
  open k use {program, plan, input, base}

  abbrev text : List Stmt
  text = turn_of ok.accepted

  -- the source stands at the iteration's start
  pub stands_at_start : (cells : List ℤ) → Each (Known k) earlier → Sees k (last plan) i earlier cells → length cells ≡ size program →
      Before program input plan.region text i earlier cells → Stands k i text earlier cells
  stands_at_start cells known sees size_is chain = record {
    well = turn_well ok.accepted;
    sound = turn_sound ok.accepted;
    known = known;
    sees = sees;
    size_is = size_is;
    fit = ok;
    here = record { started = cells; done = []; before = earlier; chain = chain; path = stays; earlier_is = refl; size_is = size_is };
  }

  -- a stage's memory where the iteration starts
  pub record Fresh (s : ℕ) (cells : List ℤ) : Type 0 where
    pub sees : Sees k s i earlier cells
    pub size_is : length cells ≡ size program

  starts : (s : ℕ) → 0 < s → (cells : List ℤ) → Fresh s cells → (lists : List (List Word)) → s ≤ suc (length lists) →
      InStep k i s text earlier (turn_begin program plan s cells lists)
  starts s real cells fresh lists wide = record { to_do_is = turn_program ok.accepted s real; sees = fresh.sees; size_is = fresh.size_is; wide = wide }

  -- the source makes the whole iteration from here, in agreement with the plan
  pub record Makes (cells : List ℤ) (events : List Event) : Type 0 where
    pub then_cells : List ℤ
    pub path : Goes program input text cells events [] then_cells
    pub agree : all_agree program plan base i earlier events ≡ true
    pub told : list_all (event_as_assumed program plan) events ≡ true
    pub fits : (s : ℕ) → 0 < s → s < last plan → length (words_through program plan s events) ≤ plan.words

  -- The turn of a stage in such an iteration: its words, its memory, and whether it closes.
  pub record TurnIs (s : ℕ) (events : List Event) (turn : TurnEnd) : Type 0 where
    pub then_cells : List ℤ
    pub is : turn ≡ Ok (record { own = words_through program plan s events; cells = then_cells; closing = closing_after program plan false events })
    pub sees : Sees k s i (pushed i events earlier) then_cells
    pub size_is : length then_cells ≡ size program

  -- a stage's turn that came to its end, with the words that went on
  pub record TurnEnds (s : ℕ) (words : ℕ → List Word) : Type 0 where
    pub mine : List ℤ
    pub lists : List (List Word)
    pub ended : Ended
    pub fresh : Fresh s mine
    pub are : (t : ℕ) → 0 < t → t < s → word_list lists t ≡ words t
    pub wide : s ≤ suc (length lists)
    pub ends : stage_run program plan input s mine lists ≡ Ok ended
    pub words_are : ended.own ≡ words s

  -- Where the judgement is Clean, the source makes the iteration so.
  pub record MadeWithin (cells : List ℤ) (n : ℕ) : Type 0 where
    pub events : List Event
    pub makes : Makes cells events
    pub within : length events ≤ n

  module _ (cells : List ℤ) (at : Stands k i text earlier cells) where
    pub stage_whole : (s : ℕ) → 0 < s → s < last plan → (events : List Event) → Makes cells events → (mine : List ℤ) → Fresh s mine →
        (lists : List (List Word)) → ((t : ℕ) → 0 < t → t < s → word_list lists t ≡ words_through program plan t events) →
        s ≤ suc (length lists) → TurnIs s events (stage_run program plan input s mine lists)
    stage_whole s real high events m mine fresh lists are wide = record {
      then_cells = r.turn.cells;
      is = r.runs (plan.words + sum_by length lists + 1) (suc spare) steps ∙ ends_at program plan input s spare r.turn r.in_step.to_do_is
          ∙ ap (λ (own : List Word). Ok (record { own = own; cells = r.turn.cells; closing = r.turn.closing })) r.own
          ∙ ap (λ (closing : Bool). Ok (record { own = words_through program plan s events; cells = r.turn.cells; closing = closing })) r.closing;
      sees = r.in_step.sees;
      size_is = r.in_step.size_is;
    }
      where
        r : Through k i s [] earlier events (turn_begin program plan s mine lists)
        r = lockstep ok s real at m.path m.agree m.told none_left (turn_begin program plan s mine lists) (m.fits s real high)
            (starts s real mine fresh lists wide) (λ t low up. are t low up ∙ sym (append-nil (words_through program plan t events)))

        spare : ℕ
        spare = (plan.words + sum_by length lists) - r.steps

        steps : plan.words + sum_by length lists + 1 ≡ r.steps + suc spare
        steps = omega (arith, r.paid, ap length r.own, m.fits s real high)

    starts_judging : (lists : List (List Word)) → last plan ≤ suc (length lists) →
        InStep k i (last plan) text earlier (turn_begin program plan (last plan) cells lists)
    starts_judging lists wide = starts (last plan) (omega arith) cells (record { sees = at.sees; size_is = at.size_is }) lists wide

    -- The judgement of such an iteration is Clean, with the source's effects.
    pub judge_whole : (n : ℕ) (events : List Event) → Makes cells events → length events ≤ n → (lists : List (List Word)) →
        ((t : ℕ) → 0 < t → t < last plan → word_list lists t ≡ words_through program plan t events) → last plan ≤ suc (length lists) →
        judge_lists program plan n cells lists ≡ Clean
        (record { effects = map effect_in events; sites = map site_in events; closing = closing_after program plan false events })
    judge_whole n events m within lists are wide =
        r.runs n (n - length events) (omega (arith, within)) ∙ judge_ends program plan (n - length events) r.judging r.in_step.to_do_is
        ∙ ap (λ (effects : _). Clean (record { effects = effects; sites = r.judging.sites; closing = r.judging.turn.closing })) r.effects
        ∙ ap (λ (sites : List ℕ). Clean (record { effects = map effect_in events; sites = sites; closing = r.judging.turn.closing })) r.sites
        ∙ ap (λ (closing : Bool). Clean (record { effects = map effect_in events; sites = map site_in events; closing = closing })) r.closing
      where
        r : JudgedThrough k i [] earlier events (record { turn = turn_begin program plan (last plan) cells lists; effects = []; sites = [] })
        r = judge_lockstep ok at m.path m.told none_left (record { turn = turn_begin program plan (last plan) cells lists; effects = []; sites = [] })
            (starts_judging lists wide)
            (λ t low up. are t low up ∙ sym (append-nil (words_through program plan t events)))

    pub judge_whole_back : (n : ℕ) (lists : List (List Word)) → last plan ≤ suc (length lists) →
        ((s : ℕ) → 0 < s → s < last plan → TurnEnds s (word_list lists)) → (verdict : Agreed) →
        judge_lists program plan n cells lists ≡ Clean verdict → MadeWithin cells n
    judge_whole_back n lists wide turns verdict e = record {
      events = back.events;
      makes = record { then_cells = back.then_cells; path = back.path; agree = back.agree; told = back.told; fits = back.fits };
      within = back.within;
    }
      where
        running : AllRunning k i text earlier lists
        running = λ s low high. let q = turns s low high in record {
          turn = turn_begin program plan s q.mine q.lists;
          steps = plan.words + sum_by length q.lists + 1;
          ended = q.ended;
          in_step = starts s low q.mine q.fresh q.lists q.wide;
          runs = q.ends;
          own = q.words_are;
          same = q.are;
          room = omega arith;
        }

        back : Agreeing k i text earlier cells lists running n
        back = judge_back ok n text earlier cells at (record { turn = turn_begin program plan (last plan) cells lists; effects = []; sites = [] }) running
            verdict (starts_judging lists wide) e
