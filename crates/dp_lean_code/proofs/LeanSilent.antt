-- The code of an own block: it stays silent, and comes to what its statements come to.
use Rattle.dp_semantics.proofs.Names.{◌≡◌, refl, sym, ap, ◌∙◌, subst, arith, eq-eqb, le-leb, or-false, ◌<◌, ◌≤◌, ℕ, zero, suc, ◌+◌, ◌==◌, ◌||◌, ◌&&◌}
use Rattle.dp_semantics.proofs.Names.{if◌then◌else◌, Bool, true, false, List, [], ◌∷◌, ◌++◌, length, ℤ, Option, Some, None, Ok, Err, nat_le, inl, inr}
use Rattle.dp_semantics.proofs.Names.{cases_Bool, leb-true, SiteId, Stmt, out-Stmt, Program, Plan, Evaluated, evaluated, WithLoads, Event, Effect, site_of}
use Rattle.dp_semantics.proofs.Names.{value_of, stored, followed, taken, stage_of, first_site, is_zero_at, is_zero, and_parts}
use Rattle.dp_semantics.proofs.Ways.{event_of}
use Rattle.dp_code.specs.declared.Op.TheVariants as op
use Rattle.dp_net.specs.NetItems.{Marks, weights, net_behind}
use Rattle.dp_net.specs.Quiet.{BlockOutcome, Through, Broke, with_event, quiet_by}
unfoldable use Rattle.dp_net.specs.Quiet.{quiet_from}
use Rattle.dp_net.proofs.Blocks.{effects_of, head_of, onward}
use Rattle.dp_net.proofs.Silent.{AllQuiet, QuietHead}
use Rattle.dp_net.proofs.Texts.{site_at}
use Rattle.dp_lean.specs.LeanTurn.{LeanEnd, BrokenOff}
use Rattle.dp_lean_code.specs.declared.LeanOp.{LeanOp}
use Rattle.dp_lean_code.specs.declared.LeanOp.TheVariants.{Plain}
use Rattle.dp_lean_code.specs.LeanHeld.{Held, Silent, Goes}
use Rattle.dp_lean_code.specs.LeanMade.{held_after, one_more}
use Rattle.dp_lean_code.specs.LeanCode.{no_blocks}
unfoldable use Rattle.dp_lean_code.specs.LeanCode.{stmt_code}
use Rattle.dp_lean_code.proofs.LeanRunning.{From, moves, goes, ends, RunEnds, end_by}
use Rattle.dp_lean_code.proofs.LeanStanding.{head_number, code_out, Stands, Over, Jumps, Here, Whole}
use Rattle.dp_lean_code.proofs.LeanEffects.{between, Does, Evaluates}
use Rattle.dp_lean_code.proofs.LeanHeadsAt.{Follows, Onward, Leaves, At, head_at}

module _ (p : Program) (plan : Plan) (s : ℕ) (m : Marks) (input : List ℤ) (code : List LeanOp) (last : ℕ) where
  abbrev pub nothing_inside : SiteId → List Stmt → ℕ → List LeanOp
  nothing_inside site block at = []

  pub no_inner : (f : ℕ) (y : Stmt) (ys : List Stmt) → (no_blocks p plan s).block_at f ≡ y ∷ ys → (site : SiteId) (at : ℕ) →
      0 < length (nothing_inside site (y ∷ ys) at)
  no_inner f y ys e site at = absurd (cc e)

  abbrev pub StandsSilent : ℕ → List Stmt → Type 0
  StandsSilent at xs = Stands p plan s (no_blocks p plan s) nothing_inside no_inner code last at xs

  -- no region stands among them
  left : (at : ℕ) (xs : List Stmt) → StandsSilent at xs → Rattle.dp_semantics.proofs.Names.behind_region xs ≡ []
  left at _ Over = refl
  left at _ (Jumps k to xs rest from st) = left to xs st
  left at _ (Here k x xs rest none t from st) =
      ap (λ (o : Option ℕ). Rattle.dp_semantics.proofs.Names.behind_one o xs (Rattle.dp_semantics.proofs.Names.behind_region xs))
      (head_number (no_blocks p plan s) (out-Stmt x) t) ∙ left _ xs st
  left at _ (Whole k x b more xs rest is same from st) = absurd (clash is)
    where
      clash : [] ≡ x ∷ b → ⊥
      clash e = absurd (cc e)

  -- what the stage holds where the block is through
  abbrev pub through_with : Held → Silent → List Event → List ℤ → Held
  through_with h b events after = record {
    cells = after;
    queues = h.queues;
    own = h.own;
    closing = h.closing;
    block = Some (record { site = b.site; count = b.count + length events; told = net_behind (m.hides (stage_of p plan b.site)) b.told (effects_of events) });
  }

  -- the run goes on where the block is through, or breaks off
  abbrev pub Comes : ℕ → Held → Silent → BlockOutcome → Type 0
  Comes at h b (Through events after) = (end : LeanEnd) → RunEnds p plan m input code (between p plan m input code last (through_with h b events after)) end →
      RunEnds p plan m input code (between p plan m input code at h) end
  Comes at h b Broke = RunEnds p plan m input code (between p plan m input code at h) BrokenOff

  abbrev Runs : ℕ → Type 0
  Runs n = (at : ℕ) (xs : List Stmt) (h : Held) (b : Silent) → StandsSilent at xs → AllQuiet p plan s xs → h.block ≡ Some b →
      weights h.own + b.count + n ≡ plan.words → Comes at h b (quiet_from p input n xs h.cells)

  on_from : (at : ℕ) (t : Bool) (xs : List Stmt) → Follows p plan s (no_blocks p plan s) nothing_inside no_inner m input code last at t xs →
      t ≡ false → StandsSilent at xs
  on_from at _ _ (Onward k xs st) e = st
  on_from at _ _ (Leaves k rest xs from st) e = absurd (cc e)

  broken_anyway : (r : Evaluated Effect) → end_by r (λ v. BrokenOff) ≡ BrokenOff
  broken_anyway (Ok v) = refl
  broken_anyway (Err kind) = refl

  nothing_done : (h : Held) (b : Silent) → h.block ≡ Some b → h ≡ through_with h b [] h.cells
  nothing_done h b e =
      ap (λ (o : Option Silent). record { cells = h.cells; queues = h.queues; own = h.own; closing = h.closing; block = o }) (e ∙ ap Some (same b))
    where
      same : (b : Silent) → b ≡ record { site = b.site; count = b.count + 0; told = b.told }
      same b = let e : b.count ≡ b.count + 0 = omega arith in ap (λ (n : ℕ). record { site = b.site; count = n; told = b.told }) e

  over_runs : (n : ℕ) (h : Held) (b : Silent) → h.block ≡ Some b → Comes last h b (quiet_from p input n [] h.cells)
  unfolding quiet_from
  over_runs zero h b e = λ end run. subst (λ (k : Held). RunEnds p plan m input code (between p plan m input code last k) end) (sym (nothing_done h b e)) run
  over_runs (suc n) h b e = λ end run. subst (λ (k : Held). RunEnds p plan m input code (between p plan m input code last k) end) (sym (nothing_done h b e)) run

  module _ (x : Stmt) (xs : List Stmt) (at : ℕ) (h : Held) (b : Silent) (quiet : AllQuiet p plan s (x ∷ xs)) (here : h.block ≡ Some b)
      (a : At p plan s (no_blocks p plan s) nothing_inside no_inner m input code last x xs (out-Stmt x) at) where
    q : QuietHead p plan s (out-Stmt x)
    q = head_of p plan s x xs quiet

    does : Evaluates p plan m input code at (site_of (out-Stmt x)) a.to (λ k. evaluated p input k.cells (out-Stmt x))
    does = subst (λ (c : Bool). Does p plan m input code c at (site_of (out-Stmt x)) a.to (out-Stmt x)) (eq-eqb (stage_of p plan (site_at x)) s q.stage) a.does

    -- no step is left
    spent_runs : weights h.own + b.count + 0 ≡ plan.words → Comes at h b Broke
    spent_runs full =
        let run = does h (λ v. BrokenOff) (λ v gave c mv. ends p plan m input code c BrokenOff (mv ∙ rw here (rw (over full) refl))) in
        (run.0, run.1 ∙ ap Some (broken_anyway (evaluated p input h.cells (out-Stmt x))))
      where
        over : weights h.own + b.count + 0 ≡ plan.words → nat_le (weights h.own + (b.count + 1)) plan.words ≡ false
        over full = by (nat_le (weights h.own + (b.count + 1)) plan.words) refl
          where
            by : (c : Bool) → nat_le (weights h.own + (b.count + 1)) plan.words ≡ c → c ≡ false
            by false e = refl
            by true e = let few = leb-true (weights h.own + (b.count + 1)) plan.words e in absurd (omega (arith, few, full))

    module _ (n : ℕ) (go : Runs n) (room : weights h.own + b.count + suc n ≡ plan.words) where
      abbrev held_next : Effect → Held
      held_next effect = held_after p plan m h (site_of (out-Stmt x)).0 effect h.own (Some (one_more p plan m b effect))

      fits : nat_le (weights h.own + (b.count + 1)) plan.words ≡ true
      fits = le-leb (weights h.own + (b.count + 1)) plan.words (omega (arith, room))

      -- behind one step
      step_runs : (v : WithLoads Effect) (end : LeanEnd) → evaluated p input h.cells (out-Stmt x) ≡ Ok v →
          RunEnds p plan m input code (between p plan m input code (a.to (value_of v.value)) (held_next v.value)) end →
          RunEnds p plan m input code (between p plan m input code at h) end
      step_runs v end gave run =
          let all = does h (λ w. end) (λ w also c mv. goes p plan m input code c (between p plan m input code (a.to (value_of v.value)) (held_next v.value)) end
          (mv ∙ rw here (rw fits (ap (λ (u : WithLoads Effect). Goes (between p plan m input code (a.to (value_of u.value)) (held_next u.value)))
          (same w also)))) run) in
          (all.0, all.1 ∙ ap Some (ap (λ (r : Evaluated Effect). end_by r (λ w. end)) gave))
        where
          same : (w : WithLoads Effect) → evaluated p input h.cells (out-Stmt x) ≡ Ok w → w ≡ v
          same w also = let both : Ok w ≡ Ok v = sym also ∙ gave in cc both

      closed_same : (effect : Effect) → (h.closing || is_zero_at (first_site p plan) (site_of (out-Stmt x)).0 (value_of effect)) ≡ h.closing
      closed_same effect = ap (λ (c : Bool). h.closing || (c && is_zero (value_of effect))) q.inner ∙ or-false h.closing

      then_same : (effect : Effect) (event : Event) → event.effect ≡ effect → (es : List Event) (after : List ℤ) →
          through_with (held_next effect) (one_more p plan m b effect) es after ≡ through_with h b (event ∷ es) after
      then_same effect event is es after =
          let size : b.count + 1 + length es ≡ b.count + suc (length es) = omega arith in
          ap (λ (c : Bool). record {
            cells = after;
            queues = h.queues;
            own = h.own;
            closing = c;
            block = Some (record {
              site = b.site;
              count = b.count + 1 + length es;
              told = net_behind (m.hides (stage_of p plan b.site)) b.told (effect
                  ∷ effects_of es);
            });
          }) (closed_same effect)
          ∙ ap (λ (k : ℕ). record {
            cells = after;
            queues = h.queues;
            own = h.own;
            closing = h.closing;
            block = Some (record { site = b.site; count = k; told = net_behind (m.hides (stage_of p plan b.site)) b.told (effect ∷ effects_of es) });
          }) size
          ∙ ap (λ (f : Effect).
          record {
            cells = after;
            queues = h.queues;
            own = h.own;
            closing = h.closing;
            block = Some (record {
              site = b.site;
              count = b.count + suc (length
                  es);
              told = net_behind (m.hides (stage_of p plan b.site)) b.told (f ∷ effects_of es);
            });
          }) (sym is)

      by_value : (r : Evaluated Effect) → evaluated p input h.cells (out-Stmt x) ≡ r →
          Comes at h b (quiet_by (quiet_from p input n) x xs h.cells (out-Stmt x) r)
      by_value (Err kind) gave =
          let all = does h (λ w. BrokenOff) (λ w also c mv. absurd (clash w also)) in
          (all.0, all.1 ∙ ap Some (broken_anyway (evaluated p input h.cells (out-Stmt x))))
        where
          clash : (w : WithLoads Effect) → evaluated p input h.cells (out-Stmt x) ≡ Ok w → ⊥
          clash w also = let both : Err kind ≡ Ok w = sym gave ∙ also in absurd (cc both)
      by_value (Ok v) gave = by (quiet_from p input n (followed x xs (out-Stmt x) (value_of v.value)) (stored v.value h.cells))
          (go (a.to (value_of v.value)) (followed x xs (out-Stmt x) (value_of v.value)) (held_next v.value) (one_more p plan m b v.value)
          (on_from (a.to (value_of v.value)) (taken (out-Stmt x) (value_of v.value)) (followed x xs (out-Stmt x) (value_of v.value))
          (a.follows (value_of v.value)) (q.onward (value_of v.value)))
          (onward p plan s x xs (value_of v.value) quiet) refl (omega (arith, room)))
        where
          by : (o : BlockOutcome) → Comes (a.to (value_of v.value)) (held_next v.value) (one_more p plan m b v.value) o →
              Comes at h b (with_event (event_of (out-Stmt x) v) o)
          by Broke k = step_runs v BrokenOff gave k
          by (Through es after) k =
              λ end run. step_runs v end gave (k end (subst (λ (g : Held). RunEnds p plan m input code (between p plan m input code last g) end)
              (sym (then_same v.value (event_of (out-Stmt x) v) refl es after)) run))

  here_runs : (x : Stmt) (xs : List Stmt) (at : ℕ) (h : Held) (b : Silent) → AllQuiet p plan s (x ∷ xs) → h.block ≡ Some b →
      At p plan s (no_blocks p plan s) nothing_inside no_inner m input code last x xs (out-Stmt x) at → (n : ℕ) → ((k : ℕ) → n ≡ suc k → Runs k) →
      weights h.own + b.count + n ≡ plan.words → Comes at h b (quiet_from p input n (x ∷ xs) h.cells)
  unfolding quiet_from
  here_runs x xs at h b quiet here a zero go room = spent_runs x xs at h b quiet here a room
  here_runs x xs at h b quiet here a (suc n) go room = by_value x xs at h b quiet here a n (go n refl) room (evaluated p input h.cells (out-Stmt x)) refl

  stands_runs : (n : ℕ) → ((k : ℕ) → n ≡ suc k → Runs k) → Runs n
  stands_runs n go at _ h b Over quiet here room = over_runs n h b here
  stands_runs n go at _ h b (Jumps k to xs rest from st) quiet here room = by (quiet_from p input n xs h.cells) (stands_runs n go to xs h b st quiet here room)
    where
      by : (o : BlockOutcome) → Comes to h b o → Comes k h b o
      by Broke run = goes p plan m input code (between p plan m input code k h) (between p plan m input code to h) _
          (moves p plan m input code (between p plan m input code k h) (Plain (op.Jump to)) rest from) run
      by (Through events after) run = λ end r. goes p plan m input code (between p plan m input code k h) (between p plan m input code to h) _
          (moves p plan m input code (between p plan m input code k h) (Plain (op.Jump to)) rest from) (run end r)
  stands_runs n go at _ h b (Here k x xs rest none t from st) quiet here room =
      here_runs x xs k h b quiet here
      (head_at p plan s (no_blocks p plan s) nothing_inside no_inner m input code last x xs (out-Stmt x) k rest t (left _ xs st)
      (subst (λ ops. From code k (ops ++ rest)) (code_out p plan s (no_blocks p plan s) nothing_inside no_inner x k) from)
      (subst (λ ops. StandsSilent (k + length ops) xs) (code_out p plan s (no_blocks p plan s) nothing_inside no_inner x k) st)
      (Here k x xs rest none t from st)) n go room
  stands_runs n go at _ h b (Whole k x c more xs rest is same from st) quiet here room = absurd (clash is)
    where
      clash : [] ≡ x ∷ c → ⊥
      clash e = absurd (cc e)

  -- The code of quiet statements comes to what they come to.
  pub silent_runs : (n : ℕ) → Runs n
  silent_runs zero = stands_runs zero (λ k e. absurd (omega (arith, e)))
  silent_runs (suc n) = stands_runs (suc n) (λ k e. let same : n ≡ k = omega (arith, e) in subst (λ (i : ℕ). Runs i) same (silent_runs n))
