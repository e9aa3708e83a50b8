-- The code of a lean text does what the lean turn does.
use Rattle.dp_semantics.proofs.Names.{◌≡◌, refl, sym, ap, ◌∙◌, subst, append_assoc, length-append, arith, eq-eqb, eqb-true, ltb-true, lt-ltb, or-false, ◌<◌}
use Rattle.dp_semantics.proofs.Names.{◌≤◌, ℕ, zero, suc, ◌+◌, ◌-◌, ◌==◌, ◌||◌, ◌&&◌, not, if◌then◌else◌, Bool, true, false, List, [], ◌∷◌, ◌++◌, length, drop}
use Rattle.dp_semantics.proofs.Names.{drop-append_seam, ℤ, Option, Some, None, Ok, Err, nat_le, nat_lt, and_parts, leb-true, inl, inr, cases_Bool, SiteId, Expr}
use Rattle.dp_semantics.proofs.Names.{Stmt, out-Stmt, Stmt-F, Assign, Store, Print, If, While, Region, Break, Call, Program, Plan, Word, Evaluated, evaluated}
use Rattle.dp_semantics.proofs.Names.{WithLoads, and_then, after_loads, just, decided, place, eval, Event, Effect, Stored, Printed, Decided, Tried, site_of}
use Rattle.dp_semantics.proofs.Names.{value_of, stored, followed, taken, leaves, is_zero, is_zero_at, closes_at, first_site, stage_of, behind_region}
use Rattle.dp_semantics.proofs.Names.{behind_one, region_number, effect_by, is_cell_of, event_as_assumed, words_of, applied, sum_by-cons}
use Rattle.std.proofs.lemmas.List.{length-drop}
use Rattle.dp_semantics.proofs.Ways.{event_of}
use Rattle.dp_code.specs.declared.Op.TheVariants as op
use Rattle.dp_net.specs.NetItems.{Marks, Item, Net, net_of, weight, weights, said_all}
use Rattle.dp_net.specs.NetRun.{net_own_step, net_made}
use Rattle.dp_net.specs.Quiet.{BlockOutcome, Through, Broke}
unfoldable use Rattle.dp_net.specs.Quiet.{quiet_from}
use Rattle.dp_net.proofs.Blocks.{effects_of, through}
use Rattle.dp_net.proofs.Groups.{Marked}
use Rattle.dp_net.proofs.Silent.{AllQuiet}
use Rattle.dp_net.proofs.Texts.{site_at, Text}
use Rattle.dp_lean.specs.Queues.{Told, Did, DidBlock, effect_told, with_queue}
use Rattle.dp_lean.specs.LeanTurn.{LeanTurn, LeanEnd, Arrived, BrokenOff, with_queues, lean_step, lean_by, lean_word_step, lean_block_step, lean_taken}
use Rattle.dp_lean.specs.LeanTurn.{lean_did, lean_met}
unfoldable use Rattle.dp_lean.specs.LeanTurn.{lean_from}
use Rattle.dp_lean.proofs.Weights.{weights_join, weights_said}
use Rattle.dp_lean_code.specs.declared.LeanOp.{LeanOp}
use Rattle.dp_lean_code.specs.declared.LeanOp.TheVariants.{Plain, Begin, Finish, Meet}
use Rattle.dp_lean_code.specs.LeanHeld.{Held, Flat, Goes, Ends}
use Rattle.dp_lean_code.specs.LeanMade.{held_after, made_with, taking, done_as_taken, meeting}
use Rattle.dp_lean_code.specs.LeanFlat.{lean_move}
use Rattle.dp_lean_code.specs.LeanCode.{no_blocks, silent_code, block_code}
unfoldable use Rattle.dp_lean_code.specs.LeanCode.{stmt_code}
use Rattle.dp_lean_code.proofs.LeanRunning.{From, later, next, within, within_ops, moves, goes, ends, RunEnds, end_by}
use Rattle.dp_lean_code.proofs.LeanStanding.{head_number, stmt_of, code_out, some_code, Stands, Over, Jumps, Here, Whole, stands_list}
use Rattle.dp_lean_code.proofs.LeanEffects.{between, Does, Evaluates, Takes}
use Rattle.dp_lean_code.proofs.LeanHeadsAt.{Follows, Onward, Leaves, At, head_at}
use Rattle.dp_lean_code.proofs.Leaving.{leaves_so, told_leaves, quiet_left, closing_so, some_block}
use Rattle.dp_lean_code.proofs.LeanSilent.{nothing_inside, no_inner, through_with, Comes, silent_runs}

module _ (p : Program) (plan : Plan) (s : ℕ) (m : Marks) (input : List ℤ) (marked : Marked p plan m input)
    (quiet_text : (t : ℕ) (xs : List Stmt) → AllQuiet p plan t xs → Text (no_blocks p plan s) xs) (code : List LeanOp) (last : ℕ)
    (end_here : From code last (Plain op.End ∷ [])) where
  abbrev pub Standing : ℕ → List Stmt → Type 0
  Standing at xs = Stands p plan s m (block_code p plan s) (some_block p plan s m) code last at xs

  pub left : (at : ℕ) (xs : List Stmt) → Standing at xs → behind_region xs ≡ []
  left at _ Over = refl
  left at _ (Jumps k to xs rest from st) = left to xs st
  left at _ (Here k x xs rest none t from st) = ap (λ (o : Option ℕ). behind_one o xs (behind_region xs)) (head_number m (out-Stmt x) t) ∙ left _ xs st
  left at _ (Whole k x b more xs rest is same from st) =
      ap (λ (ys : List Stmt). behind_region (x ∷ ys)) same ∙ quiet_left p plan (stage_of p plan (site_at x)) (x ∷ b) more
      (marked.quiet (site_at x) x b is) ∙ left _ more st

  pub stands_within : (at : ℕ) (xs : List Stmt) → Standing at xs → at < length code
  stands_within at _ Over = within code last (Plain op.End) [] end_here
  stands_within at _ (Jumps k to xs rest from st) = within code k (Plain (op.Jump to)) rest from
  stands_within at _ (Here k x xs rest none t from st) =
      within_ops code k (stmt_of p plan s m (block_code p plan s) (some_block p plan s m) x k) rest
      (let a = some_code p plan s m (block_code p plan s) (some_block p plan s m) (out-Stmt x) k t in
      let b = ap length (code_out p plan s m (block_code p plan s) (some_block p plan s m) x k) in omega (arith, a, b)) from
  stands_within at _ (Whole k x b more xs rest is same from st) =
      within_ops code k (block_code p plan s (site_of (out-Stmt x)) (x ∷ b) k) rest (some_block p plan s m (site_at x) x b is (site_of (out-Stmt x)) k) from

  abbrev pub turn_of : List Stmt → Held → LeanTurn
  turn_of xs h = record { turn = record { to_do = xs; cells = h.cells; lists = []; own = h.own; closing = h.closing }; queues = h.queues }

  abbrev Ends_at : ℕ → Held → LeanEnd → Type 0
  Ends_at at h end = RunEnds p plan m input code (between p plan m input code at h) end

  abbrev Goes_on : ℕ → Type 0
  Goes_on n = (at : ℕ) (xs : List Stmt) (h : Held) (end : LeanEnd) → Standing at xs → h.block ≡ None → weights h.own ≤ plan.words →
      lean_from p plan m input s n (turn_of xs h) ≡ Some end → Ends_at at h end

  -- the turn with a break taken or not
  abbrev held_so : Held → Bool → Held
  held_so h b = record { cells = h.cells; queues = h.queues; own = h.own; closing = h.closing || b; block = h.block }

  followed_runs : (n : ℕ) → Goes_on n → (at : ℕ) (b : Bool) (xs : List Stmt) (h : Held) (end : LeanEnd) →
      Follows p plan s m (block_code p plan s) (some_block p plan s m) m input code last at b xs → h.block ≡ None → weights h.own ≤ plan.words →
      lean_from p plan m input s n (turn_of xs (held_so h b)) ≡ Some end → Ends_at at h end
  unfolding lean_from
  followed_runs n go at _ _ h end (Onward k xs st) none fits q =
      go k xs h end st none fits
      (ap (λ (c : Bool). lean_from p plan m input s n (turn_of xs (record { cells = h.cells; queues = h.queues; own = h.own; closing = c; block = h.block })))
      (sym (or-false h.closing)) ∙ q)
  followed_runs zero go at _ _ h end (Leaves k rest xs from on) none fits q = absurd (cc q)
  followed_runs (suc n) go at _ _ h end (Leaves k rest xs from on) none fits q =
      let same : Arrived (turn_of [] (held_so h true)) ≡ end = cc q in
      let inside : nat_lt (k + 1) (length code) ≡ true = lt-ltb (k + 1) (length code) (stands_within (k + 1) xs on) in
      ends p plan m input code (between p plan m input code k h) end
      (moves p plan m input code (between p plan m input code k h) (Plain op.End) rest from
      ∙ ap (λ (c : Bool). Ends (Arrived (turn_of [] (record { cells = h.cells; queues = h.queues; own = h.own; closing = h.closing || c; block = h.block }))))
      inside ∙ ap Ends same)

  module _ (n : ℕ) (go : Goes_on n) (end : LeanEnd) where
    broken_is : lean_by p plan m input s (lean_from p plan m input s n) None ≡ Some end → BrokenOff ≡ end
    broken_is q = cc q

    module _ (x : Stmt) (xs : List Stmt) (at : ℕ) (h : Held) (none : h.block ≡ None) (fits : weights h.own ≤ plan.words)
        (a : At p plan s m (block_code p plan s) (some_block p plan s m) m input code last x xs (out-Stmt x) at) where
      abbrev head : Stmt-F Stmt
      head = out-Stmt x

      abbrev site : SiteId
      site = site_of (out-Stmt x)

      -- the stage's own site
      own_runs : Evaluates p plan m input code at site a.to (λ k. evaluated p input k.cells head) →
          lean_by p plan m input s (lean_from p plan m input s n)
          (with_queues h.queues (net_own_step p plan (turn_of (x ∷ xs) h).turn x xs head (evaluated p input h.cells head))) ≡ Some end → Ends_at at h end
      own_runs does q = by (evaluated p input h.cells head) refl q
        where
          by : (r : Evaluated Effect) → evaluated p input h.cells head ≡ r →
              lean_by p plan m input s (lean_from p plan m input s n) (with_queues h.queues (net_own_step p plan (turn_of (x ∷ xs) h).turn x xs head r)) ≡ Some
              end → Ends_at at h end
          by (Err kind) gave q =
              let run = does h (λ w. BrokenOff) (λ w also c mv. absurd (clash w also)) in
              (run.0, run.1 ∙ ap Some (ap (λ (r : Evaluated Effect). end_by r (λ w. BrokenOff)) gave ∙ broken_is q))
            where
              clash : (w : WithLoads Effect) → evaluated p input h.cells head ≡ Ok w → ⊥
              clash w also = let both : Err kind ≡ Ok w = sym gave ∙ also in absurd (cc both)
          by (Ok v) gave q =
              let run = does h (λ w. end)
              (λ w also c mv. produced c (mv
              ∙ ap (λ (u : WithLoads Effect). made_with p plan m h [] (a.to (value_of u.value)) (record { site = site.0; loads = u.loads; effect = u.value })
              h.block) (same w also)
              ∙ ap (made_with p plan m h [] (a.to (value_of v.value)) (event_of head v)) none) (event_as_assumed p plan (event_of head v))
              (nat_le (weights h.own + length (words_of p plan (event_of head v))) plan.words) refl refl q) in
              (run.0, run.1 ∙ ap Some (ap (λ (r : Evaluated Effect). end_by r (λ w. end)) gave))
            where
              same : (w : WithLoads Effect) → evaluated p input h.cells head ≡ Ok w → w ≡ v
              same w also = let both : Ok w ≡ Ok v = sym also ∙ gave in cc both

              ws : List Word
              ws = words_of p plan (event_of head v)

              after : Held
              after = held_after p plan m h site.0 v.value (h.own ++ said_all (words_of p plan (event_of head v))) None

              grown : nat_le (weights h.own + length (words_of p plan (event_of head v))) plan.words ≡ true →
                  weights (h.own ++ said_all (words_of p plan (event_of head v))) ≤ plan.words
              grown e = let j = weights_join h.own (said_all (words_of p plan (event_of head v))) in let l = weights_said (words_of p plan (event_of head v)) in
                  let low = leb-true (weights h.own + length (words_of p plan (event_of head v))) plan.words e in omega (arith, j, l, low)

              produced : (c : Flat) → lean_move p plan m input code c ≡ made_with p plan m h [] (a.to (value_of v.value)) (event_of head v) None →
                  (u w : Bool) → event_as_assumed p plan (event_of head v) ≡ u →
                  nat_le (weights h.own + length (words_of p plan (event_of head v))) plan.words ≡ w →
                  lean_by p plan m input s (lean_from p plan m input s n)
                  (with_queues h.queues (net_own_step p plan (turn_of (x ∷ xs) h).turn x xs head (Ok v))) ≡ Some end → RunEnds p plan m input code c end
              produced c mv true true eu ew q =
                  goes p plan m input code c (between p plan m input code (a.to (value_of v.value))
                  (held_after p plan m h site.0 v.value (h.own ++ said_all (words_of p plan (event_of head v))) None)) end (mv ∙ rw (eu, ew) refl)
                  (followed_runs n go (a.to (value_of v.value)) (taken head (value_of v.value)) (followed x xs head (value_of v.value))
                  (held_after p plan m h site.0 v.value (h.own ++ said_all (words_of p plan (event_of head v))) None) end
                  (a.follows (value_of v.value)) refl (grown ew)
                  (ap (λ (b : Bool). lean_from p plan m input s n
                  (record {
                    turn = record {
                      to_do = followed x xs head (value_of v.value);
                      cells = stored v.value h.cells;
                      lists = [];
                      own = h.own ++ said_all (words_of p plan (event_of head v));
                      closing = b;
                    };
                    queues = h.queues;
                  }))
                  (closing_so p plan site.0 h.closing v.value (taken head (value_of v.value)) (leaves_so p input h.cells head v gave)) ∙ rw (eu, ew) at q))
              produced c mv true false eu ew q = ends p plan m input code c end (mv ∙ rw (eu, ew) (ap Ends (broken_is (rw (eu, ew) at q))))
              produced c mv false w eu ew q = ends p plan m input code c end (mv ∙ rw eu (ap Ends (broken_is (rw eu at q))))

      -- another stage's
      taken_runs : Takes p plan m input code at site a.to (effect_told p head) →
          lean_by p plan m input s (lean_from p plan m input s n) (lean_taken p plan (turn_of (x ∷ xs) h) x xs head (h.queues site.0)) ≡ Some
          end → Ends_at at h end
      taken_runs does q = by (h.queues site.0) (does h) q
        where
          by : (queue : List Told) → lean_move p plan m input code (between p plan m input code at h) ≡ taking p plan m (between p plan m input code at h) a.to
              site (λ cell value. effect_told p head (Did cell value)) queue →
              lean_by p plan m input s (lean_from p plan m input s n) (lean_taken p plan (turn_of (x ∷ xs) h) x xs head queue) ≡ Some end → Ends_at at h end
          by [] mv q = ends p plan m input code _ end (mv ∙ ap Ends (broken_is q))
          by (DidBlock stores ∷ more) mv q = ends p plan m input code _ end (mv ∙ ap Ends (broken_is q))
          by (Did cell value ∷ more) mv q = take (effect_told p head (Did cell value)) refl mv q
            where
              take : (o : Option Effect) → effect_told p head (Did cell value) ≡ o → lean_move p plan m input code (between p plan m input code at h)
                  ≡ done_as_taken p plan m (between p plan m input code at h) a.to site more o →
                  lean_by p plan m input s (lean_from p plan m input s n) (lean_did p plan (turn_of (x ∷ xs) h) x xs head more o) ≡ Some end → Ends_at at h end
              take None is mv q = ends p plan m input code _ end (mv ∙ ap Ends (broken_is q))
              take (Some effect) is mv q =
                  goes p plan m input code _ (between p plan m input code (a.to (value_of effect))
                  (record {
                    cells = stored effect h.cells;
                    queues = with_queue h.queues site.0 more;
                    own = h.own;
                    closing = h.closing || is_zero_at (first_site
                        p plan) site.0 (value_of effect);
                    block = h.block;
                  })) end mv
                  (followed_runs n go (a.to (value_of effect)) (taken head (value_of effect)) (followed x xs head (value_of effect))
                  (record {
                    cells = stored effect h.cells;
                    queues = with_queue h.queues site.0 more;
                    own = h.own;
                    closing = h.closing || is_zero_at (first_site
                        p plan) site.0 (value_of effect);
                    block = h.block;
                  }) end
                  (a.follows (value_of effect)) none fits
                  (ap (λ (b : Bool). lean_from p plan m input s n
                  (record {
                    turn = record { to_do = followed x xs head (value_of effect); cells = stored effect h.cells; lists = []; own = h.own; closing = b };
                    queues = with_queue h.queues site.0 more;
                  }))
                  (closing_so p plan site.0 h.closing effect (taken head (value_of effect)) (told_leaves p head _ effect is)) ∙ q))

      site_runs : m.block_at (site_at x) ≡ [] → lean_by p plan m input s (lean_from p plan m input s n) (lean_step p plan m input s (turn_of (x ∷ xs) h) x xs)
          ≡ Some end → Ends_at at h end
      site_runs plain q = by (stage_of p plan site.0 == s) refl a.does (rw plain at q)
        where
          by : (b : Bool) → (stage_of p plan site.0 == s) ≡ b → Does p plan m input code b at site a.to head →
              lean_by p plan m input s (lean_from p plan m input s n) (lean_word_step p plan m input s (turn_of (x ∷ xs) h) x xs head) ≡ Some
              end → Ends_at at h end
          by true e does q = own_runs does (rw e at q)
          by false e does q = taken_runs does (rw e at q)

    module _ (x : Stmt) (b more : List Stmt) (at : ℕ) (rest : List LeanOp) (h : Held) (none : h.block ≡ None) (fits : weights h.own ≤ plan.words)
        (is : m.block_at (site_at x) ≡ x ∷ b) where
      abbrev first : SiteId
      first = site_of (out-Stmt x)

      quiet_there : AllQuiet p plan (stage_of p plan (site_at x)) (x ∷ b)
      quiet_there = marked.quiet (site_at x) x b is

      abbrev inside : List LeanOp
      inside = silent_code p plan s (x ∷ b) (at + 1)

      abbrev begins_as : Held
      begins_as = record {
        cells = h.cells;
        queues = h.queues;
        own = h.own;
        closing = h.closing;
        block = Some (record { site = first.0; count = 0; told = [] });
      }

      -- the stage's own block
      own_block : stage_of p plan (site_at x) ≡ s → From code at (Begin first ∷ ((inside ++ Finish ∷ []) ++ rest)) →
          Standing (at + length (Begin first ∷ (inside ++ Finish ∷ []))) more →
          lean_by p plan m input s (lean_from p plan m input s n)
          (with_queues h.queues (net_made p plan m (site_at x) (turn_of (x ∷ (b ++ more)) h).turn more (quiet_from p input (plan.words - weights h.own)
          (x ∷ b) h.cells))) ≡ Some end → Ends_at at h end
      own_block here from st q =
          goes p plan m input code (between p plan m input code at h) (between p plan m input code (at + 1) begins_as) end
          (moves p plan m input code (between p plan m input code at h) (Begin first) ((inside ++ Finish ∷ []) ++ rest) from)
          (by (quiet_from p input (plan.words - weights h.own) (x ∷ b) h.cells) refl
          (silent_runs p plan s m input code (at + 1 + length inside) (plan.words - weights h.own) (at + 1) (x ∷ b) begins_as
          (record { site = first.0; count = 0; told = [] }) silent_stands
          (subst (λ (t : ℕ). AllQuiet p plan t (x ∷ b)) here quiet_there) refl (omega (arith, fits))) q)
        where
          from_inside : From code (at + 1) (silent_code p plan s (x ∷ b) (at + 1) ++ (Finish ∷ rest))
          from_inside = next code at (Begin first) _ from ∙ append_assoc (silent_code p plan s (x ∷ b) (at + 1)) (Finish ∷ []) rest

          silent_stands : Stands p plan s (no_blocks p plan s) (nothing_inside p plan s m input code (at + 1 + length (silent_code p plan s (x ∷ b) (at + 1))))
              (no_inner p plan s m input code (at + 1 + length (silent_code p plan s (x ∷ b) (at + 1)))) code
              (at + 1 + length (silent_code p plan s (x ∷ b) (at + 1))) (at + 1) (x ∷ b)
          silent_stands = subst (λ (ys : List Stmt). Stands p plan s (no_blocks p plan s)
              (nothing_inside p plan s m input code (at + 1 + length (silent_code p plan s (x ∷ b) (at + 1))))
              (no_inner p plan s m input code (at + 1 + length (silent_code p plan s (x ∷ b) (at + 1)))) code
              (at + 1 + length (silent_code p plan s (x ∷ b) (at + 1))) (at + 1) ys)
              (Rattle.dp_semantics.proofs.Names.append-nil (x ∷ b))
              (stands_list p plan s (no_blocks p plan s) (nothing_inside p plan s m input code (at + 1 + length (silent_code p plan s (x ∷ b) (at + 1))))
              (no_inner p plan s m input code (at + 1 + length (silent_code p plan s (x ∷ b) (at + 1)))) code
              (at + 1 + length (silent_code p plan s (x ∷ b) (at + 1)))
              (quiet_text (stage_of p plan (site_at x)) (x ∷ b) quiet_there) (at + 1) (Finish ∷ rest) [] from_inside Over)

          by : (o : BlockOutcome) → quiet_from p input (plan.words - weights h.own) (x ∷ b) h.cells ≡ o →
              Comes p plan s m input code (at + 1 + length (silent_code p plan s (x ∷ b) (at + 1))) (at + 1) begins_as
              (record { site = first.0; count = 0; told = [] }) o →
              lean_by p plan m input s (lean_from p plan m input s n)
              (with_queues h.queues (net_made p plan m (site_at x) (turn_of (x ∷ (b ++ more)) h).turn more o)) ≡ Some end →
              Ends_at (at + 1) begins_as end
          by Broke gave run q = (run.0, run.1 ∙ ap Some (broken_is q))
          by (Through events after) gave run q =
              let item : Item = Net (site_at x) (length events) (net_of (m.hides (stage_of p plan (site_at x))) (effects_of events)) in
              let few = (through p plan s input (plan.words - weights h.own) (x ∷ b) h.cells events after gave).1 in
              let none_before : 0 + length events ≡ length events = omega arith in
              let join = weights_join h.own (item ∷ []) in
              let one = sum_by-cons weight item [] in
              let place_is : at + 1 + length inside + 1 ≡ at + length (Begin first ∷ (inside ++ Finish ∷ [])) = omega
              (arith, length-append inside (Finish ∷ [])) in
              run end (goes p plan m input code (between p plan m input code (at + 1 + length inside)
              (through_with p plan s m input code (at + 1 + length (silent_code p plan s (x ∷ b) (at + 1))) begins_as
              (record { site = first.0; count = 0; told = [] }) events after))
              (between p plan m input code (at + 1 + length inside + 1)
              (record { cells = after; queues = h.queues; own = h.own ++ item ∷ []; closing = h.closing; block = None })) end
              (moves p plan m input code (between p plan m input code (at + 1 + length inside)
              (through_with p plan s m input code (at + 1 + length (silent_code p plan s (x ∷ b) (at + 1))) begins_as
              (record { site = first.0; count = 0; told = [] }) events after)) Finish rest (later code (at + 1) (silent_code p plan s (x ∷ b) (at + 1))
              (Finish ∷ rest) from_inside)
              ∙ ap (λ (k : ℕ). Goes (between p plan m input code (at + 1 + length inside + 1)
              (record {
                cells = after;
                queues = h.queues;
                own = h.own ++ Net (site_at x) k (net_of (m.hides (stage_of p plan (site_at x)))
                    (effects_of events)) ∷ [];
                closing = h.closing;
                block = None;
              }))) none_before)
              (go (at + 1 + length inside + 1) more (record { cells = after; queues = h.queues; own = h.own ++ item ∷ []; closing = h.closing; block = None })
              end (subst (λ (k : ℕ). Standing k more) (sym place_is) st) refl (omega (arith, join, one, few, fits)) q))

      -- another stage's
      met_block : From code at (Meet first ∷ rest) → Standing (at + 1) more → lean_by p plan m input s (lean_from p plan m input s n)
          (lean_met p plan (turn_of (x ∷ (b ++ more)) h) (site_at x) more (h.queues (site_at x))) ≡ Some end → Ends_at at h end
      met_block from st q = by (h.queues (site_at x)) (moves p plan m input code (between p plan m input code at h) (Meet first) rest from) q
        where
          by : (queue : List Told) → lean_move p plan m input code (between p plan m input code at h) ≡ meeting p plan m
              (between p plan m input code at h) first queue →
              lean_by p plan m input s (lean_from p plan m input s n) (lean_met p plan (turn_of (x ∷ (b ++ more)) h) (site_at x) more queue) ≡ Some
              end → Ends_at at h end
          by [] mv q = ends p plan m input code _ end (mv ∙ ap Ends (broken_is q))
          by (Did cell value ∷ ts) mv q = ends p plan m input code _ end (mv ∙ ap Ends (broken_is q))
          by (DidBlock stores ∷ ts) mv q =
              goes p plan m input code _
              (between p plan m input code (at + 1)
              (record { cells = applied stores h.cells; queues = with_queue h.queues first.0 ts; own = h.own; closing = h.closing; block = h.block })) end mv
              (go (at + 1) more (record {
                cells = applied stores h.cells;
                queues = with_queue h.queues first.0 ts;
                own = h.own;
                closing = h.closing;
                block = h.block;
              }) end st none fits q)

      block_runs : From code at (block_code p plan s first (x ∷ b) at ++ rest) → Standing (at + length (block_code p plan s first (x ∷ b) at)) more →
          lean_by p plan m input s (lean_from p plan m input s n) (lean_step p plan m input s (turn_of (x ∷ (b ++ more)) h) x (b ++ more)) ≡ Some
          end → Ends_at at h end
      block_runs from st q = by (stage_of p plan first.0 == s) refl from st (rw (is, drop-append_seam b more) at q)
        where
          by : (c : Bool) → (stage_of p plan first.0 == s) ≡ c → From code at ((if c then Begin first ∷ (inside ++ Finish ∷ []) else Meet first ∷ []) ++ rest) →
              Standing (at + length (if c then Begin first ∷ (inside ++ Finish ∷ []) else Meet first ∷ [])) more →
              lean_by p plan m input s (lean_from p plan m input s n) (lean_block_step p plan m input s (turn_of (x ∷ (b ++ more)) h) (site_at x) (x ∷ b) more)
              ≡ Some end → Ends_at at h end
          by true e from st q = own_block (eqb-true (stage_of p plan first.0) s e) from st (rw e at q)
          by false e from st q = met_block from st (rw e at q)

  stands_runs : (n : ℕ) → Goes_on n → Goes_on (suc n)
  unfolding lean_from
  stands_runs n go at _ h end Over none fits q =
      let same : Arrived (turn_of [] h) ≡ end = cc q in
      ends p plan m input code (between p plan m input code last h) end
      (moves p plan m input code (between p plan m input code last h) (Plain op.End) [] end_here
      ∙ ap (λ (c : Bool). Ends (Arrived (turn_of [] (record { cells = h.cells; queues = h.queues; own = h.own; closing = c; block = h.block }))))
      (ap (λ (c : Bool). h.closing || c) over ∙ or-false h.closing) ∙ ap Ends same)
    where
      over : nat_lt (last + 1) (length code) ≡ false
      over = by (nat_lt (last + 1) (length code)) refl
        where
          by : (c : Bool) → nat_lt (last + 1) (length code) ≡ c → c ≡ false
          by false e = refl
          by true e = let below : last + 1 < length code = ltb-true (last + 1) (length code) e in let k = ap length end_here in let d = length-drop last code in
              absurd (omega (arith, k, d, below))
  stands_runs n go at _ h end (Jumps k to xs rest from st) none fits q =
      goes p plan m input code (between p plan m input code k h) (between p plan m input code to h) end
      (moves p plan m input code (between p plan m input code k h) (Plain (op.Jump to)) rest from) (stands_runs n go to xs h end st none fits q)
  stands_runs n go at _ h end (Here k x xs rest plain t from st) none fits q =
      site_runs n go end x xs k h none fits
      (head_at p plan s m (block_code p plan s) (some_block p plan s m) m input code last x xs (out-Stmt x) k rest t (left _ xs st)
      (subst (λ ops. From code k (ops ++ rest)) (code_out p plan s m (block_code p plan s) (some_block p plan s m) x k) from)
      (subst (λ ops. Standing (k + length ops) xs) (code_out p plan s m (block_code p plan s) (some_block p plan s m) x k) st)
      (Here k x xs rest plain t from st)) plain q
  stands_runs n go at _ h end (Whole k x b more xs rest is same from st) none fits q =
      block_runs n go end x b more k rest h none fits is from st
      (subst (λ (ys : List Stmt). lean_by p plan m input s (lean_from p plan m input s n) (lean_step p plan m input s (turn_of (x ∷ ys) h) x ys) ≡ Some end)
      same q)

  pub all_run : (n : ℕ) → Goes_on n
  unfolding lean_from
  all_run zero = λ at xs h end st none fits q. absurd (cc q)
  all_run (suc n) = stands_runs n (all_run n)
