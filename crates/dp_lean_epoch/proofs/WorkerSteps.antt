-- A worker's turn beside that of the stage before it, at one statement: both do the same, but at the worker's own sites.
use Rattle.dp_semantics.proofs.Names.{◌≡◌, inl, inr, refl, sym, ap, ◌∙◌, subst, append_assoc, append_cancel_left, arith, cases_eq, ℕ, suc, ◌-◌, ◌<◌, ◌≤◌, Bool}
use Rattle.dp_semantics.proofs.Names.{true, false, ◌&&◌, ◌||◌, if◌then◌else◌, List, ◌∷◌, ◌++◌, ℤ, length, length-set, Ok, Err, Result, nat_le, slice_set}
use Rattle.dp_semantics.proofs.Names.{and_parts, Stmt, out-Stmt, Stmt-F, Program, Plan, Word, Evaluated, evaluated, WithLoads, Effect, site_of, value_of}
use Rattle.dp_semantics.proofs.Names.{stored, followed, stage_of, first_site, as_assumed, closes_at, words_of, word_list, Full, Void, Taken, taken_from, Turn}
use Rattle.dp_semantics.proofs.Names.{Ended, project_all, Access, accesses, well_nested}
unfoldable use Rattle.dp_semantics.proofs.Names.{turn_from}
use Rattle.dp_semantics.proofs.Each.{Each, each_map, each_split}
use Rattle.dp_semantics.proofs.Evaluation.{Form, head_loads, head_stores, Readable, evaluated_tracks}
use Rattle.dp_semantics.proofs.Heads.{accesses_all, accesses_at, accesses_out, head_access, all_well, well_at, well_out, project_out}
use Rattle.dp_semantics.proofs.Setting.{Sound, Laid}
use Rattle.dp_semantics.proofs.Ways.{event_of}
use Rattle.dp_semantics.proofs.Followed.{followed_has, all_joins}
use Rattle.dp_semantics.proofs.Taking.{taken_event, effect_of_word, word_list_same, word_list_other}
use Rattle.dp_theorem.proofs.Projected.{unseen, assumed_of}
use Rattle.dp_theorem.proofs.Source.{well_parts, each_joins, each_parts, head_fact}
unfoldable use Rattle.dp_net.proofs.Strict.{strict_from}
use Rattle.dp_net.proofs.Blocks.{at_turn}
use Rattle.dp_net.proofs.Projections.{Kept, AllKept}
use Rattle.dp_net.proofs.Stepped.{turn_after, turn_takes, strict_takes, turn_faults, turn_makes, strict_makes}
use Rattle.dp_net.proofs.Grown.{grows}
use Rattle.dp_lean_epoch.specs.Steps.{is_fed}
use Rattle.dp_lean_epoch.proofs.Beside.{Beside, beside_both, beside_own}
use Rattle.dp_lean_epoch.proofs.BreakingOff.{ends_too, strays}

module _ (p : Program) (plan : Plan) (input : List ℤ) (s : ℕ) (low : 0 < s) (laid : Laid p plan)
    (unfed : (h : Stmt-F Stmt) → Sound p plan (head_access h) → stage_of p plan (site_of h).0 ≡ suc s → is_fed p plan (suc s) (head_stores h) ≡ false) where
  abbrev pub Near : List ℤ → List ℤ → Type 0
  Near a b = Beside p plan (suc s) a b

  -- the text of the worker's stage from here, with what is known of its sites
  pub record TextOf (xs : List Stmt) : Type 0 where
    pub well : all_well p plan xs ≡ true
    pub sites : AllKept p plan (suc s) (Sound p plan) xs

  -- the worker has the same words in front of it, and those that the other turn makes
  pub record Facing (lists taken : List (List Word)) (own made : List Word) : Type 0 where
    pub wide : s ≤ suc (length lists)
    pub taken_wide : s ≤ length taken
    pub same : (t : ℕ) → 0 < t → t < s → word_list lists t ≡ word_list taken t
    pub made_is : made ≡ own ++ word_list taken s

  module _ (x : Stmt) (rest : List Stmt) (text : TextOf (x ∷ rest)) where
    head_parts : (well_nested p plan x ≡ true) × (all_well p plan rest ≡ true)
    head_parts = and_parts (well_nested p plan x) (all_well p plan rest) text.well

    head_well : well_at p plan (out-Stmt x) ≡ true
    head_well = sym (well_out p plan x) ∙ head_parts.0

    head_sites : Each (Kept p plan (suc s) (Sound p plan)) (accesses_at (out-Stmt x)) × Each (Kept p plan (suc s) (Sound p plan)) (accesses_all rest)
    head_sites =
        let both = each_split (Kept p plan (suc s) (Sound p plan)) (accesses x) (accesses_all rest) text.sites in
        (subst (λ (l : List Access). Each (Kept p plan (suc s) (Sound p plan)) l) (accesses_out x) both.0, both.1)

    pub head_kept : Kept p plan (suc s) (Sound p plan) (head_access (out-Stmt x))
    head_kept = head_fact (Kept p plan (suc s) (Sound p plan)) p plan (out-Stmt x) head_well head_sites.0

    text_onward : (z : ℤ) → TextOf (followed x rest (out-Stmt x) z)
    text_onward z = record {
      well = followed_has (λ (xs : List Stmt). all_well p plan xs ≡ true) (all_joins (well_nested p plan)) x rest
          (out-Stmt x) z text.well head_parts.1 (well_parts p plan (out-Stmt x) head_well);
      sites = followed_has (AllKept p plan (suc s) (Sound p plan)) (each_joins (Kept p plan (suc s) (Sound p plan))) x rest
          (out-Stmt x) z text.sites head_sites.1
          (each_parts (Kept p plan (suc s) (Sound p plan)) (out-Stmt x) head_sites.0);
    }

  abbrev pub before : List Stmt → List ℤ → List (List Word) → List Word → Bool → Turn
  before xs cells lists own closing = at_turn (project_all p plan s xs) cells lists own closing

  abbrev pub worker : List Stmt → List ℤ → List (List Word) → List Word → Bool → Turn
  worker xs cells lists own closing = at_turn (project_all p plan (suc s) xs) cells lists own closing

  -- within so many steps of the worker
  abbrev pub NearIn : ℕ → Type 0
  NearIn n = (k : ℕ) (xs : List Stmt) → TextOf xs → (cells : List ℤ) (lists : List (List Word)) (own : List Word) (closing : Bool)
      (mem : List ℤ) (taken : List (List Word)) (made : List Word) (shut : Bool) (e f : Ended) → Facing lists taken own e.own → Near cells mem →
      turn_from p plan input s k (before xs cells lists own closing) ≡ Ok e →
      strict_from p plan input (suc s) n (worker xs mem taken made shut) ≡ Ok f → Near e.cells f.cells

  module _ (n : ℕ) (go : NearIn n) (k : ℕ) (x : Stmt) (rest : List Stmt) (text : TextOf (x ∷ rest)) (cells : List ℤ) (lists : List (List Word))
      (own : List Word) (closing : Bool)
      (mem : List ℤ) (taken : List (List Word)) (made : List Word) (shut : Bool) (e f : Ended) (facing : Facing lists taken own e.own)
      (near : Near cells mem) where
    abbrev h : Stmt-F Stmt
    h = out-Stmt x

    abbrev u : ℕ
    u = stage_of p plan (site_of h).0

    behind : all_well p plan rest ≡ true
    behind = (head_parts x rest text).1

    well : well_at p plan h ≡ true
    well = head_well x rest text

    kept : Kept p plan (suc s) (Sound p plan) (head_access h)
    kept = head_kept x rest text

    low_here : 0 < u
    low_here = kept.0.staged

    reach_worker : u ≤ suc s
    reach_worker = kept.1

    form_here : (cs : List ℤ) (w : WithLoads Effect) → evaluated p input cs h ≡ Ok w → Form p h w.value
    form_here cs w q = (evaluated_tracks p input cs cs (λ l. Unit {0}) h kept.0.room
        (each_map (λ y. 0 < Rattle.dp_tree.specs.Eval.cell_count p (record { 0 = y })) (Readable p cs (λ l. Unit {0})) (λ y r. (r, λ c i. tt))
        (head_loads h) kept.0.reads) w q).value

    abbrev taken_next : List Word → List (List Word)
    taken_next ws = slice_set taken (u - 1) ws

    wide_next : (ws : List Word) → s ≤ length (taken_next ws)
    wide_next ws = let a = length-set taken (u - 1) ws in let b = facing.taken_wide in omega (arith, a, b)

    -- an earlier stage's site: both take its words
    pub at_earlier : u < s → turn_from p plan input s (suc k) (before (x ∷ rest) cells lists own closing) ≡ Ok e →
        strict_from p plan input (suc s) (suc n) (worker (x ∷ rest) mem taken made shut) ≡ Ok f → Near e.cells f.cells
    at_earlier past q r = by (taken_from p h (word_list taken u)) refl
      where
        other : u ≡ s → ⊥
        other same = omega (arith, past, same)

        reach : u ≤ s
        reach = omega (arith, past)

        same_words : word_list lists u ≡ word_list taken u
        same_words = facing.same u low_here past

        by : (o : Result Taken Void) → taken_from p h (word_list taken u) ≡ o → Near e.cells f.cells
        by (Err why) is =
            let off = strays p plan input x rest well behind s reach cells lists own closing why other (ap (taken_from p h) same_words ∙ is) k in
            let clash : Err why ≡ Ok e = sym off ∙ q in absurd (cc clash)
        by (Ok w) is =
            go k (followed x rest h (value_of w.effect)) (text_onward x rest text (value_of w.effect)) (stored w.effect cells)
            (slice_set lists (u - 1) w.rest) own
            (closing || closes_at (first_site p plan) (site_of h).0 w.effect) (stored w.effect mem) (taken_next w.rest) made
            (shut || closes_at (first_site p plan) (site_of h).0 w.effect) e f
            (record {
              wide = let a = length-set lists (u - 1) w.rest in let b = facing.wide in omega (arith, a, b);
              taken_wide = wide_next w.rest;
              same = λ t real less. elim (cases_eq t u) [
                | inl here ↦ subst (λ (y : ℕ). word_list (slice_set lists (u - 1) w.rest) y ≡ word_list (taken_next w.rest) y) (sym here)
                    (word_list_same lists u w.rest low_here (let b = facing.wide in omega (arith, b, past))
                    ∙ sym (word_list_same taken u w.rest low_here (let b = facing.taken_wide in omega (arith, b, past))))
                | inr differs ↦ word_list_other lists u t w.rest low_here real differs ∙ facing.same t real less
                    ∙ sym (word_list_other taken u t w.rest low_here real differs)
              ];
              made_is = facing.made_is ∙ ap (λ (ws : List Word). own ++ ws) (sym (word_list_other taken u s w.rest low_here low (λ same. other (sym same))));
            })
            (beside_both p plan (suc s) w.effect cells mem near)
            (sym (turn_takes p plan input x rest well behind s reach cells lists own closing other w (ap (taken_from p h) same_words ∙ is) k) ∙ q)
            (sym (strict_takes p plan input x rest well behind (suc s) reach_worker mem taken made shut (λ same. omega (arith, same, past)) w is n) ∙ r)

    -- a site of the stage before: the worker takes the words that it tells
    pub at_before : u ≡ s → turn_from p plan input s (suc k) (before (x ∷ rest) cells lists own closing) ≡ Ok e →
        strict_from p plan input (suc s) (suc n) (worker (x ∷ rest) mem taken made shut) ≡ Ok f → Near e.cells f.cells
    at_before here q r = by (evaluated p input cells h) refl
      where
        reach : u ≤ s
        reach = omega (arith, here)

        onward : (v : WithLoads Effect) (b : Bool) → evaluated p input cells h ≡ Ok v →
            (if b then turn_from p plan input s k (turn_after p plan input x rest well behind s reach cells lists own closing v.value
            (own ++ words_of p plan (event_of h v)) lists) else Err Full) ≡ Ok e → Near e.cells f.cells
        onward v false gave went = absurd (cc went)
        onward v true gave went =
            let ws : List Word = words_of p plan (event_of h v) in
            let grown = grows p plan input s k _ e went in
            let front : word_list taken s ≡ ws ++ grown.0 = append_cancel_left own (word_list taken s) (ws ++ grown.0)
            (sym facing.made_is ∙ grown.1 ∙ append_assoc own ws grown.0) in
            let takes : taken_from p h (word_list taken u) ≡ Ok (record { effect = v.value; rest = grown.0 }) =
            ap (λ (t : ℕ). taken_from p h (word_list taken t)) here ∙ ap (taken_from p h) front
            ∙ taken_event p plan (event_of h v) grown.0 h refl (effect_of_word p h (site_of h).0 v.value (form_here cells v gave)) in
            go k (followed x rest h (value_of v.value)) (text_onward x rest text (value_of v.value)) (stored v.value cells) lists (own ++ ws)
            (closing || closes_at (first_site p plan) (site_of h).0 v.value) (stored v.value mem) (taken_next grown.0) made
            (shut || closes_at (first_site p plan) (site_of h).0 v.value) e f
            (record {
              wide = facing.wide;
              taken_wide = wide_next grown.0;
              same = λ t real less. facing.same t real less ∙ sym (word_list_other taken u t grown.0 low_here real (λ same. omega (arith, same, less, here)));
              made_is = grown.1 ∙ ap (λ (ys : List Word). (own ++ ws) ++ ys)
                  (sym (word_list_same taken u grown.0 low_here (let b = facing.taken_wide in omega (arith, b, here)))
                  ∙ ap (word_list (taken_next grown.0)) here);
            })
            (beside_both p plan (suc s) v.value cells mem near) went
            (sym (strict_takes p plan input x rest well behind (suc s) reach_worker mem taken made shut (λ same. omega (arith, same, here))
            (record { effect = v.value; rest = grown.0 }) takes n) ∙ r)

        by : (o : Evaluated Effect) → evaluated p input cells h ≡ o → Near e.cells f.cells
        by (Err kind) gave =
            let off = turn_faults p plan input x rest well behind s reach cells lists own closing here kind gave k in
            let clash : Err off.0 ≡ Ok e = sym off.1 ∙ q in absurd (cc clash)
        by (Ok v) gave = onward v (nat_le (length (own ++ words_of p plan (event_of h v))) plan.words) gave
            (sym (turn_makes p plan input x rest well behind s reach cells lists own closing here v gave k) ∙ q)

    -- a site of the worker's own: the stage before doesn't have it
    pub at_worker : u ≡ suc s → turn_from p plan input s k (before (x ∷ rest) cells lists own closing) ≡ Ok e →
        strict_from p plan input (suc s) (suc n) (worker (x ∷ rest) mem taken made shut) ≡ Ok f → Near e.cells f.cells
    at_worker here q r = by (evaluated p input mem h) refl
      where
        onward : (v : WithLoads Effect) (a b : Bool) → evaluated p input mem h ≡ Ok v → as_assumed p plan (site_of h).0 v.value ≡ a →
            (if a && b then strict_from p plan input (suc s) n (turn_after p plan input x rest well behind
            (suc s) reach_worker mem taken made shut v.value (made ++ words_of p plan (event_of h v)) taken) else Err Full) ≡ Ok f →
            Near e.cells f.cells
        onward v false b gave assumed went = absurd (cc went)
        onward v true false gave assumed went = absurd (cc went)
        onward v true true gave assumed went =
            let form = form_here mem v gave in
            let same_text : project_all p plan s (x ∷ rest) ≡ project_all p plan s (followed x rest h (value_of v.value)) =
            unseen p plan s x rest h v.value well (project_out p plan s x) (omega (arith, here)) form (assumed_of p plan (site_of h).0 v.value assumed) low in
            go k (followed x rest h (value_of v.value)) (text_onward x rest text (value_of v.value)) cells lists own closing
            (stored v.value mem) taken (made ++ words_of p plan (event_of h v)) (shut || closes_at (first_site p plan) (site_of h).0 v.value) e f facing
            (beside_own p plan (suc s) laid h v.value cells mem form (unfed h kept.0 here) near)
            (ap (λ (xs : List Stmt). turn_from p plan input s k (at_turn xs cells lists own closing)) (sym same_text) ∙ q) went

        by : (o : Evaluated Effect) → evaluated p input mem h ≡ o → Near e.cells f.cells
        by (Err kind) gave =
            let off = turn_faults p plan input x rest well behind (suc s) reach_worker mem taken made shut here kind gave n in
            let clash : Err off.0 ≡ Ok f = sym off.1 ∙ ends_too p plan input (suc s) (suc n) (worker (x ∷ rest) mem taken made shut) f r in absurd (cc clash)
        by (Ok v) gave = onward v (as_assumed p plan (site_of h).0 v.value) (nat_le (length (made ++ words_of p plan (event_of h v))) plan.words) gave refl
            (sym (strict_makes p plan input x rest well behind (suc s) reach_worker mem taken made shut here v gave n) ∙ r)
