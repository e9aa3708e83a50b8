-- Where the judgement is clean, no stage has gone against an assumption: the turns that break off there come to the same ends,
-- and the judgement leaves the region where one of them does.
use Rattle.dp_semantics.proofs.Names.{◌≡◌, inl, inr, refl, sym, ap, ◌∙◌, subst, append_assoc, append_cancel_left, ℕ, zero, suc, ◌-◌, ◌<◌, ◌≤◌, Bool, true}
use Rattle.dp_semantics.proofs.Names.{false, ◌||◌, if◌then◌else◌, List, [], ◌∷◌, ◌++◌, ℤ, length, length-set, Ok, Err, nat_le, arith, slice_set, and_parts}
use Rattle.dp_semantics.proofs.Names.{cases_eq, cases_order, Stmt, out-Stmt, Stmt-F, Program, Plan, Word, Evaluated, evaluated, WithLoads, Effect, site_of}
use Rattle.dp_semantics.proofs.Names.{value_of, stored, followed, stage_of, first_site, as_assumed, closes_at, words_of, word_list, Full, Taken, taken_from}
use Rattle.dp_semantics.proofs.Names.{Turn, Ended, Judging, Agreed, Clean, last, project_all, Access, accesses, well_nested}
unfoldable use Rattle.dp_semantics.proofs.Names.{turn_from, judge_from}
use Rattle.dp_semantics.proofs.Each.{Each, each_map, each_split}
use Rattle.dp_semantics.proofs.Evaluation.{Form, head_loads, Readable, evaluated_tracks}
use Rattle.dp_semantics.proofs.Heads.{accesses_all, accesses_at, accesses_out, head_access, all_well, well_at, well_out, project_out}
use Rattle.dp_semantics.proofs.Setting.{Sound}
use Rattle.dp_semantics.proofs.Ways.{event_of}
use Rattle.dp_semantics.proofs.Followed.{followed_has, all_joins}
use Rattle.dp_semantics.proofs.Taking.{taken_event, effect_of_word, word_list_same, word_list_other}
use Rattle.dp_theorem.proofs.Judging.{judge_ends}
use Rattle.dp_theorem.proofs.Projected.{unseen, assumed_of}
use Rattle.dp_theorem.proofs.Source.{well_parts, each_joins, each_parts, head_fact}
unfoldable use Rattle.dp_net.proofs.Strict.{strict_from}
use Rattle.dp_net.proofs.Blocks.{at_turn}
use Rattle.dp_net.proofs.Stepped.{taken_form, turn_after, turn_takes, strict_takes, turn_faults, turn_makes, strict_makes, JudgedOn, judge_stops, judged_on}
use Rattle.dp_net.proofs.Grown.{grows}

module _ (p : Program) (plan : Plan) (input : List ℤ) (s : ℕ) (low : 0 < s) (high : s < last plan) where
  -- the source's text from here, with what is known of its sites
  pub record Sourced (xs : List Stmt) : Type 0 where
    pub well : all_well p plan xs ≡ true
    pub sound : Each (Sound p plan) (accesses_all xs)

  -- the turn and the judgement have the same words in front of them, and the judgement those that the turn makes
  pub record Facing (lists judged : List (List Word)) (own made : List Word) : Type 0 where
    pub wide : s ≤ suc (length lists)
    pub judged_wide : last plan ≤ suc (length judged)
    pub same : (t : ℕ) → 0 < t → t < s → word_list lists t ≡ word_list judged t
    pub made_is : made ≡ own ++ word_list judged s

  module _ (x : Stmt) (rest : List Stmt) (source : Sourced (x ∷ rest)) where
    head_parts : (well_nested p plan x ≡ true) × (all_well p plan rest ≡ true)
    head_parts = and_parts (well_nested p plan x) (all_well p plan rest) source.well

    head_well : well_at p plan (out-Stmt x) ≡ true
    head_well = sym (well_out p plan x) ∙ head_parts.0

    head_sites : Each (Sound p plan) (accesses_at (out-Stmt x)) × Each (Sound p plan) (accesses_all rest)
    head_sites =
        let both = each_split (Sound p plan) (accesses x) (accesses_all rest) source.sound in
        (subst (λ (l : List Access). Each (Sound p plan) l) (accesses_out x) both.0, both.1)

    head_sound : Sound p plan (head_access (out-Stmt x))
    head_sound = head_fact (Sound p plan) p plan (out-Stmt x) head_well head_sites.0

    head_early : stage_of p plan (site_of (out-Stmt x)).0 ≤ last plan
    head_early = let r = head_sound.early in omega (arith, r)

    source_onward : (z : ℤ) → Sourced (followed x rest (out-Stmt x) z)
    source_onward z = record {
      well = followed_has (λ (xs : List Stmt). all_well p plan xs ≡ true) (all_joins (well_nested p plan)) x rest (out-Stmt x) z source.well head_parts.1
          (well_parts p plan (out-Stmt x) head_well);
      sound = followed_has (λ (xs : List Stmt). Each (Sound p plan) (accesses_all xs)) (each_joins (Sound p plan)) x rest (out-Stmt x) z source.sound
          head_sites.1 (each_parts (Sound p plan) (out-Stmt x) head_sites.0);
    }

  abbrev turn_at_text : List Stmt → List ℤ → List (List Word) → List Word → Bool → Turn
  turn_at_text xs cells lists own closing = at_turn (project_all p plan s xs) cells lists own closing

  abbrev judging_at_text : List Stmt → List ℤ → List (List Word) → List Word → Bool → List Effect → List ℕ → Judging
  judging_at_text xs cells lists own closing effects sites =
      record { turn = at_turn (project_all p plan (last plan) xs) cells lists own closing; effects = effects; sites = sites }

  -- the turn that breaks off comes to this end, and where it leaves the region the judgement does
  abbrev pub EndsSo : ℕ → Turn → Ended → Agreed → Type 0
  EndsSo k c e v = (strict_from p plan input s k c ≡ Ok e) × (e.closing ≡ true → v.closing ≡ true)

  still_left : (a b c : Bool) → (a ≡ true → b ≡ true) → (a || c) ≡ true → (b || c) ≡ true
  still_left true b c h e = rw (h refl) refl
  still_left false true c h e = refl
  still_left false false c h e = e

  left_before : (a b c : Bool) → (a ≡ true → b ≡ true) → a ≡ true → (b || c) ≡ true
  left_before a b c h e = rw (h e) refl

  -- with so many steps of the judgement
  abbrev KeptIn : ℕ → Type 0
  KeptIn n = (k : ℕ) (xs : List Stmt) → Sourced xs →
      (cells : List ℤ) (lists : List (List Word)) (own : List Word) (closing : Bool) (mem : List ℤ) (judged : List (List Word)) (judge_own : List Word)
      (judge_closing : Bool) (effects : List Effect) (sites : List ℕ)
      (e : Ended) (v : Agreed) → Facing lists judged own e.own → turn_from p plan input s k (turn_at_text xs cells lists own closing) ≡ Ok e →
      (closing ≡ true → judge_closing ≡ true) → judge_from p plan n (judging_at_text xs mem judged judge_own judge_closing effects sites) ≡ Clean v →
      EndsSo k (turn_at_text xs cells lists own closing) e v

  module _ (n : ℕ) (go : KeptIn n) (k : ℕ) (x : Stmt) (rest : List Stmt) (source : Sourced (x ∷ rest)) (cells : List ℤ) (lists : List (List Word))
      (own : List Word) (closing : Bool) (mem : List ℤ) (judged : List (List Word))
      (judge_own : List Word) (judge_closing : Bool) (effects : List Effect) (sites : List ℕ) (e : Ended) (v : Agreed) (facing : Facing lists judged own e.own)
      (shut : closing ≡ true → judge_closing ≡ true) where
    abbrev h : Stmt-F Stmt
    h = out-Stmt x

    abbrev u : ℕ
    u = stage_of p plan (site_of h).0

    behind : all_well p plan rest ≡ true
    behind = (head_parts x rest source).1

    well : well_at p plan h ≡ true
    well = head_well x rest source

    own_sound : Sound p plan (head_access h)
    own_sound = head_sound x rest source

    early : u ≤ last plan
    early = head_early x rest source

    source_next : (z : ℤ) → Sourced (followed x rest h z)
    source_next z = source_onward x rest source z

    form_here : (w : WithLoads Effect) → evaluated p input cells h ≡ Ok w → Form p h w.value
    form_here w q = (evaluated_tracks p input cells cells (λ l. Unit {0}) h own_sound.room
        (each_map (λ y. 0 < Rattle.dp_tree.specs.Eval.cell_count p (record { 0 = y })) (Readable p cells (λ l. Unit {0})) (λ y r. (r, λ c i. tt)) (head_loads h)
        own_sound.reads) w q).value

    abbrev here_turn : Turn
    here_turn = turn_at_text (x ∷ rest) cells lists own closing

    judged_here : judge_from p plan (suc n) (judging_at_text (x ∷ rest) mem judged judge_own judge_closing effects sites) ≡ Clean v →
        JudgedOn p plan input x rest well behind (last plan) early mem judged judge_own judge_closing n v
    judged_here q = judged_on p plan input x rest well behind (last plan) early mem judged judge_own judge_closing refl effects sites n v q

    module _ (j : JudgedOn p plan input x rest well behind (last plan) early mem judged judge_own judge_closing n v) where
      abbrev w : Taken
      w = j.taken

      abbrev judged_next : List (List Word)
      judged_next = slice_set judged (u - 1) w.rest

      low_here : 0 < u
      low_here = own_sound.staged

      early_here : u < last plan
      early_here = own_sound.early

      judged_wide_next : last plan ≤ suc (length judged_next)
      judged_wide_next = let a = length-set judged (u - 1) w.rest in let b = facing.judged_wide in omega (arith, a, b)

      judged_there : word_list judged_next u ≡ w.rest
      judged_there = word_list_same judged u w.rest low_here (let a = facing.judged_wide in let b = early_here in omega (arith, a, b))

      judged_else : (t : ℕ) → 0 < t → (t ≡ u → ⊥) → word_list judged_next t ≡ word_list judged t
      judged_else t real other = word_list_other judged u t w.rest low_here real other

      -- an earlier stage's site
      at_earlier : u < s → turn_from p plan input s (suc k) here_turn ≡ Ok e → EndsSo (suc k) here_turn e v
      at_earlier before q =
          let other : u ≡ s → ⊥ = λ same. omega (arith, before, same) in
          let reach : u ≤ s = omega (arith, before) in
          let takes : taken_from p h (word_list lists u) ≡ Ok w = ap (taken_from p h) (facing.same u low_here before) ∙ j.taken_is in
          let next : Facing (slice_set lists (u - 1) w.rest) judged_next own e.own = record {
            wide = let a = length-set lists (u - 1) w.rest in let b = facing.wide in omega (arith, a, b);
            judged_wide = judged_wide_next;
            same = λ t real less. elim (cases_eq t u) [
              | inl is ↦ subst (λ (y : ℕ). word_list (slice_set lists (u - 1) w.rest) y ≡ word_list judged_next y) (sym is)
                  (word_list_same lists u w.rest low_here (let b = facing.wide in omega (arith, b, before)) ∙ sym judged_there)
              | inr differs ↦ word_list_other lists u t w.rest low_here real differs ∙ facing.same t real less ∙ sym (judged_else t real differs)
            ];
            made_is = facing.made_is ∙ ap (λ (ws : List Word). own ++ ws) (sym (judged_else s low (λ is. other (sym is))));
          } in
          let ends = go k (followed x rest h (value_of w.effect)) (source_next (value_of w.effect)) (stored w.effect cells) (slice_set lists (u - 1) w.rest) own
          (closing || closes_at (first_site p plan) (site_of h).0 w.effect)
          (stored w.effect mem) judged_next judge_own (judge_closing || closes_at (first_site p plan) (site_of h).0 w.effect) j.effects j.sites e v next
          (sym (turn_takes p plan input x rest well behind s reach cells lists own closing other w takes k)
          ∙ q) (still_left closing judge_closing (closes_at (first_site p plan) (site_of h).0 w.effect) shut) j.goes_on in
          (strict_takes p plan input x rest well behind s reach cells lists own closing other w takes k ∙ ends.0, ends.1)

      -- a later stage's
      at_later : s < u → turn_from p plan input s (suc k) here_turn ≡ Ok e → EndsSo (suc k) here_turn e v
      at_later past q =
          let same_text : project_all p plan s (x ∷ rest) ≡ project_all p plan s (followed x rest h (value_of w.effect)) =
          unseen p plan s x rest h w.effect well (project_out p plan s x) past (taken_form p plan h well (word_list judged u) w j.taken_is)
          (assumed_of p plan (site_of h).0 w.effect j.assumed) low in
          let next : Facing lists judged_next own e.own = record {
            wide = facing.wide;
            judged_wide = judged_wide_next;
            same = λ t real less. facing.same t real less ∙ sym (judged_else t real (λ is. omega (arith, is, less, past)));
            made_is = facing.made_is ∙ ap (λ (ws : List Word). own ++ ws) (sym (judged_else s low (λ is. omega (arith, is, past))));
          } in
          let ends = go (suc k) (followed x rest h (value_of w.effect)) (source_next (value_of w.effect)) cells lists own closing
          (stored w.effect mem) judged_next judge_own (judge_closing || closes_at (first_site p plan) (site_of h).0 w.effect) j.effects j.sites e v next
          (ap (λ (xs : List Stmt). turn_from p plan input s (suc k) (at_turn xs cells lists own closing)) (sym same_text)
          ∙ q) (left_before closing judge_closing (closes_at (first_site p plan) (site_of h).0 w.effect) shut) j.goes_on in
          (ap (λ (xs : List Stmt). strict_from p plan input s (suc k) (at_turn xs cells lists own closing)) same_text ∙ ends.0, ends.1)

      -- the stage's own
      at_own : u ≡ s → turn_from p plan input s (suc k) here_turn ≡ Ok e → EndsSo (suc k) here_turn e v
      at_own here q = by (evaluated p input cells h) refl
        where
          reach : u ≤ s
          reach = omega (arith, here)

          fits_or : (r : WithLoads Effect) (b : Bool) → nat_le (length (own ++ words_of p plan (event_of h r))) plan.words ≡ b →
              evaluated p input cells h ≡ Ok r →
              (if b then turn_from p plan input s k (turn_after p plan input x rest well behind s reach cells lists own closing r.value
              (own ++ words_of p plan (event_of h r)) lists) else Err Full) ≡ Ok e → EndsSo (suc k) here_turn e v
          fits_or r false b gave went = absurd (cc went)
          fits_or r true b gave went =
              let ws : List Word = words_of p plan (event_of h r) in
              let form = form_here r gave in
              let grown = grows p plan input s k _ e went in
              let front : word_list judged s ≡ ws ++ grown.0 = append_cancel_left own (word_list judged s) (ws ++ grown.0) (sym facing.made_is
              ∙ grown.1 ∙ append_assoc own ws grown.0) in
              let takes : taken_from p h (word_list judged u) ≡ Ok (record { effect = r.value; rest = grown.0 }) =
              ap (λ (t : ℕ). taken_from p h (word_list judged t)) here ∙ ap (taken_from p h) front
              ∙ taken_event p plan (event_of h r) grown.0 h refl (effect_of_word p h (site_of h).0 r.value form) in
              let clash : Ok (record { effect = r.value; rest = grown.0 }) ≡ Ok w = sym takes ∙ j.taken_is in
              let is : record { effect = r.value; rest = grown.0 } ≡ w = cc clash in
              onward r ws grown.0 is b gave went (grown.1)
            where
              onward : (r : WithLoads Effect) (ws more : List Word) → record { effect = r.value; rest = more } ≡ w →
                  nat_le (length (own ++ words_of p plan (event_of h r))) plan.words ≡ true → evaluated p input cells h ≡ Ok r →
                  turn_from p plan input s k (turn_after p plan input x rest well behind s reach cells lists own closing r.value
                  (own ++ words_of p plan (event_of h r)) lists) ≡ Ok e →
                  e.own ≡ (own ++ words_of p plan (event_of h r)) ++ more → EndsSo (suc k) here_turn e v
              onward r ws more is b gave went grown =
                  let effect_is : r.value ≡ w.effect = ap (λ (t : Taken). t.effect) is in
                  let rest_is : more ≡ w.rest = ap (λ (t : Taken). t.rest) is in
                  let assumed : as_assumed p plan (site_of h).0 r.value ≡ true = ap (as_assumed p plan (site_of h).0) effect_is ∙ j.assumed in
                  let next : Facing lists judged_next (own ++ words_of p plan (event_of h r)) e.own = record {
                    wide = facing.wide;
                    judged_wide = judged_wide_next;
                    same = λ t real less. facing.same t real less ∙ sym (judged_else t real (λ same. omega (arith, same, less, here)));
                    made_is = grown
                        ∙ ap (λ (ys : List Word). (own ++ words_of p plan (event_of h r)) ++ ys) (rest_is ∙ sym judged_there
                        ∙ ap (word_list judged_next) here);
                  } in
                  let ends = go k (followed x rest h (value_of r.value)) (source_next (value_of r.value)) (stored r.value cells) lists
                  (own ++ words_of p plan (event_of h r)) (closing || closes_at (first_site p plan) (site_of h).0 r.value)
                  (stored w.effect mem) judged_next judge_own (judge_closing || closes_at (first_site p plan) (site_of h).0 w.effect) j.effects
                  j.sites e v next went
                  (λ shuts. ap (λ (effect : Effect). judge_closing || closes_at (first_site p plan) (site_of h).0 effect) (sym effect_is)
                  ∙ still_left closing judge_closing (closes_at (first_site p plan) (site_of h).0 r.value) shut shuts)
                  (ap (λ (effect : Effect). judge_from p plan n (judging_at_text (followed x rest h (value_of effect)) (stored w.effect mem) judged_next
                  judge_own (judge_closing || closes_at (first_site p plan) (site_of h).0 w.effect) j.effects j.sites)) effect_is ∙ j.goes_on) in
                  (strict_makes p plan input x rest well behind s reach cells lists own closing here r gave k ∙ rw (assumed, b) ends.0, ends.1)

          by : (r : Evaluated Effect) → evaluated p input cells h ≡ r → EndsSo (suc k) here_turn e v
          by (Err kind) gave = let f = turn_faults p plan input x rest well behind s reach cells lists own closing here kind gave k in
              let clash : Err f.0 ≡ Ok e = sym f.1 ∙ q in absurd (cc clash)
          by (Ok r) gave = fits_or r (nat_le (length (own ++ words_of p plan (event_of h r))) plan.words) refl gave
              (sym (turn_makes p plan input x rest well behind s reach cells lists own closing here r gave k) ∙ q)

      at_statement : turn_from p plan input s (suc k) here_turn ≡ Ok e → EndsSo (suc k) here_turn e v
      at_statement q = elim (cases_order u s) [
        | inl here ↦ at_own here q
        | inr (inl before) ↦ at_earlier before q
        | inr (inr past) ↦ at_later past q
      ]

  -- Where the judgement is clean, the turn that breaks off comes to the same end.
  pub kept_in : (n : ℕ) → KeptIn n
  unfolding turn_from strict_from
  kept_in n zero xs source cells lists own closing mem judged judge_own judge_closing effects sites e v facing q shut c = absurd (cc q)
  kept_in n (suc k) [] source cells lists own closing mem judged judge_own judge_closing effects sites e v facing q shut c =
      let ended : Ok (record { own = own; cells = cells; closing = closing }) ≡ Ok e = q in
      let same : record { own = own; cells = cells; closing = closing } ≡ e = cc ended in
      let agreed : Clean (record { effects = effects; sites = sites; closing = judge_closing }) ≡ Clean v = sym
      (judge_ends p plan n (judging_at_text [] mem judged judge_own judge_closing effects sites) refl) ∙ c in
      let is : record { effects = effects; sites = sites; closing = judge_closing } ≡ v = cc agreed in
      (q, λ left. ap (λ (u : Agreed). u.closing) (sym is) ∙ shut (ap (λ (u : Ended). u.closing) same ∙ left))
  kept_in zero (suc k) (x ∷ rest) source cells lists own closing mem judged judge_own judge_closing effects sites e v facing q shut c =
      absurd (judge_stops p plan input x rest (head_well x rest source) (head_parts x rest source).1 (last plan) (head_early x rest source) mem judged judge_own
      judge_closing refl effects sites v c)
  kept_in (suc n) (suc k) (x ∷ rest) source cells lists own closing mem judged judge_own judge_closing effects sites e v facing q shut c =
      at_statement n (kept_in n) k x rest source cells lists own closing mem judged judge_own judge_closing effects sites e v facing shut
      (judged_here n (kept_in n) k x rest source cells lists own closing mem judged judge_own judge_closing effects sites e v facing shut c) q
