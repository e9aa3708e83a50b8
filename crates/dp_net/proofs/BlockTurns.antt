-- A quiet block in the turn of its own stage, in a later stage's turn over its words, and in the judgement.
use Rattle.dp_semantics.proofs.Names.{◌≡◌, refl, sym, ap, ◌∙◌, append_assoc, append-nil, ℕ, zero, suc, ◌+◌, ◌-◌, ◌<◌, ◌≤◌, Bool, List, [], ◌∷◌, ◌++◌, ℤ, length}
use Rattle.dp_semantics.proofs.Names.{length-append, length-set, None, Ok, Err, arith, slice_set, and_parts, Stmt, out-Stmt, Program, Plan, Word, Evaluated}
use Rattle.dp_semantics.proofs.Names.{evaluated, WithLoads, Event, Effect, Stored, Printed, Decided, Tried, site_of, value_of, stored, followed, stage_of}
use Rattle.dp_semantics.proofs.Names.{done_word, word_list, Void, Unclean, applied}
unfoldable use Rattle.dp_semantics.proofs.Names.{judge_from}
unfoldable use Rattle.dp_net.proofs.Strict.{strict_from}
use Rattle.dp_semantics.proofs.Evaluation.{Form}
use Rattle.dp_semantics.proofs.Ways.{Goes, stays, goes}
use Rattle.dp_semantics.proofs.Taking.{word_list_is, word_list_same}
use Rattle.std.proofs.lemmas.List.{set-set}
use Rattle.dp_net.specs.Quiet.{is_quiet, BlockOutcome, Through, Broke, with_event, quiet_by}
unfoldable use Rattle.dp_net.specs.Quiet.{quiet_from}
use Rattle.dp_net.proofs.Silent.{all_quiet, AllQuiet, quiet_out, QuietHead, known_quiet, form_is}
use Rattle.dp_net.proofs.Blocks.{head_of, onward, own_fault, own_fits, own_full, taken_step, judged_step, set_self, said, effects_of, sites_of, at_turn}

module _ (p : Program) (plan : Plan) (t : ℕ) (input : List ℤ) where
  -- The block's own stage goes through it where its words fit.
  pub produce : {to_do : List Stmt} {cells : List ℤ} {events : List Event} {after : List Stmt} {then_cells : List ℤ} →
      Goes p input to_do cells events after then_cells → AllQuiet p plan t to_do →
      (behind : List Stmt) (lists : List (List Word)) (own : List Word) (closing : Bool) (m n : ℕ) → m ≡ length events + n →
      length own + length events ≤ plan.words →
      strict_from p plan input t m (at_turn (to_do ++ behind) cells lists own closing) ≡ strict_from p plan input t n
      (at_turn (after ++ behind) then_cells lists (own ++ said events) closing)
  produce (stays {to_do = to_do} {cells = cells}) quiet behind lists own closing m n e fits =
      let same : m ≡ n = omega (arith, e) in ap (λ (u : ℕ). strict_from p plan input t u (at_turn (to_do ++ behind) cells lists own closing)) same
      ∙ ap (λ (ws : List Word). strict_from p plan input t n (at_turn (to_do ++ behind) cells lists ws closing)) (sym (append-nil own))
  produce (goes {x = x} {rest = rest} {cells = cells} {v = v} {events = events} {after = after} {then_cells = then_cells} gave path) quiet behind lists own
      closing m n e fits =
      let w : Word = done_word (site_of (out-Stmt x)).0 v.value in
      let one : m ≡ suc (length events + n) = omega (arith, e) in
      let more = length-append own (w ∷ []) in
      let fits_here : length (own ++ w ∷ []) ≤ plan.words = omega (arith, fits, more) in
      let fits_later : length (own ++ w ∷ []) + length events ≤ plan.words = omega (arith, fits, more) in
      ap (λ (u : ℕ). strict_from p plan input t u (at_turn (x ∷ (rest ++ behind)) cells lists own closing)) one
      ∙ own_fits p plan t input x rest behind quiet lists own closing cells v gave (length events + n) fits_here
      ∙ produce path (onward p plan t x rest (value_of v.value) quiet) behind lists (own ++ w ∷ []) closing (length events + n) n refl fits_later
      ∙ ap (λ (ws : List Word). strict_from p plan input t n (at_turn (after ++ behind) then_cells lists ws closing)) (append_assoc own (w ∷ []) (said events))

  -- Where the block comes to no end within the words that are left, the turn breaks off.
  pub breaks : (n : ℕ) (to_do : List Stmt) (cells : List ℤ) → quiet_from p input n to_do cells ≡ Broke → AllQuiet p plan t to_do →
      (behind : List Stmt) (lists : List (List Word)) (own : List Word) (closing : Bool) → n + length own ≡ plan.words →
      (m : ℕ) → n < m → (why : Void) × (strict_from p plan input t m (at_turn (to_do ++ behind) cells lists own closing) ≡ Err why)
  unfolding quiet_from
  breaks n to_do cells e quiet behind lists own closing room zero less = absurd (omega (arith, less))
  breaks zero [] cells e quiet behind lists own closing room (suc m) less = absurd (cc e)
  breaks zero (x ∷ rest) cells e quiet behind lists own closing room (suc m) less = by (evaluated p input cells (out-Stmt x)) refl
    where
      by : (u : Evaluated Effect) → evaluated p input cells (out-Stmt x) ≡ u →
          (why : Void) × (strict_from p plan input t (suc m) (at_turn (x ∷ (rest ++ behind)) cells lists own closing) ≡ Err why)
      by (Err kind) gave = (_, own_fault p plan t input x rest behind quiet lists own closing cells m kind gave)
      by (Ok v) gave =
          let w : Word = done_word (site_of (out-Stmt x)).0 v.value in
          let more = length-append own (w ∷ []) in
          let over : plan.words < length (own ++ w ∷ []) = omega (arith, room, more) in
          (_, own_full p plan t input x rest behind quiet lists own closing cells v gave m over)
  breaks (suc n) [] cells e quiet behind lists own closing room (suc m) less = absurd (cc e)
  breaks (suc n) (x ∷ rest) cells e quiet behind lists own closing room (suc m) less =
      by (evaluated p input cells (out-Stmt x)) refl e
      (λ v broke own' room'. breaks n (followed x rest (out-Stmt x) (value_of v.value))
      (stored v.value cells) broke (onward p plan t x rest (value_of v.value) quiet) behind lists own' closing room' m (omega (arith, less)))
    where
      broke_of : (event : Event) (o : BlockOutcome) → with_event event o ≡ Broke → o ≡ Broke
      broke_of event Broke e = refl
      broke_of event (Through events after) e = absurd (cc e)

      by : (u : Evaluated Effect) → evaluated p input cells (out-Stmt x) ≡ u → quiet_by (quiet_from p input n) x rest cells (out-Stmt x) u ≡ Broke →
          ((v : WithLoads Effect) → quiet_from p input n (followed x rest (out-Stmt x) (value_of v.value)) (stored v.value cells) ≡ Broke →
          (own' : List Word) → n + length own' ≡ plan.words →
          (why : Void) × (strict_from p plan input t m (at_turn (followed x rest (out-Stmt x) (value_of v.value) ++ behind)
          (stored v.value cells) lists own' closing) ≡ Err why)) →
          (why : Void) × (strict_from p plan input t (suc m) (at_turn (x ∷ (rest ++ behind)) cells lists own closing) ≡ Err why)
      by (Err kind) gave e go = (_, own_fault p plan t input x rest behind quiet lists own closing cells m kind gave)
      by (Ok v) gave e go =
          let w : Word = done_word (site_of (out-Stmt x)).0 v.value in
          let more = length-append own (w ∷ []) in
          let fits : length (own ++ w ∷ []) ≤ plan.words = omega (arith, room, more) in
          let r = go v (broke_of _ _ e) (own ++ w ∷ []) (omega (arith, room, more)) in
          (r.0, own_fits p plan t input x rest behind quiet lists own closing cells v gave m fits ∙ r.1)

  -- A later stage that stands before the block takes its words, and has its stores.
  pub consume : {to_do : List Stmt} {cells : List ℤ} {events : List Event} {after : List Stmt} {then_cells : List ℤ} →
      Goes p input to_do cells events after then_cells → AllQuiet p plan t to_do → (s : ℕ) → (t ≡ s → ⊥) → 0 < t →
      (behind : List Stmt) (mem : List ℤ) (lists : List (List Word)) (own : List Word) (closing : Bool) (more : List Word) → t < suc (length lists) →
      word_list lists t ≡ said events ++ more → (m n : ℕ) → m ≡ length events + n →
      strict_from p plan input s m (at_turn (to_do ++ behind) mem lists own closing) ≡ strict_from p plan input s n (at_turn (after ++ behind)
      (applied (effects_of events) mem) (slice_set lists (t - 1) more) own closing)
  consume (stays {to_do = to_do}) quiet s other low behind mem lists own closing more wide front m n e =
      let same : m ≡ n = omega (arith, e) in
      let kept : slice_set lists (t - 1) more ≡ lists = ap (slice_set lists (t - 1)) (sym front ∙ word_list_is lists t low) ∙ set_self lists (t - 1) [] in
      ap (λ (u : ℕ). strict_from p plan input s u (at_turn (to_do ++ behind) mem lists own closing)) same
      ∙ ap (λ (ls : List (List Word)). strict_from p plan input s n (at_turn (to_do ++ behind) mem ls own closing)) (sym kept)
  consume (goes {x = x} {rest = rest} {cells = cells} {v = v} {events = events} {after = after} gave path) quiet s other low behind mem lists own closing
      more wide front m n e =
      let one : m ≡ suc (length events + n) = omega (arith, e) in
      let f = form_is p plan t (out-Stmt x) (known_quiet p plan t (out-Stmt x)
      (sym (quiet_out p plan t x) ∙ (and_parts (is_quiet p plan t x) (all_quiet p plan t rest) quiet).0)) input cells v gave in
      let wide_then : t < suc (length (slice_set lists (t - 1) (said events ++ more))) = omega (arith, wide, length-set lists (t - 1) (said events ++ more)) in
      ap (λ (u : ℕ). strict_from p plan input s u (at_turn (x ∷ (rest ++ behind)) mem lists own closing)) one
      ∙ taken_step p plan t input x rest behind quiet lists own closing mem v.loads v.value f (said events ++ more) front s other (length events + n)
      ∙ consume path (onward p plan t x rest (value_of v.value) quiet) s other low behind (stored v.value mem)
      (slice_set lists (t - 1) (said events ++ more)) own closing more wide_then (word_list_same lists t (said events ++ more) low wide)
      (length events + n) n refl
      ∙ ap (λ (ls : List (List Word)). strict_from p plan input s n (at_turn (after ++ behind)
      (applied (effects_of events) (stored v.value mem)) ls own closing)) (set-set lists (t - 1) (said events ++ more) more)

  -- .. and so does the judgement, each word of the block being one step of its fuel
  pub judge_block : {to_do : List Stmt} {cells : List ℤ} {events : List Event} {after : List Stmt} {then_cells : List ℤ} →
      Goes p input to_do cells events after then_cells → AllQuiet p plan t to_do → 0 < t →
      (behind : List Stmt) (mem : List ℤ) (lists : List (List Word)) (own : List Word) (closing : Bool) (more : List Word) → t < suc (length lists) →
      word_list lists t ≡ said events ++ more → (effects : List Effect) (sites : List ℕ) → (m n : ℕ) → m ≡ length events + n →
      judge_from p plan m (record { turn = at_turn (to_do ++ behind) mem lists own closing; effects = effects; sites = sites })
      ≡ judge_from p plan n (record {
        turn = at_turn (after ++ behind) (applied (effects_of events) mem)
            (slice_set lists (t - 1) more) own closing;
        effects = effects ++ effects_of events;
        sites = sites ++ sites_of events;
      })
  judge_block (stays {to_do = to_do}) quiet low behind mem lists own closing more wide front effects sites m n e =
      let same : m ≡ n = omega (arith, e) in
      let kept : slice_set lists (t - 1) more ≡ lists = ap (slice_set lists (t - 1)) (sym front ∙ word_list_is lists t low) ∙ set_self lists (t - 1) [] in
      rw (same, kept, append-nil effects, append-nil sites)
  judge_block (goes {x = x} {rest = rest} {cells = cells} {v = v} {events = events} {after = after} gave path) quiet low behind mem lists own closing more wide
      front effects sites m n e =
      let one : m ≡ suc (length events + n) = omega (arith, e) in
      let f = form_is p plan t (out-Stmt x) (known_quiet p plan t (out-Stmt x)
      (sym (quiet_out p plan t x) ∙ (and_parts (is_quiet p plan t x) (all_quiet p plan t rest) quiet).0)) input cells v gave in
      let wide_then : t < suc (length (slice_set lists (t - 1) (said events ++ more))) = omega (arith, wide, length-set lists (t - 1) (said events ++ more)) in
      let site : ℕ = (site_of (out-Stmt x)).0 in
      ap (λ (u : ℕ). judge_from p plan u (record { turn = at_turn (x ∷ (rest ++ behind)) mem lists own closing; effects = effects; sites = sites })) one
      ∙ judged_step p plan t input x rest behind quiet lists own closing mem v.loads v.value f (said events ++ more) front (length events + n) effects sites
      ∙ judge_block path (onward p plan t x rest (value_of v.value) quiet) low behind (stored v.value mem)
      (slice_set lists (t - 1) (said events ++ more)) own closing more wide_then (word_list_same lists t (said events ++ more) low wide)
      (effects ++ v.value ∷ []) (sites ++ site ∷ []) (length events + n) n refl
      ∙ rw (
        set-set lists (t - 1) (said events ++ more) more,
        append_assoc effects (v.value ∷ []) (effects_of events),
        append_assoc sites (site ∷ [])
            (sites_of events),
      )

  -- Where fewer steps are left than the block has words, nothing is Clean.
  pub judge_short : {to_do : List Stmt} {cells : List ℤ} {events : List Event} {after : List Stmt} {then_cells : List ℤ} →
      Goes p input to_do cells events after then_cells → AllQuiet p plan t to_do → 0 < t →
      (behind : List Stmt) (mem : List ℤ) (lists : List (List Word)) (own : List Word) (closing : Bool) (more : List Word) → t < suc (length lists) →
      word_list lists t ≡ said events ++ more → (effects : List Effect) (sites : List ℕ) → (n : ℕ) → n < length events →
      judge_from p plan n (record { turn = at_turn (to_do ++ behind) mem lists own closing; effects = effects; sites = sites }) ≡ Unclean
  unfolding judge_from
  judge_short stays quiet low behind mem lists own closing more wide front effects sites n few = absurd (omega (arith, few))
  judge_short (goes {x = x} {rest = rest} gave path) quiet low behind mem lists own closing more wide front effects sites zero few = refl
  judge_short (goes {x = x} {rest = rest} {cells = cells} {v = v} {events = events} {after = after} gave path) quiet low behind mem lists own closing more wide
      front effects sites (suc n) few =
      let f = form_is p plan t (out-Stmt x) (known_quiet p plan t (out-Stmt x)
      (sym (quiet_out p plan t x) ∙ (and_parts (is_quiet p plan t x) (all_quiet p plan t rest) quiet).0)) input cells v gave in
      let wide_then : t < suc (length (slice_set lists (t - 1) (said events ++ more))) = omega (arith, wide, length-set lists (t - 1) (said events ++ more)) in
      judged_step p plan t input x rest behind quiet lists own closing mem v.loads v.value f (said events ++ more) front n effects sites
      ∙ judge_short path (onward p plan t x rest (value_of v.value) quiet) low behind (stored v.value mem)
      (slice_set lists (t - 1) (said events ++ more)) own closing more wide_then (word_list_same lists t (said events ++ more) low wide)
      (effects ++ v.value ∷ []) (sites ++ (site_of (out-Stmt x)).0 ∷ []) n (omega (arith, few))

  -- Nothing is printed in a block, and its events are all of its stage.
  abbrev pub IsOf : Event → Type 0
  IsOf event = (stage_of p plan event.site ≡ t) × (Rattle.dp_tree.specs.Trace.printed_by event.effect ≡ None)

  pub all_of_stage : {to_do : List Stmt} {cells : List ℤ} {events : List Event} {after : List Stmt} {then_cells : List ℤ} →
      Goes p input to_do cells events after then_cells → AllQuiet p plan t to_do → Rattle.dp_semantics.proofs.Each.Each IsOf events
  all_of_stage stays quiet = tt
  all_of_stage (goes {x = x} {rest = rest} {cells = cells} {v = v} gave path) quiet =
      let q = head_of p plan t x rest quiet in
      ((q.stage, no_print q v.value (form_is p plan t (out-Stmt x) q input cells v gave)), all_of_stage path (onward p plan t x rest (value_of v.value) quiet))
    where
      no_print : QuietHead p plan t (out-Stmt x) → (effect : Effect) → Form p (out-Stmt x) effect → Rattle.dp_tree.specs.Trace.printed_by effect ≡ None
      no_print q (Stored c z) f = refl
      no_print q (Printed z) f = absurd (q.mute z f)
      no_print q (Decided z) f = refl
      no_print q (Tried z) f = refl
