-- What is decided of a batch follows from the verdicts on its iterations.
use Rattle.dp_semantics.proofs.Names.{◌≡◌, inl, inr, refl, sym, ap, ◌∙◌, ℕ, zero, suc, ◌+◌, ◌≤◌, Bool, true, false, not, if◌then◌else◌, List, [], ◌∷◌, ◌++◌, ℤ}
use Rattle.dp_semantics.proofs.Names.{pos, length, length-set, map, arith, get_or, slice_set, get_or-set_at, get_or-set_other, list_any, cases_Bool, cases_eq}
use Rattle.dp_semantics.proofs.Names.{cases_lt, clear_locals, is_local_cell, numbers_from, Judgement, Clean, Unclean}
use Rattle.std.proofs.lemmas.List.{ext_get_or}
use Rattle.dp_base.specs.declared.StoreOf.{StoreOf}
use Rattle.dp_semantics.specs.Told.{with_stores}
use Rattle.dp_semantics.specs.EpochKey.{EpochKey}
use Rattle.dp_semantics.specs.EpochVerdicts.{Carried, Verdict, Commit, Again, after_judgement, carried, goes_on, judgement_of, state_at, verdict_at, verdict_by}
use Rattle.dp_theorem.proofs.Memory.{clear-at, clear-other}
use Rattle.dp_theorem.proofs.Told.{stores_are_all}
use Rattle.dp_net.specs.NetItems.{Marks}
use Rattle.dp_net.specs.NetVerdicts.{GoesOnTo, NetAgrees, SaysTheSame, net_verdict_at}
use Rattle.dp_net.specs.Batches.{BatchEnd, BatchGoesOn, BatchCloses, BatchRecovers, BatchVerdict, nothing_but, with_front, together, left_behind, BatchAgrees}
use Rattle.dp_net.specs.Batches.{BatchLeads}
use Rattle.dp_net.proofs.Sent.{clear_size}

stores_join : (a b : List StoreOf) (cells : List ℤ) → with_stores (a ++ b) cells ≡ with_stores b (with_stores a cells)
stores_join [] b cells = refl
stores_join (s ∷ a) b cells = stores_join a b (slice_set cells s.cell.0 s.value)

module _ (key : EpochKey) where
  open key use {program, plan}

  abbrev clear : List ℤ → List ℤ
  clear cells = clear_locals plan.region program.vars cells

  abbrev is_local : ℕ → Bool
  is_local c = list_any (is_local_cell plan.region c) program.vars

  -- memories that differ in body locals alone
  record Even (a b : List ℤ) : Type 0 where
    size : length a ≡ length b
    same : (c : ℕ) → is_local c ≡ false → get_or a c (pos 0) ≡ get_or b c (pos 0)

  even_set : (i : ℕ) (z : ℤ) (a b : List ℤ) → Even a b → Even (slice_set a i z) (slice_set b i z)
  even_set i z a b ab = record {
    size = length-set a i z ∙ ab.size ∙ sym (length-set b i z);
    same = λ c outer. elim (cases_eq i c) [
      | inl here ↦ elim (cases_lt i (length a)) [
        | inl within ↦ get_or-set_at a i c z (pos 0) (sym here) within
            ∙ sym (get_or-set_at b i c z (pos 0) (sym here) (let e = ab.size in omega (arith, e, within)))
        | inr past ↦ beyond a i z c past ∙ ab.same c outer ∙ sym (beyond b i z c (let e = ab.size in omega (arith, e, past)))
      ]
      | inr other ↦ get_or-set_other a i c z (pos 0) (λ e. other (sym e)) ∙ ab.same c outer ∙ sym (get_or-set_other b i c z (pos 0) (λ e. other (sym e)))
    ];
  }
    where
      beyond : (l : List ℤ) (i : ℕ) (z : ℤ) (c : ℕ) → length l ≤ i → get_or (slice_set l i z) c (pos 0) ≡ get_or l c (pos 0)
      beyond [] zero z c h = refl
      beyond [] (suc i) z c h = refl
      beyond (x ∷ l) zero z c h = absurd (omega (arith, h))
      beyond (x ∷ l) (suc i) z zero h = refl
      beyond (x ∷ l) (suc i) z (suc c) h = beyond l i z c (omega (arith, h))

  even_stores : (stores : List StoreOf) (a b : List ℤ) → Even a b → Even (with_stores stores a) (with_stores stores b)
  even_stores [] a b ab = ab
  even_stores (s ∷ rest) a b ab = even_stores rest (slice_set a s.cell.0 s.value) (slice_set b s.cell.0 s.value) (even_set s.cell.0 s.value a b ab)

  even_clear : (a b : List ℤ) → Even a b → clear a ≡ clear b
  even_clear a b ab = ext_get_or (pos 0) (clear a) (clear b) (clear_size plan.region program.vars a ∙ ab.size ∙ sym (clear_size plan.region program.vars b))
      (λ c within. elim (cases_Bool (is_local c)) [
        | inl e ↦ clear-at plan.region c program.vars a (inl e) ∙ sym (clear-at plan.region c program.vars b (inl e))
        | inr e ↦ clear-other plan.region c program.vars a e ∙ ab.same c e ∙ sym (clear-other plan.region c program.vars b e)
      ])

  cleared_even : (cells : List ℤ) → Even (clear cells) cells
  cleared_even cells = record { size = clear_size plan.region program.vars cells; same = λ c outer. clear-other plan.region c program.vars cells outer }

  -- body locals may be cleared between two iterations, or not
  clear_between : (stores : List StoreOf) (cells : List ℤ) → left_behind key stores (clear cells) ≡ left_behind key stores cells
  clear_between stores cells = even_clear (with_stores stores (clear cells)) (with_stores stores cells)
      (even_stores stores (clear cells) cells (cleared_even cells))

  left_join : (a b : List StoreOf) (cells : List ℤ) → left_behind key (a ++ b) cells ≡ left_behind key b (left_behind key a cells)
  left_join a b cells = ap clear (stores_join a b cells) ∙ sym (clear_between b (with_stores a cells))

  left_alike : (a b c d : List StoreOf) → ((cells : List ℤ) → left_behind key c cells ≡ left_behind key a cells) →
      ((cells : List ℤ) → left_behind key d cells ≡ left_behind key b cells) →
      (cells : List ℤ) → left_behind key (c ++ d) cells ≡ left_behind key (a ++ b) cells
  left_alike a b c d one two cells = left_join c d cells ∙ ap (left_behind key d) (one cells) ∙ two (left_behind key a cells) ∙ sym (left_join a b cells)

  front_agrees : (v w : Carried) (a b : BatchVerdict) → SaysTheSame key (Commit v) (Commit w) → BatchAgrees key a b →
      BatchAgrees key (with_front v a) (with_front w b)
  front_agrees v w a b same rest = record {
    iterations = ap suc rest.iterations;
    prints = ap (λ (zs : List ℤ). zs ++ b.prints) same.0 ∙ ap (λ (zs : List ℤ). v.prints ++ zs) rest.prints;
    steps = ap (λ (n : ℕ). n + b.steps) same.1 ∙ ap (λ (n : ℕ). v.steps + n) rest.steps;
    ends = rest.ends;
    stores = left_alike v.stores a.stores w.stores b.stores same.3 rest.stores;
  }

  nothing_agrees : (a b : BatchEnd) → b ≡ a → BatchAgrees key (nothing_but a) (nothing_but b)
  nothing_agrees a b e = record { iterations = refl; prints = refl; steps = refl; ends = e; stores = λ cells. refl }

  pub goes_further : (n : ℕ) → GoesOnTo key n → goes_on (verdict_at key n) ≡ true → GoesOnTo key (n + 1)
  goes_further n goes here i low = elim (cases_eq i n) [
    | inl same ↦ ap (λ (k : ℕ). goes_on (verdict_at key k)) same ∙ here
    | inr less ↦ goes i (omega (arith, low, less))
  ]

  module _ (m : Marks) (agrees : (n : ℕ) → GoesOnTo key n → NetAgrees m key n) where
    -- The verdicts on several iterations come to the same together.
    pub together_agrees : (n k : ℕ) → GoesOnTo key k →
        BatchAgrees key (together (map (verdict_at key) (numbers_from k n))) (together (map (net_verdict_at m key) (numbers_from k n)))
    together_agrees zero k goes = nothing_agrees BatchGoesOn BatchGoesOn refl
    together_agrees (suc n) k goes = by (verdict_at key k) (net_verdict_at m key k) refl (let r = agrees k goes in r.verdict)
        (λ on. together_agrees n (k + 1) (goes_further k goes on))
      where
        rest : List Verdict
        rest = map (verdict_at key) (numbers_from (k + 1) n)

        rest_net : List Verdict
        rest_net = map (net_verdict_at m key) (numbers_from (k + 1) n)

        by_closing : (v w : Carried) → SaysTheSame key (Commit v) (Commit w) → (c : Bool) → v.closing ≡ c →
            (c ≡ false → BatchAgrees key (together rest) (together rest_net)) →
            BatchAgrees key (if c then nothing_but BatchCloses else together rest) (if w.closing then nothing_but BatchCloses else together rest_net)
        by_closing v w same true e go = rw (same.2, e) (nothing_agrees BatchCloses BatchCloses refl)
        by_closing v w same false e go = rw (same.2, e) (go refl)

        by : (v w : Verdict) → verdict_at key k ≡ v → SaysTheSame key v w →
            (goes_on (verdict_at key k) ≡ true → BatchAgrees key (together rest) (together rest_net)) →
            BatchAgrees key (together (v ∷ rest)) (together (w ∷ rest_net))
        by (Commit v) (Commit w) is same go =
            front_agrees v w _ _ same (by_closing v w same v.closing refl (λ still. go (ap goes_on is ∙ ap not still)))
        by (Again cause) (Again other) is same go = nothing_agrees (BatchRecovers cause) (BatchRecovers other) (ap BatchRecovers same)
        by (Commit v) (Again other) is same go = absurd same
        by (Again cause) (Commit w) is same go = absurd same

  -- a verdict to commit leads from where the judging stands to where it stands next
  commit_leads : (k : ℕ) (v : Carried) → verdict_at key k ≡ Commit v →
      ((state_at key (suc k)).cells ≡ left_behind key v.stores (state_at key k).cells) × ((state_at key (suc k)).steps ≡ (state_at key k).steps + v.steps)
  commit_leads k v e = by (judgement_of key k) refl e
    where
      by : (j : Judgement) → judgement_of key k ≡ j → verdict_by key k j ≡ Commit v →
          ((state_at key (suc k)).cells ≡ left_behind key v.stores (state_at key k).cells) × ((state_at key (suc k)).steps ≡ (state_at key k).steps + v.steps)
      by Unclean is e = absurd (cc e)
      by (Clean a) is e =
          let same : carried a ≡ v = cc e in (
            ap (λ (j : Judgement). (after_judgement key (state_at key k) j).cells) is ∙ ap clear (stores_are_all a.effects (state_at key k).cells)
                ∙ ap (λ (c : Carried). left_behind key c.stores (state_at key k).cells) same,
            ap (λ (j : Judgement). (after_judgement key (state_at key k) j).steps) is ∙ ap (λ (c : Carried). (state_at key k).steps + c.steps) same,
          )

  nothing_leads : (k : ℕ) (ends : BatchEnd) → BatchLeads key k (nothing_but ends)
  nothing_leads k ends = let none : k + 0 ≡ k = omega arith in
      record { cells = ap (λ (n : ℕ). left_behind key [] (state_at key n).cells) none; steps = ap (λ (n : ℕ). (state_at key n).steps) none ∙ omega arith }

  front_leads : (k : ℕ) (v : Carried) (w : BatchVerdict) → verdict_at key k ≡ Commit v → BatchLeads key (k + 1) w → BatchLeads key k (with_front v w)
  front_leads k v w e rest =
      let one = commit_leads k v e in
      let places : k + suc w.iterations ≡ (k + 1) + w.iterations = omega arith in
      let next : k + 1 ≡ suc k = omega arith in
      let stepped : (state_at key (k + 1)).steps ≡ (state_at key k).steps + v.steps = ap (λ (n : ℕ). (state_at key n).steps) next ∙ one.1 in
      let all = rest.steps in
      record {
        cells = ap (λ (n : ℕ). left_behind key [] (state_at key n).cells) places ∙ rest.cells
            ∙ ap (λ (n : ℕ). left_behind key w.stores (state_at key n).cells) next ∙ ap (left_behind key w.stores) one.0
            ∙ sym (left_join v.stores w.stores (state_at key k).cells);
        steps = ap (λ (n : ℕ). (state_at key n).steps) places ∙ all ∙ ap (λ (n : ℕ). n + w.steps) stepped ∙ omega arith;
      }

  -- What is committed of several iterations leads to where the judging stands behind them.
  pub together_leads : (n k : ℕ) → BatchLeads key k (together (map (verdict_at key) (numbers_from k n)))
  together_leads zero k = nothing_leads k BatchGoesOn
  together_leads (suc n) k = by (verdict_at key k) refl (together_leads n (k + 1))
    where
      rest : List Verdict
      rest = map (verdict_at key) (numbers_from (k + 1) n)

      by_closing : (c : Bool) → BatchLeads key (k + 1) (together rest) → BatchLeads key (k + 1) (if c then nothing_but BatchCloses else together rest)
      by_closing true h = nothing_leads (k + 1) BatchCloses
      by_closing false h = h

      by : (v : Verdict) → verdict_at key k ≡ v → BatchLeads key (k + 1) (together rest) → BatchLeads key k (together (v ∷ rest))
      by (Commit v) is h = front_leads k v (if v.closing then nothing_but BatchCloses else together rest) is (by_closing v.closing h)
      by (Again cause) is h = nothing_leads k (BatchRecovers cause)

  leads_alike : (k : ℕ) (v w : BatchVerdict) → BatchAgrees key v w → BatchLeads key k v → BatchLeads key k w
  leads_alike k v w same leads = record {
    cells = ap (λ (n : ℕ). left_behind key [] (state_at key (k + n)).cells) same.iterations ∙ leads.cells ∙ sym (same.stores (state_at key k).cells);
    steps = ap (λ (n : ℕ). (state_at key (k + n)).steps) same.iterations ∙ leads.steps ∙ ap (λ (n : ℕ). (state_at key k).steps + n) (sym same.steps);
  }

  module _ (m : Marks) (agrees : (n : ℕ) → GoesOnTo key n → NetAgrees m key n) where
    pub batch_right : (n k : ℕ) → GoesOnTo key k →
        BatchAgrees key (together (map (verdict_at key) (numbers_from k n))) (together (map (net_verdict_at m key) (numbers_from k n)))
        × BatchLeads key k (together (map (net_verdict_at m key) (numbers_from k n)))
    batch_right n k goes = let same = together_agrees m agrees n k goes in (same, leads_alike k _ _ same (together_leads n k))
