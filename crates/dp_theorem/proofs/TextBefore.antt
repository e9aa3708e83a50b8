-- Within an iteration a site that stands before another in the text, in no loop with it, isn't reached after it.
use Rattle.dp_semantics.proofs.Names.{opened_statement, ◌≡◌, ◌⊎◌, inl, inr, refl, sym, ap, ◌∙◌, subst, ℕ, suc, ◌<◌, ◌==◌, Bool, true, false, ◌&&◌, not}
use Rattle.dp_semantics.proofs.Names.{if◌then◌else◌, List, [], ◌∷◌, ◌++◌, ℤ, arith, both_ways, cases_Bool, cases_eq, eq-eqb, ne_eqb, not-true, list_any}
use Rattle.dp_semantics.proofs.Names.{flat_map, flat_map-append, append-nil, append_assoc, and_parts, is_zero, Stmt, out-Stmt, outs-If, roll-Stmt}
use Rattle.dp_semantics.proofs.Names.{roll-out-Stmt, hidden-the_row-Stmt-0, rolls-Assign, rolls-Store, rolls-Print, rolls-If, rolls-While, rolls-Region}
use Rattle.dp_semantics.proofs.Names.{rolls-Break, rolls-Call, Stmt-F, Assign, Store, Print, If, While, Region, Break, Call, site_of, Program, Plan, Event}
use Rattle.dp_semantics.proofs.Names.{Past, followed, behind_region, value_of, Access, accesses, region_in, well_nested}
use Rattle.dp_tree.specs.declared.Stmt.TheVariants as tree
use Rattle.dp_semantics.proofs.Followed.{Joins, Parts, followed_has, all_joins}
use Rattle.dp_semantics.proofs.Heads.{accesses_roll}
use Rattle.dp_semantics.proofs.Setting.{Accepted, Each, each_map, each_split, each_join, none_of, accesses_all, accesses_at, accesses_out, head_access, inside}
use Rattle.dp_semantics.proofs.Setting.{all_well, well_at, well_out, turn_of}
use Rattle.dp_semantics.proofs.Ways.{Goes, stays, goes, Before, fresh_start, went_on, Here}
use Rattle.dp_theorem.proofs.Stepping.{well_parts, each_joins, each_parts}
use Rattle.dp_theorem.proofs.Projected.{well_left}
use Rattle.dp_theorem.proofs.Whole.{turn_well}
use Rattle.dp_theorem.proofs.Unmet.{pushed_each}
use Rattle.dp_tree.proofs.Asked.{asked_hidden}
use Rattle.dp_plan.specs.Checked.{has_site, has_both, loop_at, loops, loops_in, share_a_loop, behind_site, comes_before}

-- The loops of a statement by its head.
abbrev loops_all : List Stmt → List (List Access)
loops_all xs = flat_map loops xs

abbrev loops_at : Stmt-F Stmt → List (List Access)
loops_at (If site cond a b) = loops_all a ++ loops_all b
loops_at (While site cond a) = accesses_at (While site cond a) ∷ loops_all a
loops_at (Region r site cond a) = loops_all a
loops_at _ = []

loops_hidden : (xs : List Stmt) → loops_in (hidden-the_row-Stmt-0 xs) ≡ loops_all xs
loops_hidden xs = asked_hidden loop_at xs

loops_roll : (h : Stmt-F Stmt) → loops (roll-Stmt h) ≡ loops_at h
unfolding opened_statement
loops_roll (Assign site x e) = ap loops (rolls-Assign site x e)
loops_roll (Store site x index e) = ap loops (rolls-Store site x index e)
loops_roll (Print site e) = ap loops (rolls-Print site e)
loops_roll (If site cond a b) = rw (rolls-If site cond a b, loops_hidden a, loops_hidden b)
loops_roll (While site cond a) =
    ap loops (rolls-While site cond a) ∙ ap (λ (xs : List Access). xs ∷ loops_in (hidden-the_row-Stmt-0 a)) (sym (ap accesses (rolls-While site cond a))
    ∙ accesses_roll (While site cond a)) ∙ ap (λ (ls : List (List Access)). accesses_at (While site cond a) ∷ ls) (loops_hidden a)
loops_roll (Region r site cond a) = ap loops (rolls-Region r site cond a) ∙ loops_hidden a
loops_roll (Break site cond) = ap loops (rolls-Break site cond)
loops_roll (Call f line args) = ap loops (rolls-Call f line args)

loops_out : (x : Stmt) → loops x ≡ loops_at (out-Stmt x)
loops_out x = ap loops (sym (roll-out-Stmt x)) ∙ loops_roll (out-Stmt x)

module _ (u d : ℕ) (differ : u ≡ d → ⊥) where
  -- none of these is site u
  abbrev NoU : List Access → Type 0
  NoU xs = Each (λ (c : Access). c.site ≡ u → ⊥) xs

  -- site u isn't behind site d
  abbrev NotBehind : List Access → Type 0
  NotBehind [] = Unit {0}
  NotBehind (c ∷ rest) = (c.site ≡ d → NoU rest) × NotBehind rest

  -- no loop has both
  abbrev Fine : List (List Access) → Type 0
  Fine ls = Each (λ (l : List Access). has_both u d l ≡ false) ls

  abbrev LoopsFine : List Stmt → Type 0
  LoopsFine xs = Fine (loops_all xs)

  fine_joins : Joins LoopsFine
  fine_joins = record {
    join = λ a b h k. subst Fine (sym (flat_map-append loops a b)) (each_join _ (loops_all a) (loops_all b) h k);
    rest = λ x a h. (each_split _ (loops x) (loops_all a) h).1;
  }

  fine_parts : (h : Stmt-F Stmt) → Fine (loops_at h) → Parts LoopsFine h
  fine_parts (If site cond a b) e = each_split _ (loops_all a) (loops_all b) e
  fine_parts (While site cond a) e = e.1
  fine_parts (Region r site cond a) e = e
  fine_parts _ e = tt

  behind_drop : (a b : List Access) → NotBehind (a ++ b) → NotBehind b
  behind_drop [] b h = h
  behind_drop (c ∷ a) b h = behind_drop a b h.1

  -- without what stands between
  behind_without : (a b c : List Access) → NotBehind (a ++ (b ++ c)) → NotBehind (a ++ c)
  behind_without [] b c h = behind_drop b c h
  behind_without (x ∷ a) b c h = ((λ e. let q = each_split _ a (b ++ c) (h.0 e) in each_join _ a c q.0 (each_split _ b c q.1).1), behind_without a b c h.1)

  -- before other statements in the place of those behind
  behind_other : (a b c : List Access) → NotBehind (a ++ b) → (NoU b → NoU c) → NotBehind c → NotBehind (a ++ c)
  behind_other [] b c h f k = k
  behind_other (x ∷ a) b c h f k = ((λ e. let q = each_split _ a b (h.0 e) in each_join _ a c q.0 (f q.1)), behind_other a b c h.1 f k)

  -- where none of them is site d
  behind_none : (a c : List Access) → Each (λ (x : Access). x.site ≡ d → ⊥) a → NotBehind c → NotBehind (a ++ c)
  behind_none [] c h k = k
  behind_none (x ∷ a) c h k = ((λ e. absurd (h.0 e)), behind_none a c h.1 k)

  none_is : (n : ℕ) (xs : List Access) → has_site n xs ≡ false → Each (λ (x : Access). x.site ≡ n → ⊥) xs
  none_is n xs e = each_map (λ (x : Access). (x.site == n) ≡ false) _ (λ x f q. both_ways (x.site == n) f (eq-eqb x.site n q)) xs
      (none_of (λ (x : Access). x.site == n) xs e)

  -- a loop once more
  again : (h0 : Access) (body rest : List Access) → has_both u d (h0 ∷ body) ≡ false → NotBehind ((h0 ∷ body) ++ rest) →
      NotBehind (body ++ ((h0 ∷ body) ++ rest))
  again h0 body rest fine h = elim (cases_Bool (has_site u (h0 ∷ body))) [
    | inl t ↦
        let none : has_site d (h0 ∷ body) ≡ false = ap (λ (b : Bool). b && has_site d (h0 ∷ body)) (sym t) ∙ fine in
        behind_none body ((h0 ∷ body) ++ rest) (none_is d (h0 ∷ body) none).1 h
    | inr f ↦ behind_other body rest ((h0 ∷ body) ++ rest) h.1 (λ q. each_join _ (h0 ∷ body) rest (none_is u (h0 ∷ body) f) q) h
  ]

  module _ (p : Program) (plan : Plan) (input : List ℤ) where
    -- a step keeps the order
    next_behind : (x : Stmt) (rest : List Stmt) (h : Stmt-F Stmt) (z : ℤ) → well_at p plan h ≡ true → all_well p plan rest ≡ true → accesses x ≡ accesses_at h →
        Fine (loops_at h) → NotBehind (accesses_at h ++ accesses_all rest) → NotBehind (accesses_all (followed x rest h z))
    next_behind x rest (If site cond a b) z w more is fine n = elim (cases_Bool (is_zero z)) [
      | inl e ↦ subst (λ (t : Bool). NotBehind (accesses_all ((if t then b else a) ++ rest))) (sym e)
          (subst NotBehind (sym (flat_map-append accesses b rest)) (behind_drop (accesses_all a) (accesses_all b ++ accesses_all rest)
          (subst NotBehind (append_assoc (accesses_all a) (accesses_all b) (accesses_all rest)) n.1)))
      | inr e ↦ subst (λ (t : Bool). NotBehind (accesses_all ((if t then b else a) ++ rest))) (sym e)
          (subst NotBehind (sym (flat_map-append accesses a rest)) (behind_without (accesses_all a) (accesses_all b) (accesses_all rest)
          (subst NotBehind (append_assoc (accesses_all a) (accesses_all b) (accesses_all rest)) n.1)))
    ]
    next_behind x rest (While site cond a) z w more is fine n = elim (cases_Bool (is_zero z)) [
      | inl e ↦ subst (λ (t : Bool). NotBehind (accesses_all (if t then rest else a ++ x ∷ rest))) (sym e)
          (behind_drop (accesses_all a) (accesses_all rest) n.1)
      | inr e ↦ subst (λ (t : Bool). NotBehind (accesses_all (if t then rest else a ++ x ∷ rest))) (sym e)
          (subst NotBehind (sym (flat_map-append accesses a (x ∷ rest))) (subst (λ (xs : List Access). NotBehind (accesses_all a ++ (xs ++ accesses_all rest)))
          (sym is) (again (head_access (While site cond a)) (accesses_all a) (accesses_all rest) fine.0 n)))
    ]
    next_behind x rest (Region r site cond a) z w more is fine n = absurd (cc)
    next_behind x rest (Call f line args) z w more is fine n = absurd (cc)
    next_behind x rest (Break site cond) z w more is fine n = elim (cases_Bool (is_zero z)) [
      | inl e ↦ subst (λ (t : Bool). NotBehind (accesses_all (if t then rest else behind_region rest))) (sym e) n.1
      | inr e ↦ subst (λ (t : Bool). NotBehind (accesses_all (if t then rest else behind_region rest))) (sym e)
          (subst (λ (ys : List Stmt). NotBehind (accesses_all ys)) (sym (well_left p plan rest more)) tt)
    ]
    next_behind x rest _ z w more is fine n = n.1

    none_after : {to_do : List Stmt} {cells : List ℤ} {events : List Event} {after : List Stmt} {then_cells : List ℤ} →
        Goes p input to_do cells events after then_cells → all_well p plan to_do ≡ true → NoU (accesses_all to_do) → NoU (accesses_all after)
    none_after stays w n = n
    none_after (goes {x = x} {rest = rest} {v = v} e path) w n =
        let both = and_parts (well_nested p plan x) (all_well p plan rest) w in
        let head : well_at p plan (out-Stmt x) ≡ true = sym (well_out p plan x) ∙ both.0 in
        let split = each_split _ (accesses x) (accesses_all rest) n in
        none_after path (followed_has (λ xs. all_well p plan xs ≡ true) (all_joins (well_nested p plan)) x rest (out-Stmt x) (value_of v.value) w both.1
        (well_parts p plan (out-Stmt x) head))
        (followed_has (λ xs. NoU (accesses_all xs)) (each_joins (λ (c : Access). c.site ≡ u → ⊥)) x rest (out-Stmt x) (value_of v.value) n split.1
        (each_parts (λ (c : Access). c.site ≡ u → ⊥) (out-Stmt x) (subst NoU (accesses_out x) split.0)))

    well_some : (h : Stmt-F Stmt) → well_at p plan h ≡ true → accesses_at h ≡ head_access h ∷ inside h
    well_some (Call f line args) w = absurd (cc)
    well_some _ w = refl

    -- site d isn't among the events, or site u isn't reached any more
    kept_order : {to_do : List Stmt} {cells : List ℤ} {events : List Event} {after : List Stmt} {then_cells : List ℤ} →
        Goes p input to_do cells events after then_cells → all_well p plan to_do ≡ true → LoopsFine to_do → NotBehind (accesses_all to_do) →
        Each (λ (e : Event). e.site ≡ d → ⊥) events ⊎ NoU (accesses_all after)
    kept_order stays w fine n = inl tt
    kept_order (goes {x = x} {rest = rest} {v = v} e path) w fine n =
        let both = and_parts (well_nested p plan x) (all_well p plan rest) w in
        let head : well_at p plan (out-Stmt x) ≡ true = sym (well_out p plan x) ∙ both.0 in
        let next_well = followed_has (λ xs. all_well p plan xs ≡ true) (all_joins (well_nested p plan)) x rest (out-Stmt x) (value_of v.value) w both.1
        (well_parts p plan (out-Stmt x) head) in
        let loop = each_split _ (loops x) (loops_all rest) fine in
        let fine_head : Fine (loops_at (out-Stmt x)) = subst Fine (loops_out x) loop.0 in
        let order : NotBehind (accesses_at (out-Stmt x) ++ accesses_all rest) = subst (λ (xs : List Access). NotBehind (xs ++ accesses_all rest))
        (accesses_out x) n in
        elim (cases_eq (site_of (out-Stmt x)).0 d) [
          | inl here ↦
              let listed : NotBehind (head_access (out-Stmt x) ∷ (inside (out-Stmt x) ++ accesses_all rest)) = subst
              (λ (xs : List Access). NotBehind (xs ++ accesses_all rest)) (well_some (out-Stmt x) head) order in
              let all : NoU (accesses_at (out-Stmt x) ++ accesses_all rest) = subst (λ (xs : List Access). NoU (xs ++ accesses_all rest))
              (sym (well_some (out-Stmt x) head)) ((λ q. differ (sym q ∙ here)), listed.0 here) in
              let none : NoU (accesses_all (x ∷ rest)) = subst (λ (xs : List Access). NoU (xs ++ accesses_all rest)) (sym (accesses_out x)) all in
              let split = each_split _ (accesses_at (out-Stmt x)) (accesses_all rest) all in
              inr (none_after path next_well (followed_has (λ xs. NoU (accesses_all xs)) (each_joins (λ (c : Access). c.site ≡ u → ⊥)) x rest (out-Stmt x)
              (value_of v.value) none split.1 (each_parts (λ (c : Access). c.site ≡ u → ⊥) (out-Stmt x) split.0)))
          | inr other ↦ elim (kept_order path next_well (followed_has LoopsFine fine_joins x rest (out-Stmt x) (value_of v.value) fine loop.1
              (fine_parts (out-Stmt x) fine_head)) (next_behind x rest (out-Stmt x) (value_of v.value) head both.1 (accesses_out x) fine_head order)) [
                | inl each ↦ inl (other, each)
                | inr none ↦ inr none
              ]
        ]

  -- from the test of the text
  not_behind : (xs : List Access) → has_site u (behind_site d xs) ≡ false → NotBehind xs
  not_behind [] e = tt
  not_behind (c ∷ rest) e = elim (cases_eq c.site d) [
    | inl here ↦
        let none : NoU rest = none_is u rest (ap (λ (b : Bool). has_site u (if b then rest else behind_site d rest)) (sym (eq-eqb c.site d here)) ∙ e) in
        ((λ q. none), quiet rest none)
    | inr other ↦ (
      (λ q. absurd (other q)),
      not_behind rest (ap (λ (b : Bool). has_site u (if b then rest else behind_site d rest))
          (sym (ne_eqb c.site d other)) ∙ e),
    )
  ]
    where
      quiet : (ys : List Access) → NoU ys → NotBehind ys
      quiet [] n = tt
      quiet (y ∷ ys) n = ((λ q. n.1), quiet ys n.1)

pub goes_well : (p : Program) (plan : Plan) {input : List ℤ} {to_do : List Stmt} {cells : List ℤ} {events : List Event} {after : List Stmt}
    {then_cells : List ℤ} → Goes p input to_do cells events after then_cells → all_well p plan to_do ≡ true → all_well p plan after ≡ true
goes_well p plan stays w = w
goes_well p plan (goes {x = x} {rest = rest} {v = v} e path) w =
    let both = and_parts (well_nested p plan x) (all_well p plan rest) w in
    let head : well_at p plan (out-Stmt x) ≡ true = sym (well_out p plan x) ∙ both.0 in
    goes_well p plan path (followed_has (λ xs. all_well p plan xs ≡ true) (all_joins (well_nested p plan)) x rest (out-Stmt x) (value_of v.value) w both.1
    (well_parts p plan (out-Stmt x) head))

-- What stands before in the text isn't reached after it in an iteration.
pub in_order : {p : Program} {plan : Plan} (a : Accepted p plan) (input : List ℤ) (i : ℕ) (x : Stmt) (rest : List Stmt) (earlier : List Past) (cells : List ℤ) →
    Here p input plan.region (turn_of a) i (x ∷ rest) earlier cells →
    (d : ℕ) → Each (λ past. past.event.site ≡ d → comes_before p plan.region (site_of (out-Stmt x)).0 d ≡ true → past.iteration ≡ i → ⊥) earlier
in_order {p} {plan} a input i x rest earlier cells h d = elim (cases_Bool (comes_before p plan.region u d)) [
  | inl t ↦ subst (λ (ps : List Past). Each Ordered ps) (sym h.earlier_is) (pushed_each Ordered i h.done h.before (this_one t)
      (each_map (λ (past : Past). past.iteration < i) Ordered (λ past low at before now. absurd (omega (arith, low, now))) h.before (all_before h.chain)))
  | inr f ↦ never f earlier
]
  where
    u : ℕ
    u = (site_of (out-Stmt x)).0

    head : well_at p plan (out-Stmt x) ≡ true
    head = sym (well_out p plan x) ∙ (and_parts (well_nested p plan x) (all_well p plan rest) (goes_well p plan h.path (turn_well a))).0

    Ordered : Past → Type 0
    Ordered past = past.event.site ≡ d → comes_before p plan.region u d ≡ true → past.iteration ≡ i → ⊥

    never : comes_before p plan.region u d ≡ false → (ps : List Past) → Each Ordered ps
    never f [] = tt
    never f (past ∷ ps) = ((λ at before now. both_ways (comes_before p plan.region u d) f before), never f ps)

    all_before : {j : ℕ} {before : List Past} {cs : List ℤ} → Before p input plan.region (turn_of a) j before cs →
        Each (λ (past : Past). past.iteration < j) before
    all_before fresh_start = tt
    all_before (went_on {i = j} {before = before} {events = events} chain path going size is next) =
        subst (λ (ps : List Past). Each (λ (past : Past). past.iteration < suc j) ps) (sym is)
        (pushed_each (λ (past : Past). past.iteration < suc j) j events before (this events) (each_map (λ (past : Past). past.iteration < j) _
        (λ past low. omega (arith, low)) before (all_before chain)))
      where
        this : (es : List Event) → Each (λ (e : Event). j < suc j) es
        this [] = tt
        this (e ∷ es) = (omega arith, this es)

    this_one : comes_before p plan.region u d ≡ true → Each (λ (e : Event). Ordered (record { iteration = i; event = e })) h.done
    this_one t = by (kept_order u d differ p plan input h.path (turn_well a) fine order)
      where
        one : (not (u == d) ≡ true)
            × ((not (has_site u (behind_site d (flat_map accesses (region_in p plan.region)))) && not (share_a_loop p plan.region u d)) ≡ true)
        one = and_parts (not (u == d)) _ t

        two : (not (has_site u (behind_site d (flat_map accesses (region_in p plan.region)))) ≡ true) × (not (share_a_loop p plan.region u d) ≡ true)
        two = and_parts _ _ one.1

        differ : u ≡ d → ⊥
        differ e = both_ways (u == d) (not-true (u == d) one.0) (eq-eqb u d e)

        turn_accesses : flat_map accesses (region_in p plan.region) ≡ accesses_all (turn_of a)
        turn_accesses = ap accesses_all a.region ∙ ap (λ xs. xs ++ []) (accesses_out a.statement ∙ ap accesses_at a.is) ∙ again_one
            ∙ sym (ap (λ xs. xs ++ []) (accesses_out (tree.If a.site a.cond a.body []) ∙ ap accesses_at (outs-If a.site a.cond a.body [])))
          where
            again_one : accesses_at (Region plan.region a.site a.cond a.body) ++ [] ≡ accesses_at (If a.site a.cond a.body []) ++ []
            again_one = ap (λ (xs : List Access). head_access (Region plan.region a.site a.cond a.body) ∷ xs)
                (sym (ap (λ (xs : List Access). xs ++ []) (append-nil (accesses_all a.body))))

        order : NotBehind u d differ (accesses_all (turn_of a))
        order = not_behind u d differ (accesses_all (turn_of a)) (ap (λ (xs : List Access). has_site u (behind_site d xs))
            (sym turn_accesses) ∙ not-true _ two.0)

        turn_loops : flat_map loops (region_in p plan.region) ≡ loops_all (turn_of a)
        turn_loops = ap loops_all a.region ∙ ap (λ (ls : List (List Access)). ls ++ []) (loops_out a.statement ∙ ap loops_at a.is)
            ∙ sym (ap (λ (ls : List (List Access)). ls ++ []) (loops_out (tree.If a.site a.cond a.body []) ∙ ap loops_at (outs-If a.site a.cond a.body [])
            ∙ append-nil (loops_all a.body)))

        fine : LoopsFine u d differ (turn_of a)
        fine = none_of (has_both u d) (loops_all (turn_of a)) (ap (list_any (has_both u d)) (sym turn_loops) ∙ not-true (share_a_loop p plan.region u d) two.1)

        by : Each (λ (e : Event). e.site ≡ d → ⊥) h.done ⊎ NoU u d differ (accesses_all (x ∷ rest)) →
            Each (λ (e : Event). Ordered (record { iteration = i; event = e })) h.done
        by (inl each) = each_map (λ (e : Event). e.site ≡ d → ⊥) _ (λ e n at before now. n at) h.done each
        by (inr none) = absurd (here (subst (λ (xs : List Access). NoU u d differ xs) (accesses_out x ∙ well_some u d differ p plan input (out-Stmt x) head)
            (each_split _ (accesses x) (accesses_all rest) none).0))
          where
            here : NoU u d differ (head_access (out-Stmt x) ∷ inside (out-Stmt x)) → ⊥
            here q = q.0 refl
