-- What a stage sees when the next iteration starts.
use Rattle.dp_semantics.proofs.Names.{◌&&◌, or-true, ◌≡◌, ◌⊎◌, inl, inr, refl, sym, ap, ◌∙◌, ℕ, suc, ◌<◌, ◌==◌, Bool, true, false, ◌||◌, if◌then◌else◌, List}
use Rattle.dp_semantics.proofs.Names.{[], ◌∷◌, ℤ, pos, length, get_or, nat_lt, slice_set, arith, lt-ltb, le-ltb, eq-eqb, ne_eqb, cases_eq, cases_lt, cases_Bool}
use Rattle.dp_semantics.proofs.Names.{both_ways, get_or-set_other, get_or_past, length-set, get_or-set_at, list_any, VarInfo, Program, Plan, Event, is_local_of}
use Rattle.dp_semantics.proofs.Names.{clear_locals, stage_of, is_replicated, Past, is_local_cell, is_local_at, is_covered, stored_in, pushed, Epoch, cleared}
use Rattle.dp_semantics.proofs.Names.{or_parts, and-false, and-true, or-false}
use Rattle.std.proofs.lemmas.List.{set-get_or}
use Rattle.dp_semantics.proofs.Setting.{Each, each_map}
use Rattle.dp_theorem.proofs.Stepping.{stored_none, seen_alike, seen_base, up_to, Sees}

-- the events stand before iteration n
abbrev pub AllBefore : ℕ → List Past → Type 0
AllBefore n earlier = Each (λ b. b.iteration < n) earlier

pub before_later : (n : ℕ) (earlier : List Past) → AllBefore n earlier → AllBefore (suc n) earlier
before_later n earlier h = each_map (λ b. b.iteration < n) (λ b. b.iteration < suc n) (λ b l. omega (arith, l)) earlier h

pub pushed_before : (n : ℕ) (events : List Event) (earlier : List Past) → AllBefore (suc n) earlier → AllBefore (suc n) (pushed n events earlier)
pushed_before n [] earlier h = h
pushed_before n (event ∷ rest) earlier h = pushed_before n rest (record { iteration = n; event = event } ∷ earlier) (omega arith, h)

module _ (p : Program) (plan : Plan) where
  -- a sequential stage still sees the stores to a cell that isn't local ..
  kept_cover : (s i t j c : ℕ) → is_replicated plan s ≡ false → is_local_at p plan c ≡ false → is_covered p plan s (suc i) t j c ≡ is_covered p plan s i t j c
  kept_cover s i t j c seq loc = rw (seq, loc)

  -- .. and of a local one nothing
  lost_cover : (s i t j c : ℕ) → j < i → is_local_at p plan c ≡ true → is_covered p plan s i t j c ≡ false
  lost_cover s i t j c h loc = simp (loc, ne_eqb j i (λ e. omega (arith, e, h)), and-false)

  up_one : (t s : ℕ) → nat_lt t (suc s) ≡ (nat_lt t s || (t == s))
  up_one t s = elim (cases_lt t (suc s)) [
    | inl h ↦ lt-ltb t (suc s) h ∙ sym (up_to t s h)
    | inr h ↦ rw (le-ltb t (suc s) h, le-ltb t s (omega (arith, h)), ne_eqb t s (λ e. omega (arith, e, h)))
  ]

  -- a replicated stage sees, of the iterations before, what the sequential one before it sees
  replicated_cover : (s i t j c : ℕ) → is_replicated plan s ≡ false → is_replicated plan (suc s) ≡ true → j < i →
      is_covered p plan s i t j c ≡ is_covered p plan (suc s) i t j c
  replicated_cover s i t j c seq rep h = simp (seq, rep, ne_eqb j i (λ e. omega (arith, e, h)), and-true, and-false, or-false, up_one t s)

-- Body locals read 0 after they are cleared, and other cells are as they were.
zero_at : (cells : List ℤ) (c d : ℕ) → d ≡ c → get_or (slice_set cells d (pos 0)) c (pos 0) ≡ pos 0
zero_at cells c d e = elim (cases_lt c (length cells)) [
  | inl h ↦ get_or-set_at cells d c (pos 0) (pos 0) (sym e) (omega (arith, e, h))
  | inr h ↦ get_or_past (slice_set cells d (pos 0)) c (pos 0) (omega (arith, h, length-set cells d (pos 0)))
]

-- the memory after one variable
abbrev one_cleared : ℕ → VarInfo → List ℤ → List ℤ
one_cleared r x cells = if is_local_of r x.scope then slice_set cells x.first.0 (pos 0) else cells

pub clear-at : (r c : ℕ) (vars : List VarInfo) (cells : List ℤ) → (list_any (is_local_cell r c) vars ≡ true) ⊎ (get_or cells c (pos 0) ≡ pos 0) →
    get_or (clear_locals r vars cells) c (pos 0) ≡ pos 0
clear-at r c [] cells (inl e) = absurd (cc)
clear-at r c [] cells (inr e) = e
clear-at r c (x ∷ xs) cells h =
    clear-at r c xs (one_cleared r x cells) (elim (cases_Bool (is_local_of r x.scope)) [
      | inl l ↦
          rw l (by (cases_eq x.first.0 c) (rw l at h))
      | inr l ↦ rw l (rw l at h)
    ])
  where
    by : (x.first.0 ≡ c) ⊎ (x.first.0 ≡ c → ⊥) → (((x.first.0 == c) || list_any (is_local_cell r c) xs) ≡ true) ⊎ (get_or cells c (pos 0) ≡ pos 0) →
        (list_any (is_local_cell r c) xs ≡ true) ⊎ (get_or (slice_set cells x.first.0 (pos 0)) c (pos 0) ≡ pos 0)
    by (inl e) h = inr (zero_at cells c x.first.0 e)
    by (inr e) (inl q) = inl (rw (ne_eqb x.first.0 c e) at q)
    by (inr e) (inr q) = inr (get_or-set_other cells x.first.0 c (pos 0) (pos 0) (λ f. e (sym f)) ∙ q)

pub clear-other : (r c : ℕ) (vars : List VarInfo) (cells : List ℤ) → list_any (is_local_cell r c) vars ≡ false →
    get_or (clear_locals r vars cells) c (pos 0) ≡ get_or cells c (pos 0)
clear-other r c [] cells e = refl
clear-other r c (x ∷ xs) cells e =
    let parts = or_parts (is_local_cell r c x) (list_any (is_local_cell r c) xs) e in
    clear-other r c xs (one_cleared r x cells) parts.1 ∙ elim (cases_Bool (is_local_of r x.scope)) [
      | inl l ↦ rw l (get_or-set_other cells x.first.0 c (pos 0) (pos 0) (λ f. both_ways (x.first.0 == c) (rw l at parts.0) (eq-eqb x.first.0 c (sym f))))
      | inr l ↦ rw l
    ]

-- where the body locals read 0, clearing them changes nothing
pub clear-still : (r : ℕ) (vars : List VarInfo) (cells : List ℤ) → ((c : ℕ) → list_any (is_local_cell r c) vars ≡ true → get_or cells c (pos 0) ≡ pos 0) →
    clear_locals r vars cells ≡ cells
clear-still r [] cells h = refl
clear-still r (x ∷ xs) cells h = elim (cases_Bool (is_local_of r x.scope)) [
  | inl l ↦
      let zero_here : get_or cells x.first.0 (pos 0) ≡ pos 0 = h x.first.0
      (ap (λ (b : Bool). (b && (x.first.0 == x.first.0)) || list_any (is_local_cell r x.first.0) xs) l
      ∙ ap (λ (b : Bool). b || list_any (is_local_cell r x.first.0) xs) (eq-eqb x.first.0 x.first.0 refl)) in
      let same : slice_set cells x.first.0 (pos 0) ≡ cells = ap (slice_set cells x.first.0) (sym zero_here) ∙ set-get_or cells x.first.0 (pos 0) in
      ap (λ (b : Bool). clear_locals r xs (if b then slice_set cells x.first.0 (pos 0) else cells)) l ∙ ap (clear_locals r xs) same
      ∙ clear-still r xs cells (λ c e. h c (later c e))
  | inr l ↦ ap (λ (b : Bool). clear_locals r xs (if b then slice_set cells x.first.0 (pos 0) else cells)) l ∙ clear-still r xs cells (λ c e. h c (later c e))
]
  where
    later : (c : ℕ) → list_any (is_local_cell r c) xs ≡ true → (is_local_cell r c x || list_any (is_local_cell r c) xs) ≡ true
    later c e = ap (λ (b : Bool). is_local_cell r c x || b) e ∙ or-true (is_local_cell r c x)

-- the memory has its body locals at 0
abbrev pub Cleared : Program → Plan → List ℤ → Type 0
Cleared p plan cells = (c : ℕ) → is_local_at p plan c ≡ true → get_or cells c (pos 0) ≡ pos 0

module _ (k : Epoch) (s i : ℕ) (earlier : List Past) (cells : List ℤ) where
  open k use {program, plan, base}

  -- a replicated stage starts from what the sequential one before it saw before the iteration
  pub sees_replicated : is_replicated plan s ≡ false → is_replicated plan (suc s) ≡ true → AllBefore i earlier → Sees k s i earlier cells →
      Sees k (suc s) i earlier cells
  sees_replicated seq rep before sees c =
      sees c ∙ seen_alike program plan base s i (suc s) i c earlier
      (each_map (λ b. b.iteration < i) _ (λ b l. ap (λ (u : Bool). stored_in u c b.event.effect)
      (replicated_cover program plan s i (stage_of program plan b.event.site) b.iteration c seq rep l)) earlier before)

  -- a sequential stage's memory with its body locals cleared is what it sees when the next iteration starts
  pub sees_next : is_replicated plan s ≡ false → Cleared program plan base → AllBefore (suc i) earlier → Sees k s i earlier cells →
      Sees k s (suc i) earlier (cleared k cells)
  sees_next seq clean before sees c = elim (cases_Bool (is_local_at program plan c)) [
    | inl e ↦ clear-at plan.region c program.vars cells (inl e) ∙ sym (clean c e)
        ∙ sym (seen_base program plan base s (suc i) c earlier (each_map (λ b. b.iteration < suc i) _
        (λ b l. ap (λ (u : Bool). stored_in u c b.event.effect) (lost_cover program plan s (suc i) (stage_of program plan b.event.site) b.iteration c l e)
        ∙ stored_none c b.event.effect) earlier before))
    | inr e ↦ clear-other plan.region c program.vars cells e ∙ sees c
        ∙ sym (seen_alike program plan base s (suc i) s i c earlier (each_map (λ b. b.iteration < suc i) _
        (λ b l. ap (λ (u : Bool). stored_in u c b.event.effect) (kept_cover program plan s i (stage_of program plan b.event.site) b.iteration c seq e)) earlier
        before))
  ]
