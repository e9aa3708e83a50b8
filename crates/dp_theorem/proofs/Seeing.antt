-- What a stage sees: how a step changes it, and where it is what the stage after the last one sees, which is the source's memory.
use Rattle.dp_semantics.proofs.Names.{is_apart, is_apart_between, comes_before, cases_Bool, subst, ◌≡◌, inl, inr, refl, sym, ap, ◌∙◌, ℕ, suc, ◌<◌, ◌==◌, Bool}
use Rattle.dp_semantics.proofs.Names.{true, false, not, ◌&&◌, ◌||◌, List, [], ◌∷◌, ℤ, pos, length, get_or, nat_lt, Option, None, unwrap_or, arith, ltb-false}
use Rattle.dp_semantics.proofs.Names.{lt-ltb, le-ltb, eq-eqb, eqb-true, and_parts, ne_eqb, cases_eq, get_or-set_other, get_or-set_at, list_any, Program, Plan}
use Rattle.dp_semantics.proofs.Names.{Event, Effect, Stored, stored, Access, stage_of, is_replicated, is_body_local, stores_var, is_same_variable}
use Rattle.dp_semantics.proofs.Names.{region_accesses, is_stored_after, is_stored_beside, may_differ, Past, is_local_at, is_covered, stored_in, covered_value}
use Rattle.dp_semantics.proofs.Names.{seen, Epoch, last, or_parts, and-false, and-true, and_self, or-true}
use Rattle.dp_plan.specs.IsFar.{is_far, is_far_within}
use Rattle.dp_semantics.proofs.Setting.{each_both, NotInto, Apart, Fit, StoredBy, Known, Each, each_map, InVar}
pub use Rattle.dp_tree.proofs.InMain.{stored_length as stored-length}

-- What an effect stores into a cell.
pub stored_none : (c : ℕ) (effect : Effect) → stored_in false c effect ≡ None
stored_none c (Stored d value) = rw (and-false (d == c))
stored_none c _ = refl

-- it is seen alike where a store into that cell is
stored_alike : (c : ℕ) (a b : Bool) (effect : Effect) → ((value : ℤ) → effect ≡ Stored c value → a ≡ b) → stored_in a c effect ≡ stored_in b c effect
stored_alike c a b (Stored d value) h =
    elim (cases_eq d c) [ inl e ↦ ap (λ (u : Bool). stored_in u c (Stored d value)) (h value (ap (λ (n : ℕ). Stored n value) e)) | inr e ↦ rw (ne_eqb d c e) ]
stored_alike c a b _ h = refl

-- a store is what the cell then reads
stored_read : (c : ℕ) (effect : Effect) (cells : List ℤ) → ((value : ℤ) → effect ≡ Stored c value → c < length cells) →
    get_or (stored effect cells) c (pos 0) ≡ unwrap_or (stored_in true c effect) (get_or cells c (pos 0))
stored_read c (Stored d value) cells h = elim (cases_eq d c) [
  | inl e ↦ rw (eq-eqb d c e) (get_or-set_at cells d c value (pos 0) (sym e)
      (let low : c < length cells = h value (ap (λ (n : ℕ). Stored n value) e) in omega (arith, e, low)))
  | inr e ↦ rw (ne_eqb d c e) (get_or-set_other cells d c value (pos 0) (λ q. e (sym q)))
]
stored_read c _ cells h = refl

module _ (p : Program) (plan : Plan) (base : List ℤ) where
  -- two stages, each in its iteration, see the same where they see the same of each event
  pub seen_alike : (s i u j c : ℕ) (earlier : List Past) → Each (λ past. covered_value p plan s i c past ≡ covered_value p plan u j c past) earlier →
      seen p plan base s i earlier c ≡ seen p plan base u j earlier c
  seen_alike s i u j c [] h = refl
  seen_alike s i u j c (past ∷ earlier) h =
      ap (λ (o : Option ℤ). unwrap_or o (seen p plan base s i earlier c)) h.0 ∙ ap (λ (z : ℤ). unwrap_or (covered_value p plan u j c past) z)
      (seen_alike s i u j c earlier h.1)

  pub seen_base : (s i c : ℕ) (earlier : List Past) → Each (λ past. covered_value p plan s i c past ≡ None) earlier →
      seen p plan base s i earlier c ≡ get_or base c (pos 0)
  seen_base s i c [] h = refl
  seen_base s i c (past ∷ earlier) h = ap (λ (o : Option ℤ). unwrap_or o (seen p plan base s i earlier c)) h.0 ∙ seen_base s i c earlier h.1

pub up_to : (t s : ℕ) → t < suc s → (nat_lt t s || (t == s)) ≡ true
up_to t s h = elim (cases_eq t s) [ inl e ↦ rw (eq-eqb t s e, or-true (nat_lt t s)) | inr e ↦ rw (lt-ltb t s (omega (arith, h, e))) ]

module _ (p : Program) (plan : Plan) where
  -- an event of this iteration at a stage up to s is covered, and one of a later stage isn't
  now_covered : (s i t c : ℕ) → t < suc s → is_covered p plan s i t i c ≡ true
  now_covered s i t c h = simp (eq-eqb i i refl, or-true, and-true, up_to t s h)

  not_covered : (s i t j c : ℕ) → s < t → is_covered p plan s i t j c ≡ false
  not_covered s i t j c h = rw (le-ltb t s (omega (arith, h)), ne_eqb t s (λ e. omega (arith, e, h)))

  -- a store of a variable of which s sees what the source has
  covered_same : (s i t j c x : ℕ) (a : Access) → stores_var x a ≡ true → stage_of p plan a.site ≡ t → t < last plan →
      is_local_at p plan c ≡ is_body_local p plan x → is_stored_after p plan s x a ≡ false → is_stored_beside p plan s x a ≡ false →
      is_covered p plan s i t j c ≡ is_covered p plan (last plan) i t j c
  covered_same s i t j c x a st at h loc after beside =
      rw (lt-ltb t (last plan) h) (alike (nat_lt t s) (t == s) (is_replicated plan s) (j == i) (is_local_at p plan c)
      (up_to t s (omega (arith, ltb-false s t (rw (st, at) at after)))) (λ e f. rw loc (own (is_body_local p plan x) (rw (st, at, e, f) at beside))))
    where
      own : (l : Bool) → not l ≡ false → l ≡ true
      own true e = refl
      own false e = absurd (cc)

      alike : (lt eq rep now loc : Bool) → (lt || eq) ≡ true → (eq ≡ true → rep ≡ true → loc ≡ true) →
          ((lt || (eq && (not rep || now))) && (not loc || now)) ≡ (not loc || now)
      alike true eq rep now loc e f = refl
      alike false true false now loc e f = refl
      alike false true true now loc e f = rw (f refl refl) (and_self now)
      alike false false rep now loc e f = absurd (cc)

-- the memory of stage s in iteration i, after these events
abbrev pub Sees : Epoch → ℕ → ℕ → List Past → List ℤ → Type 0
Sees k s i earlier cells = (c : ℕ) → get_or cells c (pos 0) ≡ seen k.program k.plan k.base s i earlier c

module _ {k : Epoch} (ok : Fit k) where
  open k use {program, plan, base}

  forced : (b c : Bool) → (b && not c) ≡ false → b ≡ true → c ≡ true
  forced true true e h = refl
  forced true false e h = absurd (cc)
  forced false c e h = absurd (cc)

  -- a store beside is one of the stage itself
  same_stage : (s x : ℕ) (a : Access) → is_stored_beside program plan s x a ≡ true → stage_of program plan a.site ≡ s
  same_stage s x a e =
      let one = and_parts (stores_var x a && is_replicated plan s && (stage_of program plan a.site == s)) (not (is_body_local program plan x)) e in
      eqb-true (stage_of program plan a.site) s (and_parts (stores_var x a && is_replicated plan s) (stage_of program plan a.site == s) one.0).1

  -- Of a variable that needs no check a stage sees what the source has, in a cell into which no site that lies apart stored.
  pub seen_same : (s u i x c : ℕ) → InVar program x c → may_differ program plan s u x ≡ false → (earlier : List Past) → Each (Known k) earlier →
      Each (NotInto program plan.region u i c) earlier →
      seen program plan base s i earlier c ≡ seen program plan base (last plan) i earlier c
  seen_same s u i x c inside settled earlier known apart =
      seen_alike program plan base s i (last plan) i c earlier (each_map (λ past. Known k past × NotInto program plan.region u i c past) _
      (λ past from. stored_alike c _ _ past.event.effect (λ value e. here past (from.0 c value e) (λ lies. from.1 lies value e))) earlier
      (each_both (Known k) (NotInto program plan.region u i c) earlier known apart))
    where
      here : (past : Past) → StoredBy k past.event.site c → (Apart program plan.region u i past → ⊥) →
          is_covered program plan s i (stage_of program plan past.event.site) past.iteration c ≡ is_covered program plan (last plan) i
          (stage_of program plan past.event.site) past.iteration c
      here past by never = elim (cases_Bool (is_stored_after program plan s x by.access)) [
        | inl after ↦
            let both = and_parts (is_apart_between program plan u by.access.site) (is_far_within program plan.region by.access.site u || comes_before program
            plan.region u by.access.site) (forced (is_stored_after program plan s x by.access) (is_apart program plan u by.access.site) not_after after) in
            let far = and_parts plan.proved (is_far program plan.region by.access.site u) both.0 in
            absurd (never (record {
              far = ap (λ (d : ℕ). is_far program plan.region d u) (sym by.at) ∙ far.1;
              within = λ e. ap (λ (d : ℕ). is_far_within program
                  plan.region d u || comes_before program plan.region u d) (sym by.at) ∙ both.1;
            }))
        | inr none ↦ elim (cases_Bool (is_stored_beside program plan s x by.access)) [
          | inl beside ↦
              let far = and_parts plan.proved (is_far program plan.region by.access.site u) (forced (is_stored_beside program plan s x by.access)
              (is_apart_between program plan u by.access.site) not_beside beside) in
              elim (cases_eq past.iteration i) [
                | inl now ↦
                    let stage : stage_of program plan past.event.site ≡ s = ap (stage_of program plan) (sym by.at) ∙ same_stage s x by.access beside in
                    subst (λ (j : ℕ). is_covered program plan s i (stage_of program plan past.event.site) j c ≡ is_covered program plan (last plan) i
                    (stage_of program plan past.event.site) j c) (sym now)
                    (now_covered program plan s i (stage_of program plan past.event.site) c (omega (arith, stage))
                    ∙ sym (now_covered program plan (last plan) i (stage_of program plan past.event.site) c (omega (arith, by.early))))
                | inr other ↦ absurd
                    (never (record { far = ap (λ (d : ℕ). is_far program plan.region d u) (sym by.at) ∙ far.1; within = λ e. absurd (other e) }))
              ]
          | inr neither ↦
              let same : x ≡ by.variable = ok.accepted.laid.apart x by.variable c inside by.inside in
              covered_same program plan s i (stage_of program plan past.event.site) past.iteration c x by.access
              (ap (is_same_variable x) by.stores ∙ eq-eqb x by.variable same) (ap (stage_of program plan) by.at) by.early
              (ok.accepted.laid.local x c inside) none neither
        ]
      ]
        where
          differs : (list_any (λ (d : Access). is_stored_after program plan s x d && not (is_apart program plan u d.site)) (region_accesses program plan)
              ≡ false) × (list_any (λ (d : Access). is_stored_beside program plan s x d && not (is_apart_between program plan u d.site))
              (region_accesses program plan) ≡ false)
          differs = or_parts _ _ settled

          not_after : (is_stored_after program plan s x by.access && not (is_apart program plan u by.access.site)) ≡ false
          not_after = by.listed (λ (d : Access). is_stored_after program plan s x d && not (is_apart program plan u d.site)) differs.0

          not_beside : (is_stored_beside program plan s x by.access && not (is_apart_between program plan u by.access.site)) ≡ false
          not_beside = by.listed (λ (d : Access). is_stored_beside program plan s x d && not (is_apart_between program plan u d.site)) differs.1

module _ (k : Epoch) (s i : ℕ) (earlier : List Past) (cells : List ℤ) (event : Event) where
  open k use {program, plan, base}

  abbrev with_event : List Past
  with_event = record { iteration = i; event = event } ∷ earlier

  -- a later stage's event changes nothing for s
  pub sees_later : s < stage_of program plan event.site → Sees k s i earlier cells → Sees k s i with_event cells
  sees_later h sees c =
      sees c ∙ sym (ap (λ (b : Bool). unwrap_or (stored_in b c event.effect) (seen program plan base s i earlier c))
      (not_covered program plan s i (stage_of program plan event.site) i c h)
      ∙ ap (λ (o : Option ℤ). unwrap_or o (seen program plan base s i earlier c)) (stored_none c event.effect))

  -- an event of s or of an earlier stage is a store into its memory
  pub sees_stored : stage_of program plan event.site < suc s → ((c : ℕ) (value : ℤ) → event.effect ≡ Stored c value → c < length cells) →
      Sees k s i earlier cells → Sees k s i with_event (stored event.effect cells)
  sees_stored h within sees c =
      stored_read c event.effect cells (within c) ∙ ap (λ (z : ℤ). unwrap_or (stored_in true c event.effect) z) (sees c)
      ∙ sym (ap (λ (b : Bool). unwrap_or (stored_in b c event.effect) (seen program plan base s i earlier c))
      (now_covered program plan s i (stage_of program plan event.site) c h))
