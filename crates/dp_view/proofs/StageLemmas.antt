-- The memories of all stages, changed place by place.
use Rattle.dp_semantics.proofs.Names.{◌≡◌, inl, inr, refl, sym, ap, ◌∙◌, arith, ℕ, zero, suc, ◌+◌, ◌-◌, ◌<◌, ◌≤◌, if◌then◌else◌, Bool, true, false, List, []}
use Rattle.dp_semantics.proofs.Names.{◌∷◌, ℤ, pos, length, map, take, drop, ◌++◌, take-append_seam, get_or, slice_set, nat_le, cases_Bool, cases_lt, cases_eq}
use Rattle.dp_semantics.proofs.Names.{length-set, get_or-set_other, get_or-set_at, Plan, is_replicated, Effect, stored}
use Rattle.std.proofs.lemmas.List.{ext_get_or, set-get_or, set-set, get_or-map}
use Rattle.dp_semantics.specs.EpochCauses.{views_from}
use Rattle.dp_view.specs.Memories.{copied, shown_to_stages, Neighbours, SameBut}
use Rattle.dp_view.proofs.CellLemmas.{copied_same}

-- the first n of the memories are changed; places count from 0
abbrev pub changed : (ℕ → List ℤ → List ℤ) → ℕ → List (List ℤ) → List (List ℤ)
changed f zero views = views
changed f (suc n) views = slice_set (changed f n views) n (f n (get_or (changed f n views) n []))

module _ (f : ℕ → List ℤ → List ℤ) where
  pub changed-length : (n : ℕ) (views : List (List ℤ)) → length (changed f n views) ≡ length views
  changed-length zero views = refl
  changed-length (suc n) views = length-set (changed f n views) n (f n (get_or (changed f n views) n [])) ∙ changed-length n views

  changed_past : (n : ℕ) (views : List (List ℤ)) (j : ℕ) → n ≤ j → get_or (changed f n views) j [] ≡ get_or views j []
  changed_past zero views j h = refl
  changed_past (suc n) views j h = get_or-set_other (changed f n views) n j (f n (get_or (changed f n views) n [])) [] (λ e. omega (arith, e, h))
      ∙ changed_past n views j (omega (arith, h))

  changed_before : (n : ℕ) (views : List (List ℤ)) (j : ℕ) → j < n → j < length views → get_or (changed f n views) j [] ≡ f j (get_or views j [])
  changed_before zero views j h there = absurd (omega (arith, h))
  changed_before (suc n) views j h there = elim (cases_lt j n) [
    | inl less ↦ get_or-set_other (changed f n views) n j (f n (get_or (changed f n views) n [])) [] (λ e. omega (arith, e, less))
        ∙ changed_before n views j less there
    | inr most ↦
        let same : j ≡ n = omega (arith, h, most) in
        get_or-set_at (changed f n views) n j (f n (get_or (changed f n views) n [])) [] same (omega (arith, there, same, changed-length n views))
        ∙ ap (f n) (changed_past n views n (omega arith)) ∙ ap (λ (k : ℕ). f k (get_or views k [])) (sym same)
  ]

  -- all of them are
  pub changed_all : (n : ℕ) (views made : List (List ℤ)) → length views ≤ n → length made ≡ length views →
      ((j : ℕ) → j < length views → get_or made j [] ≡ f j (get_or views j [])) → changed f n views ≡ made
  changed_all n views made low size are =
      ext_get_or [] (changed f n views) made (changed-length n views ∙ sym size)
      (λ j h. let less : j < length views = omega (arith, h, changed-length n views) in changed_before n views j (omega
      (arith, less, low)) less ∙ sym (are j less))

pub map_at : (f : List ℤ → List ℤ) (views : List (List ℤ)) (j : ℕ) → j < length views → get_or (map f views) j [] ≡ f (get_or views j [])
map_at f views j h = get_or-map f views j [] [] h

-- ---- an event is shown

abbrev pub shown_at : ℕ → Effect → ℕ → List ℤ → List ℤ
shown_at stage effect place view = if nat_le stage (place + 1) then stored effect view else view

pub shown-length : (stage : ℕ) (effect : Effect) (s : ℕ) (views : List (List ℤ)) → length (shown_to_stages stage effect s views) ≡ length views
shown-length stage effect s [] = refl
shown-length stage effect s (view ∷ rest) = ap (λ (n : ℕ). suc n) (shown-length stage effect (suc s) rest)

pub shown_is : (stage : ℕ) (effect : Effect) (s : ℕ) (views : List (List ℤ)) (j : ℕ) → j < length views →
    get_or (shown_to_stages stage effect s views) j [] ≡ (if nat_le stage (s + j) then stored effect (get_or views j []) else get_or views j [])
shown_is stage effect s [] j h = absurd (omega (arith, h))
shown_is stage effect s (view ∷ rest) zero h = let e : s ≡ s + 0 = omega arith in ap (λ (n : ℕ). if nat_le stage n then stored effect view else view) e
shown_is stage effect s (view ∷ rest) (suc j) h =
    let e : suc s + j ≡ s + suc j = omega arith in
    shown_is stage effect (suc s) rest j (omega (arith, h)) ∙ ap (λ (n : ℕ). if nat_le stage n then stored effect (get_or rest j []) else get_or rest j []) e

pub shown_all : (stage : ℕ) (effect : Effect) (n : ℕ) (views : List (List ℤ)) → length views ≤ n →
    changed (shown_at stage effect) n views ≡ shown_to_stages stage effect 1 views
shown_all stage effect n views low =
    changed_all (shown_at stage effect) n views (shown_to_stages stage effect 1 views) low (shown-length stage effect 1 views)
    (λ j h. shown_is stage effect 1 views j h
    ∙ (let e : 1 + j ≡ j + 1 = omega arith in ap (λ (k : ℕ). if nat_le stage k then stored effect (get_or views j []) else get_or views j []) e))

-- ---- a memory is shared

-- these cells of the memory at a place read as in the one before it
abbrev pub share_cells : ℕ → List ℕ → List (List ℤ) → List (List ℤ)
share_cells place [] views = views
share_cells place (x ∷ xs) views =
    share_cells place xs (slice_set views place (slice_set (get_or views place []) x (get_or (get_or views (place - 1) []) x (pos 0))))

pub share_is : (place : ℕ) (cells : List ℕ) (views : List (List ℤ)) → 0 < place → place < length views → share_cells place cells views ≡ slice_set views place
    (copied (get_or views (place - 1) []) cells (get_or views place []))
share_is place [] views low high = sym (set-get_or views place [])
share_is place (x ∷ xs) views low high =
    let one : List ℤ = slice_set (get_or views place []) x (get_or (get_or views (place - 1) []) x (pos 0)) in
    let next : List (List ℤ) = slice_set views place one in
    share_is place xs next low (omega (arith, high, length-set views place one))
    ∙ ap (λ (v : List ℤ). slice_set next place (copied v xs (get_or next place []))) (get_or-set_other views place (place - 1) one []
    (λ e. omega (arith, e, low)))
    ∙ ap (λ (v : List ℤ). slice_set next place (copied (get_or views (place - 1) []) xs v)) (get_or-set_at views place place one [] refl high)
    ∙ set-set views place one (copied (get_or views (place - 1) []) xs one)

-- the memory at a place is shared where its stage is replicated
abbrev pub share_at : Plan → List ℕ → ℕ → List (List ℤ) → List (List ℤ)
share_at plan cells place views =
    if is_replicated plan (suc place) then slice_set views place (copied (get_or views (place - 1) []) cells (get_or views place [])) else views

-- .. at the places from 1 to n
abbrev pub shared : Plan → List ℕ → ℕ → List (List ℤ) → List (List ℤ)
shared plan cells zero views = views
shared plan cells (suc n) views = share_at plan cells (suc n) (shared plan cells n views)

share_at-length : (plan : Plan) (cells : List ℕ) (place : ℕ) (views : List (List ℤ)) → length (share_at plan cells place views) ≡ length views
share_at-length plan cells place views = elim (cases_Bool (is_replicated plan (suc place))) [
  | inl q ↦ rw q (length-set views place (copied (get_or views (place - 1) []) cells (get_or views place [])))
  | inr q ↦ rw q refl
]

pub shared-length : (plan : Plan) (cells : List ℕ) (n : ℕ) (views : List (List ℤ)) → length (shared plan cells n views) ≡ length views
shared-length plan cells zero views = refl
shared-length plan cells (suc n) views = share_at-length plan cells (suc n) (shared plan cells n views) ∙ shared-length plan cells n views

-- what a stage sees then
abbrev pub seen_at : Plan → List (List ℤ) → ℕ → List ℤ
seen_at plan views zero = get_or views 0 []
seen_at plan views (suc j) = if is_replicated plan (suc (suc j)) then get_or views j [] else get_or views (suc j) []

pub seen_own : (plan : Plan) (views : List (List ℤ)) (j : ℕ) → is_replicated plan (suc j) ≡ false → seen_at plan views j ≡ get_or views j []
seen_own plan views zero seq = refl
seen_own plan views (suc j) seq = ap (λ (b : Bool). if b then get_or views j [] else get_or views (suc j) []) seq

module _ (plan : Plan) (cells : List ℕ) (views : List (List ℤ)) (near : Neighbours plan cells views) where
  record SharedTo (n : ℕ) : Type 0 where
    upto : (j : ℕ) → j ≤ n → j < length views → get_or (shared plan cells n views) j [] ≡ seen_at plan views j
    past : (j : ℕ) → n < j → get_or (shared plan cells n views) j [] ≡ get_or views j []

  none : SharedTo zero
  none = record {
    upto = λ j h there. let e : j ≡ 0 = omega (arith, h) in ap (λ (k : ℕ). get_or views k []) e ∙ ap (seen_at plan views) (sym e);
    past = λ j h. refl;
  }

  module _ (n : ℕ) (go : SharedTo n) where
    abbrev s : List (List ℤ)
    s = shared plan cells n views

    abbrev new : List ℤ
    new = copied (get_or (shared plan cells n views) (suc n - 1) []) cells (get_or (shared plan cells n views) (suc n) [])

    at : (b : Bool) → is_replicated plan (suc (suc n)) ≡ b → shared plan cells (suc n) views ≡ (if b then slice_set s (suc n) new else s)
    at b q = ap (λ (t : Bool). if t then slice_set s (suc n) new else s) q

    module _ (q : is_replicated plan (suc (suc n)) ≡ true) where
      before_is : suc n < length views → get_or s (suc n - 1) [] ≡ get_or views n []
      before_is high = let e : suc n - 1 ≡ n = omega arith in ap (λ (k : ℕ). get_or s k []) e ∙ go.upto n (omega arith) (omega (arith, high))
          ∙ seen_own plan views n (near.apart (suc n) q)

      new_is : suc n < length views → new ≡ get_or views n []
      new_is high =
          let alike : SameBut cells (get_or views n []) (get_or views (suc n) []) = near.alike n high q in
          ap (λ (v : List ℤ). copied v cells (get_or s (suc n) [])) (before_is high) ∙ ap (copied (get_or views n []) cells) (go.past (suc n) (omega arith))
          ∙ copied_same (get_or views n []) cells (get_or views (suc n) []) (sym alike.size) (λ c out. sym (alike.reads c out))

      shares_next : SharedTo (suc n)
      shares_next = record {
        upto = λ j h there. ap (λ (v : List (List ℤ)). get_or v j []) (at true q) ∙ elim (cases_eq j (suc n)) [
          | inl e ↦ get_or-set_at s (suc n) j new [] e (omega (arith, there, e, shared-length plan cells n views)) ∙ new_is (omega (arith, there, e))
              ∙ sym (ap (λ (b : Bool). if b then get_or views n [] else get_or views (suc n) []) q) ∙ ap (seen_at plan views) (sym e)
          | inr e ↦ get_or-set_other s (suc n) j new [] e ∙ go.upto j (omega (arith, e, h)) there
        ];
        past = λ j h. ap (λ (v : List (List ℤ)). get_or v j []) (at true q) ∙ get_or-set_other s (suc n) j new [] (λ e. omega (arith, e, h))
            ∙ go.past j (omega (arith, h));
      }

    keeps_own : is_replicated plan (suc (suc n)) ≡ false → SharedTo (suc n)
    keeps_own q = record {
      upto = λ j h there. ap (λ (v : List (List ℤ)). get_or v j []) (at false q) ∙ elim (cases_eq j (suc n)) [
        | inl e ↦ go.past j (omega (arith, e)) ∙ ap (λ (k : ℕ). get_or views k []) e ∙ sym (seen_own plan views (suc n) q) ∙ ap (seen_at plan views) (sym e)
        | inr e ↦ go.upto j (omega (arith, e, h)) there
      ];
      past = λ j h. ap (λ (v : List (List ℤ)). get_or v j []) (at false q) ∙ go.past j (omega (arith, h));
    }

    next : SharedTo (suc n)
    next = elim (cases_Bool (is_replicated plan (suc (suc n)))) [ inl q ↦ shares_next q | inr q ↦ keeps_own q ]

  shared_to : (n : ℕ) → SharedTo n
  shared_to zero = none
  shared_to (suc n) = next n (shared_to n)

  -- what the definitions have at each place
  from_zero : (s : ℕ) (before : List ℤ) (all : List (List ℤ)) → 0 < length all →
      get_or (views_from plan s before all) 0 [] ≡ (if is_replicated plan s then before else get_or all 0 [])
  from_zero s before [] h = absurd (omega (arith, h))
  from_zero s before (own ∷ rest) h = refl

  from_suc : (s j : ℕ) (before : List ℤ) (all : List (List ℤ)) → suc j < length all →
      get_or (views_from plan s before all) (suc j) [] ≡ (if is_replicated plan (s + suc j) then get_or (views_from plan s before all) j []
      else get_or all (suc j) [])
  from_suc s j before [] h = absurd (omega (arith, h))
  from_suc s zero before (own ∷ rest) h =
      let e : suc s ≡ s + 1 = omega arith in
      from_zero (suc s) (if is_replicated plan s then before else own) rest (omega (arith, h))
      ∙ ap (λ (k : ℕ). if is_replicated plan k then (if is_replicated plan s then before else own) else get_or rest 0 []) e
  from_suc s (suc j) before (own ∷ rest) h =
      let e : suc s + suc j ≡ s + suc (suc j) = omega arith in
      let first : List ℤ = if is_replicated plan s then before else own in
      from_suc (suc s) j first rest (omega (arith, h)) ∙ ap (λ (k : ℕ). if is_replicated plan k then get_or (views_from plan (suc s) first rest) j []
      else get_or rest (suc j) []) e

  pub from-length : (s : ℕ) (before : List ℤ) (all : List (List ℤ)) → length (views_from plan s before all) ≡ length all
  from-length s before [] = refl
  from-length s before (own ∷ rest) = ap (λ (n : ℕ). suc n) (from-length (suc s) (if is_replicated plan s then before else own) rest)

  pub from_at : (j : ℕ) → j < length views → get_or (views_from plan 1 [] views) j [] ≡ seen_at plan views j
  from_at zero h = from_zero 1 [] views h ∙ ap (λ (b : Bool). if b then [] else get_or views 0 []) near.first
  from_at (suc j) h = from_suc 1 j [] views h
      ∙ (let e : 1 + suc j ≡ suc (suc j) = omega arith in ap (λ (k : ℕ). if is_replicated plan k then get_or (views_from plan 1 [] views) j []
      else get_or views (suc j) []) e)
      ∙ elim (cases_Bool (is_replicated plan (suc (suc j)))) [
        | inl q ↦ rw q (from_at j (omega (arith, h)) ∙ seen_own plan views j (near.apart (suc j) q))
        | inr q ↦ rw q refl
      ]

  pub all_shared : (n : ℕ) → length views ≤ n + 1 → shared plan cells n views ≡ views_from plan 1 [] views
  all_shared n low =
      let go = shared_to n in
      ext_get_or [] (shared plan cells n views) (views_from plan 1 [] views) (shared-length plan cells n views ∙ sym (from-length 1 [] views))
      (λ j h. let less : j < length views = omega (arith, h, shared-length plan cells n views) in go.upto j (omega
      (arith, less, low)) less ∙ sym (from_at j less))

-- what was lent for writing stands there again
pub written_back : (views made : List (List ℤ)) → length made ≡ length views → take (length views) (made ++ drop (length made) views) ≡ made
written_back views made size =
    ap (λ (n : ℕ). take n (made ++ drop (length made) views)) (sym size) ∙ take-append_seam made (drop (length made) views)
