-- Lists of items by their stage: what one is after another was set, or behind others.
use Rattle.dp_semantics.proofs.Names.{◌≡◌, inl, inr, refl, sym, ap, ◌∙◌, ℕ, zero, suc, ◌-◌, ◌<◌, ◌≤◌, ◌==◌, if◌then◌else◌, List, [], ◌∷◌, ◌++◌, length, arith}
use Rattle.dp_semantics.proofs.Names.{eq-eqb, ne_eqb, get_or, get_or_past, get_or-set_at, get_or-set_other, get_or_append_left, get_or-append_seam, slice_set}
use Rattle.dp_semantics.proofs.Names.{cases_eq, cases_lt, Program, Plan, Word}
use Rattle.dp_net.specs.NetItems.{Marks, Item, said_all, item_list}
use Rattle.dp_net.specs.Follows.{Others}
use Rattle.dp_net.proofs.Groups.{item_list_is}

-- lists of items, by their stage
module _ (p : Program) (plan : Plan) (m : Marks) where
  pub list_same : (lists : List (List Item)) (t : ℕ) (items : List Item) → 0 < t → t < suc (length lists) → item_list (slice_set lists (t - 1) items) t ≡ items
  list_same lists t items low high = item_list_is p plan m (slice_set lists (t - 1) items) t low
      ∙ get_or-set_at lists (t - 1) (t - 1) items [] refl (omega (arith, low, high))

  pub list_other : (lists : List (List Item)) (t u : ℕ) (items : List Item) → 0 < t → 0 < u → (u ≡ t → ⊥) →
      item_list (slice_set lists (t - 1) items) u ≡ item_list lists u
  list_other lists t u items low real differ =
      item_list_is p plan m (slice_set lists (t - 1) items) u real
      ∙ get_or-set_other lists (t - 1) (u - 1) items [] (λ e. differ (omega (arith, e, low, real))) ∙ sym (item_list_is p plan m lists u real)

  pub list_early : (lists : List (List Item)) (items : List Item) (t : ℕ) → 0 < t → t ≤ length lists → item_list (lists ++ items ∷ []) t ≡ item_list lists t
  list_early lists items t low high = item_list_is p plan m (lists ++ items ∷ []) t low
      ∙ get_or_append_left lists (items ∷ []) [] (t - 1) (omega (arith, low, high)) ∙ sym (item_list_is p plan m lists t low)

  pub list_next : (lists : List (List Item)) (items : List Item) → item_list (lists ++ items ∷ []) (suc (length lists)) ≡ items
  list_next lists items =
      let place : suc (length lists) - 1 ≡ length lists = omega arith in
      item_list_is p plan m (lists ++ items ∷ []) (suc (length lists)) (omega arith) ∙ ap (λ (n : ℕ). get_or (lists ++ items ∷ []) n []) place
      ∙ get_or-append_seam lists items [] []

  pub list_past : (lists : List (List Item)) (t : ℕ) → 0 < t → length lists < t → item_list lists t ≡ []
  list_past lists t low high = item_list_is p plan m lists t low ∙ get_or_past lists (t - 1) [] (omega (arith, high))

  pub list_wide : (lists : List (List Item)) (t : ℕ) (i : Item) (items : List Item) → 0 < t → item_list lists t ≡ i ∷ items → t < suc (length lists)
  list_wide lists t i items low e = elim (cases_lt (length lists) t) [
    | inl past ↦ let clash : [] ≡ i ∷ items = sym (list_past lists t low past) ∙ e in absurd (cc clash)
    | inr within ↦ omega (arith, within)
  ]

  -- only one list is another
  pub list_others : (lists : List (List Item)) (u : ℕ) (items : List Item) (next : ℕ → List Item) → 0 < u → u < suc (length lists) → next u ≡ items →
      Others u (item_list lists) next → (t : ℕ) → item_list (slice_set lists (u - 1) items) t ≡ next t
  list_others lists u items next low high here others zero = sym (others zero (λ e. omega (arith, e, low)))
  list_others lists u items next low high here others (suc t) = elim (cases_eq (suc t) u) [
    | inl same ↦ ap (item_list (slice_set lists (u - 1) items)) same ∙ list_same lists u items low high ∙ sym here ∙ ap next (sym same)
    | inr differs ↦ list_other lists u (suc t) items low (omega arith) differs ∙ sym (others (suc t) differs)
  ]

pub said_some : (ws : List Word) (rest : List Item) → 0 < length ws → 0 < length (said_all ws ++ rest)
said_some [] rest h = absurd (omega (arith, h))
said_some (w ∷ ws) rest h = omega arith

-- the lists, and what a stage has still to tell
abbrev pub with_own : ℕ → List Item → (ℕ → List Item) → ℕ → List Item
with_own s own left t = if t == s then own else left t

pub with_here : (s : ℕ) (own : List Item) (left : ℕ → List Item) (t : ℕ) → t ≡ s → with_own s own left t ≡ own
with_here s own left t e = rw (eq-eqb t s e) refl

pub with_other : (s : ℕ) (own : List Item) (left : ℕ → List Item) (t : ℕ) → (t ≡ s → ⊥) → with_own s own left t ≡ left t
with_other s own left t e = rw (ne_eqb t s e) refl
