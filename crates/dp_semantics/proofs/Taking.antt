-- The words of an event at the front of a list: what is taken for them, and what is left.
use Rattle.dp_semantics.proofs.Names.{Decides-int_eq, Break, Tried, ◌≡◌, refl, sym, ap, ◌∙◌, append_assoc, ℕ, zero, suc, ◌+◌, ◌-◌, ◌<◌, Bool, true, false, ◌&&◌}
use Rattle.dp_semantics.proofs.Names.{if◌then◌else◌, List, [], ◌∷◌, ◌++◌, ℤ, pos, length, get_or, Option, Some, None, unwrap_or, slice_get, slice_set, nat_le}
use Rattle.dp_semantics.proofs.Names.{nat_lt, ◌==◌, arith, eq-eqb, ne_eqb, le-leb, lt-ltb, Ok, unwrap_or-slice_get, get_or-set_other, get_or-set_at, Word, Stmt}
use Rattle.dp_semantics.proofs.Names.{Stmt-F, Assign, Store, Print, If, While, Region, Program, Plan, Load, first_cell, cell_count, Event, Effect, Stored}
use Rattle.dp_semantics.proofs.Names.{Printed, Decided, site_of, stage_of, is_checked, int_eq, load_word, load_words, done_word, words_of, is_load_of}
use Rattle.dp_semantics.proofs.Names.{after_loads_of, is_cell_of, effect_by, taken_from, words_in, word_list, loads_hold, and_parts, and_from, inl, inr}
use Rattle.dp_semantics.proofs.Names.{cases_Bool}
use Rattle.dp_semantics.proofs.Setting.{InVar, Form, Holds}

-- Lists of stages, from 1.
words_in_is : (o : Option (List Word)) → words_in o ≡ unwrap_or o []
words_in_is None = refl
words_in_is (Some words) = refl

pub word_list_is : (lists : List (List Word)) (t : ℕ) → 0 < t → word_list lists t ≡ get_or lists (t - 1) []
word_list_is lists zero h = absurd (omega (arith, h))
word_list_is lists (suc t) h = let e : t ≡ suc t - 1 = omega arith in words_in_is (slice_get lists t) ∙ unwrap_or-slice_get lists t []
    ∙ ap (λ (n : ℕ). get_or lists n []) e

pub word_list_same : (lists : List (List Word)) (t : ℕ) (words : List Word) → 0 < t → t < suc (length lists) →
    word_list (slice_set lists (t - 1) words) t ≡ words
word_list_same lists t words h k = word_list_is (slice_set lists (t - 1) words) t h ∙ get_or-set_at lists (t - 1) (t - 1) words [] refl (omega (arith, h, k))

pub word_list_other : (lists : List (List Word)) (t u : ℕ) (words : List Word) → 0 < t → 0 < u → (u ≡ t → ⊥) →
    word_list (slice_set lists (t - 1) words) u ≡ word_list lists u
word_list_other lists t u words h k differ =
    word_list_is (slice_set lists (t - 1) words) u k ∙ get_or-set_other lists (t - 1) (u - 1) words [] (λ e. differ (omega (arith, e, h, k)))
    ∙ sym (word_list_is lists u k)

-- The words for a stage.
module _ (p : Program) (plan : Plan) where
  abbrev pub words_for : ℕ → Event → List Word
  words_for t event = if stage_of p plan event.site == t then words_of p plan event else []

  pub words_here : (t : ℕ) (event : Event) → stage_of p plan event.site ≡ t → words_for t event ≡ words_of p plan event
  words_here t event e = ap (λ (b : Bool). if b then words_of p plan event else []) (eq-eqb (stage_of p plan event.site) t e)

  pub words_elsewhere : (t : ℕ) (event : Event) → (stage_of p plan event.site ≡ t → ⊥) → words_for t event ≡ []
  words_elsewhere t event e = ap (λ (b : Bool). if b then words_of p plan event else []) (ne_eqb (stage_of p plan event.site) t e)

-- One site's words.
pub load_here : (site : ℕ) (l : Load) → is_load_of site (load_word site l) ≡ true
load_here site l = ap (λ (b : Bool). b && true) (eq-eqb site site refl)

pub done_no_load : (site : ℕ) (effect : Effect) → is_load_of site (done_word site effect) ≡ false
done_no_load site effect = ap (λ (b : Bool). b && false) (eq-eqb site site refl)

-- the loads at the front are passed
loads_pass : (site : ℕ) (loads : List Load) (w : Word) (rest : List Word) → is_load_of site w ≡ false →
    after_loads_of site (load_words site loads ++ w ∷ rest) ≡ w ∷ rest
loads_pass site [] w rest e = ap (λ (b : Bool). if b then after_loads_of site rest else w ∷ rest) e
loads_pass site (l ∷ loads) w rest e =
    ap (λ (b : Bool). if b then after_loads_of site (load_words site loads ++ w ∷ rest) else load_word site l ∷ (load_words site loads ++ w ∷ rest))
    (load_here site l) ∙ loads_pass site loads w rest e

-- .. and compared, and nothing else
compared_is : (site : ℕ) (cells : List ℤ) (l : Load) (words : List Word) →
    loads_hold site cells (load_word site l ∷ words) ≡ (int_eq (get_or cells l.cell (pos 0)) l.value && loads_hold site cells words)
compared_is site cells l words =
    ap (λ (b : Bool). if b then int_eq (get_or cells l.cell (pos 0)) l.value && loads_hold site cells words else true) (load_here site l)

loads_compared : (site : ℕ) (cells : List ℤ) (loads : List Load) (w : Word) (rest : List Word) → is_load_of site w ≡ false → Holds cells loads →
    loads_hold site cells (load_words site loads ++ w ∷ rest) ≡ true
loads_compared site cells [] w rest e h = ap (λ (b : Bool). if b then int_eq (get_or cells w.index (pos 0)) w.value && loads_hold site cells rest else true) e
loads_compared site cells (l ∷ loads) w rest e h =
    compared_is site cells l (load_words site loads ++ w ∷ rest)
    ∙ and_from (int_eq (get_or cells l.cell (pos 0)) l.value) (loads_hold site cells (load_words site loads ++ w ∷ rest)) (ap (λ (z : ℤ). int_eq z l.value) h.0
    ∙ (Decides-int_eq l.value l.value).1 refl) (loads_compared site cells loads w rest e h.1)

loads_held : (site : ℕ) (cells : List ℤ) (loads : List Load) (w : Word) (rest : List Word) →
    loads_hold site cells (load_words site loads ++ w ∷ rest) ≡ true → Holds cells loads
loads_held site cells [] w rest e = tt
loads_held site cells (l ∷ loads) w rest e =
    let parts = and_parts (int_eq (get_or cells l.cell (pos 0)) l.value) (loads_hold site cells (load_words site loads ++ w ∷ rest))
    (sym (compared_is site cells l (load_words site loads ++ w ∷ rest)) ∙ e) in
    ((Decides-int_eq (get_or cells l.cell (pos 0)) l.value).0 parts.0, loads_held site cells loads w rest parts.1)

store_is : (p : Program) (x c : ℕ) (value : ℤ) → InVar p x c → (if is_cell_of p (record { 0 = x }) c then Some (Stored c value) else None)
    ≡ Some (Stored c value)
store_is p x c value h = ap (λ (b : Bool). if b then Some (Stored c value) else None) (and_from (nat_le (first_cell p (record { 0 = x })) c)
    (nat_lt c (first_cell p (record { 0 = x }) + cell_count p (record { 0 = x })))
    (le-leb (first_cell p (record { 0 = x })) c h.0) (lt-ltb c (first_cell p (record { 0 = x }) + cell_count p (record { 0 = x })) h.1))

-- its `Done` word stands for what it did
pub effect_of_word : (p : Program) (h : Stmt-F Stmt) (site : ℕ) (effect : Effect) → Form p h effect → effect_by p h (done_word site effect) ≡ Some effect
effect_of_word p (Assign s x e) site (Stored c value) f = store_is p x.0 c value f
effect_of_word p (Store s x index e) site (Stored c value) f = store_is p x.0 c value f
effect_of_word p (Print s e) site (Printed value) f = refl
effect_of_word p (If s cond a b) site (Decided value) f = refl
effect_of_word p (While s cond a) site (Decided value) f = refl
effect_of_word p (Region r s cond a) site (Decided value) f = refl
effect_of_word p (Break s cond) site (Tried value) f = refl
effect_of_word p _ site effect f = absurd f

module _ (p : Program) (plan : Plan) (event : Event) (rest : List Word) where
  passed_over : after_loads_of event.site (words_of p plan event ++ rest) ≡ done_word event.site event.effect ∷ rest
  passed_over = elim (cases_Bool (is_checked p plan event.site)) [
    | inl e ↦ rw (e, append_assoc (load_words event.site event.loads) (done_word event.site event.effect ∷ []) rest)
        (loads_pass event.site event.loads (done_word event.site event.effect) rest (done_no_load event.site event.effect))
    | inr e ↦ rw e (loads_pass event.site [] (done_word event.site event.effect) rest (done_no_load event.site event.effect))
  ]

  -- the event is taken
  pub taken_event : (head : Stmt-F Stmt) → event.site ≡ (site_of head).0 → effect_by p head (done_word event.site event.effect) ≡ Some event.effect →
      taken_from p head (words_of p plan event ++ rest) ≡ Ok (record { effect = event.effect; rest = rest })
  taken_event head at by_word = rw (← at, passed_over, ← at, eq-eqb event.site event.site refl, by_word)

  -- its loads are compared where its site is checked
  pub event_passes : (cells : List ℤ) → (is_checked p plan event.site ≡ true → Holds cells event.loads) →
      loads_hold event.site cells (words_of p plan event ++ rest) ≡ true
  event_passes cells h = elim (cases_Bool (is_checked p plan event.site)) [
    | inl e ↦ rw (e, append_assoc (load_words event.site event.loads) (done_word event.site event.effect ∷ []) rest)
        (loads_compared event.site cells event.loads (done_word event.site event.effect) rest (done_no_load event.site event.effect) (h e))
    | inr e ↦ rw e (loads_compared event.site cells [] (done_word event.site event.effect) rest (done_no_load event.site event.effect) tt)
  ]

  pub event_held : (cells : List ℤ) → loads_hold event.site cells (words_of p plan event ++ rest) ≡ true → is_checked p plan event.site ≡ true →
      Holds cells event.loads
  event_held cells e checked = loads_held event.site cells event.loads (done_word event.site event.effect) rest
      (rw (checked, append_assoc (load_words event.site event.loads) (done_word event.site event.effect ∷ []) rest) at e)
