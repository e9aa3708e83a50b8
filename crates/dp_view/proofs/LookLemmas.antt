-- What fails of an event, as the definitions have it.
use Rattle.dp_semantics.proofs.Names.{◌≡◌, refl, sym, ap, ◌∙◌, arith, ℕ, zero, suc, ◌+◌, ◌<◌, ◌&&◌, if◌then◌else◌, Bool, true, false, List, [], ◌∷◌, ℤ, length}
use Rattle.dp_semantics.proofs.Names.{length-map, map, get_or, slice_set, nat_le, eq-eqb, ne_eqb, length-set, ◌||◌, Option, Some, None, list_all, Program, Plan}
use Rattle.dp_semantics.proofs.Names.{Event, Effect, Stored, Printed, Tried, stored, stage_of, is_checked, as_assumed, goes_as, stays_late, event_words}
use Rattle.dp_semantics.proofs.Names.{words_at}
use Rattle.std.specs.Option.{option_map, option_or}
use Rattle.dp_tree.specs.declared.Assume.{Assume}
use Rattle.dp_semantics.specs.Cause.{Cause as Failure, assumption_cause}
use Rattle.dp_semantics.specs.CauseWalk.{Watch, shown_from, counted_from, watched, count_of, view_of, cause_in, checked_cause_in, words_cause_in}
use Rattle.dp_semantics.specs.LoadedCells.{load_from}
use Rattle.dp_view.specs.Memories.{shown_to_stages, count_more}
use Rattle.dp_view.specs.Viewed.{many_words}

-- ---- what is assumed

always : (xs : List Assume) (test : Assume → Bool) → ((a : Assume) → test a ≡ true) → list_all test xs ≡ true
always [] test h = refl
always (a ∷ rest) test h = rw (h a) (always rest test h)

module _ (p : Program) (plan : Plan) (site : ℕ) where
  asked_nothing : (effect : Effect) → ((a : Assume) → goes_as site effect a ≡ true) → as_assumed p plan site effect ≡ stays_late p plan site effect
  asked_nothing effect h = ap (λ (b : Bool). b && stays_late p plan site effect) (always plan.assume (goes_as site effect) h)

  goes_any : (a : Assume) → (b : Bool) → b ≡ true → (x : Bool) → (x || b) ≡ true
  goes_any a b e true = refl
  goes_any a b e false = e

  pub stores_so : (c : ℕ) (z : ℤ) → as_assumed p plan site (Stored c z) ≡ true
  stores_so c z = asked_nothing (Stored c z) (λ a. goes_any a true refl _)

  pub prints_so : (z : ℤ) → as_assumed p plan site (Printed z) ≡ true
  prints_so z = asked_nothing (Printed z) (λ a. goes_any a true refl _)

  pub tries_so : (z : ℤ) → as_assumed p plan site (Tried z) ≡ stays_late p plan site (Tried z)
  tries_so z = asked_nothing (Tried z) (λ a. goes_any a true refl _)

-- ---- words and memories

module _ (p : Program) (plan : Plan) (event : Event) where
  pub shown_same : (s : ℕ) (views : List (List ℤ)) → shown_to_stages (stage_of p plan event.site) event.effect s views ≡ shown_from p plan event s views
  shown_same s [] = refl
  shown_same s (view ∷ rest) =
      ap (λ (xs : List (List ℤ)). (if nat_le (stage_of p plan event.site) s then stored event.effect view else view) ∷ xs) (shown_same (suc s) rest)

  -- behind the event's stage nothing is counted
  counted_behind : (s : ℕ) (counts : List ℕ) → stage_of p plan event.site < s → counted_from p plan event s counts ≡ counts
  counted_behind s [] h = refl
  counted_behind s (n ∷ rest) h =
      let none : words_at p plan s event ≡ 0 = ap (λ (b : Bool). if b then event_words p plan event else 0)
      (ne_eqb (stage_of p plan event.site) s (λ e. omega (arith, e, h))) in
      let same : words_at p plan s event + n ≡ n = omega (arith, none) in
      ap (λ (k : ℕ). k ∷ counted_from p plan event (suc s) rest) same ∙ ap (λ (xs : List ℕ). n ∷ xs) (counted_behind (suc s) rest (omega (arith, h)))

  counted_here : (k s : ℕ) (counts : List ℕ) → stage_of p plan event.site ≡ s + k → counted_from p plan event s counts ≡ slice_set counts k
      (event_words p plan event + get_or counts k 0)
  counted_here k s [] e = refl
  counted_here zero s (n ∷ rest) e =
      let here : words_at p plan s event ≡ event_words p plan event = ap (λ (b : Bool). if b then event_words p plan event else 0)
      (eq-eqb (stage_of p plan event.site) s (omega (arith, e))) in
      ap (λ (m : ℕ). (m + n) ∷ counted_from p plan event (suc s) rest) here ∙ ap (λ (xs : List ℕ). (event_words p plan event + n) ∷ xs)
      (counted_behind (suc s) rest (omega (arith, e)))
  counted_here (suc k) s (n ∷ rest) e =
      let none : words_at p plan s event ≡ 0 = ap (λ (b : Bool). if b then event_words p plan event else 0)
      (ne_eqb (stage_of p plan event.site) s (λ q. omega (arith, e, q))) in
      let same : words_at p plan s event + n ≡ n = omega (arith, none) in
      ap (λ (m : ℕ). m ∷ counted_from p plan event (suc s) rest) same ∙ ap (λ (xs : List ℕ). n ∷ xs) (counted_here k (suc s) rest (omega (arith, e)))

  pub counted_is : (counts : List ℕ) (stage : ℕ) → stage ≡ stage_of p plan event.site → count_more stage (event_words p plan event) counts ≡ counted_from
      p plan event 1 counts
  counted_is counts zero e = sym (counted_behind 1 counts (omega (arith, e)))
  counted_is counts (suc s) e = sym (counted_here s 1 counts (omega (arith, e)))

pub counted-length : (stage more : ℕ) (counts : List ℕ) → length (count_more stage more counts) ≡ length counts
counted-length zero more counts = refl
counted-length (suc s) more counts = length-set counts s (more + get_or counts s 0)

-- ---- the first failure

map_or : {A B : Type 0} (f : A → B) (a b : Option A) → option_map f (option_or a b) ≡ option_or (option_map f a) (option_map f b)
map_or f (Some x) b = refl
map_or f None b = refl

or_assoc : {A : Type 0} (a b c : Option A) → option_or (option_or a b) c ≡ option_or a (option_or b c)
or_assoc (Some x) b c = refl
or_assoc None b c = refl

module _ {T : Type 0} (tell : Failure → T) (p : Program) (plan : Plan) (w : Watch) (event : Event) where
  -- by what fails of the loads or the assumptions, and else by the words
  pub first_failure : (stage made : ℕ) (counts : List ℕ) (failed many found : Option T) → stage ≡ stage_of p plan event.site →
      counts ≡ counted_from p plan event 1 w.counts → made ≡ count_of counts stage →
      failed ≡ option_map tell (option_or (checked_cause_in p plan (view_of w.views stage) event) (assumption_cause p plan event)) →
      many ≡ option_map tell (many_words made plan.words stage event.site) → found ≡ option_or failed many →
      found ≡ option_map tell (cause_in p plan w event)
  first_failure stage made counts failed many found is counted count f m o =
      let s = stage_of p plan event.site in
      let first : Option Failure = option_or (checked_cause_in p plan (view_of w.views s) event) (assumption_cause p plan event) in
      let last : many_words made plan.words stage event.site ≡ words_cause_in p plan (count_of (watched p plan event w).counts s) event =
      ap (λ (n : ℕ). many_words n plan.words stage event.site) (count ∙ ap (λ (cs : List ℕ). count_of cs stage) counted)
      ∙ ap (λ (t : ℕ). many_words (count_of (counted_from p plan event 1 w.counts) t) plan.words t event.site) is in
      let failed_so : failed ≡ option_map tell first = f
      ∙ ap (λ (t : ℕ). option_map tell (option_or (checked_cause_in p plan (view_of w.views t) event) (assumption_cause p plan event))) is in
      o ∙ ap (λ (x : Option T). option_or x many) failed_so ∙ ap (λ (x : Option T). option_or (option_map tell first) x) (m ∙ ap (option_map tell) last)
      ∙ sym (map_or tell first (words_cause_in p plan (count_of (watched p plan event w).counts s) event))
      ∙ ap (option_map tell) (or_assoc (checked_cause_in p plan (view_of w.views s) event) (assumption_cause p plan event)
      (words_cause_in p plan (count_of (watched p plan event w).counts s) event))

-- an event's words by the cells that it loads
pub words_of_cells : (p : Program) (plan : Plan) (source : List ℤ) (site : ℕ) (effect : Effect) (cells : List ℕ) →
    (if is_checked p plan site then length cells + 1 else 1) ≡ event_words p plan
    (record { site = site; loads = map (load_from source) cells; effect = effect })
words_of_cells p plan source site effect cells = ap (λ (n : ℕ). if is_checked p plan site then n + 1 else 1) (sym (length-map cells (load_from source)))
