-- Memories that agree but for cells that other stages hide, and what net stores make of them.
use Rattle.dp_semantics.proofs.Names.{◌≡◌, inl, inr, refl, sym, ap, ◌∙◌, ℕ, ◌<◌, ◌==◌, Bool, true, false, if◌then◌else◌, List, [], ◌∷◌, ℤ, pos, length}
use Rattle.dp_semantics.proofs.Names.{length-set, Option, Some, None, unwrap_or, arith, eq-eqb, eqb-true, ne_eqb, slice_set, get_or, get_or_past}
use Rattle.dp_semantics.proofs.Names.{get_or-set_other, get_or-set_at, list_any, cases_Bool, cases_eq, cases_lt, or_parts, Effect, Stored, Printed, Decided}
use Rattle.dp_semantics.proofs.Names.{Tried, stored, applied}
use Rattle.std.specs.Option.{option_or}
use Rattle.dp_net.specs.NetItems.{Marks, stores_into, put, told_after, net_behind, net_of}

-- the effects stored as many cells
pub stored_size : (e : Effect) (cells : List ℤ) → length (stored e cells) ≡ length cells
stored_size (Stored c z) cells = length-set cells c z
stored_size (Printed z) cells = refl
stored_size (Decided z) cells = refl
stored_size (Tried z) cells = refl

pub applied_size : (es : List Effect) (cells : List ℤ) → length (applied es cells) ≡ length cells
applied_size [] cells = refl
applied_size (e ∷ es) cells = applied_size es (stored e cells) ∙ stored_size e cells

-- no stage but s hides the cell
abbrev pub Open : Marks → ℕ → ℕ → Type 0
Open m s c = (u : ℕ) → (u ≡ s → ⊥) → m.hides u c ≡ false

pub record Agrees (m : Marks) (s : ℕ) (a b : List ℤ) : Type 0 where
  pub size : length a ≡ length b
  pub same : (c : ℕ) → Open m s c → get_or a c (pos 0) ≡ get_or b c (pos 0)

pub agrees_self : (m : Marks) (s : ℕ) (a : List ℤ) → Agrees m s a a
agrees_self m s a = record { size = refl; same = λ c o. refl }

-- a cell after a store
set_get : (a : List ℤ) (d c : ℕ) (z : ℤ) → c < length a → get_or (slice_set a d z) c (pos 0) ≡ (if d == c then z else get_or a c (pos 0))
set_get a d c z within = elim (cases_eq d c) [
  | inl e ↦ get_or-set_at a d c z (pos 0) (sym e) (omega (arith, within, e)) ∙ sym (ap (λ (b : Bool). if b then z else get_or a c (pos 0)) (eq-eqb d c e))
  | inr e ↦ get_or-set_other a d c z (pos 0) (λ q. e (sym q)) ∙ sym (ap (λ (b : Bool). if b then z else get_or a c (pos 0)) (ne_eqb d c e))
]

-- the value that the effect, or the last of several, stores into cell c
abbrev pub stored_at : ℕ → Effect → Option ℤ
stored_at c (Stored d z) = if d == c then Some z else None
stored_at c (Printed z) = None
stored_at c (Decided z) = None
stored_at c (Tried z) = None

abbrev pub last_of : ℕ → List Effect → Option ℤ
last_of c [] = None
last_of c (e ∷ rest) = option_or (last_of c rest) (stored_at c e)

get_stored : (e : Effect) (a : List ℤ) (c : ℕ) → c < length a → get_or (stored e a) c (pos 0) ≡ unwrap_or (stored_at c e) (get_or a c (pos 0))
get_stored (Stored d z) a c within = set_get a d c z within ∙ by (d == c)
  where
    by : (b : Bool) → (if b then z else get_or a c (pos 0)) ≡ unwrap_or (if b then Some z else None) (get_or a c (pos 0))
    by true = refl
    by false = refl
get_stored (Printed z) a c within = refl
get_stored (Decided z) a c within = refl
get_stored (Tried z) a c within = refl

unwrap_both : (o u : Option ℤ) (z : ℤ) → unwrap_or o (unwrap_or u z) ≡ unwrap_or (option_or o u) z
unwrap_both (Some y) u z = refl
unwrap_both None u z = refl

pub applied_get : (es : List Effect) (a : List ℤ) (c : ℕ) → c < length a → get_or (applied es a) c (pos 0) ≡ unwrap_or (last_of c es) (get_or a c (pos 0))
applied_get [] a c within = refl
applied_get (e ∷ es) a c within =
    applied_get es (stored e a) c (omega (arith, within, stored_size e a)) ∙ ap (unwrap_or (last_of c es)) (get_stored e a c within)
    ∙ unwrap_both (last_of c es) (stored_at c e) (get_or a c (pos 0))

-- The memories after effects that store the same last values agree where those before do.
pub agree_after : (m : Marks) (s : ℕ) (es fs : List Effect) (a b : List ℤ) → ((c : ℕ) → Open m s c → last_of c es ≡ last_of c fs) → Agrees m s a b →
    Agrees m s (applied es a) (applied fs b)
agree_after m s es fs a b same ab = record {
  size = applied_size es a ∙ ab.size ∙ sym (applied_size fs b);
  same = λ c o. elim (cases_lt c (length a)) [
    | inl within ↦ applied_get es a c within ∙ ap (λ (u : Option ℤ). unwrap_or u (get_or a c (pos 0))) (same c o)
        ∙ ap (unwrap_or (last_of c fs)) (ab.same c o) ∙ sym (applied_get fs b c (omega (arith, within, ab.size)))
    | inr past ↦ get_or_past (applied es a) c (pos 0) (omega (arith, past, applied_size es a))
        ∙ sym (get_or_past (applied fs b) c (pos 0) (omega (arith, past, applied_size fs b, ab.size)))
  ];
}

pub agree_stored : (m : Marks) (s : ℕ) (e : Effect) (a b : List ℤ) → Agrees m s a b → Agrees m s (stored e a) (stored e b)
agree_stored m s e a b ab = agree_after m s (e ∷ []) (e ∷ []) a b (λ c o. refl) ab

-- what stores into other cells has no value for this one
into_none : (c : ℕ) (e : Effect) → stores_into c e ≡ false → stored_at c e ≡ None
into_none c (Stored d z) q = ap (λ (b : Bool). if b then Some z else None) q
into_none c (Printed z) q = refl
into_none c (Decided z) q = refl
into_none c (Tried z) q = refl

last_none : (c : ℕ) (es : List Effect) → list_any (stores_into c) es ≡ false → last_of c es ≡ None
last_none c [] q = refl
last_none c (e ∷ es) q = let both = or_parts (stores_into c e) (list_any (stores_into c) es) q in rw (last_none c es both.1, into_none c e both.0) refl

-- each of these is a store, and none is into the cell of another
abbrev pub Once : List Effect → Type 0
Once [] = Unit {0}
Once (e ∷ es) = (d : ℕ) × (z : ℤ) × (e ≡ Stored d z) × (list_any (stores_into d) es ≡ false) × Once es

-- a cell is stored into after one more store where it was before, or is that store's
put_any : (c d : ℕ) (z : ℤ) (es : List Effect) → (d ≡ c → ⊥) → list_any (stores_into c) es ≡ false → list_any (stores_into c) (put d z es) ≡ false
put_any c d z [] apart q = rw (ne_eqb d c apart) refl
put_any c d z (e ∷ es) apart q =
    let both = or_parts (stores_into c e) (list_any (stores_into c) es) q in
    elim (cases_Bool (stores_into d e)) [
      | inl t ↦ rw t (rw (ne_eqb d c apart, both.1) refl)
      | inr t ↦ rw t (rw (both.0, put_any c d z es apart both.1) refl)
    ]

pub put_once : (c : ℕ) (z : ℤ) (es : List Effect) → Once es → Once (put c z es)
put_once c z [] h = (c, z, refl, refl, tt)
put_once c z (e ∷ es) h = elim (cases_Bool (stores_into c e)) [
  | inl t ↦
      let same : h.0 ≡ c = eqb-true h.0 c (sym (ap (stores_into c) h.2) ∙ t) in
      rw t (c, z, refl, ap (λ (n : ℕ). list_any (stores_into n) es) (sym same) ∙ h.3, h.4)
  | inr t ↦ rw t (h.0, h.1, h.2, put_any h.0 c z es (λ q. differ (sym (eq-eqb h.0 c (sym q)) ∙ ap (stores_into c) (sym h.2) ∙ t)) h.3, put_once c z es h.4)
]
  where
    differ : true ≡ false → ⊥
    differ e = absurd (cc e)

-- the value of a cell after one more store
put_here : (c : ℕ) (z : ℤ) (es : List Effect) → Once es → last_of c (put c z es) ≡ Some z
put_here c z [] h = rw (eq-eqb c c refl) refl
put_here c z (e ∷ es) h = elim (cases_Bool (stores_into c e)) [
  | inl t ↦
      let same : h.0 ≡ c = eqb-true h.0 c (sym (ap (stores_into c) h.2) ∙ t) in
      rw t (rw (last_none c es (ap (λ (n : ℕ). list_any (stores_into n) es) (sym same) ∙ h.3), eq-eqb c c refl) refl)
  | inr t ↦ rw t (ap (λ (o : Option ℤ). option_or o (stored_at c e)) (put_here c z es h.4))
]

put_there : (c d : ℕ) (z : ℤ) (es : List Effect) → (d ≡ c → ⊥) → last_of c (put d z es) ≡ last_of c es
put_there c d z [] apart = ap (λ (b : Bool). if b then Some z else None) (ne_eqb d c apart)
put_there c d z (e ∷ es) apart = elim (cases_Bool (stores_into d e)) [
  | inl t ↦ rw t (ap (option_or (last_of c es)) (ap (λ (b : Bool). if b then Some z else None) (ne_eqb d c apart) ∙ sym (into_none c e (other e t))))
  | inr t ↦ rw t (ap (λ (o : Option ℤ). option_or o (stored_at c e)) (put_there c d z es apart))
]
  where
    other : (e : Effect) → stores_into d e ≡ true → stores_into c e ≡ false
    other (Stored b y) t = ne_eqb b c (λ q. apart (sym (eqb-true b d t) ∙ q))
    other (Printed y) t = refl
    other (Decided y) t = refl
    other (Tried y) t = refl

pub after_once : (hidden : ℕ → Bool) (told : List Effect) (e : Effect) → Once told → Once (told_after hidden told e)
after_once hidden told (Stored c z) h = by (hidden c)
  where
    by : (b : Bool) → Once (if b then told else put c z told)
    by true = h
    by false = put_once c z told h
after_once hidden told (Printed z) h = h
after_once hidden told (Decided z) h = h
after_once hidden told (Tried z) h = h

after_last : (hidden : ℕ → Bool) (c : ℕ) → hidden c ≡ false → (told : List Effect) (e : Effect) → Once told →
    last_of c (told_after hidden told e) ≡ option_or (stored_at c e) (last_of c told)
after_last hidden c shown told (Printed z) h = refl
after_last hidden c shown told (Decided z) h = refl
after_last hidden c shown told (Tried z) h = refl
after_last hidden c shown told (Stored d z) h = elim (cases_eq d c) [
  | inl e ↦ rw (e, shown, eq-eqb c c refl) (put_here c z told h)
  | inr e ↦ rw (ne_eqb d c e) (by (hidden d) e)
]
  where
    by : (b : Bool) → (d ≡ c → ⊥) → last_of c (if b then told else put d z told) ≡ last_of c told
    by true e = refl
    by false e = put_there c d z told e

option_assoc : {X : Type 0} (a b c : Option X) → option_or (option_or a b) c ≡ option_or a (option_or b c)
option_assoc (Some x) b c = refl
option_assoc None b c = refl

behind_last : (hidden : ℕ → Bool) (c : ℕ) → hidden c ≡ false → (told es : List Effect) → Once told →
    last_of c (net_behind hidden told es) ≡ option_or (last_of c es) (last_of c told)
behind_last hidden c shown told [] h = refl
behind_last hidden c shown told (e ∷ es) h =
    behind_last hidden c shown (told_after hidden told e) es (after_once hidden told e h)
    ∙ ap (option_or (last_of c es)) (after_last hidden c shown told e h) ∙ sym (option_assoc (last_of c es) (stored_at c e) (last_of c told))

-- The net stores have the last value of each cell that isn't hidden.
pub net_last : (hidden : ℕ → Bool) (c : ℕ) → hidden c ≡ false → (es : List Effect) → last_of c (net_of hidden es) ≡ last_of c es
net_last hidden c shown es = behind_last hidden c shown [] es tt ∙ right (last_of c es)
  where
    right : (o : Option ℤ) → option_or o None ≡ o
    right (Some z) = refl
    right None = refl

-- A later stage's memory after the net stores of another stage's block agrees with that after all its effects.
pub agree_net : (m : Marks) (s t : ℕ) → (t ≡ s → ⊥) → (es : List Effect) (a b : List ℤ) → Agrees m s a b →
    Agrees m s (applied es a) (applied (net_of (m.hides t) es) b)
agree_net m s t other es a b ab = agree_after m s es (net_of (m.hides t) es) a b (λ c o. sym (net_last (m.hides t) c (o t other) es)) ab
