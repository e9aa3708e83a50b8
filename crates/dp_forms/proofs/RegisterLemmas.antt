-- Reads and writes of a memory, some of whose cells are held in registers.
use Rattle.std.proofs.Common.{◌≡◌, ◌≢◌, refl, sym, ap, ◌∙◌, subst, ℕ, suc, ◌+◌, ◌-◌, ◌<◌, ◌≤◌, ◌==◌, Bool, true, false, if◌then◌else◌, List, [], ◌∷◌, ℤ, pos}
use Rattle.std.proofs.Common.{length, get_or, set, nat_lt, arith}
use Rattle.std.proofs.lemmas.Bool.{eqb-true, eq-eqb, ltb-true, ltb-false}
use Rattle.std.proofs.lemmas.List.{get_or-set_same, get_or-set_other, length-set, set_comm, set-set}
use Rattle.dp_forms.specs.Registers.{is_register_home, homes_apart}
unfoldable use Rattle.dp_forms.specs.Registers.{merged}

-- registers are no cells more
pub length_merged : (homes : List ℕ) (values cells : List ℤ) → length (merged homes values cells) ≡ length cells
unfolding merged
length_merged [] values cells = refl
length_merged (home ∷ homes) [] cells = refl
length_merged (home ∷ homes) (value ∷ values) cells = length-set (merged homes values cells) home value ∙ length_merged homes values cells

get_or_next : (x : ℤ) (xs : List ℤ) (k : ℕ) → get_or (x ∷ xs) (k + 1) (pos 0) ≡ get_or xs k (pos 0)
get_or_next x xs k = let e : k + 1 ≡ suc k = omega arith in rw e refl

set_next : (x : ℤ) (xs : List ℤ) (k : ℕ) (v : ℤ) → set (x ∷ xs) (k + 1) v ≡ x ∷ set xs k v
set_next x xs k v = let e : k + 1 ≡ suc k = omega arith in rw e refl

-- a head that isn't the cell, and then isn't the register's
data Later (homes : List ℕ) (register cell home : ℕ) : Type 0 where
  here : home ≡ cell → register ≡ 0 → Later homes register cell home
  behind : (cell ≢ home) → (k : ℕ) → register ≡ k + 1 → is_register_home homes k cell ≡ true → Later homes register cell home

later : (homes : List ℕ) (register cell home : ℕ) → is_register_home (home ∷ homes) register cell ≡ true → Later homes register cell home
later homes register cell home is = by (home == cell) (register == 0) refl refl is
  where
    by : (a b : Bool) → (home == cell) ≡ a → (register == 0) ≡ b → (if a then b else (if b then false else is_register_home homes (register - 1) cell)) ≡ true →
        Later homes register cell home
    by true true same none is = here (eqb-true home cell same) (eqb-true register 0 none)
    by true false same none is = absurd (cc is)
    by false true same none is = absurd (cc is)
    by false false same none is =
        let other : cell ≢ home = λ (e : cell ≡ home). absurd (cc (same, eq-eqb home cell (sym e))) in
        let some : register ≢ 0 = λ (e : register ≡ 0). absurd (cc (none, eq-eqb register 0 e)) in
        behind other (register - 1) (omega (arith, some)) is

-- a register's home cell reads as the register
pub get_register : (homes : List ℕ) (values cells : List ℤ) (register cell : ℕ) → is_register_home homes register cell ≡ true → cell < length cells →
    register < length values →
    get_or (merged homes values cells) cell (pos 0) ≡ get_or values register (pos 0)
unfolding merged
get_register [] values cells register cell home below within = absurd (cc home)
get_register (first ∷ homes) [] cells register cell home below within = absurd (omega (arith, within))
get_register (first ∷ homes) (value ∷ values) cells register cell home below within =
    by (get_register homes values cells) (later homes register cell first home)
  where
    rest : List ℤ
    rest = merged homes values cells

    long : length rest ≡ length cells
    long = length_merged homes values cells

    by : ((k c : ℕ) → is_register_home homes k c ≡ true → c < length cells → k < length values → get_or rest c (pos 0) ≡ get_or values k (pos 0)) →
        Later homes register cell first →
        get_or (set rest first value) cell (pos 0) ≡ get_or (value ∷ values) register (pos 0)
    by go (here same none) =
        let fits : cell < length rest = omega (arith, below, long) in
        subst (λ (k : ℕ). get_or (set rest first value) cell (pos 0) ≡ get_or (value ∷ values) k (pos 0)) (sym none)
        (subst (λ (c : ℕ). get_or (set rest c value) cell (pos 0) ≡ value) (sym same) (get_or-set_same rest cell value (pos 0) fits))
    by go (behind other k more is) =
        let there : k < length values = omega (arith, within, more) in
        get_or-set_other rest first cell value (pos 0) other ∙ go k cell is below there
        ∙ sym (subst (λ (j : ℕ). get_or (value ∷ values) j (pos 0) ≡ get_or values k (pos 0)) (sym more) (get_or_next value values k))

-- a write to it is one to the register
pub set_register : (homes : List ℕ) (values cells : List ℤ) (register cell : ℕ) (v : ℤ) → is_register_home homes register cell ≡ true →
    register < length values →
    set (merged homes values cells) cell v ≡ merged homes (set values register v) cells
unfolding merged
set_register [] values cells register cell v home within = absurd (cc home)
set_register (first ∷ homes) [] cells register cell v home within = absurd (omega (arith, within))
set_register (first ∷ homes) (value ∷ values) cells register cell v home within = by (set_register homes values cells) (later homes register cell first home)
  where
    rest : List ℤ
    rest = merged homes values cells

    by : ((k c : ℕ) (w : ℤ) → is_register_home homes k c ≡ true → k < length values → set rest c w ≡ merged homes (set values k w) cells) →
        Later homes register cell first → set (set rest first value) cell v ≡ merged (first ∷ homes) (set (value ∷ values) register v) cells
    by go (here same none) =
        subst (λ (k : ℕ). set (set rest first value) cell v ≡ merged (first ∷ homes) (set (value ∷ values) k v) cells) (sym none)
        (subst (λ (c : ℕ). set (set rest first value) c v ≡ set rest first v) same (set-set rest first value v))
    by go (behind other k more is) =
        let there : k < length values = omega (arith, within, more) in
        subst (λ (j : ℕ). set (set rest first value) cell v ≡ merged (first ∷ homes) (set (value ∷ values) j v) cells) (sym more)
        (subst (λ (xs : List ℤ). set (set rest first value) cell v ≡ merged (first ∷ homes) xs cells) (sym (set_next value values k v))
        (set_comm rest first cell value v (λ (e : first ≡ cell). other (sym e)) ∙ ap (λ (xs : List ℤ). set xs first value) (go k cell v is there)))

-- a cell of an array that lies apart reads as it is, and is written as it is
record Aside (homes : List ℕ) (first count home k : ℕ) : Type 0 where
  other : first + k ≢ home
  rest : homes_apart homes first count ≡ true

aside : (homes : List ℕ) (first count home k : ℕ) → homes_apart (home ∷ homes) first count ≡ true → k < count → Aside homes first count home k
aside homes first count home k is within = by (nat_lt home first) (nat_lt home (first + count)) refl refl is
  where
    by : (a b : Bool) → nat_lt home first ≡ a → nat_lt home (first + count) ≡ b →
        (if a then homes_apart homes first count else (if b then false else homes_apart homes first count)) ≡ true → Aside homes first count home k
    by true b before after is = let less : home < first = ltb-true home first before in
        record { other = λ (e : first + k ≡ home). absurd (omega (arith, e, less)); rest = is }
    by false true before after is = absurd (cc is)
    by false false before after is = let more : first + count ≤ home = ltb-false home (first + count) after in
        record { other = λ (e : first + k ≡ home). absurd (omega (arith, e, more, within)); rest = is }

pub get_apart : (homes : List ℕ) (values cells : List ℤ) (first count k : ℕ) → homes_apart homes first count ≡ true → k < count →
    get_or (merged homes values cells) (first + k) (pos 0) ≡ get_or cells (first + k) (pos 0)
unfolding merged
get_apart [] values cells first count k apart within = refl
get_apart (home ∷ homes) [] cells first count k apart within = refl
get_apart (home ∷ homes) (value ∷ values) cells first count k apart within =
    let a : Aside homes first count home k = aside homes first count home k apart within in
    get_or-set_other (merged homes values cells) home (first + k) value (pos 0) a.other ∙ get_apart homes values cells first count k a.rest within

pub set_apart : (homes : List ℕ) (values cells : List ℤ) (first count k : ℕ) (v : ℤ) → homes_apart homes first count ≡ true → k < count →
    set (merged homes values cells) (first + k) v ≡ merged homes values (set cells (first + k) v)
unfolding merged
set_apart [] values cells first count k v apart within = refl
set_apart (home ∷ homes) [] cells first count k v apart within = refl
set_apart (home ∷ homes) (value ∷ values) cells first count k v apart within =
    let a : Aside homes first count home k = aside homes first count home k apart within in
    set_comm (merged homes values cells) home (first + k) value v (λ (e : home ≡ first + k). a.other (sym e))
    ∙ ap (λ (xs : List ℤ). set xs home value) (set_apart homes values cells first count k v a.rest within)
