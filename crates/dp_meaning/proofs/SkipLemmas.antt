-- The memory after the steps of an iteration.
use Rattle.dp_meaning.proofs.Names.{inl, ◌≡◌, refl, sym, ap, ◌∙◌, ℕ, Bool, true, false, not, if◌then◌else◌, List, [], ◌∷◌, drop, ℤ, Option, Some, is_zero, Stmt}
use Rattle.dp_meaning.proofs.Names.{out-Stmt, Stmt-F, Program, Effect, Stored, Event, value_of, stored, Config, Stepped, step, step_from, standing, stored_by}
use Rattle.dp_meaning.proofs.Names.{region_number, clear_one, clear_locals, cleared_leaving, cleared_at, leaves, stepped, not_stepped, next_at, part_from}
use Rattle.dp_meaning.proofs.Names.{part_of, stores_of, with_stores, is_any_region, from_region}
use Rattle.dp_theorem.proofs.Memory.{clear-at, clear-still}
use Rattle.dp_meaning.specs.declared.ends.Part.TheVariants as part
use Rattle.dp_tree.specs.declared.Stmt.TheOpen.{Region, Break}
use Rattle.dp_tree.proofs.Heads.{taken}

-- the memory after these events
abbrev pub after_events : List Event → List ℤ → List ℤ
after_events [] cells = cells
after_events (e ∷ rest) cells = after_events rest (stored e.effect cells)

-- an event's store is the change that it makes
pub stores_are_changes : (events : List Event) (cells : List ℤ) → with_stores (stores_of events) cells ≡ after_events events cells
stores_are_changes [] cells = refl
stores_are_changes (e ∷ events) cells = by e.effect (λ next. stores_are_changes events next)
  where
    by : (effect : Effect) → ((next : List ℤ) → with_stores (stores_of events) next ≡ after_events events next) →
        with_stores (stores_of (record e { effect = effect } ∷ events)) cells ≡ after_events events (stored effect cells)
    by (Stored c v) go = go (stored (Stored c v) cells)
    by _ go = go cells

-- the effect alone changes it, unless a break is taken
stored_is : (p : Program) (rest : List Stmt) (h : Stmt-F Stmt) (effect : Effect) (cells : List ℤ) →
    stored_by p rest h effect cells ≡ (if taken h (value_of effect) then cleared_leaving p rest (stored effect cells) else stored effect cells)
stored_is p rest (Break site cond) effect cells = by (is_zero (value_of effect))
  where
    by : (b : Bool) → (if b then stored effect cells else cleared_leaving p rest (stored effect cells)) ≡ (if not b then cleared_leaving p rest
        (stored effect cells) else stored effect cells)
    by true = refl
    by false = refl
stored_is p rest _ effect cells = refl

module _ (p : Program) (input : List ℤ) (c d : Config) (event : Event) (s : step p input c ≡ Stepped event d) where
  memory_is : d ≡ standing p d.to_do (if leaves event.effect then cleared_leaving p (drop 1 c.to_do) (stored event.effect c.cells)
      else stored event.effect c.cells)
  memory_is = by c.to_do refl
    where
      by : (xs : List Stmt) → c.to_do ≡ xs →
          d ≡ standing p d.to_do (if leaves event.effect then cleared_leaving p (drop 1 c.to_do) (stored event.effect c.cells) else stored event.effect c.cells)
      by [] e = not_stepped p input c event d e s
      by (x ∷ rest) e =
          let st = stepped p input c x rest event d e s in
          next_at p input x rest c.cells (out-Stmt x) event d (sym (ap (step_from p input c.cells) e) ∙ s)
          ∙ ap (λ (xs : List Stmt). standing p xs (stored_by p rest (out-Stmt x) event.effect c.cells)) (sym st.to_do)
          ∙ ap (standing p d.to_do) (stored_is p rest (out-Stmt x) event.effect c.cells
          ∙ ap (λ (b : Bool). if b then cleared_leaving p rest (stored event.effect c.cells) else stored event.effect c.cells) (sym st.left)
          ∙ ap (λ (xs : List Stmt). if leaves event.effect then cleared_leaving p (drop 1 xs) (stored event.effect c.cells)
          else stored event.effect c.cells) (sym e))

  abbrev Memory : Bool → Config
  Memory b = standing p d.to_do (if b then cleared_leaving p (drop 1 c.to_do) (stored event.effect c.cells) else stored event.effect c.cells)

  pub memory_kept : leaves event.effect ≡ false → d ≡ standing p d.to_do (stored event.effect c.cells)
  memory_kept no_break = memory_is ∙ ap Memory no_break

  -- where a break is taken, the locals of its region are cleared
  pub memory_left : leaves event.effect ≡ true → d ≡ standing p d.to_do (cleared_leaving p (drop 1 c.to_do) (stored event.effect c.cells))
  memory_left breaks = memory_is ∙ ap Memory breaks

-- the next region's locals are cleared, and nothing in front of it
pub leaving_from : (p : Program) (xs : List Stmt) (cells : List ℤ) → cleared_leaving p xs cells ≡ cleared_leaving p (from_region xs) cells
leaving_from p [] cells = refl
leaving_from p (x ∷ xs) cells = by (out-Stmt x) refl (leaving_from p xs cells)
  where
    by : (h : Stmt-F Stmt) → out-Stmt x ≡ h → cleared_leaving p xs cells ≡ cleared_leaving p (from_region xs) cells →
        clear_one p (region_number h) cells (cleared_leaving p xs cells) ≡ cleared_leaving p (if is_any_region h then x ∷ xs else from_region xs) cells
    by (Region r site cond a) is later = sym (ap (λ (h : Stmt-F Stmt). clear_one p (region_number h) cells (cleared_leaving p xs cells)) is)
    by _ is later = later

number_of : (h : Stmt-F Stmt) (r : ℕ) → part_from h ≡ part.Region r → (region_number h ≡ Some r)
    × ((p : Program) (cells : List ℤ) → cleared_at p h cells ≡ clear_locals r p.vars cells)
number_of (Region q site cond a) r e = let same : q ≡ r = cc in (ap Some same, λ p cells. ap (λ (k : ℕ). clear_locals k p.vars cells) same)
number_of _ r e = absurd (cc)

-- where a region is next
pub leaving_at : (p : Program) (xs : List Stmt) (r : ℕ) (cells : List ℤ) → part_of xs ≡ part.Region r → cleared_leaving p xs cells ≡ clear_locals r p.vars cells
leaving_at p [] r cells e = absurd (cc)
leaving_at p (x ∷ xs) r cells e = ap (λ (o : Option ℕ). clear_one p o cells (cleared_leaving p xs cells)) (number_of (out-Stmt x) r e).0

pub standing_at : (p : Program) (xs : List Stmt) (r : ℕ) (cells : List ℤ) → part_of xs ≡ part.Region r →
    (standing p xs cells).cells ≡ clear_locals r p.vars cells
standing_at p [] r cells e = absurd (cc)
standing_at p (x ∷ xs) r cells e = (number_of (out-Stmt x) r e).1 p cells

-- .. only what it is without the region's locals counts
pub standing_alike : (p : Program) (xs : List Stmt) (r : ℕ) (left right : List ℤ) → part_of xs ≡ part.Region r →
    clear_locals r p.vars left ≡ clear_locals r p.vars right → standing p xs left ≡ standing p xs right
standing_alike p [] r left right e same = absurd (cc)
standing_alike p (x ∷ rest) r left right e same =
    ap (λ (cells : List ℤ). record { to_do = x ∷ rest; cells = cells }) (standing_at p (x ∷ rest) r left e ∙ same ∙ sym (standing_at p (x ∷ rest) r right e))

-- a region's locals stay cleared
pub cleared_still : (p : Program) (xs : List Stmt) (r : ℕ) (c : Config) (cells : List ℤ) → part_of xs ≡ part.Region r → c ≡ standing p xs cells →
    clear_locals r p.vars c.cells ≡ c.cells
cleared_still p xs r c cells e is =
    let here : c.cells ≡ clear_locals r p.vars cells = ap (λ (d : Config). d.cells) is ∙ standing_at p xs r cells e in
    ap (clear_locals r p.vars) here ∙ clear-still r p.vars (clear_locals r p.vars cells) (λ c local. clear-at r c p.vars cells (inl local)) ∙ sym here
