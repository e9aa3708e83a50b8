-- The queues of what is sent of a batch begin with what its iterations tell.
use Rattle.dp_semantics.proofs.Names.{◌≡◌, refl, sym, ap, ◌∙◌, subst, append_assoc, arith, leb-true, ℕ, zero, suc, ◌+◌, ◌-◌, ◌<◌, ◌≤◌, Bool, true, false}
use Rattle.dp_semantics.proofs.Names.{if◌then◌else◌, nat_le, List, [], ◌∷◌, ◌++◌, length, drop, drop-append_seam, get_or, get_or_append_left, slice_get}
use Rattle.dp_semantics.proofs.Names.{slice_get-get_or, slice_get_within, sum_by, sum_by-cons, map, length-map, Some, Load, stage_of, flat_map}
use Rattle.std.proofs.lemmas.List.Concat.{flat_map-cons}
use Rattle.std.proofs.lemmas.Option.{get_or_from_slice_get}
use Rattle.dp_tree.specs.Numbering.{numbers_from}
use Rattle.dp_tree.proofs.NumberLists.{length-numbers_from}
use Rattle.dp_semantics.specs.EpochKey.{EpochKey}
use Rattle.dp_net.specs.NetItems.{Marks}
use Rattle.dp_net.specs.Batches.{batch_begin}
use Rattle.dp_lean.specs.Queues.{Told, told_in, loads_told}
use Rattle.dp_lean_epoch.specs.Own.{own_items, own_steps, steps_at, own_told, own_loads, told_upto, loads_upto}
use Rattle.dp_lean_epoch.specs.Coming.{QueuesBring, LoadsComing}
use Rattle.dp_lean_epoch.specs.Holding.{Kept, StageColumns, BeginsWith, PlaceBegins, column_place, KeepsEnough, HoldsTold}
use Rattle.dp_lean_epoch.specs.LeanBatch.{LeanItem, no_columns, columns_of, queue_among, loads_among, steps_among, IsLeanBatch}
use Rattle.dp_lean_epoch.specs.Laws.{ComeOneByOne, QueuesCome, BatchesCome}

flat_none : {X : Type 0} (f : ℕ → List X) → ((n : ℕ) → f n ≡ []) → (ns : List ℕ) → flat_map f ns ≡ []
flat_none f none [] = refl
flat_none f none (n ∷ ns) = flat_map-cons f n ns ∙ ap (λ (xs : List _). xs ++ flat_map f ns) (none n) ∙ flat_none f none ns

-- what is behind the front
pub parted : {X : Type 0} (front queue : List X) → BeginsWith front queue → queue ≡ front ++ drop (length front) queue
parted front queue w = w.1 ∙ ap (λ (xs : List _). front ++ xs) (sym (drop-append_seam front w.0) ∙ ap (drop (length front)) (sym w.1))

-- a list of numbers, mapped
numbered_at : (f : ℕ → ℕ) (n k i : ℕ) → i < n → get_or (map f (numbers_from k n)) i 0 ≡ f (k + i)
numbered_at f zero k i low = absurd (omega (arith, low))
numbered_at f (suc n) k zero low = let same : k ≡ k + 0 = omega arith in ap f same
numbered_at f (suc n) k (suc i) low = let same : (k + 1) + i ≡ k + suc i = omega arith in numbered_at f n (k + 1) i (omega (arith, low)) ∙ ap f same

-- a sum over a list is one over its places
summed : {X : Type 0} (f : X → ℕ) (g : ℕ → ℕ) (xs : List X) (k : ℕ) → ((t : ℕ) (x : X) → slice_get xs t ≡ Some x → f x ≡ g (k + t)) →
    sum_by f xs ≡ sum_by g (numbers_from k (length xs))
summed f g [] k each = refl
summed f g (x ∷ xs) k each =
    let here : k + 0 ≡ k = omega arith in
    let one = each 0 x refl ∙ ap g here in
    let rest = summed f g xs (k + 1) (λ t y at. let same : k + suc t ≡ (k + 1) + t = omega arith in each (suc t) y at ∙ ap g same) in
    let left = sum_by-cons f x xs in
    let right = sum_by-cons g k (numbers_from (k + 1) (length xs)) in omega (arith, one, rest, left, right)

module _ (m : Marks) (key : EpochKey) where
  open key use {program, plan}

  pub come_one_by_one : (s k j : ℕ) → ComeOneByOne m key s k j
  come_one_by_one s k j = record {
    told = λ queues more coming y read. coming y read ∙ ap (λ (ts : List Told). ts ++ more y) (flat_map-cons (told_upto m key s y) k (numbers_from (k + 1) j))
        ∙ append_assoc (told_upto m key s y k) (flat_map (told_upto m key s y) (numbers_from (k + 1) j)) (more y);
    loads = λ loads more coming y read checked. coming y read checked
        ∙ ap (λ (ts : List (List Load)). ts ++ more y) (flat_map-cons (loads_upto m key (length plan.stages) y) k (numbers_from (k + 1) j))
        ∙ append_assoc (loads_upto m key (length plan.stages) y k) (flat_map (loads_upto m key (length plan.stages) y) (numbers_from (k + 1) j)) (more y);
  }

  module _ (kept : Kept) (enough : KeepsEnough m key kept) (cap s b : ℕ) (item : LeanItem) (is : IsLeanBatch m key kept cap s b item) where
    abbrev ns : List ℕ
    ns = numbers_from (batch_begin key cap b) item.stood.iterations

    -- the columns of a stage up to s
    there : (t : ℕ) → suc t ≤ s → HoldsTold m key kept (suc t) (batch_begin key cap b) item.stood.iterations (columns_of item.stages (suc t))
    there t low =
        let size = is.size in
        let place : suc t - 1 ≡ t = omega arith in
        subst (λ (u : ℕ). HoldsTold m key kept (suc t) (batch_begin key cap b) item.stood.iterations (get_or item.stages u no_columns)) (sym place)
        (is.holds t (get_or item.stages t no_columns) (slice_get-get_or item.stages t no_columns (omega (arith, low, size))))

    module _ {X : Type 0} (y : ℕ) (own : ℕ → List X) (none : stage_of program plan y ≡ 0 → (n : ℕ) → own n ≡ []) (lists : StageColumns → List (List X))
        (begins : (t : ℕ) → stage_of program plan y ≡ suc t → suc t ≤ s →
        PlaceBegins (flat_map own ns) (lists (columns_of item.stages (suc t))) (column_place key y)) where
      u : ℕ
      u = stage_of program plan y

      abbrev queue : List X
      queue = get_or (lists (columns_of item.stages (stage_of program plan y))) (column_place key y) []

      of_stage : (t : ℕ) → stage_of program plan y ≡ t → t ≤ s → BeginsWith (flat_map own ns) queue
      of_stage zero e low = (queue, ap (λ (front : List X). front ++ queue) (sym (flat_none own (none e) ns)))
      of_stage (suc t) e low =
          let p = begins t e low in (
            p.2.0,
            ap (λ (v : ℕ). get_or (lists (columns_of item.stages v)) (column_place key y) []) e
                ∙ get_or_from_slice_get (lists (columns_of item.stages (suc t))) (column_place key y) p.0 [] p.1 ∙ p.2.1,
          )

      pub comes : queue ≡ flat_map (λ (n : ℕ). if nat_le (stage_of program plan y) s then own n else []) ns
          ++ drop (length (flat_map (λ (n : ℕ). if nat_le (stage_of program plan y) s then own n else []) ns)) queue
      comes = parted (flat_map (λ (n : ℕ). if nat_le (stage_of program plan y) s then own n else []) ns) queue (by (nat_le (stage_of program plan y) s) refl)
        where
          by : (b : Bool) → nat_le (stage_of program plan y) s ≡ b → BeginsWith (flat_map (λ (n : ℕ). if b then own n else []) ns) queue
          by true e = of_stage (stage_of program plan y) refl (leb-true (stage_of program plan y) s e)
          by false e = (queue, ap (λ (front : List X). front ++ queue) (sym (flat_none (λ (n : ℕ). []) (λ n. refl) ns)))

    told_come : QueuesBring m key s (batch_begin key cap b) item.stood.iterations (queue_among key item.stages)
        (λ (y : ℕ). drop (length (flat_map (told_upto m key s y) ns)) (queue_among key item.stages y))
    told_come y read = comes y (own_told m key y) (λ e n. ap (λ (v : ℕ). told_in y (own_items m key v n)) e) (λ (c : StageColumns). c.columns.told)
        (λ t e low. let h = there t low in h.told y e (enough.told (suc s) y read (omega (arith, e, low))))

    loads_come : s ≡ length plan.stages → LoadsComing m key (batch_begin key cap b) item.stood.iterations (loads_among key item.stages)
        (λ (y : ℕ). drop (length (flat_map (loads_upto m key (length plan.stages) y) ns)) (loads_among key item.stages y))
    loads_come all y read checked = subst (λ (v : ℕ). loads_among key item.stages y
        ≡ flat_map (loads_upto m key v y) ns ++ drop (length (flat_map (loads_upto m key v y) ns)) (loads_among key item.stages y)) all
        (comes y (own_loads m key y) (λ e n. ap (λ (v : ℕ). loads_told y [] (own_items m key v n)) e) (λ (c : StageColumns). c.columns.loads)
        (λ t e low. let h = there t low in h.loads y e (enough.loads y read checked)))

    -- the steps of a stage at one of the iterations
    steps_there : (t i : ℕ) → suc t ≤ s → i < item.stood.iterations → (c : StageColumns) → slice_get item.stages t ≡ Some c →
        get_or c.steps i 0 ≡ own_steps m key (suc t) (batch_begin key cap b + i)
    steps_there t i low less c at =
        let h = is.holds t c at in
        let size : i < length (map (own_steps m key (suc t)) ns) = let l = length-map ns (own_steps m key (suc t)) in let n = length-numbers_from
        (batch_begin key cap b) item.stood.iterations in omega (arith, l, n, less) in
        ap (λ (xs : List ℕ). get_or xs i 0) h.steps.1
        ∙ get_or_append_left (map (own_steps m key (suc t)) ns) h.steps.0 0 i size
        ∙ numbered_at (own_steps m key (suc t)) item.stood.iterations (batch_begin key cap b) i less

    steps_come : s ≡ length plan.stages → (i : ℕ) → i < item.stood.iterations → steps_among item.stages i ≡ steps_at m key (batch_begin key cap b + i)
    steps_come all i less =
        summed (λ (c : StageColumns). get_or c.steps i 0) (λ (t : ℕ). own_steps m key t (batch_begin key cap b + i)) item.stages 1
        (λ t c at. steps_there t i (let w = slice_get_within item.stages t c at in let size = is.size in omega (arith, w, size)) less c at
        ∙ (let one : suc t ≡ 1 + t = omega arith in ap (λ (u : ℕ). own_steps m key u (batch_begin key cap b + i)) one))
        ∙ ap (λ (n : ℕ). sum_by (λ (t : ℕ). own_steps m key t (batch_begin key cap b + i)) (numbers_from 1 n)) (is.size ∙ all)

    queues_come : QueuesCome m key kept cap s b item
    queues_come = record { told = (_, told_come); loads = λ all. (_, loads_come all); steps = steps_come }

  pub batches_come : (kept : Kept) → BatchesCome m key kept
  batches_come kept enough cap s b item is = queues_come kept enough cap s b item is
