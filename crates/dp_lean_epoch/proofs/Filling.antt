-- Own items that are put into columns are held there, iteration after iteration.
use Rattle.dp_semantics.proofs.Names.{◌≡◌, refl, sym, ap, ◌∙◌, subst, append_assoc, append-nil, arith, ℕ, zero, suc, ◌+◌, ◌-◌, ◌<◌, ◌≤◌, Bool, true, List, []}
use Rattle.dp_semantics.proofs.Names.{◌∷◌, ◌++◌, length, map, map-append, Some, slice_get, Load, first_site, stage_of, flat_map, flat_map-append}
use Rattle.std.proofs.lemmas.List.Concat.{flat_map-cons}
use Rattle.dp_tree.specs.Numbering.{numbers_from}
use Rattle.dp_tree.proofs.NumberLists.{numbers_from-append}
use Rattle.dp_semantics.specs.EpochKey.{EpochKey}
use Rattle.dp_net.specs.NetItems.{Marks, Item}
use Rattle.dp_lean.specs.Queues.{Told, told_in, loads_told}
use Rattle.dp_columns.specs.declared.ColumnKind.{ColumnKind}
use Rattle.dp_columns.specs.Columned.{Columned, nothing_kept}
use Rattle.dp_columns.specs.Telling.{put_item, put_items}
use Rattle.dp_columns.proofs.QueueLists.{told_held, loads_held}
use Rattle.dp_lean_epoch.specs.Own.{own_items, own_steps, own_told, own_loads}
use Rattle.dp_lean_epoch.specs.Holding.{Kept, StageColumns, BeginsWith, PlaceBegins, column_place, HoldsTold, items_since, columns_filled, HavePlaces}
use Rattle.dp_lean_epoch.specs.Holding.{QueuesGrown}
use Rattle.dp_lean_epoch.specs.Laws.{ColumnsFill}
use Rattle.dp_lean_epoch.proofs.OwnWhole.{site_from}
use Rattle.dp_lean_epoch.proofs.OwnItems.{since_whole, told_since, loads_since}
use Rattle.dp_lean_epoch.proofs.StepCounts.{numbers_push}

put_all : (first : ℕ) (told loads : ℕ → Bool) (a b : List Item) (c : Columned) →
    put_items first told loads (a ++ b) c ≡ put_items first told loads b (put_items first told loads a c)
put_all first told loads [] b c = refl
put_all first told loads (i ∷ a) b c = put_all first told loads a b (put_item first told loads i c)

-- a list that begins with two parts begins with the first
shorter : {X : Type 0} (a b : List X) (whole : List X) → BeginsWith (a ++ b) whole → BeginsWith a whole
shorter a b whole w = (b ++ w.0, w.1 ∙ append_assoc a b w.0)

pub place_shorter : {X : Type 0} (a b : List X) (lists : List (List X)) (place : ℕ) → PlaceBegins (a ++ b) lists place → PlaceBegins a lists place
place_shorter a b lists place p = (p.0, p.1, shorter a b p.0 p.2)

-- .. and so does a list that is longer
place_longer : {X : Type 0} (front : List X) (old new : List (List X)) (place : ℕ) →
    ((queue : List X) → slice_get old place ≡ Some queue → PlaceBegins queue new place) → PlaceBegins front old place → PlaceBegins front new place
place_longer front old new place grown p =
    let q = grown p.0 p.1 in
    (q.0, q.1, (p.2.0 ++ q.2.0, q.2.1 ∙ ap (λ (xs : List _). xs ++ q.2.0) p.2.1 ∙ append_assoc front p.2.0 q.2.0))

nothing_there : {X K : Type 0} (f : K → List X) → ((kind : K) → f kind ≡ []) → (kinds : List K) (place : ℕ) → place < length kinds →
    slice_get (map f kinds) place ≡ Some []
nothing_there f none [] place low = absurd (omega (arith, low))
nothing_there f none (kind ∷ kinds) zero low = ap Some (none kind)
nothing_there f none (kind ∷ kinds) (suc place) low = nothing_there f none kinds place (omega (arith, low))

-- more iterations are some, and others
numbers_split : (k i j : ℕ) → i ≤ j → numbers_from k j ≡ numbers_from k i ++ numbers_from (k + i) (j - i)
numbers_split k i j low = let parts : j ≡ i + (j - i) = omega (arith, low) in ap (numbers_from k) parts ∙ numbers_from-append k i (j - i)

module _ (m : Marks) (key : EpochKey) (kept : Kept) where
  open key use {program, plan}

  abbrev first : ℕ
  first = first_site program plan

  pub holds_front : (t k i j : ℕ) → i ≤ j → (c : StageColumns) → HoldsTold m key kept t k j c → HoldsTold m key kept t k i c
  holds_front t k i j low c h = record {
    told = λ y here keeps. place_shorter (flat_map (own_told m key y) (numbers_from k i))
        (flat_map (own_told m key y) (numbers_from (k + i) (j - i))) c.columns.told (column_place key y)
        (subst (λ (f : List Told). PlaceBegins f c.columns.told (column_place key y)) (parts (own_told m key y)) (h.told y here keeps));
    loads = λ y here keeps. place_shorter (flat_map (own_loads m key y) (numbers_from k i))
        (flat_map (own_loads m key y) (numbers_from (k + i) (j - i))) c.columns.loads (column_place key y)
        (subst (λ (f : List (List Load)). PlaceBegins f c.columns.loads (column_place key y)) (parts (own_loads m key y)) (h.loads y here keeps));
    steps = shorter (map (own_steps m key t) (numbers_from k i)) (map (own_steps m key t) (numbers_from (k + i) (j - i))) c.steps
        (subst (λ (f : List ℕ). BeginsWith f c.steps)
        (ap (map (own_steps m key t)) (numbers_split k i j low) ∙ map-append (own_steps m key t) (numbers_from k i) (numbers_from (k + i) (j - i))) h.steps);
  }
    where
      parts : {X : Type 0} (f : ℕ → List X) → flat_map f (numbers_from k j) ≡ flat_map f (numbers_from k i) ++ flat_map f (numbers_from (k + i) (j - i))
      parts f = ap (flat_map f) (numbers_split k i j low) ∙ flat_map-append f (numbers_from k i) (numbers_from (k + i) (j - i))

  holds_grown : (t k j : ℕ) (c d : StageColumns) → HoldsTold m key kept t k j c → QueuesGrown c.columns d.columns → c.steps ≡ d.steps →
      HoldsTold m key kept t k j d
  holds_grown t k j c d h grown same = record {
    told = λ y here keeps. place_longer (flat_map (own_told m key y) (numbers_from k j)) c.columns.told d.columns.told (column_place key y)
        (grown.told (column_place key y)) (h.told y here keeps);
    loads = λ y here keeps. place_longer (flat_map (own_loads m key y) (numbers_from k j)) c.columns.loads d.columns.loads (column_place key y)
        (grown.loads (column_place key y)) (h.loads y here keeps);
    steps = subst (λ (f : List ℕ). BeginsWith (map (own_steps m key t) (numbers_from k j)) f) same h.steps;
  }

  module _ (kinds : List ColumnKind) (places : HavePlaces m key kept kinds) where
    pub further : (t k j : ℕ) → put_items first kept.told kept.loads (own_items m key t (k + j)) (columns_filled m key kept kinds t k j)
        ≡ columns_filled m key kept kinds t k (suc j)
    further t k j =
        sym (put_all first kept.told kept.loads (items_since m key kept t k j) (own_items m key t (k + j)) (nothing_kept kinds))
        ∙ ap (λ (is : List Item). put_items first kept.told kept.loads is (nothing_kept kinds)) (sym since_more)
      where
        since_more : items_since m key kept t k (suc j) ≡ items_since m key kept t k j ++ own_items m key t (k + j)
        since_more = ap (flat_map (own_items m key t)) (numbers_push k j)
            ∙ flat_map-append (own_items m key t) (numbers_from k j) ((k + j) ∷ [])
            ∙ ap (λ (is : List Item). items_since m key kept t k j ++ is)
            (flat_map-cons (own_items m key t) (k + j) [] ∙ append-nil (own_items m key t (k + j)))

    told_there : (t k j : ℕ) → 0 < t → (y : ℕ) → stage_of program plan y ≡ t → kept.told y ≡ true →
        PlaceBegins (flat_map (own_told m key y) (numbers_from k j)) (columns_filled m key kept kinds t k j).told (column_place key y)
    told_there t k j some y here keeps =
        let w = since_whole m key t k j some in (
          told_in y (items_since m key kept t k j),
          told_held first kept.told kept.loads y (site_from program plan y t here some) keeps (items_since m key kept t k j) w.from (nothing_kept kinds) []
              (nothing_there _ (λ kind. refl) kinds (column_place key y) (places.0 y keeps)),
          (
            [],
            told_since m key t k j y ∙ ap (λ (u : ℕ). flat_map (λ (n : ℕ). told_in y (own_items m key u n)) (numbers_from k j)) (sym here)
                ∙ sym (append-nil (flat_map (own_told m key y) (numbers_from k j))),
          ),
        )

    loads_there : (t k j : ℕ) → 0 < t → (y : ℕ) → stage_of program plan y ≡ t → kept.loads y ≡ true →
        PlaceBegins (flat_map (own_loads m key y) (numbers_from k j)) (columns_filled m key kept kinds t k j).loads (column_place key y)
    loads_there t k j some y here keeps =
        let w = since_whole m key t k j some in (
          loads_told y [] (items_since m key kept t k j),
          loads_held first kept.told kept.loads y (site_from program plan y t here some) keeps (items_since m key kept t k j) w.from
              (nothing_kept kinds) [] [] (
                nothing_there _ (λ kind. refl) kinds (column_place key y) (places.1 y keeps),
                nothing_there _ (λ kind. refl) kinds (column_place key y)
                    (places.1 y keeps),
              ),
          (
            [],
            loads_since m key t k j y some ∙ ap (λ (u : ℕ). flat_map (λ (n : ℕ). loads_told y [] (own_items m key u n)) (numbers_from k j)) (sym here)
                ∙ sym (append-nil (flat_map (own_loads m key y) (numbers_from k j))),
          ),
        )

    pub columns_fill : ColumnsFill m key kept kinds
    columns_fill = record {
      further = further;
      steps = λ t k j. sym (map-append (own_steps m key t) (numbers_from k j) ((k + j) ∷ [])) ∙ ap (map (own_steps m key t)) (sym (numbers_push k j));
      holds = λ t k j some. record {
        told = told_there t k j some;
        loads = loads_there t k j some;
        steps = ([], sym (append-nil (map (own_steps m key t) (numbers_from k j))));
      };
      front = holds_front;
      grown = holds_grown;
    }
