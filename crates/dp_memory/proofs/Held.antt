-- What a group holds where its own pages hold the same cells.
use Rattle.std.proofs.Common.{◌≡◌, ℕ, ℤ, ◌+◌, ◌<◌, List, [], ◌∷◌, drop, length, arith, map, refl, Option, Some, None, sym, ap, ◌∙◌, slice_get, get_or}
use Rattle.std.proofs.Math.ListN.{set}
use Rattle.std.proofs.lemmas.List.{map-set, set-get_or, length-map, drop_more}
use Rattle.std.proofs.lemmas.Option.{slice_get-map, slice_get-get_or, slice_get_within, get_or_from_slice_get}
use Rattle.std.specs.Option.{option_map}
use Rattle.std.specs.Result.{OnOk}
use Rattle.std.specs.Prelude.{Result, Ok, Err}
use Rattle.dp_memory.specs.Pieces.{with_cell}
use Rattle.std.specs.declared.sync.Arc.{Arc}
use Rattle.std.specs.declared.vec.Vec.{Vec}
use Rattle.std.specs.declared.alloc.Global.{Global}
use Rattle.dp_memory.specs.declared.piece.Piece.{Piece}
use Rattle.dp_memory.specs.Piece.{held, items_of, pages_of}

pub held_same : {X Y : Type 0} (f : X → Y) (own other : List X) (shared : Option (Arc (Vec X Global) Global)) → map f other ≡ map f own →
    map f (held other shared) ≡ map f (held own shared)
unfolding held
held_same f own other None e = e
held_same f own other (Some items) e = refl

pub pages_same : (own other : List (Piece ℤ)) (shared : Option (Arc (Vec (Piece ℤ) Global) Global)) → map items_of other ≡ map items_of own →
    map items_of (held other shared) ≡ map items_of (held own shared)
pages_same own other shared e = held_same items_of own other shared e

pub own_items : {X : Type 0} (own : List X) (shared : Option (Arc (Vec X Global) Global)) → shared ≡ None → held own shared ≡ own
unfolding held
own_items own None e = refl
own_items own (Some items) e = absurd (cc e)

pub own_cells : (own : List ℤ) (shared : Option (Arc (Vec ℤ Global) Global)) → shared ≡ None → held own shared ≡ own
own_cells own shared e = own_items own shared e

pub stands : {X : Type 0} (xs : List X) (i : ℕ) (x : X) → i < length xs → x ≡ get_or xs i x → slice_get xs i ≡ Some x
stands xs i x lt e = slice_get-get_or xs i x lt ∙ ap Some (sym e)

pub item_at : {X Y : Type 0} (f : X → Y) (xs : List X) (i : ℕ) (x : X) (y : Y) → slice_get xs i ≡ Some x → slice_get (map f xs) i ≡ Some y → f x ≡ y
item_at f xs i x y at there =
    let both : Some (f x) ≡ Some y = sym (slice_get-map f xs i ∙ ap (option_map f) at) ∙ there in
    cc both

-- a group that is its own: what it shows, and with another page in one place
module _ (group : Piece (Piece ℤ)) (none : group.shared ≡ None) (pages : List (List ℤ)) (same : pages_of group ≡ pages) (at : ℕ) (cells : List ℤ)
    (there : slice_get pages at ≡ Some cells) where
  shown : map items_of group.own.items ≡ pages
  shown = ap (map items_of) (sym (own_items group.own.items group.shared none)) ∙ same

  pub page_in : at < length group.own.items
  page_in =
      let within = slice_get_within pages at cells there in
      let count = ap length shown in
      let long : length (map items_of group.own.items) ≡ length group.own.items = length-map group.own.items items_of in
      omega arith

  module _ (page : Piece ℤ) (stood : page ≡ get_or group.own.items at page) where
    pub page_is : items_of page ≡ cells
    page_is = item_at items_of group.own.items at page cells (stands group.own.items at page page_in stood) (ap (λ r. slice_get r at) shown ∙ there)

    module _ (other : Piece ℤ) where
      other_shown : map items_of (held (set group.own.items at other) group.shared) ≡ set pages at (items_of other)
      other_shown = ap (map items_of) (own_items (set group.own.items at other) group.shared none) ∙ map-set items_of group.own.items at other
          ∙ ap (λ r. set r at (items_of other)) shown

      pub pages_set : (place : ℕ) (value : ℤ) → items_of other ≡ set (items_of page) place value →
          map items_of (held (set group.own.items at other) group.shared) ≡ with_cell pages at place value
      pages_set place value e =
          other_shown ∙ ap (set pages at) (e ∙ ap (λ r. set r place value) (page_is ∙ sym (get_or_from_slice_get pages at cells [] there)))

      pub pages_kept : items_of other ≡ items_of page → map items_of (held (set group.own.items at other) group.shared) ≡ pages
      pages_kept e = other_shown ∙ ap (set pages at) (e ∙ page_is ∙ sym (get_or_from_slice_get pages at cells [] there)) ∙ set-get_or pages at []

pub drop_one : {X : Type 0} (xs : List X) (i : ℕ) (x : X) → slice_get xs i ≡ Some x → drop i xs ≡ x ∷ drop (i + 1) xs
drop_one xs i x e = drop_more xs i x (slice_get_within xs i x e) ∙ ap (λ y. y ∷ drop (i + 1) xs) (get_or_from_slice_get xs i x x e)

pub on_ok : {T E P Q : Type 0} (r : Result T E) → (P → Q) → OnOk r P → OnOk r Q
on_ok (Ok x) f p = f p
on_ok (Err e) f p = tt
