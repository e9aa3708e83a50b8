-- What is left of columns, where one mark moves.
use Rattle.std.proofs.Common.{◌≡◌, refl, sym, ap, subst, ◌∙◌, ℕ, suc, ◌≤◌, List, length, map, drop, set, slice_get, slice_set, replicate, Some, None, All}
use Rattle.std.specs.List.{zip}
use Rattle.std.proofs.lemmas.List.{length-set, length-replicate}
use Rattle.std.proofs.lemmas.List.Elements.{All-set, All-get_or}
use Rattle.std.proofs.lemmas.Option.{get_or_from_slice_get, slice_get_within}
use Rattle.dp_tree.specs.Eval.{Load}
use Rattle.dp_lean.specs.Queues.{Told}
use Rattle.dp_columns.specs.declared.ColumnKind.TheVariants.{Value, Element, Block}
use Rattle.dp_columns.specs.declared.column.Column.{Column}
use Rattle.dp_columns.specs.declared.events.Mark.{Mark}
use Rattle.dp_columns.specs.Paired.{Grouped}
use Rattle.dp_columns.specs.Held.{told_of}
use Rattle.dp_columns.specs.Columned.{KeepsValues, KeepsElements, KeepsBlocks, value_cell}
use Rattle.dp_columns.specs.Left.{Left, TookTold, TookLoads}
use Rattle.dp_columns.specs.Marked.{told_behind, loads_behind, FitsTold, FitsLoads, AreMarked, left_behind_marks}
use Rattle.dp_columns.proofs.ColumnLists.{kind_of, of_value, of_element, of_block}
use Rattle.dp_columns.proofs.Places.{at_map, set_map, rest_at, rest_none, zip_at, zip_set, zip_same, zip_all}

module _ {A B : Type 0} (P : A × B → Type 0) where
  pub all_there : (xs : List A) (bs : List B) (i : ℕ) (a : A) (b : B) → slice_get xs i ≡ Some a → slice_get bs i ≡ Some b → All P (zip xs bs) → P (a, b)
  all_there xs bs i a b e f all =
      let there = zip_at xs bs i a b e f in
      subst P (get_or_from_slice_get (zip xs bs) i (a, b) (a, b) there) (All-get_or P (zip xs bs) i (a, b) (slice_get_within (zip xs bs) i (a, b) there) all)

  pub all_moved : (xs : List A) (bs : List B) (i : ℕ) (a : A) (b : B) → slice_get xs i ≡ Some a → P (a, b) → All P (zip xs bs) → All P (zip xs (set bs i b))
  all_moved xs bs i a b e p all = subst (All P) (sym (zip_set xs bs i a b e)) (All-set P (zip xs bs) i (a, b) p all)

module _ (columns : List Column) (events : List Grouped) (marks loads_marks : List Mark) where
  module _ (place : ℕ) (c : Column) (at : slice_get columns place ≡ Some c) where
    -- the mark of a column moves
    moved_told : (next : Mark) → FitsTold (c, next) → AreMarked columns events marks loads_marks →
        AreMarked columns events (slice_set marks place next) loads_marks
    moved_told next fits m = record {
      places = m.places;
      each = length-set marks place next ∙ m.each;
      each_loads = m.each_loads;
      told = all_moved FitsTold columns marks place c next at fits m.told;
      loads = m.loads;
    }

    pub marked_told : (next : Mark) (new : List Mark) → new ≡ slice_set marks place next → FitsTold (c, next) →
        AreMarked columns events marks loads_marks → AreMarked columns events new loads_marks
    marked_told next new e fits m = subst (λ (ms : List Mark). AreMarked columns events ms loads_marks) (sym e) (moved_told next fits m)

    module _ (old : Left) (seen : left_behind_marks columns events marks loads_marks ≡ old) where
      kind_seen : slice_get old.kinds place ≡ Some c.kind
      kind_seen = ap (λ (l : Left). slice_get l.kinds place) (sym seen) ∙ at_map kind_of columns place c at

      pub value_seen : KeepsValues (slice_get old.kinds place) → c.kind ≡ Value (value_cell (slice_get old.kinds place))
      value_seen is = of_value c.kind (subst KeepsValues kind_seen is) ∙ ap (λ o. Value (value_cell o)) (sym kind_seen)

      pub element_seen : KeepsElements (slice_get old.kinds place) → c.kind ≡ Element
      element_seen is = of_element c.kind (subst KeepsElements kind_seen is)

      pub block_seen : KeepsBlocks (slice_get old.kinds place) → c.kind ≡ Block
      block_seen is = of_block c.kind (subst KeepsBlocks kind_seen is)

    module _ (mark : Mark) (there : slice_get marks place ≡ Some mark) (old : Left) (seen : left_behind_marks columns events marks loads_marks ≡ old) where
      queue_there : slice_get old.told place ≡ Some (drop mark.at (told_of c))
      queue_there = ap (λ (l : Left). slice_get l.told place) (sym seen) ∙ at_map told_behind (zip columns marks) place (c, mark)
          (zip_at columns marks place c mark at there)

      taken_told : (t : Told) (next : Mark) → slice_get (told_of c) mark.at ≡ Some t → next.at ≡ suc mark.at →
          TookTold old place (Some t) (left_behind_marks columns events (slice_set marks place next) loads_marks)
      taken_told t next found behind =
          let rest = drop (suc mark.at) (told_of c) in
          let moved = ap (map told_behind) (zip_set columns marks place c next at) ∙ set_map told_behind (zip columns marks) place (c, next) rest
          (ap (λ (n : ℕ). drop n (told_of c)) behind) in (
            rest,
            queue_there ∙ ap Some (rest_at (told_of c) mark.at t found),
            (λ k. record { kinds = map (λ (d : Column). d.kind) columns; told = moved k; loads = map loads_behind (zip events loads_marks) })
                ∙ (λ k. record { kinds = (seen k).kinds; told = slice_set (seen k).told place rest; loads = (seen k).loads }),
          )

      pub took_told : (t : Told) (next : Mark) (new : List Mark) → new ≡ slice_set marks place next → slice_get (told_of c) mark.at ≡ Some t →
          next.at ≡ suc mark.at →
          TookTold old place (Some t) (left_behind_marks columns events new loads_marks)
      took_told t next new e found behind =
          subst (λ (ms : List Mark). TookTold old place (Some t) (left_behind_marks columns events ms loads_marks)) (sym e) (taken_told t next found behind)

      pub told_none_left : length (told_of c) ≤ mark.at → TookTold old place None old
      told_none_left le = (queue_there ∙ ap Some (rest_none (told_of c) mark.at le), refl)

  module _ (place : ℕ) (g : Grouped) (at : slice_get events place ≡ Some g) where
    moved_loads : (next : Mark) → FitsLoads (g, next) → AreMarked columns events marks loads_marks →
        AreMarked columns events marks (slice_set loads_marks place next)
    moved_loads next fits m = record {
      places = m.places;
      each = m.each;
      each_loads = length-set loads_marks place next ∙ m.each_loads;
      told = m.told;
      loads = all_moved FitsLoads events loads_marks place g next at fits m.loads;
    }

    pub marked_loads : (next : Mark) (new : List Mark) → new ≡ slice_set loads_marks place next → FitsLoads (g, next) →
        AreMarked columns events marks loads_marks → AreMarked columns events marks new
    marked_loads next new e fits m = subst (AreMarked columns events marks) (sym e) (moved_loads next fits m)

    module _ (mark : Mark) (there : slice_get loads_marks place ≡ Some mark) (old : Left)
        (seen : left_behind_marks columns events marks loads_marks ≡ old) where
      loads_there : slice_get old.loads place ≡ Some (drop mark.at g.ended)
      loads_there = ap (λ (l : Left). slice_get l.loads place) (sym seen) ∙ at_map loads_behind (zip events loads_marks) place (g, mark)
          (zip_at events loads_marks place g mark at there)

      taken_loads : (ls : List Load) (next : Mark) → slice_get g.ended mark.at ≡ Some ls → next.at ≡ suc mark.at →
          TookLoads old place (Some ls) (left_behind_marks columns events marks (slice_set loads_marks place next))
      taken_loads ls next found behind =
          let rest = drop (suc mark.at) g.ended in
          let moved = ap (map loads_behind) (zip_set events loads_marks place g next at) ∙ set_map loads_behind (zip events loads_marks) place (g, next) rest
          (ap (λ (n : ℕ). drop n g.ended) behind) in (
            rest,
            loads_there ∙ ap Some (rest_at g.ended mark.at ls found),
            (λ k. record { kinds = map (λ (d : Column). d.kind) columns; told = map told_behind (zip columns marks); loads = moved k })
                ∙ (λ k. record { kinds = (seen k).kinds; told = (seen k).told; loads = slice_set (seen k).loads place rest }),
          )

      pub took_loads : (ls : List Load) (next : Mark) (new : List Mark) → new ≡ slice_set loads_marks place next → slice_get g.ended mark.at ≡ Some ls →
          next.at ≡ suc mark.at →
          TookLoads old place (Some ls) (left_behind_marks columns events marks new)
      took_loads ls next new e found behind =
          subst (λ (ms : List Mark). TookLoads old place (Some ls) (left_behind_marks columns events marks ms)) (sym e) (taken_loads ls next found behind)

      pub loads_none_left : length g.ended ≤ mark.at → TookLoads old place None old
      loads_none_left le = (loads_there ∙ ap Some (rest_none g.ended mark.at le), refl)

-- all marks at the start
abbrev pub at_start : Mark
at_start = record { at = 0; from = 0 }

module _ (columns : List Column) (events : List Grouped) (marks loads_marks : List Mark) (e : marks ≡ replicate (length columns) at_start)
    (f : loads_marks ≡ replicate (length events) at_start) where
  pub marked_start : length events ≡ length columns → AreMarked columns events marks loads_marks
  marked_start same = record {
    places = same;
    each = ap length e ∙ length-replicate (length columns) at_start;
    each_loads = ap length f ∙ length-replicate (length events) at_start;
    told = subst (λ (ms : List Mark). All FitsTold (zip columns ms)) (sym e) (zip_all FitsTold columns at_start (λ c b. refl));
    loads = subst (λ (ms : List Mark). All FitsLoads (zip events ms)) (sym f) (zip_all FitsLoads events at_start (λ g. refl));
  }

  pub left_all : left_behind_marks columns events marks loads_marks
      ≡ record { kinds = map (λ (c : Column). c.kind) columns; told = map told_of columns; loads = map (λ (g : Grouped). g.ended) events }
  left_all =
      let told = ap (λ (ms : List Mark). map told_behind (zip columns ms)) e ∙ zip_same told_behind columns at_start in
      let loads = ap (λ (ms : List Mark). map loads_behind (zip events ms)) f ∙ zip_same loads_behind events at_start in
      λ k. record { kinds = map (λ (c : Column). c.kind) columns; told = told k; loads = loads k }
