-- Columns where one of them changed.
use Rattle.std.proofs.Common.{◌≡◌, refl, sym, ap, subst, ◌∙◌, ℕ, suc, ◌+◌, List, [], ◌∷◌, ◌++◌, ℤ, length, map, drop, slice_get, slice_set, replicate}
use Rattle.std.proofs.Common.{Some, All, arith}
use Rattle.std.proofs.lemmas.List.{map-append, append_assoc}
use Rattle.std.proofs.lemmas.List.Elements.{All-push}
use Rattle.dp_tree.specs.Eval.{Load}
use Rattle.dp_tree.specs.Step.{Effect}
use Rattle.dp_lean.specs.Queues.{Told, Did, DidBlock}
use Rattle.dp_columns.specs.declared.ColumnKind.{ColumnKind}
use Rattle.dp_columns.specs.declared.ColumnKind.TheVariants.{Nothing, Value, Element, Block}
use Rattle.dp_columns.specs.declared.column.Column.{Column}
use Rattle.dp_columns.specs.Paired.{Grouped, did, as_store, block_told}
use Rattle.dp_columns.specs.Held.{told_by, told_of, begun_stores, IsEmpty, AreEmpty, no_events}
use Rattle.dp_columns.specs.Columned.{Columned, nothing_kept, added_at, with_told, with_block_stores, block_ended, with_loads, loads_ended, ToldStays}
use Rattle.dp_columns.specs.Columned.{KeepsValues, KeepsElements, KeepsBlocks, value_cell}
use Rattle.dp_columns.specs.Viewed.{kept_of}
use Rattle.dp_columns.proofs.Behind.{block_behind, loads_behind}
use Rattle.dp_columns.proofs.Places.{set_again, at_map, same_map, grown_map, set_map, rest_at}

abbrev pub kind_of : Column → ColumnKind
kind_of c = c.kind

pub of_value : (k : ColumnKind) → KeepsValues (Some k) → k ≡ Value (value_cell (Some k))
of_value (Value cell) is = refl
of_value Nothing is = absurd is
of_value Element is = absurd is
of_value Block is = absurd is

pub of_element : (k : ColumnKind) → KeepsElements (Some k) → k ≡ Element
of_element Element is = refl
of_element Nothing is = absurd is
of_element (Value cell) is = absurd is
of_element Block is = absurd is

pub of_block : (k : ColumnKind) → KeepsBlocks (Some k) → k ≡ Block
of_block Block is = refl
of_block Nothing is = absurd is
of_block (Value cell) is = absurd is
of_block Element is = absurd is

module _ (columns : List Column) (loads : List Grouped) (place : ℕ) (c : Column) (at : slice_get columns place ≡ Some c) where
  kind_there : slice_get (map kind_of columns) place ≡ Some c.kind
  kind_there = at_map kind_of columns place c at

  pub told_more : (d : Column) (t : Told) → d.kind ≡ c.kind → told_of d ≡ told_of c ++ t ∷ [] → d.blocks ≡ c.blocks →
      kept_of (slice_set columns place d) loads ≡ with_told place t (kept_of columns loads)
  told_more d t kind more blocks =
      let kinds = same_map kind_of columns place c d at kind in
      let told = grown_map told_of columns place c d t at more in
      let stores = same_map begun_stores columns place c d at (λ k. map as_store (blocks k).unfinished) in
      λ k. record {
        kinds = kinds k;
        told = told k;
        stores = stores k;
        loads = map (λ (e : Grouped). e.ended) loads;
        loading = map (λ (e : Grouped).
            e.unfinished) loads;
      }

  pub same_column : (d : Column) → d ≡ c → kept_of (slice_set columns place d) loads ≡ kept_of columns loads
  same_column d e = ap (λ (cs : List Column). kept_of cs loads) (ap (slice_set columns place) e ∙ set_again columns place c at)

  value_there : KeepsValues (slice_get (map kind_of columns) place) → c.kind ≡ Value (value_cell (slice_get (map kind_of columns) place))
  value_there is = of_value c.kind (subst KeepsValues kind_there is) ∙ ap (λ o. Value (value_cell o)) (sym kind_there)

  module _ (old : Columned) (seen : kept_of columns loads ≡ old) where
    pub value_put : (vs : List ℤ) (v : ℤ) → KeepsValues (slice_get old.kinds place) → vs ≡ c.values ++ v ∷ [] →
        kept_of (slice_set columns place (record { kind = c.kind; values = vs; elements = c.elements; blocks = c.blocks })) loads
        ≡ with_told place (Did (value_cell (slice_get old.kinds place)) v) old
    value_put vs v is more =
        subst (λ (o : Columned). KeepsValues (slice_get o.kinds place) → kept_of (slice_set columns place d) loads ≡ with_told place
        (Did (value_cell (slice_get o.kinds place)) v) o)
        seen here is
      where
        d : Column
        d = record { kind = c.kind; values = vs; elements = c.elements; blocks = c.blocks }

        here : KeepsValues (slice_get (map kind_of columns) place) →
            kept_of (slice_set columns place d) loads ≡ with_told place (Did (value_cell (slice_get (map kind_of columns) place)) v) (kept_of columns loads)
        here is =
            let cell = value_cell (slice_get (map kind_of columns) place) in
            let kind = value_there is in
            told_more d (Did cell v) refl
            (ap (λ k. told_by k d) kind ∙ ap (map (Did cell)) more ∙ map-append (Did cell) c.values (v ∷ [])
            ∙ ap (λ (q : List Told). q ++ Did cell v ∷ []) (sym (ap (λ k. told_by k c) kind))) refl

    pub element_put : (es : List Load) (l : Load) → KeepsElements (slice_get old.kinds place) → es ≡ c.elements ++ l ∷ [] →
        kept_of (slice_set columns place (record { kind = c.kind; values = c.values; elements = es; blocks = c.blocks })) loads ≡ with_told place (did l) old
    element_put es l is more =
        let d : Column = record { kind = c.kind; values = c.values; elements = es; blocks = c.blocks } in
        let kind = of_element c.kind (subst KeepsElements (ap (λ (o : Columned). slice_get o.kinds place) (sym seen) ∙ kind_there) is) in
        told_more d (did l) refl
        (ap (λ k. told_by k d) kind ∙ ap (map did) more ∙ map-append did c.elements (l ∷ [])
        ∙ ap (λ (q : List Told). q ++ did l ∷ []) (sym (ap (λ k. told_by k c) kind))) refl
        ∙ ap (with_told place (did l)) seen

    block_there : KeepsBlocks (slice_get old.kinds place) → c.kind ≡ Block
    block_there is = of_block c.kind (subst KeepsBlocks (ap (λ (o : Columned). slice_get o.kinds place) (sym seen) ∙ kind_there) is)

    pub block_put : (bs : Grouped) (ls : List Load) → KeepsBlocks (slice_get old.kinds place) →
        bs ≡ record { ended = c.blocks.ended ++ (c.blocks.unfinished ++ ls) ∷ []; unfinished = [] } →
        kept_of (slice_set columns place (record { kind = c.kind; values = c.values; elements = c.elements; blocks = bs })) loads
        ≡ block_ended place (with_block_stores place (map as_store ls) old)
    block_put bs ls is more =
        let d : Column = record { kind = c.kind; values = c.values; elements = c.elements; blocks = bs } in
        let all : List Load = c.blocks.unfinished ++ ls in
        let kind = block_there is in
        let grown = ap (λ k. told_by k d) kind ∙ (λ k. map block_told (more k).ended) ∙ map-append block_told c.blocks.ended (all ∷ [])
        ∙ ap (λ (q : List Told). q ++ block_told all ∷ []) (sym (ap (λ k. told_by k c) kind)) in
        let told = grown_map told_of columns place c d (block_told all) at grown
        ∙ ap (λ (s : List Effect). added_at place (DidBlock s) (map told_of columns)) (map-append as_store c.blocks.unfinished ls) in
        let kinds = same_map kind_of columns place c d at refl in
        let stores = set_map begun_stores columns place d [] (λ k. map as_store (more k).unfinished) in
        (λ k. record {
          kinds = kinds k;
          told = told k;
          stores = stores k;
          loads = map (λ (e : Grouped). e.ended) loads;
          loading = map (λ (e : Grouped).
              e.unfinished) loads;
        })
        ∙ sym (block_behind place (map as_store ls) (kept_of columns loads) (begun_stores c) (at_map begun_stores columns place c at))
        ∙ ap (λ (k : Columned). block_ended place (with_block_stores place (map as_store ls) k)) seen

    pub same_told : (bs : Grouped) → KeepsBlocks (slice_get old.kinds place) → bs.ended ≡ c.blocks.ended →
        ToldStays old (kept_of (slice_set columns place (record { kind = c.kind; values = c.values; elements = c.elements; blocks = bs })) loads)
    same_told bs is same =
        let d : Column = record { kind = c.kind; values = c.values; elements = c.elements; blocks = bs } in
        let kind = block_there is in
        let told = ap (λ k. told_by k d) kind ∙ ap (map block_told) same ∙ sym (ap (λ k. told_by k c) kind) in
        record {
          kinds = same_map kind_of columns place c d at refl ∙ ap (λ (k : Columned). k.kinds) seen;
          told = same_map told_of columns place c d at told ∙ ap (λ (k : Columned). k.told) seen;
          loads = ap (λ (k : Columned). k.loads) seen;
        }

-- .. and events of loads
module _ (columns : List Column) (loads : List Grouped) (place : ℕ) (g : Grouped) (at : slice_get loads place ≡ Some g) where
  module _ (old : Columned) (seen : kept_of columns loads ≡ old) where
    pub loads_put : (d : Grouped) (ls : List Load) → d ≡ record { ended = g.ended ++ (g.unfinished ++ ls) ∷ []; unfinished = [] } →
        kept_of columns (slice_set loads place d) ≡ loads_ended place (with_loads place ls old)
    loads_put d ls more =
        let ended = grown_map (λ (e : Grouped). e.ended) loads place g d (g.unfinished ++ ls) at (λ k. (more k).ended) in
        let unfinished = set_map (λ (e : Grouped). e.unfinished) loads place d [] (λ k. (more k).unfinished) in
        (λ k. record { kinds = map kind_of columns; told = map told_of columns; stores = map begun_stores columns; loads = ended k; loading = unfinished k })
        ∙ sym (loads_behind place ls (kept_of columns loads) g.unfinished (at_map (λ (e : Grouped). e.unfinished) loads place g at))
        ∙ ap (λ (k : Columned). loads_ended place (with_loads place ls k)) seen

    pub same_loads : (d : Grouped) → d.ended ≡ g.ended → ToldStays old (kept_of columns (slice_set loads place d))
    same_loads d same = record {
      kinds = ap (λ (k : Columned). k.kinds) seen;
      told = ap (λ (k : Columned). k.told) seen;
      loads = same_map (λ (e : Grouped). e.ended) loads place g d at same ∙ ap (λ (k : Columned). k.loads) seen;
    }

-- columns made one after the other
pub column_pushed : (kinds : List ColumnKind) (told new : List Column) (d : Column) (i : ℕ) (k : ColumnKind) → slice_get kinds i ≡ Some k → d.kind ≡ k →
    IsEmpty d → new ≡ told ++ d ∷ [] →
    (map kind_of told ++ drop i kinds ≡ kinds) × All IsEmpty told → (map kind_of new ++ drop (i + 1) kinds ≡ kinds) × All IsEmpty new
column_pushed kinds told new d i k at kind empty e made =
    let one : i + 1 ≡ suc i = omega arith in (
      (λ j. map kind_of (e j) ++ drop (one j) kinds) ∙ ap (λ (ks : List ColumnKind). ks ++ drop (suc i) kinds) (map-append kind_of told (d ∷ [])
          ∙ ap (λ (x : ColumnKind). map kind_of told ++ x ∷ []) kind)
          ∙ append_assoc (map kind_of told) (k ∷ []) (drop (suc i) kinds) ∙ ap (λ (ks : List ColumnKind). map kind_of told ++ ks)
          (sym (rest_at kinds i k at)) ∙ made.0,
      subst (All IsEmpty) (sym e) (All-push IsEmpty told d made.1 empty),
    )

-- columns that hold nothing
told_none : (c : Column) → IsEmpty c → told_of c ≡ []
told_none c e = by c.kind
  where
    by : (k : ColumnKind) → told_by k c ≡ []
    by Nothing = refl
    by (Value cell) = ap (map (Did cell)) e.values
    by Element = ap (map did) e.elements
    by Block = λ k. map block_told (e.blocks k).ended

none_each : {X : Type 0} (f : Column → List X) → ((c : Column) → IsEmpty c → f c ≡ []) → (columns : List Column) → All IsEmpty columns →
    map f columns ≡ map (λ _. []) (map kind_of columns)
none_each f none [] all = refl
none_each f none (c ∷ columns) all = λ k. none c (all 0 c (omega arith)) k ∷ none_each f none columns (λ i d lt. all (suc i) d (omega (arith, lt))) k

no_loads : {X : Type 0} (kinds : List ColumnKind) (f : Grouped → List X) → f no_events ≡ [] → map f (replicate (length kinds) no_events) ≡ map (λ _. []) kinds
no_loads [] f e = refl
no_loads (x ∷ kinds) f e = λ k. e k ∷ no_loads kinds f e k

pub kept_nothing : (kinds : List ColumnKind) (columns : List Column) (loads : List Grouped) → AreEmpty kinds columns →
    loads ≡ replicate (length kinds) no_events →
    kept_of columns loads ≡ nothing_kept kinds
kept_nothing kinds columns loads empty e =
    let told = none_each told_of told_none columns empty.1 ∙ ap (map (λ _. [])) empty.0 in
    let stores = none_each begun_stores (λ c n. λ k. map as_store (n.blocks k).unfinished) columns empty.1 ∙ ap (map (λ _. [])) empty.0 in
    let ended = ap (map (λ (g : Grouped). g.ended)) e ∙ no_loads kinds (λ (g : Grouped). g.ended) refl in
    let unfinished = ap (map (λ (g : Grouped). g.unfinished)) e ∙ no_loads kinds (λ (g : Grouped). g.unfinished) refl in
    λ k. record { kinds = empty.0 k; told = told k; stores = stores k; loads = ended k; loading = unfinished k }
