-- How columns are seen.
use Rattle.std.specs.Prelude.{List, map}
use Rattle.dp_columns.specs.Paired.{Grouped}
use Rattle.dp_columns.specs.Held.{told_of, begun_stores}
use Rattle.dp_columns.specs.Columned.{Columned}
use Rattle.dp_columns.specs.declared.column.Column.{Column}

-- what these columns and these events of loads hold
abbrev pub kept_of : List Column → List Grouped → Columned
kept_of told loads = record {
  kinds = map (λ (c : Column). c.kind) told;
  told = map told_of told;
  stores = map begun_stores told;
  loads = map (λ (e : Grouped). e.ended) loads;
  loading = map (λ (e : Grouped). e.unfinished) loads;
}
