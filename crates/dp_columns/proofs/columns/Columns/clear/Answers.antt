use Rattle.std.proofs.Common.{◌∙◌, sym, ap, ℕ, map, replicate}
use Rattle.std.proofs.lemmas.List.{length-map}
use Rattle.dp_columns.specs.Held.{no_events}
use Rattle.dp_columns.specs.Columned.{Columned, nothing_kept}
use Rattle.dp_columns.proofs.ColumnLists.{kind_of, kept_nothing}
use Rattle.dp_columns.proofs.columns.Columns.clear.Goals as goal

pub returns : goal.returns
returns c =
    let told = c.self.inside.told in
    let loads = c.clear_events.ensures ∙ ap (λ (n : ℕ). replicate n no_events) (c.self.invariant ∙ sym (length-map told kind_of)) in
    kept_nothing (map kind_of told) c.clear_columns.new.told c.clear_events.new.loads c.clear_columns.ensures loads
    ∙ ap (λ (k : Columned). nothing_kept k.kinds) c.self.view_is
