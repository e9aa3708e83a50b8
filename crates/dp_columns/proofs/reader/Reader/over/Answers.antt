use Rattle.std.proofs.Common.{◌∙◌, sym, ap, length, map}
use Rattle.dp_columns.specs.Held.{told_of}
use Rattle.dp_columns.specs.Paired.{Grouped}
use Rattle.dp_columns.proofs.ColumnLists.{kind_of}
use Rattle.dp_columns.proofs.MarkLists.{marked_start, left_all}
use Rattle.dp_columns.proofs.reader.Reader.over.Goals as goal

pub invariant_of-result : goal.invariant_of-result
invariant_of-result c =
    let same = ap length c.as_slice-loads.ensures ∙ c.columns.invariant ∙ sym (ap length c.as_slice-told.ensures) in
    marked_start c.as_slice-told.result.now c.as_slice-loads.result.now c.begin.new.marks c.begin-2.new.marks c.in_ok-begin.ensures c.in_ok-begin-2.ensures same

pub returns : goal.returns
returns c =
    left_all c.as_slice-told.result.now c.as_slice-loads.result.now c.begin.new.marks c.begin-2.new.marks c.in_ok-begin.ensures c.in_ok-begin-2.ensures
    ∙ (λ k. record {
      kinds = map kind_of (c.as_slice-told.ensures k);
      told = map told_of (c.as_slice-told.ensures k);
      loads = map (λ (g : Grouped).
          g.ended) (c.as_slice-loads.ensures k);
    })
    ∙ (λ k. record { kinds = (c.columns.view_is k).kinds; told = (c.columns.view_is k).told; loads = (c.columns.view_is k).loads })
