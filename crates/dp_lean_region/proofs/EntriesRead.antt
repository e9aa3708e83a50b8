-- Each entry of the judge's code reads what its seat's reader keeps.
use Rattle.std.proofs.Common.{◌≡◌, refl, ap, ◌∙◌, ℕ, zero, suc, ◌==◌, if◌then◌else◌, Bool, true, false, List, [], ◌∷◌, Some, nat_le, get_or, slice_get, subst}
use Rattle.dp_base.specs.declared.CellId.{CellId}
use Rattle.dp_base.specs.declared.SiteId.{SiteId}
use Rattle.dp_tree.specs.declared.Program.{Program}
use Rattle.dp_tree.specs.Inlined.{IsInlined}
use Rattle.dp_plan.specs.declared.Plan.{Plan}
use Rattle.dp_plan.specs.Access.{first_site}
use Rattle.dp_semantics.specs.Fits.{fits_plan}
use Rattle.dp_semantics.specs.Judge.{last}
use Rattle.dp_semantics.proofs.Each.{Each}
use Rattle.dp_lean_judge.specs.Stages.{HasStages}
use Rattle.dp_code.specs.declared.Op.TheVariants as op
use Rattle.dp_columns.specs.Left.{Left}
use Rattle.dp_columns.specs.declared.ColumnKind.{ColumnKind}
use Rattle.dp_columns.specs.declared.ColumnKind.TheVariants as kind
use Rattle.dp_lean_code.specs.declared.LeanOp.{LeanOp}
use Rattle.dp_lean_code.specs.declared.LeanOp.TheVariants.{Plain, Meet}
use Rattle.dp_lean_code.specs.Known.{paying_marks}
use Rattle.dp_lean_code.specs.LeanCode.{lean_code}
use Rattle.dp_lean_turn.specs.Left.{all_kinds}
use Rattle.dp_lean_judge.specs.declared.ready.Entry.{Entry}
use Rattle.dp_lean_judge.specs.declared.ready.Entry.TheVariants as entry
use Rattle.dp_lean_judge.specs.declared.ready.Seat.{Seat}
use Rattle.dp_lean_judge.specs.Ready.{AllKept, KeptFor, seat_kind, seat_of, seat_entry, store_entry, entry_of, lands}
unfoldable use Rattle.dp_lean_judge.specs.Ready.{entries_of}
use Rattle.dp_lean_judge.specs.Shown.{reader_at}
use Rattle.dp_lean_region.specs.Region.{plan_kinds}
use Rattle.dp_lean_region.proofs.ReadCodes.{kept_at, OpKept, code_kept}

reader_kinds : (readers : List Left) (i : ℕ) → (reader_at readers i).kinds ≡ get_or (all_kinds readers) i []
reader_kinds [] i = refl
reader_kinds (r ∷ readers) zero = refl
reader_kinds (r ∷ readers) (suc i) = reader_kinds readers i

module _ (p : Program) (plan : Plan) (inlined : IsInlined p) (fits : fits_plan p plan ≡ true) (stages : HasStages p plan) (readers : List Left)
    (same : all_kinds readers ≡ plan_kinds p plan) where
  at_seat : (site : SiteId) (k : ColumnKind) → kept_at p plan inlined fits stages site.0 ≡ Some k → seat_kind readers (seat_of p plan site.0) ≡ Some k
  at_seat site k kept =
      let seat = seat_of p plan site.0 in
      ap (λ (own : List ColumnKind). slice_get own seat.column) (reader_kinds readers seat.reader
      ∙ ap (λ (all : List (List ColumnKind)). get_or all seat.reader []) same) ∙ kept

  -- of a site before the region nothing is read
  seated : (site : SiteId) (make : Seat → Entry) → KeptFor readers (make (seat_of p plan site.0)) → KeptFor readers (seat_entry p plan site make)
  seated site make kept = by (nat_le (first_site p plan) site.0)
    where
      by : (b : Bool) → KeptFor readers (if b then make (seat_of p plan site.0) else entry.Other)
      by true = kept
      by false = tt

  stored : (seat : Seat) (first : CellId) (count next : ℕ) → seat_kind readers seat ≡ Some (if count == 1 then kind.Value first.0 else kind.Element) →
      KeptFor readers (store_entry p plan first count next seat)
  stored seat first count next = by (count == 1)
    where
      by : (one : Bool) → seat_kind readers seat ≡ Some (if one then kind.Value first.0 else kind.Element) →
          KeptFor readers (if one then entry.Scalar seat first next else entry.Element seat first count next)
      by true kept = kept
      by false kept = kept

  module _ (code : List LeanOp) where
    entry_kept : (o : LeanOp) (next : ℕ) → OpKept p plan inlined fits stages o → KeptFor readers (entry_of p plan code next o)
    entry_kept (Plain (op.Consume site first count)) next kept =
        seated site (store_entry p plan first count (lands code next)) (stored (seat_of p plan site.0) first count (lands code next) (at_seat site _ kept))
    entry_kept (Plain (op.ConsumePrint site)) next kept = seated site (λ seat. entry.Print seat (lands code next)) (at_seat site _ kept)
    entry_kept (Plain (op.ConsumeBranch site to)) next kept = seated site (λ seat. entry.Choice seat (lands code to) (lands code next)) (at_seat site _ kept)
    entry_kept (Meet site) next kept = seated site (λ seat. entry.Block seat (lands code next)) (at_seat site _ kept)
    entry_kept (Plain op.End) next kept = tt
    entry_kept _ next kept = tt

    entries_kept : (ops : List LeanOp) (k : ℕ) → Each (OpKept p plan inlined fits stages) ops → AllKept readers (entries_of p plan code k ops)
    unfolding entries_of
    entries_kept [] k kept place e here = absurd (cc here)
    entries_kept (o ∷ ops) k kept zero e here = subst (KeptFor readers) (cc here) (entry_kept o (suc k) kept.0)
    entries_kept (o ∷ ops) k kept (suc place) e here = entries_kept ops (suc k) kept.1 place e here

  -- so it is of all entries of the judge's code
  pub all_read : AllKept readers (entries_of p plan (lean_code p plan (last plan) (paying_marks p plan)) 0 (lean_code p plan (last plan) (paying_marks p plan)))
  all_read = entries_kept (lean_code p plan (last plan) (paying_marks p plan)) (lean_code p plan (last plan) (paying_marks p plan)) 0
      (code_kept p plan inlined fits stages)
