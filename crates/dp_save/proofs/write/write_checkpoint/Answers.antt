use Rattle.std.proofs.Common.{◌≡◌, [], ◌++◌, List, ℕ, ℤ, sym, ap, subst, ◌∙◌, codes}
use Rattle.dp_base.specs.declared.RegionReport.{RegionReport}
use Rattle.dp_save.specs.CheckpointText.{CheckpointText}
use Rattle.dp_save.specs.WrittenText.{cells_text, checkpoint_bytes, reports_text}
use Rattle.dp_save.proofs.ReadBack.{written_back}
use Rattle.dp_save.proofs.WriteLemmas.{checkpoint_grew}
use Rattle.dp_save.proofs.write.write_checkpoint.Goals as goal

pub returns-clause-text : goal.returns-clause-text
returns-clause-text c =
    let head : c.extend_from_slice.new.self ≡ [] ++ codes "checkpoint 1\n" = c.in_ok-extend_from_slice.ensures.ok
    ∙ ap (λ (l : List ℕ). l ++ codes "checkpoint 1\n") c.new-out.ensures in
    let cells : c.put_cells.new.out ≡ c.put_place.new.out ++ cells_text c.args.c.now.cells =
    c.in_ok-put_cells.ensures ∙ ap (λ (l : List ℤ). c.put_place.new.out ++ cells_text l) c.as_slice.ensures in
    let reports : c.put_reports.new.out ≡ c.put_cells.new.out ++ reports_text c.args.c.now.reports =
    c.in_ok-put_reports.ensures ∙ ap (λ (l : List RegionReport). c.put_cells.new.out ++ reports_text l) c.as_slice-2.ensures in
    checkpoint_grew _ _ _ _ _ c.args.c.now head c.in_ok-put_place.ensures cells reports c.in_ok-extend_from_slice-2.ensures.ok

pub returns-clause-read : goal.returns-clause-read
returns-clause-read c = λ fits.
    let head : c.extend_from_slice.new.self ≡ [] ++ codes "checkpoint 1\n" = c.in_ok-extend_from_slice.ensures.ok
    ∙ ap (λ (l : List ℕ). l ++ codes "checkpoint 1\n") c.new-out.ensures in
    let cells : c.put_cells.new.out ≡ c.put_place.new.out ++ cells_text c.args.c.now.cells =
    c.in_ok-put_cells.ensures ∙ ap (λ (l : List ℤ). c.put_place.new.out ++ cells_text l) c.as_slice.ensures in
    let reports : c.put_reports.new.out ≡ c.put_cells.new.out ++ reports_text c.args.c.now.reports =
    c.in_ok-put_reports.ensures ∙ ap (λ (l : List RegionReport). c.put_cells.new.out ++ reports_text l) c.as_slice-2.ensures in
    let text : c.extend_from_slice-2.new.self ≡ checkpoint_bytes c.args.c.now =
    checkpoint_grew _ _ _ _ _ c.args.c.now head c.in_ok-put_place.ensures cells reports c.in_ok-extend_from_slice-2.ensures.ok in
    subst (λ (t : List ℕ). CheckpointText c.args._p.now t c.args.c.now) (sym text) (written_back c.args._p.now c.args.c.now fits)
