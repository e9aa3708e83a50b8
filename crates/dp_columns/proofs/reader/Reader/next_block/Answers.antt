use Rattle.std.proofs.Common.{◌∙◌, sym, ap, length, slice_get, Some, arith}
use Rattle.std.proofs.lemmas.Option.{slice_get_within}
use Rattle.std.proofs.lemmas.List.{length-map}
use Rattle.dp_columns.specs.Paired.{block_told}
use Rattle.dp_columns.specs.Marked.{FitsTold}
use Rattle.dp_columns.specs.Held.{told_by}
use Rattle.dp_columns.proofs.Places.{at_map}
use Rattle.dp_columns.proofs.MarkLists.{marked_told, took_told, told_none_left, all_there, block_seen}
use Rattle.dp_columns.proofs.reader.Reader.next_block.Goals as goal

pub next-requires : goal.next-requires
next-requires c =
    let r = c.self.inside in
    let column = c.column_at.result.now in
    let mark = c.mark_at-mark.result in
    let there = ap (λ ms. slice_get ms c.args.place) (sym c.as_slice.ensures) ∙ c.mark_at-mark.ensures in
    let kind = block_seen r.told.now r.loads.now r.told_marks r.loads_marks c.args.place column c.column_at.ensures c.args.self.now c.self.view_is c.requires in
    all_there FitsTold r.told.now r.told_marks c.args.place column mark c.column_at.ensures there c.self.invariant.told kind

pub set-requires : goal.set-requires
set-requires c =
    let there = ap (λ ms. slice_get ms c.args.place) (sym c.as_slice.ensures) ∙ c.mark_at-mark.ensures in
    slice_get_within c.self.inside.told_marks c.args.place c.mark_at-mark.result there

pub invariant_of-self : goal.invariant_of-self
invariant_of-self c =
    let r = c.self.inside in
    let column = c.column_at.result.now in
    let mark = c.mark_at-mark.result in
    marked_told r.told.now r.loads.now r.told_marks r.loads_marks c.args.place column c.column_at.ensures
    c.in-Some.next.behind c.set.new.self c.set.ensures (λ is. c.in-Some.ensures.fits) c.self.invariant

pub returns-in-Some-clause-took : goal.returns-in-Some-clause-took
returns-in-Some-clause-took c =
    let r = c.self.inside in
    let column = c.column_at.result.now in
    let mark = c.mark_at-mark.result in
    let there = ap (λ ms. slice_get ms c.args.place) (sym c.as_slice.ensures) ∙ c.mark_at-mark.ensures in
    let kind = block_seen r.told.now r.loads.now r.told_marks r.loads_marks c.args.place column c.column_at.ensures c.args.self.now c.self.view_is c.requires in
    let next = c.in-Some.ensures in
    let event = at_map block_told column.blocks.ended mark.at next.event next.found ∙ ap (λ ls. Some (block_told ls)) (sym next.part.is) in
    let found = ap (λ k. slice_get (told_by k column) mark.at) kind ∙ event in
    took_told r.told.now r.loads.now r.told_marks r.loads_marks c.args.place column c.column_at.ensures mark there c.args.self.now c.self.view_is
    _ c.in-Some.next.behind c.set.new.self c.set.ensures found next.behind

pub returns-in-None-clause-took : goal.returns-in-None-clause-took
returns-in-None-clause-took c =
    let r = c.self.inside in
    let column = c.column_at.result.now in
    let mark = c.mark_at-mark.result in
    let there = ap (λ ms. slice_get ms c.args.place) (sym c.as_slice.ensures) ∙ c.mark_at-mark.ensures in
    let kind = block_seen r.told.now r.loads.now r.told_marks r.loads_marks c.args.place column c.column_at.ensures c.args.self.now c.self.view_is c.requires in
    let long = ap (λ k. length (told_by k column)) kind ∙ length-map column.blocks.ended block_told in
    told_none_left r.told.now r.loads.now r.told_marks r.loads_marks c.args.place column c.column_at.ensures mark there c.args.self.now c.self.view_is
    (omega (arith, long, c.in-None.ensures))
