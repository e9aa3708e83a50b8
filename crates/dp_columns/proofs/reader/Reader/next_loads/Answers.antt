use Rattle.std.proofs.Common.{◌∙◌, sym, ap, slice_get, Some}
use Rattle.dp_columns.specs.Marked.{FitsLoads}
use Rattle.dp_columns.proofs.MarkLists.{marked_loads, took_loads, loads_none_left, all_there}
use Rattle.dp_columns.proofs.reader.Reader.next_loads.Goals as goal

pub next-requires : goal.next-requires
next-requires c =
    let r = c.self.inside in
    let events = c.events_at.result.now in
    let mark = c.mark_at-mark.result in
    let there = ap (λ ms. slice_get ms c.args.place) (sym c.as_slice.ensures) ∙ c.mark_at-mark.ensures in
    all_there FitsLoads r.loads.now r.loads_marks c.args.place events mark c.events_at.ensures there c.self.invariant.loads

pub invariant_of-self : goal.invariant_of-self
invariant_of-self c =
    let r = c.self.inside in
    let events = c.events_at.result.now in
    let mark = c.mark_at-mark.result in
    marked_loads r.told.now r.loads.now r.told_marks r.loads_marks c.args.place events c.events_at.ensures
    c.in-Some.next.behind c.set.new.self c.set.ensures c.in-Some.ensures.fits c.self.invariant

pub returns-in-Some-clause-took : goal.returns-in-Some-clause-took
returns-in-Some-clause-took c =
    let r = c.self.inside in
    let events = c.events_at.result.now in
    let mark = c.mark_at-mark.result in
    let there = ap (λ ms. slice_get ms c.args.place) (sym c.as_slice.ensures) ∙ c.mark_at-mark.ensures in
    let next = c.in-Some.ensures in
    took_loads r.told.now r.loads.now r.told_marks r.loads_marks c.args.place events c.events_at.ensures mark there c.args.self.now c.self.view_is
    _ c.in-Some.next.behind c.set.new.self c.set.ensures (next.found ∙ ap Some (sym next.part.is)) next.behind

pub returns-in-None-clause-took : goal.returns-in-None-clause-took
returns-in-None-clause-took c =
    let r = c.self.inside in
    let events = c.events_at.result.now in
    let mark = c.mark_at-mark.result in
    let there = ap (λ ms. slice_get ms c.args.place) (sym c.as_slice.ensures) ∙ c.mark_at-mark.ensures in
    loads_none_left r.told.now r.loads.now r.told_marks r.loads_marks c.args.place events c.events_at.ensures mark there c.args.self.now
    c.self.view_is c.in-None.ensures
