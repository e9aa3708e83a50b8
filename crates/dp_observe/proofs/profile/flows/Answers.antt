use Rattle.std.proofs.Common.{rules, ◌≡◌, ◌∷◌, inl, inr}
use Rattle.dp_observe.specs.steps.Taken.{flows_from, all_rows}
use Rattle.dp_observe.proofs.RowLemmas.{site_more, sites_all}
use Rattle.dp_observe.proofs.TakenLemmas.{no_sites, no_tallies}
use Rattle.dp_observe.proofs.profile.flows.Goals as goal

pub loop-to-preserved : goal.loop-to-preserved
loop-to-preserved c =
    let site : c.loop-to.to-iterator.a.rest.now ≡ c.in-Some.to.now ∷ c.next.new.self.a.rest.now = search rules in
    let tally : c.loop-to.to-iterator.b.rest.now ≡ c.in-Some.tally.now ∷ c.next.new.self.b.rest.now = search rules in
    let next = site_more c.args.sites.now c.loop-to.to-iterator.a.rest.now c.next.new.self.a.rest.now c.loop-to.to-iterator.b.rest.now
    c.next.new.self.b.rest.now c.in-Some.to.now c.in-Some.tally.now
    (λ place from. flows_from place from c.args.sites.now c.args.tallies.now) c.loop-to.rows c.put.new.rows site tally c.in_ok-put.ensures
    c.loop-to.invariant.size c.loop-to.invariant.rows in
    record { size = next.0; rows = next.1 }

pub returns : goal.returns
returns c =
    let sites = c.loop-to.to-iterator.a.rest.now in let tallies = c.loop-to.to-iterator.b.rest.now in
    let all : all_rows c.loop-to.rows ≡ _ = sites_all c.args.sites.now sites c.args.tallies.now tallies c.loop-to.rows c.loop-to.invariant.size
    c.loop-to.invariant.rows
    (λ place from. elim (c.in-None.ensures.steps) [
      | inl e ↦ no_sites place from sites tallies e.1.0
      | inr e ↦ no_tallies place from sites tallies e.1.0
    ]) in
    search rules
