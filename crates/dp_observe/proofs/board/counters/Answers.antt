use Rattle.std.proofs.Common.{rules, ◌≡◌, refl, sym, ap, subst, ◌∙◌, ℕ, ◌+◌, ◌<◌, ◌++◌, [], ◌∷◌, List, length, length-append, Some, slice_get, inl, inr, arith}
use Rattle.dp_room.proofs.ListLemmas.{get_pushed}
use Rattle.std.proofs.lemmas.Option.{slice_get_read}
use Rattle.dp_profile.specs.declared.sites.RegionSite.{RegionSite}
use Rattle.dp_observe.specs.declared.counter.Counter.{Counter}
use Rattle.dp_observe.specs.steps.Starting.{Starts}
use Rattle.dp_observe.proofs.board.counters.Goals as goal

pub loop-sites-preserved : goal.loop-sites-preserved
loop-sites-preserved c =
    let size = c.loop-sites.invariant.size in
    let region = c.loop-sites.invariant.region in
    let pushed : c.push.new.self ≡ c.loop-sites.all ++ c.in_ok-new.field-0 ∷ [] = c.in_ok-push.ensures.ok in
    let long = ap length pushed ∙ length-append c.loop-sites.all (c.in_ok-new.field-0 ∷ []) in
    let test = c.loop-sites-test.true in
    let within : c.loop-sites.sites-index < length c.args.regions.now = omega arith in
    let here : slice_get c.args.regions.now c.loop-sites.sites-index ≡ Some c.as_slice.result.now =
    slice_get_read c.args.regions.now (length c.args.regions.now) c.loop-sites.sites-index c.sites-item.result refl within c.sites-item.is
    ∙ ap Some (sym c.as_slice.ensures) in
    let number : c.in_ok-region.region ≡ c.loop-sites.sites-index + 1 = search rules in
    let starts : Starts c.args.program.now c.in_ok-region.region c.as_slice.result.now c.in_ok-new.field-0 = c.in_ok-new.ensures in
    record {
      size = long ∙ ap (λ n. n + 1) size;
      region = number;
      few = c.in_ok-region.ensures.small;
      each = λ place sites d there got. elim (get_pushed c.loop-sites.all c.in_ok-new.field-0 place d
          (sym (ap (λ (cs : List Counter). slice_get cs place) pushed) ∙ got)) [
            | inl before ↦ c.loop-sites.invariant.each place sites d there before
            | inr last ↦
                let at : place ≡ c.loop-sites.sites-index = last.0 ∙ size in
                let same : Some c.as_slice.result.now ≡ Some sites = sym here ∙ ap (slice_get c.args.regions.now) (sym at) ∙ there in
                let item : c.as_slice.result.now ≡ sites = cc same in
                let next : c.in_ok-region.region ≡ place + 1 = number ∙ ap (λ n. n + 1) (sym at) in
                subst (λ (d : Counter). Starts c.args.program.now (place + 1) sites d) last.1
                (subst (λ (ss : List RegionSite). Starts c.args.program.now (place + 1) ss c.in_ok-new.field-0) item
                (subst (λ (n : ℕ). Starts c.args.program.now n c.as_slice.result.now c.in_ok-new.field-0) next starts))
          ];
    }
