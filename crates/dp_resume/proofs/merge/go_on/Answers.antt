use Rattle.std.proofs.Common.{◌+◌, ◌++◌, List, ℕ, map, take, ap, ◌∙◌}
use Rattle.dp_base.specs.declared.limits.TheConstants.{LISTED}
use Rattle.dp_resume.proofs.merge.go_on.Goals as goal

pub returns : goal.returns
returns c =
    let saved = c.args.saved.now in let behind = c.args.behind.now in
    ap (λ (ns : List ℕ).
    record {
      region = saved.region;
      iterations = saved.iterations + behind.iterations;
      recovered_count = saved.recovered_count + behind.recovered_count;
      recovered = ns;
      causes = saved.causes;
    })
    (c.in_ok-list_on.ensures ∙ ap (λ (ns : List ℕ). take LISTED (saved.recovered ++ map (λ i. saved.iterations + i) ns)) c.as_slice.ensures)
