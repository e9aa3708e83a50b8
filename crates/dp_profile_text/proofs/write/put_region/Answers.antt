use Rattle.std.proofs.Common.{◌≡◌, ◌++◌, List, ℕ, ap, ◌∙◌}
use Rattle.dp_profile.specs.declared.SiteCount.{SiteCount}
use Rattle.dp_profile.specs.declared.Flow.{Flow}
use Rattle.dp_profile_text.specs.declared.line.Line.TheVariants as line
use Rattle.dp_profile_text.specs.WrittenText.{profile_line_text, runs_text, flows_text}
use Rattle.dp_profile_text.proofs.WriteLemmas.{region_parts}
use Rattle.dp_profile_text.proofs.write.put_region.Goals as goal
use Rattle.dp_text.proofs.Grown.{grew}

pub returns : goal.returns
returns c =
    let sites = c.args.sites.now in let shown = c.args.shown.now in
    let counts : c.put_counts.new.out ≡ c.put_head.new.out ++ runs_text c.args.sites.now c.args.shown.now.sites =
    c.in_ok-put_counts.ensures.text ∙ ap (λ (l : List SiteCount). c.put_head.new.out ++ runs_text c.args.sites.now l) c.as_slice.ensures in
    let flows : c.put_flows.new.out ≡ c.put_counts.new.out ++ flows_text c.args.shown.now.flows =
    c.in_ok-put_flows.ensures.text ∙ ap (λ (l : List Flow). c.put_counts.new.out ++ flows_text l) c.as_slice-2.ensures in
    grew c.args.out.now _ _ _ (profile_line_text (line.Region c.args.number)) (runs_text sites shown.sites) (flows_text shown.flows)
    c.in_ok-put_head.ensures counts flows
    ∙ ap (λ (l : List ℕ). c.args.out.now ++ l) (region_parts c.args.number sites shown)
