use Rattle.std.proofs.Common.{◌≡◌, List, Result, sym, ap, subst, ◌∙◌}
use Rattle.dp_text.specs.declared.lines.Reading.{Reading}
use Rattle.dp_text.specs.Lines.{lines_of, read_from}
use Rattle.dp_text.proofs.SoFar.{next_text}
use Rattle.dp_profile.specs.declared.Profile.{Profile}
use Rattle.dp_profile.specs.declared.sites.RegionSite.{RegionSite}
use Rattle.dp_profile.specs.Sites.{regions}
use Rattle.dp_profile.proofs.KnownSites.{few_regions, small_sites}
use Rattle.dp_profile_text.specs.declared.ProfileFail.{ProfileFail}
use Rattle.dp_profile_text.specs.declared.reader.Reader.{Reader}
use Rattle.dp_profile_text.specs.Refused.{ReadsAsProfile}
use Rattle.dp_profile_text.specs.steps.Ending.{finished}
use Rattle.dp_profile_text.specs.steps.Reading.{begun, is_over}
use Rattle.dp_profile_text.proofs.TextLemmas.{profile_grammar, text_read}
use Rattle.dp_profile_text.proofs.read.read_profile.Goals as goal

pub returns : goal.returns
returns c =
    let p = c.args.p.now in let bytes = c.args.text.now in
    let sites : c.as_slice.result.now ≡ regions c.args.p.now = c.as_slice.ensures ∙ c.in_ok-all.ensures in
    let same : c.in_ok-reading.reading ≡ read_from (next_text (profile_grammar (regions c.args.p.now))) (λ s. is_over s.phase) 1 begun
    (lines_of c.args.text.now) =
    c.in_ok-reading.ensures
    ∙ ap (λ (s : Reader). read_from (next_text (profile_grammar c.as_slice.result.now)) (λ r. is_over r.phase) 1 s (lines_of bytes)) c.new.ensures
    ∙ ap (λ (all : List (List RegionSite)). read_from (next_text (profile_grammar all)) (λ r. is_over r.phase) 1 begun (lines_of bytes)) sites in
    subst (λ (r : Result Profile ProfileFail). ReadsAsProfile p bytes r) (sym (c.finished.ensures ∙ ap (λ (r : Reading Reader). finished r) same))
    (text_read p (few_regions p c.requires.inlined) (small_sites p c.requires.inlined) bytes)
