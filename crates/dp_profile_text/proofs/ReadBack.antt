-- A text is that of one profile, so what is written of a profile that fits is read back as this one and nothing else.
use Rattle.std.proofs.Common.{◌≡◌, inl, inr, refl, sym, ap, ◌∙◌, ℕ, ◌≤◌, List, length, Some, Ok, Err}
use Rattle.dp_tree.specs.declared.Program.{Program}
use Rattle.dp_tree.specs.Inlined.{IsInlined}
use Rattle.dp_plan.specs.Each.{Each}
use Rattle.dp_text.specs.Lines.{lines_of}
use Rattle.dp_profile.specs.declared.Profile.{Profile}
use Rattle.dp_profile_text.specs.declared.ProfileFail.TheVariants.{Refused, NoMemory}
use Rattle.dp_profile_text.specs.declared.reader.Reader.{Reader}
use Rattle.dp_profile.specs.Sites.{regions}
use Rattle.dp_profile.specs.ProfileFits.{ProfileFits}
use Rattle.dp_profile_text.specs.ProfileText.{ProfileText, profile_lines, profile_words}
use Rattle.dp_profile_text.specs.Refused.{IsProfileText, ReadsOnlyProfile}
use Rattle.dp_profile_text.specs.WrittenText.{profile_text}
use Rattle.dp_profile.proofs.KnownSites.{few_regions, small_sites, top, SmallSite}
use Rattle.dp_profile_text.proofs.LineComplete.{are_words}
use Rattle.dp_profile_text.proofs.RunComplete.{over}
use Rattle.dp_profile_text.proofs.RunEnds.{whole_fits}
use Rattle.dp_profile_text.proofs.TextLemmas.{text_runs}
use Rattle.dp_text.proofs.RefusedOnce.{unrefused}
use Rattle.dp_text.proofs.Unbroken.{lines_whole}

module _ (p : Program) (few : length (regions p) ≤ top) (small : Each (Each SmallSite) (regions p)) (bytes : List ℕ) where
  one_profile : (profile other : Profile) → ProfileText p bytes profile → ProfileText p bytes other → other ≡ profile
  one_profile profile other s t =
      let same : Some (over profile.regions) ≡ Some (over other.regions) = sym (text_runs p few small (lines_of bytes) profile s)
      ∙ text_runs p few small (lines_of bytes) other t in
      let ends : over profile.regions ≡ over other.regions = cc same in
      sym (ap (λ (r : Reader). record { regions = r.done }) ends)

  pub read_only : (profile : Profile) → ProfileText p bytes profile → ReadsOnlyProfile p bytes profile
  read_only profile s (Ok other) t = inl (ap (λ (q : Profile). Ok q) (one_profile profile other s t))
  read_only profile s (Err (Refused line)) t = absurd (unrefused (IsProfileText p) (lines_of bytes) line (profile, s) t)
  read_only profile s (Err NoMemory) t = inr refl

module _ (p : Program) (inlined : IsInlined p) where
  pub read_back : (profile : Profile) → ProfileFits p profile → ProfileText p (profile_text p profile) profile
  read_back profile fits = record {
    lines_are = lines_whole profile_words are_words (profile_lines p profile) (whole_fits (regions p) profile.regions (few_regions p inlined)
        (small_sites p inlined) fits);
    fits = fits;
  }

  pub read_back_only : (profile : Profile) → ProfileFits p profile → ReadsOnlyProfile p (profile_text p profile) profile
  read_back_only profile fits = read_only p (few_regions p inlined) (small_sites p inlined) (profile_text p profile) profile (read_back profile fits)

pub read_fits : (p : Program) (bytes : List ℕ) (profile : Profile) → ProfileText p bytes profile → ProfileFits p profile
read_fits p bytes profile t = t.fits
