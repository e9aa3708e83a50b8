-- A profile's text is read in one way only: as one profile, or with one refusal.
use Rattle.std.proofs.Common.{◌≡◌, refl, sym, ap, inl, inr, ℕ, ◌≤◌, ◌<◌, List, length, Result, Ok, Err, arith}
use Rattle.dp_base.specs.declared.Quantity.TheVariants.{ProfileBytes}
use Rattle.dp_tree.specs.declared.Program.{Program}
use Rattle.dp_tree.specs.Inlined.{IsInlined}
use Rattle.dp_profile.specs.declared.Profile.{Profile}
use Rattle.dp_profile_text.specs.ProfileText.{ProfileText}
use Rattle.dp_text.specs.Lines.{lines_of}
use Rattle.dp_profile_text.specs.Refused.{IsProfileText, IsRefusedProfile}
use Rattle.dp_profile.proofs.KnownSites.{few_regions, small_sites}
use Rattle.dp_profile_text.proofs.ReadBack.{read_only}
use Rattle.dp_text.proofs.RefusedOnce.{one_line, unrefused}
use Rattle.dp_refusal.specs.declared.refusal.Refusal.{Refusal}
use Rattle.dp_refusal.specs.declared.refusal.Refusal.TheVariants.{Limit, ProfileLine}
use Rattle.dp_load.specs.Profiles.{ReadsProfile, TooLong, NoProfile, Taken}

module _ (p : Program) (inlined : IsInlined p) (text : List ℕ) where
  one_profile : (profile other : Profile) → ProfileText p text profile → ProfileText p text other → profile ≡ other
  one_profile profile other s t = elim (read_only p (few_regions p inlined) (small_sites p inlined) text profile s (Ok other) t) [
    | inl same ↦ cc (sym same)
    | inr clash ↦ absurd (cc clash)
  ]

  none_refused : {A : Type 0} {profile : Profile} {line : ℕ} → ProfileText p text profile → IsRefusedProfile p text line → A
  none_refused {A} {profile} {line} t r = absurd (unrefused (IsProfileText p) (lines_of text) line (profile, t) r)

  from_long : {b : Result Profile Refusal} → 67108864 < length text → ReadsProfile p text b → Err (Limit ProfileBytes 67108865) ≡ b
  from_long h (TooLong k) = refl
  from_long h (NoProfile line k r) = absurd (omega (arith, h, k))
  from_long h (Taken profile k t) = absurd (omega (arith, h, k))

  from_line : {b : Result Profile Refusal} (line : ℕ) → length text ≤ 67108864 → IsRefusedProfile p text line → ReadsProfile p text b →
      Err (ProfileLine line) ≡ b
  from_line line h r (TooLong k) = absurd (omega (arith, h, k))
  from_line line h r (NoProfile other k s) = ap (λ (n : ℕ). Err (ProfileLine n)) (one_line (IsProfileText p) (lines_of text) r s)
  from_line line h r (Taken profile k t) = none_refused t r

  from_profile : {b : Result Profile Refusal} (profile : Profile) → length text ≤ 67108864 → ProfileText p text profile → ReadsProfile p text b → Ok profile ≡ b
  from_profile profile h t (TooLong k) = absurd (omega (arith, h, k))
  from_profile profile h t (NoProfile line k r) = none_refused t r
  from_profile profile h t (Taken other k s) = ap (λ (x : Profile). Ok x) (one_profile profile other t s)

  pub profiles_once : {a b : Result Profile Refusal} → ReadsProfile p text a → ReadsProfile p text b → a ≡ b
  profiles_once (TooLong h) r = from_long h r
  profiles_once (NoProfile line h s) r = from_line line h s r
  profiles_once (Taken profile h t) r = from_profile profile h t r
