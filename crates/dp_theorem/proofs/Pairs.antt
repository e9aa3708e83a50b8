-- From the tests of the text to the laws of a run.
use Rattle.dp_semantics.proofs.Names.{Decides-int_eq, int_eq, ◌≡◌, refl, true, ℤ, length, ap, ◌∙◌, both_ways, not-true, out-Stmt, Program, Plan}
use Rattle.dp_tree.specs.Numbering.{numbers_from}
use Rattle.dp_semantics.proofs.Setting.{Accepted}
use Rattle.dp_plan.specs.IsFar.{passes_with, apart_by, by_place}
use Rattle.dp_theorem.proofs.Passing.{never_between}
use Rattle.dp_theorem.proofs.Tested.{any_found, stride_data, moving}
use Rattle.dp_theorem.proofs.KeptApart.{passing}
use Rattle.dp_semantics.specs.FarPairs.{FarNeverCarried, FarNeverWithin}
use Rattle.dp_theorem.proofs.Apart.{never_carried, never_within}

module _ {p : Program} {plan : Plan} (a : Accepted p plan) where
  pub far_never_carried : FarNeverCarried p plan
  far_never_carried d u e input fuel c stands i j last order reached =
      let v = any_found (passes_with apart_by p plan.region d u) (numbers_from 0 (length p.vars)) e in
      let q = passing a apart_by d u v.0 v.1 in
      never_carried a input fuel c stands v.0 q.f.h.stride q.outer d u q.f.s.array q.f.s.place (λ place. apart_by q.f.h.stride q.f.s.place place ≡ true)
      (moving a apart_by d u v.0 q.f q.one input)
      (λ place n passed some same. never_between q.f.h.stride q.f.s.place place (stride_data v.0 (out-Stmt q.f.h.mover) q.f.h.stride q.f.split.stride) passed n
      some same) i j last order reached

  pub far_never_within : FarNeverWithin p plan
  far_never_within d u e input fuel c stands i last reached =
      let v = any_found (passes_with by_place p plan.region d u) (numbers_from 0 (length p.vars)) e in
      let q = passing a by_place d u v.0 v.1 in
      never_within a input fuel c stands v.0 q.f.h.stride q.outer d u q.f.s.array q.f.s.place (λ place. by_place q.f.h.stride q.f.s.place place ≡ true)
      (moving a by_place d u v.0 q.f q.one input)
      (λ place passed same. both_ways (int_eq q.f.s.place place) (not-true (int_eq q.f.s.place place) passed) (ap (λ (y : ℤ). int_eq y place) same
      ∙ (Decides-int_eq place place).1 refl)) i last reached
