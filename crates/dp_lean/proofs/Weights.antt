-- What items and lists of items weigh, after some are added or taken.
use Rattle.dp_semantics.proofs.Names.{◌≡◌, inl, inr, refl, ap, ◌∙◌, arith, ℕ, zero, suc, ◌+◌, ◌-◌, ◌<◌, List, [], ◌∷◌, ◌++◌, length, sum_by, sum_by-cons}
use Rattle.dp_semantics.proofs.Names.{sum_by-set, slice_set, get_or, get_or_past, cases_lt, Program, Plan, Word}
use Rattle.dp_net.specs.NetItems.{Marks, Item, Said, weight, weights, item_list, said_all}
use Rattle.dp_net.proofs.Groups.{item_list_is}

pub weights_join : (a b : List Item) → weights (a ++ b) ≡ weights a + weights b
weights_join [] b = omega arith
weights_join (x ∷ a) b = let h = weights_join a b in let s = sum_by-cons weight x (a ++ b) in let t = sum_by-cons weight x a in omega (arith, h, s, t)

pub weights_said : (ws : List Word) → weights (said_all ws) ≡ length ws
weights_said [] = refl
weights_said (w ∷ ws) = let h = weights_said ws in let s = sum_by-cons weight (Said w) (said_all ws) in omega (arith, h, s)

-- any sum over the lists goes down by what was taken
module _ (p : Program) (plan : Plan) (m : Marks) (size : List Item → ℕ) (none : size [] ≡ 0) where
  pub sum_after : (lists : List (List Item)) (t : ℕ) (rest : List Item) (k : ℕ) → 0 < k → size (item_list lists t) ≡ k + size rest →
      sum_by size lists ≡ k + sum_by size (slice_set lists (t - 1) rest)
  sum_after lists zero rest k some h = absurd (omega (arith, h, none, some))
  sum_after lists (suc t) rest k some h =
      let e : suc t - 1 ≡ t = omega arith in
      let is : item_list lists (suc t) ≡ get_or lists t [] = item_list_is p plan m lists (suc t) (omega arith) ∙ ap (λ (n : ℕ). get_or lists n []) e in
      elim (cases_lt t (length lists)) [
        | inl within ↦
            let sums = sum_by-set size lists t rest [] within in
            let same = ap size is in
            rw e (omega (arith, sums, same, h))
        | inr beyond ↦ let empty = ap size (is ∙ get_or_past lists t [] beyond) in absurd (omega (arith, empty, none, h, some))
      ]
