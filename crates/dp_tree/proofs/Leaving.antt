-- Events up to the one that leaves.
use Rattle.std.proofs.Common.{◌≡◌, refl, ap, ◌∙◌, inl, inr, Bool, true, false, ◌||◌, if◌then◌else◌, List, [], ◌∷◌, ◌++◌}
use Rattle.std.proofs.lemmas.Bool.{cases_Bool, or_parts}
use Rattle.std.proofs.lemmas.List.Folds.{list_any-append}
use Rattle.std.specs.List.{list_any}
use Rattle.dp_tree.specs.Event.{Event}
use Rattle.dp_tree.specs.Iteration.{closes, decides_zero, is_leaving, leaves, upto_leaving}

-- where none leaves, those behind follow
pub upto_more : (events more : List Event) → list_any is_leaving events ≡ false → upto_leaving (events ++ more) ≡ events ++ upto_leaving more
upto_more [] more h = refl
upto_more (event ∷ events) more h =
    let both = or_parts (leaves event.effect) (list_any is_leaving events) h in
    ap (λ (b : Bool). event ∷ (if b then [] else upto_leaving (events ++ more))) both.0 ∙ ap (λ (es : List Event). event ∷ es) (upto_more events more both.1)

-- events that have left did so with others behind them
pub any_more : (events more : List Event) → list_any is_leaving events ≡ true → list_any is_leaving (events ++ more) ≡ true
any_more events more h = list_any-append is_leaving events more ∙ ap (λ (b : Bool). b || list_any is_leaving more) h

pub closes_more : (events more : List Event) → closes events ≡ true → closes (events ++ more) ≡ true
closes_more [] more h = absurd (cc)
closes_more (event ∷ events) more h =
    elim (cases_Bool (decides_zero event.effect)) [ inl t ↦ rw t refl | inr t ↦ rw t (any_more (event ∷ events) more (rw t at h)) ]
