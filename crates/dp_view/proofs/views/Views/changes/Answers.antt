use Rattle.std.proofs.Common.{◌≡◌, ◌==◌, ◌<◌, refl, sym, ◌∙◌, subst, true, filter, length, OnOk, List, ℕ, ℤ}
use Rattle.std.proofs.lemmas.List.Sorted.{list_any-IsPermutation}
use Rattle.dp_tree.specs.Numbering.{numbers_from}
use Rattle.dp_plan.specs.Written.{has}
use Rattle.dp_view.specs.Changed.{Cleared, differs}
use Rattle.dp_view.specs.Viewed.{Viewed}
use Rattle.dp_view.proofs.KeptLemmas.{differing, grows_not, kept_more}
use Rattle.dp_view.proofs.views.Views.changes.Goals as goal

moved : (c : goal.After-put_changes) (x : ℕ) → has x c.self.inside.stored.cells ≡ has x c.sort.new.self.cells
moved c x = list_any-IsPermutation (λ n. n == x) c.self.inside.stored.cells c.sort.new.self.cells c.sort.ensures.same

pub invariant_of-self : goal.invariant_of-self
invariant_of-self c =
    kept_more c.self.invariant c.self.inside.counts c.sort.new.self c.self.inside.since refl
    (record { size = c.sort.ensures.size; keeps = λ x out. moved c x ∙ out }) (grows_not c.self.inside.since c.self.inside.since refl)

abbrev Among : List ℤ → List ℤ → List ℕ → Type 0
Among before source cells = (x : ℕ) → x < length source → differs before source x ≡ true → has x cells ≡ true

-- the clause of a call, at what its arguments are
called : (before source a b : List ℤ) (cells d : List ℕ) (P : List ℤ → List ℤ → Type 0) → a ≡ before → b ≡ source → d ≡ cells → (Among a b d → P a b) →
    Among before source cells → P before source
called before source a b cells d P ab bs dc call among =
    subst (λ (x : List ℤ). P x source) ab (subst (λ (x : List ℤ). P a x) bs
    (call (subst (λ (x : List ℤ). Among x b d) (sym ab) (subst (λ (x : List ℤ). Among before x d) (sym bs)
    (subst (λ (x : List ℕ). Among before source x) (sym dc) among)))))

pub returns-clause-found : goal.returns-clause-found
returns-clause-found c low high =
    let s = c.self.inside in
    let among : Among s.before s.source c.sort.new.self.cells =
    λ x h e. sym (moved c x) ∙ differing c.self.invariant (subst (λ (v : Viewed). Cleared v.program v.plan v.before) (sym c.self.view_is) low)
    (subst (λ (v : Viewed). Cleared v.program v.plan v.source) (sym c.self.view_is) high) x e in
    subst (λ (v : Viewed). OnOk c.put_changes.result (c.put_changes.new.out ≡ filter (differs v.before v.source) (numbers_from 0 (length v.source))))
    c.self.view_is
    (called s.before s.source c.as_slice.result.now c.as_slice-2.result.now c.sort.new.self.cells c.cells.result.now
    (λ (a b : List ℤ). OnOk c.put_changes.result (c.put_changes.new.out ≡ filter (differs a b) (numbers_from 0 (length b))))
    c.as_slice.ensures c.as_slice-2.ensures c.cells.ensures c.put_changes.ensures among)
