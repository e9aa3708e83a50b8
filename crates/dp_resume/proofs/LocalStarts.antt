-- The locals of regions' bodies where a run begins.
use Rattle.std.proofs.Common.{◌≡◌, refl, sym, ap, ◌∙◌, subst, append_assoc, ℕ, zero, suc, ◌+◌, ◌<◌, Bool, true, false, List, [], ◌∷◌, ◌++◌, ℤ, pos, negsuc}
use Rattle.std.proofs.Common.{length, get_or, replicate, length-append, Some, slice_get, nat_lt, arith, ltb-true, ne_eqb}
use Rattle.std.specs.List.{list_all}
use Rattle.std.proofs.lemmas.Bool.{and_parts}
use Rattle.std.proofs.lemmas.List.{length-replicate}
use Rattle.std.proofs.lemmas.Option.{same_Some}
unfoldable use Rattle.dp_base.specs.Arithmetic.{is_zero}
use Rattle.dp_tree.specs.declared.VarInfo.{VarInfo}
use Rattle.dp_tree.specs.declared.VarScope.{VarScope}
use Rattle.dp_tree.specs.declared.VarScope.TheVariants.{Global, Outer, Body}
use Rattle.dp_tree.specs.Layout.{lies_in_order}
use Rattle.dp_tree.specs.Step.{is_local_of}
use Rattle.dp_tree.specs.Trace.{start_cells}
use Rattle.dp_calls.specs.Starts.{is_clear_start, starts_clear}
use Rattle.dp_save.specs.Fits.{is_body_scope}
use Rattle.dp_resume.proofs.OwnCells.{AllClear, ClearBut, lying}

-- ---- no region has number 0

none_of_zero : (x : VarInfo) → starts_clear x ≡ true → is_body_scope x.scope ≡ true → is_local_of 0 x.scope ≡ false
none_of_zero x clear body = by x.scope clear body
  where
    by : (scope : VarScope) → is_clear_start x.start scope ≡ true → is_body_scope scope ≡ true → is_local_of 0 scope ≡ false
    by Global clear body = refl
    by Outer clear body = refl
    by (Body q) clear body = let low = ltb-true 0 q (and_parts (nat_lt 0 q) (is_zero x.start) clear).0 in ne_eqb q 0 (λ e. omega (arith, low, e))

zero_only : (z : ℤ) → is_zero z ≡ true → z ≡ pos 0
unfolding is_zero
zero_only (pos zero) e = refl
zero_only (pos (suc n)) e = let low = ltb-true (suc n) 1 e in absurd (omega (arith, low))
zero_only (negsuc n) e = absurd (cc e)

-- an element passes where all do
pub passes_at : {X : Type 0} (test : X → Bool) (xs : List X) (i : ℕ) (x : X) → list_all test xs ≡ true → slice_get xs i ≡ Some x → test x ≡ true
passes_at test [] i x all at = absurd (cc at)
passes_at test (y ∷ xs) zero x all at = let same : y ≡ x = cc at in ap test (sym same) ∙ (and_parts (test y) (list_all test xs) all).0
passes_at test (y ∷ xs) (suc i) x all at = passes_at test xs i x (and_parts (test y) (list_all test xs) all).1 at

pub but_none : (vars : List VarInfo) → list_all starts_clear vars ≡ true → (cells : List ℤ) → ClearBut 0 vars cells → AllClear vars cells
but_none vars starts cells h i x at body = h i x at body (none_of_zero x (passes_at starts_clear vars i x starts at) body)

-- ---- the first memory

-- the cells of a variable that starts at 0
reads_start : (front : List ℤ) (n : ℕ) (z : ℤ) (rest : List ℤ) → 0 < n → get_or (front ++ (replicate n z ++ rest)) (length front) (pos 0) ≡ z
reads_start [] zero z rest some = absurd (omega (arith, some))
reads_start [] (suc n) z rest some = refl
reads_start (y ∷ front) n z rest some = reads_start front n z rest some

zero_start : (start : ℤ) (scope : VarScope) → is_clear_start start scope ≡ true → is_body_scope scope ≡ true → start ≡ pos 0
zero_start start Global clear body = absurd (cc body)
zero_start start Outer clear body = absurd (cc body)
zero_start start (Body q) clear body = zero_only start (and_parts (nat_lt 0 q) (is_zero start) clear).1

starts_at : (k : ℕ) (vars : List VarInfo) → lies_in_order k vars ≡ true → (front : List ℤ) → length front ≡ k → list_all starts_clear vars ≡ true →
    (i : ℕ) (x : VarInfo) → slice_get vars i ≡ Some x → is_body_scope x.scope ≡ true
    → get_or (front ++ start_cells vars) x.first.0 (pos 0) ≡ pos 0
starts_at k [] lies front long starts i x at body = absurd (cc at)
starts_at k (v ∷ vars) lies front long starts zero x at body =
    let l = lying k v vars lies in let same : v ≡ x = same_Some v x at in
    let clear = (and_parts (starts_clear v) (list_all starts_clear vars) starts).0 in
    subst (λ (u : VarInfo). is_body_scope u.scope ≡ true → get_or (front ++ (replicate v.length v.start ++ start_cells vars)) u.first.0 (pos 0) ≡ pos 0) same
    (λ inside. ap (λ (c : ℕ). get_or (front ++ (replicate v.length v.start ++ start_cells vars)) c (pos 0)) (l.0 ∙ sym long)
    ∙ reads_start front v.length v.start (start_cells vars) l.1 ∙ zero_start v.start v.scope clear inside) body
starts_at k (v ∷ vars) lies front long starts (suc i) x at body =
    let l = lying k v vars lies in
    let more : length (front ++ replicate v.length v.start) ≡ k + v.length = length-append front (replicate v.length v.start)
    ∙ ap (λ (n : ℕ). length front + n) (length-replicate v.length v.start) ∙ ap (λ (n : ℕ). n + v.length) long in
    ap (λ (cells : List ℤ). get_or cells x.first.0 (pos 0)) (sym (append_assoc front (replicate v.length v.start) (start_cells vars)))
    ∙ starts_at (k + v.length) vars l.2 (front ++ replicate v.length v.start) more (and_parts (starts_clear v) (list_all starts_clear vars)
    starts).1 i x at body

pub starts_zero : (vars : List VarInfo) → lies_in_order 0 vars ≡ true → list_all starts_clear vars ≡ true → AllClear vars (start_cells vars)
starts_zero vars lies starts i x at body = starts_at 0 vars lies [] refl starts i x at body
