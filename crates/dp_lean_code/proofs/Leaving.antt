-- Which effects leave the region, and what is behind a block; and that a block has code.
use Rattle.dp_semantics.proofs.Names.{◌≡◌, refl, sym, ap, ◌∙◌, subst, not, ℕ, Bool, true, false, if◌then◌else◌, List, [], ◌∷◌, ◌++◌, ℤ, Option, Some, None, Ok}
use Rattle.dp_semantics.proofs.Names.{Err, and_parts, is_zero, Stmt, out-Stmt, Stmt-F, Assign, Store, Print, If, While, Region, Break, Call, Program, Plan}
use Rattle.dp_semantics.proofs.Names.{Word, Evaluated, evaluated, WithLoads, and_then, after_loads, just, place, eval, Effect, Stored, Printed, Decided, Tried}
use Rattle.dp_semantics.proofs.Names.{value_of, taken, leaves, behind_region, behind_one, region_number, effect_by, is_cell_of, arith, ◌<◌, ◌+◌, ◌==◌, ◌||◌}
use Rattle.dp_semantics.proofs.Names.{length, SiteId, site_of, stage_of, first_site, is_zero_at, closes_at}
use Rattle.std.proofs.Math.Bool.{or_assoc}
use Rattle.dp_net.specs.NetItems.{Marks}
use Rattle.dp_lean_code.specs.declared.LeanOp.TheVariants.{Begin, Finish, Meet}
use Rattle.dp_lean_code.specs.LeanCode.{silent_code, block_code}
use Rattle.dp_net.specs.Quiet.{is_quiet}
use Rattle.dp_net.proofs.Silent.{all_quiet, AllQuiet, quiet_head, quiet_out}

of_then : {X : Type 0} (r : Evaluated X) (f : X → Evaluated Effect) (P : Effect → Type 0) → ((x : X) (w : WithLoads Effect) → f x ≡ Ok w → P w.value) →
    (v : WithLoads Effect) → and_then r f ≡ Ok v → P v.value
of_then (Err kind) f P each v e = absurd (cc e)
of_then (Ok u) f P each v e = by (f u.value) refl e
  where
    by : (o : Evaluated Effect) → f u.value ≡ o → after_loads u.loads o ≡ Ok v → P v.value
    by (Err kind) is q = absurd (cc q)
    by (Ok w) is q = let same : record { value = w.value; loads = u.loads ++ w.loads } ≡ v = cc q in
        subst (λ (k : WithLoads Effect). P k.value) same (each u.value w is)

of_just : (effect : Effect) (P : Effect → Type 0) → P effect → (w : WithLoads Effect) → just effect ≡ Ok w → P w.value
of_just effect P k w e = let same : record { value = effect; loads = [] } ≡ w = cc e in subst (λ (u : WithLoads Effect). P u.value) same k

module _ (p : Program) where
  pub leaves_so : (input cells : List ℤ) (head : Stmt-F Stmt) (v : WithLoads Effect) → evaluated p input cells head ≡ Ok v →
      leaves v.value ≡ taken head (value_of v.value)
  leaves_so input cells (Assign site x e) v q =
      of_then (eval p input cells e) _ (λ f. leaves f ≡ false) (λ z w k. of_just _ (λ f. leaves f ≡ false) refl w k) v q
  leaves_so input cells (Store site x i e) v q =
      of_then (eval p input cells i) _ (λ f. leaves f ≡ false) (λ j w k. of_then (eval p input cells e) _ (λ f. leaves f ≡ false)
      (λ z u l. of_then (place j (Rattle.dp_semantics.proofs.Names.cell_count p x)) _ (λ f. leaves f ≡ false)
      (λ c y o. of_just _ (λ f. leaves f ≡ false) refl y o) u l) w k) v q
  leaves_so input cells (Print site e) v q = of_then (eval p input cells e) _ (λ f. leaves f ≡ false) (λ z w k. of_just _ (λ f. leaves f ≡ false) refl w k) v q
  leaves_so input cells (If site e a b) v q = of_then (eval p input cells e) _ (λ f. leaves f ≡ false) (λ z w k. of_just _ (λ f. leaves f ≡ false) refl w k) v q
  leaves_so input cells (While site e a) v q =
      of_then (eval p input cells e) _ (λ f. leaves f ≡ false) (λ z w k. of_just _ (λ f. leaves f ≡ false) refl w k) v q
  leaves_so input cells (Region r site e a) v q =
      of_then (eval p input cells e) _ (λ f. leaves f ≡ false) (λ z w k. of_just _ (λ f. leaves f ≡ false) refl w k) v q
  leaves_so input cells (Break site e) v q = of_then (eval p input cells e) _ (λ f. leaves f ≡ not (is_zero (value_of f)))
      (λ z w k. of_just _ (λ f. leaves f ≡ not (is_zero (value_of f))) refl w k) v q
  leaves_so input cells (Call f l a) v q = absurd (cc q)

  pub told_leaves : (head : Stmt-F Stmt) (w : Word) (effect : Effect) → effect_by p head w ≡ Some effect → leaves effect ≡ taken head (value_of effect)
  told_leaves (Assign site x v) w effect e = by (is_cell_of p x w.index) e
    where
      by : (b : Bool) → (if b then Some (Stored w.index w.value) else None) ≡ Some effect → leaves effect ≡ false
      by true q = let same : Stored w.index w.value ≡ effect = cc q in ap leaves (sym same)
      by false q = absurd (cc q)
  told_leaves (Store site x i v) w effect e = by (is_cell_of p x w.index) e
    where
      by : (b : Bool) → (if b then Some (Stored w.index w.value) else None) ≡ Some effect → leaves effect ≡ false
      by true q = let same : Stored w.index w.value ≡ effect = cc q in ap leaves (sym same)
      by false q = absurd (cc q)
  told_leaves (Print site v) w effect e = let same : Printed w.value ≡ effect = cc e in ap leaves (sym same)
  told_leaves (Break site cond) w effect e = let same : Tried w.value ≡ effect = cc e in subst (λ (x : Effect). leaves x ≡ not (is_zero (value_of x))) same refl
  told_leaves (If site c a b) w effect e = let same : Decided w.value ≡ effect = cc e in ap leaves (sym same)
  told_leaves (While site c a) w effect e = let same : Decided w.value ≡ effect = cc e in ap leaves (sym same)
  told_leaves (Region r site c a) w effect e = let same : Decided w.value ≡ effect = cc e in ap leaves (sym same)
  told_leaves (Call f l a) w effect e = let same : Decided w.value ≡ effect = cc e in ap leaves (sym same)

module _ (p : Program) (plan : Plan) where
  quiet_number : (t : ℕ) (h : Stmt-F Stmt) → quiet_head p plan t h ≡ true → region_number h ≡ None
  quiet_number t (Region r site cond a) q = absurd (cc)
  quiet_number t _ q = refl

  -- no region stands in a block
  pub quiet_left : (t : ℕ) (b rest : List Stmt) → AllQuiet p plan t b → behind_region (b ++ rest) ≡ behind_region rest
  quiet_left t [] rest q = refl
  quiet_left t (x ∷ b) rest q =
      let both = and_parts (is_quiet p plan t x) (all_quiet p plan t b) q in
      ap (λ (o : Option ℕ). behind_one o (b ++ rest) (behind_region (b ++ rest))) (quiet_number t (out-Stmt x) (sym (quiet_out p plan t x) ∙ both.0))
      ∙ quiet_left t b rest both.1

  -- the region is left at its condition, or by an early exit
  pub closing_so : (site : ℕ) (closing : Bool) (effect : Effect) (t : Bool) → leaves effect ≡ t →
      ((closing || is_zero_at (first_site p plan) site (value_of effect)) || t) ≡ (closing || closes_at (first_site p plan) site effect)
  closing_so site closing effect t e = or_assoc closing (is_zero_at (first_site p plan) site (value_of effect)) t
      ∙ ap (λ (c : Bool). closing || (is_zero_at (first_site p plan) site (value_of effect) || c)) (sym e)

  module _ (s : ℕ) (m : Marks) where
    -- no block is without code
    pub some_block : (f : ℕ) (y : Stmt) (ys : List Stmt) → m.block_at f ≡ y ∷ ys → (site : SiteId) (at : ℕ) → 0 < length (block_code p plan s site (y ∷ ys) at)
    some_block f y ys e site at = by (stage_of p plan site.0 == s)
      where
        by : (b : Bool) → 0 < length (if b then Begin site ∷ (silent_code p plan s (y ∷ ys) (at + 1) ++ Finish ∷ []) else Meet site ∷ [])
        by true = omega arith
        by false = omega arith
