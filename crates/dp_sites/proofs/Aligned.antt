-- The sites of a statement seen in three ways: what they load and store, their elements, and the parts that the code keeps.
use Rattle.std.proofs.Common.{◌≡◌, refl, sym, ap, ◌∙◌, ℕ, Bool, true, false, ◌||◌, List, [], ◌∷◌, ◌++◌, Option, Some, None}
use Rattle.std.specs.List.{list_any}
use Rattle.dp_tree.specs.declared.Expr.{Expr, end_of-Expr, more_of-Expr}
use Rattle.dp_tree.specs.declared.Expr.TheVariants as expr
use Rattle.dp_tree.specs.declared.Stmt.{Stmt, Row_of-Stmt, end_of-Stmt, more_of-Stmt}
use Rattle.dp_tree.specs.declared.Stmt.TheVariants as tree
use Rattle.dp_plan.specs.Access.{Access, accesses, accesses_in, loaded_by}
use Rattle.dp_plan.specs.Touch.{Touch, reads}
use Rattle.dp_plan.specs.IsFar.{SiteTouch, touches, touches_in}
use Rattle.dp_sites.specs.declared.part.Part.{Part}
use Rattle.dp_sites.specs.steps.Parts.{part_of, parts, parts_in, until_in}
use Rattle.dp_plan.proofs.LoadLemmas.{list_any-append}

abbrev pub variable_in : Option Touch → Option ℕ
variable_in None = None
variable_in (Some t) = Some t.variable

-- a site, in the three ways
pub record Same (a : Access) (t : SiteTouch) (u : Part) : Type 0 where
  pub site : a.site ≡ t.site
  pub part_is : u ≡ part_of u.until t
  pub stores : a.stores ≡ variable_in t.store
  pub loads : (f : ℕ → Bool) → list_any f a.loads ≡ list_any (λ (x : Touch). f x.variable) t.reads

abbrev pub Aligned : List Access → List SiteTouch → List Part → Type 0
Aligned [] [] [] = Unit {0}
Aligned [] [] (u ∷ us) = ⊥
Aligned [] (t ∷ ts) us = ⊥
Aligned (a ∷ xs) [] us = ⊥
Aligned (a ∷ xs) (t ∷ ts) [] = ⊥
Aligned (a ∷ xs) (t ∷ ts) (u ∷ us) = Same a t u × Aligned xs ts us

pub aligned-append : (xs bs : List Access) (ts qs : List SiteTouch) (us ws : List Part) → Aligned xs ts us → Aligned bs qs ws →
    Aligned (xs ++ bs) (ts ++ qs) (us ++ ws)
aligned-append [] bs [] qs [] ws h k = k
aligned-append [] bs [] qs (u ∷ us) ws h k = absurd h
aligned-append [] bs (t ∷ ts) qs us ws h k = absurd h
aligned-append (a ∷ xs) bs [] qs us ws h k = absurd h
aligned-append (a ∷ xs) bs (t ∷ ts) qs [] ws h k = absurd h
aligned-append (a ∷ xs) bs (t ∷ ts) qs (u ∷ us) ws h k = (h.0, aligned-append xs bs ts qs us ws h.1 k)

or_swap : (a b : Bool) → (a || b) ≡ (b || (a || false))
or_swap true true = refl
or_swap true false = refl
or_swap false true = refl
or_swap false false = refl

or_both : (a b c e : Bool) → a ≡ b → c ≡ e → (a || c) ≡ (b || e)
or_both a b c e p q = ap (λ (x : Bool). x || c) p ∙ ap (λ (x : Bool). b || x) q

module _ (f : ℕ → Bool) where
  abbrev g : Touch → Bool
  g x = f x.variable

  pub loads_same : (e : Expr) → list_any f (loaded_by e) ≡ list_any g (reads e)
  loads_same (expr.Number n) = refl
  loads_same (expr.Input' _ (more_of-Expr e end_of-Expr)) = loads_same e
  loads_same expr.InputLen = refl
  loads_same (expr.Scalar x) = refl
  loads_same (expr.Element' x _ (more_of-Expr e end_of-Expr)) =
      ap (λ (b : Bool). f x.0 || b) (loads_same e) ∙ or_swap (f x.0) (list_any g (reads e))
      ∙ sym (list_any-append g (reads e) (record { variable = x.0; index = Some e } ∷ []))
  loads_same (expr.Unary' op _ (more_of-Expr e end_of-Expr)) = loads_same e
  loads_same (expr.Binary' op _ (more_of-Expr a end_of-Expr) _ (more_of-Expr b end_of-Expr)) =
      list_any-append f (loaded_by a) (loaded_by b) ∙ or_both _ _ _ _ (loads_same a) (loads_same b) ∙ sym (list_any-append g (reads a) (reads b))
  loads_same (expr.And' _ (more_of-Expr a end_of-Expr) _ (more_of-Expr b end_of-Expr)) =
      list_any-append f (loaded_by a) (loaded_by b) ∙ or_both _ _ _ _ (loads_same a) (loads_same b) ∙ sym (list_any-append g (reads a) (reads b))
  loads_same (expr.Or' _ (more_of-Expr a end_of-Expr) _ (more_of-Expr b end_of-Expr)) =
      list_any-append f (loaded_by a) (loaded_by b) ∙ or_both _ _ _ _ (loads_same a) (loads_same b) ∙ sym (list_any-append g (reads a) (reads b))

  pub both_same : (a b : Expr) → list_any f (loaded_by a ++ loaded_by b) ≡ list_any g (reads a ++ reads b)
  both_same a b = list_any-append f (loaded_by a) (loaded_by b) ∙ or_both _ _ _ _ (loads_same a) (loads_same b) ∙ sym (list_any-append g (reads a) (reads b))

mutual
  pub aligned : (until : Option ℕ) (x : Stmt) → Aligned (accesses x) (touches x) (parts until x)
  aligned until (tree.Assign site x e) = (record { site = refl; part_is = refl; stores = refl; loads = λ f. loads_same f e }, tt)
  aligned until (tree.Store site x i e) = (record { site = refl; part_is = refl; stores = refl; loads = λ f. both_same f i e }, tt)
  aligned until (tree.Print site e) = (record { site = refl; part_is = refl; stores = refl; loads = λ f. loads_same f e }, tt)
  aligned until (tree.If' site cond _ a _ b) = (
    record { site = refl; part_is = refl; stores = refl; loads = λ f. loads_same f cond },
    aligned-append (accesses_in a) (accesses_in b) (touches_in a) (touches_in b) (parts_in until a) (parts_in until b) (aligned_in until a)
        (aligned_in until b),
  )
  aligned until (tree.While' site cond h a) =
      (record { site = refl; part_is = refl; stores = refl; loads = λ f. loads_same f cond }, aligned_in (until_in until (tree.While' site cond h a)) a)
  aligned until (tree.Region' r site cond _ a) = (record { site = refl; part_is = refl; stores = refl; loads = λ f. loads_same f cond }, aligned_in until a)
  aligned until (tree.Break site cond) = (record { site = refl; part_is = refl; stores = refl; loads = λ f. loads_same f cond }, tt)
  aligned until (tree.Call f line args) = tt

  pub aligned_in : {n : _} (until : Option ℕ) (row : Row_of-Stmt n) → Aligned (accesses_in row) (touches_in row) (parts_in until row)
  aligned_in until end_of-Stmt = tt
  aligned_in until (more_of-Stmt x rest) = aligned-append (accesses x) (accesses_in rest) (touches x) (touches_in rest) (parts until x) (parts_in until rest)
      (aligned until x) (aligned_in until rest)
