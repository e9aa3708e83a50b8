-- The statement that moves a variable: the one that the code finds is the one at which the definition cuts the body.
use Rattle.std.proofs.Common.{◌≡◌, refl, sym, ap, ◌∙◌, ◌==◌, Bool, true, false, if◌then◌else◌, List, [], ◌∷◌, ◌++◌, map, ℤ, Option, Some, None}
use Rattle.dp_base.specs.declared.SiteId.{SiteId}
use Rattle.dp_base.specs.declared.VarId.{VarId}
use Rattle.dp_tree.specs.declared.Expr.{Expr}
use Rattle.dp_tree.specs.declared.Stmt.{Stmt, out-Stmt, roll-out-Stmt, roll-Stmt}
use Rattle.dp_tree.specs.declared.Stmt.TheOpen.{Stmt-F, Assign, Store, Print, If, While, Region, Break, Call}
use Rattle.dp_tree.specs.declared.Stmt.TheViews.{rolls-Assign}
use Rattle.dp_plan.specs.Touch.{moves, stride_of, when_so}
use Rattle.dp_plan.specs.IsFar.{Halves, behind_of, halves, halves_by, touches}
use Rattle.dp_sites.specs.declared.place.Step.{Step}
use Rattle.dp_sites.specs.Place.{step_in, stride_in}
use Rattle.dp_sites.specs.declared.moving.Mover.{Mover}
use Rattle.dp_sites.specs.Storings.{mover_at, mover_by, mover_in, mover_of, or_mover}
use Rattle.dp_sites.proofs.FarOffsets.{stride_by, stride_is}
use Rattle.dp_sites.proofs.FarFind.{touch_site}

-- the statement that moves v, by both
pub data Moved (v : VarId) (x : Stmt) : Type 0 where
  still : stride_of v.0 (out-Stmt x) ≡ None → mover_of v x ≡ None → Moved v x
  moves_it : (m : Mover) → stride_of v.0 (out-Stmt x) ≡ Some (stride_in m.step) → mover_of v x ≡ Some m → map touch_site (touches x) ≡ m.site ∷ [] → Moved v x

touches_assign : (x : Stmt) (site : SiteId) (y : VarId) (e : Expr) → out-Stmt x ≡ Assign site y e → map touch_site (touches x) ≡ site.0 ∷ []
touches_assign x site y e is = ap (λ (s : Stmt). map touch_site (touches s)) (sym (roll-out-Stmt x))
    ∙ ap (λ (h : Stmt-F Stmt). map touch_site (touches (roll-Stmt h))) is ∙ ap (λ (s : Stmt). map touch_site (touches s)) (rolls-Assign site y e)

module _ (v : VarId) (x : Stmt) where
  assigned : (site : SiteId) (y : VarId) (e : Expr) → out-Stmt x ≡ Assign site y e → Moved v x
  unfolding mover_of
  assigned site y e is = by (y.0 == v.0) refl (step_in v e) refl
    where
      by : (b : Bool) → (y.0 == v.0) ≡ b → (s : Option Step) → step_in v e ≡ s → Moved v x
      by false off s t = still (ap (stride_of v.0) is ∙ ap (λ (b : Bool). when_so b (moves v.0 e)) off) (ap (mover_at v) is
          ∙ ap (λ (b : Bool). if b then mover_by site (step_in v e) else None) off)
      by true on None t = still (ap (stride_of v.0) is ∙ ap (λ (b : Bool). when_so b (moves v.0 e)) on ∙ stride_is v e ∙ ap stride_by t) (ap (mover_at v) is
          ∙ ap (λ (b : Bool). if b then mover_by site (step_in v e) else None) on ∙ ap (mover_by site) t)
      by true on (Some step) t = moves_it (record { site = site.0; step = step }) (ap (stride_of v.0) is ∙ ap (λ (b : Bool). when_so b (moves v.0 e)) on
          ∙ stride_is v e ∙ ap stride_by t)
          (ap (mover_at v) is ∙ ap (λ (b : Bool). if b then mover_by site (step_in v e) else None) on ∙ ap (mover_by site) t) (touches_assign x site y e is)

  otherwise : stride_of v.0 (out-Stmt x) ≡ None → mover_at v (out-Stmt x) ≡ None → Moved v x
  unfolding mover_of
  otherwise p q = still p q

  pub moved : Moved v x
  moved = by (out-Stmt x) refl
    where
      by : (h : Stmt-F Stmt) → out-Stmt x ≡ h → Moved v x
      by (Assign site y e) is = assigned site y e is
      by (Store site y i e) is = otherwise (ap (stride_of v.0) is) (ap (mover_at v) is)
      by (Print site e) is = otherwise (ap (stride_of v.0) is) (ap (mover_at v) is)
      by (If site e a b) is = otherwise (ap (stride_of v.0) is) (ap (mover_at v) is)
      by (While site e a) is = otherwise (ap (stride_of v.0) is) (ap (mover_at v) is)
      by (Region r site e a) is = otherwise (ap (stride_of v.0) is) (ap (mover_at v) is)
      by (Break site e) is = otherwise (ap (stride_of v.0) is) (ap (mover_at v) is)
      by (Call f line args) is = otherwise (ap (stride_of v.0) is) (ap (mover_at v) is)

-- the body is cut at the mover that the code finds
pub data Cut (v : VarId) (body : List Stmt) : Type 0 where
  uncut : halves v.0 body ≡ None → mover_in v body ≡ None → Cut v body
  cut : (h : Halves) (m : Mover) → halves v.0 body ≡ Some h → mover_in v body ≡ Some m → h.stride ≡ stride_in m.step → body ≡ h.front ++ h.mover ∷ h.back →
      map touch_site (touches h.mover) ≡ m.site ∷ [] → Cut v body

pub cut_at : (v : VarId) (body : List Stmt) → Cut v body
cut_at v [] = uncut refl refl
cut_at v (x ∷ rest) = by (moved v x) (cut_at v rest)
  where
    by : Moved v x → Cut v rest → Cut v (x ∷ rest)
    by (moves_it m p q site) later = cut (record { front = []; mover = x; back = rest; stride = stride_in m.step }) m
        (ap (λ (o : Option ℤ). halves_by x rest o (halves v.0 rest)) p) (ap (λ (o : Option Mover). or_mover o (mover_in v rest)) q) refl refl site
    by (still p q) (uncut a b) = uncut (ap (λ (o : Option ℤ). halves_by x rest o (halves v.0 rest)) p ∙ ap (behind_of x) a)
        (ap (λ (o : Option Mover). or_mover o (mover_in v rest)) q ∙ b)
    by (still p q) (cut h m a b stride is site) = cut (record { front = x ∷ h.front; mover = h.mover; back = h.back; stride = h.stride }) m
        (ap (λ (o : Option ℤ). halves_by x rest o (halves v.0 rest)) p ∙ ap (behind_of x) a) (ap (λ (o : Option Mover). or_mover o (mover_in v rest)) q
        ∙ b) stride (ap (λ (xs : List Stmt). x ∷ xs) is) site
