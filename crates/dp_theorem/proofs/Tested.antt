-- A pair of sites that passes the test never shows as carried, in the trace of any run.
use Rattle.dp_semantics.proofs.Names.{◌≡◌, inl, inr, refl, sym, ap, ◌∙◌, subst, ℕ, zero, suc, ◌+◌, ◌<◌, ◌==◌, Bool, true, false, List, [], ◌∷◌, ◌++◌, ℤ, pos}
use Rattle.dp_semantics.proofs.Names.{negsuc, Option, Some, None, list_all, list_any, list_all-append, flat_map, flat_map-append, append-nil, and_parts, arith}
use Rattle.dp_semantics.proofs.Names.{eqb-true, eq-eqb, both_ways, cases_Bool, sum_by-cons, Expr, Stmt, out-Stmt, Stmt-F, Assign, If, Region, Program, Plan}
use Rattle.dp_semantics.proofs.Names.{Access, accesses, region_in, stores_var, cell_count, well_nested}
use Rattle.std.proofs.Common.{cond, count_by}
use Rattle.std.proofs.lemmas.List.Sums.{sum_by-append}
use Rattle.dp_semantics.proofs.Setting.{Accepted, Sound, Each, each_split, accesses_all, accesses_at, accesses_out, head_access, all_well}
use Rattle.dp_theorem.proofs.Whole.{sound_parts}
use Rattle.dp_tree.specs.declared.Expr.{end_of-Expr, more_of-Expr}
use Rattle.dp_tree.specs.declared.Expr.TheVariants as tree
use Rattle.dp_base.specs.declared.BinOp.{BinOp}
use Rattle.dp_base.specs.declared.BinOp.TheVariants as op
use Rattle.std.specs.Option.{option_or}
use Rattle.dp_plan.specs.Touch.{reads, stride_of, moves, moved_by, when_so, positive, literal_in, is_var, opposite}
use Rattle.dp_theorem.proofs.Far.{Both}
use Rattle.dp_plan.specs.IsFar.{SiteTouch, Stored, Halves, halves, touches, touch_passes, front_touches, back_touches, region_body, region_condition, all_pass}
use Rattle.dp_plan.specs.IsFar.{halves_pass, store_of, body_of, condition_touch}
use Rattle.dp_theorem.proofs.Touches.{touches_all, touches_at, touches_out, head_touch}
use Rattle.dp_theorem.proofs.Strides.{Moving}
use Rattle.dp_theorem.proofs.Passing.{both_there, Stride, up, down}
use Rattle.dp_theorem.proofs.Text.{Split, halves_are, Piece, piece_facts, tests}

pub any_found : (test : ℕ → Bool) (xs : List ℕ) → list_any test xs ≡ true → (x : ℕ) × (test x ≡ true)
any_found test [] e = absurd (cc)
any_found test (x ∷ xs) e = elim (cases_Bool (test x)) [ inl t ↦ (x, t) | inr t ↦ any_found test xs (rw t at e) ]

-- what a stride is
positive_up : (o : Option ℤ) (k : ℤ) → positive o ≡ Some k → Stride k
positive_up (Some (pos (suc n))) k e = let same : pos (suc n) ≡ k = cc e in subst Stride same (up n)
positive_up (Some (pos zero)) k e = absurd (cc)
positive_up (Some (negsuc n)) k e = absurd (cc)
positive_up None k e = absurd (cc)

negated_down : (o : Option ℤ) (k : ℤ) → opposite (positive o) ≡ Some k → Stride k
negated_down (Some (pos (suc n))) k e = let same : negsuc n ≡ k = cc e in subst Stride same (down n)
negated_down (Some (pos zero)) k e = absurd (cc)
negated_down (Some (negsuc n)) k e = absurd (cc)
negated_down None k e = absurd (cc)

when_is : (b : Bool) (o : Option ℤ) (k : ℤ) → when_so b o ≡ Some k → o ≡ Some k
when_is true o k e = e
when_is false o k e = absurd (cc)

-- none of them passes where none is counted
pub none_counted : (f : Access → Bool) (xs : List Access) → count_by f xs ≡ 0 → Each (λ u. f u ≡ false) xs
none_counted f [] e = tt
none_counted f (x ∷ xs) e = elim (cases_Bool (f x)) [
  | inl t ↦ let one : count_by f (x ∷ xs) ≡ 1 + count_by f xs = sum_by-cons (λ (y : Access). cond (f y) 1 0) x xs
      ∙ ap (λ (b : Bool). cond b 1 0 + count_by f xs) t in absurd (omega (arith, e, one))
  | inr t ↦ let one : count_by f (x ∷ xs) ≡ 0 + count_by f xs = sum_by-cons (λ (y : Access). cond (f y) 1 0) x xs
      ∙ ap (λ (b : Bool). cond b 1 0 + count_by f xs) t in (t, none_counted f xs (omega (arith, e, one)))
]

not_stores : (v : ℕ) (c : Access) → stores_var v c ≡ false → c.stores ≡ Some v → ⊥
not_stores v c e q = both_ways (stores_var v c) e (ap (Rattle.dp_semantics.proofs.Names.is_same_variable v) q ∙ eq-eqb v v refl)

by_operator : (v : ℕ) (o : BinOp) (a b : Expr) (k : ℤ) → moved_by v o a b ≡ Some k → Stride k
by_operator v op.Add a b k e = positive_up (literal_in b) k (when_is (is_var v a) (positive (literal_in b)) k e)
by_operator v op.Sub a b k e = by (is_var v a) e
  where
    by : (t : Bool) → opposite (when_so t (positive (literal_in b))) ≡ Some k → Stride k
    by true e = negated_down (literal_in b) k e
    by false e = absurd (cc)
by_operator v _ a b k e = absurd (cc)

by_moves : (v : ℕ) (e : Expr) (k : ℤ) → moves v e ≡ Some k → Stride k
by_moves v (tree.Binary' o _ (more_of-Expr a end_of-Expr) _ (more_of-Expr b end_of-Expr)) k e = by_operator v o a b k e
by_moves v _ k e = absurd (cc)

pub stride_data : (v : ℕ) (h : Stmt-F Stmt) (k : ℤ) → stride_of v h ≡ Some k → Stride k
stride_data v (Assign site x e) k t = by_moves v e k (when_is (x.0 == v) (moves v e) k t)
stride_data v _ k t = absurd (cc)

when_true : (b : Bool) (o : Option ℤ) (k : ℤ) → when_so b o ≡ Some k → b ≡ true
when_true true o k e = refl
when_true false o k e = absurd (cc)

-- the moving assignment is one site, which stores v
mover_access : (v : ℕ) (h : Stmt-F Stmt) (k : ℤ) → stride_of v h ≡ Some k → (accesses_at h ≡ head_access h ∷ []) × ((head_access h).stores ≡ Some v)
mover_access v (Assign site x e) k t = (refl, ap (λ (y : ℕ). Some y) (eqb-true x.0 v (when_true (x.0 == v) (moves v e) k t)))
mover_access v _ k t = absurd (cc)

module _ {p : Program} {plan : Plan} (a : Accepted p plan) (test : ℤ → ℤ → ℤ → Bool) (d u v : ℕ) where
  abbrev r : ℕ
  r = plan.region

  abbrev pub condition : List SiteTouch
  condition = record { site = a.site.0; reads = reads a.cond; store = None } ∷ []

  abbrev counts : Access → Bool
  counts c = stores_var v c

  -- what the test found
  pub record Found : Type 0 where
    pub h : Halves
    pub split : Split v a.body h
    pub s : Stored
    pub front : list_all (touch_passes (test h.stride) v d u s (pos 0)) (front_touches condition h) ≡ true
    pub back : list_all (touch_passes (test h.stride) v d u s h.stride) (back_touches h) ≡ true

  body_here : region_body p r ≡ a.body
  body_here = ap (flat_map (λ (x : Stmt). body_of (out-Stmt x))) a.region ∙ ap (λ (g : Stmt-F Stmt). body_of g ++ []) a.is ∙ append-nil a.body

  condition_here : region_condition p r ≡ condition
  condition_here = ap (flat_map (λ (x : Stmt). condition_touch (out-Stmt x))) a.region ∙ ap (λ (g : Stmt-F Stmt). condition_touch g ++ []) a.is

  pub found : halves_pass test v d u (region_condition p r) (halves v (region_body p r)) ≡ true → Found
  found e = by_halves (halves v a.body) refl (ap (λ (xs : List Stmt). halves_pass test v d u condition (halves v xs)) (sym body_here)
      ∙ ap (λ (cs : List SiteTouch). halves_pass test v d u cs (halves v (region_body p r))) (sym condition_here) ∙ e)
    where
      by_stored : (h : Halves) → Split v a.body h → (o : Option Stored) → all_pass (test h.stride) v d u condition h o ≡ true → Found
      by_stored h split None e = absurd (cc)
      by_stored h split (Some s) e = let both = and_parts _ _ e in record { h = h; split = split; s = s; front = both.0; back = both.1 }

      by_halves : (o : Option Halves) → halves v a.body ≡ o → halves_pass test v d u condition o ≡ true → Found
      by_halves None q e = absurd (cc)
      by_halves (Some h) q e =
          by_stored h (halves_are v a.body h q) (option_or (store_of v (pos 0) d (front_touches condition h)) (store_of v h.stride d (back_touches h))) e

  module _ (f : Found) (one : count_by counts (flat_map accesses (region_in p r)) ≡ 1) where
    abbrev front : List Stmt
    front = f.h.front

    abbrev mover : Stmt
    mover = f.h.mover

    abbrev back : List Stmt
    back = f.h.back

    pub accesses_body : accesses_all a.body ≡ accesses_all front ++ (accesses mover ++ accesses_all back)
    accesses_body = ap accesses_all f.split.is ∙ flat_map-append accesses front (mover ∷ back)

    pub mover_is : accesses mover ≡ head_access (out-Stmt mover) ∷ []
    mover_is = accesses_out mover ∙ (mover_access v (out-Stmt mover) f.h.stride f.split.stride).0

    pub stores : (head_access (out-Stmt mover)).stores ≡ Some v
    stores = (mover_access v (out-Stmt mover) f.h.stride f.split.stride).1

    three : (Q : Access → Type 0) → Each Q (accesses_all a.body ++ []) → Each Q (accesses_all front) × Each Q (accesses mover) × Each Q (accesses_all back)
    three Q e =
        let all = subst (λ (xs : List Access). Each Q xs) (append-nil (accesses_all a.body) ∙ accesses_body) e in
        let first = each_split Q (accesses_all front) (accesses mover ++ accesses_all back) all in
        let second = each_split Q (accesses mover) (accesses_all back) first.1 in (first.0, second.0, second.1)

    sounds : Each (Sound p plan) (accesses_all front) × Each (Sound p plan) (accesses mover) × Each (Sound p plan) (accesses_all back)
    sounds = three (Sound p plan) (sound_parts a).1

    mover_sound : Sound p plan (head_access (out-Stmt mover))
    mover_sound = (subst (λ (xs : List Access). Each (Sound p plan) xs) mover_is sounds.1).0

    pub room : 0 < cell_count p (record { 0 = v })
    room = subst (Rattle.dp_semantics.proofs.Setting.Roomy p) stores mover_sound.room

    -- no other site stores v
    count_parts : count_by counts (accesses_all a.body) ≡ count_by counts (accesses_all front) + (count_by counts (accesses mover) + count_by counts
        (accesses_all back))
    count_parts = ap (count_by counts) accesses_body ∙ sum_by-append (λ (c : Access). cond (counts c) 1 0) (accesses_all front)
        (accesses mover ++ accesses_all back)
        ∙ ap (λ (n : ℕ). count_by counts (accesses_all front) + n) (sum_by-append (λ (c : Access). cond (counts c) 1 0) (accesses mover) (accesses_all back))

    mover_counts : count_by counts (accesses mover) ≡ 1
    mover_counts = ap (count_by counts) mover_is ∙ sum_by-cons (λ (c : Access). cond (counts c) 1 0) (head_access (out-Stmt mover)) []
        ∙ ap (λ (b : Bool). cond b 1 0 + count_by counts []) (ap (Rattle.dp_semantics.proofs.Names.is_same_variable v) stores ∙ eq-eqb v v refl)

    whole_counts : count_by counts (accesses_all a.body) ≡ 1
    whole_counts =
        let shown = ap (λ (xs : List Stmt). count_by counts (flat_map accesses xs)) a.region ∙ ap (λ (xs : List Access). count_by counts (xs ++ []))
        (accesses_out a.statement ∙ ap accesses_at a.is)
        ∙ sum_by-cons (λ (c : Access). cond (counts c) 1 0) (head_access (Region plan.region a.site a.cond a.body)) (accesses_all a.body ++ [])
        ∙ ap (λ (xs : List Access). 0 + count_by counts xs) (append-nil (accesses_all a.body)) in
        omega (arith, one, shown)

    pub front_none : Each (λ (c : Access). c.stores ≡ Some v → ⊥) (accesses_all front)
    front_none = Rattle.dp_semantics.proofs.Setting.each_map (λ c. counts c ≡ false) _ (not_stores v) (accesses_all front)
        (none_counted counts (accesses_all front) (omega (arith, whole_counts, count_parts, mover_counts)))

    pub back_none : Each (λ (c : Access). c.stores ≡ Some v → ⊥) (accesses_all back)
    back_none = Rattle.dp_semantics.proofs.Setting.each_map (λ c. counts c ≡ false) _ (not_stores v) (accesses_all back)
        (none_counted counts (accesses_all back) (omega (arith, whole_counts, count_parts, mover_counts)))

    wells : (all_well p plan front ≡ true) × (all_well p plan back ≡ true)
    wells =
        let all : all_well p plan (front ++ mover ∷ back) ≡ true = ap (all_well p plan) (sym f.split.is) ∙ a.well in
        let first = and_parts (all_well p plan front) (all_well p plan (mover ∷ back))
        (sym (list_all-append (well_nested p plan) front (mover ∷ back)) ∙ all) in
        (first.0, (and_parts (well_nested p plan mover) (all_well p plan back) first.1).1)

    abbrev passes : SiteTouch → Bool
    passes = touch_passes (test f.h.stride) v d u f.s (pos 0)

    pub touched : (list_all passes condition ≡ true) × (list_all passes (touches_all front) ≡ true) × (list_all passes (touches mover) ≡ true)
    touched = let first = tests passes condition (touches_all front ++ touches mover) f.front in
        let second = tests passes (touches_all front) (touches mover) first.1 in (first.0, second.0, second.1)

    mover_touch : list_all passes (touches mover) ≡ true → passes (head_touch (out-Stmt mover)) ≡ true
    mover_touch e = by (out-Stmt mover) f.split.stride (ap (list_all passes) (sym (touches_out mover)) ∙ e)
      where
        by : (g : Stmt-F Stmt) → stride_of v g ≡ Some f.h.stride → list_all passes (touches_at g) ≡ true → passes (head_touch g) ≡ true
        by (Assign site x value) t e = (and_parts (passes (head_touch (Assign site x value))) true e).0
        by _ t e = absurd (cc)

    pub moving : (input : List ℤ) → Moving a input v f.h.stride (Both p v d u f.s.array f.s.place (λ place. test f.h.stride f.s.place place ≡ true))
        (Piece a input v room (test f.h.stride) d u f.s (pos 0)) (Piece a input v room (test f.h.stride) d u f.s f.h.stride)
    moving input = record {
      room = room;
      front = front;
      mover = mover;
      back = back;
      body_is = f.split.is;
      stride = f.split.stride;
      here = both_there p (test f.h.stride) v d u f.s (pos 0) (out-Stmt mover) mover_sound.reads (mover_touch touched.2);
      condition = (
        ((sound_parts a).0, λ q. absurd (cc q)),
        both_there p (test f.h.stride) v d u f.s (pos 0) (If a.site a.cond a.body []) (sound_parts
            a).0.reads (and_parts _ true touched.0).0,
      );
      before = piece_facts a input v room (test f.h.stride) d u f.s (pos 0);
      behind = piece_facts a input v room (test f.h.stride) d u f.s f.h.stride;
      front_has = (wells.0, ((sounds.0, front_none), touched.1));
      back_has = (wells.1, ((sounds.2, back_none), f.back));
    }
