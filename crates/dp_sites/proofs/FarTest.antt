-- In a region that stands once and whose sites go up one by one, the code's test of two sites is the definition's.
use Rattle.std.proofs.Common.{◌≡◌, inl, inr, refl, sym, ap, ◌∙◌, subst, ℕ, zero, suc, ◌+◌, ◌-◌, ◌≤◌, ◌==◌, Bool, true, false, if◌then◌else◌, not, ◌&&◌, nat_lt}
use Rattle.std.proofs.Common.{List, [], ◌∷◌, ◌++◌, map, length, length-append, append_assoc, append-nil, ℤ, Option, Some, None, slice_get, count_by, cond}
use Rattle.std.proofs.Common.{arith, eq-eqb, ltb-true, ltb-false}
use Rattle.std.proofs.lemmas.Bool.{and_right}
use Rattle.std.proofs.lemmas.List.Sums.{sum_by-cons}
use Rattle.std.specs.List.{list_all, list_any, flat_map}
use Rattle.std.proofs.lemmas.Grind.{flat_map-append}
use Rattle.dp_base.specs.declared.SiteId.{SiteId}
use Rattle.dp_base.specs.declared.VarId.{VarId}
use Rattle.dp_tree.specs.declared.Expr.{Expr}
use Rattle.dp_tree.specs.declared.Program.{Program}
use Rattle.dp_tree.specs.declared.VarInfo.{VarInfo}
use Rattle.dp_tree.specs.declared.Stmt.{Stmt, out-Stmt, roll-out-Stmt, roll-Stmt}
use Rattle.dp_tree.specs.declared.Stmt.TheBlock.{hidden-the_row-Stmt-0}
use Rattle.dp_tree.specs.declared.Stmt.TheOpen.{Stmt-F, Region}
use Rattle.dp_tree.specs.declared.Stmt.TheViews.{rolls-Region}
use Rattle.dp_tree.specs.Numbering.{numbers_from}
use Rattle.dp_plan.specs.declared.Plan.{Plan}
use Rattle.dp_plan.specs.Stage.{is_local}
use Rattle.dp_plan.specs.Access.{Access, accesses, region_in, stores_var}
use Rattle.dp_plan.specs.Touch.{Touch, reads, when_so}
use Rattle.dp_plan.specs.IsFar.{SiteTouch, Halves, back_touches, body_of, condition_touch, front_touches, halves, halves_pass, moves_alone, passes_with}
use Rattle.dp_plan.specs.IsFar.{region_body, region_condition, is_scalar_entry, stored_at, touches, touches_in}
use Rattle.dp_sites.specs.declared.place.Place.{Place}
use Rattle.dp_sites.specs.declared.place.Gap.{Gap}
use Rattle.dp_sites.specs.declared.moving.Moving.{Moving}
use Rattle.dp_sites.specs.declared.moving.Mover.{Mover}
use Rattle.dp_sites.specs.declared.part.Part.{Part}
use Rattle.dp_sites.specs.Place.{offset_in, stride_in, test_of}
use Rattle.dp_sites.specs.steps.Parts.{index_in, touched}
use Rattle.dp_sites.specs.Storings.{is_moved_alone, mover_in, moving_of, moving_with, part_stores, passes_by}
use Rattle.dp_plan.proofs.LoadLemmas.{opened}
use Rattle.dp_sites.proofs.Aligned.{Aligned}
use Rattle.dp_sites.proofs.FarFind.{Among, TouchesRise, find, touch_site, touches_split}
use Rattle.dp_sites.proofs.FarHalves.{halves_are, passes_stored, shift_by}
use Rattle.dp_sites.proofs.FarMovers.{Cut, cut, cut_at, uncut}
use Rattle.dp_sites.proofs.FarCode.{all_reads, none_any, single_any, stored_is, unstored}
use Rattle.dp_sites.proofs.FarOffsets.{offset_by}

touches_hidden : (xs : List Stmt) → touches_in (hidden-the_row-Stmt-0 xs) ≡ flat_map touches xs
unfolding opened
touches_hidden [] = refl
touches_hidden (x ∷ xs) = ap (λ ys. touches x ++ ys) (touches_hidden xs)

abbrev head_of : SiteId → Expr → SiteTouch
head_of site cond = record { site = site.0; reads = reads cond; store = None }

touches_region : (x : Stmt) (r : ℕ) (site : SiteId) (cond : Expr) (body : List Stmt) → out-Stmt x ≡ Region r site cond body → touches x ≡ head_of site cond
    ∷ flat_map touches body
unfolding opened
touches_region x r site cond body is =
    ap touches (sym (roll-out-Stmt x)) ∙ ap (λ (h : Stmt-F Stmt). touches (roll-Stmt h)) is ∙ ap touches (rolls-Region r site cond body)
    ∙ ap (λ ys. head_of site cond ∷ ys) (touches_hidden body)

-- so many sites store v, by both
counted : (v : VarId) (xs : List Access) (ts : List SiteTouch) (us : List Part) → Aligned xs ts us → count_by (part_stores v) us ≡ count_by (stores_var v.0) xs
counted v [] [] [] h = refl
counted v [] [] (u ∷ us) h = absurd h
counted v [] (t ∷ ts) us h = absurd h
counted v (a ∷ xs) [] us h = absurd h
counted v (a ∷ xs) (t ∷ ts) [] h = absurd h
counted v (a ∷ xs) (t ∷ ts) (u ∷ us) h =
    sum_by-cons (λ (y : Part). cond (part_stores v y) 1 0) u us
    ∙ ap (λ (n : ℕ). cond (part_stores v u) 1 0 + n) (counted v xs ts us h.1)
    ∙ ap (λ (b : Bool). cond b 1 0 + count_by (stores_var v.0) xs) (ap (part_stores v) h.0.part_is ∙ same t.store
    ∙ sym (ap (Rattle.dp_plan.specs.Access.is_same_variable v.0) h.0.stores))
    ∙ sym (sum_by-cons (λ (y : Access). cond (stores_var v.0 y) 1 0) a xs)
  where
    turn : (x y : ℕ) → (x == y) ≡ (y == x)
    turn x y = elim (Rattle.std.proofs.lemmas.Bool.cases_eq x y) [
      | inl e ↦ eq-eqb x y e ∙ sym (eq-eqb y x (sym e))
      | inr f ↦ Rattle.std.proofs.Common.ne_eqb x y f ∙ sym (Rattle.std.proofs.Common.ne_eqb y x (λ e. f (sym e)))
    ]

    same : (o : Option Touch) → Rattle.dp_sites.specs.Storings.is_touched v (Rattle.dp_sites.specs.steps.Parts.touched_in o)
        ≡ Rattle.dp_plan.specs.Access.is_same_variable v.0 (Rattle.dp_sites.proofs.Aligned.variable_in o)
    same None = refl
    same (Some x) = turn x.variable v.0

beyond : (vars : List VarInfo) (v : ℕ) → length vars ≤ v → is_scalar_entry (slice_get vars v) ≡ false
beyond [] v high = refl
beyond (x ∷ vars) zero high = absurd (omega (arith, high))
beyond (x ∷ vars) (suc v) high = beyond vars v (omega (arith, high))

among : (m n split : ℕ) → split ≡ suc m → Among n split (nat_lt m n)
among m n split e = by (nat_lt m n) refl
  where
    by : (b : Bool) → nat_lt m n ≡ b → Among n split b
    by true t = let low = ltb-true m n t in omega (arith, low, e)
    by false t = let high = ltb-false m n t in omega (arith, high, e)

module _ (p : Program) (plan : Plan) (s : Stmt) (only : region_in p plan.region ≡ s ∷ []) (r : ℕ) (site : SiteId) (condition : Expr) (body : List Stmt)
    (is : out-Stmt s ≡ Region r site condition body)
    (k : ℕ) (rises : TouchesRise k (touches s)) (us : List Part) (aligned : Aligned (accesses s) (touches s) us) where
  body_here : region_body p plan.region ≡ body
  body_here = ap (flat_map (λ (x : Stmt). body_of (out-Stmt x))) only ∙ ap (λ (g : Stmt-F Stmt). body_of g ++ []) is ∙ append-nil body

  condition_here : region_condition p plan.region ≡ head_of site condition ∷ []
  condition_here = ap (flat_map (λ (x : Stmt). condition_touch (out-Stmt x))) only ∙ ap (λ (g : Stmt-F Stmt). condition_touch g ++ []) is

  alone_same : (v : VarId) → is_moved_alone p plan us v ≡ moves_alone p plan.region v.0
  alone_same v =
      ap (λ (n : ℕ). is_scalar_entry (slice_get p.vars v.0) && (not (is_local plan.region (slice_get p.vars v.0)) && (n == 1)))
      (counted v (accesses s) (touches s) us aligned ∙ ap (count_by (stores_var v.0)) (sym (append-nil (accesses s)) ∙ sym (ap (flat_map accesses) only)))

  module _ (h : Halves) (m : ℕ) (cut_is : body ≡ h.front ++ h.mover ∷ h.back) (mover_site : map touch_site (touches h.mover) ≡ m ∷ []) where
    abbrev fs : List SiteTouch
    fs = front_touches (head_of site condition ∷ []) h

    abbrev ahead : List SiteTouch
    ahead = head_of site condition ∷ flat_map touches h.front

    pieces : fs ++ back_touches h ≡ touches s
    pieces =
        ap (λ (ys : List SiteTouch). head_of site condition ∷ ys) (append_assoc (flat_map touches h.front) (touches h.mover) (back_touches h)
        ∙ sym (flat_map-append touches h.front (h.mover ∷ h.back)) ∙ ap (flat_map touches) (sym cut_is))
        ∙ sym (touches_region s r site condition body is)

    rises_here : TouchesRise k (fs ++ back_touches h)
    rises_here = subst (λ (ts : List SiteTouch). TouchesRise k ts) (sym pieces) rises

    one_touch : length (touches h.mover) ≡ 1
    one_touch = sym (Rattle.std.proofs.lemmas.List.length-map (touches h.mover) touch_site) ∙ ap length mover_site

    split_is : k + length fs ≡ suc m
    split_is =
        let first = (touches_split k fs (back_touches h) rises_here).0 in
        let second = (touches_split k ahead (touches h.mover) first).1 in
        let mover_at : m ≡ k + length ahead = (subst (λ (ns : List ℕ). Rattle.dp_plan.proofs.Ascent.Ascends (k + length ahead) ns) mover_site second).0 in
        let long : length (ahead ++ touches h.mover) ≡ length ahead + length (touches h.mover) = length-append ahead (touches h.mover) in
        omega (arith, mover_at, long, one_touch)

  -- two of its sites
  module _ (test : Gap) (d u : Part) (td tu : SiteTouch) (atD : find d.site (touches s) ≡ Some td) (atU : find u.site (touches s) ≡ Some tu)
      (loads_are : u.loads ≡ map touched tu.reads)
      (array : ℕ) (index : Option Expr) (stores : td.store ≡ Some (record { variable = array; index = index })) where
    abbrev tests : ℤ → ℤ → ℤ → Bool
    tests = test_of test

    -- by a variable that moves, at the place where the body is cut
    by_cut : (v : ℕ) (h : Halves) (m : Mover) → body ≡ h.front ++ h.mover ∷ h.back → map touch_site (touches h.mover) ≡ m.site ∷ [] →
        halves_pass tests v d.site u.site (head_of site condition ∷ []) (Some h) ≡ passes_stored (tests h.stride) v (shift_by h.stride (nat_lt m.site u.site))
        tu (stored_at v (shift_by h.stride (nat_lt m.site d.site)) td.store)
    by_cut v h m cut_is mover_site =
        let split = split_is h m.site cut_is mover_site in
        halves_are tests v d.site u.site k (head_of site condition ∷ []) h (rises_here h m.site cut_is mover_site) td tu
        (ap (find d.site) (pieces h m.site cut_is mover_site) ∙ atD) (ap (find u.site) (pieces h m.site cut_is mover_site) ∙ atU)
        (nat_lt m.site d.site) (nat_lt m.site u.site) (among m.site d.site (k + length (fs h m.site cut_is mover_site)) split)
        (among m.site u.site (k + length (fs h m.site cut_is mover_site)) split)

    passes_here : (v : ℕ) → passes_with tests p plan.region d.site u.site v ≡ (moves_alone p plan.region v && halves_pass tests v d.site u.site
        (head_of site condition ∷ []) (halves v body))
    passes_here v =
        ap (λ (cs : List SiteTouch). moves_alone p plan.region v && halves_pass tests v d.site u.site cs (halves v (region_body p plan.region))) condition_here
        ∙ ap (λ (xs : List Stmt). moves_alone p plan.region v && halves_pass tests v d.site u.site (head_of site condition ∷ []) (halves v xs)) body_here

    -- by a variable from which the stored place has no offset
    unplaced : (v : ℕ) → offset_by v (index_in index) ≡ None → passes_with tests p plan.region d.site u.site v ≡ false
    unplaced v none = passes_here v ∙ and_right (moves_alone p plan.region v) _ (by (cut_at (record { 0 = v }) body))
      where
        by : Cut (record { 0 = v }) body → halves_pass tests v d.site u.site (head_of site condition ∷ []) (halves v body) ≡ false
        by (uncut a b) = ap (halves_pass tests v d.site u.site (head_of site condition ∷ [])) a
        by (cut h m a b stride cut_is mover_site) =
            ap (halves_pass tests v d.site u.site (head_of site condition ∷ [])) a ∙ by_cut v h m cut_is mover_site
            ∙ ap (passes_stored (tests h.stride) v (shift_by h.stride (nat_lt m.site u.site)) tu) (ap (stored_at v (shift_by h.stride (nat_lt m.site d.site)))
            stores ∙ unstored v (shift_by h.stride (nat_lt m.site d.site)) array index none)

    module _ (q : Place) (placed : index_in index ≡ Some q) where
      abbrev v : ℕ
      v = q.by.0

      abbrev to : VarId
      to = record { 0 = array }

      abbrev code : Option Mover → Bool
      code m = passes_by test u to (moving_with d.site q m)

      moving_here : halves_pass tests v d.site u.site (head_of site condition ∷ []) (halves v body) ≡ code (mover_in q.by body)
      moving_here = by (cut_at q.by body)
        where
          by : Cut q.by body → halves_pass tests v d.site u.site (head_of site condition ∷ []) (halves v body) ≡ code (mover_in q.by body)
          by (uncut a b) = ap (halves_pass tests v d.site u.site (head_of site condition ∷ [])) a ∙ sym (ap code b)
          by (cut h m a b stride cut_is mover_site) =
              ap (halves_pass tests v d.site u.site (head_of site condition ∷ [])) a ∙ by_cut v h m cut_is mover_site
              ∙ ap (λ (z : ℤ). passes_stored (tests z) v (shift_by z (nat_lt m.site u.site)) tu
              (stored_at v (shift_by z (nat_lt m.site d.site)) td.store)) stride
              ∙ ap (passes_stored (tests (stride_in m.step)) v (shift_by (stride_in m.step) (nat_lt m.site u.site)) tu)
              (ap (stored_at v (shift_by (stride_in m.step) (nat_lt m.site d.site))) stores ∙ stored_is q array index (nat_lt m.site d.site) m.step placed)
              ∙ all_reads test u.site (record { place = q; late = nat_lt m.site d.site; step = m.step; mover = m.site }) to tu.reads
              ∙ ap (list_all (Rattle.dp_sites.specs.Storings.load_passes test u.site to
              (record { place = q; late = nat_lt m.site d.site; step = m.step; mover = m.site }))) (sym loads_are)
              ∙ sym (ap code b)

      off_here : (w : ℕ) → (w ≡ v → ⊥) → offset_by w (index_in index) ≡ None
      off_here w other = ap (offset_by w) placed ∙ ap (λ (b : Bool). when_so b (Some (offset_in q)))
          (Rattle.std.proofs.Common.ne_eqb q.by.0 w (λ e. other (sym e)))

      chosen : (b : Bool) (o : Option Moving) → (b && passes_by test u to o) ≡ passes_by test u to (if b then o else None)
      chosen true o = refl
      chosen false o = refl

      pub far_placed : list_any (passes_with tests p plan.region d.site u.site) (numbers_from 0 (length p.vars)) ≡ passes_by test u to
          (if is_moved_alone p plan us q.by then moving_with d.site q (mover_in q.by body) else None)
      far_placed =
          single_any (passes_with tests p plan.region d.site u.site) v 0 (length p.vars) (λ w other. unplaced w (off_here w other)) (omega arith)
          (λ high. ap (λ (b : Bool).
          (b && (not (is_local plan.region (slice_get p.vars v)) && (count_by (stores_var v) (flat_map accesses (region_in p plan.region)) == 1)))
          && halves_pass tests v d.site u.site (region_condition p plan.region) (halves v (region_body p plan.region))) (beyond p.vars v (omega (arith, high))))
          ∙ passes_here v ∙ ap (λ (b : Bool). moves_alone p plan.region v && b) moving_here
          ∙ ap (λ (b : Bool). b && code (mover_in q.by body)) (sym (alone_same q.by))
          ∙ chosen (is_moved_alone p plan us q.by) (moving_with d.site q (mover_in q.by body))

    far_by : (o : Option Place) → index_in index ≡ o → plan.proved ≡ true → list_any (passes_with tests p plan.region d.site u.site)
        (numbers_from 0 (length p.vars)) ≡ passes_by test u (record { 0 = array }) (moving_of p plan us body d.site o)
    far_by None e proved = none_any (passes_with tests p plan.region d.site u.site) 0 (length p.vars) (λ v. unplaced v (ap (offset_by v) e))
    far_by (Some q) e proved = far_placed q e
        ∙ ap (λ (b : Bool). passes_by test u (record { 0 = array }) (if b && is_moved_alone p plan us q.by then moving_with d.site q (mover_in q.by body)
        else None)) (sym proved)

    -- The code's test is the definition's, in version 2.
    pub far_is : plan.proved ≡ true → list_any (passes_with tests p plan.region d.site u.site) (numbers_from 0 (length p.vars)) ≡ passes_by test u
        (record { 0 = array }) (moving_of p plan us body d.site (index_in index))
    far_is proved = far_by (index_in index) refl proved

  -- two of its sites, of which the first stores nothing
  module _ (test : Gap) (d u : Part) (td tu : SiteTouch) (atD : find d.site (touches s) ≡ Some td) (atU : find u.site (touches s) ≡ Some tu)
      (none : td.store ≡ None) where
    abbrev both_pass : ℕ → Option Halves → Bool
    both_pass v o = halves_pass (test_of test) v d.site u.site (head_of site condition ∷ []) o

    nothing : (v : ℕ) → halves_pass (test_of test) v d.site u.site (head_of site condition ∷ []) (halves v body) ≡ false
    nothing v = by (cut_at (record { 0 = v }) body)
      where
        by : Cut (record { 0 = v }) body → halves_pass (test_of test) v d.site u.site (head_of site condition ∷ []) (halves v body) ≡ false
        by (uncut a b) = ap (both_pass v) a
        by (cut h m a b stride cut_is mover_site) =
            let split = split_is h m.site cut_is mover_site in
            ap (both_pass v) a
            ∙ halves_are (test_of test) v d.site u.site k (head_of site condition ∷ []) h (rises_here h m.site cut_is mover_site) td tu
            (ap (find d.site) (pieces h m.site cut_is mover_site) ∙ atD) (ap (find u.site) (pieces h m.site cut_is mover_site) ∙ atU)
            (nat_lt m.site d.site) (nat_lt m.site u.site) (among m.site d.site (k + length (fs h m.site cut_is mover_site)) split)
            (among m.site u.site (k + length (fs h m.site cut_is mover_site)) split)
            ∙ ap (passes_stored (test_of test h.stride) v (shift_by h.stride (nat_lt m.site u.site)) tu)
            (ap (stored_at v (shift_by h.stride (nat_lt m.site d.site))) none)

    passes_nothing : (v : ℕ) → passes_with (test_of test) p plan.region d.site u.site v ≡ false
    passes_nothing v =
        ap (λ (cs : List SiteTouch). moves_alone p plan.region v && halves_pass (test_of test) v d.site u.site cs
        (halves v (region_body p plan.region))) condition_here
        ∙ ap (λ (xs : List Stmt). moves_alone p plan.region v && halves_pass (test_of test) v d.site u.site (head_of site condition ∷ [])
        (halves v xs)) body_here
        ∙ and_right (moves_alone p plan.region v) _ (nothing v)

    -- What stores nothing isn't known to lie apart.
    pub far_none : list_any (passes_with (test_of test) p plan.region d.site u.site) (numbers_from 0 (length p.vars)) ≡ false
    far_none = none_any (passes_with (test_of test) p plan.region d.site u.site) 0 (length p.vars) passes_nothing
