-- A pair of sites that passes the test is far: the laws' premises from the text.
use Rattle.dp_semantics.proofs.Names.{◌≡◌, refl, sym, ap, ◌∙◌, subst, ℕ, ◌<◌, Bool, true, List, [], ◌∷◌, ◌++◌, ℤ, Option, Some, None, list_all, list_all-append}
use Rattle.dp_semantics.proofs.Names.{flat_map-append, and_parts, and_from, Stmt, out-Stmt, Stmt-F, If, While, Region, Call, Program, Plan, Access, accesses}
use Rattle.dp_semantics.proofs.Names.{cell_count, well_nested}
use Rattle.std.proofs.Common.{cond}
use Rattle.dp_semantics.proofs.Followed.{Joins, Parts, all_joins}
use Rattle.dp_semantics.proofs.Setting.{Accepted, Sound, Each, each_split, accesses_all, accesses_at, accesses_out, all_well, well_at, well_out}
use Rattle.dp_theorem.proofs.Stepping.{well_parts, each_joins, each_parts, head_fact}
use Rattle.dp_plan.specs.Touch.{stride_of}
use Rattle.dp_theorem.proofs.Far.{Both}
use Rattle.dp_plan.specs.IsFar.{SiteTouch, Stored, Halves, halves, halves_by, behind_of, touches, touch_passes}
use Rattle.dp_theorem.proofs.Touches.{touches_all, touches_at, touches_out, head_touch}
use Rattle.dp_theorem.proofs.Even.{Facts, Still}
use Rattle.dp_theorem.proofs.Passing.{Passed, both_there}

-- a body's halves
pub record Split (v : ℕ) (body : List Stmt) (h : Halves) : Type 0 where
  pub is : body ≡ h.front ++ h.mover ∷ h.back
  pub stride : stride_of v (out-Stmt h.mover) ≡ Some h.stride

pub halves_are : (v : ℕ) (body : List Stmt) (h : Halves) → halves v body ≡ Some h → Split v body h
halves_are v [] h e = absurd (cc)
halves_are v (s ∷ rest) h e = by (stride_of v (out-Stmt s)) refl e (λ g q. halves_are v rest g q)
  where
    one : (k : ℤ) → stride_of v (out-Stmt s) ≡ Some k → (g : Halves) → record { front = []; mover = s; back = rest; stride = k } ≡ g → Split v (s ∷ rest) g
    one k q g same = subst (Split v (s ∷ rest)) same (record { is = refl; stride = q })

    more : (o : Option Halves) → halves v rest ≡ o → behind_of s o ≡ Some h → ((g : Halves) → halves v rest ≡ Some g → Split v rest g) → Split v (s ∷ rest) h
    more None q e go = absurd (cc)
    more (Some g) q e go =
        let same : record { front = s ∷ g.front; mover = g.mover; back = g.back; stride = g.stride } ≡ h = cc e in
        let later = go g q in
        subst (Split v (s ∷ rest)) same (record { is = ap (λ (xs : List Stmt). s ∷ xs) later.is; stride = later.stride })

    by : (o : Option ℤ) → stride_of v (out-Stmt s) ≡ o → halves_by s rest o (halves v rest) ≡ Some h →
        ((g : Halves) → halves v rest ≡ Some g → Split v rest g) → Split v (s ∷ rest) h
    by (Some k) q e go = one k q h (cc e)
    by None q e go = more (halves v rest) refl e go

parts_both : (F G : List Stmt → Type 0) (h : Stmt-F Stmt) → Parts F h → Parts G h → Parts (λ xs. F xs × G xs) h
parts_both F G (If site cond a b) f g = ((f.0, g.0), (f.1, g.1))
parts_both F G (While site cond a) f g = (f, g)
parts_both F G (Region r site cond a) f g = (f, g)
parts_both F G _ f g = tt

joins_both : (F G : List Stmt → Type 0) → Joins F → Joins G → Joins (λ xs. F xs × G xs)
joins_both F G f g = record { join = λ a b h k. (f.join a b h.0 k.0, g.join a b h.1 k.1); rest = λ x a h. (f.rest x a h.0, g.rest x a h.1) }

module _ (test : SiteTouch → Bool) where
  abbrev pub TouchesPass : List Stmt → Type 0
  TouchesPass xs = list_all test (touches_all xs) ≡ true

  pub tests : (a b : List SiteTouch) → list_all test (a ++ b) ≡ true → (list_all test a ≡ true) × (list_all test b ≡ true)
  tests a b h = and_parts (list_all test a) (list_all test b) (sym (list_all-append test a b) ∙ h)

  touches_joins : Joins TouchesPass
  touches_joins = record {
    join = λ a b h k. ap (list_all test) (flat_map-append touches a b) ∙ list_all-append test (touches_all a) (touches_all b) ∙ and_from _ _ h k;
    rest = λ x a h. (tests (touches x) (touches_all a) h).1;
  }

  touches_parts : (h : Stmt-F Stmt) → list_all test (touches_at h) ≡ true → Parts TouchesPass h
  touches_parts (If site cond a b) e = tests (touches_all a) (touches_all b) (and_parts (test (head_touch (If site cond a b))) _ e).1
  touches_parts (While site cond a) e = (and_parts (test (head_touch (While site cond a))) _ e).1
  touches_parts (Region r site cond a) e = (and_parts (test (head_touch (Region r site cond a))) _ e).1
  touches_parts _ e = tt

  touch_head : (p : Program) (plan : Plan) (h : Stmt-F Stmt) → well_at p plan h ≡ true → list_all test (touches_at h) ≡ true → test (head_touch h) ≡ true
  touch_head p plan (Call f line args) w e = absurd (cc)
  touch_head p plan (Region r site cond a) w e = absurd (cc)
  touch_head p plan _ w e = (and_parts _ _ e).0

module _ {p : Program} {plan : Plan} (a : Accepted p plan) (input : List ℤ) (v : ℕ) (room : 0 < cell_count p (record { 0 = v })) (test : ℤ → ℤ → Bool)
    (d u : ℕ) (s : Stored) where
  abbrev pub NotStored : Access → Type 0
  NotStored c = c.stores ≡ Some v → ⊥

  -- what is known of a piece of the body
  abbrev pub Piece : ℤ → List Stmt → Type 0
  Piece shift xs = (all_well p plan xs ≡ true) × ((Each (Sound p plan) (accesses_all xs) × Each NotStored (accesses_all xs))
      × TouchesPass (touch_passes test v d u s shift) xs)

  abbrev Says : ℤ → Stmt-F Stmt → Type 0
  Says shift h = Still a.laid input v room h × Both p v d u s.array s.place (Passed p test v d u s shift) shift h

  pub piece_facts : (shift : ℤ) → Facts (Piece shift) (Says shift)
  piece_facts shift = record {
    joins = joins_both (λ xs. all_well p plan xs ≡ true) _ (all_joins (well_nested p plan)) (joins_both _ (TouchesPass (touch_passes test v d u s shift))
        (joins_both _ _ (each_joins (Sound p plan)) (each_joins NotStored)) (touches_joins (touch_passes test v d u s shift)));
    parts = λ x rest h. parts_both (λ xs. all_well p plan xs ≡ true) _ (out-Stmt x) (well_parts p plan (out-Stmt x) (head x rest h.0))
        (parts_both _ (TouchesPass (touch_passes test v d u s shift)) (out-Stmt x)
        (parts_both _ _ (out-Stmt x) (each_parts (Sound p plan) (out-Stmt x) (at_head (Sound p plan) x rest h.1.0.0))
        (each_parts NotStored (out-Stmt x) (at_head NotStored x rest h.1.0.1)))
        (touches_parts (touch_passes test v d u s shift) (out-Stmt x) (touched x rest h.1.1)));
    fact = λ x rest h.
        let well = head x rest h.0 in
        let sound = head_fact (Sound p plan) p plan (out-Stmt x) well (at_head (Sound p plan) x rest h.1.0.0) in (
          (sound, head_fact NotStored p plan (out-Stmt x) well (at_head NotStored x rest h.1.0.1)),
          both_there p test v d u s shift (out-Stmt x) sound.reads (touch_head (touch_passes test v d u s shift) p plan (out-Stmt x) well
              (touched x rest h.1.1)),
        );
  }
    where
      head : (x : Stmt) (rest : List Stmt) → all_well p plan (x ∷ rest) ≡ true → well_at p plan (out-Stmt x) ≡ true
      head x rest w = sym (well_out p plan x) ∙ (and_parts (well_nested p plan x) (all_well p plan rest) w).0

      at_head : (Q : Access → Type 0) (x : Stmt) (rest : List Stmt) → Each Q (accesses_all (x ∷ rest)) → Each Q (accesses_at (out-Stmt x))
      at_head Q x rest e = subst (λ (xs : List Access). Each Q xs) (accesses_out x) (each_split Q (accesses x) (accesses_all rest) e).0

      touched : (x : Stmt) (rest : List Stmt) → TouchesPass (touch_passes test v d u s shift) (x ∷ rest) →
          list_all (touch_passes test v d u s shift) (touches_at (out-Stmt x)) ≡ true
      touched x rest e = ap (list_all (touch_passes test v d u s shift)) (sym (touches_out x))
          ∙ (tests (touch_passes test v d u s shift) (touches x) (touches_all rest) e).0
