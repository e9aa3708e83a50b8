-- The shape of what is left to do, after a step.
use Rattle.dp_meaning.proofs.Names.{◌≡◌, ◌≢◌, refl, sym, ap, ◌∙◌, subst, ℕ, Bool, true, false, List, [], ◌∷◌, ◌++◌, drop, Option, Some, None, ℤ, eq-eqb}
use Rattle.dp_meaning.proofs.Names.{list_all, Stmt, out-Stmt, Stmt-F, Program, StandsInMain, is_inner, is_top, all_top, regions_in_order, Config, Event}
use Rattle.dp_meaning.proofs.Names.{Stepped, step, standing, value_of, leaves, and_true, standing_to_do, StepsTo, stepped, not_stepped, inner_all, inner_out}
use Rattle.dp_meaning.proofs.Names.{Part, part_from, part_of, part_at, is_any_region, from_region, IsOrdered, UnderWay, IsEndOfMain, leaves_region}
use Rattle.dp_meaning.proofs.Names.{current_behind, top_at}
use Rattle.std.proofs.lemmas.List.Folds.{list_all-append}
use Rattle.dp_meaning.specs.declared.ends.Part.TheVariants as part
use Rattle.dp_tree.specs.declared.Stmt.TheOpen.{Region, Break}
use Rattle.dp_meaning.proofs.FollowedLemmas.{no_region_at, goes_off, fits_at, inner_fits, top_fits_at, followed_off, followed_on, followed_ordered}
use Rattle.dp_meaning.proofs.FollowedLemmas.{ordered_rest, ordered_from, ordered_head}
use Rattle.dp_meaning.proofs.StopLemmas.{from_region-over}

pub not_plain : (q : Part) (r : ℕ) → q ≡ part.Region r → q ≢ part.Plain
not_plain q r e f = absurd (cc)

to_do_is : (p : Program) (c : Config) (s : StandsInMain p c) → c.to_do ≡ s.inner ++ s.behind
to_do_is p c s = ap (λ (d : Config). d.to_do) s.config_is ∙ standing_to_do p (s.inner ++ s.behind) s.cells

-- a plain head of `main` leaves no region
unbroken : (h : Stmt-F Stmt) (z : ℤ) → top_at h ≡ true → part_from h ≡ part.Plain → goes_off h z ≡ false
unbroken (Region r site cond a) z k f = absurd (cc f)
unbroken (Break site cond) z k f = absurd (cc k)
unbroken _ z k f = refl

module _ (p : Program) (input : List ℤ) (c d : Config) (event : Event) (s : step p input c ≡ Stepped event d) where
  -- the shape after the step, by whether it left a region
  pub record Shape (current : Option ℕ) (left : Bool) : Type 0 where
    pub under_way : UnderWay (current_behind left (part_at current c.to_do) (part_of d.to_do)) d.to_do
    pub stays : left ≡ false → from_region d.to_do ≡ from_region c.to_do
    pub off : left ≡ true → d.to_do ≡ drop 1 (from_region c.to_do)
    pub plain : part_at current c.to_do ≡ part.Plain → left ≡ false
    pub decides : (r : ℕ) → part_of c.to_do ≡ part.Region r → leaves event.effect ≡ false

  abbrev z : ℤ
  z = value_of event.effect

  module _ (x : Stmt) (rest : List Stmt) (e : c.to_do ≡ x ∷ rest) where
    abbrev head : Stmt-F Stmt
    head = out-Stmt x

    to : StepsTo x rest head event d
    to = stepped p input c x rest event d e s

    -- the head is a statement of a body, or of `main`
    fits : regions_in_order 1 p.main ≡ true → (t : StandsInMain p c) → fits_at head ≡ true
    fits in_order t = by t.inner t.plain (sym e ∙ to_do_is p c t)
      where
        by : (inner : List Stmt) → inner_all inner ≡ true → x ∷ rest ≡ inner ++ t.behind → fits_at head ≡ true
        by [] k f =
            let tops : list_all is_top (t.before ++ x ∷ rest) ≡ true = ap (λ (ys : List Stmt). list_all is_top (t.before ++ ys)) f
            ∙ ap (list_all is_top) (sym t.main_is) ∙ all_top 1 p.main in_order in
            top_fits_at head (and_true (is_top x) (list_all is_top rest) (and_true (list_all is_top t.before) (list_all is_top (x ∷ rest))
            (sym (list_all-append is_top t.before (x ∷ rest)) ∙ tops)).1).0
        by (y ∷ inner) k f =
            let same : x ≡ y = cc in
            inner_fits head (sym (inner_out x) ∙ ap is_inner same ∙ (and_true (is_inner y) (inner_all inner) k).0)

    leaves_by : (h : Stmt-F Stmt) → StepsTo x rest h event d → (goes_off h z ≡ leaves_region (part_from h) event.effect)
        × ((r : ℕ) → part_from h ≡ part.Region r → leaves event.effect ≡ false)
    leaves_by (Region r site cond a) t = (sym (t.zero r (eq-eqb r r refl)), λ q f. t.left)
    leaves_by _ t = (sym t.left, λ q f. absurd (cc))

    module _ (fit : fits_at head ≡ true) where
      on : goes_off head z ≡ false → from_region d.to_do ≡ from_region c.to_do
      on f = ap from_region to.to_do ∙ followed_on x rest z head refl fit f ∙ ap from_region (sym e)

      off_to : goes_off head z ≡ true → d.to_do ≡ drop 1 (from_region c.to_do)
      off_to f = to.to_do ∙ followed_off x rest z head refl f ∙ ap (λ (ys : List Stmt). drop 1 (from_region ys)) (sym e)

      -- in an iteration, what is left of it, or its region again
      within : (r : ℕ) → part_of (from_region c.to_do) ≡ part.Region r → IsOrdered (from_region c.to_do) → (b : Bool) → goes_off head z ≡ b →
          UnderWay (current_behind b (part.Region r) (part_of d.to_do)) d.to_do
      within r next o true f = subst IsOrdered (sym (off_to f)) (ordered_rest (from_region c.to_do) o)
      within r next o false f = by (part_of d.to_do) refl
        where
          ordered : IsOrdered (from_region d.to_do)
          ordered = subst IsOrdered (sym (on f)) o

          by : (q : Part) → part_of d.to_do ≡ q → UnderWay (current_behind false (part.Region r) q) d.to_do
          by part.Plain g = record { first = g; next = ap part_of (on f) ∙ next; ordered = ordered }
          by (part.Region q) g = subst IsOrdered (from_region-over d.to_do (not_plain (part_of d.to_do) q g)) ordered
          by part.Finished g = subst IsOrdered (from_region-over d.to_do (λ h. let clash : part.Plain ≡ part.Finished = sym h ∙ g in absurd (cc clash))) ordered

      way : (current : Option ℕ) → UnderWay current c.to_do → UnderWay (current_behind (goes_off head z) (part_at current c.to_do) (part_of d.to_do)) d.to_do
      way (Some r) w = within r w.next w.ordered (goes_off head z) refl
      way None o = by head refl (ordered_head x rest (subst IsOrdered e o))
        where
          by : (h : Stmt-F Stmt) → head ≡ h → top_at h ≡ true → UnderWay (current_behind (goes_off head z) (part_of c.to_do) (part_of d.to_do)) d.to_do
          by (Region r site cond a) is k =
              let at : part_of c.to_do ≡ part.Region r = ap part_of e ∙ ap part_from is in
              subst (λ (q : Part). UnderWay (current_behind (goes_off head z) q (part_of d.to_do)) d.to_do) (sym at)
              (within r (ap part_of (from_region-over c.to_do (not_plain (part_of c.to_do) r at)) ∙ at) (ordered_from c.to_do o) (goes_off head z) refl)
          by (Break site cond) is k = absurd (cc k)
          by h is k =
              let at : part_of c.to_do ≡ part.Plain = ap part_of e ∙ ap part_from is in
              let stays : goes_off head z ≡ false = ap (λ (f : Stmt-F Stmt). goes_off f z) is in
              subst (λ (q : Part). UnderWay (current_behind (goes_off head z) q (part_of d.to_do)) d.to_do) (sym at)
              (subst (λ (b : Bool). UnderWay (current_behind b part.Plain (part_of d.to_do)) d.to_do) (sym stays)
              (subst IsOrdered (sym to.to_do) (followed_ordered x rest z (subst IsOrdered e o) head (ap top_at is ∙ k) (ap is_any_region is))))

      plain_stays : (current : Option ℕ) → UnderWay current c.to_do → part_at current c.to_do ≡ part.Plain → goes_off head z ≡ false
      plain_stays (Some r) w f = absurd (cc f)
      plain_stays None o f = unbroken head z (ordered_head x rest (subst IsOrdered e o)) (sym (ap part_of e) ∙ f)

      shaped_at : (current : Option ℕ) → UnderWay current c.to_do → Shape current (goes_off head z)
      shaped_at current u =
          record {
            under_way = way current u;
            stays = on;
            off = off_to;
            plain = plain_stays current u;
            decides = λ q f. (leaves_by head to).1 q (sym
                (ap part_of e) ∙ f);
          }

  pub shaped : regions_in_order 1 p.main ≡ true → StandsInMain p c → (current : Option ℕ) → UnderWay current c.to_do →
      Shape current (leaves_region (part_of c.to_do) event.effect)
  shaped in_order t current u = by c.to_do refl
    where
      by : (xs : List Stmt) → c.to_do ≡ xs → Shape current (leaves_region (part_of c.to_do) event.effect)
      by [] e = not_stepped p input c event d e s
      by (x ∷ rest) e =
          subst (Shape current) ((leaves_by x rest e (out-Stmt x) (to x rest e)).0 ∙ ap (λ (ys : List Stmt). leaves_region (part_of ys) event.effect) (sym e))
          (shaped_at x rest e (fits x rest e in_order t) current u)

-- Where a machine stands at a region or at the end, the rest of `main` is left to do.
pub at_end : (p : Program) (c : Config) → StandsInMain p c → part_of c.to_do ≢ part.Plain → IsEndOfMain p c
at_end p c s over = by s.inner s.plain (to_do_is p c s)
  where
    by : (inner : List Stmt) → inner_all inner ≡ true → c.to_do ≡ inner ++ s.behind → IsEndOfMain p c
    by [] k e = record {
      before = s.before;
      cells = s.cells;
      main_is = s.main_is ∙ ap (λ (xs : List Stmt). s.before ++ xs) (sym e);
      config_is = s.config_is ∙ ap (λ (xs : List Stmt). standing p xs s.cells) (sym (to_do_is p c s));
      cells_are = s.cells_are;
    }
    by (x ∷ inner) k e = absurd (over (ap part_of e ∙ (no_region_at x (and_true (is_inner x) (inner_all inner) k).0).2))
