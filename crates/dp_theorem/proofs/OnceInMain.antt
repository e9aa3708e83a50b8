-- Each region of an inlined program stands once in `main`, with its own sites inside and all others outside.
use Rattle.dp_semantics.proofs.Names.{◌≡◌, ◌⊎◌, inl, inr, refl, sym, ap, ◌∙◌, subst, ℕ, suc, ◌+◌, ◌-◌, ◌<◌, ◌≤◌, ◌==◌, Bool, true, false, not, ◌&&◌, List, []}
use Rattle.dp_semantics.proofs.Names.{◌∷◌, ◌++◌, length, Some, slice_get, nat_le, list_all, arith, le-leb, lt-leb, length-map, and_parts, and_from, end_of-Stmt}
use Rattle.dp_semantics.proofs.Names.{more_of-Stmt, Row_of-Stmt, hidden-the_row-Stmt-0, Region, Program, RegionInfo, Stmt, Access, accesses, accesses_in}
use Rattle.dp_semantics.proofs.Names.{is_free, is_free_in}
use Rattle.dp_tree.specs.declared.Stmt.TheVariants as tree
use Rattle.dp_tree.specs.Inlined.{IsInlined}
use Rattle.dp_tree.specs.Numbering.{site_numbers, site_numbers_all}
use Rattle.dp_tree.specs.RegionLaws.{StandsOnce, in_range, is_site_of, is_other_site, keeps, keeps_own}
use Rattle.dp_tree.specs.Statements.{everywhere_in}
use Rattle.dp_tree.proofs.Inner.{inner_hidden}
use Rattle.dp_plan.specs.Written.{access_site}
use Rattle.dp_semantics.specs.ValidPlan.{RegionsStandOnce}
use Rattle.dp_semantics.proofs.Each.{Each, each_map, each_split, each_join}
use Rattle.dp_semantics.proofs.Heads.{accesses_all, accesses_at, accesses_out, all_free, free_hidden}
use Rattle.dp_semantics.proofs.Setting.{Split}
use Rattle.dp_theorem.proofs.TextOrder.{Ascends, Between, ascends-numbers_from, ascends_split, ascends_between, each_of_map, sites_are}
use Rattle.dp_plan.proofs.RegionOrder.{RegionAt, Sought, absent, present}
use Rattle.dp_theorem.proofs.Regions.{all_alone, inner_free_in}
use Rattle.dp_theorem.proofs.Fitting.{split_of}
use Rattle.dp_theorem.proofs.ValidFits.{sought, between}

module _ (test : ℕ → Bool) (r : ℕ) where
  abbrev Passes : Access → Type 0
  Passes u = test u.site ≡ true

  mutual
    -- where region r isn't inside and each site passes
    keeps_from : (x : Stmt) → is_free r x ≡ true → Each Passes (accesses x) → keeps test r x ≡ true
    keeps_from (tree.Assign site v e) w h = h.0
    keeps_from (tree.Store site v index e) w h = h.0
    keeps_from (tree.Print site e) w h = h.0
    keeps_from (tree.If' site cond _ a _ b) w h =
        let free = and_parts (is_free_in r a) (is_free_in r b) w in
        let sites = each_split Passes (accesses_in a) (accesses_in b) h.1 in
        and_from (test site.0) _ h.0 (and_from (everywhere_in (keeps_own test r) a) (everywhere_in (keeps_own test r) b) (keeps_from_in a free.0 sites.0)
        (keeps_from_in b free.1 sites.1))
    keeps_from (tree.While' site cond _ a) w h = and_from (test site.0) (everywhere_in (keeps_own test r) a) h.0 (keeps_from_in a w h.1)
    keeps_from (tree.Region' q site cond _ a) w h =
        let free = and_parts (not (q == r)) (is_free_in r a) w in
        and_from _ (everywhere_in (keeps_own test r) a) (and_from (test site.0) (not (q == r)) h.0 free.0) (keeps_from_in a free.1 h.1)
    keeps_from (tree.Break site cond) w h = h.0
    keeps_from (tree.Call f line args) w h = refl

    keeps_from_in : {n : _} (row : Row_of-Stmt n) → is_free_in r row ≡ true → Each Passes (accesses_in row) → everywhere_in (keeps_own test r) row ≡ true
    keeps_from_in end_of-Stmt w h = refl
    keeps_from_in (more_of-Stmt x rest) w h =
        let free = and_parts (is_free r x) (is_free_in r rest) w in
        let sites = each_split Passes (accesses x) (accesses_in rest) h in
        and_from (keeps test r x) (everywhere_in (keeps_own test r) rest) (keeps_from x free.0 sites.0) (keeps_from_in rest free.1 sites.1)

  keeps_from_all : (xs : List Stmt) → all_free r xs ≡ true → Each Passes (accesses_all xs) → list_all (keeps test r) xs ≡ true
  keeps_from_all [] w h = refl
  keeps_from_all (x ∷ xs) w h =
      let free = and_parts (is_free r x) (all_free r xs) w in
      let sites = each_split Passes (accesses x) (accesses_all xs) h in
      and_from (keeps test r x) (list_all (keeps test r) xs) (keeps_from x free.0 sites.0) (keeps_from_all xs free.1 sites.1)

-- the sites of statements that are numbered one by one from k
within : (k : ℕ) (x : Stmt) → Ascends k (site_numbers x) → Each (λ (u : Access). Between k (length (site_numbers x)) u.site) (accesses x)
within k x h = each_of_map (Between k (length (site_numbers x))) access_site (accesses x)
    (subst (λ (ns : List ℕ). Each (Between k (length (site_numbers x))) ns) (sites_are x) (ascends_between k (site_numbers x) h))

-- behind the first statements, whose numbers are lower, the numbers go on
record Front (k : ℕ) (front behind : List Stmt) : Type 0 where
  next : ℕ
  up : k ≤ next
  lower : Each (λ (u : Access). u.site < next) (accesses_all front)
  order : Ascends next (site_numbers_all behind)

front_of : (k : ℕ) (a b : List Stmt) → Ascends k (site_numbers_all (a ++ b)) → Front k a b
front_of k [] b h = record { next = k; up = omega arith; lower = tt; order = h }
front_of k (x ∷ a) b h =
    let parts = ascends_split k (site_numbers x) (site_numbers_all (a ++ b)) h in
    let later = front_of (k + length (site_numbers x)) a b parts.1 in
    record {
      next = later.next;
      up = omega (arith, later.up);
      lower = each_join (λ (u : Access). u.site < later.next) (accesses x) (accesses_all a)
          (each_map (λ (u : Access). Between k (length (site_numbers x)) u.site) (λ (u : Access). u.site < later.next) (λ u b. omega (arith, b.1, later.up))
          (accesses x) (within k x parts.0)) later.lower;
      order = later.order;
    }

higher : (k : ℕ) (xs : List Stmt) → Ascends k (site_numbers_all xs) → Each (λ (u : Access). k ≤ u.site) (accesses_all xs)
higher k [] h = tt
higher k (x ∷ xs) h =
    let parts = ascends_split k (site_numbers x) (site_numbers_all xs) h in
    each_join (λ (u : Access). k ≤ u.site) (accesses x) (accesses_all xs)
    (each_map (λ (u : Access). Between k (length (site_numbers x)) u.site) (λ (u : Access). k ≤ u.site) (λ u b. b.0) (accesses x) (within k x parts.0))
    (each_map (λ (u : Access). k + length (site_numbers x) ≤ u.site) (λ (u : Access). k ≤ u.site) (λ u b. omega (arith, b)) (accesses_all xs)
    (higher (k + length (site_numbers x)) xs parts.1))

same_first : (k m : ℕ) (ns : List ℕ) → 0 < length ns → Ascends k ns → Ascends m ns → k ≡ m
same_first k m [] some a b = absurd (omega (arith, some))
same_first k m (n ∷ ns) some a b = sym a.0 ∙ b.0

module _ {p : Program} (inlined : IsInlined p) (r : ℕ) (entry : RegionInfo) (at : slice_get p.regions (r - 1) ≡ Some entry) (q : RegionAt r p.main entry) where
  split : Split r p.main q.statement
  split = split_of p (record { region = r; words = 0; stages = []; stage_of = []; assume = []; proved = false; checked_at = [] }) p.main q.statement q.only
      (all_alone r 1 p.main inlined.regions)

  -- the numbers before the region, its own, and those behind it
  front : Front 1 split.front (q.statement ∷ split.tail)
  front = front_of 1 split.front (q.statement ∷ split.tail) (subst (λ (xs : List Stmt). Ascends 1 (site_numbers_all xs)) split.main_is
      (subst (λ (ns : List ℕ). Ascends 1 ns) (sym inlined.sites) (ascends-numbers_from 1 (length p.sites))))

  parts : Ascends front.next (site_numbers q.statement) × Ascends (front.next + length (site_numbers q.statement)) (site_numbers_all split.tail)
  parts = ascends_split front.next (site_numbers q.statement) (site_numbers_all split.tail) front.order

  shown : accesses q.statement ≡ accesses_at (Region r q.site q.cond q.body)
  shown = accesses_out q.statement ∙ ap accesses_at q.is

  abbrev Own : Access → Type 0
  Own u = Between entry.first.0 (length (accesses q.statement)) u.site

  own : Each Own (accesses_at (Region r q.site q.cond q.body))
  own = subst (λ (us : List Access). Each Own us) shown (between inlined r entry at q)

  many : length (site_numbers q.statement) ≡ length (accesses q.statement)
  many = ap length (sites_are q.statement) ∙ length-map (accesses q.statement) access_site

  begins : front.next ≡ entry.first.0
  begins = same_first front.next entry.first.0 (site_numbers q.statement) some parts.0 (subst (λ (ns : List ℕ). Ascends entry.first.0 ns)
      (sym (sites_are q.statement)) q.sites)
    where
      one : length (accesses q.statement) ≡ suc (length (accesses_all q.body))
      one = ap length shown

      some : 0 < length (site_numbers q.statement)
      some = omega (arith, many, one)

  is_own : (site : ℕ) → Between entry.first.0 (length (accesses q.statement)) site → is_site_of p r site ≡ true
  is_own site b = ap (λ o. in_range o site) at ∙ and_from (nat_le entry.first.0 site) (nat_le site entry.last.0) (le-leb _ _ b.0)
      (le-leb _ _ (omega (arith, b.1, q.last)))

  not_both : (b c : Bool) → (b ≡ false) ⊎ (c ≡ false) → not (b && c) ≡ true
  not_both true c (inl e) = absurd (cc)
  not_both true c (inr e) = ap not e
  not_both false c e = refl

  is_other : (site : ℕ) → (site < entry.first.0) ⊎ (entry.last.0 < site) → is_other_site p r site ≡ true
  is_other site side = ap (λ o. not (in_range o site)) at ∙ not_both (nat_le entry.first.0 site) (nat_le site entry.last.0) (by side)
    where
      by : (site < entry.first.0) ⊎ (entry.last.0 < site) → (nat_le entry.first.0 site ≡ false) ⊎ (nat_le site entry.last.0 ≡ false)
      by (inl low) = inl (lt-leb entry.first.0 site low)
      by (inr high) = inr (lt-leb site entry.last.0 high)

  once : StandsOnce p r
  once = record {
    site = q.site;
    cond = q.cond;
    body = q.body;
    before = split.front;
    behind = split.tail;
    main_is = split.main_is ∙ ap (λ (x : Stmt). split.front ++ x ∷ split.tail) q.made;
    condition = is_own q.site.0 own.0;
    inside = keeps_from_all (is_site_of p r) r q.body (sym (free_hidden r q.body) ∙ inner_free_in r (hidden-the_row-Stmt-0 q.body) q.plain)
        (each_map Own (λ (u : Access). is_site_of p r u.site ≡ true) (λ u b. is_own u.site b) (accesses_all q.body) own.1);
    inner = sym (inner_hidden q.body) ∙ q.plain;
    earlier = keeps_from_all (is_other_site p r) r split.front split.front_free
        (each_map (λ (u : Access). u.site < front.next) (λ (u : Access). is_other_site p r u.site ≡ true)
        (λ u b. is_other u.site (inl (omega (arith, b, begins)))) (accesses_all split.front) front.lower);
    later = keeps_from_all (is_other_site p r) r split.tail split.tail_free
        (each_map (λ (u : Access). front.next + length (site_numbers q.statement) ≤ u.site) (λ (u : Access). is_other_site p r u.site ≡ true)
        (λ u b. is_other u.site (inr (omega (arith, b, begins, many, q.last)))) (accesses_all split.tail)
        (higher (front.next + length (site_numbers q.statement)) split.tail parts.1));
  }

pub regions_once : (p : Program) → IsInlined p → RegionsStandOnce p
regions_once p inlined r low high = by (sought inlined r)
  where
    by : Sought r 1 1 p.main p.regions → StandsOnce p r
    by (absent none out) = absurd (out (omega (arith, low)) (omega (arith, high)))
    by (present entry from at q least most) = once inlined r entry at q
