-- Elements of lists, and the sites of a region's nodes.
use Rattle.std.proofs.Common.{◌≡◌, refl, sym, ap, subst, ◌∙◌, ℕ, zero, suc, ◌==◌, Bool, true, List, [], ◌∷◌, map, length, Contains, inl, inr, arith, eq-eqb}
use Rattle.std.proofs.Common.{eqb-true}
use Rattle.std.specs.List.{flat_map, list_any}
use Rattle.std.proofs.lemmas.Bool.{cases_Bool, or_left, or_right}
use Rattle.std.proofs.lemmas.List.{length-map}
use Rattle.std.proofs.lemmas.List.Elements.{Contains-append_left, Contains-append_right}
use Rattle.dp_tree.specs.declared.Program.{Program}
use Rattle.dp_plan.specs.Each.{Each}
use Rattle.dp_plan.specs.Written.{has, region_sites}
use Rattle.dp_plan.proofs.Found.{past_other}
use Rattle.dp_depend.specs.declared.nodes.Node.{Node}
use Rattle.dp_depend.specs.Edges.{node_site}
use Rattle.dp_depend.specs.Node.{region_nodes}
use Rattle.dp_depend.proofs.NodeSites.{node_sites}

pub each_contains : {X : Type 0} (P : X → Type 0) (xs : List X) (x : X) → Each P xs → Contains xs x → P x
each_contains P [] x h c = absurd (omega (arith, c.1))
each_contains P (y ∷ ys) x h (zero, lt, is) = subst P is h.0
each_contains P (y ∷ ys) x h (suc i, lt, is) = each_contains P ys x h.1 (i, omega (arith, lt), is)

pub any_contains : {X : Type 0} (test : X → Bool) (xs : List X) (x : X) → Contains xs x → test x ≡ true → list_any test xs ≡ true
any_contains test [] x c e = absurd (omega (arith, c.1))
any_contains test (y ∷ ys) x (zero, lt, is) e = or_left (test y) (list_any test ys) (ap test is ∙ e)
any_contains test (y ∷ ys) x (suc i, lt, is) e = or_right (test y) (list_any test ys) (any_contains test ys x (i, omega (arith, lt), is) e)

pub contains_flat : {X Y : Type 0} (f : X → List Y) (xs : List X) (x : X) (y : Y) → Contains xs x → Contains (f x) y → Contains (flat_map f xs) y
contains_flat f [] x y c inside = absurd (omega (arith, c.1))
contains_flat f (z ∷ zs) x y (zero, lt, is) inside = Contains-append_left (f z) (flat_map f zs) y (subst (λ w. Contains (f w) y) (sym is) inside)
contains_flat f (z ∷ zs) x y (suc i, lt, is) inside = Contains-append_right (f z) (flat_map f zs) y (contains_flat f zs x y (i, omega (arith, lt), is) inside)

pub contains_map : {X Y : Type 0} (f : X → Y) (xs : List X) (x : X) → Contains xs x → Contains (map f xs) (f x)
contains_map f [] x c = absurd (omega (arith, c.1))
contains_map f (y ∷ ys) x (zero, lt, is) = (zero, omega arith, ap f is)
contains_map f (y ∷ ys) x (suc i, lt, is) = let later = contains_map f ys x (i, omega (arith, lt), is) in (suc later.0, omega (arith, later.1), later.2)

pub each_from : {X : Type 0} (P : X → Type 0) (xs : List X) → ((x : X) → Contains xs x → P x) → Each P xs
each_from P [] f = tt
each_from P (x ∷ xs) f = (f x (zero, omega arith, refl), each_from P xs (λ y c. f y (suc c.0, omega (arith, c.1), c.2)))

-- ---- nodes

-- the node of a site
pub node_at : (all : List Node) (x : ℕ) → has x (map node_site all) ≡ true → (d : Node) × Contains all d × (d.site.0 ≡ x)
node_at [] x e = absurd (cc e)
node_at (u ∷ rest) x e = elim (cases_Bool (u.site.0 == x)) [
  | inl same ↦ (u, (zero, omega arith, refl), eqb-true u.site.0 x same)
  | inr other ↦
      let later = node_at rest x (past_other u.site.0 x (map node_site rest) other e) in
      (later.0, (suc later.1.0, omega (arith, later.1.1), later.1.2), later.2)
]

contains_has : (all : List Node) (u : Node) → Contains all u → has u.site.0 (map node_site all) ≡ true
contains_has [] u c = absurd (omega (arith, c.1))
contains_has (v ∷ rest) u (zero, lt, is) = rw (eq-eqb v.site.0 u.site.0 (ap node_site is)) refl
contains_has (v ∷ rest) u (suc i, lt, is) = or_right (v.site.0 == u.site.0) (has u.site.0 (map node_site rest)) (contains_has rest u (i, omega (arith, lt), is))

pub nodes_many : (p : Program) (r : ℕ) → length (region_sites p r) ≡ length (region_nodes p r)
nodes_many p r = sym (ap length (node_sites p r)) ∙ length-map (region_nodes p r) node_site

-- a node's site is one of the region
pub node_has : (p : Program) (r : ℕ) (u : Node) → Contains (region_nodes p r) u → has u.site.0 (region_sites p r) ≡ true
node_has p r u c = subst (λ (l : List ℕ). has u.site.0 l ≡ true) (node_sites p r) (contains_has (region_nodes p r) u c)
