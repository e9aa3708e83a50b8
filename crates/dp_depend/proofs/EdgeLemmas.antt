-- Edges, item by item.
use Rattle.std.proofs.Common.{◌≡◌, refl, sym, ◌∙◌, ap, ℕ, suc, ◌+◌, ◌<◌, Bool, List, [], ◌∷◌, ◌++◌, append_assoc, drop, get_or, length, add-one, drop-cons}
use Rattle.std.specs.List.{flat_map}
use Rattle.dp_tree.specs.declared.Assume.{Assume}
use Rattle.dp_tree.specs.declared.Program.{Program}
use Rattle.dp_profile.specs.declared.SiteCount.{SiteCount}
use Rattle.dp_profile.specs.declared.Flow.{Flow}
use Rattle.dp_depend.specs.Node.{Node}
use Rattle.dp_depend.specs.declared.Edge.{Edge}
use Rattle.dp_depend.specs.declared.EdgeKind.TheVariants.{Control, Intra, Carried}
use Rattle.dp_depend.specs.Edges.{edges_between, edges_from, edges_among, is_assumed, edge_when, edge, is_control, is_intra, is_carried}

next_of : (all : List Node) (i : ℕ) (n : Node) → i < length all → n ≡ get_or all i n → drop i all ≡ n ∷ drop (i + 1) all
next_of all i n h is = rw add-one (drop-cons all i n h ∙ ap (λ (t : Node). t ∷ drop (suc i) all) (sym is))

module _ (p : Program) (r : ℕ) (counts : List SiteCount) (flows : List Flow) (first rate : ℕ) where
  pub between_is : (assumed : Bool) (d u : Node) → edges_between p r counts flows first rate assumed d u
      ≡ edge_when (is_control assumed d u) (edge d u Control) ++ (edge_when (is_intra p r counts flows first rate d u) (edge d u Intra)
      ++ edge_when (is_carried p r counts flows first rate d u) (edge d u Carried))
  unfolding edges_between
  between_is assumed d u = refl

  pub from-none : (assumed : Bool) (d : Node) → edges_from p r counts flows first rate assumed d [] ≡ []
  unfolding edges_from
  from-none assumed d = refl

  pub from-next : (assumed : Bool) (d : Node) (all : List Node) (i : ℕ) (u : Node) → i < length all → u ≡ get_or all i u
      → edges_from p r counts flows first rate assumed d (drop i all) ≡ edges_between p r counts flows first rate assumed d u
      ++ edges_from p r counts flows first rate assumed d (drop (i + 1) all)
  unfolding edges_from
  from-next assumed d all i u h is = ap (flat_map (edges_between p r counts flows first rate assumed d)) (next_of all i u h is)

  pub among-none : (chosen : List Assume) (all : List Node) → edges_among p r counts flows first rate chosen all [] ≡ []
  unfolding edges_among
  among-none chosen all = refl

  pub among-next : (chosen : List Assume) (to all : List Node) (i : ℕ) (d : Node) → i < length all → d ≡ get_or all i d
      → edges_among p r counts flows first rate chosen to (drop i all) ≡ edges_from p r counts flows first rate (is_assumed chosen d) d to
      ++ edges_among p r counts flows first rate chosen to (drop (i + 1) all)
  unfolding edges_among
  among-next chosen to all i d h is = ap (flat_map (λ e. edges_from p r counts flows first rate (is_assumed chosen e) e to)) (next_of all i d h is)

pub three_parts : (old one two three a b c : List Edge) → one ≡ old ++ a → two ≡ one ++ b → three ≡ two ++ c → three ≡ old ++ (a ++ (b ++ c))
three_parts old one two three a b c p q r = r ∙ ap (λ l. l ++ c) (q ∙ ap (λ l. l ++ b) p) ∙ simp append_assoc
