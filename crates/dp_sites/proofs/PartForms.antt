-- What an expression loads, by its form.
use Rattle.std.proofs.Common.{◌≡◌, refl, sym, ap, ◌∙◌, ℕ, suc, ◌+◌, ◌<◌, ℤ, List, [], ◌∷◌, ◌++◌, map, length, drop, get_or, Option, Some, None, append-nil}
use Rattle.std.proofs.Common.{append_assoc, add-one, drop-cons}
use Rattle.std.specs.List.{flat_map}
use Rattle.dp_base.specs.declared.SiteId.{SiteId}
use Rattle.dp_tree.specs.declared.Stmt.{Stmt}
use Rattle.dp_tree.specs.declared.Stmt.TheVariants as tree
use Rattle.dp_base.specs.declared.VarId.{VarId}
use Rattle.dp_base.specs.declared.UnOp.{UnOp}
use Rattle.dp_base.specs.declared.BinOp.{BinOp}
use Rattle.dp_tree.specs.declared.Expr.{Expr}
use Rattle.dp_tree.specs.declared.Expr.TheVariants as expr
use Rattle.dp_plan.specs.Touch.{reads}
use Rattle.dp_sites.specs.Place.{index_place}
use Rattle.dp_sites.specs.steps.Parts.{Part, Touched, loads_in, touched, parts, parts_in, part_list, part_lists, until_in}
use Rattle.dp_plan.proofs.LoadLemmas.{opened}
use Rattle.std.proofs.lemmas.List.{map-append}

pub load-Number : (n : ℤ) → loads_in (expr.Number n) ≡ []
unfolding loads_in index_place opened
load-Number n = refl

pub load-InputLen : loads_in (expr.InputLen) ≡ []
unfolding loads_in index_place opened
load-InputLen = refl

pub load-Scalar : (x : VarId) → loads_in (expr.Scalar x) ≡ (record { var = x; place = None }) ∷ []
unfolding loads_in index_place opened
load-Scalar x = refl

pub load-Input : (e : Expr) → loads_in (expr.Input e) ≡ loads_in e
unfolding loads_in index_place opened
load-Input e = refl

pub load-Element : (x : VarId) (e : Expr) → loads_in (expr.Element x e) ≡ loads_in e ++ record { var = x; place = index_place e } ∷ []
unfolding loads_in index_place opened
load-Element x e = map-append touched (reads e) _

pub load-Unary : (op : UnOp) (e : Expr) → loads_in (expr.Unary op e) ≡ loads_in e
unfolding loads_in index_place opened
load-Unary op e = refl

pub load-Binary : (op : BinOp) (a b : Expr) → loads_in (expr.Binary op a b) ≡ loads_in a ++ loads_in b
unfolding loads_in index_place opened
load-Binary op a b = map-append touched (reads a) (reads b)

pub load-And : (a b : Expr) → loads_in (expr.And a b) ≡ loads_in a ++ loads_in b
unfolding loads_in index_place opened
load-And a b = map-append touched (reads a) (reads b)

pub load-Or : (a b : Expr) → loads_in (expr.Or a b) ≡ loads_in a ++ loads_in b
unfolding loads_in index_place opened
load-Or a b = map-append touched (reads a) (reads b)

pub ruleset load_forms = (append-nil, load-Number, load-InputLen, load-Scalar, load-Input, load-Element, load-Unary, load-Binary, load-And, load-Or)

-- two parts that joined one after the other
pub two_parts : {X : Type 0} (old one two a b : List X) → one ≡ old ++ a → two ≡ one ++ b → two ≡ old ++ (a ++ b)
two_parts old one two a b p q = q ∙ ap (λ l. l ++ b) p ∙ append_assoc old a b

abbrev pub part : SiteId → Option ℕ → List Touched → Option Touched → Part
part site until loads stores = record { site = site.0; loads = loads; stores = stores; until = until }

pub parts_hidden : (until : Option ℕ) (xs : List Stmt) → parts_in until (Rattle.dp_tree.specs.declared.Stmt.TheBlock.hidden-the_row-Stmt-0 xs)
    ≡ flat_map (parts until) xs
unfolding opened
parts_hidden until [] = refl
parts_hidden until (x ∷ xs) = ap (λ r. parts until x ++ r) (parts_hidden until xs)

module _ (until : Option ℕ) where
  pub part-Assign : (site : SiteId) (x : VarId) (e : Expr) → part_list until (tree.Assign site x e) ≡ part site until (loads_in e)
      (Some (record { var = x; place = None })) ∷ []
  unfolding part_list loads_in
  part-Assign site x e = refl

  pub part-Store : (site : SiteId) (x : VarId) (i e : Expr) → part_list until (tree.Store site x i e) ≡ part site until (loads_in i ++ loads_in e)
      (Some (record { var = x; place = index_place i })) ∷ []
  unfolding part_list loads_in index_place
  part-Store site x i e =
      ap (λ l. part site until l (Some (record { var = x; place = Rattle.dp_sites.specs.Place.place_by i })) ∷ []) (map-append touched (reads i) (reads e))

  pub part-Print : (site : SiteId) (e : Expr) → part_list until (tree.Print site e) ≡ part site until (loads_in e) None ∷ []
  unfolding part_list loads_in
  part-Print site e = refl

  pub part-Break : (site : SiteId) (e : Expr) → part_list until (tree.Break site e) ≡ part site until (loads_in e) None ∷ []
  unfolding part_list loads_in
  part-Break site e = refl

  pub part-Call : (f line : ℕ) (args : List Expr) → part_list until (tree.Call f line args) ≡ []
  unfolding part_list
  part-Call f line args = refl

  pub part-If : (site : SiteId) (e : Expr) (a b : List Stmt) → part_list until (tree.If site e a b) ≡ part site until (loads_in e) None
      ∷ (part_lists until a ++ part_lists until b)
  unfolding part_list part_lists loads_in opened
  part-If site e a b =
      ap (λ r. part site until (map touched (reads e)) None ∷ (r ++ parts_in until (Rattle.dp_tree.specs.declared.Stmt.TheBlock.hidden-the_row-Stmt-0 b)))
      (parts_hidden until a)
      ∙ ap (λ r. part site until (map touched (reads e)) None ∷ (flat_map (parts until) a ++ r)) (parts_hidden until b)

  pub part-While : (site : SiteId) (e : Expr) (a : List Stmt) → part_list until (tree.While site e a) ≡ part site (until_in until (tree.While site e a))
      (loads_in e) None ∷ part_lists (until_in until (tree.While site e a)) a
  unfolding part_list part_lists loads_in opened
  part-While site e a =
      ap (λ r. part site (until_in until (tree.While site e a)) (map touched (reads e)) None ∷ r) (parts_hidden (until_in until (tree.While site e a)) a)

  pub part-Region : (r : ℕ) (site : SiteId) (e : Expr) (a : List Stmt) → part_list until (tree.Region r site e a) ≡ part site until (loads_in e) None
      ∷ part_lists until a
  unfolding part_list part_lists loads_in opened
  part-Region r site e a = ap (λ r. part site until (map touched (reads e)) None ∷ r) (parts_hidden until a)

  pub parts-none : part_lists until [] ≡ []
  unfolding part_lists
  parts-none = refl

  -- one statement more
  pub parts-next : (all : List Stmt) (i : ℕ) (s : Stmt) → i < length all → s ≡ get_or all i s → part_lists until (drop i all) ≡ part_list until s
      ++ part_lists until (drop (i + 1) all)
  unfolding part_lists part_list
  parts-next all i s h is =
      let here : drop i all ≡ s ∷ drop (suc i) all = drop-cons all i s h ∙ ap (λ (t : Stmt). t ∷ drop (suc i) all) (sym is) in
      rw add-one (ap (λ l. flat_map (parts until) l) here)

pub ruleset part_forms = (part-Assign, part-Store, part-Print, part-Break, part-Call, append-nil)

pub ruleset part_steps = (parts-none, parts-next)
