-- What an expression loads and what a statement's site does, by form; and the sites of a region.
use Rattle.std.proofs.Common.{◌≡◌, refl, sym, ap, ◌∙◌, ℕ, ℤ, List, [], ◌∷◌, ◌++◌, map, Some, None, append-nil, append_assoc}
use Rattle.std.specs.List.{flat_map}
use Rattle.std.proofs.lemmas.List.{map-append}
use Rattle.dp_base.specs.declared.BinOp.{BinOp}
use Rattle.dp_base.specs.declared.SiteId.{SiteId}
use Rattle.dp_base.specs.declared.UnOp.{UnOp}
use Rattle.dp_base.specs.declared.VarId.{VarId}
use Rattle.dp_tree.specs.declared.Expr.{Expr}
use Rattle.dp_tree.specs.declared.Expr.TheVariants as expr
use Rattle.dp_tree.specs.declared.Program.{Program}
use Rattle.dp_tree.specs.declared.Stmt.{Stmt}
use Rattle.dp_tree.specs.declared.Stmt.TheVariants as tree
use Rattle.dp_tree.specs.Statements.{asked}
use Rattle.dp_tree.proofs.Asked.{asked_both}
use Rattle.dp_plan.specs.Access.{access_at, accesses, region_in}
use Rattle.dp_plan.proofs.LoadLemmas.{opened}
use Rattle.dp_lean_code.specs.steps.Accesses.{row_of, region_rows}
unfoldable use Rattle.dp_lean_code.specs.steps.Accesses.{loaded_list, accessed_at}

pub loaded-Number : (n : ℤ) → loaded_list (expr.Number n) ≡ []
unfolding loaded_list
loaded-Number n = refl

pub loaded-InputLen : loaded_list expr.InputLen ≡ []
unfolding loaded_list
loaded-InputLen = refl

pub loaded-Scalar : (x : VarId) → loaded_list (expr.Scalar x) ≡ x.0 ∷ []
unfolding loaded_list
loaded-Scalar x = refl

pub loaded-Input : (e : Expr) → loaded_list (expr.Input e) ≡ loaded_list e
unfolding loaded_list opened
loaded-Input e = refl

pub loaded-Element : (x : VarId) (e : Expr) → loaded_list (expr.Element x e) ≡ x.0 ∷ loaded_list e
unfolding loaded_list opened
loaded-Element x e = refl

pub loaded-Unary : (op : UnOp) (e : Expr) → loaded_list (expr.Unary op e) ≡ loaded_list e
unfolding loaded_list opened
loaded-Unary op e = refl

pub loaded-Binary : (op : BinOp) (a b : Expr) → loaded_list (expr.Binary op a b) ≡ loaded_list a ++ loaded_list b
unfolding loaded_list opened
loaded-Binary op a b = refl

pub loaded-And : (a b : Expr) → loaded_list (expr.And a b) ≡ loaded_list a ++ loaded_list b
unfolding loaded_list opened
loaded-And a b = refl

pub loaded-Or : (a b : Expr) → loaded_list (expr.Or a b) ≡ loaded_list a ++ loaded_list b
unfolding loaded_list opened
loaded-Or a b = refl

pub ruleset loaded_forms =
    (append-nil, loaded-Number, loaded-InputLen, loaded-Scalar, loaded-Input, loaded-Element, loaded-Unary, loaded-Binary, loaded-And, loaded-Or)

-- two parts that joined one after the other
pub two_parts : {X : Type 0} (old one two a b : List X) → one ≡ old ++ a → two ≡ one ++ b → two ≡ old ++ (a ++ b)
two_parts old one two a b e f = f ∙ ap (λ l. l ++ b) e ∙ append_assoc old a b

pub accessed-Assign : (site : SiteId) (x : VarId) (e : Expr) →
    accessed_at (tree.Assign site x e) ≡ record { site = site.0; loads = loaded_list e; stores = Some x.0 } ∷ []
unfolding accessed_at loaded_list
accessed-Assign site x e = refl

pub accessed-Store : (site : SiteId) (x : VarId) (i e : Expr) →
    accessed_at (tree.Store site x i e) ≡ record { site = site.0; loads = loaded_list i ++ loaded_list e; stores = Some x.0 } ∷ []
unfolding accessed_at loaded_list
accessed-Store site x i e = refl

pub accessed-Print : (site : SiteId) (e : Expr) → accessed_at (tree.Print site e) ≡ record { site = site.0; loads = loaded_list e; stores = None } ∷ []
unfolding accessed_at loaded_list
accessed-Print site e = refl

pub accessed-If : (site : SiteId) (e : Expr) (a b : List Stmt) →
    accessed_at (tree.If site e a b) ≡ record { site = site.0; loads = loaded_list e; stores = None } ∷ []
unfolding accessed_at loaded_list opened
accessed-If site e a b = refl

pub accessed-While : (site : SiteId) (e : Expr) (a : List Stmt) →
    accessed_at (tree.While site e a) ≡ record { site = site.0; loads = loaded_list e; stores = None } ∷ []
unfolding accessed_at loaded_list opened
accessed-While site e a = refl

pub accessed-Region : (r : ℕ) (site : SiteId) (e : Expr) (a : List Stmt) →
    accessed_at (tree.Region r site e a) ≡ record { site = site.0; loads = loaded_list e; stores = None } ∷ []
unfolding accessed_at loaded_list opened
accessed-Region r site e a = refl

pub accessed-Break : (site : SiteId) (e : Expr) → accessed_at (tree.Break site e) ≡ record { site = site.0; loads = loaded_list e; stores = None } ∷ []
unfolding accessed_at loaded_list
accessed-Break site e = refl

pub accessed-Call : (f line : ℕ) (args : List Expr) → accessed_at (tree.Call f line args) ≡ []
unfolding accessed_at
accessed-Call f line args = refl

pub ruleset accessed_forms =
    (append-nil, accessed-Assign, accessed-Store, accessed-Print, accessed-If, accessed-While, accessed-Region, accessed-Break, accessed-Call)

-- the rows of a statement are those of its sites
one_accessed : (x : Stmt) → asked accessed_at x ≡ map row_of (accesses x)
unfolding accessed_at
one_accessed x = asked_both (λ a c. a ≡ map row_of c) refl (λ a b c d e f. ap (λ xs. xs ++ b) e ∙ ap (λ xs. map row_of c ++ xs) f ∙ sym (map-append row_of c d))
    accessed_at access_at (λ y. refl) x

all_accessed : (xs : List Stmt) → flat_map (asked accessed_at) xs ≡ map row_of (flat_map accesses xs)
all_accessed [] = refl
all_accessed (x ∷ xs) = ap (λ ys. ys ++ flat_map (asked accessed_at) xs) (one_accessed x) ∙ ap (λ ys. map row_of (accesses x) ++ ys) (all_accessed xs)
    ∙ sym (map-append row_of (accesses x) (flat_map accesses xs))

pub region_accessed : (p : Program) (r : ℕ) → flat_map (asked accessed_at) (region_in p r) ≡ region_rows p r
region_accessed p r = all_accessed (region_in p r)
