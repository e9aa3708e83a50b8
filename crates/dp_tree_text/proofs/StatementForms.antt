-- The lines of a statement by its form, and of a list, item by item.
use Rattle.std.proofs.Common.{◌≡◌, refl, sym, ◌∙◌, ap, ℕ, ◌+◌, ◌<◌, List, [], ◌∷◌, ◌++◌, drop, get_or, length, append_assoc, append-nil, codes}
use Rattle.dp_base.specs.declared.SiteId.{SiteId}
use Rattle.dp_base.specs.declared.VarId.{VarId}
use Rattle.dp_tree.specs.declared.Expr.{Expr}
use Rattle.dp_tree.specs.declared.Stmt.{Stmt}
use Rattle.dp_tree.specs.declared.Stmt.TheVariants as tree
use Rattle.dp_report.specs.Lines.{line}
use Rattle.dp_tree_text.specs.StatementText.{assign_text, evaluated_text, region_text, rows_text, statement_text, statement_texts, store_text}
use Rattle.dp_tree_text.proofs.Opened.{opened}
use Rattle.dp_room.proofs.ListLemmas.{next_of}

rows_are : (xs : List Stmt) → rows_text (Rattle.dp_tree.specs.declared.Stmt.TheBlock.hidden-the_row-Stmt-0 xs) ≡ statement_texts xs
unfolding statement_text statement_texts opened
rows_are [] = refl
rows_are (x ∷ xs) = ap (λ r. statement_text x ++ r) (rows_are xs)

pub text-Assign : (site : SiteId) (x : VarId) (e : Expr) → statement_text (tree.Assign site x e) ≡ assign_text site x e
unfolding statement_text
text-Assign site x e = refl

pub text-Store : (site : SiteId) (x : VarId) (i e : Expr) → statement_text (tree.Store site x i e) ≡ store_text site x i e
unfolding statement_text
text-Store site x i e = refl

pub text-Print : (site : SiteId) (e : Expr) → statement_text (tree.Print site e) ≡ evaluated_text (codes "print ") site e
unfolding statement_text
text-Print site e = refl

pub text-Break : (site : SiteId) (e : Expr) → statement_text (tree.Break site e) ≡ evaluated_text (codes "break ") site e
unfolding statement_text
text-Break site e = refl

pub text-Call : (f at : ℕ) (args : List Expr) → statement_text (tree.Call f at args) ≡ []
unfolding statement_text
text-Call f at args = refl

pub text-If : (site : SiteId) (e : Expr) (a b : List Stmt)
    → statement_text (tree.If site e a b) ≡ evaluated_text (codes "if ") site e
    ++ (statement_texts a ++ (line (codes "else") ++ (statement_texts b ++ line (codes "end"))))
unfolding statement_text opened
text-If site e a b =
    ap (λ r. evaluated_text (codes "if ") site e
    ++ (r ++ (line (codes "else") ++ (rows_text (Rattle.dp_tree.specs.declared.Stmt.TheBlock.hidden-the_row-Stmt-0 b) ++ line (codes "end"))))) (rows_are a)
    ∙ ap (λ r. evaluated_text (codes "if ") site e ++ (statement_texts a ++ (line (codes "else") ++ (r ++ line (codes "end"))))) (rows_are b)

pub text-While : (site : SiteId) (e : Expr) (a : List Stmt) → statement_text (tree.While site e a) ≡ evaluated_text (codes "while ") site e
    ++ (statement_texts a ++ line (codes "end"))
unfolding statement_text opened
text-While site e a = ap (λ r. evaluated_text (codes "while ") site e ++ (r ++ line (codes "end"))) (rows_are a)

pub text-Region : (r : ℕ) (site : SiteId) (e : Expr) (a : List Stmt) → statement_text (tree.Region r site e a) ≡ region_text r site e
    ++ (statement_texts a ++ line (codes "end"))
unfolding statement_text opened
text-Region r site e a = ap (λ t. region_text r site e ++ (t ++ line (codes "end"))) (rows_are a)

pub ruleset statement_forms = (text-Assign, text-Store, text-Print, text-Break, text-Call, text-If, text-While, text-Region, append_assoc, append-nil)

pub texts-none : statement_texts [] ≡ []
unfolding statement_texts
texts-none = refl

texts-one : (s : Stmt) (rest : List Stmt) → statement_texts (s ∷ rest) ≡ statement_text s ++ statement_texts rest
unfolding statement_texts
texts-one s rest = refl

pub texts-next : (all : List Stmt) (i : ℕ) (s : Stmt) → i < length all → s ≡ get_or all i s
    → statement_texts (drop i all) ≡ statement_text s ++ statement_texts (drop (i + 1) all)
texts-next all i s h is = ap statement_texts (next_of all i s h is) ∙ texts-one s (drop (i + 1) all)

-- a text that grows by pieces of a whole
pub joins_more : (old now next whole more rest : List ℕ) → now ++ whole ≡ old → whole ≡ more ++ rest → next ≡ now ++ more → next ++ rest ≡ old
joins_more old now next whole more rest so_far split grown = ap (λ l. l ++ rest) grown ∙ append_assoc now more rest ∙ ap (λ l. now ++ l) (sym split) ∙ so_far

pub joins_all : (old now whole : List ℕ) → now ++ whole ≡ old → whole ≡ [] → now ≡ old
joins_all old now whole so_far none = sym (append-nil now) ∙ ap (λ l. now ++ l) (sym none) ∙ so_far
