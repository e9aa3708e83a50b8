-- The names that are visible at each name are those that are read off the text before it.
use Rattle.std.proofs.Common.{◌≡◌, refl, sym, ap, ◌∙◌, subst, ℕ, zero, suc, ◌+◌, List, [], ◌∷◌, ◌++◌, map, length, append_assoc, append-nil}
use Rattle.dp_tree.specs.declared.raw.Name.{Name}
use Rattle.dp_tree.specs.declared.raw.RawExpr.{RawExpr, end_of-RawExpr, more_of-RawExpr}
use Rattle.dp_tree.specs.declared.raw.RawExpr.TheVariants as expr
use Rattle.dp_tree.specs.declared.raw.RawStmt.{RawStmt, Row_of-RawStmt, end_of-RawStmt, more_of-RawStmt}
use Rattle.dp_tree.specs.declared.raw.RawStmt.TheVariants as raw
use Rattle.dp_tree.specs.declared.raw.RawItem.{RawItem}
use Rattle.dp_tree.specs.declared.raw.RawItem.TheVariants as item
use Rattle.dp_tree.specs.declared.raw.RawProgram.{RawProgram}
use Rattle.dp_check.specs.declared.items.Head.{Head}
use Rattle.dp_check.specs.declared.names.Meaning.{Meaning}
use Rattle.dp_check.specs.declared.names.Meaning.TheVariants as means
use Rattle.dp_check.specs.declared.place.Place.{Place}
use Rattle.dp_check.specs.Names.{Named}
use Rattle.dp_check.specs.Offence.{Token, Use, Declares, Reads, ReadsElement, Assigns, AssignsElement, Calls}
use Rattle.dp_check.specs.Place.{Local, parts_in, local_count, place_passed, sited, with_scalar, place_after, after_in, place_after_all, after_params}
use Rattle.dp_check.specs.Tokens.{token, expr_tokens, args_tokens, tokens, tokens_in, tokens_all, params_tokens}
use Rattle.dp_check.specs.Items.{items_tokens, after_item, after_items}
use Rattle.dp_check.specs.CheckAnswer.{text_begin, main_begin, names_of}
use Rattle.dp_check.specs.Marks.{Mark, Writes, Declared, Opens, Closes, names_seen, read_off, expr_marks, args_marks, block, marks, marks_in, marks_all}
use Rattle.dp_check.specs.Marks.{params_marks, items_marks, text_marks}
use Rattle.dp_check.proofs.PlaceLemmas.{after_variable, after_in_variable}
use Rattle.dp_check.proofs.ItemLemmas.{after_params_variable}

-- the marks before, and then these, the nearest first
abbrev behind : List Mark → List Mark → List Mark
behind before [] = before
behind before (m ∷ ms) = behind (m ∷ before) ms

behind-append : (before a b : List Mark) → behind before (a ++ b) ≡ behind (behind before a) b
behind-append before [] b = refl
behind-append before (m ∷ a) b = behind-append (m ∷ before) a b

-- Marks that lead from some visible names to others: these names are read off them, and their blocks are closed.
record Leads (old new : List Named) (ms : List Mark) (ts : List Token) : Type 0 where
  reads : (before : List Mark) → names_seen zero before ≡ old → (rest : List Mark) → read_off before (ms ++ rest) ≡ ts ++ read_off (behind before ms) rest
  sees : (before : List Mark) → names_seen zero before ≡ old → names_seen zero (behind before ms) ≡ new
  level : (before : List Mark) (d : ℕ) → names_seen (suc d) (behind before ms) ≡ names_seen (suc d) before

nothing : {names : List Named} → Leads names names [] []
nothing = record { reads = λ before h rest. refl; sees = λ before h. h; level = λ before d. refl }

writes : (names : List Named) (purpose : Use) (name : Name) → Leads names names (Writes purpose name ∷ []) (token names purpose name ∷ [])
writes names purpose name = record {
  reads = λ before h rest. ap (λ visible. token visible purpose name ∷ read_off (Writes purpose name ∷ before) rest) h;
  sees = λ before h. h;
  level = λ before d. refl;
}

declares : (names : List Named) (name : Name) (m : Meaning) → Leads names (names ++ record { name = name.text; meaning = m } ∷ []) (Declared name m ∷ []) []
declares names name m = record {
  reads = λ before h rest. refl;
  sees = λ before h. ap (λ xs. xs ++ record { name = name.text; meaning = m } ∷ []) h;
  level = λ before d. refl;
}

module _ {old mid new : List Named} {a b : List Mark} {s t : List Token} where
  next : Leads old mid a s → Leads mid new b t → Leads old new (a ++ b) (s ++ t)
  next first later = record {
    reads = λ before h rest.
        ap (read_off before) (append_assoc a b rest) ∙ first.reads before h (b ++ rest)
        ∙ ap (λ xs. s ++ xs) (later.reads (behind before a) (first.sees before h) rest)
        ∙ sym (append_assoc s t (read_off (behind (behind before a) b) rest))
        ∙ ap (λ ms. (s ++ t) ++ read_off ms rest) (sym (behind-append before a b));
    sees = λ before h. ap (names_seen zero) (behind-append before a b) ∙ later.sees (behind before a) (first.sees before h);
    level = λ before d. ap (names_seen (suc d)) (behind-append before a b) ∙ later.level (behind before a) d ∙ first.level before d;
  }

behind-block : (before a : List Mark) → behind before (block a) ≡ Closes ∷ behind (Opens ∷ before) a
behind-block before a = behind-append (Opens ∷ before) a (Closes ∷ [])

-- a block gives its names up
within_block : {old new : List Named} {a : List Mark} {s : List Token} → Leads old new a s → Leads old old (block a) s
within_block {old} {new} {a} {s} inside = record {
  reads = λ before h rest.
      ap (read_off (Opens ∷ before)) (append_assoc a (Closes ∷ []) rest) ∙ inside.reads (Opens ∷ before) h (Closes ∷ rest)
      ∙ ap (λ ms. s ++ read_off ms rest) (sym (behind-block before a));
  sees = λ before h. ap (names_seen zero) (behind-block before a) ∙ inside.level (Opens ∷ before) zero ∙ h;
  level = λ before d. ap (names_seen (suc d)) (behind-block before a) ∙ inside.level (Opens ∷ before) (suc d);
}

numbered_from : {old new : List Named} {s : List Token} {v w : ℕ} (at : ℕ → List Mark) → v ≡ w → Leads old new (at v) s → Leads old new (at w) s
numbered_from {old} {new} {s} at e l = subst (λ k. Leads old new (at k) s) e l

-- ---- expressions

module _ (names : List Named) where
  leads_expr : (e : RawExpr) → Leads names names (expr_marks e) (expr_tokens names e)
  leads_expr (expr.Number n) = nothing
  leads_expr (expr.Scalar name) = writes names Reads name
  leads_expr (expr.Element' name _ (more_of-RawExpr e end_of-RawExpr)) = next (writes names ReadsElement name) (leads_expr e)
  leads_expr (expr.Unary' op _ (more_of-RawExpr a end_of-RawExpr)) = leads_expr a
  leads_expr (expr.Binary' op _ (more_of-RawExpr a end_of-RawExpr) _ (more_of-RawExpr b end_of-RawExpr)) = next (leads_expr a) (leads_expr b)
  leads_expr (expr.And' _ (more_of-RawExpr a end_of-RawExpr) _ (more_of-RawExpr b end_of-RawExpr)) = next (leads_expr a) (leads_expr b)
  leads_expr (expr.Or' _ (more_of-RawExpr a end_of-RawExpr) _ (more_of-RawExpr b end_of-RawExpr)) = next (leads_expr a) (leads_expr b)

  leads_args : (args : List RawExpr) → Leads names names (args_marks args) (args_tokens names args)
  leads_args [] = nothing
  leads_args (e ∷ rest) = next (leads_expr e) (leads_args rest)

-- ---- statements

mutual
  leads : (q : Place) (s : RawStmt) → Leads q.names (place_after q s).names (marks q.variable s) (tokens q s)
  leads q (raw.Declare line name value) =
      let m = means.Scalar (record { 0 = q.variable }) in
      subst (λ ts. Leads q.names (q.names ++ record { name = name.text; meaning = m } ∷ []) (marks q.variable (raw.Declare line name value))
      (token q.names Declares name ∷ ts))
      (append-nil (expr_tokens q.names value)) (next (writes q.names Declares name) (next (leads_expr q.names value) (declares q.names name m)))
  leads q (raw.Assign name value) = next (writes q.names Assigns name) (leads_expr q.names value)
  leads q (raw.Store name index value) = next (writes q.names AssignsElement name) (next (leads_expr q.names index) (leads_expr q.names value))
  leads q (raw.Call name args) = next (writes q.names (Calls (length args)) name) (leads_args q.names args)
  leads q (raw.Print line value) = leads_expr q.names value
  leads q (raw.Break line cond) = leads_expr q.names cond
  leads q (raw.If' line cond _ a _ b) =
      next (leads_expr q.names cond) (next (within_block (leads_in (sited q) a)) (within_block (leads_in (place_passed (sited q) (parts_in a)) b)))
  leads q (raw.While' line marked cond _ body) = next (leads_expr q.names cond) (within_block (leads_in (sited q) body))
  leads q (raw.For' line marked _ first cond _ step _ body) =
      let start = after_in q first in let later = place_passed (sited start) (parts_in body) in let count = after_in_variable q first in
      within_block (next (leads_in q first) (next (leads_expr start.names cond)
      (next (within_block (numbered_from (λ k. marks_in k step) (ap (λ v. v + local_count (parts_in body)) count) (leads_in later step)))
      (within_block (numbered_from (λ k. marks_in k body) count (leads_in (sited start) body))))))

  leads_in : {n : _} (q : Place) (row : Row_of-RawStmt n) → Leads q.names (after_in q row).names (marks_in q.variable row) (tokens_in q row)
  leads_in q end_of-RawStmt = nothing
  leads_in q (more_of-RawStmt s rest) = next (leads q s) (numbered_from (λ k. marks_in k rest) (after_variable q s) (leads_in (place_after q s) rest))

leads_all : (q : Place) (all : List RawStmt) → Leads q.names (place_after_all q all).names (marks_all q.variable all) (tokens_all q all)
leads_all q [] = nothing
leads_all q (s ∷ rest) = next (leads q s) (numbered_from (λ k. marks_all k rest) (after_variable q s) (leads_all (place_after q s) rest))

-- ---- items

leads_params : (q : Place) (params : List Name) → Leads q.names (after_params q params).names (params_marks q.variable params) (params_tokens q params)
leads_params q [] = nothing
leads_params q (x ∷ rest) =
    next (writes q.names Declares x) (next (declares q.names x (means.Scalar (record { 0 = q.variable }))) (leads_params (with_scalar q x) rest))

local_count-params : (params : List Name) → local_count (map Local params) ≡ length params
local_count-params [] = refl
local_count-params (x ∷ params) = ap suc (local_count-params params)

leads_function : (q : Place) (params : List Name) (body : List RawStmt)
    → Leads q.names q.names (block (params_marks q.variable params ++ marks_all (q.variable + length params) body)) (params_tokens q params
    ++ tokens_all (after_params q params) body)
leads_function q params body =
    let count = after_params_variable q params ∙ ap (λ k. q.variable + k) (local_count-params params) in
    within_block (next (leads_params q params) (numbered_from (λ k. marks_all k body) count (leads_all (after_params q params) body)))

leads_items : (h : Head) (items : List RawItem)
    → Leads h.place.names (after_items h items).place.names (items_marks h.globals h.functions h.place.variable items) (items_tokens h items)
leads_items h [] = nothing
leads_items h (item.Scalar name start ∷ rest) =
    next (writes h.place.names Declares name) (next (declares h.place.names name (means.Scalar (record { 0 = h.globals })))
    (leads_items (after_item h (item.Scalar name start)) rest))
leads_items h (item.Array name size ∷ rest) =
    next (writes h.place.names Declares name) (next (declares h.place.names name (means.Array (record { 0 = h.globals })))
    (leads_items (after_item h (item.Array name size)) rest))
leads_items h (item.Function name params body ∷ rest) =
    next (writes h.place.names Declares name) (next (leads_function h.place params body)
    (next (declares h.place.names name (means.Function h.functions (length params))) (leads_items (after_item h (item.Function name params body)) rest)))

-- the names of a text with what is visible there, read off its marks
pub names_read_off : (raw : RawProgram) → read_off [] (text_marks raw) ≡ names_of raw
names_read_off raw =
    let whole = next (leads_items (text_begin raw) raw.items) (within_block (leads_all (main_begin raw) raw.main)) in
    ap (read_off []) (sym (append-nil (text_marks raw))) ∙ whole.reads [] refl [] ∙ append-nil (names_of raw)
