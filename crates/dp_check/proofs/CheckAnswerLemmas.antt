-- The answer for a tree from the answers for its parts.
use Rattle.std.proofs.Common.{◌≡◌, refl, sym, ap, ◌∙◌, ℕ, length, List, [], ◌++◌, Option, Some, None, Result, Ok, Err}
use Rattle.std.specs.List.{flat_map}
use Rattle.dp_tree.specs.declared.Function.{Function}
use Rattle.dp_tree.specs.declared.Program.{Program}
use Rattle.dp_tree.specs.declared.Stmt.{Stmt}
use Rattle.dp_tree.specs.declared.VarScope.TheVariants.{Outer}
use Rattle.dp_tree.specs.declared.VarInfo.{VarInfo}
use Rattle.dp_tree.specs.declared.SiteInfo.{SiteInfo}
use Rattle.dp_tree.specs.declared.RegionInfo.{RegionInfo}
use Rattle.dp_tree.specs.declared.raw.RawStmt.{RawStmt}
use Rattle.dp_tree.specs.declared.raw.RawItem.{RawItem}
use Rattle.dp_tree.specs.declared.raw.RawProgram.{RawProgram}
use Rattle.dp_check.specs.declared.items.Head.{Head}
use Rattle.dp_check.specs.declared.place.Place.{Place}
use Rattle.dp_check.specs.Names.{Named, predeclared}
use Rattle.dp_check.specs.Place.{parts_all, place_passed}
use Rattle.dp_check.specs.declared.fail.CheckFail.{CheckFail}
use Rattle.dp_check.specs.declared.variables.Variables.{Variables}
use Rattle.dp_check.specs.Offence.{first_offence}
use Rattle.dp_check.specs.Tokens.{tokens_all}
use Rattle.dp_check.specs.Resolved.{resolved_main}
use Rattle.dp_check.specs.Answer.{unless, answer, main_answer}
use Rattle.dp_check.specs.Items.{after_items, items_answer, items_tokens, items_functions}
use Rattle.dp_check.specs.Tables.{globals, main_locals, locals_of, item_parts, variables, program_sites, regions_from}
use Rattle.dp_check.specs.steps.Growing.{with_variables}
use Rattle.dp_check.specs.CheckAnswer.{names_of, text_begin, main_begin, trees_answer, resolved, too_many_functions, too_many_cells, check_answer}
use Rattle.dp_check.proofs.AnswerLemmas.{and_then, first_offence-append, answer-two, answer-Ok}
use Rattle.dp_check.proofs.TableLemmas.{with_variables-append}

pub trees_answer-is : (raw : RawProgram) → trees_answer raw
    ≡ and_then (items_answer (text_begin raw) raw.items) (λ fs. and_then (main_answer (main_begin raw) 1 raw.main) (λ main. Ok (fs, main)))
unfolding trees_answer items_answer main_answer
trees_answer-is raw =
    let items = items_tokens (text_begin raw) raw.items in let main = tokens_all (main_begin raw) raw.main in
    ap (λ o. answer o (items_functions (text_begin raw) raw.items, resolved_main (main_begin raw) 1 raw.main)) (first_offence-append items main)
    ∙ answer-two (first_offence items) (first_offence main) (items_functions (text_begin raw) raw.items)
    (resolved_main (main_begin raw) 1 raw.main) (λ fs m. (fs, m))

-- the places at which the items and `main` begin, from the numbers and names that were found
module _ (raw : RawProgram) (items : List RawItem) (main : List RawStmt) (v : ℕ) (n : List Named) (p : Place) (same_items : items ≡ raw.items)
    (same_main : main ≡ raw.main)
    (numbered : v ≡ length (globals items)) (start : n ≡ predeclared)
    (passes : p ≡ place_passed (record { names = n; variable = v; site = 1 }) (parts_all main)) where
  abbrev pub head : Head
  head = record { place = p; globals = 0; functions = 0 }

  head-begin : head ≡ text_begin raw
  head-begin =
      let count = numbered ∙ ap (λ l. length (globals l)) same_items in
      λ i. record {
        place = (passes ∙ (λ j. place_passed (record { names = start j; variable = count j; site = 1 }) (parts_all (same_main j)))) i;
        globals = 0;
        functions = 0;
      }

  pub trees_items : items_answer head items ≡ items_answer (text_begin raw) raw.items
  trees_items = λ i. items_answer (head-begin i) (same_items i)

  pub trees_items_refused : (e : CheckFail) → items_answer head items ≡ Err e → trees_answer raw ≡ Err e
  trees_items_refused e h =
      trees_answer-is raw ∙ ap (λ r. and_then r (λ fs. and_then (main_answer (main_begin raw) 1 raw.main) (λ m. Ok (fs, m)))) (sym trees_items ∙ h)

  module _ (h : Head) (after : h ≡ after_items head items) (fs : List Function) (lawful : items_answer head items ≡ Ok fs) where
    main-begin : main_answer (record { names = h.place.names; variable = v; site = 1 }) 1 main ≡ main_answer (main_begin raw) 1 raw.main
    main-begin =
        let count = numbered ∙ ap (λ l. length (globals l)) same_items in
        let names = ap (λ (g : Head). g.place.names) (after ∙ (λ i. after_items (head-begin i) (same_items i))) in
        λ i. main_answer (record { names = names i; variable = count i; site = 1 }) 1 (same_main i)

    rest : trees_answer raw ≡ and_then (main_answer (record { names = h.place.names; variable = v; site = 1 }) 1 main) (λ m. Ok (fs, m))
    rest =
        trees_answer-is raw ∙ ap (λ r. and_then r (λ fs. and_then (main_answer (main_begin raw) 1 raw.main) (λ m. Ok (fs, m)))) (sym trees_items ∙ lawful)
        ∙ ap (λ r. and_then r (λ m. Ok (fs, m))) (sym main-begin)

    pub trees_main_refused : (e : CheckFail) → main_answer (record { names = h.place.names; variable = v; site = 1 }) 1 main ≡ Err e → trees_answer raw ≡ Err e
    trees_main_refused e refused = rest ∙ ap (λ r. and_then r (λ m. Ok (fs, m))) refused

    pub trees_given : (m : List Stmt) → main_answer (record { names = h.place.names; variable = v; site = 1 }) 1 main ≡ Ok m → trees_answer raw ≡ Ok (fs, m)
    trees_given m given = rest ∙ ap (λ r. and_then r (λ m. Ok (fs, m))) given

-- the three steps in which the table of variables grows
pub variable_table : (raw : RawProgram) (empty : Variables) → empty.rows ≡ [] → empty.cells ≡ 0 →
    (with_variables (with_variables (with_variables empty (globals raw.items)) (main_locals 1 raw.main))
    (flat_map (λ item. locals_of Outer (item_parts item)) raw.items)).rows ≡ variables raw
variable_table raw empty none start =
    let g = globals raw.items in let m = main_locals 1 raw.main in let f = flat_map (λ item. locals_of Outer (item_parts item)) raw.items in
    ap (λ (v : Variables). v.rows) (ap (λ v. with_variables v f) (sym (with_variables-append empty g m)) ∙ sym (with_variables-append empty (g ++ m) f))
    ∙ (λ i. none i ++ Rattle.dp_check.specs.Tables.laid (start i) (g ++ m ++ f))

-- what is answered where no name offends
abbrev pub after_names : RawProgram → Result (Unit {0}) CheckFail
after_names raw = unless (too_many_functions raw) (unless (too_many_cells raw) (Ok tt))

unless-moved : {X Y : Type 0} (f d : Option CheckFail) (x : X) (y : Y) → unless f (unless d (Ok x)) ≡ Ok x → unless f (unless d (Ok y)) ≡ Ok y
unless-moved None None x y h = refl
unless-moved _ _ x y h = absurd (cc)

unless-refused : {X Y : Type 0} (f d : Option CheckFail) (x : X) (y : Y) (e : CheckFail) → unless f (unless d (Ok x)) ≡ Err e →
    unless f (unless d (Ok y)) ≡ Err e
unless-refused None None x y e h = absurd (cc)
unless-refused _ _ x y e h = ap Err (cc)

module _ (raw : RawProgram) where
  pub check_answer-offends : (e : CheckFail) → trees_answer raw ≡ Err e → check_answer raw ≡ Err e
  unfolding trees_answer check_answer
  check_answer-offends e h = by _ (first_offence (names_of raw)) _ h
    where
      by : {X : Type 0} (x : X) (o : Option CheckFail) (rest : Result Program CheckFail) → answer o x ≡ Err e → unless o rest ≡ Err e
      by x None rest h = absurd (cc)
      by x (Some f) rest h = ap Err (cc)

  pub check_answer-limited : (t : List Function × List Stmt) (e : CheckFail) → trees_answer raw ≡ Ok t → after_names raw ≡ Err e → check_answer raw ≡ Err e
  unfolding trees_answer check_answer
  check_answer-limited t e lawful refused =
      ap (λ o. unless o (unless (too_many_functions raw) (unless (too_many_cells raw) (Ok (resolved raw)))))
      (answer-Ok (first_offence (names_of raw)) _ t lawful).0
      ∙ unless-refused (too_many_functions raw) (too_many_cells raw) tt (resolved raw) e refused

  pub check_answer-given : (fs : List Function) (main : List Stmt) (vars : List VarInfo) (rows : List SiteInfo) (regions : List RegionInfo) →
      trees_answer raw ≡ Ok (fs, main) → after_names raw ≡ Ok tt
      → vars ≡ variables raw → rows ≡ program_sites raw → regions ≡ regions_from 1 raw.main
      → check_answer raw ≡ Ok (record { vars = vars; sites = rows; regions = regions; functions = fs; main = main })
  unfolding trees_answer check_answer
  check_answer-given fs main vars rows regions lawful within a b c =
      let k = answer-Ok (first_offence (names_of raw)) _ (fs, main) lawful in
      ap (λ o. unless o (unless (too_many_functions raw) (unless (too_many_cells raw) (Ok (resolved raw))))) k.0
      ∙ unless-moved (too_many_functions raw) (too_many_cells raw) tt (resolved raw) within
      ∙ (λ i. Ok (record { vars = sym a i; sites = sym b i; regions = sym c i; functions = (k.1 i).0; main = (k.1 i).1 }))

pub ruleset variable_tables = (variable_table)

pub ruleset check_answers = (check_answer-offends, check_answer-limited, check_answer-given)
