-- A lawful tree resolves to a program in scope.
use Rattle.std.proofs.Common.{◌≡◌, refl, sym, ap, ◌∙◌, subst, ℕ, zero, suc, ◌+◌, ◌≤◌, ◌<◌, ◌==◌, Bool, true, false, not, ◌||◌, List, [], ◌∷◌, ◌++◌, map, length}
use Rattle.std.proofs.Common.{length-append, append_assoc, append-nil, Some, None, slice_get, nat_lt, arith}
use Rattle.std.proofs.lemmas.Bool.Decides.{nat_tests}
use Rattle.std.specs.List.{list_all, flat_map}
use Rattle.dp_tree.specs.declared.Function.{Function as Callee}
use Rattle.dp_tree.specs.declared.Program.{Program}
use Rattle.dp_tree.specs.declared.VarInfo.{VarInfo}
use Rattle.dp_tree.specs.declared.VarScope.TheVariants.{Outer}
use Rattle.dp_tree.specs.declared.raw.Name.{Name}
use Rattle.dp_tree.specs.declared.raw.RawStmt.{RawStmt}
use Rattle.dp_tree.specs.declared.raw.RawItem.{RawItem}
use Rattle.dp_tree.specs.declared.raw.RawItem.TheVariants as item
use Rattle.dp_tree.specs.declared.raw.RawProgram.{RawProgram}
use Rattle.dp_tree.specs.Functions.{params_in}
use Rattle.dp_tree.specs.Globals.{globals_in}
use Rattle.dp_tree.specs.Numbering.{numbers_from}
use Rattle.dp_tree.specs.Scoping.{sees, params_in_scope, seen_behind_params, global_numbers, function_in_scope, functions_in_scope, is_scoped}
use Rattle.dp_check.specs.declared.items.Head.{Head}
use Rattle.dp_check.specs.declared.names.Meaning.TheVariants as means
use Rattle.dp_check.specs.declared.place.Place.{Place}
use Rattle.dp_check.specs.Offence.{Declares, first_offence}
use Rattle.dp_check.specs.Place.{Local, parts, parts_all, local_count, with_scalar, after_params}
use Rattle.dp_check.specs.Tokens.{token, tokens_all, params_tokens}
use Rattle.dp_check.specs.Resolved.{resolved_all, param_variables}
use Rattle.dp_check.specs.Tables.{laid, locals_of, globals, item_parts, function_parts, top_locals, after_top, main_locals}
use Rattle.dp_check.specs.Items.{item_tokens, items_tokens, items_functions, after_item, after_items}
use Rattle.dp_check.specs.CheckAnswer.{text_begin, main_begin, names_of, resolved}
use Rattle.dp_check.proofs.PlaceLemmas.{local_count-append}
use Rattle.dp_check.proofs.ItemLemmas.{after_params_variable}
use Rattle.dp_check.proofs.GlobalLemmas.{globals_counted}
use Rattle.dp_check.proofs.BoolLemmas.{both_true, same_number, all_weaker}
use Rattle.dp_check.proofs.DeclaredLemmas.{Declared, declared_front, declared_back, declared_in_table}
use Rattle.dp_check.proofs.KnownLemmas.{is_known, all_known, known_later, known_append}
use Rattle.dp_check.proofs.Visible.{At, at_declared, lawful_parts, lawful_first, unseen}
use Rattle.dp_check.proofs.ScopeLemmas.{all_scoped}
use Rattle.dp_check.proofs.MainScopeLemmas.{length-locals_of, length-top_locals, main_scoped}

-- ---- the numbers of the file-scope variables

sees_number : (first n k : ℕ) → first ≤ k → k < first + n → sees (numbers_from first n) (record { 0 = k }) ≡ true
sees_number first zero k low high = absurd (omega arith)
sees_number first (suc n) k low high = by (first == k) refl (λ (above : first + 1 ≤ k). sees_number (first + 1) n k above (omega arith))
  where
    by : (b : Bool) → (first == k) ≡ b → (first + 1 ≤ k → sees (numbers_from (first + 1) n) (record { 0 = k }) ≡ true) →
        (b || sees (numbers_from (first + 1) n) (record { 0 = k })) ≡ true
    by true e later = refl
    by false e later = later (grind (arith, nat_tests))

numbers_below : (first n v : ℕ) → first + n ≤ v → list_all (λ y. nat_lt y v) (numbers_from first n) ≡ true
numbers_below first zero v h = refl
numbers_below first (suc n) v h = both_true (here h) (numbers_below (first + 1) n v (omega arith))
  where
    here : first + suc n ≤ v → nat_lt first v ≡ true
    here low = grind (arith, nat_tests)

-- ---- functions

record Params (p : Program) (n : ℕ) (visible : List ℕ) (q : Place) (params : List Name) : Type 0 where
  scoped : params_in_scope p visible (param_variables q params) ≡ true
  behind : At p n (seen_behind_params visible (param_variables q params)) (after_params q params)

length-param_variables : (q : Place) (params : List Name) → length (param_variables q params) ≡ length params
length-param_variables q [] = refl
length-param_variables q (x ∷ params) = ap suc (length-param_variables (with_scalar q x) params)

module _ (p : Program) (n : ℕ) where
  params_scoped : (q : Place) (params : List Name) (visible : List ℕ) → At p n visible q → Declared p.vars 0 q.variable (local_count (map Local params)) →
      Params p n visible q params
  params_scoped q [] visible here declared = record { scoped = refl; behind = here }
  params_scoped q (x ∷ params) visible here declared =
      let count : suc (local_count (map Local params)) ≡ 1 + local_count (map Local params) = omega arith in
      let later = params_scoped (with_scalar q x) params (q.variable ∷ visible) (at_declared x here)
      (declared_back p.vars 0 q.variable 1 (local_count (map Local params)) _ _ count refl declared) in
      record {
        scoped = both_true (both_true (ap not (unseen q.variable visible here.below)) (declared q.variable (omega arith) (omega arith))) later.scoped;
        behind = later.behind;
      }

  function_scoped : (q : Place) (params : List Name) (body : List RawStmt) → At p n (global_numbers p) q →
      Declared p.vars 0 q.variable (local_count (function_parts params body))
      → first_offence (params_tokens q params ++ tokens_all (after_params q params) body) ≡ None
      → function_in_scope p n (record { params = param_variables q params; body = resolved_all (after_params q params) body }) ≡ true
  function_scoped q params body here declared lawful =
      let count = local_count-append (map Local params) (parts_all body) in
      let first = params_scoped q params (global_numbers p) here (declared_front p.vars 0 q.variable (local_count (map Local params))
      (local_count (parts_all body)) _ count declared) in
      both_true first.scoped
      (all_scoped p 0 n (after_params q params) (seen_behind_params (global_numbers p) (param_variables q params)) body first.behind
      (declared_back p.vars 0 q.variable (local_count (map Local params)) (local_count (parts_all body)) _ _ count (after_params_variable q params) declared)
      (lawful_parts (params_tokens q params) (tokens_all (after_params q params) body) lawful).1).scoped

-- ---- items

-- the locals of functions
abbrev locals_among : List RawItem → List VarInfo
locals_among items = flat_map (λ item. locals_of Outer (item_parts item)) items

-- Among the items: n functions are done, and the variables of the rest come behind those before.
record ItemsAt (p : Program) (whole : List VarInfo) (h : Head) (items : List RawItem) (n : ℕ) (before : List VarInfo) (done : List Callee) : Type 0 where
  functions : p.functions ≡ done ++ items_functions h items
  number : h.functions ≡ n
  counted : length done ≡ n
  split : whole ≡ before ++ locals_among items
  variable : h.place.variable ≡ length before
  globals_left : h.globals + length (globals items) ≡ length (globals_in p.vars)
  above : length (globals_in p.vars) ≤ h.place.variable
  known : all_known p n (global_numbers p) h.place.names ≡ true

-- the functions are in scope, and at the end all names are known
record ItemsScoped (p : Program) (h : Head) (items : List RawItem) (n : ℕ) : Type 0 where
  functions : functions_in_scope p n (items_functions h items) ≡ true
  known : all_known p (length p.functions) (global_numbers p) (after_items h items).place.names ≡ true

get_seam : (done : List Callee) (f : Callee) (rest : List Callee) → slice_get (done ++ f ∷ rest) (length done) ≡ Some f
get_seam [] f rest = refl
get_seam (x ∷ done) f rest = get_seam done f rest

module _ (p : Program) (whole : List VarInfo) (table : p.vars ≡ laid 0 whole) where
  global_seen : (h : Head) (left : ℕ) → h.globals + suc left ≡ length (globals_in p.vars) → sees (global_numbers p) (record { 0 = h.globals }) ≡ true
  global_seen h left e = sees_number 0 (length (globals_in p.vars)) h.globals (omega arith) (omega arith)

  -- a function that is called by this name later on
  function_known : (n : ℕ) (h : Head) (params : List Name) (f : Callee) (done rest : List Callee) → p.functions ≡ done ++ f ∷ rest → h.functions ≡ n →
      length done ≡ n → length f.params ≡ length params
      → is_known p (suc n) (global_numbers p) (means.Function h.functions (length params)) ≡ true
  function_known n h params f done rest placed number counted count =
      both_true (here number) (ap (λ m. length params == m) is ∙ same_number (length params))
    where
      here : h.functions ≡ n → nat_lt h.functions (suc n) ≡ true
      here e = grind (arith, nat_tests)

      is : length (params_in (slice_get p.functions h.functions)) ≡ length params
      is = (λ i. length (params_in (slice_get (placed i) ((number ∙ sym counted) i)))) ∙ ap (λ o. length (params_in o)) (get_seam done f rest) ∙ count

  items_scoped : (h : Head) (items : List RawItem) (n : ℕ) (before : List VarInfo) (done : List Callee) → ItemsAt p whole h items n before done
      → first_offence (items_tokens h items) ≡ None → ItemsScoped p h items n
  items_scoped h [] n before done here lawful =
      let all : n ≡ length p.functions = sym here.counted ∙ ap length (sym (append-nil done)) ∙ ap length (sym here.functions) in
      record { functions = refl; known = subst (λ m. all_known p m (global_numbers p) h.place.names ≡ true) all here.known }
  items_scoped h (item.Scalar name start ∷ rest) n before done here lawful =
      let l = lawful_parts (item_tokens h (item.Scalar name start)) (items_tokens (after_item h (item.Scalar name start)) rest) lawful in
      let left : h.globals + suc (length (globals rest)) ≡ length (globals_in p.vars) = here.globals_left in
      let later = items_scoped (after_item h (item.Scalar name start)) rest n before done (record {
        functions = here.functions;
        number = here.number;
        counted = here.counted;
        split = here.split;
        variable = here.variable;
        globals_left = (let e : (h.globals + 1) + length (globals rest) ≡ h.globals + suc (length (globals rest)) = omega arith in e ∙ left);
        above = here.above;
        known = known_append p n (global_numbers p) h.place.names name.text (means.Scalar (record { 0 = h.globals })) here.known
            (global_seen h (length (globals rest)) left);
      }) l.1 in
      record { functions = later.functions; known = later.known }
  items_scoped h (item.Array name size ∷ rest) n before done here lawful =
      let l = lawful_parts (item_tokens h (item.Array name size)) (items_tokens (after_item h (item.Array name size)) rest) lawful in
      let left : h.globals + suc (length (globals rest)) ≡ length (globals_in p.vars) = here.globals_left in
      let later = items_scoped (after_item h (item.Array name size)) rest n before done (record {
        functions = here.functions;
        number = here.number;
        counted = here.counted;
        split = here.split;
        variable = here.variable;
        globals_left = (let e : (h.globals + 1) + length (globals rest) ≡ h.globals + suc (length (globals rest)) = omega arith in e ∙ left);
        above = here.above;
        known = known_append p n (global_numbers p) h.place.names name.text (means.Array (record { 0 = h.globals })) here.known
            (global_seen h (length (globals rest)) left);
      }) l.1 in
      record { functions = later.functions; known = later.known }
  items_scoped h (item.Function name params body ∷ rest) n before done here lawful =
      let q = h.place in let mine = function_parts params body in let next = after_item h (item.Function name params body) in
      let f : Callee = record { params = param_variables q params; body = resolved_all (after_params q params) body } in
      let l = lawful_parts (item_tokens h (item.Function name params body)) (items_tokens next rest) lawful in
      let inside = (lawful_first (token h.place.names Declares name) (params_tokens q params ++ tokens_all (after_params q params) body) l.0).1 in
      let declared : Declared p.vars 0 q.variable (local_count mine) =
      subst (λ vars. Declared vars 0 q.variable (local_count mine)) (sym (table ∙ ap (laid 0) here.split))
      (declared_in_table 0 Outer refl (locals_among rest) before mine q.variable here.variable) in
      let at : At p n (global_numbers p) q = record {
        known = here.known;
        below = numbers_below 0 (length (globals_in p.vars)) q.variable (let a = here.above in
            omega arith);
      } in
      let later = items_scoped next rest (suc n) (before ++ locals_of Outer mine) (done ++ f ∷ []) (record {
        functions = here.functions ∙ sym (append_assoc done (f ∷ []) (items_functions next rest));
        number = (let e = here.number in omega arith);
        counted = (let e = length-append done (f ∷ []) in let c = here.counted in omega arith);
        split = here.split ∙ sym (append_assoc before (locals_of Outer mine) (locals_among rest));
        variable = (λ i. here.variable i + sym (length-locals_of Outer mine) i) ∙ sym (length-append before (locals_of Outer mine));
        globals_left = here.globals_left;
        above = (let a = here.above in omega arith);
        known = known_append p (suc n) (global_numbers p) q.names name.text (means.Function h.functions (length params))
            (all_weaker _ _ (λ e. known_later p n (global_numbers p) e.meaning) q.names here.known)
            (function_known n h params f done (items_functions next rest) here.functions here.number here.counted (length-param_variables q params));
      }) l.1 in
      record { functions = both_true (function_scoped p n q params body at declared inside) later.functions; known = later.known }

length-main_locals : (r : ℕ) (all : List RawStmt) → length (main_locals r all) ≡ local_count (parts_all all)
length-main_locals r [] = refl
length-main_locals r (s ∷ rest) =
    length-append (top_locals r s) (main_locals (after_top r s) rest)
    ∙ (λ i. length-top_locals r s i + length-main_locals (after_top r s) rest i)
    ∙ sym (local_count-append (parts s) (parts_all rest))

-- the program that a lawful tree stands for is in scope
pub resolved_in_scope : (raw : RawProgram) → first_offence (names_of raw) ≡ None → is_scoped (resolved raw) ≡ true
resolved_in_scope raw lawful =
    let p = resolved raw in let g = globals raw.items in let m = main_locals 1 raw.main in let f = locals_among raw.items in
    let l = lawful_parts (items_tokens (text_begin raw) raw.items) (tokens_all (main_begin raw) raw.main) lawful in
    let counted : length (globals_in p.vars) ≡ length g = globals_counted raw in
    let variable : (text_begin raw).place.variable ≡ length (g ++ m) = (λ i. length g + sym (length-main_locals 1 raw.main) i) ∙ sym (length-append g m) in
    let items = items_scoped p (g ++ m ++ f) refl (text_begin raw) raw.items 0 (g ++ m) [] (record {
      functions = refl;
      number = refl;
      counted = refl;
      split = refl;
      variable = variable;
      globals_left = (let e : 0 + length g ≡ length g = omega arith in e ∙ sym counted);
      above = omega (arith, counted);
      known = refl;
    }) l.0 in
    both_true items.functions
    (main_scoped p (length p.functions) (g ++ m ++ f) f refl (main_begin raw) 1 (global_numbers p) raw.main g (omega arith) (append_assoc g m f) refl
    (record { known = items.known; below = numbers_below 0 (length (globals_in p.vars)) (length g) (omega (arith, counted)) }) l.1)
