-- Functions, and items one after the other.
use Rattle.std.proofs.Common.{◌≡◌, refl, sym, ap, ◌∙◌, ℕ, ◌+◌, ◌≤◌, List, [], ◌∷◌, ◌++◌, map, length, take, append_assoc, append-nil, arith, Option, Some, None}
use Rattle.std.proofs.Common.{Ok, Err}
use Rattle.std.proofs.lemmas.List.{take_all}
use Rattle.dp_base.specs.declared.VarId.{VarId}
use Rattle.std.specs.Option.{option_or}
use Rattle.dp_tree.specs.declared.Function.{Function}
use Rattle.dp_tree.specs.declared.raw.Name.{Name}
use Rattle.dp_tree.specs.declared.raw.RawStmt.{RawStmt}
use Rattle.dp_tree.specs.declared.raw.RawItem.{RawItem}
use Rattle.dp_tree.specs.declared.raw.RawItem.TheVariants as item
use Rattle.dp_check.specs.declared.fail.CheckFail.{CheckFail}
use Rattle.dp_check.specs.declared.items.Head.{Head}
use Rattle.dp_check.specs.declared.place.Place.{Place}
use Rattle.dp_check.specs.Names.{Named}
use Rattle.dp_check.specs.Offence.{Declares, offence, first_offence}
use Rattle.dp_check.specs.Place.{Local, parts_all, local_count, sites_among, place_passed, with_scalar, after_params}
use Rattle.dp_check.specs.Tokens.{token, tokens_all, params_tokens}
use Rattle.dp_check.specs.Resolved.{next_variable, resolved_all, param_variables}
use Rattle.dp_check.specs.Tables.{function_parts}
use Rattle.dp_check.specs.Items.{function_answer, items_answer, item_tokens, items_tokens, item_functions, items_functions, after_item, after_items}
use Rattle.dp_check.specs.Answer.{answer, block_answer, param_answer, params_answer, body_answer}
use Rattle.dp_check.proofs.AnswerLemmas.{and_then, first_offence-append, answer-two, answer-Ok, answer-Err}
use Rattle.dp_check.proofs.PlaceLemmas.{Keeps, keeps_more, same_place, local_count-append, site_count-append}

pub params_answer-none : (p : Place) → params_answer p [] ≡ Ok []
unfolding params_answer
params_answer-none p = refl

pub params_answer-more : (p : Place) (x : Name) (rest : List Name) →
    params_answer p (x ∷ rest) ≡ and_then (param_answer p x) (λ v. and_then (params_answer (with_scalar p x) rest) (λ vs. Ok (v ∷ vs)))
unfolding params_answer param_answer
params_answer-more p x rest =
    answer-two (offence (token p.names Declares x)) (first_offence (params_tokens (with_scalar p x) rest)) (next_variable p)
    (param_variables (with_scalar p x) rest) (λ v vs. v ∷ vs)

pub body_answer-is : (p : Place) (params : List Name) (body : List RawStmt) → body_answer p params body
    ≡ and_then (params_answer p params) (λ ps. and_then (block_answer (after_params p params) body) (λ b. Ok (record { params = ps; body = b })))
unfolding body_answer params_answer block_answer
body_answer-is p params body =
    let q = after_params p params in
    let whole : List VarId → List Rattle.dp_tree.specs.declared.Stmt.Stmt → Function = λ ps b. record { params = ps; body = b } in
    ap (λ o. answer o (whole (param_variables p params) (resolved_all q body))) (first_offence-append (params_tokens p params) (tokens_all q body))
    ∙ answer-two (first_offence (params_tokens p params)) (first_offence (tokens_all q body)) (param_variables p params) (resolved_all q body) whole

pub after_params_variable : (p : Place) (xs : List Name) → (after_params p xs).variable ≡ p.variable + local_count (map Local xs)
after_params_variable p [] = omega arith
after_params_variable p (x ∷ xs) = let e = after_params_variable (with_scalar p x) xs in omega arith

pub after_params_site : (p : Place) (xs : List Name) → (after_params p xs).site ≡ p.site + sites_among (map Local xs)
after_params_site p [] = omega arith
after_params_site p (x ∷ xs) = after_params_site (with_scalar p x) xs

pub after_params_keeps : (k : ℕ) (p : Place) (xs : List Name) → k ≤ length p.names → Keeps k p.names (after_params p xs).names
after_params_keeps k p [] h = record { long = h; kept = refl }
after_params_keeps k p (x ∷ xs) h =
    let now = keeps_more k p.names (record { name = x.text; meaning = _ } ∷ []) h in
    let later = after_params_keeps k (with_scalar p x) xs now.long in
    record { long = later.long; kept = later.kept ∙ now.kept }

-- the place after a function, where its names are given up
pub function_ends : (p : Place) (params : List Name) (body : List RawStmt) (names : List Named) → names ≡ take (length p.names) (after_params p params).names
    → record (place_passed (after_params p params) (parts_all body)) { names = names } ≡ place_passed p (function_parts params body)
function_ends p params body names is =
    same_place
    (is ∙ (after_params_keeps (length p.names) p params (omega arith)).kept ∙ take_all (length p.names) p.names (omega arith))
    (omega (arith, after_params_variable p params, local_count-append (map Local params) (parts_all body)))
    (omega (arith, after_params_site p params, site_count-append (map Local params) (parts_all body)))

pub ruleset body_answers = (body_answer-is)

-- the answer of a function with its name
pub function_answer-is : (h : Head) (name : Name) (params : List Name) (body : List RawStmt) → function_answer h name params body
    ≡ and_then (answer {X = Unit {0}} (offence (token h.place.names Declares name)) tt) (λ _. body_answer h.place params body)
unfolding function_answer body_answer
function_answer-is h name params body = by (offence (token h.place.names Declares name)) _ _
  where
    by : (o p : Option CheckFail) (x : Function) → answer (option_or o p) x ≡ and_then (answer {X = Unit {0}} o tt) (λ _. answer p x)
    by None p x = refl
    by (Some e) p x = refl

pub ruleset function_answers = (function_answer-is)

pub function_answer_at : (h : Head) (name : Name) {ps qs : List Name} {a b : List RawStmt} → ps ≡ qs → a ≡ b →
    function_answer h name ps a ≡ function_answer h name qs b
function_answer_at h name e f = λ i. function_answer h name (e i) (f i)

module _ (h : Head) (name : Name) (params : List Name) (body : List RawStmt) where
  pub function_lawful : (f : Function) → function_answer h name params body ≡ Ok f →
      (answer {X = Unit {0}} (first_offence (item_tokens h (item.Function name params body))) tt ≡ Ok tt)
      × (item_functions h (item.Function name params body) ≡ f ∷ [])
  unfolding function_answer
  function_lawful f e =
      let k = answer-Ok (first_offence (item_tokens h (item.Function name params body))) _ f e in
      (ap (λ o. answer {X = Unit {0}} o tt) k.0, ap (λ g. g ∷ []) k.1)

  pub function_refused : (e : CheckFail) → function_answer h name params body ≡ Err e →
      answer {X = Unit {0}} (first_offence (item_tokens h (item.Function name params body))) tt ≡ Err e
  unfolding function_answer
  function_refused e p = answer-Err (first_offence (item_tokens h (item.Function name params body))) _ tt e p

-- Among the items: those before were lawful, and those that are left lead to the answer and to the end.
pub record ItemsSoFar (begin now : Head) (done : List Function) (all rest : List RawItem) : Type 0 where
  pub offence : first_offence (items_tokens begin all) ≡ first_offence (items_tokens now rest)
  pub functions : items_functions begin all ≡ done ++ items_functions now rest
  pub head : after_items begin all ≡ after_items now rest

pub items_begin : (h : Head) (all : List RawItem) → ItemsSoFar h h [] all all
items_begin h all = record { offence = refl; functions = refl; head = refl }

module _ {begin now : Head} {done : List Function} {all : List RawItem} where
  pub items_go_on : (x : RawItem) (rest : List RawItem) → ItemsSoFar begin now done all (x ∷ rest) →
      answer {X = Unit {0}} (first_offence (item_tokens now x)) tt ≡ Ok tt
      → ItemsSoFar begin (after_item now x) (done ++ item_functions now x) all rest
  items_go_on x rest so_far lawful =
      let none = (answer-Ok (first_offence (item_tokens now x)) tt tt lawful).0 in
      record {
        offence = so_far.offence ∙ first_offence-append (item_tokens now x) (items_tokens (after_item now x) rest)
            ∙ ap (λ o. option_or o (first_offence (items_tokens (after_item now x) rest))) none;
        functions = so_far.functions ∙ sym (append_assoc done (item_functions now x) (items_functions (after_item now x) rest));
        head = so_far.head;
      }

  pub items_refused : (x : RawItem) (rest : List RawItem) → ItemsSoFar begin now done all (x ∷ rest) → (e : CheckFail)
      → answer {X = Unit {0}} (first_offence (item_tokens now x)) tt ≡ Err e → items_answer begin all ≡ Err e
  unfolding items_answer
  items_refused x rest so_far e refused =
      ap (λ o. answer o (items_functions begin all)) (so_far.offence ∙ first_offence-append (item_tokens now x) (items_tokens (after_item now x) rest))
      ∙ by (first_offence (item_tokens now x)) (first_offence (items_tokens (after_item now x) rest)) refused
    where
      by : (o p : Option CheckFail) → answer {X = Unit {0}} o tt ≡ Err e → answer (option_or o p) (items_functions begin all) ≡ Err e
      by None p h = absurd (cc)
      by (Some f) p h = ap Err (cc)

  pub items_end : ItemsSoFar begin now done all [] → items_answer begin all ≡ Ok done
  unfolding items_answer
  items_end so_far = (λ i. answer (so_far.offence i) ((so_far.functions ∙ append-nil done) i))
