use Rattle.std.proofs.Common.{◌++◌, ◌∷◌, [], List, ℕ, sym, ap, ◌∙◌}
use Rattle.dp_tree.specs.declared.Expr.{Expr}
use Rattle.dp_lean_code.specs.steps.Accesses.{loaded_list}
use Rattle.dp_lean_code.proofs.AccessForms.{two_parts, loaded-Element, loaded-Binary, loaded-And, loaded-Or}
use Rattle.dp_lean_code.proofs.access.+put_loaded.Goals as goal

pub returns-in_ok-put_loaded-in-Element : goal.returns-in_ok-put_loaded-in-Element
returns-in_ok-put_loaded-in-Element t c =
    let w = c.in-Element in
    two_parts c.args.out.now _ _ (w.var.0 ∷ []) (loaded_list w.index) c.in_ok-push-in-Element.ensures.ok
    (c.in_ok-put_loaded-in-Element.ensures ∙ ap (λ (x : Expr). c.push-in-Element.new.self ++ loaded_list x) c.get-in-Element.ensures)
    ∙ ap (λ (l : List ℕ). c.args.out.now ++ l) (sym (loaded-Element w.var w.index) ∙ ap loaded_list (sym w.is))

pub returns-in_ok-put_loaded-in-Binary-2 : goal.returns-in_ok-put_loaded-in-Binary-2
returns-in_ok-put_loaded-in-Binary-2 t c =
    let w = c.in-Binary in
    two_parts c.args.out.now _ _ (loaded_list w.a) (loaded_list w.b)
    (c.in_ok-put_loaded-in-Binary.ensures ∙ ap (λ (x : Expr). c.args.out.now ++ loaded_list x) c.get-in-Binary.ensures)
    (c.in_ok-put_loaded-in-Binary-2.ensures ∙ ap (λ (x : Expr). c.put_loaded-in-Binary.new.out ++ loaded_list x) c.get-in-Binary-2.ensures)
    ∙ ap (λ (l : List ℕ). c.args.out.now ++ l) (sym (loaded-Binary w.field-0 w.a w.b) ∙ ap loaded_list (sym w.is))

pub returns-in_ok-put_loaded-in-And-2 : goal.returns-in_ok-put_loaded-in-And-2
returns-in_ok-put_loaded-in-And-2 t c =
    let w = c.in-And in
    two_parts c.args.out.now _ _ (loaded_list w.a) (loaded_list w.b)
    (c.in_ok-put_loaded-in-And.ensures ∙ ap (λ (x : Expr). c.args.out.now ++ loaded_list x) c.get-in-And.ensures)
    (c.in_ok-put_loaded-in-And-2.ensures ∙ ap (λ (x : Expr). c.put_loaded-in-And.new.out ++ loaded_list x) c.get-in-And-2.ensures)
    ∙ ap (λ (l : List ℕ). c.args.out.now ++ l) (sym (loaded-And w.a w.b) ∙ ap loaded_list (sym w.is))

pub returns-in_ok-put_loaded-in-Or-2 : goal.returns-in_ok-put_loaded-in-Or-2
returns-in_ok-put_loaded-in-Or-2 t c =
    let w = c.in-Or in
    two_parts c.args.out.now _ _ (loaded_list w.a) (loaded_list w.b)
    (c.in_ok-put_loaded-in-Or.ensures ∙ ap (λ (x : Expr). c.args.out.now ++ loaded_list x) c.get-in-Or.ensures)
    (c.in_ok-put_loaded-in-Or-2.ensures ∙ ap (λ (x : Expr). c.put_loaded-in-Or.new.out ++ loaded_list x) c.get-in-Or-2.ensures)
    ∙ ap (λ (l : List ℕ). c.args.out.now ++ l) (sym (loaded-Or w.a w.b) ∙ ap loaded_list (sym w.is))
