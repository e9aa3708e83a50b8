use Rattle.std.proofs.Common.{◌++◌, ◌∷◌, [], List, Option, sym, ap, ◌∙◌}
use Rattle.dp_tree.specs.declared.Expr.{Expr}
use Rattle.dp_sites.specs.Place.{Place, index_place}
use Rattle.dp_sites.specs.steps.Parts.{Touched, loads_in}
use Rattle.dp_sites.proofs.PartForms.{two_parts, load-Element, load-Binary, load-And, load-Or}
use Rattle.dp_sites.proofs.touched.+put_loads.Goals as goal

pub returns-in_ok-push-in-Element : goal.returns-in_ok-push-in-Element
returns-in_ok-push-in-Element t c =
    let w = c.in-Element in
    two_parts c.args.out.now _ _ (loads_in w.index) (record { var = w.var; place = index_place w.index } ∷ [])
    (c.in_ok-put_loads-in-Element.ensures ∙ ap (λ (x : Expr). c.args.out.now ++ loads_in x) c.get-in-Element.ensures)
    (c.in_ok-push-in-Element.ensures.ok ∙ ap (λ (q : Option Place). c.put_loads-in-Element.new.out ++ record { var = w.var; place = q } ∷ [])
    (c.place_of-place.ensures ∙ ap index_place c.get-in-Element-2.ensures))
    ∙ ap (λ (l : List Touched). c.args.out.now ++ l) (sym (load-Element w.var w.index) ∙ ap loads_in (sym w.is))

pub returns-in_ok-put_loads-in-Binary-2 : goal.returns-in_ok-put_loads-in-Binary-2
returns-in_ok-put_loads-in-Binary-2 t c =
    let w = c.in-Binary in
    two_parts c.args.out.now _ _ (loads_in w.a) (loads_in w.b)
    (c.in_ok-put_loads-in-Binary.ensures ∙ ap (λ (x : Expr). c.args.out.now ++ loads_in x) c.get-in-Binary.ensures)
    (c.in_ok-put_loads-in-Binary-2.ensures ∙ ap (λ (x : Expr). c.put_loads-in-Binary.new.out ++ loads_in x) c.get-in-Binary-2.ensures)
    ∙ ap (λ (l : List Touched). c.args.out.now ++ l) (sym (load-Binary w.field-0 w.a w.b) ∙ ap loads_in (sym w.is))

pub returns-in_ok-put_loads-in-And-2 : goal.returns-in_ok-put_loads-in-And-2
returns-in_ok-put_loads-in-And-2 t c =
    let w = c.in-And in
    two_parts c.args.out.now _ _ (loads_in w.a) (loads_in w.b)
    (c.in_ok-put_loads-in-And.ensures ∙ ap (λ (x : Expr). c.args.out.now ++ loads_in x) c.get-in-And.ensures)
    (c.in_ok-put_loads-in-And-2.ensures ∙ ap (λ (x : Expr). c.put_loads-in-And.new.out ++ loads_in x) c.get-in-And-2.ensures)
    ∙ ap (λ (l : List Touched). c.args.out.now ++ l) (sym (load-And w.a w.b) ∙ ap loads_in (sym w.is))

pub returns-in_ok-put_loads-in-Or-2 : goal.returns-in_ok-put_loads-in-Or-2
returns-in_ok-put_loads-in-Or-2 t c =
    let w = c.in-Or in
    two_parts c.args.out.now _ _ (loads_in w.a) (loads_in w.b)
    (c.in_ok-put_loads-in-Or.ensures ∙ ap (λ (x : Expr). c.args.out.now ++ loads_in x) c.get-in-Or.ensures)
    (c.in_ok-put_loads-in-Or-2.ensures ∙ ap (λ (x : Expr). c.put_loads-in-Or.new.out ++ loads_in x) c.get-in-Or-2.ensures)
    ∙ ap (λ (l : List Touched). c.args.out.now ++ l) (sym (load-Or w.a w.b) ∙ ap loads_in (sym w.is))
