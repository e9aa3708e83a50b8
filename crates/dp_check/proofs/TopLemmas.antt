-- What a statement at the top of `main` brings to the tables.
use Rattle.std.proofs.Common.{◌≡◌, refl, sym, ap, ◌∙◌, ℕ, ◌+◌, ◌-◌, true, false, List, [], ◌∷◌, ◌++◌, length, append_assoc, append-nil, arith, length-append}
use Rattle.dp_tree.specs.declared.VarScope.TheVariants.{Outer, Body}
use Rattle.dp_tree.specs.declared.SiteKind.TheVariants as kind
use Rattle.dp_tree.specs.declared.raw.RawExpr.{RawExpr}
use Rattle.dp_tree.specs.declared.raw.RawStmt.{RawStmt, out-RawStmt}
use Rattle.dp_tree.specs.declared.raw.RawStmt.TheVariants as raw
use Rattle.dp_tree.specs.declared.raw.RawStmt.TheVariants.{outs-While, outs-For}
use Rattle.dp_tree.specs.declared.raw.RawStmt.TheOpen.{RawStmt-F}
use Rattle.dp_tree.specs.declared.raw.RawStmt.TheOpen as open_form
use Rattle.dp_check.specs.Resolved.{is_marked_loop, is_marked_loop_at}
use Rattle.dp_check.specs.declared.variables.Variables.{Variables}
use Rattle.dp_check.specs.declared.sites.Sites.{Sites}
use Rattle.dp_check.specs.Place.{TextPart, Site, parts, parts_all, sites_among}
use Rattle.dp_check.specs.Tables.{locals_of, sites_made, loop_parts, outside_at, within_at, top_locals, top_sites, region_made}
use Rattle.dp_check.specs.steps.Growing.{with_variables, with_sites, with_top}
use Rattle.dp_check.proofs.TableLemmas.{parts-While, locals_of-append, length-sites_of, same_sites, with_variables-append}

pub region_of-plain : (first : ℕ) (l : RawStmt-F RawStmt) (done : List TextPart) → is_marked_loop_at l ≡ false → region_made first l done ≡ []
region_of-plain first (open_form.While line true cond body) done h = absurd (cc)
region_of-plain first (open_form.For line true f cond step body) done h = absurd (cc)
region_of-plain first _ done h = refl

outside-plain : (l : RawStmt-F RawStmt) (all : List TextPart) → is_marked_loop_at l ≡ false → (outside_at l all ≡ all) × (within_at l all ≡ [])
outside-plain (open_form.While line true cond body) all h = absurd (cc)
outside-plain (open_form.For line true f cond step body) all h = absurd (cc)
outside-plain _ all h = (refl, refl)

pub top_sites-plain : (r : ℕ) (s : RawStmt) → is_marked_loop s ≡ false → top_sites r s ≡ sites_made 0 (parts s)
top_sites-plain r s h =
    let both = outside-plain (out-RawStmt s) (parts s) h in
    (λ i. sites_made 0 (both.0 i) ++ sites_made r (both.1 i)) ∙ append-nil (sites_made 0 (parts s))

pub top-plain : (t : Sites) (r : ℕ) (s : RawStmt) → is_marked_loop s ≡ false → with_top t r s ≡ with_sites t (sites_made 0 (parts s))
top-plain t r s h =
    same_sites t (ap (λ xs. t.rows ++ xs) (top_sites-plain r s h))
    (ap (λ xs. t.regions ++ xs) (region_of-plain t.next (out-RawStmt s) (parts s) h) ∙ append-nil t.regions)
    (ap (λ xs. t.next + length xs) (top_sites-plain r s h))

-- the table with one region more, whose sites are the last ones
abbrev with_region : Sites → ℕ → ℕ → Sites
with_region u line first = record u { regions = u.regions ++ record { line = line; first = record { 0 = first }; last = record { 0 = u.next - 1 } } ∷ [] }

pub top-region : (t : Sites) (r line : ℕ) (cond : RawExpr) (body : List RawStmt) (s : RawStmt) → raw.While line true cond body ≡ s → (u : Sites) →
    u ≡ with_sites t (sites_made r (parts s))
    → record u { regions = u.regions ++ record { line = line; first = record { 0 = t.next }; last = record { 0 = u.next - 1 } } ∷ [] } ≡ with_top t r s
top-region t r line cond body s is u grown =
    let form : out-RawStmt s ≡ open_form.While line true cond body = ap out-RawStmt (sym is) ∙ outs-While line true cond body in
    let rows : sites_made r (parts s) ≡ top_sites r s = λ i. sites_made 0 (outside_at (sym form i) (parts s))
    ++ sites_made r (within_at (sym form i) (parts s)) in
    (λ i. with_region (grown i) line t.next)
    ∙ same_sites t (ap (λ xs. t.rows ++ xs) rows)
    ((λ i. t.regions ++ record { line = line; first = record { 0 = t.next }; last = record { 0 = t.next + length-sites_of r (parts s) i - 1 } } ∷ [])
    ∙ ap (λ l. t.regions ++ region_made t.next l (parts s)) (sym form))
    (ap (λ xs. t.next + length xs) rows)

pub top-stepped : (t : Sites) (r line : ℕ) (first : List RawStmt) (cond : RawExpr) (step body : List RawStmt) (s : RawStmt) →
    raw.For line true first cond step body ≡ s
    → (u : Sites) → u ≡ with_sites t (sites_made 0 (parts_all first)) → (v : Sites) → v ≡ with_sites u (sites_made r (loop_parts line step body))
    → record v { regions = v.regions ++ record { line = line; first = record { 0 = u.next }; last = record { 0 = v.next - 1 } } ∷ [] } ≡ with_top t r s
top-stepped t r line first cond step body s is u before v grown =
    let form : out-RawStmt s ≡ open_form.For line true first cond step body = ap out-RawStmt (sym is) ∙ outs-For line true first cond step body in
    let a = sites_made 0 (parts_all first) in let b = sites_made r (loop_parts line step body) in
    let rows : a ++ b ≡ top_sites r s = λ i. sites_made 0 (outside_at (sym form i) (parts s)) ++ sites_made r (within_at (sym form i) (parts s)) in
    let begins : t.next + length a ≡ t.next + sites_among (parts_all first) = ap (λ n. t.next + n) (length-sites_of 0 (parts_all first)) in
    (λ i. with_region ((grown ∙ (λ j. with_sites (before j) b)) i) line (before i).next)
    ∙ same_sites t (append_assoc t.rows a b ∙ ap (λ xs. t.rows ++ xs) rows)
    ((λ i. t.regions ++ record {
      line = line;
      first = record { 0 = begins i };
      last = record {
        0 = begins i + length-sites_of r
            (loop_parts line step body) i - 1;
      };
    } ∷ [])
    ∙ ap (λ l. t.regions ++ region_made t.next l (parts s)) (sym form))
    (let e = length-append a b in let f : (t.next + length a) + length b ≡ t.next + length (a ++ b) = omega arith in f ∙ ap (λ xs. t.next + length xs) rows)

-- ---- the locals of a statement at the top of `main`

pub locals-region : (v : Variables) (r line : ℕ) (cond : RawExpr) (body : List RawStmt) (s : RawStmt) → raw.While line true cond body ≡ s
    → with_variables v (locals_of (Body r) (parts_all body)) ≡ with_variables v (top_locals r s)
locals-region v r line cond body s is =
    let form : out-RawStmt s ≡ open_form.While line true cond body = ap out-RawStmt (sym is) ∙ outs-While line true cond body in
    let inside : Site line kind.While ∷ parts_all body ≡ parts s = sym (parts-While line true cond body) ∙ ap parts is in
    ap (λ ps. with_variables v (locals_of (Body r) ps)) inside
    ∙ (λ i. with_variables v (locals_of Outer (outside_at (sym form i) (parts s)) ++ locals_of (Body r) (within_at (sym form i) (parts s))))

pub locals-stepped : (v : Variables) (r line : ℕ) (first : List RawStmt) (cond : RawExpr) (step body : List RawStmt) (s : RawStmt) →
    raw.For line true first cond step body ≡ s
    → with_variables (with_variables (with_variables v (locals_of Outer (parts_all first))) (locals_of (Body r) (parts_all body)))
    (locals_of (Body r) (parts_all step))
    ≡ with_variables v (top_locals r s)
locals-stepped v r line first cond step body s is =
    let form : out-RawStmt s ≡ open_form.For line true first cond step body = ap out-RawStmt (sym is) ∙ outs-For line true first cond step body in
    let a = locals_of Outer (parts_all first) in let b = locals_of (Body r) (parts_all body) in let c = locals_of (Body r) (parts_all step) in
    sym (with_variables-append (with_variables v a) b c) ∙ sym (with_variables-append v a (b ++ c))
    ∙ ap (λ xs. with_variables v (a ++ xs)) (sym (locals_of-append (Body r) (parts_all body) (parts_all step)))
    ∙ (λ i. with_variables v (locals_of Outer (outside_at (sym form i) (parts s)) ++ locals_of (Body r) (within_at (sym form i) (parts s))))
