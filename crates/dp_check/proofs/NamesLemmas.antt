-- A table of names as the list of its names and meanings.
use Rattle.std.proofs.Common.{◌≡◌, refl, sym, ap, ◌∙◌, ℕ, List, [], ◌∷◌, ◌++◌, None, Some, cond, map, Bor, nat_eq}
use Rattle.std.proofs.lemmas.List.{map-append}
use Rattle.std.specs.Cmp.Lexicographic.{pointwise}
use Rattle.std.specs.Map.{lookup}
use Rattle.indexmap.specs.IndexMap.{IndexMap, insert_entry}
use Rattle.indexmap.proofs.CallerLemmas.{insert_entry-new}
use Rattle.dp_check.specs.declared.names.Meaning.{Meaning}
use Rattle.dp_check.specs.Names.{Named, named}

-- an entry as a name with its meaning
abbrev pub shown : Bor (List ℕ) × Meaning → Named
shown e = record { name = e.0.now; meaning = e.1 }

abbrev pub matches : Bor (List ℕ) → Bor (List ℕ) → Rattle.std.proofs.Common.Bool
matches x y = pointwise nat_eq x.now y.now

pub named-shown : (x : List ℕ) (es : List (Bor (List ℕ) × Meaning)) → named (map shown es) x ≡ lookup (λ k. pointwise nat_eq x k.now) es
named-shown x [] = refl
named-shown x (e ∷ es) = ap (λ r. cond (pointwise nat_eq x e.0.now) (Some e.1) r) (named-shown x es)

pub shown-inserted : {S : Type 0} (m : IndexMap (Bor (List ℕ)) Meaning S) (k : Bor (List ℕ)) (v : Meaning)
    → named (map shown m.entries) k.now ≡ None → map shown (insert_entry matches m.entries k v) ≡ map shown m.entries
    ++ record { name = k.now; meaning = v } ∷ []
shown-inserted m k v absent =
    ap (map shown) (insert_entry-new matches m k v (sym (named-shown k.now m.entries) ∙ absent)) ∙ map-append shown m.entries ((k, v) ∷ [])
