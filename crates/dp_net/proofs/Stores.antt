-- Net stores are stores.
use Rattle.dp_semantics.proofs.Names.{◌≡◌, refl, ℕ, Bool, true, false, if◌then◌else◌, List, [], ◌∷◌, ℤ, inl, inr, and_from, and_parts, cases_Bool, list_all}
use Rattle.dp_semantics.proofs.Names.{Effect, Stored, Printed, Decided, Tried}
use Rattle.dp_net.specs.NetItems.{is_store, stores_into, put, told_after, net_behind, net_of}

abbrev AllStores : List Effect → Type 0
AllStores effects = list_all is_store effects ≡ true

put_stores : (c : ℕ) (z : ℤ) (told : List Effect) → AllStores told → AllStores (put c z told)
put_stores c z [] h = refl
put_stores c z (e ∷ told) h =
    let both = and_parts (is_store e) (list_all is_store told) h in
    elim (cases_Bool (stores_into c e)) [
      | inl q ↦ rw q both.1
      | inr q ↦ rw q (and_from (is_store e) (list_all is_store (put c z told)) both.0 (put_stores c z told both.1))
    ]

after_stores : (hidden : ℕ → Bool) (told : List Effect) (e : Effect) → AllStores told → AllStores (told_after hidden told e)
after_stores hidden told (Stored c z) h = by (hidden c)
  where
    by : (b : Bool) → AllStores (if b then told else put c z told)
    by true = h
    by false = put_stores c z told h
after_stores hidden told (Printed z) h = h
after_stores hidden told (Decided z) h = h
after_stores hidden told (Tried z) h = h

behind_stores : (hidden : ℕ → Bool) (told effects : List Effect) → AllStores told → AllStores (net_behind hidden told effects)
behind_stores hidden told [] h = h
behind_stores hidden told (e ∷ effects) h = behind_stores hidden (told_after hidden told e) effects (after_stores hidden told e h)

pub told_stores : (hidden : ℕ → Bool) (effects : List Effect) → list_all is_store (net_of hidden effects) ≡ true
told_stores hidden effects = behind_stores hidden [] effects refl
