-- What a judgement tells of a block by its net stores is what it tells by its words: the same prints, steps and last values, to each stage that sees them.
use Rattle.dp_semantics.proofs.Names.{◌≡◌, inl, inr, refl, sym, ap, ◌∙◌, ℕ, suc, ◌+◌, Bool, true, false, if◌then◌else◌, List, [], ◌∷◌, ◌++◌, ℤ, length}
use Rattle.dp_semantics.proofs.Names.{length-append, filter_map, Option, Some, None, nat_le, arith, cases_Bool, Program, Plan, Event, Effect, Stored, Printed}
use Rattle.dp_semantics.proofs.Names.{Decided, Tried, stage_of, last, Judgement, Agreed, Clean, Unclean}
use Rattle.dp_tree.specs.Trace.{printed_by}
use Rattle.std.specs.Option.{option_or}
use Rattle.std.specs.List.{cons_option}
use Rattle.std.proofs.lemmas.List.Elements.{filter_map-append}
use Rattle.dp_semantics.proofs.Each.{Each}
use Rattle.dp_net.specs.NetItems.{Marks, put, told_after, net_behind, net_of}
use Rattle.dp_net.specs.NetJudge.{sites_for, NetAgreed}
use Rattle.dp_net.proofs.Blocks.{effects_of, sites_of}
use Rattle.dp_net.proofs.Memories.{Open, stored_at, last_of, net_last}

-- the effects that stage s or an earlier one made, and so stage s sees
abbrev pub seen_by : Program → Plan → ℕ → List ℕ → List Effect → List Effect
seen_by p plan s (site ∷ sites) (effect ∷ effects) =
    if nat_le (stage_of p plan site) s then effect ∷ seen_by p plan s sites effects else seen_by p plan s sites effects
seen_by p plan s _ _ = []

option_assoc : {X : Type 0} (a b c : Option X) → option_or (option_or a b) c ≡ option_or a (option_or b c)
option_assoc (Some x) b c = refl
option_assoc None b c = refl

last_join : (c : ℕ) (a b : List Effect) → last_of c (a ++ b) ≡ option_or (last_of c b) (last_of c a)
last_join c [] b = none_right (last_of c b)
  where
    none_right : (o : Option ℤ) → o ≡ option_or o None
    none_right (Some x) = refl
    none_right None = refl
last_join c (e ∷ a) b = ap (λ (o : Option ℤ). option_or o (stored_at c e)) (last_join c a b) ∙ option_assoc (last_of c b) (last_of c a) (stored_at c e)

filter_join : (a b : List Effect) → filter_map printed_by (a ++ b) ≡ filter_map printed_by a ++ filter_map printed_by b
filter_join a b = filter_map-append printed_by a b

if_same : (b : Bool) (es : List Effect) → (if b then es else es) ≡ es
if_same true es = refl
if_same false es = refl

module _ (p : Program) (plan : Plan) where
  seen_join : (s : ℕ) (sites : List ℕ) (effects : List Effect) (more_sites : List ℕ) (more : List Effect) → length sites ≡ length effects →
      seen_by p plan s (sites ++ more_sites) (effects ++ more) ≡ seen_by p plan s sites effects ++ seen_by p plan s more_sites more
  seen_join s [] [] more_sites more e = refl
  seen_join s [] (f ∷ effects) more_sites more e = absurd (omega (arith, e))
  seen_join s (site ∷ sites) [] more_sites more e = absurd (omega (arith, e))
  seen_join s (site ∷ sites) (f ∷ effects) more_sites more e = by (nat_le (stage_of p plan site) s)
      (seen_join s sites effects more_sites more (omega (arith, e)))
    where
      by : (b : Bool) → seen_by p plan s (sites ++ more_sites) (effects ++ more) ≡ seen_by p plan s sites effects ++ seen_by p plan s more_sites more →
          (if b then f ∷ seen_by p plan s (sites ++ more_sites) (effects ++ more) else seen_by p plan s (sites ++ more_sites)
          (effects ++ more)) ≡ (if b then f ∷ seen_by p plan s sites effects else seen_by p plan s sites effects) ++ seen_by p plan s more_sites more
      by true same = ap (λ es. f ∷ es) same
      by false same = same

  -- a block's effects are seen as a whole, or not at all
  seen_block : (s t : ℕ) (events : List Event) → Each (λ (e : Event). (stage_of p plan e.site ≡ t) × (printed_by e.effect ≡ None)) events →
      seen_by p plan s (sites_of events) (effects_of events) ≡ (if nat_le t s then effects_of events else [])
  seen_block s t [] h = sym (if_same (nat_le t s) [])
  seen_block s t (event ∷ events) h = rw (h.0.0, seen_block s t events h.1) (by (nat_le t s))
    where
      by : (b : Bool) →
          (if b then event.effect ∷ (if b then effects_of events else []) else (if b then effects_of events else [])) ≡ (if b then event.effect
          ∷ effects_of events else [])
      by true = refl
      by false = refl

  seen_net : (s site : ℕ) (stores : List Effect) → seen_by p plan s (sites_for site stores) stores ≡ (if nat_le (stage_of p plan site) s then stores else [])
  seen_net s site [] = sym (if_same (nat_le (stage_of p plan site) s) [])
  seen_net s site (e ∷ stores) = rw (seen_net s site stores) (by (nat_le (stage_of p plan site) s))
    where
      by : (b : Bool) → (if b then e ∷ (if b then stores else []) else (if b then stores else [])) ≡ (if b then e ∷ stores else [])
      by true = refl
      by false = refl

put_silent : (c : ℕ) (z : ℤ) (told : List Effect) → filter_map printed_by told ≡ [] → filter_map printed_by (put c z told) ≡ []
put_silent c z [] h = refl
put_silent c z (e ∷ told) h = by (printed_by e) refl h (put_silent c z told)
  where
    by : (o : Option ℤ) → printed_by e ≡ o → cons_option o (filter_map printed_by told) ≡ [] →
        (filter_map printed_by told ≡ [] → filter_map printed_by (put c z told) ≡ []) → filter_map printed_by (put c z (e ∷ told)) ≡ []
    by (Some y) is h go = absurd (cc h)
    by None is h go = elim (cases_Bool (Rattle.dp_net.specs.NetItems.stores_into c e)) [
      | inl t ↦ rw t h
      | inr t ↦ rw t (rw is (go h))
    ]

after_silent : (hidden : ℕ → Bool) (told : List Effect) (e : Effect) → filter_map printed_by told ≡ [] → filter_map printed_by (told_after hidden told e) ≡ []
after_silent hidden told (Stored c z) h = by (hidden c)
  where
    by : (b : Bool) → filter_map printed_by (if b then told else put c z told) ≡ []
    by true = h
    by false = put_silent c z told h
after_silent hidden told (Printed z) h = h
after_silent hidden told (Decided z) h = h
after_silent hidden told (Tried z) h = h

behind_silent : (hidden : ℕ → Bool) (told es : List Effect) → filter_map printed_by told ≡ [] → filter_map printed_by (net_behind hidden told es) ≡ []
behind_silent hidden told [] h = h
behind_silent hidden told (e ∷ es) h = behind_silent hidden (told_after hidden told e) es (after_silent hidden told e h)

silent : (hidden : ℕ → Bool) (es : List Effect) → filter_map printed_by (net_of hidden es) ≡ []
silent hidden es = behind_silent hidden [] es refl

sites_for_size : (site : ℕ) (es : List Effect) → length (sites_for site es) ≡ length es
sites_for_size site [] = refl
sites_for_size site (e ∷ es) = ap suc (sites_for_size site es)

effects_size : (events : List Event) → length (effects_of events) ≡ length events
effects_size [] = refl
effects_size (event ∷ events) = ap suc (effects_size events)

sites_size : (events : List Event) → length (sites_of events) ≡ length events
sites_size [] = refl
sites_size (event ∷ events) = ap suc (sites_size events)

no_prints : (p : Program) (plan : Plan) (t : ℕ) (events : List Event) →
    Each (λ (e : Event). (stage_of p plan e.site ≡ t) × (printed_by e.effect ≡ None)) events → filter_map printed_by (effects_of events) ≡ []
no_prints p plan t [] h = refl
no_prints p plan t (event ∷ events) h = rw (h.0.1) (no_prints p plan t events h.1)

-- What both judgements tell: the same prints and number of steps, and the same last value of each cell that isn't hidden, to each stage that sees it.
pub record Told (p : Program) (plan : Plan) (m : Marks) (sites : List ℕ) (effects : List Effect) (net_sites : List ℕ) (net_effects : List Effect)
    (steps : ℕ) : Type 0 where
  pub steps_are : length effects ≡ steps
  pub prints : filter_map printed_by effects ≡ filter_map printed_by net_effects
  pub lasts : (c : ℕ) → Open m (last plan) c → last_of c effects ≡ last_of c net_effects
  pub views : (s c : ℕ) → Open m (last plan) c → last_of c (seen_by p plan s sites effects) ≡ last_of c (seen_by p plan s net_sites net_effects)
  pub sized : length sites ≡ length effects
  pub net_sized : length net_sites ≡ length net_effects

-- it goes on with more of each
pub told_more : (p : Program) (plan : Plan) (m : Marks) (sites : List ℕ) (effects : List Effect) (net_sites : List ℕ) (net_effects : List Effect)
    (steps : ℕ) (more_sites : List ℕ) (more : List Effect) (net_more_sites : List ℕ) (net_more : List Effect) (k : ℕ) →
    Told p plan m sites effects net_sites net_effects steps → Told p plan m more_sites more net_more_sites net_more k →
    Told p plan m (sites ++ more_sites) (effects ++ more) (net_sites ++ net_more_sites) (net_effects ++ net_more) (steps + k)
told_more p plan m sites effects net_sites net_effects steps more_sites more net_more_sites net_more k t u = record {
  steps_are = length-append effects more ∙ ap (λ (n : ℕ). n + length more) t.steps_are ∙ ap (λ (n : ℕ). steps + n) u.steps_are;
  prints = filter_join effects more ∙ ap (λ zs. zs ++ filter_map printed_by more) t.prints
      ∙ ap (λ zs. filter_map printed_by net_effects ++ zs) u.prints ∙ sym (filter_join net_effects net_more);
  lasts = λ c o. last_join c effects more ∙ ap (λ (x : Option ℤ). option_or x (last_of c effects)) (u.lasts c o)
      ∙ ap (option_or (last_of c net_more)) (t.lasts c o) ∙ sym (last_join c net_effects net_more);
  views = λ s c o. ap (last_of c) (seen_join p plan s sites effects more_sites more t.sized)
      ∙ last_join c (seen_by p plan s sites effects) (seen_by p plan s more_sites more)
      ∙ ap (λ (x : Option ℤ). option_or x (last_of c (seen_by p plan s sites effects))) (u.views s c o)
      ∙ ap (option_or (last_of c (seen_by p plan s net_more_sites net_more))) (t.views s c o)
      ∙ sym (ap (last_of c) (seen_join p plan s net_sites net_effects net_more_sites net_more t.net_sized)
      ∙ last_join c (seen_by p plan s net_sites net_effects) (seen_by p plan s net_more_sites net_more));
  sized = length-append sites more_sites ∙ ap (λ (n : ℕ). n + length more_sites) t.sized ∙ ap (λ (n : ℕ). length effects + n) u.sized
      ∙ sym (length-append effects more);
  net_sized = length-append net_sites net_more_sites ∙ ap (λ (n : ℕ). n + length net_more_sites) t.net_sized
      ∙ ap (λ (n : ℕ). length net_effects + n) u.net_sized ∙ sym (length-append net_effects net_more);
}

-- one word
pub told_one : (p : Program) (plan : Plan) (m : Marks) (site : ℕ) (effect : Effect) → Told p plan m (site ∷ []) (effect ∷ []) (site ∷ []) (effect ∷ []) 1
told_one p plan m site effect = record { steps_are = refl; prints = refl; lasts = λ c o. refl; views = λ s c o. refl; sized = refl; net_sized = refl }

-- a block
pub told_block : (p : Program) (plan : Plan) (m : Marks) (f : ℕ) (events : List Event) → (stage_of p plan f ≡ last plan → ⊥) →
    Each (λ (e : Event). (stage_of p plan e.site ≡ stage_of p plan f) × (printed_by e.effect ≡ None)) events →
    Told p plan m (sites_of events) (effects_of events) (sites_for f (net_of (m.hides (stage_of p plan f)) (effects_of events)))
    (net_of (m.hides (stage_of p plan f)) (effects_of events)) (length events)
told_block p plan m f events early all = record {
  steps_are = effects_size events;
  prints = no_prints p plan (stage_of p plan f) events all ∙ sym (silent (m.hides (stage_of p plan f)) (effects_of events));
  lasts = λ c o. sym (net_last (m.hides (stage_of p plan f)) c (o (stage_of p plan f) early) (effects_of events));
  views = λ s c o. ap (last_of c) (seen_block p plan s (stage_of p plan f) events all) ∙ by (nat_le (stage_of p plan f) s) c o
      ∙ sym (ap (last_of c) (seen_net p plan s f (net_of (m.hides (stage_of p plan f)) (effects_of events))));
  sized = sites_size events ∙ sym (effects_size events);
  net_sized = sites_for_size f (net_of (m.hides (stage_of p plan f)) (effects_of events));
}
  where
    by : (b : Bool) (c : ℕ) → Open m (last plan) c →
        last_of c (if b then effects_of events else []) ≡ last_of c (if b then net_of (m.hides (stage_of p plan f)) (effects_of events) else [])
    by true c o = sym (net_last (m.hides (stage_of p plan f)) c (o (stage_of p plan f) early) (effects_of events))
    by false c o = refl

pub record VerdictsAlike (p : Program) (plan : Plan) (m : Marks) (a : Agreed) (b : NetAgreed) : Type 0 where
  pub told : Told p plan m a.sites a.effects b.sites b.effects b.steps
  pub closing : b.closing ≡ a.closing

-- both are clean, and tell the same, or neither is
abbrev pub SameVerdict : Program → Plan → Marks → Judgement → Option NetAgreed → Type 0
SameVerdict p plan m (Clean a) (Some b) = VerdictsAlike p plan m a b
SameVerdict p plan m (Clean a) None = ⊥
SameVerdict p plan m Unclean (Some b) = ⊥
SameVerdict p plan m Unclean None = Unit {0}
