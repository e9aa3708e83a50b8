-- What a list tells of a site, where words or a block stand in front.
use Rattle.dp_semantics.proofs.Names.{◌≡◌, inl, inr, refl, sym, ap, ◌∙◌, append_assoc, ℕ, ◌==◌, Bool, true, false, if◌then◌else◌, List, [], ◌∷◌, ◌++◌, Option}
use Rattle.dp_semantics.proofs.Names.{Some, None, cons_option, eq-eqb, ne_eqb, and-false, cases_eq, Stmt, Stmt-F, Program, Plan, Word, Load, Event, Effect}
use Rattle.dp_semantics.proofs.Names.{site_of, value_of, stage_of, is_checked, effect_by, load_words, load_word, done_word, words_of}
use Rattle.dp_semantics.specs.Words.{cell_of}
use Rattle.dp_net.specs.NetItems.{Item, Said, Net, said_all}
use Rattle.dp_net.specs.Follows.{Says, Others}
use Rattle.dp_lean.specs.Queues.{Told, Did, DidBlock, told_at, told_in, queue_of, effect_told}

pub said_join : (a b : List Word) → said_all (a ++ b) ≡ said_all a ++ said_all b
said_join [] b = refl
said_join (w ∷ a) b = ap (λ (is : List Item). Said w ∷ is) (said_join a b)

told_skip : (y : ℕ) (i : Item) (rest : List Item) → told_at y i ≡ None → told_in y (i ∷ rest) ≡ told_in y rest
told_skip y i rest e = ap (λ (o : Option Told). cons_option o (told_in y rest)) e

told_take : (y : ℕ) (i : Item) (t : Told) (rest : List Item) → told_at y i ≡ Some t → told_in y (i ∷ rest) ≡ t ∷ told_in y rest
told_take y i t rest e = ap (λ (o : Option Told). cons_option o (told_in y rest)) e

-- loads tell nothing of what was done
told_loads : (y site : ℕ) (loads : List Load) (rest : List Item) → told_in y (said_all (load_words site loads) ++ rest) ≡ told_in y rest
told_loads y site [] rest = refl
told_loads y site (l ∷ loads) rest =
    told_skip y (Said (load_word site l)) (said_all (load_words site loads) ++ rest)
    (ap (λ (b : Bool). if b then Some (Did l.cell l.value) else None) (and-false (site == y))) ∙ told_loads y site loads rest

-- the words of a statement of a site
abbrev pub did : Effect → Told
did effect = Did (cell_of effect) (value_of effect)

done_here : (site : ℕ) (effect : Effect) (rest : List Item) → told_in site (Said (done_word site effect) ∷ rest) ≡ did effect ∷ told_in site rest
done_here site effect rest = told_take site (Said (done_word site effect)) (did effect) rest (rw (eq-eqb site site refl) refl)

done_there : (y site : ℕ) (effect : Effect) (rest : List Item) → (site ≡ y → ⊥) → told_in y (Said (done_word site effect) ∷ rest) ≡ told_in y rest
done_there y site effect rest other = told_skip y (Said (done_word site effect)) rest (rw (ne_eqb site y other) refl)

module _ (p : Program) (plan : Plan) where
  words_told : (y : ℕ) (event : Event) (rest : List Item) →
      told_in y (said_all (words_of p plan event) ++ rest) ≡ told_in y (Said (done_word event.site event.effect) ∷ rest)
  words_told y event rest = by (is_checked p plan event.site)
    where
      by : (b : Bool) →
          told_in y (said_all ((if b then load_words event.site event.loads else []) ++ done_word event.site event.effect ∷ []) ++ rest)
          ≡ told_in y (Said (done_word event.site event.effect) ∷ rest)
      by true =
          ap (λ (is : List Item). told_in y (is ++ rest)) (said_join (load_words event.site event.loads) (done_word event.site event.effect ∷ []))
          ∙ ap (told_in y) (append_assoc (said_all (load_words event.site event.loads)) (Said (done_word event.site event.effect) ∷ []) rest)
          ∙ told_loads y event.site event.loads (Said (done_word event.site event.effect) ∷ rest)
      by false = refl

  module _ (h : Stmt-F Stmt) (event : Event) (left next : ℕ → List Item)
      (says : Says p plan h event (left (stage_of p plan (site_of h).0)) (next (stage_of p plan (site_of h).0)))
      (others : Others (stage_of p plan (site_of h).0) left next) where
    abbrev f : ℕ
    f = (site_of h).0

    abbrev u : ℕ
    u = stage_of p plan f

    front_told : (y : ℕ) → told_in y (left u) ≡ told_in y (Said (done_word f event.effect) ∷ next u)
    front_told y = ap (told_in y) says.front ∙ words_told y event (next u)
        ∙ ap (λ (site : ℕ). told_in y (Said (done_word site event.effect) ∷ next u)) says.site

    -- its own queue has what it did in front
    pub queue_here : queue_of p plan left f ≡ did event.effect ∷ queue_of p plan next f
    queue_here = front_told f ∙ done_here f event.effect (next u)

    -- .. and the others are what they were
    pub queue_there : (y : ℕ) → (y ≡ f → ⊥) → queue_of p plan left y ≡ queue_of p plan next y
    queue_there y other = elim (cases_eq (stage_of p plan y) u) [
      | inl same ↦ ap (λ (t : ℕ). told_in y (left t)) same ∙ front_told y ∙ done_there y f event.effect (next u) (λ e. other (sym e))
          ∙ ap (λ (t : ℕ). told_in y (next t)) (sym same)
      | inr differs ↦ ap (told_in y) (sym (others (stage_of p plan y) differs))
    ]

    pub effect_here : effect_told p h (did event.effect) ≡ Some event.effect
    effect_here = ap (λ (site : ℕ). effect_by p h (done_word site event.effect)) (sym says.site) ∙ says.does

  module _ (f : ℕ) (count : ℕ) (stores : List Effect) (left next : ℕ → List Item)
      (front : left (stage_of p plan f) ≡ Net f count stores ∷ next (stage_of p plan f)) (others : Others (stage_of p plan f) left next) where
    pub block_here : queue_of p plan left f ≡ DidBlock stores ∷ queue_of p plan next f
    block_here = ap (told_in f) front ∙ told_take f (Net f count stores) (DidBlock stores) (next (stage_of p plan f)) (rw (eq-eqb f f refl) refl)

    pub block_there : (y : ℕ) → (y ≡ f → ⊥) → queue_of p plan left y ≡ queue_of p plan next y
    block_there y other = elim (cases_eq (stage_of p plan y) (stage_of p plan f)) [
      | inl same ↦ ap (λ (t : ℕ). told_in y (left t)) same ∙ ap (told_in y) front
          ∙ told_skip y (Net f count stores) (next (stage_of p plan f)) (rw (ne_eqb f y (λ e. other (sym e))) refl)
          ∙ ap (λ (t : ℕ). told_in y (next t)) (sym same)
      | inr differs ↦ ap (told_in y) (sym (others (stage_of p plan y) differs))
    ]
