-- Inputs that are read one after the other: one more, one that is refused, and one that couldn't be read.
use Rattle.std.proofs.Common.{◌≡◌, ◌∙◌, refl, sym, ap, subst, ℕ, suc, ◌+◌, ◌<◌, ◌≤◌, arith, add-one, List, [], ◌∷◌, ◌++◌, length, get_or, take, drop, drop-cons}
use Rattle.std.proofs.Common.{take_all, ℤ, Some, Result, Ok, Err, IfOk}
use Rattle.std.proofs.lemmas.Grind.{take_at_read}
use Rattle.std.proofs.lemmas.List.{length-take, take-append-drop}
use Rattle.std.specs.Option.{option_map}
use Rattle.dp_room.specs.declared.NoMemory.{NoMemory}
use Rattle.dp_refusal.specs.declared.refusal.Refusal.{Refusal}
use Rattle.dp_refusal.specs.declared.role.Role.TheVariants as role
use Rattle.dp_load.specs.declared.batch.Listed.TheVariants as listed
use Rattle.dp_load.specs.declared.load.Loaded.{Loaded}
use Rattle.dp_load.specs.declared.load.Loaded.TheVariants.{Failed, Refused}
use Rattle.dp_load.specs.Lists.{ReadsListed, in_list}
use Rattle.dp_load.specs.Loading.{FaultsAfterLoad, GivesLoaded, Loads, names_after}
use Rattle.dp_load.specs.Roles.{Contents, ReadsInput}
use Rattle.dp_load.specs.Texts.{FailedNames, with_failed_name}
use Rattle.dp_load.specs.steps.Each.{LoadsEach, OneUnfit, OneUnread}
use Rattle.dp_load.proofs.TextsLemmas.{gives}
use Rattle.dp_load.specs.Then.{EachInTurn, LaterRefused, NoneLeft, OneMore, OneRefused}

module _ {N X E : Type 0} {R : ℕ → N → Result X E → Type 0} where
  -- one more behind others
  one_behind : {n : ℕ} {front : List N} {o : Result (List X) E} (xs : List X) → EachInTurn R n front o → o ≡ Ok xs → (number : ℕ) → number ≡ n + length front →
      (name : N) (x : X) → R number name (Ok x) → EachInTurn R n (front ++ name ∷ []) (Ok (xs ++ x ∷ []))
  one_behind xs (NoneLeft n) e number at name x r =
      let none : [] ≡ xs = cc e in
      let same : number ≡ n = omega (arith, at) in
      subst (λ (ys : List X). EachInTurn R n (name ∷ []) (Ok (ys ++ x ∷ []))) none
      (OneMore n name [] x [] (subst (λ (k : ℕ). R k name (Ok x)) same r) (NoneLeft (suc n)))
  one_behind xs (OneMore n first rest y ys h later) e number at name x r =
      let all : y ∷ ys ≡ xs = cc e in
      let next : number ≡ suc n + length rest = omega (arith, at) in
      subst (λ (zs : List X). EachInTurn R n (first ∷ rest ++ name ∷ []) (Ok (zs ++ x ∷ []))) all (OneMore n first (rest ++ name ∷ []) y (ys ++ x ∷ []) h
      (one_behind ys later refl number next name x r))
  one_behind xs (OneRefused n first rest refusal h) e number at name x r = absurd (cc e)
  one_behind xs (LaterRefused n first rest y refusal h later) e number at name x r = absurd (cc e)

  -- one that is refused behind others
  refused_behind : {n : ℕ} {front : List N} {o : Result (List X) E} (xs : List X) → EachInTurn R n front o → o ≡ Ok xs → (number : ℕ) →
      number ≡ n + length front → (name : N) (behind : List N) (refusal : E) → R number name (Err refusal) →
      EachInTurn R n (front ++ name ∷ behind) (Err refusal)
  refused_behind xs (NoneLeft n) e number at name behind refusal r =
      let same : number ≡ n = omega (arith, at) in
      OneRefused n name behind refusal (subst (λ (k : ℕ). R k name (Err refusal)) same r)
  refused_behind xs (OneMore n first rest y ys h later) e number at name behind refusal r =
      let next : number ≡ suc n + length rest = omega (arith, at) in
      LaterRefused n first (rest ++ name ∷ behind) y refusal h (refused_behind ys later refl number next name behind refusal r)
  refused_behind xs (OneRefused n first rest other h) e number at name behind refusal r = absurd (cc e)
  refused_behind xs (LaterRefused n first rest y other h later) e number at name behind refusal r = absurd (cc e)

-- a list at one of its places
pub parted : {N : Type 0} (names : List N) (i : ℕ) (name : N) → i < length names → name ≡ get_or names i name → names ≡ take i names ++ name
    ∷ drop (i + 1) names
parted {N} names i name lt is =
    let rest : drop i names ≡ name ∷ drop (i + 1) names = rw add-one (drop-cons names i name lt ∙ ap (λ (y : N). y ∷ drop (suc i) names) (sym is)) in
    sym (take-append-drop i names) ∙ ap (λ (ys : List N). take i names ++ ys) rest

taken_more : {N : Type 0} (names : List N) (i : ℕ) (name : N) → i < length names → name ≡ get_or names i name → take (i + 1) names ≡ take i names ++ name ∷ []
taken_more {N} names i name lt is = (take_at_read names i name lt).1 ∙ ap (λ (y : N). take i names ++ y ∷ []) (sym is)

module _ (contents : Contents) (names : List (List ℕ)) (i : ℕ) (inputs : List (List ℤ)) where
  abbrev pub ReadSoFar : Type 0
  ReadSoFar = EachInTurn (ReadsListed contents) 1 (take i names) (Ok inputs)

  module _ (name : List ℕ) (lt : i < length names) (is : name ≡ get_or names i name) (read : ReadSoFar) where
    number_is : i + 1 ≡ 1 + length (take i names)
    number_is = let size : length (take i names) ≡ i = simp length-take (omega (arith, lt)) in omega (arith, size)

    pub more_read : (numbers : List ℤ) → ReadsInput contents name (Ok numbers) → EachInTurn (ReadsListed contents) 1 (take (i + 1) names)
        (Ok (inputs ++ numbers ∷ []))
    more_read numbers h =
        let here : ReadsListed contents (i + 1) name (Ok numbers) = record { alone = Ok numbers; reads = h; is = refl } in
        subst (λ (front : List (List ℕ)). EachInTurn (ReadsListed contents) 1 front (Ok (inputs ++ numbers ∷ []))) (sym (taken_more names i name lt is))
        (one_behind inputs read refl (i + 1) number_is name numbers here)

    pub unfit : (alone refusal : Refusal) → ReadsInput contents name (Err alone) → in_list (i + 1) (Err alone) ≡ Err refusal →
        EachInTurn (ReadsListed contents) 1 names (Err refusal)
    unfit alone refusal h told =
        let here : ReadsListed contents (i + 1) name (Err refusal) = record { alone = Err alone; reads = h; is = sym told } in
        subst (λ (all : List (List ℕ)). EachInTurn (ReadsListed contents) 1 all (Err refusal)) (sym (parted names i name lt is))
        (refused_behind inputs read refl (i + 1) number_is name (drop (i + 1) names) refusal here)

pub none_read : (contents : Contents) (names : List (List ℕ)) (inputs : List (List ℤ)) → inputs ≡ [] → ReadSoFar contents names 0 inputs
none_read contents names inputs e = subst (λ (xs : List (List ℤ)). EachInTurn (ReadsListed contents) 1 (take 0 names) (Ok xs)) (sym e)
    (subst (λ (ns : List (List ℕ)). EachInTurn (ReadsListed contents) 1 ns (Ok [])) (none_taken names) (NoneLeft 1))
  where
    none_taken : (ns : List (List ℕ)) → [] ≡ take 0 ns
    none_taken [] = refl
    none_taken (n ∷ ns) = refl

pub whole_read : (contents : Contents) (names : List (List ℕ)) (i : ℕ) (inputs : List (List ℤ)) → length names ≤ i → ReadSoFar contents names i inputs →
    EachInTurn (ReadsListed contents) 1 names (Ok inputs)
whole_read contents names i inputs end read = subst (λ (ns : List (List ℕ)). EachInTurn (ReadsListed contents) 1 ns (Ok inputs)) (take_all i names end) read

-- ---- what one load of an input leaves, from the loop's start on

pub step_gives : (contents held : Contents) (name other : List ℕ) (faults start after : ℕ) (failed begun fails : FailedNames) → held ≡ contents → other ≡ name →
    start ≡ faults → begun ≡ failed → (r : Result (Loaded (List ℤ)) NoMemory) →
    IfOk r (Loads (ReadsInput held other)) → FaultsAfterLoad r start after → fails ≡ option_map (names_after r other) begun →
    IfOk r (GivesLoaded (ReadsInput contents name) (Some name) faults after failed fails)
step_gives contents held name other faults start after failed begun fails holds same count told r h f e =
    let there : IfOk r (GivesLoaded (ReadsInput held other) (Some other) start after begun fails) = gives (ReadsInput held other) (ReadsInput held other)
    (λ o k. k) other start after begun fails r h f e in
    let names : IfOk r (GivesLoaded (ReadsInput held other) (Some other) start after failed fails) = subst
    (λ (k : FailedNames). IfOk r (GivesLoaded (ReadsInput held other) (Some other) start after k fails)) told there in
    let counts : IfOk r (GivesLoaded (ReadsInput held other) (Some other) faults after failed fails) = subst
    (λ (k : ℕ). IfOk r (GivesLoaded (ReadsInput held other) (Some other) k after failed fails)) count names in
    let holds_it : IfOk r (GivesLoaded (ReadsInput contents other) (Some other) faults after failed fails) = subst
    (λ (k : Contents). IfOk r (GivesLoaded (ReadsInput k other) (Some other) faults after failed fails)) holds counts in
    subst (λ (n : List ℕ). IfOk r (GivesLoaded (ReadsInput contents n) (Some n) faults after failed fails)) same holds_it

module _ (contents : Contents) (names : List (List ℕ)) (i : ℕ) (inputs : List (List ℤ)) (name : List ℕ) (lt : i < length names)
    (is : name ≡ get_or names i name) (read : ReadSoFar contents names i inputs) (faults after : ℕ) (failed fails : FailedNames) where
  abbrev InputGives : Loaded (List ℤ) → Type 0
  InputGives = GivesLoaded (ReadsInput contents name) (Some name) faults after failed fails

  pub one_unfit : (alone refusal : Refusal) → InputGives (Refused alone) → in_list (i + 1) (Err alone) ≡ Err refusal →
      LoadsEach contents names faults after failed fails (listed.Refused refusal)
  one_unfit alone refusal g told = OneUnfit refusal (unfit contents names i inputs name lt is read alone refusal g.0 told) g.1 g.2

  pub one_unread : InputGives Failed → LoadsEach contents names faults after failed fails (listed.Failed role.Input)
  one_unread g =
      let same : name ≡ g.0 = cc g.1 in
      OneUnread (take i names) (drop (i + 1) names) name inputs (parted names i name lt is) read g.2 (g.3
      ∙ ap (λ (n : List ℕ). with_failed_name n failed) (sym same))
