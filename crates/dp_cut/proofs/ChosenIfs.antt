-- The outcomes that may be assumed are those of sites that are an `if`, each once, in text order.
use Rattle.std.proofs.Common.{◌≡◌, refl, sym, ap, ◌∙◌, ℕ, ◌<◌, ◌≤◌, ◌^◌, ◌==◌, Bool, true, false, List, [], ◌∷◌, ◌++◌, map, filter, Option, Some, None, inl}
use Rattle.std.proofs.Common.{inr, arith, ne_eqb, eqb-true}
use Rattle.std.proofs.lemmas.Bool.{cases_Bool, true≢false}
use Rattle.dp_tree.specs.declared.Assume.{Assume}
use Rattle.dp_plan.specs.Each.{AscendAbove, Each}
use Rattle.dp_plan.specs.Rules.{assumed_site}
use Rattle.dp_plan.specs.Written.{has}
use Rattle.dp_plan.proofs.Ascent.{above_each, above_less}
use Rattle.dp_plan.proofs.Found.{each_has, has_each, past_other}
use Rattle.dp_profile.specs.declared.SiteCount.{SiteCount}
use Rattle.dp_depend.specs.declared.nodes.Node.{Node}
use Rattle.dp_depend.specs.Edges.{node_site}
use Rattle.dp_depend.specs.Shown.{assume_of, chosen_among, chosen_at, chosen_outcome, counts_at}

-- what is above a number isn't that number
not_below : (low x : ℕ) (ns : List ℕ) → AscendAbove low ns → x ≤ low → has x ns ≡ false
not_below low x ns up le = elim (cases_Bool (has x ns)) [
  | inl t ↦ let lt : low < x = has_each (λ n. low < n) ns x (above_each low ns up) t in absurd (omega (arith, lt, le))
  | inr f ↦ f
]

-- what passes a test ascends as all do, and is so where all are
pub kept_up : (test : Assume → Bool) (low : ℕ) (all : List Assume) → AscendAbove low (map assumed_site all) →
    AscendAbove low (map assumed_site (filter test all))
kept_up test low [] up = tt
kept_up test low (a ∷ rest) up = elim (cases_Bool (test a)) [
  | inl t ↦ rw t (up.0, up.1, kept_up test a.site.0 rest up.2)
  | inr f ↦ rw f (kept_up test low rest (above_less low a.site.0 (map assumed_site rest) (omega (arith, up.0)) up.2))
]

pub kept_each : (R : ℕ → Type 0) (test : Assume → Bool) (all : List Assume) → Each R (map assumed_site all) → Each R (map assumed_site (filter test all))
kept_each R test [] h = tt
kept_each R test (a ∷ rest) h = elim (cases_Bool (test a)) [
  | inl t ↦ rw t (h.0, kept_each R test rest h.1)
  | inr f ↦ rw f (kept_each R test rest h.1)
]

pub kept_left : (test : Assume → Bool) (x : ℕ) (all : List Assume) → has x (map assumed_site all) ≡ false → has x (map assumed_site (filter test all)) ≡ false
kept_left test x all free = elim (cases_Bool (has x (map assumed_site (filter test all)))) [
  | inl t ↦
      let known = kept_each (λ n. has n (map assumed_site all) ≡ true) test all (each_has (map assumed_site all)) in
      absurd (true≢false (sym (has_each (λ n. has n (map assumed_site all) ≡ true) (map assumed_site (filter test all)) x known t) ∙ free))
  | inr f ↦ f
]

-- a site of which each outcome passes is kept
pub kept_site : (test : Assume → Bool) (x : ℕ) (all : List Assume) → ((a : Assume) → a.site.0 ≡ x → test a ≡ true) → has x (map assumed_site all) ≡ true →
    has x (map assumed_site (filter test all)) ≡ true
kept_site test x [] passes e = absurd (cc e)
kept_site test x (a ∷ rest) passes e = elim (cases_Bool (a.site.0 == x)) [
  | inl same ↦ rw (passes a (eqb-true a.site.0 x same)) (rw same refl)
  | inr other ↦
      let later = kept_site test x rest passes (past_other a.site.0 x (map assumed_site rest) other e) in
      elim (cases_Bool (test a)) [
        | inl t ↦ rw t (rw other later)
        | inr f ↦ rw f later
      ]
]

module _ (counts : List SiteCount) (first rate : ℕ) where
  -- at a node nothing is chosen, or an outcome of it, which is an `if`
  data Chosen (u : Node) : Type 0 where
    none : chosen_at counts first rate u ≡ [] → Chosen u
    one : (taken : Bool) → u.is_if ≡ true → chosen_at counts first rate u ≡ record { site = u.site; taken = taken } ∷ [] → Chosen u

  by_outcome : (u : Node) → u.is_if ≡ true → (o : Option Bool) → chosen_outcome rate (counts_at counts first u.site.0) ≡ o → Chosen u
  by_outcome u on None e = none (rw on (ap (assume_of u.site) e))
  by_outcome u on (Some taken) e = one taken on (rw on (ap (assume_of u.site) e))

  chosen : (u : Node) → Chosen u
  chosen u = elim (cases_Bool u.is_if) [
    | inl t ↦ by_outcome u t (chosen_outcome rate (counts_at counts first u.site.0)) refl
    | inr f ↦ none (rw f refl)
  ]

  up_next : (low : ℕ) (u : Node) (more : List Assume) → low < u.site.0 → u.site.0 < 2 ^ 32 → AscendAbove u.site.0 (map assumed_site more) → Chosen u →
      AscendAbove low (map assumed_site (chosen_at counts first rate u ++ more))
  up_next low u more lt small up (none e) = rw e (above_less low u.site.0 (map assumed_site more) (omega (arith, lt)) up)
  up_next low u more lt small up (one taken on e) = rw e (lt, small, up)

  -- they ascend as the sites do
  pub chosen_up : (low : ℕ) (all : List Node) → AscendAbove low (map node_site all) → AscendAbove low (map assumed_site (chosen_among counts first rate all))
  chosen_up low [] up = tt
  chosen_up low (u ∷ rest) up = up_next low u (chosen_among counts first rate rest) up.0 up.1 (chosen_up u.site.0 rest up.2) (chosen u)

  each_next : (R : ℕ → Type 0) (u : Node) (more : List Assume) → (u.is_if ≡ true → R u.site.0) → Each R (map assumed_site more) → Chosen u →
      Each R (map assumed_site (chosen_at counts first rate u ++ more))
  each_next R u more is h (none e) = rw e h
  each_next R u more is h (one taken on e) = rw e (is on, h)

  -- what is so of each `if` is so of them
  pub chosen_each : (R : ℕ → Type 0) (all : List Node) → Each (λ (u : Node). u.is_if ≡ true → R u.site.0) all →
      Each R (map assumed_site (chosen_among counts first rate all))
  chosen_each R [] h = tt
  chosen_each R (u ∷ rest) h = each_next R u (chosen_among counts first rate rest) h.0 (chosen_each R rest h.1) (chosen u)

  -- the site isn't one of these, where it is no `if`
  abbrev Left : List Assume → Node → Type 0
  Left some u = u.is_if ≡ false → has u.site.0 (map assumed_site some) ≡ false

  here_not : (u : Node) (more : List Assume) → has u.site.0 (map assumed_site more) ≡ false → Chosen u → Left (chosen_at counts first rate u ++ more) u
  here_not u more free (none e) off = rw e free
  here_not u more free (one taken on e) off = let clash : true ≡ false = sym on ∙ off in absurd (cc clash)

  one_not : (u v : Node) (more : List Assume) → u.site.0 < v.site.0 → has v.site.0 (map assumed_site more) ≡ false → Chosen u →
      has v.site.0 (map assumed_site (chosen_at counts first rate u ++ more)) ≡ false
  one_not u v more lt free (none e) = rw e free
  one_not u v more lt free (one taken on e) = rw e (rw (ne_eqb u.site.0 v.site.0 (λ same. omega (arith, same, lt))) free)

  later_not : (u : Node) (more : List Assume) (rest : List Node) → Each (λ n. u.site.0 < n) (map node_site rest) → Each (Left more) rest →
      Each (Left (chosen_at counts first rate u ++ more)) rest
  later_not u more [] above h = tt
  later_not u more (v ∷ rest) above h = (λ off. one_not u v more above.0 (h.0 off) (chosen u), later_not u more rest above.1 h.1)

  -- no other site has one
  pub others_left : (low : ℕ) (all : List Node) → AscendAbove low (map node_site all) →
      Each (λ (u : Node). u.is_if ≡ false → has u.site.0 (map assumed_site (chosen_among counts first rate all)) ≡ false) all
  others_left low [] up = tt
  others_left low (u ∷ rest) up =
      let more = chosen_among counts first rate rest in
      let behind = not_below u.site.0 u.site.0 (map assumed_site more) (chosen_up u.site.0 rest up.2) (omega arith) in
      (here_not u more behind (chosen u), later_not u more rest (above_each u.site.0 (map node_site rest) up.2) (others_left u.site.0 rest up.2))
