-- The names of a call while its text is expanded: each new one stands for the next variable.
use Rattle.std.proofs.Common.{◌≡◌, ◌⊎◌, inl, inr, refl, sym, ap, ◌∙◌, subst, ℕ, ◌<◌, ◌≤◌, ◌==◌, Bool, true, false, if◌then◌else◌, List, [], ◌∷◌, length, Option}
use Rattle.std.proofs.Common.{Some, None, slice_get, arith, eqb-true, eq-eqb}
use Rattle.std.proofs.lemmas.Option.{same_Some, slice_get_within}
use Rattle.dp_base.specs.declared.VarId.{VarId}
use Rattle.dp_room.proofs.ListLemmas.{at_index}
use Rattle.dp_tree.specs.declared.VarInfo.{VarInfo}
use Rattle.dp_tree.specs.declared.Program.{Program}
use Rattle.dp_tree.specs.Scoping.{sees}
use Rattle.dp_calls.specs.Renaming.{Renamed, named_in}
use Rattle.dp_calls.specs.Tables.{Tables, with_local}
use Rattle.dp_calls.proofs.Relation.{file_count}
use Rattle.dp_calls.proofs.Tabled.{Grows, moved, local_vars, local_length, grows_local, get_last}

-- a variable that stands for another one
abbrev pub names_as : ℕ → ℕ → Renamed
names_as x y = record { source = x; target = y }

named_by : (a b : ℕ) (names : List Renamed) (x y : ℕ) (t : Bool) → (a == x) ≡ t → (if t then Some b else named_in names x) ≡ Some y → ((a ≡ x) × (b ≡ y))
    ⊎ (named_in names x ≡ Some y)
named_by a b names x y true is e = inl (eqb-true a x is, same_Some b y e)
named_by a b names x y false is e = inr e

pub named_cons : (a b : ℕ) (names : List Renamed) (x y : ℕ) → named_in (names_as a b ∷ names) x ≡ Some y → ((a ≡ x) × (b ≡ y)) ⊎ (named_in names x ≡ Some y)
named_cons a b names x y e = named_by a b names x y (a == x) refl e

pub named_new : (a b : ℕ) (names : List Renamed) → named_in (names_as a b ∷ names) a ≡ Some b
named_new a b names = ap (λ (t : Bool). if t then Some b else named_in names a) (eq-eqb a a refl)

old_by : (a b : ℕ) (names : List Renamed) (x y : ℕ) (t : Bool) → (a == x) ≡ t → named_in names a ≡ None → named_in names x ≡ Some y →
    (if t then Some b else named_in names x) ≡ Some y
old_by a b names x y true is free e =
    let clash : ◌≡◌ {A = Option ℕ} None (Some y) = sym free ∙ ap (named_in names) (eqb-true a x is) ∙ e in absurd (cc clash)
old_by a b names x y false is free e = e

pub named_old : (a b : ℕ) (names : List Renamed) (x y : ℕ) → named_in names a ≡ None → named_in names x ≡ Some y → named_in (names_as a b ∷ names) x ≡ Some y
named_old a b names x y free e = old_by a b names x y (a == x) refl free e

-- names that were there stay, and the new ones stand for variables from number n on
pub record Steps (before : List Renamed) (n : ℕ) (after : List Renamed) : Type 0 where
  pub stable : (x y : ℕ) → named_in before x ≡ Some y → named_in after x ≡ Some y
  pub later : (x y : ℕ) → named_in after x ≡ Some y → (named_in before x ≡ Some y) ⊎ (n ≤ y)

pub steps_not : (names : List Renamed) (n : ℕ) → Steps names n names
steps_not names n = record { stable = λ x y at. at; later = λ x y at. inl at }

pub steps_on : {a b c : List Renamed} {n m : ℕ} → n ≤ m → Steps a n b → Steps b m c → Steps a n c
steps_on less one other = record {
  stable = λ x y at. other.stable x y (one.stable x y at);
  later = λ x y at. elim (other.later x y at) [ inl before ↦ one.later x y before | inr above ↦ inr (omega (arith, less, above)) ];
}

pub steps_one : (names : List Renamed) (x n : ℕ) → named_in names x ≡ None → Steps names n (names_as x n ∷ names)
steps_one names x n free = record {
  stable = λ a y at. named_old x n names a y free at;
  later = λ a y at. elim (named_cons x n names a y at) [ inl both ↦ inr (omega (arith, both.1)) | inr before ↦ inl before ];
}

-- each visible variable is a file-scope one or has its name
abbrev pub Seen : Program → List ℕ → List Renamed → Type 0
Seen p visible names = (x : VarId) → sees visible x ≡ true → (x.0 < file_count p) ⊎ ((y : ℕ) × (named_in names x.0 ≡ Some y))

pub seen_steps : (p : Program) (visible : List ℕ) {a b : List Renamed} {n : ℕ} → Steps a n b → Seen p visible a → Seen p visible b
seen_steps p visible steps seen x at = elim (seen x at) [ inl file ↦ inl file | inr named ↦ inr (named.0, steps.stable x.0 named.0 named.1) ]

module _ (p : Program) (linked : Option VarInfo → Option VarInfo → Type 0) (low : ℕ) where
  -- the names stand for locals, each for its own, by variables from `low` on
  pub record NamesOk (names : List Renamed) (t : Tables) : Type 0 where
    pub source : (x y : ℕ) → named_in names x ≡ Some y → (file_count p ≤ x) × (x < length p.vars)
    pub target : (x y : ℕ) → named_in names x ≡ Some y → (low ≤ y) × (y < length t.vars)
    pub apart : (x z y : ℕ) → named_in names x ≡ Some y → named_in names z ≡ Some y → x ≡ z
    pub link : (x y : ℕ) → named_in names x ≡ Some y → linked (slice_get p.vars x) (slice_get t.vars y)
    pub begun : low ≤ length t.vars

  pub names_grow : {names : List Renamed} {t u : Tables} → Grows t u → NamesOk names t → NamesOk names u
  names_grow {names = names} {t = t} {u = u} grows ok = record {
    source = ok.source;
    target = λ x y at. (let w = ok.target x y at in (w.0, omega (arith, w.1, grows.long)));
    apart = ok.apart;
    link = λ x y at.
        (let there = at_index t.vars y (ok.target x y at).1 in
        let same : slice_get t.vars y ≡ slice_get u.vars y = there.1 ∙ sym (grows.vars y there.0 there.1) in
        subst (λ (o : Option VarInfo). linked (slice_get p.vars x) o) same (ok.link x y at));
    begun = omega (arith, ok.begun, grows.long);
  }

  -- no name yet
  pub names_none : (t : Tables) → low ≤ length t.vars → NamesOk [] t
  names_none t begun =
      record {
        source = λ x y at. absurd (cc at);
        target = λ x y at. absurd (cc at);
        apart = λ x z y at there. absurd (cc at);
        link = λ x y at. absurd (cc
            at);
        begun = begun;
      }

  -- one more
  pub names_local : (r x : ℕ) (names : List Renamed) (t : Tables) (info : VarInfo) → slice_get p.vars x ≡ Some info → file_count p ≤ x →
      linked (Some info) (Some (moved info t.cells r)) → named_in names x ≡ None →
      NamesOk names t → NamesOk (names_as x (length t.vars) ∷ names) (with_local p r x t)
  names_local r x names t info at behind link free ok =
      let long = local_length p r x t info at in let old = names_grow (grows_local p r x t) ok in
      let entry : slice_get (with_local p r x t).vars (length t.vars) ≡ Some (moved info t.cells r) =
      ap (λ (vs : List VarInfo). slice_get vs (length t.vars)) (local_vars p r x t info at) ∙ get_last t.vars (moved info t.cells r) in
      record {
        source = λ a y named. elim (named_cons x (length t.vars) names a y named) [
          | inl both ↦ (let within : x < length p.vars = slice_get_within p.vars x info at in (omega (arith, behind, both.0), omega (arith, within, both.0)))
          | inr before ↦ ok.source a y before
        ];
        target = λ a y named. elim (named_cons x (length t.vars) names a y named) [
          | inl both ↦ (omega (arith, ok.begun, both.1), omega (arith, long, both.1))
          | inr before ↦ old.target a y before
        ];
        apart = λ a b y one other. elim (named_cons x (length t.vars) names a y one) [
          | inl both ↦ elim (named_cons x (length t.vars) names b y other) [
            | inl also ↦ sym both.0 ∙ also.0
            | inr before ↦ (let less = (ok.target b y before).1 in absurd (omega (arith, both.1, less)))
          ]
          | inr before ↦ elim (named_cons x (length t.vars) names b y other) [
            | inl also ↦ (let less = (ok.target a y before).1 in absurd (omega (arith, also.1, less)))
            | inr there ↦ ok.apart a b y before there
          ]
        ];
        link = λ a y named. elim (named_cons x (length t.vars) names a y named) [
          | inl both ↦ subst (λ (n : ℕ). linked (slice_get p.vars n) (slice_get (with_local p r x t).vars y)) both.0
              (subst (λ (n : ℕ). linked (slice_get p.vars x) (slice_get (with_local p r x t).vars n)) both.1
              (subst (λ (o : Option VarInfo). linked o (slice_get (with_local p r x t).vars (length t.vars))) (sym at)
              (subst (λ (o : Option VarInfo). linked (Some info) o) (sym entry) link)))
          | inr before ↦ old.link a y before
        ];
        begun = old.begun;
      }
