-- What is left to do after a step, and what of it stands from the next region on.
use Rattle.dp_meaning.proofs.Names.{and_make, and_true, ◌≡◌, refl, sym, ap, ◌∙◌, subst, ℕ, Bool, true, false, not, if◌then◌else◌, List, [], ◌∷◌, ◌++◌, drop, ℤ}
use Rattle.dp_meaning.proofs.Names.{is_zero, Stmt, out-Stmt, Stmt-F, choose, followed, taken_left, behind_region, behind_one, region_number, None, is_plain}
use Rattle.dp_meaning.proofs.Names.{is_inner, inner_all, inner_at, inner_out, inner_plain, plain_all, plain_choose, top_at, is_top, top_fits, next_region}
use Rattle.dp_meaning.proofs.Names.{regions_in_order, all_top, list_all, IsOrdered, part_from, is_any_region, from_region}
use Rattle.dp_meaning.specs.declared.ends.Part.TheVariants as part
use Rattle.dp_tree.specs.declared.Stmt.TheOpen.{If, While, Region, Break}
use Rattle.dp_tree.specs.declared.Stmt.TheVariants.{Region'}
use Rattle.dp_tree.proofs.Heads.{taken}

-- what is behind the first region begins behind it
pub left_behind : (xs : List Stmt) → behind_region xs ≡ drop 1 (from_region xs)
left_behind [] = refl
left_behind (x ∷ xs) = by (out-Stmt x) (left_behind xs)
  where
    by : (h : Stmt-F Stmt) → behind_region xs ≡ drop 1 (from_region xs) → behind_one (region_number h) xs (behind_region xs) ≡ drop 1 (if is_any_region h then x
        ∷ xs else from_region xs)
    by (Region r site cond a) later = refl
    by _ later = later

-- behind statements of a body stands what stood there before
not_region : (h : Stmt-F Stmt) → inner_at h ≡ true → (is_any_region h ≡ false) × (region_number h ≡ None) × (part_from h ≡ part.Plain)
not_region (Region r site cond a) k = absurd (cc)
not_region _ k = (refl, refl, refl)

pub no_region_at : (x : Stmt) → is_inner x ≡ true → (is_any_region (out-Stmt x) ≡ false) × (region_number (out-Stmt x) ≡ None)
    × (part_from (out-Stmt x) ≡ part.Plain)
no_region_at x k = not_region (out-Stmt x) (sym (inner_out x) ∙ k)

pub from_region-append : (xs ys : List Stmt) → inner_all xs ≡ true → from_region (xs ++ ys) ≡ from_region ys
from_region-append [] ys k = refl
from_region-append (x ∷ xs) ys k =
    let r = and_true (is_inner x) (inner_all xs) k in
    ap (λ (b : Bool). if b then x ∷ (xs ++ ys) else from_region (xs ++ ys)) (no_region_at x r.0).0 ∙ from_region-append xs ys r.1

-- ---- what is left of `main`

top_of_plain : (x : Stmt) (r : ℕ) → is_plain x ≡ true → (top_fits r x ≡ true) × (next_region r x ≡ r)
top_of_plain (Region' q site cond i a) r k = absurd (cc)
top_of_plain _ r k = (k, refl)

in_order-append : (r : ℕ) (xs ys : List Stmt) → plain_all xs ≡ true → regions_in_order r ys ≡ true → regions_in_order r (xs ++ ys) ≡ true
in_order-append r [] ys k o = o
in_order-append r (x ∷ xs) ys k o =
    let both = and_true (is_plain x) (plain_all xs) k in
    let top = top_of_plain x r both.0 in
    and_make (top_fits r x) (regions_in_order (next_region r x) (xs ++ ys)) top.0 (subst (λ (q : ℕ). regions_in_order q (xs ++ ys) ≡ true) (sym top.1)
    (in_order-append r xs ys both.1 o))

ordered-append : (xs ys : List Stmt) → plain_all xs ≡ true → IsOrdered ys → IsOrdered (xs ++ ys)
ordered-append xs ys k o = (o.0, in_order-append o.0 xs ys k o.1)

pub ordered_rest : (xs : List Stmt) → IsOrdered xs → IsOrdered (drop 1 xs)
ordered_rest [] o = o
ordered_rest (x ∷ xs) o = (next_region o.0 x, (and_true (top_fits o.0 x) (regions_in_order (next_region o.0 x) xs) o.1).1)

pub ordered_from : (xs : List Stmt) → IsOrdered xs → IsOrdered (from_region xs)
ordered_from [] o = o
ordered_from (x ∷ xs) o = by (is_any_region (out-Stmt x)) (ordered_from xs (ordered_rest (x ∷ xs) o))
  where
    by : (b : Bool) → IsOrdered (from_region xs) → IsOrdered (if b then x ∷ xs else from_region xs)
    by true later = o
    by false later = later

pub ordered_head : (x : Stmt) (xs : List Stmt) → IsOrdered (x ∷ xs) → top_at (out-Stmt x) ≡ true
ordered_head x xs o = (and_true (is_top x) (list_all is_top xs) (all_top o.0 (x ∷ xs) o.1)).0

-- ---- what follows a statement of a body, or one of `main`

-- by this value a region is left
abbrev pub goes_off : Stmt-F Stmt → ℤ → Bool
goes_off (Region r site cond a) z = is_zero z
goes_off h z = taken h z

-- a region's body, and else the statement, is one of a body
abbrev pub fits_at : Stmt-F Stmt → Bool
fits_at (Region r site cond a) = inner_all a
fits_at h = inner_at h

pub inner_fits : (h : Stmt-F Stmt) → inner_at h ≡ true → fits_at h ≡ true
inner_fits (Region r site cond a) k = absurd (cc)
inner_fits _ k = k

pub top_fits_at : (h : Stmt-F Stmt) → top_at h ≡ true → fits_at h ≡ true
top_fits_at (Break site cond) k = refl
top_fits_at _ k = k

module _ (x : Stmt) (rest : List Stmt) (z : ℤ) where
  abbrev From : Stmt-F Stmt → List Stmt
  From h = if is_any_region h then x ∷ rest else from_region rest

  at : (h : Stmt-F Stmt) → out-Stmt x ≡ h → From h ≡ from_region (x ∷ rest)
  at h is = sym (ap From is)

  pub followed_off : (h : Stmt-F Stmt) → out-Stmt x ≡ h → goes_off h z ≡ true → followed x rest h z ≡ drop 1 (from_region (x ∷ rest))
  followed_off (Region r site cond a) is e = ap (λ (b : Bool). if b then rest else a ++ x ∷ rest) e ∙ ap (drop 1) (at (Region r site cond a) is)
  followed_off (Break site cond) is e = taken_left x rest (Break site cond) z e ∙ left_behind rest ∙ ap (drop 1) (at (Break site cond) is)
  followed_off _ is e = absurd (cc)

  looped : (a : List Stmt) → inner_all a ≡ true → from_region rest ≡ from_region (x ∷ rest) → (b : Bool) →
      from_region (if b then rest else a ++ x ∷ rest) ≡ from_region (x ∷ rest)
  looped a k e true = e
  looped a k e false = from_region-append a (x ∷ rest) k

  tried : from_region rest ≡ from_region (x ∷ rest) → (b : Bool) → not b ≡ false → from_region (if b then rest else behind_region rest) ≡ from_region (x ∷ rest)
  tried e true t = e
  tried e false t = absurd (cc)

  pub followed_on : (h : Stmt-F Stmt) → out-Stmt x ≡ h → fits_at h ≡ true → goes_off h z ≡ false → from_region (followed x rest h z) ≡ from_region (x ∷ rest)
  followed_on (If site cond a b) is k e =
      let both = and_true (plain_all a) (plain_all b) k in
      from_region-append (choose z a b) rest (inner_plain (choose z a b) (plain_choose z a b both.0 both.1)) ∙ at (If site cond a b) is
  followed_on (While site cond a) is k e = looped a (inner_plain a k) (at (While site cond a) is) (is_zero z)
  followed_on (Region r site cond a) is k e = ap (λ (b : Bool). from_region (if b then rest else a ++ x ∷ rest)) e ∙ from_region-append a (x ∷ rest) k
  followed_on (Break site cond) is k e = tried (at (Break site cond) is) (is_zero z) e
  followed_on h is k e = at h is

  -- where no region is next, statements of `main` follow
  module _ (o : IsOrdered (x ∷ rest)) where
    around : (a : List Stmt) → plain_all a ≡ true → (b : Bool) → IsOrdered (if b then rest else a ++ x ∷ rest)
    around a k true = ordered_rest (x ∷ rest) o
    around a k false = ordered-append a (x ∷ rest) k o

    pub followed_ordered : (h : Stmt-F Stmt) → top_at h ≡ true → is_any_region h ≡ false → IsOrdered (followed x rest h z)
    followed_ordered (If site cond a b) k e = let both = and_true (plain_all a) (plain_all b) k in
        ordered-append (choose z a b) rest (plain_choose z a b both.0 both.1) (ordered_rest (x ∷ rest) o)
    followed_ordered (While site cond a) k e = around a k (is_zero z)
    followed_ordered (Region r site cond a) k e = absurd (cc)
    followed_ordered (Break site cond) k e = absurd (cc)
    followed_ordered _ k e = ordered_rest (x ∷ rest) o
