-- Statements of a region's body and of the top of `main`, by their heads.
use Rattle.std.proofs.Common.{◌≡◌, refl, sym, ap, ◌∙◌, ℕ, Bool, true, false, not, ◌&&◌, ◌==◌, if◌then◌else◌, List, [], ◌∷◌, ◌++◌, ℤ, Option, None}
use Rattle.std.specs.List.{list_all}
use Rattle.std.proofs.lemmas.List.Folds.{list_all-append}
use Rattle.dp_base.specs.Arithmetic.{is_zero}
use Rattle.dp_tree.specs.declared.Stmt.{Stmt, out-Stmt, roll-Stmt, roll-out-Stmt}
use Rattle.dp_tree.specs.declared.Stmt.TheViews.{rolls-Assign, rolls-Store, rolls-Print, rolls-If, rolls-While, rolls-Region, rolls-Break, rolls-Call}
use Rattle.dp_tree.specs.declared.Stmt.TheOpen.{Stmt-F, Assign, Store, Print, If, While, Region, Break, Call}
use Rattle.dp_tree.specs.Step.{choose, followed, behind_region, behind_one, region_number}
use Rattle.dp_tree.specs.Numbering.{is_plain, is_plain_at, is_plain_in, is_inner, is_inner_in, top_fits, next_region, regions_in_order}
use Rattle.dp_tree.proofs.Heads.{everywhere_hidden, opened_statement, and_true, and_make, taken}

abbrev pub hidden_plain : List Stmt → Bool
hidden_plain xs = is_plain_in (Rattle.dp_tree.specs.declared.Stmt.TheBlock.hidden-the_row-Stmt-0 xs)

abbrev pub plain_all : List Stmt → Bool
plain_all xs = list_all is_plain xs

pub plain_hidden : (xs : List Stmt) → hidden_plain xs ≡ plain_all xs
plain_hidden xs = everywhere_hidden is_plain_at xs

abbrev pub plain_at : Stmt-F Stmt → Bool
plain_at (If site cond a b) = plain_all a && plain_all b
plain_at (While site cond a) = plain_all a
plain_at (Region q site cond a) = false
plain_at (Break site cond) = false
plain_at _ = true

plain_roll : (h : Stmt-F Stmt) → is_plain (roll-Stmt h) ≡ plain_at h
unfolding opened_statement
plain_roll (Assign site x e) = ap is_plain (rolls-Assign site x e)
plain_roll (Store site x index e) = ap is_plain (rolls-Store site x index e)
plain_roll (Print site e) = ap is_plain (rolls-Print site e)
plain_roll (If site cond a b) = ap is_plain (rolls-If site cond a b) ∙ ap (λ (u : Bool). u && hidden_plain b) (plain_hidden a)
    ∙ ap (λ (u : Bool). plain_all a && u) (plain_hidden b)
plain_roll (While site cond a) = ap is_plain (rolls-While site cond a) ∙ plain_hidden a
plain_roll (Region q site cond a) = ap is_plain (rolls-Region q site cond a)
plain_roll (Break site cond) = ap is_plain (rolls-Break site cond)
plain_roll (Call f line args) = ap is_plain (rolls-Call f line args)

pub plain_choose : (z : ℤ) (a b : List Stmt) → plain_all a ≡ true → plain_all b ≡ true → plain_all (choose z a b) ≡ true
plain_choose z a b h k = by (is_zero z)
  where
    by : (t : Bool) → plain_all (if t then b else a) ≡ true
    by true = k
    by false = h

-- Statements of a region's body: breaks, and plain ones.
abbrev pub hidden_inner : List Stmt → Bool
hidden_inner xs = is_inner_in (Rattle.dp_tree.specs.declared.Stmt.TheBlock.hidden-the_row-Stmt-0 xs)

abbrev pub inner_all : List Stmt → Bool
inner_all xs = list_all is_inner xs

pub inner_hidden : (xs : List Stmt) → hidden_inner xs ≡ inner_all xs
unfolding opened_statement
inner_hidden [] = refl
inner_hidden (x ∷ xs) = ap (λ (b : Bool). is_inner x && b) (inner_hidden xs)

abbrev pub inner_at : Stmt-F Stmt → Bool
inner_at (Break site cond) = true
inner_at h = plain_at h

inner_roll : (h : Stmt-F Stmt) → is_inner (roll-Stmt h) ≡ inner_at h
unfolding opened_statement
inner_roll (Assign site x e) = ap is_inner (rolls-Assign site x e)
inner_roll (Store site x index e) = ap is_inner (rolls-Store site x index e)
inner_roll (Print site e) = ap is_inner (rolls-Print site e)
inner_roll (If site cond a b) = ap is_inner (rolls-If site cond a b) ∙ sym (ap is_plain (rolls-If site cond a b)) ∙ plain_roll (If site cond a b)
inner_roll (While site cond a) = ap is_inner (rolls-While site cond a) ∙ sym (ap is_plain (rolls-While site cond a)) ∙ plain_roll (While site cond a)
inner_roll (Region q site cond a) = ap is_inner (rolls-Region q site cond a)
inner_roll (Break site cond) = ap is_inner (rolls-Break site cond)
inner_roll (Call f line args) = ap is_inner (rolls-Call f line args)

pub inner_out : (x : Stmt) → is_inner x ≡ inner_at (out-Stmt x)
inner_out x = ap is_inner (sym (roll-out-Stmt x)) ∙ inner_roll (out-Stmt x)

inner_from : (h : Stmt-F Stmt) → plain_at h ≡ true → inner_at h ≡ true
inner_from (Break site cond) w = refl
inner_from h w = w

pub inner_plain : (xs : List Stmt) → plain_all xs ≡ true → inner_all xs ≡ true
inner_plain [] w = refl
inner_plain (x ∷ xs) w =
    let both = and_true (is_plain x) (plain_all xs) w in
    and_make (is_inner x) (inner_all xs) (inner_out x ∙ inner_from (out-Stmt x) (sym (ap is_plain (sym (roll-out-Stmt x)) ∙ plain_roll (out-Stmt x)) ∙ both.0))
    (inner_plain xs both.1)

pub inner_join : (a b : List Stmt) → inner_all a ≡ true → inner_all b ≡ true → inner_all (a ++ b) ≡ true
inner_join a b h k = list_all-append is_inner a b ∙ and_make (inner_all a) (inner_all b) h k

-- no region is among them
pub no_number : (h : Stmt-F Stmt) → inner_at h ≡ true → region_number h ≡ None
no_number (Region q site cond a) w = absurd (cc)
no_number _ w = refl

pub inner_left : (xs behind : List Stmt) → inner_all xs ≡ true → behind_region (xs ++ behind) ≡ behind_region behind
inner_left [] behind w = refl
inner_left (x ∷ xs) behind w =
    let both = and_true (is_inner x) (inner_all xs) w in
    ap (λ (o : Option ℕ). behind_one o (xs ++ behind) (behind_region (xs ++ behind))) (no_number (out-Stmt x) (sym (inner_out x) ∙ both.0))
    ∙ inner_left xs behind both.1

-- what follows such a statement among such ones is such, unless it leaves them
pub inner_followed : (x : Stmt) (rest : List Stmt) (h : Stmt-F Stmt) (z : ℤ) → taken h z ≡ false → is_inner x ≡ true → inner_at h ≡ true →
    inner_all rest ≡ true → inner_all (followed x rest h z) ≡ true
inner_followed x rest (If site cond a b) z t w h k =
    let both = and_true (plain_all a) (plain_all b) h in inner_join (choose z a b) rest (inner_plain (choose z a b) (plain_choose z a b both.0 both.1)) k
inner_followed x rest (While site cond a) z t w h k = by (is_zero z)
  where
    by : (b : Bool) → inner_all (if b then rest else a ++ x ∷ rest) ≡ true
    by true = k
    by false = inner_join a (x ∷ rest) (inner_plain a h) (and_make (is_inner x) (inner_all rest) w k)
inner_followed x rest (Region q site cond a) z t w h k = absurd (cc)
inner_followed x rest (Break site cond) z t w h k = by (is_zero z) t
  where
    by : (b : Bool) → not b ≡ false → inner_all (if b then rest else behind_region rest) ≡ true
    by true t = k
    by false t = absurd (cc)
inner_followed x rest _ z t w h k = k

-- a statement at the top of `main`: a region with such a body, or a plain one
abbrev pub top_at : Stmt-F Stmt → Bool
top_at (Region q site cond a) = inner_all a
top_at h = plain_at h

abbrev pub is_top : Stmt → Bool
is_top x = top_at (out-Stmt x)

top_roll : (r : ℕ) (h : Stmt-F Stmt) → top_fits r (roll-Stmt h) ≡ true → top_at h ≡ true
unfolding opened_statement
top_roll r (If site cond a b) w =
    sym (plain_roll (If site cond a b)) ∙ ap is_plain (rolls-If site cond a b) ∙ sym (ap (top_fits r) (rolls-If site cond a b)) ∙ w
top_roll r (While site cond a) w =
    sym (plain_roll (While site cond a)) ∙ ap is_plain (rolls-While site cond a) ∙ sym (ap (top_fits r) (rolls-While site cond a)) ∙ w
top_roll r (Region q site cond a) w = sym (inner_hidden a) ∙ (and_true (q == r) (hidden_inner a) (sym (ap (top_fits r) (rolls-Region q site cond a)) ∙ w)).1
top_roll r (Break site cond) w = sym (ap (top_fits r) (rolls-Break site cond)) ∙ w
top_roll r _ w = refl

top_out : (r : ℕ) (x : Stmt) → top_fits r x ≡ true → is_top x ≡ true
top_out r x w = top_roll r (out-Stmt x) (ap (top_fits r) (roll-out-Stmt x) ∙ w)

pub all_top : (r : ℕ) (xs : List Stmt) → regions_in_order r xs ≡ true → list_all is_top xs ≡ true
all_top r [] w = refl
all_top r (x ∷ xs) w = let both = and_true (top_fits r x) (regions_in_order (next_region r x) xs) w in
    and_make (is_top x) (list_all is_top xs) (top_out r x both.0) (all_top (next_region r x) xs both.1)
