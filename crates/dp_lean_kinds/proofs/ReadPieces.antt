-- Statements of a stage's text whose sites in its lean text are known, wherever they stand: alone, one behind the other, and kept or not.
use Rattle.dp_semantics.proofs.Names.{◌≡◌, refl, sym, ap, ◌∙◌, subst, append_assoc, append-nil, or-false, not, ℕ, ◌==◌, ◌||◌, if◌then◌else◌, Bool, true, false}
use Rattle.dp_semantics.proofs.Names.{List, [], ◌∷◌, ◌++◌, map, flat_map-append, Stmt, Program, Plan, Access, accesses}
use Rattle.dp_plan.specs.Checked.{has_site}
use Rattle.dp_plan.specs.Written.{access_site}
use Rattle.dp_semantics.proofs.Heads.{accesses_all}
use Rattle.dp_net.specs.NetItems.{Marks, is_nil}
use Rattle.dp_net.proofs.Texts.{site_at}
use Rattle.dp_lean.specs.Needed.{is_kept_block}
use Rattle.dp_lean.specs.LeanText.{kept_when, lean}
use Rattle.dp_lean.proofs.LeanLists.{leaned, lean_alone, lean_block, if_kept}
use Rattle.dp_lean.proofs.Once.{has_join}
use Rattle.dp_lean_kinds.specs.steps.Read.{has_number, has_any}

or_join : (a b c : Bool) → ((a || b) || c) ≡ (a || (b || c))
or_join true b c = refl
or_join false b c = refl

pub number_join : (y : ℕ) (a b : List ℕ) → has_number y (a ++ b) ≡ (has_number y a || has_number y b)
number_join y [] b = refl
number_join y (n ∷ a) b = ap (λ c. (n == y) || c) (number_join y a b) ∙ sym (or_join (n == y) (has_number y a) (has_number y b))

pub any_join : (a b : List ℕ) → has_any (a ++ b) ≡ (has_any a || has_any b)
any_join [] b = refl
any_join (n ∷ a) b = refl

pub number_in : (y : ℕ) (all : List Access) → has_site y all ≡ has_number y (map access_site all)
number_in y [] = refl
number_in y (a ∷ all) = ap (λ c. (a.site == y) || c) (number_in y all)

module _ (p : Program) (plan : Plan) (s : ℕ) (m : Marks) where
  -- the site stands in what is left of the statements
  abbrev pub has_in : ℕ → List Stmt → Bool
  has_in y xs = has_site y (accesses_all (leaned p plan m s xs))

  -- something is left of them
  abbrev pub has_left : List Stmt → Bool
  has_left xs = not (is_nil (leaned p plan m s xs))

  -- The sites in what is left of these statements, whatever stands behind them; there are none where nothing is left.
  pub record Piece (zs : List Stmt) (sites : List ℕ) : Type 0 where
    pub reads : (ys : List Stmt) (y : ℕ) → has_in y (zs ++ ys) ≡ (has_number y sites || has_in y ys)
    pub leaves : (ys : List Stmt) → has_left (zs ++ ys) ≡ (has_any sites || has_left ys)

  pub piece_nil : Piece [] []
  piece_nil = record { reads = λ ys y. refl; leaves = λ ys. refl }

  pub piece_as : {zs : List Stmt} {f g : List ℕ} → f ≡ g → Piece zs f → Piece zs g
  piece_as {zs} same one = subst (λ (sites : List ℕ). Piece zs sites) same one

  pub piece_of : {zs ws : List Stmt} {f : List ℕ} → zs ≡ ws → Piece zs f → Piece ws f
  piece_of {zs} {ws} {f} same one = subst (λ (xs : List Stmt). Piece xs f) same one

  pub piece_join : (a b : List Stmt) (f g : List ℕ) → Piece a f → Piece b g → Piece (a ++ b) (f ++ g)
  piece_join a b f g one two = record {
    reads = λ ys y.
        ap (has_in y) (append_assoc a b ys) ∙ one.reads (b ++ ys) y ∙ ap (λ c. has_number y f || c) (two.reads ys y)
        ∙ sym (or_join (has_number y f) (has_number y g) (has_in y ys)) ∙ ap (λ c. c || has_in y ys) (sym (number_join y f g));
    leaves = λ ys.
        ap has_left (append_assoc a b ys) ∙ one.leaves (b ++ ys) ∙ ap (λ c. has_any f || c) (two.leaves ys)
        ∙ sym (or_join (has_any f) (has_any g) (has_left ys)) ∙ ap (λ c. c || has_left ys) (sym (any_join f g));
  }

  pub piece_if : (c : Bool) (a b : List Stmt) (f g : List ℕ) → Piece a f → Piece b g → Piece (if c then a else b) (if c then f else g)
  piece_if true a b f g one two = one
  piece_if false a b f g one two = two

  -- by themselves
  pub piece_alone : {zs : List Stmt} {f : List ℕ} → Piece zs f → (y : ℕ) → has_in y zs ≡ has_number y f
  piece_alone {zs} {f} one y = ap (has_in y) (sym (append-nil zs)) ∙ one.reads [] y ∙ or-false (has_number y f)

  pub piece_has : {zs : List Stmt} {f : List ℕ} → Piece zs f → has_left zs ≡ has_any f
  piece_has {zs} {f} one = ap has_left (sym (append-nil zs)) ∙ one.leaves [] ∙ or-false (has_any f)

  -- a statement outside of blocks
  module _ (x z : Stmt) (sites : List ℕ) (none : m.block_at (site_at x) ≡ []) where
    left : (kept : Bool) → lean p plan m s x ≡ kept_when kept z → (ys : List Stmt) → leaned p plan m s (x ∷ ys) ≡ kept_when kept z ++ leaned p plan m s ys
    left kept is ys = lean_alone p plan m s x ys none ∙ ap (λ zs. zs ++ leaned p plan m s ys) is

    pub piece_stays : (kept : Bool) → lean p plan m s x ≡ kept_when kept z → ((y : ℕ) → has_site y (accesses z) ≡ has_number y sites) → has_any sites ≡ true →
        Piece (x ∷ []) (if kept then sites else [])
    piece_stays true is same some = record {
      reads = λ ys y.
          ap (λ (zs : List Stmt). has_site y (accesses_all zs)) (left true is ys) ∙ has_join y (accesses z) (accesses_all (leaned p plan m s ys))
          ∙ ap (λ c. c || has_in y ys) (same y);
      leaves = λ ys. ap (λ (zs : List Stmt). not (is_nil zs)) (left true is ys) ∙ sym (ap (λ c. c || has_left ys) some);
    }
    piece_stays false is same some = record {
      reads = λ ys y. ap (λ (zs : List Stmt). has_site y (accesses_all zs)) (left false is ys);
      leaves = λ ys. ap (λ (zs : List Stmt). not (is_nil zs)) (left false is ys);
    }

  -- a block, which is kept or not
  module _ (x : Stmt) (b : List Stmt) (is : m.block_at (site_at x) ≡ x ∷ b) (some : has_any (map access_site (accesses_all (x ∷ b))) ≡ true) where
    block_by : (kept : Bool) → ((ys : List Stmt) → leaned p plan m s (x ∷ (b ++ ys)) ≡ if_kept p plan m s kept (x ∷ b) ++ leaned p plan m s ys) →
        Piece (x ∷ b) (if kept then map access_site (accesses_all (x ∷ b)) else [])
    block_by true left = record {
      reads = λ ys y.
          ap (λ (zs : List Stmt). has_site y (accesses_all zs)) (left ys)
          ∙ ap (has_site y) (flat_map-append accesses (x ∷ b) (leaned p plan m s ys)) ∙ has_join y (accesses_all (x ∷ b)) (accesses_all (leaned p plan m s ys))
          ∙ ap (λ c. c || has_in y ys) (number_in y (accesses_all (x ∷ b)));
      leaves = λ ys. ap (λ (zs : List Stmt). not (is_nil zs)) (left ys) ∙ sym (ap (λ c. c || has_left ys) some);
    }
    block_by false left = record {
      reads = λ ys y. ap (λ (zs : List Stmt). has_site y (accesses_all zs)) (left ys);
      leaves = λ ys. ap (λ (zs : List Stmt). not (is_nil zs)) (left ys);
    }

    pub piece_block : Piece (x ∷ b) (if is_kept_block p plan s (x ∷ b) then map access_site (accesses_all (x ∷ b)) else [])
    piece_block = block_by (is_kept_block p plan s (x ∷ b)) (λ ys. lean_block p plan m s x b ys is)
