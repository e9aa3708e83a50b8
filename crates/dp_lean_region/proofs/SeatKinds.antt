-- What is kept of each access of a region: by what it stores, and whether a block begins there.
use Rattle.dp_semantics.proofs.Names.{◌≡◌, ◌++◌, refl, sym, ap, ◌∙◌, subst, arith, map-append, ℕ, zero, suc, ◌+◌, ◌-◌, ◌&&◌, ◌==◌, if◌then◌else◌, Bool, true}
use Rattle.dp_semantics.proofs.Names.{not, List, [], ◌∷◌, map, slice_get, get_or, Option, Some, None, flat_map, Stmt, Program, Plan, Access, accesses, stage_of}
use Rattle.dp_semantics.proofs.Names.{first_site, region_statement, region_accesses, fits_plan, eq-eqb}
use Rattle.std.proofs.lemmas.Option.{slice_get-map}
use Rattle.dp_tree.specs.declared.Stmt.TheVariants as tree
use Rattle.dp_tree.specs.Inlined.{IsInlined}
use Rattle.dp_tree.specs.Statements.{asked}
use Rattle.dp_tree.proofs.Asked.{asked_both}
use Rattle.dp_plan.specs.Access.{access_at}
use Rattle.dp_plan.specs.Written.{access_site}
use Rattle.dp_plan.proofs.Ascent.{Ascends}
use Rattle.dp_semantics.proofs.Each.{Each, each_map}
use Rattle.dp_semantics.proofs.Setting.{Sound}
use Rattle.dp_net.specs.NetItems.{Marks, begins}
use Rattle.dp_lean.proofs.Once.{Part, none, skips, takes}
use Rattle.dp_columns.specs.declared.ColumnKind.{ColumnKind}
use Rattle.dp_columns.specs.declared.ColumnKind.TheVariants as kind
use Rattle.dp_lean_code.specs.Known.{paying_marks}
use Rattle.dp_lean_code.proofs.ProgramRight.{ok, ascends}
use Rattle.dp_lean_kinds.specs.declared.form.SiteForm.{SiteForm}
use Rattle.dp_lean_kinds.specs.declared.form.SiteForm.TheVariants as form
use Rattle.dp_lean_kinds.specs.declared.form.FormedSite.{FormedSite}
use Rattle.dp_lean_kinds.specs.ColumnKinds.{formed_sites, values_of, is_needed, kind_of, region_kinds}
unfoldable use Rattle.dp_lean_kinds.specs.ColumnKinds.{formed_at}
use Rattle.dp_lean_region.specs.Region.{plan_kinds}
use Rattle.dp_lean_region.proofs.SiteKinds.{kinds_of_stage}

-- ---- a site's form is what it stores

abbrev form_by : Option ℕ → SiteForm
form_by None = form.Single
form_by (Some x) = form.Stored (record { 0 = x })

abbrev formed_of : Access → FormedSite
formed_of a = record { site = record { 0 = a.site }; form = form_by a.stores }

one_formed : (x : Stmt) → asked formed_at x ≡ map formed_of (accesses x)
unfolding formed_at
one_formed x = asked_both (λ a c. a ≡ map formed_of c) refl
    (λ a b c d e f. (λ i. e i ++ f i) ∙ sym (map-append formed_of c d)) formed_at access_at each x
  where
    each : (x : Stmt) → formed_at x ≡ map formed_of (access_at x)
    each (tree.Assign site x e) = refl
    each (tree.Store site x i e) = refl
    each (tree.Print site e) = refl
    each (tree.If' site e h a k b) = refl
    each (tree.While' site e h a) = refl
    each (tree.Region' r site e h a) = refl
    each (tree.Break site e) = refl
    each (tree.Call f line args) = refl

all_formed : (xs : List Stmt) → flat_map (asked formed_at) xs ≡ map formed_of (flat_map accesses xs)
all_formed [] = refl
all_formed (x ∷ xs) = (λ i. one_formed x i ++ all_formed xs i) ∙ sym (map-append formed_of (accesses x) (flat_map accesses xs))

-- ---- accesses among others

-- the access stands among these
abbrev pub Member : List Access → Access → Type 0
Member all a = (i : ℕ) × (slice_get all i ≡ Some a)

member_behind : (y : Access) (all : List Access) (a : Access) → Member all a → Member (y ∷ all) a
member_behind y all a h = (suc h.0, h.1)

-- those of a part stand among all
pub members : {a b : List Access} → Part a b → Each (Member b) a
members none = tt
members (skips {a = a} {b = b} y r) = each_map (Member b) (Member (y ∷ b)) (member_behind y b) a (members r)
members (takes {a = a} {b = b} y r) = ((0, refl), each_map (Member b) (Member (y ∷ b)) (member_behind y b) a (members r))

at_number : (k : ℕ) (all : List Access) (i : ℕ) (a : Access) → Ascends k (map access_site all) → slice_get all i ≡ Some a → a.site ≡ k + i
at_number k [] i a up e = absurd (cc e)
at_number k (b ∷ all) zero a up e = let same : b.site ≡ a.site = cc e in omega (arith, same, up.0)
at_number k (b ∷ all) (suc i) a up e = let more = at_number (suc k) all i a up.1 e in omega (arith, more)

-- each of these is so
pub each_at : (P : Access → Type 0) (all : List Access) (i : ℕ) (a : Access) → Each P all → slice_get all i ≡ Some a → P a
each_at P [] i a h e = absurd (cc e)
each_at P (b ∷ all) zero a h e = subst P (cc e) h.0
each_at P (b ∷ all) (suc i) a h e = each_at P all i a h.1 e

module _ (p : Program) (plan : Plan) (inlined : IsInlined p) (fits : fits_plan p plan ≡ true) where
  abbrev m : Marks
  m = paying_marks p plan

  -- a site of the region, which a later stage or the judge reads
  abbrev pub IsRead : Access → Type 0
  IsRead a = Member (region_accesses p plan) a × (is_needed p plan m (stage_of p plan a.site) a.site ≡ true)

  -- what its stage's columns keep
  abbrev pub kind_kept : ℕ → Option ℕ → ColumnKind
  kind_kept y stores = if begins m y then kind.Block else values_of p plan (form_by stores)

  pub seat_kind : (a : Access) → IsRead a → slice_get (get_or (plan_kinds p plan) (stage_of p plan a.site - 1) []) (a.site - first_site p plan) ≡ Some
      (kind_kept a.site a.stores)
  seat_kind a read =
      let i = read.0.0 in let t = stage_of p plan a.site in
      let sound = each_at (Sound p plan) (region_accesses p plan) i a (ok p plan inlined fits).sound read.0.1 in
      let number = at_number (first_site p plan) (region_accesses p plan) i a (ascends p plan inlined fits) read.0.1 in
      let place : a.site - first_site p plan ≡ i = omega (arith, number) in
      let stage : t ≡ suc (t - 1) = omega (arith, sound.staged) in
      let kinds : get_or (plan_kinds p plan) (t - 1) [] ≡ region_kinds p plan m t =
      kinds_of_stage p plan (suc (t - 1)) (omega arith) (omega (arith, sound.early, stage)) ∙ ap (region_kinds p plan m) (sym stage) in
      (λ j. slice_get (kinds j) (place j))
      ∙ slice_get-map (kind_of p plan m t) (formed_sites p plan) i
      ∙ ap (λ (sites : List FormedSite). Rattle.std.specs.Option.option_map (kind_of p plan m t) (slice_get sites i)) (all_formed (region_statement p plan))
      ∙ ap (Rattle.std.specs.Option.option_map (kind_of p plan m t)) (slice_get-map formed_of (region_accesses p plan) i
      ∙ ap (Rattle.std.specs.Option.option_map formed_of) read.0.1)
      ∙ ap Some (kept t (is_needed p plan m t a.site) (eq-eqb t t refl) read.1)
    where
      kept : (t : ℕ) (needed : Bool) → (stage_of p plan a.site == t) ≡ true → needed ≡ true →
          (if (stage_of p plan a.site == t) && needed then kind_kept a.site a.stores else kind.Nothing) ≡ kind_kept a.site a.stores
      kept t needed e f = rw (e, f) refl

  -- where no block begins
  pub plain_kind : (a : Access) → IsRead a → m.block_at a.site ≡ [] →
      slice_get (get_or (plan_kinds p plan) (stage_of p plan a.site - 1) []) (a.site - first_site p plan) ≡ Some (values_of p plan (form_by a.stores))
  plain_kind a read alone = seat_kind a read
      ∙ ap (λ (block : List Stmt). Some (if not (Rattle.dp_net.specs.NetItems.is_nil block) then kind.Block else values_of p plan (form_by a.stores))) alone

  -- .. and where one does
  pub block_kind : (a : Access) (x : Stmt) (xs : List Stmt) → IsRead a → m.block_at a.site ≡ x ∷ xs →
      slice_get (get_or (plan_kinds p plan) (stage_of p plan a.site - 1) []) (a.site - first_site p plan) ≡ Some kind.Block
  block_kind a x xs read block = seat_kind a read
      ∙ ap (λ (block : List Stmt). Some (if not (Rattle.dp_net.specs.NetItems.is_nil block) then kind.Block else values_of p plan (form_by a.stores))) block
