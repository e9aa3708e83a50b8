-- What is so of a piece of expanded text, and of each program that it ends in.
use Rattle.std.proofs.Common.{◌≡◌, ◌⊎◌, inl, inr, refl, sym, ap, ap₂, ◌∙◌, ℕ, suc, ◌-◌, ◌<◌, ◌≤◌, Bool, true, List, ◌++◌, length, Option, Some, None, slice_get}
use Rattle.std.proofs.Common.{nat_lt, arith, ltb-true}
use Rattle.dp_base.specs.declared.SiteId.{SiteId}
use Rattle.dp_base.specs.declared.VarId.{VarId}
use Rattle.dp_room.proofs.ListLemmas.{at_index}
use Rattle.dp_tree.specs.declared.Expr.{Expr, end_of-Expr, more_of-Expr}
use Rattle.dp_tree.specs.declared.Expr.TheVariants as tree
use Rattle.dp_tree.specs.declared.VarInfo.{VarInfo}
use Rattle.dp_tree.specs.declared.SiteInfo.{SiteInfo}
use Rattle.dp_tree.specs.declared.Program.{Program}
use Rattle.dp_tree.specs.Scoping.{sees, knows}
use Rattle.dp_tree.specs.Step.{line_in, line_of}
use Rattle.dp_calls.specs.Renaming.{Renamed, named_in, target_or, target_of, renamed}
use Rattle.dp_calls.specs.Tables.{Tables, site_entry, with_source_site, with_site, new_site}
use Rattle.dp_calls.specs.Piece.{Piece}
use Rattle.dp_tree.proofs.EvalLemmas.{opened}
use Rattle.dp_tree.proofs.Heads.{and_true}
use Rattle.dp_calls.proofs.Relation.{Env, file_count}
use Rattle.dp_calls.proofs.Tabled.{Grows, grows_on, Lies, get_last}
use Rattle.dp_calls.proofs.Named.{NamesOk, Steps, steps_on, Seen}

-- the final tables
abbrev pub tables_of : Program → Tables
tables_of q = record { vars = q.vars; cells = 0; sites = q.sites; regions = q.regions }

-- the text is part of that of the call e, which goes on from these names and tables
pub record Closes (p q : Program) (low calls : ℕ) (names : List Renamed) (t : Tables) (e : Env) : Type 0 where
  pub begins : e.low ≡ low
  pub may_call : e.calls ≡ calls
  pub high : length t.vars ≤ e.high
  pub ends : Steps names (length t.vars) e.names
  pub into : Grows t (tables_of q)
  pub files : (x y : ℕ) → named_in e.names x ≡ Some y → file_count p ≤ x

-- the same of text before
pub closes_before : (p q : Program) (low calls : ℕ) {names after : List Renamed} {t u : Tables} (e : Env) → Grows t u → Steps names (length t.vars) after →
    Closes p q low calls after u e → Closes p q low calls names t e
closes_before p q low calls e grows steps closes = record {
  begins = closes.begins;
  may_call = closes.may_call;
  high = omega (arith, grows.long, closes.high);
  ends = steps_on grows.long steps closes.ends;
  into = grows_on grows closes.into;
  files = closes.files;
}

-- a piece is made from these names and tables; it becomes text of the whole
pub record Made (p q : Program) (linked : Option VarInfo → Option VarInfo → Type 0) (low calls : ℕ) (names : List Renamed) (t : Tables) (behind : List ℕ)
    (a : Piece) (shape : Env → Type 0) : Type 0 where
  pub grows : Grows t a.tables
  pub lies : Lies p a.tables
  pub named : NamesOk p linked low a.names a.tables
  pub steps : Steps names (length t.vars) a.names
  pub seen : Seen p behind a.names
  pub becomes : (e : Env) → Closes p q low calls a.names a.tables e → shape e

-- a visible variable has one name from here on
pub target_by : (p : Program) (names after : List Renamed) (n : ℕ) (x : VarId) → Steps names n after →
    ((y : ℕ) → named_in names x.0 ≡ Some y → file_count p ≤ x.0) → ((y : ℕ) → named_in after x.0 ≡ Some y → file_count p ≤ x.0) →
    (x.0 < file_count p) ⊎ ((y : ℕ) × (named_in names x.0 ≡ Some y)) → target_of names x ≡ target_of after x
target_by p names after n x steps old new (inl less) = missing (named_in names x.0) refl (named_in after x.0) refl
  where
    missing : (o : Option ℕ) → named_in names x.0 ≡ o → (u : Option ℕ) → named_in after x.0 ≡ u → target_of names x ≡ target_of after x
    missing None h None k = ap (λ (o : Option ℕ). target_or o x.0) (h ∙ sym k)
    missing (Some y) h u k = (let behind = old y h in absurd (omega (arith, less, behind)))
    missing None h (Some y) k = (let behind = new y k in absurd (omega (arith, less, behind)))
target_by p names after n x steps old new (inr named) =
    ap (λ (o : Option ℕ). target_or o x.0) (named.1 ∙ sym (steps.stable x.0 named.0 named.1))

module _ (p q : Program) (linked : Option VarInfo → Option VarInfo → Type 0) (low calls : ℕ) (names : List Renamed) (t : Tables) (e : Env)
    (ok : NamesOk p linked low names t) (closes : Closes p q low calls names t e) where
  pub same_target : (visible : List ℕ) → Seen p visible names → (x : VarId) → sees visible x ≡ true → target_of names x ≡ target_of e.names x
  same_target visible seen x at =
      target_by p names e.names (length t.vars) x closes.ends (λ y h. (ok.source x.0 y h).0) (λ y h. closes.files x.0 y h) (seen x at)

-- an expression is renamed alike, where its variables are
module _ (names after : List Renamed) (visible : List ℕ) (same : (x : VarId) → sees visible x ≡ true → target_of names x ≡ target_of after x) where
  pub same_renamed : (v : Expr) → knows visible v ≡ true → renamed names v ≡ renamed after v
  unfolding opened
  same_renamed (tree.Input' _ (more_of-Expr a end_of-Expr)) k = ap tree.Input (same_renamed a k)
  same_renamed (tree.Scalar x) k = ap tree.Scalar (same x k)
  same_renamed (tree.Element' x _ (more_of-Expr a end_of-Expr)) k =
      let both = and_true (sees visible x) (knows visible a) k in ap₂ tree.Element (same x both.0) (same_renamed a both.1)
  same_renamed (tree.Unary' op _ (more_of-Expr a end_of-Expr)) k = ap (tree.Unary op) (same_renamed a k)
  same_renamed (tree.Binary' op _ (more_of-Expr a end_of-Expr) _ (more_of-Expr b end_of-Expr)) k =
      let both = and_true (knows visible a) (knows visible b) k in ap₂ (tree.Binary op) (same_renamed a both.0) (same_renamed b both.1)
  same_renamed (tree.And' _ (more_of-Expr a end_of-Expr) _ (more_of-Expr b end_of-Expr)) k =
      let both = and_true (knows visible a) (knows visible b) k in ap₂ tree.And (same_renamed a both.0) (same_renamed b both.1)
  same_renamed (tree.Or' _ (more_of-Expr a end_of-Expr) _ (more_of-Expr b end_of-Expr)) k =
      let both = and_true (knows visible a) (knows visible b) k in ap₂ tree.Or (same_renamed a both.0) (same_renamed b both.1)
  same_renamed _ k = refl

next_place : (q : Program) (t : Tables) (info : SiteInfo) → slice_get q.sites (length t.sites) ≡ Some info → line_of q (new_site t) ≡ info.line
next_place q t info at =
    let same : suc (length t.sites) - 1 ≡ length t.sites = omega arith in
    ap (λ (n : ℕ). line_in (slice_get q.sites n)) same ∙ ap line_in at

-- the site has an entry
abbrev pub is_listed : Program → ℕ → Bool
is_listed p n = nat_lt (n - 1) (length p.sites)

module _ (p q : Program) where
  entry_line : (r : ℕ) (site : SiteId) (t : Tables) (info : SiteInfo) → slice_get p.sites (site.0 - 1) ≡ Some info →
      Grows (with_source_site p r site t) (tables_of q) → line_of q (new_site t) ≡ line_of p site
  entry_line r site t info at into =
      let entry : SiteInfo = record info { region = r } in
      let there : slice_get (with_source_site p r site t).sites (length t.sites) ≡ Some entry =
      ap (λ (o : Option SiteInfo). slice_get (t.sites ++ site_entry o r) (length t.sites)) at ∙ get_last t.sites entry in
      next_place q t entry (into.sites (length t.sites) entry there) ∙ sym (ap line_in at)

  -- the site of a statement keeps its line
  pub source_line : (r : ℕ) (site : SiteId) (t : Tables) → is_listed p site.0 ≡ true → Grows (with_source_site p r site t) (tables_of q) →
      line_of q (new_site t) ≡ line_of p site
  source_line r site t listed into =
      let found = at_index p.sites (site.0 - 1) (ltb-true (site.0 - 1) (length p.sites) listed) in
      entry_line r site t found.0 found.1 into

  -- a binding has the line of the call
  pub binding_line : (info : SiteInfo) (t : Tables) → Grows (with_site info t) (tables_of q) → line_of q (new_site t) ≡ info.line
  binding_line info t into = next_place q t info (into.sites (length t.sites) info (get_last t.sites info))
