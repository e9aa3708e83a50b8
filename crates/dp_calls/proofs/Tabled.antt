-- How the tables of an expanded program grow: at their ends, so that what stands there stays.
use Rattle.std.proofs.Common.{◌≡◌, inl, inr, refl, sym, ap, ◌∙◌, subst, ℕ, zero, suc, ◌+◌, ◌-◌, ◌≤◌, Bool, true, false, if◌then◌else◌, List, [], ◌∷◌, ◌++◌, ℤ}
use Rattle.std.proofs.Common.{length, length-append, replicate, append-nil, append_assoc, Option, Some, None, slice_get, arith}
use Rattle.std.proofs.lemmas.List.{length-replicate}
use Rattle.dp_base.specs.declared.SiteId.{SiteId}
use Rattle.dp_room.proofs.ListLemmas.{get_before, get_pushed}
use Rattle.dp_tree.specs.declared.VarInfo.{VarInfo}
use Rattle.dp_tree.specs.declared.SiteInfo.{SiteInfo}
use Rattle.dp_tree.specs.declared.Program.{Program}
use Rattle.dp_tree.specs.Globals.{is_global_scope, globals_in}
use Rattle.dp_tree.specs.Trace.{start_cells}
use Rattle.dp_calls.specs.Frame.{global_count}
use Rattle.dp_calls.specs.Tables.{Tables, scope_in, moved_to, with_local, with_site, site_entry, with_source_site, with_region}
use Rattle.dp_calls.proofs.Relation.{PlaceOf, own, file_count}

pub get_last : {X : Type 0} (xs : List X) (y : X) → slice_get (xs ++ y ∷ []) (length xs) ≡ Some y
get_last [] y = refl
get_last (z ∷ xs) y = get_last xs y

pub start_cells-append : (a b : List VarInfo) → start_cells (a ++ b) ≡ start_cells a ++ start_cells b
start_cells-append [] b = refl
start_cells-append (x ∷ a) b = ap (λ (c : List ℤ). replicate x.length x.start ++ c) (start_cells-append a b)
    ∙ sym (append_assoc (replicate x.length x.start) (start_cells a) (start_cells b))

files_if : (t : Bool) (x : VarInfo) (a b : List VarInfo) → (if t then x ∷ (a ++ b) else a ++ b) ≡ (if t then x ∷ a else a) ++ b
files_if true x a b = refl
files_if false x a b = refl

globals_in-append : (a b : List VarInfo) → globals_in (a ++ b) ≡ globals_in a ++ globals_in b
globals_in-append [] b = refl
globals_in-append (x ∷ a) b =
    ap (λ (c : List VarInfo). if is_global_scope x.scope then x ∷ c else c) (globals_in-append a b)
    ∙ files_if (is_global_scope x.scope) x (globals_in a) (globals_in b)

scope_no_file : (r : ℕ) → is_global_scope (scope_in r) ≡ false
scope_no_file zero = refl
scope_no_file (suc r) = refl

-- what stands in the tables stays
pub record Grows (t u : Tables) : Type 0 where
  pub vars : (k : ℕ) (info : VarInfo) → slice_get t.vars k ≡ Some info → slice_get u.vars k ≡ Some info
  pub sites : (k : ℕ) (info : SiteInfo) → slice_get t.sites k ≡ Some info → slice_get u.sites k ≡ Some info
  pub long : length t.vars ≤ length u.vars
  pub files : globals_in u.vars ≡ globals_in t.vars

pub grows_not : (t : Tables) → Grows t t
grows_not t = record { vars = λ k info at. at; sites = λ k info at. at; long = omega arith; files = refl }

pub grows_on : {t u v : Tables} → Grows t u → Grows u v → Grows t v
grows_on a b = record {
  vars = λ k info at. b.vars k info (a.vars k info at);
  sites = λ k info at. b.sites k info (a.sites k info at);
  long = omega (arith, a.long, b.long);
  files = b.files ∙ a.files;
}

pub grows_site : (info : SiteInfo) (t : Tables) → Grows t (with_site info t)
grows_site info t = record { vars = λ k v at. at; sites = λ k v at. get_before t.sites (info ∷ []) k v at; long = omega arith; files = refl }

pub grows_source_site : (p : Program) (r : ℕ) (site : SiteId) (t : Tables) → Grows t (with_source_site p r site t)
grows_source_site p r site t =
    record {
      vars = λ k v at. at;
      sites = λ k v at. get_before t.sites (site_entry (slice_get p.sites (site.0 - 1))
          r) k v at;
      long = omega arith;
      files = refl;
    }

pub grows_region : (line : ℕ) (first : SiteId) (t : Tables) → Grows t (with_region line first t)
grows_region line first t = record { vars = λ k v at. at; sites = λ k v at. at; long = omega arith; files = refl }

no_files_moved : (o : Option VarInfo) (cell r : ℕ) → globals_in (moved_to o cell r) ≡ []
no_files_moved None cell r = refl
no_files_moved (Some info) cell r = ap (λ (t : Bool). if t then record info { first = record { 0 = cell }; scope = scope_in r } ∷ [] else []) (scope_no_file r)

pub grows_local : (p : Program) (r x : ℕ) (t : Tables) → Grows t (with_local p r x t)
grows_local p r x t =
    let more : List VarInfo = moved_to (slice_get p.vars x) t.cells r in
    let total : length (t.vars ++ more) ≡ length t.vars + length more = length-append t.vars more in
    record {
      vars = λ k v at. get_before t.vars more k v at;
      sites = λ k v at. at;
      long = omega (arith, total);
      files = globals_in-append t.vars more ∙ ap (λ (c : List VarInfo). globals_in t.vars ++ c) (no_files_moved (slice_get p.vars x) t.cells r)
          ∙ append-nil (globals_in t.vars);
    }

-- the variables lie in order so far
pub record Lies (p : Program) (t : Tables) : Type 0 where
  pub place : (k : ℕ) (info : VarInfo) → slice_get t.vars k ≡ Some info → PlaceOf (file_count p) (global_count p) k info
  pub cells : t.cells + file_count p ≡ global_count p + length t.vars
  pub above : file_count p ≤ length t.vars
  -- the start values begin with those of the file-scope variables
  pub own : List ℤ
  pub start : start_cells t.vars ≡ start_cells (globals_in p.vars) ++ own
  pub room : length own + file_count p ≡ length t.vars

-- the entry of the next variable
abbrev pub moved : VarInfo → ℕ → ℕ → VarInfo
moved info cell r = record info { first = record { 0 = cell }; scope = scope_in r }

pub local_vars : (p : Program) (r x : ℕ) (t : Tables) (info : VarInfo) → slice_get p.vars x ≡ Some info → (with_local p r x t).vars ≡ t.vars
    ++ moved info t.cells r ∷ []
local_vars p r x t info at = ap (λ (o : Option VarInfo). t.vars ++ moved_to o t.cells r) at

pub local_length : (p : Program) (r x : ℕ) (t : Tables) (info : VarInfo) → slice_get p.vars x ≡ Some info →
    length (with_local p r x t).vars ≡ suc (length t.vars)
local_length p r x t info at =
    let total : length (t.vars ++ moved info t.cells r ∷ []) ≡ length t.vars + 1 = length-append t.vars (moved info t.cells r ∷ []) in
    let one : length (t.vars ++ moved info t.cells r ∷ []) ≡ suc (length t.vars) = omega (arith, total) in
    ap (λ (vs : List VarInfo). length vs) (local_vars p r x t info at) ∙ one

-- so they do with one variable more
pub lies_local : (p : Program) (r x : ℕ) (t : Tables) (info : VarInfo) → slice_get p.vars x ≡ Some info → info.length ≡ 1 → Lies p t →
    Lies p (with_local p r x t)
lies_local p r x t info at one lies =
    let v : VarInfo = moved info t.cells r in let long = local_length p r x t info at in
    let next : PlaceOf (file_count p) (global_count p) (length t.vars) v = own lies.above (scope_no_file r) lies.cells one in
    let more : length (lies.own ++ (replicate v.length v.start ++ [])) ≡ length lies.own + length (replicate v.length v.start ++ []) = length-append lies.own
    (replicate v.length v.start ++ []) in
    let last : length (replicate v.length v.start ++ []) ≡ v.length = ap (λ (c : List ℤ). length c) (append-nil (replicate v.length v.start))
    ∙ length-replicate v.length v.start in
    record {
      place = λ k w there. elim (get_pushed t.vars v k w (sym (ap (λ (vs : List VarInfo). slice_get vs k) (local_vars p r x t info at)) ∙ there)) [
        | inl before ↦ lies.place k w before
        | inr both ↦ subst (λ (n : ℕ). PlaceOf (file_count p) (global_count p) n w) (sym both.0)
            (subst (λ (u : VarInfo). PlaceOf (file_count p) (global_count p) (length t.vars) u) both.1 next)
      ];
      cells = omega (arith, lies.cells, long);
      above = omega (arith, lies.above, long);
      own = lies.own ++ (replicate v.length v.start ++ []);
      start = ap start_cells (local_vars p r x t info at) ∙ start_cells-append t.vars (v ∷ [])
          ∙ ap (λ (c : List ℤ). c ++ (replicate v.length v.start ++ [])) lies.start
          ∙ append_assoc (start_cells (globals_in p.vars)) lies.own (replicate v.length v.start ++ []);
      room = omega (arith, more, last, one, long, lies.room);
    }
