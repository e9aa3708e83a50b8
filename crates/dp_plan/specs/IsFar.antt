-- Whether two sites of a region are far from each other, read off the text.
use Rattle.std.specs.Prelude.{ℕ, suc, ◌==◌, if◌then◌else◌, Bool, false, not, ◌&&◌, ◌||◌, List, [], ◌∷◌, ◌++◌, length, ℤ, pos, negsuc, ◌+ℤ◌, ◌-ℤ◌, Option, Some}
use Rattle.std.specs.Prelude.{None, ◌%◌, nat_lt, slice_get, count_by}
use Rattle.std.specs.List.{list_all, list_any, flat_map}
use Rattle.std.specs.Option.{option_or}
use Rattle.std.specs.Ordering.{int_eq}
use Rattle.dp_tree.specs.declared.Expr.{Expr}
use Rattle.dp_tree.specs.declared.Stmt.{Stmt, Row_of-Stmt, out-Stmt}
use Rattle.dp_tree.specs.declared.Stmt.TheVariants.{Assign, Store, Print, If', While', Region', Break, Call}
use Rattle.dp_tree.specs.declared.Stmt.TheOpen.{Stmt-F, Region}
use Rattle.dp_tree.specs.declared.VarInfo.{VarInfo}
use Rattle.dp_tree.specs.declared.Program.{Program}
use Rattle.dp_tree.specs.Statements.{asked, asked_in}
use Rattle.dp_tree.specs.Numbering.{numbers_from}
use Rattle.dp_plan.specs.Stage.{is_local}
use Rattle.dp_plan.specs.Access.{accesses, region_in, stores_var}
use Rattle.dp_plan.specs.Touch.{Touch, reads, offset, stride_of}

-- a site with what it reads and what it stores
pub record SiteTouch : Type 0 where
  pub site : ℕ
  pub reads : List Touch
  pub store : Option Touch

abbrev pub whole : ℕ → Touch
whole x = record { variable = x; index = None }

abbrev pub element : ℕ → Expr → Touch
element x e = record { variable = x; index = Some e }

-- the statement's own site
abbrev pub touch_at : Stmt → List SiteTouch
touch_at (Assign site x e) = record { site = site.0; reads = reads e; store = Some (whole x.0) } ∷ []
touch_at (Store site x index e) = record { site = site.0; reads = reads index ++ reads e; store = Some (element x.0 index) } ∷ []
touch_at (Print site e) = record { site = site.0; reads = reads e; store = None } ∷ []
touch_at (If' site cond _ then_part _ else_part) = record { site = site.0; reads = reads cond; store = None } ∷ []
touch_at (While' site cond _ body) = record { site = site.0; reads = reads cond; store = None } ∷ []
touch_at (Region' r site cond _ body) = record { site = site.0; reads = reads cond; store = None } ∷ []
touch_at (Break site cond) = record { site = site.0; reads = reads cond; store = None } ∷ []
touch_at (Call f line args) = []

-- the sites of a statement, in text order
abbrev pub touches : Stmt → List SiteTouch
touches s = asked touch_at s

-- those of several statements
abbrev pub touches_in : {n : _} → Row_of-Stmt n → List SiteTouch
touches_in rows = asked_in touch_at rows

-- the statements at the top of a region's body
abbrev pub body_of : Stmt-F Stmt → List Stmt
body_of (Region r site cond body) = body
body_of _ = []

abbrev pub region_body : Program → ℕ → List Stmt
region_body p r = flat_map (λ s. body_of (out-Stmt s)) (region_in p r)

-- a body before and behind the statement at its top that moves v, and by how much
pub record Halves : Type 0 where
  pub front : List Stmt
  pub mover : Stmt
  pub back : List Stmt
  pub stride : ℤ

abbrev pub behind_of : Stmt → Option Halves → Option Halves
behind_of s None = None
behind_of s (Some h) = Some (record { front = s ∷ h.front; mover = h.mover; back = h.back; stride = h.stride })

abbrev pub halves_by : Stmt → List Stmt → Option ℤ → Option Halves → Option Halves
halves_by s rest (Some k) later = Some (record { front = []; mover = s; back = rest; stride = k })
halves_by s rest None later = behind_of s later

-- at the first of these statements that moves v
abbrev pub halves : ℕ → List Stmt → Option Halves
halves v [] = None
halves v (s ∷ rest) = halves_by s rest (stride_of v (out-Stmt s)) (halves v rest)

abbrev pub is_scalar_entry : Option VarInfo → Bool
is_scalar_entry None = false
is_scalar_entry (Some info) = not info.array

-- v is a scalar, no body local, and one site of the region alone stores it
abbrev pub moves_alone : Program → ℕ → ℕ → Bool
moves_alone p r v =
    is_scalar_entry (slice_get p.vars v) && (not (is_local r (slice_get p.vars v)) && (count_by (stores_var v) (flat_map accesses (region_in p r)) == 1))

abbrev pub shifted : ℤ → Option ℤ → Option ℤ
shifted k None = None
shifted k (Some n) = Some (n +ℤ k)

-- the place of an index by v
abbrev pub place_of : ℕ → ℤ → Option Expr → Option ℤ
place_of v shift None = None
place_of v shift (Some e) = shifted shift (offset v e)

-- the number is a number of strides, at least one
abbrev pub is_strides : ℤ → ℤ → Bool
is_strides (pos k) (pos n) = nat_lt 0 n && ((n % k) == 0)
is_strides (negsuc k) (negsuc n) = (suc n % suc k) == 0
is_strides _ _ = false

-- the test of a place that is stored against one that is loaded
abbrev pub far_between : (ℤ → ℤ → Bool) → ℤ → Option ℤ → Bool
far_between test stored None = false
far_between test stored (Some loaded) = test stored loaded

abbrev pub apart_by : ℤ → ℤ → ℤ → Bool
apart_by k stored loaded = not (is_strides k (stored -ℤ loaded))

-- what is read of the array is read at a place that passes
abbrev pub read_passes : (ℤ → ℤ → Bool) → ℕ → ℕ → ℤ → ℤ → Touch → Bool
read_passes test v array stored shift t = not (t.variable == array) || far_between test stored (place_of v shift t.index)

-- an array's element that is stored, by its place
pub record Stored : Type 0 where
  pub array : ℕ
  pub place : ℤ

abbrev pub stored_place : ℕ → Option ℤ → Option Stored
stored_place array None = None
stored_place array (Some n) = Some (record { array = array; place = n })

abbrev pub stored_at : ℕ → ℤ → Option Touch → Option Stored
stored_at v shift None = None
stored_at v shift (Some t) = stored_place t.variable (place_of v shift t.index)

-- what site d stores, among these sites
abbrev pub store_of : ℕ → ℤ → ℕ → List SiteTouch → Option Stored
store_of v shift d [] = None
store_of v shift d (t ∷ rest) = if t.site == d then stored_at v shift t.store else store_of v shift d rest

abbrev pub is_stored : Stored → Option Stored → Bool
is_stored s None = false
is_stored s (Some t) = (t.array == s.array) && int_eq t.place s.place

-- a site, with this shift: where it is d it stores that, and where it is u all that it reads of the array passes
abbrev pub touch_passes : (ℤ → ℤ → Bool) → ℕ → ℕ → ℕ → Stored → ℤ → SiteTouch → Bool
touch_passes test v d u s shift t =
    (not (t.site == d) || is_stored s (stored_at v shift t.store)) && (not (t.site == u) || list_all (read_passes test v s.array s.place shift) t.reads)

-- the sites before and with the mover, and those behind it
abbrev pub front_touches : List SiteTouch → Halves → List SiteTouch
front_touches condition h = condition ++ (flat_map touches h.front ++ touches h.mover)

abbrev pub back_touches : Halves → List SiteTouch
back_touches h = flat_map touches h.back

abbrev pub all_pass : (ℤ → ℤ → Bool) → ℕ → ℕ → ℕ → List SiteTouch → Halves → Option Stored → Bool
all_pass test v d u condition h None = false
all_pass test v d u condition h (Some s) =
    list_all (touch_passes test v d u s (pos 0)) (front_touches condition h) && list_all (touch_passes test v d u s h.stride) (back_touches h)

abbrev pub halves_pass : (ℤ → ℤ → ℤ → Bool) → ℕ → ℕ → ℕ → List SiteTouch → Option Halves → Bool
halves_pass test v d u condition None = false
halves_pass test v d u condition (Some h) =
    all_pass (test h.stride) v d u condition h (option_or (store_of v (pos 0) d (front_touches condition h)) (store_of v h.stride d (back_touches h)))

-- the condition's own site
abbrev pub condition_touch : Stmt-F Stmt → List SiteTouch
condition_touch (Region r site cond body) = record { site = site.0; reads = reads cond; store = None } ∷ []
condition_touch _ = []

abbrev pub region_condition : Program → ℕ → List SiteTouch
region_condition p r = flat_map (λ s. condition_touch (out-Stmt s)) (region_in p r)

abbrev pub passes_with : (ℤ → ℤ → ℤ → Bool) → Program → ℕ → ℕ → ℕ → ℕ → Bool
passes_with test p r d u v = moves_alone p r v && halves_pass test v d u (region_condition p r) (halves v (region_body p r))

-- the test of the places alone
abbrev pub by_place : ℤ → ℤ → ℤ → Bool
by_place k stored loaded = not (int_eq stored loaded)

-- a number of strides of v, at least one, never lies between what d stores and what u loads
abbrev pub is_far : Program → ℕ → ℕ → ℕ → Bool
is_far p r d u = list_any (passes_with apart_by p r d u) (numbers_from 0 (length p.vars))

-- the places differ
abbrev pub is_far_within : Program → ℕ → ℕ → ℕ → Bool
is_far_within p r d u = list_any (passes_with by_place p r d u) (numbers_from 0 (length p.vars))
