-- When a text of a frame and a piece of the expanded text do the same: by the variables that stand for the frame's own.
use Rattle.std.proofs.Common.{◌≡◌, ◌⊎◌, ℕ, ◌+◌, ◌-◌, ◌<◌, ◌≤◌, Bool, true, false, List, [], ◌∷◌, ◌++◌, ℤ, pos, length, get_or, Option, Some, None, slice_get}
use Rattle.std.specs.List.{list_all}
use Rattle.dp_base.specs.declared.SiteId.{SiteId}
use Rattle.dp_base.specs.declared.VarId.{VarId}
use Rattle.dp_tree.specs.declared.Expr.{Expr}
use Rattle.dp_tree.specs.declared.Stmt.{Stmt, out-Stmt}
use Rattle.dp_tree.specs.declared.Stmt.TheOpen.{Assign, Store, Print, If, While, Region, Break, Call}
use Rattle.dp_tree.specs.declared.VarInfo.{VarInfo}
use Rattle.dp_tree.specs.declared.Program.{Program}
use Rattle.dp_tree.specs.Functions.{body_in, params_in}
use Rattle.dp_tree.specs.Globals.{is_global_scope, globals_in}
use Rattle.dp_tree.specs.Numbering.{is_inner}
use Rattle.dp_tree.specs.Step.{line_of, is_local_of, clear_locals, behind_region, cleared_leaving}
use Rattle.dp_tree.specs.Scoping.{sees, knows, global_numbers, seen_behind_params}
use Rattle.dp_calls.specs.Frame.{global_count, fresh_frame}
use Rattle.dp_calls.specs.Renaming.{Renamed, named_in, target_of, renamed}

-- an expanded call: its variables lie between two numbers, its names, and the functions that it may call are the first ones
pub record Env : Type 0 where
  pub low : ℕ
  pub high : ℕ
  pub names : List Renamed
  pub calls : ℕ

-- where the variable with number x lies, among so many file-scope ones with so many cells
pub data PlaceOf (count cells x : ℕ) (info : VarInfo) : Type 0 where
  file : x < count → is_global_scope info.scope ≡ true → info.first.0 + info.length ≤ cells → 0 < info.length → PlaceOf count cells x info
  own : count ≤ x → is_global_scope info.scope ≡ false → info.first.0 + count ≡ cells + x → info.length ≡ 1 → PlaceOf count cells x info

-- the number of file-scope variables
abbrev pub file_count : Program → ℕ
file_count p = length (globals_in p.vars)

-- the variables of both programs, and where they lie
pub record Laid (p q : Program) : Type 0 where
  pub before : (x : ℕ) (info : VarInfo) → slice_get p.vars x ≡ Some info → PlaceOf (file_count p) (global_count p) x info
  pub after : (y : ℕ) (info : VarInfo) → slice_get q.vars y ≡ Some info → PlaceOf (file_count p) (global_count p) y info
  pub same : (x : ℕ) → x < file_count p → slice_get q.vars x ≡ slice_get p.vars x
  pub there : file_count p ≤ length p.vars
  pub locals : length (fresh_frame p) + file_count p ≡ length p.vars

-- the entry isn't that of a body local of the region
abbrev pub is_quiet : ℕ → Option VarInfo → Bool
is_quiet q None = false
is_quiet q (Some info) = is_local_of q info.scope

module _ (p q : Program) where
  -- the names stand for locals of the one program, each for its own, by variables of the call
  pub record IsEnv (e : Env) : Type 0 where
    pub source : (x y : ℕ) → named_in e.names x ≡ Some y → (file_count p ≤ x) × (x < length p.vars)
    pub target : (x y : ℕ) → named_in e.names x ≡ Some y → (e.low ≤ y) × (y < e.high)
    pub apart : (x z y : ℕ) → named_in e.names x ≡ Some y → named_in e.names z ≡ Some y → x ≡ z
    pub above : file_count p ≤ e.low
    pub within : e.high ≤ length q.vars
    pub earlier : e.calls ≤ length p.functions

  -- a call g expanded within e has variables of its own
  pub record Nested (e g : Env) : Type 0 where
    pub low : e.low ≤ g.low
    pub high : g.high ≤ e.high
    pub others : (x y : ℕ) → named_in e.names x ≡ Some y → (y < g.low) ⊎ (g.high ≤ y)
    pub calls : g.calls < e.calls

  -- what an assignment makes visible
  pub data Declares (e : Env) (visible : List ℕ) (x : VarId) : List ℕ → Type 0 where
    known : sees visible x ≡ true → Declares e visible x visible
    new : (y : ℕ) → named_in e.names x.0 ≡ Some y → Declares e visible x (x.0 ∷ visible)

  -- the body locals of a region aren't visible where it stands
  abbrev pub Quiet : Env → List ℕ → ℕ → Type 0
  Quiet e visible r = (x : VarId) (y : ℕ) → sees visible x ≡ true → named_in e.names x.0 ≡ Some y → (is_quiet r (slice_get p.vars x.0) ≡ false)
      × (is_quiet r (slice_get q.vars y) ≡ false)

  -- each variable that is visible behind is visible before
  abbrev pub Within : List ℕ → List ℕ → Type 0
  Within inner outer = (x : VarId) → sees inner x ≡ true → sees outer x ≡ true

  -- the bindings of arguments of e to parameters of g
  pub data Binds (e g : Env) (visible : List ℕ) (line : ℕ) : List VarId → List Expr → List Stmt → Type 0 where
    bound : Binds e g visible line [] [] []
    binds : {x : VarId} {a : Expr} {s : Stmt} {site : SiteId} {y : ℕ} {params : List VarId} {args : List Expr} {code : List Stmt} →
        out-Stmt s ≡ Assign site (target_of g.names x) (renamed e.names a) → line_of q site ≡ line → knows visible a ≡ true → named_in g.names x.0 ≡ Some y →
        Binds e g visible line params args code → Binds e g visible line (x ∷ params) (a ∷ args) (s ∷ code)

  -- a break becomes one
  pub record Tries (e : Env) (visible : List ℕ) (s t : Stmt) : Type 0 where
    pub site : SiteId
    pub here : SiteId
    pub cond : Expr
    pub source : out-Stmt s ≡ Break site cond
    pub target : out-Stmt t ≡ Break here (renamed e.names cond)
    pub line : line_of q here ≡ line_of p site
    pub known : knows visible cond ≡ true

  mutual
    -- one statement with a site, and no break, becomes one
    pub data Acts : Env → List ℕ → List ℕ → Stmt → Stmt → Type 0 where
      assigns : {e : Env} {visible behind : List ℕ} {s t : Stmt} {site here : SiteId} {x : VarId} {v : Expr} →
          out-Stmt s ≡ Assign site x v → out-Stmt t ≡ Assign here (target_of e.names x) (renamed e.names v) → line_of q here ≡ line_of p site →
          knows visible v ≡ true → Declares e visible x behind → Acts e visible behind s t
      stores : {e : Env} {visible : List ℕ} {s t : Stmt} {site here : SiteId} {x : VarId} {i v : Expr} →
          out-Stmt s ≡ Store site x i v → out-Stmt t ≡ Store here (target_of e.names x) (renamed e.names i) (renamed e.names v) →
          line_of q here ≡ line_of p site →
          knows visible i ≡ true → knows visible v ≡ true → sees visible x ≡ true → Acts e visible visible s t
      prints : {e : Env} {visible : List ℕ} {s t : Stmt} {site here : SiteId} {v : Expr} →
          out-Stmt s ≡ Print site v → out-Stmt t ≡ Print here (renamed e.names v) → line_of q here ≡ line_of p site →
          knows visible v ≡ true → Acts e visible visible s t
      branches : {e : Env} {visible : List ℕ} {s t : Stmt} {site here : SiteId} {v : Expr} {a b c d : List Stmt} →
          out-Stmt s ≡ If site v a b → out-Stmt t ≡ If here (renamed e.names v) c d → line_of q here ≡ line_of p site →
          knows visible v ≡ true → Block e visible a c → Block e visible b d → Acts e visible visible s t
      loops : {e : Env} {visible : List ℕ} {s t : Stmt} {site here : SiteId} {v : Expr} {a c : List Stmt} →
          out-Stmt s ≡ While site v a → out-Stmt t ≡ While here (renamed e.names v) c → line_of q here ≡ line_of p site →
          knows visible v ≡ true → Block e visible a c → Acts e visible visible s t
      marks : {e : Env} {visible : List ℕ} {s t : Stmt} {r : ℕ} {site here : SiteId} {v : Expr} {a c : List Stmt} →
          out-Stmt s ≡ Region r site v a → out-Stmt t ≡ Region r here (renamed e.names v) c → line_of q here ≡ line_of p site →
          knows visible v ≡ true → Body e visible a c → Quiet e visible r → e.calls ≡ length p.functions → Acts e visible visible s t

    -- a statement becomes a piece of text
    pub data One : Env → List ℕ → List ℕ → Stmt → List Stmt → Type 0 where
      act : {e : Env} {visible behind : List ℕ} {s t : Stmt} → Acts e visible behind s t → One e visible behind s (t ∷ [])
      call : {e g : Env} {visible : List ℕ} {s : Stmt} {f line : ℕ} {args : List Expr} {binding body code : List Stmt} →
          out-Stmt s ≡ Call f line args → IsEnv g → Nested e g → g.calls ≡ f → Binds e g visible line (params_in (slice_get p.functions f)) args binding →
          Block g (seen_behind_params (global_numbers p) (params_in (slice_get p.functions f))) (body_in (slice_get p.functions f)) body →
          code ≡ binding ++ body → One e visible visible s code

    -- several statements, one after the other
    pub data Block : Env → List ℕ → List Stmt → List Stmt → Type 0 where
      done : {e : Env} {visible : List ℕ} → Block e visible [] []
      more : {e : Env} {visible behind : List ℕ} {s : Stmt} {rest first text code : List Stmt} →
          One e visible behind s first → Block e behind rest text → code ≡ first ++ text → Block e visible (s ∷ rest) code

    -- a statement at the top of a region's body
    pub data Inside : Env → List ℕ → List ℕ → Stmt → List Stmt → Type 0 where
      stays : {e : Env} {visible behind : List ℕ} {s : Stmt} {code : List Stmt} → One e visible behind s code → Inside e visible behind s code
      exits : {e : Env} {visible : List ℕ} {s t : Stmt} → Tries e visible s t → Inside e visible visible s (t ∷ [])

    -- a region's body, or the rest of one; no region stands in it
    pub data Body : Env → List ℕ → List Stmt → List Stmt → Type 0 where
      finished : {e : Env} {visible : List ℕ} → Body e visible [] []
      onward : {e : Env} {visible behind : List ℕ} {s : Stmt} {rest first text code : List Stmt} →
          Inside e visible behind s first → Body e behind rest text → list_all is_inner rest ≡ true → list_all is_inner text ≡ true → code ≡ first ++ text →
          Body e visible (s ∷ rest) code

  -- A region is left from here: what is visible behind it is visible here, and its body locals alone are cleared. Only `main` has regions.
  pub record Leaving (e : Env) (visible outer : List ℕ) (r : ℕ) (rest text : List Stmt) : Type 0 where
    pub within : Within outer visible
    pub quiet : Quiet e outer r
    pub main : e.calls ≡ length p.functions
    pub source : (cells : List ℤ) → cleared_leaving p rest cells ≡ clear_locals r p.vars cells
    pub target : (cells : List ℤ) → cleared_leaving q text cells ≡ clear_locals r q.vars cells

  -- what a frame has to do: at the end of a block its names are given up, and a break may leave its region
  pub data Todo : Env → List ℕ → List Stmt → List Stmt → Type 0 where
    none : {e : Env} {visible : List ℕ} → Todo e visible [] []
    next : {e : Env} {visible behind : List ℕ} {s : Stmt} {rest first text code : List Stmt} →
        One e visible behind s first → Todo e behind rest text → code ≡ first ++ text → Todo e visible (s ∷ rest) code
    exit : {e : Env} {visible outer : List ℕ} {r : ℕ} {s t : Stmt} {rest text code : List Stmt} →
        Tries e visible s t → Todo e visible rest text → Leaving e visible outer r rest text → Todo e outer (behind_region rest) (behind_region text) →
        code ≡ t ∷ text → Todo e visible (s ∷ rest) code
    leave : {e : Env} {visible outer : List ℕ} {statements code : List Stmt} → Within outer visible → Todo e outer statements code →
        Todo e visible statements code

  -- a visible variable is a file-scope one, or has the value of the variable that stands for it
  pub data Held (e : Env) (locals cells : List ℤ) (x : ℕ) : Type 0 where
    file : x < file_count p → Held e locals cells x
    held : (y : ℕ) → named_in e.names x ≡ Some y → get_or locals (x - file_count p) (pos 0) ≡ get_or cells (y - file_count p) (pos 0) → Held e locals cells x

  abbrev pub Agree : Env → List ℕ → List ℤ → List ℤ → Type 0
  Agree e visible locals cells = (x : VarId) → sees visible x ≡ true → Held e locals cells x.0

  -- a frame's own variables, and those behind the file-scope ones in the expanded program
  abbrev pub Room : List ℤ → List ℤ → Type 0
  Room locals cells = (length locals + file_count p ≡ length p.vars) × (length cells + file_count p ≡ length q.vars)
