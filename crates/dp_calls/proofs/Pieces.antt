-- What the statements of a text become in the expanded text.
use Rattle.std.proofs.Common.{◌≡◌, inl, inr, refl, ap, ap₂, ◌∙◌, ℕ, ◌+◌, ◌<◌, ◌≤◌, ◌==◌, Bool, true, ◌&&◌, List, [], ◌∷◌, ◌++◌, length, Option, Some, slice_get}
use Rattle.std.proofs.Common.{nat_lt, arith, ltb-true, eqb-true}
use Rattle.std.specs.List.{list_all}
use Rattle.dp_base.specs.declared.SiteId.{SiteId}
use Rattle.dp_base.specs.declared.VarId.{VarId}
use Rattle.dp_tree.specs.declared.Expr.{Expr}
use Rattle.dp_tree.specs.declared.Stmt.{Stmt, Row_of-Stmt, end_of-Stmt, more_of-Stmt}
use Rattle.dp_tree.specs.declared.Stmt.TheViews.{outs-Store, outs-Print, outs-If, outs-If', outs-While, outs-While', outs-Call}
use Rattle.dp_tree.specs.declared.Stmt.TheVariants as stmt
use Rattle.dp_tree.specs.declared.Stmt.TheOpen.{Store, Print, If, While}
use Rattle.dp_tree.specs.declared.VarInfo.{VarInfo}
use Rattle.dp_tree.specs.declared.Program.{Program}
use Rattle.dp_tree.specs.Functions.{body_in, params_in}
use Rattle.dp_tree.specs.Numbering.{site_numbers, site_numbers_in, site_numbers_all, is_plain, is_plain_in}
use Rattle.dp_tree.specs.Scoping.{sees, knows, is_scope_in, seen_behind, in_scope, rows_in_scope, all_in_scope, params_in_scope, seen_behind_params}
use Rattle.dp_tree.specs.Scoping.{global_numbers}
use Rattle.dp_calls.specs.Frame.{global_count}
use Rattle.dp_calls.specs.Renaming.{Renamed, target_of, renamed}
use Rattle.dp_calls.specs.Tables.{Tables, with_source_site, new_site}
use Rattle.dp_calls.specs.Expand.{Piece, nothing, alone, followed_by, Calls, bindings, back_to, expand_one, expand_rows, expand_list, piece_behind}
use Rattle.dp_tree.proofs.Heads.{and_true, and_make}
use Rattle.dp_tree.specs.Statements.{listed as texts}
use Rattle.dp_tree.proofs.InnerTexts.{shown_listed}
use Rattle.dp_calls.proofs.Relation.{Env, PlaceOf, file_count, IsEnv, Nested, One, act, call, Block, done, more, stores, prints, branches, loops, Binds}
use Rattle.dp_calls.proofs.SameValues.{numbers_below}
use Rattle.dp_calls.proofs.Tabled.{Grows, grows_not, grows_on, grows_source_site, Lies, moved}
use Rattle.dp_calls.proofs.Named.{NamesOk, names_grow, names_none, steps_not, steps_on, Seen, seen_steps}
use Rattle.dp_calls.proofs.Made.{Closes, closes_before, Made, same_target, source_line, is_listed}
use Rattle.dp_calls.proofs.Passed.{Homely, passed}
use Rattle.dp_calls.proofs.Declared.{lies_sited, names_sited, final_renamed, assigned_made}

pub all_parts : {X : Type 0} (f : X → Bool) (xs ys : List X) → list_all f (xs ++ ys) ≡ true → (list_all f xs ≡ true) × (list_all f ys ≡ true)
all_parts f [] ys h = (refl, h)
all_parts f (x ∷ xs) ys h =
    let both = and_true (f x) (list_all f (xs ++ ys)) h in let rest = all_parts f xs ys both.1 in
    (and_make (f x) (list_all f xs) both.0 rest.0, rest.1)

-- the variables that are visible where the body of function f begins
abbrev pub seen_in : Program → ℕ → List ℕ
seen_in p f = seen_behind_params (global_numbers p) (params_in (slice_get p.functions f))

-- what the call of function f becomes, behind its bindings
abbrev pub Called : Program → Program → Calls → ℕ → ℕ → Type 0
Called p q calls r f = (low : ℕ) (names : List Renamed) (t : Tables) → file_count p ≤ low → NamesOk p (Homely r) low names t → Lies p t →
    Seen p (seen_in p f) names →
    Made p q (Homely r) low f names t (seen_in p f) (calls f r names t) (λ g. Block p q g (seen_in p f) (body_in (slice_get p.functions f))
    (calls f r names t).code)

module _ (p q : Program) (places : (x : ℕ) (info : VarInfo) → slice_get p.vars x ≡ Some info → PlaceOf (file_count p) (global_count p) x info)
    (there : file_count p ≤ length p.vars)
    (linked : Option VarInfo → Option VarInfo → Type 0) (low n scope r : ℕ)
    (link : (info : VarInfo) (cell : ℕ) → is_scope_in scope info.scope ≡ true → linked (Some info) (Some (moved info cell r)))
    (calls : Calls) (limit : n ≤ length p.functions)
    (params_scoped : (f : ℕ) → params_in_scope p (global_numbers p) (params_in (slice_get p.functions f)) ≡ true)
    (called : (f : ℕ) → f < n → Called p q calls r f) where
  -- what a statement, and what several become
  abbrev pub OneMade : List ℕ → List Renamed → Tables → List ℕ → Stmt → Piece → Type 0
  OneMade visible names t piece_behind s a = Made p q linked low n names t piece_behind a (λ e. One p q e visible piece_behind s a.code)

  abbrev pub BlockMade : List ℕ → List Renamed → Tables → List Stmt → Piece → Type 0
  BlockMade visible names t statements a = Made p q linked low n names t visible a (λ e. Block p q e visible statements a.code)

  module _ (site : SiteId) (visible : List ℕ) (names : List Renamed) (t : Tables) (listed : is_listed p site.0 ≡ true) (ok : NamesOk p linked low names t)
      (lies : Lies p t) (seen : Seen p visible names) where
    abbrev sited : Tables
    sited = with_source_site p r site t

    names_in_sited : NamesOk p linked low names sited
    names_in_sited = names_sited p q places there linked low n scope r link site names t ok

    final : (e : Env) → Closes p q low n names sited e → (v : Expr) → knows visible v ≡ true → renamed names v ≡ renamed e.names v
    final e closes v k = final_renamed p q places there linked low n scope r link visible names sited e names_in_sited seen closes v k

    -- a statement without statements inside
    simple_made : (s made : Stmt) → ((e : Env) → Closes p q low n names sited e → One p q e visible visible s (made ∷ [])) →
        OneMade visible names t visible s (alone made (nothing names sited))
    simple_made s made becomes = record {
      grows = grows_source_site p r site t;
      lies = lies_sited p q places there linked low n scope r link site t lies;
      named = names_in_sited;
      steps = steps_not names (length t.vars);
      seen = seen;
      becomes = becomes;
    }

    pub store_made : (x : VarId) (i v : Expr) → sees visible x ≡ true → knows visible i ≡ true → knows visible v ≡ true →
        OneMade visible names t visible (stmt.Store site x i v) (alone (stmt.Store (new_site t) (target_of names x) (renamed names i) (renamed names v))
        (nothing names sited))
    store_made x i v sees_x known_i known_v =
        simple_made (stmt.Store site x i v) (stmt.Store (new_site t) (target_of names x) (renamed names i) (renamed names v)) (λ e closes.
        (let target = same_target p q linked low n names sited e names_in_sited closes visible seen x sees_x in
        act (stores (outs-Store site x i v)
        (outs-Store (new_site t) (target_of names x) (renamed names i) (renamed names v)
        ∙ ap (λ (y : VarId). Store (new_site t) y (renamed names i) (renamed names v)) target
        ∙ ap₂ (λ (a b : Expr). Store (new_site t) (target_of e.names x) a b) (final e closes i known_i) (final e closes v known_v))
        (source_line p q r site t listed closes.into) known_i known_v sees_x)))

    pub print_made : (v : Expr) → knows visible v ≡ true → OneMade visible names t visible (stmt.Print site v)
        (alone (stmt.Print (new_site t) (renamed names v)) (nothing names sited))
    print_made v known_v =
        simple_made (stmt.Print site v) (stmt.Print (new_site t) (renamed names v)) (λ e closes.
        act (prints (outs-Print site v) (outs-Print (new_site t) (renamed names v) ∙ ap (λ (a : Expr). Print (new_site t) a) (final e closes v known_v))
        (source_line p q r site t listed closes.into) known_v))

    pub branch_made : (v : Expr) (m : _) (one : Row_of-Stmt _) (k : _) (other : Row_of-Stmt _) (a b : Piece) → knows visible v ≡ true →
        BlockMade visible names sited (texts one) a → BlockMade visible a.names a.tables (texts other) b →
        OneMade visible names t visible (stmt.If' site v m one k other) (alone (stmt.If (new_site t) (renamed names v) a.code b.code) b)
    branch_made v m one k other a b known_v first second = record {
      grows = grows_on (grows_source_site p r site t) (grows_on first.grows second.grows);
      lies = second.lies;
      named = second.named;
      steps = steps_on first.grows.long first.steps second.steps;
      seen = second.seen;
      becomes = λ e closes.
          (let middle = closes_before p q low n e second.grows second.steps closes in
          let begin = closes_before p q low n e first.grows first.steps middle in
          act (branches (outs-If' site v m one k other ∙ ap₂ (λ (x y : List Stmt). If site v x y) (shown_listed m one) (shown_listed k other))
          (outs-If (new_site t) (renamed names v) a.code b.code ∙ ap (λ (w : Expr). If (new_site t) w a.code b.code) (final e begin v known_v))
          (source_line p q r site t listed begin.into) known_v (first.becomes e middle) (second.becomes e closes)));
    }

    pub loop_made : (v : Expr) (m : _) (body : Row_of-Stmt _) (a : Piece) → knows visible v ≡ true → BlockMade visible names sited (texts body) a →
        OneMade visible names t visible (stmt.While' site v m body) (alone (stmt.While (new_site t) (renamed names v) a.code) a)
    loop_made v m body a known_v first = record {
      grows = grows_on (grows_source_site p r site t) first.grows;
      lies = first.lies;
      named = first.named;
      steps = first.steps;
      seen = first.seen;
      becomes = λ e closes.
          (let begin = closes_before p q low n e first.grows first.steps closes in
          act (loops (outs-While' site v m body ∙ ap (λ (x : List Stmt). While site v x) (shown_listed m body))
          (outs-While (new_site t) (renamed names v) a.code ∙ ap (λ (w : Expr). While (new_site t) w a.code) (final e begin v known_v))
          (source_line p q r site t listed begin.into) known_v (first.becomes e closes)));
    }

  module _ (visible : List ℕ) (names : List Renamed) (t : Tables) (ok : NamesOk p linked low names t) (lies : Lies p t) (seen : Seen p visible names) where
    call_by : (f line : ℕ) (args : List Expr) (a b : Piece) → f < n →
        Made p q (Homely r) (length t.vars) f [] t (seen_in p f) a (λ g. (e : Env) → ((v : Expr) → knows visible v ≡ true → renamed names v ≡ renamed e.names v)
        → Binds p q e g visible line (params_in (slice_get p.functions f)) args a.code) →
        Made p q (Homely r) (length t.vars) f a.names a.tables (seen_in p f) b (λ g. Block p q g (seen_in p f) (body_in (slice_get p.functions f)) b.code) →
        OneMade visible names t visible (stmt.Call f line args) (back_to names (piece_behind a b))
    call_by f line args a b less first second =
        let g : Env = record { low = length t.vars; high = length b.tables.vars; names = b.names; calls = f } in
        let grew : Grows t b.tables = grows_on first.grows second.grows in
        record {
          grows = grew;
          lies = second.lies;
          named = names_grow p linked low grew ok;
          steps = steps_not names (length t.vars);
          seen = seen;
          becomes = λ e closes.
              (let own : Closes p q (length t.vars) f b.names b.tables g = record {
                begins = refl;
                may_call = refl;
                high = omega arith;
                ends = steps_not b.names (length b.tables.vars);
                into = closes.into;
                files = λ x y at. (second.named.source x y at).0;
              } in
              let env : IsEnv p q g = record {
                source = second.named.source;
                target = second.named.target;
                apart = second.named.apart;
                above = lies.above;
                within = closes.into.long;
                earlier = omega (arith, less, limit);
              } in
              let nested : Nested p q e g = record {
                low = omega (arith, closes.begins, ok.begun);
                high = closes.high;
                others = λ x y at. elim (closes.ends.later x y at) [ inl before ↦ inl (ok.target x y before).1 | inr above ↦ inr above ];
                calls = omega (arith, less, closes.may_call);
              } in
              let before = closes_before p q low n e grew (steps_not names (length t.vars)) closes in
              call (outs-Call f line args) env nested refl
              (first.becomes g (closes_before p q (length t.vars) f g second.grows second.steps own) e (λ v k. final_renamed p q places there linked low n scope
              r link visible names t e ok seen before v k))
              (second.becomes g own) refl);
        }

    pub call_made : (f line : ℕ) (args : List Expr) → f < n → list_all (knows visible) args ≡ true →
        length args ≡ length (params_in (slice_get p.functions f)) →
        OneMade visible names t visible (stmt.Call f line args)
        (back_to names (followed_by (bindings p r line names (params_in (slice_get p.functions f)) args [] t) (calls f r)))
    call_made f line args less known_all long =
        let first = passed p q places (length t.vars) f r line names visible (params_in (slice_get p.functions f)) args (global_numbers p) [] t
        (params_scoped f) long known_all
        (names_none p (Homely r) (length t.vars) t (omega arith)) lies
        (λ x at. inl (let below : x.0 < 0 + file_count p = numbers_below 0 (file_count p) x at in omega (arith, below))) (λ w y at. absurd (cc at)) in
        let a : Piece = bindings p r line names (params_in (slice_get p.functions f)) args [] t in
        call_by f line args a (calls f r a.names a.tables) less first (called f less (length t.vars) a.names a.tables lies.above first.named
        first.lies first.seen)

  -- one statement, and those behind it
  pub both_made : (visible : List ℕ) (names : List Renamed) (t : Tables) (s : Stmt) (rest : List Stmt) (a b : Piece) → Seen p visible names →
      OneMade visible names t (seen_behind visible s) s a → BlockMade (seen_behind visible s) a.names a.tables rest b →
      BlockMade visible names t (s ∷ rest) (piece_behind a b)
  both_made visible names t s rest a b seen first second = record {
    grows = grows_on first.grows second.grows;
    lies = second.lies;
    named = second.named;
    steps = steps_on first.grows.long first.steps second.steps;
    seen = seen_steps p visible (steps_on first.grows.long first.steps second.steps) seen;
    becomes = λ e closes. more (first.becomes e (closes_before p q low n e second.grows second.steps closes)) (second.becomes e closes) refl;
  }

  pub none_made : (visible : List ℕ) (names : List Renamed) (t : Tables) → NamesOk p linked low names t → Lies p t → Seen p visible names →
      BlockMade visible names t [] (nothing names t)
  none_made visible names t ok lies seen =
      record { grows = grows_not t; lies = lies; named = ok; steps = steps_not names (length t.vars); seen = seen; becomes = λ e closes. done }

  mutual
    pub one_made : (s : Stmt) (visible : List ℕ) (names : List Renamed) (t : Tables) → in_scope p scope n visible s ≡ true → is_plain s ≡ true →
        list_all (is_listed p) (site_numbers s) ≡ true →
        NamesOk p linked low names t → Lies p t → Seen p visible names → OneMade visible names t (seen_behind visible s) s (expand_one p calls r s names t)
    one_made (stmt.Assign site x v) visible names t scoped plain listed ok lies seen =
        assigned_made p q places there linked low n scope r link site x v visible names t scoped (and_true (is_listed p site.0) true listed).0 ok lies seen
    one_made (stmt.Store site x i v) visible names t scoped plain listed ok lies seen =
        let both = and_true (sees visible x) (knows visible i && knows visible v) scoped in
        let inner = and_true (knows visible i) (knows visible v) both.1 in
        store_made site visible names t (and_true (is_listed p site.0) true listed).0 ok lies seen x i v both.0 inner.0 inner.1
    one_made (stmt.Print site v) visible names t scoped plain listed ok lies seen =
        print_made site visible names t (and_true (is_listed p site.0) true listed).0 ok lies seen v scoped
    one_made (stmt.If' site v m one k other) visible names t scoped plain listed ok lies seen =
        let both = and_true (knows visible v) (rows_in_scope p scope n visible one && rows_in_scope p scope n visible other) scoped in
        let inner = and_true (rows_in_scope p scope n visible one) (rows_in_scope p scope n visible other) both.1 in
        let plainly = and_true (is_plain_in one) (is_plain_in other) plain in
        let sites = and_true (is_listed p site.0) (list_all (is_listed p) (site_numbers_in one ++ site_numbers_in other)) listed in
        let parts = all_parts (is_listed p) (site_numbers_in one) (site_numbers_in other) sites.1 in
        let a : Piece = expand_rows p calls r one names (with_source_site p r site t) in
        let first = rows_made one visible names (with_source_site p r site t) inner.0 plainly.0 parts.0
        (names_sited p q places there linked low n scope r link site names t ok) (lies_sited p q places there linked low n scope r link site t lies) seen in
        let second = rows_made other visible a.names a.tables inner.1 plainly.1 parts.1 first.named first.lies first.seen in
        branch_made site visible names t sites.0 ok lies seen v m one k other a (expand_rows p calls r other a.names a.tables) both.0 first second
    one_made (stmt.While' site v m body) visible names t scoped plain listed ok lies seen =
        let both = and_true (knows visible v) (rows_in_scope p scope n visible body) scoped in
        let sites = and_true (is_listed p site.0) (list_all (is_listed p) (site_numbers_in body)) listed in
        let first = rows_made body visible names (with_source_site p r site t) both.1 plain sites.1 (names_sited p q places there linked low n scope r link site
        names t ok) (lies_sited p q places there linked low n scope r link site t lies) seen in
        loop_made site visible names t sites.0 ok lies seen v m body (expand_rows p calls r body names (with_source_site p r site t)) both.0 first
    one_made (stmt.Call f line args) visible names t scoped plain listed ok lies seen =
        let both = and_true (nat_lt f n) (list_all (knows visible) args && (length args == length (params_in (slice_get p.functions f)))) scoped in
        let inner = and_true (list_all (knows visible) args) (length args == length (params_in (slice_get p.functions f))) both.1 in
        call_made visible names t ok lies seen f line args (ltb-true f n both.0) inner.0
        (eqb-true (length args) (length (params_in (slice_get p.functions f))) inner.1)
    one_made _ visible names t scoped plain listed ok lies seen = absurd (cc plain)

    pub rows_made : {m : _} (rows : Row_of-Stmt m) (visible : List ℕ) (names : List Renamed) (t : Tables) → rows_in_scope p scope n visible rows ≡ true →
        is_plain_in rows ≡ true → list_all (is_listed p) (site_numbers_in rows) ≡ true →
        NamesOk p linked low names t → Lies p t → Seen p visible names → BlockMade visible names t (texts rows) (expand_rows p calls r rows names t)
    rows_made end_of-Stmt visible names t scoped plain listed ok lies seen = none_made visible names t ok lies seen
    rows_made (more_of-Stmt s rest) visible names t scoped plain listed ok lies seen =
        let both = and_true (in_scope p scope n visible s) (rows_in_scope p scope n (seen_behind visible s) rest) scoped in
        let plainly = and_true (is_plain s) (is_plain_in rest) plain in
        let parts = all_parts (is_listed p) (site_numbers s) (site_numbers_in rest) listed in
        let a : Piece = expand_one p calls r s names t in let first = one_made s visible names t both.0 plainly.0 parts.0 ok lies seen in
        let second = rows_made rest (seen_behind visible s) a.names a.tables both.1 plainly.1 parts.1 first.named first.lies first.seen in
        both_made visible names t s (texts rest) a (expand_rows p calls r rest a.names a.tables) seen first second

  pub list_made : (statements : List Stmt) (visible : List ℕ) (names : List Renamed) (t : Tables) → all_in_scope p scope n visible statements ≡ true →
      list_all is_plain statements ≡ true → list_all (is_listed p) (site_numbers_all statements) ≡ true →
      NamesOk p linked low names t → Lies p t → Seen p visible names → BlockMade visible names t statements (expand_list p calls r statements names t)
  list_made [] visible names t scoped plain listed ok lies seen = none_made visible names t ok lies seen
  list_made (s ∷ rest) visible names t scoped plain listed ok lies seen =
      let both = and_true (in_scope p scope n visible s) (all_in_scope p scope n (seen_behind visible s) rest) scoped in
      let plainly = and_true (is_plain s) (list_all is_plain rest) plain in
      let parts = all_parts (is_listed p) (site_numbers s) (site_numbers_all rest) listed in
      let a : Piece = expand_one p calls r s names t in let first = one_made s visible names t both.0 plainly.0 parts.0 ok lies seen in
      let second = list_made rest (seen_behind visible s) a.names a.tables both.1 plainly.1 parts.1 first.named first.lies first.seen in
      both_made visible names t s rest a (expand_list p calls r rest a.names a.tables) seen first second
