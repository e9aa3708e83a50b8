-- What a region's body becomes in the expanded text: breaks stand at its top.
use Rattle.std.proofs.Common.{◌≡◌, refl, ap, ◌∙◌, ℕ, ◌<◌, ◌≤◌, true, List, length, Option, Some, slice_get}
use Rattle.std.specs.List.{list_all}
use Rattle.dp_base.specs.declared.SiteId.{SiteId}
use Rattle.dp_tree.specs.declared.Expr.{Expr}
use Rattle.dp_tree.specs.declared.Stmt.{Stmt, Row_of-Stmt, end_of-Stmt, more_of-Stmt}
use Rattle.dp_tree.specs.declared.Stmt.TheViews.{outs-Break}
use Rattle.dp_tree.specs.declared.Stmt.TheVariants as stmt
use Rattle.dp_tree.specs.declared.Stmt.TheOpen.{Break}
use Rattle.dp_tree.specs.declared.VarInfo.{VarInfo}
use Rattle.dp_tree.specs.declared.Program.{Program}
use Rattle.dp_tree.specs.Functions.{params_in}
use Rattle.dp_tree.specs.Numbering.{site_numbers, site_numbers_in, is_plain, is_inner, is_inner_in}
use Rattle.dp_tree.specs.Scoping.{knows, is_scope_in, seen_behind, in_scope, rows_in_scope, params_in_scope, global_numbers}
use Rattle.dp_calls.specs.Frame.{global_count}
use Rattle.dp_calls.specs.Renaming.{Renamed, renamed}
use Rattle.dp_calls.specs.Tables.{Tables, with_source_site, new_site}
use Rattle.dp_calls.specs.Expand.{Piece, nothing, alone, Calls, expand_one, expand_rows, piece_behind}
use Rattle.dp_tree.proofs.Heads.{and_true, and_make}
use Rattle.dp_tree.specs.Statements.{listed}
use Rattle.dp_calls.proofs.Relation.{PlaceOf, file_count, One, Inside, stays, exits, Body, finished, onward}
use Rattle.dp_calls.proofs.Tabled.{grows_not, grows_on, grows_source_site, Lies, moved}
use Rattle.dp_calls.proofs.Named.{NamesOk, steps_not, steps_on, Seen, seen_steps}
use Rattle.dp_calls.proofs.Made.{closes_before, Made, source_line, is_listed}
use Rattle.dp_calls.proofs.Declared.{lies_sited, names_sited, final_renamed}
use Rattle.dp_calls.proofs.PlainLaws.{Plain, inner_rows}
use Rattle.dp_calls.proofs.Pieces.{all_parts, Called, one_made}

inner_texts : {n : _} (rows : Row_of-Stmt n) → is_inner_in rows ≡ true → list_all is_inner (listed rows) ≡ true
inner_texts end_of-Stmt w = refl
inner_texts (more_of-Stmt s rest) w =
    let both = and_true (is_inner s) (is_inner_in rest) w in and_make (is_inner s) (list_all is_inner (listed rest)) both.0 (inner_texts rest both.1)

module _ (p q : Program) (places : (x : ℕ) (info : VarInfo) → slice_get p.vars x ≡ Some info → PlaceOf (file_count p) (global_count p) x info)
    (there : file_count p ≤ length p.vars)
    (linked : Option VarInfo → Option VarInfo → Type 0) (low n scope r : ℕ)
    (link : (info : VarInfo) (cell : ℕ) → is_scope_in scope info.scope ≡ true → linked (Some info) (Some (moved info cell r)))
    (calls : Calls) (limit : n ≤ length p.functions)
    (params_scoped : (f : ℕ) → params_in_scope p (global_numbers p) (params_in (slice_get p.functions f)) ≡ true)
    (called : (f : ℕ) → f < n → Called p q calls r f) (plain_called : (f k : ℕ) (names : List Renamed) (t : Tables) → Plain t (calls f k names t)) where
  abbrev pub InsideMade : List ℕ → List Renamed → Tables → List ℕ → Stmt → Piece → Type 0
  InsideMade visible names t piece_behind s a = Made p q linked low n names t piece_behind a (λ e. Inside p q e visible piece_behind s a.code)

  abbrev pub BodyMade : List ℕ → List Renamed → Tables → List Stmt → Piece → Type 0
  BodyMade visible names t statements a = Made p q linked low n names t visible a (λ e. Body p q e visible statements a.code)

  break_made : (site : SiteId) (v : Expr) (visible : List ℕ) (names : List Renamed) (t : Tables) → knows visible v ≡ true → is_listed p site.0 ≡ true →
      NamesOk p linked low names t → Lies p t → Seen p visible names →
      InsideMade visible names t visible (stmt.Break site v) (alone (stmt.Break (new_site t) (renamed names v)) (nothing names (with_source_site p r site t)))
  break_made site v visible names t known listed ok lies seen =
      let sited = with_source_site p r site t in let named = names_sited p q places there linked low n scope r link site names t ok in
      record {
        grows = grows_source_site p r site t;
        lies = lies_sited p q places there linked low n scope r link site t lies;
        named = named;
        steps = steps_not names (length t.vars);
        seen = seen;
        becomes = λ e closes. exits (record {
          site = site;
          here = new_site t;
          cond = v;
          source = outs-Break site v;
          target = outs-Break (new_site t) (renamed names v)
              ∙ ap (λ (w : Expr). Break (new_site t) w) (final_renamed p q places there linked low n scope r link visible names sited e named
              seen closes v known);
          line = source_line p q r site t listed closes.into;
          known = known;
        });
      }

  stays_made : {visible piece_behind : List ℕ} {names : List Renamed} {t : Tables} {s : Stmt} {a : Piece} →
      Made p q linked low n names t piece_behind a (λ e. One p q e visible piece_behind s a.code) → InsideMade visible names t piece_behind s a
  stays_made made = record {
    grows = made.grows;
    lies = made.lies;
    named = made.named;
    steps = made.steps;
    seen = made.seen;
    becomes = λ e closes. stays (made.becomes e closes);
  }

  abbrev pub InsideOf : Stmt → Type 0
  InsideOf s = (visible : List ℕ) (names : List Renamed) (t : Tables) → in_scope p scope n visible s ≡ true → list_all (is_listed p) (site_numbers s) ≡ true →
      NamesOk p linked low names t → Lies p t → Seen p visible names →
      InsideMade visible names t (seen_behind visible s) s (expand_one p calls r s names t)

  plain_made : (s : Stmt) → is_plain s ≡ true → InsideOf s
  plain_made s plain visible names t scoped listed ok lies seen =
      stays_made (one_made p q places there linked low n scope r link calls limit params_scoped called s visible names t scoped plain listed ok lies seen)

  pub inner_made : (s : Stmt) → is_inner s ≡ true → InsideOf s
  inner_made (stmt.Break site v) w =
      λ visible names t scoped listed ok lies seen. break_made site v visible names t scoped (and_true (is_listed p site.0) true listed).0 ok lies seen
  inner_made (stmt.Region' k site v m body) w = absurd (cc w)
  inner_made s w = plain_made s w

  pub body_made : {m : _} (rows : Row_of-Stmt m) (visible : List ℕ) (names : List Renamed) (t : Tables) → rows_in_scope p scope n visible rows ≡ true →
      is_inner_in rows ≡ true → list_all (is_listed p) (site_numbers_in rows) ≡ true →
      NamesOk p linked low names t → Lies p t → Seen p visible names → BodyMade visible names t (listed rows) (expand_rows p calls r rows names t)
  body_made end_of-Stmt visible names t scoped inner listed ok lies seen =
      record { grows = grows_not t; lies = lies; named = ok; steps = steps_not names (length t.vars); seen = seen; becomes = λ e closes. finished }
  body_made (more_of-Stmt s rest) visible names t scoped inner listed ok lies seen =
      let both = and_true (in_scope p scope n visible s) (rows_in_scope p scope n (seen_behind visible s) rest) scoped in
      let fits = and_true (is_inner s) (is_inner_in rest) inner in
      let parts = all_parts (is_listed p) (site_numbers s) (site_numbers_in rest) listed in
      let a : Piece = expand_one p calls r s names t in let first = inner_made s fits.0 visible names t both.0 parts.0 ok lies seen in
      let second = body_made rest (seen_behind visible s) a.names a.tables both.1 fits.1 parts.1 first.named first.lies first.seen in
      record {
        grows = grows_on first.grows second.grows;
        lies = second.lies;
        named = second.named;
        steps = steps_on first.grows.long first.steps second.steps;
        seen = seen_steps p visible (steps_on first.grows.long first.steps second.steps) seen;
        becomes = λ e closes. onward (first.becomes e (closes_before p q low n e second.grows second.steps closes)) (second.becomes e closes)
            (inner_texts rest fits.1) (inner_rows p calls plain_called r rest a.names a.tables fits.1).0 refl;
      }
