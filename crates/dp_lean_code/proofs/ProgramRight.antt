-- The walk over the plan's region makes the code of each stage's lean text.
use Rattle.dp_semantics.proofs.Names.{◌≡◌, refl, sym, ap, ◌∙◌, subst, append-nil, arith, eq-eqb, ℕ, ◌-◌, ◌<◌, ◌≤◌, nat_le, if◌then◌else◌, Bool, true, List, []}
use Rattle.dp_semantics.proofs.Names.{◌∷◌, ◌++◌, length, map, Stmt, out-Stmt, Stmt-F, Region, Program, Plan, Access, accesses, site_of, stage_of, first_site}
use Rattle.dp_semantics.proofs.Names.{region_statement, region_accesses, project, project_all, fits_plan, last}
use Rattle.std.proofs.Common.{slice_index}
use Rattle.dp_tree.specs.declared.Stmt.TheVariants as tree
use Rattle.dp_tree.specs.declared.Stmt.TheVariants.{outs-If}
use Rattle.dp_tree.specs.Inlined.{IsInlined}
use Rattle.dp_plan.specs.CheckedTable.{IsTabled}
use Rattle.dp_plan.specs.Written.{access_site}
use Rattle.dp_plan.proofs.Ascent.{Ascends}
use Rattle.dp_semantics.proofs.Each.{Each, each_map}
use Rattle.dp_semantics.proofs.Heads.{accesses_all, accesses_at, accesses_out, head_access, project_at, project_out}
use Rattle.dp_semantics.proofs.Setting.{Accepted, Sound}
use Rattle.dp_theorem.proofs.Fitting.{accepted}
use Rattle.dp_net.specs.NetItems.{Marks}
use Rattle.dp_net.specs.BlockText.{own_site, sought_inside}
use Rattle.dp_net.specs.Hidden.{pays_off}
use Rattle.dp_net.proofs.Assembled.{quieted}
use Rattle.dp_net.proofs.HiddenCells.{all_sound}
use Rattle.dp_net.proofs.Texts.{Text}
use Rattle.dp_lean.proofs.Placed.{numbered, some_epoch}
use Rattle.dp_code.specs.declared.Op.TheVariants as op
use Rattle.dp_lean_code.specs.declared.LeanOp.TheVariants.{Plain}
use Rattle.dp_lean_code.specs.declared.tables.LeanTables.{LeanTables}
use Rattle.dp_lean_code.specs.Known.{AreTablesOf, paying_marks}
use Rattle.dp_lean_code.specs.LeanCode.{lean_code}
use Rattle.dp_lean_code.specs.steps.Looked.{known_of}
use Rattle.dp_lean_code.specs.steps.Walked.{Known}
unfoldable use Rattle.dp_lean_code.specs.steps.Walked.{part, regions}
use Rattle.dp_lean_code.proofs.Missing.{none_below, none_past, block_none}
use Rattle.dp_lean_code.proofs.TablesRight.{by_number, done_right}
use Rattle.dp_lean_code.proofs.WalkedPieces.{Piece, piece_alone}
use Rattle.dp_lean_code.proofs.WalkedRight.{region_one, text_one}
use Rattle.dp_lean_code.proofs.WholeTexts.{first_text, whole_all}

module _ (p : Program) (plan : Plan) (inlined : IsInlined p) (fits : fits_plan p plan ≡ true) where
  abbrev pub m : Marks
  m = paying_marks p plan

  pub ok : Accepted p plan
  ok = accepted p plan fits

  up : (k : ℕ) × Ascends k (map access_site (region_accesses p plan))
  up = numbered p plan inlined ok

  these : region_accesses p plan ≡ head_access (Region plan.region ok.site ok.cond ok.body) ∷ accesses_all ok.body
  these = ap accesses_all ok.region ∙ append-nil (accesses ok.statement) ∙ accesses_out ok.statement ∙ ap accesses_at ok.is

  -- they go up from the region's first one on
  first_is : first_site p plan ≡ up.0
  first_is = ok.first ∙ (subst (λ (all : List Access). Ascends up.0 (map access_site all)) these up.1).0

  pub ascends : Ascends (first_site p plan) (map access_site (region_accesses p plan))
  ascends = subst (λ (k : ℕ). Ascends k (map access_site (region_accesses p plan))) (sym first_is) up.1

  counted : (f : ℕ) → (if nat_le (first_site p plan) f then slice_index (map (λ (a : Access). length (m.block_at a.site)) (region_accesses p plan))
      (f - first_site p plan) else 0) ≡ length (m.block_at f)
  counted f = by_number (λ n. length (m.block_at n)) (region_accesses p plan) (first_site p plan) f ascends
      (λ low. ap length (block_none p plan (pays_off p plan) f (region_statement p plan)
      (none_below (first_site p plan) f (region_accesses p plan) ascends low)))
      (λ high. ap length (block_none p plan (pays_off p plan) f (region_statement p plan)
      (none_past (first_site p plan) f (region_accesses p plan) ascends high)))

  pub own_none : m.block_at (site_of (out-Stmt ok.statement)).0 ≡ []
  own_none =
      let f = own_site p plan ok.statement in
      ap (Rattle.dp_net.specs.Hidden.block_in p plan (pays_off p plan) f) ok.region
      ∙ ap (λ (c : Bool). if c then [] else sought_inside p plan (pays_off p plan) f ok.statement) (eq-eqb f f refl)

  pub sound_body : Each (Sound p plan) (accesses_all ok.body)
  sound_body = (subst (λ (all : List Access). Each (Sound p plan) all) these ok.sound).1

  whole_body : project_all p plan (last plan) ok.body ≡ ok.body
  whole_body = whole_all p plan (last plan) ok.body ok.well (each_map (Sound p plan) (λ a. stage_of p plan a.site ≤ last plan) (λ a h. let e = h.early in
      omega (arith, e)) (accesses_all ok.body) sound_body)

  text : Text m (project_all p plan (last plan) (region_statement p plan))
  text = (quieted (some_epoch p plan ok up.0 up.1 m (all_sound p plan) []) fits up.0 up.1 (pays_off p plan)).texts (last plan)

  abbrev turn : List Stmt → Stmt
  turn xs = tree.If ok.site ok.cond xs []

  turn_is : project_all p plan (last plan) (region_statement p plan) ≡ turn (project_all p plan (last plan) ok.body) ∷ []
  turn_is = ap (project_all p plan (last plan)) ok.region ∙ append-nil (project p plan (last plan) ok.statement) ∙ project_out p plan (last plan) ok.statement
      ∙ ap (project_at p plan (last plan)) ok.is

  pub body_text : Text m ok.body
  body_text = subst (Text m) whole_body
      (first_text m (turn (project_all p plan (last plan) ok.body)) [] ok.site ok.cond (project_all p plan (last plan) ok.body) []
      (outs-If ok.site ok.cond _ [])
      (ap (λ (h : Stmt-F Stmt). m.block_at (site_of h).0) (outs-If ok.site ok.cond (project_all p plan (last plan) ok.body) [])
      ∙ ap (λ (h : Stmt-F Stmt). m.block_at (site_of h).0) (sym ok.is) ∙ own_none)
      (subst (Text m) turn_is text))

  module _ (tabled : IsTabled p plan) (tables : LeanTables) (known : AreTablesOf p plan tables) (s : ℕ) (low : 0 < s) (high : s ≤ last plan) where
    abbrev pub k : Known
    k = known_of p plan tables s

    pub counts : (f : ℕ) → k.count f ≡ length (m.block_at f)
    counts f = ap (λ (blocks : List ℕ). if nat_le (first_site p plan) f then slice_index blocks (f - first_site p plan) else 0) known.blocks ∙ counted f

    one : Piece p plan s m (project p plan s ok.statement) (part p plan s k ok.statement)
    one =
        let marked = (quieted (some_epoch p plan ok up.0 up.1 m (all_sound p plan) []) fits up.0 up.1 (pays_off p plan)).marked in
        let dones = done_right p plan ok.sound s low high tables.done known.done in
        region_one p plan s m k tabled dones [] marked counts ok.statement plan.region ok.site ok.cond ok.body own_none ok.is
        (text_one p plan s m k tabled dones [] marked counts body_text)

    pub walked_code : regions p plan s k (region_statement p plan) 0 ++ Plain op.End ∷ [] ≡ lean_code p plan s m
    unfolding regions
    walked_code =
        ap (λ ops. ops ++ Plain op.End ∷ []) (ap (λ (xs : List Stmt). regions p plan s k xs 0) ok.region ∙ append-nil (part p plan s k ok.statement 0)
        ∙ sym (piece_alone p plan s m one 0)
        ∙ ap (λ (xs : List Stmt). Rattle.dp_lean_code.proofs.WalkedPieces.lean_of p plan s m xs 0) (sym (append-nil (project p plan s ok.statement))
        ∙ ap (project_all p plan s) (sym ok.region)))
