-- What the code finds of each site is its kind.
use Rattle.dp_semantics.proofs.Names.{◌≡◌, refl, sym, ap, ◌∙◌, arith, append-nil, le-ltb, lt-ltb, ℕ, zero, suc, ◌+◌, ◌-◌, ◌<◌, ◌≤◌, ◌==◌, ◌&&◌, ◌||◌}
use Rattle.dp_semantics.proofs.Names.{if◌then◌else◌, not, true, List, [], ◌∷◌, length, map, nat_lt, list_any, flat_map, Stmt, Program, Plan, stage_of, project}
use Rattle.dp_semantics.proofs.Names.{project_all, fits_plan, last}
use Rattle.dp_tree.specs.Inlined.{IsInlined}
use Rattle.dp_tree.specs.Numbering.{numbers_from}
use Rattle.dp_plan.specs.CheckedTable.{IsTabled}
use Rattle.dp_net.specs.NetItems.{Marks, is_nil}
use Rattle.dp_net.specs.Hidden.{pays_off}
use Rattle.dp_net.proofs.Assembled.{quieted}
use Rattle.dp_net.proofs.HiddenCells.{all_sound}
use Rattle.dp_lean.specs.Laws.{is_read}
use Rattle.dp_lean.proofs.Placed.{numbered, some_epoch}
use Rattle.dp_columns.specs.declared.ColumnKind.TheVariants as kind
use Rattle.dp_lean_code.specs.declared.tables.LeanTables.{LeanTables}
use Rattle.dp_lean_code.specs.Known.{AreTablesOf, paying_marks}
use Rattle.dp_lean_code.specs.steps.Looked.{known_of}
use Rattle.dp_lean_code.proofs.ProgramRight.{ok, own_none, body_text, counts}
use Rattle.dp_lean_code.proofs.TablesRight.{done_right}
use Rattle.dp_lean_kinds.specs.declared.form.FormedSite.{FormedSite}
use Rattle.dp_lean_kinds.specs.ColumnKinds.{values_of, is_needed, kind_of, formed_sites, region_kinds}
use Rattle.dp_lean_kinds.specs.steps.Read.{has_number, read, stages_read}
unfoldable use Rattle.dp_lean_kinds.specs.steps.Read.{stage_read}
use Rattle.dp_lean_kinds.specs.steps.KindAmong.{kind_among}
use Rattle.dp_lean_kinds.proofs.ReadPieces.{Piece, number_join, piece_alone}
use Rattle.dp_lean_kinds.proofs.ReadWhole.{region_one, text_one}

module _ (p : Program) (plan : Plan) (inlined : IsInlined p) (fits : fits_plan p plan ≡ true) (tabled : IsTabled p plan) (tables : LeanTables)
    (known : AreTablesOf p plan tables) where
  abbrev m : Marks
  m = paying_marks p plan

  read_is : (s : ℕ) → 0 < s → s ≤ last plan → (y : ℕ) → is_read p plan m s y ≡ has_number y (stage_read p plan tables s)
  unfolding stage_read
  read_is s low high y =
      let a = ok p plan inlined fits in
      let k = known_of p plan tables s in
      let n = numbered p plan inlined a in
      let marked = (quieted (some_epoch p plan a n.0 n.1 m (all_sound p plan) []) fits n.0 n.1 (pays_off p plan)).marked in
      let dones = done_right p plan a.sound s low high tables.done known.done in
      let blocks = counts p plan inlined fits tabled tables known s low high in
      let one : Piece p plan s m (project p plan s a.statement) (read p plan s k a.statement) =
      region_one p plan s m k tabled dones [] marked blocks a.statement a.site a.cond (own_none p plan inlined fits) plan.region a.body a.is
      (text_one p plan s m k tabled dones [] marked blocks (body_text p plan inlined fits)) in
      ap (λ (xs : List Stmt). Rattle.dp_lean_kinds.proofs.ReadPieces.has_in p plan s m y xs) (ap (project_all p plan s) a.region
      ∙ append-nil (project p plan s a.statement))
      ∙ piece_alone p plan s m one y
      ∙ ap (has_number y) (sym (ap (flat_map (read p plan s k)) a.region ∙ append-nil (read p plan s k a.statement)))

  reads_are : (first n : ℕ) → 0 < first → first + n ≤ last plan + 1 → (y : ℕ) → has_number y (stages_read p plan tables first n) ≡ list_any
      (λ (s : ℕ). is_read p plan m s y) (numbers_from first n)
  reads_are first zero low high y = refl
  reads_are first (suc n) low high y =
      number_join y (stage_read p plan tables first) (stages_read p plan tables (first + 1) n)
      ∙ ap (λ c. c || has_number y (stages_read p plan tables (first + 1) n)) (sym (read_is first low (omega (arith, high)) y))
      ∙ ap (λ c. is_read p plan m first y || c) (reads_are (first + 1) n (omega arith) (omega (arith, high)) y)

  begins_is : (block : List Stmt) (n : ℕ) → n ≡ length block → nat_lt 0 n ≡ not (is_nil block)
  begins_is [] n e = le-ltb 0 n (omega (arith, e))
  begins_is (x ∷ block) n e = lt-ltb 0 n (omega (arith, e))

  module _ (t : ℕ) (low : 0 < t) (high : t ≤ last plan) where
    abbrev reads : List ℕ
    reads = stages_read p plan tables (t + 1) (last plan - t)

    kind_is : (a : FormedSite) → kind_among p plan tables t reads a ≡ kind_of p plan m t a
    kind_is a =
        ap (λ c. if (stage_of p plan a.site.0 == t) && c
        then (if nat_lt 0 ((known_of p plan tables t).count a.site.0) then kind.Block else values_of p plan a.form) else kind.Nothing)
        (reads_are (t + 1) (last plan - t) (omega arith) (omega (arith, high)) a.site.0)
        ∙ ap (λ c. if (stage_of p plan a.site.0 == t) && is_needed p plan m t a.site.0
        then (if c then kind.Block else values_of p plan a.form) else kind.Nothing)
        (begins_is (m.block_at a.site.0) ((known_of p plan tables t).count a.site.0) (counts p plan inlined fits tabled tables known t low high a.site.0))

    all_are : (sites : List FormedSite) → map (kind_among p plan tables t reads) sites ≡ map (kind_of p plan m t) sites
    all_are [] = refl
    all_are (a ∷ sites) = λ i. kind_is a i ∷ all_are sites i

    pub kinds_are : map (kind_among p plan tables t reads) (formed_sites p plan) ≡ region_kinds p plan m t
    kinds_are = all_are (formed_sites p plan)
