-- Each op of the judge's code reads what is kept of its site.
use Rattle.dp_semantics.proofs.Names.{◌≡◌, ◌++◌, refl, sym, ap, ◌∙◌, subst, arith, append-nil, ne_eqb, eq-eqb, or_from, ℕ, zero, suc, ◌+◌, ◌-◌, ◌<◌, ◌≤◌, ◌||◌}
use Rattle.dp_semantics.proofs.Names.{◌==◌, if◌then◌else◌, Bool, true, false, List, [], ◌∷◌, length, slice_get, get_or, Option, Some, None, cell_count, SiteId}
use Rattle.dp_semantics.proofs.Names.{Expr, Stmt, out-Stmt, Stmt-F, Assign, Store, Print, If, While, Region, Break, Call, Program, Plan, Access, accesses}
use Rattle.dp_semantics.proofs.Names.{site_of, stage_of, first_site, last, region_statement, region_accesses, project_all, fits_plan}
use Rattle.dp_tree.specs.Inlined.{IsInlined}
use Rattle.dp_plan.specs.Checked.{has_site}
use Rattle.dp_semantics.proofs.Each.{Each, each_join, each_split}
use Rattle.dp_semantics.proofs.Heads.{accesses_all, accesses_at, accesses_out, head_access}
use Rattle.dp_semantics.proofs.Setting.{Sound}
use Rattle.dp_theorem.proofs.Fitting.{accepted}
use Rattle.dp_lean_judge.specs.Stages.{HasStages}
use Rattle.dp_code.specs.declared.Op.TheVariants as op
use Rattle.dp_net.specs.NetItems.{Marks}
use Rattle.dp_net.specs.Hidden.{pays_off}
use Rattle.dp_net.proofs.Assembled.{quieted}
use Rattle.dp_net.proofs.Groups.{Marked}
use Rattle.dp_net.proofs.HiddenCells.{all_sound}
use Rattle.dp_net.proofs.Silent.{quiet_head, quiet_out}
use Rattle.dp_net.proofs.Texts as texts
use Rattle.dp_net.proofs.Texts.{Text, IsLeaf}
use Rattle.dp_lean.specs.LeanText.{lean_text}
use Rattle.dp_lean.proofs.LeftTexts.{lean_texts}
use Rattle.dp_lean.proofs.Once.{lean_part_all, project_part_all}
use Rattle.dp_lean.proofs.Placed.{numbered, some_epoch, walkable}
use Rattle.dp_columns.specs.declared.ColumnKind.{ColumnKind}
use Rattle.dp_columns.specs.declared.ColumnKind.TheVariants as kind
use Rattle.dp_lean_code.specs.declared.LeanOp.{LeanOp}
use Rattle.dp_lean_code.specs.declared.LeanOp.TheVariants.{Plain, Exit, Begin, Finish, Meet}
use Rattle.dp_lean_code.specs.Known.{paying_marks}
use Rattle.dp_lean_code.specs.LeanCode.{lean_code, block_code, silent_code, by_stage, branch, exit, choice, either, repetition, leaving, test_code}
use Rattle.dp_lean_code.proofs.LeanStanding.{code_of, head_code, code_out, code_alone, code_block}
use Rattle.dp_lean_code.proofs.Leaving.{some_block}
use Rattle.dp_lean_code.proofs.ProgramRight.{ok}
use Rattle.dp_lean_kinds.proofs.KeptEnough.{needed_behind}
use Rattle.dp_lean_region.specs.Region.{plan_kinds}
use Rattle.dp_lean_region.proofs.SeatKinds.{Member, IsRead, members, each_at, plain_kind, block_kind}

-- the access's site is among theirs
has_member : (all : List Access) (i : ℕ) (a : Access) → slice_get all i ≡ Some a → has_site a.site all ≡ true
has_member [] i a e = absurd (cc e)
has_member (b ∷ all) zero a e = let same : b ≡ a = cc e in ap (λ c. c || has_site a.site all) (eq-eqb b.site a.site (ap (λ (x : Access). x.site) same))
has_member (b ∷ all) (suc i) a e = ap (λ c. (b.site == a.site) || c) (has_member all i a e) ∙ or_true (b.site == a.site)
  where
    or_true : (b : Bool) → (b || true) ≡ true
    or_true true = refl
    or_true false = refl

-- what is so at each place is so of each
each_from : (P : Access → Type 0) (all : List Access) → ((i : ℕ) (a : Access) → slice_get all i ≡ Some a → P a) → Each P all
each_from P [] h = tt
each_from P (a ∷ all) h = (h zero a refl, each_from P all (λ i b e. h (suc i) b e))

module _ (p : Program) (plan : Plan) (inlined : IsInlined p) (fits : fits_plan p plan ≡ true) (stages : HasStages p plan) where
  abbrev s : ℕ
  s = last plan

  abbrev m : Marks
  m = paying_marks p plan

  abbrev Reads : Access → Type 0
  Reads a = IsRead p plan inlined fits a

  -- what is kept of a site
  abbrev pub kept_at : ℕ → Option ColumnKind
  kept_at y = slice_get (get_or (plan_kinds p plan) (stage_of p plan y - 1) []) (y - first_site p plan)

  -- it is what the op reads
  abbrev pub OpKept : LeanOp → Type 0
  OpKept (Plain (op.Consume site first count)) = kept_at site.0 ≡ Some (if count == 1 then kind.Value first.0 else kind.Element)
  OpKept (Plain (op.ConsumePrint site)) = kept_at site.0 ≡ Some (kind.Value 0)
  OpKept (Plain (op.ConsumeBranch site to)) = kept_at site.0 ≡ Some (kind.Value 0)
  OpKept (Meet site) = kept_at site.0 ≡ Some kind.Block
  OpKept _ = Unit {0}

  abbrev AllKept : List LeanOp → Type 0
  AllKept ops = Each OpKept ops

  -- no site is the judge's own
  other : (site : ℕ) → (stage_of p plan site == s) ≡ false
  other site = ne_eqb (stage_of p plan site) s (stages site)

  consumes : (site : SiteId) (own elsewhere : List LeanOp) → by_stage p plan s site own elsewhere ≡ elsewhere
  consumes site own elsewhere = ap (λ (b : Bool). if b then own else elsewhere) (other site.0)

  branch_kept : (site : SiteId) (to : ℕ) (loads : List ℕ) → Reads (record { site = site.0; loads = loads; stores = None }) → m.block_at site.0 ≡ [] →
      OpKept (branch p plan s site to)
  branch_kept site to loads read alone =
      subst (λ (b : Bool). OpKept (if b then Plain (op.Branch site to) else Plain (op.ConsumeBranch site to))) (sym (other site.0))
      (plain_kind p plan inlined fits _ read alone)

  exit_kept : (site : SiteId) (to : ℕ) (loads : List ℕ) → Reads (record { site = site.0; loads = loads; stores = None }) → m.block_at site.0 ≡ [] →
      OpKept (exit p plan s site to)
  exit_kept site to loads read alone =
      subst (λ (b : Bool). OpKept (if b then Exit site to else Plain (op.ConsumeBranch site to))) (sym (other site.0))
      (plain_kind p plan inlined fits _ read alone)

  -- behind a condition's own code, of which there is none
  tested : (site : SiteId) (cond : Expr) (at : ℕ) (next : ℕ → List LeanOp) → ((k : ℕ) → AllKept (next k)) →
      AllKept (test_code p plan s site cond at ++ next (at + length (test_code p plan s site cond at)))
  tested site cond at next h = subst (λ (ops : List LeanOp). AllKept (ops ++ next (at + length ops))) (sym (consumes site _ [])) (h (at + 0))

  abbrev ops_at : Stmt-F Stmt → ℕ → List LeanOp
  ops_at h at = head_code p plan s m (block_code p plan s) (some_block p plan s m) h at

  abbrev code_at : List Stmt → ℕ → List LeanOp
  code_at xs at = code_of p plan s m (block_code p plan s) (some_block p plan s m) xs at

  leaf_kept : (h : Stmt-F Stmt) (at : ℕ) → IsLeaf h → m.block_at (site_of h).0 ≡ [] → Each Reads (accesses_at h) → AllKept (ops_at h at)
  leaf_kept (Assign site x e) at is alone read = subst AllKept (sym (consumes site _ _)) (plain_kind p plan inlined fits _ read.0 alone, tt)
  leaf_kept (Store site x index e) at is alone read = subst AllKept (sym (consumes site _ _)) (plain_kind p plan inlined fits _ read.0 alone, tt)
  leaf_kept (Print site e) at is alone read = subst AllKept (sym (consumes site _ _)) (plain_kind p plan inlined fits _ read.0 alone, tt)
  leaf_kept (Break site cond) at is alone read = tested site cond at (leaving (exit p plan s site)) (λ k. (exit_kept site (k + 2) _ read.0 alone, (tt, tt)))
  leaf_kept _ at is alone read = absurd is

  either_kept : (site : SiteId) (loads : List ℕ) (k : ℕ) (a b : List LeanOp) → Reads (record { site = site.0; loads = loads; stores = None }) →
      m.block_at site.0 ≡ [] →
      AllKept a → AllKept b → AllKept (either k (branch p plan s site) a b)
  either_kept site loads k a [] read alone f g = (branch_kept site _ loads read alone, f)
  either_kept site loads k a (o ∷ b) read alone f g = (branch_kept site _ loads read alone, each_join OpKept a (Plain (op.Jump _) ∷ (o ∷ b)) f (tt, g))

  -- a whole block
  met : (site : SiteId) (block : List Stmt) (at : ℕ) → kept_at site.0 ≡ Some kind.Block → AllKept (block_code p plan s site block at)
  met site block at kept =
      subst (λ (b : Bool). AllKept (if b then Begin site ∷ (silent_code p plan s block (at + 1) ++ Finish ∷ []) else Meet site ∷ []))
      (sym (other site.0)) (kept, tt)

  -- the head of a block is a site of the region
  quiet_read : (t : ℕ) (h : Stmt-F Stmt) → quiet_head p plan t h ≡ true → Each Reads (accesses_at h) → Reads (head_access h)
  quiet_read t (Call f line args) q read = absurd (cc)
  quiet_read t (Assign site x e) q read = read.0
  quiet_read t (Store site x index e) q read = read.0
  quiet_read t (Print site e) q read = read.0
  quiet_read t (If site cond a b) q read = read.0
  quiet_read t (While site cond a) q read = read.0
  quiet_read t (Region r site cond a) q read = read.0
  quiet_read t (Break site cond) q read = read.0

  module _ (marked : Marked p plan m []) where
    text_kept : {xs : List Stmt} → Text m xs → (at : ℕ) → Each Reads (accesses_all xs) → AllKept (code_at xs at)
    text_kept texts.ends at read = tt
    text_kept (texts.leaf {x = x} {rest = rest} plain is t) at read =
        let both = each_split Reads (accesses x) (accesses_all rest) read in
        let own = subst (λ (all : List Access). Each Reads all) (accesses_out x) both.0 in
        subst AllKept (sym (code_alone p plan s m (block_code p plan s) (some_block p plan s m) x rest at plain.0))
        (each_join OpKept _ _ (subst AllKept (sym (code_out p plan s m (block_code p plan s) (some_block p plan s m) x at))
        (leaf_kept (out-Stmt x) at is plain.0 own))
        (text_kept t _ both.1))
    text_kept (texts.choice {x = x} {rest = rest} {a = a} {b = b} {site = site} {cond = cond} plain is u v t) at read =
        let both = each_split Reads (accesses x) (accesses_all rest) read in
        let own = subst (λ (all : List Access). Each Reads all) (accesses_out x ∙ ap accesses_at is) both.0 in
        let parts = each_split Reads (accesses_all a) (accesses_all b) own.1 in
        let alone = ap (λ (h : Stmt-F Stmt). m.block_at (site_of h).0) (sym is) ∙ plain.0 in
        subst AllKept (sym (code_alone p plan s m (block_code p plan s) (some_block p plan s m) x rest at plain.0))
        (each_join OpKept _ _
        (subst AllKept (sym (code_out p plan s m (block_code p plan s) (some_block p plan s m) x at ∙ ap (λ (h : Stmt-F Stmt). ops_at h at) is))
        (tested site cond at (choice (branch p plan s site) (code_at a) (code_at b)) (λ k.
        either_kept site _ k (code_at a (k + 1)) (code_at b (k + 1 + length (code_at a (k + 1)) + 1)) own.0 alone
        (text_kept u (k + 1) parts.0) (text_kept v (k + 1 + length (code_at a (k + 1)) + 1) parts.1))))
        (text_kept t _ both.1))
    text_kept (texts.loop {x = x} {rest = rest} {a = a} {site = site} {cond = cond} plain is u t) at read =
        let both = each_split Reads (accesses x) (accesses_all rest) read in
        let own = subst (λ (all : List Access). Each Reads all) (accesses_out x ∙ ap accesses_at is) both.0 in
        let alone = ap (λ (h : Stmt-F Stmt). m.block_at (site_of h).0) (sym is) ∙ plain.0 in
        subst AllKept (sym (code_alone p plan s m (block_code p plan s) (some_block p plan s m) x rest at plain.0))
        (each_join OpKept _ _
        (subst AllKept (sym (code_out p plan s m (block_code p plan s) (some_block p plan s m) x at ∙ ap (λ (h : Stmt-F Stmt). ops_at h at) is))
        (tested site cond at (repetition at (branch p plan s site) (code_at a))
        (λ k. (branch_kept site _ _ own.0 alone, each_join OpKept _ _ (text_kept u _ own.1) (tt, tt)))))
        (text_kept t _ both.1))
    text_kept (texts.block {x = x} {b = b} {rest = rest} {behind = behind} block is t) at read =
        let all = subst (λ (ys : List Stmt). Each Reads (accesses_all (x ∷ ys))) is read in
        let both = each_split Reads (accesses x) (accesses_all (b ++ rest)) all in
        let own = subst (λ (all : List Access). Each Reads all) (accesses_out x) both.0 in
        let quiet = marked.quiet (site_of (out-Stmt x)).0 x b block in
        let head = quiet_read _ (out-Stmt x) (sym (quiet_out p plan _ x) ∙ (Rattle.dp_semantics.proofs.Names.and_parts _ _ quiet).0) own in
        let joined = subst (λ (all : List Access). Each Reads all) (Rattle.dp_semantics.proofs.Names.flat_map-append accesses b rest) both.1 in
        subst (λ (ys : List Stmt). AllKept (code_at (x ∷ ys) at)) (sym is)
        (subst AllKept (sym (code_block p plan s m (block_code p plan s) (some_block p plan s m) x b rest at block))
        (each_join OpKept _ _ (met (site_of (out-Stmt x)) (x ∷ b) at (block_kind p plan inlined fits (head_access (out-Stmt x)) x b head block))
        (text_kept t _ (each_split Reads (accesses_all b) (accesses_all rest) joined).1)))

  -- the sites of the judge's text are read
  text_reads : Each Reads (accesses_all (lean_text p plan m s))
  text_reads = each_from Reads (accesses_all (lean_text p plan m s)) (λ i a here.
      let projected = each_at (Member (accesses_all (project_all p plan s (region_statement p plan)))) (accesses_all (lean_text p plan m s)) i a
      (members (lean_part_all p plan s m zero false (project_all p plan s (region_statement p plan)))) here in
      let there = each_at (Member (region_accesses p plan)) (accesses_all (project_all p plan s (region_statement p plan))) projected.0 a
      (members (project_part_all p plan s (region_statement p plan))) projected.1 in
      let sound = each_at (Sound p plan) (region_accesses p plan) there.0 a (ok p plan inlined fits).sound there.1 in
      (there, needed_behind p plan inlined fits s a.site (has_member (accesses_all (lean_text p plan m s)) i a here) sound.early))

  -- .. by each op of its code
  pub code_kept : Each OpKept (lean_code p plan s m)
  code_kept =
      let a = accepted p plan fits in
      let up = numbered p plan inlined a in
      let test = all_sound p plan in
      let q = quieted (some_epoch p plan a up.0 up.1 m test []) fits up.0 up.1 (pays_off p plan) in
      each_join OpKept (code_at (lean_text p plan m s) 0) (Plain op.End ∷ [])
      (text_kept q.marked (lean_texts p plan m s (walkable p plan a up.0 up.1 m test [] q (length plan.stages)).left) 0 text_reads) (tt, tt)
