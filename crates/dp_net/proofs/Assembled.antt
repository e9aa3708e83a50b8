-- Every plan that fits its program has its quiet blocks: what the theorems ask of blocks, these have.
use Rattle.dp_semantics.proofs.Names.{◌≡◌, inl, inr, refl, sym, ap, ◌∙◌, subst, append-nil, ℕ, ◌+◌, ◌<◌, ◌==◌, Bool, true, false, not, ◌&&◌, ◌||◌}
use Rattle.dp_semantics.proofs.Names.{if◌then◌else◌, List, [], ◌∷◌, ℤ, length, map, list_all, flat_map, Option, Some, None, arith, nat_lt, lt-ltb, eq-eqb}
use Rattle.dp_semantics.proofs.Names.{eqb-true, ne_eqb, and_parts, and_from, cases_Bool, Stmt, Row_of-Stmt, end_of-Stmt, more_of-Stmt, out-Stmt, Stmt-F}
use Rattle.dp_semantics.proofs.Names.{Program, Plan, site_of, stage_of, Access, accesses, accesses_in, region_accesses, region_statement, has_cell, last}
use Rattle.dp_semantics.proofs.Names.{project, project_all, fits_plan}
use Rattle.dp_tree.specs.declared.Stmt.TheVariants as tree
use Rattle.dp_tree.specs.Numbering.{numbers_from}
use Rattle.dp_tree.specs.Statements.{listed}
use Rattle.dp_plan.specs.Written.{access_site}
use Rattle.dp_plan.proofs.Ascent.{Ascends, ascends-numbers_from}
use Rattle.dp_plan.proofs.RegionOrder.{Sought, absent, present, find_region}
use Rattle.dp_tree.specs.Inlined.{IsInlined}
use Rattle.dp_semantics.specs.Fits.{stores_known}
use Rattle.dp_semantics.specs.EpochKey.{EpochKey, epoch_of}
use Rattle.dp_semantics.proofs.Each.{Each, each_map, each_both, all_of}
use Rattle.dp_semantics.proofs.Evaluation.{Roomy}
use Rattle.dp_semantics.proofs.Setting.{Sound, Accepted}
use Rattle.dp_theorem.proofs.Fitting.{accepted}
use Rattle.dp_net.specs.NetItems.{begins}
use Rattle.dp_net.specs.NetVerdicts.{NetIsRight, NetAgrees, GoesOnTo, net_verdict_at}
use Rattle.dp_net.specs.BlockText.{own_site, own_stage, is_quiet_own, run, joins_run, block_from, run_behind, site_past, sought_inside, sought}
use Rattle.dp_net.specs.Hidden.{at_home, is_private, block_in, marks_of}
use Rattle.dp_net.specs.NetItems.{is_nil}
use Rattle.dp_net.proofs.Silent.{AllQuiet}
use Rattle.dp_net.proofs.Groups.{Marked}
use Rattle.dp_net.proofs.Texts.{Text}
use Rattle.dp_net.proofs.BlockPlaces.{run_quiet}
use Rattle.dp_net.proofs.BlockTexts.{stmt_text}
use Rattle.dp_net.proofs.HiddenCells.{is_sound, is_clear, all_sound, hidden_local, ready_all}
use Rattle.dp_net.specs.Batches.{BatchesAreRight, BatchesEnd, batch_begin, batch_size, ends_batch}
use Rattle.dp_semantics.specs.EpochVerdicts.{goes_on}
use Rattle.dp_net.proofs.BatchVerdicts.{batch_right}
use Rattle.dp_net.proofs.BatchEnds.{ends_there}
use Rattle.dp_net.specs.NetPackets.{net_passed}
use Rattle.dp_net.specs.Follows.{PacketFollows, ItemsFollow, TextsNest, is_void}
use Rattle.dp_net.proofs.Projections.{earlier_part}
use Rattle.dp_net.proofs.PacketsFollow.{packet_follows}
use Rattle.dp_net.proofs.Sent.{Quieted}
use Rattle.dp_net.proofs.StrictEpochs.{clean_to}
use Rattle.dp_net.proofs.EpochsAlike.{states_alike, all_kept_alike, verdicts_alike}
use Rattle.dp_net.proofs.TextSound.{projected_sound}

module _ (p : Program) (plan : Plan) where
  -- What is sought is a quiet block of its first site.
  module _ (pays : List Stmt → Bool) (f : ℕ) where
    -- these statements, if there are any, are a block of this site
    abbrev IsBlock : List Stmt → Type 0
    IsBlock [] = Unit {0}
    IsBlock (x ∷ b) = AllQuiet p plan (stage_of p plan f) (x ∷ b) × ((site_of (out-Stmt x)).0 ≡ f)

    choose_block : (b : Bool) (c d : List Stmt) → (b ≡ true → IsBlock c) → (b ≡ false → IsBlock d) → IsBlock (if b then c else d)
    choose_block true c d h k = h refl
    choose_block false c d h k = k refl

    from_block : (before : Option ℕ) (x : Stmt) (rest : List Stmt) → own_site p plan x ≡ f → IsBlock (block_from p plan pays before x rest)
    from_block before x rest at = choose_block (is_quiet_own p plan x) _ [] (λ q. choose_block (joins_run p plan (own_stage p plan x) before) [] _ (λ g. tt)
        (λ g. choose_block (pays (x ∷ run p plan (own_stage p plan x) rest)) _ [] (λ w. (quiet q, at)) (λ w. tt))) (λ q. tt)
      where
        quiet : is_quiet_own p plan x ≡ true → AllQuiet p plan (stage_of p plan f) (x ∷ run p plan (own_stage p plan x) rest)
        quiet q = subst (λ (n : ℕ). AllQuiet p plan (stage_of p plan n) (x ∷ run p plan (own_stage p plan x) rest)) at
            (rw q (run_quiet p plan (own_stage p plan x) rest))

    both_block : (x : Stmt) → IsBlock (sought_inside p plan pays f x) → (before : Option ℕ) (rest later : List Stmt) → IsBlock later →
        IsBlock (if nat_lt f (site_past p plan x) then (if f == own_site p plan x then block_from p plan pays before x rest
        else (if is_quiet_own p plan x then [] else sought_inside p plan pays f x)) else later)
    both_block x within before rest later h = choose_block (nat_lt f (site_past p plan x)) _ later
        (λ e. choose_block (f == own_site p plan x) _ _ (λ q. from_block before x rest (sym (eqb-true f (own_site p plan x) q)))
        (λ q. choose_block (is_quiet_own p plan x) [] _ (λ u. tt) (λ u. within))) (λ e. h)

    mutual
      inside_block : (x : Stmt) → IsBlock (sought_inside p plan pays f x)
      inside_block (tree.If' site cond _ a _ b) =
          choose_block (nat_lt f (site.0 + 1 + length (accesses_in a))) _ _ (λ e. row_block None a) (λ e. row_block None b)
      inside_block (tree.While' site cond _ a) = row_block None a
      inside_block (tree.Region' r site cond _ a) = row_block None a
      inside_block _ = tt

      row_block : {n : _} (before : Option ℕ) (row : Row_of-Stmt n) → IsBlock (sought p plan pays f before row)
      row_block before end_of-Stmt = tt
      row_block before (more_of-Stmt x rest) =
          both_block x (inside_block x) before (listed rest) (sought p plan pays f (run_behind p plan x) rest) (row_block (run_behind p plan x) rest)

    in_block : (xs : List Stmt) → IsBlock (block_in p plan pays f xs)
    in_block [] = tt
    in_block (x ∷ rest) = choose_block (f == own_site p plan x) [] _ (λ e. tt) (λ e. inside_block x)

  is_block : (pays : List Stmt → Bool) (f : ℕ) (found : List Stmt) → block_in p plan pays f (region_statement p plan) ≡ found → IsBlock pays f found
  is_block pays f found e = subst (IsBlock pays f) e (in_block pays f (region_statement p plan))

  marked_of : (pays : List Stmt → Bool) (input : List ℤ) → Marked p plan (marks_of p plan pays) input
  marked_of pays input = record {
    quiet = λ f x b e. (is_block pays f (x ∷ b) e).0;
    named = λ f x b e. (is_block pays f (x ∷ b) e).1;
    within = λ f x b e. ap (λ (xs : List Stmt). not (is_nil xs)) e;
  }

  -- Where the plan fits and the region's sites go up one by one, its blocks have all that is asked of them.
  module _ (ok : Accepted p plan) where
    any_or : (b c : Bool) → c ≡ true → (b || c) ≡ true
    any_or true c e = refl
    any_or false c e = e

    none_or : (b c : Bool) → b ≡ false → (not b || c) ≡ true
    none_or true c e = absurd (cc e)
    none_or false c e = refl

    -- each of the region's sites keeps to the private variables
    one_clear : (x : ℕ) → Each (λ a. is_clear p plan a x ≡ true) (region_accesses p plan)
    one_clear x = elim (cases_Bool (is_private p plan x)) [
      | inl q ↦ each_map (λ a. at_home p plan x a ≡ true) (λ a. is_clear p plan a x ≡ true) (λ a h. any_or (not (is_private p plan x)) (at_home p plan x a) h)
          (region_accesses p plan) (all_of (at_home p plan x) (region_accesses p plan) (and_parts _ (list_all (at_home p plan x) (region_accesses p plan)) q).1)
      | inr q ↦ every (λ a. none_or (is_private p plan x) (at_home p plan x a) q) (region_accesses p plan)
    ]
      where
        every : ((a : Access) → is_clear p plan a x ≡ true) → (l : List Access) → Each (λ a. is_clear p plan a x ≡ true) l
        every h [] = tt
        every h (a ∷ l) = (h a, every h l)

    all_clear : (xs : List ℕ) → Each (λ a. list_all (is_clear p plan a) xs ≡ true) (region_accesses p plan)
    all_clear [] = nothing (region_accesses p plan)
      where
        nothing : (l : List Access) → Each (λ a. true ≡ true) l
        nothing [] = tt
        nothing (a ∷ l) = (refl, nothing l)
    all_clear (x ∷ xs) = each_map (λ a. (is_clear p plan a x ≡ true) × (list_all (is_clear p plan a) xs ≡ true))
        (λ a. list_all (is_clear p plan a) (x ∷ xs) ≡ true) (λ a h. and_from (is_clear p plan a x) (list_all (is_clear p plan a) xs) h.0 h.1)
        (region_accesses p plan) (each_both (λ a. is_clear p plan a x ≡ true) (λ a. list_all (is_clear p plan a) xs ≡ true) (region_accesses p plan)
        (one_clear x) (all_clear xs))

    cells_known : (loads : List ℕ) → Each (λ y. 0 < Rattle.dp_tree.specs.Eval.cell_count p (record { 0 = y })) loads → list_all (has_cell p) loads ≡ true
    cells_known [] h = refl
    cells_known (y ∷ loads) h = and_from (has_cell p y) (list_all (has_cell p) loads) (lt-ltb 0 _ h.0) (cells_known loads h.1)

    room_known : (o : Option ℕ) → Roomy p o → stores_known p o ≡ true
    room_known None h = refl
    room_known (Some x) h = lt-ltb 0 _ h

    region_sound : Each (λ a. is_sound p plan a ≡ true) (region_accesses p plan)
    region_sound = each_map (λ a. Sound p plan a × (list_all (is_clear p plan a) (numbers_from 0 (length p.vars)) ≡ true)) (λ a. is_sound p plan a ≡ true)
        (λ a h. and_from (list_all (has_cell p) a.loads && stores_known p a.stores) _ (and_from (list_all (has_cell p) a.loads) (stores_known p a.stores)
        (cells_known a.loads h.0.reads) (room_known a.stores h.0.room))
        (and_from (nat_lt 0 (stage_of p plan a.site) && nat_lt (stage_of p plan a.site) (last plan)) _
        (and_from _ _ (lt-ltb 0 _ h.0.staged) (lt-ltb _ _ h.0.early)) h.1))
        (region_accesses p plan) (each_both (Sound p plan) (λ a. list_all (is_clear p plan a) (numbers_from 0 (length p.vars)) ≡ true) (region_accesses p plan)
        ok.sound (all_clear (numbers_from 0 (length p.vars))))

    accesses_are : region_accesses p plan ≡ accesses ok.statement
    accesses_are = ap (λ (xs : List Stmt). flat_map accesses xs) ok.region ∙ append-nil (accesses ok.statement)

    steady_text : (s : ℕ) → list_all (all_sound p plan) (project_all p plan s (region_statement p plan)) ≡ true
    steady_text s = ap (λ (xs : List Stmt). list_all (all_sound p plan) (project_all p plan s xs)) ok.region
        ∙ ap (list_all (all_sound p plan)) (append-nil (project p plan s ok.statement))
        ∙ projected_sound p plan s ok.statement (subst (λ (l : List Access). Each (λ a. is_sound p plan a ≡ true) l) accesses_are region_sound)

    module _ (pays : List Stmt → Bool) (k : ℕ) (up : Ascends k (map access_site (region_accesses p plan))) where
      out_of : (f : ℕ) → (marks_of p plan pays).block_at f ≡ [] → begins (marks_of p plan pays) f ≡ false
      out_of f e = ap (λ (xs : List Stmt). not (is_nil xs)) e

      up_there : Ascends k (map access_site (accesses ok.statement))
      up_there = subst (λ (l : List Access). Ascends k (map access_site l)) accesses_are up

      at_region : (f : ℕ) → (marks_of p plan pays).block_at f ≡ (if f == own_site p plan ok.statement then [] else sought_inside p plan pays f ok.statement)
      at_region f = ap (block_in p plan pays f) ok.region

      -- the region's own site is its first
      first_is : own_site p plan ok.statement ≡ k
      first_is =
          let at : own_site p plan ok.statement ≡ ok.site.0 = ap (λ (h : Stmt-F Stmt). (site_of h).0) ok.is in
          at ∙ (subst (λ (l : List Access). Ascends k (map access_site l)) (Rattle.dp_semantics.proofs.Heads.accesses_out ok.statement
          ∙ ap Rattle.dp_semantics.proofs.Heads.accesses_at ok.is) up_there).0

      whole_text : (s : ℕ) → Text (marks_of p plan pays) (project_all p plan s (region_statement p plan))
      whole_text s = subst (λ (xs : List Stmt). Text (marks_of p plan pays) (project_all p plan s xs)) (sym ok.region)
          (subst (Text (marks_of p plan pays)) (sym (append-nil (project p plan s ok.statement)))
          (stmt_text p plan (marks_of p plan pays) s out_of pays ok.statement k up_there
          (λ some. at_region k
          ∙ ap (λ (b : Bool). if b then [] else sought_inside p plan pays k ok.statement) (eq-eqb k (own_site p plan ok.statement) (sym first_is)))
          (λ f low high. at_region f
          ∙ ap (λ (b : Bool). if b then [] else sought_inside p plan pays f ok.statement)
          (ne_eqb f (own_site p plan ok.statement) (λ e. omega (arith, e, first_is, low))))))

-- So it is in each epoch.
pub quieted : (key : EpochKey) → fits_plan key.program key.plan ≡ true → (k : ℕ) → Ascends k (map access_site (region_accesses key.program key.plan)) →
    (pays : List Stmt → Bool) → Quieted (epoch_of key) (marks_of key.program key.plan pays) (all_sound key.program key.plan)
quieted key fits k up pays =
    let ok = accepted key.program key.plan fits in
    record {
      marked = marked_of key.program key.plan pays key.input;
      ready = ready_all key.program key.plan ok.laid (marks_of key.program key.plan pays) refl;
      texts = whole_text key.program key.plan ok pays k up;
      steady = steady_text key.program key.plan ok;
      local = hidden_local key.program key.plan ok.laid (marks_of key.program key.plan pays) refl;
    }

-- In each epoch of a program and a plan that fits it, and whichever runs are taken for blocks, the verdicts by items say what the definition's verdicts say,
-- and the judging and the search for causes stand where the definition's do.
pub net_is_right : (key : EpochKey) → fits_plan key.program key.plan ≡ true → (k : ℕ) →
    Ascends k (map access_site (region_accesses key.program key.plan)) → (pays : List Stmt → Bool) → (n : ℕ) → GoesOnTo key n →
    NetAgrees (marks_of key.program key.plan pays) key n
net_is_right key fits k up pays n goes =
    let ok = accepted key.program key.plan fits in
    let q = quieted key fits k up pays in
    let c = clean_to key ok n goes in
    record { verdict = verdicts_alike key ok q n c; state = states_alike key ok q n c; kept = all_kept_alike key ok q n c }

-- An inlined program's sites go up one by one.
numbered : (p : Program) (plan : Plan) → IsInlined p → Accepted p plan → (k : ℕ) × Ascends k (map access_site (region_accesses p plan))
numbered p plan inlined ok =
    by (find_region p.main 1 1 p.regions inlined.regions inlined.table (subst (λ (ns : List ℕ). Ascends 1 ns) (sym inlined.sites)
    (ascends-numbers_from 1 (length p.sites))) plan.region)
  where
    by : Sought plan.region 1 1 p.main p.regions → (k : ℕ) × Ascends k (map access_site (region_accesses p plan))
    by (absent none high) = let clash : [] ≡ ok.statement ∷ [] = sym none ∙ ok.region in absurd (cc clash)
    by (present entry low at region first beyond) = (
      entry.first.0,
      subst (λ (l : List Access). Ascends entry.first.0 (map access_site l)) (sym (append-nil (accesses region.statement))
          ∙ ap (λ (xs : List Stmt). flat_map accesses xs) (sym region.only)) region.sites,
    )

pub net_right : (p : Program) (plan : Plan) → IsInlined p → fits_plan p plan ≡ true → NetIsRight p plan
net_right p plan inlined fits key same_program same_plan pays n goes =
    let ok = accepted p plan fits in
    let up = numbered p plan inlined ok in
    by key same_program same_plan goes up.0 up.1
  where
    by : (key : EpochKey) → key.program ≡ p → key.plan ≡ plan → GoesOnTo key n → (k : ℕ) → Ascends k (map access_site (region_accesses p plan)) →
        NetAgrees (marks_of p plan pays) key n
    by key e f goes k up =
        subst (λ (q : Program). NetAgrees (marks_of q plan pays) key n) e (subst (λ (r : Plan). NetAgrees (marks_of key.program r pays) key n) f
        (net_is_right key (rw (e, f) fits) k (rw (e, f) up) pays n goes))

pub items_follow : (p : Program) (plan : Plan) → IsInlined p → fits_plan p plan ≡ true → ItemsFollow p plan
items_follow p plan inlined fits key same_program same_plan pays s n low = by key same_program same_plan up.0 up.1
  where
    up : (k : ℕ) × Ascends k (map access_site (region_accesses p plan))
    up = numbered p plan inlined (accepted p plan fits)

    Goal : Program → Plan → EpochKey → Type 0
    Goal p plan key = is_void (net_passed (marks_of p plan pays) (epoch_of key) s n).packet.status ≡ false →
        PacketFollows p plan (marks_of p plan pays) s (net_passed (marks_of p plan pays) (epoch_of key) s n).packet

    by : (key : EpochKey) → key.program ≡ p → key.plan ≡ plan → (k : ℕ) → Ascends k (map access_site (region_accesses p plan)) → Goal p plan key
    by key e f k up =
        subst (λ (q : Program). Goal q plan key) e (subst (λ (r : Plan). Goal key.program r key) f
        (packet_follows (quieted key (rw (e, f) fits) k (rw (e, f) up) pays) (accepted key.program key.plan (rw (e, f) fits)) s n low))

pub texts_nest : (p : Program) (plan : Plan) → fits_plan p plan ≡ true → TextsNest p plan
texts_nest p plan fits s t low early = earlier_part (accepted p plan fits) s t low early

pub batches_right : (p : Program) (plan : Plan) → IsInlined p → fits_plan p plan ≡ true → BatchesAreRight p plan
batches_right p plan inlined fits key same_program same_plan pays cap b goes =
    batch_right key (marks_of p plan pays) (λ n. net_right p plan inlined fits key same_program same_plan pays n) (batch_size key cap b)
    (batch_begin key cap b) goes

pub batches_end : (p : Program) (plan : Plan) → IsInlined p → fits_plan p plan ≡ true → BatchesEnd p plan
batches_end p plan inlined fits key same_program same_plan pays n goes = by key same_program same_plan goes up.0 up.1
  where
    up : (k : ℕ) × Ascends k (map access_site (region_accesses p plan))
    up = numbered p plan inlined (accepted p plan fits)

    Goal : Program → Plan → EpochKey → Type 0
    Goal p plan key = ends_batch (net_passed (marks_of p plan pays) (epoch_of key) (length plan.stages) n).packet ≡ true →
        goes_on (net_verdict_at (marks_of p plan pays) key n) ≡ false

    by : (key : EpochKey) → key.program ≡ p → key.plan ≡ plan → GoesOnTo key n → (k : ℕ) →
        Ascends k (map access_site (region_accesses p plan)) → Goal p plan key
    by key e f goes k up =
        let ok = accepted key.program key.plan (rw (e, f) fits) in
        subst (λ (q : Program). Goal q plan key) e (subst (λ (r : Plan). Goal key.program r key) f
        (ends_there key ok (quieted key (rw (e, f) fits) k (rw (e, f) up) pays) n (clean_to key ok n goes)))
