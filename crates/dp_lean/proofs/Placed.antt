-- A plan that fits its program has all that is asked of a stage's text, so its lean turns are its turns.
use Rattle.dp_semantics.proofs.Names.{◌≡◌, refl, sym, ap, ◌∙◌, subst, append-nil, arith, le-ltb, ℕ, zero, suc, ◌+◌, ◌≤◌, Bool, true, false, List, [], ◌∷◌, ℤ}
use Rattle.dp_semantics.proofs.Names.{length, map, list_all, flat_map, and_parts, slice_get, sum_by, Stmt, Program, Plan, Access, accesses, region_accesses}
use Rattle.dp_semantics.proofs.Names.{region_statement, project_all, fits_plan}
use Rattle.dp_tree.specs.Inlined.{IsInlined}
use Rattle.dp_plan.specs.Written.{access_site}
use Rattle.dp_plan.proofs.Ascent.{Ascends, ascends-numbers_from}
use Rattle.dp_plan.proofs.RegionOrder.{Sought, absent, present, find_region}
use Rattle.dp_semantics.specs.EpochKey.{EpochKey, epoch_of}
use Rattle.dp_semantics.proofs.Setting.{Accepted}
use Rattle.dp_theorem.proofs.Fitting.{accepted}
use Rattle.dp_net.specs.NetItems.{Marks, Item, weights, item_list, items_in}
use Rattle.dp_net.specs.NetRun.{net_run}
use Rattle.dp_net.specs.Follows.{FollowsText}
use Rattle.dp_net.specs.Hidden.{marks_of}
use Rattle.dp_net.proofs.Assembled.{quieted}
use Rattle.dp_net.proofs.HiddenCells.{all_sound}
use Rattle.dp_net.proofs.Projections.{text_well, text_sites, earlier_part}
use Rattle.dp_net.proofs.Sent.{Quieted}
use Rattle.dp_lean.specs.Queues.{Told, is_of_text, are_of_text}
use Rattle.dp_lean.specs.Laws.{AgreesOn, came_text, Came, Queued, RunsAlike, is_read, LeanTurnsAreTurns}
use Rattle.dp_lean.proofs.Once.{once_part, once_ascending, project_part_all}
use Rattle.dp_lean.proofs.ReadSites.{left_of}
use Rattle.dp_lean.proofs.Walk.{Walkable, Brings, came_part}
use Rattle.dp_lean.proofs.Alongside.{OfText}
use Rattle.dp_lean.proofs.LeanTurns.{alike}

-- An inlined program's sites go up one by one.
pub numbered : (p : Program) (plan : Plan) → IsInlined p → Accepted p plan → (k : ℕ) × Ascends k (map access_site (region_accesses p plan))
numbered p plan inlined ok =
    by (find_region p.main 1 1 p.regions inlined.regions inlined.table (subst (λ (ns : List ℕ). Ascends 1 ns) (sym inlined.sites)
    (ascends-numbers_from 1 (length p.sites))) plan.region)
  where
    by : Sought plan.region 1 1 p.main p.regions → (k : ℕ) × Ascends k (map access_site (region_accesses p plan))
    by (absent none high) = let clash : [] ≡ ok.statement ∷ [] = sym none ∙ ok.region in absurd (cc clash)
    by (present entry low at region first beyond) = (
      entry.first.0,
      subst (λ (l : List Access). Ascends entry.first.0 (map access_site l)) (sym (append-nil (accesses region.statement))
          ∙ ap (λ (xs : List Stmt). flat_map accesses xs) (sym region.only)) region.sites,
    )

module _ (p : Program) (plan : Plan) (ok : Accepted p plan) (k : ℕ) (up : Ascends k (map access_site (region_accesses p plan))) (m : Marks) (test : Stmt → Bool)
    (input : List ℤ) where
  -- an epoch of the program and the plan
  abbrev pub some_epoch : EpochKey
  some_epoch = record { program = p; plan = plan; input = input; first = 0; base = []; steps = 0; fuel = 0 }

  module _ (q : Quieted (epoch_of some_epoch) m test) where
    abbrev pub text : ℕ → List Stmt
    text s = project_all p plan s (region_statement p plan)

    -- the text of a stage, or of the judge, can be walked
    pub walkable : (t : ℕ) → Walkable p plan m input q.marked t (is_read p plan m (suc t)) (text (suc t))
    walkable t = record {
      well = text_well ok (suc t) (omega arith);
      sites = text_sites ok (suc t) (omega arith);
      left = left_of p plan m input q.marked (suc t) (q.texts (suc t)) (is_read p plan m (suc t)) (λ y has. refl)
          (once_part (project_part_all p plan (suc t) (region_statement p plan)) (once_ascending k (region_accesses p plan) up));
    }

    pub brings : (t : ℕ) (left : ℕ → List Item) → FollowsText p plan m (came_text p plan (suc t)) left → Brings p plan m input q.marked t (text (suc t)) left
    brings t left f = by t f
      where
        by : (n : ℕ) → FollowsText p plan m (came_text p plan (suc n)) left → FollowsText p plan m (came_part p plan m input q.marked t n (text (suc n))) left
        by zero f = f
        by (suc n) f = subst (λ (xs : List Stmt). FollowsText p plan m xs left) (sym (earlier_part ok (suc n) (suc (suc n)) (omega arith) (omega arith))) f

    pub of_text : (lists : List (List Item)) → are_of_text p plan m lists ≡ true → OfText p plan m (item_list lists)
    of_text lists e zero = refl
    of_text lists e (suc y) = by lists y e
      where
        by : (lists : List (List Item)) (y : ℕ) → are_of_text p plan m lists ≡ true → list_all (is_of_text p plan m) (items_in (slice_get lists y)) ≡ true
        by [] zero e = refl
        by [] (suc y) e = refl
        by (is ∷ lists) zero e = (and_parts (list_all (is_of_text p plan m) is) (are_of_text p plan m lists) e).0
        by (is ∷ lists) (suc y) e = by lists y (and_parts (list_all (is_of_text p plan m) is) (are_of_text p plan m lists) e).1

    pub runs_alike : (t : ℕ) → suc t ≤ length plan.stages → (lists : List (List Item)) → Came p plan m (suc t) lists → (cells mem : List ℤ) →
        AgreesOn p plan (suc t) cells mem →
        (queues more : ℕ → List Told) → Queued p plan m (suc t) lists queues more →
        RunsAlike p plan m input (suc t) queues more (net_run p plan m input (suc t) cells lists) mem
    runs_alike t high lists came cells mem agrees queues more queued =
        alike p plan m input q.marked ok.laid t (le-ltb (length plan.stages) (suc t) high) more (plan.words + sum_by weights lists + 1) (text (suc t)) cells mem
        lists queues [] false
        (record {
          walk = walkable t;
          came = brings t (item_list lists) came.follows;
          of_text = of_text lists came.of_text;
          agrees = agrees;
          fed = queued;
          fits = omega arith;
          left = omega arith;
        })

pub lean_turns : (p : Program) (plan : Plan) → IsInlined p → fits_plan p plan ≡ true → LeanTurnsAreTurns p plan
lean_turns p plan inlined fits pays input zero low high = absurd (omega (arith, low))
lean_turns p plan inlined fits pays input (suc t) low high =
    let ok = accepted p plan fits in
    let up = numbered p plan inlined ok in
    runs_alike p plan ok up.0 up.1 (marks_of p plan pays) (all_sound p plan) input
    (quieted (some_epoch p plan ok up.0 up.1 (marks_of p plan pays) (all_sound p plan) input) fits up.0 up.1 pays) t high
