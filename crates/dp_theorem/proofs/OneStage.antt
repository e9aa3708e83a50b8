-- In one stage an iteration is clean where it has ended and its events fit.
use Rattle.dp_semantics.proofs.Names.{leaves, or-true, get_or-replicate, ◌≤◌, ◌-◌, leb-true, replicate, slice_get, slice_index, ◌≡◌, ◌⊎◌, inl, inr, refl, sym}
use Rattle.dp_semantics.proofs.Names.{ap, ◌∙◌, subst, ℕ, suc, ◌+◌, ◌==◌, Bool, true, false, not, ◌&&◌, ◌||◌, if◌then◌else◌, List, [], ◌∷◌, ℤ, length, nat_le}
use Rattle.dp_semantics.proofs.Names.{nat_lt, Option, Some, None, arith, eq-eqb, ne_eqb, cases_eq, sum_by-cons, list_any, list_all, flat_map, Program, Plan}
use Rattle.dp_semantics.proofs.Names.{Stmt, RegionInfo, Event, iteration, has_ended, memory_after, Access, accesses, stage_of, first_site_of, stores_var}
use Rattle.dp_semantics.proofs.Names.{is_replicated, is_body_local, is_region_at, region_in, region_accesses, is_stored_after, is_stored_beside, is_apart}
use Rattle.dp_semantics.proofs.Names.{is_apart_between, may_differ, is_checked_access, is_checked, Past, loads_agree, all_agree, event_as_assumed, events_since}
use Rattle.dp_semantics.proofs.Names.{event_words, words_at, word_count, one_stage_plan, sites_between, lies_between, is_numbered, is_single, region_alone}
use Rattle.dp_semantics.proofs.Names.{stands_alone, run_of, Config, StandsInMain, CleanInOneStage, and_parts}
use Rattle.dp_theorem.proofs.Fitting.{split_of}
use Rattle.dp_theorem.proofs.Alone.{Lone, AtSite, found_is}
use Rattle.dp_theorem.proofs.RegionSites.{iteration_sites}
use Rattle.dp_semantics.proofs.Setting.{Each, each_map, each_split, all_of, none_make}
use Rattle.std.proofs.lemmas.Bool.{and_left, and_right}
use Rattle.dp_plan.proofs.EachLemmas.{every}

never_beside : (a b c d : Bool) → b ≡ false → (a && b && c && d) ≡ false
never_beside true false c d e = refl
never_beside false false c d e = refl
never_beside a true c d e = absurd (cc)

pub numbered_first : (p : Program) (r site : ℕ) (o : Option RegionInfo) → slice_get p.regions (r - 1) ≡ o → lies_between site o ≡ true →
    stage_of p (one_stage_plan p r) site ≡ 1
numbered_first p r site None e h = absurd (cc)
numbered_first p r site (Some info) e h =
    let both = and_parts (nat_le info.first.0 site) (nat_le site info.last.0) h in
    let low : info.first.0 ≤ site = leb-true info.first.0 site both.0 in
    let high : site ≤ info.last.0 = leb-true site info.last.0 both.1 in
    ap (λ (u : Option RegionInfo). if nat_le (first_site_of u) site then slice_index (replicate (sites_between u) 1) (site - first_site_of u) else 0) e
    ∙ ap (λ (b : Bool). if b then slice_index (replicate (suc info.last.0 - info.first.0) 1) (site - info.first.0) else 0) both.0
    ∙ get_or-replicate (suc info.last.0 - info.first.0) (site - info.first.0) 1 0 (omega (arith, low, high))

module _ (p : Program) (r : ℕ) (alone : stands_alone p r ≡ true) where
  abbrev plan : Plan
  plan = one_stage_plan p r

  -- a site of the one stage
  abbrev First : Access → Type 0
  First u = stage_of p plan u.site ≡ 1

  tests : (is_single (region_in p r) ≡ true) × (list_all (region_alone r) p.main ≡ true) × (list_all (is_numbered p r) (region_accesses p plan) ≡ true)
  tests = let one = and_parts (is_single (region_in p r)) _ alone in
      let two = and_parts (list_all (region_alone r) p.main) (list_all (is_numbered p r) (region_accesses p plan)) one.1 in (one.0, two.0, two.1)

  all_first : Each First (region_accesses p plan)
  all_first = each_map (λ u. is_numbered p r u ≡ true) First (λ u h. numbered_first p r u.site (slice_get p.regions (r - 1)) refl h) (region_accesses p plan)
      (all_of (is_numbered p r) (region_accesses p plan) tests.2)

  same_there : (site x : ℕ) → may_differ p plan 1 site x ≡ false
  same_there site x =
      ap (λ (b : Bool). b || list_any (λ (d : Access). is_stored_beside p plan 1 x d && not (is_apart_between p plan site d.site)) (region_accesses p plan))
      (none_make (λ (d : Access). is_stored_after p plan 1 x d && not (is_apart p plan site d.site)) (region_accesses p plan)
      (each_map First _ (λ d e. and_left (is_stored_after p plan 1 x d) (not (is_apart p plan site d.site))
      (and_right (stores_var x d) (nat_lt 1 (stage_of p plan d.site)) (ap (nat_lt 1) e))) (region_accesses p plan) all_first))
      ∙ none_make (λ (d : Access). is_stored_beside p plan 1 x d && not (is_apart_between p plan site d.site)) (region_accesses p plan)
      (each_map First _ (λ d e. and_left (is_stored_beside p plan 1 x d) (not (is_apart_between p plan site d.site))
      (never_beside (stores_var x d) (is_replicated plan 1) (stage_of p plan d.site == 1) (not (is_body_local p plan x)) refl))
      (region_accesses p plan) all_first)

  pub unchecked : (site : ℕ) → is_checked p plan site ≡ false
  unchecked site = none_make (is_checked_access p plan site) (region_accesses p plan) (each_map First (λ u. is_checked_access p plan site u ≡ false) here
      (region_accesses p plan) all_first)
    where
      here : (u : Access) → stage_of p plan u.site ≡ 1 → is_checked_access p plan site u ≡ false
      here u one = by (cases_eq u.site site)
        where
          by : (u.site ≡ site) ⊎ (u.site ≡ site → ⊥) → is_checked_access p plan site u ≡ false
          by (inl e) = and_right (u.site == site) _ (ap (λ (s : ℕ). list_any (may_differ p plan s site) u.loads) (sym (ap (stage_of p plan) e) ∙ one)
              ∙ none_make (may_differ p plan 1 site) u.loads (every (λ x. may_differ p plan 1 site x ≡ false) (same_there site) u.loads))
          by (inr e) = ap (λ (b : Bool). b && list_any (may_differ p plan (stage_of p plan site) site) u.loads) (ne_eqb u.site site e)

  all_seen : (base : List ℤ) (i : ℕ) (earlier : List Past) (events : List Event) → all_agree p plan base i earlier events ≡ true
  all_seen base i earlier [] = refl
  all_seen base i earlier (event ∷ rest) =
      ap (λ (b : Bool). (not b || loads_agree p plan base i earlier (stage_of p plan event.site) event.loads) && all_agree p plan base i
      (record { iteration = i; event = event } ∷ earlier) rest) (unchecked event.site)
      ∙ all_seen base i (record { iteration = i; event = event } ∷ earlier) rest

  none_assumed : (events : List Event) → Each (λ event. stage_of p plan event.site ≡ 1) events → list_all (event_as_assumed p plan) events ≡ true
  none_assumed [] first = refl
  none_assumed (event ∷ rest) first =
      ap (λ (b : Bool). (not (leaves event.effect) || b) && list_all (event_as_assumed p plan) rest) (ap (λ (s : ℕ). nat_le s 1) first.0)
      ∙ ap (λ (b : Bool). b && list_all (event_as_assumed p plan) rest) (or-true (not (leaves event.effect))) ∙ none_assumed rest first.1

  one_word : (events : List Event) → Each (λ event. stage_of p plan event.site ≡ 1) events → word_count p plan events 1 ≡ length events
  one_word [] e = refl
  one_word (event ∷ rest) e =
      let here : words_at p plan 1 event ≡ 1 = ap (λ (b : Bool). if b then event_words p plan event else 0) (eq-eqb (stage_of p plan event.site) 1 e.0)
      ∙ ap (λ (b : Bool). if b then length event.loads + 1 else 1) (unchecked event.site) in
      omega (arith, sum_by-cons (words_at p plan 1) event rest, here, one_word rest e.1)

  four_tests : (h x y z w : Bool) → x ≡ true → y ≡ true → z ≡ w → (h && x && y && (z && true)) ≡ (h && w)
  four_tests true true true true w e f g = g
  four_tests true true true false w e f g = g
  four_tests false x y z w e f g = refl
  four_tests true false y z w e f g = absurd (cc)
  four_tests true true false z w e f g = absurd (cc)

  single : (found : List Stmt) → is_single found ≡ true → (s : Stmt) × (found ≡ s ∷ [])
  single [] e = absurd (cc)
  single (s ∷ []) e = (s, refl)
  single (s ∷ t ∷ rest) e = absurd (cc)

  lone : Lone p r First
  lone =
      let found = single (region_in p r) tests.0 in
      let split = split_of p plan p.main found.0 found.1 tests.1 in
      record {
        statement = found.0;
        front = split.front;
        tail = split.tail;
        at = found_is (is_region_at r) p.main found.0 found.1;
        main = split.main_is;
        front_free = split.front_free;
        tail_free = split.tail_free;
        sites = (each_split First (accesses found.0) [] (subst (λ (xs : List Stmt). Each First (flat_map accesses xs)) found.1 all_first)).0;
      }

  all_events : (input : List ℤ) (fuel : ℕ) (c : Config) → StandsInMain p c → (i : ℕ) →
      Each (λ event. stage_of p plan event.site ≡ 1) (iteration (run_of p input fuel c) r i)
  all_events input fuel c begun i = each_map (AtSite First) (λ event. stage_of p plan event.site ≡ 1) (λ event found. ap (stage_of p plan) (sym found.1)
      ∙ found.2) (iteration (run_of p input fuel c) r i) (iteration_sites lone input fuel c begun i)

  clean_is : CleanInOneStage p r
  clean_is input fuel c begun e i =
      four_tests (has_ended (run_of p input fuel c) r i) _ _ (nat_le (word_count p plan (iteration (run_of p input fuel c) r i) 1) 4096)
      (nat_le (length (iteration (run_of p input fuel c) r i)) 4096)
      (all_seen (memory_after (run_of p input fuel c) r e) i (events_since (run_of p input fuel c) r e i) (iteration (run_of p input fuel c) r i))
      (none_assumed (iteration (run_of p input fuel c) r i) (all_events input fuel c begun i))
      (ap (λ (n : ℕ). nat_le n 4096) (one_word (iteration (run_of p input fuel c) r i) (all_events input fuel c begun i)))

pub clean_in_one_stage : (p : Program) (r : ℕ) → stands_alone p r ≡ true → CleanInOneStage p r
clean_in_one_stage p r alone = clean_is p r alone
