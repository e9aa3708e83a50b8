-- One step of the judging of items, where what came follows the text: at a site and at a block.
use Rattle.dp_semantics.proofs.Names.{◌≡◌, refl, sym, ap, ◌∙◌, arith, lt-ltb, eq-eqb, ℕ, zero, suc, ◌+◌, ◌-◌, Bool, true, false, ◌&&◌, ◌||◌, if◌then◌else◌}
use Rattle.dp_semantics.proofs.Names.{List, [], ◌∷◌, ◌++◌, drop-append_seam, ℤ, length, Option, Some, None, list_all, nat_le, sum_by, sum_by-cons, slice_set}
use Rattle.dp_semantics.proofs.Names.{Stmt, out-Stmt, Stmt-F, Program, Plan, Effect, site_of, value_of, stored, followed, stage_of, first_site, is_checked}
use Rattle.dp_semantics.proofs.Names.{as_assumed, closes_at, words_of, done_word, applied}
use Rattle.dp_semantics.proofs.Evaluation.{Form}
use Rattle.dp_net.specs.NetItems.{Marks, Item, Net, item_list}
use Rattle.dp_net.specs.NetJudge.{NetJudging, net_loads_hold, net_judged_by, block_judged, sites_for, net_judge_step}
unfoldable use Rattle.dp_net.specs.NetJudge.{net_judge_from}
use Rattle.dp_net.proofs.Groups.{Marked}
use Rattle.dp_net.proofs.Reading.{said_taken}
use Rattle.dp_net.proofs.Texts.{site_at, Plain}
use Rattle.dp_lean.specs.Queues.{steps_in, all_steps}
use Rattle.dp_lean.specs.LeanJudge.{load_holds}
use Rattle.dp_lean.proofs.LoadQueues.{steps_of_words, held_is}
use Rattle.dp_lean.proofs.Walk.{Brings, Walkable, own_site, low, head_well, Reads, reads, ReadsBlock, reads_block, block_low}
use Rattle.dp_lean.proofs.Weights.{sum_after}
use Rattle.dp_lean.proofs.Alongside.{does_form, Taken, words_taken, block_taken}

module _ (p : Program) (plan : Plan) (m : Marks) (input : List ℤ) (marked : Marked p plan m input) (read : ℕ → Bool) (limit : ℕ) where
  abbrev pub t : ℕ
  t = length plan.stages

  abbrev pub net_judging_at : List Stmt → List ℤ → List (List Item) → Bool → List Effect → List ℕ → ℕ → NetJudging
  net_judging_at xs cells lists closing effects sites steps =
      record { turn = record { to_do = xs; cells = cells; lists = lists; own = []; closing = closing }; effects = effects; sites = sites; steps = steps }

  module _ (x : Stmt) (rest : List Stmt) (cells : List ℤ) (lists : List (List Item)) (closing : Bool) (effects : List Effect) (sites : List ℕ) (steps : ℕ)
      (walked : Walkable p plan m input marked t read (x ∷ rest)) (came : Brings p plan m input marked t (x ∷ rest) (item_list lists)) (plain : Plain m x) where
    abbrev h : Stmt-F Stmt
    h = out-Stmt x

    abbrev pub u : ℕ
    u = stage_of p plan (site_at x)

    abbrev pub before : NetJudging
    before = net_judging_at (x ∷ rest) cells lists closing effects sites steps

    other : u ≡ suc t → ⊥
    other e = let early = (own_site p plan m input marked t read x rest walked).0.early in omega (arith, e, early)

    pub found : Reads p plan m input marked t read x rest walked (item_list lists)
    found = reads p plan m input marked t read x rest walked plain.0 other (item_list lists) came

    pub taken : Taken p plan m lists u found.next_left (length (words_of p plan found.event))
    taken = words_taken p plan m h found.event lists u found.next_left (low p plan m input marked t read x rest walked) found.says found.others

    pub form : Form p h found.event.effect
    form = does_form p plan h (head_well p plan m input marked t read x rest walked) (done_word found.event.site found.event.effect)
        found.event.effect found.says.does

    abbrev pub lists_next : List (List Item)
    lists_next = slice_set lists (u - 1) (found.next_left u)

    -- one step less is left
    pub steps_left : all_steps lists ≡ 1 + all_steps lists_next
    steps_left = sum_after p plan m (sum_by steps_in) refl lists u (found.next_left u) 1 (omega arith) (ap (sum_by steps_in) found.says.front
        ∙ steps_of_words p plan found.event (found.next_left u))

    abbrev pub after : NetJudging
    after = net_judging_at (followed x rest h (value_of found.event.effect)) (stored found.event.effect cells) lists_next
        (closing || closes_at (first_site p plan) (site_of h).0 found.event.effect)
        (effects ++ found.event.effect ∷ []) (sites ++ (site_of h).0 ∷ []) (steps + 1)

    assumed : as_assumed p plan (site_of h).0 found.event.effect ≡ true
    assumed = ap (λ (site : ℕ). as_assumed p plan site found.event.effect) (sym found.says.site) ∙ found.says.assumed

    -- the loads are compared, and nothing else is asked
    pub judged_is : net_judge_step p plan m limit before x rest
        ≡ (if nat_le (steps + 1) limit then (if (if is_checked p plan (site_at x) then list_all (load_holds cells) found.event.loads else true) then Some after
        else None) else None)
    judged_is = rw plain.0 (ap (λ (o : Option NetJudging). if nat_le (steps + 1) limit then o else None)
        (ap (net_judged_by p plan before x rest h (net_loads_hold (site_at x) cells (item_list lists u))) (said_taken p plan h found.event (item_list lists u)
        (found.next_left u) found.says)
        ∙ ap (λ (b : Bool). if b && as_assumed p plan (site_of h).0 found.event.effect then Some after else None)
        (held_is p plan h found.event (item_list lists) found.next_left found.says found.others cells)
        ∙ ap (λ (b : Bool). if (if is_checked p plan (site_at x) then list_all (load_holds cells) found.event.loads else true) && b
        then Some after else None) assumed
        ∙ by (if is_checked p plan (site_at x) then list_all (load_holds cells) found.event.loads else true)))
      where
        by : (b : Bool) → (if b && true then Some after else None) ≡ (if b then Some after else None)
        by true = refl
        by false = refl

  module _ (x : Stmt) (b rest : List Stmt) (cells : List ℤ) (lists : List (List Item)) (closing : Bool) (effects : List Effect) (sites : List ℕ) (steps : ℕ)
      (at : m.block_at (site_at x) ≡ x ∷ b) (walked : Walkable p plan m input marked t read (x ∷ (b ++ rest)))
      (came : Brings p plan m input marked t (x ∷ (b ++ rest)) (item_list lists)) where
    abbrev pub v : ℕ
    v = stage_of p plan (site_at x)

    abbrev pub before_block : NetJudging
    before_block = net_judging_at (x ∷ (b ++ rest)) cells lists closing effects sites steps

    block_other : v ≡ suc t → ⊥
    block_other e = let early = (own_site p plan m input marked t read x (b ++ rest) walked).0.early in omega (arith, e, early)

    pub found_block : ReadsBlock p plan m input marked t read x b rest at walked (item_list lists)
    found_block = reads_block p plan m input marked t read x b rest at walked block_other (item_list lists) came

    abbrev pub block_lists : List (List Item)
    block_lists = slice_set lists (v - 1) (found_block.next_left v)

    pub taken_block : Taken p plan m lists v found_block.next_left found_block.count
    taken_block = block_taken p plan m (site_at x) found_block.count found_block.stores lists v found_block.next_left
        (block_low p plan m input marked t read x b rest at walked) found_block.some found_block.front found_block.others

    pub block_steps : all_steps lists ≡ found_block.count + all_steps block_lists
    block_steps = sum_after p plan m (sum_by steps_in) refl lists v (found_block.next_left v) found_block.count found_block.some
        (ap (sum_by steps_in) found_block.front ∙ sum_by-cons steps_in (Net (site_at x) found_block.count found_block.stores) (found_block.next_left v))

    abbrev pub after_block : NetJudging
    after_block = net_judging_at rest (applied found_block.stores cells) block_lists closing (effects ++ found_block.stores)
        (sites ++ sites_for (site_at x) found_block.stores) (steps + found_block.count)

    pub block_is : net_judge_step p plan m limit before_block x (b ++ rest) ≡ (if nat_le (steps + found_block.count) limit then Some after_block else None)
    block_is = rw (at, drop-append_seam b rest) (ap (block_judged p plan limit before_block (site_at x) rest) found_block.front
        ∙ rw (eq-eqb (site_at x) (site_at x) refl, lt-ltb 0 found_block.count found_block.some) refl)

-- where all lists are empty no step is left
pub no_steps : (lists : List (List Item)) → ((y : ℕ) → item_list lists y ≡ []) → all_steps lists ≡ 0
no_steps [] e = refl
no_steps (is ∷ lists) e =
    let s = sum_by-cons (sum_by steps_in) is lists in
    let first : sum_by steps_in is ≡ 0 = ap (sum_by steps_in) (e 1) in
    let more = no_steps lists (λ y. by y (λ k. e (suc k))) in
    omega (arith, s, first, more)
  where
    by : (y : ℕ) → ((k : ℕ) → item_list (is ∷ lists) (suc k) ≡ []) → item_list lists y ≡ []
    by zero f = refl
    by (suc y) f = f (suc y)
