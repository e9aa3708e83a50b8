-- The packets of items stand for those of turns that break off where an own site goes against an assumption.
use Rattle.dp_semantics.proofs.Names.{◌≡◌, inl, inr, refl, sym, ◌∙◌, subst, ℕ, zero, suc, ◌+◌, Bool, true, false, List, [], ◌∷◌, ◌++◌, ℤ, pos, length}
use Rattle.dp_semantics.proofs.Names.{length-set, map-append, list_all, list_any, Option, Some, None, Ok, Err, arith, sum_by, slice_get, cases_Bool, VarInfo}
use Rattle.dp_semantics.proofs.Names.{Stmt, out-Stmt, is_local_of, clear_locals, is_local_at, is_local_cell, project_all, region_statement, TurnEnd, StageKind}
use Rattle.dp_semantics.proofs.Names.{Par, Seq, Status, Going, Closing, Broken, Packet, Passed, passed_by, passed_on, Epoch, cleared, status_of, Void}
use Rattle.dp_net.proofs.Strict.{strict_run, strict_run_on, strict_sequential, strict_kind, strict_passed}
use Rattle.std.proofs.lemmas.List.{ext_get_or}
use Rattle.dp_theorem.proofs.Memory.{clear-at, clear-other}
use Rattle.dp_semantics.proofs.Each.{Each, each_join}
use Rattle.dp_semantics.proofs.Followed.{Parts}
use Rattle.dp_net.specs.NetItems.{Marks, weights}
use Rattle.dp_net.specs.NetRun.{NetEnded, net_run}
use Rattle.dp_net.specs.NetPackets.{NetStatus, NetGoing, NetClosing, NetVoid, net_status_of, NetPacket, NetPassed, net_passed, net_passed_by, net_passed_on}
use Rattle.dp_net.specs.NetPackets.{net_run_on, net_at_kind, net_at_sequential}
use Rattle.dp_net.proofs.Memories.{Agrees, agrees_self}
use Rattle.dp_net.proofs.Groups.{Group, flats, items, all_flats, all_items, sums_are, Marked, Good}
use Rattle.dp_net.proofs.Texts.{Text}
use Rattle.dp_net.proofs.Ready.{Ready}
use Rattle.dp_net.proofs.SiteRuns.{AllGood, SameEnd}
use Rattle.dp_net.proofs.NetRuns.{alike}

pub clear_size : (r : ℕ) (vars : List VarInfo) (cells : List ℤ) → length (clear_locals r vars cells) ≡ length cells
clear_size r [] cells = refl
clear_size r (x ∷ xs) cells = elim (cases_Bool (is_local_of r x.scope)) [
  | inl q ↦ rw q (clear_size r xs _ ∙ length-set cells x.first.0 (pos 0))
  | inr q ↦ rw q (clear_size r xs cells)
]

-- what is asked of a program, a plan and its blocks
pub record Quieted (k : Epoch) (m : Marks) (test : Stmt → Bool) : Type 0 where
  pub marked : Marked k.program k.plan m k.input
  pub ready : (x : Stmt) → test x ≡ true → Ready k.program k.plan m (out-Stmt x) × Parts (λ xs. list_all test xs ≡ true) (out-Stmt x)
  -- each stage's text has its blocks whole
  pub texts : (s : ℕ) → Text m (project_all k.program k.plan s (region_statement k.program k.plan))
  pub steady : (s : ℕ) → list_all test (project_all k.program k.plan s (region_statement k.program k.plan)) ≡ true
  -- a hidden cell is a body local's
  pub local : (u c : ℕ) → m.hides u c ≡ true → is_local_at k.program k.plan c ≡ true

pub data SameStatus : Status → NetStatus → Type 0 where
  both_going : SameStatus Going NetGoing
  both_closing : SameStatus Closing NetClosing
  both_broken : (s : ℕ) (why : Void) → SameStatus (Broken s why) NetVoid

module _ {k : Epoch} {m : Marks} {test : Stmt → Bool} (q : Quieted k m test) where
  open k use {program, plan, input}

  -- memories that agree are the same where the next iteration starts
  pub cleared_same : (s : ℕ) (a b : List ℤ) → Agrees m s a b → cleared k a ≡ cleared k b
  cleared_same s a b ab = ext_get_or (pos 0) (cleared k a) (cleared k b) (clear_size plan.region program.vars a ∙ ab.size
      ∙ sym (clear_size plan.region program.vars b))
      (λ c within. elim (cases_Bool (list_any (is_local_cell plan.region c) program.vars)) [
        | inl e ↦ clear-at plan.region c program.vars a (inl e) ∙ sym (clear-at plan.region c program.vars b (inl e))
        | inr e ↦ clear-other plan.region c program.vars a e ∙ ab.same c (λ u other. open_by u c e) ∙ sym (clear-other plan.region c program.vars b e)
      ])
    where
      open_by : (u c : ℕ) → list_any (is_local_cell plan.region c) program.vars ≡ false → m.hides u c ≡ false
      open_by u c e = by (m.hides u c) refl
        where
          by : (b : Bool) → m.hides u c ≡ b → b ≡ false
          by false h = refl
          by true h = let clash : true ≡ false = sym (q.local u c h) ∙ e in absurd (cc clash)

  -- the same words, but for blocks that are told by their net stores
  pub record SamePacket (a : Packet) (b : NetPacket) : Type 0 where
    pub groups : List (List Group)
    pub words : a.lists ≡ all_flats program plan m groups
    pub net : b.lists ≡ all_items program plan m groups
    pub good : AllGood program plan m input q.marked test q.ready 0 groups
    pub status : SameStatus a.status b.status
    pub version : a.version ≡ b.version

  pub record SamePassed (s : ℕ) (a : Passed) (b : NetPassed) : Type 0 where
    pub packet : SamePacket a.packet b.packet
    pub before : a.before ≡ b.before
    pub after : Agrees m s a.after b.after

  -- a stage's turn on such packets
  pub run_alike : (s : ℕ) (cells : List ℤ) (groups : List (List Group)) → AllGood program plan m input q.marked test q.ready 0 groups →
      SameEnd program plan m input q.marked test q.ready s (strict_run program plan input s cells (all_flats program plan m groups))
      (net_run program plan m input s cells (all_items program plan m groups))
  run_alike s cells groups good =
      let sums = sums_are program plan m groups in
      alike program plan m input q.marked test q.ready s (plan.words + sum_by weights (all_items program plan m groups) + 1)
      (plan.words + sum_by length (all_flats program plan m groups) + 1)
      (project_all program plan s (region_statement program plan)) cells cells groups [] false
      (record { text = q.texts s; steady = q.steady s; agrees = agrees_self m s cells; good = good; made_good = tt; fits = omega arith })
      (omega (arith, sums)) (omega arith)

  status_same : (a : Status) (b : NetStatus) (c d : Bool) → SameStatus a b → d ≡ c → SameStatus (status_of a c) (net_status_of b d)
  status_same a b true d both_going e = rw e both_closing
  status_same a b false d both_going e = rw e both_going
  status_same a b c d both_closing e = both_closing
  status_same a b c d (both_broken s why) e = both_broken s why

  ended_by : (s : ℕ) (before : List ℤ) (a : Packet) (b : NetPacket) → SamePacket a b → (u : TurnEnd) (w : Option NetEnded) →
      SameEnd program plan m input q.marked test q.ready s u w → SamePassed s (passed_by k s before a u) (net_passed_by m k s before b w)
  ended_by s before a b same (Ok e) (Some f) ends = record {
    packet = record {
      groups = same.groups ++ ends.made ∷ [];
      words = rw (same.words, ends.own) (sym (map-append flats same.groups (ends.made ∷ [])));
      net = rw (same.net, ends.net) (sym (map-append (items program plan m) same.groups (ends.made ∷ [])));
      good = each_join (Each (Good program plan m input)) same.groups (ends.made ∷ []) same.good (ends.good, tt);
      status = status_same a.status b.status e.closing f.closing same.status ends.closing;
      version = refl;
    };
    before = refl;
    after = ends.cells;
  }
  ended_by s before a b same (Err why) None ends = record {
    packet = record { groups = same.groups; words = same.words; net = same.net; good = same.good; status = both_broken s why; version = refl };
    before = refl;
    after = agrees_self m s before;
  }
  ended_by s before a b same (Ok e) None ends = absurd ends
  ended_by s before a b same (Err why) (Some f) ends = absurd ends

  passed_alike : (s : ℕ) (before : List ℤ) (a : Packet) (b : NetPacket) → SamePacket a b → SamePassed s (strict_run_on k s before a) (net_run_on m k s before b)
  passed_alike s before a b same = by a.status b.status same.status
    where
      turns : SameEnd program plan m input q.marked test q.ready s (strict_run program plan input s before a.lists)
          (net_run program plan m input s before b.lists)
      turns = rw (same.words, same.net) (run_alike s before same.groups same.good)

      by : (u : Status) (w : NetStatus) → SameStatus u w →
          SamePassed s (passed_on k s before a (strict_run program plan input s before a.lists) u)
          (net_passed_on m k s before b (net_run program plan m input s before b.lists) w)
      by u w both_going = ended_by s before a b same _ _ turns
      by u w both_closing = ended_by s before a b same _ _ turns
      by u w (both_broken t why) = record { packet = same; before = refl; after = agrees_self m s before }

  at_before : (s : ℕ) (a b : List ℤ) → a ≡ b → (c : Packet) (d : NetPacket) → SamePacket c d → SamePassed s (strict_run_on k s a c) (net_run_on m k s b d)
  at_before s a b e c d same = subst (λ (x : List ℤ). SamePassed s (strict_run_on k s a c) (net_run_on m k s x d)) e (passed_alike s a c d same)

  sequential_alike : (s t : ℕ) (came : ℕ → Passed) (net_came : ℕ → NetPassed) → ((n : ℕ) → SamePassed t (came n) (net_came n)) → (n : ℕ) →
      SamePassed s (strict_sequential k s came n) (net_at_sequential m k s net_came n)
  sequential_alike s t came net_came same zero = passed_alike s k.base (came zero).packet (net_came zero).packet (same zero).packet
  sequential_alike s t came net_came same (suc n) =
      let r = sequential_alike s t came net_came same n in
      at_before s (cleared k (strict_sequential k s came n).after) (cleared k (net_at_sequential m k s net_came n).after) (cleared_same s _ _ r.after)
      (came (suc n)).packet (net_came (suc n)).packet (same (suc n)).packet

  kind_alike : (kind : Option StageKind) (s t : ℕ) (came : ℕ → Passed) (net_came : ℕ → NetPassed) → ((n : ℕ) → SamePassed t (came n) (net_came n)) →
      (n : ℕ) → SamePassed s (strict_kind k kind s came n) (net_at_kind m k kind s net_came n)
  kind_alike (Some Par) s t came net_came same n =
      at_before s (came n).before (net_came n).before (same n).before (came n).packet (net_came n).packet (same n).packet
  kind_alike (Some Seq) s t came net_came same n = sequential_alike s t came net_came same n
  kind_alike None s t came net_came same n = sequential_alike s t came net_came same n

  -- Whatever a stage sends for whatever iteration stands for what it sends there by words.
  pub sent_alike : (s n : ℕ) → SamePassed s (strict_passed k s n) (net_passed m k s n)
  sent_alike zero n = record {
    packet = record { groups = []; words = refl; net = refl; good = tt; status = both_going; version = refl };
    before = refl;
    after = agrees_self m 0 k.base;
  }
  sent_alike (suc s) n = kind_alike (slice_get plan.stages s) (suc s) s (strict_passed k s) (net_passed m k s) (sent_alike s) n
