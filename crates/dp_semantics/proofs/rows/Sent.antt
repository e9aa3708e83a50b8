-- Packets against the source's own events, computed: their words agree exactly at the clean iterations.
use Rattle.std.proofs.Common.{◌≡◌, refl, ℕ, ◌==◌, Bool, true, false, ◌&&◌, ◌||◌, List, [], ◌∷◌, ℤ, pos, negsuc, length, map, Option, Some, None}
use Rattle.std.specs.Ordering.{int_eq}
use Rattle.dp_base.specs.declared.Word.{Word}
use Rattle.dp_base.specs.declared.WordKind.TheVariants as word
use Rattle.dp_tree.specs.declared.Program.{Program}
use Rattle.dp_tree.specs.Trace.{Run}
use Rattle.dp_tree.specs.Iteration.{iteration, begun_count}
use Rattle.dp_tree.proofs.Build.{tree_opened}
use Rattle.dp_tree.proofs.Programs.{stale_read, same_value_store, skip_negative, histogram, stale_step}
use Rattle.dp_plan.specs.declared.Plan.{Plan}
use Rattle.dp_plan.proofs.Plans.{stale_read_plan, skip_negative_plan, histogram_plan, stale_step_plan}
use Rattle.dp_tree.specs.Numbering.{numbers_from}
use Rattle.dp_semantics.specs.Packets.{Broken, Closing, Going, Packet, Status, passed, status_of}
use Rattle.dp_semantics.specs.Recovery.{epoch}
use Rattle.dp_semantics.specs.Words.{Astray, Void, is_load, is_done}
use Rattle.dp_semantics.specs.StageRun.{turn_from}
use Rattle.dp_semantics.specs.Verdict.{source_run, epoch_at, packet_at, words_at_stage}

abbrev same_word : Word → Word → Bool
same_word v w = (v.site.0 == w.site.0) && (v.index == w.index) && int_eq v.value w.value && (is_load v.kind && is_load w.kind || is_done
    v.kind && is_done w.kind)

abbrev same_words : List Word → List Word → Bool
same_words [] [] = true
same_words (v ∷ vs) (w ∷ ws) = same_word v w && same_words vs ws
same_words _ _ = false

abbrev same_lists : List (List Word) → List (List Word) → Bool
same_lists [] [] = true
same_lists (v ∷ vs) (w ∷ ws) = same_words v w && same_lists vs ws
same_lists _ _ = false

abbrev agrees : Program → Plan → List ℤ → Run → ℕ → Bool
agrees p plan input run i = same_lists (packet_at p plan input run (epoch p plan run i) i).lists (map (words_at_stage p plan (iteration run plan.region i))
    (numbers_from 1 (length plan.stages)))

abbrev agreeing : Program → Plan → List ℤ → List Bool
agreeing p plan input = by (source_run p input 10000)
  where
    by : Run → List Bool
    by run = map (agrees p plan input run) (numbers_from 0 (begun_count run plan.region))

stale_reads : (agreeing stale_read stale_read_plan [] ≡ true ∷ true ∷ false ∷ true ∷ true ∷ false ∷ true ∷ [])
    × (agreeing same_value_store stale_read_plan [] ≡ true ∷ true ∷ true ∷ true ∷ true ∷ true ∷ true ∷ [])
unfolding tree_opened turn_from
stale_reads = (refl, refl)

assumed_broken : agreeing skip_negative skip_negative_plan (pos 5 ∷ negsuc 0 ∷ pos 7 ∷ pos 8 ∷ []) ≡ true ∷ false ∷ true ∷ true ∷ []
unfolding tree_opened turn_from
assumed_broken = refl

replicated : agreeing histogram histogram_plan (pos 0 ∷ pos 1 ∷ pos 2 ∷ pos 3 ∷ []) ≡ true ∷ true ∷ true ∷ true ∷ true ∷ []
unfolding tree_opened turn_from
replicated = refl

words_too_few : agreeing stale_step (stale_step_plan 19) [] ≡ true ∷ false ∷ false ∷ true ∷ []
unfolding tree_opened turn_from
words_too_few = refl

-- the packet of the closing iteration closes
abbrev closes : Status → Bool
closes Closing = true
closes _ = false

abbrev closing_packets : List Bool
closing_packets = by (source_run same_value_store [] 10000)
  where
    by : Run → List Bool
    by run = map (λ i. closes (packet_at same_value_store stale_read_plan [] run 0 i).status) (numbers_from 0 7)

one_closes : closing_packets ≡ false ∷ false ∷ false ∷ false ∷ false ∷ false ∷ true ∷ []
unfolding tree_opened turn_from
one_closes = refl

abbrev done : ℕ → ℕ → ℤ → Word
done site index z = record { site = record { 0 = site }; kind = word.Done; index = index; value = z }

-- a void packet says which stage broke off and why, and keeps the words of the stages before it
abbrev astray : Packet
astray = packet_at skip_negative skip_negative_plan (negsuc 0 ∷ []) (source_run skip_negative (negsuc 0 ∷ []) 10000) 0 0

broken_in_stage_two : astray ≡ record {
  lists = (done 2 0 (pos 1) ∷ done 6 1 (pos 1) ∷ []) ∷ [];
  status = Broken 2 (Astray 5
      (Some (done 6 1 (pos 1))));
  version = None;
}
unfolding tree_opened turn_from
broken_in_stage_two = refl

-- the memory that stage s of the histogram sends along in the second iteration
abbrev version_from : ℕ → Option (List ℤ)
version_from s = (passed (epoch_at histogram histogram_plan input (source_run histogram input 10000) 0) s 1).packet.version
  where
    input : List ℤ
    input = pos 0 ∷ pos 1 ∷ pos 2 ∷ []

-- stage 1 stands before the replicated one, and sends what it had before the iteration: `i` is 1, and `x` is 0
first_version : version_from 1 ≡ Some (pos 0 ∷ pos 0 ∷ pos 0 ∷ pos 0 ∷ pos 1 ∷ pos 0 ∷ pos 0 ∷ [])
unfolding tree_opened turn_from
first_version = refl

no_later_version : (version_from 2 ≡ None) × (version_from 3 ≡ None)
unfolding tree_opened turn_from
no_later_version = (refl, refl)

-- what comes to stage 1 has no words, and the epoch's base before and after it
comes_to_stage_one : (input base : List ℤ) (n : ℕ) → passed (record { program = histogram; plan = histogram_plan; input = input; base = base }) 0 n
    ≡ record { packet = record { lists = []; status = Going; version = None }; before = base; after = base }
comes_to_stage_one input base n = refl

-- a void packet is void after a turn too, whether the turn closes or not
stays_void : (s : ℕ) (why : Void) (closing : Bool) → status_of (Broken s why) closing ≡ Broken s why
stays_void s why closing = refl
