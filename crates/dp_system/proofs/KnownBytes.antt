-- Bytes that were written off the front of a list, one write after the other, and bytes that were read into a vector.
use Rattle.std.proofs.Common.{◌≡◌, ℕ, ◌+◌, List, ◌++◌, length, take, drop, sym, ap, ◌∙◌, subst}
use Rattle.std.proofs.Math.Seq.{take-append-add, take-append_seam}
use Rattle.std.proofs.lemmas.List.{drop-take}
use Rattle.std.specs.declared.option.Option.{Option}
use Rattle.std.specs.Io.KnownBytes.{Appends, Keeps}
use Rattle.std.proofs.KnownBytes.{Appends-trans, Appends-kept}

-- a last write took some more
pub front_and_more : (a b c : Option (List ℕ)) (all done rest : List ℕ) (n : ℕ) → all ≡ done ++ rest
    → Appends a b done → Appends b c (take n rest) → (k : ℕ) × Appends a c (take k all)
front_and_more a b c all done rest n split first last = (
  length done + n,
  subst (Appends a c) (sym (ap (take (length done + n)) split ∙ take-append-add done rest n)) (Appends-trans a b c done
      (take n rest) first last),
)

-- a last write failed
pub front_alone : (a b c : Option (List ℕ)) (all done rest : List ℕ) → all ≡ done ++ rest
    → Appends a b done → Keeps b c → (k : ℕ) × Appends a c (take k all)
front_alone a b c all done rest split first last =
    (length done, subst (Appends a c) (sym (ap (take (length done)) split ∙ take-append_seam done rest)) (Appends-kept a b c done first last))

-- what was read behind the old bytes, where the rest is cut off
pub appended_cut : (old filled new : List ℕ) (at n : ℕ) → at ≡ length old → new ≡ take (at + n) filled
    → drop (length old) new ≡ take n (drop at filled)
appended_cut old filled new at n place cut =
    ap (drop (length old)) cut ∙ ap (λ k. drop (length old) (take (k + n) filled)) place ∙ drop-take (length old) n filled
    ∙ ap (λ k. take n (drop k filled)) (sym place)

-- a vector whose items were all written over
pub written_whole : (k : ℕ) (written items : List ℕ) → k ≡ length written → take k (written ++ items) ≡ written
written_whole k written items e = ap (λ j. take j (written ++ items)) e ∙ take-append_seam written items
