-- The test of two sites by one variable that moves: what one stores against all that the other reads of it.
use Rattle.std.proofs.Common.{◌≡◌, refl, sym, ap, ◌∙◌, ℕ, ◌+◌, Bool, true, false, if◌then◌else◌, ◌&&◌, List, ◌++◌, length, ℤ, pos, Option, Some, None, eq-eqb}
use Rattle.std.proofs.lemmas.Bool.{and_from}
use Rattle.std.proofs.lemmas.Bool.Decides.{Decides-int_eq}
use Rattle.std.specs.List.{list_all}
use Rattle.std.specs.Option.{option_or}
use Rattle.dp_plan.specs.IsFar.{SiteTouch, Stored, Halves, all_pass, back_touches, front_touches, halves_pass, is_stored, read_passes, store_of, stored_at}
use Rattle.dp_sites.proofs.FarFind.{Among, TouchesRise, all_found, find, found_first, found_second, reads_pass, store_found, stored_in, stores_it}

abbrev pub shift_by : ℤ → Bool → ℤ
shift_by k true = k
shift_by k false = pos 0

-- what is read passes, where something is stored
abbrev pub passes_stored : (ℤ → ℤ → Bool) → ℕ → ℤ → SiteTouch → Option Stored → Bool
passes_stored test v shift t None = false
passes_stored test v shift t (Some s) = list_all (read_passes test v s.array s.place shift) t.reads

or_stored_none : (o : Option Stored) → option_or o None ≡ o
or_stored_none None = refl
or_stored_none (Some s) = refl

-- one of two holds of the site, the other of nothing
base : (x y dl ul : Bool) → (((if dl then true else x) && (if ul then true else y)) && ((if dl then x else true) && (if ul then y else true))) ≡ (x && y)
base true true true true = refl
base true true true false = refl
base true true false true = refl
base true true false false = refl
base true false true true = refl
base true false true false = refl
base true false false true = refl
base true false false false = refl
base false true true true = refl
base false true true false = refl
base false true false true = refl
base false true false false = refl
base false false true true = refl
base false false true false = refl
base false false false true = refl
base false false false false = refl

four : (a b c e x y : Bool) (dl ul : Bool) → a ≡ (if dl then true else x) → c ≡ (if dl then x else true) → b ≡ (if ul then true else y) →
    e ≡ (if ul then y else true) → ((a && b) && (c && e)) ≡ (x && y)
four a b c e x y dl ul p r q s =
    ap (λ (z : Bool). (z && b) && (c && e)) p ∙ ap (λ (z : Bool). ((if dl then true else x) && z) && (c && e)) q
    ∙ ap (λ (z : Bool). ((if dl then true else x) && (if ul then true else y)) && (z && e)) r
    ∙ ap (λ (z : Bool). ((if dl then true else x) && (if ul then true else y)) && ((if dl then x else true) && z)) s ∙ base x y dl ul

module _ (test : ℤ → ℤ → ℤ → Bool) (v d u k : ℕ) (condition : List SiteTouch) (h : Halves) (rises : TouchesRise k (front_touches condition h ++ back_touches h))
    (td tu : SiteTouch) (atD : find d (front_touches condition h ++ back_touches h) ≡ Some td)
    (atU : find u (front_touches condition h ++ back_touches h) ≡ Some tu)
    (lateD lateU : Bool) (whenD : Among d (k + length (front_touches condition h)) lateD) (whenU : Among u (k + length (front_touches condition h)) lateU) where
  abbrev fs : List SiteTouch
  fs = front_touches condition h

  abbrev bs : List SiteTouch
  bs = back_touches h

  abbrev rest : TouchesRise k fs × TouchesRise (k + length fs) bs
  rest = Rattle.dp_sites.proofs.FarFind.touches_split k fs bs rises

  stored : option_or (store_of v (pos 0) d fs) (store_of v h.stride d bs) ≡ stored_at v (shift_by h.stride lateD) td.store
  stored =
      ap (λ (o : Option Stored). option_or o (store_of v h.stride d bs)) (store_found v (pos 0) d fs
      ∙ ap (stored_in v (pos 0)) (found_first d k fs bs rises td atD lateD whenD))
      ∙ ap (option_or (stored_in v (pos 0) (if lateD then None else Some td))) (store_found v h.stride d bs
      ∙ ap (stored_in v h.stride) (found_second d k fs bs rises td atD lateD whenD))
      ∙ by lateD
    where
      by : (late : Bool) → option_or (stored_in v (pos 0) (if late then None else Some td)) (stored_in v h.stride (if late then Some td else None)) ≡ stored_at
          v (shift_by h.stride late) td.store
      by true = refl
      by false = or_stored_none (stored_at v (pos 0) td.store)

  module _ (s : Stored) (is : stored_at v (shift_by h.stride lateD) td.store ≡ Some s) where
    abbrev t : ℤ → ℤ → Bool
    t = test h.stride

    itself : is_stored s (stored_at v (shift_by h.stride lateD) td.store) ≡ true
    itself = ap (is_stored s) is ∙ and_from _ _ (eq-eqb s.array s.array refl) ((Decides-int_eq s.place s.place).1 refl)

    -- the tests in both pieces, of d and of u
    same_store : (late : Bool) → lateD ≡ late →
        (stores_it t v s (pos 0) (if late then None else Some td) ≡ (if late then true else is_stored s (stored_at v (shift_by h.stride lateD) td.store)))
        × (stores_it t v s h.stride (if late then Some td else None) ≡ (if late then is_stored s (stored_at v (shift_by h.stride lateD) td.store) else true))
    same_store true e = (refl, ap (λ (b : Bool). is_stored s (stored_at v (shift_by h.stride b) td.store)) (sym e))
    same_store false e = (ap (λ (b : Bool). is_stored s (stored_at v (shift_by h.stride b) td.store)) (sym e), refl)

    same_reads : (late : Bool) → lateU ≡ late →
        (reads_pass t v s (pos 0) (if late then None else Some tu) ≡ (if late then true
        else list_all (read_passes t v s.array s.place (shift_by h.stride lateU)) tu.reads))
        × (reads_pass t v s h.stride (if late then Some tu else None) ≡ (if late then list_all (read_passes t v s.array s.place (shift_by h.stride lateU))
        tu.reads else true))
    same_reads true e = (refl, ap (λ (b : Bool). list_all (read_passes t v s.array s.place (shift_by h.stride b)) tu.reads) (sym e))
    same_reads false e = (ap (λ (b : Bool). list_all (read_passes t v s.array s.place (shift_by h.stride b)) tu.reads) (sym e), refl)

    all_is : all_pass t v d u condition h (Some s) ≡ list_all (read_passes t v s.array s.place (shift_by h.stride lateU)) tu.reads
    all_is =
        ap (λ (b : Bool). b && list_all (Rattle.dp_plan.specs.IsFar.touch_passes t v d u s h.stride) bs) (all_found t v s (pos 0) d u k fs rest.0)
        ∙ ap (λ (b : Bool). (stores_it t v s (pos 0) (find d fs) && reads_pass t v s (pos 0) (find u fs)) && b)
        (all_found t v s h.stride d u (k + length fs) bs rest.1)
        ∙ four (stores_it t v s (pos 0) (find d fs)) (reads_pass t v s (pos 0) (find u fs)) (stores_it t v s h.stride (find d bs))
        (reads_pass t v s h.stride (find u bs))
        (is_stored s (stored_at v (shift_by h.stride lateD) td.store)) (list_all (read_passes t v s.array s.place (shift_by h.stride lateU))
        tu.reads) lateD lateU
        (ap (stores_it t v s (pos 0)) (found_first d k fs bs rises td atD lateD whenD) ∙ (same_store lateD refl).0)
        (ap (stores_it t v s h.stride) (found_second d k fs bs rises td atD lateD whenD) ∙ (same_store lateD refl).1)
        (ap (reads_pass t v s (pos 0)) (found_first u k fs bs rises tu atU lateU whenU) ∙ (same_reads lateU refl).0)
        (ap (reads_pass t v s h.stride) (found_second u k fs bs rises tu atU lateU whenU) ∙ (same_reads lateU refl).1)
        ∙ ap (λ (b : Bool). b && list_all (read_passes t v s.array s.place (shift_by h.stride lateU)) tu.reads) itself

  pub halves_are : halves_pass test v d u condition (Some h) ≡ passes_stored (test h.stride) v (shift_by h.stride lateU) tu
      (stored_at v (shift_by h.stride lateD) td.store)
  halves_are = ap (all_pass (test h.stride) v d u condition h) stored ∙ by (stored_at v (shift_by h.stride lateD) td.store) refl
    where
      by : (o : Option Stored) → stored_at v (shift_by h.stride lateD) td.store ≡ o → all_pass (test h.stride) v d u condition h o ≡ passes_stored
          (test h.stride) v (shift_by h.stride lateU) tu o
      by None e = refl
      by (Some s) e = all_is s e
