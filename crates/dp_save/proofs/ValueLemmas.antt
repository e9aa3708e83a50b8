-- A value and the word that writes it; a list of values or counts and their words.
use Rattle.std.proofs.Common.{◌≡◌, ◌⊎◌, inl, inr, ℕ, zero, suc, ◌-◌, ◌^◌, ◌<◌, ◌≤◌, ◌==◌, Bool, true, false, ◌&&◌, nat_le, nat_lt, List, [], ◌∷◌, map, length}
use Rattle.std.proofs.Common.{codes, decimal, ℤ, pos, negsuc, neg_ℤ, Option, Some, None, refl, sym, ap, subst, ◌∙◌, rules, arith, tests}
use Rattle.std.specs.Prelude.{if◌then◌else◌}
use Rattle.std.specs.Fmt.{signed_decimal}
use Rattle.std.specs.List.{list_all}
use Rattle.std.proofs.lemmas.Fmt.{decimal_digit, decimal_nonempty}
use Rattle.dp_base.specs.Arithmetic.{fits}
use Rattle.dp_base.specs.declared.limits.TheConstants.{FUEL}
use Rattle.dp_text.specs.Digits.{is_digit}
use Rattle.dp_text.specs.Each.{Each}
use Rattle.dp_text.specs.Words.{number_upto}
use Rattle.dp_text.proofs.JoinLemmas.{IsWord, decimal_word}
use Rattle.dp_text.proofs.NumberText.{Writes as WritesNumber, digits-decimal, number-decimal, number-sound}
use Rattle.dp_save.specs.CheckpointText.{Writes, WriteAll}
use Rattle.dp_save.specs.steps.LineWords.{before, count, each_read, in_64_bits, onto_list, value_of}

abbrev pub Wide : ℤ → Type 0
Wide z = fits z ≡ true

pub record IsValue (word : List ℕ) (z : ℤ) : Type 0 where
  pub writes : Writes word z
  pub wide : fits z ≡ true

-- ---- a word that is read

minus_writes : (n : ℕ) → Writes (45 ∷ decimal n) (neg_ℤ (pos n))
minus_writes zero = inr (ap (λ (d : List ℕ). 45 ∷ d) (decimal_digit 0 (omega arith)), refl)
minus_writes (suc n) = inl refl

fit_case : (sign : ℕ → ℤ) (n : ℕ) (z : ℤ) (is : Bool) → fits (sign n) ≡ is → (if is then Some (sign n) else None) ≡ Some z → (sign n ≡ z)
    × (fits (sign n) ≡ true)
fit_case sign n z true e h = (cc h, e)
fit_case sign n z false e h = absurd (cc h)

read_case : (sign : ℕ → ℤ) (digits : List ℕ) (o : Option ℕ) (z : ℤ) → number_upto (2 ^ 64 - 1) digits ≡ o → in_64_bits sign o ≡ Some z → (n : ℕ)
    × (digits ≡ decimal n) × (sign n ≡ z) × (fits (sign n) ≡ true)
read_case sign digits None z e h = absurd (cc h)
read_case sign digits (Some n) z e h =
    let f = fit_case sign n z (fits (sign n)) refl h in (n, (number-sound (2 ^ 64 - 1) (omega arith) digits n e).is, f.0, f.1)

sign_case : (byte : ℕ) (rest : List ℕ) (z : ℤ) (is : Bool) → (byte == 45) ≡ is
    → (if is then in_64_bits (λ n. neg_ℤ (pos n)) (number_upto (2 ^ 64 - 1) rest) else in_64_bits pos (number_upto (2 ^ 64 - 1) (byte ∷ rest))) ≡ Some z →
    IsValue (byte ∷ rest) z
sign_case byte rest z true e h =
    let r = read_case (λ n. neg_ℤ (pos n)) rest (number_upto (2 ^ 64 - 1) rest) z refl h in
    let minus : byte ≡ 45 = search (rules, tests) in
    let word : byte ∷ rest ≡ 45 ∷ decimal r.0 = ap (λ b. b ∷ rest) minus ∙ ap (λ (d : List ℕ). 45 ∷ d) r.1 in
    subst (λ (w : List ℕ). IsValue w z) (sym word) (subst (IsValue (45 ∷ decimal r.0)) r.2 (record { writes = minus_writes r.0; wide = r.3 }))
sign_case byte rest z false e h =
    let r = read_case pos (byte ∷ rest) (number_upto (2 ^ 64 - 1) (byte ∷ rest)) z refl h in
    subst (λ (w : List ℕ). IsValue w z) (sym r.1) (subst (IsValue (decimal r.0)) r.2 (record { writes = inl refl; wide = r.3 }))

pub value_sound : (word : List ℕ) (z : ℤ) → value_of word ≡ Some z → IsValue word z
value_sound [] z h = absurd (cc h)
value_sound (byte ∷ rest) z h = sign_case byte rest z (byte == 45) refl h

-- ---- a word that is written

digit_case : (byte : ℕ) (low high more : Bool) → nat_le 48 byte ≡ low → nat_le byte 57 ≡ high → ((low && high) && more) ≡ true → (byte == 45) ≡ false
digit_case byte true true more e f h = let above : 48 ≤ byte = search rules in search (rules, tests)
digit_case byte true false more e f h = absurd (cc h)
digit_case byte false high more e f h = absurd (cc h)

plain_value : (digits : List ℕ) → 0 < length digits → list_all is_digit digits ≡ true → value_of digits ≡ in_64_bits pos (number_upto (2 ^ 64 - 1) digits)
plain_value [] some h = absurd (omega (arith, some))
plain_value (byte ∷ rest) some h =
    let other : (byte == 45) ≡ false = digit_case byte (nat_le 48 byte) (nat_le byte 57) (list_all is_digit rest) refl refl h in rw other refl

small_size : (n : ℕ) (is : Bool) → nat_lt n (2 ^ 63) ≡ is → is ≡ true → n < 2 ^ 63
small_size n true e h = search rules
small_size n false e h = absurd (cc h)

in_bits : (sign : ℕ → ℤ) (n : ℕ) → fits (sign n) ≡ true → in_64_bits sign (Some n) ≡ Some (sign n)
in_bits sign n h = rw h refl

pub value_plain : (z : ℤ) → fits z ≡ true → value_of (signed_decimal z) ≡ Some z
value_plain (pos n) h =
    let small : n < 2 ^ 63 = small_size n (nat_lt n (2 ^ 63)) refl h in
    let low : n < 2 ^ 64 = omega (arith, small) in
    plain_value (decimal n) (decimal_nonempty n low) (digits-decimal n low)
    ∙ ap (in_64_bits pos) (number-decimal (2 ^ 64 - 1) (omega arith) n (omega (arith, small)))
    ∙ in_bits pos n h
value_plain (negsuc n) h =
    let small : n < 2 ^ 63 = small_size n (nat_lt n (2 ^ 63)) refl h in
    ap (in_64_bits (λ k. neg_ℤ (pos k))) (number-decimal (2 ^ 64 - 1) (omega arith) (suc n) (omega (arith, small)))
    ∙ in_bits (λ k. neg_ℤ (pos k)) (suc n) h

minus_zero : value_of (codes "-0") ≡ Some (pos 0)
minus_zero =
    ap (λ (d : List ℕ). in_64_bits (λ k. neg_ℤ (pos k)) (number_upto (2 ^ 64 - 1) d)) (sym (decimal_digit 0 (omega arith)))
    ∙ ap (in_64_bits (λ k. neg_ℤ (pos k))) (number-decimal (2 ^ 64 - 1) (omega arith) 0 (omega arith))

pub value_written : (word : List ℕ) (z : ℤ) → Writes word z → fits z ≡ true → value_of word ≡ Some z
value_written word z (inl is) h = ap value_of is ∙ value_plain z h
value_written word z (inr (is, none)) h = ap value_of is ∙ minus_zero ∙ ap Some (sym none)

minus_word : (n : ℕ) → n < 2 ^ 64 → IsWord (45 ∷ decimal n)
minus_word n h = decimal_word n h

plain_word : (z : ℤ) → fits z ≡ true → IsWord (signed_decimal z)
plain_word (pos n) h = let small : n < 2 ^ 63 = small_size n (nat_lt n (2 ^ 63)) refl h in decimal_word n (omega (arith, small))
plain_word (negsuc n) h = let small : n < 2 ^ 63 = small_size n (nat_lt n (2 ^ 63)) refl h in minus_word (suc n) (omega (arith, small))

pub written_word : (word : List ℕ) (z : ℤ) → Writes word z → fits z ≡ true → IsWord word
written_word word z (inl is) h = rw is (plain_word z h)
written_word word z (inr (is, none)) h = rw is (refl, refl)

-- ---- lists

pub record AreValues (words : List (List ℕ)) (zs : List ℤ) : Type 0 where
  pub write : WriteAll words zs
  pub wide : Each Wide zs

onto_case : {X : Type 0} (x : X) (later : Option (List X)) (xs : List X) → onto_list x later ≡ Some xs → (rest : List X) × (later ≡ Some rest) × (x ∷ rest ≡ xs)
onto_case x None xs h = absurd (cc h)
onto_case x (Some rest) xs h = (rest, refl, cc h)

values_case : (word : List ℕ) (words : List (List ℕ)) (o : Option ℤ) (zs : List ℤ) → value_of word ≡ o → before o (each_read value_of words) ≡ Some zs
    → ((rest : List ℤ) → each_read value_of words ≡ Some rest → AreValues words rest) → AreValues (word ∷ words) zs
values_case word words None zs e h more = absurd (cc h)
values_case word words (Some z) zs e h more =
    let o = onto_case z (each_read value_of words) zs h in let m = more o.0 o.1 in let v = value_sound word z e in
    rw (← o.2) (record { write = (v.writes, m.write); wide = (v.wide, m.wide) })

pub values_sound : (words : List (List ℕ)) (zs : List ℤ) → each_read value_of words ≡ Some zs → AreValues words zs
values_sound [] zs h = let none : [] ≡ zs = cc h in rw (← none) (record { write = tt; wide = tt })
values_sound (word ∷ words) zs h = values_case word words (value_of word) zs refl h (λ rest. values_sound words rest)

pub values_written : (words : List (List ℕ)) (zs : List ℤ) → WriteAll words zs → Each Wide zs → each_read value_of words ≡ Some zs
values_written [] [] w h = refl
values_written [] (z ∷ zs) w h = absurd w
values_written (word ∷ words) [] w h = absurd w
values_written (word ∷ words) (z ∷ zs) w h =
    ap (λ (o : Option ℤ). before o (each_read value_of words)) (value_written word z w.0 h.0) ∙ ap (onto_list z) (values_written words zs w.1 h.1)

pub written_words : (words : List (List ℕ)) (zs : List ℤ) → WriteAll words zs → Each Wide zs → Each IsWord words
written_words [] [] w h = tt
written_words [] (z ∷ zs) w h = absurd w
written_words (word ∷ words) [] w h = absurd w
written_words (word ∷ words) (z ∷ zs) w h = (written_word word z w.0 h.0, written_words words zs w.1 h.1)

pub write_plainly : (zs : List ℤ) → WriteAll (map signed_decimal zs) zs
write_plainly [] = tt
write_plainly (z ∷ zs) = (inl refl, write_plainly zs)

-- ---- counts

abbrev pub IsCount : ℕ → Type 0
IsCount n = n ≤ FUEL

pub count_sound : (word : List ℕ) (n : ℕ) → count word ≡ Some n → WritesNumber FUEL word n
count_sound word n h = number-sound FUEL (omega arith) word n h

pub count-decimal : (n : ℕ) → n ≤ FUEL → count (decimal n) ≡ Some n
count-decimal n h = number-decimal FUEL (omega arith) n h

pub record AreCounts (words : List (List ℕ)) (ns : List ℕ) : Type 0 where
  pub are : words ≡ map decimal ns
  pub each : Each IsCount ns

counts_case : (word : List ℕ) (words : List (List ℕ)) (o : Option ℕ) (ns : List ℕ) → count word ≡ o → before o (each_read count words) ≡ Some ns
    → ((rest : List ℕ) → each_read count words ≡ Some rest → AreCounts words rest) → AreCounts (word ∷ words) ns
counts_case word words None ns e h more = absurd (cc h)
counts_case word words (Some n) ns e h more =
    let o = onto_case n (each_read count words) ns h in let m = more o.0 o.1 in let w = count_sound word n e in
    rw (← o.2) (record { are = ap (λ (x : List ℕ). x ∷ words) w.is ∙ ap (λ (xs : List (List ℕ)). decimal n ∷ xs) m.are; each = (w.small, m.each) })

pub counts_sound : (words : List (List ℕ)) (ns : List ℕ) → each_read count words ≡ Some ns → AreCounts words ns
counts_sound [] ns h = let none : [] ≡ ns = cc h in rw (← none) (record { are = refl; each = tt })
counts_sound (word ∷ words) ns h = counts_case word words (count word) ns refl h (λ rest. counts_sound words rest)

pub counts-decimal : (ns : List ℕ) → Each IsCount ns → each_read count (map decimal ns) ≡ Some ns
counts-decimal [] h = refl
counts-decimal (n ∷ ns) h =
    ap (λ (o : Option ℕ). before o (each_read count (map decimal ns))) (count-decimal n h.0) ∙ ap (onto_list n) (counts-decimal ns h.1)

pub count_words : (ns : List ℕ) → Each IsCount ns → Each IsWord (map decimal ns)
count_words [] h = tt
count_words (n ∷ ns) h = (decimal_word n (omega (arith, h.0)), count_words ns h.1)
