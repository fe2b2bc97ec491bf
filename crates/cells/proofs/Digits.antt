-- Words that begin with a digit: no setting, and their numbers. Assumes nothing.
use Prim.Native.Nat.{ℕ, zero, suc, ◌+◌, ◌≤◌, ◌<◌, min}
use mathlib.Core.Path.{◌≡◌, refl, sym, ◌∙◌}
use mathlib.Core.Bool.{Bool, true, false, cond, not, ◌&&◌}
use mathlib.Core.Logic.{◌↔◌}
use mathlib.Core.List.{List, [], ◌∷◌}
use native.Mathlib.Omega.{arith}
use borrow.Author.Tests.{ne_eqb, lt-leb}
use lib.Dec.{eqb, ltb}
use lib.ListN.{length, get_or, take, drop}
use lib.Seq.{get_or-set_other}
use Rattle.places.proofs.Tells.{told, shown, leb_tells, and-tells}
use Rattle.cells.specs.declared.Label.{Label}
use Rattle.cells.specs.Kinds.{is_blank, is_digit, lower, is_gap, opens, closes}
use Rattle.cells.specs.Numbers.{is_quoted, quotes_refusal, content_of, are_digits, no_number, value_from, spelled, number_of}
use Rattle.cells.specs.Names.{same, no_label, unknown_label, with_stage, with_letter, with_byte, label_from, label_of, is_word, is_named, setting_named, setting_of, interval_name, round_name, share_name}

-- the ten digits, and no other byte, make a number
pub digits-exactly : (byte : ℕ) → (is_digit byte ≡ true) ↔ ((48 ≤ byte) × (byte < 48 + 10))
unfolding is_digit
digits-exactly byte =
    let tells = and-tells (leb_tells 48 byte) (leb_tells byte 57) in
    (λ e. omega (arith, told tells e), λ h. shown tells (omega arith))

-- a byte that is a digit
pub record Digit (byte : ℕ) : Type 0 where
  pub low : 48 ≤ byte
  pub high : byte ≤ 57

pub digit-is : {byte : ℕ} → Digit byte → is_digit byte ≡ true
digit-is {byte} d = (digits-exactly byte).1 (d.low, omega (arith, d.high))

-- it is no other byte
pub digit-above : {byte : ℕ} (other : ℕ) → Digit byte → other < 48 → eqb byte other ≡ false
digit-above {byte} other d low = ne_eqb byte other (λ e. omega (arith, d.low))

pub digit-below : {byte : ℕ} (other : ℕ) → Digit byte → 57 < other → eqb byte other ≡ false
digit-below {byte} other d high = ne_eqb byte other (λ e. omega (arith, d.high))

-- a word that does not begin with a quote says itself
pub plain-quotes : (word : List ℕ) → eqb (get_or word 0 0) 34 ≡ false → quotes_refusal word ≡ 0
unfolding quotes_refusal is_quoted
plain-quotes word e = simp e

pub plain-content : (word : List ℕ) → eqb (get_or word 0 0) 34 ≡ false → content_of word ≡ word
unfolding content_of is_quoted
plain-content word e = simp e (go (ltb (length word) 2))
  where
    go : (b : Bool) → cond b word word ≡ word
    go true = refl
    go false = refl

-- words that begin with different bytes are not the same
same_first : (first c : ℕ) (cs bytes : List ℕ) (n : ℕ) → 1 ≤ n → get_or bytes 0 0 ≡ first → (first ≡ c → ⊥) → same (take n bytes) (c ∷ cs) ≡ false
unfolding same
same_first first c cs bytes zero some is apart = absurd (omega arith)
same_first first c cs [] (suc n) some is apart = refl
same_first first c cs (x ∷ bytes) (suc n) some is apart = simp (ne_eqb x c (λ e. apart (sym is ∙ e)))

module _ (digit : ℕ) (d : Digit digit) where
  -- a name that begins with it
  record Named (label : Label) : Type 0 where
    some : 1 ≤ label.length
    first : get_or label.bytes 0 0 ≡ digit

  pick : {a b : Label} (c : Bool) → Named a → Named b → Named (cond c a b)
  pick true p q = p
  pick false p q = q

  byte-named : (label : Label) → Named label → (byte : ℕ) → Named (with_byte label byte)
  unfolding with_byte with_stage unknown_label with_letter
  byte-named label named byte =
      let unknown : Named (record { stage = label.stage; length = 17; bytes = label.bytes }) = record { some = omega arith; first = named.first } in
      let stage : (n : ℕ) → Named (record { stage = n; length = label.length; bytes = label.bytes }) = λ n. record { some = named.some; first = named.first } in
      pick (eqb label.stage 1) (pick (closes byte) (stage 2) named)
      (pick (is_gap byte) named
      (pick (eqb label.stage 2) unknown
      (pick (opens byte) (stage 1)
      (pick (ltb label.length 16) (record { some = omega arith; first = get_or-set_other label.bytes label.length 0 (lower byte) 0 (λ e. omega (arith, named.some)) ∙ named.first }) unknown))))

  from_named : (bytes : List ℕ) (label : Label) → Named label → Named (label_from label bytes)
  unfolding label_from
  from_named [] label named = named
  from_named (byte ∷ bytes) label named = from_named bytes (with_byte label byte) (byte-named label named byte)

  first-named : Named (with_byte no_label digit)
  unfolding with_byte is_gap is_blank opens with_letter lower
  first-named =
      let gap : is_gap digit ≡ false = simp (digit-above 32 d (omega arith), digit-above 9 d (omega arith), digit-above 13 d (omega arith), digit-above 45 d (omega arith), digit-below 95 d (omega arith)) in
      let opening : opens digit ≡ false = simp (digit-above 40 d (omega arith), digit-below 91 d (omega arith)) in
      let small : lower digit ≡ digit = simp (lt-leb 65 digit (omega (arith, d.high))) in
      simp (gap, opening) (record { some = omega arith; first = small })

  label-named : (bytes : List ℕ) → Named (label_of (digit ∷ bytes))
  unfolding label_of label_from
  label-named bytes =
      let quote = digit-above 34 d (omega arith) in
      simp (plain-quotes (digit ∷ bytes) quote, plain-content (digit ∷ bytes) quote) (from_named bytes (with_byte no_label digit) first-named)

  not_named : (label : Label) → Named label → (c : ℕ) (cs : List ℕ) → 57 < c → is_named label (c ∷ cs) ≡ false
  unfolding is_named is_word
  not_named label named c cs other =
      simp (same_first digit c cs label.bytes (min label.length 16) (omega (arith, named.some)) named.first (λ e. omega (arith, d.high))) (go (eqb label.stage 1))
    where
      go : (b : Bool) → (not b && false) ≡ false
      go true = refl
      go false = refl

  -- it names no setting
  pub no-setting : (bytes : List ℕ) → setting_of (digit ∷ bytes) ≡ 0
  unfolding setting_of setting_named
  no-setting bytes =
      let label = label_of (digit ∷ bytes) in
      let named = label-named bytes in
      let no : (c : ℕ) (cs : List ℕ) → 57 < c → is_named label (c ∷ cs) ≡ false = λ c cs other. not_named label named c cs other in
      simp
      (no 105 (drop 1 interval_name) (omega arith), no 101 [] (omega arith), no 114 (drop 1 round_name) (omega arith), no 113 [] (omega arith), no 115 (drop 1 share_name) (omega arith), no 115 [] (omega arith))

-- a word of digits is the number that they spell
pub digits_number : (word : List ℕ) → 0 < length word → are_digits false word ≡ true → eqb (get_or word 0 0) 34 ≡ false → number_of word ≡ value_from no_number word
unfolding number_of spelled
digits_number word some digits quote = simp (plain-quotes word quote, plain-content word quote, ne_eqb (length word) 0 (λ e. omega arith), digits)
