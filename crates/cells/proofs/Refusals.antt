-- The numbers of a cell's refusals: 0, or from 30 to 42. Assumes nothing.
use Prim.Native.Nat.{ℕ, ◌+◌, ◌*◌, ◌≤◌}
use mathlib.Core.Path.{◌≡◌, refl}
use mathlib.Core.Bool.{Bool, true, false, cond, not, ◌&&◌}
use mathlib.Core.List.{List, [], ◌∷◌}
use lib.Dec.{eqb, ltb, lit≤}
use lib.ListN.{length, get_or}
use Rattle.cells.specs.declared.Number.{Number}
use Rattle.cells.specs.declared.Spelling.{Spelling}
use Rattle.cells.specs.Kinds.{is_digit, is_control}
use Rattle.cells.specs.Numbers.{quotes_refusal, content_of, are_digits, is_quoted, digit_of, no_number, with_digit, value_from, why_not, spelled, number_of}
use Rattle.cells.specs.Names.{no_spelling, misspelt, spelled_with, spelled_quote, spelled_after, spelled_from, named_by, name_of}

-- no refusal, or one of a cell's own
pub data Own : ℕ → Type 0 where
  none : {n : ℕ} → n ≡ 0 → Own n
  own : {n : ℕ} → 30 ≤ n → n ≤ 42 → Own n

own-pick : {m n : ℕ} (b : Bool) → Own m → Own n → Own (cond b m n)
own-pick true p q = p
own-pick false p q = q

-- the same of a number and of a name that is being read
record OwnNumber (number : Number) : Type 0 where
  is : Own number.refusal

record OwnSpelling (spelling : Spelling) : Type 0 where
  is : Own spelling.refusal

number-pick : {x y : Number} (b : Bool) → OwnNumber x → OwnNumber y → OwnNumber (cond b x y)
number-pick true p q = p
number-pick false p q = q

spelling-pick : {x y : Spelling} (b : Bool) → OwnSpelling x → OwnSpelling y → OwnSpelling (cond b x y)
spelling-pick true p q = p
spelling-pick false p q = q

-- a number's refusals: 31 and those of a cell that is none
digit-own : (number : Number) (byte : ℕ) → OwnNumber number → OwnNumber (with_digit number byte)
unfolding with_digit
digit-own number byte p =
    number-pick (eqb number.refusal 0)
    (number-pick (ltb 18446744073709551615 (number.value * 10 + digit_of byte)) (record { is = own (lit≤ tt) (lit≤ tt) }) (record { is = none refl })) p

value-own : (bytes : List ℕ) (number : Number) → OwnNumber number → OwnNumber (value_from number bytes)
unfolding value_from
value-own [] number p = p
value-own (byte ∷ bytes) number p = value-own bytes (with_digit number byte) (digit-own number byte p)

why-own : (cell : List ℕ) → Own (why_not cell)
unfolding why_not
why-own cell =
    own-pick (eqb (length cell) 0) (own (lit≤ tt) (lit≤ tt))
    (own-pick (is_digit (get_or cell 0 0) && are_digits true cell) (own (lit≤ tt) (lit≤ tt))
    (own-pick (eqb (get_or cell 0 0) 45 && is_digit (get_or cell 1 0)) (own (lit≤ tt) (lit≤ tt)) (own (lit≤ tt) (lit≤ tt))))

spelled-own : (cell : List ℕ) → OwnNumber (spelled cell)
unfolding spelled
spelled-own cell = number-pick (not (eqb (length cell) 0) && are_digits false cell) (value-own cell no_number (record { is = none refl })) (record { is = why-own cell })

pub number-own : (cell : List ℕ) → Own (number_of cell).refusal
unfolding number_of
number-own cell = (number-pick (eqb (quotes_refusal cell) 0) (spelled-own (content_of cell)) (record { is = own (lit≤ tt) (lit≤ tt) })).is

-- a name's: 30, 41 and 42
misspelt-own : (refusal : ℕ) → 30 ≤ refusal → refusal ≤ 42 → OwnSpelling (misspelt refusal)
unfolding misspelt
misspelt-own refusal low high = record { is = own low high }

with-own : (spelling : Spelling) (odd : Bool) (byte : ℕ) → OwnSpelling (spelled_with spelling odd byte)
unfolding spelled_with
with-own spelling odd byte = spelling-pick (ltb spelling.name.length 32) (record { is = none refl }) (misspelt-own 41 (lit≤ tt) (lit≤ tt))

quote-own : (quoted : Bool) (spelling : Spelling) → OwnSpelling (spelled_quote quoted spelling)
unfolding spelled_quote
quote-own quoted spelling = spelling-pick quoted (spelling-pick spelling.odd (record { is = none refl }) (with-own spelling true 34)) (misspelt-own 42 (lit≤ tt) (lit≤ tt))

after-own : (quoted : Bool) (spelling : Spelling) (byte : ℕ) → OwnSpelling spelling → OwnSpelling (spelled_after quoted spelling byte)
unfolding spelled_after
after-own quoted spelling byte p =
    spelling-pick (eqb spelling.refusal 0)
    (spelling-pick (eqb byte 34) (quote-own quoted spelling) (spelling-pick (is_control byte) (misspelt-own 30 (lit≤ tt) (lit≤ tt)) (with-own spelling false byte)))
    p

from-own : (quoted : Bool) (bytes : List ℕ) (spelling : Spelling) → OwnSpelling spelling → OwnSpelling (spelled_from quoted spelling bytes)
unfolding spelled_from
from-own quoted [] spelling p = p
from-own quoted (byte ∷ bytes) spelling p = from-own quoted bytes (spelled_after quoted spelling byte) (after-own quoted spelling byte p)

pub name-own : (cell : List ℕ) → Own (name_of cell).refusal
unfolding name_of named_by misspelt
name-own cell = go (eqb (quotes_refusal cell) 0) (from-own (is_quoted cell) (content_of cell) no_spelling (record { is = none refl }))
  where
    go : (fine : Bool) → OwnSpelling (spelled_from (is_quoted cell) no_spelling (content_of cell))
        → Own (cond fine (named_by (spelled_from (is_quoted cell) no_spelling (content_of cell))) (named_by (misspelt 42))).refusal
    go true p = p.is
    go false p = own (lit≤ tt) (lit≤ tt)
