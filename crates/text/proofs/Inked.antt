-- A name in quotes: one byte more, and its length. Assumes nothing.
use Rattle.std.specs.Prelude.{fold}
use Rattle.std.proofs.lemmas.List.Sums.{fold_more}
use native.Mathlib.Omega.{arith}
use mathlib.Core.Path.{sym, ap}
use Prim.Native.Nat.{◌≤◌}
use lib.ListN.{take}
use Prim.Native.Nat.{ℕ, zero, suc, ◌+◌, min}
use mathlib.Core.Path.{◌≡◌, refl, ap, ◌∙◌}
use mathlib.Core.Bool.{Bool, true, false, cond}
use mathlib.Core.List.{List}
use native.Mathlib.Numerals.{add-one}
use lib.Dec.{eqb, ltb}
use lib.ListN.{length, get_or, set, length-set}
use Rattle.cells.specs.declared.Name.{Name}
use Rattle.text.specs.declared.Quote.{Quote}
use Rattle.text.specs.Named.{no_quote, with_ink, with_letter, letters_below, quoted_name}

-- the first bytes of a name, as a fold
pub letters_fold : (start : Quote) (bytes : List ℕ) (n : ℕ) → n ≤ length bytes → fold with_letter start (take n bytes) ≡ letters_below start bytes n
unfolding letters_below
letters_fold start bytes zero fits = refl
letters_fold start bytes (suc n) fits =
    ap (λ k. fold with_letter start (take k bytes)) (sym (add-one n)) ∙ fold_more with_letter start bytes n 0 (omega arith) ∙ ap (λ quote. with_letter quote (get_or bytes n 0)) (letters_fold start bytes n (omega arith))

-- the room stays
long-ink : (quote : Quote) (byte : ℕ) → length (with_ink quote byte).bytes ≡ length quote.bytes
unfolding with_ink
long-ink quote byte = go (ltb quote.at 66)
  where
    go : (room : Bool) → length (cond room (record { at = quote.at + 1; bytes = set quote.bytes quote.at byte }) quote).bytes ≡ length quote.bytes
    go true = length-set quote.bytes quote.at byte
    go false = refl

long-letter : (quote : Quote) (byte : ℕ) → length (with_letter quote byte).bytes ≡ length quote.bytes
unfolding with_letter
long-letter quote byte = go (eqb byte 34)
  where
    go : (is : Bool) → length (cond is (with_ink (with_ink quote 34) 34) (with_ink quote byte)).bytes ≡ length quote.bytes
    go true = long-ink (with_ink quote 34) 34 ∙ long-ink quote 34
    go false = long-ink quote byte

long-letters : (quote : Quote) (bytes : List ℕ) (n : ℕ) → length (letters_below quote bytes n).bytes ≡ length quote.bytes
unfolding letters_below
long-letters quote bytes zero = refl
long-letters quote bytes (suc n) = long-letter (letters_below quote bytes n) (get_or bytes n 0) ∙ long-letters quote bytes n

pub long-quoted : (name : Name) → length (quoted_name name).bytes ≡ 66
unfolding quoted_name
long-quoted name = long-ink (letters_below (with_ink no_quote 34) name.bytes (min name.length 32)) 34 ∙ long-letters (with_ink no_quote 34) name.bytes (min name.length 32) ∙ long-ink no_quote 34
