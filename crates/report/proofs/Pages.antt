-- A line's text in an output: its bytes one by one, its size, and the two answers of `put_line`. Assumes nothing.
use Prim.Native.Nat.{ℕ, ◌+◌, ◌-◌, ◌≤◌, min}
use mathlib.Core.Path.{◌≡◌, refl, sym, ap, ◌∙◌}
use mathlib.Core.Bool.{Bool, true, false}
use mathlib.Core.List.{List, append_assoc}
use native.Mathlib.Omega.{arith}
use borrow.Author.Tests.{ltb-true, ltb-false, leb-true, leb-false, le-leb, lt-leb}
use lib.Dec.{ltb, leb}
use lib.ListN.{length, take, drop, length-take}
use lib.Seq.{sets, sets-eq, take_all}
use borrow.Rule.Slice.PartMut.{put_mid, Post-is}
use Rattle.report.specs.declared.Line.{Line}
use Rattle.report.specs.Pages.{text_of, has_room, put_end, put_leaves}

-- room counted from a place on is room counted from the start
pub room-from : (size length at : ℕ) → at ≤ length → leb size (length - at) ≡ leb (at + size) length
room-from size length at within = go (leb size (length - at)) refl
  where
    go : (t : Bool) → leb size (length - at) ≡ t → leb size (length - at) ≡ leb (at + size) length
    go true e =
        let enough = leb-true size (length - at) e in
        e ∙ sym (le-leb (at + size) length (omega arith))
    go false e =
        let short = leb-false size (length - at) e in
        e ∙ sym (lt-leb (at + size) length (omega arith))

-- a part put in the place of as many bytes
pub put_sets : (out bytes part : List ℕ) (at end : ℕ) → part ≡ bytes → end ≡ at + length bytes → end ≤ length out → put_mid at (end - at) out part ≡ sets out at bytes
put_sets out bytes part at end same ends fits =
    rw (same, Post-is at end out (omega arith), ends) (sym (sets-eq bytes out at (omega (arith, fits, ends)) ∙ append_assoc (take at out) bytes (drop (at + length bytes) out)))

-- as many as are asked for, or all of them
take_min : (k n : ℕ) (bytes : List ℕ) → length bytes ≡ n → take (min k n) bytes ≡ take k bytes
take_min k n bytes e = go (ltb k n) refl
  where
    go : (t : Bool) → ltb k n ≡ t → take (min k n) bytes ≡ take k bytes
    go true t =
        let less = ltb-true k n t in
        let same : min k n ≡ k = omega arith in
        ap (λ (m : ℕ). take m bytes) same
    go false t =
        let more = ltb-false k n t in
        take_all (min k n) bytes (omega arith) ∙ sym (take_all k bytes (omega arith))

-- a line of n bytes, and how many of them its text has
module _ (line : Line) (n size : ℕ) (long : length line.bytes ≡ n) (sized : size ≡ min line.len n) where
  -- the text is that many of the bytes
  text-taken : take size line.bytes ≡ text_of line
  unfolding text_of
  text-taken = ap (λ (m : ℕ). take m line.bytes) sized ∙ take_min line.len n line.bytes long

  -- and has that length
  text-length : size ≡ length (text_of line)
  unfolding text_of
  text-length = sized ∙ sym (length-take line.len line.bytes ∙ ap (min line.len) long)

  module _ (out : List ℕ) (at : ℕ) where
    -- with room, the text is put
    pub put-fits : leb (at + size) (length out) ≡ true → (at + size ≡ put_end line out at) × (sets out at (take size line.bytes) ≡ put_leaves line out at)
    unfolding put_end put_leaves has_room
    put-fits e = rw (text-taken, text-length) (rw (rw text-length at e) (refl, refl))

    -- without it, nothing is
    pub put-nothing : leb (at + size) (length out) ≡ false → (at ≡ put_end line out at) × (out ≡ put_leaves line out at)
    unfolding put_end put_leaves has_room
    put-nothing e = rw (rw text-length at e) (refl, refl)
