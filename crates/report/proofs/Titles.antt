-- When a line takes a name, and what it is then. Assumes nothing.
use Prim.Native.Nat.{ℕ, zero, suc, ◌+◌, ◌-◌, ◌≤◌, ◌<◌}
use mathlib.Core.Path.{◌≡◌, refl, sym, ap, ap₂, ◌∙◌}
use mathlib.Core.Bool.{true, false, not}
use mathlib.Core.List.{List, [], ◌∷◌, ◌++◌}
use native.Mathlib.Omega.{arith}
use native.Mathlib.Nat.{zero-add}
use borrow.Author.Tests.{leb-true, le-leb, eqb-false, ne_eqb, not-true}
use lib.Dec.{eqb, leb}
use lib.ListN.{length, set, replicate, length-append}
use lib.Seq.{sets}
use Rattle.places.proofs.Tells.{both_true}
use Rattle.sheet.proofs.Stores.{sets-after}
use Rattle.report.specs.declared.Line.{Line}
use Rattle.report.specs.Words.{space, newline}
use Rattle.report.specs.Texts.{line_of}
use Rattle.report.specs.Putting.{put}
use Rattle.report.specs.Titles.{takes_name, opened_line, titled_line}

some : (n : ℕ) → not (eqb n 0) ≡ true → 0 < n
some n e = omega (arith, eqb-false n 0 (not-true (eqb n 0) e))

-- a line that takes a name is not empty, and has room
pub takes-tells : (len size : ℕ) → takes_name len size ≡ true → (0 < len) × (len + size ≤ 87)
unfolding takes_name
takes-tells len size e =
    let outer = both_true (not (eqb len 0)) _ e in
    let inner = both_true (not (eqb size 0)) (leb (len + size) 87) outer.1 in
    (some len outer.0, leb-true (len + size) 87 inner.1)

-- with room the name is put
pub titled-with : (line : Line) (name : List ℕ) → takes_name line.len (length name) ≡ true → titled_line line name ≡ put (opened_line line) ((space ++ name) ++ newline)
unfolding titled_line
titled-with line name e = simp e

-- and without it nothing is
pub titled-without : (line : Line) (name : List ℕ) → takes_name line.len (length name) ≡ false → titled_line line name ≡ line
unfolding titled_line
titled-without line name e = simp e

set-again : (l : List ℕ) (i a b : ℕ) → set (set l i a) i b ≡ set l i b
set-again [] i a b = refl
set-again (x ∷ l) zero a b = refl
set-again (x ∷ l) (suc i) a b = ap (λ (r : List ℕ). x ∷ r) (set-again l i a b)

-- a text in the place of a line's newline is put as after the line's own text
over-newline : (room text rest : List ℕ) (byte k : ℕ) → k ≡ length text → sets (sets room 0 (text ++ newline)) k (byte ∷ rest) ≡ sets room 0 (text ++ byte ∷ rest)
over-newline room text rest byte k e =
    let after = e ∙ sym (zero-add (length text)) in
    ap (λ (l : List ℕ). sets l k (byte ∷ rest)) (sym (sets-after room text newline 0 k after))
    ∙ ap (λ (l : List ℕ). sets l (suc k) rest) (set-again (sets room 0 text) k 10 byte)
    ∙ sets-after room text (byte ∷ rest) 0 k after

takes-some : (len size : ℕ) → 0 < len → 0 < size → len + size ≤ 87 → takes_name len size ≡ true
unfolding takes_name
takes-some len size filled named room =
    simp (ne_eqb len 0 (λ e. omega (arith, e))) (simp (ne_eqb size 0 (λ e. omega (arith, e))) (le-leb (len + size) 87 room))

abbrev line : List ℕ → ℕ → Line
line bytes len = record { bytes = bytes; len = len }

-- a line with a name is the line of its text, a space and the name: nothing of either is lost
pub titled-text : (text name : List ℕ) → 0 < length name → length text + length name ≤ 86 → titled_line (line_of (text ++ newline)) name ≡ line_of (text ++ ((space ++ name) ++ newline))
unfolding line_of put opened_line
titled-text text name named room =
    let long = length-append text newline in
    let shorter : length (text ++ newline) - 1 ≡ length text = omega (arith, long) in
    titled-with (line_of (text ++ newline)) name (takes-some _ _ (omega (arith, long)) named (omega (arith, long)))
    ∙ ap₂ line (over-newline (replicate 88 0) text (name ++ newline) 32 _ shorter) (ap (λ (n : ℕ). n + length ((space ++ name) ++ newline)) shorter ∙ sym (length-append text ((space ++ name) ++ newline)))
