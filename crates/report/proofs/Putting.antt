-- Text after text: what a line holds once more is put, and its length. Assumes nothing.
use Prim.Native.Nat.{ℕ, ◌+◌}
use mathlib.Core.Path.{◌≡◌, refl, sym, ap, ap₂, ◌∙◌}
use mathlib.Core.List.{List, [], ◌++◌, append_assoc}
use native.Mathlib.Nat.{add-zero, zero-add, add_assoc}
use lib.ListN.{length, replicate, length-append}
use Rattle.sheet.proofs.Stores.{sets-after}
use Rattle.report.specs.declared.Line.{Line}
use Rattle.report.specs.Texts.{line_of}
use Rattle.report.specs.Putting.{put}

abbrev line : List ℕ → ℕ → Line
line bytes len = record { bytes = bytes; len = len }

-- no text leaves the line as it is
pub put-none : (l : Line) → put l [] ≡ l
unfolding put
put-none l = ap (line l.bytes) (add-zero l.len)

put-put : (l : Line) (a b : List ℕ) → put (put l a) b ≡ put l (a ++ b)
unfolding put
put-put l a b =
    ap₂ line (sets-after l.bytes a b l.len (l.len + length a) refl)
    (add_assoc l.len (length a) (length b) ∙ ap (λ (n : ℕ). l.len + n) (sym (length-append a b)))

-- a text put at the start of no text
pub put_first : (text : List ℕ) → put (line (replicate 88 0) 0) text ≡ line_of text
unfolding put line_of
put_first text = ap (line _) (zero-add (length text))

-- a text after another is both at once
pub put-more : (l : Line) {r s : Line} (a b : List ℕ) → r ≡ put l a → s ≡ put r b → s ≡ put l (a ++ b)
put-more l a b p q = q ∙ ap (λ (m : Line). put m b) p ∙ put-put l a b

-- a line of one text with another after it is a line of both
pub line-more : {r s : Line} (a b : List ℕ) → r ≡ line_of a → s ≡ put r b → s ≡ line_of (a ++ b)
line-more a b p q = put-more (line (replicate 88 0) 0) a b (p ∙ sym (put_first a)) q ∙ put_first (a ++ b)

-- and so with two more texts that were put at once
pub line-both : {r s : Line} (a b c : List ℕ) → r ≡ line_of a → s ≡ put r (b ++ c) → s ≡ line_of (a ++ b ++ c)
line-both a b c p q = line-more a (b ++ c) p q ∙ ap line_of (sym (append_assoc a b c))

-- how long a line of a text is
pub len-line : {r : Line} (text : List ℕ) → r ≡ line_of text → r.len ≡ length text
unfolding line_of
len-line text p = ap (λ (m : Line). m.len) p

-- and how long a line is once a text is put
pub len-put : (l : Line) {r : Line} (text : List ℕ) → r ≡ put l text → r.len ≡ l.len + length text
unfolding put
len-put l text p = ap (λ (m : Line). m.len) p
