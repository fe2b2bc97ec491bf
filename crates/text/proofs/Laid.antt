-- Texts laid into an output one after the other. Assumes nothing.
use Prim.Native.Nat.{ℕ, ◌+◌, ◌≤◌}
use mathlib.Core.Path.{◌≡◌, refl, sym, ap, ap₂, ◌∙◌, subst}
use mathlib.Core.List.{List, [], ◌++◌}
use native.Mathlib.Nat.{zero-add}
use lib.ListN.{length, drop, length-append}
use lib.Seq.{sets, sets-eq, length-sets}
use Rattle.sheet.proofs.Stores.{sets-after}
use Rattle.text.specs.Putting.{Put}

-- no text
pub put-none : (out : List ℕ) (at : ℕ) → Put out at [] 0 out
put-none out at = record { long = refl; content = refl }

-- a text after another is both at once
pub put-more : {a b c : List ℕ} {at end : ℕ} {t u : List ℕ} {n m : ℕ} → Put a at t n b → end ≡ at + n → Put b end u m c → Put a at (t ++ u) (n + m) c
put-more {a} {b} {c} {at} {end} {t} {u} p e q =
    record {
      long = length-append t u ∙ ap₂ ◌+◌ p.long q.long;
      content = q.content ∙ ap (λ (l : List ℕ). sets l end u) p.content ∙ sets-after a t u at end (e ∙ ap (λ (k : ℕ). at + k) (sym p.long));
    }

-- the same text and size in other words
pub put_as : {a b : List ℕ} {at : ℕ} {t u : List ℕ} {n m : ℕ} → t ≡ u → n ≡ m → Put a at t n b → Put a at u m b
put_as {a} {b} {at} {t} {u} same size p = record { long = ap length (sym same) ∙ p.long ∙ size; content = p.content ∙ ap (sets a at) same }

-- the output is as long as before
pub put-length : {a b : List ℕ} {at : ℕ} {t : List ℕ} {n : ℕ} → Put a at t n b → length b ≡ length a
put-length {a} {b} {at} {t} p = ap length p.content ∙ length-sets a at t

-- a text at the start, and then the bytes as they were
pub put_whole : {a b : List ℕ} {t : List ℕ} {n : ℕ} → Put a 0 t n b → n ≤ length a → b ≡ t ++ drop n a
put_whole {a} {b} {t} {n} p fits =
    let whole : 0 + length t ≡ n = zero-add (length t) ∙ p.long in
    p.content ∙ sets-eq t a 0 (subst (λ (k : ℕ). k ≤ length a) (sym whole) fits) ∙ ap (λ (k : ℕ). t ++ drop k a) whole
