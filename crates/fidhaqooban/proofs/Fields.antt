-- Values packed into a number, one more at the end: what each turn of reading or making a choice's number keeps, for every width and count.
-- Assumes nothing.
use Prim.Native.Nat.{ℕ, zero, suc, ◌+◌, ◌*◌, ◌/◌, ◌%◌, ◌^◌, ◌<◌, ◌≤◌, zero-le}
use mathlib.Core.Path.{◌≡◌, refl, sym, ap, ap₂, ◌∙◌, subst}
use mathlib.Core.List.{List, [], ◌∷◌, ◌++◌, append_assoc}
use native.Mathlib.Nat.{zero-mul, add-mul, mul_assoc, add_assoc, mod-lt, not-suc-le-zero, le_of_suc-le-suc, lt_of_lt_of_le, div-add-mod'}
use native.Mathlib.Numerals.{add-one}
use native.Mathlib.Omega.{arith}
use lib.ListN.{length, get_or, take, drop, set, replicate, length-set}
use lib.Pow.{pow-add, pow_pos, pow_mono, shr_lt}
use lib.Seq.{take-suc, drop-cons, get_or-set_same, drop-set-lt}
use Rattle.sheet.specs.Packing.{bits_of, packed, unpacked}
use Rattle.sheet.proofs.Packing.{Fit, none, one, packed_lt, packed-unpacked, unpacked-packed, fit-unpacked}

-- one more width at the end: its bits are added, a value in it fits, and the number is shifted by it
bits-last : (ws : List ℕ) (w : ℕ) → bits_of (ws ++ w ∷ []) ≡ bits_of ws + w
bits-last [] w = omega arith
bits-last (u ∷ ws) w = ap (λ (b : ℕ). u + b) (bits-last ws w) ∙ sym (add_assoc u (bits_of ws) w)

fit-last : (w v : ℕ) {ws vs : List ℕ} → Fit ws vs → v < 2 ^ w → Fit (ws ++ w ∷ []) (vs ++ v ∷ [])
fit-last w v none h = one h none
fit-last w v (one g f) h = one g (fit-last w v f h)

packed-last : (w v : ℕ) {ws vs : List ℕ} → Fit ws vs → packed (ws ++ w ∷ []) (vs ++ v ∷ []) ≡ packed ws vs * 2 ^ w + v
packed-last w v none = rw zero-mul (omega arith)
packed-last w v (one {v = x} {ws = ws} {vs = vs} h f) =
    ap₂ (λ (b rest : ℕ). x * 2 ^ b + rest) (bits-last ws w) (packed-last w v f) ∙ simp (pow-add, add-mul, mul_assoc, add_assoc)

-- one more of the same width may stand at the end
same-last : (n w : ℕ) → replicate (suc n) w ≡ replicate n w ++ w ∷ []
same-last zero w = refl
same-last (suc n) w = ap (λ (ws : List ℕ). w ∷ ws) (same-last n w)

-- values below 2 to one width fit as many of it as are taken
pub fit-taken : (w n : ℕ) (vs : List ℕ) → ((k : ℕ) → get_or vs k 0 < 2 ^ w) → n ≤ length vs → Fit (replicate n w) (take n vs)
fit-taken w zero vs each h = none
fit-taken w (suc n) [] each h = absurd (not-suc-le-zero h)
fit-taken w (suc n) (v ∷ vs) each h = one (each 0) (fit-taken w n vs (λ k. each (suc k)) (le_of_suc-le-suc h))

-- the number of one more value
pub packed_more : (w n : ℕ) (vs : List ℕ) → ((k : ℕ) → get_or vs k 0 < 2 ^ w) → n < length vs
    → packed (replicate (n + 1) w) (take (n + 1) vs) ≡ packed (replicate n w) (take n vs) * 2 ^ w + get_or vs n 0
packed_more w n vs each h =
    rw (add-one, same-last, take-suc vs n 0 h) (packed-last w (get_or vs n 0) (fit-taken w n vs each (omega arith)))

-- more of one width take more bits
bits-rise : (w n m : ℕ) → n ≤ m → bits_of (replicate n w) ≤ bits_of (replicate m w)
bits-rise w zero m h = zero-le
bits-rise w (suc n) zero h = absurd (not-suc-le-zero h)
bits-rise w (suc n) (suc m) h = omega (arith, bits-rise w n m (le_of_suc-le-suc h))

-- the number of one more value of m has room in the bits of m
pub more-fits : (w n m number : ℕ) (vs : List ℕ) → ((k : ℕ) → get_or vs k 0 < 2 ^ w) → n < m → m ≤ length vs → number ≡ packed (replicate n w) (take n vs)
    → number * 2 ^ w + get_or vs n 0 < 2 ^ bits_of (replicate m w)
more-fits w n m number vs each below long e =
    let next : number * 2 ^ w + get_or vs n 0 ≡ packed (replicate (n + 1) w) (take (n + 1) vs) = ap (λ (x : ℕ). x * 2 ^ w + get_or vs n 0) e ∙ sym (packed_more w n vs each (omega arith)) in
    let room = packed_lt (fit-taken w (n + 1) vs each (omega arith)) in
    rw next (lt_of_lt_of_le room (pow_mono (bits-rise w (n + 1) m (omega arith))))

-- the value at a number's end is its lowest, and those before it are of the number without it
pub unpacked-more : (w n number : ℕ) → number < 2 ^ bits_of (replicate (suc n) w)
    → (unpacked (replicate (suc n) w) number ≡ unpacked (replicate n w) (number / 2 ^ w) ++ number % 2 ^ w ∷ []) × (number / 2 ^ w < 2 ^ bits_of (replicate n w))
unpacked-more w n number h =
    let bits : bits_of (replicate (suc n) w) ≡ bits_of (replicate n w) + w = ap bits_of (same-last n w) ∙ bits-last (replicate n w) w in
    let upper : number / 2 ^ w < 2 ^ bits_of (replicate n w) = shr_lt (bits_of (replicate n w)) w (subst (λ (b : ℕ). number < 2 ^ b) bits h) in
    let fit = fit-unpacked (replicate n w) (number / 2 ^ w) upper in
    let whole : packed (replicate n w ++ w ∷ []) (unpacked (replicate n w) (number / 2 ^ w) ++ number % 2 ^ w ∷ []) ≡ number = packed-last w (number % 2 ^ w) fit ∙ ap (λ (m : ℕ). m * 2 ^ w + number % 2 ^ w) (packed-unpacked (replicate n w) (number / 2 ^ w) upper) ∙ div-add-mod' number (2 ^ w) in
    (ap₂ unpacked (same-last n w) (sym whole) ∙ unpacked-packed (fit-last w (number % 2 ^ w) fit (mod-lt number (pow_pos w))), upper)

-- a list with a value put at a place, from that place on
drop-put : (n v : ℕ) (l : List ℕ) → n < length l → drop n (set l n v) ≡ v ∷ drop (suc n) l
drop-put n v l h =
    drop-cons (set l n v) n 0 (simp length-set h) ∙ ap₂ ◌∷◌ (get_or-set_same l n v 0 h) (drop-set-lt (suc n) l n v (omega arith))

-- a turn of reading a number's values from the last one on: those still in the number, and then those put
pub read_more : (w n number : ℕ) (vs whole : List ℕ) → n < length vs → number < 2 ^ bits_of (replicate (suc n) w) → whole ≡ unpacked (replicate (suc n) w) number ++ drop (suc n) vs
    → whole ≡ unpacked (replicate n w) (number / 2 ^ w) ++ drop n (set vs n (number % 2 ^ w))
read_more w n number vs whole long h e =
    e ∙ ap (λ (l : List ℕ). l ++ drop (suc n) vs) (unpacked-more w n number h).0
    ∙ append_assoc (unpacked (replicate n w) (number / 2 ^ w)) (number % 2 ^ w ∷ []) (drop (suc n) vs)
    ∙ ap (λ (l : List ℕ). unpacked (replicate n w) (number / 2 ^ w) ++ l) (sym (drop-put n (number % 2 ^ w) vs long))
