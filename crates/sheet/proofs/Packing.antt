-- Bits packed into numbers and read back, for every list of widths: nothing is lost either way, and fields can be regrouped run by run.
-- Assumes nothing.
use Prim.Native.Nat.{ℕ, ◌+◌, ◌*◌, ◌/◌, ◌%◌, ◌^◌, ◌<◌}
use mathlib.Core.Path.{◌≡◌, refl, sym, ap, ap₂, ◌∙◌, subst}
use mathlib.Core.List.{List, [], ◌∷◌}
use native.Mathlib.Nat.{mod-lt, add_comm, add_assoc, mul_assoc, add-mul}
use lib.Dec.{lit<}
use lib.Pow.{pow_pos, pow-add, shr_lt, shr-shr, mod-pow-add, split, high, low}
use lib.Arith.{digits_lt, lt-one}
use Rattle.sheet.specs.Packing.{bits_of, packed, unpacked, regrouped}

-- each value is below 2 to its width, and there are as many values as widths
pub data Fit : List ℕ → List ℕ → Type 0 where
  none : Fit [] []
  one : {w v : ℕ} {ws vs : List ℕ} → v < 2 ^ w → Fit ws vs → Fit (w ∷ ws) (v ∷ vs)

pub packed_lt : {ws vs : List ℕ} → Fit ws vs → packed ws vs < 2 ^ bits_of ws
packed_lt none = lit< tt
packed_lt (one {w = w} {v = v} {ws = ws} {vs = vs} h f) =
    subst (λ (m : ℕ). v * 2 ^ bits_of ws + packed ws vs < m) (sym (pow-add 2 w (bits_of ws))) (digits_lt h (packed_lt f))

pub unpacked-packed : {ws vs : List ℕ} → Fit ws vs → unpacked ws (packed ws vs) ≡ vs
unpacked-packed none = refl
unpacked-packed (one {v = v} {ws = ws} h f) =
    ap₂ ◌∷◌ (high v (bits_of ws) (packed_lt f)) (ap (unpacked ws) (low v (bits_of ws) (packed_lt f)) ∙ unpacked-packed f)

pub packed-unpacked : (ws : List ℕ) (n : ℕ) → n < 2 ^ bits_of ws → packed ws (unpacked ws n) ≡ n
packed-unpacked [] n h = sym (lt-one h)
packed-unpacked (w ∷ ws) n h =
    ap (λ (l : ℕ). n / 2 ^ bits_of ws * 2 ^ bits_of ws + l) (packed-unpacked ws (n % 2 ^ bits_of ws) (mod-lt n (pow_pos (bits_of ws)))) ∙ split n (bits_of ws)

pub fit-unpacked : (ws : List ℕ) (n : ℕ) → n < 2 ^ bits_of ws → Fit ws (unpacked ws n)
fit-unpacked [] n h = none
fit-unpacked (w ∷ ws) n h = one (shr_lt w (bits_of ws) h) (fit-unpacked ws (n % 2 ^ bits_of ws) (mod-lt n (pow_pos (bits_of ws))))

-- the same bits fit the other widths
pub fit-regrouped : {ws vs : List ℕ} (us : List ℕ) → Fit ws vs → bits_of ws ≡ bits_of us → Fit us (regrouped ws us vs)
unfolding regrouped
fit-regrouped {ws} {vs} us f e = fit-unpacked us (packed ws vs) (subst (λ (b : ℕ). packed ws vs < 2 ^ b) e (packed_lt f))

-- regrouped and regrouped back, values are what they were
pub regrouped-back : {ws vs : List ℕ} (us : List ℕ) → Fit ws vs → bits_of ws ≡ bits_of us → regrouped us ws (regrouped ws us vs) ≡ vs
unfolding regrouped
regrouped-back {ws} {vs} us f e = ap (unpacked ws) (packed-unpacked us (packed ws vs) (subst (λ (b : ℕ). packed ws vs < 2 ^ b) e (packed_lt f))) ∙ unpacked-packed f

-- what stands above the packed fields is the first value, and the fields are the rest
lead : (v u : ℕ) (us : List ℕ) {ws vs : List ℕ} → Fit ws vs → bits_of ws ≡ bits_of us → unpacked (u ∷ us) (v * 2 ^ bits_of ws + packed ws vs) ≡ v ∷ unpacked us (packed ws vs)
lead v u us {ws} {vs} f e = rw (← e) (ap₂ ◌∷◌ (high v (bits_of ws) (packed_lt f)) (ap (unpacked us) (low v (bits_of ws) (packed_lt f))))

-- two fields at the front as one
pub join_first : (w u a b : ℕ) (us : List ℕ) {ws vs : List ℕ} → Fit ws vs → bits_of ws ≡ bits_of us
    → regrouped (w ∷ u ∷ ws) ((w + u) ∷ us) (a ∷ b ∷ vs) ≡ (a * 2 ^ u + b) ∷ regrouped ws us vs
unfolding regrouped
join_first w u a b us {ws} {vs} f e = ap (unpacked ((w + u) ∷ us)) together ∙ lead (a * 2 ^ u + b) (w + u) us f e
  where
    together : a * 2 ^ (u + bits_of ws) + (b * 2 ^ bits_of ws + packed ws vs) ≡ (a * 2 ^ u + b) * 2 ^ bits_of ws + packed ws vs
    together = simp (pow-add, add-mul, mul_assoc, add_assoc)

-- one field at the front as two
pub split-first : (w u x : ℕ) (us : List ℕ) {ws vs : List ℕ} → Fit ws vs → bits_of ws ≡ bits_of us
    → regrouped ((w + u) ∷ ws) (w ∷ u ∷ us) (x ∷ vs) ≡ x / 2 ^ u ∷ x % 2 ^ u ∷ regrouped ws us vs
unfolding regrouped
split-first w u x us {ws} {vs} f e =
    ap₂ ◌∷◌ (ap (λ (b : ℕ). whole / 2 ^ (u + b)) (sym e) ∙ upper) (ap (unpacked (u ∷ us)) (ap (λ (b : ℕ). whole % 2 ^ (u + b)) (sym e) ∙ lower) ∙ lead (x % 2 ^ u) u us f e)
  where
    whole : ℕ
    whole = x * 2 ^ bits_of ws + packed ws vs

    upper : whole / 2 ^ (u + bits_of ws) ≡ x / 2 ^ u
    upper = ap (λ (k : ℕ). whole / 2 ^ k) (add_comm u (bits_of ws)) ∙ sym (shr-shr whole (bits_of ws) u) ∙ ap (λ (n : ℕ). n / 2 ^ u) (high x (bits_of ws) (packed_lt f))

    lower : whole % 2 ^ (u + bits_of ws) ≡ x % 2 ^ u * 2 ^ bits_of ws + packed ws vs
    lower = mod-pow-add whole u (bits_of ws) ∙ ap₂ (λ (q r : ℕ). q % 2 ^ u * 2 ^ bits_of ws + r) (high x (bits_of ws) (packed_lt f)) (low x (bits_of ws) (packed_lt f))
