-- The last number that passes a test: where it is, and that there is none. Assumes nothing.
use Prim.Native.Nat.{ℕ, zero, suc, ◌+◌, ◌≤◌, ◌<◌}
use mathlib.Core.Path.{◌≡◌, refl, sym, ap, ◌∙◌}
use mathlib.Core.Bool.{Bool, true, false, cond}
use mathlib.Core.Logic.{◌⊎◌, ⊎_elim}
use native.Mathlib.Nat.{eq-or-lt_of_le, le_of_suc-le-suc}
use native.Mathlib.Omega.{arith}
use Rattle.places.proofs.Search.{Fails}
use Rattle.margins.specs.Margins.{last_from}

-- the last of the numbers tried is where the test last holds
pub last_found : (test : ℕ → Bool) (n start found : ℕ) → start ≤ found → found < start + n → test found ≡ true → ((k : ℕ) → found < k → k < start + n → test k ≡ false) → last_from test start n ≡ found
unfolding last_from
last_found test zero start found low high holds fails = absurd (omega arith)
last_found test (suc n) start found low high holds fails = go (last_found test n start found low) (eq-or-lt_of_le within)
  where
    within : found ≤ start + n
    within = omega arith

    go : (found < start + n → test found ≡ true → ((k : ℕ) → found < k → k < start + n → test k ≡ false) → last_from test start n ≡ found)
        → (found ≡ start + n) ⊎ (found < start + n) → cond (test (start + n)) (start + n) (last_from test start n) ≡ found
    go earlier side =
        ⊎_elim (λ e. let here : test (start + n) ≡ true = ap test (sym e) ∙ holds in rw here (sym e))
        (λ lt. let missed : test (start + n) ≡ false = fails (start + n) lt (omega arith) in rw missed (earlier lt holds (λ k l h. fails k l (omega arith)))) side

-- and there is none where it fails at all of them
pub last_none : (test : ℕ → Bool) (n start : ℕ) → Fails test start (start + n) → last_from test start n ≡ 0
unfolding last_from
last_none test zero start fails = refl
last_none test (suc n) start fails = rw (fails (start + n) (omega arith) (omega arith)) (last_none test n start (λ k l h. fails k l (omega arith)))

-- what the last of the numbers tried says of the test: it is 0 and the test fails at all of them, or it is where the test last holds
pub data LastSays (test : ℕ → Bool) (start n : ℕ) : ℕ → Type 0 where
  none : Fails test start (start + n) → LastSays test start n 0
  found : {k : ℕ} → start ≤ k → k < start + n → test k ≡ true → ((j : ℕ) → k < j → j < start + n → test j ≡ false) → LastSays test start n k

pub last_says : (test : ℕ → Bool) (n start : ℕ) → LastSays test start n (last_from test start n)
unfolding last_from
last_says test zero start = none (λ k low high. absurd (omega arith))
last_says test (suc n) start = go (test (start + n)) refl (last_says test n start)
  where
    extend : {from : ℕ} → test (start + n) ≡ false → ((j : ℕ) → from ≤ j → j < start + n → test j ≡ false) → (j : ℕ) → from ≤ j → j < start + suc n → test j ≡ false
    extend missed fails j low high = ⊎_elim (λ e. ap test e ∙ missed) (λ lt. fails j low lt) (eq-or-lt_of_le (le_of_suc-le-suc within))
      where
        within : suc j ≤ suc (start + n)
        within = omega arith

    later : {r : ℕ} → test (start + n) ≡ false → LastSays test start n r → LastSays test start (suc n) r
    later missed (none fails) = none (extend missed fails)
    later missed (found {k = k} low high holds fails) = found {k = k} low (omega arith) holds (extend missed fails)

    go : (b : Bool) → test (start + n) ≡ b → LastSays test start n (last_from test start n) → LastSays test start (suc n) (cond b (start + n) (last_from test start n))
    go true e s = found {k = start + n} (omega arith) (omega arith) e (λ j low high. absurd (omega arith))
    go false e s = later e s
