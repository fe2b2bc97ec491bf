-- A search that ends earlier finds the same, as far as it goes: the least length within a limit, out of that within a larger one. Assumes nothing.
use Prim.Native.Nat.{ℕ, ◌≤◌, ◌<◌}
use mathlib.Core.Path.{◌≡◌, refl, sym, ap, ◌∙◌}
use mathlib.Core.Bool.{Bool, true, false, true≢false, cond, ◌||◌}
use native.Mathlib.Decide.{ℕ_discrete, dec_le}
use native.Mathlib.Omega.{arith}
use borrow.Author.Tests.{eq-eqb, ne_eqb, le-leb, lt-leb, le-ltb, lt-ltb}
use lib.Dec.{eqb, leb, ltb}
use Rattle.analysis.specs.Common.Search.{least_within}
use Rattle.analysis.specs.Common.Entries.{is_late}
use Rattle.analysis.proofs.Laws.Common.Climbing.{Least, least-says, least-found, least-none}

-- a value as far as a search to the limit goes: itself within the limit, else none
unfoldable pub cut : ℕ → ℕ → ℕ
cut limit value = cond (leb value limit) value 0

pub cut-kept : (limit value : ℕ) → value ≤ limit → cut limit value ≡ value
unfolding cut
cut-kept limit value within = simp (le-leb value limit within)

pub cut-past : (limit value : ℕ) → limit < value → cut limit value ≡ 0
unfolding cut
cut-past limit value past = simp (lt-leb value limit past)

pub cut-none : (limit : ℕ) → cut limit 0 ≡ 0
cut-none limit = cut-kept limit 0 (omega arith)

-- what is cut to nothing was nothing or lay past the limit
pub cut-late : (limit value : ℕ) → eqb (cut limit value) 0 ≡ is_late limit value
unfolding is_late
cut-late limit value = go (ℕ_discrete value 0) (dec_le value limit)
  where
    go : Dec (value ≡ 0) → Dec (value ≤ limit) → eqb (cut limit value) 0 ≡ (eqb value 0 || ltb limit value)
    go (yes none) side = eq-eqb _ 0 (ap (cut limit) none ∙ cut-none limit) ∙ simp (eq-eqb value 0 none)
    go (no some) (yes within) = ap (λ (n : ℕ). eqb n 0) (cut-kept limit value within) ∙ simp (ne_eqb value 0 some, le-ltb limit value within)
    go (no some) (no past) = eq-eqb _ 0 (cut-past limit value (omega arith)) ∙ simp (ne_eqb value 0 some, lt-ltb limit value (omega arith))

-- what is not late is kept
pub cut-on-time : (limit value : ℕ) → is_late limit value ≡ false → cut limit value ≡ value
unfolding is_late
cut-on-time limit value is = go (dec_le value limit)
  where
    go : Dec (value ≤ limit) → cut limit value ≡ value
    go (yes within) = cut-kept limit value within
    go (no past) = absurd (true≢false (sym (late (eqb value 0)) ∙ is))
      where
        late : (b : Bool) → (b || ltb limit value) ≡ true
        late true = refl
        late false = lt-ltb limit value (omega arith)

pub least-cut : (asked : ℕ → ℕ) (start limit longer : ℕ) → limit ≤ longer → least_within asked start limit ≡ cut limit (least_within asked start longer)
least-cut asked start limit longer less = go (least-says asked start longer)
  where
    go : {r : ℕ} → Least asked start longer r → least_within asked start limit ≡ cut limit r
    go (Least.none short) = least-none asked start limit _ (omega arith) short ∙ sym (cut-none limit)
    go (Least.least {L = L} low high fits short) = side (dec_le L limit)
      where
        side : Dec (L ≤ limit) → least_within asked start limit ≡ cut limit L
        side (yes within) = least-found asked start limit L low within short fits ∙ sym (cut-kept limit L within)
        side (no past) = least-none asked start limit L (omega arith) short ∙ sym (cut-past limit L (omega arith))
