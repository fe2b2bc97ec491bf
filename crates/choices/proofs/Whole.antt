-- Tests and carries over whole choices, place by place, as loops go through them. Assumes nothing.
use Prim.Native.Nat.{ℕ, zero, suc, ◌+◌, ◌≤◌, ◌<◌}
use mathlib.Core.Path.{◌≡◌, ap, ap₂, ◌∙◌}
use mathlib.Core.Bool.{true, false, cond}
use mathlib.Core.List.{List, [], ◌∷◌, ◌++◌}
use native.Mathlib.Nat.{not-suc-le-zero, le_of_suc-le-suc}
use lib.Dec.{ltb}
use lib.ListN.{length, get_or, take, drop}
use Rattle.analysis.proofs.Laws.Common.Choice.{rest_at}
use Rattle.choices.specs.Stepping.{first_for, Carried, carried}

-- a carry at a place: where none rose after it, the entry there rises, or goes back to its first
pub carried-at : (ps qs : List ℕ) (k : ℕ) → k < length ps → k < length qs → (carried (drop (k + 1) ps) (drop (k + 1) qs)).rose ≡ false
    → carried (drop k ps) (drop k qs)
    ≡ record { rose = ltb (get_or qs k 0) (get_or ps k 0); entries = cond (ltb (get_or qs k 0) (get_or ps k 0)) (suc (get_or qs k 0)) (first_for (get_or ps k 0)) ∷ (carried (drop (k + 1) ps) (drop (k + 1) qs)).entries }
unfolding carried
carried-at ps qs k hp hq e = ap₂ carried (rest_at ps k hp) (rest_at qs k hq) ∙ simp e

-- where an entry rose from a place on, those before it stay
pub carried-front : (k : ℕ) (ps qs : List ℕ) → k ≤ length ps → k ≤ length qs → (carried (drop k ps) (drop k qs)).rose ≡ true
    → carried ps qs ≡ record { rose = true; entries = take k qs ++ (carried (drop k ps) (drop k qs)).entries }
unfolding carried
carried-front zero ps qs hp hq e = λ i. record { rose = e i; entries = (carried ps qs).entries }
carried-front (suc k) [] qs hp hq e = absurd (not-suc-le-zero hp)
carried-front (suc k) (p ∷ ps) [] hp hq e = absurd (not-suc-le-zero hq)
carried-front (suc k) (p ∷ ps) (q ∷ qs) hp hq e =
    ap (λ (later : Carried). cond later.rose (record { rose = true; entries = q ∷ later.entries }) (record { rose = ltb q p; entries = cond (ltb q p) (suc q) (first_for p) ∷ later.entries }))
    (carried-front k ps qs (le_of_suc-le-suc hp) (le_of_suc-le-suc hq) e)
