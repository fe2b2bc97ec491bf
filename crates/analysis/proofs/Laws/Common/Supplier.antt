-- The supplier's share: that of a good table is within the round, and a round that is all ours leaves the supplier nothing. Assumes nothing.
use Prim.Native.Nat.{ℕ, ◌-◌, ◌≤◌}
use mathlib.Core.Path.{◌≡◌}
use native.Mathlib.Nat.{mul-zero}
use native.Mathlib.Decide.{ℕ_discrete}
use native.Mathlib.Omega.{arith}
use Rattle.sheet.specs.declared.Table.{Table}
use Rattle.sheet.specs.Layout.{table_edition}
use Rattle.sheet.specs.Rules.{table_refusal}
use Rattle.sheet.proofs.Cases.{good-table}
use Rattle.sheet.proofs.Editions.{edition-low, whole-old, right-share}
use Rattle.analysis.specs.Common.Rounding.{up}
use Rattle.analysis.specs.Common.Supplier.{supplier_of}

-- the round of a good table is not 0, and the share no larger
pub share-within : (t : Table) → table_refusal t ≡ 0 → (1 ≤ t.round) × (t.share ≤ t.round)
share-within t good = go (ℕ_discrete (table_edition t) 0)
  where
    go : Dec (table_edition t ≡ 0) → (1 ≤ t.round) × (t.share ≤ t.round)
    go (yes old) =
        let whole = whole-old t.round t.share old in
        (omega arith, omega arith)
    go (no other) =
        let new : table_edition t ≡ 1 = omega (arith, edition-low t.round t.share) in
        let within = right-share t.round t.share new (good-table t good).share in
        (omega arith, omega arith)

-- a round that is all ours leaves the supplier nothing
pub unshared : (round share : ℕ) → round ≡ share → (L : ℕ) → supplier_of round share L ≡ 0
unfolding supplier_of
unshared round share whole L =
    let none : round - share ≡ 0 = omega arith in
    rw none (mul-zero (up L round))
