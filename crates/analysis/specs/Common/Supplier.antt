-- What the supplier takes on a processor of which we have a share.
use Rattle.std.specs.Prelude.{ℕ, ◌-◌, ◌*◌}
use Rattle.analysis.specs.Common.Rounding.{up}

-- document 02, request 6: "it acts on us like a task above all others, with period the round Q and cost Q − S", and "Both equations gain up(L, Q) × (Q − S)"
unfoldable pub supplier_of : ℕ → ℕ → ℕ → ℕ
supplier_of round share L = up L round * (round - share)
