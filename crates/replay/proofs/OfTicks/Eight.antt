-- Eight cells given by their slots: what stands at a slot, and a store at one of them. Assumes nothing.
use Rattle.std.proofs.Common.{◌≡◌, ℕ, ◌<◌, List, length, replicate, sym, ◌∙◌, arith, ext_get_or}
use Rattle.places.proofs.Filled.{length-filled, filled_at}
use Rattle.replay.specs.declared.Cell.{Cell}
use Rattle.replay.specs.Ticks.Cells.{no_cell, cell_at, eight}

pub length-eight : (f : ℕ → Cell) → length (eight f) ≡ 8
unfolding eight
length-eight f = length-filled f 8 (replicate 8 no_cell)

pub cell-eight : (f : ℕ → Cell) (k : ℕ) → k < 8 → cell_at (eight f) k ≡ f k
unfolding eight cell_at
cell-eight f k below = filled_at f 8 (replicate 8 no_cell) no_cell (omega arith) k below

-- eight cells are those that their slots give
pub eight-same : (cells : List Cell) (f : ℕ → Cell) → length cells ≡ 8 → ((k : ℕ) → k < 8 → cell_at cells k ≡ f k) → cells ≡ eight f
unfolding cell_at
eight-same cells f long each = ext_get_or no_cell cells (eight f) (long ∙ sym (length-eight f)) (λ k below. each k (omega arith) ∙ sym (cell-eight f k (omega arith)))
