-- The cells as columns: what each phase of a tick, done in place, makes of the cells. Assumes nothing.
use Rattle.std.proofs.Common.{◌≡◌, ℕ, ◌+◌, ◌-◌, ◌<◌, Bool, true, false, cond, not, ◌&&◌, eqb, leb, List, length, get_or, set, sym, refl, ap, ◌∙◌, le_refl, arith, get_or-set_other, get_or-set_same, eq-eqb, ne_eqb}
use native.Mathlib.Decide.{ℕ_discrete}
use Rattle.places.specs.Places.{one_if, count_below, filled_below}
use Rattle.places.proofs.Agree.{count-agree}
use Rattle.places.proofs.Filled.{filled_at, filled-past}
use Rattle.sheet.specs.declared.Record.{Record}
use Rattle.replay.specs.declared.Cell.{Cell}
use Rattle.replay.specs.Ticks.Tick.{is_released}
use Rattle.replay.specs.Ticks.Cells.{no_cell, cell_at, eight, is_ready}
use Rattle.replay.specs.Ticks.Columns.{cell_in, cells_in}
use Rattle.replay.specs.Ticks.Counts.{cell_of}
use Rattle.replay.specs.Ticks.Step.{released, entered, runs, ran, faulted, struck, worked, is_last, is_missed, ended}
use Rattle.replay.proofs.OfTicks.Eight.{length-eight, cell-eight, eight-same}
use Rattle.replay.proofs.OfTicks.Struck.{others-kept, runner-changed}

-- a slot that is not reached yet is as it was
pub in_place : (f : ℕ → ℕ) (room column : List ℕ) (slot : ℕ) → column ≡ filled_below f slot room → get_or column slot 0 ≡ get_or room slot 0
in_place f room column slot e = ap (λ (l : List ℕ). get_or l slot 0) e ∙ filled-past f slot room 0 slot (le_refl slot)

-- a slot's cell, part by part
cell_parts : (left rest wait backups : List ℕ) (slot : ℕ) (cell : Cell) → not (eqb (get_or backups slot 0) 0) ≡ cell.is_backup → get_or left slot 0 ≡ cell.left → get_or rest slot 0 ≡ cell.rest → get_or wait slot 0 ≡ cell.wait → cell_in left rest wait backups slot ≡ cell
unfolding cell_in
cell_parts left rest wait backups slot cell a b c d = λ i. record { is_backup = a i; left = b i; rest = c i; wait = d i }

-- the cell that stands at a slot of columns
pub cell-at : (left rest wait backups : List ℕ) (slot : ℕ) → slot < 8 → cell_at (cells_in left rest wait backups) slot ≡ cell_in left rest wait backups slot
unfolding cells_in
cell-at left rest wait backups slot below = cell-eight _ slot below

-- eight cells are those of columns whose parts agree at each slot
cells_agree : (left rest wait backups : List ℕ) (cell : ℕ → Cell) → ((slot : ℕ) → slot < 8 → cell_in left rest wait backups slot ≡ cell slot) → cells_in left rest wait backups ≡ eight cell
unfolding cells_in
cells_agree left rest wait backups cell each = eight-same _ cell (length-eight _) (λ k below. cell-eight _ k below ∙ each k below)

one-is : (b : Bool) → not (eqb (one_if b) 0) ≡ b
unfolding one_if
one-is true = refl
one-is false = refl

-- the column of a part of the cells
abbrev pub column : (Cell → ℕ) → List Cell → ℕ → ℕ
column part cells slot = part (cell_at cells slot)

-- what a release puts into a column
abbrev pub entered_in : ℕ → (ℕ → ℕ) → List ℕ → ℕ → ℕ
entered_in releases fresh column slot = cond (is_released releases slot) (fresh slot) (get_or column slot 0)

-- the work left at a tick's end
abbrev pub left_ended : List ℕ → List ℕ → ℕ → ℕ
left_ended left rest slot = cond (leb (get_or rest slot 0) 1) 0 (get_or left slot 0)

-- one tick nearer
abbrev pub nearer : List ℕ → ℕ → ℕ
nearer column slot = get_or column slot 0 - 1

-- unfinished at the end of the last tick
abbrev pub missed_in : List ℕ → List ℕ → ℕ → Bool
missed_in left rest slot = leb (get_or rest slot 0) 1 && not (eqb (get_or left slot 0) 0)

-- columns of eight
module _ (left rest wait backups : List ℕ) (l : length left ≡ 8) (r : length rest ≡ 8) (w : length wait ≡ 8) (b : length backups ≡ 8) where
  pub cells-spread : (cells : List Cell) → length cells ≡ 8
      → cells_in (filled_below (column (λ c. c.left) cells) 8 left) (filled_below (column (λ c. c.rest) cells) 8 rest) (filled_below (column (λ c. c.wait) cells) 8 wait) (filled_below (column (λ c. one_if c.is_backup) cells) 8 backups) ≡ cells
  cells-spread cells long =
      let left' = filled_below (column (λ c. c.left) cells) 8 left in
      let rest' = filled_below (column (λ c. c.rest) cells) 8 rest in
      let wait' = filled_below (column (λ c. c.wait) cells) 8 wait in
      let backups' = filled_below (column (λ c. one_if c.is_backup) cells) 8 backups in
      cells_agree left' rest' wait' backups' (cell_at cells)
      (λ k below. cell_parts left' rest' wait' backups' k (cell_at cells k) (ap (λ (n : ℕ). not (eqb n 0)) (filled_at (column (λ c. one_if c.is_backup) cells) 8 backups 0 (omega arith) k below) ∙ one-is (cell_at cells k).is_backup) (filled_at (column (λ c. c.left) cells) 8 left 0 (omega arith) k below) (filled_at (column (λ c. c.rest) cells) 8 rest 0 (omega arith) k below) (filled_at (column (λ c. c.wait) cells) 8 wait 0 (omega arith) k below))
      ∙ sym (eight-same cells (cell_at cells) long (λ k below. refl))

  pub cells-entered : (tasks : ℕ → Record) (releases : ℕ)
      → cells_in (filled_below (entered_in releases (λ k. (tasks k).cost) left) 8 left) (filled_below (entered_in releases (λ k. (tasks k).deadline) rest) 8 rest) (filled_below (entered_in releases (λ k. (tasks k).period) wait) 8 wait) (filled_below (entered_in releases (λ k. 0) backups) 8 backups)
      ≡ eight (entered tasks releases (cell_at (cells_in left rest wait backups)))
  unfolding entered cell_in
  cells-entered tasks releases =
      let left' = filled_below (entered_in releases (λ k. (tasks k).cost) left) 8 left in
      let rest' = filled_below (entered_in releases (λ k. (tasks k).deadline) rest) 8 rest in
      let wait' = filled_below (entered_in releases (λ k. (tasks k).period) wait) 8 wait in
      let backups' = filled_below (entered_in releases (λ k. 0) backups) 8 backups in
      cells_agree left' rest' wait' backups' (entered tasks releases (cell_at (cells_in left rest wait backups)))
      (λ k below. cell_parts left' rest' wait' backups' k (picked k (is_released releases k)) (ap (λ (n : ℕ). not (eqb n 0)) (filled_at (entered_in releases (λ k. 0) backups) 8 backups 0 (omega arith) k below)) (filled_at (entered_in releases (λ k. (tasks k).cost) left) 8 left 0 (omega arith) k below) (filled_at (entered_in releases (λ k. (tasks k).deadline) rest) 8 rest 0 (omega arith) k below) (filled_at (entered_in releases (λ k. (tasks k).period) wait) 8 wait 0 (omega arith) k below)
      ∙ whole k (is_released releases k) ∙ ap (λ (c : Cell). cond (is_released releases k) (released (tasks k)) c) (sym (cell-at left rest wait backups k below)))
    where
      picked : ℕ → Bool → Cell
      picked k is = record { is_backup = not (eqb (cond is 0 (get_or backups k 0)) 0); left = cond is (tasks k).cost (get_or left k 0); rest = cond is (tasks k).deadline (get_or rest k 0); wait = cond is (tasks k).period (get_or wait k 0) }

      whole : (k : ℕ) (is : Bool) → picked k is ≡ cond is (released (tasks k)) (cell_in left rest wait backups k)
      whole k true = refl
      whole k false = refl

-- the tick's end, whatever the backups
module _ (left rest wait backups : List ℕ) (l : length left ≡ 8) (r : length rest ≡ 8) (w : length wait ≡ 8) where
  pub cells-ended : cells_in (filled_below (left_ended left rest) 8 left) (filled_below (nearer rest) 8 rest) (filled_below (nearer wait) 8 wait) backups ≡ eight (λ slot. ended (cell_at (cells_in left rest wait backups) slot))
  unfolding ended is_last cell_in
  cells-ended =
      let left' = filled_below (left_ended left rest) 8 left in
      let rest' = filled_below (nearer rest) 8 rest in
      let wait' = filled_below (nearer wait) 8 wait in
      cells_agree left' rest' wait' backups (λ slot. ended (cell_at (cells_in left rest wait backups) slot))
      (λ k below. cell_parts left' rest' wait' backups k (ended (cell_in left rest wait backups k)) refl (filled_at (left_ended left rest) 8 left 0 (omega arith) k below) (filled_at (nearer rest) 8 rest 0 (omega arith) k below) (filled_at (nearer wait) 8 wait 0 (omega arith) k below)
      ∙ ap ended (sym (cell-at left rest wait backups k below)))

pub count-missed : (left rest wait backups : List ℕ) → count_below (missed_in left rest) 8 ≡ count_below (λ slot. is_missed (cell_at (cells_in left rest wait backups) slot)) 8
unfolding is_missed is_last is_ready cell_in
count-missed left rest wait backups = count-agree 8 (λ k below. ap is_missed (sym (cell-at left rest wait backups k below)))

-- the job that runs
module _ (tasks : ℕ → Record) (left rest wait backups : List ℕ) (l : length left ≡ 8) (b : length backups ≡ 8) (at priority : ℕ) (low : at < 8) (is : at + 1 ≡ priority) where
  abbrev cells : ℕ → Cell
  cells = cell_at (cells_in left rest wait backups)

  here : runs priority at ≡ true
  unfolding runs
  here = eq-eqb (at + 1) priority is

  elsewhere : (k : ℕ) → (k ≡ at → ⊥) → runs priority k ≡ false
  unfolding runs
  elsewhere k other = ne_eqb (k + 1) priority (λ e. other (omega arith))

  pub cells-struck : cells_in (set left at (tasks at).backup) rest wait (set backups at 1) ≡ eight (faulted tasks true priority (ran priority (cell_at (cells_in left rest wait backups))))
  unfolding cell_in
  cells-struck = cells_agree (set left at (tasks at).backup) rest wait (set backups at 1) (faulted tasks true priority (ran priority cells)) (λ k below. go k below (ℕ_discrete k at))
    where
      go : (k : ℕ) → k < 8 → Dec (k ≡ at) → cell_in (set left at (tasks at).backup) rest wait (set backups at 1) k ≡ faulted tasks true priority (ran priority cells) k
      go k below (yes e) =
          rw e
          (cell_parts (set left at (tasks at).backup) rest wait (set backups at 1) at (struck (tasks at) (worked (cells at))) (ap (λ (n : ℕ). not (eqb n 0)) (get_or-set_same backups at 1 0 (omega arith))) (get_or-set_same left at (tasks at).backup 0 (omega arith)) (ap (λ (c : Cell). c.rest) (sym (cell-at left rest wait backups at low))) (ap (λ (c : Cell). c.wait) (sym (cell-at left rest wait backups at low)))
          ∙ sym (runner-changed tasks true priority cells at here))
      go k below (no e) =
          cell_parts (set left at (tasks at).backup) rest wait (set backups at 1) k (cell_in left rest wait backups k) (ap (λ (n : ℕ). not (eqb n 0)) (get_or-set_other backups at k 1 0 e)) (get_or-set_other left at k (tasks at).backup 0 e) refl refl
          ∙ sym (cell-at left rest wait backups k below) ∙ sym (others-kept tasks true priority cells k (elsewhere k e))

  pub cells-worked : cells_in (set left at (get_or left at 0 - 1)) rest wait backups ≡ eight (faulted tasks false priority (ran priority (cell_at (cells_in left rest wait backups))))
  unfolding cell_in
  cells-worked = cells_agree (set left at (get_or left at 0 - 1)) rest wait backups (faulted tasks false priority (ran priority cells)) (λ k below. go k below (ℕ_discrete k at))
    where
      go : (k : ℕ) → k < 8 → Dec (k ≡ at) → cell_in (set left at (get_or left at 0 - 1)) rest wait backups k ≡ faulted tasks false priority (ran priority cells) k
      go k below (yes e) =
          rw e
          (cell_parts (set left at (get_or left at 0 - 1)) rest wait backups at (worked (cell_in left rest wait backups at)) refl (get_or-set_same left at (get_or left at 0 - 1) 0 (omega arith)) refl refl
          ∙ ap worked (sym (cell-at left rest wait backups at low)) ∙ sym (runner-changed tasks false priority cells at here))
      go k below (no e) =
          cell_parts (set left at (get_or left at 0 - 1)) rest wait backups k (cell_in left rest wait backups k) refl (get_or-set_other left at k (get_or left at 0 - 1) 0 e) refl refl
          ∙ sym (cell-at left rest wait backups k below) ∙ sym (others-kept tasks false priority cells k (elsewhere k e))

-- nothing runs
pub cells-idle : (tasks : ℕ → Record) (is_struck : Bool) (priority : ℕ) (left rest wait backups : List ℕ) → priority ≡ 0 → cells_in left rest wait backups ≡ eight (faulted tasks is_struck priority (ran priority (cell_at (cells_in left rest wait backups))))
unfolding runs
cells-idle tasks is_struck priority left rest wait backups none = cells_agree left rest wait backups (faulted tasks is_struck priority (ran priority (cell_at (cells_in left rest wait backups)))) (λ k below. sym (cell-at left rest wait backups k below) ∙ sym (others-kept tasks is_struck priority (cell_at (cells_in left rest wait backups)) k (ne_eqb (k + 1) priority (λ e. omega arith))))

-- nothing is released
pub cells-none : (tasks : ℕ → Record) (releases : ℕ) (left rest wait backups : List ℕ) → ((slot : ℕ) → is_released releases slot ≡ false) → cells_in left rest wait backups ≡ eight (entered tasks releases (cell_at (cells_in left rest wait backups)))
unfolding entered
cells-none tasks releases left rest wait backups none = cells_agree left rest wait backups (entered tasks releases (cell_at (cells_in left rest wait backups))) (λ k below. sym (cell-at left rest wait backups k below) ∙ sym (ap (λ (is : Bool). cond is (released (tasks k)) (cell_at (cells_in left rest wait backups) k)) (none k)))

-- the job of a priority, and of none
pub cell-of-none : (cells : List Cell) (priority : ℕ) → priority ≡ 0 → cell_of cells priority ≡ no_cell
unfolding cell_of
cell-of-none cells priority none = simp (eq-eqb priority 0 none)

pub cell-of-some : (cells : List Cell) (priority : ℕ) → (priority ≡ 0 → ⊥) → cell_of cells priority ≡ cell_at cells (priority - 1)
unfolding cell_of
cell-of-some cells priority some = simp (ne_eqb priority 0 some)
