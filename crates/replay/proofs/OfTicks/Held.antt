-- A machine whose cells are held as columns: one more tick of it, and when the task that runs stays. Assumes nothing.
use Rattle.std.proofs.Common.{◌≡◌, ℕ, Bool, false, not, ◌||◌, eqb, List, sym, ap, ◌∙◌, eqb-true}
use borrow.Author.Tests.{not-false}
use Rattle.places.proofs.Tells.{neither}
use Rattle.sheet.specs.Layout.{record_at}
use Rattle.replay.specs.declared.Cell.{Cell}
use Rattle.replay.specs.declared.Tally.{Tally}
use Rattle.replay.specs.declared.Machine.{Machine}
use Rattle.replay.specs.Ticks.Tick.{is_marked}
use Rattle.replay.specs.Ticks.Cells.{cell_at, eight}
use Rattle.replay.specs.Ticks.Columns.{cells_in}
use Rattle.replay.specs.Ticks.Runner.{runner}
use Rattle.replay.specs.Ticks.Ready.{ready_priorities}
use Rattle.replay.specs.Ticks.Step.{entered, ran, faulted, ended, gap_after}
use Rattle.replay.specs.Ticks.Counts.{gains, added}
use Rattle.replay.specs.Ticks.Machines.{IsTied, machine_with, cells_entered, runner_of, cells_ran, tick_gains, tick}
use Rattle.replay.proofs.OfTicks.Binary.{none-released}
use Rattle.replay.proofs.OfTicks.Columns.{cells-none}
use Rattle.replay.proofs.OfTicks.Ready.{none_other, has_changed, none-changed}

-- a machine that keeps its priorities is itself with its own cells
pub with-own : (m : Machine) (cells : List Cell) → IsTied m → cells ≡ m.cells → machine_with m cells m.gap m.tally ≡ m
unfolding machine_with
with-own m cells keeps e = λ i. record { count = m.count; interval = m.interval; tasks = m.tasks; cells = e i; ready = (ap (ready_priorities m.tasks) e ∙ sym keeps) i; gap = m.gap; tally = m.tally }

-- where nothing has changed and nothing is released, the task that runs stays
pub runner-entered : (m : Machine) (left rest wait backups : List ℕ) (releases priority : ℕ) (has_changed : Bool) (now : List Cell)
    → now ≡ eight (entered (record_at m.tasks) releases (cell_at (cells_in left rest wait backups)))
    → (has_changed ≡ false → priority ≡ runner (record_at m.tasks) (cell_at (cells_in left rest wait backups)))
    → (has_changed || not (eqb releases 0)) ≡ false → priority ≡ runner (record_at m.tasks) (cell_at now)
runner-entered m left rest wait backups releases priority has_changed now e kept none =
    let both = neither has_changed _ none in
    kept both.0 ∙ ap (λ (l : List Cell). runner (record_at m.tasks) (cell_at l)) (cells-none (record_at m.tasks) releases left rest wait backups (none-released releases (eqb-true releases 0 (not-false _ both.1))) ∙ sym e)

-- one more tick, by its phases
module _ (m : Machine) (cells : List Cell) (gap : ℕ) (tally : Tally) (releases faults : ℕ)
    (now : List Cell) (in_cells : now ≡ eight (entered (record_at m.tasks) releases (cell_at cells)))
    (priority : ℕ) (runs : priority ≡ runner (record_at m.tasks) (cell_at now))
    (is_struck : Bool) (marked : is_struck ≡ is_marked faults)
    (last : List Cell) (at-end : last ≡ eight (λ slot. ended (cell_at (eight (faulted (record_at m.tasks) is_struck priority (ran priority (cell_at now)))) slot)))
    (more : Tally) (adds : more ≡ gains releases priority now (eight (faulted (record_at m.tasks) is_struck priority (ran priority (cell_at now)))))
  where
    abbrev held : Machine
    held = machine_with m cells gap tally

    entered-is : now ≡ cells_entered held releases
    unfolding machine_with cells_entered
    entered-is = in_cells

    who : priority ≡ runner_of held releases
    unfolding machine_with runner_of
    who = runs ∙ ap (λ (l : List Cell). runner (record_at m.tasks) (cell_at l)) entered-is

    after : eight (faulted (record_at m.tasks) is_struck priority (ran priority (cell_at now))) ≡ cells_ran held releases faults
    unfolding machine_with cells_ran
    after = λ i. eight (faulted (record_at m.tasks) (marked i) (who i) (ran (who i) (cell_at (entered-is i))))

    gained : more ≡ tick_gains held releases faults
    unfolding tick_gains
    gained = adds ∙ (λ i. gains releases (who i) (entered-is i) (after i))

    ended_is : last ≡ eight (λ slot. ended (cell_at (cells_ran held releases faults) slot))
    ended_is = at-end ∙ ap (λ (l : List Cell). eight (λ slot. ended (cell_at l slot))) after

    pub tick-held : (gap' : ℕ) → gap' ≡ gap_after m.interval is_struck gap → (tally' : Tally) → tally' ≡ added tally more → machine_with m last gap' tally' ≡ tick held releases faults
    unfolding machine_with tick
    tick-held gap' g tally' t =
        λ i. record {
          count = m.count;
          interval = m.interval;
          tasks = m.tasks;
          cells = ended_is i;
          ready = ready_priorities m.tasks (ended_is i);
          gap = (g ∙ ap (λ (b : Bool). gap_after m.interval b gap) marked) i;
          tally = (t ∙ ap (added tally) gained) i;
        }

    -- where no job is struck, done or dropped, the task that runs stays
    pub runner-held : has_changed is_struck more ≡ false → priority ≡ runner (record_at m.tasks) (cell_at last)
    unfolding machine_with
    runner-held none =
        let still = none-changed (is_marked faults) (tick_gains held releases faults) (sym (λ i. has_changed (marked i) (gained i)) ∙ none) in
        runs ∙ ap (λ (l : List Cell). runner (record_at m.tasks) (cell_at l)) entered-is
        ∙ none_other held releases faults still.0 still.1 still.2
        ∙ ap (λ (l : List Cell). runner (record_at m.tasks) (cell_at l)) (sym ended_is)
