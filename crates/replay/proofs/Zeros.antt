-- "A refusal returns its number with all other figures 0": one law over every call that gives figures beside a number. Assumes nothing.
use Rattle.std.proofs.Common.{◌≡◌, ℕ, cond, eqb, List, [], ◌∷◌, ◌++◌, length, replicate, refl, ne_eqb}
use Rattle.places.specs.Places.{joined_below, one_if}
use Rattle.sheet.specs.declared.Record.{Record}
use Rattle.sheet.specs.Layout.{record_at}
use Rattle.replay.specs.declared.Cell.{Cell}
use Rattle.replay.specs.declared.Tally.{Tally}
use Rattle.replay.specs.declared.Counts.{Counts}
use Rattle.replay.specs.declared.Machine.{Machine}
use Rattle.replay.specs.declared.Following.{Following}
use Rattle.replay.specs.Ticks.Cells.{cell_at}
use Rattle.replay.specs.Ticks.Counts.{no_counts}
use Rattle.replay.specs.Ticks.Machines.{no_machine}
use Rattle.replay.specs.Logs.Answers.{start_answer, go_on_answer, replay_answer}
use Rattle.replay.specs.Logs.Pieces.{replayed_answer}

-- every figure of the seven counts
abbrev pub figures_of : Counts → List ℕ
figures_of c = c.first_attempts ∷ c.backups ∷ c.idle ∷ c.released ∷ c.finished ∷ c.missed ∷ c.unfinished ∷ []

-- and of a machine: its own, its tally's, and those of each task and of each cell
abbrev pub task_figures : Record → List ℕ
task_figures r = r.cost ∷ r.backup ∷ r.deadline ∷ r.period ∷ r.priority ∷ r.fault_priority ∷ []

abbrev pub cell_figures : Cell → List ℕ
cell_figures c = one_if c.is_backup ∷ c.left ∷ c.rest ∷ c.wait ∷ []

abbrev pub tally_figures : Tally → List ℕ
tally_figures t = t.first_attempts ∷ t.backups ∷ t.idle ∷ t.released ∷ t.finished ∷ t.missed ∷ []

unfoldable pub machine_figures : Machine → List ℕ
machine_figures m =
    m.count ∷ m.interval ∷ m.ready ∷ m.gap ∷ (tally_figures m.tally ++ joined_below (λ slot. task_figures (record_at m.tasks slot) ++ cell_figures (cell_at m.cells slot)) 8)

abbrev pub AllZero : List ℕ → Type 0
AllZero figures = figures ≡ replicate (length figures) 0

-- refused, all figures are 0
abbrev pub ZeroBeside : ℕ → List ℕ → Type 0
ZeroBeside refusal figures = (refusal ≡ 0 → ⊥) → AllZero figures

beside : {A : Type 0} (figures : A → List ℕ) (refusal : ℕ) (given none : A) → AllZero (figures none) → ZeroBeside refusal (figures (cond (eqb refusal 0) given none))
beside figures refusal given none zero broken = rw (ne_eqb refusal 0 broken) zero

machine-zero : AllZero (machine_figures no_machine)
unfolding machine_figures joined_below record_at cell_at one_if
machine-zero = refl

counts_zero : AllZero (figures_of no_counts)
counts_zero = refl

pub refused-zeros : (sheet log : List ℕ) (m : Machine) (f : Following)
    → ZeroBeside (start_answer sheet).refusal (machine_figures (start_answer sheet).machine) × ZeroBeside (go_on_answer m log).refusal (machine_figures (go_on_answer m log).machine)
    × ZeroBeside (replay_answer sheet log).refusal (figures_of (replay_answer sheet log).counts) × ZeroBeside (replayed_answer f).refusal (figures_of (replayed_answer f).counts)
unfolding start_answer go_on_answer replay_answer replayed_answer
refused-zeros sheet log m f =
    (beside machine_figures _ _ no_machine machine-zero, beside machine_figures _ _ no_machine machine-zero, beside figures_of _ _ no_counts counts_zero, beside figures_of _ _ no_counts counts_zero)
