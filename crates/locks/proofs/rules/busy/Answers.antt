-- `locks::rules::busy` meets its contract. Assumes nothing.
use mathlib.Core.Path.{ap, ◌∙◌}
use Prim.Native.Nat.{ℕ}
use Rattle.locks.specs.Jobs.{some_job, within, runs, busy}
use Rattle.locks.proofs.Given.{good-starts}
use Rattle.locks.proofs.rules.busy.Goals as goal

pub phase-requires : goal.phase-requires
phase-requires c = (good-starts _ c.requires).some

pub some_runs-requires : goal.some_runs-requires
some_runs-requires c = (good-starts _ c.requires).few

pub returns : goal.returns
unfolding busy runs
returns c =
    let starts = c.args.starts in
    c.some_runs.ensures ∙ ap (λ (phase : ℕ). some_job starts.jobs starts.count (λ job. within job.offset job.length phase)) c.phase.ensures.rest
