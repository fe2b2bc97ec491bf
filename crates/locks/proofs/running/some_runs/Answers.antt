-- `locks::running::some_runs` meets its contract: the fold looks at each job below the count. Assumes nothing.
use Rattle.std.proofs.Common.{rules, tests, arith, refl, ◌∙◌, false, ℕ}
use Rattle.std.specs.List.{range_with_len}
use Rattle.std.proofs.lemmas.Iterator.{YieldsList-from_range}
use Rattle.std.proofs.lemmas.Iterator.Consumers.{fold_from_yields_List}
use Rattle.locks.proofs.Folded.{or_step, fold_or}
use Rattle.places.proofs.Chains.{some-ranged}
use Rattle.locks.specs.Jobs.{job_at, some_job, within}
use Rattle.locks.proofs.running.some_runs.Goals as goal

pub returns : goal.returns
unfolding job_at some_job
returns c =
    fold_from_yields_List _ (or_step (λ (place : ℕ). within (job_at c.args.jobs place).offset (job_at c.args.jobs place).length c.args.phase)) _ _ c.fold.ensures.ran (YieldsList-from_range 0 c.args.count c.args.count refl (omega arith)) (λ a x b q k. search (rules, tests))
    ∙ fold_or (λ (place : ℕ). within (job_at c.args.jobs place).offset (job_at c.args.jobs place).length c.args.phase) false (range_with_len 0 c.args.count)
    ∙ some-ranged (λ place. within (job_at c.args.jobs place).offset (job_at c.args.jobs place).length c.args.phase) c.args.count
