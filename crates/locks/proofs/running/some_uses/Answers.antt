-- `locks::running::some_uses` meets its contract: the fold looks at each job below the count. Assumes nothing.
use Rattle.std.proofs.Common.{rules, tests, arith, refl, ◌∙◌, false, ℕ}
use Rattle.std.specs.List.{range_with_len}
use Rattle.std.proofs.lemmas.Iterator.{YieldsList-from_range}
use Rattle.std.proofs.lemmas.Iterator.Consumers.{fold_from_yields_List}
use Rattle.locks.proofs.Folded.{or_step, fold_or}
use Rattle.places.proofs.Chains.{some-ranged}
use Rattle.locks.specs.Bits.{has_bit}
use Rattle.locks.specs.Jobs.{job_at, some_job}
use Rattle.locks.proofs.running.some_uses.Goals as goal

pub returns : goal.returns
unfolding job_at some_job
returns c =
    fold_from_yields_List _ (or_step (λ (place : ℕ). has_bit (job_at c.args.jobs place).uses c.args.resource)) _ _ c.fold.ensures.ran (YieldsList-from_range 0 c.args.count c.args.count refl (omega arith)) (λ a x b q k. search (rules, tests))
    ∙ fold_or (λ (place : ℕ). has_bit (job_at c.args.jobs place).uses c.args.resource) false (range_with_len 0 c.args.count)
    ∙ some-ranged (λ place. has_bit (job_at c.args.jobs place).uses c.args.resource) c.args.count
