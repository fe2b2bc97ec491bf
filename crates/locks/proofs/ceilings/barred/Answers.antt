-- `locks::ceilings::barred` meets its contract: the fold looks at each resource. Assumes nothing.
use Rattle.std.proofs.Common.{rules, tests, refl, ◌∙◌, ◌||◌, false, ℕ}
use Rattle.std.proofs.lemmas.Iterator.{YieldsList-from_range}
use Rattle.std.proofs.lemmas.Iterator.Consumers.{fold_from_yields_List}
use Rattle.locks.proofs.Folded.{or_step, fold_or}
use Rattle.std.specs.List.{range_with_len}
use Rattle.places.proofs.Chains.{some-ranged}
use Rattle.locks.specs.Bits.{has_bit}
use Rattle.locks.specs.Jobs.{some_job}
use Rattle.locks.specs.Ceilings.{resource_at, bars}
use Rattle.locks.proofs.ceilings.barred.Goals as goal

pub returns : goal.returns
unfolding resource_at
returns c =
    fold_from_yields_List _ (or_step (λ (number : ℕ). bars (resource_at c.args.resources number) (some_job c.args.jobs c.args.count (λ job. has_bit job.uses number)) c.args.priority)) _ _ c.fold.ensures.ran (YieldsList-from_range 0 8 8 refl refl) (λ a x b q k. search (rules, tests))
    ∙ fold_or (λ (number : ℕ). bars (resource_at c.args.resources number) (some_job c.args.jobs c.args.count (λ job. has_bit job.uses number)) c.args.priority) false (range_with_len 0 8)
    ∙ some-ranged (λ number. bars (resource_at c.args.resources number) (some_job c.args.jobs c.args.count (λ job. has_bit job.uses number)) c.args.priority) 8
