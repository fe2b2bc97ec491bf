-- `locks::judging::some_wrong` meets its contract: the fold looks at each place below the count. Assumes nothing.
use Rattle.std.proofs.Common.{rules, tests, arith, refl, ◌||◌, ◌∙◌, false, ℕ}
use Rattle.std.proofs.lemmas.Iterator.{YieldsList-from_range}
use Rattle.std.proofs.lemmas.Iterator.Consumers.{fold_from_yields_List}
use Rattle.locks.proofs.Folded.{or_step, fold_or}
use Rattle.places.proofs.Chains.{some-ranged}
use Rattle.locks.specs.Jobs.{job_at}
use Rattle.locks.specs.Rules.{is_wrong, overlaps_earlier}
use Rattle.locks.proofs.judging.some_wrong.Goals as goal

pub returns : goal.returns
unfolding job_at
returns c =
    fold_from_yields_List _ (or_step (λ (place : ℕ). is_wrong c.args.period (job_at c.args.jobs place) || overlaps_earlier c.args.jobs place)) _ _ c.fold.ensures.ran (YieldsList-from_range 0 c.args.count c.args.count refl (omega arith)) (λ a x b q k. search (rules, tests))
    ∙ fold_or (λ (place : ℕ). is_wrong c.args.period (job_at c.args.jobs place) || overlaps_earlier c.args.jobs place) false _
    ∙ some-ranged (λ place. is_wrong c.args.period (job_at c.args.jobs place) || overlaps_earlier c.args.jobs place) c.args.count
