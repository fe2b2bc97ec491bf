-- `locks::judging::overlaps_earlier` meets its contract: the fold looks at each earlier job. Assumes nothing.
use Rattle.std.proofs.Common.{rules, tests, arith, refl, ◌∙◌, false, ℕ}
use Rattle.std.specs.List.{range_with_len}
use Rattle.std.proofs.lemmas.Iterator.{YieldsList-from_range}
use Rattle.std.proofs.lemmas.Iterator.Consumers.{fold_from_yields_List}
use Rattle.locks.proofs.Folded.{or_step, fold_or}
use Rattle.places.proofs.Chains.{some-ranged}
use Rattle.locks.specs.Jobs.{job_at}
use Rattle.locks.specs.Rules.{overlap, overlaps_earlier}
use Rattle.locks.proofs.judging.overlaps_earlier.Goals as goal

pub returns : goal.returns
unfolding job_at overlaps_earlier
returns c =
    fold_from_yields_List _ (or_step (λ (place : ℕ). overlap (job_at c.args.jobs place) (job_at c.args.jobs c.args.place))) _ _ c.fold.ensures.ran (YieldsList-from_range 0 c.args.place c.args.place refl (omega arith)) (λ a x b q k. search (rules, tests))
    ∙ fold_or (λ (place : ℕ). overlap (job_at c.args.jobs place) (job_at c.args.jobs c.args.place)) false (range_with_len 0 c.args.place)
    ∙ some-ranged (λ place. overlap (job_at c.args.jobs place) (job_at c.args.jobs c.args.place)) c.args.place
