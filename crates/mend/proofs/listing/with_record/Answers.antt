-- `mend::listing::with_record` meets its contract. Assumes nothing.
use Prim.Native.Nat.{ℕ}
use mathlib.Core.Path.{ap, ap₂, ◌∙◌}
use Rattle.mend.specs.declared.Field.TheVariants.{Deadline, FaultPriority}
use Rattle.mend.specs.declared.Changes.{Changes}
use Rattle.mend.specs.Changes.{deadline_change, fault_change}
use Rattle.mend.specs.Steps.{noted, noted_record}
use Rattle.mend.proofs.listing.with_record.Goals as goal

pub returns : goal.returns
unfolding noted_record deadline_change fault_change
returns c =
    c.noted-2.ensures.noted
    ∙ ap₂ (λ (changes : Changes) (fault : ℕ). noted changes (record { place = c.args.place; field = FaultPriority; old = c.args.task.fault_priority; new = fault }))
    (c.noted.ensures.noted
    ∙ ap (λ (deadline : ℕ). noted c.args.changes (record { place = c.args.place; field = Deadline; old = c.args.task.deadline; new = deadline })) c.mended_deadline.ensures)
    c.mended_fault.ensures
