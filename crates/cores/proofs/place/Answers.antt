-- `cores::place` meets its contract. Assumes nothing.
use mathlib.Core.Path.{ap, ◌∙◌}
use Rattle.places.proofs.Answered.{exit_err}
use Rattle.cores.specs.Told.{placing_told}
use Rattle.cores.proofs.Answered.{place-refused, place-good, place-fitted}
use Rattle.cores.proofs.place.Goals as goal

pub returns-in_err-table : goal.returns-in_err-table
returns-in_err-table c = exit_err _ c.from_residual.ensures ∙ place-refused c.args.sheet.now c.args.number c.in_err-table.ensures

pub first_fit-requires : goal.first_fit-requires
first_fit-requires c =
    let whole = place-good c.args.sheet.now c.args.number c.in_ok-table.ensures in
    record { good = whole.0; few = whole.1 }

pub returns : goal.returns
returns c = c.first_fit.ensures ∙ ap placing_told (place-fitted c.args.sheet.now c.args.number c.in_ok-table.ensures)
