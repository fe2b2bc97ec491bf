-- `reasons::striking::is_meant` meets its contract. Assumes nothing.
use mathlib.Core.Path.{sym, ap, ◌∙◌}
use Rattle.sheet.specs.Layout.{record_at}
use Rattle.analysis.specs.declared.Equation.{Equation}
use Rattle.analysis.specs.Common.Entries.{own_tasks}
use Rattle.reasons.specs.Terms.{is_meant}
use Rattle.reasons.proofs.Placed.{place-few, meant-elsewhere, meant_itself, meant-assured}
use Rattle.reasons.proofs.striking.is_meant.Goals as goal

pub bounds-table-place : goal.bounds-table-place
bounds-table-place c = place-few c.args.table c.requires.good c.args.place c.requires.here

pub bounds-table-other : goal.bounds-table-other
bounds-table-other c =
    place-few c.args.table c.requires.good c.args.other c.requires.there

pub returns-in-Elsewhere : goal.returns-in-Elsewhere
unfolding record_at
returns-in-Elsewhere c =
    let args = c.args in
    sym
    (ap (λ (e : Equation). is_meant e (own_tasks args.table) args.place args.other) c.in-Elsewhere.is
    ∙ meant-elsewhere args.table c.requires.good args.place args.other c.requires.here c.requires.there)

pub returns-in-Itself : goal.returns-in-Itself
unfolding record_at
returns-in-Itself c =
    let args = c.args in
    sym
    (ap (λ (e : Equation). is_meant e (own_tasks args.table) args.place args.other) c.in-Itself.is
    ∙ meant_itself args.table c.requires.good args.place args.other c.requires.here c.requires.there)

pub returns-in-Assurance : goal.returns-in-Assurance
unfolding record_at
returns-in-Assurance c =
    let args = c.args in
    sym
    (ap (λ (e : Equation). is_meant e (own_tasks args.table) args.place args.other) c.in-Assurance.is
    ∙ meant-assured args.table c.requires.good args.place args.other c.requires.here c.requires.there)
