-- `reasons::counting::times_of` meets its contract. Assumes nothing.
use mathlib.Core.Path.{sym, ap, ◌∙◌}
use Rattle.sheet.specs.Layout.{record_at}
use Rattle.analysis.specs.declared.Equation.{Equation}
use Rattle.analysis.specs.Common.Entries.{own_tasks}
use Rattle.reasons.specs.Terms.{times_of}
use Rattle.reasons.proofs.Placed.{place-few, period-some, times-elsewhere, times-itself, times-assured}
use Rattle.reasons.proofs.counting.times_of.Goals as goal

pub bounds-table-place : goal.bounds-table-place
bounds-table-place c = place-few c.args.table c.requires.good c.args.place c.requires.here

pub bounds-table-other : goal.bounds-table-other
bounds-table-other c =
    place-few c.args.table c.requires.good c.args.other c.requires.there

pub begun-times-requires : goal.begun-times-requires
unfolding record_at
begun-times-requires c =
    record {
      some = period-some c.args.table c.requires.good c.args.other c.requires.there;
      short = c.requires.short;
    }

pub returns-in-Elsewhere : goal.returns-in-Elsewhere
unfolding record_at
returns-in-Elsewhere c =
    let args = c.args in
    c.counted.ensures
    ∙ sym
    (ap (λ (e : Equation). times_of e (own_tasks args.table) args.place args.length args.other) c.in-Elsewhere.is
    ∙ times-elsewhere args.table c.requires.good args.place args.other c.requires.here c.requires.there args.length c.begun-times.ensures.same)

pub returns-in-Itself : goal.returns-in-Itself
unfolding record_at
returns-in-Itself c =
    let args = c.args in
    c.counted_struck.ensures
    ∙ sym
    (ap (λ (e : Equation). times_of e (own_tasks args.table) args.place args.length args.other) c.in-Itself.is
    ∙ times-itself args.table c.requires.good args.place args.other c.requires.here c.requires.there args.length c.begun-times.ensures.same)

pub returns-in-Assurance : goal.returns-in-Assurance
unfolding record_at
returns-in-Assurance c =
    let args = c.args in
    c.counted-in-Assurance.ensures
    ∙ sym
    (ap (λ (e : Equation). times_of e (own_tasks args.table) args.place args.length args.other) c.in-Assurance.is
    ∙ times-assured args.table c.requires.good args.place args.other c.requires.here c.requires.there args.length c.begun-times.ensures.same)
