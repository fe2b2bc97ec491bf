-- `assured::assured_time` meets its contract. Assumes nothing.
use mathlib.Core.Path.{sym, ap, ◌∙◌}
use Rattle.places.proofs.Answered.{good_of, value_of, passed_as, ok_answered, exit_err}
use Rattle.assured.specs.Told.{Timed}
use Rattle.assured.specs.Answers.{without_slack}
use Rattle.assured.proofs.Answered.{time-assured}
use Rattle.assured.proofs.assured_time.Goals as goal

pub returns-in_err-timed : goal.returns-in_err-timed
returns-in_err-timed c = exit_err _ c.from_residual.ensures ∙ passed_as _ _ _ c.in_err-timed.ensures (ap (λ (t : Timed). t.refusal) (time-assured c.args.table c.args.place))

pub returns : goal.returns
returns c =
    let told = c.in_ok-timed.ensures in
    let same = time-assured c.args.table c.args.place in
    ok_answered _ _ (sym (ap (λ (t : Timed). t.refusal) same) ∙ good_of _ _ told) (c.without_slack.ensures ∙ ap without_slack (value_of _ _ told) ∙ ap (λ (t : Timed). t.entry) same)
