-- `sheet::rules::judge_record` meets its contract. Assumes nothing.
use mathlib.Core.Path.{ap, ◌∙◌}
use Rattle.places.specs.Answered.{answered}
use Rattle.sheet.specs.declared.Record.{Record}
use Rattle.sheet.specs.Rules.{refusal_of}
use Rattle.sheet.proofs.rules.judge_record.Goals as goal

pub returns : goal.returns
returns c =
    c.judge_fields.ensures ∙ ap (λ (task : Record). answered (refusal_of c.args.count c.args.is_taken task) tt) c.record_from.ensures
