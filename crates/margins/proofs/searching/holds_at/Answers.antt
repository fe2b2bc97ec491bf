-- `margins::searching::holds_at` meets its contract. Assumes nothing.
use Prim.Native.Nat.{◌≤◌}
use mathlib.Core.Path.{ap, ◌∙◌}
use mathlib.Core.Bool.{Bool, false}
use native.Mathlib.Omega.{arith}
use Rattle.std.specs.Prelude.{Result}
use Rattle.std.specs.Result.{result_unwrap_or}
use Rattle.places.specs.declared.refusal.Refusal.{Refusal}
use Rattle.sheet.proofs.Cases.{good-table}
use Rattle.analysis.proofs.Laws.ByRule.{rule-good}
use Rattle.margins.specs.Margins.{holds, holds_with}
use Rattle.margins.proofs.Fitting.{holds-fitted, verdict, told-verdict}
use Rattle.margins.proofs.Stepped.{value-within, room-below, room_small}
use Rattle.margins.proofs.searching.holds_at.Goals as goal

pub value_at-value-requires : goal.value_at-value-requires
value_at-value-requires c = record {
  room = room_small c.args.change c.args.last c.requires.room;
  within = c.requires.within;
}

pub changed-changed-requires : goal.changed-changed-requires
changed-changed-requires c =
    let args = c.args in
    let within = value-within args.change args.last args.step c.requires.within.0 c.requires.within.1 in
    let low : c.value_at-value.result ≤ args.last = omega (arith, c.value_at-value.ensures.same, within.1) in
    record {
      few = (good-table args.table (rule-good args.rule args.table c.requires.good)).count.1;
      room = room-below args.change c.value_at-value.result args.last low c.requires.room;
    }

pub returns : goal.returns
returns c =
    let args = c.args in
    let few = (good-table args.table (rule-good args.rule args.table c.requires.good)).count.1 in
    c.unwrap_or.ensures ∙ ap (λ (r : Result Bool Refusal). result_unwrap_or r false) c.meets_by.ensures ∙ told-verdict args.rule _ ∙ verdict args.rule _ ∙ ap (holds args.rule) c.changed-changed.ensures
    ∙ holds-fitted args.table few args.change c.value_at-value.result args.rule ∙ ap (holds_with args.rule args.table args.change) c.value_at-value.ensures.same
