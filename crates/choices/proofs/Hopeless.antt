-- Where the lowest task of a good table is late, or some record misses its own backup, the list is empty by either rule. Assumes nothing.
use mathlib.Core.Path.{◌≡◌, ◌∙◌}
use mathlib.Core.Bool.{true}
use mathlib.Core.List.{[]}
use Rattle.sheet.specs.declared.Table.{Table}
use Rattle.analysis.specs.declared.Rule.{Rule}
use Rattle.analysis.specs.Published.Lowest.{lowest_late}
use Rattle.analysis.specs.Common.Columns.{priorities_of}
use Rattle.analysis.specs.ByRule.{meets, rule_refusal}
use Rattle.analysis.specs.Bounds.Hopeless.{none_meets}
use Rattle.analysis.proofs.Laws.Common.Choice.{allowed-exactly, allowed-length, length-priorities}
use Rattle.analysis.proofs.Laws.ByRule.{rule-good}
use Rattle.analysis.proofs.Laws.Bounds.Hopeless.{none-fails, late-none}
use Rattle.choices.specs.Choices.{choices_of, chosen}
use Rattle.choices.proofs.Sifted.{sift-none}
use Rattle.choices.proofs.Members.{choices-sound}
use Rattle.choices.proofs.Advancing.{test_with}

module _ (t : Table) (rule : Rule) (fine : rule_refusal rule t ≡ 0) where
  pub none-chosen : none_meets t ≡ true → chosen (meets rule) t ≡ []
  unfolding chosen
  none-chosen is =
      sift-none (test_with (meets rule) t) (choices_of (priorities_of t)) (λ choice member.
      let sound = choices-sound (priorities_of t) member in
      none-fails t choice ((allowed-exactly t (rule-good rule t fine) choice (allowed-length (priorities_of t) choice sound ∙ length-priorities t)).0 sound).each rule fine is)

  -- a late lowest task alone empties it
  pub late-chosen : lowest_late t ≡ true → chosen (meets rule) t ≡ []
  late-chosen is = none-chosen (late-none t is)
