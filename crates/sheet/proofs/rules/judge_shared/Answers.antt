-- `sheet::rules::judge_shared` meets its contract. Assumes nothing.
use mathlib.Core.Path.{refl, sym, ◌∙◌}
use Rattle.places.proofs.Answered.{ok_answered, err_answered}
use Rattle.sheet.specs.Rules.{shared_refusal}
use Rattle.sheet.proofs.rules.judge_shared.Goals as goal

pub returns-then-is_whole : goal.returns-then-is_whole
unfolding shared_refusal
returns-then-is_whole c = ok_answered _ _ (simp (sym c.is_whole.ensures ∙ c.if-is_whole.true)) refl

pub returns-else-is_whole : goal.returns-else-is_whole
unfolding shared_refusal
returns-else-is_whole c = err_answered _ _ (simp (sym c.is_whole.ensures ∙ c.if-is_whole.false))
