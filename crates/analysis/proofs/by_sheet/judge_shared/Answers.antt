-- `analysis::by_sheet::judge_shared` meets its contract. Assumes nothing.
use mathlib.Core.Path.{refl, sym, ap, ◌∙◌}
use Rattle.places.proofs.Answered.{ok_answered, err_answered}
use Rattle.analysis.specs.declared.Rule.{Rule}
use Rattle.analysis.specs.BySheet.{shared_by}
use Rattle.analysis.proofs.by_sheet.judge_shared.Goals as goal

pub returns-in-Published : goal.returns-in-Published
unfolding shared_by
returns-in-Published c = ok_answered _ _ (ap (λ (rule : Rule). shared_by rule c.args.round c.args.share) c.in-Published.is) refl

pub returns-then-is_whole : goal.returns-then-is_whole
unfolding shared_by
returns-then-is_whole c =
    ok_answered _ _ (ap (λ (rule : Rule). shared_by rule c.args.round c.args.share) c.in-Assured.is ∙ rw (← c.is_whole.ensures) (simp c.if-is_whole.true)) refl

pub returns-else-is_whole : goal.returns-else-is_whole
unfolding shared_by
returns-else-is_whole c =
    err_answered _ _ (sym (ap (λ (rule : Rule). shared_by rule c.args.round c.args.share) c.in-Assured.is ∙ rw (← c.is_whole.ensures) (simp c.if-is_whole.false)))
