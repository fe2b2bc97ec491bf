-- The answer case by case: refused, not critical, critical. Assumes nothing.
use mathlib.Core.Path.{◌≡◌}
use mathlib.Core.Bool.{true, false, not, ◌&&◌, and-true}
use mathlib.Core.List.{List}
use borrow.Author.Tests.{ne_eqb}
use lib.Dec.{leb}
use lib.IntN.{pos, ◌-ℤ◌}
use Rattle.locks.specs.declared.Starts.{Starts}
use Rattle.locks.specs.declared.Resource.{Resource}
use Rattle.locks.specs.declared.Request.{Request}
use Rattle.locks.specs.Jobs.{is_critical}
use Rattle.locks.specs.Ceilings.{barred}
use Rattle.locks.specs.Free.{free_time}
use Rattle.locks.specs.Rules.{grant_refusal}
use Rattle.locks.specs.Answers.{fits, is_granted, margin_of, grant_answer}

module _ (s : Starts) (resources : List Resource) (request : Request) where
  pub answer-refused : (grant_refusal s resources request ≡ 0 → ⊥) → grant_answer s resources request ≡ record { refusal = grant_refusal s resources request; granted = false; margin = pos 0 }
  unfolding grant_answer
  answer-refused broken = simp (ne_eqb _ 0 broken)

  module _ (fine : grant_refusal s resources request ≡ 0) where
    pub answer-plain : is_critical s request.resource ≡ false → grant_answer s resources request ≡ record { refusal = 0; granted = not (barred s resources request.priority); margin = pos 0 }
    unfolding grant_answer is_granted fits margin_of
    answer-plain is = simp (fine, is, and-true)

    pub answer-critical : is_critical s request.resource ≡ true
        → grant_answer s resources request
        ≡ record {
          refusal = 0;
          granted = not (barred s resources request.priority) && leb request.length (free_time s request.resource request.time);
          margin = pos (free_time s request.resource request.time) -ℤ pos request.length;
        }
    unfolding grant_answer is_granted fits margin_of
    answer-critical is = simp (fine, is)
