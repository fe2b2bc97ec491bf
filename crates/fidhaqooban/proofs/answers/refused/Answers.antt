-- `fidhaqooban::answers::refused` meets its contract. Assumes nothing.
use Prim.Native.Nat.{ℕ}
use mathlib.Core.Path.{ap, ◌∙◌}
use Rattle.fidhaqooban.specs.Numbers.{answer_of}
use Rattle.fidhaqooban.proofs.Minus.{handed}
use Rattle.fidhaqooban.proofs.answers.refused.Goals as goal

pub returns : goal.returns
returns c = handed c.answer.result c.answer.type_inv ∙ c.answer.ensures ∙ ap (λ (r : ℕ). answer_of r 0) c.number.ensures
