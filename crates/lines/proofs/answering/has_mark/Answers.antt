-- `lines::answering::has_mark` meets its contract. Assumes nothing.
use Rattle.std.proofs.Common.{ℕ, ◌≡◌, ◌∙◌, List, [], ◌∷◌, eqb, arith}
use Rattle.std.specs.List.{starts_with}
use Rattle.lines.specs.Answers.{has_mark}
use Rattle.lines.proofs.answering.has_mark.Goals as goal

-- the mark's three bytes, one by one
marked : (line : List ℕ) → starts_with eqb line (239 ∷ 187 ∷ 191 ∷ []) ≡ has_mark line
unfolding has_mark
marked [] = grind arith
marked (a ∷ []) = grind arith
marked (a ∷ b ∷ []) = grind arith
marked (a ∷ b ∷ d ∷ more) = grind arith

pub returns : goal.returns
returns c = c.starts_with.ensures.value ∙ marked c.args.line.now
