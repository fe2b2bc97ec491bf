-- `next` of `choices::within::Within` meets its contract: it stands at the choice that it came to, or there is none. Assumes nothing.
use Rattle.std.proofs.Common.{ℕ, List, [], ◌∷◌, length, drop, Some, slice_get, ◌≡◌, sym, ap, ◌∙◌, arith}
use Rattle.analysis.specs.declared.Bounds.{Bounds}
use Rattle.analysis.specs.declared.Rule.{Rule}
use Rattle.analysis.specs.Bounds.Within.{within_answer}
use Rattle.analysis.specs.Bounds.Lent.{bounds_lent}
use Rattle.choices.specs.Order.{after_of}
use Rattle.choices.specs.Stepping.{within_of, Levels}
use Rattle.choices.proofs.Advancing.{none_came, one_came}
use Rattle.choices.proofs.Listed.{Next, next-sifted}
use Rattle.choices.proofs.within.WithinIterator.next.Goals as goal

-- the choice that it comes to is the first one after where it stood, can be gone on from, and leaves the others
module _ (bounds : Bounds) (rule : Rule) (levels : Levels bounds.priorities) (start choice : List ℕ) (came : Some choice ≡ slice_get (after_of start (within_of rule bounds)) 0) where
  first : after_of start (within_of rule bounds) ≡ choice ∷ drop 1 (after_of start (within_of rule bounds))
  first = one_came _ choice came

  stands : Next bounds.priorities (within_of rule bounds) choice (drop 1 (after_of start (within_of rule bounds)))
  unfolding within_of
  stands = next-sifted bounds.priorities (λ c. (within_answer rule (bounds_lent bounds) c).yes) levels start choice _ first

  left : after_of start (within_of rule bounds) ≡ choice ∷ after_of choice (within_of rule bounds)
  left = first ∙ ap (λ (l : List (List ℕ)). choice ∷ l) (sym stands.after)

pub returns-in_err-choice-clause-steps : goal.returns-in_err-choice-clause-steps
returns-in_err-choice-clause-steps c =
    let none : after_of c.args.self.now.choice (within_of c.args.self.now.rule c.args.self.now.bounds.now) ≡ [] = none_came _ c.in_err-choice.ensures in
    rw c.from_residual.ensures (none, none)

pub invariant_of-self-clause-started : goal.invariant_of-self-clause-started
invariant_of-self-clause-started c = (stands c.args.self.now.bounds.now c.args.self.now.rule c.args.self.now.levels c.args.self.now.choice c.in_ok-choice.choice c.in_ok-choice.ensures).going_on

pub returns-clause-steps : goal.returns-clause-steps
returns-clause-steps c = left c.args.self.now.bounds.now c.args.self.now.rule c.args.self.now.levels c.args.self.now.choice c.in_ok-choice.choice c.in_ok-choice.ensures

pub returns-clause-goes : goal.returns-clause-goes
returns-clause-goes c =
    let fewer = ap length (left c.args.self.now.bounds.now c.args.self.now.rule c.args.self.now.levels c.args.self.now.choice c.in_ok-choice.choice c.in_ok-choice.ensures) in
    record { on = λ _. (tt, tt, omega arith); keeps = tt; rests = λ _. tt }
