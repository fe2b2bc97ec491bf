-- `choices::lister::fill` meets its contract: before each turn the entries so far are put, and the rest of the list is left. Assumes nothing.
use Rattle.std.proofs.Common.{ℕ, List, length, take, drop, ◌≡◌, ◌≤◌}
use Rattle.std.proofs.lemmas.List.Edits.{sets}
use Rattle.choices.specs.Order.{after_of}
use Rattle.choices.specs.Answers.{bytes_of}
use Rattle.choices.specs.Stepping.{within_of}
use Rattle.choices.proofs.lister.fill.Given as goal

-- what is known before a turn, over the whole list
pub record Put (list left : List (List ℕ)) (out₀ out : List ℕ) (entries : ℕ) : Type 0 where
  pub below : entries ≤ length list
  pub after : left ≡ drop entries list
  pub long : length out ≡ length out₀
  pub content : out ≡ sets out₀ 0 (bytes_of (take entries list))

abbrev pub invariant-loop-choice : goal.invariant-loop-choice
invariant-loop-choice l =
    (goal.iterator-loop-choice).can_next l.choice-iterator
    × (goal.iterator-loop-choice).is_finite l.choice-iterator
    × Put (within_of l.fn.within.rule l.fn.within.bounds.now) (after_of l.choice-iterator.choice (within_of l.choice-iterator.rule l.choice-iterator.bounds.now)) l.initial.out l.out l.entries
