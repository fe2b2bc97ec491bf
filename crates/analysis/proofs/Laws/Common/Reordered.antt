-- Document 02, request 10: the same tasks in another order. A sum, a largest and a largest backup over them do not depend on their order. Assumes nothing.
use Prim.Native.Nat.{ℕ, ◌<◌}
use mathlib.Core.Path.{◌≡◌, sym, ap, ◌∙◌}
use mathlib.Core.Bool.{Bool, not}
use native.Mathlib.Decide.{ℕ_discrete}
use borrow.Author.Tests.{eq-eqb, ne_eqb}
use lib.Dec.{eqb}
use Rattle.places.specs.Places.{sum_below, most_below}
use Rattle.places.proofs.Agree.{sum-agree, most-agree}
use Rattle.places.proofs.Onto.{Numbering}
use Rattle.places.proofs.Gathered.{sum-reordered, most-reordered}
use Rattle.analysis.specs.Common.Tasks.{Tasks}
use Rattle.analysis.specs.Common.Backups.{others, backup_of, largest_backup}

-- the same tasks, those of the first at the ranks of the second
pub record SameTasks (s held : Tasks) (rank : ℕ → ℕ) : Type 0 where
  pub count : held.count ≡ s.count
  pub interval : held.interval ≡ s.interval
  pub round : held.round ≡ s.round
  pub share : held.share ≡ s.share
  pub numbered : Numbering s.count rank
  pub task : (place : ℕ) → place < s.count → held.at (rank place) ≡ s.at place
  pub fault : (place : ℕ) → place < s.count → held.fault (rank place) ≡ s.fault place

module _ (s held : Tasks) (rank : ℕ → ℕ) (same : SameTasks s held rank) where
  -- what is summed over the tasks, and the largest of it
  pub sum-held : (f : ℕ → ℕ) (g : ℕ → ℕ) → ((k : ℕ) → k < s.count → g (rank k) ≡ f k) → sum_below f s.count ≡ sum_below g held.count
  sum-held f g each = sym (ap (sum_below g) same.count ∙ sym (sum-reordered s.count rank same.numbered g) ∙ sum-agree s.count each)

  pub most-held : (f : ℕ → ℕ) (g : ℕ → ℕ) → ((k : ℕ) → k < s.count → g (rank k) ≡ f k) → most_below f s.count ≡ most_below g held.count
  most-held f g each = sym (ap (most_below g) same.count ∙ sym (most-reordered s.count rank same.numbered g) ∙ most-agree s.count each)

  -- a record is another one in either order
  pub others-held : (i k : ℕ) → i < s.count → k < s.count → others (rank i) (rank k) ≡ others i k
  unfolding others
  others-held i k low-i low-k = go (ℕ_discrete k i)
    where
      go : Dec (k ≡ i) → not (eqb (rank k) (rank i)) ≡ not (eqb k i)
      go (yes e) = simp (eq-eqb k i e, eq-eqb (rank k) (rank i) (ap rank e))
      go (no e) = simp (ne_eqb k i e, ne_eqb (rank k) (rank i) (λ z. e (same.numbered.apart k i low-k low-i z)))

  -- the largest backup at or above a priority
  pub largest-held : (meant meant' : ℕ → Bool) (priority : ℕ) → ((k : ℕ) → k < s.count → meant' (rank k) ≡ meant k) → largest_backup s meant priority ≡ largest_backup held meant' priority
  unfolding largest_backup
  largest-held meant meant' priority alike =
      most-held (λ k. backup_of (s.at k) (meant k) (s.fault k) priority) (λ k. backup_of (held.at k) (meant' k) (held.fault k) priority)
      (λ k h. simp (same.task k h, alike k h, same.fault k h))
