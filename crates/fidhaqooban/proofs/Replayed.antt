-- What `fq_replay` answers and leaves in each of its cases, by its refusal. Assumes nothing.
use Prim.Native.Nat.{ℕ, ◌≤◌, ◌<◌}
use mathlib.Core.Path.{◌≡◌, refl, sym, ap, ◌∙◌}
use mathlib.Core.List.{List}
use borrow.Author.Tests.{ne_eqb, le-ltb, lt-ltb}
use lib.ListN.{length}
use lib.IntN.{ℤ}
use lib.Seq.{sets, sets-eq}
use Rattle.places.proofs.Refusals.{first_of, next-of}
use Rattle.replay.specs.declared.Counts.{Counts}
use Rattle.replay.specs.declared.Replayed.{Replayed}
use Rattle.replay.specs.Logs.Answers.{replay_refusal, replay_answer}
use Rattle.fidhaqooban.specs.Numbers.{answer_of, count_numbers}
use Rattle.fidhaqooban.specs.Answers.{replayed_refusal, replay_number, replay_left}

-- the refusal and the counts of a replay
module _ (sheet log : List ℕ) (replayed : Replayed) (given : replayed ≡ replay_answer sheet log) where
  pub told-refusal : replayed.refusal ≡ replay_refusal sheet log
  unfolding replay_answer
  told-refusal = ap (λ (r : Replayed). r.refusal) given

  pub told-counts : replayed.counts ≡ (replay_answer sheet log).counts
  told-counts = ap (λ (r : Replayed). r.counts) given

module _ (sheet log out : List ℕ) where
  -- the answer and the output of a call
  abbrev pub Told : ℤ → List ℕ → Type 0
  Told answer left = (answer ≡ replay_number sheet log out) × (left ≡ replay_left sheet log out)

  -- refused, minus the number beside the output as it was
  pub refused-replay : (refusal : ℕ) → (refusal ≡ 0 → ⊥) → refusal ≡ replayed_refusal sheet log out → Told (answer_of refusal 0) out
  unfolding replay_number replay_left
  refused-replay refusal broken is = (ap (λ (r : ℕ). answer_of r 0) is, simp (ne_eqb (replayed_refusal sheet log out) 0 (λ none. broken (is ∙ none))))

  -- a refused replay decides
  pub replay-first : (replay_refusal sheet log ≡ 0 → ⊥) → replay_refusal sheet log ≡ replayed_refusal sheet log out
  unfolding replayed_refusal
  replay-first broken = sym (first_of (replay_refusal sheet log) _ broken)

  module _ (fine : replay_refusal sheet log ≡ 0) where
    -- 11 where there is no room for seven numbers
    pub no_room : length out < 7 → 11 ≡ replayed_refusal sheet log out
    unfolding replayed_refusal
    no_room short = sym (next-of _ fine ∙ simp (lt-ltb (length out) 7 short))

    room-there : 7 ≤ length out → replayed_refusal sheet log out ≡ 0
    unfolding replayed_refusal
    room-there room = next-of _ fine ∙ simp (le-ltb (length out) 7 room)

    -- else 0 beside the counts and the numbers after them as they were
    pub given-replay : 7 ≤ length out → (counts : Counts) → counts ≡ (replay_answer sheet log).counts → Told (answer_of 0 0) (sets out 0 (count_numbers counts))
    unfolding replay_number replay_left count_numbers
    given-replay room counts is =
        simp (room-there room, is) (refl, sets-eq (count_numbers (replay_answer sheet log).counts) out 0 room)
