-- Records that agree below the count are judged alike, read alike and written alike, whatever stands past it.
-- Assumes nothing.
use Prim.Native.Nat.{ℕ, ◌≤◌}
use mathlib.Core.Path.{◌≡◌, ap, ap₂, ◌∙◌}
use native.Mathlib.Omega.{arith}
use lib.Dec.{eqb}
use lib.ListN.{replicate}
use Rattle.places.proofs.Agree.{Agree, some-agree, filled-agree, first-agree}
use Rattle.places.proofs.Filled.{filled_at}
use Rattle.sheet.specs.declared.Record.{Record}
use Rattle.sheet.specs.Layout.{no_record, room, record_at}
use Rattle.sheet.specs.Rules.{taken, refusal_of, record_refusal, records_refusal}

module _ (n : ℕ) {at at' : ℕ → Record} (same : Agree n at at') where
  taken-agree : (place : ℕ) → place ≤ n → (p : ℕ) → taken at place p ≡ taken at' place p
  unfolding taken
  taken-agree place h p = some-agree place (λ k below. ap (λ (r : Record). eqb r.priority p) (same k (omega arith)))

  refusal-agree : Agree n (record_refusal n at) (record_refusal n at')
  unfolding record_refusal
  refusal-agree k h = ap₂ (refusal_of n) (taken-agree k (omega arith) (at k).priority ∙ ap (λ (r : Record). taken at' k r.priority) (same k h)) (same k h)

  -- the records are judged alike
  pub records-agree : records_refusal n at ≡ records_refusal n at'
  unfolding records_refusal
  records-agree = first-agree n refusal-agree

  -- and fill the room alike
  pub room-agree : room at n ≡ room at' n
  unfolding room
  room-agree = filled-agree n (replicate 8 no_record) same

-- the room for eight holds each record below the count
pub room_at : (at : ℕ → Record) (n : ℕ) → n ≤ 8 → Agree n (record_at (room at n)) at
unfolding room record_at
room_at at n few k h = filled_at at n (replicate 8 no_record) no_record few k h

-- so the records in it are judged as those that it was filled with
pub room-judged : (at : ℕ → Record) (n : ℕ) → n ≤ 8 → records_refusal n (record_at (room at n)) ≡ records_refusal n at
room-judged at n few = records-agree n (room_at at n few)
