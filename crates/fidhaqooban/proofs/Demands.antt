-- What the numbers of C are for: six of them make a record, a choice and its number are the same thing both ways, and an answer is negative exactly if it is a refusal.
-- What each function says, refused or not, is in Refused.antt. Assumes nothing.
use Prim.Native.Nat.{ℕ, zero, suc, ◌+◌, ◌*◌, ◌^◌, ◌<◌, min}
use mathlib.Core.Path.{◌≡◌, refl, ap, subst}
use mathlib.Core.Logic.{◌↔◌}
use mathlib.Core.List.{List}
use native.Mathlib.Nat.{suc-ne-zero}
use native.Mathlib.Omega.{arith}
use lib.Dec.{ltb→lt}
use lib.IntN.{pos}
use lib.Signed.{◌<ℤ◌}
use lib.ListN.{length, get_or, take, replicate}
use lib.Seq.{take_all, get_or-take}
use Rattle.sheet.specs.declared.Record.{Record}
use Rattle.sheet.specs.Layout.{record_at}
use Rattle.sheet.proofs.Agree.{room_at}
use Rattle.sheet.proofs.Packing.{Fit, packed-unpacked, unpacked-packed}
use Rattle.choices.specs.Stepping.{IsSmall}
use Rattle.fidhaqooban.specs.Numbers.{answer_of, number_at, byte_of, given_record, table_from, given_table, entries_of, choice_of}
use Rattle.fidhaqooban.proofs.Answered.{some}
use Rattle.fidhaqooban.proofs.Fields.{fit-taken}

-- "six numbers for each record (cost, backup, deadline, period, priority, fault priority)", "a number that is not there counts as 0", "a priority above 255 counts as 255"
pub record SixNumbers (numbers : List ℕ) (place : ℕ) (r : Record) : Type 0 where
  pub cost : r.cost ≡ get_or numbers (6 * place) 0
  pub backup : r.backup ≡ get_or numbers (6 * place + 1) 0
  pub deadline : r.deadline ≡ get_or numbers (6 * place + 2) 0
  pub period : r.period ≡ get_or numbers (6 * place + 3) 0
  pub priority : r.priority ≡ min (get_or numbers (6 * place + 4) 0) 255
  pub fault : r.fault_priority ≡ min (get_or numbers (6 * place + 5) 0) 255

-- numbers past those of the count are not read
six-kept : (numbers : List ℕ) (n place : ℕ) → 6 * place + 5 < n → SixNumbers numbers place (given_record (take n numbers) place)
unfolding given_record number_at byte_of
six-kept numbers n place room =
    record {
      cost = get_or-take n numbers (6 * place) 0 (omega arith);
      backup = get_or-take n numbers (6 * place + 1) 0 (omega arith);
      deadline = get_or-take n numbers (6 * place + 2) 0 (omega arith);
      period = get_or-take n numbers (6 * place + 3) 0 (omega arith);
      priority = ap (λ (x : ℕ). min x 255) (get_or-take n numbers (6 * place + 4) 0 (omega arith));
      fault = ap (λ (x : ℕ). min x 255) (get_or-take n numbers (6 * place + 5) 0 room);
    }

-- the table of numbers has the count, the interval, the round, the share, and such a record at each place below the count
pub given-table : (count interval round share : ℕ) (numbers : List ℕ)
    → ((given_table count interval round share numbers).count ≡ count) × ((given_table count interval round share numbers).interval ≡ interval)
    × ((given_table count interval round share numbers).round ≡ round) × ((given_table count interval round share numbers).share ≡ share)
    × ((place : ℕ) → place < count → place < 8 → SixNumbers numbers place (record_at (given_table count interval round share numbers).records place))
unfolding given_table table_from
given-table count interval round share numbers = (refl, refl, refl, refl, λ place below few. rw (room_at (given_record (take (6 * count) numbers)) 8 (omega arith) place few) (six-kept numbers (6 * count) place (omega arith)))

-- "A choice is a number of 32 bits": the entries of a choice's number are the choice
pub entries-back : (c : List ℕ) → length c ≡ 8 → IsSmall c → entries_of (choice_of c) ≡ c
unfolding entries_of choice_of IsSmall
entries-back c eight narrow = unpacked-packed (subst (Fit (replicate 8 4)) (take_all 8 c (omega arith)) (fit-taken 4 8 c narrow (omega arith)))

-- and the number of a number's entries is that number
pub choice-back : (n : ℕ) → n < 2 ^ 32 → choice_of (entries_of n) ≡ n
unfolding entries_of choice_of
choice-back n h = packed-unpacked (replicate 8 4) n h

-- "A negative answer is minus the refusal number", and no other answer is negative
pub refused-negative : (refusal value : ℕ) → (answer_of refusal value <ℤ pos 0) ↔ (refusal ≡ 0 → ⊥)
unfolding answer_of
refused-negative zero value = (λ below. absurd (omega (arith, ltb→lt value 0 below.lt)), λ broken. absurd (broken refl))
refused-negative (suc n) value = (λ below e. suc-ne-zero n e, λ broken. rw (some n) (record { lt = tt }))
