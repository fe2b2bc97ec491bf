-- What is written, as the answers of `fq_write`, `fq_rewrite` and `fq_record`. Assumes nothing.
use Prim.Native.Nat.{ℕ, ◌≤◌, ◌<◌, ◌^◌, zero-le}
use mathlib.Core.Path.{◌≡◌, refl, ◌∙◌}
use mathlib.Core.Bool.{Bool, true, false, cond}
use mathlib.Core.List.{List}
use native.Mathlib.Nat.{le_refl}
use native.Mathlib.Omega.{arith}
use lib.ListN.{length}
use Rattle.std.specs.Prelude.{Result, IfOk}
use Rattle.places.specs.declared.refusal.Refusal.{Refusal}
use Rattle.places.specs.Answered as said
use Rattle.places.proofs.Answered.{ok_holds}
use Rattle.places.proofs.Refusals.{none_of}
use Rattle.sheet.specs.declared.Table.{Table}
use Rattle.sheet.specs.Layout.{size_of, table_size}
use Rattle.sheet.specs.Rules.{sheet_refusal}
use Rattle.sheet.specs.Answers.{write_refusal, write_answer, rewrite_refusal, rewrite_answer, place_refusal, start_answer}
use Rattle.sheet.proofs.Cases.{good-sheet}
use Rattle.sheet.proofs.Told.{write-known, rewrite-known, place-known}
use Rattle.fidhaqooban.specs.Numbers.{answer_of, number_from}
use Rattle.fidhaqooban.specs.Answers.{rewrite_number, record_number}
use Rattle.fidhaqooban.proofs.Answered.{number-answered, start_small, start-answered}

-- a number or 0 is at most the number
pub at_most : (b : Bool) (n : ℕ) → cond b n 0 ≤ n
at_most true n = le_refl n
at_most false n = zero-le

module _ (t : Table) (out : List ℕ) where
  pub written-room : table_size t < 2 ^ 63 → (x : Result ℕ Refusal) → x ≡ said.answered (write_answer t out).refusal (write_answer t out).written → IfOk x (λ written. written < 2 ^ 63)
  unfolding write_answer
  written-room few = ok_holds (write_refusal t out) _ (λ (n : ℕ). n < 2 ^ 63) (λ fine. simp fine few)

  pub write-is : (x : Result ℕ Refusal) → x ≡ said.answered (write_answer t out).refusal (write_answer t out).written → number_from x ≡ answer_of (write_refusal t out) (table_size t)
  unfolding write_answer
  write-is x told = number-answered (write-known t out) x told (λ fine. simp fine)

-- the same of a sheet that is rewritten
module _ (s out : List ℕ) where
  length-few : rewrite_refusal s out ≡ 0 → length s < 2 ^ 63
  unfolding rewrite_refusal size_of
  length-few fine =
      let known = (good-sheet s (none_of (sheet_refusal s) _ fine).0).0 in
      omega (arith, known.size, known.count, known.edition)

  pub rewrite-room : (x : Result ℕ Refusal) → x ≡ said.answered (rewrite_answer s out).refusal (rewrite_answer s out).written → IfOk x (λ written. written < 2 ^ 63)
  unfolding rewrite_answer
  rewrite-room = ok_holds (rewrite_refusal s out) _ (λ (n : ℕ). n < 2 ^ 63) (λ fine. simp fine (length-few fine))

  pub rewrite-is : (x : Result ℕ Refusal) → x ≡ said.answered (rewrite_answer s out).refusal (rewrite_answer s out).written → number_from x ≡ rewrite_number s out
  unfolding rewrite_answer rewrite_number
  rewrite-is x told = number-answered (rewrite-known s out) x told (λ fine. simp fine)

-- and of where a record starts
module _ (s : List ℕ) (place : ℕ) where
  pub start-room : (x : Result ℕ Refusal) → x ≡ said.answered (start_answer s place).refusal (start_answer s place).start → IfOk x (λ start. start < 2 ^ 63)
  unfolding start_answer
  start-room = ok_holds (place_refusal s place) _ (λ (n : ℕ). n < 2 ^ 63) (λ fine. omega (arith, start_small s place))

  pub start-is : (x : Result ℕ Refusal) → x ≡ said.answered (start_answer s place).refusal (start_answer s place).start → number_from x ≡ record_number s place
  unfolding start_answer
  start-is x told = number-answered (place-known s place) x told (λ fine. refl) ∙ start-answered s place
