-- Going on over a log, or over the log that a record contains: the next bytes, and what the answer is once a tick is refused or all are passed. Assumes nothing.
use Rattle.std.proofs.Common.{◌≡◌, ℕ, suc, ◌+◌, ◌*◌, ◌/◌, ◌%◌, ◌<◌, ◌≤◌, cond, eqb, List, [], ◌∷◌, length, get_or, drop, refl, ap, ◌∙◌, arith, drop-cons, eq-eqb, ne_eqb}
use Rattle.replay.specs.declared.Machine.{Machine}
use Rattle.replay.specs.Ticks.Machines.{no_machine, IsTied, tied}
use Rattle.replay.specs.Logs.Over.{ran_over}
use Rattle.replay.specs.Logs.Rules.{ticks_refusal, log_refusal}
use Rattle.replay.specs.Logs.Shown.{log_in}
use Rattle.replay.specs.Logs.Answers.{go_on_answer}
use Rattle.replay.proofs.OfTicks.Ready.{tied-tied, tied-same, refusal-any}

-- the byte at an index, and what comes after it
next-byte : (bytes : List ℕ) (at : ℕ) → at < length bytes → drop at bytes ≡ get_or bytes at 0 ∷ drop (at + 1) bytes
next-byte bytes at more =
    let one : suc at ≡ at + 1 = omega arith in
    drop-cons bytes at 0 more ∙ ap (λ (n : ℕ). get_or bytes at 0 ∷ drop n bytes) one

pub two_bytes : (bytes : List ℕ) (at : ℕ) → at + 2 ≤ length bytes → drop at bytes ≡ get_or bytes at 0 ∷ get_or bytes (at + 1) 0 ∷ drop (at + 2) bytes
two_bytes bytes at more =
    let two : at + 1 + 1 ≡ at + 2 = omega arith in
    next-byte bytes at (omega arith) ∙ ap (λ (l : List ℕ). get_or bytes at 0 ∷ l) (next-byte bytes (at + 1) (omega arith) ∙ ap (λ (n : ℕ). get_or bytes (at + 1) 0 ∷ drop n bytes) two)

pub three-bytes : (bytes : List ℕ) (at : ℕ) → at + 3 ≤ length bytes → drop at bytes ≡ get_or bytes at 0 ∷ get_or bytes (at + 1) 0 ∷ get_or bytes (at + 2) 0 ∷ drop (at + 3) bytes
three-bytes bytes at more =
    let three : at + 2 + 1 ≡ at + 3 = omega arith in
    two_bytes bytes at (omega arith) ∙ ap (λ (l : List ℕ). get_or bytes at 0 ∷ get_or bytes (at + 1) 0 ∷ l) (next-byte bytes (at + 2) (omega arith) ∙ ap (λ (n : ℕ). get_or bytes (at + 2) 0 ∷ drop n bytes) three)

-- the log that a record contains has two bytes for each three
pub log-length : (supplied : List ℕ) → length (log_in supplied) ≡ 2 * (length supplied / 3)
unfolding log_in
log-length [] = refl
log-length (r ∷ []) = refl
log-length (r ∷ f ∷ []) = refl
log-length (r ∷ f ∷ ran ∷ supplied) = omega (arith, log-length supplied)

module _ (m : Machine) (log : List ℕ) where
  pub odd_refused : (length log % 2 ≡ 0 → ⊥) → log_refusal m log ≡ 14
  unfolding log_refusal
  odd_refused odd = simp (ne_eqb (length log % 2) 0 odd)

  pub even-ticks : length log % 2 ≡ 0 → log_refusal m log ≡ ticks_refusal m log
  unfolding log_refusal
  even-ticks even = simp (eq-eqb (length log % 2) 0 even)

  pub refused-answer : (r : ℕ) (none : Machine) → none ≡ no_machine → log_refusal m log ≡ r → (r ≡ 0 → ⊥) → record { refusal = r; machine = none } ≡ go_on_answer m log
  unfolding go_on_answer
  refused-answer r none e refused broken = simp (refused, ne_eqb r 0 broken, e)

  pub passed-answer : (last : Machine) → IsTied m → log_refusal m log ≡ 0 → last ≡ ran_over m log → record { refusal = 0; machine = last } ≡ go_on_answer m log
  unfolding go_on_answer
  passed-answer last keeps passed e = simp (passed, tied-same m keeps, e)

  -- the answer does not hang on the priorities that are handed in
  pub go-on-any : go_on_answer (tied m) log ≡ go_on_answer m log
  unfolding go_on_answer
  go-on-any = λ i. record { refusal = refusal-any m log i; machine = cond (eqb (refusal-any m log i) 0) (ran_over (tied-same (tied m) (tied-tied m) i) log) no_machine }
