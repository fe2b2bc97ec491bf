-- What a call answers that may be refused: what is known of the refusal where it answered a value, and where it answered a refusal; and that no two rows of the tables share a number. Assumes nothing.
use Prim.Native.Nat.{ℕ, ◌<◌}
use mathlib.Core.Bool.{Bool, true, cond, false, not, ◌&&◌}
use mathlib.Core.Path.{◌≡◌, refl, sym, ap, subst, ◌∙◌}
use mathlib.Core.Logic.{◌⊎◌, inl, inr}
use native.Mathlib.Decide.{ℕ_discrete}
use native.Mathlib.Omega.{arith}
use lib.Dec.{eqb, ltb}
use borrow.Author.Tests.{ne_eqb, lt-ltb}
use Rattle.std.specs.Result.{IsOk, IfOk, IsErr, IsErrAnd}
use Rattle.std.proofs.lemmas.Bool.{true≢false}
use Rattle.std.proofs.lemmas.Result.{err_from_is_err_and}
use Rattle.std.specs.Prelude.{Result, Ok, Err}
use Rattle.places.specs.declared.refusal.Refusal.{Refusal}
use Rattle.places.specs.declared.refusal.Refusal.TheVariants.{ShortSheet, BadCount, ReservedBits, BadLength, NoInterval, BadCost, BadBackup, BadDeadline, BadPriority, BadFaultPriority, ShortOutput, BadPlace, BadChoice, OddLog, StrangeBit, EarlyRelease, EarlyFault, BadShare, SharedProcessor, BadStarts, InsideAJob, Held, BadCores, DifferentCounts, BadRequest, NoNumber, TooLarge, ExtraCell, MissingCell, NinthTask, EmptyCell, DecimalPoint, MinusSign, UnknownColumn, RepeatedColumn, MissingColumn, LongName, OpenQuotes, LongLine, RepeatedSetting, UnevenScale, ZeroScale}
use Rattle.places.specs.Places.{some_below}
use Rattle.places.specs.Refusals.{or_else}
use Rattle.places.specs.Answered.{number_of, numbered, IsNumber, answered, told}
use Rattle.places.proofs.Some.{none-at}
use Rattle.places.proofs.Refusals.{next-of, first_of}

-- the refusal of a refusal's number is that refusal
pub numbered_number : (e : Refusal) → numbered (number_of e) ≡ e
unfolding numbered
numbered_number ShortSheet = refl
numbered_number BadCount = refl
numbered_number ReservedBits = refl
numbered_number BadLength = refl
numbered_number NoInterval = refl
numbered_number BadCost = refl
numbered_number BadBackup = refl
numbered_number BadDeadline = refl
numbered_number BadPriority = refl
numbered_number BadFaultPriority = refl
numbered_number ShortOutput = refl
numbered_number BadPlace = refl
numbered_number BadChoice = refl
numbered_number OddLog = refl
numbered_number StrangeBit = refl
numbered_number EarlyRelease = refl
numbered_number EarlyFault = refl
numbered_number BadShare = refl
numbered_number SharedProcessor = refl
numbered_number BadStarts = refl
numbered_number InsideAJob = refl
numbered_number Held = refl
numbered_number BadCores = refl
numbered_number DifferentCounts = refl
numbered_number BadRequest = refl
numbered_number NoNumber = refl
numbered_number TooLarge = refl
numbered_number ExtraCell = refl
numbered_number MissingCell = refl
numbered_number NinthTask = refl
numbered_number EmptyCell = refl
numbered_number DecimalPoint = refl
numbered_number MinusSign = refl
numbered_number UnknownColumn = refl
numbered_number RepeatedColumn = refl
numbered_number MissingColumn = refl
numbered_number LongName = refl
numbered_number OpenQuotes = refl
numbered_number LongLine = refl
numbered_number RepeatedSetting = refl
numbered_number UnevenScale = refl
numbered_number ZeroScale = refl

-- and no refusal has the number 0
number_some : (e : Refusal) → number_of e ≡ 0 → ⊥
number_some ShortSheet e = omega (arith, e)
number_some BadCount e = omega (arith, e)
number_some ReservedBits e = omega (arith, e)
number_some BadLength e = omega (arith, e)
number_some NoInterval e = omega (arith, e)
number_some BadCost e = omega (arith, e)
number_some BadBackup e = omega (arith, e)
number_some BadDeadline e = omega (arith, e)
number_some BadPriority e = omega (arith, e)
number_some BadFaultPriority e = omega (arith, e)
number_some ShortOutput e = omega (arith, e)
number_some BadPlace e = omega (arith, e)
number_some BadChoice e = omega (arith, e)
number_some OddLog e = omega (arith, e)
number_some StrangeBit e = omega (arith, e)
number_some EarlyRelease e = omega (arith, e)
number_some EarlyFault e = omega (arith, e)
number_some BadShare e = omega (arith, e)
number_some SharedProcessor e = omega (arith, e)
number_some BadStarts e = omega (arith, e)
number_some InsideAJob e = omega (arith, e)
number_some Held e = omega (arith, e)
number_some BadCores e = omega (arith, e)
number_some DifferentCounts e = omega (arith, e)
number_some BadRequest e = omega (arith, e)
number_some NoNumber e = omega (arith, e)
number_some TooLarge e = omega (arith, e)
number_some ExtraCell e = omega (arith, e)
number_some MissingCell e = omega (arith, e)
number_some NinthTask e = omega (arith, e)
number_some EmptyCell e = omega (arith, e)
number_some DecimalPoint e = omega (arith, e)
number_some MinusSign e = omega (arith, e)
number_some UnknownColumn e = omega (arith, e)
number_some RepeatedColumn e = omega (arith, e)
number_some MissingColumn e = omega (arith, e)
number_some LongName e = omega (arith, e)
number_some OpenQuotes e = omega (arith, e)
number_some LongLine e = omega (arith, e)
number_some RepeatedSetting e = omega (arith, e)
number_some UnevenScale e = omega (arith, e)
number_some ZeroScale e = omega (arith, e)

-- the number of a number's refusal is that number, where the tables have it: tried for one after the other
strange : ℕ → ℕ → Bool
strange first n = ltb first n && not (eqb (number_of (numbered n)) n)

module _ (first last : ℕ) (none : some_below (strange first) last ≡ false) where
  number-back : (n : ℕ) → first < n → n < last → number_of (numbered n) ≡ n
  unfolding strange
  number-back n above below = go (ℕ_discrete (number_of (numbered n)) n)
    where
      go : Dec (number_of (numbered n) ≡ n) → number_of (numbered n) ≡ n
      go (yes same) = same
      go (no other) =
          let fails : strange first n ≡ false = none-at (strange first) last n below none in
          absurd (true≢false (sym (simp (lt-ltb first n above, ne_eqb (number_of (numbered n)) n other)) ∙ fails))

number_above : (n : ℕ) → IsNumber n → n ≡ 0 → ⊥
number_above n (inl is) none = omega (arith, is, none)
number_above n (inr is) none = omega (arith, is, none)

pub number_numbered : (n : ℕ) → IsNumber n → number_of (numbered n) ≡ n
unfolding strange some_below numbered
number_numbered n (inl is) = number-back 0 26 refl n (omega arith) (omega arith)
number_numbered n (inr is) = number-back 29 47 refl n (omega arith) (omega arith)

-- no refusal, or a number of the tables
abbrev pub Known : ℕ → Type 0
Known r = (r ≡ 0) ⊎ IsNumber r

-- of two such refusals the first is such a one
pub known_else : {r s : ℕ} → Known r → Known s → Known (or_else r s)
known_else {s = s} (inl none) next = subst Known (sym (next-of s none)) next
known_else {r} {s} (inr some) next = subst Known (sym (first_of r s (number_above r some))) (inr some)

-- and so is a number that is given or not
pub known_if : (b : Bool) (n : ℕ) → IsNumber n → Known (cond b n 0)
known_if true n is = inr is
known_if false n is = inl refl

pub known_unless : (b : Bool) (n : ℕ) → IsNumber n → Known (cond b 0 n)
known_unless true n is = inl refl
known_unless false n is = inr is

module _ {A : Type 0} where
  -- where there is no refusal, the value
  answered_good : (r : ℕ) (a : A) → r ≡ 0 → answered r a ≡ Ok a
  unfolding answered
  answered_good r a fine = simp fine

  -- else the refusal of its number
  answered_refused : (r : ℕ) (a : A) → (r ≡ 0 → ⊥) → answered r a ≡ Err (numbered r)
  unfolding answered
  answered_refused r a broken = simp (ne_eqb r 0 broken)

  -- an answer is a value or a refusal
  not-both : (x : Result A Refusal) {a : A} {e : Refusal} → x ≡ Ok a → x ≡ Err e → ⊥
  not-both x p q = cc (p, q)

  module _ (r : ℕ) (a : A) where
    -- where a value was answered, nothing is refused
    pub good_of : {b : A} → Ok b ≡ answered r a → r ≡ 0
    good_of {b} is = go (ℕ_discrete r 0)
      where
        go : Dec (r ≡ 0) → r ≡ 0
        go (yes fine) = fine
        go (no broken) = absurd (not-both (answered r a) (sym is) (answered_refused r a broken))

    -- and it is the value
    pub value_of : {b : A} → Ok b ≡ answered r a → b ≡ a
    value_of is = cc (is, answered_good r a (good_of is))

    -- where a refusal was answered, there is one
    pub broken_of : {e : Refusal} → Err e ≡ answered r a → r ≡ 0 → ⊥
    broken_of is fine = not-both (answered r a) (answered_good r a fine) (sym is)

    -- and it is that of the number
    pub refusal_of : {e : Refusal} → Err e ≡ answered r a → e ≡ numbered r
    refusal_of is = cc (is, answered_refused r a (broken_of is))

    -- so its number is the refusal, where that is a number of the tables
    pub told_number : {e : Refusal} → Known r → Err e ≡ answered r a → number_of e ≡ r
    told_number (inl none) is = absurd (broken_of is none)
    told_number (inr some) is = ap number_of (refusal_of is) ∙ number_numbered r some

    -- the value, where nothing is refused
    pub ok_answered : {b : A} → r ≡ 0 → b ≡ a → Ok b ≡ answered r a
    ok_answered fine same = ap Ok same ∙ sym (answered_good r a fine)

    -- the refusal of the number, where there is one
    pub err_numbered : {e : Refusal} → (r ≡ 0 → ⊥) → e ≡ numbered r → Err e ≡ answered r a
    err_numbered broken is = ap Err is ∙ sym (answered_refused r a broken)

    -- a refusal by its number
    pub err_answered : {e : Refusal} → number_of e ≡ r → Err e ≡ answered r a
    err_answered {e} is =
        err_numbered (λ none. number_some e (is ∙ none)) (sym (numbered_number e) ∙ ap numbered is)

-- where nothing is refused a value was answered
pub is_ok_of : {A : Type 0} (r : ℕ) (a : A) → r ≡ 0 → (x : Result A Refusal) → x ≡ answered r a → IsOk x
is_ok_of r a fine (Ok b) is = refl
is_ok_of r a fine (Err e) is = absurd (broken_of r a is fine)

-- what holds of the value where nothing is refused holds of a value that was answered
pub ok_holds : {A : Type 0} (r : ℕ) (a : A) (P : A → Type 0) → (r ≡ 0 → P a) → (x : Result A Refusal) → x ≡ answered r a → IfOk x P
ok_holds r a P good (Ok b) is = subst P (sym (value_of r a is)) (good (good_of r a is))
ok_holds r a P good (Err e) is = tt

-- an answer without a value is told as its refusal
pub told_answer : {r : ℕ} → Known r → (x : Result (Unit {0}) Refusal) → x ≡ answered r tt → told x ≡ r
told_answer {r} known (Ok nothing) is = sym (good_of r tt is)
told_answer {r} known (Err e) is = told_number r tt known is

-- what was refused stays refused, whatever value was asked for beside it
module _ {A B : Type 0} (r : ℕ) (a : A) (b : B) {e : Refusal} (is : Err e ≡ answered r a) where
  pub passed_on : Err e ≡ answered r b
  passed_on = ap Err (refusal_of r a is) ∙ sym (answered_refused r b (broken_of r a is))

  -- and so by the same refusal said otherwise
  pub passed_as : {s : ℕ} → r ≡ s → Err e ≡ answered s b
  passed_as same = passed_on ∙ ap (λ (n : ℕ). answered n b) same

  -- and stays so where more is asked after it
  pub first_refused : (s : ℕ) → Err e ≡ answered (or_else r s) b
  first_refused s = passed_on ∙ ap (λ (n : ℕ). answered n b) (sym (first_of r s (broken_of r a is)))

-- where the first is not refused, what is asked after it decides
pub then_answered : {B : Type 0} {r : ℕ} (s : ℕ) (b : B) → r ≡ 0 → answered s b ≡ answered (or_else r s) b
then_answered s b fine = ap (λ (n : ℕ). answered n b) (sym (next-of s fine))

-- what the exit of a `?` answers, from what it was reached with
pub exit_err : {A : Type 0} (x : Result A Refusal) {e : Refusal} → IsErr x × IsErrAnd x (λ d. d ≡ e) → x ≡ Err e
exit_err x gives = let said = err_from_is_err_and x gives.1 in said.1 ∙ ap Err said.2
