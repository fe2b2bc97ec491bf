-- How long the texts are, and that a line holds the whole of a text that fits. Assumes nothing.
use Prim.Native.Nat.{ℕ, zero, suc, ◌*◌, ◌^◌, ◌≤◌, ◌<◌}
use mathlib.Core.Path.{◌≡◌, refl, ap, ◌∙◌}
use mathlib.Core.List.{List}
use native.Mathlib.Omega.{arith}
use lib.IntN.{ℤ}
use lib.Signed.{mag}
use lib.ListN.{length, get_or, take, replicate, length-append}
use lib.Seq.{sets-eq, take_at}
use Rattle.places.specs.Places.{joined_below}
use Rattle.analysis.specs.declared.Outcome.{Outcome}
use Rattle.analysis.specs.declared.Outcome.TheVariants.{OnTime, Late}
use Rattle.analysis.specs.declared.Slack.{Slack}
use Rattle.analysis.specs.declared.Slack.TheVariants.{Figure, NoFigure}
use Rattle.mend.specs.declared.Field.{Field}
use Rattle.mend.specs.declared.Field.TheVariants.{Length, Deadline, FaultPriority}
use Rattle.report.specs.declared.Name.{Name}
use Rattle.report.specs.declared.Name.TheVariants.{Interval, Least, End, Refused, Attempts, Backups, Idle, Released, Finished, Missed, Unfinished, Differs, FitsNone}
use Rattle.report.specs.declared.Saying.{Saying}
use Rattle.report.specs.declared.Saying.TheVariants.{NoInterval, Accepted, LoadInUse, LoadCandidate}
use Rattle.report.specs.Texts.{line_of, word_of, saying_text, late_text, outcome_text, entry_text, changed_text}
use Rattle.report.proofs.Decimal.{length-decimal}
use Rattle.report.proofs.Signs.{length-signed}

-- the bytes of a text's line, up to its length, are the text
abbrev pub Held : List ℕ → Type 0
Held text = take (line_of text).len (line_of text).bytes ≡ text

pub held : (text : List ℕ) → length text ≤ 88 → Held text
unfolding line_of
held text fits = ap (take (length text)) (sets-eq text (replicate 88 0) 0 (omega arith)) ∙ take_at text _ (length text) refl

-- a name's word has at most eleven bytes
pub length-word : (name : Name) → length (word_of name) ≤ 11
unfolding word_of
length-word Interval = omega arith
length-word Least = omega arith
length-word End = omega arith
length-word Refused = omega arith
length-word Attempts = omega arith
length-word Backups = omega arith
length-word Idle = omega arith
length-word Released = omega arith
length-word Finished = omega arith
length-word Missed = omega arith
length-word Unfinished = omega arith
length-word Differs = omega arith
length-word FitsNone = omega arith

-- words alone at most fifteen
pub length-saying : (saying : Saying) → length (saying_text saying) ≤ 15
unfolding saying_text
length-saying NoInterval = omega arith
length-saying Accepted = omega arith
length-saying LoadInUse = omega arith
length-saying LoadCandidate = omega arith

-- a figure has 32 bits, and a time 16
pub record Narrow (outcome : Outcome) (slack : Slack) : Type 0 where
  pub time : (time : ℕ) → outcome ≡ OnTime time → time < 2 ^ 16
  pub ticks : (ticks : ℤ) → slack ≡ Figure ticks → mag ticks < 2 ^ 31

-- a response, or late with its slack, has at most sixteen bytes
pub length-outcome : (outcome : Outcome) (slack : Slack) → Narrow outcome slack → length (outcome_text outcome slack) ≤ 16
unfolding outcome_text late_text
length-outcome (OnTime time) slack narrow = omega (arith, length-decimal 4 time (omega (arith, narrow.time time refl)))
length-outcome Late (Figure ticks) narrow = omega (arith, length-signed ticks (narrow.ticks ticks refl))
length-outcome Late NoFigure narrow = omega arith

-- an entry has at most four
pub length-entries : (choice : List ℕ) → ((place : ℕ) → get_or choice place 0 < 2 ^ 8) → (n : ℕ) → length (joined_below (entry_text choice) n) ≤ 4 * n
unfolding joined_below entry_text
length-entries choice narrow zero = omega arith
length-entries choice narrow (suc n) =
    omega (arith, length-append (joined_below (entry_text choice) n) (entry_text choice n), length-entries choice narrow n, length-decimal 2 (get_or choice n 0) (omega (arith, narrow n)))

-- what a change is made to has at most 42
pub length-changed : (word : List ℕ) (number : ℕ) (field : Field) → length word ≤ 7 → number < 2 ^ 64 → length (changed_text word number field) ≤ 42
unfolding changed_text
length-changed word number Length short narrow = omega arith
length-changed word number Deadline short narrow = simp length-append (omega (arith, length-decimal 19 number (omega arith)))
length-changed word number FaultPriority short narrow = simp length-append (omega (arith, length-decimal 19 number (omega arith)))
