-- The demands on lines in words, about the definitions: a decimal spells its number, in digits only and without a leading zero, a line holds its whole text, and one without room is not put.
-- Document 01's own lines, byte by byte, are in Lines.antt. Assumes nothing.
use Prim.Native.Nat.{ℕ, zero, suc, ◌+◌, ◌-◌, ◌*◌, ◌/◌, ◌%◌, ◌^◌, ◌≤◌, ◌<◌, min}
use mathlib.Core.Path.{◌≡◌, refl, sym, ap, ◌∙◌}
use mathlib.Core.List.{List, [], ◌∷◌, ◌++◌}
use mathlib.Core.Logic.{⊎_elim}
use native.Mathlib.Nat.{mod-lt, div-add-mod', le-div_iff_mul-le, eq-or-lt_of_le}
use native.Mathlib.Omega.{arith}
use borrow.Author.Tests.{le-leb, lt-leb}
use lib.IntN.{ℤ, pos, negsuc}
use lib.ListN.{length, get_or, length-append, get_or-append}
use lib.Seq.{sets, get_or_at}
use Rattle.analysis.specs.declared.Entry.{Entry}
use Rattle.mend.specs.declared.Change.{Change}
use Rattle.report.specs.declared.Line.{Line}
use Rattle.report.specs.declared.Name.{Name}
use Rattle.report.specs.declared.Saying.{Saying}
use Rattle.report.specs.Pages.{text_of, has_room, put_end, put_leaves}
use Rattle.report.specs.Words.{record_word, text_line_word}
use Rattle.report.specs.Decimal.{digit, decimal, signed, value_after, value_of}
use Rattle.report.specs.Texts.{named_text, saying_text, task_text, choice_text, core_text, told_text, change_text, line_change_text, refused_at_text}
use Rattle.report.proofs.Decimal.{by_digits, length-decimal}
use Rattle.report.proofs.Fitting.{Held, held, length-word, length-saying, Narrow, length-outcome, length-entries, length-changed}

value-more : (before : ℕ) (ds : List ℕ) (d : ℕ) → value_after before (ds ++ (d ∷ [])) ≡ value_after before ds * 10 + (d - 48)
unfolding value_after
value-more before [] d = refl
value-more before (x ∷ ds) d = value-more (before * 10 + (x - 48)) ds d

value-one : (n : ℕ) → n < 10 → value_of (digit n ∷ []) ≡ n
unfolding value_of value_after
value-one n small = omega arith

value-next : (n : ℕ) (ds : List ℕ) → 10 ≤ n → value_of ds ≡ n / 10 → value_of (ds ++ (digit (n % 10) ∷ [])) ≡ n
unfolding value_of
value-next n ds large again = value-more 0 ds (digit (n % 10)) ∙ omega (arith, div-add-mod' n 10)

-- the digits of a number spell it, so that no two numbers are written alike
pub spells-its-number : (n : ℕ) → value_of (decimal n) ≡ n
spells-its-number n = by_digits (λ n ds. value_of ds ≡ n) value-one value-next n

-- each byte is a digit
abbrev pub OfDigits : List ℕ → Type 0
OfDigits ds = (place : ℕ) → place < length ds → (digit 0 ≤ get_or ds place 0) × (get_or ds place 0 ≤ digit 9)

-- a decimal has digits only
pub digits-only : (n : ℕ) → OfDigits (decimal n)
digits-only n = by_digits (λ n ds. OfDigits ds) one next n
  where
    one : (n : ℕ) → n < 10 → OfDigits (digit n ∷ [])
    one n small zero below = (omega arith, omega arith)
    one n small (suc place) below = absurd (omega arith)

    next : (n : ℕ) (ds : List ℕ) → 10 ≤ n → OfDigits ds → OfDigits (ds ++ (digit (n % 10) ∷ []))
    next n ds large again place below =
        let most : place ≤ length ds = omega (arith, length-append ds (digit (n % 10) ∷ [])) in
        ⊎_elim (λ e. rw (get_or_at ds (digit (n % 10)) [] 0 place (sym e)) (omega arith, omega (arith, mod-lt n {m = 10} (omega arith))))
        (λ less. rw (get_or-append ds (digit (n % 10) ∷ []) 0 place less) (again place less)) (eq-or-lt_of_le most)

-- only the number 0 begins with the digit 0
pub no-leading-zero : (n : ℕ) → get_or (decimal n) 0 0 ≡ digit 0 → n ≡ 0
no-leading-zero n = (by_digits (λ n ds. (0 < length ds) × (get_or ds 0 0 ≡ digit 0 → n ≡ 0)) (λ n small. (omega arith, λ e. omega arith)) next n).1
  where
    next : (n : ℕ) (ds : List ℕ) → 10 ≤ n → (0 < length ds) × (get_or ds 0 0 ≡ digit 0 → n / 10 ≡ 0) → (0 < length (ds ++ (digit (n % 10) ∷ []))) × (get_or (ds ++ (digit (n % 10) ∷ [])) 0 0 ≡ digit 0 → n ≡ 0)
    next n ds large again = (
      omega (arith, length-append ds (digit (n % 10) ∷ [])),
      λ e. absurd (omega (arith, again.1 (sym (get_or-append ds (digit (n % 10) ∷ []) 0 0 again.0) ∙ e), (le-div_iff_mul-le {k = 10} {x = 1} {y = n} (omega arith)).1 (omega arith))),
    )

-- a decimal does not begin with a minus sign
minus-no-digit : (n : ℕ) → get_or (decimal n) 0 0 ≡ 45 → ⊥
minus-no-digit n e = go (decimal n) (digits-only n) (some-digit n) e
  where
    some-digit : (n : ℕ) → 0 < length (decimal n)
    some-digit n = by_digits (λ n ds. 0 < length ds) (λ n small. omega arith) (λ n ds large again. omega (arith, length-append ds (digit (n % 10) ∷ []))) n

    go : (ds : List ℕ) → OfDigits ds → 0 < length ds → get_or ds 0 0 ≡ 45 → ⊥
    go ds only some is = omega (arith, only 0 some)

-- all but the first
tail : List ℕ → List ℕ
tail [] = []
tail (d ∷ ds) = ds

-- two numbers with a sign are not written alike: the minus sign is no digit
pub signed-tells : (a b : ℤ) → signed a ≡ signed b → a ≡ b
unfolding signed tail
signed-tells (pos a) (pos b) e = ap pos (sym (spells-its-number a) ∙ ap value_of e ∙ spells-its-number b)
signed-tells (negsuc a) (negsuc b) e = let same = sym (spells-its-number (suc a)) ∙ ap value_of (ap tail e) ∙ spells-its-number (suc b) in ap negsuc (omega arith)
signed-tells (pos a) (negsuc b) e = absurd (minus-no-digit a (ap (λ (l : List ℕ). get_or l 0 0) e))
signed-tells (negsuc a) (pos b) e = absurd (minus-no-digit b (sym (ap (λ (l : List ℕ). get_or l 0 0) e)))

-- a line holds its whole text, whatever the call is given: that of a name and a number,
pub named-held : (name : Name) (number : ℕ) → number < 2 ^ 64 → Held (named_text name number)
unfolding named_text
named-held name number narrow = held (named_text name number) (simp length-append (omega (arith, length-word name, length-decimal 19 number (omega arith))))

-- words alone,
pub saying-held : (saying : Saying) → Held (saying_text saying)
saying-held saying = held (saying_text saying) (omega (arith, length-saying saying))

-- a task's,
pub task-held : (place : ℕ) (entry : Entry) → place < 2 ^ 8 → Narrow entry.outcome entry.slack → Held (task_text place entry)
unfolding task_text
task-held place entry narrow short =
    held (task_text place entry) (simp length-append (omega (arith, length-decimal 2 (place + 1) (omega arith), length-outcome entry.outcome entry.slack short)))

-- a choice's,
pub choice-held : (count : ℕ) (choice : List ℕ) → ((place : ℕ) → get_or choice place 0 < 2 ^ 8) → Held (choice_text count choice)
unfolding choice_text
choice-held count choice narrow = held (choice_text count choice) (simp length-append (omega (arith, length-entries choice narrow (min count 8))))

-- a core's,
pub core-held : (place core : ℕ) → place < 2 ^ 8 → core < 2 ^ 8 → Held (core_text place core)
unfolding core_text
core-held place core narrow few =
    held (core_text place core) (simp length-append (omega (arith, length-decimal 2 (place + 1) (omega arith), length-decimal 2 core (omega arith))))

told-held : (word : List ℕ) (number : ℕ) (change : Change) → length word ≤ 7 → number < 2 ^ 64 → change.old < 2 ^ 64 → change.new < 2 ^ 64 → Held (told_text word number change)
unfolding told_text
told-held word number change short narrow old new =
    held (told_text word number change)
    (simp length-append (omega (arith, length-changed word number change.field short narrow, length-decimal 19 change.old (omega arith), length-decimal 19 change.new (omega arith))))

-- a change's by its record,
pub change-held : (change : Change) → change.place < 2 ^ 8 → change.old < 2 ^ 64 → change.new < 2 ^ 64 → Held (change_text change)
unfolding change_text
change-held change narrow old new = told-held record_word change.place change (omega arith) (omega arith) old new

-- and by its line,
pub line-change-held : (line : ℕ) (change : Change) → line < 2 ^ 64 → change.old < 2 ^ 64 → change.new < 2 ^ 64 → Held (line_change_text line change)
unfolding line_change_text
line-change-held line change narrow old new = told-held text_line_word line change (omega arith) narrow old new

-- and that of a refusal with its line and column
pub refused-at-held : (refusal line column : ℕ) → refusal < 2 ^ 8 → line < 2 ^ 64 → column < 2 ^ 64 → Held (refused_at_text refusal line column)
unfolding refused_at_text
refused-at-held refusal line column narrow lines columns =
    held (refused_at_text refusal line column)
    (simp length-append (omega (arith, length-decimal 2 refusal (omega arith), length-decimal 19 line (omega arith), length-decimal 19 column (omega arith))))

-- `put_line`: a text that ends past the output is not put, and its place comes back
pub put-no-room : (line : Line) (out : List ℕ) (at : ℕ) → length out < at + length (text_of line) → (put_end line out at ≡ at) × (put_leaves line out at ≡ out)
unfolding put_end put_leaves has_room
put-no-room line out at short = simp (lt-leb (at + length (text_of line)) (length out) short) (refl, refl)

-- any other is, and where it ends comes back
pub put-room : (line : Line) (out : List ℕ) (at : ℕ) → at + length (text_of line) ≤ length out → (put_end line out at ≡ at + length (text_of line)) × (put_leaves line out at ≡ sets out at (text_of line))
unfolding put_end put_leaves has_room
put-room line out at room = simp (le-leb (at + length (text_of line)) (length out) room) (refl, refl)
