-- Rows of numbers, as a table's text has them, cut into their cells again. Assumes nothing.
use Prim.Native.Nat.{ℕ, zero, suc, ◌+◌, ◌-◌, ◌*◌, ◌/◌, ◌%◌, ◌≤◌, ◌<◌}
use mathlib.Core.Path.{◌≡◌, refl, sym, ap, ◌∙◌}
use mathlib.Core.Bool.{true, false}
use mathlib.Core.Logic.{◌⊎◌, inl, inr}
use mathlib.Core.List.{List, [], ◌∷◌, ◌++◌, append_assoc}
use native.Mathlib.Nat.{mod-lt, div-add-mod'}
use native.Mathlib.Omega.{arith}
use borrow.Author.Tests.{ne_eqb, le-ltb}
use lib.Dec.{eqb}
use lib.ListN.{length, get_or, replicate}
use Rattle.places.specs.Places.{joined_below}
use Rattle.cells.specs.declared.Number.{Number}
use Rattle.cells.specs.Kinds.{is_blank, is_loose, separates, runs}
use Rattle.cells.specs.Cells.{empty_at, no_cells, cells_of, separator_of}
use Rattle.cells.specs.Numbers.{are_digits, digit_of, no_number, with_digit, value_from, number_of}
use Rattle.cells.specs.Names.{setting_of}
use Rattle.cells.specs.Raw.{is_none, cells_in}
use Rattle.cells.proofs.Words.{Own, Plain, last, more, cells-word, cells-last, cells-run, All, none, one, all-joined, all-wider, all_alike, outside-none, cells-alike}
use Rattle.cells.proofs.Digits.{Digit, digit-is, digit-above, digit-below, no-setting, digits_number}
use Rattle.lines.specs.Settings.{begins_number}
use Rattle.lines.specs.Told.{Good}
use Rattle.lines.proofs.Early.{Number-is}
use Rattle.report.specs.Decimal.{digit, decimal}
use Rattle.report.proofs.Decimal.{by_digits}
use Rattle.text.specs.Shown.{widths, padded, cell_text}
use Rattle.text.proofs.Aligned.{short, column-wide}
use Rattle.text.proofs.Long.{Narrow}

-- the digits of a number, of which there is one at least
pub data Digits : List ℕ → Type 0 where
  single : {byte : ℕ} → Digit byte → Digits (byte ∷ [])
  further : {byte : ℕ} {bytes : List ℕ} → Digit byte → Digits bytes → Digits (byte ∷ bytes)

digit-byte : (d : ℕ) → d < 10 → Digit (digit d)
digit-byte d small = record { low = omega arith; high = omega arith }

digits_more : {bytes : List ℕ} {byte : ℕ} → Digits bytes → Digit byte → Digits (bytes ++ (byte ∷ []))
digits_more (single d) e = further d (single e)
digits_more (further d ds) e = further d (digits_more ds e)

pub decimal-digits : (n : ℕ) → Digits (decimal n)
decimal-digits n = by_digits (λ n ds. Digits ds) (λ n small. single (digit-byte n small)) (λ n ds large again. digits_more again (digit-byte (n % 10) (mod-lt n {m = 10} (omega arith)))) n

all_digits : {bytes : List ℕ} → Digits bytes → All Digit bytes
all_digits (single d) = one d none
all_digits (further d ds) = one d (all_digits ds)

-- what they are: a word, digits, and the number
digits-plain : (separator : ℕ) → ((byte : ℕ) → Digit byte → Own separator byte) → {bytes : List ℕ} → Digits bytes → Plain separator bytes
digits-plain separator own (single {byte = byte} d) = last (own byte d)
digits-plain separator own (further {byte = byte} d ds) = more (own byte d) (digits-plain separator own ds)

digits_are : {bytes : List ℕ} → Digits bytes → are_digits false bytes ≡ true
unfolding are_digits
digits_are (single d) = simp (digit-is d)
digits_are (further d ds) = simp (digit-is d, digits_are ds)

digits-some : {bytes : List ℕ} → Digits bytes → (0 < length bytes) × Digit (get_or bytes 0 0)
digits-some (single d) = (omega arith, d)
digits-some (further d ds) = (omega arith, d)

digits-begin : {bytes : List ℕ} → Digits bytes → begins_number bytes ≡ true
unfolding begins_number
digits-begin ds = simp (digit-is (digits-some ds).1)

digits-setting : {bytes : List ℕ} → Digits bytes → setting_of bytes ≡ 0
digits-setting (single {byte = byte} d) = no-setting byte d []
digits-setting (further {byte = byte} {bytes = bytes} d ds) = no-setting byte d bytes

-- a byte after others
value-joined : (number : Number) (a b : List ℕ) → value_from number (a ++ b) ≡ value_from (value_from number a) b
unfolding value_from
value-joined number [] b = refl
value-joined number (byte ∷ a) b = value-joined (with_digit number byte) a b

digit_value : (v d : ℕ) → d < 10 → v * 10 + d ≤ 18446744073709551615 → with_digit (record { refusal = 0; value = v }) (digit d) ≡ record { refusal = 0; value = v * 10 + d }
unfolding with_digit digit_of
digit_value v d small fits =
    let is : digit d - 48 ≡ d = omega arith in
    simp (digit-is (digit-byte d small), is, le-ltb 18446744073709551615 (v * 10 + d) fits)

decimal-value : (n : ℕ) → n ≤ 18446744073709551615 → value_from no_number (decimal n) ≡ record { refusal = 0; value = n }
unfolding value_from
decimal-value n = by_digits (λ n ds. n ≤ 18446744073709551615 → value_from no_number ds ≡ record { refusal = 0; value = n }) first next n
  where
    first : (n : ℕ) → n < 10 → n ≤ 18446744073709551615 → with_digit no_number (digit n) ≡ record { refusal = 0; value = n }
    first n small fits =
        let same : 0 * 10 + n ≡ n = omega arith in
        digit_value 0 n small (omega arith) ∙ ap (λ (v : ℕ). record { refusal = 0; value = v }) same

    next : (n : ℕ) (ds : List ℕ) → 10 ≤ n → (n / 10 ≤ 18446744073709551615 → value_from no_number ds ≡ record { refusal = 0; value = n / 10 }) → n ≤ 18446744073709551615
        → value_from no_number (ds ++ (digit (n % 10) ∷ [])) ≡ record { refusal = 0; value = n }
    next n ds large again fits =
        let same : n / 10 * 10 + n % 10 ≡ n = div-add-mod' n 10 in
        value-joined no_number ds (digit (n % 10) ∷ []) ∙ ap (λ (v : Number). with_digit v (digit (n % 10))) (again (omega (arith, same)))
        ∙ digit_value (n / 10) (n % 10) (mod-lt n {m = 10} (omega arith)) (omega (arith, same)) ∙ ap (λ (v : ℕ). record { refusal = 0; value = v }) same

pub decimal-number : (n : ℕ) → n ≤ 18446744073709551615 → number_of (decimal n) ≡ record { refusal = 0; value = n }
decimal-number n fits =
    let ds = decimal-digits n in
    digits_number (decimal n) (digits-some ds).0 (digits_are ds) (digit-above 34 (digits-some ds).1 (omega arith)) ∙ decimal-value n fits

pub decimal-is : (n : ℕ) → n < 65536 → Number-is (decimal n) n
decimal-is n narrow = record { begins = digits-begin (decimal-digits n); is = decimal-number n (omega arith) }

pub decimal-setting : (n : ℕ) → setting_of (decimal n) ≡ 0
decimal-setting n = digits-setting (decimal-digits n)

pub decimal-good : (column n : ℕ) → n < 65536 → eqb column 7 ≡ false → Good column (decimal n)
unfolding is_none
decimal-good column n narrow number = record { some = some-none (decimal-digits n); fine = simp number (ap (λ (v : Number). v.refusal) (decimal-number n (omega arith))) }
  where
    some-none : {bytes : List ℕ} → Digits bytes → is_none bytes ≡ false
    some-none (single d) = refl
    some-none (further d ds) = refl

-- the separators that a run of blanks is: all that is loose, and blanks
pub data Running : ℕ → Type 0 where
  loosely : Running 0
  blankly : Running 32

own-digit : {separator : ℕ} → Running separator → (byte : ℕ) → Digit byte → Own separator byte
unfolding separates is_loose is_blank
own-digit loosely byte d =
    record {
      apart = simp (digit-above 32 d (omega arith), digit-above 9 d (omega arith), digit-above 13 d (omega arith), digit-above 44 d (omega arith), digit-below 59 d (omega arith), digit-below 61 d (omega arith), digit-below 58 d (omega arith), digit-above 34 d (omega arith));
      blank = simp (digit-above 32 d (omega arith), digit-above 9 d (omega arith), digit-above 13 d (omega arith));
      quote = digit-above 34 d (omega arith);
    }
own-digit blankly byte d =
    record {
      apart = simp (digit-above 32 d (omega arith), digit-above 9 d (omega arith), digit-above 13 d (omega arith));
      blank = simp (digit-above 32 d (omega arith), digit-above 9 d (omega arith), digit-above 13 d (omega arith));
      quote = digit-above 34 d (omega arith);
    }

run-blank : {separator : ℕ} → Running separator → separates separator 32 ≡ true
unfolding separates is_loose is_blank
run-blank loosely = refl
run-blank blankly = refl

run-runs : {separator : ℕ} → Running separator → runs separator ≡ true
unfolding runs
run-runs loosely = refl
run-runs blankly = refl

-- the numbers of a row as words
unfoldable pub words_below : List ℕ → ℕ → List (List ℕ)
words_below numbers n = joined_below (λ place. decimal (get_or numbers place 0) ∷ []) n

-- a column begins with a blank
pub cell-blank : (numbers : List ℕ) → Narrow numbers → (k : ℕ) → k < 6 → (m : ℕ) × (cell_text numbers k ≡ 32 ∷ replicate m 32 ++ decimal (get_or numbers k 0))
unfolding cell_text padded
cell-blank numbers narrow k below =
    let n = get_or numbers k 0 in
    let m = get_or widths k 0 - length (decimal n) - 1 in
    let wide : get_or widths k 0 - length (decimal n) ≡ suc m = omega (arith, short n (narrow k), (column-wide k below).0) in
    (m, ap (λ (j : ℕ). replicate j 32 ++ decimal n) wide)

module _ {separator : ℕ} (run : Running separator) where
  pub blanks-run : (m : ℕ) (rest : List ℕ) → cells_in separator (replicate m 32 ++ rest) ≡ cells_in separator rest
  blanks-run zero rest = refl
  blanks-run (suc m) rest = cells-run separator 32 (run-blank run) (run-runs run) (replicate m 32 ++ rest) ∙ blanks-run m rest

  number-plain : (n : ℕ) → Plain separator (decimal n)
  number-plain n = digits-plain separator (own-digit run) (decimal-digits n)

  module _ (numbers : List ℕ) (narrow : Narrow numbers) where
    -- the first cells of a row, and a blank after them
    cells-before : (n : ℕ) → n ≤ 6 → (rest : List ℕ) → cells_in separator (joined_below (cell_text numbers) n ++ (32 ∷ rest)) ≡ words_below numbers n ++ cells_in separator rest
    unfolding joined_below words_below
    cells-before zero most rest = cells-run separator 32 (run-blank run) (run-runs run) rest
    cells-before (suc n) most rest =
        let word = decimal (get_or numbers n 0) in
        let before = joined_below (cell_text numbers) n in
        let cell = cell-blank numbers narrow n (omega arith) in
        append-step before (cell_text numbers n) cell.0 word rest cell.1
        ∙ cells-before n (omega arith) (replicate cell.0 32 ++ (word ++ (32 ∷ rest)))
        ∙ ap (λ (l : List (List ℕ)). words_below numbers n ++ l) (blanks-run cell.0 (word ++ (32 ∷ rest)) ∙ cells-word separator 32 (run-blank run) rest word (number-plain (get_or numbers n 0)))
        ∙ sym (append_assoc (words_below numbers n) (word ∷ []) (cells_in separator rest))
      where
        append-step : (before here : List ℕ) (m : ℕ) (word rest : List ℕ) → here ≡ 32 ∷ replicate m 32 ++ word
            → cells_in separator ((before ++ here) ++ (32 ∷ rest)) ≡ cells_in separator (before ++ (32 ∷ (replicate m 32 ++ (word ++ (32 ∷ rest)))))
        append-step before here m word rest e =
            ap (cells_in separator)
            (append_assoc before here (32 ∷ rest) ∙ ap (λ (l : List ℕ). before ++ l) (ap (λ (l : List ℕ). l ++ (32 ∷ rest)) e ∙ ap (λ (l : List ℕ). 32 ∷ l) (append_assoc (replicate m 32) word (32 ∷ rest))))

    -- the cells of a row are its numbers
    pub row-cells : (n : ℕ) → n < 6 → cells_in separator (joined_below (cell_text numbers) (suc n)) ≡ words_below numbers (suc n)
    unfolding joined_below words_below
    row-cells n below =
        let word = decimal (get_or numbers n 0) in
        let cell = cell-blank numbers narrow n below in
        ap (λ (l : List ℕ). cells_in separator (joined_below (cell_text numbers) n ++ l)) cell.1 ∙ cells-before n (omega arith) (replicate cell.0 32 ++ word)
        ∙ ap (λ (l : List (List ℕ)). words_below numbers n ++ l) (blanks-run cell.0 word ∙ cells-last separator word (number-plain (get_or numbers n 0)))

-- the bytes of a row: blanks and digits
pub data Inked : ℕ → Type 0 where
  blank : {byte : ℕ} → byte ≡ 32 → Inked byte
  inked : {byte : ℕ} → Digit byte → Inked byte

row-inked : (numbers : List ℕ) (n : ℕ) → All Inked (joined_below (cell_text numbers) n)
unfolding joined_below cell_text padded
row-inked numbers zero = none
row-inked numbers (suc n) =
    all-joined (row-inked numbers n) (all-joined (all_alike (get_or widths n 0 - length (decimal (get_or numbers n 0))) 32 (blank refl)) (all-wider (λ byte d. inked d) (all_digits (decimal-digits (get_or numbers n 0)))))

-- no other byte is among them
pub row-without : (numbers : List ℕ) (n other : ℕ) → (other ≡ 32 → ⊥) → (other < 48) ⊎ (57 < other) → All (λ byte. eqb byte other ≡ false) (joined_below (cell_text numbers) n)
row-without numbers n other apart outside = all-wider each (row-inked numbers n)
  where
    each : (byte : ℕ) → Inked byte → eqb byte other ≡ false
    each byte (blank e) = ne_eqb byte other (λ is. apart (sym is ∙ e))
    each byte (inked d) = go outside
      where
        go : (other < 48) ⊎ (57 < other) → eqb byte other ≡ false
        go (inl low) = digit-above other d low
        go (inr high) = digit-below other d high

-- its separator is a blank, which cuts it as all that is loose does
pub row-separator : (numbers : List ℕ) (n : ℕ) → separator_of (joined_below (cell_text numbers) n) ≡ 32
unfolding separator_of
row-separator numbers n =
    simp
    (outside-none 9 false (row-without numbers n 9 (λ e. omega arith) (inl (omega arith))), outside-none 59 false (row-without numbers n 59 (λ e. omega arith) (inr (omega arith))), outside-none 44 false (row-without numbers n 44 (λ e. omega arith) (inl (omega arith))))

pub row-alike : (numbers : List ℕ) (n : ℕ) → cells_of 32 (joined_below (cell_text numbers) n) ≡ cells_of 0 (joined_below (cell_text numbers) n)
unfolding cells_of
row-alike numbers n = cells-alike 32 0 (run-runs blankly ∙ sym (run-runs loosely)) (all-wider each (row-inked numbers n)) no_cells (empty_at 0) 0
  where
    each : (byte : ℕ) → Inked byte → separates 32 byte ≡ separates 0 byte
    each byte (blank e) = rw e (run-blank blankly ∙ sym (run-blank loosely))
    each byte (inked d) = (own-digit blankly byte d).apart ∙ sym (own-digit loosely byte d).apart
