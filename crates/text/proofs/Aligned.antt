-- Numbers in columns: the bytes of a cell from the right, a cell cut to its column's width, and the lines' lengths. Assumes nothing.
use Prim.Native.Nat.{ℕ, zero, suc, ◌+◌, ◌-◌, ◌/◌, ◌%◌, ◌≤◌, ◌<◌}
use mathlib.Core.Path.{◌≡◌, refl, sym, ap, ◌∙◌}
use mathlib.Core.List.{List, [], ◌∷◌, ◌++◌, append_assoc}
use native.Mathlib.Nat.{mod-lt, div-add-mod'}
use native.Mathlib.Numerals.{add-one}
use native.Mathlib.Omega.{arith}
use lib.Dec.{lit≤}
use lib.ListN.{length, get_or, set, take, drop, replicate, length-append, length-drop, length-replicate}
use lib.Seq.{take_all}
use Rattle.report.specs.Decimal.{digit, decimal}
use Rattle.report.proofs.Decimal.{decimal-one, decimal-more, length-decimal}
use Rattle.text.specs.Shown.{widths, column_at, padded}

-- the last digit of a number, and those before it where there are any
last-digit : (n : ℕ) → n / 10 ≡ 0 → decimal n ≡ digit (n % 10) ∷ []
last-digit n e =
    let small : n < 10 = omega (arith, div-add-mod' n 10, mod-lt n {m = 10} (omega arith)) in
    let same : n % 10 ≡ n = omega (arith, div-add-mod' n 10) in
    decimal-one small ∙ ap (λ (d : ℕ). digit d ∷ []) (sym same)

more-digits : (n : ℕ) → 0 < n / 10 → decimal n ≡ decimal (n / 10) ++ (digit (n % 10) ∷ [])
more-digits n some = decimal-more (omega (arith, div-add-mod' n 10))

-- ten bytes from the right: blanks, and the digits of a number that come after those of the rest
pub record Cell (number : ℕ) (bytes : List ℕ) (place rest : ℕ) : Type 0 where
  pub digits : List ℕ
  pub stands : bytes ≡ replicate place 32 ++ digits
  pub wide : place + length digits ≡ 10
  pub done : rest ≡ 0 → decimal number ≡ digits
  pub more : 0 < rest → decimal number ≡ decimal rest ++ digits

-- blanks, the last of them overwritten
blank-set : (place d : ℕ) (ds : List ℕ) → set (replicate (suc place) 32 ++ ds) place d ≡ replicate place 32 ++ d ∷ ds
blank-set zero d ds = refl
blank-set (suc place) d ds = ap (λ (l : List ℕ). 32 ∷ l) (blank-set place d ds)

-- the last digit alone
pub cell-begun : (n : ℕ) → Cell n (set (replicate 10 32) 9 (48 + n % 10)) 9 (n / 10)
cell-begun n = record { digits = digit (n % 10) ∷ []; stands = refl; wide = refl; done = last-digit n; more = more-digits n }

-- one digit more
pub cell-more : (n : ℕ) (bytes : List ℕ) (place rest : ℕ) → Cell n bytes (suc place) rest → 0 < rest → Cell n (set bytes place (48 + rest % 10)) place (rest / 10)
cell-more n bytes place rest cell some =
    record {
      digits = digit (rest % 10) ∷ cell.digits;
      stands = ap (λ (l : List ℕ). set l place (48 + rest % 10)) cell.stands ∙ blank-set place (48 + rest % 10) cell.digits;
      wide = omega (arith, cell.wide);
      done = λ e. cell.more some ∙ ap (λ (l : List ℕ). l ++ cell.digits) (last-digit rest e);
      more = λ again. cell.more some ∙ ap (λ (l : List ℕ). l ++ cell.digits) (more-digits rest again) ∙ append_assoc (decimal (rest / 10)) (digit (rest % 10) ∷ []) cell.digits;
    }

-- all of them
pub cell-done : (n : ℕ) (bytes : List ℕ) (place rest : ℕ) → Cell n bytes place rest → rest ≡ 0 → bytes ≡ padded 10 n
unfolding padded
cell-done n bytes place rest cell e =
    let is = cell.done e in
    let left : place ≡ 10 - length (decimal n) = omega (arith, cell.wide, ap length is) in
    cell.stands ∙ ap (λ (k : ℕ). replicate k 32 ++ cell.digits) left ∙ ap (λ (l : List ℕ). replicate (10 - length (decimal n)) 32 ++ l) (sym is)

-- a number of sixteen bits has five digits at most
pub short : (n : ℕ) → n < 65536 → length (decimal n) ≤ 5
short n narrow = length-decimal 4 n (omega arith)

-- there is room for the digits of the rest
pub cell_room : (n : ℕ) (bytes : List ℕ) (place rest : ℕ) → Cell n bytes place rest → n < 65536 → 0 < rest → 0 < place
cell_room n bytes place rest cell narrow some = omega (arith, cell.wide, ap length (cell.more some), length-append (decimal rest) cell.digits, short n narrow)

drop-blanks : (k m : ℕ) (ds : List ℕ) → k ≤ m → drop k (replicate m 32 ++ ds) ≡ replicate (m - k) 32 ++ ds
drop-blanks zero m ds h =
    let all : m ≡ m - 0 = omega arith in
    ap (λ (n : ℕ). replicate n 32 ++ ds) all
drop-blanks (suc k) zero ds h = absurd (omega arith)
drop-blanks (suc k) (suc m) ds h =
    let left : m - k ≡ suc m - suc k = omega arith in
    drop-blanks k m ds (omega arith) ∙ ap (λ (n : ℕ). replicate n 32 ++ ds) left

-- ten bytes cut to a column's width
padded-cut : (width n : ℕ) → width ≤ 10 → length (decimal n) ≤ 5 → 5 ≤ width → drop (10 - width) (padded 10 n) ≡ padded width n
unfolding padded
padded-cut width n most digits least =
    let cut : 10 - length (decimal n) - (10 - width) ≡ width - length (decimal n) = omega arith in
    drop-blanks (10 - width) (10 - length (decimal n)) (decimal n) (omega arith) ∙ ap (λ (k : ℕ). replicate k 32 ++ decimal n) cut

-- a number that its column holds has the column's width
pub length-padded : (width n : ℕ) → length (decimal n) ≤ width → length (padded width n) ≡ width
unfolding padded
length-padded width n fits = length-append (replicate (width - length (decimal n)) 32) (decimal n) ∙ ap (λ (k : ℕ). k + length (decimal n)) (length-replicate (width - length (decimal n)) 32) ∙ omega arith

-- a column holds five digits and two blanks, and is never wider than ten
pub column-wide : (k : ℕ) → k < 6 → (7 ≤ get_or widths k 0) × (get_or widths k 0 ≤ 10)
column-wide zero h = (lit≤ tt, lit≤ tt)
column-wide (suc zero) h = (lit≤ tt, lit≤ tt)
column-wide (suc (suc zero)) h = (lit≤ tt, lit≤ tt)
column-wide (suc (suc (suc zero))) h = (lit≤ tt, lit≤ tt)
column-wide (suc (suc (suc (suc zero)))) h = (lit≤ tt, lit≤ tt)
column-wide (suc (suc (suc (suc (suc zero))))) h = (lit≤ tt, lit≤ tt)
column-wide (suc (suc (suc (suc (suc (suc k)))))) h = absurd (omega arith)

-- a line's columns end within fifty bytes
pub columns-most : (k : ℕ) → k ≤ 6 → column_at k ≤ 50
unfolding column_at
columns-most zero h = lit≤ tt
columns-most (suc zero) h = lit≤ tt
columns-most (suc (suc zero)) h = lit≤ tt
columns-most (suc (suc (suc zero))) h = lit≤ tt
columns-most (suc (suc (suc (suc zero)))) h = lit≤ tt
columns-most (suc (suc (suc (suc (suc zero))))) h = lit≤ tt
columns-most (suc (suc (suc (suc (suc (suc zero)))))) h = lit≤ tt
columns-most (suc (suc (suc (suc (suc (suc (suc k))))))) h = absurd (omega arith)

-- one column further
pub column-more : (k : ℕ) → column_at (k + 1) ≡ column_at k + get_or widths k 0
unfolding column_at
column-more k = rw add-one refl

-- the last bytes of ten, as many as a column has, are the number in that column
pub cell_cut : (bytes : List ℕ) (width n : ℕ) → bytes ≡ padded 10 n → length (decimal n) ≤ 5 → 7 ≤ width → width ≤ 10 → take (10 - (10 - width)) (drop (10 - width) bytes) ≡ padded width n
cell_cut bytes width n is digits least most =
    let long : length bytes ≡ 10 = ap length is ∙ length-padded 10 n (omega arith) in
    take_all (10 - (10 - width)) (drop (10 - width) bytes) (omega (arith, length-drop (10 - width) bytes)) ∙ ap (drop (10 - width)) is ∙ padded-cut width n most digits (omega arith)
