-- A refusal that is given in the order in which rows are tried: how a test adds a row in front, and how rows are joined. Assumes nothing.
use Prim.Native.Nat.{ℕ, zero, suc, ◌<◌}
use mathlib.Core.Path.{◌≡◌, refl, sym, subst, ◌∙◌}
use mathlib.Core.Bool.{Bool, cond}
use mathlib.Core.Logic.{inl, inr}
use mathlib.Core.List.{List, [], ◌∷◌, ◌++◌}
use native.Mathlib.Omega.{arith}
use Rattle.places.specs.Places.{joined_below}
use Rattle.places.specs.Refusals.{or_else, first_below, Row, row, NoneBroken, FirstBroken, InOrder}
use Rattle.places.proofs.Tells.{Tells, holds, fails}
use Rattle.places.proofs.Refusals.{first_of}

-- no row is the first one broken where none is, and one at most is
none_first : (rows : List Row) (r : ℕ) → NoneBroken rows → FirstBroken rows r → ⊥
none_first [] r n f = f
none_first (row number reason ∷ rows) r n (inl f) = n.0 f.1
none_first (row number reason ∷ rows) r n (inr f) = none_first rows r n.1 f.1

first-unique : (rows : List Row) {q r : ℕ} → FirstBroken rows q → FirstBroken rows r → q ≡ r
first-unique [] f g = absurd f
first-unique (row number reason ∷ rows) (inl f) (inl g) = f.0 ∙ sym g.0
first-unique (row number reason ∷ rows) (inl f) (inr g) = absurd (g.0 f.1)
first-unique (row number reason ∷ rows) (inr f) (inl g) = absurd (f.0 g.1)
first-unique (row number reason ∷ rows) (inr f) (inr g) = first-unique rows f.1 g.1

-- rows after others: none is broken, or the first one is among the others, or among the rows and none of the others is
none-joined : (xs ys : List Row) → NoneBroken xs → NoneBroken ys → NoneBroken (xs ++ ys)
none-joined [] ys n m = m
none-joined (row number reason ∷ xs) ys n m = (n.0, none-joined xs ys n.1 m)

first-before : (xs ys : List Row) (r : ℕ) → FirstBroken xs r → FirstBroken (xs ++ ys) r
first-before [] ys r f = absurd f
first-before (row number reason ∷ xs) ys r (inl f) = inl f
first-before (row number reason ∷ xs) ys r (inr f) = inr (f.0, first-before xs ys r f.1)

first-after : (xs ys : List Row) (r : ℕ) → NoneBroken xs → FirstBroken ys r → FirstBroken (xs ++ ys) r
first-after [] ys r n f = f
first-after (row number reason ∷ xs) ys r n f = inr (n.0, first-after xs ys r n.1 f)

module _ (Number : ℕ → Type 0) where
  -- what a number says of rows: it is 0 and none is broken, or it is that of the first one broken, one of the given numbers
  pub data Says (rows : List Row) : ℕ → Type 0 where
    none : NoneBroken rows → Says rows 0
    first : {r : ℕ} → Number r → FirstBroken rows r → Says rows r

module _ {Number : ℕ → Type 0} where
  -- 0 says it of no rows
  pub says_none : Says Number [] 0
  says_none = none tt

  -- a test in front of the number adds a row in front of the rows, and where the test fails its rule is known not to be broken
  pub says_row : {rows : List Row} {P : Type 0} {b : Bool} {number r : ℕ} → Number number → Tells P b → ((P → ⊥) → Says Number rows r) → Says Number (row number P ∷ rows) (cond b number r)
  says_row {rows} {P} {number} {r} known (holds p) s = first known (inl (refl, p))
  says_row {rows} {P} {number} {r} known (fails n) s = go (s n)
    where
      go : {r : ℕ} → Says Number rows r → Says Number (row number P ∷ rows) r
      go (none f) = none (n, f)
      go (first k f) = first k (inr (n, f))

-- what a number says of rows it says with more numbers allowed
pub says-wider : {Some More : ℕ → Type 0} {rows : List Row} {r : ℕ} → ((n : ℕ) → Some n → More n) → Says Some rows r → Says More rows r
says-wider wider (none f) = none f
says-wider wider (first {r = r} k f) = first (wider r k) f

module _ {Number : ℕ → Type 0} (positive : (r : ℕ) → Number r → 0 < r) where
  -- a number that says it of rows, or else the one that says it of further rows, says it of both
  pub says-joined : (xs ys : List Row) {q r : ℕ} → Says Number xs q → Says Number ys r → Says Number (xs ++ ys) (or_else q r)
  unfolding or_else
  says-joined xs ys (none f) (none g) = none (none-joined xs ys f g)
  says-joined xs ys (none f) (first {r = r} k g) = first k (first-after xs ys r f g)
  says-joined xs ys {q} {r} (first k f) s = rw (first_of q r (λ e. omega (arith, positive q k))) (first k (first-before xs ys q f))

  -- the first refusal below n says it of the rows of the places below n
  pub says-below : (rows : ℕ → List Row) (refusal : ℕ → ℕ) → ((k : ℕ) → Says Number (rows k) (refusal k)) → (n : ℕ) → Says Number (joined_below rows n) (first_below refusal n)
  unfolding first_below joined_below
  says-below rows refusal each zero = none tt
  says-below rows refusal each (suc n) = says-joined (joined_below rows n) (rows n) (says-below rows refusal each n) (each n)

  -- a number that says it of rows is given in their order
  pub in_order : {rows : List Row} {r : ℕ} → Says Number rows r → InOrder Number rows r
  in_order {rows} (none f) =
      record {
        first-order = λ x some. (λ e. absurd (omega arith), λ g. absurd (none_first rows x f g));
        good-order = (λ e. f, λ n. refl);
        range = inl refl;
      }
  in_order {rows} (first {r = r} k f) =
      record {
        first-order = λ x some. (λ e. subst (FirstBroken rows) e f, first-unique rows f);
        good-order = (λ e. absurd (omega (arith, positive r k)), λ n. absurd (none_first rows r n f));
        range = inr k;
      }
