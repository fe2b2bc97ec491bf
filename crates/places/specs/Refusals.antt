-- Refusals in the order they are tried: one or the next, the first among places, and what it is for a refusal to be given in the order of a table's rows.
use Rattle.std.specs.Prelude.{ℕ, zero, suc, ◌≤◌, ◌≡◌, cond, ◌⊎◌, ◌↔◌, List, [], ◌∷◌, eqb}

-- a refusal, or the next one where it is 0
unfoldable pub or_else : ℕ → ℕ → ℕ
or_else first next = cond (eqb first 0) next first

-- the first refusal among the places below n, tried in order; 0 where there is none
unfoldable pub first_below : (ℕ → ℕ) → ℕ → ℕ
first_below refusal zero = 0
first_below refusal (suc n) = or_else (first_below refusal n) (refusal n)

-- a row of the table: its number, and what it is "given exactly when"
pub data Row : Type 1 where
  row : ℕ → Type 0 → Row

-- no rule is broken
abbrev pub NoneBroken : List Row → Type 0
NoneBroken [] = Unit
NoneBroken (row number reason ∷ rows) = (reason → ⊥) × NoneBroken rows

-- r is the number of the first row, in the order of the list, whose rule is broken
abbrev pub FirstBroken : List Row → ℕ → Type 0
FirstBroken [] r = ⊥
FirstBroken (row number reason ∷ rows) r = ((r ≡ number) × reason) ⊎ ((reason → ⊥) × FirstBroken rows r)

-- The refusal numbers are given "in the order they are tried": what each value of a refusal means, of rows with the given numbers.
pub record InOrder (Number : ℕ → Type 0) (rows : List Row) (refusal : ℕ) : Type 0 where
  -- it is a number exactly when that is the first rule to be broken
  pub first-order : (r : ℕ) → 1 ≤ r → (refusal ≡ r) ↔ FirstBroken rows r
  -- it is 0 exactly when no rule is broken
  pub good-order : (refusal ≡ 0) ↔ NoneBroken rows
  -- it is no other number
  pub range : (refusal ≡ 0) ⊎ Number refusal
