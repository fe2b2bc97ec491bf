-- What the code steps with: the choice right after another, the choices that stay within bounds, and what a step through a list comes to. An inner device, tied to the lists by laws; no public promise cites it.
use Rattle.std.specs.Prelude.{ℕ, zero, suc, ◌*◌, ◌<◌, ◌≤◌, ◌≡◌, Bool, true, false, cond, List, [], ◌∷◌, ◌++◌, map, eqb, ltb, length, get_or, drop, Result}
use Rattle.places.specs.declared.refusal.Refusal.{Refusal}
use Rattle.places.specs.Answered.{answered}
use Rattle.analysis.specs.declared.Bounds.{Bounds}
use Rattle.analysis.specs.declared.Rule.{Rule}
use Rattle.analysis.specs.Bounds.Within.{within_answer}
use Rattle.analysis.specs.Bounds.Lent.{bounds_lent}
use Rattle.choices.specs.Choices.{choices_of, sift}
use Rattle.choices.specs.Order.{all_zero}
use Rattle.choices.specs.Answers.{bytes_of, room_refusal, list_from, leaves_from}

-- n!, which is how many choices n records have
unfoldable pub factorial : ℕ → ℕ
factorial zero = 1
factorial (suc n) = suc n * factorial n

-- the first entry allowed at a place
unfoldable pub first_for : ℕ → ℕ
first_for p = cond (eqb p 0) 0 1

-- the entries with a carry: the last one that can rise rises by one, and those after it are the first ones again; where none can, all are the first ones again
pub record Carried : Type 0 where
  pub rose : Bool
  pub entries : List ℕ

unfoldable pub carried : List ℕ → List ℕ → Carried
carried [] c = record { rose = false; entries = [] }
carried (p ∷ ps) [] = record { rose = false; entries = [] }
carried (p ∷ ps) (q ∷ qs) =
    cond (carried ps qs).rose (record { rose = true; entries = q ∷ (carried ps qs).entries })
    (record { rose = ltb q p; entries = cond (ltb q p) (suc q) (first_for p) ∷ (carried ps qs).entries })

-- the choice right after another, or the first one after eight zeros
unfoldable pub next_of : List ℕ → List ℕ → Carried
next_of ps c = cond (all_zero c) (record { rose = true; entries = map first_for ps }) (carried ps c)

-- the choices of the priorities that bounds have which stay within these under a rule
unfoldable pub within_of : Rule → Bounds → List (List ℕ)
within_of rule b = sift (λ choice. (within_answer rule (bounds_lent b) choice).yes) (choices_of b.priorities)

-- priorities as a table has them, in eight entries: there is a first, and none is above 8
pub record Levels (priorities : List ℕ) : Type 0 where
  pub eight : length priorities ≡ 8
  pub first : 1 ≤ get_or priorities 0 0
  pub few : (place : ℕ) → get_or priorities place 0 ≤ 8

-- a list put at the start of an output: how many choices it has, and their bytes before the output's own
pub record Filled (list : List (List ℕ)) (out : List ℕ) (entries : ℕ) (left : List ℕ) : Type 0 where
  pub number : entries ≡ length list
  pub content : left ≡ bytes_of list ++ drop (4 * length list) out

-- a list put at the start of an output where it has room there, as no refusal comes first
pub record Listed (list : List (List ℕ)) (out : List ℕ) (told : Result ℕ Refusal) (left : List ℕ) : Type 0 where
  pub answer : told ≡ answered (room_refusal 0 list out) (list_from (room_refusal 0 list out) list).entries
  pub content : left ≡ leaves_from (room_refusal 0 list out) list out

-- each entry is below 16, so that it has room in four bits
unfoldable pub IsSmall : List ℕ → Type 0
IsSmall choice = (place : ℕ) → get_or choice place 0 < 16
