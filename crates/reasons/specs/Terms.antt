-- The terms of an equation for record i at a length L, in docs/EQUATIONS.md's words: how many times what.
use Rattle.std.specs.Prelude.{ℕ, zero, suc, ◌+◌, ◌-◌, Bool, cond, ◌&&◌, List, ltb, leb, replicate}
use Rattle.places.specs.Places.{most_below, filled_below}
use Rattle.sheet.specs.declared.Record.{Record}
use Rattle.analysis.specs.declared.Equation.{Equation}
use Rattle.analysis.specs.declared.Equation.TheVariants.{Elsewhere, Itself, Assurance}
use Rattle.analysis.specs.Common.Rounding.{up}
use Rattle.analysis.specs.Common.Tasks.{Tasks}
use Rattle.analysis.specs.Common.Backups.{others}
use Rattle.analysis.specs.Published.Equations.{is_between}
use Rattle.analysis.specs.Assured.Equation.{is_over, is_ahead}
use Rattle.reasons.specs.declared.Term.{Term}
use Rattle.reasons.specs.Told.{Whose}
use Rattle.reasons.specs.Told.Whose.{Nobody, At}

-- "B of i", which only struck itself has
unfoldable pub own_backup : Equation → Record → ℕ
own_backup Elsewhere r = 0
own_backup Itself r = r.backup
own_backup Assurance r = 0

-- how many times C of record k counts: "up(L, T) × C over the records with a priority above p of i", "(1 + up(L, T)) × C over the records with a priority above q of i and below p of i",
-- "up(L, T) × C for each other task with priority above q of i"; 0 where it does not count
unfoldable pub times_of : Equation → Tasks → ℕ → ℕ → ℕ → ℕ
times_of Elsewhere s i L k = cond (ltb (s.at i).priority (s.at k).priority) (up L (s.at k).period) 0
times_of Itself s i L k = cond (ltb (s.at i).priority (s.at k).priority) (up L (s.at k).period) (cond (is_between s i (s.fault i) k) (1 + up L (s.at k).period) 0)
times_of Assurance s i L k = cond (is_over s i (s.fault i) k) (up L (s.at k).period) 0

-- so many times C of record k
abbrev pub task_term : Equation → Tasks → ℕ → ℕ → ℕ → Term
task_term equation s i L k = record { times = times_of equation s i L k; ticks = (s.at k).cost }

-- nothing
abbrev pub no_term : Term
no_term = record { times = 0; ticks = 0 }

-- the terms of all records, each at its place; nothing past the count
unfoldable pub task_terms : Equation → Tasks → ℕ → ℕ → List Term
task_terms equation s i L = filled_below (task_term equation s i L) s.count (replicate 8 no_term)

-- the records that M or N is the largest backup of: "the other records with q ≥ p of i", "all records, i included, with q ≥ q of i", and those whose backups run before the backup of i, and i
unfoldable pub is_meant : Equation → Tasks → ℕ → ℕ → Bool
is_meant Elsewhere s i k = others i k && leb (s.at i).priority (s.fault k)
is_meant Itself s i k = leb (s.fault i) (s.fault k)
is_meant Assurance s i k = is_ahead s i k

-- B of record k, if it is one of them
unfoldable pub meant_backup : Equation → Tasks → ℕ → ℕ → ℕ
meant_backup equation s i k = cond (is_meant equation s i k) (s.at k).backup 0

-- the first place below n that has the largest value, nobody where all are 0
unfoldable pub owner_below : (ℕ → ℕ) → ℕ → Whose
owner_below value zero = Nobody
owner_below value (suc n) = cond (ltb (most_below value n) (value n)) (At n) (owner_below value n)

-- M or N
unfoldable pub largest_of : Equation → Tasks → ℕ → ℕ
largest_of equation s i = most_below (meant_backup equation s i) s.count

-- whose backup that is, the first record's of those that have it, or nobody's
unfoldable pub whose_of : Equation → Tasks → ℕ → Whose
whose_of equation s i = owner_below (meant_backup equation s i) s.count

-- how many faults are paid for in L at a fault interval E: "up(L, E)", or "up(L, E) − 1" where the first one is the task's own
unfoldable pub faults_of : Equation → ℕ → ℕ → ℕ
faults_of Elsewhere E L = up L E
faults_of Itself E L = up L E - 1
faults_of Assurance E L = up L E

-- so many times M or N
abbrev pub fault_term : Equation → Tasks → ℕ → ℕ → Term
fault_term equation s i L = record { times = faults_of equation s.interval L; ticks = largest_of equation s i }

-- "up(L, Q) × (Q − S)": the supplier's ticks of each round Q of which we have the share S
unfoldable pub supplier_term : ℕ → ℕ → ℕ → Term
supplier_term Q S L = record { times = up L Q; ticks = Q - S }
