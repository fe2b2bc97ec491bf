-- Whether a choice stays within bounds.
use Rattle.std.specs.Prelude.{ℕ, ◌+◌, ◌*◌, ◌<◌, ◌≡◌, Bool, cond, not, ◌&&◌, List, leb, ltb, get_or}
use Rattle.places.specs.Places.{some_below, most_below}
use Rattle.places.specs.Refusals.{or_else}
use Rattle.sheet.specs.Rules.{outside}
use Rattle.analysis.specs.Told.{Bounds, Verdict}
use Rattle.analysis.specs.declared.Rule.{Rule}
use Rattle.analysis.specs.declared.Rule.TheVariants.{Published, Assured}
use Rattle.analysis.specs.Common.Backups.{others, everyone}
use Rattle.analysis.specs.Common.Entries.{verdict_of}
use Rattle.analysis.specs.Assured.Ahead.{largest_ahead}

-- the largest backup among n records, those meant whose fault priority in the choice is at or above a priority, or 0
unfoldable pub largest_of : List ℕ → List ℕ → (ℕ → Bool) → ℕ → ℕ → ℕ
largest_of backups choice meant priority = most_below (λ k. cond (meant k && leb priority (get_or choice k 0)) (get_or backups k 0) 0)

-- the tops of n records under a choice: the largest backup at or above each priority
abbrev pub TopsOf : List ℕ → List ℕ → ℕ → List ℕ → Type 0
TopsOf backups choice n tops = (priority : ℕ) → priority < 9 → get_or tops priority 0 ≡ largest_of backups choice everyone priority n

-- bounds that are given field by field
abbrev pub bounds_in : ℕ → ℕ → List ℕ → List ℕ → List ℕ → Bounds
bounds_in refusal count priorities backups limits = record { refusal = refusal; count = count; priorities = priorities; backups = backups; limits = limits }

-- whether M and N of the record at a place, of n, are below a limit for struck itself and one for struck elsewhere; under the assured rule, whether its N is below the first
unfoldable pub below : Rule → List ℕ → List ℕ → List ℕ → ℕ → ℕ → ℕ → ℕ → Bool
below Published backups priorities choice n place limit limit_elsewhere =
    ltb (largest_of backups choice everyone (get_or choice place 0) n) limit
    && ltb (largest_of backups choice (others place) (get_or priorities place 0) n) limit_elsewhere
below Assured backups priorities choice n place limit limit_elsewhere = ltb (largest_ahead backups priorities choice place n) limit

-- whether they are below its limits
unfoldable pub below_limits : Rule → Bounds → List ℕ → ℕ → Bool
below_limits rule b choice place =
    below rule b.backups b.priorities choice b.count place (get_or b.limits (9 * place + get_or choice place 0) 0) (get_or b.limits (9 * place) 0)

-- whether the record at a place has a fault priority up to 8 and is within its limits for it
unfoldable pub within_at : Rule → Bounds → List ℕ → ℕ → Bool
within_at rule b choice place = leb (get_or choice place 0) 8 && below_limits rule b choice place

-- whether each record is
unfoldable pub within_bounds : Rule → Bounds → List ℕ → Bool
within_bounds rule b choice = not (some_below (λ place. not (within_at rule b choice place)) b.count)

-- what bounds are refused for: the number that they carry, then 2, "the count is 0 or above 8"
unfoldable pub bounds_refusal : ℕ → ℕ → ℕ
bounds_refusal refusal count = or_else refusal (cond (outside count 8) 2 0)

-- `meets_lent`: whether a choice stays within bounds that are not refused
unfoldable pub within_answer : Rule → Bounds → List ℕ → Verdict
within_answer rule b choice = verdict_of (bounds_refusal b.refusal b.count) (within_bounds rule b choice)
