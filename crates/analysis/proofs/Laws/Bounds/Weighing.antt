-- A choice beside bounds, record by record: what the tops and the limits decide. Assumes nothing.
use Prim.Native.Nat.{ℕ, ◌≤◌, ◌<◌}
use mathlib.Core.Path.{◌≡◌, sym, ap}
use mathlib.Core.Bool.{Bool, true, false, not}
use mathlib.Core.List.{List}
use native.Mathlib.Omega.{arith}
use borrow.Author.Tests.{lt-ltb, le-ltb, le-leb, lt-leb}
use lib.Dec.{ltb}
use lib.ListN.{get_or}
use Rattle.analysis.specs.Told.{Bounds}
use Rattle.analysis.specs.declared.Rule.{Rule}
use Rattle.analysis.specs.declared.Rule.TheVariants.{Published}
use Rattle.analysis.specs.Common.Backups.{others, everyone}
use Rattle.analysis.specs.Assured.Ahead.{largest_ahead}
use Rattle.analysis.specs.Bounds.Within.{largest_of, below, below_limits, within_at}
use Rattle.analysis.proofs.Laws.Assured.Asked.{ahead-fewer}

-- the top at a record's fault priority
module _ (backups priorities choice : List ℕ) (n place limit : ℕ) {top : ℕ} (most : top ≡ largest_of backups choice everyone (get_or choice place 0) n) where
  -- by the published equations one that is not below the limit decides, and otherwise M does
  pub top-past : (limit_elsewhere : ℕ) → limit ≤ top → false ≡ below Published backups priorities choice n place limit limit_elsewhere
  unfolding below
  top-past limit_elsewhere over = simp (← most, le-ltb top limit over)

  pub top-under : (limit_elsewhere : ℕ) → top < limit → {is : Bool} → is ≡ ltb (largest_of backups choice (others place) (get_or priorities place 0) n) limit_elsewhere
      → is ≡ below Published backups priorities choice n place limit limit_elsewhere
  unfolding below
  top-under limit_elsewhere under e = simp (← most, lt-ltb top limit under) e

  -- for the assured times one that is below it is enough
  pub top-enough : top < limit → true ≡ ltb (largest_ahead backups priorities choice place n) limit
  unfolding everyone
  top-enough under = sym (lt-ltb _ limit (omega (arith, most, ahead-fewer backups priorities choice place n)))

-- whether the record at a place is past a limit
abbrev pub past : Rule → Bounds → List ℕ → ℕ → Bool
past rule b choice place = not (within_at rule b choice place)

-- one whose fault priority is too high, and one of which the limits decide
module _ (rule : Rule) (b : Bounds) (choice : List ℕ) (place : ℕ) where
  pub too-high : 8 < get_or choice place 0 → past rule b choice place ≡ true
  unfolding within_at
  too-high high = simp (lt-leb (get_or choice place 0) 8 high)

  pub limits-decide : get_or choice place 0 ≤ 8 → {is : Bool} → is ≡ below_limits rule b choice place → past rule b choice place ≡ not is
  unfolding within_at
  limits-decide low e = simp (le-leb (get_or choice place 0) 8 low) (ap not (sym e))
