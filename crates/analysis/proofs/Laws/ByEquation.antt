-- The equations one by one: each rises with the length, and its time out of the columns is that of the record's place. Assumes nothing.
use Prim.Native.Nat.{ℕ, ◌+◌, ◌-◌, ◌*◌, ◌≤◌, ◌<◌}
use mathlib.Core.Path.{◌≡◌, refl, ap, ◌∙◌}
use mathlib.Core.Bool.{Bool, true, false, cond}
use mathlib.Core.List.{List}
use native.Mathlib.Nat.{le_refl, mul-le-mul_right}
use native.Mathlib.Omega.{arith}
use lib.Dec.{ltb}
use Rattle.places.specs.Places.{sum_below}
use Rattle.places.proofs.Summed.{sum-rises}
use Rattle.sheet.specs.declared.Table.{Table}
use Rattle.sheet.specs.Rules.{table_refusal}
use Rattle.analysis.specs.declared.common.by_rank.Frame.{Frame}
use Rattle.analysis.specs.declared.Equation.{Equation}
use Rattle.analysis.specs.declared.Equation.TheVariants.{Elsewhere, Itself, Assurance}
use Rattle.analysis.specs.Common.Rounding.{up}
use Rattle.analysis.specs.Common.Tasks.{Tasks, tasks_of}
use Rattle.analysis.specs.Common.Backups.{backup_elsewhere, backup_from_fault}
use Rattle.analysis.specs.Common.Supplier.{supplier_of}
use Rattle.analysis.specs.Common.ByRank.{rank_of, ranked, frame_of, ColumnsOf, FaultsOf}
use Rattle.analysis.specs.Published.Equations.{is_between, asked_elsewhere, asked_itself, struck_elsewhere, struck_itself}
use Rattle.analysis.specs.Assured.Equation.{is_over, backup_ahead, asked_assured, assured_equation}
use Rattle.analysis.specs.Common.Search.{least_within}
use Rattle.analysis.specs.Published.Response.{time_elsewhere, time_itself}
use Rattle.analysis.specs.Assured.Time.{assured_within, assured_time}
use Rattle.analysis.specs.ByEquation.{asked_by, time_of}
use Rattle.analysis.proofs.Laws.Common.Rounding.{up-rises}
use Rattle.analysis.proofs.Laws.Published.Columned.{elsewhere-ranked, itself-ranked}
use Rattle.analysis.proofs.Laws.Assured.ByRank.{assured-ranked}

-- what the same test picks is no less in a longer length
picked-rises : (b : Bool) {x y : ℕ} → x ≤ y → cond b x 0 ≤ cond b y 0
picked-rises true less = less
picked-rises false less = le_refl 0

-- each equation asks no less of a longer length
pub asked-rises : (equation : Equation) (s : Tasks) (i a b : ℕ) → a ≤ b → asked_by equation s i a ≤ asked_by equation s i b
unfolding asked_by struck_elsewhere asked_elsewhere struck_itself asked_itself assured_equation asked_assured supplier_of
asked-rises equation s i a b longer = by equation
  where
    supplier : up a s.round * (s.round - s.share) ≤ up b s.round * (s.round - s.share)
    supplier = mul-le-mul_right (s.round - s.share) (up-rises s.round longer)

    faults : (N : ℕ) → up a s.interval * N ≤ up b s.interval * N
    faults N = mul-le-mul_right N (up-rises s.interval longer)

    runs : (counts : ℕ → Bool) → sum_below (λ k. cond (counts k) (up a (s.at k).period * (s.at k).cost) 0) s.count ≤ sum_below (λ k. cond (counts k) (up b (s.at k).period * (s.at k).cost) 0) s.count
    runs counts = sum-rises s.count (λ k below. picked-rises (counts k) (mul-le-mul_right (s.at k).cost (up-rises (s.at k).period longer)))

    by : (e : Equation) → asked_by e s i a ≤ asked_by e s i b
    by Elsewhere = omega (arith, runs (λ k. ltb (s.at i).priority (s.at k).priority), faults (backup_elsewhere s i), supplier)
    by Itself =
        omega (arith, runs (λ k. ltb (s.at i).priority (s.at k).priority), once_more, later, supplier)
      where
        once_more : sum_below (λ k. cond (is_between s i (s.fault i) k) ((1 + up a (s.at k).period) * (s.at k).cost) 0) s.count ≤ sum_below (λ k. cond (is_between s i (s.fault i) k) ((1 + up b (s.at k).period) * (s.at k).cost) 0) s.count
        once_more = sum-rises s.count (λ k below. picked-rises (is_between s i (s.fault i) k) (mul-le-mul_right (s.at k).cost (let more = up-rises (s.at k).period longer in omega arith)))

        later : (up a s.interval - 1) * backup_from_fault s i ≤ (up b s.interval - 1) * backup_from_fault s i
        later = mul-le-mul_right (backup_from_fault s i) (let more = up-rises s.interval longer in omega arith)
    by Assurance = omega (arith, runs (is_over s i (s.fault i)), faults (backup_ahead s i), supplier)

-- the time by an equation is what a search up to 65,535 finds
pub solved-by : (equation : Equation) (s : Tasks) (i : ℕ) → least_within (asked_by equation s i) 1 65535 ≡ time_of equation s i
unfolding asked_by time_of time_elsewhere time_itself assured_time assured_within
solved-by Elsewhere s i = refl
solved-by Itself s i = refl
solved-by Assurance s i = refl

-- the columns of a good table have its times, each at its record's rank
pub solved-there : (t : Table) → table_refusal t ≡ 0 → (columns : List ℕ) → ColumnsOf t columns → (choice faults : List ℕ) → FaultsOf t choice faults → {frame : Frame} → frame ≡ frame_of t t.interval
    → (equation : Equation) (place : ℕ) → place < t.count → {rank : ℕ} → rank ≡ rank_of t place → time_of equation (ranked columns frame faults) rank ≡ time_of equation (tasks_of t t.interval choice) place
unfolding time_of
solved-there t good columns filled choice faults beside {frame} framed equation place below {rank} here =
    ap (time_of equation (ranked columns frame faults)) here ∙ ap (λ (f : Frame). time_of equation (ranked columns f faults) (rank_of t place)) framed ∙ by equation
  where
    by : (e : Equation) → time_of e (ranked columns (frame_of t t.interval) faults) (rank_of t place) ≡ time_of e (tasks_of t t.interval choice) place
    by Elsewhere = elsewhere-ranked t good columns filled t.interval choice faults beside 65535 place below
    by Itself = itself-ranked t good columns filled t.interval choice faults beside 65535 place below
    by Assurance = assured-ranked t good columns filled choice faults beside place below
