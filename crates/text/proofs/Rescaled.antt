-- Figures that have a table's numbers, at a scale of 1: the table again. Assumes nothing.
use Prim.Native.Nat.{ℕ, zero, suc, ◌/◌, ◌≤◌, ◌<◌, min}
use mathlib.Core.Path.{◌≡◌, refl, ap, ap₂, ◌∙◌}
use mathlib.Core.Bool.{Bool, true, false, cond}
use mathlib.Core.List.{List}
use native.Mathlib.Nat.{div-one, mod-one}
use native.Mathlib.Omega.{arith}
use borrow.Author.Tests.{le-ltb}
use lib.ListN.{get_or, set}
use Rattle.places.specs.Places.{filled_below}
use Rattle.sheet.specs.declared.Record.{Record}
use Rattle.sheet.specs.declared.Table.{Table}
use Rattle.sheet.specs.Layout.{record_at, room, cleared, is_whole}
use Rattle.sheet.specs.Rules.{table_refusal}
use Rattle.sheet.proofs.Spelled.{Sized}
use Rattle.lines.specs.declared.Task.{Task}
use Rattle.lines.specs.declared.Figures.{Figures}
use Rattle.text.specs.Scaling.{up, least_up, least_down, number_at, least_of, is_high, task_of, least_first, least_below, high_below, least_scale, scaled_task, records_below, share_scale, scaled_table, divides, judged, scaled_fit, scaled_by}
use Rattle.text.specs.Shown.{task_numbers}
use Rattle.text.proofs.Scales.{least-up-is, least-down-is}

-- at a scale of 1 nothing is divided
pub up_one : (n : ℕ) → up n 1 ≡ n
unfolding up
up_one n = simp (mod-one n) (div-one n)

up_least : (n : ℕ) → n < 65536 → least_up n ≤ 1
up_least n narrow = (least-up-is n 1 (omega arith)).1 (omega (arith, up_one n))

down-least : (n : ℕ) → n < 65536 → least_down n ≤ 1
down-least n narrow = (least-down-is n 1 (omega arith)).1 (omega (arith, div-one n))

-- a record of a task's numbers
abbrev record_from : List ℕ → Record
record_from numbers =
    record {
      cost = min (up (get_or numbers 2 0) 1) 65535;
      backup = min (up (get_or numbers 3 0) 1) 65535;
      deadline = min (get_or numbers 4 0 / 1) 65535;
      period = min (get_or numbers 5 0 / 1) 65535;
      priority = min (get_or numbers 0 0) 15;
      fault_priority = min (get_or numbers 1 0) 15;
    }

within : (n : ℕ) → n < 65536 → min n 65535 ≡ n
within n narrow = omega arith

record-again : (r : Record) → Sized r → record_from (task_numbers r) ≡ r
unfolding task_numbers
record-again r sized =
    let p : min r.priority 15 ≡ r.priority = omega (arith, sized.priority) in
    let q : min r.fault_priority 15 ≡ r.fault_priority = omega (arith, sized.fault) in
    simp (up_one, div-one, within r.cost sized.cost, within r.backup sized.backup, within r.deadline sized.deadline, within r.period sized.period, p, q)

-- tasks that have the numbers of a table's records
module _ (tasks : List Task) (records : List Record) (count : ℕ) (same : (k : ℕ) → k < count → (task_of tasks k).numbers ≡ task_numbers (record_at records k)) (sized : (k : ℕ) → k < count → Sized (record_at records k)) where
  task-again : (k : ℕ) → k < count → scaled_task (task_of tasks k) 1 ≡ record_at records k
  unfolding scaled_task number_at
  task-again k h = ap record_from (same k h) ∙ record-again (record_at records k) (sized k h)

  number_is : (k : ℕ) → k < count → (place : ℕ) → number_at (task_of tasks k) place ≡ get_or (task_numbers (record_at records k)) place 0
  unfolding number_at
  number_is k h place = ap (λ (l : List ℕ). get_or l place 0) (same k h)

  records-again : (n : ℕ) → n ≤ count → records_below tasks 1 n ≡ room (record_at records) n
  unfolding records_below room filled_below
  records-again zero most = refl
  records-again (suc n) most = ap₂ (λ (l : List Record) (r : Record). set l n r) (records-again n (omega arith)) (task-again n (omega arith))

  none-high : (n : ℕ) → n ≤ count → high_below tasks n ≡ false
  unfolding high_below is_high task_numbers
  none-high zero most = refl
  none-high (suc n) most =
      let h : n < count = omega arith in
      simp
      (none-high n (omega arith), le-ltb 15 (number_at (task_of tasks n) 0) (omega (arith, number_is n h 0, (sized n h).priority)), le-ltb 15 (number_at (task_of tasks n) 1) (omega (arith, number_is n h 1, (sized n h).fault)))

  least-one : (first n : ℕ) → n ≤ count → first ≤ 1 → least_below first tasks n ≤ 1
  unfolding least_below least_of task_numbers
  least-one first zero most h = h
  least-one first (suc n) most h =
      let below : n < count = omega arith in
      let r = sized n below in
      omega
      (arith, least-one first n (omega arith) h, up_least (number_at (task_of tasks n) 2) (omega (arith, number_is n below 2, r.cost)), up_least (number_at (task_of tasks n) 3) (omega (arith, number_is n below 3, r.backup)), down-least (number_at (task_of tasks n) 4) (omega (arith, number_is n below 4, r.deadline)), down-least (number_at (task_of tasks n) 5) (omega (arith, number_is n below 5, r.period)))

  least_kept : (first n : ℕ) → first ≤ least_below first tasks n
  unfolding least_below
  least_kept first zero = omega arith
  least_kept first (suc n) = omega (arith, least_kept first n)

-- the figures of a table
pub record Figured (figures : Figures) (t : Table) : Type 0 where
  pub count : figures.count ≡ t.count
  pub interval : figures.interval ≡ t.interval
  pub round : figures.round ≡ t.round
  pub share : figures.share ≡ t.share
  pub numbers : (k : ℕ) → k < t.count → (task_of figures.tasks k).numbers ≡ task_numbers (record_at t.records k)

module _ (figures : Figures) (t : Table) (is : Figured figures t) (few : t.count ≤ 8) (sized : (k : ℕ) → k < t.count → Sized (record_at t.records k)) (interval : t.interval < 65536) (round : t.round < 65536) (share : t.share < 65536) where
  all : min figures.count 8 ≡ t.count
  all = omega (arith, is.count)

  first-least : least_first figures ≤ 1
  unfolding least_first
  first-least = omega (arith, down-least figures.interval (omega (arith, is.interval)), up_least figures.round (omega (arith, is.round)), up_least figures.share (omega (arith, is.share)))

  first_some : 1 ≤ least_first figures
  unfolding least_first least_down
  first_some = omega arith

  least-scale : least_scale figures ≡ 1
  unfolding least_scale
  least-scale =
      let tasks = figures.tasks in
      let least = least-one tasks t.records t.count is.numbers sized (least_first figures) t.count (omega arith) first-least in
      let kept = least_kept tasks t.records t.count is.numbers sized (least_first figures) t.count in
      simp (all, none-high tasks t.records t.count is.numbers sized t.count (omega arith)) (omega (arith, least, kept, first_some))

  share-one : share_scale figures 1 ≡ 1
  unfolding share_scale
  share-one = go (is_whole figures.round figures.share)
    where
      go : (whole : Bool) → ◌≡◌ {A = ℕ} (cond whole 1 1) 1
      go true = refl
      go false = refl

  table-again : scaled_table figures 1 ≡ cleared t
  unfolding scaled_table cleared
  table-again =
      let records = records-again figures.tasks t.records t.count is.numbers sized t.count (omega arith) in
      let eight : min t.count 8 ≡ t.count = omega arith in
      simp (eight, records, share-one, div-one, is.count, is.interval, is.round, is.share, within t.interval interval, within t.round round, within t.share share)

  -- at a scale of 1 they are the table
  pub scaled-again : table_refusal (cleared t) ≡ 0 → scaled_by figures 1 ≡ record { refusal = 0; least = 0; table = cleared t }
  unfolding scaled_by scaled_fit divides judged
  scaled-again good = simp (least-scale, share-one, mod-one, table-again, good)
