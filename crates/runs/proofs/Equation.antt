-- The assured equation over a sheet's records, and the same by place in its machine, where a task stands at the place of its priority. Assumes nothing.
use Prim.Native.Nat.{ℕ, ◌+◌, ◌*◌, ◌≤◌, ◌<◌}
use mathlib.Core.Path.{◌≡◌, refl, sym, ap, ap₂, subst, ◌∙◌}
use mathlib.Core.Bool.{Bool, true, false, cond, or-false}
use mathlib.Core.Logic.{◌⊎◌, inl, inr}
use mathlib.Core.List.{List}
use native.Mathlib.Nat.{mul-zero, mul-le-mul_right, one-mul}
use native.Mathlib.Decide.{dec_lt}
use native.Mathlib.Omega.{arith}
use borrow.Author.Tests.{ne_eqb}
use lib.Dec.{ltb}
use Rattle.places.specs.Places.{sum_below}
use Rattle.places.proofs.Onto.{Numbering, onto}
use Rattle.places.proofs.Summed.{sum_one}
use Rattle.places.proofs.Gathered.{sum-reordered, sum-until}
use Rattle.sheet.specs.declared.Record.{Record}
use Rattle.sheet.specs.declared.Table.{Table}
use Rattle.sheet.specs.Layout.{record_at, table_of}
use Rattle.sheet.specs.Rules.{taken, sheet_refusal}
use Rattle.sheet.proofs.Cases.{Good, GoodTable, good-table, good-at}
use Rattle.sheet.proofs.Demands.{table-good}
use Rattle.sheet.proofs.Ranks.{ranked}
use Rattle.analysis.specs.Common.Supplier.{supplier_of}
use Rattle.analysis.specs.Common.Rounding.{up}
use Rattle.analysis.specs.Common.Tasks.{Tasks}
use Rattle.analysis.specs.Common.Backups.{others}
use Rattle.analysis.specs.Common.Entries.{own_tasks}
use Rattle.analysis.specs.Assured.Equation.{asked_assured, is_over, backup_ahead, assured_equation}
use Rattle.analysis.proofs.Laws.Common.Rounding.{up_least}
use Rattle.analysis.proofs.Laws.Common.Choice.{own_at}
use Rattle.analysis.proofs.Laws.Assured.Raised.{ahead-most}
use Rattle.replay.specs.declared.Cell.{Cell}
use Rattle.replay.specs.Ticks.Runner.{priority_of}
use Rattle.replay.specs.Ticks.Step.{released, struck}
use Rattle.replay.specs.Ticks.Machines.{machine_of}
use Rattle.replay.proofs.OfTicks.Started.{task-none, task-of-sheet}
use Rattle.runs.specs.Ticks.{place_of}
use Rattle.runs.proofs.Counting.{counts, Counts, own, higher, beside, counts-why}
use Rattle.runs.proofs.Window.{most, Enough}

module _ (sheet : List ℕ) (good : sheet_refusal sheet ≡ 0) where
  abbrev table : Table
  table = table_of sheet

  -- the sheet's records, with their own fault priorities
  abbrev pub sheet_tasks : Tasks
  sheet_tasks = own_tasks table

  abbrev records : ℕ → Record
  records = record_at table.records

  -- the machine's tasks
  abbrev pub place_tasks : ℕ → Record
  place_tasks = record_at (machine_of table).tasks

  known : GoodTable table
  known = good-table table (table-good sheet good)

  pub record-good : (k : ℕ) → k < table.count → Good table.count (taken records k (records k).priority) (records k)
  record-good = good-at table.count records known.records

  -- the records by their places in the machine
  pub places : Numbering table.count (place_of table)
  places =
      record {
        within = λ k below. omega (arith, (record-good k below).priority);
        apart = λ j k a b e. (ranked table.count records known.records).apart j k a b (omega (arith, (record-good j a).priority, (record-good k b).priority));
      }

  -- at its place the machine has the record
  pub placed : (k : ℕ) → k < table.count → place_tasks (place_of table k) ≡ records k
  placed k below =
      let here = places.within k below in
      let found = task-of-sheet sheet good (place_of table k) here in
      let same : place_of table found.at ≡ place_of table k = omega (arith, ap (λ (r : Record). r.priority) found.same, found.priority) in
      found.same ∙ ap records (places.apart found.at k found.below below same)

  -- its fault priority is the sheet's
  pub fault-own : (k : ℕ) → k < table.count → sheet_tasks.fault k ≡ (records k).fault_priority
  fault-own k below = own_at table k below known.count.1

  -- no fault priority is above the priority
  pub faults-under : (place : ℕ) → (place_tasks place).fault_priority ≤ place + 1
  faults-under place = go (dec_lt place table.count)
    where
      go : Dec (place < table.count) → (place_tasks place).fault_priority ≤ place + 1
      go (yes below) =
          let found = task-of-sheet sheet good place below in
          omega (arith, (record-good found.at found.below).fault, ap (λ (r : Record). r.fault_priority) found.same, ap (λ (r : Record). r.priority) found.same, found.priority)
      go (no past) = rw (task-none sheet good place (omega arith)) (omega arith)

  -- For the record j, at its place
  module _ (j : ℕ) (low-j : j < table.count) where
    abbrev place-j : ℕ
    place-j = place_of table j

    fault-j : (place_tasks place-j).fault_priority ≡ sheet_tasks.fault j
    fault-j = ap (λ (r : Record). r.fault_priority) (placed j low-j) ∙ sym (fault-own j low-j)

    -- what a task asks for by place, if its first attempts count
    abbrev asks : ℕ → ℕ → ℕ
    asks L place = cond (counts place_tasks place-j place (released (place_tasks place))) (up L (place_tasks place).period * (place_tasks place).cost) 0

    -- the first attempts of another record count exactly if its priority is above q of j
    over-counts : (k : ℕ) → k < table.count → (k ≡ j → ⊥) → counts place_tasks place-j (place_of table k) (released (place_tasks (place_of table k))) ≡ is_over sheet_tasks j (sheet_tasks.fault j) k
    unfolding counts priority_of is_over others
    over-counts k below apart =
        let other : place_of table k ≡ place-j → ⊥ = λ e. apart (places.apart k j below low-j e) in
        let above : place_of table k + 1 ≡ (records k).priority = omega (arith, (record-good k below).priority) in
        simp (ne_eqb (place_of table k) place-j other, ne_eqb k j apart)
        (or-false (ltb (place_tasks place-j).fault_priority (place_of table k + 1)) ∙ ap₂ ltb fault-j above)

    -- all that is asked for in L ticks, by place, is at most what the equation has beside the backups
    most-assured : (L : ℕ) → L ≤ (records j).deadline → 1 ≤ L
        → most place_tasks table.interval place-j L ≤ sum_below (λ k. cond (is_over sheet_tasks j (sheet_tasks.fault j) k) (up L (records k).period * (records k).cost) 0) table.count + (records j).cost
    unfolding most
    most-assured L timely some =
        let until : sum_below (asks L) 8 ≡ sum_below (asks L) table.count = sum-until (asks L) (asks L) table.count 8 known.count.1 (λ k low. refl) (λ k past low. nothing k past) in
        let reordered = sum-reordered table.count (place_of table) places (asks L) in
        let one = sum_one (λ k. asks L (place_of table k)) (λ k. cond (is_over sheet_tasks j (sheet_tasks.fault j) k) (up L (records k).period * (records k).cost) 0) 0 (records j).cost j table.count low-j other here in
        omega (arith, until, reordered, one)
      where
        nothing : (place : ℕ) → table.count ≤ place → asks L place ≡ 0
        nothing place past = go (counts place_tasks place-j place (released (place_tasks place)))
          where
            go : (b : Bool) → cond b (up L (place_tasks place).period * (place_tasks place).cost) 0 ≡ 0
            go true = rw (task-none sheet good place past) (mul-zero (up L 0))
            go false = refl

        other : (k : ℕ) → k < table.count → (k ≡ j → ⊥) → asks L (place_of table k) ≡ cond (is_over sheet_tasks j (sheet_tasks.fault j) k) (up L (records k).period * (records k).cost) 0
        other k below apart = ap₂ (λ (b : Bool) (r : Record). cond b (up L r.period * r.cost) 0) (over-counts k below apart) (placed k below)

        here : asks L place-j + 0 ≤ cond (is_over sheet_tasks j (sheet_tasks.fault j) j) (up L (records j).period * (records j).cost) 0 + (records j).cost
        here = go (counts place_tasks place-j place-j (released (place_tasks place-j)))
          where
            once : up L (records j).period * (records j).cost ≤ (records j).cost
            once =
                let single : up L (records j).period ≤ 1 = up_least L (records j).period (omega (arith, (record-good j low-j).deadline)) 1 (omega (arith, (record-good j low-j).deadline)) in
                omega (arith, mul-le-mul_right (records j).cost single, one-mul (records j).cost)

            go : (b : Bool) → cond b (up L (place_tasks place-j).period * (place_tasks place-j).cost) 0 + 0 ≤ cond (is_over sheet_tasks j (sheet_tasks.fault j) j) (up L (records j).period * (records j).cost) 0 + (records j).cost
            go true = rw (placed j low-j) (omega (arith, once))
            go false = omega arith

    -- N covers each backup that counts
    covers-assured : (place : ℕ) → place < 8 → (job : Cell) → counts place_tasks place-j place (struck (place_tasks place) job) ≡ true → (place_tasks place).backup ≤ backup_ahead sheet_tasks j
    unfolding priority_of
    covers-assured place below job e = go (dec_lt place table.count)
      where
        go : Dec (place < table.count) → (place_tasks place).backup ≤ backup_ahead sheet_tasks j
        go (no past) = rw (task-none sheet good place (omega arith)) (omega arith)
        go (yes low) =
            let found = onto table.count (place_of table) places place low in
            let task : place_tasks place ≡ records found.0 = ap place_tasks (sym found.2) ∙ placed found.0 found.1 in
            subst (λ (r : Record). r.backup ≤ backup_ahead sheet_tasks j) (sym task)
            (ahead-most sheet_tasks j found.0 found.1 (why found (ap (λ (r : Record). r.fault_priority) task ∙ sym (fault-own found.0 found.1)) (counts-why place_tasks place-j place (struck (place_tasks place) job) e)))
          where
            why : (found : (k : ℕ) × (k < table.count) × (place_of table k ≡ place)) → (place_tasks place).fault_priority ≡ sheet_tasks.fault found.0 → Counts place_tasks place-j place (struck (place_tasks place) job)
                → (found.0 ≡ j) ⊎ ((sheet_tasks.fault j < sheet_tasks.fault found.0) ⊎ ((sheet_tasks.fault found.0 ≡ sheet_tasks.fault j) × ((records j).priority < (records found.0).priority)))
            why found fault (own e) = inl (places.apart found.0 j found.1 low-j (found.2 ∙ e))
            why found fault (higher h) = inr (inl (omega (arith, fault, fault-j)))
            why found fault (beside one l r) = inr (inr (omega (arith, fault, fault-j), omega (arith, found.2, (record-good found.0 found.1).priority)))

    -- a length that is at least what the equation asks for, and within the deadline, is enough by place
    pub enough-assured : (L : ℕ) → assured_equation sheet_tasks j L ≤ L → L ≤ (records j).deadline → Enough place_tasks table.interval place-j (backup_ahead sheet_tasks j) L
    unfolding asked_assured is_over supplier_of assured_equation
    enough-assured L fits timely =
        let some : 1 ≤ L = omega (arith, (record-good j low-j).cost) in
        record {
          here = omega (arith, (record-good j low-j).priority, known.count);
          some = some;
          timely = rw (placed j low-j) timely;
          fits = omega (arith, fits, most-assured L timely some);
          covers = covers-assured;
        }
