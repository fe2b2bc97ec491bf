-- What holds with a value holds with every easier one, whatever is changed. Assumes nothing.
use Prim.Native.Nat.{ℕ, ◌*◌, ◌≤◌, ◌<◌}
use mathlib.Core.Path.{◌≡◌, refl, sym, subst}
use mathlib.Core.Bool.{Bool, true, false, cond}
use native.Mathlib.Nat.{le_refl, mul-le-mul, mul-le-mul_left}
use native.Mathlib.Omega.{arith}
use borrow.Author.Tests.{eqb-true}
use lib.Dec.{eqb}
use Rattle.sheet.specs.declared.Record.{Record}
use Rattle.sheet.specs.declared.Table.{Table}
use Rattle.sheet.specs.Layout.{record_at, room}
use Rattle.sheet.specs.Rules.{table_refusal}
use Rattle.sheet.proofs.Agree.{room_at}
use Rattle.sheet.proofs.Cases.{good-table, good-at}
use Rattle.analysis.specs.declared.Rule.{Rule}
use Rattle.analysis.proofs.Laws.Common.Rounding.{up-rises, up-some}
use Rattle.analysis.proofs.Laws.Eased.{EasedTask}
use Rattle.margins.specs.declared.Field.{Field}
use Rattle.margins.specs.declared.Field.TheVariants.{Cost, Backup, Deadline, Period}
use Rattle.margins.specs.declared.changing.Change.{Change}
use Rattle.margins.specs.declared.changing.Change.TheVariants.{One, All}
use Rattle.margins.specs.Changes.{with_value, grown, changed_at, changed}
use Rattle.margins.specs.Margins.{holds_with, least_field, asks_least, last_field, last_of}
use Rattle.margins.proofs.Tables.{EasedRecord, EasedTable, holds-eased}

-- a value is easier than another: where the largest is asked for it is no larger and at least 1, where the least is it is no smaller and at most the last
abbrev pub EasierValue : Bool → ℕ → ℕ → ℕ → Type 0
EasierValue least last hard easy = cond least ((hard ≤ easy) × (easy ≤ last)) ((1 ≤ easy) × (easy ≤ hard))

-- a good record as it stands
pub record Sound (r : Record) : Type 0 where
  pub cost : (1 ≤ r.cost) × (r.cost ≤ r.deadline)
  pub backup : (1 ≤ r.backup) × (r.backup ≤ r.deadline)
  pub deadline : r.deadline ≤ r.period

pub sound-at : (t : Table) → table_refusal t ≡ 0 → (k : ℕ) → k < t.count → Sound (record_at t.records k)
sound-at t good k below =
    let g = good-at t.count (record_at t.records) (good-table t good).records k below in
    record { cost = g.cost; backup = g.backup; deadline = g.deadline }

-- the same record is eased
same-task : (r : Record) → EasedTask r r
same-task r = record { cost = le_refl _; backup = le_refl _; deadline = le_refl _; period = le_refl _; priority = refl }

same-eased : (r : Record) → Sound r → EasedRecord r r
same-eased r s = record { task = same-task r; cost = s.cost.0; backup = s.backup.0; deadline = s.deadline; fault = refl }

-- a figure that grows: some, and no larger by a smaller factor
grown-some : (factor figure : ℕ) → 1 ≤ figure → 1 ≤ factor → 1 ≤ grown factor figure
unfolding grown
grown-some factor figure a b = up-some (figure * factor) 1000 (omega arith) (mul-le-mul a b)

grown-rises : (figure : ℕ) {small large : ℕ} → small ≤ large → grown small figure ≤ grown large figure
unfolding grown
grown-rises figure less = up-rises 1000 (mul-le-mul_left figure less)

-- a field set to an easier value, in a record that is good, and good with the harder one
module _ (r : Record) (s : Sound r) (hard easy : ℕ) where
  value-eased : (field : Field) → Sound (with_value field hard r) → EasierValue (least_field field) (last_field field r) hard easy → EasedRecord (with_value field hard r) (with_value field easy r)
  unfolding with_value least_field last_field
  value-eased Cost h e =
      record {
        task = record { cost = e.1; backup = le_refl _; deadline = le_refl _; period = le_refl _; priority = refl };
        cost = e.0;
        backup = s.backup.0;
        deadline = s.deadline;
        fault = refl;
      }
  value-eased Backup h e =
      record {
        task = record { cost = le_refl _; backup = e.1; deadline = le_refl _; period = le_refl _; priority = refl };
        cost = s.cost.0;
        backup = e.0;
        deadline = s.deadline;
        fault = refl;
      }
  value-eased Deadline h e =
      record {
        task = record { cost = le_refl _; backup = le_refl _; deadline = e.0; period = le_refl _; priority = refl };
        cost = s.cost.0;
        backup = s.backup.0;
        deadline = e.1;
        fault = refl;
      }
  value-eased Period h e =
      record {
        task = record { cost = le_refl _; backup = le_refl _; deadline = le_refl _; period = e.0; priority = refl };
        cost = s.cost.0;
        backup = s.backup.0;
        deadline = omega (arith, h.deadline, e.0);
        fault = refl;
      }

module _ (t : Table) (good : table_refusal t ≡ 0) (hard easy : ℕ) where
  -- each record is eased where the table with the harder value is good
  each-eased : (change : Change) → EasierValue (asks_least change) (last_of t change) hard easy
      → (k : ℕ) → k < t.count → Sound (changed_at change hard k (record_at t.records k)) → EasedRecord (changed_at change hard k (record_at t.records k)) (changed_at change easy k (record_at t.records k))
  unfolding changed_at asks_least last_of
  each-eased (One field place) easier k below sound = go (eqb k place) refl sound
    where
      go : (b : Bool) → eqb k place ≡ b → Sound (cond b (with_value field hard (record_at t.records k)) (record_at t.records k))
          → EasedRecord (cond b (with_value field hard (record_at t.records k)) (record_at t.records k)) (cond b (with_value field easy (record_at t.records k)) (record_at t.records k))
      go true e h =
          value-eased (record_at t.records k) (sound-at t good k below) hard easy field h
          (subst (λ (j : ℕ). EasierValue (least_field field) (last_field field (record_at t.records j)) hard easy) (sym (eqb-true k place e)) easier)
      go false e h = same-eased (record_at t.records k) h
  each-eased All easier k below sound =
      let s = sound-at t good k below in
      record {
        task = record { cost = grown-rises (record_at t.records k).cost easier.1; backup = grown-rises (record_at t.records k).backup easier.1; deadline = le_refl _; period = le_refl _; priority = refl };
        cost = grown-some easy (record_at t.records k).cost s.cost.0 easier.0;
        backup = grown-some easy (record_at t.records k).backup s.backup.0 easier.0;
        deadline = s.deadline;
        fault = refl;
      }

  module _ (change : Change) (easier : EasierValue (asks_least change) (last_of t change) hard easy) where
    abbrev harder : ℕ → Record
    harder k = changed_at change hard k (record_at t.records k)

    abbrev easiest : ℕ → Record
    easiest k = changed_at change easy k (record_at t.records k)

    table-eased : EasedTable (changed change hard t) (changed change easy t)
    unfolding changed
    table-eased =
        record {
          count = refl;
          interval = refl;
          round = refl;
          share = refl;
          each = λ fine k below.
              let few = (good-table t good).count.1 in
              let old = room_at harder t.count few k below in
              let new = room_at easiest t.count few k below in
              let sound = subst Sound old (sound-at _ fine k below) in
              subst (λ (r : Record). EasedRecord r (record_at (room easiest t.count) k)) (sym old)
              (subst (λ (r : Record). EasedRecord (harder k) r) (sym new) (each-eased change easier k below sound));
        }

    -- what holds with a value holds with every easier one
    pub holds_kept : (rule : Rule) → holds_with rule t change hard ≡ true → holds_with rule t change easy ≡ true
    unfolding holds_with
    holds_kept rule = holds-eased rule (changed change hard t) (changed change easy t) table-eased
