-- The change as the code makes it holds exactly where the change does: a figure that grows past its deadline is refused, and so is the 0 in its place. Assumes nothing.
use Prim.Native.Nat.{ℕ, ◌≤◌, ◌<◌}
use mathlib.Core.Path.{◌≡◌, refl, sym, ap, ap₂, ◌∙◌, subst}
use mathlib.Core.Bool.{Bool, true, false, cond}
use mathlib.Core.List.{List}
use native.Mathlib.Omega.{arith}
use borrow.Author.Tests.{le-leb, eq-eqb, ne_eqb}
use lib.Dec.{eqb, leb}
use Rattle.std.specs.Prelude.{Ok, Err}
use Rattle.std.specs.Result.{result_unwrap_or}
use Rattle.places.specs.Answered.{numbered, answered}
use Rattle.sheet.specs.declared.Record.{Record}
use Rattle.sheet.specs.declared.Table.{Table}
use Rattle.sheet.specs.Layout.{record_at}
use Rattle.sheet.specs.Rules.{table_refusal}
use Rattle.sheet.proofs.Agree.{room_at, room-agree}
use Rattle.analysis.specs.declared.Rule.{Rule}
use Rattle.analysis.specs.Common.Tasks.{own_choice}
use Rattle.analysis.specs.Common.Entries.{own_tasks, verdict_of}
use Rattle.analysis.specs.ByRule.{meets, judged_refusal, meets_answer, own_meets}
use Rattle.analysis.proofs.Laws.ByRule.{rule-good, own-judged}
use Rattle.margins.specs.declared.Field.{Field}
use Rattle.margins.specs.declared.changing.Change.{Change}
use Rattle.margins.specs.declared.changing.Change.TheVariants.{One, All}
use Rattle.margins.specs.Changes.{with_value, with_figures, grown, changed_at, remade, changed}
use Rattle.margins.specs.Margins.{holds, holds_with}
use Rattle.margins.specs.Fitted.{fitted, fitted_at, fitted_to}
use Rattle.margins.proofs.Tables.{both_hold}
use Rattle.margins.proofs.Kept.{Sound, sound-at}

-- a figure that is some, or within its limit, is what it is to be
fitted-some : (factor limit figure : ℕ) → 1 ≤ fitted factor limit figure → fitted factor limit figure ≡ grown factor figure
unfolding fitted
fitted-some factor limit figure = go (leb (grown factor figure) limit)
  where
    go : (b : Bool) → 1 ≤ cond b (grown factor figure) 0 → cond b (grown factor figure) 0 ≡ grown factor figure
    go true h = refl
    go false h = absurd (omega arith)

fitted-within : (factor limit figure : ℕ) → grown factor figure ≤ limit → fitted factor limit figure ≡ grown factor figure
unfolding fitted
fitted-within factor limit figure low = simp (le-leb (grown factor figure) limit low)

-- so a record that is good either way is the same both ways
module _ (value k : ℕ) (r : Record) where
  record-fitted : (change : Change) → Sound (fitted_at change value k r) → fitted_at change value k r ≡ changed_at change value k r
  unfolding fitted_at changed_at
  record-fitted (One field place) s = refl
  record-fitted All s =
      ap₂ (λ (cost backup : ℕ). with_figures cost backup r) (fitted-some value r.deadline r.cost s.cost.0) (fitted-some value r.deadline r.backup s.backup.0)

  record-changed : (change : Change) → Sound (changed_at change value k r) → fitted_at change value k r ≡ changed_at change value k r
  unfolding fitted_at changed_at
  record-changed (One field place) s = refl
  record-changed All s =
      ap₂ (λ (cost backup : ℕ). with_figures cost backup r) (fitted-within value r.deadline r.cost s.cost.1) (fitted-within value r.deadline r.backup s.backup.1)

-- two tests that each follow from the other
alike : (a b : Bool) → (a ≡ true → b ≡ true) → (b ≡ true → a ≡ true) → a ≡ b
alike true b f g = sym (f refl)
alike false true f g = g refl
alike false false f g = refl

-- the records of a table that is made anew and good are
remade-sound : (t : Table) → t.count ≤ 8 → (at : ℕ → Record) → table_refusal (remade t at) ≡ 0 → (k : ℕ) → k < t.count → Sound (at k)
remade-sound t few at good k below = subst Sound (room_at at t.count few k below) (sound-at (remade t at) good k below)

module _ (t : Table) (few : t.count ≤ 8) (change : Change) (value : ℕ) where
  -- tables whose records are the same are
  tables-same : ((k : ℕ) → k < t.count → fitted_at change value k (record_at t.records k) ≡ changed_at change value k (record_at t.records k)) → fitted_to change value t ≡ changed change value t
  unfolding fitted_to changed
  tables-same each =
      ap (λ (l : List Record). record { count = t.count; interval = t.interval; round = t.round; share = t.share; records = l }) (room-agree t.count each)

  -- the records of either table, where it is good, are
  sound-fitted : table_refusal (fitted_to change value t) ≡ 0 → (k : ℕ) → k < t.count → Sound (fitted_at change value k (record_at t.records k))
  unfolding fitted_to
  sound-fitted = remade-sound t few (λ place. fitted_at change value place (record_at t.records place))

  pub sound-changed : table_refusal (changed change value t) ≡ 0 → (k : ℕ) → k < t.count → Sound (changed_at change value k (record_at t.records k))
  unfolding changed
  sound-changed = remade-sound t few (λ place. changed_at change value place (record_at t.records place))

  -- so that the one holds exactly if the other does
  pub holds-fitted : (rule : Rule) → holds rule (fitted_to change value t) ≡ holds_with rule t change value
  unfolding holds_with
  holds-fitted rule = alike _ _ forth back
    where
      forth : holds rule (fitted_to change value t) ≡ true → holds rule (changed change value t) ≡ true
      forth is =
          let each = sound-fitted (rule-good rule _ (both_hold rule _ is).0) in
          ap (holds rule) (sym (tables-same (λ k below. record-fitted value k (record_at t.records k) change (each k below)))) ∙ is

      back : holds rule (changed change value t) ≡ true → holds rule (fitted_to change value t) ≡ true
      back is =
          let each = sound-changed (rule-good rule _ (both_hold rule _ is).0) in
          ap (holds rule) (tables-same (λ k below. record-changed value k (record_at t.records k) change (each k below))) ∙ is

-- what is made of the record at the place that is changed, and at another
pub fitted-there : (field : Field) (value k there : ℕ) (r : Record) → k ≡ there → fitted_at (One field there) value k r ≡ with_value field value r
unfolding fitted_at
fitted-there field value k there r same = rw (eq-eqb k there same) refl

pub fitted-other : (field : Field) (value k there : ℕ) (r : Record) → (k ≡ there → ⊥) → fitted_at (One field there) value k r ≡ r
unfolding fitted_at
fitted-other field value k there r other = rw (ne_eqb k there other) refl

-- the verdict of a table is whether it is good and meets the rule
pub verdict : (rule : Rule) (t : Table) → (own_meets rule t).yes ≡ holds rule t
unfolding own_meets meets_answer verdict_of holds
verdict rule t = ap (λ (r : ℕ). cond (eqb r 0) (meets rule (own_tasks t)) false) (own-judged rule t)

-- and a refused table has none
pub told-verdict : (rule : Rule) (t : Table) → result_unwrap_or (answered (own_meets rule t).refusal (own_meets rule t).yes) false ≡ (own_meets rule t).yes
unfolding own_meets meets_answer verdict_of answered
told-verdict rule t = go (eqb (judged_refusal rule t (own_choice t)) 0)
  where
    go : (fine : Bool) → result_unwrap_or (cond fine (Ok (cond fine (meets rule (own_tasks t)) false)) (Err (numbered (judged_refusal rule t (own_choice t))))) false ≡ cond fine (meets rule (own_tasks t)) false
    go true = refl
    go false = refl
