-- The demands on margins in the issue's words: a value holds exactly if it is no further than the margin, there is none exactly where no value holds, and no value is left out. Assumes nothing.
use Prim.Native.Nat.{ℕ, suc, ◌≤◌, ◌<◌}
use mathlib.Core.Path.{◌≡◌, refl, sym, ◌∙◌, subst}
use mathlib.Core.Bool.{Bool, true, false, true≢false, cond}
use mathlib.Core.Logic.{◌↔◌}
use native.Mathlib.Decide.{dec_le}
use native.Mathlib.Omega.{arith}
use borrow.Author.Tests.{eq-eqb}
use Rattle.places.specs.Search.{first_from}
use Rattle.places.proofs.Search.{Says, first_says}
use Rattle.sheet.specs.declared.Table.{Table}
use Rattle.sheet.specs.Layout.{record_at}
use Rattle.sheet.proofs.Cases.{good-table}
use Rattle.analysis.specs.declared.Rule.{Rule}
use Rattle.analysis.specs.ByRule.{rule_refusal}
use Rattle.analysis.proofs.Laws.ByRule.{rule-good}
use Rattle.margins.specs.declared.Field.{Field}
use Rattle.margins.specs.declared.Field.TheVariants.{Cost, Backup, Deadline, Period}
use Rattle.margins.specs.declared.changing.Change.{Change}
use Rattle.margins.specs.declared.changing.Change.TheVariants.{One}
use Rattle.margins.specs.Changes.{with_value, changed_at}
use Rattle.margins.specs.Margins.{holds_with, asks_least, last_field, last_of, last_from, margin_of}
use Rattle.margins.proofs.Last.{LastSays, last_says}
use Rattle.margins.proofs.Tables.{both_hold}
use Rattle.margins.proofs.Kept.{EasierValue, Sound, holds_kept}
use Rattle.margins.proofs.Fitting.{sound-changed}

-- what a margin says of the values tried: it is 0 and none holds, or it holds and none further does
pub data MarginSays (least : Bool) (test : ℕ → Bool) (last : ℕ) : ℕ → Type 0 where
  none : ((value : ℕ) → 1 ≤ value → value ≤ last → test value ≡ false) → MarginSays least test last 0
  found : {m : ℕ} → 1 ≤ m → m ≤ last → test m ≡ true → ((value : ℕ) → 1 ≤ value → value ≤ last → cond least (value < m) (m < value) → test value ≡ false) → MarginSays least test last m

module _ (rule : Rule) (t : Table) (change : Change) where
  pub margin-says : MarginSays (asks_least change) (holds_with rule t change) (last_of t change) (margin_of rule t change)
  unfolding margin_of
  margin-says = go (asks_least change)
    where
      first : {m : ℕ} → Says (holds_with rule t change) 1 (last_of t change) m → MarginSays true (holds_with rule t change) (last_of t change) m
      first (Says.none fails) = none (λ value low high. fails value low (omega arith))
      first (Says.found {k = m} low high fails holds) = found {m = m} low (omega arith) holds (λ value from to less. fails value from less)

      last : {m : ℕ} → LastSays (holds_with rule t change) 1 (last_of t change) m → MarginSays false (holds_with rule t change) (last_of t change) m
      last (LastSays.none fails) = none (λ value low high. fails value low (omega arith))
      last (LastSays.found {k = m} low high holds fails) = found {m = m} low (omega arith) holds (λ value from to less. fails value less (omega arith))

      go : (b : Bool) → MarginSays b (holds_with rule t change) (last_of t change) (cond b (first_from (holds_with rule t change) 1 (last_of t change)) (last_from (holds_with rule t change) 1 (last_of t change)))
      go true = first (first_says (holds_with rule t change) (last_of t change) 1)
      go false = last (last_says (holds_with rule t change) (last_of t change) 1)

  -- "with which the sheet still passes": the margin is one of the values tried, and the table holds with it
  pub margin-holds : 1 ≤ margin_of rule t change → (margin_of rule t change ≤ last_of t change) × (holds_with rule t change (margin_of rule t change) ≡ true)
  margin-holds some = go margin-says some
    where
      go : {m : ℕ} → MarginSays (asks_least change) (holds_with rule t change) (last_of t change) m → 1 ≤ m → (m ≤ last_of t change) × (holds_with rule t change m ≡ true)
      go (none fails) h = absurd (omega arith)
      go (found low high holds past) h = (high, holds)

  -- "None where no value does"
  pub none-exactly : (margin_of rule t change ≡ 0) ↔ ((value : ℕ) → 1 ≤ value → value ≤ last_of t change → holds_with rule t change value ≡ false)
  none-exactly = (λ e. forth margin-says e, λ fails. back margin-says fails)
    where
      forth : {m : ℕ} → MarginSays (asks_least change) (holds_with rule t change) (last_of t change) m → m ≡ 0 → (value : ℕ) → 1 ≤ value → value ≤ last_of t change → holds_with rule t change value ≡ false
      forth (none fails) e value low high = fails value low high
      forth (found low high holds past) e value from to = absurd (omega arith)

      back : {m : ℕ} → MarginSays (asks_least change) (holds_with rule t change) (last_of t change) m → ((value : ℕ) → 1 ≤ value → value ≤ last_of t change → holds_with rule t change value ≡ false) → m ≡ 0
      back (none fails) each = refl
      back (found {m = m} low high holds past) each = absurd (true≢false (sym holds ∙ each m low high))

  -- "largest, or least, exactly (each value up to it passes, none beyond does)": of the values tried, the table holds with those that are no further than the margin, and with no other
  pub margin-exactly : rule_refusal rule t ≡ 0 → (value : ℕ) → 1 ≤ value → value ≤ last_of t change
      → (holds_with rule t change value ≡ true) ↔ ((1 ≤ margin_of rule t change) × cond (asks_least change) (margin_of rule t change ≤ value) (value ≤ margin_of rule t change))
  margin-exactly good value low high = (forth margin-says, back)
    where
      no-further : (b : Bool) (m : ℕ) → (cond b (value < m) (m < value) → holds_with rule t change value ≡ false) → holds_with rule t change value ≡ true → cond b (m ≤ value) (value ≤ m)
      no-further true m past is = go (dec_le m value)
        where
          go : Dec (m ≤ value) → m ≤ value
          go (yes h) = h
          go (no h) = absurd (true≢false (sym is ∙ past (omega arith)))
      no-further false m past is = go (dec_le value m)
        where
          go : Dec (value ≤ m) → value ≤ m
          go (yes h) = h
          go (no h) = absurd (true≢false (sym is ∙ past (omega arith)))

      forth : {m : ℕ} → MarginSays (asks_least change) (holds_with rule t change) (last_of t change) m → holds_with rule t change value ≡ true → (1 ≤ m) × cond (asks_least change) (m ≤ value) (value ≤ m)
      forth (none fails) is = absurd (true≢false (sym is ∙ fails value low high))
      forth (found {m = m} some to holds past) is = (some, no-further (asks_least change) m (past value low high) is)

      easier : (b : Bool) (m : ℕ) → cond b (m ≤ value) (value ≤ m) → EasierValue b (last_of t change) m value
      easier true m h = (h, high)
      easier false m h = (low, h)

      back : (1 ≤ margin_of rule t change) × cond (asks_least change) (margin_of rule t change ≤ value) (value ≤ margin_of rule t change) → holds_with rule t change value ≡ true
      back w = holds_kept t (rule-good rule t good) (margin_of rule t change) value change (easier (asks_least change) (margin_of rule t change) w.1) rule (margin-holds w.0).1

  -- so a value with which it holds, next to one with which it does not, is the margin
  pub margin-is : rule_refusal rule t ≡ 0 → (value next : ℕ) → (1 ≤ value) × (value ≤ last_of t change) → (1 ≤ next) × (next ≤ last_of t change) → cond (asks_least change) (value ≡ suc next) (next ≡ suc value)
      → holds_with rule t change value ≡ true → holds_with rule t change next ≡ false → margin_of rule t change ≡ value
  margin-is good value next tried beyond beside is missed =
      go (asks_least change) beside ((margin-exactly good value tried.0 tried.1).0 is).1
      (λ far. true≢false (sym ((margin-exactly good next beyond.0 beyond.1).1 (((margin-exactly good value tried.0 tried.1).0 is).0, far)) ∙ missed))
    where
      go : (b : Bool) → cond b (value ≡ suc next) (next ≡ suc value) → cond b (margin_of rule t change ≤ value) (value ≤ margin_of rule t change) → (cond b (margin_of rule t change ≤ next) (next ≤ margin_of rule t change) → ⊥) → margin_of rule t change ≡ value
      go true same near far =
          let short : margin_of rule t change ≤ next → ⊥ = far in
          omega arith
      go false same near far =
          let short : next ≤ margin_of rule t change → ⊥ = far in
          omega arith

-- a value that a field has room for is one of those tried, where the table holds with it: "the sheet still good"
pub tried-field : (rule : Rule) (t : Table) → rule_refusal rule t ≡ 0 → (field : Field) (place : ℕ) → place < t.count → (value : ℕ) → value ≤ 65535
    → holds_with rule t (One field place) value ≡ true → (1 ≤ value) × (value ≤ last_of t (One field place))
unfolding holds_with last_of last_field changed_at with_value
tried-field rule t good field place here value room is =
    go field (subst Sound (simp (eq-eqb place place refl)) (sound-changed t few (One field place) value (rule-good rule _ (both_hold rule _ is).0) place here))
  where
    few : t.count ≤ 8
    few = (good-table t (rule-good rule t good)).count.1

    go : (f : Field) → Sound (with_value f value (record_at t.records place)) → (1 ≤ value) × (value ≤ last_field f (record_at t.records place))
    go Cost s = s.cost
    go Backup s = s.backup
    go Deadline s = (omega (arith, s.cost), s.deadline)
    go Period s = (omega (arith, s.cost, s.deadline), room)
