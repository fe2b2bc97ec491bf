-- The steps of the search, from the easiest value to the hardest: where the table does not hold at a step it does not at a later one, and where it turns is the margin. Assumes nothing.
use Prim.Native.Nat.{ℕ, suc, ◌+◌, ◌-◌, ◌≤◌, ◌<◌}
use mathlib.Core.Path.{◌≡◌, refl, sym, ap, ◌∙◌}
use mathlib.Core.Bool.{Bool, true, false, true≢false, cond, not}
use native.Mathlib.Omega.{arith}
use borrow.Author.Tests.{not-true, not-false}
use lib.Dec.{eqb}
use Rattle.std.specs.Prelude.{Some, None, Ok, Err}
use Rattle.places.specs.Answered.{numbered, answered}
use Rattle.places.specs.Search.{first_from}
use Rattle.places.proofs.Search.{Fails, first_found, first-none}
use Rattle.sheet.specs.declared.Record.{Record}
use Rattle.sheet.specs.declared.Table.{Table}
use Rattle.sheet.specs.Layout.{record_at}
use Rattle.sheet.specs.Rules.{table_refusal}
use Rattle.analysis.specs.declared.Rule.{Rule}
use Rattle.analysis.specs.Told.{some_of}
use Rattle.analysis.proofs.Laws.Published.Halving.{Kept, Between}
use Rattle.margins.specs.declared.Field.{Field}
use Rattle.margins.specs.declared.Field.TheVariants.{Cost, Backup, Deadline, Period}
use Rattle.margins.specs.declared.changing.Change.{Change}
use Rattle.margins.specs.declared.changing.Change.TheVariants.{One, All}
use Rattle.margins.specs.Margins.{holds_with, asks_least, last_field, last_of, last_from, margin_of}
use Rattle.margins.specs.Fitted.{InRoom, Placed, value_at}
use Rattle.margins.specs.Answers.{furthest_of, furthest_told}
use Rattle.margins.specs.Answers.Furthest.{Refused, At, Nothing}
use Rattle.margins.proofs.Last.{last_found, last_none}
use Rattle.margins.proofs.Kept.{EasierValue, Sound, sound-at, holds_kept}

-- what is answered for a margin: it, or that there is none
pub furthest-answered : (refusal margin : ℕ) → furthest_told (furthest_of refusal margin) ≡ answered refusal (some_of margin)
unfolding furthest_of answered some_of furthest_told
furthest-answered refusal margin = go (eqb refusal 0) (eqb margin 0)
  where
    go : (fine none : Bool) → furthest_told (cond fine (cond none Nothing (At margin)) (Refused refusal)) ≡ cond fine (Ok (cond none None (Some margin))) (Err (numbered refusal))
    go true true = refl
    go true false = refl
    go false none = refl

-- the values that are asked for
module _ (change : Change) (last : ℕ) where
  pub value-down : (step : ℕ) → asks_least change ≡ true → value_at change last step ≡ last + 1 - step
  unfolding value_at
  value-down step e = rw e refl

  pub value-up : (step : ℕ) → asks_least change ≡ false → value_at change last step ≡ step
  unfolding value_at
  value-up step e = rw e refl

  -- each is one of those tried, and each of those tried is asked for, at the step that its own value is
  pub value-within : (step : ℕ) → 1 ≤ step → step ≤ last → (1 ≤ value_at change last step) × (value_at change last step ≤ last)
  unfolding value_at
  value-within step low high = go (asks_least change)
    where
      go : (b : Bool) → (1 ≤ cond b (last + 1 - step) step) × (cond b (last + 1 - step) step ≤ last)
      go true = (omega arith, omega arith)
      go false = (low, high)

  value-back : (value : ℕ) → 1 ≤ value → value ≤ last → value_at change last (value_at change last value) ≡ value
  unfolding value_at
  value-back value low high = go (asks_least change)
    where
      go : (b : Bool) → cond b (last + 1 - cond b (last + 1 - value) value) (cond b (last + 1 - value) value) ≡ value
      go true = omega arith
      go false = refl

  -- a later step has a harder value
  later-harder : (early late : ℕ) → 1 ≤ early → early ≤ late → EasierValue (asks_least change) last (value_at change last late) (value_at change last early)
  unfolding value_at
  later-harder early late some less = go (asks_least change)
    where
      go : (b : Bool) → EasierValue b last (cond b (last + 1 - late) late) (cond b (last + 1 - early) early)
      go true = (omega arith, omega arith)
      go false = (some, less)

-- what has room leaves room for what is smaller, and has room in 32 bits
pub room-below : (change : Change) (small large : ℕ) → small ≤ large → InRoom change large → InRoom change small
room-below (One field place) small large less room = omega (arith, less, room)
room-below All small large less room = omega (arith, less, room)

pub room_small : (change : Change) (value : ℕ) → InRoom change value → value ≤ 65535000
room_small (One field place) value room = omega (arith, room)
room_small All value room = room

-- a test that is turned round
turned : (a b : Bool) → (a ≡ true → b ≡ true) → not b ≡ true → not a ≡ true
turned true b f e = absurd (true≢false (sym (f refl) ∙ not-true b e))
turned false b f e = refl

-- whether the table does not hold with the value at a step
abbrev pub fails_at : Rule → Table → Change → ℕ → Bool
fails_at rule t change step = not (holds_with rule t change (value_at change (last_of t change) step))

module _ (rule : Rule) (t : Table) (good : table_refusal t ≡ 0) (change : Change) where
  -- where it does not at a step it does not at a later one
  pub fails-kept : Kept (fails_at rule t change)
  fails-kept early late some less =
      turned (holds_with rule t change (value_at change (last_of t change) late)) (holds_with rule t change (value_at change (last_of t change) early))
      (holds_kept t good (value_at change (last_of t change) late) (value_at change (last_of t change) early) change (later-harder change (last_of t change) early late some less) rule)

  -- some value is tried
  pub last_some : Placed t change → 1 ≤ last_of t change
  unfolding last_of last_field
  last_some = go change
    where
      field-some : (field : Field) (r : Record) → Sound r → 1 ≤ last_field field r
      field-some Cost r s = omega (arith, s.cost)
      field-some Backup r s = omega (arith, s.cost)
      field-some Deadline r s = omega (arith, s.cost, s.deadline)
      field-some Period r s = omega arith

      go : (x : Change) → Placed t x → 1 ≤ last_of t x
      go (One field place) below = field-some field (record_at t.records place) (sound-at t good place below)
      go All placed = omega arith

  -- where it does not hold at a step, no value holds that is asked for then or later
  fails-later : (step value : ℕ) → 1 ≤ step → 1 ≤ value → value ≤ last_of t change → step ≤ value_at change (last_of t change) value → fails_at rule t change step ≡ true → holds_with rule t change value ≡ false
  fails-later step value some low high less is =
      ap (holds_with rule t change) (sym (value-back change (last_of t change) value low high)) ∙ not-true _ (fails-kept step (value_at change (last_of t change) value) some less is)

  -- where the easiest value does not hold there is no margin
  pub margin-none : fails_at rule t change 1 ≡ true → 0 ≡ margin_of rule t change
  unfolding margin_of
  margin-none is = go (asks_least change)
    where
      none : Fails (holds_with rule t change) 1 (1 + last_of t change)
      none value low high =
          let within : value ≤ last_of t change = omega arith in
          fails-later 1 value (omega arith) low within (value-within change (last_of t change) value low within).0 is

      go : (b : Bool) → 0 ≡ cond b (first_from (holds_with rule t change) 1 (last_of t change)) (last_from (holds_with rule t change) 1 (last_of t change))
      go true = sym (first-none (holds_with rule t change) (last_of t change) 1 none)
      go false = sym (last_none (holds_with rule t change) (last_of t change) 1 none)

  -- before any step but the first is asked for
  pub begun : Placed t change → fails_at rule t change 1 ≡ false → Between (fails_at rule t change) (1 + last_of t change) 1 (1 + last_of t change)
  begun placed first =
      let some = last_some placed in
      record {
        apart = (omega arith, omega arith, omega arith);
        below = λ k low high. let same : 1 ≡ k = omega arith in ap (fails_at rule t change) (sym same) ∙ first;
        above = λ h. absurd (omega arith);
      }

  -- where nothing lies between a step that holds and the next the margin is the value there
  module _ (step next : ℕ) (between : Between (fails_at rule t change) (1 + last_of t change) step next) (close : next ≤ suc step) where
    abbrev n : ℕ
    n = last_of t change

    there : holds_with rule t change (value_at change n step) ≡ true
    there = not-false _ (between.below step between.apart.0 (omega arith))

    past : (value : ℕ) → 1 ≤ value → value ≤ n → step < value_at change n value → holds_with rule t change value ≡ false
    past value low high over =
        let within = value-within change n value low high in
        fails-later next value (omega (arith, between.apart)) low high (omega arith) (between.above (omega (arith, within.1)))

    pub margin-found : value_at change n step ≡ margin_of rule t change
    unfolding margin_of
    margin-found = go (asks_least change) refl
      where
        go : (b : Bool) → asks_least change ≡ b → value_at change n step ≡ cond b (first_from (holds_with rule t change) 1 n) (last_from (holds_with rule t change) 1 n)
        go true e =
            let here = value-down change n step e in
            let within = value-within change n step between.apart.0 (omega (arith, between.apart)) in
            sym (first_found (holds_with rule t change) n 1 (value_at change n step) within.0 (omega (arith, within.1))
            (λ value low high. past value low (omega (arith, within.1)) (omega (arith, value-down change n value e, here, between.apart))) there)
        go false e =
            let here = value-up change n step e in
            let within = value-within change n step between.apart.0 (omega (arith, between.apart)) in
            sym (last_found (holds_with rule t change) n 1 (value_at change n step) within.0 (omega (arith, within.1)) there
            (λ value low high. past value (omega (arith, within.0)) (omega arith) (omega (arith, value-up change n value e, here))))
