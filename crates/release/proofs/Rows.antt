-- Cases of the release rule by computation: the bits of the protected places, when a response grows, and the release of March. Assumes nothing.
use Prim.Native.Nat.{ℕ}
use mathlib.Core.Path.{◌≡◌, refl}
use mathlib.Core.Bool.{true, false}
use mathlib.Core.List.{List, [], ◌∷◌}
use Rattle.places.specs.Places.{some_below, filled_below, sum_below, most_below}
use Rattle.places.specs.Search.{first_from}
use Rattle.places.specs.Refusals.{or_else, first_below}
use Rattle.sheet.specs.Packing.{regrouped}
use Rattle.sheet.specs.Layout.{header_of, count_of, edition_of, interval_of, round_of, share_of, start_of, size_of, part_of, record_from, record_of, sheet_record, record_at, room, table_of}
use Rattle.sheet.specs.Rules.{outside, wrong_share, taken, refusal_of, record_refusal, records_refusal, header_refusal, sheet_refusal}
use Rattle.analysis.specs.declared.Outcome.TheVariants.{OnTime, Late}
use Rattle.analysis.specs.Common.Rounding.{up}
use Rattle.analysis.specs.Common.Tasks.{fault_at, own_choice}
use Rattle.analysis.specs.Common.Backups.{others, everyone, backup_of, largest_backup, backup_elsewhere, backup_from_fault}
use Rattle.analysis.specs.Published.Equations.{asked_elsewhere, asked_itself, is_between, struck_elsewhere, struck_itself}
use Rattle.analysis.specs.Common.Supplier.{supplier_of}
use Rattle.analysis.specs.Common.Search.{least_within}
use Rattle.analysis.specs.Published.Response.{time_elsewhere, time_itself, response_within, response_time, passes}
use Rattle.analysis.specs.Common.Entries.{is_late, outcome_of}
use Rattle.release.specs.Rules.{is_protected, some_outside, grows, outcome_at, grows_at, some_grows}
use Rattle.release.specs.Answers.{is_loaded, decided, decision}

-- "place 0 lowest"
pub lowest-first : (is_protected 1 0 ≡ true) × (is_protected 1 7 ≡ false) × (is_protected 128 7 ≡ true) × (is_protected 128 0 ≡ false)
unfolding is_protected
lowest-first = (refl, refl, refl, refl)

-- a response that stays the same does not grow; "late in use counts as longer than any time", and no time as longer than late
pub grown : (grows (OnTime 7) (OnTime 7) ≡ false) × (grows (OnTime 7) (OnTime 8) ≡ true) × (grows (OnTime 7) Late ≡ true) × (grows Late (OnTime 8) ≡ false) × (grows Late Late ≡ false)
unfolding grows
grown = (refl, refl, refl, refl, refl)

-- the box of March, four tasks at fault interval 300, with the note store's backup in ticks and its priority and fault priority in a byte
unfoldable pub march : ℕ → ℕ → List ℕ
march backup levels =
    0x40 ∷ 1 ∷ 44 ∷ 0 ∷ 5 ∷ 0 ∷ 10 ∷ 0 ∷ 50 ∷ 0 ∷ 50 ∷ 0x44 ∷ 0 ∷ 15 ∷ 0 ∷ backup ∷ 0 ∷ 150 ∷ 0 ∷ 150 ∷ levels ∷ 0 ∷ 35 ∷ 0 ∷ 25 ∷ 0 ∷ 95 ∷ 0 ∷ 250 ∷ 0x22 ∷ 0 ∷ 50 ∷ 0 ∷ 75 ∷ 1 ∷ 54 ∷ 1 ∷ 244 ∷ 0x11 ∷ []

-- the backup left out in use, the candidate with its 40 ticks is not loaded; lowered to 1 it is, unless the note store is protected beside the settlement check, and then the sheet in use stays
pub release-of-march : (decision (march 1 0x33) (march 40 0x33) 4 ≡ record { refusal = 0; loads = false })
    × (decision (march 1 0x33) (march 40 0x31) 4 ≡ record { refusal = 0; loads = true })
    × (decision (march 1 0x33) (march 40 0x31) 6 ≡ record { refusal = 0; loads = false })
unfolding march or_else first_below some_below filled_below regrouped header_of count_of edition_of interval_of round_of share_of start_of size_of part_of record_from record_of sheet_record record_at room table_of outside wrong_share taken refusal_of record_refusal records_refusal header_refusal sheet_refusal up sum_below most_below fault_at own_choice others everyone backup_of largest_backup backup_elsewhere backup_from_fault supplier_of is_between asked_elsewhere struck_elsewhere asked_itself struck_itself first_from least_within time_elsewhere time_itself response_within response_time is_late passes outcome_of is_protected some_outside grows outcome_at grows_at some_grows is_loaded decided decision
release-of-march = (refl, refl, refl)
