-- What each public call answers, refusals included.
use Rattle.std.specs.Prelude.{ℕ, ◌≡◌, Bool, false, cond, not, ◌&&◌, List, [], eqb, Result, Ok, Err}
use Rattle.std.specs.Borrow.{Bor}
use Rattle.places.specs.declared.refusal.Refusal.{Refusal}
use Rattle.places.specs.Answered.{numbered}
use Rattle.sheet.specs.declared.Table.{Table}
use Rattle.sheet.specs.Layout.{table_of}
use Rattle.sheet.specs.Rules.{sheet_refusal}
use Rattle.analysis.specs.Published.Response.{passes}
use Rattle.analysis.specs.Common.Entries.{own_tasks}
use Rattle.release.specs.Told.{Decision}
use Rattle.release.specs.Rules.{some_outside, some_grows}

-- a refusal, with nothing to load
abbrev pub refused_with : ℕ → Decision
refused_with refusal = record { refusal = refusal; loads = false }

-- "the candidate if it passes and no protected task's response grows"
unfoldable pub is_loaded : Table → Table → ℕ → Bool
is_loaded old new protected = passes (own_tasks new) && not (some_grows old new protected)

-- between two good tables: "24 different counts, 12 a protected place outside", then the rule
unfoldable pub decided : Table → Table → ℕ → Decision
decided old new protected =
    cond (eqb old.count new.count)
    (cond (some_outside protected old.count) (refused_with 12) (record { refusal = 0; loads = is_loaded old new protected }))
    (refused_with 24)

-- `decide`: "Refusals, first sheet first: a sheet's, 24 different counts, 12 a protected place outside"
unfoldable pub decision : List ℕ → List ℕ → ℕ → Decision
decision in_use candidate protected =
    cond (eqb (sheet_refusal in_use) 0)
    (cond (eqb (sheet_refusal candidate) 0) (decided (table_of in_use) (table_of candidate) protected) (refused_with (sheet_refusal candidate)))
    (refused_with (sheet_refusal in_use))

-- `sheet_to_load`: "Of the two lent sheets it hands back the one to load": the whole of that slice, its block, offset and bytes; refused, the empty part at the start of the sheet in use
pub record Handed (in_use candidate : Bor (List ℕ)) (protected : ℕ) (part : Bor (List ℕ)) : Type 0 where
  pub place : part.ref_ptr ≡ cond (decision in_use.now candidate.now protected).loads candidate.ref_ptr in_use.ref_ptr
  pub content :
      part.now
      ≡ cond (eqb (decision in_use.now candidate.now protected).refusal 0) (cond (decision in_use.now candidate.now protected).loads candidate.now in_use.now) []

-- `load`: the part of `sheet_to_load` where nothing is refused, else the refusal of `decide`
abbrev pub Loaded : Bor (List ℕ) → Bor (List ℕ) → ℕ → Result (Bor (List ℕ)) Refusal → Type 0
Loaded in_use candidate protected (Ok part) = ((decision in_use.now candidate.now protected).refusal ≡ 0) × Handed in_use candidate protected part
Loaded in_use candidate protected (Err refusal) =
    ((decision in_use.now candidate.now protected).refusal ≡ 0 → ⊥) × (refusal ≡ numbered (decision in_use.now candidate.now protected).refusal)
