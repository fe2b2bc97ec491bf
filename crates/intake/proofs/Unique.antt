-- Each promise of intake, as its contract is read, leaves one answer: any two that it admits are equal. Assumes nothing.
use mathlib.Core.Path.{◌≡◌, sym, ◌∙◌}
use mathlib.Core.List.{List}
use Prim.Native.Nat.{ℕ}
use contract.Lifetimes.{Lfts}
use denote.Bor.{Bor}
use Rattle.std.specs.Prelude.{Result}
use Rattle.places.specs.declared.refusal.Refusal.{Refusal}
use Rattle.sheet.specs.declared.Table.{Table}
use Rattle.sheet.proofs.Unique.{both}
use Rattle.intake.specs.declared.sheets.Given.{Given}
use Rattle.intake.proofs.sheets.Given.sheet.Reads as sheet
use Rattle.intake.proofs.sheets.reading.Reads as read
use Rattle.intake.proofs.sheets.unjudged.Reads as unjudged

pub Given-sheet-unique : (κs : Lfts 1) (args : _) (a b : Bor (List ℕ)) (s u : _) → sheet.Learnt κs args a s → sheet.Learnt κs args b u → a.now ≡ b.now
Given-sheet-unique κs args a b s u p q = p ∙ sym q

pub reading-unique : (given : Given) (a b : Result Table Refusal) → read.Learnt tt (given, tt) a (given, tt) → read.Learnt tt (given, tt) b (given, tt) → a ≡ b
reading-unique given a b p q = both p q

pub unjudged-unique : (given : Given) (a b : Table) → unjudged.Learnt tt (given, tt) a (given, tt) → unjudged.Learnt tt (given, tt) b (given, tt) → a ≡ b
unjudged-unique given a b p q = both p q
