-- Each public call's promise leaves one answer: any two that its contract admits are equal. `Learnt` is the contract's own reading: lifetimes, arguments, result, parameters at exit. Assumes nothing.
use mathlib.Core.Path.{◌≡◌, sym, ◌∙◌}
use contract.Lifetimes.{Lfts}
use Prim.Native.Nat.{ℕ}
use mathlib.Core.List.{List}
use denote.Ref.{Bor}
use Rattle.cells.specs.declared.Cells.{Cells}
use Rattle.cells.specs.declared.Number.{Number}
use Rattle.cells.specs.declared.Name.{Name}
use Rattle.cells.specs.declared.Named.{Named}
use Rattle.cells.proofs.split.Reads as cut
use Rattle.cells.proofs.part.Reads as parted
use Rattle.cells.proofs.separator_of.Reads as separated
use Rattle.cells.proofs.number_of.Reads as counted
use Rattle.cells.proofs.column_of.Reads as headed
use Rattle.cells.proofs.setting_of.Reads as settled
use Rattle.cells.proofs.no_name.Reads as nameless
use Rattle.cells.proofs.name_of.Reads as called

-- two values that are both a third
pub both : {A : Type 0} {a b c : A} → a ≡ c → b ≡ c → a ≡ b
both p q = p ∙ sym q

pub split-unique : (κs : Lfts 1) (args : _) (a b : Cells) (s u : _) → cut.Learnt κs args a s → cut.Learnt κs args b u → a ≡ b
split-unique κs args a b s u = both

pub part-unique : (κs : Lfts 1) (args : _) (a b : Bor (List ℕ)) (s u : _) → parted.Learnt κs args a s → parted.Learnt κs args b u → a.now ≡ b.now
part-unique κs args a b s u = both

pub separator-of-unique : (κs : Lfts 1) (args : _) (a b : ℕ) (s u : _) → separated.Learnt κs args a s → separated.Learnt κs args b u → a ≡ b
separator-of-unique κs args a b s u = both

pub number-of-unique : (κs : Lfts 1) (args : _) (a b : Number) (s u : _) → counted.Learnt κs args a s → counted.Learnt κs args b u → a ≡ b
number-of-unique κs args a b s u = both

pub column-of-unique : (κs : Lfts 1) (args : _) (a b : ℕ) (s u : _) → headed.Learnt κs args a s → headed.Learnt κs args b u → a ≡ b
column-of-unique κs args a b s u = both

pub setting-of-unique : (κs : Lfts 1) (args : _) (a b : ℕ) (s u : _) → settled.Learnt κs args a s → settled.Learnt κs args b u → a ≡ b
setting-of-unique κs args a b s u = both

pub no-name-unique : (κs : Lfts 0) (args : _) (a b : Name) (s u : _) → nameless.Learnt κs args a s → nameless.Learnt κs args b u → a ≡ b
no-name-unique κs args a b s u = both

pub name-of-unique : (κs : Lfts 1) (args : _) (a b : Named) (s u : _) → called.Learnt κs args a s → called.Learnt κs args b u → a ≡ b
name-of-unique κs args a b s u = both
