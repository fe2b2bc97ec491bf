-- Each public call's promise leaves one answer and one content of the lent output: any two that its contract admits are equal. `Learnt` is the contract's own reading: lifetimes, arguments, result, parameters at exit. Assumes nothing.
use mathlib.Core.Path.{◌≡◌}
use contract.Lifetimes.{Lfts}
use Rattle.sheet.specs.declared.Table.{Table}
use Rattle.sheet.proofs.Unique.{both}
use Rattle.text.specs.declared.Scan.{Scan}
use Rattle.lines.specs.declared.Understood.{Understood}
use Rattle.text.specs.declared.Fitted.{Fitted}
use Rattle.text.specs.declared.Shown.{Shown}
use Rattle.text.proofs.Scan.start.Reads as started
use Rattle.text.proofs.Scan.take.Reads as taken
use Rattle.text.proofs.Scan.finish.Reads as finished
use Rattle.text.proofs.read.Reads as understood
use Rattle.text.proofs.scaled.Reads as fitted
use Rattle.text.proofs.unjudged.Reads as unfitted
use Rattle.text.proofs.show.Reads as shown
use Rattle.text.proofs.show_named.Reads as called

pub Scan-start-unique : (κs : Lfts 0) (args : _) (a b : Scan) (s u : _) → started.Learnt κs args a s → started.Learnt κs args b u → a ≡ b
Scan-start-unique κs args a b s u = both

pub Scan-take-unique : (κs : Lfts 1) (args : _) (a b : Scan) (s u : _) → taken.Learnt κs args a s → taken.Learnt κs args b u → a ≡ b
Scan-take-unique κs args a b s u = both

pub Scan-finish-unique : (κs : Lfts 0) (args : _) (a b : Understood) (s u : _) → finished.Learnt κs args a s → finished.Learnt κs args b u → a ≡ b
Scan-finish-unique κs args a b s u = both

pub read-unique : (κs : Lfts 1) (args : _) (a b : Understood) (s u : _) → understood.Learnt κs args a s → understood.Learnt κs args b u → a ≡ b
read-unique κs args a b s u = both

pub scaled-unique : (κs : Lfts 0) (args : _) (a b : Fitted) (s u : _) → fitted.Learnt κs args a s → fitted.Learnt κs args b u → a ≡ b
scaled-unique κs args a b s u = both

pub unjudged-unique : (κs : Lfts 0) (args : _) (a b : Table) (s u : _) → unfitted.Learnt κs args a s → unfitted.Learnt κs args b u → a ≡ b
unjudged-unique κs args a b s u = both

-- the output is the second parameter
pub show-unique : (κs : Lfts 1) (args : _) (a b : Shown) (s u : _) → shown.Learnt κs args a s → shown.Learnt κs args b u → (a ≡ b) × (s.1.0.now ≡ u.1.0.now)
show-unique κs args a b s u p q = (both p.0 q.0, both p.1 q.1)

-- and here the third
pub show-named-unique : (κs : Lfts 1) (args : _) (a b : Shown) (s u : _) → called.Learnt κs args a s → called.Learnt κs args b u → (a ≡ b) × (s.1.1.0.now ≡ u.1.1.0.now)
show-named-unique κs args a b s u p q = (both p.0 q.0, both p.1 q.1)
