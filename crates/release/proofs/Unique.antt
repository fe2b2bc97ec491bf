-- Each public call's contract leaves one answer: any two that its own reading admits are equal. Of a part handed back, equal means the same block, offset, length and bytes, as of `record_part`. Assumes nothing.
use mathlib.Core.Path.{◌≡◌, refl, ap}
use mathlib.Core.List.{List}
use Prim.Native.Nat.{ℕ}
use lib.ListN.{length}
use denote.Ref.{Bor}
use seplogic.Ra.Ura.{Ura}
use base.Logic.{SProp}
use prog.Memory.{Memory}
use prog.Routine.{Routine}
use types.Logic.{Logic}
use contract.Lifetimes.{Lfts}
use contract.Monad.{Fun, fact}
use Rattle.std.specs.Prelude.{Bool, Result, Ok, Err}
use Rattle.places.specs.declared.refusal.Refusal.{Refusal}
use Rattle.sheet.proofs.Unique.{both, SamePart, SameExcerpt}
use Rattle.release.specs.Answers.{Handed, Loaded}
use Rattle.release.proofs.decide.Reads as decided
use Rattle.release.proofs.sheet_to_load.Reads as handed
use Rattle.release.specs.contracts.load as load

pub decide-unique : (κs : Lfts 2) (args : _) (a b : Result Bool Refusal) (s : _) → decided.Learnt κs args a s → decided.Learnt κs args b s → a ≡ b
decide-unique κs args a b s = both

same-handed : (in_use candidate : Bor (List ℕ)) (protected : ℕ) (a b : Bor (List ℕ)) → Handed in_use candidate protected a → Handed in_use candidate protected b → SamePart a b
same-handed in_use candidate protected a b p q =
    let place = both p.place q.place in
    record { block = λ i. (place i).0; offset = λ i. (place i).1; size = ap length (both p.content q.content); content = both p.content q.content }

pub sheet-to-load-unique : (κs : Lfts 1) (args : _) (a b : Bor (List ℕ)) (s : _) → handed.Learnt κs args a s → handed.Learnt κs args b s → SamePart a b
sheet-to-load-unique κs args a b s p q = same-handed _ _ _ a b p q

-- `load`, whose answer holds a reference, has no reading: in every model the contract's clause is that the answer is `Loaded`
pub load-says : {M : Type 1} {𝓤 : Ura M} (𝓛 : Logic 𝓤) (mem : Memory → SProp 𝓤) (run : Routine → Fun 𝓤) (κs : Lfts 1) (given : _) (answer : Result (Bor (List ℕ)) Refusal) (left : _)
    → (load.clauses 𝓛 mem run κs given).ensures tt answer left ≡ fact 𝓤 (Loaded given.0 given.1.0 given.1.1.0 answer)
load-says 𝓛 mem run κs given answer left = refl

-- which leaves one
pub load-unique : (in_use candidate : Bor (List ℕ)) (protected : ℕ) (a b : Result (Bor (List ℕ)) Refusal) → Loaded in_use candidate protected a → Loaded in_use candidate protected b → SameExcerpt a b
load-unique in_use candidate protected (Ok a) (Ok b) p q = same-handed in_use candidate protected a b p.1 q.1
load-unique in_use candidate protected (Ok a) (Err e) p q = q.0 p.0
load-unique in_use candidate protected (Err d) (Ok b) p q = p.0 q.0
load-unique in_use candidate protected (Err d) (Err e) p q = both p.1 q.1
