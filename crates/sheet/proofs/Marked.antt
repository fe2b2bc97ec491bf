-- The priorities met so far, marked as one goes along the records. Assumes nothing.
use Prim.Native.Nat.{ℕ, ◌+◌, ◌<◌}
use mathlib.Core.Path.{◌≡◌, sym, ap, ◌∙◌}
use mathlib.Core.Bool.{Bool, true, false, ◌||◌, or-true, or-false}
use mathlib.Core.List.{List}
use native.Mathlib.Numerals.{add-one}
use native.Mathlib.Decide.{ℕ_discrete}
use native.Mathlib.Omega.{arith}
use borrow.Author.Tests.{eq-eqb, ne_eqb}
use lib.Dec.{eqb}
use lib.ListN.{length, get_or, set, replicate, get_or-replicate}
use lib.Seq.{get_or-set_same, get_or-set_other}
use Rattle.places.specs.Places.{some_below}
use Rattle.sheet.specs.declared.Record.{Record}
use Rattle.sheet.specs.Rules.{taken}

-- the marks say of each value of four bits whether a record before the place has it as its priority
unfoldable pub Marks : List Bool → (ℕ → Record) → ℕ → Type 0
Marks marks at place = (q : ℕ) → q < 16 → get_or marks q false ≡ taken at place q

pub marks-none : (at : ℕ → Record) → Marks (replicate 16 false) at 0
unfolding Marks taken some_below
marks-none at q h = get_or-replicate 16 q false false h

pub marks-more : (marks : List Bool) (at : ℕ → Record) (place : ℕ) → length marks ≡ 16 → Marks marks at place → Marks (set marks (at place).priority true) at (place + 1)
unfolding Marks taken some_below
marks-more marks at place e m q h = rw add-one (go (ℕ_discrete q (at place).priority))
  where
    go : Dec (q ≡ (at place).priority) → get_or (set marks (at place).priority true) q false ≡ (taken at place q || eqb (at place).priority q)
    go (yes p) =
        let below : (at place).priority < length marks = omega arith in
        rw (eq-eqb (at place).priority q (sym p)) (ap (λ (k : ℕ). get_or (set marks (at place).priority true) k false) p ∙ get_or-set_same marks (at place).priority true false below ∙ sym (or-true (taken at place q)))
    go (no p) = get_or-set_other marks (at place).priority q true false p ∙ m q h ∙ rw (ne_eqb (at place).priority q (λ z. p (sym z))) (sym (or-false (taken at place q)))
