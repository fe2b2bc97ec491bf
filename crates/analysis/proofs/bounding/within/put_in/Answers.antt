-- `analysis::bounding::within::put_in` meets its contract: before each turn the priorities below have the backup put in, and it reaches each of them. Assumes nothing.
use Prim.Native.Nat.{ℕ, ◌+◌, ◌≤◌, ◌<◌, max}
use mathlib.Core.Path.{◌≡◌, refl, sym, ap, subst, ◌∙◌}
use mathlib.Core.Bool.{cond}
use mathlib.Core.List.{List}
use mathlib.Core.Logic.{⊎_elim}
use native.Mathlib.Nat.{eq-or-lt_of_le, le_of_suc-le-suc}
use native.Mathlib.Numerals.{add-one}
use native.Mathlib.Decide.{dec_lt}
use native.Mathlib.Omega.{arith}
use borrow.Author.Tests.{le-leb, lt-leb}
use lib.Dec.{leb}
use lib.ListN.{get_or, set, length-set}
use lib.Seq.{get_or-set_same, get_or-set_other}
use Rattle.analysis.proofs.bounding.within.put_in.Goals as goal

-- where no priority from the one reached on is within the fault, all have what they are to have
put-in-done : (fault backup : ℕ) (before tops : List ℕ) (reached : ℕ) → reached ≤ fault + 1 → ((k : ℕ) → reached ≤ k → k < 9 → fault < k)
    → ((k : ℕ) → k < reached → get_or tops k 0 ≡ max (get_or before k 0) backup) → ((k : ℕ) → reached ≤ k → get_or tops k 0 ≡ get_or before k 0)
    → (k : ℕ) → k < 9 → get_or tops k 0 ≡ max (get_or before k 0) (cond (leb k fault) backup 0)
put-in-done fault backup before tops reached within past below above k low = go (dec_lt k reached)
  where
    go : Dec (k < reached) → get_or tops k 0 ≡ max (get_or before k 0) (cond (leb k fault) backup 0)
    go (yes h) = rw (le-leb k fault (omega arith)) (below k h)
    go (no h) = rw (lt-leb k fault (past k (omega arith) low)) (omega (arith, above k (omega arith)))

pub loop-priority-init : goal.loop-priority-init
loop-priority-init c = (omega arith, omega arith, c.requires.room, λ k low. absurd (omega arith), λ k low. refl)

pub returns-then-fault-priority : goal.returns-then-fault-priority
returns-then-fault-priority c =
    let at = c.loop-priority in
    let args = c.args in
    record {
      room = at.invariant.2;
      raised = put-in-done args.fault args.backup args.tops.now at.tops at.priority at.invariant.1 (λ k past low. omega arith) at.invariant.3 at.invariant.4;
    }

pub loop-priority-preserved : goal.loop-priority-preserved
loop-priority-preserved c =
    let at = c.loop-priority in
    let args = c.args in (
      omega arith,
      omega arith,
      length-set at.tops _ _ ∙ at.invariant.2,
      λ k low. ⊎_elim (λ e. ap (λ (j : ℕ). get_or (set at.tops at.priority c.max.result) j 0) e ∙ get_or-set_same at.tops at.priority _ 0 (omega (arith, at.invariant.2)) ∙ c.max.ensures ∙ ap (λ (n : ℕ). max n args.backup) (at.invariant.4 at.priority (omega arith) ∙ ap (λ (j : ℕ). get_or args.tops.now j 0) (sym e)))
          (λ lt. get_or-set_other at.tops at.priority k _ 0 (λ e. omega arith) ∙ at.invariant.3 k lt) (eq-or-lt_of_le (le_of_suc-le-suc (subst (λ (m : ℕ). k < m) (add-one at.priority) low))),
      λ k high. get_or-set_other at.tops at.priority k _ 0 (λ e. omega arith) ∙ at.invariant.4 k (omega arith),
    )

pub returns : goal.returns
returns c =
    let at = c.loop-priority in
    let args = c.args in
    record {
      room = at.invariant.2;
      raised = put-in-done args.fault args.backup args.tops.now at.tops at.priority at.invariant.1 (λ k past low. absurd (omega arith)) at.invariant.3 at.invariant.4;
    }
