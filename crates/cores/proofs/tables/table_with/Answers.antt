-- `cores::tables::table_with` meets its contract: before each turn the records below that are of the core stand at the start. Assumes nothing.
use Prim.Native.Nat.{ℕ, suc, ◌+◌}
use mathlib.Core.Path.{◌≡◌, refl, sym, ap, subst, ◌∙◌}
use native.Mathlib.Omega.{arith}
use borrow.Author.Rules.{rules}
use mir.Val.{bool_byte}
use lib.ListN.{set, length-set}
use Rattle.sheet.specs.declared.Record.{Record}
use Rattle.sheet.specs.Layout.{record_at, no_record}
use Rattle.cores.specs.Renumbered.{renumbered, core_tasks, tasks_at}
use Rattle.cores.proofs.Picking.{Gathered, gather_none, gather-next, one_if, byte_one, byte_small}
use Rattle.cores.proofs.tables.table_with.Invariants.{meant, value}
use Rattle.cores.proofs.tables.table_with.Goals as goal

pub loop-other-init : goal.loop-other-init
loop-other-init c = (omega arith, search rules, omega arith, gather_none _ _ _ _)

pub overflow_add-count : goal.overflow_add-count
overflow_add-count c = omega (arith, byte_small c.joins.result)

pub loop-other-preserved : goal.loop-other-preserved
unfolding record_at
loop-other-preserved c =
    let at = c.loop-other in
    let given = c.args in
    let filled = value given.table.records given.cores given.place given.core in
    let test = meant given.cores given.place given.core in
    let here : c.renumbered.result ≡ filled at.other = c.renumbered.ensures ∙ ap (renumbered (record_at given.table.records at.other)) c.renumber-number.ensures in
    let one : bool_byte c.joins.result ≡ one_if (test at.other) = byte_one _ _ c.joins.ensures in (
      omega arith,
      length-set at.records _ _ ∙ at.invariant.1,
      omega (arith, byte_small c.joins.result, at.invariant.2),
      subst (λ (n : ℕ). Gathered filled no_record test (set at.records at.count c.renumbered.result) (at.count + n) (at.other + 1)) (sym one)
          (subst (λ (r : Record). Gathered filled no_record test (set at.records at.count r) (at.count + one_if (test at.other)) (at.other + 1)) (sym here)
          (gather-next filled no_record test at.records at.count at.other (omega (arith, at.invariant.1, at.invariant.2)) at.invariant.3)),
    )

pub overflow_cast-result : goal.overflow_cast-result
overflow_cast-result c = omega (arith, c.loop-other.invariant.2)

pub returns : goal.returns
unfolding record_at core_tasks tasks_at
returns c =
    let at = c.loop-other in
    let given = c.args in
    let all : at.other ≡ suc given.place = omega arith in
    let gathered = subst (Gathered (value given.table.records given.cores given.place given.core) no_record (meant given.cores given.place given.core) at.records at.count) all at.invariant.3 in
    record {
      count = gathered.many;
      interval = refl;
      round = refl;
      share = refl;
      task = λ j low. gathered.each j (omega (arith, gathered.many));
    }
