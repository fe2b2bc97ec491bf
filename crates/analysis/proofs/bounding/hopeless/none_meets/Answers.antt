-- `analysis::bounding::hopeless::none_meets` meets its contract. Assumes nothing.
use Prim.Native.Nat.{◌≤◌}
use mathlib.Core.Path.{◌≡◌, sym, subst, ◌∙◌}
use borrow.Author.Tests.{lt-ltb, le-ltb}
use Rattle.sheet.proofs.Cases.{good-table}
use Rattle.analysis.specs.declared.common.by_rank.Frame.{Frame}
use Rattle.analysis.specs.Published.Lowest.{lowest_late}
use Rattle.analysis.specs.Bounds.Hopeless.{none_meets}
use Rattle.analysis.proofs.Laws.Bounds.ByRank.{missed-ranked, lowest-ranked}
use Rattle.analysis.proofs.Laws.Bounds.Hopeless.{late-none}
use Rattle.analysis.proofs.bounding.hopeless.none_meets.Goals as goal

pub lowest_late-requires : goal.lowest_late-requires
lowest_late-requires c = subst (λ (f : Frame). 1 ≤ f.count) (sym c.requires.framed) (good-table c.args.table c.requires.good).count.0

pub returns-then-lowest_late : goal.returns-then-lowest_late
returns-then-lowest_late c =
    let lowest : lowest_late c.args.table ≡ c.lowest_late.result = sym (lowest-ranked c.args.table c.requires.good c.args.tasks.now.columns.now c.requires.filled c.requires.framed) ∙ sym c.lowest_late.ensures in
    sym (late-none c.args.table (lowest ∙ c.if-lowest_late.true))

pub returns-then-table-le-FEW_RECORDS : goal.returns-then-table-le-FEW_RECORDS
unfolding none_meets
returns-then-table-le-FEW_RECORDS c =
    let lowest : lowest_late c.args.table ≡ c.lowest_late.result = sym (lowest-ranked c.args.table c.requires.good c.args.tasks.now.columns.now c.requires.filled c.requires.framed) ∙ sym c.lowest_late.ensures in
    sym (simp (lowest ∙ c.if-lowest_late.false, le-ltb 4 c.args.table.count c.if-table-le-FEW_RECORDS.true))

pub returns : goal.returns
unfolding none_meets
returns c =
    let lowest : lowest_late c.args.table ≡ c.lowest_late.result = sym (lowest-ranked c.args.table c.requires.good c.args.tasks.now.columns.now c.requires.filled c.requires.framed) ∙ sym c.lowest_late.ensures in
    let missed = c.own_missed.ensures ∙ missed-ranked c.args.table c.requires.good c.args.tasks.now.columns.now c.requires.filled c.requires.framed in
    missed ∙ sym (simp (lowest ∙ c.if-lowest_late.false, lt-ltb 4 c.args.table.count c.if-table-le-FEW_RECORDS.false))
