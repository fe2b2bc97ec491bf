-- The limits of a good table, whether a record misses its own backup, and whether the lowest task is late, found over its columns by rank. Assumes nothing.
use Prim.Native.Nat.{ℕ, ◌-◌, ◌<◌, max}
use mathlib.Core.Path.{◌≡◌, refl, sym, ap, ap₂, subst, ◌∙◌, fun_ext}
use mathlib.Core.Bool.{Bool, cond, not}
use mathlib.Core.List.{List, []}
use native.Mathlib.Omega.{arith}
use lib.Dec.{leb}
use lib.ListN.{get_or, replicate, get_or-replicate}
use Rattle.places.specs.Places.{some_below}
use Rattle.places.proofs.Agree.{some-agree, most-agree}
use Rattle.places.proofs.Gathered.{most-reordered, some-reordered}
use Rattle.sheet.specs.declared.Record.{Record}
use Rattle.sheet.specs.declared.Table.{Table}
use Rattle.sheet.specs.Layout.{record_at}
use Rattle.sheet.specs.Rules.{table_refusal}
use Rattle.sheet.proofs.Cases.{good-table}
use Rattle.analysis.specs.declared.common.by_rank.Frame.{Frame}
use Rattle.analysis.specs.declared.Rule.{Rule}
use Rattle.analysis.specs.declared.Rule.TheVariants.{Published}
use Rattle.analysis.specs.Common.Tasks.{Tasks, tasks_of, own_choice}
use Rattle.analysis.specs.Common.Allowed.{Within}
use Rattle.analysis.specs.Common.Entries.{is_late}
use Rattle.analysis.specs.Published.Response.{response_time, late}
use Rattle.analysis.specs.Published.Lowest.{lowest_late}
use Rattle.analysis.specs.Common.ByRank.{rank_of, ranked, frame_of, backup_in, ColumnsOf, FaultsOf, InOrder, ChosenIn}
use Rattle.analysis.specs.Bounds.Limits.{bears, borne, limit_of, limit_at}
use Rattle.analysis.specs.Bounds.Hopeless.{own_missed, hopeless}
use Rattle.analysis.proofs.Laws.Common.Reordered.{SameTasks}
use Rattle.analysis.proofs.Laws.Common.Placing.{ranks}
use Rattle.analysis.proofs.Laws.Bounds.Reordered.{bears-held}
use Rattle.analysis.proofs.Laws.Common.Columned.{unfaulted, same-ranked, ranked-order, rank-few, task-good}
use Rattle.analysis.proofs.Laws.Common.Choice.{own-allowed}
use Rattle.analysis.proofs.Laws.Published.Columned.{response-ranked}
use Rattle.analysis.proofs.Laws.Published.Lowest.{lowest-late-same, lowest-there, lowest-tested}
use Rattle.analysis.proofs.Laws.Bounds.Columned.{bears-unfaulted}

module _ (t : Table) (good : table_refusal t ≡ 0) (columns : List ℕ) (filled : ColumnsOf t columns) where
  -- the tasks that the bounds are found for, and the same by rank
  abbrev plain : Tasks
  plain = tasks_of t t.interval []

  abbrev in_ranks : Tasks
  in_ranks = ranked columns (frame_of t t.interval) []

  same : SameTasks (unfaulted plain) in_ranks (rank_of t)
  same = same-ranked t good columns filled t.interval [] [] (λ place below. refl)

  -- they are in order
  pub in-ranks-order : {frame : Frame} → frame ≡ frame_of t t.interval → InOrder (ranked columns frame [])
  in-ranks-order framed =
      let some = (good-table t good).interval in
      subst (λ (f : Frame). InOrder (ranked columns f [])) (sym framed) (ranked-order t good columns filled t.interval [] [] (λ place below. refl) (omega arith))

  module _ (rule : Rule) (place q : ℕ) (below : place < t.count) where
    bears-ranked : (backup : ℕ) → bears rule in_ranks (rank_of t place) q backup ≡ bears rule plain place q backup
    bears-ranked backup = bears-held (unfaulted plain) in_ranks (rank_of t) same place below rule q backup ∙ bears-unfaulted rule plain place q backup

    limit-same : limit_of (bears rule in_ranks (rank_of t place) q) (backup_in columns) t.count ≡ limit_of (bears rule plain place q) (λ k. (record_at t.records k).backup) t.count
    unfolding limit_of
    limit-same =
        ap (λ (test : ℕ → Bool). limit_of test (backup_in columns) t.count) (fun_ext bears-ranked)
        ∙ ap (λ (most : ℕ). max most (borne (bears rule plain place q) 0))
        (sym (most-reordered t.count (rank_of t) (ranks t good) (λ k. borne (bears rule plain place q) (backup_in columns k))) ∙ most-agree t.count (λ k low. ap (borne (bears rule plain place q)) (filled k low).backup))

    -- the limit of a record, found over its columns
    pub limit-ranked : {frame : Frame} → frame ≡ frame_of t t.interval
        → cond (leb q (record_at t.records place).priority) (limit_of (bears rule (ranked columns frame []) (frame.count - (record_at t.records place).priority) q) (backup_in columns) frame.count) 0 ≡ limit_at rule t place q
    unfolding limit_at rank_of
    limit-ranked framed =
        let p = (record_at t.records place).priority in
        ap (λ (f : Frame). cond (leb q p) (limit_of (bears rule (ranked columns f []) (f.count - p) q) (backup_in columns) f.count) 0) framed
        ∙ ap (λ (n : ℕ). cond (leb q p) n 0) limit-same

  -- whether some record misses its own backup
  pub missed-ranked : {frame : Frame} → frame ≡ frame_of t t.interval → some_below (own_missed (ranked columns frame [])) frame.count ≡ hopeless t
  unfolding hopeless own_missed
  missed-ranked framed =
      ap (λ (f : Frame). some_below (own_missed (ranked columns f [])) f.count) framed
      ∙ sym (some-reordered t.count (rank_of t) (ranks t good) (own_missed in_ranks))
      ∙ some-agree t.count (λ place below. ap (λ (r : Record). not (bears Published in_ranks (rank_of t place) r.priority r.backup)) (same.task place below)
      ∙ ap not (bears-ranked Published place (record_at t.records place).priority below (record_at t.records place).backup))

  -- a fault priority of 1 for each record, which every record can have
  ones : (place : ℕ) → place < t.count → ◌≡◌ {A = ℕ} (get_or (replicate 8 1) place 0) 1
  ones place below = get_or-replicate 8 place 1 0 (omega (arith, (good-table t good).count.1))

  ones-within : Within t (replicate 8 1)
  ones-within place below =
      let known = (task-good t good place below).priority in
      (omega (arith, ones place below), omega (arith, ones place below))

  ones-beside : FaultsOf t (replicate 8 1) (replicate 8 1)
  ones-beside place below = get_or-replicate 8 (rank_of t place) 1 0 (rank-few t good place below) ∙ sym (ones place below)

  -- the last by rank is the lowest task, and late under them exactly if it is late
  pub lowest-ranked : {frame : Frame} → frame ≡ frame_of t t.interval → late (ranked columns frame (replicate 8 1)) (frame.count - 1) ≡ lowest_late t
  unfolding response_time rank_of
  lowest-ranked framed =
      let lowest = lowest-there t good in
      let place = lowest.0 in
      let below = lowest.1.0 in
      ap (λ (f : Frame). late (ranked columns f (replicate 8 1)) (f.count - 1)) framed
      ∙ ap (λ (p : ℕ). late (ranked columns (frame_of t t.interval) (replicate 8 1)) (t.count - p)) (sym lowest.1.1)
      ∙ ap₂ is_late (filled place below).deadline (response-ranked t good columns filled t.interval (replicate 8 1) (replicate 8 1) ones-beside 65535 place below)
      ∙ lowest-late-same t place lowest.1 (replicate 8 1) (own_choice t) ones-within (own-allowed t good).each
      ∙ sym (lowest-tested t good place lowest.1)

-- tasks in order can all have fault priority 1
pub ones-chosen : (columns : List ℕ) (frame : Frame) → InOrder (ranked columns frame []) → ChosenIn (ranked columns frame (replicate 8 1))
ones-chosen columns frame order rank below =
    let one = get_or-replicate {A = ℕ} 8 rank 1 0 (omega (arith, order.few)) in
    (omega arith, omega (arith, order.priority rank below))
