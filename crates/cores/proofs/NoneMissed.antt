-- With request 12: no job misses on any core, each core's tasks written as a sheet of their own and replayed by a log of their own. Assumes nothing.
use Prim.Native.Nat.{ℕ, ◌≤◌, ◌<◌}
use mathlib.Core.Path.{◌≡◌, refl, sym, ap, subst, ◌∙◌}
use mathlib.Core.Bool.{Bool, true}
use mathlib.Core.List.{List}
use native.Mathlib.Decide.{dec_lt}
use native.Mathlib.Omega.{arith}
use lib.ListN.{get_or, replicate}
use Rattle.places.proofs.Filled.{filled-past, alike_at}
use Rattle.sheet.specs.declared.Record.{Record}
use Rattle.sheet.specs.declared.Table.{Table}
use Rattle.sheet.specs.Layout.{no_record, record_at, room, table_of, cleared, sheet_of}
use Rattle.sheet.specs.Rules.{table_refusal}
use Rattle.sheet.proofs.Agree.{room_at}
use Rattle.sheet.proofs.Cases.{good-table}
use Rattle.sheet.proofs.Demands.{table-good}
use Rattle.sheet.proofs.Return.{Wide, table_kept}
use Rattle.analysis.specs.Common.Tasks.{Tasks}
use Rattle.analysis.specs.Published.Response.{passes}
use Rattle.analysis.specs.Common.Entries.{own_tasks}
use Rattle.replay.specs.Logs.Answers.{replay_refusal, replay_answer}
use Rattle.replay.proofs.Demands.{sheet-passed}
use Rattle.runs.proofs.Demands.{no-job-missed}
use Rattle.cores.specs.Renumbered.{picked, renumbered, core_tasks, tasks_at}
use Rattle.cores.specs.Tried.{Holds}
use Rattle.cores.proofs.Trying.{core-few, core-good, core-passes, verdict-passes}
use Rattle.cores.proofs.Demands as demands

-- past the count the room is zero
blank : (at : ℕ → Record) (count k : ℕ) → count ≤ k → record_at (room at count) k ≡ no_record
unfolding room record_at
blank at count k high = filled-past at count (replicate 8 no_record) no_record k high ∙ alike_at no_record 8 k

module _ (t : Table) (good : table_refusal t ≡ 0) (test : ℕ → Bool) (n : ℕ) (few : n ≤ t.count) where
  abbrev core : Tasks
  core = core_tasks (own_tasks t) test n

  -- a core's tasks as a table
  abbrev pub core_table : Table
  core_table = record { count = core.count; interval = core.interval; round = core.round; share = core.share; records = room core.at core.count }

  in-room : (j : ℕ) → j < core.count → record_at (room core.at core.count) j ≡ core.at j
  in-room = room_at core.at core.count (core-few t good test n few)

  pub table-holds : Holds core core_table
  table-holds = record { count = refl; interval = refl; round = refl; share = refl; task = in-room }

  -- and, with at least one of them, as a sheet, which holds them
  module _ (wide : Wide t) (some : 1 ≤ core.count) where
    table-wide : Wide core_table
    unfolding core_tasks tasks_at renumbered
    table-wide = record { interval = wide.interval; round = wide.round; period = λ place. go place (dec_lt place core.count) }
      where
        go : (place : ℕ) → Dec (place < core.count) → (record_at (room core.at core.count) place).period < 65536
        go place (yes low) = subst (λ (r : Record). r.period < 65536) (sym (in-room place low)) (wide.period (get_or (picked test n) place 0))
        go place (no past) = subst (λ (r : Record). r.period < 65536) (sym (blank core.at core.count place (omega arith))) (omega arith)

    pub sheet-holds : Holds core (table_of (sheet_of core_table))
    unfolding cleared
    sheet-holds =
        subst (Holds core) (sym (table_kept core_table table-wide (good-table core_table (core-good t good test n few some core_table table-holds))))
        (record {
          count = refl;
          interval = refl;
          round = refl;
          share = refl;
          task = λ j low. room_at (record_at (room core.at core.count)) core.count (core-few t good test n few) j low ∙ in-room j low;
        })

  -- a sheet that holds the tasks of a core that passes misses no job, in any log that its replay accepts
  pub core-misses-none : passes core ≡ true → (sheet log : List ℕ) → Holds core (table_of sheet) → replay_refusal sheet log ≡ 0 → (replay_answer sheet log).counts.missed ≡ 0
  unfolding core_tasks tasks_at renumbered replay_answer
  core-misses-none passing sheet log holds accepted =
      no-job-missed sheet log accepted
      (λ k low. let same = holds.task k (subst (λ (m : ℕ). k < m) holds.count low) in ap (λ (r : Record). r.fault_priority) same ∙ sym (ap (λ (r : Record). r.priority) same))
      (verdict-passes (table_of sheet) (table-good sheet (sheet-passed sheet log accepted)) ∙ core-passes t good test n few (table_of sheet) holds ∙ passing)

-- "no job misses on any core": of a good table placed by first fit on any number of cores, each core's own sheet and log
pub no-core-misses : (t : Table) → table_refusal t ≡ 0 → (number core : ℕ) → 1 ≤ core → (sheet log : List ℕ) → Holds (core_tasks (own_tasks t) (demands.is_on (own_tasks t) number core) t.count) (table_of sheet)
    → replay_refusal sheet log ≡ 0 → (replay_answer sheet log).counts.missed ≡ 0
no-core-misses t good number core some = core-misses-none t good (demands.is_on (own_tasks t) number core) t.count (omega arith) (demands.core-passes (own_tasks t) number core some)
