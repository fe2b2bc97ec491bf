-- The response times and the verdict of a good table, out of its columns by rank, and the least interval. Assumes nothing.
use Prim.Native.Nat.{ℕ, ◌≤◌, ◌<◌}
use mathlib.Core.Path.{◌≡◌, refl, sym, ap, subst, ◌∙◌, fun_ext}
use mathlib.Core.Bool.{Bool}
use mathlib.Core.List.{List}
use native.Mathlib.Omega.{arith}
use Rattle.places.specs.Search.{first_from}
use Rattle.sheet.specs.declared.Table.{Table}
use Rattle.sheet.specs.Rules.{table_refusal}
use Rattle.analysis.specs.declared.common.by_rank.Frame.{Frame}
use Rattle.analysis.specs.Common.Tasks.{Tasks, tasks_of, own_choice}
use Rattle.analysis.specs.Common.Backups.{backup_of, largest_backup, backup_elsewhere, backup_from_fault}
use Rattle.analysis.specs.Common.ByRank.{rank_of, ranked, frame_of, at_interval, ColumnsOf, FaultsOf, InOrder, ChosenIn}
use Rattle.analysis.specs.Published.Equations.{is_between, asked_elsewhere, asked_itself, struck_elsewhere, struck_itself}
use Rattle.analysis.specs.Published.Response.{time_elsewhere, time_itself, response_within, response_time, passes}
use Rattle.analysis.specs.Published.Answers.{least_interval}
use Rattle.analysis.proofs.Demands.{fails-at-1}
use Rattle.analysis.proofs.Laws.Common.Choice.{own-allowed}
use Rattle.analysis.proofs.Laws.Common.Columned.{unfaulted, same-ranked, ranked-order, ranked-chosen}
use Rattle.analysis.proofs.Laws.Published.Halving.{Kept, passing_kept, Between}
use Rattle.analysis.proofs.Laws.Published.Reordered.{time-elsewhere-held, time-itself-held, response-held, passes-held}

-- a record's own fault priority plays no part beside those of a choice
response-unfaulted : (limit : ℕ) (s : Tasks) (i : ℕ) → response_within limit (unfaulted s) i ≡ response_within limit s i
unfolding response_within time_elsewhere time_itself struck_elsewhere struck_itself asked_elsewhere asked_itself is_between backup_elsewhere backup_from_fault largest_backup backup_of
response-unfaulted limit s i = refl

elsewhere-unfaulted : (limit : ℕ) (s : Tasks) (i : ℕ) → time_elsewhere limit (unfaulted s) i ≡ time_elsewhere limit s i
unfolding time_elsewhere struck_elsewhere asked_elsewhere backup_elsewhere largest_backup backup_of
elsewhere-unfaulted limit s i = refl

itself-unfaulted : (limit : ℕ) (s : Tasks) (i : ℕ) → time_itself limit (unfaulted s) i ≡ time_itself limit s i
unfolding time_itself struck_itself asked_itself is_between backup_from_fault largest_backup backup_of
itself-unfaulted limit s i = refl

passes-unfaulted : (s : Tasks) → passes (unfaulted s) ≡ passes s
unfolding passes response_time response_within time_elsewhere time_itself struck_elsewhere struck_itself asked_elsewhere asked_itself is_between backup_elsewhere backup_from_fault largest_backup backup_of
passes-unfaulted s = refl

module _ (t : Table) (good : table_refusal t ≡ 0) (columns : List ℕ) (filled : ColumnsOf t columns) (interval : ℕ) (choice faults : List ℕ) (beside : FaultsOf t choice faults) where
  abbrev tasks : Tasks
  tasks = tasks_of t interval choice

  abbrev held : Tasks
  held = ranked columns (frame_of t interval) faults

  -- the response time at a rank is that of the record's place
  pub response-ranked : (limit place : ℕ) → place < t.count → response_within limit held (rank_of t place) ≡ response_within limit tasks place
  response-ranked limit place below =
      sym (response-held (unfaulted tasks) held (rank_of t) (same-ranked t good columns filled interval choice faults beside) place below limit) ∙ response-unfaulted limit tasks place

  -- and so is each of the two that it is the larger of
  pub elsewhere-ranked : (limit place : ℕ) → place < t.count → time_elsewhere limit held (rank_of t place) ≡ time_elsewhere limit tasks place
  elsewhere-ranked limit place below =
      sym (time-elsewhere-held (unfaulted tasks) held (rank_of t) (same-ranked t good columns filled interval choice faults beside) place below limit) ∙ elsewhere-unfaulted limit tasks place

  pub itself-ranked : (limit place : ℕ) → place < t.count → time_itself limit held (rank_of t place) ≡ time_itself limit tasks place
  itself-ranked limit place below =
      sym (time-itself-held (unfaulted tasks) held (rank_of t) (same-ranked t good columns filled interval choice faults beside) place below limit) ∙ itself-unfaulted limit tasks place

  -- and the verdict is the same
  pub passes-ranked : passes held ≡ passes tasks
  passes-ranked = passes-held (unfaulted tasks) held (rank_of t) (same-ranked t good columns filled interval choice faults beside) ∙ passes-unfaulted tasks

-- whether the tasks in columns pass at an interval
abbrev pub passing_at : List ℕ → Frame → List ℕ → ℕ → Bool
passing_at columns frame faults interval = passes (ranked columns (at_interval frame interval) faults)

-- with the table's own fault priorities, as the least interval is found
module _ (t : Table) (good : table_refusal t ≡ 0) (columns : List ℕ) (filled : ColumnsOf t columns) (faults : List ℕ) (beside : FaultsOf t (own_choice t) faults) (frame : Frame) (same : frame ≡ frame_of t t.interval) where
  abbrev passing : ℕ → Bool
  passing = passing_at columns frame faults

  passing-there : (interval : ℕ) → passing interval ≡ passes (tasks_of t interval (own_choice t))
  passing-there interval = ap (λ (f : Frame). passes (ranked columns (at_interval f interval) faults)) same ∙ passes-ranked t good columns filled interval (own_choice t) faults beside

  -- the tasks stand in order at each interval that is not 0
  pub order-at : (interval : ℕ) → 1 ≤ interval → {at : Frame} → at ≡ at_interval frame interval → InOrder (ranked columns at faults) × ChosenIn (ranked columns at faults)
  order-at interval some e =
      let here = e ∙ ap (λ (f : Frame). at_interval f interval) same in (
        subst (λ (f : Frame). InOrder (ranked columns f faults)) (sym here) (ranked-order t good columns filled interval (own_choice t) faults beside some),
        subst (λ (f : Frame). ChosenIn (ranked columns f faults)) (sym here) (ranked-chosen t good columns filled interval (own_choice t) faults beside (own-allowed t good).each),
      )

  -- what passes at one interval passes at a larger one
  pub kept_at : Kept passing
  kept_at small large some less is = passing-there large ∙ passing_kept t (own_choice t) small large some less (sym (passing-there small) ∙ is)

  -- before the first verdict it is known that 1 fails
  pub begun-at : Between passing 65536 1 65536
  begun-at =
      record {
        apart = (omega arith, omega arith, omega arith);
        below = λ k low high. let only : k ≡ 1 = omega arith in ap passing only ∙ passing-there 1 ∙ fails-at-1 t good (own_choice t);
        above = λ low. absurd (omega arith);
      }

  -- and the first interval that passes is the least
  pub first-at : first_from passing 1 65535 ≡ least_interval t
  unfolding least_interval
  first-at = ap (λ (test : ℕ → Bool). first_from test 1 65535) (fun_ext passing-there)
