-- One turn more of each definition that a loop computes, and what a fold computes. Assumes nothing.
use Rattle.std.specs.Prelude.{fold}
use Rattle.std.specs.List.{list_any}
use Rattle.std.proofs.lemmas.List.Sums.{fold_more}
use Rattle.std.proofs.lemmas.List.Folds.{list_any_more}
use native.Mathlib.Omega.{arith}
use mathlib.Core.Path.{sym, ap, ◌∙◌}
use Prim.Native.Nat.{zero, suc, ◌≤◌}
use lib.ListN.{take}
use Rattle.text.specs.Scaling.{past_task}
use Prim.Native.Nat.{ℕ, suc, ◌+◌, ◌<◌, max}
use mathlib.Core.Path.{◌≡◌, refl}
use mathlib.Core.Bool.{◌||◌}
use mathlib.Core.List.{List}
use native.Mathlib.Numerals.{add-one}
use lib.ListN.{length, get_or, drop, set}
use lib.Seq.{drop-cons}
use Rattle.lines.specs.declared.Task.{Task}
use Rattle.text.specs.declared.Scan.{Scan}
use Rattle.text.specs.Texts.{step, scanned}
use Rattle.text.specs.Scaling.{least_of, is_high, task_of, least_below, high_below, scaled_task, records_below}

-- the bytes from a place on are the byte there and those after it
pub scanned-more : (s : Scan) (bytes : List ℕ) (at : ℕ) → at < length bytes → scanned s (drop at bytes) ≡ scanned (step s (get_or bytes at 0)) (drop (at + 1) bytes)
unfolding scanned
scanned-more s bytes at below = rw (drop-cons bytes at 0 below, add-one) refl

-- the first tasks of the figures, as the library goes over them
pub least_fold : (least : ℕ) (tasks : List Task) (n : ℕ) → n ≤ length tasks → fold (λ least task. max least (least_of task)) least (take n tasks) ≡ least_below least tasks n
unfolding least_below task_of
least_fold least tasks zero fits = refl
least_fold least tasks (suc n) fits =
    ap (λ k. fold (λ least task. max least (least_of task)) least (take k tasks)) (sym (add-one n)) ∙ fold_more (λ least task. max least (least_of task)) least tasks n past_task (omega arith) ∙ ap (λ k. max k (least_of (task_of tasks n))) (least_fold least tasks n (omega arith))

pub high_any : (tasks : List Task) (n : ℕ) → n ≤ length tasks → list_any is_high (take n tasks) ≡ high_below tasks n
unfolding high_below task_of
high_any tasks zero fits = refl
high_any tasks (suc n) fits =
    ap (λ k. list_any is_high (take k tasks)) (sym (add-one n)) ∙ list_any_more is_high tasks n past_task (omega arith) ∙ ap (λ high. high || is_high (task_of tasks n)) (high_any tasks n (omega arith))

-- one task more of those that are scaled
pub records-more : (tasks : List Task) (place scale : ℕ) → records_below tasks scale (place + 1) ≡ set (records_below tasks scale place) place (scaled_task (task_of tasks place) scale)
unfolding records_below
records-more tasks place scale = rw add-one refl
