-- How long the text of a table is whose numbers have their widths. Assumes nothing.
use Prim.Native.Nat.{ℕ, zero, suc, ◌+◌, ◌*◌, ◌≤◌, ◌<◌}
use mathlib.Core.Path.{◌≡◌, refl, sym, ap, ap₂, ◌∙◌}
use mathlib.Core.Bool.{Bool, true, false, cond}
use mathlib.Core.List.{List, [], ◌∷◌, ◌++◌}
use native.Mathlib.Nat.{mul-zero, mul-suc}
use native.Mathlib.Omega.{arith}
use lib.ListN.{length, get_or, length-append}
use Rattle.places.specs.Places.{joined_below}
use Rattle.cells.specs.declared.Name.{Name}
use Rattle.sheet.specs.declared.Record.{Record}
use Rattle.sheet.specs.declared.Table.{Table}
use Rattle.sheet.specs.Layout.{is_whole, edition_for, table_edition, record_at}
use Rattle.sheet.proofs.Spelled.{Sized}
use Rattle.report.specs.Words.{newline}
use Rattle.text.specs.Shown.{interval_names, share_names, task_names, column_at, cell_text, row_text, task_numbers, interval_text, share_text, task_text, shown_text, text_size}
use Rattle.text.specs.Named.{quoted_name, column_names, named_row, name_at, named_line, named_text, named_size}
use Rattle.text.proofs.Inked.{long-quoted}
use Rattle.text.proofs.Aligned.{short, length-padded, column-wide}

-- numbers of sixteen bits
abbrev pub Narrow : List ℕ → Type 0
Narrow numbers = (place : ℕ) → get_or numbers place 0 < 65536

-- a line of such numbers has its columns and its newline
pub length-cells : (numbers : List ℕ) → Narrow numbers → (count : ℕ) → count ≤ 6 → length (joined_below (cell_text numbers) count) ≡ column_at count
unfolding joined_below cell_text column_at
length-cells numbers narrow zero most = refl
length-cells numbers narrow (suc count) most =
    length-append (joined_below (cell_text numbers) count) (cell_text numbers count)
    ∙ ap₂ ◌+◌ (length-cells numbers narrow count (omega arith)) (length-padded _ _ (omega (arith, short (get_or numbers count 0) (narrow count), (column-wide count (omega arith)).0)))

length-row : (numbers : List ℕ) → Narrow numbers → (count : ℕ) → count ≤ 6 → length (row_text numbers count) ≡ column_at count + 1
unfolding row_text
length-row numbers narrow count most = length-append (joined_below (cell_text numbers) count) newline ∙ ap (λ (n : ℕ). n + 1) (length-cells numbers narrow count most)

-- the first numbers of a line whose others are 0
pub two-narrow : (a b : ℕ) → a < 65536 → b < 65536 → Narrow (a ∷ b ∷ 0 ∷ 0 ∷ 0 ∷ 0 ∷ [])
two-narrow a b p q zero = p
two-narrow a b p q (suc zero) = q
two-narrow a b p q (suc (suc zero)) = omega arith
two-narrow a b p q (suc (suc (suc zero))) = omega arith
two-narrow a b p q (suc (suc (suc (suc zero)))) = omega arith
two-narrow a b p q (suc (suc (suc (suc (suc zero))))) = omega arith
two-narrow a b p q (suc (suc (suc (suc (suc (suc place)))))) = omega arith

pub task-narrow : (r : Record) → Sized r → Narrow (task_numbers r)
unfolding task_numbers
task-narrow r sized zero = omega (arith, sized.priority)
task-narrow r sized (suc zero) = omega (arith, sized.fault)
task-narrow r sized (suc (suc zero)) = sized.cost
task-narrow r sized (suc (suc (suc zero))) = sized.backup
task-narrow r sized (suc (suc (suc (suc zero)))) = sized.deadline
task-narrow r sized (suc (suc (suc (suc (suc zero))))) = sized.period
task-narrow r sized (suc (suc (suc (suc (suc (suc place)))))) = omega arith

length-task : (r : Record) → Sized r → length (row_text (task_numbers r) 6) ≡ 51
unfolding column_at
length-task r sized = length-row (task_numbers r) (task-narrow r sized) 6 (omega arith)

-- lines of one length, one after the other
length-lines : (line : ℕ → List ℕ) (size n : ℕ) → ((place : ℕ) → place < n → length (line place) ≡ size) → length (joined_below line n) ≡ size * n
unfolding joined_below
length-lines line size zero each = sym (mul-zero size)
length-lines line size (suc n) each =
    length-append (joined_below line n) (line n) ∙ ap₂ ◌+◌ (length-lines line size n (λ place h. each place (omega arith))) (each n (omega arith)) ∙ sym (mul-suc size n)

length-share : (round share : ℕ) → round < 65536 → share < 65536 → length (share_text round share) ≡ 36 * edition_for round share
unfolding share_text edition_for column_at
length-share round share p q = go (is_whole round share)
  where
    go : (b : Bool) → length (cond b [] (share_names ++ row_text (round ∷ share ∷ 0 ∷ 0 ∷ 0 ∷ 0 ∷ []) 2)) ≡ 36 * cond b 0 1
    go true = refl
    go false = length-append share_names (row_text (round ∷ share ∷ 0 ∷ 0 ∷ 0 ∷ 0 ∷ []) 2) ∙ ap (λ (n : ℕ). 18 + n) (length-row (round ∷ share ∷ 0 ∷ 0 ∷ 0 ∷ 0 ∷ []) (two-narrow round share p q) 2 (omega arith))

length-interval : (interval : ℕ) → interval < 65536 → length (interval_text interval) ≡ 22
unfolding interval_text column_at
length-interval interval p = length-append interval_names (row_text (interval ∷ 0 ∷ 0 ∷ 0 ∷ 0 ∷ 0 ∷ []) 1) ∙ ap (λ (n : ℕ). 11 + n) (length-row (interval ∷ 0 ∷ 0 ∷ 0 ∷ 0 ∷ 0 ∷ []) (two-narrow interval 0 p (omega arith)) 1 (omega arith))

-- the text has the size that is asked of the output,
module _ (t : Table) (sized : (place : ℕ) → place < t.count → Sized (record_at t.records place)) (interval : t.interval < 65536) (round : t.round < 65536) (share : t.share < 65536) where
  abbrev settings : List ℕ
  settings = interval_text t.interval ++ share_text t.round t.share

  length-settings : length settings ≡ 22 + 36 * table_edition t
  length-settings = length-append (interval_text t.interval) (share_text t.round t.share) ∙ ap₂ ◌+◌ (length-interval t.interval interval) (length-share t.round t.share round share)

  pub text-long : length (shown_text t) ≡ text_size t
  unfolding shown_text text_size task_text
  text-long =
      let lines = joined_below (task_text t.records) t.count in
      omega (arith, length-append (settings ++ task_names) lines, length-append settings task_names, length-settings, length-lines (task_text t.records) 51 t.count (λ place h. length-task (record_at t.records place) (sized place h)))

  -- and so has the one with names
  pub named-long : (names : List Name) → length (named_text t names) ≡ named_size t
  unfolding named_text named_size named_line named_row
  named-long names =
      let lines = joined_below (named_line t.records names) t.count in
      omega (arith, length-append (settings ++ column_names) lines, length-append settings column_names, length-settings, length-lines (named_line t.records names) 117 t.count (λ place h. length-append (quoted_name (name_at names place)).bytes (row_text (task_numbers (record_at t.records place)) 6) ∙ ap₂ ◌+◌ (long-quoted (name_at names place)) (length-task (record_at t.records place) (sized place h))))
