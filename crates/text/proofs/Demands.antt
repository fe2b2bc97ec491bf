-- The demands on text sheets in the request's words. Assumes nothing.
use Prim.Native.Nat.{ℕ, suc, ◌-◌, ◌*◌, ◌/◌, ◌≤◌, ◌<◌, min}
use mathlib.Core.Path.{◌≡◌, refl, sym, ap, ap₂, ◌∙◌, subst}
use mathlib.Core.Bool.{Bool, true, false, not, ◌&&◌, ◌||◌}
use mathlib.Core.Logic.{◌↔◌}
use mathlib.Core.List.{List, [], ◌∷◌, ◌++◌}
use native.Mathlib.Nat.{div-one, div-mul-le_self}
use native.Mathlib.Omega.{arith}
use borrow.Author.Tests.{eq-eqb, ne_eqb, le-ltb, not-true}
use lib.Dec.{eqb}
use lib.ListN.{length, get_or, take, drop}
use lib.Seq.{take_at, take_all, take-length}
use Rattle.places.proofs.Refusals.{none_of}
use Rattle.cells.specs.declared.Name.{Name}
use Rattle.sheet.specs.declared.Table.{Table}
use Rattle.sheet.specs.Layout.{record_at, is_whole, cleared, table_of}
use Rattle.sheet.specs.Rules.{sheet_refusal, table_refusal}
use Rattle.sheet.specs.Answers.{write_answer, write_leaves}
use Rattle.sheet.proofs.Spelled.{Bytes, Sized}
use Rattle.sheet.proofs.Cases.{good-sheet, good-table, table-records, outside-within}
use Rattle.sheet.proofs.Agree.{records-agree, room_at}
use Rattle.sheet.proofs.Demands.{read-good, table-good, written_back}
use Rattle.sheet.proofs.Return.{Wide, share-small, sized-at}
use Rattle.places.proofs.Onto.{Numbering}
use Rattle.lines.specs.declared.Layout.{Layout}
use Rattle.lines.specs.declared.Trouble.{Trouble}
use Rattle.lines.specs.declared.Figures.{Figures}
use Rattle.lines.specs.declared.Reading.{Reading}
use Rattle.lines.specs.declared.Understood.{Understood}
use Rattle.lines.specs.Troubles.{after, no_trouble, no_reading, is_refused}
use Rattle.cells.specs.Cells.{part_of, turned}
use Rattle.lines.specs.Answers.{has_mark, unmarked, content_taken, line_taken, no_figures, figures_of, ended_at, answered, answer_at}
use Rattle.lines.specs.Moved.{unlined_answer}
use Rattle.lines.proofs.Sound.{Sound, fine, placed, after-some, ended-sound, taken-sound}
use Rattle.longer_ticks.specs.Scaled.{scaled_tasks, NoneLate}
use Rattle.analysis.specs.Published.Response.{response_within, passes}
use Rattle.analysis.specs.Assured.Time.{assured_within, assured}
use Rattle.analysis.proofs.Laws.Common.Reordered.{SameTasks}
use Rattle.text.specs.declared.Scan.{Scan}
use Rattle.text.specs.declared.Fitted.{Fitted}
use Rattle.text.specs.Texts.{scan_start, reading_of, line_ended, commented, gathered, step, scanned}
use Rattle.text.specs.Lines.{with_first, lines_of, said, held_of, is_long, read_with, answer_of}
use Rattle.text.specs.Scaling.{up, least_up, least_down, task_of, share_scale, scaled_table, divides, scaled_by}
use Rattle.text.specs.Unscaled.{unscaled_tasks, table_tasks}
use Rattle.text.specs.Shown.{task_numbers, shown_text, text_size}
use Rattle.text.specs.Named.{name_at, named_text, named_size, named_refusal, named_answer, named_leaves}
use Rattle.text.specs.Written.{Separator, written_text}
use Rattle.text.specs.Answers.{understood, read_answer, show_refusal, show_answer, show_leaves}
use Rattle.text.proofs.Scales.{up-covers, least-up-is, least-down-is}
use Rattle.text.proofs.Lines.{Some, some, lines-some, by_lines}
use Rattle.text.proofs.Regained.{read-nothing}
use Rattle.text.proofs.Later.{lines-joined, read_all, number_after, answer-joined, after_two, after-lines, answers-alike, self-alike}
use Rattle.text.proofs.Called.{Proper}
use Rattle.text.proofs.Long.{text-long, named-long}
use Rattle.text.proofs.Sheets.{sheet-wide, sheet-cleared}
use Rattle.text.proofs.Back.{Stage, Reaches, text-reach, reaches-answer, reaches-figured}
use Rattle.text.proofs.Rescaled.{up_one, scaled-again}
use Rattle.text.proofs.Unscaled.{figures-same, figures-pass, figures-assured}
use Rattle.text.proofs.Written.{written-reach}
use Rattle.text.proofs.Renamed.{named-reach}

-- a text in two parts
pub scanned-joined : (s : Scan) (a b : List ℕ) → scanned s (a ++ b) ≡ scanned (scanned s a) b
unfolding scanned
scanned-joined s [] b = refl
scanned-joined s (byte ∷ a) b = scanned-joined (step s byte) a b

-- a text may come in any pieces
pub in_pieces : (a b : List ℕ) → read_answer (a ++ b) ≡ understood (scanned (scanned scan_start a) b)
unfolding read_answer
in_pieces a b = ap understood (scanned-joined scan_start a b)

-- "any bytes at all get an answer": figures, or what is not understood, with a number of its own and its line and column, and no figures beside it
pub data Answer : Understood → Type 0 where
  clear : (figures : Figures) → Answer (record { trouble = no_trouble; figures = figures })
  strange : (trouble : Trouble) → 30 ≤ trouble.refusal → trouble.refusal ≤ 44 → 1 ≤ trouble.line → 1 ≤ trouble.column → Answer (record { trouble = trouble; figures = no_figures })

sound-answer : (r : Reading) → Sound r → Answer (answered r)
unfolding answered is_refused
sound-answer r (fine is) = simp (eq-eqb r.trouble.refusal 0 is) (clear (figures_of r))
sound-answer r (placed low high line column) = simp (ne_eqb r.trouble.refusal 0 (λ e. omega arith)) (strange r.trouble low high line column)

-- what a text's lines leave is sound
lines-sound : (lines : List (List ℕ)) (r : Reading) (number : ℕ) → Sound r → 1 ≤ number → Answer (answer_of r number lines)
unfolding answer_of read_with answer_at
lines-sound [] r number sound least = sound-answer (ended_at r number (unmarked number [])) (ended-sound number least (unmarked number []) r sound)
lines-sound (line ∷ []) r number sound least =
    let read = line_taken r number (held_of line) (is_long line) in
    let held = unmarked number (held_of line) in
    sound-answer (ended_at read number held) (ended-sound number least held read (taken-sound number least (held_of line) (is_long line) r sound))
lines-sound (line ∷ next ∷ lines) r number sound least =
    lines-sound (next ∷ lines) (line_taken r number (held_of line) (is_long line)) (after number) (taken-sound number least (held_of line) (is_long line) r sound) (after-some number)

pub any-bytes : (text : List ℕ) → Answer (read_answer text)
any-bytes text = subst Answer (sym (by_lines text)) (lines-sound (lines_of text) no_reading 1 (fine refl) (omega arith))

-- "each line is read for itself": a text is understood as its lines are, one after the other, each before its comment
pub lines-one-by-one : (text : List ℕ) → read_answer text ≡ answer_of no_reading 1 (lines_of text)
lines-one-by-one = by_lines

-- bytes on one line: none of them ends it
unfoldable pub is_one_line : List ℕ → Bool
is_one_line [] = true
is_one_line (byte ∷ bytes) = not (eqb byte 10) && is_one_line bytes

never : false ≡ true → ⊥
never e =
    let z : ◌≡◌ {A = ℕ} 0 1 = cc in
    omega arith

one-first : (p q : Bool) → (p && q) ≡ true → (p ≡ true) × (q ≡ true)
one-first true q e = (refl, e)
one-first false q e = absurd (never e)

-- a line that no longer gathers: in a comment, or longer than what is held
still : (s : Scan) (bytes : List ℕ) → (s.comment || s.over) ≡ true → is_one_line bytes ≡ true → scanned s bytes ≡ s
unfolding scanned is_one_line step gathered
still s [] stops one = refl
still s (byte ∷ bytes) stops one =
    let parts = one-first (not (eqb byte 10)) (is_one_line bytes) one in
    ap (λ (u : Scan). scanned u bytes) (simp (not-true (eqb byte 10) parts.0, stops)) ∙ still s bytes stops parts.1

-- a comment leaves nothing at its line's end
hash-ends : (s : Scan) (c : List ℕ) → s.quoted ≡ false → is_one_line c ≡ true → line_ended (scanned s (35 ∷ c)) ≡ line_ended s
unfolding scanned is_one_line step gathered commented line_ended reading_of
hash-ends s c plain one = go (s.comment || s.over) refl
  where
    go : (stops : Bool) → (s.comment || s.over) ≡ stops → line_ended (scanned s (35 ∷ c)) ≡ line_ended s
    go true e = ap line_ended (still s (35 ∷ c) e one)
    go false e =
        let begun : step s 35 ≡ commented s = simp (e, plain) in
        ap (λ (u : Scan). line_ended (scanned u c)) begun ∙ ap line_ended (still (commented s) c refl one)

-- "`#` begins a comment": with the comment taken out of a line, the text says the same
pub comment-free : (a c b : List ℕ) → (scanned scan_start a).quoted ≡ false → is_one_line c ≡ true → read_answer (a ++ (35 ∷ c) ++ (10 ∷ b)) ≡ read_answer (a ++ (10 ∷ b))
unfolding read_answer scanned step
comment-free a c b plain one =
    ap understood
    (scanned-joined scan_start (a ++ (35 ∷ c)) (10 ∷ b) ∙ ap (λ (u : Scan). scanned (line_ended u) b) (scanned-joined scan_start a (35 ∷ c)) ∙ ap (λ (u : Scan). scanned u b) (hash-ends (scanned scan_start a) c plain one)
    ∙ sym (scanned-joined scan_start a (10 ∷ b)))

-- "a line without content says nothing": with a blank line taken out, the text says the same, a line earlier
pub blank-line-free : (a b : List ℕ) → unlined_answer (read_answer (a ++ (10 ∷ b))) ≡ unlined_answer (read_answer (a ++ (10 ∷ 10 ∷ b)))
unfolding said lines_of read_all number_after
blank-line-free a b =
    let r = read_all no_reading 1 (lines_of a) in
    let n = number_after 1 (lines_of a) in
    let short = by_lines (a ++ (10 ∷ b)) ∙ ap (answer_of no_reading 1) (lines-joined a b) ∙ answer-joined (lines_of a) no_reading 1 (lines-some b) in
    let long =
    by_lines (a ++ (10 ∷ 10 ∷ b)) ∙ ap (answer_of no_reading 1) (lines-joined a (10 ∷ b)) ∙ answer-joined (lines_of a) no_reading 1 (lines-some (10 ∷ b)) ∙ ap (answer_of r n) (lines-joined [] b) ∙ answer-joined ([] ∷ []) r n (lines-some b) in
    ap unlined_answer short ∙ answers-alike (self-alike r) n (after n) (after-lines a) (after_two n (omega (arith, after-lines a))) (lines-some b)
    ∙ sym (ap unlined_answer long ∙ ap (λ (u : Reading). unlined_answer (answer_of u (after n) (lines_of b))) (read-nothing r n [] refl))

-- "a byte order mark at its very start is passed over": with it or without, the text says the same, where the first line has room for it
marked-line : (line : List ℕ) → unmarked 1 (239 ∷ 187 ∷ 191 ∷ line) ≡ line
unfolding unmarked has_mark part_of
marked-line line =
    let stop : min (suc (suc (suc (length line)))) (suc (suc (suc (length line)))) ≡ suc (suc (suc (length line))) = omega arith in
    let start : min 3 (suc (suc (suc (length line)))) ≡ 3 = omega arith in
    let size : suc (suc (suc (length line))) - 3 ≡ length line = omega arith in
    rw (stop, start, size) (take-length line)

unmarked-line : (line : List ℕ) → has_mark line ≡ false → unmarked 1 line ≡ line
unfolding unmarked
unmarked-line line plain = simp plain

module _ (line : List ℕ) (plain : has_mark (said false line) ≡ false) (fits : length (said false line) ≤ 509) where
  mark-held : unmarked 1 (held_of (239 ∷ 187 ∷ 191 ∷ line)) ≡ unmarked 1 (held_of line)
  unfolding held_of said turned
  mark-held =
      let all = take_all 509 (said false line) fits in
      ap (λ (l : List ℕ). unmarked 1 (239 ∷ 187 ∷ 191 ∷ l)) all ∙ marked-line (said false line) ∙ sym (ap (unmarked 1) (take_all 512 (said false line) (omega arith)) ∙ unmarked-line (said false line) plain)

  mark-long : is_long (239 ∷ 187 ∷ 191 ∷ line) ≡ is_long line
  unfolding is_long said turned
  mark-long = le-ltb 512 (suc (suc (suc (length (said false line))))) (omega arith) ∙ sym (le-ltb 512 (length (said false line)) (omega arith))

  mark-read : read_with no_reading 1 (239 ∷ 187 ∷ 191 ∷ line) ≡ read_with no_reading 1 line
  unfolding read_with line_taken
  mark-read = ap₂ (content_taken no_reading 1) mark-held mark-long

  mark-answer : (lines : List (List ℕ)) → answer_of no_reading 1 ((239 ∷ 187 ∷ 191 ∷ line) ∷ lines) ≡ answer_of no_reading 1 (line ∷ lines)
  unfolding answer_of answer_at
  mark-answer [] = ap₂ (λ (r : Reading) (l : List ℕ). answered (ended_at r 1 l)) mark-read mark-held
  mark-answer (next ∷ lines) = ap (λ (r : Reading). answer_of r (after 1) (next ∷ lines)) mark-read

pub mark-free : (text : List ℕ) → has_mark (said false (get_or (lines_of text) 0 [])) ≡ false → length (said false (get_or (lines_of text) 0 [])) ≤ 509 → read_answer (239 ∷ 187 ∷ 191 ∷ text) ≡ read_answer text
unfolding lines_of with_first
mark-free text plain fits = by_lines (239 ∷ 187 ∷ 191 ∷ text) ∙ go (lines-some text) plain fits ∙ sym (by_lines text)
  where
    go : {lines : List (List ℕ)} → Some lines → has_mark (said false (get_or lines 0 [])) ≡ false → length (said false (get_or lines 0 [])) ≤ 509
        → answer_of no_reading 1 (with_first 239 (with_first 187 (with_first 191 lines))) ≡ answer_of no_reading 1 lines
    go (some line lines) p q = mark-answer line p q lines

-- "deadlines never grow": the scaled number, times the scale, is at most the number; "costs never shrink below the exact quotient"
pub scaled-deadline : (n scale : ℕ) → n / scale * scale ≤ n
scaled-deadline n scale = div-mul-le_self n scale

pub scaled-cost : (n scale : ℕ) → 0 < scale → n ≤ up n scale * scale
scaled-cost = up-covers

-- with scale 1 nothing changes
pub scale_one : (n : ℕ) → (up n 1 ≡ n) × (n / 1 ≡ n)
scale_one n = (up_one n, div-one n)

-- "the least scale that makes all fit": a number fits sixteen bits at a scale exactly if that is at least the number's own
pub least-cost : (n scale : ℕ) → 0 < scale → (least_up n ≤ scale) ↔ (up n scale ≤ 65535)
least-cost = least-up-is

pub least-deadline : (n scale : ℕ) → 0 < scale → (least_down n ≤ scale) ↔ (n / scale ≤ 65535)
least-deadline = least-down-is

-- "a whole processor stays whole at every scale": there is nothing to divide, so that no scale is refused for it
pub whole-stays : (figures : Figures) (scale : ℕ) → figures.round ≡ 1 → figures.share ≡ 1 → ((scaled_table figures scale).round ≡ 1) × ((scaled_table figures scale).share ≡ 1) × (divides figures scale ≡ true)
unfolding scaled_table divides share_scale is_whole
whole-stays figures scale round share = simp (round, share) (refl, refl, refl)

-- the table that a scale makes of figures has their tasks in longer ticks, where some of the processor is a supplier's and where it is whole
pub scaled-same : (figures : Figures) (scale : ℕ) → (scaled_by figures scale).refusal ≡ 0 → (figures.round ≡ figures.share → figures.round ≡ 1) → SameTasks (scaled_tasks scale (unscaled_tasks figures)) (table_tasks (scaled_by figures scale).table) (λ k. k)
scaled-same = figures-same

-- "what passes, or is assured, when scaled, passes, or is assured, unscaled": the figures' own tasks, over numbers of any size
pub scaled-passes-unscaled : (figures : Figures) (scale : ℕ) → (scaled_by figures scale).refusal ≡ 0 → passes (table_tasks (scaled_by figures scale).table) ≡ true → NoneLate response_within (unscaled_tasks figures)
scaled-passes-unscaled = figures-pass

pub scaled-assured-unscaled : (figures : Figures) (scale : ℕ) → (scaled_by figures scale).refusal ≡ 0 → assured (table_tasks (scaled_by figures scale).table) ≡ true → NoneLate assured_within (unscaled_tasks figures)
scaled-assured-unscaled = figures-assured

-- a table's records past the count play no part in its refusal
cleared-good : (t : Table) → table_refusal t ≡ 0 → table_refusal (cleared t) ≡ 0
unfolding cleared
cleared-good t good =
    let known = good-table t good in
    sym (table-records (cleared t) (outside-within t.count 8 known.count) known.interval known.share) ∙ records-agree t.count (room_at (record_at t.records) t.count known.count.1) ∙ known.records

-- a text that is understood as figures whose table, as they are, is this one
pub record Says (text : List ℕ) (t : Table) : Type 0 where
  pub clear : (read_answer text).trouble ≡ no_trouble
  pub table : scaled_by (read_answer text).figures 1 ≡ record { refusal = 0; least = 0; table = t }

-- a text that reaches a table's numbers says the table
says-reached : (Columns : Layout → Type 0) (text : List ℕ) (t : Table) → Reaches Columns no_reading 1 text t.interval t.round t.share (λ k. task_numbers (record_at t.records k)) t.count
    → t.count ≤ 8 → ((place : ℕ) → place < t.count → Sized (record_at t.records place)) → t.interval < 65536 → t.round < 65536 → t.share < 65536 → table_refusal (cleared t) ≡ 0 → Says text (cleared t)
says-reached Columns text t reach few sized interval round share good =
    let answer = reaches-answer Columns text t.interval t.round t.share (λ k. task_numbers (record_at t.records k)) t.count reach in
    record {
      clear = ap (λ (u : Understood). u.trouble) answer;
      table = ap (λ (u : Understood). scaled_by u.figures 1) answer ∙ scaled-again (figures_of reach.reading) t (reaches-figured Columns t text reach) few sized interval round share good;
    }

-- "what `show` writes, `write` reads back as the same sheet, for every good sheet": the text of a good table is read as that table, its records past the count zero
pub show-read : (t : Table) → Wide t → table_refusal t ≡ 0 → Says (shown_text t) (cleared t)
show-read t wide refusal =
    let good = good-table t refusal in
    let sized = sized-at t wide good in
    let reach = text-reach t good.count.1 sized wide.interval wide.round (share-small t wide good) in
    says-reached Stage (shown_text t) t reach good.count.1 sized wide.interval wide.round (share-small t wide good) (cleared-good t refusal)

-- "for either separator and any order of columns": written with any separator, its columns named in any order, the table is read as the same table
pub written_read : {separator : ℕ} → Separator separator → (order : ℕ → ℕ) → Numbering 6 order → (t : Table) → Wide t → table_refusal t ≡ 0 → Says (written_text separator order t) (cleared t)
written_read {separator} by-this order numbering t wide refusal =
    let good = good-table t refusal in
    let sized = sized-at t wide good in
    let reach = written-reach by-this order numbering t good.count.1 sized wide.interval wide.round (share-small t wide good) in
    says-reached _ (written_text separator order t) t reach good.count.1 sized wide.interval wide.round (share-small t wide good) (cleared-good t refusal)

-- the same of the bytes that `show` leaves in an output that has room, as many as it says
pub shown-back : (t : Table) (out : List ℕ) → Wide t → show_refusal t out ≡ 0 → Says (take (show_answer t out).size (show_leaves t out)) (cleared t)
unfolding show_answer show_leaves show_refusal
shown-back t out wide fits =
    let refusal = (none_of (table_refusal t) _ fits).0 in
    let good = good-table t refusal in
    let long = text-long t (sized-at t wide good) wide.interval wide.round (share-small t wide good) in
    simp (fits, take_at (shown_text t) (drop (text_size t) out) (text_size t) long) (show-read t wide refusal)

-- "`show` of a text keeps them": a text that says a table, and whose tasks have these names
pub record SaysNamed (text : List ℕ) (t : Table) (names : List Name) : Type 0 where
  pub says : Says text t
  pub called : (place : ℕ) → place < t.count → (task_of (read_answer text).figures.tasks place).name ≡ name_at names place

-- what `show_named` writes is read as the same table with the same names, for every good table and all names that a text can have, which are those that `name_of` gives (`name-proper`)
module _ (t : Table) (names : List Name) (wide : Wide t) (proper : (place : ℕ) → place < t.count → Proper (name_at names place)) where
  pub show-named-read : table_refusal t ≡ 0 → SaysNamed (named_text t names) (cleared t) names
  unfolding cleared figures_of
  show-named-read refusal =
      let good = good-table t refusal in
      let sized = sized-at t wide good in
      let share = share-small t wide good in
      let all = named-reach t names good.count.1 sized proper wide.interval wide.round share in
      let answer = reaches-answer _ (named_text t names) t.interval t.round t.share (λ k. task_numbers (record_at t.records k)) t.count all.reach in
      record {
        says = says-reached _ (named_text t names) t all.reach good.count.1 sized wide.interval wide.round share (cleared-good t refusal);
        called = λ place h. ap (λ (u : Understood). (task_of u.figures.tasks place).name) answer ∙ all.called place h;
      }

  -- the same of the bytes that it leaves in an output that has room, as many as it says
  pub named_back : (out : List ℕ) → named_refusal t out ≡ 0 → SaysNamed (take (named_answer t out).size (named_leaves t names out)) (cleared t) names
  unfolding named_answer named_leaves named_refusal
  named_back out fits =
      let refusal = (none_of (table_refusal t) _ fits).0 in
      let good = good-table t refusal in
      let long = named-long t (sized-at t wide good) wide.interval wide.round (share-small t wide good) names in
      simp (fits, take_at (named_text t names) (drop (named_size t) out) (named_size t) long) (show-named-read refusal)

-- and so from a good sheet's bytes to its text and back: the sheet's table is shown, the text read, and what is read written as the same bytes
pub sheet-back : (s out : List ℕ) → Bytes s → sheet_refusal s ≡ 0 → length s ≤ length out
    → let back = (scaled_by (read_answer (shown_text (table_of s))).figures 1).table in (write_answer back out ≡ record { refusal = 0; written = length s }) × (write_leaves back out ≡ s ++ drop (length s) out)
sheet-back s out byte good long =
    let header = (good-sheet s good).0 in
    let is : (scaled_by (read_answer (shown_text (table_of s))).figures 1).table ≡ table_of s = ap (λ (f : Fitted). f.table) (show-read (table_of s) (sheet-wide s byte header) (table-good s good)).table ∙ sheet-cleared s byte header in
    rw is (rw (read-good s good) at (written_back s out byte good long))

-- "A refusal returns its number with all other figures 0 ..; output buffers stay as they were": showing a table
pub refused-shows-nothing : (t : Table) (out : List ℕ) → (show_refusal t out ≡ 0 → ⊥) → (show_answer t out ≡ record { refusal = show_refusal t out; size = 0 }) × (show_leaves t out ≡ out)
unfolding show_answer show_leaves
refused-shows-nothing t out refused = simp (ne_eqb (show_refusal t out) 0 refused) (refl, refl)
