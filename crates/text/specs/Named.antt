-- The text of a table with its tasks' names, each in quotes before its task's numbers.
use Rattle.std.specs.Prelude.{ℕ, zero, suc, ◌+◌, ◌*◌, min, cond, List, [], ◌∷◌, ◌++◌, eqb, ltb, length, get_or, set, drop, replicate}
use Rattle.places.specs.Places.{joined_below}
use Rattle.places.specs.Refusals.{or_else}
use Rattle.cells.specs.declared.Name.{Name}
use Rattle.sheet.specs.declared.Record.{Record}
use Rattle.sheet.specs.declared.Table.{Table}
use Rattle.sheet.specs.Layout.{table_edition, record_at}
use Rattle.sheet.specs.Rules.{table_refusal}
use Rattle.text.specs.declared.Quote.{Quote}
use Rattle.text.specs.declared.Shown.{Shown}
use Rattle.text.specs.Shown.{task_numbers, row_text, interval_text, share_text}

-- room for a name in quotes, of which each byte may be a quote: blanks
abbrev pub no_quote : Quote
no_quote = record { at = 0; bytes = replicate 66 32 }

-- one byte more
unfoldable pub with_ink : Quote → ℕ → Quote
with_ink quote byte = cond (ltb quote.at 66) (record { at = quote.at + 1; bytes = set quote.bytes quote.at byte }) quote

-- one byte more of the name: "a quote within them is written twice"
unfoldable pub with_letter : Quote → ℕ → Quote
with_letter quote byte = cond (eqb byte 34) (with_ink (with_ink quote 34) 34) (with_ink quote byte)

-- the first bytes of a name
unfoldable pub letters_below : Quote → List ℕ → ℕ → Quote
letters_below quote bytes zero = quote
letters_below quote bytes (suc n) = with_letter (letters_below quote bytes n) (get_or bytes n 0)

-- a name in quotes, blanks after it
unfoldable pub quoted_name : Name → Quote
quoted_name name = with_ink (letters_below (with_ink no_quote 34) name.bytes (min name.length 32)) 34

-- "task", and above its numbers the names of a task's columns
abbrev pub column_names : List ℕ
column_names = 116 ∷ 97 ∷ 115 ∷ 107 ∷ 32 ∷ 32 ∷ 32 ∷ 32 ∷ 32 ∷ 32 ∷ 32 ∷ 32 ∷ 32 ∷ 32 ∷ 32 ∷ 32 ∷ 32 ∷ 32 ∷ 32 ∷ 32 ∷ 32 ∷ 32 ∷ 32 ∷ 32 ∷ 32 ∷ 32 ∷ 32 ∷ 32 ∷ 32 ∷ 32 ∷ 32 ∷ 32 ∷ 32 ∷ 32 ∷ 32 ∷ 32 ∷ 32 ∷ 32 ∷ 32 ∷ 32 ∷ 32 ∷ 32 ∷ 32 ∷ 32 ∷ 32 ∷ 32 ∷ 32 ∷ 32 ∷ 32 ∷ 32 ∷ 32 ∷ 32 ∷ 32 ∷ 32 ∷ 32 ∷ 32 ∷ 32 ∷ 32 ∷ 32 ∷ 32 ∷ 32 ∷ 32 ∷ 32 ∷ 32 ∷ 32 ∷ 32 ∷ 32 ∷ 32 ∷ 112 ∷ 114 ∷ 105 ∷ 111 ∷ 114 ∷ 105 ∷ 116 ∷ 121 ∷ 32 ∷ 32 ∷ 102 ∷ 97 ∷ 117 ∷ 108 ∷ 116 ∷ 32 ∷ 32 ∷ 32 ∷ 99 ∷ 111 ∷ 115 ∷ 116 ∷ 32 ∷ 32 ∷ 98 ∷ 97 ∷ 99 ∷ 107 ∷ 117 ∷ 112 ∷ 32 ∷ 32 ∷ 100 ∷ 101 ∷ 97 ∷ 100 ∷ 108 ∷ 105 ∷ 110 ∷ 101 ∷ 32 ∷ 32 ∷ 112 ∷ 101 ∷ 114 ∷ 105 ∷ 111 ∷ 100 ∷ 10 ∷ []

-- a task's line
unfoldable pub named_row : Name → Record → List ℕ
named_row name task = (quoted_name name).bytes ++ row_text (task_numbers task) 6

-- the name at a place
unfoldable pub name_at : List Name → ℕ → Name
name_at names place = get_or names place (record { length = 0; bytes = [] })

unfoldable pub named_line : List Record → List Name → ℕ → List ℕ
named_line records names place = named_row (name_at names place) (record_at records place)

-- the text of a table with names
unfoldable pub named_text : Table → List Name → List ℕ
named_text t names = interval_text t.interval ++ share_text t.round t.share ++ column_names ++ joined_below (named_line t.records names) t.count

-- its bytes
unfoldable pub named_size : Table → ℕ
named_size t = 139 + 36 * table_edition t + 117 * t.count

-- the refusal of showing it: the table's own, then 11
unfoldable pub named_refusal : Table → List ℕ → ℕ
named_refusal t out = or_else (table_refusal t) (cond (ltb (length out) (named_size t)) 11 0)

-- `show_named`: the refusal beside the number of bytes written, and the output after it
unfoldable pub named_answer : Table → List ℕ → Shown
named_answer t out = record { refusal = named_refusal t out; size = cond (eqb (named_refusal t out) 0) (named_size t) 0 }

unfoldable pub named_leaves : Table → List Name → List ℕ → List ℕ
named_leaves t names out = cond (eqb (named_refusal t out) 0) (named_text t names ++ drop (named_size t) out) out
