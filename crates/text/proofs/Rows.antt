-- Texts and what they are understood as, by computation: each form of text, each of the text's own refusals with its place; figures at a scale; and the text of a table. Assumes nothing.
use Prim.Native.Nat.{ℕ, ◌-◌}
use mathlib.Core.Path.{◌≡◌, refl, ◌∙◌}
use mathlib.Core.List.{List, [], ◌∷◌, ◌++◌}
use lib.ListN.{length, replicate}
use Rattle.places.specs.Places.{joined_below, filled_below, some_below}
use Rattle.places.specs.Refusals.{or_else, first_below}
use Rattle.sheet.specs.declared.Record.{Record}
use Rattle.sheet.specs.declared.Table.{Table}
use Rattle.sheet.specs.Layout.{no_record, record_at, is_whole, edition_for}
use Rattle.sheet.specs.Rules.{outside, taken, refusal_of, record_refusal, records_refusal, wrong_share, table_refusal}
use Rattle.report.specs.Decimal.{decimal_within, decimal}
use Rattle.text.specs.Shown.{padded, cell_text, row_text, task_numbers, interval_text, share_text, task_text, shown_text}
use Rattle.cells.specs.declared.Name.{Name}
use Rattle.lines.specs.declared.Task.{Task}
use Rattle.lines.specs.declared.Figures.{Figures}
use Rattle.lines.specs.declared.Understood.{Understood}
use Rattle.cells.specs.Kinds.{is_blank, is_loose, separates, runs, is_digit, is_point, is_control, lower, is_gap, opens, closes}
use Rattle.cells.specs.Cells.{is_empty, turned, ends_cell, grown, within, span_after, with_cell, cells_after, cells_at_end, cells_from, cells_of, part_of, has_outside, separator_of}
use Rattle.cells.specs.Numbers.{paired, is_quoted, between, is_closed, quotes_refusal, content_of, are_digits, digit_of, with_digit, value_from, why_not, spelled, number_of}
use Rattle.cells.specs.Names.{same, unknown_label, with_stage, with_letter, with_byte, label_from, label_of, is_word, is_named, column_named, column_of, setting_named, setting_of, misspelt, spelled_with, spelled_quote, spelled_after, spelled_from, named_by, name_of, no_name}
use Rattle.lines.specs.Troubles.{after, excerpt_of, start_of, end_of, cell_of, with_trouble, with_settings, with_layout, with_task, is_refused, fails, fails_at_end, task_at, no_trouble, no_reading}
use Rattle.lines.specs.Settings.{is_given, with_setting, begins_number, setting_with, setting_to, is_lone, is_named_line, are_first, is_open, is_pair, no_more, named_read, share_after, pair_read}
use Rattle.lines.specs.Columns.{has_column, with_column, column_as, column_to, missing_column, header_ended}
use Rattle.lines.specs.Tasks.{field_at, numbered, number_as, name_as, cell_as, cell_to, with_fault, with_deadline, filled_task, with_read, task_ended}
use Rattle.lines.specs.Lines.{cell_read, cells_read, header_read, task_with, task_read, columns_read, first_read, early_read, words_read, line_read}
use Rattle.text.specs.Lines.{with_first, lines_of, said, held_of, is_long, read_with, answer_of}
use Rattle.lines.specs.Answers.{has_mark, unmarked, content_taken, line_taken, setting_at, filled_in, figures_of, ended_at, answered, answer_at, no_figures}
use Rattle.text.specs.Scaling.{up, least_up, least_down, number_at, least_of, is_high, task_of, least_first, least_below, high_below, least_scale, scaled_task, records_below, share_scale, scaled_table, divides, not_scaled, judged, scaled_fit, scaled_by}
use Rattle.text.specs.Answers.{read_answer}
use Rattle.text.proofs.Lines.{by_lines}

-- a task's name
abbrev pub called : List ℕ → Name
called bytes = record { length = length bytes; bytes = bytes ++ replicate (32 - length bytes) 0 }

abbrev pub task : ℕ → List ℕ → Name → Task
task line numbers name = record { line = line; numbers = numbers; name = name }

-- the two kinds of answer: figures, and what is not understood with its place
abbrev pub figures : ℕ → ℕ → ℕ → ℕ → ℕ → List Task → Understood
figures count interval round share filled tasks =
    record { trouble = no_trouble; figures = record { count = count; interval = interval; round = round; share = share; filled = filled; tasks = tasks ++ replicate (8 - count) (task_at 0) } }

abbrev pub strange : ℕ → ℕ → ℕ → ℕ → List ℕ → Name → Understood
strange refusal line column field shown name =
    record {
      trouble =
          record {
            refusal = refusal;
            line = line;
            column = column;
            field = field;
            excerpt = record { length = length shown; bytes = shown ++ replicate (20 - length shown) 0 };
            name = name;
          };
      figures = no_figures;
    }

-- a row: a text and its answer
pub data Row : Type 0 where
  reads : List ℕ → Understood → Row

-- each text has its answer
pub data All : List Row → Type 0 where
  none : All []
  one : {text : List ℕ} {answer : Understood} {rest : List Row} → read_answer text ≡ answer → All rest → All (reads text answer ∷ rest)

row : {text : List ℕ} {answer : Understood} {rest : List Row} → answer_of no_reading 1 (lines_of text) ≡ answer → All rest → All (reads text answer ∷ rest)
row {text} e rest = one (by_lines text ∙ e) rest

-- lines and cells
unfoldable pub plain : List Row
plain =
    -- the least sheet, its cells apart by blanks: 200\n1 1 10 20 100 200\n
    reads (50 ∷ 48 ∷ 48 ∷ 10 ∷ 49 ∷ 32 ∷ 49 ∷ 32 ∷ 49 ∷ 48 ∷ 32 ∷ 50 ∷ 48 ∷ 32 ∷ 49 ∷ 48 ∷ 48 ∷ 32 ∷ 50 ∷ 48 ∷ 48 ∷ 10 ∷ []) (figures 1 200 1 1 0 (task 2 (1 ∷ 1 ∷ 10 ∷ 20 ∷ 100 ∷ 200 ∷ []) (no_name) ∷ [])) ∷
    -- without the last newline, and with runs of blanks: 200\n  1   1 10 20 100   200
    reads (50 ∷ 48 ∷ 48 ∷ 10 ∷ 32 ∷ 32 ∷ 49 ∷ 32 ∷ 32 ∷ 32 ∷ 49 ∷ 32 ∷ 49 ∷ 48 ∷ 32 ∷ 50 ∷ 48 ∷ 32 ∷ 49 ∷ 48 ∷ 48 ∷ 32 ∷ 32 ∷ 32 ∷ 50 ∷ 48 ∷ 48 ∷ []) (figures 1 200 1 1 0 (task 2 (1 ∷ 1 ∷ 10 ∷ 20 ∷ 100 ∷ 200 ∷ []) (no_name) ∷ [])) ∷
    -- apart by commas, by semicolons, by tabs: 200\n1,1,10,20,100,200\n
    reads (50 ∷ 48 ∷ 48 ∷ 10 ∷ 49 ∷ 44 ∷ 49 ∷ 44 ∷ 49 ∷ 48 ∷ 44 ∷ 50 ∷ 48 ∷ 44 ∷ 49 ∷ 48 ∷ 48 ∷ 44 ∷ 50 ∷ 48 ∷ 48 ∷ 10 ∷ []) (figures 1 200 1 1 0 (task 2 (1 ∷ 1 ∷ 10 ∷ 20 ∷ 100 ∷ 200 ∷ []) (no_name) ∷ [])) ∷
    -- blanks around a cell, and a separator at the line's end: 200\n1;1; 10 ;20;100;200;\n
    reads (50 ∷ 48 ∷ 48 ∷ 10 ∷ 49 ∷ 59 ∷ 49 ∷ 59 ∷ 32 ∷ 49 ∷ 48 ∷ 32 ∷ 59 ∷ 50 ∷ 48 ∷ 59 ∷ 49 ∷ 48 ∷ 48 ∷ 59 ∷ 50 ∷ 48 ∷ 48 ∷ 59 ∷ 10 ∷ []) (figures 1 200 1 1 0 (task 2 (1 ∷ 1 ∷ 10 ∷ 20 ∷ 100 ∷ 200 ∷ []) (no_name) ∷ [])) ∷
    -- 200\n1\t1\t10\t20\t100\t200\n
    reads (50 ∷ 48 ∷ 48 ∷ 10 ∷ 49 ∷ 9 ∷ 49 ∷ 9 ∷ 49 ∷ 48 ∷ 9 ∷ 50 ∷ 48 ∷ 9 ∷ 49 ∷ 48 ∷ 48 ∷ 9 ∷ 50 ∷ 48 ∷ 48 ∷ 10 ∷ []) (figures 1 200 1 1 0 (task 2 (1 ∷ 1 ∷ 10 ∷ 20 ∷ 100 ∷ 200 ∷ []) (no_name) ∷ [])) ∷
    -- a byte order mark, lines that end in CR LF, a row padded with empty cells: <mark>200;;;;;\r\n1;1;10;20;100;200\r\n
    reads (239 ∷ 187 ∷ 191 ∷ 50 ∷ 48 ∷ 48 ∷ 59 ∷ 59 ∷ 59 ∷ 59 ∷ 59 ∷ 13 ∷ 10 ∷ 49 ∷ 59 ∷ 49 ∷ 59 ∷ 49 ∷ 48 ∷ 59 ∷ 50 ∷ 48 ∷ 59 ∷ 49 ∷ 48 ∷ 48 ∷ 59 ∷ 50 ∷ 48 ∷ 48 ∷ 13 ∷ 10 ∷ []) (figures 1 200 1 1 0 (task 2 (1 ∷ 1 ∷ 10 ∷ 20 ∷ 100 ∷ 200 ∷ []) (no_name) ∷ [])) ∷
    -- cells in quotes: "200"\n"1","1","10","20","100","200"\n
    reads (34 ∷ 50 ∷ 48 ∷ 48 ∷ 34 ∷ 10 ∷ 34 ∷ 49 ∷ 34 ∷ 44 ∷ 34 ∷ 49 ∷ 34 ∷ 44 ∷ 34 ∷ 49 ∷ 48 ∷ 34 ∷ 44 ∷ 34 ∷ 50 ∷ 48 ∷ 34 ∷ 44 ∷ 34 ∷ 49 ∷ 48 ∷ 48 ∷ 34 ∷ 44 ∷ 34 ∷ 50 ∷ 48 ∷ 48 ∷ 34 ∷ 10 ∷ []) (figures 1 200 1 1 0 (task 2 (1 ∷ 1 ∷ 10 ∷ 20 ∷ 100 ∷ 200 ∷ []) (no_name) ∷ [])) ∷
    -- a comment, a line without content, leading zeros: # a box\n\n0200 # E\n01 1 010 20 100 00200\n
    reads (35 ∷ 32 ∷ 97 ∷ 32 ∷ 98 ∷ 111 ∷ 120 ∷ 10 ∷ 10 ∷ 48 ∷ 50 ∷ 48 ∷ 48 ∷ 32 ∷ 35 ∷ 32 ∷ 69 ∷ 10 ∷ 48 ∷ 49 ∷ 32 ∷ 49 ∷ 32 ∷ 48 ∷ 49 ∷ 48 ∷ 32 ∷ 50 ∷ 48 ∷ 32 ∷ 49 ∷ 48 ∷ 48 ∷ 32 ∷ 48 ∷ 48 ∷ 50 ∷ 48 ∷ 48 ∷ 10 ∷ []) (figures 1 200 1 1 0 (task 4 (1 ∷ 1 ∷ 10 ∷ 20 ∷ 100 ∷ 200 ∷ []) (no_name) ∷ [])) ∷
    []

pub plain-read : All plain
unfolding plain is_blank is_loose separates runs is_digit is_point is_control lower is_gap opens closes is_empty turned ends_cell grown within span_after with_cell cells_after cells_at_end cells_from cells_of part_of has_outside separator_of paired is_quoted between is_closed quotes_refusal content_of are_digits digit_of with_digit value_from why_not spelled number_of same unknown_label with_stage with_letter with_byte label_from label_of is_word is_named column_named column_of setting_named setting_of misspelt spelled_with spelled_quote spelled_after spelled_from named_by name_of after excerpt_of start_of end_of cell_of with_trouble with_settings with_layout with_task is_refused fails fails_at_end is_given with_setting begins_number setting_with setting_to is_lone is_named_line are_first is_open is_pair no_more named_read share_after pair_read has_column with_column column_as column_to missing_column header_ended field_at numbered number_as name_as cell_as cell_to with_fault with_deadline filled_task with_read task_ended cell_read cells_read header_read task_with task_read columns_read first_read early_read words_read line_read filled_below with_first lines_of said held_of is_long read_with answer_of has_mark unmarked content_taken line_taken setting_at filled_in figures_of ended_at answered answer_at
plain-read = row refl (row refl (row refl (row refl (row refl (row refl (row refl (row refl none)))))))

-- settings and columns by name
unfoldable pub named : List Row
named =
    -- settings by their names: E = 200\nQ: 20\nshare;19\n1 1 10 20 100 200\n
    reads (69 ∷ 32 ∷ 61 ∷ 32 ∷ 50 ∷ 48 ∷ 48 ∷ 10 ∷ 81 ∷ 58 ∷ 32 ∷ 50 ∷ 48 ∷ 10 ∷ 115 ∷ 104 ∷ 97 ∷ 114 ∷ 101 ∷ 59 ∷ 49 ∷ 57 ∷ 10 ∷ 49 ∷ 32 ∷ 49 ∷ 32 ∷ 49 ∷ 48 ∷ 32 ∷ 50 ∷ 48 ∷ 32 ∷ 49 ∷ 48 ∷ 48 ∷ 32 ∷ 50 ∷ 48 ∷ 48 ∷ 10 ∷ []) (figures 1 200 20 19 0 (task 4 (1 ∷ 1 ∷ 10 ∷ 20 ∷ 100 ∷ 200 ∷ []) (no_name) ∷ [])) ∷
    -- round and share on a line of their own: Interval 200\n20 19\n1 1 10 20 100 200\n
    reads (73 ∷ 110 ∷ 116 ∷ 101 ∷ 114 ∷ 118 ∷ 97 ∷ 108 ∷ 32 ∷ 50 ∷ 48 ∷ 48 ∷ 10 ∷ 50 ∷ 48 ∷ 32 ∷ 49 ∷ 57 ∷ 10 ∷ 49 ∷ 32 ∷ 49 ∷ 32 ∷ 49 ∷ 48 ∷ 32 ∷ 50 ∷ 48 ∷ 32 ∷ 49 ∷ 48 ∷ 48 ∷ 32 ∷ 50 ∷ 48 ∷ 48 ∷ 10 ∷ []) (figures 1 200 20 19 0 (task 3 (1 ∷ 1 ∷ 10 ∷ 20 ∷ 100 ∷ 200 ∷ []) (no_name) ∷ [])) ∷
    -- columns by name, in another order: 200\ncost backup deadline period priority fault\n10 20 100 200 1 1\n
    reads (50 ∷ 48 ∷ 48 ∷ 10 ∷ 99 ∷ 111 ∷ 115 ∷ 116 ∷ 32 ∷ 98 ∷ 97 ∷ 99 ∷ 107 ∷ 117 ∷ 112 ∷ 32 ∷ 100 ∷ 101 ∷ 97 ∷ 100 ∷ 108 ∷ 105 ∷ 110 ∷ 101 ∷ 32 ∷ 112 ∷ 101 ∷ 114 ∷ 105 ∷ 111 ∷ 100 ∷ 32 ∷ 112 ∷ 114 ∷ 105 ∷ 111 ∷ 114 ∷ 105 ∷ 116 ∷ 121 ∷ 32 ∷ 102 ∷ 97 ∷ 117 ∷ 108 ∷ 116 ∷ 10 ∷ 49 ∷ 48 ∷ 32 ∷ 50 ∷ 48 ∷ 32 ∷ 49 ∷ 48 ∷ 48 ∷ 32 ∷ 50 ∷ 48 ∷ 48 ∷ 32 ∷ 49 ∷ 32 ∷ 49 ∷ 10 ∷ []) (figures 1 200 1 1 0 (task 3 (1 ∷ 1 ∷ 10 ∷ 20 ∷ 100 ∷ 200 ∷ []) (no_name) ∷ [])) ∷
    -- names in any case, units in brackets, a task's name in quotes: 200\nTask;Cost (10us);B;Fault_Priority;T;p;Deadline [ms]\n"a;b ""c""";10;20;1;200;1;100\n
    reads (50 ∷ 48 ∷ 48 ∷ 10 ∷ 84 ∷ 97 ∷ 115 ∷ 107 ∷ 59 ∷ 67 ∷ 111 ∷ 115 ∷ 116 ∷ 32 ∷ 40 ∷ 49 ∷ 48 ∷ 117 ∷ 115 ∷ 41 ∷ 59 ∷ 66 ∷ 59 ∷ 70 ∷ 97 ∷ 117 ∷ 108 ∷ 116 ∷ 95 ∷ 80 ∷ 114 ∷ 105 ∷ 111 ∷ 114 ∷ 105 ∷ 116 ∷ 121 ∷ 59 ∷ 84 ∷ 59 ∷ 112 ∷ 59 ∷ 68 ∷ 101 ∷ 97 ∷ 100 ∷ 108 ∷ 105 ∷ 110 ∷ 101 ∷ 32 ∷ 91 ∷ 109 ∷ 115 ∷ 93 ∷ 10 ∷ 34 ∷ 97 ∷ 59 ∷ 98 ∷ 32 ∷ 34 ∷ 34 ∷ 99 ∷ 34 ∷ 34 ∷ 34 ∷ 59 ∷ 49 ∷ 48 ∷ 59 ∷ 50 ∷ 48 ∷ 59 ∷ 49 ∷ 59 ∷ 50 ∷ 48 ∷ 48 ∷ 59 ∷ 49 ∷ 59 ∷ 49 ∷ 48 ∷ 48 ∷ 10 ∷ []) (figures 1 200 1 1 0 (task 3 (1 ∷ 1 ∷ 10 ∷ 20 ∷ 100 ∷ 200 ∷ []) (called (97 ∷ 59 ∷ 98 ∷ 32 ∷ 34 ∷ 99 ∷ 34 ∷ [])) ∷ [])) ∷
    -- without columns for the fault priority and the deadline: 200\np,c,b,t\n1,10,20,200\n
    reads (50 ∷ 48 ∷ 48 ∷ 10 ∷ 112 ∷ 44 ∷ 99 ∷ 44 ∷ 98 ∷ 44 ∷ 116 ∷ 10 ∷ 49 ∷ 44 ∷ 49 ∷ 48 ∷ 44 ∷ 50 ∷ 48 ∷ 44 ∷ 50 ∷ 48 ∷ 48 ∷ 10 ∷ []) (figures 1 200 1 1 3 (task 3 (1 ∷ 1 ∷ 10 ∷ 20 ∷ 200 ∷ 200 ∷ []) (no_name) ∷ [])) ∷
    -- numbers of more than sixteen bits: 200000\n1 1 10 20 100000 200000\n
    reads (50 ∷ 48 ∷ 48 ∷ 48 ∷ 48 ∷ 48 ∷ 10 ∷ 49 ∷ 32 ∷ 49 ∷ 32 ∷ 49 ∷ 48 ∷ 32 ∷ 50 ∷ 48 ∷ 32 ∷ 49 ∷ 48 ∷ 48 ∷ 48 ∷ 48 ∷ 48 ∷ 32 ∷ 50 ∷ 48 ∷ 48 ∷ 48 ∷ 48 ∷ 48 ∷ 10 ∷ []) (figures 1 200000 1 1 0 (task 2 (1 ∷ 1 ∷ 10 ∷ 20 ∷ 100000 ∷ 200000 ∷ []) (no_name) ∷ [])) ∷
    -- no task line: 200\n
    reads (50 ∷ 48 ∷ 48 ∷ 10 ∷ []) (figures 0 200 1 1 3 ([])) ∷
    []

pub named-read : All named
unfolding named is_blank is_loose separates runs is_digit is_point is_control lower is_gap opens closes is_empty turned ends_cell grown within span_after with_cell cells_after cells_at_end cells_from cells_of part_of has_outside separator_of paired is_quoted between is_closed quotes_refusal content_of are_digits digit_of with_digit value_from why_not spelled number_of same unknown_label with_stage with_letter with_byte label_from label_of is_word is_named column_named column_of setting_named setting_of misspelt spelled_with spelled_quote spelled_after spelled_from named_by name_of after excerpt_of start_of end_of cell_of with_trouble with_settings with_layout with_task is_refused fails fails_at_end is_given with_setting begins_number setting_with setting_to is_lone is_named_line are_first is_open is_pair no_more named_read share_after pair_read has_column with_column column_as column_to missing_column header_ended field_at numbered number_as name_as cell_as cell_to with_fault with_deadline filled_task with_read task_ended cell_read cells_read header_read task_with task_read columns_read first_read early_read words_read line_read filled_below with_first lines_of said held_of is_long read_with answer_of has_mark unmarked content_taken line_taken setting_at filled_in figures_of ended_at answered answer_at
named-read = row refl (row refl (row refl (row refl (row refl (row refl (row refl none))))))

-- cells that are not understood
unfoldable pub cellwise : List Row
cellwise =
    -- an empty fault cell before a decimal comma: 200\n4;;2,5;10;50;50\n
    reads (50 ∷ 48 ∷ 48 ∷ 10 ∷ 52 ∷ 59 ∷ 59 ∷ 50 ∷ 44 ∷ 53 ∷ 59 ∷ 49 ∷ 48 ∷ 59 ∷ 53 ∷ 48 ∷ 59 ∷ 53 ∷ 48 ∷ 10 ∷ []) (strange 35 2 3 2 ([]) no_name) ∷
    -- a decimal comma alone: 200\n4;4;2,5;10;50;50\n
    reads (50 ∷ 48 ∷ 48 ∷ 10 ∷ 52 ∷ 59 ∷ 52 ∷ 59 ∷ 50 ∷ 44 ∷ 53 ∷ 59 ∷ 49 ∷ 48 ∷ 59 ∷ 53 ∷ 48 ∷ 59 ∷ 53 ∷ 48 ∷ 10 ∷ []) (strange 36 2 5 3 (50 ∷ 44 ∷ 53 ∷ []) no_name) ∷
    -- an empty cell: 200\n1,1,,5,50,60,70\n
    reads (50 ∷ 48 ∷ 48 ∷ 10 ∷ 49 ∷ 44 ∷ 49 ∷ 44 ∷ 44 ∷ 53 ∷ 44 ∷ 53 ∷ 48 ∷ 44 ∷ 54 ∷ 48 ∷ 44 ∷ 55 ∷ 48 ∷ 10 ∷ []) (strange 35 2 5 3 ([]) no_name) ∷
    -- one cell too many: 200\n1,1,5,5,50,60,70\n
    reads (50 ∷ 48 ∷ 48 ∷ 10 ∷ 49 ∷ 44 ∷ 49 ∷ 44 ∷ 53 ∷ 44 ∷ 53 ∷ 44 ∷ 53 ∷ 48 ∷ 44 ∷ 54 ∷ 48 ∷ 44 ∷ 55 ∷ 48 ∷ 10 ∷ []) (strange 32 2 15 0 (55 ∷ 48 ∷ []) no_name) ∷
    -- a cell that is missing: 200\n1;1;10\n
    reads (50 ∷ 48 ∷ 48 ∷ 10 ∷ 49 ∷ 59 ∷ 49 ∷ 59 ∷ 49 ∷ 48 ∷ 10 ∷ []) (strange 33 2 7 4 ([]) no_name) ∷
    -- 200\n1 1 10 # 20\n
    reads (50 ∷ 48 ∷ 48 ∷ 10 ∷ 49 ∷ 32 ∷ 49 ∷ 32 ∷ 49 ∷ 48 ∷ 32 ∷ 35 ∷ 32 ∷ 50 ∷ 48 ∷ 10 ∷ []) (strange 33 2 8 4 ([]) no_name) ∷
    -- whole ticks: 12.5\n
    reads (49 ∷ 50 ∷ 46 ∷ 53 ∷ 10 ∷ []) (strange 36 1 1 0 (49 ∷ 50 ∷ 46 ∷ 53 ∷ []) no_name) ∷
    -- a minus sign: 200\n1 1 -12 20 100 200\n
    reads (50 ∷ 48 ∷ 48 ∷ 10 ∷ 49 ∷ 32 ∷ 49 ∷ 32 ∷ 45 ∷ 49 ∷ 50 ∷ 32 ∷ 50 ∷ 48 ∷ 32 ∷ 49 ∷ 48 ∷ 48 ∷ 32 ∷ 50 ∷ 48 ∷ 48 ∷ 10 ∷ []) (strange 37 2 5 3 (45 ∷ 49 ∷ 50 ∷ []) no_name) ∷
    -- a unit at a number: 200\n1 1 12ms 20 100 200\n
    reads (50 ∷ 48 ∷ 48 ∷ 10 ∷ 49 ∷ 32 ∷ 49 ∷ 32 ∷ 49 ∷ 50 ∷ 109 ∷ 115 ∷ 32 ∷ 50 ∷ 48 ∷ 32 ∷ 49 ∷ 48 ∷ 48 ∷ 32 ∷ 50 ∷ 48 ∷ 48 ∷ 10 ∷ []) (strange 30 2 5 3 (49 ∷ 50 ∷ 109 ∷ 115 ∷ []) no_name) ∷
    -- a quote after a number: 200\n1;1;6";20;100;200\n
    reads (50 ∷ 48 ∷ 48 ∷ 10 ∷ 49 ∷ 59 ∷ 49 ∷ 59 ∷ 54 ∷ 34 ∷ 59 ∷ 50 ∷ 48 ∷ 59 ∷ 49 ∷ 48 ∷ 48 ∷ 59 ∷ 50 ∷ 48 ∷ 48 ∷ 10 ∷ []) (strange 30 2 5 3 (54 ∷ 34 ∷ 59 ∷ 50 ∷ 48 ∷ 59 ∷ 49 ∷ 48 ∷ 48 ∷ 59 ∷ 50 ∷ 48 ∷ 48 ∷ []) no_name) ∷
    []

pub cellwise-read : All cellwise
unfolding cellwise is_blank is_loose separates runs is_digit is_point is_control lower is_gap opens closes is_empty turned ends_cell grown within span_after with_cell cells_after cells_at_end cells_from cells_of part_of has_outside separator_of paired is_quoted between is_closed quotes_refusal content_of are_digits digit_of with_digit value_from why_not spelled number_of same unknown_label with_stage with_letter with_byte label_from label_of is_word is_named column_named column_of setting_named setting_of misspelt spelled_with spelled_quote spelled_after spelled_from named_by name_of after excerpt_of start_of end_of cell_of with_trouble with_settings with_layout with_task is_refused fails fails_at_end is_given with_setting begins_number setting_with setting_to is_lone is_named_line are_first is_open is_pair no_more named_read share_after pair_read has_column with_column column_as column_to missing_column header_ended field_at numbered number_as name_as cell_as cell_to with_fault with_deadline filled_task with_read task_ended cell_read cells_read header_read task_with task_read columns_read first_read early_read words_read line_read filled_below with_first lines_of said held_of is_long read_with answer_of has_mark unmarked content_taken line_taken setting_at filled_in figures_of ended_at answered answer_at
cellwise-read = row refl (row refl (row refl (row refl (row refl (row refl (row refl (row refl (row refl (row refl none)))))))))

-- columns and names that are not understood
unfoldable pub headed : List Row
headed =
    -- a column that is not known: 200\ntask;p;c;b;colour\n
    reads (50 ∷ 48 ∷ 48 ∷ 10 ∷ 116 ∷ 97 ∷ 115 ∷ 107 ∷ 59 ∷ 112 ∷ 59 ∷ 99 ∷ 59 ∷ 98 ∷ 59 ∷ 99 ∷ 111 ∷ 108 ∷ 111 ∷ 117 ∷ 114 ∷ 10 ∷ []) (strange 38 2 12 0 (99 ∷ 111 ∷ 108 ∷ 111 ∷ 117 ∷ 114 ∷ []) no_name) ∷
    -- a column twice: 200\ntask;p;c;b;C\n
    reads (50 ∷ 48 ∷ 48 ∷ 10 ∷ 116 ∷ 97 ∷ 115 ∷ 107 ∷ 59 ∷ 112 ∷ 59 ∷ 99 ∷ 59 ∷ 98 ∷ 59 ∷ 67 ∷ 10 ∷ []) (strange 39 2 12 3 (67 ∷ []) no_name) ∷
    -- a column that is missing: 200\ntask;p;c;t\n
    reads (50 ∷ 48 ∷ 48 ∷ 10 ∷ 116 ∷ 97 ∷ 115 ∷ 107 ∷ 59 ∷ 112 ∷ 59 ∷ 99 ∷ 59 ∷ 116 ∷ 10 ∷ []) (strange 40 2 11 4 ([]) no_name) ∷
    -- a name of more than 32 bytes: 200\nname;p;c;b;t\nan unusually long name of a task x;1;10;20;200\n
    reads (50 ∷ 48 ∷ 48 ∷ 10 ∷ 110 ∷ 97 ∷ 109 ∷ 101 ∷ 59 ∷ 112 ∷ 59 ∷ 99 ∷ 59 ∷ 98 ∷ 59 ∷ 116 ∷ 10 ∷ 97 ∷ 110 ∷ 32 ∷ 117 ∷ 110 ∷ 117 ∷ 115 ∷ 117 ∷ 97 ∷ 108 ∷ 108 ∷ 121 ∷ 32 ∷ 108 ∷ 111 ∷ 110 ∷ 103 ∷ 32 ∷ 110 ∷ 97 ∷ 109 ∷ 101 ∷ 32 ∷ 111 ∷ 102 ∷ 32 ∷ 97 ∷ 32 ∷ 116 ∷ 97 ∷ 115 ∷ 107 ∷ 32 ∷ 120 ∷ 59 ∷ 49 ∷ 59 ∷ 49 ∷ 48 ∷ 59 ∷ 50 ∷ 48 ∷ 59 ∷ 50 ∷ 48 ∷ 48 ∷ 10 ∷ []) (strange 41 3 1 7 (97 ∷ 110 ∷ 32 ∷ 117 ∷ 110 ∷ 117 ∷ 115 ∷ 117 ∷ 97 ∷ 108 ∷ 108 ∷ 121 ∷ 32 ∷ 108 ∷ 111 ∷ 110 ∷ 103 ∷ 32 ∷ 110 ∷ 97 ∷ []) no_name) ∷
    -- quotes that are not closed: 200\nname;p;c;b;t\n"pump;1;10;20;200\n
    reads (50 ∷ 48 ∷ 48 ∷ 10 ∷ 110 ∷ 97 ∷ 109 ∷ 101 ∷ 59 ∷ 112 ∷ 59 ∷ 99 ∷ 59 ∷ 98 ∷ 59 ∷ 116 ∷ 10 ∷ 34 ∷ 112 ∷ 117 ∷ 109 ∷ 112 ∷ 59 ∷ 49 ∷ 59 ∷ 49 ∷ 48 ∷ 59 ∷ 50 ∷ 48 ∷ 59 ∷ 50 ∷ 48 ∷ 48 ∷ 10 ∷ []) (strange 42 3 1 7 (34 ∷ 112 ∷ 117 ∷ 109 ∷ 112 ∷ 59 ∷ 49 ∷ 59 ∷ 49 ∷ 48 ∷ 59 ∷ 50 ∷ 48 ∷ 59 ∷ 50 ∷ 48 ∷ 48 ∷ []) no_name) ∷
    -- a word for a number, in a task whose name is known: 200\nname;p;c;b;t\npump;1;ten;20;200\n
    reads (50 ∷ 48 ∷ 48 ∷ 10 ∷ 110 ∷ 97 ∷ 109 ∷ 101 ∷ 59 ∷ 112 ∷ 59 ∷ 99 ∷ 59 ∷ 98 ∷ 59 ∷ 116 ∷ 10 ∷ 112 ∷ 117 ∷ 109 ∷ 112 ∷ 59 ∷ 49 ∷ 59 ∷ 116 ∷ 101 ∷ 110 ∷ 59 ∷ 50 ∷ 48 ∷ 59 ∷ 50 ∷ 48 ∷ 48 ∷ 10 ∷ []) (strange 30 3 8 3 (116 ∷ 101 ∷ 110 ∷ []) (called (112 ∷ 117 ∷ 109 ∷ 112 ∷ []))) ∷
    []

pub headed-read : All headed
unfolding headed is_blank is_loose separates runs is_digit is_point is_control lower is_gap opens closes is_empty turned ends_cell grown within span_after with_cell cells_after cells_at_end cells_from cells_of part_of has_outside separator_of paired is_quoted between is_closed quotes_refusal content_of are_digits digit_of with_digit value_from why_not spelled number_of same unknown_label with_stage with_letter with_byte label_from label_of is_word is_named column_named column_of setting_named setting_of misspelt spelled_with spelled_quote spelled_after spelled_from named_by name_of after excerpt_of start_of end_of cell_of with_trouble with_settings with_layout with_task is_refused fails fails_at_end is_given with_setting begins_number setting_with setting_to is_lone is_named_line are_first is_open is_pair no_more named_read share_after pair_read has_column with_column column_as column_to missing_column header_ended field_at numbered number_as name_as cell_as cell_to with_fault with_deadline filled_task with_read task_ended cell_read cells_read header_read task_with task_read columns_read first_read early_read words_read line_read filled_below with_first lines_of said held_of is_long read_with answer_of has_mark unmarked content_taken line_taken setting_at filled_in figures_of ended_at answered answer_at
headed-read = row refl (row refl (row refl (row refl (row refl (row refl none)))))

-- what is missing or too much
unfoldable pub missing : List Row
missing =
    -- a setting twice: E 200\nE 100\n
    reads (69 ∷ 32 ∷ 50 ∷ 48 ∷ 48 ∷ 10 ∷ 69 ∷ 32 ∷ 49 ∷ 48 ∷ 48 ∷ 10 ∷ []) (strange 44 2 1 0 (69 ∷ []) no_name) ∷
    -- two numbers where the interval is to come: 200 5\n
    reads (50 ∷ 48 ∷ 48 ∷ 32 ∷ 53 ∷ 10 ∷ []) (strange 33 1 1 0 (50 ∷ 48 ∷ 48 ∷ []) no_name) ∷
    -- a second number for the interval: interval 200 5\n
    reads (105 ∷ 110 ∷ 116 ∷ 101 ∷ 114 ∷ 118 ∷ 97 ∷ 108 ∷ 32 ∷ 50 ∷ 48 ∷ 48 ∷ 32 ∷ 53 ∷ 10 ∷ []) (strange 32 1 14 0 (53 ∷ []) no_name) ∷
    -- no interval: # nothing\n
    reads (35 ∷ 32 ∷ 110 ∷ 111 ∷ 116 ∷ 104 ∷ 105 ∷ 110 ∷ 103 ∷ 10 ∷ []) (strange 33 2 1 0 ([]) no_name) ∷
    -- columns before the interval: p c b t\n
    reads (112 ∷ 32 ∷ 99 ∷ 32 ∷ 98 ∷ 32 ∷ 116 ∷ 10 ∷ []) (strange 33 1 1 0 (112 ∷ []) no_name) ∷
    -- a ninth task line: 200\n1 1 1 1 1 1\n1 1 1 1 1 1\n1 1 1 1 1 1\n1 1 1 1 1 1\n1 1 1 1 1 1\n1 1 1 1 1 1\n1 1 1 1 1 1\n1 1 1 1 1 1\n1 1 1 1 1 1\n
    reads (50 ∷ 48 ∷ 48 ∷ 10 ∷ 49 ∷ 32 ∷ 49 ∷ 32 ∷ 49 ∷ 32 ∷ 49 ∷ 32 ∷ 49 ∷ 32 ∷ 49 ∷ 10 ∷ 49 ∷ 32 ∷ 49 ∷ 32 ∷ 49 ∷ 32 ∷ 49 ∷ 32 ∷ 49 ∷ 32 ∷ 49 ∷ 10 ∷ 49 ∷ 32 ∷ 49 ∷ 32 ∷ 49 ∷ 32 ∷ 49 ∷ 32 ∷ 49 ∷ 32 ∷ 49 ∷ 10 ∷ 49 ∷ 32 ∷ 49 ∷ 32 ∷ 49 ∷ 32 ∷ 49 ∷ 32 ∷ 49 ∷ 32 ∷ 49 ∷ 10 ∷ 49 ∷ 32 ∷ 49 ∷ 32 ∷ 49 ∷ 32 ∷ 49 ∷ 32 ∷ 49 ∷ 32 ∷ 49 ∷ 10 ∷ 49 ∷ 32 ∷ 49 ∷ 32 ∷ 49 ∷ 32 ∷ 49 ∷ 32 ∷ 49 ∷ 32 ∷ 49 ∷ 10 ∷ 49 ∷ 32 ∷ 49 ∷ 32 ∷ 49 ∷ 32 ∷ 49 ∷ 32 ∷ 49 ∷ 32 ∷ 49 ∷ 10 ∷ 49 ∷ 32 ∷ 49 ∷ 32 ∷ 49 ∷ 32 ∷ 49 ∷ 32 ∷ 49 ∷ 32 ∷ 49 ∷ 10 ∷ 49 ∷ 32 ∷ 49 ∷ 32 ∷ 49 ∷ 32 ∷ 49 ∷ 32 ∷ 49 ∷ 32 ∷ 49 ∷ 10 ∷ []) (strange 34 10 1 0 (49 ∷ []) no_name) ∷
    -- two numbers that are no neighbours are no round and share: 200\n4;;;;;2\n
    reads (50 ∷ 48 ∷ 48 ∷ 10 ∷ 52 ∷ 59 ∷ 59 ∷ 59 ∷ 59 ∷ 59 ∷ 50 ∷ 10 ∷ []) (strange 35 2 3 2 ([]) no_name) ∷
    []

pub missing-read : All missing
unfolding missing is_blank is_loose separates runs is_digit is_point is_control lower is_gap opens closes is_empty turned ends_cell grown within span_after with_cell cells_after cells_at_end cells_from cells_of part_of has_outside separator_of paired is_quoted between is_closed quotes_refusal content_of are_digits digit_of with_digit value_from why_not spelled number_of same unknown_label with_stage with_letter with_byte label_from label_of is_word is_named column_named column_of setting_named setting_of misspelt spelled_with spelled_quote spelled_after spelled_from named_by name_of after excerpt_of start_of end_of cell_of with_trouble with_settings with_layout with_task is_refused fails fails_at_end is_given with_setting begins_number setting_with setting_to is_lone is_named_line are_first is_open is_pair no_more named_read share_after pair_read has_column with_column column_as column_to missing_column header_ended field_at numbered number_as name_as cell_as cell_to with_fault with_deadline filled_task with_read task_ended cell_read cells_read header_read task_with task_read columns_read first_read early_read words_read line_read filled_below with_first lines_of said held_of is_long read_with answer_of has_mark unmarked content_taken line_taken setting_at filled_in figures_of ended_at answered answer_at
missing-read = row refl (row refl (row refl (row refl (row refl (row refl (row refl none))))))

-- a task of document 01's Sheet A, whose two costs, and whose deadline and period, and whose two priorities are equal
abbrev pub equal : ℕ → ℕ → ℕ → Record
equal cost deadline priority = record { cost = cost; backup = cost; deadline = deadline; period = deadline; priority = priority; fault_priority = priority }

-- Sheet A where the supplier has one tick of every twenty, at E = 40, as docs/FORMAT.md shows it
abbrev pub sheet_a : Table
sheet_a = record { count = 3; interval = 40; round = 20; share = 19; records = equal 4 12 3 ∷ equal 3 20 2 ∷ equal 1 35 1 ∷ replicate 5 no_record }

-- its text
pub sheet-shown : shown_text sheet_a ≡ 35 ∷ 32 ∷ 105 ∷ 110 ∷ 116 ∷ 101 ∷ 114 ∷ 118 ∷ 97 ∷ 108 ∷ 10 ∷ 32 ∷ 32 ∷ 32 ∷ 32 ∷ 32 ∷ 32 ∷ 32 ∷ 32 ∷ 52 ∷ 48 ∷ 10 ∷ 35 ∷ 32 ∷ 32 ∷ 32 ∷ 32 ∷ 114 ∷ 111 ∷ 117 ∷ 110 ∷ 100 ∷ 32 ∷ 32 ∷ 115 ∷ 104 ∷ 97 ∷ 114 ∷ 101 ∷ 10 ∷ 32 ∷ 32 ∷ 32 ∷ 32 ∷ 32 ∷ 32 ∷ 32 ∷ 32 ∷ 50 ∷ 48 ∷ 32 ∷ 32 ∷ 32 ∷ 32 ∷ 32 ∷ 49 ∷ 57 ∷ 10 ∷ 35 ∷ 32 ∷ 112 ∷ 114 ∷ 105 ∷ 111 ∷ 114 ∷ 105 ∷ 116 ∷ 121 ∷ 32 ∷ 32 ∷ 102 ∷ 97 ∷ 117 ∷ 108 ∷ 116 ∷ 32 ∷ 32 ∷ 32 ∷ 99 ∷ 111 ∷ 115 ∷ 116 ∷ 32 ∷ 32 ∷ 98 ∷ 97 ∷ 99 ∷ 107 ∷ 117 ∷ 112 ∷ 32 ∷ 32 ∷ 100 ∷ 101 ∷ 97 ∷ 100 ∷ 108 ∷ 105 ∷ 110 ∷ 101 ∷ 32 ∷ 32 ∷ 112 ∷ 101 ∷ 114 ∷ 105 ∷ 111 ∷ 100 ∷ 10 ∷ 32 ∷ 32 ∷ 32 ∷ 32 ∷ 32 ∷ 32 ∷ 32 ∷ 32 ∷ 32 ∷ 51 ∷ 32 ∷ 32 ∷ 32 ∷ 32 ∷ 32 ∷ 32 ∷ 51 ∷ 32 ∷ 32 ∷ 32 ∷ 32 ∷ 32 ∷ 32 ∷ 52 ∷ 32 ∷ 32 ∷ 32 ∷ 32 ∷ 32 ∷ 32 ∷ 32 ∷ 52 ∷ 32 ∷ 32 ∷ 32 ∷ 32 ∷ 32 ∷ 32 ∷ 32 ∷ 32 ∷ 49 ∷ 50 ∷ 32 ∷ 32 ∷ 32 ∷ 32 ∷ 32 ∷ 32 ∷ 49 ∷ 50 ∷ 10 ∷ 32 ∷ 32 ∷ 32 ∷ 32 ∷ 32 ∷ 32 ∷ 32 ∷ 32 ∷ 32 ∷ 50 ∷ 32 ∷ 32 ∷ 32 ∷ 32 ∷ 32 ∷ 32 ∷ 50 ∷ 32 ∷ 32 ∷ 32 ∷ 32 ∷ 32 ∷ 32 ∷ 51 ∷ 32 ∷ 32 ∷ 32 ∷ 32 ∷ 32 ∷ 32 ∷ 32 ∷ 51 ∷ 32 ∷ 32 ∷ 32 ∷ 32 ∷ 32 ∷ 32 ∷ 32 ∷ 32 ∷ 50 ∷ 48 ∷ 32 ∷ 32 ∷ 32 ∷ 32 ∷ 32 ∷ 32 ∷ 50 ∷ 48 ∷ 10 ∷ 32 ∷ 32 ∷ 32 ∷ 32 ∷ 32 ∷ 32 ∷ 32 ∷ 32 ∷ 32 ∷ 49 ∷ 32 ∷ 32 ∷ 32 ∷ 32 ∷ 32 ∷ 32 ∷ 49 ∷ 32 ∷ 32 ∷ 32 ∷ 32 ∷ 32 ∷ 32 ∷ 49 ∷ 32 ∷ 32 ∷ 32 ∷ 32 ∷ 32 ∷ 32 ∷ 32 ∷ 49 ∷ 32 ∷ 32 ∷ 32 ∷ 32 ∷ 32 ∷ 32 ∷ 32 ∷ 32 ∷ 51 ∷ 53 ∷ 32 ∷ 32 ∷ 32 ∷ 32 ∷ 32 ∷ 32 ∷ 51 ∷ 53 ∷ 10 ∷ []
unfolding shown_text interval_text share_text task_text task_numbers row_text cell_text padded joined_below is_whole record_at decimal decimal_within
sheet-shown = refl

-- two tasks of different numbers, at an interval, under a round and a share
abbrev pub pair : ℕ → ℕ → ℕ → Figures
pair interval round share =
    record {
      count = 2;
      interval = interval;
      round = round;
      share = share;
      filled = 0;
      tasks = task 2 (2 ∷ 1 ∷ 110 ∷ 250 ∷ 1090 ∷ 2099 ∷ []) no_name ∷ task 3 (1 ∷ 1 ∷ 301 ∷ 401 ∷ 5900 ∷ 6999 ∷ []) no_name ∷ replicate 6 (task_at 0);
    }

-- the same in ticks a hundred times as long: costs and backups are rounded up, the other times down
abbrev pub hundredths : ℕ → ℕ → ℕ → Table
hundredths interval round share =
    record {
      count = 2;
      interval = interval;
      round = round;
      share = share;
      records =
          record { cost = 2; backup = 3; deadline = 10; period = 20; priority = 2; fault_priority = 1 } ∷ record { cost = 4; backup = 5; deadline = 59; period = 69; priority = 1; fault_priority = 1 } ∷ replicate 6 no_record;
    }

-- a whole processor stays whole, and of a shared one the scale must divide both parts; a number that is too large, beside the least scale that makes all fit; a scale of 0
pub scaled-rows :
    (scaled_by (pair 799 1 1) 100 ≡ record { refusal = 0; least = 0; table = hundredths 7 1 1 })
    × (scaled_by (pair 799 900 700) 100 ≡ record { refusal = 0; least = 0; table = hundredths 7 9 7 })
    × (scaled_by (pair 799 900 730) 100 ≡ not_scaled 45 0)
    × (scaled_by (pair 799 930 700) 100 ≡ not_scaled 45 0)
    × (scaled_by (pair 799 1 2) 100 ≡ not_scaled 45 0)
    × (scaled_by (pair 700000 1 1) 10 ≡ not_scaled 31 11)
    × (scaled_by (pair 799 1 1) 0 ≡ not_scaled 46 0)
unfolding up least_up least_down number_at least_of is_high task_of least_first least_below high_below least_scale scaled_task records_below share_scale scaled_table divides judged scaled_fit scaled_by or_else first_below some_below is_whole edition_for record_at outside wrong_share taken refusal_of record_refusal records_refusal table_refusal
scaled-rows = (refl, refl, refl, refl, refl, refl, refl)
