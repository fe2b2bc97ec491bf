-- What a text is understood as but for the lines' numbers: where it says the same on other lines.
use Rattle.std.specs.Prelude.{List, [], ◌∷◌}
use Rattle.lines.specs.declared.Trouble.{Trouble}
use Rattle.lines.specs.declared.Task.{Task}
use Rattle.lines.specs.declared.Figures.{Figures}
use Rattle.lines.specs.declared.Understood.{Understood}

-- a trouble and a task on no line
unfoldable pub placeless : Trouble → Trouble
placeless t = record { refusal = t.refusal; line = 0; column = t.column; field = t.field; excerpt = t.excerpt; name = t.name }

unfoldable pub lineless : Task → Task
lineless t = record { line = 0; numbers = t.numbers; name = t.name }

unfoldable pub lineless_all : List Task → List Task
lineless_all [] = []
lineless_all (task ∷ tasks) = lineless task ∷ lineless_all tasks

-- what is answered, but for the lines
unfoldable pub unlined_figures : Figures → Figures
unlined_figures f = record { count = f.count; interval = f.interval; round = f.round; share = f.share; filled = f.filled; tasks = lineless_all f.tasks }

unfoldable pub unlined_answer : Understood → Understood
unlined_answer u = record { trouble = placeless u.trouble; figures = unlined_figures u.figures }
