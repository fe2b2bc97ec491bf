-- Figures of any size as the tasks that the equations read, before any scale: a text that fits no table has them all the same.
use Rattle.sheet.specs.declared.Record.{Record}
use Rattle.sheet.specs.declared.Table.{Table}
use Rattle.lines.specs.declared.Task.{Task}
use Rattle.lines.specs.declared.Figures.{Figures}
use Rattle.analysis.specs.Common.Tasks.{Tasks, tasks_of, own_choice}
use Rattle.text.specs.Scaling.{number_at, task_of}

-- a task's numbers as they are
abbrev pub unscaled_record : Task → Record
unscaled_record task =
    record {
      cost = number_at task 2;
      backup = number_at task 3;
      deadline = number_at task 4;
      period = number_at task 5;
      priority = number_at task 0;
      fault_priority = number_at task 1;
    }

-- the figures' own tasks, each with its own fault priority
abbrev pub unscaled_tasks : Figures → Tasks
unscaled_tasks figures =
    record {
      count = figures.count;
      at = λ place. unscaled_record (task_of figures.tasks place);
      interval = figures.interval;
      round = figures.round;
      share = figures.share;
      fault = λ place. number_at (task_of figures.tasks place) 1;
    }

-- the tasks that a table is judged by: under its own interval and fault priorities
abbrev pub table_tasks : Table → Tasks
table_tasks t = tasks_of t t.interval (own_choice t)
