-- The bounds of a table: each record's priority and backup, and its limits.
use Rattle.std.specs.Prelude.{ℕ, ◌*◌, ◌/◌, ◌%◌, cond, eqb, replicate}
use Rattle.places.specs.Places.{filled_below}
use Rattle.sheet.specs.declared.Table.{Table}
use Rattle.analysis.specs.Told.{Bounds}
use Rattle.analysis.specs.declared.Rule.{Rule}
use Rattle.analysis.specs.Common.Columns.{priorities_of, backups_of}
use Rattle.analysis.specs.ByRule.{rule_refusal}
use Rattle.analysis.specs.Bounds.Limits.{limit_at}
use Rattle.analysis.specs.Bounds.Hopeless.{none_meets}

-- no bounds: those of a refused table beside its number, and beside 0 those of a table of which a few searches tell that no choice meets the rule
abbrev pub no_bounds : ℕ → Bounds
no_bounds refusal = record { refusal = refusal; count = 0; priorities = replicate 8 0; backups = replicate 8 0; limits = replicate 72 0 }

-- each record's priority, backup and limits under a rule, each limit at 9 times the place plus q
unfoldable pub found_bounds : Rule → Table → Bounds
found_bounds rule t =
    record {
      refusal = 0;
      count = t.count;
      priorities = priorities_of t;
      backups = backups_of t;
      limits = filled_below (λ k. limit_at rule t (k / 9) (k % 9)) (9 * t.count) (replicate 72 0);
    }

-- `bounds_of`: those of a table that is not refused under the rule
unfoldable pub bounds_of : Rule → Table → Bounds
bounds_of rule t = cond (eqb (rule_refusal rule t) 0) (cond (none_meets t) (no_bounds 0) (found_bounds rule t)) (no_bounds (rule_refusal rule t))
