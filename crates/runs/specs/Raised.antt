-- Fault priorities that are the priorities.
use Rattle.std.specs.Prelude.{ℕ, ◌<◌, ◌≡◌}
use Rattle.sheet.specs.declared.Table.{Table}
use Rattle.sheet.specs.Layout.{record_at}

-- document 02, ask 12: "in which each q equals p"
abbrev pub EachRaised : Table → Type 0
EachRaised t = (k : ℕ) → k < t.count → (record_at t.records k).fault_priority ≡ (record_at t.records k).priority
