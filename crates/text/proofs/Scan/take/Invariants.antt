-- `text::Scan::take` meets its contract: before each turn the bytes from the place on, scanned from the scan so far, are the part scanned from the start. Assumes nothing.
use Prim.Native.Nat.{◌≤◌}
use mathlib.Core.Path.{◌≡◌}
use lib.ListN.{length, drop}
use Rattle.text.specs.Texts.{scanned}
use Rattle.text.proofs.Scan.take.Given as goal

abbrev pub invariant-loop-byte : goal.invariant-loop-byte
invariant-loop-byte l = (l.byte-index ≤ length l.part) × (scanned l.scan (drop l.byte-index l.part) ≡ scanned l.initial.scan l.part)
