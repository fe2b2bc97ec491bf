-- Each public call's promise leaves one answer: any two that its contract admits, whatever the parameters are at exit, are equal. `Learnt` is the contract's own reading: lifetimes, arguments, result, parameters at exit. Assumes nothing.
use Rattle.std.proofs.Common.{◌≡◌}
use contract.Lifetimes.{Lfts}
use Rattle.sheet.proofs.Unique.{both}
use Rattle.replay.specs.declared.Counts.{Counts}
use Rattle.replay.specs.declared.Run.{Run}
use Rattle.replay.specs.declared.Replayed.{Replayed}
use Rattle.replay.specs.declared.Checked.{Checked}
use Rattle.replay.specs.declared.Following.{Following}
use Rattle.replay.proofs.Machine.start.Reads as started
use Rattle.replay.proofs.Machine.go_on.Reads as gone
use Rattle.replay.proofs.Machine.counts.Reads as counted
use Rattle.replay.proofs.replay.Reads as replayed
use Rattle.replay.proofs.check.Reads as checked
use Rattle.replay.proofs.Following.log.Reads as log
use Rattle.replay.proofs.Following.record.Reads as supplied
use Rattle.replay.proofs.Following.take.Reads as taken
use Rattle.replay.proofs.Following.replayed.Reads as replayed-so-far
use Rattle.replay.proofs.Following.checked.Reads as checked-so-far

pub Machine-start-unique : (κs : Lfts 1) (args : _) (a b : Run) (s u : _) → started.Learnt κs args a s → started.Learnt κs args b u → a ≡ b
Machine-start-unique κs args a b s u = both

pub Machine-go-on-unique : (κs : Lfts 1) (args : _) (a b : Run) (s u : _) → gone.Learnt κs args a s → gone.Learnt κs args b u → a ≡ b
Machine-go-on-unique κs args a b s u = both

pub Machine-counts-unique : (κs : Lfts 0) (args : _) (a b : Counts) (s u : _) → counted.Learnt κs args a s → counted.Learnt κs args b u → a ≡ b
Machine-counts-unique κs args a b s u = both

pub replay-unique : (κs : Lfts 2) (args : _) (a b : Replayed) (s u : _) → replayed.Learnt κs args a s → replayed.Learnt κs args b u → a ≡ b
replay-unique κs args a b s u = both

pub check-unique : (κs : Lfts 2) (args : _) (a b : Checked) (s u : _) → checked.Learnt κs args a s → checked.Learnt κs args b u → a ≡ b
check-unique κs args a b s u = both

pub Following-log-unique : (κs : Lfts 1) (args : _) (a b : Following) (s u : _) → log.Learnt κs args a s → log.Learnt κs args b u → a ≡ b
Following-log-unique κs args a b s u = both

pub Following-record-unique : (κs : Lfts 1) (args : _) (a b : Following) (s u : _) → supplied.Learnt κs args a s → supplied.Learnt κs args b u → a ≡ b
Following-record-unique κs args a b s u = both

pub Following-take-unique : (κs : Lfts 1) (args : _) (a b : Following) (s u : _) → taken.Learnt κs args a s → taken.Learnt κs args b u → a ≡ b
Following-take-unique κs args a b s u = both

pub Following-replayed-unique : (κs : Lfts 0) (args : _) (a b : Replayed) (s u : _) → replayed-so-far.Learnt κs args a s → replayed-so-far.Learnt κs args b u → a ≡ b
Following-replayed-unique κs args a b s u = both

pub Following-checked-unique : (κs : Lfts 0) (args : _) (a b : Checked) (s u : _) → checked-so-far.Learnt κs args a s → checked-so-far.Learnt κs args b u → a ≡ b
Following-checked-unique κs args a b s u = both
