-- "Logs and records of any length, read in pieces, in constant memory": what is kept of the bytes so far, byte by byte, and the answer at their end. No part of it knows where a piece ends.
use Rattle.std.specs.Prelude.{◌≡◌, ℕ, ◌%◌, ◌≤◌, Bool, true, false, cond, not, ◌&&◌, ◌||◌, ◌⊎◌, List, [], ◌∷◌, ◌++◌, ◌==◌}
use Rattle.places.specs.Places.{one_if}
use Rattle.places.specs.Refusals.{or_else}
use Rattle.replay.specs.declared.Run.{Run}
use Rattle.replay.specs.declared.Following.{Following}
use Rattle.replay.specs.declared.Replayed.{Replayed}
use Rattle.replay.specs.declared.Checked.{Checked}
use Rattle.replay.specs.declared.Checked.TheVariants.{Refused, Accepted, Differs}
use Rattle.replay.specs.Ticks.Counts.{wrapped, no_counts}
use Rattle.replay.specs.Ticks.Machines.{tied, tick, counts_of}
use Rattle.replay.specs.Logs.Rules.{tick_refusal}
use Rattle.replay.specs.Logs.Shown.{shown}
use Rattle.replay.specs.Logs.Answers.{start_answer}

-- before the first byte, given what the start answered
unfoldable pub before_bytes : Bool → Run → Following
before_bytes is_record run =
    record {
      is_record = is_record;
      start = run.refusal;
      broken = 0;
      machine = run.machine;
      same = 0;
      differs = false;
      holds = 0;
      releases = 0;
      faults = 0;
    }

-- `Following::log`: a log, "two bytes per tick", of a sheet
unfoldable pub before_log : List ℕ → Following
before_log sheet = before_bytes false (start_answer sheet)

-- `Following::record`: a supplier's record, "one more byte per tick"
unfoldable pub before_record : List ℕ → Following
before_record sheet = before_bytes true (start_answer sheet)

-- so many bytes of the next tick held, its releases and its faults
unfoldable pub holding : Following → ℕ → ℕ → ℕ → Following
holding f holds releases faults =
    record {
      is_record = f.is_record;
      start = f.start;
      broken = f.broken;
      machine = f.machine;
      same = f.same;
      differs = f.differs;
      holds = holds;
      releases = releases;
      faults = faults;
    }

-- the number of the rule that a tick broke kept
unfoldable pub breaking : Following → ℕ → Following
breaking f broken =
    record {
      is_record = f.is_record;
      start = f.start;
      broken = broken;
      machine = f.machine;
      same = f.same;
      differs = f.differs;
      holds = f.holds;
      releases = f.releases;
      faults = f.faults;
    }

-- a tick run, after which one has differed or none has
unfoldable pub running : Following → ℕ → ℕ → Bool → Following
running f releases faults differs =
    record {
      is_record = f.is_record;
      start = f.start;
      broken = f.broken;
      machine = tick f.machine releases faults;
      same = wrapped f.same (one_if (not differs));
      differs = differs;
      holds = f.holds;
      releases = f.releases;
      faults = f.faults;
    }

-- one of the ticks with this one differs: of a record, it does not show what it must
unfoldable pub differs_with : Following → ℕ → ℕ → Bool
differs_with f releases ran = f.differs || (f.is_record && not (ran == shown f.machine releases))

-- the sheet or a tick is refused
abbrev pub is_refused : Following → Bool
is_refused f = not (f.start == 0) || not (f.broken == 0)

-- a tick is judged, then compared and run; none is once something is refused
unfoldable pub ticked : Following → ℕ → ℕ → ℕ → Following
ticked f releases faults ran =
    cond (is_refused f) f
    (cond (tick_refusal f.machine releases faults == 0) (running f releases faults (differs_with f releases ran)) (breaking f (tick_refusal f.machine releases faults)))

-- after a tick that is whole, nothing is held
abbrev pub after_tick : Following → ℕ → ℕ → ℕ → Following
after_tick f releases faults ran = ticked (holding f 0 0 0) releases faults ran

-- one byte more: the releases of a tick; its faults, which make a log's whole; or what ran in it
unfoldable pub stepped : Following → ℕ → Following
stepped f byte =
    cond (f.holds == 0) (holding f 1 byte 0)
    (cond f.is_record
    (cond (f.holds == 1) (holding f 2 f.releases byte) (after_tick f f.releases f.faults byte))
    (after_tick f f.releases byte byte))

-- so many bytes to be taken at once: one, or where none is held those of whole ticks. An inner device of the loop over a piece.
abbrev pub AtOnce : Bool → ℕ → ℕ → Type 0
AtOnce is_record holds bytes = (bytes ≡ 1) ⊎ ((holds ≡ 0) × (1 ≤ bytes) × (bytes % cond is_record 3 2 ≡ 0))

-- the bytes of a piece, one after the other
unfoldable pub followed : Following → List ℕ → Following
followed f [] = f
followed f (byte ∷ bytes) = followed (stepped f byte) bytes

-- with the ready priorities of the machine's own jobs
unfoldable pub tied_in : Following → Following
tied_in f =
    record {
      is_record = f.is_record;
      start = f.start;
      broken = f.broken;
      machine = tied f.machine;
      same = f.same;
      differs = f.differs;
      holds = f.holds;
      releases = f.releases;
      faults = f.faults;
    }

-- `following.take`: the bytes of a piece, whatever ready priorities are handed in
unfoldable pub taken_answer : Following → List ℕ → Following
taken_answer f piece = followed (tied_in f) piece

-- the refusal if no byte follows: the sheet's; 14 where a tick is not whole; then that of the ticks
unfoldable pub refusal_at : Following → ℕ
refusal_at f = or_else f.start (cond (f.holds == 0) f.broken 14)

-- `following.replayed`: the refusal beside the seven counts, zeros where it is refused
unfoldable pub replayed_answer : Following → Replayed
replayed_answer f = record { refusal = refusal_at f; counts = cond (refusal_at f == 0) (counts_of f.machine) no_counts }

-- `following.checked`: refused, the first tick that differs, or accepted
unfoldable pub checked_answer : Following → Checked
checked_answer f = cond (refusal_at f == 0) (cond f.differs (Differs f.same) Accepted) (Refused (refusal_at f))

-- Pieces one after the other, taken and joined. Theorems speak of them; no public promise does.
unfoldable pub all_taken : Following → List (List ℕ) → Following
all_taken f [] = f
all_taken f (piece ∷ pieces) = all_taken (taken_answer f piece) pieces

unfoldable pub joined : List (List ℕ) → List ℕ
joined [] = []
joined (piece ∷ pieces) = piece ++ joined pieces
