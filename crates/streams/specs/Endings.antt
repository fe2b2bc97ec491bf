-- Where a command's words stand, and how a command ends. Assumes nothing.
use Rattle.std.specs.Prelude.{ℕ, ◌+◌, Bool, cond, eqb}
use Rattle.streams.specs.declared.words.Asked.{Asked}
use Rattle.streams.specs.declared.endings.Ending.{Ending}
use Rattle.streams.specs.declared.endings.Ending.TheVariants.{Holds, Fails, Trouble, Unread}

-- the place among the arguments of one of the words after the command, counted from 0
abbrev pub word_place : Asked → ℕ → ℕ
word_place asked which = asked.first + which

-- the place of the first argument after the one that asks for a status or an explanation, or of the first where nothing, 0, is asked for
unfoldable pub first_place : ℕ → ℕ
first_place word = cond (eqb word 0) 1 2

-- a command ends in 0 where what it asks holds, and in 1 where it does not
unfoldable pub ends_in : Bool → ℕ
ends_in holds = cond holds 0 1

-- the status of an ending
abbrev pub status_of : Ending → ℕ
status_of Holds = 0
status_of Fails = 1
status_of Trouble = 2
status_of Unread = 3
