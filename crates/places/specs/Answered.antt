-- Refusals and their numbers, and what a call answers that may be refused.
use Rattle.std.specs.Prelude.{ℕ, ◌≤◌, ◌⊎◌, cond, eqb, Result, Ok, Err}
use Rattle.places.specs.declared.refusal.Refusal.{Refusal}
use Rattle.places.specs.declared.refusal.Refusal.TheVariants.{ShortSheet, BadCount, ReservedBits, BadLength, NoInterval, BadCost, BadBackup, BadDeadline, BadPriority, BadFaultPriority, ShortOutput, BadPlace, BadChoice, OddLog, StrangeBit, EarlyRelease, EarlyFault, BadShare, SharedProcessor, BadStarts, InsideAJob, Held, BadCores, DifferentCounts, BadRequest, NoNumber, TooLarge, ExtraCell, MissingCell, NinthTask, EmptyCell, DecimalPoint, MinusSign, UnknownColumn, RepeatedColumn, MissingColumn, LongName, OpenQuotes, LongLine, RepeatedSetting, UnevenScale, ZeroScale}

-- the number of a refusal, by docs/FORMAT.md's tables
abbrev pub number_of : Refusal → ℕ
number_of ShortSheet = 1
number_of BadCount = 2
number_of ReservedBits = 3
number_of BadLength = 4
number_of NoInterval = 5
number_of BadCost = 6
number_of BadBackup = 7
number_of BadDeadline = 8
number_of BadPriority = 9
number_of BadFaultPriority = 10
number_of ShortOutput = 11
number_of BadPlace = 12
number_of BadChoice = 13
number_of OddLog = 14
number_of StrangeBit = 15
number_of EarlyRelease = 16
number_of EarlyFault = 17
number_of BadShare = 18
number_of SharedProcessor = 19
number_of BadStarts = 20
number_of InsideAJob = 21
number_of Held = 22
number_of BadCores = 23
number_of DifferentCounts = 24
number_of BadRequest = 25
number_of NoNumber = 30
number_of TooLarge = 31
number_of ExtraCell = 32
number_of MissingCell = 33
number_of NinthTask = 34
number_of EmptyCell = 35
number_of DecimalPoint = 36
number_of MinusSign = 37
number_of UnknownColumn = 38
number_of RepeatedColumn = 39
number_of MissingColumn = 40
number_of LongName = 41
number_of OpenQuotes = 42
number_of LongLine = 43
number_of RepeatedSetting = 44
number_of UnevenScale = 45
number_of ZeroScale = 46

-- the refusal of a number; of a number that no row has, the last of the table
unfoldable pub numbered : ℕ → Refusal
numbered n =
    (cond (eqb n 1) ShortSheet
    (cond (eqb n 2) BadCount
    (cond (eqb n 3) ReservedBits
    (cond (eqb n 4) BadLength
    (cond (eqb n 5) NoInterval
    (cond (eqb n 6) BadCost
    (cond (eqb n 7) BadBackup
    (cond (eqb n 8) BadDeadline
    (cond (eqb n 9) BadPriority
    (cond (eqb n 10) BadFaultPriority
    (cond (eqb n 11) ShortOutput
    (cond (eqb n 12) BadPlace
    (cond (eqb n 13) BadChoice
    (cond (eqb n 14) OddLog
    (cond (eqb n 15) StrangeBit
    (cond (eqb n 16) EarlyRelease
    (cond (eqb n 17) EarlyFault
    (cond (eqb n 18) BadShare
    (cond (eqb n 19) SharedProcessor
    (cond (eqb n 20) BadStarts
    (cond (eqb n 21) InsideAJob
    (cond (eqb n 22) Held
    (cond (eqb n 23) BadCores
    (cond (eqb n 24) DifferentCounts
    (cond (eqb n 25) BadRequest
    (cond (eqb n 30) NoNumber
    (cond (eqb n 31) TooLarge
    (cond (eqb n 32) ExtraCell
    (cond (eqb n 33) MissingCell
    (cond (eqb n 34) NinthTask
    (cond (eqb n 35) EmptyCell
    (cond (eqb n 36) DecimalPoint
    (cond (eqb n 37) MinusSign
    (cond (eqb n 38) UnknownColumn
    (cond (eqb n 39) RepeatedColumn
    (cond (eqb n 40) MissingColumn
    (cond (eqb n 41) LongName
    (cond (eqb n 42) OpenQuotes
    (cond (eqb n 43) LongLine
    (cond (eqb n 44) RepeatedSetting
    (cond (eqb n 45) UnevenScale
    ZeroScale)))))))))))))))))))))))))))))))))))))))))

-- the numbers that the tables have
abbrev pub IsNumber : ℕ → Type 0
IsNumber n = ((1 ≤ n) × (n ≤ 25)) ⊎ ((30 ≤ n) × (n ≤ 46))

-- what a call answers that may be refused: the value where the refusal is 0, else the refusal of that number
unfoldable pub answered : {A : Type 0} → ℕ → A → Result A Refusal
answered refusal value = cond (eqb refusal 0) (Ok value) (Err (numbered refusal))

-- what an answer without a value is told as: the number of its refusal, or 0
abbrev pub told : Result Unit Refusal → ℕ
told (Ok nothing) = 0
told (Err refusal) = number_of refusal
