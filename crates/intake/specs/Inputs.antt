-- What the sheet of an input is. Assumes nothing.
use Rattle.std.specs.Prelude.{ℕ, List, take}
use Rattle.sheet.specs.declared.Table.{Table}
use Rattle.sheet.specs.Told.{Reading}
use Rattle.sheet.specs.Answers.{read_answer, unjudged_answer}
use Rattle.streams.specs.Inputs.{part_of}
use Rattle.intake.specs.declared.sheets.Given.{Given}

-- the sheet of an input: as many of its first bytes as it has
unfoldable pub given_sheet : Given → List ℕ
given_sheet given = take (part_of given.length given.bytes) given.bytes

-- the table of that sheet, or its refusal
unfoldable pub given_reading : Given → Reading
given_reading given = read_answer (given_sheet given)

-- its table as it stands, whatever rules its records break
unfoldable pub given_table : Given → Table
given_table given = (unjudged_answer (given_sheet given)).table
