-- What `mend` answers, refusals included, and what it leaves in the lent output.
use Rattle.std.specs.Prelude.{ℕ, cond, List, [], ◌++◌, eqb, ltb, length, drop}
use Rattle.places.specs.Refusals.{or_else}
use Rattle.sheet.specs.Rules.{sheet_refusal}
use Rattle.mend.specs.declared.Mending as told
use Rattle.mend.specs.Told.{Mending}
use Rattle.mend.specs.Mended.{mended}
use Rattle.mend.specs.Changes.{changes_of, held}

-- "Refusals: the first sheet rule still broken after these changes, then 11."
unfoldable pub mend_refusal : List ℕ → List ℕ → ℕ
mend_refusal sheet out = or_else (sheet_refusal (mended sheet)) (cond (ltb (length out) (length (mended sheet))) 11 0)

-- `mend`: the refusal beside the number of bytes written and the changes; where it is refused, zeros and no change
unfoldable pub mend_answer : List ℕ → List ℕ → Mending
mend_answer sheet out =
    record {
      refusal = mend_refusal sheet out;
      written = cond (eqb (mend_refusal sheet out) 0) (length (mended sheet)) 0;
      changes = held (cond (eqb (mend_refusal sheet out) 0) (changes_of sheet) []);
    }

-- what stands beside the refusal alone
abbrev pub mending_told : Mending → told.Mending
mending_told mending = record { written = mending.written; changes = mending.changes }

-- the output after `mend`: the mended sheet and then the bytes as they were, or all of it as it was
unfoldable pub mend_leaves : List ℕ → List ℕ → List ℕ
mend_leaves sheet out = cond (eqb (mend_refusal sheet out) 0) (mended sheet ++ drop (length (mended sheet)) out) out
