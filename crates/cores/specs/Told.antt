-- What `place` tells, in numbers: a refusal, that each record has its core, or the first that has none, and beside it the cores. And what of it the answer of the code holds.
use Rattle.std.specs.Prelude.{ℕ, List, Result, Ok, Err}
use Rattle.places.specs.declared.refusal.Refusal.{Refusal}
use Rattle.places.specs.Answered.{numbered}
use Rattle.cores.specs.declared.Placing as code
use Rattle.cores.specs.declared.Placing.TheVariants as put

-- refused with the number, a core for every record, or the first record, from 1, that fits none
pub data Fit : Type 0 where
  Refused : ℕ → Fit
  Everyone : Fit
  FitsNone : ℕ → Fit

-- where every record has its core, those cores from 1 in record order, zero past the count; else zeros
pub record Placing : Type 0 where
  pub fit : Fit
  pub cores : List ℕ

-- of it the cores alone where every record has its core, else the record or the refusal
unfoldable pub fit_told : Fit → List ℕ → Result code.Placing Refusal
fit_told (Refused refusal) cores = Err (numbered refusal)
fit_told Everyone cores = Ok (put.Everyone cores)
fit_told (FitsNone first) cores = Ok (put.FitsNone first)

abbrev pub placing_told : Placing → Result code.Placing Refusal
placing_told p = fit_told p.fit p.cores
