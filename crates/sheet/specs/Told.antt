-- What calls tell, in numbers: a refusal, or 0, and beside it what is asked for.
use Rattle.std.specs.Prelude.{ℕ}
use Rattle.sheet.specs.declared.Table.{Table}

-- the refusal, or 0 beside the bytes that the sheet has by its header
pub record Said : Type 0 where
  pub refusal : ℕ
  pub size : ℕ

-- the refusal, or 0; beside a refusal of rules 6 to 10 the place of the record that breaks the rule, else 0
pub record Judged : Type 0 where
  pub refusal : ℕ
  pub place : ℕ

-- the refusal, or 0 beside the table
pub record Reading : Type 0 where
  pub refusal : ℕ
  pub table : Table

-- the refusal, or 0 beside the count, the fault interval, the round and our share of it
pub record Ranked : Type 0 where
  pub refusal : ℕ
  pub count : ℕ
  pub interval : ℕ
  pub round : ℕ
  pub share : ℕ

-- the refusal, or 0 beside the number of bytes written
pub record Writing : Type 0 where
  pub refusal : ℕ
  pub written : ℕ

-- the refusal, or 0 beside the byte at which the record's nine start
pub record Start : Type 0 where
  pub refusal : ℕ
  pub start : ℕ
