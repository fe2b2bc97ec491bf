-- What the calls answer, refusals included.
use Rattle.std.specs.Prelude.{ℕ, cond, eqb, Option, Some, None, Result, Ok, Err}
use Rattle.places.specs.declared.refusal.Refusal.{Refusal}
use Rattle.places.specs.Answered.{numbered}
use Rattle.sheet.specs.declared.Table.{Table}
use Rattle.analysis.specs.declared.Rule.{Rule}
use Rattle.analysis.specs.ByRule.{rule_refusal, place_refusal}
use Rattle.margins.specs.declared.Field.{Field}
use Rattle.margins.specs.declared.changing.Change.TheVariants.{One, All}
use Rattle.margins.specs.Margins.{margin_of}

-- a refusal's number, the margin, or "none"
pub data Furthest : Type 0 where
  Refused : ℕ → Furthest
  At : ℕ → Furthest
  Nothing : Furthest

-- what the calls answer of it
unfoldable pub furthest_told : Furthest → Result (Option ℕ) Refusal
furthest_told (Refused refusal) = Err (numbered refusal)
furthest_told (At margin) = Ok (Some margin)
furthest_told Nothing = Ok None

unfoldable pub furthest_of : ℕ → ℕ → Furthest
furthest_of refusal margin = cond (eqb refusal 0) (cond (eqb margin 0) Nothing (At margin)) (Refused refusal)

-- `margin`: that of a field of the record at a place, after the rule's refusal and then 12, "the record place asked for is not below the count"
unfoldable pub margin_answer : Rule → Table → ℕ → Field → Furthest
margin_answer rule t place field = furthest_of (place_refusal rule t place) (margin_of rule t (One field place))

-- `factor`: that of all costs and backups together, after the rule's refusal
unfoldable pub factor_answer : Rule → Table → Furthest
factor_answer rule t = furthest_of (rule_refusal rule t) (margin_of rule t All)
