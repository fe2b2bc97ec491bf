-- `replay::logs::pieces::refusal_at` meets its contract. Assumes nothing.
use Rattle.std.proofs.Common.{sym, ◌∙◌, eq-eqb, ne_eqb}
use Rattle.places.proofs.Refusals.{next-of, first_of}
use Rattle.replay.proofs.logs.pieces.refusal_at.Goals as goal

pub returns-then-start-ne0 : goal.returns-then-start-ne0
returns-then-start-ne0 c = sym (first_of _ _ c.if-start-ne0.true)

pub returns-then-holds-ne0 : goal.returns-then-holds-ne0
returns-then-holds-ne0 c = sym (next-of _ c.if-start-ne0.false ∙ simp (ne_eqb _ 0 c.if-holds-ne0.true))

pub returns : goal.returns
returns c = sym (next-of _ c.if-start-ne0.false ∙ simp (eq-eqb _ 0 c.if-holds-ne0.false))
