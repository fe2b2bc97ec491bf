-- `locks::rules::judge` meets its contract: each return is a case of the refusals. Assumes nothing.
use mathlib.Core.Path.{sym, ◌∙◌}
use Rattle.locks.proofs.Cases.{refused-20, refused-20-holder, refused-21, refused-25, refused-holder, asked_low}
use Rattle.locks.proofs.rules.judge.Goals as goal

pub returns-then-wrong_starts : goal.returns-then-wrong_starts
returns-then-wrong_starts c = refused-20 _ _ _ (sym c.wrong_starts.ensures ∙ c.if-wrong_starts.true)

pub returns-then-some_wrong_holder : goal.returns-then-some_wrong_holder
returns-then-some_wrong_holder c =
    refused-20-holder _ _ _ (sym c.wrong_starts.ensures ∙ c.if-wrong_starts.false) (sym c.some_wrong_holder.ensures ∙ c.if-some_wrong_holder.true)

pub busy-requires : goal.busy-requires
busy-requires c = sym c.wrong_starts.ensures ∙ c.if-wrong_starts.false

pub returns-then-busy : goal.returns-then-busy
returns-then-busy c =
    refused-21 _ _ _ (sym c.wrong_starts.ensures ∙ c.if-wrong_starts.false) (sym c.some_wrong_holder.ensures ∙ c.if-some_wrong_holder.false) (sym c.busy.ensures ∙ c.if-busy.true)

pub returns-then-wrong_request : goal.returns-then-wrong_request
returns-then-wrong_request c =
    refused-25 _ _ _ (sym c.wrong_starts.ensures ∙ c.if-wrong_starts.false) (sym c.some_wrong_holder.ensures ∙ c.if-some_wrong_holder.false) (sym c.busy.ensures ∙ c.if-busy.false) (sym c.wrong_request.ensures ∙ c.if-wrong_request.true)

pub is_held-requires : goal.is_held-requires
is_held-requires c = asked_low _ _ (sym c.wrong_request.ensures ∙ c.if-wrong_request.false)

pub returns-then-is_held : goal.returns-then-is_held
returns-then-is_held c =
    simp (sym c.is_held.ensures ∙ c.if-is_held.true)
    at (refused-holder _ _ _ (sym c.wrong_starts.ensures ∙ c.if-wrong_starts.false) (sym c.some_wrong_holder.ensures ∙ c.if-some_wrong_holder.false) (sym c.busy.ensures ∙ c.if-busy.false) (sym c.wrong_request.ensures ∙ c.if-wrong_request.false))

pub returns : goal.returns
returns c =
    simp (sym c.is_held.ensures ∙ c.if-is_held.false)
    at (refused-holder _ _ _ (sym c.wrong_starts.ensures ∙ c.if-wrong_starts.false) (sym c.some_wrong_holder.ensures ∙ c.if-some_wrong_holder.false) (sym c.busy.ensures ∙ c.if-busy.false) (sym c.wrong_request.ensures ∙ c.if-wrong_request.false))
