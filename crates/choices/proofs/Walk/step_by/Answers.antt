-- `choices::Walk::step_by` meets its contract: it shows what the step comes to. Assumes nothing.
use Rattle.std.proofs.Common.{ℕ, List, [], ◌∷◌, Bool, true, false, cond, slice_get, Option, Some, None, Result, Ok, Err, ◌≡◌, refl, ap, ◌∙◌}
use lib.Dec.{eqb}
use Rattle.places.specs.declared.refusal.Refusal.{Refusal}
use Rattle.places.specs.Answered.{numbered, answered}
use Rattle.choices.specs.declared.Walk.{Walk}
use Rattle.choices.specs.declared.Stepped as steps
use Rattle.choices.specs.declared.Arrival.TheVariants.{Found as Came, End as Over, Refused as Barred}
use Rattle.choices.specs.Told.{shown}
use Rattle.choices.specs.Told.Arrival.{Refused}
use Rattle.choices.specs.Answers.{start_walk, arrive_at, step_from, step_by}
use Rattle.choices.proofs.Walk.step_by.Goals as goal

-- what a step comes to, as the walk shows it
abbrev of_step : Walk → Result (Option (List ℕ)) Refusal → steps.Stepped
of_step w (Err refusal) = record { walk = start_walk; arrival = Barred refusal }
of_step w (Ok None) = record { walk = w; arrival = Over }
of_step w (Ok (Some choice)) = record { walk = record { entries = choice }; arrival = Came }

shown_first : (w : Walk) (refusal : ℕ) (list : List (List ℕ)) → of_step w (answered refusal (slice_get list 0)) ≡ shown (cond (eqb refusal 0) (arrive_at w list) (record { walk = start_walk; arrival = Refused refusal }))
unfolding answered arrive_at
shown_first w refusal list = go (eqb refusal 0) list
  where
    go : (fine : Bool) (list : List (List ℕ)) → of_step w (cond fine (Ok (slice_get list 0)) (Err (numbered refusal))) ≡ shown (cond fine (arrive_at w list) (record { walk = start_walk; arrival = Refused refusal }))
    go false list = refl
    go true [] = refl
    go true (choice ∷ later) = refl

pub returns-in-Err : goal.returns-in-Err
unfolding step_by step_from
returns-in-Err c = rw c.start.ensures (ap (of_step c.args.self) c.in-Err.ensures ∙ shown_first c.args.self _ _)

pub returns-in-Ok-Some : goal.returns-in-Ok-Some
unfolding step_by step_from
returns-in-Ok-Some c = ap (of_step c.args.self) (rw c.in-Ok-Some.field-0-is at c.in-Ok-Some.ensures) ∙ shown_first c.args.self _ _

pub returns-in-Ok-None : goal.returns-in-Ok-None
unfolding step_by step_from
returns-in-Ok-None c = ap (of_step c.args.self) (rw c.in-Ok-None.field-0-is at c.in-Ok-None.ensures) ∙ shown_first c.args.self _ _
