-- `choices::odometer::all_zero` meets its contract: the chain looks at each entry. Assumes nothing.
use Rattle.std.proofs.Common.{rules, tests, ℕ, List, [], ◌∷◌, Bool, ◌&&◌, ◌≡◌, refl, ap, ◌∙◌, eqb}
use Rattle.std.specs.List.{list_all}
use Rattle.std.proofs.lemmas.Iterator.{YieldsList-from_slice}
use Rattle.std.proofs.lemmas.Iterator.Search.{all_from_yields_List}
use Rattle.choices.specs.Order.{all_zero}
use Rattle.choices.proofs.odometer.all_zero.Goals as goal

each_zero : (choice : List ℕ) → list_all (λ entry. eqb entry 0) choice ≡ all_zero choice
unfolding all_zero
each_zero [] = refl
each_zero (entry ∷ choice) = ap (λ (b : Bool). eqb entry 0 && b) (each_zero choice)

pub returns : goal.returns
returns c =
    all_from_yields_List (λ entry. eqb entry 0) _ _ _ c.all.ensures.ran (YieldsList-from_slice _ c.iter.ensures.rest) (λ x b q k. search (rules, tests))
    ∙ each_zero c.args.choice.now
