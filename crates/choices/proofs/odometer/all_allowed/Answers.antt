-- `choices::odometer::all_allowed` meets its contract: the chain looks at each record's priority and entry. Assumes nothing.
use Rattle.std.proofs.Common.{rules, tests, ℕ, List, [], ◌∷◌, length, Bool, ◌&&◌, ◌≡◌, refl, ap, ◌∙◌, arith}
use Rattle.std.specs.List.{list_all, zip}
use Rattle.std.proofs.lemmas.Iterator.{YieldsList-from_slice, YieldsList-from_zip}
use Rattle.std.proofs.lemmas.Iterator.Consumers.{YieldsList-at}
use Rattle.std.proofs.lemmas.Iterator.Search.{all_from_yields_List}
use Rattle.analysis.specs.Common.Allowed.{is_allowed, all_allowed}
use Rattle.choices.proofs.odometer.all_allowed.Goals as goal

each_allowed : (priorities choice : List ℕ) → length priorities ≡ length choice → list_all (λ (p : ℕ × ℕ). is_allowed p.0 p.1) (zip priorities choice) ≡ all_allowed priorities choice
unfolding all_allowed
each_allowed [] [] same = refl
each_allowed [] (q ∷ choice) same = absurd (omega arith)
each_allowed (p ∷ priorities) [] same = absurd (omega arith)
each_allowed (p ∷ priorities) (q ∷ choice) same = ap (λ (b : Bool). is_allowed p q && b) (each_allowed priorities choice (omega arith))

pub returns : goal.returns
returns c =
    all_from_yields_List (λ (p : ℕ × ℕ). is_allowed p.0 p.1) c.all.new.self _ _ c.all.ensures.ran (YieldsList-from_zip (YieldsList-at c.zip.ensures.first (YieldsList-from_slice c.args.priorities.now c.iter.ensures.rest)) (YieldsList-from_slice c.args.choice.now c.zip.ensures.second.0)) (λ x b q k. search (rules, tests))
    ∙ each_allowed c.args.priorities.now c.args.choice.now (omega arith)
