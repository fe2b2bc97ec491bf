-- What a fold by "or" tells of a list: whether some element passes the test. Assumes nothing.
use Rattle.std.proofs.Common.{◌≡◌, Bool, false, ◌||◌, List, [], ◌∷◌, sym, ◌∙◌}
use Rattle.std.proofs.Math.Bool.{or-false}
use Rattle.std.specs.Prelude.{fold}
use Rattle.std.specs.List.{list_any}
use mathlib.Core.Bool.{or_assoc}

-- one step of it
abbrev pub or_step : {A : Type 0} → (A → Bool) → Bool → A → Bool
or_step test found a = found || test a

pub fold_or : {A : Type 0} (test : A → Bool) (found : Bool) (list : List A) → fold (or_step test) found list ≡ (found || list_any test list)
fold_or test found [] = sym (or-false found)
fold_or test found (a ∷ list) = fold_or test (found || test a) list ∙ or_assoc found (test a) (list_any test list)
