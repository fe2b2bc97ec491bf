-- `choices::lister::fits` meets its contract: where as many choices as the room has entries are passed over, there is a next one exactly if there are more. Assumes nothing.
use Rattle.std.proofs.Common.{ℕ, List, length, Bool, true, false, not, Option, Some, None, ◌≡◌, ◌≤◌, ◌<◌, sym, arith, slice_get, leb, []}
use borrow.Author.Tests.{lt-leb, le-leb}
use native.Mathlib.Decide.{dec_le}
use Rattle.std.specs.Option.{is_some, option_map}
use Rattle.std.proofs.lemmas.Option.{slice_get_within, slice_get-get_or}
use Rattle.std.proofs.lemmas.Iterator.Consumers.{nth_from_yields_List, YieldsList-from_first}
use Rattle.analysis.specs.Bounds.Within.{within_answer}
use Rattle.analysis.specs.Bounds.Lent.{bounds_lent}
use Rattle.choices.specs.declared.within.Within.{Within}
use Rattle.choices.specs.Order.{after_of}
use Rattle.choices.specs.Stepping.{within_of}
use Rattle.choices.proofs.Listed.{from_zero}
use Rattle.choices.proofs.lister.fits.Goals as goal

-- a list has no entry at a place exactly if it is no longer
within_room : (list : List (List ℕ)) (room : ℕ) → None ≡ slice_get list room → length list ≤ room
within_room list room none = go (dec_le (length list) room)
  where
    go : Dec (length list ≤ room) → length list ≤ room
    go (yes low) = low
    go (no high) =
        let there : room < length list = omega (arith, high) in
        let some = slice_get-get_or list room [] there in
        cc (some, none)

none_past : (list : List (List ℕ)) (room : ℕ) (found : Option (List ℕ)) (is_none : Bool) → option_map (λ c. c) found ≡ slice_get list room → is_some found ≡ not is_none → is_none ≡ leb (length list) room
none_past list room None true e said = sym (le-leb (length list) room (within_room list room e))
none_past list room (Some c) false e said = sym (lt-leb (length list) room (slice_get_within list room c (sym e)))
none_past list room None false e said = cc
none_past list room (Some c) true e said = cc

pub returns-else-most-room : goal.returns-else-most-room
unfolding within_of
returns-else-most-room c =
    let within : Within = c.args.within in
    let whole : after_of within.choice (within_of within.rule within.bounds.now) ≡ within_of within.rule within.bounds.now =
    rw c.requires (from_zero within.bounds.now.priorities (λ choice. (within_answer within.rule (bounds_lent within.bounds.now) choice).yes) within.levels) in
    none_past _ _ c.nth.result c.is_none.result (nth_from_yields_List c.nth.result c.nth.new.self c.args.room c.nth.ensures.ran (YieldsList-from_first (λ x. x) (λ s. after_of s.choice (within_of s.rule s.bounds.now)) _ whole)) c.is_none.ensures
