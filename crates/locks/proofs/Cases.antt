-- The refusals case by case: which number each broken rule gives once those before it hold, and what holds where none is broken. Assumes nothing.
use Prim.Native.Nat.{◌≤◌}
use mathlib.Core.Path.{◌≡◌}
use mathlib.Core.Bool.{true, false, cond}
use mathlib.Core.List.{List}
use borrow.Author.Tests.{ltb-false}
use lib.Dec.{ltb}
use Rattle.places.proofs.Tells.{neither}
use Rattle.places.proofs.Refusals.{passed}
use Rattle.locks.specs.declared.Starts.{Starts}
use Rattle.locks.specs.declared.Resource.{Resource}
use Rattle.locks.specs.declared.Request.{Request}
use Rattle.locks.specs.Jobs.{busy}
use Rattle.locks.specs.Rules.{wrong_starts, some_wrong_holder, wrong_request, is_held, grant_refusal}

module _ (s : Starts) (resources : List Resource) (request : Request) where
  pub refused-20 : wrong_starts s ≡ true → 20 ≡ grant_refusal s resources request
  unfolding grant_refusal
  refused-20 a = simp a

  module _ (a : wrong_starts s ≡ false) where
    pub refused-20-holder : some_wrong_holder resources ≡ true → 20 ≡ grant_refusal s resources request
    unfolding grant_refusal
    refused-20-holder b = simp (a, b)

    module _ (b : some_wrong_holder resources ≡ false) where
      pub refused-21 : busy s request.time ≡ true → 21 ≡ grant_refusal s resources request
      unfolding grant_refusal
      refused-21 d = simp (a, b, d)

      module _ (d : busy s request.time ≡ false) where
        pub refused-25 : wrong_request resources request ≡ true → 25 ≡ grant_refusal s resources request
        unfolding grant_refusal
        refused-25 e = simp (a, b, d, e)

        -- after 25 the holder decides
        pub refused-holder : wrong_request resources request ≡ false → cond (is_held resources request.resource) 22 0 ≡ grant_refusal s resources request
        unfolding grant_refusal
        refused-holder e = simp (a, b, d, e)

-- a request that is not wrong names one of the eight resources
pub asked_low : (resources : List Resource) (request : Request) → wrong_request resources request ≡ false → request.resource ≤ 7
unfolding wrong_request
asked_low resources request e = ltb-false 7 request.resource (neither (ltb 7 request.resource) _ e).0

-- what a request that is not refused is known for
pub record Accepted (s : Starts) (resources : List Resource) (request : Request) : Type 0 where
  pub starts : wrong_starts s ≡ false
  pub holders : some_wrong_holder resources ≡ false
  pub idle : busy s request.time ≡ false
  pub asked : wrong_request resources request ≡ false
  pub unheld : is_held resources request.resource ≡ false

pub accepted : (s : Starts) (resources : List Resource) (request : Request) → grant_refusal s resources request ≡ 0 → Accepted s resources request
unfolding grant_refusal
accepted s resources request e =
    let one = passed (wrong_starts s) 19 _ e in
    let two = passed (some_wrong_holder resources) 19 _ one.1 in
    let three = passed (busy s request.time) 20 _ two.1 in
    let four = passed (wrong_request resources request) 24 _ three.1 in
    let five = passed (is_held resources request.resource) 21 _ four.1 in
    record { starts = one.0; holders = two.0; idle = three.0; asked = four.0; unheld = five.0 }
