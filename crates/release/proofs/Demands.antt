-- Request 14's demands in its own words, about the definitions. That the refusals are given in its order is `decision-in-order` of Order.antt; cases worked through are in Rows.antt. Assumes nothing.
use Prim.Native.Nat.{ℕ, ◌%◌, ◌^◌, ◌≤◌, ◌<◌}
use mathlib.Core.Path.{◌≡◌, refl, sym, ap, ap₂, subst, ◌∙◌}
use mathlib.Core.Bool.{Bool, true, false, cond, not, ◌&&◌, true≢false, false≢true}
use mathlib.Core.Logic.{◌⊎◌, ◌↔◌, inl, inr, ⊎_elim}
use mathlib.Core.List.{List, []}
use native.Mathlib.Decide.{ℕ_discrete}
use native.Mathlib.Nat.{zero-div}
use native.Mathlib.Omega.{arith}
use borrow.Author.Tests.{eq-eqb, ne_eqb}
use lib.Dec.{eqb}
use denote.Ref.{Bor}
use Rattle.places.specs.Places.{some_below}
use Rattle.places.proofs.Tells.{Tells, holds, fails, told, shown, unshown, tells-iff, ltb-tells, not-tells, and-tells, tests}
use Rattle.places.proofs.Agree.{some-agree}
use Rattle.places.proofs.Some.{some-tells}
use Rattle.sheet.specs.declared.Table.{Table}
use Rattle.sheet.specs.Layout.{table_of}
use Rattle.sheet.specs.Rules.{sheet_refusal}
use Rattle.analysis.specs.declared.Outcome.TheVariants.{OnTime, Late}
use Rattle.analysis.specs.Published.Response.{response_time, late, passes}
use Rattle.analysis.specs.Common.Entries.{outcome_of, own_tasks}
use Rattle.release.specs.Told.{Decision}
use Rattle.release.specs.Rules.{is_protected, some_outside, grows, outcome_at, grows_at, some_grows}
use Rattle.release.specs.Answers.{is_loaded, decision, Handed}
use Rattle.release.specs.Broken.{Protected}
use Rattle.release.proofs.Decided.{tried, decision-tried, refused-keeps, Settled, settled, unrefused}
use Rattle.release.proofs.Order.{protected-tells, outside-tells}

-- the response at a place is no longer than before: "A protected task late in use counts as longer than any time"; otherwise the candidate's task is on time, and its time is not above the one in use
abbrev pub NoLonger : Table → Table → ℕ → Type 0
NoLonger old new place = (late (own_tasks old) place ≡ true) ⊎ ((late (own_tasks new) place ≡ false) × (response_time (own_tasks new) place ≤ response_time (own_tasks old) place))

-- no protected task's response grows
abbrev pub NoneGrows : Table → Table → ℕ → Type 0
NoneGrows old new protected = (place : ℕ) → place < old.count → Protected protected place → NoLonger old new place

-- a response does not grow exactly if it is no longer than before
same-or-less : (a b : Bool) (before after : ℕ) → Tells ((a ≡ true) ⊎ ((b ≡ false) × (after ≤ before))) (not (grows (cond a Late (OnTime before)) (cond b Late (OnTime after))))
unfolding grows
same-or-less true b before after = holds (inl refl)
same-or-less false true before after = fails (⊎_elim (λ e. false≢true e) (λ w. true≢false w.0))
same-or-less false false before after = tells-iff (λ n. inr (refl, omega arith)) (⊎_elim (λ e. absurd (false≢true e)) (λ w more. omega (arith, w.1))) (not-tells (ltb-tells before after))

longer-tells : (old new : Table) (place : ℕ) → Tells (NoLonger old new place) (not (grows_at old new place))
unfolding grows_at outcome_at outcome_of
longer-tells old new place = same-or-less (late (own_tasks old) place) (late (own_tasks new) place) (response_time (own_tasks old) place) (response_time (own_tasks new) place)

none-tells : (old new : Table) (protected : ℕ) → Tells (NoneGrows old new protected) (not (some_grows old new protected))
unfolding some_grows
none-tells old new protected = tells-iff each some (not-tells (some-tells (λ place. and-tells (protected-tells protected place) (tests (grows_at old new place))) old.count))
  where
    Growing : Type 0
    Growing = (place : ℕ) × (place < old.count) × (Protected protected place × (grows_at old new place ≡ true))

    each : (Growing → ⊥) → NoneGrows old new protected
    each none place below guarded = told (longer-tells old new place) (shown (not-tells (tests (grows_at old new place))) (λ e. none (place, below, (guarded, e))))

    some : NoneGrows old new protected → Growing → ⊥
    some all w = told (not-tells (tests (grows_at old new w.0))) (shown (longer-tells old new w.0) (all w.0 w.1 w.2.0)) w.2.1

-- "the candidate if it passes and no protected task's response grows"
pub loaded-exactly : (in_use candidate : List ℕ) (protected : ℕ) → (decision in_use candidate protected).refusal ≡ 0
    → ((decision in_use candidate protected).loads ≡ true) ↔ ((passes (own_tasks (table_of candidate)) ≡ true) × NoneGrows (table_of in_use) (table_of candidate) protected)
unfolding is_loaded
loaded-exactly in_use candidate protected none =
    let rule = (settled in_use candidate protected none).rule in
    let tested = and-tells (tests (passes (own_tasks (table_of candidate)))) (none-tells (table_of in_use) (table_of candidate) protected) in
    (λ e. told tested (sym rule ∙ e), λ w. rule ∙ shown tested w)

-- what is loaded was not refused
pub loaded-fine : (in_use candidate : List ℕ) (protected : ℕ) → (decision in_use candidate protected).loads ≡ true → (decision in_use candidate protected).refusal ≡ 0
loaded-fine in_use candidate protected e = go (ℕ_discrete (decision in_use candidate protected).refusal 0)
  where
    go : Dec ((decision in_use candidate protected).refusal ≡ 0) → (decision in_use candidate protected).refusal ≡ 0
    go (yes none) = none
    go (no broken) = absurd (true≢false (sym e ∙ refused-keeps in_use candidate protected broken))

-- with nothing protected the candidate is loaded exactly if it passes
pub nothing-protected : (in_use candidate : List ℕ) → sheet_refusal in_use ≡ 0 → sheet_refusal candidate ≡ 0 → (table_of in_use).count ≡ (table_of candidate).count
    → decision in_use candidate 0 ≡ record { refusal = 0; loads = passes (own_tasks (table_of candidate)) }
unfolding is_loaded
nothing-protected in_use candidate used offered matched =
    unrefused in_use candidate 0 used offered matched (unshown (outside-tells 0 (table_of in_use).count) (λ w. unguarded w.0 w.3))
    ∙ ap (λ (b : Bool). record { refusal = 0; loads = b }) (both (passes (own_tasks (table_of candidate))) (shown (none-tells (table_of in_use) (table_of candidate) 0) (λ place below guarded. absurd (unguarded place guarded))))
  where
    unguarded : (place : ℕ) → Protected 0 place → ⊥
    unguarded place e = omega (arith, sym (ap (λ (n : ℕ). n % 2) (zero-div (2 ^ place))) ∙ e)

    both : (b : Bool) {n : Bool} → n ≡ true → (b && n) ≡ b
    both true e = e
    both false e = refl

-- unprotected places play no part: of the sheet in use only the outcomes at protected places are asked for, of the candidate these and the verdict
module _ (in_use other candidate another : List ℕ) (protected : ℕ) where
  -- what two pairs of sheets have in common
  pub record AlikeWhereProtected : Type 0 where
    pub used : sheet_refusal in_use ≡ sheet_refusal other
    pub offered : sheet_refusal candidate ≡ sheet_refusal another
    pub count : (table_of in_use).count ≡ (table_of other).count
    pub counted : (table_of candidate).count ≡ (table_of another).count
    pub verdict : passes (own_tasks (table_of candidate)) ≡ passes (own_tasks (table_of another))
    pub before : (place : ℕ) → place < (table_of in_use).count → Protected protected place → outcome_at (table_of in_use) place ≡ outcome_at (table_of other) place
    pub after : (place : ℕ) → place < (table_of in_use).count → Protected protected place → outcome_at (table_of candidate) place ≡ outcome_at (table_of another) place

  pub unprotected-no-part : AlikeWhereProtected → decision in_use candidate protected ≡ decision other another protected
  unfolding is_loaded some_grows grows_at
  unprotected-no-part alike =
      decision-tried in_use candidate protected
      ∙ (λ i. tried (eqb (alike.used i) 0) (eqb (alike.offered i) 0) (eqb (alike.count i) (alike.counted i)) (some_outside protected (alike.count i)) (alike.verdict i && not (growing i)) (alike.used i) (alike.offered i))
      ∙ sym (decision-tried other another protected)
    where
      guarded : (b : Bool) {x y : Bool} → (b ≡ true → x ≡ y) → (b && x) ≡ (b && y)
      guarded true same = same refl
      guarded false same = refl

      at : (place : ℕ) → place < (table_of in_use).count
          → (is_protected protected place && grows (outcome_at (table_of in_use) place) (outcome_at (table_of candidate) place)) ≡ (is_protected protected place && grows (outcome_at (table_of other) place) (outcome_at (table_of another) place))
      at place below =
          guarded (is_protected protected place) (λ e.
          let is = told (protected-tells protected place) e in
          ap₂ grows (alike.before place below is) (alike.after place below is))

      growing : some_below (λ place. is_protected protected place && grows (outcome_at (table_of in_use) place) (outcome_at (table_of candidate) place)) (table_of in_use).count
          ≡ some_below (λ place. is_protected protected place && grows (outcome_at (table_of other) place) (outcome_at (table_of another) place)) (table_of other).count
      growing = some-agree (table_of in_use).count at ∙ ap (some_below (λ place. is_protected protected place && grows (outcome_at (table_of other) place) (outcome_at (table_of another) place))) alike.count

-- the whole of a lent sheet: its place and its bytes
pub record WholeOf (sheet part : Bor (List ℕ)) : Type 0 where
  pub place : part.ref_ptr ≡ sheet.ref_ptr
  pub content : part.now ≡ sheet.now

-- "Of the two lent sheets it hands back the one to load"
module _ (in_use candidate : Bor (List ℕ)) (protected : ℕ) (part : Bor (List ℕ)) (handed : Handed in_use candidate protected part) where
  abbrev answer : Decision
  answer = decision in_use.now candidate.now protected

  -- "the candidate if it passes and no protected task's response grows"
  pub hands-candidate : answer.loads ≡ true → WholeOf candidate part
  hands-candidate loads =
      let none = eq-eqb _ 0 (loaded-fine in_use.now candidate.now protected loads) in
      record { place = handed.place ∙ simp loads; content = handed.content ∙ simp (none, loads) }

  -- "otherwise the sheet in use"
  pub hands-in-use : answer.refusal ≡ 0 → answer.loads ≡ false → WholeOf in_use part
  hands-in-use none keeps = record { place = handed.place ∙ simp keeps; content = handed.content ∙ simp (eq-eqb _ 0 none, keeps) }

  -- refused, the empty part at the start of the sheet in use
  pub hands-nothing : (answer.refusal ≡ 0 → ⊥) → (part.ref_ptr ≡ in_use.ref_ptr) × (part.now ≡ [])
  hands-nothing broken = (handed.place ∙ simp (refused-keeps in_use.now candidate.now protected broken), handed.content ∙ simp (ne_eqb _ 0 broken))

  -- the part handed back is one of the two sheets, byte for byte, or empty
  pub hands-one : WholeOf candidate part ⊎ (WholeOf in_use part ⊎ ((part.ref_ptr ≡ in_use.ref_ptr) × (part.now ≡ [])))
  hands-one = go (ℕ_discrete answer.refusal 0) answer.loads refl
    where
      go : Dec (answer.refusal ≡ 0) → (b : Bool) → answer.loads ≡ b → WholeOf candidate part ⊎ (WholeOf in_use part ⊎ ((part.ref_ptr ≡ in_use.ref_ptr) × (part.now ≡ [])))
      go (yes none) true e = inl (hands-candidate e)
      go (yes none) false e = inr (inl (hands-in-use none e))
      go (no broken) b e = inr (inr (hands-nothing broken))

-- What it is for a sheet to be no worse than the one in use
pub record NotWorse (in_use sheet : List ℕ) (protected : ℕ) : Type 0 where
  -- it is a good sheet of as many records
  pub good : sheet_refusal sheet ≡ 0
  pub count : (table_of sheet).count ≡ (table_of in_use).count
  -- it passes if the one in use does
  pub verdict : passes (own_tasks (table_of in_use)) ≡ true → passes (own_tasks (table_of sheet)) ≡ true
  -- and no protected task's response is longer than before
  pub responses : NoneGrows (table_of in_use) (table_of sheet) protected

-- what is loaded is never worse
pub never-worse : (in_use candidate : Bor (List ℕ)) (protected : ℕ) (part : Bor (List ℕ)) → Handed in_use candidate protected part → (decision in_use.now candidate.now protected).refusal ≡ 0 → NotWorse in_use.now part.now protected
never-worse in_use candidate protected part handed none = go (decision in_use.now candidate.now protected).loads refl
  where
    fine : Settled in_use.now candidate.now protected
    fine = settled in_use.now candidate.now protected none

    same : (t : Table) (place : ℕ) → NoLonger t t place
    same t place = either (late (own_tasks t) place) refl
      where
        either : (b : Bool) → late (own_tasks t) place ≡ b → NoLonger t t place
        either true e = inl e
        either false e = inr (e, omega arith)

    go : (b : Bool) → (decision in_use.now candidate.now protected).loads ≡ b → NotWorse in_use.now part.now protected
    go true e =
        let w = (loaded-exactly in_use.now candidate.now protected none).0 e in
        subst (λ (sheet : List ℕ). NotWorse in_use.now sheet protected) (sym (hands-candidate in_use candidate protected part handed e).content)
        (record { good = fine.offered; count = sym fine.matched; verdict = λ p. w.0; responses = w.1 })
    go false e =
        subst (λ (sheet : List ℕ). NotWorse in_use.now sheet protected) (sym (hands-in-use in_use candidate protected part handed none e).content)
        (record { good = fine.used; count = refl; verdict = λ p. p; responses = λ place below guarded. same (table_of in_use.now) place })
