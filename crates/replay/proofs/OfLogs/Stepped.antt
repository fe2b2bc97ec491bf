-- What is kept of a log or a record after one byte more, after a whole tick and after a piece, and the answer at the end, case by case. Assumes nothing.
use Rattle.std.proofs.Common.{◌≡◌, ℕ, ◌+◌, ◌-◌, ◌%◌, ◌≤◌, Bool, true, false, cond, eqb, List, [], ◌∷◌, ◌++◌, length, take, drop, sym, refl, ap, ◌∙◌, inl, inr, arith, length-drop, take-append-drop, drop_of_length-le, length-take-le, drop-drop, eq-eqb, ne_eqb}
use Rattle.replay.specs.declared.Counts.{Counts}
use Rattle.replay.specs.declared.Following.{Following}
use Rattle.replay.specs.declared.Checked.TheVariants.{Refused, Accepted, Differs}
use Rattle.replay.specs.Ticks.Machines.{no_machine, IsTied, counts_of}
use Rattle.replay.specs.Logs.Rules.{tick_refusal}
use Rattle.replay.specs.Logs.Pieces.{holding, breaking, running, differs_with, is_refused, ticked, after_tick, stepped, AtOnce, followed, tied_in, refusal_at, replayed_answer, checked_answer}
use Rattle.replay.proofs.OfTicks.Ready.{tied-tied, tied-same, tick-tied}
use Rattle.replay.proofs.OfLogs.Answered.{none-counted}

-- a whole tick
module _ (f : Following) (releases faults ran : ℕ) where
  pub tick-kept : is_refused f ≡ true → ticked f releases faults ran ≡ f
  unfolding ticked
  tick-kept refused = simp refused

  module _ (none : is_refused f ≡ false) where
    pub tick-broken : (tick_refusal f.machine releases faults ≡ 0 → ⊥) → ticked f releases faults ran ≡ breaking f (tick_refusal f.machine releases faults)
    unfolding ticked
    tick-broken broken = simp (none, ne_eqb _ 0 broken)

    pub tick-run : tick_refusal f.machine releases faults ≡ 0 → ticked f releases faults ran ≡ running f releases faults (differs_with f releases ran)
    unfolding ticked
    tick-run passed = simp (none, eq-eqb _ 0 passed)

-- a byte
module _ (f : Following) (byte : ℕ) where
  pub step-releases : f.holds ≡ 0 → stepped f byte ≡ holding f 1 byte 0
  unfolding stepped
  step-releases first = simp (eq-eqb f.holds 0 first)

  module _ (later : f.holds ≡ 0 → ⊥) where
    pub step-log : f.is_record ≡ false → stepped f byte ≡ after_tick f f.releases byte byte
    unfolding stepped
    step-log log = simp (ne_eqb f.holds 0 later, log)

    module _ (supplied : f.is_record ≡ true) where
      pub step-faults : f.holds ≡ 1 → stepped f byte ≡ holding f 2 f.releases byte
      unfolding stepped
      step-faults second = simp (ne_eqb f.holds 0 later, supplied, eq-eqb f.holds 1 second)

      pub step-ran : (f.holds ≡ 1 → ⊥) → stepped f byte ≡ after_tick f f.releases f.faults byte
      unfolding stepped
      step-ran third = simp (ne_eqb f.holds 0 later, supplied, ne_eqb f.holds 1 third)

-- The ready priorities of the machine that is kept
pub tied-in : (f : Following) → IsTied (tied_in f).machine
unfolding tied_in
tied-in f = tied-tied f.machine

pub tied-in-same : (f : Following) → IsTied f.machine → tied_in f ≡ f
unfolding tied_in
tied-in-same f keeps =
    λ i. record { is_record = f.is_record; start = f.start; broken = f.broken; machine = tied-same f.machine keeps i; same = f.same; differs = f.differs; holds = f.holds; releases = f.releases; faults = f.faults }

tied-picked : (b : Bool) (f g : Following) → IsTied f.machine → IsTied g.machine → IsTied (cond b f g).machine
tied-picked true f g p q = p
tied-picked false f g p q = q

tick-keeps-tied : (f : Following) (releases faults ran : ℕ) → IsTied f.machine → IsTied (after_tick f releases faults ran).machine
unfolding ticked holding breaking running
tick-keeps-tied f releases faults ran keeps =
    tied-picked (is_refused f) _ _ keeps (tied-picked (eqb (tick_refusal f.machine releases faults) 0) _ _ (tick-tied f.machine releases faults) keeps)

step-tied : (f : Following) (byte : ℕ) → IsTied f.machine → IsTied (stepped f byte).machine
unfolding stepped holding
step-tied f byte keeps =
    tied-picked (eqb f.holds 0) _ _ keeps
    (tied-picked f.is_record _ _ (tied-picked (eqb f.holds 1) _ _ keeps (tick-keeps-tied f f.releases f.faults byte keeps)) (tick-keeps-tied f f.releases byte byte keeps))

pub bytes-tied : (f : Following) (bytes : List ℕ) → IsTied f.machine → IsTied (followed f bytes).machine
unfolding followed
bytes-tied f [] keeps = keeps
bytes-tied f (byte ∷ bytes) keeps = bytes-tied (stepped f byte) bytes (step-tied f byte keeps)

-- two pieces one after the other are one
pub pieces-joined : (f : Following) (a b : List ℕ) → followed f (a ++ b) ≡ followed (followed f a) b
unfolding followed
pieces-joined f [] b = refl
pieces-joined f (byte ∷ a) b = pieces-joined (stepped f byte) a b

-- a piece: so many bytes of it at once, and its end
module _ (f : Following) (part : List ℕ) (at : ℕ) where
  module _ (count : ℕ) where
    abbrev bytes_at : List ℕ
    bytes_at = take (at + count - at) (drop at part)

    just : at + count - at ≡ count
    just = omega arith

    pub bytes-length : at + count ≤ length part → length bytes_at ≡ count
    bytes-length more = length-take-le (at + count - at) (drop at part) (omega (arith, length-drop at part)) ∙ just

    pub take_on : (next : Following) → next ≡ followed f bytes_at → followed next (drop (at + count) part) ≡ followed f (drop at part)
    take_on next e =
        ap (λ (g : Following). followed g (drop (at + count) part)) (e ∙ ap (λ (n : ℕ). followed f (take n (drop at part))) just)
        ∙ ap (followed (followed f (take count (drop at part)))) (sym (drop-drop count at part))
        ∙ sym (pieces-joined f (take count (drop at part)) (drop count (drop at part))) ∙ ap (followed f) (take-append-drop count (drop at part))

  pub take_none : length part ≤ at → f ≡ followed f (drop at part)
  unfolding followed
  take_none all = sym (ap (followed f) (drop_of_length-le part all))

-- bytes that are taken at once and not one are whole ticks
pub whole-ticks : (is_record : Bool) (holds count : ℕ) → AtOnce is_record holds count → (count ≡ 1 → ⊥) → (holds ≡ 0) × (1 ≤ count) × (count % cond is_record 3 2 ≡ 0)
whole-ticks is_record holds count (inl one) more = absurd (more one)
whole-ticks is_record holds count (inr whole) more = whole

-- the answers
module _ (f : Following) (refusal : ℕ) (is : refusal ≡ refusal_at f) where
  module _ (broken : refusal ≡ 0 → ⊥) where
    pub replayed-refused : (counts : Counts) → counts ≡ counts_of no_machine → record { refusal = refusal; counts = counts } ≡ replayed_answer f
    unfolding replayed_answer
    replayed-refused counts none = rw (← is) (simp (ne_eqb refusal 0 broken, none ∙ none-counted))

    pub checked_refused : Refused refusal ≡ checked_answer f
    unfolding checked_answer
    checked_refused = rw (← is) (simp (ne_eqb refusal 0 broken))

  module _ (passed : refusal ≡ 0) where
    pub replayed-passed : (counts : Counts) → counts ≡ counts_of f.machine → record { refusal = 0; counts = counts } ≡ replayed_answer f
    unfolding replayed_answer
    replayed-passed counts e = simp (sym is ∙ passed, e)

    pub checked-differs : f.differs ≡ true → Differs f.same ≡ checked_answer f
    unfolding checked_answer
    checked-differs some = simp (sym is ∙ passed, some)

    pub checked-accepted : f.differs ≡ false → Accepted ≡ checked_answer f
    unfolding checked_answer
    checked-accepted none = simp (sym is ∙ passed, none)
