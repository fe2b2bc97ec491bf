-- Byte after byte: what stays, whole ticks, how many bytes are held, and what the ticks come to: the rules and the machine, and what they show. Assumes nothing.
use Rattle.std.proofs.Common.{◌≡◌, ℕ, ◌+◌, ◌/◌, ◌%◌, ◌^◌, ◌<◌, Bool, true, false, cond, not, ◌&&◌, ◌||◌, eqb, List, [], ◌∷◌, length, get_or, sym, refl, ap, ◌∙◌, arith, eq-eqb, ne_eqb}
use native.Mathlib.Decide.{ℕ_discrete}
use Rattle.places.specs.Places.{one_if}
use Rattle.places.specs.Refusals.{or_else}
use Rattle.places.proofs.Refusals.{next-of, first_of, none_of, else-joined}
use Rattle.replay.specs.declared.Machine.{Machine}
use Rattle.replay.specs.declared.Following.{Following}
use Rattle.replay.specs.declared.Checked.{Checked}
use Rattle.replay.specs.declared.Checked.TheVariants.{Accepted, Differs}
use Rattle.replay.specs.Ticks.Machines.{tick}
use Rattle.replay.specs.Logs.Over.{ran_over}
use Rattle.replay.specs.Logs.Rules.{tick_refusal, ticks_refusal}
use Rattle.replay.specs.Logs.Shown.{log_in, shown, matching}
use Rattle.replay.specs.Logs.Pieces.{holding, breaking, running, differs_with, is_refused, ticked, after_tick, stepped, followed}
use Rattle.replay.proofs.OfLogs.Matched.{more-match, none-match}
use Rattle.replay.proofs.OfLogs.Stepped.{tick-kept, tick-broken, tick-run, step-releases, step-log, step-faults, step-ran}

-- What a field keeps that neither a byte held, nor a refusal, nor a run changes
module _ {A : Type 0} (field : Following → A) (broke : (f : Following) (n : ℕ) → field (breaking f n) ≡ field f) (ran : (f : Following) (r a : ℕ) (b : Bool) → field (running f r a b) ≡ field f) where
  picked : (b : Bool) (x y f : Following) → field x ≡ field f → field y ≡ field f → field (cond b x y) ≡ field f
  picked true x y f e h = e
  picked false x y f e h = h

  tick-keeps : (f : Following) (r a byte : ℕ) → field (ticked f r a byte) ≡ field f
  unfolding ticked
  tick-keeps f r a byte =
      picked (is_refused f) f _ f refl
      (picked (eqb (tick_refusal f.machine r a) 0) (running f r a (differs_with f r byte)) (breaking f (tick_refusal f.machine r a)) f (ran f r a _) (broke f _))

  module _ (held : (f : Following) (h r a : ℕ) → field (holding f h r a) ≡ field f) where
    step_keeps : (f : Following) (byte : ℕ) → field (stepped f byte) ≡ field f
    unfolding stepped
    step_keeps f byte =
        picked (eqb f.holds 0) _ _ f (held f _ _ _)
        (picked f.is_record _ _ f
        (picked (eqb f.holds 1) _ _ f (held f _ _ _) (tick-keeps (holding f 0 0 0) f.releases f.faults byte ∙ held f _ _ _))
        (tick-keeps (holding f 0 0 0) f.releases byte byte ∙ held f _ _ _))

    bytes-keep : (f : Following) (bytes : List ℕ) → field (followed f bytes) ≡ field f
    unfolding followed
    bytes-keep f [] = refl
    bytes-keep f (byte ∷ bytes) = bytes-keep (stepped f byte) bytes ∙ step_keeps f byte

-- the sheet's refusal stays
pub start-stays : (f : Following) (bytes : List ℕ) → (followed f bytes).start ≡ f.start
unfolding holding breaking running
start-stays = bytes-keep (λ f. f.start) (λ f n. refl) (λ f r a b. refl) (λ f h r a. refl)

-- after a whole tick
module _ (f : Following) (r a byte : ℕ) where
  after_first : (after_tick f r a byte).holds ≡ 0
  unfolding holding breaking running
  after_first = tick-keeps (λ f. f.holds) (λ f n. refl) (λ f r a b. refl) (holding f 0 0 0) r a byte

  after-kind : (after_tick f r a byte).is_record ≡ f.is_record
  unfolding holding breaking running
  after-kind = tick-keeps (λ f. f.is_record) (λ f n. refl) (λ f r a b. refl) (holding f 0 0 0) r a byte

  after-start : (after_tick f r a byte).start ≡ f.start
  unfolding holding breaking running
  after-start = tick-keeps (λ f. f.start) (λ f n. refl) (λ f r a b. refl) (holding f 0 0 0) r a byte

-- whole ticks of a log and of a record
module _ (f : Following) (first : f.holds ≡ 0) (r a : ℕ) where
  pub log-tick : f.is_record ≡ false → (rest : List ℕ) → followed f (r ∷ a ∷ rest) ≡ followed (after_tick f r a a) rest
  unfolding followed holding
  log-tick kind rest =
      ap (λ (g : Following). followed (stepped g a) rest) (step-releases f r first)
      ∙ ap (λ (g : Following). followed g rest) (step-log (holding f 1 r 0) a (λ e. omega arith) kind)

  pub record-tick : f.is_record ≡ true → (byte : ℕ) (rest : List ℕ) → followed f (r ∷ a ∷ byte ∷ rest) ≡ followed (after_tick f r a byte) rest
  unfolding followed holding
  record-tick kind byte rest =
      ap (λ (g : Following). followed (stepped (stepped g a) byte) rest) (step-releases f r first)
      ∙ ap (λ (g : Following). followed (stepped g byte) rest) (step-faults (holding f 1 r 0) a (λ e. omega arith) kind refl)
      ∙ ap (λ (g : Following). followed g rest) (step-ran (holding f 2 r a) byte (λ e. omega arith) kind (λ e. omega arith))

-- one byte taken at once
pub one-taken : (f : Following) (bytes : List ℕ) → length bytes ≡ 1 → stepped f (get_or bytes 0 0) ≡ followed f bytes
unfolding followed
one-taken f [] one = absurd (omega arith)
one-taken f (byte ∷ []) one = refl
one-taken f (byte ∷ b ∷ bytes) one = absurd (omega arith)

-- how many bytes are held
pub log-holds : (f : Following) → f.holds ≡ 0 → f.is_record ≡ false → (log : List ℕ) → (followed f log).holds ≡ length log % 2
unfolding followed holding
log-holds f first kind [] = first
log-holds f first kind (r ∷ []) = ap (λ (g : Following). g.holds) (step-releases f r first)
log-holds f first kind (r ∷ a ∷ log) =
    let rest = log-holds (after_tick f r a a) (after_first f r a a) (after-kind f r a a ∙ kind) log in
    omega (arith, rest, ap (λ (g : Following). g.holds) (log-tick f first r a kind log))

pub record-holds : (f : Following) → f.holds ≡ 0 → f.is_record ≡ true → (supplied : List ℕ) → (followed f supplied).holds ≡ length supplied % 3
unfolding followed holding
record-holds f first kind [] = first
record-holds f first kind (r ∷ []) = ap (λ (g : Following). g.holds) (step-releases f r first)
record-holds f first kind (r ∷ a ∷ []) =
    ap (λ (g : Following). (stepped g a).holds) (step-releases f r first)
    ∙ ap (λ (g : Following). g.holds) (step-faults (holding f 1 r 0) a (λ e. omega arith) kind refl)
record-holds f first kind (r ∷ a ∷ byte ∷ supplied) =
    let rest = record-holds (after_tick f r a byte) (after_first f r a byte) (after-kind f r a byte ∙ kind) supplied in
    omega (arith, rest, ap (λ (g : Following). g.holds) (record-tick f first r a kind byte supplied))

-- The rules and the machine
module _ (f : Following) (good : f.start ≡ 0) (r a byte : ℕ) where
  abbrev refused : ℕ
  refused = tick_refusal f.machine r a

  free : f.broken ≡ 0 → is_refused (holding f 0 0 0) ≡ false
  unfolding holding
  free whole = simp (eq-eqb f.start 0 good, eq-eqb f.broken 0 whole)

  -- the first rule that a tick broke stays, and else it is that of this tick
  after-broken : (after_tick f r a byte).broken ≡ or_else f.broken refused
  unfolding holding breaking running
  after-broken = go (ℕ_discrete f.broken 0) (ℕ_discrete refused 0)
    where
      go : Dec (f.broken ≡ 0) → Dec (refused ≡ 0) → (after_tick f r a byte).broken ≡ or_else f.broken refused
      go (no broken) is = ap (λ (g : Following). g.broken) (tick-kept (holding f 0 0 0) r a byte (simp (eq-eqb f.start 0 good, ne_eqb f.broken 0 broken))) ∙ sym (first_of f.broken refused broken)
      go (yes whole) (yes passed) = ap (λ (g : Following). g.broken) (tick-run (holding f 0 0 0) r a byte (free whole) passed) ∙ whole ∙ sym (next-of refused whole ∙ passed)
      go (yes whole) (no broken) = ap (λ (g : Following). g.broken) (tick-broken (holding f 0 0 0) r a byte (free whole) broken) ∙ sym (next-of refused whole)

  -- a tick that is not refused, after none that was, is run
  module _ (passed : (after_tick f r a byte).broken ≡ 0) where
    none-broken : (f.broken ≡ 0) × (refused ≡ 0)
    none-broken = none_of f.broken refused (sym after-broken ∙ passed)

    after_run : after_tick f r a byte ≡ running (holding f 0 0 0) r a (differs_with (holding f 0 0 0) r byte)
    unfolding holding
    after_run = tick-run (holding f 0 0 0) r a byte (free none-broken.0) none-broken.1

    after-machine : (after_tick f r a byte).machine ≡ tick f.machine r a
    unfolding holding running
    after-machine = ap (λ (g : Following). g.machine) after_run

-- a log is judged and run from one to the other
pub record Judged (f : Following) (log : List ℕ) (g : Following) : Type 0 where
  pub broken : g.broken ≡ or_else f.broken (ticks_refusal f.machine log)
  pub machine : g.broken ≡ 0 → g.machine ≡ ran_over f.machine log

judged-none : (f : Following) → Judged f [] f
unfolding ticks_refusal ran_over
judged-none f = record { broken = go (ℕ_discrete f.broken 0); machine = λ e. refl }
  where
    go : Dec (f.broken ≡ 0) → f.broken ≡ or_else f.broken 0
    go (yes e) = e ∙ sym (next-of 0 e)
    go (no e) = sym (first_of f.broken 0 e)

judged-on : (f : Following) → f.start ≡ 0 → (r a byte : ℕ) (log : List ℕ) (g : Following) → Judged (after_tick f r a byte) log g → Judged f (r ∷ a ∷ log) g
unfolding ticks_refusal ran_over
judged-on f good r a byte log g rest =
    record {
      broken = rest.broken ∙ on (ℕ_discrete (after_tick f r a byte).broken 0) ∙ ap (λ (n : ℕ). or_else n later) (after-broken f good r a byte) ∙ else-joined f.broken (tick_refusal f.machine r a) later;
      machine = λ e. rest.machine e ∙ ap (λ (m : Machine). ran_over m log) (after-machine f good r a byte (none_of (after_tick f r a byte).broken _ (sym rest.broken ∙ e)).0);
    }
  where
    later : ℕ
    later = ticks_refusal (tick f.machine r a) log

    on : Dec ((after_tick f r a byte).broken ≡ 0) → or_else (after_tick f r a byte).broken (ticks_refusal (after_tick f r a byte).machine log) ≡ or_else (after_tick f r a byte).broken later
    on (yes passed) = ap (λ (m : Machine). or_else (after_tick f r a byte).broken (ticks_refusal m log)) (after-machine f good r a byte passed)
    on (no broken) = first_of (after_tick f r a byte).broken _ broken ∙ sym (first_of (after_tick f r a byte).broken later broken)

pub log-judged : (f : Following) → f.start ≡ 0 → f.holds ≡ 0 → f.is_record ≡ false → (log : List ℕ) → length log % 2 ≡ 0 → Judged f log (followed f log)
unfolding followed
log-judged f good first kind [] whole = judged-none f
log-judged f good first kind (r ∷ []) whole = absurd (omega arith)
log-judged f good first kind (r ∷ a ∷ log) whole =
    rw (log-tick f first r a kind log)
    (judged-on f good r a a log _ (log-judged (after_tick f r a a) (after-start f r a a ∙ good) (after_first f r a a) (after-kind f r a a ∙ kind) log (omega arith)))

pub record-judged : (f : Following) → f.start ≡ 0 → f.holds ≡ 0 → f.is_record ≡ true → (supplied : List ℕ) → length supplied % 3 ≡ 0 → Judged f (log_in supplied) (followed f supplied)
unfolding followed log_in
record-judged f good first kind [] whole = judged-none f
record-judged f good first kind (r ∷ []) whole = absurd (omega arith)
record-judged f good first kind (r ∷ a ∷ []) whole = absurd (omega arith)
record-judged f good first kind (r ∷ a ∷ byte ∷ supplied) whole =
    rw (record-tick f first r a kind byte supplied)
    (judged-on f good r a byte (log_in supplied) _ (record-judged (after_tick f r a byte) (after-start f r a byte ∙ good) (after_first f r a byte) (after-kind f r a byte ∙ kind) supplied (omega arith)))

-- What the ticks show: told of what is kept, and of so many ticks to come of which so many from their start show what they must
unfoldable pub told_with : Following → ℕ → ℕ → Checked
told_with f ticks same = cond f.differs (Differs f.same) (cond (eqb same ticks) Accepted (Differs (f.same + same)))

module _ (f : Following) (ticks same : ℕ) where
  told-before : f.differs ≡ true → told_with f ticks same ≡ Differs f.same
  unfolding told_with
  told-before e = simp e

  told-all : f.differs ≡ false → same ≡ ticks → told_with f ticks same ≡ Accepted
  unfolding told_with
  told-all e all = simp (e, eq-eqb same ticks all)

  told-there : f.differs ≡ false → (same ≡ ticks → ⊥) → told_with f ticks same ≡ Differs (f.same + same)
  unfolding told_with
  told-there e some = simp (e, ne_eqb same ticks some)

-- a tick that is run is compared
module _ (f : Following) (kind : f.is_record ≡ true) (good : f.start ≡ 0) (r a byte : ℕ) (few : f.same + 1 < 2 ^ 64) (passed : (after_tick f r a byte).broken ≡ 0) where
  run-differs : (after_tick f r a byte).differs ≡ f.differs || not (eqb byte (shown f.machine r))
  unfolding holding running differs_with
  run-differs = ap (λ (g : Following). g.differs) (after_run f good r a byte passed) ∙ ap (λ (b : Bool). f.differs || (b && not (eqb byte (shown f.machine r)))) kind

  run-same : (b : Bool) → (after_tick f r a byte).differs ≡ b → (after_tick f r a byte).same ≡ (f.same + one_if (not b)) % 2 ^ 64
  unfolding holding running
  run-same b e =
      let ran = after_run f good r a byte passed in
      ap (λ (g : Following). g.same) ran ∙ ap (λ (d : Bool). (f.same + one_if (not d)) % 2 ^ 64) (sym (ap (λ (g : Following). g.differs) ran) ∙ e)

  -- with a difference the count stands, without one it is one more
  stands : (after_tick f r a byte).differs ≡ true → (after_tick f r a byte).same ≡ f.same
  unfolding one_if
  stands e = omega (arith, run-same true e)

  rises : (after_tick f r a byte).differs ≡ false → (after_tick f r a byte).same ≡ f.same + 1
  unfolding one_if
  rises e = omega (arith, run-same false e)

  -- what is told after the tick is what is told with it
  told-on : (supplied : List ℕ) → told_with (after_tick f r a byte) (length supplied / 3) (matching (after_tick f r a byte).machine supplied) ≡ told_with f (length (r ∷ a ∷ byte ∷ supplied) / 3) (matching f.machine (r ∷ a ∷ byte ∷ supplied))
  told-on supplied =
      ap (λ (m : Machine). told_with g ticks (matching m supplied)) (after-machine f good r a byte passed)
      ∙ go f.differs refl (ℕ_discrete byte (shown f.machine r)) (ℕ_discrete same ticks)
    where
      g : Following
      g = after_tick f r a byte

      ticks : ℕ
      ticks = length supplied / 3

      same : ℕ
      same = matching (tick f.machine r a) supplied

      go : (b : Bool) → f.differs ≡ b → Dec (byte ≡ shown f.machine r) → Dec (same ≡ ticks) → told_with g ticks same ≡ told_with f (length (r ∷ a ∷ byte ∷ supplied) / 3) (matching f.machine (r ∷ a ∷ byte ∷ supplied))
      go true e is all =
          let differs : g.differs ≡ true = run-differs ∙ simp e in
          told-before g ticks same differs ∙ ap Differs (stands differs) ∙ sym (told-before f _ _ e)
      go false e (no other) all =
          let differs : g.differs ≡ true = run-differs ∙ simp (e, ne_eqb byte (shown f.machine r) other) in
          let none = none-match f.machine r a byte supplied other in
          told-before g ticks same differs ∙ ap Differs (omega (arith, none, stands differs)) ∙ sym (told-there f _ _ e (λ h. omega (arith, none, h)))
      go false e (yes shows) (yes all) =
          let none : g.differs ≡ false = run-differs ∙ simp (e, eq-eqb byte (shown f.machine r) shows) in
          told-all g ticks same none all ∙ sym (told-all f _ _ e (omega (arith, all, more-match f.machine r a byte supplied shows)))
      go false e (yes shows) (no some) =
          let none : g.differs ≡ false = run-differs ∙ simp (e, eq-eqb byte (shown f.machine r) shows) in
          let more = more-match f.machine r a byte supplied shows in
          told-there g ticks same none some ∙ ap Differs (omega (arith, more, rises none)) ∙ sym (told-there f _ _ e (λ h. some (omega (arith, more, h))))

pub record-told : (f : Following) → f.start ≡ 0 → f.holds ≡ 0 → f.is_record ≡ true → (supplied : List ℕ) → length supplied % 3 ≡ 0 → f.same + length supplied / 3 < 2 ^ 64 → (followed f supplied).broken ≡ 0
    → cond (followed f supplied).differs (Differs (followed f supplied).same) Accepted ≡ told_with f (length supplied / 3) (matching f.machine supplied)
unfolding followed matching told_with
record-told f good first kind [] whole few passed = refl
record-told f good first kind (r ∷ []) whole few passed = absurd (omega arith)
record-told f good first kind (r ∷ a ∷ []) whole few passed = absurd (omega arith)
record-told f good first kind (r ∷ a ∷ byte ∷ supplied) whole few passed =
    let g = after_tick f r a byte in
    let turn = record-tick f first r a kind byte supplied in
    let later = sym (ap (λ (h : Following). h.broken) turn) ∙ passed in
    let rest = record-judged g (after-start f r a byte ∙ good) (after_first f r a byte) (after-kind f r a byte ∙ kind) supplied (omega arith) in
    let run = (none_of g.broken _ (sym rest.broken ∙ later)).0 in
    ap (λ (h : Following). cond h.differs (Differs h.same) Accepted) turn
    ∙ record-told g (after-start f r a byte ∙ good) (after_first f r a byte) (after-kind f r a byte ∙ kind) supplied (omega arith) (fewer g.differs refl run) later
    ∙ told-on f kind good r a byte (omega arith) run supplied
  where
    fewer : (b : Bool) → (after_tick f r a byte).differs ≡ b → (after_tick f r a byte).broken ≡ 0 → (after_tick f r a byte).same + length supplied / 3 < 2 ^ 64
    fewer true e run = omega (arith, few, stands f kind good r a byte (omega (arith, few)) run e)
    fewer false e run = omega (arith, few, rises f kind good r a byte (omega (arith, few)) run e)
