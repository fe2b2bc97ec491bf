-- Ticks gone over with the cells held as columns: one more is judged, compared and run; whole ticks of bytes; and what is kept once one is refused or none is left. Assumes nothing.
use Rattle.std.proofs.Common.{◌≡◌, ℕ, ◌+◌, ◌-◌, ◌%◌, ◌<◌, ◌≤◌, Bool, true, false, cond, not, ◌&&◌, ◌||◌, eqb, leb, List, [], ◌∷◌, length, get_or, take, drop, sym, refl, ap, ◌∙◌, arith, length-drop, length-take-le, eq-eqb, leb-false}
use Rattle.places.specs.Places.{one_if}
use Rattle.places.proofs.Refusals.{next-of}
use Rattle.sheet.specs.Layout.{record_at}
use Rattle.replay.specs.declared.Cell.{Cell}
use Rattle.replay.specs.declared.Tally.{Tally}
use Rattle.replay.specs.declared.Machine.{Machine}
use Rattle.replay.specs.declared.Following.{Following}
use Rattle.replay.specs.declared.logs.going.Headway.{Headway}
use Rattle.replay.specs.Ticks.Tick.{is_marked}
use Rattle.replay.specs.Ticks.Cells.{cell_at, eight}
use Rattle.replay.specs.Ticks.Runner.{runner}
use Rattle.replay.specs.Ticks.Step.{entered, ran, faulted, ended, gap_after}
use Rattle.replay.specs.Ticks.Counts.{cell_of, gains, wrapped, added}
use Rattle.replay.specs.Ticks.Machines.{machine_with, cells_entered, runner_of}
use Rattle.replay.specs.Logs.Over.{ran_over}
use Rattle.replay.specs.Logs.Rules.{is_strange, some_early, is_hasty, tick_refusal, ticks_refusal}
use Rattle.replay.specs.Logs.Shown.{shown}
use Rattle.replay.specs.Logs.Pieces.{before_bytes, holding, breaking, running, differs_with, is_refused, ticked, after_tick, followed}
use Rattle.replay.specs.Logs.Held.{held_in, KeepsRunner}
use Rattle.replay.proofs.OfTicks.Ready.{has_changed}
use Rattle.replay.proofs.OfTicks.Held.{tick-held, runner-held}
use Rattle.replay.proofs.OfLogs.Going.{two_bytes, three-bytes}
use Rattle.replay.proofs.OfLogs.Stepped.{tick-kept, step-releases}
use Rattle.replay.proofs.OfLogs.Followed.{log-tick, record-tick, log-judged}

module _ (m : Machine) (cells : List Cell) (gap : ℕ) (tally : Tally) (releases : ℕ) where
  -- the rules are judged by the cells
  pub refusal-held : (faults : ℕ) (is_early : Bool) → is_early ≡ some_early releases (cell_at cells) → cond (is_strange m.count releases faults) 15 (cond is_early 16 (cond (is_hasty gap faults) 17 0)) ≡ tick_refusal (machine_with m cells gap tally) releases faults
  unfolding machine_with tick_refusal
  refusal-held faults is_early e = ap (λ (b : Bool). cond (is_strange m.count releases faults) 15 (cond b 16 (cond (is_hasty gap faults) 17 0))) e

  -- what a tick must show is the task that runs, once releases are in
  pub shown-held : (now : List Cell) → now ≡ eight (entered (record_at m.tasks) releases (cell_at cells)) → (priority : ℕ) → priority ≡ runner (record_at m.tasks) (cell_at now) → priority + cond (cell_of now priority).is_backup 128 0 ≡ shown (machine_with m cells gap tally) releases
  unfolding machine_with shown cells_entered runner_of
  shown-held now in_cells priority runs =
      let who = runs ∙ ap (λ (l : List Cell). runner (record_at m.tasks) (cell_at l)) in_cells in
      λ i. who i + cond (cell_of (in_cells i) (who i)).is_backup 128 0

module _ (f : Following) (cells : List Cell) (headway : Headway) where
  -- nothing is held, and nothing refused so far
  held_none : holding (held_in f cells headway) 0 0 0 ≡ held_in f cells headway
  unfolding held_in holding
  held_none = refl

  pub held-free : f.start ≡ 0 → headway.broken ≡ 0 → is_refused (held_in f cells headway) ≡ false
  unfolding held_in
  held-free good free = simp (eq-eqb f.start 0 good, eq-eqb headway.broken 0 free)

-- a tick that breaks no rule, by its phases: what is kept after it, and that the task that ran is kept with it
module _ (f : Following) (cells : List Cell) (headway : Headway) (releases faults byte : ℕ)
    (now : List Cell) (in_cells : now ≡ eight (entered (record_at f.machine.tasks) releases (cell_at cells)))
    (priority : ℕ) (small : priority ≤ 8) (who : priority ≡ runner (record_at f.machine.tasks) (cell_at now))
    (is_struck : Bool) (marked : is_struck ≡ is_marked faults)
    (last : List Cell) (at-end : last ≡ eight (λ slot. ended (cell_at (eight (faulted (record_at f.machine.tasks) is_struck priority (ran priority (cell_at now)))) slot)))
    (more : Tally) (adds : more ≡ gains releases priority now (eight (faulted (record_at f.machine.tasks) is_struck priority (ran priority (cell_at now)))))
    (is_other : Bool) (compared : is_other ≡ (f.is_record && not (eqb byte (priority + cond (cell_of now priority).is_backup 128 0))))
    (one same gap : ℕ) (tally : Tally)
  where
    differs-held : (headway.differs || is_other) ≡ differs_with (held_in f cells headway) releases byte
    unfolding held_in differs_with
    differs-held = ap (λ (b : Bool). headway.differs || b) (compared ∙ ap (λ (n : ℕ). f.is_record && not (eqb byte n)) (shown-held f.machine cells headway.gap headway.tally releases now in_cells priority who))

    pub run-held : one ≡ one_if (not (headway.differs || is_other)) → same ≡ wrapped headway.same one → gap ≡ gap_after f.machine.interval is_struck headway.gap → tally ≡ added headway.tally more
        → let next : Headway = record { broken = headway.broken; same = same; differs = headway.differs || is_other; gap = gap; tally = tally; priority = priority; has_changed = has_changed is_struck more } in
        (held_in f last next ≡ running (held_in f cells headway) releases faults (differs_with (held_in f cells headway) releases byte)) × KeepsRunner f last next
    unfolding held_in running
    run-held told counted aged added-up = (
      (λ i. record {
        is_record = f.is_record;
        start = f.start;
        broken = headway.broken;
        machine = tick-held f.machine cells headway.gap headway.tally releases faults now in_cells priority who is_struck marked last at-end more adds gap aged tally added-up i;
        same = (counted ∙ ap (wrapped headway.same) (told ∙ ap (λ (b : Bool). one_if (not b)) differs-held)) i;
        differs = differs-held i;
        holds = 0;
        releases = 0;
        faults = 0;
      }),
      record { small = small; kept = runner-held f.machine cells headway.gap headway.tally releases faults now in_cells priority who is_struck marked last at-end more adds },
    )

-- ticks of so many bytes
module _ (is_record : Bool) (width : ℕ) (wide : width ≡ cond is_record 3 2) where
  pub two-or-three : (2 ≤ width) × (width ≤ 3)
  two-or-three = go is_record wide
    where
      go : (b : Bool) → width ≡ cond b 3 2 → (2 ≤ width) × (width ≤ 3)
      go true e = (omega (arith, e), omega (arith, e))
      go false e = (omega (arith, e), omega (arith, e))

  -- the bytes of one tick
  pub tick-length : (r a ran : ℕ) → length (take width (r ∷ a ∷ ran ∷ [])) ≡ width
  tick-length r a ran = length-take-le width (r ∷ a ∷ ran ∷ []) two-or-three.1

  pub tick-whole : (r a ran : ℕ) → length (take width (r ∷ a ∷ ran ∷ [])) % width ≡ 0
  tick-whole r a ran = ap (λ (n : ℕ). n % width) (tick-length r a ran) ∙ go is_record wide
    where
      go : (b : Bool) → width ≡ cond b 3 2 → width % width ≡ 0
      go true e = ap (λ (n : ℕ). n % n) e
      go false e = ap (λ (n : ℕ). n % n) e

  -- of so many bytes, those of whole ticks
  pub whole-most : (bytes : ℕ) → width ≤ bytes → (bytes % width ≤ bytes) × (1 ≤ bytes - bytes % width) × ((bytes - bytes % width) % cond is_record 3 2 ≡ 0)
  whole-most bytes more = go is_record wide
    where
      go : (b : Bool) → width ≡ cond b 3 2 → (bytes % width ≤ bytes) × (1 ≤ bytes - bytes % width) × ((bytes - bytes % width) % cond b 3 2 ≡ 0)
      go true e =
          let is : bytes % width ≡ bytes % 3 = ap (λ (n : ℕ). bytes % n) e in
          (omega (arith, is), omega (arith, is, e), omega (arith, is))
      go false e =
          let is : bytes % width ≡ bytes % 2 = ap (λ (n : ℕ). bytes % n) e in
          (omega (arith, is), omega (arith, is, e), omega (arith, is))

  -- a tick less is whole ticks still
  whole-less : (bytes : ℕ) → width ≤ bytes → bytes % width ≡ 0 → (bytes - width) % width ≡ 0
  whole-less bytes more whole = go is_record wide
    where
      go : (b : Bool) → width ≡ cond b 3 2 → (bytes - width) % width ≡ 0
      go true e =
          let is : bytes % 3 ≡ 0 = sym (ap (λ (n : ℕ). bytes % n) e) ∙ whole in
          ap (λ (n : ℕ). (bytes - n) % n) e ∙ omega (arith, is, e)
      go false e =
          let is : bytes % 2 ≡ 0 = sym (ap (λ (n : ℕ). bytes % n) e) ∙ whole in
          ap (λ (n : ℕ). (bytes - n) % n) e ∙ omega (arith, is, e)

  module _ (f : Following) (kind : f.is_record ≡ is_record) where
    -- the tick at an index, and what comes after it
    over-tick : f.holds ≡ 0 → (bytes : List ℕ) (at : ℕ) → at + width ≤ length bytes
        → followed (after_tick f (get_or bytes at 0) (get_or bytes (at + 1) 0) (get_or bytes (at + width - 1) 0)) (drop (at + width) bytes) ≡ followed f (drop at bytes)
    over-tick first bytes at more = go is_record wide kind
      where
        go : (b : Bool) → width ≡ cond b 3 2 → f.is_record ≡ b → followed (after_tick f (get_or bytes at 0) (get_or bytes (at + 1) 0) (get_or bytes (at + width - 1) 0)) (drop (at + width) bytes) ≡ followed f (drop at bytes)
        go true e is =
            let last : at + width - 1 ≡ at + 2 = omega (arith, e) in
            (λ i. followed (after_tick f (get_or bytes at 0) (get_or bytes (at + 1) 0) (get_or bytes (last i) 0)) (drop (at + e i) bytes))
            ∙ sym (record-tick f first _ _ is _ (drop (at + 3) bytes)) ∙ sym (ap (followed f) (three-bytes bytes at (omega (arith, e))))
        go false e is =
            let last : at + width - 1 ≡ at + 1 = omega (arith, e) in
            (λ i. followed (after_tick f (get_or bytes at 0) (get_or bytes (at + 1) 0) (get_or bytes (last i) 0)) (drop (at + e i) bytes))
            ∙ sym (log-tick f first _ _ is (drop (at + 2) bytes)) ∙ sym (ap (followed f) (two_bytes bytes at (omega (arith, e))))

    module _ (none : holding f 0 0 0 ≡ f) where
      free : f.holds ≡ 0
      unfolding holding
      free = sym (ap (λ (g : Following). g.holds) none)

      -- once something is refused, whole ticks change nothing
      module _ (refused : is_refused f ≡ true) where
        stays : (r a ran : ℕ) → after_tick f r a ran ≡ f
        stays r a ran = ap (λ (g : Following). ticked g r a ran) none ∙ tick-kept f r a ran refused

        log-stays : f.is_record ≡ false → (bytes : List ℕ) → length bytes % 2 ≡ 0 → followed f bytes ≡ f
        unfolding followed
        log-stays is [] whole = refl
        log-stays is (r ∷ []) whole = absurd (omega arith)
        log-stays is (r ∷ a ∷ bytes) whole = log-tick f free r a is bytes ∙ ap (λ (g : Following). followed g bytes) (stays r a a) ∙ log-stays is bytes (omega arith)

        record-stays : f.is_record ≡ true → (bytes : List ℕ) → length bytes % 3 ≡ 0 → followed f bytes ≡ f
        unfolding followed
        record-stays is [] whole = refl
        record-stays is (r ∷ []) whole = absurd (omega arith)
        record-stays is (r ∷ a ∷ []) whole = absurd (omega arith)
        record-stays is (r ∷ a ∷ ran ∷ bytes) whole = record-tick f free r a is ran bytes ∙ ap (λ (g : Following). followed g bytes) (stays r a ran) ∙ record-stays is bytes (omega arith)

        refused-stays : (bytes : List ℕ) → length bytes % width ≡ 0 → followed f bytes ≡ f
        refused-stays bytes whole = go is_record wide kind
          where
            go : (b : Bool) → width ≡ cond b 3 2 → f.is_record ≡ b → followed f bytes ≡ f
            go true e is = record-stays is bytes (sym (ap (λ (n : ℕ). length bytes % n) e) ∙ whole)
            go false e is = log-stays is bytes (sym (ap (λ (n : ℕ). length bytes % n) e) ∙ whole)

      -- less than a tick of whole ticks is none
      none_left : (bytes : List ℕ) → length bytes % width ≡ 0 → length bytes < width → followed f bytes ≡ f
      unfolding followed
      none_left [] whole short = refl
      none_left (byte ∷ bytes) whole short = absurd (go is_record wide)
        where
          go : (b : Bool) → width ≡ cond b 3 2 → ⊥
          go true e = omega (arith, e, sym (ap (λ (n : ℕ). length (byte ∷ bytes) % n) e) ∙ whole)
          go false e = omega (arith, e, sym (ap (λ (n : ℕ). length (byte ∷ bytes) % n) e) ∙ whole)

      -- the end, once something is refused or no tick is left
      over-end : (bytes : List ℕ) (at : ℕ) → length (drop at bytes) % width ≡ 0 → ((eqb f.start 0 && eqb f.broken 0) && leb width (length bytes - at)) ≡ false → followed f (drop at bytes) ≡ f
      over-end bytes at whole ends = go (eqb f.start 0) refl (eqb f.broken 0) refl ends
        where
          go : (a : Bool) → eqb f.start 0 ≡ a → (b : Bool) → eqb f.broken 0 ≡ b → ((a && b) && leb width (length bytes - at)) ≡ false → followed f (drop at bytes) ≡ f
          go false e b h ends = refused-stays (simp e) (drop at bytes) whole
          go true e false h ends = refused-stays (simp (e, h)) (drop at bytes) whole
          go true e true h ends = none_left (drop at bytes) whole (omega (arith, leb-false width (length bytes - at) ends, length-drop at bytes))

-- the loop over whole ticks: one turn more, and its end
module _ (f : Following) (cells : List Cell) (headway : Headway) (width : ℕ) (wide : width ≡ cond f.is_record 3 2) (bytes : List ℕ) (at : ℕ) where
  pub turn_on : at + width ≤ length bytes → (next : Following) → next ≡ ticked (held_in f cells headway) (get_or bytes at 0) (get_or bytes (at + 1) 0) (get_or bytes (at + width - 1) 0)
      → followed next (drop (at + width) bytes) ≡ followed (held_in f cells headway) (drop at bytes)
  unfolding held_in holding
  turn_on more next e = ap (λ (g : Following). followed g (drop (at + width) bytes)) e ∙ over-tick f.is_record width wide (held_in f cells headway) refl refl bytes at more

  pub whole-on : at + width ≤ length bytes → length (drop at bytes) % width ≡ 0 → length (drop (at + width) bytes) % width ≡ 0
  whole-on more whole =
      let less : length (drop (at + width) bytes) ≡ length (drop at bytes) - width = omega (arith, length-drop (at + width) bytes, length-drop at bytes) in
      ap (λ (n : ℕ). n % width) less ∙ whole-less f.is_record width wide (length (drop at bytes)) (omega (arith, length-drop at bytes)) whole

  pub turns-end : length (drop at bytes) % width ≡ 0 → ((eqb f.start 0 && eqb headway.broken 0) && leb width (length bytes - at)) ≡ false → followed (held_in f cells headway) (drop at bytes) ≡ held_in f cells headway
  unfolding held_in
  turns-end whole ends = over-end f.is_record width wide (held_in f cells headway) refl (held_none f cells headway) bytes at whole ends

-- what a log's tick shows is not looked at
log-ran : (f : Following) → f.is_record ≡ false → (r a b c : ℕ) → ticked f r a b ≡ ticked f r a c
unfolding ticked differs_with
log-ran f kind r a b c =
    ap (λ (d : Bool). cond (is_refused f) f (cond (eqb (tick_refusal f.machine r a) 0) (running f r a (f.differs || d)) (breaking f (tick_refusal f.machine r a)))) (none b ∙ sym (none c))
  where
    none : (n : ℕ) → (f.is_record && not (eqb n (shown f.machine r))) ≡ false
    none n = ap (λ (k : Bool). k && not (eqb n (shown f.machine r))) kind

-- a tick whose bytes were held is gone over as bytes of its own
pub tick-over : (f : Following) (r a ran width : ℕ) → width ≡ cond f.is_record 3 2 → followed (holding f 0 0 0) (take width (r ∷ a ∷ ran ∷ [])) ≡ after_tick f r a ran
unfolding followed holding
tick-over f r a ran width wide = ap (λ (n : ℕ). followed (holding f 0 0 0) (take n (r ∷ a ∷ ran ∷ []))) wide ∙ go f.is_record refl
  where
    go : (b : Bool) → f.is_record ≡ b → followed (holding f 0 0 0) (take (cond b 3 2) (r ∷ a ∷ ran ∷ [])) ≡ after_tick f r a ran
    go true kind = record-tick (holding f 0 0 0) refl r a kind ran []
    go false kind = log-tick (holding f 0 0 0) refl r a kind [] ∙ log-ran (holding f 0 0 0) kind r a a ran

-- where no byte is held, what is told of one that was plays no part
pub none-held : (f : Following) → f.holds ≡ 0 → (bytes : List ℕ) → 1 ≤ length bytes → followed (holding f 0 0 0) bytes ≡ followed f bytes
unfolding followed holding
none-held f first [] some = absurd (omega arith)
none-held f first (byte ∷ bytes) some = ap (λ (g : Following). followed g bytes) (step-releases (holding f 0 0 0) byte refl ∙ sym (step-releases f byte first))

-- a log of whole ticks, gone over from a machine: its refusal, and the machine after it
pub log-gone : (m : Machine) (log : List ℕ) → length log % 2 ≡ 0 → (f g : Following) → f ≡ before_bytes false (record { refusal = 0; machine = m }) → g ≡ followed (holding f 0 0 0) log → (g.broken ≡ ticks_refusal m log) × (g.broken ≡ 0 → g.machine ≡ ran_over m log)
unfolding before_bytes holding
log-gone m log whole f g start gone =
    let begun = before_bytes false (record { refusal = 0; machine = m }) in
    let all : g ≡ followed begun log = gone ∙ ap (λ (h : Following). followed (holding h 0 0 0) log) start in
    let judged = log-judged begun refl refl refl log whole in
    (ap (λ (h : Following). h.broken) all ∙ judged.broken ∙ next-of _ refl, λ none. ap (λ (h : Following). h.machine) all ∙ judged.machine (sym (ap (λ (h : Following). h.broken) all) ∙ none))
