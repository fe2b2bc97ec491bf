-- Each public call's contract leaves one answer: any two that its own reading admits are equal. Assumes nothing.
use mathlib.Core.Path.{◌≡◌}
use Prim.Native.Nat.{ℕ}
use Rattle.sheet.proofs.Unique.{both}
use Rattle.std.specs.Prelude.{Bool, Option, Result}
use Rattle.places.specs.declared.refusal.Refusal.{Refusal}
use Rattle.analysis.specs.declared.Entry.{Entry}
use Rattle.analysis.specs.declared.Assessment.{Assessment}
use Rattle.analysis.specs.declared.Bounds.{Bounds}
use Rattle.analysis.proofs.judge_rule.Reads as ruled
use Rattle.analysis.proofs.judge_choice_by.Reads as judged
use Rattle.analysis.proofs.judge_choice.Reads as chosen
use Rattle.analysis.proofs.time_by.Reads as timed
use Rattle.analysis.proofs.response_time.Reads as response
use Rattle.analysis.proofs.time_of.Reads as solved
use Rattle.analysis.proofs.time_in.Reads as timed-in
use Rattle.analysis.proofs.assess_in.Reads as assessed-in
use Rattle.analysis.proofs.assess_choice_by.Reads as choice-by
use Rattle.analysis.proofs.assess_by.Reads as assessed-by
use Rattle.analysis.proofs.assess_choice.Reads as assessed-choice
use Rattle.analysis.proofs.assess.Reads as assessed
use Rattle.analysis.proofs.least_interval.Reads as least
use Rattle.analysis.proofs.least_interval_by.Reads as least_by
use Rattle.analysis.proofs.bounds_of.Reads as bounded
use Rattle.analysis.proofs.meets_lent.Reads as lent
use Rattle.analysis.proofs.meets_choice.Reads as met
use Rattle.analysis.proofs.meets_by.Reads as own-met

pub judge-rule-unique : (args : _) (a b : Result (Unit {0}) Refusal) (s : _) → ruled.Learnt tt args a s → ruled.Learnt tt args b s → a ≡ b
judge-rule-unique args a b s = both

pub judge-choice-by-unique : (args : _) (a b : Result (Unit {0}) Refusal) (s : _) → judged.Learnt tt args a s → judged.Learnt tt args b s → a ≡ b
judge-choice-by-unique args a b s = both

pub judge-choice-unique : (args : _) (a b : Result (Unit {0}) Refusal) (s : _) → chosen.Learnt tt args a s → chosen.Learnt tt args b s → a ≡ b
judge-choice-unique args a b s = both

pub time-by-unique : (args : _) (a b : Result Entry Refusal) (s : _) → timed.Learnt tt args a s → timed.Learnt tt args b s → a ≡ b
time-by-unique args a b s = both

pub response-time-unique : (args : _) (a b : Result Entry Refusal) (s : _) → response.Learnt tt args a s → response.Learnt tt args b s → a ≡ b
response-time-unique args a b s = both

pub time-of-unique : (args : _) (a b : Result (Option ℕ) Refusal) (s : _) → solved.Learnt tt args a s → solved.Learnt tt args b s → a ≡ b
time-of-unique args a b s = both

pub assess-choice-by-unique : (args : _) (a b : Result Assessment Refusal) (s : _) → choice-by.Learnt tt args a s → choice-by.Learnt tt args b s → a ≡ b
assess-choice-by-unique args a b s = both

pub assess-by-unique : (args : _) (a b : Result Assessment Refusal) (s : _) → assessed-by.Learnt tt args a s → assessed-by.Learnt tt args b s → a ≡ b
assess-by-unique args a b s = both

pub assess-choice-unique : (args : _) (a b : Result Assessment Refusal) (s : _) → assessed-choice.Learnt tt args a s → assessed-choice.Learnt tt args b s → a ≡ b
assess-choice-unique args a b s = both

pub assess-unique : (args : _) (a b : Result Assessment Refusal) (s : _) → assessed.Learnt tt args a s → assessed.Learnt tt args b s → a ≡ b
assess-unique args a b s = both

pub least-interval-unique : (args : _) (a b : Result (Option ℕ) Refusal) (s : _) → least.Learnt tt args a s → least.Learnt tt args b s → a ≡ b
least-interval-unique args a b s = both

pub least-interval-by-unique : (args : _) (a b : Result (Option ℕ) Refusal) (s : _) → least_by.Learnt tt args a s → least_by.Learnt tt args b s → a ≡ b
least-interval-by-unique args a b s = both

pub time-in-unique : (κs : _) (args : _) (a b : Result Entry Refusal) (s : _) → timed-in.Learnt κs args a s → timed-in.Learnt κs args b s → a ≡ b
time-in-unique κs args a b s = both

pub assess-in-unique : (κs : _) (args : _) (a b : Result Assessment Refusal) (s : _) → assessed-in.Learnt κs args a s → assessed-in.Learnt κs args b s → a ≡ b
assess-in-unique κs args a b s = both

pub bounds-of-unique : (args : _) (a b : Result (Option Bounds) Refusal) (s : _) → bounded.Learnt tt args a s → bounded.Learnt tt args b s → a ≡ b
bounds-of-unique args a b s = both

pub meets-lent-unique : (κs : _) (args : _) (a b : Result Bool Refusal) (s : _) → lent.Learnt κs args a s → lent.Learnt κs args b s → a ≡ b
meets-lent-unique κs args a b s = both

pub meets-choice-unique : (args : _) (a b : Result Bool Refusal) (s : _) → met.Learnt tt args a s → met.Learnt tt args b s → a ≡ b
meets-choice-unique args a b s = both

pub meets-by-unique : (args : _) (a b : Result Bool Refusal) (s : _) → own-met.Learnt tt args a s → own-met.Learnt tt args b s → a ≡ b
meets-by-unique args a b s = both
