-- Each exported function's contract leaves one answer and one content of each lent output: any two that its own reading admits are equal. Assumes nothing.
use Prim.Native.Nat.{ℕ}
use mathlib.Core.Path.{◌≡◌}
use lib.IntN.{ℤ}
use contract.Lifetimes.{Lfts}
use Rattle.sheet.proofs.Unique.{both}
use Rattle.choices.proofs.Unique.{both-parts}
use Rattle.fidhaqooban.proofs.fq_judge.Reads as judge
use Rattle.fidhaqooban.proofs.fq_write_shared.Reads as write-shared
use Rattle.fidhaqooban.proofs.fq_write.Reads as write
use Rattle.fidhaqooban.proofs.fq_rewrite.Reads as rewrite
use Rattle.fidhaqooban.proofs.fq_record.Reads as recorded
use Rattle.fidhaqooban.proofs.fq_response.Reads as response
use Rattle.fidhaqooban.proofs.fq_slack.Reads as slack
use Rattle.fidhaqooban.proofs.fq_verdict.Reads as verdict
use Rattle.fidhaqooban.proofs.fq_times.Reads as times
use Rattle.fidhaqooban.proofs.fq_least_interval.Reads as least-interval
use Rattle.fidhaqooban.proofs.fq_next.Reads as next
use Rattle.fidhaqooban.proofs.fq_list.Reads as list
use Rattle.fidhaqooban.proofs.fq_assured_response.Reads as assured-response
use Rattle.fidhaqooban.proofs.fq_assured_next.Reads as assured-next
use Rattle.fidhaqooban.proofs.fq_assured_list.Reads as assured-list
use Rattle.fidhaqooban.proofs.fq_replay.Reads as replay
use Rattle.fidhaqooban.proofs.fq_check.Reads as check
use Rattle.fidhaqooban.proofs.fq_grant.Reads as grant
use Rattle.fidhaqooban.proofs.fq_mend.Reads as mend
use Rattle.fidhaqooban.proofs.fq_cores.Reads as cores
use Rattle.fidhaqooban.proofs.fq_release.Reads as release

pub fq-judge-unique : (κs : Lfts 1) (args : _) (a b : ℕ) (s : _) → judge.Learnt κs args a s → judge.Learnt κs args b s → a ≡ b
fq-judge-unique κs args a b s = both

pub fq-write-shared-unique : (κs : Lfts 2) (args : _) (a b : ℤ) (s u : _) → write-shared.Learnt κs args a s → write-shared.Learnt κs args b u → (a ≡ b) × (s.1.1.1.1.1.0.now ≡ u.1.1.1.1.1.0.now)
fq-write-shared-unique κs args a b s u = both-parts

pub fq-write-unique : (κs : Lfts 2) (args : _) (a b : ℤ) (s u : _) → write.Learnt κs args a s → write.Learnt κs args b u → (a ≡ b) × (s.1.1.1.0.now ≡ u.1.1.1.0.now)
fq-write-unique κs args a b s u = both-parts

pub fq-rewrite-unique : (κs : Lfts 2) (args : _) (a b : ℤ) (s u : _) → rewrite.Learnt κs args a s → rewrite.Learnt κs args b u → (a ≡ b) × (s.1.0.now ≡ u.1.0.now)
fq-rewrite-unique κs args a b s u = both-parts

pub fq-record-unique : (κs : Lfts 1) (args : _) (a b : ℤ) (s : _) → recorded.Learnt κs args a s → recorded.Learnt κs args b s → a ≡ b
fq-record-unique κs args a b s = both

pub fq-response-unique : (κs : Lfts 1) (args : _) (a b : ℤ) (s : _) → response.Learnt κs args a s → response.Learnt κs args b s → a ≡ b
fq-response-unique κs args a b s = both

pub fq-slack-unique : (κs : Lfts 2) (args : _) (a b : ℤ) (s u : _) → slack.Learnt κs args a s → slack.Learnt κs args b u → (a ≡ b) × (s.1.1.0.now ≡ u.1.1.0.now)
fq-slack-unique κs args a b s u = both-parts

pub fq-verdict-unique : (κs : Lfts 1) (args : _) (a b : ℤ) (s : _) → verdict.Learnt κs args a s → verdict.Learnt κs args b s → a ≡ b
fq-verdict-unique κs args a b s = both

pub fq-times-unique : (κs : Lfts 2) (args : _) (a b : ℤ) (s u : _) → times.Learnt κs args a s → times.Learnt κs args b u → (a ≡ b) × (s.1.0.now ≡ u.1.0.now)
fq-times-unique κs args a b s u = both-parts

pub fq-least-interval-unique : (κs : Lfts 1) (args : _) (a b : ℤ) (s : _) → least-interval.Learnt κs args a s → least-interval.Learnt κs args b s → a ≡ b
fq-least-interval-unique κs args a b s = both

pub fq-next-unique : (κs : Lfts 1) (args : _) (a b : ℤ) (s : _) → next.Learnt κs args a s → next.Learnt κs args b s → a ≡ b
fq-next-unique κs args a b s = both

pub fq-list-unique : (κs : Lfts 2) (args : _) (a b : ℤ) (s u : _) → list.Learnt κs args a s → list.Learnt κs args b u → (a ≡ b) × (s.1.0.now ≡ u.1.0.now)
fq-list-unique κs args a b s u = both-parts

pub fq-assured-response-unique : (κs : Lfts 1) (args : _) (a b : ℤ) (s : _) → assured-response.Learnt κs args a s → assured-response.Learnt κs args b s → a ≡ b
fq-assured-response-unique κs args a b s = both

pub fq-assured-next-unique : (κs : Lfts 1) (args : _) (a b : ℤ) (s : _) → assured-next.Learnt κs args a s → assured-next.Learnt κs args b s → a ≡ b
fq-assured-next-unique κs args a b s = both

pub fq-assured-list-unique : (κs : Lfts 2) (args : _) (a b : ℤ) (s u : _) → assured-list.Learnt κs args a s → assured-list.Learnt κs args b u → (a ≡ b) × (s.1.0.now ≡ u.1.0.now)
fq-assured-list-unique κs args a b s u = both-parts

pub fq-replay-unique : (κs : Lfts 3) (args : _) (a b : ℤ) (s u : _) → replay.Learnt κs args a s → replay.Learnt κs args b u → (a ≡ b) × (s.1.1.0.now ≡ u.1.1.0.now)
fq-replay-unique κs args a b s u = both-parts

pub fq-check-unique : (κs : Lfts 2) (args : _) (a b : ℤ) (s : _) → check.Learnt κs args a s → check.Learnt κs args b s → a ≡ b
fq-check-unique κs args a b s = both

pub fq-grant-unique : (κs : Lfts 4) (args : _) (a b : ℤ) (s u : _) → grant.Learnt κs args a s → grant.Learnt κs args b u → (a ≡ b) × (s.1.1.1.1.1.1.1.1.1.0.now ≡ u.1.1.1.1.1.1.1.1.1.0.now)
fq-grant-unique κs args a b s u = both-parts

pub fq-mend-unique : (κs : Lfts 3) (args : _) (a b : ℤ) (s u : _) → mend.Learnt κs args a s → mend.Learnt κs args b u
    → (a ≡ b) × (s.1.0.now ≡ u.1.0.now) × (s.1.1.0.now ≡ u.1.1.0.now)
fq-mend-unique κs args a b s u p q = (both p.0 q.0, both p.1.0 q.1.0, both p.1.1 q.1.1)

pub fq-cores-unique : (κs : Lfts 2) (args : _) (a b : ℤ) (s u : _) → cores.Learnt κs args a s → cores.Learnt κs args b u → (a ≡ b) × (s.1.1.0.now ≡ u.1.1.0.now)
fq-cores-unique κs args a b s u = both-parts

pub fq-release-unique : (κs : Lfts 2) (args : _) (a b : ℤ) (s : _) → release.Learnt κs args a s → release.Learnt κs args b s → a ≡ b
fq-release-unique κs args a b s = both
