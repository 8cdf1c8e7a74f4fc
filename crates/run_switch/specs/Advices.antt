-- The stored advices are sent.
--
-- - *Sends all* (`Advices.antt`): each advice of a list sent once, and acknowledged where it was
--   accepted, and only there. *Is repeat*: an advice of a transaction of an earlier run, or one
--   that comes no later than the newest one that was sent in this run. *Going on*: the stored
--   advices after the one that was sent last, or all of them if none comes after it. *Between*:
--   the first of these are sent, at most the number that is set, and the history may be cut.
use Rattle.std.specs.Prelude.{◌≡◌, ℕ, Bool, true, false, cond, ◌==◌, ◌&&◌, ◌||◌, nat_le, nat_lt, List, [], ◌∷◌, take, Option, Some, None}
use Rattle.std.specs.BTreeMap.Range.{entries_between}
use Rattle.std.specs.declared.ops.Bound.TheVariants.{Excluded, Unbounded}
use Rattle.sw_issuers.specs.Sending.{PlainSender, SenderStep}
use Rattle.tx_history.specs.Journal.{advices}
use Rattle.tx_plant.specs.declared.turn.Outcome.{Outcome}
use Rattle.tx_plant.specs.declared.turn.Turn.TheVariants as turn
use Rattle.sw_stats.specs.Tallies.{with_delivered}
use Rattle.run_switch.specs.Lines.{Line}
use Rattle.run_switch.specs.Points.{IsAtRest, Point, world_at}
use Rattle.run_switch.specs.Rounds.{Does, IsEmptied, MayCut}
use Rattle.run_switch.specs.Traces.{Log, Tells}
use Rattle.tx_history.specs.Keys.{place_cmp}

-- how an advice is sent: its bytes, whether it is a repeat, the sender before, whether it was accepted, the sender after
abbrev pub AdviceStep : Type 1
AdviceStep = List ℕ → Bool → SenderStep

-- What sends the advices of a run. `most` is the most that it sends between two reads; `first` is the id of the run's first own
-- transaction. Of the advices that were sent in the run, by their transactions' ids and their places, `last` is the newest one, and
-- `reached` is the one that was sent last.
pub record PlainAdvisor : Type 0 where
  pub sender : PlainSender
  pub most : ℕ
  pub first : ℕ
  pub last : Option (ℕ × ℕ)
  pub reached : Option (ℕ × ℕ)

-- before the first advice is sent
abbrev pub begun_advisor : PlainSender → ℕ → ℕ → PlainAdvisor
begun_advisor sender most first = record { sender = sender; most = most; first = first; last = None; reached = None }

-- whether the advice at this place comes no later than that one, ids and places rising
abbrev pub is_up_to : ℕ × ℕ → Option (ℕ × ℕ) → Bool
is_up_to a None = false
is_up_to a (Some l) = nat_lt a.0 l.0 || (a.0 == l.0) && nat_le a.1 l.1

-- An advice is a repeat if an earlier run may have sent it, since its transaction is of such a run, or if this run has sent it.
abbrev pub is_repeat : PlainAdvisor → ℕ × ℕ → Bool
is_repeat s a = nat_lt a.0 s.first || is_up_to a s.last

-- the newest advice that was sent, with this one
abbrev pub last_with : PlainAdvisor → ℕ × ℕ → Option (ℕ × ℕ)
last_with s a = cond (is_repeat s a) s.last (Some a)

-- one more advice was accepted
abbrev pub one_delivered : Point → Point
one_delivered p = record p { answered = record p.answered { counts = with_delivered p.answered.counts } }

-- an advice that was accepted is dropped and counted, and no other
abbrev pub Acks : Bool → ℕ × ℕ → Point → Point → Type 0
Acks true place p q = (o : Outcome) × (w : Point) × Does (turn.Ack place.0 place.1) o p w × (q ≡ one_delivered w)
Acks false place p q = q ≡ p

-- an advice is sent once
pub record Sends (step : AdviceStep) (a : (ℕ × ℕ) × List ℕ) (s : PlainAdvisor) (p : Point) (t : PlainAdvisor) (q : Point) : Type 0 where
  pub accepted : Bool
  pub sent : step a.1 (is_repeat s a.0) s.sender accepted t.sender
  pub noted : t ≡ record s { sender = t.sender; last = last_with s a.0; reached = Some a.0 }
  pub acks : Acks accepted a.0 p q

-- The switch is at rest. Queue and shelf are empty if they were before.
pub record StaysAtRest (p q : Point) : Type 0 where
  pub rest : IsAtRest q
  pub emptied : IsEmptied (world_at p) → IsEmptied (world_at q)

-- one after the other
abbrev pub SendsAll : AdviceStep → List ((ℕ × ℕ) × List ℕ) → PlainAdvisor → Point → PlainAdvisor → Point → Type 0
SendsAll step [] s p t q = (t ≡ s) × (q ≡ p)
SendsAll step (a ∷ more) s p t q = (u : PlainAdvisor) × (w : Point) × Sends step a s p u w × SendsAll step more u w t q

-- the advices that are stored, ids and places rising
abbrev pub stored_at : Point → List ((ℕ × ℕ) × List ℕ)
stored_at p = advices (world_at p).flow (world_at p).start (world_at p).past

-- those that come after this one
abbrev pub later : ℕ × ℕ → List ((ℕ × ℕ) × List ℕ) → List ((ℕ × ℕ) × List ℕ)
later a xs = entries_between place_cmp (Excluded a) Unbounded xs

-- these, or those if there are none of these
abbrev pub these_or : List ((ℕ × ℕ) × List ℕ) → List ((ℕ × ℕ) × List ℕ) → List ((ℕ × ℕ) × List ℕ)
these_or [] others = others
these_or (a ∷ more) others = a ∷ more

-- in the order in which they are sent: those after the one that was sent last, and if none comes after it, all of them
abbrev pub going_on : Option (ℕ × ℕ) → List ((ℕ × ℕ) × List ℕ) → List ((ℕ × ℕ) × List ℕ)
going_on None xs = xs
going_on (Some a) xs = these_or (later a xs) xs

-- the advices that are sent between two reads
abbrev pub due_between : PlainAdvisor → Point → List ((ℕ × ℕ) × List ℕ)
due_between s p = take s.most (going_on s.reached (stored_at p))

-- between two reads: the next of the stored advices are sent, at most `most` of them; then the history may be cut
pub record Between (step : AdviceStep) (s : PlainAdvisor) (p : Point) (lines : List Line) (t : PlainAdvisor) (q : Point) : Type 0 where
  pub sent : Point
  pub sends : SendsAll step (due_between s p) s p t sent
  pub cuts : MayCut sent lines q

-- and the lines of the entries that are cut were written
pub record SendsBetween (step : AdviceStep) (s : PlainAdvisor) (p : Point) (a : Log) (t : PlainAdvisor) (q : Point) (b : Log) : Type 0 where
  pub lines : List Line
  pub between : Between step s p lines t q
  pub tells : Tells lines 0 a b
