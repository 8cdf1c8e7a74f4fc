-- Turns with the writes of their entries, one after the other.
-- for: switch::Switch, serving::Switch, advices::send_advices
use Rattle.std.proofs.Common.{◌≡◌, ◌≤◌, ℕ, List, [], ◌∷◌, ◌++◌, length, Option, Some, None, Result, Ok, Err, refl, sym, ap, subst, arith, ◌∙◌}
use Rattle.std.proofs.lemmas.List.{length-drop}
use Rattle.std.specs.Option.{option_to_list}
use Rattle.std.specs.declared.alloc.AllocError.{AllocError}
use Rattle.tx_history.specs.Journal.{entries}
use Rattle.tx_engine.specs.World.{World}
use Rattle.tx_plant.specs.declared.turn.Outcome.{Outcome}
use Rattle.tx_plant.specs.declared.turn.Outcome.TheVariants as outcome
use Rattle.tx_plant.specs.declared.turn.Turn.{Turn}
use Rattle.tx_plant.specs.declared.turn.Turn.TheVariants as turn
use Rattle.tx_plant.specs.Steps.{Moved}
use Rattle.tx_plant.specs.Plant.{Driven, GoesOn, Seen, Turned, Whole, Writes, raised}
use Rattle.tx_seats.specs.Drives.{AllDriven, Done, Drive}
use Rattle.run_switch.specs.declared.progress.Progress.{Progress}
use Rattle.run_switch.specs.Points.{IsAllWritten, Point}
use Rattle.run_switch.specs.Rounds.{Acts, Does, IsDone, doing}
use Rattle.tx_history.proofs.EntryCounts.{entries_length}
use Rattle.tx_plant.proofs.Outcomes.{same_outcome, unfaulted}
use Rattle.tx_seats.proofs.Drives.{all_driven_append}

-- calls of `drive` one after the other

pub acts_none : (p : Point) → Acts [] p p
acts_none p = record { moved = []; driven = (refl, refl); answered = refl }

pub acts_then : (ds es : List Drive) (p q r : Point) → Acts ds p q → Acts es q r → Acts (ds ++ es) p r
acts_then ds es p q r a b = record {
  moved = a.moved ++ b.moved;
  driven = all_driven_append ds es a.moved b.moved p.plant q.plant r.plant a.driven b.driven;
  answered = b.answered ∙ a.answered;
}

-- one call of `drive`
pub acts_once : (turns : List Turn) (outcomes : List Outcome) (m : List Moved) (p q : Whole) (id : Progress) → Driven turns outcomes m p q →
    Acts (Done turns outcomes ∷ []) (record { plant = p; answered = id }) (record { plant = q; answered = id })
acts_once turns outcomes m p q id driven = record { moved = m ++ []; driven = (q, m, [], driven, (refl, refl), refl); answered = refl }

-- after a write of all entries every entry is written

pub unraised : (R : Result Outcome AllocError → Type 0) (o : Outcome) (x : Result Outcome AllocError) → Ok o ≡ raised x → R x → R (Ok o)
unraised R o (Ok y) same holds = rw (same_outcome o y same) holds
unraised R o (Err e) same holds = cc

record Wrote (w to : World) : Type 0 where
  mark : ℕ
  world : to ≡ record w { mark = mark }
  all : to.mark ≤ length to.past → IsAllWritten to

wrote : (w to : World) (j k : Seen) (o : Outcome) → Writes None w j (Ok o) to k → Wrote w to
wrote w to j k (outcome.Written n) (n_is, to_is, fresh, tables) =
    let long = entries_length w.flow w.start w.past in
    let dropped = length-drop w.mark (entries w.flow w.start w.past) in
    let mark : to.mark ≡ n = ap (λ (z : World). z.mark) to_is in
    let past : length to.past ≡ length w.past = ap (λ (z : World). length z.past) to_is in
    record { mark = n; world = to_is; all = λ le. omega (arith, le, n_is, long, dropped, mark, past) }
wrote w to j k (outcome.Accepted n) h = absurd h
wrote w to j k (outcome.Refused n) h = absurd h
wrote w to j k outcome.Idle h = absurd h
wrote w to j k outcome.Unwritten h = absurd h
wrote w to j k (outcome.Held n) h = absurd h
wrote w to j k (outcome.Restarted n) h = absurd h
wrote w to j k (outcome.Cut n) h = absurd h

-- a write of all entries: it moves the mark, and nothing else
pub record Marked (p q : Whole) : Type 0 where
  pub mark : ℕ
  pub core : q.core ≡ record p.core { world = record p.core.world { mark = mark } }
  pub written : IsAllWritten q.core.world

marked_by : (o : Outcome) (m : List Moved) (p q : Whole) → Turned (turn.Write None) (Ok o) m p q → GoesOn (turn.Write None) p q → Marked p q
marked_by o m p q (none, core, x, same, writes) go =
    let w = wrote p.core.world q.core.world p.journal q.journal o (unfaulted (λ y. Writes None p.core.world p.journal y q.core.world q.journal) o x same
    writes) in
    record {
      mark = w.mark;
      core = core ∙ ap (λ (z : World). record p.core { world = z }) w.world;
      written = w.all go.engine.marked;
    }

pub marked : (os : List Outcome) (m : List Moved) (p q : Whole) → Driven (turn.Write None ∷ []) os m p q → (o : Outcome) × (os ≡ o ∷ []) × Marked p q
marked [] m p q d = absurd d
marked (o ∷ []) m p q (w, first, later, turned, (none, same), all, go) =
    (o, refl, subst (Marked p) (sym same) (marked_by o first p w turned go))
marked (o ∷ x ∷ os) m p q (w, first, later, turned, driven, all, go) = absurd driven

-- the outcomes of a turn and of the write after it
pub record Two (t : Turn) (os : List Outcome) (p q : Whole) : Type 0 where
  pub first : Outcome
  pub second : Outcome
  pub both : os ≡ first ∷ second ∷ []
  pub written : IsAllWritten q.core.world

pub both_done : (t : Turn) (os : List Outcome) (m : List Moved) (p q : Whole) → Driven (t ∷ turn.Write None ∷ []) os m p q → Two t os p q
both_done t [] m p q d = absurd d
both_done t (o ∷ os) m p q (w, first, later, turned, driven, all, go) =
    let (u, alone, mark) = marked os later w q driven in
    record { first = o; second = u; both = ap (λ (l : List Outcome). o ∷ l) alone; written = mark.written }

-- a turn that was done, and where the plant was before its entry was written
pub record Did (t : Turn) (o : Outcome) (p q : Whole) : Type 0 where
  pub between : Whole
  pub moved : List Moved
  pub turned : Turned t (Ok o) moved p between
  pub on : GoesOn t p between
  pub mark : ℕ
  pub core : q.core ≡ record between.core { world = record between.core.world { mark = mark } }

pub did : (t : Turn) (o : Outcome) (p q : Point) → Does t o p q → Did t o p.plant q.plant
did t o p q does = by_driven does.acts.driven where
  by_driven : AllDriven (doing t (o, does.wrote) ∷ []) does.acts.moved p.plant q.plant → Did t o p.plant q.plant
  by_driven (w, moved, none, (b, first, later, turned, driven, all, go), (nothing, same), whole) =
      let (u, alone, mark) = marked (does.wrote ∷ []) later b w driven in
      record {
        between = b;
        moved = first;
        turned = turned;
        on = go;
        mark = mark.mark;
        core = ap (λ (z : Whole). z.core) same ∙ mark.core;
      }

-- the turn of an outcome that is no refusal
head_is : (o u : Outcome) (us vs : List Outcome) → o ∷ us ≡ u ∷ vs → o ≡ u
head_is o u us vs e = cc

pub does_turn : (t : Turn) (os rest : List Outcome) (m : List Moved) (p q : Whole) (id : Progress) (o : Outcome) →
    Driven (t ∷ turn.Write None ∷ []) os m p q → os ≡ o ∷ rest → IsDone o
    → Does t o (record { plant = p; answered = id }) (record { plant = q; answered = id })
does_turn t os rest m p q id o driven is done =
    let two = both_done t os m p q driven in
    let first : two.first ≡ o = head_is two.first o (two.second ∷ []) rest (sym two.both ∙ is) in
    let both : os ≡ o ∷ two.second ∷ [] = two.both ∙ ap (λ (u : Outcome). u ∷ two.second ∷ []) first in
    record {
      wrote = two.second;
      acts = acts_once (t ∷ turn.Write None ∷ []) (o ∷ two.second ∷ []) m p q id (subst (λ (l : List Outcome). Driven (t ∷ turn.Write None ∷ []) l m p q)
          both driven);
      done = done;
      written = two.written;
    }

pub first_out : (os rest : List Outcome) (r : Option Outcome) (o : Outcome) → os ≡ option_to_list r ++ rest → r ≡ Some o → os ≡ o ∷ rest
first_out os rest r o is some = is ∙ ap (λ (z : Option Outcome). option_to_list z ++ rest) some
