-- A step of a session: its call, or the record of the reply that it keeps, or both.
-- for: laws::turns_are_moves
use Rattle.std.proofs.Common.{◌≡◌, inl, inr, ℕ, ◌==◌, true, List, [], ◌∷◌, Option, Some, None, Result, Ok, Err, refl, sym, ◌∙◌, ap, subst}
use Rattle.sw_context.specs.Pairs.{Pairs}
use Rattle.sw_context.specs.Spelling.{bytes_of}
use Rattle.sw_participant.specs.declared.call.Call.{Call}
use Rattle.sw_participant.specs.declared.call.Reply.{Reply}
use Rattle.sw_participant.specs.declared.call.Reply.TheVariants as reply
use Rattle.sw_participant.specs.Chains.{Called as CalledOne, outcome_place}
use Rattle.flow_model.specs.declared.flow.Flow.{Flow}
use Rattle.outcome_calls.specs.One.{FullReply}
use Rattle.outcome_calls.specs.Core.{Called, PlantDeed, put}
use Rattle.outcome_calls.specs.Plant as plant
use Rattle.outcome_calls.specs.Plant.{AbstractPlant, Replied, SessionEvent}
use Rattle.outcome_calls.specs.Stations.{with_context}
use Rattle.outcome_calls.proofs.PlantMoves.{put_other, put_self, ran}
use Rattle.outcome_calls.proofs.Turns.{IsRunOf, none_small, one_small, then_small}
use Rattle.tx_history.specs.declared.event.Event.{Event}
use Rattle.tx_history.specs.History.{Start}
use Rattle.outcome_history.specs.Sessions.{session_event}
use Rattle.tx_engine.specs.World.{World, happened}
use Rattle.tx_slots.specs.DueCalls.{asks_for}
use Rattle.tx_engine.specs.Calls.{next_of}
use Rattle.tx_engine.specs.Replies.{kind_of}
use Rattle.tx_plant.specs.declared.seat.Seat.{Seat}
use Rattle.tx_plant.specs.declared.turn.Outcome.{Outcome}
use Rattle.tx_plant.specs.declared.turn.Outcome.TheVariants as outcome
use Rattle.tx_plant.specs.declared.turn.StepFault.{StepFault}
use Rattle.tx_plant.specs.Steps.{Asked, Calls, DeclinesAndRests, Keeps, Moved, Records, Rests, Serves, event_of, told_of}
use Rattle.tx_plant.specs.Core.{Core, Leaves, Stepped, fate_after, left, newest_fate, seat_of}
use Rattle.tx_plant.specs.Plant.{IsEngine, Seen, Whole}
use Rattle.outcome_plant.specs.Deeds.{called, deeds, kept_in, kept_reply}
use Rattle.outcome_plant.specs.Mirrors.{Mirrors, StandsFor}
use Rattle.outcome_plant.proofs.CallsMade.{MayCall, may_call}
use Rattle.outcome_plant.proofs.Growth.{Follows, grown, stayed}
use Rattle.outcome_plant.proofs.SeatReplies.{left_here, left_none, left_there, seated, seated_here, seated_there}
use Rattle.tx_seats.proofs.SeatSets.{by_session}
use Rattle.tx_seats.proofs.SeatedSteps.{one_reply}

-- a reply is kept: that of the call that was made now, or of an earlier one
pub record Asks (w : World) (a : AbstractPlant) (s : ℕ) (x : FullReply) (m : List Moved) : Type 0 where
  pub to : AbstractPlant
  pub run : IsRunOf w.flow (deeds w.flow m) a to
  pub start : to.start ≡ a.start
  pub late : to.late ≡ a.late
  pub gone : to.gone ≡ a.gone
  pub mark : to.mark ≡ a.mark
  pub here : to.kept s ≡ Some x
  pub others : (t : ℕ) → (s ≡ t → ⊥) → to.kept t ≡ a.kept t

rested : (w : World) (seat : ℕ → Option Seat) (j : Seen) (a : AbstractPlant) (s : ℕ) (l c : Seat) (m : List Moved) (r : Reply) → Mirrors w seat j a →
    seat s ≡ Some l → c.kept ≡ Some r → Rests l c m → Asks w a s (with_context r (bytes_of c.context)) m
rested w seat j a s l c m r h at kept rests = record {
  to = a;
  run = none_small w.flow (deeds w.flow m) a a (ap (deeds w.flow) rests.1, refl);
  start = refl;
  late = refl;
  gone = refl;
  mark = refl;
  here = h.kept s ∙ (ap kept_reply at ∙ (ap (λ (z : Seat). kept_in z z.kept) (sym rests.0) ∙ ap (kept_in c) kept));
  others = λ t other. refl;
}

asked_call : (w : World) (a : AbstractPlant) (s : ℕ) (call : Call) (r : Reply) (x : FullReply) (told : ℕ) (m : List Moved) (context : List ℕ) →
    x ≡ with_context r context → m ≡ CalledOne call (outcome_place call.act told) r ∷ [] → MayCall w a s call r told context → Asks w a s x m
asked_call w a s call r x told m context is_x is k =
    let b : AbstractPlant = record a { kept = put s (Some (with_context r context)) a.kept; calls = Called call.id k.deed ∷ a.calls } in
    let c = k.callable in
    let run : IsRunOf w.flow (Called call.id k.deed ∷ []) a b = one_small w.flow (plant.Call s (with_context r context) k.deed) (Called call.id k.deed ∷ [])
    a b (call.id, c.0, c.1, c.2, c.3, c.4, c.5, refl) refl in
    let new : Called call.id k.deed ∷ [] ≡ deeds w.flow m = ap (called call.id) (sym k.is) ∙ ap (deeds w.flow) (sym is) in
    record {
      to = b;
      run = subst (λ (new : List PlantDeed). IsRunOf w.flow new a b) new run;
      start = refl;
      late = refl;
      gone = refl;
      mark = refl;
      here = put_self s (Some (with_context r context)) a.kept ∙ ap Some (sym is_x);
      others = λ t other. put_other s t (Some (with_context r context)) a.kept other;
    }

called_now : (w : World) (seat : ℕ → Option Seat) (j : Seen) (a : AbstractPlant) (s : ℕ) (l c : Seat) (m : List Moved) (r : Reply) → Mirrors w seat j a →
    seat s ≡ Some l → c.kept ≡ Some r → Calls (next_of w s) (told_of w l.id) l c m → Asks w a s (with_context r (bytes_of c.context)) m
called_now w seat j a s l c m r h at kept k =
    let same : k.reply ≡ r = one_reply r k.reply c.kept kept (ap (λ (z : Seat). z.kept) k.seat) in
    let fits : asks_for (kind_of k.reply) k.call.act ≡ true = k.suits in
    let none : a.kept s ≡ None = h.kept s ∙ (ap kept_reply at ∙ ap (kept_in l) k.unkept) in
    let told : told_of w l.id ≡ told_of w k.call.id = ap (told_of w) (sym k.own) in
    asked_call w a s k.call k.reply (with_context r (bytes_of c.context)) (told_of w k.call.id) m (bytes_of c.context)
    (ap (λ (q : Reply). with_context q (bytes_of c.context)) (sym same))
    (k.is ∙ ap (λ (n : ℕ). CalledOne k.call (outcome_place k.call.act n) k.reply ∷ []) told)
    (may_call w seat j a s k.call k.reply (bytes_of c.context) h k.due none fits)

pub asks : (w : World) (seat : ℕ → Option Seat) (j : Seen) (a : AbstractPlant) (s : ℕ) (l c : Seat) (m : List Moved) (r : Reply) → Mirrors w seat j a →
    seat s ≡ Some l → Asked (next_of w s) (told_of w l.id) l c m r → Asks w a s (with_context r (bytes_of c.context)) m
asks w seat j a s l c m r h at (kept, inl rests) = rested w seat j a s l c m r h at kept rests
asks w seat j a s l c m r h at (kept, inr k) = called_now w seat j a s l c m r h at kept k

-- the reply is recorded

reply_event : (f : Flow) (v : Start) (past : List Event) (s : ℕ) (r : Reply) (x : Pairs) →
    session_event f v past (event_of s r x) ≡ Replied s (with_context r (bytes_of x))
reply_event f v past s (reply.Answer b) x = refl
reply_event f v past s (reply.Chosen t) x = refl
reply_event f v past s (reply.Told a) x = refl
reply_event f v past s reply.Recovered x = refl

abbrev recorded_plant : AbstractPlant → ℕ → FullReply → AbstractPlant
recorded_plant a s x = record a { kept = put s None a.kept; late = Replied s x ∷ a.late }

recorded_as : (w : World) (seat other : ℕ → Option Seat) (j : Seen) (a : AbstractPlant) (s : ℕ) (m : List Moved) (e : Event) (x : FullReply) →
    Mirrors w seat j a → IsEngine (happened w e) → session_event w.flow w.start w.past e ≡ Replied s x → Asks w a s x m
    → kept_reply (other s) ≡ None → ((t : ℕ) → (s ≡ t → ⊥) → kept_reply (other t) ≡ kept_reply (seat t)) →
    (b : AbstractPlant) × IsRunOf w.flow (deeds w.flow m) a b × Mirrors (happened w e) other j b
recorded_as w seat other j a s m e x h engine is k none same =
    let b : AbstractPlant = recorded_plant k.to s x in
    let last : IsRunOf w.flow [] k.to b = one_small w.flow (plant.Record s) [] k.to b (x, k.here, refl) refl in
    let run : IsRunOf w.flow (deeds w.flow m) a b = then_small w.flow (deeds w.flow m) [] a k.to b k.run last in (
      b,
      run,
      grown w seat other j a b e h engine k.start (ap (λ (l : List SessionEvent). Replied s x ∷ l) k.late ∙ ap (λ (z : SessionEvent). z ∷ a.late) (sym is))
          k.gone k.mark
          (λ t. by_session s t (b.kept t ≡ kept_reply (other t))
          (λ here. subst (λ (t : ℕ). b.kept t ≡ kept_reply (other t)) here (put_self s None k.to.kept ∙ sym none))
          (λ there. put_other s t None k.to.kept there ∙ (k.others t there ∙ (h.kept t ∙ sym (same t there))))
          (s == t) refl)
          (ran w.flow run.turns a b h.fits run.run),
    )

stepped_recorded : (p q : Whole) (a : AbstractPlant) (s n : ℕ) (m : List Moved) (before after : Seat) → StandsFor a p → IsEngine q.core.world →
    seat_of p.core s ≡ Some before → q.journal ≡ p.journal → Records p.core.world s before after m n q.core.world
    → Leaves (newest_fate q.core.world) (left p.core s (newest_fate q.core.world) after q.core.world) q.core → Follows p q m a
stepped_recorded p q a s n m before after h engine at journal (c, r, asked, after_is, recorded) leave =
    let w = p.core.world in
    let e : Event = event_of s r c.context in
    let none : after.kept ≡ None = ap (λ (z : Seat). z.kept) after_is in
    let k = recorded_as w (seat_of p.core) (seat_of q.core) p.journal a s m e (with_context r (bytes_of c.context)) h
    (subst IsEngine recorded.history engine) (reply_event w.flow w.start w.past s r c.context)
    (asks w (seat_of p.core) p.journal a s before c m r h at asked)
    (left_here p.core q.core s before after q.core.world q.core.world at leave ∙ left_none q.core.world after none)
    (λ t there. left_there p.core q.core s t q.core.world q.core.world after leave there) in
    record {
      to = k.0;
      run = k.1;
      stands = subst (λ (j : Seen). Mirrors q.core.world (seat_of q.core) j k.0) (sym journal)
          (subst (λ (w : World). Mirrors w (seat_of q.core) p.journal k.0) (sym recorded.history) k.2);
      flow = ap (λ (w : World). w.flow) recorded.history;
    }

-- the reply is kept

rekept : (w : World) (seat other : ℕ → Option Seat) (j : Seen) (a : AbstractPlant) (s : ℕ) (x : FullReply) (m : List Moved) → Mirrors w seat j a →
    (k : Asks w a s x m) → kept_reply (other s) ≡ Some x → ((t : ℕ) → (s ≡ t → ⊥) → kept_reply (other t) ≡ kept_reply (seat t)) → Mirrors w other j k.to
rekept w seat other j a s x m h k here same = record {
  engine = h.engine;
  sessions = h.sessions;
  more = h.more;
  done = h.done;
  past = h.past;
  start = k.start ∙ h.start;
  late = k.late ∙ h.late;
  gone = k.gone ∙ h.gone;
  marked = k.mark ∙ h.marked;
  written = h.written;
  kept = λ t. by_session s t (k.to.kept t ≡ kept_reply (other t)) (λ e. subst (λ (t : ℕ). k.to.kept t ≡ kept_reply (other t)) e (k.here ∙ sym here))
      (λ e. k.others t e ∙ (h.kept t ∙ sym (same t e))) (s == t) refl;
  tables = h.tables;
  fits = ran w.flow k.run.turns a k.to h.fits k.run.run;
}

stepped_kept : (p q : Whole) (a : AbstractPlant) (s : ℕ) (m : List Moved) (before after : Seat) (r : Reply) → StandsFor a p →
    seat_of p.core s ≡ Some before → q.journal ≡ p.journal → Keeps p.core.world s before after m r q.core.world
    → q.core ≡ seated p.core s after q.core.world → Follows p q m a
stepped_kept p q a s m before after r h at journal (asked, world) leave =
    let w = p.core.world in
    let k = asks w (seat_of p.core) p.journal a s before after m r h at asked in
    let there : Mirrors w (seat_of q.core) p.journal k.to =
    rekept w (seat_of p.core) (seat_of q.core) p.journal a s (with_context r (bytes_of after.context)) m h k
    (seated_here p.core q.core s before after q.core.world at leave ∙ ap (kept_in after) asked.0)
    (λ t there. seated_there p.core q.core s t after q.core.world leave there) in
    record {
      to = k.to;
      run = k.run;
      stands = subst (λ (j : Seen). Mirrors q.core.world (seat_of q.core) j k.to) (sym journal)
          (subst (λ (w : World). Mirrors w (seat_of q.core) p.journal k.to) (sym world) there);
      flow = ap (λ (w : World). w.flow) world;
    }

-- nothing was done

stepped_idle : (p q : Whole) (a : AbstractPlant) (s : ℕ) (m : List Moved) (before after : Seat) → StandsFor a p → seat_of p.core s ≡ Some before →
    q.journal ≡ p.journal → Rests before after m → q.core.world ≡ p.core.world → q.core ≡ seated p.core s after q.core.world → Follows p q m a
stepped_idle p q a s m before after h at journal rests world leave =
    stayed p q m a h rests.1 world
    (λ t. by_session s t (kept_reply (seat_of p.core t) ≡ kept_reply (seat_of q.core t))
    (λ e. subst (λ (t : ℕ). kept_reply (seat_of p.core t) ≡ kept_reply (seat_of q.core t)) e
    (ap kept_reply at ∙ (ap (λ (z : Seat). kept_reply (Some z)) (sym rests.0) ∙ sym (seated_here p.core q.core s before after q.core.world at leave))))
    (λ e. sym (seated_there p.core q.core s t after q.core.world leave e))
    (s == t) refl)
    journal

stepped_stands : (p q : Whole) (a : AbstractPlant) (s : ℕ) (o : Outcome) (m : List Moved) (before after : Seat) → StandsFor a p →
    seat_of p.core s ≡ Some before → q.journal ≡ p.journal → DeclinesAndRests p.core.world s o before after m q.core.world →
    q.core ≡ seated p.core s after q.core.world → Follows p q m a
stepped_stands p q a s o m before after h at journal k leave = stepped_idle p q a s m before after h at journal k.2 k.3 leave

served_as : (p q : Whole) (a : AbstractPlant) (s : ℕ) (m : List Moved) (r : Result Outcome StepFault) (before after : Seat) → StandsFor a p →
    IsEngine q.core.world → seat_of p.core s ≡ Some before → q.journal ≡ p.journal → Serves p.core.world s before after m r q.core.world
    → Leaves (fate_after r q.core.world) (left p.core s (fate_after r q.core.world) after q.core.world) q.core → Follows p q m a
served_as p q a s m (Ok (outcome.Accepted n)) before after h engine at journal k leave = stepped_recorded p q a s n m before after h engine at journal k leave
served_as p q a s m (Ok (outcome.Refused e)) before after h engine at journal (inl k) leave =
    stepped_stands p q a s (outcome.Refused e) m before after h at journal k leave
served_as p q a s m (Ok (outcome.Refused e)) before after h engine at journal (inr k) leave = stepped_kept p q a s m before after k.0 h at journal k.2 leave
served_as p q a s m (Ok outcome.Idle) before after h engine at journal k leave = stepped_stands p q a s outcome.Idle m before after h at journal k leave
served_as p q a s m (Ok outcome.Unwritten) before after h engine at journal k leave =
    stepped_stands p q a s outcome.Unwritten m before after h at journal k leave
served_as p q a s m (Ok (outcome.Held c)) before after h engine at journal k leave = stepped_stands p q a s
    (outcome.Held c) m before after h at journal k leave
served_as p q a s m (Ok (outcome.Written n)) before after h engine at journal k leave =
    stepped_stands p q a s (outcome.Written n) m before after h at journal k leave
served_as p q a s m (Ok (outcome.Restarted n)) before after h engine at journal k leave =
    stepped_stands p q a s (outcome.Restarted n) m before after h at journal k leave
served_as p q a s m (Ok (outcome.Cut n)) before after h engine at journal k leave = stepped_stands p q a s (outcome.Cut n) m before after h at journal k leave
served_as p q a s m (Err e) before after h engine at journal (inl k) leave = stepped_idle p q a s m before after h at journal k.0 k.1 leave
served_as p q a s m (Err e) before after h engine at journal (inr k) leave = stepped_kept p q a s m before after k.0 h at journal k.1 leave

pub stepped : (p q : Whole) (a : AbstractPlant) (s : ℕ) (m : List Moved) (r : Result Outcome StepFault) → StandsFor a p → IsEngine q.core.world →
    q.journal ≡ p.journal → Stepped p.core s m r q.core → Follows p q m a
stepped p q a s m r h engine journal (inl k) =
    stayed p q m a h k.0.0 (ap (λ (c : Core). c.world) k.0.1) (λ t. ap (λ (c : Core). kept_reply (seat_of c t)) (sym k.0.1)) journal
stepped p q a s m r h engine journal (inr k) = served_as p q a s m r k.before k.after h engine k.seated journal k.serves k.leaves
