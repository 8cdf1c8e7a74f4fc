-- What happened since a run began, as turns of a plant.
-- for: running::run_in
use Rattle.std.proofs.Common.{◌≡◌, ◌≤◌, ◌<◌, ◌+◌, zero, suc, min, ℕ, List, [], ◌∷◌, ◌++◌, length, take, get_or, Option, Some, None, Ok, refl, sym, ap, subst}
use Rattle.std.proofs.Common.{arith, ◌∙◌, inr, false}
use Rattle.sqlite_trees.specs.View.{doubt}
use Rattle.sw_context.specs.Spelling.{IsSpelled, bytes_of}
use Rattle.sw_participant.specs.Chains.{Rule, Called, Began, Makes, counted, counts_after, outcome_place}
use Rattle.sw_participant.proofs.Chains.{chain_append, chain_called, counts_append}
use Rattle.journal_rows.specs.Tables.{all_made}
use Rattle.journal_rows.specs.Law.{changes_of}
use Rattle.tx_history.specs.declared.event.Entry.{Entry}
use Rattle.tx_history.specs.declared.event.Event.TheVariants as event
use Rattle.tx_history.specs.Views.{AreSpelled}
use Rattle.tx_history.specs.declared.journal.JournalView.{JournalView}
use Rattle.tx_engine.specs.World.{World, Recorded}
use Rattle.tx_plant.specs.declared.seat.Seat.{Seat}
use Rattle.tx_plant.specs.declared.turn.Outcome.{Outcome}
use Rattle.tx_plant.specs.declared.turn.Outcome.TheVariants as outcome
use Rattle.tx_plant.specs.declared.turn.Turn.{Turn}
use Rattle.tx_plant.specs.declared.turn.Turn.TheVariants as turn
use Rattle.tx_plant.specs.Recovered.{recovered}
use Rattle.tx_plant.specs.Steps.{Moved, Serves, Works, told_of}
use Rattle.tx_plant.specs.Core.{Core, newest_fate}
use Rattle.tx_plant.specs.Entered.{Entered, seat_with}
use Rattle.tx_plant.specs.Plant.{Drives, GoesOn, IsClean, IsEngine, Seen, StaysFailed, TurnsTo, Whole, Writes as IsWrite, count_of, late}
use Rattle.tx_plant.proofs.Driving.{took, turn_take, turn_step, turn_write, turn_logged, stepped_keeps}
use Rattle.tx_plant.proofs.Entering.{entered_stepped}
use Rattle.tx_plant.proofs.Looping.{driven_more, drives_none}
use Rattle.tx_plant.proofs.Stepping.{led_served}
use Rattle.tx_locked.specs.declared.station.MadeCall.{MadeCall}
use Rattle.tx_locked.specs.AllStations.{AllLinked}
use Rattle.tx_locked.specs.RunSteps.{RunStep, Offers, Takes, Replies, Writes, DoesAll, Marks, calls_of}
use Rattle.tx_pool.specs.Drives.{Drove}
use Rattle.tx_locked.proofs.Calls.{last_call}

-- the journal, write by write

pub record WritesTo (j : Seen) (b : List Entry) (k : Seen) : Type 0 where
  pub clean : doubt j.is_clean ≤ doubt k.is_clean
  pub fresh : StaysFailed j k
  pub ok : k.failed ≡ false
  pub tables : IsClean k → k.tables ≡ all_made (changes_of b) j.tables

abbrev pub Leads : List RunStep → Seen → Seen → Type 0
Leads [] j k = k ≡ j
Leads (Writes b ∷ ds) j k = (i : Seen) × Leads ds j i × WritesTo i b k
Leads (d ∷ ds) j k = Leads ds j k

-- turn by turn

drives_more : (rule : ℕ → Rule) (os : List (List ℕ)) (cs : List ℕ) (turns : List Turn) (outs : List Outcome) (t : Turn) (o : Outcome) (p : Whole)
    (ps : List (List ℕ)) (ds : List ℕ) (q : Whole) (qs : List (List ℕ)) (es : List ℕ) (r : Whole)
    → Drives rule os cs turns outs p ps ds q → TurnsTo rule ps ds t (Ok o) q qs es r → GoesOn t q r →
    Drives rule os cs (turns ++ t ∷ []) (outs ++ o ∷ []) p qs es r
drives_more rule os cs turns outs t o p ps ds q qs es r (m, d, l, c) (n, tu, k, b) go = (
  m ++ n,
  driven_more turns outs m n t o p q r d tu go,
  (λ start a.
      let (mid, f, h) = l start a in
      let (end, g, i) = k mid h in
      (end, chain_append recovered rule m n os start ps mid qs end f g, i)),
  b ∙ (ap (λ (z : List ℕ). counts_after z n) c ∙ sym (counts_append cs m n)),
)

drove_more : (rule : ℕ → Rule) (os : List (List ℕ)) (cs : List ℕ) (t : Turn) (o : Outcome) (p : Whole) (ps : List (List ℕ)) (ds : List ℕ) (q : Whole)
    (qs : List (List ℕ)) (es : List ℕ) (r : Whole) → Drove rule os cs p ps ds q → TurnsTo rule ps ds t (Ok o) q qs es r → GoesOn t q r →
    length r.core.seats ≡ r.core.world.sessions → Drove rule os cs p qs es r
drove_more rule os cs t o p ps ds q qs es r d tu go h = record {
  turns = d.turns ++ t ∷ [];
  outcomes = d.outcomes ++ o ∷ [];
  drives =
      drives_more rule os cs d.turns d.outcomes t o p ps ds q qs es r d.drives tu go;
  seats = h;
}

still_goes : (t : Turn) (p q : Core) (j : Seen) → IsEngine q.world → GoesOn t (record { core = p; journal = j }) (record { core = q; journal = j })
still_goes t p q j e = record { engine = e; clean = omega arith; journal = record { failed = λ h. h; tables = λ a b c. refl } }

-- a reply is a step

entered_serves : (p q : Core) (s n : ℕ) (m : MadeCall) → Entered p s m.call m.reply m.before m.after n q →
    Serves p.world s (seat_with m.call.id m.before) (seat_with m.call.id m.after) (Called m.call (outcome_place m.call.act (told_of p.world m.call.id))
    m.reply ∷ []) (Ok (outcome.Accepted n)) q.world
entered_serves p q s n m e = (
  record { id = m.call.id; context = m.after; kept = Some m.reply },
  m.reply,
  (refl, inr (record { call = m.call; reply = m.reply; due = e.due; own = refl; suits = e.suits; unkept = refl; seat = refl; is = refl })),
  refl,
  e.recorded,
)

seated_there : (seats : List (Option Seat)) (s : ℕ) (l : Seat) → get_or seats s None ≡ Some l → s < length seats
seated_there [] s l h = absurd (cc)
seated_there (x ∷ xs) zero l h = omega arith
seated_there (x ∷ xs) (suc s) l h = let i = seated_there xs s l h in omega (arith, i)

entered_turns : (rule : ℕ → Rule) (os : List (List ℕ)) (cs : List ℕ) (p q : Core) (j : Seen) (s n : ℕ) (m : MadeCall) (ps : List (List ℕ)) (ds : List ℕ) →
    Entered p s m.call m.reply m.before m.after n q → Makes rule os m.before m.call m.reply ps m.after → ds ≡ counted cs m.call.participant
    → TurnsTo rule os cs (turn.Step s) (Ok (outcome.Accepted n)) (record { core = p; journal = j }) ps ds (record { core = q; journal = j })
entered_turns rule os cs p q j s n m ps ds e makes count =
    let place = outcome_place m.call.act (told_of p.world m.call.id) in
    let moved : List Moved = Called m.call place m.reply ∷ [] in
    let l = seat_with m.call.id m.before in
    let t = seat_with m.call.id m.after in
    let work : Works rule os cs l t moved ps ds = record {
      id = refl;
      chain = λ start a. chain_called {V = JournalView} recovered rule os start m.call place m.reply ps m.before m.after a makes;
      counts = count;
    } in
    let led = led_served rule os cs p q s l t moved (Ok (outcome.Accepted n)) ps ds (newest_fate q.world) (seated_there p.seats s l e.seated) e.seated
    (entered_serves p q s n m e) work e.leaves in
    turn_step rule os cs (turn.Step s) s p q j (Ok (outcome.Accepted n)) (Ok (outcome.Accepted n)) ps ds refl refl
    (moved, entered_stepped p q s n m.call m.reply m.before m.after e, led, count)

-- a write, which was done before

min_within : (a b : ℕ) → a ≤ b → min a b ≡ a
min_within a b h = omega (arith, h)

writes_turns : (rule : ℕ → Rule) (os : List (List ℕ)) (cs : List ℕ) (p q : Core) (j k : Seen) (b : List Entry) → Marks b p q → WritesTo j b k
    → TurnsTo rule os cs (turn.Write (Some (length b))) (Ok (outcome.Written (p.world.mark + length b))) (record { core = p; journal = j }) os cs
    (record { core = q; journal = k })
writes_turns rule os cs p q j k b m w =
    let n = p.world.mark + length b in
    let to = record p.world { mark = n } in
    let count : count_of (Some (length b)) (length (late p.world)) ≡ length b = min_within (length b) (length (late p.world)) m.few in
    let write : IsWrite (Some (length b)) p.world j (Ok (outcome.Written n)) to k = (
      ap (λ z. p.world.mark + z) (sym count),
      refl,
      w.ok,
      λ clean. w.tables clean ∙ ap (λ z. all_made (changes_of z) j.tables) (m.batch ∙ ap (λ z. take z (late p.world)) (sym count)),
    ) in
    subst (λ (z : Core). TurnsTo rule os cs (turn.Write (Some (length b))) (Ok (outcome.Written n)) (record { core = p; journal = j }) os cs
    (record { core = z; journal = k })) (sym m.core) (turn_write rule os cs (turn.Write (Some (length b))) (Some (length b)) p to p.seats p.waiting
    p.ended j k (Ok (outcome.Written n)) (Ok (outcome.Written n)) refl refl refl write)

-- an offer: its bytes are those of a context

spelled_offer : (w : World) (b : List ℕ) (n : ℕ) (to : World) → Recorded w (event.Offered b) n to → AreSpelled to.past → IsSpelled b
spelled_offer w b n to r s = let past : to.past ≡ event.Offered b ∷ w.past = ap (λ (z : World). z.past) r.history in (subst AreSpelled past s).0

same_lists : {A : Type 0} (d : A) (os ps : List A) → length ps ≡ length os → ((k : ℕ) → get_or ps k d ≡ get_or os k d) → ps ≡ os
same_lists d [] [] h e = refl
same_lists d [] (p ∷ ps) h e = absurd (omega (arith, h))
same_lists d (o ∷ os) [] h e = absurd (omega (arith, h))
same_lists d (o ∷ os) (p ∷ ps) h e = let h1 : length ps ≡ length os = omega (arith, h) in
    ap (λ z. z ∷ ps) (e 0) ∙ ap (λ z. o ∷ z) (same_lists d os ps h1 (λ k. e (suc k)))

pub drove : (rule : ℕ → Rule) (os : List (List ℕ)) (cs : List ℕ) (ss : List RunStep) (p q : Core) (j k : Seen) (ps : List (List ℕ)) (ds : List ℕ) →
    length cs ≡ length os → length p.seats ≡ p.world.sessions → DoesAll ss p q → Leads ss j k → AllLinked rule os cs (calls_of ss) ps ds
    → Drove rule os cs (record { core = p; journal = j }) ps ds (record { core = q; journal = k })
drove rule os cs [] p q j k ps ds c h ran leads linked =
    let e : ps ≡ os = same_lists [] os ps linked.long linked.linked in
    let f : ds ≡ cs = same_lists 0 cs ds (linked.counted ∙ sym c) linked.counts in
    subst (λ (z : List (List ℕ)). Drove rule os cs (record { core = p; journal = j }) z ds (record { core = q; journal = k })) (sym e)
    (subst (λ (z : List ℕ). Drove rule os cs (record { core = p; journal = j }) os z (record { core = q; journal = k })) (sym f)
    (subst (λ (z : Core). Drove rule os cs (record { core = p; journal = j }) os cs (record { core = z; journal = k })) (sym ran)
    (subst (λ (z : Seen). Drove rule os cs (record { core = p; journal = j }) os cs (record { core = p; journal = z })) (sym leads)
    (record { turns = []; outcomes = []; drives = drives_none rule os cs (record { core = p; journal = j }); seats = h }))))
drove rule os cs (Offers b n ∷ ss) p q j k ps ds c h (w, ran, (allowed, rec, e), engine) leads linked =
    let d = drove rule os cs ss p w j k ps ds c h ran leads linked in
    let (x, is, spelled) = spelled_offer w.world b n q.world rec engine.lawful.spelled in
    let recorded : Recorded w.world (event.Offered (bytes_of x)) n q.world = subst
    (λ (z : List ℕ). Recorded w.world (event.Offered z) n q.world) spelled rec in
    let one = turn_logged rule ps ds (turn.Offer x) w q.world w.seats w.waiting w.ended k (Ok (outcome.Accepted n)) (Ok (outcome.Accepted n)) refl refl
    (allowed, recorded) refl in
    drove_more rule os cs (turn.Offer x) (outcome.Accepted n) (record { core = p; journal = j }) ps ds (record { core = w; journal = k }) ps ds
    (record { core = q; journal = k }) d (subst (λ (z : Core). TurnsTo rule ps ds (turn.Offer x) (Ok (outcome.Accepted n))
    (record { core = w; journal = k }) ps ds (record { core = z; journal = k })) (sym e) one) (still_goes (turn.Offer x) w q k engine)
    (ap (λ (z : Core). length z.seats) e ∙ (d.seats ∙ sym (ap (λ (z : World). z.sessions) recorded.history)))
drove rule os cs (Takes s n id x ∷ ss) p q j k ps ds c h (w, ran, taken, engine) leads linked =
    let d = drove rule os cs ss p w j k ps ds c h ran leads linked in
    let keeps = (took rule ps ds w q s (Began id x ∷ []) (Ok (outcome.Accepted n)) d.seats taken).keeps in
    drove_more rule os cs (turn.Take s) (outcome.Accepted n) (record { core = p; journal = j }) ps ds (record { core = w; journal = k }) ps ds
    (record { core = q; journal = k }) d (turn_take rule ps ds (turn.Take s) s w q k (Ok (outcome.Accepted n)) (Ok (outcome.Accepted n)) refl refl
    d.seats (Began id x ∷ [], taken)) (still_goes (turn.Take s) w q k engine)
    (keeps.seats ∙ (d.seats ∙ sym keeps.sessions))
drove rule os cs (Replies s n m ∷ ss) p q j k ps ds c h (w, ran, entered, engine) leads linked =
    let last = last_call rule os cs (calls_of ss) m ps ds linked in
    let d = drove rule os cs ss p w j k last.before last.counts c h ran leads last.linked in
    let keeps = stepped_keeps w q s _ (Ok (outcome.Accepted n)) (entered_stepped w q s n m.call m.reply m.before m.after entered) in
    drove_more rule os cs (turn.Step s) (outcome.Accepted n) (record { core = p; journal = j }) last.before last.counts (record { core = w; journal = k })
    ps ds (record { core = q; journal = k }) d (entered_turns rule last.before last.counts w q k s n m ps ds entered last.makes last.counted_is)
    (still_goes (turn.Step s) w q k engine)
    (keeps.seats ∙ (d.seats ∙ sym keeps.sessions))
drove rule os cs (Writes b ∷ ss) p q j k ps ds c h (w, ran, marks, engine) (i, leads, to) linked =
    let d = drove rule os cs ss p w j i ps ds c h ran leads linked in
    let e = marks.core in
    drove_more rule os cs (turn.Write (Some (length b))) (outcome.Written (w.world.mark + length b)) (record { core = p; journal = j }) ps ds
    (record { core = w; journal = i }) ps ds (record { core = q; journal = k }) d (writes_turns rule ps ds w q i k b marks to)
    (record { engine = engine; clean = to.clean; journal = record { failed = to.fresh; tables = λ a. absurd (cc) } })
    (ap (λ (z : Core). length z.seats) e ∙ (d.seats ∙ sym (ap (λ (z : Core). z.world.sessions) e)))
