-- What follows for a run in which all that its threads left agrees.
-- for: ending::conclude, running::run_in
use Rattle.std.proofs.Common.{Result, Ok, Err, IfErr, IfOk, ◌≡◌, ◌⊎◌, ◌≤◌, ◌+◌, ℕ, zero, suc, false, Bool, List, [], ◌∷◌, ◌++◌, length, take, drop, refl, sym}
use Rattle.std.proofs.Common.{ap, subst, arith, ◌∙◌, inl, inr, append_assoc}
use Rattle.std.proofs.lemmas.List.{drop-append-le, length-append, length-drop, take_all}
use Rattle.sw_context.specs.Pairs.{Pairs}
use Rattle.sw_participant.specs.Chains.{Rule}
use Rattle.sw_participant.specs.declared.call.Reply.{Reply}
use Rattle.sw_participant.specs.declared.call.Reply.TheVariants as reply
use Rattle.journal_rows.specs.Tables.{Tables, all_made}
use Rattle.journal_rows.specs.Law.{changes_of}
use Rattle.tx_history.specs.declared.event.Event.{Event}
use Rattle.tx_history.specs.declared.event.Event.TheVariants as event
use Rattle.tx_history.specs.declared.event.Entry.{Entry}
use Rattle.tx_history.specs.Journal.{change}
use Rattle.journal_store.specs.Kept.{IsCleanJournal, JournalState}
use Rattle.tx_engine.specs.World.{World, happened}
use Rattle.tx_plant.specs.Core.{Core}
use Rattle.tx_plant.specs.Steps.{event_of}
use Rattle.tx_plant.specs.Plant.{IsEngine, late, seen}
use Rattle.tx_plant.specs.Written.{Carries, IsWritten, Leftovers, Written}
use Rattle.tx_plant.proofs.Writing.{grows_carry, write_written}
use Rattle.tx_locked.specs.declared.station.MadeCall.{MadeCall}
use Rattle.tx_locked.specs.RunSteps.{RunStep, Offers, Takes, Replies, Writes, DoesAll, offers_of, written_of}
use Rattle.tx_locked.specs.Since.{Since}
use Rattle.tx_locked.specs.AllStations.{AllLinked}
use Rattle.tx_pool.specs.Drives.{Drove}
use Rattle.tx_pool.specs.Ended.{Ended}
use Rattle.tx_pool.specs.Feeding.{HasFed}
use Rattle.tx_locked.specs.Receipts.{all_of, offered_by, offered_of, run_entries}
use Rattle.tx_pool.specs.Went.{Grown, Offered}
use Rattle.tx_pool.specs.Wrote.{LeavesLess, LeavesThese, Wrote}
use Rattle.tx_pool.proofs.Drove.{drove}
use Rattle.tx_pool.proofs.Writing.{WroteSeen, between, leads_of}
use Rattle.tx_history.proofs.EntryCounts.{entries_length}

-- the history grows by one event at a time

grown_none : (w : World) → Grown w w
grown_none w = record { flow = refl; from = refl; sessions = refl; new = []; past = refl }

grown_one : (p w q : World) (e : Event) → Grown p w → q ≡ happened w e → Grown p q
grown_one p w q e g h = record {
  flow = ap (λ (z : World). z.flow) h ∙ g.flow;
  from = ap (λ (z : World). z.start) h ∙ g.from;
  sessions = ap (λ (z : World). z.sessions) h ∙ g.sessions;
  new = e ∷ g.new;
  past = ap (λ (z : World). z.past) h ∙ ap (λ (l : List Event). e ∷ l) g.past;
}

grown_mark : (p : World) (w q : Core) (n : ℕ) → Grown p w.world → q ≡ record w { world = record w.world { mark = n } } → Grown p q.world
grown_mark p w q n g e = subst (λ (z : Core). Grown p z.world) (sym e) (record {
  flow = g.flow;
  from = g.from;
  sessions = g.sessions;
  new = g.new;
  past =
      g.past;
})

pub grown : (ss : List RunStep) (p q : Core) → DoesAll ss p q → Grown p.world q.world
grown [] p q e = subst (λ (z : Core). Grown p.world z.world) (sym e) (grown_none p.world)
grown (Offers x n ∷ ss) p q (w, ran, (allowed, recorded, e), engine) = grown_one p.world w.world q.world (event.Offered x) (grown ss p w ran) recorded.history
grown (Takes s n id x ∷ ss) p q (w, ran, taken, engine) = grown_one p.world w.world q.world (event.Taken s) (grown ss p w ran) taken.recorded.history
grown (Replies s n m ∷ ss) p q (w, ran, entered, engine) = grown_one p.world w.world q.world (event_of s m.reply m.after) (grown ss p w ran)
    entered.recorded.history
grown (Writes b ∷ ss) p q (w, ran, marks, engine) = grown_mark p.world w q (w.world.mark + length b) (grown ss p w ran) marks.core

pub longer : (p q : World) → Grown p q → length p.past ≤ length q.past
longer p q g = let long = length-append g.new p.past in let same = ap length g.past in omega (arith, long, same)

-- the offers

offered_more : (es : List Entry) (e : Entry) → offered_of (es ++ e ∷ []) ≡ offered_of es ++ offered_by e.event
offered_more [] e = nil_end (offered_by e.event) where
  nil_end : (l : List (List ℕ)) → l ++ [] ≡ l
  nil_end [] = refl
  nil_end (x ∷ l) = ap (λ z. x ∷ z) (nil_end l)
offered_more (x ∷ es) e = ap (λ l. offered_by x.event ++ l) (offered_more es e) ∙ sym (append_assoc (offered_by x.event) (offered_of es) (offered_by e.event))

nil_offers : (l : List (List ℕ)) → l ++ [] ≡ l
nil_offers [] = refl
nil_offers (x ∷ l) = ap (λ z. x ∷ z) (nil_offers l)

run_one : (p w q : World) (e : Event) → Grown p w → q ≡ happened w e → offered_of (run_entries p q) ≡ offered_of (run_entries p w) ++ offered_by e
run_one p w q e g h =
    let new : Entry = record { number = length w.past + 1; event = e; change = change w.flow w.start (e ∷ w.past) } in
    let long = longer p w g in
    let all = entries_length w.flow w.start w.past in
    ap (λ (z : World). offered_of (run_entries p z)) h ∙ (ap offered_of (drop-append-le (length p.past) (all_of w) (new ∷ []) (omega (arith, long, all)))
    ∙ offered_more (run_entries p w) new)

no_offer : (s : ℕ) (r : Reply) (y : Pairs) → offered_by (event_of s r y) ≡ []
no_offer s (reply.Answer b) y = refl
no_offer s (reply.Chosen t) y = refl
no_offer s (reply.Told a) y = refl
no_offer s reply.Recovered y = refl

run_none : (p : World) → offered_of (run_entries p p) ≡ []
run_none p = ap offered_of (drop_all (all_of p) (length p.past) (let all = entries_length p.flow p.start p.past in omega (arith, all))) where
  drop_all : (xs : List Entry) (n : ℕ) → length xs ≤ n → drop n xs ≡ []
  drop_all [] zero h = refl
  drop_all [] (suc n) h = refl
  drop_all (x ∷ xs) zero h = absurd (omega (arith, h))
  drop_all (x ∷ xs) (suc n) h = drop_all xs n (omega (arith, h))

run_mark : (p : World) (w q : Core) (n : ℕ) → q ≡ record w { world = record w.world { mark = n } } →
    offered_of (run_entries p q.world) ≡ offered_of (run_entries p w.world)
run_mark p w q n e = ap (λ (z : Core). offered_of (run_entries p z.world)) e

pub offers_are : (ss : List RunStep) (p q : Core) → DoesAll ss p q → offered_of (run_entries p.world q.world) ≡ offers_of ss
offers_are [] p q e = ap (λ (z : Core). offered_of (run_entries p.world z.world)) e ∙ run_none p.world
offers_are (Offers x n ∷ ss) p q (w, ran, (allowed, recorded, e), engine) =
    run_one p.world w.world q.world (event.Offered x) (grown ss p w ran) recorded.history ∙ ap (λ l. l ++ x ∷ []) (offers_are ss p w ran)
offers_are (Takes s n id x ∷ ss) p q (w, ran, taken, engine) =
    run_one p.world w.world q.world (event.Taken s) (grown ss p w ran) taken.recorded.history
    ∙ (nil_offers (offered_of (run_entries p.world w.world)) ∙ offers_are ss p w ran)
offers_are (Replies s n m ∷ ss) p q (w, ran, entered, engine) =
    run_one p.world w.world q.world (event_of s m.reply m.after) (grown ss p w ran) entered.recorded.history
    ∙ (ap (λ l. offered_of (run_entries p.world w.world) ++ l) (no_offer s m.reply m.after)
    ∙ (nil_offers (offered_of (run_entries p.world w.world)) ∙ offers_are ss p w ran))
offers_are (Writes b ∷ ss) p q (w, ran, marks, engine) = run_mark p.world w q (w.world.mark + length b) marks.core ∙ offers_are ss p w ran

pub ended_grown : (rule : ℕ → Rule) (os : List (List ℕ)) (cs : List ℕ) (p q : Core) (got : List (List ℕ)) (es : List Entry) (ps : List (List ℕ))
    (ds : List ℕ) → Ended rule os cs p q got es ps ds → Grown p.world q.world
ended_grown rule os cs p q got es ps ds e = grown e.since.steps p q e.since.does

pub ended_offered : (rule : ℕ → Rule) (os : List (List ℕ)) (cs : List ℕ) (p q : Core) (got : List (List ℕ)) (es : List Entry) (ps : List (List ℕ))
    (ds : List ℕ) (before after : List Pairs) (ended : Bool) → Ended rule os cs p q got es ps ds → HasFed before after ended got →
    Offered p.world q.world before after ended
ended_offered rule os cs p q got es ps ds before after ended e f = record {
  given = f.feeds.given;
  all = f.feeds.all;
  offers = offers_are e.since.steps p q e.since.does ∙ (e.since.offers ∙ f.feeds.bytes);
  ends = f.ends;
}

-- the drive

seen_wrote : (j k : JournalState) (es : List Entry) → Wrote j es k → WroteSeen (seen j) es (seen k)
seen_wrote j k es w = record { clean = w.clean; fresh = w.fresh; none = w.none; ok = ok w.left; tables = w.tables } where
  ok : ((es ≡ []) × LeavesLess j k) ⊎ ((k.failed ≡ false) × (IsCleanJournal k → LeavesThese k)) → (es ≡ []) ⊎ (k.failed ≡ false)
  ok (inl a) = inl a.0
  ok (inr a) = inr a.0

all_taken : (q : World) → q.mark ≡ length q.past → take q.mark (all_of q) ≡ all_of q
all_taken q e = take_all q.mark (all_of q) (let all = entries_length q.flow q.start q.past in omega (arith, all, e))

pub ended_drove : (rule : ℕ → Rule) (os : List (List ℕ)) (cs : List ℕ) (p q : Core) (got : List (List ℕ)) (es : List Entry) (ps : List (List ℕ))
    (ds : List ℕ) (j k : JournalState) → length cs ≡ length os → length p.seats ≡ p.world.sessions → p.world.mark ≤ length p.world.past →
    Ended rule os cs p q got es ps ds → Wrote j es k
    → Drove rule os cs (record { core = p; journal = seen j }) ps ds (record { core = q; journal = seen k })
ended_drove rule os cs p q got es ps ds j k c h m e w =
    let all = entries_length p.world.flow p.world.start p.world.past in
    let b = between e.since.steps p q (omega (arith, m, all)) e.since.does in
    let same : written_of e.since.steps ≡ es = b.is ∙ (ap (drop p.world.mark) (all_taken q.world e.settled.written) ∙ sym e.copies) in
    drove rule os cs e.since.steps p q (seen j) (seen k) ps ds c h e.since.does
    (leads_of e.since.steps p q (seen j) (seen k) e.since.does (subst (λ (z : List Entry). WroteSeen (seen j) z (seen k)) (sym same) (seen_wrote j k es w)))
    (subst (λ (z : List MadeCall). AllLinked rule os cs z ps ds) (sym e.since.calls) e.linked)

-- what is written

abbrev pub unmarked : World → ℕ → World
unmarked w n = record w { mark = n }

then : (a b c : World) → Carries a b → Carries b c → Carries a c
then a b c f g = record { written = λ t h. g.written t (f.written t h); ahead = λ more t h. g.ahead more t (f.ahead more t h) }

carry_one : (p w q : World) (e : Event) (n : ℕ) → q ≡ happened w e → Carries p (unmarked w n) → Carries p (unmarked q n)
carry_one p w q e n h c = then p (unmarked w n) (unmarked q n) c (grows_carry (unmarked w n) (unmarked q n) (inr (e, ap (λ (z : World). unmarked z n) h)))

pub carries_on : (ss : List RunStep) (p q : Core) → DoesAll ss p q → Carries p.world (unmarked q.world p.world.mark)
carries_on [] p q e = grows_carry p.world (unmarked q.world p.world.mark) (inl (ap (λ (z : Core). unmarked z.world p.world.mark) e))
carries_on (Offers x n ∷ ss) p q (w, ran, (allowed, recorded, e), engine) =
    carry_one p.world w.world q.world (event.Offered x) p.world.mark recorded.history (carries_on ss p w ran)
carries_on (Takes s n id x ∷ ss) p q (w, ran, taken, engine) = carry_one p.world w.world q.world (event.Taken s) p.world.mark taken.recorded.history
    (carries_on ss p w ran)
carries_on (Replies s n m ∷ ss) p q (w, ran, entered, engine) = carry_one p.world w.world q.world (event_of s m.reply m.after) p.world.mark
    entered.recorded.history (carries_on ss p w ran)
carries_on (Writes b ∷ ss) p q (w, ran, marks, engine) = subst (λ (z : Core). Carries p.world (unmarked z.world p.world.mark)) (sym marks.core)
    (carries_on ss p w ran)

-- all that is late was written at once
all_written : (p q : Core) (es : List Entry) (t u : Tables) → IsEngine q.world → p.world.mark ≤ q.world.mark → q.world.mark ≡ length q.world.past →
    es ≡ drop p.world.mark (all_of q.world) → u ≡ all_made (changes_of es) t → Written (unmarked q.world p.world.mark) t → Written q.world u
all_written p q es t u engine rises marked copies made v =
    let n = p.world.mark in
    let w = unmarked q.world n in
    let count = length (late w) in
    let all = entries_length q.world.flow q.world.start q.world.past in
    let few = length-drop n (all_of q.world) in
    let these : take count (late w) ≡ es = take_all count (late w) (omega arith) ∙ sym copies in
    write_written w t u q.world.mark count engine.flow engine.start engine.lawful (omega arith) (omega (arith, few, all, marked, rises))
    (made ∙ ap (λ (l : List Entry). all_made (changes_of l) t) (sym these)) v

-- where nothing was late, nothing more is written
none_late : (n : ℕ) (w : World) → w.mark ≡ length w.past → n ≤ w.mark → drop n (all_of w) ≡ [] → unmarked w n ≡ w
none_late n w marked rises none =
    let all = entries_length w.flow w.start w.past in
    let long = length-drop n (all_of w) in
    let zero_long : length (drop n (all_of w)) ≡ 0 = ap length none in
    let same : n ≡ w.mark = omega (arith, all, long, zero_long, marked, rises) in
    ap (λ (z : ℕ). record w { mark = z }) same

left_none : (p w : World) (j k : JournalState) → Carries p w → LeavesLess j k → Leftovers p j.may_leave → Leftovers w k.may_leave
left_none p w j k c less h = record {
  more = h.more;
  either = λ t left. elim (h.either t (less t left)) [
    | inl is ↦ inl (c.written t is)
    | inr is ↦ inr (c.ahead h.more t is)
  ];
}

left_these : (w : World) (k : JournalState) → LeavesThese k → Written w k.tables → Leftovers w k.may_leave
left_these w k these is = record { more = 0; either = λ t left. inl (subst (Written w) (sym (these t left)) is) }

pub ended_written : (rule : ℕ → Rule) (os : List (List ℕ)) (cs : List ℕ) (p q : Core) (got : List (List ℕ)) (es : List Entry) (ps : List (List ℕ))
    (ds : List ℕ) (j k : JournalState) → p.world.mark ≤ length p.world.past → Ended rule os cs p q got es ps ds → Wrote j es k → IsWritten p.world j →
    IsWritten q.world k
ended_written rule os cs p q got es ps ds j k m e w h =
    let all = entries_length p.world.flow p.world.start p.world.past in
    let b = between e.since.steps p q (omega (arith, m, all)) e.since.does in
    let carries = carries_on e.since.steps p q e.since.does in
    let is : IsCleanJournal k → k.failed ≡ false → Written q.world k.tables =
    λ clean ok. (let before : IsCleanJournal j = omega (arith, w.clean, clean) in
    all_written p q es j.tables k.tables e.engine b.rises e.settled.written e.copies (w.tables clean ok)
    (carries.written j.tables (h.tables before (w.fresh ok)))) in
    record { tables = is; left = λ clean. left_by clean b.rises carries is w.left }
  where
    left_by : IsCleanJournal k → p.world.mark ≤ q.world.mark → Carries p.world (unmarked q.world p.world.mark) →
        (IsCleanJournal k → k.failed ≡ false → Written q.world k.tables) →
        ((es ≡ []) × LeavesLess j k) ⊎ ((k.failed ≡ false) × (IsCleanJournal k → LeavesThese k)) → Leftovers q.world k.may_leave
    left_by clean rises carries is (inl (none, less)) =
        let before : IsCleanJournal j = omega (arith, w.clean, clean) in
        let same = none_late p.world.mark q.world e.settled.written rises (sym e.copies ∙ none) in
        left_none p.world q.world j k (subst (λ (z : World). Carries p.world z) same carries) less (h.left before)
    left_by clean rises carries is (inr (ok, these)) = left_these q.world k (these clean) (is clean ok)

-- a history is not shorter than it was
pub since_longer : (p q : Core) (got : List (List ℕ)) (total : ℕ) (made : List MadeCall) → Since p q got total made → length p.world.past ≤ length q.world.past
since_longer p q got total made s = longer p.world q.world (grown s.steps p q s.does)

-- in entries
pub since_entries : (p q : Core) (got : List (List ℕ)) (total : ℕ) (made : List MadeCall) → Since p q got total made →
    length p.world.past ≤ length (all_of q.world)
since_entries p q got total made s =
    let h = since_longer p q got total made s in
    let all = entries_length q.world.flow q.world.start q.world.past in
    omega (arith, h, all)

pub since_sessions : (p q : Core) (got : List (List ℕ)) (total : ℕ) (made : List MadeCall) → Since p q got total made → q.world.sessions ≡ p.world.sessions
since_sessions p q got total made s = (grown s.steps p q s.does).sessions

-- of what a run answers

pub ok_both : {A E : Type 0} (P Q R : A → Type 0) (r : Result A E) → IfOk r P → IfOk r Q → ((a : A) → P a → Q a → R a) → IfOk r R
ok_both P Q R (Ok a) p q f = f a p q
ok_both P Q R (Err e) p q f = tt

pub ok_three : {A E : Type 0} (P Q S R : A → Type 0) (r : Result A E) → IfOk r P → IfOk r Q → IfOk r S → ((a : A) → P a → Q a → S a → R a) → IfOk r R
ok_three P Q S R (Ok a) p q s f = f a p q s
ok_three P Q S R (Err e) p q s f = tt

-- what holds where a run was given up, in other words
pub err_with : {A : Type 0} {E : Type 0} (P : E → Type 0) (Q : E → Type 0) (r : Result A E) → IfErr r P → ((e : E) → P e → Q e) → IfErr r Q
err_with P Q (Ok a) h k = h
err_with P Q (Err e) h k = k e h
