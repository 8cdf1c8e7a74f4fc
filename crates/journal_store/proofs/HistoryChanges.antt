-- The changes of a lawful history are such as the tables take, and lead to tables without a fault.
-- for: laws::entries_fit, laws::histories_are_kept
use Rattle.std.proofs.Common.{◌≡◌, ℕ, suc, zero, ◌+◌, ◌<◌, ◌≤◌, Bool, true, false, if◌then◌else◌, List, [], ◌∷◌, ◌++◌, filter, Option, Some, None, nat_lt}
use Rattle.std.proofs.Common.{length, refl, sym, ap, subst, ◌∙◌, true≢false, arith, IsTrue}
use Rattle.sw_context.specs.Names.{is_name}
use Rattle.std.specs.Prelude.{slice_get}
use Rattle.std.specs.List.{AllByRecursion}
use Rattle.flow_model.specs.declared.flow.Flow.{Flow}
use Rattle.tx_machine.specs.Table.{is_open}
use Rattle.tx_history.specs.declared.event.Change.{Change}
use Rattle.tx_history.specs.declared.event.Entry.{Entry}
use Rattle.tx_history.specs.declared.event.Event.{Event}
use Rattle.tx_history.specs.declared.event.Event.TheVariants.{Offered, Taken, Answered, Chose, Told, Recovered, Released, Acked, Broke, Cleared, LetGo, Closed}
use Rattle.tx_history.specs.declared.journal.JournalView.{JournalView}
use Rattle.tx_history.specs.declared.journal.Row as own
use Rattle.tx_history.specs.declared.journal.WaitingContext.{WaitingContext}
use Rattle.tx_history.specs.History.{Start, next_id, place_in, put_advice, serves}
use Rattle.tx_history.specs.Journal.{IsLawful, advices, applied, change, journal, touched}
use Rattle.tx_history.specs.Keys.{Rising, look, place_lt, put_at, put_by, put_new, put_place, put_some}
use Rattle.tx_history.specs.Views.{AreSessions, AreSpelled, FlowFits, IsDoing, IsHistory, IsOk, PlacesRise, RowFits, StartFits}
use Rattle.tx_history.proofs.Changes.{leads}
use Rattle.tx_history.proofs.GivenItems.{closing}
use Rattle.tx_history.proofs.OwnItems.{serves_below}
use Rattle.tx_history.proofs.RisingKeys.{look_within}
use Rattle.tx_history.proofs.RowCounts.{journal_ok}
use Rattle.journal_rows.specs.Law.{IsNamed, IsRowNamed, RowFollows, changes_of}
use Rattle.journal_rows.specs.Tables.{Tables, all_made, made}
use Rattle.journal_rows.proofs.SoundTables.{rows_lead, rows_stay_sound}
use Rattle.journal_store.proofs.GrownRows.{RowGoes, change_goes, mid_look, put_mid}
use Rattle.journal_rows.specs.Reads.{Stands}
use Rattle.journal_tables.specs.Small.{IsAdviceSmall, IsChangeSmall, IsNextSmall, IsPutSmall, IsRowChangeSmall, IsRowSmall, IsShelfSmall, IsSmall}
use Rattle.journal_store.specs.Histories.{Holds, entries_after, newest_entry}

-- what is under a key that was put

mid_below : {A : Type 0} (xs ys : List (ℕ × A)) (id : ℕ) (x : A) (n m : ℕ) → Rising n m (xs ++ (id, x) ∷ ys) → id < m
mid_below [] ys id x n m h = h.1
mid_below (y ∷ xs) ys id x n m h = mid_below xs ys id x (y.0 + 1) m h.2

mid_place : (n : ℕ) (xs ys : List ((ℕ × ℕ) × List ℕ)) (key : ℕ × ℕ) (a : List ℕ) → PlacesRise n (xs ++ (key, a) ∷ ys) → (key.0 < n) × (key.1 ≤ 1000)
mid_place n [] ys key a h = (h.1, h.2)
mid_place n (x ∷ xs) ys key a h = mid_place n xs ys key a h.4

place_at : (n : ℕ) (xs : List ((ℕ × ℕ) × List ℕ)) (k : ℕ) (x : (ℕ × ℕ) × List ℕ) → PlacesRise n xs → slice_get xs k ≡ Some x → (x.0.0 < n) × (x.0.1 ≤ 1000)
place_at n [] k x h is = absurd (cc)
place_at n (y ∷ xs) zero x h is = let same : y ≡ x = grind (arith) in subst (λ (z : (ℕ × ℕ) × List ℕ). (z.0.0 < n) × (z.0.1 ≤ 1000)) same (h.1, h.2)
place_at n (y ∷ xs) (suc k) x h is = place_at n xs k x h.4 is

-- a row of a sound journal

row_small : (r : own.Row) → RowFits r → IsRowSmall r
row_small r fits = go (is_open r.phase) refl
  where
    go : (b : Bool) → is_open r.phase ≡ b → IsRowSmall r
    go true e = let told = (fits.untold e).0 in record { told = omega (arith, told); joined = fits.members }
    go false e = let told = (fits.telling e).1 in let few = fits.members in record { told = omega (arith, told, few); joined = fits.members }

no_name : IsTrue (is_name []) → ⊥
unfolding is_name
no_name h = absurd (true≢false (sym h))

doing_named : (d : Option (List ℕ)) → IsDoing d → IsNamed d
doing_named None h = tt
doing_named (Some []) h = absurd (no_name h)
doing_named (Some (b ∷ bs)) h = tt

-- a row that is put has no empty name in `doing`
abbrev HasName : Option (ℕ × Option own.Row) → Type 0
HasName None = Unit {0}
HasName (Some change) = IsRowNamed change.1

follows : (j : JournalView) (o : Option (ℕ × Option own.Row)) → HasName o → RowGoes j o → RowFollows j o
follows j None named goes = tt
follows j (Some change) named goes = record { named = named; members = goes }

-- what the parts of a change are where they lead to a sound journal

module _ (j k : JournalView) (ok : IsOk k) where
  small_id : (id : ℕ) → id < k.next_id → IsSmall id
  small_id id low = let last = ok.last in omega (arith, low, last)

  row_fits : (o : Option (ℕ × Option own.Row)) → put_some o j.rows ≡ k.rows → ((id : ℕ) → o ≡ Some (id, None) → IsSmall id) → IsRowChangeSmall o × HasName o
  row_fits None is dropped = (tt, tt)
  row_fits (Some change) is dropped = go change.1 refl
    where
      go : (x : Option own.Row) → change.1 ≡ x → (IsSmall change.0 × IsPutSmall change.1) × IsRowNamed change.1
      go None e = let low = dropped change.0 (ap (λ (y : Option own.Row). Some (change.0, y)) e) in
          subst (λ y. (IsSmall change.0 × IsPutSmall y) × IsRowNamed y) (sym e) ((low, tt), tt)
      go (Some r) e =
          let put = sym is ∙ ap (λ y. put_at change.0 y j.rows) e ∙ put_mid nat_lt change.0 r j.rows in
          let low = mid_below (filter (λ p. nat_lt p.0 change.0) j.rows) (filter (λ p. nat_lt change.0 p.0) j.rows) change.0 r 1 k.next_id
          (subst (Rising 1 k.next_id) put ok.ordered.rows) in
          let fits = ok.rows change.0 r (ap (look change.0) put ∙ mid_look j.rows (filter (λ p. nat_lt change.0 p.0) j.rows) change.0 r) in
          subst (λ y. (IsSmall change.0 × IsPutSmall y) × IsRowNamed y) (sym e) ((small_id change.0 low, row_small r fits), doing_named r.doing fits.doing)

  shelf_fits : (o : Option (ℕ × WaitingContext)) (shelf : List (ℕ × WaitingContext)) → put_new o shelf ≡ k.shelf → IsShelfSmall o
  shelf_fits None shelf is = tt
  shelf_fits (Some item) shelf is =
      small_id item.0 (mid_below (filter (λ p. nat_lt p.0 item.0) shelf) (filter (λ p. nat_lt item.0 p.0) shelf) item.0 item.1 1 k.next_id
      (subst (Rising 1 k.next_id) (sym is ∙ put_mid nat_lt item.0 item.1 shelf) ok.ordered.shelf))

  advice_fits : (o : Option ((ℕ × ℕ) × Option (List ℕ))) → put_place o j.advices ≡ k.advices →
      ((key : ℕ × ℕ) → o ≡ Some (key, None) → IsSmall key.0 × IsSmall key.1) → IsAdviceSmall o
  advice_fits None is dropped = tt
  advice_fits (Some change) is dropped = go change.1 refl
    where
      go : (x : Option (List ℕ)) → change.1 ≡ x → IsSmall change.0.0 × IsSmall change.0.1
      go None e = dropped change.0 (ap (λ (y : Option (List ℕ)). Some (change.0, y)) e)
      go (Some a) e =
          let put = sym is ∙ ap (λ y. put_by place_lt change.0 y j.advices) e ∙ put_mid place_lt change.0 a j.advices in
          let w = mid_place k.next_id (filter (λ p. place_lt p.0 change.0) j.advices) (filter (λ p. place_lt change.0 p.0) j.advices) change.0 a
          (subst (PlacesRise k.next_id) put ok.advices) in
          let few = w.1 in (small_id change.0.0 w.0, omega (arith, few))

  next_fits : (o : Option ℕ) → Rattle.std.specs.Prelude.unwrap_or o j.next_id ≡ k.next_id → IsNextSmall o
  next_fits None is = tt
  next_fits (Some n) is = let last = ok.last in omega (arith, is, last)

  pub change_fits : (c : Change) → applied c j ≡ k → ((id : ℕ) → c.row ≡ Some (id, None) → IsSmall id) →
      ((key : ℕ × ℕ) → c.advice ≡ Some (key, None) → IsSmall key.0 × IsSmall key.1)
      → IsChangeSmall c × HasName c.row
  change_fits c is rows places =
      let row = row_fits c.row (ap (λ (w : JournalView). w.rows) is) rows in (
        record {
          next_id = next_fits c.next_id (ap (λ (w : JournalView). w.next_id) is);
          row = row.0;
          shelved = shelf_fits c.shelved (if c.emptied then [] else j.shelf) (ap (λ (w : JournalView). w.shelf) is);
          advice = advice_fits c.advice (ap (λ (w : JournalView). w.advices) is) places;
        },
        row.1,
      )

-- the change of each entry

abbrev put_in : Option ((ℕ × ℕ) × Option (List ℕ)) → Option (List ℕ)
put_in None = None
put_in (Some x) = x.1

abbrev dropped : ℕ × ℕ → Option ((ℕ × ℕ) × Option (List ℕ))
dropped key = Some (key, None)

abbrev key_in : ℕ × ℕ → Option ((ℕ × ℕ) × Option (List ℕ)) → ℕ × ℕ
key_in other None = other
key_in other (Some x) = x.0

dropped_key : (k key : ℕ × ℕ) → dropped k ≡ dropped key → k ≡ key
dropped_key k key e = ap (key_in k) e

tail_sessions : (n : ℕ) (e : Event) (past : List Event) → AreSessions n (e ∷ past) → AreSessions n past
tail_sessions n (Offered c) past h = h
tail_sessions n (Taken s) past h = h.1
tail_sessions n (Answered s b c) past h = h
tail_sessions n (Chose s t) past h = h
tail_sessions n (Told s a) past h = h
tail_sessions n (Recovered s c) past h = h
tail_sessions n Released past h = h
tail_sessions n (Acked id place) past h = h
tail_sessions n (Broke p) past h = h
tail_sessions n (Cleared p) past h = h
tail_sessions n (LetGo s) past h = h
tail_sessions n (Closed id) past h = h

tail_spelled : (e : Event) (past : List Event) → AreSpelled (e ∷ past) → AreSpelled past
tail_spelled (Offered c) past h = h.1
tail_spelled (Taken s) past h = h
tail_spelled (Answered s b c) past h = h.1
tail_spelled (Chose s t) past h = h
tail_spelled (Told s a) past h = h
tail_spelled (Recovered s c) past h = h.1
tail_spelled Released past h = h
tail_spelled (Acked id place) past h = h
tail_spelled (Broke p) past h = h
tail_spelled (Cleared p) past h = h
tail_spelled (LetGo s) past h = h
tail_spelled (Closed id) past h = h

pub earlier : (f : Flow) (v : Start) (n : ℕ) (past : List Event) (e : Event) → IsHistory f v n (e ∷ past) → IsHistory f v n past
earlier f v n past e h = record { few = h.few; sessions = tail_sessions n e past h.sessions; spelled = tail_spelled e past h.spelled; lawful = h.lawful.2 }

module _ (f : Flow) (v : Start) (n : ℕ) (past : List Event) (flow : FlowFits f) (start : StartFits f v) (h : IsHistory f v n past) where
  sound : IsOk (journal f v past)
  sound = journal_ok f v past n flow start h.few h.sessions h.spelled h.lawful

  served : (s id : ℕ) → serves f v past s ≡ Some id → IsSmall id
  served s id is =
      let low = (serves_below f v past s id start.view.ordered is).1 in
      let last = sound.last in
      omega (arith, low, last)

  touched_row : (more : List Event) (a : Option ((ℕ × ℕ) × Option (List ℕ))) (o : Option ℕ) → ((id : ℕ) → o ≡ Some id → IsSmall id) → (id : ℕ) →
      (touched f v more a o).row ≡ Some (id, None) → IsSmall id
  touched_row more a None low id e = absurd (cc)
  touched_row more a (Some k) low id e = let same : k ≡ id = grind (arith) in subst IsSmall same (low k refl)

  put_some_advice : (o : Option (ℕ × ℕ)) (a : Option (List ℕ)) (key : ℕ × ℕ) → put_advice o a ≡ Some (key, None) → ⊥
  put_some_advice None a key e = absurd (cc)
  put_some_advice (Some k) None key e = absurd (cc)
  put_some_advice (Some k) (Some a) key e = absurd (let there : Some a ≡ None = ap put_in e in cc)

  touched_place : (more : List Event) (o : Option ℕ) (p : Option (ℕ × ℕ)) (a : Option (List ℕ)) (key : ℕ × ℕ) →
      (touched f v more (put_advice p a) o).advice ≡ Some (key, None) → IsSmall key.0 × IsSmall key.1
  touched_place more None p a key e = absurd (cc)
  touched_place more (Some k) p a key e = absurd (put_some_advice p a key e)

  untouched_place : (more : List Event) (o : Option ℕ) (key : ℕ × ℕ) → (touched f v more None o).advice ≡ Some (key, None) → IsSmall key.0 × IsSmall key.1
  untouched_place more None key e = absurd (cc)
  untouched_place more (Some k) key e = absurd (cc)

  rows_small : (e : Event) → IsLawful f v (e ∷ past) → (id : ℕ) → (change f v (e ∷ past)).row ≡ Some (id, None) → IsSmall id
  rows_small (Offered c) law id e = absurd (cc)
  rows_small (Taken s) law id e = let same : next_id v past ≡ id = grind (arith) in let low = law.0.3 in subst IsSmall same (omega (arith, low))
  rows_small (Answered s b c) law id e = touched_row (Answered s b c ∷ past) None (serves f v past s) (served s) id e
  rows_small (Chose s t) law id e = touched_row (Chose s t ∷ past) None (serves f v past s) (served s) id e
  rows_small (Told s a) law id e = touched_row (Told s a ∷ past) (put_advice (place_in f v past (serves f v past s)) a) (serves f v past s) (served s) id e
  rows_small (Recovered s c) law id e = absurd (cc)
  rows_small Released law id e = absurd (cc)
  rows_small (Acked k place) law id e = absurd (cc)
  rows_small (Broke p) law id e = absurd (cc)
  rows_small (Cleared p) law id e = absurd (cc)
  rows_small (LetGo s) law id e = absurd (cc)
  rows_small (Closed k) law id e =
      let same : k ≡ id = grind (arith) in
      let w = closing f v.view.rows 1 v.view.next_id (length past) k start.view.ordered.rows law.0 in
      let low = (look_within v.view.rows 1 v.view.next_id k w.row start.view.ordered.rows w.there).1 in
      let last = start.view.last in
      subst IsSmall same (omega (arith, low, last))

  places_small : (e : Event) → IsLawful f v (e ∷ past) → (key : ℕ × ℕ) → (change f v (e ∷ past)).advice ≡ Some (key, None) → IsSmall key.0 × IsSmall key.1
  places_small (Offered c) law key e = absurd (cc)
  places_small (Taken s) law key e = absurd (cc)
  places_small (Answered s b c) law key e = untouched_place (Answered s b c ∷ past) (serves f v past s) key e
  places_small (Chose s t) law key e = untouched_place (Chose s t ∷ past) (serves f v past s) key e
  places_small (Told s a) law key e = touched_place (Told s a ∷ past) (serves f v past s) (place_in f v past (serves f v past s)) a key e
  places_small (Recovered s c) law key e = absurd (cc)
  places_small Released law key e = absurd (cc)
  places_small (Acked id place) law key e =
      let same = dropped_key (id, place) key e in
      let w = place_at (next_id v past) (advices f v past) law.0.1 ((id, place), law.0.0) sound.advices law.0.2 in
      let low = w.0 in
      let few = w.1 in
      let last = sound.last in
      subst (λ (k : ℕ × ℕ). IsSmall k.0 × IsSmall k.1) same (omega (arith, low, last), omega (arith, few))
  places_small (Broke p) law key e = absurd (cc)
  places_small (Cleared p) law key e = absurd (cc)
  places_small (LetGo s) law key e = absurd (cc)
  places_small (Closed k) law key e = absurd (cc)

pub entry_fits : (f : Flow) (v : Start) (n : ℕ) (past : List Event) (e : Event) → FlowFits f → StartFits f v → IsHistory f v n (e ∷ past)
    → IsChangeSmall (change f v (e ∷ past)) × RowFollows (journal f v past) (change f v (e ∷ past)).row
entry_fits f v n past e flow start h =
    let before = earlier f v n past e h in
    let after = journal_ok f v (e ∷ past) n flow start h.few h.sessions h.spelled h.lawful in
    let fits = change_fits (journal f v past) (journal f v (e ∷ past)) after (change f v (e ∷ past)) (leads f v past e start.view.ordered h.lawful)
    (rows_small f v n past flow start before e h.lawful) (places_small f v n past flow start before e h.lawful) in
    (fits.0, follows (journal f v past) (change f v (e ∷ past)).row fits.1 (change_goes f v past e start h.lawful))

-- tables and a history

made_last : (es : List Entry) (e : Entry) (t : Tables) → all_made (changes_of (es ++ e ∷ [])) t ≡ made e.change (all_made (changes_of es) t)
made_last [] e t = refl
made_last (x ∷ es) e t = made_last es e (made x.change t)

pub history_kept : (f : Flow) (v : Start) (n : ℕ) (past more : List Event) (t : Tables) → FlowFits f → StartFits f v → IsHistory f v n (more ++ past)
    → Holds t f v past → Holds (all_made (changes_of (entries_after f v past more)) t) f v (more ++ past)
history_kept f v n past [] t flow start h holds = holds
history_kept f v n past (e ∷ more) t flow start h holds =
    let all = more ++ past in
    let so_far = history_kept f v n past more t flow start (earlier f v n all e h) holds in
    let now = all_made (changes_of (entries_after f v past more)) t in
    let c = change f v (e ∷ all) in
    let row = (entry_fits f v n all e flow start h).1 in
    let lead = leads f v all e start.view.ordered h.lawful in
    let stands = rows_lead (c ∷ []) now (journal f v all) (row, tt) so_far.stands so_far.sound in
    let ok = journal_ok f v (e ∷ all) n flow start h.few h.sessions h.spelled h.lawful in
    let sound = rows_stay_sound (c ∷ []) now (journal f v all) (row, tt) so_far.stands so_far.sound (subst IsOk (sym lead) ok) in
    subst (λ u. Holds u f v (e ∷ all)) (sym (made_last (entries_after f v past more) (newest_entry f v all e) t))
    (record { stands = subst (Stands (made c now)) lead stands; sound = sound })
