-- The row that an entry of a lawful history puts has the members that the journal has, and at most one more.
-- for: laws::entries_fit, laws::histories_are_kept
use Rattle.std.proofs.Common.{◌≡◌, inl, inr, ℕ, ◌+◌, ◌-◌, ◌<◌, ◌≤◌, Bool, true, false, ◌&&◌, ◌==◌, if◌then◌else◌, List, [], ◌∷◌, ◌++◌, map, filter}
use Rattle.std.proofs.Common.{slice_get, codes, Option, Some, None, nat_lt, length, append-nil, append_assoc, refl, sym, ap, subst, ◌∙◌, true≢false, arith}
use Rattle.std.specs.Option.{option_map_or}
use Rattle.std.specs.List.{All}
use Rattle.std.proofs.lemmas.Bool.Decides.{nat_tests}
use Rattle.std.proofs.lemmas.List.{length-map, map-append}
use Rattle.flow_model.specs.declared.flow.Flow.{Flow}
use Rattle.flow_model.specs.Places.{entries_named, parts_of}
use Rattle.tx_machine.specs.declared.values.Item.{Item}
use Rattle.tx_machine.specs.declared.values.Item.TheVariants.{Answer, Choice, Told as ToldOne}
use Rattle.tx_machine.specs.Table.{TxState, Upcoming, Prepare, Select, advanced, cut_at, decide_at, is_aborting, is_due, is_open, limited, next, passed_if}
use Rattle.tx_machine.specs.declared.values.Phase.TheVariants.{Committing, Preparing, Undoing}
use Rattle.tx_machine.specs.Bounds.{after_newest}
use Rattle.tx_machine.specs.Lists.{is_lawful, joined_in, preparing}
use Rattle.tx_machine.proofs.ListLaws.{whole}
use Rattle.tx_history.specs.declared.event.Event.{Event}
use Rattle.tx_history.specs.declared.event.Event.TheVariants.{Offered, Taken, Answered, Chose, Told, Recovered, Released, Acked, Broke, Cleared, LetGo, Closed}
use Rattle.tx_history.specs.declared.journal.Row as own
use Rattle.tx_history.specs.declared.journal.JournalView.{JournalView}
use Rattle.tx_history.specs.declared.journal.WaitingContext.{WaitingContext}
use Rattle.tx_history.specs.Keys.{look, put_by}
use Rattle.tx_history.specs.History.{Start, arrivals, begun, ids, is_committing, is_ended, name_of, next_id, number_of, own_items, advice_place, put_advice}
use Rattle.tx_history.specs.History.{reopened, serves, state_of, to_tell}
use Rattle.tx_history.specs.Journal.{IsLawful, change, is_closed, journal, old_row, row, row_at, row_since, touched}
use Rattle.tx_history.specs.Views.{IsOrdered, StartFits}
use Rattle.tx_history.proofs.GivenItems.{Gave, gave_answered, gave_chose, gave_told, rows_gave}
use Rattle.tx_history.proofs.Lookups.{gathered_not, gathered_at}
use Rattle.tx_history.proofs.OwnItems.{holds_serves, serves_below}
use Rattle.tx_history.proofs.Rows.{as_row, row_some, row_unended}
use Rattle.tx_history.proofs.Sessions.{state_given}
use Rattle.tx_history.proofs.SoundJournals.{look_gather, names_back, own_none}
use Rattle.journal_rows.specs.Law.{Extends, Goes}

-- one more item

one_more : (xs ys : List (List ℕ)) → length ys ≤ 1 → Extends (xs ++ ys) xs
one_more xs [] few = inl (append-nil xs)
one_more xs (y ∷ []) few = inr (y, refl)
one_more xs (y ∷ z ∷ ys) few = absurd (omega (arith, few))

few_joined : (f : Flow) (s : TxState) (x : Item) → length (joined_in f s (x ∷ [])) ≤ 1
few_joined f s (Answer b c) = go _ s.rest
  where
    go : (out : Bool) (ms : List Upcoming) → length ((if out then [] else preparing ms) ++ []) ≤ 1
    go true ms = omega arith
    go false [] = omega arith
    go false (Prepare e ∷ ms) = omega arith
    go false (Select e ∷ ms) = omega arith
few_joined f s (Choice t) = omega arith
few_joined f s (ToldOne a) = omega arith

-- the members of a transaction after an item that was due
grown : (f : Flow) (s : TxState) (x : Item) → is_due s x ≡ true → Extends (map (name_of f) (next f s x).joined) (map (name_of f) s.joined)
grown f s x due =
    let law : is_lawful f s (x ∷ []) ≡ true = ap (λ b. b && true) due in
    let more = joined_in f s (x ∷ []) in
    let is : map (name_of f) (next f s x).joined ≡ map (name_of f) s.joined ++ map (name_of f) more = ap (map (name_of f)) (whole f s (x ∷ []) law).joined
    ∙ map-append (name_of f) s.joined more in
    let few : length (map (name_of f) more) ≤ 1 = let most = few_joined f s x in omega (arith, most, length-map more (name_of f)) in
    subst (λ l. Extends l (map (name_of f) s.joined)) (sym is) (one_more (map (name_of f) s.joined) (map (name_of f) more) few)

cut_joined : (s : TxState) (ms : List Upcoming) (full : Bool) → (cut_at s ms full).joined ≡ s.joined
cut_joined s [] full = refl
cut_joined s (m ∷ ms) false = refl
cut_joined s (m ∷ ms) true = refl

decide_joined : (s : TxState) (ms : List Upcoming) (ps : List ℕ) → (decide_at s ms ps).joined ≡ s.joined
decide_joined s (m ∷ ms) ps = refl
decide_joined s [] [] = refl
decide_joined s [] (p ∷ ps) = refl

advanced_joined : (s : TxState) → (advanced s).joined ≡ s.joined
advanced_joined s =
    let t : TxState = record s { rest = passed_if (is_aborting s.phase) s.rest } in
    let u : TxState = limited t in
    decide_joined u u.rest u.joined ∙ cut_joined t t.rest (t.calls == 1000)

-- the members that the journal has of a transaction that a session holds

abbrev joined_of : Option own.Row → List (List ℕ)
joined_of o = option_map_or (λ (r : own.Row). r.joined) o []

unended_row : (f : Flow) (s : TxState) → is_ended f s ≡ false → row f s ≡ Some (as_row f s)
unended_row f s e = row_unended f s ∙ ap (λ b. if b then None else Some (as_row f s)) e

told_all : (q : own.Row) (d : Option (List ℕ)) → Extends (to_tell q d) q.joined
told_all q None = inl refl
told_all q (Some name) = inr (name, refl)

-- in a journalled transaction each participant that is to be notified is a member
recovered_grown : (f : Flow) (q : own.Row) (x : Item) → All (λ n. number_of f n < length (parts_of f)) (to_tell q q.doing) → is_due (reopened f q) x ≡ true
    → Extends (map (name_of f) (next f (reopened f q) x).joined) q.joined
recovered_grown f q (Answer b c) knows due = absurd (not_open (is_committing q.phase) due)
  where
    not_open : (b : Bool) → (is_open (if b then Committing else Undoing) && false) ≡ true → ⊥
    not_open true e = true≢false (sym e)
    not_open false e = true≢false (sym e)
recovered_grown f q (Choice t) knows due = absurd (not_open (is_committing q.phase) due)
  where
    not_open : (b : Bool) → (is_open (if b then Committing else Undoing) && false) ≡ true → ⊥
    not_open true e = true≢false (sym e)
    not_open false e = true≢false (sym e)
recovered_grown f q (ToldOne a) knows due = subst (λ l. Extends l q.joined) (sym (names_back f (to_tell q q.doing) knows)) (told_all q q.doing)

module _ (f : Flow) (v : Start) (past : List Event) (e : Event) (id : ℕ) (x : Item) (start : StartFits f v) (gave : Gave f v past e id x)
    (unended : is_ended f (state_of f v past id) ≡ false) (due : is_due (state_of f v past id) x ≡ true) where
  -- what it was before, by its items
  old_grown : (q : own.Row) (items : List Item) → look id v.view.rows ≡ Some q → state_of f v past id ≡ after_newest f (reopened f q) items →
      (put : List (List ℕ))
      → map (name_of f) (next f (state_of f v past id) x).joined ≡ put → Extends put (joined_of (row_since f q items))
  old_grown q [] there is put same =
      subst (λ l. Extends l q.joined) (ap (λ (s : TxState). map (name_of f) (next f s x).joined) (sym is) ∙ same)
      (recovered_grown f q x (start.knows id q there) (subst (λ (s : TxState). is_due s x ≡ true) is due))
  old_grown q (y ∷ items) there is put same =
      let st = state_of f v past id in
      let now : row_since f q (y ∷ items) ≡ Some (as_row f st) = ap (row f) (sym is) ∙ unended_row f st unended in
      subst (Extends put) (sym (ap joined_of now)) (subst (λ l. Extends l (map (name_of f) st.joined)) same (grown f st x due))

  row_grown : (r : own.Row) → row f (state_of f v (e ∷ past) id) ≡ Some r → row_at f v (e ∷ past) id ≡ Some r → (b : Bool) → nat_lt id v.view.next_id ≡ b →
      Extends r.joined (joined_of (row_at f v past id))
  row_grown r put after false low =
      let st = state_of f v past id in
      let now : row_at f v past id ≡ Some (as_row f st) =
      ap (λ b. if b then old_row f (look id v.view.rows) (is_closed past id) (own_items f v past id) else row f st) low ∙ unended_row f st unended in
      let same : map (name_of f) (next f st x).joined ≡ r.joined = ap (λ (s : TxState). map (name_of f) s.joined) (sym (state_given f v past e id x gave))
      ∙ ap (λ (r : own.Row). r.joined) (row_some f (state_of f v (e ∷ past) id) r put).1 in
      subst (Extends r.joined) (sym (ap joined_of now)) (subst (λ l. Extends l (map (name_of f) st.joined)) same (grown f st x due))
  row_grown r put after true low = go (look id v.view.rows) refl (is_closed past id) refl
    where
      st : TxState
      st = state_of f v past id

      same : map (name_of f) (next f (state_of f v past id) x).joined ≡ r.joined
      same = ap (λ (s : TxState). map (name_of f) s.joined) (sym (state_given f v past e id x gave)) ∙ ap (λ (r : own.Row). r.joined)
          (row_some f (state_of f v (e ∷ past) id) r put).1

      old_after : old_row f (look id v.view.rows) (is_closed past id) (own_items f v (e ∷ past) id) ≡ Some r
      old_after = ap (λ b. old_row f (look id v.view.rows) b (own_items f v (e ∷ past) id)) (sym (gave.closed id))
          ∙ (ap (λ b. if b then old_row f (look id v.view.rows) (is_closed (e ∷ past) id) (own_items f v (e ∷ past) id) else row f
          (state_of f v (e ∷ past) id)) (sym low) ∙ after)

      go : (o : Option own.Row) → look id v.view.rows ≡ o → (closed : Bool) → is_closed past id ≡ closed → Extends r.joined (joined_of (row_at f v past id))
      go None there closed is = absurd (let no = ap (λ o. old_row f o (is_closed past id) (own_items f v (e ∷ past) id)) (sym there) ∙ old_after in cc)
      go (Some q) there true is = absurd (let no = ap (λ b. old_row f (Some q) b (own_items f v (e ∷ past) id)) (sym is)
          ∙ (ap (λ o. old_row f o (is_closed past id) (own_items f v (e ∷ past) id)) (sym there) ∙ old_after) in cc)
      go (Some q) there false is =
          let now : row_at f v past id ≡ row_since f q (own_items f v past id) = rw (low, there, is) refl in
          let begins : state_of f v past id ≡ after_newest f (reopened f q) (own_items f v past id) = rw (low, there) refl in
          subst (λ o. Extends r.joined (joined_of o)) (sym now) (old_grown q (own_items f v past id) there begins r.joined same)

-- what is under a key that was put

pub put_mid : {K A : Type 0} (lt : K → K → Bool) (key : K) (x : A) (xs : List (K × A)) → put_by lt key (Some x) xs ≡ filter (λ p. lt p.0 key) xs
    ++ (key, x) ∷ filter (λ p. lt key p.0) xs
put_mid lt key x xs = append_assoc (filter (λ p. lt p.0 key) xs) ((key, x) ∷ []) (filter (λ p. lt key p.0) xs)

pub mid_look : {A : Type 0} (xs ys : List (ℕ × A)) (id : ℕ) (x : A) → look id (filter (λ p. nat_lt p.0 id) xs ++ (id, x) ∷ ys) ≡ Some x
mid_look [] ys id x = let same : (id == id) ≡ true = grind (arith, nat_tests) in ap (λ b. if b then Some x else look id ys) same
mid_look {A = A} (y ∷ xs) ys id x = go (nat_lt y.0 id) refl (mid_look xs ys id x)
  where
    go : (b : Bool) → nat_lt y.0 id ≡ b → look id (filter (λ p. nat_lt p.0 id) xs ++ (id, x) ∷ ys) ≡ Some x →
        look id ((if b then y ∷ filter (λ p. nat_lt p.0 id) xs else filter (λ p. nat_lt p.0 id) xs) ++ (id, x) ∷ ys) ≡ Some x
    go true e more =
        let apart : (y.0 == id) ≡ false = grind (arith, nat_tests) in
        ap (λ b. if b then Some y.1 else look id (filter (λ p. nat_lt p.0 id) xs ++ (id, x) ∷ ys)) apart ∙ more
    go false e more = more

-- each event

abbrev pub RowGoes : JournalView → Option (ℕ × Option own.Row) → Type 0
RowGoes j None = Unit {0}
RowGoes j (Some change) = Goes j change.0 change.1

given_goes : (f : Flow) (v : Start) (past : List Event) (e : Event) (s id : ℕ) (x : Item) → StartFits f v → IsLawful f v past → Gave f v past e id x →
    serves f v past s ≡ Some id
    → is_ended f (state_of f v past id) ≡ false → is_due (state_of f v past id) x ≡ true → Goes (journal f v past) id (row f (state_of f v (e ∷ past) id))
given_goes f v past e s id x start law gave served unended due = go (row f (state_of f v (e ∷ past) id)) refl
  where
    go : (o : Option own.Row) → row f (state_of f v (e ∷ past) id) ≡ o → Goes (journal f v past) id o
    go None put = tt
    go (Some r) put =
        let within = serves_below f v past s id start.view.ordered served in
        let lo = within.0 in
        let hi : id < 1 + ids v past = let a = within.1 in omega arith in
        let there = rows_gave f v past e id s x start.view.ordered law gave served in
        let found : look id (journal f v (e ∷ past)).rows ≡ Some r =
        ap (look id) (sym there ∙ ap (λ o. put_by nat_lt id o (journal f v past).rows) put ∙ put_mid nat_lt id r (journal f v past).rows)
        ∙ mid_look (journal f v past).rows (filter (λ p. nat_lt id p.0) (journal f v past).rows) id r in
        let after = (look_gather (row_at f v (e ∷ past)) 1 (ids v (e ∷ past)) id r found).is in
        subst (λ o. Extends r.joined (joined_of o)) (sym (gathered_at (row_at f v past) 1 (ids v past) id lo hi))
        (row_grown f v past e id x start gave unended due r put after (nat_lt id v.view.next_id) refl)

-- a transaction begins with no members
no_joined : (f : Flow) (o : Option WaitingContext) → (begun f o).joined ≡ []
no_joined f None = refl
no_joined f (Some w) = advanced_joined (record {
  phase = Preparing;
  rest = map Prepare (entries_named f (codes "main"));
  retry = false;
  bound =
      false;
  calls = 0;
  joined = [];
  told = 0;
  saved = w.context;
  tries = w.tries;
})

taken_goes : (f : Flow) (v : Start) (past : List Event) (s : ℕ) → IsOrdered v.view →
    Goes (journal f v past) (next_id v past) (row f (state_of f v (Taken s ∷ past) (next_id v past)))
taken_goes f v past s ordered = go (row f (state_of f v (Taken s ∷ past) (next_id v past))) refl
  where
    go : (o : Option own.Row) → row f (state_of f v (Taken s ∷ past) (next_id v past)) ≡ o → Goes (journal f v past) (next_id v past) o
    go None put = tt
    go (Some r) put =
        let id = next_id v past in
        let first = ordered.next in
        let new : nat_lt id v.view.next_id ≡ false = grind (arith, nat_tests) in
        let none = own_none f v past id ordered (omega arith) in
        let begins : state_of f v (Taken s ∷ past) id ≡ begun f (slice_get (arrivals f v past) (id - v.view.next_id)) = rw (new, none) refl in
        let empty : r.joined ≡ [] = sym (ap (λ (q : own.Row). q.joined) (row_some f (state_of f v (Taken s ∷ past) id) r put).1)
        ∙ ap (λ (st : TxState). map (name_of f) st.joined) begins ∙ ap (map (name_of f))
        (no_joined f (slice_get (arrivals f v past) (id - v.view.next_id))) in
        subst (λ o. Extends r.joined (joined_of o)) (sym (gathered_not (row_at f v past) 1 (ids v past) id (λ a b. omega arith))) (inl empty)

pub change_goes : (f : Flow) (v : Start) (past : List Event) (e : Event) → StartFits f v → IsLawful f v (e ∷ past) →
    RowGoes (journal f v past) (change f v (e ∷ past)).row
change_goes f v past (Offered c) start law = tt
change_goes f v past (Taken s) start law = taken_goes f v past s start.view.ordered
change_goes f v past (Answered s b c) start law =
    let e = Answered s b c in
    let w = holds_serves f v past s law.0.0 law.0.1 in
    subst (λ o. RowGoes (journal f v past) (touched f v (e ∷ past) None o).row) (sym w.0)
    (given_goes f v past e s law.0.0 (Answer b c) start law.2 (gave_answered f v past s b c law.0.0 w.0) w.0 w.1 law.0.2)
change_goes f v past (Chose s t) start law =
    let e = Chose s t in
    let w = holds_serves f v past s law.0.0 law.0.1 in
    subst (λ o. RowGoes (journal f v past) (touched f v (e ∷ past) None o).row) (sym w.0)
    (given_goes f v past e s law.0.0 (Choice t) start law.2 (gave_chose f v past s t law.0.0 w.0) w.0 w.1 law.0.2)
change_goes f v past (Told s a) start law =
    let e = Told s a in
    let w = holds_serves f v past s law.0.0 law.0.1 in
    subst (λ o. RowGoes (journal f v past) (touched f v (e ∷ past) (put_advice (advice_place f v past s) a) o).row) (sym w.0)
    (given_goes f v past e s law.0.0 (ToldOne a) start law.2 (gave_told f v past s a law.0.0 w.0) w.0 w.1 law.0.2)
change_goes f v past (Recovered s c) start law = tt
change_goes f v past Released start law = tt
change_goes f v past (Acked id place) start law = tt
change_goes f v past (Broke p) start law = tt
change_goes f v past (Cleared p) start law = tt
change_goes f v past (LetGo s) start law = tt
change_goes f v past (Closed id) start law = tt
