-- What the next life, or the history after a cut, begins from; and the entries that an opening makes.
-- for: laws::journals_are_sound
use Rattle.std.proofs.Common.{◌≡◌, ℕ, ◌+◌, ◌<◌, ◌≤◌, Bool, true, false, List, [], ◌∷◌, ◌++◌, length, Option, Some, None, refl, ◌∙◌, ap}
use Rattle.std.proofs.Common.{subst, arith, suc, zero}
use Rattle.std.proofs.Common.{map, drop, length-append}
use Rattle.std.specs.Prelude.{if◌then◌else◌, slice_get, nat_lt}
use Rattle.std.proofs.lemmas.Bool.Decides.{nat_tests}
use Rattle.flow_model.specs.declared.flow.Flow.{Flow}
use Rattle.tx_machine.specs.declared.values.Due.{Due}
use Rattle.tx_machine.specs.declared.values.Due.TheVariants.{Prepare, PrepareForAbort, Select, Commit, Abort, Shelve, Done}
use Rattle.tx_machine.specs.declared.values.Item.{Item}
use Rattle.tx_machine.specs.Table.{TxState, is_open}
use Rattle.tx_machine.specs.Due.{due_of}
use Rattle.tx_machine.proofs.StepBounds.{reopened_open}
use Rattle.tx_history.specs.declared.event.Event.{Event}
use Rattle.tx_history.specs.declared.event.Event.TheVariants.{Closed}
use Rattle.tx_history.specs.declared.journal.Row.{Row}
use Rattle.tx_history.specs.Keys.{look}
use Rattle.tx_machine.specs.Bounds.{after_newest}
use Rattle.tx_history.specs.History.{Start, to_tell, name_of, number_of, is_committing, reopened, is_ended, takes, next_id, ids, own_items, arrivals, state_of}
use Rattle.tx_history.specs.Journal.{IsLawful, to_close, row, row_at, old_row, is_closed, journal}
use Rattle.tx_history.specs.Views.{IsNamed, IsDoing, WaitingFits, FlowFits, Knows, StartFits, AreSpelled}
use Rattle.tx_history.proofs.OwnItems.{old_stays}
use Rattle.std.specs.List.{All}
use Rattle.std.specs.Option.{option_map_or}
use Rattle.std.proofs.lemmas.List.Elements.{All-nil, All-cons, All-head, All-tail, All-push, All-same}
use Rattle.std.specs.Str.{bytes_eq}
use Rattle.std.proofs.lemmas.Slice.Eq.{bytes_eq-Decides}
use Rattle.flow_model.specs.declared.numbering.Part.{Part}
use Rattle.flow_model.specs.Places.{parts_of, number_in}
use Rattle.tx_history.proofs.Rows.{Proper, as_row_fits, names_joined, row_some, telling, as_row, doing}
use Rattle.tx_history.proofs.SoundJournals.{Good, good}
use Rattle.tx_history.specs.Views.{AreSessions}
use Rattle.tx_history.specs.Lives.{closes_of, opened, stopped, after_cut}
use Rattle.sw_context.specs.Names.{is_name}
use Rattle.tx_history.proofs.RowCounts.{journal_ok}
use Rattle.tx_history.proofs.SoundJournals.{names_back, look_gather}

-- an opening's closing entries are lawful

get_here : {A : Type 0} (xs : List A) (x : A) (ys : List A) → slice_get (xs ++ x ∷ ys) (length xs) ≡ Some x
get_here [] x ys = refl
get_here (y ∷ xs) x ys = get_here xs x ys

append_one : {A : Type 0} (xs : List A) (x : A) (ys : List A) → xs ++ x ∷ ys ≡ (xs ++ x ∷ []) ++ ys
append_one [] x ys = refl
append_one (y ∷ xs) x ys = ap (λ l. y ∷ l) (append_one xs x ys)

closes_lawful : (f : Flow) (v : Start) (front ids : List ℕ) (past : List Event) → to_close f v.view.rows ≡ front ++ ids → length past ≡ length front →
    IsLawful f v past → IsLawful f v (closes_of ids past)
closes_lawful f v front [] past is len law = law
closes_lawful f v front (id ∷ ids) past is len law =
    let at : slice_get (to_close f v.view.rows) (length past) ≡ Some id = ap (λ (l : List ℕ). slice_get l (length past)) is
    ∙ (ap (λ (n : ℕ). slice_get (front ++ id ∷ ids) n) len ∙ get_here front id ids) in
    let more : length (front ++ id ∷ []) ≡ length front + 1 = omega (arith, length-append front (id ∷ [])) in
    closes_lawful f v (front ++ id ∷ []) ids (Closed id ∷ past) (is ∙ append_one front id ids) (omega arith) (at, tt, law)

pub opened_lawful : (f : Flow) (v : Start) → IsLawful f v (opened f v)
opened_lawful f v = closes_lawful f v [] (to_close f v.view.rows) [] refl refl tt

-- known names

number_there : (ps : List Part) (k : ℕ) (x : Part) → slice_get ps k ≡ Some x → number_in ps x.name < length ps
number_there [] k x h = absurd (cc)
number_there (p ∷ ps) zero x h = by (bytes_eq p.name x.name) refl
  where
    by : (b : Bool) → bytes_eq p.name x.name ≡ b → number_in (p ∷ ps) x.name < length (p ∷ ps)
    by true e = let z : number_in (p ∷ ps) x.name ≡ 0 = ap (λ (b : Bool). if b then 0 else number_in ps x.name + 1) e in omega arith
    by false e = let same : p ≡ x = grind (arith) in let yes : bytes_eq p.name x.name ≡ true =
        (bytes_eq-Decides p.name x.name).1 (ap (λ (q : Part). q.name) same) in absurd (cc)
number_there (p ∷ ps) (suc k) x h = by (bytes_eq p.name x.name) refl (number_there ps k x h)
  where
    by : (b : Bool) → bytes_eq p.name x.name ≡ b → number_in ps x.name < length ps → number_in (p ∷ ps) x.name < length (p ∷ ps)
    by true e ih = let z : number_in (p ∷ ps) x.name ≡ 0 = ap (λ (b : Bool). if b then 0 else number_in ps x.name + 1) e in omega arith
    by false e ih = let z : number_in (p ∷ ps) x.name ≡ number_in ps x.name + 1 = ap (λ (b : Bool). if b then 0 else number_in ps x.name + 1) e in omega arith

not_named : is_name [] ≡ true → ⊥
unfolding is_name
not_named h = cc

known_name : (f : Flow) (p : ℕ) → IsNamed (name_of f p) → number_of f (name_of f p) < length (parts_of f)
known_name f p h = by (slice_get (parts_of f) p) refl h
  where
    by : (o : Option Part) → slice_get (parts_of f) p ≡ o → IsNamed (option_map_or (λ (x : Part). x.name) o []) →
        number_of f (option_map_or (λ (x : Part). x.name) (slice_get (parts_of f) p) []) < length (parts_of f)
    by None e i = absurd (not_named i)
    by (Some x) e i = rw e (number_there (parts_of f) p x e)

abbrev pub Known : Flow → List ℕ → Type 0
Known f name = number_of f name < length (parts_of f)

known_names : (f : Flow) (ps : List ℕ) → All (λ p. IsNamed (name_of f p)) ps → All (Known f) (map (name_of f) ps)
known_names f [] h = All-nil (Known f)
known_names f (p ∷ ps) h = All-cons (Known f) (name_of f p) (map (name_of f) ps) (known_name f p (All-head (λ p. IsNamed (name_of f p)) p ps h))
    (known_names f ps (All-tail (λ p. IsNamed (name_of f p)) p ps h))

abbrev KnownDoing : Flow → Option (List ℕ) → Type 0
KnownDoing f None = Unit {0}
KnownDoing f (Some n) = Known f n

known_doing : (f : Flow) (s : TxState) (d : Due) → IsDoing (doing f d) → KnownDoing f (doing f d)
known_doing f s (Prepare p) h = known_name f p.participant h
known_doing f s (PrepareForAbort p) h = known_name f p.participant h
known_doing f s (Select p) h = tt
known_doing f s (Commit p) h = tt
known_doing f s (Abort p) h = tt
known_doing f s Shelve h = tt
known_doing f s Done h = tt

known_told : (f : Flow) (r : Row) (d : Option (List ℕ)) → All (Known f) r.joined → KnownDoing f d → All (Known f) (to_tell r d)
known_told f r None h k = h
known_told f r (Some n) h k = All-push (Known f) r.joined n h k

row_known : (f : Flow) (s : TxState) → FlowFits f → Proper f s → is_ended f s ≡ false → All (Known f) (to_tell (as_row f s) (as_row f s).doing)
row_known f s fits p u = known_told f (as_row f s) (as_row f s).doing (known_names f s.joined (names_joined f s fits p))
    (known_doing f s (due_of f s) (as_row_fits f s fits p u).doing)

told_none : (r : Row) (d : Option (List ℕ)) → d ≡ None → to_tell r d ≡ r.joined
told_none r None e = refl
told_none r (Some n) e = absurd (cc)

old_known : (f : Flow) (o : Option Row) (b : Bool) (items : List Item) (r : Row) → ((q : Row) → o ≡ Some q → All (Known f) (to_tell q q.doing)) →
    old_row f o b items ≡ Some r → All (Known f) (to_tell r r.doing)
old_known f None b items r h e = absurd (cc)
old_known f (Some q) true items r h e = absurd (cc)
old_known f (Some q) false [] r h e = let same : q ≡ r = grind (arith) in subst (λ (r : Row). All (Known f) (to_tell r r.doing)) same (h q refl)
old_known f (Some q) false (x ∷ items) r h e =
    let s : TxState = after_newest f (reopened f q) (x ∷ items) in
    let w = row_some f s r e in
    let k = old_stays f (reopened f q) (x ∷ items) refl refl in
    let closed : is_open s.phase ≡ false = ap is_open k.phase ∙ reopened_open (is_committing q.phase) in
    let t = telling f s closed w.0 in
    let names : map (name_of f) s.joined ≡ to_tell q q.doing = ap (map (name_of f)) k.joined ∙ names_back f (to_tell q q.doing) (h q refl) in
    subst (λ (r : Row). All (Known f) (to_tell r r.doing)) w.1
    (All-same (Known f) (to_tell (as_row f s) (as_row f s).doing) (to_tell q q.doing) (told_none (as_row f s) (as_row f s).doing t.doing_none ∙ names)
    (h q refl))

known_if : (f : Flow) (v : Start) (past : List Event) (j : ℕ) (r : Row) → FlowFits f → StartFits f v → Good f v past → j < next_id v past → (b : Bool) →
    nat_lt j v.view.next_id ≡ b
    → (if b then old_row f (look j v.view.rows) (is_closed past j) (own_items f v past j) else row f (state_of f v past j)) ≡ Some r →
    All (Known f) (to_tell r r.doing)
known_if f v past j r fits st g lt true e h = old_known f (look j v.view.rows) (is_closed past j) (own_items f v past j) r (st.knows j) h
known_if f v past j r fits st g lt false e h =
    let above : v.view.next_id ≤ j = grind (arith, nat_tests) in
    let w = row_some f (state_of f v past j) r h in
    subst (λ (r : Row). All (Known f) (to_tell r r.doing)) w.1 (row_known f (state_of f v past j) fits (g.proper j above lt) w.0)

pub journal_known : (f : Flow) (v : Start) (past : List Event) → FlowFits f → StartFits f v → Good f v past → Knows f (journal f v past)
journal_known f v past fits st g id r h =
    let n = st.view.ordered.next in
    let w = look_gather (row_at f v past) 1 (ids v past) id r h in
    let b = w.below in
    known_if f v past id r fits st g (omega arith) (nat_lt id v.view.next_id) refl w.is

drop_all : {A : Type 0} (P : A → Type 0) (n : ℕ) (xs : List A) → All P xs → All P (drop n xs)
drop_all P zero xs h = h
drop_all P (suc n) [] h = h
drop_all P (suc n) (x ∷ xs) h = drop_all P n xs (All-tail P x xs h)

pub stopped_fits : (f : Flow) (v : Start) (past : List Event) (n : ℕ) → FlowFits f → StartFits f v → n ≤ 16 → AreSessions n past → AreSpelled past →
    IsLawful f v past → StartFits f (stopped f v past)
stopped_fits f v past n fits st most ss sp law = record {
  view = journal_ok f v past n fits st most ss sp law;
  queue = All-nil WaitingFits;
  knows =
      journal_known f v past fits st (good f v past fits st sp law);
}

pub cut_fits : (f : Flow) (v : Start) (past : List Event) (bs : List ℕ) (n : ℕ) → FlowFits f → StartFits f v → n ≤ 16 → AreSessions n past →
    AreSpelled past → IsLawful f v past → StartFits f (after_cut f v past bs)
cut_fits f v past bs n fits st most ss sp law = record {
  view = journal_ok f v past n fits st most ss sp law;
  queue = drop_all WaitingFits (takes past) (arrivals f v past) (good f v past fits st sp law).arrived;
  knows = journal_known f v past fits st (good f v past fits st sp law);
}
