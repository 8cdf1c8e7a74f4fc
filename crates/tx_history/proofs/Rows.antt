-- The bounds of a state and of its row.
-- for: laws::rows_are_bounded
use Rattle.std.proofs.Common.{◌≡◌, ℕ, zero, suc, ◌+◌, ◌<◌, ◌≤◌, Bool, true, false, List, [], ◌∷◌, ◌++◌, length, Some, None, refl, subst, arith, map}
use Rattle.std.proofs.Common.{sym, Option, ◌∙◌}
use Rattle.std.specs.Prelude.{if◌then◌else◌, ◌==◌, nat_lt, ◌&&◌, option_map, slice_get}
use Rattle.std.specs.List.{All}
use Rattle.std.specs.Option.{option_map_or}
use Rattle.std.proofs.lemmas.Bool.Decides.{nat_tests}
use Rattle.std.proofs.lemmas.Bool.{and_parts}
use Rattle.std.proofs.lemmas.List.Elements.{All-nil, All-cons, All-head, All-tail, All-map}
use Rattle.std.proofs.lemmas.List.{length-map}
use Rattle.sw_context.specs.Spelling.{IsSpelled}
use Rattle.sw_participant.specs.Answers.{is_readonly}
use Rattle.flow_model.specs.declared.flow.Flow.{Flow}
use Rattle.flow_model.specs.declared.numbering.Part.{Part}
use Rattle.flow_model.specs.Places.{parts_of}
use Rattle.tx_machine.specs.declared.values.Phase.{Phase}
use Rattle.tx_machine.specs.declared.values.Phase.TheVariants.{Preparing, Aborting, Committing, Undoing}
use Rattle.tx_machine.specs.declared.values.Due.TheVariants.{Prepare as DuePrepare, PrepareForAbort, Select as DueSelect, Commit, Abort, Shelve, Done}
use Rattle.tx_machine.specs.declared.values.Item.{Item}
use Rattle.tx_machine.specs.declared.values.Item.TheVariants.{Answer, Choice, Told as ToldOne}
use Rattle.tx_machine.specs.Table.{TxState, Upcoming, Prepare, Select, next, after, opening, chosen, is_open, is_due}
use Rattle.tx_machine.specs.Table.{passed_if, is_aborting, cut_at, limited, decide_at, advanced, entered, after_byte, retry_after, joined_after, saved_after}
use Rattle.tx_machine.specs.Table.{answered_at, chosen_at}
use Rattle.tx_machine.specs.Lists.{is_lawful}
use Rattle.tx_machine.specs.Bounds.{IsOfFlow, IsProper}
use Rattle.tx_machine.specs.Due.{due_at, due_of}
use Rattle.tx_machine.specs.declared.values.Due.{Due}
use Rattle.tx_history.specs.declared.journal.Row.{Row}
use Rattle.tx_history.specs.History.{is_ended, is_over, name_of}
use Rattle.tx_history.specs.Journal.{named_row, row}
use Rattle.tx_machine.specs.Row.{row_at}
use Rattle.tx_machine.proofs.StepBounds.{unopened}
use Rattle.tx_machine.proofs.BoundLaws.{next_proper as bounds_next, opening_proper as bounds_opening}
use Rattle.tx_history.specs.Views.{IsNamed, IsDoing, RowFits, FlowFits, IsItem, AreItems}

-- the participants of a flow have names

pub part_named : (f : Flow) (p : ℕ) → FlowFits f → p < length (parts_of f) → IsNamed (name_of f p)
part_named f p fits low = by (parts_of f) p fits.names low
  where
    by : (ps : List Part) (p : ℕ) → All (λ (x : Part). IsNamed x.name) ps → p < length ps → IsNamed (option_map_or (λ (x : Part). x.name) (slice_get ps p) [])
    by [] p h low = absurd (omega (arith, low))
    by (x ∷ ps) zero h low = All-head (λ (x : Part). IsNamed x.name) x ps h
    by (x ∷ ps) (suc p) h low = by ps p (All-tail (λ (x : Part). IsNamed x.name) x ps h) (omega (arith, low))

-- what is saved, and the tries that are left

record Saves (s : TxState) : Type 0 where
  saved : IsSpelled s.saved
  tries : s.tries ≤ 100

cut_saves : (s : TxState) (ms : List Upcoming) (full : Bool) → Saves s → Saves (cut_at s ms full)
cut_saves s [] full h = h
cut_saves s (m ∷ ms) false h = h
cut_saves s (m ∷ ms) true h = record { saved = h.saved; tries = h.tries }

decide_saves : (s : TxState) (ms : List Upcoming) (ps : List ℕ) → Saves s → Saves (decide_at s ms ps)
decide_saves s (m ∷ ms) ps h = h
decide_saves s [] [] h = h
decide_saves s [] (p ∷ ps) h = record { saved = h.saved; tries = h.tries }

advance_saves : (s : TxState) → Saves s → Saves (advanced s)
advance_saves s h =
    let t : TxState = record s { rest = passed_if (is_aborting s.phase) s.rest } in
    let w : Saves t = record { saved = h.saved; tries = h.tries } in
    decide_saves (limited t) (limited t).rest (limited t).joined (cut_saves t t.rest (t.calls == 1000) w)

saved_spelled : (b : ℕ) (c saved : List ℕ) → IsSpelled c → IsSpelled saved → IsSpelled (saved_after b c saved)
saved_spelled b c saved h k = by (is_readonly b)
  where
    by : (x : Bool) → IsSpelled (if x then saved else c)
    by true = k
    by false = h

answer_saves : (s : TxState) (b : ℕ) (c : List ℕ) (ms : List Upcoming) → IsSpelled c → Saves s → Saves (answered_at s b c ms)
answer_saves s b c [] i h = h
answer_saves s b c (Select x ∷ tail) i h = h
answer_saves s b c (Prepare x ∷ tail) i h =
    advance_saves (record s {
      phase = after_byte s.phase b;
      rest = entered x tail;
      retry = retry_after s.phase b s.retry;
      calls = s.calls + 1;
      joined = joined_after b x.participant s.joined;
      saved = saved_after b c s.saved;
    }) (record { saved = saved_spelled b c s.saved i h.saved; tries = h.tries })

choice_saves : (f : Flow) (s : TxState) (t : List ℕ) (ms : List Upcoming) → Saves s → Saves (chosen_at f s t ms)
choice_saves f s t [] h = h
choice_saves f s t (Prepare x ∷ tail) h = h
choice_saves f s t (Select x ∷ tail) h =
    advance_saves (record s { rest = map Prepare (chosen f t) ++ tail; calls = s.calls + 1 }) (record { saved = h.saved; tries = h.tries })

next_saves : (f : Flow) (s : TxState) (x : Item) → IsItem x → Saves s → Saves (next f s x)
next_saves f s (Answer b c) i h = answer_saves s b c s.rest i h
next_saves f s (Choice t) i h = choice_saves f s t s.rest h
next_saves f s (ToldOne a) i h = record { saved = h.saved; tries = h.tries }

-- the bounds of a state are those of the table, with what it saves

pub record Proper (f : Flow) (s : TxState) : Type 0 where
  pub bounds : IsProper f s
  pub saved : IsSpelled s.saved
  pub tries : s.tries ≤ 100

proper_by : (f : Flow) (s : TxState) → IsProper f s → Saves s → Proper f s
proper_by f s h k = record { bounds = h; saved = k.saved; tries = k.tries }

pub next_proper : (f : Flow) (s : TxState) (x : Item) → IsItem x → is_due s x ≡ true → Proper f s → Proper f (next f s x)
next_proper f s x i d h = proper_by f (next f s x) (bounds_next f s x d h.bounds) (next_saves f s x i (record { saved = h.saved; tries = h.tries }))

pub opening_proper : (f : Flow) (tries : ℕ) (saved : List ℕ) → tries ≤ 100 → IsSpelled saved → Proper f (opening f tries saved)
opening_proper f tries saved few i =
    proper_by f (opening f tries saved) (bounds_opening f tries saved) (advance_saves (unopened f tries saved) (record { saved = i; tries = few }))

pub names_joined : (f : Flow) (s : TxState) → FlowFits f → Proper f s → All (λ p. IsNamed (name_of f p)) s.joined
names_joined f s fits h = by s.joined h.bounds.joined
  where
    by : (ps : List ℕ) → All (λ p. p < length (parts_of f)) ps → All (λ p. IsNamed (name_of f p)) ps
    by [] h = All-nil (λ p. IsNamed (name_of f p))
    by (p ∷ ps) h = All-cons (λ p. IsNamed (name_of f p)) p ps (part_named f p fits (All-head (λ p. p < length (parts_of f)) p ps h))
        (by ps (All-tail (λ p. p < length (parts_of f)) p ps h))

-- the row

map_names : (f : Flow) (ps : List ℕ) → All (λ p. IsNamed (name_of f p)) ps → All IsNamed (map (name_of f) ps)
map_names f ps h = All-map IsNamed (name_of f) ps h

-- the participant of a due preparation, by name
abbrev pub doing : Flow → Due → Option (List ℕ)
doing f (DuePrepare s) = Some (name_of f s.participant)
doing f (PrepareForAbort s) = Some (name_of f s.participant)
doing f _ = None

abbrev pub as_row : Flow → TxState → Row
as_row f st = record {
  phase = st.phase;
  joined = map (name_of f) st.joined;
  told = st.told;
  doing = doing f (due_of f st);
  tries = st.tries;
  context =
      st.saved;
}

-- a row is there while the transaction is unfinished
pub row_unended : (f : Flow) (st : TxState) → row f st ≡ (if is_ended f st then None else Some (as_row f st))
row_unended f st = by (due_of f st)
  where
    by : (d : Due) → option_map (named_row f) (row_at st d)
        ≡ (if is_over d then None else Some (record {
          phase = st.phase;
          joined = map (name_of f) st.joined;
          told = st.told;
          doing = doing f d;
          tries =
              st.tries;
          context = st.saved;
        }))
    by (DuePrepare s) = refl
    by (PrepareForAbort s) = refl
    by (DueSelect s) = refl
    by (Commit p) = refl
    by (Abort p) = refl
    by Shelve = refl
    by Done = refl

doing_named : (f : Flow) (s : TxState) (p : Phase) (ms : List Upcoming) → FlowFits f → All (IsOfFlow f) ms → IsDoing (doing f (due_at f s p ms))
doing_named f s Preparing [] fits h = tt
doing_named f s Preparing (Prepare e ∷ tail) fits h = part_named f e.participant fits (All-head (IsOfFlow f) (Prepare e) tail h)
doing_named f s Preparing (Select e ∷ tail) fits h = tt
doing_named f s Aborting [] fits h = by (s.retry && nat_lt 0 s.tries)
  where
    by : (x : Bool) → IsDoing (doing f (if x then Shelve else Done))
    by true = tt
    by false = tt
doing_named f s Aborting (Prepare e ∷ tail) fits h = part_named f e.participant fits (All-head (IsOfFlow f) (Prepare e) tail h)
doing_named f s Aborting (Select e ∷ tail) fits h = tt
doing_named f s Committing ms fits h = by (nat_lt s.told (length s.joined)) _
  where
    by : (x : Bool) (p : ℕ) → IsDoing (doing f (if x then Commit p else Done))
    by true p = tt
    by false p = tt
doing_named f s Undoing ms fits h = by (nat_lt s.told (length s.joined)) (s.retry && nat_lt 0 s.tries) _
  where
    by : (x y : Bool) (p : ℕ) → IsDoing (doing f (if x then Abort p else (if y then Shelve else Done)))
    by true y p = tt
    by false true p = tt
    by false false p = tt

-- whoever is notified has nothing doing, and somebody is left
pub record Telling (f : Flow) (s : TxState) (p : Phase) (ms : List Upcoming) : Type 0 where
  pub doing_none : doing f (due_at f s p ms) ≡ None
  pub left : s.told < length s.joined

telling_if : (f : Flow) (s : TxState) (p : Phase) (ms : List Upcoming) (b : Bool) → nat_lt s.told (length s.joined) ≡ b → is_open p ≡ false →
    is_over (due_at f s p ms) ≡ false → Telling f s p ms
telling_if f s Preparing ms b e o u = absurd (cc)
telling_if f s Aborting ms b e o u = absurd (cc)
telling_if f s Committing ms true e o u = record { doing_none = rw e refl; left = grind (arith, nat_tests) }
telling_if f s Committing ms false e o u = let over : is_over (due_at f s Committing ms) ≡ true = rw e refl in absurd (cc)
telling_if f s Undoing ms true e o u = record { doing_none = rw e refl; left = grind (arith, nat_tests) }
telling_if f s Undoing ms false e o u = let over : is_over (due_at f s Undoing ms) ≡ true = rw e (by (s.retry && nat_lt 0 s.tries)) in absurd (cc)
  where
    by : (y : Bool) → is_over (if y then Shelve else Done) ≡ true
    by true = refl
    by false = refl

pub telling : (f : Flow) (s : TxState) → is_open s.phase ≡ false → is_ended f s ≡ false → Telling f s s.phase s.rest
telling f s o u = telling_if f s s.phase s.rest (nat_lt s.told (length s.joined)) refl o u

pub as_row_fits : (f : Flow) (s : TxState) → FlowFits f → Proper f s → is_ended f s ≡ false → RowFits (as_row f s)
as_row_fits f s fits h u =
    let len = length-map s.joined (name_of f) in
    let few = h.bounds.few in
    let calls = h.bounds.calls in
    record {
      members = omega arith;
      names = map_names f s.joined (names_joined f s fits h);
      doing = doing_named f s s.phase s.rest fits h.bounds.rest;
      untold = λ o. (let w = h.bounds.undecided o in let m = w.members in (w.untold, omega arith));
      telling = λ o. (let w = telling f s o u in let l = w.left in (w.doing_none, omega arith));
      tries = h.tries;
      context = h.saved;
    }

row_is : (f : Flow) (s : TxState) (r : Row) (b : Bool) → is_ended f s ≡ b → (if b then None else Some (as_row f s)) ≡ Some r →
    (is_ended f s ≡ false) × (as_row f s ≡ r)
row_is f s r true e h = absurd (cc)
row_is f s r false e h = let same : as_row f s ≡ r = grind (arith) in (e, same)

pub row_some : (f : Flow) (s : TxState) (r : Row) → row f s ≡ Some r → (is_ended f s ≡ false) × (as_row f s ≡ r)
row_some f s r h = row_is f s r (is_ended f s) refl (sym (row_unended f s) ∙ h)

pub row_fits : (f : Flow) (s : TxState) (r : Row) → FlowFits f → Proper f s → row f s ≡ Some r → RowFits r
row_fits f s r fits h e = let w = row_some f s r e in subst RowFits w.1 (as_row_fits f s fits h w.0)

-- every lawful list
after_proper : (f : Flow) (s : TxState) (xs : List Item) → AreItems xs → is_lawful f s xs ≡ true → Proper f s → Proper f (after f s xs)
after_proper f s [] is law h = h
after_proper f s (x ∷ xs) is law h =
    let w = and_parts (is_due s x) (is_lawful f (next f s x) xs) law in
    after_proper f (next f s x) xs is.1 w.1 (next_proper f s x is.0 w.0 h)

pub rows_bounded : (f : Flow) (tries : ℕ) (saved : List ℕ) (items : List Item) (r : Row) → FlowFits f → tries ≤ 100 → IsSpelled saved → AreItems items →
    is_lawful f (opening f tries saved) items ≡ true
    → row f (after f (opening f tries saved) items) ≡ Some r → RowFits r
rows_bounded f tries saved items r fits few i is law h = row_fits f (after f (opening f tries saved) items) r fits
    (after_proper f (opening f tries saved) items is law (opening_proper f tries saved few i)) h
