-- The specified table: what one transaction's own items lead to (jPOS: `TransactionManager`, its
-- prepare, prepareForAbort, commit and abort). It knows no steps, addresses or stacks.
--
-- The specified table.
--
-- A `TxState` is where a transaction is. It has a phase (preparing, aborting, committing,
-- undoing) and a `rest`: what is upcoming, an entry to prepare, or a selector that has been
-- prepared and is to select. It also has the kept RETRY, whether the bound was met, the number of
-- answers and choices, the members, how many were notified, the saved context and the tries left.
--
-- An item is an answer (byte, context), a choice (text) or a told (advice or none). `next` is
-- what one item leads to:
--
-- | Phase | First of the rest | Item | Then |
-- |---|---|---|---|
-- | preparing | entry, `prepare` is due | answer with PREPARED | the selection of a selector, then the tail |
-- | preparing | the same | answer without PREPARED | aborting, its RETRY is kept; the rest likewise |
-- | aborting | abort-aware entry, `prepare_for_abort` is due | any answer | aborting; the rest likewise |
-- | preparing, aborting | selection, `select` is due | choice | the chosen entries, then the tail |
-- | committing, undoing | a member is due | told | the next member |
--
-- After each item (`advanced`), before anything is due, three rules apply in this order:
--
-- 1. While aborting, entries that are not abort-aware are passed over (`passed`). A selector's
--    selection stays.
-- 2. After 1,000 answers and choices, a rest that is not empty is dropped, and the transaction
--    aborts without retry (`limited`).
-- 3. With an empty rest and members, preparing becomes committing, and aborting becomes undoing
--    (`decided`).
--
-- `opening` is the state before the first item: the entries of `main`; `reopening` that of a
-- transaction that the journal has. `after` folds `next` over a list, `after_newest` over a list
-- that has the newest item first (`Bounds.antt`). `due_of` (`Due.antt`) is the call or the end
-- that a state leads to, with the step of the call. An entry's step is `call_step`, a selection's
-- the one after it. An abort with RETRY kept and tries left ends by `shelve`; every other end is
-- `done`. `is_due` says whether an item of that kind is the reply to the due call; `is_lawful`
-- (`Lists.antt`) says it of a whole list.
use Rattle.std.specs.Prelude.{ℕ, ◌+◌, ◌==◌, Bool, true, false, not, ◌&&◌, List, [], ◌∷◌, ◌++◌, length, map, take, nat_lt, if◌then◌else◌, codes}
use Rattle.std.specs.List.{flat_map}
use Rattle.sw_participant.specs.Answers.{is_prepared, asks_retry, stays_out, is_readonly}
use Rattle.flow_model.specs.declared.flow.Flow.{Flow}
use Rattle.flow_model.specs.declared.flow.PlacedEntry.{PlacedEntry}
use Rattle.flow_model.specs.Places.{entries_named}
use Rattle.tx_machine.specs.declared.values.Phase.{Phase}
use Rattle.tx_machine.specs.declared.values.Phase.TheVariants.{Preparing, Aborting, Committing, Undoing}
use Rattle.tx_machine.specs.declared.values.Item.{Item}
use Rattle.tx_machine.specs.declared.values.Item.TheVariants.{Answer, Choice, Told}
use Rattle.tx_machine.specs.Names.{names_of}

-- what is still to come: an entry that is to be prepared, or a selector that is to select
pub data Upcoming : Type 0 where
  Prepare : (s : PlacedEntry) → Upcoming
  Select : (s : PlacedEntry) → Upcoming

-- the entries that a selection puts before the rest: those of the groups that the first 16 names
-- name, in the order of the names; an unknown name counts and gives none
abbrev pub chosen : Flow → List ℕ → List PlacedEntry
chosen f text = flat_map (entries_named f) (take 16 (names_of text))

-- where a transaction stands
pub record TxState : Type 0 where
  pub phase : Phase
  pub rest : List Upcoming
  -- RETRY of the answer that began the abort
  pub retry : Bool
  -- the bound has dropped the rest
  pub bound : Bool
  -- answers and choices so far
  pub calls : ℕ
  -- the members: participants that joined, in the order of joining, once per joining
  pub joined : List ℕ
  -- how many members were notified of the outcome
  pub told : ℕ
  pub saved : List ℕ
  pub tries : ℕ

-- Once aborting, entries that are not abort-aware are passed over; if one is a selector, it still
-- selects. While a selection stands first, nothing after it is passed over.
abbrev pub passed : List Upcoming → List Upcoming
passed [] = []
passed (Select s ∷ tail) = Select s ∷ tail
passed (Prepare s ∷ tail) = if s.kind.abort_aware then Prepare s ∷ tail else if s.kind.selector then Select s ∷ tail else passed tail

abbrev pub is_aborting : Phase → Bool
is_aborting Preparing = false
is_aborting Aborting = true
is_aborting Committing = false
is_aborting Undoing = false

abbrev pub passed_if : Bool → List Upcoming → List Upcoming
passed_if aborting rest = if aborting then passed rest else rest

-- After 1,000 answers and choices what is left is dropped: the transaction aborts, without retry.
abbrev pub cut_at : TxState → List Upcoming → Bool → TxState
cut_at s [] full = s
cut_at s (m ∷ ms) false = s
cut_at s (m ∷ ms) true = record s { phase = Aborting; rest = []; retry = false; bound = true }

abbrev pub limited : TxState → TxState
limited s = cut_at s s.rest (s.calls == 1000)

-- With nothing to come and members, the members are notified: commit after preparing, abort after
-- aborting. Without members the transaction is over.
abbrev pub outcome : Phase → Phase
outcome Preparing = Committing
outcome Aborting = Undoing
outcome Committing = Committing
outcome Undoing = Undoing

abbrev pub decide_at : TxState → List Upcoming → List ℕ → TxState
decide_at s (m ∷ ms) ps = s
decide_at s [] [] = s
decide_at s [] (p ∷ ps) = record s { phase = outcome s.phase }

abbrev pub decided : TxState → TxState
decided s = decide_at s s.rest s.joined

-- passing over, then the bound, then the outcome, before anything is due
abbrev pub advanced : TxState → TxState
advanced s = decided (limited (record s { rest = passed_if (is_aborting s.phase) s.rest }))

-- a prepared selector selects before anything else comes
abbrev pub entered : PlacedEntry → List Upcoming → List Upcoming
entered s tail = if s.kind.selector then Select s ∷ tail else tail

-- an answer without PREPARED turns preparing into aborting, and its RETRY is kept; while aborting,
-- PREPARED and RETRY are ignored
abbrev pub after_byte : Phase → ℕ → Phase
after_byte Preparing b = if is_prepared b then Preparing else Aborting
after_byte Aborting b = Aborting
after_byte Committing b = Committing
after_byte Undoing b = Undoing

abbrev pub retry_after : Phase → ℕ → Bool → Bool
retry_after Preparing b r = if is_prepared b then r else asks_retry b
retry_after Aborting b r = r
retry_after Committing b r = r
retry_after Undoing b r = r

-- the members after this answer of participant p: it joins unless the answer has NO_JOIN
abbrev pub joined_after : ℕ → ℕ → List ℕ → List ℕ
joined_after b p joined = if stays_out b then joined else joined ++ p ∷ []

-- the saved context after this answer: the answer's own, unless it has READONLY
abbrev pub saved_after : ℕ → List ℕ → List ℕ → List ℕ
saved_after b context saved = if is_readonly b then saved else context

-- an answer, and below a choice, by what is to come
abbrev pub answered_at : TxState → ℕ → List ℕ → List Upcoming → TxState
answered_at s b c [] = s
answered_at s b c (Select e ∷ tail) = s
answered_at s b c (Prepare e ∷ tail) = advanced (record s {
  phase = after_byte s.phase b;
  rest = entered e tail;
  retry = retry_after s.phase b s.retry;
  calls = s.calls + 1;
  joined = joined_after b e.participant s.joined;
  saved = saved_after b c s.saved;
})

abbrev pub chosen_at : Flow → TxState → List ℕ → List Upcoming → TxState
chosen_at f s text [] = s
chosen_at f s text (Prepare e ∷ tail) = s
chosen_at f s text (Select e ∷ tail) = advanced (record s { rest = map Prepare (chosen f text) ++ tail; calls = s.calls + 1 })

-- one item that was due
abbrev pub next : Flow → TxState → Item → TxState
next f s (Answer b c) = answered_at s b c s.rest
next f s (Choice text) = chosen_at f s text s.rest
next f s (Told advice) = record s { told = s.told + 1 }

-- whether preparations and selections may be due
abbrev pub is_open : Phase → Bool
is_open Preparing = true
is_open Aborting = true
is_open Committing = false
is_open Undoing = false

abbrev pub prepares_next : List Upcoming → Bool
prepares_next [] = false
prepares_next (Prepare e ∷ tail) = true
prepares_next (Select e ∷ tail) = false

abbrev pub selects_next : List Upcoming → Bool
selects_next [] = false
selects_next (Prepare e ∷ tail) = false
selects_next (Select e ∷ tail) = true

-- whether a call is due to which an item of this kind is the reply
abbrev pub is_due : TxState → Item → Bool
is_due s (Answer b c) = is_open s.phase && prepares_next s.rest
is_due s (Choice text) = is_open s.phase && selects_next s.rest
is_due s (Told advice) = not (is_open s.phase) && nat_lt s.told (length s.joined)

-- before the first item: the entries of the group `main`
abbrev pub opening : Flow → ℕ → List ℕ → TxState
opening f tries saved = advanced (record {
  phase = Preparing;
  rest = map Prepare (entries_named f (codes "main"));
  retry = false;
  bound = false;
  calls =
      0;
  joined = [];
  told = 0;
  saved = saved;
  tries = tries;
})

-- a transaction that the journal has, before its first item: its members are notified from a number on
abbrev pub reopening : Bool → List ℕ → ℕ → ℕ → List ℕ → TxState
reopening committing joined told tries saved = record {
  phase = if committing then Committing else Undoing;
  rest = [];
  retry = false;
  bound = false;
  calls =
      0;
  joined = joined;
  told = told;
  saved = saved;
  tries = tries;
}

-- after a list of items, the latest one last
abbrev pub after : Flow → TxState → List Item → TxState
after f s [] = s
after f s (x ∷ xs) = after f (next f s x) xs
