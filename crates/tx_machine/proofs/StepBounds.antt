-- What a step keeps of the bounds of a state: of its entries, calls and members, and of how many were told.
-- for: laws::lists_keep_bounds here, laws::rows_are_bounded of tx_history
use Rattle.std.proofs.Common.{◌≡◌, ℕ, ◌+◌, ◌<◌, ◌≤◌, Bool, true, false, ◌⊎◌, inl, inr, List, [], ◌∷◌, ◌++◌, length, map, refl, arith, length-append}
use Rattle.std.specs.Prelude.{if◌then◌else◌, ◌==◌, nat_lt, not, ◌&&◌, codes}
use Rattle.std.specs.List.{All, flat_map}
use Rattle.std.proofs.lemmas.Bool.Decides.{nat_tests}
use Rattle.std.proofs.lemmas.List.Elements.{All-nil, All-cons, All-head, All-tail, All-append, All-push}
use Rattle.sw_participant.specs.Answers.{stays_out, is_prepared}
use Rattle.flow_model.specs.declared.flow.Flow.{Flow}
use Rattle.flow_model.specs.declared.flow.PlacedEntry.{PlacedEntry}
use Rattle.flow_model.specs.Places.{entries_named}
use Rattle.tx_machine.specs.declared.values.Phase.{Phase}
use Rattle.tx_machine.specs.declared.values.Phase.TheVariants.{Preparing, Aborting, Committing, Undoing}
use Rattle.tx_machine.specs.Table.{TxState, Upcoming, Prepare, Select, is_open, passed, passed_if, entered, after_byte, joined_after}

-- what `opening` goes on from
abbrev pub unopened : Flow → ℕ → List ℕ → TxState
unopened f tries saved = record {
  phase = Preparing;
  rest = map Prepare (entries_named f (codes "main"));
  retry = false;
  bound = false;
  calls = 0;
  joined = [];
  told = 0;
  saved = saved;
  tries = tries;
}

-- what holds of the entries ahead still holds of them as the transaction goes on

passed_all : (P : Upcoming → Type 0) → ((s : PlacedEntry) → P (Prepare s) → P (Select s)) → (ms : List Upcoming) → All P ms → All P (passed ms)
passed_all P same [] h = h
passed_all P same (Select s ∷ ms) h = h
passed_all P same (Prepare s ∷ ms) h = by s.kind.abort_aware s.kind.selector (passed_all P same ms (All-tail P (Prepare s) ms h))
  where
    by : (a b : Bool) → All P (passed ms) → All P (if a then Prepare s ∷ ms else if b then Select s ∷ ms else passed ms)
    by true b ih = h
    by false true ih = All-cons P (Select s) ms (same s (All-head P (Prepare s) ms h)) (All-tail P (Prepare s) ms h)
    by false false ih = ih

pub passed_if_all : (P : Upcoming → Type 0) → ((s : PlacedEntry) → P (Prepare s) → P (Select s)) → (b : Bool) (ms : List Upcoming) → All P ms →
    All P (passed_if b ms)
passed_if_all P same true ms h = passed_all P same ms h
passed_if_all P same false ms h = h

pub entered_all : (P : Upcoming → Type 0) (s : PlacedEntry) (ms : List Upcoming) → P (Select s) → All P ms → All P (entered s ms)
entered_all P s ms n h = by s.kind.selector
  where
    by : (x : Bool) → All P (if x then Select s ∷ ms else ms)
    by true = All-cons P (Select s) ms n h
    by false = h

pub named_all : (P : PlacedEntry → Type 0) (f : Flow) → ((n : List ℕ) → All P (entries_named f n)) → (ns : List (List ℕ)) →
    All P (flat_map (entries_named f) ns)
named_all P f each [] = All-nil P
named_all P f each (n ∷ ns) = All-append P (entries_named f n) (flat_map (entries_named f) ns) (each n) (named_all P f each ns)

-- one more call fits

pub not_full : (n : ℕ) → n ≤ 1000 → (n == 1000) ≡ false → n < 1000
not_full n h e = grind (arith, nat_tests)

pub less_if : (ms : List Upcoming) (n : ℕ) (m : Upcoming) (tail : List Upcoming) → ms ≡ m ∷ tail → (ms ≡ []) ⊎ (n < 1000) → n < 1000
less_if ms n m tail e h = elim h [ inl none ↦ absurd (cc) | inr less ↦ less ]

-- an answer

pub byte_open : (p : Phase) (b : ℕ) → is_open p ≡ true → is_open (after_byte p b) ≡ true
byte_open Preparing b h = by (is_prepared b)
  where
    by : (x : Bool) → is_open (if x then Preparing else Aborting) ≡ true
    by true = refl
    by false = refl
byte_open Aborting b h = refl
byte_open Committing b h = absurd (cc)
byte_open Undoing b h = absurd (cc)

pub joined_length : (b p : ℕ) (ps : List ℕ) → length (joined_after b p ps) ≤ length ps + 1
joined_length b p ps = by (stays_out b)
  where
    by : (out : Bool) → length (if out then ps else ps ++ p ∷ []) ≤ length ps + 1
    by true = omega arith
    by false = omega (arith, length-append ps (p ∷ []))

pub joined_all : (P : ℕ → Type 0) (b p : ℕ) (ps : List ℕ) → All P ps → P p → All P (joined_after b p ps)
joined_all P b p ps h l = by (stays_out b)
  where
    by : (out : Bool) → All P (if out then ps else ps ++ p ∷ [])
    by true = h
    by false = All-push P ps p h l

-- a notification

pub tells : (x : Bool) (n k : ℕ) → (x && nat_lt n k) ≡ true → n + 1 ≤ k
tells true n k h = grind (arith, nat_tests)
tells false n k h = absurd (cc)

pub decided_not : (p : Phase) (y : Bool) → (not (is_open p) && y) ≡ true → is_open p ≡ true → ⊥
decided_not Preparing y h k = cc
decided_not Aborting y h k = cc
decided_not Committing y h k = cc
decided_not Undoing y h k = cc

-- a journalled transaction is decided

pub reopened_open : (b : Bool) → is_open (if b then Committing else Undoing) ≡ false
reopened_open true = refl
reopened_open false = refl
