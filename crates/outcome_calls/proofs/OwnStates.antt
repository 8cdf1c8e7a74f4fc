-- A transaction of this life stands where the machine does after its items.
-- for: laws::table_words
use Rattle.std.proofs.Common.{Some, None, Option, ◌≡◌, ℕ, ◌+◌, ◌<◌, Bool, true, false, List, [], ◌∷◌, length, refl, ◌∙◌, ap, arith}
use Rattle.std.specs.Prelude.{if◌then◌else◌, slice_index, nat_lt, not, ◌&&◌}
use Rattle.std.proofs.lemmas.Bool.Decides.{nat_tests}
use Rattle.flow_model.specs.declared.flow.Flow.{Flow}
use Rattle.tx_machine.specs.declared.values.Item.{Item}
use Rattle.tx_machine.specs.declared.values.Item.TheVariants as item
use Rattle.tx_machine.specs.declared.values.Phase.{Phase}
use Rattle.tx_machine.specs.declared.values.Phase.TheVariants.{Preparing, Aborting, Committing, Undoing}
use Rattle.tx_machine.specs.declared.values.Due.TheVariants.{Commit, Abort, Shelve, Done}
use Rattle.tx_machine.specs.Table as table
use Rattle.tx_machine.specs.Table.{TxState, Upcoming}
use Rattle.tx_machine.specs.Due.{due_at}
use Rattle.tx_machine.specs.Row.{Row, row_of}
use Rattle.outcome_calls.specs.Trail.{listed, is_committing}
use Rattle.outcome_calls.specs.One.{Advice}
use Rattle.outcome_calls.specs.States.{after, FullState, own, seen, due, table_row, outcome_due, recovers, standing, reopen, answers}
use Rattle.outcome_calls.specs.Owning.{reply_of, replies, afters, told_row}

pub items : (f : Flow) (s : TxState) (xs : List Item) → afters f (own s) (replies xs) ≡ own (table.after f s xs)
items f s [] = refl
items f s (item.Answer b c ∷ xs) = items f (table.next f s (item.Answer b c)) xs
items f s (item.Choice t ∷ xs) = items f (table.next f s (item.Choice t)) xs
items f s (item.Told a ∷ xs) = items f (table.next f s (item.Told a)) xs

pub rows : (f : Flow) (s : TxState) (xs : List Item) → (standing f (afters f (own s) (replies xs))).row ≡ row_of f (table.after f s xs)
rows f s xs = ap (λ (st : FullState). (standing f st).row) (items f s xs)

-- whether an item is due
abbrev pub open_due : Phase → List Upcoming → TxState → Item → Bool
open_due ph ms s (item.Answer b c) = table.is_open ph && table.prepares_next ms
open_due ph ms s (item.Choice t) = table.is_open ph && table.selects_next ms
open_due ph ms s (item.Told a) = not (table.is_open ph) && nat_lt s.told (length s.joined)

pub due_ended : (f : Flow) (s : TxState) (c : Bool) (x : Item) → false ≡ answers (seen f (own s) (if c then Shelve else Done)) (reply_of x)
due_ended f s true (item.Answer b c) = refl
due_ended f s true (item.Choice t) = refl
due_ended f s true (item.Told a) = refl
due_ended f s false (item.Answer b c) = refl
due_ended f s false (item.Choice t) = refl
due_ended f s false (item.Told a) = refl

pub due_commit : (f : Flow) (s : TxState) (b : Bool) (p : ℕ) (x : Item) → nat_lt s.told (length s.joined) ≡ b →
    open_due Committing [] s x ≡ answers (seen f (own s) (if b then Commit p else Done)) (reply_of x)
due_commit f s true p (item.Answer n c) e = refl
due_commit f s true p (item.Choice t) e = refl
due_commit f s true p (item.Told a) e = e
due_commit f s false p (item.Answer n c) e = refl
due_commit f s false p (item.Choice t) e = refl
due_commit f s false p (item.Told a) e = e

pub due_abort : (f : Flow) (s : TxState) (b c : Bool) (p : ℕ) (x : Item) → nat_lt s.told (length s.joined) ≡ b →
    open_due Undoing [] s x ≡ answers (seen f (own s) (if b then Abort p else (if c then Shelve else Done))) (reply_of x)
due_abort f s true c p (item.Answer n w) e = refl
due_abort f s true c p (item.Choice t) e = refl
due_abort f s true c p (item.Told a) e = e
due_abort f s false c p (item.Answer n w) e = due_ended f s c (item.Answer n w)
due_abort f s false c p (item.Choice t) e = due_ended f s c (item.Choice t)
due_abort f s false c p (item.Told a) e = e ∙ due_ended f s c (item.Told a)

pub closed_due : (ms : List Upcoming) (ph : Phase) (s : TxState) (x : Item) → table.is_open ph ≡ false → open_due ph ms s x ≡ open_due ph [] s x
closed_due ms ph s (item.Answer b c) e = grind (arith, e)
closed_due ms ph s (item.Choice t) e = grind (arith, e)
closed_due ms ph s (item.Told a) e = refl

pub dues_at : (f : Flow) (s : TxState) (ph : Phase) (ms : List Upcoming) (x : Item) →
    open_due ph ms s x ≡ answers (seen f (own s) (due_at f s ph ms)) (reply_of x)
dues_at f s Preparing [] (item.Answer b c) = refl
dues_at f s Preparing [] (item.Choice t) = refl
dues_at f s Preparing [] (item.Told a) = refl
dues_at f s Preparing (table.Prepare e ∷ ms) (item.Answer b c) = refl
dues_at f s Preparing (table.Prepare e ∷ ms) (item.Choice t) = refl
dues_at f s Preparing (table.Prepare e ∷ ms) (item.Told a) = refl
dues_at f s Preparing (table.Select e ∷ ms) (item.Answer b c) = refl
dues_at f s Preparing (table.Select e ∷ ms) (item.Choice t) = refl
dues_at f s Preparing (table.Select e ∷ ms) (item.Told a) = refl
dues_at f s Aborting [] (item.Answer b c) = due_ended f s (s.retry && nat_lt 0 s.tries) (item.Answer b c)
dues_at f s Aborting [] (item.Choice t) = due_ended f s (s.retry && nat_lt 0 s.tries) (item.Choice t)
dues_at f s Aborting [] (item.Told a) = due_ended f s (s.retry && nat_lt 0 s.tries) (item.Told a)
dues_at f s Aborting (table.Prepare e ∷ ms) (item.Answer b c) = refl
dues_at f s Aborting (table.Prepare e ∷ ms) (item.Choice t) = refl
dues_at f s Aborting (table.Prepare e ∷ ms) (item.Told a) = refl
dues_at f s Aborting (table.Select e ∷ ms) (item.Answer b c) = refl
dues_at f s Aborting (table.Select e ∷ ms) (item.Choice t) = refl
dues_at f s Aborting (table.Select e ∷ ms) (item.Told a) = refl
dues_at f s Committing ms x = closed_due ms Committing s x refl ∙ due_commit f s (nat_lt s.told (length s.joined)) (slice_index s.joined s.told) x refl
dues_at f s Undoing ms x = closed_due ms Undoing s x refl ∙ due_abort f s (nat_lt s.told (length s.joined)) (s.retry && nat_lt 0 s.tries)
    (slice_index s.joined s.told) x refl

pub is_due_as : (s : TxState) (x : Item) → table.is_due s x ≡ open_due s.phase s.rest s x
is_due_as s (item.Answer b c) = refl
is_due_as s (item.Choice t) = refl
is_due_as s (item.Told a) = refl

pub dues : (f : Flow) (s : TxState) (x : Item) → table.is_due s x ≡ answers (due f (own s)) (reply_of x)
dues f s x = is_due_as s x ∙ dues_at f s s.phase s.rest x

-- recovery: the members from the row's number on are notified, after a recover call where the participant has the mark
pub recovering_at : (f : Flow) (b c : Bool) (p : ℕ) (st : FullState) → b ≡ true → seen f st (if b then Abort p else (if c then Shelve else Done))
    ≡ seen f st (Abort p)
recovering_at f b c p st h = ap (λ (b : Bool). seen f st (if b then Abort p else (if c then Shelve else Done))) h

pub reopened_commit : (f : Flow) (r : Row) → is_committing r.phase ≡ true → r.told < length (listed r) →
    due f (reopen r) ≡ outcome_due (recovers f (slice_index (listed r) r.told)) (slice_index (listed r) r.told)
reopened_commit f r goes less =
    let lt : nat_lt r.told (length (listed r)) ≡ true = grind (arith, nat_tests, less) in
    ap (λ (b : Bool). seen f (reopen r) (due_at f (reopen r).state (if b then Committing else Undoing) [])) goes
    ∙ ap (λ (b : Bool). seen f (reopen r) (if b then Commit (slice_index (listed r) r.told) else Done)) lt

pub reopened_abort : (f : Flow) (r : Row) → is_committing r.phase ≡ false → r.told < length (listed r) →
    due f (reopen r) ≡ outcome_due (recovers f (slice_index (listed r) r.told)) (slice_index (listed r) r.told)
reopened_abort f r goes less =
    let lt : nat_lt r.told (length (listed r)) ≡ true = grind (arith, nat_tests, less) in
    ap (λ (b : Bool). seen f (reopen r) (due_at f (reopen r).state (if b then Committing else Undoing) [])) goes
    ∙ recovering_at f (nat_lt r.told (length (listed r))) false (slice_index (listed r) r.told) (reopen r) lt

pub by_phase : (b : Bool) (X : Type 0) → (b ≡ true → X) → (b ≡ false → X) → X
by_phase true X f g = f refl
by_phase false X f g = g refl

pub reopens_due : (f : Flow) (r : Row) → r.told < length (listed r) → due f (reopen r) ≡ outcome_due (recovers f (slice_index (listed r) r.told))
    (slice_index (listed r) r.told)
reopens_due f r less = by_phase (is_committing r.phase) (due f (reopen r) ≡ outcome_due (recovers f (slice_index (listed r) r.told))
    (slice_index (listed r) r.told)) (λ h. reopened_commit f r h less) (λ h. reopened_abort f r h less)

-- the row of a recovered transaction once a member was notified
abbrev pub more_told : Row → Phase → TxState
more_told r ph = record {
  phase = ph;
  rest = [];
  retry = false;
  bound = false;
  calls = 0;
  joined = listed r;
  told = r.told + 1;
  saved = r.saved;
  tries =
      r.tries;
}

pub told_in : (f : Flow) (r : Row) (b lt : Bool) → nat_lt (r.told + 1) (length (listed r)) ≡ lt
    → table_row (due_at f (more_told r (if b then Committing else Undoing)) (if b then Committing else Undoing) []) (if b then Committing else Undoing)
    (more_told r (if b then Committing else Undoing)) ≡ (if lt then Some (told_row r (if b then Committing else Undoing)) else None)
told_in f r true lt e = ap (λ (lt : Bool). table_row (if lt then Commit (slice_index (listed r) (r.told + 1)) else Done) Committing
    (more_told r Committing)) e ∙ by lt
  where
    by : (lt : Bool) → table_row (if lt then Commit (slice_index (listed r) (r.told + 1)) else Done) Committing (more_told r Committing)
        ≡ (if lt then Some (told_row r Committing) else None)
    by true = refl
    by false = refl
told_in f r false lt e = ap (λ (lt : Bool). table_row (if lt then Abort (slice_index (listed r) (r.told + 1)) else Done) Undoing (more_told r Undoing)) e
    ∙ by lt
  where
    by : (lt : Bool) → table_row (if lt then Abort (slice_index (listed r) (r.told + 1)) else Done) Undoing (more_told r Undoing)
        ≡ (if lt then Some (told_row r Undoing) else None)
    by true = refl
    by false = refl

pub told_rows : (f : Flow) (r : Row) (a : Option (List ℕ))
    → (standing f (after f (reopen r) (Advice a))).row ≡ (if nat_lt (r.told + 1) (length (listed r)) then Some
    (told_row r (if is_committing r.phase then Committing else Undoing)) else None)
told_rows f r a = told_in f r (is_committing r.phase) (nat_lt (r.told + 1) (length (listed r))) refl
