-- Rounds one after the other, and what they give.
-- for: switch::Switch, stream::Requests, serving::Switch
use Rattle.std.proofs.Common.{◌≡◌, ◌<◌, ◌≤◌, ℕ, ◌+◌, Bool, true, false, cond, List, [], ◌∷◌, ◌++◌, Option, Some, None, Result, Ok, Err, refl, sym, ap, subst}
use Rattle.std.proofs.Common.{arith, ◌∙◌, append_assoc, append-nil}
use Rattle.std.specs.Prelude.{◌&&◌}
use Rattle.std.specs.declared.cmp.Ordering.TheVariants.{Greater}
use Rattle.std.specs.Ordering.{is_lt, nat_cmp}
use Rattle.std.specs.BTreeMap.{insert_entry}
use Rattle.std.specs.Io.KnownBytes.{Appends}
use Rattle.std.specs.List.{AllByRecursion}
use Rattle.std.specs.Result.{IsErrAnd}
use Rattle.std.specs.Prelude.{IfNone, IfOk, IfSome, OnOk}
use Rattle.std.proofs.KnownBytes.{Appends-nil, Appends-trans}
use Rattle.std.proofs.lemmas.Bool.Decides.{nat_tests}
use Rattle.std.proofs.lemmas.Map.Keys.{ge_from_not_lt}
use Rattle.std.proofs.lemmas.Result.{err_from_is_err_and}
use Rattle.sw_context.specs.Pairs.{Pairs}
use Rattle.sw_frame.specs.Stream.{AreFramed}
use Rattle.tx_plant.specs.Core.{Core, without_ended}
use Rattle.tx_plant.specs.Plant.{Seen}
use Rattle.tx_plant.specs.declared.turn.Outcome.{Outcome}
use Rattle.tx_plant.specs.declared.turn.Turn.TheVariants as turn
use Rattle.tx_seats.specs.Seated.{Seated}
use Rattle.sw_stats.specs.Tallies.{Tally, tallied}
use Rattle.run_switch.specs.declared.progress.Progress.{Progress}
use Rattle.run_switch.specs.Points.{IsAtRest, IsReady, Point, RestsGiven, all_answered, ended_at, next_at, response_of, unanswered}
use Rattle.run_responses.specs.Responses.{above, last_id, responses}
use Rattle.run_switch.specs.Points.{with_ended, world_at}
use Rattle.run_input.specs.Requests.{Readable, Reading, Unreadable}
use Rattle.run_switch.specs.Lines.{Line}
use Rattle.run_switch.specs.Rounds.{Completed, Completes, Does, Goes, IsEmptied, IsRetry, MayCut, Offered, Released, Returned, Round, Serves, Streamed}
use Rattle.run_switch.specs.Rounds.{Transacts, Trimmed, answering, if_header}
use Rattle.run_switch.specs.Traces.{Cuts, DrainsAll, IsLive, Log, Reports, Tells}
use Rattle.tx_engine.specs.World.{World}
use Rattle.run_responses.proofs.Ended.{is_above}
use Rattle.run_switch.proofs.Tracing.{passed_then, tells_none, tells_then}
use Rattle.run_switch.proofs.Resting.{at_rest_recovered, cuts_waits, offered_one}

pub goes_append : (ds bs : List Round) (p q r : Point) (xs ys : List ℕ) (ls ms : List Line) → Goes ds p xs ls q → Goes bs q ys ms r →
    Goes (ds ++ bs) p (xs ++ ys) (ls ++ ms) r
goes_append [] bs p q r xs ys ls ms (none, nothing, same) h =
    subst (λ (l : List ℕ). Goes bs p (l ++ ys) (ls ++ ms) r) (sym none)
    (subst (λ (l : List Line). Goes bs p ys (l ++ ms) r) (sym nothing) (subst (λ (z : Point). Goes bs z ys ms r) same h))
goes_append (Offered x ∷ ds) bs p q r xs ys ls ms (ready, o, w, does, more) h =
    (ready, o, w, does, goes_append ds bs w q r xs ys ls ms more h)
goes_append (Completed ∷ ds) bs p q r xs ys ls ms (w, first, later, cut, others, completes, more, all, these) h = (
  w,
  first,
  later ++ ys,
  cut,
  others ++ ms,
  completes,
  goes_append ds bs w q r later ys others ms more h,
  ap (λ (l : List ℕ). l ++ ys) all ∙ append_assoc first later ys,
  ap (λ (l : List Line). l ++ ms) these ∙ append_assoc cut others ms,
)
goes_append (Returned n ∷ ds) bs p q r xs ys ls ms (first, later, framed, more, all) h =
    (first, later ++ ys, framed, goes_append ds bs p q r later ys ls ms more h, ap (λ (l : List ℕ). l ++ ys) all ∙ append_assoc first later ys)
goes_append (Released ∷ ds) bs p q r xs ys ls ms (o, w, does, more) h =
    (o, w, does, goes_append ds bs w q r xs ys ls ms more h)
goes_append (Streamed order rs ∷ ds) bs p q r xs ys ls ms (ready, w, first, later, runs, more, all) h =
    (ready, w, first, later ++ ys, runs, goes_append ds bs w q r later ys ls ms more h, ap (λ (l : List ℕ). l ++ ys) all ∙ append_assoc first later ys)
goes_append (Trimmed ∷ ds) bs p q r xs ys ls ms (w, cut, others, cuts, more, these) h =
    (w, cut, others ++ ms, cuts, goes_append ds bs w q r xs ys others ms more h, ap (λ (l : List Line). l ++ ms) these ∙ append_assoc cut others ms)

abbrev pub serves_none : (p : Point) (o : Option (List ℕ)) → Serves [] p o p o
serves_none p o = record { bytes = []; lines = []; goes = (refl, refl, refl); appends = Appends-nil o }

abbrev pub serves_then : (ds bs : List Round) (p q r : Point) (a b c : Option (List ℕ)) → Serves ds p a q b → Serves bs q b r c → Serves (ds ++ bs) p a r c
serves_then ds bs p q r a b c s t = record {
  bytes = s.bytes ++ t.bytes;
  lines = s.lines ++ t.lines;
  goes = goes_append ds bs p q r s.bytes t.bytes s.lines t.lines s.goes t.goes;
  appends = Appends-trans a b c s.bytes t.bytes s.appends t.appends;
}

abbrev pub serves_offer : (x : Pairs) (o : Outcome) (p w q : Point) (ds : List Round) (a b : Option (List ℕ)) → IsReady p → Does (turn.Offer x) o p w →
    Serves ds w a q b → Serves (Offered x ∷ ds) p a q b
serves_offer x o p w q ds a b ready does s = record { bytes = s.bytes; lines = s.lines; goes = (ready, o, w, does, s.goes); appends = s.appends }

abbrev pub serves_release : (o : Outcome) (p q : Point) (a : Option (List ℕ)) → Does turn.Release o p q → Serves (Released ∷ []) p a q a
serves_release o p q a does = record { bytes = []; lines = []; goes = (o, q, does, (refl, refl, refl)); appends = Appends-nil a }

-- a header is given back
abbrev pub serves_returned : (n : List ℕ) (p : Point) (text : List ℕ) (a b : Option (List ℕ)) → AreFramed text (if_header n) → Appends a b text →
    Serves (Returned n ∷ []) p a p b
serves_returned n p text a b framed appends = record {
  bytes = text;
  lines = [];
  goes = (text, [], framed, (refl, refl, refl), sym (append-nil text));
  appends = appends;
}

abbrev pub serves_completed : (p q : Point) (bytes : List ℕ) (lines : List Line) (a b : Option (List ℕ)) → Completes p bytes lines q → Appends a b bytes →
    Serves (Completed ∷ []) p a q b
serves_completed p q bytes lines a b completes appends = record {
  bytes = bytes;
  lines = lines;
  goes = (q, bytes, [], lines, [], completes, (refl, refl, refl), sym (append-nil bytes), sym (append-nil lines));
  appends = appends;
}

abbrev pub serves_trimmed : (p q : Point) (lines : List Line) (a : Option (List ℕ)) → MayCut p lines q → Serves (Trimmed ∷ []) p a q a
serves_trimmed p q lines a cuts = record {
  bytes = [];
  lines = lines;
  goes = (q, lines, [], cuts, (refl, refl, refl), sym (append-nil lines));
  appends =
      Appends-nil a;
}

-- the responses were given, and the contexts taken
pub given_all : (c d : Core) (j k : Seen) (a : Progress) (n : ℕ) (t : Tally) → d ≡ without_ended c → k ≡ j → n ≡ last_id a.last (above a.last c.ended) →
    t ≡ tallied a.counts (above a.last c.ended)
    → ◌≡◌ {A = Point} (record { plant = record { core = d; journal = k }; answered = record a { last = n; counts = t } })
    (all_answered (record { plant = record { core = c; journal = j }; answered = a }))
given_all c d j k a n t core journal last counts = rw (core, journal, last, counts) refl

-- the response of the transaction that ended is the only one that is not given

abbrev pub own_list : ℕ → Option Pairs → List (ℕ × Pairs)
own_list n None = []
own_list n (Some x) = (n, x) ∷ []

cons_nil : {A : Type 0} (x : A) (xs : List A) → x ∷ xs ≡ [] → ⊥
cons_nil x xs e = cc

greater : (n k : ℕ) → k < n → nat_cmp n k ≡ Greater
greater n k lt = grind (arith, nat_tests)

above_inserted : (a n : ℕ) (x : Pairs) (es : List (ℕ × Pairs)) → a < n → above a es ≡ [] → above a (insert_entry nat_cmp es n x) ≡ (n, x) ∷ []
above_inserted a n x [] lt none = rw (is_above a n lt) refl
above_inserted a n x (e ∷ es) lt none = by_test (is_lt (nat_cmp a e.0)) refl none (above_inserted a n x es lt) where
  by_test : (b : Bool) → is_lt (nat_cmp a e.0) ≡ b → cond (b && true) (e ∷ above a es) (above a es) ≡ [] →
      (above a es ≡ [] → above a (insert_entry nat_cmp es n x) ≡ (n, x) ∷ [])
      → above a (insert_entry nat_cmp (e ∷ es) n x) ≡ (n, x) ∷ []
  by_test true is nothing ih = absurd (cons_nil e (above a es) nothing)
  by_test false is nothing ih =
      let le : e.0 ≤ a = ge_from_not_lt a e.0 is in
      rw (greater n e.0 (omega (arith, le, lt)), is) (ih nothing)

own_above : (a n : ℕ) (own : Option Pairs) (es : List (ℕ × Pairs)) → a < n → above a es ≡ [] → above a (with_ended n own es) ≡ own_list n own
own_above a n None es lt none = none
own_above a n (Some x) es lt none = above_inserted a n x es lt none

own_responses : (n : ℕ) (own : Option Pairs) → responses (own_list n own) ≡ response_of own
own_responses n None = refl
own_responses n (Some x) = refl

own_last : (a n : ℕ) (own : Option Pairs) → a < n → last_id a (own_list n own) < n + 1
own_last a n None lt = omega (arith, lt)
own_last a n (Some x) lt = omega arith

same_answered : (p q : Point) (own : Option Pairs) → Transacts p own q → q.answered ≡ p.answered
same_answered p q own t = t.acts.answered

pub own_unanswered : (p q : Point) (own : Option Pairs) → IsAtRest p → Transacts p own q → unanswered q ≡ own_list (next_at p) own
own_unanswered p q own rest t =
    ap (λ (g : Progress). above g.last (ended_at q)) t.acts.answered
    ∙ (ap (above p.answered.last) t.ended ∙ own_above p.answered.last (next_at p) own (ended_at p) rest.below rest.given)

pub seated_given : (c : Core) → Seated c → Seated (without_ended c)
seated_given c h = record { engine = h.engine; sessions = h.sessions; places = h.places; seats = h.seats; replies = h.replies; waits = h.waits }

pub rest_given : (p q : Point) (own : Option Pairs) → IsAtRest p → Transacts p own q → Seated q.plant.core → RestsGiven q
rest_given p q own rest t seated = record {
  seated = seated_given q.plant.core seated;
  idle = t.idle;
  written = t.written;
  given = refl;
  below = (let at : last_id q.answered.last (unanswered q) ≡ last_id p.answered.last (own_list (next_at p) own) =
      ap (λ (g : Progress). last_id g.last (unanswered q)) t.acts.answered ∙ ap (last_id p.answered.last) (own_unanswered p q own rest t) in
      let lt = own_last p.answered.last (next_at p) own rest.below in
      let next = t.next in
      omega (arith, at, lt, next));
}

pub gives_own : (p q : Point) (own : Option Pairs) (text : List ℕ) → IsAtRest p → Transacts p own q → AreFramed text (responses (unanswered q)) →
    AreFramed text (response_of own)
gives_own p q own text rest t framed =
    subst (AreFramed text) (ap responses (own_unanswered p q own rest t) ∙ own_responses (next_at p) own) framed

-- ready for the next request

pub ready_again : (x : Pairs) (o : Outcome) (p w q : Point) (bytes : List ℕ) (lines : List Line) → IsReady p → Does (turn.Offer x) o p w →
    Completes w bytes lines q → IsReady q
ready_again x o p w q bytes lines ready does c = record {
  rest = c.rest;
  recovered = at_rest_recovered q c.rest;
  empty = cuts_waits (all_answered c.ended) q lines c.cuts ∙ (c.transacts.queue ∙ offered_one x o p w ready.empty does);
  short = c.cuts.short;
}

-- one completed transaction
pub the_completed : (p q : Point) (a b : Option (List ℕ)) → Serves (Completed ∷ []) p a q b
    → (bytes : List ℕ) × (lines : List Line) × Completes p bytes lines q
the_completed p q a b s = by_goes s.goes where
  by_goes : Goes (Completed ∷ []) p s.bytes s.lines q → (bytes : List ℕ) × (lines : List Line) × Completes p bytes lines q
  by_goes (w, first, later, cut, others, completes, (none, nothing, same), all, these) = (first, cut, subst (Completes p first cut) (sym same) completes)

-- requests

pub answering_append : (xs ys : List Reading) → answering (xs ++ ys) ≡ answering xs ++ answering ys
answering_append [] ys = refl
answering_append (Readable x ∷ xs) ys = ap (λ (l : List Round). Offered x ∷ Completed ∷ l) (answering_append xs ys)
answering_append (Unreadable h ∷ xs) ys = ap (λ (l : List Round). Returned h ∷ l) (answering_append xs ys)

-- what was written to standard error

pub reports_none : (p : Point) (o : Option (List ℕ)) (l : Log) → Reports [] 0 p o l p o l
reports_none p o l = record { serves = serves_none p o; tells = tells_none l }

pub reports_then : (ds bs : List Round) (m n : ℕ) (p q r : Point) (a b c : Option (List ℕ)) (k l o : Log) → Reports ds m p a k q b l →
    Reports bs n q b l r c o → Reports (ds ++ bs) (m + n) p a k r c o
reports_then ds bs m n p q r a b c k l o s t = record {
  serves = serves_then ds bs p q r a b c s.serves t.serves;
  tells = tells_then s.serves.lines t.serves.lines m n k l o s.tells t.tells;
}

pub reports_offer : (x : Pairs) (o : Outcome) (p w q : Point) (ds : List Round) (n : ℕ) (a b : Option (List ℕ)) (k l : Log) → IsReady p →
    Does (turn.Offer x) o p w → Reports ds n w a k q b l → Reports (Offered x ∷ ds) n p a k q b l
reports_offer x o p w q ds n a b k l ready does s = record { serves = serves_offer x o p w q ds a b ready does s.serves; tells = s.tells }

pub reports_release : (o : Outcome) (p q : Point) (a : Option (List ℕ)) (l : Log) → Does turn.Release o p q → Reports (Released ∷ []) 0 p a l q a l
reports_release o p q a l does = record { serves = serves_release o p q a does; tells = tells_none l }

pub reports_passed : (rounds : List Round) (n : ℕ) (p q : Point) (a b : Option (List ℕ)) (k l o : Log) → Tells [] n k l → Reports rounds 0 p a l q b o →
    Reports rounds n p a k q b o
reports_passed rounds n p q a b k l o passed s = record { serves = s.serves; tells = passed_then s.serves.lines n k l o passed s.tells }

-- one after the other, of as many messages that are passed over
pub reports_both : (ds bs : List Round) (m n k : ℕ) (p q r : Point) (a b c : Option (List ℕ)) (x y z : Log) → k ≡ m + n → Reports ds m p a x q b y →
    Reports bs n q b y r c z → Reports (ds ++ bs) k p a x r c z
reports_both ds bs m n k p q r a b c x y z is s t = subst (λ (i : ℕ). Reports (ds ++ bs) i p a x r c z) (sym is) (reports_then ds bs m n p q r a b c x y z s t)

-- the queue and the shelf are emptied, round by round

pub retries_append : (ds bs : List Round) → AllByRecursion IsRetry ds → AllByRecursion IsRetry bs → AllByRecursion IsRetry (ds ++ bs)
retries_append [] bs h k = k
retries_append (a ∷ ds) bs h k = (h.0, retries_append ds bs h.1 k)

pub record Empties (p : Point) (before : Option (List ℕ)) (a : Log) (q : Point) (after : Option (List ℕ)) (b : Log) : Type 0 where
  pub rounds : List Round
  pub retries : AllByRecursion IsRetry rounds
  pub reports : Reports rounds 0 p before a q after b
  pub rest : IsAtRest q

pub empties_none : (p : Point) (a : Option (List ℕ)) (l : Log) → IsAtRest p → Empties p a l p a l
empties_none p a l rest = record { rounds = []; retries = tt; reports = reports_none p a l; rest = rest }

pub empties_then : (p q r : Point) (a b c : Option (List ℕ)) (k l o : Log) (rounds : List Round) → Empties p a k q b l → AllByRecursion IsRetry rounds →
    Reports rounds 0 q b l r c o → IsAtRest r → Empties p a k r c o
empties_then p q r a b c k l o rounds e retries reports rest = record {
  rounds = e.rounds ++ rounds;
  retries = retries_append e.rounds rounds e.retries retries;
  reports = reports_both e.rounds rounds 0 0 0 p q r a b c k l o refl e.reports reports;
  rest = rest;
}

pub drained : (p q : Point) (a b : Option (List ℕ)) (k l : Log) → Empties p a k q b l → IsEmptied (world_at q) → DrainsAll p a k q b l
drained p q a b k l e emptied = record {
  drains = record { rounds = e.rounds; retries = e.retries; serves = e.reports.serves; rest = e.rest; emptied = emptied };
  tells = e.reports.tells;
}

-- what follows of an Ok

pub on_ok : {T E : Type 0} {P Q : Type 0} (r : Result T E) → (P → Q) → OnOk r P → OnOk r Q
on_ok (Ok x) f h = f h
on_ok (Err e) f h = tt

pub on_both : {T E : Type 0} {P Q R : Type 0} (r : Result T E) → (P → Q → R) → OnOk r P → OnOk r Q → OnOk r R
on_both (Ok x) f h k = f h k
on_both (Err e) f h k = tt

pub on_three : {T E : Type 0} {P Q R S : Type 0} (r : Result T E) → (P → Q → R → S) → OnOk r P → OnOk r Q → OnOk r R → OnOk r S
on_three (Ok x) f h k l = f h k l
on_three (Err e) f h k l = tt

pub if_ok : {T E : Type 0} {P Q : T → Type 0} (r : Result T E) → ((x : T) → P x → Q x) → IfOk r P → IfOk r Q
if_ok (Ok x) f h = f x h
if_ok (Err e) f h = tt

-- what a `?` returns is no Ok
pub if_ok_err : {T E : Type 0} (Q : E → Type 0) (P : T → Type 0) (r : Result T E) → IsErrAnd r Q → IfOk r P
if_ok_err Q P r h = let p = err_from_is_err_and r h in rw p.1 tt

pub if_some : {T : Type 0} (P : T → Type 0) (o : Option T) (x : T) → o ≡ Some x → IfSome o P → P x
if_some P o x is h = subst (λ (z : Option _). IfSome z P) is h

pub some_ok : {T : Type 0} (P : T → Type 0) (o : Option T) (x : T) → o ≡ Some x → P x → IfSome o P
some_ok P o x is h = subst (λ (z : Option _). IfSome z P) (sym is) h

pub on_if : {T E : Type 0} {P : T → Type 0} {Q : Type 0} (r : Result T E) → ((x : T) → P x → Q) → IfOk r P → OnOk r Q
on_if (Ok x) f h = f x h
on_if (Err e) f h = tt

pub completed : (own : Option Pairs) (text : List ℕ) (p q r s : Point) (a b : Option (List ℕ)) (k l : Log) → IsAtRest p → Transacts p own q →
    AreFramed text (responses (unanswered q)) → r ≡ all_answered q → Cuts r k s l → IsAtRest s → Appends a b text → Reports (Completed ∷ []) 0 p a k s b l
completed own text p q r s a b k l rest transacts framed same c then appends = record {
  serves = serves_completed p s text c.lines a b (record {
    own = own;
    ended = q;
    transacts = transacts;
    gives = gives_own p q own text rest transacts framed;
    cuts = subst (λ (z : Point). MayCut z c.lines s) same c.cuts;
    rest = then;
  }) appends;
  tells = c.tells;
}

pub offer_same : (x y : Pairs) (o : Outcome) (p q : Point) → x ≡ y → Does (turn.Offer x) o p q → Does (turn.Offer y) o p q
offer_same x y o p q same does = subst (λ (z : Pairs). Does (turn.Offer z) o p q) same does

pub if_none : {T : Type 0} (P : Type 0) (o : Option T) → o ≡ None → IfNone o P → P
if_none P o is h = subst (λ (z : Option _). IfNone z P) is h

pub on_ok_err : {T E : Type 0} (Q : E → Type 0) (P : Type 0) (r : Result T E) → IsErrAnd r Q → OnOk r P
on_ok_err Q P r h = let p = err_from_is_err_and r h in rw p.1 tt

pub some_none : {T : Type 0} (P : T → Type 0) (o : Option T) → o ≡ None → IfSome o P
some_none P o is = subst (λ (z : Option _). IfSome z P) (sym is) tt

pub none_some : {T : Type 0} (P : Type 0) (o : Option T) (x : T) → o ≡ Some x → IfNone o P
none_some P o x is = subst (λ (z : Option _). IfNone z P) (sym is) tt

pub none_none : {T : Type 0} (P : Type 0) (o : Option T) → o ≡ None → P → IfNone o P
none_none P o is h = subst (λ (z : Option _). IfNone z P) (sym is) h

-- before it nothing that is reported was changed
pub reports_from : (rounds : List Round) (k : ℕ) (p q : Point) (a b : Option (List ℕ)) (x y z : Log) → y ≡ x → Reports rounds k p a y q b z →
    Reports rounds k p a x q b z
reports_from rounds k p q a b x y z same r = subst (λ (l : Log). Reports rounds k p a l q b z) same r

pub live_from : (x y : Log) (w : World) → y ≡ x → IsLive y w → IsLive x w
live_from x y w same live = subst (λ (l : Log). IsLive l w) same live
