-- What one call makes of a request: it leaves the decision open, refuses it, or approves it.
-- for: laws::approvals_are_said
use Rattle.std.proofs.Common.{◌≡◌, ◌⊎◌, inl, inr, ◌∙◌, ◌∷◌, [], ◌&&◌, not, ℕ, ◌+◌, ◌<◌, ◌≤◌, Bool, true, false, List, length, Option, Some, None, is_some, is_none, option_and_then, ap, arith, codes, refl}
use Rattle.std.proofs.Common.{subst, sym, true≢false, if◌then◌else◌}
use Rattle.std.specs.Str.{bytes_eq}
use Rattle.iso_msg.specs.Messages.{PlainMessage, value_at}
use Rattle.sw_book.specs.Items.{PlainBook, refusal}
use Rattle.sw_book.specs.declared.error.BookError.{BookError}
use Rattle.sw_book.specs.declared.error.BookError.TheVariants as book
use Rattle.sw_book.specs.declared.item.Item.{Item}
use Rattle.sw_base.specs.Digits.{number_of}
use Rattle.sw_context.specs.Pairs.{Pairs, find}
use Rattle.sw_messages.specs.Faults.{fault_of, fault_of_class, has_all, has_short_card, is_zero, needed_fields}
use Rattle.sw_messages.specs.Requests.{class_in, class_of, digits_of, noted, request_in}
use Rattle.sw_messages.specs.Responses.{is_response, response_to}
use Rattle.sw_messages.specs.declared.class.Class.{Class}
use Rattle.sw_messages.specs.declared.class.Class.TheVariants.{Authorization, NetworkManagement, Reversal}
use Rattle.sw_messages.specs.declared.response_code.ResponseCode.{ResponseCode}
use Rattle.sw_messages.specs.declared.response_code.ResponseCode.TheVariants as rc
use Rattle.sw_base.specs.Refusals.{first_of, refused_if}
use Rattle.sw_mux.specs.Keys.{key}
use Rattle.sw_participant.specs.Answers.{is_prepared}
use Rattle.iso_codec.specs.Spelling.{spelling}
use Rattle.sw_parts.specs.Asking.{asked, code_for}
use Rattle.sw_parts.specs.Checks.{Decided}
use Rattle.sw_parts.specs.Holding.{HeldBy, HoldsAsked, HoldsBy, HoldsByClass}
use Rattle.sw_parts.specs.Queries.{AsksByKey, Ends, Hears, QueriesBy, QueriesByClass, Receiving, Sending, Starving, Unanswered}
use Rattle.sw_parts.specs.Queries.{answered, approves, asking, bytes_in, noted_if, or_code}
use Rattle.sw_parts.specs.Quiet.{leaves_notes, refuses}
use Rattle.sw_parts.specs.Responses.{responded_by}
use Rattle.sw_parts.specs.Routes.{route_fault, route_fault_class, route_of, unroutable}
use Rattle.sw_parts.specs.StandIns.{Judged, StandsInBy, StandsInWhere, StandsInWith, is_open, is_small}
use Rattle.sw_parts.specs.declared.route.Routing.{Routing}
use Rattle.sw_timed.specs.Timing.{MayNote}
use Rattle.sw_approvals.proofs.Notes.{IsZero, late_noted, noted_longer, noted_other, noted_same, other_code, some_same, without_other}
use Rattle.sw_approvals.specs.Parts.{Approves, Check, Forward, HostApproves, Limits, Part, Prepares, Query, Respond, Reverse, Route, StandIn}

-- the answer of the issuer is late
abbrev pub is_late : Pairs → Bool
is_late x = is_some (find (codes "late") x)

-- nothing is decided: the request and the code are as before, and what is late stays so
pub record IsQuiet (x y : Pairs) : Type 0 where
  pub code : find (codes "rc") y ≡ find (codes "rc") x
  pub request : find (codes "request") y ≡ find (codes "request") x
  pub late : is_late x ≡ true → is_late y ≡ true

-- the request is refused
pub record IsRefusal (x : Pairs) (byte : ℕ) (y : Pairs) : Type 0 where
  pub refused : is_prepared byte ≡ false
  pub code : IsZero y → IsZero x

same_quiet : (x y : Pairs) → y ≡ x → IsQuiet x y
same_quiet x y h = record {
  code = ap (find (codes "rc")) h;
  request = ap (find (codes "request")) h;
  late = λ late. ap is_late h ∙ late;
}

pub quiet_twice : (x y z : Pairs) → IsQuiet x y → IsQuiet y z → IsQuiet x z
quiet_twice x y z one two = record {
  code = two.code ∙ one.code;
  request = two.request ∙ one.request;
  late = λ is. two.late (one.late is);
}

refusing : (x : Pairs) (byte : ℕ) (y : Pairs) (value : List ℕ) → bytes_eq value (codes "00") ≡ false → byte ≡ refuses → y ≡ noted x (codes "rc") value
    → IsRefusal x byte y
refusing x byte y value other is h = record {
  refused = ap is_prepared is;
  code = λ zero. other_code x value other (subst IsZero h zero);
}

-- a note of other names than these
other_note : (x y : Pairs) (name value : List ℕ) → y ≡ noted x name value → bytes_eq (codes "rc") name ≡ false → bytes_eq (codes "request") name ≡ false
    → bytes_eq (codes "late") name ≡ false → IsQuiet x y
other_note x y name value h rc request late = record {
  code = ap (find (codes "rc")) h ∙ noted_other x (codes "rc") name value rc;
  request = ap (find (codes "request")) h ∙ noted_other x (codes "request") name value request;
  late = λ is. ap is_late h ∙ ap is_some (noted_other x (codes "late") name value late) ∙ is;
}

-- ---- check

-- a fault is no approval
abbrev pub IsFault : Option ResponseCode → Type 0
IsFault o = (code : ResponseCode) → o ≡ Some code → bytes_eq (digits_of code) (codes "00") ≡ false

one_fault : (code : ResponseCode) → bytes_eq (digits_of code) (codes "00") ≡ false → IsFault (Some code)
one_fault code other code' h = subst (λ (c : ResponseCode). bytes_eq (digits_of c) (codes "00") ≡ false) (some_same h) other

no_fault : IsFault None
no_fault code h = absurd (cc)

first_fault : (a b c : Bool) → IsFault (first_of (refused_if a rc.FormatError ∷ refused_if b rc.InvalidCard ∷ refused_if c rc.InvalidAmount ∷ []))
first_fault true b c = one_fault rc.FormatError refl
first_fault false true c = one_fault rc.InvalidCard refl
first_fault false false true = one_fault rc.InvalidAmount refl
first_fault false false false = no_fault

fault_by_class : (class : Option Class) (m : PlainMessage) → IsFault (fault_of_class class m)
fault_by_class None m = one_fault rc.InvalidTransaction refl
fault_by_class (Some class) m = first_fault (not (has_all (needed_fields class) m)) (has_short_card class m) (is_zero (value_at 4 m.fields))

fault_by : (o : Option PlainMessage) → IsFault (fault_of o)
fault_by None = one_fault rc.FormatError refl
fault_by (Some m) = fault_by_class (class_of m.mti) m

decided : (o : Option ResponseCode) (x : Pairs) (byte : ℕ) (y : Pairs) → IsFault o → Decided o x byte y → IsQuiet x y ⊎ IsRefusal x byte y
decided None x byte y fault h = inl (same_quiet x y h.1)
decided (Some code) x byte y fault h = inr (refusing x byte y (digits_of code) (fault code refl) h.0 h.1)

-- a request that is checked and not refused has no fault
pub checked : (o : Option ResponseCode) (x : Pairs) (byte : ℕ) (y : Pairs) → Decided o x byte y → is_prepared byte ≡ true → o ≡ None
checked None x byte y h prepared = refl
checked (Some code) x byte y h prepared = absurd (true≢false (sym prepared ∙ ap is_prepared h.0))

-- ---- route

route_by_class : (class : Option Class) (m : PlainMessage) (rs : List Routing) → IsFault (route_fault_class class m rs)
route_by_class None m rs = no_fault
route_by_class (Some Authorization) m rs = by (route_of m rs)
  where
    by : (o : Option Routing) → IsFault (unroutable o)
    by None = one_fault rc.IssuerInoperative refl
    by (Some r) = no_fault
route_by_class (Some Reversal) m rs = no_fault
route_by_class (Some NetworkManagement) m rs = no_fault

route_by : (o : Option PlainMessage) (rs : List Routing) → IsFault (route_fault o rs)
route_by None rs = no_fault
route_by (Some m) rs = route_by_class (class_of m.mti) m rs

-- ---- limits

book_code : (e : BookError) → bytes_eq (digits_of (code_for e)) (codes "00") ≡ false
book_code book.OutOfMemory = refl
book_code book.OverLimit = refl
book_code book.AmountTooLarge = refl
book_code book.Duplicate = refl
book_code book.BadLimit = refl

held : (o : Option BookError) (id : ℕ) (item : Item) (b : PlainBook) (x : Pairs) (byte : ℕ) (after : PlainBook) (y : Pairs)
    → HeldBy o id item b x byte after y → IsQuiet x y ⊎ IsRefusal x byte y
held None id item b x byte after y h = inl (same_quiet x y h.2)
held (Some e) id item b x byte after y h = inr (refusing x byte y (digits_of (code_for e)) (book_code e) h.0 h.2)

holds_asked : (o : Option Item) (id : ℕ) (b : PlainBook) (x : Pairs) (byte : ℕ) (after : PlainBook) (y : Pairs)
    → HoldsAsked o id b x byte after y → IsQuiet x y ⊎ IsRefusal x byte y
holds_asked None id b x byte after y h = inl (same_quiet x y h.2)
holds_asked (Some item) id b x byte after y h = held (refusal b id item.card item.key item.amount) id item b x byte after y h

holds_by_class : (class : Option Class) (m : PlainMessage) (id : ℕ) (b : PlainBook) (x : Pairs) (byte : ℕ) (after : PlainBook) (y : Pairs)
    → HoldsByClass class m id b x byte after y → IsQuiet x y ⊎ IsRefusal x byte y
holds_by_class None m id b x byte after y h = inl (same_quiet x y h.2)
holds_by_class (Some Authorization) m id b x byte after y h = holds_asked (asked m) id b x byte after y h
holds_by_class (Some Reversal) m id b x byte after y h = inl (same_quiet x y h.2)
holds_by_class (Some NetworkManagement) m id b x byte after y h = inl (same_quiet x y h.2)

holds : (o : Option PlainMessage) (id : ℕ) (b : PlainBook) (x : Pairs) (byte : ℕ) (after : PlainBook) (y : Pairs)
    → HoldsBy o id b x byte after y → IsQuiet x y ⊎ IsRefusal x byte y
holds None id b x byte after y h = inl (same_quiet x y h.2)
holds (Some m) id b x byte after y h = holds_by_class (class_of m.mti) m id b x byte after y h

-- ---- respond

pub responds : (default : ResponseCode) (o : Option PlainMessage) (x y : Pairs) → y ≡ responded_by default o x → IsQuiet x y
responds default None x y h = same_quiet x y h
responds default (Some m) x y h = by (is_response m.mti) h
  where
    by : (b : Bool) → y ≡ (if b then x else noted x (codes "response") (spelling (response_to m default x))) → IsQuiet x y
    by true h = same_quiet x y h
    by false h = other_note x y (codes "response") (spelling (response_to m default x)) h refl refl refl

-- ---- standin

judged : (most : ℕ) (b : Bool) (stan : List ℕ) (x : Pairs) (byte : ℕ) (y : Pairs) → is_open x ≡ true → Judged b stan x byte y
    → IsRefusal x byte y ⊎ ((is_open x ≡ true) × (byte ≡ leaves_notes))
judged most true stan x byte y is h = inr (is, h.0)
judged most false stan x byte y is h = inl (refusing x byte y (codes "91") refl h.0 h.1)

-- a stand-in that is asked about an open request decides, if the request has its fields
pub stands_in : (most : ℕ) (amount stan : Option (List ℕ)) (x : Pairs) (byte : ℕ) (y : Pairs) → is_open x ≡ true → StandsInWith most amount stan x byte y
    → (IsQuiet x y × (is_some amount && is_some stan ≡ false)) ⊎ (IsRefusal x byte y ⊎ ((is_open x ≡ true) × (byte ≡ leaves_notes)))
stands_in most (Some amount) (Some stan) x byte y is h = inr (judged most (is_small most (number_of amount)) stan x byte y is h)
stands_in most (Some amount) None x byte y is h = inl (same_quiet x y h.1, refl)
stands_in most None (Some stan) x byte y is h = inl (same_quiet x y h.1, refl)
stands_in most None None x byte y is h = inl (same_quiet x y h.1, refl)

stands : (most : ℕ) (o : Option PlainMessage) (x : Pairs) (byte : ℕ) (y : Pairs) → is_open x ≡ true → StandsInBy most o x byte y
    → IsQuiet x y ⊎ (IsRefusal x byte y ⊎ ((is_open x ≡ true) × (byte ≡ leaves_notes)))
stands most None x byte y is h = inl (same_quiet x y h.1)
stands most (Some m) x byte y is h = quiet_only (stands_in most (value_at 4 m.fields) (value_at 11 m.fields) x byte y is h)
  where
    quiet_only : {A B C : Type 0} → (A × B) ⊎ C → A ⊎ C
    quiet_only (inl both) = inl both.0
    quiet_only (inr c) = inr c

stands_where : (most : ℕ) (b : Bool) (x : Pairs) (byte : ℕ) (y : Pairs) → is_open x ≡ b → StandsInWhere b most x byte y
    → IsQuiet x y ⊎ (IsRefusal x byte y ⊎ ((is_open x ≡ true) × (byte ≡ leaves_notes)))
stands_where most true x byte y is h = stands most (request_in x) x byte y is h
stands_where most false x byte y is h = inl (same_quiet x y h.1)

-- ---- query

asking_other : (x : Pairs) (other : List ℕ) → bytes_eq other (codes "sent") ≡ false → bytes_eq other (codes "late") ≡ false
    → find other (asking x) ≡ find other x
asking_other x other sent late =
    noted_other (noted x (codes "sent") (codes "1")) other (codes "late") (codes "1") late ∙ noted_other x other (codes "sent") (codes "1") sent

asked_late : (x : Pairs) → is_late x ≡ true → is_late (asking x) ≡ true
asked_late x late = by (noted_same (noted x (codes "sent") (codes "1")) (codes "late") (codes "1"))
  where
    by : (find (codes "late") (asking x) ≡ Some (codes "1")) ⊎ (find (codes "late") (asking x) ≡ find (codes "late") (noted x (codes "sent") (codes "1")))
        → is_late (asking x) ≡ true
    by (inl is) = ap is_some is
    by (inr is) = ap is_some (is ∙ noted_other x (codes "late") (codes "sent") (codes "1") refl) ∙ late

asking_quiet : (x y : Pairs) → y ≡ asking x → IsQuiet x y
asking_quiet x y h = record {
  code = ap (find (codes "rc")) h ∙ asking_other x (codes "rc") refl refl;
  request = ap (find (codes "request")) h ∙ asking_other x (codes "request") refl refl;
  late = λ late. ap is_late h ∙ asked_late x late;
}

unanswered : (b : Bool) (x : Pairs) (byte : ℕ) (y : Pairs) → Unanswered b (asking x) byte y → IsQuiet x y ⊎ IsRefusal x byte y
unanswered true x byte y h = inl (asking_quiet x y h.1)
unanswered false x byte y h =
    let refusal : IsRefusal (asking x) byte y = refusing (asking x) byte y (codes "91") refl h.0 h.1 in
    inr (record { refused = refusal.refused; code = λ zero. sym (asking_other x (codes "rc") refl refl) ∙ refusal.code zero })

noted_if_rc : (o : Option (List ℕ)) (x : Pairs) → find (codes "rc") (noted_if o (codes "auth") x) ≡ find (codes "rc") x
noted_if_rc None x = refl
noted_if_rc (Some v) x = noted_other x (codes "rc") (codes "auth") v refl

answered_rc : (m : PlainMessage) (x : Pairs) → find (codes "rc") (answered m x) ≡ find (codes "rc") (noted x (codes "rc") (or_code (value_at 39 m.fields)))
answered_rc m x =
    without_other (noted_if (value_at 38 m.fields) (codes "auth") (noted x (codes "rc") (or_code (value_at 39 m.fields)))) (codes "rc") (codes "late") refl
    ∙ noted_if_rc (value_at 38 m.fields) (noted x (codes "rc") (or_code (value_at 39 m.fields)))

declined : (m : PlainMessage) (x : Pairs) (byte : ℕ) (y : Pairs) → approves m ≡ false → byte ≡ refuses → y ≡ answered m (asking x) → IsRefusal x byte y
declined m x byte y other is h = record {
  refused = ap is_prepared is;
  code = λ zero.
      sym (asking_other x (codes "rc") refl refl)
      ∙ other_code (asking x) (or_code (value_at 39 m.fields)) other (sym (answered_rc m (asking x)) ∙ subst IsZero h zero);
}

-- a time that may be noted after that changes nothing of it

noted_time : (z y : Pairs) → MayNote z y → IsQuiet z y
noted_time z y (inl same) = same_quiet z y same
noted_time z y (inr (number, is)) = other_note z y (codes "ms") number is refl refl refl

timed : {C : Type 0} (x z : Pairs) (byte : ℕ) (y : Pairs) → IsQuiet z y → IsQuiet x z ⊎ (IsRefusal x byte z ⊎ C) → IsQuiet x y ⊎ (IsRefusal x byte y ⊎ C)
timed x z byte y later (inl quiet) = inl (quiet_twice x z y quiet later)
timed x z byte y later (inr (inl refusal)) = inr (inl (record { refused = refusal.refused; code = λ zero. refusal.code (sym later.code ∙ zero) }))
timed x z byte y later (inr (inr approves)) = inr (inr approves)

module _ (sends : Sending) (receives : Receiving) (starves : Starving) (refused : Type 0) where
  ends : (b : Bool) (r : Option PlainMessage) (k s u t : List ℕ) (x : Pairs) (byte : ℕ) (y : Pairs) → sends s (bytes_in (find (codes "request") x)) u
      → Hears receives starves refused 8 k u r t → Ends b refused r (asking x) byte y
      → (IsQuiet x y ⊎ IsRefusal x byte y) × Unanswered b (asking x) byte y ⊎ (IsRefusal x byte y ⊎ HostApproves sends receives starves refused x)
  ends b None k s u t x byte y sent heard h = inl (unanswered b x byte y h, h)
  ends b (Some m) k s u t x byte y sent heard (inr h) = inl (unanswered b x byte y h.1, h.1)
  ends b (Some m) k s u t x byte y sent heard (inl h) = by (approves m) refl
    where
      by : (a : Bool) → approves m ≡ a
          → (IsQuiet x y ⊎ IsRefusal x byte y) × Unanswered b (asking x) byte y ⊎ (IsRefusal x byte y ⊎ HostApproves sends receives starves refused x)
      by true is = inr (inr (k, s, u, t, m, sent, heard, is))
      by false is = inr (inl (declined m x byte y is (h.0 ∙ ap (λ (c : Bool). if c then leaves_notes else refuses) is) h.1))

  -- what a query makes of a request of a class, and of one that it can ask about
  asked_by_key : (b : Bool) (o : Option (List ℕ)) (s t : List ℕ) (x : Pairs) (byte : ℕ) (y : Pairs)
      → AsksByKey sends receives starves refused b o (bytes_in (find (codes "request") x)) s x byte t y
      → (IsQuiet x y ⊎ IsRefusal x byte y) × Unanswered b (asking x) byte y ⊎ (IsRefusal x byte y ⊎ HostApproves sends receives starves refused x)
  asked_by_key b None s t x byte y h = inr (inl (refusing x byte y (codes "96") refl h.0 h.2))
  asked_by_key b (Some k) s t x byte y h = ends b h.1 k s h.0 t x byte y h.2 h.3 h.4

  -- what is left of an outcome whose call was not answered
  weaker : (b : Bool) (x : Pairs) (byte : ℕ) (y : Pairs)
      → (IsQuiet x y ⊎ IsRefusal x byte y) × Unanswered b (asking x) byte y ⊎ (IsRefusal x byte y ⊎ HostApproves sends receives starves refused x)
      → IsQuiet x y ⊎ (IsRefusal x byte y ⊎ HostApproves sends receives starves refused x)
  weaker b x byte y (inl (inl quiet, h)) = inl quiet
  weaker b x byte y (inl (inr refusal, h)) = inr (inl refusal)
  weaker b x byte y (inr later) = inr later

  queried_by_class : (b : Bool) (class : Option Class) (m : PlainMessage) (s t : List ℕ) (x : Pairs) (byte : ℕ) (y : Pairs)
      → QueriesByClass sends receives starves refused b class m (bytes_in (find (codes "request") x)) s x byte t y
      → IsQuiet x y ⊎ (IsRefusal x byte y ⊎ HostApproves sends receives starves refused x)
  queried_by_class b None m s t x byte y h = inl (same_quiet x y h.2)
  queried_by_class b (Some Authorization) m s t x byte y h = weaker b x byte y (asked_by_key b (key m) s t x byte y h)
  queried_by_class b (Some Reversal) m s t x byte y h = inl (same_quiet x y h.2)
  queried_by_class b (Some NetworkManagement) m s t x byte y h = inl (same_quiet x y h.2)

  queried : (b : Bool) (o : Option PlainMessage) (s t : List ℕ) (x : Pairs) (byte : ℕ) (y : Pairs)
      → QueriesBy sends receives starves refused b o (bytes_in (find (codes "request") x)) s x byte t y
      → IsQuiet x y ⊎ (IsRefusal x byte y ⊎ HostApproves sends receives starves refused x)
  queried b None s t x byte y h = inl (same_quiet x y h.2)
  queried b (Some m) s t x byte y h = queried_by_class b (class_of m.mti) m s t x byte y h

  abbrev pub Outcome : Part → Pairs → ℕ → Pairs → Type 0
  Outcome p x byte y = IsQuiet x y ⊎ (IsRefusal x byte y ⊎ Approves sends receives starves refused p x byte)

  no_approval : {A B C : Type 0} → A ⊎ B → A ⊎ (B ⊎ C)
  no_approval (inl a) = inl a
  no_approval (inr b) = inr (inl b)

  pub outcome : (p : Part) (x : Pairs) (byte : ℕ) (y : Pairs) → Prepares sends receives starves refused p x byte y → Outcome p x byte y
  outcome Check x byte y h = no_approval (decided (fault_of (request_in x)) x byte y (fault_by (request_in x)) h)
  outcome Limits x byte y h = no_approval (holds (request_in x) h.0 h.1 x byte h.2 y h.3)
  outcome Route x byte y h = no_approval (decided (route_fault (request_in x) h.0) x byte y (route_by (request_in x) h.0) h.1)
  outcome Reverse x byte y h = inl (same_quiet x y h.1)
  outcome (Query b) x byte y h = timed x h.0 byte y (noted_time h.0 y h.4) (queried b (request_in x) h.1 h.2 x byte h.0 h.3)
  outcome StandIn x byte y h = stands_where h.0 (is_open x) x byte y refl h.1
  outcome Forward x byte y h = inl (same_quiet x y h.1)
  outcome Respond x byte y h = inl (responds rc.Approved (request_in x) x y h.1)

  -- an authorization that a query lets pass without an approval is late, and a stand-in is to decide
  abbrev pub IsWaiting : Bool → Pairs → Type 0
  IsWaiting b y = (b ≡ true) × (is_late y ≡ true)

  waiting : (b : Bool) (x : Pairs) (byte : ℕ) (y : Pairs) → length x < 60 → is_prepared byte ≡ true
      → (IsQuiet x y ⊎ IsRefusal x byte y) × Unanswered b (asking x) byte y ⊎ (IsRefusal x byte y ⊎ HostApproves sends receives starves refused x)
      → HostApproves sends receives starves refused x ⊎ IsWaiting b y
  waiting true x byte y room prepared (inl h) =
      let sent : length (noted x (codes "sent") (codes "1")) ≤ length x + 1 = noted_longer x (codes "sent") (codes "1") in
      inr (refl, ap is_late h.1.1 ∙ ap is_some (late_noted (noted x (codes "sent") (codes "1")) (omega (arith, sent, room))))
  waiting false x byte y room prepared (inl h) = absurd (true≢false (sym prepared ∙ ap is_prepared h.1.0))
  waiting b x byte y room prepared (inr (inl refusal)) = absurd (true≢false (sym prepared ∙ refusal.refused))
  waiting b x byte y room prepared (inr (inr approves)) = inl approves

  waiting_by_class : (b : Bool) (class : Option Class) (m : PlainMessage) (s t : List ℕ) (x : Pairs) (byte : ℕ) (y : Pairs) → length x < 60
      → is_prepared byte ≡ true → class ≡ Some Authorization
      → QueriesByClass sends receives starves refused b class m (bytes_in (find (codes "request") x)) s x byte t y
      → HostApproves sends receives starves refused x ⊎ IsWaiting b y
  waiting_by_class b None m s t x byte y room prepared is h = absurd (cc)
  waiting_by_class b (Some Authorization) m s t x byte y room prepared is h = waiting b x byte y room prepared (asked_by_key b (key m) s t x byte y h)
  waiting_by_class b (Some Reversal) m s t x byte y room prepared is h = absurd (cc)
  waiting_by_class b (Some NetworkManagement) m s t x byte y room prepared is h = absurd (cc)

  waiting_by : (b : Bool) (o : Option PlainMessage) (s t : List ℕ) (x : Pairs) (byte : ℕ) (y : Pairs) → length x < 60
      → is_prepared byte ≡ true → option_and_then (λ m. class_of m.mti) o ≡ Some Authorization
      → QueriesBy sends receives starves refused b o (bytes_in (find (codes "request") x)) s x byte t y
      → HostApproves sends receives starves refused x ⊎ IsWaiting b y
  waiting_by b None s t x byte y room prepared is h = absurd (cc)
  waiting_by b (Some m) s t x byte y room prepared is h = waiting_by_class b (class_of m.mti) m s t x byte y room prepared is h

  still_waits : {C : Type 0} (b : Bool) (z y : Pairs) → IsQuiet z y → C ⊎ IsWaiting b z → C ⊎ IsWaiting b y
  still_waits b z y later (inl approves) = inl approves
  still_waits b z y later (inr waiting) = inr (waiting.0, later.late waiting.1)

  pub waits : (b : Bool) (x : Pairs) (byte : ℕ) (y : Pairs) → length x < 60 → is_prepared byte ≡ true → class_in x ≡ Some Authorization
      → Prepares sends receives starves refused (Query b) x byte y → HostApproves sends receives starves refused x ⊎ IsWaiting b y
  waits b x byte y room prepared is h =
      still_waits b h.0 y (noted_time h.0 y h.4) (waiting_by b (request_in x) h.1 h.2 x byte h.0 room prepared is h.3)

  -- a stand-in decides about a request that is late and open, and has its fields
  pub decides : (m : PlainMessage) (x : Pairs) (byte : ℕ) (y : Pairs) → request_in x ≡ Some m
      → is_some (value_at 4 m.fields) && is_some (value_at 11 m.fields) ≡ true → is_late x ≡ true → find (codes "rc") x ≡ None
      → is_prepared byte ≡ true → Prepares sends receives starves refused StandIn x byte y
      → Approves sends receives starves refused StandIn x byte
  decides m x byte y is fields late undecided prepared h =
      let opens : is_open x ≡ true = ap (λ (r : Option (List ℕ)). is_late x && is_none r) undecided ∙ ap (λ (b : Bool). b && true) late in
      let stands : StandsInBy h.0 (request_in x) x byte y = subst (λ (b : Bool). StandsInWhere b h.0 x byte y) opens h.1 in
      let judges : StandsInBy h.0 (Some m) x byte y = subst (λ (o : Option PlainMessage). StandsInBy h.0 o x byte y) is stands in
      by (stands_in h.0 (value_at 4 m.fields) (value_at 11 m.fields) x byte y opens judges)
    where
      by : (IsQuiet x y × (is_some (value_at 4 m.fields) && is_some (value_at 11 m.fields) ≡ false)) ⊎ (IsRefusal x byte y ⊎ ((is_open x ≡ true) × (byte ≡ leaves_notes)))
          → (is_open x ≡ true) × (byte ≡ leaves_notes)
      by (inl lacks) = absurd (true≢false (sym fields ∙ lacks.1))
      by (inr (inl refusal)) = absurd (true≢false (sym prepared ∙ refusal.refused))
      by (inr (inr approves)) = approves

-- a checked authorization has its amount and its STAN
and_left : (a b : Bool) → (a && b) ≡ true → a ≡ true
and_left true b h = refl
and_left false b h = absurd (cc)

and_right : (a b : Bool) → (a && b) ≡ true → b ≡ true
and_right true b h = h
and_right false b h = absurd (cc)

has_needed : (b c d : Bool) → first_of (refused_if (not b) rc.FormatError ∷ refused_if c rc.InvalidCard ∷ refused_if d rc.InvalidAmount ∷ []) ≡ None → b ≡ true
has_needed true c d h = refl
has_needed false c d h = absurd (cc)

both_fields : (a b c d e f : Bool) → (a && (b && (c && (d && (e && (f && true)))))) ≡ true → (c && e) ≡ true
both_fields true true true true true f h = refl
both_fields false b c d e f h = absurd (cc)
both_fields true false c d e f h = absurd (cc)
both_fields true true false d e f h = absurd (cc)
both_fields true true true false e f h = absurd (cc)
both_fields true true true true false f h = absurd (cc)

fields_by : (class : Option Class) (m : PlainMessage) → class ≡ Some Authorization → fault_of_class class m ≡ None
    → is_some (value_at 4 m.fields) && is_some (value_at 11 m.fields) ≡ true
fields_by None m is h = absurd (cc)
fields_by (Some Authorization) m is h =
    both_fields (is_some (value_at 2 m.fields)) (is_some (value_at 3 m.fields)) (is_some (value_at 4 m.fields)) (is_some (value_at 7 m.fields))
    (is_some (value_at 11 m.fields)) (is_some (value_at 41 m.fields))
    (has_needed (has_all (needed_fields Authorization) m) (has_short_card Authorization m) (is_zero (value_at 4 m.fields)) h)
fields_by (Some Reversal) m is h = absurd (cc)
fields_by (Some NetworkManagement) m is h = absurd (cc)

-- the message of an authorization without a fault, with its fields
abbrev pub HasFields : Option PlainMessage → Type 0
HasFields o = (m : PlainMessage) × (o ≡ Some m) × (is_some (value_at 4 m.fields) && is_some (value_at 11 m.fields) ≡ true)

pub has_fields : (o : Option PlainMessage) → option_and_then (λ m. class_of m.mti) o ≡ Some Authorization → fault_of o ≡ None → HasFields o
has_fields None is h = absurd (cc)
has_fields (Some m) is h = (m, refl, fields_by (class_of m.mti) m is h)
