-- What the calls of a way make of a request together.
-- for: laws::approvals_are_said
use Rattle.std.proofs.Common.{◌≡◌, ◌⊎◌, inl, inr, ◌∙◌, ◌∷◌, ◌++◌, [], ◌<◌, ℕ, Bool, true, false, not, List, length, Some, None, is_some, ◌&&◌, option_and_then, ap, codes, refl}
use Rattle.std.proofs.Common.{subst, sym, true≢false, if◌then◌else◌}
use Rattle.iso_msg.specs.Messages.{PlainMessage, value_at}
use Rattle.sw_context.specs.Pairs.{Pairs, find}
use Rattle.sw_messages.specs.Faults.{fault_of}
use Rattle.sw_messages.specs.Requests.{class_in, class_of, message_of, request_in}
use Rattle.sw_messages.specs.declared.class.Class.TheVariants.{Authorization}
use Rattle.sw_messages.specs.declared.response_code.ResponseCode.TheVariants.{SystemMalfunction}
use Rattle.sw_participant.specs.Answers.{is_prepared}
use Rattle.sw_parts.specs.Queries.{Receiving, Sending, Starving}
use Rattle.sw_approvals.proofs.Codes.{zero_code}
use Rattle.sw_approvals.proofs.Notes.{IsZero}
use Rattle.sw_approvals.proofs.Outcomes.{HasFields, IsQuiet, IsWaiting, Outcome, checked, decides, has_fields, is_late, outcome, responds, waits, quiet_twice}
use Rattle.sw_approvals.specs.Parts.{Approves, Check, Forward, HostApproves, Limits, Part, Prepares, PreparesForAbort, Query, Respond, Reverse, Route, StandIn}
use Rattle.sw_approvals.specs.Ways.{Goes, Has, HaveRoom, IsApproved, IsOpenAuthorization, IsSoundWay, PreparedCall, SomeApproves, Stop, is_check, is_stand_in}

module _ (sends : Sending) (receives : Receiving) (starves : Starving) (refused : Type 0) where
  -- one call of a way that approves
  first_says : (calls rest : List PreparedCall) (c : PreparedCall) (p : Part) (x : Pairs) → calls ≡ c ∷ rest → c.part ≡ p → c.before ≡ x
      → Approves sends receives starves refused p x c.byte → SomeApproves sends receives starves refused calls
  first_says calls rest c p x is part before h =
      subst (SomeApproves sends receives starves refused) (sym is)
      (inl (subst (λ (q : Part). Approves sends receives starves refused q c.before c.byte) (sym part)
      (subst (λ (y : Pairs). Approves sends receives starves refused p y c.byte) (sym before) h)))

  later_says : (calls rest : List PreparedCall) (c : PreparedCall) → calls ≡ c ∷ rest → SomeApproves sends receives starves refused rest
      → SomeApproves sends receives starves refused calls
  later_says calls rest c is h = subst (SomeApproves sends receives starves refused) (sym is) (inr h)

  left_says : (cs ds : List PreparedCall) → SomeApproves sends receives starves refused cs → SomeApproves sends receives starves refused (cs ++ ds)
  left_says [] ds h = absurd h
  left_says (c ∷ cs) ds (inl h) = inl h
  left_says (c ∷ cs) ds (inr h) = inr (left_says cs ds h)

  right_says : (cs ds : List PreparedCall) → SomeApproves sends receives starves refused ds → SomeApproves sends receives starves refused (cs ++ ds)
  right_says [] ds h = h
  right_says (c ∷ cs) ds h = inr (right_says cs ds h)

  -- ---- a transaction that aborts

  aborts : (ps : List Stop) (x : Pairs) (calls : List PreparedCall) (a : Bool) (z : Pairs) → Goes sends receives starves refused ps true x calls a z → a ≡ true
  aborts [] x calls a z h = h.1
  aborts (p ∷ ps) x calls a z h = aborts ps (if p.aware then h.0 else x) calls a z h.2

  kept_code : (p : Part) (x y : Pairs) → PreparesForAbort sends receives starves refused p x y → find (codes "rc") y ≡ find (codes "rc") x
  kept_code Respond x y h = (responds SystemMalfunction (request_in x) x y h).code
  kept_code Check x y h = ap (find (codes "rc")) h
  kept_code Limits x y h = ap (find (codes "rc")) h
  kept_code Route x y h = ap (find (codes "rc")) h
  kept_code Reverse x y h = ap (find (codes "rc")) h
  kept_code (Query b) x y h = ap (find (codes "rc")) h
  kept_code StandIn x y h = ap (find (codes "rc")) h
  kept_code Forward x y h = ap (find (codes "rc")) h

  called_or_not : (b : Bool) (x y : Pairs) → find (codes "rc") y ≡ find (codes "rc") x → ¬ (IsZero x) → ¬ (IsZero (if b then y else x))
  called_or_not true x y same denies = λ zero. denies (sym same ∙ zero)
  called_or_not false x y same denies = denies

  not_zero : (ps : List Stop) (x : Pairs) (calls : List PreparedCall) (a : Bool) (z : Pairs) → ¬ (IsZero x)
      → Goes sends receives starves refused ps true x calls a z → ¬ (IsZero z)
  not_zero [] x calls a z denies h = λ zero. denies (subst IsZero h.2 zero)
  not_zero (p ∷ ps) x calls a z denies h =
      not_zero ps (if p.aware then h.0 else x) calls a z (called_or_not p.aware x h.0 (kept_code p.part x h.0 h.1) denies) h.2

  none_not_zero : (x : Pairs) → find (codes "rc") x ≡ None → ¬ (IsZero x)
  none_not_zero x none zero = let e : None ≡ Some (codes "00") = sym none ∙ zero in absurd (cc)

  -- a way that aborts leaves no code of an approval that nobody said
  pub refused_way : (ps : List Stop) (x : Pairs) (calls : List PreparedCall) (a : Bool) (z : Pairs) → find (codes "rc") x ≡ None
      → Goes sends receives starves refused ps false x calls a z → SomeApproves sends receives starves refused calls ⊎ (a ≡ true → ¬ (IsZero z))
  refused_way [] x calls a z none h = inr (λ is. absurd (true≢false (sym is ∙ h.1)))
  refused_way (p ∷ ps) x calls a z none h =
      let c = h.0 in
      by (λ none' goes. refused_way ps c.after h.1 a z none' goes) (is_prepared c.byte) refl h.6 (outcome sends receives starves refused p.part x c.byte c.after h.5)
    where
      by : (find (codes "rc") h.0.after ≡ None → Goes sends receives starves refused ps false h.0.after h.1 a z
          → SomeApproves sends receives starves refused h.1 ⊎ (a ≡ true → ¬ (IsZero z)))
          → (b : Bool) → is_prepared h.0.byte ≡ b → Goes sends receives starves refused ps (not b) h.0.after h.1 a z
          → Outcome sends receives starves refused p.part x h.0.byte h.0.after
          → SomeApproves sends receives starves refused calls ⊎ (a ≡ true → ¬ (IsZero z))
      by later b is goes (inr (inr approves)) = inl (first_says calls h.1 h.0 p.part x h.2 h.3 h.4 approves)
      by later true is goes (inl quiet) = on (later (quiet.code ∙ none) goes)
        where
          on : SomeApproves sends receives starves refused h.1 ⊎ (a ≡ true → ¬ (IsZero z)) → SomeApproves sends receives starves refused calls ⊎ (a ≡ true → ¬ (IsZero z))
          on (inl says) = inl (later_says calls h.1 h.0 h.2 says)
          on (inr denies) = inr denies
      by later false is goes (inl quiet) = inr (λ _. not_zero ps h.0.after h.1 a z (none_not_zero h.0.after (quiet.code ∙ none)) goes)
      by later true is goes (inr (inl refusal)) = absurd (true≢false (sym is ∙ refusal.refused))
      by later false is goes (inr (inl refusal)) =
          inr (λ _. not_zero ps h.0.after h.1 a z (λ zero. none_not_zero x none (refusal.code zero)) goes)

  -- ---- a transaction that prepares

  -- each participant of the way was called, and was prepared
  abbrev pub Passes : List Stop → Pairs → List PreparedCall → Pairs → Type 0
  Passes [] x calls z = (calls ≡ []) × (z ≡ x)
  Passes (p ∷ ps) x calls z =
      (c : PreparedCall) × (rest : List PreparedCall)
      × (calls ≡ c ∷ rest) × (c.part ≡ p.part) × (c.before ≡ x)
      × Prepares sends receives starves refused p.part x c.byte c.after
      × (is_prepared c.byte ≡ true) × Passes ps c.after rest z

  prepared_call : (b : Bool) (ps : List Stop) (x : Pairs) (calls : List PreparedCall) (z : Pairs)
      → Goes sends receives starves refused ps (not b) x calls false z → b ≡ true
  prepared_call true ps x calls z h = refl
  prepared_call false ps x calls z h = absurd (true≢false (sym (aborts ps x calls false z h)))

  passes : (ps : List Stop) (x : Pairs) (calls : List PreparedCall) (z : Pairs) → Goes sends receives starves refused ps false x calls false z → Passes ps x calls z
  passes [] x calls z h = (h.0, h.2)
  passes (p ∷ ps) x calls z h =
      let prepared = prepared_call (is_prepared h.0.byte) ps h.0.after h.1 z h.6 in (
        h.0,
        h.1,
        h.2,
        h.3,
        h.4,
        h.5,
        prepared,
        passes ps h.0.after h.1 z
            (subst (λ (b : Bool). Goes sends receives starves refused ps (not b) h.0.after h.1 false z) prepared h.6),
      )

  -- a way of two parts
  pub two_parts : (ps qs : List Stop) (x : Pairs) (calls : List PreparedCall) (z : Pairs) → Passes (ps ++ qs) x calls z
      → (cs : List PreparedCall) × (ds : List PreparedCall) × (y : Pairs) × Passes ps x cs y × Passes qs y ds z × (calls ≡ cs ++ ds)
  two_parts [] qs x calls z h = ([], calls, x, (refl, refl), h, refl)
  two_parts (p ∷ ps) qs x calls z h =
      let rest = two_parts ps qs h.0.after h.1 z h.7 in
      (h.0 ∷ rest.0, rest.1, rest.2, (h.0, rest.0, refl, h.3, h.4, h.5, h.6, rest.3), rest.4, h.2 ∙ ap (λ cs. h.0 ∷ cs) rest.5)

  -- one call that was prepared: it leaves the decision open, or approves
  prepared_outcome : (p : Part) (x : Pairs) (byte : ℕ) (y : Pairs) → is_prepared byte ≡ true → Prepares sends receives starves refused p x byte y
      → Approves sends receives starves refused p x byte ⊎ IsQuiet x y
  prepared_outcome p x byte y prepared h = by (outcome sends receives starves refused p x byte y h)
    where
      by : Outcome sends receives starves refused p x byte y → Approves sends receives starves refused p x byte ⊎ IsQuiet x y
      by (inl quiet) = inr quiet
      by (inr (inl refusal)) = absurd (true≢false (sym prepared ∙ refusal.refused))
      by (inr (inr approves)) = inl approves

  pub still_open : (ps : List Stop) (x : Pairs) (calls : List PreparedCall) (z : Pairs) → Passes ps x calls z
      → SomeApproves sends receives starves refused calls ⊎ IsQuiet x z
  still_open [] x calls z h = inr (record { code = ap (find (codes "rc")) h.1; request = ap (find (codes "request")) h.1; late = λ is. ap is_late h.1 ∙ is })
  still_open (p ∷ ps) x calls z h =
      by (still_open ps h.0.after h.1 z h.7) (prepared_outcome p.part x h.0.byte h.0.after h.6 h.5)
    where
      by : SomeApproves sends receives starves refused h.1 ⊎ IsQuiet h.0.after z → Approves sends receives starves refused p.part x h.0.byte ⊎ IsQuiet x h.0.after
          → SomeApproves sends receives starves refused calls ⊎ IsQuiet x z
      by later (inl approves) = inl (first_says calls h.1 h.0 p.part x h.2 h.3 h.4 approves)
      by (inl says) (inr quiet) = inl (later_says calls h.1 h.0 h.2 says)
      by (inr quiet') (inr quiet) = inr (quiet_twice x h.0.after z quiet quiet')

  check_passes : (p : Part) (x : Pairs) (byte : ℕ) (y : Pairs) → is_check p ≡ true → is_prepared byte ≡ true
      → Prepares sends receives starves refused p x byte y → fault_of (request_in x) ≡ None
  check_passes Check x byte y is prepared h = checked (fault_of (request_in x)) x byte y h prepared
  check_passes Limits x byte y is prepared h = absurd (cc)
  check_passes Route x byte y is prepared h = absurd (cc)
  check_passes Reverse x byte y is prepared h = absurd (cc)
  check_passes (Query b) x byte y is prepared h = absurd (cc)
  check_passes StandIn x byte y is prepared h = absurd (cc)
  check_passes Forward x byte y is prepared h = absurd (cc)
  check_passes Respond x byte y is prepared h = absurd (cc)

  -- the request was checked, and has no fault
  pub was_checked : (ps : List Stop) (x : Pairs) (calls : List PreparedCall) (z : Pairs) → Has is_check ps → Passes ps x calls z
      → SomeApproves sends receives starves refused calls ⊎ (fault_of (request_in x) ≡ None)
  was_checked [] x calls z has h = absurd has
  was_checked (p ∷ ps) x calls z (inl is) h = inr (check_passes p.part x h.0.byte h.0.after is h.6 h.5)
  was_checked (p ∷ ps) x calls z (inr later) h =
      by (was_checked ps h.0.after h.1 z later h.7) (prepared_outcome p.part x h.0.byte h.0.after h.6 h.5)
    where
      by : SomeApproves sends receives starves refused h.1 ⊎ (fault_of (request_in h.0.after) ≡ None)
          → Approves sends receives starves refused p.part x h.0.byte ⊎ IsQuiet x h.0.after
          → SomeApproves sends receives starves refused calls ⊎ (fault_of (request_in x) ≡ None)
      by rest (inl approves) = inl (first_says calls h.1 h.0 p.part x h.2 h.3 h.4 approves)
      by (inl says) (inr quiet) = inl (later_says calls h.1 h.0 h.2 says)
      by (inr none) (inr quiet) = inr (ap (λ r. fault_of (message_of r)) (sym quiet.request) ∙ none)

  stand_in_decides : (p : Part) (m : PlainMessage) (x : Pairs) (byte : ℕ) (y : Pairs) → is_stand_in p ≡ true → request_in x ≡ Some m
      → is_some (value_at 4 m.fields) && is_some (value_at 11 m.fields) ≡ true → is_late x ≡ true → find (codes "rc") x ≡ None
      → is_prepared byte ≡ true → Prepares sends receives starves refused p x byte y → Approves sends receives starves refused p x byte
  stand_in_decides StandIn m x byte y is request fields late none prepared h =
      decides sends receives starves refused m x byte y request fields late none prepared h
  stand_in_decides Check m x byte y is request fields late none prepared h = absurd (cc)
  stand_in_decides Limits m x byte y is request fields late none prepared h = absurd (cc)
  stand_in_decides Route m x byte y is request fields late none prepared h = absurd (cc)
  stand_in_decides Reverse m x byte y is request fields late none prepared h = absurd (cc)
  stand_in_decides (Query b) m x byte y is request fields late none prepared h = absurd (cc)
  stand_in_decides Forward m x byte y is request fields late none prepared h = absurd (cc)
  stand_in_decides Respond m x byte y is request fields late none prepared h = absurd (cc)

  -- a late request comes to a stand-in, which approves it
  pub was_stood_in_for : (ps : List Stop) (x : Pairs) (calls : List PreparedCall) (z : Pairs) → Has is_stand_in ps → Passes ps x calls z
      → HasFields (request_in x) → is_late x ≡ true → find (codes "rc") x ≡ None → SomeApproves sends receives starves refused calls
  was_stood_in_for [] x calls z has h fields late none = absurd has
  was_stood_in_for (p ∷ ps) x calls z (inl is) h fields late none =
      first_says calls h.1 h.0 p.part x h.2 h.3 h.4
      (stand_in_decides p.part fields.0 x h.0.byte h.0.after is fields.1 fields.2 late none h.6 h.5)
  was_stood_in_for (p ∷ ps) x calls z (inr later) h fields late none =
      by (λ quiet. was_stood_in_for ps h.0.after h.1 z later h.7
      (subst HasFields (ap message_of (sym quiet.request)) fields) (quiet.late late) (quiet.code ∙ none))
      (prepared_outcome p.part x h.0.byte h.0.after h.6 h.5)
    where
      by : (IsQuiet x h.0.after → SomeApproves sends receives starves refused h.1)
          → Approves sends receives starves refused p.part x h.0.byte ⊎ IsQuiet x h.0.after → SomeApproves sends receives starves refused calls
      by rest (inl approves) = first_says calls h.1 h.0 p.part x h.2 h.3 h.4 approves
      by rest (inr quiet) = later_says calls h.1 h.0 h.2 (rest quiet)

  -- ---- the whole way

  room_at : (cs rest : List PreparedCall) (c : PreparedCall) → HaveRoom (cs ++ c ∷ rest) → length c.before < 60
  room_at [] rest c h = h.0
  room_at (d ∷ cs) rest c h = room_at cs rest c h.1

  -- what remains of a way from its query on
  from_query : (q : Stop) (ps : List Stop) (b : Bool) (y : Pairs) (ds : List PreparedCall) (z : Pairs) → q.part ≡ Query b → (b ≡ true → Has is_stand_in ps)
      → Passes (q ∷ ps) y ds z → length y < 60 → class_in y ≡ Some Authorization → HasFields (request_in y) → find (codes "rc") y ≡ None
      → SomeApproves sends receives starves refused ds
  from_query q ps b y ds z is stands h room authorizes fields none =
      let asked = subst (λ (p : Part). Prepares sends receives starves refused p y h.0.byte h.0.after) is h.5 in
      by (prepared_outcome q.part y h.0.byte h.0.after h.6 h.5)
      (waits sends receives starves refused b y h.0.byte h.0.after room h.6 authorizes asked)
    where
      by : Approves sends receives starves refused q.part y h.0.byte ⊎ IsQuiet y h.0.after
          → HostApproves sends receives starves refused y ⊎ IsWaiting sends receives starves refused b h.0.after
          → SomeApproves sends receives starves refused ds
      by (inl approves) w = first_says ds h.1 h.0 q.part y h.2 h.3 h.4 approves
      by (inr quiet) (inl approves) =
          first_says ds h.1 h.0 (Query b) y h.2 (h.3 ∙ is) h.4 approves
      by (inr quiet) (inr waiting) =
          later_says ds h.1 h.0 h.2 (was_stood_in_for ps h.0.after h.1 z (stands waiting.0) h.7
          (subst HasFields (ap message_of (sym quiet.request)) fields) waiting.1 (quiet.code ∙ none))

  prepared_way : (way : List Stop) (x : Pairs) (calls : List PreparedCall) (z : Pairs) → IsSoundWay way → IsOpenAuthorization x → HaveRoom calls
      → Goes sends receives starves refused way false x calls false z → SomeApproves sends receives starves refused calls
  prepared_way way x calls z sound is room goes =
      let parts = two_parts sound.before (sound.query ∷ sound.after) x calls z
      (subst (λ (w : List Stop). Passes w x calls z) sound.is (passes way x calls z goes)) in
      by parts (still_open sound.before x parts.0 parts.2 parts.3) (was_checked sound.before x parts.0 parts.2 sound.checked parts.3)
    where
      by : (parts : (cs : List PreparedCall) × (ds : List PreparedCall) × (y : Pairs) × Passes sound.before x cs y
          × Passes (sound.query ∷ sound.after) y ds z × (calls ≡ cs ++ ds))
          → SomeApproves sends receives starves refused parts.0 ⊎ IsQuiet x parts.2
          → SomeApproves sends receives starves refused parts.0 ⊎ (fault_of (request_in x) ≡ None)
          → SomeApproves sends receives starves refused calls
      by parts (inl says) w = subst (SomeApproves sends receives starves refused) (sym parts.5) (left_says parts.0 parts.1 says)
      by parts (inr quiet) (inl says) = subst (SomeApproves sends receives starves refused) (sym parts.5) (left_says parts.0 parts.1 says)
      by parts (inr quiet) (inr unfaulted) =
          let c = parts.4.0 in
          let all = parts.5 ∙ ap (λ ds. parts.0 ++ ds) parts.4.2 in
          let room' : length parts.2 < 60 = subst (λ (w : Pairs). length w < 60) parts.4.4
          (room_at parts.0 parts.4.1 c (subst HaveRoom all room)) in
          let same : request_in parts.2 ≡ request_in x = ap message_of quiet.request in
          subst (SomeApproves sends receives starves refused) (sym parts.5) (right_says parts.0 parts.1
          (from_query sound.query sound.after sound.has_stand_in parts.2 parts.1 z sound.asks sound.stands_in parts.4 room'
          (ap (option_and_then (λ m. class_of m.mti)) same ∙ is.authorizes)
          (subst HasFields (sym same) (has_fields (request_in x) is.authorizes unfaulted)) (quiet.code ∙ is.undecided)))

  pub approvals : (way : List Stop) (x : Pairs) (calls : List PreparedCall) (a : Bool) (z : Pairs) (m : PlainMessage) → IsSoundWay way
      → IsOpenAuthorization x → HaveRoom calls → Goes sends receives starves refused way false x calls a z → IsApproved m a z
      → SomeApproves sends receives starves refused calls
  approvals way x calls false z m sound is room goes approved = prepared_way way x calls z sound is room goes
  approvals way x calls true z m sound is room goes approved = by (refused_way way x calls true z is.undecided goes)
    where
      by : SomeApproves sends receives starves refused calls ⊎ (true ≡ true → ¬ (IsZero z)) → SomeApproves sends receives starves refused calls
      by (inl says) = says
      by (inr denies) = absurd (denies refl (zero_code m z approved))
