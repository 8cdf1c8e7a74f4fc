-- What a reader takes and gives.
-- for: reader::ReadSide::advance, reader::ReadSide::read
use Rattle.std.proofs.Common.{◌≡◌, ◌∙◌, ◌⊎◌, Err, Ok, OnErr, Result, inl, inr, sym, ap, subst, ℕ, Bool, true, false, List, [], ◌++◌, Option, take, drop, append-nil, append_assoc, take-append-drop}
use Rattle.std.specs.Arc.{arc_value}
use Rattle.std.specs.Io.KnownBytes.{Consumes, IsAtEnd, Keeps}
use Rattle.std.proofs.KnownBytes.{Consumes-kept, Consumes-nil, Consumes-trans}
use Rattle.dialect_toml.specs.declared.frame.Frame.{Frame}
use Rattle.cli_recode.specs.declared.message.Recoding.{Recoding}
use Rattle.cli_recode.specs.declared.recoder.Recoder.{Recoder}
use Rattle.run_recode.specs.declared.reader.ReadSide.{ReadSide}
use Rattle.run_recode.specs.Flows.{FeedsOn, IsHandedOn, IsOver, tail_at}
use Rattle.run_recode.specs.Readers.{Gives, IsNew, IsReadOrBroken, IsReadSo, Steps, StepsOrBreaks}
use Rattle.run_recode.proofs.Flows.{ended, handed_more}

never : {P : Type 0} (b : Bool) → b ≡ false → b ≡ true → P
never true h k = absurd (cc)
never false h k = absurd (cc)

-- nothing was taken
nothing : (u v : Option (List ℕ)) → Keeps u v → Consumes u v []
nothing u v k = Consumes-kept u u v [] (Consumes-nil u) k

-- nothing is changed but the reader inside, which kept its bytes
pub stayed : {E : Type 0} (u v : Option (List ℕ)) (s t : ReadSide E) → Keeps u v → s.ended ≡ false → t ≡ s → StepsOrBreaks u s v t
stayed u v s t k is_open same form job bytes out h = (
  [],
  nothing u v k,
  inl (rw same (subst (λ (z : List ℕ). IsReadSo form job v z out s) (sym (append-nil bytes))
      (record { same = h.same; handed = h.handed; over = λ e. never s.ended is_open e }))),
)

-- nothing more comes of a stream that is broken
pub broke : {E : Type 0} (u v : Option (List ℕ)) (s t : ReadSide E) (taken : List ℕ) → Consumes u v taken → t.flow.broken ≡ true → StepsOrBreaks u s v t
broke u v s t taken k b form job bytes out h = (taken, k, inr b)

-- the stream has ended, and its tail waits
pub over_step : {E : Type 0} (u v : Option (List ℕ)) (s t : ReadSide E) (taken : List ℕ) → Consumes u v taken → taken ≡ [] → IsOver v s.flow
    → s.ended ≡ false → s.flow.queue ≡ [] → t.recoding ≡ s.recoding → t.ended ≡ true → t.flow.recoder ≡ s.flow.recoder
    → t.flow.queue ≡ tail_at true s.flow.recoder.framer.has → Steps u s v t
over_step u v s t taken k none over is_open empty job_same is_ended same waits form job bytes out h =
    let before : IsHandedOn form job bytes out [] s.flow = subst (λ b. IsHandedOn form job bytes out (tail_at b s.flow.recoder.framer.has) s.flow) is_open h.handed in
    let after : IsHandedOn form job bytes out (tail_at true s.flow.recoder.framer.has) t.flow =
    ended form job bytes out (tail_at true s.flow.recoder.framer.has) s.flow t.flow empty same waits before in (
      [],
      subst (Consumes u v) none k,
      subst (λ (z : List ℕ). IsReadSo form job v z out t) (sym (append-nil bytes)) (record {
        same = ap (λ (a : _). arc_value a) job_same ∙ h.same;
        handed = subst (λ b. IsHandedOn form job bytes out (tail_at b t.flow.recoder.framer.has) t.flow) (sym is_ended)
            (subst (λ (r : Recoder). IsHandedOn form job bytes out (tail_at true r.framer.has) t.flow) (sym same) after);
        over = λ e. subst (λ (r : Recoder). IsAtEnd v ⊎ (r.framer.has.failed ≡ true)) (sym same) over;
      }),
    )

-- a piece was taken and recoded
pub fed_step : {E : Type 0} (u v : Option (List ℕ)) (s t : ReadSide E) (piece : List ℕ) → Consumes u v piece → s.ended ≡ false
    → t.recoding ≡ s.recoding → t.ended ≡ s.ended → FeedsOn (arc_value s.recoding) s.flow piece t.flow → Steps u s v t
fed_step u v s t piece k is_open job_same ended_same goes form job bytes out h =
    let still : t.ended ≡ false = ended_same ∙ is_open in
    let before : IsHandedOn form job bytes out [] s.flow = subst (λ b. IsHandedOn form job bytes out (tail_at b s.flow.recoder.framer.has) s.flow) is_open h.handed in
    let after : IsHandedOn form job (bytes ++ piece) out [] t.flow = (subst (λ (j : Recoding). FeedsOn j s.flow piece t.flow) h.same goes) form bytes out before in (
      piece,
      k,
      record {
        same = ap (λ (a : _). arc_value a) job_same ∙ h.same;
        handed = subst (λ b. IsHandedOn form job (bytes ++ piece) out (tail_at b t.flow.recoder.framer.has) t.flow) (sym still) after;
        over = λ e. never t.ended still e;
      },
    )

pub Steps-refl : {E : Type 0} (u : Option (List ℕ)) (s : ReadSide E) → Steps u s u s
Steps-refl u s form job bytes out h =
    ([], Consumes-nil u, subst (λ (z : List ℕ). IsReadSo form job u z out s) (sym (append-nil bytes)) h)

pub Steps-trans : {E : Type 0} (u v w : Option (List ℕ)) (s t r : ReadSide E) → Steps u s v t → Steps v t w r → Steps u s w r
Steps-trans u v w s t r one two form job bytes out h =
    let a = one form job bytes out h in
    let b = two form job (bytes ++ a.0) out a.2 in
    (a.0 ++ b.0, Consumes-trans u v w a.0 b.0 a.1 b.1, subst (λ (z : List ℕ). IsReadSo form job w z out r) (append_assoc bytes a.0 b.0) b.2)

pub breaks : {E : Type 0} (u v w : Option (List ℕ)) (s t r : ReadSide E) → Steps u s v t → StepsOrBreaks v t w r → StepsOrBreaks u s w r
breaks u v w s t r one two form job bytes out h =
    let a = one form job bytes out h in
    let b = two form job (bytes ++ a.0) out a.2 in
    (a.0 ++ b.0, Consumes-trans u v w a.0 b.0 a.1 b.1, subst (λ (z : List ℕ). IsReadOrBroken form job w z out r) (append_assoc bytes a.0 b.0) b.2)

pub unbroken : {E : Type 0} (u v : Option (List ℕ)) (s t : ReadSide E) → Steps u s v t → StepsOrBreaks u s v t
unbroken u v s t one form job bytes out h = let a = one form job bytes out h in (a.0, a.1, inl a.2)

-- what waits is given
pub given : {E : Type 0} (u v : Option (List ℕ)) (s t r : ReadSide E) (n : ℕ) (first : List ℕ) → Steps u s v t → first ≡ take n t.flow.queue
    → r.recoding ≡ t.recoding → r.ended ≡ t.ended → r.flow.recoder ≡ t.flow.recoder → r.flow.queue ≡ drop n t.flow.queue → Gives u s v r first
given u v s t r n first one is job_same ended_same same rest form job bytes out h =
    let a = one form job bytes out h in
    let parts : t.flow.queue ≡ first ++ drop n t.flow.queue =
    sym (ap (λ (z : List ℕ). z ++ drop n t.flow.queue) is ∙ take-append-drop n t.flow.queue) in
    let handed : IsHandedOn form job (bytes ++ a.0) (out ++ first) (tail_at t.ended t.flow.recoder.framer.has) r.flow =
    handed_more form job (bytes ++ a.0) out (tail_at t.ended t.flow.recoder.framer.has) first (drop n t.flow.queue) t.flow r.flow same rest parts a.2.handed in (
      a.0,
      a.1,
      record {
        same = ap (λ (a : _). arc_value a) job_same ∙ a.2.same;
        handed = subst (λ b. IsHandedOn form job (bytes ++ a.0) (out ++ first) (tail_at b r.flow.recoder.framer.has) r.flow) (sym ended_same)
            (subst (λ (x : Recoder). IsHandedOn form job (bytes ++ a.0) (out ++ first) (tail_at t.ended x.framer.has) r.flow) (sym same) handed);
        over = λ e. subst (λ (x : Recoder). IsAtEnd v ⊎ (x.framer.has.failed ≡ true)) (sym same) (a.2.over (sym ended_same ∙ e));
      },
    )

pub begun_as : {E : Type 0} (f f' : Frame) (j j' : Recoding) (side : Option (ReadSide E)) → f ≡ f' → j ≡ j' → IsNew f j side → IsNew f' j' side
begun_as f f' j j' side one other h = subst (λ (x : Frame). IsNew x j' side) one (subst (λ (x : Recoding). IsNew f x side) other h)

-- what holds after any result holds after an error
pub on_err : {T F : Type 0} (P : Type 0) (r : Result T F) → P → OnErr r P
on_err P (Ok x) h = tt
on_err P (Err e) h = h
