-- What a line makes of what was read.
-- for: encoder
use Rattle.std.proofs.Common.{◌≡◌, ◌∙◌, ◌≤◌, ◌<◌, ◌+◌, ◌-◌, ◌⊎◌, inl, inr, ℕ, suc, ◌&&◌, Bool, true, false, not, cond, ltb, List, [], ◌∷◌, ◌++◌, length, map, get_or}
use Rattle.std.proofs.Common.{Option, Some, None, refl, sym, ap, subst, arith, length-append}
use Rattle.std.specs.Fmt.{decimal}
use Rattle.std.specs.Option.{is_none}
use Rattle.std.specs.Str.{bytes_eq}
use Rattle.std.proofs.lemmas.Bool.{eq-eqb, lt-ltb, le-ltb}
use Rattle.std.proofs.lemmas.List.{map-append}
use Rattle.std.proofs.lemmas.List.Elements.{All-push}
use Rattle.std.specs.Result.{IfOk}
use Rattle.std.proofs.Common.{Result, Ok, Err}
use Rattle.std.proofs.lemmas.Slice.Eq.{bytes_eq-Decides}
use Rattle.iso_msg.specs.Values.{refusal}
use Rattle.iso_msg.specs.Messages.{Fields, PlainMessage, AreFields, IsMessage, with_value}
use Rattle.iso_codec.specs.Spelling.{spelling}
use Rattle.sw_frame.specs.Stream.{AreFramed}
use Rattle.sw_frame.proofs.Frames.{AreFramed-push}
use Rattle.cli_encode.specs.declared.encoder.Encoder.{Encoder}
use Rattle.cli_encode.specs.declared.encoder.Stage.{Stage}
use Rattle.cli_encode.specs.declared.encoder.Stage.TheVariants.{Between, Headed, Open}
use Rattle.cli_encode.specs.Frames.{AddsFrame}
use Rattle.cli_encode.specs.Headers.{header_from}
use Rattle.cli_encode.specs.Lines.{Heading, Header, MessageType, Field}
use Rattle.cli_encode.specs.Reading.{Point, IsAt, IsMessageIn, closed, closed_at, follows, headed, last_from, last_of, named, step, step_at, typed, with_last}
use Rattle.cli_encode.specs.Reading.{AddsField, Takes}
use Rattle.cli_encode.specs.Texts.{Sent, IsHeader, IsSent, content_of}
use Rattle.iso_msg.specs.Values.{is_byte}
use Rattle.iso_msg.proofs.Bools.{eqb-false_from}
use Rattle.std.specs.List.{list_all}

-- ---- the last field

pub last_is : (low : ℕ) (fs : Fields) (d : ℕ × List ℕ) → 0 < length fs → (get_or fs (length fs - 1) d).0 ≡ last_from low fs
last_is low [] d h = absurd (omega (arith, h))
last_is low (f ∷ []) d h = refl
last_is low (f ∷ g ∷ fs) d h =
    let e : length (f ∷ g ∷ fs) - 1 ≡ suc (length (g ∷ fs) - 1) = omega arith in
    ap (λ k. (get_or (f ∷ g ∷ fs) k d).0) e ∙ last_is f.0 (g ∷ fs) d (omega arith)

low_le : (low : ℕ) (fs : Fields) → AreFields low fs → low ≤ last_from low fs
low_le low [] a = omega arith
low_le low (f ∷ fs) a = let h = low_le f.0 fs a.2 in let k = a.0 in omega (arith, h, k)

pub put_last : (low : ℕ) (fs : Fields) (n : ℕ) (v : List ℕ) → AreFields low fs → last_from low fs < n → with_value n v fs ≡ fs ++ (n, v) ∷ []
put_last low [] n v a h = refl
put_last low (f ∷ fs) n v a h =
    let le = low_le f.0 fs a.2 in
    let less : f.0 < n = omega (arith, le, h) in
    rw (lt-ltb f.0 n less) (ap (λ (l : Fields). f ∷ l) (put_last f.0 fs n v a.2 h))

pub more_last : (low : ℕ) (fs : Fields) (n : ℕ) (v : List ℕ) → AreFields low fs → last_from low fs < n → refusal n v ≡ None → AreFields low (fs ++ (n, v) ∷ [])
more_last low [] n v a h r = (h, r, tt)
more_last low (f ∷ fs) n v a h r = (a.0, a.1, more_last f.0 fs n v a.2 h r)

is_none_of : {A : Type 0} (o : Option A) → o ≡ None → is_none o ≡ true
is_none_of o e = ap is_none e

pub may_follow : (m : PlainMessage) (n : ℕ) (v : List ℕ) → last_of m.fields < n → refusal n v ≡ None → follows m n v ≡ true
may_follow m n v h r = ap (λ b. b && is_none (refusal n v)) (lt-ltb (last_of m.fields) n h) ∙ is_none_of (refusal n v) r

pub followed : (m : PlainMessage) (n : ℕ) (v : List ℕ) → follows m n v ≡ true → (last_of m.fields < n) × (refusal n v ≡ None)
followed m n v h =
    let p = both (ltb (last_of m.fields) n) (is_none (refusal n v)) h in (less _ _ p.0, none_of (refusal n v) p.1)
  where
    both : (a b : Bool) → (a && b) ≡ true → (a ≡ true) × (b ≡ true)
    both true b h = (refl, h)
    both false b h = absurd cc

    less : (a b : ℕ) → ltb a b ≡ true → a < b
    less a b h = Rattle.std.proofs.lemmas.Bool.ltb-true a b h

    none_of : {A : Type 0} (o : Option A) → is_none o ≡ true → o ≡ None
    none_of None h = refl
    none_of (Some x) h = absurd cc

-- ---- a message that is ended

stage_closed : (k : ℕ) (done : List Sent) (header : List ℕ) (s : Stage) → ((m : PlainMessage) → s ≡ Open m → ⊥)
    → closed_at k done header s ≡ record { size = k; done = done; header = header; stage = s }
stage_closed k done header Between h = refl
stage_closed k done header Headed h = refl
stage_closed k done header (Open m) h = absurd (h m refl)

pub closed_keeps : (p : Point) (e : Encoder) → IsAt p e → ((m : PlainMessage) → e.stage ≡ Open m → ⊥) → closed p ≡ p
closed_keeps p e h no_ = stage_closed p.size p.done p.header p.stage (λ m k. no_ m (sym h.stage ∙ k))

pub closes : (p : Point) (e e' : Encoder) (m : PlainMessage) → IsAt p e → e.stage ≡ Open m
    → AddsFrame e.frames.items e.header.items m e'.frames.items
    → e'.size ≡ e.size → e'.header.items ≡ e.header.items → e'.stage ≡ Between → e'.count ≡ e.count + 1 → IsAt (closed p) e'
closes p e e' m h open_ adds size header stage count =
    let content = e.header.items ++ spelling m in
    let framed : AreFramed e'.frames.items (map content_of p.done ++ content ∷ []) =
    subst (λ (t : List ℕ). AreFramed t (map content_of p.done ++ content ∷ [])) (sym adds.1)
    (AreFramed-push e.frames.items (map content_of p.done) adds.0 content h.frames adds.2) in
    subst (λ (q : Point). IsAt q e') (sym (ap (closed_at p.size p.done p.header) (h.stage ∙ open_))) (record {
      size = h.size ∙ sym size;
      stage = sym stage;
      header = h.header ∙ sym header;
      count = count ∙ ap (λ k. k + 1) h.count ∙ sym (length-append p.done ((p.header, m) ∷ []));
      valid = All-push (IsSent p.size) p.done (p.header, m) h.valid (subst (IsMessageIn p.size p.header) (h.stage ∙ open_) h.begun);
      begun = tt;
      frames = subst (λ (fs : List (List ℕ)). AreFramed e'.frames.items fs) (sym (map-append content_of p.done ((p.header, m) ∷ [])))
          (subst (λ (t : List ℕ). AreFramed e'.frames.items (map content_of p.done ++ (t ++ spelling m) ∷ [])) (sym h.header) framed);
    })

-- ---- steps

pub heading_none : (p : Point) (w : List ℕ) → p.stage ≡ Headed → step p (Heading w) ≡ None
unfolding step_at
heading_none p w h = ap (λ (s : Stage). step_at p.size p.done p.header s (Heading w)) h

heading_at : (k : ℕ) (done : List Sent) (header : List ℕ) (s : Stage) (w : List ℕ) → (s ≡ Headed → ⊥)
    → step_at k done header s (Heading w) ≡ headed k (closed_at k done header s).done w
unfolding step_at
heading_at k done header Between w h = refl
heading_at k done header (Open m) w h = refl
heading_at k done header Headed w h = absurd (h refl)

pub heading_step : (p : Point) (w : List ℕ) → (p.stage ≡ Headed → ⊥) → step p (Heading w) ≡ headed p.size (closed p).done w
heading_step p w h = heading_at p.size p.done p.header p.stage w h

no_bool : (b : Bool) → (b ≡ true → ⊥) → b ≡ false
no_bool true h = absurd (h refl)
no_bool false h = refl

pub headed_not : (size : ℕ) (done : List Sent) (w : List ℕ) (k : ℕ) → k ≡ length done → (w ≡ decimal (k + 1) → ⊥) → headed size done w ≡ None
headed_not size done w k e h =
    ap (λ b. cond b (Some (record { size = size; done = done; header = []; stage = Headed })) None)
    (no_bool (bytes_eq w (decimal (length done + 1))) (λ t. h ((bytes_eq-Decides w (decimal (length done + 1))).0 t ∙ ap (λ n. decimal (n + 1)) (sym e))))

pub headed_is : (size : ℕ) (done : List Sent) (w : List ℕ) (k : ℕ) → k ≡ length done → w ≡ decimal (k + 1) →
    headed size done w ≡ Some (record { size = size; done = done; header = []; stage = Headed })
headed_is size done w k e h =
    ap (λ b. cond b (Some (record { size = size; done = done; header = []; stage = Headed })) None)
    ((bytes_eq-Decides w (decimal (length done + 1))).1 (h ∙ ap (λ n. decimal (n + 1)) e))

-- the same messages, with something else begun
pub begun_at : (p : Point) (e e' : Encoder) (header : List ℕ) (s : Stage) → IsAt p e → e'.size ≡ e.size → e'.stage ≡ s → e'.header.items ≡ header
    → e'.count ≡ e.count → e'.frames ≡ e.frames → IsMessageIn p.size header s
    → IsAt (record { size = p.size; done = p.done; header = header; stage = s }) e'
begun_at p e e' header s h size stage named_ count frames begun = record {
  size = h.size ∙ sym size;
  stage = sym stage;
  header = sym named_;
  count = count ∙ h.count;
  valid = h.valid;
  begun = begun;
  frames = subst (λ (v : _). AreFramed v.items (map content_of p.done)) (sym frames) h.frames;
}

closed_size : (k : ℕ) (done : List Sent) (header : List ℕ) (s : Stage) → (closed_at k done header s).size ≡ k
closed_size k done header Between = refl
closed_size k done header Headed = refl
closed_size k done header (Open m) = refl

pub headed_at : (p : Point) (e e' : Encoder) → IsAt (closed p) e → e'.size ≡ e.size → e'.stage ≡ Headed → e'.header.items ≡ []
    → e'.count ≡ e.count → e'.frames ≡ e.frames
    → IsAt (record { size = p.size; done = (closed p).done; header = []; stage = Headed }) e'
headed_at p e e' h size stage none count frames =
    subst (λ k. IsAt (record { size = k; done = (closed p).done; header = []; stage = Headed }) e') (closed_size p.size p.done p.header p.stage)
    (begun_at (closed p) e e' [] Headed h size stage none count frames (inl refl))

-- ---- headers

header_at : (k : ℕ) (done : List Sent) (header : List ℕ) (s : Stage) (d : List ℕ) → (s ≡ Headed → ⊥) → step_at k done header s (Header d) ≡ None
unfolding step_at
header_at k done header Between d h = refl
header_at k done header (Open m) d h = refl
header_at k done header Headed d h = absurd (h refl)

pub header_none : (p : Point) (d : List ℕ) → (p.stage ≡ Headed → ⊥) → step p (Header d) ≡ None
header_none p d h = header_at p.size p.done p.header p.stage d h

pub header_headed : (p : Point) (d : List ℕ) → p.stage ≡ Headed → step p (Header d) ≡ named p.size p.done p.header (header_from p.size d)
unfolding step_at
header_headed p d h = ap (λ (s : Stage). step_at p.size p.done p.header s (Header d)) h

named_twice : (k : ℕ) (done : List Sent) (header : List ℕ) (o : Option (List ℕ)) → (header ≡ [] → ⊥) → named k done header o ≡ None
named_twice k done [] o h = absurd (h refl)
named_twice k done (b ∷ bs) o h = refl

named_not : (k : ℕ) (done : List Sent) (header : List ℕ) → named k done header None ≡ None
named_not k done [] = refl
named_not k done (b ∷ bs) = refl

-- a second header, or what is no header
pub header_again : (p : Point) (d : List ℕ) → p.stage ≡ Headed → (p.header ≡ [] → ⊥) → step p (Header d) ≡ None
header_again p d h other = header_headed p d h ∙ named_twice p.size p.done p.header (header_from p.size d) other

pub header_not : (p : Point) (d : List ℕ) → p.stage ≡ Headed → header_from p.size d ≡ None → step p (Header d) ≡ None
header_not p d h none = header_headed p d h ∙ ap (named p.size p.done p.header) none ∙ named_not p.size p.done p.header

pub header_step : (p : Point) (d found : List ℕ) → p.stage ≡ Headed → p.header ≡ [] → header_from p.size d ≡ Some found
    → step p (Header d) ≡ Some (record { size = p.size; done = p.done; header = found; stage = Headed })
header_step p d found h none is =
    header_headed p d h ∙ ap (named p.size p.done p.header) is ∙ ap (λ (l : List ℕ). named p.size p.done l (Some found)) none

-- ---- types

type_at : (k : ℕ) (done : List Sent) (header : List ℕ) (s : Stage) (d : List ℕ) → (s ≡ Headed → ⊥) → step_at k done header s (MessageType d) ≡ None
unfolding step_at
type_at k done header Between d h = refl
type_at k done header (Open m) d h = refl
type_at k done header Headed d h = absurd (h refl)

pub type_none : (p : Point) (d : List ℕ) → (p.stage ≡ Headed → ⊥) → step p (MessageType d) ≡ None
type_none p d h = type_at p.size p.done p.header p.stage d h

type_headed : (p : Point) (d : List ℕ) → p.stage ≡ Headed → step p (MessageType d) ≡ typed p.size p.done p.header d
unfolding step_at
type_headed p d h = ap (λ (s : Stage). step_at p.size p.done p.header s (MessageType d)) h

abbrev opened : Point → PlainMessage → Option Point
opened p m = Some (record { size = p.size; done = p.done; header = p.header; stage = Open m })

-- a type before the header
pub type_early : (p : Point) (d : List ℕ) → p.stage ≡ Headed → (length p.header ≡ p.size → ⊥) → step p (MessageType d) ≡ None
type_early p d h other =
    type_headed p d h ∙ ap (λ b. cond b (opened p (record { mti = d; fields = [] })) None) (eqb-false_from (length p.header) p.size other)

pub type_step : (p : Point) (d : List ℕ) (m : PlainMessage) → p.stage ≡ Headed → length p.header ≡ p.size → m ≡ record { mti = d; fields = [] }
    → step p (MessageType d) ≡ opened p m
type_step p d m h whole e =
    type_headed p d h ∙ ap (λ b. cond b (opened p (record { mti = d; fields = [] })) None) (eq-eqb (length p.header) p.size whole)
    ∙ ap (opened p) (sym e)

-- a header that was read, or none, is whole where it is as long as it has to be
pub whole_header : (k : ℕ) (header : List ℕ) → (header ≡ []) ⊎ IsHeader k header → length header ≡ k → IsHeader k header
whole_header k header (inl none) e =
    let zero_ : k ≡ 0 = sym e ∙ ap length none in (e, omega (arith, zero_), ap (list_all is_byte) none)
whole_header k header (inr h) e = h

-- ---- fields

field_at : (k : ℕ) (done : List Sent) (header : List ℕ) (s : Stage) (n : ℕ) (v : List ℕ) → ((m : PlainMessage) → s ≡ Open m → ⊥)
    → step_at k done header s (Field n v) ≡ None
unfolding step_at
field_at k done header Between n v h = refl
field_at k done header Headed n v h = refl
field_at k done header (Open m) n v h = absurd (h m refl)

pub field_none : (p : Point) (n : ℕ) (v : List ℕ) → ((m : PlainMessage) → p.stage ≡ Open m → ⊥) → step p (Field n v) ≡ None
field_none p n v h = field_at p.size p.done p.header p.stage n v h

abbrev after_field : Point → PlainMessage → ℕ → List ℕ → Bool → Option Point
after_field p m n v b = cond b (opened p (with_last m n v)) None

field_open : (p : Point) (m : PlainMessage) (n : ℕ) (v : List ℕ) → p.stage ≡ Open m → step p (Field n v) ≡ after_field p m n v (follows m n v)
unfolding step_at
field_open p m n v h = ap (λ (s : Stage). step_at p.size p.done p.header s (Field n v)) h

pub field_step : (p : Point) (m : PlainMessage) (n : ℕ) (v : List ℕ) → p.stage ≡ Open m → follows m n v ≡ true
    → step p (Field n v) ≡ Some (record { size = p.size; done = p.done; header = p.header; stage = Open (with_last m n v) })
field_step p m n v h f = field_open p m n v h ∙ ap (after_field p m n v) f

pub field_not : (p : Point) (m : PlainMessage) (n : ℕ) (v : List ℕ) → p.stage ≡ Open m → follows m n v ≡ false → step p (Field n v) ≡ None
field_not p m n v h f = field_open p m n v h ∙ ap (after_field p m n v) f

pub open_message : (p : Point) (e : Encoder) (m : PlainMessage) → IsAt p e → e.stage ≡ Open m → IsSent p.size (p.header, m)
open_message p e m h k = subst (IsMessageIn p.size p.header) (h.stage ∙ k) h.begun

pub with_last_valid : (m : PlainMessage) (n : ℕ) (v : List ℕ) → IsMessage m → follows m n v ≡ true → IsMessage (with_last m n v)
with_last_valid m n v h f = let k = followed m n v f in (h.0, more_last 1 m.fields n v h.1 k.0 k.1)

pub field_taken : {E : Type 0} (r : Result Bool E) (e : Encoder) (m m' : PlainMessage) (n : ℕ) (v : List ℕ) → e.stage ≡ Open m → IfOk r (AddsField m n v m')
    → IfOk r (Takes e (Field n v) (record { size = e.size; stage = Open m'; header = e.header; count = e.count; frames = e.frames }))
field_taken (Ok true) e m m' n v open_ a = λ p h.
    let here : p.stage ≡ Open m = h.stage ∙ open_ in
    let sent = open_message p e m h open_ in (
      record { size = p.size; done = p.done; header = p.header; stage = Open m' },
      field_step p m n v here a.0 ∙ ap (opened p) (sym a.1),
      begun_at p e _ p.header (Open m') h refl refl (sym h.header) refl refl
          (sent.0, subst IsMessage (sym a.1) (with_last_valid m n v sent.1 a.0)),
    )
field_taken (Ok false) e m m' n v open_ a = λ p h.
    let here : p.stage ≡ Open m = h.stage ∙ open_ in (
      field_not p m n v here a.0,
      p,
      inl refl,
      record {
        size = h.size;
        stage = here ∙ ap Open (sym a.1);
        header = h.header;
        count = h.count;
        valid = h.valid;
        begun = h.begun;
        frames = h.frames;
      },
    )
field_taken (Err x) e m m' n v open_ a = tt

pub same_word : (w d t : List ℕ) (b : Bool) → b ≡ false → b ≡ not (bytes_eq w d) → d ≡ t → w ≡ t
same_word w d t b h e k = (bytes_eq-Decides w d).0 (is_true (bytes_eq w d) (sym e ∙ h)) ∙ k
  where
    is_true : (c : Bool) → not c ≡ false → c ≡ true
    is_true true h = refl
    is_true false h = absurd cc

pub other_word : (w d t : List ℕ) (b : Bool) → b ≡ true → b ≡ not (bytes_eq w d) → d ≡ t → w ≡ t → ⊥
other_word w d t b h e k same = absurd (let yes : bytes_eq w d ≡ true = (bytes_eq-Decides w d).1 (same ∙ sym k) in let no_ : b ≡ false = e ∙ ap not yes in cc)
