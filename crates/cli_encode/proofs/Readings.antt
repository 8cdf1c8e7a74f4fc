-- How far a text is read.
-- for: text, stream
use Rattle.std.proofs.Common.{◌≡◌, ◌∙◌, ◌<◌, ◌+◌, ◌^◌, ◌==◌, ◌⊎◌, inl, inr, ℕ, Bool, true, false, List, [], ◌∷◌, ◌++◌, length, Option, Some, None, Result, Ok, Err}
use Rattle.std.proofs.Common.{refl, sym, ap, subst, arith, append_assoc, append-nil, length-append}
use Rattle.std.specs.Prelude.{codes, vec_len}
use Rattle.std.specs.Global.{Vec}
use Rattle.std.specs.Option.{IfSome}
use Rattle.std.specs.Result.{IfOk}
use Rattle.std.specs.List.{All, count_by}
use Rattle.std.specs.Io.KnownBytes.{Appends}
use Rattle.std.proofs.lemmas.List.Elements.{All-push}
use Rattle.iso_msg.proofs.Bools.{eqb-false_from}
use Rattle.cli_encode.specs.declared.encoder.Encoder.{Encoder}
use Rattle.cli_encode.specs.declared.encoder.Stage.{Stage}
use Rattle.cli_encode.specs.declared.encoder.Stage.TheVariants.{Between, Headed, Open}
use Rattle.cli_encode.specs.Lines.{PlainLine, IsLine, ended_line, has_byte, line_bytes, text_of_lines}
use Rattle.cli_encode.specs.Reading.{Point, IsBlank, IsMessageIn, IsReadUpTo, IsReadWhole, IsSoFar, Finishes, Takes, TakesBytes, closed, closed_at, stage_text}
use Rattle.cli_encode.specs.Reading.{start, step, text_of}
use Rattle.cli_encode.specs.Refusals.{IsHead, IsRefusal}
use Rattle.cli_encode.specs.Texts.{Sent, IsEncoded, IsSent, messages_text}
use Rattle.cli_encode.proofs.LineTexts.{line_once}
use Rattle.cli_encode.proofs.Runs.{closed_text, lines_append, lines_counted, none_headed, none_there, none_unended, run_push, run_text}
use Rattle.cli_encode.proofs.Sizes.{closed_size, run_size, same_size}

pub bytes_taken : {E : Type 0} (r : Result Bool E) (e e' : Encoder) (l : PlainLine) (bytes : List ℕ) → IsLine l → line_bytes l ≡ bytes
    → IfOk r (Takes e l e') → IfOk r (TakesBytes e bytes e')
bytes_taken (Ok true) e e' l bytes fits is h = (l, fits, is, h)
bytes_taken (Ok false) e e' l bytes fits is h = λ p at_.
    let r = h p at_ in (
      λ k other here. subst (λ (x : PlainLine). step p x ≡ None) (line_once l k fits other (is ∙ sym here)) r.0,
      r.1,
      r.2,
      r.3,
    )
bytes_taken (Err x) e e' l bytes fits is h = tt

pub begins : (size : ℕ) (text : List ℕ) (e : Encoder) → IsBlank size e → IsSoFar size text text 0 e
begins size text e blank = record {
  read = [];
  point = start size;
  are_lines = λ k d h. absurd (omega (arith, h));
  reached = refl;
  at = record {
    size = sym blank.sized;
    stage = sym blank.stage;
    header = sym blank.header;
    count = blank.count;
    valid = λ k d h. absurd (omega (arith, h));
    begun = tt;
    frames = blank.frames;
  };
  whole = refl;
  counted = refl;
}

pub goes_on : (size : ℕ) (text rest line after : List ℕ) (lines : ℕ) (e e' : Encoder) → IsSoFar size text rest lines e → line ++ 10 ∷ after ≡ rest
    → TakesBytes e line e' true → IsSoFar size text after (lines + 1) e'
goes_on size text rest line after lines e e' h cut takes =
    let l : PlainLine = takes.0 in
    let next = takes.3 h.point h.at in
    let more : ended_line l ++ after ≡ rest = append_assoc (line_bytes l) (codes "\n") after ∙ ap (λ (t : List ℕ). t ++ 10 ∷ after) takes.2 ∙ cut in
    record {
      read = h.read ++ l ∷ [];
      point = next.0;
      are_lines = All-push IsLine h.read l h.are_lines takes.1;
      reached = run_push h.read l (start size) h.point next.0 h.reached next.1;
      at = next.2;
      whole = h.whole ∙ ap (λ (t : List ℕ). text_of_lines h.read ++ t) (sym more)
          ∙ sym (append_assoc (text_of_lines h.read) (ended_line l) after)
          ∙ ap (λ (t : List ℕ). t ++ after) (ap (λ (t : List ℕ). text_of_lines h.read ++ t) (sym (append-nil (ended_line l)))
          ∙ sym (lines_append h.read (l ∷ [])));
      counted = ap (λ n. n + 1) h.counted ∙ sym (length-append h.read (l ∷ []));
    }

read_is : (size : ℕ) (text rest : List ℕ) (lines : ℕ) (e : Encoder) (h : IsSoFar size text rest lines e) → text_of_lines h.read ≡ text_of h.point
read_is size text rest lines e h = sym (run_text h.read (start size) h.point h.reached)

point_size : (size : ℕ) (text rest : List ℕ) (lines : ℕ) (e : Encoder) (h : IsSoFar size text rest lines e) → h.point.size ≡ size
point_size size text rest lines e h = run_size h.read (start size) h.point h.reached

same_text : (p q : Point) → (q ≡ p) ⊎ (q ≡ closed p) → text_of q ≡ text_of p
same_text p q (inl e) = ap text_of e
same_text p q (inr e) = ap text_of e ∙ closed_text p

counted_is : (size : ℕ) (text rest : List ℕ) (lines : ℕ) (e : Encoder) (h : IsSoFar size text rest lines e)
    → lines ≡ count_by (λ b. b == 10) (text_of_lines h.read)
counted_is size text rest lines e h = h.counted ∙ sym (lines_counted h.read h.are_lines)

pub up_to_line : (size : ℕ) (text rest line after : List ℕ) (lines : ℕ) (e e' : Encoder) → IsSoFar size text rest lines e
    → line ++ 10 ∷ after ≡ rest → has_byte 10 line ≡ false
    → length text < 2 ^ 63 → TakesBytes e line e' false → IsReadUpTo size text lines e'
up_to_line size text rest line after lines e e' h cut clean small takes =
    let r = takes h.point h.at in
    record {
      point = r.1;
      before = text_of_lines h.read;
      rest = rest;
      at = r.3;
      sized = same_size h.point r.1 r.2 ∙ point_size size text rest lines e h;
      whole = h.whole;
      begun = read_is size text rest lines e h ∙ sym (same_text h.point r.1 r.2);
      counted = counted_is size text rest lines e h;
      refused = none_there size text line after h.read h.point h.are_lines h.reached (h.whole ∙ ap (λ (t : List ℕ). text_of_lines h.read ++ t) (sym cut)) small
          clean r.0;
      stuck = inr (
        line,
        after,
        sym cut,
        clean,
        λ more few. none_there size (text_of_lines h.read ++ (line ++ 10 ∷ more)) line more h.read h.point h.are_lines
            h.reached refl few clean r.0,
      );
    }

pub up_to_end : (size : ℕ) (text rest : List ℕ) (lines : ℕ) (e : Encoder) → IsSoFar size text rest lines e → has_byte 10 rest ≡ false
    → (rest ≡ [] → ⊥) → length text < 2 ^ 63 → IsReadUpTo size text lines e
up_to_end size text rest lines e h clean some small = record {
  point = h.point;
  before = text_of_lines h.read;
  rest = rest;
  at = h.at;
  sized = point_size size text rest lines e h;
  whole = h.whole;
  begun = read_is size text rest lines e h;
  counted = counted_is size text rest lines e h;
  refused = none_unended size text rest h.read h.point h.are_lines h.reached h.whole small clean some;
  stuck = inl clean;
}

pub up_to_heading : (size : ℕ) (text rest : List ℕ) (lines : ℕ) (e e' : Encoder) → IsSoFar size text rest lines e → rest ≡ [] → length text < 2 ^ 63
    → Finishes e e' false → IsReadUpTo size text lines e'
up_to_heading size text rest lines e e' h none small ends =
    let r = ends h.point h.at in
    record {
      point = h.point;
      before = text_of_lines h.read;
      rest = rest;
      at = r.1;
      sized = point_size size text rest lines e h;
      whole = h.whole;
      begun = read_is size text rest lines e h;
      counted = counted_is size text rest lines e h;
      refused = none_headed size text rest h.read h.point h.are_lines h.reached h.whole small none r.0;
      stuck = inl (ap (has_byte 10) none);
    }

between_at : (k : ℕ) (done : List Sent) (header : List ℕ) (s : Stage) → (s ≡ Headed → ⊥) → (closed_at k done header s).stage ≡ Between
between_at k done header Between h = refl
between_at k done header Headed h = absurd (h refl)
between_at k done header (Open m) h = refl

pub to_the_end : (size : ℕ) (text rest : List ℕ) (lines : ℕ) (e e' : Encoder) → IsSoFar size text rest lines e → rest ≡ [] → Finishes e e' true
    → IsReadWhole size text e'
to_the_end size text rest lines e e' h none ends =
    let r = ends h.point h.at in
    let here : (closed h.point).stage ≡ Between = between_at h.point.size h.point.done h.point.header h.point.stage r.0 in
    let done = (closed h.point).done in
    let header = (closed h.point).header in (
      closed h.point,
      r.1,
      closed_size h.point ∙ point_size size text rest lines e h,
      here,
      h.whole ∙ ap (λ (t : List ℕ). text_of_lines h.read ++ t) none ∙ append-nil (text_of_lines h.read) ∙ read_is size text rest lines e h
          ∙ sym (closed_text h.point)
          ∙ ap (λ (s : Stage). messages_text 1 done ++ stage_text (length done + 1) header s) here ∙ append-nil (messages_text 1 done),
    )

-- ---- what is written

pub if_known : {A : Type 0} {P Q : A → Type 0} (o : Option A) → ((x : A) → P x → Q x) → IfSome o P → IfSome o Q
if_known None f h = tt
if_known (Some x) f h = f x h

head_of : (size n : ℕ) (header : List ℕ) (s : Stage) → IsMessageIn size header s → IsHead size n (stage_text n header s)
head_of size n header Between h = inl refl
head_of size n header Headed h = inr (inl (header, h, refl))
head_of size n header (Open m) h = inr (inr ((header, m), h, refl))

pub encoded : (size : ℕ) (text : List ℕ) (e : Encoder) (old new : Option (List ℕ)) → IsReadWhole size text e → Appends old new e.frames.items
    → IsEncoded size text old new
encoded size text e old new h wrote =
    (h.0.done, subst (λ j. All (IsSent j) h.0.done) h.2 h.1.valid, h.4, (e.frames.items, h.1.frames, wrote))

pub refused_at : (size : ℕ) (text : List ℕ) (lines line : ℕ) (e : Encoder) (old new : Option (List ℕ)) → IsReadUpTo size text lines e → line ≡ lines + 1
    → Appends old new e.frames.items → IsRefusal size text line old new
refused_at size text lines line e old new h is wrote = record {
  messages = h.point.done;
  before = h.before;
  rest = h.rest;
  valid = subst (λ k. All (IsSent k) h.point.done) h.sized h.at.valid;
  whole = h.whole;
  begun = (
    stage_text (length h.point.done + 1) h.point.header h.point.stage,
    h.begun,
    subst (λ k. IsHead k (length h.point.done + 1) (stage_text (length h.point.done + 1) h.point.header h.point.stage)) h.sized
        (head_of h.point.size (length h.point.done + 1) h.point.header h.point.stage h.at.begun),
  );
  line_number = is ∙ ap (λ n. n + 1) h.counted;
  refused = h.refused;
  stuck = h.stuck;
  written_frames = (e.frames.items, h.at.frames, wrote);
}

-- ---- whether a text goes on

pub by_items : (v : Vec ℕ) → (vec_len v == 0) ≡ (length v.items == 0)
by_items v = let e : vec_len v ≡ length v.items = omega (arith, v.ok) in ap (λ k. k == 0) e

pub some_rest : (rest : List ℕ) (b : Bool) → b ≡ (length rest == 0) → b ≡ false → rest ≡ [] → ⊥
some_rest rest b is no_ e = absurd (let yes : b ≡ true = is ∙ ap (λ (l : List ℕ). length l == 0) e in cc)

pub no_rest : (rest : List ℕ) (b : Bool) → b ≡ (length rest == 0) → b ≡ true → rest ≡ []
no_rest [] b is t = refl
no_rest (x ∷ xs) b is t = absurd (let no_ : b ≡ false = is ∙ eqb-false_from (length (x ∷ xs)) 0 (λ e. omega (arith, e)) in cc)
