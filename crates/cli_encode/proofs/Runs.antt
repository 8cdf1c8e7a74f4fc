-- A text is read to the messages whose text it is.
-- for: text
use Rattle.std.proofs.Common.{◌≡◌, ◌∙◌, ◌<◌, ◌≤◌, ◌+◌, ◌^◌, ◌==◌, ℕ, Bool, true, false, cond, List, [], ◌∷◌, ◌++◌, length, map, Option, Some, None, refl, sym}
use Rattle.std.proofs.Common.{ap, subst, arith, append_assoc, append-nil, length-append}
use Rattle.std.specs.Prelude.{codes, option_and_then}
use Rattle.std.specs.Fmt.{decimal}
use Rattle.std.specs.List.{All, flat_map, count_by}
use Rattle.std.specs.Str.{bytes_eq}
use Rattle.std.proofs.lemmas.List.Elements.{All-append, All-head, All-tail, All-cons}
use Rattle.std.proofs.lemmas.Slice.Eq.{bytes_eq-Decides}
use Rattle.std.proofs.Common.{eqb, leb, ◌||◌}
use Rattle.std.specs.List.{list_all}
use Rattle.std.proofs.lemmas.Bool.{eqb-true, leb-true}
use Rattle.std.proofs.lemmas.List.Sums.{sum_by-append}
use Rattle.iso_msg.proofs.Bools.{and_both, eqb-false_from, some_is}
use Rattle.iso_msg.proofs.FieldLists.{taken_below}
use Rattle.iso_msg.specs.declared.error.MessageError.TheVariants.{BadContent, BadLength}
use Rattle.iso_msg.specs.declared.table.Content.{Content}
use Rattle.iso_msg.specs.declared.table.Content.TheVariants.{Numeric, Printable}
use Rattle.iso_msg.specs.declared.table.FieldForm.{FieldForm}
use Rattle.iso_msg.specs.declared.table.FieldForm.TheVariants.{Fixed, Variable, Binary}
use Rattle.iso_msg.specs.Table.{form_of}
use Rattle.iso_msg.specs.Values.{refusal_by, is_text, is_byte, takes}
use Rattle.iso_msg.specs.Messages.{Fields, PlainMessage, AreFields, IsMessage}
use Rattle.cli_decode.specs.Decoded.{field_line, header_line, message_text, shown}
use Rattle.cli_decode.specs.Printing.{opening_of}
use Rattle.iso_codec.specs.Spelling.{hex}
use Rattle.cli_encode.specs.declared.encoder.Stage.{Stage}
use Rattle.cli_encode.specs.declared.encoder.Stage.TheVariants.{Between, Headed, Open}
use Rattle.cli_encode.specs.Lines.{PlainLine, Heading, Header, MessageType, Field, IsLine, IsOnLine, ended_line, field_of, has_byte, line_bytes}
use Rattle.cli_encode.specs.Headers.{header_from}
use Rattle.cli_encode.specs.Lines.{header_lines, lines_of_message, text_of_lines}
use Rattle.cli_encode.specs.Reading.{Point, closed, closed_at, follows, headed, last_from, last_of, named, run, start, stage_text, step, step_at, text_of, with_last}
use Rattle.cli_encode.specs.Refusals.{IsNoText}
use Rattle.cli_encode.specs.Texts.{Sent, IsHeader, IsSent, messages_text}
use Rattle.cli_encode.proofs.Numbers.{none_in_number}
use Rattle.cli_encode.proofs.Cuts.{cut_once, mark_within}
use Rattle.cli_encode.proofs.LineTexts.{line_once, no_feed, digits_free}
use Rattle.cli_encode.proofs.Points.{field_step, header_step, heading_step, headed_is, may_follow, type_step}
use Rattle.cli_encode.proofs.Headers.{found, header_again_read}
use Rattle.cli_encode.proofs.Octets.{none_in_hex}

pub point_is : (p q : Point) → Some p ≡ Some q → p ≡ q
point_is p q e = some_is p q e

abbrev feeds_in : List ℕ → ℕ
feeds_in bytes = count_by (λ b. b == 10) bytes

-- ---- lines of a text, taken apart

pub lines_append : (us vs : List PlainLine) → text_of_lines (us ++ vs) ≡ text_of_lines us ++ text_of_lines vs
lines_append [] vs = refl
lines_append (u ∷ us) vs = ap (λ (t : List ℕ). ended_line u ++ t) (lines_append us vs)
    ∙ sym (append_assoc (ended_line u) (text_of_lines us) (text_of_lines vs))

-- one line, and what follows it
front : (l : PlainLine) (ls : List PlainLine) → text_of_lines (l ∷ ls) ≡ line_bytes l ++ 10 ∷ text_of_lines ls
front l ls = append_assoc (line_bytes l) (codes "\n") (text_of_lines ls)

nothing : (xs ys : List ℕ) (c : ℕ) → [] ≡ xs ++ c ∷ ys → ⊥
nothing [] ys c e = absurd cc
nothing (x ∷ xs) ys c e = absurd cc

pub split : (us ts : List PlainLine) (rest : List ℕ) → All IsLine us → All IsLine ts → text_of_lines ts ≡ text_of_lines us ++ rest
    → (vs : List PlainLine) × (ts ≡ us ++ vs) × (text_of_lines vs ≡ rest)
split [] ts rest a b e = (ts, refl, e)
split (u ∷ us) [] rest a b e = absurd (nothing (line_bytes u) (text_of_lines us ++ rest) 10 (e ∙ ap (λ (t : List ℕ). t ++ rest) (front u us)
    ∙ append_assoc (line_bytes u) (10 ∷ text_of_lines us) rest))
split (u ∷ us) (t ∷ ts) rest a b e =
    let fu = All-head IsLine u us a in
    let ft = All-head IsLine t ts b in
    let whole : line_bytes t ++ 10 ∷ text_of_lines ts ≡ line_bytes u ++ 10 ∷ (text_of_lines us ++ rest) =
    sym (front t ts) ∙ e ∙ ap (λ (x : List ℕ). x ++ rest) (front u us) ∙ append_assoc (line_bytes u) (10 ∷ text_of_lines us) rest in
    let cut = cut_once 10 (line_bytes t) (line_bytes u) (text_of_lines ts) (text_of_lines us ++ rest) (no_feed t ft) (no_feed u fu) whole in
    let same : t ≡ u = line_once t u ft fu cut.0 in
    let more = split us ts rest (All-tail IsLine u us a) (All-tail IsLine t ts b) cut.1 in
    (more.0, ap (λ (x : PlainLine). x ∷ ts) same ∙ ap (λ (l : List PlainLine). u ∷ l) more.1, more.2)

-- the next line is that of these bytes
pub next_line : (vs : List PlainLine) (bytes rest : List ℕ) → All IsLine vs → has_byte 10 bytes ≡ false → text_of_lines vs ≡ bytes ++ 10 ∷ rest
    → (v : PlainLine) × (ws : List PlainLine) × (vs ≡ v ∷ ws) × IsLine v × (line_bytes v ≡ bytes)
next_line [] bytes rest a clean e = absurd (nothing bytes rest 10 e)
next_line (v ∷ ws) bytes rest a clean e =
    let h = All-head IsLine v ws a in
    let cut = cut_once 10 (line_bytes v) bytes (text_of_lines ws) rest (no_feed v h) clean (sym (front v ws) ∙ e) in (v, ws, refl, h, cut.0)

-- no text of lines ends without a line feed
pub no_end : (vs : List PlainLine) (rest : List ℕ) → has_byte 10 rest ≡ false → (rest ≡ [] → ⊥) → text_of_lines vs ≡ rest → ⊥
no_end [] rest clean some e = some (sym e)
no_end (v ∷ ws) rest clean some e = mark_within 10 (line_bytes v) (text_of_lines ws) (subst (λ (t : List ℕ). has_byte 10 t ≡ false) (sym e ∙ front v ws) clean)

pub no_more : (vs : List PlainLine) → text_of_lines vs ≡ [] → vs ≡ []
no_more [] e = refl
no_more (v ∷ ws) e = absurd (nothing (line_bytes v) (text_of_lines ws) 10 (sym e ∙ front v ws))

-- ---- the lines of messages

abbrev pub lines_of : ℕ → List Sent → List PlainLine
lines_of n [] = []
lines_of n (x ∷ xs) = lines_of_message n x.0 x.1 ++ lines_of (n + 1) xs

field_text : (f : ℕ × List ℕ) → ended_line (field_of f) ≡ field_line f
field_text f =
    append_assoc (decimal f.0) (codes " " ++ shown (form_of f.0) f.1) (codes "\n")
    ∙ ap (λ (t : List ℕ). decimal f.0 ++ t) (append_assoc (codes " ") (shown (form_of f.0) f.1) (codes "\n"))

fields_text : (fs : Fields) → text_of_lines (map field_of fs) ≡ flat_map field_line fs
fields_text [] = refl
fields_text (f ∷ fs) = ap (λ (t : List ℕ). t ++ text_of_lines (map field_of fs)) (field_text f) ∙ ap (λ (t : List ℕ). field_line f ++ t) (fields_text fs)

-- a header's line
header_ended : (b : ℕ) (bs : List ℕ) → ended_line (Header (flat_map hex (b ∷ bs))) ≡ header_line (b ∷ bs)
header_ended b bs = append_assoc (codes "header ") (flat_map hex (b ∷ bs)) (codes "\n")

header_text : (header : List ℕ) → text_of_lines (header_lines header) ≡ header_line header
header_text [] = refl
header_text (b ∷ bs) = append-nil (ended_line (Header (flat_map hex (b ∷ bs)))) ∙ header_ended b bs

abbrev type_lines : PlainMessage → List PlainLine
type_lines m = MessageType m.mti ∷ map field_of m.fields

type_text : (m : PlainMessage) → text_of_lines (type_lines m) ≡ codes "mti " ++ (m.mti ++ (codes "\n" ++ flat_map field_line m.fields))
type_text m =
    let fs = flat_map field_line m.fields in
    ap (λ (t : List ℕ). ended_line (MessageType m.mti) ++ t) (fields_text m.fields)
    ∙ append_assoc (codes "mti " ++ m.mti) (codes "\n") fs ∙ append_assoc (codes "mti ") m.mti (codes "\n" ++ fs)

message_lines : (n : ℕ) (header : List ℕ) (m : PlainMessage) → text_of_lines (lines_of_message n header m) ≡ message_text n header m
message_lines n header m =
    let more = header_line header ++ (codes "mti " ++ (m.mti ++ (codes "\n" ++ flat_map field_line m.fields))) in
    ap (λ (t : List ℕ). ended_line (Heading (decimal n)) ++ t) (
    lines_append (header_lines header) (type_lines m)
    ∙ ap (λ (t : List ℕ). t ++ text_of_lines (type_lines m)) (header_text header)
    ∙ ap (λ (t : List ℕ). header_line header ++ t) (type_text m)
    )
    ∙ append_assoc (codes "message " ++ decimal n) (codes "\n") more
    ∙ append_assoc (codes "message ") (decimal n) (codes "\n" ++ more)

pub texts_are : (n : ℕ) (xs : List Sent) → messages_text n xs ≡ text_of_lines (lines_of n xs)
texts_are n [] = refl
texts_are n (x ∷ xs) =
    ap (λ (t : List ℕ). message_text n x.0 x.1 ++ t) (texts_are (n + 1) xs)
    ∙ ap (λ (t : List ℕ). t ++ text_of_lines (lines_of (n + 1) xs)) (sym (message_lines n x.0 x.1))
    ∙ sym (lines_append (lines_of_message n x.0 x.1) (lines_of (n + 1) xs))

-- ---- the lines of valid messages are lines

accepted : (a b : Bool) (n : ℕ) → cond a (cond b None (Some (BadContent n))) (Some (BadLength n)) ≡ None → (a ≡ true) × (b ≡ true)
accepted true true n e = (refl, refl)
accepted true false n e = absurd cc
accepted false b n e = absurd cc

prints_free : (ds : List ℕ) → list_all is_text ds ≡ true → has_byte 10 ds ≡ false
prints_free [] h = refl
prints_free (d ∷ ds) h =
    let p = and_both (is_text d) (list_all is_text ds) h in
    let r = and_both (leb 32 d) (leb d 126) p.0 in
    let a : 32 ≤ d = leb-true 32 d r.0 in
    ap (λ b. b || has_byte 10 ds) (eqb-false_from d 10 (λ e. omega (arith, e, a))) ∙ prints_free ds p.1

content_free : (content : Content) (v : List ℕ) → takes content v ≡ true → has_byte 10 v ≡ false
content_free Numeric v h = digits_free v h
content_free Printable v h = prints_free v h

on_line : (form : Option FieldForm) (n : ℕ) (v : List ℕ) → refusal_by form n v ≡ None → IsOnLine form v
on_line None n v e = absurd cc
on_line (Some Binary) n v e = let p = accepted (length v == 8) (list_all is_byte v) n e in (eqb-true (length v) 8 p.0, p.1)
on_line (Some (Fixed content exact)) n v e = content_free content v (accepted (length v == exact) (takes content v) n e).1
on_line (Some (Variable content length_digits most)) n v e = content_free content v (accepted (leb (length v) most) (takes content v) n e).1

fields_valid : (low : ℕ) (fs : Fields) → AreFields low fs → All IsLine (map field_of fs)
fields_valid low [] a = λ k d h. absurd (omega (arith, h))
fields_valid low (f ∷ fs) a =
    let small : f.0 < 129 = taken_below f.0 f.1 (form_of f.0) refl a.1 in
    All-cons IsLine (field_of f) (map field_of fs) (omega (arith, small), on_line (form_of f.0) f.0 f.1 a.1) (fields_valid f.0 fs a.2)

header_valid : (header : List ℕ) → list_all is_byte header ≡ true → All IsLine (header_lines header)
header_valid [] h = λ k d l. absurd (omega (arith, l))
header_valid (b ∷ bs) h = All-cons IsLine (Header (flat_map hex (b ∷ bs))) [] (none_in_hex (b ∷ bs) h) (λ k d l. absurd (omega (arith, l)))

message_valid : (size n : ℕ) (x : Sent) → n < 2 ^ 64 → IsSent size x → All IsLine (lines_of_message n x.0 x.1)
message_valid size n x h v =
    All-cons IsLine (Heading (decimal n)) (header_lines x.0 ++ type_lines x.1) (none_in_number 10 n (omega arith) h)
    (All-append IsLine (header_lines x.0) (type_lines x.1) (header_valid x.0 v.0.2)
    (All-cons IsLine (MessageType x.1.mti) (map field_of x.1.fields) v.1.0 (fields_valid 1 x.1.fields v.1.1)))

pub lines_valid : (size n : ℕ) (xs : List Sent) → n + length xs < 2 ^ 64 → All (IsSent size) xs → All IsLine (lines_of n xs)
lines_valid size n [] h v = λ k d l. absurd (omega (arith, l))
lines_valid size n (x ∷ xs) h v =
    All-append IsLine (lines_of_message n x.0 x.1) (lines_of (n + 1) xs)
    (message_valid size n x (omega (arith, h)) (All-head (IsSent size) x xs v))
    (lines_valid size (n + 1) xs (omega (arith, h)) (All-tail (IsSent size) x xs v))

-- each message has bytes
some_bytes : (n : ℕ) (header : List ℕ) (m : PlainMessage) → 1 ≤ length (message_text n header m)
some_bytes n header m =
    let more = codes "\n" ++ (header_line header ++ (codes "mti " ++ (m.mti ++ (codes "\n" ++ flat_map field_line m.fields)))) in
    let e : length (message_text n header m) ≡ 8 + length (decimal n ++ more) =
    length-append (codes "message ") (decimal n ++ more) in omega (arith, e)

pub few_messages : (n : ℕ) (xs : List Sent) → length xs ≤ length (messages_text n xs)
few_messages n [] = omega arith
few_messages n (x ∷ xs) =
    let e : length (messages_text n (x ∷ xs)) ≡ length (message_text n x.0 x.1) + length (messages_text (n + 1) xs) =
    length-append (message_text n x.0 x.1) (messages_text (n + 1) xs) in
    let one = some_bytes n x.0 x.1 in
    let more = few_messages (n + 1) xs in omega (arith, e, one, more)

-- ---- runs

after_both : (vs : List PlainLine) (us : List PlainLine) (o : Option Point) → ((q : Point) → run q (us ++ vs) ≡ option_and_then (λ r. run r vs) (run q us))
    → option_and_then (λ q. run q (us ++ vs)) o ≡ option_and_then (λ r. run r vs) (option_and_then (λ q. run q us) o)
after_both vs us None h = refl
after_both vs us (Some q) h = h q

pub run_append : (us vs : List PlainLine) (p : Point) → run p (us ++ vs) ≡ option_and_then (λ q. run q vs) (run p us)
run_append [] vs p = refl
run_append (u ∷ us) vs p = after_both vs us (step p u) (λ q. run_append us vs q)

pub run_push : (us : List PlainLine) (l : PlainLine) (p q r : Point) → run p us ≡ Some q → step q l ≡ Some r → run p (us ++ l ∷ []) ≡ Some r
run_push us l p q r h k = run_append us (l ∷ []) p ∙ ap (λ (o : Option Point). option_and_then (λ s. run s (l ∷ [])) o) h
    ∙ ap (λ (o : Option Point). option_and_then (λ s. run s []) o) k

one_step : (l : PlainLine) (ls : List PlainLine) (p q : Point) → step p l ≡ Some q → run p (l ∷ ls) ≡ run q ls
one_step l ls p q h = ap (λ (o : Option Point). option_and_then (λ s. run s ls) o) h

last_more : (low : ℕ) (fs : Fields) (n : ℕ) (v : List ℕ) → last_from low (fs ++ (n, v) ∷ []) ≡ n
last_more low [] n v = refl
last_more low (f ∷ fs) n v = last_more f.0 fs n v

abbrev point_at : ℕ → List Sent → List ℕ → Stage → Point
point_at size done header s = record { size = size; done = done; header = header; stage = s }

abbrev open_at : ℕ → List Sent → List ℕ → List ℕ → Fields → Point
open_at size done header mti fields = point_at size done header (Open (record { mti = mti; fields = fields }))

run_fields : (size : ℕ) (done : List Sent) (header mti : List ℕ) (acc fs : Fields) → AreFields (last_of acc) fs
    → run (open_at size done header mti acc) (map field_of fs) ≡ Some (open_at size done header mti (acc ++ fs))
run_fields size done header mti acc [] a = ap (λ (fs : Fields). Some (open_at size done header mti fs)) (sym (append-nil acc))
run_fields size done header mti acc (f ∷ fs) a =
    let m : PlainMessage = record { mti = mti; fields = acc } in
    one_step (field_of f) (map field_of fs) (open_at size done header mti acc) (open_at size done header mti (acc ++ f ∷ []))
    (field_step (open_at size done header mti acc) m f.0 f.1 refl (may_follow m f.0 f.1 a.0 a.1))
    ∙ run_fields size done header mti (acc ++ f ∷ []) fs (subst (λ (k : ℕ). AreFields k fs) (sym (last_more 1 acc f.0 f.1)) a.2)
    ∙ ap (λ (l : Fields). Some (open_at size done header mti l)) (append_assoc acc (f ∷ []) fs)

-- the type and the fields, after the heading and the header
run_type : (size : ℕ) (done : List Sent) (header : List ℕ) (m : PlainMessage) → length header ≡ size → IsMessage m
    → run (point_at size done header Headed) (type_lines m) ≡ Some (point_at size done header (Open m))
run_type size done header m whole v =
    let q = point_at size done header Headed in
    one_step (MessageType m.mti) (map field_of m.fields) q (open_at size done header m.mti [])
    (type_step q m.mti (record { mti = m.mti; fields = [] }) refl whole refl)
    ∙ run_fields size done header m.mti [] m.fields v.1

-- the header before them, if it has bytes
run_header : (size : ℕ) (done : List Sent) (header : List ℕ) (m : PlainMessage) → IsHeader size header → IsMessage m
    → run (point_at size done [] Headed) (header_lines header ++ type_lines m) ≡ Some (point_at size done header (Open m))
run_header size done [] m h v = run_type size done [] m h.0 v
run_header size done (b ∷ bs) m h v =
    let q = point_at size done [] Headed in
    let long : length (b ∷ bs) ≡ size = h.0 in
    one_step (Header (flat_map hex (b ∷ bs))) (type_lines m) q (point_at size done (b ∷ bs) Headed)
    (header_step q (flat_map hex (b ∷ bs)) (b ∷ bs) refl refl (header_again_read size (b ∷ bs) (omega (arith, long)) h))
    ∙ run_type size done (b ∷ bs) m h.0 v

abbrev opened_after : Point → Sent → Point
opened_after p x = point_at p.size (closed p).done x.0 (Open x.1)

run_message : (p : Point) (x : Sent) → (p.stage ≡ Headed → ⊥) → IsSent p.size x
    → run p (lines_of_message (length (closed p).done + 1) x.0 x.1) ≡ Some (opened_after p x)
run_message p x h v =
    let done = (closed p).done in
    one_step (Heading (decimal (length done + 1))) (header_lines x.0 ++ type_lines x.1) p (point_at p.size done [] Headed)
    (heading_step p (decimal (length done + 1)) h ∙ headed_is p.size done (decimal (length done + 1)) (length done) refl refl)
    ∙ run_header p.size done x.0 x.1 v.0 v.1

open_not_headed : (m : PlainMessage) → Open m ≡ Headed → ⊥
open_not_headed m e = absurd cc

pub run_all : (xs : List Sent) (p : Point) → (p.stage ≡ Headed → ⊥) → All (IsSent p.size) xs
    → (q : Point) × (run p (lines_of (length (closed p).done + 1) xs) ≡ Some q) × (q.stage ≡ Headed → ⊥) × ((closed q).done ≡ (closed p).done ++ xs)
run_all [] p h v = (p, refl, h, sym (append-nil (closed p).done))
run_all (x ∷ xs) p h v =
    let done = (closed p).done in
    let q = opened_after p x in
    let more = run_all xs q (open_not_headed x.1) (All-tail (IsSent p.size) x xs v) in
    let number : length (done ++ x ∷ []) + 1 ≡ length done + 1 + 1 = ap (λ k. k + 1) (length-append done (x ∷ [])) in (
      more.0,
      run_append (lines_of_message (length done + 1) x.0 x.1) (lines_of (length done + 1 + 1) xs) p
          ∙ ap (λ (o : Option Point). option_and_then (λ r. run r (lines_of (length done + 1 + 1) xs)) o)
          (run_message p x h (All-head (IsSent p.size) x xs v))
          ∙ ap (λ (k : ℕ). run q (lines_of k xs)) (sym number) ∙ more.1,
      more.2,
      more.3 ∙ append_assoc done (x ∷ []) xs,
    )

-- ---- what was read is the text of what it made

texts_append : (n : ℕ) (xs ys : List Sent) → messages_text n (xs ++ ys) ≡ messages_text n xs ++ messages_text (length xs + n) ys
texts_append n [] ys = ap (λ k. messages_text k ys) (let e : n ≡ 0 + n = omega arith in e)
texts_append n (x ∷ xs) ys =
    let text = message_text n x.0 x.1 in
    ap (λ (t : List ℕ). text ++ t) (texts_append (n + 1) xs ys)
    ∙ ap (λ k. text ++ (messages_text (n + 1) xs ++ messages_text k ys)) (let e : length xs + (n + 1) ≡ length (x ∷ xs) + n = omega arith in e)
    ∙ sym (append_assoc text (messages_text (n + 1) xs) (messages_text (length (x ∷ xs) + n) ys))

closed_text_at : (size : ℕ) (done : List Sent) (header : List ℕ) (s : Stage)
    → text_of (closed_at size done header s) ≡ text_of (point_at size done header s)
closed_text_at size done header Between = refl
closed_text_at size done header Headed = refl
closed_text_at size done header (Open m) =
    append-nil (messages_text 1 (done ++ (header, m) ∷ [])) ∙ texts_append 1 done ((header, m) ∷ [])
    ∙ ap (λ (t : List ℕ). messages_text 1 done ++ t) (append-nil (message_text (length done + 1) header m))

pub closed_text : (p : Point) → text_of (closed p) ≡ text_of p
closed_text p = closed_text_at p.size p.done p.header p.stage

head_line : (w : List ℕ) (n : ℕ) → w ≡ decimal n → opening_of n [] ≡ ended_line (Heading w)
head_line w n e = ap (λ (t : List ℕ). codes "message " ++ (t ++ codes "\n")) (sym e) ∙ sym (append_assoc (codes "message ") w (codes "\n"))

headed_by : (size : ℕ) (done : List Sent) (w : List ℕ) (b : Bool) (q : Point) → bytes_eq w (decimal (length done + 1)) ≡ b
    → cond b (Some (point_at size done [] Headed)) None ≡ Some q → text_of q ≡ messages_text 1 done ++ ended_line (Heading w)
headed_by size done w false q h e = absurd cc
headed_by size done w true q h e =
    ap text_of (sym (point_is (point_at size done [] Headed) q e))
    ∙ ap (λ (t : List ℕ). messages_text 1 done ++ t) (head_line w (length done + 1) ((bytes_eq-Decides w (decimal (length done + 1))).0 h))

headed_text : (size : ℕ) (done : List Sent) (w : List ℕ) (q : Point) → headed size done w ≡ Some q
    → text_of q ≡ messages_text 1 done ++ ended_line (Heading w)
headed_text size done w q e = headed_by size done w (bytes_eq w (decimal (length done + 1))) q refl e

more_text : (size : ℕ) (done : List Sent) (old new : List ℕ) (s t : Stage) (line : List ℕ)
    → stage_text (length done + 1) new t ≡ stage_text (length done + 1) old s ++ line
    → text_of (point_at size done new t) ≡ text_of (point_at size done old s) ++ line
more_text size done old new s t line e =
    ap (λ (x : List ℕ). messages_text 1 done ++ x) e ∙ sym (append_assoc (messages_text 1 done) (stage_text (length done + 1) old s) line)

-- a header after a heading
spelled_line : (header digits : List ℕ) → 0 < length header → flat_map hex header ≡ digits → header_line header ≡ ended_line (Header digits)
spelled_line [] digits some e = absurd (omega (arith, some))
spelled_line (b ∷ bs) digits some e = sym (header_ended b bs) ∙ ap (λ (t : List ℕ). ended_line (Header t)) e

opening_more : (n : ℕ) (header line : List ℕ) → header_line header ≡ line → opening_of n header ≡ opening_of n [] ++ line
opening_more n header line e =
    ap (λ (t : List ℕ). codes "message " ++ (decimal n ++ (codes "\n" ++ t))) e
    ∙ sym (append_assoc (codes "message ") (decimal n ++ codes "\n") line
    ∙ ap (λ (t : List ℕ). codes "message " ++ t) (append_assoc (decimal n) (codes "\n") line))

named_by : (size : ℕ) (done : List Sent) (old digits : List ℕ) (o : Option (List ℕ)) (q : Point)
    → ((header : List ℕ) → o ≡ Some header → (0 < length header) × (flat_map hex header ≡ digits)) → named size done old o ≡ Some q
    → text_of q ≡ text_of (point_at size done old Headed) ++ ended_line (Header digits)
named_by size done (b ∷ bs) digits o q h e = absurd cc
named_by size done [] digits None q h e = absurd cc
named_by size done [] digits (Some header) q h e =
    let f = h header refl in
    ap text_of (sym (point_is (point_at size done header Headed) q e))
    ∙ more_text size done [] header Headed Headed (ended_line (Header digits))
    (opening_more (length done + 1) header (ended_line (Header digits)) (spelled_line header digits f.0 f.1))

named_text : (size : ℕ) (done : List Sent) (old digits : List ℕ) (q : Point) → named size done old (header_from size digits) ≡ Some q
    → text_of q ≡ text_of (point_at size done old Headed) ++ ended_line (Header digits)
named_text size done old digits q e =
    named_by size done old digits (header_from size digits) q (λ header is.
    let f = found size digits header is in
    let long : length header ≡ size = f.1.0 in
    let some : 0 < size = f.0 in (omega (arith, long, some), f.2)) e

-- a type after them
typed_text : (n : ℕ) (header d : List ℕ) → message_text n header (record { mti = d; fields = [] }) ≡ opening_of n header ++ ended_line (MessageType d)
typed_text n header d =
    let line = ended_line (MessageType d) in
    sym (append_assoc (codes "message ") (decimal n ++ (codes "\n" ++ header_line header)) line
    ∙ ap (λ (t : List ℕ). codes "message " ++ t) (append_assoc (decimal n) (codes "\n" ++ header_line header) line)
    ∙ ap (λ (t : List ℕ). codes "message " ++ (decimal n ++ t)) (append_assoc (codes "\n") (header_line header) line)
    ∙ ap (λ (t : List ℕ). codes "message " ++ (decimal n ++ (codes "\n" ++ (header_line header ++ t)))) (append_assoc (codes "mti ") d (codes "\n")))

typed_by : (size : ℕ) (done : List Sent) (header d : List ℕ) (b : Bool) (q : Point) → cond b (Some (open_at size done header d [])) None ≡ Some q
    → text_of q ≡ text_of (point_at size done header Headed) ++ ended_line (MessageType d)
typed_by size done header d false q e = absurd cc
typed_by size done header d true q e =
    ap text_of (sym (point_is (open_at size done header d []) q e))
    ∙ more_text size done header header Headed (Open (record { mti = d; fields = [] })) (ended_line (MessageType d)) (typed_text (length done + 1) header d)

flat_push : (fs : Fields) (f : ℕ × List ℕ) → flat_map field_line (fs ++ f ∷ []) ≡ flat_map field_line fs ++ field_line f
flat_push [] f = append-nil (field_line f)
flat_push (g ∷ fs) f = ap (λ (t : List ℕ). field_line g ++ t) (flat_push fs f) ∙ sym (append_assoc (field_line g) (flat_map field_line fs) (field_line f))

field_added : (k : ℕ) (header : List ℕ) (m : PlainMessage) (n : ℕ) (v : List ℕ)
    → message_text k header (with_last m n v) ≡ message_text k header m ++ ended_line (Field n v)
field_added k header m n v =
    let fs = flat_map field_line m.fields in
    let line = ended_line (Field n v) in
    let rest = codes "mti " ++ (m.mti ++ (codes "\n" ++ fs)) in
    ap (λ (t : List ℕ). opened_text (codes "mti " ++ (m.mti ++ (codes "\n" ++ t))))
    (flat_push m.fields (n, v) ∙ ap (λ (t : List ℕ). fs ++ t) (sym (field_text (n, v))))
    ∙ ap (λ (t : List ℕ). opened_text (codes "mti " ++ (m.mti ++ t))) (sym (append_assoc (codes "\n") fs line))
    ∙ ap (λ (t : List ℕ). opened_text (codes "mti " ++ t)) (sym (append_assoc m.mti (codes "\n" ++ fs) line))
    ∙ ap opened_text (sym (append_assoc (codes "mti ") (m.mti ++ (codes "\n" ++ fs)) line))
    ∙ ap (λ (t : List ℕ). codes "message " ++ (decimal k ++ (codes "\n" ++ t))) (sym (append_assoc (header_line header) rest line))
    ∙ ap (λ (t : List ℕ). codes "message " ++ (decimal k ++ t)) (sym (append_assoc (codes "\n") (header_line header ++ rest) line))
    ∙ ap (λ (t : List ℕ). codes "message " ++ t) (sym (append_assoc (decimal k) (codes "\n" ++ (header_line header ++ rest)) line))
    ∙ sym (append_assoc (codes "message ") (decimal k ++ (codes "\n" ++ (header_line header ++ rest))) line)
  where
    opened_text : List ℕ → List ℕ
    opened_text t = codes "message " ++ (decimal k ++ (codes "\n" ++ (header_line header ++ t)))

field_by : (size : ℕ) (done : List Sent) (header : List ℕ) (m : PlainMessage) (n : ℕ) (v : List ℕ) (b : Bool) (q : Point)
    → cond b (Some (point_at size done header (Open (with_last m n v)))) None ≡ Some q
    → text_of q ≡ text_of (point_at size done header (Open m)) ++ ended_line (Field n v)
field_by size done header m n v false q e = absurd cc
field_by size done header m n v true q e =
    ap text_of (sym (point_is (point_at size done header (Open (with_last m n v))) q e))
    ∙ more_text size done header header (Open m) (Open (with_last m n v)) (ended_line (Field n v)) (field_added (length done + 1) header m n v)

between_text : (size : ℕ) (done : List Sent) (header line : List ℕ) → messages_text 1 done ++ line ≡ text_of (point_at size done header Between) ++ line
between_text size done header line = ap (λ (t : List ℕ). t ++ line) (sym (append-nil (messages_text 1 done)))

step_text_at : (size : ℕ) (done : List Sent) (header : List ℕ) (s : Stage) (l : PlainLine) (q : Point) → step_at size done header s l ≡ Some q
    → text_of q ≡ text_of (point_at size done header s) ++ ended_line l
unfolding step_at
step_text_at size done header Between (Heading w) q e = headed_text size done w q e ∙ between_text size done header (ended_line (Heading w))
step_text_at size done header Between (Header d) q e = absurd cc
step_text_at size done header Between (MessageType d) q e = absurd cc
step_text_at size done header Between (Field n v) q e = absurd cc
step_text_at size done header Headed (Heading w) q e = absurd cc
step_text_at size done header Headed (Header d) q e = named_text size done header d q e
step_text_at size done header Headed (MessageType d) q e = typed_by size done header d (eqb (length header) size) q e
step_text_at size done header Headed (Field n v) q e = absurd cc
step_text_at size done header (Open m) (Heading w) q e =
    headed_text size (done ++ (header, m) ∷ []) w q e
    ∙ between_text size (done ++ (header, m) ∷ []) header (ended_line (Heading w))
    ∙ ap (λ (t : List ℕ). t ++ ended_line (Heading w)) (closed_text_at size done header (Open m))
step_text_at size done header (Open m) (Header d) q e = absurd cc
step_text_at size done header (Open m) (MessageType d) q e = absurd cc
step_text_at size done header (Open m) (Field n v) q e = field_by size done header m n v (follows m n v) q e

pub step_text : (p : Point) (l : PlainLine) (q : Point) → step p l ≡ Some q → text_of q ≡ text_of p ++ ended_line l
step_text p l q e = step_text_at p.size p.done p.header p.stage l q e

pub run_some : (us : List PlainLine) (u : PlainLine) (p q : Point) (o : Option Point) → step p u ≡ o → option_and_then (λ r. run r us) o ≡ Some q
    → (r : Point) × (step p u ≡ Some r) × (run r us ≡ Some q)
run_some us u p q None h e = absurd cc
run_some us u p q (Some r) h e = (r, h, e)

pub run_text : (us : List PlainLine) (p q : Point) → run p us ≡ Some q → text_of q ≡ text_of p ++ text_of_lines us
run_text [] p q e = ap text_of (sym (point_is p q e)) ∙ sym (append-nil (text_of p))
run_text (u ∷ us) p q e =
    let s = run_some us u p q (step p u) refl e in
    run_text us s.0 q s.2 ∙ ap (λ (t : List ℕ). t ++ text_of_lines us) (step_text p u s.0 s.1) ∙ append_assoc (text_of p) (ended_line u) (text_of_lines us)

-- ---- a text that cannot be read further is the text of no messages

all_after : (us vs : List PlainLine) → All IsLine (us ++ vs) → All IsLine vs
all_after [] vs a = a
all_after (u ∷ us) vs a = all_after us vs (All-tail IsLine u (us ++ vs) a)

pub none_by : (size : ℕ) (text rest : List ℕ) (us : List PlainLine) (p : Point) → All IsLine us → run (start size) us ≡ Some p
    → text ≡ text_of_lines us ++ rest → length text < 2 ^ 63
    → ((vs : List PlainLine) → All IsLine vs → text_of_lines vs ≡ rest → (q : Point) → run p vs ≡ Some q → (q.stage ≡ Headed → ⊥) → ⊥)
    → IsNoText size text
none_by size text rest us p are reached is small none ms valid e =
    let few : length ms ≤ length (messages_text 1 ms) = few_messages 1 ms in
    let long : length text ≡ length (messages_text 1 ms) = ap length e in
    let lines = lines_of 1 ms in
    let all : All IsLine lines = lines_valid size 1 ms (omega (arith, few, long, small)) valid in
    let sp = split us lines rest are all (sym (texts_are 1 ms) ∙ sym e ∙ is) in
    let r = run_all ms (start size) (λ k. absurd (between_not_headed k)) valid in
    let on : run p sp.0 ≡ Some r.0 =
    sym (ap (λ (o : Option Point). option_and_then (λ s. run s sp.0) o) reached) ∙ sym (run_append us sp.0 (start size))
    ∙ ap (run (start size)) (sym sp.1) ∙ r.1 in
    none sp.0 (all_after us sp.0 (subst (All IsLine) sp.1 all)) sp.2 r.0 on r.2
  where
    between_not_headed : Between ≡ Headed → ⊥
    between_not_headed k = absurd cc

none_is_some : (q : Point) (o : Option Point) → o ≡ None → o ≡ Some q → ⊥
none_is_some q o a b = absurd (let e : None ≡ Some q = sym a ∙ b in cc)

-- at a line that is not allowed there
pub none_there : (size : ℕ) (text bytes after : List ℕ) (us : List PlainLine) (p : Point) → All IsLine us → run (start size) us ≡ Some p
    → text ≡ text_of_lines us ++ (bytes ++ 10 ∷ after) → length text < 2 ^ 63 → has_byte 10 bytes ≡ false
    → ((l : PlainLine) → IsLine l → line_bytes l ≡ bytes → step p l ≡ None) → IsNoText size text
none_there size text bytes after us p are reached is small clean none =
    none_by size text (bytes ++ 10 ∷ after) us p are reached is small (λ vs a e q h k.
    let n = next_line vs bytes after a clean e in
    none_is_some q (run p (n.0 ∷ n.1))
    (ap (λ (o : Option Point). option_and_then (λ s. run s n.1) o) (none n.0 n.3 n.4))
    (ap (run p) (sym n.2) ∙ h))

-- at a last line without a line feed
pub none_unended : (size : ℕ) (text rest : List ℕ) (us : List PlainLine) (p : Point) → All IsLine us → run (start size) us ≡ Some p
    → text ≡ text_of_lines us ++ rest → length text < 2 ^ 63 → has_byte 10 rest ≡ false → (rest ≡ [] → ⊥) → IsNoText size text
none_unended size text rest us p are reached is small clean some =
    none_by size text rest us p are reached is small (λ vs a e q h k. no_end vs rest clean some e)

-- at the end, after a heading
pub none_headed : (size : ℕ) (text rest : List ℕ) (us : List PlainLine) (p : Point) → All IsLine us → run (start size) us ≡ Some p
    → text ≡ text_of_lines us ++ rest → length text < 2 ^ 63 → rest ≡ [] → p.stage ≡ Headed → IsNoText size text
none_headed size text rest us p are reached is small nothing_ headed_ =
    none_by size text rest us p are reached is small (λ vs a e q h k.
    let all : vs ≡ [] = no_more vs (e ∙ nothing_) in
    let same : p ≡ q = point_is p q (ap (run p) (sym all) ∙ h) in
    k (ap (λ (r : Point). r.stage) (sym same) ∙ headed_))

-- ---- lines are counted

count_append : (xs ys : List ℕ) → feeds_in (xs ++ ys) ≡ feeds_in xs + feeds_in ys
count_append xs ys = sum_by-append (λ b. cond (b == 10) 1 0) xs ys

none_counted : (xs : List ℕ) → has_byte 10 xs ≡ false → feeds_in xs ≡ 0
none_counted [] h = refl
none_counted (x ∷ xs) h = by (x == 10) refl h (λ k. none_counted xs k)
  where
    by : (b : Bool) → (x == 10) ≡ b → (b || has_byte 10 xs) ≡ false → (has_byte 10 xs ≡ false → feeds_in xs ≡ 0) → feeds_in (x ∷ xs) ≡ 0
    by true e k more = absurd cc
    by false e k more = count_append (x ∷ []) xs ∙ ap (λ (c : Bool). 0 + cond c 1 0 + feeds_in xs) e ∙ ap (λ (n : ℕ). 0 + 0 + n) (more k)

one_feed : (l : PlainLine) → IsLine l → feeds_in (ended_line l) ≡ 1
one_feed l h = count_append (line_bytes l) (codes "\n") ∙ ap (λ n. n + feeds_in (codes "\n")) (none_counted (line_bytes l) (no_feed l h))

pub lines_counted : (us : List PlainLine) → All IsLine us → feeds_in (text_of_lines us) ≡ length us
lines_counted [] a = refl
lines_counted (u ∷ us) a =
    let e : feeds_in (text_of_lines (u ∷ us)) ≡ feeds_in (ended_line u) + feeds_in (text_of_lines us) = count_append (ended_line u) (text_of_lines us) in
    let one = one_feed u (All-head IsLine u us a) in
    let more = lines_counted us (All-tail IsLine u us a) in omega (arith, e, one, more)
