-- What is read of a stream of frames.
-- for: frames::Frames, arrival::arrival_of, reader::put_messages
use Rattle.std.proofs.Common.{◌≡◌, ◌<◌, ◌≤◌, ℕ, ◌+◌, List, [], ◌∷◌, ◌++◌, length, take, drop, take-append-drop, get_or, Option}
use Rattle.std.proofs.Common.{Result, Ok, Err, refl, sym}
use Rattle.std.proofs.Common.{ap, arith, ◌∙◌, inl, append-nil}
use Rattle.std.proofs.KnownBytes.{Consumes-kept, Consumes-nil, Consumes-trans}
use Rattle.std.proofs.lemmas.List.{length-append, length-take-le, map-append, take_more}
use Rattle.std.specs.Io.KnownBytes.{Consumes, Keeps}
use Rattle.std.specs.Global.{Vec}
use Rattle.sw_context.specs.Pairs.{Pairs}
use Rattle.sw_frame.specs.declared.error.FrameError.{FrameError}
use Rattle.sw_frame.specs.declared.error.FrameError.TheVariants as frame
use Rattle.sw_frame.specs.Feeds.{StreamGoesOnFrom, messages}
use Rattle.sw_frame.specs.Stream.{State, blank}
use Rattle.iso_msg.specs.Messages.{PlainMessage}
use Rattle.iso_codec.specs.declared.error.DecodeError.{DecodeError}
use Rattle.iso_codec.specs.Reads.{type_of}
use Rattle.std.specs.Prelude.{is_some, true, false}
use Rattle.run_input.specs.Requests.{FramesIn, Readable, Reading, Reads, ReadsOn, Unreadable, header_of, headers_in, passed_over, reading_by, reading_of}
use Rattle.run_input.specs.Requests.{readings, request_of, requests_in}

-- what is read of a frame

-- a frame whose message has a type is a request
pub typed_reading : (n : ℕ) (r : Result PlainMessage DecodeError) (frame : List ℕ) → is_some (type_of r) ≡ true
    → reading_by n r frame ≡ Readable (request_of n frame)
typed_reading n (Ok m) frame typed = refl
typed_reading n (Err e) frame typed = absurd cc

pub unread_reading : (n : ℕ) (r : Result PlainMessage DecodeError) (e : DecodeError) (frame : List ℕ) → r ≡ Err e
    → reading_by n r frame ≡ Unreadable (header_of n frame)
unread_reading n r e frame is = rw is refl

pub message_typed : (r : Result PlainMessage DecodeError) (m : PlainMessage) → r ≡ Ok m → is_some (type_of r) ≡ false → ⊥
message_typed r m is untyped = let some : is_some (type_of r) ≡ true = rw is refl in cc

-- of more frames

pub requests_in_append : (xs ys : List Reading) → requests_in (xs ++ ys) ≡ requests_in xs ++ requests_in ys
requests_in_append [] ys = refl
requests_in_append (Readable x ∷ xs) ys = ap (λ (l : List Pairs). x ∷ l) (requests_in_append xs ys)
requests_in_append (Unreadable h ∷ xs) ys = requests_in_append xs ys

pub headers_in_append : (xs ys : List Reading) → headers_in (xs ++ ys) ≡ headers_in xs ++ headers_in ys
headers_in_append [] ys = refl
headers_in_append (Readable x ∷ xs) ys = headers_in_append xs ys
headers_in_append (Unreadable h ∷ xs) ys = ap (λ (l : List (List ℕ)). h ∷ l) (headers_in_append xs ys)

pub unread_append : (xs ys : List Reading) → length (headers_in (xs ++ ys)) ≡ length (headers_in xs) + length (headers_in ys)
unread_append xs ys = ap length (headers_in_append xs ys) ∙ length-append (headers_in xs) (headers_in ys)

pub readings_append : (n : ℕ) (ms ns : List (List ℕ)) → readings n (ms ++ ns) ≡ readings n ms ++ readings n ns
readings_append n ms ns = map-append (reading_of n) ms ns

pub readings_more : (n : ℕ) (ms : List (List ℕ)) (m : List ℕ) → readings n (ms ++ m ∷ []) ≡ readings n ms ++ reading_of n m ∷ []
readings_more n ms m = readings_append n ms (m ∷ [])

pub passed_over_append : (n : ℕ) (ms ns : List (List ℕ)) → passed_over n (ms ++ ns) ≡ passed_over n ms + passed_over n ns
passed_over_append n ms ns = ap (λ (l : List Reading). length (headers_in l)) (readings_append n ms ns) ∙ unread_append (readings n ms) (readings n ns)

pub readings_next : (n : ℕ) (list : List (Vec ℕ)) (i : ℕ) (m : Vec ℕ) (bytes : List ℕ) → i < length list → m ≡ get_or list i m → bytes ≡ m.items →
    readings n (messages (take (i + 1) list)) ≡ readings n (messages (take i list)) ++ reading_of n bytes ∷ []
readings_next n list i m bytes lt at is =
    let more : take (i + 1) list ≡ take i list ++ m ∷ [] = take_more list i m lt ∙ ap (λ (v : Vec ℕ). take i list ++ v ∷ []) (sym at) in
    rw (is, more, map-append) (readings_more n (messages (take i list)) m.items)

-- the first messages, and the others
pub readings_front : (n : ℕ) (list : List (Vec ℕ)) (k : ℕ)
    → readings n (messages list) ≡ readings n (messages (take k list)) ++ readings n (messages (drop k list))
readings_front n list k =
    let halves : messages (take k list ++ drop k list) ≡ messages (take k list) ++ messages (drop k list) =
    map-append (λ (v : Vec ℕ). v.items) (take k list) (drop k list) in
    ap (λ (l : List (Vec ℕ)). readings n (messages l)) (sym (take-append-drop k list))
    ∙ (ap (readings n) halves ∙ readings_append n (messages (take k list)) (messages (drop k list)))

pub passed_over_next : (n : ℕ) (list : List (Vec ℕ)) (i : ℕ) (m : Vec ℕ) (bytes : List ℕ) → i < length list → m ≡ get_or list i m → bytes ≡ m.items →
    passed_over n (messages (take (i + 1) list)) ≡ passed_over n (messages (take i list)) + length (headers_in (reading_of n bytes ∷ []))
passed_over_next n list i m bytes lt at is =
    ap (λ (l : List Reading). length (headers_in l)) (readings_next n list i m bytes lt at is)
    ∙ unread_append (readings n (messages (take i list))) (reading_of n bytes ∷ [])

-- streams

pub no_more_frames : (piece : List ℕ) (s t : State) (e : FrameError) → (e ≡ frame.OutOfMemory → ⊥) → StreamGoesOnFrom piece (Err e) s t → FramesIn piece [] s t
no_more_frames piece s t frame.OutOfMemory differs goes = absurd (differs refl)
no_more_frames piece s t frame.BadLength differs goes = λ before frames stream. rw append-nil (goes before frames stream)
no_more_frames piece s t frame.TooLong differs goes = λ before frames stream. rw append-nil (goes before frames stream)

pub reads_piece : (left then : Option (List ℕ)) (piece : List ℕ) (more : List (List ℕ)) (s t : State) → Consumes left then piece → FramesIn piece more s t →
    ReadsOn left s more then t
reads_piece left then piece more s t consumes adds = λ before frames reads. record {
  taken = reads.taken ++ piece;
  consumes = Consumes-trans before left then reads.taken piece reads.consumes consumes;
  stream = adds reads.taken frames reads.stream;
}

pub reads_nothing : (left then : Option (List ℕ)) (s : State) → Keeps left then → ReadsOn left s [] then s
reads_nothing left then s keeps = λ before frames reads. record {
  taken = reads.taken;
  consumes = Consumes-kept before left then reads.taken reads.consumes keeps;
  stream = rw append-nil reads.stream;
}

pub nothing_read : (left : Option (List ℕ)) (s : State) → s ≡ blank → Reads left left [] s
nothing_read left s same = rw same (record {
  taken = [];
  consumes = Consumes-nil left;
  stream = record { text = []; rest = []; whole = refl; frames = refl; ends = inl (inl (omega arith), refl) };
})

-- a buffer keeps its length while it is read into
pub still_room : (n : ℕ) (xs ys : List ℕ) → 0 < n → n ≤ length xs → 0 < length (take n (xs ++ ys))
still_room n xs ys some le =
    let whole = length-append xs ys in
    let taken = length-take-le n (xs ++ ys) (omega (arith, le, whole)) in
    omega (arith, some, taken)
