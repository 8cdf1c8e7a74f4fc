-- When bytes are a frame.
-- for: way::send_over, frame::Frame
use Rattle.std.proofs.Common.{◌≡◌, ℕ, ◌+◌, ◌-◌, ◌&&◌, ◌≤◌, Bool, true, false, List, ◌++◌, length, take, drop, Option, Some, None, nat_le, refl, sym, ap, subst, ◌∙◌, arith}
use Rattle.std.proofs.lemmas.List.{length-append, length-take-le, length-drop, take-append-drop}
use Rattle.std.proofs.Math.Seq.{take-append_seam, drop-append_seam}
use Rattle.std.proofs.lemmas.Grind.{common_steps}
use Rattle.std.proofs.lemmas.Bool.Decides.{nat_tests}
use Rattle.sw_base.specs.Digits.{number_of}
use Rattle.sw_frame.specs.Stream.{Framed}
use Rattle.sw_wire.specs.Framing.{is_frame, is_number}

-- the message of a frame is what comes after its length
pub framed_drop : (text message : List ℕ) → Framed text message → Framed text (drop 4 text)
framed_drop text message (digits, is, size, number) =
    let seam : drop (length digits) (digits ++ message) ≡ message = drop-append_seam digits message in
    let rest : drop 4 text ≡ message = ap (drop 4) is ∙ subst (λ (n : ℕ). drop n (digits ++ message) ≡ message) size seam in
    subst (Framed text) (sym rest) (digits, is, size, number)

is_number_same : (o : Option ℕ) (n : ℕ) → o ≡ Some n → is_number o n ≡ true
is_number_same None n e = absurd (cc)
is_number_same (Some m) n e = grind (arith, common_steps)

number_is : (o : Option ℕ) (n : ℕ) → is_number o n ≡ true → o ≡ Some n
number_is None n e = absurd (cc)
number_is (Some m) n e = grind (arith, common_steps)

both_true : (a b : Bool) → a ≡ true → b ≡ true → (a && b) ≡ true
both_true true true h k = refl
both_true true false h k = absurd (cc)
both_true false b h k = absurd (cc)

first_true : (a b : Bool) → (a && b) ≡ true → a ≡ true
first_true true b h = refl
first_true false b h = absurd (cc)

second_true : (a b : Bool) → (a && b) ≡ true → b ≡ true
second_true true b h = h
second_true false b h = absurd (cc)

pub framed_is_frame : (text message : List ℕ) → Framed text message → is_frame text ≡ true
framed_is_frame text message (digits, is, size, number) =
    let sized : length (digits ++ message) ≡ 4 + length message = length-append digits message ∙ ap (λ (n : ℕ). n + length message) size in
    let front : take 4 (digits ++ message) ≡ digits = subst (λ (n : ℕ). take n (digits ++ message) ≡ digits) size (take-append_seam digits message) in
    let rest : length (digits ++ message) - 4 ≡ length message = omega arith in
    let long : nat_le 4 (length (digits ++ message)) ≡ true = grind (arith, nat_tests) in
    subst (λ (t : List ℕ). is_frame t ≡ true) (sym is)
    (both_true _ _ long (is_number_same _ _ (ap number_of front ∙ number ∙ ap Some (sym rest))))

pub frame_is_framed : (text : List ℕ) → is_frame text ≡ true → Framed text (drop 4 text)
frame_is_framed text is =
    let sized : nat_le 4 (length text) ≡ true =
    first_true (nat_le 4 (length text)) (is_number (number_of (take 4 text)) (length text - 4)) is in
    let spelled : is_number (number_of (take 4 text)) (length text - 4) ≡ true =
    second_true (nat_le 4 (length text)) (is_number (number_of (take 4 text)) (length text - 4)) is in
    let long : 4 ≤ length text = grind (arith, nat_tests) in
    let number : number_of (take 4 text) ≡ Some (length text - 4) = number_is (number_of (take 4 text)) (length text - 4) spelled in
    (take 4 text, sym (take-append-drop 4 text), length-take-le 4 text long, number ∙ ap Some (sym (length-drop 4 text)))
