-- Lines that are spelled out are read back.
-- for: reader::load
use Rattle.std.specs.Prelude.{◌==◌, not}
use Rattle.std.specs.Fmt.{decimal}
use Rattle.std.specs.Str.{all_ascii_digits}
use Rattle.std.specs.List.{list_all}
use Rattle.std.proofs.Common.{◌≡◌, ℕ, zero, suc, ◌+◌, ◌-◌, ◌*◌, ◌<◌, ◌≤◌, Bool, true, false, List, [], ◌∷◌, ◌++◌, length, get_or, Some, Result, Ok, refl, sym}
use Rattle.std.proofs.Common.{ap, ◌∙◌, append_assoc, arith, nat_le, codes, eq-eqb}
use Rattle.std.proofs.lemmas.Bool.Decides.{nat_tests}
use Rattle.std.proofs.lemmas.List.{append-nil}
use Rattle.std.proofs.lemmas.List.Folds.{list_all-append}
use Rattle.std.proofs.lemmas.Fmt.{digits_decimal, digits_value-decimal, decimal_digit, decimal_nonempty, first_decimal}
use Rattle.sw_participant.specs.declared.kind.Kind.{Kind}
use Rattle.flow_model.specs.declared.numbering.Part.{Part}
use Rattle.sw_context.specs.Names.{is_name, is_name_byte}
use Rattle.flow_asm.specs.declared.code.GroupStart.{GroupStart}
use Rattle.flow_asm.specs.declared.code.Step.{Step}
use Rattle.flow_asm.specs.declared.code.Step.TheVariants.{Call, Pick, Return}
use Rattle.flow_load.specs.declared.error.LoadError.{LoadError}
use Rattle.flow_load.specs.declared.error.LoadError.TheVariants.{BadHeader, BadLine}
use Rattle.flow_load.specs.declared.lines.Lines.{Lines}
use Rattle.flow_load.specs.Image.{Text, kind_word, kind_text, part_text, group_text, step_text, lines_text, header_text, spelled}
use Rattle.flow_load.specs.Reads.{found}
use Rattle.flow_load.specs.Words.{cut, value_on, is_plain, number, kind_of, number_of, number_at, name_at, is_within}
use Rattle.flow_load.specs.Forms.{part_form, group_form, step_of, step_form, is_header, header_form, header_at, line_at, items_at, lines_in}
use Rattle.sw_context.proofs.NameLaws.{name-bytes}
use Rattle.flow_load.proofs.Conjunctions.{first_part, second_part}
use Rattle.flow_load.proofs.LineSpelling.{own, read_on}
use Rattle.std.proofs.lemmas.Bool.{or_right}

-- a text without this byte
abbrev pub lacks : ℕ → Text → Bool
lacks b w = list_all (λ x. not (x == b)) w

cut_again : (b : ℕ) (w rest : Text) → lacks b w ≡ true → cut b (w ++ b ∷ rest) ≡ Some (w, rest)
cut_again b [] rest h = rw (eq-eqb b b refl) refl
cut_again b (x ∷ xs) rest h =
    let here = first_part (not (x == b)) (lacks b xs) h in
    let other : (x == b) ≡ false = differs (x == b) here in
    rw (other, cut_again b xs rest (second_part (not (x == b)) (lacks b xs) h)) refl
  where
    differs : (c : Bool) → not c ≡ true → c ≡ false
    differs true g = absurd (cc)
    differs false g = refl

lacks_word : (w rest : Text) → lacks 10 w ≡ true → lacks 10 rest ≡ true → lacks 10 (w ++ 32 ∷ rest) ≡ true
lacks_word w rest a b = list_all-append (λ x. not (x == 10)) w (32 ∷ rest) ∙ rw (a, b) refl

digit_differs : (b c : ℕ) → b < 48 → is_within 48 57 c ≡ true → not (c == b) ≡ true
digit_differs b c h d = grind (arith, nat_tests)

digits_lack : (b : ℕ) (w : Text) → b < 48 → all_ascii_digits w ≡ true → lacks b w ≡ true
digits_lack b [] h d = refl
digits_lack b (c ∷ cs) h d = rw (
  digit_differs b c h (first_part (is_within 48 57 c) (all_ascii_digits cs) d),
  digits_lack b cs h (second_part (is_within 48 57 c) (all_ascii_digits cs) d),
) refl

name_byte_differs : (b c : ℕ) → b < 45 → is_name_byte c ≡ true → not (c == b) ≡ true
name_byte_differs b c h d = grind (arith, nat_tests)

name_bytes_lack : (b : ℕ) (w : Text) → b < 45 → list_all is_name_byte w ≡ true → lacks b w ≡ true
name_bytes_lack b [] h d = refl
name_bytes_lack b (c ∷ cs) h d = rw (
  name_byte_differs b c h (first_part (is_name_byte c) (list_all is_name_byte cs) d),
  name_bytes_lack b cs h (second_part (is_name_byte c) (list_all is_name_byte cs) d),
) refl

name_lacks : (b : ℕ) (w : Text) → b < 45 → is_name w ≡ true → lacks b w ≡ true
name_lacks b w h n = name_bytes_lack b w h (name-bytes w n)

decimal_lacks : (b n : ℕ) → b < 48 → n ≤ 100000 → lacks b (decimal n) ≡ true
decimal_lacks b n h le = digits_lack b (decimal n) h (digits_decimal own n (omega arith))

grows : (n : ℕ) (w : Text) → n ≤ read_on n w
grows n [] = omega arith
grows n (c ∷ cs) = omega (arith, grows (10 * n + (c - 48)) cs)

value_again : (m : ℕ) (w : Text) (r : ℕ) → all_ascii_digits w ≡ true → read_on m w ≡ r → r ≤ 100000 → value_on m w ≡ Some r
value_again m [] r d e le = ap Some e
value_again m (c ∷ cs) r d e le =
    let digit : is_within 48 57 c ≡ true = first_part (is_within 48 57 c) (all_ascii_digits cs) d in
    let more = grows (10 * m + (c - 48)) cs in
    let low : 10 * m + (c - 48) ≤ 100000 = omega (arith, more, e, le) in
    let small : nat_le (10 * m + (c - 48)) 100000 ≡ true = grind (arith, nat_tests) in
    rw (digit, small) (value_again (10 * m + (c - 48)) cs r (second_part (is_within 48 57 c) (all_ascii_digits cs) d) e le)

plain_when : (w : Text) → 0 < length w → 48 < get_or w 0 0 → is_plain w ≡ true
plain_when w long first =
    let some : nat_le 1 (length w) ≡ true = grind (arith, nat_tests) in
    let lead : (get_or w 0 0 == 48) ≡ false = grind (arith, nat_tests) in
    rw (some, lead) (or_right (length w == 1) true refl)

number_again : (n : ℕ) → n ≤ 100000 → number (decimal n) ≡ Some n
number_again zero le = ap number (decimal_digit 0 (omega arith))
number_again (suc n) le =
    let plain = plain_when (decimal (suc n)) (decimal_nonempty (suc n) (omega arith)) (first_decimal (suc n) (omega arith) (omega arith)) in
    rw plain (value_again 0 (decimal (suc n)) (suc n) (digits_decimal own (suc n) (omega arith)) (digits_value-decimal own (suc n) (omega arith)) le)

number_of_again : (e : LoadError) (n : ℕ) → n ≤ 100000 → number_of e (decimal n) ≡ Ok n
number_of_again e n le = ap (found e) (number_again n le)

number_at_again : (e : LoadError) (n : ℕ) (rest : Text) → n ≤ 100000 → number_at e (decimal n ++ 32 ∷ rest) ≡ Ok (n, rest)
number_at_again e n rest le = rw (cut_again 32 (decimal n) rest (decimal_lacks 32 n (omega arith) le), number_again n le) refl

name_at_again : (e : LoadError) (w rest : Text) → is_name w ≡ true → name_at e (w ++ 32 ∷ rest) ≡ Ok (w, rest)
name_at_again e w rest h = rw (cut_again 32 w rest (name_lacks 32 w (omega arith) h), h) refl

kind_word_again : (s a r : Bool) → kind_of (kind_word s a r) ≡ Some (record { selector = s; abort_aware = a; recovers = r })
unfolding kind_of
kind_word_again false false false = refl
kind_word_again true false false = refl
kind_word_again false true false = refl
kind_word_again true true false = refl
kind_word_again false false true = refl
kind_word_again true false true = refl
kind_word_again false true true = refl
kind_word_again true true true = refl

kind_word_lacks : (s a r : Bool) → lacks 10 (kind_word s a r) ≡ true
kind_word_lacks false false false = refl
kind_word_lacks true false false = refl
kind_word_lacks false true false = refl
kind_word_lacks true true false = refl
kind_word_lacks false false true = refl
kind_word_lacks true false true = refl
kind_word_lacks false true true = refl
kind_word_lacks true true true = refl

kind_again : (e : LoadError) (k : Kind) → found e (kind_of (kind_text k)) ≡ Ok k
kind_again e k = ap (found e) (kind_word_again k.selector k.abort_aware k.recovers)

part_again : (e : LoadError) (n : ℕ) (p : Part) → n ≤ 100000 → is_name p.name ≡ true → part_form e (part_text n p) ≡ Ok (n, p)
unfolding part_form
part_again e n p le h = rw (number_at_again e n (p.name ++ 32 ∷ kind_text p.kind) le, name_at_again e p.name (kind_text p.kind) h, kind_again e p.kind) refl

part_lacks : (n : ℕ) (p : Part) → n ≤ 100000 → is_name p.name ≡ true → lacks 10 (part_text n p) ≡ true
part_lacks n p le h =
    lacks_word (decimal n) (p.name ++ 32 ∷ kind_text p.kind) (decimal_lacks 10 n (omega arith) le)
    (lacks_word p.name (kind_text p.kind) (name_lacks 10 p.name (omega arith) h) (kind_word_lacks p.kind.selector p.kind.abort_aware p.kind.recovers))

group_again : (e : LoadError) (n : ℕ) (s : GroupStart) → n ≤ 100000 → is_name s.name ≡ true → s.first ≤ 100000 → group_form e (group_text n s) ≡ Ok (n, s)
unfolding group_form
group_again e n s le h low = rw (
  number_at_again e n (s.name ++ 32 ∷ decimal s.first) le,
  name_at_again e s.name (decimal s.first) h,
  number_of_again e s.first low,
) refl

group_lacks : (n : ℕ) (s : GroupStart) → n ≤ 100000 → is_name s.name ≡ true → s.first ≤ 100000 → lacks 10 (group_text n s) ≡ true
group_lacks n s le h low =
    lacks_word (decimal n) (s.name ++ 32 ∷ decimal s.first) (decimal_lacks 10 n (omega arith) le)
    (lacks_word s.name (decimal s.first) (name_lacks 10 s.name (omega arith) h) (decimal_lacks 10 s.first (omega arith) low))

-- the participant of a step has a small number
abbrev pub IsSmallStep : Step → Type 0
IsSmallStep (Call p) = p ≤ 100000
IsSmallStep (Pick p) = p ≤ 100000
IsSmallStep Return = Unit {0}

step_again : (e : LoadError) (n : ℕ) (s : Step) → n ≤ 100000 → IsSmallStep s → step_form e (step_text n s) ≡ Ok (n, s)
unfolding step_form step_of
step_again e n (Call p) le low = rw (number_at_again e n (codes "call" ++ 32 ∷ decimal p) le, number_of_again e p low) refl
step_again e n (Pick p) le low = rw (number_at_again e n (codes "pick" ++ 32 ∷ decimal p) le, number_of_again e p low) refl
step_again e n Return le low = rw (number_at_again e n (codes "return") le) refl

step_lacks : (n : ℕ) (s : Step) → n ≤ 100000 → IsSmallStep s → lacks 10 (step_text n s) ≡ true
step_lacks n (Call p) le low = lacks_word (decimal n) (codes "call" ++ 32 ∷ decimal p) (decimal_lacks 10 n (omega arith) le)
    (decimal_lacks 10 p (omega arith) low)
step_lacks n (Pick p) le low = lacks_word (decimal n) (codes "pick" ++ 32 ∷ decimal p) (decimal_lacks 10 n (omega arith) le)
    (decimal_lacks 10 p (omega arith) low)
step_lacks n Return le low = lacks_word (decimal n) (codes "return") (decimal_lacks 10 n (omega arith) le) refl

-- each item has it
abbrev pub Each : {A : Type 0} → (A → Type 0) → List A → Type 0
Each P [] = Unit {0}
Each P (x ∷ xs) = P x × Each P xs

-- what a form reads back of an item
record IsReread {A : Type 0} (form : LoadError → Text → Result (ℕ × A) LoadError) (spell : ℕ → A → Text) (n : ℕ) (x : A) : Type 0 where
  read : (e : LoadError) → form e (spell n x) ≡ Ok (n, x)
  whole : lacks 10 (spell n x) ≡ true

module _ {A : Type 0} (form : LoadError → Text → Result (ℕ × A) LoadError) (spell : ℕ → A → Text) (P : A → Type 0) where
  line_again : (n at : ℕ) (x : A) (rest : Text) → IsReread form spell n x → line_at form n at (spell n x ++ 10 ∷ rest) ≡ Ok (x, rest)
  line_again n at x rest r = rw (cut_again 10 (spell n x) rest r.whole, r.read (BadLine at), eq-eqb n n refl) refl

  items_again : ((n : ℕ) (x : A) → n ≤ 100000 → P x → IsReread form spell n x) → (xs : List A) (n at : ℕ) (rest : Text) → Each P xs →
      n + length xs ≤ 100000 → items_at form (length xs) n at (lines_text spell n xs ++ rest) ≡ Ok (xs, rest)
  unfolding items_at
  items_again each [] n at rest h le = refl
  items_again each (x ∷ xs) n at rest h le =
      let next : Text = lines_text spell (n + 1) xs ++ rest in
      let first = line_again n at x next (each n x (omega arith) h.0) in
      let more = items_again each xs (n + 1) (at + 1) rest h.1 (omega arith) in
      ap (items_at form (suc (length xs)) n at) (append_assoc (spell n x) (10 ∷ lines_text spell (n + 1) xs) rest) ∙ rw (first, more) refl

abbrev pub IsNamedPart : Part → Type 0
IsNamedPart p = is_name p.name ≡ true

pub record IsSmallStart (s : GroupStart) : Type 0 where
  pub name : is_name s.name ≡ true
  pub first : s.first ≤ 100000

-- lines that can stand in an image
pub record IsWithinLimits (l : Lines) : Type 0 where
  pub version : (1 ≤ l.version) × (l.version ≤ 2)
  pub retries : l.retries ≤ 100
  pub parts : length l.parts ≤ 16384
  pub starts : length l.starts ≤ 256
  pub steps : length l.steps ≤ 33024
  pub part : Each IsNamedPart l.parts
  pub start : Each IsSmallStart l.starts
  pub step : Each IsSmallStep l.steps

header_form_again : (v r p g s : ℕ) → v ≤ 100000 → r ≤ 100000 → p ≤ 100000 → g ≤ 100000 → s ≤ 100000 →
    header_form (header_text v r p g s) ≡ Ok (record { version = v; retries = r; parts = p; groups = g; steps = s })
unfolding header_form
header_form_again v r p g s a b c d e =
    rw (
      number_at_again BadHeader v (decimal r ++ 32 ∷ (decimal p ++ 32 ∷ (decimal g ++ 32 ∷ decimal s))) a,
      number_at_again BadHeader r (decimal p ++ 32 ∷ (decimal g ++ 32 ∷ decimal s)) b,
      number_at_again BadHeader p (decimal g ++ 32 ∷ decimal s) c,
      number_at_again BadHeader g (decimal s) d,
      number_of_again BadHeader s e,
    ) refl

header_lacks : (v r p g s : ℕ) → v ≤ 100000 → r ≤ 100000 → p ≤ 100000 → g ≤ 100000 → s ≤ 100000 → lacks 10 (header_text v r p g s) ≡ true
header_lacks v r p g s a b c d e =
    lacks_word (decimal v) (decimal r ++ 32 ∷ (decimal p ++ 32 ∷ (decimal g ++ 32 ∷ decimal s))) (decimal_lacks 10 v (omega arith) a)
    (lacks_word (decimal r) (decimal p ++ 32 ∷ (decimal g ++ 32 ∷ decimal s)) (decimal_lacks 10 r (omega arith) b)
    (lacks_word (decimal p) (decimal g ++ 32 ∷ decimal s) (decimal_lacks 10 p (omega arith) c)
    (lacks_word (decimal g) (decimal s) (decimal_lacks 10 g (omega arith) d) (decimal_lacks 10 s (omega arith) e))))

within_limits : (v r p g s : ℕ) → 1 ≤ v → v ≤ 2 → r ≤ 100 → p ≤ 16384 → g ≤ 256 → s ≤ 33024 →
    is_header (record { version = v; retries = r; parts = p; groups = g; steps = s }) ≡ true
within_limits v r p g s a b c d e f =
    let one : nat_le 1 v ≡ true = grind (arith, nat_tests) in
    let two : nat_le v 2 ≡ true = grind (arith, nat_tests) in
    let three : nat_le r 100 ≡ true = grind (arith, nat_tests) in
    let four : nat_le p 16384 ≡ true = grind (arith, nat_tests) in
    let five : nat_le g 256 ≡ true = grind (arith, nat_tests) in
    let six : nat_le s 33024 ≡ true = grind (arith, nat_tests) in
    rw (one, two, three, four, five, six) refl

header_again : (v r p g s : ℕ) (rest : Text) → 1 ≤ v → v ≤ 2 → r ≤ 100 → p ≤ 16384 → g ≤ 256 → s ≤ 33024 →
    header_at (header_text v r p g s ++ 10 ∷ rest) ≡ Ok (record { version = v; retries = r; parts = p; groups = g; steps = s }, rest)
unfolding header_at
header_again v r p g s rest a b c d e f =
    rw (
      cut_again 10 (header_text v r p g s) rest (header_lacks v r p g s (omega arith) (omega arith) (omega arith) (omega arith) (omega arith)),
      header_form_again v r p g s (omega arith) (omega arith) (omega arith) (omega arith) (omega arith),
      within_limits v r p g s a b c d e f,
    ) refl

parts_again : (ps : List Part) (rest : Text) → Each IsNamedPart ps → length ps ≤ 16384 →
    items_at part_form (length ps) 0 2 (lines_text part_text 0 ps ++ rest) ≡ Ok (ps, rest)
parts_again ps rest h le = items_again part_form part_text IsNamedPart (λ n p small named. record {
  read = λ e. part_again e n p small named;
  whole =
      part_lacks n p small named;
}) ps 0 2 rest h (omega arith)

starts_again : (ss : List GroupStart) (at : ℕ) (rest : Text) → Each IsSmallStart ss → length ss ≤ 256 →
    items_at group_form (length ss) 0 at (lines_text group_text 0 ss ++ rest) ≡ Ok (ss, rest)
starts_again ss at rest h le = items_again group_form group_text IsSmallStart
    (λ n s small within_limits_of. record {
      read = λ e. group_again e n s small within_limits_of.name within_limits_of.first;
      whole =
          group_lacks n s small within_limits_of.name within_limits_of.first;
    }) ss 0 at rest h (omega arith)

steps_again : (xs : List Step) (at : ℕ) → Each IsSmallStep xs → length xs ≤ 33024 → items_at step_form (length xs) 0 at (lines_text step_text 0 xs)
    ≡ Ok (xs, [])
steps_again xs at h le = ap (items_at step_form (length xs) 0 at) (sym (append-nil (lines_text step_text 0 xs))) ∙ items_again step_form step_text
    IsSmallStep (λ n s small within_limits_of. record {
      read = λ e. step_again e n s small within_limits_of;
      whole =
          step_lacks n s small within_limits_of;
    }) xs 0 at [] h (omega arith)

-- lines that are spelled are read back
pub lines_again : (l : Lines) → IsWithinLimits l → lines_in (spelled l) ≡ Ok l
unfolding lines_in
lines_again l f =
    let tail : Text = lines_text group_text 0 l.starts ++ lines_text step_text 0 l.steps in
    rw (
      header_again l.version l.retries (length l.parts) (length l.starts) (length l.steps) (lines_text part_text 0 l.parts ++ tail) f.version.0 f.version.1
          f.retries f.parts f.starts f.steps,
      parts_again l.parts tail f.part f.parts,
      starts_again l.starts (2 + length l.parts) (lines_text step_text 0 l.steps) f.start f.starts,
      steps_again l.steps (2 + length l.parts + length l.starts) f.step f.steps,
    ) refl
