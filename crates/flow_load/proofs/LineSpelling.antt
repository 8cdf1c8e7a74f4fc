-- A line spells what is read from it.
-- for: reader::load
use Rattle.std.specs.Prelude.{◌==◌, slice_index, not, ◌&&◌, ◌||◌, find, if◌then◌else◌}
use Rattle.std.specs.Fmt.{decimal}
use Rattle.std.specs.Str.{bytes_eq, all_ascii_digits}
use Rattle.std.proofs.Common.{◌≡◌, ℕ, zero, suc, ◌+◌, ◌-◌, ◌*◌, ◌^◌, ◌<◌, ◌≤◌, Bool, true, false, List, [], ◌∷◌, ◌++◌, length, get_or, Option, Some, None}
use Rattle.std.proofs.Common.{option_map, Result, Ok, Err, refl, sym, ap, ◌∙◌, subst, append_assoc, arith, inl, inr, nat_le, cond, codes, rules}
use Rattle.std.proofs.lemmas.Bool.{cases_Bool}
use Rattle.std.proofs.lemmas.Bool.Decides.{nat_tests}
use Rattle.std.proofs.lemmas.List.{append-nil}
use Rattle.std.proofs.lemmas.Slice.Eq.{bytes_eq-Decides}
use Rattle.std.proofs.lemmas.Str.Parse.{IsNumeralModel, numerals_by_fold}
use Rattle.std.proofs.lemmas.Fmt.{decimal-digits_value}
use Rattle.sw_participant.specs.declared.kind.Kind.{Kind}
use Rattle.flow_model.specs.declared.numbering.Part.{Part}
use Rattle.sw_context.specs.Names.{is_name}
use Rattle.flow_asm.specs.declared.code.GroupStart.{GroupStart}
use Rattle.flow_asm.specs.declared.code.Step.{Step}
use Rattle.flow_asm.specs.declared.code.Step.TheVariants.{Call, Pick, Return}
use Rattle.flow_load.specs.declared.error.LoadError.{LoadError}
use Rattle.flow_load.specs.declared.error.LoadError.TheVariants.{BadHeader, BadLine, BadNumber}
use Rattle.flow_load.specs.declared.lines.ImageHeader.{ImageHeader}
use Rattle.flow_load.specs.declared.lines.Lines.{Lines}
use Rattle.flow_load.specs.Image.{Text, kind_text, part_text, group_text, step_text, lines_text, header_text, spelled}
use Rattle.flow_load.specs.Reads.{◌>>=◌, found}
use Rattle.flow_load.specs.Words.{cut, value_on, is_plain, number, kinds, is_spelled, kind_of, word_at, number_of, number_at, word_is, name_of, name_at}
use Rattle.flow_load.specs.Words.{is_within}
use Rattle.flow_load.specs.Forms.{ended, in_place, part_form, group_form, step_named, step_of, step_form, is_header, header_form, header_at, line_at, items_at}
use Rattle.flow_load.specs.Forms.{lines_in}

abbrev okay : {A : Type 0} → A → Result A LoadError
okay x = Ok x

pub same_value : {A : Type 0} (x y : A) → okay x ≡ Ok y → x ≡ y
same_value x y h = cc

pub same_pair : {A B : Type 0} (x y : A × B) → okay x ≡ Ok y → (x.0 ≡ y.0) × (x.1 ≡ y.1)
same_pair x y h = (ap (λ p. p.0) (same_value x y h), ap (λ p. p.1) (same_value x y h))

pub if_ok : {A : Type 0} (b : Bool) (r : Result A LoadError) (e : LoadError) (y : A) → cond b r (Err e) ≡ Ok y → (b ≡ true) × (r ≡ Ok y)
if_ok true r e y h = (refl, h)
if_ok false r e y h = absurd (cc)

-- what a bind read, for the rest of a proof
pub with_bind : {A B : Type 0} (P : Type 0) (r : Result A LoadError) (f : A → Result B LoadError) (y : B) → ((x : A) → r ≡ Ok x → f x ≡ Ok y → P) →
    (r >>= f) ≡ Ok y → P
with_bind P (Ok x) f y go h = go x refl h
with_bind P (Err e) f y go h = absurd (cc)

abbrev then_word : Text → Text → Text
then_word w rest = w ++ 32 ∷ rest

abbrev front : ℕ → Option (Text × Text) → Option (Text × Text)
front x o = option_map (λ p. (x ∷ p.0, p.1)) o

deeper : (b x : ℕ) (xs : Text) (o : Option (Text × Text)) → ((q : Text × Text) → o ≡ Some q → xs ≡ q.0 ++ b ∷ q.1) → (p : Text × Text) →
    front x o ≡ Some p → x ∷ xs ≡ p.0 ++ b ∷ p.1
deeper b x xs None ih p h = absurd (cc)
deeper b x xs (Some q) ih p h =
    let e : (x ∷ q.0, q.1) ≡ p = cc in
    subst (λ (v : Text × Text). x ∷ xs ≡ v.0 ++ b ∷ v.1) e (ap (λ ys. x ∷ ys) (ih q refl))

pub cut_ok : (b : ℕ) (text : Text) (p : Text × Text) → cut b text ≡ Some p → text ≡ p.0 ++ b ∷ p.1
cut_ok b [] p h = absurd (cc)
cut_ok b (x ∷ xs) p h =
    elim (cases_Bool (x == b)) [
      | inl here ↦
          let found_here = rw here at h in
          let e : x ≡ b = grind (arith, nat_tests) in
          at_front b x xs p e found_here
      | inr on ↦ deeper b x xs (cut b xs) (cut_ok b xs) p (rw on at h)
    ]
  where
    at_front : (b x : ℕ) (xs : Text) (p : Text × Text) → x ≡ b → Some ([], xs) ≡ Some p → x ∷ xs ≡ p.0 ++ b ∷ p.1
    at_front b x xs p e h =
        let same : ([], xs) ≡ p = cc in
        subst (λ (v : Text × Text). x ∷ xs ≡ v.0 ++ b ∷ v.1) same (ap (λ y. y ∷ xs) e)

abbrev pub read_on : ℕ → Text → ℕ
read_on n [] = n
read_on n (c ∷ cs) = read_on (10 * n + (c - 48)) cs

pub own : IsNumeralModel (λ ds. all_ascii_digits ds ≡ true) (read_on 0)
own = numerals_by_fold _ (search rules) read_on (search rules)

some_if : {A : Type 0} (b : Bool) (o : Option A) (y : A) → cond b o None ≡ Some y → (b ≡ true) × (o ≡ Some y)
some_if true o y h = (refl, h)
some_if false o y h = absurd (cc)

and_ok : (a b : Bool) → (a && b) ≡ true → (a ≡ true) × (b ≡ true)
and_ok true b h = (refl, h)
and_ok false b h = absurd (cc)

value_ok : (n : ℕ) (w : Text) (m : ℕ) → n ≤ 100000 → value_on n w ≡ Some m → (all_ascii_digits w ≡ true) × (read_on n w ≡ m) × (m ≤ 100000)
value_ok n [] m le h =
    let e : n ≡ m = cc in
    (refl, e, omega arith)
value_ok n (c ∷ cs) m le h =
    let (t, on) = some_if (is_within 48 57 c && nat_le (10 * n + (c - 48)) 100000) _ m h in
    let (digit, small) = and_ok (is_within 48 57 c) (nat_le (10 * n + (c - 48)) 100000) t in
    let below : 10 * n + (c - 48) ≤ 100000 = grind (arith, nat_tests) in
    let (all, value, bound) = value_ok (10 * n + (c - 48)) cs m below on in
    (rw (digit, all) refl, value, bound)

number_ok : (w : Text) (n : ℕ) → number w ≡ Some n → w ≡ decimal n
number_ok w n h =
    let (plain, value) = some_if (is_plain w) _ n h in
    let (some, first) = and_ok (nat_le 1 (length w)) (length w == 1 || not (slice_index w 0 == 48)) plain in
    let (all, is, bound) = value_ok 0 w n (omega arith) value in
    let long : 0 < length w = grind (arith, nat_tests) in
    let lead : get_or w 0 0 ≡ 48 → length w ≡ 1 = λ z. grind (arith, nat_tests) in
    let small : read_on 0 w < 2 ^ 64 = omega arith in
    sym (rw is at (decimal-digits_value own w all long lead small))

found_ok : {A : Type 0} (e : LoadError) (o : Option A) (y : A) → found e o ≡ Ok y → o ≡ Some y
found_ok e None y h = absurd (cc)
found_ok e (Some x) y h = cc

word_at_ok : (e : LoadError) (text : Text) (p : Text × Text) → word_at e text ≡ Ok p → text ≡ then_word p.0 p.1
word_at_ok e text p h = cut_ok 32 text p (found_ok e (cut 32 text) p h)

number_of_ok : (e : LoadError) (w : Text) (n : ℕ) → number_of e w ≡ Ok n → w ≡ decimal n
number_of_ok e w n h = number_ok w n (found_ok e (number w) n h)

number_at_ok : (e : LoadError) (text : Text) (y : ℕ × Text) → number_at e text ≡ Ok y → text ≡ then_word (decimal y.0) y.1
number_at_ok e text y h =
    with_bind _ (word_at e text) (λ w. number_of e w.0 >>= λ n. Ok (n, w.1)) y (λ w is more.
    with_bind _ (number_of e w.0) (λ n. Ok (n, w.1)) y (λ m value last. done w m y is value last) more) h
  where
    done : (w : Text × Text) (m : ℕ) (y : ℕ × Text) → word_at e text ≡ Ok w → number_of e w.0 ≡ Ok m → okay (m, w.1) ≡ Ok y
        → text ≡ then_word (decimal y.0) y.1
    done w m y a b h =
        let same = same_pair (m, w.1) y h in
        word_at_ok e text w a ∙ ap (λ v. then_word v w.1) (number_of_ok e w.0 m b) ∙ ap (λ n. then_word (decimal n) w.1) same.0
        ∙ ap (λ r. then_word (decimal y.0) r) same.1

word_is_ok : (e : LoadError) (w text rest : Text) → word_is e w text ≡ Ok rest → text ≡ then_word w rest
word_is_ok e w text rest h =
    with_bind _ (word_at e text) (λ x. if bytes_eq x.0 w then Ok x.1 else Err e) rest (λ x is more.
    let last = if_ok (bytes_eq x.0 w) (Ok x.1) e rest more in
    word_at_ok e text x is ∙ ap (λ v. then_word v x.1) ((bytes_eq-Decides x.0 w).0 last.0) ∙ ap (λ r. then_word w r) (same_value x.1 rest last.1)) h

name_at_ok : (e : LoadError) (text : Text) (y : Text × Text) → name_at e text ≡ Ok y → text ≡ then_word y.0 y.1
name_at_ok e text y h =
    with_bind _ (word_at e text) (λ w. name_of e w.0 >>= λ n. Ok (n, w.1)) y (λ w is more.
    with_bind _ (name_of e w.0) (λ n. Ok (n, w.1)) y (λ n named last.
    let same = same_pair (n, w.1) y last in
    let whole = if_ok (is_name w.0) (Ok w.0) e n named in
    word_at_ok e text w is ∙ ap (λ v. then_word v w.1) (same_value w.0 n whole.1) ∙ ap (λ v. then_word v w.1) same.0 ∙ ap (λ r. then_word y.0 r) same.1)
    more) h

find_ok : {A : Type 0} (p : A → Bool) (xs : List A) (y : A) → find p xs ≡ Some y → p y ≡ true
find_ok p [] y h = absurd (cc)
find_ok p (x ∷ xs) y h =
    elim (cases_Bool (p x)) [
      | inl here ↦
          let at_x = rw here at h in
          let e : x ≡ y = cc in
          ap p (sym e) ∙ here
      | inr on ↦ find_ok p xs y (rw on at h)
    ]

kind_ok : (e : LoadError) (w : Text) (k : Kind) → found e (kind_of w) ≡ Ok k → w ≡ kind_text k
unfolding kind_of
kind_ok e w k h = sym ((bytes_eq-Decides (kind_text k) w).0 (find_ok (is_spelled w) kinds k (found_ok e (find (is_spelled w) kinds) k h)))

part_done : (text rest : Text) (n : ℕ × Text) (name : Text × Text) (k : Kind) (y : ℕ × Part) → text ≡ then_word (codes "part") rest →
    rest ≡ then_word (decimal n.0) n.1 → n.1 ≡ then_word name.0 name.1 → name.1 ≡ kind_text k
    → okay (n.0, record { name = name.0; kind = k }) ≡ Ok y → text ≡ part_text y.0 y.1
part_done text rest n name k y a b c d h =
    let same = same_pair (n.0, record { name = name.0; kind = k }) y h in
    let line : text ≡ part_text n.0 (record { name = name.0; kind = k }) =
    a ∙ ap (then_word (codes "part")) (b ∙ ap (then_word (decimal n.0)) (c ∙ ap (then_word name.0) d)) in
    line ∙ ap (λ m. part_text m (record { name = name.0; kind = k })) same.0 ∙ ap (λ p. part_text y.0 p) same.1

pub part_ok : (e : LoadError) (text : Text) (y : ℕ × Part) → part_form e text ≡ Ok y → text ≡ part_text y.0 y.1
unfolding part_form
part_ok e text y h =
    with_bind _ (word_is e (codes "part") text) _ y (λ rest is more.
    with_bind _ (number_at e rest) _ y (λ n is2 more2.
    with_bind _ (name_at e n.1) _ y (λ name is3 more3.
    with_bind _ (found e (kind_of name.1)) _ y (λ k is4 last.
    part_done text rest n name k y (word_is_ok e (codes "part") text rest is) (number_at_ok e rest n is2) (name_at_ok e n.1 name is3)
    (kind_ok e name.1 k is4) last) more3) more2) more) h

group_done : (text rest : Text) (n : ℕ × Text) (name : Text × Text) (k : ℕ) (y : ℕ × GroupStart) → text ≡ then_word (codes "group") rest →
    rest ≡ then_word (decimal n.0) n.1 → n.1 ≡ then_word name.0 name.1 → name.1 ≡ decimal k
    → okay (n.0, record { name = name.0; first = k }) ≡ Ok y → text ≡ group_text y.0 y.1
group_done text rest n name k y a b c d h =
    let same = same_pair (n.0, record { name = name.0; first = k }) y h in
    let line : text ≡ group_text n.0 (record { name = name.0; first = k }) =
    a ∙ ap (then_word (codes "group")) (b ∙ ap (then_word (decimal n.0)) (c ∙ ap (then_word name.0) d)) in
    line ∙ ap (λ m. group_text m (record { name = name.0; first = k })) same.0 ∙ ap (λ p. group_text y.0 p) same.1

pub group_ok : (e : LoadError) (text : Text) (y : ℕ × GroupStart) → group_form e text ≡ Ok y → text ≡ group_text y.0 y.1
unfolding group_form
group_ok e text y h =
    with_bind _ (word_is e (codes "group") text) _ y (λ rest is more.
    with_bind _ (number_at e rest) _ y (λ n is2 more2.
    with_bind _ (name_at e n.1) _ y (λ name is3 more3.
    with_bind _ (number_of e name.1) _ y (λ k is4 last.
    group_done text rest n name k y (word_is_ok e (codes "group") text rest is) (number_at_ok e rest n is2) (name_at_ok e n.1 name is3)
    (number_of_ok e name.1 k is4) last) more3) more2) more) h

-- a step's line after its own number
abbrev step_rest : Step → Text
step_rest (Call p) = then_word (codes "call") (decimal p)
step_rest (Pick p) = then_word (codes "pick") (decimal p)
step_rest Return = codes "return"

step_spelled : (n : ℕ) (s : Step) → then_word (decimal n) (step_rest s) ≡ step_text n s
step_spelled n (Call p) = refl
step_spelled n (Pick p) = refl
step_spelled n Return = refl

named_ok : (e : LoadError) (w : Text) (p : ℕ) (s : Step) → step_named e w p ≡ Ok s → then_word w (decimal p) ≡ step_rest s
named_ok e w p s h =
    elim (cases_Bool (bytes_eq w (codes "call"))) [
      | inl calls ↦
          let same : Call p ≡ s = same_value (Call p) s (rw calls at h) in
          ap (λ v. then_word v (decimal p)) ((bytes_eq-Decides w (codes "call")).0 calls) ∙ ap step_rest same
      | inr other ↦
          let rest : cond (bytes_eq w (codes "pick")) (Ok (Pick p)) (Err e) ≡ Ok s = rw other at h in
          let last = if_ok (bytes_eq w (codes "pick")) (Ok (Pick p)) e s rest in
          ap (λ v. then_word v (decimal p)) ((bytes_eq-Decides w (codes "pick")).0 last.0) ∙ ap step_rest (same_value (Pick p) s last.1)
    ]

step_of_ok : (e : LoadError) (text : Text) (s : Step) → step_of e text ≡ Ok s → text ≡ step_rest s
unfolding step_of
step_of_ok e text s h =
    elim (cases_Bool (bytes_eq text (codes "return"))) [
      | inl returns ↦
          let same : Return ≡ s = same_value Return s (rw returns at h) in
          (bytes_eq-Decides text (codes "return")).0 returns ∙ ap step_rest same
      | inr other ↦
          with_bind _ (word_at e text) (λ w. number_of e w.1 >>= λ p. step_named e w.0 p) s (λ w is more.
          with_bind _ (number_of e w.1) (λ p. step_named e w.0 p) s (λ p value last.
          word_at_ok e text w is ∙ ap (then_word w.0) (number_of_ok e w.1 p value) ∙ named_ok e w.0 p s last) more) (rw other at h)
    ]

pub step_ok : (e : LoadError) (text : Text) (y : ℕ × Step) → step_form e text ≡ Ok y → text ≡ step_text y.0 y.1
unfolding step_form
step_ok e text y h =
    with_bind _ (number_at e text) _ y (λ n is more.
    with_bind _ (step_of e n.1) _ y (λ s is2 last.
    let same = same_pair (n.0, s) y last in
    number_at_ok e text n is ∙ ap (then_word (decimal n.0)) (step_of_ok e n.1 s is2) ∙ step_spelled n.0 s ∙ ap (λ m. step_text m s) same.0
    ∙ ap (step_text y.0) same.1) more) h

abbrev header_line : ImageHeader → Text
header_line h = header_text h.version h.retries h.parts h.groups h.steps

header_done : (text rest : Text) (v r p g : ℕ × Text) (s : ℕ) (y : ImageHeader) → text ≡ then_word (codes "image") rest →
    rest ≡ then_word (decimal v.0) v.1 → v.1 ≡ then_word (decimal r.0) r.1 → r.1 ≡ then_word (decimal p.0) p.1 → p.1 ≡ then_word (decimal g.0) g.1 →
    g.1 ≡ decimal s
    → okay (record { version = v.0; retries = r.0; parts = p.0; groups = g.0; steps = s }) ≡ Ok y → text ≡ header_line y
header_done text rest v r p g s y a b c d e f h =
    a ∙ ap (then_word (codes "image")) (b ∙ ap (then_word (decimal v.0))
    (c ∙ ap (then_word (decimal r.0)) (d ∙ ap (then_word (decimal p.0)) (e ∙ ap (then_word (decimal g.0)) f))))
    ∙ ap header_line (same_value (record { version = v.0; retries = r.0; parts = p.0; groups = g.0; steps = s }) y h)

header_form_ok : (text : Text) (y : ImageHeader) → header_form text ≡ Ok y → text ≡ header_line y
unfolding header_form
header_form_ok text y h =
    with_bind _ (word_is BadHeader (codes "image") text) _ y (λ rest is more.
    with_bind _ (number_at BadHeader rest) _ y (λ v is2 more2.
    with_bind _ (number_at BadHeader v.1) _ y (λ r is3 more3.
    with_bind _ (number_at BadHeader r.1) _ y (λ p is4 more4.
    with_bind _ (number_at BadHeader p.1) _ y (λ g is5 more5.
    with_bind _ (number_of BadHeader g.1) _ y (λ s is6 last.
    header_done text rest v r p g s y (word_is_ok BadHeader (codes "image") text rest is) (number_at_ok BadHeader rest v is2)
    (number_at_ok BadHeader v.1 r is3) (number_at_ok BadHeader r.1 p is4) (number_at_ok BadHeader p.1 g is5) (number_of_ok BadHeader g.1 s is6) last)
    more5) more4) more3) more2) more) h

header_at_ok : (text : Text) (y : ImageHeader × Text) → header_at text ≡ Ok y → text ≡ header_line y.0 ++ 10 ∷ y.1
unfolding header_at
header_at_ok text y h =
    with_bind _ (found BadHeader (cut 10 text)) _ y (λ line is more.
    with_bind _ (header_form line.0) _ y (λ x is2 more2.
    let last = if_ok (is_header x) (Ok (x, line.1)) BadHeader y more2 in
    let same = same_pair (x, line.1) y last.1 in
    cut_ok 10 text line (found_ok BadHeader (cut 10 text) line is) ∙ ap (λ l. l ++ 10 ∷ line.1) (header_form_ok line.0 x is2 ∙ ap header_line same.0)
    ∙ ap (λ r. header_line y.0 ++ 10 ∷ r) same.1) more) h

module _ {A : Type 0} (form : LoadError → Text → Result (ℕ × A) LoadError) (spell : ℕ → A → Text) where
  line_done : (k : ℕ) (bytes : Text) (line : Text × Text) (y : ℕ × A) (z : A × Text) → bytes ≡ line.0 ++ 10 ∷ line.1 → line.0 ≡ spell y.0 y.1 →
      (y.0 == k) ≡ true → okay (y.1, line.1) ≡ Ok z → bytes ≡ spell k z.0 ++ 10 ∷ z.1
  line_done k bytes line y z a b t h =
      let same = same_pair (y.1, line.1) z h in
      let number : y.0 ≡ k = grind (arith, nat_tests) in
      a ∙ ap (λ l. l ++ 10 ∷ line.1) (b ∙ ap (λ n. spell n y.1) number ∙ ap (spell k) same.0) ∙ ap (λ r. spell k z.0 ++ 10 ∷ r) same.1

  line_ok : ((e : LoadError) (text : Text) (y : ℕ × A) → form e text ≡ Ok y → text ≡ spell y.0 y.1) → (k at : ℕ) (bytes : Text) (z : A × Text) →
      line_at form k at bytes ≡ Ok z → bytes ≡ spell k z.0 ++ 10 ∷ z.1
  line_ok each k at bytes z h =
      with_bind _ (found (BadLine at) (cut 10 bytes)) _ z (λ line is more.
      with_bind _ (form (BadLine at) line.0) _ z (λ y formed more2.
      with_bind _ (in_place y.0 k at) _ z (λ u placed last.
      let own = if_ok (y.0 == k) (Ok tt) (BadNumber at) u placed in
      line_done k bytes line y z (cut_ok 10 bytes line (found_ok (BadLine at) (cut 10 bytes) line is)) (each (BadLine at) line.0 y formed) own.0 last)
      more2) more) h

  items_more : (k : ℕ) (count : ℕ) (bytes : Text) (x : A × Text) (ys z : List A × Text) → bytes ≡ spell k x.0 ++ 10 ∷ x.1 →
      (x.1 ≡ lines_text spell (k + 1) ys.0 ++ ys.1) × (length ys.0 ≡ count) → okay (x.0 ∷ ys.0, ys.1) ≡ Ok z
      → (bytes ≡ lines_text spell k z.0 ++ z.1) × (length z.0 ≡ suc count)
  items_more k count bytes x ys z a b h =
      let text : bytes ≡ lines_text spell k (x.0 ∷ ys.0) ++ ys.1 = a ∙ ap (λ r. spell k x.0 ++ 10 ∷ r) b.0 ∙ simp append_assoc in
      subst (λ (v : List A × Text). (bytes ≡ lines_text spell k v.0 ++ v.1) × (length v.0 ≡ suc count)) (same_value (x.0 ∷ ys.0, ys.1) z h) (text, ap suc b.1)

  -- as many lines as were asked for
  items_ok : ((e : LoadError) (text : Text) (y : ℕ × A) → form e text ≡ Ok y → text ≡ spell y.0 y.1) → (count k at : ℕ) (bytes : Text) (z : List A × Text) →
      items_at form count k at bytes ≡ Ok z → (bytes ≡ lines_text spell k z.0 ++ z.1) × (length z.0 ≡ count)
  unfolding items_at
  items_ok each zero k at bytes z h =
      subst (λ (v : List A × Text). (bytes ≡ lines_text spell k v.0 ++ v.1) × (length v.0 ≡ 0)) (same_value ([], bytes) z h) (refl, refl)
  items_ok each (suc count) k at bytes z h =
      with_bind _ (line_at form k at bytes) _ z (λ x is more.
      with_bind _ (items_at form count (k + 1) (at + 1) x.1) _ z (λ ys is2 last.
      items_more k count bytes x ys z (line_ok each k at bytes x is) (items_ok each count (k + 1) (at + 1) x.1 ys is2) last) more) h

nothing_left : (xs : Text) → (length xs == 0) ≡ true → xs ≡ []
nothing_left [] h = refl
nothing_left (x ∷ xs) h = absurd (grind (arith, nat_tests))

lines_done : (bytes : Text) (h : ImageHeader × Text) (ps : List Part × Text) (gs : List GroupStart × Text) (ss : List Step × Text) (l : Lines) →
    bytes ≡ header_line h.0 ++ 10 ∷ h.1
    → (h.1 ≡ lines_text part_text 0 ps.0 ++ ps.1) × (length ps.0 ≡ h.0.parts) → (ps.1 ≡ lines_text group_text 0 gs.0 ++ gs.1) × (length gs.0 ≡ h.0.groups) →
    (gs.1 ≡ lines_text step_text 0 ss.0 ++ ss.1) × (length ss.0 ≡ h.0.steps) → ss.1 ≡ []
    → okay (record { version = h.0.version; retries = h.0.retries; parts = ps.0; starts = gs.0; steps = ss.0 }) ≡ Ok l → bytes ≡ spelled l
lines_done bytes h ps gs ss l a b c d e last =
    let text : h.1 ≡ lines_text part_text 0 ps.0 ++ (lines_text group_text 0 gs.0 ++ lines_text step_text 0 ss.0) =
    b.0 ∙ ap (λ r. lines_text part_text 0 ps.0 ++ r) (c.0 ∙ ap (λ r. lines_text group_text 0 gs.0 ++ r)
    (d.0 ∙ ap (λ r. lines_text step_text 0 ss.0 ++ r) e ∙ append-nil (lines_text step_text 0 ss.0))) in
    let head : header_line h.0 ≡ header_text h.0.version h.0.retries (length ps.0) (length gs.0) (length ss.0) =
    ap (λ n. header_text h.0.version h.0.retries n h.0.groups h.0.steps) (sym b.1)
    ∙ ap (λ n. header_text h.0.version h.0.retries (length ps.0) n h.0.steps) (sym c.1)
    ∙ ap (λ n. header_text h.0.version h.0.retries (length ps.0) (length gs.0) n) (sym d.1) in
    a ∙ ap (λ r. header_line h.0 ++ 10 ∷ r) text ∙ ap (λ t. t
    ++ 10 ∷ (lines_text part_text 0 ps.0 ++ (lines_text group_text 0 gs.0 ++ lines_text step_text 0 ss.0))) head
    ∙ ap spelled (same_value (record { version = h.0.version; retries = h.0.retries; parts = ps.0; starts = gs.0; steps = ss.0 }) l last)

-- the bytes spell the lines that are read from them
pub lines_ok : (bytes : Text) (l : Lines) → lines_in bytes ≡ Ok l → bytes ≡ spelled l
unfolding lines_in
lines_ok bytes l h =
    with_bind _ (header_at bytes) _ l (λ x is more.
    with_bind _ (items_at part_form x.0.parts 0 2 x.1) _ l (λ ps is2 more2.
    with_bind _ (items_at group_form x.0.groups 0 (2 + x.0.parts) ps.1) _ l (λ gs is3 more3.
    with_bind _ (items_at step_form x.0.steps 0 (2 + x.0.parts + x.0.groups) gs.1) _ l (λ ss is4 more4.
    with_bind _ (ended x.0 ss.1) _ l (λ u whole last.
    let end = if_ok (length ss.1 == 0) (Ok tt) _ u whole in
    lines_done bytes x ps gs ss l (header_at_ok bytes x is) (items_ok part_form part_text part_ok x.0.parts 0 2 x.1 ps is2)
    (items_ok group_form group_text group_ok x.0.groups 0 (2 + x.0.parts) ps.1 gs is3)
    (items_ok step_form step_text step_ok x.0.steps 0 (2 + x.0.parts + x.0.groups) gs.1 ss is4) (nothing_left ss.1 end.0) last) more4) more3) more2) more) h
