-- The two laws of reading, and that a message grows by what is read.
-- for: decode::decode_as, ascii::to_ascii, laws::ascii_is_the_grammar
use Rattle.std.proofs.Common.{◌≡◌, ℕ, suc, ◌<◌, ◌≤◌, Bool, true, false, cond, eqb, List, [], ◌∷◌, ◌++◌, length, Option, Some, None, Result, Ok, Err, refl, sym}
use Rattle.std.proofs.Common.{ap, subst, ◌∙◌, append_assoc, arith}
use Rattle.std.specs.List.{list_all}
use Rattle.std.proofs.lemmas.Bool.{eqb-true, lt-ltb}
use Rattle.std.proofs.lemmas.List.{append-nil, nil_from_length}
use Rattle.sw_base.specs.Digits.{is_digit}
use Rattle.iso_msg.specs.declared.table.FieldForm.{FieldForm}
use Rattle.iso_msg.specs.Table.{form_of}
use Rattle.iso_msg.specs.Messages.{Fields, PlainMessage, IsMti, with_value}
use Rattle.iso_codec.specs.declared.error.DecodeError.{DecodeError}
use Rattle.iso_codec.specs.declared.error.DecodeError.TheVariants.{BadMti, FieldNotInProfile, Trailing}
use Rattle.iso_codec.specs.GrowingMessage.{with_field}
use Rattle.iso_codec.specs.Reads.{◌>>=◌, or_fault, mti_is, field_numbers, starts_with_1}
use Rattle.iso_dialect.specs.declared.row.Row.{Row}
use Rattle.iso_dialect.specs.declared.profile.Draft.{Draft}
use Rattle.iso_dialect.specs.Codings.{IsCoded}
use Rattle.iso_dialect.specs.Profiles.{Rows, counts, refusal_in, row_of}
use Rattle.iso_dialect.specs.Fields.{IsField, coded_at, field_as, field_by, field_text_at, passed_at, value_as, value_in}
use Rattle.iso_dialect.specs.Messages.{AreNumbers, AreFieldsOf, SpellsAs}
use Rattle.iso_dialect.specs.Readings.{bitmaps_as, known_as, front_as, fields_as, read_as, grown_value, grown_by, grown_as, added_as, read_grown}
use Rattle.iso_dialect.proofs.Steps.{ok_is, bind_ok, guard_if}
use Rattle.iso_dialect.proofs.FieldReads.{coded_found, coded_again, whole_even, field_found, field_again}
use Rattle.iso_dialect.proofs.CheckedRows.{counts_at, no_row_1}
use Rattle.iso_dialect.proofs.BitNumbers.{Between}
use Rattle.iso_dialect.proofs.BitmapReads.{bitmaps_found, bitmaps_again}

-- ---- fields

pub record FoundFields (rows : Rows) (ns bytes : List ℕ) (fs : Fields) (rest : List ℕ) : Type 0 where
  pub text : List ℕ
  pub whole : bytes ≡ text ++ rest
  pub are : AreFieldsOf rows ns text fs

abbrev Read : Type 0
Read = Fields × List ℕ

pub fields_found : (rows : Rows) (ns bytes : List ℕ) (x : Fields × List ℕ) → ((n : ℕ) → counts (row_of rows n) ≡ true) → fields_as rows ns bytes ≡ Ok x
    → FoundFields rows ns bytes x.0 x.1
unfolding fields_as
fields_found rows [] bytes x h e =
    let none : Read = ([], bytes) in
    subst (λ (y : Read). FoundFields rows [] bytes y.0 y.1) (ok_is none x e) (record { text = []; whole = refl; are = (refl, refl) })
fields_found rows (n ∷ ns) bytes x h e =
    let a = bind_ok (field_as (row_of rows n) n bytes) (λ f. fields_as rows ns f.1 >>= λ fs. Ok (f.0 ++ fs.0, fs.1)) x e in
    let b = bind_ok (fields_as rows ns a.0.1) (λ fs. Ok (a.0.0 ++ fs.0, fs.1)) x a.2 in
    let p = field_found (row_of rows n) n bytes a.0 (h n) a.1 in
    let q = fields_found rows ns a.0.1 b.0 h b.1 in
    let made : Read = (a.0.0 ++ b.0.0, b.0.1) in
    let all : FoundFields rows (n ∷ ns) bytes made.0 made.1 = record {
      text = p.one ++ q.text;
      whole = p.whole ∙ ap (λ (r : List ℕ). p.one ++ r) q.whole ∙ sym (append_assoc p.one q.text b.0.1);
      are = (p.one, q.text, a.0.0, b.0.0, refl, refl, p.is, q.are);
    } in
    subst (λ (y : Read). FoundFields rows (n ∷ ns) bytes y.0 y.1) (ok_is made x b.2) all

pub fields_again : (rows : Rows) (ns text rest : List ℕ) (fs : Fields) → AreFieldsOf rows ns text fs → fields_as rows ns (text ++ rest) ≡ Ok (fs, rest)
unfolding fields_as
fields_again rows [] text rest fs s = rw (s.0, s.1) refl
fields_again rows (n ∷ ns) text rest fs s =
    rw (
      s.4,
      s.5,
      append_assoc s.0 s.1 rest,
      field_again (row_of rows n) n s.0 (s.1 ++ rest) s.2 s.6,
      fields_again rows ns s.1 rest s.3 s.7,
    ) refl

known_one : (o : Option Row) (n : ℕ) (bytes : List ℕ) (fs : Fields) (r : Result (Unit {0}) DecodeError) → IsField o n bytes fs
    → (or_fault o (FieldNotInProfile n) >>= λ row. r) ≡ r
known_one None n bytes fs r s = absurd s
known_one (Some row) n bytes fs r s = refl

known_again : (rows : Rows) (ns text : List ℕ) (fs : Fields) → AreFieldsOf rows ns text fs → known_as rows ns ≡ Ok tt
unfolding known_as
known_again rows [] text fs s = refl
known_again rows (n ∷ ns) text fs s =
    known_one (row_of rows n) n s.0 s.2 (known_as rows ns) s.6 ∙ known_again rows ns s.1 s.3 s.7

no_field : (o : Option Row) (n : ℕ) (bytes : List ℕ) (fs : Fields) → o ≡ None → IsField o n bytes fs → ⊥
no_field None n bytes fs e s = s
no_field (Some row) n bytes fs e s = absurd cc

false_or : (b : Bool) → (b ≡ true → ⊥) → b ≡ false
false_or true h = absurd (h refl)
false_or false h = refl

starts : (rows : Rows) (ns text : List ℕ) (fs : Fields) → row_of rows 1 ≡ None → AreFieldsOf rows ns text fs → starts_with_1 ns ≡ false
starts rows [] text fs h s = refl
starts rows (n ∷ ns) text fs h s =
    false_or (eqb n 1) (λ e. no_field (row_of rows n) n s.0 s.2 (ap (row_of rows) (eqb-true n 1 e) ∙ h) s.6)

-- ---- the front

abbrev pub Front : Type 0
Front = List ℕ × List ℕ × List ℕ

abbrev front : List ℕ → List ℕ → List ℕ → Result Front DecodeError
front digits ns rest = Ok (digits, ns, rest)

pub record FoundFront (p : Draft) (bytes : List ℕ) (f : Front) : Type 0 where
  pub type : List ℕ
  pub map : List ℕ
  pub whole : bytes ≡ type ++ (map ++ f.2)
  pub mti : IsMti f.0
  pub coded : IsCoded p.mti type f.0
  pub numbers : AreNumbers p.bitmap map f.1
  pub low : ℕ
  pub rising : Between low 129 f.1

fields_between : (ns : List ℕ) → Between 1 129 ns → (low : ℕ) × Between low 129 (field_numbers ns)
fields_between [] b = (1, b)
fields_between (n ∷ ns) b = by (eqb n 1)
  where
    by : (t : Bool) → (low : ℕ) × Between low 129 (cond t ns (n ∷ ns))
    by true = (suc n, b.1)
    by false = (1, b)

after_mti : Draft → List ℕ → List ℕ → Result Front DecodeError
after_mti p mti rest = bitmaps_as p.bitmap rest >>= λ ns. known_as p.rows (field_numbers ns.0) >>= λ ok. front mti (field_numbers ns.0) ns.1

pub front_found : (p : Draft) (bytes : List ℕ) (f : Front) → front_as p bytes ≡ Ok f → FoundFront p bytes f
unfolding front_as after_mti
front_found p bytes f e =
    let a = bind_ok (coded_at p.mti 4 BadMti bytes) (λ digits. mti_is digits.0 >>= λ mti. after_mti p mti digits.1) f e in
    let t = bind_ok (mti_is a.0.0) (λ mti. after_mti p mti a.0.1) f a.2 in
    let b = bind_ok (bitmaps_as p.bitmap a.0.1) (λ ns. known_as p.rows (field_numbers ns.0) >>= λ ok. front t.0 (field_numbers ns.0) ns.1) f t.2 in
    let k = bind_ok (known_as p.rows (field_numbers b.0.0)) (λ ok. front t.0 (field_numbers b.0.0) b.0.1) f b.2 in
    let c = coded_found p.mti 4 BadMti bytes a.0 (whole_even p.mti 4 refl) a.1 in
    let g = guard_if (list_all is_digit a.0.0) BadMti a.0.0 t.0 t.1 in
    let q = bitmaps_found p.bitmap a.0.1 b.0 b.1 in
    let low = fields_between b.0.0 q.rising in
    let made : Front = (t.0, field_numbers b.0.0, b.0.1) in
    let all : FoundFront p bytes made = record {
      type = c.body;
      map = q.map;
      whole = c.whole ∙ ap (λ (r : List ℕ). c.body ++ r) q.whole;
      mti = subst (λ (d : List ℕ). IsMti d) g.1 (c.len, g.0);
      coded = subst (λ (d : List ℕ). IsCoded p.mti c.body d) g.1 c.coded;
      numbers = q.numbers;
      low = low.0;
      rising = low.1;
    } in
    subst (λ (y : Front). FoundFront p bytes y) (ok_is made f k.2) all

front_again : (p : Draft) (type map rest ns mti text : List ℕ) (fs : Fields) → refusal_in p ≡ None → IsMti mti → IsCoded p.mti type mti
    → AreNumbers p.bitmap map ns → AreFieldsOf p.rows ns text fs → front_as p (type ++ (map ++ rest)) ≡ front mti ns rest
unfolding front_as
front_again p type map rest ns mti text fs h d c m s =
    let g = bitmaps_again p.bitmap map ns rest (starts p.rows ns text fs (no_row_1 p h) s) m in
    rw (coded_again p.mti 4 BadMti type (map ++ rest) mti d.0 c, d.1, g.reads, g.fields, known_again p.rows ns text fs s) refl

-- ---- the message

abbrev pub ended : List ℕ → Read → Result PlainMessage DecodeError
ended mti fields = cond (eqb (length fields.1) 0) (Ok (record { mti = mti; fields = fields.0 })) (Err Trailing)

abbrev pub then_fields : Draft → Front → Result PlainMessage DecodeError
then_fields p f = fields_as p.rows f.1 f.2 >>= λ fields. ended f.0 fields

pub read_found : (p : Draft) (bytes : List ℕ) (m : PlainMessage) → refusal_in p ≡ None → read_as p bytes ≡ Ok m → SpellsAs p bytes m
unfolding read_as
read_found p bytes m h e =
    let a = bind_ok (front_as p bytes) (then_fields p) m e in
    let b = bind_ok (fields_as p.rows a.0.1 a.0.2) (λ fields. ended a.0.0 fields) m a.2 in
    let made : PlainMessage = record { mti = a.0.0; fields = b.0.0 } in
    let g = guard_if (eqb (length b.0.1) 0) Trailing made m b.2 in
    let f = front_found p bytes a.0 a.1 in
    let q = fields_found p.rows a.0.1 a.0.2 b.0 (λ n. counts_at p n h) b.1 in
    let none : b.0.1 ≡ [] = nil_from_length b.0.1 (eqb-true (length b.0.1) 0 g.0) in
    let rest : a.0.2 ≡ q.text = q.whole ∙ ap (λ (x : List ℕ). q.text ++ x) none ∙ append-nil q.text in
    let all : SpellsAs p bytes made = (
      f.type,
      f.map,
      q.text,
      a.0.1,
      f.whole ∙ ap (λ (x : List ℕ). f.type ++ (f.map ++ x)) rest,
      f.mti,
      f.coded,
      f.numbers,
      q.are,
    ) in
    subst (λ (x : PlainMessage). SpellsAs p bytes x) g.1 all

pub read_again : (p : Draft) (bytes : List ℕ) (m : PlainMessage) → refusal_in p ≡ None → SpellsAs p bytes m → read_as p bytes ≡ Ok m
unfolding read_as
read_again p bytes m h s =
    let f = front_again p s.0 s.1 s.2 s.3 m.mti s.2 m.fields h s.5 s.6 s.7 s.8 in
    let t : fields_as p.rows s.3 s.2 ≡ Ok (m.fields, []) =
    ap (fields_as p.rows s.3) (sym (append-nil s.2)) ∙ fields_again p.rows s.3 s.2 [] m.fields s.8 in
    ap (read_as p) s.4 ∙ rw (f, t) refl

-- ---- a message that grows

abbrev EndsBelow : ℕ → Fields → Type 0
EndsBelow n [] = Unit {0}
EndsBelow n (f ∷ fs) = (f.0 < n) × EndsBelow n fs

last_put : (fs : Fields) (low n : ℕ) (v : List ℕ) → EndsBelow low fs → low ≤ n → with_value n v fs ≡ fs ++ (n, v) ∷ []
last_put [] low n v h le = refl
last_put (f ∷ fs) low n v h le = rw (lt-ltb f.0 n (omega (arith, h.0))) (ap (λ (x : Fields). f ∷ x) (last_put fs low n v h.1 le))

ends_more : (fs : Fields) (low n : ℕ) (v : List ℕ) → EndsBelow low fs → low ≤ n → EndsBelow (suc n) (fs ++ (n, v) ∷ [])
ends_more [] low n v h le = (omega arith, tt)
ends_more (f ∷ fs) low n v h le = (omega (arith, h.0), ends_more fs low n v h.1 le)

ends_later : (fs : Fields) (low n : ℕ) → EndsBelow low fs → low ≤ n → EndsBelow (suc n) fs
ends_later [] low n h le = tt
ends_later (f ∷ fs) low n h le = (omega (arith, h.0), ends_later fs low n h.1 le)

abbrev Grown : Type 0
Grown = Result (PlainMessage × List ℕ) DecodeError

abbrev gives : PlainMessage → List ℕ → Grown
gives m rest = Ok (m, rest)

abbrev put_in : PlainMessage → ℕ → Result (List ℕ × List ℕ) DecodeError → Grown
put_in m n r = r >>= λ v. Ok (with_field m n v.0, v.1)

abbrev valued : Result (List ℕ) DecodeError → List ℕ → Result (List ℕ × List ℕ) DecodeError
valued s rest = s >>= λ v. Ok (v, rest)

abbrev placed : PlainMessage → ℕ → Result (List ℕ) DecodeError → List ℕ → Grown
placed m n s rest = (s >>= λ v. Ok (with_field m n v)) >>= λ more. Ok (more, rest)

placed_is : (m : PlainMessage) (n : ℕ) (s : Result (List ℕ) DecodeError) (rest : List ℕ) → placed m n s rest ≡ put_in m n (valued s rest)
placed_is m n (Ok v) rest = refl
placed_is m n (Err e) rest = refl

text_is : (f : FieldForm) (m : PlainMessage) (n : ℕ) (r : Result (List ℕ × List ℕ) DecodeError) →
    (r >>= λ text. placed m n (value_in f n text.0) text.1) ≡ put_in m n (r >>= λ text. valued (value_in f n text.0) text.1)
text_is f m n (Ok text) = placed_is m n (value_in f n text.0) text.1
text_is f m n (Err e) = refl

value_is : (row : Row) (o : Option FieldForm) (m : PlainMessage) (n : ℕ) (bytes : List ℕ) → grown_value row o m n bytes ≡ put_in m n (value_as row o n bytes)
value_is row None m n bytes = refl
value_is row (Some f) m n bytes = text_is f m n (field_text_at row f n bytes)

abbrev pub after_all : PlainMessage → Result (Fields × List ℕ) DecodeError → Grown
after_all m r = r >>= λ x. Ok (record { mti = m.mti; fields = m.fields ++ x.0 }, x.1)

abbrev joined : Fields → Result (Fields × List ℕ) DecodeError → Result (Fields × List ℕ) DecodeError
joined front r = r >>= λ fs. Ok (front ++ fs.0, fs.1)

regroup : (m : PlainMessage) (low n : ℕ) (v : List ℕ) (r : Result (Fields × List ℕ) DecodeError) → EndsBelow low m.fields → low ≤ n →
    after_all (with_field m n v) r ≡ after_all m (joined ((n, v) ∷ []) r)
regroup m low n v (Ok x) h le = ap (λ (fs : Fields). gives (record { mti = m.mti; fields = fs }) x.1)
    (ap (λ (fs : Fields). fs ++ x.0) (last_put m.fields low n v h le) ∙ append_assoc m.fields ((n, v) ∷ []) x.0)
regroup m low n v (Err e) h le = refl

same_fields : (r : Result (Fields × List ℕ) DecodeError) → r ≡ joined [] r
same_fields (Ok x) = refl
same_fields (Err e) = refl

abbrev then_added : Rows → List ℕ → Grown → Grown
then_added rows ns r = r >>= λ x. added_as rows x.0 ns x.1

abbrev then_read : Rows → List ℕ → Result (Fields × List ℕ) DecodeError → Result (Fields × List ℕ) DecodeError
then_read rows ns r = r >>= λ f. joined f.0 (fields_as rows ns f.1)

step_kept : (rows : Rows) (ns : List ℕ) (m : PlainMessage) (low n : ℕ) (r : Result (List ℕ × List ℕ) DecodeError) → EndsBelow low m.fields → low ≤ n
    → ((v rest : List ℕ) → added_as rows (with_field m n v) ns rest ≡ after_all (with_field m n v) (fields_as rows ns rest))
    → then_added rows ns (put_in m n r) ≡ after_all m (then_read rows ns (r >>= λ v. Ok ((n, v.0) ∷ [], v.1)))
step_kept rows ns m low n (Ok v) h le next = next v.0 v.1 ∙ regroup m low n v.0 (fields_as rows ns v.1) h le
step_kept rows ns m low n (Err e) h le next = refl

step_passed : (rows : Rows) (ns : List ℕ) (m : PlainMessage) (r : Result (List ℕ) DecodeError)
    → ((rest : List ℕ) → added_as rows m ns rest ≡ after_all m (fields_as rows ns rest))
    → then_added rows ns (r >>= λ rest. Ok (m, rest)) ≡ after_all m (then_read rows ns (r >>= λ rest. Ok ([], rest)))
step_passed rows ns m (Ok rest) next = next rest ∙ ap (after_all m) (same_fields (fields_as rows ns rest))
step_passed rows ns m (Err e) next = refl

abbrev Next : Rows → List ℕ → PlainMessage → ℕ → Type 0
Next rows ns m n = (more : PlainMessage) → EndsBelow (suc n) more.fields → (rest : List ℕ)
    → added_as rows more ns rest ≡ after_all more (fields_as rows ns rest)

step_by : (b : Bool) (row : Row) (rows : Rows) (ns bytes : List ℕ) (m : PlainMessage) (low n : ℕ) → EndsBelow low m.fields → low ≤ n → Next rows ns m n
    → then_added rows ns (grown_by b row m n bytes) ≡ after_all m (then_read rows ns (field_by b row n bytes))
step_by true row rows ns bytes m low n h le next =
    ap (then_added rows ns) (value_is row (form_of n) m n bytes)
    ∙ step_kept rows ns m low n (value_as row (form_of n) n bytes) h le (λ v rest. next (with_field m n v)
    (subst (λ fs. EndsBelow (suc n) fs) (sym (last_put m.fields low n v h le)) (ends_more m.fields low n v h le)) rest)
step_by false row rows ns bytes m low n h le next =
    step_passed rows ns m (passed_at row n bytes) (λ rest. next m (ends_later m.fields low n h le) rest)

step : (o : Option Row) (rows : Rows) (ns bytes : List ℕ) (m : PlainMessage) (low n : ℕ) → EndsBelow low m.fields → low ≤ n → Next rows ns m n
    → then_added rows ns (grown_as o m n bytes) ≡ after_all m (then_read rows ns (field_as o n bytes))
step None rows ns bytes m low n h le next = refl
step (Some row) rows ns bytes m low n h le next = step_by row.is_kept row rows ns bytes m low n h le next

-- a message that grows has in the end what it had, and then what is read
added_is : (rows : Rows) (ns bytes : List ℕ) (m : PlainMessage) (low high : ℕ) → EndsBelow low m.fields → Between low high ns
    → added_as rows m ns bytes ≡ after_all m (fields_as rows ns bytes)
unfolding added_as fields_as
added_is rows [] bytes m low high h b = ap (λ (fs : Fields). gives (record { mti = m.mti; fields = fs }) bytes) (sym (append-nil m.fields))
added_is rows (n ∷ ns) bytes m low high h b =
    step (row_of rows n) rows ns bytes m low n h b.0 (λ more ends rest. added_is rows ns rest more (suc n) high ends b.1)

abbrev over_end : Grown → Result PlainMessage DecodeError
over_end r = r >>= λ x. cond (eqb (length x.1) 0) (Ok x.0) (Err Trailing)

same_end : (mti : List ℕ) (r : Result (Fields × List ℕ) DecodeError)
    → over_end (after_all (record { mti = mti; fields = [] }) r) ≡ (r >>= λ fields. ended mti fields)
same_end mti (Ok x) = refl
same_end mti (Err e) = refl

same_after : {A B : Type 0} (r : Result A DecodeError) (f g : A → Result B DecodeError) → ((x : A) → r ≡ Ok x → f x ≡ g x) → (r >>= f) ≡ (r >>= g)
same_after (Ok x) f g h = h x refl
same_after (Err e) f g h = refl

pub read_grown_is : (p : Draft) (bytes : List ℕ) → read_grown p bytes ≡ read_as p bytes
unfolding read_grown read_as
read_grown_is p bytes =
    same_after (front_as p bytes) (λ f. over_end (added_as p.rows (record { mti = f.0; fields = [] }) f.1 f.2)) (then_fields p) (λ f e.
    let found = front_found p bytes f e in
    ap over_end (added_is p.rows f.1 f.2 (record { mti = f.0; fields = [] }) found.low 129 tt found.rising) ∙ same_end f.0 (fields_as p.rows f.1 f.2))
