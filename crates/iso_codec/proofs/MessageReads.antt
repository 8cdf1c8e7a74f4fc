-- The two laws of reading, and that a message grows by what is read.
-- for: read::decode, write::encode
use Rattle.std.proofs.Common.{◌≡◌, ℕ, suc, ◌<◌, ◌≤◌, Bool, true, false, cond, eqb, List, [], ◌∷◌, ◌++◌, length, Option, Some, None, Result, Ok, Err, refl, sym}
use Rattle.std.proofs.Common.{ap, subst, ◌∙◌, append_assoc, arith}
use Rattle.std.specs.List.{list_all}
use Rattle.std.proofs.lemmas.Bool.{eqb-true, lt-ltb}
use Rattle.std.proofs.lemmas.List.{append-nil, nil_from_length}
use Rattle.iso_msg.specs.declared.table.FieldForm.{FieldForm}
use Rattle.iso_msg.specs.Table.{form_of}
use Rattle.iso_codec.specs.declared.error.DecodeError.{DecodeError}
use Rattle.iso_codec.specs.declared.error.DecodeError.TheVariants.{BadMti, BadContent, Trailing}
use Rattle.iso_codec.proofs.ResultSteps.{bind_ok, guard_if, part_ok, part_again}
use Rattle.iso_codec.proofs.FieldValues.{fields_found, fields_again, known_again}
use Rattle.iso_codec.proofs.Bitmaps.{Between, bitmaps_found, bitmaps_again}
use Rattle.iso_msg.specs.Messages.{Fields, PlainMessage, with_value, numbers_of}
use Rattle.iso_msg.specs.Values.{has_content}
use Rattle.sw_base.specs.Digits.{is_digit}
use Rattle.iso_codec.specs.Grammar.{SpellsNumbers, Spells}
use Rattle.iso_codec.specs.Reads.{◌>>=◌, part, mti_is, bitmaps_at, field_numbers, front_at, known, text_at, field_at, fields_at, read}
use Rattle.iso_codec.proofs.FrontReads as fronts
use Rattle.iso_codec.specs.GrowingMessage.{read_grown, with_field, placed, grown_at, added}

-- what is left to do after the type, and after the numbers
abbrev last : List ℕ → Result (Fields × List ℕ) DecodeError → Result PlainMessage DecodeError
last mti r = r >>= λ fs. cond (eqb (length fs.1) 0) (Ok (record { mti = mti; fields = fs.0 })) (Err Trailing)

abbrev then_fields : List ℕ → List ℕ × List ℕ → Result PlainMessage DecodeError
then_fields mti ns = known (field_numbers ns.0) >>= λ ok. last mti (fields_at (field_numbers ns.0) ns.1)

-- a message under another name of its type
spelled_as : (bytes mti same : List ℕ) (fields : Fields) (m : PlainMessage) → mti ≡ same → record { mti = same; fields = fields } ≡ m →
    Spells bytes (record { mti = mti; fields = fields }) → Spells bytes m
spelled_as bytes mti same fields m e f s =
    let named : Spells bytes (record { mti = same; fields = fields }) = subst (λ (v : List ℕ). Spells bytes (record { mti = v; fields = fields })) e s in
    subst (λ x. Spells bytes x) f named

pub read_found : (bytes : List ℕ) (m : PlainMessage) → read bytes ≡ Ok m → Spells bytes m
unfolding read
read_found bytes m e =
    let p = bind_ok (part 4 bytes) (λ front. mti_is front.0 >>= λ mti. bitmaps_at front.1 >>= λ ns. then_fields mti ns) m e in
    let a = bind_ok (mti_is p.0.0) (λ mti. bitmaps_at p.0.1 >>= λ ns. then_fields mti ns) m p.2 in
    let b = bind_ok (bitmaps_at p.0.1) (λ ns. then_fields a.0 ns) m a.2 in
    let k = bind_ok (known (field_numbers b.0.0)) (λ ok. last a.0 (fields_at (field_numbers b.0.0) b.0.1)) m b.2 in
    let c = bind_ok (fields_at (field_numbers b.0.0) b.0.1) (λ fs. cond (eqb (length fs.1) 0) (Ok (record { mti = a.0; fields = fs.0 })) (Err Trailing)) m
    k.2 in
    let g = guard_if (eqb (length c.0.1) 0) Trailing (record { mti = a.0; fields = c.0.0 }) m c.2 in
    let t = part_ok 4 bytes p.0 p.1 in
    let u = guard_if (list_all is_digit p.0.0) BadMti p.0.0 a.0 a.1 in
    let q = bitmaps_found p.0.1 b.0 b.1 in
    let f = fields_found (field_numbers b.0.0) b.0.1 c.0 c.1 in
    let ended : c.0.1 ≡ [] = nil_from_length c.0.1 (eqb-true (length c.0.1) 0 g.0) in
    let rest : b.0.1 ≡ f.0.text = f.0.whole ∙ ap (λ (x : List ℕ). f.0.text ++ x) ended ∙ append-nil f.0.text in
    let made : PlainMessage = record { mti = p.0.0; fields = c.0.0 } in
    let all : Spells bytes made = (
      q.text,
      f.0.text,
      t.whole ∙ ap (λ (x : List ℕ). p.0.0 ++ x) (q.whole ∙ ap (λ (x : List ℕ). q.text ++ x) rest),
      (t.len, u.0),
      subst (λ (ns : List ℕ). SpellsNumbers q.text ns) (sym f.1) q.spells,
      f.0.spells,
    ) in
    spelled_as bytes p.0.0 a.0 c.0.0 m u.1 g.1 all

pub read_again : (bytes : List ℕ) (m : PlainMessage) → Spells bytes m → read bytes ≡ Ok m
unfolding read
read_again bytes m s =
    let g = bitmaps_again m.fields s.1 s.0 s.1 s.5 s.4 in
    let f = fields_again m.fields s.1 [] s.5 in
    let t : fields_at (numbers_of m.fields) s.1 ≡ Ok (m.fields, []) = ap (fields_at (numbers_of m.fields)) (sym (append-nil s.1)) ∙ f in
    ap read s.2 ∙ rw (part_again 4 m.mti (s.0 ++ s.1) s.3.0, s.3.1, g.reads, g.fields, known_again m.fields s.1 s.5, t) refl

-- numbers all below this one
abbrev EndsBelow : ℕ → Fields → Type 0
EndsBelow n [] = Unit {0}
EndsBelow n (f ∷ fs) = (f.0 < n) × EndsBelow n fs

last_put : (fs : Fields) (low n : ℕ) (v : List ℕ) → EndsBelow low fs → low ≤ n → with_value n v fs ≡ fs ++ (n, v) ∷ []
last_put [] low n v h le = refl
last_put (f ∷ fs) low n v h le = rw (lt-ltb f.0 n (omega (arith, h.0))) (ap (λ (x : Fields). f ∷ x) (last_put fs low n v h.1 le))

ends_more : (fs : Fields) (low n : ℕ) (v : List ℕ) → EndsBelow low fs → low ≤ n → EndsBelow (suc n) (fs ++ (n, v) ∷ [])
ends_more [] low n v h le = (omega arith, tt)
ends_more (f ∷ fs) low n v h le = (omega (arith, h.0), ends_more fs low n v h.1 le)

abbrev Grown : Type 0
Grown = Result (PlainMessage × List ℕ) DecodeError

abbrev gives : PlainMessage → List ℕ → Grown
gives m rest = Ok (m, rest)

abbrev reads : List ℕ → List ℕ → Result (List ℕ × List ℕ) DecodeError
reads v rest = Ok (v, rest)

abbrev put_in : PlainMessage → ℕ → Result (List ℕ × List ℕ) DecodeError → Grown
put_in m n r = r >>= λ v. Ok (with_field m n v.0, v.1)

abbrev and_rest : List ℕ → Result PlainMessage DecodeError → Grown
and_rest rest r = r >>= λ w. Ok (w, rest)

placed_is : (b : Bool) (m : PlainMessage) (n : ℕ) (v rest : List ℕ) → and_rest rest (cond b (Ok (with_field m n v)) (Err (BadContent n)))
    ≡ put_in m n (cond b (reads v rest) (Err (BadContent n)))
placed_is true m n v rest = refl
placed_is false m n v rest = refl

abbrev checked : FieldForm → ℕ → Result (List ℕ × List ℕ) DecodeError → Result (List ℕ × List ℕ) DecodeError
checked f n r = r >>= λ v. cond (has_content f v.0) (Ok v) (Err (BadContent n))

abbrev placed_after : FieldForm → PlainMessage → ℕ → Result (List ℕ × List ℕ) DecodeError → Grown
placed_after f m n r = r >>= λ v. placed f m n v.0 >>= λ w. Ok (w, v.1)

text_is : (f : FieldForm) (m : PlainMessage) (n : ℕ) (r : Result (List ℕ × List ℕ) DecodeError) → placed_after f m n r ≡ put_in m n (checked f n r)
text_is f m n (Ok v) = placed_is (has_content f v.0) m n v.0 v.1
text_is f m n (Err e) = refl

grown_is : (o : Option FieldForm) (m : PlainMessage) (n : ℕ) (bytes : List ℕ) → grown_at o m n bytes ≡ put_in m n (field_at o n bytes)
grown_is None m n bytes = refl
grown_is (Some f) m n bytes = text_is f m n (text_at f n bytes)

abbrev pub after_all : PlainMessage → Result (Fields × List ℕ) DecodeError → Grown
after_all m r = r >>= λ x. Ok (record { mti = m.mti; fields = m.fields ++ x.0 }, x.1)

abbrev one_more : ℕ → List ℕ → Result (Fields × List ℕ) DecodeError → Result (Fields × List ℕ) DecodeError
one_more n v r = r >>= λ fs. Ok ((n, v) ∷ fs.0, fs.1)

regroup : (m : PlainMessage) (low n : ℕ) (v : List ℕ) (r : Result (Fields × List ℕ) DecodeError) → EndsBelow low m.fields → low ≤ n →
    after_all (with_field m n v) r ≡ after_all m (one_more n v r)
regroup m low n v (Ok x) h le = ap (λ (fs : Fields). gives (record { mti = m.mti; fields = fs }) x.1)
    (ap (λ (fs : Fields). fs ++ x.0) (last_put m.fields low n v h le) ∙ append_assoc m.fields ((n, v) ∷ []) x.0)
regroup m low n v (Err e) h le = refl

step : (n : ℕ) (ns : List ℕ) (m : PlainMessage) (low : ℕ) (r : Result (List ℕ × List ℕ) DecodeError) → EndsBelow low m.fields → low ≤ n
    → ((v rest : List ℕ) → added (with_field m n v) ns rest ≡ after_all (with_field m n v) (fields_at ns rest))
    → (put_in m n r >>= λ x. added x.0 ns x.1) ≡ after_all m (r >>= λ v. fields_at ns v.1 >>= λ fs. Ok ((n, v.0) ∷ fs.0, fs.1))
step n ns m low (Err e) h le next = refl
step n ns m low (Ok v) h le next = next v.0 v.1 ∙ regroup m low n v.0 (fields_at ns v.1) h le

-- a message that grows has in the end what it had, and then what is read
pub added_is : (ns bytes : List ℕ) (m : PlainMessage) (low high : ℕ) → EndsBelow low m.fields → Between low high ns →
    added m ns bytes ≡ after_all m (fields_at ns bytes)
unfolding added fields_at
added_is [] bytes m low high h b = ap (λ (fs : Fields). gives (record { mti = m.mti; fields = fs }) bytes) (sym (append-nil m.fields))
added_is (n ∷ ns) bytes m low high h b =
    ap (λ (r : Grown). r >>= λ x. added x.0 ns x.1) (grown_is (form_of n) m n bytes)
    ∙ step n ns m low (field_at (form_of n) n bytes) h b.0 (λ v rest. added_is ns rest (with_field m n v) (suc n) high
    (subst (λ fs. EndsBelow (suc n) fs) (sym (last_put m.fields low n v h b.0)) (ends_more m.fields low n v h b.0)) b.1)

fields_between : (ns : List ℕ) → Between 1 129 ns → (low : ℕ) × Between low 129 (field_numbers ns)
fields_between [] b = (1, b)
fields_between (n ∷ ns) b = by (eqb n 1)
  where
    by : (t : Bool) → (low : ℕ) × Between low 129 (cond t ns (n ∷ ns))
    by true = (suc n, b.1)
    by false = (1, b)

abbrev ended : Grown → Result PlainMessage DecodeError
ended r = r >>= λ x. cond (eqb (length x.1) 0) (Ok x.0) (Err Trailing)

same_end : (mti : List ℕ) (r : Result (Fields × List ℕ) DecodeError) → ended (after_all (record { mti = mti; fields = [] }) r) ≡ last mti r
same_end mti (Ok x) = refl
same_end mti (Err e) = refl

same_after : {A B : Type 0} (r : Result A DecodeError) (f g : A → Result B DecodeError) → ((x : A) → r ≡ Ok x → f x ≡ g x) → (r >>= f) ≡ (r >>= g)
same_after (Ok x) f g h = h x refl
same_after (Err e) f g h = refl

pub read_grown_is : (bytes : List ℕ) → read_grown bytes ≡ read bytes
unfolding read_grown
read_grown_is bytes =
    same_after (front_at bytes) (λ f. ended (added (record { mti = f.0; fields = [] }) f.1 f.2)) fronts.then_fields (λ f e.
    let found = fronts.front_found bytes f e in
    let rising = fields_between found.bitmaps.0 (bitmaps_found found.rest found.bitmaps found.read).rising in
    let numbers : Between rising.0 129 f.1 = subst (λ (ns : List ℕ). Between rising.0 129 ns) found.numbers rising.1 in
    ap ended (added_is f.1 f.2 (record { mti = f.0; fields = [] }) rising.0 129 tt numbers) ∙ same_end f.0 (fields_at f.1 f.2))
    ∙ fronts.front_read bytes
