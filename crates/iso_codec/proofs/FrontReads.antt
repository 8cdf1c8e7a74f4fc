-- Reading is reading the front, and then the fields.
-- for: cli_decode::text::push_frame, read::decode, check::type_in
use Rattle.std.proofs.Common.{◌≡◌, ℕ, Bool, true, false, cond, eqb, List, length, Result, Ok, Err, refl, ap, ◌∙◌}
use Rattle.std.specs.List.{list_all}
use Rattle.sw_base.specs.Digits.{is_digit}
use Rattle.iso_msg.specs.Messages.{Fields, PlainMessage}
use Rattle.iso_codec.specs.declared.error.DecodeError.{DecodeError}
use Rattle.iso_codec.specs.declared.error.DecodeError.TheVariants.{BadMti, Trailing}
use Rattle.iso_codec.proofs.ResultSteps.{bind_ok, ok_is}
use Rattle.iso_codec.specs.Reads.{◌>>=◌, part, mti_is, bitmaps_at, field_numbers, known, fields_at, front_at, read}

pub bind_into : {A B C : Type 0} (r : Result A DecodeError) (f : A → Result B DecodeError) (g : B → Result C DecodeError) (h : A → Result C DecodeError) →
    ((x : A) → (f x >>= g) ≡ h x) → ((r >>= f) >>= g) ≡ (r >>= h)
bind_into (Ok x) f g h e = e x
bind_into (Err d) f g h e = refl

abbrev pub Front : Type 0
Front = List ℕ × List ℕ × List ℕ

abbrev pub ended : List ℕ → Fields × List ℕ → Result PlainMessage DecodeError
ended mti fields = cond (eqb (length fields.1) 0) (Ok (record { mti = mti; fields = fields.0 })) (Err Trailing)

abbrev pub then_fields : Front → Result PlainMessage DecodeError
then_fields f = fields_at f.1 f.2 >>= λ fields. ended f.0 fields

abbrev front : List ℕ → List ℕ → List ℕ → Result Front DecodeError
front digits ns rest = Ok (digits, ns, rest)

-- the type is the digits
same_type : {A : Type 0} (b : Bool) (digits : List ℕ) (f : List ℕ → Result A DecodeError) → (cond b (Ok digits) (Err BadMti) >>= λ mti. f digits)
    ≡ (cond b (Ok digits) (Err BadMti) >>= f)
same_type true digits f = refl
same_type false digits f = refl

pub front_read : (bytes : List ℕ) → (front_at bytes >>= then_fields) ≡ read bytes
unfolding front_at read
front_read bytes =
    bind_into (part 4 bytes)
    (λ p. mti_is p.0 >>= λ mti. bitmaps_at p.1 >>= λ ns. known (field_numbers ns.0) >>= λ ok. front p.0 (field_numbers ns.0) ns.1)
    then_fields
    (λ p. mti_is p.0 >>= λ mti. bitmaps_at p.1 >>= λ ns. known (field_numbers ns.0) >>= λ ok. fields_at (field_numbers ns.0) ns.1 >>= λ fields. ended mti
    fields)
    (λ p.
    bind_into (mti_is p.0)
    (λ mti. bitmaps_at p.1 >>= λ ns. known (field_numbers ns.0) >>= λ ok. front p.0 (field_numbers ns.0) ns.1)
    then_fields
    (λ mti. bitmaps_at p.1 >>= λ ns. known (field_numbers ns.0) >>= λ ok. fields_at (field_numbers ns.0) ns.1 >>= λ fields. ended p.0 fields)
    (λ mti. bind_into (bitmaps_at p.1)
    (λ ns. known (field_numbers ns.0) >>= λ ok. front p.0 (field_numbers ns.0) ns.1)
    then_fields
    (λ ns. known (field_numbers ns.0) >>= λ ok. fields_at (field_numbers ns.0) ns.1 >>= λ fields. ended p.0 fields)
    (λ ns. bind_into (known (field_numbers ns.0)) (λ ok. front p.0 (field_numbers ns.0) ns.1) then_fields
    (λ ok. fields_at (field_numbers ns.0) ns.1 >>= λ fields. ended p.0 fields) (λ ok. refl)))
    ∙ same_type (list_all is_digit p.0) p.0 (λ mti. bitmaps_at p.1 >>= λ ns. known (field_numbers ns.0) >>= λ ok. fields_at (field_numbers ns.0) ns.1 >>=
    λ fields. ended mti fields))

-- the bitmaps of a front that was found, with its numbers
pub record FoundFront (f : Front) : Type 0 where
  pub rest : List ℕ
  pub bitmaps : List ℕ × List ℕ
  pub read : bitmaps_at rest ≡ Ok bitmaps
  pub numbers : field_numbers bitmaps.0 ≡ f.1

abbrev after_mti : List ℕ → List ℕ → Result Front DecodeError
after_mti digits rest = bitmaps_at rest >>= λ ns. known (field_numbers ns.0) >>= λ ok. front digits (field_numbers ns.0) ns.1

pub front_found : (bytes : List ℕ) (f : Front) → front_at bytes ≡ Ok f → FoundFront f
unfolding front_at
front_found bytes f e =
    let p = bind_ok (part 4 bytes) (λ p. mti_is p.0 >>= λ mti. after_mti p.0 p.1) f e in
    let a = bind_ok (mti_is p.0.0) (λ mti. after_mti p.0.0 p.0.1) f p.2 in
    let b = bind_ok (bitmaps_at p.0.1) (λ ns. known (field_numbers ns.0) >>= λ ok. front p.0.0 (field_numbers ns.0) ns.1) f a.2 in
    let k = bind_ok (known (field_numbers b.0.0)) (λ ok. front p.0.0 (field_numbers b.0.0) b.0.1) f b.2 in
    let read : Front = (p.0.0, field_numbers b.0.0, b.0.1) in
    let same : read ≡ f = ok_is read f k.2 in
    record {
      rest = p.0.1;
      bitmaps = b.0;
      read = b.1;
      numbers = ap (λ (z : Front). z.1) same;
    }
