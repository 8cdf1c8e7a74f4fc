-- Steps that may fail, taken apart.
-- for: FieldReads, BitmapReads, MessageReads (a copy of what iso_codec keeps to itself)
use Rattle.std.proofs.Common.{◌≡◌, ℕ, ◌≤◌, Bool, true, false, cond, ltb, List, ◌++◌, length, take, drop, Option, Some, None, Result, Ok, Err, refl, sym, subst}
use Rattle.std.proofs.Common.{inl, inr, ◌⊎◌, arith}
use Rattle.std.proofs.lemmas.Bool.{ltb-false, le-ltb}
use Rattle.std.proofs.lemmas.List.{take-append-drop, length-take, length-append, take_at, drop_at}
use Rattle.iso_codec.specs.declared.error.DecodeError.{DecodeError}
use Rattle.iso_codec.specs.declared.error.DecodeError.TheVariants.{Short}
use Rattle.iso_codec.specs.Reads.{◌>>=◌, or_fault, part}

abbrev pub done : {A : Type 0} → A → Result A DecodeError
done x = Ok x

pub ok_is : {A : Type 0} (x y : A) → done x ≡ done y → x ≡ y
ok_is x y e = cc

pub some_is : {A : Type 0} (x y : A) → Some x ≡ Some y → x ≡ y
some_is x y e = cc

pub bind_ok : {A B : Type 0} (r : Result A DecodeError) (f : A → Result B DecodeError) (y : B) → (r >>= f) ≡ Ok y → (x : A) × (r ≡ Ok x) × (f x ≡ Ok y)
bind_ok (Ok x) f y e = (x, refl, e)
bind_ok (Err d) f y e = absurd cc

pub guard_ok : {A : Type 0} (b : Bool) (d : DecodeError) (x y : A) → cond b (Err d) (Ok x) ≡ Ok y → (b ≡ false) × (x ≡ y)
guard_ok true d x y e = absurd cc
guard_ok false d x y e = (refl, cc)

pub guard_if : {A : Type 0} (b : Bool) (d : DecodeError) (x y : A) → cond b (Ok x) (Err d) ≡ Ok y → (b ≡ true) × (x ≡ y)
guard_if true d x y e = (refl, cc)
guard_if false d x y e = absurd cc

pub guard_then : {A : Type 0} (b : Bool) (d : DecodeError) (r : Result A DecodeError) (y : A) → cond b (Err d) r ≡ Ok y → (b ≡ false) × (r ≡ Ok y)
guard_then true d r y e = absurd cc
guard_then false d r y e = (refl, e)

pub if_then : {A : Type 0} (b : Bool) (d : DecodeError) (r : Result A DecodeError) (y : A) → cond b r (Err d) ≡ Ok y → (b ≡ true) × (r ≡ Ok y)
if_then true d r y e = (refl, e)
if_then false d r y e = absurd cc

pub or_ok : {A : Type 0} (o : Option A) (d : DecodeError) (y : A) → or_fault o d ≡ Ok y → o ≡ Some y
or_ok None d y e = absurd cc
or_ok (Some x) d y e = cc

pub chosen : {A : Type 0} (b : Bool) (x y z : A) → cond b x y ≡ z → ((b ≡ true) × (x ≡ z)) ⊎ ((b ≡ false) × (y ≡ z))
chosen true x y z e = inl (refl, e)
chosen false x y z e = inr (refl, e)

-- this many bytes that were taken from the front
pub record Taken (k : ℕ) (bytes front rest : List ℕ) : Type 0 where
  pub whole : bytes ≡ front ++ rest
  pub len : length front ≡ k

pub part_ok : (k : ℕ) (bytes : List ℕ) (x : List ℕ × List ℕ) → part k bytes ≡ Ok x → Taken k bytes x.0 x.1
part_ok k bytes x e =
    let g = guard_ok (ltb (length bytes) k) Short (take k bytes, drop k bytes) x e in
    let long : k ≤ length bytes = ltb-false _ _ g.0 in
    let all : Taken k bytes (take k bytes) (drop k bytes) = record { whole = sym (take-append-drop k bytes); len = omega (arith, length-take k bytes) } in
    subst (λ (y : List ℕ × List ℕ). Taken k bytes y.0 y.1) g.1 all

pub part_again : (k : ℕ) (front rest : List ℕ) → length front ≡ k → part k (front ++ rest) ≡ Ok (front, rest)
part_again k front rest len =
    let long : ltb (length (front ++ rest)) k ≡ false = le-ltb _ _ (omega (arith, length-append front rest)) in
    rw (long, take_at front rest k len, drop_at front rest k len) refl
