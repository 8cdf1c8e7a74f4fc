-- What is written spells the message without the fields that are left out.
-- for: recode::from_ascii
use Rattle.std.proofs.Common.{◌≡◌, ℕ, Bool, true, false, cond, List, [], ◌∷◌, ◌++◌, Option, Some, None}
use Rattle.std.proofs.Common.{refl, sym, subst, arith}
use Rattle.std.specs.Prelude.{not}
use Rattle.std.specs.List.{flat_map}
use Rattle.iso_msg.specs.Table.{form_of}
use Rattle.iso_msg.specs.Messages.{AreFields, Fields, IsMessage, PlainMessage, numbers_of}
use Rattle.iso_codec.specs.Spelling.{bitmaps}
use Rattle.iso_dialect.specs.declared.row.Row.{Row}
use Rattle.iso_dialect.specs.declared.profile.Draft.{Draft}
use Rattle.iso_dialect.specs.Codings.{coded}
use Rattle.iso_dialect.specs.Profiles.{Rows, is_kept_in, refusal_in, row_of}
use Rattle.iso_dialect.specs.Messages.{AreFieldsOf, AreNumbers, SpellsAs}
use Rattle.iso_dialect.specs.Writings.{can_write, field_bytes, field_bytes_in, is_left_out, is_sound_at, kept, kept_in, spelling_as, unwritable_in, value_bytes}
use Rattle.iso_dialect.proofs.CheckedRows.{codings_checked, sound_at}
use Rattle.iso_dialect.proofs.DecimalDigits.{digits_writable}
use Rattle.iso_dialect.proofs.KeptFields.{bitmaps_are, first_written, kept_fields, kept_message}
use Rattle.iso_dialect.proofs.Written.{reads_back}
use Rattle.iso_dialect.proofs.WrittenBitmaps.{are_numbers, numbers_between}
use Rattle.iso_dialect.proofs.WrittenFields.{field_is}

abbrev Field : Type 0
Field = ℕ × List ℕ

-- a field that is left out has no bytes
no_bytes_by : (b : Bool) (bytes : List ℕ) → not b ≡ true → cond b bytes [] ≡ []
no_bytes_by true bytes h = absurd cc
no_bytes_by false bytes h = refl

no_bytes : (o : Option Row) (n : ℕ) (v : List ℕ) → is_left_out o ≡ true → field_bytes o (form_of n) v ≡ []
no_bytes None n v h = refl
no_bytes (Some row) n v h = no_bytes_by row.is_kept (value_bytes row (form_of n) v) h

kept_by : (b : Bool) → not b ≡ false → b ≡ true
kept_by true h = refl
kept_by false h = absurd cc

is_kept : (o : Option Row) (n : ℕ) (v : List ℕ) → is_left_out o ≡ false → can_write o (form_of n) v ≡ true → is_kept_in o ≡ true
is_kept None n v h c = absurd cc
is_kept (Some row) n v h c = kept_by row.is_kept h

one_more : (rows : Rows) (f : Field) (more : Fields) (bytes : List ℕ) (b : Bool) → is_left_out (row_of rows f.0) ≡ b → is_sound_at (row_of rows f.0) ≡ true
    → (low : ℕ) → AreFields low (f ∷ []) → can_write (row_of rows f.0) (form_of f.0) f.1 ≡ true → AreFieldsOf rows (numbers_of more) bytes more
    → AreFieldsOf rows (numbers_of (cond b more (f ∷ more))) (field_bytes_in rows f ++ bytes) (cond b more (f ∷ more))
one_more rows f more bytes true e s low a c k =
    subst (λ (x : List ℕ). AreFieldsOf rows (numbers_of more) (x ++ bytes) more) (sym (no_bytes (row_of rows f.0) f.0 f.1 e)) k
one_more rows f more bytes false e s low a c k =
    (field_bytes_in rows f, bytes, f ∷ [], more, refl, refl, field_is (row_of rows f.0) f.0 f.1 s a.1 (is_kept (row_of rows f.0) f.0 f.1 e c) c, k)

are_fields : (rows : Rows) (low : ℕ) (fs : Fields) → ((n : ℕ) → is_sound_at (row_of rows n) ≡ true) → AreFields low fs → unwritable_in rows fs ≡ None
    → AreFieldsOf rows (numbers_of (kept_in rows fs)) (flat_map (field_bytes_in rows) fs) (kept_in rows fs)
are_fields rows low [] s a h = (refl, refl)
are_fields rows low (f ∷ fs) s a h =
    let w = first_written rows f fs h in
    one_more rows f (kept_in rows fs) (flat_map (field_bytes_in rows) fs) (is_left_out (row_of rows f.0)) refl (s f.0) low (a.0, a.1, tt) w.0
    (are_fields rows f.0 fs s a.2 w.1)

pub spelled : (profile : Draft) (m : PlainMessage) → refusal_in profile ≡ None → IsMessage m → unwritable_in profile.rows m.fields ≡ None
    → SpellsAs profile (spelling_as profile m) (kept profile m)
spelled profile m c v h =
    let k = codings_checked profile c in
    let ns = numbers_of (kept_in profile.rows m.fields) in
    let numbers = are_numbers profile.bitmap ns k.hex (numbers_between 1 (kept_in profile.rows m.fields) (omega arith) (kept_fields profile.rows 1 m.fields v.1)) in (
      coded profile.mti m.mti,
      coded profile.bitmap (bitmaps ns),
      flat_map (field_bytes_in profile.rows) m.fields,
      ns,
      refl,
      v.0,
      reads_back profile.mti m.mti (digits_writable profile.mti m.mti k.digits k.pad v.0.1),
      subst (λ (x : List ℕ). AreNumbers profile.bitmap (coded profile.bitmap x) ns) (bitmaps_are (kept profile m) (kept_message profile m v)) numbers,
      are_fields profile.rows 1 m.fields (λ n. sound_at profile n c) v.1 h,
    )
