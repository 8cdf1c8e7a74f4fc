-- What is known of the rows of a profile.
-- for: profile::Profile::row, ascii::to_ascii, write_message::write_message, WrittenMessages
use Rattle.std.proofs.Common.{◌≡◌, ◌∙◌, ℕ, zero, suc, ◌+◌, Bool, true, false, ◌&&◌, [], ◌∷◌, Option, Some, None, refl, sym, ap}
use Rattle.std.proofs.Common.{arith, add-zero, zero-add}
use Rattle.std.specs.Prelude.{not}
use Rattle.sw_base.specs.Refusals.{first_at, refused_if}
use Rattle.sw_base.proofs.Unrefused.{left_none, right_none}
use Rattle.iso_msg.proofs.Bools.{and_both}
use Rattle.iso_msg.specs.Table.{form_of}
use Rattle.iso_dialect.specs.declared.row.Row.{Row}
use Rattle.iso_dialect.specs.declared.profile.Draft.{Draft}
use Rattle.iso_dialect.specs.declared.error.ProfileError.{ProfileError}
use Rattle.iso_dialect.specs.declared.error.ProfileError.TheVariants.{BadMtiCoding, BadBitmapCoding, NoField, NotInTable, NeverFits, BadCount, CountTooSmall, BadPad}
use Rattle.iso_dialect.specs.Writings.{is_sound, is_sound_at}
use Rattle.iso_dialect.specs.Profiles.{Rows, counts, fits_table, has_room, is_count, is_count_pad, is_defined, is_field, is_pad, refusal_at, refusal_in}
use Rattle.iso_dialect.specs.Profiles.{row_of, row_refusal, takes_digits, takes_hex}

not_refused : (b : Bool) (e : ProfileError) → refused_if (not b) e ≡ None → b ≡ true
not_refused true e h = refl
not_refused false e h = absurd cc

row_counts : (n : ℕ) (row : Row) → row_refusal n row ≡ None → is_count row.size ≡ true
row_counts n row h =
    let a = right_none (refused_if (not (is_field n)) (NoField n)) _ h in
    let b = right_none (refused_if (row.is_kept && not (is_defined (form_of n))) (NotInTable n)) _ a in
    let c = right_none (refused_if (row.is_kept && not (fits_table row (form_of n))) (NeverFits n)) _ b in
    not_refused (is_count row.size) (BadCount n) (left_none (refused_if (not (is_count row.size)) (BadCount n)) _ c)

row_sound : (n : ℕ) (row : Row) → row_refusal n row ≡ None → is_sound row ≡ true
row_sound n row h =
    let a = right_none (refused_if (not (is_field n)) (NoField n)) _ h in
    let b = right_none (refused_if (row.is_kept && not (is_defined (form_of n))) (NotInTable n)) _ a in
    let c = right_none (refused_if (row.is_kept && not (fits_table row (form_of n))) (NeverFits n)) _ b in
    let d = right_none (refused_if (not (is_count row.size)) (BadCount n)) _ c in
    let e = right_none (refused_if (not (has_room row.size)) (CountTooSmall n)) _ d in
    rw (
      not_refused (is_count row.size) (BadCount n) (left_none (refused_if (not (is_count row.size)) (BadCount n)) _ c),
      not_refused (has_room row.size) (CountTooSmall n) (left_none (refused_if (not (has_room row.size)) (CountTooSmall n)) _ d),
    ) (not_refused (is_count_pad row.size && is_pad row.coding) (BadPad n)
    (left_none (refused_if (not (is_count_pad row.size && is_pad row.coding)) (BadPad n)) None e))

refusal_of : (rows : Rows) (k i : ℕ) → first_at refusal_at k rows ≡ None → refusal_at (k + i) (row_of rows i) ≡ None
refusal_of [] k i h = refl
refusal_of (o ∷ rows) k zero h =
    ap (λ (n : ℕ). refusal_at n o) (add-zero k) ∙ left_none (refusal_at k o) (first_at refusal_at (k + 1) rows) h
refusal_of (o ∷ rows) k (suc i) h =
    let same : k + suc i ≡ k + 1 + i = omega arith in
    ap (λ (n : ℕ). refusal_at n (row_of rows i)) same
    ∙ refusal_of rows (k + 1) i (right_none (refusal_at k o) (first_at refusal_at (k + 1) rows) h)

rows_checked : (profile : Draft) → refusal_in profile ≡ None → first_at refusal_at 0 profile.rows ≡ None
unfolding refusal_in
rows_checked profile h =
    let a = right_none (refused_if (not (takes_digits profile.mti && is_pad profile.mti)) BadMtiCoding) _ h in
    let b = right_none (refused_if (not (takes_hex profile.bitmap)) BadBitmapCoding) _ a in
    left_none (first_at refusal_at 0 profile.rows) None b

refusal_here : (profile : Draft) (n : ℕ) → refusal_in profile ≡ None → refusal_at n (row_of profile.rows n) ≡ None
refusal_here profile n h =
    sym (ap (λ (m : ℕ). refusal_at m (row_of profile.rows n)) (zero-add n)) ∙ refusal_of profile.rows 0 n (rows_checked profile h)

counts_by : (n : ℕ) (o : Option Row) → refusal_at n o ≡ None → counts o ≡ true
counts_by n None h = refl
counts_by n (Some row) h = row_counts n row h

-- how many are counted can be read in each row
pub counts_at : (profile : Draft) (n : ℕ) → refusal_in profile ≡ None → counts (row_of profile.rows n) ≡ true
counts_at profile n h = counts_by n (row_of profile.rows n) (refusal_here profile n h)

sound_by : (n : ℕ) (o : Option Row) → refusal_at n o ≡ None → is_sound_at o ≡ true
sound_by n None h = refl
sound_by n (Some row) h = row_sound n row h

-- each row can be written by
pub sound_at : (profile : Draft) (n : ℕ) → refusal_in profile ≡ None → is_sound_at (row_of profile.rows n) ≡ true
sound_at profile n h = sound_by n (row_of profile.rows n) (refusal_here profile n h)

pub record Codings (profile : Draft) : Type 0 where
  pub digits : takes_digits profile.mti ≡ true
  pub pad : is_pad profile.mti ≡ true
  pub hex : takes_hex profile.bitmap ≡ true

-- the codings of the type and of the bitmaps
pub codings_checked : (profile : Draft) → refusal_in profile ≡ None → Codings profile
unfolding refusal_in
codings_checked profile h =
    let a = right_none (refused_if (not (takes_digits profile.mti && is_pad profile.mti)) BadMtiCoding) _ h in
    let p = and_both (takes_digits profile.mti) (is_pad profile.mti)
    (not_refused (takes_digits profile.mti && is_pad profile.mti) BadMtiCoding
    (left_none (refused_if (not (takes_digits profile.mti && is_pad profile.mti)) BadMtiCoding) _ h)) in
    record {
      digits = p.0;
      pad = p.1;
      hex = not_refused (takes_hex profile.bitmap) BadBitmapCoding (left_none (refused_if (not (takes_hex profile.bitmap)) BadBitmapCoding) _ a);
    }

-- bit 1 has no row
no_row : (o : Option Row) → refusal_at 1 o ≡ None → o ≡ None
no_row None h = refl
no_row (Some row) h = absurd cc

pub no_row_1 : (profile : Draft) → refusal_in profile ≡ None → row_of profile.rows 1 ≡ None
no_row_1 profile h = no_row (row_of profile.rows 1) (refusal_here profile 1 h)
