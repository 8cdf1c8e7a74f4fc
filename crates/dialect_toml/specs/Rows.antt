-- The draft that the tables of a document state.
use Rattle.std.specs.Prelude.{ℕ, ◌==◌, Bool, true, false, List, [], map, Option, Some, None, option_map, unwrap_or, find}
use Rattle.std.specs.List.{range_with_len}
use Rattle.iso_dialect.specs.declared.coding.Page.{Page}
use Rattle.iso_dialect.specs.declared.coding.Coding.{Coding}
use Rattle.iso_dialect.specs.declared.row.Count.TheVariants.{Digits}
use Rattle.iso_dialect.specs.declared.row.Size.{Size}
use Rattle.iso_dialect.specs.declared.row.Size.TheVariants.{Counted}
use Rattle.iso_dialect.specs.declared.row.Row.{Row}
use Rattle.iso_dialect.specs.declared.profile.Draft.{Draft}
use Rattle.iso_dialect.specs.Profiles.{Rows}
use Rattle.toml.specs.Data.{Members}
use Rattle.toml_tables.specs.Tables.{table_at, text_at}
use Rattle.dialect_toml.specs.declared.keys.Key.{Key}
use Rattle.dialect_toml.specs.declared.keys.Key.TheVariants as key
use Rattle.dialect_toml.specs.declared.words.BitmapClass.TheVariants as bitmap
use Rattle.dialect_toml.specs.declared.words.MtiClass.TheVariants as mti
use Rattle.dialect_toml.specs.declared.words.PageName.TheVariants as page
use Rattle.dialect_toml.specs.declared.words.Side.{Side}
use Rattle.dialect_toml.specs.declared.words.Side.TheVariants as at
use Rattle.dialect_toml.specs.Keys.{spelling}
use Rattle.dialect_toml.specs.Words.{bitmap_class, bitmap_classes, mti_class, mti_classes, page_name, page_names, side, sides, word_in}
use Rattle.dialect_toml.specs.Shapes.{bitmap_coding, coding_by, kind_of, lead_of, mti_coding, page_by, size_by, units}
use Rattle.dialect_toml.specs.Tables.{class_of, fields_of, is_kept, length_of, number_at, number_of}

abbrev pub is_right : Option Side → Bool
is_right None = false
is_right (Some at.Left) = false
is_right (Some at.Right) = true

-- digits are padded on the left, with zero, unless the file says otherwise
abbrev pub is_on_right : Members → Bool
is_on_right ms = is_right (word_in side sides (text_at (spelling key.Pad) ms))

abbrev pub half_of : Members → ℕ
half_of ms = unwrap_or (number_at 15 key.PadHalf ms) 0

abbrev pub counted : Coding → ℕ → ℕ → Size
counted coding digits most = Counted (Digits coding digits) most

-- how a field is written, by its table
abbrev pub row_in : Page → Members → Row
row_in p ms = record {
  size = size_by (lead_of (class_of ms)) p (units (kind_of (class_of ms)) (length_of ms));
  coding = coding_by (kind_of (class_of ms)) p (is_on_right ms) (half_of ms);
  is_kept = is_kept ms;
}

-- the row of a number, by the table that has the number
abbrev pub row_at : Page → List Members → ℕ → Option Row
row_at p fields n = option_map (row_in p) (find (λ ms. number_of ms == n) fields)

-- the rows of all numbers
unfoldable pub rows_of : Page → List Members → Rows
rows_of p fields = map (row_at p fields) (range_with_len 0 129)

-- what stands at a key of `message`
abbrev pub text_in : Key → Option Members → List ℕ
text_in k None = []
text_in k (Some ms) = text_at (spelling k) ms

abbrev pub message_text : Key → Members → List ℕ
message_text k top = text_in k (table_at (spelling key.Message) top)

-- without a page, that of jPOS
abbrev pub page_of : Members → Page
page_of top = page_by (unwrap_or (word_in page_name page_names (message_text key.Page top)) page.Cp1047)

abbrev pub mti_of : Members → Coding
mti_of top = mti_coding (unwrap_or (word_in mti_class mti_classes (message_text key.Type top)) mti.IfaNumeric) (page_of top)

abbrev pub bitmap_of : Members → Coding
bitmap_of top = bitmap_coding (unwrap_or (word_in bitmap_class bitmap_classes (message_text key.Bitmap top)) bitmap.IfaBitmap) (page_of top)

unfoldable pub draft_of : Members → Draft
draft_of top = record { mti = mti_of top; bitmap = bitmap_of top; rows = rows_of (page_of top) (fields_of top) }
