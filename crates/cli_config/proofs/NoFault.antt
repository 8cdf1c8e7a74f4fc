-- What stands at the keys of a table without a fault.
-- for: read::read_document
use Rattle.std.proofs.Common.{◌≡◌, ◌≤◌, ℕ, pos, negsuc, Bool, true, false, ◌&&◌, not, nat_le, List, [], ◌∷◌, length, map, Option, Some, None, is_some, is_none}
use Rattle.std.proofs.Common.{option_map, option_and_then, unwrap_or, IfSome, refl, arith, if◌then◌else◌}
use Rattle.std.specs.Char.{is_ascii_digit}
use Rattle.std.specs.List.{AllByRecursion, list_all}
use Rattle.std.proofs.lemmas.Bool.Decides.{nat_tests}
use Rattle.sw_base.specs.Refusals.{first_of, refused_if}
use Rattle.sw_base.proofs.Unrefused.{left_none, right_none}
use Rattle.sw_context.specs.Names.{is_name}
use Rattle.toml.specs.Data.{Data, string, integer, float, boolean, datetime, array, table, Items, no_items, item, Members, as_str, as_integer}
use Rattle.cli_config.specs.declared.error.TableError.{TableError}
use Rattle.cli_config.specs.declared.error.TableError.TheVariants.{BadValue}
use Rattle.cli_config.specs.declared.keys.TablePath.{TablePath}
use Rattle.cli_config.specs.declared.keys.Key.{Key}
use Rattle.cli_config.specs.declared.keys.Want.{Want}
use Rattle.cli_config.specs.declared.keys.Want.TheVariants as want
use Rattle.cli_config.specs.Keys.{is_required, wants}
use Rattle.cli_config.specs.Tables.{names_below, names_in, value_at, whole}
use Rattle.cli_config.specs.Faults.{are_names, bad, excluded_in, is_name_in, fits, fits_text, found_of, missing, stands}
use Rattle.cli_config.specs.Checked.{AreShortNames, IsIn, IsPath}

-- of several tests that refuse nothing, none does
pub none_of : {A : Type 0} (test : A → Option TableError) (xs : List A) → first_of (map test xs) ≡ None → AllByRecursion (λ x. test x ≡ None) xs
none_of test [] h = tt
none_of test (x ∷ xs) h = (left_none (test x) (first_of (map test xs)) h, none_of test xs (right_none (test x) (first_of (map test xs)) h))

pub not_refused : (b : Bool) (e : TableError) → refused_if b e ≡ None → b ≡ false
not_refused false e h = refl
not_refused true e h = absurd (cc)

fits_if : (b : Bool) (d : Data) (refusal : Data → TableError) → option_map refusal (if b then None else Some d) ≡ None → b ≡ true
fits_if true d refusal h = refl
fits_if false d refusal h = absurd (cc)

-- the values that may stand where a thing is wanted are the only ones
abbrev pub AreFit : Want → Option Data → Type 0
AreFit w o = (d : Data) → o ≡ Some d → fits w d ≡ true

pub is_fit : (p : TablePath) (ms : Members) (k : Key) → bad p ms k ≡ None → AreFit (wants k) (value_at k ms)
is_fit p ms k h d is = fits_if (fits (wants k) d) d (λ x. BadValue k p (found_of x)) (rw is at h)

stands_if : (required there : Bool) (o : Option Key) → ((required && not there) && is_none o) ≡ false → required ≡ true → o ≡ None → there ≡ true
stands_if true true o h r e = refl
stands_if true false None h r e = absurd (cc)
stands_if true false (Some k) h r e = absurd (cc)
stands_if false there o h r e = absurd (cc)

pub is_there : (p : TablePath) (ms : Members) (k : Key) → missing p ms k ≡ None → is_required k ≡ true → excluded_in ms k ≡ None →
    is_some (value_at k ms) ≡ true
is_there p ms k h r e = stands_if (is_required k) (stands ms k) (excluded_in ms k) (not_refused _ _ h) r e

-- only strings may stand where a text is wanted
abbrev pub AreTexts : Want → Type 0
AreTexts w = (d : Data) → fits w d ≡ true → fits_text w (unwrap_or (as_str d) []) ≡ true

pub names_are_texts : (most : ℕ) → AreTexts (want.Name most)
names_are_texts most (string s) h = h
names_are_texts most (integer z) h = absurd (cc)
names_are_texts most (float x) h = absurd (cc)
names_are_texts most (boolean b) h = absurd (cc)
names_are_texts most (datetime t) h = absurd (cc)
names_are_texts most (array ds) h = absurd (cc)
names_are_texts most (table ms) h = absurd (cc)

pub digits_are_texts : (most : ℕ) → AreTexts (want.Digits most)
digits_are_texts most (string s) h = h
digits_are_texts most (integer z) h = absurd (cc)
digits_are_texts most (float x) h = absurd (cc)
digits_are_texts most (boolean b) h = absurd (cc)
digits_are_texts most (datetime t) h = absurd (cc)
digits_are_texts most (array ds) h = absurd (cc)
digits_are_texts most (table ms) h = absurd (cc)

pub paths_are_texts : AreTexts want.Path
paths_are_texts (string s) h = h
paths_are_texts (integer z) h = absurd (cc)
paths_are_texts (float x) h = absurd (cc)
paths_are_texts (boolean b) h = absurd (cc)
paths_are_texts (datetime t) h = absurd (cc)
paths_are_texts (array ds) h = absurd (cc)
paths_are_texts (table ms) h = absurd (cc)

-- the text at a key that must be there
pub text_fits : (w : Want) → AreTexts w → (o : Option Data) → is_some o ≡ true → AreFit w o → fits_text w (unwrap_or (option_and_then as_str o) []) ≡ true
text_fits w are None there fit = absurd (cc)
text_fits w are (Some d) there fit = are d (fit d refl)

pub long_enough : (s : List ℕ) → fits_text want.Path s ≡ true → IsPath s
long_enough s h = grind (arith, nat_tests)

and_first : (a b : Bool) → (a && b) ≡ true → a ≡ true
and_first true b h = refl
and_first false b h = absurd (cc)

and_second : (a b : Bool) → (a && b) ≡ true → b ≡ true
and_second true b h = h
and_second false b h = absurd (cc)

at_most : (a b : ℕ) → nat_le a b ≡ true → a ≤ b
at_most a b h = grind (arith, nat_tests)

pub name_parts : (most : ℕ) (s : List ℕ) → fits_text (want.Name most) s ≡ true → (is_name s ≡ true) × (length s ≤ most)
name_parts most s h = (and_first (is_name s) (nat_le (length s) most) h, at_most (length s) most (and_second (is_name s) (nat_le (length s) most) h))

pub digits_parts : (most : ℕ) (s : List ℕ) → fits_text (want.Digits most) s ≡ true → IsIn 1 most (length s) × (list_all is_ascii_digit s ≡ true)
digits_parts most s h =
    let few : (nat_le (length s) most && list_all is_ascii_digit s) ≡ true =
    and_second (nat_le 1 (length s)) (nat_le (length s) most && list_all is_ascii_digit s) h in (
      (
        at_most 1 (length s) (and_first (nat_le 1 (length s)) (nat_le (length s) most && list_all is_ascii_digit s) h),
        at_most (length s) most (and_first (nat_le (length s) most) (list_all is_ascii_digit s) few),
      ),
      and_second (nat_le (length s) most) (list_all is_ascii_digit s) few,
    )

-- the path at a key that may be there
pub path_fits : (o : Option Data) → AreFit want.Path o → IfSome (option_map (λ d. unwrap_or (option_and_then as_str o) []) o) IsPath
path_fits None fit = tt
path_fits (Some d) fit = long_enough _ (paths_are_texts d (fit d refl))

named : (d : Data) (ds : Items) → (is_name_in 32 d && are_names 32 ds) ≡ true → AreShortNames (names_in ds) → AreShortNames (names_in (item d ds))
named (string s) ds h more = (name_parts 32 s (and_first (is_name_in 32 (string s)) (are_names 32 ds) h), more)
named (integer z) ds h more = absurd (cc)
named (float x) ds h more = absurd (cc)
named (boolean b) ds h more = absurd (cc)
named (datetime t) ds h more = absurd (cc)
named (array es) ds h more = absurd (cc)
named (table ms) ds h more = absurd (cc)

names_of : (ds : Items) → are_names 32 ds ≡ true → AreShortNames (names_in ds)
names_of no_items h = tt
names_of (item d ds) h = named d ds h (names_of ds (and_second (is_name_in 32 d) (are_names 32 ds) h))

-- the names at a key that may be there
pub names_fit : (o : Option Data) → AreFit (want.Names 32) o → IfSome (option_map names_below o) AreShortNames
names_fit None fit = tt
names_fit (Some (array ds)) fit = names_of ds (fit (array ds) refl)
names_fit (Some (string s)) fit = tt
names_fit (Some (integer z)) fit = tt
names_fit (Some (float x)) fit = tt
names_fit (Some (boolean b)) fit = tt
names_fit (Some (datetime t)) fit = tt
names_fit (Some (table ms)) fit = tt

-- the number at a key that may be there
pub number_fits : (least most : ℕ) (o : Option Data) → AreFit (want.Number least most) o →
    IfSome (option_and_then whole (option_and_then as_integer o)) (IsIn least most)
number_fits least most None fit = tt
number_fits least most (Some (integer (pos n))) fit = let h = fit (integer (pos n)) refl in grind (arith, nat_tests)
number_fits least most (Some (integer (negsuc n))) fit = tt
number_fits least most (Some (string s)) fit = tt
number_fits least most (Some (float x)) fit = tt
number_fits least most (Some (boolean b)) fit = tt
number_fits least most (Some (datetime t)) fit = tt
number_fits least most (Some (array ds)) fit = tt
number_fits least most (Some (table ms)) fit = tt
