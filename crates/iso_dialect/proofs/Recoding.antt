-- What writing a text gives.
-- for: recode::answer, recode::to_report, recode::from_ascii
use Rattle.std.proofs.Common.{◌≡◌, ◌∙◌, ◌≤◌, ℕ, true, List, length, Some, None, Result, Ok, Err, refl, sym, ap, subst}
use Rattle.std.specs.Prelude.{IfErr, IfOk, MatchResult}
use Rattle.std.specs.List.{list_all}
use Rattle.iso_msg.specs.Messages.{PlainMessage}
use Rattle.iso_msg.specs.Values.{is_byte}
use Rattle.iso_codec.specs.declared.error.DecodeError.{DecodeError}
use Rattle.iso_codec.specs.Grammar.{Spells}
use Rattle.iso_codec.specs.declared.error.DecodeError.TheVariants as codec
use Rattle.iso_codec.specs.Reads.{Answers, read}
use Rattle.iso_codec.proofs.MessageReads as today
use Rattle.iso_dialect.specs.declared.error.WriteError.{WriteError}
use Rattle.iso_dialect.specs.declared.error.WriteError.TheVariants.{NotAMessage, NotWritable, OutOfMemory}
use Rattle.iso_dialect.specs.declared.profile.Draft.{Draft}
use Rattle.iso_dialect.specs.Profiles.{refusal_in}
use Rattle.iso_dialect.specs.Messages.{SpellsAs}
use Rattle.iso_dialect.specs.Writings.{GivesBytes, IsWriteFault, IsWrittenOf, kept, spelling_as, unwritable_in}
use Rattle.iso_dialect.proofs.MessageReads.{read_again}
use Rattle.iso_dialect.proofs.WritableFields.{spelled_can}
use Rattle.iso_dialect.proofs.WrittenMessages.{spelled}
use Rattle.iso_dialect.proofs.WrittenLength.{message_few}

pub found_by : {X : Type 0} (view : X → List ℕ) (p : Draft) (text : List ℕ) (r : Result X WriteError) → refusal_in p ≡ None
    → GivesBytes view p r (read text) → IfOk r (λ x. IsWrittenOf p text (view x))
found_by view p text (Ok x) c a =
    let m = a.0 in
    let spells = today.read_found text m a.1 in
    let now = spelled p m c a.2 a.3 in
    let bytes : SpellsAs p (view x) (kept p m) = subst (λ (b : List ℕ). SpellsAs p b (kept p m)) (sym a.4) now in
    (m, spells, bytes, a.4, read_again p (view x) (kept p m) c bytes)
found_by view p text (Err e) c a = tt

pub short_by : {X : Type 0} (view : X → List ℕ) (p : Draft) (r : Result X WriteError) (reading : Result PlainMessage DecodeError) → refusal_in p ≡ None
    → GivesBytes view p r reading → IfOk r (λ x. length (view x) ≤ 9999)
short_by view p (Ok x) reading c a = subst (λ (b : List ℕ). length b ≤ 9999) (sym a.4) (message_few p a.0 c a.2 a.3)
short_by view p (Err e) reading c a = tt

abbrev reads : PlainMessage → Result PlainMessage DecodeError
reads m = Ok m

pub only_by : {X : Type 0} (view : X → List ℕ) (p : Draft) (text bytes : List ℕ) (r : Result X WriteError) (m : PlainMessage) → refusal_in p ≡ None
    → GivesBytes view p r (read text) → Spells text m → list_all is_byte bytes ≡ true → SpellsAs p bytes (kept p m)
    → MatchResult r (λ x. view x ≡ spelling_as p m) (λ e. e ≡ OutOfMemory)
only_by view p text bytes (Ok x) m c a s b k =
    let both : reads a.0 ≡ reads m = sym a.1 ∙ today.read_again text m s in
    let same : a.0 ≡ m = cc in
    a.4 ∙ ap (spelling_as p) same
only_by view p text bytes (Err (NotAMessage e)) m c a s b k =
    let both : reads m ≡ Err e = sym (today.read_again text m s) ∙ a in
    absurd cc
only_by view p text bytes (Err (NotWritable n)) m c a s b k =
    let both : reads a.0 ≡ reads m = sym a.1 ∙ today.read_again text m s in
    let same : a.0 ≡ m = cc in
    let none : Some n ≡ None = sym a.2 ∙ ap (λ (x : PlainMessage). unwritable_in p.rows x.fields) same ∙ spelled_can p m bytes c b k in
    absurd cc
only_by view p text bytes (Err OutOfMemory) m c a s b k = refl

pub fault_by : {X : Type 0} (view : X → List ℕ) (p : Draft) (text : List ℕ) (r : Result X WriteError) → GivesBytes view p r (read text)
    → IfErr r (λ e. IsWriteFault p text e)
fault_by view p text (Ok x) a = tt
fault_by view p text (Err (NotAMessage e)) a = a
fault_by view p text (Err (NotWritable n)) a = (a.0, today.read_found text a.0 a.1, a.2)
fault_by view p text (Err OutOfMemory) a = (a.0, today.read_found text a.0 a.1, a.2)

-- ---- where the text was read

pub of_reading : {X : Type 0} (view : X → List ℕ) (p : Draft) (r : Result X WriteError) (reading : Result PlainMessage DecodeError) (m : PlainMessage)
    → reading ≡ Ok m → GivesBytes view p r (Ok m) → GivesBytes view p r reading
of_reading view p r reading m e a = subst (λ (x : Result PlainMessage DecodeError). GivesBytes view p r x) (sym e) a

-- a fault that is not of memory is that of the text
pub kept_fault : (e : DecodeError) (reading : Result PlainMessage DecodeError) → Answers (Err e) reading → (e ≡ codec.OutOfMemory → ⊥) → reading ≡ Err e
kept_fault codec.Short reading a n = a
kept_fault codec.BadMti reading a n = a
kept_fault codec.BadBitmap reading a n = a
kept_fault (codec.FieldNotInProfile k) reading a n = a
kept_fault (codec.BadLength k) reading a n = a
kept_fault (codec.BadContent k) reading a n = a
kept_fault codec.Trailing reading a n = a
kept_fault codec.OutOfMemory reading a n = absurd (n refl)
