-- What `decode --mask` shows of a field with data of a card, a PIN or a key.
use Rattle.std.specs.Prelude.{◌≡◌, ℕ, ◌||◌, ◌==◌, Bool, true, false, List, [], ◌∷◌, ◌++◌, length, codes, if◌then◌else◌}
use Rattle.std.specs.Fmt.{decimal}
use Rattle.iso_mask.specs.Masks.{AgreesNumber, masked_number}
use Rattle.iso_msg.specs.Messages.{Fields, PlainMessage}

-- tracks 2 and 1, the PIN, data of the chip, and the codes of authentication
abbrev pub is_hidden : ℕ → Bool
is_hidden n = n == 35 || n == 45 || n == 52 || n == 55 || n == 64 || n == 128

-- these, and the account number
abbrev pub is_sensitive : ℕ → Bool
is_sensitive n = n == 2 || is_hidden n

-- how many bytes a value has
abbrev pub masked_length : List ℕ → List ℕ
masked_length value = decimal (length value) ++ codes " bytes"

-- the account number with its masked digits, and any other value by its length alone
abbrev pub masked_value : ℕ → List ℕ → List ℕ
masked_value n value = if n == 2 then masked_number value else masked_length value

-- `F* VALUE`: an asterisk after the number shows that the value is masked
abbrev pub masked_line : ℕ → List ℕ → List ℕ
masked_line n value = decimal n ++ (codes "* " ++ (masked_value n value ++ codes "\n"))

-- ---- what two messages have alike

-- values of the account number, of a field that is shown by its length, or of any other field
abbrev pub AgreesAs : Bool → Bool → List ℕ → List ℕ → Type 0
AgreesAs true hidden v w = AgreesNumber v w
AgreesAs false true v w = length v ≡ length w
AgreesAs false false v w = v ≡ w

-- values of field n that differ only in what is masked
abbrev pub Agrees : ℕ → List ℕ → List ℕ → Type 0
Agrees n v w = AgreesAs (n == 2) (is_hidden n) v w

abbrev pub AgreeFields : Fields → Fields → Type 0
AgreeFields [] [] = Unit {0}
AgreeFields (f ∷ fs) (g ∷ gs) = (f.0 ≡ g.0) × Agrees f.0 f.1 g.1 × AgreeFields fs gs
AgreeFields _ _ = ⊥

-- messages of one type whose fields have the same numbers, and values that differ only in what is masked
abbrev pub AgreeMessages : PlainMessage → PlainMessage → Type 0
AgreeMessages m k = (m.mti ≡ k.mti) × AgreeFields m.fields k.fields
