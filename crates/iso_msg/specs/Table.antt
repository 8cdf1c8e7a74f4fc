-- The table of fields: each number with the field's name in ISO 8583:1987 and the form of its values.
use Rattle.std.specs.Prelude.{◌≡◌, ◌<◌, ◌⊎◌, ℕ, zero, suc, List, [], ◌∷◌, Option, Some, None, option_map, ◌==◌, if◌then◌else◌}
use Rattle.iso_msg.specs.declared.name.FieldName.{FieldName}
use Rattle.iso_msg.specs.declared.name.FieldName.TheVariants.{PrimaryAccountNumber, ProcessingCode, AmountTransaction, AmountSettlement}
use Rattle.iso_msg.specs.declared.name.FieldName.TheVariants.{AmountCardholderBilling, TransmissionDateAndTime, ConversionRateSettlement}
use Rattle.iso_msg.specs.declared.name.FieldName.TheVariants.{ConversionRateCardholderBilling, SystemsTraceAuditNumber, TimeLocalTransaction}
use Rattle.iso_msg.specs.declared.name.FieldName.TheVariants.{DateLocalTransaction, DateExpiration, DateSettlement, DateConversion, DateCapture, MerchantType}
use Rattle.iso_msg.specs.declared.name.FieldName.TheVariants.{AcquiringInstitutionCountryCode, PointOfServiceEntryMode, CardSequenceNumber}
use Rattle.iso_msg.specs.declared.name.FieldName.TheVariants.{NetworkInternationalIdentifier, PointOfServiceConditionCode, PointOfServicePinCaptureCode}
use Rattle.iso_msg.specs.declared.name.FieldName.TheVariants.{AcquiringInstitutionIdentificationCode, ForwardingInstitutionIdentificationCode, Track2Data}
use Rattle.iso_msg.specs.declared.name.FieldName.TheVariants.{RetrievalReferenceNumber, AuthorizationIdentificationResponse, ResponseCode}
use Rattle.iso_msg.specs.declared.name.FieldName.TheVariants.{CardAcceptorTerminalIdentification, CardAcceptorIdentificationCode, CardAcceptorNameAndLocation}
use Rattle.iso_msg.specs.declared.name.FieldName.TheVariants.{AdditionalResponseData, Track1Data, AdditionalDataPrivate, CurrencyCodeTransaction}
use Rattle.iso_msg.specs.declared.name.FieldName.TheVariants.{CurrencyCodeSettlement, CurrencyCodeCardholderBilling, PersonalIdentificationNumberData}
use Rattle.iso_msg.specs.declared.name.FieldName.TheVariants.{SecurityRelatedControlInformation, AdditionalAmounts, ReservedForIsoUse, ReservedForPrivateUse}
use Rattle.iso_msg.specs.declared.name.FieldName.TheVariants.{MessageAuthenticationCode, NetworkManagementInformationCode, OriginalDataElements}
use Rattle.iso_msg.specs.declared.name.FieldName.TheVariants.{ReplacementAmounts, ReceivingInstitutionIdentificationCode, AccountIdentification1}
use Rattle.iso_msg.specs.declared.name.FieldName.TheVariants.{AccountIdentification2}
use Rattle.iso_msg.specs.declared.table.Definition.{Definition}
use Rattle.iso_msg.specs.declared.table.FieldForm.{FieldForm}
use Rattle.iso_msg.specs.declared.table.FieldForm.TheVariants.{Fixed, Variable, Binary}
use Rattle.iso_msg.specs.declared.table.Content.TheVariants.{Numeric, Printable}

abbrev pub FieldRow : Type 0
FieldRow = ℕ × FieldName × FieldForm

-- The forms as the standard writes them: a fixed number of digits (n) or characters (ans), at most a given number of them
-- after two digits of length (LLVAR) or three (LLLVAR), and 64 bits (b).
abbrev n : ℕ → FieldForm
n length = Fixed Numeric length

abbrev ans : ℕ → FieldForm
ans length = Fixed Printable length

abbrev n_llvar : ℕ → FieldForm
n_llvar most = Variable Numeric 2 most

abbrev ans_llvar : ℕ → FieldForm
ans_llvar most = Variable Printable 2 most

abbrev ans_lllvar : ℕ → FieldForm
ans_lllvar most = Variable Printable 3 most

abbrev b64 : FieldForm
b64 = Binary

-- each field that a message may have, by rising numbers
unfoldable pub rows : List FieldRow
rows =
    (2, PrimaryAccountNumber, n_llvar 19) ∷
    (3, ProcessingCode, n 6) ∷
    (4, AmountTransaction, n 12) ∷
    (5, AmountSettlement, n 12) ∷
    (6, AmountCardholderBilling, n 12) ∷
    (7, TransmissionDateAndTime, n 10) ∷
    (9, ConversionRateSettlement, n 8) ∷
    (10, ConversionRateCardholderBilling, n 8) ∷
    (11, SystemsTraceAuditNumber, n 6) ∷
    (12, TimeLocalTransaction, n 6) ∷
    (13, DateLocalTransaction, n 4) ∷
    (14, DateExpiration, n 4) ∷
    (15, DateSettlement, n 4) ∷
    (16, DateConversion, n 4) ∷
    (17, DateCapture, n 4) ∷
    (18, MerchantType, n 4) ∷
    (19, AcquiringInstitutionCountryCode, n 3) ∷
    (22, PointOfServiceEntryMode, n 3) ∷
    (23, CardSequenceNumber, n 3) ∷
    (24, NetworkInternationalIdentifier, n 3) ∷
    (25, PointOfServiceConditionCode, n 2) ∷
    (26, PointOfServicePinCaptureCode, n 2) ∷
    (32, AcquiringInstitutionIdentificationCode, n_llvar 11) ∷
    (33, ForwardingInstitutionIdentificationCode, n_llvar 11) ∷
    (35, Track2Data, ans_llvar 37) ∷
    (37, RetrievalReferenceNumber, ans 12) ∷
    (38, AuthorizationIdentificationResponse, ans 6) ∷
    (39, ResponseCode, ans 2) ∷
    (41, CardAcceptorTerminalIdentification, ans 8) ∷
    (42, CardAcceptorIdentificationCode, ans 15) ∷
    (43, CardAcceptorNameAndLocation, ans 40) ∷
    (44, AdditionalResponseData, ans_llvar 25) ∷
    (45, Track1Data, ans_llvar 76) ∷
    (48, AdditionalDataPrivate, ans_lllvar 999) ∷
    (49, CurrencyCodeTransaction, ans 3) ∷
    (50, CurrencyCodeSettlement, ans 3) ∷
    (51, CurrencyCodeCardholderBilling, ans 3) ∷
    (52, PersonalIdentificationNumberData, b64) ∷
    (53, SecurityRelatedControlInformation, n 16) ∷
    (54, AdditionalAmounts, ans_lllvar 120) ∷
    (55, ReservedForIsoUse, ans_lllvar 999) ∷
    (60, ReservedForPrivateUse, ans_lllvar 999) ∷
    (61, ReservedForPrivateUse, ans_lllvar 999) ∷
    (62, ReservedForPrivateUse, ans_lllvar 999) ∷
    (63, ReservedForPrivateUse, ans_lllvar 999) ∷
    (64, MessageAuthenticationCode, b64) ∷
    (70, NetworkManagementInformationCode, n 3) ∷
    (90, OriginalDataElements, n 42) ∷
    (95, ReplacementAmounts, ans 42) ∷
    (100, ReceivingInstitutionIdentificationCode, n_llvar 11) ∷
    (102, AccountIdentification1, ans_llvar 28) ∷
    (103, AccountIdentification2, ans_llvar 28) ∷
    (128, MessageAuthenticationCode, b64) ∷
    []

-- the definition of a number in the first row that has it
abbrev pub definition_in : ℕ → List FieldRow → Option Definition
definition_in n [] = None
definition_in n (row ∷ others) =
    if row.0 == n then Some (record { name = row.1; form = row.2 }) else definition_in n others

unfoldable pub definition_of : ℕ → Option Definition
definition_of n = definition_in n rows

-- the form of a field's values
unfoldable pub form_of : ℕ → Option FieldForm
form_of n = option_map (λ d. d.form) (definition_of n)

-- the definitions of this many numbers from n on
abbrev pub definitions : ℕ → ℕ → List (Option Definition)
definitions n zero = []
definitions n (suc count) = definition_of n ∷ definitions (suc n) count

-- there are as many digits of length as the greatest length has
abbrev pub IsForm : FieldForm → Type 0
IsForm (Fixed content exact) = Unit {0}
IsForm (Variable content length_digits most) = ((length_digits ≡ 2) × (most < 100)) ⊎ ((length_digits ≡ 3) × (most < 1000))
IsForm Binary = Unit {0}

-- a number that has a form is one of 2 to 128: bit 1 is not a field
abbrev pub IsKnown : ℕ → Option FieldForm → Type 0
IsKnown n None = Unit {0}
IsKnown n (Some form) = (1 < n) × (n < 129) × IsForm form
