-- The code of a response that is given while its transaction aborts.
-- for: laws::approvals_are_said
use Rattle.std.proofs.Common.{◌≡◌, ◌∙◌, ◌∷◌, [], ℕ, Bool, true, false, ◌==◌, nat_lt, List, Option, Some, None, is_none, ap, arith, codes, refl, sym}
use Rattle.std.proofs.Common.{true≢false, if◌then◌else◌}
use Rattle.std.proofs.lemmas.Bool.Decides.{nat_tests}
use Rattle.iso_msg.specs.Messages.{Fields, PlainMessage, value_at, with_value}
use Rattle.iso_msg.specs.Table.{definition_of, form_of, rows}
use Rattle.iso_msg.specs.Values.{refusal}
use Rattle.sw_context.specs.Pairs.{Pairs, find}
use Rattle.sw_messages.specs.Placing.{copied, with_field}
use Rattle.sw_messages.specs.Requests.{is_approved}
use Rattle.sw_messages.specs.Responses.{copied_numbers}
use Rattle.sw_approvals.proofs.Notes.{IsZero}
use Rattle.sw_approvals.specs.Ways.{IsApproved}

same_number : (n : ℕ) → (n == n) ≡ true
same_number n = grind (arith, nat_tests)

put : (n : ℕ) (value : List ℕ) (fields : Fields) → value_at n (with_value n value fields) ≡ Some value
put n value [] = ap (λ (b : Bool). if b then Some value else None) (same_number n)
put n value (field ∷ fields) = by (put n value fields) (nat_lt field.0 n) (field.0 == n) refl
  where
    by : value_at n (with_value n value fields) ≡ Some value → (less same : Bool) → nat_lt field.0 n ≡ less
        → value_at n (if less then field ∷ with_value n value fields else (if same then (n, value) ∷ fields else (n, value) ∷ field ∷ fields)) ≡ Some value
    by later true same is =
        let differ : (field.0 == n) ≡ false = grind (arith, nat_tests) in
        ap (λ (b : Bool). if b then Some field.1 else value_at n (with_value n value fields)) differ ∙ later
    by later false true is = ap (λ (b : Bool). if b then Some value else value_at n fields) (same_number n)
    by later false false is = ap (λ (b : Bool). if b then Some value else value_at n (field ∷ fields)) (same_number n)

fits : refusal 39 (codes "96") ≡ None
unfolding form_of definition_of rows
fits = refl

-- the code is the default, as none was noted
default_stands : (fields : Fields) → value_at 39 (with_field 39 (Some (codes "96")) fields) ≡ Some (codes "96")
default_stands fields =
    ap (λ r. value_at 39 (if is_none r then with_value 39 (codes "96") fields else fields)) fits ∙ put 39 (codes "96") fields

no_default : (fields : Fields) → value_at 39 (with_field 39 (Some (codes "96")) fields) ≡ Some (codes "00") → ⊥
no_default fields h = let e : Some (codes "96") ≡ Some (codes "00") = sym (default_stands fields) ∙ h in true≢false (sym (ap is_approved e))

-- a response with 00 has it from the code that was noted
pub zero_code : (m : PlainMessage) (z : Pairs) → IsApproved m true z → IsZero z
zero_code m z h = by (find (codes "rc") z) h
  where
    rest : Fields
    rest = with_field 38 (find (codes "auth") z) (copied copied_numbers m.fields [])

    by : (o : Option (List ℕ)) → value_at 39 (with_field 39 o (with_field 39 (Some (codes "96")) rest)) ≡ Some (codes "00") → o ≡ Some (codes "00")
    by None h = absurd (no_default rest h)
    by (Some v) h = fit (is_none (refusal 39 v)) h
      where
        fit : (b : Bool) → value_at 39 (if b then with_value 39 v (with_field 39 (Some (codes "96")) rest) else with_field 39 (Some (codes "96")) rest) ≡ Some (codes "00")
            → Some v ≡ Some (codes "00")
        fit true h = sym (put 39 v (with_field 39 (Some (codes "96")) rest)) ∙ h
        fit false h = absurd (no_default rest h)
