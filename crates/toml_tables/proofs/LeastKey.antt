-- The keys of a table ascend, so the first key that passes a test is the least that does.
-- for: unknown::unknown_key
use Rattle.std.proofs.Common.{◌≡◌, ℕ, Bool, true, false, inl, inr, List, [], ◌∷◌, Option, Some, None, String, Global, Less, string_bytes, refl, ap, ◌∙◌, subst}
use Rattle.std.proofs.Common.{if◌then◌else◌}
use Rattle.std.specs.String.{string_cmp}
use Rattle.std.specs.Ordering.{is_lt, nat_cmp, ordering_reverse}
use Rattle.std.specs.Cmp.Lexicographic.{slice_cmp}
use Rattle.std.specs.List.{AllByRecursion}
use Rattle.std.specs.List.Sorted.{IsStrictlySortedBy}
use Rattle.std.specs.Map.{keys_of}
use Rattle.std.proofs.lemmas.Bool.{cases_Bool}
use Rattle.std.proofs.lemmas.Cmp.{nat_list_cmp_total}
use Rattle.std.proofs.lemmas.Option.{none-some, same_Some}
use Rattle.toml.specs.View.{members_view}
use Rattle.toml.proofs.Views.{Entry}
use Rattle.toml_tables.specs.Unknown.{least_key, lesser}

-- not before, by the bytes
abbrev IsFrom : List ℕ → List ℕ → Type 0
IsFrom low name = is_lt (slice_cmp nat_cmp name low) ≡ false

lesser_from : (low name : List ℕ) (rest : Option (List ℕ)) → IsFrom low name → ((o : List ℕ) → rest ≡ Some o → IsFrom low o) → IsFrom low (lesser name rest)
lesser_from low name None a f = a
lesser_from low name (Some o) a f = elim (cases_Bool (is_lt (slice_cmp nat_cmp o name))) [
  | inl passing ↦ rw passing (f o refl)
  | inr failing ↦ rw failing a
]

lesser_first : (name : List ℕ) (rest : Option (List ℕ)) → ((o : List ℕ) → rest ≡ Some o → IsFrom name o) → lesser name rest ≡ name
lesser_first name None f = refl
lesser_first name (Some o) f = ap (λ (b : Bool). if b then o else name) (f o refl)

module _ (passes : List ℕ → Bool) where
  least_from : (k : String Global) (es : List Entry) → AllByRecursion (λ y. string_cmp k y ≡ Less) (keys_of es) → (o : List ℕ) →
      least_key passes (members_view es) ≡ Some o → IsFrom (string_bytes k) o
  least_from k [] h o is = absurd (none-some o is)
  least_from k (e ∷ es) h o is = elim (cases_Bool (passes (string_bytes e.0))) [
    | inl passing ↦
        let same : lesser (string_bytes e.0) (least_key passes (members_view es)) ≡ o = same_Some _ _ (rw passing at is) in
        let here : IsFrom (string_bytes k) (string_bytes e.0) =
        ap is_lt (nat_list_cmp_total.antisymm (string_bytes e.0) (string_bytes k) ∙ ap ordering_reverse h.0) in
        subst (IsFrom (string_bytes k)) same (lesser_from (string_bytes k) (string_bytes e.0) (least_key passes (members_view es)) here (least_from k es h.1))
    | inr failing ↦ least_from k es h.1 o (rw failing at is)
  ]

  pub least_first : (e : Entry) (es : List Entry) → IsStrictlySortedBy string_cmp (keys_of (e ∷ es)) → passes (string_bytes e.0) ≡ true →
      least_key passes (members_view (e ∷ es)) ≡ Some (string_bytes e.0)
  unfolding IsStrictlySortedBy
  least_first e es h passing = rw passing (ap Some (lesser_first (string_bytes e.0) (least_key passes (members_view es)) (least_from e.0 es h.0)))

  pub least_later : (e : Entry) (es : List Entry) → passes (string_bytes e.0) ≡ false →
      least_key passes (members_view (e ∷ es)) ≡ least_key passes (members_view es)
  least_later e es failing = rw failing refl

pub sorted_rest : (e : Entry) (es : List Entry) → IsStrictlySortedBy string_cmp (keys_of (e ∷ es)) → IsStrictlySortedBy string_cmp (keys_of es)
unfolding IsStrictlySortedBy
sorted_rest e es h = h.1
