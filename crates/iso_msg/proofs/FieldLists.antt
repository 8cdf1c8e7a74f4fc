-- Walks over fields.
-- for: storage::put_among, storage::take, storage::copy, message::Message
use Rattle.std.specs.Result.{OnOk, OnErr}
use Rattle.iso_msg.specs.declared.table.FieldForm.{FieldForm}
use Rattle.iso_msg.specs.Table.{form_of}
use Rattle.iso_msg.proofs.FieldTable.{form_number}
use Rattle.iso_msg.proofs.Bools.{chosen, ok_is, err_is, ok_err, equal-eqb, eqb-false_from}
use Rattle.std.proofs.Common.{◌≡◌, ℕ, zero, suc, ◌+◌, ◌<◌, ◌≤◌, Bool, false, cond, eqb, ltb, List, [], ◌∷◌, ◌++◌, length, map, get_or, take, drop, set, Option}
use Rattle.std.proofs.Common.{Some, None, Result, Ok, Err, refl, sym, ap, subst, ◌∙◌, zero-add, add-zero, inl, inr, arith}
use Rattle.std.specs.List.{insert, remove}
use Rattle.std.proofs.lemmas.Bool.{cases_lt, cases_eq, ltb-true, ltb-false, lt-ltb, le-ltb}
use Rattle.std.proofs.lemmas.List.{map-append, take-map, drop_more, drop-map, map_more}
use Rattle.iso_msg.specs.declared.field.Field.{Field}
use Rattle.iso_msg.specs.Messages.{Fields, with_value, without, value_at, AreFields}
use Rattle.iso_msg.proofs.FieldMaps.{absent_value, absent_stays}
use Rattle.iso_msg.specs.Values.{refusal, refusal_by}
use Rattle.iso_msg.specs.Storage.{pair, pairs, field_index, shift}

pub shift_zero : (r : Result ℕ ℕ) → shift 0 r ≡ r
shift_zero (Ok k) = ap Ok (zero-add k)
shift_zero (Err k) = ap Err (zero-add k)

shift_more : (i : ℕ) (r : Result ℕ ℕ) → shift i (shift 1 r) ≡ shift (i + 1) r
shift_more i (Ok k) = ap Ok (omega arith)
shift_more i (Err k) = ap Err (omega arith)

pub pairs_at : (fs : List Field) (i : ℕ) (f : Field) → i < length fs → f ≡ get_or fs i f → drop i (pairs fs) ≡ pair f ∷ drop (i + 1) (pairs fs)
pairs_at fs i f h e = drop-map pair i fs ∙ ap (λ (x : List Field). map pair x) (drop_more fs i f h ∙ ap (λ (g : Field). g ∷ drop (i + 1) fs) (sym e))
    ∙ ap (λ (x : Fields). pair f ∷ x) (sym (drop-map pair (i + 1) fs))

pub index_step : (fs : List Field) (i n : ℕ) (f : Field) (r : Result ℕ ℕ) → i < length fs → f ≡ get_or fs i f → f.number < n →
    shift i (field_index n (drop i (pairs fs))) ≡ r → shift (i + 1) (field_index n (drop (i + 1) (pairs fs))) ≡ r
index_step fs i n f r h e lt so_far =
    sym (shift_more i (field_index n (drop (i + 1) (pairs fs))))
    ∙ sym (ap (λ (b : Bool). shift i (cond b (shift 1 (field_index n (drop (i + 1) (pairs fs)))) (cond (eqb f.number n) (Ok 0) (Err 0))))
    (lt-ltb _ _ lt)) ∙ sym (ap (λ (x : Fields). shift i (field_index n x)) (pairs_at fs i f h e)) ∙ so_far

-- what an index says of a list that begins with a field
here : (f : ℕ × List ℕ) (fs : Fields) (n : ℕ) → n ≤ f.0 → field_index n (f ∷ fs) ≡ (cond (eqb f.0 n) (Ok 0) (Err 0))
here f fs n h = rw (le-ltb f.0 n h) refl

pub index_here : (fs : List Field) (i n : ℕ) (f : Field) (r : Result ℕ ℕ) → i < length fs → f ≡ get_or fs i f → n ≤ f.number →
    shift i (field_index n (drop i (pairs fs))) ≡ r → shift i (cond (eqb f.number n) (Ok 0) (Err 0)) ≡ r
index_here fs i n f r h e le so_far =
    sym (ap (shift i) (here (pair f) (drop (i + 1) (pairs fs)) n le)) ∙ sym (ap (λ (x : Fields). shift i (field_index n x)) (pairs_at fs i f h e)) ∙ so_far

pub index_found : (i a n : ℕ) (r : Result ℕ ℕ) → a ≡ n → shift i (cond (eqb a n) (Ok 0) (Err 0)) ≡ r → Ok i ≡ r
index_found i a n r e so_far = ap Ok (sym (add-zero i)) ∙ sym (ap (λ (b : Bool). shift i (cond b (Ok 0) (Err 0))) (equal-eqb a n e)) ∙ so_far

pub index_missing : (i a n : ℕ) (r : Result ℕ ℕ) → (a ≡ n → ⊥) → shift i (cond (eqb a n) (Ok 0) (Err 0)) ≡ r → Err i ≡ r
index_missing i a n r e so_far = ap Err (sym (add-zero i)) ∙ sym (ap (λ (b : Bool). shift i (cond b (Ok 0) (Err 0))) (eqb-false_from a n e)) ∙ so_far

pub value_step : (fs : List Field) (i n : ℕ) (f : Field) (r : Option (List ℕ)) → i < length fs → f ≡ get_or fs i f → (f.number ≡ n → ⊥) →
    value_at n (drop i (pairs fs)) ≡ r → value_at n (drop (i + 1) (pairs fs)) ≡ r
value_step fs i n f r h e differs so_far =
    sym (ap (λ (b : Bool). cond b (Some f.value.items) (value_at n (drop (i + 1) (pairs fs)))) (eqb-false_from f.number n differs))
    ∙ sym (ap (value_at n) (pairs_at fs i f h e)) ∙ so_far

pub value_here : (fs : List Field) (i n : ℕ) (f : Field) (r : Option (List ℕ)) → i < length fs → f ≡ get_or fs i f → f.number ≡ n →
    value_at n (drop i (pairs fs)) ≡ r → Some f.value.items ≡ r
value_here fs i n f r h e eq so_far =
    sym (ap (λ (b : Bool). cond b (Some f.value.items) (value_at n (drop (i + 1) (pairs fs)))) (equal-eqb f.number n eq))
    ∙ sym (ap (value_at n) (pairs_at fs i f h e)) ∙ so_far

-- an index that was found is one of the list's, and a value goes there
pub record FoundField (ps : Fields) (n : ℕ) (v : List ℕ) (i : ℕ) : Type 0 where
  pub below : i < length ps
  pub put : with_value n v ps ≡ set ps i (n, v)

pub record Missing (ps : Fields) (n : ℕ) (v : List ℕ) (i : ℕ) : Type 0 where
  pub below : i ≤ length ps
  pub put : with_value n v ps ≡ insert ps i (n, v)

unshift_ok : (r : Result ℕ ℕ) (i : ℕ) → shift 1 r ≡ Ok i → (k : ℕ) × (r ≡ Ok k) × (i ≡ suc k)
unshift_ok (Ok k) i e = (k, refl, omega (arith, ok_is (1 + k) i e))
unshift_ok (Err k) i e = absurd cc

unshift_err : (r : Result ℕ ℕ) (i : ℕ) → shift 1 r ≡ Err i → (k : ℕ) × (r ≡ Err k) × (i ≡ suc k)
unshift_err (Err k) i e = (k, refl, omega (arith, err_is (1 + k) i e))
unshift_err (Ok k) i e = absurd cc

pub found : (ps : Fields) (n : ℕ) (v : List ℕ) (i : ℕ) → field_index n ps ≡ Ok i → FoundField ps n v i
found [] n v i e = absurd cc
found (f ∷ fs) n v i e =
    elim (chosen (ltb f.0 n) (shift 1 (field_index n fs)) (cond (eqb f.0 n) (Ok 0) (Err 0)) (Ok i) e) [
      | inl w ↦
          let u = unshift_ok (field_index n fs) i w.1 in
          let r = found fs n v u.0 u.1 in
          subst (λ j. FoundField (f ∷ fs) n v j) (sym u.2) (record { below = omega (arith, r.below); put = rw w.0 (ap (λ (x : Fields). f ∷ x) r.put) })
      | inr w ↦
          elim (chosen (eqb f.0 n) (Ok 0) (Err 0) (Ok i) w.1) [
            | inl u ↦ subst (λ j. FoundField (f ∷ fs) n v j) (ok_is 0 i u.1) (record { below = omega arith; put = rw (w.0, u.0) refl })
            | inr u ↦ absurd (ok_err i 0 (sym u.1))
          ]
    ]

pub missing : (ps : Fields) (n : ℕ) (v : List ℕ) (i : ℕ) → field_index n ps ≡ Err i → Missing ps n v i
missing [] n v i e = subst (λ j. Missing [] n v j) (err_is 0 i e) (record { below = omega arith; put = refl })
missing (f ∷ fs) n v i e =
    elim (chosen (ltb f.0 n) (shift 1 (field_index n fs)) (cond (eqb f.0 n) (Ok 0) (Err 0)) (Err i) e) [
      | inl w ↦
          let u = unshift_err (field_index n fs) i w.1 in
          let r = missing fs n v u.0 u.1 in
          subst (λ j. Missing (f ∷ fs) n v j) (sym u.2) (record { below = omega (arith, r.below); put = rw w.0 (ap (λ (x : Fields). f ∷ x) r.put) })
      | inr w ↦
          elim (chosen (eqb f.0 n) (Ok 0) (Err 0) (Err i) w.1) [
            | inr u ↦ subst (λ j. Missing (f ∷ fs) n v j) (err_is 0 i u.1) (record { below = omega arith; put = rw (w.0, u.0) refl })
            | inl u ↦ absurd (ok_err 0 i u.1)
          ]
    ]

-- rising numbers stay so
pub more_fields : (low : ℕ) (ps : Fields) (n : ℕ) (v : List ℕ) → low < n → refusal n v ≡ None → AreFields low ps → AreFields low (with_value n v ps)
more_fields low [] n v h r a = (h, r, tt)
more_fields low (f ∷ fs) n v h r a =
    elim (cases_lt f.0 n) [
      | inl w ↦ rw (lt-ltb f.0 n w) (a.0, a.1, more_fields f.0 fs n v w r a.2)
      | inr w ↦
          elim (cases_eq f.0 n) [
            | inl u ↦ rw (le-ltb f.0 n w, equal-eqb f.0 n u) (h, r, subst (λ m. AreFields m fs) u a.2)
            | inr u ↦ rw (le-ltb f.0 n w, eqb-false_from f.0 n u) (h, r, (omega arith, a.1, a.2))
          ]
    ]

pub map-insert : (fs : List Field) (i : ℕ) (f : Field) → pairs (insert fs i f) ≡ insert (pairs fs) i (pair f)
map-insert fs i f = map-append pair (take i fs) (f ∷ drop i fs) ∙ (simp (take-map, drop-map))

pub none_from : {A : Type 0} (o : Option A) → ((x : A) → o ≡ Some x → ⊥) → o ≡ None
none_from None h = refl
none_from (Some x) h = absurd (h x refl)

pub put_keeps : {E : Type 0} (r : Result (Unit {0}) E) (old new : List Field) (n : ℕ) (v : List ℕ) → OnOk r (pairs new ≡ with_value n v (pairs old)) →
    OnErr r (new ≡ old) → 1 < n → refusal n v ≡ None → AreFields 1 (pairs old) → AreFields 1 (pairs new)
put_keeps (Ok x) old new n v p q h e a = subst (λ ps. AreFields 1 ps) (sym p) (more_fields 1 (pairs old) n v h e a)
put_keeps (Err x) old new n v p q h e a = subst (λ (fs : List Field). AreFields 1 (pairs fs)) (sym q) a

-- only numbers of the table take values
pub taken_above : (n : ℕ) (v : List ℕ) → refusal n v ≡ None → 1 < n
taken_above n v e = taken_by n v (form_of n) refl e
  where
    taken_by : (n : ℕ) (v : List ℕ) (o : Option FieldForm) → form_of n ≡ o → refusal_by o n v ≡ None → 1 < n
    taken_by n v None h e = absurd cc
    taken_by n v (Some f) h e = (form_number n f h).0

pub taken_below : (n : ℕ) (v : List ℕ) (o : Option FieldForm) → form_of n ≡ o → refusal_by o n v ≡ None → n < 129
taken_below n v None h e = absurd cc
taken_below n v (Some f) h e = (form_number n f h).1

pub few_fields : (low : ℕ) (ps : Fields) → low < 129 → AreFields low ps → length ps + low < 129
few_fields low [] h a = omega arith
few_fields low (f ∷ fs) h a =
    let rest = few_fields f.0 fs (taken_below f.0 f.1 (form_of f.0) refl a.1) a.2 in
    omega (arith, a.0, rest)

pub field_valid : (low i : ℕ) (fs : List Field) (f : Field) → AreFields low (pairs fs) → i < length fs → f ≡ get_or fs i f →
    refusal f.number f.value.items ≡ None
field_valid low i [] f a h e = absurd (omega arith)
field_valid low zero (g ∷ fs) f a h e = subst (λ (x : Field). refusal x.number x.value.items ≡ None) (sym e) a.1
field_valid low (suc i) (g ∷ fs) f a h e = field_valid g.number i fs f a.2 (omega arith) e

-- an index that was found has the value, and without it the number is gone
pub record RemovesAt (ps : Fields) (n i : ℕ) : Type 0 where
  pub below : i < length ps
  pub value : (d : ℕ × List ℕ) → value_at n ps ≡ Some (get_or ps i d).1
  pub others : without n ps ≡ remove ps i

pub removes_at : (ps : Fields) (n i : ℕ) → field_index n ps ≡ Ok i → RemovesAt ps n i
removes_at [] n i e = absurd cc
removes_at (f ∷ fs) n i e =
    elim (chosen (ltb f.0 n) (shift 1 (field_index n fs)) (cond (eqb f.0 n) (Ok 0) (Err 0)) (Ok i) e) [
      | inl w ↦
          let u = unshift_ok (field_index n fs) i w.1 in
          let r = removes_at fs n u.0 u.1 in
          let low : f.0 < n = ltb-true _ _ w.0 in
          let other : eqb f.0 n ≡ false = eqb-false_from f.0 n (λ e. omega (arith, low, e)) in
          subst (λ j. RemovesAt (f ∷ fs) n j) (sym u.2) (record {
            below = omega (arith, r.below);
            value = λ d. rw other (r.value d);
            others =
                rw other (ap (λ (x : Fields). f ∷ x) r.others);
          })
      | inr w ↦
          elim (chosen (eqb f.0 n) (Ok 0) (Err 0) (Ok i) w.1) [
            | inl u ↦ subst (λ j. RemovesAt (f ∷ fs) n j) (ok_is 0 i u.1) (record { below = omega arith; value = λ d. rw u.0 refl; others = rw u.0 refl })
            | inr u ↦ absurd (ok_err i 0 (sym u.1))
          ]
    ]

-- where a number has no index, it has no value
pub missing_value : (low : ℕ) (ps : Fields) (n i : ℕ) → AreFields low ps → field_index n ps ≡ Err i → (value_at n ps ≡ None) × (without n ps ≡ ps)
missing_value low [] n i a e = (refl, refl)
missing_value low (f ∷ fs) n i a e =
    elim (chosen (ltb f.0 n) (shift 1 (field_index n fs)) (cond (eqb f.0 n) (Ok 0) (Err 0)) (Err i) e) [
      | inl w ↦
          let u = unshift_err (field_index n fs) i w.1 in
          let r = missing_value f.0 fs n u.0 a.2 u.1 in
          let low : f.0 < n = ltb-true _ _ w.0 in
          let other : eqb f.0 n ≡ false = eqb-false_from f.0 n (λ e. omega (arith, low, e)) in
          (rw other r.0, rw other (ap (λ (x : Fields). f ∷ x) r.1))
      | inr w ↦
          elim (chosen (eqb f.0 n) (Ok 0) (Err 0) (Err i) w.1) [
            | inr u ↦ let high : n ≤ f.0 = ltb-false _ _ w.0 in
                (rw u.0 (absent_value f.0 n fs high a.2), rw u.0 (ap (λ (x : Fields). f ∷ x) (absent_stays f.0 n fs high a.2)))
            | inl u ↦ absurd (ok_err 0 i u.1)
          ]
    ]

-- fewer numbers still rise
lower_fields : (low high : ℕ) (ps : Fields) → low ≤ high → AreFields high ps → AreFields low ps
lower_fields low high [] h a = tt
lower_fields low high (f ∷ fs) h a = (omega (arith, a.0), a.1, a.2)

pub fewer_fields : (low : ℕ) (ps : Fields) (n : ℕ) → AreFields low ps → AreFields low (without n ps)
fewer_fields low [] n a = tt
fewer_fields low (f ∷ fs) n a =
    elim (cases_eq f.0 n) [
      | inl u ↦ rw (equal-eqb f.0 n u) (lower_fields low f.0 fs (omega (arith, a.0)) a.2)
      | inr u ↦ rw (eqb-false_from f.0 n u) (a.0, a.1, fewer_fields f.0 fs n a.2)
    ]

pub map-remove : (fs : List Field) (i : ℕ) → pairs (remove fs i) ≡ remove (pairs fs) i
map-remove fs i = map-append pair (take i fs) (drop (suc i) fs) ∙ (simp (take-map, drop-map))

-- one more field that was copied
pub copied : (fs gs : List Field) (i : ℕ) (f g : Field) → i < length fs → f ≡ get_or fs i f → pairs gs ≡ pairs (take i fs) → g.value.items ≡ f.value.items →
    g.number ≡ f.number → pairs (gs ++ g ∷ []) ≡ pairs (take (i + 1) fs)
copied fs gs i f g h e so_far value number =
    let same : pair g ≡ pair (get_or fs i f) = cc in
    map-append pair gs (g ∷ []) ∙ ap (λ (x : Fields). x ++ pair g ∷ []) so_far ∙ ap (λ (p : ℕ × List ℕ). pairs (take i fs) ++ p ∷ []) same
    ∙ sym (map_more pair fs i f h)
