-- A participant's number leads to its name and kind.
-- for: whoever numbers participants, in crates above
use Rattle.std.proofs.Common.{◌≡◌, ℕ, suc, ◌+◌, ◌<◌, ◌≤◌, true, false, ◌⊎◌, inl, inr, ⊎_elim, List, [], ◌∷◌, ◌++◌, length, get_or, Some, refl, sym, ap, ◌∙◌}
use Rattle.std.proofs.Common.{subst, arith, if◌then◌else◌, append_assoc, length-append}
use Rattle.std.specs.Prelude.{slice_get, nat_lt}
use Rattle.std.specs.Str.{bytes_eq}
use Rattle.std.proofs.lemmas.Bool.{cases_Bool, cases_lt}
use Rattle.std.proofs.lemmas.Bool.Decides.{Decides-ltb}
use Rattle.std.proofs.lemmas.List.{append-nil, get_or_append_left, get_or_at}
use Rattle.std.proofs.lemmas.Option.{slice_get-get_or}
use Rattle.std.proofs.lemmas.Slice.Eq.{bytes_eq-Decides}
use Rattle.flow_model.specs.declared.flow.Entry.{Entry}
use Rattle.flow_model.specs.declared.numbering.Part.{Part}
use Rattle.flow_model.specs.Places.{parts_from, add_new, number_in}
use Rattle.flow_model.proofs.CheckedKinds.{In, OneKind}

-- each part is an entry's
record PartsOf (parts : List Part) (es : List Entry) : Type 0 where
  each : (i : ℕ) (d : Part) → i < length parts → (e : Entry) × In es e × ((get_or parts i d).name ≡ e.participant) × ((get_or parts i d).kind ≡ e.kind)

pub number_cons : (p : Part) (ps : List Part) (name : List ℕ) → bytes_eq p.name name ≡ false → number_in (p ∷ ps) name ≡ suc (number_in ps name)
number_cons p ps name e = ap (λ b. if b then 0 else number_in ps name + 1) e ∙ (let s : number_in ps name + 1 ≡ suc (number_in ps name) = omega arith in s)

pub number_here : (p : Part) (ps : List Part) (name : List ℕ) → bytes_eq p.name name ≡ true → number_in (p ∷ ps) name ≡ 0
number_here p ps name e = ap (λ b. if b then 0 else number_in ps name + 1) e

number_found : (parts : List Part) (name : List ℕ) (d : Part) → number_in parts name < length parts → (get_or parts (number_in parts name) d).name ≡ name
number_found [] name d h = absurd (omega (arith, h))
number_found (p ∷ ps) name d h = ⊎_elim (λ (e : bytes_eq p.name name ≡ true). ap (λ n. (get_or (p ∷ ps) n d).name) (number_here p ps name e)
    ∙ (bytes_eq-Decides p.name name).0 e) (λ (e : bytes_eq p.name name ≡ false). ap (λ n. (get_or (p ∷ ps) n d).name) (number_cons p ps name e)
    ∙ number_found ps name d (omega (arith, number_cons p ps name e, h))) (cases_Bool (bytes_eq p.name name))

-- more parts leave the known numbers as they are
pub number_kept : (parts more : List Part) (name : List ℕ) → number_in parts name < length parts → number_in (parts ++ more) name ≡ number_in parts name
number_kept [] more name h = absurd (omega (arith, h))
number_kept (p ∷ ps) more name h = ⊎_elim (λ (e : bytes_eq p.name name ≡ true). number_here p (ps ++ more) name e ∙ sym (number_here p ps name e))
    (λ (e : bytes_eq p.name name ≡ false). number_cons p (ps ++ more) name e ∙ ap suc (number_kept ps more name (omega (arith, number_cons p ps name e, h)))
    ∙ sym (number_cons p ps name e)) (cases_Bool (bytes_eq p.name name))

number_new : (parts : List Part) (q : Part) → number_in (parts ++ q ∷ []) q.name < length (parts ++ q ∷ [])
number_new [] q = (let l : number_in (q ∷ []) q.name < 1 = omega (arith, number_here q [] q.name ((bytes_eq-Decides q.name q.name).1 refl)) in l)
number_new (p ∷ ps) q = ⊎_elim (λ (e : bytes_eq p.name q.name ≡ true). (let l : number_in (p ∷ (ps ++ q ∷ [])) q.name < suc (length (ps ++ q ∷ [])) =
    omega (arith, number_here p (ps ++ q ∷ []) q.name e) in l))
    (λ (e : bytes_eq p.name q.name ≡ false). (let l : number_in (p ∷ (ps ++ q ∷ [])) q.name < suc (length (ps ++ q ∷ [])) =
    omega (arith, number_cons p (ps ++ q ∷ []) q.name e, number_new ps q) in l)) (cases_Bool (bytes_eq p.name q.name))

-- what one entry adds
record Grows (old new : List Part) : Type 0 where
  more : List Part
  is : new ≡ old ++ more

pub added_cases : (parts : List Part) (e : Entry) → ((add_new parts e ≡ parts) × (number_in parts e.participant < length parts))
    ⊎ (add_new parts e ≡ parts ++ record { name = e.participant; kind = e.kind } ∷ [])
added_cases parts e = ⊎_elim (λ (h : nat_lt (number_in parts e.participant) (length parts) ≡ true). inl (
  ap (λ b. if b then parts else parts ++ record { name = e.participant; kind = e.kind } ∷ []) h,
  (Decides-ltb (number_in parts e.participant) (length parts)).0 h,
)) (λ (h : nat_lt (number_in parts e.participant) (length parts) ≡ false). inr
    (ap (λ b. if b then parts else parts ++ record { name = e.participant; kind = e.kind } ∷ []) h))
    (cases_Bool (nat_lt (number_in parts e.participant) (length parts)))

grows : (parts : List Part) (e : Entry) → Grows parts (add_new parts e)
grows parts e = ⊎_elim (λ (h : (add_new parts e ≡ parts) × (number_in parts e.participant < length parts)). record {
  more = [];
  is =
      h.0 ∙ sym (append-nil parts);
}) (λ (h : add_new parts e ≡ parts ++ record { name = e.participant; kind = e.kind } ∷ []). record {
  more =
      record { name = e.participant; kind = e.kind } ∷ [];
  is = h;
}) (added_cases parts e)

knows_new : (parts : List Part) (e : Entry) → number_in (add_new parts e) e.participant < length (add_new parts e)
knows_new parts e = ⊎_elim (λ (h : (add_new parts e ≡ parts) × (number_in parts e.participant < length parts)). subst
    (λ (ps : List Part). number_in ps e.participant < length ps) (sym h.0) h.1)
    (λ (h : add_new parts e ≡ parts ++ record { name = e.participant; kind = e.kind } ∷ []). subst
    (λ (ps : List Part). number_in ps e.participant < length ps) (sym h) (number_new parts record { name = e.participant; kind = e.kind }))
    (added_cases parts e)

grows_all : (parts : List Part) (es : List Entry) → Grows parts (parts_from parts es)
grows_all parts [] = record { more = []; is = sym (append-nil parts) }
grows_all parts (e ∷ es) =
    let a = grows parts e in
    let b = grows_all (add_new parts e) es in
    record { more = a.more ++ b.more; is = b.is ∙ ap (λ ps. ps ++ b.more) a.is ∙ append_assoc parts a.more b.more }

kept_by : (old new : List Part) (name : List ℕ) → Grows old new → number_in old name < length old → number_in new name < length new
kept_by old new name g h =
    subst (λ (ps : List Part). number_in ps name < length ps) (sym g.is) (omega (arith, number_kept old g.more name h, length-append old g.more, h))

pub knows : (parts : List Part) (es : List Entry) (e : Entry) → In es e → number_in (parts_from parts es) e.participant < length (parts_from parts es)
knows parts [] e h = absurd h
knows parts (x ∷ es) e h = ⊎_elim (λ (p : x ≡ e). subst (λ (y : Entry). number_in (parts_from (add_new parts x) es) y.participant < length
    (parts_from (add_new parts x) es)) p (kept_by (add_new parts x) (parts_from (add_new parts x) es) x.participant (grows_all (add_new parts x) es)
    (knows_new parts x))) (λ (p : In es e). knows (add_new parts x) es e p) h

from_add : (parts : List Part) (e : Entry) (es : List Entry) → In es e → PartsOf parts es → PartsOf (add_new parts e) es
from_add parts e es i h = ⊎_elim (λ (w : (add_new parts e ≡ parts) × (number_in parts e.participant < length parts)). subst
    (λ (ps : List Part). PartsOf ps es) (sym w.0) h) (λ (w : add_new parts e ≡ parts ++ record { name = e.participant; kind = e.kind } ∷ []). subst
    (λ (ps : List Part). PartsOf ps es) (sym w) (record { each = from_push parts })) (added_cases parts e)
  where
    q : Part
    q = record { name = e.participant; kind = e.kind }

    from_push : (ps : List Part) (k : ℕ) (d : Part) → k < length (parts ++ q ∷ []) →
        (x : Entry) × In es x × ((get_or (parts ++ q ∷ []) k d).name ≡ x.participant) × ((get_or (parts ++ q ∷ []) k d).kind ≡ x.kind)
    from_push ps k d l = ⊎_elim (λ (m : k < length parts). let w = h.each k d m in let same = get_or_append_left parts (q ∷ []) d k m in
        (w.0, w.1, ap (λ (p : Part). p.name) same ∙ w.2, ap (λ (p : Part). p.kind) same ∙ w.3)) (λ (m : length parts ≤ k). let same =
        get_or_at parts q [] d k (omega (arith, length-append parts (q ∷ []), m, l)) in
        (e, i, ap (λ (p : Part). p.name) same, ap (λ (p : Part). p.kind) same)) (cases_lt k (length parts))

from_all : (parts : List Part) (es all : List Entry) → ((e : Entry) → In es e → In all e) → PartsOf parts all → PartsOf (parts_from parts es) all
from_all parts [] all s h = h
from_all parts (e ∷ es) all s h = from_all (add_new parts e) es all (λ x i. s x (inr i)) (from_add parts e all (s e (inl refl)) h)

parts_are : (es : List Entry) → PartsOf (parts_from [] es) es
parts_are es = from_all [] es es (λ e i. i) (record { each = λ i d h. absurd (omega (arith, h)) })

part_is : (p : Part) (e : Entry) → p.name ≡ e.participant → p.kind ≡ e.kind → p ≡ record { name = e.participant; kind = e.kind }
part_is p e a b = ap (λ n. record { name = n; kind = p.kind }) a ∙ ap (λ k. record { name = e.participant; kind = k }) b

-- an entry's number leads back to it
pub numbered : (es : List Entry) (e : Entry) → OneKind es → In es e → slice_get (parts_from [] es) (number_in (parts_from [] es) e.participant)
    ≡ Some record { name = e.participant; kind = e.kind }
numbered es e one i =
    let parts : List Part = parts_from [] es in
    let n : ℕ = number_in (parts_from [] es) e.participant in
    let d : Part = record { name = e.participant; kind = e.kind } in
    let known = knows [] es e i in
    let from = (parts_are es).each n d known in
    let name : (get_or (parts_from [] es) n d).name ≡ e.participant = number_found (parts_from [] es) e.participant d known in
    slice_get-get_or (parts_from [] es) n d known ∙ ap Some (part_is (get_or (parts_from [] es) n d) e name
    (from.3 ∙ one from.0 e from.1 i (sym from.2 ∙ name)))
