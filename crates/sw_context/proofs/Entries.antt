-- What a contract sees of the map's entries, and of its look-ups, insertions and removals.
-- for: context::Context::get, put, take, copy, to_bytes, bytes_len
use Rattle.std.proofs.Common.{◌≡◌, ℕ, Bool, true, false, cond, List, [], ◌∷◌, Some, map, option_map, refl, sym, ap, ◌∙◌, Vec, Global, String}
use Rattle.std.specs.String.{string_bytes, string_eq}
use Rattle.std.specs.Str.{bytes_eq}
use Rattle.std.specs.Map.{lookup, remove_entry}
use Rattle.std.specs.Vec.{vec_len}
use Rattle.std.proofs.lemmas.List.Elements.{same_from_all_zip}
use Rattle.std.specs.List.{AllZip}
use Rattle.indexmap.specs.IndexMap.{insert_entry}
use Rattle.sw_context.specs.Pairs.{find, with_value, without}

-- an entry of the map
abbrev pub Entry : Type 0
Entry = String Global × Vec ℕ Global

-- its name and value
abbrev pub seen : Entry → List ℕ × List ℕ
seen e = (string_bytes e.0, e.1.items)

cond-through : {A B : Type 0} (f : A → B) (b : Bool) (x y : A) → f (cond b x y) ≡ cond b (f x) (f y)
cond-through f true x y = refl
cond-through f false x y = refl

-- a look-up
pub find-seen : (name : List ℕ) (es : List Entry) → find name (map seen es) ≡ option_map (λ v. v.items) (lookup (λ k. bytes_eq name (string_bytes k)) es)
find-seen name [] = refl
find-seen name (e ∷ es) =
    let test = bytes_eq name (string_bytes e.0) in
    ap (cond test (Some e.1.items)) (find-seen name es)
    ∙ sym (cond-through (option_map (λ v. v.items)) test (Some e.1) (lookup (λ k. bytes_eq name (string_bytes k)) es))

-- an insertion
pub seen-insert : (es : List Entry) (name : String Global) (value : Vec ℕ Global) →
    map seen (insert_entry string_eq es name value) ≡ with_value (map seen es) (string_bytes name) value.items
seen-insert [] name value = refl
seen-insert (e ∷ es) name value =
    let test = bytes_eq (string_bytes name) (string_bytes e.0) in
    cond-through (map seen) test ((e.0, value) ∷ es) (e ∷ insert_entry string_eq es name value)
    ∙ ap (λ z. cond test ((string_bytes e.0, value.items) ∷ map seen es) (seen e ∷ z)) (seen-insert es name value)

-- a removal
pub seen-remove : (name : List ℕ) (es : List Entry) → map seen (remove_entry (λ k. bytes_eq name (string_bytes k)) es) ≡ without name (map seen es)
seen-remove name [] = refl
seen-remove name (e ∷ es) =
    let test = bytes_eq name (string_bytes e.0) in
    cond-through (map seen) test es (e ∷ remove_entry (λ k. bytes_eq name (string_bytes k)) es)
    ∙ ap (λ z. cond test (map seen es) (seen e ∷ z)) (seen-remove name es)

-- a clone has the same names and values
pub seen-clone : (C : ℕ → ℕ → Type 0) → ((a b : ℕ) → C a b → b ≡ a) → (es fs : List Entry)
    → AllZip (λ p q. (string_bytes q.0 ≡ string_bytes p.0) × (AllZip C p.1.items q.1.items × (vec_len q.1 ≡ vec_len p.1))) es fs → map seen fs ≡ map seen es
seen-clone C same [] [] h = refl
seen-clone C same [] (f ∷ fs) h = absurd h
seen-clone C same (e ∷ es) [] h = absurd h
seen-clone C same (e ∷ es) (f ∷ fs) h =
    let value = same_from_all_zip C e.1.items f.1.items h.0.1.0 same in
    (λ i. (h.0.0 i, value i) ∷ seen-clone C same es fs h.1 i)
