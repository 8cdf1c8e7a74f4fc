-- The context that bytes spell, as it is read.
-- for: notes::note_in
use Rattle.std.proofs.Common.{◌≡◌, ℕ, ◌+◌, ◌*◌, ◌/◌, ◌%◌, ◌&&◌, Bool, true, false, cond, List, [], ◌∷◌, ◌++◌, length, take, drop, Option}
use Rattle.std.proofs.Common.{Some, None, refl, sym, ap, ◌∙◌, append_assoc, arith}
use Rattle.std.specs.Prelude.{is_none, nat_le, nat_lt}
use Rattle.std.specs.List.{flat_map}
use Rattle.std.specs.Str.{bytes_eq}
use Rattle.std.proofs.lemmas.Bool.{and_from, and_parts, lt-ltb, le-leb, ltb-true, leb-true}
use Rattle.std.proofs.lemmas.List.{take_at, drop_at}
use Rattle.std.proofs.lemmas.Slice.Eq.{bytes_eq-Decides}
use Rattle.sw_context.specs.Names.{is_name}
use Rattle.sw_context.specs.Pairs.{Pairs, AreEntries, IsContext, find}
use Rattle.sw_context.specs.Spelling.{IsSpelled, bytes_of, entry_bytes, value_bytes}
use Rattle.sw_json.specs.Contexts.{Front, are_entries, context_at, entries_at, entry_at, is_spelling, pairs_at, value_at}

abbrev pub Named : Type 0
Named = List ℕ × List ℕ

-- ---- reading what was spelled

value_front : (name value rest : List ℕ) → value_at name (value_bytes value ++ rest) ≡ ((name, value), rest)
value_front name value rest =
    let same : length value ≡ 256 * (length value / 256) + length value % 256 = omega arith in
    λ i. (
      (name, take_at value rest (256 * (length value / 256) + length value % 256) same i),
      drop_at value rest (256 * (length value / 256) + length value % 256) same i,
    )

entry_front : (e : Named) (rest : List ℕ) → entry_at (entry_bytes e ++ rest) ≡ (e, rest)
entry_front e rest =
    let after = value_bytes e.1 ++ rest in
    ap (λ (xs : List ℕ). value_at (take (length e.0) xs) (drop (length e.0) xs)) (append_assoc e.0 (value_bytes e.1) rest)
    ∙ ap (λ (xs : List ℕ). value_at xs (drop (length e.0) (e.0 ++ after))) (take_at e.0 after (length e.0) refl)
    ∙ ap (λ (xs : List ℕ). value_at e.0 xs) (drop_at e.0 after (length e.0) refl)
    ∙ value_front e.0 e.1 rest

entries_read : (es : Pairs) → entries_at (length es) (flat_map entry_bytes es) ≡ es
unfolding entries_at
entries_read [] = refl
entries_read (e ∷ es) =
    ap (λ (x : Front). x.0 ∷ entries_at (length es) x.1) (entry_front e (flat_map entry_bytes es)) ∙ ap (λ (xs : Pairs). e ∷ xs) (entries_read es)

none_is : {A : Type 0} (o : Option A) → o ≡ None → is_none o ≡ true
none_is None h = refl
none_is (Some x) h = cc

is_none_none : {A : Type 0} (o : Option A) → is_none o ≡ true → o ≡ None
is_none_none None h = refl
is_none_none (Some x) h = cc

entries_are : (es : Pairs) → AreEntries es → are_entries es ≡ true
entries_are [] h = refl
entries_are (e ∷ es) h =
    let few = lt-ltb (length e.1) 65536 h.0.1 in
    let named = and_from (is_name e.0) (nat_lt (length e.1) 65536) h.0.0 few in
    let first = and_from (is_name e.0 && nat_lt (length e.1) 65536) (is_none (find e.0 es)) named (none_is (find e.0 es) h.1) in
    and_from (is_name e.0 && nat_lt (length e.1) 65536 && is_none (find e.0 es)) (are_entries es) first (entries_are es h.2)

are_of : (es : Pairs) → are_entries es ≡ true → AreEntries es
are_of [] h = tt
are_of (e ∷ es) h =
    let all = and_parts (is_name e.0 && nat_lt (length e.1) 65536 && is_none (find e.0 es)) (are_entries es) h in
    let first = and_parts (is_name e.0 && nat_lt (length e.1) 65536) (is_none (find e.0 es)) all.0 in
    let named = and_parts (is_name e.0) (nat_lt (length e.1) 65536) first.0 in
    ((named.0, ltb-true (length e.1) 65536 named.1), is_none_none (find e.0 es) first.1, are_of es all.1)

spells : (es : Pairs) (bytes : List ℕ) → IsContext es → bytes ≡ bytes_of es → is_spelling es bytes ≡ true
spells es bytes h is =
    and_from (nat_le (length es) 64 && are_entries es) (bytes_eq (bytes_of es) bytes)
    (and_from (nat_le (length es) 64) (are_entries es) (le-leb (length es) 64 h.0) (entries_are es h.1))
    ((bytes_eq-Decides (bytes_of es) bytes).1 (sym is))

spelled : (es : Pairs) (bytes : List ℕ) → is_spelling es bytes ≡ true → IsSpelled bytes
spelled es bytes h =
    let all = and_parts (nat_le (length es) 64 && are_entries es) (bytes_eq (bytes_of es) bytes) h in
    let is = and_parts (nat_le (length es) 64) (are_entries es) all.0 in
    (es, (leb-true (length es) 64 is.0, are_of es is.1), sym ((bytes_eq-Decides (bytes_of es) bytes).0 all.1))

-- the entries of a context are read
pairs_read : (es : Pairs) (bytes : List ℕ) → bytes ≡ bytes_of es → pairs_at bytes ≡ es
pairs_read es bytes is = ap pairs_at is ∙ entries_read es

when_true : (b : Bool) (es : Pairs) → b ≡ true → cond b (Some es) None ≡ Some es
when_true true es h = refl
when_true false es h = cc

when_false : (b : Bool) (es : Pairs) → (b ≡ true → ⊥) → cond b (Some es) None ≡ None
when_false true es h = absurd (h refl)
when_false false es h = refl

pub reads : (es : Pairs) (bytes : List ℕ) → IsContext es → bytes ≡ bytes_of es → context_at bytes ≡ Some es
unfolding context_at
reads es bytes h is =
    let same = pairs_read es bytes is in
    when_true (is_spelling (pairs_at bytes) bytes) (pairs_at bytes) (ap (λ (xs : Pairs). is_spelling xs bytes) same ∙ spells es bytes h is)
    ∙ ap (λ (xs : Pairs). Some xs) same

pub reads_none : (bytes : List ℕ) → (IsSpelled bytes → ⊥) → context_at bytes ≡ None
unfolding context_at
reads_none bytes h = when_false (is_spelling (pairs_at bytes) bytes) (pairs_at bytes) (λ is. h (spelled (pairs_at bytes) bytes is))
