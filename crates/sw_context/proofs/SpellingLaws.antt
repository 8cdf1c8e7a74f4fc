-- A spelling is that of one context.
-- for: context::reading::has_name, context::reading::are_entries, laws::spellings_read_back
use Rattle.std.proofs.Common.{◌≡◌, ℕ, ◌+◌, ◌-◌, ◌*◌, ◌/◌, ◌%◌, ◌<◌, ◌≤◌, ◌^◌, true, false, cond, List, [], ◌∷◌, ◌++◌, length, take, drop, Option, Some, None}
use Rattle.std.proofs.Common.{is_some, refl, sym, ap, subst, ◌∙◌, append_assoc, arith}
use Rattle.std.specs.List.{flat_map}
use Rattle.std.specs.Prelude.{Result, Ok, Err, MatchResult}
use Rattle.std.specs.Str.{bytes_eq}
use Rattle.std.proofs.Math.Nat.{div-add-mod}
use Rattle.std.proofs.lemmas.List.{take_at, drop_at, length-append}
use Rattle.sw_context.specs.Pairs.{Pairs, find, AreEntries, IsContext, IsEntry}
use Rattle.sw_context.specs.Spelling.{name_bytes, value_bytes, entry_bytes, bytes_of, Spells, IsReading}
use Rattle.sw_context.specs.declared.error.ContextError.{ContextError}
use Rattle.sw_context.specs.declared.error.ContextError.TheVariants.{OutOfMemory, Full, BadName, BadBytes, ValueTooLong}
use Rattle.sw_context.proofs.NameLaws.{name-length}

-- two lists of the same length that begin the same bytes
same-front : (a b x y : List ℕ) → length a ≡ length b → a ++ x ≡ b ++ y → (a ≡ b) × (x ≡ y)
same-front a b x y l e = (
  sym (take_at a x (length b) l) ∙ ap (take (length b)) e ∙ take_at b y (length b) refl,
  sym (drop_at a x (length b) l) ∙ ap (drop (length b)) e ∙ drop_at b y (length b) refl,
)

heads : (m n : ℕ) (x y : List ℕ) → m ∷ x ≡ n ∷ y → (m ≡ n) × (x ≡ y)
heads m n x y e = (cc, cc)

-- no spelling of a name begins another
pub one-name : (m n x y : List ℕ) → name_bytes m ++ x ≡ name_bytes n ++ y → (m ≡ n) × (x ≡ y)
one-name m n x y e =
    let h = heads (length m) (length n) (m ++ x) (n ++ y) e in
    same-front m n x y h.0 h.1

-- nor one of a value
one-value : (v w x y : List ℕ) → value_bytes v ++ x ≡ value_bytes w ++ y → (v ≡ w) × (x ≡ y)
one-value v w x y e =
    let high = heads (length v / 256) (length w / 256) (length v % 256 ∷ (v ++ x)) (length w % 256 ∷ (w ++ y)) e in
    let low = heads (length v % 256) (length w % 256) (v ++ x) (w ++ y) high.1 in
    let same : length v ≡ length w = sym (div-add-mod (length v) 256) ∙ ap (λ n. 256 * n + length v % 256) high.0 ∙ ap (λ n. 256 * (length w / 256) + n)
    low.0 ∙ div-add-mod (length w) 256 in
    same-front v w x y same low.1

-- nor one of an entry
pub one-entry : (e f : List ℕ × List ℕ) (x y : List ℕ) → entry_bytes e ++ x ≡ entry_bytes f ++ y → (e ≡ f) × (x ≡ y)
one-entry e f x y h =
    let name = one-name e.0 f.0 (value_bytes e.1 ++ x) (value_bytes f.1 ++ y) (sym (append_assoc (name_bytes e.0) (value_bytes e.1) x) ∙ h
    ∙ append_assoc (name_bytes f.0) (value_bytes f.1) y) in
    let value = one-value e.1 f.1 x y name.1 in
    (λ i. (name.0 i, value.0 i), value.1)

-- entries whose bytes begin with those of an entry begin with that entry
pub first-entry : (e : List ℕ × List ℕ) (rest : List ℕ) (count : ℕ) (es : Pairs) → 0 < count → length es ≡ count →
    entry_bytes e ++ rest ≡ flat_map entry_bytes es
    → (more : Pairs) × (es ≡ e ∷ more) × (length more + 1 ≡ count) × (rest ≡ flat_map entry_bytes more)
first-entry e rest count [] some l h = absurd (omega (arith, some, l))
first-entry e rest count (f ∷ more) some l h =
    let one = one-entry e f rest (flat_map entry_bytes more) h in
    (more, ap (λ (z : List ℕ × List ℕ). z ∷ more) (sym one.0), omega (arith, l), one.1)

no-entries : (es : Pairs) → length es ≡ 0 → es ≡ []
no-entries [] l = refl
no-entries (e ∷ es) l = absurd (omega (arith, l))

-- equally many entries with the same bytes are the same
pub same-entries : (es fs : Pairs) → length es ≡ length fs → flat_map entry_bytes es ≡ flat_map entry_bytes fs → es ≡ fs
same-entries [] fs l h = sym (no-entries fs (sym l))
same-entries (e ∷ es) fs l h =
    let first = first-entry e (flat_map entry_bytes es) (length es + 1) fs (omega arith) (omega (arith, l)) h in
    ap (λ (z : Pairs). e ∷ z) (same-entries es first.0 (omega (arith, first.2)) first.3) ∙ sym first.1

-- two contexts with the same bytes are the same
pub same-context : (es fs : Pairs) → bytes_of es ≡ bytes_of fs → es ≡ fs
same-context es fs h =
    let parts = heads (length es) (length fs) (flat_map entry_bytes es) (flat_map entry_bytes fs) h in
    same-entries es fs parts.0 parts.1

-- the bytes of a context are read as that context
pub reads-back : (es : Pairs) (read : Result Pairs ContextError) → IsContext es → IsReading (bytes_of es) read →
    MatchResult read (λ c. c ≡ es) (λ e. e ≡ OutOfMemory)
reads-back es (Ok fs) is h = sym (same-context es fs h.1)
reads-back es (Err BadBytes) is h = absurd (h (es, is, refl))
reads-back es (Err OutOfMemory) is h = refl
reads-back es (Err Full) is h = absurd h
reads-back es (Err BadName) is h = absurd h
reads-back es (Err ValueTooLong) is h = absurd h

-- ---- whether a name is among entries

pub named-first : (name : List ℕ) (e : List ℕ × List ℕ) (es more : Pairs) → es ≡ e ∷ more → bytes_eq name e.0 ≡ true → is_some (find name es) ≡ true
named-first name e es more is same = ap (λ (z : Pairs). is_some (find name z)) is ∙ ap (λ b. is_some (cond b (Some e.1) (find name more))) same

pub named-later : (name : List ℕ) (e : List ℕ × List ℕ) (es more : Pairs) → es ≡ e ∷ more → bytes_eq name e.0 ≡ false →
    is_some (find name es) ≡ is_some (find name more)
named-later name e es more is differ = ap (λ (z : Pairs). is_some (find name z)) is ∙ ap (λ b. is_some (cond b (Some e.1) (find name more))) differ

unnamed : {A : Type 0} (r : Option A) → false ≡ is_some r → r ≡ None
unnamed None h = refl
unnamed (Some x) h = absurd cc

-- ---- an entry, and the bytes of the entries after it

pub spells-first : (e : List ℕ × List ℕ) (rest bytes : List ℕ) (count : ℕ) → 0 < count → IsEntry e → bytes ≡ entry_bytes e ++ rest → Spells (count - 1) rest
    → ((es : Pairs) → AreEntries es → length es ≡ count - 1 → rest ≡ flat_map entry_bytes es → false ≡ is_some (find e.0 es)) → Spells count bytes
spells-first e rest bytes count some entry is after new = (
  e ∷ after.0,
  (entry, unnamed (find e.0 after.0) (new after.0 after.1 after.2 after.3), after.1),
  omega (arith, some, after.2),
  is ∙ ap (λ (z : List ℕ). entry_bytes e ++ z) after.3,
)

pub spells-after : (e : List ℕ × List ℕ) (rest bytes : List ℕ) (count : ℕ) → 0 < count → bytes ≡ entry_bytes e ++ rest → Spells count bytes
    → (more : Pairs) × AreEntries more × (length more ≡ count - 1) × (rest ≡ flat_map entry_bytes more) × (find e.0 more ≡ None)
spells-after e rest bytes count some is all =
    let first = first-entry e rest count all.0 some all.2 (sym is ∙ all.3) in
    let are : AreEntries (e ∷ first.0) = subst (λ (z : Pairs). AreEntries z) first.1 all.1 in
    (first.0, are.2, omega (arith, first.2), first.3, are.1)

pub spells-none : (bytes : List ℕ) (count : ℕ) → 0 < count → ((e : List ℕ × List ℕ) (rest : List ℕ) → IsEntry e → bytes ≡ entry_bytes e ++ rest → ⊥) →
    (es : Pairs) → AreEntries es → length es ≡ count → bytes ≡ flat_map entry_bytes es → ⊥
spells-none bytes count some none [] are l h = omega (arith, some, l)
spells-none bytes count some none (e ∷ es) are l h = none e (flat_map entry_bytes es) are.0 h

-- ---- lengths

pub length-entry : (e : List ℕ × List ℕ) → length (entry_bytes e) ≡ length e.0 + length e.1 + 3
length-entry e = omega (arith, length-append (name_bytes e.0) (value_bytes e.1))

length-entries : (es : Pairs) → AreEntries es → length (flat_map entry_bytes es) ≤ 65570 * length es
length-entries [] are = omega arith
length-entries (e ∷ es) are =
    let more = length-entries es are.2 in
    let name = name-length e.0 are.0.0 in
    omega (arith, more, name.1, are.0.1, length-entry e, length-append (entry_bytes e) (flat_map entry_bytes es))

-- a context has few bytes
pub length-context : (es : Pairs) → IsContext es → length (bytes_of es) < 2 ^ 23
length-context es is = omega (arith, is.0, length-entries es is.1)

-- how long the bytes of entries are, by the first one and the rest
pub length-first : (e : List ℕ × List ℕ) (es : Pairs) → length (flat_map entry_bytes (e ∷ es)) ≡ length e.0 + length e.1 + 3 + length (flat_map entry_bytes es)
length-first e es = omega (arith, length-entry e, length-append (entry_bytes e) (flat_map entry_bytes es))

-- a name's length fits a byte
pub short-name : (e : List ℕ × List ℕ) → IsEntry e → length e.0 < 2 ^ 8
short-name e entry = omega (arith, name-length e.0 entry.0)
