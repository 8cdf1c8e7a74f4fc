-- What holds of stations in parts holds of the stations that are put together again.
-- for: pool::Pool::run_into
use Rattle.std.proofs.Common.{◌≡◌, Bool, true, false, zero, suc, ℕ, List, [], ◌∷◌, length, map, refl, sym, ap, subst, ◌∙◌, Option, Some, None}
use Rattle.std.proofs.Math.Path.{fun_ext}
use Rattle.std.proofs.lemmas.List.{length-map}
use Rattle.std.proofs.lemmas.Simd.{map-map}
use Rattle.sw_participant.specs.Chains.{Rule, rule_at}
use Rattle.sw_base.specs.Refusals.{first_of, refused_if}
use Rattle.tx_plant.specs.Plant.{Whole}
use Rattle.tx_plant.specs.declared.plant.Plant.{Plant}
use Rattle.tx_plant.specs.declared.plant.PlantParts.{PlantParts}
use Rattle.tx_plant.specs.Wholes.{plant_parts}
use Rattle.tx_pool.specs.Drives.{Drove}
use Rattle.tx_pool.specs.declared.refusal.Early.{Early}
use Rattle.tx_pool.specs.declared.refusal.Early.TheVariants.{BadCapacity, BreakSet, InUse, OutOfMemory}
use Rattle.tx_pool.specs.Early.{IsEarly}

-- the rule of a station by what it is made of
rule_of_part : {A : Type 0} {C : Type 0} (of : A → C) (own : C → Rule) (xs : List A) (k : ℕ) → rule_at (λ s. own (of s)) xs k ≡ rule_at own (map of xs) k
rule_of_part of own [] k = refl
rule_of_part of own (x ∷ xs) zero = refl
rule_of_part of own (x ∷ xs) (suc k) = rule_of_part of own xs k

pub same_rules : {A : Type 0} {B : Type 0} {C : Type 0} (of : A → C) (to : B → C) (own : C → Rule) (xs : List A) (ys : List B) → map of xs ≡ map to ys →
    rule_at (λ s. own (of s)) xs ≡ rule_at (λ s. own (to s)) ys
same_rules of to own xs ys e = fun_ext (λ k. rule_of_part of own xs k ∙ ap (λ l. rule_at own l k) e ∙ sym (rule_of_part to own ys k))

pub same_shown : {A : Type 0} {B : Type 0} {C : Type 0} {D : Type 0} (of : A → C) (to : B → C) (shown : C → D) (xs : List A) (ys : List B) →
    map of xs ≡ map to ys → map (λ s. shown (of s)) xs ≡ map (λ s. shown (to s)) ys
same_shown of to shown xs ys e = sym (map-map shown of xs) ∙ ap (map shown) e ∙ map-map shown to ys

pub same_length : {A : Type 0} {B : Type 0} {C : Type 0} (of : A → C) (to : B → C) (xs : List A) (ys : List B) → map of xs ≡ map to ys → length xs ≡ length ys
same_length of to xs ys e = sym (length-map xs of) ∙ ap length e ∙ length-map ys to

-- a run of the parts is one of the stations that they were taken from, to those that are made of what it left
pub drove_whole : {A : Type 0} {B : Type 0} {C : Type 0} (of : A → C) (to : B → C) (own : C → Rule) (object : C → List ℕ) (count : A → ℕ) (counted : B → ℕ)
    (ps : List A) (qs : List A) (ss : List B) (ts : List B) (v : Whole) (w : Whole) → map of ps ≡ map to ss → map count ps ≡ map counted ss →
    map to ts ≡ map of qs → map counted ts ≡ map count qs → Drove (rule_at (λ s. own (of s)) ps) (map (λ s. object (of s)) ps) (map count ps) v
    (map (λ s. object (of s)) qs) (map count qs) w → Drove (rule_at (λ s. own (to s)) ss) (map (λ s. object (to s)) ss) (map counted ss) v
    (map (λ s. object (to s)) ts) (map counted ts) w
drove_whole of to own object count counted ps qs ss ts v w a b c d drove =
    subst (λ r. Drove r (map (λ s. object (to s)) ss) (map counted ss) v (map (λ s. object (to s)) ts) (map counted ts) w) (same_rules of to own ps ss a)
    (subst (λ os. Drove (rule_at (λ s. own (of s)) ps) os (map counted ss) v (map (λ s. object (to s)) ts) (map counted ts) w)
    (same_shown of to object ps ss a)
    (subst (λ cs. Drove (rule_at (λ s. own (of s)) ps) (map (λ s. object (of s)) ps) cs v (map (λ s. object (to s)) ts) (map counted ts) w) b
    (subst (λ os. Drove (rule_at (λ s. own (of s)) ps) (map (λ s. object (of s)) ps) (map count ps) v os (map counted ts) w)
    (sym (same_shown to of object ts qs c))
    (subst (λ cs. Drove (rule_at (λ s. own (of s)) ps) (map (λ s. object (of s)) ps) (map count ps) v (map (λ s. object (of s)) qs) cs w) (sym d) drove))))

-- the refusal that is due, which is never out of memory
pub early_is : (b : Bool) (c : Bool) (d : Bool) (e : Early) → first_of (refused_if b BreakSet ∷ refused_if c InUse ∷ refused_if d BadCapacity ∷ []) ≡ Some e
    → IsEarly e (first_of (refused_if b BreakSet ∷ refused_if c InUse ∷ refused_if d BadCapacity ∷ []))
early_is b c d BadCapacity h = h
early_is b c d BreakSet h = h
early_is b c d InUse h = h
early_is true c d OutOfMemory h = absurd (cc)
early_is false true d OutOfMemory h = absurd (cc)
early_is false false true OutOfMemory h = absurd (cc)
early_is false false false OutOfMemory h = absurd (cc)

pub early_memory : (e : Early) (r : Option Early) → e ≡ OutOfMemory → r ≡ None → IsEarly e r
early_memory OutOfMemory r h n = n
early_memory BadCapacity r h n = absurd (cc)
early_memory BreakSet r h n = absurd (cc)
early_memory InUse r h n = absurd (cc)

-- a plant is its parts
pub same_plant : {S : Type 0} {I : Type 0} {D : I → Type 0} (p : Plant S I D) (q : Plant S I D) → plant_parts p ≡ plant_parts q → p ≡ q
same_plant {S} {I} {D} p q e = ap whole e where
  whole : PlantParts S I D → Plant S I D
  whole x = record { running = x.running; journal = x.journal; stations = x.stations }
