-- Tables without a double have distinct texts at the key.
-- for: read::read_document
use Rattle.std.proofs.Common.{◌≡◌, ◌∙◌, ℕ, Bool, true, false, ◌||◌, List, [], ◌∷◌, ◌++◌, length, map, None, refl, sym, ap, append_assoc}
use Rattle.std.specs.List.{AllByRecursion, IsDistinct, list_any}
use Rattle.std.specs.Str.{bytes_eq}
use Rattle.std.proofs.Math.Seq.{take-append_seam}
use Rattle.std.proofs.lemmas.List.{length_push}
use Rattle.sw_base.specs.Refusals.{first_at}
use Rattle.sw_base.proofs.Unrefused.{left_none, right_none}
use Rattle.toml.specs.Data.{Members}
use Rattle.cli_config.specs.declared.keys.Section.{Section}
use Rattle.cli_config.specs.declared.keys.Key.{Key}
use Rattle.toml_tables.specs.Tables.{text_at}
use Rattle.cli_config.specs.Faults.{double, is_taken}
use Rattle.cli_config.proofs.NoFault.{not_refused}
use Rattle.cli_config.specs.Keys.{spelling}

all_both : {X : Type 0} (P Q : X → Type 0) (xs : List X) → AllByRecursion P xs → AllByRecursion Q xs → AllByRecursion (λ x. P x × Q x) xs
all_both P Q [] p q = tt
all_both P Q (x ∷ xs) p q = ((p.0, q.0), all_both P Q xs p.1 q.1)

all_front : {X : Type 0} (P : X → Type 0) (xs : List X) (y : X) → AllByRecursion P (xs ++ y ∷ []) → AllByRecursion P xs
all_front P [] y h = tt
all_front P (x ∷ xs) y h = (h.0, all_front P xs y h.1)

all_last : {X : Type 0} (P : X → Type 0) (xs : List X) (y : X) → AllByRecursion P (xs ++ y ∷ []) → P y
all_last P [] y h = h.0
all_last P (x ∷ xs) y h = all_last P xs y h.1

or_first : (a b : Bool) → (a || b) ≡ false → a ≡ false
or_first false b h = refl
or_first true b h = absurd (cc)

or_second : (a b : Bool) → (a || b) ≡ false → b ≡ false
or_second false b h = h
or_second true b h = absurd (cc)

none_passes : {X : Type 0} (test : X → Bool) (xs : List X) → list_any test xs ≡ false → AllByRecursion (λ x. test x ≡ false) xs
none_passes test [] h = tt
none_passes test (x ∷ xs) h = (or_first (test x) (list_any test xs) h, none_passes test xs (or_second (test x) (list_any test xs) h))

module _ (p : Section) (k : Key) where
  abbrev IsApart : List Members → Members → Type 0
  IsApart rest x = AllByRecursion (λ y. bytes_eq (text_at (spelling k) x) y ≡ false) (map (text_at (spelling k)) rest)

  apart : (front rest : List Members) → first_at (double p k (front ++ rest)) (length front) rest ≡ None →
      AllByRecursion (IsApart rest) front × IsDistinct bytes_eq (map (text_at (spelling k)) rest)
  unfolding IsDistinct
  apart front [] h = (all_tt front, tt)
    where
      all_tt : (xs : List Members) → AllByRecursion (IsApart []) xs
      all_tt [] = tt
      all_tt (x ∷ xs) = (tt, all_tt xs)
  apart front (y ∷ ys) h =
      let free = not_refused _ _ (left_none _ _ h) in
      let here : list_any (λ x. bytes_eq (text_at (spelling k) x) (text_at (spelling k) y)) front ≡ false =
      ap (λ (xs : List Members). is_taken xs k (text_at (spelling k) y)) (sym (take-append_seam front (y ∷ ys))) ∙ free in
      let later : first_at (double p k ((front ++ y ∷ []) ++ ys)) (length (front ++ y ∷ [])) ys ≡ None =
      ap (λ (all : List Members). first_at (double p k all) (length (front ++ y ∷ [])) ys) (append_assoc front (y ∷ []) ys)
      ∙ ap (λ (n : ℕ). first_at (double p k (front ++ y ∷ ys)) n ys) (length_push front y)
      ∙ right_none _ _ h in
      let (rest, distinct) = apart (front ++ y ∷ []) ys later in (
        all_both (λ x. bytes_eq (text_at (spelling k) x) (text_at (spelling k) y) ≡ false) (IsApart ys) front
            (none_passes (λ x. bytes_eq (text_at (spelling k) x) (text_at (spelling k) y)) front here) (all_front (IsApart ys) front y rest),
        (all_last (IsApart ys) front y rest, distinct),
      )

  pub texts_are_distinct : (mss : List Members) → first_at (double p k mss) 0 mss ≡ None → IsDistinct bytes_eq (map (text_at (spelling k)) mss)
  texts_are_distinct mss h = (apart [] mss h).1
