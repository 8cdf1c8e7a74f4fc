-- What was written, piece by piece, and a beginning of what was to be.
-- for: write::write_some, write::write_whole, write::write_out
use Rattle.std.proofs.Common.{◌≡◌, ◌∷◌, ◌++◌, ◌∙◌, [], ℕ, ◌+◌, zero, suc, List, Option, Some, None, drop, take, refl, ap, arith, append-nil, append_assoc}
use Rattle.std.proofs.Common.{subst, sym, take-append-drop}
use Rattle.std.proofs.KnownBytes.{Appends-nil, Appends-trans}
use Rattle.std.specs.Io.KnownBytes.{Appends, Keeps}
use Rattle.cli_io.specs.Written.{AppendsBeginning}

none : (k : ℕ) → ◌≡◌ {A = List ℕ} (take k []) []
none zero = refl
none (suc k) = refl

take_two : (n k : ℕ) (xs : List ℕ) → take n xs ++ take k (drop n xs) ≡ take (n + k) xs
take_two zero k xs = let all : k ≡ 0 + k = omega arith in ap (λ n. take n xs) all
take_two (suc n) k [] = none k ∙ sym (none (suc n + k))
take_two (suc n) k (x ∷ xs) =
    let all : suc (n + k) ≡ suc n + k = omega arith in ap (λ l. x ∷ l) (take_two n k xs) ∙ ap (λ m. take m (x ∷ xs)) all

pub written_more : (a b c : Option (List ℕ)) (n k : ℕ) (xs : List ℕ) → Appends a b (take n xs) → Appends b c (take k (drop n xs))
    → Appends a c (take (n + k) xs)
written_more a b c n k xs one more = subst (Appends a c) (take_two n k xs) (Appends-trans a b c (take n xs) (take k (drop n xs)) one more)

-- nothing was added
pub nothing_kept : (a b : Option (List ℕ)) → Appends a b [] → Keeps a b
nothing_kept None b h = tt
nothing_kept (Some xs) None h = absurd h
nothing_kept (Some xs) (Some ys) h = h ∙ append-nil xs

pub kept_nothing : (a b : Option (List ℕ)) → Keeps a b → Appends a b []
kept_nothing None b h = tt
kept_nothing (Some xs) None h = absurd h
kept_nothing (Some xs) (Some ys) h = h ∙ sym (append-nil xs)

pub appends_kept : (a b c : Option (List ℕ)) (xs : List ℕ) → Appends a b xs → Keeps b c → Appends a c xs
appends_kept a b c xs h k = subst (Appends a c) (append-nil xs) (Appends-trans a b c xs [] h (kept_nothing b c k))

pub kept_appends : (a b c : Option (List ℕ)) (xs : List ℕ) → Keeps a b → Appends b c xs → Appends a c xs
kept_appends a b c xs k h = Appends-trans a b c [] xs (kept_nothing a b k) h

-- a beginning

pub beginning_none : (a : Option (List ℕ)) (xs : List ℕ) → AppendsBeginning a a xs
beginning_none a xs = ([], xs, refl, Appends-nil a)

pub beginning_all : (a b : Option (List ℕ)) (xs : List ℕ) → Appends a b xs → AppendsBeginning a b xs
beginning_all a b xs h = (xs, [], sym (append-nil xs), h)

pub beginning_front : (a b : Option (List ℕ)) (xs ys : List ℕ) → AppendsBeginning a b xs → AppendsBeginning a b (xs ++ ys)
beginning_front a b xs ys (first, rest, whole, h) = (first, rest ++ ys, ap (λ (l : List ℕ). l ++ ys) whole ∙ append_assoc first rest ys, h)

pub beginning_after : (a b c : Option (List ℕ)) (xs ys : List ℕ) → Appends a b xs → AppendsBeginning b c ys → AppendsBeginning a c (xs ++ ys)
beginning_after a b c xs ys h (first, rest, whole, k) =
    (xs ++ first, rest, ap (λ (l : List ℕ). xs ++ l) whole ∙ sym (append_assoc xs first rest), Appends-trans a b c xs first h k)

pub beginning_taken : (a b c : Option (List ℕ)) (n : ℕ) (xs : List ℕ) → Appends a b (take n xs) → Keeps b c → AppendsBeginning a c xs
beginning_taken a b c n xs h k = (take n xs, drop n xs, sym (take-append-drop n xs), appends_kept a b c (take n xs) h k)
