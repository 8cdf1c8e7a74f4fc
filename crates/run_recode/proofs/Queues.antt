-- Bytes that are handed on.
-- for: queue::Queue::write_some, queue::Queue::write_to
use Rattle.std.proofs.Common.{◌≡◌, ◌∙◌, sym, ap, refl, ℕ, ◌+◌, List, [], ◌++◌, Option, append_assoc, drop, take, take-append-drop}
use Rattle.std.proofs.lemmas.List.{drop-drop}
use Rattle.std.specs.Io.KnownBytes.{Keeps}
use Rattle.std.proofs.KnownBytes.{Appends-kept, Appends-nil, Appends-trans}
use Rattle.run_recode.specs.Queues.{HandsOn}

-- none were
pub HandsOn-kept : (a b : Option (List ℕ)) (waiting : List ℕ) → Keeps a b → HandsOn a b waiting waiting
HandsOn-kept a b waiting h = ([], refl, Appends-kept a a b [] (Appends-nil a) h)

pub HandsOn-nil : (a : Option (List ℕ)) (waiting : List ℕ) → HandsOn a a waiting waiting
HandsOn-nil a waiting = ([], refl, Appends-nil a)

-- some, and then more
pub HandsOn-trans : (a b c : Option (List ℕ)) (p q r : List ℕ) → HandsOn a b p q → HandsOn b c q r → HandsOn a c p r
HandsOn-trans a b c p q r h k =
    (h.0 ++ k.0, h.1 ∙ ap (λ (z : List ℕ). h.0 ++ z) k.1 ∙ sym (append_assoc h.0 k.0 r), Appends-trans a b c h.0 k.0 h.2 k.2)

-- the first of what waits, and the rest
pub queue_parts : (done n : ℕ) (xs : List ℕ) → drop done xs ≡ take n (drop done xs) ++ drop (done + n) xs
queue_parts done n xs = sym (take-append-drop n (drop done xs)) ∙ ap (λ (z : List ℕ). take n (drop done xs) ++ z) (drop-drop n done xs)
