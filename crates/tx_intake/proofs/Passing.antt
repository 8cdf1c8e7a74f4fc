-- Each move of an intake keeps its rule.
-- for: intake::Passage::new, intake::Passage::put, intake::Passage::get, intake::Passage::settle
use Rattle.std.proofs.Common.{◌≡◌, ◌≢◌, ◌≤◌, ℕ, zero, suc, true, false, true≢false, List, [], ◌∷◌, ◌++◌, length, set, sym, refl, ap, ◌∙◌, subst, ⊎_elim}
use Rattle.std.proofs.Common.{append_assoc, arith, length-append, lit≤}
use mathlib.Core.Option.{some, some-ne-none}
use lib.ListN.{get_elem?}
use Rattle.crossbeam_queue.specs.Fifo.{Pushes, Pops, Forks, Merges, Learns}
use Rattle.crossbeam_queue.proofs.Lists.{at_set, at_snoc}
use Rattle.tx_intake.specs.Rule.{side, Fits, Passed, HeldOfPut, HeldOfGot, Lawful, LawfulAfter}
use Rattle.tx_intake.specs.declared.rule.Side.{Side}

-- what is in a longer list, but not in the list, comes after it
at_end : {A : Type 0} (l : List (Side A)) (a b : Side A) (j : ℕ) → get_elem? l j ≢ some b → get_elem? (l ++ a ∷ []) j ≡ some b → j ≡ length l
at_end [] a b zero n e = refl
at_end [] a b (suc j) n e = absurd (some-ne-none b (sym e))
at_end (x ∷ xs) a b zero n e = absurd (n e)
at_end (x ∷ xs) a b (suc j) n e = ap suc (at_end xs a b j n e)

abbrev All : {A : Type 0} → (ℕ → Side A → Type 0) → List (Side A) → Type 0
All {A} F views = (pass : ℕ) (v : Side A) → get_elem? views pass ≡ some v → F pass v

-- of all views, where one is set
all_set : {A : Type 0} (F : ℕ → Side A → Type 0) (views : List (Side A)) (pass : ℕ) (w : Side A) → F pass w → ((j : ℕ) (u : Side A) → j ≢ pass → get_elem? views j ≡ some u → F j u)
    → All F (set views pass w)
all_set {A} F views pass w mine others j u e = ⊎_elim (λ (x : (j ≡ pass) × (w ≡ u)). subst (λ (y : ℕ × Side A). F y.0 y.1) (λ i. (sym x.0 i, x.1 i)) mine)
    (λ (x : (j ≢ pass) × (get_elem? views j ≡ some u)). others j u x.0 x.1) (at_set views pass j w u e)

pub begins : {A : Type 0} → Passed {A = A} [] (side true true [] [] ∷ [])
begins = (
  0,
  0,
  [],
  [],
  refl,
  all_set (Fits 0 0 [] []) (side true true [] [] ∷ []) 0 (side true true [] []) ((λ _. (refl, refl)), λ _. (refl, refl))
      (λ j u other e. absurd (other (at_end [] _ u j (λ x. some-ne-none u (sym x)) e))),
  lit≤ tt,
)

pub puts : {A : Type 0} (n pass : ℕ) (v : Side A) (x : A) → n ≤ 4096 → v.puts ≡ true → Pushes Passed n pass v x (λ w. w ≡ side v.puts v.gets (v.put ++ x ∷ []) v.got)
puts {A} n pass v x small may held views room h at = let w : Side A = side v.puts v.gets (v.put ++ x ∷ []) v.got in let mine = h.5 pass v at in let put =
    h.2 ++ x ∷ [] in (
      w,
      (
        h.0,
        h.1,
        put,
        h.3,
        ap (λ l. l ++ x ∷ []) h.4 ∙ append_assoc h.3 held (x ∷ []),
        all_set (Fits h.0 h.1 put h.3) views pass w ((λ _. ((mine.0 may).0, ap (λ l. l ++ x ∷ []) (mine.0 may).1)), mine.1)
            (λ j u other e. ((λ p. absurd (other (((h.5 j u e).0 p).0 ∙ sym (mine.0 may).0))), (h.5 j u e).1)),
        omega (arith, length-append held (x ∷ []), small, room),
      ),
      refl,
    )

pub gets : {A : Type 0} (pass : ℕ) (v : Side A) → v.gets ≡ true → Pops Passed pass v (λ x w. w ≡ side v.puts v.gets v.put (v.got ++ x ∷ []))
gets {A} pass v may x held views h at = let w : Side A = side v.puts v.gets v.put (v.got ++ x ∷ []) in let mine = h.5 pass v at in let got = h.3 ++ x ∷ [] in (
  w,
  (
    h.0,
    h.1,
    h.2,
    got,
    h.4 ∙ sym (append_assoc h.3 (x ∷ []) held),
    all_set (Fits h.0 h.1 h.2 got) views pass w (mine.0, λ _. ((mine.1 may).0, ap (λ l. l ++ x ∷ []) (mine.1 may).1))
        (λ j u other e. ((h.5 j u e).0, λ p. absurd (other (((h.5 j u e).1 p).0 ∙ sym (mine.1 may).0)))),
    omega (arith, h.6),
  ),
  refl,
)

-- one pass becomes the putter's, and a new one the getter's
pub parts : {A : Type 0} (pass : ℕ) (v : Side A) → v.puts ≡ true → v.gets ≡ true → Forks Passed pass v (side true false v.put []) (side false true [] v.got)
parts {A} pass v a b held views h at = let l : Side A = side true false v.put [] in let r : Side A = side false true [] v.got in let mine = h.5 pass v at in
    let vs : List (Side A) = set views pass l in
    let Old : ℕ → Side A → Type 0 = λ j u. (u.puts ≡ true → (j ≡ h.0) × (u.put ≡ h.2)) × (u.gets ≢ true) in
    let old : All Old vs = all_set Old views pass l ((λ _. mine.0 a), λ p. true≢false (sym p))
    (λ j u other e. ((h.5 j u e).0, λ p. other (((h.5 j u e).1 p).0 ∙ sym (mine.1 b).0))) in (
      h.0,
      length vs,
      h.2,
      h.3,
      h.4,
      λ j u e. ⊎_elim (λ x. ((old j u x).0, λ p. absurd ((old j u x).1 p)))
          (λ (is : r ≡ u). (
            (λ p. absurd (true≢false (sym (ap (λ (y : Side A). y.puts) is ∙ p)))),
            λ p. (at_end vs r u j (λ x. (old j u x).1 p) e, ap (λ (y : Side A). y.got) (sym is) ∙ (mine.1 b).1),
          ))
          (at_snoc vs r u j e),
      h.6,
    )

-- both become one again
pub joins : {A : Type 0} (pass : ℕ) (v : Side A) (other : ℕ) (u : Side A) → v.puts ≡ true → u.gets ≡ true →
    Merges Passed pass v other u (side true true v.put u.got) (side false false [] [])
joins {A} pass v other u a b held views h at two at' = let both : Side A = side true true v.put u.got in let mine = h.5 pass v at in let vs : List (Side A) =
    set views pass both in
    let was : get_elem? views other ≡ some u = ⊎_elim (λ x. absurd (two x.0)) (λ x. x.1) (at_set views pass other both u at') in let theirs =
    (h.5 other u was).1 b in
    let Now : ℕ → Side A → Type 0 = λ j y. j ≢ other → Fits h.0 pass h.2 h.3 j y in
    let now : All Now vs = all_set Now views pass both (λ _. ((λ _. mine.0 a), λ _. (refl, theirs.1)))
    (λ j y _ e apart. ((h.5 j y e).0, λ p. absurd (apart (((h.5 j y e).1 p).0 ∙ sym theirs.0)))) in (
      h.0,
      pass,
      h.2,
      h.3,
      h.4,
      all_set (Fits h.0 pass h.2 h.3) vs other (side false false [] []) (
        (λ p. absurd (true≢false (sym p))),
        λ p. absurd (true≢false (sym p)),
      ) (λ j y apart e. now j y e apart),
      h.6,
    )

pub held_of_put : {A : Type 0} (pass : ℕ) (v : Side A) → Learns Passed pass v (HeldOfPut v)
held_of_put {A} pass v held views h at may = (h.3, ((h.5 pass v at).0 may).1 ∙ h.4)

-- the same where a law holds of what was put

pub begins_by : {A : Type 0} (may : List A → Type 0) → may [] → Lawful may [] (side true true [] [] ∷ [])
unfolding begins
begins_by may none = (begins, none)

pub puts_by : {A : Type 0} (law : List A → Type 0) (n pass : ℕ) (v : Side A) (x : A) → n ≤ 4096 → v.puts ≡ true → law (v.put ++ x ∷ [])
    → Pushes (Lawful law) n pass v x (λ w. w ≡ side v.puts v.gets (v.put ++ x ∷ []) v.got)
unfolding puts
puts_by law n pass v x small may kept held views room h at =
    let r = puts n pass v x small may held views room h.0 at in
    (r.0, (r.1, subst (λ l. law (l ++ x ∷ [])) ((h.0.5 pass v at).0 may).1 kept), r.2)

pub gets_by : {A : Type 0} (law : List A → Type 0) (pass : ℕ) (v : Side A) → v.gets ≡ true
    → Pops (Lawful law) pass v (λ x w. (w ≡ side v.puts v.gets v.put (v.got ++ x ∷ [])) × LawfulAfter law (v.got ++ x ∷ []))
unfolding gets
gets_by law pass v may x held views h at =
    let r = gets pass v may x held views h.0 at in
    let same = ((h.0.5 pass v at).1 may).1 in
    (r.0, (r.1, h.1), (r.2, (held, subst (λ l. law ((l ++ x ∷ []) ++ held)) (sym same) (subst law r.1.4 h.1))))

pub parts_by : {A : Type 0} (law : List A → Type 0) (pass : ℕ) (v : Side A) → v.puts ≡ true → v.gets ≡ true
    → Forks (Lawful law) pass v (side true false v.put []) (side false true [] v.got)
unfolding parts
parts_by law pass v a b held views h at = (parts pass v a b held views h.0 at, h.1)

pub joins_by : {A : Type 0} (law : List A → Type 0) (pass : ℕ) (v : Side A) (other : ℕ) (u : Side A) → v.puts ≡ true → u.gets ≡ true
    → Merges (Lawful law) pass v other u (side true true v.put u.got) (side false false [] [])
unfolding joins
joins_by law pass v other u a b held views h at two at' = (joins pass v other u a b held views h.0 at two at', h.1)

pub held_of_put_by : {A : Type 0} (law : List A → Type 0) (pass : ℕ) (v : Side A) → Learns (Lawful law) pass v (HeldOfPut v)
held_of_put_by law pass v held views h at may = held_of_put pass v held views h.0 at may

pub held_of_got : {A : Type 0} (law : List A → Type 0) (pass : ℕ) (v : Side A) → Learns (Lawful law) pass v (HeldOfGot law v)
held_of_got law pass v held views h at may =
    subst (λ l. law (l ++ held)) (sym ((h.0.5 pass v at).1 may).1) (subst law h.0.4 h.1)
