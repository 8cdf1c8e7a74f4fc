-- Reading lines one after the other, as a loop does.
-- for: forms::read_items, item_at, read_lines, reader::read_image
use Rattle.std.proofs.Common.{◌≡◌, ℕ, suc, ◌-◌, ◌+◌, ◌≤◌, ◌<◌, List, [], ◌∷◌, ◌++◌, Result, Ok, Err, refl, sym, ap, ◌∙◌, subst, append_assoc, arith}
use Rattle.std.proofs.lemmas.List.{append-nil}
use Rattle.flow_load.specs.declared.error.LoadError.{LoadError}
use Rattle.flow_load.specs.declared.error.LoadError.TheVariants.{OutOfMemory, BadHeader, BadLine, BadNumber, BadTarget, NoReturn, Flow}
use Rattle.flow_load.specs.Reads.{◌>>=◌, Exactly, Fails, GivesImage}
use Rattle.flow_load.specs.Forms.{line_at, items_at}

fails_same : (Y : Type 0) (e : LoadError) → Fails {Y = Y} e (Err e)
fails_same Y OutOfMemory = tt
fails_same Y BadHeader = refl
fails_same Y (BadLine n) = refl
fails_same Y (BadNumber n) = refl
fails_same Y (BadTarget n) = refl
fails_same Y (NoReturn n) = refl
fails_same Y (Flow f) = refl

pub fails_when : {Y : Type 0} (e : LoadError) (read : Result Y LoadError) → read ≡ Err e → Fails e read
fails_when {Y = Y} e read is = subst (λ (r : Result Y LoadError). Fails e r) (sym is) (fails_same Y e)

-- a failure of the one reading is one of the other, unless memory ran out
pub fails_through : {X Y : Type 0} (e : LoadError) (inner : Result X LoadError) (read : Result Y LoadError) → (inner ≡ Err e → read ≡ Err e) →
    Fails e inner → Fails e read
fails_through OutOfMemory inner read on h = tt
fails_through BadHeader inner read on h = on h
fails_through (BadLine n) inner read on h = on h
fails_through (BadNumber n) inner read on h = on h
fails_through (BadTarget n) inner read on h = on h
fails_through (NoReturn n) inner read on h = on h
fails_through (Flow f) inner read on h = on h

-- what takes no memory is never refused it
pub gives_exactly : {X Y : Type 0} (view : X → Y) (r : Result X LoadError) (read : Result Y LoadError) → Exactly view r read → GivesImage view r read
gives_exactly view (Ok x) read h = h
gives_exactly view (Err e) read h = fails_when e read h

-- what was read before, and what is yet to be read
abbrev pub with_front : {A : Type 0} → List A → Result (List A × List ℕ) LoadError → Result (List A × List ℕ) LoadError
with_front front read = read >>= λ x. Ok (front ++ x.0, x.1)

regroup : {A : Type 0} (front : List A) (n : A) (read : Result (List A × List ℕ) LoadError) → with_front front (read >>= λ x. Ok (n ∷ x.0, x.1))
    ≡ with_front (front ++ n ∷ []) read
regroup front n (Ok x) = ap (λ ns. Ok (ns, x.1)) (simp append_assoc)
regroup front n (Err f) = refl

pub goes_on : {A : Type 0} (form : LoadError → List ℕ → Result (ℕ × A) LoadError) (front : List A) (count k at : ℕ) (bytes : List ℕ) (x : A)
    (after : List ℕ) (total : Result (List A × List ℕ) LoadError) → k < count → line_at form k (at + k) bytes ≡ Ok (x, after)
    → with_front front (items_at form (count - k) k (at + k) bytes) ≡ total →
    with_front (front ++ x ∷ []) (items_at form (count - (k + 1)) (k + 1) (at + (k + 1)) after) ≡ total
unfolding items_at
goes_on form front count k at bytes x after total lt h so_far =
    let n : count - k ≡ suc (count - (k + 1)) = omega arith in
    let m : at + k + 1 ≡ at + (k + 1) = omega arith in
    let one : with_front front (items_at form (count - k) k (at + k) bytes) ≡ with_front (front ++ x ∷ [])
    (items_at form (count - (k + 1)) (k + 1) (at + (k + 1)) after) =
    rw (n, h, m) (regroup front x (items_at form (count - (k + 1)) (k + 1) (at + (k + 1)) after)) in
    sym one ∙ so_far

stops : {A : Type 0} (form : LoadError → List ℕ → Result (ℕ × A) LoadError) (e : LoadError) (front : List A) (count k at : ℕ) (bytes : List ℕ)
    (total : Result (List A × List ℕ) LoadError) → k < count → line_at form k (at + k) bytes ≡ Err e
    → with_front front (items_at form (count - k) k (at + k) bytes) ≡ total → total ≡ Err e
unfolding items_at
stops form e front count k at bytes total lt h so_far =
    let n : count - k ≡ suc (count - (k + 1)) = omega arith in
    let one : with_front front (items_at form (count - k) k (at + k) bytes) ≡ Err e = rw (n, h) refl in
    sym so_far ∙ one

pub ends : {A : Type 0} (form : LoadError → List ℕ → Result (ℕ × A) LoadError) (e : LoadError) (front : List A) (count k at : ℕ) (bytes : List ℕ)
    (total : Result (List A × List ℕ) LoadError) → k < count → Fails e (line_at form k (at + k) bytes)
    → with_front front (items_at form (count - k) k (at + k) bytes) ≡ total → Fails e total
ends form e front count k at bytes total lt h so_far = fails_through e (line_at form k (at + k) bytes) total
    (λ is. stops form e front count k at bytes total lt is so_far) h

pub is_done : {A : Type 0} (form : LoadError → List ℕ → Result (ℕ × A) LoadError) (front : List A) (count k at : ℕ) (bytes : List ℕ)
    (total : Result (List A × List ℕ) LoadError) → count ≤ k → with_front front (items_at form (count - k) k (at + k) bytes) ≡ total
    → total ≡ Ok (front, bytes)
unfolding items_at
is_done form front count k at bytes total le so_far =
    let n : count - k ≡ 0 = omega arith in
    let one : with_front front (items_at form (count - k) k (at + k) bytes) ≡ Ok (front, bytes) = rw n (ap (λ ns. Ok (ns, bytes)) (append-nil front)) in
    sym so_far ∙ one
