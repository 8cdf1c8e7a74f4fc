-- What putting, reversing and forgetting make of the sums.
-- for: the laws
use Rattle.std.proofs.Common.{◌≡◌, ◌<ℤ◌, ◌≤ℤ◌, ◌+ℤ◌, inl, inr, ℕ, ◌-◌, ℤ, pos, List, [], ◌∷◌, ◌++◌, filter, length, slice_get, true, false, not, Bool}
use Rattle.std.proofs.Common.{cond, ◌&&◌, ◌||◌}
use Rattle.std.proofs.Common.{if◌then◌else◌, Option, Some, None, option_and_then, int_eq, int_lt, int_le, is_eq, arith, refl, sym, ap, ap₂, subst, ◌∙◌}
use Rattle.std.proofs.Common.{true≢false}
use Rattle.std.specs.List.{AllByRecursion, list_any}
use Rattle.std.proofs.lemmas.Int.{ints}
use Rattle.sqlite_keyed.specs.Keyed.{IsKeyedBy}
use Rattle.sqlite_keyed.specs.Lists.{sum_of}
use Rattle.sqlite_rules.specs.Lists.{Has}
use Rattle.sqlite_rules.proofs.ListLemmas.{all_has}
use Rattle.sqlite_typed.specs.Tests.{bytes_eq}
use Rattle.store_base.proofs.DeleteLemmas.{int_tie}
use Rattle.store_base.proofs.RowidLemmas.{not_tied, same_int}
use Rattle.book_store.specs.Changes.{forgotten_of, marked_if, reversed, without_if}
use Rattle.book_store.specs.Lines.{Line, has_id, is_gone, marked, with_line, without_lines}
use Rattle.book_store.specs.Queries.{counts, first_day, last_id, of_request, open_id, used}
use Rattle.book_store.specs.Sums.{ForgettingKeeps, PutAdds, ReversalTakes, share}
use Rattle.book_store.proofs.MarkLemmas.{are_above, mark}

module _ (card : List ℕ) (day : ℤ) where
  abbrev sum : List Line → ℤ
  sum = used card day

  abbrev part : Line → ℤ
  part = share card day

  sum_cons : (l : Line) (ls : List Line) → sum (l ∷ ls) ≡ part l +ℤ sum ls
  sum_cons l ls =
      let these = filter (counts card day) ls in
      elim (counts card day l) as (λ b. sum_of (λ (m : Line). m.amount) (cond b (l ∷ these) these) ≡ (if b then l.amount else pos 0)
      +ℤ sum_of (λ (m : Line). m.amount) these) [
        | true ↦ refl
        | false ↦ omega (arith, ints)
      ]

  sum_append : (xs ys : List Line) → sum (xs ++ ys) ≡ sum xs +ℤ sum ys
  sum_append [] ys = omega (arith, ints)
  sum_append (x ∷ xs) ys =
      let more = sum_append xs ys in
      let whole = sum_cons x (xs ++ ys) in
      let first = sum_cons x xs in
      omega (arith, ints, more, whole, first)

  abbrev below : ℤ → List Line → List Line
  below id = filter (λ (l : Line). int_lt l.id id)

  abbrev over : ℤ → List Line → List Line
  over id = filter (λ (l : Line). int_lt id l.id)

  -- the items below an id and those above it are all, where none has it
  halves : (id : ℤ) (ls : List Line) → list_any (has_id id) ls ≡ false → sum (below id ls) +ℤ sum (over id ls) ≡ sum ls
  halves id [] h = refl
  halves id (l ∷ ls) h = go (halves id ls) (int_eq l.id id) refl (int_lt l.id id) refl
    where
      Lower : Bool → List Line
      Lower b = cond b (l ∷ below id ls) (below id ls)

      Upper : Bool → List Line
      Upper b = cond b (l ∷ over id ls) (over id ls)

      go : (list_any (has_id id) ls ≡ false → sum (below id ls) +ℤ sum (over id ls) ≡ sum ls) → (e : Bool) → int_eq l.id id ≡ e → (b : Bool) → int_lt l.id
          id ≡ b
          → sum (below id (l ∷ ls)) +ℤ sum (over id (l ∷ ls)) ≡ sum (l ∷ ls)
      go rest true same b lower = absurd (true≢false (sym (ap (λ x. x || list_any (has_id id) ls) same) ∙ h))
      go rest false apart true lower =
          let up : int_lt id l.id ≡ false = grind (arith, ints, lower) in
          let none : list_any (has_id id) ls ≡ false = sym (ap (λ x. x || list_any (has_id id) ls) apart) ∙ h in
          let more = rest none in
          let here = sum_cons l (below id ls) in
          let whole = sum_cons l ls in
          ap₂ (λ a b. sum (Lower a) +ℤ sum (Upper b)) lower up ∙ omega (arith, ints, more, here, whole)
      go rest false apart false upper =
          let up : int_lt id l.id ≡ true = grind (arith, ints, apart, upper) in
          let none : list_any (has_id id) ls ≡ false = sym (ap (λ x. x || list_any (has_id id) ls) apart) ∙ h in
          let more = rest none in
          let here = sum_cons l (over id ls) in
          let whole = sum_cons l ls in
          ap₂ (λ a b. sum (Lower a) +ℤ sum (Upper b)) upper up ∙ omega (arith, ints, more, here, whole)

  pub put_adds : (new : Line) (ls : List Line) → list_any (has_id new.id) ls ≡ false → sum (with_line new ls) ≡ part new +ℤ sum ls
  put_adds new ls free =
      let put = below new.id ls ++ new ∷ over new.id ls in
      let whole = sum_append (below new.id ls) (new ∷ over new.id ls) in
      let here = sum_cons new (over new.id ls) in
      let both = halves new.id ls free in
      ap (λ b. sum (if b then ls else put)) free ∙ omega (arith, ints, whole, here, both)

  -- a marked item adds nothing
  no_part : (l : Line) → part (mark l) ≡ pos 0
  no_part l = ap (λ b. if b then l.amount else pos 0) (last_false (bytes_eq l.card card) (int_eq l.day day))
    where
      last_false : (a b : Bool) → (a && (b && false)) ≡ false
      last_false true true = refl
      last_false true false = refl
      last_false false b = refl

  takes : (l : Line) (ls : List Line) → IsKeyedBy (λ (m : Line). m.id) ls → Has ls l → part l +ℤ sum (marked l.id ls) ≡ sum ls
  takes l [] h there = absurd there
  takes l (x ∷ ls) h (inl same) =
      let rest : marked l.id ls ≡ ls = (are_above l.id ls (subst (λ (m : Line). AllByRecursion (λ (n : Line). m.id <ℤ n.id) ls) (sym same) h.0)).kept in
      let here : (if has_id l.id x then mark x else x) ≡ mark l =
      ap (λ (m : Line). if has_id l.id m then mark m else m) (sym same) ∙ ap (λ b. if b then mark l else l) (same_int l.id) in
      let marks : sum (marked l.id (x ∷ ls)) ≡ sum (mark l ∷ ls) = ap₂ (λ m ms. sum (m ∷ ms)) here rest in
      let first = sum_cons (mark l) ls in
      let none = no_part l in
      let whole : sum (x ∷ ls) ≡ part l +ℤ sum ls = ap (λ (m : Line). sum (m ∷ ls)) (sym same) ∙ sum_cons l ls in
      omega (arith, ints, marks, first, none, whole)
  takes l (x ∷ ls) h (inr there) =
      let less : x.id <ℤ l.id = all_has (λ (m : Line). x.id <ℤ m.id) ls l h.0 there in
      let apart : has_id l.id x ≡ false = not_tied x.id l.id (λ e. omega (arith, ints, less, e)) in
      let more = takes l ls h.1 there in
      let marks : sum (marked l.id (x ∷ ls)) ≡ sum (x ∷ marked l.id ls) = ap (λ b. sum ((if b then mark x else x) ∷ marked l.id ls)) apart in
      let first = sum_cons x (marked l.id ls) in
      let whole = sum_cons x ls in
      omega (arith, ints, more, marks, first, whole)

  -- items of another day add nothing
  keeps : (d last : ℤ) (ls : List Line) → d <ℤ day → sum (without_lines d last ls) ≡ sum ls
  keeps d last [] less = refl
  keeps d last (l ∷ ls) less = go (keeps d last ls less) (is_gone d last l) refl (int_eq l.day d) refl
    where
      go : sum (without_lines d last ls) ≡ sum ls → (b : Bool) → is_gone d last l ≡ b → (e : Bool) → int_eq l.day d ≡ e
          → sum (without_lines d last (l ∷ ls)) ≡ sum (l ∷ ls)
      go more false is e same =
          let kept = ap (λ b. sum (cond (not b) (l ∷ without_lines d last ls) (without_lines d last ls))) is in
          let first = sum_cons l (without_lines d last ls) in
          let whole = sum_cons l ls in
          omega (arith, ints, kept, more, first, whole)
      go more true is false apart = absurd (true≢false (sym is ∙ ap (λ b. b && int_le l.id last) apart))
      go more true is true same =
          let at : l.day ≡ d = int_tie l.day d same in
          let other : int_eq l.day day ≡ false = not_tied l.day day (λ e. omega (arith, ints, less, e, at)) in
          let none : part l ≡ pos 0 = ap (λ b. if bytes_eq l.card card && (b && int_eq l.reversed (pos 0)) then l.amount else pos 0) other
          ∙ ap (λ b. if b then l.amount else pos 0) (then_false (bytes_eq l.card card)) in
          let kept = ap (λ b. sum (cond (not b) (l ∷ without_lines d last ls) (without_lines d last ls))) is in
          let whole = sum_cons l ls in
          omega (arith, ints, kept, more, none, whole)
        where
          then_false : (a : Bool) → (a && false) ≡ false
          then_false true = refl
          then_false false = refl

pub put_sums : PutAdds
put_sums = record {
  adds = put_adds;
  again = λ new lines there. ap (λ b. if b then lines else filter (λ (l : Line). int_lt l.id new.id) lines
      ++ new ∷ filter (λ (l : Line). int_lt new.id l.id) lines) there;
}

-- the last of the items of a request is one of the items
last_has : {A : Type 0} (xs : List A) (n : ℕ) (x : A) → slice_get xs n ≡ Some x → Has xs x
last_has [] n x e = absurd (let f = e in cc)
last_has (y ∷ xs) Rattle.std.proofs.Common.zero x e = inl (let f = e in cc)
last_has (y ∷ xs) (Rattle.std.proofs.Common.suc n) x e = inr (last_has xs n x e)

passed_has : {A : Type 0} (p : A → Bool) (xs : List A) (x : A) → Has (filter p xs) x → Has xs x
passed_has p [] x h = absurd h
passed_has {A} p (y ∷ xs) x h = go (p y) h (passed_has p xs x)
  where
    go : (b : Bool) → Has (cond b (y ∷ filter p xs) (filter p xs)) x → (Has (filter p xs) x → Has xs x) → Has (y ∷ xs) x
    go true (inl same) more = inl same
    go true (inr there) more = inr (more there)
    go false there more = inr (more there)

pub reversal_sums : ReversalTakes
reversal_sums = record {
  takes = λ card day request l lines rise last unmarked.
      let there = passed_has (λ (m : Line). bytes_eq m.request request) lines l (last_has (of_request request lines) (length (of_request request lines) -
      1) l last) in
      let id : open_id (of_request request lines) ≡ Some l.id =
      ap (option_and_then (λ (m : Line). if int_eq m.reversed (pos 0) then Some m.id else None)) last
      ∙ ap (λ n. if int_eq n (pos 0) then Some l.id else None) unmarked in
      let is : used card day (reversed request lines) ≡ used card day (marked l.id lines) = ap (λ o. used card day (marked_if o lines)) id in
      let all = takes card day l lines rise there in
      omega (arith, ints, is, all);
  none = λ request lines e. ap (λ o. marked_if o lines) e;
}

pub forget_sums : ForgettingKeeps
forget_sums card before day most lines late = go (first_day (pos 0) lines)
  where
    without : (d : ℤ) → d <ℤ day → (o : Option ℤ) → used card day (without_if d o lines) ≡ used card day lines
    without d less None = refl
    without d less (Some last) = keeps card day d last lines less

    go : (o : Option ℤ) → used card day (forgotten_of before most o lines) ≡ used card day lines
    go None = refl
    go (Some d) = both (int_lt d before) refl
      where
        both : (b : Bool) → int_lt d before ≡ b
            → used card day (if int_lt d before then without_if d (last_id d most lines) lines else lines) ≡ used card day lines
        both true is =
            let less : d <ℤ before = grind (arith, ints, is) in
            ap (λ b. used card day (if b then without_if d (last_id d most lines) lines else lines)) is
            ∙ without d (omega (arith, ints, less, late)) (last_id d most lines)
        both false is = ap (λ b. used card day (if b then without_if d (last_id d most lines) lines else lines)) is
