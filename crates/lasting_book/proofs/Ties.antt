-- Memory and file agree after a change of one or of both.
-- for: book::LastingBook
use Rattle.std.proofs.Common.{◌≡◌, ◌<◌, ◌≤◌, ℕ, ℤ, pos, Bool, true, false, not, ◌&&◌, ◌||◌, nat_lt, nat_le, if◌then◌else◌, List, [], ◌∷◌, Option, Some, None}
use Rattle.std.proofs.Common.{Result, Ok, Err, OnOk, OnErr, IsTrue, is_some, refl, ap, sym, ◌∙◌, arith}
use Rattle.std.specs.List.{list_any}
use Rattle.std.specs.List.Sorted.{IsStrictlySortedBy}
use Rattle.std.specs.Map.{keys_of}
use Rattle.std.specs.Ordering.{nat_cmp}
use Rattle.std.proofs.lemmas.Bool.Decides.{nat_tests}
use Rattle.sw_base.specs.Refusals.{first_of, refused_if}
use Rattle.sqlite_trees.specs.declared.store.Store.{Ghosts}
use Rattle.book_store.specs.Kept.{BookState, IsCleanBook, Kept, Tables, book}
use Rattle.book_store.specs.Changes.{forgotten as forgotten_lines}
use Rattle.book_store.specs.Lines.{Line, has_id, marked, with_line}
use Rattle.day_book.specs.declared.error.DayBookError.{DayBookError}
use Rattle.day_book.specs.declared.item.DayItem.{DayItem}
use Rattle.day_book.specs.declared.item.State.TheVariants.{Open, Reversed, Used}
use Rattle.day_book.specs.Items.{Items, PlainDays, has_open, is_open, is_used, item_at, with_items}
use Rattle.day_book.specs.Changes.{forgotten, in_its_place, in_state, released, reversed, reversed_by, settled, settled_by, with_item, without}
use Rattle.day_book.specs.Taking.{is_over, is_too_much, refusal, restoring_refusal}
use Rattle.day_book.specs.declared.error.DayBookError.TheVariants.{AmountTooLarge, Duplicate, OverLimit, SumTooLarge}
use Rattle.lasting_book.specs.Files.{IsChanged, IsKeptOrFailed}
use Rattle.lasting_book.specs.Tied.{Tied, in_reach, is_kept, line_at, lines_in}
use Rattle.lasting_book.proofs.Lines.{kept_new, kept_set, marked_set, past_out, unkept_new, unkept_out, unkept_set}
use Rattle.lasting_book.proofs.Reaching.{line_reaches, lines_more, reach_forgotten, reach_marked, reach_more, reach_put}

-- memory changed, but no line in reach
pub tied_items : (b : Bool) (f : BookState) (reach : ℕ) (es es' : Items) → Tied b f reach es → lines_in reach es' ≡ lines_in reach es → Tied b f reach es'
tied_items b f reach es es' tied is sound fine clean = tied sound fine clean ∙ sym is

module _ {S : Type 0} (g : Ghosts S) (old new : Kept S) (b : Bool) (reach : ℕ) (es : Items) (tied : Tied b (book g old) reach es) where
  pub tied_changed : (change : List Line → List Line) (es' : Items) → IsChanged g change old new
      → (IsCleanBook (book g new) → in_reach reach (book g old).tables.lines ≡ lines_in reach es
      → in_reach reach (change (book g old).tables.lines) ≡ lines_in reach es') → Tied b (book g new) reach es'
  tied_changed change es' changed step sound fine clean =
      ap (λ (t : Tables). in_reach reach t.lines) (changed.wrote clean) ∙ step clean (tied sound changed.fine (omega (arith, changed.clean, clean)))

  pub tied_kept : IsKeptOrFailed g old new → Tied b (book g new) reach es
  tied_kept kept sound fine clean =
      ap (λ (t : Tables). in_reach reach t.lines) (kept.same clean fine) ∙ tied sound (kept.fine fine) (omega (arith, kept.clean, clean))

-- lines out of reach were forgotten in the file, or it has failed
pub tied_lines : {S : Type 0} (g : Ghosts S) (old new : Kept S) (b : Bool) (reach : ℕ) (es : Items) {A E : Type 0} (r : Result A E) (most : ℤ)
    → Tied b (book g old) reach es → OnOk r (IsChanged g (forgotten_lines (pos reach) most) old new) → OnErr r (IsKeptOrFailed g old new)
    → Tied b (book g new) reach es
tied_lines g old new b reach es (Ok a) most tied changed kept =
    tied_changed g old new b reach es tied (forgotten_lines (pos reach) most) es changed
    (λ clean was. reach_forgotten reach reach most (book g old).tables.lines (omega arith) ∙ was)
tied_lines g old new b reach es (Err e) most tied changed kept = tied_kept g old new b reach es tied kept

pub not_true : (b : Bool) → (IsTrue b → ⊥) → b ≡ false
not_true true h = absurd (h refl)
not_true false h = refl

-- an item that was taken was not there
free_after : {E : Type 0} (a r : Bool) (o : Option DayItem) (e f : E) (rest : List (Option E))
    → first_of (refused_if a e ∷ refused_if (is_some o || r) f ∷ rest) ≡ None → o ≡ None
free_after true r o e f rest h = absurd cc
free_after false r None e f rest h = refl
free_after false r (Some u) e f rest h = absurd cc

module _ (reach : ℕ) where
  unkept_open : (u : DayItem) → u.state ≡ Open → is_kept reach u ≡ false
  unkept_open u h = ap (λ s. not (is_open s) && nat_le reach u.day) h

  early : (u : DayItem) → u.day < reach → nat_le reach u.day ≡ false
  early u h = grind (arith, nat_tests, h)

  late : (u : DayItem) → reach ≤ u.day → nat_le reach u.day ≡ true
  late u h = grind (arith, nat_tests, h)

  and_false : (b : Bool) → (b && false) ≡ false
  and_false true = refl
  and_false false = refl

  unkept_early : (u : DayItem) → u.day < reach → is_kept reach u ≡ false
  unkept_early u h = ap (λ b. not (is_open u.state) && b) (early u h) ∙ and_false (not (is_open u.state))

  kept_late : (u : DayItem) → is_open u.state ≡ false → reach ≤ u.day → is_kept reach u ≡ true
  kept_late u closed h = ap (λ b. not b && nat_le reach u.day) closed ∙ late u h

  -- a reservation
  pub tied_reserved : (old new : PlainDays) (id : ℕ) (v : DayItem) (r : Result (Unit {0}) DayBookError)
      → OnOk r (new ≡ with_items old (with_item id v old.items)) → OnOk r (refusal old id v ≡ None) → OnErr r (new ≡ old) → v.state ≡ Open
      → lines_in reach new.items ≡ lines_in reach old.items
  tied_reserved old new id v (Ok u) put taken kept held =
      ap (λ (d : PlainDays). lines_in reach d.items) put
      ∙ unkept_new reach id v old.items (unkept_open v held)
      (free_after _ _ (item_at id old.items) AmountTooLarge Duplicate (refused_if (is_over old v) OverLimit ∷ []) taken)
  tied_reserved old new id v (Err e) put taken kept held = ap (λ (d : PlainDays). lines_in reach d.items) kept

  -- an item out of reach was restored
  pub tied_restored : (old new : PlainDays) (id : ℕ) (v : DayItem) (r : Result (Unit {0}) DayBookError)
      → OnOk r (new ≡ with_items old (with_item id v old.items)) → OnOk r (restoring_refusal old id v ≡ None) → OnErr r (new ≡ old) → v.day < reach
      → lines_in reach new.items ≡ lines_in reach old.items
  tied_restored old new id v (Ok u) put taken kept low =
      ap (λ (d : PlainDays). lines_in reach d.items) put
      ∙ unkept_new reach id v old.items (unkept_early v low)
      (free_after _ _ (item_at id old.items) AmountTooLarge Duplicate (refused_if (is_too_much old.items v) SumTooLarge ∷ []) taken)
  tied_restored old new id v (Err e) put taken kept low = ap (λ (d : PlainDays). lines_in reach d.items) kept

  -- an item in reach was put into the file and restored
  pub tied_put : (old new : PlainDays) (id : ℕ) (v : DayItem) (ls : List Line) → new ≡ with_items old (with_item id v old.items)
      → restoring_refusal old id v ≡ None → is_open v.state ≡ false → reach ≤ v.day → IsStrictlySortedBy nat_cmp (keys_of old.items)
      → list_any (has_id (pos id)) ls ≡ false → in_reach reach ls ≡ lines_in reach old.items
      → in_reach reach (with_line (line_at (id, v)) ls) ≡ lines_in reach new.items
  tied_put old new id v ls put taken closed high sorted free tied =
      reach_put reach (line_at (id, v)) ls free (line_reaches reach (id, v) true (late v high)) ∙ ap (λ ms. with_line (line_at (id, v)) ms) tied
      ∙ sym (ap (λ (d : PlainDays). lines_in reach d.items) put
      ∙ kept_new reach id v old.items (kept_late v closed high)
      (free_after _ _ (item_at id old.items) AmountTooLarge Duplicate (refused_if (is_too_much old.items v) SumTooLarge ∷ []) taken) sorted)

  -- what was held was freed
  pub tied_released : (id : ℕ) (es : Items) → lines_in reach (released id es) ≡ lines_in reach es
  tied_released id es = by (item_at id es) refl
    where
      open_out : (u : DayItem) (b : Bool) → is_open u.state ≡ b → item_at id es ≡ Some u → lines_in reach (if b then without id es else es) ≡ lines_in reach es
      open_out u true is at = unkept_out reach id u es (ap (λ b. not b && nat_le reach u.day) is) at
      open_out u false is at = refl

      by : (o : Option DayItem) → item_at id es ≡ o → lines_in reach (if has_open o then without id es else es) ≡ lines_in reach es
      by None at = refl
      by (Some u) at = open_out u (is_open u.state) refl at

  -- what was held is used: out of reach, or in reach and in the file
  settled_is : (id : ℕ) (u : DayItem) (es : Items) → u.state ≡ Open → item_at id es ≡ Some u → settled id es ≡ in_its_place id (in_state Used u) es
  settled_is id u es held at =
      ap (λ o. settled_by id o es) at ∙ ap (λ s. if is_open s then in_its_place id (in_state Used u) es else es) held

  pub tied_settled : (id : ℕ) (u : DayItem) (es : Items) → u.state ≡ Open → item_at id es ≡ Some u → u.day < reach
      → lines_in reach (settled id es) ≡ lines_in reach es
  tied_settled id u es held at low =
      ap (lines_in reach) (settled_is id u es held at) ∙ unkept_set reach id u (in_state Used u) es (unkept_open u held) (unkept_early (in_state Used u) low) at

  pub tied_used : (id : ℕ) (u : DayItem) (es : Items) (ls : List Line) → u.state ≡ Open → item_at id es ≡ Some u → reach ≤ u.day
      → IsStrictlySortedBy nat_cmp (keys_of es) → list_any (has_id (pos id)) ls ≡ false → in_reach reach ls ≡ lines_in reach es
      → in_reach reach (with_line (line_at (id, in_state Used u)) ls) ≡ lines_in reach (settled id es)
  tied_used id u es ls held at high sorted free tied =
      let v = in_state Used u in
      reach_put reach (line_at (id, v)) ls free (line_reaches reach (id, v) true (late v high)) ∙ ap (λ ms. with_line (line_at (id, v)) ms) tied
      ∙ sym (ap (lines_in reach) (settled_is id u es held at) ∙ kept_set reach id u v es (unkept_open u held) (kept_late v refl high) at sorted)

  -- what was spent was given back
  pub tied_reversed : (id : ℕ) (u : DayItem) (es : Items) (ls : List Line) → u.state ≡ Used → item_at id es ≡ Some u
      → IsStrictlySortedBy nat_cmp (keys_of es) → in_reach reach ls ≡ lines_in reach es
      → in_reach reach (marked (pos id) ls) ≡ lines_in reach (reversed id es)
  tied_reversed id u es ls spent at sorted tied =
      reach_marked reach (pos id) ls ∙ ap (marked (pos id)) tied
      ∙ sym (ap (lines_in reach) (ap (λ o. reversed_by id o es) at ∙ ap (λ s. if is_used s then in_its_place id (in_state Reversed u) es else es) spent)
      ∙ marked_set reach id u es (ap is_open spent) at sorted)

  -- the first item was forgotten
  pub tied_forgotten : (es : Items) → lines_in reach (forgotten reach es) ≡ lines_in reach es
  tied_forgotten [] = refl
  tied_forgotten (e ∷ es) = by (nat_lt e.1.day reach) refl (not (is_open e.1.state))
    where
      by : (b : Bool) → nat_lt e.1.day reach ≡ b → (d : Bool) → lines_in reach (if b && d then es else e ∷ es) ≡ lines_in reach (e ∷ es)
      by true is true = past_out reach e es (unkept_early e.1 (grind (arith, nat_tests, is)))
      by true is false = refl
      by false is d = refl

-- fewer days are in reach
pub tied_advanced : (b : Bool) (f : BookState) (low high : ℕ) (es : Items) → low ≤ high → Tied b f low es → Tied b f high es
tied_advanced b f low high es h tied sound fine clean =
    reach_more low high f.tables.lines h ∙ ap (in_reach high) (tied sound fine clean) ∙ sym (lines_more low high es h)
