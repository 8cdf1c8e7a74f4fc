-- The stack: its top frame, and what a return does.
-- for: walk::leave, walk::enter, walk::next_due
use Rattle.std.proofs.Common.{◌≡◌, ℕ, suc, ◌+◌, ◌<◌, Bool, true, false, ◌⊎◌, ⊎_elim, List, [], ◌∷◌, ◌++◌, length, map, take, get_or, set, refl, sym, ap, ◌∙◌}
use Rattle.std.proofs.Common.{subst, arith, append_assoc, if◌then◌else◌}
use Rattle.std.specs.List.{All, remove}
use Rattle.std.proofs.lemmas.List.{take_all, take_more, take-set, set_split, drop_all, map-append}
use Rattle.std.proofs.lemmas.List.Elements.{All-set, All-take}
use Rattle.flow_model.specs.declared.flow.Flow.{Flow}
use Rattle.flow_model.specs.declared.flow.PlacedEntry.{PlacedEntry}
use Rattle.flow_asm.specs.Steps.{first_step, layout}
use Rattle.flow_asm.specs.Places.{group_at}
use Rattle.tx_machine.specs.declared.walk.StackFrame.{StackFrame}
use Rattle.tx_machine.specs.Table.{Upcoming, Prepare, Select, passed, passed_if}
use Rattle.tx_machine.specs.Position.{upcoming_at, left_at, frame_upcoming, stack_upcoming, frame_left, stack_left, groups_left, rest_of}
use Rattle.tx_machine.specs.Position.{entries_in, IsStackFrame}
use Rattle.tx_machine.specs.Position.{IsCall, IsPick}
use Rattle.tx_machine.proofs.StepsAhead.{is_first, stack_upcoming_top, stack_left_top}

-- the stack is what lies below, and the top
top_of : (xs : List StackFrame) (top : ℕ) (d : StackFrame) → length xs ≡ top + 1 → xs ≡ take top xs ++ get_or xs top d ∷ []
top_of xs top d e = sym (take_all (top + 1) xs (omega arith)) ∙ take_more xs top d (omega arith)

set_top : (xs : List StackFrame) (top : ℕ) (y : StackFrame) → length xs ≡ top + 1 → set xs top y ≡ take top xs ++ y ∷ []
set_top xs top y e = set_split xs top y (omega arith) ∙ ap (λ zs. take top xs ++ y ∷ zs) (drop_all (suc top) xs (omega arith))

-- a return leads from one stack to a step and another
pub record IsLeft (f : Flow) (step : ℕ) (new old : List StackFrame) : Type 0 where
  pub rest : rest_of f step new ≡ stack_upcoming f old
  pub left : left_at f step + stack_left f new ≡ stack_left f old

-- the top frame has no group left: the way back
goes_back : (f : Flow) (xs : List StackFrame) (top : ℕ) (d : StackFrame) → length xs ≡ top + 1 → (get_or xs top d).pending.items ≡ [] →
    IsLeft f (get_or xs top d).back (take top xs) xs
goes_back f xs top d e p =
    let t : StackFrame = get_or xs top d in
    let whole : xs ≡ take top xs ++ t ∷ [] = top_of xs top d e in
    let upcoming : stack_upcoming f xs ≡ frame_upcoming f t ++ stack_upcoming f (take top xs) =
    ap (stack_upcoming f) whole ∙ stack_upcoming_top f (take top xs) t in
    let lefts : stack_left f xs ≡ frame_left f t + stack_left f (take top xs) = ap (stack_left f) whole ∙ stack_left_top f (take top xs) t in
    let none : frame_left f t ≡ 0 + left_at f t.back = ap (λ gs. groups_left f gs + left_at f t.back) p in
    record {
      rest = sym (upcoming ∙ ap (λ gs. (map Prepare (entries_in f gs) ++ upcoming_at f t.back) ++ stack_upcoming f (take top xs)) p);
      left = omega arith;
    }

-- the top frame's next group is entered
goes_in : (f : Flow) (xs : List StackFrame) (top : ℕ) (d new : StackFrame) (g : ℕ) (gs : List ℕ) → length xs ≡ top + 1
    → (get_or xs top d).pending.items ≡ g ∷ gs →
    new.pending.items ≡ gs → new.back ≡ (get_or xs top d).back → g < length (layout f) → IsLeft f (first_step f g) (set xs top new) xs
goes_in f xs top d new g gs e p q b h =
    let t : StackFrame = get_or xs top d in
    let first = is_first f g h in
    let whole : xs ≡ take top xs ++ t ∷ [] = top_of xs top d e in
    let ss : List PlacedEntry = group_at (layout f) g in
    let es : List Upcoming = map Prepare (group_at (layout f) g) in
    let later : List Upcoming = map Prepare (entries_in f gs) in
    let below : List Upcoming = stack_upcoming f (take top xs) in
    let upcoming : stack_upcoming f xs ≡ frame_upcoming f t ++ below = ap (stack_upcoming f) whole ∙ stack_upcoming_top f (take top xs) t in
    let lefts : stack_left f xs ≡ frame_left f t + stack_left f (take top xs) = ap (stack_left f) whole ∙ stack_left_top f (take top xs) t in
    let put = set_top xs top new e in
    let new_upcoming : stack_upcoming f (set xs top new) ≡ frame_upcoming f new ++ below = ap (stack_upcoming f) put
    ∙ stack_upcoming_top f (take top xs) new in
    let new_lefts : stack_left f (set xs top new) ≡ frame_left f new + stack_left f (take top xs) =
    ap (stack_left f) put ∙ stack_left_top f (take top xs) new in
    let old_frame : frame_upcoming f t ≡ es ++ (later ++ upcoming_at f t.back) = ap (λ ps. map Prepare (entries_in f ps) ++ upcoming_at f t.back) p
    ∙ ap (λ ms. ms ++ upcoming_at f t.back) (map-append Prepare ss (entries_in f gs)) ∙ append_assoc es later (upcoming_at f t.back) in
    let new_frame : frame_upcoming f new ≡ later ++ upcoming_at f t.back = ap (λ ps. map Prepare (entries_in f ps) ++ upcoming_at f new.back) q
    ∙ ap (λ n. later ++ upcoming_at f n) b in
    let old_left : frame_left f t ≡ groups_left f (g ∷ gs) + left_at f t.back = ap (λ ps. groups_left f ps + left_at f t.back) p in
    let new_left : frame_left f new ≡ groups_left f gs + left_at f t.back = ap (λ ps. groups_left f ps + left_at f new.back) q
    ∙ ap (λ n. groups_left f gs + left_at f n) b in
    record {
      rest = ap (λ ms. ms ++ stack_upcoming f (set xs top new)) first.upcoming ∙ ap (λ ms. es ++ ms) new_upcoming ∙ ap (λ ms. es ++ (ms ++ below)) new_frame
          ∙ sym (append_assoc es (later ++ upcoming_at f t.back) below) ∙ ap (λ ms. ms ++ below) (sym old_frame) ∙ sym upcoming;
      left = omega (arith, first.left);
    }

uncons : {X : Type 0} (xs : List X) (d : X) → 0 < length xs → xs ≡ get_or xs 0 d ∷ remove xs 0
uncons [] d h = absurd (omega (arith, h))
uncons (x ∷ xs) d h = refl

-- an abort passes over a call
pub passes : (f : Flow) (k : ℕ) (s : PlacedEntry) (tail ms : List Upcoming) → IsCall f k s tail → s.kind.abort_aware ≡ false →
    passed (upcoming_at f (k + 1) ++ ms) ≡ passed (upcoming_at f k ++ ms)
passes f k s tail ms is a =
    ap (λ l. passed (l ++ ms)) is.after ∙ by s.kind.selector refl ∙ sym (ap (λ l. passed (l ++ ms)) is.upcoming)
  where
    by : (b : Bool) → s.kind.selector ≡ b → passed ((if b then Select s ∷ tail else tail) ++ ms)
        ≡ (if s.kind.abort_aware then Prepare s ∷ (tail ++ ms) else if b then Select s ∷ (tail ++ ms) else passed (tail ++ ms))
    by true e = ap (λ c. if c then Prepare s ∷ (tail ++ ms) else Select s ∷ (tail ++ ms)) (sym a)
    by false e = ap (λ c. if c then Prepare s ∷ (tail ++ ms) else passed (tail ++ ms)) (sym a)

-- and stops at one of an abort-aware participant, and at a pick
pub passed_if_call : (f : Flow) (k : ℕ) (s : PlacedEntry) (tail ms : List Upcoming) (aborting : Bool) → IsCall f k s tail →
    ((s.kind.abort_aware ≡ true) ⊎ (aborting ≡ false)) → passed_if aborting (upcoming_at f k ++ ms) ≡ upcoming_at f k ++ ms
passed_if_call f k s tail ms false is h = refl
passed_if_call f k s tail ms true is h =
    ap (λ l. passed (l ++ ms)) is.upcoming ∙ ⊎_elim (λ a. ap
    (λ c. if c then Prepare s ∷ (tail ++ ms) else (if s.kind.selector then Select s ∷ (tail ++ ms) else passed (tail ++ ms))) a)
    (λ (e : true ≡ false). absurd cc) h ∙ sym (ap (λ l. l ++ ms) is.upcoming)

pub passed_if_pick : (f : Flow) (k : ℕ) (s : PlacedEntry) (ms : List Upcoming) (aborting : Bool) → IsPick f k s →
    passed_if aborting (upcoming_at f k ++ ms) ≡ upcoming_at f k ++ ms
passed_if_pick f k s ms false is = refl
passed_if_pick f k s ms true is = ap (λ l. passed (l ++ ms)) is.upcoming ∙ sym (ap (λ l. l ++ ms) is.upcoming)

pub passed_if_nil : (aborting : Bool) → passed_if aborting [] ≡ []
passed_if_nil true = refl
passed_if_nil false = refl

pub back_at : (f : Flow) (xs ys : List StackFrame) (top : ℕ) (t : StackFrame) → length xs ≡ top + 1 → t ≡ get_or xs top t → t.pending.items ≡ [] →
    ys ≡ take top (set xs top t) → IsLeft f t.back ys xs
back_at f xs ys top t e h p q =
    let w = goes_back f xs top t e (ap (λ (x : StackFrame). x.pending.items) (sym h) ∙ p) in
    let same : take top xs ≡ ys = sym (q ∙ take-set xs top t) in
    subst (λ zs. IsLeft f t.back zs xs) same (subst (λ (x : StackFrame). IsLeft f x.back (take top xs) xs) (sym h) w)

pub in_at : (f : Flow) (xs : List StackFrame) (top : ℕ) (t new : StackFrame) (g step : ℕ) → length xs ≡ top + 1 → t ≡ get_or xs top t →
    g ≡ get_or t.pending.items 0 g → 0 < length t.pending.items → new.pending.items ≡ remove t.pending.items 0 → new.back ≡ t.back → g < length (layout f) →
    step ≡ first_step f g → IsLeft f step (set xs top new) xs
in_at f xs top t new g step e h v l q b w s =
    let cut : (get_or xs top t).pending.items ≡ g ∷ remove t.pending.items 0 = ap (λ (x : StackFrame). x.pending.items) (sym h) ∙ uncons t.pending.items g l
    ∙ ap (λ n. n ∷ remove t.pending.items 0) (sym v) in
    let way : new.back ≡ (get_or xs top t).back = b ∙ ap (λ (x : StackFrame). x.back) h in
    subst (λ n. IsLeft f n (set xs top new) xs) (sym s) (goes_in f xs top t new g (remove t.pending.items 0) e cut q way w)

pub frame_at : (f : Flow) (xs : List StackFrame) (top : ℕ) (t : StackFrame) → length xs ≡ top + 1 → t ≡ get_or xs top t → All (IsStackFrame f) xs
    → IsStackFrame f t
frame_at f xs top t e h all = subst (IsStackFrame f) (sym h) (all top t (omega arith))

pub group_within : (f : Flow) (t : StackFrame) (g : ℕ) → IsStackFrame f t → 0 < length t.pending.items → g ≡ get_or t.pending.items 0 g → g < length (layout f)
group_within f t g h l v = subst (λ n. n < length (layout f)) (sym v) (h.pending 0 g l)

pub frames_below : (f : Flow) (xs ys : List StackFrame) (top n : ℕ) (t : StackFrame) → All (IsStackFrame f) xs → IsStackFrame f t
    → ys ≡ take n (set xs top t) → All (IsStackFrame f) ys
frames_below f xs ys top n t all one e =
    subst (All (IsStackFrame f)) (sym e) (All-take (IsStackFrame f) n (set xs top t) (All-set (IsStackFrame f) xs top t one all))
