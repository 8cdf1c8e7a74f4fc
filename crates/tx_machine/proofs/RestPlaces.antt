-- The places of what is to come.
-- for: places::add_steps, places::add_group, places::add_frames, machine::Machine::rest
use Rattle.std.proofs.Common.{◌≡◌, ℕ, ◌+◌, ◌<◌, ◌≤◌, List, [], ◌∷◌, ◌++◌, length, map, drop, get_or, refl, sym, ap, ◌∙◌, subst, append_assoc}
use Rattle.std.specs.Option.{option_to_list}
use Rattle.std.proofs.lemmas.List.{drop_all, drop_more, map-append}
use Rattle.flow_model.specs.declared.flow.Flow.{Flow}
use Rattle.flow_asm.specs.declared.code.GroupStart.{GroupStart}
use Rattle.flow_asm.specs.declared.code.Step.{Step}
use Rattle.flow_asm.specs.declared.code.Step.TheVariants.{Call, Pick, Return}
use Rattle.flow_asm.specs.Steps.{Stage, AtCall, AtPick, AtReturn, layout, stages, starts_of, steps_of}
use Rattle.flow_asm.specs.Places.{group_at, place_at, place_of}
use Rattle.flow_asm.proofs.Stages.{call_shown, front, group_past, length-starts, length-steps, pick_shown, read_step, return_shown}
use Rattle.tx_machine.specs.declared.walk.StackFrame.{StackFrame}
use Rattle.tx_machine.specs.Table.{Upcoming, Prepare, Select}
use Rattle.tx_machine.specs.Due.{places_of}
use Rattle.tx_machine.specs.Position.{calls_of, upcoming_at, upcoming_from, rest_of, entries_in, stack_upcoming}
use Rattle.tx_machine.proofs.StepsAhead.{is_first, stack_upcoming_top}
use Rattle.flow_asm.proofs.CallSearch.{start_first}

-- the first step of a group, by the table

pub places_of-append : (xs ys : List Upcoming) → places_of (xs ++ ys) ≡ places_of xs ++ places_of ys
places_of-append [] ys = refl
places_of-append (Prepare s ∷ xs) ys = ap (λ ps. (s.group, s.index) ∷ ps) (places_of-append xs ys)
places_of-append (Select s ∷ xs) ys = places_of-append xs ys

-- a pick has no place of its own
pub places_from : (xs : List Stage) → places_of (calls_of xs) ≡ places_of (upcoming_from xs)
places_from [] = refl
places_from (AtCall s ∷ xs) = refl
places_from (AtPick s ∷ xs) = refl
places_from (AtReturn ∷ xs) = refl

-- one step further
pub call_visited : (f : Flow) (steps : List Step) (k p : ℕ) (d : Step) → steps ≡ steps_of f → k < length steps → get_or steps k d ≡ Call p →
    places_of (calls_of (drop k (stages f))) ≡ option_to_list (place_of f k) ++ places_of (calls_of (drop (k + 1) (stages f)))
call_visited f steps k p d e h is =
    let w = call_shown (stages f) k p (read_step f steps k d (Call p) e h is) in
    ap (λ xs. places_of (calls_of xs)) (front (stages f) k (AtCall w.0) w.1)
    ∙ ap (λ o. option_to_list (place_at o) ++ places_of (calls_of (drop (k + 1) (stages f)))) (sym w.1)

pub pick_visited : (f : Flow) (steps : List Step) (k p : ℕ) (d : Step) → steps ≡ steps_of f → k < length steps → get_or steps k d ≡ Pick p →
    places_of (calls_of (drop k (stages f))) ≡ places_of (calls_of (drop (k + 1) (stages f)))
pick_visited f steps k p d e h is =
    let w = pick_shown (stages f) k p (read_step f steps k d (Pick p) e h is) in
    ap (λ xs. places_of (calls_of xs)) (front (stages f) k (AtPick w.0) w.1)

pub return_visited : (f : Flow) (steps : List Step) (k : ℕ) (d : Step) → steps ≡ steps_of f → k < length steps → get_or steps k d ≡ Return →
    places_of (calls_of (drop k (stages f))) ≡ []
return_visited f steps k d e h is = ap (λ xs. places_of (calls_of xs))
    (front (stages f) k AtReturn (return_shown (stages f) k (read_step f steps k d Return e h is)))

pub past_visited : (f : Flow) (steps : List Step) (k : ℕ) → steps ≡ steps_of f → length steps ≤ k → places_of (calls_of (drop k (stages f))) ≡ []
past_visited f steps k e h = ap (λ xs. places_of (calls_of xs)) (drop_all k (stages f) (subst (λ n. n ≤ k) (ap length e ∙ length-steps f) h))

-- a group from its first step on
pub group_visited : (f : Flow) (starts : List GroupStart) (g : ℕ) (s d : GroupStart) → starts ≡ starts_of f → g < length starts → s ≡ get_or starts g d →
    upcoming_at f s.first ≡ map Prepare (group_at (layout f) g)
group_visited f starts g s d e h is =
    let w = start_first f g starts s d e h is in
    ap (upcoming_at f) w.1 ∙ (is_first f g w.0).upcoming

pub none_visited : (f : Flow) (starts : List GroupStart) (g : ℕ) → starts ≡ starts_of f → length starts ≤ g → map Prepare (group_at (layout f) g) ≡ []
none_visited f starts g e h = ap (map Prepare) (group_past (layout f) g (subst (λ n. n ≤ g) (ap length e ∙ length-starts f) h))

-- one group of several
pub groups_visited : (f : Flow) (gs : List ℕ) (i d : ℕ) → i < length gs → places_of (map Prepare (entries_in f (drop i gs)))
    ≡ places_of (map Prepare (group_at (layout f) (get_or gs i d))) ++ places_of (map Prepare (entries_in f (drop (i + 1) gs)))
groups_visited f gs i d h =
    let g : ℕ = get_or gs i d in
    ap (λ hs. places_of (map Prepare (entries_in f hs))) (drop_more gs i d h)
    ∙ ap places_of (map-append Prepare (group_at (layout f) g) (entries_in f (drop (i + 1) gs)))
    ∙ places_of-append (map Prepare (group_at (layout f) g)) (map Prepare (entries_in f (drop (i + 1) gs)))

-- the top frame, and what lies below
pub frames_visited : (f : Flow) (below : List StackFrame) (top : StackFrame) → places_of (stack_upcoming f (below ++ top ∷ []))
    ≡ places_of (map Prepare (entries_in f top.pending.items)) ++ (places_of (upcoming_at f top.back) ++ places_of (stack_upcoming f below))
frames_visited f below top =
    let entered : List Upcoming = map Prepare (entries_in f top.pending.items) in
    ap places_of (stack_upcoming_top f below top) ∙ places_of-append (entered ++ upcoming_at f top.back) (stack_upcoming f below)
    ∙ ap (λ ps. ps ++ places_of (stack_upcoming f below)) (places_of-append entered (upcoming_at f top.back)) ∙ append_assoc (places_of entered)
    (places_of (upcoming_at f top.back)) (places_of (stack_upcoming f below))

pub step_on : {X : Type 0} (old new here later before all : List X) → new ≡ old ++ here → before ≡ here ++ later → old ++ before ≡ all → new ++ later ≡ all
step_on old new here later before all n b is = ap (λ xs. xs ++ later) n ∙ append_assoc old here later ∙ ap (λ xs. old ++ xs) (sym b) ∙ is

pub places_of_rest : (f : Flow) (step : ℕ) (stack : List StackFrame) → places_of (rest_of f step stack) ≡ places_of (upcoming_at f step)
    ++ places_of (stack_upcoming f stack)
places_of_rest f step stack = places_of-append (upcoming_at f step) (stack_upcoming f stack)
