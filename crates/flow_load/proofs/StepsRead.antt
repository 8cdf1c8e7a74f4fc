-- What is read of an image's lines together is the flow whose assembly they list.
-- for: reader::load
use Rattle.std.specs.Prelude.{◌==◌, ◌&&◌, option_map}
use Rattle.std.specs.List.{flat_map}
use Rattle.std.specs.Str.{bytes_eq}
use Rattle.std.proofs.Common.{◌≡◌, ℕ, zero, suc, ◌+◌, ◌-◌, ◌<◌, ◌≤◌, max, Bool, true, false, List, [], ◌∷◌, ◌++◌, length, take, get_or, Option, Some, None}
use Rattle.std.proofs.Common.{Result, Ok, refl, sym, ap, ◌∙◌, subst, append_assoc, length-append, arith, inl, inr, nat_le, nat_lt, cond, slice_get}
use Rattle.std.proofs.lemmas.List.{append-nil, take_more, take_all, take_at, length-take-le, length_push}
use Rattle.std.proofs.lemmas.List.Concat.{flat_map-append}
use Rattle.std.proofs.lemmas.Option.{slice_get_within, get_or_from_slice_get, slice_get-get_or, same_Some, none-some}
use Rattle.std.proofs.lemmas.Bool.{cases_Bool}
use Rattle.std.proofs.lemmas.Bool.Decides.{nat_tests}
use Rattle.std.proofs.lemmas.Slice.Eq.{bytes_eq-Decides}
use Rattle.flow_model.specs.declared.flow.Flow.{Flow}
use Rattle.flow_model.specs.declared.flow.Group.{Group}
use Rattle.flow_model.specs.declared.flow.Entry.{Entry}
use Rattle.flow_model.specs.declared.numbering.Part.{Part}
use Rattle.flow_model.specs.Places.{add_new, number_in, parts_from, parts_of}
use Rattle.flow_asm.specs.declared.code.GroupStart.{GroupStart}
use Rattle.flow_asm.specs.declared.code.Step.{Step}
use Rattle.flow_asm.specs.declared.code.Step.TheVariants.{Call, Pick, Return}
use Rattle.flow_asm.specs.Emit.{all_steps, entry_steps, group_steps}
use Rattle.flow_asm.specs.Listing.{entry_of}
use Rattle.flow_asm.specs.Steps.{first_step, starts_from, starts_of, steps_of}
use Rattle.flow_model.proofs.Parts.{parts_from-append}
use Rattle.flow_asm.proofs.AssemblyListing.{first_is, map_groups}
use Rattle.flow_load.specs.declared.error.LoadError.{LoadError}
use Rattle.flow_load.specs.declared.error.LoadError.TheVariants.{BadTarget}
use Rattle.flow_load.specs.declared.lines.Lines.{Lines}
use Rattle.flow_load.specs.declared.groups.StepRole.{StepRole}
use Rattle.flow_load.specs.declared.groups.StepRole.TheVariants.{Calls, Picks}
use Rattle.flow_load.specs.Reads.{◌>>=◌}
use Rattle.sw_base.specs.Refusals.{refused}
use Rattle.flow_load.specs.Groups.{double_from, double_fault, wanted, Walk, with_entries, Walks, with_groups, role_of, after, walk, walks, end_fault}
use Rattle.flow_load.specs.Groups.{steps_line, flow_in}
use Rattle.flow_load.proofs.Doubles.{number_take}
use Rattle.flow_load.proofs.LineSpelling.{if_ok, same_value, with_bind}

-- no name occurs twice
abbrev pub IsNumbered : List Part → Type 0
IsNumbered parts = (p : ℕ) (x : Part) → slice_get parts p ≡ Some x → number_in parts x.name ≡ p

no_double : (b : Bool) (n : ℕ) (o : Option ℕ) → cond b (Some n) o ≡ None → (b ≡ false) × (o ≡ None)
no_double true n o h = absurd (cc)
no_double false n o h = (refl, h)

distinct_from : (parts : List Part) (n : ℕ) (ps : List Part) → double_from parts n ps ≡ None → (i : ℕ) (x : Part) → slice_get ps i ≡ Some x →
    n + i ≤ number_in parts x.name
distinct_from parts n [] h i x is = absurd (none-some x is)
distinct_from parts n (p ∷ ps) h zero x is =
    let at_p : nat_lt (number_in parts p.name) n ≡ false = (no_double (nat_lt (number_in parts p.name) n) n (double_from parts (n + 1) ps) h).0 in
    let low : n + 0 ≤ number_in parts p.name = grind (arith, nat_tests) in
    subst (λ (q : Part). n + 0 ≤ number_in parts q.name) (same_Some p x is) low
distinct_from parts n (p ∷ ps) h (suc i) x is =
    let later = distinct_from parts (n + 1) ps (no_double (nat_lt (number_in parts p.name) n) n (double_from parts (n + 1) ps) h).1 i x is in
    omega (arith, later)

at_most : (parts : List Part) (i : ℕ) (x : Part) → slice_get parts i ≡ Some x → number_in parts x.name ≤ i
at_most [] i x is = absurd (none-some x is)
at_most (p ∷ ps) zero x is =
    let same : bytes_eq p.name x.name ≡ true = (bytes_eq-Decides p.name x.name).1 (ap (λ (q : Part). q.name) (same_Some p x is)) in
    rw same (omega arith)
at_most (p ∷ ps) (suc i) x is =
    elim (cases_Bool (bytes_eq p.name x.name)) [
      | inl here ↦ rw here (omega arith)
      | inr on ↦ rw on (omega (arith, at_most ps i x is))
    ]

pub distinct : (parts : List Part) → double_from parts 0 parts ≡ None → IsNumbered parts
distinct parts h p x is =
    let low = distinct_from parts 0 parts h p x is in
    let high = at_most parts p x is in
    omega (arith, low, high)

-- the pick that is due
abbrev pub owed_steps : Option ℕ → List Step
owed_steps None = []
owed_steps (Some q) = Pick q ∷ []

-- what a walk from here says of the steps
pub record Reads (parts : List Part) (select_due : Option ℕ) (at seen : ℕ) (xs : List Step) (w : Walk) : Type 0 where
  pub steps : xs ≡ owed_steps select_due ++ (flat_map (entry_steps parts) w.entries ++ Return ∷ w.rest)
  pub numbers : parts_from (take seen parts) w.entries ≡ take w.seen parts
  pub place : w.at + length w.rest ≡ at + length xs
  pub below : w.seen ≤ length parts

abbrev pub entry_at : Part → Entry
entry_at x = record { participant = x.name; kind = x.kind }

steps_called : (parts : List Part) (x : Part) (p : ℕ) (es : List Entry) (more : List Step) → number_in parts x.name ≡ p
    → Call p ∷ (owed_steps (wanted p (Some x)) ++ (flat_map (entry_steps parts) es ++ more)) ≡ flat_map (entry_steps parts) (entry_at x ∷ es) ++ more
steps_called parts x p es more n =
    elim (cases_Bool x.kind.selector) [
      | inl picks ↦ rw (picks, n) refl
      | inr plain ↦ rw (plain, n) refl
    ]

-- the parts seen, with one more
add_met : (parts : List Part) (x : Part) (p seen : ℕ) → slice_get parts p ≡ Some x → number_in parts x.name ≡ p → p ≤ seen → seen ≤ length parts
    → add_new (take seen parts) (entry_at x) ≡ take (max seen (p + 1)) parts
add_met parts x p seen is n le within =
    let inside : p < length parts = slice_get_within parts p x is in
    let len : length (take seen parts) ≡ seen = length-take-le seen parts within in
    let at : number_in (take seen parts) x.name ≡ p = omega (arith, number_take parts x.name seen, n) in
    elim (cases_Bool (nat_lt p seen)) [
      | inl old ↦
          let same : max seen (p + 1) ≡ seen = grind (arith, nat_tests) in
          rw (at, len, old, same) refl
      | inr new ↦
          let e : seen ≡ p = grind (arith, nat_tests) in
          let same : max seen (p + 1) ≡ p + 1 = omega arith in
          let get : get_or parts p x ≡ x = get_or_from_slice_get parts p x x is in
          rw (at, len, new, same, take_more parts p x inside, get, e) refl
    ]

abbrev nobody : Part
nobody = record { name = []; kind = record { selector = false; abort_aware = false; recovers = false } }

-- what a call reads
record ReadsCall (parts : List Part) (p seen : ℕ) (goes_on : Option ℕ → ℕ → Result Walk LoadError) (w : Walk) : Type 0 where
  part : Part
  is : slice_get parts p ≡ Some part
  known : p ≤ seen
  rest : Walk
  read : goes_on (wanted p (Some part)) (max seen (p + 1)) ≡ Ok rest
  all : with_entries (entry_at part ∷ []) rest ≡ w

call_ok : (parts : List Part) (here p at seen : ℕ) (xs : List Step) (f : Option ℕ → ℕ → Result Walk LoadError) (w : Walk) →
    (role_of parts here None seen (Call p) >>= λ t. after parts f at seen xs t) ≡ Ok w → ReadsCall parts p seen f w
call_ok parts here p at seen xs f w h =
    with_bind _ (role_of parts here None seen (Call p)) (λ t. after parts f at seen xs t) w (λ t is more.
    let last = if_ok (nat_lt p (length parts) && nat_le p seen) (Ok (Calls p)) (BadTarget here) t is in
    let inside : p < length parts = grind (arith, nat_tests) in
    let low : p ≤ seen = grind (arith, nat_tests) in
    let found : slice_get parts p ≡ Some (get_or parts p nobody) = slice_get-get_or parts p nobody inside in
    let went : after parts f at seen xs (Calls p) ≡ Ok w = subst (λ (v : StepRole). after parts f at seen xs v ≡ Ok w) (sym (same_value (Calls p) t last.1))
    more in
    with_bind _ (f (wanted p (slice_get parts p)) (max seen (p + 1))) (λ v. Ok (with_entries (entry_of (slice_get parts p)) v)) w (λ v read done.
    record {
      part = get_or parts p nobody;
      is = found;
      known = low;
      rest = v;
      read = sym (ap (λ o. f (wanted p o) (max seen (p + 1))) found) ∙ read;
      all = sym (ap (λ o. with_entries (entry_of o) v) found) ∙ same_value (with_entries (entry_of (slice_get parts p)) v) w done;
    }) went) h

pub walk_ok : (parts : List Part) (line g : ℕ) → IsNumbered parts → (select_due : Option ℕ) (at seen : ℕ) (xs : List Step) (w : Walk) →
    seen ≤ length parts → walk parts line g select_due at seen xs ≡ Ok w → Reads parts select_due at seen xs w
walk_ok parts line g numbered None at seen [] w le h = absurd (cc)
walk_ok parts line g numbered None at seen (Return ∷ xs) w le h =
    let e : record { entries = []; at = at + 1; seen = seen; rest = xs } ≡ w = same_value (record { entries = []; at = at + 1; seen = seen; rest = xs }) w h in
    subst (Reads parts None at seen (Return ∷ xs)) e (record { steps = refl; numbers = refl; place = omega arith; below = le })
walk_ok parts line g numbered None at seen (Pick p ∷ xs) w le h = absurd (cc)
walk_ok parts line g numbered None at seen (Call p ∷ xs) w le h =
    let c = call_ok parts (line + at) p at seen xs (λ o m. walk parts line g o (at + 1) m xs) w h in
    let inside : p < length parts = slice_get_within parts p c.part c.is in
    let ih = walk_ok parts line g numbered (wanted p (Some c.part)) (at + 1) (max seen (p + 1)) xs c.rest (omega arith) c.read in
    subst (Reads parts None at seen (Call p ∷ xs)) c.all (record {
      steps = ap (λ ys. Call p ∷ ys) ih.steps ∙ steps_called parts c.part p c.rest.entries (Return ∷ c.rest.rest) (numbered p c.part c.is);
      numbers = ap (λ ps. parts_from ps c.rest.entries) (add_met parts c.part p seen c.is (numbered p c.part c.is) c.known le) ∙ ih.numbers;
      place = omega (arith, ih.place);
      below = ih.below;
    })
walk_ok parts line g numbered (Some q) at seen [] w le h = absurd (cc)
walk_ok parts line g numbered (Some q) at seen (Return ∷ xs) w le h = absurd (cc)
walk_ok parts line g numbered (Some q) at seen (Call p ∷ xs) w le h = absurd (cc)
walk_ok parts line g numbered (Some q) at seen (Pick p ∷ xs) w le h =
    with_bind _ (role_of parts (line + at) (Some q) seen (Pick p)) (λ t. after parts (λ o m. walk parts line g o (at + 1) m xs) at seen xs t) w (λ t is more.
    let last = if_ok (p == q) (Ok Picks) (BadTarget (line + at - 1)) t is in
    let same : p ≡ q = grind (arith, nat_tests) in
    let went : walk parts line g None (at + 1) seen xs ≡ Ok w =
    subst (λ (v : StepRole). after parts (λ o m. walk parts line g o (at + 1) m xs) at seen xs v ≡ Ok w) (sym (same_value Picks t last.1)) more in
    let ih = walk_ok parts line g numbered None (at + 1) seen xs w le went in
    record {
      steps = ap (λ ys. Pick p ∷ ys) ih.steps ∙ ap (λ n. Pick n ∷ (flat_map (entry_steps parts) w.entries ++ Return ∷ w.rest)) same;
      numbers =
          ih.numbers;
      place = omega (arith, ih.place);
      below = ih.below;
    }) h

-- groups whose steps stand one after the other, from step `at` on
abbrev pub starts_at : List Part → ℕ → List Group → List GroupStart
starts_at parts at [] = []
starts_at parts at (x ∷ xs) = record { name = x.name; first = at } ∷ starts_at parts (at + length (group_steps parts x)) xs

pub starts_are : (f : Flow) (before gs : List Group) (g at : ℕ) → f.groups ≡ before ++ gs → length before ≡ g →
    length (all_steps (parts_of f) before) ≡ at → starts_at (parts_of f) at gs ≡ starts_from f g gs
starts_are f before [] g at is l n = refl
starts_are f before (x ∷ gs) g at is l n =
    let parts : List Part = parts_of f in
    let first : at ≡ first_step f g = sym n ∙ sym (first_is f g ∙ ap (λ ys. length (all_steps parts (take g ys))) is
    ∙ ap (λ ys. length (all_steps parts ys)) (take_at before (x ∷ gs) g l)) in
    let longer : length (all_steps parts (before ++ x ∷ [])) ≡ at + length (group_steps parts x) =
    ap length (flat_map-append (group_steps parts) before (x ∷ []) ∙ ap (λ zs. all_steps parts before ++ zs) (append-nil (group_steps parts x)))
    ∙ length-append (all_steps parts before) (group_steps parts x) ∙ ap (λ m. m + length (group_steps parts x)) n in
    let rest = starts_are f (before ++ x ∷ []) gs (g + 1) (at + length (group_steps parts x)) (is ∙ sym (append_assoc before (x ∷ []) gs))
    (length_push before x ∙ ap (λ m. m + 1) l) longer in
    ap (λ m. record { name = x.name; first = m } ∷ starts_at parts (at + length (group_steps parts x)) gs) first
    ∙ ap (λ ss. record { name = x.name; first = first_step f g } ∷ ss) rest

abbrev pub entries_in : List Group → List Entry
entries_in gs = flat_map (λ (g : Group). g.entries) gs

-- the same of groups
pub record ReadsAll (parts : List Part) (at seen : ℕ) (xs : List Step) (ss : List GroupStart) (w : Walks) : Type 0 where
  pub steps : xs ≡ all_steps parts w.groups ++ w.rest
  pub starts : ss ≡ starts_at parts at w.groups
  pub numbers : parts_from (take seen parts) (entries_in w.groups) ≡ take w.seen parts
  pub below : w.seen ≤ length parts

start_is : (s : GroupStart) (at : ℕ) → (s.first == at) ≡ true → s ≡ record { name = s.name; first = at }
start_is s at t =
    let e : s.first ≡ at = grind (arith, nat_tests) in
    ap (λ n. record { name = s.name; first = n }) e

group_read : (parts : List Part) (at seen : ℕ) (xs : List Step) (s : GroupStart) (ss : List GroupStart) (v : Walk) (more w : Walks) →
    (s.first == at) ≡ true → Reads parts None at seen xs v → ReadsAll parts v.at v.seen v.rest ss more →
    with_groups (record { name = s.name; entries = v.entries } ∷ []) more ≡ w → ReadsAll parts at seen xs (s ∷ ss) w
group_read parts at seen xs s ss v more w t one others e =
    let x : Group = record { name = s.name; entries = v.entries } in
    let whole : xs ≡ group_steps parts x ++ v.rest = one.steps ∙ sym (append_assoc (flat_map (entry_steps parts) v.entries) (Return ∷ []) v.rest) in
    let long : v.at ≡ at + length (group_steps parts x) = omega (arith, one.place, ap length whole, length-append (group_steps parts x) v.rest) in
    subst (ReadsAll parts at seen xs (s ∷ ss)) e (record {
      steps = whole ∙ ap (λ ys. group_steps parts x ++ ys) others.steps ∙ sym (append_assoc (group_steps parts x) (all_steps parts more.groups) more.rest);
      starts = ap (λ y. y ∷ ss) (start_is s at t) ∙ ap (λ ys. record { name = s.name; first = at } ∷ ys)
          (others.starts ∙ ap (λ n. starts_at parts n more.groups) long);
      numbers = parts_from-append (take seen parts) v.entries (entries_in more.groups) ∙ ap (λ ps. parts_from ps (entries_in more.groups)) one.numbers
          ∙ others.numbers;
      below = others.below;
    })

pub walks_ok : (parts : List Part) (line : ℕ) → IsNumbered parts → (g at seen : ℕ) (xs : List Step) (ss : List GroupStart) (w : Walks) →
    seen ≤ length parts → walks parts line g at seen xs ss ≡ Ok w → ReadsAll parts at seen xs ss w
walks_ok parts line numbered g at seen xs [] w le h =
    subst (ReadsAll parts at seen xs []) (same_value (record { groups = []; at = at; seen = seen; rest = xs }) w h)
    (record { steps = refl; starts = refl; numbers = refl; below = le })
walks_ok parts line numbered g at seen xs (s ∷ ss) w le h =
    let last = if_ok (s.first == at) _ (BadTarget (2 + length parts + g)) w h in
    with_bind _ (walk parts line g None at seen xs) _ w (λ v is more.
    let one = walk_ok parts line g numbered None at seen xs v le is in
    with_bind _ (walks parts line (g + 1) v.at v.seen v.rest ss) _ w (λ others is2 done.
    group_read parts at seen xs s ss v others w last.0 one (walks_ok parts line numbered (g + 1) v.at v.seen v.rest ss others one.below is2)
    (same_value (with_groups (record { name = s.name; entries = v.entries } ∷ []) others) w done)) more) last.1

-- the lines are those of this flow
pub record IsLaidOut (l : Lines) (f : Flow) : Type 0 where
  pub retries : l.retries ≡ f.retries
  pub parts : l.parts ≡ parts_of f
  pub starts : l.starts ≡ starts_of f
  pub steps : l.steps ≡ steps_of f

pub none_refused : (o : Option LoadError) (u : Unit {0}) → refused o ≡ Ok u → o ≡ None
none_refused None u h = refl
none_refused (Some e) u h = absurd (cc)

no_fault : (o : Option ℕ) → option_map (λ n. BadTarget (2 + n)) o ≡ None → o ≡ None
no_fault None h = refl
no_fault (Some n) h = absurd (cc)

-- nothing is left, and all participants were seen
record IsWhole (parts : List Part) (w : Walks) : Type 0 where
  rest : w.rest ≡ []
  seen : length parts ≤ w.seen

none_left : (xs : List Step) → nat_le 1 (length xs) ≡ false → xs ≡ []
none_left [] h = refl
none_left (x ∷ xs) h = absurd (grind (arith, nat_tests))

whole_of : (parts : List Part) (line : ℕ) (w : Walks) → end_fault parts line w ≡ None → IsWhole parts w
whole_of parts line w h =
    elim (cases_Bool (nat_le 1 (length w.rest))) [
      | inl some ↦
          let bad : Some (BadTarget (line + w.at)) ≡ None = rw some at h in
          absurd (cc)
      | inr none ↦
          let later : cond (nat_lt w.seen (length parts)) (Some (BadTarget (2 + w.seen))) None ≡ None = rw none at h in
          record { rest = none_left w.rest none; seen = all_met (nat_lt w.seen (length parts)) refl later }
    ]
  where
    all_met : (b : Bool) → nat_lt w.seen (length parts) ≡ b → cond b (Some (BadTarget (2 + w.seen))) None ≡ None → length parts ≤ w.seen
    all_met true e bad = absurd (cc)
    all_met false e good = grind (arith, nat_tests)

laid_out : (l : Lines) (w : Walks) → ReadsAll l.parts 0 0 l.steps l.starts w → IsWhole l.parts w →
    IsLaidOut l (record { retries = l.retries; groups = w.groups })
laid_out l w r e =
    let f : Flow = record { retries = l.retries; groups = w.groups } in
    let all : parts_of f ≡ l.parts = r.numbers ∙ take_all w.seen l.parts e.seen in
    let steps : l.steps ≡ all_steps (parts_of f) f.groups = r.steps ∙ ap (λ ys. all_steps l.parts w.groups ++ ys) e.rest
    ∙ append-nil (all_steps l.parts w.groups) ∙ ap (λ ps. all_steps ps w.groups) (sym all) in
    record {
      retries = refl;
      parts = sym all;
      starts = r.starts ∙ ap (λ ps. starts_at ps 0 w.groups) (sym all) ∙ starts_are f [] w.groups 0 0 refl refl refl;
      steps = steps ∙ sym (map_groups (parts_of f) 0 f.groups);
    }

-- the flow that is read of lines is one that they lay out
pub flow_ok : (l : Lines) (f : Flow) → flow_in l ≡ Ok f → IsLaidOut l f
unfolding flow_in
flow_ok l f h =
    with_bind _ (refused (double_fault l.parts)) _ f (λ u is more.
    with_bind _ (walks l.parts (steps_line l) 0 0 0 l.steps l.starts) _ f (λ w is2 more2.
    with_bind _ (refused (end_fault l.parts (steps_line l) w)) _ f (λ v is3 last.
    let numbered = distinct l.parts (no_fault (double_from l.parts 0 l.parts) (none_refused (double_fault l.parts) u is)) in
    let read = walks_ok l.parts (steps_line l) numbered 0 0 0 l.steps l.starts w (omega arith) is2 in
    subst (IsLaidOut l) (same_value (record { retries = l.retries; groups = w.groups }) f last)
    (laid_out l w read (whole_of l.parts (steps_line l) w (none_refused (end_fault l.parts (steps_line l) w) v is3)))) more2) more) h
