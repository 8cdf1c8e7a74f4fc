-- The lines that a flow lays out are read together as that flow.
-- for: reader::load
use Rattle.std.specs.Prelude.{option_map}
use Rattle.std.specs.List.{flat_map}
use Rattle.std.specs.Str.{bytes_eq}
use Rattle.std.proofs.Common.{◌≡◌, ℕ, suc, ◌+◌, ◌<◌, ◌≤◌, max, Bool, true, false, List, [], ◌∷◌, ◌++◌, length, get_or, Some, None}
use Rattle.std.proofs.Common.{if◌then◌else◌, Ok, refl, sym}
use Rattle.std.proofs.Common.{ap, ◌∙◌, subst, append_assoc, length-append, arith, inl, inr, nat_le, nat_lt, slice_get, eq-eqb}
use Rattle.std.proofs.lemmas.List.{append-nil, get_or_append_left, get_or_at, length_push}
use Rattle.std.proofs.lemmas.Option.{slice_get_within, get_or_from_slice_get, slice_get-get_or, none-some}
use Rattle.std.proofs.lemmas.Bool.{cases_Bool, cases_lt}
use Rattle.std.proofs.lemmas.Bool.Decides.{nat_tests}
use Rattle.std.proofs.lemmas.Slice.Eq.{bytes_eq-Decides}
use Rattle.flow_model.specs.declared.flow.Flow.{Flow}
use Rattle.flow_model.specs.declared.flow.Group.{Group}
use Rattle.flow_model.specs.declared.flow.Entry.{Entry}
use Rattle.flow_model.specs.declared.numbering.Part.{Part}
use Rattle.flow_model.specs.Check.{IsChecked}
use Rattle.flow_model.specs.Places.{add_new, all_entries, number_in, parts_from, parts_of}
use Rattle.flow_asm.specs.declared.code.GroupStart.{GroupStart}
use Rattle.flow_asm.specs.declared.code.Step.{Step}
use Rattle.flow_asm.specs.declared.code.Step.TheVariants.{Call, Pick, Return}
use Rattle.flow_asm.specs.Emit.{all_steps, entry_steps, group_steps}
use Rattle.flow_model.proofs.CheckedKinds.{In, in_left, in_right, one_kind}
use Rattle.flow_model.proofs.Parts.{parts_from-append}
use Rattle.flow_model.proofs.Numbers.{number_kept, numbered}
use Rattle.flow_asm.proofs.AssemblyListing.{map_groups}
use Rattle.flow_load.specs.declared.error.LoadError.TheVariants.{BadTarget}
use Rattle.flow_load.specs.Image.{lines_of}
use Rattle.flow_load.specs.Reads.{◌>>=◌}
use Rattle.flow_load.specs.Groups.{double_from, double_fault, wanted, Walk, with_entries, Walks, with_groups, walk, walks, end_fault, steps_line, flow_in}
use Rattle.flow_load.proofs.StepsRead.{IsNumbered, entries_in, starts_at, starts_are, entry_at}

-- numbers of participants, with more of them

pub number_within : (parts : List Part) (name : List ℕ) → number_in parts name ≤ length parts
number_within [] name = omega arith
number_within (p ∷ ps) name =
    elim (cases_Bool (bytes_eq p.name name)) [
      | inl here ↦ rw here (omega arith)
      | inr on ↦ rw on (omega (arith, number_within ps name))
    ]

number_push : (ps : List Part) (q : Part) → number_in ps q.name ≡ length ps → number_in (ps ++ q ∷ []) q.name ≡ length ps
number_push [] q h = rw ((bytes_eq-Decides q.name q.name).1 refl) refl
number_push (p ∷ ps) q h =
    elim (cases_Bool (bytes_eq p.name q.name)) [
      | inl here ↦
          let bad : 0 ≡ suc (length ps) = rw here at h in
          absurd (omega (arith, bad))
      | inr on ↦
          let later : number_in ps q.name + 1 ≡ suc (length ps) = rw on at h in
          let ih = number_push ps q (omega (arith, later)) in
          rw on (omega (arith, ih))
    ]

-- an entry's participant is known, or new
pub record IsKnown (ps : List Part) (e : Entry) : Type 0 where
  pub is : add_new ps e ≡ ps
  pub low : number_in ps e.participant < length ps

pub record IsNew (ps : List Part) (e : Entry) : Type 0 where
  pub is : add_new ps e ≡ ps ++ record { name = e.participant; kind = e.kind } ∷ []
  pub last : number_in ps e.participant ≡ length ps

pub by_entry : (ps : List Part) (e : Entry) (P : Type 0) → (IsKnown ps e → P) → (IsNew ps e → P) → P
by_entry ps e P old new =
    elim (cases_Bool (nat_lt (number_in ps e.participant) (length ps))) [
      | inl t ↦ old (record { is = rw t refl; low = grind (arith, nat_tests) })
      | inr t ↦
          let high : length ps ≤ number_in ps e.participant = grind (arith, nat_tests) in
          new (record { is = rw t refl; last = omega (arith, number_within ps e.participant, high) })
    ]

record Grows (old new : List Part) : Type 0 where
  more : List Part
  is : new ≡ old ++ more

grows : (ps : List Part) (es : List Entry) → Grows ps (parts_from ps es)
grows ps [] = record { more = []; is = sym (append-nil ps) }
grows ps (e ∷ es) =
    let g = grows (add_new ps e) es in
    by_entry ps e (Grows ps (parts_from (add_new ps e) es))
    (λ k. record { more = g.more; is = g.is ∙ ap (λ qs. qs ++ g.more) k.is })
    (λ n. record {
      more = record { name = e.participant; kind = e.kind } ∷ g.more;
      is =
          g.is ∙ ap (λ qs. qs ++ g.more) n.is ∙ append_assoc ps (record { name = e.participant; kind = e.kind } ∷ []) g.more;
    })

-- the number of an entry's participant, where the participants ps were seen before it
record IsNext (parts ps : List Part) (e : Entry) : Type 0 where
  low : number_in parts e.participant ≤ length ps
  seen : max (length ps) (number_in parts e.participant + 1) ≡ length (add_new ps e)

next_is : (parts ps : List Part) (e : Entry) (es : List Entry) → parts ≡ parts_from (add_new ps e) es → IsNext parts ps e
next_is parts ps e es is =
    let g = grows (add_new ps e) es in
    let whole : parts ≡ add_new ps e ++ g.more = is ∙ g.is in
    by_entry ps e (IsNext parts ps e)
    (λ k.
    let here : number_in parts e.participant ≡ number_in ps e.participant = ap (λ qs. number_in qs e.participant) (whole ∙ ap (λ qs. qs ++ g.more) k.is)
    ∙ number_kept ps g.more e.participant k.low in
    let len : length (add_new ps e) ≡ length ps = ap length k.is in
    record { low = omega (arith, here, k.low); seen = omega (arith, here, k.low, len) })
    (λ n.
    let q : Part = record { name = e.participant; kind = e.kind } in
    let pushed : number_in (ps ++ q ∷ []) e.participant ≡ length ps = number_push ps q n.last in
    let len : length (ps ++ q ∷ []) ≡ length ps + 1 = length_push ps q in
    let kept : number_in ((ps ++ q ∷ []) ++ g.more) e.participant ≡ number_in (ps ++ q ∷ []) e.participant =
    number_kept (ps ++ q ∷ []) g.more e.participant (omega (arith, pushed, len)) in
    let here : number_in parts e.participant ≡ length ps = ap (λ qs. number_in qs e.participant) (whole ∙ ap (λ qs. qs ++ g.more) n.is) ∙ kept ∙ pushed in
    let grown : length (add_new ps e) ≡ length ps + 1 = ap length n.is ∙ len in
    record { low = omega (arith, here); seen = omega (arith, here, grown) })

-- an entry's number leads to its participant
abbrev pub Fits : List Part → Entry → Type 0
Fits parts e = slice_get parts (number_in parts e.participant) ≡ Some (record { name = e.participant; kind = e.kind })

call_step : (parts : List Part) (line g at seen p : ℕ) (x : Part) (xs : List Step) → slice_get parts p ≡ Some x → p ≤ seen
    → walk parts line g None at seen (Call p ∷ xs) ≡ (walk parts line g (wanted p (Some x)) (at + 1) (max seen (p + 1)) xs >>= λ w. Ok
    (with_entries (entry_at x ∷ []) w))
call_step parts line g at seen p x xs is low =
    let inside : p < length parts = slice_get_within parts p x is in
    let below : nat_lt p (length parts) ≡ true = grind (arith, nat_tests) in
    let known : nat_le p seen ≡ true = grind (arith, nat_tests) in
    rw (below, known, is) refl

pick_step : (parts : List Part) (line g at seen p : ℕ) (xs : List Step) → walk parts line g (Some p) at seen (Pick p ∷ xs) ≡ walk parts line g None (at + 1)
    seen xs
pick_step parts line g at seen p xs = rw (eq-eqb p p refl) refl

pub walk_again : (parts : List Part) (line g : ℕ) (ps : List Part) (es later : List Entry) (at n : ℕ) (more : List Step) →
    ((e : Entry) → In es e → Fits parts e) → parts ≡ parts_from ps (es ++ later) → n ≡ at + length (flat_map (entry_steps parts) es) + 1
    → walk parts line g None at (length ps) (flat_map (entry_steps parts) es ++ Return ∷ more)
    ≡ Ok (record { entries = es; at = n; seen = length (parts_from ps es); rest = more })
walk_again parts line g ps [] later at n more fit is e =
    let next : at + 1 ≡ n = omega (arith, e) in
    ap (λ m. Ok (record { entries = []; at = m; seen = length ps; rest = more })) next
walk_again parts line g ps (x ∷ es) later at n more fit is e =
    by x.kind.selector refl (λ m h. walk_again parts line g (add_new ps x) es later m n more (λ y i. fit y (inr i)) is h)
  where
    p : ℕ
    p = number_in parts x.participant

    part : Part
    part = record { name = x.participant; kind = x.kind }

    tail : List Step
    tail = flat_map (entry_steps parts) es ++ Return ∷ more

    order : IsNext parts ps x
    order = next_is parts ps x (es ++ later) is

    called : (xs : List Step) → walk parts line g None at (length ps) (Call (number_in parts x.participant) ∷ xs)
        ≡ (walk parts line g (if x.kind.selector then Some (number_in parts x.participant) else None) (at + 1) (length (add_new ps x)) xs >>= λ w. Ok
        (with_entries (x ∷ []) w))
    called xs =
        call_step parts line g at (length ps) (number_in parts x.participant) (record { name = x.participant; kind = x.kind }) xs (fit x (inl refl)) order.low
        ∙ ap (λ m. walk parts line g (if x.kind.selector then Some (number_in parts x.participant) else None) (at + 1) m xs >>= λ w. Ok
        (with_entries (x ∷ []) w)) order.seen

    Rest : Type 0
    Rest = (m : ℕ) → n ≡ m + length (flat_map (entry_steps parts) es) + 1 →
        walk parts line g None m (length (add_new ps x)) (flat_map (entry_steps parts) es ++ Return ∷ more)
        ≡ Ok (record { entries = es; at = n; seen = length (parts_from (add_new ps x) es); rest = more })

    by : (b : Bool) → x.kind.selector ≡ b → Rest → walk parts line g None at (length ps) (flat_map (entry_steps parts) (x ∷ es) ++ Return ∷ more)
        ≡ Ok (record { entries = x ∷ es; at = n; seen = length (parts_from (add_new ps x) es); rest = more })
    by true picks go =
        let listed : flat_map (entry_steps parts) (x ∷ es) ++ Return ∷ more ≡ Call p ∷ Pick p ∷ tail =
        ap (λ b. ((if b then Call p ∷ Pick p ∷ [] else Call p ∷ []) ++ flat_map (entry_steps parts) es) ++ Return ∷ more) picks in
        let long : length (flat_map (entry_steps parts) (x ∷ es)) ≡ 2 + length (flat_map (entry_steps parts) es) =
        ap (λ b. length ((if b then Call p ∷ Pick p ∷ [] else Call p ∷ []) ++ flat_map (entry_steps parts) es)) picks
        ∙ (let two : suc (suc (length (flat_map (entry_steps parts) es))) ≡ 2 + length (flat_map (entry_steps parts) es) = omega arith in two) in
        let ih = go (at + 1 + 1) (omega (arith, e, long)) in
        let select_due : walk parts line g (if x.kind.selector then Some p else None) (at + 1) (length (add_new ps x)) (Pick p ∷ tail)
        ≡ walk parts line g (Some p) (at + 1) (length (add_new ps x)) (Pick p ∷ tail) =
        ap (λ b. walk parts line g (if b then Some p else None) (at + 1) (length (add_new ps x)) (Pick p ∷ tail)) picks in
        ap (walk parts line g None at (length ps)) listed ∙ called (Pick p ∷ tail) ∙ ap (λ r. r >>= λ w. Ok (with_entries (x ∷ []) w))
        (select_due ∙ pick_step parts line g (at + 1) (length (add_new ps x)) p tail ∙ ih)
    by false plain go =
        let listed : flat_map (entry_steps parts) (x ∷ es) ++ Return ∷ more ≡ Call p ∷ tail =
        ap (λ b. ((if b then Call p ∷ Pick p ∷ [] else Call p ∷ []) ++ flat_map (entry_steps parts) es) ++ Return ∷ more) plain in
        let long : length (flat_map (entry_steps parts) (x ∷ es)) ≡ 1 + length (flat_map (entry_steps parts) es) =
        ap (λ b. length ((if b then Call p ∷ Pick p ∷ [] else Call p ∷ []) ++ flat_map (entry_steps parts) es)) plain
        ∙ (let one : suc (length (flat_map (entry_steps parts) es)) ≡ 1 + length (flat_map (entry_steps parts) es) = omega arith in one) in
        let ih = go (at + 1) (omega (arith, e, long)) in
        let select_due : walk parts line g (if x.kind.selector then Some p else None) (at + 1) (length (add_new ps x)) tail ≡ walk parts line g None
        (at + 1) (length (add_new ps x)) tail = ap (λ b. walk parts line g (if b then Some p else None) (at + 1) (length (add_new ps x)) tail) plain in
        ap (walk parts line g None at (length ps)) listed ∙ called tail ∙ ap (λ r. r >>= λ w. Ok (with_entries (x ∷ []) w)) (select_due ∙ ih)

start_step : (parts : List Part) (line g at seen : ℕ) (xs : List Step) (x : Group) (ss : List GroupStart) (v : Walk) (more : Walks) →
    walk parts line g None at seen xs ≡ Ok v → v.entries ≡ x.entries → walks parts line (g + 1) v.at v.seen v.rest ss ≡ Ok more
    → walks parts line g at seen xs (record { name = x.name; first = at } ∷ ss) ≡ Ok (with_groups (x ∷ []) more)
start_step parts line g at seen xs x ss v more is same others =
    rw (eq-eqb at at refl, is, others) (ap (λ es. Ok (with_groups (record { name = x.name; entries = es } ∷ []) more)) same)

pub walks_again : (parts : List Part) (line g : ℕ) (ps : List Part) (gs : List Group) (at n : ℕ) → ((e : Entry) → In (entries_in gs) e → Fits parts e) →
    parts ≡ parts_from ps (entries_in gs) → n ≡ at + length (all_steps parts gs)
    → walks parts line g at (length ps) (all_steps parts gs) (starts_at parts at gs) ≡ Ok (record { groups = gs; at = n; seen = length parts; rest = [] })
walks_again parts line g ps [] at n fit is e =
    let same : at ≡ n = omega (arith, e) in
    ap (λ m. Ok (record { groups = []; at = at; seen = m; rest = [] })) (ap length (sym is))
    ∙ ap (λ m. Ok (record { groups = []; at = m; seen = length parts; rest = [] })) same
walks_again parts line g ps (x ∷ gs) at n fit is e =
    let next : ℕ = at + length (group_steps parts x) in
    let here : next ≡ at + length (flat_map (entry_steps parts) x.entries) + 1 =
    omega (arith, length-append (flat_map (entry_steps parts) x.entries) (Return ∷ [])) in
    let later : parts ≡ parts_from (parts_from ps x.entries) (entries_in gs) = is ∙ parts_from-append ps x.entries (entries_in gs) in
    let whole : n ≡ next + length (all_steps parts gs) = omega (arith, e, length-append (group_steps parts x) (all_steps parts gs)) in
    let one = walk_again parts line g ps x.entries (entries_in gs) at next (all_steps parts gs) (λ y i. fit y (in_left x.entries (entries_in gs) y i)) is
    here in
    let others = walks_again parts line (g + 1) (parts_from ps x.entries) gs next n (λ y i. fit y (in_right x.entries (entries_in gs) y i)) later whole in
    ap (λ xs. walks parts line g at (length ps) xs (starts_at parts at (x ∷ gs))) (append_assoc (flat_map (entry_steps parts) x.entries) (Return ∷ [])
    (all_steps parts gs))
    ∙ start_step parts line g at (length ps) _ x (starts_at parts next gs)
    (record { entries = x.entries; at = next; seen = length (parts_from ps x.entries); rest = all_steps parts gs }) _ one refl others

-- no name occurs twice among numbered participants

no_double_from : (parts : List Part) (n : ℕ) (ps : List Part) → ((i : ℕ) (x : Part) → slice_get ps i ≡ Some x → number_in parts x.name ≡ n + i) →
    double_from parts n ps ≡ None
no_double_from parts n [] h = refl
no_double_from parts n (p ∷ ps) h =
    let here : number_in parts p.name ≡ n + 0 = h 0 p refl in
    let test : nat_lt (number_in parts p.name) n ≡ false = grind (arith, nat_tests) in
    rw test (no_double_from parts (n + 1) ps (λ i x is. (let later : number_in parts x.name ≡ n + 1 + i = omega (arith, h (suc i) x is) in later)))

no_doubles : (parts : List Part) → IsNumbered parts → double_from parts 0 parts ≡ None
no_doubles parts h = no_double_from parts 0 parts (λ i x is. (let same : number_in parts x.name ≡ 0 + i = omega (arith, h i x is) in same))

numbered_push : (ps : List Part) (q : Part) → number_in ps q.name ≡ length ps → IsNumbered ps → IsNumbered (ps ++ q ∷ [])
numbered_push ps q new h i x is =
    elim (cases_lt i (length ps)) [
      | inl old ↦
          let got : get_or (ps ++ q ∷ []) i x ≡ x = get_or_from_slice_get (ps ++ q ∷ []) i x x is in
          let kept : get_or (ps ++ q ∷ []) i x ≡ get_or ps i x = get_or_append_left ps (q ∷ []) x i old in
          let before : slice_get ps i ≡ Some x = slice_get-get_or ps i x old ∙ ap Some (sym kept ∙ got) in
          let number : number_in ps x.name ≡ i = h i x before in
          number_kept ps (q ∷ []) x.name (omega (arith, number, old)) ∙ number
      | inr last ↦
          let within = slice_get_within (ps ++ q ∷ []) i x is in
          let at_end : i ≡ length ps = omega (arith, last, within, length_push ps q) in
          let got : get_or (ps ++ q ∷ []) i x ≡ x = get_or_from_slice_get (ps ++ q ∷ []) i x x is in
          let same : get_or (ps ++ q ∷ []) i x ≡ q = get_or_at ps q [] x i (sym at_end) in
          let e : q ≡ x = sym same ∙ got in
          ap (λ (y : Part). number_in (ps ++ q ∷ []) y.name) (sym e) ∙ number_push ps q new ∙ sym at_end
    ]

numbered_from : (ps : List Part) (es : List Entry) → IsNumbered ps → IsNumbered (parts_from ps es)
numbered_from ps [] h = h
numbered_from ps (e ∷ es) h =
    numbered_from (add_new ps e) es (by_entry ps e (IsNumbered (add_new ps e))
    (λ k. subst IsNumbered (sym k.is) h)
    (λ n. subst IsNumbered (sym n.is) (numbered_push ps (record { name = e.participant; kind = e.kind }) n.last h)))

pub numbered_parts : (f : Flow) → IsNumbered (parts_of f)
numbered_parts f = numbered_from [] (all_entries f) (λ i x is. absurd (none-some x is))

end_again : (parts : List Part) (line n : ℕ) (gs : List Group) → end_fault parts line (record { groups = gs; at = n; seen = length parts; rest = [] }) ≡ None
end_again parts line n gs =
    let test : nat_lt (length parts) (length parts) ≡ false = grind (arith, nat_tests) in
    rw test refl

pub flow_again : (f : Flow) → IsChecked f → flow_in (lines_of f) ≡ Ok f
unfolding flow_in
flow_again f c =
    let parts : List Part = parts_of f in
    let line : ℕ = steps_line (lines_of f) in
    let fit : (e : Entry) → In (entries_in f.groups) e → Fits (parts_of f) e = λ e i. numbered (all_entries f) e (one_kind f c) i in
    let steps : (lines_of f).steps ≡ all_steps (parts_of f) f.groups = map_groups (parts_of f) 0 f.groups in
    let starts : (lines_of f).starts ≡ starts_at (parts_of f) 0 f.groups = sym (starts_are f [] f.groups 0 0 refl refl refl) in
    let distinct : double_fault (parts_of f) ≡ None = ap (option_map (λ n. BadTarget (2 + n))) (no_doubles (parts_of f) (numbered_parts f)) in
    let walked : walks (parts_of f) line 0 0 0 (lines_of f).steps (lines_of f).starts
    ≡ Ok (record { groups = f.groups; at = 0 + length (all_steps (parts_of f) f.groups); seen = length (parts_of f); rest = [] }) =
    ap (λ xs. walks (parts_of f) line 0 0 0 xs (lines_of f).starts) steps ∙ ap (walks (parts_of f) line 0 0 0 (all_steps (parts_of f) f.groups)) starts
    ∙ walks_again (parts_of f) line 0 [] f.groups 0 (0 + length (all_steps (parts_of f) f.groups)) fit refl refl in
    rw (distinct, walked, end_again (parts_of f) line (0 + length (all_steps (parts_of f) f.groups)) f.groups) refl
