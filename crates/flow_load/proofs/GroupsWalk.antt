-- Walking through the groups, as a loop does.
-- for: groups::read_groups
use Rattle.std.specs.Prelude.{◌==◌}
use Rattle.std.proofs.Common.{◌≡◌, ◌≢◌, ◌∙◌, ℕ, ◌+◌, ◌≤◌, ◌<◌, true, false, List, [], ◌∷◌, ◌++◌, length, drop, get_or, None, Result, Ok, Err, ap, append_assoc}
use Rattle.std.proofs.Common.{arith, refl, sym}
use Rattle.std.proofs.lemmas.Bool.Decides.{nat_tests}
use Rattle.std.proofs.lemmas.List.{append-nil, drop_all, drop_more}
use Rattle.flow_model.specs.declared.flow.Group.{Group}
use Rattle.flow_model.specs.declared.numbering.Part.{Part}
use Rattle.flow_asm.specs.declared.code.GroupStart.{GroupStart}
use Rattle.flow_asm.specs.declared.code.Step.{Step}
use Rattle.flow_load.specs.declared.error.LoadError.{LoadError}
use Rattle.flow_load.specs.declared.error.LoadError.TheVariants.{BadTarget}
use Rattle.flow_load.specs.Groups.{Walk, Walks, walk, walks, with_groups}
use Rattle.flow_load.specs.Reads.{◌>>=◌}

-- what was read before, and what is yet to be read
abbrev pub preceded_by : List Group → Result Walks LoadError → Result Walks LoadError
preceded_by gs read = read >>= λ w. Ok (with_groups gs w)

merged : (gs : List Group) (g : Group) (read : Result Walks LoadError) → preceded_by gs (preceded_by (g ∷ []) read) ≡ preceded_by (gs ++ g ∷ []) read
merged gs g (Ok w) = ap (λ (xs : List Group). Ok (record w { groups = xs })) (sym (append_assoc gs (g ∷ []) w.groups))
merged gs g (Err e) = refl

module _ (parts : List Part) (line number at seen : ℕ) (rest : List Step) (starts : List GroupStart) (gs : List Group) (total : Result Walks LoadError) where
  -- the walk so far
  abbrev pub IsWalked : Type 0
  IsWalked = preceded_by gs (walks parts line number at seen rest (drop number starts)) ≡ total

  pub misplaced : (s : GroupStart) → number < length starts → s ≡ get_or starts number s → s.first ≢ at → IsWalked →
      total ≡ Err (BadTarget (2 + length parts + number))
  misplaced s lt is apart walked =
      let differs : (s.first == at) ≡ false = grind (arith, nat_tests) in
      let cut : drop number starts ≡ s ∷ drop (number + 1) starts = drop_more starts number s lt ∙ ap (λ (x : GroupStart). x ∷ drop (number + 1) starts)
      (sym is) in
      sym (rw (cut, differs) at walked)

  on : (s : GroupStart) (read : Result Walk LoadError) → number < length starts → s ≡ get_or starts number s → s.first ≡ at →
      walk parts line number None at seen rest ≡ read → IsWalked
      → preceded_by gs (read >>= λ w. preceded_by (record { name = s.name; entries = w.entries } ∷ [])
      (walks parts line (number + 1) w.at w.seen w.rest (drop (number + 1) starts))) ≡ total
  on s read lt is same reads walked =
      let equal : (s.first == at) ≡ true = grind (arith, nat_tests) in
      let cut : drop number starts ≡ s ∷ drop (number + 1) starts = drop_more starts number s lt ∙ ap (λ (x : GroupStart). x ∷ drop (number + 1) starts)
      (sym is) in
      rw (← reads) (rw (cut, equal) at walked)

  pub stopped : (s : GroupStart) (e : LoadError) → number < length starts → s ≡ get_or starts number s → s.first ≡ at → IsWalked →
      walk parts line number None at seen rest ≡ Err e → total ≡ Err e
  stopped s e lt is same walked reads = sym (on s (Err e) lt is same reads walked)

  pub added : (s : GroupStart) (w : Walk) → number < length starts → s ≡ get_or starts number s → s.first ≡ at →
      walk parts line number None at seen rest ≡ Ok w → IsWalked
      → preceded_by (gs ++ record { name = s.name; entries = w.entries } ∷ [])
      (walks parts line (number + 1) w.at w.seen w.rest (drop (number + 1) starts)) ≡ total
  added s w lt is same reads walked =
      sym (merged gs (record { name = s.name; entries = w.entries }) (walks parts line (number + 1) w.at w.seen w.rest (drop (number + 1) starts)))
      ∙ on s (Ok w) lt is same reads walked

  pub ended : length starts ≤ number → IsWalked → total ≡ Ok (record { groups = gs; at = at; seen = seen; rest = rest })
  ended le walked =
      sym (rw (drop_all number starts le) at walked) ∙ ap (λ (xs : List Group). Ok (record { groups = xs; at = at; seen = seen; rest = rest })) (append-nil gs)
