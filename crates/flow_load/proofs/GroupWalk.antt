-- Walking through the steps of a group, as a loop does.
-- for: groups::read_group
use Rattle.std.proofs.Common.{◌≡◌, ℕ, ◌+◌, ◌≤◌, ◌<◌, List, ◌++◌, length, drop, get_or, max, Option, None, Result, Ok, Err, refl, sym, ap, ◌∙◌, append_assoc}
use Rattle.std.proofs.Common.{arith, slice_get}
use Rattle.std.proofs.lemmas.List.{append-nil, drop_all, drop_more}
use Rattle.flow_model.specs.declared.flow.Entry.{Entry}
use Rattle.flow_model.specs.declared.numbering.Part.{Part}
use Rattle.flow_asm.specs.declared.code.Step.{Step}
use Rattle.flow_asm.specs.Listing.{entry_of}
use Rattle.flow_load.specs.declared.error.LoadError.{LoadError}
use Rattle.flow_load.specs.declared.groups.StepRole.{StepRole}
use Rattle.flow_load.specs.declared.groups.StepRole.TheVariants.{Calls, Picks, Returns}
use Rattle.flow_load.specs.Groups.{Walk, after, cut_off, role_of, walk, wanted, with_entries}
use Rattle.flow_load.specs.Reads.{◌>>=◌}

-- what was read before, and what is yet to be read
abbrev pub preceded_by : List Entry → Result Walk LoadError → Result Walk LoadError
preceded_by es read = read >>= λ w. Ok (with_entries es w)

merged : (es fs : List Entry) (read : Result Walk LoadError) → preceded_by es (preceded_by fs read) ≡ preceded_by (es ++ fs) read
merged es fs (Ok w) = ap (λ (xs : List Entry). Ok (record w { entries = xs })) (sym (append_assoc es fs w.entries))
merged es fs (Err e) = refl

module _ (parts : List Part) (line group at k : ℕ) (due : Option ℕ) (seen : ℕ) (steps : List Step) (es : List Entry) (total : Result Walk LoadError) where
  -- the walk so far
  abbrev pub IsWalked : Type 0
  IsWalked = preceded_by es (walk parts line group due (at + k) seen (drop k steps)) ≡ total

  on : (d : Step) (role : Result StepRole LoadError) → k < length steps → role_of parts (line + at + k) due seen (get_or steps k d) ≡ role → IsWalked
      → preceded_by es (role >>= λ t. after parts (λ o m. walk parts line group o (at + k + 1) m (drop (k + 1) steps)) (at + k) seen (drop (k + 1) steps) t)
      ≡ total
  on d role lt is walked =
      let here : line + at + k ≡ line + (at + k) = omega arith in
      rw (← is, here) (rw (drop_more steps k d lt) at walked)

  pub stopped : (d : Step) (e : LoadError) → k < length steps → IsWalked → role_of parts (line + at + k) due seen (get_or steps k d) ≡ Err e → total ≡ Err e
  stopped d e lt walked is = sym (on d (Err e) lt is walked)

  pub called : (d : Step) (p : ℕ) → k < length steps → role_of parts (line + at + k) due seen (get_or steps k d) ≡ Ok (Calls p) → IsWalked
      → preceded_by (es ++ entry_of (slice_get parts p)) (walk parts line group (wanted p (slice_get parts p)) (at + (k + 1)) (max seen (p + 1))
      (drop (k + 1) steps)) ≡ total
  called d p lt is walked =
      let next : at + (k + 1) ≡ at + k + 1 = omega arith in
      rw next (sym (merged es (entry_of (slice_get parts p)) (walk parts line group (wanted p (slice_get parts p)) (at + k + 1) (max seen (p + 1))
      (drop (k + 1) steps))) ∙ on d (Ok (Calls p)) lt is walked)

  pub picked : (d : Step) → k < length steps → role_of parts (line + at + k) due seen (get_or steps k d) ≡ Ok Picks → IsWalked
      → preceded_by es (walk parts line group None (at + (k + 1)) seen (drop (k + 1) steps)) ≡ total
  picked d lt is walked =
      let next : at + (k + 1) ≡ at + k + 1 = omega arith in
      rw next (on d (Ok Picks) lt is walked)

  pub returned : (d : Step) → k < length steps → role_of parts (line + at + k) due seen (get_or steps k d) ≡ Ok Returns → IsWalked
      → total ≡ Ok (record { entries = es; at = at + k + 1; seen = seen; rest = drop (k + 1) steps })
  returned d lt is walked =
      sym (on d (Ok Returns) lt is walked) ∙ ap (λ (xs : List Entry). Ok (record { entries = xs; at = at + k + 1; seen = seen; rest = drop (k + 1) steps }))
      (append-nil es)

  pub ended : length steps ≤ k → k ≤ length steps → IsWalked → total ≡ Err (cut_off group (line + at + length steps) due)
  ended le ge walked =
      let here : line + at + length steps ≡ line + (at + k) = omega arith in
      rw here (sym (rw (drop_all k steps le) at walked))
