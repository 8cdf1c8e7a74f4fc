-- The next line of what an input has to give.
-- for: lines::Lines::next
use Rattle.std.proofs.Common.{◌≡◌, ◌≢◌, ◌∙◌, ◌++◌, ◌∷◌, [], ◌+◌, ℕ, true, false, List, Option, Some, None, IfSome, MatchOption, ◌≤◌, length, option_map}
use Rattle.std.proofs.Common.{refl, ap, sym, subst, append_assoc, append-nil, arith, length-append}
use Rattle.std.proofs.KnownBytes.{Consumes-kept, Consumes-trans}
use Rattle.std.specs.Io.KnownBytes.{Consumes, IsAtEnd, Keeps, prepend_known}
use Rattle.std.specs.List.{after_first}
use Rattle.cli_lines.proofs.FirstLines.{after_alone, after_plain, after_whole, first_alone, first_parts, first_plain, first_some, first_whole, has_plain}
use Rattle.cli_lines.specs.Feeds.{first_line, has_line_feed, is_line_feed}
use Rattle.cli_lines.specs.Lines.{IsNextLine}

abbrev Known : Type 0
Known = Option (List ℕ)

given : (u : Known) (xs : List ℕ) → Consumes (prepend_known xs u) (prepend_known (after_first is_line_feed xs) u) (first_line xs)
given None xs = tt
given (Some ys) xs = ap (λ (l : List ℕ). l ++ ys) (sym (first_parts xs)) ∙ append_assoc (first_line xs) (after_first is_line_feed xs) ys

-- after a piece without a line feed, and a read
pub taken_more : (a u d : Known) (line left rest : List ℕ) → Consumes a (prepend_known left u) line
    → rest ≡ after_first is_line_feed left → Keeps (prepend_known rest u) d → Consumes a d (line ++ first_line left)
taken_more a u d line left rest taken same kept =
    Consumes-kept a (prepend_known rest u) d (line ++ first_line left)
    (subst (λ (r : List ℕ). Consumes a (prepend_known r u) (line ++ first_line left)) (sym same)
    (Consumes-trans a (prepend_known left u) (prepend_known (after_first is_line_feed left) u) line (first_line left) taken (given u left))) kept

pub plain_more : (line left : List ℕ) → has_line_feed line ≡ false → has_line_feed left ≡ false
    → has_line_feed (line ++ first_line left) ≡ false
plain_more line left plain none = ap (λ (l : List ℕ). has_line_feed (line ++ l)) (first_alone left none) ∙ has_plain line left plain ∙ none

-- the bytes that are left are the line that is given, and what follows it
pub lengths : (line left rest : List ℕ) → rest ≡ after_first is_line_feed left
    → length (line ++ first_line left) + length rest ≡ length line + length left
lengths line left rest same =
    let whole = ap length (first_parts left) in
    let cut = length-append (first_line left) (after_first is_line_feed left) in
    let joined = length-append line (first_line left) in
    let end = ap length same in
    omega arith

none_left : (ys : List ℕ) (xs line : List ℕ) → xs ≡ line ++ ys → ys ≡ [] → xs ≡ line
none_left ys xs line all none = all ∙ ap (λ (l : List ℕ). line ++ l) none ∙ append-nil line

-- what is given by a count of lines, of a type with items
abbrev Given : {V : Type 0} → (V → List ℕ) → Option V → List ℕ → Type 0
Given items o line = MatchOption o (line ≡ []) (λ v. (line ≢ []) × (items v ≡ line))

pub within : {V : Type 0} (items : V → List ℕ) (o : Option V) (line : List ℕ) (here most : ℕ) → Given items o line
    → here + length line ≤ most → IfSome o (λ v. here + length (items v) ≤ most)
within items None line here most given fits = tt
within items (Some v) line here most given fits = rw given.1 fits

pub at_end : {V : Type 0} (items : V → List ℕ) (o : Option V) (a d : Known) (line : List ℕ) → Given items o line
    → Consumes a d line → IsAtEnd d → has_line_feed line ≡ false → IsNextLine a d (option_map items o)
at_end items o None d line given taken end plain = tt
at_end items o (Some xs) None line given taken end plain = absurd taken
at_end items None (Some xs) (Some ys) line given taken end plain = (none_left ys xs line taken end ∙ given, ap Some end)
at_end items (Some v) (Some xs) (Some ys) line given taken end plain =
    let all = none_left ys xs line taken end in (
      λ none. given.0 (sym all ∙ none),
      given.1 ∙ sym (first_alone line plain) ∙ ap first_line (sym all),
      ap Some (end ∙ sym (after_alone line plain) ∙ ap (after_first is_line_feed) (sym all)),
    )

no_tail : (k l : List ℕ) → k ++ l ≡ [] → l ≡ []
no_tail [] l none = none
no_tail (b ∷ k) l none = cc

no_front : (k l : List ℕ) → k ++ l ≡ [] → k ≡ []
no_front [] l none = refl
no_front (b ∷ k) l none = cc

has_some : (xs : List ℕ) → has_line_feed xs ≡ true → xs ≢ []
has_some [] has = λ _. cc
has_some (x ∷ xs) has = λ none. cc

-- a line whose end is left of a piece
pub found : {V : Type 0} (items : V → List ℕ) (o : Option V) (a u : Known) (line left all rest : List ℕ) → Given items o all
    → all ≡ line ++ first_line left → rest ≡ after_first is_line_feed left
    → Consumes a (prepend_known left u) line → has_line_feed line ≡ false → has_line_feed left ≡ true
    → IsNextLine a (prepend_known rest u) (option_map items o)
found items o None u line left all rest given whole same taken plain has = tt
found items o (Some xs) None line left all rest given whole same taken plain has = absurd taken
found items None (Some xs) (Some ys) line left all rest given whole same taken plain has =
    absurd (first_some left (has_some left has) (no_tail line (first_line left) (sym whole ∙ given)))
found items (Some v) (Some xs) (Some ys) line left all rest given whole same taken plain has = (
  λ none. has_some left has (no_front left ys (no_tail line (left ++ ys) (sym taken ∙ none))),
  given.1 ∙ whole ∙ ap (λ (l : List ℕ). line ++ l) (sym (first_whole left ys has)) ∙ sym (first_plain line (left ++ ys) plain) ∙ ap first_line (sym taken),
  ap Some (ap (λ (l : List ℕ). l ++ ys) same ∙ sym (after_whole left ys has) ∙ sym (after_plain line (left ++ ys) plain) ∙ ap (after_first is_line_feed)
      (sym taken)),
)
