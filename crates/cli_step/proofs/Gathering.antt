-- The lines of a script's head, one after the other.
-- for: head::is_setting, head::read_head
use Rattle.std.proofs.Common.{◌≡◌, ◌≢◌, ◌∙◌, ◌++◌, [], ℕ, Bool, true, false, List, Option, None, Some, Ok, Err, inl, inr, is_some, refl, sym, ap}
use Rattle.std.proofs.Common.{append_assoc, subst}
use Rattle.std.specs.Borrow.{Bor}
use Rattle.cli_lines.proofs.FirstLines.{first_parts}
use Rattle.cli_lines.specs.Feeds.{first_line}
use Rattle.cli_lines.specs.Lines.{IsNextLine}
use Rattle.cli_script.proofs.Continued.{both_precede, first_precedes, settings_more}
use Rattle.cli_script.specs.Heads.{AreSettings, AreWhole, HeadOf, IsNoSetting, IsPlacedSetting, MayPrecede}
use Rattle.cli_script.specs.Scripts.{IsNextSetting, is_misplaced, others_of}
use Rattle.cli_script.specs.declared.error.ScriptError.{ScriptError}
use Rattle.cli_script.specs.declared.error.ScriptError.TheVariants as script
use Rattle.cli_script.specs.declared.line.Setting.{Setting}

pub placed_next : (has_file : Bool) (n : ℕ) (text : List ℕ) (o : Option (Setting × Bor (List ℕ))) → IsNextSetting has_file n text (Ok o)
    → is_some o ≡ true → IsPlacedSetting has_file text
placed_next has_file n text None next is = cc
placed_next has_file n text (Some p) next is = (p.0, next.0, next.1)

pub no_next : (has_file : Bool) (n : ℕ) (text : List ℕ) (o : Option (Setting × Bor (List ℕ))) → IsNextSetting has_file n text (Ok o)
    → is_some o ≡ false → IsNoSetting has_file text
no_next has_file n text None (inl empty) is = λ s begins. absurd (begins.0 empty)
no_next has_file n text None (inr acts) is = λ s begins. let both = sym begins.1 ∙ acts.1.1 in cc
no_next has_file n text (Some p) next is = cc

pub refused_next : (has_file : Bool) (n : ℕ) (text : List ℕ) (e : ScriptError) → IsNextSetting has_file n text (Err e)
    → e ≢ script.OutOfMemory → IsNoSetting has_file text
refused_next has_file n text (script.Line k cause found) next reported = λ s begins. let both = sym begins.1 ∙ next.1.1 in cc
refused_next has_file n text (script.FlowBesideFile k found) next reported = λ s begins.
    let both = sym begins.1 ∙ next.1.1.1 in
    let same : s ≡ next.1.1.0 = cc in
    ap (is_misplaced has_file) same ∙ next.1.1.2
refused_next has_file n text (script.LateSetting k found) next reported = absurd next.1
refused_next has_file n text (script.Crowded k found) next reported = absurd next.1
refused_next has_file n text (script.Flow k cause) next reported = absurd next.1
refused_next has_file n text script.OutOfMemory next reported = absurd (reported refl)

abbrev Known : Type 0
Known = Option (List ℕ)

-- settings were read up to these lines
pub record Taken (has_file : Bool) (script : List ℕ) (now : Known) (head : List ℕ) : Type 0 where
  pub left : List ℕ
  pub is : now ≡ Some left
  pub whole : script ≡ head ++ left
  pub may : MayPrecede head left
  pub are : AreSettings has_file head

abbrev pub Gathered : Bool → Known → Known → List ℕ → Type 0
Gathered has_file None now head = Unit {0}
Gathered has_file (Some script) now head = Taken has_file script now head

pub none_gathered : (has_file : Bool) (a : Known) → Gathered has_file a a []
none_gathered has_file None = tt
none_gathered has_file (Some script) = record {
  left = script;
  is = refl;
  whole = refl;
  may = inr (inl refl);
  are = ([], refl, refl);
}

parted : (left line : List ℕ) → line ≡ first_line left → left ≡ line ++ others_of left
parted left line is = sym (first_parts left) ∙ ap (λ (l : List ℕ). l ++ others_of left) (sym is)

pub precedes : (xs ys zs : List ℕ) → MayPrecede xs ys → ys ≢ [] → MayPrecede xs zs
precedes xs ys zs (inl none) some = absurd (some none)
precedes xs ys zs (inr whole) some = inr whole

are_whole : (xs ys : List ℕ) → MayPrecede xs ys → ys ≢ [] → AreWhole xs
are_whole xs ys (inl none) some = absurd (some none)
are_whole xs ys (inr whole) some = whole

last_may : (left line : List ℕ) → line ≡ first_line left → MayPrecede line (others_of left)
last_may left line is = subst (λ (l : List ℕ). MayPrecede l (others_of left)) (sym is) (first_precedes left)

pub gathers : (has_file : Bool) (a b c : Known) (head line : List ℕ) → Gathered has_file a b head → IsNextLine b c (Some line)
    → line ≢ [] → IsPlacedSetting has_file line → Gathered has_file a c (head ++ line)
gathers has_file None b c head line taken next some setting = tt
gathers has_file (Some script) b c head line taken next some setting =
    let is : IsNextLine (Some taken.left) c (Some line) = subst (λ (k : Known). IsNextLine k c (Some line)) taken.is next in
    let may : MayPrecede head line = precedes head taken.left line taken.may is.0 in
    record {
      left = others_of taken.left;
      is = is.2;
      whole = taken.whole ∙ ap (λ (l : List ℕ). head ++ l) (parted taken.left line is.1) ∙ sym (append_assoc head line (others_of taken.left));
      may = both_precede head line (others_of taken.left) may some (last_may taken.left line is.1);
      are = subst (λ (l : List ℕ). AreSettings has_file (head ++ l)) (sym is.1)
          (settings_more has_file head taken.left taken.are (subst (MayPrecede head) is.1 may) (subst (IsPlacedSetting has_file) is.1 setting));
    }

pub ends_gathering : (has_file : Bool) (a b c : Known) (head line : List ℕ) → Gathered has_file a b head → IsNextLine b c (Some line)
    → line ≢ [] → IsNoSetting has_file line → HeadOf has_file a c (head ++ line)
ends_gathering has_file None b c head line taken next some none = tt
ends_gathering has_file (Some script) b c head line taken next some none =
    let is : IsNextLine (Some taken.left) c (Some line) = subst (λ (k : Known). IsNextLine k c (Some line)) taken.is next in
    let may : MayPrecede head line = precedes head taken.left line taken.may is.0 in (
      others_of taken.left,
      is.2,
      record {
        whole = taken.whole ∙ ap (λ (l : List ℕ). head ++ l) (parted taken.left line is.1) ∙ sym (append_assoc head line (others_of taken.left));
        ends = both_precede head line (others_of taken.left) may some (last_may taken.left line is.1);
        last = inl (record {
          settings = head;
          line = line;
          whole = refl;
          first = are_whole head taken.left taken.may is.0;
          are = taken.are;
          some = some;
          last = none;
        });
      },
    )

pub all_gathered : (has_file : Bool) (a b c : Known) (head : List ℕ) → Gathered has_file a b head → IsNextLine b c None
    → HeadOf has_file a c head
all_gathered has_file None b c head taken next = tt
all_gathered has_file (Some script) b c head taken next =
    let is : IsNextLine (Some taken.left) c None = subst (λ (k : Known). IsNextLine k c None) taken.is next in (
      [],
      is.1,
      record {
        whole = taken.whole ∙ ap (λ (l : List ℕ). head ++ l) is.0;
        ends = inl refl;
        last = inr (taken.are, refl);
      },
    )
