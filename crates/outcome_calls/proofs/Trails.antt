-- Each move of one id keeps the invariant, and the invariant gives the law.
-- for: laws::one_keeps
use Rattle.std.proofs.Common.{◌≡◌, ℕ, ◌+◌, ◌<◌, ◌≤◌, Bool, true, false, List, [], ◌∷◌, ◌++◌, length, Option, Some, None, refl, sym, ◌∙◌, ap, subst, arith, suc}
use Rattle.std.specs.Prelude.{if◌then◌else◌, slice_get, ◌==◌, not}
use Rattle.std.proofs.lemmas.Bool.Decides.{nat_tests}
use Rattle.tx_machine.specs.declared.values.Phase.{Phase}
use Rattle.tx_machine.specs.declared.values.Phase.TheVariants.{Preparing, Aborting, Committing, Undoing}
use Rattle.tx_machine.specs.Row.{Row}
use Rattle.outcome_calls.specs.Trail.{Deed, Answered, Chose, Told, Recovered, Stopped, has_call, has_open_call, has_commit, has_abort, has_outcome, told_by}
use Rattle.outcome_calls.specs.Trail.{joins_of, places_told, last_told, untold_in, may_tell, may_recover, is_unstopped, InOrder, count, is_committing, last_row}
use Rattle.outcome_calls.specs.Trail.{IsOutcomeOf, FollowsRows, InRow, IdLaw}
use Rattle.outcome_calls.specs.One.{Decision, Undecided, ToCommit, ToAbort, DueCall, Preparation, Selection, Telling, Recovery, NoCall, FullReply, Answer, Chosen}
use Rattle.outcome_calls.specs.One.{Advice, Restored, Standing, commits, IsRowOf, DueFits, IsStanding, Made, Follows, advised, GoesOneWay, IsLive, IsOver, One}
use Rattle.outcome_calls.specs.One.{standing_row, IdFits, OneFits, Reopened, Reopens, Move, Born, Call, Settle, Close, Ack, Stop, without, Moves, LawOfOne}

-- trails without calls, without outcomes

pub no_commit : (t : List Deed) → has_outcome t ≡ false → has_commit t ≡ false
no_commit [] h = refl
no_commit (Answered p b ∷ t) h = no_commit t h
no_commit (Chose p ∷ t) h = no_commit t h
no_commit (Told c p n a ∷ t) h = grind arith
no_commit (Recovered q k ∷ t) h = absurd (grind (arith, h))
no_commit (Stopped r ∷ t) h = no_commit t h

pub no_abort : (t : List Deed) → has_outcome t ≡ false → has_abort t ≡ false
no_abort [] h = refl
no_abort (Answered p b ∷ t) h = no_abort t h
no_abort (Chose p ∷ t) h = no_abort t h
no_abort (Told c p n a ∷ t) h = grind arith
no_abort (Recovered q k ∷ t) h = absurd (grind (arith, h))
no_abort (Stopped r ∷ t) h = no_abort t h

pub none_outcome : (t : List Deed) → has_call t ≡ false → has_outcome t ≡ false
none_outcome [] h = refl
none_outcome (Answered p b ∷ t) h = grind arith
none_outcome (Chose p ∷ t) h = grind arith
none_outcome (Told c p n a ∷ t) h = grind arith
none_outcome (Recovered q k ∷ t) h = grind arith
none_outcome (Stopped r ∷ t) h = none_outcome t h

pub none_open_call : (t : List Deed) → has_call t ≡ false → has_open_call t ≡ false
none_open_call [] h = refl
none_open_call (Answered p b ∷ t) h = grind arith
none_open_call (Chose p ∷ t) h = grind arith
none_open_call (Told c p n a ∷ t) h = grind arith
none_open_call (Recovered q k ∷ t) h = grind arith
none_open_call (Stopped r ∷ t) h = none_open_call t h

pub none_ordered : (t : List Deed) → has_call t ≡ false → InOrder t
none_ordered [] h = tt
none_ordered (Answered p b ∷ t) h = absurd (grind arith)
none_ordered (Chose p ∷ t) h = absurd (grind arith)
none_ordered (Told c p n a ∷ t) h = absurd (grind arith)
none_ordered (Recovered q k ∷ t) h = absurd (grind arith)
none_ordered (Stopped r ∷ t) h = none_ordered t h

pub none_decided : (t : List Deed) → has_call t ≡ false → FollowsRows t
none_decided [] h = tt
none_decided (Answered p b ∷ t) h = absurd (grind arith)
none_decided (Chose p ∷ t) h = absurd (grind arith)
none_decided (Told c p n a ∷ t) h = absurd (grind arith)
none_decided (Recovered q k ∷ t) h = absurd (grind arith)
none_decided (Stopped r ∷ t) h = none_decided t h

-- the way of the row at the last stop
pub outcome_of : (o : Option Row) (c : Bool) → ((r : Row) → o ≡ Some r → c ≡ is_committing r.phase) → IsOutcomeOf o c
outcome_of None c h = tt
outcome_of (Some r) c h = h r refl

pub none_unstopped : (t : List Deed) → has_call t ≡ false → is_unstopped t ≡ true
none_unstopped [] h = refl
none_unstopped (Answered p b ∷ t) h = absurd (grind arith)
none_unstopped (Chose p ∷ t) h = absurd (grind arith)
none_unstopped (Told c p n a ∷ t) h = absurd (grind arith)
none_unstopped (Recovered q k ∷ t) h = absurd (grind arith)
none_unstopped (Stopped r ∷ t) h = grind (arith, none_open_call t h)

pub none_joins : (p : ℕ) (t : List Deed) → has_call t ≡ false → joins_of p t ≡ 0
none_joins p [] h = refl
none_joins p (Answered q b ∷ t) h = absurd (grind arith)
none_joins p (Chose q ∷ t) h = absurd (grind arith)
none_joins p (Told c q n a ∷ t) h = absurd (grind arith)
none_joins p (Recovered q k ∷ t) h = absurd (grind arith)
none_joins p (Stopped r ∷ t) h = none_joins p t h

pub none_may_tell : (n : ℕ) (t : List Deed) → has_outcome t ≡ false → may_tell n t ≡ true
none_may_tell n [] h = refl
none_may_tell n (Answered p b ∷ t) h = none_may_tell n t h
none_may_tell n (Chose p ∷ t) h = none_may_tell n t h
none_may_tell n (Told c p m a ∷ t) h = absurd (grind arith)
none_may_tell n (Recovered q k ∷ t) h = absurd (grind (arith, h))
none_may_tell n (Stopped r ∷ t) h = grind (arith, none_may_tell n t h)

pub none_may_recover : (n : ℕ) (t : List Deed) → has_call t ≡ false → may_recover n t ≡ true
none_may_recover n [] h = refl
none_may_recover n (Answered p b ∷ t) h = absurd (grind arith)
none_may_recover n (Chose p ∷ t) h = absurd (grind arith)
none_may_recover n (Told c p m a ∷ t) h = absurd (grind arith)
none_may_recover n (Recovered p m ∷ t) h = absurd (grind arith)
none_may_recover n (Stopped r ∷ t) h = grind (arith, none_may_recover n t h)

pub none_last : (n : ℕ) (t : List Deed) → has_outcome t ≡ false → last_told n t ≡ None
none_last n [] h = refl
none_last n (Answered p b ∷ t) h = none_last n t h
none_last n (Chose p ∷ t) h = none_last n t h
none_last n (Told c p m a ∷ t) h = absurd (grind arith)
none_last n (Recovered q k ∷ t) h = absurd (grind (arith, h))
none_last n (Stopped r ∷ t) h = none_last n t h

-- counting

pub count-append : (p : ℕ) (xs ys : List ℕ) → count p (xs ++ ys) ≡ count p xs + count p ys
count-append p [] ys = omega arith
count-append p (x ∷ xs) ys = grind (arith, nat_tests, count-append p xs ys)

pub told_places : (p : ℕ) (t : List Deed) (j : ℕ) (ms : List ℕ) → ((n q : ℕ) → n < length ms → slice_get ms n ≡ Some q → told_by q (j + n) t ≡ true)
    → count p ms ≤ places_told p t j (length ms)
told_places p t j [] h = omega arith
told_places p t j (m ∷ ms) h =
    let here : told_by m j t ≡ true = subst (λ (k : ℕ). told_by m k t ≡ true) (omega arith) (h 0 m (omega arith) refl) in
    let later : count p ms ≤ places_told p t (j + 1) (length ms) =
    told_places p t (j + 1) ms (λ n q less is. subst (λ (k : ℕ). told_by q k t ≡ true) (omega arith) (h (suc n) q (omega arith) is)) in
    grind (arith, nat_tests, here, later)

-- the invariant gives the law

pub way_one : (m : Decision) (t : List Deed) → GoesOneWay m t → has_commit t ≡ true → has_abort t ≡ true → ⊥
way_one Undecided t w h k = grind (arith, no_commit t w.0)
way_one ToCommit t w h k = grind arith
way_one ToAbort t w h k = grind arith

pub way_commit : (m : Decision) (t : List Deed) → GoesOneWay m t → commits m ≡ false → has_commit t ≡ false
way_commit Undecided t w h = no_commit t w.0
way_commit ToCommit t w h = absurd (grind arith)
way_commit ToAbort t w h = w

pub way_abort : (m : Decision) (t : List Deed) → GoesOneWay m t → commits m ≡ true → has_abort t ≡ false
way_abort Undecided t w h = no_abort t w.0
way_abort ToCommit t w h = w
way_abort ToAbort t w h = absurd (grind arith)

pub law_unborn : (t : List Deed) (advice : ℕ → Option (List ℕ)) → has_call t ≡ false → ((n : ℕ) → advice n ≡ None) → IdLaw t false None advice
law_unborn t advice h none = record {
  one_way = λ x y. grind (arith, no_commit t (none_outcome t h));
  all_told = λ k r p. absurd (grind arith);
  ordered = none_ordered t h;
  advised = λ n a g x y. absurd (grind (arith, none n));
  numbered = λ k. h;
  in_row = λ r x. absurd (grind arith);
  decided = none_decided t h;
}

pub law_dead : (t : List Deed) (advice : ℕ → Option (List ℕ)) → IsOver t advice → IdLaw t true None advice
law_dead t advice d = record {
  one_way = d.one_way;
  all_told = λ k r p. d.all_told p;
  ordered = d.ordered;
  advised = d.advised;
  numbered = λ k. absurd (grind arith);
  in_row = λ r x. absurd (grind arith);
  decided = d.decided;
}

-- all were notified
pub good_told : (t : List Deed) (st : Standing) (advice : ℕ → Option (List ℕ)) → IsLive t st advice → st.told ≡ length st.members
    → (p : ℕ) → (k : ℕ) × (joins_of p t ≤ places_told p t 0 k)
good_told t st advice g all p =
    let told : count p st.members ≤ places_told p t 0 (length st.members) =
    told_places p t 0 st.members (λ n q less is. subst (λ (k : ℕ). told_by q k t ≡ true) (omega arith) (g.told n q (omega arith) is)) in
    (length st.members, omega (arith, told, g.joined p))

pub in_row_good : (t : List Deed) (st : Standing) (advice : ℕ → Option (List ℕ)) (r : Row) → IsLive t st advice → IsRowOf st r → InRow t r advice
in_row_good t st advice r g f = record {
  no_commit = λ h. way_commit st.decision t g.way (sym f.phase ∙ h);
  no_abort = λ h. way_abort st.decision t g.way (sym f.phase ∙ h);
  told = λ n p less is. g.told n p (omega (arith, f.told)) (sym (f.members n less) ∙ is);
  joined = λ p. omega (arith, g.joined p, f.covered p);
  unadvised = λ n less. g.quiet n (omega (arith, f.told));
}

pub law_good : (t : List Deed) (st : Standing) (advice : ℕ → Option (List ℕ)) → IsLive t st advice → IdLaw t true st.row advice
law_good t st advice g = record {
  one_way = way_one st.decision t g.way;
  all_told = λ k r. good_told t st advice g (g.sound.ended r).0;
  ordered = g.ordered;
  advised = g.advised;
  numbered = λ k. absurd (grind arith);
  in_row = λ r x. in_row_good t st advice r g (g.sound.row r x);
  decided = g.decided;
}

-- calls

pub way_none : (m : Decision) (t : List Deed) → m ≡ Undecided → GoesOneWay m t → (has_outcome t ≡ false) × (is_unstopped t ≡ true)
way_none Undecided t is w = w
way_none ToCommit t is w = absurd (grind arith)
way_none ToAbort t is w = absurd (grind arith)

pub way_any : (m : Decision) (t : List Deed) → has_outcome t ≡ false → is_unstopped t ≡ true → GoesOneWay m t
way_any Undecided t h k = (h, k)
way_any ToCommit t h k = no_abort t h
way_any ToAbort t h k = no_commit t h

pub way_told : (m : Decision) (t : List Deed) (p n : ℕ) (a : Option (List ℕ)) → (m ≡ Undecided → ⊥) → GoesOneWay m t
    → GoesOneWay m (Told (commits m) p n a ∷ t)
way_told Undecided t p n a not w = absurd (not refl)
way_told ToCommit t p n a not w = w
way_told ToAbort t p n a not w = w

pub due_preparation : (d : DueCall) (p : ℕ) (st : Standing) → d ≡ Preparation p → DueFits d st → (st.decision ≡ Undecided) × (st.told ≡ 0)
due_preparation (Preparation q) p st is fits = fits
due_preparation (Selection q) p st is fits = absurd (grind arith)
due_preparation (Telling q) p st is fits = absurd (grind arith)
due_preparation (Recovery q) p st is fits = absurd (grind arith)
due_preparation NoCall p st is fits = absurd (grind arith)

pub due_selection : (d : DueCall) (p : ℕ) (st : Standing) → d ≡ Selection p → DueFits d st → (st.decision ≡ Undecided) × (st.told ≡ 0)
due_selection (Preparation q) p st is fits = absurd (grind arith)
due_selection (Selection q) p st is fits = fits
due_selection (Telling q) p st is fits = absurd (grind arith)
due_selection (Recovery q) p st is fits = absurd (grind arith)
due_selection NoCall p st is fits = absurd (grind arith)

pub due_tell : (d : DueCall) (p : ℕ) (st : Standing) → d ≡ Telling p → DueFits d st → (st.decision ≡ Undecided → ⊥) × (slice_get st.members st.told ≡ Some p)
due_tell (Preparation q) p st is fits = absurd (grind arith)
due_tell (Selection q) p st is fits = absurd (grind arith)
due_tell (Telling q) p st is fits = grind (arith, fits.0, fits.1)
due_tell (Recovery q) p st is fits = absurd (grind arith)
due_tell NoCall p st is fits = absurd (grind arith)

pub due_recovery : (d : DueCall) (p : ℕ) (st : Standing) → d ≡ Recovery p → DueFits d st →
    (st.decision ≡ Undecided → ⊥) × (slice_get st.members st.told ≡ Some p)
due_recovery (Preparation q) p st is fits = absurd (grind arith)
due_recovery (Selection q) p st is fits = absurd (grind arith)
due_recovery (Telling q) p st is fits = absurd (grind arith)
due_recovery (Recovery q) p st is fits = grind (arith, fits.0, fits.1)
due_recovery NoCall p st is fits = absurd (grind arith)

-- where no outcome is due, no recover call of the place was made
pub not_back : (st : Standing) → IsStanding st → ((p : ℕ) → st.due ≡ Telling p → ⊥) → st.restored ≡ true → ⊥
not_back st sound not h = let b = sound.back h in not b.0 b.1

pub way_restored : (m : Decision) (t : List Deed) (p n : ℕ) → (m ≡ Undecided → ⊥) → GoesOneWay m t → GoesOneWay m (Recovered p n ∷ t)
way_restored Undecided t p n not w = absurd (not refl)
way_restored ToCommit t p n not w = w
way_restored ToAbort t p n not w = w

-- the law, one preparation beyond what is written
pub law_preparation : (u : List Deed) (st : Standing) (advice : ℕ → Option (List ℕ)) (p b : ℕ) → st.due ≡ Preparation p → IsLive u st advice →
    IdLaw (Answered p b ∷ u) true st.row advice
law_preparation u st advice p b is g =
    let fits = due_preparation st.due p st is g.sound.due in
    let none = way_none st.decision u fits.0 g.way in
    record {
      one_way = λ x y. grind (arith, no_commit u none.0);
      all_told = λ k r q. absurd (grind (arith, (g.sound.ended r).1));
      ordered = (none.1, none.0, g.ordered);
      advised = g.advised;
      numbered = λ k. absurd (grind arith);
      decided = g.decided;
      in_row = λ r x.
          let f = g.sound.row r x in
          let old = in_row_good u st advice r g f in
          record {
            no_commit = old.no_commit;
            no_abort = old.no_abort;
            told = old.told;
            joined = λ q. grind (arith, nat_tests, f.doing p is q, count-append q st.members (p ∷ []), g.joined q);
            unadvised = old.unadvised;
          };
    }

pub law_selection : (u : List Deed) (st : Standing) (advice : ℕ → Option (List ℕ)) (p : ℕ) → st.due ≡ Selection p → IsLive u st advice →
    IdLaw (Chose p ∷ u) true st.row advice
law_selection u st advice p is g =
    let fits = due_selection st.due p st is g.sound.due in
    let none = way_none st.decision u fits.0 g.way in
    record {
      one_way = λ x y. grind (arith, no_commit u none.0);
      all_told = λ k r q. absurd (grind (arith, (g.sound.ended r).1));
      ordered = (none.1, none.0, g.ordered);
      advised = g.advised;
      numbered = λ k. absurd (grind arith);
      decided = g.decided;
      in_row = λ r x.
          let old = in_row_good u st advice r g (g.sound.row r x) in
          record { no_commit = old.no_commit; no_abort = old.no_abort; told = old.told; joined = old.joined; unadvised = old.unadvised };
    }

pub law_tell : (u : List Deed) (st : Standing) (advice : ℕ → Option (List ℕ)) (p : ℕ) (a : Option (List ℕ)) → st.due ≡ Telling p → IsLive u st advice
    → IdLaw (Told (commits st.decision) p st.told a ∷ u) true st.row advice
law_tell u st advice p a is g =
    let fits = due_tell st.due p st is g.sound.due in
    let way : GoesOneWay st.decision (Told (commits st.decision) p st.told a ∷ u) = way_told st.decision u p st.told a fits.0 g.way in
    record {
      one_way = way_one st.decision (Told (commits st.decision) p st.told a ∷ u) way;
      all_told = λ k r q. absurd (grind (arith, (g.sound.ended r).1));
      ordered = (g.again st.told (omega arith), g.ordered);
      advised = λ n x y at last. grind (arith, nat_tests, g.quiet n, g.advised n x y at);
      numbered = λ k. absurd (grind arith);
      decided = (outcome_of (last_row u) (commits st.decision) (λ r at. (g.reopened r at).0), g.decided);
      in_row = λ r x.
          let f = g.sound.row r x in
          let old = in_row_good u st advice r g f in
          record {
            no_commit = λ h. way_commit st.decision (Told (commits st.decision) p st.told a ∷ u) way (sym f.phase ∙ h);
            no_abort = λ h. way_abort st.decision (Told (commits st.decision) p st.told a ∷ u) way (sym f.phase ∙ h);
            told = λ n q less at. grind (arith, old.told n q less at);
            joined = old.joined;
            unadvised = old.unadvised;
          };
    }

pub law_recovery : (u : List Deed) (st : Standing) (advice : ℕ → Option (List ℕ)) (p : ℕ) → st.due ≡ Recovery p → IsLive u st advice →
    IdLaw (Recovered p st.told ∷ u) true st.row advice
law_recovery u st advice p is g =
    let fits = due_recovery st.due p st is g.sound.due in
    let way : GoesOneWay st.decision (Recovered p st.told ∷ u) = way_restored st.decision u p st.told fits.0 g.way in
    record {
      one_way = way_one st.decision (Recovered p st.told ∷ u) way;
      all_told = λ k r q. absurd (grind (arith, (g.sound.ended r).1));
      ordered = (g.afresh st.told (omega arith) (λ h e. not_back st g.sound (λ q k. grind (arith, is, k)) h), g.ordered);
      advised = g.advised;
      numbered = λ k. absurd (grind arith);
      decided = g.decided;
      in_row = λ r x.
          let old = in_row_good u st advice r g (g.sound.row r x) in
          record { no_commit = old.no_commit; no_abort = old.no_abort; told = old.told; joined = old.joined; unadvised = old.unadvised };
    }

pub law_made : (d : DueCall) (x : FullReply) (m : Deed) (u : List Deed) (st : Standing) (advice : ℕ → Option (List ℕ)) → st.due ≡ d → Made d x st m →
    IsLive u st advice
    → IdLaw (m ∷ u) true st.row advice
law_made (Preparation p) (Answer b w) m u st advice is made g =
    subst (λ (m : Deed). IdLaw (m ∷ u) true st.row advice) (sym made) (law_preparation u st advice p b is g)
law_made (Selection p) (Chosen w) m u st advice is made g = subst (λ (m : Deed). IdLaw (m ∷ u) true st.row advice) (sym made)
    (law_selection u st advice p is g)
law_made (Telling p) (Advice a) m u st advice is made g = subst (λ (m : Deed). IdLaw (m ∷ u) true st.row advice) (sym made) (law_tell u st advice p a is g)
law_made (Recovery p) Restored m u st advice is made g = subst (λ (m : Deed). IdLaw (m ∷ u) true st.row advice) (sym made) (law_recovery u st advice p is g)
law_made _ _ m u st advice is made g = absurd made

pub law_holds : (known : Bool) (s : Option Standing) (x : Option FullReply) (t : List Deed) (advice : ℕ → Option (List ℕ)) → IdFits known s x t advice →
    IdLaw t known (standing_row s) advice
law_holds false None None t advice h = law_unborn t advice h.0 h.1
law_holds true None None t advice h = law_dead t advice h
law_holds true (Some st) None t advice h = law_good t st advice h
law_holds true (Some st) (Some x) t advice h = subst (λ (t : List Deed). IdLaw t true st.row advice) (sym h.2)
    (law_made st.due x h.0 h.1 st advice refl h.3 h.4)
law_holds false None (Some x) t advice h = absurd h
law_holds false (Some st) x t advice h = absurd h
law_holds true None (Some x) t advice h = absurd h

pub lawful : (a : One) → OneFits a → LawOfOne a
lawful a h = law_holds a.known a.standing a.ahead a.trail a.advice h

-- moves

pub born : (t : List Deed) (st : Standing) (advice : ℕ → Option (List ℕ)) → has_call t ≡ false → ((n : ℕ) → advice n ≡ None) → last_row t ≡ None →
    IsStanding st → st.decision ≡ Undecided → st.told ≡ 0 → IsLive t st advice
born t st advice h none unstopped sound decision told = record {
  sound = sound;
  ordered = none_ordered t h;
  way = way_any st.decision t (none_outcome t h) (none_unstopped t h);
  told = λ n p less is. absurd (omega (arith, told));
  joined = λ p. omega (arith, none_joins p t h);
  again = λ n less. none_may_tell n t (none_outcome t h);
  afresh = λ n less not. none_may_recover n t h;
  quiet = λ n less. none n;
  advised = λ n a g x y. absurd (grind (arith, none n));
  reopened = λ r at. absurd (grind (arith, at, unstopped));
  decided = none_decided t h;
}

pub settle_preparation : (u : List Deed) (st to : Standing) (advice : ℕ → Option (List ℕ)) (p b : ℕ) (w : List ℕ) → st.due ≡ Preparation p →
    IsLive u st advice → Follows (Preparation p) (Answer b w) st to → IsStanding to → IsLive (Answered p b ∷ u) to advice
settle_preparation u st to advice p b w is g f sound =
    let fits = due_preparation st.due p st is g.sound.due in
    let none = way_none st.decision u fits.0 g.way in
    record {
      sound = sound;
      ordered = (none.1, none.0, g.ordered);
      way = way_any to.decision (Answered p b ∷ u) none.0 none.1;
      told = λ n q less at. absurd (omega (arith, f.1, fits.1));
      joined = λ q. rw f.0 (grind (arith, nat_tests, count-append q st.members (p ∷ []), g.joined q));
      again = λ n less. g.again n (omega (arith, f.1));
      afresh = λ n less not. g.afresh n (omega (arith, f.1)) (λ h e. not_back st g.sound (λ q k. grind (arith, is, k)) h);
      quiet = λ n less. g.quiet n (omega (arith, f.1));
      advised = g.advised;
      reopened = λ r at. absurd ((g.reopened r at).1 fits.0);
      decided = g.decided;
    }

pub settle_selection : (u : List Deed) (st to : Standing) (advice : ℕ → Option (List ℕ)) (p : ℕ) (w : List ℕ) → st.due ≡ Selection p → IsLive u st advice →
    Follows (Selection p) (Chosen w) st to → IsStanding to → IsLive (Chose p ∷ u) to advice
settle_selection u st to advice p w is g f sound =
    let fits = due_selection st.due p st is g.sound.due in
    let none = way_none st.decision u fits.0 g.way in
    record {
      sound = sound;
      ordered = (none.1, none.0, g.ordered);
      way = way_any to.decision (Chose p ∷ u) none.0 none.1;
      told = λ n q less at. absurd (omega (arith, f.1, fits.1));
      joined = λ q. rw f.0 (g.joined q);
      again = λ n less. g.again n (omega (arith, f.1));
      afresh = λ n less not. g.afresh n (omega (arith, f.1)) (λ h e. not_back st g.sound (λ q k. grind (arith, is, k)) h);
      quiet = λ n less. g.quiet n (omega (arith, f.1));
      advised = g.advised;
      reopened = λ r at. absurd ((g.reopened r at).1 fits.0);
      decided = g.decided;
    }

pub told_step : (u : List Deed) (ms : List ℕ) (c : Bool) (p told : ℕ) (a : Option (List ℕ)) (n q : ℕ) → n < told + 1 → slice_get ms told ≡ Some p →
    slice_get ms n ≡ Some q
    → (n < told → told_by q n u ≡ true) → told_by q n (Told c p told a ∷ u) ≡ true
told_step u ms c p told a n q less is at old = elim (n == told) as (λ (b : Bool). n == told ≡ b → told_by q n (Told c p told a ∷ u) ≡ true) [
  | true ↦ λ h.
      let same : n ≡ told = grind (arith, nat_tests, h) in
      let both : Some q ≡ Some p = sym at ∙ ap (λ (k : ℕ). slice_get ms k) same ∙ is in
      let equal : q ≡ p = grind (arith, both) in
      grind (arith, nat_tests, same, equal)
  | false ↦ λ h. grind (arith, nat_tests, h, old)
] refl

pub quiet_step : (advice : ℕ → Option (List ℕ)) (p told : ℕ) (a : Option (List ℕ)) (n : ℕ) → told + 1 ≤ n → advice n ≡ None →
    advised (Telling p) (Advice a) told advice n ≡ None
quiet_step advice p told None n less h = h
quiet_step advice p told (Some a) n less h = grind (arith, nat_tests, h)

pub advised_step : (advice : ℕ → Option (List ℕ)) (u : List Deed) (c : Bool) (p told : ℕ) (a : Option (List ℕ)) (n : ℕ) (x : List ℕ) (y : Option (List ℕ))
    → (advice told ≡ None) → (advice n ≡ Some x → last_told n u ≡ Some y → y ≡ Some x)
    → advised (Telling p) (Advice a) told advice n ≡ Some x → last_told n (Told c p told a ∷ u) ≡ Some y → y ≡ Some x
advised_step advice u c p told None n x y none old at last = grind (arith, nat_tests, none, old, at, last)
advised_step advice u c p told (Some a) n x y none old at last = grind (arith, nat_tests, none, old, at, last)

pub settle_tell : (u : List Deed) (st to : Standing) (advice : ℕ → Option (List ℕ)) (p : ℕ) (a : Option (List ℕ)) → st.due ≡ Telling p →
    IsLive u st advice → Follows (Telling p) (Advice a) st to → IsStanding to
    → IsLive (Told (commits st.decision) p st.told a ∷ u) to (advised (Telling p) (Advice a) st.told advice)
settle_tell u st to advice p a is g f sound =
    let fits = due_tell st.due p st is g.sound.due in
    let way : GoesOneWay st.decision (Told (commits st.decision) p st.told a ∷ u) = way_told st.decision u p st.told a fits.0 g.way in
    record {
      sound = sound;
      ordered = (g.again st.told (omega arith), g.ordered);
      way = subst (λ (m : Decision). GoesOneWay m (Told (commits st.decision) p st.told a ∷ u)) (sym f.2) way;
      told = λ n q less at.
          let was : slice_get st.members n ≡ Some q = subst (λ (ms : List ℕ). slice_get ms n ≡ Some q) f.0 at in
          told_step u st.members (commits st.decision) p st.told a n q (omega (arith, f.1)) fits.1 was (λ k. g.told n q k was);
      joined = λ q. rw f.0 (g.joined q);
      again = λ n less. grind (arith, nat_tests, g.again n (omega (arith, f.1)), f.1);
      afresh = λ n less not. grind (arith, nat_tests, g.afresh n (omega (arith, f.1)) (λ h e. omega (arith, e, less, f.1)), f.1, less);
      quiet = λ n less. quiet_step advice p st.told a n (omega (arith, f.1)) (g.quiet n (omega (arith, f.1)));
      advised = λ n x y at last. advised_step advice u (commits st.decision) p st.told a n x y (g.quiet st.told (omega arith)) (g.advised n x y) at last;
      reopened = λ r at. (let w = g.reopened r at in (ap commits f.2 ∙ w.0, λ e. w.1 (sym f.2 ∙ e)));
      decided = (outcome_of (last_row u) (commits st.decision) (λ r at. (g.reopened r at).0), g.decided);
    }

pub settle_recovery : (u : List Deed) (st to : Standing) (advice : ℕ → Option (List ℕ)) (p : ℕ) → st.due ≡ Recovery p → IsLive u st advice →
    Follows (Recovery p) Restored st to → IsStanding to
    → IsLive (Recovered p st.told ∷ u) to advice
settle_recovery u st to advice p is g f sound =
    let fits = due_recovery st.due p st is g.sound.due in
    let never : st.restored ≡ true → ⊥ = not_back st g.sound (λ q k. grind (arith, is, k)) in
    record {
      sound = sound;
      ordered = (g.afresh st.told (omega arith) (λ h e. never h), g.ordered);
      way = subst (λ (m : Decision). GoesOneWay m (Recovered p st.told ∷ u)) (sym f.2) (way_restored st.decision u p st.told fits.0 g.way);
      told = λ n q less at. g.told n q (omega (arith, f.1)) (subst (λ (ms : List ℕ). slice_get ms n ≡ Some q) f.0 at);
      joined = λ q. rw f.0 (g.joined q);
      again = λ n less. g.again n (omega (arith, f.1));
      afresh = λ n less not.
          let other : n ≡ st.told → ⊥ = λ e. not f.3 (e ∙ sym f.1) in
          grind (arith, nat_tests, g.afresh n (omega (arith, f.1)) (λ h e. never h), other);
      quiet = λ n less. g.quiet n (omega (arith, f.1));
      advised = g.advised;
      reopened = λ r at. (let w = g.reopened r at in (ap commits f.2 ∙ w.0, λ e. w.1 (sym f.2 ∙ e)));
      decided = g.decided;
    }

pub settle : (d : DueCall) (x : FullReply) (m : Deed) (u : List Deed) (st to : Standing) (advice : ℕ → Option (List ℕ)) → st.due ≡ d → Made d x st m →
    IsLive u st advice → Follows d x st to → IsStanding to
    → IsLive (m ∷ u) to (advised d x st.told advice)
settle (Preparation p) (Answer b w) m u st to advice is made g f sound =
    subst (λ (m : Deed). IsLive (m ∷ u) to advice) (sym made) (settle_preparation u st to advice p b w is g f sound)
settle (Selection p) (Chosen w) m u st to advice is made g f sound =
    subst (λ (m : Deed). IsLive (m ∷ u) to advice) (sym made) (settle_selection u st to advice p w is g f sound)
settle (Telling p) (Advice a) m u st to advice is made g f sound =
    subst (λ (m : Deed). IsLive (m ∷ u) to (advised (Telling p) (Advice a) st.told advice)) (sym made) (settle_tell u st to advice p a is g f sound)
settle (Recovery p) Restored m u st to advice is made g f sound =
    subst (λ (m : Deed). IsLive (m ∷ u) to advice) (sym made) (settle_recovery u st to advice p is g f sound)
settle _ _ m u st to advice is made g f sound = absurd made

pub good_dead : (t : List Deed) (st : Standing) (advice : ℕ → Option (List ℕ)) → IsLive t st advice → st.members ≡ [] → IsOver t advice
good_dead t st advice g none = record {
  one_way = way_one st.decision t g.way;
  all_told = λ p. let old : joins_of p t ≤ count p [] = subst (λ (ms : List ℕ). joins_of p t ≤ count p ms) none (g.joined p) in (0, old);
  ordered = g.ordered;
  advised = g.advised;
  decided = g.decided;
}

pub without_none : (k n : ℕ) (advice : ℕ → Option (List ℕ)) → advice n ≡ None → without k advice n ≡ None
without_none k n advice h = grind (arith, nat_tests, h)

pub without_some : (k n : ℕ) (advice : ℕ → Option (List ℕ)) (x : List ℕ) → without k advice n ≡ Some x → advice n ≡ Some x
without_some k n advice x h = grind (arith, nat_tests, h)

pub good_acked : (k : ℕ) (t : List Deed) (st : Standing) (advice : ℕ → Option (List ℕ)) → IsLive t st advice → IsLive t st (without k advice)
good_acked k t st advice g = record {
  sound = g.sound;
  ordered = g.ordered;
  way = g.way;
  told = g.told;
  joined = g.joined;
  again = g.again;
  afresh = g.afresh;
  quiet = λ n less. without_none k n advice (g.quiet n less);
  advised = λ n x y at last. g.advised n x y (without_some k n advice x at) last;
  reopened = g.reopened;
  decided = g.decided;
}

pub acked : (k : ℕ) (known : Bool) (s : Option Standing) (x : Option FullReply) (t : List Deed) (advice : ℕ → Option (List ℕ)) → IdFits known s x t advice →
    IdFits known s x t (without k advice)
acked k false None None t advice h = (h.0, λ n. without_none k n advice (h.1 n), h.2)
acked k true None None t advice h = record {
  one_way = h.one_way;
  all_told = h.all_told;
  ordered = h.ordered;
  advised = λ n x y at last. h.advised n x y (without_some k n advice x at) last;
  decided = h.decided;
}
acked k true (Some st) None t advice h = good_acked k t st advice h
acked k true (Some st) (Some x) t advice h = (h.0, h.1, h.2, h.3, good_acked k h.1 st advice h.4)
acked k false None (Some x) t advice h = absurd h
acked k false (Some st) x t advice h = absurd h
acked k true None (Some x) t advice h = absurd h

-- stops

pub untold_from : (ph : Phase) (told n : ℕ) → told ≤ n → untold_in ph told n ≡ true
untold_from Preparing told n less = refl
untold_from Aborting told n less = refl
untold_from Committing told n less = grind (arith, nat_tests)
untold_from Undoing told n less = grind (arith, nat_tests)

pub reopened_way : (b : Bool) (m : Decision) (t : List Deed) → m ≡ (if b then ToCommit else ToAbort) → (b ≡ false → has_commit t ≡ false) →
    (b ≡ true → has_abort t ≡ false) → GoesOneWay m t
reopened_way true m t is no_commit no_abort = subst (λ (m : Decision). GoesOneWay m t) (sym is) (no_abort refl)
reopened_way false m t is no_commit no_abort = subst (λ (m : Decision). GoesOneWay m t) (sym is) (no_commit refl)

pub reopened_not : (b : Bool) (m : Decision) → m ≡ (if b then ToCommit else ToAbort) → m ≡ Undecided → ⊥
reopened_not true m is h = grind (arith, is, h)
reopened_not false m is h = grind (arith, is, h)

same_row : (r q : Row) → Some r ≡ Some q → r ≡ q
same_row r q e = grind (arith, e)

pub reopened_good : (t : List Deed) (known : Bool) (r : Row) (st : Standing) (advice : ℕ → Option (List ℕ)) → IdLaw t known (Some r) advice →
    Reopened r st → IsLive (Stopped (Some r) ∷ t) st advice
reopened_good t known r st advice law o =
    let f : IsRowOf st r = o.sound.row r o.row in
    let i : InRow t r advice = law.in_row r refl in
    record {
      sound = o.sound;
      ordered = law.ordered;
      way = reopened_way (is_committing r.phase) st.decision (Stopped (Some r) ∷ t) o.decision i.no_commit i.no_abort;
      told = λ n p less at. i.told n p (omega (arith, f.told)) (f.members n (omega (arith, f.told)) ∙ at);
      joined = λ p. omega (arith, i.joined p, o.members p);
      again = λ n less. let new : untold_in r.phase r.told n ≡ true = untold_from r.phase r.told n (omega (arith, f.told)) in grind (arith, new);
      afresh = λ n less not. let new : untold_in r.phase r.told n ≡ true = untold_from r.phase r.told n (omega (arith, f.told)) in grind (arith, new);
      quiet = λ n less. i.unadvised n (omega (arith, f.told));
      advised = law.advised;
      reopened = λ q at. (
        sym f.phase ∙ ap (λ (r : Row). is_committing r.phase) (same_row r q at),
        reopened_not (is_committing r.phase) st.decision o.decision,
      );
      decided = law.decided;
    }

-- what is opened on a view for which the law holds
pub opened : (known : Bool) (row : Option Row) (to : Option Standing) (t : List Deed) (advice : ℕ → Option (List ℕ))
    → (known ≡ false → (row ≡ None) × ((n : ℕ) → advice n ≡ None)) → IdLaw t known row advice → Reopens row to → IdFits known to None (Stopped row ∷ t) advice
opened false None to t advice ok law re = subst (λ (to : Option Standing). IdFits false to None (Stopped None ∷ t) advice) (sym re) (
  law.numbered refl,
  (ok refl).1,
  refl,
)
opened false (Some r) to t advice ok law re = absurd (grind (arith, (ok refl).0))
opened true None to t advice ok law re = subst (λ (to : Option Standing). IdFits true to None (Stopped None ∷ t) advice) (sym re)
    (record { one_way = law.one_way; all_told = law.all_told refl refl; ordered = law.ordered; advised = law.advised; decided = law.decided })
opened true (Some r) to t advice ok law re = subst (λ (to : Option Standing). IdFits true to None (Stopped (Some r) ∷ t) advice) (sym re.1)
    (reopened_good t true r re.0 advice law re.2)

pub unborn_ok : (known : Bool) (s : Option Standing) (x : Option FullReply) (t : List Deed) (advice : ℕ → Option (List ℕ)) → IdFits known s x t advice →
    known ≡ false → (standing_row s ≡ None) × ((n : ℕ) → advice n ≡ None)
unborn_ok false None None t advice h k = (refl, h.1)
unborn_ok false None (Some x) t advice h k = absurd h
unborn_ok false (Some st) x t advice h k = absurd h
unborn_ok true s x t advice h k = absurd (grind arith)

-- each move

pub born_holds : (known : Bool) (s : Option Standing) (x : Option FullReply) (t : List Deed) (advice : ℕ → Option (List ℕ)) (st : Standing) →
    IdFits known s x t advice → known ≡ false → IsStanding st → st.decision ≡ Undecided → st.told ≡ 0
    → IdFits true (Some st) x t advice
born_holds false None None t advice st h k sound decision told = born t st advice h.0 h.1 h.2 sound decision told
born_holds false None (Some x) t advice st h k sound decision told = absurd h
born_holds false (Some old) x t advice st h k sound decision told = absurd h
born_holds true s x t advice st h k sound decision told = absurd (grind arith)

pub call_holds : (known : Bool) (t : List Deed) (advice : ℕ → Option (List ℕ)) (st : Standing) (x : FullReply) (m : Deed) →
    IdFits known (Some st) None t advice → Made st.due x st m → IdFits known (Some st) (Some x) (m ∷ t) advice
call_holds false t advice st x m h made = absurd h
call_holds true t advice st x m h made = (m, t, refl, made, h)

pub settle_holds : (known : Bool) (t : List Deed) (advice : ℕ → Option (List ℕ)) (st to : Standing) (x : FullReply) →
    IdFits known (Some st) (Some x) t advice → Follows st.due x st to → IsStanding to
    → IdFits known (Some to) None t (advised st.due x st.told advice)
settle_holds false t advice st to x h f sound = absurd h
settle_holds true t advice st to x h f sound = subst (λ (t : List Deed). IsLive t to (advised st.due x st.told advice)) (sym h.2)
    (settle st.due x h.0 h.1 st to advice refl h.3 h.4 f sound)

pub close_holds : (known : Bool) (t : List Deed) (advice : ℕ → Option (List ℕ)) (st : Standing) → IdFits known (Some st) None t advice → st.members ≡ [] →
    IdFits known None None t advice
close_holds false t advice st h none = absurd h
close_holds true t advice st h none = good_dead t st advice h none

pub moved : (mv : Move) (a b : One) → OneFits a → Moves mv a b → OneFits b
moved (Born st) a b h m = subst OneFits (sym m.4) (born_holds a.known a.standing a.ahead a.trail a.advice st h m.0 m.1 m.2 m.3)
moved (Call x k) a b h m =
    let was : IdFits a.known (Some m.0) None a.trail a.advice = subst (λ (o : Option FullReply). IdFits a.known (Some m.0) o a.trail a.advice) m.2
    (subst (λ (s : Option Standing). IdFits a.known s a.ahead a.trail a.advice) m.1 h) in
    let next : IdFits a.known a.standing (Some x) (k ∷ a.trail) a.advice = subst (λ (s : Option Standing). IdFits a.known s (Some x) (k ∷ a.trail) a.advice)
    (sym m.1) (call_holds a.known a.trail a.advice m.0 x k was m.3) in
    subst OneFits (sym m.4) next
moved (Settle to) a b h m =
    let was : IdFits a.known (Some m.0) (Some m.1) a.trail a.advice = subst (λ (o : Option FullReply). IdFits a.known (Some m.0) o a.trail a.advice) m.3
    (subst (λ (s : Option Standing). IdFits a.known s a.ahead a.trail a.advice) m.2 h) in
    subst OneFits (sym m.6) (settle_holds a.known a.trail a.advice m.0 to m.1 was m.4 m.5)
moved Close a b h m =
    let was : IdFits a.known (Some m.0) None a.trail a.advice = subst (λ (o : Option FullReply). IdFits a.known (Some m.0) o a.trail a.advice) m.2
    (subst (λ (s : Option Standing). IdFits a.known s a.ahead a.trail a.advice) m.1 h) in
    let next : IdFits a.known None a.ahead a.trail a.advice = subst (λ (o : Option FullReply). IdFits a.known None o a.trail a.advice) (sym m.2)
    (close_holds a.known a.trail a.advice m.0 was m.3) in
    subst OneFits (sym m.4) next
moved (Ack k) a b h m = subst OneFits (sym m) (acked k a.known a.standing a.ahead a.trail a.advice h)
moved (Stop to) a b h m = subst OneFits (sym m.1) (opened a.known (standing_row a.standing) to a.trail a.advice
    (unborn_ok a.known a.standing a.ahead a.trail a.advice h) (lawful a h) m.0)
