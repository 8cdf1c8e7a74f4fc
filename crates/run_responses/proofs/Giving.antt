-- What a sink of responses gives, one step after another.
-- for: sink::Responses
use Rattle.std.proofs.Common.{◌≡◌, ◌⊎◌, ℕ, true, false, List, [], ◌∷◌, ◌++◌, map, Option, Some, None, refl, sym, ap, subst, ◌∙◌, inl, inr}
use Rattle.std.proofs.Common.{append-nil, append_assoc}
use Rattle.std.proofs.lemmas.List.{map-append}
use Rattle.std.specs.BTreeMap.{insert_entry}
use Rattle.std.specs.Io.KnownBytes.{Appends}
use Rattle.std.specs.Ordering.{nat_cmp}
use Rattle.cli_io.specs.Written.{AppendsBeginning}
use Rattle.sw_context.specs.Pairs.{Pairs}
use Rattle.sw_frame.specs.Stream.{AreFramed}
use Rattle.sw_frame.proofs.Frames.{AreFramed-append}
use Rattle.run_responses.specs.Responses.{response, responses, with_response}
use Rattle.run_responses.specs.Giving.{AreAmong, Giving, Gives, IfByEnd}
use Rattle.run_responses.specs.declared.sink.ResponseOrder.{ResponseOrder}
use Rattle.run_responses.specs.declared.sink.ResponseOrder.TheVariants.{ByEnd, ById}
use Rattle.run_responses.proofs.Among.{are_all, are_both, are_later, are_left, are_right, are_through, inserted, is_first}
use Rattle.run_responses.proofs.Ended.{with_response_before}

-- ---- bytes

pub appends_none : (o : Option (List ℕ)) → Appends o o []
appends_none None = tt
appends_none (Some xs) = sym (append-nil xs)

pub appends_then : (o p q : Option (List ℕ)) (t u : List ℕ) → Appends o p t → Appends p q u → Appends o q (t ++ u)
appends_then None p q t u h k = tt
appends_then (Some xs) None q t u h k = absurd h
appends_then (Some xs) (Some ys) None t u h k = absurd k
appends_then (Some xs) (Some ys) (Some zs) t u h k = k ∙ ap (λ l. l ++ u) h ∙ append_assoc xs t u

pub begins_none : (o : Option (List ℕ)) → AppendsBeginning o o []
begins_none o = ([], [], refl, appends_none o)

-- all of a text, and then a beginning of another
pub begins_then : (o p q : Option (List ℕ)) (t u : List ℕ) → Appends o p t → AppendsBeginning p q u → AppendsBeginning o q (t ++ u)
begins_then o p q t u h (first, rest, is, k) = (t ++ first, rest, rw is (sym (append_assoc t first rest)), appends_then o p q t first h k)

-- ---- responses

pub responses_then : (ps qs : List (ℕ × Pairs)) → responses (ps ++ qs) ≡ responses ps ++ responses qs
responses_then [] qs = refl
responses_then (a ∷ ps) qs = ap (with_response (response a.1)) (responses_then ps qs) ∙ with_response_before (response a.1) (responses ps) (responses qs)

-- ---- steps

-- in one order the fact, in the other nothing
pub if_by_end : (o : ResponseOrder) (P : Type 0) → P → IfByEnd o P
if_by_end ByEnd P h = h
if_by_end ById P h = tt

pub both_by_end : (o : ResponseOrder) (P Q R : Type 0) → (P → Q → R) → IfByEnd o P → IfByEnd o Q → IfByEnd o R
both_by_end ByEnd P Q R f p q = f p q
both_by_end ById P Q R f p q = tt

-- nothing is taken, and nothing given
pub gives_none : (z : Giving) → Gives z [] z
gives_none z = record {
  list = [];
  text = [];
  framed = refl;
  some = begins_none z.out;
  all = λ _. appends_none z.out;
  ids = λ _. sym (append-nil z.given);
  among = tt;
  held = subst (AreAmong z.held) (sym (append-nil z.held)) (are_all z.held);
  order = refl;
  by_end = if_by_end z.order _ (λ _. (refl, refl));
}

-- of those that one step held back, and of more
among_then : (xs ps qs ys es : List (ℕ × Pairs)) → AreAmong ys (xs ++ ps) → AreAmong es (ys ++ qs) → AreAmong es (xs ++ (ps ++ qs))
among_then xs ps qs ys es h k =
    let ys' : AreAmong ys (xs ++ (ps ++ qs)) = subst (AreAmong ys) (append_assoc xs ps qs) (are_left ys (xs ++ ps) qs h) in
    let qs' : AreAmong qs (xs ++ (ps ++ qs)) = are_right qs xs (ps ++ qs) (are_right qs ps qs (are_all qs)) in
    are_through es (ys ++ qs) (xs ++ (ps ++ qs)) k (are_both ys qs (xs ++ (ps ++ qs)) ys' qs')

among_more : (xs ps qs es : List (ℕ × Pairs)) → AreAmong es (xs ++ ps) → AreAmong es (xs ++ (ps ++ qs))
among_more xs ps qs es h = subst (AreAmong es) (append_assoc xs ps qs) (are_left es (xs ++ ps) qs h)

-- one step after another
pub gives_then : (x : Giving) (ps : List (ℕ × Pairs)) (y : Giving) (qs : List (ℕ × Pairs)) (z : Giving) → Gives x ps y → y.failed ≡ false → Gives y qs z →
    Gives x (ps ++ qs) z
gives_then x ps y qs z g ok h = record {
  list = g.list ++ h.list;
  text = g.text ++ h.text;
  framed = subst (AreFramed (g.text ++ h.text)) (sym (responses_then g.list h.list))
      (AreFramed-append g.text (responses g.list) h.text (responses h.list) g.framed h.framed);
  some = begins_then x.out y.out z.out g.text h.text (g.all ok) h.some;
  all = λ fine. appends_then x.out y.out z.out g.text h.text (g.all ok) (h.all fine);
  ids = λ fine. h.ids fine ∙ ap (λ l. l ++ map (λ (e : ℕ × Pairs). e.0) h.list) (g.ids ok)
      ∙ append_assoc x.given (map (λ e. e.0) g.list) (map (λ e. e.0) h.list)
      ∙ ap (λ l. x.given ++ l) (sym (map-append (λ (e : ℕ × Pairs). e.0) g.list h.list));
  among = are_both g.list h.list (x.held ++ (ps ++ qs)) (among_more x.held ps qs g.list g.among) (among_then x.held ps qs y.held h.list g.held h.among);
  held = among_then x.held ps qs y.held z.held g.held h.held;
  order = h.order ∙ g.order;
  by_end = both_by_end x.order _ _ _ (λ p q fine. (
    ap (λ l. l ++ h.list) (p ok).0 ∙ ap (λ l. ps ++ l) (q fine).0,
    (q fine).1 ∙ (p ok).1,
  )) g.by_end (subst (λ o. IfByEnd o (z.failed ≡ false → (h.list ≡ qs) × (z.held ≡ y.held))) g.order h.by_end);
}

-- what is taken after a fault changes nothing
pub gives_more : (x : Giving) (ps qs : List (ℕ × Pairs)) (y : Giving) → Gives x ps y → y.failed ≡ true → Gives x (ps ++ qs) y
gives_more x ps qs y g bad =
    let not : y.failed ≡ false → ⊥ = λ fine. cc in
    record {
      list = g.list;
      text = g.text;
      framed = g.framed;
      some = g.some;
      all = g.all;
      ids = g.ids;
      among = among_more x.held ps qs g.list g.among;
      held = among_more x.held ps qs y.held g.held;
      order = g.order;
      by_end = if_by_end x.order _ (λ fine. absurd (not fine));
    }

-- ---- what a sink does

-- the response of this one was given
pub gives_one : (z : Giving) (id : ℕ) (x : Pairs) (text : List ℕ) (y : Giving) → AreFramed text (responses ((id, x) ∷ [])) → Appends z.out y.out text
    → y.given ≡ z.given ++ id ∷ [] → y.held ≡ z.held → y.order ≡ z.order → Gives z ((id, x) ∷ []) y
gives_one z id x text y framed out given held order = record {
  list = (id, x) ∷ [];
  text = text;
  framed = framed;
  some = (text, [], sym (append-nil text), out);
  all = λ _. out;
  ids = λ _. given;
  among = are_right ((id, x) ∷ []) z.held ((id, x) ∷ []) (are_all ((id, x) ∷ []));
  held = subst (λ h. AreAmong h (z.held ++ (id, x) ∷ [])) (sym held) (are_left z.held z.held ((id, x) ∷ []) (are_all z.held));
  order = order;
  by_end = if_by_end z.order _ (λ _. (refl, held));
}

-- a fault was met, with none of its text or a beginning of it
pub gives_part : (z : Giving) (id : ℕ) (x : Pairs) (list : List (ℕ × Pairs)) (text : List ℕ) (y : Giving) → (list ≡ []) ⊎ (list ≡ (id, x) ∷ [])
    → AreFramed text (responses list) → AppendsBeginning z.out y.out text → y.failed ≡ true → y.held ≡ z.held → y.order ≡ z.order → Gives z ((id, x) ∷ []) y
gives_part z id x list text y some framed out bad held order =
    let not : y.failed ≡ false → ⊥ = λ fine. cc in
    record {
      list = list;
      text = text;
      framed = framed;
      some = out;
      all = λ fine. absurd (not fine);
      ids = λ fine. absurd (not fine);
      among = elim some [
        | inl none ↦ subst (λ l. AreAmong l (z.held ++ (id, x) ∷ [])) (sym none) tt
        | inr one ↦ subst (λ l. AreAmong l (z.held ++ (id, x) ∷ [])) (sym one) (are_right ((id, x) ∷ []) z.held ((id, x) ∷ []) (are_all ((id, x) ∷ [])))
      ];
      held = subst (λ h. AreAmong h (z.held ++ (id, x) ∷ [])) (sym held) (are_left z.held z.held ((id, x) ∷ []) (are_all z.held));
      order = order;
      by_end = if_by_end z.order _ (λ fine. absurd (not fine));
    }

by_id : (o : ResponseOrder) (P : Type 0) → o ≡ ById → IfByEnd o P
by_id o P is = subst (λ n. IfByEnd n P) (sym is) tt

-- the response of this one is held back
pub gives_held : (z : Giving) (id : ℕ) (x : Pairs) (y : Giving) → y.held ≡ insert_entry nat_cmp z.held id x → y.out ≡ z.out → y.given ≡ z.given
    → y.order ≡ z.order → z.order ≡ ById → Gives z ((id, x) ∷ []) y
gives_held z id x y held out given order by = record {
  list = [];
  text = [];
  framed = refl;
  some = subst (λ o. AppendsBeginning z.out o []) (sym out) (begins_none z.out);
  all = λ _. subst (λ o. Appends z.out o []) (sym out) (appends_none z.out);
  ids = λ _. given ∙ sym (append-nil z.given);
  among = tt;
  held = subst (λ h. AreAmong h (z.held ++ (id, x) ∷ [])) (sym held) (inserted z.held id x);
  order = order;
  by_end = by_id z.order _ by;
}

-- the first that was held back is given
pub gives_popped : (z w : Giving) (id : ℕ) (x : Pairs) (y : Giving) → z.held ≡ (id, x) ∷ w.held → w.out ≡ z.out → w.given ≡ z.given → w.order ≡ z.order
    → z.order ≡ ById → Gives w ((id, x) ∷ []) y → Gives z [] y
gives_popped z w id x y held out given order by g =
    let later = are_later w.held (id, x) w.held (are_all w.held) in
    let one : AreAmong ((id, x) ∷ []) ((id, x) ∷ w.held) = (is_first (id, x) w.held, tt) in
    let all = are_both w.held ((id, x) ∷ []) ((id, x) ∷ w.held) later one in
    let all' : AreAmong (w.held ++ (id, x) ∷ []) (z.held ++ []) =
    subst (AreAmong (w.held ++ (id, x) ∷ [])) (sym held ∙ sym (append-nil z.held)) all in
    record {
      list = g.list;
      text = g.text;
      framed = g.framed;
      some = subst (λ o. AppendsBeginning o y.out g.text) out g.some;
      all = λ fine. subst (λ o. Appends o y.out g.text) out (g.all fine);
      ids = λ fine. g.ids fine ∙ ap (λ l. l ++ map (λ (e : ℕ × Pairs). e.0) g.list) given;
      among = are_through g.list (w.held ++ (id, x) ∷ []) (z.held ++ []) g.among all';
      held = are_through y.held (w.held ++ (id, x) ∷ []) (z.held ++ []) g.held all';
      order = g.order ∙ order;
      by_end = by_id z.order _ by;
    }
