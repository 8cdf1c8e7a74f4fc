-- Messages that are passed over, whose headers are given back.
-- for: passing, leg::Switch, stream::Switch
use Rattle.std.proofs.Common.{◌≡◌, ◌<◌, ◌≤◌, ℕ, ◌+◌, arith, List, [], ◌∷◌, ◌++◌, length, map, take, drop, take-append-drop, get_or, Option, sym, ap, subst, ◌∙◌}
use Rattle.std.proofs.lemmas.List.{length-append, map-append, take_all, take_more}
use Rattle.std.specs.Io.KnownBytes.{Appends}
use Rattle.sw_frame.specs.Stream.{AreFramed}
use Rattle.run_input.specs.declared.arrival.PassedOver.{PassedOver}
use Rattle.run_switch.specs.Points.{Point, all_answered}
use Rattle.run_switch.specs.Rounds.{Returned, Round, if_header, returning}
use Rattle.run_switch.specs.Stopped.{DrainsSome, Halts, HaltsThen}
use Rattle.run_switch.specs.Traces.{Log, PassesOver, Reports, Tells}
use Rattle.run_switch.proofs.Rounds.{reports_none, reports_then, serves_returned}
use Rattle.run_switch.proofs.Stops.{halts_before, halts_none, halts_then}

-- a header that has bytes is given back
pub framed_back : (h text : List ℕ) → 0 < length h → AreFramed text (h ∷ []) → AreFramed text (if_header h)
framed_back [] text some framed = absurd (omega (arith, some))
framed_back (byte ∷ more) text some framed = framed

-- the headers of messages
abbrev pub headers : List PassedOver → List (List ℕ)
headers list = map (λ m. m.header.items) list

pub passes_none : (a : Option (List ℕ)) (l : Log) → PassesOver [] a l a l
passes_none a l = λ p. reports_none p a l

pub passes_one : (h : List ℕ) (text : List ℕ) (a b : Option (List ℕ)) (k l : Log) → AreFramed text (if_header h) → Appends a b text → Tells [] 1 k l
    → PassesOver (h ∷ []) a k b l
passes_one h text a b k l framed appends tells = λ p. record { serves = serves_returned h p text a b framed appends; tells = tells }

returning_append : (hs gs : List (List ℕ)) → returning (hs ++ gs) ≡ returning hs ++ returning gs
returning_append hs gs = map-append Returned hs gs

passes_both : (hs gs : List (List ℕ)) (a b c : Option (List ℕ)) (k l m : Log) → PassesOver hs a k b l → PassesOver gs b l c m → PassesOver (hs ++ gs) a k c m
passes_both hs gs a b c k l m s t = λ p.
    subst (λ (i : ℕ). Reports (returning (hs ++ gs)) i p a k p c m) (sym (length-append hs gs))
    (subst (λ (rs : List Round). Reports rs (length hs + length gs) p a k p c m) (sym (returning_append hs gs))
    (reports_then (returning hs) (returning gs) (length hs) (length gs) p p p a b c k l m (s p) (t p)))

-- one more of a list

headers_next : (list : List PassedOver) (i : ℕ) (m : PassedOver) → i < length list → m ≡ get_or list i m
    → headers (take (i + 1) list) ≡ headers (take i list) ++ m.header.items ∷ []
headers_next list i m lt at =
    let more : take (i + 1) list ≡ take i list ++ m ∷ [] = take_more list i m lt ∙ ap (λ (v : PassedOver). take i list ++ v ∷ []) (sym at) in
    ap headers more ∙ map-append (λ (v : PassedOver). v.header.items) (take i list) (m ∷ [])

pub passes_more : (list : List PassedOver) (i : ℕ) (m : PassedOver) (a b c : Option (List ℕ)) (k l o : Log) → i < length list → m ≡ get_or list i m
    → PassesOver (headers (take i list)) a k b l → PassesOver (m.header.items ∷ []) b l c o → PassesOver (headers (take (i + 1) list)) a k c o
passes_more list i m a b c k l o lt at s t =
    subst (λ (hs : List (List ℕ)). PassesOver hs a k c o) (sym (headers_next list i m lt at))
    (passes_both (headers (take i list)) (m.header.items ∷ []) a b c k l o s t)

-- all of a list
pub passes_all : (list : List PassedOver) (i : ℕ) (a b : Option (List ℕ)) (k l : Log) → length list ≤ i → PassesOver (headers (take i list)) a k b l
    → PassesOver (headers list) a k b l
passes_all list i a b k l le s = subst (λ (ms : List PassedOver). PassesOver (headers ms) a k b l) (take_all i list le) s

-- up to an error

pub halts_more : (list : List PassedOver) (i : ℕ) (m : PassedOver) (p : Point) (a b c : Option (List ℕ)) (k l : Log) → i < length list → m ≡ get_or list i m
    → PassesOver (headers (take i list)) a k b l → Halts (returning (m.header.items ∷ [])) p b c → Halts (returning (headers list)) p a c
halts_more list i m p a b c k l lt at s h =
    let first : Halts (returning (headers (take i list)) ++ returning (m.header.items ∷ [])) p a c =
    halts_then (returning (headers (take i list))) (returning (m.header.items ∷ [])) p p a b c (s p).serves h in
    let here : Halts (returning (headers (take (i + 1) list))) p a c =
    subst (λ (rs : List Round). Halts rs p a c)
    (sym (returning_append (headers (take i list)) (m.header.items ∷ [])) ∙ ap returning (sym (headers_next list i m lt at))) first in
    let halves : headers (take (i + 1) list) ++ headers (drop (i + 1) list) ≡ headers list =
    sym (map-append (λ (v : PassedOver). v.header.items) (take (i + 1) list) (drop (i + 1) list)) ∙ ap headers (take-append-drop (i + 1) list) in
    subst (λ (rs : List Round). Halts rs p a c)
    (sym (returning_append (headers (take (i + 1) list)) (headers (drop (i + 1) list))) ∙ ap returning halves)
    (halts_before (returning (headers (take (i + 1) list))) (returning (headers (drop (i + 1) list))) p a c here)

-- before what comes at the end of a leg

pub then_at_once : (hs : List (List ℕ)) (p : Point) (a : Option (List ℕ)) → HaltsThen (returning hs) p a a
then_at_once hs p a = record { retries = []; are_retries = tt; halts = halts_none (returning hs ++ []) p a }

pub then_passing : (hs : List (List ℕ)) (p : Point) (a b : Option (List ℕ)) → Halts (returning hs) p a b → HaltsThen (returning hs) p a b
then_passing hs p a b h = record { retries = []; are_retries = tt; halts = halts_before (returning hs) [] p a b h }

pub then_drained : (hs : List (List ℕ)) (p q : Point) (a b c : Option (List ℕ)) (i j : Log) → PassesOver hs a i b j → q ≡ all_answered p → DrainsSome q b c
    → HaltsThen (returning hs) (all_answered p) a c
then_drained hs p q a b c i j passes same drains = record {
  retries = drains.rounds;
  are_retries = drains.retries;
  halts = halts_then (returning hs) drains.rounds (all_answered p) (all_answered p) a b c (passes (all_answered p)).serves
      (subst (λ (z : Point). Halts drains.rounds z b c) same drains.halts);
}
