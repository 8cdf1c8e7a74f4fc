-- A way through the flow of a checked set-up is sound.
-- for: laws::checked_ways_are_sound
use Rattle.std.proofs.Common.{◌≡◌, ◌⊎◌, inl, inr, ◌∙◌, ◌+◌, ◌∷◌, ◌++◌, [], ◌&&◌, ◌||◌, not, ℕ, zero, suc, Bool, true, false, List, Some, ap, arith, codes, drop, refl}
use Rattle.std.proofs.Common.{slice_get, subst, sym, take, true≢false, if◌then◌else◌}
use Rattle.std.specs.List.{list_any}
use Rattle.std.specs.Str.{bytes_eq}
use Rattle.std.proofs.lemmas.List.{append_assoc}
use Rattle.std.proofs.lemmas.Slice.Eq.{bytes_eq-Decides}
use Rattle.flow_model.specs.declared.flow.Flow.{Flow}
use Rattle.flow_model.specs.declared.flow.Group.{Group}
use Rattle.flow_model.specs.declared.flow.Entry.{Entry}
use Rattle.sw_rules.specs.Checked.{IsSetUpChecked}
use Rattle.sw_rules.specs.Flows.{after_route, before_route, entries_in, has, is_main, picks_groups}
use Rattle.sw_rules.specs.Rules.{answers_requests, asks, is_group, is_own, is_picked, needs_stand_in}
use Rattle.sw_rules.specs.declared.set_up.SetUp.{SetUp}
use Rattle.sw_rules.specs.declared.set_up.SetUpHost.{SetUpHost}
use Rattle.sw_rules.specs.declared.set_up.SetUpRoute.{SetUpRoute}
use Rattle.sw_approvals.specs.Flows.{AreInForce, AreQueries, AreStops, IsMain, IsPart, IsWayThrough}
use Rattle.sw_approvals.specs.Parts.{Check, Forward, Limits, Part, Query, Respond, Reverse, Route, StandIn}
use Rattle.sw_approvals.specs.Ways.{Has, IsSoundWay, Stop, is_check, is_stand_in}
use Rattle.std.proofs.lemmas.Bool.{and_parts}

-- ---- lists

or_cases : (a b : Bool) → (a || b) ≡ true → (a ≡ true) ⊎ (b ≡ true)
or_cases true b h = inl refl
or_cases false b h = inr h

or_first : (a b : Bool) → a ≡ true → (a || b) ≡ true
or_first true b h = refl
or_first false b h = absurd (cc)

or_second : (a b : Bool) → b ≡ true → (a || b) ≡ true
or_second true b h = refl
or_second false b h = h

-- an item of a list that passes a test
any_at : {A : Type 0} (t : A → Bool) (xs : List A) (n : ℕ) (x : A) → slice_get xs n ≡ Some x → t x ≡ true → list_any t xs ≡ true
any_at t [] n x is h = absurd (cc)
any_at t (y ∷ ys) zero x is h = let e : x ≡ y = cc in or_first (t y) (list_any t ys) (subst (λ z. t z ≡ true) e h)
any_at t (y ∷ ys) (suc n) x is h = or_second (t y) (list_any t ys) (any_at t ys n x is h)

-- a list in which an item passes a test is what comes before it, it, and what comes after it
first_any : {A : Type 0} (t : A → Bool) (xs : List A) → list_any t xs ≡ true
    → (n : ℕ) × (x : A) × (slice_get xs n ≡ Some x) × (t x ≡ true) × (xs ≡ take n xs ++ x ∷ drop (n + 1) xs)
first_any t [] h = absurd (cc)
first_any t (y ∷ ys) h = by (λ later. first_any t ys later) (or_cases (t y) (list_any t ys) h)
  where
    by : (list_any t ys ≡ true → (n : ℕ) × (x : _) × (slice_get ys n ≡ Some x) × (t x ≡ true) × (ys ≡ take n ys ++ x ∷ drop (n + 1) ys))
        → (t y ≡ true) ⊎ (list_any t ys ≡ true)
        → (n : ℕ) × (x : _) × (slice_get (y ∷ ys) n ≡ Some x) × (t x ≡ true) × ((y ∷ ys) ≡ take n (y ∷ ys) ++ x ∷ drop (n + 1) (y ∷ ys))
    by rest (inl is) = (zero, y, refl, is, refl)
    by rest (inr later) =
        let found = rest later in
        let more : suc found.0 + 1 ≡ suc (found.0 + 1) = omega arith in (
          suc found.0,
          found.1,
          found.2,
          found.3,
          ap (λ zs. y ∷ zs) found.4 ∙ ap (λ k. y ∷ take found.0 ys ++ found.1 ∷ drop k (y ∷ ys)) (sym more),
        )

-- ---- the stops of entries

stops_of : (s : SetUp) (es : List Entry) (e : Entry) (fs : List Entry) (way : List Stop) → AreStops s (es ++ e ∷ fs) way
    → (before : List Stop) × (p : Stop) × (after : List Stop) × (way ≡ before ++ p ∷ after)
    × AreStops s es before × IsPart s e.participant p.part × AreStops s fs after
stops_of s [] e fs [] h = absurd h
stops_of s [] e fs (p ∷ ps) h = ([], p, ps, refl, tt, h.0, h.1)
stops_of s (d ∷ es) e fs [] h = absurd h
stops_of s (d ∷ es) e fs (p ∷ ps) h =
    let rest = stops_of s es e fs ps h.1 in
    (p ∷ rest.0, rest.1, rest.2, ap (λ w. p ∷ w) rest.3, (h.0, rest.4), rest.5, rest.6)

-- a participant of this name is of this part alone
abbrev pub Means : SetUp → List ℕ → (Part → Bool) → Type 0
Means s name test = (p : Part) → IsPart s name p → test p ≡ true

has_stop : (s : SetUp) (name : List ℕ) (test : Part → Bool) (es : List Entry) (ps : List Stop) → Means s name test → has es name ≡ true → AreStops s es ps
    → Has test ps
has_stop s name test [] ps means h stops = absurd (cc)
has_stop s name test (e ∷ es) [] means h stops = absurd stops
has_stop s name test (e ∷ es) (p ∷ ps) means h stops =
    by (λ later. has_stop s name test es ps means later stops.1) (or_cases (bytes_eq e.participant name) (has es name) h)
  where
    by : (has es name ≡ true → Has test ps) → (bytes_eq e.participant name ≡ true) ⊎ (has es name ≡ true) → Has test (p ∷ ps)
    by rest (inl is) = inl (means p.part (subst (λ n. IsPart s n p.part) ((bytes_eq-Decides e.participant name).0 is) stops.0))
    by rest (inr later) = inr (rest later)

-- a query that has the name asks its host
query_asks : (s : SetUp) (name : List ℕ) (b : Bool) → IsPart s name (Query b) → asks s name ≡ true
query_asks s name b h = any_at (λ (x : SetUpHost). bytes_eq x.query name) s.hosts h.0 h.1 h.2 ((bytes_eq-Decides h.1.query name).1 h.3)

not_asked : (s : SetUp) (name : List ℕ) (b : Bool) → AreQueries s → is_own name ≡ true → IsPart s name (Query b) → ⊥
not_asked s name b queries own h = true≢false (sym (query_asks s name b h) ∙ queries name own)

other : (a b : List ℕ) → bytes_eq a b ≡ false → a ≡ b → ⊥
other a b differ same = true≢false (sym ((bytes_eq-Decides a b).1 same) ∙ differ)

check_means : (s : SetUp) → AreQueries s → Means s (codes "check") is_check
check_means s queries Check h = refl
check_means s queries Limits h = absurd (other (codes "check") (codes "limits") refl h)
check_means s queries Route h = absurd (other (codes "check") (codes "route") refl h)
check_means s queries Reverse h = absurd (other (codes "check") (codes "reverse") refl h)
check_means s queries (Query b) h = absurd (not_asked s (codes "check") b queries refl h)
check_means s queries StandIn h = absurd (other (codes "check") (codes "standin") refl h)
check_means s queries Forward h = absurd (other (codes "check") (codes "forward") refl h)
check_means s queries Respond h = absurd (other (codes "check") (codes "respond") refl h)

stand_in_means : (s : SetUp) → AreQueries s → Means s (codes "standin") is_stand_in
stand_in_means s queries StandIn h = refl
stand_in_means s queries Check h = absurd (other (codes "standin") (codes "check") refl h)
stand_in_means s queries Limits h = absurd (other (codes "standin") (codes "limits") refl h)
stand_in_means s queries Route h = absurd (other (codes "standin") (codes "route") refl h)
stand_in_means s queries Reverse h = absurd (other (codes "standin") (codes "reverse") refl h)
stand_in_means s queries (Query b) h = absurd (not_asked s (codes "standin") b queries refl h)
stand_in_means s queries Forward h = absurd (other (codes "standin") (codes "forward") refl h)
stand_in_means s queries Respond h = absurd (other (codes "standin") (codes "respond") refl h)

-- what asks a host is a query
is_query : (s : SetUp) (name : List ℕ) (p : Part) → AreQueries s → asks s name ≡ true → IsPart s name p → (b : Bool) × (p ≡ Query b)
is_query s name (Query b) queries is h = (b, refl)
is_query s name Check queries is h = absurd (true≢false (sym is ∙ ap (asks s) h ∙ queries (codes "check") refl))
is_query s name Limits queries is h = absurd (true≢false (sym is ∙ ap (asks s) h ∙ queries (codes "limits") refl))
is_query s name Route queries is h = absurd (true≢false (sym is ∙ ap (asks s) h ∙ queries (codes "route") refl))
is_query s name Reverse queries is h = absurd (true≢false (sym is ∙ ap (asks s) h ∙ queries (codes "reverse") refl))
is_query s name StandIn queries is h = absurd (true≢false (sym is ∙ ap (asks s) h ∙ queries (codes "standin") refl))
is_query s name Forward queries is h = absurd (true≢false (sym is ∙ ap (asks s) h ∙ queries (codes "forward") refl))
is_query s name Respond queries is h = absurd (true≢false (sym is ∙ ap (asks s) h ∙ queries (codes "respond") refl))

-- a query of a host that the switch stands in for
query_needs : (s : SetUp) (name : List ℕ) (b : Bool) → b ≡ true → IsPart s name (Query b) → needs_stand_in s name ≡ true
query_needs s name b is h =
    any_at (λ (x : SetUpHost). x.stand_in && bytes_eq x.query name) s.hosts h.0 h.1 h.2
    (ap (λ c. c && bytes_eq h.1.query name) (h.4 ∙ is) ∙ (bytes_eq-Decides h.1.query name).1 h.3)

-- ---- the way

has_left : (es fs : List Entry) (name : List ℕ) → has es name ≡ true → has (es ++ fs) name ≡ true
has_left [] fs name h = absurd (cc)
has_left (e ∷ es) fs name h = by (λ later. has_left es fs name later) (or_cases (bytes_eq e.participant name) (has es name) h)
  where
    by : (has es name ≡ true → has (es ++ fs) name ≡ true) → (bytes_eq e.participant name ≡ true) ⊎ (has es name ≡ true) → has ((e ∷ es) ++ fs) name ≡ true
    by rest (inl is) = or_first (bytes_eq e.participant name) (has (es ++ fs) name) is
    by rest (inr later) = or_second (bytes_eq e.participant name) (has (es ++ fs) name) (rest later)

has_right : (es fs : List Entry) (name : List ℕ) → has fs name ≡ true → has (es ++ fs) name ≡ true
has_right [] fs name h = h
has_right (e ∷ es) fs name h = or_second (bytes_eq e.participant name) (has (es ++ fs) name) (has_right es fs name h)

-- a way on which a query comes after check, and before standin where it needs one
sound_by : (s : SetUp) (es fs : List Entry) (e : Entry) (all : List Entry) (way : List Stop) → AreQueries s → all ≡ es ++ e ∷ fs → AreStops s all way
    → asks s e.participant ≡ true → has es (codes "check") ≡ true → (needs_stand_in s e.participant ≡ true → has fs (codes "standin") ≡ true)
    → IsSoundWay way
sound_by s es fs e all way queries is stops asked check stand =
    let parts = stops_of s es e fs way (subst (λ ds. AreStops s ds way) is stops) in
    let query = is_query s e.participant parts.1.part queries asked parts.5 in
    record {
      before = parts.0;
      query = parts.1;
      has_stand_in = query.0;
      after = parts.2;
      is = parts.3;
      asks = query.1;
      checked = has_stop s (codes "check") is_check es parts.0 (check_means s queries) check parts.4;
      stands_in = λ needs. has_stop s (codes "standin") is_stand_in fs parts.2 (stand_in_means s queries)
          (stand (query_needs s e.participant query.0 needs (subst (λ p. IsPart s e.participant p) query.1 parts.5))) parts.6;
    }

-- the group of a name is there, with its entries
group_found : (xs : List Group) (name : List ℕ) → is_group xs name ≡ true
    → (g : ℕ) × (x : Group) × (slice_get xs g ≡ Some x) × (x.name ≡ name) × (entries_in xs name ≡ x.entries)
group_found [] name h = absurd (cc)
group_found (x ∷ xs) name h = by (λ later. group_found xs name later) (bytes_eq x.name name) refl h
  where
    by : (is_group xs name ≡ true → (g : ℕ) × (y : Group) × (slice_get xs g ≡ Some y) × (y.name ≡ name) × (entries_in xs name ≡ y.entries))
        → (b : Bool) → bytes_eq x.name name ≡ b → (b || is_group xs name) ≡ true
        → (g : ℕ) × (y : Group) × (slice_get (x ∷ xs) g ≡ Some y) × (y.name ≡ name) × (entries_in (x ∷ xs) name ≡ y.entries)
    by rest true is h = (zero, x, refl, (bytes_eq-Decides x.name name).0 is, ap (λ b. if b then x.entries else entries_in xs name) is)
    by rest false is h =
        let found = rest h in
        (suc found.0, found.1, found.2, found.3, ap (λ b. if b then x.entries else entries_in xs name) is ∙ found.4)

regroup : (a t d z g : List Entry) (selector e : Entry) → g ≡ t ++ e ∷ d → a ++ selector ∷ (g ++ z) ≡ (a ++ selector ∷ t) ++ e ∷ (d ++ z)
regroup a t d z g selector e is =
    ap (λ xs. a ++ selector ∷ (xs ++ z)) is ∙ ap (λ xs. a ++ selector ∷ xs) (append_assoc t (e ∷ d) z) ∙ sym (append_assoc a (selector ∷ t) (e ∷ (d ++ z)))

-- main by itself
alone : (f : Flow) (s : SetUp) (main : Group) (way : List Stop) → IsSetUpChecked f s → AreInForce s → AreQueries s → IsMain f main
    → picks_groups f ≡ false → AreStops s main.entries way → IsSoundWay way
alone f s main way c force queries is_main' unpicked stops =
    let answers : answers_requests s main ≡ true = or_second (is_picked s main.name) (is_main main && not (has main.entries (codes "route")))
    (ap (λ b. b && not (has main.entries (codes "route"))) is_main'.named
    ∙ ap (λ es. not (has es (codes "route"))) is_main'.entries ∙ ap not unpicked) in
    let q = first_any (λ (e : Entry). asks s e.participant) main.entries (c.query force.query is_main'.number main is_main'.there answers) in
    let first = c.check_first force.check is_main'.number main is_main'.there q.0 q.1 q.2 q.3 in
    sound_by s (take q.0 main.entries) (drop (q.0 + 1) main.entries) q.1 main.entries way queries q.4 stops q.3
    (in_main (has (take q.0 main.entries) (codes "check")) (is_main main) (has (before_route f) (codes "check")) is_main'.named first)
    (λ needs. in_main (has (drop (q.0 + 1) main.entries) (codes "standin")) (is_main main) (has (after_route f) (codes "standin")) is_main'.named
    (c.stand_in force.stand_in is_main'.number main is_main'.there q.0 q.1 q.2 needs))
  where
    in_main : (a b d : Bool) → b ≡ true → (a || (not b && d)) ≡ true → a ≡ true
    in_main true b d is h = refl
    in_main false true d is h = h
    in_main false false d is h = absurd (cc)

-- what comes before an entry of a group, and after it, is on the way
before : (a t : List Entry) (selector : Entry) (b : Bool) (name : List ℕ) → (has t name || (not b && has a name)) ≡ true → has (a ++ selector ∷ t) name ≡ true
before a t selector b name h = by (or_cases (has t name) (not b && has a name) h)
  where
    by : (has t name ≡ true) ⊎ ((not b && has a name) ≡ true) → has (a ++ selector ∷ t) name ≡ true
    by (inl is) = has_right a (selector ∷ t) name (or_second (bytes_eq selector.participant name) (has t name) is)
    by (inr is) = has_left a (selector ∷ t) name ((and_parts (not b) (has a name) is).1)

after : (d z : List Entry) (b : Bool) (name : List ℕ) → (has d name || (not b && has z name)) ≡ true → has (d ++ z) name ≡ true
after d z b name h = by (or_cases (has d name) (not b && has z name) h)
  where
    by : (has d name ≡ true) ⊎ ((not b && has z name) ≡ true) → has (d ++ z) name ≡ true
    by (inl is) = has_left d z name is
    by (inr is) = has_right d z name ((and_parts (not b) (has z name) is).1)

-- main with the group of a route
through : (f : Flow) (s : SetUp) (n : ℕ) (r : SetUpRoute) (selector : Entry) (way : List Stop) → IsSetUpChecked f s → AreInForce s → AreQueries s
    → picks_groups f ≡ true → slice_get s.routes n ≡ Some r
    → AreStops s (before_route f ++ selector ∷ (entries_in f.groups r.group ++ after_route f)) way → IsSoundWay way
through f s n r selector way c force queries picks stated stops =
    let group = group_found f.groups r.group (c.groups force.groups n r stated picks) in
    let x = group.1 in
    let picked : is_picked s x.name ≡ true = any_at (λ (q : SetUpRoute). bytes_eq q.group x.name) s.routes n r stated
    ((bytes_eq-Decides r.group x.name).1 (sym group.3)) in
    let answers = or_first (is_picked s x.name) (is_main x && not (has x.entries (codes "route"))) picked in
    let q = first_any (λ (e : Entry). asks s e.participant) x.entries (c.query force.query group.0 x group.2 answers) in
    sound_by s (before_route f ++ selector ∷ take q.0 x.entries) (drop (q.0 + 1) x.entries ++ after_route f) q.1
    (before_route f ++ selector ∷ (entries_in f.groups r.group ++ after_route f)) way queries
    (ap (λ es. before_route f ++ selector ∷ (es ++ after_route f)) group.4
    ∙ regroup (before_route f) (take q.0 x.entries) (drop (q.0 + 1) x.entries) (after_route f) x.entries selector q.1 q.4)
    stops q.3
    (before (before_route f) (take q.0 x.entries) selector (is_main x) (codes "check")
    (c.check_first force.check group.0 x group.2 q.0 q.1 q.2 q.3))
    (λ needs. after (drop (q.0 + 1) x.entries) (after_route f) (is_main x) (codes "standin")
    (c.stand_in force.stand_in group.0 x group.2 q.0 q.1 q.2 needs))

pub sound : (f : Flow) (s : SetUp) (main : Group) (es : List Entry) (way : List Stop) → IsSetUpChecked f s → AreInForce s → AreQueries s → IsMain f main
    → IsWayThrough f s es → AreStops s es way → IsSoundWay way
sound f s main es way c force queries is_main' (inl h) stops =
    alone f s main way c force queries is_main' h.0 (subst (λ ds. AreStops s ds way) (h.1 ∙ sym is_main'.entries) stops)
sound f s main es way c force queries is_main' (inr h) stops =
    through f s h.1.0 h.1.1 h.1.2 way c force queries h.0 h.1.3 (subst (λ ds. AreStops s ds way) h.1.4 stops)
