-- The messages of frames that were answered, or passed over.
-- for: stream::answer_messages, stream::answer_input, stream::Switch
use Rattle.std.proofs.Common.{◌≡◌, ◌<◌, ℕ, ◌+◌, List, [], ◌∷◌, ◌++◌, length, take, get_or, Option, None, sym, subst}
use Rattle.std.specs.Global.{Vec}
use Rattle.sw_frame.specs.Feeds.{messages}
use Rattle.run_input.specs.Requests.{Reading, headers_in, passed_over, reading_of, readings}
use Rattle.run_switch.specs.Points.{Point}
use Rattle.run_switch.specs.Rounds.{Round, answering}
use Rattle.run_switch.specs.Traces.{Log, Reports, ReportsWith}
use Rattle.run_input.proofs.Readings.{passed_over_next, readings_next}
use Rattle.run_switch.proofs.Rounds.{answering_append, reports_both}
use Rattle.run_switch.proofs.Stops.{untrimmed_answering}

-- one more message
pub message_more : (header : ℕ) (list : List (Vec ℕ)) (i : ℕ) (m : Vec ℕ) (bytes : List ℕ) (read : List Reading) (p q r : Point) (a b c : Option (List ℕ))
    (x y z : Log) → i < length list → m ≡ get_or list i m → bytes ≡ m.items → read ≡ reading_of header bytes ∷ []
    → Reports (answering (readings header (messages (take i list)))) (passed_over header (messages (take i list))) p a x q b y →
    Reports (answering read) (length (headers_in read)) q b y r c z
    → Reports (answering (readings header (messages (take (i + 1) list)))) (passed_over header (messages (take (i + 1) list))) p a x r c z
message_more header list i m bytes read p q r a b c x y z lt at is same s t =
    let first : List Reading = readings header (messages (take i list)) in
    let next : List Reading = reading_of header bytes ∷ [] in
    let count : ℕ = passed_over header (messages (take (i + 1) list)) in
    let own : Reports (answering next) (length (headers_in next)) q b y r c z =
    subst (λ (l : List Reading). Reports (answering l) (length (headers_in l)) q b y r c z) same t in
    let both : Reports (answering first ++ answering next) count p a x r c z =
    reports_both (answering first) (answering next) (passed_over header (messages (take i list))) (length (headers_in next)) count p q r a b c x y z
    (passed_over_next header list i m bytes lt at is) s own in
    let joined : Reports (answering (first ++ next)) count p a x r c z =
    subst (λ (l : List Round). Reports l count p a x r c z) (sym (answering_append first next)) both in
    subst (λ (l : List Reading). Reports (answering l) count p a x r c z) (sym (readings_next header list i m bytes lt at is)) joined

-- those of a piece
pub for_answered : (header : ℕ) (frames : List (List ℕ)) (p q : Point) (a b : Option (List ℕ)) (k l : Log) →
    Reports (answering (readings header frames)) (passed_over header frames) p a k q b l → ReportsWith None (readings header frames) p a k q b l
for_answered header frames p q a b k l s =
    record { rounds = answering (readings header frames); answers = untrimmed_answering (readings header frames); reports = s }
