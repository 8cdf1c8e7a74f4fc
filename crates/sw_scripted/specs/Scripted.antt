-- The replies of a participant whose replies are queued.
use Rattle.std.specs.Prelude.{◌≡◌, ℕ, List, [], drop, slice_get, Option, Some, None, unwrap_or, refl}
use Rattle.std.specs.Coded.{Coded, code_by, coded_ℕ, coded_list, coded×}
use Rattle.sw_context.specs.Pairs.{Pairs}
use Rattle.sw_participant.specs.Shown.{shown}
use Rattle.sw_scripted.specs.Puts.{put_all}
use Rattle.sw_scripted.specs.declared.puts.Put.{Put}
use Rattle.sw_scripted.specs.declared.participant.QueuedAnswer.{QueuedAnswer}
use Rattle.sw_scripted.specs.declared.participant.QueuedReplies.{QueuedReplies}

-- the replies that are queued, of each kind the next first
pub record Queues : Type 0 where
  pub answers : List QueuedAnswer
  pub choices : List (List ℕ)
  pub advices : List (List ℕ)
  pub restores : List (List Put)

abbrev pub queues_of : QueuedReplies → Queues
queues_of r = record {
  answers = r.answers.items;
  choices = r.choices.items;
  advices = r.advices.items;
  restores = r.restores.items;
}

-- queues as a list of numbers; no two are shown alike
abbrev pub put_code : Coded Put
put_code =
    code_by (List ℕ × List ℕ) (coded× (coded_list coded_ℕ) (coded_list coded_ℕ))
    (λ p. (p.name, p.value)) (λ p. record { name = p.0; value = p.1 }) (λ _. refl)

abbrev pub answer_code : Coded QueuedAnswer
answer_code =
    code_by (ℕ × List Put) (coded× coded_ℕ (coded_list put_code))
    (λ a. (a.byte, a.puts)) (λ p. record { byte = p.0; puts = p.1 }) (λ _. refl)

abbrev pub texts_code : Coded (List (List ℕ))
texts_code = coded_list (coded_list coded_ℕ)

abbrev pub queues_code : Coded Queues
queues_code =
    code_by (List QueuedAnswer × (List (List ℕ) × (List (List ℕ) × List (List Put))))
    (coded× (coded_list answer_code) (coded× texts_code (coded× texts_code (coded_list (coded_list put_code)))))
    (λ q. (q.answers, (q.choices, (q.advices, q.restores))))
    (λ p. record { answers = p.0; choices = p.1.0; advices = p.1.1.0; restores = p.1.1.1 }) (λ _. refl)

abbrev pub shown_queues : Queues → List ℕ
shown_queues q = shown queues_code q

-- the byte of an answer, PREPARED where none is queued, and the entries that it puts
abbrev pub byte_of : Option QueuedAnswer → ℕ
byte_of None = 0x01
byte_of (Some a) = a.byte

abbrev pub puts_of : Option QueuedAnswer → List Put
puts_of None = []
puts_of (Some a) = a.puts

-- a preparation takes the next answer
abbrev pub Answered : Queues → Pairs → ℕ → Queues → Pairs → Type 0
Answered q x byte r y = (r ≡ record q { answers = drop 1 q.answers })
    × (byte ≡ byte_of (slice_get q.answers 0)) × (y ≡ put_all x (puts_of (slice_get q.answers 0)))

-- a selection takes the next text; no group where none is queued
abbrev pub Chosen : Queues → List ℕ → Queues → Type 0
Chosen q text r = (r ≡ record q { choices = drop 1 q.choices }) × (text ≡ unwrap_or (slice_get q.choices 0) [])

-- a commit and an abort take the next advice
abbrev pub Advised : Queues → Option (List ℕ) → Queues → Type 0
Advised q advice r = (r ≡ record q { advices = drop 1 q.advices }) × (advice ≡ slice_get q.advices 0)

-- a `recover` takes the next entries, and puts them
abbrev pub Restored : Queues → Pairs → Queues → Pairs → Type 0
Restored q x r y = (r ≡ record q { restores = drop 1 q.restores })
    × (y ≡ put_all x (unwrap_or (slice_get q.restores 0) []))

-- the same of objects that show the queues
abbrev pub ShowsQueues : List ℕ → List ℕ → (Queues → Queues → Type 0) → Type 0
ShowsQueues o p Is = (q : Queues) × (r : Queues) × (o ≡ shown_queues q) × (p ≡ shown_queues r) × Is q r
