-- How many bytes each header has stays the same while a text is read.
-- for: text
use Rattle.std.proofs.Common.{◌≡◌, ◌∙◌, ◌⊎◌, inl, inr, eqb, ℕ, Bool, true, false, cond, List, [], ◌∷◌, ◌++◌, ◌+◌, length, Option, Some, None, refl, sym, ap}
use Rattle.std.specs.Fmt.{decimal}
use Rattle.std.specs.Str.{bytes_eq}
use Rattle.cli_encode.specs.declared.encoder.Stage.{Stage}
use Rattle.cli_encode.specs.declared.encoder.Stage.TheVariants.{Between, Headed, Open}
use Rattle.cli_encode.specs.Headers.{header_from}
use Rattle.cli_encode.specs.Lines.{PlainLine, Heading, Header, MessageType, Field}
use Rattle.cli_encode.specs.Reading.{Point, closed, closed_at, follows, named, run, step, step_at}
use Rattle.cli_encode.specs.Texts.{Sent}
use Rattle.cli_encode.proofs.Runs.{point_is, run_some}

either : (b : Bool) (p q : Point) → cond b (Some p) None ≡ Some q → q.size ≡ p.size
either false p q e = absurd cc
either true p q e = ap (λ (r : Point). r.size) (sym (point_is p q e))

named_size : (k : ℕ) (done : List Sent) (old : List ℕ) (o : Option (List ℕ)) (q : Point) → named k done old o ≡ Some q → q.size ≡ k
named_size k done [] None q e = absurd cc
named_size k done [] (Some header) q e =
    ap (λ (r : Point). r.size) (sym (point_is (record { size = k; done = done; header = header; stage = Headed }) q e))
named_size k done (b ∷ bs) o q e = absurd cc

size_at : (k : ℕ) (done : List Sent) (header : List ℕ) (s : Stage) (l : PlainLine) (q : Point) → step_at k done header s l ≡ Some q → q.size ≡ k
unfolding step_at
size_at k done header Between (Heading w) q e = either (bytes_eq w (decimal (length done + 1))) _ q e
size_at k done header Between (Header d) q e = absurd cc
size_at k done header Between (MessageType d) q e = absurd cc
size_at k done header Between (Field n v) q e = absurd cc
size_at k done header Headed (Heading w) q e = absurd cc
size_at k done header Headed (Header d) q e = named_size k done header (header_from k d) q e
size_at k done header Headed (MessageType d) q e = either (eqb (length header) k) _ q e
size_at k done header Headed (Field n v) q e = absurd cc
size_at k done header (Open m) (Heading w) q e = either (bytes_eq w (decimal (length (done ++ (header, m) ∷ []) + 1))) _ q e
size_at k done header (Open m) (Header d) q e = absurd cc
size_at k done header (Open m) (MessageType d) q e = absurd cc
size_at k done header (Open m) (Field n v) q e = either (follows m n v) _ q e

pub run_size : (us : List PlainLine) (p q : Point) → run p us ≡ Some q → q.size ≡ p.size
run_size [] p q e = ap (λ (r : Point). r.size) (sym (point_is p q e))
run_size (u ∷ us) p q e =
    let s = run_some us u p q (step p u) refl e in
    run_size us s.0 q s.2 ∙ size_at p.size p.done p.header p.stage u s.0 s.1

closed_size_at : (k : ℕ) (done : List Sent) (header : List ℕ) (s : Stage) → (closed_at k done header s).size ≡ k
closed_size_at k done header Between = refl
closed_size_at k done header Headed = refl
closed_size_at k done header (Open m) = refl

pub closed_size : (p : Point) → (closed p).size ≡ p.size
closed_size p = closed_size_at p.size p.done p.header p.stage

pub same_size : (p q : Point) → (q ≡ p) ⊎ (q ≡ closed p) → q.size ≡ p.size
same_size p q (inl e) = ap (λ (r : Point). r.size) e
same_size p q (inr e) = ap (λ (r : Point). r.size) e ∙ closed_size p
