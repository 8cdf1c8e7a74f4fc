use Rattle.std.proofs.Common.{◌≡◌, ◌∙◌, Bool, true, false, List, [], ◌∷◌, ◌++◌, append_assoc, filter, take, refl, sym, ap}
use Rattle.std.proofs.lemmas.List.{append-nil}
use Rattle.tx_machine.specs.Names.{names_of}
use Rattle.flow_model.specs.Check.{is_named}
use Rattle.tx_trace.specs.Trace.{Text, known, texts_of}
use Rattle.tx_trace.proofs.known.known_names.Goals as goal

one_more : (p : Text → Bool) (n : Text) (rest : List Text) (b : Bool) → p n ≡ b → filter p (n ∷ []) ++ filter p rest ≡ filter p (n ∷ rest)
one_more p n rest true is = rw is refl
one_more p n rest false is = rw is refl

next_known : (p : Text → Bool) (a b all : List Text) (n : Text) (ns rest : List Text) → b ≡ a ++ filter p (n ∷ []) → ns ≡ n ∷ rest →
    a ++ filter p ns ≡ all → b ++ filter p rest ≡ all
next_known p a b all n ns rest pushed steps before =
    ap (λ (l : List Text). l ++ filter p rest) pushed
    ∙ (append_assoc a (filter p (n ∷ [])) (filter p rest)
    ∙ (ap (λ (l : List Text). a ++ l) (one_more p n rest (p n) refl)
    ∙ (sym (ap (λ (l : List Text). a ++ filter p l) steps) ∙ before)))

last_known : (p : Text → Bool) (a all ns : List Text) → ns ≡ [] → a ++ filter p ns ≡ all → a ≡ all
last_known p a all ns steps before = sym (append-nil a) ∙ (sym (ap (λ (l : List Text). a ++ filter p l) steps) ∙ before)

pub loop-name-preserved : goal.loop-name-preserved
loop-name-preserved c = record {
  can = tt;
  finite = tt;
  known = next_known (λ (n : Text). is_named n c.args.code.now.groups) (texts_of c.loop-name.names.items) (texts_of c.add_known.new.names.items)
      (known c.args.code.now.groups c.args.text.now) c.in-Some.name.now (take c.loop-name.name-iterator.left (names_of c.loop-name.name-iterator.rest.now))
      (take c.next.new.self.left (names_of c.next.new.self.rest.now)) c.in_ok-add_known.ensures c.in-Some.ensures.steps c.loop-name.invariant.known;
}

pub returns : goal.returns
returns c = last_known (λ (n : Text). is_named n c.args.code.now.groups) (texts_of c.loop-name.names.items) (known c.args.code.now.groups c.args.text.now)
    (take c.loop-name.name-iterator.left (names_of c.loop-name.name-iterator.rest.now)) c.in-None.ensures.steps.0 c.loop-name.invariant.known
