use Rattle.std.proofs.Common.{◌∙◌, ◌≡◌, ◌≤◌, ℕ, length, option_map, ap, arith, sym, refl, inl, inr}
use Rattle.std.specs.Global.{Vec}
use Rattle.cli_encode.specs.Headers.{header_from}
use Rattle.cli_encode.specs.declared.encoder.Stage.TheVariants.{Headed}
use Rattle.cli_encode.proofs.Headers.{found}
use Rattle.cli_encode.proofs.Points.{begun_at, header_again, header_none, header_not, header_step}
use Rattle.cli_encode.proofs.Readings.{by_items, no_rest, some_rest}
use Rattle.cli_encode.proofs.encoder.Encoder.name.Goals as goal

pub returns-in_default : goal.returns-in_default
returns-in_default c = record {
  taken = λ p h. (header_none p c.args.digits.now (λ e. c.in_default.not-Headed (sym h.stage ∙ e)), p, inl refl, h);
  counted = refl;
  short = c.requires.short;
}

pub returns-then-not-is_empty-clause-taken : goal.returns-then-not-is_empty-clause-taken
returns-then-not-is_empty-clause-taken c p h = (
  header_again p c.args.digits.now (h.stage ∙ c.in-Headed.is)
      (λ e. some_rest c.args.self.now.header.items c.is_empty.result (c.is_empty.ensures ∙ by_items c.args.self.now.header) c.if-not-is_empty.true
      (sym h.header ∙ e)),
  p,
  inl refl,
  h,
)

pub returns-in_default-2-clause-taken : goal.returns-in_default-2-clause-taken
returns-in_default-2-clause-taken c p h = (
  header_not p c.args.digits.now (h.stage ∙ c.in-Headed.is) (ap (λ k. header_from k c.args.digits.now) h.size ∙ sym c.in_ok-header.ensures
      ∙ ap (option_map (λ (v : Vec ℕ). v.items)) c.in_default-2.is),
  p,
  inl refl,
  h,
)

pub returns-clause-taken : goal.returns-clause-taken
returns-clause-taken c p h =
    let digits = c.args.digits.now in
    let header = c.in-Some.header.items in
    let here = h.stage ∙ c.in-Headed.is in
    let none = h.header
    ∙ no_rest c.args.self.now.header.items c.is_empty.result (c.is_empty.ensures ∙ by_items c.args.self.now.header) c.if-not-is_empty.false in
    let is = ap (λ k. header_from k digits) h.size ∙ sym c.in_ok-header.ensures ∙ ap (option_map (λ (v : Vec ℕ). v.items)) c.in-Some.is in (
      record { size = p.size; done = p.done; header = header; stage = Headed },
      header_step p digits header here none is,
      begun_at p _ _ header Headed h refl c.in-Headed.is refl refl refl (inr (found p.size digits header is).1),
    )

pub returns-clause-short : goal.returns-clause-short
returns-clause-short c =
    let header = c.in-Some.header.items in
    let is = sym c.in_ok-header.ensures ∙ ap (option_map (λ (v : Vec ℕ). v.items)) c.in-Some.is in
    let f = (found c.args.self.now.size c.args.digits.now header is).1 in
    let long : length header ≡ c.args.self.now.size = f.0 in
    let most : c.args.self.now.size ≤ 64 = f.1 in omega (arith, long, most)
