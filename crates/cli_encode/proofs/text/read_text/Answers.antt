use Rattle.std.proofs.Common.{◌≡◌, ◌+◌, ◌≤◌, ℕ, List, Bool, ◌∷◌, ◌++◌, length, refl, sym, ap, subst, arith, length-append}
use Rattle.cli_encode.specs.Reading.{Finishes, TakesBytes}
use Rattle.cli_encode.proofs.Readings.{begins, goes_on, no_rest, some_rest, to_the_end, up_to_end, up_to_heading, up_to_line}
use Rattle.cli_encode.proofs.text.read_text.Goals as goal

pub loop-rest-init : goal.loop-rest-init
loop-rest-init c = record {
  so_far = begins c.args.encoder.now.size c.args.text.now c.args.encoder.now c.requires.blank;
  count = omega (arith, c.requires.blank.count);
  short = subst (λ (l : List ℕ). length l ≤ 64) (sym c.requires.blank.header) (omega arith);
  room = omega arith;
}

pub returns-in_default : goal.returns-in_default
returns-in_default c = (
  c.loop-rest.lines,
  refl,
  up_to_end c.args.encoder.now.size c.args.text.now c.loop-rest.rest.now c.loop-rest.lines c.loop-rest.encoder c.loop-rest.invariant.so_far c.in_default.ensures
      (some_rest c.loop-rest.rest.now c.is_empty.result c.is_empty.ensures c.loop-rest-test.true) c.requires.small,
)

pub returns-then-not-branch : goal.returns-then-not-branch
returns-then-not-branch c = (
  c.loop-rest.lines,
  refl,
  up_to_line c.args.encoder.now.size c.args.text.now c.loop-rest.rest.now c.in-Some.line.now c.in-Some.after.now c.loop-rest.lines c.loop-rest.encoder c.take_bytes.new.encoder
      c.loop-rest.invariant.so_far c.in-Some.ensures.0 c.in-Some.ensures.1 c.requires.small
      (subst (λ (b : Bool). TakesBytes c.loop-rest.encoder c.in-Some.line.now c.take_bytes.new.encoder b) c.if-not-branch.true
      c.in_ok-take_bytes.ensures.taken),
)

pub loop-rest-preserved : goal.loop-rest-preserved
loop-rest-preserved c =
    let parts : length (c.in-Some.line.now ++ 10 ∷ c.in-Some.after.now) ≡ length c.in-Some.line.now + length (10 ∷ c.in-Some.after.now) =
    length-append c.in-Some.line.now (10 ∷ c.in-Some.after.now) in
    let all : length (c.in-Some.line.now ++ 10 ∷ c.in-Some.after.now) ≡ length c.loop-rest.rest.now = ap length c.in-Some.ensures.0 in
    record {
      so_far = goes_on c.args.encoder.now.size c.args.text.now c.loop-rest.rest.now c.in-Some.line.now c.in-Some.after.now c.loop-rest.lines c.loop-rest.encoder
          c.take_bytes.new.encoder
          c.loop-rest.invariant.so_far c.in-Some.ensures.0
          (subst (λ (b : Bool). TakesBytes c.loop-rest.encoder c.in-Some.line.now c.take_bytes.new.encoder b) c.if-not-branch.false
          c.in_ok-take_bytes.ensures.taken);
      count = omega (arith, c.in_ok-take_bytes.ensures.counted, c.loop-rest.invariant.count);
      short = c.in_ok-take_bytes.ensures.short;
      room = omega (arith, parts, all, c.loop-rest.invariant.room);
    }

pub returns-then-branch : goal.returns-then-branch
returns-then-branch c = to_the_end c.args.encoder.now.size c.args.text.now c.loop-rest.rest.now c.loop-rest.lines c.loop-rest.encoder c.finish.new.self c.loop-rest.invariant.so_far
    (no_rest c.loop-rest.rest.now c.is_empty.result c.is_empty.ensures c.loop-rest-test.false)
    (subst (λ (b : Bool). Finishes c.loop-rest.encoder c.finish.new.self b) c.if-branch.true c.in_ok-finish.ensures)

pub returns-else-branch : goal.returns-else-branch
returns-else-branch c = (
  c.loop-rest.lines,
  refl,
  up_to_heading c.args.encoder.now.size c.args.text.now c.loop-rest.rest.now c.loop-rest.lines c.loop-rest.encoder c.finish.new.self c.loop-rest.invariant.so_far
      (no_rest c.loop-rest.rest.now c.is_empty.result c.is_empty.ensures c.loop-rest-test.false) c.requires.small
      (subst (λ (b : Bool). Finishes c.loop-rest.encoder c.finish.new.self b) c.if-branch.false c.in_ok-finish.ensures),
)
