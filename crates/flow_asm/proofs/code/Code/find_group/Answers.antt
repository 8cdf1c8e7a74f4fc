use Rattle.std.proofs.Common.{◌≡◌, ◌∙◌, ℕ, Bool, List, ap, sym, false, get_or}
use Rattle.std.specs.Str.{bytes_eq}
use Rattle.flow_asm.specs.declared.code.GroupStart.{GroupStart}
use Rattle.flow_asm.proofs.GroupNames.{group_within, known_later, named_here, named_later, none_known, none_named, start_named}
use Rattle.flow_asm.proofs.code.Code.find_group.Goals as goal

pub returns-then-eq-clause-within : goal.returns-then-eq-clause-within
returns-then-eq-clause-within c = group_within c.args.self.now c.groups-group-items.result.now c.loop-number.number c.groups-group-items.ensures
    c.loop-number-test.true

-- the name that was compared
compared : (starts : List GroupStart) (k : ℕ) (item : GroupStart) (text bytes name : List ℕ) (same : Bool) → item ≡ get_or starts k item →
    text ≡ item.name → bytes ≡ text → same ≡ bytes_eq bytes name → bytes_eq (get_or starts k item).name name ≡ same
compared starts k item text bytes name same i t b e = ap (λ n. bytes_eq n name) (sym (b ∙ t ∙ ap (λ (s : GroupStart). s.name) i)) ∙ sym e

pub returns-then-eq-clause-named : goal.returns-then-eq-clause-named
returns-then-eq-clause-named c =
    start_named c.args.self.now c.groups-group-items.result.now c.loop-number.number c.group-item.result c.args.name.now c.groups-group-items.ensures
    c.loop-number-test.true
    (compared c.groups-group-items.result.now c.loop-number.number c.group-item.result _ _ c.args.name.now _ c.group-item.is c.as_str.ensures
    c.as_bytes.ensures.value c.eq.ensures ∙ c.if-eq.true)

pub returns-then-eq-clause-found : goal.returns-then-eq-clause-found
returns-then-eq-clause-found c =
    named_here c.args.self.now c.groups-group-items.result.now c.loop-number.number c.group-item.result c.args.name.now c.groups-group-items.ensures
    c.loop-number-test.true
    (compared c.groups-group-items.result.now c.loop-number.number c.group-item.result _ _ c.args.name.now _ c.group-item.is c.as_str.ensures
    c.as_bytes.ensures.value c.eq.ensures ∙ c.if-eq.true) c.loop-number.invariant.placed_entries

pub loop-number-preserved : goal.loop-number-preserved
loop-number-preserved c =
    let other : bytes_eq (get_or c.groups-group-items.result.now c.loop-number.number c.group-item.result).name c.args.name.now ≡ false =
    compared c.groups-group-items.result.now c.loop-number.number c.group-item.result _ _ c.args.name.now _ c.group-item.is c.as_str.ensures
    c.as_bytes.ensures.value c.eq.ensures ∙ c.if-eq.false in
    record {
      placed_entries = named_later c.args.self.now c.groups-group-items.result.now c.loop-number.number c.group-item.result c.args.name.now
          c.groups-group-items.ensures c.loop-number-test.true other c.loop-number.invariant.placed_entries;
      known = known_later c.args.self.now c.groups-group-items.result.now c.loop-number.number c.group-item.result c.args.name.now
          c.groups-group-items.ensures c.loop-number-test.true other c.loop-number.invariant.known;
    }

pub returns-clause-none : goal.returns-clause-none
returns-clause-none c = none_named c.args.self.now c.groups-group-items.result.now c.loop-number.number c.args.name.now c.groups-group-items.ensures
    c.loop-number-test.false c.loop-number.invariant.placed_entries

pub returns-clause-unknown : goal.returns-clause-unknown
returns-clause-unknown c = none_known c.args.self.now c.groups-group-items.result.now c.loop-number.number c.args.name.now c.groups-group-items.ensures
    c.loop-number-test.false c.loop-number.invariant.known
