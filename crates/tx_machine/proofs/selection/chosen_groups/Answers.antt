use Rattle.std.proofs.Common.{◌∙◌, ◌++◌, append_assoc, take, sym, ap}
use Rattle.std.specs.List.{flat_map}
use Rattle.std.proofs.lemmas.List.{append-nil}
use Rattle.flow_model.specs.Places.{entries_named}
use Rattle.tx_machine.specs.Names.{names_of}
use Rattle.tx_machine.specs.Position.{entries_in}
use Rattle.tx_machine.proofs.selection.chosen_groups.Goals as goal

pub loop-name-preserved : goal.loop-name-preserved
loop-name-preserved c = record {
  can = tt;
  finite = tt;
  placed_entries =
      ap (λ l. l ++ flat_map (entries_named c.args.code.now) (take c.next.new.self.left (names_of c.next.new.self.rest.now)))
      c.in_ok-add_group.ensures.placed_entries
      ∙ (append_assoc (entries_in c.args.code.now c.loop-name.groups.items) (entries_named c.args.code.now c.in-Some.name.now)
      (flat_map (entries_named c.args.code.now) (take c.next.new.self.left (names_of c.next.new.self.rest.now)))
      ∙ (sym (ap (λ l. entries_in c.args.code.now c.loop-name.groups.items ++ flat_map (entries_named c.args.code.now) l) c.in-Some.ensures.steps)
      ∙ c.loop-name.invariant.placed_entries));
  within = c.in_ok-add_group.ensures.within;
}

pub returns-clause-placed_entries : goal.returns-clause-placed_entries
returns-clause-placed_entries c =
    sym (append-nil (entries_in c.args.code.now c.loop-name.groups.items))
    ∙ (sym (ap (λ l. entries_in c.args.code.now c.loop-name.groups.items ++ flat_map (entries_named c.args.code.now) l) c.in-None.ensures.steps.0)
    ∙ c.loop-name.invariant.placed_entries)
