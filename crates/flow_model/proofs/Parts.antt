-- Numbering participants, one list of entries after another.
-- for: flow_load, flow_asm
use Rattle.std.proofs.Common.{◌≡◌, List, [], ◌∷◌, ◌++◌, refl}
use Rattle.flow_model.specs.declared.flow.Entry.{Entry}
use Rattle.flow_model.specs.declared.numbering.Part.{Part}
use Rattle.flow_model.specs.Places.{parts_from, add_new}

pub parts_from-append : (ps : List Part) (xs ys : List Entry) → parts_from ps (xs ++ ys) ≡ parts_from (parts_from ps xs) ys
parts_from-append ps [] ys = refl
parts_from-append ps (x ∷ xs) ys = parts_from-append (add_new ps x) xs ys
