use Rattle.std.proofs.Common.{refl, inl, inr}
use Rattle.std.proofs.lemmas.Bool.{cases_Bool}
use Rattle.sw_context.specs.Names.{is_name}
use Rattle.sw_context.proofs.NameLaws.{name-utf8}
use Rattle.flow_load.proofs.words.name_of.Goals as goal

pub returns-in-Err : goal.returns-in-Err
returns-in-Err c =
    elim (cases_Bool (is_name c.args.word.now)) [
      | inl named ↦ absurd (c.in-Err.ensures.cases.0 (name-utf8 c.args.word.now named))
      | inr other ↦ rw other refl
    ]
