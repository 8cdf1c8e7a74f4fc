-- What a subcommand has done.
-- for: program::run_subcommand
use Rattle.std.proofs.Common.{◌≡◌, ℕ, List, Option, Result, OnOk, sym, subst}
use Rattle.sqlite_trees.specs.declared.store.Store.{Ghosts}
use Rattle.flow_model.specs.Check.{IsChecked}
use Rattle.flow_model.specs.declared.flow.Flow.{Flow}
use Rattle.cli_options.specs.declared.choice.Options.{Options}
use Rattle.cli_options.specs.declared.choice.Options.TheVariants.{Recover}
use Rattle.cli_options.specs.declared.choice.RecoverOptions.{RecoverOptions}
use Rattle.cardswitch.specs.Done.{IsDone}
use Rattle.cardswitch.specs.Runs.{Recovered}
use Rattle.cardswitch.specs.declared.error.RunError.{RunError}

pub recover_done : {S : Type 0} (files : Ghosts S) (o : Options) (recovering : RecoverOptions) (unread before after : Option (List ℕ))
    (r : Result (Unit {0}) RunError)
    → o ≡ Recover recovering → OnOk r ((f : Flow) × IsChecked f × Recovered files f recovering.journal.now before after)
    → OnOk r (IsDone files o unread before after)
recover_done files o recovering unread before after r same h = subst (λ (x : Options). OnOk r (IsDone files x unread before after)) (sym same) h
