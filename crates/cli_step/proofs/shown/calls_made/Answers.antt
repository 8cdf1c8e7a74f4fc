use Rattle.std.proofs.Common.{◌∙◌, ap, sym, unwrap_or}
use Rattle.sw_participant.specs.Stations.{calls_of, name_of}
use Rattle.tx_plant.specs.Wholes.{stations_of}
use Rattle.cli_step.proofs.Counted.{counted}
use Rattle.cli_step.proofs.shown.calls_made.Goals as goal

pub returns : goal.returns
returns g c =
    c.unwrap_or.ensures ∙ ap (λ o. unwrap_or o 0) c.calls.ensures
    ∙ sym (counted name_of calls_of (stations_of c.args.plant.now) c.args.name.now)
