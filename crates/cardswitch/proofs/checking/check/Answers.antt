use Rattle.std.proofs.lemmas.Result.{err_from_is_err_and}
use Rattle.cardswitch.proofs.Profiled.{profiles_refused}
use Rattle.cardswitch.proofs.checking.check.Goals as goal

pub returns-in_err-check_profiles-clause-refused : goal.returns-in_err-check_profiles-clause-refused
returns-in_err-check_profiles-clause-refused c =
    let error = err_from_is_err_and c.from_residual-in_err-check_profiles.result c.from_residual-in_err-check_profiles.ensures.1 in
    rw (error.1, error.2) (profiles_refused c.args.options.now c.in_ok-config.config c.in_err-check_profiles.field-0.0
    c.in_ok-config.ensures.stated c.in_err-check_profiles.ensures)
