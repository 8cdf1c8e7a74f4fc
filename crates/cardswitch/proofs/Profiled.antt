-- Runs whose streams may be recoded, and profile files that are not taken.
use Rattle.std.proofs.Common.{◌≡◌, ℕ, List, Option, None, Some, IfNone, inl, inr, refl, subst, sym}
use Rattle.cli_config.specs.declared.config.Config.{Config}
use Rattle.cli_options.specs.declared.choice.CheckOptions.{CheckOptions}
use Rattle.cli_options.specs.declared.choice.RunOptions.{RunOptions}
use Rattle.run_setup.specs.Profiles.{IsProfileFault, IsProfilesFault}
use Rattle.run_setup.specs.declared.error.SetupError.{SetupError}
use Rattle.run_setup.specs.declared.error.SetupError.TheVariants as setup
use Rattle.cardswitch.specs.Checking.{IsCheckFault}
use Rattle.cardswitch.specs.Errors.{error_of_setup}
use Rattle.cardswitch.specs.Runs.{IsConfigAt, IsRunFaultOver}
use Rattle.cardswitch.specs.declared.error.RunError.TheVariants as error

pub profiles_refused : (o : CheckOptions) (c : Config) (e : SetupError) → IsConfigAt o.config c → IsProfilesFault c e → IsCheckFault o (error_of_setup e)
profiles_refused o c (setup.Profile p cause) stated fault = (c, stated, fault)
profiles_refused o c setup.OutOfMemory stated fault = tt
profiles_refused o c (setup.BadLimit n) stated fault = absurd fault

pub acquirer_refused : (o : RunOptions) (c : Config) (before : Option (List ℕ)) (e : SetupError) → IsProfileFault c.run.profile e
    → IsRunFaultOver o c before before (error_of_setup e)
acquirer_refused o c before (setup.Profile p cause) fault = inl (fault, refl)
acquirer_refused o c before setup.OutOfMemory fault = inl refl
acquirer_refused o c before (setup.BadLimit n) fault = absurd fault

-- where there is a profile nothing is asked of what there is without one
pub with_profile : (P : Type 0) (profile : Option (List ℕ)) (path : List ℕ) → profile ≡ Some path → IfNone profile P
with_profile P profile path is = subst (λ (z : Option (List ℕ)). IfNone z P) (sym is) tt

pub anyhow : (P : Type 0) (profile : Option (List ℕ)) → P → IfNone profile P
anyhow P None p = p
anyhow P (Some path) p = tt

-- no memory for what recodes
pub no_memory : (o : RunOptions) (c : Config) (before after : Option (List ℕ)) (path : List ℕ) → c.run.profile ≡ Some path
    → IsRunFaultOver o c before after error.OutOfMemory
no_memory o c before after path is = inr (before, before, with_profile _ c.run.profile path is, λ over. refl)
