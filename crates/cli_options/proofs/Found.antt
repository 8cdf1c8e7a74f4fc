-- The subcommand that clap found, and what its refusal becomes.
-- for: command_line::options
use Rattle.std.proofs.Common.{◌≡◌, inl, inr, sym, subst, List, Some, Result, Ok, Err, IfErr, OnOk, option_map, rules}
use Rattle.std.specs.Result.{IsErrAnd}
use Rattle.clap.specs.Words.{App, HasKind, IsAmong, Row, Text, fault_of, kind_of, subcommand_name_of, subcommand_of, subcommand_rows_of}
use Rattle.clap.specs.declared.parser.matches.ArgMatches.{ArgMatches}
use Rattle.clap.specs.declared.error.Error.{Error}
use Rattle.cli_options.specs.CommandLine.{switch_app}
use Rattle.cli_options.specs.Conversion.{Carries}
use Rattle.cli_options.specs.Refusal.{IsRefusalAt, IsRefusalOf}
use Rattle.cli_options.specs.declared.error.OptionsError.{OptionsError}
use Rattle.cli_options.specs.declared.error.OptionsError.TheVariants.{BadCommandLine, BadForm, BadNumber, NoSubcommand, OneProfile, OutOfMemory}

pub carried : {A : Type 0} (words : List Text) (app : App) (e : Error) → app ≡ switch_app → HasKind (fault_of app words) e
    → (r : Result A OptionsError) → IsErrAnd r (Carries e) → IfErr r (IsRefusalOf words)
carried words app e shape among (Ok o) carries = tt
carried words app e shape (inl memory) (Err (BadCommandLine f)) carries = elim (carries.1 memory) [ ]
carried words app e shape (inr among) (Err (BadCommandLine f)) carries =
    subst (λ a. IsAmong (kind_of f) (fault_of a words)) shape
    (subst (λ x. IsAmong (kind_of x) (fault_of app words)) (sym carries.0) among)
carried words app e shape among (Err NoSubcommand) carries = elim carries [ ]
carried words app e shape among (Err (BadNumber _ _ _)) carries = elim carries [ ]
carried words app e shape among (Err (BadForm _)) carries = elim carries [ ]
carried words app e shape among (Err OneProfile) carries = elim carries [ ]
carried words app e shape among (Err OutOfMemory) carries = tt

pub always : {A E X : Type 0} (r : Result A E) → X → OnOk r X
always (Ok a) x = x
always (Err e) x = tt

pub joined : (m : ArgMatches) (name : Text) (rows : List Row) → Some name ≡ subcommand_name_of m
    → Some rows ≡ option_map (λ p. p.1) (subcommand_rows_of m) → subcommand_rows_of m ≡ Some (name, rows)
joined m name rows one two = search rules

pub refused_at : (words : List Text) (name : Text) (rows : List Row) (e : OptionsError)
    → subcommand_of switch_app words ≡ Some (name, rows) → IsRefusalAt name rows e → IsRefusalOf words e
refused_at words name rows NoSubcommand is refusal = rw is refusal
refused_at words name rows (BadNumber _ _ _) is refusal = rw is refusal
refused_at words name rows (BadForm _) is refusal = rw is refusal
refused_at words name rows OneProfile is refusal = rw is refusal
refused_at words name rows (BadCommandLine _) is refusal = elim refusal [ ]
refused_at words name rows OutOfMemory is refusal = tt
