-- A line that is refused before a flow is opened, and one at which the flow is refused.
-- for: opening::head_line, opening::answer_or_open
use Rattle.std.proofs.Common.{◌≡◌, ◌≢◌, ℕ, Bool, List, Option, Result, Ok, Err, IfOk, is_some, refl, subst, sym}
use Rattle.cli_script.specs.Scripts.{IsNextSetting}
use Rattle.cli_script.specs.declared.error.ScriptError.{ScriptError}
use Rattle.cli_script.specs.declared.error.ScriptError.TheVariants as script
use Rattle.flow_model.specs.declared.flow.Flow.{Flow}
use Rattle.cli_step.specs.Prompts.{HeadAnswers, IsHeadLine, IsReported, IsScriptHeadLine, IsUnopened, heading}
use Rattle.cli_step.specs.declared.opening.HeadLine.TheVariants as head

pub refused_head : (has_file : Bool) (n : ℕ) (line : List ℕ) (reported cause : ScriptError) → reported ≡ cause → cause ≢ script.OutOfMemory
    → IsNextSetting has_file n line (Err cause) → IsScriptHeadLine has_file line (head.Refused reported)
refused_head has_file n line reported cause same is_refusal next =
    subst (λ (e : ScriptError). IsScriptHeadLine has_file line (head.Refused e)) (sym same) (is_refusal, (n, next.1))

pub unopened_head : (file : Option Flow) (line settings : List ℕ) (out err err_after : Option (List ℕ)) → IsHeadLine (is_some file) line head.Opens
    → IsUnopened file settings → IsReported err err_after → HeadAnswers file line (heading settings out err) (heading settings out err_after)
unopened_head file line settings out err err_after is unopened reported =
    (head.Opens, is, (unopened, record { settings = refl; out = refl; err = reported }))

-- what follows from three facts of a value
pub three_ok : {A E : Type 0} {P Q R S : A → Type 0} (r : Result A E) → ((a : A) → P a → Q a → R a → S a) → IfOk r P → IfOk r Q → IfOk r R → IfOk r S
three_ok (Ok a) f p q s = f a p q s
three_ok (Err e) f p q s = tt
