-- What is read of bytes is a flow whose image they are.
-- for: reader::load
use Rattle.std.specs.Prelude.{◌==◌}
use Rattle.std.proofs.Common.{◌≡◌, ℕ, ◌+◌, Bool, true, false, List, [], ◌∷◌, Option, Some, None, Ok, refl, ap, ◌∙◌, arith, inl, inr, cond}
use Rattle.std.proofs.lemmas.Bool.{cases_Bool}
use Rattle.std.proofs.lemmas.Bool.Decides.{nat_tests}
use Rattle.flow_model.specs.declared.flow.Flow as flow
use Rattle.flow_model.specs.declared.numbering.Part.{Part}
use Rattle.flow_model.specs.declared.error.FlowError.{FlowError}
use Rattle.flow_model.specs.Check.{first_fault}
use Rattle.flow_load.specs.declared.error.LoadError.TheVariants.{BadHeader, BadLine}
use Rattle.flow_load.specs.declared.lines.Lines.{Lines}
use Rattle.flow_load.specs.Image.{Text, image_of, lines_of, spelled, version_of}
use Rattle.sw_base.specs.Refusals.{refused}
use Rattle.flow_load.specs.Forms.{lines_in}
use Rattle.flow_load.specs.Groups.{flow_in}
use Rattle.flow_load.specs.Load.{first_recovering, misversioned, version_fault, sound, load_of}
use Rattle.flow_load.proofs.LineSpelling.{lines_ok, same_value, with_bind}
use Rattle.flow_load.proofs.StepsRead.{IsLaidOut, flow_ok, none_refused}

version_is : (v at : ℕ) (parts : List Part) → misversioned v (first_recovering at parts) ≡ None → v ≡ version_of parts
version_is v at [] h = one_if (v == 1) refl h
  where
    one_if : (b : Bool) → (v == 1) ≡ b → cond b None (Some BadHeader) ≡ None → v ≡ 1
    one_if true e good = grind (arith, nat_tests)
    one_if false e bad = absurd (cc)
version_is v at (p ∷ ps) h =
    elim (cases_Bool p.kind.recovers) [
      | inl recovers ↦ rw recovers (two_if (v == 2) refl (rw recovers at h))
      | inr plain ↦ rw plain (version_is v (at + 1) ps (rw plain at h))
    ]
  where
    two_if : (b : Bool) → (v == 2) ≡ b → cond b None (Some (BadLine at)) ≡ None → v ≡ 2
    two_if true e good = grind (arith, nat_tests)
    two_if false e bad = absurd (cc)

lines_are : (l : Lines) (f : flow.Flow) → l.version ≡ version_of l.parts → IsLaidOut l f → l ≡ lines_of f
lines_are l f v i =
    ap (λ n. record { version = n; retries = l.retries; parts = l.parts; starts = l.starts; steps = l.steps }) v
    ∙ ap (λ n. record { version = version_of l.parts; retries = n; parts = l.parts; starts = l.starts; steps = l.steps }) i.retries
    ∙ ap (λ ps. record { version = version_of ps; retries = f.retries; parts = ps; starts = l.starts; steps = l.steps }) i.parts
    ∙ ap (λ ss. record { version = (lines_of f).version; retries = f.retries; parts = (lines_of f).parts; starts = ss; steps = l.steps }) i.starts
    ∙ ap (λ xs. record { version = (lines_of f).version; retries = f.retries; parts = (lines_of f).parts; starts = (lines_of f).starts; steps = xs }) i.steps

sound_is : (g f : flow.Flow) (o : Option FlowError) → sound g o ≡ Ok f → g ≡ f
sound_is g f None h = same_value g f h
sound_is g f (Some e) h = absurd (cc)

pub image_found : (bytes : Text) (f : flow.Flow) → load_of bytes ≡ Ok f → bytes ≡ image_of f
unfolding load_of image_of
image_found bytes f h =
    with_bind _ (lines_in bytes) _ f (λ l is more.
    with_bind _ (refused (version_fault l)) _ f (λ u is2 more2.
    with_bind _ (flow_in l) _ f (λ g is3 last.
    let version = version_is l.version 2 l.parts (none_refused (version_fault l) u is2) in
    lines_ok bytes l is ∙ ap spelled (lines_are l g version (flow_ok l g is3)) ∙ ap image_of (sound_is g f (first_fault g) last)) more2) more) h
