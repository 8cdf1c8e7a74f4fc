-- Looking bytes over tells the first fault of a line by itself or of the version, which is never out
-- of memory.
-- for: reader::to_report
use Rattle.std.proofs.Common.{◌≡◌, ℕ, zero, suc, ◌+◌, Bool, true, false, cond, Option, Some, None, Result, Ok, Err, refl, sym, ap, ◌∙◌, subst, codes, length}
use Rattle.std.specs.Prelude.{◌==◌}
use Rattle.std.specs.Str.{bytes_eq}
use Rattle.sw_context.specs.Names.{is_name}
use Rattle.sw_base.specs.Refusals.{refused}
use Rattle.flow_load.specs.declared.error.LoadError.{LoadError}
use Rattle.flow_load.specs.declared.error.LoadError.TheVariants.{OutOfMemory, BadHeader, BadLine, BadNumber}
use Rattle.flow_asm.specs.declared.code.Step.TheVariants.{Call, Pick, Return}
use Rattle.flow_load.specs.Image.{Text}
use Rattle.flow_load.specs.Reads.{◌>>=◌, found, fault_of, Fails}
use Rattle.flow_load.specs.Words.{cut, kind_of, name_at, name_of, number, number_at, number_of, word_at, word_is}
use Rattle.flow_load.specs.Forms.{ended, group_form, header_at, header_form, in_place, is_header, items_at, line_at, lines_in, part_form}
use Rattle.flow_load.specs.Forms.{step_form, step_named}
use Rattle.flow_load.specs.Forms.{step_of}
use Rattle.flow_load.specs.Load.{first_marked, line_fault, load_of, misversioned, version_fault}
use Rattle.flow_load.specs.LookOver.{lines_over}
use Rattle.flow_load.proofs.ItemLoop.{fails_when}

-- the lines, and then the version
abbrev versioned : Text → Result (Unit {0}) LoadError
versioned text = lines_in text >>= λ l. refused (version_fault l)

-- ---- looking over is reading without the values

plain : {A B C : Type 0} (r : Result A LoadError) (g : A → Result C LoadError) (k : A → Result B LoadError) (j : B → Result C LoadError) →
    ((x : A) → g x ≡ (k x >>= j)) → (r >>= g) ≡ (r >>= k >>= j)
plain (Ok x) g k j h = h x
plain (Err e) g k j h = refl

over : {A B C D : Type 0} (r : Result A LoadError) (f : A → D) (g : D → Result C LoadError) (k : A → Result B LoadError) (j : B → Result C LoadError) →
    ((x : A) → g (f x) ≡ (k x >>= j)) → ((r >>= λ x. Ok (f x)) >>= g) ≡ (r >>= k >>= j)
over (Ok x) f g k j h = h x
over (Err e) f g k j h = refl

lines_over_is : (text : Text) → lines_over text ≡ versioned text
unfolding lines_over lines_in
lines_over_is text =
    plain (header_at text) _ _ _ (λ h.
    over (items_at part_form h.0.parts 0 2 h.1) _ _ _ _ (λ ps.
    over (items_at group_form h.0.groups 0 (2 + h.0.parts) ps.1) _ _ _ _ (λ gs.
    over (items_at step_form h.0.steps 0 (2 + h.0.parts + h.0.groups) gs.1) _ _ _ _ (λ ss.
    plain (ended h.0 ss.1) _ _ _ (λ u. refl)))))

-- ---- the fault of a line by itself is never out of memory

abbrev NotMemory : LoadError → Type 0
NotMemory OutOfMemory = ⊥
NotMemory e = Unit {0}

abbrev Clean : {A : Type 0} → Result A LoadError → Type 0
Clean (Ok x) = Unit {0}
Clean (Err e) = NotMemory e

clean_bind : {A B : Type 0} (r : Result A LoadError) (f : A → Result B LoadError) → Clean r → ((x : A) → Clean (f x)) → Clean (r >>= f)
clean_bind (Ok x) f p h = h x
clean_bind (Err e) f p h = p

clean_found : {A : Type 0} (e : LoadError) (o : Option A) → NotMemory e → Clean (found e o)
clean_found e None p = p
clean_found e (Some x) p = tt

clean_if : {A : Type 0} (b : Bool) (x : A) (e : LoadError) → NotMemory e → Clean (cond b (Ok x) (Err e))
clean_if true x e p = tt
clean_if false x e p = p

module _ (e : LoadError) (p : NotMemory e) where
  clean_number_at : (text : Text) → Clean (number_at e text)
  clean_number_at text = clean_bind (word_at e text) _ (clean_found e (cut 32 text) p)
      (λ w. clean_bind (number_of e w.0) _ (clean_found e (number w.0) p) (λ n. tt))

  clean_word_is : (w text : Text) → Clean (word_is e w text)
  clean_word_is w text = clean_bind (word_at e text) _ (clean_found e (cut 32 text) p) (λ x. clean_if (bytes_eq x.0 w) x.1 e p)

  clean_name_at : (text : Text) → Clean (name_at e text)
  clean_name_at text = clean_bind (word_at e text) _ (clean_found e (cut 32 text) p)
      (λ w. clean_bind (name_of e w.0) _ (clean_if (is_name w.0) w.0 e p) (λ n. tt))

  clean_part : (text : Text) → Clean (part_form e text)
  unfolding part_form
  clean_part text =
      clean_bind (word_is e (codes "part") text) _ (clean_word_is (codes "part") text) (λ rest.
      clean_bind (number_at e rest) _ (clean_number_at rest) (λ n.
      clean_bind (name_at e n.1) _ (clean_name_at n.1) (λ name.
      clean_bind (found e (kind_of name.1)) _ (clean_found e (kind_of name.1) p) (λ k. tt))))

  clean_group : (text : Text) → Clean (group_form e text)
  unfolding group_form
  clean_group text =
      clean_bind (word_is e (codes "group") text) _ (clean_word_is (codes "group") text) (λ rest.
      clean_bind (number_at e rest) _ (clean_number_at rest) (λ n.
      clean_bind (name_at e n.1) _ (clean_name_at n.1) (λ name.
      clean_bind (number_of e name.1) _ (clean_found e (number name.1) p) (λ first. tt))))

  clean_named : (call pick : Bool) (n : ℕ) → Clean (cond call (Ok (Call n)) (cond pick (Ok (Pick n)) (Err e)))
  clean_named true pick n = tt
  clean_named false pick n = clean_if pick (Pick n) e p

  clean_step_by : (b : Bool) (text : Text) → Clean (cond b (Ok Return) (word_at e text >>= λ w. number_of e w.1 >>= λ n. step_named e w.0 n))
  clean_step_by true text = tt
  clean_step_by false text =
      clean_bind (word_at e text) _ (clean_found e (cut 32 text) p) (λ w.
      clean_bind (number_of e w.1) _ (clean_found e (number w.1) p) (λ n. clean_named (bytes_eq w.0 (codes "call")) (bytes_eq w.0 (codes "pick")) n))

  clean_step : (text : Text) → Clean (step_form e text)
  unfolding step_form step_of
  clean_step text =
      clean_bind (number_at e text) _ (clean_number_at text) (λ n.
      clean_bind (step_of e n.1) _ (clean_step_by (bytes_eq n.1 (codes "return")) n.1) (λ s. tt))

clean_header_form : (text : Text) → Clean (header_form text)
unfolding header_form
clean_header_form text =
    clean_bind (word_is BadHeader (codes "image") text) _ (clean_word_is BadHeader tt (codes "image") text) (λ rest.
    clean_bind (number_at BadHeader rest) _ (clean_number_at BadHeader tt rest) (λ v.
    clean_bind (number_at BadHeader v.1) _ (clean_number_at BadHeader tt v.1) (λ r.
    clean_bind (number_at BadHeader r.1) _ (clean_number_at BadHeader tt r.1) (λ p.
    clean_bind (number_at BadHeader p.1) _ (clean_number_at BadHeader tt p.1) (λ g.
    clean_bind (number_of BadHeader g.1) _ (clean_found BadHeader (number g.1) tt) (λ s. tt))))))

clean_header : (text : Text) → Clean (header_at text)
unfolding header_at
clean_header text =
    clean_bind (found BadHeader (cut 10 text)) _ (clean_found BadHeader (cut 10 text) tt) (λ line.
    clean_bind (header_form line.0) _ (clean_header_form line.0) (λ h. clean_if (is_header h) (h, line.1) BadHeader tt))

module _ {A : Type 0} (form : LoadError → Text → Result (ℕ × A) LoadError) (each : (e : LoadError) → NotMemory e → (text : Text) → Clean (form e text)) where
  clean_line : (n at : ℕ) (text : Text) → Clean (line_at form n at text)
  clean_line n at text =
      clean_bind (found (BadLine at) (cut 10 text)) _ (clean_found (BadLine at) (cut 10 text) tt) (λ line.
      clean_bind (form (BadLine at) line.0) _ (each (BadLine at) tt line.0) (λ x.
      clean_bind (in_place x.0 n at) _ (clean_if (x.0 == n) tt (BadNumber at) tt) (λ u. tt)))

  clean_items : (left n at : ℕ) (text : Text) → Clean (items_at form left n at text)
  unfolding items_at
  clean_items zero n at text = tt
  clean_items (suc left) n at text =
      clean_bind (line_at form n at text) _ (clean_line n at text) (λ x.
      clean_bind (items_at form left (n + 1) (at + 1) x.1) _ (clean_items left (n + 1) (at + 1) x.1) (λ xs. tt))

clean_lines : (text : Text) → Clean (lines_in text)
unfolding lines_in
clean_lines text =
    clean_bind (header_at text) _ (clean_header text) (λ h.
    clean_bind (items_at part_form h.0.parts 0 2 h.1) _ (clean_items part_form clean_part h.0.parts 0 2 h.1) (λ ps.
    clean_bind (items_at group_form h.0.groups 0 (2 + h.0.parts) ps.1) _ (clean_items group_form clean_group h.0.groups 0 (2 + h.0.parts) ps.1) (λ gs.
    clean_bind (items_at step_form h.0.steps 0 (2 + h.0.parts + h.0.groups) gs.1) _
    (clean_items step_form clean_step h.0.steps 0 (2 + h.0.parts + h.0.groups) gs.1) (λ ss.
    clean_bind (ended h.0 ss.1) _ (clean_if (length ss.1 == 0) tt (BadLine (2 + h.0.parts + h.0.groups + h.0.steps)) tt) (λ u. tt)))))

clean_unless : (b : Bool) (e : LoadError) → NotMemory e → Clean (refused (cond b None (Some e)))
clean_unless true e p = tt
clean_unless false e p = p

clean_version : (version : ℕ) (recovering : Option ℕ) → Clean (refused (misversioned version recovering))
clean_version version None = clean_unless (version == 1) BadHeader tt
clean_version version (Some at) = clean_unless (version == 2) (BadLine at) tt

clean_versioned : (text : Text) → Clean (versioned text)
clean_versioned text = clean_bind (lines_in text) _ (clean_lines text) (λ l. clean_version l.version (first_marked (λ p. p.kind.recovers) 2 l.parts))

-- ---- what looking over tells

stopped : {A B C : Type 0} (r : Result A LoadError) (f : A → Result B LoadError) (g : A → B → Result C LoadError) (e : LoadError) → (r >>= f) ≡ Err e →
    (r >>= λ x. f x >>= g x) ≡ Err e
stopped (Ok x) f g e h = rw h refl
stopped {C = C} (Err d) f g e h = let same : d ≡ e = cc in ap (λ (x : LoadError). let r : Result C LoadError = Err x in r) same

-- a fault is that of the reading
pub looked_fault : (text : Text) (e : LoadError) → lines_over text ≡ Err e → Fails e (load_of text)
unfolding load_of
looked_fault text e h = fails_when e (load_of text) (stopped (lines_in text) (λ l. refused (version_fault l)) _ e (sym (lines_over_is text) ∙ h))

-- and never out of memory
pub looked_memory : (text : Text) (e : LoadError) → e ≡ OutOfMemory → lines_over text ≡ Err e → ⊥
looked_memory text e h is = subst NotMemory h (subst (λ (r : Result (Unit {0}) LoadError). Clean r) (sym (lines_over_is text) ∙ is) (clean_versioned text))

-- no fault
pub looked_well : (text : Text) → lines_over text ≡ Ok tt → line_fault text ≡ None
looked_well text h = ap fault_of (sym (lines_over_is text) ∙ h)
