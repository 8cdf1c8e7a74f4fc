-- The flow that a text states, or its first fault.
use Rattle.std.specs.Prelude.{◌≡◌, ⊤, ℕ, Bool, false, List, [], ◌∷◌, nat_le, Option, Some, None, option_map, Result, Ok, Err, ℤ, pos, negsuc, if◌then◌else◌}
use Rattle.std.specs.Prelude.{unwrap_or, option_and_then}
use Rattle.flow_model.specs.declared.flow.Flow as flow
use Rattle.flow_model.specs.declared.flow.Group as group
use Rattle.flow_model.specs.declared.flow.Entry as entry
use Rattle.flow_model.specs.declared.error.FlowError.{FlowError}
use Rattle.flow_model.specs.Check.{first_fault}
use Rattle.toml.specs.Data.{Items, Members, get_member, as_integer, as_array}
use Rattle.toml.specs.Parse.{parse_document}
use Rattle.toml_tables.specs.Tables.{flag_at, tables_in, text_at}
use Rattle.toml.specs.Errors.{IsWithin}
use Rattle.flow_toml.specs.declared.error.FlowTomlError.{FlowTomlError}
use Rattle.flow_toml.specs.declared.error.FlowTomlError.TheVariants.{OutOfMemory, Toml, Flow}
use Rattle.flow_toml.specs.declared.keys.TablePath.{TablePath}
use Rattle.flow_toml.specs.declared.keys.TablePath.TheVariants as path
use Rattle.flow_toml.specs.declared.keys.Key.{Key}
use Rattle.flow_toml.specs.declared.keys.Key.TheVariants as key
use Rattle.flow_toml.specs.Keys.{spelling}
use Rattle.flow_toml.specs.Faults.{table_fault}
use Rattle.flow_toml.specs.Reads.{◌>>=◌, each}
use Rattle.sw_base.specs.Refusals.{refused}

-- What stands at a key of a table without a fault: the default if it is absent. (Other tables have
-- a value here too, which is never read.)
abbrev pub mark_at : Key → Members → Bool
mark_at k ms = unwrap_or (flag_at (spelling k) ms) false

abbrev pub tables_of : Option Items → List Members
tables_of None = []
tables_of (Some ds) = tables_in ds

-- the tables at a key, in order; none if it is absent
abbrev pub tables_at : Key → Members → List Members
tables_at k ms = tables_of (option_and_then as_array (get_member (spelling k) ms))

-- 101, which no checked flow has, represents each integer out of range
abbrev pub retries_of : Option ℤ → ℕ
retries_of None = 0
retries_of (Some (pos n)) = if nat_le n 100 then n else 101
retries_of (Some (negsuc n)) = 101

abbrev pub retries_at : Members → ℕ
retries_at ms = retries_of (option_and_then as_integer (get_member (spelling key.Retries) ms))

-- each table: its own first fault, then those of the tables in it, in order
abbrev pub entry_at : TablePath → Members → Result entry.Entry FlowTomlError
entry_at p ms = refused (table_fault p ms) >>= λ _. Ok (record {
  participant = text_at (spelling key.Participant) ms;
  kind = record { selector = mark_at key.Selector ms; abort_aware = mark_at key.AbortAware ms; recovers = mark_at key.Recovers ms };
})

abbrev pub entry_of : ℕ → ℕ → Members → Result entry.Entry FlowTomlError
entry_of g i ms = entry_at (path.Entry g i) ms

abbrev pub entries_in : ℕ → Items → Result (List entry.Entry) FlowTomlError
entries_in g ds = each (entry_of g) 0 (tables_in ds)

abbrev pub entries_at : ℕ → Members → Result (List entry.Entry) FlowTomlError
entries_at g ms = each (entry_of g) 0 (tables_at key.Entry ms)

abbrev pub group_of : ℕ → Members → Result group.Group FlowTomlError
group_of g ms = refused (table_fault (path.Group g) ms) >>= λ _. each (entry_of g) 0 (tables_at key.Entry ms) >>= λ es. Ok (record {
  name = text_at (spelling key.Name) ms;
  entries = es;
})

abbrev pub groups_in : Items → Result (List group.Group) FlowTomlError
groups_in ds = each group_of 0 (tables_in ds)

abbrev pub groups_at : Members → Result (List group.Group) FlowTomlError
groups_at ms = each group_of 0 (tables_at key.Group ms)

abbrev pub flow_of : Members → Result flow.Flow FlowTomlError
flow_of ms = refused (table_fault path.Top ms) >>= λ _. each group_of 0 (tables_at key.Group ms) >>= λ gs. Ok (record {
  retries = retries_at ms;
  groups = gs;
})

-- a flow, unless its check refuses it
abbrev pub checked : flow.Flow → Option FlowError → Result flow.Flow FlowTomlError
checked f None = Ok f
checked f (Some e) = Err (Flow e)

-- the checked flow of a document, or its first fault
abbrev pub checked_flow_of : Members → Result flow.Flow FlowTomlError
checked_flow_of ms = flow_of ms >>= λ f. checked f (first_fault f)

-- what a text reads as; nothing if it is not TOML
unfoldable pub reading : List ℕ → Option (Result flow.Flow FlowTomlError)
reading text = option_map checked_flow_of (parse_document text)

-- the text is a flow file of the flow
abbrev pub IsFlowFile : flow.Flow → List ℕ → Type 0
IsFlowFile f text = reading text ≡ Some (Ok f)

-- What a refusal says about a text: nothing if memory ran out, otherwise its first fault. With the fault that
-- it is not TOML comes a span of the text.
abbrev pub Refuses : List ℕ → FlowTomlError → Type 0
Refuses text OutOfMemory = ⊤
Refuses text (Toml t) = (parse_document text ≡ None) × IsWithin text t
Refuses text e = reading text ≡ Some (Err e)
