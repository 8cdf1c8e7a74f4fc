-- The document of a flow states that flow.
-- for: print::print_flow
use Rattle.std.proofs.Common.{◌≡◌, ℕ, ◌+◌, ◌≤◌, true, List, [], ◌∷◌, map, Some, None, Ok, refl, arith, pos}
use Rattle.std.proofs.lemmas.Bool.Decides.{nat_tests}
use Rattle.flow_model.specs.declared.flow.Flow as flow
use Rattle.flow_model.specs.declared.flow.Group as group
use Rattle.flow_model.specs.declared.flow.Entry as entry
use Rattle.flow_model.specs.Check.{first_fault}
use Rattle.toml.specs.Data.{items_depth, members_depth, items_have_valid_dates, members_have_valid_dates}
use Rattle.toml.specs.View.{items_of}
use Rattle.toml.specs.Text.{are_tables}
use Rattle.toml.specs.Parse.{parse_document}
use Rattle.flow_toml.specs.Reads.{each}
use Rattle.flow_toml.specs.FlowFile.{entry_of, group_of, retries_of, reading, IsFlowFile}
use Rattle.toml_tables.specs.Tables.{tables_in}
use Rattle.flow_toml.specs.Document.{entry_data, entry_members, group_data, group_members, document_of}
use Rattle.flow_model.proofs.ParticipantBounds.{few_retries}

entry_again : (g i : ℕ) (e : entry.Entry) → entry_of g i (entry_members e) ≡ Ok e
entry_again g i e = refl

entries_again : (g n : ℕ) (es : List entry.Entry) → each (entry_of g) n (tables_in (items_of (map entry_data es))) ≡ Ok es
entries_again g n [] = refl
entries_again g n (e ∷ es) = rw (entries_again g (n + 1) es) refl

entries_are_tables : (es : List entry.Entry) → are_tables (items_of (map entry_data es)) ≡ true
entries_are_tables [] = refl
entries_are_tables (e ∷ es) = entries_are_tables es

group_again : (n : ℕ) (g : group.Group) → group_of n (group_members g) ≡ Ok g
group_again n g = rw (entries_are_tables g.entries, entries_again n 0 g.entries) refl

groups_again : (n : ℕ) (gs : List group.Group) → each group_of n (tables_in (items_of (map group_data gs))) ≡ Ok gs
groups_again n [] = refl
groups_again n (g ∷ gs) = rw (entries_are_tables g.entries, entries_again n 0 g.entries, groups_again (n + 1) gs) refl

groups_are_tables : (gs : List group.Group) → are_tables (items_of (map group_data gs)) ≡ true
groups_are_tables [] = refl
groups_are_tables (g ∷ gs) = groups_are_tables gs

retries_again : (n : ℕ) → n ≤ 100 → retries_of (Some (pos n)) ≡ n
retries_again n h = grind (arith, nat_tests)

entries_depth : (es : List entry.Entry) → items_depth (items_of (map entry_data es)) ≤ 1
entries_depth [] = omega arith
entries_depth (e ∷ es) = omega (arith, entries_depth es)

groups_depth : (gs : List group.Group) → items_depth (items_of (map group_data gs)) ≤ 3
groups_depth [] = omega arith
groups_depth (g ∷ gs) = omega (arith, entries_depth g.entries, groups_depth gs)

pub document_depth : (f : flow.Flow) → members_depth (document_of f) ≤ 80
document_depth f = omega (arith, groups_depth f.groups)

entries_dates : (es : List entry.Entry) → items_have_valid_dates (items_of (map entry_data es)) ≡ true
entries_dates [] = refl
entries_dates (e ∷ es) = entries_dates es

groups_dates : (gs : List group.Group) → items_have_valid_dates (items_of (map group_data gs)) ≡ true
groups_dates [] = refl
groups_dates (g ∷ gs) = rw (entries_dates g.entries, groups_dates gs) refl

pub document_dates : (f : flow.Flow) → members_have_valid_dates (document_of f) ≡ true
document_dates f = rw (groups_dates f.groups) refl

-- a text that parses as the document of a checked flow is a flow file of it
pub file_again : (text : List ℕ) (f : flow.Flow) → first_fault f ≡ None → parse_document text ≡ Some (document_of f) → IsFlowFile f text
unfolding reading
file_again text f h p = rw (p, groups_are_tables f.groups, groups_again 0 f.groups, retries_again f.retries (few_retries f h), h) refl
