-- The document that is printed for a flow, each key written out.
use Rattle.std.specs.Prelude.{◌≡◌, ◌≤◌, ℕ, List, Some, pos, codes, map}
use Rattle.std.specs.Ordering.{nat_cmp, match_ordering}
use Rattle.std.specs.Cmp.Lexicographic.{slice_cmp}
use Rattle.toml.specs.View.{items_of}
use Rattle.flow_model.specs.declared.flow.Flow as flow
use Rattle.flow_model.specs.declared.flow.Group as group
use Rattle.flow_model.specs.declared.flow.Entry as entry
use Rattle.toml.specs.Data.{Data, string, integer, boolean, array, table, Members, no_members, member, members_depth}
use Rattle.toml.specs.Parse.{parse_document}

-- members, with a value put at a key
abbrev pub insert_member : List ℕ → Data → Members → Members
insert_member k d no_members = member k d no_members
insert_member k d (member l e ms) = match_ordering (slice_cmp nat_cmp k l) (member k d (member l e ms)) (member l d ms) (member l e (insert_member k d ms))

-- the new members are the old ones with a value put at a key
abbrev pub Puts : (old new : Members) → List ℕ → Data → Type 0
Puts old new k d = new ≡ insert_member k d old

-- a text in which nothing stands too deep reads back as the members
abbrev pub ReadsBack : Members → List ℕ → Type 0
ReadsBack ms text = members_depth ms ≤ 80 → parse_document text ≡ Some ms

abbrev pub entry_members : entry.Entry → Members
entry_members e =
    member (codes "abort_aware") (boolean e.kind.abort_aware)
    (member (codes "participant") (string e.participant)
    (member (codes "recovers") (boolean e.kind.recovers)
    (member (codes "selector") (boolean e.kind.selector) no_members)))

abbrev pub entry_data : entry.Entry → Data
entry_data e = table (entry_members e)

abbrev pub group_members : group.Group → Members
group_members g = member (codes "entry") (array (items_of (map entry_data g.entries))) (member (codes "name") (string g.name) no_members)

abbrev pub group_data : group.Group → Data
group_data g = table (group_members g)

abbrev pub document_of : flow.Flow → Members
document_of f = member (codes "group") (array (items_of (map group_data f.groups))) (member (codes "retries") (integer (pos f.retries)) no_members)
