-- The text of a flow's picture, for Mermaid and for Graphviz's DOT language.
use Rattle.std.specs.Prelude.{ℕ, ◌+◌, zero, suc, Bool, true, false, ◌||◌, List, [], ◌∷◌, ◌++◌, codes, if◌then◌else◌}
use Rattle.std.specs.List.{list_any}
use Rattle.std.specs.Fmt.{decimal}
use Rattle.sw_participant.specs.declared.kind.Kind.{Kind}
use Rattle.flow_model.specs.declared.flow.Flow.{Flow}
use Rattle.flow_model.specs.declared.flow.Group.{Group}
use Rattle.flow_model.specs.declared.flow.Entry.{Entry}
use Rattle.cli_forms.specs.declared.graph.GraphForm.{GraphForm}
use Rattle.cli_forms.specs.declared.graph.GraphForm.TheVariants.{Mermaid, Dot}

-- text as bytes
abbrev pub Text : Type 0
Text = List ℕ

-- the texts of items, one after the other, the first of which has number n
abbrev pub texts : {A : Type 0} → (ℕ → A → Text) → ℕ → List A → Text
texts spell n [] = []
texts spell n (x ∷ xs) = spell n x ++ texts spell (n + 1) xs

-- the name of a group's head, and of an entry's node
abbrev pub head_name : ℕ → Text
head_name g = codes "g" ++ decimal g

abbrev pub entry_name : ℕ → ℕ → Text
entry_name g i = codes "e" ++ (decimal g ++ (codes "_" ++ decimal i))

-- the marks that a node's shape does not show
abbrev pub marks_word : Bool → Bool → Text
marks_word false false = []
marks_word true false = codes " (abort-aware)"
marks_word false true = codes " (recovering)"
marks_word true true = codes " (abort-aware, recovering)"

abbrev pub marks_text : Kind → Text
marks_text k = marks_word k.abort_aware k.recovers

-- what comes before and after a node's label; a selector is a hexagon, any other participant a rectangle
abbrev pub node_open : GraphForm → Bool → Text
node_open Mermaid false = codes "[\""
node_open Mermaid true = codes "{{\""
node_open Dot _ = codes " [label=\""

abbrev pub node_close : GraphForm → Bool → Text
node_close Mermaid false = codes "\"]"
node_close Mermaid true = codes "\"}}"
node_close Dot false = codes "\", shape=box];"
node_close Dot true = codes "\", shape=hexagon];"

-- the line of an entry's node, by the number of its group and its index
abbrev pub entry_text : GraphForm → ℕ → ℕ → Entry → Text
entry_text form g i e =
    codes "    " ++ (entry_name g i ++ (node_open form e.kind.selector
    ++ (e.participant ++ (marks_text e.kind ++ (node_close form e.kind.selector ++ codes "\n")))))

-- a group's box: its label, its head, its entries in their order
abbrev pub box_open : GraphForm → Text
box_open Mermaid = codes "group"
box_open Dot = codes "cluster"

abbrev pub label_open : GraphForm → Text
label_open Mermaid = codes " [\""
label_open Dot = codes " {\n    label=\""

abbrev pub label_close : GraphForm → Text
label_close Mermaid = codes "\"]"
label_close Dot = codes "\";"

abbrev pub box_label : GraphForm → ℕ → Text → Text
box_label form g name =
    codes "  subgraph " ++ (box_open form ++ (decimal g
    ++ (label_open form ++ (name ++ (label_close form ++ codes "\n")))))

abbrev pub head_open : GraphForm → Text
head_open Mermaid = codes "([\""
head_open Dot = codes " [label=\""

abbrev pub head_close : GraphForm → Text
head_close Mermaid = codes "\"])"
head_close Dot = codes "\", shape=oval];"

abbrev pub head_text : GraphForm → ℕ → Text → Text
head_text form g name =
    codes "    " ++ (head_name g ++ (head_open form ++ (name ++ (head_close form ++ codes "\n"))))

abbrev pub box_end : GraphForm → Text
box_end Mermaid = codes "  end\n"
box_end Dot = codes "  }\n"

abbrev pub group_text : GraphForm → ℕ → Group → Text
group_text form g x =
    box_label form g x.name ++ (head_text form g x.name ++ (texts (entry_text form g) 0 x.entries ++ box_end form))

-- plain arrows lead to each entry from the one before it
abbrev pub arrow : GraphForm → Text
arrow Mermaid = codes " --> "
arrow Dot = codes " -> "

abbrev pub plain_step : GraphForm → ℕ → ℕ → Text
plain_step form g i = arrow form ++ entry_name g i

abbrev pub plain_entry : GraphForm → ℕ → ℕ → Entry → Text
plain_entry form g i e = plain_step form g i

-- the participants that are called while a transaction aborts
abbrev pub is_called : Kind → Bool
is_called k = k.abort_aware || k.selector

abbrev pub has_called : List Entry → Bool
has_called es = list_any (λ (e : Entry). is_called e.kind) es

abbrev pub abort_arrow : GraphForm → Text
abort_arrow Mermaid = codes " -. abort .-> "
abort_arrow Dot = codes " -> "

-- an arrow to the entry, if its participant is called while a transaction aborts
abbrev pub abort_step : GraphForm → ℕ → ℕ → Kind → Text
abort_step form g i k = if is_called k then abort_arrow form ++ entry_name g i else []

abbrev pub abort_entry : GraphForm → ℕ → ℕ → Entry → Text
abort_entry form g i e = abort_step form g i e.kind

abbrev pub abort_end : GraphForm → Text
abort_end Mermaid = codes "\n"
abort_end Dot = codes " [style=dashed, label=\"abort\"];\n"

-- dashed arrows lead from a group's head through those of its entries
abbrev pub abort_path : GraphForm → ℕ → List Entry → Text
abort_path form g es =
    if has_called es then codes "  " ++ (head_name g ++ (texts (abort_entry form g) 0 es ++ abort_end form)) else []

-- the heads of all groups
abbrev pub gap : GraphForm → ℕ → Text
gap form zero = []
gap Mermaid (suc n) = codes " & "
gap Dot (suc n) = codes " "

abbrev pub target_text : GraphForm → ℕ → Text
target_text form h = gap form h ++ head_name h

abbrev pub target_group : GraphForm → ℕ → Group → Text
target_group form h x = target_text form h

-- bold arrows lead from a selector to each of them
abbrev pub bold_arrow : GraphForm → Text
bold_arrow Mermaid = codes " == selects ==> "
bold_arrow Dot = codes " -> {"

abbrev pub bold_end : GraphForm → Text
bold_end Mermaid = []
bold_end Dot = codes "} [style=bold, label=\"selects\"];"

abbrev pub bold_text : GraphForm → Text → Text → Text
bold_text form name targets = codes "  " ++ (name ++ (bold_arrow form ++ (targets ++ (bold_end form ++ codes "\n"))))

-- the arrows from an entry, if it is a selector
abbrev pub selection_text : GraphForm → List Group → ℕ → ℕ → Kind → Text
selection_text form gs g i k =
    if k.selector then bold_text form (entry_name g i) (texts (target_group form) 0 gs) else []

abbrev pub selection_entry : GraphForm → List Group → ℕ → ℕ → Entry → Text
selection_entry form gs g i e = selection_text form gs g i e.kind

-- those of all selectors of a group
abbrev pub selections : GraphForm → List Group → ℕ → List Entry → Text
selections form gs g es = texts (selection_entry form gs g) 0 es

abbrev pub line_end : GraphForm → Text
line_end Mermaid = codes "\n"
line_end Dot = codes ";\n"

-- the arrows of a group
abbrev pub group_paths : GraphForm → List Group → ℕ → Group → Text
group_paths form gs g x =
    codes "  " ++ (head_name g ++ (texts (plain_entry form g) 0 x.entries ++ (line_end form
    ++ (abort_path form g x.entries ++ selections form gs g x.entries))))

-- the arrows of all groups
abbrev pub all_paths : GraphForm → List Group → Text
all_paths form gs = texts (group_paths form gs) 0 gs

-- a picture of these boxes, and of these arrows
abbrev pub whole : GraphForm → Text → Text → Text
whole Mermaid boxes paths = codes "flowchart TD\n" ++ (boxes ++ paths)
whole Dot boxes paths = codes "digraph flow {\n" ++ (boxes ++ (paths ++ codes "}\n"))

abbrev pub picture_of : GraphForm → Flow → Text
picture_of form f = whole form (texts (group_text form) 0 f.groups) (all_paths form f.groups)
