-- What the subcommands over flow files and images read and write.
use Rattle.std.specs.Prelude.{◌≡◌, ℕ, List, Option, IfSome}
use Rattle.std.specs.Io.KnownBytes.{Appends}
use Rattle.flow_model.specs.declared.flow.Flow.{Flow}
use Rattle.flow_toml.specs.FlowFile.{IsFlowFile}
use Rattle.flow_load.specs.Image.{image_of}

-- the bytes to be read, where they are known, are a flow file of the flow
abbrev pub Reads : Option (List ℕ) → Flow → Type 0
Reads unread f = IfSome unread (λ bytes. IsFlowFile f bytes)

-- the bytes to be read are a flow file, and the image of its flow is written
abbrev pub IsAssembled : Option (List ℕ) → Option (List ℕ) → Option (List ℕ) → Type 0
IsAssembled unread written written_now = (f : Flow) × Reads unread f × Appends written written_now (image_of f)

-- the bytes are the image of a flow, and a flow file of it is written
abbrev pub IsListedOf : List ℕ → Option (List ℕ) → Option (List ℕ) → Type 0
IsListedOf bytes written written_now = (f : Flow) × (bytes ≡ image_of f) × (text : List ℕ) × IsFlowFile f text × Appends written written_now text

-- the same of the bytes to be read, where they are known
abbrev pub IsListed : Option (List ℕ) → Option (List ℕ) → Option (List ℕ) → Type 0
IsListed unread written written_now = IfSome unread (λ bytes. IsListedOf bytes written written_now)
