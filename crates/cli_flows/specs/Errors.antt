-- What the errors of the parts become: out of memory is reported as such, and every other error is carried.
use Rattle.std.specs.Prelude.{◌≡◌, ⊤, ℕ, List, Option, None, IfSome, Err}
use Rattle.std.specs.Str.{IsUtf8}
use Rattle.cli_io.specs.declared.error.IoError.TheVariants as io
use Rattle.flow_toml.specs.declared.error.FlowTomlError.{FlowTomlError}
use Rattle.flow_toml.specs.declared.error.FlowTomlError.TheVariants as file
use Rattle.flow_toml.specs.FlowFile.{Refuses}
use Rattle.flow_load.specs.declared.error.LoadError.{LoadError}
use Rattle.flow_load.specs.declared.error.LoadError.TheVariants as image
use Rattle.flow_load.specs.Load.{line_fault, load_of}
use Rattle.cli_flows.specs.declared.error.FlowsError.{FlowsError}
use Rattle.cli_flows.specs.declared.error.FlowsError.TheVariants.{File, Image, Io, NotText, Open}

-- of what is quoted from the flow file, or from the image, this says nothing
abbrev pub IsErrorOfFile : FlowTomlError → FlowsError → Type 0
IsErrorOfFile file.OutOfMemory e = e ≡ Io io.OutOfMemory
IsErrorOfFile f (File g found) = g ≡ f
IsErrorOfFile f e = ⊥

abbrev pub IsErrorOfImage : LoadError → FlowsError → Type 0
IsErrorOfImage image.OutOfMemory e = e ≡ Io io.OutOfMemory
IsErrorOfImage l (Image m found) = m ≡ l
IsErrorOfImage l e = ⊥

-- what a refusal says of the bytes of a flow file; nothing where memory ran out
abbrev pub IsFileRefusal : List ℕ → FlowsError → Type 0
IsFileRefusal bytes (Io io.OutOfMemory) = ⊤
IsFileRefusal bytes (NotText e) = ¬ (IsUtf8 bytes)
IsFileRefusal bytes (File e found) = Refuses bytes e
IsFileRefusal bytes _ = ⊥

-- what a refusal says of the bytes of an image; memory runs out only where no line is refused by itself
abbrev pub IsImageRefusal : List ℕ → FlowsError → Type 0
IsImageRefusal bytes (Io io.OutOfMemory) = line_fault bytes ≡ None
IsImageRefusal bytes (Image e found) = load_of bytes ≡ Err e
IsImageRefusal bytes _ = ⊥

-- The same of bytes that are read, where they are known: a fault of them is reported only where they have it;
-- otherwise the reading, the writing or the memory failed.
abbrev pub RefusesFile : Option (List ℕ) → FlowsError → Type 0
RefusesFile unread (NotText e) = IfSome unread (λ bytes. IsFileRefusal bytes (NotText e))
RefusesFile unread (File e found) = IfSome unread (λ bytes. IsFileRefusal bytes (File e found))
RefusesFile unread (Image e found) = ⊥
RefusesFile unread (Open e) = ⊥
RefusesFile unread _ = ⊤

-- the same of bytes that are to be an image
abbrev pub RefusesImage : Option (List ℕ) → FlowsError → Type 0
RefusesImage unread (Image e found) = IfSome unread (λ bytes. IsImageRefusal bytes (Image e found))
RefusesImage unread (File e found) = ⊥
RefusesImage unread (NotText e) = ⊥
RefusesImage unread (Open e) = ⊥
RefusesImage unread _ = ⊤

-- nothing is written, unless writing failed or memory ran out
abbrev pub IsUnwritten : Option (List ℕ) → Option (List ℕ) → FlowsError → Type 0
IsUnwritten written written_now (Io io.OutOfMemory) = ⊤
IsUnwritten written written_now (Io (io.Write e)) = ⊤
IsUnwritten written written_now _ = written_now ≡ written
