-- How both directions towards another system are recoded.
use Rattle.std.specs.Prelude.{◌≡◌, ℕ, List, Option, Some, None}
use Rattle.std.specs.Arc.{arc_value}
use Rattle.iso_dialect.specs.declared.profile.Peer.{Peer}
use Rattle.iso_dialect.specs.declared.profile.Peer.TheVariants.{Acquirer, Host}
use Rattle.dialect_toml.specs.declared.frame.Frame.{Frame}
use Rattle.dialect_toml.specs.declared.read.ProfileFile.{ProfileFile}
use Rattle.cli_recode.specs.declared.message.Instead.{Instead}
use Rattle.cli_recode.specs.declared.message.Instead.TheVariants.{EmptyFrame, FormatError, Nothing}
use Rattle.cli_recode.specs.declared.message.Recoding.{Recoding}
use Rattle.cli_recode.specs.declared.message.Way.{Way}
use Rattle.cli_recode.specs.declared.message.Way.TheVariants.{FromOther, ToOther}
use Rattle.cli_recode.specs.declared.profile.TwoProfiles.{TwoProfiles}
use Rattle.cli_recode.specs.Streams.{read_form, recoding_of}
use Rattle.run_recode.specs.declared.passage.Edges.{Edges}
use Rattle.run_recode.specs.declared.passage.Passage.{Passage}
use Rattle.run_recode.specs.declared.passage.Passages.{Passages}

-- what stands instead of a message that is not recoded
abbrev pub instead_of : Way → Peer → Instead
instead_of FromOther peer = EmptyFrame
instead_of ToOther Acquirer = FormatError
instead_of ToOther Host = Nothing

-- recodes as this does, with this header, and what stands instead and the place of its own
abbrev pub IsPassageOf : Recoding → Frame → Peer → ℕ → List ℕ → Passage → Type 0
IsPassageOf job form peer header place p =
    (arc_value p.recoding ≡ record job { header = header; instead = instead_of job.way peer; place = place }) × (p.form ≡ form)

-- the same of one direction, by a profile file
abbrev pub IsPassageBy : Way → ProfileFile → Peer → ℕ → List ℕ → Option Passage → Type 0
IsPassageBy way file peer header place None = ⊥
IsPassageBy way file peer header place (Some p) = IsPassageOf (recoding_of way file) (read_form way file) peer header place p

-- each direction by its own file
pub record ArePassagesOf (files : TwoProfiles) (peer : Peer) (edges : Edges) (p : Passages) : Type 0 where
  pub from : IsPassageBy FromOther files.from peer edges.header edges.from p.from
  pub to : IsPassageBy ToOther files.to peer edges.header edges.to p.to

-- bytes pass as they are in both directions
abbrev pub plain : Passages
plain = record { from = None; to = None }
