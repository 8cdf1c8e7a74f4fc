use Rattle.std.proofs.Common.{◌∙◌, ap}
use Rattle.iso_dialect.specs.Profiles.{counts}
use Rattle.iso_dialect.specs.Writings.{is_sound_at}
use Rattle.iso_dialect.proofs.CheckedRows.{counts_at, sound_at}
use Rattle.iso_dialect.proofs.profile.Profile.row.Goals as goal

pub returns-clause-counts : goal.returns-clause-counts
returns-clause-counts c = ap counts c.row_at.ensures ∙ counts_at c.self.inside.draft c.args.number c.self.invariant

pub returns-clause-sound : goal.returns-clause-sound
returns-clause-sound c = ap is_sound_at c.row_at.ensures ∙ sound_at c.self.inside.draft c.args.number c.self.invariant
