use Rattle.std.proofs.Common.{◌≡◌, drop}
use Rattle.dialect_toml.specs.Words.{word_in}
use Rattle.dialect_toml.proofs.words.word_in.Given as goal

abbrev pub invariant-loop-word : goal.invariant-loop-word
invariant-loop-word g l = word_in g.W.AsStr.text (drop l.word-index l.words) l.text ≡ word_in g.W.AsStr.text l.words l.text
