use Rattle.std.proofs.Common.{◌≡◌, ◌++◌, map, take}
use Rattle.iso_dialect.specs.Pages.{code_in}
use Rattle.iso_dialect.proofs.write_text.push_codes.Given as goal

abbrev pub invariant-loop-c : goal.invariant-loop-c
invariant-loop-c l = l.out.items ≡ l.fn.out.items ++ map (code_in l.page) (take l.c-index l.text)
