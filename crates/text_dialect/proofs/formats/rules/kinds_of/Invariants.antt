use Rattle.std.proofs.Common.{◌≡◌, map, take}
use Rattle.ir_formats.specs.Making.{kind_of}
use Rattle.ir_formats.specs.Rules.{kinds_of}
use Rattle.text_dialect.proofs.formats.rules.kinds_of.Given as goal

abbrev pub invariant-loop-number : goal.invariant-loop-number
invariant-loop-number g l = map kind_of l.kinds.items ≡ take l.number (kinds_of g.D.TextDialect.formats l.sort)
