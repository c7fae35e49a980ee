use Rattle.std.proofs.Common.{◌≡◌}
use Rattle.std.specs.List.{list_all}
use Rattle.ir_names.specs.Dictionary.{agrees}
use Rattle.ir_names.proofs.dictionary.AttributeDict.is_within.Given as goal

abbrev pub invariant-loop-name : goal.invariant-loop-name
invariant-loop-name g l = list_all (agrees g.D.Attr.PartialEq.eq l.other) l.self ≡ list_all (agrees g.D.Attr.PartialEq.eq l.other) l.name-iterator
