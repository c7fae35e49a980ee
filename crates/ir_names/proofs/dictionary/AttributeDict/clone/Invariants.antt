use Rattle.ir_names.proofs.Copied.{IsCopiedTo}
use Rattle.ir_names.proofs.dictionary.AttributeDict.clone.Given as goal

abbrev pub invariant-loop-name : goal.invariant-loop-name
invariant-loop-name g l = IsCopiedTo g.D.Attr.PartialEq.eq l.self l.name-iterator l.copy
