use Rattle.ir_names.proofs.HashTotal.{IsHashedTo}
use Rattle.ir_names.proofs.dictionary.AttributeDict.total_hash.Given as goal

abbrev pub invariant-loop-name : goal.invariant-loop-name
invariant-loop-name g l = IsHashedTo g.D.Attr.Hash.hash_input l.self l.name-iterator l.total
