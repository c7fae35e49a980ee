use Rattle.std.proofs.Common.{◌≡◌, ◌++◌}
use Rattle.ir_names.specs.Dictionary.{texts, names_of}
use Rattle.ir_names.proofs.dictionary.AttributeDict.names.Given as goal

abbrev pub invariant-loop-name : goal.invariant-loop-name
invariant-loop-name g l = texts l.names.items ++ names_of l.name-iterator ≡ names_of l.self
