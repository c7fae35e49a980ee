use Rattle.std.proofs.Common.{◌≡◌, map, take}
use Rattle.ir_names.specs.Identifier.{text_of}
use Rattle.irkit_driver.proofs.executing.identifiers.Given as goal

abbrev pub invariant-loop-text : goal.invariant-loop-text
invariant-loop-text l = map text_of l.names.items ≡ map (λ t. t.now) (take l.text-index l.texts)
