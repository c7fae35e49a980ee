use Rattle.std.proofs.Common.{map, take}
use Rattle.ir_formats.specs.Making.{given_rule, AddsRules}
use Rattle.ir_formats.proofs.rules.RuleMaker.add.Given as goal

abbrev pub invariant-loop-part : goal.invariant-loop-part
invariant-loop-part l = AddsRules l.fn.self l.self (map given_rule (take l.part-index l.rules)) l.fn.self.next_list
