use Rattle.std.proofs.Common.{[], drop, map}
use Rattle.ir_formats.specs.Making.{kind_of}
use Rattle.ir_formats.specs.Rules.{texts, kinds_made}
use Rattle.ir_formats.proofs.Makes.{Leaves}
use Rattle.ir_formats.proofs.rules.RuleMaker.kinds.Given as goal

abbrev pub invariant-loop-number : goal.invariant-loop-number
invariant-loop-number l = Leaves l.fn.self l.self [] []
    (kinds_made (texts l.self.words.items) l.sort l.number (drop l.number (map kind_of l.kinds)) l.self.next_list)
    (kinds_made (texts l.fn.self.words.items) l.sort 0 (map kind_of l.kinds) l.fn.self.next_list)
