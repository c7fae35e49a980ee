use Rattle.std.proofs.Common.{[], drop}
use Rattle.ir_print.specs.Formats.{steps_of, choices_of}
use Rattle.ir_formats.specs.Rules.{texts, up, steps_made, choices_made}
use Rattle.ir_formats.proofs.Makes.{Leaves}
use Rattle.ir_formats.proofs.rules.RuleMaker.+formats.Given as goal

abbrev pub invariant-format-loop-directive : goal.invariant-format-loop-directive
invariant-format-loop-directive l = Leaves l.fn.self l.self l.fn.symbols.items l.symbols.items
    (steps_made (texts l.self.words.items) (steps_of (drop l.directive-index l.format)) l.self.next_list)
    (steps_made (texts l.fn.self.words.items) (steps_of l.format) l.fn.self.next_list)

abbrev pub invariant-directive-loop-number : goal.invariant-directive-loop-number
invariant-directive-loop-number l = Leaves l.initial.self l.self [] []
    (choices_made (texts l.self.words.items) l.choice l.number (choices_of (drop l.number l.alternatives)) l.self.next_list)
    (choices_made (texts l.fn.self.words.items) l.choice 0 (choices_of l.alternatives) (up l.fn.self.next_list 1))
