use Rattle.std.proofs.Common.{◌-◌, length}
use Rattle.ir_characters.specs.Texts.{codes_of}
use Rattle.outlined_texts.proofs.SearchSteps.{SearchesTo}
use Rattle.outlined_texts.proofs.searching.find_section.Given as goal

abbrev pub invariant-loop-at : goal.invariant-loop-at
invariant-loop-at l = SearchesTo (codes_of l.text) l.at l.search

abbrev pub decreases-loop-at : goal.decreases-loop-at
decreases-loop-at l = length (codes_of l.text) - l.at
