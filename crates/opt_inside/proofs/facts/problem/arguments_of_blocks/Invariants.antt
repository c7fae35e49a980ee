use Rattle.opt_inside.specs.Numbered.{numbers_of}
use Rattle.opt_inside.specs.facts.Problem.{AreArguments}
use Rattle.opt_inside.proofs.FactsLemmas.Lists.{Paired}
use Rattle.opt_inside.proofs.facts.problem.arguments_of_blocks.Given as goal

abbrev pub invariant-loop-block : goal.invariant-loop-block
invariant-loop-block g l = Paired (AreArguments l.program (numbers_of l.inside)) l.block-items l.block-index l.arguments.items
