use Rattle.std.proofs.Common.{List, subst}
use Rattle.std.proofs.lemmas.Result.{IfOk-weaker}
use Rattle.ir_program.specs.declared.handles.Ptr.{Ptr}
use Rattle.ir_program.specs.declared.handles.Operation.{Operation}
use Rattle.opt_rows.specs.Facts.{IsMostPreciseSolution, as_facts}
use Rattle.opt_inside.specs.Numbered.{numbers_of}
use Rattle.opt_inside.specs.facts.Folds.{answers_of}
use Rattle.opt_inside.proofs.FactsLemmas.Setting.{is_set}
use Rattle.opt_inside.proofs.FactsLemmas.InRange.{in_range, can_be_asked}
use Rattle.opt_inside.proofs.facts.facts.solution_of.Goals as goal

pub most_precise-requires-clause-problem : goal.most_precise-requires-clause-problem
most_precise-requires-clause-problem g c =
    let lists = c.know_lists.ensures in
    in_range g.D.Meanings.meaning c.args.program.now c.args.op (numbers_of c.args.inside.now) c.in_ok-problem.problem (is_set _ c.args.program.now c.args.op (numbers_of c.args.inside.now) c.in_ok-problem.problem g.met.D.OptDialect.lawful lists.blocks lists.regions c.requires.numbered c.requires.edges c.in_ok-problem.ensures)

pub most_precise-requires-clause-asks : goal.most_precise-requires-clause-asks
most_precise-requires-clause-asks g c = can_be_asked g.D.Meanings.meaning c.args.program.now c.args.op (numbers_of c.args.inside.now) c.in_ok-problem.problem c.as_slice.result.now c.as_slice.ensures.keys c.in_ok-problem.ensures

pub returns : goal.returns
returns g c = IfOk-weaker c.most_precise.result _ _ (λ s precise. record {
  problem = c.in_ok-problem.problem;
  numbered = c.in_ok-problem.ensures;
  precise = subst (λ (ops : List (Ptr Operation)). IsMostPreciseSolution (answers_of g.D.Meanings.meaning c.args.program.now ops) c.in_ok-problem.problem (as_facts s.runs.items s.known.items)) c.as_slice.ensures.keys precise;
}) c.most_precise.ensures
