-- The most precise facts of the numbered problem of what is inside an operation.
use Rattle.std.specs.Prelude.{List}
use Rattle.ir_program.specs.Program.{Program}
use Rattle.ir_program.specs.declared.handles.Ptr.{Ptr}
use Rattle.ir_program.specs.declared.handles.Operation.{Operation}
use Rattle.ir_trees.specs.Stands.{in_program}
use Rattle.opt_solvers.specs.declared.facts.Solution.{Solution}
use Rattle.opt_rows.specs.declared.facts_problem.FactsProblem.{FactsProblem}
use Rattle.opt_rows.specs.Facts.{IsMostPreciseSolution, as_facts}
use Rattle.opt_trees.specs.Dialect.{Dialect}
use Rattle.opt_inside.specs.Numbered.{Numbers}
use Rattle.opt_inside.specs.facts.Folds.{answers_of}
use Rattle.opt_inside.specs.facts.Problem.{IsFactsProblemOf}

-- the facts are the most precise ones of the problem, whose operations are these in their order
pub record IsSolutionOf {O B A : Type 0} (d : Dialect (in_program O B) A) (c : Program O B) (op : Ptr Operation) (n : Numbers) (operations : List (Ptr Operation)) (s : Solution A) : Type 0 where
  pub problem : FactsProblem
  pub numbered : IsFactsProblemOf d c op n problem
  pub precise : IsMostPreciseSolution (answers_of d c operations) problem (as_facts s.runs.items s.known.items)
