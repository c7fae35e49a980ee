-- The three phases of simplification, one after the other, simplify the tree of the operation.
use Rattle.ir_program.specs.Program.{Program}
use Rattle.ir_program.specs.declared.handles.Ptr.{Ptr}
use Rattle.ir_program.specs.declared.handles.Operation.{Operation}
use Rattle.ir_trees.specs.Stands.{in_program, ProgramTree, StandsFor}
use Rattle.opt_trees.specs.Dialect.{Dialect}
use Rattle.ir_opts.specs.Simplified.{Simplifies}
use Rattle.ir_opts.specs.SimplifiedTree.{SimplifiesTree}
use Rattle.ir_opts.proofs.SimplifiedTrees.{simplifies_tree}

module _ {O B A : Type 0} (d : Dialect (in_program O B) A) (old new : Program O B) (op : Ptr Operation) where
  pub tree_simplified : Simplifies d old new op → (t : ProgramTree O B) → StandsFor old op t → SimplifiesTree d old new op t
  tree_simplified s t stands =
      let first = s.decides t stands in
      simplifies_tree d old s.decided s.cut new op t first s.removes
      (λ e live i. (s.removes _ first.stands).inside e i) s.joins
