use Rattle.std.proofs.Common.{subst}
use Rattle.ir_program.specs.Preorder.{AreInside, nodes_inside}
use Rattle.ir_program.specs.Program.{Program}
use Rattle.ir_program.specs.declared.handles.IRNode.TheVariants.{Operation as OperationNode}
use Rattle.ir_trees.specs.Stands.{StandsFor}
use Rattle.kit.specs.Context.{KitTree}
use Rattle.opt_inside.proofs.Around.{HasLists}
use Rattle.kit.specs.Meaning.{KitOperation, KitBlock}
use Rattle.kit_ruled_passes.proofs.InsideOrNot.{decided_by}
use Rattle.kit_ruled_passes.proofs.LocalEdges.{leads_below, fits_edges, local_edges}
use Rattle.kit_ruled_passes.proofs.premises.know_premises.Goals as goal

pub returns : goal.returns
returns c =
    let s = c.args.ctx.now in
    let root = c.args.root in
    let program = c.program-program.ensures in
    let lists : HasLists s.program = subst HasLists program
    (record {
      operations_once = c.know_lists.ensures.operations_once;
      blocks_once = c.know_lists.ensures.blocks_once;
      regions_once = c.know_lists.ensures.regions_once;
      operations = c.know_lists.ensures.operations;
      blocks = c.know_lists.ensures.blocks;
      regions = c.know_lists.ensures.regions;
      operation_apart = c.know_lists.ensures.operation_apart;
      block_apart = c.know_lists.ensures.block_apart;
    }) in
    let tree : (t : KitTree) × StandsFor s.program root t =
    subst (λ (p : Program KitOperation KitBlock). (t : KitTree) × StandsFor p root t) program c.know_tree.ensures in
    let inside : AreInside s.program (OperationNode root) (nodes_inside s.program (OperationNode root)) =
    subst (λ (p : Program KitOperation KitBlock). AreInside p (OperationNode root)
    (nodes_inside p (OperationNode root))) program c.nodes_inside-around.ensures.inside in
    record {
      leads = leads_below s root lists tree.0 tree.1 c.requires.rules;
      fits = fits_edges s root lists tree.0 tree.1 c.requires.rules;
      edges = local_edges s root lists tree.0 tree.1 c.requires.rules
          (decided_by s.program root (nodes_inside s.program (OperationNode root)) inside);
    }
