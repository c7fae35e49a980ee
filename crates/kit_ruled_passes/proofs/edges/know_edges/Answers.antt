use Rattle.std.proofs.Common.{IsSome, sym, subst}
use Rattle.ir_program.specs.Program.{Program, operation_at}
use Rattle.ir_trees.specs.Stands.{StandsFor}
use Rattle.kit.specs.Context.{KitTree}
use Rattle.opt_inside.proofs.Around.{HasLists}
use Rattle.opt_inside.specs.Occurring.{OfItsTree}
use Rattle.opt_trees.specs.Occurrences.{BlocksApart}
use Rattle.kit.specs.Meaning.{KitOperation, KitBlock}
use Rattle.kit_ruled_passes.specs.Edges.{HasScopedEdges}
use Rattle.kit_ruled_passes.proofs.EdgesOfRules.{edges_inside, live_inside}
use Rattle.kit_ruled_passes.proofs.LocalOfScoped.{local_of_scoped}
use Rattle.kit_ruled_passes.proofs.edges.know_edges.Goals as goal

pub know_occurrences-requires : goal.know_occurrences-requires
know_occurrences-requires c =
    let s = c.args.ctx.now in
    let root = c.args.root in
    let op = c.args.op in
    let program = c.program-program.ensures in
    let lists : HasLists s.program = subst HasLists program
    (record {
      operations_once = c.know_lists.ensures.operations_once;
      blocks_once = c.know_lists.ensures.blocks_once;
      regions_once = c.know_lists.ensures.regions_once;
      operations = c.know_lists.ensures.operations;
      blocks = c.know_lists.ensures.blocks;
      regions = c.know_lists.ensures.regions;
      operation_apart = c.know_lists.ensures.operation_apart;
      block_apart = c.know_lists.ensures.block_apart;
    }) in
    let tree : (t : KitTree) × StandsFor s.program root t =
    subst (λ (p : Program KitOperation KitBlock). (t : KitTree) × StandsFor p root t) program c.know_tree.ensures in
    subst (λ (p : Program KitOperation KitBlock). IsSome (operation_at p op)) (sym program)
    (live_inside s root lists tree.0 tree.1 c.requires.rules op c.requires.inside)

pub returns : goal.returns
returns c =
    let s = c.args.ctx.now in
    let root = c.args.root in
    let op = c.args.op in
    let program = c.program-program.ensures in
    let lists : HasLists s.program = subst HasLists program
    (record {
      operations_once = c.know_lists.ensures.operations_once;
      blocks_once = c.know_lists.ensures.blocks_once;
      regions_once = c.know_lists.ensures.regions_once;
      operations = c.know_lists.ensures.operations;
      blocks = c.know_lists.ensures.blocks;
      regions = c.know_lists.ensures.regions;
      operation_apart = c.know_lists.ensures.operation_apart;
      block_apart = c.know_lists.ensures.block_apart;
    }) in
    let tree : (t : KitTree) × StandsFor s.program root t =
    subst (λ (p : Program KitOperation KitBlock). (t : KitTree) × StandsFor p root t) program c.know_tree.ensures in
    let apart : OfItsTree s.program op (λ u. BlocksApart u) =
    subst (λ (p : Program KitOperation KitBlock). OfItsTree p op (λ u. BlocksApart u)) program
    c.know_occurrences.ensures.blocks_one in
    let scoped : OfItsTree s.program op (λ u. HasScopedEdges u) = λ u is.
    edges_inside s root lists tree.0 tree.1 c.requires.rules op c.requires.inside u is in
    record { scoped = scoped; local = λ u is. local_of_scoped u (apart u is) (scoped u is) }
