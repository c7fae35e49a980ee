use Rattle.std.proofs.Common.{subst}
use Rattle.ir_program.specs.Program.{Program}
use Rattle.kit.specs.Meaning.{KitOperation, KitBlock}
use Rattle.kit_ruled_views.proofs.ContextFunctions.{IsKnown, has_flat_view, has_types}
use Rattle.kit_ruled_views.proofs.ContextSurroundings.{has_nothing_pinned, has_known_constants}
use Rattle.kit_ruled_views.proofs.functions.know_function.Goals as goal

pub returns : goal.returns
returns c =
    let s = c.args.ctx.now in
    let root = c.args.root in
    let function = c.args.function in
    let known : IsKnown s.program root function =
    subst (λ (p : Program KitOperation KitBlock). IsKnown p root function) c.program-program.ensures
    (record {
      lists = record {
        operations_once = c.know_lists.ensures.operations_once;
        blocks_once = c.know_lists.ensures.blocks_once;
        regions_once = c.know_lists.ensures.regions_once;
        operations = c.know_lists.ensures.operations;
        blocks = c.know_lists.ensures.blocks;
        regions = c.know_lists.ensures.regions;
        operation_apart = c.know_lists.ensures.operation_apart;
        block_apart = c.know_lists.ensures.block_apart;
      };
      values = record {
        definer = c.know_values.ensures.definer;
        typed = c.know_values.ensures.typed;
        stands = c.know_values.ensures.stands;
      };
      root_tree = c.know_tree.ensures;
      operations = c.know_handles.ensures.once;
      blocks = c.know_handles.ensures.blocks_once;
      inside = c.nodes_inside-inside.ensures.inside;
      once = c.nodes_inside-inside.ensures.once;
      order = c.nodes_inside-inside.ensures.order;
    }) in
    record {
      flat = has_flat_view s root function known c.requires.rules c.requires.inside;
      typed = has_types s root function known c.requires.rules c.requires.inside;
      unpinned = has_nothing_pinned s root function known c.requires.rules c.requires.inside;
      constants = has_known_constants s root function known c.requires.rules c.requires.inside;
    }
