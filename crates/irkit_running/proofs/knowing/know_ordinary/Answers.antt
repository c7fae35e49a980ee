use Rattle.std.proofs.Common.{subst}
use Rattle.ir_program.specs.Program.{Program}
use Rattle.kit.specs.Meaning.{KitOperation, KitBlock}
use Rattle.kit_optimiser.proofs.OwnNames.{IsKnown, own_names}
use Rattle.irkit_running.proofs.knowing.know_ordinary.Goals as goal

pub returns : goal.returns
returns c =
    let s = c.args.ctx.now in
    let root = c.args.root in
    let known : IsKnown s.program root =
    subst (λ (p : Program KitOperation KitBlock). IsKnown p root) c.program-program.ensures
    (record {
      lists = record {
        operations_once = c.know_lists.ensures.operations_once;
        blocks_once = c.know_lists.ensures.blocks_once;
        regions_once = c.know_lists.ensures.regions_once;
        operations = c.know_lists.ensures.operations;
        blocks = c.know_lists.ensures.blocks;
        regions = c.know_lists.ensures.regions;
        operation_apart = c.know_lists.ensures.operation_apart;
        block_apart = c.know_lists.ensures.block_apart;
      };
      values = record {
        definer = c.know_values.ensures.definer;
        typed = c.know_values.ensures.typed;
        stands = c.know_values.ensures.stands;
      };
      operations = c.know_handles.ensures.once;
      blocks = c.know_handles.ensures.blocks_once;
      inside = c.nodes_inside-inside.ensures.inside;
      once = c.nodes_inside-inside.ensures.once;
      order = c.nodes_inside-inside.ensures.order;
    }) in
    λ t stands.
    let typed = c.know_handles_and_types.ensures.typed t stands in (
      own_names s.program root known t stands,
      record { results = typed.results; arguments = typed.arguments },
    )
