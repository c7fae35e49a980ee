use Rattle.std.proofs.Common.{subst}
use Rattle.ir_program.specs.Program.{Program, type_at}
use Rattle.ir_types.specs.Interned.{key_at}
use Rattle.kit.specs.Meaning.{KitOperation, KitBlock}
use Rattle.kit_ruled_views.specs.Ruled.{type_or_first}
use Rattle.kit_optimiser.proofs.OwnNames.{IsKnown, own_names}
use Rattle.kit_optimiser.proofs.soundness.know_sound.Goals as goal

pub returns : goal.returns
returns c =
    let s = c.args.ctx.now in
    let root = c.args.root in
    let known : IsKnown s.program root =
    subst (λ (p : Program KitOperation KitBlock). IsKnown p root) c.program-program.ensures
    (record {
      lists = record {
        operations_once = c.know_lists.ensures.operations_once;
        blocks_once = c.know_lists.ensures.blocks_once;
        regions_once = c.know_lists.ensures.regions_once;
        operations = c.know_lists.ensures.operations;
        blocks = c.know_lists.ensures.blocks;
        regions = c.know_lists.ensures.regions;
        operation_apart = c.know_lists.ensures.operation_apart;
        block_apart = c.know_lists.ensures.block_apart;
      };
      values = record {
        definer = c.know_values.ensures.definer;
        typed = c.know_values.ensures.typed;
        stands = c.know_values.ensures.stands;
      };
      operations = c.know_handles.ensures.once;
      blocks = c.know_handles.ensures.blocks_once;
      inside = c.nodes_inside-inside.ensures.inside;
      once = c.nodes_inside-inside.ensures.once;
      order = c.nodes_inside-inside.ensures.order;
    }) in
    λ t stands numbered.
    let typed = c.know_handles_and_types.ensures.typed t stands in (
      type_or_first (type_at s.program),
      c.rules_make_sound.ensures (key_at s.types) (type_at s.program) numbered t (c.requires.rules t stands)
          (own_names s.program root known t stands)
          (record { results = typed.results; arguments = typed.arguments }),
    )
