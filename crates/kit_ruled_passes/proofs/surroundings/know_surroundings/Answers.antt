use Rattle.std.proofs.Common.{subst}
use Rattle.ir_program.specs.Program.{Program}
use Rattle.kit.specs.Meaning.{KitOperation, KitBlock}
use Rattle.kit_ruled_passes.proofs.RootSurroundings.{IsKnownRoot, nothing_pinned, knows_constants}
use Rattle.kit_ruled_passes.proofs.surroundings.know_surroundings.Goals as goal

pub returns : goal.returns
returns c =
    let s = c.args.ctx.now in
    let root = c.args.root in
    let known : IsKnownRoot s.program root =
    subst (λ (p : Program KitOperation KitBlock). IsKnownRoot p root) c.program-program.ensures
    (record {
      lists = record {
        operations_once = c.know_lists.ensures.operations_once;
        blocks_once = c.know_lists.ensures.blocks_once;
        regions_once = c.know_lists.ensures.regions_once;
        operations = c.know_lists.ensures.operations;
        blocks = c.know_lists.ensures.blocks;
        regions = c.know_lists.ensures.regions;
        operation_apart = c.know_lists.ensures.operation_apart;
        block_apart = c.know_lists.ensures.block_apart;
      };
      values = record {
        definer = c.know_values.ensures.definer;
        typed = c.know_values.ensures.typed;
        stands = c.know_values.ensures.stands;
      };
      operations = c.know_handles.ensures.once;
    }) in
    record {
      unpinned = λ w says t stands. nothing_pinned s root known c.requires.rules w says t stands c.requires.contained;
      constants = λ w says t stands. knows_constants s root known c.requires.rules w says t stands;
    }
