use Rattle.std.proofs.Common.{subst}
use Rattle.ir_program.specs.Program.{Program}
use Rattle.ir_trees.specs.Stands.{StandsFor}
use Rattle.ir_types.specs.Interned.{HasDistinctTypes}
use Rattle.kit.specs.Context.{KitTree}
use Rattle.kit.specs.Meaning.{KitOperation, KitBlock}
use Rattle.kit_ops.specs.contracts.types.KitTypePartialEq.TheImpl as of_types
use Rattle.kit_ruled_views.specs.Ruled.{HasOwnNames}
use Rattle.kit_text_programs.proofs.BlockNumbers.{own_numbers, stands_with_own_blocks, with_own_blocks}
use Rattle.irkit_running.proofs.HoldingLemmas.{AreTypedAtDefiners, written_types}
use Rattle.irkit_running.proofs.knowing.know_holding.Goals as goal

pub returns : goal.returns
returns c = λ text numbering distinct stands closed numbered.
    let s = c.args.ctx.now in
    let program = c.program-program.ensures in
    let tree : (t : KitTree) × StandsFor s.program c.args.root t =
    subst (λ (p : Program KitOperation KitBlock). (t : KitTree) × StandsFor p c.args.root t) program c.know_tree.ensures in
    let typed : AreTypedAtDefiners s.program = subst AreTypedAtDefiners program c.know_values.ensures.typed in
    let names : HasOwnNames tree.0 = (c.know_ordinary.ensures tree.0 tree.1).0 in
    record {
      numbering = with_own_blocks numbering tree.0;
      distinct = own_numbers numbering tree.0 distinct names.blocks;
      stands = stands_with_own_blocks s numbering text c.args.root tree.0 stands tree.1 closed.edges numbered.blocks;
      tree = tree.0;
      is_tree = tree.1;
      names = names;
      handles = subst (HasDistinctTypes (of_types.ghosts).eq) c.types.ensures c.know_distinct.ensures;
      types = written_types s c.args.root typed tree.0 tree.1 (c.know_handles_and_types.ensures.typed tree.0 tree.1);
    }
