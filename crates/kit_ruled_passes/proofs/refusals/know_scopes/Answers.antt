use Rattle.std.proofs.Common.{subst}
use Rattle.ir_program.specs.Program.{Program}
use Rattle.ir_trees.specs.Stands.{StandsFor}
use Rattle.kit.specs.Context.{KitTree}
use Rattle.opt_inside.proofs.Around.{HasLists}
use Rattle.opt_inside.proofs.Values.{defined}
use Rattle.kit.specs.Meaning.{KitOperation, KitBlock}
use Rattle.kit_checks.specs.declared.rule.Rule.TheVariants as rule
use Rattle.kit_checks.specs.World.{world_of}
use Rattle.kit_ruled_passes.specs.Scopes.{IsInScope}
use Rattle.kit_ruled_passes.proofs.KeptScopes.{decided_in_scope, decided_untaken, after_deciding, cut_in_scope}
use Rattle.kit_ruled_passes.proofs.ScopesOfRules.{scoped_by_rules, root_takes_none}
use Rattle.kit_ruled_passes.proofs.refusals.know_scopes.Goals as goal

pub returns : goal.returns
returns c =
    let s = c.args.ctx.now in
    let root = c.args.root in
    let program = c.program-program.ensures in
    let lists : HasLists s.program = subst HasLists program
    (record {
      operations_once = c.know_lists.ensures.operations_once;
      blocks_once = c.know_lists.ensures.blocks_once;
      regions_once = c.know_lists.ensures.regions_once;
      operations = c.know_lists.ensures.operations;
      blocks = c.know_lists.ensures.blocks;
      regions = c.know_lists.ensures.regions;
      operation_apart = c.know_lists.ensures.operation_apart;
      block_apart = c.know_lists.ensures.block_apart;
    }) in
    let tree : (t : KitTree) × StandsFor s.program root t =
    subst (λ (p : Program KitOperation KitBlock). (t : KitTree) × StandsFor p root t) program c.know_tree.ensures in
    let scoped : IsInScope s.program root = record {
      inside = λ u is. scoped_by_rules (world_of s) u (c.requires.rules u is rule.OperandsAreVisible);
      root_takes_none = λ u is. root_takes_none (world_of s) u (c.requires.rules u is rule.OperandsAreVisible);
    } in
    record {
      scoped = scoped;
      decided = λ new d. decided_in_scope s.program new root tree.0 tree.1 (d tree.0 tree.1) scoped;
      untaken = λ closed new d. decided_untaken s.program new root tree.0 tree.1 (d tree.0 tree.1)
          (λ u is v has taken. closed v ((defined s.program lists root u is v).0 has) taken);
      cut = λ mid new d r.
          let m = d tree.0 tree.1 in
          let t = after_deciding s.program mid root tree.0 tree.1 m in
          cut_in_scope mid new root t m.stands (r t m.stands)
          (decided_in_scope s.program mid root tree.0 tree.1 m scoped);
    }
