use Rattle.std.proofs.Common.{◌≡◌, ◌↔◌, ◌∙◌, ℕ, IsTrue, Some, ap, length, refl, slice_get, subst, sym}
use Rattle.std.proofs.lemmas.Bool.{eqb-true, eq-eqb}
use Rattle.ir_program.specs.Lists.{StandsInBlock}
use Rattle.ir_program.specs.Program.{IsLiveValue}
use Rattle.ir_program.specs.Rows.{operands_at}
use Rattle.ir_program.specs.declared.handles.Value.{Value}
use Rattle.opt_inside.proofs.Around.{HasLists}
use Rattle.kit_checks.specs.Located.{IsSiteOf}
use Rattle.kit_checks.specs.Naming.{IsSpotOfOperation, MayName, OrdersBefore}
use Rattle.kit_checks.specs.Words.{Every}
use Rattle.kit_checks.specs.World.{world_of}
use Rattle.kit_checks.proofs.Named.{HasValues, block_inside, none_seen, operands_seen}
use Rattle.kit_checks.proofs.naming.operands_are_visible.Goals as goal

pub names_visible-requires-clause-order : goal.names_visible-requires-clause-order
names_visible-requires-clause-order c =
    let p = c.program-program.ensures in
    let lists : HasLists c.program-program.result.now = record {
      operations_once = c.know_lists.ensures.operations_once;
      blocks_once = c.know_lists.ensures.blocks_once;
      regions_once = c.know_lists.ensures.regions_once;
      operations = c.know_lists.ensures.operations;
      blocks = c.know_lists.ensures.blocks;
      regions = c.know_lists.ensures.regions;
      operation_apart = c.know_lists.ensures.operation_apart;
      block_apart = c.know_lists.ensures.block_apart;
    } in
    let in_block : StandsInBlock c.args.ctx.now.program c.args.op c.in-Some.spot.block = subst (λ x. StandsInBlock x c.args.op c.in-Some.spot.block) p c.in-Some.ensures.spot.1.in_block in
    subst (λ x. OrdersBefore x c.in-Some.spot.block c.args.op c.args.order.now) (sym p)
    (c.requires.order c.in-Some.spot.block (block_inside c.args.ctx.now.program (subst HasLists p lists) c.args.root c.args.op c.in-Some.spot.block c.in-Some.ensures.spot.0 c.requires.inside in_block))

pub returns-in-Some : goal.returns-in-Some
returns-in-Some c s at =
    let p = c.program-program.ensures in
    let lists : HasLists c.program-program.result.now = record {
      operations_once = c.know_lists.ensures.operations_once;
      blocks_once = c.know_lists.ensures.blocks_once;
      regions_once = c.know_lists.ensures.regions_once;
      operations = c.know_lists.ensures.operations;
      blocks = c.know_lists.ensures.blocks;
      regions = c.know_lists.ensures.regions;
      operation_apart = c.know_lists.ensures.operation_apart;
      block_apart = c.know_lists.ensures.block_apart;
    } in
    let values : HasValues c.program-program.result.now = record { definer = c.know_values.ensures.definer; stands = c.know_values.ensures.stands } in
    operands_seen (world_of c.args.ctx.now) c.args.ctx.now.program (subst HasLists p lists) (subst HasValues p values) c.args.root c.args.op s at c.in-Some.spot c.in-Some.ensures.spot.0
    (subst (λ x. IsSpotOfOperation x c.args.op c.in-Some.spot) p c.in-Some.ensures.spot.1)
    (subst (λ x. (k : ℕ) (v : Value) → slice_get (operands_at x c.args.op) k ≡ Some v → IsLiveValue x v) p (c.know_operands.ensures c.args.op))
    c.names_visible.result (subst (λ x. IsTrue c.names_visible.result ↔ Every (MayName x c.args.op c.in-Some.spot) (operands_at x c.args.op)) p c.names_visible.ensures)

pub returns-in-None : goal.returns-in-None
returns-in-None c s at =
    let p = c.program-program.ensures in
    let lists : HasLists c.program-program.result.now = record {
      operations_once = c.know_lists.ensures.operations_once;
      blocks_once = c.know_lists.ensures.blocks_once;
      regions_once = c.know_lists.ensures.regions_once;
      operations = c.know_lists.ensures.operations;
      blocks = c.know_lists.ensures.blocks;
      regions = c.know_lists.ensures.regions;
      operation_apart = c.know_lists.ensures.operation_apart;
      block_apart = c.know_lists.ensures.block_apart;
    } in
    let values : HasValues c.program-program.result.now = record { definer = c.know_values.ensures.definer; stands = c.know_values.ensures.stands } in
    let count : c.operand_count.result ≡ length (operands_at c.args.ctx.now.program c.args.op) = c.operand_count.ensures ∙ ap (λ x. length (operands_at x c.args.op)) p in
    none_seen (world_of c.args.ctx.now) c.args.ctx.now.program (subst HasLists p lists) (subst HasValues p values) c.args.root c.args.op s at
    ((c.in-None.ensures.root s (subst (λ x. IsSiteOf x c.args.root c.args.op s) (sym p) at)).0 refl) _ (λ h. sym count ∙ eqb-true _ 0 h, λ e. eq-eqb _ 0 (count ∙ e))
