use Rattle.std.proofs.Common.{◌≡◌, ◌↔◌, ◌∙◌, IsTrue, length, ap, sym, subst}
use Rattle.std.proofs.lemmas.Bool.{eqb-true, eq-eqb}
use Rattle.ir_program.specs.Rows.{successors_at}
use Rattle.opt_inside.proofs.Around.{HasLists}
use Rattle.kit_checks.specs.Handing.{IsBeside}
use Rattle.kit_checks.specs.Words.{Every}
use Rattle.kit_checks.proofs.Handed.{stay_inside, stay_at_root}
use Rattle.kit_checks.proofs.Handles.{same_yes, not_same}
use Rattle.kit_checks.proofs.edges.edges_stay.Goals as goal

pub returns-then-eq : goal.returns-then-eq
returns-then-eq c s at =
    let p = c.program-program.ensures in
    let lists : HasLists c.program-program.result.now = record {
      operations_once = c.know_lists.ensures.operations_once;
      blocks_once = c.know_lists.ensures.blocks_once;
      regions_once = c.know_lists.ensures.regions_once;
      operations = c.know_lists.ensures.operations;
      blocks = c.know_lists.ensures.blocks;
      regions = c.know_lists.ensures.regions;
      operation_apart = c.know_lists.ensures.operation_apart;
      block_apart = c.know_lists.ensures.block_apart;
    } in
    let count : c.successor_count.result ≡ length (successors_at c.args.ctx.now.program c.args.op) = c.successor_count.ensures ∙ ap (λ x. length (successors_at x c.args.op)) p in
    stay_at_root c.args.ctx.now.program (subst HasLists p lists) c.args.root c.args.op s at _ (same_yes c.args.op c.args.root c.eq.result c.eq.ensures c.if-eq.true)
    (λ h. sym count ∙ eqb-true _ 0 h, λ e. eq-eqb _ 0 (count ∙ e))

pub returns : goal.returns
returns c s at =
    let p = c.program-program.ensures in
    let lists : HasLists c.program-program.result.now = record {
      operations_once = c.know_lists.ensures.operations_once;
      blocks_once = c.know_lists.ensures.blocks_once;
      regions_once = c.know_lists.ensures.regions_once;
      operations = c.know_lists.ensures.operations;
      blocks = c.know_lists.ensures.blocks;
      regions = c.know_lists.ensures.regions;
      operation_apart = c.know_lists.ensures.operation_apart;
      block_apart = c.know_lists.ensures.block_apart;
    } in
    stay_inside c.args.ctx.now.program (subst HasLists p lists) c.args.root c.args.op s at c.are_beside.result (not_same c.args.op c.args.root c.eq.result c.eq.ensures c.if-eq.false)
    (subst (λ x. IsTrue c.are_beside.result ↔ Every (IsBeside x c.args.op) (successors_at x c.args.op)) p c.are_beside.ensures)
