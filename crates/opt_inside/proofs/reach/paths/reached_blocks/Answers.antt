use Rattle.std.proofs.Common.{ℕ, List, sym, subst, Vec, Global}
use Rattle.digraph.specs.Graph.{InRange}
use Rattle.opt_inside.specs.Numbered.{numbers_of}
use Rattle.opt_inside.proofs.Around.{HasLists}
use Rattle.opt_inside.proofs.ReachLemmas.Ends.{numbered_linked, edges_in_range, marks_are}
use Rattle.opt_inside.proofs.reach.paths.reached_blocks.Goals as goal

pub path_rows-requires : goal.path_rows-requires
path_rows-requires g c =
    let lists : HasLists c.args.program.now = record {
      operations_once = c.know_lists.ensures.operations_once;
      blocks_once = c.know_lists.ensures.blocks_once;
      regions_once = c.know_lists.ensures.regions_once;
      operations = c.know_lists.ensures.operations;
      blocks = c.know_lists.ensures.blocks;
      regions = c.know_lists.ensures.regions;
      operation_apart = c.know_lists.ensures.operation_apart;
      block_apart = c.know_lists.ensures.block_apart;
    } in
    numbered_linked c.args.program.now lists c.args.op (numbers_of c.args.inside.now) c.requires.numbered

pub reached-requires-clause-graph : goal.reached-requires-clause-graph
reached-requires-clause-graph g c =
    let lists : HasLists c.args.program.now = record {
      operations_once = c.know_lists.ensures.operations_once;
      blocks_once = c.know_lists.ensures.blocks_once;
      regions_once = c.know_lists.ensures.regions_once;
      operations = c.know_lists.ensures.operations;
      blocks = c.know_lists.ensures.blocks;
      regions = c.know_lists.ensures.regions;
      operation_apart = c.know_lists.ensures.operation_apart;
      block_apart = c.know_lists.ensures.block_apart;
    } in
    subst (λ (rows : List (Vec ℕ Global)). InRange rows) (sym c.deref.ensures.value) (edges_in_range c.args.program.now lists c.args.op (numbers_of c.args.inside.now) c.requires.numbered c.in_ok-rows.rows.items c.in_ok-rows.ensures)

pub returns : goal.returns
returns g c =
    let lists : HasLists c.args.program.now = record {
      operations_once = c.know_lists.ensures.operations_once;
      blocks_once = c.know_lists.ensures.blocks_once;
      regions_once = c.know_lists.ensures.regions_once;
      operations = c.know_lists.ensures.operations;
      blocks = c.know_lists.ensures.blocks;
      regions = c.know_lists.ensures.regions;
      operation_apart = c.know_lists.ensures.operation_apart;
      block_apart = c.know_lists.ensures.block_apart;
    } in
    marks_are c.args.program.now lists c.args.op (g.D.Meanings.meaning.is_terminator) (numbers_of c.args.inside.now) c.requires.numbered
    (λ t stands. record {
      stands = stands;
      sound = c.know_occurrences.ensures.sound t stands;
      found = c.know_occurrences.ensures.found t stands;
      one = c.know_occurrences.ensures.one t stands;
      blocks_sound = c.know_occurrences.ensures.blocks_sound t stands;
      blocks_found = c.know_occurrences.ensures.blocks_found t stands;
      blocks_one = c.know_occurrences.ensures.blocks_one t stands;
      site = c.know_occurrences.ensures.site t stands;
      beside = c.know_occurrences.ensures.beside t stands;
      nested = c.know_occurrences.ensures.nested t stands;
    })
    c.in_ok-rows.rows.items c.in_ok-rows.ensures c.deref.result.now c.deref.ensures.value c.len.result (c.len.ensures.len) c.reached.result c.reached.ensures
