use Rattle.std.proofs.Common.{List, IsSome, slice_get, sym, ap, ◌∙◌, subst}
use Rattle.ir_program.specs.Program.{block_at}
use Rattle.ir_program.specs.declared.handles.Ptr.{Ptr}
use Rattle.ir_program.specs.declared.handles.BasicBlock.{BasicBlock}
use Rattle.opt_inside.specs.Numbered.{numbers_of}
use Rattle.opt_chains.specs.Chained.{LeadsWhereJoinable}
use Rattle.opt_chains.specs.NextBlocks.{IsElsewhere}
use Rattle.opt_chains.proofs.NextElsewhere.{elsewhere_none, no_chains}
use Rattle.opt_chains.proofs.NextJoinable.{Occurs}
use Rattle.opt_chains.proofs.chain_joins.find_joins.Goals as goal

pub may_come-requires : goal.may_come-requires
may_come-requires g c b listed =
    let at = (c.requires.numbered.blocks b).0 (listed.0, ap (λ l. slice_get l listed.0) (sym c.as_slice.ensures.keys) ∙ listed.1) in
    let x = c.know_occurrences.ensures.blocks_found c.know_tree.ensures.0 c.know_tree.ensures.1 b at in
    let i = c.know_occurrences.ensures.blocks_sound c.know_tree.ensures.0 c.know_tree.ensures.1 x.0 x.1 in
    subst (λ z. IsSome (block_at c.args.program.now z)) x.2 i.spot.in_region.block

pub returns-then-not-may_come-clause-chains : goal.returns-then-not-may_come-clause-chains
returns-then-not-may_come-clause-chains g c p begins t stands =
    let occurs : Occurs c.args.program.now c.args.op t = record {
      sound = c.know_occurrences.ensures.sound t stands;
      found = c.know_occurrences.ensures.found t stands;
      one = c.know_occurrences.ensures.one t stands;
      blocks_sound = c.know_occurrences.ensures.blocks_sound t stands;
      blocks_found = c.know_occurrences.ensures.blocks_found t stands;
      blocks_one = c.know_occurrences.ensures.blocks_one t stands;
      site = c.know_occurrences.ensures.site t stands;
      operations = c.know_occurrences.ensures.operations t stands;
    } in
    let elsewhere = subst (λ (bs : List (Ptr BasicBlock)). IsElsewhere c.args.program.now c.args.start bs) c.as_slice.ensures.keys (c.may_come.ensures.elsewhere c.if-not-may_come.true) in
    no_chains g.D.Meanings.meaning p c.args.program.now t (elsewhere_none g.D.Meanings.meaning p c.args.program.now c.args.op t occurs (numbers_of c.args.inside.now) c.requires.numbered c.args.start elsewhere begins) _ c.new.ensures.items

pub joins_along-requires-clause-next : goal.joins_along-requires-clause-next
joins_along-requires-clause-next g c p begins t stands =
    subst (LeadsWhereJoinable g.D.Meanings.meaning p t c.args.inside.now.blocks.keys) (sym c.as_slice-2.ensures.value) (c.in_ok-next.ensures p begins t stands)
