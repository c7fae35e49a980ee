use Rattle.std.proofs.Common.{◌≡◌, ◌∙◌}
use Rattle.ir_program.specs.Lists.{regions_in}
use Rattle.opt_inside.specs.Numbered.{numbers_of}
use Rattle.opt_inside.specs.facts.Problem.{block_number}
use Rattle.opt_inside.proofs.FactsLemmas.Lists.{moved, ended}
use Rattle.opt_inside.proofs.FactsLemmas.Entries.{no_entry, one_entry, all_entries}
use Rattle.opt_inside.proofs.facts.numbers.entry_numbers.Goals as goal

pub loop-region-init : goal.loop-region-init
loop-region-init g c = record { listed = c.into_iter-region-iterator.ensures.into_iter_gives ∙ c.regions-region-items.ensures.list; row = c.clear.ensures.items }

pub loop-region-preserved : goal.loop-region-preserved
loop-region-preserved g c = record {
  listed = moved (λ ps. ps ≡ regions_in c.args.program.now c.args.op) c.loop-region.yielded _ _ c.in-Some.region c.in-Some.ensures.steps c.loop-region.invariant.listed;
  row = no_entry c.args.program.now (block_number (numbers_of c.args.inside.now)) c.loop-region.yielded c.in-Some.region c.loop-region.row.items c.loop-region.invariant.row c.first_block.result c.first_block.ensures.first c.in_default.is;
}

pub loop-region-preserved-in-Continue-1 : goal.loop-region-preserved-in-Continue-1
loop-region-preserved-in-Continue-1 g c = record {
  listed = moved (λ ps. ps ≡ regions_in c.args.program.now c.args.op) c.loop-region.yielded _ _ c.in-Some.region c.in-Some.ensures.steps c.loop-region.invariant.listed;
  row = one_entry c.args.program.now (block_number (numbers_of c.args.inside.now)) c.loop-region.yielded c.in-Some.region c.loop-region.row.items c.loop-region.invariant.row c.first_block.result c.in-Some-first_block.block c.number_of_block.result c.push.new.self.items
      c.first_block.ensures.first c.in-Some-first_block.is c.number_of_block.ensures c.in_ok-push.ensures.items;
}

pub returns : goal.returns
returns g c =
    let all = ended (λ ps. ps ≡ regions_in c.args.program.now c.args.op) c.loop-region.yielded c.loop-region.region-iterator c.in-None.ensures.steps.0 c.loop-region.invariant.listed in
    all_entries c.args.program.now (block_number (numbers_of c.args.inside.now)) c.loop-region.yielded (regions_in c.args.program.now c.args.op) c.loop-region.row.items all c.loop-region.invariant.row
