use Rattle.std.proofs.Common.{length, sym, ap, ◌∙◌, subst}
use Rattle.ir_trees.specs.Searched.{AreDistinct}
use Rattle.opt_inside.specs.Numbered.{numbers_of}
use Rattle.opt_inside.proofs.Around.{HasLists}
use Rattle.opt_inside.proofs.ReachLemmas.Ends.{if_ok}
use Rattle.opt_simplify.proofs.RemovedFates.{finds_if}
use Rattle.opt_simplify.proofs.remove.unreached_blocks.Goals as goal

pub unreached_among-requires-clause-once : goal.unreached_among-requires-clause-once
unreached_among-requires-clause-once g c = subst (λ keys. AreDistinct keys) (sym c.as_slice.ensures.keys) c.requires.numbered.blocks_once

pub unreached_among-requires-clause-len : goal.unreached_among-requires-clause-len
unreached_among-requires-clause-len g c = ap length c.deref.ensures.value ∙ c.in_ok-fates.ensures.len ∙ ap length (sym c.as_slice.ensures.keys)

pub returns-clause-unreached : goal.returns-clause-unreached
returns-clause-unreached g c =
    let lists : HasLists c.args.program.now = assumption c.know_lists.ensures in
    finds_if g.D.Meanings.meaning c.args.program.now lists c.args.op (numbers_of c.args.inside.now) c.requires.numbered c.args.start
    (λ t stands. record {
      stands = stands;
      sound = c.know_occurrences.ensures.sound t stands;
      found = c.know_occurrences.ensures.found t stands;
      one = c.know_occurrences.ensures.one t stands;
      blocks_sound = c.know_occurrences.ensures.blocks_sound t stands;
      blocks_found = c.know_occurrences.ensures.blocks_found t stands;
      blocks_one = c.know_occurrences.ensures.blocks_one t stands;
      site = c.know_occurrences.ensures.site t stands;
      beside = c.know_occurrences.ensures.beside t stands;
      nested = c.know_occurrences.ensures.nested t stands;
    })
    c.in_ok-fates.fates.items c.in_ok-fates.ensures.len c.in_ok-fates.ensures.fates c.as_slice.result.now c.as_slice.ensures.keys c.deref.result.now c.deref.ensures.value
    c.unreached_among.result c.unreached_among.ensures.listed

pub returns-clause-reached : goal.returns-clause-reached
returns-clause-reached g c = if_ok c.unreached_among.result _ _ c.unreached_among.ensures.once (λ row once. c.in_ok-fates.ensures.reached)
