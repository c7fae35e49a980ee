use Rattle.std.proofs.Common.{rules, subst}
use Rattle.ir_program.specs.Lists.{operations_in, IsUnlinkedOperation, StandOnce}
use Rattle.ir_symbols.specs.Insertions.{IsMark}
use Rattle.ir_symbols.proofs.Places.{apart_from, apart_from_mark}
use Rattle.ir_symbols.proofs.placing.put.Goals as goal

pub insert_before-requires-clause-apart : goal.insert_before-requires-clause-apart
insert_before-requires-clause-apart g c =
    let unlinked : IsUnlinkedOperation c.args.ctx.now.program c.args.op = search rules in
    let mark = subst (IsMark c.args.ctx.now.program c.args.body c.args.op) c.in-Some.is c.requires.place.mark in
    let once : StandOnce (operations_in c.args.ctx.now.program) = subst (λ p. StandOnce (operations_in p)) c.program.ensures c.know_lists.ensures.operations_once in
    apart_from_mark c.args.ctx.now.program c.args.body c.args.op once c.in-Some.mark mark.0 mark.1
    (apart_from c.args.ctx.now.program c.args.body c.args.op c.requires.place.stands unlinked)
