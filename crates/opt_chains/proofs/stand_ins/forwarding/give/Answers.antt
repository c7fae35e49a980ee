use Rattle.std.proofs.Common.{arith}
use Rattle.opt_chains.proofs.StandInsLemmas.TableLemmas.{in_length, one_put}
use Rattle.opt_chains.proofs.stand_ins.forwarding.give.Goals as goal

pub index_mut-requires : goal.index_mut-requires
index_mut-requires c =
    let at = (c.value_number.ensures c.in-Some.number).0 c.in-Some.is in
    let less = in_length c.args.inside.now.values.keys c.in-Some.number c.args.argument at in
    omega (arith, less, c.requires.len)

pub returns-in-Some : goal.returns-in-Some
returns-in-Some c =
    let at = (c.value_number.ensures c.in-Some.number).0 c.in-Some.is in
    let less = in_length c.args.inside.now.values.keys c.in-Some.number c.args.argument at in
    one_put c.args.inside.now.values.keys c.args.argument c.args.value c.in-Some.number c.args.given.now.items c.requires.once at (omega (arith, less, c.requires.len))
