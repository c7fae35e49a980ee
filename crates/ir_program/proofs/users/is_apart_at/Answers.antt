use Rattle.std.proofs.Common.{◌≡◌, ◌∙◌, true, sym, subst, ap}
use Rattle.ir_entities.specs.Links.{has}
use Rattle.ir_program.specs.Forgets.{threads_of, value_threads_in}
use Rattle.ir_program.proofs.erased.ForgetThreads.{block-thread-in}
use Rattle.ir_program.proofs.used.UserWalks.{value-users, target-users, result-threads, argument-threads, value-defined, block-defined}
use Rattle.ir_program.proofs.users.is_apart_at.Goals as goal

pub all_users_inside-requires-clause-defined : goal.all_users_inside-requires-clause-defined
all_users_inside-requires-clause-defined g c t h =
    let threads : value_threads_in c.args.forest.now c.args.place ≡ threads_of c.op-record.result.now.results.items = result-threads c.args.forest.now c.args.values.now c.args.targets.now c.args.place c.in-Op.slot c.op_key.result c.op-record.result.now c.in-Op.is c.op_key.ensures.slot c.op-record.ensures in
    value-defined c.args.forest.now c.args.values.now c.args.targets.now c.requires.sound c.args.place t (subst (λ ts. has t ts ≡ true) (ap threads_of c.deref.ensures ∙ sym threads) h)

pub all_users_inside-requires-clause-users : goal.all_users_inside-requires-clause-users
all_users_inside-requires-clause-users g c = value-users c.args.forest.now c.args.values.now c.args.targets.now c.requires.sound

pub users_inside-requires-clause-defined : goal.users_inside-requires-clause-defined
users_inside-requires-clause-defined g c =
    block-defined c.args.forest.now c.args.values.now c.args.targets.now c.requires.sound c.args.place _ (block-thread-in c.args.forest.now c.args.place c.in-Block.slot c.block_key.result c.block-record.result.now c.in-Block.is c.block_key.ensures.slot c.block-record.ensures)

pub users_inside-requires-clause-users : goal.users_inside-requires-clause-users
users_inside-requires-clause-users g c = target-users c.args.forest.now c.args.values.now c.args.targets.now c.requires.sound

pub all_users_inside-requires-then-users_inside-clause-defined : goal.all_users_inside-requires-then-users_inside-clause-defined
all_users_inside-requires-then-users_inside-clause-defined g c t h =
    let threads : value_threads_in c.args.forest.now c.args.place ≡ threads_of c.block-record.result.now.arguments.items = argument-threads c.args.forest.now c.args.values.now c.args.targets.now c.args.place c.in-Block.slot c.block_key.result c.block-record.result.now c.in-Block.is c.block_key.ensures.slot c.block-record.ensures in
    value-defined c.args.forest.now c.args.values.now c.args.targets.now c.requires.sound c.args.place t (subst (λ ts. has t ts ≡ true) (ap threads_of c.deref-then-users_inside.ensures ∙ sym threads) h)

pub all_users_inside-requires-then-users_inside-clause-users : goal.all_users_inside-requires-then-users_inside-clause-users
all_users_inside-requires-then-users_inside-clause-users g c = value-users c.args.forest.now c.args.values.now c.args.targets.now c.requires.sound
