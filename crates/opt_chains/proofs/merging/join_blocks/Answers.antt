use Rattle.std.proofs.Common.{◌≡◌, Some, subst}
use Rattle.ir_base.specs.declared.types.TypeHandle.{TypeHandle}
use Rattle.ir_program.specs.Definers.{StandsAtDefiner}
use Rattle.ir_program.specs.Uses.{IsUsed}
use Rattle.ir_program.specs.declared.handles.Value.{Value}
use Rattle.ir_program.specs.Program.{type_at, IsLiveValue}
use Rattle.opt_inside.proofs.Around.{HasLists}
use Rattle.opt_chains.proofs.MergePairs.{branch_apart, first_there, block_there, can_append, emptied_there, block_apart, joined_blocks}
use Rattle.opt_chains.proofs.merging.join_blocks.Goals as goal

pub erase-requires-clause-apart : goal.erase-requires-clause-apart
erase-requires-clause-apart g c =
    let used = subst (λ p. (v : Value) → IsUsed p v → IsLiveValue p v) c.program-2.ensures c.know_values.ensures.used in
    let stands = subst (λ p. (v : Value) (ty : TypeHandle) → type_at p v ≡ Some ty → StandsAtDefiner p v ty) c.program-2.ensures c.know_values.ensures.stands in
    branch_apart c.args.ctx.now.program c.args.join.first c.args.join.branch c.args.join.block c.requires.ready.joint used stands

pub append_linked_list-requires-clause-donee : goal.append_linked_list-requires-clause-donee
append_linked_list-requires-clause-donee g c =
    let lists : HasLists c.program.result.now = assumption c.know_lists.ensures in
    first_there c.args.ctx.now.program c.erase.new.ctx.program c.args.join c.requires.ready (subst HasLists c.program.ensures lists) c.erase.ensures.erased

pub append_linked_list-requires-clause-donor : goal.append_linked_list-requires-clause-donor
append_linked_list-requires-clause-donor g c =
    let lists : HasLists c.program.result.now = assumption c.know_lists.ensures in
    block_there c.args.ctx.now.program c.erase.new.ctx.program c.args.join c.requires.ready (subst HasLists c.program.ensures lists) c.erase.ensures.erased

pub append_linked_list-requires-clause-apart : goal.append_linked_list-requires-clause-apart
append_linked_list-requires-clause-apart g c =
    let lists : HasLists c.program.result.now = assumption c.know_lists.ensures in
    let now : HasLists c.program-3.result.now = assumption c.know_lists-2.ensures in
    can_append c.args.ctx.now.program c.erase.new.ctx.program c.args.join c.requires.ready (subst HasLists c.program.ensures lists) c.erase.ensures.erased (subst HasLists c.program-3.ensures now)

pub erase-requires-2-clause-block : goal.erase-requires-2-clause-block
erase-requires-2-clause-block g c =
    let lists : HasLists c.program.result.now = assumption c.know_lists.ensures in
    emptied_there c.args.ctx.now.program c.erase.new.ctx.program c.args.join c.requires.ready (subst HasLists c.program.ensures lists) c.erase.ensures.erased c.append_linked_list.new.ctx.program c.append_linked_list.ensures.edited

pub erase-requires-2-clause-apart : goal.erase-requires-2-clause-apart
erase-requires-2-clause-apart g c =
    let lists : HasLists c.program.result.now = assumption c.know_lists.ensures in
    block_apart c.args.ctx.now.program c.erase.new.ctx.program c.args.join c.requires.ready (subst HasLists c.program.ensures lists) c.erase.ensures.erased c.append_linked_list.new.ctx.program c.append_linked_list.ensures.edited

pub returns-clause-joined : goal.returns-clause-joined
returns-clause-joined g c =
    let lists : HasLists c.program.result.now = assumption c.know_lists.ensures in
    joined_blocks c.args.ctx.now.program c.erase.new.ctx.program c.args.join c.requires.ready (subst HasLists c.program.ensures lists) c.erase.ensures.erased c.append_linked_list.new.ctx.program c.append_linked_list.ensures.edited c.erase-2.new.ctx.program c.erase-2.ensures.erased
