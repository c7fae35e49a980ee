use Rattle.std.proofs.Common.{◌≡◌, ℕ, true, Some, IsSome, length, slice_get, sym, subst}
use Rattle.ir_program.specs.Program.{operation_at, block_at, arguments_at, value_in}
use Rattle.ir_program.specs.Definers.{values_at}
use Rattle.ir_program.specs.Lists.{IsLinkedOperation}
use Rattle.ir_program.specs.Rows.{operands_at}
use Rattle.ir_program.specs.declared.handles.DefiningEntity.{DefiningEntity}
use Rattle.ir_program.specs.Uses.{IsUsed}
use Rattle.ir_program.specs.declared.handles.Ptr.{Ptr}
use Rattle.ir_program.specs.declared.handles.Operation.{Operation}
use Rattle.ir_program.specs.declared.handles.Value.{Value}
use Rattle.ir_trees.specs.ListRewrites.{is_among}
use Rattle.ir_trees.specs.Searched.{Lists}
use Rattle.opt_trees.specs.Dialect.{Lawful}
use Rattle.opt_inside.proofs.Around.{HasLists}
use Rattle.opt_dce.specs.declared.liveness.plan.LostOperands.{LostOperands}
use Rattle.opt_dce.specs.declared.liveness.plan.DeadArguments.{DeadArguments}
use Rattle.opt_dce.specs.Steps.{LosesListed, LosesArguments, DetachesPicked, DropsPicked, ErasesPicked, NamesNone}
use Rattle.opt_dce.proofs.Thinned.{planned_there, planned_count, lost_linked, apart_live, bare_live, names_none, arguments_count, arguments_unused, thinned}
use Rattle.opt_dce.proofs.Trees.{taken_out}
use Rattle.opt_dce.proofs.taking.take_out.Goals as goal

pub lose_all_operands-requires-clause-there : goal.lose_all_operands-requires-clause-there
lose_all_operands-requires-clause-there g c =
    subst (λ ls. (l : LostOperands) → Lists ls l → IsSome (operation_at c.args.ctx.now.program l.op)) (sym c.deref.ensures.value) (planned_there c.args.ctx.now.program c.requires.0 c.args.plan.now c.requires.1)

pub lose_all_operands-requires-clause-count : goal.lose_all_operands-requires-clause-count
lose_all_operands-requires-clause-count g c =
    let old = c.args.ctx.now.program in
    subst (λ ls. (l : LostOperands) → Lists ls l → length l.marks.items ≡ length (operands_at old l.op)) (sym c.deref.ensures.value) (planned_count old c.requires.0 c.args.plan.now c.requires.1)

pub detach_all-requires-clause-linked : goal.detach_all-requires-clause-linked
detach_all-requires-clause-linked g c =
    let d = g.D.Meanings.meaning in
    let law : Lawful d = g.met.D.OptDialect.lawful in
    let old = c.args.ctx.now.program in
    let plan = c.args.plan.now in
    let lists : HasLists c.program.result.now = assumption c.know_lists.ensures in
    let first : HasLists old = subst HasLists c.program.ensures lists in
    let lost = c.lose_all_operands.new.ctx.program in
    let loses = subst (LosesListed d old lost) c.deref.ensures.value c.lose_all_operands.ensures.lost in
    subst (λ ops. (p : Ptr Operation) → is_among ops p ≡ true → IsLinkedOperation lost p) (sym c.deref-2.ensures.value)
    (lost_linked d law old first c.requires.0 plan c.requires.1 c.requires.2 lost loses c.args._op c.requires.3)

pub drop_uses-requires : goal.drop_uses-requires
drop_uses-requires g c =
    let d = g.D.Meanings.meaning in
    let law : Lawful d = g.met.D.OptDialect.lawful in
    let old = c.args.ctx.now.program in
    let plan = c.args.plan.now in
    let lists : HasLists c.program.result.now = assumption c.know_lists.ensures in
    let first : HasLists old = subst HasLists c.program.ensures lists in
    let lost = c.lose_all_operands.new.ctx.program in
    let loses = subst (LosesListed d old lost) c.deref.ensures.value c.lose_all_operands.ensures.lost in
    let lists_lost : HasLists c.program-3.result.now = assumption c.know_lists-2.ensures in
    let then_lost : HasLists lost = subst HasLists c.program-3.ensures lists_lost in
    let apart = c.detach_all.new.ctx.program in
    let detaches = subst (λ ops. DetachesPicked lost apart (is_among ops)) c.deref-2.ensures.value c.detach_all.ensures.detached in
    subst (λ ops. (p : Ptr Operation) → is_among ops p ≡ true → IsSome (operation_at apart p)) (sym c.deref-3.ensures.value)
    (apart_live d law old first c.requires.0 plan c.requires.1 c.requires.2 lost loses then_lost apart detaches)

pub erase_all-requires-clause-there : goal.erase_all-requires-clause-there
erase_all-requires-clause-there g c =
    let d = g.D.Meanings.meaning in
    let law : Lawful d = g.met.D.OptDialect.lawful in
    let old = c.args.ctx.now.program in
    let plan = c.args.plan.now in
    let lists : HasLists c.program.result.now = assumption c.know_lists.ensures in
    let first : HasLists old = subst HasLists c.program.ensures lists in
    let lost = c.lose_all_operands.new.ctx.program in
    let loses = subst (LosesListed d old lost) c.deref.ensures.value c.lose_all_operands.ensures.lost in
    let lists_lost : HasLists c.program-3.result.now = assumption c.know_lists-2.ensures in
    let then_lost : HasLists lost = subst HasLists c.program-3.ensures lists_lost in
    let apart = c.detach_all.new.ctx.program in
    let detaches = subst (λ ops. DetachesPicked lost apart (is_among ops)) c.deref-2.ensures.value c.detach_all.ensures.detached in
    let bare = c.drop_uses.new.ctx.program in
    let drops = subst (λ ops. DropsPicked apart bare (is_among ops)) c.deref-3.ensures.value c.drop_uses.ensures.dropped in
    subst (λ ops. (p : Ptr Operation) → is_among ops p ≡ true → IsSome (operation_at bare p)) (sym c.deref-4.ensures.value)
    (bare_live d law old first c.requires.0 plan c.requires.1 c.requires.2 lost loses then_lost apart detaches bare drops)

pub erase_all-requires-clause-unnamed : goal.erase_all-requires-clause-unnamed
erase_all-requires-clause-unnamed g c =
    let d = g.D.Meanings.meaning in
    let law : Lawful d = g.met.D.OptDialect.lawful in
    let old = c.args.ctx.now.program in
    let plan = c.args.plan.now in
    let lists : HasLists c.program.result.now = assumption c.know_lists.ensures in
    let first : HasLists old = subst HasLists c.program.ensures lists in
    let lost = c.lose_all_operands.new.ctx.program in
    let loses = subst (LosesListed d old lost) c.deref.ensures.value c.lose_all_operands.ensures.lost in
    let lists_lost : HasLists c.program-3.result.now = assumption c.know_lists-2.ensures in
    let then_lost : HasLists lost = subst HasLists c.program-3.ensures lists_lost in
    let apart = c.detach_all.new.ctx.program in
    let detaches = subst (λ ops. DetachesPicked lost apart (is_among ops)) c.deref-2.ensures.value c.detach_all.ensures.detached in
    let bare = c.drop_uses.new.ctx.program in
    let drops = subst (λ ops. DropsPicked apart bare (is_among ops)) c.deref-3.ensures.value c.drop_uses.ensures.dropped in
    subst (λ ops. NamesNone bare (is_among ops)) (sym c.deref-4.ensures.value) (names_none d law old first c.requires.0 plan c.requires.1 c.requires.2 lost loses then_lost apart detaches bare drops)

pub lose_all_arguments-requires-clause-count : goal.lose_all_arguments-requires-clause-count
lose_all_arguments-requires-clause-count g c =
    let d = g.D.Meanings.meaning in
    let law : Lawful d = g.met.D.OptDialect.lawful in
    let old = c.args.ctx.now.program in
    let plan = c.args.plan.now in
    let lists : HasLists c.program.result.now = assumption c.know_lists.ensures in
    let first : HasLists old = subst HasLists c.program.ensures lists in
    let lost = c.lose_all_operands.new.ctx.program in
    let loses = subst (LosesListed d old lost) c.deref.ensures.value c.lose_all_operands.ensures.lost in
    let lists_lost : HasLists c.program-3.result.now = assumption c.know_lists-2.ensures in
    let then_lost : HasLists lost = subst HasLists c.program-3.ensures lists_lost in
    let apart = c.detach_all.new.ctx.program in
    let detaches = subst (λ ops. DetachesPicked lost apart (is_among ops)) c.deref-2.ensures.value c.detach_all.ensures.detached in
    let bare = c.drop_uses.new.ctx.program in
    let drops = subst (λ ops. DropsPicked apart bare (is_among ops)) c.deref-3.ensures.value c.drop_uses.ensures.dropped in
    let lists_bare : HasLists c.program-4.result.now = assumption c.know_lists-3.ensures in
    let then_bare : HasLists bare = subst HasLists c.program-4.ensures lists_bare in
    let rest = c.erase_all.new.ctx.program in
    let erases = subst (λ ops. ErasesPicked bare rest (is_among ops)) c.deref-4.ensures.value c.erase_all.ensures.erased in
    subst (λ dead. (a : DeadArguments) → Lists dead a → IsSome (block_at rest a.block) → length a.marks.items ≡ length (arguments_at rest a.block)) (sym c.deref-5.ensures.value)
    (arguments_count d law old first c.requires.0 plan c.requires.1 c.requires.2 lost loses then_lost apart detaches bare drops then_bare rest erases)

pub lose_all_arguments-requires-clause-unused : goal.lose_all_arguments-requires-clause-unused
lose_all_arguments-requires-clause-unused g c =
    let d = g.D.Meanings.meaning in
    let law : Lawful d = g.met.D.OptDialect.lawful in
    let old = c.args.ctx.now.program in
    let plan = c.args.plan.now in
    let lists : HasLists c.program.result.now = assumption c.know_lists.ensures in
    let first : HasLists old = subst HasLists c.program.ensures lists in
    let lost = c.lose_all_operands.new.ctx.program in
    let loses = subst (LosesListed d old lost) c.deref.ensures.value c.lose_all_operands.ensures.lost in
    let lists_lost : HasLists c.program-3.result.now = assumption c.know_lists-2.ensures in
    let then_lost : HasLists lost = subst HasLists c.program-3.ensures lists_lost in
    let apart = c.detach_all.new.ctx.program in
    let detaches = subst (λ ops. DetachesPicked lost apart (is_among ops)) c.deref-2.ensures.value c.detach_all.ensures.detached in
    let bare = c.drop_uses.new.ctx.program in
    let drops = subst (λ ops. DropsPicked apart bare (is_among ops)) c.deref-3.ensures.value c.drop_uses.ensures.dropped in
    let lists_bare : HasLists c.program-4.result.now = assumption c.know_lists-3.ensures in
    let then_bare : HasLists bare = subst HasLists c.program-4.ensures lists_bare in
    let rest = c.erase_all.new.ctx.program in
    let erases = subst (λ ops. ErasesPicked bare rest (is_among ops)) c.deref-4.ensures.value c.erase_all.ensures.erased in
    subst (λ dead. (a : DeadArguments) → Lists dead a → (i : ℕ) (v : Value) → slice_get a.marks.items i ≡ Some true → value_in (arguments_at rest a.block) i ≡ Some v → IsUsed rest v → ⊥) (sym c.deref-5.ensures.value)
    (arguments_unused d law old first c.requires.0 plan c.requires.1 c.requires.2 lost loses then_lost apart detaches bare drops then_bare rest erases)

pub returns-clause-taken : goal.returns-clause-taken
returns-clause-taken g c gone is uses below =
    let d = g.D.Meanings.meaning in
    let law : Lawful d = g.met.D.OptDialect.lawful in
    let old = c.args.ctx.now.program in
    let plan = c.args.plan.now in
    let lists : HasLists c.program.result.now = assumption c.know_lists.ensures in
    let first : HasLists old = subst HasLists c.program.ensures lists in
    let lost = c.lose_all_operands.new.ctx.program in
    let loses = subst (LosesListed d old lost) c.deref.ensures.value c.lose_all_operands.ensures.lost in
    let lists_lost : HasLists c.program-3.result.now = assumption c.know_lists-2.ensures in
    let then_lost : HasLists lost = subst HasLists c.program-3.ensures lists_lost in
    let apart = c.detach_all.new.ctx.program in
    let detaches = subst (λ ops. DetachesPicked lost apart (is_among ops)) c.deref-2.ensures.value c.detach_all.ensures.detached in
    let bare = c.drop_uses.new.ctx.program in
    let drops = subst (λ ops. DropsPicked apart bare (is_among ops)) c.deref-3.ensures.value c.drop_uses.ensures.dropped in
    let lists_bare : HasLists c.program-4.result.now = assumption c.know_lists-3.ensures in
    let then_bare : HasLists bare = subst HasLists c.program-4.ensures lists_bare in
    let rest = c.erase_all.new.ctx.program in
    let erases = subst (λ ops. ErasesPicked bare rest (is_among ops)) c.deref-4.ensures.value c.erase_all.ensures.erased in
    let new = c.lose_all_arguments.new.ctx.program in
    let loses_arguments = subst (LosesArguments d rest new) c.deref-5.ensures.value c.lose_all_arguments.ensures.lost in
    let definer = subst (λ p. (e : DefiningEntity) (k : ℕ) (v : Value) → value_in (values_at p e) k ≡ Some v → v.definer ≡ e) c.program-2.ensures c.know_values.ensures.definer in
    taken_out d law old new first c.args._op gone below definer (thinned d law old first gone plan is uses lost loses then_lost apart detaches bare drops then_bare rest erases definer new loses_arguments)
