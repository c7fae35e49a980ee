use Rattle.std.proofs.Common.{◌≡◌, Some, subst}
use Rattle.ir_base.specs.declared.types.TypeHandle.{TypeHandle}
use Rattle.ir_program.specs.Definers.{StandsAtDefiner}
use Rattle.ir_program.specs.Program.{type_at, IsLiveValue}
use Rattle.ir_program.specs.Uses.{IsUsed}
use Rattle.ir_program.specs.declared.handles.Value.{Value}
use Rattle.ir_trees.specs.Stands.{ProgramTree, StandsFor}
use Rattle.opt_inside.proofs.Around.{HasLists}
use Rattle.opt_inside.specs.Occurring.{OfItsTree, EachFound, EachBlock, IsOccurrence, IsBlockOccurrence}
use Rattle.opt_chains.proofs.MergeWhole.{IsKnown, joins_now, unused_now, handles_kept, merges_blocks}
use Rattle.opt_chains.proofs.merge_plan.apply_plan.Goals as goal

pub replace_arguments-requires-clause-live : goal.replace_arguments-requires-clause-live
replace_arguments-requires-clause-live g c =
    let tree = subst (λ p. (t : ProgramTree g.row.D-Operation.Denot g.row.D-Block.Denot) × StandsFor p c.args.op t) c.program-4.ensures c.know_tree.ensures in
    let plan = c.requires.plan c.requires.begins.0 c.requires.begins.1 tree.0 tree.1 in
    plan.stand_ins.there

pub replace_arguments-requires-clause-fixed : goal.replace_arguments-requires-clause-fixed
replace_arguments-requires-clause-fixed g c =
    let tree = subst (λ p. (t : ProgramTree g.row.D-Operation.Denot g.row.D-Block.Denot) × StandsFor p c.args.op t) c.program-4.ensures c.know_tree.ensures in
    let plan = c.requires.plan c.requires.begins.0 c.requires.begins.1 tree.0 tree.1 in
    plan.stand_ins.fixed

pub join_all-requires-clause-can : goal.join_all-requires-clause-can
join_all-requires-clause-can g c =
    let tree = subst (λ p. (t : ProgramTree g.row.D-Operation.Denot g.row.D-Block.Denot) × StandsFor p c.args.op t) c.program-4.ensures c.know_tree.ensures in
    let plan = c.requires.plan c.requires.begins.0 c.requires.begins.1 tree.0 tree.1 in
    let lists : HasLists c.program.result.now = assumption c.know_lists.ensures in
    let known : IsKnown g.D.Meanings.meaning c.requires.begins.0 c.args.ctx.now.program c.args.op tree.0 = record {
      lists = subst HasLists c.program.ensures lists;
      start = c.args._start;
      is_start = c.requires.begins.1;
      edges = c.requires.edges;
      found = subst (λ p. OfItsTree p c.args.op (λ x. EachFound x (IsOccurrence p c.args.op))) c.program-3.ensures c.know_occurrences.ensures.sound tree.0 tree.1;
      blocks_found = subst (λ p. OfItsTree p c.args.op (λ x. EachBlock x (IsBlockOccurrence p c.args.op))) c.program-3.ensures c.know_occurrences.ensures.blocks_sound tree.0 tree.1;
      used = subst (λ p. (v : Value) → IsUsed p v → IsLiveValue p v) c.program-2.ensures c.know_values.ensures.used;
      stands = subst (λ p. (v : Value) (ty : TypeHandle) → type_at p v ≡ Some ty → StandsAtDefiner p v ty) c.program-2.ensures c.know_values.ensures.stands;
    } in
    joins_now g.D.Meanings.meaning c.requires.begins.0 c.args.ctx.now.program c.replace_arguments.new.ctx.program c.args.op tree.0 known c.args.joins.now c.args.stand_ins.now plan.chains plan.stand_ins c.replace_arguments.ensures.replaced

pub join_all-requires-clause-unused : goal.join_all-requires-clause-unused
join_all-requires-clause-unused g c =
    let tree = subst (λ p. (t : ProgramTree g.row.D-Operation.Denot g.row.D-Block.Denot) × StandsFor p c.args.op t) c.program-4.ensures c.know_tree.ensures in
    let plan = c.requires.plan c.requires.begins.0 c.requires.begins.1 tree.0 tree.1 in
    let lists : HasLists c.program.result.now = assumption c.know_lists.ensures in
    let known : IsKnown g.D.Meanings.meaning c.requires.begins.0 c.args.ctx.now.program c.args.op tree.0 = record {
      lists = subst HasLists c.program.ensures lists;
      start = c.args._start;
      is_start = c.requires.begins.1;
      edges = c.requires.edges;
      found = subst (λ p. OfItsTree p c.args.op (λ x. EachFound x (IsOccurrence p c.args.op))) c.program-3.ensures c.know_occurrences.ensures.sound tree.0 tree.1;
      blocks_found = subst (λ p. OfItsTree p c.args.op (λ x. EachBlock x (IsBlockOccurrence p c.args.op))) c.program-3.ensures c.know_occurrences.ensures.blocks_sound tree.0 tree.1;
      used = subst (λ p. (v : Value) → IsUsed p v → IsLiveValue p v) c.program-2.ensures c.know_values.ensures.used;
      stands = subst (λ p. (v : Value) (ty : TypeHandle) → type_at p v ≡ Some ty → StandsAtDefiner p v ty) c.program-2.ensures c.know_values.ensures.stands;
    } in
    unused_now g.D.Meanings.meaning c.requires.begins.0 c.args.ctx.now.program c.replace_arguments.new.ctx.program c.args.op tree.0 known c.args.joins.now c.args.stand_ins.now plan.chains plan.stand_ins c.replace_arguments.ensures.replaced

pub returns-clause-handles : goal.returns-clause-handles
returns-clause-handles g c =
    let tree = subst (λ p. (t : ProgramTree g.row.D-Operation.Denot g.row.D-Block.Denot) × StandsFor p c.args.op t) c.program-4.ensures c.know_tree.ensures in
    let plan = c.requires.plan c.requires.begins.0 c.requires.begins.1 tree.0 tree.1 in
    let lists : HasLists c.program.result.now = assumption c.know_lists.ensures in
    let known : IsKnown g.D.Meanings.meaning c.requires.begins.0 c.args.ctx.now.program c.args.op tree.0 = record {
      lists = subst HasLists c.program.ensures lists;
      start = c.args._start;
      is_start = c.requires.begins.1;
      edges = c.requires.edges;
      found = subst (λ p. OfItsTree p c.args.op (λ x. EachFound x (IsOccurrence p c.args.op))) c.program-3.ensures c.know_occurrences.ensures.sound tree.0 tree.1;
      blocks_found = subst (λ p. OfItsTree p c.args.op (λ x. EachBlock x (IsBlockOccurrence p c.args.op))) c.program-3.ensures c.know_occurrences.ensures.blocks_sound tree.0 tree.1;
      used = subst (λ p. (v : Value) → IsUsed p v → IsLiveValue p v) c.program-2.ensures c.know_values.ensures.used;
      stands = subst (λ p. (v : Value) (ty : TypeHandle) → type_at p v ≡ Some ty → StandsAtDefiner p v ty) c.program-2.ensures c.know_values.ensures.stands;
    } in
    handles_kept g.D.Meanings.meaning c.requires.begins.0 c.args.ctx.now.program c.replace_arguments.new.ctx.program c.args.op tree.0 known c.args.joins.now c.args.stand_ins.now plan.chains plan.stand_ins c.replace_arguments.ensures.replaced c.join_all.new.ctx.program c.join_all.ensures.joined

pub returns-clause-merged : goal.returns-clause-merged
returns-clause-merged g c p begins t stands =
    let plan = c.requires.plan p begins t stands in
    let lists : HasLists c.program.result.now = assumption c.know_lists.ensures in
    let known : IsKnown g.D.Meanings.meaning p c.args.ctx.now.program c.args.op t = record {
      lists = subst HasLists c.program.ensures lists;
      start = c.args._start;
      is_start = begins;
      edges = c.requires.edges;
      found = subst (λ p. OfItsTree p c.args.op (λ x. EachFound x (IsOccurrence p c.args.op))) c.program-3.ensures c.know_occurrences.ensures.sound t stands;
      blocks_found = subst (λ p. OfItsTree p c.args.op (λ x. EachBlock x (IsBlockOccurrence p c.args.op))) c.program-3.ensures c.know_occurrences.ensures.blocks_sound t stands;
      used = subst (λ p. (v : Value) → IsUsed p v → IsLiveValue p v) c.program-2.ensures c.know_values.ensures.used;
      stands = subst (λ p. (v : Value) (ty : TypeHandle) → type_at p v ≡ Some ty → StandsAtDefiner p v ty) c.program-2.ensures c.know_values.ensures.stands;
    } in
    merges_blocks g.D.Meanings.meaning p c.args.ctx.now.program c.replace_arguments.new.ctx.program c.args.op t known c.args.joins.now c.args.stand_ins.now plan.chains plan.stand_ins c.replace_arguments.ensures.replaced c.join_all.new.ctx.program c.join_all.ensures.joined stands
