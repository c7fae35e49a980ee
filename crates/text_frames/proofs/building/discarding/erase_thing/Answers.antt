use Rattle.std.proofs.Common.{◌∷◌, [], sym, subst}
use Rattle.ir_program.specs.declared.handles.IRNode.TheVariants.{Operation as OperationNode, BasicBlock as BlockNode}
use Rattle.text_dialect.specs.Seen.{seen}
use Rattle.text_frames.specs.building.Inside.{AreUnused, ErasesNodes, IsLoose, KeepsPayloadsOutside}
use Rattle.text_frames.proofs.BuildingLemmas.Stood.{HasLists, unused_apart, operation_erased, operation_outside, block_erased, block_outside}
use Rattle.text_frames.proofs.building.discarding.erase_thing.Goals as goal

pub erase-requires-clause-apart : goal.erase-requires-clause-apart
erase-requires-clause-apart g c = unused_apart c.args.ctx.now (OperationNode c.in-Operation.op) (subst (λ x. AreUnused (seen c.args.ctx.now) (x ∷ [])) c.in-Operation.is c.requires.unused)

pub erase-requires-in-BasicBlock-clause-apart : goal.erase-requires-in-BasicBlock-clause-apart
erase-requires-in-BasicBlock-clause-apart g c = unused_apart c.args.ctx.now (BlockNode c.in-BasicBlock.block) (subst (λ x. AreUnused (seen c.args.ctx.now) (x ∷ [])) c.in-BasicBlock.is c.requires.unused)

pub returns-in-Operation-clause-gone : goal.returns-in-Operation-clause-gone
returns-in-Operation-clause-gone g c =
    let lists : HasLists c.program.result.now = assumption c.know_lists.ensures in
    let now : HasLists c.args.ctx.now.program = subst HasLists c.program.ensures lists in
    subst (λ x. ErasesNodes (seen c.args.ctx.now) (seen c.erase.new.ctx) (x ∷ [])) (sym c.in-Operation.is)
    (operation_erased c.args.ctx.now c.erase.new.ctx c.erase.ensures.types now c.in-Operation.op (subst (IsLoose (seen c.args.ctx.now)) c.in-Operation.is c.requires.loose) c.erase.ensures.erased)

pub returns-in-BasicBlock-clause-gone : goal.returns-in-BasicBlock-clause-gone
returns-in-BasicBlock-clause-gone g c =
    let lists : HasLists c.program.result.now = assumption c.know_lists.ensures in
    let now : HasLists c.args.ctx.now.program = subst HasLists c.program.ensures lists in
    subst (λ x. ErasesNodes (seen c.args.ctx.now) (seen c.erase-in-BasicBlock.new.ctx) (x ∷ [])) (sym c.in-BasicBlock.is)
    (block_erased c.args.ctx.now c.erase-in-BasicBlock.new.ctx c.erase-in-BasicBlock.ensures.types now c.in-BasicBlock.block (subst (IsLoose (seen c.args.ctx.now)) c.in-BasicBlock.is c.requires.loose) c.erase-in-BasicBlock.ensures.erased)

pub returns-in-Operation-clause-payloads : goal.returns-in-Operation-clause-payloads
returns-in-Operation-clause-payloads g c =
    subst (λ x. KeepsPayloadsOutside (seen c.args.ctx.now) (x ∷ []) c.args.ctx.now.program c.erase.new.ctx.program) (sym c.in-Operation.is)
    (operation_outside c.args.ctx.now c.erase.new.ctx c.in-Operation.op (subst (IsLoose (seen c.args.ctx.now)) c.in-Operation.is c.requires.loose) c.erase.ensures.erased)

pub returns-in-BasicBlock-clause-payloads : goal.returns-in-BasicBlock-clause-payloads
returns-in-BasicBlock-clause-payloads g c =
    subst (λ x. KeepsPayloadsOutside (seen c.args.ctx.now) (x ∷ []) c.args.ctx.now.program c.erase-in-BasicBlock.new.ctx.program) (sym c.in-BasicBlock.is)
    (block_outside c.args.ctx.now c.erase-in-BasicBlock.new.ctx c.in-BasicBlock.block (subst (IsLoose (seen c.args.ctx.now)) c.in-BasicBlock.is c.requires.loose) c.erase-in-BasicBlock.ensures.erased)
