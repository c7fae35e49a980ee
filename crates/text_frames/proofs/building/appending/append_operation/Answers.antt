use Rattle.std.proofs.Common.{refl}
use Rattle.text_frames.proofs.BuildingLemmas.Apart.{operation_apart}
use Rattle.text_frames.proofs.BuildingLemmas.Linked.{put_appends}
use Rattle.text_frames.proofs.BuildingLemmas.Numbers.{gives_nothing}
use Rattle.text_frames.proofs.BuildingLemmas.Opened.{unlinked_block, unlinked_operation}
use Rattle.text_frames.proofs.BuildingLemmas.Payloads.{payloads_block}
use Rattle.text_frames.proofs.building.appending.append_operation.Goals as goal

pub insert_at_back-requires-clause-unlinked : goal.insert_at_back-requires-clause-unlinked
insert_at_back-requires-clause-unlinked g c = unlinked_operation c.args.ctx.now c.args.op c.requires.op

pub insert_at_back-requires-clause-apart : goal.insert_at_back-requires-clause-apart
insert_at_back-requires-clause-apart g c = operation_apart c.args.ctx.now.program c.args.op c.args.block (unlinked_block c.args.ctx.now c.args.block c.requires.block)

pub returns-clause-appended : goal.returns-clause-appended
returns-clause-appended g c = put_appends c.args.ctx.now c.insert_at_back.new.ctx c.insert_at_back.ensures.types c.args.block c.args.op c.insert_at_back.ensures.edited

pub returns-clause-numbers : goal.returns-clause-numbers
returns-clause-numbers g c =
    gives_nothing c.args.ctx.now.program c.insert_at_back.new.ctx.program c.insert_at_back.ensures.values.counter c.insert_at_back.ensures.edited.erased
    (payloads_block c.args.ctx.now.program c.insert_at_back.new.ctx.program c.args.block _ (λ v. refl) c.insert_at_back.ensures.edited)
