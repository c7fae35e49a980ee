use Rattle.std.specs.Prelude.{refl}
use Rattle.std.proofs.lemmas.Result.{IfOk-weaker}
use Rattle.text_frames.proofs.BuildingLemmas.Opened.{opened}
use Rattle.text_frames.proofs.building.making.open_block.Goals as goal

pub returns-clause-opened : goal.returns-clause-opened
returns-clause-opened g c = IfOk-weaker c.new.result _ _ (λ b built. opened c.args.ctx.now c.new.new.ctx c.new.ensures.types b _ c.args.argument_types.now built refl) c.new.ensures.built
