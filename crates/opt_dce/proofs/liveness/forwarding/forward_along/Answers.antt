use Rattle.std.proofs.Common.{arith}
use Rattle.std.proofs.lemmas.Option.{slice_get_within, slice_get-get_or}
use Rattle.opt_inside.specs.Numbered.{numbers_of}
use Rattle.opt_dce.proofs.LivenessLemmas.Noting.{along_step, along_ends}
use Rattle.opt_dce.proofs.liveness.forwarding.forward_along.Goals as goal

pub loop-place-preserved : goal.loop-place-preserved
loop-place-preserved g c = along_step c.args.program.now (numbers_of c.args.inside.now) c.args.block c.args.indices.now c.loop-place.place _ c.args.targets.now.items c.loop-place.targets.items c.forward_one.new.targets.items (slice_get-get_or c.args.indices.now c.loop-place.place 0 c.loop-place-test.true) c.loop-place.invariant c.forward_one.ensures

pub returns : goal.returns
returns g c = along_ends c.args.program.now (numbers_of c.args.inside.now) c.args.block c.args.indices.now c.loop-place.place c.args.targets.now.items c.loop-place.targets.items (λ place k h. let lt = slice_get_within c.args.indices.now place k h in let all = c.loop-place-test.false in omega arith) c.loop-place.invariant
