use Rattle.std.proofs.Common.{◌∙◌}
use Rattle.ir_program.specs.Lists.{blocks_in}
use Rattle.kit_checks.proofs.Finding.{finding_begins, finding_goes_on, found_here, not_nowhere}
use Rattle.kit_checks.proofs.Handles.{same_yes, not_same}
use Rattle.kit_checks.proofs.places.block_index.Goals as goal

pub loop-other-init : goal.loop-other-init
loop-other-init g c =
    finding_begins (blocks_in c.args.program.now c.args.region) c.args.block c.into_iter-other-iterator.result (c.into_iter-other-iterator.ensures.into_iter_gives ∙ c.blocks-other-items.ensures.list)

pub returns-then-eq : goal.returns-then-eq
returns-then-eq g c =
    found_here (blocks_in c.args.program.now c.args.region) c.args.block c.loop-other.other-iterator c.next.new.self c.in-Some.other c.loop-other.index c.in-Some.ensures.steps
    (same_yes c.in-Some.other c.args.block c.eq.result c.eq.ensures c.if-eq.true) c.loop-other.invariant

pub loop-other-preserved : goal.loop-other-preserved
loop-other-preserved g c =
    finding_goes_on (blocks_in c.args.program.now c.args.region) c.args.block c.loop-other.other-iterator c.next.new.self c.in-Some.other c.loop-other.index c.in_ok-index.index c.in-Some.ensures.steps
    (not_same c.in-Some.other c.args.block c.eq.result c.eq.ensures c.if-eq.false) c.in_ok-index.ensures c.loop-other.invariant

pub unreachable-requires : goal.unreachable-requires
unreachable-requires g c =
    not_nowhere (blocks_in c.args.program.now c.args.region) c.args.block c.loop-other.other-iterator c.loop-other.index c.requires.index c.in-None.ensures.steps.0 c.requires.here c.loop-other.invariant
