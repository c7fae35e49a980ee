use Rattle.std.proofs.Common.{◌<◌, sym, subst}
use Rattle.opt_rows.specs.FactsFound.{Meets}
use Rattle.opt_solvers.specs.FactsSolving.{SlotsBelow}
use Rattle.opt_rows.proofs.Lists.{next_within, next_done, all_done}
use Rattle.opt_solvers.proofs.FactsTelling.{slots_none, slot_more}
use Rattle.opt_solvers.proofs.facts_values.forward.Goals as goal

pub loop-slot-init : goal.loop-slot-init
loop-slot-init g c = (slots_none c.args.taken.now c.args.fact c.args.found.now, c.into_iter-slot-iterator.ensures.into_iter_gives)

pub forward_to-requires-clause-argument : goal.forward_to-requires-clause-argument
forward_to-requires-clause-argument g c = subst (λ n. c.in-Some.slot.argument < n) (sym c.loop-slot.invariant.0.steps.values_len) (c.requires.arguments c.in-Some.slot (next_within c.loop-slot.yielded c.loop-slot.slot-iterator _ c.args.slots c.in-Some.slot c.in-Some.ensures.steps c.loop-slot.invariant.1))

pub forward_to-requires-clause-row : goal.forward_to-requires-clause-row
forward_to-requires-clause-row g c = c.requires.rows c.in-Some.slot (next_within c.loop-slot.yielded c.loop-slot.slot-iterator _ c.args.slots c.in-Some.slot c.in-Some.ensures.steps c.loop-slot.invariant.1)

pub forward_to-requires-clause-edge : goal.forward_to-requires-clause-edge
forward_to-requires-clause-edge g c = c.requires.edges c.in-Some.slot (next_within c.loop-slot.yielded c.loop-slot.slot-iterator _ c.args.slots c.in-Some.slot c.in-Some.ensures.steps c.loop-slot.invariant.1)

pub loop-slot-preserved : goal.loop-slot-preserved
loop-slot-preserved g c = (
  slot_more c.args.taken.now c.loop-slot.yielded c.args.fact c.in-Some.slot c.args.found.now c.loop-slot.found c.forward_to.new.found c.loop-slot.invariant.0 c.in_ok-forward_to.ensures,
  next_done c.loop-slot.yielded c.loop-slot.slot-iterator _ c.args.slots c.in-Some.slot c.in-Some.ensures.steps c.loop-slot.invariant.1,
)

pub returns : goal.returns
returns g c = subst (λ xs. Meets (SlotsBelow c.args.taken.now xs c.args.fact) c.args.found.now c.loop-slot.found) (all_done c.loop-slot.yielded c.loop-slot.slot-iterator c.args.slots c.in-None.ensures.steps.0 c.loop-slot.invariant.1) c.loop-slot.invariant.0
