use Rattle.std.proofs.Common.{sym, ap, ◌∙◌, slice_get}
use Rattle.opt_inside.specs.Numbered.{numbers_of}
use Rattle.opt_decide.specs.Planned.{decisions_of, picked_edge}
use Rattle.opt_decide.proofs.DecisionLists.{below_there, are_decisions, no_decisions}
use Rattle.opt_decide.proofs.plan.decided_branches.Goals as goal

pub decisions_of-requires : goal.decisions_of-requires
decisions_of-requires g c p l =
    below_there c.args.program.now c.args.op p ((c.in_ok-inside.ensures.operations p).0 (l.0, ap (λ ps. slice_get ps l.0) (sym c.as_slice.ensures.keys) ∙ l.1))

pub returns-then-not-branch : goal.returns-then-not-branch
returns-then-not-branch g c = no_decisions g.D.Meanings.meaning c.args.program.now c.args.op (sym c.in_ok-has_unconditional.ensures ∙ c.if-not-branch.true) c.new.result.items c.new.ensures.items

pub returns : goal.returns
returns g c =
    are_decisions g.D.Meanings.meaning c.args.program.now c.args.op (numbers_of c.in_ok-inside.inside) c.in_ok-inside.ensures (sym c.in_ok-has_unconditional.ensures ∙ c.if-not-branch.false) c.in_ok-decisions.decisions.items
    (c.in_ok-decisions.ensures ∙ ap (decisions_of (picked_edge g.D.Meanings.meaning c.args.program.now)) c.as_slice.ensures.keys)
