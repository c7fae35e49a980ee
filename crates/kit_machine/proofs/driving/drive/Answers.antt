use Rattle.std.proofs.Common.{◌∙◌, sym, subst, refl, ◌-◌, ◌∷◌, map, reverse, nat_eq, arith}
use Rattle.kit_flat.specs.Machine.{step, Ended, Trapped}
use Rattle.kit_flat.specs.declared.interpreter.Turn.{Turn}
use Rattle.kit_flat.specs.View.{flat_code, state_view, frame_view}
use Rattle.kit_flat.specs.Shows.{TurnShows}
use Rattle.kit_machine.proofs.Runs.{still, one_less}
use Rattle.kit_machine.proofs.driving.drive.Goals as goal

pub returns-in-Over : goal.returns-in-Over
returns-in-Over c =
    let P = flat_code c.args.code.now.functions.items in
    let s = subst (λ (t : Turn). TurnShows c.args.code.now.functions.items
    (step nat_eq (flat_code c.args.code.now.functions.items) (state_view c.loop-left.running)) c.step.new.self
    t) c.in-Over.is c.in_ok-step.ensures in
    sym c.loop-left.invariant.same
    ∙ one_less P c.loop-left.left (state_view c.loop-left.running)
    (Ended c.in-Over.values.items c.step.new.self.emissions.items) (omega arith) s
    ∙ still P (c.loop-left.left - 1) (Ended c.in-Over.values.items c.step.new.self.emissions.items) refl

pub returns-in-Failed : goal.returns-in-Failed
returns-in-Failed c =
    let P = flat_code c.args.code.now.functions.items in
    let s = subst (λ (t : Turn). TurnShows c.args.code.now.functions.items
    (step nat_eq (flat_code c.args.code.now.functions.items) (state_view c.loop-left.running)) c.step.new.self
    t) c.in-Failed.is c.in_ok-step.ensures in
    sym c.loop-left.invariant.same
    ∙ one_less P c.loop-left.left (state_view c.loop-left.running) (Trapped c.step.new.self.emissions.items)
    (omega arith) s
    ∙ still P (c.loop-left.left - 1) (Trapped c.step.new.self.emissions.items) refl

pub returns-in-Lost : goal.returns-in-Lost
returns-in-Lost c =
    let P = flat_code c.args.code.now.functions.items in
    let s = subst (λ (t : Turn). TurnShows c.args.code.now.functions.items
    (step nat_eq (flat_code c.args.code.now.functions.items) (state_view c.loop-left.running)) c.step.new.self
    t) c.in-Lost.is c.in_ok-step.ensures in (
      frame_view c.step.new.self.top ∷ map frame_view (reverse c.step.new.self.waiting.items),
      sym c.loop-left.invariant.same
          ∙ one_less P c.loop-left.left (state_view c.loop-left.running)
          (step nat_eq P (state_view c.loop-left.running)) (omega arith) refl
          ∙ still P (c.loop-left.left - 1) (step nat_eq P (state_view c.loop-left.running)) s.1
          ∙ s.0,
    )
