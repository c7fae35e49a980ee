use Rattle.std.proofs.Common.{[], ◌∷◌, subst}
use Rattle.std.specs.Prelude.{MatchBool}
use Rattle.digraph.specs.Searches.{orders, Goes, RestsUnchanged}
use Rattle.digraph.proofs.Running.{idle, enters, steps, stands, ends}
use Rattle.digraph.proofs.search.Search.visit.Goals as goal

pub steps-init : goal.steps-init
steps-init c = enters c.args.graph.now (orders c.args.self.now) (c.args.root ∷ []) [] c.args.root c.args.self.now c.enter.new.self c.requires.root
    (idle c.args.graph.now (c.args.root ∷ []) c.args.self.now c.requires.search c.requires.idle) c.in_ok-enter.ensures

pub steps-preserved : goal.steps-preserved
steps-preserved c =
    let goes = subst (λ b. MatchBool b (Goes c.args.graph.now c.steps.self c.step.new.self) (RestsUnchanged c.steps.self c.step.new.self)) c.if-branch.true c.in_ok-step.ensures in
    steps c.args.graph.now (orders c.args.self.now) (c.args.root ∷ []) [] c.steps.self c.step.new.self c.steps.invariant goes

pub returns-clause-visited : goal.returns-clause-visited
returns-clause-visited c =
    let s = subst (λ b. MatchBool b (Goes c.args.graph.now c.steps.self c.step.new.self) (RestsUnchanged c.steps.self c.step.new.self)) c.if-branch.false c.in_ok-step.ensures in
    ends c.args.graph.now (orders c.args.self.now) (c.args.root ∷ []) c.step.new.self (stands c.args.graph.now (orders c.args.self.now) (c.args.root ∷ []) [] c.steps.self c.step.new.self c.steps.invariant s)

pub returns-clause-search : goal.returns-clause-search
returns-clause-search c =
    let s = subst (λ b. MatchBool b (Goes c.args.graph.now c.steps.self c.step.new.self) (RestsUnchanged c.steps.self c.step.new.self)) c.if-branch.false c.in_ok-step.ensures in
    (stands c.args.graph.now (orders c.args.self.now) (c.args.root ∷ []) [] c.steps.self c.step.new.self c.steps.invariant s).search

pub returns-clause-idle : goal.returns-clause-idle
returns-clause-idle c =
    let s = subst (λ b. MatchBool b (Goes c.args.graph.now c.steps.self c.step.new.self) (RestsUnchanged c.steps.self c.step.new.self)) c.if-branch.false c.in_ok-step.ensures in
    s.open_same
