use Rattle.std.proofs.Common.{ℕ, List, ◌++◌, ◌∷◌, [], take, map, sym, ap, ◌∙◌, append_assoc}
use Rattle.std.proofs.lemmas.List.{append-nil, map_more, take_all}
use Rattle.opt_rows.specs.declared.dead_problem.Argument.{Argument}
use Rattle.opt_solvers.specs.DeadUses.{held, held_argument}
use Rattle.opt_solvers.proofs.dead_uses.held_items.Goals as goal

pub loop-operation-preserved : goal.loop-operation-preserved
loop-operation-preserved c =
    let i = c.loop-operation.operation-index in
    c.in_ok-push.ensures.items
    ∙ (ap (λ (ns : List ℕ). ns ++ c.held.result ∷ []) c.loop-operation.invariant
    ∙ (ap (λ (n : ℕ). map held (take i c.args.may_go.now) ++ n ∷ []) c.held.ensures
    ∙ sym (map_more held c.args.may_go.now i _ c.loop-operation-test.true)))

pub loop-argument-init : goal.loop-argument-init
loop-argument-init c = c.loop-operation.invariant ∙ (ap (map held) (take_all c.loop-operation.operation-index c.args.may_go.now c.loop-operation-test.false) ∙ sym (append-nil (map held c.args.may_go.now)))

pub loop-argument-preserved : goal.loop-argument-preserved
loop-argument-preserved c =
    let i = c.loop-argument.argument-index in
    let done = map held c.args.may_go.now in
    let some = map held_argument (take i c.args.arguments.now) in
    c.in_ok-push-2.ensures.items
    ∙ (ap (λ (ns : List ℕ). ns ++ c.held-in-loop-argument.result ∷ []) c.loop-argument.invariant
    ∙ (append_assoc done some (c.held-in-loop-argument.result ∷ [])
    ∙ (ap (λ (n : ℕ). done ++ (some ++ n ∷ [])) c.held-in-loop-argument.ensures
    ∙ ap (λ (ns : List ℕ). done ++ ns) (sym (map_more held_argument c.args.arguments.now i _ c.loop-argument-test.true)))))

pub returns : goal.returns
returns c = c.loop-argument.invariant ∙ ap (λ (vs : List Argument). map held c.args.may_go.now ++ map held_argument vs) (take_all c.loop-argument.argument-index c.args.arguments.now c.loop-argument-test.false)
