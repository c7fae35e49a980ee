use Rattle.std.proofs.Common.{◌≡◌, ◌++◌, ◌∷◌, [], List, take, ap, ◌∙◌, sym, rules}
use Rattle.std.proofs.lemmas.List.{append_assoc}
use Rattle.opt_rows.specs.OperationRows.{BranchEdge, no_edge, edge_numbered}
use Rattle.opt_rows.proofs.OperationLists.{take_one_more}
use Rattle.opt_rows.proofs.edge_list.EdgeList.append.Goals as goal

pub loop-index-preserved : goal.loop-index-preserved
loop-index-preserved c =
    let es = c.args.more.now in let i = c.loop-index.index in
    let same : record { target = c.target.result; forwards = c.forwards.result.now } ≡ edge_numbered es i = λ j. record { target = c.target.ensures j; forwards = c.forwards.ensures j } in
    c.in_ok-push.ensures.ok
    ∙ (ap (λ (xs : List BranchEdge). xs ++ (record { target = c.target.result; forwards = c.forwards.result.now }) ∷ []) c.loop-index.invariant
    ∙ (append_assoc c.args.self.now (take i es) ((record { target = c.target.result; forwards = c.forwards.result.now }) ∷ [])
    ∙ (ap (λ (e : BranchEdge). c.args.self.now ++ (take i es ++ e ∷ [])) same
    ∙ ap (λ (xs : List BranchEdge). c.args.self.now ++ xs) (sym (take_one_more es i no_edge (search rules))))))
