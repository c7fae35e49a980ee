use Rattle.std.proofs.Common.{[], ◌∷◌, ◌++◌, cond, ◌∙◌, ap}
use Rattle.std.specs.Prelude.{is_ok}
use Rattle.ir_entities.specs.Links.{node_at}
use Rattle.ir_entities.specs.Unique.{lists_one}
use Rattle.ir_entities.proofs.Writes.{are_lists, maybe_empty, on_err_from}
use Rattle.ir_entities.proofs.siblings.Siblings.add_list.Goals as goal

pub invariant_of-self-inside : goal.invariant_of-self-inside
invariant_of-self-inside c = ((_, maybe_empty (is_ok c.push.result) (node_at c.self.inside.nodes.items) c.self.inside.ends.items c.push.new.self.items c.args.self.now.lists c.push.ensures.items (are_lists c.self.inside c.args.self.now c.self.view_is)), tt)

pub returns-in_err-push-clause-err : goal.returns-in_err-push-clause-err
returns-in_err-push-clause-err c = on_err_from c.from_residual.result (lists_one (node_at c.self.inside.nodes.items) c.push.new.self.items _ _ (assumption c)
    (maybe_empty (is_ok c.push.result) (node_at c.self.inside.nodes.items) c.self.inside.ends.items c.push.new.self.items c.args.self.now.lists c.push.ensures.items (are_lists c.self.inside c.args.self.now c.self.view_is))
    ∙ ap (λ r. cond (is_ok r) (c.args.self.now.lists ++ [] ∷ []) c.args.self.now.lists) c.in_err-push.was)

pub returns-clause-added : goal.returns-clause-added
returns-clause-added c = lists_one (node_at c.self.inside.nodes.items) c.push.new.self.items _ _ (assumption c)
    (maybe_empty (is_ok c.push.result) (node_at c.self.inside.nodes.items) c.self.inside.ends.items c.push.new.self.items c.args.self.now.lists c.push.ensures.items (are_lists c.self.inside c.args.self.now c.self.view_is))
    ∙ ap (λ r. cond (is_ok r) (c.args.self.now.lists ++ [] ∷ []) c.args.self.now.lists) c.in_ok-push.was
