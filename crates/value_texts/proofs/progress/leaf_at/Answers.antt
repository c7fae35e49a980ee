use Rattle.std.proofs.Common.{sym, ◌∙◌}
use Rattle.ir_format_checks.specs.Decided.{leaf_class}
use Rattle.value_texts.proofs.Columns.{not_taken}
use Rattle.value_texts.proofs.progress.leaf_at.Goals as goal

pub returns-then-not-is_leaf : goal.returns-then-not-is_leaf
returns-then-not-is_leaf c =
    let lexeme = rw c.in-Some.is at c.in_ok-token.ensures in
    not_taken c.args.at c.in-Some.token lexeme (leaf_class c.args.sort) (sym c.is_leaf.ensures ∙ c.if-not-is_leaf.true)
