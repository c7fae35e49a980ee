use Rattle.std.proofs.Common.{rules, map, ap, ◌∙◌}
use Rattle.opt_rows.specs.LinkedRows.{items_from}
use Rattle.opt_rows.proofs.Linking.{none_linked, no_items}
use Rattle.opt_rows.proofs.linked_rows.LinkedRows.with_capacity.Goals as goal

pub invariant_of-result : goal.invariant_of-result
invariant_of-result g c = none_linked c.in_ok-with_capacity.field-0.items c.in_ok-vec.field-0.items c.args.rows c.in_ok-with_capacity.ensures.items (search rules)

pub returns : goal.returns
returns g c = ap (map (items_from c.in_ok-with_capacity.field-0.items)) (search rules) ∙ no_items _ c.args.rows
