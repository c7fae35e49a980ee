use Rattle.outline_values.proofs.values.read_given_names.Goals as goal

pub returns : goal.returns
returns c = record { token = c.args.id.now; next = c.requires.next; is_id = c.requires.is_id; holds = c.in_ok-end.ensures.says }
