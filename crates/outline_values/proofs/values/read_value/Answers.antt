use Rattle.outline_values.specs.Values.{names_id, note_id, origin_id}
use Rattle.outline_values.proofs.Ids.{is_spelled, not_spelled}
use Rattle.outline_values.proofs.values.read_value.Goals as goal

pub read_given_names-requires-clause-is_id : goal.read_given_names-requires-clause-is_id
read_given_names-requires-clause-is_id c = is_spelled names_id c.args.id.now.text.items _ c.is_spelled.ensures c.if-is_spelled.true

pub read_note-requires-clause-is_id : goal.read_note-requires-clause-is_id
read_note-requires-clause-is_id c = is_spelled note_id c.args.id.now.text.items _ c.is_spelled-2.ensures c.if-is_spelled-2.true

pub read_origin-requires-clause-is_id : goal.read_origin-requires-clause-is_id
read_origin-requires-clause-is_id c = is_spelled origin_id c.args.id.now.text.items _ c.is_spelled-3.ensures c.if-is_spelled-3.true

pub returns : goal.returns
returns c = record {
  token = c.args.id.now;
  next = c.requires;
  no_names = not_spelled names_id c.args.id.now.text.items _ c.is_spelled.ensures c.if-is_spelled.false;
  no_note = not_spelled note_id c.args.id.now.text.items _ c.is_spelled-2.ensures c.if-is_spelled-2.false;
  no_origin = not_spelled origin_id c.args.id.now.text.items _ c.is_spelled-3.ensures c.if-is_spelled-3.false;
  goes = c.in_ok-end.ensures;
}
