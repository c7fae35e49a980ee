use Rattle.std.proofs.Common.{inl, inr}
use Rattle.text_locations.proofs.ReadingLemmas.{exit}
use Rattle.text_outlines.proofs.OutlineLemmas.{no_less}
use Rattle.outline_tables.specs.Tables.{section_of}
use Rattle.text_outlines.proofs.OutlineLemmas.{at_none, at_some, item_more, items_end, less_than, no_items}
use Rattle.text_outlines.proofs.sections.read_entries.Goals as goal

pub entries-init : goal.entries-init
entries-init g c = no_items g.F.FnMut (c.args.attribute.now, c.args.stream.now) (section_of c.new-table.result) c.new-table.ensures

pub returns-in_default : goal.returns-in_default
returns-in_default g c =
    let absent = at_none _ _ c.in_ok-mark.field-0 c.in_default.is c.in_ok-mark.ensures in
    items_end g.F.FnMut (c.args.attribute.now, c.args.stream.now) (section_of c.entries.table, (c.entries.attribute, c.entries.stream))
    c.next_mark.new.stream c.entries.invariant absent.0 absent.1

pub entries-preserved : goal.entries-preserved
entries-preserved g c =
    item_more g.F.FnMut (c.args.attribute.now, c.args.stream.now) (section_of c.entries.table, (c.entries.attribute, c.entries.stream))
    c.in-Some.mark c.next_mark.new.stream c.in_ok-read_behind.ensures.0
    (section_of c.read_behind.new.table, (c.read_behind.new.attribute, c.read_behind.new.stream))
    c.entries.invariant (at_some _ _ c.in_ok-mark.field-0 c.in-Some.mark c.in-Some.is c.in_ok-mark.ensures) c.in_ok-read_behind.ensures.1
    (less_than _ _ _ c.bytes_left-left.ensures c.in_ok-needs_less.ensures)

pub returns-in_err-mark : goal.returns-in_err-mark
returns-in_err-mark g c = exit _ _ c.from_residual.result c.in_err-mark.field-0.0 c.from_residual.ensures.1
    ((section_of c.entries.table, (c.entries.attribute, c.entries.stream)), c.entries.invariant, inl c.in_err-mark.ensures)

pub returns-in_err-read_behind : goal.returns-in_err-read_behind
returns-in_err-read_behind g c = exit _ _ c.from_residual-in_err-read_behind.result c.in_err-read_behind.field-0.0 c.from_residual-in_err-read_behind.ensures.1
    ((section_of c.entries.table, (c.entries.attribute, c.entries.stream)), c.entries.invariant, inr (c.in-Some.mark, c.next_mark.new.stream, at_some _ _ c.in_ok-mark.field-0 c.in-Some.mark c.in-Some.is c.in_ok-mark.ensures, inl c.in_err-read_behind.ensures))

pub returns-in_err-needs_less : goal.returns-in_err-needs_less
returns-in_err-needs_less g c = exit _ _ c.from_residual-in_err-needs_less.result c.in_err-needs_less.field-0.0 c.from_residual-in_err-needs_less.ensures.1 (
  (section_of c.entries.table, (c.entries.attribute, c.entries.stream)),
  c.entries.invariant,
  inr (
    c.in-Some.mark,
    c.next_mark.new.stream,
    at_some _ _ c.in_ok-mark.field-0 c.in-Some.mark c.in-Some.is c.in_ok-mark.ensures,
    inr (
      c.in_ok-read_behind.ensures.0,
      (section_of c.read_behind.new.table, (c.read_behind.new.attribute, c.read_behind.new.stream)),
      c.in_ok-read_behind.ensures.1,
      c.in_err-needs_less.ensures.0,
      no_less _ _ _ c.bytes_left-left.ensures c.in_err-needs_less.ensures.1,
    ),
  ),
)
