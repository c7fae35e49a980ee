use Rattle.std.proofs.Common.{◌≡◌, ap, ◌∙◌, sym, arith, subst}
use Rattle.std.specs.String.{string_bytes}
use Rattle.std.specs.Prelude.{slice_get, option_map, Some}
use Rattle.ir_program.specs.Program.{TypedValue, arguments_at, argument_count, value_in, type_in}
use Rattle.text_printing.proofs.Owed.{owed_at, owed_past, separated, not_separated, found}
use Rattle.text_printing.proofs.RowsOwed.{arguments_row, argument_printed, flat_pairs}
use Rattle.text_printing.proofs.operations.print_arguments.Goals as goal
use Rattle.text_printing.proofs.operations.print_arguments.Goals.{then-not-is_first+in_ok-push_str, else-not-is_first}

pub loop-index-preserved : goal.loop-index-preserved
loop-index-preserved g c =
    let d = g.D.TextDialect in
    let types = c.args.ctx.now.types.keys in
    let ds = arguments_at c.args.ctx.now.program c.args.block in
    let i = c.loop-index.index in
    let at : value_in ds i ≡ Some c.argument.result =
    subst (λ p. value_in (arguments_at p c.args.block) i ≡ Some c.argument.result) c.program-program.ensures c.argument.ensures.value in
    let ty : type_in ds i ≡ Some c.argument_type.result =
    subst (λ p. type_in (arguments_at p c.args.block) i ≡ Some c.argument_type.result) c.program-program.ensures c.argument_type.ensures in
    let w = found (λ (t : TypedValue). t.value) (slice_get ds i) c.argument.result at in
    let et : Some w.0.ty ≡ Some c.argument_type.result = sym (ap (option_map (λ t. t.ty)) w.1) ∙ ty in
    owed_at (arguments_row d.says types d.formats c.args.left) w.0 ds ds i c.loop-index.is_first (string_bytes c.args.out.now)
    (string_bytes c.loop-index.out) _ _ w.1 c.loop-index.invariant
    (elim c.if-not-is_first.branch [
      | then-not-is_first+in_ok-push_str w ↦ separated _ c.loop-index.is_first _ _ w.if-not-is_first.true (ap string_bytes w.out-is ∙ w.in_ok-push_str.ensures.bytes)
      | else-not-is_first w ↦ not_separated _ c.loop-index.is_first _ _ w.if-not-is_first.false (ap string_bytes w.out-is)
    ])
    (argument_printed d.says types d.formats c.args.left w.0 _ _ _ _ _ _ w.2 (cc et) c.in_ok-print_value.ensures
    c.in_ok-push_str-2.ensures.bytes c.in_ok-print_type.ensures)

pub returns : goal.returns
returns g c xs rest h k =
    let d = g.D.TextDialect in
    let types = c.args.ctx.now.types.keys in
    let ds = arguments_at c.args.ctx.now.program c.args.block in
    let count = c.argument_count-index-end.ensures ∙ ap (λ p. argument_count p c.args.block) c.program-program.ensures in
    owed_past (arguments_row d.says types d.formats c.args.left) ds ds c.loop-index.index c.loop-index.is_first
    (string_bytes c.args.out.now) (string_bytes c.loop-index.out) (omega (arith, count)) c.loop-index.invariant xs rest
    (flat_pairs d.says types d.formats c.args.left ds xs h k)
