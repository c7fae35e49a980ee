use Rattle.std.proofs.Common.{ℕ, ◌≡◌, ◌≤◌, false, ltb, ◌++◌, ap, ◌∙◌, sym, refl, arith, length, Some}
use Rattle.std.specs.String.{string_bytes}
use Rattle.std.specs.Str.{trim}
use Rattle.std.proofs.lemmas.Bool.Decides.{nat_tests}
use Rattle.std.proofs.lemmas.Option.{slice_get_read}
use Rattle.std.proofs.lemmas.Result.{on_ok_weaker}
use Rattle.ir_print.proofs.FormatSteps.{step_of-Choice, step_of-List}
use Rattle.text_printing.proofs.Choices.{alternative_at, no_alternative}
use Rattle.text_printing.proofs.KindsPrinted.{type_printed, attribute_printed, type_part_printed, attribute_part_printed, leaf_part_printed, no_list_printed, list_printed, no_choice_printed, choice_printed}
use Rattle.text_printing.proofs.ListOwed.{members_row}
use Rattle.text_printing.proofs.Owed.{owed_at, owed_past, separated, not_separated}
use Rattle.text_printing.proofs.ValuesOwed.{no_choice, no_list, format_word_at, format_part_at, format_none_at, format_past}
use Rattle.ir_print.specs.Formats.{step_of, steps_of}
use Rattle.text_printing.specs.Printing.{before_of}
use Rattle.text_printing.proofs.values.+values.Goals as goal
use Rattle.text_printing.proofs.values.+values.Goals.{print_list-then-not-is_first+in_ok-push_str, print_list-else-not-is_first, print_parts-in-Some+in_ok-print_gap+in_ok-print_part, print_parts-in_default-get}

past : (i n : ℕ) → false ≡ ltb i n → n ≤ i
past i n h = grind (arith, nat_tests)

pub print_type-returns : goal.print_type-returns
print_type-returns g t c =
    let d = g.D.TextDialect in
    let m = g.met.D.TextDialect in
    on_ok_weaker c.print_parts.result (λ print.
    type_printed d.says d.formats d.values c.args.ctx.now.types.keys d.type_kinds d.type_form m.nested m.says_types m.types c.args.ty c.in-Some.key.now c.type_kind-kind.result c.in_ok-parts.parts.items c.args.left (steps_of c.type_format.result.now) _ _ _
    (sym c.in-Some.ensures) (λ n us e. m.says_type_kinds c.in-Some.key.now n us e ∙ ap Some (sym c.type_kind-kind.ensures)) (c.in_ok-push_str-2.ensures.bytes ∙ ap (λ s. string_bytes c.args.out.now ++ s) c.type_name.ensures) c.type_format.ensures c.in_ok-parts.ensures
    (λ ts rest h. print ts rest (rw c.deref.ensures.value h)))
    c.print_parts.ensures

pub print_attribute-returns : goal.print_attribute-returns
print_attribute-returns g t c =
    let d = g.D.TextDialect in
    let m = g.met.D.TextDialect in
    on_ok_weaker c.print_parts.result (λ print.
    attribute_printed d.says d.formats d.values c.args.ctx.now.types.keys d.attr_kinds d.attr_form m.nested m.says_attributes m.attributes c.args.attr.now c.attr_kind-kind.result c.in_ok-parts.parts.items c.args.left (steps_of c.attr_format.result.now) _ _ _
    (λ n us e. m.says_attr_kinds c.args.attr.now n us e ∙ ap Some (sym c.attr_kind-kind.ensures)) (c.in_ok-push_str.ensures.bytes ∙ ap (λ s. string_bytes c.args.out.now ++ s) c.attr_name.ensures) c.attr_format.ensures c.in_ok-parts.ensures
    (λ ts rest h. print ts rest (rw c.deref.ensures.value h)))
    c.print_parts.ensures

pub print_parts-loop-directive-preserved-in-Literal : goal.print_parts-loop-directive-preserved-in-Literal
print_parts-loop-directive-preserved-in-Literal g t c =
    format_word_at _ _ _ _ _ c.args.parts.now _ c.args.format.now c.loop-directive.directive-index c.in-Literal.text (before_of c.args.from) (before_of c.loop-directive.before) _ _ _
    (slice_get_read c.args.format.now (length c.args.format.now) c.loop-directive.directive-index c.directive-item.result refl (omega arith) c.directive-item.is ∙ ap Some c.in-Literal.is) c.loop-directive.invariant c.in_ok-print_literal.ensures

pub print_parts-loop-directive-preserved : goal.print_parts-loop-directive-preserved
print_parts-loop-directive-preserved g t c = elim c.match-get.branch [
  | print_parts-in-Some+in_ok-print_gap+in_ok-print_part w ↦ rw (w.out-is, w.next-is, w.before-is) (
      format_part_at _ _ _ _ _ c.args.parts.now c.loop-directive.next w.in-Some.part.now c.args.format.now c.loop-directive.directive-index c.directive-item.result (before_of c.args.from) (before_of c.loop-directive.before) _ _ _ _
      (slice_get_read c.args.format.now (length c.args.format.now) c.loop-directive.directive-index c.directive-item.result refl (omega arith) c.directive-item.is)
      (slice_get_read c.args.parts.now (length c.args.parts.now) c.loop-directive.next w.in-Some.part.now refl w.in-Some.ensures.lookup.3.0 w.in-Some.ensures.lookup.1)
      c.in_default.not-Literal c.loop-directive.invariant w.in_ok-print_gap.ensures w.in_ok-print_part.ensures)
  | print_parts-in_default-get w ↦ rw (w.out-is, w.next-is, w.before-is) (
      format_none_at _ _ _ _ _ c.args.parts.now c.loop-directive.next c.args.format.now c.loop-directive.directive-index c.directive-item.result (before_of c.args.from) (before_of c.loop-directive.before) _ _
      (slice_get_read c.args.format.now (length c.args.format.now) c.loop-directive.directive-index c.directive-item.result refl (omega arith) c.directive-item.is)
      (past c.loop-directive.next (length c.args.parts.now) w.in_default-get.ensures.lookup.0) c.in_default.not-Literal c.loop-directive.invariant)
]

pub print_parts-returns : goal.print_parts-returns
print_parts-returns g t c = format_past _ _ _ _ _ c.args.parts.now _ c.args.format.now c.loop-directive.directive-index (before_of c.args.from) (before_of c.loop-directive.before) _ _ (omega arith) c.loop-directive.invariant

pub print_part-returns-in_ok-print_type-in-Type : goal.print_part-returns-in_ok-print_type-in-Type
print_part-returns-in_ok-print_type-in-Type g t c =
    type_part_printed _ _ _ c.args.left c.args.lists c.args.part.now (step_of c.args.directive) c.in-Type.ty _ _ c.in-Type.is c.in_ok-print_type-in-Type.ensures

pub print_part-returns-in_ok-print_attribute-in-Attribute : goal.print_part-returns-in_ok-print_attribute-in-Attribute
print_part-returns-in_ok-print_attribute-in-Attribute g t c =
    attribute_part_printed _ _ _ c.args.left c.args.lists c.args.part.now (step_of c.args.directive) c.in-Attribute.attr _ _ c.in-Attribute.is c.in_ok-print_attribute-in-Attribute.ensures

pub print_part-returns-in_ok-print_leaf-in-Leaf : goal.print_part-returns-in_ok-print_leaf-in-Leaf
print_part-returns-in_ok-print_leaf-in-Leaf g t c =
    leaf_part_printed _ _ _ c.args.left c.args.lists c.args.part.now (step_of c.args.directive) c.in-Leaf.leaf _ _ c.in-Leaf.is c.in_ok-print_leaf-in-Leaf.ensures

pub print_part-returns-in_ok-print_list-in-List : goal.print_part-returns-in_ok-print_list-in-List
print_part-returns-in_ok-print_list-in-List g t c =
    list_printed _ _ _ c.args.left c.args.lists c.args.part.now (step_of c.args.directive) _ _ _ c.in-List.members _ _ (omega arith) c.in-List.is
    (ap step_of c.in-List-directive.is ∙ step_of-List c.in-List-directive.member c.in-List-directive.separator)
    (λ ts rest h. c.in_ok-print_list-in-List.ensures ts rest (rw c.deref.ensures.value h))

pub print_part-returns-in_default : goal.print_part-returns-in_default
print_part-returns-in_default g t c =
    no_list_printed _ _ _ c.args.left c.args.lists c.args.part.now (step_of c.args.directive) c.in-List.members _ c.in-List.is (no_list c.args.directive c.in_default.not-List)

pub print_part-returns-in_ok-print_choice-in-Choice : goal.print_part-returns-in_ok-print_choice-in-Choice
print_part-returns-in_ok-print_choice-in-Choice g t c =
    choice_printed _ _ _ c.args.left c.args.lists c.args.part.now (step_of c.args.directive) _ c.in-Choice.number c.in-Choice.parts _ _ (omega arith) c.in-Choice.is
    (ap step_of c.in-Choice-directive.is ∙ step_of-Choice c.in-Choice-directive.alternatives)
    (λ ts rest h. c.in_ok-print_choice-in-Choice.ensures ts rest (rw c.deref-then-lists-gt0-2.ensures.value h))

pub print_part-returns-in_default-directive : goal.print_part-returns-in_default-directive
print_part-returns-in_default-directive g t c =
    no_choice_printed _ _ _ c.args.left c.args.lists c.args.part.now (step_of c.args.directive) c.in-Choice.number c.in-Choice.parts _ c.in-Choice.is (no_choice c.args.directive c.in_default-directive.not-Choice)

pub print_choice-returns-in-Some : goal.print_choice-returns-in-Some
print_choice-returns-in-Some g t c =
    let at = alternative_at c.args.alternatives.now c.args.number c.in-Some.format.now (slice_get_read c.args.alternatives.now (length c.args.alternatives.now) c.args.number c.in-Some.format.now refl c.in-Some.ensures.lookup.3.0 c.in-Some.ensures.lookup.1) in
    on_ok_weaker c.print_parts.result (λ print ts rest h k r. rw at (print ts rest h k r)) c.print_parts.ensures

pub print_choice-returns-in-None : goal.print_choice-returns-in-None
print_choice-returns-in-None g t c ts rest h k r = rw (no_alternative c.args.alternatives.now c.args.number (past c.args.number (length c.args.alternatives.now) c.in-None.ensures.lookup.0)) refl

pub print_list-loop-parts-preserved : goal.print_list-loop-parts-preserved
print_list-loop-parts-preserved g t c =
    let d = g.D.TextDialect in
    owed_at (members_row d.says c.args.ctx.now.types.keys c.args.left c.args.lists d.formats (steps_of c.args.member.now) c.args.separator.now (trim c.args.separator.now))
    c.parts-item.result c.args.members.now c.args.members.now c.loop-parts.parts-index c.loop-parts.is_first (string_bytes c.args.out.now) (string_bytes c.loop-parts.out) _ _
    (slice_get_read c.args.members.now (length c.args.members.now) c.loop-parts.parts-index c.parts-item.result refl (omega arith) c.parts-item.is) c.loop-parts.invariant
    (elim c.if-not-is_first.branch [
      | print_list-then-not-is_first+in_ok-push_str w ↦ separated _ c.loop-parts.is_first _ _ w.if-not-is_first.true (ap string_bytes w.out-is ∙ w.in_ok-push_str.ensures.bytes)
      | print_list-else-not-is_first w ↦ not_separated _ c.loop-parts.is_first _ _ w.if-not-is_first.false (ap string_bytes w.out-is)
    ])
    (λ ts rest h. c.in_ok-print_parts.ensures ts rest (rw c.deref.ensures.value h.shown) h.flat h.readable)

pub print_list-returns : goal.print_list-returns
print_list-returns g t c ts rest h k r =
    let d = g.D.TextDialect in
    owed_past (members_row d.says c.args.ctx.now.types.keys c.args.left c.args.lists d.formats (steps_of c.args.member.now) c.args.separator.now (trim c.args.separator.now))
    c.args.members.now c.args.members.now c.loop-parts.parts-index c.loop-parts.is_first (string_bytes c.args.out.now) (string_bytes c.loop-parts.out) (omega arith) c.loop-parts.invariant ts rest (record { shown = h; flat = k; readable = r })
