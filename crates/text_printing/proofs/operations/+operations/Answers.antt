use Rattle.std.proofs.Common.{rules, ℕ, ◌≡◌, ◌≤◌, ◌+◌, [], true, false, ltb, ap, ◌∙◌, refl, arith, length, Some}
use Rattle.std.specs.Prelude.{IsSome}
use Rattle.std.specs.String.{string_bytes}
use Rattle.std.proofs.lemmas.Bool.Decides.{nat_tests}
use Rattle.std.proofs.lemmas.Result.{IfOk-weaker, on_ok_weaker}
use Rattle.std.proofs.lemmas.Option.{slice_get_read}
use Rattle.ir_program.specs.Lists.{StandsInBlock, StandsInRegion, blocks_in, operations_in, regions_in}
use Rattle.ir_program.specs.Program.{operation_at, block_at, results_at, arguments_at}
use Rattle.ir_program.specs.Rows.{operands_at, successors_at}
use Rattle.ir_print.specs.Formats.{step_of, steps_of}
use Rattle.text_dialect.specs.Seen.{seen}
use Rattle.text_printing.specs.declared.words.Before.TheVariants.{Literal}
use Rattle.text_printing.proofs.EntitiesPrinted.{operation_printed, region_lines, block_lines}
use Rattle.text_printing.proofs.OperationOwed.{operation_start, operation_past, operation_word_at, operation_part_at, operation_none_at}
use Rattle.text_printing.proofs.OpsPrinted.{no_region_printed, region_printed}
use Rattle.text_printing.proofs.Owed.{not_separated}
use Rattle.text_printing.proofs.Read.{operation_read, region_read, block_read}
use Rattle.text_printing.proofs.RowsOwed.{Each, ShallowBlock, ShallowOperation, blocks_left, operations_left, blocks_row, operations_row, block_lined, operation_next}
use Rattle.text_printing.proofs.Walked.{any_walked, walk_start, walk_holds, walk_next, walk_end}
use Rattle.text_printing.proofs.operations.+operations.Goals as goal
use Rattle.text_printing.proofs.operations.+operations.Goals.{print_operation_parts-in-Some+in_ok-progress, print_operation_parts-in_default-get}

-- ---- blocks

pub print_block-loop-op-init : goal.print_block-loop-op-init
print_block-loop-op-init g t c =
    walk_start (λ op. StandsInBlock c.args.ctx.now.program op c.args.block)
    (Each (ShallowOperation g.D.TextDialect.says (seen c.args.ctx.now) g.D.TextDialect.formats (c.args.indent + 2) c.args.left))
    (operations_left g.D.TextDialect.says (seen c.args.ctx.now) g.D.TextDialect.formats (c.args.indent + 2) c.args.left)
    (operations_in c.args.ctx.now.program c.args.block) c.into_iter-op-iterator.result _
    (c.into_iter-op-iterator.ensures.into_iter_gives ∙ c.iter-op-items.ensures.list) c.iter-op-items.ensures.stand

pub print_block-print_operation-requires : goal.print_block-print_operation-requires
print_block-print_operation-requires g t c κs within =
    let live : IsSome (operation_at c.args.ctx.now.program c.in-Some.op) =
    (walk_holds (λ op. StandsInBlock c.args.ctx.now.program op c.args.block)
    (operations_row g.D.TextDialect.says (seen c.args.ctx.now) g.D.TextDialect.formats (c.args.indent + 2) c.args.left)
    (operations_in c.args.ctx.now.program c.args.block) c.loop-op.op-iterator c.loop-op.is_first _ _ c.loop-op.invariant
    c.in-Some.op c.next.new.self c.in-Some.ensures.steps).operation in
    search (rules, live)

pub print_block-loop-op-preserved : goal.print_block-loop-op-preserved
print_block-loop-op-preserved g t c =
    walk_next (λ op. StandsInBlock c.args.ctx.now.program op c.args.block)
    (operations_row g.D.TextDialect.says (seen c.args.ctx.now) g.D.TextDialect.formats (c.args.indent + 2) c.args.left)
    (operations_in c.args.ctx.now.program c.args.block) c.loop-op.op-iterator c.loop-op.is_first
    (string_bytes c.print_block_head.new.out) (string_bytes c.loop-op.out) c.loop-op.invariant c.in-Some.op c.next.new.self _ _
    c.in-Some.ensures.steps refl
    (operation_next g.D.TextDialect.says (seen c.args.ctx.now) g.D.TextDialect.formats (c.args.indent + 2) c.args.left
    c.loop-op.is_first c.in-Some.op _ _ _ c.in_ok-print_next_line.ensures c.in_ok-print_operation.ensures)

pub print_block-returns : goal.print_block-returns
print_block-returns g t c =
    block_lines g.D.TextDialect.says g.D.TextDialect.formats (seen c.args.ctx.now) c.args.indent c.args.left c.args.block
    (arguments_at c.args.ctx.now.program c.args.block) (operations_in c.args.ctx.now.program c.args.block)
    (block_read c.args.ctx.now c.args.block) _ _ _ c.in_ok-print_block_head.ensures
    (walk_end (λ op. StandsInBlock c.args.ctx.now.program op c.args.block)
    (operations_row g.D.TextDialect.says (seen c.args.ctx.now) g.D.TextDialect.formats (c.args.indent + 2) c.args.left)
    (operations_in c.args.ctx.now.program c.args.block) c.loop-op.op-iterator c.loop-op.is_first
    (string_bytes c.print_block_head.new.out) (string_bytes c.loop-op.out) c.loop-op.invariant c.in-None.ensures.steps.0)

-- ---- regions

pub print_region-loop-block-init : goal.print_region-loop-block-init
print_region-loop-block-init g t c =
    walk_start (λ block. StandsInRegion c.args.ctx.now.program block c.args.region)
    (Each (ShallowBlock g.D.TextDialect.says (seen c.args.ctx.now) g.D.TextDialect.formats (c.args.indent + 2) c.args.left))
    (blocks_left g.D.TextDialect.says (seen c.args.ctx.now) g.D.TextDialect.formats (c.args.indent + 2) c.args.left)
    (blocks_in c.args.ctx.now.program c.args.region) c.into_iter-block-iterator.result _
    (c.into_iter-block-iterator.ensures.into_iter_gives ∙ c.iter-block-items.ensures.list) c.iter-block-items.ensures.stand

pub print_region-print_block-requires : goal.print_region-print_block-requires
print_region-print_block-requires g t c κs within =
    let live : IsSome (block_at c.args.ctx.now.program c.in-Some.block) =
    (walk_holds (λ block. StandsInRegion c.args.ctx.now.program block c.args.region)
    (blocks_row g.D.TextDialect.says (seen c.args.ctx.now) g.D.TextDialect.formats (c.args.indent + 2) c.args.left)
    (blocks_in c.args.ctx.now.program c.args.region) c.loop-block.block-iterator true _ _ c.loop-block.invariant
    c.in-Some.block c.next.new.self c.in-Some.ensures.steps).block in
    search (rules, live)

pub print_region-loop-block-preserved : goal.print_region-loop-block-preserved
print_region-loop-block-preserved g t c =
    any_walked g.D.TextDialect.says g.D.TextDialect.formats (seen c.args.ctx.now) (c.args.indent + 2) c.args.left
    (λ block. StandsInRegion c.args.ctx.now.program block c.args.region) false
    (walk_next (λ block. StandsInRegion c.args.ctx.now.program block c.args.region)
    (blocks_row g.D.TextDialect.says (seen c.args.ctx.now) g.D.TextDialect.formats (c.args.indent + 2) c.args.left)
    (blocks_in c.args.ctx.now.program c.args.region) c.loop-block.block-iterator true (string_bytes c.print_sign_line.new.out)
    (string_bytes c.loop-block.out) c.loop-block.invariant c.in-Some.block c.next.new.self _ _ c.in-Some.ensures.steps
    (not_separated [] true (string_bytes c.loop-block.out) _ refl refl)
    (block_lined g.D.TextDialect.says (seen c.args.ctx.now) g.D.TextDialect.formats (c.args.indent + 2) c.args.left c.in-Some.block _ _ _
    c.in_ok-print_line.ensures c.in_ok-print_block.ensures))

pub print_region-returns : goal.print_region-returns
print_region-returns g t c =
    on_ok_weaker c.print_sign_line-2.result (
    region_lines g.D.TextDialect.says g.D.TextDialect.formats (seen c.args.ctx.now) c.args.indent c.args.left c.args.region
    (blocks_in c.args.ctx.now.program c.args.region) (region_read c.args.ctx.now c.args.region) _ _ _ _ c.in_ok-print_sign_line.ensures
    (walk_end (λ block. StandsInRegion c.args.ctx.now.program block c.args.region)
    (blocks_row g.D.TextDialect.says (seen c.args.ctx.now) g.D.TextDialect.formats (c.args.indent + 2) c.args.left)
    (blocks_in c.args.ctx.now.program c.args.region) c.loop-block.block-iterator true (string_bytes c.print_sign_line.new.out)
    (string_bytes c.loop-block.out) c.loop-block.invariant c.in-None.ensures.steps.0)
    )
    c.print_sign_line-2.ensures

-- ---- operations

pub print_operation-returns : goal.print_operation-returns
print_operation-returns g t c =
    let d = g.D.TextDialect in
    let m = g.met.D.TextDialect in
    on_ok_weaker c.print_operation_parts.result (λ print.
    operation_printed d.says d.formats (seen c.args.ctx.now) c.args.indent c.args.left d.values c.args.op d.kind_at d.op_kind m.nested
    m.says_operations m.operations m.says_kinds c.kind-kind.result (results_at c.args.ctx.now.program c.args.op)
    (operands_at c.args.ctx.now.program c.args.op) (successors_at c.args.ctx.now.program c.args.op)
    (regions_in c.args.ctx.now.program c.args.op)
    (operation_read c.args.ctx.now c.args.op c.kind-kind.result c.kind-kind.ensures) c.in_ok-parts.parts.items
    (steps_of c.op_format.result.now) _ _ _ c.in_ok-print_operation_head.ensures c.op_format.ensures c.in_ok-parts.ensures
    (λ ts us ls es rest h. print ts us ls es rest (rw c.deref.ensures.value h)))
    c.print_operation_parts.ensures

-- ---- formats of operations

pub print_operation_parts-loop-directive-init : goal.print_operation_parts-loop-directive-init
print_operation_parts-loop-directive-init g t c =
    operation_start g.D.TextDialect.says g.D.TextDialect.formats (seen c.args.ctx.now)
    (operands_at c.args.ctx.now.program c.args.op) (successors_at c.args.ctx.now.program c.args.op)
    (regions_in c.args.ctx.now.program c.args.op) c.args.indent c.args.left
    c.args.parts.now c.args.format.now _ _ refl refl refl refl

pub print_operation_parts-returns : goal.print_operation_parts-returns
print_operation_parts-returns g t c =
    operation_past g.D.TextDialect.says g.D.TextDialect.formats (seen c.args.ctx.now)
    (operands_at c.args.ctx.now.program c.args.op) (successors_at c.args.ctx.now.program c.args.op)
    (regions_in c.args.ctx.now.program c.args.op) c.args.indent c.args.left
    c.args.parts.now _ c.args.format.now c.loop-directive.directive-index c.loop-directive.progress
    (string_bytes c.args.out.now) (string_bytes c.loop-directive.out) (omega arith) c.loop-directive.invariant

past : (i n : ℕ) → false ≡ ltb i n → n ≤ i
past i n h = grind (arith, nat_tests)

pub print_operation_parts-loop-directive-preserved-in-Literal : goal.print_operation_parts-loop-directive-preserved-in-Literal
print_operation_parts-loop-directive-preserved-in-Literal g t c =
    let ds = c.args.format.now in
    operation_word_at _ _ _ _ _ _ _ _ c.args.parts.now _ ds c.loop-directive.directive-index c.in-Literal.text c.loop-directive.progress (record c.loop-directive.progress { before = Literal }) _ _ _
    (slice_get_read ds (length ds) c.loop-directive.directive-index c.directive-item.result refl (omega arith) c.directive-item.is ∙ ap Some c.in-Literal.is) c.loop-directive.invariant refl refl refl refl c.in_ok-print_literal.ensures

pub print_operation_parts-loop-directive-preserved : goal.print_operation_parts-loop-directive-preserved
print_operation_parts-loop-directive-preserved g t c =
    let ds = c.args.format.now in
    let ps = c.args.parts.now in
    elim c.match-get.branch [
      | print_operation_parts-in-Some+in_ok-progress w ↦ rw (w.out-is, w.next-is, w.progress-is) (
          operation_part_at _ _ _ _ _ _ _ _ ps c.loop-directive.next w.in-Some.part.now ds c.loop-directive.directive-index c.directive-item.result c.loop-directive.progress _ _ _ _
          (slice_get_read ds (length ds) c.loop-directive.directive-index c.directive-item.result refl (omega arith) c.directive-item.is)
          (slice_get_read ps (length ps) c.loop-directive.next w.in-Some.part.now refl w.in-Some.ensures.lookup.3.0 w.in-Some.ensures.lookup.1)
          c.in_default.not-Literal c.loop-directive.invariant w.in_ok-progress.ensures)
      | print_operation_parts-in_default-get w ↦ rw (w.out-is, w.next-is, w.progress-is) (
          operation_none_at _ _ _ _ _ _ _ _ ps c.loop-directive.next ds c.loop-directive.directive-index c.directive-item.result c.loop-directive.progress _ _
          (slice_get_read ds (length ds) c.loop-directive.directive-index c.directive-item.result refl (omega arith) c.directive-item.is)
          (past c.loop-directive.next (length ps) w.in_default-get.ensures.lookup.0) c.in_default.not-Literal c.loop-directive.invariant)
    ]

-- ---- parts of operations

pub print_operation_part-returns-in_default-next_region : goal.print_operation_part-returns-in_default-next_region
print_operation_part-returns-in_default-next_region g t c =
    let b = c.behind_part.ensures in
    no_region_printed g.D.TextDialect.says g.D.TextDialect.formats (seen c.args.ctx.now)
    (operands_at c.args.ctx.now.program c.args.op) (successors_at c.args.ctx.now.program c.args.op)
    (regions_in c.args.ctx.now.program c.args.op) (step_of c.args.directive)
    c.args.part.now c.args.indent c.args.left c.args.progress c.behind_part.result _ _ c.in-Region.is
    c.in_default-next_region.ensures.region b.before b.operands b.successors b.regions c.in_ok-print_gap.ensures

pub print_operation_part-returns-in-Region : goal.print_operation_part-returns-in-Region
print_operation_part-returns-in-Region g t c =
    let b = c.behind_part-in-Region.ensures in
    region_printed g.D.TextDialect.says g.D.TextDialect.formats (seen c.args.ctx.now)
    (operands_at c.args.ctx.now.program c.args.op) (successors_at c.args.ctx.now.program c.args.op)
    (regions_in c.args.ctx.now.program c.args.op) (step_of c.args.directive)
    c.args.part.now c.args.indent c.args.left c.args.progress c.behind_part-in-Region.result c.in-Some.region _ _ _
    c.in-Region.is c.in-Some.ensures.deep c.in-Some.ensures.region b.before b.operands b.successors b.regions c.in_ok-print_gap.ensures
    c.in_ok-print_region.ensures

pub print_operation_part-returns : goal.print_operation_part-returns
print_operation_part-returns g t c =
    IfOk-weaker c.print_flat_part.result _ _ (λ after printed. printed c.args.indent) c.print_flat_part.ensures
