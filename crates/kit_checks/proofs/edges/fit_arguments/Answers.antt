use Rattle.std.proofs.Common.{arith, ◌≡◌, ◌≤◌, ◌∙◌, Some, ap, drop, length, map, option_map, refl, sym, take, true≢false}
use Rattle.std.proofs.lemmas.List.{length-drop, length-map, length-take-le}
use Rattle.std.proofs.lemmas.Option.{slice_get-map}
use Rattle.ir_program.specs.Program.{TypedValue, arguments_at, type_at}
use Rattle.ir_program.specs.Rows.{operands_at}
use Rattle.kit_checks.proofs.Rows.{agree_more, agree_all, get_run, not_at, agree_none}
use Rattle.kit_checks.proofs.edges.fit_arguments.Goals as goal

pub loop-index-preserved : goal.loop-index-preserved
loop-index-preserved c =
    let p = c.args.ctx.now.program in
    let run = get_run (operands_at p c.args.op) c.args.first c.args.count c.loop-index.index c.loop-index-test.true in
    agree_more (map (type_at p) (take c.args.count (drop c.args.first (operands_at p c.args.op)))) (map Some (map (λ (t : TypedValue). t.ty) (arguments_at p c.args.block))) c.loop-index.index
    (slice_get-map (type_at p) (take c.args.count (drop c.args.first (operands_at p c.args.op))) c.loop-index.index ∙ ap (option_map (type_at p)) run ∙ c.operand_type.ensures
    ∙ ap (λ t. Some (Some t)) (c.type_passes.ensures.0 c.if-not-type_passes.false)
    ∙ sym (slice_get-map Some (map (λ (t : TypedValue). t.ty) (arguments_at p c.args.block)) c.loop-index.index
    ∙ ap (option_map Some) (slice_get-map (λ (t : TypedValue). t.ty) (arguments_at p c.args.block) c.loop-index.index ∙ c.argument_type-ty.ensures)))
    c.loop-index.invariant

pub returns-then-not-type_passes : goal.returns-then-not-type_passes
returns-then-not-type_passes c =
    let p = c.args.ctx.now.program in
    let run = get_run (operands_at p c.args.op) c.args.first c.args.count c.loop-index.index c.loop-index-test.true in
    not_at (map (type_at p) (take c.args.count (drop c.args.first (operands_at p c.args.op)))) (map Some (map (λ (t : TypedValue). t.ty) (arguments_at p c.args.block))) c.loop-index.index
    (Some c.operand_type.result) (Some c.argument_type-ty.result)
    (slice_get-map (type_at p) (take c.args.count (drop c.args.first (operands_at p c.args.op))) c.loop-index.index ∙ ap (option_map (type_at p)) run ∙ c.operand_type.ensures)
    (slice_get-map Some (map (λ (t : TypedValue). t.ty) (arguments_at p c.args.block)) c.loop-index.index
    ∙ ap (option_map Some) (slice_get-map (λ (t : TypedValue). t.ty) (arguments_at p c.args.block) c.loop-index.index ∙ c.argument_type-ty.ensures))
    (λ same. true≢false (sym (c.type_passes.ensures.1 (let e : Some c.operand_type.result ≡ Some c.argument_type-ty.result = same in cc)) ∙ c.if-not-type_passes.true))

pub returns : goal.returns
returns c =
    let p = c.args.ctx.now.program in
    let within : c.args.count ≤ length (drop c.args.first (operands_at p c.args.op)) = let d = length-drop c.args.first (operands_at p c.args.op) in let w = c.requires.within in omega arith in
    let left : length (map (type_at p) (take c.args.count (drop c.args.first (operands_at p c.args.op)))) ≡ c.args.count =
    length-map (take c.args.count (drop c.args.first (operands_at p c.args.op))) (type_at p) ∙ length-take-le c.args.count (drop c.args.first (operands_at p c.args.op)) within in
    let types : length (map (λ (t : TypedValue). t.ty) (arguments_at p c.args.block)) ≡ length (arguments_at p c.args.block) = length-map (arguments_at p c.args.block) (λ (t : TypedValue). t.ty) in
    let right : length (map Some (map (λ (t : TypedValue). t.ty) (arguments_at p c.args.block))) ≡ c.argument_count.result =
    length-map (map (λ (t : TypedValue). t.ty) (arguments_at p c.args.block)) Some ∙ types ∙ sym c.argument_count.ensures in
    let same : c.argument_count.result ≡ c.args.count = omega arith in (
      λ h. agree_all (map (type_at p) (take c.args.count (drop c.args.first (operands_at p c.args.op)))) (map Some (map (λ (t : TypedValue). t.ty) (arguments_at p c.args.block))) c.loop-index.index
          (left ∙ sym same ∙ sym right) (let end = c.loop-index-test.false in omega arith) c.loop-index.invariant,
      λ h. refl,
    )

pub loop-index-init : goal.loop-index-init
loop-index-init c = let p = c.args.ctx.now.program in agree_none (map (type_at p) (take c.args.count (drop c.args.first (operands_at p c.args.op)))) (map Some (map (λ (t : TypedValue). t.ty) (arguments_at p c.args.block)))
