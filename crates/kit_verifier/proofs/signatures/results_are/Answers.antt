use Rattle.std.proofs.Common.{arith, ◌≡◌, ◌∙◌, ◌<◌, Some, get_or, length, map, slice_get, ap, sym, true≢false}
use Rattle.std.proofs.lemmas.List.{length-map}
use Rattle.std.proofs.lemmas.Option.{slice_get-get_or, slice_get-map}
use Rattle.ir_base.specs.declared.types.TypeHandle.{TypeHandle}
use Rattle.ir_program.specs.Program.{TypedValue, results_at}
use Rattle.kit_checks.specs.Words.{types_of}
use Rattle.kit_checks.proofs.Trees.{result_types}
use Rattle.kit_verifier.proofs.Typed.{agree_more, agree_none, all_agree, other_member}
use Rattle.kit_verifier.proofs.signatures.results_are.Goals as goal

pub loop-index-init : goal.loop-index-init
loop-index-init c = agree_none (map (λ (t : TypedValue). t.ty) (results_at c.args.ctx.now.program c.args.op)) c.args.types.now

pub loop-index-preserved : goal.loop-index-preserved
loop-index-preserved c =
    let none : TypeHandle = record { number = 0 } in
    let within : c.loop-index.index < length c.args.types.now = omega arith in
    agree_more (map (λ (t : TypedValue). t.ty) (results_at c.args.ctx.now.program c.args.op)) c.args.types.now c.loop-index.index
    (slice_get-map (λ (t : TypedValue). t.ty) (results_at c.args.ctx.now.program c.args.op) c.loop-index.index ∙ c.get_type.ensures
    ∙ ap Some (c.is_same.ensures.0 c.if-not-is_same.false) ∙ sym (slice_get-get_or c.args.types.now c.loop-index.index none within)) c.loop-index.invariant

pub returns-then-not-is_same : goal.returns-then-not-is_same
returns-then-not-is_same c u s =
    let none : TypeHandle = record { number = 0 } in
    let within : c.loop-index.index < length c.args.types.now = omega arith in
    let mine : slice_get (map (λ (t : TypedValue). t.ty) (results_at c.args.ctx.now.program c.args.op)) c.loop-index.index ≡ Some c.get_type.result =
    slice_get-map (λ (t : TypedValue). t.ty) (results_at c.args.ctx.now.program c.args.op) c.loop-index.index ∙ c.get_type.ensures in
    other_member (types_of u.head.results) (map (λ (t : TypedValue). t.ty) (results_at c.args.ctx.now.program c.args.op)) c.args.types.now
    (result_types c.args.ctx.now.program c.args.op u s) c.loop-index.index
    (λ same.
    let e : Some c.get_type.result ≡ Some (get_or c.args.types.now c.loop-index.index none) = sym mine ∙ same ∙ slice_get-get_or c.args.types.now c.loop-index.index none within in
    true≢false (sym (c.is_same.ensures.1 (let f : c.get_type.result ≡ get_or c.args.types.now c.loop-index.index none = cc in f)) ∙ c.if-not-is_same.true))

pub returns : goal.returns
returns c u s =
    all_agree (types_of u.head.results) (map (λ (t : TypedValue). t.ty) (results_at c.args.ctx.now.program c.args.op)) c.args.types.now
    (result_types c.args.ctx.now.program c.args.op u s)
    ((let m : length (map (λ (t : TypedValue). t.ty) (results_at c.args.ctx.now.program c.args.op)) ≡ length (results_at c.args.ctx.now.program c.args.op) = length-map (results_at c.args.ctx.now.program c.args.op) (λ (t : TypedValue). t.ty) in m)
    ∙ (let e : length (results_at c.args.ctx.now.program c.args.op) ≡ length c.args.types.now = omega arith in e))
    c.loop-index.index (let e : c.loop-index.index ≡ length c.args.types.now = omega arith in e) c.loop-index.invariant
