-- Each value gets its constant, or none.
use Rattle.std.proofs.Common.{◌≡◌, ◌+◌, Some, None, take, length, slice_get, get_or, unwrap_or, sym, ap, ◌∙◌, subst, arith}
use Rattle.std.proofs.Math.Seq.{take-length}
use Rattle.ir_program.specs.Program.{no_handle}
use Rattle.ir_program.specs.declared.handles.Value.{Value}
use Rattle.ir_program.specs.declared.handles.DefiningEntity.TheVariants.{Op as ByOp}
use Rattle.opt_rows.specs.declared.known.Known.TheVariants.{Any}
use Rattle.opt_sccp.specs.Wanted.{AreMade}
use Rattle.opt_sccp.proofs.MadeLists.{element, value_skipped, value_added}
use Rattle.opt_sccp.proofs.wanted.made_constants.Goals as goal
use Rattle.opt_sccp.proofs.wanted.made_constants.Goals.{in-Some+in_ok-push, in_default}

abbrev no_value : Value
no_value = record { definer = ByOp no_handle; number = 0 }

pub constant_for-requires-clause-live : goal.constant_for-requires-clause-live
constant_for-requires-clause-live g c = c.requires.live (get_or c.as_slice-value-items.result.now c.loop-number.number no_value)
    (c.loop-number.number, element c.as_slice-value-items.result.now c.args.inside.now.values.keys c.loop-number.number no_value c.loop-number-test.true c.as_slice-value-items.ensures.keys)

pub constant_for-requires-clause-placed : goal.constant_for-requires-clause-placed
constant_for-requires-clause-placed g c = c.requires.placed (get_or c.as_slice-value-items.result.now c.loop-number.number no_value)
    (c.loop-number.number, element c.as_slice-value-items.result.now c.args.inside.now.values.keys c.loop-number.number no_value c.loop-number-test.true c.as_slice-value-items.ensures.keys)

pub loop-number-preserved : goal.loop-number-preserved
loop-number-preserved g c k h =
    let i = c.loop-number.number in
    let v = get_or c.as_slice-value-items.result.now i no_value in
    let at = element c.as_slice-value-items.result.now c.args.inside.now.values.keys i no_value c.loop-number-test.true c.as_slice-value-items.ensures.keys in
    let known : c.item_or-fact.result ≡ k.of v = c.item_or-fact.ensures ∙ ap (λ xs. unwrap_or (slice_get xs i) Any) c.deref.ensures.value ∙ ap (λ o. unwrap_or o Any) (h.value i v at) in
    elim c.match-branch-2.branch [
      | in-Some+in_ok-push w ↦ value_added g.D.Meanings.meaning c.args.program.now k c.args.inside.now.values.keys i v at c.loop-number.made.items w.push.new.self.items c.match-branch-2.made.items w.in-Some.constant (c.loop-number.invariant k h) ((c.in_ok-constant.ensures k h known w.in-Some.constant).0 w.in-Some.is) (ap (λ x. x.items) w.made-is) w.in_ok-push.ensures.items
      | in_default w ↦ subst (λ ms. AreMade g.D.Meanings.meaning c.args.program.now k (take (i + 1) c.args.inside.now.values.keys) ms) (sym (ap (λ x. x.items) w.made-is))
          (value_skipped g.D.Meanings.meaning c.args.program.now k c.args.inside.now.values.keys i v at c.loop-number.made.items (c.loop-number.invariant k h) (λ a gets. let s : None ≡ Some a = sym w.in_default.is ∙ (c.in_ok-constant.ensures k h known a).1 gets in cc))
    ]

pub returns : goal.returns
returns g c k h =
    let l = ap length c.as_slice-value-items.ensures.keys in
    let all : c.loop-number.number ≡ length c.args.inside.now.values.keys = omega arith in
    subst (λ vs. AreMade g.D.Meanings.meaning c.args.program.now k vs c.loop-number.made.items) (ap (λ n. take n c.args.inside.now.values.keys) all ∙ take-length c.args.inside.now.values.keys) (c.loop-number.invariant k h)
