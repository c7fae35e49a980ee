use Rattle.std.proofs.Common.{◌≡◌, ◌∙◌, Some, ap, option_map, subst, sym}
use Rattle.kit_checks.specs.World.{world_of}
use Rattle.kit_verifier.specs.Callees.{IsCallableAt, callable_of, callables_of}
use Rattle.kit_verifier.proofs.Sets.{gains_as, gains_none, on_ok}
use Rattle.kit_verifier.proofs.callees.add_callee_at.Goals as goal

pub returns-in-Some : goal.returns-in-Some
returns-in-Some c =
    let w = world_of c.args.ctx.now in
    let p = c.args.ctx.now.program in
    let q = callable_of c.in-Some.callee in
    let is : option_map callable_of c.callee_of.result ≡ Some q = ap (option_map callable_of) c.in-Some.is in
    on_ok c.add_callee.result
    (gains_as (callables_of c.args.callees.now.keys) (callables_of c.add_callee.new.callees.keys) (λ x. x ≡ q) (IsCallableAt w p c.args.node)
    (λ x same. subst (λ n. IsCallableAt w p n x) (sym c.in-Operation.is) ((c.callee_of.ensures x).0 (is ∙ ap Some (sym same))))
    (λ x h. let e : Some x ≡ Some q = sym ((c.callee_of.ensures x).1 (subst (λ n. IsCallableAt w p n x) c.in-Operation.is h)) ∙ is in cc))
    c.add_callee.ensures

pub returns-in-None : goal.returns-in-None
returns-in-None c =
    let w = world_of c.args.ctx.now in
    let p = c.args.ctx.now.program in
    gains_none (callables_of c.args.callees.now.keys) (IsCallableAt w p c.args.node)
    (λ x h. let e : option_map callable_of c.callee_of.result ≡ Some x = (c.callee_of.ensures x).1 (subst (λ n. IsCallableAt w p n x) c.in-Operation.is h) in
    let f = sym (ap (option_map callable_of) c.in-None.is) ∙ e in cc)
