use Rattle.std.proofs.Common.{◌∙◌, sym, ap, ℕ, List, arith, nat_eq, slice_get}
use Rattle.kit_flat.specs.Machine.{bind_all}
use Rattle.kit_flat.specs.View.{numbers_of}
use Rattle.kit_flat.proofs.Places.{arguments_at, arguments_none, got, past}
use Rattle.kit_flat.proofs.interpreter.bind_arguments.Goals as goal

pub returns-in-Some-clause-bound : goal.returns-in-Some-clause-bound
returns-in-Some-clause-bound c =
    let h = c.in-Some.ensures.lookup in
    let t = arguments_at (slice_get c.args.function.now.blocks.items c.args.target) c.in-Some.block.now
    (got c.deref.result.now _ c.args.target c.in-Some.block.now c.deref.ensures.value (omega arith) h.1) in
    c.bind_list.ensures.numbers
    ∙ ap (λ (l : List ℕ). bind_all nat_eq (numbers_of c.args.values.now.items) l c.args.numbers.now)
    (c.as_slice.ensures.value ∙ sym t)

pub returns-in_default-clause-bound : goal.returns-in_default-clause-bound
returns-in_default-clause-bound c =
    let h = c.in_default.ensures.lookup in
    let t = arguments_none (slice_get c.args.function.now.blocks.items c.args.target)
    (past c.deref.result.now _ c.args.target c.deref.ensures.value h.3) in
    sym (ap (λ (l : List ℕ). bind_all nat_eq (numbers_of c.args.values.now.items) l c.args.numbers.now) t)
