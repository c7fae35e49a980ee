use Rattle.std.proofs.Common.{Bool, List, refl, sym, subst}
use Rattle.ir_program.specs.Rows.{successors_at}
use Rattle.ir_program.specs.declared.handles.Use.{Use}
use Rattle.ir_program.specs.declared.handles.Ptr.{Ptr}
use Rattle.ir_program.specs.declared.handles.BasicBlock.{BasicBlock}
use Rattle.ir_context.specs.Chosen.{MaySay}
use Rattle.ir_context.proofs.ChosenPlaces.{IsChoosing, choosing-none, choosing-taken, choosing-among, choosing-chooses, says-called}
use Rattle.ir_context.proofs.uses.choose_edges.Goals as goal

pub loop-place-init : goal.loop-place-init
loop-place-init g c =
    let answers : Use (Ptr BasicBlock) → Bool → Type 0 = λ u. MaySay {F = g.row.F.Denot} {U = Use (Ptr BasicBlock)} g.F.Fn c.args.predicate.now u in (
      tt,
      tt,
      subst (λ (rest : List (Use (Ptr BasicBlock))). IsChoosing (successors_at c.args.program.now) c.args.used answers rest c.new-chosen.result.items) (sym c.into_iter-place-iterator.ensures.into_iter_gives)
          (subst (λ (chosen : List (Use (Ptr BasicBlock))). IsChoosing (successors_at c.args.program.now) c.args.used answers c.block_uses-place-items.result chosen) (sym c.new-chosen.ensures.items)
          (choosing-none (successors_at c.args.program.now) c.args.used answers c.block_uses-place-items.result c.block_uses-place-items.ensures.uses)),
    )

pub loop-place-preserved-in-Continue-1 : goal.loop-place-preserved-in-Continue-1
loop-place-preserved-in-Continue-1 g c =
    let answers : Use (Ptr BasicBlock) → Bool → Type 0 = λ u. MaySay {F = g.row.F.Denot} {U = Use (Ptr BasicBlock)} g.F.Fn c.args.predicate.now u in
    let so_far = subst (λ (rest : List (Use (Ptr BasicBlock))). IsChoosing (successors_at c.args.program.now) c.args.used answers rest c.loop-place.chosen.items) c.in-Some.ensures.steps c.loop-place.invariant.2 in (
      tt,
      tt,
      subst (λ (chosen : List (Use (Ptr BasicBlock))). IsChoosing (successors_at c.args.program.now) c.args.used answers c.next.new.self chosen) (sym c.in_ok-push.ensures.items)
          (choosing-taken (successors_at c.args.program.now) c.args.used answers c.in-Some.place c.next.new.self c.loop-place.chosen.items so_far
          (says-called g.F.Fn c.in-Some.place c.predicate.ensures c.if-predicate.true refl)),
    )

pub returns-clause-stand : goal.returns-clause-stand
returns-clause-stand g c =
    let answers : Use (Ptr BasicBlock) → Bool → Type 0 = λ u. MaySay {F = g.row.F.Denot} {U = Use (Ptr BasicBlock)} g.F.Fn c.args.predicate.now u in
    choosing-among (successors_at c.args.program.now) c.args.used answers c.loop-place.chosen.items
    (subst (λ (rest : List (Use (Ptr BasicBlock))). IsChoosing (successors_at c.args.program.now) c.args.used answers rest c.loop-place.chosen.items) c.in-None.ensures.steps.0 c.loop-place.invariant.2)

pub returns-clause-chosen : goal.returns-clause-chosen
returns-clause-chosen g c =
    let answers : Use (Ptr BasicBlock) → Bool → Type 0 = λ u. MaySay {F = g.row.F.Denot} {U = Use (Ptr BasicBlock)} g.F.Fn c.args.predicate.now u in
    choosing-chooses (successors_at c.args.program.now) c.args.used answers c.loop-place.chosen.items
    (subst (λ (rest : List (Use (Ptr BasicBlock))). IsChoosing (successors_at c.args.program.now) c.args.used answers rest c.loop-place.chosen.items) c.in-None.ensures.steps.0 c.loop-place.invariant.2)
