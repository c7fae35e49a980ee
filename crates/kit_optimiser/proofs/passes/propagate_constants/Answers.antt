use Rattle.std.proofs.Common.{◌≡◌, Err, ap, ◌∙◌, subst}
use Rattle.ir_base.specs.declared.growth.GrowError.TheVariants.{CounterFull}
use Rattle.ir_program.specs.Program.{Program}
use Rattle.ir_trees.specs.Stands.{StandsFor}
use Rattle.kit.specs.Context.{KitTree}
use Rattle.kit.specs.Meaning.{KitOperation, KitBlock}
use Rattle.kit_optimiser.proofs.Refusals.{only_short, full_of}
use Rattle.kit_optimiser.proofs.WhatPassesLeave.{IsLeft, live, propagated}
use Rattle.kit_optimiser.proofs.passes.propagate_constants.Goals as goal

pub know_handles_and_types-requires-in-Ok : goal.know_handles_and_types-requires-in-Ok
know_handles_and_types-requires-in-Ok c =
    let old = c.args.ctx.now in
    let new = c.sccp.new.ctx in
    let root = c.args.root in
    let t : (t : KitTree) × StandsFor old.program root t =
    subst (λ (p : Program KitOperation KitBlock). (t : KitTree) × StandsFor p root t) c.program.ensures
    c.know_tree.ensures in
    let u = c.know_propagated.ensures new.program c.in-Ok.field-0 c.in-Ok.ensures.propagates t.0 t.1 in
    live new.program root u.0 u.1

pub shortage_of-requires : goal.shortage_of-requires
shortage_of-requires c =
    let old = c.args.ctx.now in
    let root = c.args.root in
    let t : (t : KitTree) × StandsFor old.program root t =
    subst (λ (p : Program KitOperation KitBlock). (t : KitTree) × StandsFor p root t) c.program.ensures
    c.know_tree.ensures in
    only_short c.in-Err.error c.in-Err.ensures.refused
    (λ is. let l = c.sccp.ensures.lacking (c.in-Err.is ∙ ap (λ x. Err x) is) t.0 t.1 in
    c.know_determined.ensures t.0 t.1 l.facts l.best l.lacks)

pub returns-in-Ok-clause-passed : goal.returns-in-Ok-clause-passed
returns-in-Ok-clause-passed c =
    let old = c.args.ctx.now in
    let new = c.sccp.new.ctx in
    let root = c.args.root in
    let known : IsLeft old new root = record {
      tree = subst (λ (p : Program KitOperation KitBlock). (t : KitTree) × StandsFor p root t) c.program.ensures
          c.know_tree.ensures;
      types = c.in-Ok.ensures.types;
      apart = c.know_handles_and_types.ensures.apart;
      typed = c.know_handles_and_types.ensures.typed;
      typed_after = c.know_handles_and_types-in-Ok.ensures.typed;
      entered = c.sccp_stays_apart.ensures.entered new c.in-Ok.field-0 c.in-Ok.ensures.propagates c.requires.entered;
      contained = c.sccp_stays_apart.ensures.contained new c.in-Ok.field-0 c.in-Ok.ensures.propagates
          c.requires.contained;
    } in
    propagated old new root c.requires known c.sccp_keeps_rules.ensures c.sccp_stays_writable.ensures
    (c.know_propagated.ensures new.program c.in-Ok.field-0 c.in-Ok.ensures.propagates)

pub returns-in-Err-clause-full : goal.returns-in-Err-clause-full
returns-in-Err-clause-full c = λ is.
    let grown : c.shortage_of.result ≡ CounterFull = cc in
    c.sccp.ensures.full
    (c.in-Err.is ∙ ap (λ x. Err x) (full_of c.in-Err.error c.shortage_of.result c.shortage_of.ensures grown))

pub returns-in-Ok-clause-outside : goal.returns-in-Ok-clause-outside
returns-in-Ok-clause-outside c =
    (c.know_rest.ensures.propagated c.sccp.new.ctx.program c.in-Ok.field-0 c.in-Ok.ensures.propagates).kept

pub returns-in-Ok-clause-stays : goal.returns-in-Ok-clause-stays
returns-in-Ok-clause-stays c =
    (c.know_rest.ensures.propagated c.sccp.new.ctx.program c.in-Ok.field-0 c.in-Ok.ensures.propagates).stays

pub returns-in-Ok-clause-none_come : goal.returns-in-Ok-clause-none_come
returns-in-Ok-clause-none_come c =
    (c.know_rest.ensures.propagated c.sccp.new.ctx.program c.in-Ok.field-0 c.in-Ok.ensures.propagates).none_come

pub returns-in-Err-clause-outside : goal.returns-in-Err-clause-outside
returns-in-Err-clause-outside c =
    c.know_rest.ensures.propagated_in_part c.sccp.new.ctx.program c.in-Err.ensures.part
