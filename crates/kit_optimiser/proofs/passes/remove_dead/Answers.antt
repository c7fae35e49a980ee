use Rattle.std.proofs.Common.{inl, sym, ap, subst}
use Rattle.ir_program.specs.Program.{Program}
use Rattle.ir_trees.specs.Stands.{StandsFor}
use Rattle.kit.specs.Context.{KitTree}
use Rattle.opt_inside.specs.Occurring.{OfItsTree, DefinesAllBelow}
use Rattle.kit.specs.Meaning.{KitOperation, KitBlock}
use Rattle.kit_optimiser.specs.Outside.{KeepsRest}
use Rattle.kit_optimiser.proofs.LeftOutside.{kept_none}
use Rattle.kit_optimiser.proofs.Refusals.{memory_of}
use Rattle.kit_optimiser.proofs.WhatPassesLeave.{IsLeft, live, removed}
use Rattle.kit_optimiser.proofs.passes.remove_dead.Goals as goal

pub know_handles_and_types-requires-in-Ok : goal.know_handles_and_types-requires-in-Ok
know_handles_and_types-requires-in-Ok c =
    let old = c.args.ctx.now in
    let new = c.dce.new.ctx in
    let root = c.args.root in
    let t : (t : KitTree) × StandsFor old.program root t =
    subst (λ (p : Program KitOperation KitBlock). (t : KitTree) × StandsFor p root t) c.program.ensures
    c.know_tree.ensures in
    let made = c.in-Ok.ensures.made t.0 t.1 in
    live new.program root made.made.after made.made.stands

pub shortage_of-requires : goal.shortage_of-requires
shortage_of-requires c = inl c.in-Err.ensures.error

pub returns-in-Ok-clause-passed : goal.returns-in-Ok-clause-passed
returns-in-Ok-clause-passed c =
    let old = c.args.ctx.now in
    let new = c.dce.new.ctx in
    let root = c.args.root in
    let defined : OfItsTree old.program root (λ t. DefinesAllBelow old.program root t.regions) =
    subst (λ (p : Program KitOperation KitBlock). OfItsTree p root (λ t. DefinesAllBelow p root t.regions))
    c.program-2.ensures c.know_occurrences.ensures.defined in
    let known : IsLeft old new root = record {
      tree = subst (λ (p : Program KitOperation KitBlock). (t : KitTree) × StandsFor p root t) c.program.ensures
          c.know_tree.ensures;
      types = c.in-Ok.ensures.types;
      apart = c.know_handles_and_types.ensures.apart;
      typed = c.know_handles_and_types.ensures.typed;
      typed_after = c.know_handles_and_types-in-Ok.ensures.typed;
      entered = c.dce_stays_apart.ensures.entered new c.in-Ok.field-0 c.in-Ok.ensures.made c.requires.entered;
      contained = c.dce_stays_apart.ensures.contained new c.in-Ok.field-0 c.in-Ok.ensures.made c.requires.contained;
    } in
    removed old new root c.requires known c.dce_keeps_rules.ensures c.dce_stays_writable.ensures
    (λ t stands. c.removed_stand_alone.ensures old.program new.program root c.in-Ok.field-0 t
    (λ v has taken. c.requires.contained v ((defined t stands v).0 has) taken) (c.in-Ok.ensures.made t stands))

pub returns-in-Err-clause-memory : goal.returns-in-Err-clause-memory
returns-in-Err-clause-memory c =
    memory_of c.in-Err.error c.shortage_of.result c.shortage_of.ensures c.in-Err.ensures.error

pub returns-in-Ok-clause-outside : goal.returns-in-Ok-clause-outside
returns-in-Ok-clause-outside c =
    (c.know_rest.ensures.removed c.dce.new.ctx.program c.in-Ok.field-0 c.in-Ok.ensures.made).kept

pub returns-in-Ok-clause-stays : goal.returns-in-Ok-clause-stays
returns-in-Ok-clause-stays c =
    (c.know_rest.ensures.removed c.dce.new.ctx.program c.in-Ok.field-0 c.in-Ok.ensures.made).stays

pub returns-in-Ok-clause-none_come : goal.returns-in-Ok-clause-none_come
returns-in-Ok-clause-none_come c =
    (c.know_rest.ensures.removed c.dce.new.ctx.program c.in-Ok.field-0 c.in-Ok.ensures.made).none_come

pub returns-in-Err-clause-outside : goal.returns-in-Err-clause-outside
returns-in-Err-clause-outside c =
    let old = c.args.ctx.now.program in
    let root = c.args.root in
    subst (λ p. KeepsRest old p root) (ap (λ x. x.program) (sym c.in-Err.ensures.err)) (kept_none root old)
