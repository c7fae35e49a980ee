use Rattle.std.proofs.Common.{◌≡◌, ℕ, List, true, cond, refl, sym, ap, subst}
use Rattle.ir_entities.specs.Links.{has}
use Rattle.ir_entities.specs.Uses.{Uses, key_of, place_of, naming, IsPlace, IsDefined}
use Rattle.ir_program.specs.Program.{Program}
use Rattle.ir_program.specs.Replacing.{MayAnswerOfUse}
use Rattle.ir_program.specs.declared.handles.Ptr.{Ptr}
use Rattle.ir_program.specs.declared.handles.BasicBlock.{BasicBlock}
use Rattle.ir_program.proofs.used.Renaming.{edges-sound, edges-seen}
use Rattle.ir_program.proofs.made.Lent.{some_is}
use Rattle.ir_program.proofs.used.NamedUses.{named-place}
use Rattle.ir_program.proofs.program.Program.retarget_some.Goals as goal

pub invariant_of-self : goal.invariant_of-self
invariant_of-self g c = edges-sound _ c.args.self.now c.self.view_is c.self.invariant c.rename_each.new.uses c.rename_each.ensures.definitions c.edge_thread-to.result c.deref.result.now c.rename_each.ensures.renamed

pub returns-clause-retargeted : goal.returns-clause-retargeted
returns-clause-retargeted g c =
    let renames : (q : ℕ) → place_of c.rename_each.new.uses q ≡ cond (has q c.in_ok-chosen.chosen.items) (naming c.edge_thread-to.result (place_of c.self.inside.targets q)) (place_of c.self.inside.targets q) =
    subst (λ (chosen : List ℕ). (q : ℕ) → place_of c.rename_each.new.uses q ≡ cond (has q chosen) (naming c.edge_thread-to.result (place_of c.self.inside.targets q)) (place_of c.self.inside.targets q)) c.deref.ensures.value c.rename_each.ensures.renamed in
    edges-seen _ c.args.self.now c.self.view_is c.self.invariant c.rename_each.new.uses c.rename_each.ensures.definitions c.edge_thread-to.result c.in_ok-chosen.chosen.items renames
    c.know_named.ensures c.edge_thread-from.result c.args.block c.args.other (λ y. MayAnswerOfUse g.F.Fn c.args.predicate y)
    c.edge_thread-from.ensures c.edge_thread-to.ensures c.in_ok-chosen.ensures.among c.in_ok-chosen.ensures.answered

pub choose_successors-requires : goal.choose_successors-requires
choose_successors-requires g c = record {
  thread = some_is (key_of c.args.self.now.targets c.edge_thread-from.result) c.args.block c.edge_thread-from.ensures;
  callable = c.requires.callable;
}

pub rename_each-requires : goal.rename_each-requires
rename_each-requires g c =
    let same = sym (ap (λ (p : Program g.row.O.Denot g.row.B.Denot). p.targets) c.self.view_is) in record {
      places = λ q h. subst (λ (u : Uses (Ptr BasicBlock)). IsPlace u q) same (named-place c.args.self.now.targets q c.edge_thread-from.result (c.in_ok-chosen.ensures.among q (subst (λ (places : List ℕ). has q places ≡ true) c.deref.ensures.value h)));
      definition = subst (λ (u : Uses (Ptr BasicBlock)). IsDefined u c.edge_thread-to.result) same (some_is (key_of c.args.self.now.targets c.edge_thread-to.result) c.args.other c.edge_thread-to.ensures);
    }

pub returns-clause-values : goal.returns-clause-values
returns-clause-values g c = rw (← c.self.view_is) (record { types = λ v. refl; counter = refl })
