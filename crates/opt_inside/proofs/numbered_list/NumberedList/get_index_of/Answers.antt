use Rattle.std.proofs.Common.{◌≡◌, ◌↔◌, ℕ, List, Option, Some, slice_get, ap, ◌∙◌, subst}
use Rattle.opt_inside.specs.NumberedList.{Keyed}
use Rattle.opt_inside.proofs.Lookups.{number_is, number_found}
use Rattle.opt_inside.proofs.numbered_list.NumberedList.get_index_of.Goals as goal

abbrev IsNumberIn : {X : Type 0} → X → Option ℕ → List X → Type 0
IsNumberIn x r xs = (n : ℕ) → r ≡ Some n ↔ slice_get xs n ≡ Some x

pub returns-in-BySlot-clause-index : goal.returns-in-BySlot-clause-index
returns-in-BySlot-clause-index g c = number_is g.K.PartialEq.eq g.met.K.Slotted.same g.met.K.Eq.laws.refl c.args.self.now.keys c.args.item c.number_of.result
    (subst (IsNumberIn c.args.item c.number_of.result) (c.deref.ensures.value ∙ ap (λ (n : Keyed _). n.keys) c.self.view_is) c.number_of.ensures)

pub returns-in-BySlot-clause-found : goal.returns-in-BySlot-clause-found
returns-in-BySlot-clause-found g c = number_found g.K.PartialEq.eq g.met.K.Slotted.same g.met.K.Eq.laws.refl c.args.self.now.keys c.args.item c.number_of.result
    (subst (IsNumberIn c.args.item c.number_of.result) (c.deref.ensures.value ∙ ap (λ (n : Keyed _). n.keys) c.self.view_is) c.number_of.ensures)
