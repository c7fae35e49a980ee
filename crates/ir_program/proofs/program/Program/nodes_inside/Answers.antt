use Rattle.std.proofs.Common.{◌≡◌, ◌↔◌, Some, subst, sym}
use Rattle.ir_entities.specs.declared.forest.Place.{Place}
use Rattle.ir_entities.specs.Shape.{itself, IsInside}
use Rattle.ir_entities.specs.Forest.{HoldsInUse, shape_of}
use Rattle.ir_entities.specs.Walk.{walk_of, places_from, AreOnce, IsOneOf}
use Rattle.ir_program.specs.Program.{Program}
use Rattle.ir_program.proofs.lists.Preorders.{place_used, in-order, are-inside, once-each, from-first}
use Rattle.ir_program.proofs.program.Program.nodes_inside.Goals as goal

pub invariant_of-result : goal.invariant_of-result
invariant_of-result g c x is =
    let same : c.place-place.result ≡ x = cc in
    subst (λ p. HoldsInUse c.args.self.now.forest p × IsInside (shape_of c.args.self.now.forest) c.place-place.result p) same
    (subst (HoldsInUse c.args.self.now.forest) (sym c.place-place.ensures) (place_used c.args.self.now c.args.outer c.requires), itself)

pub returns-clause-list : goal.returns-clause-list
returns-clause-list g c =
    let begins = subst (λ (w : Program _ _). places_from (Some c.place-place.result) (walk_of w.forest c.place-place.result) ≡ walk_of w.forest c.place-place.result) c.self.view_is c.know_walk.ensures.begins in
    rw c.place-place.ensures (from-first c.args.self.now c.args.outer (rw c.place-place.ensures at begins))

pub returns-clause-inside : goal.returns-clause-inside
returns-clause-inside g c =
    let all = subst (λ (w : Program _ _). (e : Place) → IsOneOf e (walk_of w.forest c.place-place.result) ↔ IsInside (shape_of w.forest) c.place-place.result e) c.self.view_is c.know_walk.ensures.all in
    are-inside c.args.self.now c.know_listed.ensures c.args.outer c.requires (rw c.place-place.ensures at all)

pub returns-clause-once : goal.returns-clause-once
returns-clause-once g c =
    let once = subst (λ (w : Program _ _). AreOnce (walk_of w.forest c.place-place.result)) c.self.view_is c.know_walk.ensures.once in
    once-each c.args.self.now c.args.outer (rw c.place-place.ensures at once)

pub returns-clause-order : goal.returns-clause-order
returns-clause-order g c = in-order c.args.self.now c.know_listed.ensures c.args.outer c.requires
