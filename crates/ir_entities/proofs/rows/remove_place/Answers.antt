use Rattle.std.proofs.Common.{◌∙◌, ap, sym, subst, slice_get, ◌≡◌, refl, Some, List, ℕ}
use Rattle.std.proofs.lemmas.Option.{slice_get_read}
use Rattle.ir_entities.specs.Uses.{place_of}
use Rattle.ir_entities.specs.Placed.{IsDistinctRow, Renumbers}
use Rattle.ir_entities.proofs.RowEdits.{removed-distinct, removed-used, renumbered-removes}
use Rattle.ir_entities.proofs.rows.remove_place.Goals as goal

pub renumber-requires-clause-distinct : goal.renumber-requires-clause-distinct
renumber-requires-clause-distinct g c =
    subst IsDistinctRow (sym (c.deref.ensures ∙ c.remove-place.ensures.items)) (removed-distinct (place_of c.args.uses.now) c.args.row.now.items c.args.user c.requires.row c.args.index)

pub renumber-requires-clause-used : goal.renumber-requires-clause-used
renumber-requires-clause-used g c j q h e =
    let stood : slice_get c.args.row.now.items c.args.index ≡ Some c.remove-place.result = slice_get_read c.args.row.now.items _ c.args.index c.remove-place.result refl c.requires.within c.remove-place.ensures.value in
    let its = removed-used (place_of c.args.uses.now) c.args.row.now.items c.args.user c.requires.row c.args.index c.remove-place.result stood j q (sym (ap (λ (xs : List ℕ). slice_get xs j) (c.deref.ensures ∙ c.remove-place.ensures.items)) ∙ e) in
    rw (c.remove.ensures.gone.others q its.1 ∙ its.0.2) refl

pub returns-clause-removed : goal.returns-clause-removed
returns-clause-removed g c =
    let stood : slice_get c.args.row.now.items c.args.index ≡ Some c.remove-place.result = slice_get_read c.args.row.now.items _ c.args.index c.remove-place.result refl c.requires.within c.remove-place.ensures.value in (
      c.remove-place.result,
      renumbered-removes (place_of c.args.uses.now) (place_of c.remove.new.self) (place_of c.renumber.new.uses) c.args.row.now.items c.remove-place.new.self.items c.args.user c.args.index c.remove-place.result c.requires.row c.remove.ensures.gone.others
          stood c.remove-place.ensures.items c.remove.ensures.gone.changed
          (subst (λ (xs : List ℕ). Renumbers (place_of c.remove.new.self) (place_of c.renumber.new.uses) xs c.args.index) c.deref.ensures c.renumber.ensures.renumbers),
    )
