use Rattle.std.proofs.Common.{◌∙◌, ap, sym, subst, insert, slice_get, ◌≡◌, ◌+◌, refl, List, ℕ}
use Rattle.ir_entities.specs.Uses.{place_of}
use Rattle.ir_entities.specs.Placed.{IsDistinctRow, Renumbers}
use Rattle.ir_entities.proofs.RowEdits.{inserted-distinct, inserted-used, renumbered-inserts}
use Rattle.ir_entities.proofs.rows.insert_place.Goals as goal

pub renumber-requires-clause-distinct : goal.renumber-requires-clause-distinct
renumber-requires-clause-distinct g c =
    let rows : c.deref.result.now ≡ insert c.args.row.now.items c.args.index c.in_ok-place.place = c.deref.ensures ∙ (c.in_ok-insert.ensures.ok ∙ ap (λ (xs : List ℕ). insert xs c.args.index c.in_ok-place.place) c.reserve.ensures.items) in
    subst IsDistinctRow (sym rows) (inserted-distinct (place_of c.args.uses.now) c.args.row.now.items c.args.user c.requires.row c.args.index c.in_ok-place.place c.requires.within c.in_ok-place.ensures.fresh)

pub renumber-requires-clause-used : goal.renumber-requires-clause-used
renumber-requires-clause-used g c j q h e =
    let rows : c.deref.result.now ≡ insert c.args.row.now.items c.args.index c.in_ok-place.place = c.deref.ensures ∙ (c.in_ok-insert.ensures.ok ∙ ap (λ (xs : List ℕ). insert xs c.args.index c.in_ok-place.place) c.reserve.ensures.items) in
    let its = inserted-used (place_of c.args.uses.now) c.args.row.now.items c.args.user c.requires.row c.args.index c.in_ok-place.place c.requires.within c.in_ok-place.ensures.fresh j q h (sym (ap (λ (xs : List ℕ). slice_get xs j) rows) ∙ e) in
    rw (c.in_ok-place.ensures.added.others q its.1 ∙ its.0.2) refl

pub returns-clause-inserted : goal.returns-clause-inserted
returns-clause-inserted g c =
    let rows : c.insert.new.self.items ≡ insert c.args.row.now.items c.args.index c.in_ok-place.place = c.in_ok-insert.ensures.ok ∙ ap (λ (xs : List ℕ). insert xs c.args.index c.in_ok-place.place) c.reserve.ensures.items in (
      c.in_ok-place.place,
      renumbered-inserts (place_of c.args.uses.now) (place_of c.add.new.self) (place_of c.renumber.new.uses) c.args.row.now.items c.insert.new.self.items c.args.user c.args.index c.in_ok-place.place c.requires.row c.in_ok-place.ensures.added.others
          c.args.definition c.requires.within c.in_ok-place.ensures.fresh rows c.in_ok-place.ensures.added.changed
          (subst (λ (xs : List ℕ). Renumbers (place_of c.add.new.self) (place_of c.renumber.new.uses) xs (c.args.index + 1)) c.deref.ensures c.renumber.ensures.renumbers),
    )
