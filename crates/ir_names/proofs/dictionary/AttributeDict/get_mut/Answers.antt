use Rattle.std.proofs.Common.{◌≡◌, false, sym, ap, ◌∙◌, inr}
use borrow.Follows.Closed.{read_of}
use Rattle.std.specs.Option.{ghost_name_of}
use Rattle.indexmap.specs.IndexMap.{set_value_at}
use Rattle.ir_names.specs.Dictionary.{is_under, all_entries, with_attribute}
use Rattle.ir_names.proofs.Entries.{attribute_at-others}
use Rattle.ir_names.proofs.Lent.{entries_kept, names-written, all_entries-set_value_at, is_none}
use Rattle.ir_names.proofs.dictionary.AttributeDict.get_mut.Goals as goal

pub returns-in_err-index : goal.returns-in_err-index
returns-in_err-index g c =
    let other : is_under c.self.inside.first c.args.key.now ≡ false = sym c.has_name.ensures ∙ c.if-has_name.false in
    rw c.from_residual.ensures (ap inr c.self.view_is, rw (← c.self.view_is, attribute_at-others c.self.inside.first c.self.inside.others c.args.key.now other) (is_none _ c.in_err-index.ensures.found))

pub invariant_of-self-lent-2 : goal.invariant_of-self-lent-2
invariant_of-self-lent-2 g c r = (λ w. entries_kept _ _ (names-written c.self.inside.first c.self.inside.others c.in_ok-index.index w) c.self.invariant, c.self.invariant)

pub returns : goal.returns
returns g c =
    let other : is_under c.self.inside.first c.args.key.now ≡ false = sym c.has_name.ensures ∙ c.if-has_name.false in
    let written : (w : g.row.D-Attr.Denot) → all_entries c.self.inside.first (set_value_at c.self.inside.others c.in_ok-index.index w) ≡ with_attribute (all_entries c.self.inside.first c.self.inside.others) c.args.key.now w
    = λ w. all_entries-set_value_at c.self.inside.first c.self.inside.others c.args.key.now c.in_ok-index.index w other c.in_ok-index.ensures.index c.in_ok-index.ensures.within in
    rw (← c.self.view_is) (
      (λ j. read_of (ghost_name_of c.get_index_mut.result) (λ w. written w j) (all_entries c.self.inside.first c.self.inside.others)),
      c.get_index_mut.ensures.value ∙ (c.in_ok-index.ensures.value ∙ sym (attribute_at-others c.self.inside.first c.self.inside.others c.args.key.now other)),
    )
