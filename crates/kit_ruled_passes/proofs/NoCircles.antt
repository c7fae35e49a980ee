-- Following what is forwarded to an argument never comes back to it.
use Rattle.std.proofs.Common.{◌≡◌, ◌⊎◌, inl, inr, ⊎_elim, true, refl, sym, ap, ◌∙◌, subst}
use Rattle.ir_program.specs.declared.handles.BasicBlock.{BasicBlock}
use Rattle.ir_program.specs.declared.handles.DefiningEntity.TheVariants.{Block as ByBlock}
use Rattle.ir_program.specs.declared.handles.Ptr.{Ptr}
use Rattle.ir_program.specs.declared.handles.Value.{Value}
use Rattle.ir_trees.specs.Renames.{names_of}
use Rattle.ir_trees.specs.Stands.{by_handle}
use Rattle.kit.specs.Context.{KitTree}
use Rattle.opt_trees.specs.Facts.{forwarded}
use Rattle.opt_trees.specs.Occurrences.{Has, at_root}
use Rattle.opt_trees.specs.Simplify.{StartingRegions, IsReached, entry, further, IsGiven, Chases, goes, goes_by, ComesBack}
use Rattle.kit.specs.Meaning.{kit}
use Rattle.kit_views.proofs.Lists.{has_get}
use Rattle.kit_ruled_passes.specs.Scopes.{IsNone, Scoped}
use Rattle.kit_ruled_passes.proofs.Scopes.{Homed, IsHome, AtEntry}
use Rattle.kit_ruled_passes.proofs.ScopesAfter.{picks_has}
use Rattle.kit_ruled_passes.proofs.ScopeUses.{KitOccurrence, block_home, own_block}

module _ (E : Ptr BasicBlock → Type 0) (p : StartingRegions by_handle) (r : KitTree) (scoped : Scoped r.regions IsNone)
    (homed : Homed E r.regions true) where
  abbrev Given : Value → Value → Type 0
  Given v u = IsGiven kit p r v u

  -- the block whose argument is given something
  home : (v u : Value) → (g : Given v u) → IsHome E g.joins.target.label g.joins.target.spot.first
  home v u g = block_home E r.regions (at_root r) refl homed g.joins.target g.joins.target_stands

  defines : (v u : Value) → (g : Given v u) → v.definer ≡ ByBlock g.to
  defines v u g = (home v u g).1 v (has_get (names_of g.joins.target.label.arguments) g.place v g.takes)
      ∙ ap ByBlock g.joins.target_name

  no_entry : (v u : Value) → (g : Given v u) → E g.to → ⊥
  no_entry v u g = subst (λ b. E b → ⊥) g.joins.target_name
      (subst (λ f. AtEntry E f g.joins.target.label.name) g.joins.not_entry (home v u g).0)

  -- what is given is an argument of the block that it is given from, where it is given something itself
  linked : (v u x : Value) → (g : Given v u) → (f : Given u x) → g.from ≡ f.to
  linked v u x g f =
      let takes : Has u g.joins.last.head.operands =
      picks_has g.joins.last.head.operands _ u (has_get (forwarded kit g.joins.last.head 0) g.place u g.gives) in
      let own = own_block E f.to u (defines u x f) (no_entry u x f) r.regions IsNone (at_root r) refl scoped homed
      g.joins.last g.joins.stands takes in
      sym g.joins.in_block ∙ ⊎_elim (λ e. e) (λ none. absurd none.1) own

  module _ (a : Value) (loop : Chases kit p r a a) where
    -- the block has an argument from which following leads to the one where it began
    record InLoop (b : Ptr BasicBlock) : Type 0 where
      value : Value
      gives : Value
      given : Given value gives
      named : given.to ≡ b
      on : (gives ≡ a) ⊎ Chases kit p r gives a

    -- the first step
    first_step : (v x : Value) → Chases kit p r v x → (u : Value) × Given v u × ((u ≡ x) ⊎ Chases kit p r u x)
    first_step _ _ (goes v u g) = (u, g, inl refl)
    first_step _ _ (goes_by v u x g rest) = (u, g, inr rest)

    -- the block before it is one too
    before : (b : Ptr BasicBlock) → (l : InLoop b) → InLoop l.given.from
    before b l =
        let next : Chases kit p r l.gives a =
        ⊎_elim (λ e. subst (λ z. Chases kit p r z a) (sym e) loop) (λ c. c) l.on in
        let s = first_step l.gives a next in
        record {
          value = l.gives;
          gives = s.0;
          given = s.1;
          named = sym (linked l.value l.gives s.0 l.given s.1);
          on = s.2;
        }

    never_reached : (b : Ptr BasicBlock) → IsReached r b → InLoop b → ⊥
    never_reached _ (entry x stands first) l =
        let at : AtEntry E true x.label.name =
        subst (λ f. AtEntry E f x.label.name) first (block_home E r.regions (at_root r) refl homed x stands).0 in
        no_entry l.value l.gives l.given (subst E (sym l.named) at)
    never_reached _ (further o b stands reached leads) l =
        let same : o ≡ l.given.joins.last =
        l.given.joins.single o stands (subst (λ z. Has z o.head.successors) (sym l.named) leads) in
        let from : l.given.from ≡ o.site.label.name =
        sym l.given.joins.in_block ∙ ap (λ (z : KitOccurrence). z.site.label.name) (sym same) in
        never_reached o.site.label.name reached (subst InLoop from (before b l))

    pub comes_never : ⊥
    comes_never =
        let s = first_step a a loop in
        let l : InLoop s.1.to = record { value = a; gives = s.0; given = s.1; named = refl; on = s.2 } in
        never_reached s.1.from s.1.joins.reached (before s.1.to l)

pub no_circle : (E : Ptr BasicBlock → Type 0) (p : StartingRegions by_handle) (r : KitTree) → Scoped r.regions IsNone
    → Homed E r.regions true → ComesBack kit p r → ⊥
no_circle E p r scoped homed c = comes_never E p r scoped homed c.argument c.loop
