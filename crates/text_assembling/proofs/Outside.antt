-- Around a block that is read all blocks are made.
use Rattle.std.proofs.Common.{◌≡◌, ◌∙◌, ℕ, List, [], ◌∷◌, reverse, Option, Some, None, refl, sym, ap, subst}
use Rattle.std.proofs.lemmas.List.{reverse-append, reverse-reverse}
use Rattle.ir_names.specs.Tree.{Trees}
use Rattle.ir_print.specs.Pieces.{Values}
use Rattle.ir_print.specs.Shown.{Saying}
use Rattle.ir_program.specs.declared.handles.BasicBlock.{BasicBlock}
use Rattle.ir_program.specs.declared.handles.Operation.{Operation}
use Rattle.ir_program.specs.declared.handles.Ptr.{Ptr}
use Rattle.ir_forest.specs.Building as building
use Rattle.ir_forest.specs.Forest.{ActionSpan}
use Rattle.ir_grammar.specs.Nesting.{Position, at_end, in_operation, in_region, in_block}
use Rattle.text_frames.specs.declared.opened.Body.{Body}
use Rattle.text_frames.specs.declared.opened.Body.TheVariants as body
use Rattle.text_frames.specs.declared.opened.Open.{Open}
use Rattle.text_frames.specs.Frames.{FrameSort, a_text, an_operation, a_region, a_block, sort_at, sort_of, EndsAt, Stands}
use Rattle.text_frames.specs.Raised.{begun_at, RaisesBlock, Raises, IsRaised, RaisesAll}
use Rattle.text_frames.specs.Worlds.{PartialModule}
use Rattle.text_frames.proofs.Framing.{innermost}
use Rattle.text_assembling.specs.Assembling.{unmade_block, unmade_label, unmade_labels}
use Rattle.text_assembling.proofs.Lists.{concat_empty}
use Rattle.text_assembling.proofs.RaisingBegins.{raised_here}

-- something of this sort isn't read in a header
abbrev IsOutside : FrameSort → Type 0
IsOutside a_text = Unit {0}
IsOutside an_operation = Unit {0}
IsOutside a_region = Unit {0}
IsOutside a_block = Unit {0}
IsOutside _ = ⊥

-- nor is what reading goes on with here
abbrev GoesOnOutside : Position → Type 0
GoesOnOutside at_end = Unit {0}
GoesOnOutside in_block = Unit {0}
GoesOnOutside in_region = Unit {0}
GoesOnOutside in_operation = Unit {0}
GoesOnOutside _ = ⊥

outside_ends : (s : FrameSort) (q : Position) → IsOutside s → EndsAt s q → GoesOnOutside q
outside_ends a_text q is ends = absurd ends
outside_ends an_operation at_end is ends = tt
outside_ends an_operation in_block is ends = tt
outside_ends an_operation _ is ends = absurd ends
outside_ends a_region q is ends = subst GoesOnOutside (sym ends) tt
outside_ends a_block q is ends = subst GoesOnOutside (sym ends) tt
outside_ends _ q is ends = absurd is

outside_sort : (q : Position) → GoesOnOutside q → IsOutside (sort_at q)
outside_sort at_end h = tt
outside_sort in_block h = tt
outside_sort in_region h = tt
outside_sort in_operation h = tt
outside_sort _ h = absurd h

module _ {D K A T : Type 0} (says : Saying K A T) (values : Values) (text : ℕ → List ℕ) (w : PartialModule K A T) where
  -- a block in which reading goes on is made
  block_is_made : (p : Option (Ptr BasicBlock)) (g : Open D K A T) (q : Position) (ts : Trees ActionSpan) → sort_at q ≡ a_block → GoesOnOutside q → RaisesBlock says values text w p g (begun_at q) ts → unmade_block p g.first ≡ []
  block_is_made (Some b) g q ts sort goes h = refl
  block_is_made None g in_block ts sort goes h = absurd h.typed_so
  block_is_made None g at_end ts sort goes h = cc
  block_is_made None g in_region ts sort goes h = cc
  block_is_made None g in_operation ts sort goes h = cc
  block_is_made None g _ ts sort goes h = absurd goes

  outside_made : (b : Body D K A T) (g : Open D K A T) (q : Position) (ts : Trees ActionSpan) → sort_of b ≡ sort_at q → GoesOnOutside q → Raises says values text w b g (begun_at q) ts → unmade_label b g.first ≡ []
  outside_made (body.Block o) g q ts sort goes h = block_is_made o.block g q ts (sym sort) goes h
  outside_made _ g q ts sort goes h = refl

  -- none of these has a label whose block isn't made
  abbrev NoneUnmade : List (Open D K A T) → Type 0
  NoneUnmade [] = Unit {0}
  NoneUnmade (g ∷ gs) = (unmade_label g.body g.first ≡ []) × NoneUnmade gs

  around_made : (types : List T) (root : Option (Ptr Operation)) (f : Open D K A T) (at to : Position) (ts : Trees ActionSpan) (gs : List (Open D K A T)) (os : List building.Open) (qs : List Position)
      → IsOutside (sort_of f.body) → Stands says values text types f at ts gs os qs → RaisesAll says values text w root f to ts gs os qs → NoneUnmade gs
  around_made types root f at to ts [] os qs is stands all = tt
  around_made types root f at to ts (g ∷ gs) [] qs is stands all = absurd stands
  around_made types root f at to ts (g ∷ gs) (o ∷ os) [] is stands all = absurd stands
  around_made types root f at to ts (g ∷ gs) (o ∷ os) (q ∷ qs) is stands all =
      let frame = innermost says values text types g q o.before gs os qs stands.2 in
      let goes : GoesOnOutside q = outside_ends (sort_of f.body) q is stands.1.ends in
      let raised : IsRaised says values text w g (begun_at q) o.before = raised_here says values text w root g (begun_at q) o.before gs os qs all.1 in (
        outside_made g.body g q o.before frame.sort goes raised.made,
        around_made types root g q (begun_at q) o.before gs os qs (subst IsOutside (sym frame.sort) (outside_sort q goes)) stands.2 all.1,
      )

  none_together : (gs : List (Open D K A T)) → NoneUnmade gs → unmade_labels (reverse gs) ≡ []
  none_together [] h = refl
  none_together (g ∷ gs) h =
      ap (λ (fs : List (Open D K A T)). unmade_labels fs) (reverse-append (g ∷ []) gs)
      ∙ (concat_empty (λ (f : Open D K A T). unmade_label f.body f.first) (reverse gs) g h.0 ∙ none_together gs h.1)

  -- around a block that is read all blocks are made
  pub around_block : (types : List T) (root : Option (Ptr Operation)) (f : Open D K A T) (at : Position) (ts : Trees ActionSpan) (gs : List (Open D K A T)) (os : List building.Open) (qs : List Position)
      → sort_of f.body ≡ a_block → Stands says values text types f at ts (reverse gs) os qs → RaisesAll says values text w root f at ts (reverse gs) os qs → unmade_labels gs ≡ []
  around_block types root f at ts gs os qs sort stands all =
      ap (λ (fs : List (Open D K A T)). unmade_labels fs) (sym (reverse-reverse gs))
      ∙ none_together (reverse gs) (around_made types root f at at ts (reverse gs) os qs (subst IsOutside (sym sort) tt) stands all)
