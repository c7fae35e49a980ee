-- What is known alone of the values of a function decides its branches.
use Rattle.std.proofs.Common.{◌≡◌, inl, inr, Bool, true, false, List, [], ◌∷◌, map, Option, Some, None, refl, sym, ap}
use Rattle.std.proofs.Common.{◌∙◌}
use Rattle.std.specs.Prelude.{◌↔◌, not, ◌&&◌, if◌then◌else◌}
use Rattle.ir_base.specs.declared.types.TypeHandle.{TypeHandle}
use Rattle.ir_trees.specs.Names.{Names, Contents}
use Rattle.ir_trees.specs.Trees.{Head, Regions, Sort, Tree, Root, end, operation, block, region}
use Rattle.opt_trees.specs.Dce.{TreeSurroundings}
use Rattle.opt_trees.specs.Dialect.{Dialect}
use Rattle.opt_trees.specs.Occurrences.{Has, Occurrence, Inside, inner, next_block, next_region, at_root}
use Rattle.opt_trees.specs.Occurrences.{occurrences_in, defined_in}
use Rattle.opt_trees.specs.Simplify.{is_bare, along_edge, decide_head, decide, decided}
use Rattle.opt_trees.proofs.Defined.{result_defined}
use Rattle.opt_trees.proofs.Lists.{none_some}
use Rattle.opt_trees.proofs.NoneDead.{has-left, has-right}
use Rattle.kit_ops.specs.declared.attributes.IntegerAttr.{IntegerAttr}
use Rattle.kit_ops.specs.declared.types.KitType.{KitType}
use Rattle.kit.specs.Meaning.{kit}
use Rattle.kit_behaviour.specs.Scopes.{is_in}
use Rattle.kit_views.specs.FlatBranches.{IsConstantOf, KnowsConstants}
use Rattle.kit_views.specs.FlatView.{IsSameness}
use Rattle.kit_views.specs.Reading.{kit_contents}
use Rattle.kit_views.specs.Typed.{IsTyped}
use Rattle.kit_views.proofs.Lists.{in_has, has_in}

-- what is known alone of the values of the tree, and of no others
abbrev pub own_alone : {N : Names} → (N.value → N.value → Bool) → Root N kit_contents → TreeSurroundings N IntegerAttr →
    TreeSurroundings N IntegerAttr
own_alone same t w = record {
  alone = λ v. if is_in same v (defined_in t.regions) then w.alone v else None;
  is_pinned = w.is_pinned;
}

-- exactly the results of constants are known alone
abbrev pub KnowsExactly : {N : Names} → TreeSurroundings N IntegerAttr → Root N kit_contents → Type 0
KnowsExactly {N} w t = (v : N.value) (a : IntegerAttr) → (w.alone v ≡ Some a) ↔ IsConstantOf w t v a

map_alike : {X Y : Type 0} (f g : X → Y) (xs : List X) → ((x : X) → Has x xs → f x ≡ g x) → map f xs ≡ map g xs
map_alike f g [] alike = refl
map_alike f g (x ∷ xs) alike = λ i. alike x (inl refl) i ∷ map_alike f g xs (λ y h. alike y (inr h)) i

module _ {N : Names} {S : Contents} {A : Type 0} (d : Dialect S A) (f g : N.value → Option A) where
  -- the same is known of each operand
  abbrev AlikeIn : {s : Sort} → Tree N S s → Inside N S s → Type 0
  AlikeIn t c = (o : Occurrence N S) → Has o (occurrences_in t c) → (x : N.value) → Has x o.head.operands → f x ≡ g x

  head_alike : (h : Head N S) (rs : Tree N S Regions) → ((x : N.value) → Has x h.operands → f x ≡ g x)
      → decide_head d f h rs ≡ decide_head d g h rs
  head_alike h rs alike =
      ap (λ ks. if is_bare d h rs && not (d.is_plain h.content) then along_edge d h (d.edge h.content ks) d.plain else
      h)
      (map_alike f g h.operands alike)

  decide_alike : {s : Sort} (t : Tree N S s) (c : Inside N S s) → AlikeIn t c → decide d f t ≡ decide d g t
  decide_alike end c alike = refl
  decide_alike (operation h rs rest) c alike = λ i. operation
      (head_alike h rs (alike (record { site = c; head = h; regions = rs }) (inl refl)) i)
      (decide_alike rs (inner h c) (λ o has. alike o
      (inr (has-left o (occurrences_in rs (inner h c)) (occurrences_in rest c) has))) i)
      (decide_alike rest c (λ o has. alike o (inr
      (has-right o (occurrences_in rs (inner h c)) (occurrences_in rest c) has))) i)
  decide_alike (block l os rest) c alike = λ i. block l
      (decide_alike os (record { spot = c; label = l }) (λ o has. alike o
      (has-left o (occurrences_in os (record { spot = c; label = l })) (occurrences_in rest (next_block c)) has)) i)
      (decide_alike rest (next_block c) (λ o has. alike o (has-right o
      (occurrences_in os (record { spot = c; label = l })) (occurrences_in rest (next_block c)) has)) i)
  decide_alike (region bs rest) c alike = λ i. region
      (decide_alike bs c (λ o has. alike o (has-left o (occurrences_in bs c) (occurrences_in rest (next_region c))
      has)) i)
      (decide_alike rest (next_region c) (λ o has. alike o
      (has-right o (occurrences_in bs c) (occurrences_in rest (next_region c)) has)) i)

module _ {N : Names} (same : N.value → N.value → Bool) (sameness : IsSameness same) (w : TreeSurroundings N IntegerAttr)
    (t : Root N kit_contents) where
  abbrev own : TreeSurroundings N IntegerAttr
  own = own_alone same t w

  -- of a value of the tree as much is known
  own_same : (v : N.value) → Has v (defined_in t.regions) → own.alone v ≡ w.alone v
  own_same v has =
      ap (λ (b : Bool). if b then w.alone v else None) (has_in same sameness v (defined_in t.regions) has)

  -- what is known is known of a value of the tree
  own_defined : (v : N.value) (a : IntegerAttr) → own.alone v ≡ Some a → Has v (defined_in t.regions)
  own_defined v a is = go (is_in same v (defined_in t.regions)) refl is
    where
      go : (b : Bool) → is_in same v (defined_in t.regions) ≡ b → (if b then w.alone v else None) ≡ Some a
          → Has v (defined_in t.regions)
      go true inside e = in_has same sameness v (defined_in t.regions) inside
      go false inside e = absurd (none_some a e)

  own_known : KnowsConstants w t → KnowsExactly own t
  own_known knows v a = (
    λ e.
        let has = own_defined v a e in
        let c = (knows v a has).0 (sym (own_same v has) ∙ e) in
        record { definer = c.definer; stands = c.stands; constant = c.constant; result = c.result; value = c.value },
    λ c.
        let has = result_defined t.regions (at_root t) c.definer v c.stands c.result in
        own_same v has ∙ (knows v a has).1 (record {
          definer = c.definer;
          stands = c.stands;
          constant = c.constant;
          result = c.result;
          value = c.value;
        }),
  )

pub decided_own : {N : Names} (same : N.value → N.value → Bool) (leads : TypeHandle → Option KitType)
    (type_at : N.value → TypeHandle) (w : TreeSurroundings N IntegerAttr) (t : Root N kit_contents) → IsSameness same
    → IsTyped leads {N = N} type_at t → KnowsConstants w t
    → KnowsExactly (own_alone same t w) t × (decided kit (own_alone same t w) t ≡ decided kit w t)
decided_own same leads type_at w t sameness typed knows = (
  own_known same sameness w t knows,
  ap (λ rs. record { head = t.head; regions = rs })
      (decide_alike kit (own_alone same t w).alone w.alone t.regions (at_root t)
      (λ o ho x hx. own_same same sameness w t x (typed.operands o x ho hx))),
)
