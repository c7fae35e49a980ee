-- Values have the types that are written, one by one; and types have one handle.
use Rattle.std.proofs.Common.{◌≡◌, inl, inr, true, List, [], ◌∷◌, Some, refl, subst}
use Rattle.ir_base.specs.declared.types.TypeHandle.{TypeHandle}
use Rattle.ir_program.specs.Program.{type_at}
use Rattle.ir_program.specs.declared.handles.Value.{Value}
use Rattle.ir_trees.specs.Stands.{by_handle, in_program}
use Rattle.ir_trees.specs.Trees.{Defined, Sort, end, operation, block, region}
use Rattle.ir_types.specs.Interned.{key_at}
use Rattle.kit.specs.Context.{KitContext, KitTree}
use Rattle.opt_trees.specs.Occurrences.{Has, Occurrence, BlockOccurrence, Inside, inner, next_block, next_region}
use Rattle.opt_trees.specs.Occurrences.{at_root}
use Rattle.opt_trees.specs.Occurrences.{occurrences_in, block_occurrences_in}
use Rattle.opt_trees.proofs.NoneDead.{has-left, has-right}
use Rattle.kit.specs.Meaning.{KitOperation, KitBlock}
use Rattle.kit.proofs.Equal.{functions_equal}
use Rattle.kit_ops.specs.contracts.types.KitTypePartialEq.TheImpl as of_types
use Rattle.kit_ops.specs.contracts.types.KitTypeEq.TheImpl.Laws as type_laws
use Rattle.kit_ops.specs.declared.types.KitType.{KitType}
use Rattle.kit_ops.specs.declared.types.KitType.TheVariants as types
use Rattle.kit_checks.specs.Sites.{Listed}
use Rattle.kit_text_programs.specs.RuleLaws.{HasOneHandleEach, HaveWrittenTypes}
use Rattle.kit_text_programs.specs.Same.{AreSameKeys, HaveOwnHandles}

-- these results or arguments have the types that are written there
abbrev pub HasWrittenTypes : KitContext → List (Defined Value TypeHandle) → Type 0
HasWrittenTypes s [] = Unit {0}
HasWrittenTypes s (d ∷ ds) = (type_at s.program d.name ≡ Some d.holds) × HasWrittenTypes s ds

-- so have all in these operations, blocks or regions
abbrev pub AreWritten : KitContext → {k : Sort} → Listed KitOperation KitBlock k → Type 0
AreWritten s end = Unit {0}
AreWritten s (operation h rs rest) = HasWrittenTypes s h.results × AreWritten s rs × AreWritten s rest
AreWritten s (block l os rest) = HasWrittenTypes s l.arguments × AreWritten s os × AreWritten s rest
AreWritten s (region bs rest) = AreWritten s bs × AreWritten s rest

-- and in this operation, itself too
pub record IsWritten (s : KitContext) (t : KitTree) : Type 0 where
  pub results : HasWrittenTypes s t.head.results
  pub inside : AreWritten s t.regions

module _ (s : KitContext) where
  abbrev IsTyped : Defined Value TypeHandle → Type 0
  IsTyped d = type_at s.program d.name ≡ Some d.holds

  abbrev OfOperations : List (Occurrence by_handle (in_program KitOperation KitBlock)) → Type 0
  OfOperations os = (o : Occurrence by_handle (in_program KitOperation KitBlock)) → Has o os →
      (d : Defined Value TypeHandle) → Has d o.head.results → IsTyped d

  abbrev OfBlocks : List (BlockOccurrence by_handle (in_program KitOperation KitBlock)) → Type 0
  OfBlocks bs = (b : BlockOccurrence by_handle (in_program KitOperation KitBlock)) → Has b bs →
      (d : Defined Value TypeHandle) → Has d b.label.arguments → IsTyped d

  list_written : (ds : List (Defined Value TypeHandle)) → ((d : Defined Value TypeHandle) → Has d ds → IsTyped d)
      → HasWrittenTypes s ds
  list_written [] each = tt
  list_written (d ∷ ds) each = (each d (inl refl), list_written ds (λ x h. each x (inr h)))

  tree_written : {k : Sort} (x : Listed KitOperation KitBlock k) (c : Inside by_handle
      (in_program KitOperation KitBlock) k)
      → OfOperations (occurrences_in x c) → OfBlocks (block_occurrences_in x c) → AreWritten s x
  tree_written end c a b = tt
  tree_written (operation h rs rest) c a b = (
    list_written h.results (a (record { site = c; head = h; regions = rs }) (inl refl)),
    tree_written rs (inner h c)
        (λ o i. a o (inr (has-left o (occurrences_in rs (inner h c)) (occurrences_in rest c) i)))
        (λ o i. b o (has-left o (block_occurrences_in rs (inner h c)) (block_occurrences_in rest c) i)),
    tree_written rest c (λ o i. a o (inr (has-right o (occurrences_in rs (inner h c)) (occurrences_in rest c) i)))
        (λ o i. b o (has-right o (block_occurrences_in rs (inner h c)) (block_occurrences_in rest c) i)),
  )
  tree_written (block l os rest) c a b = (
    list_written l.arguments (b (record { spot = c; label = l; operations = os }) (inl refl)),
    tree_written os (record { spot = c; label = l })
        (λ o i. a o (has-left o (occurrences_in os (record { spot = c; label = l })) (occurrences_in rest
        (next_block c)) i))
        (λ o i. b o (inr (has-left o (block_occurrences_in os (record { spot = c; label = l }))
        (block_occurrences_in rest (next_block c)) i))),
    tree_written rest (next_block c)
        (λ o i. a o (has-right o (occurrences_in os (record { spot = c; label = l })) (occurrences_in rest
        (next_block c)) i))
        (λ o i. b o (inr (has-right o (block_occurrences_in os (record { spot = c; label = l }))
        (block_occurrences_in rest (next_block c)) i))),
  )
  tree_written (region bs rest) c a b = (
    tree_written bs c (λ o i. a o (has-left o (occurrences_in bs c) (occurrences_in rest (next_region c)) i))
        (λ o i. b o (has-left o (block_occurrences_in bs c) (block_occurrences_in rest (next_region c)) i)),
    tree_written rest (next_region c)
        (λ o i. a o (has-right o (occurrences_in bs c) (occurrences_in rest (next_region c)) i))
        (λ o i. b o (has-right o (block_occurrences_in bs c) (block_occurrences_in rest (next_region c)) i)),
  )

  pub all_written : (t : KitTree) → HaveWrittenTypes s t → IsWritten s t
  all_written t h = record {
    results = list_written t.head.results h.results;
    inside = tree_written t.regions (at_root t) h.inside.results h.inside.arguments;
  }

  -- ---- types

  same_equal : (j k : KitType) → AreSameKeys j k → (of_types.ghosts).eq j k ≡ true
  same_equal (types.Integer i) (types.Integer j) h =
      subst (λ n. (of_types.ghosts).eq (types.Integer i) (types.Integer n) ≡ true) h (type_laws.laws-law.refl
      (types.Integer i))
  same_equal (types.Function f) (types.Function g) h = functions_equal f g h.0 h.1
  same_equal types.Unit types.Unit h = refl
  same_equal (types.Integer i) (types.Function g) h = absurd h
  same_equal (types.Integer i) types.Unit h = absurd h
  same_equal (types.Function f) (types.Integer j) h = absurd h
  same_equal (types.Function f) types.Unit h = absurd h
  same_equal types.Unit (types.Integer j) h = absurd h
  same_equal types.Unit (types.Function g) h = absurd h

  pub own_handles : HasOneHandleEach s → HaveOwnHandles (key_at s.types)
  own_handles h a b j k at there same = (h a b j k at there).1 (same_equal j k same)
