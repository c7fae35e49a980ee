-- The types that a closed text says have nothing below what has no pieces of its own.
use Rattle.std.proofs.Common.{⊎_elim, inl, inr, ℕ, zero, suc, List, [], ◌∷◌, ◌++◌, map, Option, Some, None, refl, sym}
use Rattle.std.proofs.Common.{subst}
use Rattle.ir_forest.specs.Bare.{IsBare, AreBare, AreBareArguments, IsBareTree, AreBareTrees}
use Rattle.ir_forest.specs.Closed.{IsClosedTree, IsOperation, AreRegions, IsRegion, AreBlocks, IsBlock, AreOperations}
use Rattle.ir_names.specs.Tree.{node, no_tree, a_tree}
use Rattle.ir_print.specs.Pieces.{value_of_kind, list, item, operands, successor, region, leaf, name, number, width, chosen, unsigned, quoted, mark}
use Rattle.ir_print.specs.Pieces.{ValueTree, Pieces, operation, a_region, block, Entity, entity, Entities, no_entity}
use Rattle.ir_print.specs.Pieces.{an_entity}
use Rattle.kit_language.specs.Language.{kit_language}
use Rattle.kit.specs.Forms.{OpForm, NamedRegion, TypedRegion, Value, TwoOperands, OneOperand, AnyOperands, Empty, Edge, ConditionEdges}
use Rattle.kit.specs.Forms.{Called}
use Rattle.kit.specs.Says.{values, form_at, integer_types, constant_types, pair_types, member_types, types_returned}
use Rattle.kit.specs.Says.{call_types, result_types_in}
use Rattle.kit.specs.Says.{result_types_by}
use Rattle.opt_trees.specs.Occurrences.{Has}
use Rattle.opt_trees.proofs.NoneDead.{has-append}
use Rattle.ir_print.specs.declared.format.ValueSort.TheVariants as sorts
use Rattle.kit_text_programs.specs.SameLaws.{types_among, types_in_text, types_in_texts}

-- each of these is bare
abbrev AllBare : List ValueTree → Type 0
AllBare rs = (r : ValueTree) → Has r rs → IsBare r

both_bare : (rs qs : List ValueTree) → AllBare rs → AllBare qs → AllBare (rs ++ qs)
both_bare rs qs h k r has = ⊎_elim (h r) (k r) (has-append r rs qs has)

one_bare : (t : ValueTree) → IsBare t → AllBare (t ∷ [])
one_bare t b r (inl e) = subst IsBare (sym e) b
one_bare t b r (inr h) = absurd h

-- types among pieces
among_bare : (ts : Pieces) → AreBare ts → AllBare (types_among ts)
among_bare no_tree b r h = absurd h
among_bare (a_tree (node (value_of_kind sorts.«Type» n) us) ts) b r (inl e) = subst IsBare (sym e) b.0
among_bare (a_tree (node (value_of_kind sorts.«Type» n) us) ts) b r (inr h) = among_bare ts b.1 r h
among_bare (a_tree (node (value_of_kind sorts.Attribute n) us) ts) b r h = among_bare ts b.1 r h
among_bare (a_tree (node list us) ts) b r h = among_bare ts b.1 r h
among_bare (a_tree (node item us) ts) b r h = among_bare ts b.1 r h
among_bare (a_tree (node (chosen n) us) ts) b r h = among_bare ts b.1 r h
among_bare (a_tree (node (operands n) us) ts) b r h = among_bare ts b.1 r h
among_bare (a_tree (node (successor n) us) ts) b r h = among_bare ts b.1 r h
among_bare (a_tree (node region us) ts) b r h = among_bare ts b.1 r h
among_bare (a_tree (node (leaf x) us) ts) b r h = among_bare ts b.1 r h

-- the type of an integer, and of a constant
integer_bare : (ts : Pieces) → AllBare (integer_types ts)
integer_bare no_tree r h = absurd h
integer_bare (a_tree t no_tree) r h = absurd h
integer_bare (a_tree t (a_tree (node (leaf (width s w)) us) no_tree)) r (inl e) = subst IsBare (sym e) (refl, tt)
integer_bare (a_tree t (a_tree (node (leaf (width s w)) us) no_tree)) r (inr h) = absurd h
integer_bare (a_tree t (a_tree (node (leaf (width s w)) us) (a_tree v ts))) r h = absurd h
integer_bare (a_tree t (a_tree (node (value_of_kind sort n) us) ts)) r h = absurd h
integer_bare (a_tree t (a_tree (node list us) ts)) r h = absurd h
integer_bare (a_tree t (a_tree (node item us) ts)) r h = absurd h
integer_bare (a_tree t (a_tree (node (chosen n) us) ts)) r h = absurd h
integer_bare (a_tree t (a_tree (node (operands n) us) ts)) r h = absurd h
integer_bare (a_tree t (a_tree (node (successor n) us) ts)) r h = absurd h
integer_bare (a_tree t (a_tree (node region us) ts)) r h = absurd h
integer_bare (a_tree t (a_tree (node (leaf (name cs)) us) ts)) r h = absurd h
integer_bare (a_tree t (a_tree (node (leaf (number m n)) us) ts)) r h = absurd h
integer_bare (a_tree t (a_tree (node (leaf (unsigned n)) us) ts)) r h = absurd h
integer_bare (a_tree t (a_tree (node (leaf (quoted cs)) us) ts)) r h = absurd h
integer_bare (a_tree t (a_tree (node (leaf (mark n)) us) ts)) r h = absurd h

constant_bare : (ts : Pieces) → AllBare (constant_types ts)
constant_bare no_tree r h = absurd h
constant_bare (a_tree (node (value_of_kind sorts.Attribute zero) us) no_tree) r h = integer_bare us r h
constant_bare (a_tree (node (value_of_kind sorts.Attribute zero) us) (a_tree t ts)) r h = absurd h
constant_bare (a_tree (node (value_of_kind sorts.Attribute (suc n)) us) no_tree) r (inl e) = subst IsBare (sym e) tt
constant_bare (a_tree (node (value_of_kind sorts.Attribute (suc n)) us) no_tree) r (inr h) = absurd h
constant_bare (a_tree (node (value_of_kind sorts.Attribute (suc n)) us) (a_tree t ts)) r h = absurd h
constant_bare (a_tree (node (value_of_kind sorts.«Type» n) us) ts) r h = absurd h
constant_bare (a_tree (node list us) ts) r h = absurd h
constant_bare (a_tree (node item us) ts) r h = absurd h
constant_bare (a_tree (node (chosen n) us) ts) r h = absurd h
constant_bare (a_tree (node (operands n) us) ts) r h = absurd h
constant_bare (a_tree (node (successor n) us) ts) r h = absurd h
constant_bare (a_tree (node region us) ts) r h = absurd h
constant_bare (a_tree (node (leaf x) us) ts) r h = absurd h

-- the type that pieces of two operands and a type end with
pair_bare : (ts : Pieces) → AreBare ts → AllBare (pair_types ts)
pair_bare no_tree b r h = absurd h
pair_bare (a_tree t no_tree) b r h = absurd h
pair_bare (a_tree t (a_tree u no_tree)) b r h = absurd h
pair_bare (a_tree t (a_tree u (a_tree v no_tree))) b r (inl e) = subst IsBare (sym e) b.1.1.0
pair_bare (a_tree t (a_tree u (a_tree v no_tree))) b r (inr h) = absurd h
pair_bare (a_tree t (a_tree u (a_tree v (a_tree w ts)))) b r h = absurd h

-- the types of the members of a list, and of the results of a function type, which pieces of a call end with
members_bare : (ts : Pieces) → AreBare ts → AllBare (member_types ts)
members_bare no_tree b r h = absurd h
members_bare (a_tree (node item (a_tree t no_tree)) ts) b r (inl e) = subst IsBare (sym e) b.0.0
members_bare (a_tree (node item (a_tree t no_tree)) ts) b r (inr h) = members_bare ts b.1 r h
members_bare (a_tree (node item no_tree) ts) b r h = members_bare ts b.1 r h
members_bare (a_tree (node item (a_tree t (a_tree u us))) ts) b r h = members_bare ts b.1 r h
members_bare (a_tree (node list us) ts) b r h = members_bare ts b.1 r h
members_bare (a_tree (node (chosen n) us) ts) b r h = members_bare ts b.1 r h
members_bare (a_tree (node (value_of_kind sort n) us) ts) b r h = members_bare ts b.1 r h
members_bare (a_tree (node (operands n) us) ts) b r h = members_bare ts b.1 r h
members_bare (a_tree (node (successor n) us) ts) b r h = members_bare ts b.1 r h
members_bare (a_tree (node region us) ts) b r h = members_bare ts b.1 r h
members_bare (a_tree (node (leaf x) us) ts) b r h = members_bare ts b.1 r h

returned_bare : (t : ValueTree) → IsBare t → AllBare (types_returned t)
returned_bare (node (value_of_kind sorts.«Type» (suc zero)) (a_tree t (a_tree (node list us) no_tree))) b r h =
    members_bare us b.1.0 r h
returned_bare _ b r h = absurd h

call_bare : (ts : Pieces) → AreBare ts → AllBare (call_types ts)
call_bare (a_tree t (a_tree u (a_tree v no_tree))) b r h = returned_bare v b.1.1.0 r h
call_bare _ b r h = absurd h

-- the types of results
results_in_bare : (form : OpForm) (ts : Pieces) → AreBare ts → AllBare (result_types_in form ts)
results_in_bare Value ts b r h = constant_bare ts r h
results_in_bare TwoOperands ts b r h = pair_bare ts b r h
results_in_bare NamedRegion ts b r h = absurd h
results_in_bare TypedRegion ts b r h = absurd h
results_in_bare OneOperand ts b r h = absurd h
results_in_bare AnyOperands ts b r h = absurd h
results_in_bare Empty ts b r h = one_bare (node (value_of_kind sorts.«Type» 2) no_tree) tt r h
results_in_bare Called ts b r h = call_bare ts b r h
results_in_bare Edge ts b r h = absurd h
results_in_bare ConditionEdges ts b r h = absurd h

results_bare : (form : Option OpForm) (ts : Pieces) → AreBare ts → AllBare (result_types_by form ts)
results_bare None ts b r h = absurd h
results_bare (Some form) ts b r h = results_in_bare form ts b r h

-- the types of arguments
arguments_bare : (xs : List (ℕ × ValueTree)) → AreBareArguments xs → AllBare (map (λ (x : ℕ × ValueTree). x.1) xs)
arguments_bare [] b r h = absurd h
arguments_bare (x ∷ xs) b r (inl e) = subst IsBare (sym e) b.0
arguments_bare (x ∷ xs) b r (inr h) = arguments_bare xs b.1 r h

mutual
  operation_bare : (t : Entity ℕ) → IsOperation values t → IsBareTree t → AllBare (types_in_text t)
  operation_bare (entity (operation kind results used successors pieces) ts) o b =
      both_bare (map (λ (x : ℕ × ValueTree). x.1) results ++ types_among pieces) (types_in_texts ts)
      (both_bare (map (λ (x : ℕ × ValueTree). x.1) results) (types_among pieces)
      (subst AllBare (sym o.0) (results_bare (form_at kind) pieces b.0)) (among_bare pieces b.0))
      (regions_bare ts o.3 b.1)
  operation_bare (entity a_region ts) o b = absurd o
  operation_bare (entity (block named label arguments) ts) o b = absurd o

  regions_bare : (ts : Entities ℕ) → AreRegions values ts → AreBareTrees ts → AllBare (types_in_texts ts)
  regions_bare no_entity o b r h = absurd h
  regions_bare (an_entity t ts) o b r h = both_bare (types_in_text t) (types_in_texts ts) (region_bare t o.0 b.0) (regions_bare ts o.1 b.1) r h

  region_bare : (t : Entity ℕ) → IsRegion values t → IsBareTree t → AllBare (types_in_text t)
  region_bare (entity a_region ts) o b = blocks_bare ts o b.1
  region_bare (entity (operation kind results used successors pieces) ts) o b = absurd o
  region_bare (entity (block named label arguments) ts) o b = absurd o

  blocks_bare : (ts : Entities ℕ) → AreBlocks values ts → AreBareTrees ts → AllBare (types_in_texts ts)
  blocks_bare no_entity o b r h = absurd h
  blocks_bare (an_entity t ts) o b r h = both_bare (types_in_text t) (types_in_texts ts) (block_bare t o.0 b.0) (blocks_bare ts o.1 b.1) r h

  block_bare : (t : Entity ℕ) → IsBlock values t → IsBareTree t → AllBare (types_in_text t)
  block_bare (entity (block named label arguments) ts) o b =
      both_bare (map (λ (x : ℕ × ValueTree). x.1) arguments) (types_in_texts ts) (arguments_bare arguments b.0) (operations_bare ts o b.1)
  block_bare (entity (operation kind results used successors pieces) ts) o b = absurd o
  block_bare (entity a_region ts) o b = absurd o

  operations_bare : (ts : Entities ℕ) → AreOperations values ts → AreBareTrees ts → AllBare (types_in_texts ts)
  operations_bare no_entity o b r h = absurd h
  operations_bare (an_entity t ts) o b r h = both_bare (types_in_text t) (types_in_texts ts) (operation_bare t o.0 b.0) (operations_bare ts o.1 b.1) r h

-- what a closed text says
pub closed_bare : (t : Entity ℕ) → IsClosedTree kit_language t → AllBare (types_in_text t)
closed_bare t closed = operation_bare t closed.operation closed.bare
