-- What is made of the parts that were read, given by the pieces that they are.
use Rattle.std.specs.Prelude.{◌≡◌, ℕ, List, Option, Some, None, slice_get}
use Rattle.ir_base.specs.declared.types.TypeHandle.{TypeHandle}
use Rattle.ir_names.specs.Tree.{node}
use Rattle.ir_print.specs.declared.format.Part.{Part}
use Rattle.ir_print.specs.Pieces.{Pieces, Values, value_of_kind}
use Rattle.ir_print.specs.declared.format.ValueSort.TheVariants as sorts
use Rattle.ir_print.specs.Shown.{Saying, ShowsParts, ShowsKey, ShowsAttribute, Drafts}

module _ {D K A T : Type 0} (says : Saying K A T) (values : Values) where
  -- whatever pieces the parts are of a type of the kind: they aren't refused, and the key says them
  abbrev pub MakesType : {C : Type 0} → List C → C → List (Part D K A T) → T → Type 0
  MakesType kinds kind parts key = (n : ℕ) (ps : Pieces) (types : List T) → slice_get kinds n ≡ Some kind → ShowsParts says types parts ps →
      (values.refused_type n ps ≡ None) × ShowsKey says types key n ps

  -- they are refused, and this is the first that is
  abbrev pub RefusesType : {C : Type 0} → List C → C → List (Part D K A T) → ℕ → Type 0
  RefusesType kinds kind parts i = (n : ℕ) (ps : Pieces) (types : List T) → slice_get kinds n ≡ Some kind → ShowsParts says types parts ps →
      values.refused_type n ps ≡ Some i

  -- the same of an attribute, which says its own pieces by the types after it was made
  abbrev pub MakesAttribute : {C : Type 0} → List C → C → (old new : List T) → List (Part D K A T) → A → Type 0
  MakesAttribute kinds kind old new parts attr = (n : ℕ) (ps : Pieces) → slice_get kinds n ≡ Some kind → ShowsParts says old parts ps →
      (values.refused_attribute n ps ≡ None) × ShowsAttribute says new attr (node (value_of_kind sorts.Attribute n) (values.canonical n ps))

  abbrev pub RefusesAttribute : {C : Type 0} → List C → C → List T → List (Part D K A T) → ℕ → Type 0
  RefusesAttribute kinds kind old parts i = (n : ℕ) (ps : Pieces) → slice_get kinds n ≡ Some kind → ShowsParts says old parts ps →
      values.refused_attribute n ps ≡ Some i

  -- the same of an operation, made with these attributes and results of these types
  abbrev pub MakesOperation : (ℕ → Option K) → K → (old new : List T) → List (Part D K A T) → List (List ℕ × A) → List TypeHandle → Type 0
  MakesOperation kind_at kind old new parts attributes result_types = (n : ℕ) (ps : Pieces) → kind_at n ≡ Some kind → ShowsParts says old parts ps →
      (values.refused_operation n ps ≡ None) × Drafts says new values kind n ps attributes result_types

  abbrev pub RefusesOperation : (ℕ → Option K) → K → List T → List (Part D K A T) → ℕ → Type 0
  RefusesOperation kind_at kind old parts i = (n : ℕ) (ps : Pieces) → kind_at n ≡ Some kind → ShowsParts says old parts ps →
      values.refused_operation n ps ≡ Some i
