-- Regions in operations: what the forest's lists say of the handles.
use Rattle.std.proofs.Common.{◌≡◌, ℕ, ◌<◌, ◌^◌, true, map, length, Option, Some, None, IsSome, IfSome, slice_get, get_or, refl, sym, ap, subst, ◌∙◌}
use Rattle.std.specs.List.{All}
use Rattle.std.proofs.lemmas.Option.{slice_get-get_or}
use Rattle.std.proofs.lemmas.Bool.{both_ways}
use Rattle.std.proofs.lemmas.List.{length-map}
use Rattle.ir_arena.specs.Arena.{get, held}
use Rattle.ir_entities.specs.Links.{has, list_at, IsLinked, IsUnlinked}
use Rattle.ir_program.specs.Program.{Program, OperationView, operation_at, region_at, operation_of}
use Rattle.ir_program.specs.Listed.{AreListed}
use Rattle.ir_program.specs.Lists.{regions_in, StandsInOperation}
use Rattle.ir_program.specs.declared.handles.Ptr.{Ptr}
use Rattle.ir_program.specs.declared.handles.Operation.{Operation}
use Rattle.ir_program.specs.declared.handles.Region.{Region}
use Rattle.ir_program.proofs.lists.Slotted.{of_slot, held_is, list_of_some, some_of_list}
use Rattle.ir_program.proofs.lists.There.{region_got, region_there, operation_got, operation_there}
use Rattle.ir_program.proofs.lists.Levels.{IsLevel, item_live, stands_in, one_holder, one_index}

module _ {O B : Type 0} (c : Program O B) where
  abbrev pub IsLevelOfOperations : Type 0
  IsLevelOfOperations = IsLevel c.forest.regions c.forest.ops c.forest.in_ops.lists (regions_in c)

  pub in_ops : AreListed c → IsLevelOfOperations
  in_ops known = record {
    some = λ b k p h. some_of_list (λ (v : OperationView O). v.regions) (operation_of c b) (get c.forest.ops b.key) k p h;
    all = λ b live. list_of_some (λ (v : OperationView O). v.regions) (operation_of c b) (get c.forest.ops b.key) (map (of_slot c.forest.regions) (list_at c.forest.in_ops.lists b.key.slot)) (λ a. refl) live;
    members = λ b i h. known.forest.regions.members b i h;
    holders = λ b i h. known.forest.regions.holders b i h;
    apart = known.regions_apart;
    distinct = known.regions_once;
  }

  module _ (level : IsLevelOfOperations) where
    pub stands_in_operation : (b : Ptr Operation) (k : ℕ) (p : Ptr Region) → slice_get (regions_in c b) k ≡ Some p → StandsInOperation c p b
    stands_in_operation b k p h = record {
      region = region_there c p (item_live c.forest.regions c.forest.ops c.forest.in_ops.lists (regions_in c) level b k p h);
      operation = operation_there c b (level.some b k p h);
      index = k;
      here = h;
    }

    pub one_operation : (p : Ptr Region) (a b : Ptr Operation) → StandsInOperation c p a → StandsInOperation c p b → a ≡ b
    one_operation p a b s t = one_holder c.forest.regions c.forest.ops c.forest.in_ops.lists (regions_in c) level p a b s.index t.index s.here t.here

    pub operation_of_slot : (p : Ptr Region) (b : ℕ) → IsSome (region_at c p) → has p.key.slot (list_at c.forest.in_ops.lists b) ≡ true → StandsInOperation c p (of_slot c.forest.ops b)
    operation_of_slot p b live h =
        let at : (k : ℕ) × (slice_get (regions_in c (of_slot c.forest.ops b)) k ≡ Some p) = stands_in c.forest.regions c.forest.ops c.forest.in_ops.lists (regions_in c) level b p (region_got c p live) h in
        stands_in_operation (of_slot c.forest.ops b) at.0 p at.1

-- what the answers of the forest's calls say by handles
module _ {O B : Type 0} (i c : Program O B) (seen : i ≡ c) (known : AreListed c) where
  level : IsLevelOfOperations c
  level = in_ops c known

  pub regions_fit : ((b : ℕ) → length (list_at i.forest.in_ops.lists b) < 2 ^ 64) → (b : Ptr Operation) → IsSome (operation_at c b) → length (regions_in c b) < 2 ^ 64
  regions_fit short b live =
      let as_long : length (regions_in c b) ≡ length (list_at c.forest.in_ops.lists b.key.slot) = ap length (level.all b (operation_got c b live)) ∙ length-map (list_at c.forest.in_ops.lists b.key.slot) (of_slot c.forest.regions) in
      let fits : length (list_at c.forest.in_ops.lists b.key.slot) < 2 ^ 64 = subst (λ (w : Program O B). length (list_at w.forest.in_ops.lists b.key.slot) < 2 ^ 64) seen (short b.key.slot) in
      rw as_long fits

  module _ (p : Ptr Region) (live : IsSome (region_at c p)) where
    -- no region stands nowhere
    pub has_home : ((r : ℕ) → IsSome (held i.forest.regions r) → IsLinked i.forest.in_ops.lists r) → IsUnlinked i.forest.in_ops.lists p.key.slot → ⊥
    has_home homes root =
        let used : IsSome (held i.forest.regions p.key.slot) = subst (λ (w : Program O B). IsSome (held w.forest.regions p.key.slot)) (sym seen) (held_is c.forest.regions p.key (region_got c p live)) in
        let home : IsLinked i.forest.in_ops.lists p.key.slot = homes p.key.slot used in
        both_ways (has p.key.slot (list_at i.forest.in_ops.lists home.0)) (root home.0) home.1

    pub parent_op_stands : (b : ℕ) → has p.key.slot (list_at i.forest.in_ops.lists b) ≡ true → StandsInOperation c p (of_slot c.forest.ops b)
    parent_op_stands b h = operation_of_slot c level p b live (subst (λ (w : Program O B). has p.key.slot (list_at w.forest.in_ops.lists b) ≡ true) seen h)

    pub parent_op_held : (b : ℕ) → has p.key.slot (list_at i.forest.in_ops.lists b) ≡ true → IsSome (held c.forest.ops b)
    parent_op_held b h = level.holders b p.key.slot (subst (λ (w : Program O B). has p.key.slot (list_at w.forest.in_ops.lists b) ≡ true) seen h)

    pub only_parent_op : (a b : Ptr Operation) → StandsInOperation c p a → StandsInOperation c p b → a ≡ b
    only_parent_op a b s t = one_operation c level p a b s t

    pub only_region_index : (a b : Ptr Operation) (j k : ℕ) → slice_get (regions_in c a) j ≡ Some p → slice_get (regions_in c b) k ≡ Some p → j ≡ k
    only_region_index a b j k g h = one_index c.forest.regions c.forest.ops c.forest.in_ops.lists (regions_in c) level p a b j k g h

pub region_stands : {O B : Type 0} (c : Program O B) → AreListed c → (b : Ptr Operation) (k : ℕ) (o : Option (Ptr Region)) → o ≡ slice_get (regions_in c b) k → IfSome o (λ p. StandsInOperation c p b)
region_stands c known b k None e = tt
region_stands c known b k (Some p) e = stands_in_operation c (in_ops c known) b k p (sym e)

pub all_regions_stand : {O B : Type 0} (c : Program O B) → AreListed c → (b : Ptr Operation) → All (λ p. StandsInOperation c p b) (regions_in c b)
all_regions_stand c known b k p lt = stands_in_operation c (in_ops c known) b k (get_or (regions_in c b) k p) (slice_get-get_or (regions_in c b) k p lt)
