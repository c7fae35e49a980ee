-- Values that a tree defines, by what is found in it.
use Rattle.std.proofs.Common.{◌⊎◌, inl, inr, ⊎_elim, ◌++◌, refl, subst}
use Rattle.ir_trees.specs.Names.{Names, Contents}
use Rattle.ir_trees.specs.Renames.{names_of}
use Rattle.ir_trees.specs.Trees.{Sort, Operations, Blocks, Regions, Tree, end, operation, block, region}
use Rattle.ir_trees.proofs.Members.{has_front, has_back, has_either}
use Rattle.opt_trees.specs.Occurrences.{Has, Inside, Occurrence, BlockOccurrence, inner, next_block, next_region, occurrences_in, block_occurrences_in, defined_in}

module _ {N : Names} {S : Contents} where
  -- a result of an operation that is found, or an argument of a block
  abbrev pub IsOfFound : {s : Sort} → Tree N S s → Inside N S s → N.value → Type 0
  IsOfFound t i v = ((o : Occurrence N S) × Has o (occurrences_in t i) × Has v (names_of o.head.results)) ⊎ ((x : BlockOccurrence N S) × Has x (block_occurrences_in t i) × Has v (names_of x.label.arguments))

  pub defined_by_found : (s : Sort) (t : Tree N S s) (i : Inside N S s) (v : N.value) → Has v (defined_in t) → IsOfFound t i v
  defined_by_found _ end i v h = absurd h
  defined_by_found _ (operation h rs rest) i v has = ⊎_elim
      (λ a. inl (record { site = i; head = h; regions = rs }, inl refl, a))
      (λ more. ⊎_elim
      (λ a. ⊎_elim
      (λ g. inl (g.0, inr (has_front (occurrences_in rs (inner h i)) (occurrences_in rest i) g.0 g.1), g.2))
      (λ g. inr (g.0, has_front (block_occurrences_in rs (inner h i)) (block_occurrences_in rest i) g.0 g.1, g.2))
      (defined_by_found Regions rs (inner h i) v a))
      (λ b. ⊎_elim
      (λ g. inl (g.0, inr (has_back (occurrences_in rs (inner h i)) (occurrences_in rest i) g.0 g.1), g.2))
      (λ g. inr (g.0, has_back (block_occurrences_in rs (inner h i)) (block_occurrences_in rest i) g.0 g.1, g.2))
      (defined_by_found Operations rest i v b))
      (has_either (defined_in rs) (defined_in rest) v more))
      (has_either (names_of h.results) (defined_in rs ++ defined_in rest) v has)
  defined_by_found _ (block l ops rest) i v has = ⊎_elim
      (λ a. inr (record { spot = i; label = l; operations = ops }, inl refl, a))
      (λ more. ⊎_elim
      (λ a. ⊎_elim
      (λ g. inl (g.0, has_front (occurrences_in ops (record { spot = i; label = l })) (occurrences_in rest (next_block i)) g.0 g.1, g.2))
      (λ g. inr (g.0, inr (has_front (block_occurrences_in ops (record { spot = i; label = l })) (block_occurrences_in rest (next_block i)) g.0 g.1), g.2))
      (defined_by_found Operations ops (record { spot = i; label = l }) v a))
      (λ b. ⊎_elim
      (λ g. inl (g.0, has_back (occurrences_in ops (record { spot = i; label = l })) (occurrences_in rest (next_block i)) g.0 g.1, g.2))
      (λ g. inr (g.0, inr (has_back (block_occurrences_in ops (record { spot = i; label = l })) (block_occurrences_in rest (next_block i)) g.0 g.1), g.2))
      (defined_by_found Blocks rest (next_block i) v b))
      (has_either (defined_in ops) (defined_in rest) v more))
      (has_either (names_of l.arguments) (defined_in ops ++ defined_in rest) v has)
  defined_by_found _ (region bs rest) i v has = ⊎_elim
      (λ a. ⊎_elim
      (λ g. inl (g.0, has_front (occurrences_in bs i) (occurrences_in rest (next_region i)) g.0 g.1, g.2))
      (λ g. inr (g.0, has_front (block_occurrences_in bs i) (block_occurrences_in rest (next_region i)) g.0 g.1, g.2))
      (defined_by_found Blocks bs i v a))
      (λ b. ⊎_elim
      (λ g. inl (g.0, has_back (occurrences_in bs i) (occurrences_in rest (next_region i)) g.0 g.1, g.2))
      (λ g. inr (g.0, has_back (block_occurrences_in bs i) (block_occurrences_in rest (next_region i)) g.0 g.1, g.2))
      (defined_by_found Regions rest (next_region i) v b))
      (has_either (defined_in bs) (defined_in rest) v has)

  pub result_defined : (s : Sort) (t : Tree N S s) (i : Inside N S s) (v : N.value) (o : Occurrence N S) → Has o (occurrences_in t i) → Has v (names_of o.head.results) → Has v (defined_in t)
  result_defined _ end i v o has d = absurd has
  result_defined _ (operation h rs rest) i v o has d = ⊎_elim
      (λ same. has_front (names_of h.results) (defined_in rs ++ defined_in rest) v (subst (λ (z : Occurrence N S). Has v (names_of z.head.results)) same d))
      (λ more. has_back (names_of h.results) (defined_in rs ++ defined_in rest) v (⊎_elim
      (λ a. has_front (defined_in rs) (defined_in rest) v (result_defined Regions rs (inner h i) v o a d))
      (λ b. has_back (defined_in rs) (defined_in rest) v (result_defined Operations rest i v o b d))
      (has_either (occurrences_in rs (inner h i)) (occurrences_in rest i) o more)))
      has
  result_defined _ (block l ops rest) i v o has d = has_back (names_of l.arguments) (defined_in ops ++ defined_in rest) v (⊎_elim
      (λ a. has_front (defined_in ops) (defined_in rest) v (result_defined Operations ops (record { spot = i; label = l }) v o a d))
      (λ b. has_back (defined_in ops) (defined_in rest) v (result_defined Blocks rest (next_block i) v o b d))
      (has_either (occurrences_in ops (record { spot = i; label = l })) (occurrences_in rest (next_block i)) o has))
  result_defined _ (region bs rest) i v o has d = ⊎_elim
      (λ a. has_front (defined_in bs) (defined_in rest) v (result_defined Blocks bs i v o a d))
      (λ b. has_back (defined_in bs) (defined_in rest) v (result_defined Regions rest (next_region i) v o b d))
      (has_either (occurrences_in bs i) (occurrences_in rest (next_region i)) o has)

  pub argument_defined : (s : Sort) (t : Tree N S s) (i : Inside N S s) (v : N.value) (x : BlockOccurrence N S) → Has x (block_occurrences_in t i) → Has v (names_of x.label.arguments) → Has v (defined_in t)
  argument_defined _ end i v x has d = absurd has
  argument_defined _ (operation h rs rest) i v x has d = has_back (names_of h.results) (defined_in rs ++ defined_in rest) v (⊎_elim
      (λ a. has_front (defined_in rs) (defined_in rest) v (argument_defined Regions rs (inner h i) v x a d))
      (λ b. has_back (defined_in rs) (defined_in rest) v (argument_defined Operations rest i v x b d))
      (has_either (block_occurrences_in rs (inner h i)) (block_occurrences_in rest i) x has))
  argument_defined _ (block l ops rest) i v x has d = ⊎_elim
      (λ same. has_front (names_of l.arguments) (defined_in ops ++ defined_in rest) v (subst (λ (z : BlockOccurrence N S). Has v (names_of z.label.arguments)) same d))
      (λ more. has_back (names_of l.arguments) (defined_in ops ++ defined_in rest) v (⊎_elim
      (λ a. has_front (defined_in ops) (defined_in rest) v (argument_defined Operations ops (record { spot = i; label = l }) v x a d))
      (λ b. has_back (defined_in ops) (defined_in rest) v (argument_defined Blocks rest (next_block i) v x b d))
      (has_either (block_occurrences_in ops (record { spot = i; label = l })) (block_occurrences_in rest (next_block i)) x more)))
      has
  argument_defined _ (region bs rest) i v x has d = ⊎_elim
      (λ a. has_front (defined_in bs) (defined_in rest) v (argument_defined Blocks bs i v x a d))
      (λ b. has_back (defined_in bs) (defined_in rest) v (argument_defined Regions rest (next_region i) v x b d))
      (has_either (block_occurrences_in bs i) (block_occurrences_in rest (next_region i)) x has)
