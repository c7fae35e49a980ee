-- What is defined in a tree is a result of an operation there or an argument of a block there.
use Rattle.std.proofs.Common.{◌⊎◌, ⊎_elim, inl, inr, List, ◌++◌, refl, subst}
use Rattle.ir_trees.specs.Names.{Names, Contents}
use Rattle.ir_trees.specs.Renames.{names_of}
use Rattle.ir_trees.specs.Trees.{Sort, Tree, end, operation, block, region}
use Rattle.opt_trees.specs.Occurrences.{Has, Occurrence, BlockOccurrence, OperationSite, Inside, inner, next_block, next_region, occurrences_in, block_occurrences_in, defined_in}
use Rattle.opt_trees.proofs.NoneDead.{has-append, has-left, has-right}

module _ {N : Names} {S : Contents} where
  pub result_defined : {s : Sort} (t : Tree N S s) (c : Inside N S s) (o : Occurrence N S) (v : N.value) → Has o (occurrences_in t c) → Has v (names_of o.head.results) → Has v (defined_in t)
  result_defined end c o v h r = absurd h
  result_defined (operation k rs rest) c o v h r =
      let right = λ (q : Has v (defined_in rs ++ defined_in rest)). has-right v (names_of k.results) (defined_in rs ++ defined_in rest) q in
      ⊎_elim
      (λ z. has-left v (names_of k.results) (defined_in rs ++ defined_in rest) (subst (λ y. Has v (names_of y.head.results)) z r))
      (λ z. right (⊎_elim
      (λ y. has-left v (defined_in rs) (defined_in rest) (result_defined rs (inner k c) o v y r))
      (λ y. has-right v (defined_in rs) (defined_in rest) (result_defined rest c o v y r))
      (has-append o (occurrences_in rs (inner k c)) (occurrences_in rest c) z))) h
  result_defined (block l ops rest) c o v h r = has-right v (names_of l.arguments) (defined_in ops ++ defined_in rest) (⊎_elim
      (λ y. has-left v (defined_in ops) (defined_in rest) (result_defined ops (record { spot = c; label = l }) o v y r))
      (λ y. has-right v (defined_in ops) (defined_in rest) (result_defined rest (next_block c) o v y r))
      (has-append o (occurrences_in ops (record { spot = c; label = l })) (occurrences_in rest (next_block c)) h))
  result_defined (region bs rest) c o v h r = ⊎_elim
      (λ y. has-left v (defined_in bs) (defined_in rest) (result_defined bs c o v y r))
      (λ y. has-right v (defined_in bs) (defined_in rest) (result_defined rest (next_region c) o v y r))
      (has-append o (occurrences_in bs c) (occurrences_in rest (next_region c)) h)

  pub argument_defined : {s : Sort} (t : Tree N S s) (c : Inside N S s) (x : BlockOccurrence N S) (v : N.value) → Has x (block_occurrences_in t c) → Has v (names_of x.label.arguments) → Has v (defined_in t)
  argument_defined end c x v h r = absurd h
  argument_defined (operation k rs rest) c x v h r = has-right v (names_of k.results) (defined_in rs ++ defined_in rest) (⊎_elim
      (λ y. has-left v (defined_in rs) (defined_in rest) (argument_defined rs (inner k c) x v y r))
      (λ y. has-right v (defined_in rs) (defined_in rest) (argument_defined rest c x v y r))
      (has-append x (block_occurrences_in rs (inner k c)) (block_occurrences_in rest c) h))
  argument_defined (block l ops rest) c x v h r =
      let right = λ (q : Has v (defined_in ops ++ defined_in rest)). has-right v (names_of l.arguments) (defined_in ops ++ defined_in rest) q in
      ⊎_elim
      (λ z. has-left v (names_of l.arguments) (defined_in ops ++ defined_in rest) (subst (λ y. Has v (names_of y.label.arguments)) z r))
      (λ z. right (⊎_elim
      (λ y. has-left v (defined_in ops) (defined_in rest) (argument_defined ops (record { spot = c; label = l }) x v y r))
      (λ y. has-right v (defined_in ops) (defined_in rest) (argument_defined rest (next_block c) x v y r))
      (has-append x (block_occurrences_in ops (record { spot = c; label = l })) (block_occurrences_in rest (next_block c)) z))) h
  argument_defined (region bs rest) c x v h r = ⊎_elim
      (λ y. has-left v (defined_in bs) (defined_in rest) (argument_defined bs c x v y r))
      (λ y. has-right v (defined_in bs) (defined_in rest) (argument_defined rest (next_region c) x v y r))
      (has-append x (block_occurrences_in bs c) (block_occurrences_in rest (next_region c)) h)

  -- an operation of which the value is a result
  pub record ByResult (os : List (Occurrence N S)) (v : N.value) : Type 0 where
    pub it : Occurrence N S
    pub stands : Has it os
    pub value : Has v (names_of it.head.results)

  -- a block of which it is an argument
  pub record ByArgument (xs : List (BlockOccurrence N S)) (v : N.value) : Type 0 where
    pub it : BlockOccurrence N S
    pub stands : Has it xs
    pub value : Has v (names_of it.label.arguments)

  abbrev pub Definer : List (Occurrence N S) → List (BlockOccurrence N S) → N.value → Type 0
  Definer os xs v = ByResult os v ⊎ ByArgument xs v

  definer_in : {os ps : List (Occurrence N S)} {xs ys : List (BlockOccurrence N S)} {v : N.value} → ((o : Occurrence N S) → Has o os → Has o ps) → ((x : BlockOccurrence N S) → Has x xs → Has x ys) → ByResult os v ⊎ ByArgument xs v → ByResult ps v ⊎ ByArgument ys v
  definer_in f g p = ⊎_elim (λ q. inl (record { it = q.it; stands = f q.it q.stands; value = q.value })) (λ q. inr (record { it = q.it; stands = g q.it q.stands; value = q.value })) p

  pub definer : {s : Sort} (t : Tree N S s) (c : Inside N S s) (v : N.value) → Has v (defined_in t) → Definer (occurrences_in t c) (block_occurrences_in t c) v
  definer end c v h = absurd h
  definer (operation k rs rest) c v h = ⊎_elim
      (λ z. inl (record { it = record { site = c; head = k; regions = rs }; stands = inl refl; value = z }))
      (λ z. ⊎_elim
      (λ y. definer_in
      (λ o w. inr (has-left o (occurrences_in rs (inner k c)) (occurrences_in rest c) w))
      (λ x w. has-left x (block_occurrences_in rs (inner k c)) (block_occurrences_in rest c) w)
      (definer rs (inner k c) v y))
      (λ y. definer_in
      (λ o w. inr (has-right o (occurrences_in rs (inner k c)) (occurrences_in rest c) w))
      (λ x w. has-right x (block_occurrences_in rs (inner k c)) (block_occurrences_in rest c) w)
      (definer rest c v y))
      (has-append v (defined_in rs) (defined_in rest) z))
      (has-append v (names_of k.results) (defined_in rs ++ defined_in rest) h)
  definer (block l ops rest) c v h =
      let b : OperationSite N S = record { spot = c; label = l } in
      ⊎_elim
      (λ z. inr (record { it = record { spot = c; label = l; operations = ops }; stands = inl refl; value = z }))
      (λ z. ⊎_elim
      (λ y. definer_in
      (λ o w. has-left o (occurrences_in ops b) (occurrences_in rest (next_block c)) w)
      (λ x w. inr (has-left x (block_occurrences_in ops b) (block_occurrences_in rest (next_block c)) w))
      (definer ops b v y))
      (λ y. definer_in
      (λ o w. has-right o (occurrences_in ops b) (occurrences_in rest (next_block c)) w)
      (λ x w. inr (has-right x (block_occurrences_in ops b) (block_occurrences_in rest (next_block c)) w))
      (definer rest (next_block c) v y))
      (has-append v (defined_in ops) (defined_in rest) z))
      (has-append v (names_of l.arguments) (defined_in ops ++ defined_in rest) h)
  definer (region bs rest) c v h = ⊎_elim
      (λ y. definer_in
      (λ o w. has-left o (occurrences_in bs c) (occurrences_in rest (next_region c)) w)
      (λ x w. has-left x (block_occurrences_in bs c) (block_occurrences_in rest (next_region c)) w)
      (definer bs c v y))
      (λ y. definer_in
      (λ o w. has-right o (occurrences_in bs c) (occurrences_in rest (next_region c)) w)
      (λ x w. has-right x (block_occurrences_in bs c) (block_occurrences_in rest (next_region c)) w)
      (definer rest (next_region c) v y))
      (has-append v (defined_in bs) (defined_in rest) h)
