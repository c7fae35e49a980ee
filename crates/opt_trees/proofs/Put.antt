-- What stands in a tree with constants put in: what stood there, and the constants.
use Rattle.std.proofs.Common.{◌≡◌, ◌⊎◌, ⊎_elim, inl, inr, List, [], ◌∷◌, ◌++◌, Option, Some, None, refl, sym, ap, ◌∙◌, subst}
use Rattle.std.specs.Prelude.{map}
use Rattle.ir_trees.specs.Names.{Names, Contents}
use Rattle.ir_trees.specs.Renames.{rename_defined, names_of}
use Rattle.ir_trees.specs.Trees.{Defined, Head, Label, Sort, Operations, Blocks, Regions, Tree, end, operation, block, region}
use Rattle.opt_trees.specs.Occurrences.{Has, Occurrence, BlockOccurrence, OperationSite, Inside, inner, next_block, next_region, occurrences_in, block_occurrences_in, defined_in}
use Rattle.opt_trees.specs.Dialect.{Dialect}
use Rattle.opt_trees.specs.Sccp.{Name, Old, New, fresh, constant_head, constant_before, put_one, put_results, put_arguments, old_head, old_label, put}
use Rattle.opt_trees.proofs.Lists.{names-map, has-map, none_some, some_same}
use Rattle.opt_trees.proofs.NoneDead.{has-append, has-left, has-right}

-- the two places are in blocks of one name
abbrev pub InBlock : (N : Names) (S : Contents) (s : Sort) → Inside N S s → Inside (fresh N) S s → Type 0
InBlock N S Operations c e = e.label.name ≡ c.label.name
InBlock N S Blocks c e = Unit {0}
InBlock N S Regions c e = Unit {0}

old_name : {V T : Type 0} (v : V) (vs : List (Defined V T)) → Has v (names_of vs) → Has {X = Name V V} (Old v) (names_of (map (rename_defined Old) vs))
old_name v vs h = subst (Has (Old v)) (sym (names-map Old vs)) (has-map Old v (names_of vs) h)

pub old_same : {V T : Type 0} (v : V) (vs : List (Defined V T)) → Has {X = Name V V} (Old v) (names_of (map (rename_defined Old) vs)) → Has v (names_of vs)
old_same v [] h = absurd h
old_same {V} v (u ∷ vs) h = ⊎_elim (λ e. inl (same v u.name e)) (λ z. inr (old_same v vs z)) h
  where
    same : (x y : V) → ◌≡◌ {A = Name V V} (Old x) (Old y) → x ≡ y
    same x y e = cc e

module _ {N : Names} {S : Contents} {A : Type 0} (d : Dialect S A) (made : N.value → Option A) where
  -- it is what an operation has become
  pub record PutOf (o : Occurrence N S) (p : Occurrence (fresh N) S) : Type 0 where
    pub block : p.site.label.name ≡ o.site.label.name
    pub head : p.head ≡ old_head {N = N} made o.head
    pub regions : p.regions ≡ put {N = N} d made o.regions

  -- it is the constant of a value
  pub record ConstantFor (v : N.value) (a : A) (c : S.of_operation) (b : N.block) (p : Occurrence (fresh N) S) : Type 0 where
    pub gets : made v ≡ Some a
    pub made_by : d.constant a ≡ Some c
    pub block : p.site.label.name ≡ b
    pub head : p.head ≡ constant_head {N = N} d v a c
    pub regions : p.regions ≡ end

  abbrev pub Constant : Occurrence (fresh N) S → Type 0
  Constant p = (v : N.value) × (a : A) × (c : S.of_operation) × ConstantFor v a c p.site.label.name p

  pub record WasOld (os : List (Occurrence N S)) (p : Occurrence (fresh N) S) : Type 0 where
    pub it : Occurrence N S
    pub stands : Has it os
    pub is : PutOf it p

  pub record IsOld (ps : List (Occurrence (fresh N) S)) (o : Occurrence N S) : Type 0 where
    pub it : Occurrence (fresh N) S
    pub stands : Has it ps
    pub is : PutOf o it

  pub record IsThere (ps : List (Occurrence (fresh N) S)) (v : N.value) (a : A) (c : S.of_operation) (b : N.block) : Type 0 where
    pub it : Occurrence (fresh N) S
    pub stands : Has it ps
    pub is : ConstantFor v a c b it

  -- one constant, or none, before operations

  one_was : (v : N.value) (q : Option A) → made v ≡ q → (rest : Tree (fresh N) S Operations) (e : OperationSite (fresh N) S) (p : Occurrence (fresh N) S) → Has p (occurrences_in (put_one {N = N} d v q rest) e) → Constant p ⊎ Has p (occurrences_in rest e)
  one_was v None m rest e p h = inr h
  one_was v (Some a) m rest e p h = by_case (d.constant a) refl h
    where
      by_case : (q : Option S.of_operation) → d.constant a ≡ q → Has p (occurrences_in (constant_before {N = N} d v a q rest) e) → Constant p ⊎ Has p (occurrences_in rest e)
      by_case None k h = inr h
      by_case (Some c) k h = ⊎_elim (λ z. inl (v, a, c, record { gets = m; made_by = k; block = refl; head = ap (λ y. y.head) z; regions = ap (λ y. y.regions) z })) (λ z. inr z) h

  one_is : (v : N.value) (q : Option A) (rest : Tree (fresh N) S Operations) (e : OperationSite (fresh N) S) (p : Occurrence (fresh N) S) → Has p (occurrences_in rest e) → Has p (occurrences_in (put_one {N = N} d v q rest) e)
  one_is v None rest e p h = h
  one_is v (Some a) rest e p h = by_case (d.constant a)
    where
      by_case : (q : Option S.of_operation) → Has p (occurrences_in (constant_before {N = N} d v a q rest) e)
      by_case None = h
      by_case (Some c) = inr h

  one_there : (v : N.value) (q : Option A) (a : A) (c : S.of_operation) → made v ≡ Some a → q ≡ Some a → d.constant a ≡ Some c → (rest : Tree (fresh N) S Operations) (e : OperationSite (fresh N) S) → IsThere (occurrences_in (put_one {N = N} d v q rest) e) v a c e.label.name
  one_there v None a c m n k rest e = absurd (none_some a n)
  one_there v (Some b) a c m n k rest e =
      subst (λ y. IsThere (occurrences_in (put_one {N = N} d v (Some y) rest) e) v a c e.label.name) (sym (some_same b a n))
      (subst (λ y. IsThere (occurrences_in (constant_before {N = N} d v a y rest) e) v a c e.label.name) (sym k)
      (record { it = record { site = e; head = constant_head {N = N} d v a c; regions = end }; stands = inl refl; is = record { gets = m; made_by = k; block = refl; head = refl; regions = refl } }))

  one_blocks : (v : N.value) (q : Option A) (rest : Tree (fresh N) S Operations) (e : OperationSite (fresh N) S) → block_occurrences_in (put_one {N = N} d v q rest) e ≡ block_occurrences_in rest e
  one_blocks v None rest e = refl
  one_blocks v (Some a) rest e = by_case (d.constant a)
    where
      by_case : (q : Option S.of_operation) → block_occurrences_in (constant_before {N = N} d v a q rest) e ≡ block_occurrences_in rest e
      by_case None = refl
      by_case (Some c) = refl

  one_defines : (v u : N.value) (q : Option A) (rest : Tree (fresh N) S Operations) → Has (Old u) (defined_in rest) → Has (Old u) (defined_in (put_one {N = N} d v q rest))
  one_defines v u None rest h = h
  one_defines v u (Some a) rest h = by_case (d.constant a)
    where
      by_case : (q : Option S.of_operation) → Has (Old u) (defined_in (constant_before {N = N} d v a q rest))
      by_case None = h
      by_case (Some c) = inr h

  one_defined : (v u : N.value) (q : Option A) (rest : Tree (fresh N) S Operations) → Has (Old u) (defined_in (put_one {N = N} d v q rest)) → Has (Old u) (defined_in rest)
  one_defined v u None rest h = h
  one_defined v u (Some a) rest h = by_case (d.constant a) h
    where
      clash : Old u ≡ New v → ⊥
      clash e = cc e

      by_case : (q : Option S.of_operation) → Has (Old u) (defined_in (constant_before {N = N} d v a q rest)) → Has (Old u) (defined_in rest)
      by_case None h = h
      by_case (Some c) h = ⊎_elim (λ z. absurd (clash z)) (λ z. z) h

  -- those of results

  results_was : (vs : List (Defined N.value S.of_value)) (rest : Tree (fresh N) S Operations) (e : OperationSite (fresh N) S) (p : Occurrence (fresh N) S) → Has p (occurrences_in (put_results {N = N} d made vs rest) e) → Constant p ⊎ Has p (occurrences_in rest e)
  results_was [] rest e p h = inr h
  results_was (v ∷ vs) rest e p h = ⊎_elim (λ z. inl z) (λ z. results_was vs rest e p z) (one_was v.name (made v.name) refl (put_results {N = N} d made vs rest) e p h)

  results_is : (vs : List (Defined N.value S.of_value)) (rest : Tree (fresh N) S Operations) (e : OperationSite (fresh N) S) (p : Occurrence (fresh N) S) → Has p (occurrences_in rest e) → Has p (occurrences_in (put_results {N = N} d made vs rest) e)
  results_is [] rest e p h = h
  results_is (v ∷ vs) rest e p h = one_is v.name (made v.name) (put_results {N = N} d made vs rest) e p (results_is vs rest e p h)

  results_there : (v : N.value) (a : A) (c : S.of_operation) → made v ≡ Some a → d.constant a ≡ Some c → (vs : List (Defined N.value S.of_value)) (rest : Tree (fresh N) S Operations) (e : OperationSite (fresh N) S) → Has v (names_of vs) → IsThere (occurrences_in (put_results {N = N} d made vs rest) e) v a c e.label.name
  results_there v a c m k [] rest e h = absurd h
  results_there v a c m k (u ∷ vs) rest e h = ⊎_elim
      (λ z. subst (λ y. IsThere (occurrences_in (put_one {N = N} d y (made y) (put_results {N = N} d made vs rest)) e) v a c e.label.name) z (one_there v (made v) a c m m k (put_results {N = N} d made vs rest) e))
      (λ z. let p = results_there v a c m k vs rest e z in record { it = p.it; stands = one_is u.name (made u.name) (put_results {N = N} d made vs rest) e p.it p.stands; is = p.is }) h

  results_blocks : (vs : List (Defined N.value S.of_value)) (rest : Tree (fresh N) S Operations) (e : OperationSite (fresh N) S) → block_occurrences_in (put_results {N = N} d made vs rest) e ≡ block_occurrences_in rest e
  results_blocks [] rest e = refl
  results_blocks (v ∷ vs) rest e = one_blocks v.name (made v.name) (put_results {N = N} d made vs rest) e ∙ results_blocks vs rest e

  results_defines : (u : N.value) (vs : List (Defined N.value S.of_value)) (rest : Tree (fresh N) S Operations) → Has (Old u) (defined_in rest) → Has (Old u) (defined_in (put_results {N = N} d made vs rest))
  results_defines u [] rest h = h
  results_defines u (v ∷ vs) rest h = one_defines v.name u (made v.name) (put_results {N = N} d made vs rest) (results_defines u vs rest h)

  results_defined : (u : N.value) (vs : List (Defined N.value S.of_value)) (rest : Tree (fresh N) S Operations) → Has (Old u) (defined_in (put_results {N = N} d made vs rest)) → Has (Old u) (defined_in rest)
  results_defined u [] rest h = h
  results_defined u (v ∷ vs) rest h = results_defined u vs rest (one_defined v.name u (made v.name) (put_results {N = N} d made vs rest) h)

  -- those of arguments

  arguments_was : (vs : List (Defined N.value S.of_value)) (rest : Tree (fresh N) S Operations) (e : OperationSite (fresh N) S) (p : Occurrence (fresh N) S) → Has p (occurrences_in (put_arguments {N = N} d made vs rest) e) → Constant p ⊎ Has p (occurrences_in rest e)
  arguments_was [] rest e p h = inr h
  arguments_was (v ∷ vs) rest e p h = ⊎_elim (λ z. inl z) (λ z. one_was v.name (made v.name) refl rest e p z) (arguments_was vs (put_one {N = N} d v.name (made v.name) rest) e p h)

  arguments_is : (vs : List (Defined N.value S.of_value)) (rest : Tree (fresh N) S Operations) (e : OperationSite (fresh N) S) (p : Occurrence (fresh N) S) → Has p (occurrences_in rest e) → Has p (occurrences_in (put_arguments {N = N} d made vs rest) e)
  arguments_is [] rest e p h = h
  arguments_is (v ∷ vs) rest e p h = arguments_is vs (put_one {N = N} d v.name (made v.name) rest) e p (one_is v.name (made v.name) rest e p h)

  arguments_there : (v : N.value) (a : A) (c : S.of_operation) → made v ≡ Some a → d.constant a ≡ Some c → (vs : List (Defined N.value S.of_value)) (rest : Tree (fresh N) S Operations) (e : OperationSite (fresh N) S) → Has v (names_of vs) → IsThere (occurrences_in (put_arguments {N = N} d made vs rest) e) v a c e.label.name
  arguments_there v a c m k [] rest e h = absurd h
  arguments_there v a c m k (u ∷ vs) rest e h = ⊎_elim
      (λ z. let p = subst (λ y. IsThere (occurrences_in (put_one {N = N} d y (made y) rest) e) v a c e.label.name) z (one_there v (made v) a c m m k rest e) in
      record { it = p.it; stands = arguments_is vs (put_one {N = N} d u.name (made u.name) rest) e p.it p.stands; is = p.is })
      (λ z. arguments_there v a c m k vs (put_one {N = N} d u.name (made u.name) rest) e z) h

  arguments_blocks : (vs : List (Defined N.value S.of_value)) (rest : Tree (fresh N) S Operations) (e : OperationSite (fresh N) S) → block_occurrences_in (put_arguments {N = N} d made vs rest) e ≡ block_occurrences_in rest e
  arguments_blocks [] rest e = refl
  arguments_blocks (v ∷ vs) rest e = arguments_blocks vs (put_one {N = N} d v.name (made v.name) rest) e ∙ one_blocks v.name (made v.name) rest e

  arguments_defines : (u : N.value) (vs : List (Defined N.value S.of_value)) (rest : Tree (fresh N) S Operations) → Has (Old u) (defined_in rest) → Has (Old u) (defined_in (put_arguments {N = N} d made vs rest))
  arguments_defines u [] rest h = h
  arguments_defines u (v ∷ vs) rest h = arguments_defines u vs (put_one {N = N} d v.name (made v.name) rest) (one_defines v.name u (made v.name) rest h)

  arguments_defined : (u : N.value) (vs : List (Defined N.value S.of_value)) (rest : Tree (fresh N) S Operations) → Has (Old u) (defined_in (put_arguments {N = N} d made vs rest)) → Has (Old u) (defined_in rest)
  arguments_defined u [] rest h = h
  arguments_defined u (v ∷ vs) rest h = one_defined v.name u (made v.name) rest (arguments_defined u vs (put_one {N = N} d v.name (made v.name) rest) h)

  -- operations

  was_in : {os qs : List (Occurrence N S)} {p : Occurrence (fresh N) S} → ((o : Occurrence N S) → Has o os → Has o qs) → Constant p ⊎ WasOld os p → Constant p ⊎ WasOld qs p
  was_in f x = ⊎_elim (λ y. inl y) (λ y. inr (record { it = y.it; stands = f y.it y.stands; is = y.is })) x

  -- an operation was there, or is a constant
  pub operation_was : {s : Sort} (t : Tree N S s) (c : Inside N S s) (e : Inside (fresh N) S s) → InBlock N S s c e → (p : Occurrence (fresh N) S) → Has p (occurrences_in (put {N = N} d made t) e) → Constant p ⊎ WasOld (occurrences_in t c) p
  operation_was end c e n p h = absurd h
  operation_was (operation k rs rest) c e n p h = ⊎_elim
      (λ z. inl z)
      (λ z. ⊎_elim
      (λ y. inr (record { it = record { site = c; head = k; regions = rs }; stands = inl refl; is = record { block = ap (λ y. y.site.label.name) y ∙ n; head = ap (λ y. y.head) y; regions = ap (λ y. y.regions) y } }))
      (λ y. ⊎_elim
      (λ w. was_in (λ o q. inr (has-left o (occurrences_in rs (inner k c)) (occurrences_in rest c) q)) (operation_was rs (inner k c) (inner (old_head {N = N} made k) e) tt p w))
      (λ w. was_in (λ o q. inr (has-right o (occurrences_in rs (inner k c)) (occurrences_in rest c) q)) (operation_was rest c e n p w))
      (has-append p (occurrences_in (put {N = N} d made rs) (inner (old_head {N = N} made k) e)) (occurrences_in (put {N = N} d made rest) e) y)) z)
      (results_was k.results (operation (old_head {N = N} made k) (put {N = N} d made rs) (put {N = N} d made rest)) e p h)
  operation_was (block l ops rest) c e n p h =
      let b : OperationSite N S = record { spot = c; label = l } in
      let b' : OperationSite (fresh N) S = record { spot = e; label = old_label {N = N} l } in
      ⊎_elim
      (λ z. ⊎_elim
      (λ y. inl y)
      (λ y. was_in (λ o q. has-left o (occurrences_in ops b) (occurrences_in rest (next_block c)) q) (operation_was ops b b' refl p y))
      (arguments_was l.arguments (put {N = N} d made ops) b' p z))
      (λ z. was_in (λ o q. has-right o (occurrences_in ops b) (occurrences_in rest (next_block c)) q) (operation_was rest (next_block c) (next_block e) tt p z))
      (has-append p (occurrences_in (put_arguments {N = N} d made l.arguments (put {N = N} d made ops)) b') (occurrences_in (put {N = N} d made rest) (next_block e)) h)
  operation_was (region bs rest) c e n p h = ⊎_elim
      (λ z. was_in (λ o q. has-left o (occurrences_in bs c) (occurrences_in rest (next_region c)) q) (operation_was bs c e tt p z))
      (λ z. was_in (λ o q. has-right o (occurrences_in bs c) (occurrences_in rest (next_region c)) q) (operation_was rest (next_region c) (next_region e) tt p z))
      (has-append p (occurrences_in (put {N = N} d made bs) e) (occurrences_in (put {N = N} d made rest) (next_region e)) h)

  -- where the lists of a tree after it lie
  in_operation : (k : Head N S) (rs : Tree N S Regions) (rest : Tree N S Operations) (e : OperationSite (fresh N) S) (p : Occurrence (fresh N) S) → Has p (occurrences_in (operation (old_head {N = N} made k) (put {N = N} d made rs) (put {N = N} d made rest)) e) → Has p (occurrences_in (put {N = N} d made (operation k rs rest)) e)
  in_operation k rs rest e p h = results_is k.results (operation (old_head {N = N} made k) (put {N = N} d made rs) (put {N = N} d made rest)) e p h

  in_regions : (k : Head N S) (rs : Tree N S Regions) (rest : Tree N S Operations) (e : OperationSite (fresh N) S) (p : Occurrence (fresh N) S) → Has p (occurrences_in (put {N = N} d made rs) (inner (old_head {N = N} made k) e)) → Has p (occurrences_in (put {N = N} d made (operation k rs rest)) e)
  in_regions k rs rest e p h = in_operation k rs rest e p (inr (has-left p (occurrences_in (put {N = N} d made rs) (inner (old_head {N = N} made k) e)) (occurrences_in (put {N = N} d made rest) e) h))

  in_rest : (k : Head N S) (rs : Tree N S Regions) (rest : Tree N S Operations) (e : OperationSite (fresh N) S) (p : Occurrence (fresh N) S) → Has p (occurrences_in (put {N = N} d made rest) e) → Has p (occurrences_in (put {N = N} d made (operation k rs rest)) e)
  in_rest k rs rest e p h = in_operation k rs rest e p (inr (has-right p (occurrences_in (put {N = N} d made rs) (inner (old_head {N = N} made k) e)) (occurrences_in (put {N = N} d made rest) e) h))

  in_block : (l : Label N S) (ops : Tree N S Operations) (rest : Tree N S Blocks) (e : Inside (fresh N) S Blocks) (p : Occurrence (fresh N) S) → Has p (occurrences_in (put_arguments {N = N} d made l.arguments (put {N = N} d made ops)) (record { spot = e; label = old_label {N = N} l })) → Has p (occurrences_in (put {N = N} d made (block l ops rest)) e)
  in_block l ops rest e p h = has-left p (occurrences_in (put_arguments {N = N} d made l.arguments (put {N = N} d made ops)) (record { spot = e; label = old_label {N = N} l })) (occurrences_in (put {N = N} d made rest) (next_block e)) h

  in_blocks : (l : Label N S) (ops : Tree N S Operations) (rest : Tree N S Blocks) (e : Inside (fresh N) S Blocks) (p : Occurrence (fresh N) S) → Has p (occurrences_in (put {N = N} d made rest) (next_block e)) → Has p (occurrences_in (put {N = N} d made (block l ops rest)) e)
  in_blocks l ops rest e p h = has-right p (occurrences_in (put_arguments {N = N} d made l.arguments (put {N = N} d made ops)) (record { spot = e; label = old_label {N = N} l })) (occurrences_in (put {N = N} d made rest) (next_block e)) h

  is_in : {ps qs : List (Occurrence (fresh N) S)} {o : Occurrence N S} → ((p : Occurrence (fresh N) S) → Has p ps → Has p qs) → IsOld ps o → IsOld qs o
  is_in f x = record { it = x.it; stands = f x.it x.stands; is = x.is }

  there_in : {ps qs : List (Occurrence (fresh N) S)} {v : N.value} {a : A} {c : S.of_operation} {b : N.block} → ((p : Occurrence (fresh N) S) → Has p ps → Has p qs) → IsThere ps v a c b → IsThere qs v a c b
  there_in f x = record { it = x.it; stands = f x.it x.stands; is = x.is }

  -- an operation is there afterwards
  pub operation_is : {s : Sort} (t : Tree N S s) (c : Inside N S s) (e : Inside (fresh N) S s) → InBlock N S s c e → (o : Occurrence N S) → Has o (occurrences_in t c) → IsOld (occurrences_in (put {N = N} d made t) e) o
  operation_is end c e n o h = absurd h
  operation_is (operation k rs rest) c e n o h = ⊎_elim
      (λ z. record { it = record { site = e; head = old_head {N = N} made k; regions = put {N = N} d made rs }; stands = in_operation k rs rest e (record { site = e; head = old_head {N = N} made k; regions = put {N = N} d made rs }) (inl refl); is = record { block = n ∙ ap (λ y. y.site.label.name) (sym z); head = ap (λ y. old_head {N = N} made y.head) (sym z); regions = ap (λ y. put {N = N} d made y.regions) (sym z) } })
      (λ z. ⊎_elim
      (λ y. is_in (in_regions k rs rest e) (operation_is rs (inner k c) (inner (old_head {N = N} made k) e) tt o y))
      (λ y. is_in (in_rest k rs rest e) (operation_is rest c e n o y))
      (has-append o (occurrences_in rs (inner k c)) (occurrences_in rest c) z)) h
  operation_is (block l ops rest) c e n o h =
      let b : OperationSite N S = record { spot = c; label = l } in
      let b' : OperationSite (fresh N) S = record { spot = e; label = old_label {N = N} l } in
      ⊎_elim
      (λ z. is_in (λ p w. in_block l ops rest e p (arguments_is l.arguments (put {N = N} d made ops) b' p w)) (operation_is ops b b' refl o z))
      (λ z. is_in (in_blocks l ops rest e) (operation_is rest (next_block c) (next_block e) tt o z))
      (has-append o (occurrences_in ops b) (occurrences_in rest (next_block c)) h)
  operation_is (region bs rest) c e n o h = ⊎_elim
      (λ z. is_in (λ p w. has-left p (occurrences_in (put {N = N} d made bs) e) (occurrences_in (put {N = N} d made rest) (next_region e)) w) (operation_is bs c e tt o z))
      (λ z. is_in (λ p w. has-right p (occurrences_in (put {N = N} d made bs) e) (occurrences_in (put {N = N} d made rest) (next_region e)) w) (operation_is rest (next_region c) (next_region e) tt o z))
      (has-append o (occurrences_in bs c) (occurrences_in rest (next_region c)) h)

  -- the constants

  module _ (v : N.value) (a : A) (q : S.of_operation) (m : made v ≡ Some a) (by : d.constant a ≡ Some q) where
    -- the constant of a result stands in the block of the operation
    pub result_there : {s : Sort} (t : Tree N S s) (c : Inside N S s) (e : Inside (fresh N) S s) → InBlock N S s c e → (o : Occurrence N S) → Has o (occurrences_in t c) → Has v (names_of o.head.results) → IsThere (occurrences_in (put {N = N} d made t) e) v a q o.site.label.name
    result_there end c e n o h r = absurd h
    result_there (operation k rs rest) c e n o h r = ⊎_elim
        (λ z. subst (IsThere (occurrences_in (put {N = N} d made (operation k rs rest)) e) v a q) (n ∙ ap (λ y. y.site.label.name) (sym z)) (results_there v a q m by k.results (operation (old_head {N = N} made k) (put {N = N} d made rs) (put {N = N} d made rest)) e (subst (λ y. Has v (names_of y.head.results)) z r)))
        (λ z. ⊎_elim
        (λ y. there_in (in_regions k rs rest e) (result_there rs (inner k c) (inner (old_head {N = N} made k) e) tt o y r))
        (λ y. there_in (in_rest k rs rest e) (result_there rest c e n o y r))
        (has-append o (occurrences_in rs (inner k c)) (occurrences_in rest c) z)) h
    result_there (block l ops rest) c e n o h r =
        let b : OperationSite N S = record { spot = c; label = l } in
        let b' : OperationSite (fresh N) S = record { spot = e; label = old_label {N = N} l } in
        ⊎_elim
        (λ z. there_in (λ p w. in_block l ops rest e p (arguments_is l.arguments (put {N = N} d made ops) b' p w)) (result_there ops b b' refl o z r))
        (λ z. there_in (in_blocks l ops rest e) (result_there rest (next_block c) (next_block e) tt o z r))
        (has-append o (occurrences_in ops b) (occurrences_in rest (next_block c)) h)
    result_there (region bs rest) c e n o h r = ⊎_elim
        (λ z. there_in (λ p w. has-left p (occurrences_in (put {N = N} d made bs) e) (occurrences_in (put {N = N} d made rest) (next_region e)) w) (result_there bs c e tt o z r))
        (λ z. there_in (λ p w. has-right p (occurrences_in (put {N = N} d made bs) e) (occurrences_in (put {N = N} d made rest) (next_region e)) w) (result_there rest (next_region c) (next_region e) tt o z r))
        (has-append o (occurrences_in bs c) (occurrences_in rest (next_region c)) h)

    -- the constant of an argument stands in its block
    pub argument_there : {s : Sort} (t : Tree N S s) (c : Inside N S s) (e : Inside (fresh N) S s) → (x : BlockOccurrence N S) → Has x (block_occurrences_in t c) → Has v (names_of x.label.arguments) → IsThere (occurrences_in (put {N = N} d made t) e) v a q x.label.name
    argument_there end c e x h r = absurd h
    argument_there (operation k rs rest) c e x h r = ⊎_elim
        (λ y. there_in (in_regions k rs rest e) (argument_there rs (inner k c) (inner (old_head {N = N} made k) e) x y r))
        (λ y. there_in (in_rest k rs rest e) (argument_there rest c e x y r))
        (has-append x (block_occurrences_in rs (inner k c)) (block_occurrences_in rest c) h)
    argument_there (block l ops rest) c e x h r =
        let b : OperationSite N S = record { spot = c; label = l } in
        let b' : OperationSite (fresh N) S = record { spot = e; label = old_label {N = N} l } in
        ⊎_elim
        (λ z. subst (IsThere (occurrences_in (put {N = N} d made (block l ops rest)) e) v a q) (ap (λ y. y.label.name) (sym z)) (there_in (in_block l ops rest e) (arguments_there v a q m by l.arguments (put {N = N} d made ops) b' (subst (λ y. Has v (names_of y.label.arguments)) z r))))
        (λ z. ⊎_elim
        (λ y. there_in (λ p w. in_block l ops rest e p (arguments_is l.arguments (put {N = N} d made ops) b' p w)) (argument_there ops b b' x y r))
        (λ y. there_in (in_blocks l ops rest e) (argument_there rest (next_block c) (next_block e) x y r))
        (has-append x (block_occurrences_in ops b) (block_occurrences_in rest (next_block c)) z)) h
    argument_there (region bs rest) c e x h r = ⊎_elim
        (λ z. there_in (λ p w. has-left p (occurrences_in (put {N = N} d made bs) e) (occurrences_in (put {N = N} d made rest) (next_region e)) w) (argument_there bs c e x z r))
        (λ z. there_in (λ p w. has-right p (occurrences_in (put {N = N} d made bs) e) (occurrences_in (put {N = N} d made rest) (next_region e)) w) (argument_there rest (next_region c) (next_region e) x z r))
        (has-append x (block_occurrences_in bs c) (block_occurrences_in rest (next_region c)) h)

  -- blocks

  abbrev pub WasBlock : List (BlockOccurrence N S) → BlockOccurrence (fresh N) S → Type 0
  WasBlock xs y = (x : BlockOccurrence N S) × Has x xs × (y.label ≡ old_label {N = N} x.label)

  abbrev pub IsBlock : List (BlockOccurrence (fresh N) S) → BlockOccurrence N S → Type 0
  IsBlock ys x = (y : BlockOccurrence (fresh N) S) × Has y ys × (y.label ≡ old_label {N = N} x.label)

  abbrev BlocksAfter : {s : Sort} → Tree N S s → Inside (fresh N) S s → List (BlockOccurrence (fresh N) S)
  BlocksAfter t e = block_occurrences_in (put {N = N} d made t) e

  of_operation : (k : Head N S) (rs : Tree N S Regions) (rest : Tree N S Operations) (e : OperationSite (fresh N) S) → BlocksAfter (operation k rs rest) e ≡ BlocksAfter rs (inner (old_head {N = N} made k) e) ++ BlocksAfter rest e
  of_operation k rs rest e = results_blocks k.results (operation (old_head {N = N} made k) (put {N = N} d made rs) (put {N = N} d made rest)) e

  of_block : (l : Label N S) (ops : Tree N S Operations) (rest : Tree N S Blocks) (e : Inside (fresh N) S Blocks) → BlocksAfter (block l ops rest) e ≡ record { spot = e; label = old_label {N = N} l; operations = put_arguments {N = N} d made l.arguments (put {N = N} d made ops) } ∷ (BlocksAfter ops (record { spot = e; label = old_label {N = N} l }) ++ BlocksAfter rest (next_block e))
  of_block l ops rest e = ap (λ z. record { spot = e; label = old_label {N = N} l; operations = put_arguments {N = N} d made l.arguments (put {N = N} d made ops) } ∷ (z ++ BlocksAfter rest (next_block e))) (arguments_blocks l.arguments (put {N = N} d made ops) (record { spot = e; label = old_label {N = N} l }))

  pub block_was : {s : Sort} (t : Tree N S s) (c : Inside N S s) (e : Inside (fresh N) S s) (y : BlockOccurrence (fresh N) S) → Has y (block_occurrences_in (put {N = N} d made t) e) → WasBlock (block_occurrences_in t c) y
  block_was end c e y h = absurd h
  block_was (operation k rs rest) c e y h = ⊎_elim
      (λ z. let w = block_was rs (inner k c) (inner (old_head {N = N} made k) e) y z in (w.0, has-left w.0 (block_occurrences_in rs (inner k c)) (block_occurrences_in rest c) w.1, w.2))
      (λ z. let w = block_was rest c e y z in (w.0, has-right w.0 (block_occurrences_in rs (inner k c)) (block_occurrences_in rest c) w.1, w.2))
      (has-append y (BlocksAfter rs (inner (old_head {N = N} made k) e)) (BlocksAfter rest e) (subst (Has y) (of_operation k rs rest e) h))
  block_was (block l ops rest) c e y h =
      let b : OperationSite N S = record { spot = c; label = l } in
      let b' : OperationSite (fresh N) S = record { spot = e; label = old_label {N = N} l } in
      ⊎_elim
      (λ z. (record { spot = c; label = l; operations = ops }, inl refl, ap (λ q. q.label) z))
      (λ z. ⊎_elim
      (λ q. let w = block_was ops b b' y q in (w.0, inr (has-left w.0 (block_occurrences_in ops b) (block_occurrences_in rest (next_block c)) w.1), w.2))
      (λ q. let w = block_was rest (next_block c) (next_block e) y q in (w.0, inr (has-right w.0 (block_occurrences_in ops b) (block_occurrences_in rest (next_block c)) w.1), w.2))
      (has-append y (BlocksAfter ops b') (BlocksAfter rest (next_block e)) z)) (subst (Has y) (of_block l ops rest e) h)
  block_was (region bs rest) c e y h = ⊎_elim
      (λ z. let w = block_was bs c e y z in (w.0, has-left w.0 (block_occurrences_in bs c) (block_occurrences_in rest (next_region c)) w.1, w.2))
      (λ z. let w = block_was rest (next_region c) (next_region e) y z in (w.0, has-right w.0 (block_occurrences_in bs c) (block_occurrences_in rest (next_region c)) w.1, w.2))
      (has-append y (BlocksAfter bs e) (BlocksAfter rest (next_region e)) h)

  pub block_is : {s : Sort} (t : Tree N S s) (c : Inside N S s) (e : Inside (fresh N) S s) (x : BlockOccurrence N S) → Has x (block_occurrences_in t c) → IsBlock (block_occurrences_in (put {N = N} d made t) e) x
  block_is end c e x h = absurd h
  block_is (operation k rs rest) c e x h = ⊎_elim
      (λ z. let w = block_is rs (inner k c) (inner (old_head {N = N} made k) e) x z in (w.0, subst (Has w.0) (sym (of_operation k rs rest e)) (has-left w.0 (BlocksAfter rs (inner (old_head {N = N} made k) e)) (BlocksAfter rest e) w.1), w.2))
      (λ z. let w = block_is rest c e x z in (w.0, subst (Has w.0) (sym (of_operation k rs rest e)) (has-right w.0 (BlocksAfter rs (inner (old_head {N = N} made k) e)) (BlocksAfter rest e) w.1), w.2))
      (has-append x (block_occurrences_in rs (inner k c)) (block_occurrences_in rest c) h)
  block_is (block l ops rest) c e x h =
      let b : OperationSite N S = record { spot = c; label = l } in
      let b' : OperationSite (fresh N) S = record { spot = e; label = old_label {N = N} l } in
      let own : BlockOccurrence (fresh N) S = record { spot = e; label = old_label {N = N} l; operations = put_arguments {N = N} d made l.arguments (put {N = N} d made ops) } in
      ⊎_elim
      (λ z. (own, inl refl, ap (λ q. old_label {N = N} q.label) (sym z)))
      (λ z. ⊎_elim
      (λ q. let w = block_is ops b b' x q in (w.0, subst (Has w.0) (sym (of_block l ops rest e)) (inr (has-left w.0 (BlocksAfter ops b') (BlocksAfter rest (next_block e)) w.1)), w.2))
      (λ q. let w = block_is rest (next_block c) (next_block e) x q in (w.0, subst (Has w.0) (sym (of_block l ops rest e)) (inr (has-right w.0 (BlocksAfter ops b') (BlocksAfter rest (next_block e)) w.1)), w.2))
      (has-append x (block_occurrences_in ops b) (block_occurrences_in rest (next_block c)) z)) h
  block_is (region bs rest) c e x h = ⊎_elim
      (λ z. let w = block_is bs c e x z in (w.0, has-left w.0 (BlocksAfter bs e) (BlocksAfter rest (next_region e)) w.1, w.2))
      (λ z. let w = block_is rest (next_region c) (next_region e) x z in (w.0, has-right w.0 (BlocksAfter bs e) (BlocksAfter rest (next_region e)) w.1, w.2))
      (has-append x (block_occurrences_in bs c) (block_occurrences_in rest (next_region c)) h)

  -- values

  -- a value that was defined is defined afterwards
  pub value_is : {s : Sort} (t : Tree N S s) (v : N.value) → Has v (defined_in t) → Has (Old v) (defined_in (put {N = N} d made t))
  value_is end v h = absurd h
  value_is (operation k rs rest) v h = results_defines v k.results (operation (old_head {N = N} made k) (put {N = N} d made rs) (put {N = N} d made rest)) (⊎_elim
      (λ z. has-left (Old v) (names_of (map (rename_defined Old) k.results)) (defined_in (put {N = N} d made rs) ++ defined_in (put {N = N} d made rest)) (old_name v k.results z))
      (λ z. has-right (Old v) (names_of (map (rename_defined Old) k.results)) (defined_in (put {N = N} d made rs) ++ defined_in (put {N = N} d made rest)) (⊎_elim
      (λ y. has-left (Old v) (defined_in (put {N = N} d made rs)) (defined_in (put {N = N} d made rest)) (value_is rs v y))
      (λ y. has-right (Old v) (defined_in (put {N = N} d made rs)) (defined_in (put {N = N} d made rest)) (value_is rest v y))
      (has-append v (defined_in rs) (defined_in rest) z)))
      (has-append v (names_of k.results) (defined_in rs ++ defined_in rest) h))
  value_is (block l ops rest) v h =
      let after = put_arguments {N = N} d made l.arguments (put {N = N} d made ops) in
      ⊎_elim
      (λ z. has-left (Old v) (names_of (map (rename_defined Old) l.arguments)) (defined_in after ++ defined_in (put {N = N} d made rest)) (old_name v l.arguments z))
      (λ z. has-right (Old v) (names_of (map (rename_defined Old) l.arguments)) (defined_in after ++ defined_in (put {N = N} d made rest)) (⊎_elim
      (λ y. has-left (Old v) (defined_in after) (defined_in (put {N = N} d made rest)) (arguments_defines v l.arguments (put {N = N} d made ops) (value_is ops v y)))
      (λ y. has-right (Old v) (defined_in after) (defined_in (put {N = N} d made rest)) (value_is rest v y))
      (has-append v (defined_in ops) (defined_in rest) z)))
      (has-append v (names_of l.arguments) (defined_in ops ++ defined_in rest) h)
  value_is (region bs rest) v h = ⊎_elim
      (λ y. has-left (Old v) (defined_in (put {N = N} d made bs)) (defined_in (put {N = N} d made rest)) (value_is bs v y))
      (λ y. has-right (Old v) (defined_in (put {N = N} d made bs)) (defined_in (put {N = N} d made rest)) (value_is rest v y))
      (has-append v (defined_in bs) (defined_in rest) h)

  -- and the other way round
  pub value_was : {s : Sort} (t : Tree N S s) (v : N.value) → Has (Old v) (defined_in (put {N = N} d made t)) → Has v (defined_in t)
  value_was end v h = absurd h
  value_was (operation k rs rest) v h = ⊎_elim
      (λ z. has-left v (names_of k.results) (defined_in rs ++ defined_in rest) (old_same v k.results z))
      (λ z. has-right v (names_of k.results) (defined_in rs ++ defined_in rest) (⊎_elim
      (λ y. has-left v (defined_in rs) (defined_in rest) (value_was rs v y))
      (λ y. has-right v (defined_in rs) (defined_in rest) (value_was rest v y))
      (has-append (Old v) (defined_in (put {N = N} d made rs)) (defined_in (put {N = N} d made rest)) z)))
      (has-append (Old v) (names_of (map (rename_defined Old) k.results)) (defined_in (put {N = N} d made rs) ++ defined_in (put {N = N} d made rest)) (results_defined v k.results (operation (old_head {N = N} made k) (put {N = N} d made rs) (put {N = N} d made rest)) h))
  value_was (block l ops rest) v h =
      let after = put_arguments {N = N} d made l.arguments (put {N = N} d made ops) in
      ⊎_elim
      (λ z. has-left v (names_of l.arguments) (defined_in ops ++ defined_in rest) (old_same v l.arguments z))
      (λ z. has-right v (names_of l.arguments) (defined_in ops ++ defined_in rest) (⊎_elim
      (λ y. has-left v (defined_in ops) (defined_in rest) (value_was ops v (arguments_defined v l.arguments (put {N = N} d made ops) y)))
      (λ y. has-right v (defined_in ops) (defined_in rest) (value_was rest v y))
      (has-append (Old v) (defined_in after) (defined_in (put {N = N} d made rest)) z)))
      (has-append (Old v) (names_of (map (rename_defined Old) l.arguments)) (defined_in after ++ defined_in (put {N = N} d made rest)) h)
  value_was (region bs rest) v h = ⊎_elim
      (λ y. has-left v (defined_in bs) (defined_in rest) (value_was bs v y))
      (λ y. has-right v (defined_in bs) (defined_in rest) (value_was rest v y))
      (has-append (Old v) (defined_in (put {N = N} d made bs)) (defined_in (put {N = N} d made rest)) h)
