-- With constants put in, names are still distinct.
use Rattle.std.proofs.Common.{◌≡◌, ◌⊎◌, ⊎_elim, inl, inr, List, [], ◌∷◌, ◌++◌, map, Option, Some, None, refl, sym, ap, ◌∙◌, subst}
use Rattle.ir_base.specs.declared.types.TypeHandle.{TypeHandle}
use Rattle.ir_trees.specs.Names.{Names}
use Rattle.ir_trees.specs.Renames.{names_of}
use Rattle.ir_trees.specs.Searched.{heads_in}
use Rattle.ir_trees.specs.Trees.{Defined, Head, Sort, Operations, Tree, end, operation, block, region}
use Rattle.opt_trees.specs.Occurrences.{Has, defined_in}
use Rattle.opt_trees.specs.Sccp.{Name, Old, New, fresh, put_one, put_results, put_arguments, old_head, put}
use Rattle.opt_trees.proofs.Lists.{names-map, map-append}
use Rattle.opt_trees.proofs.NoneDead.{has-append, has-left, has-right}
use Rattle.kit_ops.specs.declared.attributes.IntegerAttr.{IntegerAttr}
use Rattle.kit.specs.Meaning.{kit}
use Rattle.kit_views.specs.Reading.{kit_contents}
use Rattle.kit_views.proofs.Lists.{Distinct, distinct_left, distinct_right, distinct_apart}

module _ {X V : Type 0} where
  pub olds : List (Name X V) → List X
  olds [] = []
  olds (Old x ∷ xs) = x ∷ olds xs
  olds (New v ∷ xs) = olds xs

  pub news : List (Name X V) → List V
  news [] = []
  news (Old x ∷ xs) = news xs
  news (New v ∷ xs) = v ∷ news xs

  old_in : (x : X) (xs : List (Name X V)) → Has (Old x) xs → Has x (olds xs)
  unfolding olds
  old_in x [] h = h
  old_in x (Old y ∷ xs) h = ⊎_elim (λ e. inl (cc e)) (λ i. inr (old_in x xs i)) h
  old_in x (New v ∷ xs) h = ⊎_elim (λ e. absurd (cc e)) (λ i. old_in x xs i) h

  new_in : (v : V) (xs : List (Name X V)) → Has (New v) xs → Has v (news xs)
  unfolding news
  new_in v [] h = h
  new_in v (Old y ∷ xs) h = ⊎_elim (λ e. absurd (cc e)) (λ i. new_in v xs i) h
  new_in v (New u ∷ xs) h = ⊎_elim (λ e. inl (cc e)) (λ i. inr (new_in v xs i)) h

  pub both_distinct : (xs : List (Name X V)) → Distinct (olds xs) → Distinct (news xs) → Distinct xs
  unfolding olds news
  both_distinct [] a b = tt
  both_distinct (Old x ∷ xs) a b = (λ i. a.0 (old_in x xs i), both_distinct xs a.1 b)
  both_distinct (New v ∷ xs) a b = (λ i. b.0 (new_in v xs i), both_distinct xs a b.1)

  olds_append : (xs ys : List (Name X V)) → olds (xs ++ ys) ≡ olds xs ++ olds ys
  unfolding olds
  olds_append [] ys = refl
  olds_append (Old x ∷ xs) ys = ap (λ l. x ∷ l) (olds_append xs ys)
  olds_append (New v ∷ xs) ys = olds_append xs ys

  news_append : (xs ys : List (Name X V)) → news (xs ++ ys) ≡ news xs ++ news ys
  unfolding news
  news_append [] ys = refl
  news_append (Old x ∷ xs) ys = news_append xs ys
  news_append (New v ∷ xs) ys = ap (λ l. v ∷ l) (news_append xs ys)

  olds_old : (xs : List X) (ys : List (Name X V)) → olds (map Old xs ++ ys) ≡ xs ++ olds ys
  unfolding olds
  olds_old [] ys = refl
  olds_old (x ∷ xs) ys = ap (λ l. x ∷ l) (olds_old xs ys)

  news_old : (xs : List X) (ys : List (Name X V)) → news (map Old xs ++ ys) ≡ news ys
  unfolding news
  news_old [] ys = refl
  news_old (x ∷ xs) ys = news_old xs ys

module _ {V : Type 0} (made : V → Option IntegerAttr) where
  abbrev keep_one : V → Option IntegerAttr → List V → List V
  keep_one v None vs = vs
  keep_one v (Some a) vs = v ∷ vs

  abbrev keep : List V → List V → List V
  keep [] acc = acc
  keep (v ∷ vs) acc = keep_one v (made v) (keep vs acc)

  abbrev keep_back : List V → List V → List V
  keep_back [] acc = acc
  keep_back (v ∷ vs) acc = keep_back vs (keep_one v (made v) acc)

  one_in : (v : V) (o : Option IntegerAttr) (acc : List V) (u : V) → Has u (keep_one v o acc) → (u ≡ v) ⊎ Has u acc
  one_in v None acc u i = inr i
  one_in v (Some a) acc u i = i

  one_distinct : (v : V) (o : Option IntegerAttr) (acc : List V) → Distinct acc → (Has v acc → ⊥) → Distinct (keep_one v o acc)
  one_distinct v None acc d n = d
  one_distinct v (Some a) acc d n = (n, d)

  keep_in : (vs acc : List V) (u : V) → Has u (keep vs acc) → Has u vs ⊎ Has u acc
  keep_in [] acc u i = inr i
  keep_in (v ∷ vs) acc u i = ⊎_elim (λ e. inl (inl e)) (λ j. ⊎_elim (λ a. inl (inr a)) (λ b. inr b) (keep_in vs acc u j)) (one_in v (made v) (keep vs acc) u i)

  back_in : (vs acc : List V) (u : V) → Has u (keep_back vs acc) → Has u vs ⊎ Has u acc
  back_in [] acc u i = inr i
  back_in (v ∷ vs) acc u i = ⊎_elim (λ a. inl (inr a)) (λ b. ⊎_elim (λ e. inl (inl e)) (λ j. inr j) (one_in v (made v) acc u b)) (back_in vs (keep_one v (made v) acc) u i)

  keep_distinct : (vs acc : List V) → Distinct vs → Distinct acc → ((u : V) → Has u vs → Has u acc → ⊥) → Distinct (keep vs acc)
  keep_distinct [] acc d e n = e
  keep_distinct (v ∷ vs) acc d e n =
      one_distinct v (made v) (keep vs acc) (keep_distinct vs acc d.1 e (λ u i j. n u (inr i) j))
      (λ i. ⊎_elim (λ a. d.0 a) (λ b. n v (inl refl) b) (keep_in vs acc v i))

  back_distinct : (vs acc : List V) → Distinct vs → Distinct acc → ((u : V) → Has u vs → Has u acc → ⊥) → Distinct (keep_back vs acc)
  back_distinct [] acc d e n = e
  back_distinct (v ∷ vs) acc d e n =
      back_distinct vs (keep_one v (made v) acc) d.1 (one_distinct v (made v) acc e (n v (inl refl)))
      (λ u i j. ⊎_elim (λ q. d.0 (subst (λ z. Has z vs) q i)) (λ b. n u (inr i) b) (one_in v (made v) acc u j))

distinct_append : {X : Type 0} (xs ys : List X) → Distinct xs → Distinct ys → ((u : X) → Has u xs → Has u ys → ⊥) → Distinct (xs ++ ys)
distinct_append [] ys d e n = e
distinct_append (x ∷ xs) ys d e n = (λ i. ⊎_elim (λ a. d.0 a) (λ b. n x (inl refl) b) (has-append x xs ys i), distinct_append xs ys d.1 e (λ u i j. n u (inr i) j))

module _ {N : Names} (made : N.value → Option IntegerAttr) where
  -- the values for which constants are put in, in the order of these
  abbrev new_values : {s : Sort} → Tree N kit_contents s → List N.value
  new_values end = []
  new_values (operation h rs rest) = keep made (names_of h.results) (new_values rs ++ new_values rest)
  new_values (block l os rest) = keep_back made (names_of l.arguments) (new_values os) ++ new_values rest
  new_values (region bs rest) = new_values bs ++ new_values rest

  new_defined : {s : Sort} (t : Tree N kit_contents s) (v : N.value) → Has v (new_values t) → Has v (defined_in t)
  new_defined end v i = i
  new_defined (operation h rs rest) v i =
      ⊎_elim (λ a. has-left v (names_of h.results) (defined_in rs ++ defined_in rest) a)
      (λ b. has-right v (names_of h.results) (defined_in rs ++ defined_in rest)
      (⊎_elim (λ c. has-left v (defined_in rs) (defined_in rest) (new_defined rs v c)) (λ c. has-right v (defined_in rs) (defined_in rest) (new_defined rest v c)) (has-append v (new_values rs) (new_values rest) b)))
      (keep_in made (names_of h.results) (new_values rs ++ new_values rest) v i)
  new_defined (block l os rest) v i =
      ⊎_elim
      (λ a. ⊎_elim (λ b. has-left v (names_of l.arguments) (defined_in os ++ defined_in rest) b) (λ b. has-right v (names_of l.arguments) (defined_in os ++ defined_in rest) (has-left v (defined_in os) (defined_in rest) (new_defined os v b))) (back_in made (names_of l.arguments) (new_values os) v a))
      (λ a. has-right v (names_of l.arguments) (defined_in os ++ defined_in rest) (has-right v (defined_in os) (defined_in rest) (new_defined rest v a)))
      (has-append v (keep_back made (names_of l.arguments) (new_values os)) (new_values rest) i)
  new_defined (region bs rest) v i = ⊎_elim (λ c. has-left v (defined_in bs) (defined_in rest) (new_defined bs v c)) (λ c. has-right v (defined_in bs) (defined_in rest) (new_defined rest v c)) (has-append v (new_values bs) (new_values rest) i)

  new_distinct : {s : Sort} (t : Tree N kit_contents s) → Distinct (defined_in t) → Distinct (new_values t)
  new_distinct end d = tt
  new_distinct (operation h rs rest) d =
      let inside = distinct_right (names_of h.results) (defined_in rs ++ defined_in rest) d in
      keep_distinct made (names_of h.results) (new_values rs ++ new_values rest) (distinct_left (names_of h.results) (defined_in rs ++ defined_in rest) d)
      (distinct_append (new_values rs) (new_values rest) (new_distinct rs (distinct_left (defined_in rs) (defined_in rest) inside)) (new_distinct rest (distinct_right (defined_in rs) (defined_in rest) inside)) (λ u i j. distinct_apart (defined_in rs) (defined_in rest) u inside (new_defined rs u i) (new_defined rest u j)))
      (λ u i j. distinct_apart (names_of h.results) (defined_in rs ++ defined_in rest) u d i
      (⊎_elim (λ c. has-left u (defined_in rs) (defined_in rest) (new_defined rs u c)) (λ c. has-right u (defined_in rs) (defined_in rest) (new_defined rest u c)) (has-append u (new_values rs) (new_values rest) j)))
  new_distinct (block l os rest) d =
      let inside = distinct_right (names_of l.arguments) (defined_in os ++ defined_in rest) d in
      distinct_append (keep_back made (names_of l.arguments) (new_values os)) (new_values rest)
      (back_distinct made (names_of l.arguments) (new_values os) (distinct_left (names_of l.arguments) (defined_in os ++ defined_in rest) d) (new_distinct os (distinct_left (defined_in os) (defined_in rest) inside))
      (λ u i j. distinct_apart (names_of l.arguments) (defined_in os ++ defined_in rest) u d i (has-left u (defined_in os) (defined_in rest) (new_defined os u j))))
      (new_distinct rest (distinct_right (defined_in os) (defined_in rest) inside))
      (λ u i j. ⊎_elim (λ a. distinct_apart (names_of l.arguments) (defined_in os ++ defined_in rest) u d a (has-right u (defined_in os) (defined_in rest) (new_defined rest u j))) (λ a. distinct_apart (defined_in os) (defined_in rest) u inside (new_defined os u a) (new_defined rest u j)) (back_in made (names_of l.arguments) (new_values os) u i))
  new_distinct (region bs rest) d =
      distinct_append (new_values bs) (new_values rest) (new_distinct bs (distinct_left (defined_in bs) (defined_in rest) d)) (new_distinct rest (distinct_right (defined_in bs) (defined_in rest) d)) (λ u i j. distinct_apart (defined_in bs) (defined_in rest) u d (new_defined bs u i) (new_defined rest u j))

  -- names of operations

  abbrev op_names : {s : Sort} → Tree (fresh N) kit_contents s → List (Name N.operation N.value)
  op_names t = map (λ (z : Head (fresh N) kit_contents). z.name) (heads_in t)

  abbrev ops_before : {s : Sort} → Tree N kit_contents s → List N.operation
  ops_before t = map (λ (z : Head N kit_contents). z.name) (heads_in t)

  names_both : (xs ys : List (Head (fresh N) kit_contents)) → map (λ (z : Head (fresh N) kit_contents). z.name) (xs ++ ys) ≡ map (λ (z : Head (fresh N) kit_contents). z.name) xs ++ map (λ (z : Head (fresh N) kit_contents). z.name) ys
  names_both xs ys = map-append (λ (z : Head (fresh N) kit_contents). z.name) xs ys

  before_both : (xs ys : List (Head N kit_contents)) → map (λ (z : Head N kit_contents). z.name) (xs ++ ys) ≡ map (λ (z : Head N kit_contents). z.name) xs ++ map (λ (z : Head N kit_contents). z.name) ys
  before_both xs ys = map-append (λ (z : Head N kit_contents). z.name) xs ys

  one_olds : (v : N.value) (o : Option IntegerAttr) (t : Tree (fresh N) kit_contents Operations) → (olds (op_names (put_one {N = N} kit v o t)) ≡ olds (op_names t)) × (olds (defined_in (put_one {N = N} kit v o t)) ≡ olds (defined_in t))
  unfolding olds
  one_olds v None t = (refl, refl)
  one_olds v (Some a) t = (refl, refl)

  one_news : (v : N.value) (o : Option IntegerAttr) (t : Tree (fresh N) kit_contents Operations) → (news (op_names (put_one {N = N} kit v o t)) ≡ keep_one made v o (news (op_names t))) × (news (defined_in (put_one {N = N} kit v o t)) ≡ keep_one made v o (news (defined_in t)))
  unfolding news
  one_news v None t = (refl, refl)
  one_news v (Some a) t = (refl, refl)

  results_olds : (vs : List (Defined N.value TypeHandle)) (t : Tree (fresh N) kit_contents Operations) → (olds (op_names (put_results {N = N} kit made vs t)) ≡ olds (op_names t)) × (olds (defined_in (put_results {N = N} kit made vs t)) ≡ olds (defined_in t))
  results_olds [] t = (refl, refl)
  results_olds (v ∷ vs) t =
      let a = one_olds v.name (made v.name) (put_results {N = N} kit made vs t) in
      let b = results_olds vs t in (a.0 ∙ b.0, a.1 ∙ b.1)

  results_news : (vs : List (Defined N.value TypeHandle)) (t : Tree (fresh N) kit_contents Operations) → (news (op_names (put_results {N = N} kit made vs t)) ≡ keep made (names_of vs) (news (op_names t))) × (news (defined_in (put_results {N = N} kit made vs t)) ≡ keep made (names_of vs) (news (defined_in t)))
  results_news [] t = (refl, refl)
  results_news (v ∷ vs) t =
      let a = one_news v.name (made v.name) (put_results {N = N} kit made vs t) in
      let b = results_news vs t in (a.0 ∙ ap (keep_one made v.name (made v.name)) b.0, a.1 ∙ ap (keep_one made v.name (made v.name)) b.1)

  arguments_olds : (vs : List (Defined N.value TypeHandle)) (t : Tree (fresh N) kit_contents Operations) → (olds (op_names (put_arguments {N = N} kit made vs t)) ≡ olds (op_names t)) × (olds (defined_in (put_arguments {N = N} kit made vs t)) ≡ olds (defined_in t))
  arguments_olds [] t = (refl, refl)
  arguments_olds (v ∷ vs) t =
      let a = arguments_olds vs (put_one {N = N} kit v.name (made v.name) t) in
      let b = one_olds v.name (made v.name) t in (a.0 ∙ b.0, a.1 ∙ b.1)

  arguments_news : (vs : List (Defined N.value TypeHandle)) (t : Tree (fresh N) kit_contents Operations) → (news (op_names (put_arguments {N = N} kit made vs t)) ≡ keep_back made (names_of vs) (news (op_names t))) × (news (defined_in (put_arguments {N = N} kit made vs t)) ≡ keep_back made (names_of vs) (news (defined_in t)))
  arguments_news [] t = (refl, refl)
  arguments_news (v ∷ vs) t =
      let a = arguments_news vs (put_one {N = N} kit v.name (made v.name) t) in
      let b = one_news v.name (made v.name) t in (a.0 ∙ ap (keep_back made (names_of vs)) b.0, a.1 ∙ ap (keep_back made (names_of vs)) b.1)

  -- of operations and of values: the old ones are those that were there, the new ones those that get constants
  olds_put : {s : Sort} (t : Tree N kit_contents s) → (olds (op_names (put {N = N} kit made t)) ≡ ops_before t) × (olds (defined_in (put {N = N} kit made t)) ≡ defined_in t)
  unfolding olds
  olds_put end = (refl, refl)
  olds_put (operation h rs rest) =
      let a = results_olds h.results (operation (old_head {N = N} made h) (put {N = N} kit made rs) (put {N = N} kit made rest)) in
      let b = olds_put rs in
      let c = olds_put rest in (
        a.0 ∙ ap (λ l. h.name ∷ l) (ap olds (names_both (heads_in (put {N = N} kit made rs)) (heads_in (put {N = N} kit made rest))) ∙ (olds_append (op_names (put {N = N} kit made rs)) (op_names (put {N = N} kit made rest)) ∙ ((λ i. b.0 i ++ c.0 i) ∙ sym (before_both (heads_in rs) (heads_in rest))))),
        a.1 ∙ (ap (λ l. olds (l ++ (defined_in (put {N = N} kit made rs) ++ defined_in (put {N = N} kit made rest)))) (names-map Old h.results) ∙ (olds_old (names_of h.results) (defined_in (put {N = N} kit made rs) ++ defined_in (put {N = N} kit made rest)) ∙ ap (λ l. names_of h.results ++ l) (olds_append (defined_in (put {N = N} kit made rs)) (defined_in (put {N = N} kit made rest)) ∙ λ i. b.1 i ++ c.1 i))),
      )
  olds_put (block l os rest) =
      let a = arguments_olds l.arguments (put {N = N} kit made os) in
      let b = olds_put os in
      let c = olds_put rest in
      let t = put_arguments {N = N} kit made l.arguments (put {N = N} kit made os) in (
        ap olds (names_both (heads_in t) (heads_in (put {N = N} kit made rest))) ∙ (olds_append (op_names t) (op_names (put {N = N} kit made rest)) ∙ ((λ i. (a.0 ∙ b.0) i ++ c.0 i) ∙ sym (before_both (heads_in os) (heads_in rest)))),
        ap (λ m. olds (m ++ (defined_in t ++ defined_in (put {N = N} kit made rest)))) (names-map Old l.arguments) ∙ (olds_old (names_of l.arguments) (defined_in t ++ defined_in (put {N = N} kit made rest)) ∙ ap (λ m. names_of l.arguments ++ m) (olds_append (defined_in t) (defined_in (put {N = N} kit made rest)) ∙ λ i. (a.1 ∙ b.1) i ++ c.1 i)),
      )
  olds_put (region bs rest) =
      let b = olds_put bs in
      let c = olds_put rest in (
        ap olds (names_both (heads_in (put {N = N} kit made bs)) (heads_in (put {N = N} kit made rest))) ∙ (olds_append (op_names (put {N = N} kit made bs)) (op_names (put {N = N} kit made rest)) ∙ ((λ i. b.0 i ++ c.0 i) ∙ sym (before_both (heads_in bs) (heads_in rest)))),
        olds_append (defined_in (put {N = N} kit made bs)) (defined_in (put {N = N} kit made rest)) ∙ λ i. b.1 i ++ c.1 i,
      )

  news_put : {s : Sort} (t : Tree N kit_contents s) → (news (op_names (put {N = N} kit made t)) ≡ new_values t) × (news (defined_in (put {N = N} kit made t)) ≡ new_values t)
  unfolding news
  news_put end = (refl, refl)
  news_put (operation h rs rest) =
      let a = results_news h.results (operation (old_head {N = N} made h) (put {N = N} kit made rs) (put {N = N} kit made rest)) in
      let b = news_put rs in
      let c = news_put rest in (
        a.0 ∙ ap (keep made (names_of h.results)) (ap news (names_both (heads_in (put {N = N} kit made rs)) (heads_in (put {N = N} kit made rest))) ∙ (news_append (op_names (put {N = N} kit made rs)) (op_names (put {N = N} kit made rest)) ∙ λ i. b.0 i ++ c.0 i)),
        a.1 ∙ ap (keep made (names_of h.results)) (ap (λ l. news (l ++ (defined_in (put {N = N} kit made rs) ++ defined_in (put {N = N} kit made rest)))) (names-map Old h.results) ∙ (news_old (names_of h.results) (defined_in (put {N = N} kit made rs) ++ defined_in (put {N = N} kit made rest)) ∙ (news_append (defined_in (put {N = N} kit made rs)) (defined_in (put {N = N} kit made rest)) ∙ λ i. b.1 i ++ c.1 i))),
      )
  news_put (block l os rest) =
      let a = arguments_news l.arguments (put {N = N} kit made os) in
      let b = news_put os in
      let c = news_put rest in
      let t = put_arguments {N = N} kit made l.arguments (put {N = N} kit made os) in (
        ap news (names_both (heads_in t) (heads_in (put {N = N} kit made rest))) ∙ (news_append (op_names t) (op_names (put {N = N} kit made rest)) ∙ λ i. (a.0 ∙ ap (keep_back made (names_of l.arguments)) b.0) i ++ c.0 i),
        ap (λ m. news (m ++ (defined_in t ++ defined_in (put {N = N} kit made rest)))) (names-map Old l.arguments) ∙ (news_old (names_of l.arguments) (defined_in t ++ defined_in (put {N = N} kit made rest)) ∙ (news_append (defined_in t) (defined_in (put {N = N} kit made rest)) ∙ λ i. (a.1 ∙ ap (keep_back made (names_of l.arguments)) b.1) i ++ c.1 i)),
      )
  news_put (region bs rest) =
      let b = news_put bs in
      let c = news_put rest in (
        ap news (names_both (heads_in (put {N = N} kit made bs)) (heads_in (put {N = N} kit made rest))) ∙ (news_append (op_names (put {N = N} kit made bs)) (op_names (put {N = N} kit made rest)) ∙ λ i. b.0 i ++ c.0 i),
        news_append (defined_in (put {N = N} kit made bs)) (defined_in (put {N = N} kit made rest)) ∙ λ i. b.1 i ++ c.1 i,
      )

  pub operations_distinct : {s : Sort} (o : N.operation) (t : Tree N kit_contents s) → Distinct (o ∷ ops_before t) → Distinct (defined_in t) → Distinct (Old o ∷ op_names (put {N = N} kit made t))
  unfolding olds news
  operations_distinct o t a b =
      both_distinct (Old o ∷ op_names (put {N = N} kit made t))
      (subst Distinct (ap (λ l. o ∷ l) (sym (olds_put t).0)) a)
      (subst Distinct (sym (news_put t).0) (new_distinct t b))

  pub values_distinct : {s : Sort} (t : Tree N kit_contents s) → Distinct (defined_in t) → Distinct (defined_in (put {N = N} kit made t))
  values_distinct t b =
      both_distinct (defined_in (put {N = N} kit made t)) (subst Distinct (sym (olds_put t).1) b) (subst Distinct (sym (news_put t).1) (new_distinct t b))
