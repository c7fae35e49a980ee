-- Trees that are the same up to names are the same under a renaming that keeps names apart.
use Rattle.std.proofs.Common.{◌≡◌, List, [], ◌∷◌, ◌++◌, map, refl, sym, ap, ◌∙◌}
use Rattle.std.proofs.lemmas.List.{map-append}
use Rattle.std.proofs.lemmas.Simd.{map-map}
use Rattle.ir_trees.specs.Names.{Names, Contents}
use Rattle.ir_trees.specs.Trees.{Defined, Head, Label, Sort, Tree, end, operation, block, region, Root}
use Rattle.ir_trees.specs.Searched.{heads_in, operation_names}
use Rattle.ir_trees.specs.Renames.{Maps, rename_defined, rename_head, rename_label, rename, rename_root, names_of, values_at, values_in, blocks_in, values_of, blocks_of, IsOneToOne, forget, IsSameUpToNames, IsRenamed, HaveTests}
use Rattle.ir_trees.proofs.Renamed.{root_twice, heads_under, names_renamed, values_at_renamed, values_under, blocks_under, operation_names_renamed, values_renamed, blocks_renamed}
use Rattle.ir_trees.proofs.Alike.{nothing, AsLong, split, alike_here, alike_back, alike_on, alike_map, pick, picked_all, picked_apart}

-- definitions that hold the same and have the same names
one_definitions : {V T : Type 0} (ds es : List (Defined V T)) → map (rename_defined {T = T} (nothing {X = V})) ds ≡ map (rename_defined {T = T} (nothing {X = V})) es → names_of ds ≡ names_of es → ds ≡ es
one_definitions [] [] a b = refl
one_definitions [] (e ∷ es) a b = cc
one_definitions (d ∷ ds) [] a b = cc
one_definitions {V} {T} (d ∷ ds) (e ∷ es) a b =
    let first : rename_defined {T = T} (nothing {X = V}) d ≡ rename_defined {T = T} (nothing {X = V}) e = cc in
    let name : d.name ≡ e.name = cc in
    let held : map (rename_defined {T = T} (nothing {X = V})) ds ≡ map (rename_defined {T = T} (nothing {X = V})) es = cc in
    let named : names_of ds ≡ names_of es = cc in
    let rest : ds ≡ es = one_definitions ds es held named in
    λ i. record { name = name i; holds = (first i).holds } ∷ rest i

module _ {N : Names} {S : Contents} where
  abbrev names_in : {s : Sort} → Tree N S s → List N.operation
  names_in t = map (λ (h : Head N S). h.name) (heads_in t)

  names_under : {s : Sort} (t : Tree N S s) → map (λ h. h.name) (heads_in (rename forget t)) ≡ map (nothing {X = N.operation}) (names_in t)
  names_under t = ap (λ l. map (λ h. h.name) l) (heads_under forget t) ∙ map-map (λ h. h.name) (rename_head forget) (heads_in t) ∙ sym (map-map (nothing {X = N.operation}) (λ (h : Head N S). h.name) (heads_in t))

  names_long : {s : Sort} (a b : Tree N S s) → rename forget a ≡ rename forget b → AsLong (names_in a) (names_in b)
  names_long a b e = sym (names_under a) ∙ ap (λ x. map (λ h. h.name) (heads_in x)) e ∙ names_under b

  values_long : {s : Sort} (a b : Tree N S s) → rename forget a ≡ rename forget b → AsLong (values_in a) (values_in b)
  values_long a b e = sym (values_under forget a) ∙ ap (λ x. values_in x) e ∙ values_under forget b

  blocks_long : {s : Sort} (a b : Tree N S s) → rename forget a ≡ rename forget b → AsLong (blocks_in a) (blocks_in b)
  blocks_long a b e = sym (blocks_under forget a) ∙ ap (λ x. blocks_in x) e ∙ blocks_under forget b

  values_at_long : (h k : Head N S) → rename_head forget h ≡ rename_head forget k → AsLong (values_at h) (values_at k)
  values_at_long h k e = sym (values_at_renamed forget h) ∙ ap (λ x. values_at x) e ∙ values_at_renamed forget k

  -- heads that say the same and have the same names
  one_head : (h k : Head N S) → rename_head forget h ≡ rename_head forget k → h.name ≡ k.name → h.successors ≡ k.successors → values_at h ≡ values_at k → h ≡ k
  one_head h k e name successors values =
      let long : AsLong (names_of h.results) (names_of k.results) = sym (names_renamed nothing h.results) ∙ ap (λ x. names_of x.results) e ∙ names_renamed nothing k.results in
      let parts = split (names_of h.results) h.operands (names_of k.results) k.operands long values in
      let results : h.results ≡ k.results = one_definitions h.results k.results (ap (λ x. x.results) e) parts.0 in
      λ i. record { name = name i; content = (e i).content; results = results i; operands = parts.1 i; successors = successors i }

  one_label : (h k : Label N S) → rename_label forget h ≡ rename_label forget k → h.name ≡ k.name → names_of h.arguments ≡ names_of k.arguments → h ≡ k
  one_label h k e name values =
      let arguments : h.arguments ≡ k.arguments = one_definitions h.arguments k.arguments (ap (λ x. x.arguments) e) values in
      λ i. record { name = name i; content = (e i).content; arguments = arguments i }

  one_list : {s : Sort} (a b : Tree N S s) → rename forget a ≡ rename forget b → names_in a ≡ names_in b → blocks_in a ≡ blocks_in b → values_in a ≡ values_in b → a ≡ b
  one_list end end e n b v = refl
  one_list end (operation h rs rest) e n b v = cc
  one_list end (block l ops rest) e n b v = cc
  one_list end (region bs rest) e n b v = cc
  one_list (operation h rs rest) end e n b v = cc
  one_list (block l ops rest) end e n b v = cc
  one_list (region bs rest) end e n b v = cc
  one_list (operation h rs rest) (operation k us more) e n b v =
      let eh : rename_head forget h ≡ rename_head forget k = cc in
      let er : rename forget rs ≡ rename forget us = cc in
      let el : rename forget rest ≡ rename forget more = cc in
      let name : h.name ≡ k.name = cc in
      let names : map (λ (x : Head N S). x.name) (heads_in rs ++ heads_in rest) ≡ map (λ (x : Head N S). x.name) (heads_in us ++ heads_in more) = cc in
      let ns = split (names_in rs) (names_in rest) (names_in us) (names_in more) (names_long rs us er) (sym (map-append (λ (x : Head N S). x.name) (heads_in rs) (heads_in rest)) ∙ names ∙ map-append (λ (x : Head N S). x.name) (heads_in us) (heads_in more)) in
      let b1 = split h.successors (blocks_in rs ++ blocks_in rest) k.successors (blocks_in us ++ blocks_in more) (ap (λ x. x.successors) eh) b in
      let b2 = split (blocks_in rs) (blocks_in rest) (blocks_in us) (blocks_in more) (blocks_long rs us er) b1.1 in
      let v1 = split (values_at h) (values_in rs ++ values_in rest) (values_at k) (values_in us ++ values_in more) (values_at_long h k eh) v in
      let v2 = split (values_in rs) (values_in rest) (values_in us) (values_in more) (values_long rs us er) v1.1 in
      let first = one_head h k eh name b1.0 v1.0 in
      let inner = one_list rs us er ns.0 b2.0 v2.0 in
      let later = one_list rest more el ns.1 b2.1 v2.1 in
      λ i. operation (first i) (inner i) (later i)
  one_list (block h rs rest) (block k us more) e n b v =
      let eh : rename_label forget h ≡ rename_label forget k = cc in
      let er : rename forget rs ≡ rename forget us = cc in
      let el : rename forget rest ≡ rename forget more = cc in
      let name : h.name ≡ k.name = cc in
      let ns = split (names_in rs) (names_in rest) (names_in us) (names_in more) (names_long rs us er) (sym (map-append (λ (x : Head N S). x.name) (heads_in rs) (heads_in rest)) ∙ n ∙ map-append (λ (x : Head N S). x.name) (heads_in us) (heads_in more)) in
      let below : blocks_in rs ++ blocks_in rest ≡ blocks_in us ++ blocks_in more = cc in
      let b2 = split (blocks_in rs) (blocks_in rest) (blocks_in us) (blocks_in more) (blocks_long rs us er) below in
      let long : AsLong (names_of h.arguments) (names_of k.arguments) = sym (names_renamed nothing h.arguments) ∙ ap (λ x. names_of x.arguments) eh ∙ names_renamed nothing k.arguments in
      let v1 = split (names_of h.arguments) (values_in rs ++ values_in rest) (names_of k.arguments) (values_in us ++ values_in more) long v in
      let v2 = split (values_in rs) (values_in rest) (values_in us) (values_in more) (values_long rs us er) v1.1 in
      let first = one_label h k eh name v1.0 in
      let inner = one_list rs us er ns.0 b2.0 v2.0 in
      let later = one_list rest more el ns.1 b2.1 v2.1 in
      λ i. block (first i) (inner i) (later i)
  one_list (region rs rest) (region us more) e n b v =
      let er : rename forget rs ≡ rename forget us = cc in
      let el : rename forget rest ≡ rename forget more = cc in
      let ns = split (names_in rs) (names_in rest) (names_in us) (names_in more) (names_long rs us er) (sym (map-append (λ (x : Head N S). x.name) (heads_in rs) (heads_in rest)) ∙ n ∙ map-append (λ (x : Head N S). x.name) (heads_in us) (heads_in more)) in
      let b2 = split (blocks_in rs) (blocks_in rest) (blocks_in us) (blocks_in more) (blocks_long rs us er) b in
      let v2 = split (values_in rs) (values_in rest) (values_in us) (values_in more) (values_long rs us er) v in
      let inner = one_list rs us er ns.0 b2.0 v2.0 in
      let later = one_list rest more el ns.1 b2.1 v2.1 in
      λ i. region (inner i) (later i)

  -- trees of one shape that say the same and have the same names are one
  one_root : (t u : Root N S) → rename_root forget t ≡ rename_root forget u → operation_names t ≡ operation_names u → blocks_of t ≡ blocks_of u → values_of t ≡ values_of u → t ≡ u
  one_root t u e n b v =
      let eh : rename_head forget t.head ≡ rename_head forget u.head = ap (λ x. x.head) e in
      let er : rename forget t.regions ≡ rename forget u.regions = ap (λ x. x.regions) e in
      let name : t.head.name ≡ u.head.name = cc in
      let names : names_in t.regions ≡ names_in u.regions = cc in
      let bs = split t.head.successors (blocks_in t.regions) u.head.successors (blocks_in u.regions) (ap (λ x. x.successors) eh) b in
      let vs = split (values_at t.head) (values_in t.regions) (values_at u.head) (values_in u.regions) (values_at_long t.head u.head eh) v in
      let first = one_head t.head u.head eh name bs.0 vs.0 in
      let inner = one_list t.regions u.regions er names bs.1 vs.1 in
      λ i. record { head = first i; regions = inner i }

module _ {N : Names} {S : Contents} where
  pub same_itself : (t : Root N S) → IsSameUpToNames t t
  same_itself t = record { shape = refl; operations = alike_here (operation_names t); blocks = alike_here (blocks_of t); values = alike_here (values_of t) }

module _ {N M : Names} {S : Contents} where
  pub same_back : (t : Root N S) (u : Root M S) → IsSameUpToNames t u → IsSameUpToNames u t
  same_back t u s = record {
    shape = sym s.shape;
    operations = alike_back (operation_names t) (operation_names u) s.operations;
    blocks = alike_back (blocks_of t) (blocks_of u) s.blocks;
    values = alike_back (values_of t) (values_of u) s.values;
  }

  pub same_on : {P : Names} (t : Root N S) (u : Root M S) (v : Root P S) → IsSameUpToNames t u → IsSameUpToNames u v → IsSameUpToNames t v
  same_on t u v s r = record {
    shape = s.shape ∙ r.shape;
    operations = alike_on (operation_names t) (operation_names u) (operation_names v) s.operations r.operations;
    blocks = alike_on (blocks_of t) (blocks_of u) (blocks_of v) s.blocks r.blocks;
    values = alike_on (values_of t) (values_of u) (values_of v) s.values r.values;
  }

  pub same_renamed : (m : Maps N M) (t : Root N S) → IsOneToOne m t → IsSameUpToNames t (rename_root m t)
  same_renamed m t one = record {
    shape = sym (root_twice forget m t);
    operations = alike_map m.operation (operation_names t) one.operations _ (operation_names_renamed m t);
    blocks = alike_map m.block (blocks_of t) one.blocks _ (blocks_renamed m t);
    values = alike_map m.value (values_of t) one.values _ (values_renamed m t);
  }

  module _ (tests : HaveTests N) (other : Maps N M) (t : Root N S) (u : Root M S) (s : IsSameUpToNames t u) where
    names_as_long : AsLong (operation_names t) (operation_names u)
    names_as_long = sym (operation_names_renamed forget t) ∙ ap (λ x. operation_names x) s.shape ∙ operation_names_renamed forget u

    blocks_as_long : AsLong (blocks_of t) (blocks_of u)
    blocks_as_long = sym (blocks_renamed forget t) ∙ ap (λ x. blocks_of x) s.shape ∙ blocks_renamed forget u

    values_as_long : AsLong (values_of t) (values_of u)
    values_as_long = sym (values_renamed forget t) ∙ ap (λ x. values_of x) s.shape ∙ values_renamed forget u

    -- each name for the first that stands where it does
    abbrev found : Maps N M
    found = record {
      operation = pick tests.operation other.operation (operation_names t) (operation_names u);
      block = pick tests.block other.block (blocks_of t) (blocks_of u);
      value = pick tests.value other.value (values_of t) (values_of u);
    }

    pub renaming_found : IsRenamed t u
    renaming_found = (
      found,
      record {
        operations = picked_apart tests.operation other.operation (operation_names t) (operation_names u) names_as_long s.operations;
        blocks = picked_apart tests.block other.block (blocks_of t) (blocks_of u) blocks_as_long s.blocks;
        values = picked_apart tests.value other.value (values_of t) (values_of u) values_as_long s.values;
      },
      one_root (rename_root found t) u (root_twice forget found t ∙ s.shape)
          (operation_names_renamed found t ∙ picked_all tests.operation other.operation (operation_names t) (operation_names u) names_as_long s.operations)
          (blocks_renamed found t ∙ picked_all tests.block other.block (blocks_of t) (blocks_of u) blocks_as_long s.blocks)
          (values_renamed found t ∙ picked_all tests.value other.value (values_of t) (values_of u) values_as_long s.values),
    )
