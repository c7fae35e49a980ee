-- The parts of a search over numbers are those of one over the nodes that they name.
use Rattle.std.proofs.Common.{◌≡◌, ℕ, List, [], ◌∷◌, ◌++◌, Some, refl, sym, ap, ◌∙◌, subst}
use Rattle.std.specs.Prelude.{Contains, map, slice_get}
use Rattle.std.proofs.lemmas.Option.{same_Some}
use Rattle.std.specs.declared.vec.Vec.{Vec}
use Rattle.std.specs.declared.alloc.Global.{Global}
use Rattle.digraph.specs.Graph.{successors}
use Rattle.digraph.specs.Visits.{Traversal, empty, VisitsApart, NothingApart, PassesApart, BeginsApart, IsPostOrderApart}
use Rattle.digraph.proofs.Visiting.{left_grows}
use Rattle.ir_graph.specs.Graphs.{AreDistinctNodes, AreNodeNumbers, AreNamedParts, IsNumbering}
use Rattle.ir_graph.proofs.Named.{Names, visits_nodes}
use Rattle.ir_graph.proofs.Numbers.{node_at, number_of, one_naming}

module _ {X : Type 0} where
  -- parts have one naming
  pub one_naming_parts : (xss yss : List (List X)) → map (map Some) xss ≡ map (map Some) yss → xss ≡ yss
  one_naming_parts [] [] e = refl
  one_naming_parts [] (ys ∷ yss) e = absurd (cc)
  one_naming_parts (xs ∷ xss) [] e = absurd (cc)
  one_naming_parts (xs ∷ xss) (ys ∷ yss) e =
      let a : map Some xs ≡ map Some ys = cc in
      let b : map (map Some) xss ≡ map (map Some) yss = cc in
      ap (λ zs. zs ∷ xss) (one_naming xs ys a) ∙ ap (λ zss. ys ∷ zss) (one_naming_parts xss yss b)

  module _ (keys : List X) where
    -- what stands behind names is named
    named_rest : (os xs : List ℕ) (ps ys : List X) → AreNodeNumbers keys os ps → AreNodeNumbers keys (os ++ xs) (ps ++ ys) → AreNodeNumbers keys xs ys
    named_rest [] xs [] ys d e = e
    named_rest [] xs (p ∷ ps) ys d e = absurd (cc)
    named_rest (o ∷ os) xs [] ys d e = absurd (cc)
    named_rest (o ∷ os) xs (p ∷ ps) ys d e =
        let a : AreNodeNumbers keys os ps = cc in
        let b : AreNodeNumbers keys (os ++ xs) (ps ++ ys) = cc in named_rest os xs ps ys a b

    module _ (distinct : AreDistinctNodes keys) (succ : ℕ → List ℕ) (next : X → List X) (rows : (i : ℕ) (n : X) → slice_get keys i ≡ Some n → AreNodeNumbers keys (succ i) (next n)) where
      pub parts_nodes : {o q : Traversal ℕ} {ns : List ℕ} {parts : List (List ℕ)} → VisitsApart succ o ns parts q → (p : Traversal X) (ms : List X) → Names keys o p → AreNodeNumbers keys ns ms
          → (r : Traversal X) × (named : List (List X)) × AreNamedParts keys parts named × VisitsApart next p ms named r
      parts_nodes NothingApart p [] n e = (p, [], refl, NothingApart)
      parts_nodes NothingApart p (m ∷ ms) n e = absurd (cc)
      parts_nodes (PassesApart c v) p [] n e = absurd (cc)
      parts_nodes (PassesApart {o = o} {n = i} {ns = ns} c v) p (m ∷ ms) n e =
          let a : slice_get keys i ≡ Some m = cc in
          let b : AreNodeNumbers keys ns ms = cc in
          let h = node_at keys o.seen p.seen n.seen i c in
          let r = parts_nodes v p ms n b in
          (r.0, r.1, r.2, PassesApart (subst (Contains p.seen) (same_Some h.0 m (sym h.2 ∙ a)) h.1) r.3)
      parts_nodes (BeginsApart f u l v) p [] n e = absurd (cc)
      parts_nodes (BeginsApart {o = o} {n = i} {ns = ns} {part = part} {parts = rest} f u l v) p (m ∷ ms) n e =
          let a : slice_get keys i ≡ Some m = cc in
          let b : AreNodeNumbers keys ns ms = cc in
          let one : AreNodeNumbers keys (i ∷ []) (m ∷ []) = ap (λ x. x ∷ []) a in
          let s = visits_nodes keys distinct succ next rows u p (m ∷ []) n one in
          let k = left_grows next s.2 in
          let t = named_rest o.left part p.left k.0 n.left (sym (ap (map (slice_get keys)) l) ∙ s.1.left ∙ ap (map Some) k.1) in
          let r = parts_nodes v s.0 ms s.1 b in
          (r.0, k.0 ∷ r.1, ap (λ x. x ∷ map (map (slice_get keys)) rest) t ∙ ap (λ y. map Some k.0 ∷ y) r.2, BeginsApart (λ d. let h = number_of keys o.seen p.seen n.seen m d in f (subst (Contains o.seen) (distinct h.0 i m h.2 a) h.1)) s.2 k.1 r.3)

  module _ (next : X → List X) (nodes kept : List X) (distinct : AreDistinctNodes nodes) (numbers : List ℕ) (rows : List (Vec ℕ Global)) (s : IsNumbering next nodes kept numbers rows) where
    pub parts_named : (g : List (Vec ℕ Global)) (rs : List ℕ) (parts : List (List ℕ)) → g ≡ rows → rs ≡ numbers → IsPostOrderApart (successors g) rs parts → (named : List (List X)) × AreNamedParts nodes parts named × IsPostOrderApart next nodes named
    parts_named g rs parts e d v =
        let r = parts_nodes nodes distinct (successors rows) next s.onward (subst (λ ns. VisitsApart (successors rows) empty ns parts v.0) d (subst (λ h. VisitsApart (successors h) empty rs parts v.0) e v.1)) empty nodes (record { seen = refl; left = refl }) s.named in
        (r.1, r.2, (r.0, r.3))
