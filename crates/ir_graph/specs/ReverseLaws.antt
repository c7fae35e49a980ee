-- The laws of a graph whose edges are turned round.
use Rattle.std.specs.Prelude.{◌≡◌, ℕ, ◌<◌, ◌≤◌, List, [], ◌∷◌, ◌++◌, Bool, true, false, Some, map, length, slice_get, Contains, ◌↔◌}
use Rattle.std.specs.List.{list_any}
use Rattle.std.proofs.Common.{zero, suc, get_or, ⊎_elim, refl, sym, ap, ◌∙◌, subst, arith}
use Rattle.std.proofs.lemmas.Option.{none-some, slice_get-get_or, slice_get_within, get_or_from_slice_get}
use Rattle.std.proofs.lemmas.List.Elements.{Contains-append_left, Contains-append_right, Contains-append_cases}
use Rattle.std.proofs.lemmas.List.Folds.{list_any_at}
use Rattle.std.proofs.lemmas.Map.Views.{Contains-from_any}
use Rattle.ir_graph.specs.declared.reverse.ReverseNode.{ReverseNode}
use Rattle.ir_graph.specs.declared.reverse.ReverseNode.TheVariants.{Sentinel, Real}
use Rattle.ir_graph.specs.Graphs.{AreDistinctNodes}
use Rattle.ir_graph.specs.Reverse.{sentinel_if, reverse_nodes, reverse_successors, reverse_predecessors}

module _ {X : Type 0} where
  real_place : (xs : List X) (i : ℕ) (n : ReverseNode X) → slice_get (map Real xs) i ≡ Some n → (x : X) × (n ≡ Real x) × (slice_get xs i ≡ Some x)
  real_place [] i n e = absurd (none-some n e)
  real_place (x ∷ xs) zero n e = let a : Real x ≡ n = cc in (x, sym a, refl)
  real_place (x ∷ xs) (suc i) n e = real_place xs i n e

  pub real_at : (xs : List X) (i : ℕ) (x : X) → slice_get xs i ≡ Some x → slice_get (map Real xs) i ≡ Some (Real x)
  real_at [] i x e = absurd (none-some x e)
  real_at (y ∷ xs) zero x e = let a : y ≡ x = cc in ap (λ z. Some (Real z)) a
  real_at (y ∷ xs) (suc i) x e = real_at xs i x e

  same_real : (x y : X) → Real x ≡ Real y → x ≡ y
  same_real x y e = cc

  -- what is among real nodes
  real_in : (xs : List X) (n : ReverseNode X) → Contains (map Real xs) n → (x : X) × (n ≡ Real x) × Contains xs x
  real_in xs n c =
      let p = real_place xs c.0 n (slice_get-get_or (map Real xs) c.0 n c.1 ∙ ap Some c.2) in
      (p.0, p.1, (c.0, slice_get_within xs c.0 p.0 p.2, get_or_from_slice_get xs c.0 p.0 p.0 p.2))

  pub in_real : (xs : List X) (x : X) → Contains xs x → Contains (map Real xs) (Real x)
  in_real xs x c =
      let e = real_at xs c.0 x (slice_get-get_or xs c.0 x c.1 ∙ ap Some c.2) in
      (c.0, slice_get_within (map Real xs) c.0 (Real x) e, get_or_from_slice_get (map Real xs) c.0 (Real x) (Real x) e)

  pub real_among : (xs : List X) (x : X) → Contains (map Real xs) (Real x) → Contains xs x
  real_among xs x c = let r = real_in xs (Real x) c in subst (Contains xs) (sym (same_real x r.0 r.1)) r.2

  pub no_sentinel : (xs : List X) → Contains (map Real xs) Sentinel → ⊥
  no_sentinel xs c = let r = real_in xs Sentinel c in let e = r.1 in cc

  pub sentinel_in : (nodes : List X) → Contains (reverse_nodes nodes) Sentinel
  sentinel_in nodes = (0, omega arith, refl)

  pub node_in : (nodes : List X) (x : X) → Contains nodes x → Contains (reverse_nodes nodes) (Real x)
  node_in nodes x c = Contains-append_right (Sentinel ∷ []) (map Real nodes) (Real x) (in_real nodes x c)

  alone : (n m : ReverseNode X) → Contains (n ∷ []) m → n ≡ m
  alone n m c = one c.0 c.1 c.2
    where
      one : (i : ℕ) → i < 1 → get_or (n ∷ []) i m ≡ m → n ≡ m
      one zero h e = e
      one (suc i) h e = absurd (omega (arith, h))

  pub in_node : (nodes : List X) (x : X) → Contains (reverse_nodes nodes) (Real x) → Contains nodes x
  in_node nodes x c = ⊎_elim (λ a. let e = alone Sentinel (Real x) a in absurd (cc)) (λ b. real_among nodes x b) (Contains-append_cases (Sentinel ∷ []) (map Real nodes) (Real x) c)

  -- no node is there twice
  pub reverse_distinct : (nodes : List X) → AreDistinctNodes nodes → AreDistinctNodes (reverse_nodes nodes)
  reverse_distinct nodes d zero zero n a b = refl
  reverse_distinct nodes d zero (suc j) n a b = let r = real_place nodes j n b in let e = r.1 in absurd (cc)
  reverse_distinct nodes d (suc i) zero n a b = let r = real_place nodes i n a in let e = r.1 in absurd (cc)
  reverse_distinct nodes d (suc i) (suc j) n a b =
      let r = real_place nodes i n a in
      let s = real_place nodes j n b in
      ap suc (d i j r.0 r.2 (subst (λ x. slice_get nodes j ≡ Some x) (sym (same_real r.0 s.0 (sym r.1 ∙ s.1))) s.2))

  -- successors are nodes
  pub reverse_onward : (nodes found : List X) (previous : X → List X) → ((n : X) → Contains found n → Contains nodes n) → ((n m : X) → Contains nodes n → Contains (previous n) m → Contains nodes m)
      → (n m : ReverseNode X) → Contains (reverse_nodes nodes) n → Contains (reverse_successors previous found n) m → Contains (reverse_nodes nodes) m
  reverse_onward nodes found previous f h Sentinel m c d = let r = real_in found m d in subst (Contains (reverse_nodes nodes)) (sym r.1) (node_in nodes r.0 (f r.0 r.2))
  reverse_onward nodes found previous f h (Real n) m c d = let r = real_in (previous n) m d in subst (Contains (reverse_nodes nodes)) (sym r.1) (node_in nodes r.0 (h n r.0 (in_node nodes n c) r.2))

  -- predecessors are nodes
  pub reverse_backward : (eq : X → X → Bool) (nodes found : List X) (next : X → List X) → ((n m : X) → Contains nodes n → Contains (next n) m → Contains nodes m)
      → (n m : ReverseNode X) → Contains (reverse_nodes nodes) n → Contains (reverse_predecessors eq next found n) m → Contains (reverse_nodes nodes) m
  reverse_backward eq nodes found next h Sentinel m c d = absurd (omega (arith, d.1))
  reverse_backward eq nodes found next h (Real n) Sentinel c d = sentinel_in nodes
  reverse_backward eq nodes found next h (Real n) (Real m) c d = ⊎_elim
      (λ a. node_in nodes m (h n m (in_node nodes n c) (real_among (next n) m a)))
      (λ b. absurd (not_real (list_any (eq n) found) m b))
      (Contains-append_cases (map Real (next n)) (sentinel_if (list_any (eq n) found)) (Real m) d)
    where
      not_real : (t : Bool) (m : X) → Contains (sentinel_if {X = X} t) (Real m) → ⊥
      not_real true m b = let e = alone Sentinel (Real m) b in cc
      not_real false m b = omega (arith, b.1)

  -- an edge leads from n to m exactly where n is a predecessor of m
  pub reverse_converse : (eq : X → X → Bool) → ((a b : X) → eq a b ≡ true → a ≡ b) → ((a : X) → eq a a ≡ true) → (nodes found : List X) (next previous : X → List X)
      → ((n m : X) → Contains nodes n → Contains nodes m → Contains (previous m) n ↔ Contains (next n) m)
      → (n m : ReverseNode X) → Contains (reverse_nodes nodes) n → Contains (reverse_nodes nodes) m → Contains (reverse_predecessors eq next found m) n ↔ Contains (reverse_successors previous found n) m
  reverse_converse eq same itself nodes found next previous h Sentinel Sentinel c d = ((λ a. absurd (omega (arith, a.1))), (λ a. absurd (no_sentinel found a)))
  reverse_converse eq same itself nodes found next previous h (Real n) Sentinel c d = ((λ a. absurd (omega (arith, a.1))), (λ a. absurd (no_sentinel (previous n) a)))
  reverse_converse eq same itself nodes found next previous h Sentinel (Real m) c d = (
    (λ a. ⊎_elim (λ b. absurd (no_sentinel (next m) b)) (λ b. in_real found m (tested (list_any (eq m) found) refl b)) (Contains-append_cases (map Real (next m)) (sentinel_if (list_any (eq m) found)) Sentinel a)),
    (λ a. Contains-append_right (map Real (next m)) (sentinel_if (list_any (eq m) found)) Sentinel (is_there (list_any (eq m) found) (any_true found (real_among found m a)))),
  )
    where
      tested : (t : Bool) → list_any (eq m) found ≡ t → Contains (sentinel_if {X = X} t) Sentinel → Contains found m
      tested true e b = Contains-from_any same m found e
      tested false e b = absurd (omega (arith, b.1))

      is_there : (t : Bool) → t ≡ true → Contains (sentinel_if {X = X} t) Sentinel
      is_there true e = (0, omega arith, refl)
      is_there false e = absurd (cc)

      any_true : (xs : List X) → Contains xs m → list_any (eq m) xs ≡ true
      any_true xs c = list_any_at (eq m) xs c.0 m c.1 (ap (eq m) c.2 ∙ itself m)
  reverse_converse eq same itself nodes found next previous h (Real n) (Real m) c d = (
    (λ a. ⊎_elim
        (λ b. in_real (previous n) m ((h m n (in_node nodes m d) (in_node nodes n c)).1 (real_among (next m) n b)))
        (λ b. absurd (not_real (list_any (eq m) found) b))
        (Contains-append_cases (map Real (next m)) (sentinel_if (list_any (eq m) found)) (Real n) a)),
    (λ a. Contains-append_left (map Real (next m)) (sentinel_if (list_any (eq m) found)) (Real n) (in_real (next m) n ((h m n (in_node nodes m d) (in_node nodes n c)).0 (real_among (previous n) m a)))),
  )
    where
      not_real : (t : Bool) → Contains (sentinel_if {X = X} t) (Real n) → ⊥
      not_real true b = let e = alone Sentinel (Real n) b in cc
      not_real false b = omega (arith, b.1)

  -- nodes that a derived test finds equal are the same
  pub same_reverse : (eq : X → X → Bool) → ((a b : X) → eq a b ≡ true → a ≡ b) → (test : ReverseNode X → ReverseNode X → Bool) → ((y : X) → test Sentinel (Real y) ≡ false) → ((x : X) → test (Real x) Sentinel ≡ false)
      → ((x y : X) → test (Real x) (Real y) ≡ eq x y) → (n m : ReverseNode X) → test n m ≡ true → n ≡ m
  same_reverse eq same test a b d Sentinel Sentinel e = refl
  same_reverse eq same test a b d Sentinel (Real y) e = absurd (let f = a y in cc)
  same_reverse eq same test a b d (Real x) Sentinel e = absurd (let f = b x in cc)
  same_reverse eq same test a b d (Real x) (Real y) e = ap Real (same x y (sym (d x y) ∙ e))

  -- behind the nodes that lead to a node is the added one
  pub after_real : (xs : List X) (t : Bool) (i : ℕ) → length xs ≤ i → i < length (map Real xs ++ sentinel_if t) → slice_get (map Real xs ++ sentinel_if t) i ≡ Some Sentinel
  after_real [] true zero h l = refl
  after_real [] true (suc i) h l = absurd (omega (arith, l))
  after_real [] false i h l = absurd (omega (arith, l))
  after_real (x ∷ xs) t zero h l = absurd (omega (arith, h))
  after_real (x ∷ xs) t (suc i) h l = after_real xs t i (omega (arith, h)) (omega (arith, l))
