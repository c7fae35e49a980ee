-- Which operands a branch forwards where: behind those that it chooses by, those of each edge, edge by edge.
use Rattle.std.proofs.Common.{◌≡◌, ◌⊎◌, ⊎_elim, inl, inr, ℕ, zero, suc, ◌+◌, ◌-◌, ◌<◌, ◌≤◌, true, List, [], ◌∷◌, ◌++◌, map, length, Some, refl, ap, ◌∙◌, arith}
use Rattle.std.specs.Prelude.{slice_get, min}
use Rattle.ir_names.specs.declared.interfaces.OpInterface.TheVariants as op
use Rattle.ir_trees.specs.Names.{Names, Contents}
use Rattle.ir_trees.specs.Renames.{names_of}
use Rattle.ir_trees.specs.Trees.{Head}
use Rattle.opt_trees.specs.Dialect.{Dialect}
use Rattle.opt_trees.proofs.Lists.{some_same, none_some}
use Rattle.kit_behaviour.specs.Facts.{all_forwarded}
use Rattle.kit_behaviour.specs.Machine.{Edge, Select, Plain, Nonzero, Cases}
use Rattle.kit_ops.specs.declared.kinds.KitOp.TheVariants as ops
use Rattle.kit.specs.Meaning.{range, forwards_of}
use Rattle.kit_ops.specs.Table.{row_of, has_interface}
use Rattle.kit_views.specs.Reading.{Reading}
use Rattle.kit_views.specs.FlatView.{IsOf, IsFlatBranch}
use Rattle.kit_views.proofs.Read.{Reads}

-- lists

pub get_below : {X : Type 0} (xs : List X) (i : ℕ) (x : X) → slice_get xs i ≡ Some x → i < length xs
get_below [] i x e = absurd (none_some x e)
get_below (y ∷ ys) zero x e = omega arith
get_below (y ∷ ys) (suc i) x e = let h = get_below ys i x e in omega (arith, h)

pub get_there : {X : Type 0} (xs : List X) (i : ℕ) → i < length xs → (x : X) × (slice_get xs i ≡ Some x)
get_there [] i h = absurd (omega (arith, h))
get_there (y ∷ ys) zero h = (y, refl)
get_there (y ∷ ys) (suc i) h = get_there ys i (omega (arith, h))

pub get_left : {X : Type 0} (xs ys : List X) (i : ℕ) (x : X) → slice_get xs i ≡ Some x → slice_get (xs ++ ys) i ≡ Some x
get_left [] ys i x e = absurd (none_some x e)
get_left (z ∷ zs) ys zero x e = e
get_left (z ∷ zs) ys (suc i) x e = get_left zs ys i x e

pub get_right : {X : Type 0} (xs ys : List X) (i k : ℕ) (x : X) → i ≡ length xs + k → slice_get ys k ≡ Some x → slice_get (xs ++ ys) i ≡ Some x
get_right [] ys i k x h e = let q : i ≡ k = omega (arith, h) in ap (slice_get ys) q ∙ e
get_right (z ∷ zs) ys zero k x h e = absurd (omega (arith, h))
get_right (z ∷ zs) ys (suc i) k x h e = get_right zs ys i k x (omega (arith, h)) e

-- an index behind the first list is one of the second
pub record Behind {X : Type 0} (xs ys : List X) (i : ℕ) (x : X) : Type 0 where
  pub k : ℕ
  pub is : slice_get ys k ≡ Some x
  pub index : i ≡ length xs + k

pub get_append : {X : Type 0} (xs ys : List X) (i : ℕ) (x : X) → slice_get (xs ++ ys) i ≡ Some x → (slice_get xs i ≡ Some x) ⊎ Behind xs ys i x
get_append [] ys i x e = inr (record { k = i; is = e; index = omega arith })
get_append (z ∷ zs) ys zero x e = inl e
get_append (z ∷ zs) ys (suc i) x e =
    ⊎_elim (λ a. inl a) (λ b. inr (record { k = b.k; is = b.is; index = omega (arith, b.index) })) (get_append zs ys i x e)

pub range_get : (s n p i : ℕ) → slice_get (range s n) p ≡ Some i → (i ≡ s + p) × (p < n)
range_get s zero p i e = absurd (none_some i e)
range_get s (suc n) zero i e = let q : s ≡ i = some_same s i e in (omega (arith, q), omega arith)
range_get s (suc n) (suc p) i e = let h = range_get (suc s) n p i e in (omega (arith, h.0), omega (arith, h.1))

pub range_at : (s n p : ℕ) → p < n → slice_get (range s n) p ≡ Some (s + p)
range_at s zero p h = absurd (omega (arith, h))
range_at s (suc n) zero h = let q : s ≡ s + 0 = omega arith in ap Some q
range_at s (suc n) (suc p) h = let q : suc s + p ≡ s + suc p = omega arith in range_at (suc s) n p (omega (arith, h)) ∙ ap Some q

-- edges

-- the index of the first operand of the edge at an index, where those of the first edge begin at s
abbrev pub start : {V : Type 0} → List (Edge V) → ℕ → ℕ → ℕ
start [] s j = s
start (e ∷ es) s zero = s
start (e ∷ es) s (suc j) = start es (s + length e.forwards) j

pub start_least : {V : Type 0} (es : List (Edge V)) (s j : ℕ) → s ≤ start es s j
start_least [] s j = omega arith
start_least (e ∷ es) s zero = omega arith
start_least (e ∷ es) s (suc j) = let h = start_least es (s + length e.forwards) j in omega (arith, h)

-- an operand that is forwarded: along which edge, and where among what that one forwards
pub record Along {V : Type 0} (es : List (Edge V)) (s i : ℕ) (v : V) : Type 0 where
  pub edge : ℕ
  pub e : Edge V
  pub at : slice_get es edge ≡ Some e
  pub place : ℕ
  pub is : slice_get e.forwards place ≡ Some v
  pub index : i ≡ start es s edge + place

pub along : {V : Type 0} (es : List (Edge V)) (s k i : ℕ) (v : V) → slice_get (all_forwarded es) k ≡ Some v → i ≡ s + k → Along es s i v
along [] s k i v e h = absurd (none_some v e)
along (x ∷ es) s k i v e h =
    ⊎_elim (λ a. record { edge = 0; e = x; at = refl; place = k; is = a; index = h })
    (λ b. let q = along es (s + length x.forwards) b.k i v b.is (omega (arith, h, b.index)) in record { edge = suc q.edge; e = q.e; at = q.at; place = q.place; is = q.is; index = q.index })
    (get_append x.forwards (all_forwarded es) k v e)

pub forwarded_at : {V : Type 0} (es : List (Edge V)) (s j p k : ℕ) (e : Edge V) (v : V) → slice_get es j ≡ Some e → slice_get e.forwards p ≡ Some v → s + k ≡ start es s j + p → slice_get (all_forwarded es) k ≡ Some v
forwarded_at [] s j p k e v a b h = absurd (none_some e a)
forwarded_at (x ∷ es) s zero p k e v a b h =
    let q : k ≡ p = omega (arith, h) in
    get_left x.forwards (all_forwarded es) k v (ap (slice_get x.forwards) q ∙ ap (λ z. slice_get z.forwards p) (some_same x e a) ∙ b)
forwarded_at (x ∷ es) s (suc j) p k e v a b h =
    let n : ℕ = length x.forwards in
    let l : s + n ≤ start es (s + n) j = start_least es (s + n) j in
    get_right x.forwards (all_forwarded es) k (k - n) v (omega (arith, h, l)) (forwarded_at es (s + n) j p (k - n) e v a b (omega (arith, h, l)))

-- two edges begin where they end
pub one_edge : {V : Type 0} (es : List (Edge V)) (s j p k q : ℕ) (e g : Edge V) → slice_get es j ≡ Some e → slice_get es k ≡ Some g → p < length e.forwards → q < length g.forwards → start es s j + p ≡ start es s k + q → (j ≡ k) × (p ≡ q)
one_edge [] s j p k q e g a b c d h = absurd (none_some e a)
one_edge (x ∷ es) s zero p zero q e g a b c d h = (refl, omega (arith, h))
one_edge (x ∷ es) s zero p (suc k) q e g a b c d h =
    let l = start_least es (s + length x.forwards) k in
    let n : length x.forwards ≡ length e.forwards = ap (λ z. length z.forwards) (some_same x e a) in
    absurd (omega (arith, h, l, c, n))
one_edge (x ∷ es) s (suc j) p zero q e g a b c d h =
    let l = start_least es (s + length x.forwards) j in
    let n : length x.forwards ≡ length g.forwards = ap (λ z. length z.forwards) (some_same x g b) in
    absurd (omega (arith, h, l, d, n))
one_edge (x ∷ es) s (suc j) p (suc k) q e g a b c d h =
    let r = one_edge es (s + length x.forwards) j p k q e g a b c d h in (ap suc r.0, r.1)

-- branches

-- what a branch of these operands and edges is to the optimisations
pub record IsForwarding {N : Names} {S : Contents} {A : Type 0} (d : Dialect S A) (names : List N.block) (h : Head N S) (xs : List N.value) (es : List (Edge N.value)) : Type 0 where
  pub branch : d.is_branch h.content ≡ true
  pub effects : d.has_effects h.content ≡ true
  pub results : names_of h.results ≡ []
  pub operands : h.operands ≡ xs ++ all_forwarded es
  pub successors : map Some h.successors ≡ map (λ (e : Edge N.value). slice_get names e.target) es
  pub forwards : (j : ℕ) (e : Edge N.value) → slice_get es j ≡ Some e → d.forwards h.content (length h.operands) j ≡ range (start es (length xs) j) (length e.forwards)

length_nil : {X : Type 0} (xs : List X) → length (xs ++ []) ≡ length xs
length_nil [] = refl
length_nil (x ∷ xs) = ap suc (length_nil xs)

length_both : {X : Type 0} (xs ys : List X) → length (xs ++ (ys ++ [])) ≡ length xs + length ys
length_both [] ys = let h = length_nil ys in omega (arith, h)
length_both (x ∷ xs) ys = let h = length_both xs ys in omega (arith, h)

module _ {N : Names} {S : Contents} {A : Type 0} (d : Dialect S A) (r : Reading S) (law : Reads d r) (names : List N.block) where
  plain_forwards : (h : Head N S) (e : Edge N.value) → IsOf r names h ops.Br [] (all_forwarded (e ∷ [])) (e ∷ []) → (j : ℕ) (g : Edge N.value) → slice_get (e ∷ []) j ≡ Some g → d.forwards h.content (length h.operands) j ≡ range (start (e ∷ []) 0 j) (length g.forwards)
  plain_forwards h e o zero g q =
      let n : length h.operands ≡ length g.forwards = ap length o.operands ∙ length_nil e.forwards ∙ ap (λ z. length z.forwards) (some_same e g q) in
      law.forwards h.content (length h.operands) 0 ∙ ap (λ k. forwards_of k (r.first h.content) (length h.operands) 0) o.kind ∙ ap (range 0) n
  plain_forwards h e o (suc j) g q = absurd (none_some g q)

  two_forwards : (h : Head N S) (x : N.value) (e e2 : Edge N.value) → IsOf r names h ops.CondBr [] ((x ∷ []) ++ all_forwarded (e ∷ e2 ∷ [])) (e ∷ e2 ∷ []) → r.first h.content ≡ length e.forwards → (j : ℕ) (g : Edge N.value) → slice_get (e ∷ e2 ∷ []) j ≡ Some g → d.forwards h.content (length h.operands) j ≡ range (start (e ∷ e2 ∷ []) 1 j) (length g.forwards)
  two_forwards h x e e2 o f zero g q =
      let n : length h.operands ≡ suc (length e.forwards + length e2.forwards) = ap length o.operands ∙ ap suc (length_both e.forwards e2.forwards) in
      let m : length e.forwards ≡ length g.forwards = ap (λ z. length z.forwards) (some_same e g q) in
      let c : min (r.first h.content) (length h.operands - 1) ≡ length g.forwards = omega (arith, n, m, f) in
      law.forwards h.content (length h.operands) 0 ∙ ap (λ k. forwards_of k (r.first h.content) (length h.operands) 0) o.kind ∙ ap (range 1) c
  two_forwards h x e e2 o f (suc zero) g q =
      let n : length h.operands ≡ suc (length e.forwards + length e2.forwards) = ap length o.operands ∙ ap suc (length_both e.forwards e2.forwards) in
      let m : length e2.forwards ≡ length g.forwards = ap (λ z. length z.forwards) (some_same e2 g q) in
      let b : 1 + r.first h.content ≡ 1 + length e.forwards = omega (arith, f) in
      let c : length h.operands - (1 + r.first h.content) ≡ length g.forwards = omega (arith, n, m, f) in
      law.forwards h.content (length h.operands) 1 ∙ ap (λ k. forwards_of k (r.first h.content) (length h.operands) 1) o.kind ∙ λ i. range (b i) (c i)
  two_forwards h x e e2 o f (suc (suc j)) g q = absurd (none_some g q)

  pub from_branch : (h : Head N S) (s : Select) (xs : List N.value) (e : Edge N.value) (es : List (Edge N.value)) → IsFlatBranch r names h s xs e es → IsForwarding d names h xs (e ∷ es)
  from_branch h Plain [] e [] b = record {
    branch = law.branches h.content ∙ ap (λ k. has_interface k op.Branch) b.0.kind;
    effects = law.effects h.content ∙ ap (λ k. (row_of k).has_effects) b.0.kind;
    results = b.0.results;
    operands = b.0.operands;
    successors = b.0.successors;
    forwards = plain_forwards h e b.0;
  }
  from_branch h Plain [] e (e2 ∷ es) b = absurd (omega (arith, b.2))
  from_branch h Plain (x ∷ xs) e es b = absurd (omega (arith, b.1))
  from_branch h Nonzero [] e es b = absurd (cc b.1)
  from_branch h Nonzero (x ∷ []) e [] b = absurd (cc b.2)
  from_branch h Nonzero (x ∷ []) e (e2 ∷ []) b = record {
    branch = law.branches h.content ∙ ap (λ k. has_interface k op.Branch) b.0.kind;
    effects = law.effects h.content ∙ ap (λ k. (row_of k).has_effects) b.0.kind;
    results = b.0.results;
    operands = b.0.operands;
    successors = b.0.successors;
    forwards = two_forwards h x e e2 b.0 b.3;
  }
  from_branch h Nonzero (x ∷ []) e (e2 ∷ (e3 ∷ es)) b = absurd (omega (arith, b.2))
  from_branch h Nonzero (x ∷ (y ∷ xs)) e es b = absurd (omega (arith, b.1))
  from_branch h (Cases ns) xs e es b = absurd b
