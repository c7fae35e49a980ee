-- Numbers of nodes.
use Rattle.std.proofs.Common.{◌≡◌, ◌⊎◌, inl, inr, ⊎_elim, ℕ, zero, suc, ◌+◌, ◌<◌, ◌≤◌, List, [], ◌∷◌, ◌++◌, Some, Bool, true, false, length, get_or, take, refl, sym, ap, ◌∙◌, subst, arith, rules}
use Rattle.std.specs.Prelude.{Contains, IsTrue, ◌↔◌, map, slice_get, if◌then◌else◌}
use Rattle.std.specs.List.{position, list_any}
use Rattle.std.proofs.lemmas.Option.{slice_get-get_or, slice_get_read, slice_get_within, none-some, same_Some}
use Rattle.std.proofs.lemmas.List.{length-append, map-append, take_more}
use Rattle.std.proofs.lemmas.List.Folds.{list_any_at}
use Rattle.std.proofs.lemmas.List.Quantifiers.{position-Some}
use Rattle.std.proofs.lemmas.List.Elements.{Contains-push_cases, Contains-append_cases, Contains-append_right}
use Rattle.std.proofs.lemmas.Map.Views.{Contains-from_any}
use Rattle.std.specs.declared.vec.Vec.{Vec}
use Rattle.std.specs.declared.alloc.Global.{Global}
use Rattle.digraph.specs.Graph.{successors, InRange}
use Rattle.indexmap.specs.IndexSet.{insert_key}
use Rattle.ir_graph.specs.Graphs.{AreDistinctNodes, AreNodeNumbers}

pub has_number : {X : Type 0} (eq : X → X → Bool) (keys : List X) (n : X) → eq n n ≡ true → Contains keys n → false ≡ list_any (eq n) keys → ⊥
has_number eq keys n r c e = let t = list_any_at (eq n) keys c.0 n c.1 (ap (eq n) c.2 ∙ r) in cc

pub number_is : {X : Type 0} (eq : X → X → Bool) (keys : List X) (n : X) (i : ℕ) → ((a b : X) → eq a b ≡ true → a ≡ b) → Some i ≡ position (eq n) keys → slice_get keys i ≡ Some n
number_is eq keys n i same e = let h = position-Some (eq n) keys i n (sym e) in slice_get-get_or keys i n h.0 ∙ ap Some (sym (same n (get_or keys i n) h.1))

pub first_or : {Y : Type 0} (n : Y) (ns : List Y) (x : Y) → Contains (n ∷ ns) x → (n ≡ x) ⊎ Contains ns x
first_or n ns x h = ⊎_elim (λ a. ⊎_elim (λ b. absurd (omega (arith, b.1))) (λ e. inl e) (Contains-push_cases [] n x a)) (λ b. inr b) (Contains-append_cases (n ∷ []) ns x h)

earlier_row : (rows : List (Vec ℕ Global)) (v : Vec ℕ Global) (j : ℕ) → j < length rows → successors (rows ++ v ∷ []) j ≡ successors rows j
earlier_row [] v j h = absurd (omega (arith, h))
earlier_row (r ∷ rows) v zero h = refl
earlier_row (r ∷ rows) v (suc j) h = earlier_row rows v j (omega (arith, h))

last_row : (rows : List (Vec ℕ Global)) (v : Vec ℕ Global) → successors (rows ++ v ∷ []) (length rows) ≡ v.items
last_row [] v = refl
last_row (r ∷ rows) v = last_row rows v

-- a set of distinct nodes has one more that is the next of them
pub set_more : {X : Type 0} (eq : X → X → Bool) → ((a b : X) → eq a b ≡ true → a ≡ b) → (nodes : List X) → AreDistinctNodes nodes → (keys keys' : List X) (i : ℕ) (n : X) → i < length nodes → n ≡ get_or nodes i n
    → keys' ≡ insert_key eq keys n → keys ≡ take i nodes → keys' ≡ take (i + 1) nodes
set_more {X} eq same nodes distinct keys keys' i n h e k s = k ∙ added (list_any (eq n) keys) refl ∙ ap (λ ks. ks ++ n ∷ []) s ∙ sym (take_more nodes i n h ∙ ap (λ x. take i nodes ++ x ∷ []) (sym e))
  where
    absent : (ks : List X) → ((j : ℕ) (x : X) → slice_get ks j ≡ Some x → n ≡ x → ⊥) → list_any (eq n) ks ≡ false
    absent [] f = refl
    absent (x ∷ ks) f = go (eq n x) refl (absent ks (λ j y a. f (suc j) y a))
      where
        go : (b : Bool) → eq n x ≡ b → list_any (eq n) ks ≡ false → list_any (eq n) (x ∷ ks) ≡ false
        go true q r = absurd (f 0 x refl (same n x q))
        go false q r = cc

    at_index : slice_get nodes i ≡ Some n
    at_index = slice_get_read nodes (length nodes) i n refl h e

    early : (xs : List X) (m j : ℕ) (x : X) → slice_get (take m xs) j ≡ Some x → (j < m) × (slice_get xs j ≡ Some x)
    early [] zero j x a = absurd (none-some x a)
    early [] (suc m) j x a = absurd (none-some x a)
    early (y ∷ xs) zero j x a = absurd (none-some x a)
    early (y ∷ xs) (suc m) zero x a = (omega arith, a)
    early (y ∷ xs) (suc m) (suc j) x a = let q = early xs m j x a in (omega (arith, q.0), q.1)

    none : list_any (eq n) keys ≡ false
    none = absent keys (λ j x a b. let q = early nodes i j x (subst (λ ks. slice_get ks j ≡ Some x) s a) in let r = distinct j i n (subst (λ y. slice_get nodes j ≡ Some y) (sym b) q.1) at_index in absurd (omega (arith, q.0, r)))

    added : (b : Bool) → list_any (eq n) keys ≡ b → insert_key eq keys n ≡ keys ++ n ∷ []
    added b q = ap (λ t. if t then keys else keys ++ n ∷ []) none

module _ {X : Type 0} where
  -- one more number is that of the next node
  pub named_more : (keys row : List X) (ids ids' : List ℕ) (k i : ℕ) (n : X) → k < length row → n ≡ get_or row k n → slice_get keys i ≡ Some n → ids' ≡ ids ++ i ∷ [] → AreNodeNumbers keys ids (take k row) → AreNodeNumbers keys ids' (take (k + 1) row)
  named_more keys row ids ids' k i n h e q f s =
      ap (map (slice_get keys)) f ∙ map-append (slice_get keys) ids (i ∷ []) ∙ ap (λ xs. xs ++ slice_get keys i ∷ []) s ∙ ap (λ o. map Some (take k row) ++ o ∷ []) q
      ∙ sym (ap (map Some) (take_more row k n h ∙ ap (λ x. take k row ++ x ∷ []) (sym e)) ∙ map-append Some (take k row) (n ∷ []))

  -- names are determined
  pub one_naming : (xs ys : List X) → map Some xs ≡ map Some ys → xs ≡ ys
  one_naming [] [] e = refl
  one_naming [] (y ∷ ys) e = absurd (cc)
  one_naming (x ∷ xs) [] e = absurd (cc)
  one_naming (x ∷ xs) (y ∷ ys) e = let a : x ≡ y = cc in let b : map Some xs ≡ map Some ys = cc in ap (λ z. z ∷ xs) a ∙ ap (λ zs. y ∷ zs) (one_naming xs ys b)

  pub first : (n : X) (ns : List X) → Contains (n ∷ ns) n
  first n ns = (0, omega arith, refl)

  module _ (keys : List X) where
    -- the node of a number of the list
    pub node_at : (xs : List ℕ) (ys : List X) → AreNodeNumbers keys xs ys → (x : ℕ) → Contains xs x → (y : X) × Contains ys y × (slice_get keys x ≡ Some y)
    node_at [] ys e x c = absurd (omega (arith, c.1))
    node_at (x ∷ xs) [] e z c = absurd (cc)
    node_at (x ∷ xs) (y ∷ ys) e z c =
        let a : slice_get keys x ≡ Some y = cc in
        let b : AreNodeNumbers keys xs ys = cc in
        ⊎_elim (λ q. (y, first y ys, ap (slice_get keys) (sym q) ∙ a)) (λ d. let h = node_at xs ys b z d in (h.0, Contains-append_right (y ∷ []) ys h.0 h.1, h.2)) (first_or x xs z c)

    -- the number of a node of the list
    pub number_of : (xs : List ℕ) (ys : List X) → AreNodeNumbers keys xs ys → (y : X) → Contains ys y → (x : ℕ) × Contains xs x × (slice_get keys x ≡ Some y)
    number_of xs [] e y c = absurd (omega (arith, c.1))
    number_of [] (y ∷ ys) e z c = absurd (cc)
    number_of (x ∷ xs) (y ∷ ys) e z c =
        let a : slice_get keys x ≡ Some y = cc in
        let b : AreNodeNumbers keys xs ys = cc in
        ⊎_elim (λ q. (x, (0, omega arith, refl), a ∙ ap Some q)) (λ d. let h = number_of xs ys b z d in (h.0, Contains-append_right (x ∷ []) xs h.0 h.1, h.2)) (first_or y ys z c)

    -- the number of the node at a place
    pub number_there : (ids : List ℕ) (ns : List X) → AreNodeNumbers keys ids ns → (i : ℕ) (n : X) → slice_get ns i ≡ Some n → (x : ℕ) × (slice_get ids i ≡ Some x) × (slice_get keys x ≡ Some n)
    number_there ids [] e i n h = absurd (none-some n h)
    number_there [] (m ∷ ns) e i n h = absurd (cc)
    number_there (x ∷ ids) (m ∷ ns) e zero n h = let a : slice_get keys x ≡ Some m = cc in (x, refl, a ∙ h)
    number_there (x ∷ ids) (m ∷ ns) e (suc i) n h = let b : AreNodeNumbers keys ids ns = cc in number_there ids ns b i n h

    -- a number that names a node is within the nodes
    pub named_within : (xs : List ℕ) (ys : List X) → AreNodeNumbers keys xs ys → (k d : ℕ) → k < length xs → get_or xs k d < length keys
    named_within [] ys e k d h = absurd (omega (arith, h))
    named_within (x ∷ xs) [] e k d h = absurd (cc)
    named_within (x ∷ xs) (y ∷ ys) e zero d h = let a : slice_get keys x ≡ Some y = cc in slice_get_within keys x y a
    named_within (x ∷ xs) (y ∷ ys) e (suc k) d h = let b : AreNodeNumbers keys xs ys = cc in named_within xs ys b k d (omega (arith, h))

  -- the next number names the next node
  pub named_next : (keys : List X) (ids : List ℕ) (row row' : List X) (k : ℕ) (n : X) → k < length ids → get_or ids k 0 < length keys → n ≡ get_or keys (get_or ids k 0) n → row' ≡ row ++ n ∷ []
      → AreNodeNumbers keys (take k ids) row → AreNodeNumbers keys (take (k + 1) ids) row'
  named_next keys ids row row' k n h l e f s =
      ap (map (slice_get keys)) (take_more ids k 0 h) ∙ map-append (slice_get keys) (take k ids) (get_or ids k 0 ∷ []) ∙ ap (λ xs. xs ++ slice_get keys (get_or ids k 0) ∷ []) s
      ∙ ap (λ o. map Some row ++ o ∷ []) (slice_get_read keys (length keys) (get_or ids k 0) n refl l e)
      ∙ sym (ap (map Some) f ∙ map-append Some row (n ∷ []))

  -- the first i nodes have their rows
  pub record RowsUpTo (next : X → List X) (nodes : List X) (rows : List (Vec ℕ Global)) (i : ℕ) : Type 0 where
    pub len : length rows ≡ i
    pub onward : (j : ℕ) (n : X) → j < i → slice_get nodes j ≡ Some n → AreNodeNumbers nodes (successors rows j) (next n)

  pub rows_more : (next : X → List X) (nodes : List X) (rows rows' : List (Vec ℕ Global)) (v : Vec ℕ Global) (i : ℕ) (n : X) → slice_get nodes i ≡ Some n → rows' ≡ rows ++ v ∷ [] → AreNodeNumbers nodes v.items (next n)
      → RowsUpTo next nodes rows i → RowsUpTo next nodes rows' (i + 1)
  rows_more next nodes rows rows' v i n h e a s = record {
    len = ap length e ∙ length-append rows (v ∷ []) ∙ ap (λ k. k + 1) s.len;
    onward = λ j m l q. subst (λ rs. AreNodeNumbers nodes (successors rs j) (next m)) (sym e) (⊎_elim
        (λ b. subst (λ xs. AreNodeNumbers nodes xs (next m)) (sym (earlier_row rows v j (subst (λ k. j < k) (sym s.len) b))) (s.onward j m b q))
        (λ b. let z : j ≡ length rows = b ∙ sym s.len in
        subst (λ xs. AreNodeNumbers nodes xs (next m)) (sym (ap (successors (rows ++ v ∷ [])) z ∙ last_row rows v))
        (subst (λ y. AreNodeNumbers nodes v.items (next y)) (same_Some n m (sym h ∙ ap (slice_get nodes) (sym b) ∙ q)) a))
        (below_or i j l));
  }
    where
      below_or : (i k : ℕ) → k < i + 1 → (k < i) ⊎ (k ≡ i)
      below_or zero zero h = inr refl
      below_or zero (suc k) h = absurd (omega (arith, h))
      below_or (suc i) zero h = inl (omega arith)
      below_or (suc i) (suc k) h = ⊎_elim (λ l. inl (omega (arith, l))) (λ e. inr (ap suc e)) (below_or i k (omega (arith, h)))

  -- all nodes have their rows
  pub all_rows : (next : X → List X) (nodes : List X) (rows : List (Vec ℕ Global)) (i : ℕ) → length nodes ≤ i → RowsUpTo next nodes rows i → (j : ℕ) (n : X) → slice_get nodes j ≡ Some n → AreNodeNumbers nodes (successors rows j) (next n)
  all_rows next nodes rows i h s j n e = s.onward j n (let q = slice_get_within nodes j n e in omega (arith, q, h)) e

  -- the numbers in the rows are those of nodes
  pub rows_in : (next : X → List X) (nodes : List X) (rows : List (Vec ℕ Global)) → length rows ≡ length nodes → ((j : ℕ) (n : X) → slice_get nodes j ≡ Some n → AreNodeNumbers nodes (successors rows j) (next n)) → InRange rows
  rows_in next nodes rows l f a b h =
      let within : a < length nodes = omega (arith, row_within rows a b h, l) in
      let n = node_of nodes a within in
      let m = node_at nodes (successors rows a) (next n.0) (f a n.0 n.1) b h in
      omega (arith, slice_get_within nodes b m.0 m.2, l)
    where
      node_of : (ns : List X) (i : ℕ) → i < length ns → (n : X) × (slice_get ns i ≡ Some n)
      node_of [] i h = absurd (omega (arith, h))
      node_of (x ∷ ns) zero h = (x, refl)
      node_of (x ∷ ns) (suc i) h = node_of ns i (omega (arith, h))

      row_within : (rs : List (Vec ℕ Global)) (i b : ℕ) → Contains (successors rs i) b → i < length rs
      row_within [] i b h = absurd (omega (arith, h.1))
      row_within (r ∷ rs) zero b h = omega arith
      row_within (r ∷ rs) (suc i) b h = let q = row_within rs i b h in omega (arith, q)

-- a test of equality tells whether a node is there
pub any_or_none : {X : Type 0} (eq : X → X → Bool) → ((a b : X) → eq a b ≡ true → a ≡ b) → (n : X) (keys : List X) (b : Bool) → eq n n ≡ true → b ≡ list_any (eq n) keys → IsTrue b ↔ Contains keys n
any_or_none eq same n keys true r e = ((λ h. Contains-from_any same n keys (sym e)), (λ c. search rules))
any_or_none eq same n keys false r e = ((λ h. search rules), (λ c. absurd (has_number eq keys n r c e)))
