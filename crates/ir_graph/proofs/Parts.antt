-- Lists of rows.
use Rattle.std.proofs.Common.{◌≡◌, ℕ, zero, suc, ◌+◌, ◌<◌, ◌≤◌, List, [], ◌∷◌, ◌++◌, Some, map, reverse, length, get_or, take, refl, sym, ap, ◌∙◌, subst, arith, add-one}
use Rattle.std.proofs.Math.ListN.{set}
use Rattle.std.specs.Prelude.{slice_get}
use Rattle.std.proofs.lemmas.List.{append_assoc, append-nil, map-append, take_more}
use Rattle.std.specs.declared.vec.Vec.{Vec}
use Rattle.std.specs.declared.alloc.Global.{Global}
use Rattle.digraph.specs.Visits.{joined}
use Rattle.ir_graph.specs.Graphs.{AreNodeNumbers, AreNamedParts}
use Rattle.ir_graph.specs.Orders.{lists_of}

module _ {X : Type 0} where
  joined_on : (xss yss : List (List X)) → joined (xss ++ yss) ≡ joined xss ++ joined yss
  joined_on [] yss = refl
  joined_on (xs ∷ xss) yss = ap (λ us. xs ++ us) (joined_on xss yss) ∙ sym (append_assoc xs (joined xss) (joined yss))

  lists_more : (rows : List (Vec X Global)) (i : ℕ) (row : Vec X Global) → i < length rows → row ≡ get_or rows i row → lists_of (take (i + 1) rows) ≡ lists_of (take i rows) ++ row.items ∷ []
  lists_more rows i row h e = ap lists_of (take_more rows i row h ∙ ap (λ r. take i rows ++ r ∷ []) (sym e)) ∙ map-append (λ (r : Vec X Global). r.items) (take i rows) (row ∷ [])

  -- one more row stands behind the others
  pub joined_more : (rows : List (Vec X Global)) (i : ℕ) (row : Vec X Global) (order order' : List X) → i < length rows → row ≡ get_or rows i row → order' ≡ order ++ row.items → order ≡ joined (lists_of (take i rows)) → order' ≡ joined (lists_of (take (i + 1) rows))
  joined_more rows i row order order' h e q s = q ∙ ap (λ us. us ++ row.items) s ∙ sym (ap joined (lists_more rows i row h e) ∙ joined_on (lists_of (take i rows)) (row.items ∷ []) ∙ ap (λ us. joined (lists_of (take i rows)) ++ us) (append-nil row.items))

  -- the first lists turned round
  abbrev pub reversed_to : ℕ → List (List X) → List (List X)
  reversed_to zero xss = xss
  reversed_to (suc i) [] = []
  reversed_to (suc i) (xs ∷ xss) = reverse xs ∷ reversed_to i xss

  one_reversed : (xss : List (List X)) (rows : List (Vec X Global)) (i : ℕ) (row row' : Vec X Global) → i < length rows → row'.items ≡ reverse (get_or rows i row).items → lists_of rows ≡ reversed_to i xss → lists_of (set rows i row') ≡ reversed_to (suc i) xss
  one_reversed xss [] i row row' h w e = absurd (omega (arith, h))
  one_reversed [] (r ∷ rows) zero row row' h w e = absurd (cc)
  one_reversed [] (r ∷ rows) (suc i) row row' h w e = absurd (cc)
  one_reversed (xs ∷ xss) (r ∷ rows) zero row row' h w e =
      let a : r.items ≡ xs = cc in
      let b : lists_of rows ≡ xss = cc in
      ap (λ ys. ys ∷ lists_of rows) (w ∙ ap reverse a) ∙ ap (λ yss. reverse xs ∷ yss) b
  one_reversed (xs ∷ xss) (r ∷ rows) (suc i) row row' h w e =
      let a : r.items ≡ reverse xs = cc in
      let b : lists_of rows ≡ reversed_to i xss = cc in
      ap (λ ys. ys ∷ lists_of (set rows i row')) a ∙ ap (λ yss. reverse xs ∷ yss) (one_reversed xss rows i row row' (omega (arith, h)) w b)

  pub reversed_more : (xss : List (List X)) (rows : List (Vec X Global)) (i : ℕ) (row row' : Vec X Global) → i < length rows → row'.items ≡ reverse (get_or rows i row).items → lists_of rows ≡ reversed_to i xss → lists_of (set rows i row') ≡ reversed_to (i + 1) xss
  reversed_more xss rows i row row' h w e = one_reversed xss rows i row row' h w e ∙ ap (λ k. reversed_to k xss) (sym (add-one i))

  -- what stands in front
  pub take_front : (xs ys : List X) (k : ℕ) → k ≡ length xs → take k (xs ++ ys) ≡ xs
  take_front [] ys zero h = refl
  take_front [] ys (suc k) h = absurd (omega (arith, h))
  take_front (x ∷ xs) ys zero h = absurd (omega (arith, h))
  take_front (x ∷ xs) ys (suc k) h = ap (λ us. x ∷ us) (take_front xs ys k (omega (arith, h)))

  pub all_reversed : (xss : List (List X)) (i : ℕ) → length xss ≤ i → reversed_to i xss ≡ map reverse xss
  all_reversed [] zero h = refl
  all_reversed [] (suc i) h = refl
  all_reversed (xs ∷ xss) zero h = absurd (omega (arith, h))
  all_reversed (xs ∷ xss) (suc i) h = ap (λ yss. reverse xs ∷ yss) (all_reversed xss i (omega (arith, h)))

  -- the names of one part of many
  pub part_named : (keys : List X) (parts : List (Vec ℕ Global)) (named : List (List X)) → AreNamedParts keys (lists_of parts) named → (i : ℕ) (part : Vec ℕ Global) → i < length parts → part ≡ get_or parts i part → (row : List X) × AreNodeNumbers keys part.items row
  part_named keys [] named e i part h q = absurd (omega (arith, h))
  part_named keys (p ∷ parts) [] e i part h q = absurd (cc)
  part_named keys (p ∷ parts) (row ∷ named) e zero part h q =
      let a : AreNodeNumbers keys p.items row = cc in (row, subst (λ (v : Vec ℕ Global). AreNodeNumbers keys v.items row) (sym q) a)
  part_named keys (p ∷ parts) (row ∷ named) e (suc i) part h q =
      let b : AreNamedParts keys (lists_of parts) named = cc in part_named keys parts named b i part (omega (arith, h)) q

  -- the names of one more part stand behind the others
  pub parts_more : (keys : List X) (parts : List (Vec ℕ Global)) (rows rows' : List (Vec X Global)) (i : ℕ) (part : Vec ℕ Global) (row : Vec X Global) → i < length parts → part ≡ get_or parts i part → AreNodeNumbers keys part.items row.items → rows' ≡ rows ++ row ∷ []
      → AreNamedParts keys (lists_of (take i parts)) (lists_of rows) → AreNamedParts keys (lists_of (take (i + 1) parts)) (lists_of rows')
  parts_more keys parts rows rows' i part row h q n e s =
      ap (map (map (slice_get keys))) (lists_more' parts i part h q) ∙ map-append (map (slice_get keys)) (lists_of (take i parts)) (part.items ∷ [])
      ∙ ap (λ us. us ++ map (slice_get keys) part.items ∷ []) s ∙ ap (λ us. map (map Some) (lists_of rows) ++ us ∷ []) n
      ∙ sym (ap (λ rs. map (map Some) (lists_of rs)) e ∙ ap (map (map Some)) (map-append (λ (r : Vec X Global). r.items) rows (row ∷ [])) ∙ map-append (map Some) (lists_of rows) (row.items ∷ []))
    where
      lists_more' : (ps : List (Vec ℕ Global)) (i : ℕ) (p : Vec ℕ Global) → i < length ps → p ≡ get_or ps i p → lists_of (take (i + 1) ps) ≡ lists_of (take i ps) ++ p.items ∷ []
      lists_more' ps i p h e = ap lists_of (take_more ps i p h ∙ ap (λ r. take i ps ++ r ∷ []) (sym e)) ∙ map-append (λ (r : Vec ℕ Global). r.items) (take i ps) (p ∷ [])
