-- Blocks that are reached in the tree of a function are those that are reached in its flat view.
use Rattle.std.proofs.Common.{◌≡◌, ◌⊎◌, ⊎_elim, inl, inr, ℕ, zero, suc, Bool, true, false, List, [], ◌∷◌, ◌++◌, map}
use Rattle.std.proofs.Common.{Option, Some, None, refl, sym, ap, ◌∙◌, subst}
use Rattle.std.specs.Prelude.{slice_get}
use Rattle.ir_trees.specs.Names.{Names, Contents}
use Rattle.ir_trees.specs.Trees.{Head, Blocks, Tree, end, block}
use Rattle.opt_trees.specs.Occurrences.{Has}
use Rattle.opt_trees.specs.Simplify as trees
use Rattle.opt_trees.specs.Simplify.{entry}
use Rattle.opt_trees.proofs.Lists.{some_same, none_some}
use Rattle.kit_behaviour.specs.Machine.{Edge, Plain, Nonzero, Cases, Op, Const, Calc, Emit, Call, Branch, Return, Block}
use Rattle.kit_behaviour.specs.Machine.{Fun, ops_left, left_in}
use Rattle.kit_behaviour.specs.SimplifiedBlocks.{edges_of, all_edges, LeadsTo, Reached, first, IsReachedSet}
use Rattle.kit_behaviour.specs.SimplifiedBlocks as flat
use Rattle.kit_behaviour.proofs.ControlFlow.ChainLemmas.{leads_left, leads_right}
use Rattle.kit_views.specs.Reading.{Reading}
use Rattle.kit_views.specs.FlatView.{IsOp, AreFlatBlocks, names_in}
use Rattle.kit_views.proofs.Lists.{has_get, at_has}
use Rattle.kit_views.proofs.Pairs.{first_at}
use Rattle.kit_views.proofs.Standing.{whole, Given, pair, back, block_pair, block_back, target_in, leads_by, edge_by}
use Rattle.kit_views.proofs.Standing.{EdgeBy}

-- successors are the targets of edges
pub successors_are : {N : Names} {S : Contents} (r : Reading S) (names : List N.block) (o : Head N S) (p : Op N.value) →
    IsOp r names o p → map Some o.successors ≡ map (target_in {V = N.value} names) (edges_of p)
successors_are r names o (Const y n) is = is.0.successors
successors_are r names o (Calc a w y b c) is = is.0.successors
successors_are r names o (Emit x) is = is.successors
successors_are r names o (Call rs c xs) is = is.0.successors
successors_are r names o (Branch Plain xs e es) is = is.0.successors
successors_are r names o (Branch Nonzero xs e es) is = is.0.successors
successors_are r names o (Branch (Cases ns) xs e es) is = absurd is
successors_are r names o (Return xs) is = is.successors

module _ {V : Type 0} where
  -- what leads to a block: an edge of an operation
  pub record LeadsBySome (t : ℕ) (ps : List (Op V)) : Type 0 where
    pub op : Op V
    pub stands : Has op ps
    pub place : ℕ
    pub e : Edge V
    pub at : slice_get (edges_of op) place ≡ Some e
    pub is : e.target ≡ t

  pub record LeadsAt (t : ℕ) (es : List (Edge V)) : Type 0 where
    pub place : ℕ
    pub e : Edge V
    pub at : slice_get es place ≡ Some e
    pub is : e.target ≡ t

  leads_at : (t : ℕ) (es : List (Edge V)) → LeadsTo t es → LeadsAt t es
  leads_at t [] h = absurd h
  leads_at t (e ∷ es) h =
      ⊎_elim (λ q. record { place = 0; e = e; at = refl; is = q })
      (λ l. let r = leads_at t es l in record { place = suc r.place; e = r.e; at = r.at; is = r.is }) h

  pub at_leads : (es : List (Edge V)) (i : ℕ) (e : Edge V) → slice_get es i ≡ Some e → LeadsTo e.target es
  at_leads [] i e q = absurd (none_some e q)
  at_leads (x ∷ es) zero e q = inl (ap (λ (z : Edge V). z.target) (some_same x e q))
  at_leads (x ∷ es) (suc i) e q = inr (at_leads es i e q)

  leads_apart : (t : ℕ) (xs ys : List (Edge V)) → LeadsTo t (xs ++ ys) → LeadsTo t xs ⊎ LeadsTo t ys
  leads_apart t [] ys h = inr h
  leads_apart t (x ∷ xs) ys h = ⊎_elim (λ q. inl (inl q))
      (λ l. ⊎_elim (λ a. inl (inr a)) (λ b. inr b) (leads_apart t xs ys l)) h

  pub leads_some : (t : ℕ) (ps : List (Op V)) → LeadsTo t (all_edges ps) → LeadsBySome t ps
  leads_some t [] h = absurd h
  leads_some t (p ∷ ps) h =
      ⊎_elim
      (λ l. let r = leads_at t (edges_of p) l in record {
        op = p;
        stands = inl refl;
        place = r.place;
        e = r.e;
        at =
            r.at;
        is = r.is;
      })
      (λ l. let r = leads_some t ps l in record {
        op = r.op;
        stands = inr r.stands;
        place = r.place;
        e = r.e;
        at =
            r.at;
        is = r.is;
      })
      (leads_apart t (edges_of p) (all_edges ps) h)

  pub some_leads : (t : ℕ) (ps : List (Op V)) (p : Op V) → Has p ps → LeadsTo t (edges_of p) → LeadsTo t (all_edges ps)
  some_leads t [] p i l = absurd i
  some_leads t (q ∷ ps) p i l =
      ⊎_elim (λ e. leads_left t (edges_of q) (all_edges ps) (subst (λ z. LeadsTo t (edges_of z)) e l))
      (λ k. leads_right t (edges_of q) (all_edges ps) (some_leads t ps p k l)) i

-- a block with a name is one of the flat function
pub named_block : {N : Names} {S : Contents} (r : Reading S) (names : List N.block) (ts : Tree N S Blocks)
    (ks : Fun N.value) → AreFlatBlocks r names ts ks → (b : ℕ) (n : N.block) → slice_get (names_in ts) b ≡ Some n →
    (k : Block N.value) × (slice_get ks b ≡ Some k)
named_block r names end ks a b n e = absurd (none_some n e)
named_block r names (block l os more) [] a b n e = absurd a
named_block r names (block l os more) (k ∷ ks) a zero n e = (k, refl)
named_block r names (block l os more) (k ∷ ks) a (suc b) n e = named_block r names more ks a.2 b n e

at_entry : (n : ℕ) → first_at true n ≡ true → n ≡ 0
at_entry zero e = refl
at_entry (suc n) e = absurd (cc e)

module _ {N : Names} {S : Contents} (r : Reading S) (h : Head N S) (bs : Tree N S Blocks) (f : Fun N.value)
    (given : Given r h bs f) where
  abbrev pub IsReachedThere : N.block → Type 0
  IsReachedThere n = trees.IsReached (whole r h bs f) n

  -- the edge that a successor is the target of
  pub edge_to : (o : Head N S) (p : Op N.value) (n : N.block) → IsOp r (names_in bs) o p → (i : ℕ) →
      slice_get o.successors i ≡ Some n → EdgeBy (names_in bs) (edges_of p) i n
  edge_to o p n is i e = edge_by (names_in bs) o.successors (edges_of p) (successors_are r (names_in bs) o p is) i n e

  leads_in : (b t : ℕ) (k : Block N.value) (p : Op N.value) → slice_get f b ≡ Some k → Has p k.ops →
      LeadsTo t (edges_of p) → LeadsTo t (all_edges (left_in (Some f) b 0))
  leads_in b t k p e i l = subst (λ o. LeadsTo t (all_edges (ops_left o 0))) (sym e) (some_leads t k.ops p i l)

  pub reached_there : (n : N.block) → IsReachedThere n → (b : ℕ) → slice_get (names_in bs) b ≡ Some n →
      Reached (Some f) b
  reached_there _ (entry x i e) b q =
      let p = block_pair r h bs f given x i in
      first b (given.blocks b p.place x.label.name q p.same.name ∙ at_entry p.place (sym p.same.first ∙ e))
  reached_there _ (trees.further o n i m s) b q =
      let p = pair r h bs f given o i in
      let a = at_has o.head.successors n s in
      let e = edge_to o.head p.op n p.is a.place a.is in
      let z : e.e.target ≡ b = given.blocks e.e.target b n e.name q in
      flat.further p.place b (reached_there o.site.label.name m p.place p.name)
      (leads_in p.place b p.k p.op p.at p.stands (subst (λ t. LeadsTo t (edges_of p.op)) z
      (at_leads (edges_of p.op) a.place e.e e.at)))

  entry_reached : (n : N.block) → slice_get (names_in bs) 0 ≡ Some n → IsReachedThere n
  entry_reached n e =
      let k = named_block r (names_in bs) bs f given.are 0 n e in
      let x = block_back r h bs f given 0 k.0 k.1 in
      subst IsReachedThere (some_same x.it.label.name n (sym x.same.name ∙ e)) (entry x.it x.stands x.same.first)

  -- the block with this number has a name, and is reached
  pub record NamedReached (b : ℕ) : Type 0 where
    pub name : N.block
    pub is : slice_get (names_in bs) b ≡ Some name
    pub reached : IsReachedThere name

  led_to : (c t : ℕ) (o : Option (Block N.value)) → slice_get f c ≡ o → LeadsTo t (all_edges (ops_left o 0)) →
      ((n : N.block) → slice_get (names_in bs) c ≡ Some n → IsReachedThere n) → NamedReached t
  led_to c t None e l ih = absurd l
  led_to c t (Some k) e l ih =
      let s = leads_some t k.ops l in
      let q = back r h bs f given c k s.op e s.stands in
      let y = leads_by (names_in bs) q.it.head.successors (edges_of s.op)
      (successors_are r (names_in bs) q.it.head s.op q.is) s.place s.e s.at in
      record {
        name = y.b;
        is = ap (slice_get (names_in bs)) (sym s.is) ∙ y.name;
        reached = trees.further q.it y.b q.stands (ih q.it.site.label.name q.name)
            (has_get q.it.head.successors s.place y.b y.successor);
      }

  pub reached_named : (b : ℕ) → Reached (Some f) b → (b ≡ 0) ⊎ NamedReached b
  reached_named b (first c e) = inl e
  reached_named b (flat.further c t m l) = inr (led_to c t (slice_get f c) refl l (λ n q. here n q (reached_named c m)))
    where
      here : (n : N.block) → slice_get (names_in bs) c ≡ Some n → (c ≡ 0) ⊎ NamedReached c → IsReachedThere n
      here n q w =
          ⊎_elim (λ z. entry_reached n (ap (slice_get (names_in bs)) (sym z) ∙ q))
          (λ (x : NamedReached c). subst IsReachedThere (some_same x.name n (sym x.is ∙ q)) x.reached) w

  pub reached_back : (b : ℕ) (n : N.block) → Reached (Some f) b → slice_get (names_in bs) b ≡ Some n → IsReachedThere n
  reached_back b n m q =
      ⊎_elim (λ z. entry_reached n (ap (slice_get (names_in bs)) (sym z) ∙ q))
      (λ (x : NamedReached b). subst IsReachedThere (some_same x.name n (sym x.is ∙ q)) x.reached) (reached_named b m)

  -- the set of the blocks that are reached, by their numbers
  abbrev pub set_at : (N.block → Bool) → Option N.block → Bool
  set_at g None = false
  set_at g (Some n) = g n

  abbrev pub flat_set : (N.block → Bool) → ℕ → Bool
  flat_set g zero = true
  flat_set g (suc b) = set_at g (slice_get (names_in bs) (suc b))

  module _ (g : N.block → Bool) (sound : (n : N.block) → g n ≡ true → IsReachedThere n)
      (full : (n : N.block) → IsReachedThere n → g n ≡ true) where
    set_sound : (b : ℕ) → flat_set g b ≡ true → Reached (Some f) b
    set_sound zero e = first 0 refl
    set_sound (suc b) e = by_name (slice_get (names_in bs) (suc b)) refl e
      where
        by_name : (o : Option N.block) → slice_get (names_in bs) (suc b) ≡ o → set_at g o ≡ true →
            Reached (Some f) (suc b)
        by_name None q w = absurd (cc w)
        by_name (Some n) q w = reached_there n (sound n w) (suc b) q

    set_full : (b : ℕ) → Reached (Some f) b → flat_set g b ≡ true
    set_full zero m = refl
    set_full (suc b) m =
        ⊎_elim (λ z. absurd (cc z)) (λ (x : NamedReached (suc b)). ap (set_at g) x.is ∙ full x.name x.reached)
        (reached_named (suc b) m)

    pub set_reached : IsReachedSet (Some f) (flat_set g)
    set_reached = record { sound = set_sound; full = set_full }

    -- a block with a name is one of the set by its number as by its name
    pub set_same : (b : ℕ) (n : N.block) → slice_get (names_in bs) b ≡ Some n → flat_set g b ≡ g n
    set_same zero n e = sym (full n (entry_reached n e))
    set_same (suc b) n e = ap (set_at g) e
