-- What joins chains of a function under any names joins those of the function whose values are named by their places.
use Rattle.std.proofs.Common.{◌≡◌, ⊎_elim, ℕ, zero, suc, ◌≤◌, Bool, true, false, List, [], ◌∷◌, ◌++◌, Option, Some}
use Rattle.std.proofs.Common.{None, refl, sym, ap, ◌∙◌, subst, arith}
use Rattle.std.specs.Prelude.{map, slice_get, option_map, if◌then◌else◌, unwrap_or, not}
use Rattle.std.proofs.lemmas.Option.{slice_get-map}
use Rattle.kit_behaviour.specs.Machine.{AllEdges, Edge, Op, Const, Calc, Emit, Call, Branch, Return, Block, Fun}
use Rattle.kit_behaviour.specs.Machine.{left_in, arguments_in}
use Rattle.kit_behaviour.specs.RemovedValues.{thin_block, thin}
use Rattle.kit_behaviour.specs.Renaming.{rename_block, rename_fun, AllNamed, EdgeNamed, OpsNamed}
use Rattle.kit_behaviour.specs.Replacement.{replace_block}
use Rattle.kit_behaviour.specs.Rules.{Rules}
use Rattle.kit_behaviour.specs.Scopes.{In, defs, SameLength}
use Rattle.kit_behaviour.specs.Places.{Place, Arg, Res, same_place}
use Rattle.kit_behaviour.specs.Numbering.{place_of, place_block, place_fun, HasPlace, AnyBlock, NamesAreDefined}
use Rattle.kit_behaviour.specs.SimplifiedBlocks.{all_edges, last_edge, count_to, edges_in, BlocksAreJoinable, IsJoinedSet, Depth}
use Rattle.kit_behaviour.specs.SimplifiedBlocks.{top, below, forwarded_to, between, keep_blocks, keep, join_block}
use Rattle.kit_behaviour.specs.SimplifiedBlocks.{join_fun, IsGivenInChain, StandsForInChain, itself, passed_on, IsLaterArgument}
use Rattle.kit_behaviour.specs.SimplifiedBlocks.{merged, Merges, IsMerged}
use Rattle.kit_behaviour.proofs.ControlFlow.PlacesJoined as old
use Rattle.kit_behaviour.proofs.ControlFlow.PlacesJoined.{forward, Follows, stop, more, taken_arg}
use Rattle.kit_behaviour.proofs.Behaviour.FrameLemmas.{IsSameness}
use Rattle.kit_behaviour.proofs.Numbering.NumberingBehaviour.{block_of, name_op, name_in, at_place, apart, place_left}
use Rattle.kit_behaviour.proofs.Numbering.NumberingBehaviour.{place_takes}
use Rattle.kit_behaviour.proofs.Numbering.NumberingRules.{name_at, arg_name, name_arg, slice_in, all_map}
use Rattle.kit_behaviour.proofs.Numbering.NumberingStays.{numbering_stays}
use Rattle.kit_behaviour.proofs.Numbering.PlaceEquality.{place_law}
use Rattle.kit_behaviour.proofs.ControlFlow.ScopesAfterJoining.{sees_defined}
use Rattle.kit_behaviour.proofs.ControlFlow.KeptBlocks.{rules_home}
use Rattle.kit_behaviour.proofs.ControlFlow.ChainLemmas.{entry_free, gives_unique, last_in, edge_in}
use Rattle.kit_behaviour.proofs.ControlFlow.JoiningRules.{edge_fits_in}
use Rattle.kit_behaviour.proofs.ControlFlow.NamedCommuting.{ren, ren_edge, blocks_edges_renamed, count_renamed}
use Rattle.kit_behaviour.proofs.ControlFlow.NamedCommuting.{forwarded_renamed, last_renamed, join_blocks_renamed}
use Rattle.kit_behaviour.proofs.ControlFlow.NamedCommuting.{keep_renamed, blocks_replaced, blocks_thinned}
use Rattle.kit_behaviour.proofs.ControlFlow.NamedPlacing.{AreNamed, replaced_named, thinned_named, joined_named}
use Rattle.kit_behaviour.proofs.ControlFlow.NamedPlacing.{kept_named, placed_on}

pub some_is : {A : Type 0} (x y : A) → Some x ≡ Some y → x ≡ y
some_is x y e = cc e

pub no_some : {A : Type 0} (x : A) → None ≡ Some x → ⊥
no_some x e = cc e

-- what is forwarded to an argument, and the argument of what is forwarded
pub partner : {V W : Type 0} (r : V → W) (ts : List V) (gs : List V) → SameLength (map r ts) (map r gs) →
    (i : ℕ) (x : V) → slice_get ts i ≡ Some x → (g : V) × (slice_get gs i ≡ Some g)
partner r [] gs h i x e = absurd (no_some x e)
partner r (t ∷ ts) [] h i x e = absurd h
partner r (t ∷ ts) (g ∷ gs) h zero x e = (g, refl)
partner r (t ∷ ts) (g ∷ gs) h (suc i) x e = partner r ts gs h i x e

back_partner : {V W : Type 0} (r : V → W) (ts : List V) (gs : List V) → SameLength (map r ts) (map r gs) →
    (i : ℕ) (g : V) → slice_get gs i ≡ Some g → (x : V) × (slice_get ts i ≡ Some x)
back_partner r [] [] h i g e = absurd (no_some g e)
back_partner r [] (y ∷ gs) h i g e = absurd h
back_partner r (t ∷ ts) [] h i g e = absurd h
back_partner r (t ∷ ts) (y ∷ gs) h zero g e = (t, refl)
back_partner r (t ∷ ts) (y ∷ gs) h (suc i) g e = back_partner r ts gs h i g e

module _ {V : Type 0} (N : V → Type 0) where
  pub named_at : (xs : List V) → AllNamed N xs → (i : ℕ) (x : V) → slice_get xs i ≡ Some x → N x
  named_at [] h i x e = absurd (no_some x e)
  named_at (y ∷ xs) h zero x e = subst N (some_is y x e) h.0
  named_at (y ∷ xs) h (suc i) x e = named_at xs h.1 i x e

  edges_named : (ops : List (Op V)) → OpsNamed N AnyBlock ops → (e : Edge V) → In e (all_edges ops) →
      AllNamed N e.forwards
  edges_named [] h e i = absurd i
  edges_named (Const v n ∷ ops) h e i = edges_named ops h.1 e i
  edges_named (Calc a w v x y ∷ ops) h e i = edges_named ops h.1 e i
  edges_named (Emit x ∷ ops) h e i = edges_named ops h.1 e i
  edges_named (Call vs c xs ∷ ops) h e i = edges_named ops h.1 e i
  edges_named (Branch s xs x es ∷ ops) h e i = of_list (λ k. edges_named ops h.1 e k) (x ∷ es) h.0.1 i
    where
      of_list : (In e (all_edges ops) → AllNamed N e.forwards) → (es : List (Edge V)) →
          AllEdges (EdgeNamed N AnyBlock) es → In e (es ++ all_edges ops) → AllNamed N e.forwards
      of_list ih [] q k = ih k
      of_list ih (y ∷ es) q k = ⊎_elim (λ w. subst (λ (z : Edge V). AllNamed N z.forwards) (sym w) q.0.1)
          (λ w. of_list ih es q.1 w) k
  edges_named (Return xs ∷ ops) h e i = edges_named ops h.1 e i

module _ {V : Type 0} (same : V → V → Bool) (law : IsSameness same) (f : Fun V) (defined : NamesAreDefined same (Some f))
    (rules : Rules (place_fun same (Some f))) where
  abbrev F : Option (Fun V)
  F = Some f

  abbrev P : Option (Fun Place)
  P = place_fun same F

  abbrev r : V → Place
  r = place_of same f

  abbrev H : V → Type 0
  H = HasPlace same F

  -- 1. names and places

  pub named_back : (x : V) → H x → name_at F (r x) ≡ Some x
  named_back x h = ap (λ o. name_at F (unwrap_or o (Arg 0 0))) h.1 ∙ at_place same law f x h.0 h.1

  defs_ren : (op : Op V) → defs (ren r op) ≡ map r (defs op)
  defs_ren (Const v n) = refl
  defs_ren (Calc a w v x y) = refl
  defs_ren (Emit x) = refl
  defs_ren (Call vs c xs) = refl
  defs_ren (Branch s xs e es) = refl
  defs_ren (Return xs) = refl

  name_op_ren : (o : Option (Op V)) (i : ℕ) → name_op (option_map (ren r) o) i ≡ option_map r (name_op o i)
  name_op_ren None i = refl
  name_op_ren (Some op) i = ap (λ l. slice_get l i) (defs_ren op) ∙ slice_get-map r (defs op) i

  name_in_ren : (k : Option (Block V)) (a : Place) →
      name_in (option_map (place_block r) k) a ≡ option_map r (name_in k a)
  name_in_ren None a = refl
  name_in_ren (Some k) (Arg b i) = slice_get-map r k.arguments i
  name_in_ren (Some k) (Res b o i) = ap (λ z. name_op z i) (slice_get-map (ren r) k.ops o)
      ∙ name_op_ren (slice_get k.ops o) i

  pub home : (a : Place) (v : V) → name_at F a ≡ Some v → r v ≡ a
  home a v e =
      rules_home P rules a (r v)
      (ap (λ o. name_in o a) (slice_get-map (place_block r) f (block_of a))
      ∙ (name_in_ren (slice_get f (block_of a)) a ∙ ap (option_map r) e))

  -- 2. blocks that may be joined

  edges_are : edges_in P ≡ map (ren_edge r) (edges_in F)
  edges_are = blocks_edges_renamed r f

  count_same : (t : ℕ) → count_to t (edges_in P) ≡ count_to t (edges_in F)
  count_same t = ap (count_to t) edges_are ∙ count_renamed r t (edges_in F)

  forwards_same : (t : ℕ) → forwarded_to t (edges_in P) ≡ map r (forwarded_to t (edges_in F))
  forwards_same t = ap (forwarded_to t) edges_are ∙ forwarded_renamed r t (edges_in F)

  last_same : (b : ℕ) → last_edge (left_in P b 0) ≡ option_map (ren_edge r) (last_edge (left_in F b 0))
  last_same b = ap last_edge (place_left same law F b) ∙ last_renamed r (left_in F b 0)

  join_there : (b t : ℕ) → BlocksAreJoinable F b t → BlocksAreJoinable P b t
  join_there b t x = record {
    edge = ren_edge r x.edge;
    last = last_same b ∙ ap (option_map (ren_edge r)) x.last;
    target = x.target;
    not_entry = x.not_entry;
    other = x.other;
    single = count_same t ∙ x.single;
  }

  join_back : (b t : ℕ) → BlocksAreJoinable P b t → BlocksAreJoinable F b t
  join_back b t x = by_last (last_edge (left_in F b 0)) refl (sym (last_same b) ∙ x.last)
    where
      by_last : (o : Option (Edge V)) → last_edge (left_in F b 0) ≡ o →
          option_map (ren_edge r) (last_edge (left_in F b 0)) ≡ Some x.edge → BlocksAreJoinable F b t
      by_last None e q = absurd (no_some x.edge (sym (ap (option_map (ren_edge r)) e) ∙ q))
      by_last (Some d) e q =
          let z : ren_edge r d ≡ x.edge = some_is (ren_edge r d) x.edge (sym (ap (option_map (ren_edge r)) e) ∙ q) in
          record {
            edge = d;
            last = e;
            target = ap (λ (y : Edge Place). y.target) z ∙ x.target;
            not_entry = x.not_entry;
            other = x.other;
            single = sym (count_same t) ∙ x.single;
          }

  module _ (j : ℕ → Bool) (is_taken : IsJoinedSet F j) where
    pub taken_there : IsJoinedSet P j
    taken_there = record {
      there = λ t e. let x = is_taken.there t e in (x.0, join_there x.0 t x.1);
      back = λ b t x. is_taken.back b t (join_back b t x);
    }

    pub depth_back : (b n : ℕ) → Depth P j b n → Depth F j b n
    depth_back b n (top c m e z) = top c m e z
    depth_back b n (below c t m k x z d) = below c t m k (join_back c t x) z (depth_back c m d)

    -- 3. what is forwarded

    -- the block's arguments, and what is forwarded to them
    pub lengths : (t : ℕ) → j t ≡ true → SameLength (map r (arguments_in F t)) (map r (forwarded_to t (edges_in F)))
    lengths t e =
        let x = is_taken.there t e in
        let y = join_there x.0 t x.1 in
        let fits = edge_fits_in P y.edge (left_in P x.0 0) (rules.fits x.0) (last_in (left_in P x.0 0) y.edge y.last) in
        let le : count_to t (edges_in P) ≤ 1 = omega (arith, y.single) in
        let is : forwarded_to t (edges_in P) ≡ y.edge.forwards =
        gives_unique t y.edge (edges_in P) le (edge_in P y.edge x.0 (last_in (left_in P x.0 0) y.edge y.last))
        y.target in
        subst (λ l. SameLength l (map r (forwarded_to t (edges_in F)))) (place_takes same law F t)
        (subst (SameLength (arguments_in P t)) (sym is ∙ forwards_same t)
        (subst (λ u. SameLength (arguments_in P u) y.edge.forwards) y.target fits.count))

    pub given_named : (t : ℕ) → j t ≡ true → AllNamed H (forwarded_to t (edges_in F))
    given_named t e =
        let x = is_taken.there t e in
        let le : count_to t (edges_in F) ≤ 1 = omega (arith, x.1.single) in
        let i = last_in (left_in F x.0 0) x.1.edge x.1.last in
        let is : forwarded_to t (edges_in F) ≡ x.1.edge.forwards =
        gives_unique t x.1.edge (edges_in F) le (edge_in F x.1.edge x.0 i) x.1.target in
        subst (AllNamed H) (sym is) (edges_named H (left_in F x.0 0) (defined.ops x.0) x.1.edge i)

    forward_is : (t i : ℕ) (g : V) → j t ≡ true → slice_get (forwarded_to t (edges_in F)) i ≡ Some g →
        forward j P (Arg t i) ≡ Some (r g)
    forward_is t i g e h =
        ap (λ b. if b then Some (unwrap_or (slice_get (forwarded_to t (edges_in P)) i) (Arg 0 0)) else None) e
        ∙ ap (λ o. Some (unwrap_or o (Arg 0 0))) (ap (λ l. slice_get l i) (forwards_same t)
        ∙ (slice_get-map r (forwarded_to t (edges_in F)) i ∙ ap (option_map r) h))

    forward_free : (t i : ℕ) → j t ≡ false → forward j P (Arg t i) ≡ None
    forward_free t i e = ap (λ b. if b then Some (unwrap_or (slice_get (forwarded_to t (edges_in P)) i) (Arg 0 0)) else
        None) e

    module _ (names : V → V) (follows : (v : V) → StandsForInChain j F v (names v)) where
      -- what places stand for: names that are there as they did
      abbrev alone : Place → Place
      alone (Arg t i) = if j t then Arg 0 0 else Arg t i
      alone (Res b o i) = Res b o i

      abbrev of_name : Place → Option V → Place
      of_name a None = alone a
      of_name a (Some x) = r (names x)

      abbrev places : Place → Place
      places a = of_name a (name_at F a)

      places_same : (x : V) → H x → places (r x) ≡ r (names x)
      places_same x h = ap (of_name (r x)) (named_back x h)

      follow_named : (x u : V) → StandsForInChain j F x u → (a : Place) → name_at F a ≡ Some x → Follows (forward j P) a (r u)
      follow_named x u (itself v w none q) a e = stop a (r w) (nothing a e) (ap r q ∙ home a v e)
        where
          at_arg : (t i : ℕ) → name_at F (Arg t i) ≡ Some v → (b : Bool) → j t ≡ b → forward j P (Arg t i) ≡ None
          at_arg t i e false z = forward_free t i z
          at_arg t i e true z =
              let takes = arg_name F t i v e in
              let g = partner r (arguments_in F t) (forwarded_to t (edges_in F)) (lengths t z) i v takes in
              absurd (none g.0 (record { block = t; later = z; place = i; takes = takes; gives = g.1 }))

          nothing : (a : Place) → name_at F a ≡ Some v → forward j P a ≡ None
          nothing (Arg t i) e = at_arg t i e (j t) refl
          nothing (Res b o i) e = refl
      follow_named x u (passed_on v w y g m) a e =
          let here : r v ≡ Arg g.block g.place = home (Arg g.block g.place) v
          (name_arg same law F g.block g.place v g.takes) in
          let is : a ≡ Arg g.block g.place = sym (home a v e) ∙ here in
          let h = named_at H (forwarded_to g.block (edges_in F)) (given_named g.block g.later) g.place w g.gives in
          more a (r w) (r y) (ap (forward j P) is ∙ forward_is g.block g.place w g.later g.gives)
          (follow_named w y m (r w) (named_back w h))

      out_of : (t i : ℕ) → name_at F (Arg t i) ≡ None → j t ≡ true → slice_get (forwarded_to t (edges_in P)) i ≡ None
      out_of t i e z = by_case (slice_get (forwarded_to t (edges_in F)) i) refl
        where
          by_case : (o : Option V) → slice_get (forwarded_to t (edges_in F)) i ≡ o →
              slice_get (forwarded_to t (edges_in P)) i ≡ None
          by_case None q = ap (λ l. slice_get l i) (forwards_same t)
              ∙ (slice_get-map r (forwarded_to t (edges_in F)) i ∙ ap (option_map r) q)
          by_case (Some g) q =
              let x = back_partner r (arguments_in F t) (forwarded_to t (edges_in F)) (lengths t z) i g q in
              absurd (no_some x.0 (sym e ∙ name_arg same law F t i x.0 x.1))

      follow_alone : (a : Place) → name_at F a ≡ None → Follows (forward j P) a (alone a)
      follow_alone (Res b o i) e = stop (Res b o i) (Res b o i) refl refl
      follow_alone (Arg t i) e = by_test (j t) refl
        where
          by_test : (b : Bool) → j t ≡ b → Follows (forward j P) (Arg t i) (if j t then Arg 0 0 else Arg t i)
          by_test false z = subst (Follows (forward j P) (Arg t i)) (sym (ap (λ b. if b then Arg 0 0 else Arg t i) z))
              (stop (Arg t i) (Arg t i) (forward_free t i z) refl)
          by_test true z =
              subst (Follows (forward j P) (Arg t i)) (sym (ap (λ b. if b then Arg 0 0 else Arg t i) z))
              (more (Arg t i) (Arg 0 0) (Arg 0 0)
              (ap (λ b. if b then Some (unwrap_or (slice_get (forwarded_to t (edges_in P)) i) (Arg 0 0)) else None) z
              ∙ ap (λ o. Some (unwrap_or o (Arg 0 0))) (out_of t i e z))
              (stop (Arg 0 0) (Arg 0 0) (forward_free 0 0 (entry_free F j is_taken)) refl))

      pub follows_places : (a : Place) → Follows (forward j P) a (places a)
      follows_places a = by_name (name_at F a) refl
        where
          by_name : (o : Option V) → name_at F a ≡ o → Follows (forward j P) a (of_name a (name_at F a))
          by_name None e = subst (Follows (forward j P) a) (sym (ap (of_name a) e)) (follow_alone a e)
          by_name (Some x) e = subst (Follows (forward j P) a) (sym (ap (of_name a) e))
              (follow_named x (names x) (follows x) a e)

      -- 4. what stands for a name has a place

      stands_named : (x u : V) → StandsForInChain j F x u → H x → H u
      stands_named x u (itself v w none q) h = subst H (sym q) h
      stands_named x u (passed_on v w y g m) h = stands_named w y m
          (named_at H (forwarded_to g.block (edges_in F)) (given_named g.block g.later) g.place w g.gives)

    module _ (gone : V → Bool) (there : (v : V) → gone v ≡ true → IsLaterArgument j F v)
        (back : (v : V) → IsLaterArgument j F v → gone v ≡ true) where
      in_slice : (v : V) (xs : List V) → In v xs → (i : ℕ) × (slice_get xs i ≡ Some v)
      in_slice v [] h = absurd h
      in_slice v (x ∷ xs) h = ⊎_elim (λ e. (0, ap Some (sym e))) (λ k. let m = in_slice v xs k in (suc m.0, m.1)) h

      -- the argument of a later block, by its place
      gone_same : (x : V) → H x → taken_arg j (r x) ≡ gone x
      gone_same x h = by_place (r x) (named_back x h) (gone x) refl
        where
          at : (a : Place) → name_at F a ≡ Some x → gone x ≡ true → taken_arg j a ≡ true
          at a e q =
              let w = there x q in
              let i = in_slice x (arguments_in F w.0) w.2 in
              let z : a ≡ Arg w.0 i.0 = sym (home a x e) ∙ home (Arg w.0 i.0) x (name_arg same law F w.0 i.0 x i.1) in
              ap (taken_arg j) z ∙ w.1

          from : (a : Place) → name_at F a ≡ Some x → taken_arg j a ≡ true → gone x ≡ true
          from (Arg t i) e q = back x (t, q, slice_in x (arguments_in F t) i (arg_name F t i x e))
          from (Res b o i) e q = absurd (cc q)

          by_place : (a : Place) → name_at F a ≡ Some x → (b : Bool) → gone x ≡ b → taken_arg j a ≡ gone x
          by_place a e true q = at a e q ∙ sym q
          by_place a e false q = by_test (taken_arg j a) refl
            where
              by_test : (c : Bool) → taken_arg j a ≡ c → taken_arg j a ≡ gone x
              by_test false z = z ∙ sym q
              by_test true z = let bad : true ≡ false = sym (from a e z) ∙ q in absurd (cc bad)

  -- 5. what joining makes

  pub all_named : AreNamed H F
  all_named = record { ops = defined.ops; arguments = defined.arguments }

  module _ (g : Option (Fun V)) (m : Merges F g) where
    after_replacing : AreNamed H (Some (map (replace_block m.names) f))
    after_replacing = replaced_named H m.names (λ x h. stands_named m.later m.is_later m.names m.follows x (m.names x)
        (m.follows x) h) F all_named

    abbrev G1 : List (Block V)
    G1 = map (replace_block m.names) f

    abbrev G2 : List (Block V)
    G2 = map (thin_block (Some G1) m.gone) G1

    abbrev G3 : List (Block V)
    G3 = map (join_block m.later (Some G2) m.most) G2

    abbrev st : ℕ → Bool
    st b = not (m.later b)

    abbrev pub G4 : List (Block V)
    G4 = keep_blocks st (between st 0) 0 G3

    pub left_named : AreNamed H (Some G4)
    left_named = kept_named H st (Some G3) (joined_named H m.later m.most (Some G2)
        (thinned_named H m.gone (Some G1) after_replacing))

    replaced_is : map (replace_block (places m.later m.is_later m.names m.follows)) (map (rename_block r) f) ≡ map
        (rename_block r) G1
    replaced_is = blocks_replaced r H m.names (places m.later m.is_later m.names m.follows)
        (places_same m.later m.is_later m.names m.follows) f defined.ops

    thinned_is : map (thin_block (Some (map (rename_block r) G1)) (taken_arg m.later)) (map (rename_block r) G1) ≡ map
        (rename_block r) G2
    thinned_is =
        blocks_thinned r H m.gone (taken_arg m.later) (gone_same m.later m.is_later m.gone (λ v. (m.is_gone v).0)
        (λ v. (m.is_gone v).1)) G1 after_replacing.arguments G1 after_replacing.ops after_replacing.arguments

    pub old_merged_is : old.merged m.later (places m.later m.is_later m.names m.follows) m.most P ≡ rename_fun r (Some G4)
    old_merged_is =
        ap (λ ks. keep st (join_fun m.later m.most (thin (taken_arg m.later) (Some ks)))) replaced_is
        ∙ (ap (λ ks. keep st (join_fun m.later m.most (Some ks))) thinned_is
        ∙ (ap (λ ks. keep st (Some ks)) (join_blocks_renamed r m.later G2 m.most G2)
        ∙ ap Some (keep_renamed r st (between st 0) 0 G3)))

    pub placed_is : place_fun same g ≡ place_fun same_place (rename_fun r (Some G4))
    placed_is = ap (place_fun same) m.is ∙ sym (placed_on same same_place r H (λ x y a b. apart same law F x y a b)
        (Some G4) left_named)

    -- as the proofs have it
    abbrev pub old_by_place : old.IsMerged P (place_fun same g)
    old_by_place = record {
      taken = m.later;
      names = places m.later m.is_later m.names m.follows;
      most = m.most;
      is_taken = taken_there m.later m.is_later;
      follows = follows_places m.later m.is_later m.names m.follows;
      long = λ b n x. m.long b n (depth_back m.later m.is_later b n x);
      is = placed_is ∙ ap (place_fun same_place) (sym old_merged_is);
    }

    -- 6. the same by names

    abbrev stand_by : Place → Option V → Place
    stand_by a None = a
    stand_by a (Some x) = r (m.names x)

    abbrev stand : Place → Place
    stand a = stand_by a (name_at F a)

    abbrev gone_by : Option V → Bool
    gone_by None = false
    gone_by (Some x) = m.gone x

    abbrev gone : Place → Bool
    gone a = gone_by (name_at F a)

    -- an argument by its place is one by its name
    arg_of : (t i : ℕ) (a : Place) → slice_get (arguments_in P t) i ≡ Some a →
        (x : V) × (slice_get (arguments_in F t) i ≡ Some x) × (name_at F a ≡ Some x)
    arg_of t i a e = by_case (slice_get (arguments_in F t) i) refl
        (sym (ap (λ l. slice_get l i) (place_takes same law F t) ∙ slice_get-map r (arguments_in F t) i) ∙ e)
      where
        by_case : (o : Option V) → slice_get (arguments_in F t) i ≡ o →
            option_map r (slice_get (arguments_in F t) i) ≡ Some a →
            (x : V) × (slice_get (arguments_in F t) i ≡ Some x) × (name_at F a ≡ Some x)
        by_case None q w = absurd (no_some a (sym (ap (option_map r) q) ∙ w))
        by_case (Some x) q w =
            let z : r x ≡ a = some_is (r x) a (sym (ap (option_map r) q) ∙ w) in
            (x, q, ap (name_at F) (sym z) ∙ named_back x (named_at H (arguments_in F t) (defined.arguments t) i x q))

    given_of : (t i : ℕ) (y : Place) → slice_get (forwarded_to t (edges_in P)) i ≡ Some y →
        (x : V) × (slice_get (forwarded_to t (edges_in F)) i ≡ Some x)
    given_of t i y e = by_case (slice_get (forwarded_to t (edges_in F)) i) refl
        (sym (ap (λ l. slice_get l i) (forwards_same t) ∙ slice_get-map r (forwarded_to t (edges_in F)) i) ∙ e)
      where
        by_case : (o : Option V) → slice_get (forwarded_to t (edges_in F)) i ≡ o →
            option_map r (slice_get (forwarded_to t (edges_in F)) i) ≡ Some y →
            (x : V) × (slice_get (forwarded_to t (edges_in F)) i ≡ Some x)
        by_case None q w = absurd (no_some y (sym (ap (option_map r) q) ∙ w))
        by_case (Some x) q w = (x, q)

    stand_named : (x u : V) → StandsForInChain m.later F x u → (a : Place) → name_at F a ≡ Some x → StandsForInChain m.later P a (r u)
    stand_named x u (itself v w none q) a e = itself a (r w) (λ y g. nothing y g) (ap r q ∙ home a v e)
      where
        nothing : (y : Place) → IsGivenInChain m.later P a y → ⊥
        nothing y g =
            let x = arg_of g.block g.place a g.takes in
            let z = given_of g.block g.place y g.gives in
            let is : x.0 ≡ v = some_is x.0 v (sym x.2 ∙ e) in
            none z.0 (record {
              block = g.block;
              later = g.later;
              place = g.place;
              takes = x.1 ∙ ap Some is;
              gives =
                  z.1;
            })
    stand_named x u (passed_on v w y g n) a e =
        let h = named_at H (forwarded_to g.block (edges_in F))
        (given_named m.later m.is_later g.block g.later) g.place w g.gives in
        passed_on a (r w) (r y)
        (record {
          block = g.block;
          later = g.later;
          place = g.place;
          takes = ap (λ l. slice_get l g.place) (place_takes same law F g.block)
              ∙ (slice_get-map r (arguments_in F g.block) g.place ∙ (ap (option_map r) g.takes ∙ ap Some (home a v e)));
          gives = ap (λ l. slice_get l g.place) (forwards_same g.block)
              ∙ (slice_get-map r (forwarded_to g.block (edges_in F)) g.place ∙ ap (option_map r) g.gives);
        })
        (stand_named w y n (r w) (named_back w h))

    stands : (a : Place) → StandsForInChain m.later P a (stand a)
    stands a = by_name (name_at F a) refl
      where
        by_name : (o : Option V) → name_at F a ≡ o → StandsForInChain m.later P a (stand_by a (name_at F a))
        by_name None e =
            subst (StandsForInChain m.later P a) (sym (ap (stand_by a) e))
            (itself a a (λ y g. let x = arg_of g.block g.place a g.takes in no_some x.0 (sym e ∙ x.2)) refl)
        by_name (Some x) e = subst (StandsForInChain m.later P a) (sym (ap (stand_by a) e))
            (stand_named x (m.names x) (m.follows x) a e)

    gone_there : (a : Place) → gone a ≡ true → IsLaterArgument m.later P a
    gone_there a q = by_name (name_at F a) refl q
      where
        by_name : (o : Option V) → name_at F a ≡ o → gone_by o ≡ true → IsLaterArgument m.later P a
        by_name None e w = absurd (cc w)
        by_name (Some x) e w =
            let l = (m.is_gone x).0 w in (
              l.0,
              l.1,
              subst (In a) (sym (place_takes same law F l.0))
                  (subst (λ z. In z (map r (arguments_in F l.0))) (home a x e) (all_map r x (arguments_in F l.0) l.2)),
            )

    gone_back : (a : Place) → IsLaterArgument m.later P a → gone a ≡ true
    gone_back a l =
        let i = slice_of a (arguments_in P l.0) l.2 in
        let x = arg_of l.0 i.0 a i.1 in
        ap gone_by x.2 ∙ (m.is_gone x.0).1 (l.0, l.1, slice_in x.0 (arguments_in F l.0) i.0 x.1)
      where
        slice_of : (v : Place) (xs : List Place) → In v xs → (i : ℕ) × (slice_get xs i ≡ Some v)
        slice_of v [] h = absurd h
        slice_of v (x ∷ xs) h = ⊎_elim (λ e. (0, ap Some (sym e))) (λ k. let m = slice_of v xs k in (suc m.0, m.1)) h

    stand_is : map (replace_block stand) (map (rename_block r) f) ≡ map (rename_block r) G1
    stand_is = blocks_replaced r H m.names stand (λ x h. ap (stand_by (r x)) (named_back x h)) f defined.ops

    gone_is : map (thin_block (Some (map (rename_block r) G1)) gone) (map (rename_block r) G1) ≡ map (rename_block r) G2
    gone_is = blocks_thinned r H m.gone gone (λ x h. ap gone_by (named_back x h)) G1 after_replacing.arguments G1
        after_replacing.ops after_replacing.arguments

    merged_is : merged m.later gone stand m.most P ≡ rename_fun r (Some G4)
    merged_is =
        ap (λ ks. keep st (join_fun m.later m.most (thin gone (Some ks)))) stand_is
        ∙ (ap (λ ks. keep st (join_fun m.later m.most (Some ks))) gone_is
        ∙ (ap (λ ks. keep st (Some ks)) (join_blocks_renamed r m.later G2 m.most G2)
        ∙ ap Some (keep_renamed r st (between st 0) 0 G3)))

    by_place : IsMerged P (place_fun same g)
    by_place = record {
      left = rename_fun r (Some G4);
      merges = record {
        later = m.later;
        is_later = taken_there m.later m.is_later;
        gone = gone;
        is_gone = λ a. (gone_there a, gone_back a);
        names = stand;
        follows = stands;
        most = m.most;
        long = λ b n x. m.long b n (depth_back m.later m.is_later b n x);
        is = sym merged_is;
      };
      is = placed_is;
    }

-- of a function that is not there
module _ {V : Type 0} (j : ℕ → Bool) (is : IsJoinedSet {V = V} None j) where
  none_later : (t : ℕ) → j t ≡ false
  none_later t = by_test (j t) refl
    where
      by_test : (b : Bool) → j t ≡ b → j t ≡ false
      by_test false q = q
      by_test true q = let x = is.there t q in absurd (no_some x.1.edge x.1.last)

  none_taken : {W : Type 0} → IsJoinedSet {V = W} None j
  none_taken = record {
    there = λ t e. let x = is.there t e in absurd (no_some x.1.edge x.1.last);
    back = λ b t x. absurd (no_some x.edge x.last);
  }

no_depth : {V : Type 0} (j : ℕ → Bool) (b n : ℕ) → Depth {V = V} None j b n → n ≤ 0
no_depth j b n (top c m e z) = omega (arith, z)
no_depth j b n (below c t m k x z d) = absurd (no_some x.edge x.last)

none_old : {V : Type 0} (j : ℕ → Bool) → IsJoinedSet {V = V} None j → (g : Option (Fun Place)) → g ≡ None →
    old.IsMerged None g
none_old {V} j is g e = record {
  taken = j;
  names = λ v. v;
  most = 0;
  is_taken = none_taken j is;
  follows = λ v. stop v v (nothing v) refl;
  long = λ b n x. no_depth j b n x;
  is = e;
}
  where
    nothing : (v : Place) → forward j None v ≡ None
    nothing (Arg t i) = ap (λ b. if b then Some (unwrap_or (slice_get (forwarded_to t (edges_in {V = Place} None)) i)
        (Arg 0 0)) else None) (none_later j is t)
    nothing (Res b o i) = refl

none_new : {V : Type 0} (j : ℕ → Bool) → IsJoinedSet {V = V} None j → (g : Option (Fun Place)) → g ≡ None → IsMerged None g
none_new {V} j is g e = record {
  left = None;
  merges = record {
    later = j;
    is_later = none_taken j is;
    gone = λ v. false;
    is_gone = λ v. (λ q. absurd (cc q), λ l. absurd l.2);
    names = λ v. v;
    follows = λ v. itself v v (λ w g. no_some v g.takes) refl;
    most = 0;
    long = λ b n x. no_depth j b n x;
    is = refl;
  };
  is = e;
}

pub merges_by_place : {V : Type 0} (same : V → V → Bool) → IsSameness same → (f g : Option (Fun V)) → NamesAreDefined same f →
    Rules (place_fun same f) → Merges f g → IsMerged (place_fun same f) (place_fun same g)
merges_by_place same law None g defined rules m = none_new m.later m.is_later (place_fun same g)
    (ap (place_fun same) m.is)
merges_by_place same law (Some f) g defined rules m = by_place same law f defined rules g m

old_merges_by_place : {V : Type 0} (same : V → V → Bool) → IsSameness same → (f g : Option (Fun V)) → NamesAreDefined same f →
    Rules (place_fun same f) → Merges f g → old.IsMerged (place_fun same f) (place_fun same g)
old_merges_by_place same law None g defined rules m =
    none_old m.later m.is_later (place_fun same g) (ap (place_fun same) m.is)
old_merges_by_place same law (Some f) g defined rules m = old_by_place same law f defined rules g m

-- where values are named by their places
pub as_old : (f g : Option (Fun Place)) → Rules f → IsMerged f g → old.IsMerged f g
as_old f g rules m =
    let z = numbering_stays f rules in
    let w : old.IsMerged (place_fun same_place f) (place_fun same_place m.left) =
    old_merges_by_place same_place place_law f m.left (sees_defined same_place place_law f rules.sees)
    (subst Rules (sym z) rules) m.merges in
    subst (λ y. old.IsMerged y g) z (subst (old.IsMerged (place_fun same_place f)) (sym m.is) w)
