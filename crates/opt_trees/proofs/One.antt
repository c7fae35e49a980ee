-- dce and simplify give one tree, and a second dce changes nothing.
use Rattle.std.proofs.Common.{◌≡◌, inl, ℕ, Bool, true, false, List, [], ◌∷◌, Option, Some, None, refl, sym, ap, ◌∙◌, subst}
use Rattle.std.specs.Prelude.{slice_get}
use Rattle.ir_trees.specs.Names.{Names, Contents}
use Rattle.ir_trees.specs.Trees.{Defined, Sort, Operations, Blocks, Regions, Tree, end, operation, block, region, Root}
use Rattle.opt_trees.specs.Occurrences.{Has}
use Rattle.opt_trees.specs.Dialect.{Dialect, Lawful, drop}
use Rattle.opt_trees.specs.Facts.{forwarded}
use Rattle.opt_trees.specs.Dce.{TreeSurroundings, Item, IsDead, Gone, gone_at, thin_label, thin, IsGoneExactly, IsDce, IsWell}
use Rattle.opt_trees.specs.Simplify.{StartingRegions, all_of, use_head, Joinable, IsGiven, Follows, stops, goes_on, Joins, ends, operations, regions, taken, first, chain_ends, chain_goes_on, append, keep, use_instead, IsCut, IsJoined, Chases, goes, goes_by, ComesBack, IsSimplify, IsOrderly, decided}
use Rattle.opt_trees.proofs.Lists.{some_same}
use Rattle.opt_trees.proofs.Best.{true_both}
use Rattle.opt_trees.proofs.NoneDead.{no_dead}

abbrev pub nothing : {N : Names} → Gone N
nothing = record { item = λ x. false; operand = λ o i. false }

drop_none : {X : Type 0} (xs : List X) → drop (λ i. false) xs ≡ xs
drop_none [] = refl
drop_none (x ∷ xs) = ap (λ l. x ∷ l) (drop_none xs)

none_gone : (N : Names) {T : Type 0} (q : Option (Defined N.value T)) → gone_at {N = N} (nothing {N = N}) q ≡ false
none_gone N None = refl
none_gone N (Some v) = refl

module _ {N : Names} {S : Contents} {A : Type 0} (d : Dialect S A) where
  gone_unique : (w : TreeSurroundings N A) (t : Root N S) (g h : Gone N) → IsGoneExactly d w t g → IsGoneExactly d w t h → g ≡ h
  gone_unique w t g h a b = λ i. record {
    item = λ x. true_both (g.item x) (h.item x) (λ e. b.all x (a.dead x e)) (λ e. a.all x (b.dead x e)) i;
    operand = λ o n. true_both (g.operand o n) (h.operand o n) (λ e. b.all_lost o n (a.lost o n e)) (λ e. a.all_lost o n (b.lost o n e)) i;
  }

  pub dce_unique : (w : TreeSurroundings N A) (t x y : Root N S) → IsDce d w t x → IsDce d w t y → x ≡ y
  dce_unique w t x y a b = a.is ∙ ap (λ g. record { head = t.head; regions = thin d g t.regions }) (gone_unique w t a.gone b.gone a.is_gone b.is_gone) ∙ sym b.is

  thin_nothing : Lawful d → {s : Sort} (t : Tree N S s) → thin d (nothing {N = N}) t ≡ t
  thin_nothing law end = refl
  thin_nothing law (operation h rs rest) = λ i. operation (record { name = h.name; content = law.drop_no_operands h.content i; results = h.results; operands = drop_none h.operands i; successors = h.successors }) (thin_nothing law rs i) (thin_nothing law rest i)
  thin_nothing law (block l ops rest) = λ i. block (same i) (thin_nothing law ops i) (thin_nothing law rest i)
    where
      none : ◌≡◌ {A = ℕ → Bool} (λ i. gone_at {N = N} (nothing {N = N}) (slice_get l.arguments i)) (λ i. false)
      none = λ j i. none_gone N (slice_get l.arguments i) j

      same : thin_label d (nothing {N = N}) l ≡ l
      same = (λ j. record { name = l.name; content = d.drop_names l.content (none j); arguments = drop (none j) l.arguments }) ∙ λ j. record { name = l.name; content = law.drop_no_names l.content j; arguments = drop_none l.arguments j }
  thin_nothing law (region bs rest) = λ i. region (thin_nothing law bs i) (thin_nothing law rest i)

  -- nothing is dead after it
  pub dce_none : Lawful d → (w : TreeSurroundings N A) (t x : Root N S) → IsWell d t → IsDce d w t x → (z : Item N) → IsDead d w x z → ⊥
  dce_none law w t x well a z h = no_dead d law w t a.gone a.is_gone well z (subst (λ r. IsDead d w r z) a.is h)

  -- a second dce changes nothing
  pub dce_twice : Lawful d → (w : TreeSurroundings N A) (t x y : Root N S) → IsWell d t → IsDce d w t x → IsDce d w x y → y ≡ x
  dce_twice law w t x y well a b =
      let none : (z : Item N) → b.gone.item z ≡ false = λ z. off (b.gone.item z) (λ e. no z (b.is_gone.dead z e)) in
      let lost : (o : N.operation) (i : ℕ) → b.gone.operand o i ≡ false = λ o i. off (b.gone.operand o i) (λ e. let l = b.is_gone.lost o i e in no (_) l.dead) in
      let same : b.gone ≡ nothing {N = N} = λ i. record { item = λ z. none z i; operand = λ o n. lost o n i } in
      b.is ∙ ap (λ g. record { head = x.head; regions = thin d g x.regions }) same ∙ λ i. record { head = x.head; regions = thin_nothing law x.regions i }
    where
      off : (c : Bool) → (c ≡ true → ⊥) → c ≡ false
      off true f = absurd (f refl)
      off false f = refl

      no : (z : Item N) → IsDead d w x z → ⊥
      no z h = dce_none law w t x well a z h

  -- simplify

  module _ (start : StartingRegions N) (r : Root N S) (o : IsOrderly r) where
    pub leads_one : (b t u : N.block) → Joinable d start r b t → Joinable d start r b u → t ≡ u
    leads_one b t u j k =
        let same = o.ends j.last k.last t u j.stands k.stands (j.in_block ∙ sym k.in_block) (subst (Has t) (sym j.leads) (inl refl)) (subst (Has u) (sym k.leads) (inl refl)) in
        head_same t u (sym j.leads ∙ ap (λ x. x.head.successors) same ∙ k.leads)
      where
        head_same : (t u : N.block) → t ∷ [] ≡ u ∷ [] → t ≡ u
        head_same t u e = cc e

    given_one : (v x y : N.value) → IsGiven d start r v x → IsGiven d start r v y → x ≡ y
    given_one v x y a b =
        let e = o.arguments a.joins.target b.joins.target v a.place b.place a.joins.target_stands b.joins.target_stands a.takes b.takes in
        let to : a.to ≡ b.to = sym a.joins.target_name ∙ ap (λ z. z.label.name) e.0 ∙ b.joins.target_name in
        let last : a.joins.last ≡ b.joins.last = b.joins.single a.joins.last a.joins.stands (subst (λ z. Has z a.joins.last.head.successors) to (subst (Has a.to) (sym a.joins.leads) (inl refl))) in
        some_same x y (sym a.gives ∙ (λ i. slice_get (forwarded d (last i).head 0) (e.1 i)) ∙ b.gives)

    follows_one : (v x y : N.value) → Follows d start r v x → Follows d start r v y → x ≡ y
    follows_one _ _ _ (stops v n) (stops _ m) = refl
    follows_one _ _ _ (stops v n) (goes_on _ u y g f) = absurd (n u g)
    follows_one _ _ _ (goes_on v u x g f) (stops _ n) = absurd (n u g)
    follows_one _ _ y (goes_on v u x g f) (goes_on _ z _ h k) = follows_one u x y f (subst (λ q. Follows d start r q y) (given_one v z u h g) k)

    chases_on : (v u x : N.value) → Chases d start r v u → IsGiven d start r u x → Chases d start r v x
    chases_on _ _ x (goes v u g) h = goes_by v u x g (goes u x h)
    chases_on _ _ x (goes_by v u y g c) h = goes_by v u x g (chases_on u y x c h)

    turned : (v u w : N.value) → Chases d start r v w → w ≡ v → IsGiven d start r v u → Chases d start r u u
    turned _ u _ (goes v x g) e h =
        let same : x ≡ u = given_one v x u g h in
        goes u u (subst (λ z. IsGiven d start r z u) (sym e ∙ same) h)
    turned _ u _ (goes_by v x y g c) e h =
        let same : x ≡ u = given_one v x u g h in
        subst (λ z. Chases d start r z u) same (chases_on x v u (subst (Chases d start r x) e c) h)

    no_follow : (v x : N.value) → Follows d start r v x → Chases d start r v v → ⊥
    no_follow _ _ (stops v n) c = none v n v c
      where
        none : (v : N.value) → ((u : N.value) → IsGiven d start r v u → ⊥) → (w : N.value) → Chases d start r v w → ⊥
        none _ n _ (goes v u g) = n u g
        none _ n _ (goes_by v u x g c) = n u g
    no_follow _ _ (goes_on v u x g f) c = no_follow u x f (turned v u v c refl g)

    -- where following comes back nothing is joined
    pub comes_back : (after : Root N S) → ComesBack d start r → IsJoined d start r after → ⊥
    comes_back after c j = no_follow c.argument (j.names c.argument) (j.follows c.argument) c.loop

    joins_one : (c : Option N.block) (s : Sort) (t a b : Tree N S s) →
        Joins d start r c s t a → Joins d start r c s t b → a ≡ b
    joins_one _ _ _ _ _ (ends s) (ends _) = refl
    joins_one _ _ _ _ _ (operations h rs qs rest more x y) (operations _ _ qs' _ more' x' y') = λ i. operation h (joins_one None Regions rs qs qs' x x' i) (joins_one None Operations rest more more' y y' i)
    joins_one _ _ _ _ _ (regions bs cs rest more x y) (regions _ cs' _ more' x' y') = λ i. region (joins_one None Blocks bs cs cs' x x' i) (joins_one None Regions rest more more' y y' i)
    joins_one _ _ _ _ _ (taken l ops rest more b j x) (taken _ _ _ more' _ _ y) = joins_one None Blocks rest more more' x y
    joins_one _ _ _ _ _ (taken l ops rest more b j x) (first _ _ _ _ _ n _ _) = absurd (n b j)
    joins_one _ _ _ _ _ (first l ops all rest more n x y) (taken _ _ _ _ b j _) = absurd (n b j)
    joins_one _ _ _ _ _ (first l ops all rest more n x y) (first _ _ all' _ more' _ x' y') = λ i. block l (joins_one (Some l.name) Operations ops all all' x x' i) (joins_one None Blocks rest more more' y y' i)
    joins_one _ _ _ _ _ (chain_ends b ops own n x) (chain_ends _ _ own' _ y) = joins_one None Operations ops own own' x y
    joins_one _ _ _ _ _ (chain_ends b ops own n x) (chain_goes_on _ z _ _ _ _ j _ _ _ _) = absurd (n z.label.name j)
    joins_one _ _ _ _ _ (chain_goes_on b z ops own others all j h x y e) (chain_ends _ _ _ n _) = absurd (n z.label.name j)
    joins_one _ _ _ _ _ (chain_goes_on b z ops own others all j h x y e) (chain_goes_on _ z' _ own' others' all' j' h' x' y' e') =
        let same : z' ≡ z = o.blocks z' z h' h (leads_one b z'.label.name z.label.name j' j) in
        e ∙ (λ i. append (joins_one None Operations _ own own' x x' i) (joins_one (Some z.label.name) Operations z.operations others others' y (subst (λ q. Joins d start r (Some q.label.name) Operations q.operations others') same y') i)) ∙ sym e'

  pub cut_unique : (start : StartingRegions N) (t x y : Root N S) → IsCut d start t x → IsCut d start t y → x ≡ y
  cut_unique start t x y a b =
      let same : a.gone ≡ b.gone = λ i z. true_both (a.gone z) (b.gone z) (λ e. b.all z (a.there z e)) (λ e. a.all z (b.there z e)) i in
      a.is ∙ ap (λ g. record { head = t.head; regions = keep g t.regions }) same ∙ sym b.is

  pub joined_unique : (start : StartingRegions N) (t x y : Root N S) →
      IsOrderly t → IsJoined d start t x → IsJoined d start t y → x ≡ y
  joined_unique start t x y o a b =
      let names : a.names ≡ b.names =
      λ i v. follows_one start t o v (a.names v) (b.names v) (a.follows v) (b.follows v) i in
      let trees = joins_one start t o None Regions t.regions a.regions b.regions a.joins b.joins in
      a.is ∙ (λ i. record { head = use_head (names i) t.head; regions = use_instead (names i) (trees i) }) ∙ sym b.is

  -- of a tree that is orderly once it is cut
  pub simplify_unique : (w : TreeSurroundings N A) (t x y : Root N S) → ((u : Root N S) → IsCut d (all_of t) (decided d w t) u → IsOrderly u) → IsSimplify d w t x → IsSimplify d w t y → x ≡ y
  simplify_unique w t x y o a b =
      let same = cut_unique (all_of t) (decided d w t) b.cut a.cut b.is_cut a.is_cut in
      joined_unique (all_of t) a.cut x y (o a.cut a.is_cut) a.is_joined
      (subst (λ u. IsJoined d (all_of t) u y) same b.is_joined)
