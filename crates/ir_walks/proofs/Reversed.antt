-- All PreOrder Forward reversed is PostOrder Reverse.
use Rattle.std.proofs.Common.{◌≡◌, List, [], ◌∷◌, ◌++◌, reverse, refl, sym, ap, ◌∙◌, subst, append_assoc}
use Rattle.std.proofs.lemmas.List.{reverse-append, map-append}
use Rattle.std.proofs.lemmas.List.Elements.{Contains-append_left, Contains-append_right}
use Rattle.ir_program.specs.Preorder.{nodes_in}
use Rattle.ir_program.specs.Program.{Program}
use Rattle.ir_program.specs.declared.handles.IRNode.{IRNode}
use Rattle.ir_program.specs.declared.handles.IRNode.TheVariants.{Operation as OperationNode, Region as RegionNode, BasicBlock as BlockNode}
use Rattle.ir_walks.specs.declared.config.Direction.TheVariants.{Forward, Reverse}
use Rattle.ir_walks.specs.declared.config.Order.TheVariants.{PreOrder, PostOrder}
use Rattle.ir_walks.specs.declared.config.WalkConfig.{WalkConfig}
use Rattle.ir_walks.specs.declared.results.WalkContinue.{WalkContinue}
use Rattle.ir_walks.specs.declared.results.WalkContinue.TheVariants.{Advance, Skip}
use Rattle.ir_walks.specs.Levels.{IsCalledFirst, IsCalledLast, members, preset}
use Rattle.ir_walks.specs.Walks.{Call, called_nodes, NeverSkips, IsWalk, nothing, skipped, first, last}
use Rattle.ir_walks.specs.Laws.{IsReversedByPostOrder}
use Rattle.ir_walks.proofs.Sequences.{contains_here, contains_there}

module _ {O B : Type 0} (c : Program O B) where
  forward_members : (e : IRNode) → members c (preset PreOrder Forward) e ≡ nodes_in c e
  forward_members (OperationNode p) = refl
  forward_members (RegionNode p) = refl
  forward_members (BlockNode p) = refl

  reverse_members : (e : IRNode) → members c (preset PostOrder Reverse) e ≡ reverse (nodes_in c e)
  reverse_members (OperationNode p) = refl
  reverse_members (RegionNode p) = refl
  reverse_members (BlockNode p) = refl

  never_last : (e : IRNode) → IsCalledLast (preset PreOrder Forward) e → ⊥
  never_last (OperationNode p) h = cc
  never_last (RegionNode p) h = cc
  never_last (BlockNode p) h = cc

  never_first : (e : IRNode) → IsCalledFirst (preset PostOrder Reverse) e → ⊥
  never_first (OperationNode p) h = cc
  never_first (RegionNode p) h = cc
  never_first (BlockNode p) h = cc

  -- a walk of two lists of nodes
  record Parts (config : WalkConfig) (es fs : List IRNode) (cs : List Call) : Type 0 where
    pub one : List Call
    pub two : List Call
    pub parts : cs ≡ one ++ two
    pub first_walk : IsWalk c config es one
    pub second_walk : IsWalk c config fs two

  walk_split : (config : WalkConfig) (es fs all : List IRNode) (cs : List Call) → IsWalk c config all cs → all ≡ es ++ fs → Parts config es fs cs
  walk_split config [] fs all cs w h = record { one = []; two = cs; parts = refl; first_walk = nothing; second_walk = subst (λ z. IsWalk c config z cs) h w }
  walk_split config (d ∷ ds) fs _ _ nothing h = cc
  walk_split config (d ∷ ds) fs _ _ (skipped e es rest p w) h =
      let same : e ≡ d = cc in
      let left : es ≡ ds ++ fs = cc in
      let r : Parts config ds fs rest = walk_split config ds fs es rest w left in
      record {
        one = (e, Skip) ∷ r.one;
        two = r.two;
        parts = ap (λ z. (e, Skip) ∷ z) r.parts;
        first_walk = subst (λ z. IsWalk c config (z ∷ ds) ((e, Skip) ∷ r.one)) same (skipped e ds r.one p r.first_walk);
        second_walk = r.second_walk;
      }
  walk_split config (d ∷ ds) fs _ _ (first e es inner rest p i w) h =
      let same : e ≡ d = cc in
      let left : es ≡ ds ++ fs = cc in
      let r : Parts config ds fs rest = walk_split config ds fs es rest w left in
      record {
        one = (e, Advance) ∷ (inner ++ r.one);
        two = r.two;
        parts = ap (λ z. (e, Advance) ∷ (inner ++ z)) r.parts ∙ ap (λ z. (e, Advance) ∷ z) (sym (append_assoc inner r.one r.two));
        first_walk = subst (λ z. IsWalk c config (z ∷ ds) ((e, Advance) ∷ (inner ++ r.one))) same (first e ds inner r.one p i r.first_walk);
        second_walk = r.second_walk;
      }
  walk_split config (d ∷ ds) fs _ _ (last e es inner rest a p i w) h =
      let same : e ≡ d = cc in
      let left : es ≡ ds ++ fs = cc in
      let r : Parts config ds fs rest = walk_split config ds fs es rest w left in
      record {
        one = inner ++ (e, a) ∷ r.one;
        two = r.two;
        parts = ap (λ z. inner ++ (e, a) ∷ z) r.parts ∙ sym (append_assoc inner ((e, a) ∷ r.one) r.two);
        first_walk = subst (λ z. IsWalk c config (z ∷ ds) (inner ++ (e, a) ∷ r.one)) same (last e ds inner r.one a p i r.first_walk);
        second_walk = r.second_walk;
      }

  -- a walk of no node, and of one that is called last
  walk_of_none : (config : WalkConfig) (es : List IRNode) (cs : List Call) → IsWalk c config es cs → es ≡ [] → cs ≡ []
  walk_of_none config _ _ nothing h = refl
  walk_of_none config _ _ (skipped e es rest p w) h = cc
  walk_of_none config _ _ (first e es inner rest p i w) h = cc
  walk_of_none config _ _ (last e es inner rest a p i w) h = cc

  record OneLast (e : IRNode) (cs : List Call) : Type 0 where
    pub inner : List Call
    pub answer : WalkContinue
    pub parts : cs ≡ inner ++ (e, answer) ∷ []
    pub walk : IsWalk c (preset PostOrder Reverse) (reverse (nodes_in c e)) inner

  one_last : (e : IRNode) (es : List IRNode) (cs : List Call) → IsWalk c (preset PostOrder Reverse) es cs → es ≡ e ∷ [] → OneLast e cs
  one_last e _ _ nothing h = cc
  one_last e _ _ (skipped d es rest p w) h = absurd (never_first d p)
  one_last e _ _ (first d es inner rest p i w) h = absurd (never_first d p)
  one_last e _ _ (last d es inner rest a p i w) h =
      let same : d ≡ e = cc in
      let left : es ≡ [] = cc in
      let none : rest ≡ [] = walk_of_none (preset PostOrder Reverse) es rest w left in
      record {
        inner = inner;
        answer = a;
        parts = ap (λ z. inner ++ (d, a) ∷ z) none ∙ ap (λ z. inner ++ (z, a) ∷ []) same;
        walk = subst (λ z. IsWalk c (preset PostOrder Reverse) z inner) (reverse_members d ∙ ap (λ z. reverse (nodes_in c z)) same) i;
      }

  reversed : (es : List IRNode) (fs : List Call) → IsWalk c (preset PreOrder Forward) es fs → NeverSkips fs → (ds : List IRNode) (bs : List Call) → ds ≡ reverse es → IsWalk c (preset PostOrder Reverse) ds bs → called_nodes bs ≡ reverse (called_nodes fs)
  reversed _ _ nothing never ds bs h v = ap called_nodes (walk_of_none (preset PostOrder Reverse) ds bs v h)
  reversed _ _ (skipped e es rest p w) never ds bs h v = absurd (never e (contains_here (e, Skip) rest))
  reversed _ _ (first e es inner rest p i w) never ds bs h v =
      let s : Parts (preset PostOrder Reverse) (reverse es) (e ∷ []) bs = walk_split (preset PostOrder Reverse) (reverse es) (e ∷ []) ds bs v (h ∙ reverse-append (e ∷ []) es) in
      let o : OneLast e s.two = one_last e (e ∷ []) s.two s.second_walk refl in
      let later : called_nodes s.one ≡ reverse (called_nodes rest) = reversed es rest w (λ d m. never d (contains_there (e, Advance) (inner ++ rest) (d, Skip) (Contains-append_right inner rest (d, Skip) m))) (reverse es) s.one refl s.first_walk in
      let below : called_nodes o.inner ≡ reverse (called_nodes inner) = reversed (members c (preset PreOrder Forward) e) inner i (λ d m. never d (contains_there (e, Advance) (inner ++ rest) (d, Skip) (Contains-append_left inner rest (d, Skip) m))) (reverse (nodes_in c e)) o.inner (ap reverse (sym (forward_members e))) o.walk in
      let node : Call → IRNode = λ (call : Call). call.0 in
      ap called_nodes (s.parts ∙ ap (λ z. s.one ++ z) o.parts)
      ∙ map-append node s.one (o.inner ++ (e, o.answer) ∷ [])
      ∙ ap (λ z. called_nodes s.one ++ z) (map-append node o.inner ((e, o.answer) ∷ []))
      ∙ (λ k. later k ++ (below k ++ e ∷ []))
      ∙ sym (append_assoc (reverse (called_nodes rest)) (reverse (called_nodes inner)) (e ∷ []))
      ∙ ap (λ z. z ++ e ∷ []) (sym (reverse-append (called_nodes inner) (called_nodes rest)))
      ∙ sym (reverse-append (e ∷ []) (called_nodes inner ++ called_nodes rest))
      ∙ ap (λ z. reverse (e ∷ z)) (sym (map-append node inner rest))
  reversed _ _ (last e es inner rest a p i w) never ds bs h v = absurd (never_last e p)

  pub post_order_reverses : (x : IRNode) → IsReversedByPostOrder c x
  post_order_reverses x forward backward w never v = reversed (x ∷ []) forward w.nested never (x ∷ []) backward refl v.nested
