-- The way up from an entity has all that is around it, the nearer ones first.
use Rattle.std.proofs.Common.{◌≡◌, ◌⊎◌, inl, inr, ⊎_elim, List, [], ◌∷◌, ◌++◌, refl, sym, ap, subst, ◌∙◌, append_assoc}
use Rattle.ir_queries.specs.Ancestors.{IsNearest, HoldsOfNone}
use Rattle.ir_program.specs.Around.{IsWayUp, top, up, StandsIn}
use Rattle.ir_program.specs.Lists.{StandsInside, itself, in_block, in_region, in_operation, IsLiveNode}
use Rattle.ir_program.specs.Program.{Program}
use Rattle.ir_program.specs.declared.handles.BasicBlock.{BasicBlock}
use Rattle.ir_program.specs.declared.handles.IRNode.{IRNode}
use Rattle.ir_program.specs.declared.handles.IRNode.TheVariants.{Operation as OperationNode, Region as RegionNode, BasicBlock as BlockNode}
use Rattle.ir_program.specs.declared.handles.Operation.{Operation}
use Rattle.ir_program.specs.declared.handles.Ptr.{Ptr}

-- the entity is one of these
abbrev pub IsAmong : IRNode → List IRNode → Type 0
IsAmong d [] = ⊥
IsAmong d (x ∷ xs) = (d ≡ x) ⊎ IsAmong d xs

among_last : (d y : IRNode) (xs : List IRNode) → IsAmong d (xs ++ y ∷ []) → IsAmong d xs ⊎ (d ≡ y)
among_last d y [] h = ⊎_elim (λ e. inr e) (λ n. absurd n) h
among_last d y (x ∷ xs) h = ⊎_elim (λ e. inl (inl e)) (λ t. ⊎_elim (λ n. inl (inr n)) (λ e. inr e) (among_last d y xs t)) h

behind_none : (done : List IRNode) → done ++ [] ≡ done
behind_none [] = refl
behind_none (d ∷ done) = ap (λ r. d ∷ r) (behind_none done)

something : (done : List IRNode) (x : IRNode) (rest : List IRNode) → [] ≡ done ++ x ∷ rest → ⊥
something [] x rest is = cc
something (d ∷ done) x rest is = let s : [] ≡ d ∷ (done ++ x ∷ rest) = is in cc

module _ {O B : Type 0} (c : Program O B) where
  -- what stands inside another is it, or stands in something that does
  one_step : (d e : IRNode) → StandsInside c d e → (d ≡ e) ⊎ ((f : IRNode) × StandsIn c e f × StandsInside c d f)
  one_step d _ itself = inl refl
  one_step d _ (in_block p b s w) = inr (BlockNode b, s, w)
  one_step d _ (in_region b r s w) = inr (RegionNode r, s, w)
  one_step d _ (in_operation r p s w) = inr (OperationNode p, s, w)

  further_in : (d e f : IRNode) → StandsIn c e f → StandsInside c d f → StandsInside c d e
  further_in d (OperationNode p) (BlockNode b) s w = in_block p b s w
  further_in d (BlockNode b) (RegionNode r) s w = in_region b r s w
  further_in d (RegionNode r) (OperationNode p) s w = in_operation r p s w
  further_in d (OperationNode p) (OperationNode q) s w = absurd s
  further_in d (OperationNode p) (RegionNode r) s w = absurd s
  further_in d (BlockNode b) (OperationNode q) s w = absurd s
  further_in d (BlockNode b) (BlockNode k) s w = absurd s
  further_in d (RegionNode r) (BlockNode b) s w = absurd s
  further_in d (RegionNode r) (RegionNode k) s w = absurd s

  -- what is around something that is there is there
  pub around_live : (d e : IRNode) → StandsInside c d e → IsLiveNode c e → IsLiveNode c d
  around_live d _ itself live = live
  around_live d _ (in_block p b s w) live = around_live d (BlockNode b) w s.block
  around_live d _ (in_region b r s w) live = around_live d (RegionNode r) w s.region
  around_live d _ (in_operation r p s w) live = around_live d (OperationNode p) w s.operation

  -- all that is around it is on the way
  all_on_way : (e : IRNode) (es : List IRNode) → IsWayUp c e es → (d : IRNode) → StandsInside c d e → IsAmong d es
  all_on_way _ _ (top e none) d w = ⊎_elim (λ is. inl is) (λ t. absurd (none t.0 t.1)) (one_step d e w)
  all_on_way _ _ (up e f es s only more) d w = ⊎_elim
      (λ is. inl is)
      (λ t. inr (all_on_way f es more d (subst (λ z. StandsInside c d z) (only t.0 t.1) t.2)))
      (one_step d e w)

  -- what is on the way is around it
  on_way : (e : IRNode) (es : List IRNode) → IsWayUp c e es → (done rest : List IRNode) (x : IRNode) → es ≡ done ++ x ∷ rest → StandsInside c x e
  on_way _ _ (top e none) [] rest x is = let s : e ∷ [] ≡ x ∷ rest = is in let same : e ≡ x = cc in subst (λ z. StandsInside c x z) (sym same) itself
  on_way _ _ (top e none) (y ∷ done) rest x is = let s : e ∷ [] ≡ y ∷ (done ++ x ∷ rest) = is in absurd (something done x rest (cc))
  on_way _ _ (up e f es s only more) [] rest x is = let t : e ∷ es ≡ x ∷ rest = is in let same : e ≡ x = cc in subst (λ z. StandsInside c x z) (sym same) itself
  on_way _ _ (up e f es s only more) (y ∷ done) rest x is = let t : e ∷ es ≡ y ∷ (done ++ x ∷ rest) = is in further_in x e f s (on_way f es more done rest x (cc))

  -- what is around it came before on the way, or is around what comes next
  before_or_around : (e : IRNode) (es : List IRNode) → IsWayUp c e es → (done rest : List IRNode) (x : IRNode) → es ≡ done ++ x ∷ rest → (d : IRNode) → StandsInside c d e → IsAmong d done ⊎ StandsInside c d x
  before_or_around _ _ (top e none) [] rest x is d w = let s : e ∷ [] ≡ x ∷ rest = is in let same : e ≡ x = cc in inr (subst (λ z. StandsInside c d z) same w)
  before_or_around _ _ (top e none) (y ∷ done) rest x is d w = let s : e ∷ [] ≡ y ∷ (done ++ x ∷ rest) = is in absurd (something done x rest (cc))
  before_or_around _ _ (up e f es s only more) [] rest x is d w = let t : e ∷ es ≡ x ∷ rest = is in let same : e ≡ x = cc in inr (subst (λ z. StandsInside c d z) same w)
  before_or_around _ _ (up e f es s only more) (y ∷ done) rest x is d w =
      let t : e ∷ es ≡ y ∷ (done ++ x ∷ rest) = is in
      let same : e ≡ y = cc in
      let tail : es ≡ done ++ x ∷ rest = cc in
      ⊎_elim
      (λ here. inl (inl (here ∙ same)))
      (λ k. ⊎_elim (λ n. inl (inr n)) (λ v. inr v) (before_or_around f es more done rest x tail d (subst (λ z. StandsInside c d z) (only k.0 k.1) k.2)))
      (one_step d e w)

-- half way up from e: the fact holds of none of the entities that were met
pub record Climbs {O B E : Type 0} (node : Ptr E → IRNode) (c : Program O B) (e : IRNode) (Holds : Ptr E → Type 0) (done rest : List IRNode) : Type 0 where
  pub way : IsWayUp c e (done ++ rest)
  pub unmet : (x : Ptr E) → IsAmong (node x) done → Holds x → ⊥

module _ {O B E : Type 0} {node : Ptr E → IRNode} {c : Program O B} {e : IRNode} {Holds : Ptr E → Type 0} {done rest : List IRNode} (climbs : Climbs node c e Holds done rest) where
  -- the fact holds of none where all were met
  pub none : rest ≡ [] → HoldsOfNone node c e Holds
  none is other w h = climbs.unmet other (all_on_way c e done (subst (λ es. IsWayUp c e es) (ap (λ r. done ++ r) is ∙ behind_none done) climbs.way) (node other) w) h

  module _ {next : List IRNode} {y : IRNode} (steps : rest ≡ y ∷ next) where
    -- the next one is around e
    met : StandsInside c y e
    met = on_way c e (done ++ rest) climbs.way done next y (ap (λ r. done ++ r) steps)

    -- it is there
    pub met_live : (z : IRNode) → y ≡ z → IsLiveNode c e → IsLiveNode c z
    met_live z is live = subst (λ (k : IRNode). IsLiveNode c k) is (around_live c y e met live)

    -- it is the nearest one, where the fact holds of it
    pub found : (x : Ptr E) → y ≡ node x → Holds x → IsNearest node c e Holds x
    found x is holds = record {
      around = subst (λ (k : IRNode). StandsInside c k e) is met;
      holds = holds;
      nearest = λ other w h. ⊎_elim
          (λ before. absurd (climbs.unmet other before h))
          (λ v. subst (λ (k : IRNode). StandsInside c (node other) k) is v)
          (before_or_around c e (done ++ rest) climbs.way done next y (ap (λ r. done ++ r) steps) (node other) w);
    }

    -- one further, where the fact does not hold of it
    pub passed : ((x : Ptr E) → y ≡ node x → Holds x → ⊥) → Climbs node c e Holds (done ++ y ∷ []) next
    passed fails = record {
      way = subst (λ es. IsWayUp c e es) (ap (λ r. done ++ r) steps ∙ sym (append_assoc done (y ∷ []) next)) climbs.way;
      unmet = λ x n h. ⊎_elim (λ before. climbs.unmet x before h) (λ same. fails x (sym same) h) (among_last (node x) y done n);
    }

-- a fact that does not hold of an operation, or of a block, holds of none that is the same
pub not_operation : (P : Ptr Operation → Type 0) (y : IRNode) (p : Ptr Operation) → y ≡ OperationNode p → (P p → ⊥) → (x : Ptr Operation) → y ≡ OperationNode x → P x → ⊥
not_operation P y p is fails x same h = let one : OperationNode x ≡ OperationNode p = sym same ∙ is in let e : x ≡ p = cc in fails (subst P e h)

pub not_block : (P : Ptr BasicBlock → Type 0) (y : IRNode) (b : Ptr BasicBlock) → y ≡ BlockNode b → (P b → ⊥) → (x : Ptr BasicBlock) → y ≡ BlockNode x → P x → ⊥
not_block P y b is fails x same h = let one : BlockNode x ≡ BlockNode b = sym same ∙ is in let e : x ≡ b = cc in fails (subst P e h)
