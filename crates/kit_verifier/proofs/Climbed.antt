-- Going up from an operation to the nearest module.
use Rattle.std.proofs.Common.{◌≡◌, ◌≢◌, ◌⊎◌, inl, inr, ⊎_elim, false, cond, List, [], ◌∷◌, Option, Some, None, IsSome, refl, sym, ap, ◌∙◌, subst}
use Rattle.ir_program.specs.Around.{StandsIn, IsWayUp, top, up}
use Rattle.ir_program.specs.Lists.{IsLiveNode, StandsInRegion, StandsInOperation, StandsInside, itself, in_block, in_region, in_operation}
use Rattle.ir_program.specs.Program.{Program, operation_at}
use Rattle.ir_program.specs.declared.handles.IRNode.{IRNode}
use Rattle.ir_program.specs.declared.handles.IRNode.TheVariants.{Operation as OperationNode, Region as RegionNode, BasicBlock as BlockNode}
use Rattle.ir_program.specs.declared.handles.Ptr.{Ptr}
use Rattle.ir_program.specs.declared.handles.Operation.{Operation}
use Rattle.ir_program.specs.declared.handles.Region.{Region}
use Rattle.ir_trees.specs.Stands.{ProgramTree, StandsFor}
use Rattle.kit_ops.specs.declared.kinds.KitOp.{KitOp}
use Rattle.kit_ops.specs.declared.kinds.KitOp.TheVariants.{Module}
use Rattle.kit_checks.specs.Located.{AreOuter, at_root, further, IsAroundIf}
use Rattle.kit_checks.specs.Reading.{OfSite}
use Rattle.kit_checks.specs.Sites.{Around}
use Rattle.kit_checks.specs.Words.{first_module, is_module, kind_of}
use Rattle.kit_checks.specs.World.{World}
use Rattle.kit_verifier.specs.Reading.{kind_at}
use Rattle.kit_verifier.specs.Scopes.{IsModuleAt, StandsIf, outer_of, with_outer}
use Rattle.kit_verifier.proofs.Read.{kind_is, kind_from}

no_module : (k : KitOp) → (k ≡ Module → ⊥) → is_module k ≡ false
no_module Module other = absurd (other refl)
no_module _ other = refl

module _ {O B : Type 0} (w : World O B) (c : Program O B) (root : Ptr Operation) where
  -- what is found from the operation on
  pub record FoundFrom (p : Ptr Operation) (found : Option (ProgramTree O B)) : Type 0 where
    pub tree : ProgramTree O B
    pub trees : List (ProgramTree O B)
    pub stands : StandsFor c p tree
    pub outer : AreOuter c root p trees
    pub found_is : found ≡ first_module w (tree ∷ trees)

  abbrev FoundFromRegion : Ptr Region → Option (ProgramTree O B) → Type 0
  FoundFromRegion r found = (p : Ptr Operation) × StandsInOperation c r p × FoundFrom p found

  -- from the entity on
  abbrev pub Ahead : IRNode → Option (ProgramTree O B) → Type 0
  Ahead (OperationNode p) found = FoundFrom p found
  Ahead (RegionNode r) found = FoundFromRegion r found
  Ahead (BlockNode b) found = (r : Ptr Region) × StandsInRegion c b r × FoundFromRegion r found

  past_operation : (p : Ptr Operation) (holder : IRNode) (tree : ProgramTree O B) (trees : List (ProgramTree O B)) (found : Option (ProgramTree O B)) → p ≢ root →
      ((d : IRNode) → StandsIn c (OperationNode p) d → d ≡ holder) → is_module (kind_of w tree) ≡ false → AreOuter c root p trees → found ≡ first_module w (tree ∷ trees) → Ahead holder found
  past_operation _ holder tree _ found other only plain at_root is = absurd (other refl)
  past_operation p holder tree _ found other only plain (further _ owner next rest ne owned stands outer) is =
      subst (λ d. Ahead d found) (only (BlockNode owned.block) owned.in_block) (
        owned.region,
        owned.in_region,
        (
          owner,
          owned.in_owner,
          record {
            tree = next;
            trees = rest;
            stands = stands;
            outer = outer;
            found_is = is ∙ ap (λ b. cond b (Some tree) (first_module w (next ∷ rest))) plain;
          },
        ),
      )

  -- a step up
  step : (x holder : IRNode) (found : Option (ProgramTree O B)) → x ≢ OperationNode root → ((d : IRNode) → StandsIn c x d → d ≡ holder) → IsModuleAt w c x None → Ahead x found → Ahead holder found
  step (OperationNode p) holder found other only plain a =
      past_operation p holder a.tree a.trees found (λ same. other (ap OperationNode same)) only
      (no_module (kind_of w a.tree) (λ is. plain p refl (kind_is w c p a.tree a.stands ∙ ap Some is))) a.outer a.found_is
  step (RegionNode r) holder found other only plain a = subst (λ d. Ahead d found) (only (OperationNode a.0) a.1) a.2
  step (BlockNode b) holder found other only plain a = subst (λ d. Ahead d found) (only (RegionNode a.0) a.1) a.2

  live_inside : (outer e : IRNode) → IsLiveNode c outer → StandsInside c outer e → IsLiveNode c e
  live_inside outer _ live itself = live
  live_inside outer _ live (in_block p b s i) = s.operation
  live_inside outer _ live (in_region b r s i) = s.block
  live_inside outer _ live (in_operation r p s i) = s.region

  root_or_held : (outer e : IRNode) → StandsInside c outer e → (outer ≡ e) ⊎ ((d : IRNode) × StandsIn c e d × StandsInside c outer d)
  root_or_held outer _ itself = inl refl
  root_or_held outer _ (in_block p b s i) = inr (BlockNode b, s, i)
  root_or_held outer _ (in_region b r s i) = inr (RegionNode r, s, i)
  root_or_held outer _ (in_operation r p s i) = inr (OperationNode p, s, i)

  first_is : (x e : IRNode) (was left : List IRNode) → was ≡ e ∷ left → IsWayUp c x was → x ≡ e
  first_is x e _ left is (top _ none) = cc
  first_is x e _ left is (up _ holder around stands only way) = cc

  module _ (op : Ptr Operation) where
    -- these are left of the way up, and what is found from there on is what is found in all
    pub record IsClimbing (left : List IRNode) : Type 0 where
      pub at : IRNode
      pub way : IsWayUp c at left
      pub inside : StandsInside c (OperationNode root) at
      pub ahead : OfSite c root op (λ s. Ahead at (first_module w (with_outer s)))

    pub outers : (o : Option (Around O B)) → IsAroundIf c root op o → AreOuter c root op (outer_of o)
    outers None at = subst (λ p. AreOuter c root p []) (sym at) at_root
    outers (Some a) at = further op at.owner a.owner a.outer at.other (record { block = at.block; region = at.region; in_block = at.in_block; in_region = at.in_region; in_owner = at.in_owner }) at.owner_is at.outer

    pub climb_begins : (left : List IRNode) → IsWayUp c (OperationNode op) left → StandsInside c (OperationNode root) (OperationNode op) → IsClimbing left
    climb_begins left way inside = record {
      at = OperationNode op;
      way = way;
      inside = inside;
      ahead = λ s at. record { tree = s.op; trees = outer_of s.around; stands = at.tree; outer = outers s.around at.around; found_is = refl };
    }

    pub never_ends : (left : List IRNode) → left ≡ [] → IsClimbing left → ⊥
    never_ends left is h = no h.at left is h.way
      where
        no : (x : IRNode) (ys : List IRNode) → ys ≡ [] → IsWayUp c x ys → ⊥
        no x _ is (top _ none) = cc
        no x _ is (up _ holder around stands only way) = cc

    pub next_is_live : (was left : List IRNode) (e : IRNode) → IsSome (operation_at c root) → was ≡ e ∷ left → IsClimbing was → IsLiveNode c e
    next_is_live was left e live is h = subst (IsLiveNode c) (first_is h.at e was left is h.way) (live_inside (OperationNode root) h.at live h.inside)

    pub climb_goes_on : (was left : List IRNode) (e : IRNode) → was ≡ e ∷ left → IsModuleAt w c e None → e ≢ OperationNode root → IsClimbing was → IsClimbing left
    climb_goes_on was left e is plain other h = on h.at was is h.way h.inside h.ahead
      where
        on : (x : IRNode) (ys : List IRNode) → ys ≡ e ∷ left → IsWayUp c x ys → StandsInside c (OperationNode root) x → OfSite c root op (λ s. Ahead x (first_module w (with_outer s))) → IsClimbing left
        on x _ is (top _ none) inside ahead = ⊎_elim
            (λ same. let first : x ≡ e = cc in absurd (other (sym (same ∙ first))))
            (λ held. absurd (none held.0 held.1))
            (root_or_held (OperationNode root) x inside)
        on x _ is (up _ holder around stands only way) inside ahead =
            let first : x ≡ e = cc in
            let rest : around ≡ left = cc in
            let within : StandsInside c (OperationNode root) holder = ⊎_elim
            (λ same. absurd (other (sym (same ∙ first))))
            (λ (held : (d : IRNode) × StandsIn c x d × StandsInside c (OperationNode root) d). subst (StandsInside c (OperationNode root)) (only held.0 held.1) held.2)
            (root_or_held (OperationNode root) x inside) in
            record {
              at = holder;
              way = subst (IsWayUp c holder) rest way;
              inside = within;
              ahead = λ s at. step x holder (first_module w (with_outer s)) (λ same. other (sym first ∙ same)) only (subst (λ z. IsModuleAt w c z None) (sym first) plain) (ahead s at);
            }

    found_at : (p : Ptr Operation) (found : Option (ProgramTree O B)) → kind_at w c p ≡ Some Module → FoundFrom p found → StandsIf c found (Some p)
    found_at p found is a =
        let here : found ≡ Some a.tree = a.found_is ∙ ap (λ k. cond (is_module k) (Some a.tree) (first_module w a.trees)) (kind_from w c p a.tree a.stands Module is) in
        subst (λ f. StandsIf c f (Some p)) (sym here) a.stands

    pub climb_finds : (was left : List IRNode) (e : IRNode) (p : Ptr Operation) → was ≡ e ∷ left → IsModuleAt w c e (Some p) → IsClimbing was → OfSite c root op (λ s. StandsIf c (first_module w (with_outer s)) (Some p))
    climb_finds was left e p is found h s at =
        found_at p (first_module w (with_outer s)) found.1
        (subst (λ x. Ahead x (first_module w (with_outer s))) (first_is h.at e was left is h.way ∙ found.0) (h.ahead s at))

    none_outside : (p : Ptr Operation) (trees : List (ProgramTree O B)) → p ≡ root → AreOuter c root p trees → trees ≡ []
    none_outside _ _ same at_root = refl
    none_outside _ _ same (further _ owner next rest ne owned stands outer) = absurd (ne same)

    pub climb_ends : (was left : List IRNode) (e : IRNode) → was ≡ e ∷ left → IsModuleAt w c e None → e ≡ OperationNode root → IsClimbing was → OfSite c root op (λ s. StandsIf c (first_module w (with_outer s)) None)
    climb_ends was left e is plain same h s at =
        let a : FoundFrom root (first_module w (with_outer s)) = subst (λ x. Ahead x (first_module w (with_outer s))) (first_is h.at e was left is h.way ∙ same) (h.ahead s at) in
        let no : is_module (kind_of w a.tree) ≡ false = no_module (kind_of w a.tree) (λ k. plain root same (kind_is w c root a.tree a.stands ∙ ap Some k)) in
        let none : first_module w (with_outer s) ≡ None = a.found_is ∙ (λ i. cond (no i) (Some a.tree) (first_module w (none_outside root a.trees refl a.outer i))) in
        subst (λ f. StandsIf c f None) (sym none) tt
