-- Operands and successors go as the walk over all inside an entity goes on.
use Rattle.std.proofs.Common.{◌≡◌, ◌≢◌, ◌↔◌, ℕ, suc, ⊎_elim, inl, inr, Bool, true, false, cond, List, [], ◌∷◌, length, Option, Some, None, IsSome, IfSome, option_map, refl, sym, ap, ◌∙◌, subst, arith, ◌<◌}
use Rattle.std.proofs.lemmas.Bool.{cases_eq}
use Rattle.ir_entities.specs.declared.forest.Place.{Place}
use Rattle.ir_entities.specs.declared.forest.Place.TheVariants.{Op, Block, Region as RegionPlace}
use Rattle.ir_arena.specs.Arena.{get, held, slot_at}
use Rattle.ir_entities.specs.Shape.{IsInside, itself}
use Rattle.ir_entities.specs.Forest.{Forest, HoldsInUse, shape_of, pointer_to}
use Rattle.ir_entities.specs.Walk.{walk, levels, same_place, drop_to_place, walk_of, places_from, AreOnce, IsOneOf}
use Rattle.ir_arena.proofs.Slots.{Live, live_slot}
use Rattle.ir_program.specs.Handles.{handle}
use Rattle.ir_program.specs.Program.{Program, operation_at, operation_of}
use Rattle.ir_program.specs.Edits.{EditsOperation}
use Rattle.ir_program.specs.Drops.{without_uses, KeepsFrame, DropsInside, DropsAt}
use Rattle.ir_program.specs.declared.handles.Ptr.{Ptr}
use Rattle.ir_program.specs.declared.handles.Operation.{Operation}
use Rattle.ir_program.specs.declared.records.OperationRecord.{OperationRecord}
use Rattle.ir_program.specs.declared.records.BlockRecord.{BlockRecord}
use Rattle.ir_program.specs.declared.records.RegionRecord.{RegionRecord}
use Rattle.ir_program.proofs.made.Lent.{same_key}
use Rattle.ir_program.proofs.made.Frames.{same_handle, same_or_not}
use Rattle.ir_program.proofs.lists.Slotted.{pointer_live}

module _ {O B : Type 0} where
  -- so it is where the walk has come to `rest`
  pub record DropsTo (old new : Program O B) (x : Place) (rest : List Place) : Type 0 where
    pub cleared : (p : Ptr Operation) → IsInside (shape_of old.forest) x (Op p.key.slot) → (IsOneOf (Op p.key.slot) rest → ⊥) → operation_at new p ≡ option_map without_uses (operation_at old p)
    pub kept : (p : Ptr Operation) → IsOneOf (Op p.key.slot) rest → operation_at new p ≡ operation_at old p
    pub outside : (p : Ptr Operation) → (IsInside (shape_of old.forest) x (Op p.key.slot) → ⊥) → operation_at new p ≡ operation_at old p
    pub frame : KeepsFrame old new

  pub frame-same : (c : Program O B) → KeepsFrame c c
  frame-same c = record {
    forest = refl;
    slots = refl;
    used = λ i. refl;
    versions = λ i. refl;
    definitions = λ e. refl;
    values = refl;
    targets = refl;
    blocks = λ q. refl;
    regions = λ q. refl;
    erased = record { operations = λ k s. s; blocks = λ k s. s; regions = λ k s. s };
    counter = refl;
  }

  pub frame-then : (a b c : Program O B) → KeepsFrame a b → KeepsFrame b c → KeepsFrame a c
  frame-then a b c f g = record {
    forest = g.forest ∙ ap (λ (x : Forest (OperationRecord O) (BlockRecord B) RegionRecord). record x { ops = c.forest.ops }) f.forest;
    slots = g.slots ∙ f.slots;
    used = λ i. g.used i ∙ f.used i;
    versions = λ i. g.versions i ∙ f.versions i;
    definitions = λ e. g.definitions e ∙ f.definitions e;
    values = g.values ∙ f.values;
    targets = g.targets ∙ f.targets;
    blocks = λ q. g.blocks q ∙ f.blocks q;
    regions = λ q. g.regions q ∙ f.regions q;
    erased = record { operations = λ k s. g.erased.operations k (f.erased.operations k s); blocks = λ k s. g.erased.blocks k (f.erased.blocks k s); regions = λ k s. g.erased.regions k (f.erased.regions k s) };
    counter = g.counter ∙ f.counter;
  }

  pub frame-shape : (a b : Program O B) → KeepsFrame a b → shape_of b.forest ≡ shape_of a.forest
  frame-shape a b f = ap shape_of f.forest

  pub frame-walk : (a b : Program O B) (x : Place) → KeepsFrame a b → walk_of b.forest x ≡ walk_of a.forest x
  unfolding walk_of
  frame-walk a b x f = ap (λ n. walk (suc (suc (levels n))) (shape_of b.forest) (x ∷ [])) f.slots ∙ ap (λ s. walk (suc (suc (levels (length a.forest.ops)))) s (x ∷ [])) (frame-shape a b f)

  pub frame-used : (a b : Program O B) (e : Place) → KeepsFrame a b → HoldsInUse a.forest e → HoldsInUse b.forest e
  frame-used a b (Op i) f used = f.used i ∙ used
  frame-used a b (Block i) f used = subst (λ bs. IsSome (held bs i)) (sym (ap (λ (g : Forest _ _ _). g.blocks) f.forest)) used
  frame-used a b (RegionPlace i) f used = subst (λ rs. IsSome (held rs i)) (sym (ap (λ (g : Forest _ _ _). g.regions) f.forest)) used

  module _ (old new later : Program O B) (x : Place) (at : Place) (rest : List Place) (once : AreOnce (at ∷ rest)) (done : DropsTo old new x (at ∷ rest)) where
    -- no operation stands here
    pub drop-passed : ((i : ℕ) → at ≢ Op i) → DropsTo old new x rest
    drop-passed other = record {
      cleared = λ p inside free. done.cleared p inside (λ h. ⊎_elim (λ e. other p.key.slot (sym e)) free h);
      kept = λ p h. done.kept p (inr h);
      outside = done.outside;
      frame = done.frame;
    }

    -- the operation that stands here is cleared
    pub drop-cleared : (i : ℕ) → at ≡ Op i → IsInside (shape_of old.forest) x at → (p : Ptr Operation) → p.key.slot ≡ i → IsSome (get new.forest.ops p.key) → EditsOperation new later p without_uses → KeepsFrame new later → DropsTo old later x rest
    drop-cleared i is inside-at p slot live edits frame = record {
      cleared = λ q inside free. ⊎_elim
          (λ (e : q.key.slot ≡ i). ⊎_elim
          (λ (same : q ≡ p).
          let was : operation_at new p ≡ operation_at old p = done.kept p (inl (ap Op slot ∙ sym is)) in
          subst (λ z. operation_at later z ≡ option_map without_uses (operation_at old z)) (sym same) (edits.edited ∙ ap (option_map without_uses) was))
          (λ ne. edits.others q ne ∙ done.kept q (inl (ap Op e ∙ sym is)) ∙ gone q e ne)
          (same_or_not q p))
          (λ n. edits.others q (λ s. n (ap (λ (z : Ptr Operation). z.key.slot) s ∙ slot)) ∙ done.cleared q inside (λ h. ⊎_elim (λ s. n (op_slot (s ∙ is))) free h))
          (cases_eq q.key.slot i);
      kept = λ q h. edits.others q (λ s. once.0 (subst (λ z. IsOneOf z rest) (ap Op (ap (λ (z : Ptr Operation). z.key.slot) s ∙ slot) ∙ sym is) h)) ∙ done.kept q (inr h);
      outside = λ q out. edits.others q (λ s. out (subst (IsInside (shape_of old.forest) x) (is ∙ ap Op (sym slot) ∙ ap (λ (z : Ptr Operation). Op z.key.slot) (sym s)) inside-at)) ∙ done.outside q out;
      frame = frame-then old new later done.frame frame;
    }
      where
        op_slot : {j k : ℕ} → Op j ≡ Op k → j ≡ k
        op_slot {j} {k} e = cc

        gone : (q : Ptr Operation) → q.key.slot ≡ i → q ≢ p → operation_at old q ≡ option_map without_uses (operation_at old q)
        gone q e ne = by (get old.forest.ops q.key) refl
          where
            by : (o : Option _) → get old.forest.ops q.key ≡ o → operation_at old q ≡ option_map without_uses (operation_at old q)
            by None none = let n : operation_at old q ≡ None = ap (option_map (operation_of old q)) none in n ∙ sym (ap (option_map without_uses) n)
            by (Some o) there =
                let mine : Live old.forest.ops q.key = live_slot old.forest.ops q.key (rw there refl) in
                let his : Live new.forest.ops p.key = live_slot new.forest.ops p.key live in
                let version : q.key.version ≡ p.key.version = sym mine.version ∙ sym (done.frame.versions q.key.slot) ∙ ap (λ j. (slot_at new.forest.ops j).version) (e ∙ sym slot) ∙ his.version in
                absurd (ne (same_handle q p (same_key q.key p.key (e ∙ sym slot) version)))

  -- one step of the walk
  pub drop-step : (old new later : Program O B) (x : Place) (at : Place) (rest : List Place) → AreOnce (at ∷ rest) → IsInside (shape_of old.forest) x at → HoldsInUse new.forest at → DropsTo old new x (at ∷ rest) → DropsAt new later at → DropsTo old later x rest
  drop-step old new later x (Op i) rest once inside used done drops =
      drop-cleared old new later x (Op i) rest once done i refl inside (handle (pointer_to new.forest.ops i)) refl (pointer_live new.forest.ops i used) (drops.cleared i refl) drops.frame
  drop-step old new later x (Block i) rest once inside used done drops =
      subst (λ z. DropsTo old z x rest) (sym (drops.passed (λ j e. let h : Block i ≡ Op j = e in cc))) (drop-passed old new later x (Block i) rest once done (λ j e. let h : Block i ≡ Op j = e in cc))
  drop-step old new later x (RegionPlace i) rest once inside used done drops =
      subst (λ z. DropsTo old z x rest) (sym (drops.passed (λ j e. let h : RegionPlace i ≡ Op j = e in cc))) (drop-passed old new later x (RegionPlace i) rest once done (λ j e. let h : RegionPlace i ≡ Op j = e in cc))

  -- the walk is over
  pub drop-over : (old new : Program O B) (x : Place) → DropsTo old new x [] → DropsInside old new x
  drop-over old new x done = record { inside = λ p inside. done.cleared p inside (λ h. h); outside = done.outside; frame = done.frame }

  -- before the first step
  pub drop-begins : (c : Program O B) (x : Place) (rest : List Place) → ((e : Place) → IsInside (shape_of c.forest) x e → IsOneOf e rest) → DropsTo c c x rest
  drop-begins c x rest all = record { cleared = λ p inside free. absurd (free (all (Op p.key.slot) inside)); kept = λ p h. refl; outside = λ p out. refl; frame = frame-same c }

either_once : (b : Bool) (xs ys : List Place) → AreOnce xs → AreOnce ys → AreOnce (cond b xs ys)
either_once true xs ys h g = h
either_once false xs ys h g = g

-- what follows in a list without repetition has none
pub once-from : (o : Option Place) (es : List Place) → AreOnce es → AreOnce (places_from o es)
once-from None es once = tt
once-from (Some e) es once = by es once
  where
    by : (xs : List Place) → AreOnce xs → AreOnce (places_from (Some e) xs)
    by [] h = tt
    by (y ∷ xs) h = either_once (same_place e y) (y ∷ xs) (drop_to_place e xs) h (by xs h.1)

module _ {O B : Type 0} where
  -- what holds where the walk has come to `at`
  abbrev pub HasCome : Program O B → Program O B → Place → Option Place → Type 0
  HasCome old new x at =
      DropsTo old new x (places_from at (walk_of old.forest x))
      × IfSome at (λ k. HoldsInUse new.forest k × IsInside (shape_of new.forest) x k)
      × AreOnce (places_from at (walk_of old.forest x))

  pub come-first : (f : Forest (OperationRecord O) (BlockRecord B) RegionRecord) (c : Program O B) (x : Place) → f ≡ c.forest → HoldsInUse c.forest x → AreOnce (walk_of f x)
      → ((e : Place) → IsOneOf e (walk_of f x) ↔ IsInside (shape_of f) x e) → places_from (Some x) (walk_of f x) ≡ walk_of f x → HasCome c c x (Some x)
  come-first f c x seen used once all begins =
      let once' : AreOnce (walk_of c.forest x) = subst (λ g. AreOnce (walk_of g x)) seen once in
      let begins' : places_from (Some x) (walk_of c.forest x) ≡ walk_of c.forest x = subst (λ g. places_from (Some x) (walk_of g x) ≡ walk_of g x) seen begins in
      let all' : (e : Place) → IsOneOf e (walk_of c.forest x) ↔ IsInside (shape_of c.forest) x e = subst (λ g. (e : Place) → IsOneOf e (walk_of g x) ↔ IsInside (shape_of g) x e) seen all in
      (drop-begins c x (places_from (Some x) (walk_of c.forest x)) (λ e i. subst (IsOneOf e) (sym begins') ((all' e).1 i)), (used, itself), once-from (Some x) (walk_of c.forest x) once')

  module _ (old new later : Program O B) (x place : Place) (at next : Option Place) (is : at ≡ Some place) (come : HasCome old new x at) (drops : DropsAt new later place)
      (f : Forest (OperationRecord O) (BlockRecord B) RegionRecord) (seen : f ≡ later.forest)
      (rest : places_from (Some place) (walk_of f x) ≡ place ∷ places_from next (walk_of f x))
      (inside : IfSome next (λ k. HoldsInUse f k × IsInside (shape_of f) x k)) where
    same-walk : walk_of f x ≡ walk_of old.forest x
    same-walk = ap (λ g. walk_of g x) seen ∙ frame-walk old later x (frame-then old new later come.0.frame drops.frame)

    goes-on : places_from at (walk_of old.forest x) ≡ place ∷ places_from next (walk_of old.forest x)
    goes-on = ap (λ o. places_from o (walk_of old.forest x)) is ∙ subst (λ w. places_from (Some place) w ≡ place ∷ places_from next w) same-walk rest

    stands : HoldsInUse new.forest place × IsInside (shape_of new.forest) x place
    stands = subst (λ o. IfSome o (λ k. HoldsInUse new.forest k × IsInside (shape_of new.forest) x k)) is come.1

    once-here : AreOnce (place ∷ places_from next (walk_of old.forest x))
    once-here = subst AreOnce goes-on come.2

    pub come-next : HasCome old later x next
    come-next = (
      drop-step old new later x place (places_from next (walk_of old.forest x)) once-here (subst (λ s. IsInside s x place) (frame-shape old new come.0.frame) stands.1) stands.0 (subst (DropsTo old new x) goes-on come.0) drops,
      subst (λ g. IfSome next (λ k. HoldsInUse g k × IsInside (shape_of g) x k)) seen inside,
      once-here.1,
    )

    pub come-less : length (places_from next (walk_of old.forest x)) < length (places_from at (walk_of old.forest x))
    come-less = let e : length (places_from at (walk_of old.forest x)) ≡ length (place ∷ places_from next (walk_of old.forest x)) = ap length goes-on in omega (arith, e)
