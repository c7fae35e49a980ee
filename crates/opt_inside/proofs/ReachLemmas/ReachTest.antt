-- It can be told which blocks of a tree are reached.
use Rattle.std.proofs.Common.{◌≡◌, ◌⊎◌, inl, inr, ⊎_elim, Bool, true, false, List, [], ◌∷◌, ◌++◌, refl, sym, ap, subst}
use Rattle.ir_program.specs.declared.handles.Ptr.{Ptr}
use Rattle.ir_program.specs.declared.handles.BasicBlock.{BasicBlock}
use Rattle.ir_trees.specs.Stands.{ProgramTree}
use Rattle.ir_trees.proofs.Members.{has_front, has_back, has_either}
use Rattle.opt_trees.specs.Occurrences.{Has, occurrences_of, block_occurrences_of}
use Rattle.opt_trees.specs.Simplify.{IsReached, entry, further}
use Rattle.opt_inside.specs.Occurring.{Found, FoundBlock}
use Rattle.opt_inside.proofs.Told.{Told, truth, truth_yes, truth_of, told_both, same_handle}
use Rattle.opt_inside.specs.reach.Fates.{HasReachTest}

-- an edge between blocks
record Edge : Type 0 where
  from : Ptr BasicBlock
  to : Ptr BasicBlock

-- edges lead to the block from one of which P holds
data IsLedTo (P : Ptr BasicBlock → Type 0) (edges : List Edge) : Ptr BasicBlock → Type 0 where
  begins : (b : Ptr BasicBlock) → P b → IsLedTo P edges b
  goes_on : (e : Edge) → IsLedTo P edges e.from → Has e edges → IsLedTo P edges e.to

-- of paths with one edge more: those without it, and those that lead to it and on from it
led_to_more : (P : Ptr BasicBlock → Type 0) (e : Edge) (edges : List Edge) (b : Ptr BasicBlock) → IsLedTo P edges b → IsLedTo P (e ∷ edges) b
led_to_more P e edges _ (begins b p) = begins b p
led_to_more P e edges _ (goes_on f l has) = goes_on f (led_to_more P e edges f.from l) (inr has)

led_over : (P : Ptr BasicBlock → Type 0) (e : Edge) (edges : List Edge) → IsLedTo P (e ∷ edges) e.from → (b : Ptr BasicBlock) → IsLedTo (λ a. a ≡ e.to) edges b → IsLedTo P (e ∷ edges) b
led_over P e edges there _ (begins b p) = subst (IsLedTo P (e ∷ edges)) (sym p) (goes_on e there (inl refl))
led_over P e edges there _ (goes_on f l has) = goes_on f (led_over P e edges there f.from l) (inr has)

led_to_split : (P : Ptr BasicBlock → Type 0) (e : Edge) (edges : List Edge) (b : Ptr BasicBlock) → IsLedTo P (e ∷ edges) b → IsLedTo P edges b ⊎ (IsLedTo P edges e.from × IsLedTo (λ a. a ≡ e.to) edges b)
led_to_split P e edges _ (begins b p) = inl (begins b p)
led_to_split P e edges _ (goes_on f l has) = ⊎_elim
    (λ (same : f ≡ e). ⊎_elim
    (λ (d : IsLedTo P edges f.from). inr (subst (IsLedTo P edges) (ap (λ (x : Edge). x.from) same) d, begins f.to (ap (λ (x : Edge). x.to) same)))
    (λ (o : IsLedTo P edges e.from × IsLedTo (λ a. a ≡ e.to) edges f.from). inr (o.0, begins f.to (ap (λ (x : Edge). x.to) same)))
    (led_to_split P e edges f.from l))
    (λ (more : Has f edges). ⊎_elim
    (λ (d : IsLedTo P edges f.from). inl (goes_on f d more))
    (λ (o : IsLedTo P edges e.from × IsLedTo (λ a. a ≡ e.to) edges f.from). inr (o.0, goes_on f o.1 more))
    (led_to_split P e edges f.from l))
    has

led_nowhere : (P : Ptr BasicBlock → Type 0) (b : Ptr BasicBlock) → IsLedTo P [] b → P b
led_nowhere P _ (begins b p) = p
led_nowhere P _ (goes_on e l has) = absurd has

-- so it can be told where edges lead
told_led : (edges : List Edge) (P : Ptr BasicBlock → Type 0) → ((b : Ptr BasicBlock) → Told (P b)) → (b : Ptr BasicBlock) → Told (IsLedTo P edges b)
told_led [] P told b = ⊎_elim (λ (p : P b). inl (begins b p)) (λ (n : P b → ⊥). inr (λ l. n (led_nowhere P b l))) (told b)
told_led (e ∷ edges) P told b = ⊎_elim
    (λ (d : IsLedTo P edges b). inl (led_to_more P e edges b d))
    (λ (n : IsLedTo P edges b → ⊥). ⊎_elim
    (λ (o : IsLedTo P edges e.from × IsLedTo (λ a. a ≡ e.to) edges b). inl (led_over P e edges (led_to_more P e edges e.from o.0) b o.1))
    (λ (m : IsLedTo P edges e.from × IsLedTo (λ a. a ≡ e.to) edges b → ⊥). inr (λ l. ⊎_elim n m (led_to_split P e edges b l)))
    (told_both (told_led edges P told e.from) (told_led edges (λ a. a ≡ e.to) (λ a. same_handle a e.to) b)))
    (told_led edges P told b)

told_true : (b : Bool) → Told (b ≡ true)
told_true true = inl refl
told_true false = inr (λ e. cc)

-- the edges of an operation in a block, with these successors
abbrev edges_to : Ptr BasicBlock → List (Ptr BasicBlock) → List Edge
edges_to b [] = []
edges_to b (s ∷ ss) = record { from = b; to = s } ∷ edges_to b ss

edge_to : (b : Ptr BasicBlock) (ss : List (Ptr BasicBlock)) (s : Ptr BasicBlock) → Has s ss → Has (record { from = b; to = s }) (edges_to b ss)
edge_to b [] s has = absurd has
edge_to b (x ∷ ss) s has = ⊎_elim (λ (e : s ≡ x). inl (ap (λ z. record { from = b; to = z }) e)) (λ more. inr (edge_to b ss s more)) has

to_edge : (b : Ptr BasicBlock) (ss : List (Ptr BasicBlock)) (e : Edge) → Has e (edges_to b ss) → (b ≡ e.from) × Has e.to ss
to_edge b [] e has = absurd has
to_edge b (x ∷ ss) e has = ⊎_elim
    (λ (s : e ≡ record { from = b; to = x }). (sym (ap (λ (z : Edge). z.from) s), inl (ap (λ (z : Edge). z.to) s)))
    (λ more. let r = to_edge b ss e more in (r.0, inr r.1))
    has

module _ {O B : Type 0} where
  -- the edges of operations
  abbrev edges_of : List (Found O B) → List Edge
  edges_of [] = []
  edges_of (o ∷ os) = edges_to o.site.label.name o.head.successors ++ edges_of os

  edge_in : (os : List (Found O B)) (o : Found O B) (s : Ptr BasicBlock) → Has o os → Has s o.head.successors → Has (record { from = o.site.label.name; to = s }) (edges_of os)
  edge_in [] o s has to = absurd has
  edge_in (x ∷ os) o s has to = ⊎_elim
      (λ (e : o ≡ x). has_front (edges_to x.site.label.name x.head.successors) (edges_of os) (record { from = o.site.label.name; to = s })
      (subst (λ (y : Found O B). Has (record { from = o.site.label.name; to = s }) (edges_to y.site.label.name y.head.successors)) e (edge_to o.site.label.name o.head.successors s to)))
      (λ more. has_back (edges_to x.site.label.name x.head.successors) (edges_of os) (record { from = o.site.label.name; to = s }) (edge_in os o s more to))
      has

  in_edge : (os : List (Found O B)) (e : Edge) → Has e (edges_of os) → (o : Found O B) × Has o os × (o.site.label.name ≡ e.from) × Has e.to o.head.successors
  in_edge [] e has = absurd has
  in_edge (x ∷ os) e has = ⊎_elim
      (λ f. let r = to_edge x.site.label.name x.head.successors e f in (x, inl refl, r.0, r.1))
      (λ b. let r = in_edge os e b in (r.0, inr r.1, r.2, r.3))
      (has_either (edges_to x.site.label.name x.head.successors) (edges_of os) e has)

  -- the first block of a region
  abbrev IsEntryAmong : List (FoundBlock O B) → Ptr BasicBlock → Type 0
  IsEntryAmong xs b = (x : FoundBlock O B) × Has x xs × (x.spot.first ≡ true) × (x.label.name ≡ b)

  told_entry : (xs : List (FoundBlock O B)) (b : Ptr BasicBlock) → Told (IsEntryAmong xs b)
  told_entry [] b = inr (λ h. absurd h.1)
  told_entry (x ∷ xs) b = ⊎_elim
      (λ (h : (x.spot.first ≡ true) × (x.label.name ≡ b)). inl (x, inl refl, h.0, h.1))
      (λ (n : (x.spot.first ≡ true) × (x.label.name ≡ b) → ⊥). ⊎_elim
      (λ (r : IsEntryAmong xs b). inl (r.0, inr r.1, r.2, r.3))
      (λ (m : IsEntryAmong xs b → ⊥). inr (λ h. ⊎_elim
      (λ (e : h.0 ≡ x). n (subst (λ (y : FoundBlock O B). (y.spot.first ≡ true) × (y.label.name ≡ b)) e (h.2, h.3)))
      (λ (r : Has h.0 xs). m (h.0, r, h.2, h.3))
      h.1))
      (told_entry xs b))
      (told_both (told_true x.spot.first) (same_handle x.label.name b))

  module _ (t : ProgramTree O B) where
    abbrev IsLed : Ptr BasicBlock → Type 0
    IsLed = IsLedTo (IsEntryAmong (block_occurrences_of t)) (edges_of (occurrences_of t))

    reached_led : (b : Ptr BasicBlock) → IsReached t b → IsLed b
    reached_led _ (entry x has first) = begins x.label.name (x, has, first, refl)
    reached_led _ (further o b has reach edge) = goes_on (record { from = o.site.label.name; to = b }) (reached_led o.site.label.name reach) (edge_in (occurrences_of t) o b has edge)

    led_reached : (b : Ptr BasicBlock) → IsLed b → IsReached t b
    led_reached _ (begins b p) = subst (IsReached t) p.3 (entry p.0 p.1 p.2)
    led_reached _ (goes_on e l has) = let f = in_edge (occurrences_of t) e has in further f.0 e.to f.1 (subst (IsReached t) (sym f.2) (led_reached e.from l)) f.3

    told_reached : (b : Ptr BasicBlock) → Told (IsReached t b)
    told_reached b = ⊎_elim
        (λ (l : IsLed b). inl (led_reached b l))
        (λ (n : IsLed b → ⊥). inr (λ r. n (reached_led b r)))
        (told_led (edges_of (occurrences_of t)) (IsEntryAmong (block_occurrences_of t)) (told_entry (block_occurrences_of t)) b)

    pub has_reach_test : HasReachTest t
    has_reach_test = (λ b. truth (told_reached b), λ b. (truth_yes (told_reached b), truth_of (told_reached b)))
