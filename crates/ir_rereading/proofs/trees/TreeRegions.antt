-- The labels of a text and its mentions of labels, by the regions that they stand in.
use Rattle.std.proofs.Common.{◌≡◌, ℕ, ◌+◌, ◌-◌, ◌<◌, ◌≤◌, Bool, true, false, List, [], ◌∷◌, ◌++◌, map, Option, Some, None, refl, sym, subst, ap, ◌∙◌, arith, inl, inr}
use Rattle.std.proofs.lemmas.List.{append_assoc, append-nil}
use Rattle.ir_names.specs.Tree.{Trees, node, no_tree, a_tree}
use Rattle.ir_print.specs.Pieces.{Values, operation, a_region, block, Entity, entity, Entities, no_entity, an_entity}
use Rattle.ir_grammar.specs.declared.grammar.Action.{Action}
use Rattle.ir_grammar.specs.declared.grammar.Action.TheVariants.{Result, Operation, EndOperation, BeginRegion, EndRegion, Label, EndBlock, Begin, End, BeginOperands, EndOperands, BeginSuccessor, EndSuccessor, BeginList, BeginItem, EndItem, EndList, BeginChoice, EndChoice}
use Rattle.ir_grammar.specs.declared.grammar.Event.{Event}
use Rattle.ir_grammar.specs.declared.grammar.Event.TheVariants.{Took, Did}
use Rattle.ir_scopes.specs.declared.sites.Frame.{Frame}
use Rattle.ir_scopes.specs.declared.sites.Site.{Site}
use Rattle.ir_forest.specs.Forest.{end_of, Deed, deeds_from, ActionSpan, ending, deeds_in, IsWholeStep, AreWhole, IsForestOf}
use Rattle.ir_forest.specs.Meaning.{by_operation, by_region, by_successor, successors_in, head_of, operations_in, regions_in, blocks_in}
use Rattle.ir_grammar.specs.Nesting.{Nests, at_root}
use Rattle.ir_scopes.specs.Scopes.{outside, operation_frame, region_frame, labelled, label_mentioned, each, labels, label_mentions}
use Rattle.ir_rereading.proofs.trees.TreeKinds.{Content, of_pieces, of_operation, of_region, of_block, inside, OnContent, AreOf, split_deeds, forest_stands}
use Rattle.ir_rereading.proofs.trees.TreeSites.{In, in_left, in_right, in_either, Alike}

-- a label in a scope
abbrev pub label_at : ℕ → ℕ → Site
label_at scope token = record { scope = scope; token = token }

-- these labels in it
abbrev pub labels_at : ℕ → List ℕ → List Site
labels_at scope ks = map (label_at scope) ks

-- ---- the labels of a tree

-- The first sites are the labels of operations, the others are the labels that they mention: those of edges of an operation are in
-- the given scope, and each region in it has a scope of its own, the number of which is above the first number and up to the second.
-- So it is of regions; of blocks, their labels are in the given scope. The token of its label names a block.
module _ (text : ℕ → List ℕ) where
  abbrev mutual
    pub OfOperations : ℕ → ℕ → ℕ → Entities ℕ → List Site → List Site → Type 0
    OfOperations scope low high no_entity ss ms = (low ≤ high) × (ss ≡ []) × (ms ≡ [])
    OfOperations scope low high (an_entity (entity (operation kind results used successors pieces) us) ts) ss ms =
        (a : ℕ) × (b : ℕ) × (c : ℕ) × (first : List Site) × (more : List Site) × (held : List Site) × (past : List Site)
        × (ss ≡ first ++ more) × Alike ms (labels_at scope successors ++ (held ++ past)) × (low ≤ a) × (b ≤ c) × OfRegions a b us first held × OfOperations scope c high ts more past
    OfOperations scope low high (an_entity (entity _ us) ts) ss ms = ⊥

    pub OfRegions : ℕ → ℕ → Entities ℕ → List Site → List Site → Type 0
    OfRegions low high no_entity ss ms = (low ≤ high) × (ss ≡ []) × (ms ≡ [])
    OfRegions low high (an_entity (entity a_region us) ts) ss ms =
        (scope : ℕ) × (b : ℕ) × (c : ℕ) × (first : List Site) × (more : List Site) × (held : List Site) × (past : List Site)
        × (ss ≡ first ++ more) × Alike ms (held ++ past) × (low < scope) × (b ≤ c) × OfBlocks scope scope b us first held × OfRegions c high ts more past
    OfRegions low high (an_entity (entity _ us) ts) ss ms = ⊥

    pub OfBlocks : ℕ → ℕ → ℕ → Entities ℕ → List Site → List Site → Type 0
    OfBlocks scope low high no_entity ss ms = (low ≤ high) × (ss ≡ []) × (ms ≡ [])
    OfBlocks scope low high (an_entity (entity (block named label arguments) us) ts) ss ms =
        (a : ℕ) × (b : ℕ) × (c : ℕ) × (first : List Site) × (more : List Site) × (held : List Site) × (past : List Site)
        × (label ≡ text named) × (ss ≡ label_at scope named ∷ (first ++ more)) × Alike ms (held ++ past) × (low ≤ a) × (b ≤ c) × OfOperations scope a b us first held × OfBlocks scope c high ts more past
    OfBlocks scope low high (an_entity (entity _ us) ts) ss ms = ⊥

  -- with a lower first number
  operations_lower : (scope m n high : ℕ) (ts : Entities ℕ) (ss ms : List Site) → m ≤ n → OfOperations scope n high ts ss ms
      → OfOperations scope m high ts ss ms
  operations_lower scope m n high no_entity ss ms le h = let l = h.0 in (omega arith, h.1, h.2)
  operations_lower scope m n high (an_entity (entity (operation kind results used successors pieces) us) ts) ss ms le h =
      let l = h.9 in (h.0, h.1, h.2, h.3, h.4, h.5, h.6, h.7, h.8, omega arith, h.10, h.11, h.12)
  operations_lower scope m n high (an_entity (entity a_region us) ts) ss ms le h = absurd h
  operations_lower scope m n high (an_entity (entity (block named label arguments) us) ts) ss ms le h = absurd h

  regions_lower : (m n high : ℕ) (ts : Entities ℕ) (ss ms : List Site) → m ≤ n → OfRegions n high ts ss ms → OfRegions m high ts ss ms
  regions_lower m n high no_entity ss ms le h = let l = h.0 in (omega arith, h.1, h.2)
  regions_lower m n high (an_entity (entity a_region us) ts) ss ms le h =
      let l = h.9 in (h.0, h.1, h.2, h.3, h.4, h.5, h.6, h.7, h.8, omega arith, h.10, h.11, h.12)
  regions_lower m n high (an_entity (entity (operation kind results used successors pieces) us) ts) ss ms le h = absurd h
  regions_lower m n high (an_entity (entity (block named label arguments) us) ts) ss ms le h = absurd h

-- ---- lists with the same members

pub alike_self : {X : Type 0} (xs : List X) → Alike xs xs
alike_self xs x = (λ i. i, λ i. i)

module _ {X : Type 0} (x : X) where
  member_join : (xs ys us vs : List X) → (In x xs → In x us) → (In x ys → In x vs) → In x (xs ++ ys) → In x (us ++ vs)
  member_join xs ys us vs f g i = elim (in_either x xs ys i) [ inl j ↦ in_left x us vs (f j) | inr j ↦ in_right x us vs (g j) ]

  member_swap : (xs ys zs : List X) → In x (xs ++ (ys ++ zs)) → In x (ys ++ (xs ++ zs))
  member_swap xs ys zs i = elim (in_either x xs (ys ++ zs) i) [
    | inl j ↦ in_right x ys (xs ++ zs) (in_left x xs zs j)
    | inr j ↦ elim (in_either x ys zs j) [ inl k ↦ in_left x ys (xs ++ zs) k | inr k ↦ in_right x ys (xs ++ zs) (in_right x xs zs k) ]
  ]

module _ {X : Type 0} where
  alike_join : (xs ys us vs : List X) → Alike xs us → Alike ys vs → Alike (xs ++ ys) (us ++ vs)
  alike_join xs ys us vs a b x = (member_join x xs ys us vs (a x).0 (b x).0, member_join x us vs xs ys (a x).1 (b x).1)

  -- more behind what is alike in two parts
  alike_behind : (xs us vs more : List X) → Alike xs (us ++ vs) → Alike (xs ++ more) (us ++ (vs ++ more))
  alike_behind xs us vs more a = subst (λ zs. Alike (xs ++ more) zs) (append_assoc us vs more) (alike_join xs more (us ++ vs) more a (alike_self more))

  -- more before it, between the parts
  alike_between : (xs us vs more : List X) → Alike xs (us ++ vs) → Alike (more ++ xs) (us ++ (more ++ vs))
  alike_between xs us vs more a x = (
    λ i. member_swap x more us vs (member_join x more xs more (us ++ vs) (λ j. j) (a x).0 i),
    λ i. member_join x more (us ++ vs) more xs (λ j. j) (a x).1 (member_swap x us more vs i),
  )

-- ---- lists in parts

module _ {X : Type 0} where
  followed : (a b c : List X) → a ≡ b → b ≡ c → a ≡ c
  followed a b c e h = e ∙ h

  with_first : (x : X) (xs ys : List X) → xs ≡ ys → x ∷ xs ≡ x ∷ ys
  with_first x xs ys e = ap (λ zs. x ∷ zs) e

  -- what is passed and then what comes behind it
  joined : (a b c d first more : List X) → a ≡ b → b ≡ first ++ c → c ≡ more ++ d → a ≡ (first ++ more) ++ d
  joined a b c d first more e h k = e ∙ (h ∙ (ap (λ xs. first ++ xs) k ∙ sym (append_assoc first more d)))

  -- the same where nothing is passed
  passed_over : (a b c d none : List X) → a ≡ b → b ≡ none ++ c → none ≡ [] → c ≡ d → a ≡ d
  passed_over a b c d none e h n k = e ∙ (h ∙ (ap (λ xs. xs ++ c) n ∙ k))

-- ---- walking over events

-- actions that make and mention no label, and begin and end no scope
abbrev is_plain : Action → Bool
is_plain (Operation kind) = false
is_plain EndOperation = false
is_plain BeginRegion = false
is_plain EndRegion = false
is_plain Label = false
is_plain BeginSuccessor = false
is_plain _ = true

module _ (isolated : ℕ → Bool) where
  -- the labels from a place on
  abbrev labels_from : ℕ → ℕ → Frame → List Frame → List Event → List Site
  labels_from n k h fs es = each isolated labelled (record { events = n; tokens = k; here = h; around = fs }) es

  -- the labels that are mentioned from it on
  abbrev mentions_from : ℕ → ℕ → Frame → List Frame → List Event → List Site
  mentions_from n k h fs es = each isolated label_mentioned (record { events = n; tokens = k; here = h; around = fs }) es

  plain_labels : (a : Action) → is_plain a ≡ true → (n k : ℕ) (h : Frame) (fs : List Frame) (es : List Event) → labels_from n k h fs (Did a ∷ es) ≡ labels_from (n + 1) k h fs es
  plain_labels (Operation kind) e n k h fs es = let wrong : false ≡ true = e in cc
  plain_labels EndOperation e n k h fs es = let wrong : false ≡ true = e in cc
  plain_labels BeginRegion e n k h fs es = let wrong : false ≡ true = e in cc
  plain_labels BeginSuccessor e n k h fs es = let wrong : false ≡ true = e in cc
  plain_labels EndRegion e n k h fs es = let wrong : false ≡ true = e in cc
  plain_labels Label e n k h fs es = let wrong : false ≡ true = e in cc
  plain_labels _ e n k h fs es = refl

  plain_mentions : (a : Action) → is_plain a ≡ true → (n k : ℕ) (h : Frame) (fs : List Frame) (es : List Event)
      → mentions_from n k h fs (Did a ∷ es) ≡ mentions_from (n + 1) k h fs es
  plain_mentions (Operation kind) e n k h fs es = let wrong : false ≡ true = e in cc
  plain_mentions EndOperation e n k h fs es = let wrong : false ≡ true = e in cc
  plain_mentions BeginRegion e n k h fs es = let wrong : false ≡ true = e in cc
  plain_mentions BeginSuccessor e n k h fs es = let wrong : false ≡ true = e in cc
  plain_mentions EndRegion e n k h fs es = let wrong : false ≡ true = e in cc
  plain_mentions Label e n k h fs es = let wrong : false ≡ true = e in cc
  plain_mentions _ e n k h fs es = refl

  -- Of what comes from a place on, some is passed, which makes these sites and mentions those; behind it stands more, from a place in the same frames on.
  record Walk (n k : ℕ) (h : Frame) (fs : List Frame) (es front : List Event) (more : List Deed) (Makes : ℕ → List Site → List Site → Type 0) : Type 0 where
    sites : List Site
    uses : List Site
    events : ℕ
    tokens : ℕ
    rest : List Event
    labels : labels_from n k h fs es ≡ sites ++ labels_from events tokens h fs (front ++ rest)
    mentions : mentions_from n k h fs es ≡ uses ++ mentions_from events tokens h fs (front ++ rest)
    does : deeds_from tokens rest ≡ more
    later : n ≤ events
    makes : Makes events sites uses

  -- what is done next
  record Next (n k : ℕ) (h : Frame) (fs : List Frame) (es : List Event) (a : Action) (x : ℕ) (more : List Deed) : Type 0 where
    events : ℕ
    tokens : ℕ
    rest : List Event
    labels : labels_from n k h fs es ≡ labels_from events tokens h fs (Did a ∷ rest)
    mentions : mentions_from n k h fs es ≡ mentions_from events tokens h fs (Did a ∷ rest)
    does : deeds_from tokens rest ≡ more
    later : n ≤ events
    token : x ≡ tokens - 1

  next : (es : List Event) (n k : ℕ) (h : Frame) (fs : List Frame) (a : Action) (x : ℕ) (more : List Deed) → deeds_from k es ≡ (a, x) ∷ more → Next n k h fs es a x more
  next [] n k h fs a x more e = let first : Deed = (a, x) in let wrong : [] ≡ first ∷ more = e in cc
  next (Took ∷ es) n k h fs a x more e = let r = next es (n + 1) (k + 1) h fs a x more e in
      record { events = r.events; tokens = r.tokens; rest = r.rest; labels = r.labels; mentions = r.mentions; does = r.does; later = (let l = r.later in omega arith); token = r.token }
  next (Did b ∷ es) n k h fs a x more e =
      let first : Deed = (b, k - 1) in
      let second : Deed = (a, x) in
      let both : first ∷ deeds_from k es ≡ second ∷ more = e in
      let heads : first ≡ second = cc in
      let tails : deeds_from k es ≡ more = cc in
      record {
        events = n;
        tokens = k;
        rest = es;
        labels = ap (λ (z : Action). labels_from n k h fs (Did z ∷ es)) (ap (λ (d : Deed). d.0) heads);
        mentions = ap (λ (z : Action). mentions_from n k h fs (Did z ∷ es)) (ap (λ (d : Deed). d.0) heads);
        does = tails;
        later = omega arith;
        token = sym (ap (λ (d : Deed). d.1) heads);
      }

  -- no labels and no mentions behind the last deed
  none_left : (es : List Event) (n k : ℕ) (h : Frame) (fs : List Frame) → deeds_from k es ≡ [] → labels_from n k h fs es ≡ []
  none_left [] n k h fs e = refl
  none_left (Took ∷ es) n k h fs e = none_left es (n + 1) (k + 1) h fs e
  none_left (Did a ∷ es) n k h fs e = let first : Deed = (a, k - 1) in let wrong : first ∷ deeds_from k es ≡ [] = e in cc

  none_mentioned : (es : List Event) (n k : ℕ) (h : Frame) (fs : List Frame) → deeds_from k es ≡ [] → mentions_from n k h fs es ≡ []
  none_mentioned [] n k h fs e = refl
  none_mentioned (Took ∷ es) n k h fs e = none_mentioned es (n + 1) (k + 1) h fs e
  none_mentioned (Did a ∷ es) n k h fs e = let first : Deed = (a, k - 1) in let wrong : first ∷ deeds_from k es ≡ [] = e in cc

  -- what is passed up to an end
  closes : (is rest : Trees ActionSpan) (end : Action) (y : ℕ) (n k : ℕ) (h : Frame) (fs : List Frame) (es : List Event) (more : List Deed) (Makes : ℕ → List Site → List Site → Type 0)
      → Walk n k h fs es [] ((end, y) ∷ (deeds_in rest ++ more)) Makes → Walk n k h fs es (Did end ∷ []) (deeds_in rest ++ more) (λ m ss ms. (a : ℕ) × (a ≤ m) × Makes a ss ms)
  closes is rest end y n k h fs es more Makes w =
      let r = next w.rest w.events w.tokens h fs end y (deeds_in rest ++ more) w.does in
      record {
        sites = w.sites;
        uses = w.uses;
        events = r.events;
        tokens = r.tokens;
        rest = r.rest;
        labels = w.labels ∙ ap (λ (ss : List Site). w.sites ++ ss) r.labels;
        mentions = w.mentions ∙ ap (λ (ms : List Site). w.uses ++ ms) r.mentions;
        does = r.does;
        later = (let a = r.later in let b = w.later in omega arith);
        makes = (w.events, r.later, w.makes);
      }

  -- ---- pieces

  plain_end : (a x : Action) → is_plain a ≡ true → end_of a ≡ Some x → is_plain x ≡ true
  plain_end (Operation kind) x p e = let wrong : false ≡ true = p in cc
  plain_end BeginRegion x p e = let wrong : false ≡ true = p in cc
  plain_end Label x p e = let wrong : false ≡ true = p in cc
  plain_end BeginSuccessor x p e = let wrong : false ≡ true = p in cc
  plain_end (Begin sort kind) x p e = let same : End sort ≡ x = cc in ap is_plain (sym same)
  plain_end BeginOperands x p e = let same : EndOperands ≡ x = cc in ap is_plain (sym same)
  plain_end BeginList x p e = let same : EndList ≡ x = cc in ap is_plain (sym same)
  plain_end BeginItem x p e = let same : EndItem ≡ x = cc in ap is_plain (sym same)
  plain_end (BeginChoice n) x p e = let same : EndChoice ≡ x = cc in ap is_plain (sym same)
  plain_end _ x p e = let wrong : None ≡ Some x = e in cc

  plain_piece : (a : Action) (ts : Trees ActionSpan) → OnContent (inside of_pieces a) (λ d. AreOf d ts) → (is_plain a ≡ true) × AreOf of_pieces ts
  plain_piece (Operation kind) ts h = absurd h
  plain_piece EndOperation ts h = absurd h
  plain_piece BeginRegion ts h = absurd h
  plain_piece EndRegion ts h = absurd h
  plain_piece Label ts h = absurd h
  plain_piece BeginSuccessor ts h = absurd h
  plain_piece _ ts h = (refl, h)

  abbrev No : ℕ → List Site → List Site → Type 0
  No m ss ms = (ss ≡ []) × (ms ≡ [])

  -- trees that make and mention no labels, in whatever frames
  abbrev PassesPieces : Trees ActionSpan → Type 0
  PassesPieces ts = (n k : ℕ) (h : Frame) (fs : List Frame) (es : List Event) (more : List Deed) → deeds_from k es ≡ deeds_in ts ++ more → Walk n k h fs es [] more No

  -- a tree that begins with a plain action and holds pieces makes none
  plain_tree : (a : Action) (x y : ℕ) (is rest : Trees ActionSpan) → is_plain a ≡ true → PassesPieces is → (e : Option Action) → end_of a ≡ e
      → IsWholeStep e (record { action = a; first = x; last = y }) is
      → (n k : ℕ) (h : Frame) (fs : List Frame) (es : List Event) (more : List Deed) → deeds_from k es ≡ (a, x) ∷ (((deeds_in is ++ ending e y) ++ deeds_in rest) ++ more)
      → Walk n k h fs es [] (deeds_in rest ++ more) No
  plain_tree a x y is rest p inner None e w n k h fs es more d =
      let begun = next es n k h fs a x (((deeds_in is ++ []) ++ deeds_in rest) ++ more) d in
      record {
        sites = [];
        uses = [];
        events = begun.events + 1;
        tokens = begun.tokens;
        rest = begun.rest;
        labels = followed (labels_from n k h fs es) (labels_from begun.events begun.tokens h fs (Did a ∷ begun.rest)) (labels_from (begun.events + 1) begun.tokens h fs begun.rest) begun.labels
            (plain_labels a p begun.events begun.tokens h fs begun.rest);
        mentions = followed (mentions_from n k h fs es) (mentions_from begun.events begun.tokens h fs (Did a ∷ begun.rest)) (mentions_from (begun.events + 1) begun.tokens h fs begun.rest) begun.mentions
            (plain_mentions a p begun.events begun.tokens h fs begun.rest);
        does = begun.does ∙ ap (λ (ts : Trees ActionSpan). ((deeds_in ts ++ []) ++ deeds_in rest) ++ more) w.2;
        later = (let l = begun.later in omega arith);
        makes = (refl, refl);
      }
  plain_tree a x y is rest p inner (Some z) e w n k h fs es more d =
      let begun = next es n k h fs a x (((deeds_in is ++ (z, y) ∷ []) ++ deeds_in rest) ++ more) d in
      let passed = inner (begun.events + 1) begun.tokens h fs begun.rest ((z, y) ∷ (deeds_in rest ++ more)) (begun.does ∙ split_deeds is rest z y more) in
      let closed = closes is rest z y (begun.events + 1) begun.tokens h fs begun.rest more No passed in
      record {
        sites = [];
        uses = [];
        events = closed.events + 1;
        tokens = closed.tokens;
        rest = closed.rest;
        labels = passed_over (labels_from n k h fs es) (labels_from (begun.events + 1) begun.tokens h fs begun.rest) (labels_from closed.events closed.tokens h fs (Did z ∷ closed.rest))
            (labels_from (closed.events + 1) closed.tokens h fs closed.rest) closed.sites
            (followed (labels_from n k h fs es) (labels_from begun.events begun.tokens h fs (Did a ∷ begun.rest)) (labels_from (begun.events + 1) begun.tokens h fs begun.rest) begun.labels
            (plain_labels a p begun.events begun.tokens h fs begun.rest))
            closed.labels closed.makes.2.0 (plain_labels z (plain_end a z p e) closed.events closed.tokens h fs closed.rest);
        mentions = passed_over (mentions_from n k h fs es) (mentions_from (begun.events + 1) begun.tokens h fs begun.rest) (mentions_from closed.events closed.tokens h fs (Did z ∷ closed.rest))
            (mentions_from (closed.events + 1) closed.tokens h fs closed.rest) closed.uses
            (followed (mentions_from n k h fs es) (mentions_from begun.events begun.tokens h fs (Did a ∷ begun.rest)) (mentions_from (begun.events + 1) begun.tokens h fs begun.rest) begun.mentions
            (plain_mentions a p begun.events begun.tokens h fs begun.rest))
            closed.mentions closed.makes.2.1 (plain_mentions z (plain_end a z p e) closed.events closed.tokens h fs closed.rest);
        does = closed.does;
        later = (let l = begun.later in let m = closed.later in omega arith);
        makes = (refl, refl);
      }

  -- one walk behind another
  then_pieces : (n k : ℕ) (h : Frame) (fs : List Frame) (es : List Event) (between more : List Deed) (Makes Goal : ℕ → List Site → List Site → Type 0) → (w : Walk n k h fs es [] between No)
      → Walk w.events w.tokens h fs w.rest [] more Makes → ((m : ℕ) (ss ms : List Site) → Makes m ss ms → Goal m ss ms) → Walk n k h fs es [] more Goal
  then_pieces n k h fs es between more Makes Goal w r go = record {
    sites = r.sites;
    uses = r.uses;
    events = r.events;
    tokens = r.tokens;
    rest = r.rest;
    labels = w.labels ∙ (ap (λ (ss : List Site). ss ++ labels_from w.events w.tokens h fs w.rest) w.makes.0 ∙ r.labels);
    mentions = w.mentions ∙ (ap (λ (ms : List Site). ms ++ mentions_from w.events w.tokens h fs w.rest) w.makes.1 ∙ r.mentions);
    does = r.does;
    later = (let a = w.later in let b = r.later in omega arith);
    makes = go r.events r.sites r.uses r.makes;
  }

  pieces_pass : (ts : Trees ActionSpan) → AreWhole ts → AreOf of_pieces ts → PassesPieces ts
  pieces_pass no_tree w o n k h fs es more d = record { sites = []; uses = []; events = n; tokens = k; rest = es; labels = refl; mentions = refl; does = d; later = omega arith; makes = (refl, refl) }
  pieces_pass (a_tree (node s is) rest) w o n k h fs es more d =
      let p = plain_piece s.action is o.0 in
      let first = plain_tree s.action s.first s.last is rest p.0 (pieces_pass is w.1 p.1) (end_of s.action) refl w.0 n k h fs es more d in
      then_pieces n k h fs es (deeds_in rest ++ more) more No No first (pieces_pass rest w.2 o.1 first.events first.tokens h fs first.rest more first.does) (λ m ss ms e. e)

  -- ---- operations, regions and blocks

  module _ (v : Values) (text : ℕ → List ℕ) where
    -- what the labels of trees are, by what stands side by side in them
    abbrev Reached : Content → ℕ → ℕ → Trees ActionSpan → ℕ → List Site → List Site → Type 0
    Reached of_pieces scope n ts m ss ms = (ss ≡ []) × (ms ≡ [])
    Reached of_operation scope n ts m ss ms = (held : List Site) × Alike ms (labels_at scope (successors_in ts) ++ held) × OfRegions text n m (regions_in v text ts) ss held
    Reached of_region scope n ts m ss ms = OfBlocks text scope n m (blocks_in v text ts) ss ms
    Reached of_block scope n ts m ss ms = (names : List ℕ) → OfOperations text scope n m (operations_in v text names ts) ss ms

    abbrev Passes : Trees ActionSpan → Type 0
    Passes ts = (c : Content) → AreOf c ts → (n k : ℕ) (h g : Frame) (gs : List Frame) (es : List Event) (more : List Deed)
        → deeds_from k es ≡ deeds_in ts ++ more → Walk n k h (g ∷ gs) es [] more (Reached c h.labels n ts)

    skip_region : {X : Type 0} (a : Action) → is_plain a ≡ true → (x y : X) → by_region a x y ≡ y
    skip_region BeginRegion p x y = let wrong : false ≡ true = p in cc
    skip_region _ p x y = refl

    skip_successor : (a : Action) → is_plain a ≡ true → (xs : List ℕ) → by_successor a xs [] ≡ []
    skip_successor BeginSuccessor p xs = let wrong : false ≡ true = p in cc
    skip_successor _ p xs = refl

    skip_operations : (Of : Entities ℕ → Type 0) (a : Action) (x : ℕ) (X : List ℕ → ℕ → Entities ℕ) (rest : Trees ActionSpan) → is_plain a ≡ true
        → ((names : List ℕ) → Of (operations_in v text names rest))
        → (names : List ℕ) → Of (by_operation a (operations_in v text (names ++ x ∷ []) rest) (X names) (operations_in v text names rest))
    skip_operations Of Result x X rest p h names = h (names ++ x ∷ [])
    skip_operations Of (Operation kind) x X rest p h names = let wrong : false ≡ true = p in cc
    skip_operations Of _ x X rest p h names = h names

    module _ (x y : ℕ) (is rest : Trees ActionSpan) where
      -- the tree that an action begins, and those behind it
      abbrev begun_by : Action → Trees ActionSpan
      begun_by a = a_tree (node (record { action = a; first = x; last = y }) is) rest

      pass_region : Passes is → Passes rest → AreOf of_region is → AreOf of_operation rest → (n k : ℕ) (h g : Frame) (gs : List Frame) (es : List Event) (more : List Deed)
          → deeds_from k es ≡ deeds_in (begun_by BeginRegion) ++ more → Walk n k h (g ∷ gs) es [] more (Reached of_operation h.labels n (begun_by BeginRegion))
      pass_region inner onward o p n k h g gs es more d =
          let begun = next es n k h (g ∷ gs) BeginRegion x (((deeds_in is ++ (EndRegion, y) ∷ []) ++ deeds_in rest) ++ more) d in
          let f : Frame = region_frame (record { events = begun.events; tokens = begun.tokens; here = h; around = g ∷ gs }) in
          let passed = inner of_region o (begun.events + 1) begun.tokens f h (g ∷ gs) begun.rest ((EndRegion, y) ∷ (deeds_in rest ++ more)) (begun.does ∙ split_deeds is rest EndRegion y more) in
          let closed = closes is rest EndRegion y (begun.events + 1) begun.tokens f (h ∷ g ∷ gs) begun.rest more (Reached of_region (begun.events + 1) (begun.events + 1) is) passed in
          let last = onward of_operation p (closed.events + 1) closed.tokens h g gs closed.rest more closed.does in
          record {
            sites = closed.sites ++ last.sites;
            uses = closed.uses ++ last.uses;
            events = last.events;
            tokens = last.tokens;
            rest = last.rest;
            labels = joined (labels_from n k h (g ∷ gs) es) (labels_from (begun.events + 1) begun.tokens f (h ∷ g ∷ gs) begun.rest) (labels_from (closed.events + 1) closed.tokens h (g ∷ gs) closed.rest)
                (labels_from last.events last.tokens h (g ∷ gs) last.rest) closed.sites last.sites begun.labels closed.labels last.labels;
            mentions = joined (mentions_from n k h (g ∷ gs) es) (mentions_from (begun.events + 1) begun.tokens f (h ∷ g ∷ gs) begun.rest) (mentions_from (closed.events + 1) closed.tokens h (g ∷ gs) closed.rest)
                (mentions_from last.events last.tokens h (g ∷ gs) last.rest) closed.uses last.uses begun.mentions closed.mentions last.mentions;
            does = last.does;
            later = (let a = begun.later in let b = closed.later in let c = last.later in omega arith);
            makes = (
              closed.uses ++ last.makes.0,
              alike_between last.uses (labels_at h.labels (successors_in rest)) last.makes.0 closed.uses last.makes.1,
              (
                begun.events + 1,
                closed.makes.0,
                closed.events + 1,
                closed.sites,
                last.sites,
                closed.uses,
                last.makes.0,
                refl {a = closed.sites ++ last.sites},
                alike_self (closed.uses ++ last.makes.0),
                (let a = begun.later in omega arith),
                (let a = closed.makes.1 in omega arith),
                closed.makes.2,
                last.makes.2,
              ),
            );
          }

      pass_block : Passes is → Passes rest → AreOf of_block is → AreOf of_region rest → (n k : ℕ) (h g : Frame) (gs : List Frame) (es : List Event) (more : List Deed)
          → deeds_from k es ≡ deeds_in (begun_by Label) ++ more → Walk n k h (g ∷ gs) es [] more (Reached of_region h.labels n (begun_by Label))
      pass_block inner onward o p n k h g gs es more d =
          let begun = next es n k h (g ∷ gs) Label x (((deeds_in is ++ (EndBlock, y) ∷ []) ++ deeds_in rest) ++ more) d in
          let passed = inner of_block o (begun.events + 1) begun.tokens h g gs begun.rest ((EndBlock, y) ∷ (deeds_in rest ++ more)) (begun.does ∙ split_deeds is rest EndBlock y more) in
          let closed = closes is rest EndBlock y (begun.events + 1) begun.tokens h (g ∷ gs) begun.rest more (Reached of_block h.labels (begun.events + 1) is) passed in
          let last = onward of_region p (closed.events + 1) closed.tokens h g gs closed.rest more closed.does in
          let label : Site = label_at h.labels x in
          record {
            sites = label ∷ (closed.sites ++ last.sites);
            uses = closed.uses ++ last.uses;
            events = last.events;
            tokens = last.tokens;
            rest = last.rest;
            labels = followed (labels_from n k h (g ∷ gs) es) (label ∷ labels_from (begun.events + 1) begun.tokens h (g ∷ gs) begun.rest)
                ((label ∷ (closed.sites ++ last.sites)) ++ labels_from last.events last.tokens h (g ∷ gs) last.rest)
                (begun.labels ∙ ap (λ (k : ℕ). label_at h.labels k ∷ labels_from (begun.events + 1) begun.tokens h (g ∷ gs) begun.rest) (sym begun.token))
                (with_first label (labels_from (begun.events + 1) begun.tokens h (g ∷ gs) begun.rest) ((closed.sites ++ last.sites) ++ labels_from last.events last.tokens h (g ∷ gs) last.rest)
                (joined (labels_from (begun.events + 1) begun.tokens h (g ∷ gs) begun.rest) (labels_from (begun.events + 1) begun.tokens h (g ∷ gs) begun.rest)
                (labels_from (closed.events + 1) closed.tokens h (g ∷ gs) closed.rest) (labels_from last.events last.tokens h (g ∷ gs) last.rest) closed.sites last.sites
                (refl {a = labels_from (begun.events + 1) begun.tokens h (g ∷ gs) begun.rest}) closed.labels last.labels));
            mentions = joined (mentions_from n k h (g ∷ gs) es) (mentions_from (begun.events + 1) begun.tokens h (g ∷ gs) begun.rest) (mentions_from (closed.events + 1) closed.tokens h (g ∷ gs) closed.rest)
                (mentions_from last.events last.tokens h (g ∷ gs) last.rest) closed.uses last.uses begun.mentions closed.mentions last.mentions;
            does = last.does;
            later = (let a = begun.later in let b = closed.later in let c = last.later in omega arith);
            makes = (
              begun.events + 1,
              closed.makes.0,
              closed.events + 1,
              closed.sites,
              last.sites,
              closed.uses,
              last.uses,
              refl {a = text x},
              refl {a = label ∷ (closed.sites ++ last.sites)},
              alike_self (closed.uses ++ last.uses),
              (let a = begun.later in omega arith),
              (let a = closed.makes.1 in omega arith),
              closed.makes.2 [],
              last.makes,
            );
          }

      -- an operation up to its end, around which there may be nothing
      pass_operation : (kind : ℕ) → Passes is → AreOf of_operation is → (n k : ℕ) (h : Frame) (fs : List Frame) (es : List Event) (more : List Deed)
          → deeds_from k es ≡ deeds_in (begun_by (Operation kind)) ++ more
          → (m : ℕ) × (n ≤ m) × (j : ℕ) × (us : List Event) × (labels_from n k h fs es ≡ labels_from (m + 1) j (operation_frame (isolated kind) h) (h ∷ fs) us)
          × (mentions_from n k h fs es ≡ mentions_from (m + 1) j (operation_frame (isolated kind) h) (h ∷ fs) us)
          × Walk (m + 1) j (operation_frame (isolated kind) h) (h ∷ fs) us (Did EndOperation ∷ []) (deeds_in rest ++ more) (λ e ss ms. (a : ℕ) × (a ≤ e) × Reached of_operation h.labels (m + 1) is a ss ms)
      pass_operation kind inner o n k h fs es more d =
          let begun = next es n k h fs (Operation kind) x (((deeds_in is ++ (EndOperation, y) ∷ []) ++ deeds_in rest) ++ more) d in
          let f : Frame = operation_frame (isolated kind) h in
          let passed = inner of_operation o (begun.events + 1) begun.tokens f h fs begun.rest ((EndOperation, y) ∷ (deeds_in rest ++ more)) (begun.does ∙ split_deeds is rest EndOperation y more) in
          let closed = closes is rest EndOperation y (begun.events + 1) begun.tokens f (h ∷ fs) begun.rest more (Reached of_operation h.labels (begun.events + 1) is) passed in
          (begun.events, begun.later, begun.tokens, begun.rest, begun.labels, begun.mentions, closed)

      pass_inner : (kind : ℕ) → Passes is → Passes rest → AreOf of_operation is → AreOf of_block rest → (n k : ℕ) (h g : Frame) (gs : List Frame) (es : List Event) (more : List Deed)
          → deeds_from k es ≡ deeds_in (begun_by (Operation kind)) ++ more → Walk n k h (g ∷ gs) es [] more (Reached of_block h.labels n (begun_by (Operation kind)))
      pass_inner kind inner onward o p n k h g gs es more d =
          let first = pass_operation kind inner o n k h (g ∷ gs) es more d in
          let closed = first.6 in
          let last = onward of_block p (closed.events + 1) closed.tokens h g gs closed.rest more closed.does in
          record {
            sites = closed.sites ++ last.sites;
            uses = closed.uses ++ last.uses;
            events = last.events;
            tokens = last.tokens;
            rest = last.rest;
            labels = joined (labels_from n k h (g ∷ gs) es) (labels_from (first.0 + 1) first.2 (operation_frame (isolated kind) h) (h ∷ g ∷ gs) first.3) (labels_from (closed.events + 1) closed.tokens h (g ∷ gs) closed.rest)
                (labels_from last.events last.tokens h (g ∷ gs) last.rest) closed.sites last.sites first.4 closed.labels last.labels;
            mentions = joined (mentions_from n k h (g ∷ gs) es) (mentions_from (first.0 + 1) first.2 (operation_frame (isolated kind) h) (h ∷ g ∷ gs) first.3) (mentions_from (closed.events + 1) closed.tokens h (g ∷ gs) closed.rest)
                (mentions_from last.events last.tokens h (g ∷ gs) last.rest) closed.uses last.uses first.5 closed.mentions last.mentions;
            does = last.does;
            later = (let a = first.1 in let b = closed.later in let c = last.later in omega arith);
            makes = λ names. (
              first.0 + 1,
              closed.makes.0,
              closed.events + 1,
              closed.sites,
              last.sites,
              closed.makes.2.0,
              last.uses,
              refl {a = closed.sites ++ last.sites},
              alike_behind closed.uses (labels_at h.labels (successors_in is)) closed.makes.2.0 last.uses closed.makes.2.1,
              (let a = first.1 in omega arith),
              (let a = closed.makes.1 in omega arith),
              closed.makes.2.2,
              last.makes [],
            );
          }

      -- an edge mentions a label in the scope of what is around the operation
      pass_edge : AreWhole is → AreOf of_pieces is → Passes rest → AreOf of_operation rest
          → (n k : ℕ) (h g : Frame) (gs : List Frame) (es : List Event) (more : List Deed)
          → deeds_from k es ≡ deeds_in (begun_by BeginSuccessor) ++ more → Walk n k h (g ∷ gs) es [] more (Reached of_operation h.labels n (begun_by BeginSuccessor))
      pass_edge ws o onward p n k h g gs es more d =
          let begun = next es n k h (g ∷ gs) BeginSuccessor x (((deeds_in is ++ (EndSuccessor, y) ∷ []) ++ deeds_in rest) ++ more) d in
          let passed = pieces_pass is ws o (begun.events + 1) begun.tokens h (g ∷ gs) begun.rest ((EndSuccessor, y) ∷ (deeds_in rest ++ more)) (begun.does ∙ split_deeds is rest EndSuccessor y more) in
          let closed = closes is rest EndSuccessor y (begun.events + 1) begun.tokens h (g ∷ gs) begun.rest more No passed in
          let last = onward of_operation p (closed.events + 1) closed.tokens h g gs closed.rest more closed.does in
          let mention : Site = label_at h.labels x in
          record {
            sites = last.sites;
            uses = mention ∷ last.uses;
            events = last.events;
            tokens = last.tokens;
            rest = last.rest;
            labels = passed_over (labels_from n k h (g ∷ gs) es) (labels_from (begun.events + 1) begun.tokens h (g ∷ gs) begun.rest) (labels_from (closed.events + 1) closed.tokens h (g ∷ gs) closed.rest)
                (last.sites ++ labels_from last.events last.tokens h (g ∷ gs) last.rest) closed.sites begun.labels closed.labels closed.makes.2.0 last.labels;
            mentions = followed (mentions_from n k h (g ∷ gs) es) (mention ∷ mentions_from (begun.events + 1) begun.tokens h (g ∷ gs) begun.rest)
                (mention ∷ (last.uses ++ mentions_from last.events last.tokens h (g ∷ gs) last.rest))
                (begun.mentions ∙ ap (λ (k : ℕ). label_at h.labels k ∷ mentions_from (begun.events + 1) begun.tokens h (g ∷ gs) begun.rest) (sym begun.token))
                (with_first mention (mentions_from (begun.events + 1) begun.tokens h (g ∷ gs) begun.rest) (last.uses ++ mentions_from last.events last.tokens h (g ∷ gs) last.rest)
                (passed_over (mentions_from (begun.events + 1) begun.tokens h (g ∷ gs) begun.rest) (mentions_from (begun.events + 1) begun.tokens h (g ∷ gs) begun.rest)
                (mentions_from (closed.events + 1) closed.tokens h (g ∷ gs) closed.rest) (last.uses ++ mentions_from last.events last.tokens h (g ∷ gs) last.rest) closed.uses
                (refl {a = mentions_from (begun.events + 1) begun.tokens h (g ∷ gs) begun.rest}) closed.mentions closed.makes.2.1 last.mentions));
            does = last.does;
            later = (let a = begun.later in let b = closed.later in let c = last.later in omega arith);
            makes = (
              last.makes.0,
              alike_join (mention ∷ []) last.uses (mention ∷ []) (labels_at h.labels (successors_in rest) ++ last.makes.0) (alike_self (mention ∷ [])) last.makes.1,
              regions_lower text n (closed.events + 1) last.events (regions_in v text rest) last.sites last.makes.0 (let a = begun.later in let b = closed.later in omega arith) last.makes.2,
            );
          }

      -- what says no region and no edge
      pass_said : (a : Action) → is_plain a ≡ true → IsWholeStep (end_of a) (record { action = a; first = x; last = y }) is → AreWhole is → AreOf of_pieces is → Passes rest → AreOf of_operation rest
          → (n k : ℕ) (h g : Frame) (gs : List Frame) (es : List Event) (more : List Deed) → deeds_from k es ≡ deeds_in (begun_by a) ++ more → Walk n k h (g ∷ gs) es [] more (Reached of_operation h.labels n (begun_by a))
      pass_said a plain w ws o onward p n k h g gs es more d =
          let first = plain_tree a x y is rest plain (pieces_pass is ws o) (end_of a) refl w n k h (g ∷ gs) es more d in
          then_pieces n k h (g ∷ gs) es (deeds_in rest ++ more) more (Reached of_operation h.labels first.events rest) (Reached of_operation h.labels n (begun_by a)) first
          (onward of_operation p first.events first.tokens h g gs first.rest more first.does)
          (λ m ss ms q. (
            q.0,
            subst (λ (ks : List ℕ). Alike ms (labels_at h.labels (ks ++ successors_in rest) ++ q.0)) (sym (skip_successor a plain (x ∷ []))) q.1,
            subst (λ (us : Entities ℕ). OfRegions text n m us ss q.0) (sym (skip_region a plain (an_entity (entity a_region (blocks_in v text is)) (regions_in v text rest)) (regions_in v text rest)))
                (regions_lower text n first.events m (regions_in v text rest) ss q.0 first.later q.2),
          ))

      -- what is no operation
      pass_header : (a : Action) → is_plain a ≡ true → IsWholeStep (end_of a) (record { action = a; first = x; last = y }) is → AreWhole is → AreOf of_pieces is → Passes rest → AreOf of_block rest
          → (n k : ℕ) (h g : Frame) (gs : List Frame) (es : List Event) (more : List Deed) → deeds_from k es ≡ deeds_in (begun_by a) ++ more → Walk n k h (g ∷ gs) es [] more (Reached of_block h.labels n (begun_by a))
      pass_header a plain w ws o onward p n k h g gs es more d =
          let first = plain_tree a x y is rest plain (pieces_pass is ws o) (end_of a) refl w n k h (g ∷ gs) es more d in
          then_pieces n k h (g ∷ gs) es (deeds_in rest ++ more) more (Reached of_block h.labels first.events rest) (Reached of_block h.labels n (begun_by a)) first
          (onward of_block p first.events first.tokens h g gs first.rest more first.does)
          (λ m ss ms q. skip_operations (λ (os : Entities ℕ). OfOperations text h.labels n m os ss ms) a x
          (λ named kind. an_entity (entity (head_of v text named is kind) (regions_in v text is)) (operations_in v text [] rest)) rest plain
          (λ names. operations_lower text h.labels n first.events m (operations_in v text names rest) ss ms first.later (q names)))

      said_passes : (a : Action) → IsWholeStep (end_of a) (record { action = a; first = x; last = y }) is → AreWhole is → Passes is → Passes rest → OnContent (inside of_operation a) (λ d. AreOf d is) → AreOf of_operation rest
          → (n k : ℕ) (h g : Frame) (gs : List Frame) (es : List Event) (more : List Deed) → deeds_from k es ≡ deeds_in (begun_by a) ++ more → Walk n k h (g ∷ gs) es [] more (Reached of_operation h.labels n (begun_by a))
      said_passes BeginRegion w ws inner onward o p = pass_region inner onward o p
      said_passes BeginSuccessor w ws inner onward o p = pass_edge ws o onward p
      said_passes (Operation kind) w ws inner onward o p = absurd o
      said_passes EndOperation w ws inner onward o p = absurd o
      said_passes EndRegion w ws inner onward o p = absurd o
      said_passes Label w ws inner onward o p = absurd o
      said_passes a w ws inner onward o p = pass_said a refl w ws o onward p

      block_passes : (a : Action) → IsWholeStep (end_of a) (record { action = a; first = x; last = y }) is → AreWhole is → Passes is → Passes rest → OnContent (inside of_region a) (λ d. AreOf d is) → AreOf of_region rest
          → (n k : ℕ) (h g : Frame) (gs : List Frame) (es : List Event) (more : List Deed) → deeds_from k es ≡ deeds_in (begun_by a) ++ more → Walk n k h (g ∷ gs) es [] more (Reached of_region h.labels n (begun_by a))
      block_passes Label w ws inner onward o p = pass_block inner onward o p
      block_passes _ w ws inner onward o p = absurd o

      operation_passes : (a : Action) → IsWholeStep (end_of a) (record { action = a; first = x; last = y }) is → AreWhole is → Passes is → Passes rest → OnContent (inside of_block a) (λ d. AreOf d is) → AreOf of_block rest
          → (n k : ℕ) (h g : Frame) (gs : List Frame) (es : List Event) (more : List Deed) → deeds_from k es ≡ deeds_in (begun_by a) ++ more → Walk n k h (g ∷ gs) es [] more (Reached of_block h.labels n (begun_by a))
      operation_passes (Operation kind) w ws inner onward o p = pass_inner kind inner onward o p
      operation_passes BeginRegion w ws inner onward o p = absurd o
      operation_passes EndOperation w ws inner onward o p = absurd o
      operation_passes EndRegion w ws inner onward o p = absurd o
      operation_passes Label w ws inner onward o p = absurd o
      operation_passes BeginSuccessor w ws inner onward o p = absurd o
      operation_passes a w ws inner onward o p = pass_header a refl w ws o onward p

    nothing_passes : Passes no_tree
    nothing_passes of_pieces o n k h g gs es more d = record { sites = []; uses = []; events = n; tokens = k; rest = es; labels = refl; mentions = refl; does = d; later = omega arith; makes = (refl, refl) }
    nothing_passes of_operation o n k h g gs es more d =
        record { sites = []; uses = []; events = n; tokens = k; rest = es; labels = refl; mentions = refl; does = d; later = omega arith; makes = ([], alike_self [], (omega arith, refl, refl)) }
    nothing_passes of_region o n k h g gs es more d =
        record { sites = []; uses = []; events = n; tokens = k; rest = es; labels = refl; mentions = refl; does = d; later = omega arith; makes = (omega arith, refl, refl) }
    nothing_passes of_block o n k h g gs es more d =
        record { sites = []; uses = []; events = n; tokens = k; rest = es; labels = refl; mentions = refl; does = d; later = omega arith; makes = λ names. (omega arith, refl, refl) }

    node_passes : (s : ActionSpan) (is rest : Trees ActionSpan) → IsWholeStep (end_of s.action) s is → AreWhole is → AreWhole rest → Passes is → Passes rest → Passes (a_tree (node s is) rest)
    node_passes s is rest w ws wr inner onward of_pieces o = λ n k h g gs es more d. pieces_pass (a_tree (node s is) rest) (w, ws, wr) o n k h (g ∷ gs) es more d
    node_passes s is rest w ws wr inner onward of_operation o = said_passes s.first s.last is rest s.action w ws inner onward o.0 o.1
    node_passes s is rest w ws wr inner onward of_region o = block_passes s.first s.last is rest s.action w ws inner onward o.0 o.1
    node_passes s is rest w ws wr inner onward of_block o = operation_passes s.first s.last is rest s.action w ws inner onward o.0 o.1

    all_pass : (ts : Trees ActionSpan) → AreWhole ts → Passes ts
    all_pass no_tree w = nothing_passes
    all_pass (a_tree (node s is) rest) w = node_passes s is rest w.0 w.1 w.2 (all_pass is w.1) (all_pass rest w.2)

    -- ---- the root

    -- The same of operations around which there is nothing: behind each of them there is another scope.
    abbrev OfRoots : ℕ → ℕ → ℕ → Entities ℕ → List Site → List Site → Type 0
    OfRoots scope low high no_entity ss ms = (low ≤ high) × (ss ≡ []) × (ms ≡ [])
    OfRoots scope low high (an_entity (entity (operation kind results used successors pieces) us) ts) ss ms =
        (a : ℕ) × (b : ℕ) × (c : ℕ) × (first : List Site) × (more : List Site) × (held : List Site) × (past : List Site)
        × (ss ≡ first ++ more) × Alike ms (labels_at scope successors ++ (held ++ past)) × (low ≤ a) × (b ≤ c) × OfRegions text a b us first held × ((next : ℕ) × OfRoots next c high ts more past)
    OfRoots scope low high (an_entity (entity _ us) ts) ss ms = ⊥

    roots_lower : (scope m n high : ℕ) (ts : Entities ℕ) (ss ms : List Site) → m ≤ n → OfRoots scope n high ts ss ms → OfRoots scope m high ts ss ms
    roots_lower scope m n high no_entity ss ms le h = let l = h.0 in (omega arith, h.1, h.2)
    roots_lower scope m n high (an_entity (entity (operation kind results used successors pieces) us) ts) ss ms le h =
        let l = h.9 in (h.0, h.1, h.2, h.3, h.4, h.5, h.6, h.7, h.8, omega arith, h.10, h.11, h.12)
    roots_lower scope m n high (an_entity (entity a_region us) ts) ss ms le h = absurd h
    roots_lower scope m n high (an_entity (entity (block named label arguments) us) ts) ss ms le h = absurd h

    one_root : (scope low high : ℕ) (t : Entity ℕ) (ss ms : List Site) → OfRoots scope low high (an_entity t no_entity) ss ms
        → OfOperations text scope low high (an_entity t no_entity) ss ms
    one_root scope low high (entity (operation kind results used successors pieces) us) ss ms h = (h.0, h.1, h.2, h.3, h.4, h.5, h.6, h.7, h.8, h.9, h.10, h.11, h.12.1)
    one_root scope low high (entity a_region us) ss ms h = absurd h
    one_root scope low high (entity (block named label arguments) us) ss ms h = absurd h

    -- what comes from a place outside of all operations on
    abbrev FromRoot : Trees ActionSpan → ℕ → ℕ → Frame → List Event → Type 0
    FromRoot ts n k h es = (m : ℕ) × ((names : List ℕ) → OfRoots h.labels n m (operations_in v text names ts) (labels_from n k h [] es) (mentions_from n k h [] es))

    abbrev Outside : Trees ActionSpan → Type 0
    Outside ts = (n k : ℕ) (h : Frame) (es : List Event) → deeds_from k es ≡ deeds_in ts → FromRoot ts n k h es

    module _ (x y : ℕ) (is rest : Trees ActionSpan) where
      root_operation : (kind : ℕ) → Passes is → Outside rest → AreOf of_operation is → (n k : ℕ) (h : Frame) (es : List Event) → deeds_from k es ≡ deeds_in (begun_by x y is rest (Operation kind))
          → FromRoot (begun_by x y is rest (Operation kind)) n k h es
      root_operation kind inner onward o n k h es d =
          let first = pass_operation x y is rest kind inner o n k h [] es [] (d ∙ sym (append-nil (deeds_in (begun_by x y is rest (Operation kind))))) in
          let closed = first.6 in
          let last = onward (closed.events + 1) closed.tokens (outside (closed.events + 1)) closed.rest (closed.does ∙ append-nil (deeds_in rest)) in
          let after : List Site = labels_from (closed.events + 1) closed.tokens (outside (closed.events + 1)) [] closed.rest in
          let past : List Site = mentions_from (closed.events + 1) closed.tokens (outside (closed.events + 1)) [] closed.rest in (
            last.0,
            λ names. (
              first.0 + 1,
              closed.makes.0,
              closed.events + 1,
              closed.sites,
              after,
              closed.makes.2.0,
              past,
              first.4 ∙ closed.labels,
              subst (λ (ms : List Site). Alike ms (labels_at h.labels (successors_in is) ++ (closed.makes.2.0 ++ past))) (sym (first.5 ∙ closed.mentions))
                  (alike_behind closed.uses (labels_at h.labels (successors_in is)) closed.makes.2.0 past closed.makes.2.1),
              (let a = first.1 in omega arith),
              (let a = closed.makes.1 in omega arith),
              closed.makes.2.2,
              (closed.events + 1, last.1 []),
            ),
          )

      root_other : (a : Action) → is_plain a ≡ true → IsWholeStep (end_of a) (record { action = a; first = x; last = y }) is → AreWhole is → AreOf of_pieces is → Outside rest
          → (n k : ℕ) (h : Frame) (es : List Event) → deeds_from k es ≡ deeds_in (begun_by x y is rest a) → FromRoot (begun_by x y is rest a) n k h es
      root_other a plain w ws o onward n k h es d =
          let first = plain_tree a x y is rest plain (pieces_pass is ws o) (end_of a) refl w n k h [] es [] (d ∙ sym (append-nil (deeds_in (begun_by x y is rest a)))) in
          let made : labels_from n k h [] es ≡ labels_from first.events first.tokens h [] first.rest = first.labels ∙ ap (λ (ss : List Site). ss ++ labels_from first.events first.tokens h [] first.rest) first.makes.0 in
          let used : mentions_from n k h [] es ≡ mentions_from first.events first.tokens h [] first.rest =
          first.mentions ∙ ap (λ (ms : List Site). ms ++ mentions_from first.events first.tokens h [] first.rest) first.makes.1 in
          let last = onward first.events first.tokens h first.rest (first.does ∙ append-nil (deeds_in rest)) in (
            last.0,
            skip_operations (λ (os : Entities ℕ). OfRoots h.labels n last.0 os (labels_from n k h [] es) (mentions_from n k h [] es)) a x
                (λ named kind. an_entity (entity (head_of v text named is kind) (regions_in v text is)) (operations_in v text [] rest)) rest plain
                (λ names. roots_lower h.labels n first.events last.0 (operations_in v text names rest) (labels_from n k h [] es) (mentions_from n k h [] es) first.later
                (subst (λ (ss : List Site). OfRoots h.labels first.events last.0 (operations_in v text names rest) ss (mentions_from n k h [] es)) (sym made)
                (subst (λ (ms : List Site). OfRoots h.labels first.events last.0 (operations_in v text names rest) (labels_from first.events first.tokens h [] first.rest) ms) (sym used) (last.1 names)))),
          )

      root_passes : (a : Action) → IsWholeStep (end_of a) (record { action = a; first = x; last = y }) is → AreWhole is → Passes is → Outside rest → OnContent (inside of_block a) (λ d. AreOf d is)
          → (n k : ℕ) (h : Frame) (es : List Event) → deeds_from k es ≡ deeds_in (begun_by x y is rest a) → FromRoot (begun_by x y is rest a) n k h es
      root_passes (Operation kind) w ws inner onward o = root_operation kind inner onward o
      root_passes BeginRegion w ws inner onward o = absurd o
      root_passes EndOperation w ws inner onward o = absurd o
      root_passes EndRegion w ws inner onward o = absurd o
      root_passes Label w ws inner onward o = absurd o
      root_passes BeginSuccessor w ws inner onward o = absurd o
      root_passes a w ws inner onward o = root_other a refl w ws o onward

    all_outside : (ts : Trees ActionSpan) → AreWhole ts → AreOf of_block ts → Outside ts
    all_outside no_tree w o = λ n k h es d. (n, λ names. (omega arith, none_left es n k h [] d, none_mentioned es n k h [] d))
    all_outside (a_tree (node s is) rest) w o = root_passes s.first s.last is rest s.action w.0 w.1 (all_pass is w.1) (all_outside rest w.2 o.1) o.0

    -- The labels of a text are those of its tree, one after the other, and those that it mentions are the edges of its tree.
    pub labels_of_tree : (es : List Event) (forest : Trees ActionSpan) (tree : Entity ℕ) → Nests at_root [] es → IsForestOf es forest → operations_in v text [] forest ≡ an_entity tree no_entity
        → (m : ℕ) × OfOperations text 0 0 m (an_entity tree no_entity) (labels isolated es) (label_mentions isolated es)
    labels_of_tree es forest tree nests is e =
        let r = all_outside forest is.0 (forest_stands es forest nests is) 0 0 (outside 0) es is.1 in
        (r.0, one_root 0 0 r.0 tree (labels isolated es) (label_mentions isolated es) (subst (λ (ts : Entities ℕ). OfRoots 0 0 r.0 ts (labels isolated es) (label_mentions isolated es)) e (r.1 [])))
