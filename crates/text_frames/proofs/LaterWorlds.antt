-- What is made stays made in later worlds.
use Rattle.std.proofs.Common.{◌≡◌, ℕ, zero, suc, List, [], ◌∷◌, ◌++◌, Option, Some, None, slice_get, refl, ◌∙◌}
use Rattle.std.specs.Prelude.{Vec}
use Rattle.std.specs.Global.{Global}
use Rattle.ir_names.specs.Tree.{Trees}
use Rattle.ir_program.specs.declared.handles.Ptr.{Ptr}
use Rattle.ir_program.specs.declared.handles.Operation.{Operation}
use Rattle.ir_program.specs.declared.handles.BasicBlock.{BasicBlock}
use Rattle.ir_print.specs.Pieces.{Values, ValueTree, a_region, Entity, entity, Entities, no_entity, an_entity}
use Rattle.ir_print.specs.Shown.{Saying, Pairs, ShowsType}
use Rattle.text_dialect.specs.Seen.{Seen}
use Rattle.text_frames.specs.building.Later.{IsLater}
use Rattle.text_frames.specs.building.Made.{lists_of}
use Rattle.text_frames.proofs.BuildingLemmas.Later.{keeps_later, later_both}
use Rattle.text_frames.proofs.BuildingLemmas.ShownLater.{shows_later}
use Rattle.text_frames.specs.declared.opened.Body.{Body}
use Rattle.text_frames.specs.declared.opened.Body.TheVariants as body
use Rattle.text_frames.specs.declared.opened.Open.{Open}
use Rattle.ir_forest.specs.Building as building
use Rattle.ir_forest.specs.Forest.{ActionSpan}
use Rattle.ir_grammar.specs.Nesting.{Position, at_root, behind_root_results, at_end, in_operation, in_operands, in_successor, in_region, in_header, in_argument, in_block, behind_results, in_value, in_list, in_item, in_choice}
use Rattle.text_frames.specs.Worlds.{joined, NameTokens, PartialModule, AreAmong, LaterNames, LaterWorld, End, MayEndAs, IsMade, IsReady, AreReady, AreReadyRegions, IsOpenBlock}
use Rattle.ir_grammar.specs.declared.grammar.Action.{Action}
use Rattle.ir_scopes.specs.Naming.{defined_by, mentioned_by, labelled_by, label_mentioned_by}
use Rattle.ir_print.specs.declared.format.ValueSort.TheVariants as sorts
use Rattle.text_frames.specs.Raised.{names_after, listed_block, blocks_of_body, begun_at, RaisesRoot, IsHeader, IsOpened, RaisesBlock, Raises, IsRaised, RaisesAll}

-- ---- lists

pub pairs_weaker : {X Y : Type 0} (R S : X → Y → Type 0) → ((x : X) (y : Y) → R x y → S x y)
    → (xs : List X) (ys : List Y) → Pairs R xs ys → Pairs S xs ys
pairs_weaker R S f [] [] h = tt
pairs_weaker R S f (x ∷ xs) (y ∷ ys) h = (f x y h.0, pairs_weaker R S f xs ys h.1)
pairs_weaker R S f _ _ h = absurd h

-- what stands in the first part stands in both, and what stands in the second does so further on
pub get_left : {X : Type 0} (xs ys : List X) (i : ℕ) (x : X) → slice_get xs i ≡ Some x → slice_get (xs ++ ys) i ≡ Some x
get_left [] ys i x h = cc
get_left (y ∷ xs) ys zero x h = h
get_left (y ∷ xs) ys (suc i) x h = get_left xs ys i x h

pub get_right : {X : Type 0} (xs ys : List X) (i : ℕ) (x : X) → slice_get ys i ≡ Some x
    → (j : ℕ) × (slice_get (xs ++ ys) j ≡ Some x)
get_right [] ys i x h = (i, h)
get_right (y ∷ xs) ys i x h = let more = get_right xs ys i x h in (suc more.0, more.1)

pub among_same : (ks : List ℕ) → AreAmong ks ks
among_same ks i k h = (i, h)

pub among_both : (ks ms ns : List ℕ) → AreAmong ks ms → AreAmong ms ns → AreAmong ks ns
among_both ks ms ns f g i k h = let x = f i k h in g x.0 k x.1

-- ---- names

pub names_same : (m : NameTokens) → LaterNames m m
names_same m = record {
  definitions = λ i k h. h;
  mentions = among_same m.mentions;
  labels = λ i k h. h;
  edges = among_same m.edges;
}

pub names_both : (l m n : NameTokens) → LaterNames l m → LaterNames m n → LaterNames l n
names_both l m n f g = record {
  definitions = λ i k h. g.definitions i k (f.definitions i k h);
  mentions = among_both l.mentions m.mentions n.mentions f.mentions g.mentions;
  labels = λ i k h. g.labels i k (f.labels i k h);
  edges = among_both l.edges m.edges n.edges f.edges g.edges;
}

-- more of each sort behind them
pub names_longer : (m : NameTokens) (ds ms ls es : List ℕ) → LaterNames m (record {
  definitions = m.definitions ++ ds;
  mentions = m.mentions ++ ms;
  labels = m.labels ++ ls;
  edges = m.edges ++ es;
})
names_longer m ds ms ls es = record {
  definitions = λ i k h. get_left m.definitions ds i k h;
  mentions = λ i k h. (i, get_left m.mentions ms i k h);
  labels = λ i k h. get_left m.labels ls i k h;
  edges = λ i k h. (i, get_left m.edges es i k h);
}

-- what an action names comes behind them
pub names_later : (m : NameTokens) (a : Action) (k : ℕ) → LaterNames m (names_after m a k)
names_later m a k = names_longer m (defined_by a k) (mentioned_by a k) (labelled_by a k) (label_mentioned_by a k)

-- ---- contexts and worlds

module _ {K A T : Type 0} where
  pub later_same : (s : Seen K A T) → IsLater s s
  later_same s = keeps_later s s (record {
    operations = λ p o h. h;
    blocks = λ b v h. h;
    regions = λ r bs h. h;
    types
        = λ n key h. h;
  })

  pub world_same : (w : PartialModule K A T) → LaterWorld w w
  world_same w = record {
    ctx = later_same w.ctx;
    values = λ n x h. h;
    blocks = λ n b h. h;
    names = names_same w.names;
    pending = λ i x h. h;
  }

  pub world_both : (w v u : PartialModule K A T) → LaterWorld w v → LaterWorld v u → LaterWorld w u
  world_both w v u f g = record {
    ctx = later_both w.ctx v.ctx u.ctx f.ctx g.ctx;
    values = λ n x h. g.values n x (f.values n x h);
    blocks = λ n b h. g.blocks n b (f.blocks n b h);
    names = names_both w.names v.names u.names f.names g.names;
    pending = λ i x h. g.pending i x (f.pending i x h);
  }

  -- what a later world may become, an earlier one may
  pub reaches_before : (w v : PartialModule K A T) (e : End K A T) → LaterWorld w v → MayEndAs v e → MayEndAs w e
  reaches_before w v e l r = record {
    ctx = later_both w.ctx v.ctx e.ctx l.ctx r.ctx;
    values = λ n x h. r.values n x (l.values n x h);
    blocks = λ n b h. r.blocks n b (l.blocks n b h);
    definitions = λ n k h. r.definitions n k (l.names.definitions n k h);
    labels = λ n k h. r.labels n k (l.names.labels n k h);
    operands = λ i x h. r.operands i x (l.pending i x h);
    successors = λ i x h. r.successors i x (l.pending i x h);
  }

-- ---- blocks that are in no region yet

module _ {K A T : Type 0} where
  -- these blocks stay as they were
  abbrev pub KeepsEach : Seen K A T → Seen K A T → List (Ptr BasicBlock) → Type 0
  KeepsEach s t bs = (b : Ptr BasicBlock) (i : ℕ) → slice_get bs i ≡ Some b → t.block b ≡ s.block b

  pub keeps_same : (s : Seen K A T) (bs : List (Ptr BasicBlock)) → KeepsEach s s bs
  keeps_same s bs b i h = refl

  pub keeps_left : (s t : Seen K A T) (bs cs : List (Ptr BasicBlock)) → KeepsEach s t (bs ++ cs) → KeepsEach s t bs
  keeps_left s t bs cs h b i at = h b i (get_left bs cs i b at)

  pub keeps_right : (s t : Seen K A T) (bs cs : List (Ptr BasicBlock)) → KeepsEach s t (bs ++ cs) → KeepsEach s t cs
  keeps_right s t bs cs h b i at = let x = get_right bs cs i b at in h b x.0 x.1

  -- the same of the blocks in these frames
  abbrev pub KeepsBlocks : {D : Type 0} → Seen K A T → Seen K A T → List (Open D K A T) → Type 0
  KeepsBlocks s t [] = Unit {0}
  KeepsBlocks s t (f ∷ fs) = KeepsEach s t (blocks_of_body f.body) × KeepsBlocks s t fs

  pub all_keep_same : {D : Type 0} (s : Seen K A T) (fs : List (Open D K A T)) → KeepsBlocks s s fs
  all_keep_same s [] = tt
  all_keep_same s (f ∷ fs) = (keeps_same s (blocks_of_body f.body), all_keep_same s fs)

-- ---- what is made

module _ {K A T : Type 0} (says : Saying K A T) (w v : PartialModule K A T) (l : LaterWorld w v) where
  pub made_later : (p : Ptr Operation) (t : Entity ℕ) → IsMade says w p t → IsMade says v p t
  made_later p t h e r = h e (reaches_before w v e l r)

  pub ready_later : (p : Ptr BasicBlock) (t : Entity ℕ) → v.ctx.block p ≡ w.ctx.block p → IsReady says w p t
      → IsReady says v p t
  ready_later p t same h = record {
    view = h.view;
    at = same ∙ h.at;
    made = λ e reaches at. h.made e (reaches_before w v e l reaches) at;
  }

  pub are_ready_later : (bs : List (Ptr BasicBlock)) (ts : Entities ℕ) → KeepsEach w.ctx v.ctx bs
      → AreReady says w bs ts → AreReady says v bs ts
  are_ready_later [] no_entity keeps h = tt
  are_ready_later (b ∷ bs) (an_entity t ts) keeps h =
      (ready_later b t (keeps b zero refl) h.0, are_ready_later bs ts (λ c i at. keeps c (suc i) at) h.1)
  are_ready_later _ _ keeps h = absurd h

  pub ready_regions_later : (rs : List (Vec (Ptr BasicBlock) Global)) (ts : Entities ℕ)
      → KeepsEach w.ctx v.ctx (joined (lists_of rs))
      → AreReadyRegions says w rs ts → AreReadyRegions says v rs ts
  ready_regions_later [] no_entity keeps h = tt
  ready_regions_later (bs ∷ rs) (an_entity (entity a_region us) ts) keeps h = (
    are_ready_later bs.items us (keeps_left w.ctx v.ctx bs.items (joined (lists_of rs)) keeps) h.0,
    ready_regions_later rs ts (keeps_right w.ctx v.ctx bs.items (joined (lists_of rs)) keeps) h.1,
  )
  ready_regions_later _ _ keeps h = absurd h

  pub open_block_later : (p : Ptr BasicBlock) (named : ℕ) (label : List ℕ) (arguments : List (ℕ × ValueTree)) (ts : Entities ℕ)
      → v.ctx.block p ≡ w.ctx.block p
      → IsOpenBlock says w p named label arguments ts → IsOpenBlock says v p named label arguments ts
  open_block_later p named label arguments ts same h = record {
    view = h.view;
    at = same ∙ h.at;
    labelled = h.labelled;
    names = λ e r. h.names e (reaches_before w v e l r);
    defines = λ e r. h.defines e (reaches_before w v e l r);
    holds = λ e r. h.holds e (reaches_before w v e l r);
  }

-- ---- what is open

pub begun_behind : (p : Position) → begun_at p ≡ at_end → ⊥
begun_behind at_root h = cc
begun_behind behind_root_results h = cc
begun_behind at_end h = cc
begun_behind in_operation h = cc
begun_behind in_operands h = cc
begun_behind in_successor h = cc
begun_behind in_region h = cc
begun_behind in_header h = cc
begun_behind in_argument h = cc
begun_behind in_block h = cc
begun_behind behind_results h = cc
begun_behind (in_value sort) h = cc
begun_behind in_list h = cc
begun_behind in_item h = cc
begun_behind in_choice h = cc

module _ {K A T : Type 0} (says : Saying K A T) (values : Values) (text : ℕ → List ℕ) (w v : PartialModule K A T)
    (l : LaterWorld w v) where
  -- no root is there yet but behind the root operation
  pub root_later : (old new : Option (Ptr Operation)) (at : Position) (ts : Trees ActionSpan)
      → (at ≡ at_end → new ≡ old)
      → RaisesRoot says values text w old at ts → RaisesRoot says values text v new at ts
  root_later old new at_end ts keeps h = (h.0, h.1, keeps refl ∙ h.2, h.3, made_later says w v l h.0 h.1 h.4)
  root_later old new at_root ts keeps h = h
  root_later old new behind_root_results ts keeps h = h
  root_later old new in_operation ts keeps h = h
  root_later old new in_operands ts keeps h = h
  root_later old new in_successor ts keeps h = h
  root_later old new in_region ts keeps h = h
  root_later old new in_header ts keeps h = h
  root_later old new in_argument ts keeps h = h
  root_later old new in_block ts keeps h = h
  root_later old new behind_results ts keeps h = h
  root_later old new (in_value sort) ts keeps h = h
  root_later old new in_list ts keeps h = h
  root_later old new in_item ts keeps h = h
  root_later old new in_choice ts keeps h = h

module _ {D K A T : Type 0} (says : Saying K A T) (values : Values) (text : ℕ → List ℕ) (w v : PartialModule K A T)
    (l : LaterWorld w v) where
  pub header_later : (f : Open D K A T) (at : Position) (ts : Trees ActionSpan) → IsHeader says values text w f at ts
      → IsHeader says values text v f at ts
  header_later f at ts h = record {
    open_still = h.open_still;
    spelt = h.spelt;
    unnamed = h.unnamed;
    no_results = h.no_results;
    empty = h.empty;
    types = h.types;
    parts = h.parts;
    shown = pairs_weaker (ShowsType says w.ctx.types) (ShowsType says v.ctx.types)
        (λ ty t x. shows_later says w.ctx.types v.ctx.types l.ctx.types _ t x) h.types _ h.shown;
    arguments = h.arguments;
    typed_so = h.typed_so;
  }

  pub opened_later : (p : Ptr BasicBlock) (f : Open D K A T) (at : Position) (ts : Trees ActionSpan)
      → v.ctx.block p ≡ w.ctx.block p
      → IsOpened says values text w p f at ts → IsOpened says values text v p f at ts
  opened_later p f at ts same h = record {
    among = h.among;
    header = h.header;
    names = h.names;
    block = open_block_later says w v l p _ _ _ _ same h.block;
  }

  pub raises_later : (b : Body D K A T) (f : Open D K A T) (at : Position) (ts : Trees ActionSpan)
      → KeepsEach w.ctx v.ctx (blocks_of_body b) → Raises says values text w b f at ts
      → Raises says values text v b f at ts
  raises_later (body.Operands ks) f at ts keeps h = among_both ks.items w.names.mentions v.names.mentions h l.names.mentions
  raises_later (body.Successor ks) f at ts keeps h = (
    among_both ks.items w.names.mentions v.names.mentions h.0 l.names.mentions,
    among_both (f.first ∷ []) w.names.edges v.names.edges h.1 l.names.edges,
  )
  raises_later (body.Operation o) f at ts keeps h = record {
    operands = h.operands;
    mentioned = among_both o.operands.items w.names.mentions v.names.mentions h.mentioned l.names.mentions;
    labels = h.labels;
    labels_mentioned = among_both o.labels.items w.names.edges v.names.edges h.labels_mentioned l.names.edges;
    regions = ready_regions_later says w v l o.regions.items _ keeps h.regions;
  }
  raises_later (body.Region bs) f at ts keeps h = are_ready_later says w v l bs.items _ keeps h
  raises_later (body.Block b) f at ts keeps h = block_later b.block keeps h
    where
      block_later : (p : Option (Ptr BasicBlock)) → KeepsEach w.ctx v.ctx (listed_block p)
          → RaisesBlock says values text w p f at ts → RaisesBlock says values text v p f at ts
      block_later None keeps h = header_later f at ts h
      block_later (Some p) keeps h = opened_later p f at ts (keeps p zero refl) h
  raises_later body.Text f at ts keeps h = tt
  raises_later (body.«Type» n) f at ts keeps h = tt
  raises_later (body.Attribute n) f at ts keeps h = tt
  raises_later (body.List ms) f at ts keeps h = tt
  raises_later body.Item f at ts keeps h = tt
  raises_later (body.Choice n) f at ts keeps h = tt

  pub raised_later : (f : Open D K A T) (at : Position) (ts : Trees ActionSpan)
      → KeepsEach w.ctx v.ctx (blocks_of_body f.body) → IsRaised says values text w f at ts
      → IsRaised says values text v f at ts
  raised_later f at ts keeps h = record {
    made = raises_later f.body f at ts keeps h.made;
    numbered = pairs_weaker (λ n k. slice_get w.names.definitions n ≡ Some k) (λ n k. slice_get v.names.definitions n ≡ Some k)
        (λ n k e. l.names.definitions n k e) f.numbers.items _ h.numbered;
  }

  -- all that is open stays raised where its blocks stay as they were
  pub all_later : (old new : Option (Ptr Operation)) (f : Open D K A T) (at : Position) (ts : Trees ActionSpan)
      (gs : List (Open D K A T)) (os : List building.Open) (more : List Position)
      → (at ≡ at_end → new ≡ old)
      → KeepsBlocks w.ctx v.ctx (f ∷ gs) → RaisesAll says values text w old f at ts gs os more
      → RaisesAll says values text v new f at ts gs os more
  all_later old new f at ts [] [] [] keeps blocks h =
      (raised_later f at ts blocks.0 h.0, h.1, h.2, root_later says values text w v l old new at ts keeps h.3)
  all_later old new f at ts (g ∷ gs) (o ∷ os) (next ∷ more) keeps blocks h = (
    raised_later f at ts blocks.0 h.0,
    all_later old new g (begun_at next) o.before gs os more (λ e. absurd (begun_behind next e)) blocks.1 h.1,
  )
  all_later old new f at ts _ _ _ keeps blocks h = absurd h

  -- the same of what is around something, whatever has become of the root
  pub around_later : (old new : Option (Ptr Operation)) (g : Open D K A T) (next : Position) (ts : Trees ActionSpan)
      (gs : List (Open D K A T)) (os : List building.Open) (more : List Position)
      → KeepsBlocks w.ctx v.ctx (g ∷ gs) → RaisesAll says values text w old g (begun_at next) ts gs os more
      → RaisesAll says values text v new g (begun_at next) ts gs os more
  around_later old new g next ts gs os more blocks h = all_later old new g (begun_at next) ts gs os more
      (λ e. absurd (begun_behind next e)) blocks h
